use Rattle.std.proofs.Common.{◌≡◌, length, map, reverse}
use Rattle.cmm_types.specs.Light.{is_immutable}
use Rattle.selection_rules.specs.Select.{scopes, reg_of}
use Rattle.selection_scope.specs.Scoping.{named_view}
use Rattle.selection_scope.proofs.scope.innermost.Given as goal

abbrev pub invariant-loop-last : goal.invariant-loop-last
invariant-loop-last l =
    record {
      reg : reg_of (map named_view (reverse l.rest)) l.name ≡ reg_of (map named_view (reverse l.fn.names)) l.name;
      mutable : is_immutable (scopes (map named_view (reverse l.rest))) l.name ≡ is_immutable (scopes (map named_view (reverse l.fn.names))) l.name;
    }

abbrev pub decreases-loop-last : goal.decreases-loop-last
decreases-loop-last l = length l.rest
