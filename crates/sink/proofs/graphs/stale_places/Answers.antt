use Rattle.std.proofs.Common.{◌≡◌, ◌∙◌, ◌+◌, List, vec_len, length, ap, sym, subst, arith}
use Rattle.std.specs.Prelude.{slice_index_or}
use Rattle.mach_ir.specs.declared.mach.Instr.{Instr}
use Rattle.sink.specs.Graphs.{IsStalePlace}
use Rattle.sink.proofs.Popping.{taken_last, rest_begun, nodes_begun, rest_more, nodes_more, fewer}
use Rattle.sink.proofs.graphs.stale_places.Goals as goal

pub loop-place-init : goal.loop-place-init
loop-place-init c =
    let m = c.args.mach.now in
    let rows = c.args.live.now.before.rows.items in
    let old = c.into_vec-left.result in
    let count : vec_len old ≡ length old.items = omega (arith, old.ok.0) in
    let all = c.into_vec-left.ensures in
    let left : length c.pop-last.new.self.items ≡ length m.code =
    taken_last m rows c.args.flow c.requires.flow old.items c.pop-last.new.self.items c.pop-last.result (vec_len old) count all
    c.pop-last.ensures.items c.pop-last.ensures.variant in
    record {
      short = omega (arith, left);
      rest = rest_begun m rows c.args.flow c.requires.flow old.items c.pop-last.new.self.items c.pop-last.result all c.pop-last.ensures.items;
      nodes = nodes_begun m rows c.args.flow c.requires.flow (length c.pop-last.new.self.items) c.in_ok-entry_place.field-0 c.in_ok-nodes.nodes
          c.push.new.self left c.in_ok-entry_place.ensures c.in_ok-nodes.ensures c.in_ok-push.ensures;
    }

pub loop-place-preserved : goal.loop-place-preserved
loop-place-preserved c =
    let m = c.args.mach.now in
    let rows = c.args.live.now.before.rows.items in
    let items = c.loop-place.left.items in
    let rest = c.pop.new.self.items in
    let popped = c.in-Some.ensures.items in
    let now = c.pop.new.self in
    let count : vec_len now ≡ length now.items = omega (arith, now.ok.0) in
    let at : c.len-at.result ≡ length rest = c.len-at.ensures ∙ count in
    let i = c.index-code-at.result in
    let instr : i ≡ slice_index_or m.code (length rest) i =
    c.index-code-at.is ∙ ap (λ (xs : List Instr). slice_index_or xs c.len-at.result i) c.as_slice-code.ensures ∙ ap (λ k. slice_index_or m.code k i) at in
    let short = c.loop-place.invariant.short in
    record {
      short = fewer m rows c.args.flow c.requires.flow items rest c.in-Some.place popped short;
      rest = rest_more m rows c.args.flow c.requires.flow items rest c.in-Some.place popped c.loop-place.invariant.rest;
      nodes = nodes_more m rows c.args.flow c.requires.flow items rest c.in-Some.place c.in_ok-node.node i c.loop-place.nodes
          c.push-in-Some.new.self popped short instr c.loop-place.invariant.rest
          (subst (λ k. IsStalePlace rows (k + 1) i.op c.in-Some.place c.in_ok-node.node) at
          (subst (λ (i : Instr). IsStalePlace rows (c.len-at.result + 1) i.op c.in-Some.place c.in_ok-node.node) (sym c.index-code-at.is)
          c.in_ok-node.ensures))
          c.loop-place.invariant.nodes c.in_ok-push-2.ensures;
    }
