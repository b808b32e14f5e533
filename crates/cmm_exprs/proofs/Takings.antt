-- Rules that take a token.
use Rattle.std.specs.Prelude.{Bool, true, false}
use Rattle.cmm_grammar.specs.Grammar.{a_binding, a_mutable_binding, a_case, case_number, next_handler, a_token}
use Rattle.cmm_parts.proofs.Lengths.{Takes}
use Rattle.cmm_exprs.specs.Results.{binding_rule}

pub takes-binding : (mutable : Bool) → Takes (binding_rule mutable)
unfolding a_binding a_mutable_binding a_token
takes-binding true = tt
takes-binding false = tt

pub takes-case : Takes a_case
unfolding a_case case_number a_token
takes-case = tt

pub takes-handler : Takes next_handler
unfolding next_handler
takes-handler = tt
