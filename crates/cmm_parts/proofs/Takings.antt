-- Rules that take a token.
use Rattle.cmm_grammar.specs.Grammar.{another_number, a_parameter, a_token}
use Rattle.cmm_parts.proofs.Lengths.{Takes}

pub takes-number : Takes another_number
unfolding another_number a_token
takes-number = tt

pub takes-parameter : Takes a_parameter
unfolding a_parameter a_token
takes-parameter = tt
