use Rattle.laid_parts.proofs.Decoded.{names_as, words_decode}
use Rattle.laid_parts.proofs.words_name_registers.Goals as goal

pub returns-clause-names : goal.returns-clause-names
returns-clause-names c = λ at to p form. names_as at to p form

pub returns-clause-decode : goal.returns-clause-decode
returns-clause-decode c = λ at to p form fits aligned below leads. words_decode at to p form fits aligned below leads
