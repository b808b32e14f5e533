use Rattle.std.proofs.Common.{◌+◌, ◌*◌}
use Rattle.cmm_gen.proofs.texts.+expression.Given as goal

-- a form is begun before its parts
abbrev pub decreases-write_expression : goal.decreases-write_expression
decreases-write_expression l = 3 * l.depth

abbrev pub decreases-write_two : goal.decreases-write_two
decreases-write_two l = 3 * l.depth + 1

abbrev pub decreases-write_choice : goal.decreases-write_choice
decreases-write_choice l = 3 * l.depth + 2

abbrev pub decreases-write_attempt : goal.decreases-write_attempt
decreases-write_attempt l = 3 * l.depth + 2
