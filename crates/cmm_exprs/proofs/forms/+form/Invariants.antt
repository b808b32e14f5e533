use Rattle.std.proofs.Common.{◌+◌, ◌*◌}
use Rattle.cmm_exprs.proofs.forms.+form.Given as goal

abbrev pub decreases-form_at : goal.decreases-form_at
decreases-form_at l = 8 * l.depth

abbrev pub decreases-forms : goal.decreases-forms
decreases-forms l = 8 * l.below + 1
