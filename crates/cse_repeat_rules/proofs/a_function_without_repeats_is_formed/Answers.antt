use Rattle.cse_repeat_rules.proofs.Form.{form_kept}
use Rattle.cse_repeat_rules.proofs.a_function_without_repeats_is_formed.Goals as goal

pub returns : goal.returns
returns c = form_kept
