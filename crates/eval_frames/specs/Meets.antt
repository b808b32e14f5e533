-- What tests make of a value, or of none.
use Rattle.std.specs.Prelude.{ℕ, Bool, true, false, Option, Some, None}
use Rattle.bs_words.specs.Fits.{fits}
use Rattle.bs_words.specs.declared.types.Ty.TheVariants as ty
use Rattle.bs_words.specs.declared.values.Value.{Value}
use Rattle.cmm_meaning.specs.State.{World, Here}
use Rattle.cmm_meaning.specs.Evaluation.{NotProper, Evaluation, Gives, Stops}
use Rattle.eval_frames.specs.declared.tests.Tests.{Tests}
use Rattle.eval_frames.specs.declared.tests.Verdict.{Verdict}
use Rattle.eval_frames.specs.declared.tests.Verdict.TheVariants as verdict

abbrev pub judged : Verdict → Option Value → Here → World → Evaluation
judged verdict.Kept v h w = Gives v h w
judged verdict.Dropped v h w = Gives None h w
judged (verdict.Improper kind) v h w = Stops (NotProper kind) w

-- a verdict, and then another on the value, or on none where it is dropped
abbrev pub verdict_after : Verdict → Verdict → Verdict → Verdict
verdict_after verdict.Kept of_value of_none = of_value
verdict_after verdict.Dropped of_value verdict.Kept = verdict.Dropped
verdict_after verdict.Dropped of_value verdict.Dropped = verdict.Dropped
verdict_after verdict.Dropped of_value (verdict.Improper kind) = verdict.Improper kind
verdict_after (verdict.Improper kind) of_value of_none = verdict.Improper kind

-- whether it fits int, and whether it fits val
abbrev pub verdict_where : Tests → Bool → Bool → Verdict
verdict_where t false false = t.neither
verdict_where t true false = t.int
verdict_where t false true = t.val
verdict_where t true true = t.both

abbrev pub verdict_on : Tests → ℕ → Option Value → Verdict
verdict_on t end None = t.absent
verdict_on t end (Some v) = verdict_where t (fits end ty.Int v) (fits end ty.Val v)

abbrev pub meets : ℕ → Tests → Option Value → Here → World → Evaluation
meets end t v h w = judged (verdict_on t end v) v h w
