-- The machine that loses no addr at a frame point. Selection is proved of it: that it does what the
-- true machine does, where no addr is live after a frame point, is a fact of the code alone.
--
-- So operands, names and parameters need no case of their own.
use Rattle.std.specs.Prelude.{ℕ, List, [], ◌∷◌, Option, Some, None}
use Rattle.bs_words.specs.declared.values.Value.{Value}
use Rattle.mach_ir.specs.Acts.{Around}
use Rattle.mach_ir.specs.Runs.{ActivationSetting, Step, IsStuck, Tally, RunProgress, runs}
use Rattle.mach_ir.specs.Meaning.{State, File, values, mach_act, on_act}
use Rattle.mach_ir.specs.declared.mach.Instr.{Instr}
use Rattle.mach_ir.specs.declared.mach.Mach.{Mach}

abbrev pub on_lossless_values : ActivationSetting → Mach → Instr → List Instr → File → Around → Option (List Value) →
    Step State
on_lossless_values c m i next f a None = IsStuck
on_lossless_values c m i next f a (Some vs) = on_act c m i next f a (mach_act c.setting i.op vs a)

abbrev pub at_lossless_code : ActivationSetting → Mach → List Instr → File → Around → Step State
at_lossless_code c m [] f a = IsStuck
at_lossless_code c m (i ∷ next) f a = on_lossless_values c m i next f a (values f i.args)

abbrev pub lossless_step : ActivationSetting → Mach → State → Step State
lossless_step c m s = at_lossless_code c m s.rest s.file s.around

abbrev pub run_of_selected : ActivationSetting → Mach → ℕ → State → Tally → RunProgress State
run_of_selected c m = runs (lossless_step c m)
