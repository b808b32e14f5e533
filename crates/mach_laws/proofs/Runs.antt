-- What a run reports at each step, and that reports of two kinds are two.
use Rattle.std.proofs.Common.{ℕ, ◌<◌, arith, ◌≡◌}
use Rattle.mach_ir.specs.Runs.{Tally, Running, RunProgress, Asking, Wrong, Ended}
use Rattle.mach_ir.specs.Keeps.{RunsAlike, both_running, both_asking, both_ended}
use Rattle.mach_ir.specs.Known.{Asked, Doing}

pub none_below : {A : Type 0} (k : ℕ) → k < 0 → A
none_below k le = absurd (omega (arith, le))

pub running_same : {S : Type 0} (u v : S) (y z : Tally) → Running u y ≡ Running v z → u ≡ v
running_same u v y z e = cc

abbrev pub IsRun : {S : Type 0} → RunProgress S → RunProgress S → Type 0
IsRun a b = a ≡ b

pub asking_wrong : {S : Type 0} (call : Asked) (t : Tally) → IsRun {S = S} (Asking call t) Wrong → ⊥
asking_wrong call t e = cc

pub ended_wrong : {S : Type 0} (d : Doing) (t : Tally) → IsRun {S = S} (Ended d t) Wrong → ⊥
ended_wrong d t e = cc

pub running_wrong : {S : Type 0} (s : S) (t : Tally) → Running s t ≡ Wrong → ⊥
running_wrong s t e = cc

-- a run that reports what another does is nowhere stuck
pub alike_goes : {S T : Type 0} {Suit : S → T → Type 0} {a : RunProgress S} {b : RunProgress T} → RunsAlike Suit a b → b ≡ Wrong → ⊥
alike_goes (both_running {u = u} {t = t} e) q = running_wrong u t q
alike_goes (both_asking {call = call} {t = t}) q = asking_wrong call t q
alike_goes (both_ended {doing = d} {t = t}) q = ended_wrong d t q
