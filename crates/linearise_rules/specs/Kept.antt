-- What a Linear function does where nothing is lost at frame points, and what holds at them.
--
-- It speaks of no names of descriptors, so that what is shown of two functions by it needs none.
-- With names that are exact the meaning with poison does the same.
use Rattle.std.specs.Prelude.{◌≡◌, ◌≢◌, ℕ, ◌<◌, true, List, [], ◌∷◌, Option, Some, None}
use Rattle.bs_words.specs.Memory.{Memory}
use Rattle.bs_words.specs.declared.types.Comp.TheVariants as comp
use Rattle.bs_words.specs.declared.types.Loc.{Loc}
use Rattle.bs_words.specs.declared.values.Value.{Value}
use Rattle.lin_ir.specs.Known.{Doing}
use Rattle.mach_ir.specs.Acts.{Around}
use Rattle.mach_ir.specs.Runs.{ActivationSetting, Step, IsStuck, Tally, RunProgress, Running, Wrong, runs, first_tally}
use Rattle.mach_ir.specs.Meaning as mach
use Rattle.mach_ir.specs.Keeps as kept
use Rattle.mach_ir.specs.Keeps.{Ahead, Trails, RunsAlike}
use Rattle.mach_ir.specs.declared.mach.Mach.{Mach}
use Rattle.lin_ir.specs.Meaning.{Locations, State, values, holds_val, lin_act, on_act, passes_frame, linear_start}
use Rattle.lin_ir.specs.Walks.{LiveAcross}
use Rattle.lin_ir.specs.Keeps.{SuitRound}
use Rattle.lin_ir.specs.declared.lin.Line.{Line}
use Rattle.lin_ir.specs.declared.lin.Lin.{Lin}

-- ---- steps

abbrev pub on_lossless_line_values : ActivationSetting → Lin → Line → List Line → Locations → Around →
    Option (List Value) → Step State
on_lossless_line_values c m i next f a None = IsStuck
on_lossless_line_values c m i next f a (Some vs) = on_act c m i next f a (lin_act c.setting i.op vs a)

abbrev pub at_lossless_line : ActivationSetting → Lin → List Line → Locations → Around → Step State
at_lossless_line c m [] f a = IsStuck
at_lossless_line c m (i ∷ next) f a = on_lossless_line_values c m i next f a (values c.setting.end f i.args)

abbrev pub lossless_line_step : ActivationSetting → Lin → State → Step State
lossless_line_step c m s = at_lossless_line c m s.rest s.file s.around

abbrev pub run_of_lowered : ActivationSetting → Lin → ℕ → State → Tally → RunProgress State
run_of_lowered c m = runs (lossless_line_step c m)

-- ---- runs that are nowhere stuck

-- at a frame point each location that is live after it as val holds what fits val
pub record ValsHeld (c : ActivationSetting) (m : Lin) (s : State) : Type 0 where
  pub held : (i : Line) (next : List Line) → s.rest ≡ i ∷ next → passes_frame i.op ≡ true →
      (l : Loc) → LiveAcross m l comp.Val i next s.around.tries →
      holds_val c.setting.end (s.file l) ≡ true

-- A run of n steps from a state is nowhere stuck.
pub record Proper (c : ActivationSetting) (m : Lin) (n : ℕ) (s : State) (t : Tally) : Type 0 where
  pub goes : run_of_lowered c m n s t ≢ Wrong
  pub vals : (k : ℕ) → k < n → (u : State) (y : Tally) → run_of_lowered c m k s t ≡ Running u y →
      ValsHeld c m u

-- ---- the same

-- some number of steps of the function comes to such a run, and is nowhere stuck
pub record LosslessComes {S : Type 0} (Suit : S → State → Type 0) (r : RunProgress S) (c : ActivationSetting) (m : Lin)
    (s : State) (t : Tally) : Type 0 where
  pub steps : ℕ
  pub alike : RunsAlike Suit r (run_of_lowered c m steps s t)
  pub proper : Proper c m steps s t

-- The Linear function comes to a run that has allocated no less, and to one that has allocated no
-- more: so both allocate the same blocks.
pub record FollowsLossless (c : ActivationSetting) (p : Mach) (q : Lin) (s : mach.State) (u : State) (t : Tally)
    (n : ℕ) : Type 0 where
  pub no_less : LosslessComes (SuitRound Ahead) (mach.run_of_mach c p n s t) c q u t
  pub no_more : LosslessComes (SuitRound Trails) (mach.run_of_mach c p n s t) c q u t

-- the Linear function begins where the Mach function does, and follows it from there
pub record LoweringBegins (c : ActivationSetting) (p : Mach) (q : Lin) (arguments : List Value) (memory : Memory)
    (doings : List Doing) (s : mach.State) : Type 0 where
  pub state : State
  pub begins : linear_start c q arguments memory ≡ Some state
  pub follows : (n : ℕ) → kept.Proper c p n s (first_tally c doings) →
      FollowsLossless c p q s state (first_tally c doings) n

abbrev pub LoweringSimulation : Mach → Lin → Type 0
LoweringSimulation p q =
    (c : ActivationSetting) (arguments : List Value) (memory : Memory) (doings : List Doing)
    (s : mach.State) → mach.mach_start c p arguments memory ≡ Some s →
    LoweringBegins c p q arguments memory doings s
