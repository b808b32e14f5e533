-- A run that is stuck in its middle: the new order may be stuck before a store that the old one has done. So no state of the new
-- function has the memory of that state of the old one.
use Rattle.std.proofs.Common.{◌≡◌, ℕ, zero, suc, cond, List, [], ◌∷◌, Some, None, refl, ap}
use Rattle.bs_words.specs.Memory.{Memory, StaticList}
use Rattle.bs_words.specs.declared.types.Chunk.TheVariants as chunk
use Rattle.bs_words.specs.declared.types.Comp.TheVariants as comp
use Rattle.bs_words.specs.declared.types.Loc.TheVariants as loc
use Rattle.bs_words.specs.declared.operators.IntOp.TheVariants as operator
use Rattle.bs_words.specs.declared.values.Value.TheVariants as value
use Rattle.bs_words.specs.declared.values.Value.{Value}
use Rattle.cmm_meaning.specs.Setting.{Setting}
use Rattle.mach_ir.specs.Acts.{Around}
use Rattle.mach_ir.specs.Keeps.{RunsAlike, both_running}
use Rattle.mach_ir.specs.Runs.{ActivationSetting, Tally, RunProgress, Running, Wrong}
use Rattle.mach_ir.specs.declared.op.Right.TheVariants as right
use Rattle.mach_ir.specs.declared.op.Pure.TheVariants as pure
use Rattle.mach_ir.specs.declared.op.Access.TheVariants as access
use Rattle.mach_ir.specs.declared.op.Op.TheVariants as op
use Rattle.lin_ir.specs.Meaning.{Locations, State, same_loc}
use Rattle.lin_ir.specs.declared.lin.LinOp.TheVariants as lin
use Rattle.lin_ir.specs.declared.lin.Line.{Line}
use Rattle.lin_ir.specs.declared.lin.Lin.{Lin}
use Rattle.lin_ir.specs.declared.lin.Spot.{Spot}
use Rattle.linearise_rules.specs.Kept.{run_of_lowered}
use Rattle.lin_tidy_rules.specs.Keeps.{SameRound}
use Rattle.schedule_rules.specs.Orders.{Both, does_line, scheduled_run}

abbrev pub int : ℕ → Spot
int n = record { loc = loc.Machine n; comp = comp.Int }

abbrev pub store : Line
store = record { op = lin.Op (op.Access (access.Store chunk.Int 0)); args = int 10 ∷ int 11 ∷ []; results = [] }

abbrev pub divide : Line
divide = record { op = lin.Op (op.Pure (pure.Operator operator.Div right.Register)); args = int 11 ∷ int 12 ∷ []; results = int 13 ∷ [] }

-- the division is higher, so it comes first
pub order : scheduled_run (store ∷ divide ∷ []) ≡ divide ∷ store ∷ []
order = refl

abbrev pub memory : ℕ → Memory
memory w = record { blocks = []; statics = record { start = 0x10001000; size = 8; cells = value.Word w ∷ [] } ∷ []; roots = [] }

abbrev pub around : ℕ → Around
around w = record { memory = memory w; unwritten = []; tries = []; raised = None }

abbrev pub file : Locations
file = λ l. cond (same_loc (loc.Machine 10) l) (Some (value.Word 0x10001000)) (cond (same_loc (loc.Machine 11) l) (Some (value.Word 1)) (Some (value.Word 0)))

abbrev pub here : Both
here = record { file = file; around = around 0 }

pub old_stores : (c : Setting) → does_line c store here ≡ Some (record { file = file; around = around 1 })
old_stores c = refl

pub new_stuck : (c : Setting) → does_line c divide here ≡ None
new_stuck c = refl

-- ---- as functions

abbrev pub with_lines : Lin → List Line → Lin
with_lines m code = record m { code = code }

abbrev pub begin : List Line → State
begin code = record { rest = code; file = file; around = around 0 }

abbrev word_at : List Value → ℕ
word_at [] = 2
word_at (value.Word w ∷ vs) = w
word_at (value.Block s o ∷ vs) = 2
word_at (value.Function f ∷ vs) = 2

abbrev first_word : List StaticList → ℕ
first_word [] = 2
first_word (s ∷ ss) = word_at s.cells

both_same : {s u : State} {t z : Tally} → RunsAlike SameRound (Running s t) (Running u z) → SameRound s u
both_same (both_running same) = same

module _ (c : ActivationSetting) (m : Lin) (t : Tally) where
  abbrev old_lines : List Line
  old_lines = store ∷ divide ∷ []

  abbrev new_lines : List Line
  new_lines = divide ∷ store ∷ []

  pub old_goes : run_of_lowered c (with_lines m old_lines) 1 (begin old_lines) t ≡ Running (record { rest = divide ∷ []; file = file; around = around 1 }) t
  old_goes = refl

  wrong : (n : ℕ) → run_of_lowered c (with_lines m new_lines) (suc n) (begin new_lines) t ≡ Wrong
  wrong n = refl

  one_zero : around 1 ≡ around 0 → ⊥
  one_zero e = no (ap (λ (a : Around). first_word a.memory.statics) e)
    where
      no : suc zero ≡ zero → ⊥
      no e = cc

  -- No number of steps of the new function comes to what the old one comes to in one step.
  pub none_alike : (n : ℕ) → RunsAlike SameRound (run_of_lowered c (with_lines m old_lines) 1 (begin old_lines) t) (run_of_lowered c (with_lines m new_lines) n (begin new_lines) t) → ⊥
  none_alike zero a = one_zero (both_same a)
  none_alike (suc n) a = by (Running (record { rest = divide ∷ []; file = file; around = around 1 }) t) a
    where
      by : (r : RunProgress State) → RunsAlike SameRound r Wrong → ⊥
      by r a = elim a [ ]
