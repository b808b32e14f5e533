-- The machine is before an ECALL that asks for an external call.
use Rattle.std.specs.Prelude.{◌≡◌, ℕ, zero, suc, ◌+◌, Bool, cond, List, [], ◌∷◌, ◌++◌, map, Option, Some, None, slice_get, slice_index, ◌⊎◌}
use Rattle.bs_words.specs.External.{External}
use Rattle.bs_words.specs.Memory.{Memory}
use Rattle.bs_words.specs.Observed.{Made}
use Rattle.bs_words.specs.declared.types.Ret.{Ret}
use Rattle.bs_words.specs.declared.types.Ret.TheVariants as ret
use Rattle.bs_words.specs.declared.values.Obs.{Obs}
use Rattle.bs_words.specs.declared.values.Obs.TheVariants as obs
use Rattle.bs_words.specs.declared.values.Value.{Value}
use Rattle.bs_words.specs.declared.values.Value.TheVariants.{Word, Block, Function}
use Rattle.cmm_meaning.specs.Run.{given_back}
use Rattle.cmm_meaning.specs.State.{Doing, Gave, Threw}
use Rattle.rv_emit_rules.specs.Calls.{external_service}
use Rattle.guarded_machine.specs.Guarded.{guarded_after}
use Rattle.image_form.specs.Tables.{Tables}
use Rattle.rv_isa.specs.declared.instr.Instr.TheVariants.{Ecall}
use Rattle.rv_isa.specs.Registers.{t0, t2}
use Rattle.rv_machine.specs.Services.{Machine, Going, call_made}
use Rattle.rv_machine.specs.Sound.{AllWords}
use Rattle.moving_laws.specs.Values.{function_at}
use Rattle.lin_machine.specs.Arrival.{Needs, Gone}
use Rattle.lin_machine.specs.View.{Fixed, View, HasView, IsInstructionAt}

-- ---- what answers say that the call did, and the answers that it leaves

pub record Taken : Type 0 where
  pub doing : Doing
  pub answers : List ℕ

abbrev pub taken_alone : Memory → Ret → List ℕ → Option Taken
taken_alone memory ret.Unit answers = Some (record { doing = Gave None memory; answers = answers })
taken_alone memory (ret.Comp t) [] = None
taken_alone memory (ret.Comp t) (x ∷ answers) =
    Some (record { doing = Gave (Some (Word x)) memory; answers = answers })

abbrev pub taken_moving : Memory → Ret → List ℕ → Option Taken
taken_moving memory result [] = None
taken_moving memory result (first ∷ []) = None
taken_moving memory result (zero ∷ x ∷ answers) =
    Some (record { doing = Gave (given_back result x) memory; answers = answers })
taken_moving memory result (suc n ∷ x ∷ answers) =
    Some (record { doing = Threw (Word x) memory; answers = answers })

-- a frame call takes two answers, and an external call that is none at most one
abbrev pub taken_of : Bool → Memory → Ret → List ℕ → Option Taken
taken_of frame memory result answers =
    cond frame (taken_moving memory result answers) (taken_alone memory result answers)

-- ---- the call

-- what is observed of an argument
abbrev pub observed_argument : Tables → Value → Obs
observed_argument image (Word w) = obs.Word w
observed_argument image (Block serial offset) = obs.Block serial
observed_argument image (Function f) = obs.Word (function_at image.funcs f)

-- the call as it is counted
abbrev pub counted_call : Fixed → External → List Value → Made
counted_call s row arguments = record { name = row.name; shown = map (observed_argument s.image) arguments }

-- the ECALL has run, with what it took from the answers
pub record GoesOn (s : Fixed) (a : Machine) (calls : List Made) (answers : List ℕ)
    (P : View → Type 0) : Type 0 where
  pub view : View
  pub machine : Machine
  pub stands : HasView s machine view
  pub answers_are : view.answers ≡ answers
  pub calls_are : view.calls ≡ calls
  pub by : (j k : ℕ) → j ≡ 1 + k →
      guarded_after s.schedule j (Going a) ≡ guarded_after s.schedule k (Going machine)
  pub holds : P view

-- The call's row and service are asked for, its arguments show what they are to, and after it the
-- machine stands for what the function makes of the answers; or the blocks have no room.
pub record IsAsking (s : Fixed) (needs : Needs) (row : External) (frame : Bool)
    (arguments : List Value) (memory : Memory) (Goes : Doing → View → Type 0) (w : View) : Type 0
  where
    pub ext : External
    pub there : slice_get s.image.extcs (slice_index w.registers t0) ≡ Some ext
    pub name : ext.name ≡ row.name
    pub params : ext.params ≡ row.params
    pub result : ext.result ≡ row.result
    pub code : IsInstructionAt s w.place Ecall
    pub service : slice_index w.registers t2 ≡ external_service frame
    pub made : (a : Machine) → HasView s a w → call_made ext a.hart ≡ counted_call s row arguments
    pub goes : (a : Machine) (t : Taken) → HasView s a w → AllWords w.answers →
        taken_of frame memory row.result w.answers ≡ Some t →
        GoesOn s a (w.calls ++ counted_call s row arguments ∷ []) t.answers (Goes t.doing)
        ⊎ Gone s needs w a
