-- Two images of one file do the same, but for the addresses of functions and of code.
use Rattle.std.specs.Prelude.{ℕ, Option}
use Rattle.bs_words.specs.Observed.{Made}
use Rattle.bs_words.specs.declared.values.Obs.{Obs}
use Rattle.cmm_meaning.specs.Layout.{Layout}
use Rattle.cmm_meaning.specs.Run.{Run}
use Rattle.correctness.specs.Correct.{Alike, IsGiven}
use Rattle.layout_laws.specs.Shown.{AreShownAlike, AreGivenAlike, IsCallAlike, AreCallsAlike}
use Rattle.rv_machine.specs.Run.{Seen}
use Rattle.rv_machine.specs.Services.{End, Running, Returned, Raised, Asks}

-- Two machines both run, or have ended in one way, with what is alike. None is out of stack or heap, or stopped.
pub data AreEndsAlike (one two : Layout) : End → End → Type 0 where
  both_run : AreEndsAlike one two Running Running
  both_returned : {x y : Option Obs}
      → AreGivenAlike one two x y
      → AreEndsAlike one two (Returned x) (Returned y)
  both_raised : {x y : Obs}
      → AreShownAlike one two x y
      → AreEndsAlike one two (Raised x) (Raised y)
  both_ask : {x y : Made} → IsCallAlike one two x y → AreEndsAlike one two (Asks x) (Asks y)

-- Each machine comes to where the run of the text with its image has come. The calls that they have made are alike, and
-- so are their ends.
pub record ComeToTheSame (one two : Layout) (run other_run : Run) (machine other : ℕ → Seen) : Type 0 where
  pub steps : ℕ
  pub other_steps : ℕ
  pub as_text : Alike run (machine steps)
  pub other_as_text : Alike other_run (other other_steps)
  pub calls : AreCallsAlike one two (machine steps).calls (other other_steps).calls
  pub end : AreEndsAlike one two (machine steps).end (other other_steps).end

-- Wherever the run of the text is proper and its needs with both images fit, the machines do the same.
pub record AgreeOn (one two : Layout) (run other_run : ℕ → Run) (machine other : ℕ → Seen) (stack heap : ℕ) : Type 0 where
  pub does : (n : ℕ)
      → IsGiven (run n) stack heap
      → IsGiven (other_run n) stack heap
      → ComeToTheSame one two (run n) (other_run n) machine other
