-- How two runs of one text compare, each with its own layout: they do the same, and what they show is the same but for
-- the addresses of functions.
use Rattle.std.specs.Prelude.{◌≡◌, List, Option, Some, None}
use Rattle.std.specs.List.{AllZip}
use Rattle.bs_words.specs.Observed.{Made}
use Rattle.bs_words.specs.declared.values.Kind.{Kind}
use Rattle.bs_words.specs.declared.values.Obs.{Obs}
use Rattle.bs_words.specs.declared.values.Value.{Value}
use Rattle.cmm_meaning.specs.Layout.{Layout, observed}
use Rattle.cmm_meaning.specs.Run.{Outcome, Returned, Raised, Asks, More, Improper, Run}

-- Both show one value, each by its layout: the same word, the same block, or the addresses of one function.
pub record AreShownAlike (one two : Layout) (x y : Obs) : Type 0 where
  pub value : Value
  pub here : x ≡ observed one value
  pub there : y ≡ observed two value

-- Both show a value, and it is one, or neither does.
pub data AreGivenAlike (one two : Layout) : Option Obs → Option Obs → Type 0 where
  nothing : AreGivenAlike one two None None
  a_value : {x y : Obs} → AreShownAlike one two x y → AreGivenAlike one two (Some x) (Some y)

-- Two external calls have one name, and their arguments are shown alike, one by one.
pub record IsCallAlike (one two : Layout) (x y : Made) : Type 0 where
  pub name : x.name ≡ y.name
  pub shown : AllZip (AreShownAlike one two) x.shown y.shown

-- Two lists of external calls are as long, and alike one by one.
abbrev pub AreCallsAlike : Layout → Layout → List Made → List Made → Type 0
AreCallsAlike one two xs ys = AllZip (IsCallAlike one two) xs ys

-- Two runs end in one way, with what is alike.
pub data AreOutcomesAlike (one two : Layout) : Outcome → Outcome → Type 0 where
  return_alike : {x y : Option Obs}
      → AreGivenAlike one two x y
      → AreOutcomesAlike one two (Returned x) (Returned y)
  raise_alike : {x y : Obs}
      → AreShownAlike one two x y
      → AreOutcomesAlike one two (Raised x) (Raised y)
  ask_alike : {x y : Made} → IsCallAlike one two x y → AreOutcomesAlike one two (Asks x) (Asks y)
  both_more : AreOutcomesAlike one two More More
  both_improper : {kind : Kind} → AreOutcomesAlike one two (Improper kind) (Improper kind)

-- Two runs differ in nothing but the words shown for functions, and the stack that they need: nothing is said of that.
pub record AreRunsAlike (one two : Layout) (run other : Run) : Type 0 where
  pub outcome : AreOutcomesAlike one two run.outcome other.outcome
  pub calls : AreCallsAlike one two run.calls other.calls
  pub heap_need : run.heap_need ≡ other.heap_need
  pub left : run.left ≡ other.left
