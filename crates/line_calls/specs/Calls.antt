-- What a step says of the calls that it makes, besides that the machine follows it.
use Rattle.std.specs.Prelude.{◌≡◌, ℕ, ◌+◌, ◌<◌, List, length}
use Rattle.std.specs.List.{AllByRecursion}
use Rattle.bs_words.specs.Memory.{Memory}
use Rattle.bs_words.specs.declared.values.Value.{Value}
use Rattle.bs_words.specs.declared.values.Value.TheVariants.{Word, Block, Function}
use Rattle.cmm_meaning.specs.State.{Asked, Callee, Doing, Inside, Outside}
use Rattle.image_form.specs.Tables.{Tables}
use Rattle.lin_ir.specs.Meaning.{State}
use Rattle.lin_ir.specs.declared.lin.Line.{Line}
use Rattle.mach_ir.specs.Runs.{Step, Continues, Pays, Deepens, Waits, FinishesBy, Finishes, FinishesRaising, IsStuck}
use Rattle.lin_machine.specs.Follows.{FollowsAsked, FollowsCall, FollowsStep}
use Rattle.lin_machine.specs.Relation.{Below, Laid}
use Rattle.lin_machine.specs.View.{Fixed, View}

-- a function that a value points to is in the table
abbrev pub IsInTable : Tables → Value → Type 0
IsInTable image (Word w) = Unit {0}
IsInTable image (Block serial offset) = Unit {0}
IsInTable image (Function f) = f < length image.funcs

-- where the function has so many bytes of the stack in use
module _ (n : ℕ) (s : Fixed) (laid : Laid) (live : List Line → Type 0) (entry : ℕ → ℕ)
    (c : Below) (v : View) (used : ℕ) where
  -- A callee is below all that its caller has in use. What is shown to the outside is known.
  abbrev pub IsCalled : (call : Asked) (go : Doing → Step State) (callee : Callee) →
      FollowsAsked n s laid live entry c v call go callee → Type 0
  IsCalled call go (Inside f) follows = follows.below.top + used ≡ c.top
  IsCalled call go (Outside row frame) follows =
      AllByRecursion (IsInTable s.image) call.arguments

  abbrev pub CallsSo : (x : Step State) → FollowsStep n s laid live entry c v x → Type 0
  CallsSo (Waits call go) follows = IsCalled call go call.callee follows
  CallsSo (Continues u) follows = Unit {0}
  CallsSo (Pays u) follows = Unit {0}
  CallsSo (Deepens bytes u) follows = Unit {0}
  CallsSo (FinishesBy call kept) follows = Unit {0}
  CallsSo (Finishes d) follows = Unit {0}
  CallsSo (FinishesRaising d) follows = Unit {0}
  CallsSo IsStuck follows = Unit {0}

  -- the machine follows a step, and its calls are so
  pub record FollowsSo (x : Step State) : Type 0 where
    pub follows : FollowsStep n s laid live entry c v x
    pub calls : CallsSo x follows

  -- a call of a function, as it is followed
  pub record CalledSo (f : ℕ) (arguments : List Value) (memory : Memory)
      (go : Doing → Step State) : Type 0 where
    pub call : FollowsCall n s laid live entry c v f arguments memory go
    pub top : call.below.top + used ≡ c.top
