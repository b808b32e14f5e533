-- A machine that does what a function does.
use Rattle.std.specs.Prelude.{◌≡◌, ⊤, ℕ, Bool, true, List, Option}
use Rattle.bs_words.specs.External.{External}
use Rattle.bs_words.specs.Fits.{fits}
use Rattle.bs_words.specs.Memory.{Memory}
use Rattle.bs_words.specs.declared.types.Ret.{Ret}
use Rattle.bs_words.specs.declared.types.Ty.TheVariants as ty
use Rattle.bs_words.specs.declared.values.Kind.{Kind}
use Rattle.bs_words.specs.declared.values.Value.{Value}
use Rattle.cmm_tree.specs.Tree.{LabelTree}
use Rattle.cmm_meaning.specs.State.{Doing, Gave, Threw, Called, asked_inside, asked_outside, Here}
use Rattle.cmm_meaning.specs.Setting.{Setting}
use Rattle.meaning_laws.specs.Does.{Giving, Exiting, Raising, Does, Ends, Pays, Deepens, Jumps, Calls, CallsOut, Fails, Spent}
use Rattle.mach_ir.specs.Runs.{ActivationSetting, Step, Continues, Waits, FinishesBy, Finishes, FinishesRaising, IsStuck, kept_of}
use Rattle.mach_ir.specs.Runs as runs
use Rattle.mach_ir.specs.Meaning.{State}
use Rattle.mach_ir.specs.declared.mach.Mach.{Mach}
use Rattle.selection_rules.specs.Bounded.{BoundedState}
use Rattle.selection_rules.specs.Kept.{lossless_step}

-- what the text knows of the file
abbrev pub text_setting : ActivationSetting → Setting
text_setting c = c.setting

-- what a callee raises fits val
abbrev pub RaisesVal : ActivationSetting → Doing → Type 0
RaisesVal c (Gave v memory) = ⊤
RaisesVal c (Threw v memory) = fits c.setting.end ty.Val v ≡ true

-- The machine, from this step on, does what is said, as long as that is not improper and each number
-- is a word. A machine that halts follows what is improper before it pays a unit.
pub data FollowsText (c : ActivationSetting) (m : Mach) : Does → Step State → Type 0 where
  walks : {d : Does} {s : State} → FollowsText c m d (lossless_step c m s) → FollowsText c m d (Continues s)
  -- at a unit the state has the memory of the text, so no block that the text has not
  pays : {memory : Memory} {rest : Does} {s : State} → s.around.memory ≡ memory →
      FollowsText c m rest (Continues s) → FollowsText c m (Pays memory rest) (Continues s)
  gives : {v : Option Value} {h : Here} {memory : Memory} →
      FollowsText c m (Ends (Giving v h memory)) (Finishes (Gave v memory))
  raises : {v : Value} {h : Here} {memory : Memory} →
      FollowsText c m (Ends (Raising v h memory)) (Finishes (Threw v memory))
  jumps : {rest : Does} {s : State}
      → FollowsText c m rest (Continues s)
      → FollowsText c m (Jumps rest) (runs.Pays s)
  raises_out : {rest : Does} {d : Doing}
      → FollowsText c m rest (Finishes d)
      → FollowsText c m (Jumps rest) (FinishesRaising d)
  -- what is improper after a jump is so before it
  jumps_wrong : {rest : Does} {s : Step State} → FollowsText c m rest IsStuck → FollowsText c m (Jumps rest) s
  deepens : {bytes : ℕ} {rest : Does} {s : State} → FollowsText c m rest (Continues s) →
      FollowsText c m (Deepens bytes rest) (runs.Deepens bytes s)
  calls : {call : Called} {memory : Memory} {go : Doing → Does} {next : Doing → Step State} →
      ((d : Doing) → RaisesVal c d → FollowsText c m (go d) (next d)) →
      FollowsText c m (Calls call memory go) (Waits (asked_inside call memory) next)
  -- a call that takes the function's place
  replaces : {call : Called} {memory : Memory} {go : Doing → Does} {kept : Ret} →
      ((d : Doing) → RaisesVal c d → FollowsText c m (go d) (Finishes (kept_of kept d))) →
      FollowsText c m (Calls call memory go) (FinishesBy (asked_inside call memory) kept)
  -- an external call leaves the memory as it was, and raises only where it is a frame call
  calls_out : {row : External} {frame : Bool} {arguments : List Value} {memory : Memory}
      {go : Doing → Does} {next : Doing → Step State} →
      ((v : Option Value) (after : Memory) →
      FollowsText c m (go (Gave v memory)) (next (Gave v after))) →
      (frame ≡ true → (v : Value) (after : Memory) → fits c.setting.end ty.Val v ≡ true →
      FollowsText c m (Jumps (go (Threw v memory))) (next (Threw v after))) →
      FollowsText c m (CallsOut row frame arguments memory go)
      (Waits (asked_outside row frame arguments memory) next)
  -- no exit leaves a function of an accepted text
  exits : {label : LabelTree} {values : List Value} {h : Here} {memory : Memory} {s : Step State} →
      FollowsText c m (Ends (Exiting label values h memory)) s
  fails : {memory : Memory} {kind : Kind} {s : Step State} → FollowsText c m (Fails memory kind) s
  spent : {memory : Memory} {s : State} → s.around.memory ≡ memory →
      FollowsText c m (Spent memory) (Continues s)
  -- no state of a run holds a number that is no word
  no_words : {d : Does} {s : State} → (BoundedState s → ⊥) → FollowsText c m d (Continues s)
