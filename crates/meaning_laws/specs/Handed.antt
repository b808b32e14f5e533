-- What is handed in for the calls of a function that is evaluated alone, where it is what calls do in the run of a whole
-- file.
--
-- What is linked is a chain of calls, from which this list is read off: callees that came back, and at most
-- one that did not. External calls are asked in order with them.
use Rattle.std.specs.Prelude.{◌≡◌, Bool, true, List, [], ◌∷◌, ◌++◌, Option, Some, slice_get, ℕ}
use Rattle.bs_words.specs.External.{External}
use Rattle.bs_words.specs.Fits.{fits}
use Rattle.bs_words.specs.Memory.{Memory}
use Rattle.bs_words.specs.declared.types.Ty.TheVariants as ty
use Rattle.bs_words.specs.declared.values.Value.{Value}
use Rattle.cmm_data.specs.Placement.{data_end}
use Rattle.cmm_tree.specs.Tree.{FunctionTree, FileTree, functions, comps_of}
use Rattle.cmm_types.specs.Types.{body_type, result_of}
use Rattle.cmm_meaning.specs.Extends.{Extends}
use Rattle.cmm_meaning.specs.State.{Doing, Gave, Threw, Called, Asked, asked_inside, asked_outside}
use Rattle.cmm_meaning.specs.Evaluation.{Evaluation, fit_parameters}
use Rattle.meaning_laws.specs.Fitting.{Activation, FitsResult, IsAnswer, GivesFit, RaisedFits}
use Rattle.meaning_laws.specs.Units.{world_of}

-- A function of the file, whose parameters these arguments fit.
pub record FoundCallee (file : FileTree) (f : ℕ) (arguments : List Value) : Type 0 where
  pub tree : FunctionTree
  pub is : slice_get (functions file) f ≡ Some tree
  pub fit : fit_parameters (data_end file) (comps_of tree) arguments ≡ true

-- What a call did: a function gave what fits its result or raised what fits val, and left a memory that extends the one
-- before the call; an external call gave an answer, or, as a frame call, raised what fits val, and left the memory as it
-- was.
pub data IsHanded (file : FileTree) : Asked → Doing → Type 0 where
  function_gave : {call : Called} {before memory : Memory} {v : Option Value} (callee : FoundCallee file call.function call.arguments) →
      FitsResult (data_end file) (result_of (body_type callee.tree)) v → Extends before memory →
      IsHanded file (asked_inside call before) (Gave v memory)
  function_threw : {call : Called} {before memory : Memory} {v : Value}
      → fits (data_end file) ty.Val v ≡ true
      → Extends before memory
      → IsHanded file (asked_inside call before) (Threw v memory)
  outside_gave : {row : External} {frame : Bool} {arguments : List Value} {memory : Memory} {v : Option Value}
      → IsAnswer row.result v
      → IsHanded file (asked_outside row frame arguments memory) (Gave v memory)
  outside_threw : {row : External} {arguments : List Value} {memory : Memory} {v : Value}
      → fits (data_end file) ty.Val v ≡ true
      → IsHanded file (asked_outside row true arguments memory) (Threw v memory)

-- so it is for each of these calls, in order; more may be handed in
pub data AreHanded (file : FileTree) : List Asked → List Doing → Type 0 where
  none : {doings : List Doing} → AreHanded file [] doings
  more : {call : Asked} {d : Doing} {calls : List Asked} {doings : List Doing}
      → IsHanded file call d
      → AreHanded file calls doings
      → AreHanded file (call ∷ calls) (d ∷ doings)

-- so it is for the calls that a function alone asked since it had asked those
pub record AreHandedSince (file : FileTree) (asked : List Asked) (doings : List Doing) (run : Evaluation) : Type 0 where
  pub calls : List Asked
  pub is : (world_of run).asked ≡ asked ++ calls
  pub handed : AreHanded file calls doings

-- How a function ends that begins in a memory: its memory extends that, what it gives fits its result, and what it raises
-- fits val.
pub record EndsLawful (a : Activation) (before : Memory) (run : Evaluation) : Type 0 where
  pub memory : Extends before (world_of run).memory
  pub given : GivesFit a.setting.end a.result run
  pub raised : RaisedFits a.setting.end run
