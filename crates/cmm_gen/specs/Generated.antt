-- What a generated text is.
--
-- That a drawn text is read as its tree goes through the grammar's relation, form by form. That reading
-- gives the same follows from the law that a text has one reading.
use Rattle.std.specs.Prelude.{◌≡◌, ℕ, List, Some, length, slice_get}
use Rattle.cmm_tree.specs.Tree.{FunctionTree, FileTree, functions}
use Rattle.cmm_front.specs.FileOf.{IsFileOf}
use Rattle.cmm_meaning.specs.Layout.{Layout}
use Rattle.cmm_meaning.specs.Run.{IsProper, cmm_run}

-- no run of the file is improper: with any words, as many as the function that it enters has parameters, with
-- any answers to external calls, and with any fuel
abbrev pub RunsProperly : FileTree → Type 0
RunsProperly file =
    (layout : Layout) (entry : ℕ) (f : FunctionTree) (arguments answers : List ℕ) (n : ℕ)
    → slice_get (functions file) entry ≡ Some f
    → length arguments ≡ length f.params
    → IsProper (cmm_run file layout entry arguments answers n).outcome

-- The text is that of a file whose runs are proper.
pub record IsProperText (text : List ℕ) : Type 0 where
  pub file : FileTree
  pub of_text : IsFileOf text file
  pub proper : RunsProperly file
