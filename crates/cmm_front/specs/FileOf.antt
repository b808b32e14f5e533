-- The file of a text, or its fault.
--
-- The front is three calls in a row, each with its own faults. That a text has one file or one fault is
-- proved once, above them, from the laws of tokens and grammar.
use Rattle.std.specs.Prelude.{◌≡◌, ℕ, List, Ok, Err, None}
use Rattle.bs_fault.specs.declared.fault.Fault.{Fault}
use Rattle.bs_fault.specs.declared.fault.Fault.TheVariants.{AddrLive}
use Rattle.bs_fault.specs.declared.fault.FrontError.{FrontError}
use Rattle.bs_fault.specs.declared.fault.FrontError.TheVariants as error
use Rattle.cmm_data.specs.Faults.{data_fault_of}
use Rattle.cmm_tree.specs.Tree.{FileTree}
use Rattle.cmm_types.specs.Faults.{TypeFault}
use Rattle.bs_fault.specs.Order.{IsLeftmost}
use Rattle.walk_tables.specs.AddrLive.{IsLive, IsToldLive}
use Rattle.cmm_reader.specs.Text.{ReadsAs}

-- The text is that of the file: it is read as this file, which has no fault of types or symbols, and no
-- address that is used after a frame point that it was bound before.
pub record IsFileOf (text : List ℕ) (file : FileTree) : Type 0 where
  pub read : ReadsAs text (Ok file)
  pub typed : (told : Fault) → ¬ TypeFault file told
  pub settled : (bound point used : ℕ) → ¬ IsLive file bound point used

-- The fault that is reported of a text: what the reader reports of it; of a text that is read, the leftmost fault
-- of types or symbols; and of one without these, the first address that is used so.
pub data HasFault (text : List ℕ) : Fault → Type 0 where
  unread : (told : Fault) → ReadsAs text (Err told) → HasFault text told
  untyped : (file : FileTree) (told : Fault)
      → ReadsAs text (Ok file)
      → IsLeftmost (TypeFault file) told
      → HasFault text told
  unsettled : (file : FileTree) (bound point used : ℕ)
      → ReadsAs text (Ok file)
      → ((told : Fault) → ¬ TypeFault file told)
      → IsToldLive file bound point used
      → HasFault text (AddrLive bound point used)

-- an error reports the fault of the text, unless memory ran out
abbrev pub IsErrorOf : List ℕ → FrontError → Type 0
IsErrorOf text (error.Fault told) = HasFault text told
IsErrorOf text error.OutOfMemory = Unit {0}

-- the static data has a place
abbrev pub HasPlace : FileTree → Type 0
HasPlace file = data_fault_of file ≡ None
