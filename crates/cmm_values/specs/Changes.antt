-- What a change of the memory reports.
use Rattle.std.specs.Prelude.{◌≡◌, Result, Ok, Err}
use Rattle.bs_words.specs.Memory.{Memory, next_block}
use Rattle.bs_words.specs.declared.values.Kind.{Kind}
use Rattle.bs_words.specs.declared.values.Value.{Value}

-- a store leaves the memory that is due, or says why there is none and changes nothing
abbrev pub IsStored : {A : Type 0} → Result A Kind → Memory → Memory → Result Memory Kind → Type 0
IsStored (Ok _) old new due = due ≡ Ok new
IsStored (Err kind) old new due = (due ≡ Err kind) × (new ≡ old)

-- so does an allocation, which gives the pointer to the block
abbrev pub IsBlockAllocated : Result Value Kind → Memory → Memory → Result Memory Kind → Type 0
IsBlockAllocated (Ok pointer) old new due = (due ≡ Ok new) × (pointer ≡ next_block old)
IsBlockAllocated (Err kind) old new due = (due ≡ Err kind) × (new ≡ old)
