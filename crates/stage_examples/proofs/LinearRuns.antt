-- How the Linear functions end, each by evaluation of what Linear means.
use Rattle.std.proofs.Common.{◌≡◌, List, [], ◌∷◌, Some, refl}
use Rattle.bs_words.specs.Memory.{Memory}
use Rattle.bs_words.specs.Word.{signed_of, add_word, sub_word}
use Rattle.bs_words.specs.declared.types.Loc.TheVariants as loc
use Rattle.bs_words.specs.declared.values.Value.{Value}
use Rattle.bs_words.specs.declared.values.Value.TheVariants.{Word}
use Rattle.cmm_meaning.specs.State.{Gave, Threw}
use Rattle.stage_examples.specs.Said.{EndsBy, IsWrong, no_memory, lin_run}
use Rattle.stage_examples.specs.Registers.{header}
use Rattle.stage_examples.specs.Lines.{names_nothing, named_only_at, sum, keeps_block, keeps_word, hides_pointer, guards_call, guards_raise, reads_register}

abbrev one_block : Memory
one_block = record no_memory { blocks = record { header = header; cells = Word 5 ∷ Word 5 ∷ [] } ∷ [] }

abbrev five : List Value
five = Word 5 ∷ []

-- an exit is a unit, a jump is none
sum_of_three : lin_run names_nothing sum (Word 3 ∷ []) [] 60 ≡ EndsBy (Gave (Some (Word 6)) no_memory) 0 3 32
unfolding signed_of add_word sub_word
sum_of_three = refl

-- ---- poison

-- what the call's descriptor names is after it
named : lin_run (named_only_at 2 (loc.Slot 1)) keeps_block five (Gave (Some (Word 8)) one_block ∷ []) 20 ≡ EndsBy (Gave (Some (Word 5)) one_block) 1 1 32
named = refl

-- a pointer that it does not name is lost
unnamed : lin_run names_nothing keeps_block five (Gave (Some (Word 8)) one_block ∷ []) 20 ≡ IsWrong
unnamed = refl

-- it names nothing that holds no val
misnamed : lin_run (named_only_at 2 (loc.Slot 0)) keeps_block five (Gave (Some (Word 8)) one_block ∷ []) 20 ≡ IsWrong
misnamed = refl

-- a word is left, named or not; one that is no val is not named
word_stands : lin_run names_nothing keeps_word (Word 4 ∷ []) (Gave (Some (Word 8)) no_memory ∷ []) 20 ≡ EndsBy (Gave (Some (Word 4)) no_memory) 1 1 32
word_stands = refl

odd_word_named : lin_run (named_only_at 1 (loc.Slot 1)) keeps_word five (Gave (Some (Word 8)) no_memory ∷ []) 20 ≡ EndsBy (Gave (Some (Word 5)) no_memory) 1 1 32
odd_word_named = refl

even_word_named : lin_run (named_only_at 1 (loc.Slot 1)) keeps_word (Word 4 ∷ []) (Gave (Some (Word 8)) no_memory ∷ []) 20 ≡ IsWrong
even_word_named = refl

-- ---- types and traps

pointer_hidden : lin_run names_nothing hides_pointer five [] 20 ≡ IsWrong
pointer_hidden = refl

call_gives : lin_run names_nothing guards_call five (Gave (Some (Word 8)) no_memory ∷ []) 20 ≡ EndsBy (Gave (Some (Word 8)) no_memory) 1 1 48
call_gives = refl

call_raises : lin_run names_nothing guards_call five (Threw (Word 7) no_memory ∷ []) 20 ≡ EndsBy (Gave (Some (Word 7)) no_memory) 1 1 48
call_raises = refl

raise_caught : lin_run names_nothing guards_raise five [] 20 ≡ EndsBy (Gave (Some (Word 5)) no_memory) 0 1 48
raise_caught = refl

-- no register lives over the entry of a handler
register_lost : lin_run names_nothing reads_register five [] 20 ≡ IsWrong
register_lost = refl
