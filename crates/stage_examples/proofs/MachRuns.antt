-- How the Mach functions end, each by evaluation of what Mach means.
use Rattle.std.proofs.Common.{◌≡◌, List, [], ◌∷◌, Some, refl}
use Rattle.bs_words.specs.Memory.{Memory}
use Rattle.bs_words.specs.Word.{signed_of, add_word, sub_word}
use Rattle.bs_words.specs.declared.values.Value.{Value}
use Rattle.bs_words.specs.declared.values.Value.TheVariants.{Word, Block}
use Rattle.cmm_meaning.specs.State.{Gave, Threw}
use Rattle.stage_examples.specs.Said.{EndsBy, IsWrong, no_memory, mach_run}
use Rattle.stage_examples.specs.Registers.{header, sum, guards_call, guards_raise, guards_bound, guards_frame_call, keeps_block, has_no_header, has_no_cells, other_header, address_over_call, address_after_call, hides_pointer, over_call_out, at_a1, at_s2, int, reads_unwritten, calls_last, chooses}

-- the block, whose cells hold 5
abbrev one_block : Memory
one_block = record no_memory { blocks = record { header = header; cells = Word 5 ∷ Word 5 ∷ [] } ∷ [] }

abbrev five : List Value
five = Word 5 ∷ []

-- each turn is a unit, the first one too
sum_of_three : mach_run sum (Word 3 ∷ []) [] 60 ≡ EndsBy (Gave (Some (Word 6)) no_memory) 0 4 32
unfolding signed_of add_word sub_word
sum_of_three = refl

sum_of_none : mach_run sum (Word 0 ∷ []) [] 60 ≡ EndsBy (Gave (Some (Word 0)) no_memory) 0 1 32
unfolding signed_of
sum_of_none = refl

-- a call is a unit, a try has 16 bytes
call_gives : mach_run guards_call five (Gave (Some (Word 8)) no_memory ∷ []) 20 ≡ EndsBy (Gave (Some (Word 8)) no_memory) 1 1 48
call_gives = refl

-- what it raises is none more
call_raises : mach_run guards_call five (Threw (Word 7) no_memory ∷ []) 20 ≡ EndsBy (Gave (Some (Word 7)) no_memory) 1 1 48
call_raises = refl

-- an even word that is no address of data is no val
call_raises_wrong : mach_run guards_call five (Threw (Word 8) no_memory ∷ []) 20 ≡ IsWrong
call_raises_wrong = refl

-- a raise of its own is a unit
raise_caught : mach_run guards_raise five [] 20 ≡ EndsBy (Gave (Some (Word 5)) no_memory) 0 1 48
raise_caught = refl

-- 3 is above 2, and not above 5
bound_holds : mach_run guards_bound (Word 2 ∷ []) [] 20 ≡ EndsBy (Gave (Some (Word 2)) no_memory) 0 0 48
bound_holds = refl

bound_fails : mach_run guards_bound five [] 20 ≡ EndsBy (Gave (Some (Word 0x10000000)) no_memory) 0 1 48
bound_fails = refl

-- a frame call is no unit, its raise is
frame_call_gives : mach_run guards_frame_call five (Gave (Some (Word 9)) no_memory ∷ []) 20 ≡ EndsBy (Gave (Some (Word 9)) no_memory) 1 0 48
frame_call_gives = refl

frame_call_raises : mach_run guards_frame_call five (Threw (Word 9) no_memory ∷ []) 20 ≡ EndsBy (Gave (Some (Word 9)) no_memory) 1 1 48
frame_call_raises = refl

-- ---- blocks

block_is_read : mach_run keeps_block five [] 20 ≡ EndsBy (Gave (Some (Word 5)) one_block) 0 0 32
block_is_read = refl

-- its cells may be read, and the function does not come back
no_header : mach_run has_no_header five [] 20 ≡ IsWrong
no_header = refl

no_cells : mach_run has_no_cells five [] 20 ≡ IsWrong
no_cells = refl

not_its_header : mach_run other_header five [] 20 ≡ IsWrong
not_its_header = refl

-- ---- what is lost

address_lost : mach_run address_over_call five (Gave (Some (Word 8)) one_block ∷ []) 20 ≡ IsWrong
address_lost = refl

address_made_later : mach_run address_after_call five (Gave (Some (Word 8)) one_block ∷ []) 20 ≡ EndsBy (Gave (Some (Word 5)) one_block) 1 1 32
unfolding add_word
address_made_later = refl

pointer_hidden : mach_run hides_pointer five [] 20 ≡ IsWrong
pointer_hidden = refl

-- an external call destroys a1, and keeps s2
a1_lost : mach_run (over_call_out at_a1) five (Gave (Some (Word 9)) no_memory ∷ []) 20 ≡ IsWrong
a1_lost = refl

s2_kept : mach_run (over_call_out at_s2) five (Gave (Some (Word 9)) no_memory ∷ []) 20 ≡ EndsBy (Gave (Some (Word 5)) no_memory) 1 0 32
s2_kept = refl

register_kept : mach_run (over_call_out (int 1)) five (Gave (Some (Word 9)) no_memory ∷ []) 20 ≡ EndsBy (Gave (Some (Word 5)) no_memory) 1 0 32
register_kept = refl

unwritten : mach_run reads_unwritten five [] 20 ≡ IsWrong
unwritten = refl

-- a pointer is no int
argument_unfit : mach_run reads_unwritten (Block 0 0 ∷ []) [] 20 ≡ IsWrong
argument_unfit = refl

-- ---- control

called_last : mach_run calls_last five (Gave (Some (Word 8)) no_memory ∷ []) 20 ≡ EndsBy (Gave (Some (Word 8)) no_memory) 1 1 32
called_last = refl

first_case : mach_run chooses (Word 2 ∷ []) [] 20 ≡ EndsBy (Gave (Some (Word 10)) no_memory) 0 0 32
first_case = refl

second_case : mach_run chooses (Word 1 ∷ []) [] 20 ≡ EndsBy (Gave (Some (Word 20)) no_memory) 0 0 32
second_case = refl

no_case : mach_run chooses (Word 3 ∷ []) [] 20 ≡ IsWrong
no_case = refl
