-- What some parts name, written out: a near slot and a far one, a call, an allocation, a branch, a bound
-- test.
use Rattle.std.proofs.Common.{◌≡◌, ℕ, true, false, List, [], ◌∷◌, ◌++◌, refl}
use Rattle.bs_words.specs.Word.{add_word, sext_word, word_of, signed_in}
use Rattle.bs_words.specs.declared.operators.CmpOp.TheVariants as compare
use Rattle.bs_words.specs.declared.types.Comp.TheVariants as comp
use Rattle.bs_words.specs.declared.types.Loc.TheVariants as loc
use Rattle.mach_ir.specs.declared.mach.Test.TheVariants as test
use Rattle.mach_ir.specs.declared.op.Callee.TheVariants as callee
use Rattle.mach_ir.specs.declared.op.Right.TheVariants as right
use Rattle.rv_isa.specs.declared.instr.Instr.TheVariants as instr
use Rattle.rv_isa.specs.declared.register.Register.TheVariants.{T1, A0}
use Rattle.rv_pieces.specs.declared.piece.Piece.{Piece}
use Rattle.rv_pieces.specs.declared.piece.Piece.TheVariants as piece
use Rattle.rv_emit_rules.specs.Slots.{move_pieces}
use Rattle.rv_emit_rules.specs.Calls.{call_words}
use Rattle.rv_emit_rules.specs.Constants.{constant_pieces}
use Rattle.rv_emit_rules.specs.Memory.{alloc_part}
use Rattle.rv_emit_rules.specs.Instructions.{addi, lui, calls_at}
use Rattle.rv_emit_rules.specs.Tests.{branch_part}
use Rattle.rv_emit_rules.specs.Traps.{raise_bound_error, check_part}
use Rattle.rv_layout_rules.specs.Words.{far_jump}
use Rattle.laid_parts.specs.Decoded.{NamesAs}
use Rattle.laid_parts.specs.Laid.{behind_branch, leave_at_end, comes_back}
use Rattle.laid_parts.specs.Named.{is_source, is_target}
use Rattle.laid_parts.specs.Stack.{at_first, is_loaded, is_stored}

-- with one trap pushed, slot 1 lies 24 bytes from sp
pub near_slot_is_read : is_loaded at_first 24 (move_pieces 1 (loc.Slot 1) (loc.Machine 10)) ≡ true
unfolding add_word sext_word word_of signed_in
near_slot_is_read = refl

pub near_slot_alone : is_loaded at_first 16 (move_pieces 1 (loc.Slot 1) (loc.Machine 10)) ≡ false
unfolding add_word sext_word word_of signed_in
near_slot_alone = refl

-- slot 1000 lies 8016 bytes from sp, so that its address is made in t2
pub far_slot_is_written : is_stored at_first 8016 (move_pieces 1 (loc.Machine 10) (loc.Slot 1000)) ≡ true
unfolding add_word sext_word word_of signed_in
far_slot_is_written = refl

pub far_slot_from_register : is_source 10 (move_pieces 1 (loc.Machine 10) (loc.Slot 1000)) ≡ true
far_slot_from_register = refl

-- a call by a register reads it
pub callee_is_read : is_source 18 (call_words 0 callee.Register (record { loc = loc.Machine 18; comp = comp.Val } ∷ [])) ≡ true
callee_is_read = refl

pub callee_in_slot_is_read : is_loaded at_first 8 (call_words 0 callee.Register (record { loc = loc.Slot 1; comp = comp.Val } ∷ [])) ≡ true
unfolding add_word sext_word word_of signed_in
callee_in_slot_is_read = refl

-- an allocation writes where the block is to be named, and nothing else
pub block_is_written : is_target 10
    (alloc_part 0 [] (record { header = 1024; cells = 1 } ∷ []) (record { loc = loc.Machine 10; comp = comp.Val } ∷ [])) ≡ true
unfolding constant_pieces
block_is_written = refl

pub block_alone : is_target 11
    (alloc_part 0 [] (record { header = 1024; cells = 1 } ∷ []) (record { loc = loc.Machine 10; comp = comp.Val } ∷ [])) ≡ false
unfolding constant_pieces
block_alone = refl

-- a branch reads both of its operands
pub branch_reads_second : is_source 11
    (branch_part 0 (test.Signed compare.Le right.Register) 7
    (record { loc = loc.Machine 10; comp = comp.Int } ∷ record { loc = loc.Machine 11; comp = comp.Int } ∷ [])) ≡ true
branch_reads_second = refl

-- after the branch of a bound test comes what raises, and nothing after that
abbrev pub bound_test : List Piece
bound_test = check_part 0 right.Register
    (record { loc = loc.Machine 10; comp = comp.Int } ∷ record { loc = loc.Machine 11; comp = comp.Int } ∷ [])

pub bound_test_leaves : leave_at_end (behind_branch bound_test) ≡ true
bound_test_leaves = refl

-- a write to which the branch leads
pub later_write_is_refused : leave_at_end (behind_branch (bound_test ++ addi A0 A0 1 ∷ [])) ≡ false
later_write_is_refused = refl

-- a jump out of the raising path
pub early_jump_is_refused : leave_at_end (piece.Jump 7 ∷ raise_bound_error) ≡ false
early_jump_is_refused = refl

-- an end that keeps a return address
pub call_at_end_is_refused : leave_at_end (lui A0 0x10000 ∷ calls_at T1 ∷ []) ≡ false
call_at_end_is_refused = refl

-- a call by jal leaves a return address, and a jump none
pub jal_comes_back : comes_back (piece.Known (instr.Jal 1 8)) ≡ true
jal_comes_back = refl

pub jal_goes_on : comes_back (piece.Known (instr.Jal 0 8)) ≡ false
jal_goes_on = refl

-- a tail call whose words went through a0 would not name as its piece does
pub other_way_is_refused : (name : List ℕ) → NamesAs (piece.TailCall name) (far_jump 0 10 0 8) → ⊥
other_way_is_refused name x = absurd (true_is_no_false (x.writes 10 refl))
  where
    true_is_no_false : true ≡ false → ⊥
    true_is_no_false e = cc
