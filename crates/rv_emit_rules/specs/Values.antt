-- What instructions that read and write one register leave in it, as the rows of RV64I have it
-- (RISC-V Unprivileged ISA manual, "RV64I"): an immediate is extended by its sign, x0 reads 0.
use Rattle.std.specs.Prelude.{ℕ, ◌*◌, cond, nat_eq, List, [], ◌∷◌}
use Rattle.bs_words.specs.Word.{add_word, shl_word, sext_word}
use Rattle.rv_isa.specs.declared.instr.AluImmOp.TheVariants as imm
use Rattle.rv_isa.specs.declared.instr.Instr.{Instr}
use Rattle.rv_isa.specs.declared.instr.Instr.TheVariants as instr
use Rattle.rv_isa.specs.declared.instr.ShiftOp.TheVariants as shifts
use Rattle.rv_isa.specs.declared.register.Register.{Register}
use Rattle.rv_isa.specs.declared.register.Register.TheVariants.{Zero}
use Rattle.rv_pieces.specs.declared.piece.Piece.{Piece}
use Rattle.rv_pieces.specs.declared.piece.Piece.TheVariants as piece
use Rattle.rv_emit_rules.specs.Instructions.{addi, addiw, lui, shift_piece}

-- what an instruction leaves in its register, which has this value before
abbrev pub value_left : Instr → ℕ → ℕ
value_left (instr.OpImm imm.Addi rd rs w) v = add_word (cond (nat_eq rs 0) 0 v) (sext_word w 12)
value_left (instr.Addiw rd rs w) v = sext_word (add_word v (sext_word w 12)) 32
value_left (instr.Lui rd upper) v = sext_word (4096 * upper) 32
value_left (instr.Shift shifts.Slli rd rs amount) v = shl_word v amount
value_left _ v = v

abbrev pub piece_value : Piece → ℕ → ℕ
piece_value (piece.Known j) v = value_left j v
piece_value _ v = v

-- what some leave, one after the other
abbrev pub value_after : List Piece → ℕ → ℕ
value_after [] v = v
value_after (p ∷ ps) v = value_after ps (piece_value p v)

-- the instructions that make a constant: they read no other register than the one they write, or x0
pub data Makes (r : Register) : Piece → Type 0 where
  makes_first : (w : ℕ) → Makes r (addi r Zero w)
  makes_upper : (w : ℕ) → Makes r (lui r w)
  makes_lower : (w : ℕ) → Makes r (addiw r r w)
  makes_sum : (w : ℕ) → Makes r (addi r r w)
  makes_shift : (amount : ℕ) → Makes r (shift_piece shifts.Slli r r amount)
