-- The words of the stack that pieces name: by loads and stores whose address is sp and a constant.
--
-- A part is compared at every word of the stack, not at slots alone: by its bytes from sp as it was before
-- the part, with sums followed through every register.
use Rattle.std.specs.Prelude.{ℕ, ◌*◌, Bool, false, cond, nat_eq, not, ◌||◌, ◌&&◌, List, [], ◌∷◌}
use Rattle.bs_words.specs.Word.{add_word, sub_word, shl_word, sext_word}
use Rattle.rv_isa.specs.Registers.{sp}
use Rattle.rv_isa.specs.declared.instr.AluImmOp.TheVariants as imm
use Rattle.rv_isa.specs.declared.instr.AluOp.TheVariants as alu
use Rattle.rv_isa.specs.declared.instr.ShiftOp.TheVariants as shifts
use Rattle.rv_isa.specs.declared.instr.Instr.{Instr}
use Rattle.rv_isa.specs.declared.instr.Instr.TheVariants as instr
use Rattle.rv_pieces.specs.declared.piece.Piece.{Piece}
use Rattle.rv_pieces.specs.declared.piece.Piece.TheVariants as piece
use Rattle.linearise_rules.specs.Lowered.{is_among_numbers}
use Rattle.laid_parts.specs.Named.{piece_targets}

-- ---- what is known of a register

pub data KnownWord : Type 0 where
  Unknown : KnownWord
  -- a constant
  Is : (w : ℕ) → KnownWord
  -- so many bytes above where sp pointed before the part, a word that wraps
  FromSp : (w : ℕ) → KnownWord

abbrev pub RegisterForms : Type 0
RegisterForms = ℕ → KnownWord

abbrev pub plus : KnownWord → KnownWord → KnownWord
plus (Is a) (Is b) = Is (add_word a b)
plus (FromSp a) (Is b) = FromSp (add_word a b)
plus (Is a) (FromSp b) = FromSp (add_word a b)
plus _ _ = Unknown

abbrev pub form_difference : KnownWord → KnownWord → KnownWord
form_difference (Is a) (Is b) = Is (sub_word a b)
form_difference (FromSp a) (Is b) = FromSp (sub_word a b)
form_difference _ _ = Unknown

abbrev pub changed : (ℕ → ℕ) → KnownWord → KnownWord
changed f (Is w) = Is (f w)
changed f _ = Unknown

-- what an instruction makes in its target
abbrev pub made_in_target : RegisterForms → Instr → KnownWord
made_in_target h (instr.Lui rd upper) = Is (sext_word (4096 * upper) 32)
made_in_target h (instr.OpImm imm.Addi rd rs w) = plus (h rs) (Is (sext_word w 12))
made_in_target h (instr.Op alu.Add rd a b) = plus (h a) (h b)
made_in_target h (instr.Op alu.Sub rd a b) = form_difference (h a) (h b)
made_in_target h (instr.Addiw rd rs w) = changed (λ v. sext_word (add_word v (sext_word w 12)) 32) (h rs)
made_in_target h (instr.Shift shifts.Slli rd rs amount) = changed (λ v. shl_word v amount) (h rs)
made_in_target h _ = Unknown

abbrev pub piece_made : RegisterForms → Piece → KnownWord
piece_made h (piece.Known j) = made_in_target h j
piece_made h _ = Unknown

-- x0 stays 0
abbrev pub held_after : RegisterForms → Piece → RegisterForms
held_after h p = λ r. cond (nat_eq r 0) (h r) (cond (is_among_numbers r (piece_targets p)) (piece_made h p) (h r))

-- before a part
abbrev pub at_first : RegisterForms
at_first = λ r. cond (nat_eq r sp) (FromSp 0) (cond (nat_eq r 0) (Is 0) Unknown)

-- ---- words of the stack, by the bytes from sp

abbrev pub word_at : KnownWord → ℕ → List ℕ
word_at (FromSp a) w = add_word a (sext_word w 12) ∷ []
word_at _ w = []

abbrev pub load_address : RegisterForms → Piece → List ℕ
load_address h (piece.Known (instr.Load k rd rs w)) = word_at (h rs) w
load_address h _ = []

abbrev pub store_address : RegisterForms → Piece → List ℕ
store_address h (piece.Known (instr.Store k address value w)) = word_at (h address) w
store_address h _ = []

-- whether pieces load a word of the stack before they have stored it
abbrev pub is_loaded : RegisterForms → ℕ → List Piece → Bool
is_loaded h c [] = false
is_loaded h c (p ∷ ps) =
    is_among_numbers c (load_address h p) || (not (is_among_numbers c (store_address h p)) && is_loaded (held_after h p) c ps)

abbrev pub is_stored : RegisterForms → ℕ → List Piece → Bool
is_stored h c [] = false
is_stored h c (p ∷ ps) = is_among_numbers c (store_address h p) || is_stored (held_after h p) c ps
