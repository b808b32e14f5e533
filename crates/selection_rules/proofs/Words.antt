-- What operators, loads and stores leave of words are words.
use Rattle.std.proofs.Common.{◌≡◌, ℕ, zero, suc, ◌*◌, ◌/◌, ◌%◌, ◌^◌, ◌<◌, ◌≤◌, Bool, true, false, not, cond, List, [], ◌∷◌, ◌++◌, replicate, Option, Some, None, Result, Ok, Err, refl, arith}
use Rattle.std.specs.Prelude.{◌==◌, nat_le, bit_and, bit_or, bit_xor, slice_index_or, slice_set}
use Rattle.std.proofs.lemmas.Nat.{and_le_l, and_le_r, or_lt, xor_lt, mod_below}
use Rattle.std.proofs.Math.Pow.{pow_pos, pow_mono}
use Rattle.std.proofs.lemmas.Bool.{eqb-true}
use Rattle.bs_words.specs.Fits.{fits, misfit}
use Rattle.bs_words.specs.Memory.{Memory, HeapBlock, StaticList, Cell, InHeader, InBlock, InStatic, width, cell_at, offset_in_cell, value_in_cell, type_in, with_cell_value, part, value_of_type, loaded_as, loaded_from, loaded, put_in, replaced, put_part, put_whole, stored_as, stored_in, stored, end_of_data}
use Rattle.bs_words.specs.Operators.{apply, only_if, on_words, sum_of, difference_of, quotient_of, shift_of, masked_offset, bits_in_both, truth, order_of, as_value, equality_of, comparison_of, signed_holds, unsigned_holds}
use Rattle.bs_words.specs.Word.{sub_word, mul_word, mulh_word, div_word, rem_word, shl_word, shr_word, sar_word}
use Rattle.bs_words.specs.declared.operators.CmpOp.{CmpOp}
use Rattle.bs_words.specs.declared.operators.CmpOp.TheVariants as compare
use Rattle.bs_words.specs.declared.operators.IntOp.{IntOp}
use Rattle.bs_words.specs.declared.operators.IntOp.TheVariants.{Add, Sub, Mul, Mulh, Div, Mod, And, Or, Xor, Shl, Shr, Sar, Cmp, CmpU, AddV, AddA}
use Rattle.bs_words.specs.declared.types.Chunk.{Chunk}
use Rattle.bs_words.specs.declared.types.Chunk.TheVariants as chunk
use Rattle.bs_words.specs.declared.types.Ty.{Ty}
use Rattle.bs_words.specs.declared.types.Ty.TheVariants as ty
use Rattle.bs_words.specs.declared.values.Kind.{Kind}
use Rattle.bs_words.specs.declared.values.Kind.TheVariants.{ShiftRange}
use Rattle.bs_words.specs.declared.values.Value.{Value}
use Rattle.bs_words.specs.declared.values.Value.TheVariants.{Word, Block, Function}
use Rattle.bs_words.proofs.Below.{add_word-below, sub_word-below, mul_word-below, mulh_word-below, div_word-below, rem_word-below, shl_word-below, shr_word-below, sar_word-below, sext_word-below}
use Rattle.selection_rules.specs.Bounded.{Bounded, BoundedMemory, BoundedResult}

-- ---- operators

cond_result : (b : Bool) (x y : Result Value Kind) → BoundedResult x → BoundedResult y → BoundedResult (cond b x y)
cond_result true x y p q = p
cond_result false x y p q = q

only_if_bounded : (b : Bool) (kind : Kind) (v : Value) → Bounded v → BoundedResult (only_if b kind v)
only_if_bounded true kind v p = p
only_if_bounded false kind v p = tt

sum_bounded : (v w : Value) → BoundedResult (sum_of v w)
sum_bounded (Word a) (Word b) = add_word-below a b
sum_bounded (Word a) (Block s o) = tt
sum_bounded (Word a) (Function f) = tt
sum_bounded (Block s o) (Word b) = tt
sum_bounded (Block s o) (Block t p) = tt
sum_bounded (Block s o) (Function f) = tt
sum_bounded (Function f) w = tt

difference_bounded : (v w : Value) → BoundedResult (difference_of v w)
difference_bounded (Word a) (Word b) = sub_word-below a b
difference_bounded (Word a) (Block s o) = tt
difference_bounded (Word a) (Function f) = tt
difference_bounded (Block s o) (Word b) = tt
difference_bounded (Block s o) (Block t p) = only_if_bounded (s == t) _ (Word (sub_word o p)) (sub_word-below o p)
difference_bounded (Block s o) (Function f) = tt
difference_bounded (Function f) w = tt

-- a function on numbers that leaves words of words
abbrev LeavesWords : (ℕ → ℕ → ℕ) → Type 0
LeavesWords f = (a b : ℕ) → a < 2 ^ 64 → b < 2 ^ 64 → f a b < 2 ^ 64

words_bounded : (f : ℕ → ℕ → ℕ) → LeavesWords f → (v w : Value) → Bounded v → Bounded w → BoundedResult (on_words f v w)
words_bounded f leaves (Word a) (Word b) p q = leaves a b p q
words_bounded f leaves (Word a) (Block s o) p q = tt
words_bounded f leaves (Word a) (Function g) p q = tt
words_bounded f leaves (Block s o) w p q = tt
words_bounded f leaves (Function g) w p q = tt

quotient_bounded : (f : ℕ → ℕ → ℕ) → LeavesWords f → (v w : Value) → Bounded v → Bounded w → BoundedResult (quotient_of f v w)
quotient_bounded f leaves v (Word zero) p q = tt
quotient_bounded f leaves v (Word (suc n)) p q = words_bounded f leaves v (Word (suc n)) p q
quotient_bounded f leaves v (Block s o) p q = words_bounded f leaves v (Block s o) p q
quotient_bounded f leaves v (Function g) p q = words_bounded f leaves v (Function g) p q

shift_bounded : (f : ℕ → ℕ → ℕ) → LeavesWords f → (v w : Value) → Bounded v → Bounded w → BoundedResult (shift_of f v w)
shift_bounded f leaves v (Word k) p q = cond_result (nat_le 64 k) (Err ShiftRange) (on_words f v (Word k)) tt (words_bounded f leaves v (Word k) p q)
shift_bounded f leaves v (Block s o) p q = words_bounded f leaves v (Block s o) p q
shift_bounded f leaves v (Function g) p q = words_bounded f leaves v (Function g) p q

masked_bounded : (o mask : ℕ) → mask < 2 ^ 64 → BoundedResult (masked_offset o mask)
masked_bounded o mask p = only_if_bounded _ _ (Word (bit_and o mask)) (let le : bit_and o mask ≤ mask = and_le_r o mask in omega (arith, le, p))

bits_bounded : (v w : Value) → Bounded v → Bounded w → BoundedResult (bits_in_both v w)
bits_bounded (Word a) (Word b) p q = let le : bit_and a b ≤ a = and_le_l a b in omega (arith, le, p)
bits_bounded (Word a) (Block s o) p q = masked_bounded o a p
bits_bounded (Word a) (Function f) p q = only_if_bounded _ _ (Word 0) (omega arith)
bits_bounded (Block s o) (Word b) p q = masked_bounded o b q
bits_bounded (Block s o) (Block t r) p q = tt
bits_bounded (Block s o) (Function f) p q = tt
bits_bounded (Function f) (Word b) p q = only_if_bounded _ _ (Word 0) (omega arith)
bits_bounded (Function f) (Block s o) p q = tt
bits_bounded (Function f) (Function g) p q = tt

truth_bounded : (b : Bool) → Bounded (truth b)
truth_bounded true = omega arith
truth_bounded false = omega arith

as_value_bounded : (f : Bool → Bool) (o : Result Bool Kind) → BoundedResult (as_value f o)
as_value_bounded f (Ok b) = truth_bounded (f b)
as_value_bounded f (Err kind) = tt

order_bounded : (holds : CmpOp → ℕ → ℕ → Bool) (op : CmpOp) (s : List ℕ) (v w : Value) → BoundedResult (order_of holds op s v w)
order_bounded holds op s (Word a) (Word b) = truth_bounded (holds op a b)
order_bounded holds op s (Word a) (Block t o) = tt
order_bounded holds op s (Word a) (Function f) = tt
order_bounded holds op s (Block t o) (Word b) = tt
order_bounded holds op s (Block t o) (Block u p) = only_if_bounded _ _ (truth (signed_holds op o p)) (truth_bounded (signed_holds op o p))
order_bounded holds op s (Block t o) (Function f) = tt
order_bounded holds op s (Function f) w = tt

comparison_bounded : (holds : CmpOp → ℕ → ℕ → Bool) (op : CmpOp) (s : List ℕ) (v w : Value) → BoundedResult (comparison_of holds op s v w)
comparison_bounded holds compare.Eq s v w = as_value_bounded (λ e. e) (equality_of s v w)
comparison_bounded holds compare.Ne s v w = as_value_bounded not (equality_of s v w)
comparison_bounded holds compare.Lt s v w = order_bounded holds compare.Lt s v w
comparison_bounded holds compare.Le s v w = order_bounded holds compare.Le s v w
comparison_bounded holds compare.Gt s v w = order_bounded holds compare.Gt s v w
comparison_bounded holds compare.Ge s v w = order_bounded holds compare.Ge s v w

pub apply_bounded : (op : IntOp) (s : List ℕ) (v w : Value) → Bounded v → Bounded w → BoundedResult (apply op s v w)
apply_bounded Add s v w p q = sum_bounded v w
apply_bounded AddV s v w p q = sum_bounded v w
apply_bounded AddA s v w p q = sum_bounded v w
apply_bounded Sub s v w p q = difference_bounded v w
apply_bounded Mul s v w p q = words_bounded mul_word (λ a b x y. mul_word-below a b) v w p q
apply_bounded Mulh s v w p q = words_bounded mulh_word (λ a b x y. mulh_word-below a b) v w p q
apply_bounded Div s v w p q = quotient_bounded div_word (λ a b x y. div_word-below a b) v w p q
apply_bounded Mod s v w p q = quotient_bounded rem_word (λ a b x y. rem_word-below a b) v w p q
apply_bounded And s v w p q = bits_bounded v w p q
apply_bounded Or s v w p q = words_bounded bit_or (λ a b x y. or_lt 64 a b x y) v w p q
apply_bounded Xor s v w p q = words_bounded bit_xor (λ a b x y. xor_lt 64 a b x y) v w p q
apply_bounded Shl s v w p q = shift_bounded shl_word (λ a b x y. shl_word-below a b) v w p q
apply_bounded Shr s v w p q = shift_bounded shr_word (λ a b x y. shr_word-below a b x) v w p q
apply_bounded Sar s v w p q = shift_bounded sar_word (λ a b x y. sar_word-below a b) v w p q
apply_bounded (Cmp op) s v w p q = comparison_bounded signed_holds op s v w
apply_bounded (CmpU op) s v w p q = comparison_bounded unsigned_holds op s v w

-- ---- loads

of_type_bounded : (end : ℕ) (T : Ty) (v : Value) → Bounded v → BoundedResult (value_of_type end T v)
of_type_bounded end T v p = cond_result (fits end T v) (Ok v) (Err (misfit T)) p tt

part_bounded : (w o n : ℕ) → n ≤ 8 → part w o n < 2 ^ 64
part_bounded w o n le = narrow (mod_below (w / 2 ^ (8 * o)) (2 ^ (8 * n)) (pow_pos (8 * n))) (pow_mono (let e : 8 * n ≤ 64 = omega (arith, le) in e))
  where
    narrow : {x m : ℕ} → x < m → m ≤ 2 ^ 64 → x < 2 ^ 64
    narrow less le = omega (arith, less, le)

loaded_as_bounded : (c : Chunk) (end o : ℕ) (v : Value) → Bounded v → BoundedResult (loaded_as c end o v)
loaded_as_bounded chunk.Int end o v p = of_type_bounded end ty.Int v p
loaded_as_bounded chunk.Val end o v p = of_type_bounded end ty.Val v p
loaded_as_bounded chunk.U8 end o (Word w) p = part_bounded w o 1 (omega arith)
loaded_as_bounded chunk.U16 end o (Word w) p = part_bounded w o 2 (omega arith)
loaded_as_bounded chunk.U32 end o (Word w) p = part_bounded w o 4 (omega arith)
loaded_as_bounded chunk.I8 end o (Word w) p = sext_word-below (part w o 1) 8
loaded_as_bounded chunk.I16 end o (Word w) p = sext_word-below (part w o 2) 16
loaded_as_bounded chunk.I32 end o (Word w) p = sext_word-below (part w o 4) 32
loaded_as_bounded chunk.U8 end o (Block s q) p = tt
loaded_as_bounded chunk.U16 end o (Block s q) p = tt
loaded_as_bounded chunk.U32 end o (Block s q) p = tt
loaded_as_bounded chunk.I8 end o (Block s q) p = tt
loaded_as_bounded chunk.I16 end o (Block s q) p = tt
loaded_as_bounded chunk.I32 end o (Block s q) p = tt
loaded_as_bounded chunk.U8 end o (Function f) p = tt
loaded_as_bounded chunk.U16 end o (Function f) p = tt
loaded_as_bounded chunk.U32 end o (Function f) p = tt
loaded_as_bounded chunk.I8 end o (Function f) p = tt
loaded_as_bounded chunk.I16 end o (Function f) p = tt
loaded_as_bounded chunk.I32 end o (Function f) p = tt

loaded_from_bounded : (c : Chunk) (m : Memory) (o : ℕ) (cell : Option Cell) → BoundedMemory m → BoundedResult (loaded_from c m o cell)
loaded_from_bounded c m o None b = tt
loaded_from_bounded c m o (Some cell) b = loaded_as_bounded c (end_of_data m) o (value_in_cell m cell) (b.each cell)

pub loaded_bounded : (c : Chunk) (m : Memory) (address : Value) → BoundedMemory m → BoundedResult (loaded c m address)
loaded_bounded c m address b = loaded_from_bounded c m (offset_in_cell address) (cell_at m (width c) address) b

-- ---- stores

-- an element after a write is the written one, or was there before
set_each {ℓ} : {A : Type ℓ} (P : A → Type 0) (xs : List A) (i : ℕ) (v d : A) → P v → ((j : ℕ) → P (slice_index_or xs j d)) → (j : ℕ) → P (slice_index_or (slice_set xs i v) j d)
set_each P [] i v d p q j = q j
set_each P (x ∷ xs) zero v d p q zero = p
set_each P (x ∷ xs) zero v d p q (suc j) = q (suc j)
set_each P (x ∷ xs) (suc i) v d p q zero = q zero
set_each P (x ∷ xs) (suc i) v d p q (suc j) = set_each P xs i v d p (λ j. q (suc j)) j

abbrev no_block : HeapBlock
no_block = record { header = 0; cells = [] }

abbrev no_list : StaticList
no_list = record { start = 0; size = 0; cells = [] }

record BoundedBlock (b : HeapBlock) : Type 0 where
  header : b.header < 2 ^ 64
  cells : (i : ℕ) → Bounded (slice_index_or b.cells i (Word 0))

record BoundedList (l : StaticList) : Type 0 where
  cells : (i : ℕ) → Bounded (slice_index_or l.cells i (Word 0))

blocks_of : {m : Memory} → BoundedMemory m → (s : ℕ) → BoundedBlock (slice_index_or m.blocks s no_block)
blocks_of b s = record { header = b.each (InHeader s); cells = λ i. b.each (InBlock s i) }

lists_of : {m : Memory} → BoundedMemory m → (l : ℕ) → BoundedList (slice_index_or m.statics l no_list)
lists_of b l = record { cells = λ i. b.each (InStatic l i) }

memory_of : {m : Memory} → ((s : ℕ) → BoundedBlock (slice_index_or m.blocks s no_block)) → ((l : ℕ) → BoundedList (slice_index_or m.statics l no_list)) → BoundedMemory m
memory_of {m} blocks lists = record { each = each }
  where
    each : (cell : Cell) → Bounded (value_in_cell m cell)
    each (InHeader s) = (blocks s).header
    each (InBlock s i) = (blocks s).cells i
    each (InStatic l i) = (lists l).cells i

with_value_bounded : (m : Memory) (cell : Cell) (v : Value) → Bounded v → BoundedMemory m → BoundedMemory (with_cell_value m cell v)
with_value_bounded m (InHeader s) v p b = b
with_value_bounded m (InBlock s i) v p b =
    let old : HeapBlock = slice_index_or m.blocks s no_block in
    let was = blocks_of b s in
    memory_of (set_each BoundedBlock m.blocks s (record old { cells = slice_set old.cells i v }) no_block
    (record { header = was.header; cells = set_each Bounded old.cells i v (Word 0) p was.cells }) (blocks_of b)) (lists_of b)
with_value_bounded m (InStatic l i) v p b =
    let old : StaticList = slice_index_or m.statics l no_list in
    let was = lists_of b l in
    memory_of (blocks_of b) (set_each BoundedList m.statics l (record old { cells = slice_set old.cells i v }) no_list
    (record { cells = set_each Bounded old.cells i v (Word 0) p was.cells }) (lists_of b))

pub data BoundedAfter : Result Memory Kind → Type 0 where
  after : {m : Memory} → BoundedMemory m → BoundedAfter (Ok m)
  no_after : {kind : Kind} → BoundedAfter (Err kind)

cond_after : (t : Bool) {x y : Result Memory Kind} → BoundedAfter x → BoundedAfter y → BoundedAfter (cond t x y)
cond_after true p q = p
cond_after false p q = q

put_in_bounded : (end : ℕ) (m : Memory) (cell : Cell) (v : Value) → Bounded v → BoundedMemory m → BoundedAfter (put_in end m cell v)
put_in_bounded end m cell v p b = cond_after (fits end (type_in m cell) v) (after (with_value_bounded m cell v p b)) no_after

put_whole_bounded : (T : Ty) (end : ℕ) (m : Memory) (cell : Cell) (v : Value) → Bounded v → BoundedMemory m → BoundedAfter (put_whole T end m cell v)
put_whole_bounded T end m cell v p b = cond_after (fits end T v) (put_in_bounded end m cell v p b) no_after

-- bytes of a word that are replaced leave a word
replaced_one : (o w n : ℕ) → o < 8 → w < 2 ^ 64 → replaced w o 1 n < 2 ^ 64
replaced_one zero w n less small = omega (arith, small)
replaced_one (suc zero) w n less small = omega (arith, small)
replaced_one (suc (suc zero)) w n less small = omega (arith, small)
replaced_one (suc (suc (suc zero))) w n less small = omega (arith, small)
replaced_one (suc (suc (suc (suc zero)))) w n less small = omega (arith, small)
replaced_one (suc (suc (suc (suc (suc zero))))) w n less small = omega (arith, small)
replaced_one (suc (suc (suc (suc (suc (suc zero)))))) w n less small = omega (arith, small)
replaced_one (suc (suc (suc (suc (suc (suc (suc zero))))))) w n less small = omega (arith, small)
replaced_one (suc (suc (suc (suc (suc (suc (suc (suc o)))))))) w n less small = absurd (omega (arith, less))

replaced_two : (o w n : ℕ) → o < 8 → o % 2 ≡ 0 → w < 2 ^ 64 → replaced w o 2 n < 2 ^ 64
replaced_two zero w n less even small = omega (arith, small)
replaced_two (suc zero) w n less even small = absurd (omega (arith, even))
replaced_two (suc (suc zero)) w n less even small = omega (arith, small)
replaced_two (suc (suc (suc zero))) w n less even small = absurd (omega (arith, even))
replaced_two (suc (suc (suc (suc zero)))) w n less even small = omega (arith, small)
replaced_two (suc (suc (suc (suc (suc zero))))) w n less even small = absurd (omega (arith, even))
replaced_two (suc (suc (suc (suc (suc (suc zero)))))) w n less even small = omega (arith, small)
replaced_two (suc (suc (suc (suc (suc (suc (suc zero))))))) w n less even small = absurd (omega (arith, even))
replaced_two (suc (suc (suc (suc (suc (suc (suc (suc o)))))))) w n less even small = absurd (omega (arith, less))

replaced_four : (o w n : ℕ) → o < 8 → o % 4 ≡ 0 → w < 2 ^ 64 → replaced w o 4 n < 2 ^ 64
replaced_four zero w n less even small = omega (arith, small)
replaced_four (suc zero) w n less even small = absurd (omega (arith, even))
replaced_four (suc (suc zero)) w n less even small = absurd (omega (arith, even))
replaced_four (suc (suc (suc zero))) w n less even small = absurd (omega (arith, even))
replaced_four (suc (suc (suc (suc zero)))) w n less even small = omega (arith, small)
replaced_four (suc (suc (suc (suc (suc zero))))) w n less even small = absurd (omega (arith, even))
replaced_four (suc (suc (suc (suc (suc (suc zero)))))) w n less even small = absurd (omega (arith, even))
replaced_four (suc (suc (suc (suc (suc (suc (suc zero))))))) w n less even small = absurd (omega (arith, even))
replaced_four (suc (suc (suc (suc (suc (suc (suc (suc o)))))))) w n less even small = absurd (omega (arith, less))

put_part_bounded : (end : ℕ) (m : Memory) (cell : Cell) (o n : ℕ) (old v : Value) → ((w u : ℕ) → w < 2 ^ 64 → replaced w o n u < 2 ^ 64) → Bounded old → BoundedMemory m → BoundedAfter (put_part end m cell o n old v)
put_part_bounded end m cell o n (Word w) (Word u) fits' p b = put_in_bounded end m cell (Word (replaced w o n u)) (fits' w u p) b
put_part_bounded end m cell o n (Word w) (Block s q) fits' p b = no_after
put_part_bounded end m cell o n (Word w) (Function f) fits' p b = no_after
put_part_bounded end m cell o n (Block s q) v fits' p b = no_after
put_part_bounded end m cell o n (Function f) v fits' p b = no_after

stored_as_bounded : (c : Chunk) (end : ℕ) (m : Memory) (cell : Cell) (o : ℕ) (v : Value) → o < 8 → o % width c ≡ 0 → Bounded v → BoundedMemory m → BoundedAfter (stored_as c end m cell o v)
stored_as_bounded chunk.Int end m cell o v less even p b = put_whole_bounded ty.Int end m cell v p b
stored_as_bounded chunk.Val end m cell o v less even p b = put_whole_bounded ty.Val end m cell v p b
stored_as_bounded chunk.U8 end m cell o v less even p b = put_part_bounded end m cell o 1 (value_in_cell m cell) v (λ w u small. replaced_one o w u less small) (b.each cell) b
stored_as_bounded chunk.I8 end m cell o v less even p b = put_part_bounded end m cell o 1 (value_in_cell m cell) v (λ w u small. replaced_one o w u less small) (b.each cell) b
stored_as_bounded chunk.U16 end m cell o v less even p b = put_part_bounded end m cell o 2 (value_in_cell m cell) v (λ w u small. replaced_two o w u less even small) (b.each cell) b
stored_as_bounded chunk.I16 end m cell o v less even p b = put_part_bounded end m cell o 2 (value_in_cell m cell) v (λ w u small. replaced_two o w u less even small) (b.each cell) b
stored_as_bounded chunk.U32 end m cell o v less even p b = put_part_bounded end m cell o 4 (value_in_cell m cell) v (λ w u small. replaced_four o w u less even small) (b.each cell) b
stored_as_bounded chunk.I32 end m cell o v less even p b = put_part_bounded end m cell o 4 (value_in_cell m cell) v (λ w u small. replaced_four o w u less even small) (b.each cell) b

-- an access is at a multiple of its bytes
data Aligned (o n : ℕ) : Option Cell → Type 0 where
  no_cell : Aligned o n None
  a_cell : {cell : Cell} → o < 8 → o % n ≡ 0 → Aligned o n (Some cell)

aligned_so : {o n : ℕ} (q : Option Cell) → o < 8 → o % n ≡ 0 → Aligned o n q
aligned_so None less even = no_cell
aligned_so (Some cell) less even = a_cell less even

in_cell : (c : Chunk) (a : ℕ) → a % width c ≡ 0 → a % 8 % width c ≡ 0
in_cell chunk.U8 a e = omega (arith, e)
in_cell chunk.I8 a e = omega (arith, e)
in_cell chunk.U16 a e = omega (arith, e)
in_cell chunk.I16 a e = omega (arith, e)
in_cell chunk.U32 a e = omega (arith, e)
in_cell chunk.I32 a e = omega (arith, e)
in_cell chunk.Int a e = omega (arith, e)
in_cell chunk.Val a e = omega (arith, e)

aligned_if : (c : Chunk) (a : ℕ) (q : Option Cell) (t : Bool) → (a % width c == 0) ≡ t → Aligned (a % 8) (width c) (cond t q None)
aligned_if c a q true e = aligned_so q (omega arith) (in_cell c a (eqb-true (a % width c) 0 e))
aligned_if c a q false e = no_cell

aligned : (c : Chunk) (m : Memory) (address : Value) → Aligned (offset_in_cell address) (width c) (cell_at m (width c) address)
aligned c m (Word a) = aligned_if c a _ (a % width c == 0) refl
aligned c m (Block s o) = aligned_if c o _ (o % width c == 0) refl
aligned c m (Function f) = no_cell

stored_in_bounded : (c : Chunk) (m : Memory) (o : ℕ) (cell : Option Cell) (v : Value) → Aligned o (width c) cell → Bounded v → BoundedMemory m → BoundedAfter (stored_in c m o cell v)
stored_in_bounded c m o None v z p b = no_after
stored_in_bounded c m o (Some (InHeader s)) v z p b = no_after
stored_in_bounded c m o (Some (InBlock s i)) v (a_cell less even) p b = stored_as_bounded c (end_of_data m) m (InBlock s i) o v less even p b
stored_in_bounded c m o (Some (InStatic l i)) v (a_cell less even) p b = stored_as_bounded c (end_of_data m) m (InStatic l i) o v less even p b

pub stored_bounded : (c : Chunk) (m : Memory) (address v : Value) → Bounded v → BoundedMemory m → BoundedAfter (stored c m address v)
stored_bounded c m address v p b = stored_in_bounded c m (offset_in_cell address) (cell_at m (width c) address) v (aligned c m address) p b

-- ---- new blocks

-- an element of a list with one more at its end
appended_each {ℓ} : {A : Type ℓ} (P : A → Type 0) (xs : List A) (v d : A) → P v → P d → ((j : ℕ) → P (slice_index_or xs j d)) → (j : ℕ) → P (slice_index_or (xs ++ v ∷ []) j d)
appended_each P [] v d p z q zero = p
appended_each P [] v d p z q (suc j) = z
appended_each P (x ∷ xs) v d p z q zero = q zero
appended_each P (x ∷ xs) v d p z q (suc j) = appended_each P xs v d p z (λ j. q (suc j)) j

zeros : (n i : ℕ) → Bounded (slice_index_or (replicate n (Word 0)) i (Word 0))
zeros zero i = omega arith
zeros (suc n) zero = omega arith
zeros (suc n) (suc i) = zeros n i

pub new_block_bounded : (m : Memory) (header n : ℕ) → header < 2 ^ 64 → BoundedMemory m →
    BoundedMemory (record m { blocks = m.blocks ++ record { header = header; cells = replicate n (Word 0) } ∷ [] })
new_block_bounded m header n p b =
    memory_of (appended_each BoundedBlock m.blocks (record { header = header; cells = replicate n (Word 0) }) no_block (record { header = p; cells = zeros n })
    (record { header = omega arith; cells = λ i. let z : 0 < 2 ^ 64 = omega arith in z }) (blocks_of b)) (lists_of b)
