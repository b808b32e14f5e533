-- What an operator gives with a constant, by the operator with an immediate that the machine has.
use Rattle.std.proofs.Common.{◌≡◌, ℕ, zero, suc, ◌+◌, ◌%◌, ◌^◌, ◌<◌, ◌≤◌, Bool, true, false, cond, not, List, Option, Some, None, Ok, Err, refl, sym, ap, ◌∙◌, subst, arith}
use Rattle.std.specs.Prelude.{◌==◌, nat_eq, nat_le, bit_or, bit_xor}
use Rattle.std.proofs.lemmas.Bool.{true≢false, eq-eqb, eqb-true, leb-true}
use Rattle.std.proofs.lemmas.Nat.{and_comm, or_comm, xor_comm}
use Rattle.std.proofs.Math.Nat.{mul_comm}
use Rattle.bs_words.specs.Operators.{apply, sum_of, on_words, bits_in_both, comparison_of, truth, signed_holds, unsigned_holds}
use Rattle.bs_words.specs.Word.{add_word, mul_word, shl_word}
use Rattle.bs_words.specs.declared.operators.CmpOp.{CmpOp}
use Rattle.bs_words.specs.declared.operators.CmpOp.TheVariants as compare
use Rattle.bs_words.specs.declared.operators.IntOp.{IntOp}
use Rattle.bs_words.specs.declared.operators.IntOp.TheVariants as operators
use Rattle.bs_words.specs.declared.values.Kind.TheVariants.{ShiftRange}
use Rattle.bs_words.specs.declared.values.Value.{Value}
use Rattle.bs_words.specs.declared.values.Value.TheVariants.{Word, Block, Function}
use Rattle.mach_ir.specs.Forms.{is_immediate}
use Rattle.selection_rules.specs.Select.{Immediate, immediate_of, immediate_if, shift_by, exponent_from, exponent_if, commuted, turned_round}

-- ---- a product with a power of two

-- an exponent from the first bound on, below the second
pub data IsExponent (low top w : ℕ) : Option ℕ → Type 0 where
  no_power : IsExponent low top w None
  power : {k : ℕ} → low ≤ k → k < top → 2 ^ k ≡ w → IsExponent low top w (Some k)

found_exponent : {low top : ℕ} (b : Bool) (k w : ℕ) {o : Option ℕ} → nat_eq (2 ^ k) w ≡ b → low ≤ k → k < top → IsExponent low top w o → IsExponent low top w (exponent_if b k o)
found_exponent true k w e le less further = power le less (eqb-true (2 ^ k) w e)
found_exponent false k w e le less further = further

pub exponents : (low top n k w : ℕ) → low ≤ k → k + n ≤ top → IsExponent low top w (exponent_from n k w)
unfolding exponent_from
exponents low top zero k w le most = no_power
exponents low top (suc n) k w le most =
    found_exponent (nat_eq (2 ^ k) w) k w refl le (omega (arith, most)) (exponents low top n (suc k) w (omega (arith, le)) (omega (arith, most)))

shifted : (a k : ℕ) → mul_word a (2 ^ k) ≡ shl_word a k
unfolding mul_word shl_word
shifted a k = refl

pub not_far : (k : ℕ) → k < 64 → nat_le 64 k ≡ false
not_far k less = by (nat_le 64 k) refl
  where
    by : (b : Bool) → nat_le 64 k ≡ b → b ≡ false
    by false e = refl
    by true e = absurd (omega (arith, less, leb-true 64 k e))

product_is_shift : (s : List ℕ) (k : ℕ) (v : Value) → k < 64 → apply operators.Mul s v (Word (2 ^ k)) ≡ apply operators.Shl s v (Word k)
product_is_shift s k (Word a) less = ap (λ n. Ok (Word n)) (shifted a k) ∙ sym (ap (λ b. cond b (Err ShiftRange) (on_words shl_word (Word a) (Word k))) (not_far k less))
product_is_shift s k (Block t o) less = sym (ap (λ b. cond b (Err ShiftRange) (on_words shl_word (Block t o) (Word k))) (not_far k less))
product_is_shift s k (Function f) less = sym (ap (λ b. cond b (Err ShiftRange) (on_words shl_word (Function f) (Word k))) (not_far k less))

-- ---- immediates

-- the operator with this constant on its right gives what the other gives with its immediate
pub record Means (op : IntOp) (w : ℕ) (i : Immediate) : Type 0 where
  pub is : (s : List ℕ) (v : Value) → apply op s v (Word w) ≡ apply i.op s v (Word i.word)

pub data Meant (op : IntOp) (w : ℕ) : Option Immediate → Type 0 where
  no_immediate : Meant op w None
  means : {i : Immediate} → Means op w i → Meant op w (Some i)

by_itself : (b : Bool) (op : IntOp) (w : ℕ) → Meant op w (immediate_if b op w)
by_itself true op w = means (record { is = λ s v. refl })
by_itself false op w = no_immediate

by_shift : (w : ℕ) {o : Option ℕ} → IsExponent 0 64 w o → Meant operators.Mul w (shift_by o)
by_shift w no_power = no_immediate
by_shift w (power {k = k} le less e) = means (record { is = λ s v. subst (λ n. apply operators.Mul s v (Word n) ≡ apply operators.Shl s v (Word k)) e (product_is_shift s k v less) })

pub immediate_means : (op : IntOp) (w : ℕ) → Meant op w (immediate_of op w)
immediate_means operators.Mul w = by_shift w (exponents 0 64 64 0 w (omega arith) (omega arith))
immediate_means op w = by_itself (is_immediate op w) op w

-- ---- operands that change places

sum_commutes : (w : ℕ) (v : Value) → sum_of (Word w) v ≡ sum_of v (Word w)
unfolding add_word
sum_commutes w (Word a) = let e : (w + a) % 2 ^ 64 ≡ (a + w) % 2 ^ 64 = omega arith in ap (λ n. Ok (Word n)) e
sum_commutes w (Block s o) = refl
sum_commutes w (Function f) = refl

mul_commutes : (a b : ℕ) → mul_word a b ≡ mul_word b a
unfolding mul_word
mul_commutes a b = ap (λ n. n % 2 ^ 64) (mul_comm a b)

same_commutes : (a b : ℕ) → (a == b) ≡ (b == a)
same_commutes a b = by (a == b) (b == a) refl refl
  where
    by : (p q : Bool) → (a == b) ≡ p → (b == a) ≡ q → p ≡ q
    by true true e f = refl
    by false false e f = refl
    by true false e f = absurd (true≢false (sym (eq-eqb b a (sym (eqb-true a b e))) ∙ f))
    by false true e f = absurd (true≢false (sym (eq-eqb a b (sym (eqb-true b a f))) ∙ e))

signed_commutes : (q : CmpOp) (s : List ℕ) (w : ℕ) (v : Value) → comparison_of signed_holds q s (Word w) v ≡ comparison_of signed_holds (turned_round q) s v (Word w)
signed_commutes compare.Eq s w (Word a) = ap (λ b. Ok (truth b)) (same_commutes w a)
signed_commutes compare.Ne s w (Word a) = ap (λ b. Ok (truth (not b))) (same_commutes w a)
signed_commutes compare.Lt s w (Word a) = refl
signed_commutes compare.Le s w (Word a) = refl
signed_commutes compare.Gt s w (Word a) = refl
signed_commutes compare.Ge s w (Word a) = refl
signed_commutes compare.Eq s w (Block t o) = refl
signed_commutes compare.Ne s w (Block t o) = refl
signed_commutes compare.Lt s w (Block t o) = refl
signed_commutes compare.Le s w (Block t o) = refl
signed_commutes compare.Gt s w (Block t o) = refl
signed_commutes compare.Ge s w (Block t o) = refl
signed_commutes compare.Eq s w (Function f) = refl
signed_commutes compare.Ne s w (Function f) = refl
signed_commutes compare.Lt s w (Function f) = refl
signed_commutes compare.Le s w (Function f) = refl
signed_commutes compare.Gt s w (Function f) = refl
signed_commutes compare.Ge s w (Function f) = refl

unsigned_commutes : (q : CmpOp) (s : List ℕ) (w : ℕ) (v : Value) → comparison_of unsigned_holds q s (Word w) v ≡ comparison_of unsigned_holds (turned_round q) s v (Word w)
unsigned_commutes compare.Eq s w (Word a) = ap (λ b. Ok (truth b)) (same_commutes w a)
unsigned_commutes compare.Ne s w (Word a) = ap (λ b. Ok (truth (not b))) (same_commutes w a)
unsigned_commutes compare.Lt s w (Word a) = refl
unsigned_commutes compare.Le s w (Word a) = refl
unsigned_commutes compare.Gt s w (Word a) = refl
unsigned_commutes compare.Ge s w (Word a) = refl
unsigned_commutes compare.Eq s w (Block t o) = refl
unsigned_commutes compare.Ne s w (Block t o) = refl
unsigned_commutes compare.Lt s w (Block t o) = refl
unsigned_commutes compare.Le s w (Block t o) = refl
unsigned_commutes compare.Gt s w (Block t o) = refl
unsigned_commutes compare.Ge s w (Block t o) = refl
unsigned_commutes compare.Eq s w (Function f) = refl
unsigned_commutes compare.Ne s w (Function f) = refl
unsigned_commutes compare.Lt s w (Function f) = refl
unsigned_commutes compare.Le s w (Function f) = refl
unsigned_commutes compare.Gt s w (Function f) = refl
unsigned_commutes compare.Ge s w (Function f) = refl

words_commute : (f : ℕ → ℕ → ℕ) → ((a b : ℕ) → f a b ≡ f b a) → (w : ℕ) (v : Value) → on_words f (Word w) v ≡ on_words f v (Word w)
words_commute f e w (Word a) = ap (λ n. Ok (Word n)) (e w a)
words_commute f e w (Block s o) = refl
words_commute f e w (Function g) = refl

bits_commute : (w : ℕ) (v : Value) → bits_in_both (Word w) v ≡ bits_in_both v (Word w)
bits_commute w (Word a) = ap (λ n. Ok (Word n)) (and_comm w a)
bits_commute w (Block s o) = refl
bits_commute w (Function f) = refl

pub record Commutes (op other : IntOp) : Type 0 where
  pub is : (s : List ℕ) (w : ℕ) (v : Value) → apply op s (Word w) v ≡ apply other s v (Word w)

pub data MayCommute (op : IntOp) : Option IntOp → Type 0 where
  does_not : MayCommute op None
  commutes : {other : IntOp} → Commutes op other → MayCommute op (Some other)

pub commuting : (op : IntOp) → MayCommute op (commuted op)
commuting operators.Add = commutes (record { is = λ s w v. sum_commutes w v })
commuting operators.AddV = commutes (record { is = λ s w v. sum_commutes w v })
commuting operators.AddA = commutes (record { is = λ s w v. sum_commutes w v })
commuting operators.Mul = commutes (record { is = λ s w v. words_commute mul_word mul_commutes w v })
commuting operators.And = commutes (record { is = λ s w v. bits_commute w v })
commuting operators.Or = commutes (record { is = λ s w v. words_commute bit_or or_comm w v })
commuting operators.Xor = commutes (record { is = λ s w v. words_commute bit_xor xor_comm w v })
commuting (operators.Cmp q) = commutes (record { is = λ s w v. signed_commutes q s w v })
commuting (operators.CmpU q) = commutes (record { is = λ s w v. unsigned_commutes q s w v })
commuting op = does_not
