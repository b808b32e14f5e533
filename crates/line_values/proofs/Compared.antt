-- Comparisons of values are comparisons of their words, wherever the blocks and the functions lie.
use Rattle.std.proofs.Common.{◌≡◌, ℕ, zero, suc, ◌+◌, ◌-◌, ◌*◌, ◌%◌, ◌^◌, ◌<◌, ◌≤◌, ◌⊎◌, inl, inr, Bool, true, false, not, ◌||◌, ◌==◌, nat_lt, nat_le, List, [], ◌∷◌, length, ℤ, pos, negsuc, int_lt, int_le, bit_xor, refl, ap, ap₂, arith, ◌∙◌, sym, ⊎_elim}
use Rattle.std.specs.List.{AllByRecursion}
use Rattle.std.proofs.lemmas.Bool.{cases_lt, cond-false, cond-true, eq-eqb, le-leb, le-ltb, lt-leb, lt-ltb, leb-true, ne_eqb, or_cases}
use Rattle.std.proofs.lemmas.Grind.{common_steps}
use Rattle.bs_words.specs.Operators.{signed_holds, unsigned_holds}
use Rattle.bs_words.specs.Word.{add_word, signed_of}
use Rattle.bs_words.specs.declared.operators.CmpOp.{CmpOp}
use Rattle.bs_words.specs.declared.operators.CmpOp.TheVariants as compare
use Rattle.image_form.specs.Image.{EachNext, IsBehind, IsFunc}
use Rattle.image_form.specs.Tables.{Func}
use Rattle.rv_isa.specs.declared.instr.AluOp.TheVariants.{Slt, Sltu}
use Rattle.rv_machine.specs.Arithmetic.{alu, bit_of, imm_i, is_less}
use Rattle.moving_laws.specs.Values.{function_at}
use Rattle.moving_laws.proofs.Words.{same_or_not}
use Rattle.machine_laws.proofs.Immediates.{low_12}

-- ---- tests

pub eqb_as : (a b c d : ℕ) → (a ≡ b → c ≡ d) → (c ≡ d → a ≡ b) → (a == b) ≡ (c == d)
eqb_as a b c d f g =
    ⊎_elim (λ e. eq-eqb a b e ∙ sym (eq-eqb c d (f e))) (λ e. ne_eqb a b e ∙ sym (ne_eqb c d (λ h. e (g h)))) (same_or_not a b)

pub ltb_as : (a b c d : ℕ) → (a < b → c < d) → (c < d → a < b) → nat_lt a b ≡ nat_lt c d
ltb_as a b c d f g = elim (cases_lt a b) [
  | inl l ↦ lt-ltb a b l ∙ sym (lt-ltb c d (f l))
  | inr l ↦ elim (cases_lt c d) [ inl k ↦ (let h = g k in absurd (omega (arith, l, h))) | inr k ↦ le-ltb a b l ∙ sym (le-ltb c d k) ]
]

pub le_is : (a b : ℕ) → nat_le a b ≡ not (nat_lt b a)
le_is a b = elim (cases_lt b a) [
  | inl l ↦ lt-leb a b l ∙ ap not (sym (lt-ltb b a l))
  | inr l ↦ le-leb a b l ∙ ap not (sym (le-ltb b a l))
]

pub int_le_is : (x y : ℤ) → int_le x y ≡ not (int_lt y x)
int_le_is (pos a) (pos b) = le_is a b
int_le_is (pos a) (negsuc b) = refl
int_le_is (negsuc a) (pos b) = refl
int_le_is (negsuc a) (negsuc b) = le_is b a

-- ---- what the rows leave

-- two words compared by one or two rows; less is that of slt or of sltu
abbrev pub compared_word : (less : ℕ → ℕ → ℕ) → CmpOp → ℕ → ℕ → ℕ
compared_word less compare.Eq a b = bit_of (nat_lt (bit_xor a b) (imm_i 1))
compared_word less compare.Ne a b = bit_of (nat_lt 0 (bit_xor a b))
compared_word less compare.Lt a b = less a b
compared_word less compare.Ge a b = bit_xor (less a b) (imm_i 1)
compared_word less compare.Gt a b = less b a
compared_word less compare.Le a b = bit_xor (less b a) (imm_i 1)

one_is : imm_i 1 ≡ 1
one_is = low_12 1 (omega arith)

opposed : (t : Bool) → bit_xor (bit_of t) (imm_i 1) ≡ bit_of (not t)
opposed true = ap (bit_xor 1) one_is ∙ refl
opposed false = ap (bit_xor 0) one_is ∙ refl

none_is : (x : ℕ) → nat_lt x 1 ≡ (x == 0)
none_is x = elim (cases_lt x 1) [
  | inl l ↦ lt-ltb x 1 l ∙ sym (eq-eqb x 0 (omega (arith, l)))
  | inr l ↦ le-ltb x 1 l ∙ sym (ne_eqb x 0 (λ e. omega (arith, e, l)))
]

some_is : (x : ℕ) → nat_lt 0 x ≡ not (x == 0)
some_is x = elim (cases_lt 0 x) [
  | inl l ↦ lt-ltb 0 x l ∙ ap not (sym (ne_eqb x 0 (λ e. omega (arith, e, l))))
  | inr l ↦ le-ltb 0 x l ∙ ap not (sym (eq-eqb x 0 (omega (arith, l))))
]

xor_same : (a : ℕ) → bit_xor a a ≡ 0
xor_same a = grind (arith, common_steps)

xor_back : (a b : ℕ) → bit_xor (bit_xor a b) b ≡ a
xor_back a b = grind (arith, common_steps)

xor_none : (a b : ℕ) → bit_xor a b ≡ 0 → a ≡ b
xor_none a b e = sym (xor_back a b) ∙ ap (λ z. bit_xor z b) e ∙ refl

no_difference : (a b : ℕ) → (bit_xor a b == 0) ≡ (a == b)
no_difference a b = eqb_as (bit_xor a b) 0 a b (xor_none a b) (λ e. ap (λ z. bit_xor z b) e ∙ xor_same b)

equal_is : (a b : ℕ) → bit_of (nat_lt (bit_xor a b) (imm_i 1)) ≡ bit_of (a == b)
equal_is a b = ap (λ x. bit_of (nat_lt (bit_xor a b) x)) one_is ∙ ap bit_of (none_is (bit_xor a b) ∙ no_difference a b)

unequal_is : (a b : ℕ) → bit_of (nat_lt 0 (bit_xor a b)) ≡ bit_of (not (a == b))
unequal_is a b = ap bit_of (some_is (bit_xor a b) ∙ ap not (no_difference a b))

pub signed_word : (f : CmpOp) (a b : ℕ) → compared_word (alu Slt) f a b ≡ bit_of (signed_holds f a b)
signed_word compare.Eq a b = equal_is a b
signed_word compare.Ne a b = unequal_is a b
signed_word compare.Lt a b = refl
signed_word compare.Ge a b = opposed (is_less a b) ∙ ap bit_of (sym (int_le_is (signed_of b) (signed_of a)))
signed_word compare.Gt a b = refl
signed_word compare.Le a b = opposed (is_less b a) ∙ ap bit_of (sym (int_le_is (signed_of a) (signed_of b)))

pub unsigned_word : (f : CmpOp) (a b : ℕ) → compared_word (alu Sltu) f a b ≡ bit_of (unsigned_holds f a b)
unsigned_word compare.Eq a b = equal_is a b
unsigned_word compare.Ne a b = unequal_is a b
unsigned_word compare.Lt a b = refl
unsigned_word compare.Ge a b = opposed (nat_lt a b) ∙ ap bit_of (sym (le_is b a))
unsigned_word compare.Gt a b = refl
unsigned_word compare.Le a b = opposed (nat_lt b a) ∙ ap bit_of (sym (le_is a b))

-- ---- signed numbers

signed_low : (w : ℕ) → w < 2 ^ 63 → signed_of w ≡ pos w
unfolding signed_of
signed_low w l = cond-true (nat_lt w (2 ^ 63)) (pos w) (negsuc (2 ^ 64 - suc w)) (lt-ltb w (2 ^ 63) l)

signed_high : (w : ℕ) → 2 ^ 63 ≤ w → signed_of w ≡ negsuc (2 ^ 64 - suc w)
unfolding signed_of
signed_high w l = cond-false (nat_lt w (2 ^ 63)) (pos w) (negsuc (2 ^ 64 - suc w)) (le-ltb w (2 ^ 63) l)

-- ---- where functions lie

pub function_even : (fs : List Func) (f : ℕ) → AllByRecursion IsFunc fs → function_at fs f % 2 ≡ 0
function_even [] f all = refl
function_even (g ∷ gs) zero all = let a = all.0.aligned in omega (arith, a)
function_even (g ∷ gs) (suc f) all = function_even gs f all.1

pub function_low : (fs : List Func) (f : ℕ) → 0x10000 ≤ function_at fs f
function_low [] f = omega arith
function_low (g ∷ gs) zero = omega arith
function_low (g ∷ gs) (suc f) = function_low gs f

-- each after the ones before it
function_behind : (g : Func) (gs : List Func) (f : ℕ) → EachNext IsBehind (g ∷ gs) → f < length gs → 0x10000 + g.offset < function_at gs f
function_behind g [] f next l = absurd (omega (arith, l))
function_behind g (h ∷ hs) zero next l = let r = next.0.rises in omega (arith, r)
function_behind g (h ∷ hs) (suc f) next l =
    let r = next.0.rises in
    let later = function_behind h hs f next.1 (omega (arith, l)) in
    omega (arith, r, later)

pub functions_apart : (fs : List Func) (f g : ℕ) → EachNext IsBehind fs → f < length fs → g < length fs → function_at fs f ≡ function_at fs g → f ≡ g
functions_apart [] f g next l k e = absurd (omega (arith, l))
functions_apart (h ∷ hs) zero zero next l k e = refl
functions_apart (h ∷ hs) zero (suc g) next l k e = let b = function_behind h hs g next (omega (arith, k)) in absurd (omega (arith, b, e))
functions_apart (h ∷ hs) (suc f) zero next l k e = let b = function_behind h hs f next (omega (arith, l)) in absurd (omega (arith, b, e))
functions_apart (h ∷ hs) (suc f) (suc g) next l k e = ap suc (functions_apart hs f g next.1 (omega (arith, l)) (omega (arith, k)) e)

-- ---- where blocks lie

-- a byte of a block
pub inside_block : (start size o w : ℕ) → 0x30000008 ≤ start → start + 8 * size ≤ 0x38010000 → o < 8 * size → w ≡ add_word start o → w ≡ start + o
unfolding add_word
inside_block start size o w low high l e = omega (arith, low, high, l, e)

-- an address from the header of a block to its end, by the offset's sign
abbrev pub Near : (start o w : ℕ) → Type 0
Near start o w = ((o < 2 ^ 31) × (w ≡ start + o)) ⊎ ((2 ^ 64 - 8 ≤ o) × (w + 2 ^ 64 ≡ start + o))

pub near_block : (start size o w : ℕ) → 0x30000008 ≤ start → start + 8 * size ≤ 0x38010000 → o < 2 ^ 64 → (o ≤ 8 * size) ⊎ (2 ^ 64 - 8 ≤ o) →
    w ≡ add_word start o → Near start o w
unfolding add_word
near_block start size o w low high fits (inl l) e = inl (omega (arith, low, high, l), omega (arith, low, high, l, e))
near_block start size o w low high fits (inr l) e = inr (l, omega (arith, low, high, l, e, fits))

pub near_less : (start o p w x : ℕ) → 0x30000008 ≤ start → start ≤ 0x38010000 → o < 2 ^ 64 → p < 2 ^ 64 → Near start o w → Near start p x →
    int_lt (signed_of o) (signed_of p) ≡ nat_lt w x
near_less start o p w x low high fo fp (inl a) (inl b) =
    let a0 = a.0 in let a1 = a.1 in let b0 = b.0 in let b1 = b.1 in
    ap₂ int_lt (signed_low o (omega (arith, a0))) (signed_low p (omega (arith, b0)))
    ∙ ltb_as o p w x (λ h. omega (arith, a1, b1, h)) (λ h. omega (arith, a1, b1, h))
near_less start o p w x low high fo fp (inl a) (inr b) =
    let a0 = a.0 in let a1 = a.1 in let b0 = b.0 in let b1 = b.1 in
    ap₂ int_lt (signed_low o (omega (arith, a0))) (signed_high p (omega (arith, b0)))
    ∙ sym (le-ltb w x (omega (arith, a1, b1, fp)))
near_less start o p w x low high fo fp (inr a) (inl b) =
    let a0 = a.0 in let a1 = a.1 in let b0 = b.0 in let b1 = b.1 in
    ap₂ int_lt (signed_high o (omega (arith, a0))) (signed_low p (omega (arith, b0)))
    ∙ sym (lt-ltb w x (omega (arith, a1, b1, fo)))
near_less start o p w x low high fo fp (inr a) (inr b) =
    let a0 = a.0 in let a1 = a.1 in let b0 = b.0 in let b1 = b.1 in
    ap₂ int_lt (signed_high o (omega (arith, a0))) (signed_high p (omega (arith, b0)))
    ∙ ltb_as (2 ^ 64 - suc p) (2 ^ 64 - suc o) w x (λ h. omega (arith, a1, b1, h, fo, fp)) (λ h. omega (arith, a1, b1, h, fo, fp))

pub near_small : (start o w : ℕ) → 0x30000008 ≤ start → start ≤ 0x38010000 → o < 2 ^ 64 → Near start o w → w < 2 ^ 63
near_small start o w low high fits (inl a) = let a0 = a.0 in let a1 = a.1 in omega (arith, a0, a1, high)
near_small start o w low high fits (inr a) = let a0 = a.0 in let a1 = a.1 in omega (arith, a0, a1, high, fits)

-- addresses, as numbers with a sign too
pub address_less : (w x : ℕ) → w < 2 ^ 63 → x < 2 ^ 63 → int_lt (signed_of w) (signed_of x) ≡ nat_lt w x
address_less w x l k = ap₂ int_lt (signed_low w l) (signed_low x k) ∙ refl

pub near_by : (o size : ℕ) → (nat_le o (8 * size) || nat_le (2 ^ 64 - 8) o) ≡ true → (o ≤ 8 * size) ⊎ (2 ^ 64 - 8 ≤ o)
near_by o size h =
    ⊎_elim (λ l. inl (leb-true o (8 * size) l)) (λ l. inr (leb-true (2 ^ 64 - 8) o l)) (or_cases (nat_le o (8 * size)) (nat_le (2 ^ 64 - 8) o) h)
