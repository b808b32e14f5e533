-- The bytes of a word.
use Rattle.std.proofs.Common.{◌≡◌, ◌∙◌, ℕ, ◌+◌, ◌-◌, ◌*◌, ◌/◌, ◌%◌, ◌^◌, ◌<◌, suc, zero, ap, sym, refl, arith, rules, tests, subst, cond, Bool, true, false, eqb, Some, None, Option, inl, inr}
use Rattle.bs_words.specs.Memory.{Memory, Cell, cell_at, offset_in_cell, part, IsWidth}
use Rattle.bs_words.specs.declared.values.Value.{Value}
use Rattle.bs_words.specs.declared.values.Value.TheVariants.{Word, Block, Function}

-- bytes of a word replaced leave a word
pub record Fits (o b w n : ℕ) : Type 0 where
  pub put : n % 2 ^ (8 * b) * 2 ^ (8 * o) < 2 ^ 64
  pub whole : w - w / 2 ^ (8 * o) % 2 ^ (8 * b) * 2 ^ (8 * o) + n % 2 ^ (8 * b) * 2 ^ (8 * o) < 2 ^ 64

one : (o w n : ℕ) → o < 8 → w < 2 ^ 64 → Fits o 1 w n
one zero w n h small = record { put = omega arith; whole = omega arith }
one (suc zero) w n h small = record { put = omega arith; whole = omega arith }
one (suc (suc zero)) w n h small = record { put = omega arith; whole = omega arith }
one (suc (suc (suc zero))) w n h small = record { put = omega arith; whole = omega arith }
one (suc (suc (suc (suc zero)))) w n h small = record { put = omega arith; whole = omega arith }
one (suc (suc (suc (suc (suc zero))))) w n h small = record { put = omega arith; whole = omega arith }
one (suc (suc (suc (suc (suc (suc zero)))))) w n h small = record { put = omega arith; whole = omega arith }
one (suc (suc (suc (suc (suc (suc (suc zero))))))) w n h small = record { put = omega arith; whole = omega arith }
one (suc (suc (suc (suc (suc (suc (suc (suc o)))))))) w n h small = absurd (omega arith)

two : (o w n : ℕ) → o < 8 → o % 2 ≡ 0 → w < 2 ^ 64 → Fits o 2 w n
two zero w n h even small = record { put = omega arith; whole = omega arith }
two (suc zero) w n h even small = absurd (omega arith)
two (suc (suc zero)) w n h even small = record { put = omega arith; whole = omega arith }
two (suc (suc (suc zero))) w n h even small = absurd (omega arith)
two (suc (suc (suc (suc zero)))) w n h even small = record { put = omega arith; whole = omega arith }
two (suc (suc (suc (suc (suc zero))))) w n h even small = absurd (omega arith)
two (suc (suc (suc (suc (suc (suc zero)))))) w n h even small = record { put = omega arith; whole = omega arith }
two (suc (suc (suc (suc (suc (suc (suc o))))))) w n h even small = absurd (omega arith)

four : (o w n : ℕ) → o < 8 → o % 4 ≡ 0 → w < 2 ^ 64 → Fits o 4 w n
four zero w n h even small = record { put = omega arith; whole = omega arith }
four (suc zero) w n h even small = absurd (omega arith)
four (suc (suc zero)) w n h even small = absurd (omega arith)
four (suc (suc (suc zero))) w n h even small = absurd (omega arith)
four (suc (suc (suc (suc zero)))) w n h even small = record { put = omega arith; whole = omega arith }
four (suc (suc (suc (suc (suc o))))) w n h even small = absurd (omega arith)

eight : (o w n : ℕ) → o < 8 → o % 8 ≡ 0 → w < 2 ^ 64 → Fits o 8 w n
eight zero w n h even small = record { put = omega arith; whole = omega arith }
eight (suc o) w n h even small = absurd (omega arith)

pub replaced_fits : (o b w n : ℕ) → IsWidth b → o < 8 → o % b ≡ 0 → w < 2 ^ 64 → Fits o b w n
replaced_fits o b w n width below aligned small =
    elim width [
      | inl is ↦ subst (λ (k : ℕ). Fits o k w n) (sym is) (one o w n below small)
      | inr more ↦ elim more [
        | inl is ↦ subst (λ (k : ℕ). Fits o k w n) (sym is) (two o w n below (ap (λ k. o % k) (sym is) ∙ aligned) small)
        | inr more ↦ elim more [
          | inl is ↦ subst (λ (k : ℕ). Fits o k w n) (sym is) (four o w n below (ap (λ k. o % k) (sym is) ∙ aligned) small)
          | inr is ↦ subst (λ (k : ℕ). Fits o k w n) (sym is) (eight o w n below (ap (λ k. o % k) (sym is) ∙ aligned) small)
        ]
      ]
    ]

unit_is : (o : ℕ) → o < 8 → 1 * 2 ^ (8 * o) % 2 ^ 64 ≡ 2 ^ (8 * o)
unit_is zero h = refl
unit_is (suc zero) h = refl
unit_is (suc (suc zero)) h = refl
unit_is (suc (suc (suc zero))) h = refl
unit_is (suc (suc (suc (suc zero)))) h = refl
unit_is (suc (suc (suc (suc (suc zero))))) h = refl
unit_is (suc (suc (suc (suc (suc (suc zero)))))) h = refl
unit_is (suc (suc (suc (suc (suc (suc (suc zero))))))) h = refl
unit_is (suc (suc (suc (suc (suc (suc (suc (suc o)))))))) h = absurd (omega arith)

pub put_fits : (o b w n low : ℕ) → IsWidth b → o < 8 → o % b ≡ 0 → w < 2 ^ 64 → low ≡ n % 2 ^ (8 * b) →
    low * (1 * 2 ^ (8 * o) % 2 ^ 64) < 2 ^ 64
put_fits o b w n low width below aligned small is =
    let P : ℕ → ℕ → Type 0 = λ m u. m * u < 2 ^ 64 in
    let f = replaced_fits o b w n width below aligned small in
    subst (λ (m : ℕ). P m (1 * 2 ^ (8 * o) % 2 ^ 64)) (sym is)
    (subst (λ (u : ℕ). P (n % 2 ^ (8 * b)) u) (sym (unit_is o below)) f.put)

pub whole_fits : (o b w n low p : ℕ) → IsWidth b → o < 8 → o % b ≡ 0 → w < 2 ^ 64 → low ≡ n % 2 ^ (8 * b) → p ≡ part w o b →
    w - p * (1 * 2 ^ (8 * o) % 2 ^ 64) + low * (1 * 2 ^ (8 * o) % 2 ^ 64) < 2 ^ 64
whole_fits o b w n low p width below aligned small is was =
    let f = replaced_fits o b w n width below aligned small in
    subst (λ (m : ℕ). w - p * (1 * 2 ^ (8 * o) % 2 ^ 64) + m * (1 * 2 ^ (8 * o) % 2 ^ 64) < 2 ^ 64) (sym is)
    (subst (λ (m : ℕ). w - m * (1 * 2 ^ (8 * o) % 2 ^ 64) + n % 2 ^ (8 * b) * (1 * 2 ^ (8 * o) % 2 ^ 64) < 2 ^ 64) (sym was)
    (subst (λ (u : ℕ). w - part w o b * u + n % 2 ^ (8 * b) * u < 2 ^ 64) (sym (unit_is o below)) f.whole))

-- an access that lies in a cell is at a multiple of its bytes there
within_cell : (a b : ℕ) → IsWidth b → a % b ≡ 0 → a % 8 % b ≡ 0
within_cell a b width aligned =
    elim width [
      | inl is ↦ subst (λ (k : ℕ). a % 8 % k ≡ 0) (sym is) (omega arith)
      | inr more ↦ elim more [
        | inl is ↦ let h : a % 2 ≡ 0 = ap (λ k. a % k) (sym is) ∙ aligned in subst (λ (k : ℕ). a % 8 % k ≡ 0) (sym is) (omega arith)
        | inr more ↦ elim more [
          | inl is ↦ let h : a % 4 ≡ 0 = ap (λ k. a % k) (sym is) ∙ aligned in subst (λ (k : ℕ). a % 8 % k ≡ 0) (sym is) (omega arith)
          | inr is ↦ let h : a % 8 ≡ 0 = ap (λ k. a % k) (sym is) ∙ aligned in subst (λ (k : ℕ). a % 8 % k ≡ 0) (sym is) (omega arith)
        ]
      ]
    ]

test_holds : {A : Type 0} (t : Bool) (o : Option A) (x : A) → cond t o None ≡ Some x → t ≡ true
test_holds true o x h = refl
test_holds false o x h = cc

multiple : (n : ℕ) → eqb n 0 ≡ true → n ≡ 0
multiple n h = search (rules, tests)

when_some : {A : Type 0} (a b : ℕ) (o : Option A) (x : A) → cond (eqb (a % b) 0) o None ≡ Some x → a % b ≡ 0
when_some a b o x h = multiple (a % b) (test_holds (eqb (a % b) 0) o x h)

pub aligned_in_cell : (m : Memory) (b : ℕ) (v : Value) (c : Cell) → IsWidth b → cell_at m b v ≡ Some c → offset_in_cell v % b ≡ 0
aligned_in_cell m b (Word a) c width h = within_cell a b width (when_some a b _ c h)
aligned_in_cell m b (Block s o) c width h = within_cell o b width (when_some o b _ c h)
aligned_in_cell m b (Function f) c width h = absurd (cc)
