-- The words of a constant leave it in their register.
use Rattle.std.proofs.Common.{◌≡◌, ℕ, zero, suc, ◌+◌, ◌-◌, ◌*◌, ◌%◌, ◌^◌, ◌<◌, ◌≤◌, ◌⊎◌, inl, inr, Bool, true, false, cond, nat_eq, nat_lt, List, [], ◌∷◌, ◌++◌, refl, sym, ◌∙◌, ap, arith, mod-eq_of_lt}
use Rattle.std.proofs.lemmas.Bool.{cases_lt}
use Rattle.std.proofs.lemmas.Nat.{pow-add, mul-mod_first}
use Rattle.std.proofs.lemmas.Bool.Decides.{nat_tests}
use Rattle.bs_words.specs.Word.{add_word, shl_word, sext_word}
use Rattle.bs_words.proofs.Word.{sext-low, sext-high}
use Rattle.mach_ir.specs.Forms.{is_immediate_12}
use Rattle.rv_isa.specs.Registers.{register_number}
use Rattle.rv_isa.specs.declared.register.Register.{Register}
use Rattle.rv_isa.specs.declared.register.Register.TheVariants.{Zero}
use Rattle.rv_pieces.specs.declared.piece.Piece.{Piece}
use Rattle.rv_emit_rules.specs.Instructions.{low_12, addi, addiw, lui}
use Rattle.rv_emit_rules.specs.Constants.{is_word_32, above_12, lower_part, constant_32, upper_constant, shifted, constant_shifted, constant_pieces}
use Rattle.rv_emit_rules.specs.Values.{piece_value, value_after, Makes, makes_first, makes_upper, makes_lower, makes_sum, makes_shift}
use Rattle.rv_emit_rules.specs.Traversal.{EachPiece, each_none, each_more}
use Rattle.rv_emit_rules.proofs.Traverse.{join, one, chosen}

-- ---- which instructions they are

module _ (r : Register) where
  lower-made : (w : ℕ) → EachPiece (Makes r) (lower_part r w)
  lower-made w = chosen (nat_eq (low_12 w) 0) each_none (one (makes_lower w))

  word-made : (w : ℕ) → EachPiece (Makes r) (constant_32 r w)
  word-made w = chosen (is_immediate_12 w) (one (makes_first w)) (each_more (makes_upper (above_12 w)) (lower-made w))

  shifted-made : (amount : ℕ) → EachPiece (Makes r) (shifted r amount)
  shifted-made zero = each_none
  shifted-made (suc n) = one (makes_shift (suc n))

  steps-made : (n w amount : ℕ) → EachPiece (Makes r) (constant_shifted n r w amount)
  steps-made zero w amount = join (word-made w) (shifted-made amount)
  steps-made (suc n) w amount =
      chosen (is_word_32 w) (join (word-made w) (shifted-made amount))
      (chosen (nat_eq (low_12 w) 0) (steps-made n (upper_constant w) (amount + 12))
      (join (steps-made n (upper_constant w) 12) (each_more (makes_sum w) (shifted-made amount))))

  pub constant_is_made : (w : ℕ) → EachPiece (Makes r) (constant_pieces r w)
  unfolding constant_pieces
  constant_is_made w = steps-made 3 w 0

-- ---- immediates

-- the lowest 12 bits of a word, extended by their sign
pub by_12 : (w : ℕ) →
    ((w % 4096 < 2048) × (sext_word (low_12 w) 12 ≡ w % 4096)) ⊎ ((2048 ≤ w % 4096) × (sext_word (low_12 w) 12 ≡ w % 4096 + 0xFFFFFFFFFFFFF000))
by_12 w = elim (cases_lt (w % 4096) 2048) [
  | inl l ↦ (let h : low_12 w % 4096 < 2048 = omega arith in
      let e : low_12 w % 4096 ≡ sext_word (low_12 w) 12 = sext-low (low_12 w) 12 (omega arith) h in
      let f : sext_word (low_12 w) 12 ≡ w % 4096 = omega arith in inl (l, f))
  | inr g ↦ (let h : 2048 ≤ low_12 w % 4096 = omega arith in
      let e : low_12 w % 4096 + 0xFFFFFFFFFFFFF000 ≡ sext_word (low_12 w) 12 = sext-high (low_12 w) 12 (omega arith) h in
      let f : sext_word (low_12 w) 12 ≡ w % 4096 + 0xFFFFFFFFFFFFF000 = omega arith in inr (g, f))
]

-- the lowest 32 bits of a number, extended by their sign
pub by_32 : (n : ℕ) →
    ((n % 4294967296 < 2147483648) × (sext_word n 32 ≡ n % 4294967296))
    ⊎ ((2147483648 ≤ n % 4294967296) × (sext_word n 32 ≡ n % 4294967296 + 0xFFFFFFFF00000000))
by_32 n = elim (cases_lt (n % 4294967296) 2147483648) [
  | inl l ↦ (let e : n % 4294967296 ≡ sext_word n 32 = sext-low n 32 (omega arith) l in
      let f : sext_word n 32 ≡ n % 4294967296 = omega arith in inl (l, f))
  | inr g ↦ (let e : n % 4294967296 + 0xFFFFFFFF00000000 ≡ sext_word n 32 = sext-high n 32 (omega arith) g in
      let f : sext_word n 32 ≡ n % 4294967296 + 0xFFFFFFFF00000000 = omega arith in inr (g, f))
]

-- ---- tests

pub immediate-by : (w : ℕ) → is_immediate_12 w ≡ true → (w < 2048) ⊎ (0xFFFFFFFFFFFFF800 ≤ w)
immediate-by w h = elim (cases_lt w 2048) [
  | inl l ↦ inl l
  | inr g ↦ elim (cases_lt w 0xFFFFFFFFFFFFF800) [ inl k ↦ absurd (grind (arith, nat_tests)) | inr k ↦ inr k ]
]

pub word-by : (w : ℕ) → is_word_32 w ≡ true → (w < 0x80000000) ⊎ (0xFFFFFFFF80000000 ≤ w)
word-by w h = elim (cases_lt w 0x80000000) [
  | inl l ↦ inl l
  | inr g ↦ elim (cases_lt w 0xFFFFFFFF80000000) [ inl k ↦ absurd (grind (arith, nat_tests)) | inr k ↦ inr k ]
]

pub is_word : (w : ℕ) → (w < 0x80000000) ⊎ (0xFFFFFFFF80000000 ≤ w) → is_word_32 w ≡ true
is_word w (inl l) = grind (arith, nat_tests)
is_word w (inr l) = grind (arith, nat_tests)

-- ---- sums

-- an immediate of 12 bits is itself
pub first_is : (w : ℕ) → w < 2 ^ 64 → is_immediate_12 w ≡ true → add_word 0 (sext_word (low_12 w) 12) ≡ w
unfolding add_word
first_is w b h =
    let s : ℕ = sext_word (low_12 w) 12 in
    elim (immediate-by w h) [
      | inl l ↦ elim (by_12 w) [ inl x ↦ (let e = x.1 in omega (arith, e)) | inr x ↦ absurd (let g = x.0 in omega (arith, g)) ]
      | inr l ↦ elim (by_12 w) [ inl x ↦ absurd (let g = x.0 in omega (arith, g)) | inr x ↦ (let e = x.1 in omega (arith, e)) ]
    ]

-- the upper 20 bits alone
pub upper_is : (w : ℕ) → w < 2 ^ 64 → is_word_32 w ≡ true → low_12 w ≡ 0 → sext_word (4096 * (above_12 w % 1048576)) 32 ≡ w
upper_is w b h z =
    elim (word-by w h) [
      | inl l ↦ elim (by_32 (4096 * (above_12 w % 1048576))) [ inl x ↦ (let e = x.1 in omega (arith, e)) | inr x ↦ absurd (let g = x.0 in omega (arith, g)) ]
      | inr l ↦ elim (by_32 (4096 * (above_12 w % 1048576))) [ inl x ↦ absurd (let g = x.0 in omega (arith, g)) | inr x ↦ (let e = x.1 in omega (arith, e)) ]
    ]

-- what is left of the 32 bits, whatever was added at first and in the end
low-half : (w a b : ℕ) → ((4096 * (above_12 w % 1048576) % 4294967296 < 2147483648) × (a ≡ 4096 * (above_12 w % 1048576) % 4294967296))
    ⊎ ((2147483648 ≤ 4096 * (above_12 w % 1048576) % 4294967296) × (a ≡ 4096 * (above_12 w % 1048576) % 4294967296 + 0xFFFFFFFF00000000)) →
    ((w % 4096 < 2048) × (b ≡ w % 4096)) ⊎ ((2048 ≤ w % 4096) × (b ≡ w % 4096 + 0xFFFFFFFFFFFFF000)) →
    (a + b) % 2 ^ 64 % 4294967296 ≡ w % 4294967296
low-half w a b (inl x) (inl y) = let e = x.1 in let f = y.1 in let g = y.0 in omega (arith, e, f, g)
low-half w a b (inl x) (inr y) = let e = x.1 in let f = y.1 in let g = y.0 in omega (arith, e, f, g)
low-half w a b (inr x) (inl y) = let e = x.1 in let f = y.1 in let g = y.0 in omega (arith, e, f, g)
low-half w a b (inr x) (inr y) = let e = x.1 in let f = y.1 in let g = y.0 in omega (arith, e, f, g)

-- the upper bits and the lower ones, on 32 bits
pub word_is : (w : ℕ) → w < 2 ^ 64 → is_word_32 w ≡ true →
    sext_word (add_word (sext_word (4096 * (above_12 w % 1048576)) 32) (sext_word (low_12 w) 12)) 32 ≡ w
unfolding add_word
word_is w b h =
    let s : ℕ = add_word (sext_word (4096 * (above_12 w % 1048576)) 32) (sext_word (low_12 w) 12) in
    let same : s % 4294967296 ≡ w % 4294967296 =
    low-half w (sext_word (4096 * (above_12 w % 1048576)) 32) (sext_word (low_12 w) 12) (by_32 (4096 * (above_12 w % 1048576))) (by_12 w) in
    elim (word-by w h) [
      | inl l ↦ elim (by_32 s) [ inl x ↦ (let e = x.1 in omega (arith, e, same)) | inr x ↦ absurd (let g = x.0 in omega (arith, g, same)) ]
      | inr l ↦ elim (by_32 s) [ inl x ↦ absurd (let g = x.0 in omega (arith, g, same)) | inr x ↦ (let e = x.1 in omega (arith, e, same)) ]
    ]

-- ---- the word above the lowest 12 bits

higher-by : (w : ℕ) → ((above_12 w % 0x10000000000000 < 0x8000000000000) × (upper_constant w ≡ above_12 w % 0x10000000000000))
    ⊎ ((0x8000000000000 ≤ above_12 w % 0x10000000000000) × (upper_constant w ≡ above_12 w % 0x10000000000000 + 0xFFF0000000000000))
higher-by w = elim (cases_lt (above_12 w % 0x10000000000000) 0x8000000000000) [
  | inl l ↦ (let e : nat_lt (above_12 w % 0x10000000000000) 0x8000000000000 ≡ true = grind (arith, nat_tests) in
      inl (l, ap (λ (t : Bool). cond t (above_12 w % 0x10000000000000) (above_12 w % 0x10000000000000 + 0xFFF0000000000000)) e))
  | inr g ↦ (let e : nat_lt (above_12 w % 0x10000000000000) 0x8000000000000 ≡ false = grind (arith, nat_tests) in
      inr (g, ap (λ (t : Bool). cond t (above_12 w % 0x10000000000000) (above_12 w % 0x10000000000000 + 0xFFF0000000000000)) e))
]

pub higher-below : (w : ℕ) → upper_constant w < 2 ^ 64
higher-below w = elim (higher-by w) [
  | inl x ↦ (let e = x.1 in let g = x.0 in omega (arith, e, g))
  | inr x ↦ (let e = x.1 in let g =
      x.0 in omega (arith, e, g))
]

sums : (w h b : ℕ) → w < 2 ^ 64 →
    ((above_12 w % 0x10000000000000 < 0x8000000000000) × (h ≡ above_12 w % 0x10000000000000))
    ⊎ ((0x8000000000000 ≤ above_12 w % 0x10000000000000) × (h ≡ above_12 w % 0x10000000000000 + 0xFFF0000000000000)) →
    ((w % 4096 < 2048) × (b ≡ w % 4096)) ⊎ ((2048 ≤ w % 4096) × (b ≡ w % 4096 + 0xFFFFFFFFFFFFF000)) →
    (h * 4096 % 2 ^ 64 + b) % 2 ^ 64 ≡ w
sums w h b k (inl x) (inl y) = let e = x.1 in let f = y.1 in let g = y.0 in omega (arith, e, f, g)
sums w h b k (inl x) (inr y) = let e = x.1 in let f = y.1 in let g = y.0 in omega (arith, e, f, g)
sums w h b k (inr x) (inl y) = let e = x.1 in let f = y.1 in let g = y.0 in omega (arith, e, f, g)
sums w h b k (inr x) (inr y) = let e = x.1 in let f = y.1 in let g = y.0 in omega (arith, e, f, g)

-- shifted by 12 bits, and with the lowest 12 bits added, it is the word
pub higher_is : (w : ℕ) → w < 2 ^ 64 → add_word (shl_word (upper_constant w) 12) (sext_word (low_12 w) 12) ≡ w
unfolding add_word shl_word
higher_is w k = sums w (upper_constant w) (sext_word (low_12 w) 12) k (higher-by w) (by_12 w)

-- and alone where these are 0
pub higher_alone : (w : ℕ) → w < 2 ^ 64 → low_12 w ≡ 0 → upper_constant w * 4096 % 2 ^ 64 ≡ w
higher_alone w k z = elim (higher-by w) [ inl x ↦ (let e = x.1 in omega (arith, e)) | inr x ↦ (let e = x.1 in omega (arith, e)) ]

-- a word that fits so many bits with its sign
abbrev Spans : ℕ → ℕ → Type 0
Spans n w = (w ≤ n) ⊎ ((2 ^ 64 - n ≤ w) × (w < 2 ^ 64))

spans_52 : (w : ℕ) → Spans 0x8000000000000 (upper_constant w)
spans_52 w = elim (higher-by w) [
  | inl x ↦ (let e = x.1 in let g = x.0 in let h : upper_constant w ≤ 0x8000000000000 = omega (arith, e, g) in inl h)
  | inr x ↦ (let e = x.1 in let g = x.0 in let h : 2 ^ 64 - 0x8000000000000 ≤ upper_constant w = omega (arith, e, g) in inr (h, higher-below w))
]

spans_40 : (w : ℕ) → Spans 0x8000000000000 w → Spans 0x8000000000 (upper_constant w)
spans_40 w (inl l) = elim (higher-by w) [
  | inl x ↦ (let e = x.1 in let h : upper_constant w ≤ 0x8000000000 = omega (arith, e) in inl h)
  | inr x ↦ absurd (let g =
      x.0 in omega (arith, g))
]
spans_40 w (inr l) =
    let a = l.0 in
    let b = l.1 in
    elim (higher-by w) [
      | inl x ↦ (let e = x.1 in let g = x.0 in let h : upper_constant w ≤ 0x8000000000 = omega (arith, e, g, a, b) in inl h)
      | inr x ↦ (let e = x.1 in let g = x.0 in let h : 2 ^ 64 - 0x8000000000 ≤ upper_constant w = omega (arith, e, g, a, b) in inr (h, higher-below w))
    ]

spans_28 : (w : ℕ) → Spans 0x8000000000 w → Spans 0x8000000 (upper_constant w)
spans_28 w (inl l) = elim (higher-by w) [
  | inl x ↦ (let e = x.1 in let h : upper_constant w ≤ 0x8000000 = omega (arith, e) in inl h)
  | inr x ↦ absurd (let g =
      x.0 in omega (arith, g))
]
spans_28 w (inr l) =
    let a = l.0 in
    let b = l.1 in
    elim (higher-by w) [
      | inl x ↦ (let e = x.1 in let g = x.0 in let h : upper_constant w ≤ 0x8000000 = omega (arith, e, g, a, b) in inl h)
      | inr x ↦ (let e = x.1 in let g = x.0 in let h : 2 ^ 64 - 0x8000000 ≤ upper_constant w = omega (arith, e, g, a, b) in inr (h, higher-below w))
    ]

spans-word : (w : ℕ) → Spans 0x8000000 w → is_word_32 w ≡ true
spans-word w (inl l) = is_word w (let h : w < 0x80000000 = omega arith in inl h)
spans-word w (inr l) = is_word w (let a = l.0 in let h : 0xFFFFFFFF80000000 ≤ w = omega (arith, a) in inr h)

-- three times 12 bits leave 32
pub three_steps : (w : ℕ) → is_word_32 (upper_constant (upper_constant (upper_constant w))) ≡ true
three_steps w = spans-word (upper_constant (upper_constant (upper_constant w))) (spans_28 (upper_constant (upper_constant w)) (spans_40 (upper_constant w) (spans_52 w)))

-- ---- the whole

-- after so many steps 32 bits are left
abbrev Enough : ℕ → ℕ → Type 0
Enough zero w = is_word_32 w ≡ true
Enough (suc n) w = Enough n (upper_constant w)

after-join : (xs ys : List Piece) (v : ℕ) → value_after (xs ++ ys) v ≡ value_after ys (value_after xs v)
after-join [] ys v = refl
after-join (x ∷ xs) ys v = after-join xs ys (piece_value x v)

module _ (r : Register) (k : ℕ) (other : register_number r ≡ suc k) where
  own : (v : ℕ) → cond (nat_eq (register_number r) 0) 0 v ≡ v
  own v = let e : nat_eq (register_number r) 0 ≡ false = grind (arith, nat_tests) in ap (λ (t : Bool). cond t 0 v) e

  add-value : (w v : ℕ) → piece_value (addi r r w) v ≡ add_word v (sext_word (low_12 w) 12)
  add-value w v = ap (λ (n : ℕ). add_word n (sext_word (low_12 w) 12)) (own v)

  by-test : (w v : ℕ) (b c : Bool) → is_immediate_12 w ≡ b → nat_eq (low_12 w) 0 ≡ c → w < 2 ^ 64 → is_word_32 w ≡ true →
      value_after (cond b (addi r Zero w ∷ []) (lui r (above_12 w) ∷ cond c [] (addiw r r w ∷ []))) v ≡ w
  by-test w v true c e f b h = first_is w b e
  by-test w v false true e f b h = upper_is w b h (let z : low_12 w ≡ 0 = grind (arith, nat_tests) in z)
  by-test w v false false e f b h = word_is w b h

  pub word-value : (w v : ℕ) → w < 2 ^ 64 → is_word_32 w ≡ true → value_after (constant_32 r w) v ≡ w
  word-value w v b h = by-test w v (is_immediate_12 w) (nat_eq (low_12 w) 0) refl refl b h

  shifted-value : (amount w : ℕ) → w < 2 ^ 64 → amount < 64 → value_after (shifted r amount) w ≡ shl_word w amount
  unfolding shl_word
  shifted-value zero w b s = let e : w ≡ w * 2 ^ 0 % 2 ^ 64 = omega arith in e
  shifted-value (suc n) w b s = ap (λ (t : ℕ). shl_word w t) (mod-eq_of_lt s)

  ended-value : (w amount v : ℕ) → w < 2 ^ 64 → is_word_32 w ≡ true → amount < 64 → value_after (constant_32 r w ++ shifted r amount) v ≡ shl_word w amount
  ended-value w amount v b h s =
      after-join (constant_32 r w) (shifted r amount) v
      ∙ ap (λ (t : ℕ). value_after (shifted r amount) t) (word-value w v b h) ∙ shifted-value amount w b s

  once-more : (w amount : ℕ) → w < 2 ^ 64 → low_12 w ≡ 0 → shl_word (upper_constant w) (amount + 12) ≡ shl_word w amount
  unfolding shl_word
  once-more w amount b z =
      let p : 2 ^ (amount + 12) ≡ 2 ^ amount * 2 ^ 12 = pow-add 2 amount 12 in
      let q : upper_constant w * 2 ^ (amount + 12) ≡ upper_constant w * 4096 * 2 ^ amount = ap (λ (t : ℕ). upper_constant w * t) p ∙ omega arith in
      ap (λ (t : ℕ). t % 2 ^ 64) q ∙ sym (mul-mod_first (upper_constant w * 4096) (2 ^ amount) (2 ^ 64)) ∙ ap (λ (t : ℕ). t * 2 ^ amount % 2 ^ 64) (higher_alone w b z)

  steps-by : (n : ℕ) → ((w amount v : ℕ) → w < 2 ^ 64 → Enough n w → amount + 12 * n < 64 → value_after (constant_shifted n r w amount) v ≡ shl_word w amount) →
      (w amount v : ℕ) (b c : Bool) → is_word_32 w ≡ b → nat_eq (low_12 w) 0 ≡ c → w < 2 ^ 64 → Enough n (upper_constant w) → amount + 12 * suc n < 64 →
      value_after (cond b (constant_32 r w ++ shifted r amount) (cond c (constant_shifted n r (upper_constant w) (amount + 12)) (constant_shifted n r
      (upper_constant w) 12 ++ addi r r w ∷ shifted r amount))) v
      ≡ shl_word w amount
  steps-by n rec w amount v true c f g b e s = ended-value w amount v b f (omega arith)
  steps-by n rec w amount v false true f g b e s =
      let z : low_12 w ≡ 0 = grind (arith, nat_tests) in
      rec (upper_constant w) (amount + 12) v (higher-below w) e (omega arith) ∙ once-more w amount b z
  steps-by n rec w amount v false false f g b e s =
      after-join (constant_shifted n r (upper_constant w) 12) (addi r r w ∷ shifted r amount) v
      ∙ ap (λ (t : ℕ). value_after (shifted r amount) (piece_value (addi r r w) t)) (rec (upper_constant w) 12 v (higher-below w) e (omega arith))
      ∙ ap (λ (t : ℕ). value_after (shifted r amount) t) (add-value w (shl_word (upper_constant w) 12) ∙ higher_is w b)
      ∙ shifted-value amount w b (omega arith)

  steps-value : (n w amount v : ℕ) → w < 2 ^ 64 → Enough n w → amount + 12 * n < 64 → value_after (constant_shifted n r w amount) v ≡ shl_word w amount
  steps-value zero w amount v b e s = ended-value w amount v b e (omega arith)
  steps-value (suc n) w amount v b e s = steps-by n (steps-value n) w amount v (is_word_32 w) (nat_eq (low_12 w) 0) refl refl b e s

  by-none : (w : ℕ) → w < 2 ^ 64 → shl_word w 0 ≡ w
  unfolding shl_word
  by-none w b = omega arith

  -- the words of a constant leave it in their register, whatever was there
  pub constant_is : (w v : ℕ) → w < 2 ^ 64 → value_after (constant_pieces r w) v ≡ w
  unfolding constant_pieces
  constant_is w v b = steps-value 3 w 0 v b (three_steps w) (omega arith) ∙ by-none w b
