-- The offsets of branches, jumps and addresses, read as the machine reads them, lead to where they were asked to.
use Rattle.std.proofs.Common.{◌≡◌, ℕ, ◌+◌, ◌-◌, ◌*◌, ◌/◌, ◌%◌, ◌^◌, ◌<◌, ◌≤◌, ◌⊎◌, inl, inr, refl, arith, ◌∙◌, sym, ⊎_elim}
use Rattle.std.proofs.lemmas.Bool.{cases_lt}
use Rattle.bs_words.specs.Word.{add_word}
use Rattle.bs_words.proofs.Word.{sext-high, sext-low}
use Rattle.machine_laws.proofs.Immediates.{by_12, by_20, Extended}
use Rattle.rv_layout_rules.specs.Words.{distance, branch_offset, jal_offset, upper}
use Rattle.rv_emit_rules.specs.Instructions.{low_12}
use Rattle.rv_machine.specs.Arithmetic.{imm_i, imm_b, imm_j, imm_u}

low_13 : (x : ℕ) → x < 4096 → imm_b x ≡ x
low_13 x l =
    let e : x % 2 ^ 13 ≡ x = omega (arith, l) in
    let h : x % 2 ^ 13 < 2 ^ (13 - 1) = omega (arith, l) in
    sym (sext-low x 13 (omega arith) h) ∙ e

high_13 : (x : ℕ) → 4096 ≤ x → x < 8192 → imm_b x ≡ x + 2 ^ 64 - 2 * 4096
high_13 x l u =
    let e : x % 2 ^ 13 + (2 ^ 64 - 2 ^ 13) ≡ x + 2 ^ 64 - 2 * 4096 = omega (arith, u) in
    let h : 2 ^ (13 - 1) ≤ x % 2 ^ 13 = omega (arith, l, u) in
    sym (sext-high x 13 (omega arith) h) ∙ e

pub by_13 : (x : ℕ) → x < 8192 → Extended 4096 x (imm_b x)
by_13 x u = ⊎_elim (λ l. inl (l, low_13 x l)) (λ l. inr (l, high_13 x l u)) (cases_lt x 4096)

low_21 : (x : ℕ) → x < 1048576 → imm_j x ≡ x
low_21 x l =
    let e : x % 2 ^ 21 ≡ x = omega (arith, l) in
    let h : x % 2 ^ 21 < 2 ^ (21 - 1) = omega (arith, l) in
    sym (sext-low x 21 (omega arith) h) ∙ e

high_21 : (x : ℕ) → 1048576 ≤ x → x < 2097152 → imm_j x ≡ x + 2 ^ 64 - 2 * 1048576
high_21 x l u =
    let e : x % 2 ^ 21 + (2 ^ 64 - 2 ^ 21) ≡ x + 2 ^ 64 - 2 * 1048576 = omega (arith, u) in
    let h : 2 ^ (21 - 1) ≤ x % 2 ^ 21 = omega (arith, l, u) in
    sym (sext-high x 21 (omega arith) h) ∙ e

pub by_21 : (x : ℕ) → x < 2097152 → Extended 1048576 x (imm_j x)
by_21 x u = ⊎_elim (λ l. inl (l, low_21 x l)) (λ l. inr (l, high_21 x l u)) (cases_lt x 1048576)

-- ---- sums

sum_of_two : (a b c : ℕ) → (a + b) % 2 ^ 64 ≡ c → add_word a b ≡ c
unfolding add_word
sum_of_two a b c e = e

sum_of_three : (a b c t : ℕ) → (a + b + c) % 2 ^ 64 ≡ t → add_word (add_word a b) c ≡ t
unfolding add_word
sum_of_three a b c t e = omega (arith, e)

-- ---- where they lead

-- the distance, forwards and backwards
far_apart : (from to : ℕ) → from < 2 ^ 31 → to < 2 ^ 31 → ((from ≤ to) × (distance from to + from ≡ to)) ⊎ ((to < from) × (distance from to + from ≡ to + 2 ^ 32))
far_apart from to h k = ⊎_elim
    (λ l. inr (l, omega (arith, l, h, k)))
    (λ l. inl (l, omega (arith, l, h, k)))
    (cases_lt to from)

branch_by : (from to d x : ℕ) → from < 2 ^ 31 → to < from + 4096 → from ≤ to + 4096 →
    (((from ≤ to) × (d + from ≡ to)) ⊎ ((to < from) × (d + from ≡ to + 2 ^ 32))) → Extended 4096 (d % 2 ^ 13) x → (from + x) % 2 ^ 64 ≡ to
branch_by from to d x f h k (inl a) (inl b) = let a0 = a.0 in let a1 = a.1 in let b0 = b.0 in let b1 = b.1 in omega arith
branch_by from to d x f h k (inl a) (inr b) = let a0 = a.0 in let a1 = a.1 in let b0 = b.0 in let b1 = b.1 in omega arith
branch_by from to d x f h k (inr a) (inl b) = let a0 = a.0 in let a1 = a.1 in let b0 = b.0 in let b1 = b.1 in omega arith
branch_by from to d x f h k (inr a) (inr b) = let a0 = a.0 in let a1 = a.1 in let b0 = b.0 in let b1 = b.1 in omega arith

-- A branch that reaches comes to where it leads.
pub branch_lands : (from to : ℕ) → from < 2 ^ 31 → to < 2 ^ 31 → to < from + 4096 → from ≤ to + 4096 → add_word from (imm_b (branch_offset from to)) ≡ to
branch_lands from to f t h k =
    sum_of_two from (imm_b (branch_offset from to)) to
    (branch_by from to (distance from to) (imm_b (branch_offset from to)) f h k (far_apart from to f t) (by_13 (branch_offset from to) (omega arith)))

jal_by : (from to d x : ℕ) → from < 2 ^ 31 → to < from + 1048576 → from ≤ to + 1048576 →
    (((from ≤ to) × (d + from ≡ to)) ⊎ ((to < from) × (d + from ≡ to + 2 ^ 32))) → Extended 1048576 (d % 2 ^ 21) x → (from + x) % 2 ^ 64 ≡ to
jal_by from to d x f h k (inl a) (inl b) = let a0 = a.0 in let a1 = a.1 in let b0 = b.0 in let b1 = b.1 in omega arith
jal_by from to d x f h k (inl a) (inr b) = let a0 = a.0 in let a1 = a.1 in let b0 = b.0 in let b1 = b.1 in omega arith
jal_by from to d x f h k (inr a) (inl b) = let a0 = a.0 in let a1 = a.1 in let b0 = b.0 in let b1 = b.1 in omega arith
jal_by from to d x f h k (inr a) (inr b) = let a0 = a.0 in let a1 = a.1 in let b0 = b.0 in let b1 = b.1 in omega arith

-- So does a jal.
pub jal_lands : (from to : ℕ) → from < 2 ^ 31 → to < 2 ^ 31 → to < from + 1048576 → from ≤ to + 1048576 → add_word from (imm_j (jal_offset from to)) ≡ to
jal_lands from to f t h k =
    sum_of_two from (imm_j (jal_offset from to)) to
    (jal_by from to (distance from to) (imm_j (jal_offset from to)) f h k (far_apart from to f t) (by_21 (jal_offset from to) (omega arith)))

-- the two parts of a number make it again, up to 2 ^ 32
parts_by : (n high low x y : ℕ) → n < 2 ^ 32 → high ≡ (n + 2048) / 4096 % 2 ^ 20 → low ≡ n % 4096 →
    Extended (2 ^ 31) (4096 * high) x → Extended 2048 low y →
    ((n < 2 ^ 31 - 2048) × ((x + y) % 2 ^ 64 ≡ n)) ⊎ ((2 ^ 31 - 2048 ≤ n) × ((x + y) % 2 ^ 64 ≡ n + (2 ^ 64 - 2 ^ 32)))
parts_by n high low x y h eh el bx by' = ⊎_elim
    (λ l. inl (l, lower_half bx by' l)) (λ l. inr (l, upper_half bx by' l)) (cases_lt n (2 ^ 31 - 2048))
  where
    lower_half : Extended (2 ^ 31) (4096 * high) x → Extended 2048 low y → n < 2 ^ 31 - 2048 → (x + y) % 2 ^ 64 ≡ n
    lower_half (inl a) (inl b) l = let a0 = a.0 in let a1 = a.1 in let b0 = b.0 in let b1 = b.1 in omega arith
    lower_half (inl a) (inr b) l = let a0 = a.0 in let a1 = a.1 in let b0 = b.0 in let b1 = b.1 in omega arith
    lower_half (inr a) (inl b) l = let a0 = a.0 in let a1 = a.1 in let b0 = b.0 in let b1 = b.1 in omega arith
    lower_half (inr a) (inr b) l = let a0 = a.0 in let a1 = a.1 in let b0 = b.0 in let b1 = b.1 in omega arith

    upper_half : Extended (2 ^ 31) (4096 * high) x → Extended 2048 low y → 2 ^ 31 - 2048 ≤ n → (x + y) % 2 ^ 64 ≡ n + (2 ^ 64 - 2 ^ 32)
    upper_half (inl a) (inl b) l = let a0 = a.0 in let a1 = a.1 in let b0 = b.0 in let b1 = b.1 in omega arith
    upper_half (inl a) (inr b) l = let a0 = a.0 in let a1 = a.1 in let b0 = b.0 in let b1 = b.1 in omega arith
    upper_half (inr a) (inl b) l = let a0 = a.0 in let a1 = a.1 in let b0 = b.0 in let b1 = b.1 in omega arith
    upper_half (inr a) (inr b) l = let a0 = a.0 in let a1 = a.1 in let b0 = b.0 in let b1 = b.1 in omega arith

pub parts : (n : ℕ) → n < 2 ^ 32 →
    ((n < 2 ^ 31 - 2048) × ((imm_u (upper n) + imm_i (low_12 n)) % 2 ^ 64 ≡ n)) ⊎ ((2 ^ 31 - 2048 ≤ n) × ((imm_u (upper n) + imm_i (low_12 n)) % 2 ^ 64 ≡ n + (2 ^ 64 - 2 ^ 32)))
parts n h = parts_by n (upper n) (low_12 n) (imm_u (upper n)) (imm_i (low_12 n)) h refl refl (by_20 (upper n) (omega arith)) (by_12 (low_12 n) (omega arith))

-- A number comes into a register by its two parts.
pub number_lands : (n : ℕ) → n < 2 ^ 31 - 2048 → add_word (imm_u (upper n)) (imm_i (low_12 n)) ≡ n
number_lands n h = sum_of_two (imm_u (upper n)) (imm_i (low_12 n)) n (⊎_elim (λ a. a.1) (λ a. absurd (omega (arith, h, a.0))) (parts n (omega (arith, h))))

far_by : (from to d x y : ℕ) → from < 2 ^ 30 → to < 2 ^ 30 →
    (((from ≤ to) × (d + from ≡ to)) ⊎ ((to < from) × (d + from ≡ to + 2 ^ 32))) →
    (((d < 2 ^ 31 - 2048) × ((x + y) % 2 ^ 64 ≡ d)) ⊎ ((2 ^ 31 - 2048 ≤ d) × ((x + y) % 2 ^ 64 ≡ d + (2 ^ 64 - 2 ^ 32)))) →
    (from + x + y) % 2 ^ 64 ≡ to
far_by from to d x y f t (inl a) (inl b) = let a0 = a.0 in let a1 = a.1 in let b0 = b.0 in let b1 = b.1 in omega arith
far_by from to d x y f t (inl a) (inr b) = let a0 = a.0 in let a1 = a.1 in let b0 = b.0 in let b1 = b.1 in omega arith
far_by from to d x y f t (inr a) (inl b) = let a0 = a.0 in let a1 = a.1 in let b0 = b.0 in let b1 = b.1 in omega arith
far_by from to d x y f t (inr a) (inr b) = let a0 = a.0 in let a1 = a.1 in let b0 = b.0 in let b1 = b.1 in omega arith

-- An auipc and what adds the lower part come to any address of the code and the data from any other.
pub far_lands : (from to : ℕ) → from < 2 ^ 30 → to < 2 ^ 30 →
    add_word (add_word from (imm_u (upper (distance from to)))) (imm_i (low_12 (distance from to))) ≡ to
far_lands from to f t =
    let d = distance from to in
    sum_of_three from (imm_u (upper d)) (imm_i (low_12 d)) to
    (far_by from to d (imm_u (upper d)) (imm_i (low_12 d)) f t (far_apart from to (omega (arith, f)) (omega (arith, t))) (parts d (omega arith)))
