use Rattle.std.proofs.Common.{◌≡◌, ◌∙◌, ◌⊎◌, inl, inr, ⊎_elim, ℕ, zero, suc, ◌+◌, ◌-◌, ◌<◌, ◌≤◌, cond, List, [], ◌∷◌, ◌++◌, length, take, replicate, get_or, refl, sym, ap, arith}
use Rattle.std.specs.Prelude.{nat_eq, vec_len}
use Rattle.std.proofs.lemmas.Bool.{cases_lt}
use Rattle.std.proofs.lemmas.Bool.Decides.{eqb_tells}
use Rattle.std.proofs.lemmas.List.{get_or_append_left, get_or_push, get_or_past, length-append, length-replicate, take_all}
use Rattle.mach_ir.proofs.number_table.NumberTable.put.Goals as goal

zeros : (k n : ℕ) → get_or {A = ℕ} (replicate k 0) n 0 ≡ 0
zeros zero n = refl
zeros (suc k) zero = refl
zeros (suc k) (suc n) = zeros k n

with_zeros : (xs : List ℕ) (k n : ℕ) → get_or (xs ++ replicate k 0) n 0 ≡ get_or xs n 0
with_zeros [] k n = zeros k n
with_zeros (x ∷ xs) k zero = refl
with_zeros (x ∷ xs) k (suc n) = with_zeros xs k n

pushed : (xs : List ℕ) (k n v : ℕ) → length xs ≡ k → get_or (xs ++ v ∷ []) n 0 ≡ cond (nat_eq k n) v (get_or xs n 0)
pushed xs k n v e =
    ⊎_elim (λ t. get_or_push xs v 0 n (e ∙ t.1) ∙ sym (ap (λ b. cond b v (get_or xs n 0)) t.0))
    (λ t. other t.1 (cases_lt n (length xs)) ∙ sym (ap (λ b. cond b v (get_or xs n 0)) t.0)) (eqb_tells k n)
  where
    other : (k ≡ n → ⊥) → (n < length xs) ⊎ (length xs ≤ n) → get_or (xs ++ v ∷ []) n 0 ≡ get_or xs n 0
    other differ (inl lt) = get_or_append_left xs (v ∷ []) 0 n lt
    other differ (inr le) =
        let l = length-append xs (v ∷ []) in
        let beyond : length (xs ++ v ∷ []) ≤ n =
        ⊎_elim (λ lt. absurd (differ (omega (arith, lt, le, l, e)))) (λ h. h) (cases_lt n (length (xs ++ v ∷ []))) in
        get_or_past (xs ++ v ∷ []) n 0 beyond ∙ sym (get_or_past xs n 0 le)

-- a list, with zeros and one more number after it
extended : (xs ys new : List ℕ) (k r n v : ℕ) → length xs ≤ k → length xs + r ≡ k → ys ≡ take k xs ++ replicate r 0 → new ≡ ys ++ v ∷ [] →
    get_or new n 0 ≡ cond (nat_eq k n) v (get_or xs n 0)
extended xs ys new k r n v few long padded made =
    ap (λ (zs : List ℕ). get_or zs n 0) (made ∙ ap (λ (zs : List ℕ). zs ++ v ∷ []) all)
    ∙ pushed (xs ++ replicate r 0) k n v (length-append xs (replicate r 0) ∙ ap (λ m. length xs + m) (length-replicate r 0) ∙ long)
    ∙ ap (cond (nat_eq k n) v) (with_zeros xs r n)
  where
    all : ys ≡ xs ++ replicate r 0
    all = padded ∙ ap (λ (zs : List ℕ). zs ++ replicate r 0) (take_all k xs few)

pub returns : goal.returns
returns c = λ n.
    let entries = c.args.self.now.entries in
    let k = c.args.number in
    let past = c.if-index-len.false in
    let count = c.len.ensures in
    let few : length entries.items ≤ k = omega (arith, past, count) in
    let long : length entries.items + (k - vec_len entries) ≡ k = omega (arith, past, count) in
    extended entries.items c.resize.new.self.items c.push.new.self.items k (k - vec_len entries) n c.args.new few long
    c.in_ok-resize.ensures.items c.in_ok-push.ensures.items
