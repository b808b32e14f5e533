-- Fresh registers and their numbers, among operands or results.
use Rattle.std.proofs.Common.{◌≡◌, ℕ, suc, ◌<◌, ◌≤◌, Bool, true, false, cond, ⊎_elim, List, [], ◌∷◌, refl, sym, ap, ◌∙◌, subst, arith}
use Rattle.std.specs.List.{Contains}
use Rattle.mach_ir.specs.declared.reg.Reg.{Reg}
use Rattle.bs_words.proofs.Lists.{none_in, first_in, later_in, in_cons}
use Rattle.reload_rules.specs.Reloaded.{is_renewed, fresh_stand_in, next_reload_number, number_past, renewed}

-- In these registers, from this number on, this number is that of the fresh one for this register.
pub data IsFor (b : Bool) : ℕ → List Reg → ℕ → Reg → Type 0 where
  for_this : {n : ℕ} {r : Reg} {rs : List Reg} → is_renewed b r ≡ true → IsFor b n (r ∷ rs) n r
  for_other : {n x : ℕ} {r k : Reg} {rs : List Reg} → IsFor b (next_reload_number b n r) rs x k →
      IsFor b n (r ∷ rs) x k

-- a register is itself one of the second, or a fresh one
pub data WasIn (b : Bool) (n : ℕ) (rs : List Reg) (k : Reg) : Type 0 where
  was_own : Contains rs k → is_renewed b k ≡ false → WasIn b n rs k
  was_fresh : (x : ℕ) (w : Reg) → IsFor b n rs x w → fresh_stand_in x w ≡ k → WasIn b n rs k

module _ (b : Bool) where
  pub after_true : (n : ℕ) (r : Reg) → is_renewed b r ≡ true → next_reload_number b n r ≡ suc n
  after_true n r e = ap (λ t. cond t (suc n) n) e

  pub after_false : (n : ℕ) (r : Reg) → is_renewed b r ≡ false → next_reload_number b n r ≡ n
  after_false n r e = ap (λ t. cond t (suc n) n) e

  pub after_rises : (n : ℕ) (r : Reg) → n ≤ next_reload_number b n r
  after_rises n r = by (is_renewed b r)
    where
      by : (t : Bool) → n ≤ cond t (suc n) n
      by true = omega arith
      by false = omega arith

  pub after_few : (n : ℕ) (r : Reg) → next_reload_number b n r ≤ suc n
  after_few n r = by (is_renewed b r)
    where
      by : (t : Bool) → cond t (suc n) n ≤ suc n
      by true = omega arith
      by false = omega arith

  pub past_rises : (n : ℕ) (rs : List Reg) → n ≤ number_past b n rs
  past_rises n [] = omega arith
  past_rises n (r ∷ rs) =
      let x = after_rises n r in let y = past_rises (next_reload_number b n r) rs in omega (arith, x, y)

  pub for_from : {n x : ℕ} {rs : List Reg} {k : Reg} → IsFor b n rs x k → n ≤ x
  for_from (for_this e) = omega arith
  for_from {n} (for_other {r = r} h) = let x = after_rises n r in let y = for_from h in omega (arith, x, y)

  pub for_below : {n x : ℕ} {rs : List Reg} {k : Reg} → IsFor b n rs x k → x < number_past b n rs
  for_below {n} (for_this {r = r} {rs = rs} e) =
      let x = past_rises (next_reload_number b n r) rs in let y = after_true n r e in omega (arith, x, y)
  for_below (for_other h) = for_below h

  pub for_in : {n x : ℕ} {rs : List Reg} {k : Reg} → IsFor b n rs x k → Contains rs k
  for_in (for_this {r = r} {rs = rs} e) = first_in r rs
  for_in {k = k} (for_other {r = r} {rs = rs} h) = later_in r k rs (for_in h)

  pub for_slot : {n x : ℕ} {rs : List Reg} {k : Reg} → IsFor b n rs x k → is_renewed b k ≡ true
  for_slot (for_this e) = e
  for_slot (for_other h) = for_slot h

  pub for_same : {n x y : ℕ} {rs : List Reg} {k j : Reg} → IsFor b n rs x k → IsFor b n rs y j → x ≡ y → k ≡ j
  for_same (for_this e) (for_this h) same = refl
  for_same {n} (for_this {r = r} e) (for_other h) same =
      let x = for_from h in let y = after_true n r e in absurd (omega (arith, x, y, same))
  for_same {n} (for_other {r = r} h) (for_this e) same =
      let x = for_from h in let y = after_true n r e in absurd (omega (arith, x, y, same))
  for_same (for_other h) (for_other g) same = for_same h g same

  pub was_in : (n : ℕ) (rs : List Reg) (k : Reg) → Contains (renewed b n rs) k → WasIn b n rs k
  was_in n [] k c = absurd (none_in k c)
  was_in n (r ∷ rs) k c =
      ⊎_elim (λ e. here (is_renewed b r) refl e) (λ d. there (was_in (next_reload_number b n r) rs k d))
      (in_cons (cond (is_renewed b r) (fresh_stand_in n r) r) k (renewed b (next_reload_number b n r) rs) c)
    where
      here : (t : Bool) → is_renewed b r ≡ t → cond t (fresh_stand_in n r) r ≡ k → WasIn b n (r ∷ rs) k
      here true t e = was_fresh n r (for_this t) e
      here false t e = subst (WasIn b n (r ∷ rs)) e (was_own (first_in r rs) t)

      there : WasIn b (next_reload_number b n r) rs k → WasIn b n (r ∷ rs) k
      there (was_own d t) = was_own (later_in r k rs d) t
      there (was_fresh x w h e) = was_fresh x w (for_other h) e

  pub own_stays : (n : ℕ) (rs : List Reg) (k : Reg) → Contains rs k → is_renewed b k ≡ false → Contains (renewed b n rs) k
  own_stays n [] k c t = absurd (none_in k c)
  own_stays n (r ∷ rs) k c t =
      ⊎_elim
      (λ e.
      let same : cond (is_renewed b r) (fresh_stand_in n r) r ≡ k =
      ap (λ t. cond t (fresh_stand_in n r) r) (subst (λ k. is_renewed b k ≡ false) (sym e) t) ∙ e in
      subst (Contains (renewed b n (r ∷ rs))) same
      (first_in (cond (is_renewed b r) (fresh_stand_in n r) r) (renewed b (next_reload_number b n r) rs)))
      (λ d.
      later_in (cond (is_renewed b r) (fresh_stand_in n r) r) k (renewed b (next_reload_number b n r) rs)
      (own_stays (next_reload_number b n r) rs k d t))
      (in_cons r k rs c)

  pub for_stands : {n x : ℕ} {rs : List Reg} {k : Reg} → IsFor b n rs x k → Contains (renewed b n rs) (fresh_stand_in x k)
  for_stands {n} (for_this {r = r} {rs = rs} e) =
      subst (Contains (renewed b n (r ∷ rs))) (ap (λ t. cond t (fresh_stand_in n r) r) e)
      (first_in (cond (is_renewed b r) (fresh_stand_in n r) r) (renewed b (next_reload_number b n r) rs))
  for_stands {n} {x} {k = k} (for_other {r = r} {rs = rs} h) =
      later_in (cond (is_renewed b r) (fresh_stand_in n r) r) (fresh_stand_in x k) (renewed b (next_reload_number b n r) rs) (for_stands h)
