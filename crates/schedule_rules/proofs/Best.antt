-- Of the lines that may come next the one that does is the highest, and of those as high the earliest.
use Rattle.std.proofs.Common.{◌≡◌, ◌<◌, ◌≤◌, Bool, true, false, cond, nat_lt, inl, inr, ⊎_elim, List, [], ◌∷◌, ◌++◌, length, map, Option, Some, None, refl, sym, ap, ◌∙◌, subst, arith, ltb-true, ltb-false, length-append}
use Rattle.std.proofs.lemmas.Bool.{true≢false}
use Rattle.std.proofs.lemmas.Option.{same_Some}
use Rattle.schedule_rules.specs.Straight.{Ranked}
use Rattle.schedule_rules.specs.Orders.{rank_line, depends_on_none, Pick, if_free, best, MayComeNext, ComesFirst}
use Rattle.schedule_rules.proofs.Reorder.{append_one, picked}

-- ---- two cuts of one list at one place

rank_head : {i j : Ranked} {is js : List Ranked} → i ∷ is ≡ j ∷ js → i ≡ j
rank_head e = cc

rank_tail : {i j : Ranked} {is js : List Ranked} → i ∷ is ≡ j ∷ js → is ≡ js
rank_tail e = cc

same_cut : (xs ys : List Ranked) (x y : Ranked) (after others : List Ranked) → length xs ≡ length ys → xs ++ x ∷ after ≡ ys ++ y ∷ others → (xs ≡ ys) × (x ≡ y)
same_cut [] [] x y after others l e = (refl, rank_head e)
same_cut [] (b ∷ ys) x y after others l e = absurd (omega (arith, l))
same_cut (a ∷ xs) [] x y after others l e = absurd (omega (arith, l))
same_cut (a ∷ xs) (b ∷ ys) x y after others l e =
    let ih = same_cut xs ys x y after others (omega (arith, l)) (rank_tail e) in
    (subst (λ k. a ∷ xs ≡ k ∷ ys) (rank_head e) (ap (λ l. a ∷ l) ih.0), ih.1)

-- ---- what is chosen of some that are left, beside one that may come next

record Chosen (o : Option Pick) (q : Pick) : Type 0 where
  pick : Pick
  is : o ≡ Some pick
  first : ComesFirst pick q

chosen : (before rs : List Ranked) (q : Pick) → q.before ++ q.taken ∷ q.after ≡ before ++ rs → depends_on_none q.taken.line (map rank_line q.before) ≡ true →
    length before ≤ length q.before → Chosen (best before rs) q
chosen before [] q whole free le =
    let a = length-append q.before (q.taken ∷ q.after) in
    let b = length-append before [] in
    let w : length (q.before ++ q.taken ∷ q.after) ≡ length (before ++ []) = ap length whole in
    absurd (omega (arith, a, b, w, le))
chosen before (r ∷ rs) q whole free le =
    by (nat_lt (length before) (length q.before)) refl
    (λ lt.
    let l = length-append before (r ∷ []) in
    chosen (before ++ r ∷ []) rs q (whole ∙ sym (append_one before r rs)) free (omega (arith, lt, l)))
  where
    here : Pick
    here = record { before = before; taken = r; after = rs }

    even : (d : Bool) → nat_lt q.taken.height r.height ≡ d → q.taken.height ≤ r.height → ComesFirst here q
    even true t w = inl (ltb-true q.taken.height r.height t)
    even false t w = let ge = ltb-false q.taken.height r.height t in inr (omega (arith, ge, w), le)

    not_lower : (p : Pick) → p.taken.height ≤ r.height → ComesFirst p q → ComesFirst here q
    not_lower p ge f =
        ⊎_elim (λ lt. inl (omega (arith, ge, lt))) (λ y. let e = y.0 in even (nat_lt q.taken.height r.height) refl (omega (arith, ge, e))) f

    -- it comes later
    past : (b : Bool) → Chosen (best (before ++ r ∷ []) rs) q → Chosen (if_free b here (best (before ++ r ∷ []) rs)) q
    past false c = c
    past true c = subst (λ o. Chosen (if_free true here o) q) (sym c.is) (choose (nat_lt r.height c.pick.taken.height) refl)
      where
        choose : (d : Bool) → nat_lt r.height c.pick.taken.height ≡ d → Chosen (Some (cond d c.pick here)) q
        choose true t = record { pick = c.pick; is = refl; first = c.first }
        choose false t = record { pick = here; is = refl; first = not_lower c.pick (ltb-false r.height c.pick.taken.height t) c.first }

    free_here : q.before ≡ before → q.taken ≡ r → depends_on_none r.line (map rank_line before) ≡ true
    free_here e f =
        subst (λ (k : Ranked). depends_on_none k.line (map rank_line before) ≡ true) f
        (subst (λ l. depends_on_none q.taken.line (map rank_line l) ≡ true) e free)

    -- it is this one
    it : q.before ≡ before → q.taken ≡ r → (b : Bool) → depends_on_none r.line (map rank_line before) ≡ b → (o : Option Pick) → Chosen (if_free b here o) q
    it e f false t o = absurd (true≢false (sym (free_here e f) ∙ t))
    it e f true t None = record { pick = here; is = refl; first = inr (ap (λ (k : Ranked). k.height) f, le) }
    it e f true t (Some p) = choose (nat_lt r.height p.taken.height) refl
      where
        same : q.taken.height ≡ r.height
        same = ap (λ (k : Ranked). k.height) f

        choose : (d : Bool) → nat_lt r.height p.taken.height ≡ d → Chosen (Some (cond d p here)) q
        choose true u = let lt = ltb-true r.height p.taken.height u in record { pick = p; is = refl; first = inl (omega (arith, same, lt)) }
        choose false u = record { pick = here; is = refl; first = inr (same, le) }

    by : (b : Bool) → nat_lt (length before) (length q.before) ≡ b → (length before < length q.before → Chosen (best (before ++ r ∷ []) rs) q) → Chosen (best before (r ∷ rs)) q
    by true t ih = past (depends_on_none r.line (map rank_line before)) (ih (ltb-true (length before) (length q.before) t))
    by false t ih =
        let ge = ltb-false (length before) (length q.before) t in
        let same = same_cut q.before before q.taken r q.after rs (omega (arith, le, ge)) whole in
        it same.0 same.1 (depends_on_none r.line (map rank_line before)) refl (best (before ++ r ∷ []) rs)

pub best_is_first : (left : List Ranked) (p : Pick) → best [] left ≡ Some p → MayComeNext left p × ((q : Pick) → MayComeNext left q → ComesFirst p q)
best_is_first left p e = (picked [] left p e, λ q m. by q m)
  where
    by : (q : Pick) → MayComeNext left q → ComesFirst p q
    by q m =
        let c = chosen [] left q m.whole m.free (omega arith) in
        subst (λ k. ComesFirst k q) (same_Some c.pick p (sym c.is ∙ e)) c.first
