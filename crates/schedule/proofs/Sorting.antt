-- A stable sort by rising height of the lines of a run, the last first, has them in their new order, the
-- last first.
use Rattle.std.proofs.Common.{◌≡◌, ℕ, suc, ◌<◌, ◌≤◌, ◌⊎◌, inl, inr, ⊎_elim, Bool, true, false, cond, not, nat_eq, nat_lt, ◌&&◌, List, [], ◌∷◌, ◌++◌, length, map, get_or, refl, sym, ap, ◌∙◌, subst, arith, append-nil, Less, Equal, Greater}
use Rattle.std.specs.Prelude.{reverse}
use Rattle.std.specs.Cmp.{IsStrictWeakOrder}
use Rattle.std.specs.List.{AllPairs, Contains, filter}
use Rattle.std.specs.List.Sorted.{IsSortedBy, IsStableBy, ties}
use Rattle.std.specs.Ordering.{is_lt, nat_cmp}
use Rattle.std.proofs.lemmas.Bool.{lt-ltb, le-ltb, eq-eqb, ne_eqb, cases_order}
use Rattle.std.proofs.lemmas.Cmp.{nat_cmp_total}
use Rattle.std.proofs.lemmas.List.{reverse-append}
use Rattle.std.proofs.lemmas.List.Elements.{Contains-append_cases, All-contains}
use Rattle.std.proofs.lemmas.List.Sorted.{sorted_far, ranks_by}
use Rattle.std.proofs.lemmas.Map.Keys.{ge_from_not_lt}
use Rattle.bs_words.proofs.Lists.{none_in, first_in, later_in, in_cons, pairs_here, pairs_later}
use Rattle.lin_ir.specs.Formed.{bare_flow}
use Rattle.lin_ir.specs.declared.lin.Flow.TheVariants as flow
use Rattle.lin_ir.specs.declared.lin.Line.{Line}
use Rattle.schedule_rules.specs.Straight.{Ranked, ranked}
use Rattle.schedule_rules.specs.Orders.{taken_in_order, scheduled_run}
use Rattle.schedule.specs.Order.{rank_of, ranks_back, lines_back, is_lower}
use Rattle.schedule.specs.declared.order.RankedLine.{RankedLine}
use Rattle.schedule.proofs.Falling.{ranked_fall}
use Rattle.schedule.proofs.Picking.{has_height, HaveSame, Sink, filter-append, in_order}

-- ---- no line is higher than an earlier one

by_height : IsStrictWeakOrder is_lower
by_height = ranks_by nat_cmp_total (λ (x : RankedLine). x.height)

abbrev NoLower : RankedLine → RankedLine → Type 0
NoLower x y = x.height ≤ y.height

rising : (ys : List RankedLine) → IsSortedBy is_lower ys → AllPairs NoLower ys
rising ys sorted = λ i j d lt le.
    ge_from_not_lt (get_or ys j d).height (get_or ys i d).height (sorted_far is_lower by_height ys sorted i j d (omega (arith, lt)) le)

in_back : (xs : List Ranked) (q : Ranked) → Contains (reverse xs) q → Contains xs q
in_back [] q c = c
in_back (x ∷ xs) q c =
    ⊎_elim (λ d. later_in x q xs (in_back xs q d))
    (λ d. ⊎_elim (λ e. subst (λ z. Contains (x ∷ xs) z) e (first_in x xs)) (λ none. absurd (none_in q none)) (in_cons x q [] d))
    (Contains-append_cases (reverse xs) (x ∷ []) q (subst (λ l. Contains l q) (reverse-append (x ∷ []) xs) c))

at_least : (n : ℕ) (ys : List RankedLine) → ((z : RankedLine) → Contains ys z → n ≤ z.height) →
    (q : Ranked) → Contains (map rank_of ys) q → n ≤ q.height
at_least n [] le q c = absurd (none_in q c)
at_least n (y ∷ ys) le q c =
    ⊎_elim (λ e. subst (λ (k : Ranked). n ≤ k.height) e (le y (first_in y ys)))
    (λ later. at_least n ys (λ z d. le z (later_in y z ys d)) q later) (in_cons (rank_of y) q (map rank_of ys) c)

sink_push : (xs : List Ranked) (y : Ranked) → ((q : Ranked) → Contains xs q → y.height ≤ q.height) → Sink xs → Sink (xs ++ y ∷ [])
sink_push [] y le s = (λ q c. absurd (none_in q c), tt)
sink_push (x ∷ xs) y le s = (λ q c. by q (Contains-append_cases xs (y ∷ []) q c), sink_push xs y (λ q c. le q (later_in x q xs c)) s.1)
  where
    by : (q : Ranked) → Contains xs q ⊎ Contains (y ∷ []) q → q.height ≤ x.height
    by q (inl c) = s.0 q c
    by q (inr c) =
        ⊎_elim (λ e. subst (λ (k : Ranked). k.height ≤ x.height) e (le x (first_in x xs))) (λ none. absurd (none_in q none)) (in_cons y q [] c)

sinking : (ys : List RankedLine) → AllPairs NoLower ys → Sink (ranks_back ys)
sinking [] h = tt
sinking (y ∷ ys) h =
    subst Sink (sym (reverse-append (rank_of y ∷ []) (map rank_of ys)))
    (sink_push (ranks_back ys) (rank_of y)
    (λ q c. at_least y.height ys (λ z d. All-contains (NoLower y) ys z (pairs_here NoLower y ys h) d) q (in_back (map rank_of ys) q c))
    (sinking ys (pairs_later NoLower y ys h)))

-- ---- those as high are in their order

lt_is : (a b : ℕ) → is_lt (nat_cmp a b) ≡ nat_lt a b
lt_is a b = by (nat_lt a b) (nat_eq a b)
  where
    by : (s t : Bool) → is_lt (cond s Less (cond t Equal Greater)) ≡ s
    by true t = refl
    by false true = refl
    by false false = refl

as_high : (a b : ℕ) → (not (nat_lt a b) && not (nat_lt b a)) ≡ nat_eq b a
as_high a b = by (cases_order a b)
  where
    by : (a ≡ b) ⊎ ((a < b) ⊎ (b < a)) → (not (nat_lt a b) && not (nat_lt b a)) ≡ nat_eq b a
    by (inl e) =
        ap (λ (s : Bool). not s && not (nat_lt b a)) (le-ltb a b (omega (arith, e))) ∙ ap (λ (s : Bool). not s) (le-ltb b a (omega (arith, e)))
        ∙ sym (eq-eqb b a (sym e))
    by (inr (inl lt)) =
        ap (λ (s : Bool). not s && not (nat_lt b a)) (lt-ltb a b lt) ∙ sym (ne_eqb b a (λ e. absurd (omega (arith, e, lt))))
    by (inr (inr lt)) =
        ap (λ (s : Bool). not s && not (nat_lt b a)) (le-ltb a b (omega (arith, lt))) ∙ ap (λ (s : Bool). not s) (lt-ltb b a lt)
        ∙ sym (ne_eqb b a (λ e. absurd (omega (arith, e, lt))))

tied : (x y : RankedLine) → ties is_lower x y ≡ nat_eq y.height x.height
tied x y =
    ap (λ (s : Bool). not s && not (is_lower y x)) (lt_is x.height y.height) ∙ ap (λ (s : Bool). not (nat_lt x.height y.height) && not s) (lt_is y.height x.height)
    ∙ as_high x.height y.height

filter_ranks : (x : RankedLine) (ys : List RankedLine) →
    filter (has_height x.height) (map rank_of ys) ≡ map rank_of (filter (ties is_lower x) ys)
filter_ranks x [] = refl
filter_ranks x (y ∷ ys) =
    ap (λ (b : Bool). cond b (rank_of y ∷ filter (has_height x.height) (map rank_of ys)) (filter (has_height x.height) (map rank_of ys))) (sym (tied x y))
    ∙ by (ties is_lower x y) (filter_ranks x ys)
  where
    by : (b : Bool) → filter (has_height x.height) (map rank_of ys) ≡ map rank_of (filter (ties is_lower x) ys) →
        cond b (rank_of y ∷ filter (has_height x.height) (map rank_of ys)) (filter (has_height x.height) (map rank_of ys))
        ≡ map rank_of (cond b (y ∷ filter (ties is_lower x) ys) (filter (ties is_lower x) ys))
    by true ih = ap (λ l. rank_of y ∷ l) ih
    by false ih = ih

filter-reverse : (p : Ranked → Bool) (xs : List Ranked) → filter p (reverse xs) ≡ reverse (filter p xs)
filter-reverse p [] = refl
filter-reverse p (x ∷ xs) =
    ap (filter p) (reverse-append (x ∷ []) xs) ∙ filter-append p (reverse xs) (x ∷ []) ∙ ap (λ l. l ++ filter p (x ∷ [])) (filter-reverse p xs) ∙ by (p x)
  where
    by : (b : Bool) → reverse (filter p xs) ++ cond b (x ∷ []) [] ≡ reverse (cond b (x ∷ filter p xs) (filter p xs))
    by true = sym (reverse-append (x ∷ []) (filter p xs))
    by false = append-nil (reverse (filter p xs))

-- some line that is as high
abbrev of_height : ℕ → RankedLine
of_height h = record { line = bare_flow flow.PopTrap; height = h }

back_filtered : (h : ℕ) (ys : List RankedLine) → filter (has_height h) (ranks_back ys) ≡ reverse (map rank_of (filter (ties is_lower (of_height h)) ys))
back_filtered h ys = filter-reverse (has_height h) (map rank_of ys) ∙ ap (λ l. reverse l) (filter_ranks (of_height h) ys)

-- ---- the new order

ranked_length : (is : List Line) → length (ranked is) ≡ length is
ranked_length [] = refl
ranked_length (i ∷ is) = ap suc (ranked_length is)

pub sorted_is_scheduled : (run : List Line) (old new : List RankedLine) → ranks_back old ≡ ranked run → IsSortedBy is_lower new →
    IsStableBy is_lower old new → lines_back new ≡ scheduled_run run
sorted_is_scheduled run old new is sorted stable =
    sym (ap (λ n. taken_in_order n (ranked run)) (sym (ranked_length run))
    ∙ in_order (ranks_back new) (ranked run) (sinking new (rising new sorted)) same (ranked_fall run))
  where
    same : HaveSame (ranks_back new) (ranked run)
    same h =
        back_filtered h new ∙ ap (λ l. reverse (map rank_of l)) (stable (of_height h)) ∙ sym (back_filtered h old)
        ∙ ap (filter (has_height h)) is
