-- A stable sort by urgency gives the order.
use Rattle.std.proofs.Common.{◌≡◌, ℕ, zero, suc, ◌<◌, ◌≤◌, ◌⊎◌, inl, inr, ⊎_elim, Bool, true, false, cond, nat_eq, List, [], ◌∷◌, map, length, get_or, refl, sym, ap, ◌∙◌, subst, arith, Less, Equal, Greater}
use Rattle.std.specs.Cmp.{IsStrictWeakOrder}
use Rattle.std.specs.List.{AllPairs, Contains, filter}
use Rattle.std.specs.List.Sorted.{IsPermutation, IsSortedBy, IsStableBy, ties}
use Rattle.std.specs.Ordering.{is_lt, nat_cmp}
use Rattle.std.proofs.lemmas.Bool.{cases_lt, le-ltb, not_from_false, and_from}
use Rattle.std.proofs.lemmas.Cmp.{nat_cmp_total}
use Rattle.std.proofs.lemmas.List.{get_or-map}
use Rattle.std.proofs.lemmas.List.Elements.{All-contains, Contains-get_or}
use Rattle.std.proofs.lemmas.List.Kept.{AllPairs-filter}
use Rattle.std.proofs.lemmas.List.Sorted.{IsPermutation-map, IsPermutation-sym, Contains-permutation, sorted_far, ranks_by, IsStrictWeakOrder-flip}
use Rattle.std.proofs.lemmas.Map.Keys.{ge_from_not_lt}
use Rattle.std.proofs.Math.ListN.{length-map}
use Rattle.bs_words.specs.declared.types.Loc.{Loc}
use Rattle.bs_words.specs.declared.types.Loc.TheVariants as loc
use Rattle.bs_words.proofs.Lists.{pairs_later}
use Rattle.mach_ir.specs.declared.graph.Node.{Node}
use Rattle.mach_ir.specs.declared.graph.Graph.{Graph}
use Rattle.mach_ir.specs.Placed.{Colouring}
use Rattle.mach_ir.specs.Places as locations
use Rattle.colouring.specs.Chosen.{fixed, urgency, IsColouredBefore, IsOrder}
use Rattle.colouring.specs.Tables.{is_uncoloured, ranked_nodes, AreRanked, is_more_urgent}
use Rattle.colouring.specs.declared.order.Ranked.{Ranked}
use Rattle.colouring.proofs.Found.{Rising, in_filter, into_filter}
use Rattle.colouring.proofs.Ordered.{pairs_first}

-- two that pass a test are to each other as among those that pass
within_filter : {A : Type 0} (R : A → A → Type 0) (p : A → Bool) (xs : List A) (i j : ℕ) (d : A) → i < j →
    j < length xs →
    p (get_or xs i d) ≡ true → p (get_or xs j d) ≡ true → AllPairs R (filter p xs) → R (get_or xs i d) (get_or xs j d)
within_filter R p [] i j d lt le a b h = absurd (omega (arith, le))
within_filter R p (x ∷ xs) i zero d lt le a b h = absurd (omega (arith, lt))
within_filter R p (x ∷ xs) zero (suc j) d lt le a b h =
    let all : AllPairs R (x ∷ filter p xs) =
    subst (λ (t : Bool). AllPairs R (cond t (x ∷ filter p xs) (filter p xs))) a h in
    let under : j < length xs = omega (arith, le) in
    pairs_first R x (filter p xs) all (get_or xs j d)
    (into_filter p xs (get_or xs j d) (Contains-get_or xs j d under) b)
within_filter R p (x ∷ xs) (suc i) (suc j) d lt le a b h =
    by (within_filter R p xs i j d (omega (arith, lt)) (omega (arith, le)) a b) (p x) h
  where
    by : (AllPairs R (filter p xs) → R (get_or xs i d) (get_or xs j d)) → (t : Bool) →
        AllPairs R (cond t (x ∷ filter p xs) (filter p xs)) → R (get_or xs i d) (get_or xs j d)
    by later true h = later (pairs_later R x (filter p xs) h)
    by later false h = later h

pairs_of_map : {A B : Type 0} (f : A → B) (R : B → B → Type 0) (xs : List A) → AllPairs R (map f xs) →
    AllPairs (λ x y. R (f x) (f y)) xs
pairs_of_map f R xs h = λ i j d lt le.
    let under : i < length xs = omega (arith, lt, le) in
    let whole : j < length (map f xs) = subst (λ n. j < n) (sym (length-map xs f)) le in
    subst (λ b. R (f (get_or xs i d)) b) (get_or-map f xs j d (f d) le)
    (subst (λ a. R a (get_or (map f xs) j (f d))) (get_or-map f xs i d (f d) under) (h i j (f d) lt whole))

pairs_into_map : {A B : Type 0} (f : A → B) (R : B → B → Type 0) (xs : List A) → (A) →
    AllPairs (λ x y. R (f x) (f y)) xs → AllPairs R (map f xs)
pairs_into_map f R xs e h = λ i j d lt le.
    let whole : j < length xs = subst (λ n. j < n) (length-map xs f) le in
    let under : i < length xs = omega (arith, lt, whole) in
    subst (λ b. R (get_or (map f xs) i d) b) (sym (get_or-map f xs j e d whole))
    (subst (λ a. R a (f (get_or xs j e))) (sym (get_or-map f xs i e d under)) (h i j e lt whole))

by_urgency : IsStrictWeakOrder is_more_urgent
by_urgency = IsStrictWeakOrder-flip (λ (x y : Ranked). is_lt (nat_cmp x.urgency y.urgency)) (ranks_by nat_cmp_total (λ (x : Ranked). x.urgency))

not_less : (a b : ℕ) → a ≤ b → is_lt (nat_cmp b a) ≡ false
not_less a b le = ap (λ (t : Bool). is_lt (cond t Less (cond (nat_eq b a) Equal Greater))) (le-ltb b a le) ∙
    by (nat_eq b a)
  where
    by : (s : Bool) → is_lt (cond s Equal Greater) ≡ false
    by true = refl
    by false = refl

is_unset_from : (l : Loc) → locations.is_unset_location l ≡ true → l ≡ loc.Unset
is_unset_from loc.Unset e = refl
is_unset_from (loc.Machine n) e = cc
is_unset_from (loc.Slot n) e = cc

abbrev Below : Ranked → Ranked → Type 0
Below x y = x.node.now.reg.number < y.node.now.reg.number

-- by what they say of themselves
abbrev Sooner : Ranked → Ranked → Type 0
Sooner x y = (y.urgency < x.urgency) ⊎ ((x.urgency ≡ y.urgency) × Below x y)

abbrev IsTrueOf : Colouring → ℕ → Ranked → Type 0
IsTrueOf place fresh r = r.urgency ≡ urgency place fresh r.node.now

pub is_order : (g : Graph) (fresh : ℕ) (xs ys : List Ranked) → Rising g.nodes → ranked_nodes xs ≡ filter is_uncoloured g.nodes → AreRanked (fixed g) fresh xs →
    IsPermutation xs ys → IsSortedBy is_more_urgent ys → IsStableBy is_more_urgent xs ys → IsOrder fresh g (ranked_nodes ys)
is_order g fresh xs ys up open_nodes ranked moved sorted stable = record {
  exact = λ x. (
    (λ c.
        let d : Contains (ranked_nodes xs) x =
        Contains-permutation (ranked_nodes ys) (ranked_nodes xs) x (IsPermutation-sym (ranked_nodes xs) (ranked_nodes ys) same) c in
        let e = in_filter is_uncoloured g.nodes x (subst (λ l. Contains l x) open_nodes d) in
        (e.0, is_unset_from x.reg.loc e.1)),
    (λ c. Contains-permutation (ranked_nodes xs) (ranked_nodes ys) x same
        (subst (λ l. Contains l x) (sym open_nodes) (into_filter is_uncoloured g.nodes x c.0 (ap locations.is_unset_location c.1)))),
  );
  sorted = pairs;
} where
  same : IsPermutation (ranked_nodes xs) (ranked_nodes ys)
  same = IsPermutation-map (λ (x : Ranked). x.node.now) xs ys moved

  up_xs : AllPairs Below xs
  up_xs = pairs_of_map (λ (x : Ranked). x.node.now) (λ (x y : Node). x.reg.number < y.reg.number) xs
      (subst (λ l. Rising l) (sym open_nodes)
      (AllPairs-filter (λ (x y : Node). x.reg.number < y.reg.number) is_uncoloured g.nodes up))

  tied_up : (x : Ranked) → AllPairs Below (filter (ties is_more_urgent x) ys)
  tied_up x = subst (λ l. AllPairs Below l) (sym (stable x)) (AllPairs-filter Below (ties is_more_urgent x) xs up_xs)

  -- what they say is true
  is_true : (r : Ranked) → Contains ys r → IsTrueOf (fixed g) fresh r
  is_true r c = All-contains (IsTrueOf (fixed g) fresh) xs r ranked (Contains-permutation ys xs r (IsPermutation-sym xs ys moved) c)

  before : AllPairs (λ (x y : Ranked). IsColouredBefore (fixed g) fresh x.node.now y.node.now) ys
  before = λ i j d lt le.
      let x : Ranked = get_or ys i d in
      let y : Ranked = get_or ys j d in
      let u : ℕ = x.urgency in
      let v : ℕ = y.urgency in
      let no_more : is_more_urgent (get_or ys j d) (get_or ys i d) ≡ false =
      sorted_far is_more_urgent by_urgency ys sorted i j d (omega (arith, lt)) le in
      let falls : v ≤ u = ge_from_not_lt u v no_more in
      let under : i < length ys = omega (arith, lt, le) in
      let one : IsTrueOf (fixed g) fresh x = is_true x (Contains-get_or ys i d under) in
      let two : IsTrueOf (fixed g) fresh y = is_true y (Contains-get_or ys j d le) in
      so x y one two
      (⊎_elim
      (λ (less : v < u). inl less)
      (λ (not : u ≤ v).
      let e : u ≡ v = omega (arith, falls, not) in
      let self : ties is_more_urgent x (get_or ys i d) ≡ true =
      and_from _ _ (not_from_false _ (not_less u u (omega arith)))
      (not_from_false _ (not_less u u (omega arith))) in
      let tie : ties is_more_urgent x (get_or ys j d) ≡ true =
      and_from _ _ (not_from_false _ (not_less u v not)) (not_from_false _ (not_less v u falls)) in
      inr (e, within_filter Below (ties is_more_urgent x) ys i j d lt le self tie (tied_up x)))
      (cases_lt v u))
    where
      so : (x y : Ranked) → IsTrueOf (fixed g) fresh x → IsTrueOf (fixed g) fresh y → Sooner x y → IsColouredBefore (fixed g) fresh x.node.now y.node.now
      so x y one two (inl less) = inl (subst (λ n. urgency (fixed g) fresh y.node.now < n) one (subst (λ n. n < x.urgency) two less))
      so x y one two (inr tie) = inr (sym one ∙ tie.0 ∙ two, tie.1)

  pairs : AllPairs (IsColouredBefore (fixed g) fresh) (ranked_nodes ys)
  pairs = by ys before
    where
      by : (zs : List Ranked) → AllPairs (λ (x y : Ranked). IsColouredBefore (fixed g) fresh x.node.now y.node.now) zs →
          AllPairs (IsColouredBefore (fixed g) fresh) (ranked_nodes zs)
      by [] h = λ i j d lt le. absurd (omega (arith, le))
      by (z ∷ zs) h = pairs_into_map (λ (x : Ranked). x.node.now) (IsColouredBefore (fixed g) fresh) (z ∷ zs) z h
