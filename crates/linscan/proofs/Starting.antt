-- The nodes whose places are open, and a stable sort of them by where their intervals begin.
use Rattle.std.proofs.Common.{◌≡◌, ℕ, zero, suc, ◌+◌, ◌<◌, ◌≤◌, ◌⊎◌, inl, inr, ⊎_elim, Bool, true, false, cond, nat_eq, List, [], ◌∷◌, ◌++◌, Some, None, map, length, take, get_or, refl, sym, ap, ◌∙◌, subst, arith, Less, Equal, Greater}
use Rattle.std.specs.Cmp.{IsStrictWeakOrder}
use Rattle.std.specs.List.{AllPairs, Contains, filter}
use Rattle.std.specs.List.Sorted.{IsPermutation, IsSortedBy, IsStableBy, ties}
use Rattle.std.specs.Ordering.{is_lt, nat_cmp}
use Rattle.std.proofs.lemmas.Bool.{cases_lt, le-ltb, not_from_false, and_from}
use Rattle.std.proofs.lemmas.Cmp.{nat_cmp_total}
use Rattle.std.proofs.lemmas.List.{get_or-map, take_more, take_all}
use Rattle.std.proofs.lemmas.List.Elements.{Contains-get_or, Contains-append_left, Contains-append_right, Contains-append_cases}
use Rattle.std.proofs.lemmas.List.Kept.{AllPairs-filter}
use Rattle.std.proofs.lemmas.List.Quantifiers.{all_pairs_push}
use Rattle.std.proofs.lemmas.List.Sorted.{IsPermutation-sym, Contains-permutation, sorted_far, ranks_by}
use Rattle.std.proofs.lemmas.Map.Keys.{ge_from_not_lt}
use Rattle.std.proofs.Math.ListN.{length-map}
use Rattle.bs_words.specs.Contents.{contents}
use Rattle.bs_words.specs.declared.types.Loc.TheVariants as loc
use Rattle.bs_words.proofs.Lists.{none_in, first_in, later_in, in_cons, pairs_later}
use Rattle.mach_ir.specs.declared.graph.Graph.{Graph}
use Rattle.mach_ir.specs.declared.graph.Node.{Node}
use Rattle.mach_ir.specs.declared.reg.Reg.{Reg}
use Rattle.colouring.proofs.Found.{into_filter, in_graph, node_of}
use Rattle.colouring.proofs.Ordered.{pairs_first}
use Rattle.linscan_rules.specs.Scan.{OpenInterval}
use Rattle.linscan_rules.specs.Table.{IntervalIn, IsScannable, IsOpenInterval, StartsBefore, IsScanOrder}
use Rattle.linscan_rules.specs.declared.interval.Intervals.{Intervals}
use Rattle.linscan.specs.Order.{HasIntervals, row_of, open_rows, IsOpenNode, IsOneOpen, HasOpen, AreOpenNodes, ComesAfter, begins_before, AreNodesOf}
use Rattle.linscan.specs.Seen.{RangeTable, range_at}
use Rattle.linscan.specs.declared.order.OpenNode.{OpenNode}
use Rattle.linscan.specs.declared.ranges.Range.{Range}

-- ---- one node after the other

pub opens_none : (t : RangeTable) (nodes : List Node) (opens : List OpenNode) → opens ≡ [] → AreOpenNodes t (take 0 nodes) opens
opens_none t nodes opens empty =
    subst (AreOpenNodes t (take 0 nodes)) (sym empty)
    (record {
      order = λ i j d lt le. absurd (omega (arith, le));
      sound = λ o c. absurd (none_in o c);
      whole = λ x c e r f. absurd (none nodes x c);
    })
  where
    none : (xs : List Node) (x : Node) → Contains (take 0 xs) x → ⊥
    none [] x c = none_in x c
    none (y ∷ ys) x c = none_in x c

wider : (t : RangeTable) (nodes : List Node) (x : Node) (o : OpenNode) → IsOneOpen t nodes o → IsOneOpen t (nodes ++ x ∷ []) o
wider t nodes x o h = record { item = h.item; among = Contains-append_left nodes (x ∷ []) h.item h.among; is = h.is }

-- a node whose place is fixed, or that has no interval
pub opens_same : (t : RangeTable) (x : Node) (opens : List OpenNode) → (x.reg.loc ≡ loc.Unset → range_at t x.reg.number ≡ None) →
    (nodes : List Node) → ComesAfter nodes x → AreOpenNodes t nodes opens → AreOpenNodes t (nodes ++ x ∷ []) opens
opens_same t x opens none nodes last old =
    record {
      order = old.order;
      sound = λ o c. wider t nodes x o (old.sound o c);
      whole = λ y c e r f. by y e r f (Contains-append_cases nodes (x ∷ []) y c);
    }
  where
    by : (y : Node) → y.reg.loc ≡ loc.Unset → (r : Range) → range_at t y.reg.number ≡ Some r → Contains nodes y ⊎ Contains (x ∷ []) y → HasOpen t opens y
    by y e r f (inl c) = old.whole y c e r f
    by y e r f (inr c) =
        ⊎_elim
        (λ s.
        let g : range_at t y.reg.number ≡ None =
        subst (λ (z : Node). z.reg.loc ≡ loc.Unset → range_at t z.reg.number ≡ None) s none e in absurd (cc))
        (λ z. absurd (none_in y z)) (in_cons x y [] c)

pub opens_more : (t : RangeTable) (x : Node) (o : OpenNode) (old new : List OpenNode) → IsOpenNode t x o → new ≡ old ++ o ∷ [] →
    (nodes : List Node) → ComesAfter nodes x → AreOpenNodes t nodes old → AreOpenNodes t (nodes ++ x ∷ []) new
opens_more t x o old new is made nodes last had =
    subst (AreOpenNodes t (nodes ++ x ∷ [])) (sym made)
    (record {
      order = all_pairs_push (λ (a b : OpenNode). a.register.number < b.register.number) old o had.order
          (λ k d lt. less (get_or old k d) (had.sound (get_or old k d) (Contains-get_or old k d lt)));
      sound = λ p c. into p (Contains-append_cases old (o ∷ []) p c);
      whole = λ y c e r f. by y e r f (Contains-append_cases nodes (x ∷ []) y c);
    })
  where
    less : (p : OpenNode) → IsOneOpen t nodes p → p.register.number < o.register.number
    less p h =
        let lt = last h.item h.among in
        let a = h.is.number in
        let b = is.number in
        omega (arith, lt, a, b)

    into : (p : OpenNode) → Contains old p ⊎ Contains (o ∷ []) p → IsOneOpen t (nodes ++ x ∷ []) p
    into p (inl c) = wider t nodes x p (had.sound p c)
    into p (inr c) =
        ⊎_elim
        (λ e. subst (IsOneOpen t (nodes ++ x ∷ [])) e
        (record { item = x; among = Contains-append_right nodes (x ∷ []) x (first_in x []); is = is }))
        (λ z. absurd (none_in p z)) (in_cons o p [] c)

    by : (y : Node) → y.reg.loc ≡ loc.Unset → (r : Range) → range_at t y.reg.number ≡ Some r → Contains nodes y ⊎ Contains (x ∷ []) y →
        HasOpen t (old ++ o ∷ []) y
    by y e r f (inl c) =
        let h = had.whole y c e r f in
        record { item = h.item; among = Contains-append_left old (o ∷ []) h.item h.among; is = h.is }
    by y e r f (inr c) =
        ⊎_elim
        (λ s. subst (HasOpen t (old ++ o ∷ [])) s
        (record { item = o; among = Contains-append_right old (o ∷ []) o (first_in o []); is = is }))
        (λ z. absurd (none_in y z)) (in_cons x y [] c)

-- the next node comes after those so far
pub comes_after : (nodes lent : List Node) (i : ℕ) (x : Node) → AllPairs (λ (a b : Node). a.reg.number < b.reg.number) nodes → lent ≡ nodes →
    i < length lent → x ≡ get_or lent i x → ComesAfter (take i nodes) x
comes_after nodes lent i x up same lt is y c = go c.0 c.1 c.2
  where
    within : i < length nodes
    within = subst (λ l. i < length l) same lt

    at : x ≡ get_or nodes i x
    at = subst (λ l. x ≡ get_or l i x) same is

    -- an item of the front, by its index
    front : (xs : List Node) (i k : ℕ) (y : Node) → k < length (take i xs) → (k < i) × (get_or (take i xs) k y ≡ get_or xs k y)
    front [] zero k y h = absurd (omega (arith, h))
    front [] (suc i) k y h = absurd (omega (arith, h))
    front (x ∷ xs) zero k y h = absurd (omega (arith, h))
    front (x ∷ xs) (suc i) zero y h = (omega arith, refl)
    front (x ∷ xs) (suc i) (suc k) y h = let f = front xs i k y (omega (arith, h)) in let l = f.0 in (omega (arith, l), f.1)

    any : (xs : List Node) (k : ℕ) (a b : Node) → k < length xs → get_or xs k a ≡ get_or xs k b
    any [] k a b h = absurd (omega (arith, h))
    any (z ∷ zs) zero a b h = refl
    any (z ∷ zs) (suc k) a b h = any zs k a b (omega (arith, h))

    go : (k : ℕ) → k < length (take i nodes) → get_or (take i nodes) k y ≡ y → y.reg.number < x.reg.number
    go k h e =
        let f = front nodes i k y h in
        let less : (get_or nodes k y).reg.number < (get_or nodes i y).reg.number = up k i y f.0 within in
        subst (λ (b : Node). y.reg.number < b.reg.number) (any nodes i y x within ∙ sym at)
        (subst (λ (a : Node). a.reg.number < (get_or nodes i y).reg.number) (sym f.1 ∙ e) less)

pub opens_step : (t : RangeTable) (nodes lent : List Node) (i : ℕ) (x : Node) (old new : List OpenNode) →
    AllPairs (λ (a b : Node). a.reg.number < b.reg.number) nodes → lent ≡ nodes → i < length lent → x ≡ get_or lent i x →
    ((front : List Node) → ComesAfter front x → AreOpenNodes t front old → AreOpenNodes t (front ++ x ∷ []) new) →
    AreOpenNodes t (take i nodes) old → AreOpenNodes t (take (i + 1) nodes) new
opens_step t nodes lent i x old new up same lt is step had =
    subst (λ l. AreOpenNodes t l new)
    (sym (take_more nodes i x (subst (λ l. i < length l) same lt)
    ∙ ap (λ y. take i nodes ++ y ∷ []) (sym (subst (λ l. x ≡ get_or l i x) same is))))
    (step (take i nodes) (comes_after nodes lent i x up same lt is) had)

pub opens_all : (t : RangeTable) (nodes : List Node) (i : ℕ) (opens : List OpenNode) → length nodes ≤ i → AreOpenNodes t (take i nodes) opens →
    AreOpenNodes t nodes opens
opens_all t nodes i opens le h = subst (λ l. AreOpenNodes t l opens) (take_all i nodes le) h

-- ---- the sort

abbrev Below : OpenNode → OpenNode → Type 0
Below x y = x.register.number < y.register.number

abbrev Sooner : OpenNode → OpenNode → Type 0
Sooner x y = StartsBefore (row_of x.register) (row_of y.register)

-- two that pass a test are to each other as among those that pass
within_filter : {A : Type 0} (R : A → A → Type 0) (p : A → Bool) (xs : List A) (i j : ℕ) (d : A) → i < j →
    j < length xs →
    p (get_or xs i d) ≡ true → p (get_or xs j d) ≡ true → AllPairs R (filter p xs) → R (get_or xs i d) (get_or xs j d)
within_filter R p [] i j d lt le a b h = absurd (omega (arith, le))
within_filter R p (x ∷ xs) i zero d lt le a b h = absurd (omega (arith, lt))
within_filter R p (x ∷ xs) zero (suc j) d lt le a b h =
    let all : AllPairs R (x ∷ filter p xs) =
    subst (λ (t : Bool). AllPairs R (cond t (x ∷ filter p xs) (filter p xs))) a h in
    let under : j < length xs = omega (arith, le) in
    pairs_first R x (filter p xs) all (get_or xs j d)
    (into_filter p xs (get_or xs j d) (Contains-get_or xs j d under) b)
within_filter R p (x ∷ xs) (suc i) (suc j) d lt le a b h =
    by (within_filter R p xs i j d (omega (arith, lt)) (omega (arith, le)) a b) (p x) h
  where
    by : (AllPairs R (filter p xs) → R (get_or xs i d) (get_or xs j d)) → (t : Bool) →
        AllPairs R (cond t (x ∷ filter p xs) (filter p xs)) → R (get_or xs i d) (get_or xs j d)
    by later true h = later (pairs_later R x (filter p xs) h)
    by later false h = later h

by_start : IsStrictWeakOrder begins_before
by_start = ranks_by nat_cmp_total (λ (x : OpenNode). x.register.from)

not_less : (a b : ℕ) → a ≤ b → is_lt (nat_cmp b a) ≡ false
not_less a b le = ap (λ (t : Bool). is_lt (cond t Less (cond (nat_eq b a) Equal Greater))) (le-ltb b a le) ∙
    by (nat_eq b a)
  where
    by : (s : Bool) → is_lt (cond s Equal Greater) ≡ false
    by true = refl
    by false = refl

-- sorted by where they begin, and those that begin together by number
sorted_pairs : (xs ys : List OpenNode) → AllPairs Below xs → IsSortedBy begins_before ys → IsStableBy begins_before xs ys → AllPairs Sooner ys
sorted_pairs xs ys up sorted stable = λ i j d lt le.
    let x : OpenNode = get_or ys i d in
    let y : OpenNode = get_or ys j d in
    let u : ℕ = x.register.from in
    let v : ℕ = y.register.from in
    let no_more : begins_before (get_or ys j d) (get_or ys i d) ≡ false =
    sorted_far begins_before by_start ys sorted i j d (omega (arith, lt)) le in
    let rises : u ≤ v = ge_from_not_lt v u no_more in
    ⊎_elim
    (λ (less : u < v). inl less)
    (λ (not : v ≤ u).
    let e : u ≡ v = omega (arith, rises, not) in
    let self : ties begins_before x (get_or ys i d) ≡ true =
    and_from _ _ (not_from_false _ (not_less u u (omega arith))) (not_from_false _ (not_less u u (omega arith))) in
    let tie : ties begins_before x (get_or ys j d) ≡ true =
    and_from _ _ (not_from_false _ (not_less v u not)) (not_from_false _ (not_less u v rises)) in
    inr (e, within_filter Below (ties begins_before x) ys i j d lt le self tie (tied_up x)))
    (cases_lt u v)
  where
    tied_up : (x : OpenNode) → AllPairs Below (filter (ties begins_before x) ys)
    tied_up x = subst (λ l. AllPairs Below l) (sym (stable x)) (AllPairs-filter Below (ties begins_before x) xs up)

pairs_into_map : {A B : Type 0} (f : A → B) (R : B → B → Type 0) (xs : List A) → (A) →
    AllPairs (λ x y. R (f x) (f y)) xs → AllPairs R (map f xs)
pairs_into_map f R xs e h = λ i j d lt le.
    let whole : j < length xs = subst (λ n. j < n) (length-map xs f) le in
    let under : i < length xs = omega (arith, lt, whole) in
    subst (λ b. R (get_or (map f xs) i d) b) (sym (get_or-map f xs j e d whole))
    (subst (λ a. R a (f (get_or xs j e))) (sym (get_or-map f xs i e d under)) (h i j e lt whole))

abbrev open_row : OpenNode → OpenInterval
open_row o = row_of o.register

rows_sorted : (ys : List OpenNode) → AllPairs Sooner ys → AllPairs StartsBefore (open_rows ys)
rows_sorted [] h = λ i j d lt le. absurd (omega (arith, le))
rows_sorted (z ∷ zs) h = pairs_into_map open_row StartsBefore (z ∷ zs) z h

in_rows : (ys : List OpenNode) (o : OpenNode) → Contains ys o → Contains (open_rows ys) (row_of o.register)
in_rows [] o c = absurd (none_in o c)
in_rows (y ∷ ys) o c =
    ⊎_elim (λ e. subst (λ (p : OpenNode). Contains (open_rows (y ∷ ys)) (row_of p.register)) e (first_in (row_of y.register) (open_rows ys)))
    (λ d. later_in (row_of y.register) (row_of o.register) (open_rows ys) (in_rows ys o d)) (in_cons y o ys c)

-- the open node that a row belongs to
pub record HasRow (ys : List OpenNode) (x : OpenInterval) : Type 0 where
  pub item : OpenNode
  pub among : Contains ys item
  pub is : row_of item.register ≡ x

pub of_rows : (ys : List OpenNode) (x : OpenInterval) → Contains (open_rows ys) x → HasRow ys x
of_rows [] x c = absurd (none_in x c)
of_rows (y ∷ ys) x c =
    ⊎_elim (λ e. record { item = y; among = first_in y ys; is = e })
    (λ d. let h = of_rows ys x d in record { item = h.item; among = later_in y h.item ys h.among; is = h.is })
    (in_cons (row_of y.register) x (open_rows ys) c)

module _ (g : Graph) (t : Intervals) (table : RangeTable) (xs ys : List OpenNode) (scannable : IsScannable g t)
    (has : HasIntervals (contents t.list) table) (opens : AreOpenNodes table g.nodes xs) (moved : IsPermutation xs ys) where
  back : (o : OpenNode) → Contains ys o → Contains xs o
  back o c = Contains-permutation ys xs o (IsPermutation-sym xs ys moved) c

  row_is_open : (o : OpenNode) → Contains ys o → IsOpenInterval g t (row_of o.register)
  row_is_open o c =
      let w = opens.sound o (back o c) in
      record {
        reg = w.item.reg;
        among = in_graph g.nodes w.item w.among;
        is_open = w.is.is_open;
        number = w.is.number;
        origin = w.is.origin;
        interval = subst (λ n. IntervalIn t n o.register.from o.register.to) (sym w.is.number)
            (has.sound w.item.reg.number (record { from = o.register.from; to = o.register.to }) w.is.range);
      }

  open_has_row : (x : OpenInterval) → IsOpenInterval g t x → Contains (open_rows ys) x
  open_has_row x h =
      let node = node_of g.nodes h.reg h.among in
      let number : node.node.reg.number ≡ x.number = ap (λ (r : Reg). r.number) node.same ∙ sym h.number in
      let range : range_at table node.node.reg.number ≡ Some (record { from = x.from; to = x.to }) =
      ap (range_at table) number ∙ has.whole (record { register = x.number; from = x.from; to = x.to }) h.interval in
      let w = opens.whole node.node node.among (ap (λ (r : Reg). r.loc) node.same ∙ h.is_open) (record { from = x.from; to = x.to }) range in
      subst (Contains (open_rows ys))
      (same_row w.item x (w.is.number ∙ number) (w.is.origin ∙ ap (λ (r : Reg). r.origin) node.same ∙ sym h.origin)
      (same_range (record { from = w.item.register.from; to = w.item.register.to }) (record { from = x.from; to = x.to }) (sym w.is.range ∙ range)))
      (in_rows ys w.item (Contains-permutation xs ys w.item moved w.among))
    where
      same_range : (r s : Range) → Some r ≡ Some s → r ≡ s
      same_range r s e = cc

      same_row : (o : OpenNode) (x : OpenInterval) → o.register.number ≡ x.number → o.register.origin ≡ x.origin →
          ◌≡◌ {A = Range} (record { from = o.register.from; to = o.register.to }) (record { from = x.from; to = x.to }) → row_of o.register ≡ x
      same_row o x a b e = by o.register.number o.register.origin o.register.from o.register.to x.number x.origin x.from x.to a b (ap (λ (r : Range). r.from) e) (ap (λ (r : Range). r.to) e)
        where
          by : (n1 o1 f1 t1 n2 o2 f2 t2 : ℕ) → n1 ≡ n2 → o1 ≡ o2 → f1 ≡ f2 → t1 ≡ t2 →
              ◌≡◌ {A = OpenInterval} (record { number = n1; origin = o1; from = f1; to = t1 }) (record { number = n2; origin = o2; from = f2; to = t2 })
          by n1 o1 f1 t1 n2 o2 f2 t2 a b c d = cc

  pub is_scan_order : IsSortedBy begins_before ys → IsStableBy begins_before xs ys → IsScanOrder g t (open_rows ys)
  is_scan_order sorted stable =
      record {
        exact = λ x. (
          λ c. let h = of_rows ys x c in subst (IsOpenInterval g t) h.is (row_is_open h.item h.among),
          λ h. open_has_row x h,
        );
        sorted = rows_sorted ys (sorted_pairs xs ys opens.order sorted stable);
      }

  pub are_nodes : AreNodesOf g ys
  are_nodes o c =
      let w = opens.sound o (back o c) in
      record {
        among = subst (Contains g.nodes) (sym w.is.node) w.among;
        number = ap (λ (x : Node). x.reg.number) w.is.node ∙ sym w.is.number;
      }
