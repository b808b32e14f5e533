-- The rows of a graph and its intervals are such as linear scan takes, so its places are a colouring with no needless slot by intervals.
use Rattle.std.proofs.Common.{◌≡◌, ◌≢◌, ℕ, ◌≤◌, ◌<◌, Bool, true, false, cond, not, nat_eq, ◌⊎◌, inl, inr, ⊎_elim, List, [], ◌∷◌, Some, AllPairs, get_or, refl, sym, ap, ◌∙◌, subst, arith}
use Rattle.std.proofs.Math.Path.{fun_ext}
use Rattle.std.proofs.lemmas.Bool.{true≢false, eq-eqb, eqb-true}
use Rattle.std.proofs.lemmas.List.Elements.{Contains-get_or}
use Rattle.std.specs.List.{Contains}
use Rattle.bs_words.proofs.Lists.{none_in, first_in, later_in, in_cons, pairs_later}
use Rattle.bs_words.specs.Contents.{contents}
use Rattle.bs_words.specs.declared.types.Loc.{Loc}
use Rattle.bs_words.specs.declared.types.Loc.TheVariants as loc
use Rattle.colouring.specs.Chosen.{has_colour, count_in_colour, fixed, location_of_node, node_at}
use Rattle.colouring.proofs.Found.{found_at, one_of_number, node_of, in_graph, none_counted, some_counted}
use Rattle.colouring.proofs.Ordered.{pairs_first, one_by_members}
use Rattle.mach_ir.specs.Graph.{InGraph, JoinedIn, IsColourable, coloured_location}
use Rattle.mach_ir.specs.Placed.{Colouring, colour_numbers, IsProperColouring}
use Rattle.mach_ir.specs.declared.graph.Colours.{Colours}
use Rattle.mach_ir.specs.declared.graph.Graph.{Graph}
use Rattle.mach_ir.specs.declared.graph.Node.{Node}
use Rattle.mach_ir.specs.declared.reg.Reg.{Reg}
use Rattle.linscan_rules.specs.Contract.{Overlaps, NoNeedlessSlotByIntervals}
use Rattle.linscan_rules.specs.Rows.{AreByStart, RowsOverlap, IsFixedOver, AreScanRows}
use Rattle.linscan_rules.specs.Scan.{OpenInterval, FixedInterval, scanned}
use Rattle.linscan_rules.specs.Table.{IntervalIn, IsScannable, StartsBefore, IsScanOrder, node_neighbours, neighbours_of, closed_by, IsScannedBy}
use Rattle.linscan_rules.specs.declared.interval.Interval.{Interval}
use Rattle.linscan_rules.specs.declared.interval.Intervals.{Intervals}
use Rattle.linscan_rules.proofs.Contract.{rows_coloured, rows_full}
use Rattle.linscan_rules.proofs.Scan.{in_is, is_in_it, not_true}
use Rattle.linscan_rules.proofs.Tables.{ComesBefore}

-- ---- one order

strict_by_numbers : (u v n k : ℕ) → (u < v) ⊎ ((u ≡ v) × (n < k)) → (v < u) ⊎ ((v ≡ u) × (k < n)) → ⊥
strict_by_numbers u v n k (inl a) (inl b) = absurd (omega (arith, a, b))
strict_by_numbers u v n k (inl a) (inr b) = let e = b.0 in absurd (omega (arith, a, e))
strict_by_numbers u v n k (inr a) (inl b) = let e = a.0 in absurd (omega (arith, e, b))
strict_by_numbers u v n k (inr a) (inr b) = let p = a.1 in let q = b.1 in absurd (omega (arith, p, q))

strict_start : (x y : OpenInterval) → StartsBefore x y → StartsBefore y x → ⊥
strict_start x y = strict_by_numbers x.from y.from x.number y.number

order_once : (g : Graph) (t : Intervals) (rows others : List OpenInterval) → IsScanOrder g t rows → IsScanOrder g t others → rows ≡ others
order_once g t rows others one two =
    one_by_members StartsBefore strict_start rows others one.sorted two.sorted (λ x c. (two.exact x).1 ((one.exact x).0 c)) (λ x c. (one.exact x).1 ((two.exact x).0 c))

pub scan_once : (g : Graph) (t : Intervals) (c d : Colours) → IsScannedBy g t c → IsScannedBy g t d → (n : ℕ) → coloured_location c n ≡ coloured_location d n
scan_once g t c d one two n =
    let same : one.rows ≡ two.rows = order_once g t one.rows two.rows one.ordered two.ordered in
    one.places n ∙ ap (λ rows. scanned colour_numbers (closed_by g) [] (fixed g) rows n) same ∙ sym (two.places n)

-- ---- the table

-- a register has one interval there
interval_of_register : (xs : List Interval) (x y : Interval) → AllPairs ComesBefore xs → Contains xs x → Contains xs y → x.register ≡ y.register → x ≡ y
interval_of_register [] x y up c d e = absurd (none_in x c)
interval_of_register (z ∷ zs) x y up c d e = by (in_cons z x zs c) (in_cons z y zs d) (λ a b. interval_of_register zs x y (pairs_later ComesBefore z zs up) a b e)
  where
    by : (z ≡ x) ⊎ Contains zs x → (z ≡ y) ⊎ Contains zs y → (Contains zs x → Contains zs y → x ≡ y) → x ≡ y
    by (inl f) (inl h) ih = sym f ∙ h
    by (inl f) (inr b) ih =
        let under : z.register < y.register = pairs_first ComesBefore z zs up y b in
        let same : z.register ≡ y.register = ap (λ (i : Interval). i.register) f ∙ e in
        absurd (omega (arith, under, same))
    by (inr a) (inl h) ih =
        let under : z.register < x.register = pairs_first ComesBefore z zs up x a in
        let same : z.register ≡ x.register = ap (λ (i : Interval). i.register) h ∙ sym e in
        absurd (omega (arith, under, same))
    by (inr a) (inr b) ih = ih a b

-- ---- the intervals of fixed registers

abbrev fixed_at : Loc → Interval → List FixedInterval → List FixedInterval
fixed_at loc.Unset i fs = fs
fixed_at (loc.Machine c) i fs = record { colour = c; from = i.from; to = i.to } ∷ fs
fixed_at (loc.Slot k) i fs = fs

-- those of registers that stand at a colour
abbrev fixed_intervals : Colouring → List Interval → List FixedInterval
fixed_intervals place [] = []
fixed_intervals place (i ∷ is) = fixed_at (place i.register) i (fixed_intervals place is)

at_colour : (l : Loc) (c : ℕ) → l ≡ loc.Machine c → (i : Interval) (fs : List FixedInterval) → Contains (fixed_at l i fs) (record { colour = c; from = i.from; to = i.to })
at_colour l c e i fs = subst (λ l. Contains (fixed_at l i fs) (record { colour = c; from = i.from; to = i.to })) (sym e) (first_in (record { colour = c; from = i.from; to = i.to }) fs)

one_more : (l : Loc) (i : Interval) (fs : List FixedInterval) (f : FixedInterval) → Contains fs f → Contains (fixed_at l i fs) f
one_more loc.Unset i fs f c = c
one_more (loc.Machine k) i fs f c = later_in (record { colour = k; from = i.from; to = i.to }) f fs c
one_more (loc.Slot k) i fs f c = c

into_fixed : (place : Colouring) (is : List Interval) (i : Interval) (c : ℕ) → place i.register ≡ loc.Machine c → Contains is i →
    Contains (fixed_intervals place is) (record { colour = c; from = i.from; to = i.to })
into_fixed place [] i c e d = absurd (none_in i d)
into_fixed place (j ∷ js) i c e d =
    ⊎_elim
    (λ same. subst (λ (k : Interval). Contains (fixed_intervals place (j ∷ js)) (record { colour = c; from = k.from; to = k.to })) same
    (at_colour (place j.register) c (ap (λ (k : Interval). place k.register) same ∙ e) j (fixed_intervals place js)))
    (λ b. one_more (place j.register) j (fixed_intervals place js) (record { colour = c; from = i.from; to = i.to }) (into_fixed place js i c e b))
    (in_cons j i js d)

record IsFixedBy (place : Colouring) (is : List Interval) (f : FixedInterval) : Type 0 where
  interval : Interval
  among : Contains is interval
  stands : place interval.register ≡ loc.Machine f.colour
  from : interval.from ≡ f.from
  to : interval.to ≡ f.to

from_fixed : (place : Colouring) (is : List Interval) (f : FixedInterval) → Contains (fixed_intervals place is) f → IsFixedBy place is f
from_fixed place [] f c = absurd (none_in f c)
from_fixed place (j ∷ js) f c = by (place j.register) refl c (λ d. from_fixed place js f d)
  where
    wider : IsFixedBy place js f → IsFixedBy place (j ∷ js) f
    wider w = record { interval = w.interval; among = later_in j w.interval js w.among; stands = w.stands; from = w.from; to = w.to }

    by : (l : Loc) → place j.register ≡ l → Contains (fixed_at l j (fixed_intervals place js)) f → (Contains (fixed_intervals place js) f → IsFixedBy place js f) → IsFixedBy place (j ∷ js) f
    by loc.Unset q d ih = wider (ih d)
    by (loc.Machine k) q d ih =
        ⊎_elim
        (λ same. record {
          interval = j;
          among = first_in j js;
          stands = q ∙ ap (λ (h : FixedInterval). loc.Machine h.colour) same;
          from = ap (λ (h : FixedInterval). h.from) same;
          to = ap (λ (h : FixedInterval). h.to) same;
        })
        (λ b. wider (ih b)) (in_cons (record { colour = k; from = j.from; to = j.to }) f (fixed_intervals place js) d)
    by (loc.Slot k) q d ih = wider (ih d)

-- ---- nodes by number

record StandsAt (nodes : List Node) (n c : ℕ) : Type 0 where
  node : Node
  among : Contains nodes node
  number : node.reg.number ≡ n
  stands : node.reg.loc ≡ loc.Machine c

-- the node that is fixed there
stands_at : (nodes : List Node) (n c : ℕ) → location_of_node (node_at nodes n) ≡ loc.Machine c → StandsAt nodes n c
stands_at [] n c e = absurd (no c e)
  where
    no : (c : ℕ) → loc.Unset ≡ loc.Machine c → ⊥
    no c e = cc
stands_at (x ∷ xs) n c e = by (nat_eq x.reg.number n) refl e (λ d. stands_at xs n c d)
  where
    by : (b : Bool) → nat_eq x.reg.number n ≡ b → location_of_node (cond b (Some x) (node_at xs n)) ≡ loc.Machine c →
        (location_of_node (node_at xs n) ≡ loc.Machine c → StandsAt xs n c) → StandsAt (x ∷ xs) n c
    by true q d ih = record { node = x; among = first_in x xs; number = eqb-true x.reg.number n q; stands = d }
    by false q d ih = let w = ih d in record { node = w.node; among = later_in x w.node xs w.among; number = w.number; stands = w.stands }

record Joins (nodes : List Node) (n k : ℕ) : Type 0 where
  node : Node
  among : Contains nodes node
  number : node.reg.number ≡ n
  joins : Contains node.neighbours k

-- the node whose neighbours these are
joins_at : (nodes : List Node) (n k : ℕ) → Contains (node_neighbours (node_at nodes n)) k → Joins nodes n k
joins_at [] n k c = absurd (none_in k c)
joins_at (x ∷ xs) n k c = by (nat_eq x.reg.number n) refl c (λ d. joins_at xs n k d)
  where
    by : (b : Bool) → nat_eq x.reg.number n ≡ b → Contains (node_neighbours (cond b (Some x) (node_at xs n))) k →
        (Contains (node_neighbours (node_at xs n)) k → Joins xs n k) → Joins (x ∷ xs) n k
    by true q d ih = record { node = x; among = first_in x xs; number = eqb-true x.reg.number n q; joins = d }
    by false q d ih = let w = ih d in record { node = w.node; among = later_in x w.node xs w.among; number = w.number; joins = w.joins }

-- ---- pairs of a list, where both are members

pairs_of : {A : Type 0} (R S : A → A → Type 0) (xs : List A) → ((x y : A) → Contains xs x → Contains xs y → R x y → S x y) → AllPairs R xs → AllPairs S xs
pairs_of R S xs f h = λ i j d lt within.
    f (get_or xs i d) (get_or xs j d) (Contains-get_or xs i d (omega (arith, lt, within))) (Contains-get_or xs j d within) (h i j d lt within)

-- ---- the rows

module _ (g : Graph) (t : Intervals) (h : IsColourable g) (may : IsScannable g t) (rows : List OpenInterval) (are : IsScanOrder g t rows) where
  once : (n from to other_from other_to : ℕ) → IntervalIn t n from to → IntervalIn t n other_from other_to → (from ≡ other_from) × (to ≡ other_to)
  once n from to other_from other_to c d =
      let same = interval_of_register (contents t.list) (record { register = n; from = from; to = to }) (record { register = n; from = other_from; to = other_to }) may.order c d refl in
      (ap (λ (i : Interval). i.from) same, ap (λ (i : Interval). i.to) same)

  its : (x : OpenInterval) → Contains rows x → IntervalIn t x.number x.from x.to
  its x c = ((are.exact x).0 c).interval

  apart : (x y : OpenInterval) → Contains rows x → Contains rows y → StartsBefore x y → x.number ≡ y.number → ⊥
  apart x y c d s e = by s
    where
      same : x.from ≡ y.from
      same = (once y.number x.from x.to y.from y.to (subst (λ n. IntervalIn t n x.from x.to) e (its x c)) (its y d)).0

      by : StartsBefore x y → ⊥
      by (inl a) = let f = same in absurd (omega (arith, a, f))
      by (inr a) = let f = a.1 in absurd (omega (arith, f, e))

  by_start : AreByStart rows
  by_start = record {
    pairs = pairs_of StartsBefore (λ (x y : OpenInterval). (x.from ≤ y.from) × (x.number ≢ y.number)) rows (λ x y c d s. (no_later x y s, apart x y c d s)) are.sorted;
    ranges = λ k d lt. let x = get_or rows k d in may.ranges x.number x.from x.to (its x (Contains-get_or rows k d lt));
  }
    where
      no_later : (x y : OpenInterval) → StartsBefore x y → x.from ≤ y.from
      no_later x y (inl a) = omega (arith, a)
      no_later x y (inr a) = let e = a.0 in omega (arith, e)

  -- ---- registers of the graph

  one_register : (r q : Reg) → InGraph g r → InGraph g q → r.number ≡ q.number → r ≡ q
  one_register r q i j e =
      let w = node_of g.nodes r i in
      let v = node_of g.nodes q j in
      let numbers : w.node.reg.number ≡ v.node.reg.number = ap (λ (k : Reg). k.number) w.same ∙ e ∙ sym (ap (λ (k : Reg). k.number) v.same) in
      sym w.same ∙ ap (λ (x : Node). x.reg) (one_of_number g.nodes w.node v.node h.order w.among v.among numbers) ∙ v.same

  begins : (r : Reg) → InGraph g r → fixed g r.number ≡ r.loc
  begins r i =
      let w = node_of g.nodes r i in
      subst (λ (k : Reg). fixed g k.number ≡ k.loc) w.same (ap location_of_node (found_at g.nodes w.node h.order w.among))

  open_row : (r : Reg) → InGraph g r → r.loc ≡ loc.Unset → (x : OpenInterval) × Contains rows x × (x.number ≡ r.number) × (x.origin ≡ r.origin)
  open_row r i u =
      let o = may.open_ones r i u in
      let x : OpenInterval = record { number = r.number; origin = r.origin; from = o.0; to = o.1 } in
      (x, (are.exact x).1 (record { reg = r; among = i; is_open = u; number = refl; origin = refl; interval = o.2 }), refl, refl)

  no_row : (r : Reg) → InGraph g r → r.loc ≢ loc.Unset → (x : OpenInterval) → Contains rows x → x.number ≢ r.number
  no_row r i set x c e =
      let w = (are.exact x).0 c in
      let same : w.reg ≡ r = one_register w.reg r w.among i (sym w.number ∙ e) in
      set (subst (λ (k : Reg). k.loc ≡ loc.Unset) same w.is_open)

  is_row : (x : OpenInterval) → Contains rows x → (r : Reg) × InGraph g r × (r.number ≡ x.number) × IntervalIn t x.number x.from x.to
  is_row x c = let w = (are.exact x).0 c in (w.reg, w.among, sym w.number, w.interval)

  -- ---- fixed registers

  abbrev fixed_ones : List FixedInterval
  fixed_ones = fixed_intervals (fixed g) (contents t.list)

  is_fixed : (f : FixedInterval) → Contains fixed_ones f → (q : Reg) × InGraph g q × (q.loc ≡ loc.Machine f.colour) × IntervalIn t q.number f.from f.to
  is_fixed f c =
      let w = from_fixed (fixed g) (contents t.list) f c in
      let v = stands_at g.nodes (w.interval).register f.colour w.stands in (
        (v.node).reg,
        in_graph g.nodes v.node v.among,
        v.stands,
        subst (λ n. IntervalIn t n f.from f.to) (sym v.number)
            (subst (λ k. IntervalIn t (w.interval).register f.from k) w.to (subst (λ k. IntervalIn t (w.interval).register k (w.interval).to) w.from w.among)),
      )

  joined_at : (n k : ℕ) → Contains (neighbours_of g n) k → JoinedIn g n k
  joined_at n k c = let w = joins_at g.nodes n k c in record { node = w.node; among = w.among; number = w.number; joins = w.joins }

  neighbour_at : (n k : ℕ) → JoinedIn g n k → Contains (neighbours_of g n) k
  neighbour_at n k j =
      subst (λ n. Contains (neighbours_of g n) k) j.number
      (subst (λ o. Contains (node_neighbours o) k) (sym (found_at g.nodes j.node h.order j.among)) j.joins)

  abbrev counted : ℕ → ℕ → ℕ
  counted n c = count_in_colour (fixed g) c (neighbours_of g n)

  closes : (x : OpenInterval) (q : Reg) (c : ℕ) → Contains rows x → InGraph g q → q.loc ≡ loc.Machine c → JoinedIn g x.number q.number → closed_by g x c ≡ true
  closes x q c z i e j = by (nat_eq (counted x.number c) 0) refl
    where
      at : has_colour c (fixed g q.number) ≡ true
      at = is_in_it c (fixed g q.number) (begins q i ∙ e)

      by : (b : Bool) → nat_eq (counted x.number c) 0 ≡ b → not b ≡ true
      by true f =
          absurd (true≢false (sym at ∙ none_counted (λ n. has_colour c (fixed g n)) (neighbours_of g x.number) (eqb-true (counted x.number c) 0 f) q.number (neighbour_at x.number q.number j)))
      by false f = refl

  -- the row's interval is the one that it has in common with the other
  in_common : (x : OpenInterval) → Contains rows x → (k : ℕ) → (o : Overlaps (IntervalIn t) x.number k) → (x.from ≡ o.from) × (x.to ≡ o.to)
  in_common x z k o = once x.number x.from x.to o.from o.to (its x z) o.one

  blocks : (x : OpenInterval) (c : ℕ) → Contains rows x → closed_by g x c ≡ true → IsFixedOver fixed_ones x c
  blocks x c z e =
      let w = some_counted (λ n. has_colour c (fixed g n)) (neighbours_of g x.number)
      (λ none. true≢false (sym (eq-eqb (counted x.number c) 0 none) ∙ not_true (nat_eq (counted x.number c) 0) e)) in
      let o = may.overlap x.number w.what (joined_at x.number w.what w.among) in
      let same = in_common x z w.what o in
      let begin = same.0 in
      let end = same.1 in
      let one = (o.overlap).0 in
      let two = (o.overlap).1 in
      record {
        fixed = record { colour = c; from = o.other_from; to = o.other_to };
        among = into_fixed (fixed g) (contents t.list) (record { register = w.what; from = o.other_from; to = o.other_to }) c (in_is c (fixed g w.what) w.passes) o.two;
        colour = refl;
        overlap = (omega (arith, end, two), omega (arith, begin, one));
      }

  meet : (x y : OpenInterval) → Contains rows x → Contains rows y → JoinedIn g x.number y.number → RowsOverlap x y
  meet x y z w j =
      let o = may.overlap x.number y.number j in
      let same = in_common x z y.number o in
      let other = once y.number y.from y.to o.other_from o.other_to (its y w) o.two in
      let begin = same.0 in
      let end = same.1 in
      let other_begin = other.0 in
      let other_end = other.1 in
      let one = (o.overlap).0 in
      let two = (o.overlap).1 in
      (omega (arith, begin, other_end, one), omega (arith, end, other_begin, two))

  pub are_rows : AreScanRows (InGraph g) (JoinedIn g) (IntervalIn t) (closed_by g) fixed_ones (fixed g) rows
  are_rows =
      record {
        by_start = by_start;
        open_row = open_row;
        no_row = no_row;
        is_row = is_row;
        begins = λ r i set. begins r i;
        fixed = is_fixed;
        closes = closes;
        blocks = blocks;
        meet = meet;
        symmetric = h.symmetric;
        apart_from_itself = h.apart_from_itself;
        agree = h.agree;
      }

-- ---- what is scanned

module _ (g : Graph) (t : Intervals) (c : Colours) (h : IsColourable g) (may : IsScannable g t) (by : IsScannedBy g t c) where
  same_places : scanned colour_numbers (closed_by g) [] (fixed g) by.rows ≡ coloured_location c
  same_places = sym (fun_ext by.places)

  pub scanned_safe : IsProperColouring (InGraph g) (JoinedIn g) (coloured_location c)
  scanned_safe =
      subst (λ p. IsProperColouring (InGraph g) (JoinedIn g) p) same_places
      (rows_coloured (InGraph g) (JoinedIn g) (IntervalIn t) (closed_by g) (fixed_ones g t h may by.rows by.ordered) (fixed g) by.rows (are_rows g t h may by.rows by.ordered))

  pub scanned_full : NoNeedlessSlotByIntervals (InGraph g) (IntervalIn t) (coloured_location c)
  scanned_full =
      subst (λ p. NoNeedlessSlotByIntervals (InGraph g) (IntervalIn t) p) same_places
      (rows_full (InGraph g) (JoinedIn g) (IntervalIn t) (closed_by g) (fixed_ones g t h may by.rows by.ordered) (fixed g) by.rows (are_rows g t h may by.rows by.ordered))
