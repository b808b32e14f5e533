-- Intervals from ranges, one after the other.
use Rattle.std.proofs.Common.{◌≡◌, ℕ, ◌+◌, ◌<◌, ◌≤◌, ◌⊎◌, inl, inr, ⊎_elim, List, [], ◌∷◌, ◌++◌, Option, Some, None, length, get_or, refl, sym, ap, ◌∙◌, subst, arith}
use Rattle.std.specs.List.{AllPairs, Contains}
use Rattle.std.proofs.lemmas.Bool.{cases_lt}
use Rattle.std.proofs.lemmas.List.{get_or_past}
use Rattle.std.proofs.lemmas.List.Elements.{Contains-get_or, Contains-append_left, Contains-append_right, Contains-append_cases}
use Rattle.std.proofs.lemmas.List.Quantifiers.{all_pairs_push}
use Rattle.bs_words.specs.Contents.{contents}
use Rattle.bs_words.proofs.Lists.{none_in, first_in, in_cons}
use Rattle.mach_ir.specs.declared.mach.Mach.{Mach}
use Rattle.linscan_rules.specs.Table.{IsIntervalsOf}
use Rattle.linscan_rules.specs.declared.interval.Interval.{Interval}
use Rattle.linscan_rules.specs.declared.interval.Intervals.{Intervals}
use Rattle.linscan.specs.Listed.{AreRangesOf, AreRowsBelow}
use Rattle.linscan.specs.Seen.{RangeTable, range_at, IsWithin, begins, ends}
use Rattle.linscan.specs.declared.ranges.Range.{Range}

abbrev Row : ℕ → Range → Interval
Row n r = record { register = n; from = r.from; to = r.to }

same_range : (r s : Range) → Some r ≡ Some s → r ≡ s
same_range r s e = cc

pub rows_none : (t : RangeTable) (rows : List Interval) → rows ≡ [] → AreRowsBelow t 0 rows
rows_none t rows none =
    subst (AreRowsBelow t 0) (sym none)
    (record {
      order = λ i j d lt le. absurd (omega (arith, le));
      sound = λ x c. absurd (none_in x c);
      whole = λ n r lt e. absurd (omega (arith, lt));
    })

-- no range at this number
pub rows_same : (t : RangeTable) (n : ℕ) (o : Option Range) (rows : List Interval) → o ≡ range_at t n → o ≡ None → AreRowsBelow t n rows →
    AreRowsBelow t (n + 1) rows
rows_same t n o rows read none old =
    record {
      order = old.order;
      sound = λ x c. let h = old.sound x c in let lt = h.0 in (omega (arith, lt), h.1);
      whole = λ k r lt e. ⊎_elim (λ less. old.whole k r less e)
          (λ (le : n ≤ k).
          let s : k ≡ n = omega (arith, lt, le) in
          let f : None ≡ Some r = sym none ∙ read ∙ ap (range_at t) (sym s) ∙ e in absurd (cc)) (cases_lt k n);
    }

pub rows_more : (t : RangeTable) (n : ℕ) (o : Option Range) (r : Range) (old new : List Interval) → o ≡ range_at t n → o ≡ Some r →
    new ≡ old ++ record { register = n; from = r.from; to = r.to } ∷ [] → AreRowsBelow t n old → AreRowsBelow t (n + 1) new
rows_more t n o r old new read some made had =
    subst (AreRowsBelow t (n + 1)) (sym made)
    (record {
      order = all_pairs_push (λ (x y : Interval). x.register < y.register) old (Row n r) had.order
          (λ k d lt. (had.sound (get_or old k d) (Contains-get_or old k d lt)).0);
      sound = λ x c. by x (Contains-append_cases old (Row n r ∷ []) x c);
      whole = λ k s lt e. ⊎_elim (λ less. Contains-append_left old (Row n r ∷ []) (Row k s) (had.whole k s less e))
          (λ (le : n ≤ k).
          let is : k ≡ n = omega (arith, lt, le) in
          let f : Some r ≡ Some s = sym some ∙ read ∙ ap (range_at t) (sym is) ∙ e in
          let g : r ≡ s = same_range r s f in
          subst (λ q. Contains (old ++ Row n r ∷ []) (Row k q)) g
          (subst (λ j. Contains (old ++ Row n r ∷ []) (Row j r)) (sym is) (Contains-append_right old (Row n r ∷ []) (Row n r) (first_in (Row n r) []))))
          (cases_lt k n);
    })
  where
    Is : Interval → Type 0
    Is x = (x.register < n + 1) × (range_at t x.register ≡ Some (record { from = x.from; to = x.to }))

    by : (x : Interval) → Contains old x ⊎ Contains (Row n r ∷ []) x → Is x
    by x (inl c) = let h = had.sound x c in let lt = h.0 in (omega (arith, lt), h.1)
    by x (inr c) =
        ⊎_elim (λ e. subst Is e (omega arith, sym read ∙ some)) (λ z. absurd (none_in x z)) (in_cons (Row n r) x [] c)

-- ---- the table

pub are_intervals : (m : Mach) (t : RangeTable) (size : ℕ) (rows : List Interval) (made : Intervals) → length t ≡ size →
    AreRangesOf m t → AreRowsBelow t size rows → contents made.list ≡ rows → IsIntervalsOf m made
are_intervals m t size rows made len ranges below is =
    record {
      order = subst (λ l. AllPairs (λ (x y : Interval). x.register < y.register) l) (sym is) below.order;
      exact = λ n from to c.
          let h = (below.sound (record { register = n; from = from; to = to }) (subst (λ l. Contains l (record { register = n; from = from; to = to })) is c)).1 in
          record {
            first = ranges.sound n from (begins (record { from = from; to = to }) h refl);
            last = ranges.sound n to (ends (record { from = from; to = to }) h refl);
            least = λ p a. (bounds n from to h p (ranges.whole n p a)).0;
            most = λ p a. (bounds n from to h p (ranges.whole n p a)).1;
          };
      all = λ n p a.
          let w = ranges.whole n p a in
          (w.range.from, w.range.to, subst (λ l. Contains l (Row n w.range)) (sym is) (below.whole n w.range (within n w.range w.there) w.there));
    }
  where
    within : (n : ℕ) (r : Range) → range_at t n ≡ Some r → n < size
    within n r e =
        subst (λ k. n < k) len
        (⊎_elim (λ lt. lt) (λ le. let f : range_at t n ≡ None = get_or_past t n None le in absurd (cc)) (cases_lt n (length t)))

    bounds : (n from to : ℕ) → range_at t n ≡ Some (record { from = from; to = to }) → (p : ℕ) → IsWithin t n p → (from ≤ p) × (p ≤ to)
    bounds n from to h p w =
        let e : w.range ≡ record { from = from; to = to } = same_range w.range (record { from = from; to = to }) (sym w.there ∙ h) in
        (subst (λ (r : Range). r.from ≤ p) e w.from, subst (λ (r : Range). p ≤ r.to) e w.to)
