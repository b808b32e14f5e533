-- The places of linear scan are a colouring with no needless slot by intervals.
use Rattle.std.proofs.Common.{◌≡◌, ◌≢◌, ℕ, Bool, true, false, cond, ◌⊎◌, inl, inr, ⊎_elim, List, [], ◌∷◌, Option, Some, None, refl, sym, ap, ◌∙◌, subst}
use Rattle.std.proofs.lemmas.Bool.{true≢false}
use Rattle.bs_words.specs.declared.types.Loc.TheVariants as loc
use Rattle.mach_ir.specs.Placed.{Colouring, colour_numbers, HasColourOrSlot, in_colour, in_slot, MayShare, IsProperColouring, placed_by}
use Rattle.mach_ir.specs.declared.reg.Reg.{Reg}
use Rattle.linscan_rules.specs.Contract.{Overlaps, NoNeedlessSlotByIntervals}
use Rattle.linscan_rules.specs.Rows.{AreScanRows}
use Rattle.colouring.specs.Chosen.{colouring_with}
use Rattle.linscan_rules.specs.Scan.{OpenInterval, FixedInterval, ClosedColours, Giver, put_in_slot as to_slot, given_up, placed_next, last_giver, first_without, is_closed_or_held, scan_one, scanned}
use Rattle.linscan_rules.proofs.Scan.{IsIn, is_first, is_later, gives, Full, by_fixed, by_row, Settled, all_of, put_there, scanned_settled, none_settled}
use Rattle.linscan_rules.proofs.Rows.{in_of, contains_of, in_all, Known, known}

machine_slot : (n k : ℕ) → loc.Machine n ≡ loc.Slot k → ⊥
machine_slot n k e = cc

same_slot : (n k : ℕ) → loc.Slot n ≡ loc.Slot k → n ≡ k
same_slot n k e = cc

unset_machine : (n : ℕ) → loc.Unset ≡ loc.Machine n → ⊥
unset_machine n e = cc

-- what is no row's number keeps its place
kept_one : (closed : ClosedColours) (done : List OpenInterval) (place : Colouring) (x : OpenInterval) (n : ℕ) → (n ≡ x.number → ⊥) → ((r : OpenInterval) → IsIn r done → r.number ≡ n → ⊥) →
    scan_one colour_numbers closed done place x n ≡ place n
kept_one closed done place x n out fresh = by (first_without (is_closed_or_held closed done place x) colour_numbers)
  where
    up : (o : Option Giver) → last_giver closed place done x ≡ o → given_up place x o n ≡ place n
    up None e = put_there place x.number (loc.Slot x.origin) n out
    up (Some g) e = choose _
      where
        choose : (b : Bool) → cond b (colouring_with (to_slot place g.row) x.number (loc.Machine g.colour)) (to_slot place x) n ≡ place n
        choose true =
            put_there (to_slot place g.row) x.number (loc.Machine g.colour) n out
            ∙ put_there place g.row.number (loc.Slot g.row.origin) n (λ q. fresh g.row (gives closed place done x g e).among (sym q))
        choose false = put_there place x.number (loc.Slot x.origin) n out

    by : (o : Option ℕ) → placed_next closed done place x o n ≡ place n
    by None = up (last_giver closed place done x) refl
    by (Some c) = put_there place x.number (loc.Machine c) n out

kept : (closed : ClosedColours) (done : List OpenInterval) (place : Colouring) (xs : List OpenInterval) (n : ℕ) → ((r : OpenInterval) → IsIn r (all_of done xs) → r.number ≡ n → ⊥) →
    scanned colour_numbers closed done place xs n ≡ place n
kept closed done place [] n fresh = refl
kept closed done place (x ∷ xs) n fresh =
    kept closed (x ∷ done) (scan_one colour_numbers closed done place x) xs n fresh
    ∙ kept_one closed done place x n (λ e. fresh x (in_all (x ∷ done) xs x is_first) (sym e)) (λ r z e. fresh r (in_all (x ∷ done) xs r (is_later z)) e)

module _ (IsOne : Reg → Type 0) (AreJoined : ℕ → ℕ → Type 0) (Interval : ℕ → ℕ → ℕ → Type 0) (closed : ClosedColours) (fs : List FixedInterval) (start : Colouring) (rows : List OpenInterval)
    (are : Known IsOne AreJoined Interval closed fs start rows) where
  abbrev P : Colouring
  P = scanned colour_numbers closed [] start rows

  abbrev All : List OpenInterval
  All = all_of [] rows

  settled : Settled colour_numbers closed fs All P
  settled = scanned_settled colour_numbers closed fs [] start rows are.blocks are.sorted (none_settled colour_numbers closed fs start)

  stays : (r : Reg) → IsOne r → r.loc ≢ loc.Unset → P r.number ≡ r.loc
  stays r i e = kept closed [] start rows r.number (λ x z q. are.no_row r i e x z q) ∙ are.begins r i e

  abbrev Told : Reg → Type 0
  Told r = ((r.loc ≡ loc.Unset) × ((x : OpenInterval) × IsIn x All × (x.number ≡ r.number) × (x.origin ≡ r.origin))) ⊎ ((r.loc ≢ loc.Unset) × HasColourOrSlot r)

  set : (r : Reg) → HasColourOrSlot r → r.loc ≢ loc.Unset
  set r (in_colour n c e) u = unset_machine n (sym u ∙ e)
  set r (in_slot e) u = no r.origin (sym u ∙ e)
    where
      no : (k : ℕ) → loc.Unset ≡ loc.Slot k → ⊥
      no k e = cc

  told : (r : Reg) → IsOne r → Told r
  told r i = ⊎_elim (λ e. inl (e, are.open_row r i e)) (λ p. inr (set r p, p)) (are.agree.places r i)

  at_row : (r : Reg) (x : OpenInterval) → x.number ≡ r.number → P x.number ≡ P r.number
  at_row r x e = ap P e

  places : (r : Reg) → IsOne r → HasColourOrSlot (placed_by P r)
  places r i = by (told r i)
    where
      fixed_one : HasColourOrSlot r → P r.number ≡ r.loc → HasColourOrSlot (placed_by P r)
      fixed_one (in_colour n c e) p = in_colour n c (p ∙ e)
      fixed_one (in_slot e) p = in_slot (p ∙ e)

      by : Told r → HasColourOrSlot (placed_by P r)
      by (inl y) =
          let x = y.1.0 in
          ⊎_elim (λ c. in_colour c.0 (contains_of c.1) (sym (at_row r x y.1.2) ∙ c.2)) (λ s. in_slot (sym (at_row r x y.1.2) ∙ s ∙ ap loc.Slot y.1.3)) (settled.chosen x y.1.1)
      by (inr y) = fixed_one y.1 (stays r i y.0)

  -- a row and a fixed register that it is joined with
  row_fixed : (r q : Reg) (x : OpenInterval) → IsOne q → IsIn x All → x.number ≡ r.number → x.origin ≡ r.origin → q.loc ≢ loc.Unset → HasColourOrSlot q → AreJoined r.number q.number →
      P r.number ≡ P q.number → (r.origin ≡ q.origin) × (P r.number ≡ loc.Slot r.origin)
  row_fixed r q x j z e o set_q placed joined same =
      ⊎_elim (λ c. absurd (by_colour c.0 (at_row r x e ∙ same ∙ stays q j set_q) c.2)) (λ s. by_slot placed (sym (at_row r x e) ∙ s ∙ ap loc.Slot o)) (settled.chosen x z)
    where
      by_colour : (c : ℕ) → P x.number ≡ q.loc → P x.number ≡ loc.Machine c → ⊥
      by_colour c p m =
          true≢false (sym (are.closes x q c z j (sym p ∙ m) (subst (λ n. AreJoined n q.number) (sym e) joined)) ∙ settled.clear x z c m)

      by_slot : HasColourOrSlot q → P r.number ≡ loc.Slot r.origin → (r.origin ≡ q.origin) × (P r.number ≡ loc.Slot r.origin)
      by_slot (in_colour n c l) s = absurd (machine_slot n r.origin (sym l ∙ sym (stays q j set_q) ∙ sym same ∙ s))
      by_slot (in_slot l) s = (same_slot r.origin q.origin (sym s ∙ same ∙ stays q j set_q ∙ l), s)

  rows_apart : (r q : Reg) (x y : OpenInterval) → IsIn x All → IsIn y All → x.number ≡ r.number → y.number ≡ q.number → x.origin ≡ r.origin → y.origin ≡ q.origin → AreJoined r.number q.number →
      P r.number ≡ P q.number → (r.origin ≡ q.origin) × (P r.number ≡ loc.Slot r.origin)
  rows_apart r q x y z w e f o u joined same =
      ⊎_elim (λ c. absurd (in_colours c.0 c.2)) (λ s. ⊎_elim (λ c. absurd (machine_slot c.0 x.origin (sym c.2 ∙ sym both ∙ s)))
      (λ t. (sym o ∙ same_slot x.origin y.origin (sym s ∙ both ∙ t) ∙ u, sym (at_row r x e) ∙ s ∙ ap loc.Slot o)) (settled.chosen y w)) (settled.chosen x z)
    where
      both : P x.number ≡ P y.number
      both = at_row r x e ∙ same ∙ sym (at_row q y f)

      join : AreJoined x.number y.number
      join = subst (λ n. AreJoined n y.number) (sym e) (subst (AreJoined r.number) (sym f) joined)

      in_colours : (c : ℕ) → P x.number ≡ loc.Machine c → ⊥
      in_colours c m =
          let one = settled.apart x y z w c m (sym both ∙ m) (are.meet x y z w join) in
          are.apart_from_itself x.number (subst (AreJoined x.number) (sym one) join)

  turned : (r q : Reg) → P r.number ≡ P q.number → (q.origin ≡ r.origin) × (P q.number ≡ loc.Slot q.origin) → (r.origin ≡ q.origin) × (P r.number ≡ loc.Slot r.origin)
  turned r q same y = (sym y.0, same ∙ y.1 ∙ ap loc.Slot y.0)

  apart : (r q : Reg) → IsOne r → IsOne q → AreJoined r.number q.number → P r.number ≡ P q.number → MayShare (placed_by P r) (placed_by P q)
  apart r q i j joined same = by (told r i) (told q j)
    where
      by : Told r → Told q → (r.origin ≡ q.origin) × (P r.number ≡ loc.Slot r.origin)
      by (inl a) (inl b) = rows_apart r q a.1.0 b.1.0 a.1.1 b.1.1 a.1.2 b.1.2 a.1.3 b.1.3 joined same
      by (inl a) (inr b) = row_fixed r q a.1.0 j a.1.1 a.1.2 a.1.3 b.0 b.1 joined same
      by (inr a) (inl b) = turned r q same (row_fixed q r b.1.0 i b.1.1 b.1.2 b.1.3 a.0 a.1 (are.symmetric r.number q.number joined) (sym same))
      by (inr a) (inr b) =
          let y = are.agree.apart r q i j joined a.0 (sym (stays r i a.0) ∙ same ∙ stays q j b.0) in
          (y.0, stays r i a.0 ∙ y.1)

  pub is_colouring : IsProperColouring IsOne AreJoined P
  is_colouring =
      record {
        fixed = λ r i. ⊎_elim (λ y. inl y.0) (λ y. inr (stays r i y.0)) (told r i);
        places = places;
        apart = apart;
      }

  pub no_needless_slot : NoNeedlessSlotByIntervals IsOne Interval P
  no_needless_slot =
      record {
        full = λ r i open_place k s n c.
            let y = are.open_row r i open_place in
            let x = y.0 in
            by r x y.1 y.2 n (settled.full x y.1 k (at_row r x y.2 ∙ s) n (in_of n colour_numbers c));
      }
    where
      by : (r : Reg) (x : OpenInterval) → IsIn x All → x.number ≡ r.number → (n : ℕ) → Full fs All P x n → (q : Reg) × IsOne q × Overlaps Interval r.number q.number × (P q.number ≡ loc.Machine n)
      by r x z e n (by_fixed f w same m) =
          let h = are.fixed f w in
          let own = (are.is_row x z).3 in
          let at : (h.0).loc ≡ loc.Machine n = h.2 ∙ ap loc.Machine same in (
            h.0,
            h.1,
            record {
              from = x.from;
              to = x.to;
              other_from = f.from;
              other_to = f.to;
              one = subst (λ j. Interval j x.from x.to) e own;
              two = h.3;
              overlap = (m.1, m.0);
            },
            stays h.0 h.1 (λ u. unset_machine n (sym u ∙ at)) ∙ at,
          )
      by r x z e n (by_row y w stands m le) =
          let own = (are.is_row x z).3 in
          let h = are.is_row y w in (
            h.0,
            h.1,
            record {
              from = x.from;
              to = x.to;
              other_from = y.from;
              other_to = y.to;
              one = subst (λ j. Interval j x.from x.to) e own;
              two = subst (λ j. Interval j y.from y.to) (sym h.2) h.3;
              overlap = (m.1, m.0);
            },
            ap P h.2 ∙ stands,
          )

-- ---- of what is known of rows

module _ (IsOne : Reg → Type 0) (AreJoined : ℕ → ℕ → Type 0) (Interval : ℕ → ℕ → ℕ → Type 0) (closed : ClosedColours) (fs : List FixedInterval) (start : Colouring) (rows : List OpenInterval)
    (are : AreScanRows IsOne AreJoined Interval closed fs start rows) where
  abbrev told_rows : Known IsOne AreJoined Interval closed fs start rows
  told_rows = known IsOne AreJoined Interval closed fs start rows are

  pub rows_coloured : IsProperColouring IsOne AreJoined (scanned colour_numbers closed [] start rows)
  rows_coloured = is_colouring IsOne AreJoined Interval closed fs start rows told_rows

  pub rows_full : NoNeedlessSlotByIntervals IsOne Interval (scanned colour_numbers closed [] start rows)
  rows_full = no_needless_slot IsOne AreJoined Interval closed fs start rows told_rows
