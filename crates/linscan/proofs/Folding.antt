-- The places so far, and those of all rows.
use Rattle.std.proofs.Common.{◌≡◌, ◌≢◌, ℕ, zero, suc, ◌+◌, ◌<◌, ◌≤◌, Bool, true, false, cond, not, nat_eq, nat_lt, ◌||◌, ◌⊎◌, inl, inr, ⊎_elim, List, [], ◌∷◌, Option, Some, None, map, length, drop, get_or, refl, sym, ap, ◌∙◌, subst, arith}
use Rattle.std.proofs.Math.Path.{fun_ext}
use Rattle.std.specs.List.{All, AllPairs, Contains, list_any, count_by}
use Rattle.std.proofs.lemmas.Bool.{cases_eq, eq-eqb, eqb-true, ne_eqb, ltb-true, true≢false}
use Rattle.std.proofs.lemmas.Option.{none-some, same_Some}
use Rattle.std.proofs.lemmas.List.Elements.{All-contains, Contains-get_or}
use Rattle.bs_words.specs.Contents.{contents}
use Rattle.bs_words.specs.declared.types.Loc.{Loc}
use Rattle.bs_words.specs.declared.types.Loc.TheVariants as loc
use Rattle.bs_words.proofs.Lists.{none_in, first_in, later_in, in_cons, drop_none, drop_step}
use Rattle.mach_ir.specs.Graph.{IsOrdered}
use Rattle.mach_ir.specs.Placed.{Colouring, colour_numbers}
use Rattle.mach_ir.specs.declared.graph.Colours.{Colours}
use Rattle.mach_ir.specs.declared.graph.Graph.{Graph}
use Rattle.mach_ir.specs.declared.graph.Node.{Node}
use Rattle.mach_ir.specs.declared.reg.Reg.{Reg}
use Rattle.colouring.specs.Chosen.{has_colour, fixed, node_at, colouring_with}
use Rattle.colouring.specs.Tables.{places_by}
use Rattle.colouring.proofs.Found.{found_at, node_of, none_counted, some_counted}
use Rattle.colouring.proofs.Ordered.{pairs_first}
use Rattle.linscan_rules.specs.Scan.{OpenInterval, ClosedColours, is_held, first_without, last_giver, put_in_slot, given_up, placed_next, is_closed_or_held, scan_one, scanned}
use Rattle.linscan_rules.specs.Table.{IsScannable, StartsBefore, IsScanOrder, node_neighbours, neighbours_of, closed_by, IsScannedBy}
use Rattle.linscan_rules.specs.declared.interval.Interval.{Interval}
use Rattle.linscan_rules.specs.declared.interval.Intervals.{Intervals}
use Rattle.linscan.specs.Held.{is_closed_in, holder_in, is_shut, last_holder, chosen, chosen_of, places_left, holder_left, IsGiverBelow}
use Rattle.linscan.specs.Order.{row_of, open_rows, IsNodeOf}
use Rattle.linscan.specs.declared.active.Active.{Active}
use Rattle.linscan.specs.declared.choice.Choice.{Choice}
use Rattle.linscan.specs.declared.choice.Choice.TheVariants as choice
use Rattle.linscan.specs.declared.choice.Holder.{Holder}
use Rattle.linscan.specs.declared.closed.Closed.{Closed}
use Rattle.linscan.specs.declared.order.OpenNode.{OpenNode}
use Rattle.linscan.specs.declared.order.OpenRegister.{OpenRegister}
use Rattle.linscan.proofs.Giving.{or_right, both_true, same_machine, giver_option, GivesOne, last_gives, HeldBy, BeginBy, AreHeld, held, shut_same, giver_same}

-- ---- colours

first_same : (t u : ℕ → Bool) (cs : List ℕ) → ((c : ℕ) → Contains cs c → t c ≡ u c) → first_without t cs ≡ first_without u cs
first_same t u [] h = refl
first_same t u (c ∷ cs) h =
    ap (λ (b : Bool). cond b (first_without t cs) (Some c)) (h c (first_in c cs))
    ∙ ap (λ o. cond (u c) o (Some c)) (first_same t u cs (λ d i. h d (later_in c d cs i)))

first_found : (t : ℕ → Bool) (cs : List ℕ) (c : ℕ) → first_without t cs ≡ Some c → Contains cs c × (t c ≡ false)
first_found t [] c e = absurd (none-some c e)
first_found t (d ∷ ds) c e = by (t d) refl e (λ u. first_found t ds c u)
  where
    by : (b : Bool) → t d ≡ b → cond b (first_without t ds) (Some d) ≡ Some c → (first_without t ds ≡ Some c → Contains ds c × (t c ≡ false)) →
        Contains (d ∷ ds) c × (t c ≡ false)
    by true q e ih = let r = ih e in (later_in d c ds r.0, r.1)
    by false q e ih = let s = same_Some d c e in (subst (Contains (d ∷ ds)) s (first_in d ds), subst (λ k. t k ≡ false) s q)

put_here : (place : Colouring) (n : ℕ) (l : Loc) → colouring_with place n l n ≡ l
put_here place n l = ap (λ b. cond b l (place n)) (eq-eqb n n refl)

put_there : (place : Colouring) (n : ℕ) (l : Loc) (k : ℕ) → k ≢ n → colouring_with place n l k ≡ place k
put_there place n l k out = ap (λ b. cond b l (place k)) (ne_eqb k n out)

slot_machine : (k c : ℕ) → loc.Slot k ≡ loc.Machine c → ⊥
slot_machine k c e = cc

-- ---- one row more

module _ (hold : ℕ → Option OpenRegister) (place after : Colouring) (done : List OpenInterval) (register : OpenRegister)
    (are : AreHeld hold place done) (fresh : (r : OpenInterval) → Contains done r → r.number ≢ register.number) where
  -- it gets a colour that nobody holds any more, and others keep theirs or lose them
  pub gains : (c : ℕ) → Contains colour_numbers c → after register.number ≡ loc.Machine c →
      ((r : OpenInterval) → Contains done r → (d : ℕ) → after r.number ≡ loc.Machine d → place r.number ≡ loc.Machine d) →
      ((r : OpenInterval) → Contains done r → (d : ℕ) → d ≢ c → place r.number ≡ loc.Machine d → after r.number ≡ loc.Machine d) →
      ((b : ℕ) → BeginBy done b → register.from ≤ b → (r : OpenInterval) → Contains done r → after r.number ≡ loc.Machine c → b ≤ r.to → ⊥) →
      AreHeld (λ k. cond (nat_eq k c) (Some register) (hold k)) after (row_of register ∷ done)
  gains c inside here stays kept out =
      record {
        sound = λ d i h e. sound d i h (nat_eq d c) refl e;
        whole = λ b begun r z d q le. whole b begun r d q le (in_cons (row_of register) r done z);
        within = λ r z d q. within r d q (in_cons (row_of register) r done z);
      }
    where
      sound : (d : ℕ) → Contains colour_numbers d → (h : OpenRegister) → (t : Bool) → nat_eq d c ≡ t → cond t (Some register) (hold d) ≡ Some h →
          Contains (row_of register ∷ done) (row_of h) × (after h.number ≡ loc.Machine d)
      sound d i h true s e =
          subst (λ (z : OpenRegister). Contains (row_of register ∷ done) (row_of z) × (after z.number ≡ loc.Machine d)) (same_Some register h e)
          (first_in (row_of register) done, here ∙ ap loc.Machine (sym (eqb-true d c s)))
      sound d i h false s e =
          let o = are.sound d i h e in (
            later_in (row_of register) (row_of h) done o.0,
            kept (row_of h) o.0 d (λ f. true≢false (sym (eq-eqb d c f) ∙ s)) o.1,
          )

      whole : (b : ℕ) → BeginBy (row_of register ∷ done) b → (r : OpenInterval) (d : ℕ) → after r.number ≡ loc.Machine d → b ≤ r.to →
          (row_of register ≡ r) ⊎ Contains done r → HeldBy (cond (nat_eq d c) (Some register) (hold d)) r
      whole b begun r d q le (inl e) =
          let stands : after register.number ≡ loc.Machine d = subst (λ (z : OpenInterval). after z.number ≡ loc.Machine d) (sym e) q in
          let s : d ≡ c = same_machine d c (sym stands ∙ here) in
          record { holder = register; is = ap (λ t. cond t (Some register) (hold d)) (eq-eqb d c s); row = e }
      whole b begun r d q le (inr z) =
          let early : BeginBy done b = λ y i. begun y (later_in (row_of register) y done i) in
          let own : register.from ≤ b = begun (row_of register) (first_in (row_of register) done) in
          ⊎_elim
          (λ (s : d ≡ c). absurd (out b early own r z (subst (λ k. after r.number ≡ loc.Machine k) s q) le))
          (λ (ne : d ≢ c).
          let w = are.whole b early r z d (stays r z d q) le in
          record { holder = w.holder; is = ap (λ t. cond t (Some register) (hold d)) (ne_eqb d c ne) ∙ w.is; row = w.row })
          (cases_eq d c)

      within : (r : OpenInterval) (d : ℕ) → after r.number ≡ loc.Machine d → (row_of register ≡ r) ⊎ Contains done r → Contains colour_numbers d
      within r d q (inl e) =
          let stands : after register.number ≡ loc.Machine d = subst (λ (z : OpenInterval). after z.number ≡ loc.Machine d) (sym e) q in
          subst (Contains colour_numbers) (same_machine c d (sym here ∙ stands)) inside
      within r d q (inr z) = are.within r z d (stays r z d q)

-- it goes to its slot
waits : (hold : ℕ → Option OpenRegister) (place : Colouring) (done : List OpenInterval) (register : OpenRegister) → AreHeld hold place done →
    ((r : OpenInterval) → Contains done r → r.number ≢ register.number) →
    AreHeld hold (colouring_with place register.number (loc.Slot register.origin)) (row_of register ∷ done)
waits hold place done register are fresh =
    record {
      sound = λ c i h e.
          let o = are.sound c i h e in
          (later_in (row_of register) (row_of h) done o.0, put_there place register.number (loc.Slot register.origin) h.number (fresh (row_of h) o.0) ∙ o.1);
      whole = λ b begun r z c q le. whole b begun r c q le (in_cons (row_of register) r done z);
      within = λ r z c q. within r c q (in_cons (row_of register) r done z);
    }
  where
    after : Colouring
    after = colouring_with place register.number (loc.Slot register.origin)

    not_here : (r : OpenInterval) (c : ℕ) → after r.number ≡ loc.Machine c → row_of register ≡ r → ⊥
    not_here r c q e =
        slot_machine register.origin c
        (sym (put_here place register.number (loc.Slot register.origin)) ∙ subst (λ (z : OpenInterval). after z.number ≡ loc.Machine c) (sym e) q)

    back : (r : OpenInterval) → Contains done r → (c : ℕ) → after r.number ≡ loc.Machine c → place r.number ≡ loc.Machine c
    back r z c q = sym (put_there place register.number (loc.Slot register.origin) r.number (fresh r z)) ∙ q

    whole : (b : ℕ) → BeginBy (row_of register ∷ done) b → (r : OpenInterval) (c : ℕ) → after r.number ≡ loc.Machine c → b ≤ r.to →
        (row_of register ≡ r) ⊎ Contains done r → HeldBy (hold c) r
    whole b begun r c q le (inl e) = absurd (not_here r c q e)
    whole b begun r c q le (inr z) = are.whole b (λ y i. begun y (later_in (row_of register) y done i)) r z c (back r z c q) le

    within : (r : OpenInterval) (c : ℕ) → after r.number ≡ loc.Machine c → (row_of register ≡ r) ⊎ Contains done r → Contains colour_numbers c
    within r c q (inl e) = absurd (not_here r c q e)
    within r c q (inr z) = are.within r z c (back r z c q)

-- the same by tables that agree
alike : (hold other : ℕ → Option OpenRegister) (place same : Colouring) (done : List OpenInterval) → ((c : ℕ) → Contains colour_numbers c → hold c ≡ other c) →
    place ≡ same → AreHeld hold place done → AreHeld other same done
alike hold other place same done h e are =
    subst (λ p. AreHeld other p done) e
    (record {
      sound = λ c i k f. are.sound c i k (h c i ∙ f);
      whole = λ b begun r z c q le.
          let w = are.whole b begun r z c q le in
          record { holder = w.holder; is = sym (h c (are.within r z c q)) ∙ w.is; row = w.row };
      within = are.within;
    })

-- ---- one choice

module _ (closed : ClosedColours) (place : Colouring) (done : List OpenInterval) (a : Active) (k : Closed) (register : OpenRegister)
    (are : AreHeld (holder_in a) place done) (begun : BeginBy done register.from)
    (shut : (c : ℕ) → Contains colour_numbers c → is_closed_in k c ≡ closed (row_of register) c)
    (order : AllPairs (λ (x y : OpenInterval). StartsBefore y x) done)
    (fresh : (r : OpenInterval) → Contains done r → r.number ≢ register.number) where
  abbrev X : OpenInterval
  X = row_of register

  abbrev First : Option ℕ
  First = first_without (is_shut a k register.from) colour_numbers

  abbrev Last : Option Holder
  Last = last_holder a k register.from colour_numbers

  pub chosen_same : places_left place register (chosen a k register colour_numbers) ≡ scan_one colour_numbers closed done place X
  chosen_same = at First Last (giver_same closed place done a k register are begun shut order) ∙ ap (placed_next closed done place X) same
    where
      same : First ≡ first_without (is_closed_or_held closed done place X) colour_numbers
      same =
          first_same (is_shut a k register.from) (is_closed_or_held closed done place X) colour_numbers
          (shut_same closed place done a k register are begun shut order)

      by : (h : Holder) (b : Bool) → places_left place register (cond b (choice.Taken h) choice.Slot) ≡
          cond b (colouring_with (put_in_slot place (row_of h.register)) X.number (loc.Machine h.colour)) (put_in_slot place X)
      by h true = refl
      by h false = refl

      at : (o : Option ℕ) (p : Option Holder) → last_giver closed place done X ≡ giver_option p →
          places_left place register (chosen_of register o p) ≡ placed_next closed done place X o
      at (Some c) p e = refl
      at None None e = sym (ap (given_up place X) e)
      at None (Some h) e = by h (nat_lt register.to h.register.to) ∙ sym (ap (given_up place X) e)

  free : (c : ℕ) → First ≡ Some c →
      AreHeld (holder_left (holder_in a) register (choice.Free c)) (places_left place register (choice.Free c)) (X ∷ done)
  free c e =
      let f = first_found (is_shut a k register.from) colour_numbers c e in
      let none : is_held place done X c ≡ false =
      or_right (closed X c) (is_held place done X c) (sym (shut_same closed place done a k register are begun shut order c f.0) ∙ f.1) in
      alike (λ j. cond (nat_eq j c) (Some register) (holder_in a j)) (holder_left (holder_in a) register (choice.Free c))
      (colouring_with place register.number (loc.Machine c)) (places_left place register (choice.Free c)) (X ∷ done) (λ d i. refl) refl
      (gains (holder_in a) place (colouring_with place register.number (loc.Machine c)) done register are fresh c f.0
      (put_here place register.number (loc.Machine c))
      (λ r z d q. sym (put_there place register.number (loc.Machine c) r.number (fresh r z)) ∙ q)
      (λ r z d ne q. put_there place register.number (loc.Machine c) r.number (fresh r z) ∙ q)
      (λ b early own r z q le.
      true≢false
      (sym (held place done X r c z (sym (put_there place register.number (loc.Machine c) r.number (fresh r z)) ∙ q) (omega (arith, own, le))) ∙ none)))

  taken : (h : Holder) → Last ≡ Some h →
      AreHeld (holder_left (holder_in a) register (choice.Taken h)) (places_left place register (choice.Taken h)) (X ∷ done)
  taken h e =
      alike (λ j. cond (nat_eq j h.colour) (Some register) (holder_in a j)) (holder_left (holder_in a) register (choice.Taken h)) after
      (places_left place register (choice.Taken h)) (X ∷ done) (λ d i. refl) refl
      (gains (holder_in a) place after done register are fresh h.colour (subst (Contains colour_numbers) g.gives.colour g.among)
      (put_here Q register.number (loc.Machine h.colour)) back
      (λ r z d ne q. on r z d q (λ f. ne (same_machine d h.colour (sym q ∙ subst (λ n. place n ≡ loc.Machine h.colour) (sym f) stands))))
      (λ b early own r z q le.
      let w = are.whole b early r z h.colour (back r z h.colour q) le in
      let same : w.holder ≡ h.register =
      same_Some w.holder h.register (sym w.is ∙ ap (holder_in a) (sym g.gives.colour) ∙ g.gives.holds) in
      let number : r.number ≡ h.register.number =
      ap (λ (z : OpenInterval). z.number) (sym w.row) ∙ ap (λ (z : OpenRegister). z.number) same in
      gone r z h.colour number q))
    where
      g : GivesOne a k register.from colour_numbers h
      g = last_gives a k register.from colour_numbers h e

      Q : Colouring
      Q = colouring_with place h.register.number (loc.Slot h.register.origin)

      after : Colouring
      after = colouring_with Q register.number (loc.Machine h.colour)

      stands : place h.register.number ≡ loc.Machine h.colour
      stands = (are.sound g.colour g.among h.register g.gives.holds).1 ∙ ap loc.Machine g.gives.colour

      -- the one that gives its colour is in a slot
      gone : (r : OpenInterval) → Contains done r → (d : ℕ) → r.number ≡ h.register.number → after r.number ≡ loc.Machine d → ⊥
      gone r z d f q =
          slot_machine h.register.origin d
          (sym (put_here place h.register.number (loc.Slot h.register.origin)) ∙ ap Q (sym f)
          ∙ sym (put_there Q register.number (loc.Machine h.colour) r.number (fresh r z)) ∙ q)

      on : (r : OpenInterval) → Contains done r → (d : ℕ) → place r.number ≡ loc.Machine d → r.number ≢ h.register.number → after r.number ≡ loc.Machine d
      on r z d q ne =
          put_there Q register.number (loc.Machine h.colour) r.number (fresh r z)
          ∙ put_there place h.register.number (loc.Slot h.register.origin) r.number ne ∙ q

      back : (r : OpenInterval) → Contains done r → (d : ℕ) → after r.number ≡ loc.Machine d → place r.number ≡ loc.Machine d
      back r z d q =
          ⊎_elim (λ f. absurd (gone r z d f q))
          (λ ne.
          sym (put_there place h.register.number (loc.Slot h.register.origin) r.number ne)
          ∙ sym (put_there Q register.number (loc.Machine h.colour) r.number (fresh r z)) ∙ q)
          (cases_eq r.number h.register.number)

  slot : AreHeld (holder_left (holder_in a) register choice.Slot) (places_left place register choice.Slot) (X ∷ done)
  slot =
      alike (holder_in a) (holder_left (holder_in a) register choice.Slot) (colouring_with place register.number (loc.Slot register.origin))
      (places_left place register choice.Slot) (X ∷ done) (λ d i. refl) refl (waits (holder_in a) place done register are fresh)

  pub held_next : AreHeld (holder_left (holder_in a) register (chosen a k register colour_numbers))
      (places_left place register (chosen a k register colour_numbers)) (X ∷ done)
  held_next = by First Last refl refl
    where
      by : (o : Option ℕ) (p : Option Holder) → First ≡ o → Last ≡ p →
          AreHeld (holder_left (holder_in a) register (chosen_of register o p)) (places_left place register (chosen_of register o p)) (X ∷ done)
      by (Some c) p e f = free c e
      by None None e f = slot
      by None (Some h) e f = at (nat_lt register.to h.register.to)
        where
          at : (b : Bool) → AreHeld (holder_left (holder_in a) register (cond b (choice.Taken h) choice.Slot))
              (places_left place register (cond b (choice.Taken h) choice.Slot)) (X ∷ done)
          at true = taken h f
          at false = slot

  -- the one that gives its colour is among those so far
  pub giver_among : (h : Holder) → chosen a k register colour_numbers ≡ choice.Taken h → Contains done (row_of h.register)
  giver_among h e = by First Last refl e
    where
      same : (g h : Holder) → choice.Taken g ≡ choice.Taken h → g ≡ h
      same g h e = cc

      free_taken : (c : ℕ) (h : Holder) → choice.Free c ≡ choice.Taken h → ⊥
      free_taken c h e = cc

      slot_taken : (h : Holder) → choice.Slot ≡ choice.Taken h → ⊥
      slot_taken h e = cc

      by : (o : Option ℕ) (p : Option Holder) → Last ≡ p → chosen_of register o p ≡ choice.Taken h → Contains done (row_of h.register)
      by (Some c) p f e = absurd (free_taken c h e)
      by None None f e = absurd (slot_taken h e)
      by None (Some j) f e = at (nat_lt register.to j.register.to) e
        where
          at : (b : Bool) → cond b (choice.Taken j) choice.Slot ≡ choice.Taken h → Contains done (row_of h.register)
          at true e =
              let g = last_gives a k register.from colour_numbers j f in
              subst (λ (z : Holder). Contains done (row_of z.register)) (same j h e)
              (are.sound g.colour g.among j.register g.gives.holds).0
          at false e = absurd (slot_taken h e)

-- ---- closed colours

any_counted : (p : ℕ → Bool) (xs : List ℕ) → list_any p xs ≡ not (nat_eq (count_by p xs) 0)
any_counted p xs = both_true (list_any p xs) (not (nat_eq (count_by p xs) 0)) to from
  where
    some : (ys : List ℕ) → list_any p ys ≡ true → (n : ℕ) × Contains ys n × (p n ≡ true)
    some [] e = absurd (true≢false (sym e))
    some (y ∷ ys) e = by (p y) refl e (λ u. some ys u)
      where
        by : (b : Bool) → p y ≡ b → (b || list_any p ys) ≡ true → (list_any p ys ≡ true → (n : ℕ) × Contains ys n × (p n ≡ true)) →
            (n : ℕ) × Contains (y ∷ ys) n × (p n ≡ true)
        by true q e ih = (y, first_in y ys, q)
        by false q e ih = let r = ih e in (r.0, later_in y r.0 ys r.1, r.2)

    any : (ys : List ℕ) (n : ℕ) → Contains ys n → p n ≡ true → list_any p ys ≡ true
    any [] n c e = absurd (none_in n c)
    any (y ∷ ys) n c e =
        ⊎_elim (λ s. ap (λ b. b || list_any p ys) (ap p s ∙ e)) (λ d. right (p y) (list_any p ys) (any ys n d e)) (in_cons y n ys c)
      where
        right : (a b : Bool) → b ≡ true → (a || b) ≡ true
        right true b e = refl
        right false b e = e

    to : list_any p xs ≡ true → not (nat_eq (count_by p xs) 0) ≡ true
    to e = let w = some xs e in by (nat_eq (count_by p xs) 0) refl w.0 w.1 w.2
      where
        by : (b : Bool) → nat_eq (count_by p xs) 0 ≡ b → (n : ℕ) → Contains xs n → p n ≡ true → not b ≡ true
        by true q n c f = absurd (true≢false (sym f ∙ none_counted p xs (eqb-true (count_by p xs) 0 q) n c))
        by false q n c f = refl

    from : not (nat_eq (count_by p xs) 0) ≡ true → list_any p xs ≡ true
    from e = by (nat_eq (count_by p xs) 0) refl e
      where
        by : (b : Bool) → nat_eq (count_by p xs) 0 ≡ b → not b ≡ true → list_any p xs ≡ true
        by true q e = absurd (true≢false (sym e))
        by false q e =
            let w = some_counted p xs (λ z. true≢false (sym (eq-eqb (count_by p xs) 0 z) ∙ q)) in
            any xs w.what w.among w.passes

are_below : List ℕ → Bool
are_below [] = true
are_below (c ∷ cs) = cond (nat_lt c 32) (are_below cs) false

below : (cs : List ℕ) → are_below cs ≡ true → (c : ℕ) → Contains cs c → c < 32
unfolding are_below
below [] e c i = absurd (none_in c i)
below (d ∷ ds) e c i = by (below ds) (nat_lt d 32) refl e
  where
    by : (are_below ds ≡ true → (c : ℕ) → Contains ds c → c < 32) → (t : Bool) → nat_lt d 32 ≡ t →
        cond t (are_below ds) false ≡ true → c < 32
    by later true a b = ⊎_elim (λ same. subst (λ n. n < 32) same (ltb-true d 32 a)) (λ j. later b c j)
        (in_cons d c ds i)
    by later false a b = cc

pub colours_below : (c : ℕ) → Contains colour_numbers c → c < 32
unfolding are_below
colours_below = below colour_numbers refl

pub shut_by : (g : Graph) (fixed_places : List Loc) (o : OpenNode) (k : Closed) (numbers : List ℕ) → IsOrdered g →
    ((n : ℕ) → places_by fixed_places n ≡ fixed g n) → IsNodeOf g o → numbers ≡ o.node.now.neighbours →
    ((c : ℕ) → c < 32 → is_closed_in k c ≡ list_any (λ n. has_colour c (places_by fixed_places n)) numbers) →
    (c : ℕ) → Contains colour_numbers c → is_closed_in k c ≡ closed_by g (row_of o.register) c
shut_by g fixed_places o k numbers up places node same is c inside =
    is c (colours_below c inside)
    ∙ ap (λ (p : Colouring). list_any (λ n. has_colour c (p n)) numbers) (fun_ext places)
    ∙ ap (list_any (λ n. has_colour c (fixed g n))) (same ∙ sym neighbours)
    ∙ any_counted (λ n. has_colour c (fixed g n)) (neighbours_of g o.register.number)
  where
    neighbours : neighbours_of g o.register.number ≡ o.node.now.neighbours
    neighbours =
        ap (λ n. node_neighbours (node_at g.nodes n)) (sym node.number)
        ∙ ap node_neighbours (found_at g.nodes o.node.now up node.among)

-- ---- all rows

one_of_key : {A : Type 0} (key : A → ℕ) (xs : List A) (x y : A) → AllPairs (λ (a b : A). key a < key b) xs → Contains xs x → Contains xs y →
    key x ≡ key y → x ≡ y
one_of_key key [] x y up c d e = absurd (none_in x c)
one_of_key {A} key (z ∷ zs) x y up c d e =
    by (in_cons z x zs c) (in_cons z y zs d)
    (λ a b. one_of_key key zs x y (λ i j w lt le. up (suc i) (suc j) w (omega (arith, lt)) (omega (arith, le))) a b e)
  where
    before : (w : A) → Contains zs w → key z < key w
    before w c = pairs_first (λ (a b : A). key a < key b) z zs up w c

    by : (z ≡ x) ⊎ Contains zs x → (z ≡ y) ⊎ Contains zs y → (Contains zs x → Contains zs y → x ≡ y) → x ≡ y
    by (inl a) (inl b) later = sym a ∙ b
    by (inl a) (inr b) later = let lt = before y b in let s : key z ≡ key y = ap key a ∙ e in absurd (omega (arith, lt, s))
    by (inr a) (inl b) later = let lt = before x a in let s : key z ≡ key x = ap key b ∙ sym e in absurd (omega (arith, lt, s))
    by (inr a) (inr b) later = later a b

-- the places after some rows, who holds each colour then, and that the rest goes on to the places of all
pub record Goes (g : Graph) (opens : List OpenNode) (size i : ℕ) (places : List Loc) (a : Active) : Type 0 where
  pub done : List OpenInterval
  pub on : scanned colour_numbers (closed_by g) done (places_by places) (open_rows (drop i opens)) ≡
      scanned colour_numbers (closed_by g) [] (fixed g) (open_rows opens)
  pub len : length places ≡ size
  pub held : AreHeld (holder_in a) (places_by places) done
  pub order : AllPairs (λ (x y : OpenInterval). StartsBefore y x) done
  pub before : (r x : OpenInterval) → Contains done r → Contains (open_rows (drop i opens)) x → StartsBefore r x
  pub among : (r : OpenInterval) → Contains done r → Contains (open_rows opens) r

module _ (g : Graph) (t : Intervals) (opens : List OpenNode) (scannable : IsScannable g t) (ordered : IsScanOrder g t (open_rows opens)) where
  abbrev Rows : List OpenInterval
  Rows = open_rows opens

  -- a row before another has another number
  apart : (r x : OpenInterval) → Contains Rows r → Contains Rows x → StartsBefore r x → r.number ≢ x.number
  apart r x c d before e =
      let one = ((ordered.exact r).0 c).interval in
      let two = ((ordered.exact x).0 d).interval in
      let same : ◌≡◌ {A = Interval} (record { register = r.number; from = r.from; to = r.to }) (record { register = x.number; from = x.from; to = x.to }) =
      one_of_key (λ (i : Interval). i.register) (contents t.list) (record { register = r.number; from = r.from; to = r.to })
      (record { register = x.number; from = x.from; to = x.to }) scannable.order one two e in
      let from : r.from ≡ x.from = ap (λ (i : Interval). i.from) same in
      ⊎_elim (λ (lt : r.from < x.from). omega (arith, lt, from)) (λ h. let lt = h.1 in omega (arith, lt, e)) before

  pub goes_begun : (size : ℕ) (places kept : List Loc) (a : Active) → length kept ≡ size → ((n : ℕ) → places_by kept n ≡ fixed g n) → places ≡ kept →
      ((c : ℕ) → holder_in a c ≡ None) → Goes g opens size 0 places a
  goes_begun size places kept a len fixed_at same none =
      record {
        done = [];
        on = ap (λ p. scanned colour_numbers (closed_by g) [] p (open_rows (drop 0 opens))) (ap places_by same ∙ fun_ext fixed_at)
            ∙ ap (λ l. scanned colour_numbers (closed_by g) [] (fixed g) (open_rows l)) (drop_none opens);
        len = ap length same ∙ len;
        held = record {
          sound = λ c i h e. absurd (none-some h (sym (none c) ∙ e));
          whole = λ b begun r z c q le. absurd (none_in r z);
          within = λ r z c q. absurd (none_in r z);
        };
        order = λ i j d lt le. absurd (omega (arith, le));
        before = λ r x z c. absurd (none_in r z);
        among = λ r z. absurd (none_in r z);
      }

  module _ (size i : ℕ) (places : List Loc) (a : Active) (o : OpenNode) (goes : Goes g opens size i places a) (lt : i < length opens) (is : o ≡ get_or opens i o) where
    rest : open_rows (drop i opens) ≡ row_of o.register ∷ open_rows (drop (i + 1) opens)
    rest = ap open_rows (drop_step opens i o lt is)

    first_row : Contains (open_rows (drop i opens)) (row_of o.register)
    first_row = subst (λ l. Contains l (row_of o.register)) (sym rest) (first_in (row_of o.register) (open_rows (drop (i + 1) opens)))

    in_all : (xs : List OpenNode) (i : ℕ) (x : OpenInterval) → Contains (open_rows (drop i xs)) x → Contains (open_rows xs) x
    in_all [] zero x c = c
    in_all [] (suc i) x c = c
    in_all (y ∷ ys) zero x c = c
    in_all (y ∷ ys) (suc i) x c = later_in (row_of y.register) x (open_rows ys) (in_all ys i x c)

    here : Contains Rows (row_of o.register)
    here = in_all opens i (row_of o.register) first_row

    earlier : (r : OpenInterval) → Contains goes.done r → StartsBefore r (row_of o.register)
    earlier r z = goes.before r (row_of o.register) z first_row

    pub begun : BeginBy goes.done o.register.from
    begun r z = by r.from o.register.from r.number o.register.number (earlier r z)
      where
        by : (f u n m : ℕ) → (f < u) ⊎ ((f ≡ u) × (n < m)) → f ≤ u
        by f u n m (inl lt) = omega (arith, lt)
        by f u n m (inr h) = let e = h.0 in omega (arith, e)

    pub fresh : (r : OpenInterval) → Contains goes.done r → r.number ≢ o.register.number
    fresh r z = apart r (row_of o.register) (goes.among r z) here (earlier r z)

    pub number_below : All (λ (x : Node). x.reg.number < size) g.nodes → (r : OpenInterval) → Contains Rows r → r.number < length places
    number_below has r c =
        let w = (ordered.exact r).0 c in
        let len = goes.len in
        subst (λ n. n < length places) (sym w.number)
        (subst (λ k. w.reg.number < k) (sym len) (by g.nodes has w.reg w.among))
      where
        by : (xs : List Node) → All (λ (x : Node). x.reg.number < size) xs → (r : Reg) → Contains (map (λ (x : Node). x.reg) xs) r → r.number < size
        by xs all r c = let h = node_of xs r c in subst (λ (q : Reg). q.number < size) h.same (All-contains (λ (x : Node). x.reg.number < size) xs h.node all h.among)

    pub register_below : All (λ (x : Node). x.reg.number < size) g.nodes → o.register.number < length places
    register_below has = number_below has (row_of o.register) here

    module _ (k : Closed) (shut : (c : ℕ) → Contains colour_numbers c → is_closed_in k c ≡ closed_by g (row_of o.register) c) where
      pub giver_below : All (λ (x : Node). x.reg.number < size) g.nodes → IsGiverBelow (length places) (chosen a k o.register colour_numbers)
      giver_below has h e =
          number_below has (row_of h.register)
          (goes.among (row_of h.register)
          (giver_among (closed_by g) (places_by places) goes.done a k o.register goes.held begun shut goes.order fresh h e))

      pub goes_on : (c : Choice) (new : List Loc) (b : Active) → c ≡ chosen a k o.register colour_numbers → length new ≡ length places →
          ((n : ℕ) → places_by new n ≡ places_left (places_by places) o.register c n) →
          ((d : ℕ) → d < 32 → holder_in b d ≡ holder_left (holder_in a) o.register c d) → Goes g opens size (i + 1) new b
      goes_on c new b chose len put hold =
          record {
            done = row_of o.register ∷ goes.done;
            on = ap (λ p. scanned colour_numbers (closed_by g) (row_of o.register ∷ goes.done) p (open_rows (drop (i + 1) opens))) (left ∙ one)
                ∙ sym (ap (λ l. scanned colour_numbers (closed_by g) goes.done (places_by places) l) rest) ∙ goes.on;
            len = len ∙ goes.len;
            held = alike (holder_left (holder_in a) o.register C) (holder_in b) (places_left (places_by places) o.register C) (places_by new)
                (row_of o.register ∷ goes.done)
                (λ d inside. sym (hold d (colours_below d inside) ∙ ap (λ (z : Choice). holder_left (holder_in a) o.register z d) chose))
                (sym left) (held_next (closed_by g) (places_by places) goes.done a k o.register goes.held begun shut goes.order fresh);
            order = pairs_cons (row_of o.register) goes.done (λ r z. earlier r z) goes.order;
            before = λ r x z d. before_rest r x d (in_cons (row_of o.register) r goes.done z);
            among = λ r z. ⊎_elim (λ e. subst (Contains Rows) e here) (λ y. goes.among r y) (in_cons (row_of o.register) r goes.done z);
          }
        where
          C : Choice
          C = chosen a k o.register colour_numbers

          left : places_by new ≡ places_left (places_by places) o.register C
          left = fun_ext put ∙ ap (λ (z : Choice). places_left (places_by places) o.register z) chose

          one : places_left (places_by places) o.register C ≡ scan_one colour_numbers (closed_by g) goes.done (places_by places) (row_of o.register)
          one = chosen_same (closed_by g) (places_by places) goes.done a k o.register goes.held begun shut goes.order fresh

          pairs_cons : (x : OpenInterval) (xs : List OpenInterval) → ((y : OpenInterval) → Contains xs y → StartsBefore y x) →
              AllPairs (λ (x y : OpenInterval). StartsBefore y x) xs → AllPairs (λ (x y : OpenInterval). StartsBefore y x) (x ∷ xs)
          pairs_cons x xs h all zero zero d lt le = absurd (omega (arith, lt))
          pairs_cons x xs h all zero (suc j) d lt le = h (get_or xs j d) (Contains-get_or xs j d (omega (arith, le)))
          pairs_cons x xs h all (suc i) zero d lt le = absurd (omega (arith, lt))
          pairs_cons x xs h all (suc i) (suc j) d lt le = all i j d (omega (arith, lt)) (omega (arith, le))

          before_rest : (r x : OpenInterval) → Contains (open_rows (drop (i + 1) opens)) x → (row_of o.register ≡ r) ⊎ Contains goes.done r → StartsBefore r x
          before_rest r x d (inl e) =
              subst (λ (z : OpenInterval). StartsBefore z x) e (next opens i o ordered.sorted lt is x d)
            where
              -- the row at a place before those behind it
              next : (xs : List OpenNode) (i : ℕ) (o : OpenNode) → AllPairs StartsBefore (open_rows xs) → i < length xs → o ≡ get_or xs i o →
                  (x : OpenInterval) → Contains (open_rows (drop (i + 1) xs)) x → StartsBefore (row_of o.register) x
              next xs i o up lt is x c =
                  let all : AllPairs StartsBefore (open_rows (drop i xs)) = dropped xs i up in
                  let split : open_rows (drop i xs) ≡ row_of o.register ∷ open_rows (drop (i + 1) xs) = ap open_rows (drop_step xs i o lt is) in
                  pairs_first StartsBefore (row_of o.register) (open_rows (drop (i + 1) xs)) (subst (λ l. AllPairs StartsBefore l) split all) x c
                where
                  dropped : (xs : List OpenNode) (i : ℕ) → AllPairs StartsBefore (open_rows xs) → AllPairs StartsBefore (open_rows (drop i xs))
                  dropped [] zero up = up
                  dropped [] (suc i) up = up
                  dropped (y ∷ ys) zero up = up
                  dropped (y ∷ ys) (suc i) up =
                      dropped ys i (λ p q d lt le. up (suc p) (suc q) d (omega (arith, lt)) (omega (arith, le)))
          before_rest r x d (inr z) =
              goes.before r x z (subst (λ l. Contains l x) (sym rest) (later_in (row_of o.register) x (open_rows (drop (i + 1) opens)) d))

  pub goes_all : (size i : ℕ) (places : List Loc) (a : Active) (c : Colours) → Goes g opens size i places a → length opens ≤ i → c.places ≡ places → IsScannedBy g t c
  goes_all size i places a c goes le same =
      record {
        rows = Rows;
        ordered = ordered;
        places = λ n.
            ap (λ (l : List Loc). get_or l n loc.Unset) same
            ∙ ap (λ l. scanned colour_numbers (closed_by g) goes.done (places_by places) (open_rows l) n) (sym (none_left opens i le))
            ∙ ap (λ (p : Colouring). p n) goes.on;
      }
    where
      none_left : (xs : List OpenNode) (i : ℕ) → length xs ≤ i → drop i xs ≡ []
      none_left [] zero le = refl
      none_left [] (suc i) le = refl
      none_left (x ∷ xs) zero le = absurd (omega (arith, le))
      none_left (x ∷ xs) (suc i) le = none_left xs i (omega (arith, le))
