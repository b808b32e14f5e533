-- What the places of linear scan are.
use Rattle.std.proofs.Common.{◌≡◌, ℕ, ◌<◌, ◌≤◌, Bool, true, false, cond, not, nat_eq, nat_lt, nat_le, ◌&&◌, ◌||◌, ◌⊎◌, inl, inr, ⊎_elim, List, [], ◌∷◌, Option, Some, None, refl, sym, ap, ◌∙◌, subst, arith, le-leb, leb-true, ltb-true, ltb-false}
use Rattle.std.proofs.lemmas.Bool.{true≢false, eq-eqb, eqb-true}
use Rattle.std.proofs.lemmas.Option.{none-some, same_Some}
use Rattle.bs_words.specs.declared.types.Loc.{Loc}
use Rattle.bs_words.specs.declared.types.Loc.TheVariants as loc
use Rattle.mach_ir.specs.Placed.{Colouring}
use Rattle.colouring.specs.Chosen.{colouring_with, has_colour}
use Rattle.linscan_rules.specs.Scan.{OpenInterval, FixedInterval, ClosedColours, is_held, first_without, Giver, giver_at, ending_last, last_giver, put_in_slot, given_up, placed_next, is_closed_or_held, scan_one, scanned}

-- ---- members

pub data IsIn {A : Type 0} (x : A) : List A → Type 0 where
  is_first : {xs : List A} → IsIn x (x ∷ xs)
  is_later : {y : A} {xs : List A} → IsIn x xs → IsIn x (y ∷ xs)

-- ---- tests

and_left : (a b : Bool) → (a && b) ≡ true → a ≡ true
and_left true b e = refl
and_left false b e = absurd (true≢false (sym e))

and_right : (a b : Bool) → (a && b) ≡ true → b ≡ true
and_right true b e = e
and_right false b e = absurd (true≢false (sym e))

le_of : (a b : ℕ) → nat_le a b ≡ true → a ≤ b
le_of a b e = leb-true a b e

of_le : (a b : ℕ) → a ≤ b → nat_le a b ≡ true
of_le a b e = le-leb a b e

-- ---- ranges

abbrev pub FixedMeets : FixedInterval → OpenInterval → Type 0
FixedMeets f x = (f.from ≤ x.to) × (x.from ≤ f.to)

abbrev pub Meets : OpenInterval → OpenInterval → Type 0
Meets r x = (r.from ≤ x.to) × (x.from ≤ r.to)

pub record Blocks (fs : List FixedInterval) (x : OpenInterval) (c : ℕ) : Type 0 where
  pub fixed : FixedInterval
  pub among : IsIn fixed fs
  pub colour : fixed.colour ≡ c
  pub meets : FixedMeets fixed x

pub in_is : (c : ℕ) (l : Loc) → has_colour c l ≡ true → l ≡ loc.Machine c
in_is c loc.Unset e = absurd (true≢false (sym e))
in_is c (loc.Machine n) e = ap loc.Machine (eqb-true n c e)
in_is c (loc.Slot n) e = absurd (true≢false (sym e))

pub is_in_it : (c : ℕ) (l : Loc) → l ≡ loc.Machine c → has_colour c l ≡ true
is_in_it c l e = subst (λ k. has_colour c k ≡ true) (sym e) (eq-eqb c c refl)

pub record Holds (place : Colouring) (rs : List OpenInterval) (x : OpenInterval) (c : ℕ) : Type 0 where
  pub row : OpenInterval
  pub among : IsIn row rs
  pub stands : place row.number ≡ loc.Machine c
  pub alive : x.from ≤ row.to

holds : (place : Colouring) (rs : List OpenInterval) (x : OpenInterval) (c : ℕ) → is_held place rs x c ≡ true → Holds place rs x c
holds place [] x c e = absurd (true≢false (sym e))
holds place (r ∷ rs) x c e = by (has_colour c (place r.number) && nat_le x.from r.to) refl e (λ u. holds place rs x c u)
  where
    by : (b : Bool) → (has_colour c (place r.number) && nat_le x.from r.to) ≡ b → (b || is_held place rs x c) ≡ true →
        (is_held place rs x c ≡ true → Holds place rs x c) → Holds place (r ∷ rs) x c
    by true q e ih = record {
      row = r;
      among = is_first;
      stands = in_is c (place r.number) (and_left (has_colour c (place r.number)) (nat_le x.from r.to) q);
      alive = le_of x.from r.to (and_right (has_colour c (place r.number)) (nat_le x.from r.to) q);
    }
    by false q e ih = let h = ih e in record { row = h.row; among = is_later h.among; stands = h.stands; alive = h.alive }

unheld : (place : Colouring) (r x : OpenInterval) (c : ℕ) → place r.number ≡ loc.Machine c → x.from ≤ r.to → (rs : List OpenInterval) → IsIn r rs → is_held place rs x c ≡ false → ⊥
unheld place r x c q le _ (is_first {xs = rs}) e =
    true≢false (sym (ap (λ b. b || is_held place rs x c) (ap (λ b. b && nat_le x.from r.to) (is_in_it c (place r.number) q) ∙ of_le x.from r.to le)) ∙ e)
unheld place r x c q le _ (is_later {y = s} {xs = rs} z) e = unheld place r x c q le rs z (right (has_colour c (place s.number) && nat_le x.from s.to) (is_held place rs x c) e)
  where
    right : (a b : Bool) → (a || b) ≡ false → b ≡ false
    right true b e = absurd (true≢false e)
    right false b e = e

-- ---- choices

all_tested : (test : ℕ → Bool) (cs : List ℕ) → first_without test cs ≡ None → (c : ℕ) → IsIn c cs → test c ≡ true
all_tested test [] e c z = elim z [ ]
all_tested test (d ∷ ds) e c z = by (test d) refl e (λ u y. all_tested test ds u c y)
  where
    by : (b : Bool) → test d ≡ b → cond b (first_without test ds) (Some d) ≡ None → (first_without test ds ≡ None → IsIn c ds → test c ≡ true) → test c ≡ true
    by true q e ih = at d c q z (λ y. ih e y)
      where
        at : (d c : ℕ) → test d ≡ true → IsIn c (d ∷ ds) → (IsIn c ds → test c ≡ true) → test c ≡ true
        at d _ q is_first ih = q
        at d c q (is_later y) ih = ih y
    by false q e ih = absurd (none-some d (sym e))

found_free : (test : ℕ → Bool) (cs : List ℕ) (c : ℕ) → first_without test cs ≡ Some c → (test c ≡ false) × IsIn c cs
found_free test [] c e = absurd (none-some c e)
found_free test (d ∷ ds) c e = by (test d) refl e (λ u. found_free test ds c u)
  where
    by : (b : Bool) → test d ≡ b → cond b (first_without test ds) (Some d) ≡ Some c → (first_without test ds ≡ Some c → (test c ≡ false) × IsIn c ds) → (test c ≡ false) × IsIn c (d ∷ ds)
    by true q e ih = let r = ih e in (r.0, is_later r.1)
    by false q e ih = let s = same_Some d c e in (subst (λ k. test k ≡ false) s q, subst (λ k. IsIn k (d ∷ ds)) s is_first)

pub record Gives (closed : ClosedColours) (place : Colouring) (rs : List OpenInterval) (x : OpenInterval) (g : Giver) : Type 0 where
  pub among : IsIn g.row rs
  pub stands : place g.row.number ≡ loc.Machine g.colour
  pub alive : x.from ≤ g.row.to
  pub open_colour : closed x g.colour ≡ false

pub not_true : (b : Bool) → not b ≡ true → b ≡ false
not_true true e = absurd (true≢false (sym e))
not_true false e = refl

gives_at : (closed : ClosedColours) (place : Colouring) (x r : OpenInterval) (l : Loc) (g : Giver) → place r.number ≡ l → giver_at closed x r l ≡ Some g → Gives closed place (r ∷ []) x g
gives_at closed place x r loc.Unset g p e = absurd (none-some g e)
gives_at closed place x r (loc.Slot n) g p e = absurd (none-some g e)
gives_at closed place x r (loc.Machine c) g p e = by (nat_le x.from r.to && not (closed x c)) refl e
  where
    me : Giver
    me = record { row = r; colour = c }

    by : (b : Bool) → (nat_le x.from r.to && not (closed x c)) ≡ b → cond b (Some me) None ≡ Some g → Gives closed place (r ∷ []) x g
    by true q e = subst (Gives closed place (r ∷ []) x) (same_Some me g e)
        (record {
          among = is_first;
          stands = p;
          alive = le_of x.from r.to (and_left (nat_le x.from r.to) _ q);
          open_colour = not_true (closed x c) (and_right (nat_le x.from r.to) (not (closed x c)) q);
        })
    by false q e = absurd (none-some g e)

wider : (closed : ClosedColours) (place : Colouring) (rs : List OpenInterval) (x r : OpenInterval) (g : Giver) → Gives closed place rs x g → Gives closed place (r ∷ rs) x g
wider closed place rs x r g h = record { among = is_later h.among; stands = h.stands; alive = h.alive; open_colour = h.open_colour }

first_of : (closed : ClosedColours) (place : Colouring) (rs : List OpenInterval) (x r : OpenInterval) (g : Giver) → Gives closed place (r ∷ []) x g → Gives closed place (r ∷ rs) x g
first_of closed place rs x r g h = record { among = at g.row h.among; stands = h.stands; alive = h.alive; open_colour = h.open_colour }
  where
    at : (k : OpenInterval) → IsIn k (r ∷ []) → IsIn k (r ∷ rs)
    at _ is_first = is_first
    at k (is_later z) = elim z [ ]

one_of : (a b : Option Giver) (g : Giver) → ending_last a b ≡ Some g → (a ≡ Some g) ⊎ (b ≡ Some g)
one_of None b g e = inr e
one_of (Some h) None g e = inl e
one_of (Some h) (Some k) g e = by (nat_lt h.row.to k.row.to) e
  where
    by : (b : Bool) → cond b (Some k) (Some h) ≡ Some g → (◌≡◌ {A = Option Giver} (Some h) (Some g)) ⊎ (◌≡◌ {A = Option Giver} (Some k) (Some g))
    by true e = inr e
    by false e = inl e

pub gives : (closed : ClosedColours) (place : Colouring) (rs : List OpenInterval) (x : OpenInterval) (g : Giver) → last_giver closed place rs x ≡ Some g → Gives closed place rs x g
gives closed place [] x g e = absurd (none-some g e)
gives closed place (r ∷ rs) x g e =
    ⊎_elim (λ u. first_of closed place rs x r g (gives_at closed place x r (place r.number) g refl u)) (λ u. wider closed place rs x r g (gives closed place rs x g u))
    (one_of (giver_at closed x r (place r.number)) (last_giver closed place rs x) g e)

-- the last one ends no earlier than any that may give its colour
pub record Later (o : Option Giver) (w : OpenInterval) : Type 0 where
  pub giver : Giver
  pub is : o ≡ Some giver
  pub no_earlier : w.to ≤ giver.row.to

later_left : (w : OpenInterval) (a b : Option Giver) → Later a w → Later (ending_last a b) w
later_left w None b h = absurd (none-some h.giver h.is)
later_left w (Some k) None h = h
later_left w (Some k) (Some j) h = by (nat_lt k.row.to j.row.to) refl
  where
    s : k ≡ h.giver
    s = same_Some k h.giver h.is

    le : w.to ≤ k.row.to
    le = subst (λ (z : Giver). w.to ≤ z.row.to) (sym s) h.no_earlier

    by : (b : Bool) → nat_lt k.row.to j.row.to ≡ b → Later (cond b (Some j) (Some k)) w
    by true q = let lt = ltb-true k.row.to j.row.to q in record { giver = j; is = refl; no_earlier = omega (arith, le, lt) }
    by false q = record { giver = k; is = refl; no_earlier = le }

later_right : (w : OpenInterval) (a b : Option Giver) → Later b w → Later (ending_last a b) w
later_right w None b h = h
later_right w (Some k) None h = absurd (none-some h.giver h.is)
later_right w (Some k) (Some j) h = by (nat_lt k.row.to j.row.to) refl
  where
    s : j ≡ h.giver
    s = same_Some j h.giver h.is

    le : w.to ≤ j.row.to
    le = subst (λ (z : Giver). w.to ≤ z.row.to) (sym s) h.no_earlier

    by : (b : Bool) → nat_lt k.row.to j.row.to ≡ b → Later (cond b (Some j) (Some k)) w
    by true q = record { giver = j; is = refl; no_earlier = le }
    by false q = let ge = ltb-false k.row.to j.row.to q in record { giver = k; is = refl; no_earlier = omega (arith, le, ge) }

giver_here : (closed : ClosedColours) (x w : OpenInterval) (c : ℕ) (l : Loc) → l ≡ loc.Machine c → x.from ≤ w.to → closed x c ≡ false → giver_at closed x w l ≡ Some (record { row = w; colour = c })
giver_here closed x w c l q le free =
    ap (giver_at closed x w) q ∙ ap (λ b. cond (b && not (closed x c)) (Some (record { row = w; colour = c })) None) (of_le x.from w.to le)
    ∙ ap (λ b. cond (not b) (Some (record { row = w; colour = c })) None) free

last_most : (closed : ClosedColours) (place : Colouring) (x w : OpenInterval) (c : ℕ) → place w.number ≡ loc.Machine c → x.from ≤ w.to → closed x c ≡ false →
    (rs : List OpenInterval) → IsIn w rs → Later (last_giver closed place rs x) w
last_most closed place x w c q le free _ (is_first {xs = rs}) =
    later_left w (giver_at closed x w (place w.number)) (last_giver closed place rs x)
    (record { giver = record { row = w; colour = c }; is = giver_here closed x w c (place w.number) q le free; no_earlier = omega arith })
last_most closed place x w c q le free _ (is_later {y = r} {xs = rs} z) =
    later_right w (giver_at closed x r (place r.number)) (last_giver closed place rs x) (last_most closed place x w c q le free rs z)

-- ---- what holds of the places so far

-- for this colour a register stands there whose interval has a place in common with this one: one that is
-- fixed there, or another, which ends no later
pub data Full (fs : List FixedInterval) (done : List OpenInterval) (place : Colouring) (r : OpenInterval) (c : ℕ) : Type 0 where
  by_fixed : (f : FixedInterval) → IsIn f fs → f.colour ≡ c → FixedMeets f r → Full fs done place r c
  by_row : (q : OpenInterval) → IsIn q done → place q.number ≡ loc.Machine c → Meets q r → q.to ≤ r.to → Full fs done place r c

pub record Settled (colours : List ℕ) (closed : ClosedColours) (fs : List FixedInterval) (done : List OpenInterval) (place : Colouring) : Type 0 where
  -- each is in a colour or in its slot
  pub chosen : (r : OpenInterval) → IsIn r done → ((c : ℕ) × IsIn c colours × (place r.number ≡ loc.Machine c)) ⊎ (place r.number ≡ loc.Slot r.origin)
  -- none is at a colour that is closed to it
  pub clear : (r : OpenInterval) → IsIn r done → (c : ℕ) → place r.number ≡ loc.Machine c → closed r c ≡ false
  -- nor with another of its colour
  pub apart : (r q : OpenInterval) → IsIn r done → IsIn q done → (c : ℕ) → place r.number ≡ loc.Machine c → place q.number ≡ loc.Machine c → Meets r q → r.number ≡ q.number
  -- none is in a slot needlessly
  pub full : (r : OpenInterval) → IsIn r done → (k : ℕ) → place r.number ≡ loc.Slot k → (c : ℕ) → IsIn c colours → Full fs done place r c

-- of the rows so far and the next one: each has a number of its own, and begins no later
pub record Next (done : List OpenInterval) (x : OpenInterval) : Type 0 where
  pub own : (r q : OpenInterval) → IsIn r done → IsIn q done → r.number ≡ q.number → r ≡ q
  pub fresh : (r : OpenInterval) → IsIn r done → r.number ≡ x.number → ⊥
  pub earlier : (r : OpenInterval) → IsIn r done → r.from ≤ x.from
  pub range : x.from ≤ x.to

put_here : (place : Colouring) (n : ℕ) (l : Loc) → colouring_with place n l n ≡ l
put_here place n l = ap (λ b. cond b l (place n)) (eq-eqb n n refl)

pub put_there : (place : Colouring) (n : ℕ) (l : Loc) (k : ℕ) → (k ≡ n → ⊥) → colouring_with place n l k ≡ place k
put_there place n l k out = by (nat_eq k n) refl
  where
    by : (b : Bool) → nat_eq k n ≡ b → cond b l (place k) ≡ place k
    by true q = absurd (out (eqb-true k n q))
    by false q = refl

slot_machine : (k c : ℕ) → loc.Slot k ≡ loc.Machine c → ⊥
slot_machine k c e = cc

same_machine : (c d : ℕ) → loc.Machine c ≡ loc.Machine d → c ≡ d
same_machine c d e = cc

module _ (colours : List ℕ) (closed : ClosedColours) (fs : List FixedInterval) (done : List OpenInterval) (place : Colouring) (x : OpenInterval) (sound : (c : ℕ) → closed x c ≡ true → Blocks fs x c) (next : Next done x) (old : Settled colours closed fs done place) where
  abbrev Row_is : OpenInterval → Type 0
  Row_is r = IsIn r (x ∷ done)

  in_new : (P : OpenInterval → Type 0) → P x → ((r : OpenInterval) → IsIn r done → P r) → (r : OpenInterval) → IsIn r (x ∷ done) → P r
  in_new P here there r z = at r z
    where
      at : (r : OpenInterval) → IsIn r (x ∷ done) → P r
      at _ is_first = here
      at r (is_later y) = there r y

  blocked_full : (place' : Colouring) (v : OpenInterval) (c : ℕ) → v.from ≤ x.from → x.to ≤ v.to → closed x c ≡ true → Full fs (x ∷ done) place' v c
  blocked_full place' v c one two e =
      let b = sound c e in
      let m = b.meets.0 in
      let n = b.meets.1 in
      by_fixed b.fixed b.among b.colour (omega (arith, m, two), omega (arith, n, one))

  -- where x gets a place and the others stay
  module _ (l : Loc) where
    abbrev after : Colouring
    after = colouring_with place x.number l

    stays : (r : OpenInterval) → IsIn r done → after r.number ≡ place r.number
    stays r z = put_there place x.number l r.number (next.fresh r z)

    full_stays : (r : OpenInterval) (c : ℕ) → Full fs done place r c → Full fs (x ∷ done) after r c
    full_stays r c (by_fixed f z q m) = by_fixed f z q m
    full_stays r c (by_row q z s m le) = by_row q (is_later z) (stays q z ∙ s) m le

    others_apart : (r q : OpenInterval) → IsIn r done → IsIn q done → (c : ℕ) → after r.number ≡ loc.Machine c → after q.number ≡ loc.Machine c → Meets r q → r.number ≡ q.number
    others_apart r q z y c e f m = old.apart r q z y c (sym (stays r z) ∙ e) (sym (stays q y) ∙ f) m

  abbrev F : ℕ → Colouring
  F c = colouring_with place x.number (loc.Machine c)

  abbrev Q : Colouring
  Q = put_in_slot place x

  abbrev G : Giver → Colouring
  G g = colouring_with (put_in_slot place g.row) x.number (loc.Machine g.colour)

  -- a colour is free
  settled_free : (c : ℕ) → IsIn c colours → is_closed_or_held closed done place x c ≡ false → Settled colours closed fs (x ∷ done) (colouring_with place x.number (loc.Machine c))
  settled_free c inside e =
      record {
        chosen = in_new (λ r. ((d : ℕ) × IsIn d colours × ((F c) r.number ≡ loc.Machine d)) ⊎ ((F c) r.number ≡ loc.Slot r.origin)) (inl (c, inside, here))
            (λ r z. ⊎_elim (λ y. inl (y.0, y.1, stays (loc.Machine c) r z ∙ y.2)) (λ y. inr (stays (loc.Machine c) r z ∙ y)) (old.chosen r z));
        clear = in_new (λ r. (d : ℕ) → (F c) r.number ≡ loc.Machine d → closed r d ≡ false)
            (λ d q. subst (λ k. closed x k ≡ false) (same_machine c d (sym here ∙ q)) free)
            (λ r z d q. old.clear r z d (sym (stays (loc.Machine c) r z) ∙ q));
        apart = λ r q z y. two r q z y;
        full = in_new (λ r. (k : ℕ) → (F c) r.number ≡ loc.Slot k → (d : ℕ) → IsIn d colours → Full fs (x ∷ done) (F c) r d)
            (λ k q d y. absurd (slot_machine k c (sym q ∙ here)))
            (λ r z k q d y. full_stays (loc.Machine c) r d (old.full r z k (sym (stays (loc.Machine c) r z) ∙ q) d y));
      }
    where
      left : (a b : Bool) → (a || b) ≡ false → a ≡ false
      left true b e = e
      left false b e = refl

      right : (a b : Bool) → (a || b) ≡ false → b ≡ false
      right true b e = absurd (true≢false e)
      right false b e = e

      free : closed x c ≡ false
      free = left (closed x c) (is_held place done x c) e

      none : is_held place done x c ≡ false
      none = right (closed x c) (is_held place done x c) e

      here : (F c) x.number ≡ loc.Machine c
      here = put_here place x.number (loc.Machine c)

      no_other : (r : OpenInterval) → IsIn r done → (d : ℕ) → (F c) x.number ≡ loc.Machine d → (F c) r.number ≡ loc.Machine d → x.from ≤ r.to → ⊥
      no_other r z d q s le =
          unheld place r x c (sym (stays (loc.Machine c) r z) ∙ s ∙ ap loc.Machine (sym (same_machine c d (sym here ∙ q)))) le done z none

      two : (r q : OpenInterval) → IsIn r (x ∷ done) → IsIn q (x ∷ done) → (d : ℕ) → (F c) r.number ≡ loc.Machine d → (F c) q.number ≡ loc.Machine d → Meets r q → r.number ≡ q.number
      two r q z y = at r q z y
        where
          at : (r q : OpenInterval) → IsIn r (x ∷ done) → IsIn q (x ∷ done) → (d : ℕ) → (F c) r.number ≡ loc.Machine d → (F c) q.number ≡ loc.Machine d → Meets r q → r.number ≡ q.number
          at _ _ is_first is_first d e f m = refl
          at _ q is_first (is_later y) d e f m = absurd (no_other q y d e f m.0)
          at r _ (is_later z) is_first d e f m = absurd (no_other r z d f e m.1)
          at r q (is_later z) (is_later y) d e f m = others_apart (loc.Machine c) r q z y d e f m

  -- x goes to its slot, since each that may give its colour ends no later
  settled_slot : ((c : ℕ) → IsIn c colours → is_closed_or_held closed done place x c ≡ true) →
      ((w : OpenInterval) (c : ℕ) → IsIn w done → place w.number ≡ loc.Machine c → x.from ≤ w.to → closed x c ≡ false → w.to ≤ x.to) →
      Settled colours closed fs (x ∷ done) (put_in_slot place x)
  settled_slot taken most =
      record {
        chosen = in_new (λ r. ((d : ℕ) × IsIn d colours × (Q r.number ≡ loc.Machine d)) ⊎ (Q r.number ≡ loc.Slot r.origin)) (inr here)
            (λ r z. ⊎_elim (λ y. inl (y.0, y.1, stays (loc.Slot x.origin) r z ∙ y.2)) (λ y. inr (stays (loc.Slot x.origin) r z ∙ y)) (old.chosen r z));
        clear = in_new (λ r. (d : ℕ) → Q r.number ≡ loc.Machine d → closed r d ≡ false)
            (λ d q. absurd (slot_machine x.origin d (sym here ∙ q)))
            (λ r z d q. old.clear r z d (sym (stays (loc.Slot x.origin) r z) ∙ q));
        apart = λ r q z y. two r q z y;
        full = in_new (λ r. (k : ℕ) → Q r.number ≡ loc.Slot k → (d : ℕ) → IsIn d colours → Full fs (x ∷ done) Q r d)
            (λ k q d y. own d y (closed x d) refl)
            (λ r z k q d y. full_stays (loc.Slot x.origin) r d (old.full r z k (sym (stays (loc.Slot x.origin) r z) ∙ q) d y));
      }
    where
      here : Q x.number ≡ (loc.Slot x.origin)
      here = put_here place x.number (loc.Slot x.origin)

      own : (d : ℕ) → IsIn d colours → (b : Bool) → closed x d ≡ b → Full fs (x ∷ done) Q x d
      own d y true q = blocked_full Q x d (omega arith) (omega arith) q
      own d y false q =
          let h = holds place done x d (ap (λ b. b || is_held place done x d) (sym q) ∙ taken d y) in
          let le = most h.row d h.among h.stands h.alive q in
          let f = next.earlier h.row h.among in
          let r = next.range in
          let a = h.alive in
          by_row h.row (is_later h.among) (stays (loc.Slot x.origin) h.row h.among ∙ h.stands) (omega (arith, f, r), a) le

      two : (r q : OpenInterval) → IsIn r (x ∷ done) → IsIn q (x ∷ done) → (d : ℕ) → Q r.number ≡ loc.Machine d → Q q.number ≡ loc.Machine d → Meets r q → r.number ≡ q.number
      two r q z y = at r q z y
        where
          at : (r q : OpenInterval) → IsIn r (x ∷ done) → IsIn q (x ∷ done) → (d : ℕ) → Q r.number ≡ loc.Machine d → Q q.number ≡ loc.Machine d → Meets r q → r.number ≡ q.number
          at _ _ is_first is_first d e f m = refl
          at _ q is_first (is_later y) d e f m = absurd (slot_machine x.origin d (sym here ∙ e))
          at r _ (is_later z) is_first d e f m = absurd (slot_machine x.origin d (sym here ∙ f))
          at r q (is_later z) (is_later y) d e f m = others_apart (loc.Slot x.origin) r q z y d e f m

  -- the one that ends last gives its colour
  settled_given : (g : Giver) → Gives closed place done x g → x.to < g.row.to → ((c : ℕ) → IsIn c colours → is_closed_or_held closed done place x c ≡ true) →
      ((w : OpenInterval) (c : ℕ) → IsIn w done → place w.number ≡ loc.Machine c → x.from ≤ w.to → closed x c ≡ false → w.to ≤ g.row.to) →
      Settled colours closed fs (x ∷ done) (colouring_with (put_in_slot place g.row) x.number (loc.Machine g.colour))
  settled_given g given shorter taken most =
      record {
        chosen = in_new (λ r. ((d : ℕ) × IsIn d colours × ((G g) r.number ≡ loc.Machine d)) ⊎ ((G g) r.number ≡ loc.Slot r.origin))
            (⊎_elim (λ y. inl (g.colour, subst (λ k. IsIn k colours) (same_machine y.0 g.colour (sym y.2 ∙ given.stands)) y.1, here))
            (λ y. absurd (slot_machine g.row.origin g.colour (sym y ∙ given.stands))) (old.chosen g.row given.among))
            (λ r z. ⊎_elim (λ q. inr (subst (λ (k : OpenInterval). (G g) k.number ≡ loc.Slot k.origin) (sym q) gone))
            (λ s. ⊎_elim (λ y. inl (y.0, y.1, s ∙ y.2)) (λ y. inr (s ∙ y)) (old.chosen r z)) (either r z));
        clear = in_new (λ r. (d : ℕ) → (G g) r.number ≡ loc.Machine d → closed r d ≡ false)
            (λ d q. subst (λ k. closed x k ≡ false) (same_machine g.colour d (sym here ∙ q)) given.open_colour)
            (λ r z d q. old.clear r z d (kept r z d q).0);
        apart = λ r q z y. two r q z y;
        full = in_new (λ r. (k : ℕ) → (G g) r.number ≡ loc.Slot k → (d : ℕ) → IsIn d colours → Full fs (x ∷ done) (G g) r d)
            (λ k q d y. absurd (slot_machine k g.colour (sym q ∙ here)))
            (λ r z k q d y. ⊎_elim (λ same. subst (λ (w : OpenInterval). Full fs (x ∷ done) (G g) w d) (sym same) (giver_full d y (closed x d) refl))
            (λ s. full_on r d z (old.full r z k (sym s ∙ q) d y)) (either r z));
      }
    where
      here : (G g) x.number ≡ loc.Machine g.colour
      here = put_here (put_in_slot place g.row) x.number (loc.Machine g.colour)

      gone : (G g) g.row.number ≡ loc.Slot g.row.origin
      gone = put_there (put_in_slot place g.row) x.number (loc.Machine g.colour) g.row.number (next.fresh g.row given.among) ∙ put_here place g.row.number (loc.Slot g.row.origin)

      -- each other stays
      either : (r : OpenInterval) → IsIn r done → (r ≡ g.row) ⊎ ((G g) r.number ≡ place r.number)
      either r z = by (nat_eq r.number g.row.number) refl
        where
          by : (b : Bool) → nat_eq r.number g.row.number ≡ b → (r ≡ g.row) ⊎ ((G g) r.number ≡ place r.number)
          by true q = inl (next.own r g.row z given.among (eqb-true r.number g.row.number q))
          by false q =
              inr (put_there (put_in_slot place g.row) x.number (loc.Machine g.colour) r.number (next.fresh r z)
              ∙ put_there place g.row.number (loc.Slot g.row.origin) r.number (λ e. true≢false (sym (eq-eqb r.number g.row.number e) ∙ q)))

      -- what is in a colour was there
      kept : (r : OpenInterval) → IsIn r done → (d : ℕ) → (G g) r.number ≡ loc.Machine d → (place r.number ≡ loc.Machine d) × (r.number ≡ g.row.number → ⊥)
      kept r z d q =
          ⊎_elim (λ same. absurd (slot_machine g.row.origin d (sym gone ∙ ap (λ (k : OpenInterval). (G g) k.number) (sym same) ∙ q)))
          (λ s. (sym s ∙ q, λ e. slot_machine g.row.origin d (sym gone ∙ ap (G g) (sym e) ∙ q))) (either r z)

      meets_x : (r : OpenInterval) → IsIn r done → g.row.from ≤ x.from
      meets_x r z = next.earlier g.row given.among

      no_other : (r : OpenInterval) → IsIn r done → (d : ℕ) → (G g) x.number ≡ loc.Machine d → (G g) r.number ≡ loc.Machine d → x.from ≤ r.to → ⊥
      no_other r z d q s le =
          let k = kept r z d s in
          let same : place r.number ≡ loc.Machine g.colour = k.0 ∙ ap loc.Machine (sym (same_machine g.colour d (sym here ∙ q))) in
          let er = next.earlier r z in
          let eg = next.earlier g.row given.among in
          let a = given.alive in
          k.1 (old.apart r g.row z given.among g.colour same given.stands (omega (arith, er, a), omega (arith, eg, le)))

      two : (r q : OpenInterval) → IsIn r (x ∷ done) → IsIn q (x ∷ done) → (d : ℕ) → (G g) r.number ≡ loc.Machine d → (G g) q.number ≡ loc.Machine d → Meets r q → r.number ≡ q.number
      two r q z y = at r q z y
        where
          at : (r q : OpenInterval) → IsIn r (x ∷ done) → IsIn q (x ∷ done) → (d : ℕ) → (G g) r.number ≡ loc.Machine d → (G g) q.number ≡ loc.Machine d → Meets r q → r.number ≡ q.number
          at _ _ is_first is_first d e f m = refl
          at _ q is_first (is_later y) d e f m = absurd (no_other q y d e f m.0)
          at r _ (is_later z) is_first d e f m = absurd (no_other r z d f e m.1)
          at r q (is_later z) (is_later y) d e f m = old.apart r q z y d (kept r z d e).0 (kept q y d f).0 m

      eg : g.row.from ≤ x.from
      eg = next.earlier g.row given.among

      -- x stands for the giver where that stood for a register in a slot
      full_on : (r : OpenInterval) (d : ℕ) → IsIn r done → Full fs done place r d → Full fs (x ∷ done) (G g) r d
      full_on r d z (by_fixed f y q m) = by_fixed f y q m
      full_on r d z (by_row q y s m le) =
          ⊎_elim
          (λ same.
          let er = next.earlier r z in
          let a = given.alive in
          let rx = next.range in
          let l : g.row.to ≤ r.to = subst (λ (w : OpenInterval). w.to ≤ r.to) same le in
          by_row x is_first (here ∙ sym given.stands ∙ ap (λ (w : OpenInterval). place w.number) (sym same) ∙ s) (omega (arith, a, l), omega (arith, er, rx)) (omega (arith, l, shorter)))
          (λ t. by_row q (is_later y) (t ∙ s) m le) (either q y)

      giver_full : (d : ℕ) → IsIn d colours → (b : Bool) → closed x d ≡ b → Full fs (x ∷ done) (G g) g.row d
      giver_full d y true q = blocked_full (G g) g.row d eg (omega (arith, shorter)) q
      giver_full d y false q =
          let h = holds place done x d (ap (λ b. b || is_held place done x d) (sym q) ∙ taken d y) in
          let le = most h.row d h.among h.stands h.alive q in
          let f = next.earlier h.row h.among in
          let rx = next.range in
          let a = h.alive in
          let ga = given.alive in
          ⊎_elim
          (λ same. by_row x is_first (here ∙ sym given.stands ∙ ap (λ (w : OpenInterval). place w.number) (sym same) ∙ h.stands)
          (ga, omega (arith, eg, rx)) (omega (arith, shorter)))
          (λ t. by_row h.row (is_later h.among) (t ∙ h.stands) (omega (arith, f, ga), omega (arith, eg, a)) le) (either h.row h.among)

  -- whatever is chosen
  pub settled_next : Settled colours closed fs (x ∷ done) (scan_one colours closed done place x)
  settled_next = by (first_without (is_closed_or_held closed done place x) colours) refl
    where
      up : (o : Option Giver) → last_giver closed place done x ≡ o → ((c : ℕ) → IsIn c colours → is_closed_or_held closed done place x c ≡ true) →
          Settled colours closed fs (x ∷ done) (given_up place x o)
      up None e taken =
          settled_slot taken (λ w c z s le free. let l = last_most closed place x w c s le free done z in absurd (none-some l.giver (sym e ∙ l.is)))
      up (Some g) e taken = choose (nat_lt x.to g.row.to) refl
        where
          most : (w : OpenInterval) (c : ℕ) → IsIn w done → place w.number ≡ loc.Machine c → x.from ≤ w.to → closed x c ≡ false → w.to ≤ g.row.to
          most w c z s le free =
              let l = last_most closed place x w c s le free done z in
              subst (λ (k : Giver). w.to ≤ k.row.to) (same_Some l.giver g (sym l.is ∙ e)) l.no_earlier

          choose : (b : Bool) → nat_lt x.to g.row.to ≡ b → Settled colours closed fs (x ∷ done) (cond b (colouring_with (put_in_slot place g.row) x.number (loc.Machine g.colour)) (put_in_slot place x))
          choose true q = settled_given g (gives closed place done x g e) (ltb-true x.to g.row.to q) taken most
          choose false q = let ge = ltb-false x.to g.row.to q in settled_slot taken (λ w c z s le free. let m = most w c z s le free in omega (arith, m, ge))

      by : (o : Option ℕ) → first_without (is_closed_or_held closed done place x) colours ≡ o → Settled colours closed fs (x ∷ done) (placed_next closed done place x o)
      by None e = up (last_giver closed place done x) refl (all_tested (is_closed_or_held closed done place x) colours e)
      by (Some c) e = let f = found_free (is_closed_or_held closed done place x) colours c e in settled_free c f.1 f.0

-- ---- all rows

-- each row comes with a number of its own, after those that begin no later
pub data Sorted : List OpenInterval → List OpenInterval → Type 0 where
  no_more : {done : List OpenInterval} → Sorted done []
  one_more : {done : List OpenInterval} {x : OpenInterval} {xs : List OpenInterval} → Next done x → Sorted (x ∷ done) xs → Sorted done (x ∷ xs)

abbrev pub all_of : List OpenInterval → List OpenInterval → List OpenInterval
all_of done [] = done
all_of done (x ∷ xs) = all_of (x ∷ done) xs

pub scanned_settled : (colours : List ℕ) (closed : ClosedColours) (fs : List FixedInterval) (done : List OpenInterval) (place : Colouring) (xs : List OpenInterval) →
    ((x : OpenInterval) → IsIn x xs → (c : ℕ) → closed x c ≡ true → Blocks fs x c) → Sorted done xs → Settled colours closed fs done place →
    Settled colours closed fs (all_of done xs) (scanned colours closed done place xs)
scanned_settled colours closed fs done place [] sound s old = old
scanned_settled colours closed fs done place (x ∷ xs) sound (one_more n s) old =
    scanned_settled colours closed fs (x ∷ done) (scan_one colours closed done place x) xs (λ y z. sound y (is_later z)) s
    (settled_next colours closed fs done place x (sound x is_first) n old)

pub none_settled : (colours : List ℕ) (closed : ClosedColours) (fs : List FixedInterval) (place : Colouring) → Settled colours closed fs [] place
none_settled colours closed fs place =
    record {
      chosen = λ r z. elim z [ ];
      clear = λ r z c q. elim z [ ];
      apart = λ r q z y c e f m. elim z [ ];
      full = λ r z k q c y. elim z [ ];
    }
