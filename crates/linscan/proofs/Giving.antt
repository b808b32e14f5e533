-- Who gives up a colour: among the rows so far, and among those that hold colours.
use Rattle.std.proofs.Common.{◌≡◌, ◌≢◌, ℕ, ◌<◌, ◌≤◌, Bool, true, false, cond, not, nat_eq, nat_lt, nat_le, ◌&&◌, ◌||◌, ◌⊎◌, inl, inr, ⊎_elim, List, [], ◌∷◌, Option, Some, None, refl, sym, ap, ◌∙◌, subst, arith}
use Rattle.std.specs.List.{AllPairs, Contains}
use Rattle.std.proofs.lemmas.Bool.{cases_lt, eq-eqb, eqb-true, le-leb, leb-true, ltb-true, ltb-false, true≢false}
use Rattle.std.proofs.lemmas.Option.{none-some, same_Some}
use Rattle.bs_words.specs.declared.types.Loc.{Loc}
use Rattle.bs_words.specs.declared.types.Loc.TheVariants as loc
use Rattle.bs_words.proofs.Lists.{none_in, first_in, later_in, in_cons, pairs_later}
use Rattle.mach_ir.specs.Placed.{Colouring, colour_numbers}
use Rattle.colouring.specs.Chosen.{has_colour}
use Rattle.colouring.proofs.Ordered.{pairs_first}
use Rattle.linscan_rules.specs.Scan.{OpenInterval, ClosedColours, is_held, Giver, giver_at, ending_last, last_giver, is_closed_or_held}
use Rattle.linscan_rules.specs.Table.{StartsBefore}
use Rattle.linscan.specs.Held.{is_closed_in, holder_in, is_held_by, is_shut, ends_after, later_holder, holder_if, holder_to_give, last_holder}
use Rattle.linscan.specs.Order.{row_of}
use Rattle.linscan.specs.declared.active.Active.{Active}
use Rattle.linscan.specs.declared.choice.Holder.{Holder}
use Rattle.linscan.specs.declared.closed.Closed.{Closed}
use Rattle.linscan.specs.declared.order.OpenRegister.{OpenRegister}

-- ---- tests

pub and_left : (a b : Bool) → (a && b) ≡ true → a ≡ true
and_left true b e = refl
and_left false b e = absurd (true≢false (sym e))

pub and_right : (a b : Bool) → (a && b) ≡ true → b ≡ true
and_right true b e = e
and_right false b e = absurd (true≢false (sym e))

pub or_left : (a b : Bool) → (a || b) ≡ false → a ≡ false
or_left true b e = absurd (true≢false e)
or_left false b e = refl

pub or_right : (a b : Bool) → (a || b) ≡ false → b ≡ false
or_right true b e = absurd (true≢false e)
or_right false b e = e

not_true : (b : Bool) → not b ≡ true → b ≡ false
not_true true e = absurd (true≢false (sym e))
not_true false e = refl

pub both_true : (a b : Bool) → (a ≡ true → b ≡ true) → (b ≡ true → a ≡ true) → a ≡ b
both_true true b f g = sym (f refl)
both_true false true f g = g refl
both_true false false f g = refl

in_colour : (c : ℕ) (l : Loc) → has_colour c l ≡ true → l ≡ loc.Machine c
in_colour c loc.Unset e = absurd (true≢false (sym e))
in_colour c (loc.Machine n) e = ap loc.Machine (eqb-true n c e)
in_colour c (loc.Slot n) e = absurd (true≢false (sym e))

has_its_colour : (c : ℕ) (l : Loc) → l ≡ loc.Machine c → has_colour c l ≡ true
has_its_colour c l e = subst (λ k. has_colour c k ≡ true) (sym e) (eq-eqb c c refl)

pub same_machine : (c d : ℕ) → loc.Machine c ≡ loc.Machine d → c ≡ d
same_machine c d e = cc

-- ---- among the rows so far

-- a row that may give its colour to another
pub record MayGive (closed : ClosedColours) (place : Colouring) (done : List OpenInterval) (x : OpenInterval) (g : Giver) : Type 0 where
  pub among : Contains done g.row
  pub stands : place g.row.number ≡ loc.Machine g.colour
  pub alive : x.from ≤ g.row.to
  pub is_open : closed x g.colour ≡ false

record GivesAt (closed : ClosedColours) (x r : OpenInterval) (l : Loc) (g : Giver) : Type 0 where
  row : r ≡ g.row
  stands : l ≡ loc.Machine g.colour
  alive : x.from ≤ r.to
  is_open : closed x g.colour ≡ false

gives_at : (closed : ClosedColours) (x r : OpenInterval) (l : Loc) (g : Giver) → giver_at closed x r l ≡ Some g → GivesAt closed x r l g
gives_at closed x r loc.Unset g e = absurd (none-some g e)
gives_at closed x r (loc.Slot n) g e = absurd (none-some g e)
gives_at closed x r (loc.Machine c) g e = by (nat_le x.from r.to && not (closed x c)) refl e
  where
    me : Giver
    me = record { row = r; colour = c }

    by : (b : Bool) → (nat_le x.from r.to && not (closed x c)) ≡ b → cond b (Some me) None ≡ Some g → GivesAt closed x r (loc.Machine c) g
    by true q e = subst (GivesAt closed x r (loc.Machine c)) (same_Some me g e)
        (record {
          row = refl;
          stands = refl;
          alive = leb-true x.from r.to (and_left (nat_le x.from r.to) (not (closed x c)) q);
          is_open = not_true (closed x c) (and_right (nat_le x.from r.to) (not (closed x c)) q);
        })
    by false q e = absurd (none-some g e)

giver_here : (closed : ClosedColours) (x w : OpenInterval) (c : ℕ) (l : Loc) → l ≡ loc.Machine c → x.from ≤ w.to → closed x c ≡ false → giver_at closed x w l ≡ Some (record { row = w; colour = c })
giver_here closed x w c l q le free =
    ap (giver_at closed x w) q ∙ ap (λ b. cond (b && not (closed x c)) (Some (record { row = w; colour = c })) None) (le-leb x.from w.to le)
    ∙ ap (λ b. cond (not b) (Some (record { row = w; colour = c })) None) free

one_of : (a b : Option Giver) (g : Giver) → ending_last a b ≡ Some g → (a ≡ Some g) ⊎ (b ≡ Some g)
one_of None b g e = inr e
one_of (Some h) None g e = inl e
one_of (Some h) (Some k) g e = by (nat_lt h.row.to k.row.to) e
  where
    by : (b : Bool) → cond b (Some k) (Some h) ≡ Some g → (◌≡◌ {A = Option Giver} (Some h) (Some g)) ⊎ (◌≡◌ {A = Option Giver} (Some k) (Some g))
    by true e = inr e
    by false e = inl e

pub may_give : (closed : ClosedColours) (place : Colouring) (done : List OpenInterval) (x : OpenInterval) (g : Giver) →
    last_giver closed place done x ≡ Some g → MayGive closed place done x g
may_give closed place [] x g e = absurd (none-some g e)
may_give closed place (r ∷ rs) x g e =
    ⊎_elim
    (λ u.
    let h = gives_at closed x r (place r.number) g u in
    record {
      among = subst (Contains (r ∷ rs)) h.row (first_in r rs);
      stands = subst (λ (w : OpenInterval). place w.number ≡ loc.Machine g.colour) h.row h.stands;
      alive = subst (λ (w : OpenInterval). x.from ≤ w.to) h.row h.alive;
      is_open = h.is_open;
    })
    (λ u.
    let h = may_give closed place rs x g u in
    record { among = later_in r g.row rs h.among; stands = h.stands; alive = h.alive; is_open = h.is_open })
    (one_of (giver_at closed x r (place r.number)) (last_giver closed place rs x) g e)

-- of two rows, the second ends after the first, or with it and begins after it
abbrev pub EndsBefore : OpenInterval → OpenInterval → Type 0
EndsBefore w g = (w.to < g.to) ⊎ ((w.to ≡ g.to) × StartsBefore w g)

pub record LastOf (o : Option Giver) (w : OpenInterval) : Type 0 where
  pub giver : Giver
  pub is : o ≡ Some giver
  pub last : (w ≡ giver.row) ⊎ EndsBefore w giver.row

last_left : (w : OpenInterval) (c : ℕ) (b : Option Giver) → LastOf (ending_last (Some (record { row = w; colour = c })) b) w
last_left w c None = record { giver = record { row = w; colour = c }; is = refl; last = inl refl }
last_left w c (Some k) = by (nat_lt w.to k.row.to) refl
  where
    me : Giver
    me = record { row = w; colour = c }

    by : (b : Bool) → nat_lt w.to k.row.to ≡ b → LastOf (cond b (Some k) (Some me)) w
    by true q = record { giver = k; is = refl; last = inr (inl (ltb-true w.to k.row.to q)) }
    by false q = record { giver = me; is = refl; last = inl refl }

last_right : (w r : OpenInterval) (a b : Option Giver) → ((g : Giver) → a ≡ Some g → r ≡ g.row) → StartsBefore w r → LastOf b w → LastOf (ending_last a b) w
last_right w r None b row before h = h
last_right w r (Some k) None row before h = absurd (none-some h.giver h.is)
last_right w r (Some k) (Some j) row before h = by (nat_lt k.row.to j.row.to) refl
  where
    s : j ≡ h.giver
    s = same_Some j h.giver h.is

    last : (w ≡ j.row) ⊎ EndsBefore w j.row
    last = subst (λ (z : Giver). (w ≡ z.row) ⊎ EndsBefore w z.row) (sym s) h.last

    no_later : w.to ≤ j.row.to
    no_later = ⊎_elim (λ e. let f : w.to ≡ j.row.to = ap (λ (z : OpenInterval). z.to) e in omega (arith, f))
        (λ d. ⊎_elim (λ (lt : w.to < j.row.to). omega (arith, lt)) (λ d. let f = d.0 in omega (arith, f)) d) last

    here : r ≡ k.row
    here = row k refl

    before_k : StartsBefore w k.row
    before_k = subst (StartsBefore w) here before

    by : (b : Bool) → nat_lt k.row.to j.row.to ≡ b → LastOf (cond b (Some j) (Some k)) w
    by true q = record { giver = j; is = refl; last = last }
    by false q =
        let ge = ltb-false k.row.to j.row.to q in
        let le = no_later in
        record {
          giver = k;
          is = refl;
          last = inr (⊎_elim (λ (lt : w.to < k.row.to). inl lt) (λ (eq : k.row.to ≤ w.to). inr (omega (arith, eq, ge, le), before_k)) (cases_lt w.to k.row.to));
        }

pub giver_last : (closed : ClosedColours) (place : Colouring) (x w : OpenInterval) (c : ℕ) → place w.number ≡ loc.Machine c → x.from ≤ w.to →
    closed x c ≡ false → (done : List OpenInterval) → AllPairs (λ (a b : OpenInterval). StartsBefore b a) done → Contains done w →
    LastOf (last_giver closed place done x) w
giver_last closed place x w c q le free [] order z = absurd (none_in w z)
giver_last closed place x w c q le free (r ∷ rs) order z =
    ⊎_elim
    (λ e.
    let stands : place r.number ≡ loc.Machine c = subst (λ (k : OpenInterval). place k.number ≡ loc.Machine c) (sym e) q in
    let alive : x.from ≤ r.to = subst (λ (k : OpenInterval). x.from ≤ k.to) (sym e) le in
    subst (LastOf (last_giver closed place (r ∷ rs) x)) e
    (subst (λ o. LastOf (ending_last o (last_giver closed place rs x)) r) (sym (giver_here closed x r c (place r.number) stands alive free))
    (last_left r c (last_giver closed place rs x))))
    (λ d.
    last_right w r (giver_at closed x r (place r.number)) (last_giver closed place rs x)
    (λ g u. (gives_at closed x r (place r.number) g u).row)
    (pairs_first (λ (a b : OpenInterval). StartsBefore b a) r rs order w d)
    (giver_last closed place x w c q le free rs (pairs_later (λ (a b : OpenInterval). StartsBefore b a) r rs order) d))
    (in_cons r w rs z)

-- ---- among those that hold colours

abbrev pub giver_of : Holder → Giver
giver_of h = record { row = row_of h.register; colour = h.colour }

abbrev pub giver_option : Option Holder → Option Giver
giver_option None = None
giver_option (Some h) = Some (giver_of h)

-- of two registers, the first does not end after the second, or with it and begin after it
abbrev NoLater : OpenRegister → OpenRegister → Type 0
NoLater x y = (x.to < y.to) ⊎ ((x.to ≡ y.to) × ((x.from < y.from) ⊎ ((x.from ≡ y.from) × (x.number ≤ y.number))))

no_later_than : (x y z : OpenRegister) → NoLater x y → NoLater y z → NoLater x z
no_later_than x y z one two = by x.to x.from x.number y.to y.from y.number z.to z.from z.number one two
  where
    ties : (b c e f h i : ℕ) → (b < e) ⊎ ((b ≡ e) × (c ≤ f)) → (e < h) ⊎ ((e ≡ h) × (f ≤ i)) → (b < h) ⊎ ((b ≡ h) × (c ≤ i))
    ties b c e f h i (inl p) (inl q) = inl (omega (arith, p, q))
    ties b c e f h i (inl p) (inr q) = let u = q.0 in inl (omega (arith, p, u))
    ties b c e f h i (inr p) (inl q) = let u = p.0 in inl (omega (arith, u, q))
    ties b c e f h i (inr p) (inr q) =
        let u = p.0 in let v = q.0 in let m = p.1 in let n = q.1 in
        inr (omega (arith, u, v), omega (arith, m, n))

    by : (a b c d e f g h i : ℕ) → (a < d) ⊎ ((a ≡ d) × ((b < e) ⊎ ((b ≡ e) × (c ≤ f)))) → (d < g) ⊎ ((d ≡ g) × ((e < h) ⊎ ((e ≡ h) × (f ≤ i)))) →
        (a < g) ⊎ ((a ≡ g) × ((b < h) ⊎ ((b ≡ h) × (c ≤ i))))
    by a b c d e f g h i (inl p) (inl q) = inl (omega (arith, p, q))
    by a b c d e f g h i (inl p) (inr q) = let s = q.0 in inl (omega (arith, p, s))
    by a b c d e f g h i (inr p) (inl q) = let s = p.0 in inl (omega (arith, s, q))
    by a b c d e f g h i (inr p) (inr q) = let s = p.0 in let t = q.0 in inr (omega (arith, s, t), ties b c e f h i p.1 q.1)

apart_by : (a b : ℕ) → nat_eq a b ≡ false → a ≢ b
apart_by a b q e = true≢false (sym (eq-eqb a b e) ∙ q)

-- by the test
when_false : (x y : OpenRegister) → ends_after x y ≡ false → NoLater x y
when_false x y e = by (nat_eq x.to y.to) (nat_eq x.from y.from) refl refl e
  where
    by : (s t : Bool) → nat_eq x.to y.to ≡ s → nat_eq x.from y.from ≡ t →
        cond s (cond t (nat_lt y.number x.number) (nat_lt y.from x.from)) (nat_lt y.to x.to) ≡ false → NoLater x y
    by true true p q e = inr (eqb-true x.to y.to p, inr (eqb-true x.from y.from q, ltb-false y.number x.number e))
    by true false p q e =
        let le = ltb-false y.from x.from e in
        inr (
          eqb-true x.to y.to p,
          ⊎_elim (λ (lt : x.from < y.from). inl lt) (λ (ge : y.from ≤ x.from). absurd (apart_by x.from y.from q (omega (arith, le, ge)))) (cases_lt x.from y.from),
        )
    by false t p q e =
        let le = ltb-false y.to x.to e in
        ⊎_elim (λ (lt : x.to < y.to). inl lt) (λ (ge : y.to ≤ x.to). absurd (apart_by x.to y.to p (omega (arith, le, ge)))) (cases_lt x.to y.to)

when_true : (x y : OpenRegister) → ends_after x y ≡ true → NoLater y x
when_true x y e = by (nat_eq x.to y.to) (nat_eq x.from y.from) refl refl e
  where
    by : (s t : Bool) → nat_eq x.to y.to ≡ s → nat_eq x.from y.from ≡ t →
        cond s (cond t (nat_lt y.number x.number) (nat_lt y.from x.from)) (nat_lt y.to x.to) ≡ true → NoLater y x
    by true true p q e =
        let lt = ltb-true y.number x.number e in
        inr (sym (eqb-true x.to y.to p), inr (sym (eqb-true x.from y.from q), omega (arith, lt)))
    by true false p q e = inr (sym (eqb-true x.to y.to p), inl (ltb-true y.from x.from e))
    by false t p q e = inl (ltb-true y.to x.to e)

-- what does not end after another does not begin after it where it ends with it
not_before : (x y : OpenRegister) → NoLater x y → EndsBefore (row_of y) (row_of x) → ⊥
not_before x y one two = by x.to x.from x.number y.to y.from y.number one two
  where
    ties : (b c e f : ℕ) → (b < e) ⊎ ((b ≡ e) × (c ≤ f)) → (e < b) ⊎ ((e ≡ b) × (f < c)) → ⊥
    ties b c e f (inl p) (inl q) = absurd (omega (arith, p, q))
    ties b c e f (inl p) (inr q) = let u = q.0 in absurd (omega (arith, p, u))
    ties b c e f (inr p) (inl q) = let u = p.0 in absurd (omega (arith, u, q))
    ties b c e f (inr p) (inr q) = let m = p.1 in let n = q.1 in absurd (omega (arith, m, n))

    by : (a b c d e f : ℕ) → (a < d) ⊎ ((a ≡ d) × ((b < e) ⊎ ((b ≡ e) × (c ≤ f)))) → (d < a) ⊎ ((d ≡ a) × ((e < b) ⊎ ((e ≡ b) × (f < c)))) → ⊥
    by a b c d e f (inl p) (inl q) = absurd (omega (arith, p, q))
    by a b c d e f (inl p) (inr q) = let s = q.0 in absurd (omega (arith, p, s))
    by a b c d e f (inr p) (inl q) = let s = p.0 in absurd (omega (arith, s, q))
    by a b c d e f (inr p) (inr q) = ties b c e f p.1 q.1

-- a register that holds a colour and may give it
pub record CanGive (a : Active) (k : Closed) (from c : ℕ) (h : Holder) : Type 0 where
  pub is_open : is_closed_in k c ≡ false
  pub holds : holder_in a c ≡ Some h.register
  pub alive : from ≤ h.register.to
  pub colour : c ≡ h.colour

can_give : (a : Active) (k : Closed) (from c : ℕ) (h : Holder) → holder_to_give a k from c ≡ Some h → CanGive a k from c h
can_give a k from c h e = by (is_closed_in k c) (holder_in a c) refl refl e
  where
    by : (b : Bool) (o : Option OpenRegister) → is_closed_in k c ≡ b → holder_in a c ≡ o → cond b None (holder_if o from c) ≡ Some h → CanGive a k from c h
    by true o p q e = absurd (none-some h e)
    by false None p q e = absurd (none-some h e)
    by false (Some r) p q e = at (nat_le from r.to) refl e
      where
        me : Holder
        me = record { register = r; colour = c }

        at : (t : Bool) → nat_le from r.to ≡ t → cond t (Some me) None ≡ Some h → CanGive a k from c h
        at true s e =
            subst (CanGive a k from c) (same_Some me h e)
            (record { is_open = p; holds = q; alive = leb-true from r.to s; colour = refl })
        at false s e = absurd (none-some h e)

gives_here : (a : Active) (k : Closed) (from c : ℕ) (r : OpenRegister) → is_closed_in k c ≡ false → holder_in a c ≡ Some r → from ≤ r.to →
    holder_to_give a k from c ≡ Some (record { register = r; colour = c })
gives_here a k from c r free holds le =
    ap (λ b. cond b None (holder_if (holder_in a c) from c)) free ∙ ap (λ o. holder_if o from c) holds
    ∙ ap (λ b. cond b (Some (record { register = r; colour = c })) None) (le-leb from r.to le)

one_holder : (x y : Option Holder) (h : Holder) → later_holder x y ≡ Some h → (x ≡ Some h) ⊎ (y ≡ Some h)
one_holder None y h e = inr e
one_holder (Some g) None h e = inl e
one_holder (Some g) (Some k) h e = by (ends_after k.register g.register) e
  where
    by : (b : Bool) → cond b (Some k) (Some g) ≡ Some h → (◌≡◌ {A = Option Holder} (Some g) (Some h)) ⊎ (◌≡◌ {A = Option Holder} (Some k) (Some h))
    by true e = inr e
    by false e = inl e

-- the colour of the last one
pub record GivesOne (a : Active) (k : Closed) (from : ℕ) (cs : List ℕ) (h : Holder) : Type 0 where
  pub colour : ℕ
  pub among : Contains cs colour
  pub gives : CanGive a k from colour h

pub last_gives : (a : Active) (k : Closed) (from : ℕ) (cs : List ℕ) (h : Holder) → last_holder a k from cs ≡ Some h → GivesOne a k from cs h
last_gives a k from [] h e = absurd (none-some h e)
last_gives a k from (c ∷ cs) h e =
    ⊎_elim (λ u. record { colour = c; among = first_in c cs; gives = can_give a k from c h u })
    (λ u. let g = last_gives a k from cs h u in record { colour = g.colour; among = later_in c g.colour cs g.among; gives = g.gives })
    (one_holder (holder_to_give a k from c) (last_holder a k from cs) h e)

record LastHolder (o : Option Holder) (r : OpenRegister) : Type 0 where
  holder : Holder
  is : o ≡ Some holder
  last : NoLater r holder.register

no_later_self : (r : OpenRegister) → NoLater r r
no_later_self r = inr (refl, inr (refl, (let n : ℕ = r.number in by n)))
  where
    by : (n : ℕ) → n ≤ n
    by n = omega arith

left_holder : (h : Holder) (y : Option Holder) → LastHolder (later_holder (Some h) y) h.register
left_holder h None = record { holder = h; is = refl; last = no_later_self h.register }
left_holder h (Some k) = by (ends_after k.register h.register) refl
  where
    by : (b : Bool) → ends_after k.register h.register ≡ b → LastHolder (cond b (Some k) (Some h)) h.register
    by true q = record { holder = k; is = refl; last = when_true k.register h.register q }
    by false q = record { holder = h; is = refl; last = no_later_self h.register }

right_holder : (r : OpenRegister) (x y : Option Holder) → LastHolder y r → LastHolder (later_holder x y) r
right_holder r None y h = h
right_holder r (Some g) None h = absurd (none-some h.holder h.is)
right_holder r (Some g) (Some k) h = by (ends_after k.register g.register) refl
  where
    s : k ≡ h.holder
    s = same_Some k h.holder h.is

    last : NoLater r k.register
    last = subst (λ (z : Holder). NoLater r z.register) (sym s) h.last

    by : (b : Bool) → ends_after k.register g.register ≡ b → LastHolder (cond b (Some k) (Some g)) r
    by true q = record { holder = k; is = refl; last = last }
    by false q = record { holder = g; is = refl; last = no_later_than r k.register g.register last (when_false k.register g.register q) }

holder_last : (a : Active) (k : Closed) (from : ℕ) (cs : List ℕ) (c : ℕ) (h : Holder) → Contains cs c → holder_to_give a k from c ≡ Some h →
    LastHolder (last_holder a k from cs) h.register
holder_last a k from [] c h z e = absurd (none_in c z)
holder_last a k from (d ∷ ds) c h z e =
    ⊎_elim
    (λ s.
    subst (λ o. LastHolder (later_holder o (last_holder a k from ds)) h.register) (sym (ap (holder_to_give a k from) s ∙ e))
    (left_holder h (last_holder a k from ds)))
    (λ y. right_holder h.register (holder_to_give a k from d) (last_holder a k from ds) (holder_last a k from ds c h y e))
    (in_cons d c ds z)

-- ---- both say the same

pub record HeldBy (o : Option OpenRegister) (r : OpenInterval) : Type 0 where
  pub holder : OpenRegister
  pub is : o ≡ Some holder
  pub row : row_of holder ≡ r

abbrev pub BeginBy : List OpenInterval → ℕ → Type 0
BeginBy done b = (r : OpenInterval) → Contains done r → r.from ≤ b

-- At each colour the table has a row that stands there: the one that has not ended, if there is one.
pub record AreHeld (hold : ℕ → Option OpenRegister) (place : Colouring) (done : List OpenInterval) : Type 0 where
  pub sound : (c : ℕ) → Contains colour_numbers c → (h : OpenRegister) → hold c ≡ Some h →
      Contains done (row_of h) × (place h.number ≡ loc.Machine c)
  pub whole : (b : ℕ) → BeginBy done b → (r : OpenInterval) → Contains done r → (c : ℕ) → place r.number ≡ loc.Machine c → b ≤ r.to →
      HeldBy (hold c) r
  pub within : (r : OpenInterval) → Contains done r → (c : ℕ) → place r.number ≡ loc.Machine c → Contains colour_numbers c

-- whether some row holds a colour
record Holds (place : Colouring) (rs : List OpenInterval) (x : OpenInterval) (c : ℕ) : Type 0 where
  row : OpenInterval
  among : Contains rs row
  stands : place row.number ≡ loc.Machine c
  alive : x.from ≤ row.to

holds : (place : Colouring) (rs : List OpenInterval) (x : OpenInterval) (c : ℕ) → is_held place rs x c ≡ true → Holds place rs x c
holds place [] x c e = absurd (true≢false (sym e))
holds place (r ∷ rs) x c e = by (has_colour c (place r.number) && nat_le x.from r.to) refl e (λ u. holds place rs x c u)
  where
    by : (b : Bool) → (has_colour c (place r.number) && nat_le x.from r.to) ≡ b → (b || is_held place rs x c) ≡ true →
        (is_held place rs x c ≡ true → Holds place rs x c) → Holds place (r ∷ rs) x c
    by true q e ih = record {
      row = r;
      among = first_in r rs;
      stands = in_colour c (place r.number) (and_left (has_colour c (place r.number)) (nat_le x.from r.to) q);
      alive = leb-true x.from r.to (and_right (has_colour c (place r.number)) (nat_le x.from r.to) q);
    }
    by false q e ih = let h = ih e in record { row = h.row; among = later_in r h.row rs h.among; stands = h.stands; alive = h.alive }

pub held : (place : Colouring) (rs : List OpenInterval) (x r : OpenInterval) (c : ℕ) → Contains rs r → place r.number ≡ loc.Machine c → x.from ≤ r.to →
    is_held place rs x c ≡ true
held place [] x r c z q le = absurd (none_in r z)
held place (s ∷ rs) x r c z q le =
    ⊎_elim
    (λ e.
    let stands : place s.number ≡ loc.Machine c = subst (λ (k : OpenInterval). place k.number ≡ loc.Machine c) (sym e) q in
    let alive : x.from ≤ s.to = subst (λ (k : OpenInterval). x.from ≤ k.to) (sym e) le in
    ap (λ b. b || is_held place rs x c)
    (ap (λ b. b && nat_le x.from s.to) (has_its_colour c (place s.number) stands) ∙ le-leb x.from s.to alive))
    (λ y. right (has_colour c (place s.number) && nat_le x.from s.to) (is_held place rs x c) (held place rs x r c y q le))
    (in_cons s r rs z)
  where
    right : (a b : Bool) → b ≡ true → (a || b) ≡ true
    right true b e = refl
    right false b e = e

module _ (closed : ClosedColours) (place : Colouring) (done : List OpenInterval) (a : Active) (k : Closed) (register : OpenRegister)
    (are : AreHeld (holder_in a) place done) (begun : BeginBy done register.from)
    (shut : (c : ℕ) → Contains colour_numbers c → is_closed_in k c ≡ closed (row_of register) c)
    (order : AllPairs (λ (x y : OpenInterval). StartsBefore y x) done) where
  abbrev X : OpenInterval
  X = row_of register

  held_same : (c : ℕ) → Contains colour_numbers c → is_held_by (holder_in a c) register.from ≡ is_held place done X c
  held_same c inside = both_true (is_held_by (holder_in a c) register.from) (is_held place done X c) to from
    where
      to : is_held_by (holder_in a c) register.from ≡ true → is_held place done X c ≡ true
      to e = by (holder_in a c) refl e
        where
          by : (o : Option OpenRegister) → holder_in a c ≡ o → is_held_by o register.from ≡ true → is_held place done X c ≡ true
          by None p e = absurd (true≢false (sym e))
          by (Some h) p e =
              let s = are.sound c inside h p in
              held place done X (row_of h) c s.0 s.1 (leb-true register.from h.to e)

      from : is_held place done X c ≡ true → is_held_by (holder_in a c) register.from ≡ true
      from e =
          let h = holds place done X c e in
          let w = are.whole register.from begun h.row h.among c h.stands h.alive in
          let alive : register.from ≤ w.holder.to = subst (λ (z : OpenInterval). register.from ≤ z.to) (sym w.row) h.alive in
          ap (λ o. is_held_by o register.from) w.is ∙ le-leb register.from w.holder.to alive

  pub shut_same : (c : ℕ) → Contains colour_numbers c → is_shut a k register.from c ≡ is_closed_or_held closed done place X c
  shut_same c inside =
      ap (λ b. b || is_held_by (holder_in a c) register.from) (shut c inside)
      ∙ ap (λ b. closed X c || b) (held_same c inside)

  -- one that holds a colour may give it
  holder_may_give : (h : Holder) → last_holder a k register.from colour_numbers ≡ Some h → MayGive closed place done X (giver_of h)
  holder_may_give h e =
      let g = last_gives a k register.from colour_numbers h e in
      let s = are.sound g.colour g.among h.register g.gives.holds in
      record {
        among = s.0;
        stands = s.1 ∙ ap loc.Machine g.gives.colour;
        alive = g.gives.alive;
        is_open = subst (λ c. closed X c ≡ false) g.gives.colour (sym (shut g.colour g.among) ∙ g.gives.is_open);
      }

  pub giver_same : last_giver closed place done X ≡ giver_option (last_holder a k register.from colour_numbers)
  giver_same = by (last_giver closed place done X) (last_holder a k register.from colour_numbers) refl refl
    where
      by : (o : Option Giver) (p : Option Holder) → last_giver closed place done X ≡ o → last_holder a k register.from colour_numbers ≡ p → o ≡ giver_option p
      by None None e f = refl
      by None (Some h) e f =
          let m = holder_may_give h f in
          let w = giver_last closed place X (row_of h.register) h.colour m.stands m.alive m.is_open done order m.among in
          absurd (none-some w.giver (sym e ∙ w.is))
      by (Some g) p e f = at p f
        where
          m : MayGive closed place done X g
          m = may_give closed place done X g e

          inside : Contains colour_numbers g.colour
          inside = are.within g.row m.among g.colour m.stands

          w : HeldBy (holder_in a g.colour) g.row
          w = are.whole register.from begun g.row m.among g.colour m.stands m.alive

          alive : register.from ≤ w.holder.to
          alive = subst (λ (z : OpenInterval). register.from ≤ z.to) (sym w.row) m.alive

          last : LastHolder (last_holder a k register.from colour_numbers) w.holder
          last =
              holder_last a k register.from colour_numbers g.colour (record { register = w.holder; colour = g.colour }) inside
              (gives_here a k register.from g.colour w.holder (shut g.colour inside ∙ m.is_open) w.is alive)

          at : (p : Option Holder) → last_holder a k register.from colour_numbers ≡ p → ◌≡◌ {A = Option Giver} (Some g) (giver_option p)
          at None f = absurd (none-some last.holder (sym f ∙ last.is))
          at (Some h) f =
              let same : last.holder ≡ h = same_Some last.holder h (sym last.is ∙ f) in
              let no_later : NoLater w.holder h.register = subst (λ (z : Holder). NoLater w.holder z.register) same last.last in
              let n = holder_may_give h f in
              let l = giver_last closed place X (row_of h.register) h.colour n.stands n.alive n.is_open done order n.among in
              let is : l.giver ≡ g = same_Some l.giver g (sym l.is ∙ e) in
              let end : (row_of h.register ≡ g.row) ⊎ EndsBefore (row_of h.register) g.row =
              subst (λ (z : Giver). (row_of h.register ≡ z.row) ⊎ EndsBefore (row_of h.register) z.row) is l.last in
              ⊎_elim (λ s. equal h s n.stands)
              (λ d. absurd (not_before w.holder h.register no_later (subst (EndsBefore (row_of h.register)) (sym w.row) d))) end
            where
              equal : (h : Holder) → row_of h.register ≡ g.row → place h.register.number ≡ loc.Machine h.colour → ◌≡◌ {A = Option Giver} (Some g) (Some (giver_of h))
              equal h s stands =
                  let number : place g.row.number ≡ loc.Machine h.colour = subst (λ (z : OpenInterval). place z.number ≡ loc.Machine h.colour) s stands in
                  let colour : g.colour ≡ h.colour = same_machine g.colour h.colour (sym m.stands ∙ number) in
                  ap (λ (z : Giver). Some z) (made g.row (row_of h.register) g.colour h.colour (sym s) colour)
                where
                  made : (r s : OpenInterval) (c d : ℕ) → r ≡ s → c ≡ d → ◌≡◌ {A = Giver} (record { row = r; colour = c }) (record { row = s; colour = d })
                  made r s c d e f = cc
