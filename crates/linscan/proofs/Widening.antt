-- Ranges that grow by what is seen.
use Rattle.std.proofs.Common.{◌≡◌, ◌≢◌, ℕ, zero, suc, ◌+◌, ◌<◌, ◌≤◌, min, max, Bool, true, false, ◌⊎◌, inl, inr, ⊎_elim, List, [], ◌∷◌, ◌++◌, Option, Some, None, length, take, set, get_or, refl, sym, ap, ◌∙◌, subst, arith}
use Rattle.std.specs.List.{Contains}
use Rattle.std.proofs.lemmas.Bool.{cases_eq, cases_lt}
use Rattle.std.proofs.lemmas.List.{length-set, get_or-set_same, get_or-set_other, take_more, take_all, get_or_past}
use Rattle.std.proofs.lemmas.List.Elements.{Contains-append_left, Contains-append_right, Contains-append_cases}
use Rattle.bs_bits.specs.Set.{has, IsNext, HasNoneFrom}
use Rattle.bs_words.specs.Contents.{contents}
use Rattle.bs_words.proofs.Lists.{none_in, first_in, in_cons}
use Rattle.dataflow.specs.Rows.{set_in_row}
use Rattle.dataflow.specs.declared.flow.Place as place
use Rattle.linscan.specs.declared.ranges.Range.{Range}
use Rattle.linscan.specs.Seen.{RangeTable, range_at, widened, IsWithin, IsEnd, begins, ends, Widens, IsSight, AreSights, AreMembersSeen, SeenAfter, IsSeen, is_read, is_written, is_live, is_live_after}

abbrev pub Sights : Type 1
Sights = ℕ → ℕ → Type 0

-- ---- one after the other

pub widens_none : (t : RangeTable) (P : Sights) → ((n p : ℕ) → P n p → ⊥) → Widens t t P
widens_none t P none =
    record {
      len = refl;
      kept = λ n p h. h;
      sound = λ n p h. inl h;
      whole = λ n p h. absurd (none n p h);
    }

pub widens_then : (x y z : RangeTable) (P Q R : Sights) → Widens x y P → Widens y z Q → ((n p : ℕ) → R n p → P n p ⊎ Q n p) →
    ((n p : ℕ) → P n p → R n p) → ((n p : ℕ) → Q n p → R n p) → Widens x z R
widens_then x y z P Q R one two split left right =
    record {
      len = two.len ∙ one.len;
      kept = λ n p h. two.kept n p (one.kept n p h);
      sound = λ n p h. ⊎_elim (λ o. ⊎_elim (λ f. inl f) (λ f. inr (left n p f)) (one.sound n p o)) (λ q. inr (right n p q)) (two.sound n p h);
      whole = λ n p h. ⊎_elim (λ f. two.kept n p (one.whole n p f)) (λ q. two.whole n p q) (split n p h);
    }

-- the same sights under another name
pub widens_as : (x y : RangeTable) (P Q : Sights) → Widens x y P → ((n p : ℕ) → Q n p → P n p) → ((n p : ℕ) → P n p → Q n p) → Widens x y Q
widens_as x y P Q one to from =
    record {
      len = one.len;
      kept = one.kept;
      sound = λ n p h. ⊎_elim (λ f. inl f) (λ f. inr (from n p f)) (one.sound n p h);
      whole = λ n p h. one.whole n p (to n p h);
    }

-- ---- one number

-- of the range that one became
has_place : (o : Option Range) (p : ℕ) → ((widened o p).from ≤ p) × (p ≤ (widened o p).to)
has_place None p = (omega arith, omega arith)
has_place (Some r) p = by r.from r.to
  where
    by : (a b : ℕ) → (min a p ≤ p) × (p ≤ max b p)
    by a b = (omega arith, omega arith)

keeps_places : (r : Range) (p q : ℕ) → r.from ≤ q → q ≤ r.to → ((widened (Some r) p).from ≤ q) × (q ≤ (widened (Some r) p).to)
keeps_places r p q one two = by r.from r.to one two
  where
    by : (a b : ℕ) → a ≤ q → q ≤ b → (min a p ≤ q) × (q ≤ max b p)
    by a b one two = (omega (arith, one), omega (arith, two))

min_is : (a p : ℕ) → (min a p ≡ a) ⊎ (min a p ≡ p)
min_is a p = ⊎_elim (λ (lt : a < p). inl (omega (arith, lt))) (λ (le : p ≤ a). inr (omega (arith, le))) (cases_lt a p)

max_is : (a p : ℕ) → (max a p ≡ a) ⊎ (max a p ≡ p)
max_is a p = ⊎_elim (λ (lt : a < p). inr (omega (arith, lt))) (λ (le : p ≤ a). inl (omega (arith, le))) (cases_lt a p)

from_is : (t : RangeTable) (n p q : ℕ) (o : Option Range) → range_at t n ≡ o → (widened o p).from ≡ q → IsEnd t n q ⊎ (p ≡ q)
from_is t n p q None e f = inr f
from_is t n p q (Some r) e f = ⊎_elim (λ g. inl (begins r e (sym g ∙ f))) (λ g. inr (sym g ∙ f)) (min_is r.from p)

to_is : (t : RangeTable) (n p q : ℕ) (o : Option Range) → range_at t n ≡ o → (widened o p).to ≡ q → IsEnd t n q ⊎ (p ≡ q)
to_is t n p q None e f = inr f
to_is t n p q (Some r) e f = ⊎_elim (λ g. inl (ends r e (sym g ∙ f))) (λ g. inr (sym g ∙ f)) (max_is r.to p)

same_range : (r s : Range) → Some r ≡ Some s → r ≡ s
same_range r s e = cc

-- what was read at a number is there
read_there : (t : RangeTable) (n : ℕ) (slot : Option Range) → n < length t → slot ≡ get_or t n slot → range_at t n ≡ slot
read_there [] n slot lt e = absurd (omega (arith, lt))
read_there (x ∷ xs) zero slot lt e = sym e
read_there (x ∷ xs) (suc n) slot lt e = read_there xs n slot (omega (arith, lt)) e

pub see_one : (t : RangeTable) (number place : ℕ) (slot : Option Range) (r : Range) → number < length t → slot ≡ get_or t number slot →
    r ≡ widened slot place → Widens t (set t number (Some r)) (IsSight number place)
see_one t number place slot r lt read is =
    record {
      len = length-set t number (Some r);
      kept = λ n p h. ⊎_elim (λ e. keep_here n p e h) (λ ne. record { range = h.range; there = get_or-set_other t number n (Some r) None ne ∙ h.there; from = h.from; to = h.to }) (cases_eq n number);
      sound = λ n p h. by n p h;
      whole = λ n p h.
          let w = has_place slot place in
          subst (λ k. IsWithin made k p) h.number
          (subst (λ q. IsWithin made number q) h.place
          (record { range = r; there = here; from = subst (λ (s : Range). s.from ≤ place) (sym is) w.0; to = subst (λ (s : Range). place ≤ s.to) (sym is) w.1 }));
    }
  where
    made : RangeTable
    made = set t number (Some r)

    here : range_at made number ≡ Some r
    here = get_or-set_same t number (Some r) None lt

    was : range_at t number ≡ slot
    was = read_there t number slot lt read

    keep_here : (n p : ℕ) → n ≡ number → IsWithin t n p → IsWithin made n p
    keep_here n p e h =
        let some : slot ≡ Some h.range = sym was ∙ ap (range_at t) (sym e) ∙ h.there in
        let grown : r ≡ widened (Some h.range) place = is ∙ ap (λ o. widened o place) some in
        let w = keeps_places h.range place p h.from h.to in
        subst (λ k. IsWithin made k p) (sym e)
        (record { range = r; there = here; from = subst (λ (s : Range). s.from ≤ p) (sym grown) w.0; to = subst (λ (s : Range). p ≤ s.to) (sym grown) w.1 })

    here_is : (n : ℕ) (range : Range) → n ≡ number → range_at made n ≡ Some range → range ≡ widened slot place
    here_is n range e h = sym (same_range r range (sym here ∙ ap (range_at made) (sym e) ∙ h)) ∙ is

    at_other : (n : ℕ) (range : Range) → n ≢ number → range_at made n ≡ Some range → range_at t n ≡ Some range
    at_other n range ne h = sym (get_or-set_other t number n (Some r) None ne) ∙ h

    told : (n p : ℕ) → n ≡ number → IsEnd t number p ⊎ (place ≡ p) → IsEnd t n p ⊎ IsSight number place n p
    told n p e h = ⊎_elim (λ f. inl (subst (λ k. IsEnd t k p) (sym e) f)) (λ f. inr (record { number = sym e; place = f })) h

    by : (n p : ℕ) → IsEnd made n p → IsEnd t n p ⊎ IsSight number place n p
    by n p (begins range h f) =
        ⊎_elim (λ e. told n p e (from_is t number place p slot was (ap (λ (s : Range). s.from) (sym (here_is n range e h)) ∙ f)))
        (λ ne. inl (begins range (at_other n range ne h) f)) (cases_eq n number)
    by n p (ends range h f) =
        ⊎_elim (λ e. told n p e (to_is t number place p slot was (ap (λ (s : Range). s.to) (sym (here_is n range e h)) ∙ f)))
        (λ ne. inl (ends range (at_other n range ne h) f)) (cases_eq n number)

-- ---- numbers

none_taken : (xs : List ℕ) (n : ℕ) → Contains (take 0 xs) n → ⊥
none_taken [] n c = none_in n c
none_taken (x ∷ xs) n c = none_in n c

pub sights_begun : (t : RangeTable) (numbers : List ℕ) (place : ℕ) → Widens t t (AreSights (take 0 numbers) place)
sights_begun t numbers place = widens_none t (AreSights (take 0 numbers) place) (λ n p h. none_taken numbers n h.among)

pub sights_more : (numbers : List ℕ) (i d place : ℕ) (old now new : RangeTable) → i < length numbers →
    Widens old now (AreSights (take i numbers) place) → Widens now new (IsSight (get_or numbers i d) place) →
    Widens old new (AreSights (take (i + 1) numbers) place)
sights_more numbers i d place old now new lt before one =
    widens_then old now new (AreSights (take i numbers) place) (IsSight x place) (AreSights (take (i + 1) numbers) place) before one
    (λ n p h.
    ⊎_elim (λ c. inl (record { among = c; place = h.place }))
    (λ c. ⊎_elim (λ e. inr (record { number = e; place = h.place })) (λ z. absurd (none_in n z)) (in_cons x n [] c))
    (Contains-append_cases (take i numbers) (x ∷ []) n (subst (λ l. Contains l n) taken h.among)))
    (λ n p h. record { among = subst (λ l. Contains l n) (sym taken) (Contains-append_left (take i numbers) (x ∷ []) n h.among); place = h.place })
    (λ n p h. record { among = subst (λ l. Contains l n) (sym taken) (Contains-append_right (take i numbers) (x ∷ []) n (subst (Contains (x ∷ [])) h.number (first_in x []))); place = h.place })
  where
    x : ℕ
    x = get_or numbers i d

    taken : take (i + 1) numbers ≡ take i numbers ++ x ∷ []
    taken = take_more numbers i d lt

pub sights_all : (numbers : List ℕ) (i place : ℕ) (old new : RangeTable) → length numbers ≤ i → Widens old new (AreSights (take i numbers) place) →
    Widens old new (AreSights numbers place)
sights_all numbers i place old new le h = subst (λ l. Widens old new (AreSights l place)) (take_all i numbers le) h

-- ---- members of a set

-- the members below a number
pub record AreMembersBelow (set : List Bool) (from place n p : ℕ) : Type 0 where
  pub below : n < from
  pub seen : AreMembersSeen set place n p

pub members_begun : (t : RangeTable) (set : List Bool) (place : ℕ) → Widens t t (AreMembersBelow set 0 place)
members_begun t set place = widens_none t (AreMembersBelow set 0 place) (λ n p h. let lt = h.below in absurd (omega (arith, lt)))

pub members_more : (set : List Bool) (from next place : ℕ) (old now new : RangeTable) → IsNext set from next →
    Widens old now (AreMembersBelow set from place) → Widens now new (IsSight next place) → Widens old new (AreMembersBelow set (next + 1) place)
members_more set from next place old now new is before one =
    widens_then old now new (AreMembersBelow set from place) (IsSight next place) (AreMembersBelow set (next + 1) place) before one
    (λ n p h.
    let less = h.below in
    ⊎_elim (λ (lt : n < from). inl (record { below = lt; seen = h.seen }))
    (λ (le : from ≤ n).
    ⊎_elim (λ (lt : n < next). let f : has set n ≡ false = is.least n le lt in let m = h.seen.member in absurd (cc))
    (λ (ge : next ≤ n). inr (record { number = omega (arith, less, ge); place = h.seen.place })) (cases_lt n next))
    (cases_lt n from))
    (λ n p h. let lt = h.below in let up = is.not_below in record { below = omega (arith, lt, up); seen = h.seen })
    (λ n p h. let e = h.number in record { below = omega (arith, e); seen = record { member = subst (λ k. has set k ≡ true) e is.member; place = h.place } })

pub members_end : (set : List Bool) (from size place : ℕ) (old new : RangeTable) → from ≤ size → HasNoneFrom set from →
    Widens old new (AreMembersBelow set from place) → Widens old new (AreMembersBelow set size place)
members_end set from size place old new le none before =
    widens_as old new (AreMembersBelow set from place) (AreMembersBelow set size place) before
    (λ n p h.
    ⊎_elim (λ (lt : n < from). record { below = lt; seen = h.seen })
    (λ (ge : from ≤ n). let f : has set n ≡ false = none n ge in let m = h.seen.member in absurd (cc)) (cases_lt n from))
    (λ n p h. let lt = h.below in record { below = omega (arith, lt, le); seen = h.seen })

-- a number that is a member is below the size
pub member_below : (set : List Bool) (k : ℕ) → has set k ≡ true → k < length set
member_below set k e =
    ⊎_elim (λ lt. lt) (λ le. let f : has set k ≡ false = get_or_past set k false le in absurd (cc)) (cases_lt k (length set))

pub members_all : (set : List Bool) (from place : ℕ) (old new : RangeTable) → length set ≤ from →
    Widens old new (AreMembersBelow set from place) → Widens old new (AreMembersSeen set place)
members_all set from place old new le h =
    widens_as old new (AreMembersBelow set from place) (AreMembersSeen set place) h
    (λ n p m. let lt = member_below set n m.member in record { below = omega (arith, lt, le); seen = m })
    (λ n p m. m.seen)

-- ---- places where control goes on

pub after_begun : (t : RangeTable) (live : List (List Bool)) (next : List ℕ) (place : ℕ) → Widens t t (SeenAfter live (take 0 next) place)
after_begun t live next place = widens_none t (SeenAfter live (take 0 next) place) (λ n p h. none_taken next h.after h.among)

pub after_more : (live : List (List Bool)) (next : List ℕ) (i d place : ℕ) (set : List Bool) (old now new : RangeTable) → i < length next →
    set ≡ set_in_row live (get_or next i d) → Widens old now (SeenAfter live (take i next) place) →
    Widens now new (AreMembersSeen set place) → Widens old new (SeenAfter live (take (i + 1) next) place)
after_more live next i d place set old now new lt is before one =
    widens_then old now new (SeenAfter live (take i next) place) (AreMembersSeen set place) (SeenAfter live (take (i + 1) next) place) before one
    (λ n p h.
    ⊎_elim (λ c. inl (record { after = h.after; among = c; live = h.live; place = h.place }))
    (λ c. ⊎_elim (λ e. inr (record { member = subst (λ s. has s n ≡ true) (sym is) (subst (λ q. has (set_in_row live q) n ≡ true) (sym e) h.live); place = h.place }))
    (λ z. absurd (none_in h.after z)) (in_cons x h.after [] c))
    (Contains-append_cases (take i next) (x ∷ []) h.after (subst (λ l. Contains l h.after) taken h.among)))
    (λ n p h. record { after = h.after; among = subst (λ l. Contains l h.after) (sym taken) (Contains-append_left (take i next) (x ∷ []) h.after h.among); live = h.live; place = h.place })
    (λ n p h. record { after = x; among = subst (λ l. Contains l x) (sym taken) (Contains-append_right (take i next) (x ∷ []) x (first_in x [])); live = subst (λ s. has s n ≡ true) is h.member; place = h.place })
  where
    x : ℕ
    x = get_or next i d

    taken : take (i + 1) next ≡ take i next ++ x ∷ []
    taken = take_more next i d lt

pub after_all : (live : List (List Bool)) (next : List ℕ) (i place : ℕ) (old new : RangeTable) → length next ≤ i →
    Widens old new (SeenAfter live (take i next) place) → Widens old new (SeenAfter live next place)
after_all live next i place old new le h = subst (λ l. Widens old new (SeenAfter live l place)) (take_all i next le) h

-- ---- a whole node

pub node_seen : (node : place.Place) (live : List (List Bool)) (place : ℕ) (reads writes next : List ℕ) (set : List Bool) (a b c d e : RangeTable) →
    reads ≡ contents node.reads → writes ≡ contents node.writes → set ≡ set_in_row live place → next ≡ contents node.next →
    Widens a b (AreSights reads place) → Widens b c (AreSights writes place) → Widens c d (AreMembersSeen set place) →
    Widens d e (SeenAfter live next place) → Widens a e (IsSeen node live place)
node_seen node live place reads writes next set a b c d e r w s g one two three four =
    widens_then a b e (AreSights (contents node.reads) place) Later (IsSeen node live place)
    (subst (λ l. Widens a b (AreSights l place)) r one) later
    (λ n p h. split n p h) (λ n p h. is_read h)
    (λ n p h. ⊎_elim (λ f. is_written f) (λ f. ⊎_elim (λ x. is_live x) (λ x. is_live_after x) f) h)
  where
    Last : ℕ → ℕ → Type 0
    Last n p = AreMembersSeen (set_in_row live place) place n p ⊎ SeenAfter live (contents node.next) place n p

    Later : ℕ → ℕ → Type 0
    Later n p = AreSights (contents node.writes) place n p ⊎ Last n p

    last : Widens c e Last
    last =
        widens_then c d e (AreMembersSeen (set_in_row live place) place) (SeenAfter live (contents node.next) place) Last
        (subst (λ x. Widens c d (AreMembersSeen x place)) s three) (subst (λ x. Widens d e (SeenAfter live x place)) g four)
        (λ n p h. h) (λ n p h. inl h) (λ n p h. inr h)

    later : Widens b e Later
    later =
        widens_then b c e (AreSights (contents node.writes) place) Last Later (subst (λ l. Widens b c (AreSights l place)) w two) last
        (λ n p h. h) (λ n p h. inl h) (λ n p h. inr h)

    split : (n p : ℕ) → IsSeen node live place n p → AreSights (contents node.reads) place n p ⊎ Later n p
    split n p (is_read h) = inl h
    split n p (is_written h) = inr (inl h)
    split n p (is_live h) = inr (inr (inl h))
    split n p (is_live_after h) = inr (inr (inr h))
