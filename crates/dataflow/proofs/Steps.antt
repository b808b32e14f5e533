-- One place: what enters it is live, and what is live enters it.
use Rattle.std.proofs.Common.{◌≡◌, ℕ, zero, suc, Bool, true, false, not, ◌||◌, ◌&&◌, List, [], ◌∷◌, ◌∙◌, ap, inl, inr, arith, refl, subst}
use Rattle.std.specs.Prelude.{◌==◌}
use Rattle.std.specs.List.{Contains, list_any}
use Rattle.std.proofs.lemmas.Bool.{or_cases, and_parts, and_from, not-true, eqb-true, eq-eqb}
use Rattle.bs_bits.specs.Set.{has}
use Rattle.dataflow.specs.Flow.{Graph, ReadsIn, LiveBefore}
use Rattle.dataflow.specs.Rows.{set_in_row}
use Rattle.dataflow.specs.Sweep.{enters, AreRowsLive, IsClosedAt}

-- an element that passes a test
pub record Passing (p : ℕ → Bool) (xs : List ℕ) : Type 0 where
  pub element : ℕ
  pub within : Contains xs element
  pub passes : p element ≡ true

contains_more : (x y : ℕ) (xs : List ℕ) → Contains xs y → Contains (x ∷ xs) y
contains_more x y xs c = (suc c.0, omega (arith, c.1), c.2)

pub passing : (p : ℕ → Bool) (xs : List ℕ) → list_any p xs ≡ true → Passing p xs
passing p [] e = cc
passing p (x ∷ xs) e =
    elim (or_cases (p x) (list_any p xs) e) [
      | inl here ↦ record { element = x; within = (0, omega arith, refl); passes = here }
      | inr there ↦
          let q = passing p xs there in
          record { element = q.element; within = contains_more x q.element xs q.within; passes = q.passes }
    ]

pub or_left : (x y : Bool) → x ≡ true → (x || y) ≡ true
or_left true y e = refl
or_left false y e = cc

pub or_right : (x y : Bool) → y ≡ true → (x || y) ≡ true
or_right true y e = refl
or_right false y e = e

pub passed : (p : ℕ → Bool) (xs : List ℕ) (x : ℕ) → Contains xs x → p x ≡ true → list_any p xs ≡ true
passed p [] x c e = absurd (omega (arith, c.1))
passed p (y ∷ ys) x (zero, below, at) e = or_left (p y) (list_any p ys) (ap p at ∙ e)
passed p (y ∷ ys) x (suc k, below, at) e = or_right (p y) (list_any p ys) (passed p ys x (k, omega (arith, below), at) e)

-- ---- numbers in lists

pub contains_from : (xs : List ℕ) (r : ℕ) → list_any (λ k. k == r) xs ≡ true → Contains xs r
contains_from xs r e =
    let q = passing (λ k. k == r) xs e in
    let same : q.element ≡ r = eqb-true q.element r q.passes in
    let P : ℕ → Type 0 = λ n. Contains xs n in
    subst P same q.within

pub from_contains : (xs : List ℕ) (r : ℕ) → Contains xs r → list_any (λ k. k == r) xs ≡ true
from_contains xs r c = passed (λ k. k == r) xs r c (eq-eqb r r refl)

-- ---- what enters a place

pub enters_live : (g : Graph) (rows : List (List Bool)) (p r : ℕ) → AreRowsLive g rows → enters (g.next p) (g.aside p) (g.reads p) (g.writes p) rows r ≡ true → LiveBefore g p r
enters_live g rows p r sound e =
    elim (or_cases ((list_any (λ q. has (set_in_row rows q) r) (g.next p) && not (list_any (λ k. k == r) (g.writes p))) || list_any (λ q. has (set_in_row rows q) r) (g.aside p)) (list_any (λ k. k == r) (g.reads p)) e) [
      | inl walks ↦ elim (or_cases (list_any (λ q. has (set_in_row rows q) r) (g.next p) && not (list_any (λ k. k == r) (g.writes p))) (list_any (λ q. has (set_in_row rows q) r) (g.aside p)) walks) [
        | inl both ↦
            let parts = and_parts (list_any (λ q. has (set_in_row rows q) r) (g.next p)) (not (list_any (λ k. k == r) (g.writes p))) both in
            let to = passing (λ q. has (set_in_row rows q) r) (g.next p) parts.0 in
            let live = sound.live to.element r to.passes in
            let unwritten : Contains (g.writes p) r → ⊥ = λ c. absurd (let t : list_any (λ k. k == r) (g.writes p) ≡ true = from_contains (g.writes p) r c in let f : list_any (λ k. k == r) (g.writes p) ≡ false = not-true (list_any (λ k. k == r) (g.writes p)) parts.1 in cc) in
            (suc live.0, inl (unwritten, (to.element, to.within, live.1)))
        | inr past ↦
            let to = passing (λ q. has (set_in_row rows q) r) (g.aside p) past in
            let live = sound.live to.element r to.passes in
            (suc live.0, inr (to.element, to.within, live.1))
      ]
      | inr reads ↦ (zero, contains_from (g.reads p) r reads)
    ]

-- ---- what is live enters

pub not_from : (x : Bool) → (x ≡ true → ⊥) → not x ≡ true
not_from true h = absurd (h refl)
not_from false h = refl

pub live_member : (g : Graph) (rows : List (List Bool)) → ((p : ℕ) → IsClosedAt g rows p) → (n p r : ℕ) → ReadsIn g r n p → has (set_in_row rows p) r ≡ true
live_member g rows closed zero p r reads =
    (closed p).member r (or_right ((list_any (λ q. has (set_in_row rows q) r) (g.next p) && not (list_any (λ k. k == r) (g.writes p))) || list_any (λ q. has (set_in_row rows q) r) (g.aside p)) (list_any (λ k. k == r) (g.reads p)) (from_contains (g.reads p) r reads))
live_member g rows closed (suc n) p r (inl (unwritten, (q, step, walk))) =
    let there : has (set_in_row rows q) r ≡ true = live_member g rows closed n q r walk in
    let some : list_any (λ q. has (set_in_row rows q) r) (g.next p) ≡ true = passed (λ q. has (set_in_row rows q) r) (g.next p) q step there in
    let keeps : not (list_any (λ k. k == r) (g.writes p)) ≡ true = not_from (list_any (λ k. k == r) (g.writes p)) (λ t. unwritten (contains_from (g.writes p) r t)) in
    (closed p).member r (or_left ((list_any (λ q. has (set_in_row rows q) r) (g.next p) && not (list_any (λ k. k == r) (g.writes p))) || list_any (λ q. has (set_in_row rows q) r) (g.aside p)) (list_any (λ k. k == r) (g.reads p)) (or_left (list_any (λ q. has (set_in_row rows q) r) (g.next p) && not (list_any (λ k. k == r) (g.writes p))) (list_any (λ q. has (set_in_row rows q) r) (g.aside p)) (and_from (list_any (λ q. has (set_in_row rows q) r) (g.next p)) (not (list_any (λ k. k == r) (g.writes p))) some keeps)))
live_member g rows closed (suc n) p r (inr (q, step, walk)) =
    let there : has (set_in_row rows q) r ≡ true = live_member g rows closed n q r walk in
    let some : list_any (λ q. has (set_in_row rows q) r) (g.aside p) ≡ true = passed (λ q. has (set_in_row rows q) r) (g.aside p) q step there in
    (closed p).member r (or_left ((list_any (λ q. has (set_in_row rows q) r) (g.next p) && not (list_any (λ k. k == r) (g.writes p))) || list_any (λ q. has (set_in_row rows q) r) (g.aside p)) (list_any (λ k. k == r) (g.reads p)) (or_right (list_any (λ q. has (set_in_row rows q) r) (g.next p) && not (list_any (λ k. k == r) (g.writes p))) (list_any (λ q. has (set_in_row rows q) r) (g.aside p)) some))
