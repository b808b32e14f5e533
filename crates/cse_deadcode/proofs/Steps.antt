-- One place: what enters it is used, and what is used enters it.
use Rattle.std.proofs.Common.{◌≡◌, ℕ, Bool, true, false, not, ◌||◌, ◌&&◌, List, ap, inl, inr, refl}
use Rattle.std.specs.Prelude.{◌==◌}
use Rattle.std.specs.List.{Contains, list_any}
use Rattle.std.proofs.lemmas.Bool.{or_cases, and_parts, and_from, not-true}
use Rattle.bs_bits.specs.Set.{has}
use Rattle.dataflow.specs.Flow.{Graph}
use Rattle.dataflow.specs.Rows.{set_in_row}
use Rattle.dataflow.proofs.Steps.{passing, or_left, or_right, passed, contains_from, from_contains, not_from}
use Rattle.cse_deadcode.specs.Flows.{UsedBefore, read, read_for, on, aside, is_wanted, is_used_before, AreRowsUsed, IsClosedForUse}
use Rattle.bs_words.proofs.Truths.{not_both}

-- ---- what enters a place

module _ (g : Graph) (computes : ℕ → Bool) (rows : List (List Bool)) where
  -- in the set of a next place, and of one aside
  abbrev later : ℕ → ℕ → Bool
  later p r = list_any (λ q. has (set_in_row rows q) r) (g.next p)

  abbrev past : ℕ → ℕ → Bool
  past p r = list_any (λ q. has (set_in_row rows q) r) (g.aside p)

  abbrev writes : ℕ → ℕ → Bool
  writes p r = list_any (λ k. k == r) (g.writes p)

  abbrev reads : ℕ → ℕ → Bool
  reads p r = list_any (λ k. k == r) (g.reads p)

  abbrev wanted : ℕ → Bool
  wanted p = is_wanted (g.next p) (g.writes p) rows

  abbrev all : ℕ → ℕ → Bool
  all p r = is_used_before (computes p) (g.next p) (g.aside p) (g.reads p) (g.writes p) rows r

  -- ---- what enters is used

  module _ (sound : AreRowsUsed g computes rows) where
    by_later : (p r : ℕ) → later p r && not (writes p r) ≡ true → UsedBefore g computes p r
    by_later p r both =
        let parts = and_parts (later p r) (not (writes p r)) both in
        let to = passing (λ q. has (set_in_row rows q) r) (g.next p) parts.0 in
        on (λ c. not_both (writes p r) (from_contains (g.writes p) r c) (not-true (writes p r) parts.1)) to.within
        (sound.used to.element r to.passes)

    by_past : (p r : ℕ) → past p r ≡ true → UsedBefore g computes p r
    by_past p r e =
        let to = passing (λ q. has (set_in_row rows q) r) (g.aside p) e in
        aside to.within (sound.used to.element r to.passes)

    by_wanted : (p r : ℕ) → computes p ≡ true → wanted p ≡ true → Contains (g.reads p) r → UsedBefore g computes p r
    by_wanted p r e w c =
        let k = passing (λ k. list_any (λ q. has (set_in_row rows q) k) (g.next p)) (g.writes p) w in
        let to = passing (λ q. has (set_in_row rows q) k.element) (g.next p) k.passes in
        read_for e c k.within to.within (sound.used to.element k.element to.passes)

    by_read : (p r : ℕ) → (not (computes p) || wanted p) && reads p r ≡ true → UsedBefore g computes p r
    by_read p r both =
        let parts = and_parts (not (computes p) || wanted p) (reads p r) both in
        test (computes p) refl (contains_from (g.reads p) r parts.1) parts.0
      where
        test : (b : Bool) → computes p ≡ b → Contains (g.reads p) r → not b || wanted p ≡ true → UsedBefore g computes p r
        test false e c w = read e c
        test true e c w = by_wanted p r e w c

    pub enters_used : (p r : ℕ) → all p r ≡ true → UsedBefore g computes p r
    enters_used p r e =
        elim (or_cases ((later p r && not (writes p r)) || past p r) ((not (computes p) || wanted p) && reads p r) e) [
          | inl walks ↦ elim (or_cases (later p r && not (writes p r)) (past p r) walks) [
            | inl both ↦ by_later p r both
            | inr h ↦ by_past p r h
          ]
          | inr h ↦ by_read p r h
        ]

  -- ---- what is used enters

  module _ (closed : (p : ℕ) → IsClosedForUse g computes rows p) where
    user_enters : (p r : ℕ) → not (computes p) || wanted p ≡ true → Contains (g.reads p) r → has (set_in_row rows p) r ≡ true
    user_enters p r u c =
        (closed p).member r
        (or_right ((later p r && not (writes p r)) || past p r) ((not (computes p) || wanted p) && reads p r)
        (and_from (not (computes p) || wanted p) (reads p r) u (from_contains (g.reads p) r c)))

    pub used_member : {p r : ℕ} → UsedBefore g computes p r → has (set_in_row rows p) r ≡ true
    used_member {p} {r} (read e c) = user_enters p r (or_left (not (computes p)) (wanted p) (ap not e)) c
    used_member {p} {r} (read_for {q = q} {k = k} e c w n u) =
        user_enters p r
        (or_right (not (computes p)) (wanted p)
        (passed (λ k. list_any (λ q. has (set_in_row rows q) k) (g.next p)) (g.writes p) k w
        (passed (λ q. has (set_in_row rows q) k) (g.next p) q n (used_member u)))) c
    used_member {p} {r} (on {q = q} free n u) =
        (closed p).member r
        (or_left ((later p r && not (writes p r)) || past p r) ((not (computes p) || wanted p) && reads p r)
        (or_left (later p r && not (writes p r)) (past p r)
        (and_from (later p r) (not (writes p r)) (passed (λ q. has (set_in_row rows q) r) (g.next p) q n (used_member u))
        (not_from (writes p r) (λ t. free (contains_from (g.writes p) r t))))))
    used_member {p} {r} (aside {q = q} n u) =
        (closed p).member r
        (or_left ((later p r && not (writes p r)) || past p r) ((not (computes p) || wanted p) && reads p r)
        (or_right (later p r && not (writes p r)) (past p r)
        (passed (λ q. has (set_in_row rows q) r) (g.aside p) q n (used_member u))))
