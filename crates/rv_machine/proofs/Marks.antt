-- The table of marks: two addresses have two places.
use Rattle.std.proofs.Common.{◌≡◌, ℕ, ◌+◌, ◌-◌, ◌/◌, ◌%◌, ◌<◌, ◌≤◌, ◌≢◌, ◌⊎◌, inl, inr, Bool, true, false, cond, ◌==◌, List, length, Option, Some, None, slice_set, refl, ap, ◌∙◌, arith, eq-eqb, get_or-set_other, get_or-set_same}
use Rattle.std.proofs.lemmas.Bool.{eqb-true}
use Rattle.std.proofs.lemmas.Bool.Decides.{nat_tests}
use Rattle.rv_machine.specs.Marks.{is_between, mark_at, mark_by, mark_index}
use Rattle.rv_machine.specs.Observation.{young_start}
use Rattle.rv_machine.specs.Places.{half_start}

picked :
    (t1 t2 t3 t4 : Bool) (x y z i : ℕ) →
    cond t1 (cond t2 (Some x) (cond t3 (Some y) (cond t4 (Some z) None))) None ≡ Some i →
    (t1 ≡ true) × (((t2 ≡ true) × (x ≡ i)) ⊎ (((t3 ≡ true) × (y ≡ i)) ⊎ ((t4 ≡ true) × (z ≡ i))))
picked false t2 t3 t4 x y z i e = absurd (cc)
picked true true t3 t4 x y z i e = (refl, inl (refl, cc))
picked true false true t4 x y z i e = (refl, inr (inl (refl, cc)))
picked true false false true x y z i e = (refl, inr (inr (refl, cc)))
picked true false false false x y z i e = absurd (cc)

-- which part of the table an address has its place in
abbrev pub InPart : ℕ → ℕ → ℕ → Type 0
InPart heap a i =
    (0x38000000 ≤ a × a < 0x38010000 × ((a - 0x38000000) / 8 ≡ i))
    ⊎ ((0x34000000 ≤ a × a < 0x34000000 + heap × (8192 + (a - 0x34000000) / 8 ≡ i))
    ⊎ (0x30000000 ≤ a × a < 0x30000000 + heap × (8192 + heap / 8 + (a - 0x30000000) / 8 ≡ i)))

between : (from bytes a : ℕ) → is_between from bytes a ≡ true → (from ≤ a) × (a < from + bytes)
between from bytes a h = (grind (arith, nat_tests), grind (arith, nat_tests))

pub place_parts : (heap a i : ℕ) → mark_index heap a ≡ Some i → (a % 8 ≡ 0) × InPart heap a i
place_parts heap a i e =
    let p = picked (a % 8 == 0) (is_between young_start 65536 a) (is_between (half_start 1) heap a) (is_between (half_start 0) heap a) _ _ _ i e in
    (eqb-true (a % 8) 0 p.0, parts p.1)
  where
    parts :
        (((is_between young_start 65536 a ≡ true) × ((a - young_start) / 8 ≡ i))
        ⊎ (((is_between (half_start 1) heap a ≡ true) × (8192 + (a - half_start 1) / 8 ≡ i))
        ⊎ ((is_between (half_start 0) heap a ≡ true) × (8192 + heap / 8 + (a - half_start 0) / 8 ≡ i)))) →
        InPart heap a i
    parts (inl h) = let b = between young_start 65536 a h.0 in inl (b.0, b.1, h.1)
    parts (inr (inl h)) = let b = between (half_start 1) heap a h.0 in inr (inl (b.0, b.1, h.1))
    parts (inr (inr h)) = let b = between (half_start 0) heap a h.0 in inr (inr (b.0, b.1, h.1))

same_by :
    (heap a b i : ℕ) → heap % 16 ≡ 0 → heap ≤ 67108864 → a % 8 ≡ 0 → b % 8 ≡ 0 → InPart heap a i → InPart heap b i → a ≡ b
same_by heap a b i h m x y (inl p) (inl q) = omega arith
same_by heap a b i h m x y (inl p) (inr (inl q)) = absurd (omega arith)
same_by heap a b i h m x y (inl p) (inr (inr q)) = absurd (omega arith)
same_by heap a b i h m x y (inr (inl p)) (inl q) = absurd (omega arith)
same_by heap a b i h m x y (inr (inl p)) (inr (inl q)) = omega arith
same_by heap a b i h m x y (inr (inl p)) (inr (inr q)) = absurd (omega arith)
same_by heap a b i h m x y (inr (inr p)) (inl q) = absurd (omega arith)
same_by heap a b i h m x y (inr (inr p)) (inr (inl q)) = absurd (omega arith)
same_by heap a b i h m x y (inr (inr p)) (inr (inr q)) = omega arith

pub same_place :
    (heap a b i : ℕ) → heap % 16 ≡ 0 → heap ≤ 67108864 → mark_index heap a ≡ Some i → mark_index heap b ≡ Some i → a ≡ b
same_place heap a b i h m e k =
    let p = place_parts heap a i e in
    let q = place_parts heap b i k in
    same_by heap a b i h m p.0 q.0 p.1 q.1

-- ---- what the table has once a place is set

set_by :
    (marks : List ℕ) (i v : ℕ) (o : Option ℕ) → o ≢ Some i → mark_by (slice_set marks i v) o ≡ mark_by marks o
set_by marks i v None h = refl
set_by marks i v (Some j) h = get_or-set_other marks i j v 0 (λ e. h (ap Some e))

set_one :
    (heap i v a other : ℕ) (marks : List ℕ) (t : Bool) → heap % 16 ≡ 0 → heap ≤ 67108864 → i < length marks → mark_index heap a ≡ Some i →
    (other == a) ≡ t →
    mark_by (slice_set marks i v) (mark_index heap other) ≡ cond t v (mark_by marks (mark_index heap other))
set_one heap i v a other marks true h m l e k =
    ap (λ n. mark_by (slice_set marks i v) (mark_index heap n)) (eqb-true other a k)
    ∙ ap (mark_by (slice_set marks i v)) e ∙ get_or-set_same marks i v 0 l
set_one heap i v a other marks false h m l e k =
    set_by marks i v (mark_index heap other) (λ s. not_both (same_place heap other a i h m s e) k)
  where
    not_both : other ≡ a → (other == a) ≡ false → ⊥
    not_both s f = let t = eq-eqb other a s in cc

pub marked :
    (heap i v a other : ℕ) (marks : List ℕ) → heap % 16 ≡ 0 → heap ≤ 67108864 → i < length marks → mark_index heap a ≡ Some i →
    mark_at (record { heap = heap; marks = slice_set marks i v }) other
    ≡ cond (other == a) v (mark_at (record { heap = heap; marks = marks }) other)
unfolding mark_at
marked heap i v a other marks h m l e = set_one heap i v a other marks (other == a) h m l e refl
