-- Blocks that lie in the heap, and the places of their words in the table.
use Rattle.std.proofs.Common.{◌≡◌, ℕ, ◌+◌, ◌-◌, ◌%◌, ◌<◌, ◌≤◌, ◌⊎◌, inl, inr, Bool, true, false, cond, ◌||◌, ◌==◌, Some, None, refl, ap, arith}
use Rattle.std.specs.Prelude.{IsSome}
use Rattle.std.proofs.lemmas.Bool.{eqb-true, eq-eqb, ne_eqb, leb-true, le-leb, lt-ltb, and_parts, or_cases, and_from, cond-false}
use Rattle.rv_machine.specs.Hart.{Placed}
use Rattle.rv_machine.specs.Marks.{Marks, is_between, mark_at, mark_by, mark_index}
use Rattle.rv_machine.specs.Observation.{young_start}
use Rattle.rv_machine.specs.Placement.{is_in_half, is_in_heap, block_end}
use Rattle.rv_machine.specs.Places.{half_start}

pub record InHeap (heap : ℕ) (b : Placed) : Type 0 where
  pub aligned : b.start % 8 ≡ 0
  pub low : 0x30000008 ≤ b.start
  pub part : (block_end b ≤ 0x30000000 + heap) ⊎ ((0x34000008 ≤ b.start) × (block_end b ≤ 0x34000000 + heap))

pub in_half : (heap k : ℕ) (b : Placed) → is_in_half heap k b ≡ true → (half_start k + 8 ≤ b.start) × (block_end b ≤ half_start k + heap)
in_half heap k b h =
    let p = and_parts _ _ h in
    (leb-true (half_start k + 8) b.start p.0, leb-true (block_end b) (half_start k + heap) p.1)

pub in_heap : (heap : ℕ) (b : Placed) → is_in_heap heap b ≡ true → InHeap heap b
in_heap heap b h =
    let p = and_parts (b.start % 8 == 0) (is_in_half heap 0 b || is_in_half heap 1 b) h in
    by_half (eqb-true (b.start % 8) 0 p.0) (or_cases (is_in_half heap 0 b) (is_in_half heap 1 b) p.1)
  where
    by_half : b.start % 8 ≡ 0 → (is_in_half heap 0 b ≡ true) ⊎ (is_in_half heap 1 b ≡ true) → InHeap heap b
    by_half e (inl t) = let q = in_half heap 0 b t in record { aligned = e; low = omega (arith, q.0); part = inl (omega (arith, q.1)) }
    by_half e (inr t) = let q = in_half heap 1 b t in record { aligned = e; low = omega (arith, q.0); part = inr (omega (arith, q.0), omega (arith, q.1)) }

high_by : (heap : ℕ) (b : Placed) → heap ≤ 67108864 → (block_end b ≤ 0x30000000 + heap) ⊎ ((0x34000008 ≤ b.start) × (block_end b ≤ 0x34000000 + heap)) → block_end b ≤ 0x38000000
high_by heap b m (inl h) = omega arith
high_by heap b m (inr h) = omega (arith, h.1)

pub ends_below : (heap : ℕ) (b : Placed) → heap ≤ 67108864 → is_in_heap heap b ≡ true → block_end b ≤ 0x38000000
ends_below heap b m h = high_by heap b m (in_heap heap b h).part

-- ---- places

some_by :
    (t1 t2 t3 t4 : Bool) (x y z : ℕ) → t1 ≡ true → (t2 ≡ true) ⊎ ((t3 ≡ true) ⊎ (t4 ≡ true)) →
    IsSome (cond t1 (cond t2 (Some x) (cond t3 (Some y) (cond t4 (Some z) None))) None)
some_by false t2 t3 t4 x y z e h = absurd (cc)
some_by true true t3 t4 x y z e h = refl
some_by true false true t4 x y z e h = refl
some_by true false false true x y z e h = refl
some_by true false false false x y z e (inl h) = absurd (cc)
some_by true false false false x y z e (inr (inl h)) = absurd (cc)
some_by true false false false x y z e (inr (inr h)) = absurd (cc)

between : (from bytes a : ℕ) → from ≤ a → a < from + bytes → is_between from bytes a ≡ true
between from bytes a h k = and_from _ _ (le-leb from a h) (lt-ltb a (from + bytes) k)

pub young_place : (heap a : ℕ) → a % 8 ≡ 0 → 0x38000000 ≤ a → a < 0x38010000 → IsSome (mark_index heap a)
young_place heap a e h k =
    some_by (a % 8 == 0) (is_between young_start 65536 a) (is_between (half_start 1) heap a) (is_between (half_start 0) heap a) _ _ _ (eq-eqb (a % 8) 0 e)
    (inl (between young_start 65536 a h (omega arith)))

pub covered_place : (heap : ℕ) (b : Placed) (a : ℕ) → is_in_heap heap b ≡ true → a % 8 ≡ 0 → b.start - 8 ≤ a → a < block_end b → IsSome (mark_index heap a)
covered_place heap b a i e h k =
    let q = in_heap heap b i in
    some_by (a % 8 == 0) (is_between young_start 65536 a) (is_between (half_start 1) heap a) (is_between (half_start 0) heap a) _ _ _ (eq-eqb (a % 8) 0 e) (inr (part q.low q.part))
  where
    part :
        0x30000008 ≤ b.start → (block_end b ≤ 0x30000000 + heap) ⊎ ((0x34000008 ≤ b.start) × (block_end b ≤ 0x34000000 + heap)) →
        (is_between (half_start 1) heap a ≡ true) ⊎ (is_between (half_start 0) heap a ≡ true)
    part l (inl p) = inr (between (half_start 0) heap a (omega arith) (omega arith))
    part l (inr p) = inl (between (half_start 1) heap a (omega (arith, p.0)) (omega (arith, p.1)))

-- no address but a multiple of 8 has a mark
pub unaligned : (t : Marks) (a : ℕ) → (a % 8 ≡ 0 → ⊥) → mark_at t a ≡ 0
unfolding mark_at
unaligned t a h = ap (mark_by t.marks) (cond-false (a % 8 == 0) _ _ (ne_eqb (a % 8) 0 h))
