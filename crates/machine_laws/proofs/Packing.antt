-- Packed blocks lie in their half.
use Rattle.std.proofs.Common.{◌≡◌, ℕ, zero, suc, ◌+◌, ◌*◌, ◌%◌, ◌<◌, ◌≤◌, true, List, [], ◌∷◌, length, refl, ap, arith}
use Rattle.std.specs.List.{list_all}
use Rattle.std.proofs.lemmas.Bool.{eqb-true, eq-eqb, le-leb, and_parts, and_from, or_left, or_right}
use Rattle.rv_machine.specs.Hart.{Placed}
use Rattle.rv_machine.specs.Placement.{bytes_used, is_in_half, is_in_heap, is_valid, placed_at, spaced}
use Rattle.rv_machine.specs.Places.{half_start}

pub length-spaced : (gap : ℕ) (bs : List Placed) (at : ℕ) → length (spaced gap at bs) ≡ length bs
length-spaced gap [] at = refl
length-spaced gap (b ∷ bs) at = ap (λ n. suc n) (length-spaced gap bs (at + gap + (8 + 8 * b.words)))

module _ (heap half : ℕ) (low : half ≡ 0x30000000) where
  lower_inside : (bs : List Placed) (at : ℕ) → at % 8 ≡ 0 → half ≤ at → at + bytes_used bs ≤ half + heap → list_all (is_in_heap heap) (placed_at bs (spaced 0 at bs)) ≡ true
  lower_inside [] at a l e = refl
  lower_inside (b ∷ bs) at a l e =
      and_from _ _
      (and_from _ _ (eq-eqb ((at + 0 + 8) % 8) 0 (omega arith))
      (or_left (is_in_half heap 0 (record b { start = at + 0 + 8 })) (is_in_half heap 1 (record b { start = at + 0 + 8 }))
      (and_from _ _ (le-leb (half_start 0 + 8) (at + 0 + 8) (omega (arith, low))) (le-leb (at + 0 + 8 + 8 * b.words) (half_start 0 + heap) (omega (arith, low))))))
      (lower_inside bs (at + 0 + (8 + 8 * b.words)) (omega arith) (omega arith) (omega arith))

module _ (heap half : ℕ) (high : half ≡ 0x34000000) where
  upper_inside : (bs : List Placed) (at : ℕ) → at % 8 ≡ 0 → half ≤ at → at + bytes_used bs ≤ half + heap → list_all (is_in_heap heap) (placed_at bs (spaced 0 at bs)) ≡ true
  upper_inside [] at a l e = refl
  upper_inside (b ∷ bs) at a l e =
      and_from _ _
      (and_from _ _ (eq-eqb ((at + 0 + 8) % 8) 0 (omega arith))
      (or_right (is_in_half heap 0 (record b { start = at + 0 + 8 })) (is_in_half heap 1 (record b { start = at + 0 + 8 }))
      (and_from _ _ (le-leb (half_start 1 + 8) (at + 0 + 8) (omega (arith, high))) (le-leb (at + 0 + 8 + 8 * b.words) (half_start 1 + heap) (omega (arith, high))))))
      (upper_inside bs (at + 0 + (8 + 8 * b.words)) (omega arith) (omega arith) (omega arith))

pub packed_inside :
    (heap half from : ℕ) (bs : List Placed) → half < 2 → from ≡ 0x30000000 + 0x04000000 * half → bytes_used bs ≤ heap →
    list_all (is_in_heap heap) (placed_at bs (spaced 0 from bs)) ≡ true
packed_inside heap zero from bs h e b = let low : from ≡ 0x30000000 = omega arith in lower_inside heap from low bs from (omega (arith, low)) (omega arith) (omega arith)
packed_inside heap (suc zero) from bs h e b = let high : from ≡ 0x34000000 = omega arith in upper_inside heap from high bs from (omega (arith, high)) (omega arith) (omega arith)
packed_inside heap (suc (suc n)) from bs h e b = absurd (omega arith)

-- a valid plan has a start for each block, and puts each into the heap
pub record IsGood (heap : ℕ) (bs : List Placed) (starts : List ℕ) : Type 0 where
  pub lengths : length starts ≡ length bs
  pub inside : list_all (is_in_heap heap) (placed_at bs starts) ≡ true

pub valid_good : (heap : ℕ) (bs : List Placed) (starts : List ℕ) → is_valid heap bs starts ≡ true → IsGood heap bs starts
valid_good heap bs starts v =
    let p = and_parts _ _ v in
    let q = and_parts _ _ p.0 in
    record { lengths = eqb-true (length starts) (length bs) q.0; inside = q.1 }
