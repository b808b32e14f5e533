-- A plan, valid or not, gives blocks of the same sizes that lie apart in the halves.
use Rattle.std.proofs.Common.{◌≡◌, ℕ, zero, suc, ◌+◌, ◌-◌, ◌*◌, ◌%◌, ◌<◌, ◌≤◌, ◌⊎◌, inl, inr, Bool, true, false, cond, ◌&&◌, ◌||◌, ◌==◌, nat_le, List, [], ◌∷◌, length, refl, ap, arith, ⊎_elim}
use Rattle.std.specs.List.{list_all, AllByRecursion}
use Rattle.std.proofs.lemmas.Bool.{eqb-true, leb-true, and_parts, or_cases}
use Rattle.rv_machine.specs.Hart.{Placed}
use Rattle.rv_machine.specs.Memory.{Region}
use Rattle.rv_machine.specs.Placement.{bytes_used, block_end, is_in_half, is_in_heap, is_apart, are_apart, is_valid, packed, placed_at, spaced, new_places}
use Rattle.rv_machine.specs.Places.{half_start}
use Rattle.machine_laws.proofs.InHeap.{in_half}
use Rattle.moving_laws.specs.Words.{IsReadable}
use Rattle.moving_laws.specs.Values.{start_of, cells_of_block}
use Rattle.moving_laws.specs.Heap.{IsInHeap, AreApart, AllApart, SameSizes}

-- a block lies in a half of so many bytes
pub record IsInHalf (heap : ℕ) (b : Placed) : Type 0 where
  pub aligned : b.start % 8 ≡ 0
  pub half : ((0x30000008 ≤ b.start) × (block_end b ≤ 0x30000000 + heap)) ⊎ ((0x34000008 ≤ b.start) × (block_end b ≤ 0x34000000 + heap))

half_is : (heap : ℕ) (b : Placed) → is_in_heap heap b ≡ true → IsInHalf heap b
half_is heap b h =
    let p = and_parts (b.start % 8 == 0) (is_in_half heap 0 b || is_in_half heap 1 b) h in
    record {
      aligned = eqb-true (b.start % 8) 0 p.0;
      half = ⊎_elim (λ t. inl (in_half heap 0 b t)) (λ t. inr (in_half heap 1 b t)) (or_cases (is_in_half heap 0 b) (is_in_half heap 1 b) p.1);
    }

halves_are : (heap : ℕ) (bs : List Placed) → list_all (is_in_heap heap) bs ≡ true → AllByRecursion (IsInHalf heap) bs
halves_are heap [] h = tt
halves_are heap (b ∷ bs) h =
    let p = and_parts (is_in_heap heap b) (list_all (is_in_heap heap) bs) h in
    (half_is heap b p.0, halves_are heap bs p.1)

far_is : (b : Placed) (bs : List Placed) → list_all (is_apart b) bs ≡ true → AllByRecursion (AreApart b) bs
far_is b [] h = tt
far_is b (c ∷ cs) h =
    let p = and_parts (is_apart b c) (list_all (is_apart b) cs) h in (
      ⊎_elim (λ t. inl (leb-true (block_end b + 8) c.start t)) (λ t. inr (leb-true (block_end c + 8) b.start t))
          (or_cases (nat_le (block_end b + 8) c.start) (nat_le (block_end c + 8) b.start) p.0),
      far_is b cs p.1,
    )

apart_are : (bs : List Placed) → are_apart bs ≡ true → AllApart bs
apart_are [] h = tt
apart_are (b ∷ bs) h = let p = and_parts (list_all (is_apart b) bs) (are_apart bs) h in (far_is b bs p.0, apart_are bs p.1)

placed_sizes : (bs : List Placed) (starts : List ℕ) → SameSizes bs (placed_at bs starts)
placed_sizes [] starts = tt
placed_sizes (b ∷ bs) [] = (refl, same bs) where
  same : (bs : List Placed) → SameSizes bs bs
  same [] = tt
  same (b ∷ bs) = (refl, same bs)
placed_sizes (b ∷ bs) (s ∷ starts) = (refl, placed_sizes bs starts)

packed_far : (c : Placed) (at : ℕ) (bs : List Placed) → block_end c ≤ at → AllByRecursion (AreApart c) (placed_at bs (spaced 0 at bs))
packed_far c at [] l = tt
packed_far c at (b ∷ bs) l = (inl (omega (arith, l)), packed_far c (at + 0 + (8 + 8 * b.words)) bs (omega (arith, l)))

packed_apart : (at : ℕ) (bs : List Placed) → AllApart (placed_at bs (spaced 0 at bs))
packed_apart at [] = tt
packed_apart at (b ∷ bs) = (
  packed_far (record { start = at + 0 + 8; words = b.words })
      (at + 0 + (8 + 8 * b.words)) bs (omega arith),
  packed_apart (at + 0 + (8 + 8 * b.words)) bs,
)

module _ (heap from : ℕ) (which : (from ≡ 0x30000000) ⊎ (from ≡ 0x34000000)) where
  packed_inside : (bs : List Placed) (at : ℕ) → at % 8 ≡ 0 → from ≤ at → at + bytes_used bs ≤ from + heap → AllByRecursion (IsInHalf heap)
      (placed_at bs (spaced 0 at bs))
  packed_inside [] at a l e = tt
  packed_inside (b ∷ bs) at a l e = (
    record {
      aligned = omega (arith, a);
      half = ⊎_elim (λ f. inl (omega (arith, f, l), omega (arith, f, e))) (λ f. inr (omega (arith, f, l), omega (arith, f, e))) which;
    },
    packed_inside bs (at + 0 + (8 + 8 * b.words)) (omega (arith, a)) (omega (arith, l)) (omega (arith, e)),
  )

-- what new places promise
pub record AreFresh (heap : ℕ) (olds news : List Placed) : Type 0 where
  pub sizes : SameSizes olds news
  pub apart : AllApart news
  pub halves : AllByRecursion (IsInHalf heap) news

half_of : (number : ℕ) → (half_start (number % 2) ≡ 0x30000000) ⊎ (half_start (number % 2) ≡ 0x34000000)
half_of number = by (number % 2) refl where
  by : (n : ℕ) → number % 2 ≡ n → (half_start n ≡ 0x30000000) ⊎ (half_start n ≡ 0x34000000)
  by zero h = inl refl
  by (suc zero) h = inr refl
  by (suc (suc n)) h = absurd (omega (arith, h))

packs : (heap number : ℕ) (olds : List Placed) → bytes_used olds ≤ heap → AreFresh heap olds (placed_at olds (packed number olds))
packs heap number olds l = record {
  sizes = placed_sizes olds (packed number olds);
  apart = packed_apart (half_start (number % 2)) olds;
  halves =
      let w = half_of number in
      packed_inside heap (half_start (number % 2)) w olds (half_start (number % 2))
      (⊎_elim (λ e. ap (λ x. x % 8) e) (λ e. ap (λ x. x % 8) e) w) (omega arith) (omega (arith, l));
}

plans : (heap : ℕ) (olds : List Placed) (plan : List ℕ) → is_valid heap olds plan ≡ true → AreFresh heap olds (placed_at olds plan)
plans heap olds plan v =
    let p = and_parts ((length plan == length olds) && list_all (is_in_heap heap) (placed_at olds plan)) (are_apart (placed_at olds plan)) v in
    let q = and_parts (length plan == length olds) (list_all (is_in_heap heap) (placed_at olds plan)) p.0 in
    record { sizes = placed_sizes olds plan; apart = apart_are (placed_at olds plan) p.1; halves = halves_are heap (placed_at olds plan) q.1 }

-- any plan, valid or not
pub fresh : (heap number : ℕ) (olds : List Placed) (plan : List ℕ) → bytes_used olds ≤ heap → AreFresh heap olds (new_places heap number olds plan)
fresh heap number olds plan l = by_test (is_valid heap olds plan) refl where
  by_test : (t : Bool) → is_valid heap olds plan ≡ t → AreFresh heap olds (placed_at olds (cond t plan (packed number olds)))
  by_test true v = plans heap olds plan v
  by_test false v = packs heap number olds l

pub halves_inside : (heap : ℕ) (bs : List Placed) → heap ≤ 0x4000000 → AllByRecursion (IsInHalf heap) bs → AllByRecursion IsInHeap bs
halves_inside heap [] l h = tt
halves_inside heap (b ∷ bs) l h = (
  ⊎_elim
      (λ i. let i0 = i.0 in let i1 = i.1 in record { aligned = h.0.aligned; low = omega (arith, i0); high = omega (arith, i1, l) })
      (λ i. let i0 = i.0 in let i1 = i.1 in record { aligned = h.0.aligned; low = omega (arith, i0); high = omega (arith, i1, l) })
      h.0.half,
  halves_inside heap bs l h.1,
)

pub readable_at : (m : List Region) (bs : List Placed) → AllByRecursion (λ b. (x : ℕ) → x % 8 ≡ 0 → b.start - 8 ≤ x → x < block_end b → IsReadable m x) bs →
    (k x : ℕ) → k < length bs → x % 8 ≡ 0 → start_of bs k - 8 ≤ x → x < start_of bs k + 8 * cells_of_block bs k → IsReadable m x
readable_at m [] r k x l e lo hi = absurd (omega (arith, l))
readable_at m (b ∷ bs) r zero x l e lo hi = r.0 x e lo hi
readable_at m (b ∷ bs) r (suc k) x l e lo hi = readable_at m bs r.1 k x (omega (arith, l)) e lo hi

pub halves_low : (heap : ℕ) (bs : List Placed) → heap ≤ 0x4000000 → AllByRecursion (IsInHalf heap) bs →
    AllByRecursion (λ (b : Placed). block_end b ≤ 0x38000000) bs
halves_low heap [] l h = tt
halves_low heap (b ∷ bs) l h = (
  ⊎_elim (λ i. let i1 = i.1 in omega (arith, i1, l))
      (λ i. let i1 = i.1 in omega (arith, i1, l)) h.0.half,
  halves_low heap bs l h.1,
)

-- every word of both halves can be read
pub record AreHalvesReadable (heap : ℕ) (m : List Region) : Type 0 where
  pub first : (x : ℕ) → x % 8 ≡ 0 → 0x30000000 ≤ x → x + 8 ≤ 0x30000000 + heap → IsReadable m x
  pub second : (x : ℕ) → x % 8 ≡ 0 → 0x34000000 ≤ x → x + 8 ≤ 0x34000000 + heap → IsReadable m x

pub halves_readable : (heap : ℕ) (m : List Region) (bs : List Placed) → AreHalvesReadable heap m → heap % 8 ≡ 0 → AllByRecursion (IsInHalf heap) bs →
    AllByRecursion (λ b. (x : ℕ) → x % 8 ≡ 0 → b.start - 8 ≤ x → x < block_end b → IsReadable m x) bs
halves_readable heap m [] r e h = tt
halves_readable heap m (b ∷ bs) r e h =
    let al = h.0.aligned in (
      λ x e8 lo hi. ⊎_elim
          (λ i. let i0 = i.0 in let i1 = i.1 in r.first x e8 (omega (arith, i0, lo)) (omega (arith, i1, hi, al, e8)))
          (λ i. let i0 = i.0 in let i1 = i.1 in r.second x e8 (omega (arith, i0, lo)) (omega (arith, i1, hi, al, e8)))
          h.0.half,
      halves_readable heap m bs r e h.1,
    )
