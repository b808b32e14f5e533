-- Blocks that are apart: those in line, those of the table with the young ones, and those at new places.
use Rattle.std.proofs.Common.{◌≡◌, ℕ, ◌+◌, ◌*◌, ◌%◌, ◌^◌, ◌<◌, ◌≤◌, Bool, true, false, cond, ◌||◌, ◌==◌, nat_le, List, [], ◌∷◌, ◌++◌, reverse, refl, ap, arith, ◌∙◌, sym, subst}
use Rattle.std.specs.List.{AllByRecursion, list_all}
use Rattle.std.proofs.lemmas.Bool.{and_from, and_parts, le-leb, or_left}
use Rattle.std.proofs.lemmas.List.{reverse-append}
use Rattle.std.proofs.lemmas.List.Folds.{list_all-append}
use Rattle.rv_machine.specs.Hart.{Placed}
use Rattle.rv_machine.specs.Moving.{rewritten}
use Rattle.rv_machine.specs.Placement.{are_apart, bytes_of, bytes_used, block_end, is_apart, is_in_heap, is_valid, new_places, packed, placed_at, spaced}
use Rattle.rv_machine.specs.Places.{half_start}
use Rattle.rv_machine.specs.Space.{HasCells, IsHeapBlock}
use Rattle.machine_laws.proofs.Chain.{AreInLine, IsChain}
use Rattle.machine_laws.proofs.InHeap.{ends_below}
use Rattle.machine_laws.proofs.Packing.{packed_inside}

-- ---- lists of blocks

pub all_of : (P Q : Placed → Type 0) → ((b : Placed) → P b → Q b) → (bs : List Placed) → AllByRecursion P bs → AllByRecursion Q bs
all_of P Q f [] all = tt
all_of P Q f (b ∷ bs) all = (f b all.0, all_of P Q f bs all.1)

pub all-append : (P : Placed → Type 0) (as' bs : List Placed) → AllByRecursion P as' → AllByRecursion P bs → AllByRecursion P (as' ++ bs)
all-append P [] bs x y = y
all-append P (a ∷ as') bs x y = (x.0, all-append P as' bs x.1 y)

pub all-reverse : (P : Placed → Type 0) (bs : List Placed) → AllByRecursion P bs → AllByRecursion P (reverse bs)
all-reverse P [] all = tt
all-reverse P (b ∷ bs) all = subst (AllByRecursion P) (sym (reverse-append (b ∷ []) bs)) (all-append P (reverse bs) (b ∷ []) (all-reverse P bs all.1) (all.0, tt))

-- ---- blocks in line

above : (low at : ℕ) (bs : List Placed) → low ≤ at → AreInLine at bs → AllByRecursion (λ b. low + 8 ≤ b.start) bs
above low at [] h line = tt
above low at (b ∷ bs) h line =
    let e : b.start ≡ at + 8 = line.0 in
    (omega (arith, e, h), above low (at + bytes_of b) bs (omega (arith, h)) line.1)

apart_above : (b : Placed) (bs : List Placed) → AllByRecursion (λ c. block_end b + 8 ≤ c.start) bs → list_all (is_apart b) bs ≡ true
apart_above b [] all = refl
apart_above b (c ∷ bs) all = and_from _ _ (or_left _ _ (le-leb (block_end b + 8) c.start all.0)) (apart_above b bs all.1)

line_apart : (at : ℕ) (bs : List Placed) → AreInLine at bs → are_apart bs ≡ true
line_apart at [] line = refl
line_apart at (b ∷ bs) line =
    let e : b.start ≡ at + 8 = line.0 in
    and_from _ _ (apart_above b bs (above (block_end b) (at + bytes_of b) bs (omega (arith, e)) line.1)) (line_apart (at + bytes_of b) bs line.1)

packed_line : (at : ℕ) (bs : List Placed) → AreInLine at (placed_at bs (spaced 0 at bs))
packed_line at [] = tt
packed_line at (b ∷ bs) =
    let start : at + 0 + 8 ≡ at + 8 = omega arith in
    let next : at + 0 + (8 + 8 * b.words) ≡ at + (8 + 8 * b.words) = omega arith in
    (start, subst (λ n. AreInLine n (placed_at bs (spaced 0 (at + 0 + (8 + 8 * b.words)) bs))) next (packed_line (at + 0 + (8 + 8 * b.words)) bs))

-- ---- two lists, and the other way round

turned : (x y : Bool) → (x || y) ≡ true → (y || x) ≡ true
turned true true e = refl
turned true false e = refl
turned false true e = refl
turned false false e = e

apart-append :
    (as' bs : List Placed) → are_apart as' ≡ true → are_apart bs ≡ true → AllByRecursion (λ a. list_all (is_apart a) bs ≡ true) as' →
    are_apart (as' ++ bs) ≡ true
apart-append [] bs x y all = y
apart-append (a ∷ as') bs x y all =
    let p = and_parts (list_all (is_apart a) as') (are_apart as') x in
    and_from _ _ (list_all-append (is_apart a) as' bs ∙ and_from _ _ p.0 all.0) (apart-append as' bs p.1 y all.1)

all_turned : (p : Placed → Bool) (bs : List Placed) → list_all p bs ≡ true → list_all p (reverse bs) ≡ true
all_turned p [] h = refl
all_turned p (b ∷ bs) h =
    let q = and_parts (p b) (list_all p bs) h in
    ap (list_all p) (reverse-append (b ∷ []) bs) ∙ list_all-append p (reverse bs) (b ∷ [])
    ∙ and_from _ _ (all_turned p bs q.1) (and_from (p b) true q.0 refl)

each_turned : (b : Placed) (bs : List Placed) → list_all (is_apart b) bs ≡ true → AllByRecursion (λ c. list_all (is_apart c) (b ∷ []) ≡ true) bs
each_turned b [] h = tt
each_turned b (c ∷ bs) h =
    let q = and_parts (is_apart b c) (list_all (is_apart b) bs) h in
    (and_from (is_apart c b) true (turned (nat_le (block_end b + 8) c.start) (nat_le (block_end c + 8) b.start) q.0) refl, each_turned b bs q.1)

apart-reverse : (bs : List Placed) → are_apart bs ≡ true → are_apart (reverse bs) ≡ true
apart-reverse [] h = refl
apart-reverse (b ∷ bs) h =
    let p = and_parts (list_all (is_apart b) bs) (are_apart bs) h in
    ap are_apart (reverse-append (b ∷ []) bs)
    ∙ apart-append (reverse bs) (b ∷ []) (apart-reverse bs p.1) refl (each_turned b (reverse bs) (all_turned (is_apart b) bs p.0))

-- ---- the table with the young blocks

pub taken_apart :
    (heap from : ℕ) (old young : List Placed) → heap ≤ 67108864 → AllByRecursion (IsHeapBlock heap) old → are_apart old ≡ true → IsChain from young →
    are_apart (old ++ reverse young) ≡ true
taken_apart heap from old young most kept apart chain =
    apart-append old (reverse young) apart (apart-reverse young (line_apart from young chain.line)) (each old kept)
  where
    each : (os : List Placed) → AllByRecursion (IsHeapBlock heap) os → AllByRecursion (λ o. list_all (is_apart o) (reverse young) ≡ true) os
    each [] kept = tt
    each (o ∷ os) kept =
        let low = chain.low in
        let ends = ends_below heap o most kept.0.inside in
        (all_turned (is_apart o) young (apart_above o young (above (block_end o) from young (omega (arith, low, ends)) chain.line)), each os kept.1)

-- ---- new places

pub new_bytes : (bs : List Placed) (ss : List ℕ) → bytes_used (placed_at bs ss) ≡ bytes_used bs
new_bytes [] ss = refl
new_bytes (b ∷ bs) [] = refl
new_bytes (b ∷ bs) (s ∷ ss) = ap (λ n. 8 + 8 * b.words + n) (new_bytes bs ss)

new_cells : (bs : List Placed) (ss : List ℕ) → AllByRecursion HasCells bs → AllByRecursion HasCells (placed_at bs ss)
new_cells [] ss all = tt
new_cells (b ∷ bs) [] all = all
new_cells (b ∷ bs) (s ∷ ss) all = (all.0, new_cells bs ss all.1)

each_kept : (heap : ℕ) (bs : List Placed) → AllByRecursion HasCells bs → list_all (is_in_heap heap) bs ≡ true → AllByRecursion (IsHeapBlock heap) bs
each_kept heap [] all h = tt
each_kept heap (b ∷ bs) all h =
    let p = and_parts (is_in_heap heap b) (list_all (is_in_heap heap) bs) h in
    (record { some = all.0; inside = p.0 }, each_kept heap bs all.1 p.1)

pub new_kept :
    (heap : ℕ) (bs : List Placed) (ss : List ℕ) → AllByRecursion HasCells bs → list_all (is_in_heap heap) (placed_at bs ss) ≡ true →
    AllByRecursion (IsHeapBlock heap) (placed_at bs ss)
new_kept heap bs ss all h = each_kept heap (placed_at bs ss) (new_cells bs ss all) h

-- where a service puts the blocks, whatever the plan
pub record ArePlacedAnew (heap : ℕ) (bs news : List Placed) : Type 0 where
  pub kept : AllByRecursion (IsHeapBlock heap) news
  pub bytes : bytes_used news ≡ bytes_used bs
  pub apart : are_apart news ≡ true

pub placed_anew :
    (heap number : ℕ) (bs : List Placed) (plan : List ℕ) → AllByRecursion HasCells bs → bytes_used bs ≤ heap →
    ArePlacedAnew heap bs (new_places heap number bs plan)
placed_anew heap number bs plan all fits = by_test (is_valid heap bs plan) refl
  where
    by_test : (t : Bool) → is_valid heap bs plan ≡ t → ArePlacedAnew heap bs (placed_at bs (cond t plan (packed number bs)))
    by_test true e =
        let p = and_parts _ _ e in
        let q = and_parts _ _ p.0 in
        record { kept = new_kept heap bs plan all q.1; bytes = new_bytes bs plan; apart = p.1 }
    by_test false e =
        let from = half_start (number % 2) in
        record {
          kept = new_kept heap bs (packed number bs) all (packed_inside heap (number % 2) from bs (omega arith) refl fits);
          bytes = new_bytes bs (packed number bs);
          apart = line_apart from (placed_at bs (packed number bs)) (packed_line from bs);
        }

-- what a word becomes is a word
pub rewritten_word :
    (heap : ℕ) (os ns : List Placed) (w : ℕ) → heap ≤ 67108864 → AllByRecursion (IsHeapBlock heap) ns → w < 2 ^ 64 →
    rewritten os ns w < 2 ^ 64
rewritten_word heap [] ns w most all small = small
rewritten_word heap (o ∷ os) [] w most all small = small
rewritten_word heap (o ∷ os) (n ∷ ns) w most all small = by_test (w == o.start) (rewritten_word heap os ns w most all.1 small)
  where
    by_test : (t : Bool) → rewritten os ns w < 2 ^ 64 → cond t n.start (rewritten os ns w) < 2 ^ 64
    by_test true later = let ends = ends_below heap n most all.0.inside in omega (arith, ends)
    by_test false later = later
