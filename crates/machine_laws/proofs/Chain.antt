-- The chain of young blocks, and blocks that lie one after the other.
use Rattle.std.proofs.Common.{◌≡◌, ℕ, zero, suc, ◌+◌, ◌-◌, ◌*◌, ◌/◌, ◌%◌, ◌<◌, ◌≤◌, Bool, true, false, cond, ◌&&◌, ◌==◌, nat_le, List, [], ◌∷◌, ◌++◌, reverse, length, Option, Some, None, option_map, refl, ap, arith, ◌∙◌, sym, subst, append_assoc}
use Rattle.std.specs.Option.{option_and_then}
use Rattle.std.specs.List.{AllByRecursion}
use Rattle.std.proofs.lemmas.Bool.{eqb-true, and_parts, leb-true}
use Rattle.std.proofs.lemmas.List.{reverse-append}
use Rattle.rv_machine.specs.Hart.{Placed}
use Rattle.rv_machine.specs.Memory.{Region, read}
use Rattle.rv_machine.specs.Observation.{block_then, blocks_from, cells_of_header, young_blocks, young_start, young_top}
use Rattle.rv_machine.specs.Placement.{bytes_of, bytes_used}
use Rattle.rv_machine.specs.Space.{HasCells}

pub one_more : (young : List Placed) (b : Placed) (o : Option (List Placed)) →
    option_map (λ bs. young ++ bs) (option_map (λ bs. b ∷ bs) o) ≡ option_map (λ bs. (young ++ b ∷ []) ++ bs) o
one_more young b None = refl
one_more young b (Some bs) = ap Some (sym (append_assoc young (b ∷ []) bs))

-- what a block of the chain is
pub record IsYoung (b : Placed) : Type 0 where
  pub aligned : b.start % 8 ≡ 0
  pub low : 0x38000000 ≤ b.start
  pub high : b.start < 0x38010000
  pub some : 1 ≤ b.words
  pub most : b.words ≤ 256

-- blocks that lie one after the other from an address on
abbrev pub AreInLine : ℕ → List Placed → Type 0
AreInLine at [] = Unit {0}
AreInLine at (b ∷ bs) = (b.start ≡ at + 8) × AreInLine (at + bytes_of b) bs

pub record IsChain (at : ℕ) (bs : List Placed) : Type 0 where
  pub low : 0x38000000 ≤ at
  pub each : AllByRecursion IsYoung bs
  pub line : AreInLine at bs
  pub bytes : at + bytes_used bs ≡ young_top

chain_then :
    (most : ℕ) (m : List Region) (at header : ℕ) (o : Option (List Placed)) (bs : List Placed) → at % 8 ≡ 0 → 0x38000000 ≤ at →
    ((cs : List Placed) → o ≡ Some cs → IsChain (at + 8 + 8 * cells_of_header header) cs) →
    block_then (cells_of_header header) at o ≡ Some bs → IsChain at bs
chain_then most m at header o bs a l later e = by_test (nat_le 1 (cells_of_header header) && nat_le (cells_of_header header) 256) refl o later e
  where
    by_test :
        (t : Bool) → (nat_le 1 (cells_of_header header) && nat_le (cells_of_header header) 256) ≡ t → (o : Option (List Placed)) →
        ((cs : List Placed) → o ≡ Some cs → IsChain (at + 8 + 8 * cells_of_header header) cs) →
        cond t (option_map (λ cs. record { start = at + 8; words = cells_of_header header } ∷ cs) o) None ≡ Some bs → IsChain at bs
    by_test false t o later e = absurd (cc)
    by_test true t None later e = absurd (cc)
    by_test true t (Some cs) later e =
        let b : Placed = record { start = at + 8; words = cells_of_header header } in
        let same : b ∷ cs ≡ bs = cc in
        let p = and_parts _ _ t in
        let some : 1 ≤ cells_of_header header = leb-true 1 (cells_of_header header) p.0 in
        let most' : cells_of_header header ≤ 256 = leb-true (cells_of_header header) 256 p.1 in
        let rest = later cs refl in
        let total : at + 8 + 8 * cells_of_header header + bytes_used cs ≡ 0x38010000 = rest.bytes in
        subst (IsChain at) same (record {
          low = l;
          each = (record { aligned = omega arith; low = omega arith; high = omega (arith, some, total); some = some; most = most' }, rest.each);
          line = (refl, (let next : at + 8 + 8 * cells_of_header header ≡ at + (8 + 8 * cells_of_header header) = omega arith in subst (λ n. AreInLine n cs) next rest.line));
          bytes = omega (arith, total);
        })

pub chain : (most : ℕ) (m : List Region) (at : ℕ) (bs : List Placed) → at % 8 ≡ 0 → 0x38000000 ≤ at → blocks_from most m at ≡ Some bs → IsChain at bs
chain zero m at bs a l e = absurd (cc)
chain (suc most) m at bs a l e = by_test (at == young_top) refl (read m at 8) e (λ header cs h. chain most m (at + 8 + 8 * cells_of_header header) cs (omega arith) (omega arith) h)
  where
    by_test :
        (t : Bool) → (at == young_top) ≡ t → (o : Option ℕ) →
        cond t (Some []) (option_and_then (λ header. block_then (cells_of_header header) at (blocks_from most m (at + 8 + 8 * cells_of_header header))) o) ≡ Some bs →
        ((header : ℕ) (cs : List Placed) → blocks_from most m (at + 8 + 8 * cells_of_header header) ≡ Some cs → IsChain (at + 8 + 8 * cells_of_header header) cs) →
        IsChain at bs
    by_test true t o e later =
        let same : [] ≡ bs = cc in
        let top : at ≡ 0x38010000 = eqb-true at young_top t in
        subst (IsChain at) same (record { low = l; each = tt; line = tt; bytes = omega (arith, top) })
    by_test false t None e later = absurd (cc)
    by_test false t (Some header) e later = chain_then most m at header (blocks_from most m (at + 8 + 8 * cells_of_header header)) bs a l (later header) e

-- the young blocks from an address on
pub young_chain : (m : List Region) (from : ℕ) (bs : List Placed) → young_blocks m from ≡ Some bs → IsChain from bs
young_chain m from bs e = by_test ((from % 8 == 0) && nat_le young_start from && nat_le from young_top) refl e
  where
    by_test :
        (t : Bool) → ((from % 8 == 0) && nat_le young_start from && nat_le from young_top) ≡ t →
        cond t (blocks_from (suc ((young_top - from) / 16)) m from) None ≡ Some bs → IsChain from bs
    by_test false t e = absurd (cc)
    by_test true t e =
        let p = and_parts _ _ t in
        let q = and_parts _ _ p.0 in
        chain (suc ((young_top - from) / 16)) m from bs (eqb-true (from % 8) 0 q.0) (leb-true young_start from q.1) e

-- ---- bytes

pub bytes-append : (as' bs : List Placed) → bytes_used (as' ++ bs) ≡ bytes_used as' + bytes_used bs
bytes-append [] bs = omega arith
bytes-append (a ∷ as') bs = omega (arith, bytes-append as' bs)

pub bytes-reverse : (bs : List Placed) → bytes_used (reverse bs) ≡ bytes_used bs
bytes-reverse [] = refl
bytes-reverse (b ∷ bs) =
    let n : bytes_used (reverse bs) + (bytes_of b + 0) ≡ bytes_of b + bytes_used bs = omega (arith, bytes-reverse bs) in
    ap bytes_used (reverse-append (b ∷ []) bs) ∙ bytes-append (reverse bs) (b ∷ []) ∙ n

pub count_bound : (bs : List Placed) → AllByRecursion HasCells bs → 16 * length bs ≤ bytes_used bs
count_bound [] all = omega arith
count_bound (b ∷ bs) all = let some : 1 ≤ b.words = all.0 in omega (arith, some, count_bound bs all.1)

pub young_cells : (bs : List Placed) → AllByRecursion IsYoung bs → AllByRecursion HasCells bs
young_cells [] all = tt
young_cells (b ∷ bs) all = (all.0.some, young_cells bs all.1)
