-- Cells of static data by their addresses, and the words that they are in.
use Rattle.std.proofs.Common.{◌≡◌, ℕ, suc, ◌+◌, ◌-◌, ◌/◌, ◌%◌, ◌^◌, ◌<◌, ◌≤◌, Bool, true, false, cond, ◌&&◌, ◌==◌, nat_le, List, [], ◌∷◌, length, Some, None, refl, ap, arith, ◌∙◌, sym, subst}
use Rattle.std.proofs.lemmas.Bool.{and_from, and_parts, cond-true, eq-eqb, eqb-true, le-leb, leb-true}
use Rattle.bs_words.specs.Fits.{data_start}
use Rattle.bs_words.specs.Memory.{Cell, HeapBlock, InStatic, Memory, StaticList, cell_at, end_of_statics, in_statics, value_in_cell}
use Rattle.bs_words.specs.declared.values.Value.TheVariants.{Word}
use Rattle.image_form.specs.Tables.{Tables}
use Rattle.rv_machine.specs.Memory.{Region, memory_word, write}
use Rattle.rv_machine.specs.Sound.{HasRegions, extents}
use Rattle.moving_laws.specs.Words.{IsReadable, held_word}
use Rattle.moving_laws.proofs.Held as machine
use Rattle.lin_machine.specs.Contents.{static_in, statics_of}
use Rattle.lin_machine.specs.Statics.{AreBehind, StaticsLie}
use Rattle.lin_machine.specs.View.{Fixed}

-- ---- the lists

-- the list in which so many bytes lie begins at a multiple of 8
pub record IsListed (from y : ℕ) : Type 0 where
  pub start : ℕ
  pub behind : from ≤ start
  pub even : start % 8 ≡ 0
  pub low : start ≤ y

pub listed : (k from : ℕ) (lists : List StaticList) (y w : ℕ) (cell : Cell) → AreBehind from lists → in_statics k lists y w ≡ Some cell → IsListed from y
listed k from [] y w cell are e = absurd (cc)
listed k from (l ∷ lists) y w cell are e =
    by_test (nat_le l.start y && nat_le (y + w) (l.start + l.size)) refl (listed (suc k) (l.start + l.size) lists y w cell are.2) e
  where
    by_test : (t : Bool) → (nat_le l.start y && nat_le (y + w) (l.start + l.size)) ≡ t →
        (in_statics (suc k) lists y w ≡ Some cell → IsListed (l.start + l.size) y) →
        cond t (Some (InStatic k ((y - l.start) / 8))) (in_statics (suc k) lists y w) ≡ Some cell → IsListed from y
    by_test true t later e = record {
      start = l.start;
      behind = are.0;
      even = are.1.0;
      low = leb-true l.start y (and_parts (nat_le l.start y) (nat_le (y + w) (l.start + l.size)) t).0;
    }
    by_test false t later e =
        let q = later e in
        let b = q.behind in
        let a0 = are.0 in
        record { start = q.start; behind = omega (arith, b, a0); even = q.even; low = q.low }

ends_above : (from : ℕ) (lists : List StaticList) → AreBehind from lists → from ≤ end_of_statics from lists
ends_above from [] are = omega arith
ends_above from (l ∷ lists) are = let q = ends_above (l.start + l.size) lists are.2 in let a0 = are.0 in omega (arith, q, a0)

-- what lies in a list ends in the data
pub listed_below : (k from : ℕ) (lists : List StaticList) (y w : ℕ) (cell : Cell) → AreBehind from lists → in_statics k lists y w ≡ Some cell →
    y + w ≤ end_of_statics from lists
listed_below k from [] y w cell are e = absurd (cc)
listed_below k from (l ∷ lists) y w cell are e =
    by_test (nat_le l.start y && nat_le (y + w) (l.start + l.size)) refl (listed_below (suc k) (l.start + l.size) lists y w cell are.2) e
  where
    by_test : (t : Bool) → (nat_le l.start y && nat_le (y + w) (l.start + l.size)) ≡ t →
        (in_statics (suc k) lists y w ≡ Some cell → y + w ≤ end_of_statics (l.start + l.size) lists) →
        cond t (Some (InStatic k ((y - l.start) / 8))) (in_statics (suc k) lists y w) ≡ Some cell → y + w ≤ end_of_statics (l.start + l.size) lists
    by_test true t later e =
        let high = leb-true (y + w) (l.start + l.size) (and_parts (nat_le l.start y) (nat_le (y + w) (l.start + l.size)) t).1 in
        let q = ends_above (l.start + l.size) lists are.2 in
        omega (arith, high, q)
    by_test false t later e = later e

-- some bytes of a word lie in the cell of its first byte
pub first_in : (k from : ℕ) (lists : List StaticList) (x b w : ℕ) (cell : Cell) → AreBehind from lists → x % 8 ≡ 0 → 1 ≤ w → b + w ≤ 8 →
    in_statics k lists (x + b) w ≡ Some cell → in_statics k lists x 1 ≡ Some cell
first_in k from [] x b w cell are even some inside e = absurd (cc)
first_in k from (l ∷ lists) x b w cell are even some inside e =
    by_test (nat_le l.start (x + b) && nat_le (x + b + w) (l.start + l.size)) refl
    (first_in (suc k) (l.start + l.size) lists x b w cell are.2 even some inside)
    (listed (suc k) (l.start + l.size) lists (x + b) w cell are.2) e
  where
    al : l.start % 8 ≡ 0
    al = are.1.0

    by_test : (t : Bool) → (nat_le l.start (x + b) && nat_le (x + b + w) (l.start + l.size)) ≡ t →
        (in_statics (suc k) lists (x + b) w ≡ Some cell → in_statics (suc k) lists x 1 ≡ Some cell) →
        (in_statics (suc k) lists (x + b) w ≡ Some cell → IsListed (l.start + l.size) (x + b)) →
        cond t (Some (InStatic k ((x + b - l.start) / 8))) (in_statics (suc k) lists (x + b) w) ≡ Some cell →
        in_statics k (l ∷ lists) x 1 ≡ Some cell
    by_test true t later above e =
        let p = and_parts (nat_le l.start (x + b)) (nat_le (x + b + w) (l.start + l.size)) t in
        let low = leb-true l.start (x + b) p.0 in
        let high = leb-true (x + b + w) (l.start + l.size) p.1 in
        let a = al in
        let same : (x - l.start) / 8 ≡ (x + b - l.start) / 8 = omega (arith, low, a, even, inside, some) in
        cond-true (nat_le l.start x && nat_le (x + 1) (l.start + l.size)) _ _
        (and_from (nat_le l.start x) (nat_le (x + 1) (l.start + l.size)) (le-leb l.start x (omega (arith, low, a, even, inside, some)))
        (le-leb (x + 1) (l.start + l.size) (omega (arith, high, some))))
        ∙ ap (λ i. Some (InStatic k i)) same ∙ e
    by_test false t later above e = by_first (nat_le l.start x && nat_le (x + 1) (l.start + l.size)) refl (later e) (above e)
      where
        by_first : (t : Bool) → (nat_le l.start x && nat_le (x + 1) (l.start + l.size)) ≡ t → in_statics (suc k) lists x 1 ≡ Some cell →
            IsListed (l.start + l.size) (x + b) → cond t (Some (InStatic k ((x - l.start) / 8))) (in_statics (suc k) lists x 1) ≡ Some cell
        by_first true t f q =
            let high = leb-true (x + 1) (l.start + l.size) (and_parts (nat_le l.start x) (nat_le (x + 1) (l.start + l.size)) t).1 in
            let b1 = q.behind in
            let e1 = q.even in
            let l1 = q.low in
            absurd (omega (arith, high, b1, e1, l1, even, inside, some))
        by_first false t f q = f

-- ---- the cells by address

one_byte : (x : ℕ) → (x % 1 == 0) ≡ true
one_byte x = eq-eqb (x % 1) 0 (omega arith)

-- the cell that an access lies in, by the address of its first byte
pub static_at : (memory : Memory) (x : ℕ) (cell : Cell) → x % 8 ≡ 0 → in_statics 0 memory.statics x 1 ≡ Some cell →
    statics_of memory x ≡ Some (value_in_cell memory cell)
static_at memory x cell even e =
    cond-true (x % 8 == 0) _ _ (eq-eqb (x % 8) 0 even) ∙ ap (static_in memory) (cond-true (x % 1 == 0) (in_statics 0 memory.statics x 1) None (one_byte x) ∙ e)

-- a cell of 8 bytes is whole
pub static_whole : (image : Tables) (memory : Memory) (x : ℕ) (cell : Cell) → StaticsLie image memory → cell_at memory 8 (Word x) ≡ Some cell →
    (x % 8 ≡ 0) × (x + 8 ≤ data_start + length image.bytes) × (statics_of memory x ≡ Some (value_in_cell memory cell))
static_whole image memory x cell lie e = by_even (x % 8 == 0) refl e
  where
    at_zero : (x : ℕ) → x + 0 ≡ x
    at_zero x = omega arith

    by_even : (t : Bool) → (x % 8 == 0) ≡ t → cond t (in_statics 0 memory.statics x 8) None ≡ Some cell →
        (x % 8 ≡ 0) × (x + 8 ≤ data_start + length image.bytes) × (statics_of memory x ≡ Some (value_in_cell memory cell))
    by_even false t e = absurd (cc)
    by_even true t e =
        let even = eqb-true (x % 8) 0 t in
        let high = listed_below 0 data_start memory.statics x 8 cell lie.lists e in
        let ends = lie.ends in (
          even,
          omega (arith, high, ends),
          static_at memory x cell even
              (first_in 0 data_start memory.statics x 0 8 cell lie.lists even (omega arith) (omega arith)
              (subst (λ y. in_statics 0 memory.statics y 8 ≡ Some cell) (sym (at_zero x)) e)),
        )

-- blocks are no static data
pub lie_blocks : (image : Tables) (memory : Memory) (bs : List HeapBlock) → StaticsLie image memory → StaticsLie image (record memory { blocks = bs })
lie_blocks image memory bs lie = record { lists = lie.lists; ends = lie.ends; root = lie.root; roots = lie.roots }

-- ---- words of the machine

module _ (s : Fixed) (m : List Region) (regions : HasRegions (extents s.image s.heap s.base) m) where
  heap_even : s.heap % 8 ≡ 0
  heap_even = let h = s.room.aligned in omega (arith, h)

  -- a word that can be read is the one that is held there, and is set as it is written
  pub held_readable : (x : ℕ) → IsReadable m x → held_word m x ≡ memory_word m x
  held_readable x r = machine.held_readable s.image s.heap s.base s.functions.tables.bytes.short heap_even s.stack m regions x r

  pub hold_readable : (x z : ℕ) → IsReadable m x → z < 2 ^ 64 → machine.hold m x z ≡ write m x z
  hold_readable x z r small = machine.hold_readable s.image s.heap s.base s.functions.tables.bytes.short heap_even s.stack m regions x z r small

  pub readable_shares : (x : ℕ) → IsReadable m x → machine.AllShare x 8 m
  readable_shares x r = machine.readable_shares s.image s.heap s.base s.functions.tables.bytes.short heap_even s.stack m regions x r

  pub all_share : (x t : ℕ) → t ≤ 8 → x % 8 ≡ 0 → machine.IsDataOrAbove s.image x t → machine.AllShare x t m
  all_share x t few even at = machine.all_share s.image s.heap s.base s.functions.tables.bytes.short heap_even s.stack m regions x t few even at

  pub data_held : (x : ℕ) → 0x10000000 ≤ x → x < 0x10000000 + length s.image.bytes → machine.IsHeld m x
  data_held x lo hi = machine.data_held s.image s.heap s.base s.functions.tables.bytes.short heap_even s.stack m regions x lo hi

  pub readable_held : (x : ℕ) → IsReadable m x → machine.IsHeld m x
  readable_held x r = machine.readable_held s.image s.heap s.base s.functions.tables.bytes.short heap_even s.stack m regions x r
