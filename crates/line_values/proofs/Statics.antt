-- A cell of static data is written: what the heap and the data stand for then.
use Rattle.std.proofs.Common.{◌≡◌, ◌≢◌, ℕ, zero, suc, ◌+◌, ◌-◌, ◌*◌, ◌/◌, ◌%◌, ◌^◌, ◌<◌, ◌≤◌, ◌⊎◌, inl, inr, Bool, true, false, cond, ◌&&◌, ◌==◌, nat_le, List, [], ◌∷◌, length, Option, Some, None, slice_get, slice_set, slice_index_or, refl, ap, arith, ◌∙◌, sym, subst, ⊎_elim, get_or-set_same, get_or-set_other, length-set}
use Rattle.std.proofs.lemmas.Bool.{and_parts, eqb-true, leb-true, or_cases}
use Rattle.std.proofs.lemmas.Option.{same_Some, slice_get_within, get_or_from_slice_get}
use Rattle.bs_words.specs.Fits.{data_start, fits}
use Rattle.bs_words.specs.Memory.{Cell, InStatic, Memory, StaticList, end_of_data, end_of_statics, in_statics, is_root, type_in, type_of_static, value_in_cell, with_cell_value}
use Rattle.bs_words.specs.declared.types.Ty.TheVariants as ty
use Rattle.bs_words.specs.declared.values.Value.{Value}
use Rattle.bs_words.specs.declared.values.Value.TheVariants.{Word, Block, Function}
use Rattle.image_form.specs.Tables.{Tables}
use Rattle.mach_ir.specs.Acts.{Around}
use Rattle.rv_machine.specs.Hart.{Placed}
use Rattle.rv_machine.specs.Memory.{Region}
use Rattle.rv_machine.specs.Relocation.{root_addresses}
use Rattle.rv_machine.specs.Sound.{HasRegions, extents}
use Rattle.moving_laws.specs.Stands.{AmongNumbers}
use Rattle.moving_laws.specs.Values.{IsKnown, IsStill, IsVal, start_of, value_word}
use Rattle.moving_laws.specs.Words.{held_word}
use Rattle.moving_laws.proofs.Held.{IsHeld, hold, hold_other, hold_same, readable_hold, word_hold}
use Rattle.moving_laws.proofs.Rewriting.{start_inside}
use Rattle.moving_laws.proofs.Words.{same_or_not}
use Rattle.moving_laws.proofs.Fitting.{int_still}
use Rattle.lin_machine.specs.Contents.{static_in, statics_of}
use Rattle.lin_machine.specs.Relation.{HeapStands, StandsFor}
use Rattle.lin_machine.specs.Statics.{AreBehind, IsCellList, StaticsLie}
use Rattle.lin_machine.specs.View.{Fixed}
use Rattle.lin_machine.proofs.Statics.{data_held, static_at}

-- ---- what fits

pub val_of : (image : Tables) (count end : ℕ) (v : Value) → end ≤ data_start + length image.bytes → IsKnown image count v → fits end ty.Val v ≡ true →
    IsVal image count v
val_of image count end (Word w) l known e =
    ⊎_elim (λ o. inl (eqb-true (w % 2) 1 o))
    (λ h.
    let p = and_parts (nat_le data_start w) (nat_le w end) h in
    let low = leb-true data_start w p.0 in
    let high = leb-true w end p.1 in
    inr (low, omega (arith, high, l)))
    (or_cases (w % 2 == 1) (nat_le data_start w && nat_le w end) e)
val_of image count end (Block k o) l known e = (eqb-true o 0 e, known.0)
val_of image count end (Function f) l known e = known

-- ---- lists of cells

-- the list that has a byte at an address, and the number of its cell
pub record IsIn (k : ℕ) (lists : List StaticList) (x : ℕ) (cell : Cell) : Type 0 where
  pub index : ℕ
  pub list : StaticList
  pub there : slice_get lists index ≡ Some list
  pub low : list.start ≤ x
  pub high : x + 1 ≤ list.start + list.size
  pub is : cell ≡ InStatic (k + index) ((x - list.start) / 8)

pub is_in : (k : ℕ) (lists : List StaticList) (x : ℕ) (cell : Cell) → in_statics k lists x 1 ≡ Some cell → IsIn k lists x cell
is_in k [] x cell e = absurd (cc)
is_in k (l ∷ lists) x cell e = by_test (nat_le l.start x && nat_le (x + 1) (l.start + l.size)) refl (is_in (suc k) lists x cell) e
  where
    by_test : (t : Bool) → (nat_le l.start x && nat_le (x + 1) (l.start + l.size)) ≡ t → (in_statics (suc k) lists x 1 ≡ Some cell →
        IsIn (suc k) lists x cell) →
        cond t (Some (InStatic k ((x - l.start) / 8))) (in_statics (suc k) lists x 1) ≡ Some cell → IsIn k (l ∷ lists) x cell
    by_test true t later e =
        let p = and_parts (nat_le l.start x) (nat_le (x + 1) (l.start + l.size)) t in
        let zero : k ≡ k + 0 = omega arith in
        record {
          index = 0;
          list = l;
          there = refl;
          low = leb-true l.start x p.0;
          high = leb-true (x + 1) (l.start + l.size) p.1;
          is = sym (same_Some _ _ e) ∙ ap (λ z. InStatic z ((x - l.start) / 8)) zero;
        }
    by_test false t later e =
        let r = later e in
        let next : suc k + r.index ≡ k + suc r.index = omega arith in
        record {
          index = suc r.index;
          list = r.list;
          there = r.there;
          low = r.low;
          high = r.high;
          is = r.is ∙ ap (λ z. InStatic z ((x - r.list.start) / 8)) next;
        }

-- setting a cell moves none
in_same : (k : ℕ) (lists : List StaticList) (j : ℕ) (cells : List Value) (l : StaticList) (x : ℕ) → slice_get lists j ≡ Some l →
    in_statics k (slice_set lists j (record l { cells = cells })) x 1 ≡ in_statics k lists x 1
in_same k [] j cells l x e = absurd (cc)
in_same k (o ∷ lists) zero cells l x e =
    let same : o ≡ l = same_Some _ _ e in
    ap (λ (z : StaticList). cond (nat_le z.start x && nat_le (x + 1) (z.start + z.size)) (Some (InStatic k ((x - z.start) / 8))) (in_statics (suc k) lists x 1))
    (sym same)
in_same k (o ∷ lists) (suc j) cells l x e =
    ap (cond (nat_le o.start x && nat_le (x + 1) (o.start + o.size)) (Some (InStatic k ((x - o.start) / 8)))) (in_same (suc k) lists j cells l x e)

-- nor the lists
behind_same : (from : ℕ) (lists : List StaticList) (j : ℕ) (cells : List Value) (l : StaticList) → slice_get lists j ≡ Some l →
    length cells ≡ length l.cells → AreBehind from lists → AreBehind from (slice_set lists j (record l { cells = cells }))
behind_same from [] j cells l e n are = absurd (cc)
behind_same from (o ∷ lists) zero cells l e n are =
    let same : o ≡ l = same_Some _ _ e in
    let is = subst (λ (z : StaticList). (from ≤ z.start) × IsCellList z × AreBehind (z.start + z.size) lists) same are in
    let size = is.1 in
    (is.0, (size.0, omega (arith, size, n), omega (arith, size, n)), is.2)
behind_same from (o ∷ lists) (suc j) cells l e n are = (are.0, are.1, behind_same (o.start + o.size) lists j cells l e n are.2)

end_same : (from : ℕ) (lists : List StaticList) (j : ℕ) (cells : List Value) (l : StaticList) → slice_get lists j ≡ Some l →
    end_of_statics from (slice_set lists j (record l { cells = cells })) ≡ end_of_statics from lists
end_same from [] j cells l e = absurd (cc)
end_same from (o ∷ lists) zero cells l e =
    let same : o ≡ l = same_Some _ _ e in ap (λ (z : StaticList). end_of_statics (z.start + z.size) lists) (sym same)
end_same from (o ∷ lists) (suc j) cells l e = end_same (o.start + o.size) lists j cells l e

list_at : (from : ℕ) (lists : List StaticList) (k : ℕ) (l : StaticList) → AreBehind from lists → slice_get lists k ≡ Some l → IsCellList l
list_at from [] k l are e = absurd (cc)
list_at from (o ∷ lists) zero l are e = subst IsCellList (same_Some _ _ e) are.1
list_at from (o ∷ lists) (suc k) l are e = list_at (o.start + o.size) lists k l are.2 e

one_static : (j k i n : ℕ) → InStatic j i ≡ InStatic k n → (j ≡ k) × (i ≡ n)
one_static j k i n e = (cc, cc)

-- ---- the cell of an address

-- an address at which a cell of static data begins
pub record IsFirst (memory : Memory) (y : ℕ) (v : Value) : Type 0 where
  pub even : y % 8 ≡ 0
  pub cell : Cell
  pub there : in_statics 0 memory.statics y 1 ≡ Some cell
  pub is : v ≡ value_in_cell memory cell

pub first_at : (memory : Memory) (y : ℕ) (v : Value) → statics_of memory y ≡ Some v → IsFirst memory y v
first_at memory y v e = by_even (y % 8 == 0) refl e
  where
    by_cell : (o : Option Cell) → in_statics 0 memory.statics y 1 ≡ o → (y % 8 == 0) ≡ true → static_in memory o ≡ Some v → IsFirst memory y v
    by_cell None f t e = absurd (cc)
    by_cell (Some cell) f t e = record { even = eqb-true (y % 8) 0 t; cell = cell; there = f; is = sym (same_Some _ _ e) }

    by_byte : (t : Bool) → (y % 8 == 0) ≡ true → static_in memory (cond t (in_statics 0 memory.statics y 1) None) ≡ Some v → IsFirst memory y v
    by_byte true t e = by_cell (in_statics 0 memory.statics y 1) refl t e
    by_byte false t e = absurd (cc)

    by_even : (t : Bool) → (y % 8 == 0) ≡ t → cond t (static_in memory (cond (y % 1 == 0) (in_statics 0 memory.statics y 1) None)) None ≡ Some v →
        IsFirst memory y v
    by_even true t e = by_byte (y % 1 == 0) t e
    by_even false t e = absurd (cc)

-- ---- a cell is written

module _ (s : Fixed) (placed : List Placed) (m : List Region) (regions : HasRegions (extents s.image s.heap s.base) m) (a : Around)
    (h : HeapStands s placed m a) (at value : ℕ) (list index : ℕ) (x : Value) (even : at % 8 ≡ 0)
    (there : in_statics 0 a.memory.statics at 1 ≡ Some (InStatic list index)) (small : value < 2 ^ 64) (stands : StandsFor s placed value x)
    (fit : fits (end_of_data a.memory) (type_in a.memory (InStatic list index)) x ≡ true) where
  abbrev no_list : StaticList
  no_list = record { start = 0; size = 0; cells = [] }

  abbrev after : Memory
  after = with_cell_value a.memory (InStatic list index) x

  zero_more : (i : ℕ) → 0 + i ≡ i
  zero_more i = omega arith

  inside : IsIn 0 a.memory.statics at (InStatic list index)
  inside = is_in 0 a.memory.statics at (InStatic list index) there

  same_cell : (list ≡ inside.index) × (index ≡ (at - inside.list.start) / 8)
  same_cell =
      let p = one_static list (0 + inside.index) index ((at - inside.list.start) / 8) inside.is in
      (p.0 ∙ zero_more inside.index, p.1)

  own_there : slice_get a.memory.statics list ≡ Some inside.list
  own_there = let e = same_cell.0 in subst (λ z. slice_get a.memory.statics z ≡ Some inside.list) (sym e) inside.there

  own_is : slice_index_or a.memory.statics list no_list ≡ inside.list
  own_is = get_or_from_slice_get a.memory.statics list inside.list no_list own_there

  own_cells : IsCellList inside.list
  own_cells = list_at data_start a.memory.statics list inside.list h.lie.lists own_there

  in_cells : index < length inside.list.cells
  in_cells =
      let e = same_cell.1 in let w = own_cells in let lo = inside.low in let hi = inside.high in let ev = even in
      omega (arith, e, w, lo, hi, ev)

  at_is : inside.list.start + 8 * index ≡ at
  at_is = let e = same_cell.1 in let w = own_cells in let lo = inside.low in let ev = even in omega (arith, e, w, lo, ev)

  at_place : (at % 8 ≡ 0) × (data_start ≤ at) × (at < data_start + length s.image.bytes)
  at_place = h.statics.place at (value_in_cell a.memory (InStatic list index)) (static_at a.memory at (InStatic list index) even there)

  at_held : IsHeld m at
  at_held = let p = at_place in data_held s m regions at p.1 p.2

  after_cells : (y : ℕ) → in_statics 0 (with_cell_value a.memory (InStatic list index) x).statics y 1 ≡ in_statics 0 a.memory.statics y 1
  after_cells y =
      ap (λ (l : StaticList). in_statics 0 (slice_set a.memory.statics list (record l { cells = slice_set l.cells index x })) y 1) own_is
      ∙ in_same 0 a.memory.statics list (slice_set inside.list.cells index x) inside.list y own_there

  -- the cell that was written
  value_here : value_in_cell (with_cell_value a.memory (InStatic list index) x) (InStatic list index) ≡ x
  value_here =
      ap (λ (l : StaticList). slice_index_or l.cells index (Word 0))
      (get_or-set_same a.memory.statics list _ no_list (slice_get_within a.memory.statics list inside.list own_there))
      ∙ ap (λ (l : StaticList). slice_index_or (slice_set l.cells index x) index (Word 0)) own_is
      ∙ get_or-set_same inside.list.cells index x (Word 0) in_cells

  -- and another one
  value_other : (j i : ℕ) → ((j ≡ list) → i ≢ index) → value_in_cell (with_cell_value a.memory (InStatic list index) x) (InStatic j i) ≡ value_in_cell a.memory (InStatic j i)
  value_other j i d =
      ⊎_elim
      (λ (e : j ≡ list).
      subst (λ z. value_in_cell (with_cell_value a.memory (InStatic list index) x) (InStatic z i) ≡ value_in_cell a.memory (InStatic z i)) (sym e)
      (ap (λ (l : StaticList). slice_index_or l.cells i (Word 0))
      (get_or-set_same a.memory.statics list _ no_list (slice_get_within a.memory.statics list inside.list own_there))
      ∙ get_or-set_other (slice_index_or a.memory.statics list no_list).cells index i x (Word 0) (d e)))
      (λ n. ap (λ (l : StaticList). slice_index_or l.cells i (Word 0)) (get_or-set_other a.memory.statics list j _ no_list n))
      (same_or_not j list)

  -- a static cell as it is then
  static_as : (y : ℕ) (v : Value) → statics_of (with_cell_value a.memory (InStatic list index) x) y ≡ Some v →
      ((y ≡ at) × (v ≡ x)) ⊎ ((y ≢ at) × (statics_of a.memory y ≡ Some v))
  static_as y v e =
      let f = first_at (with_cell_value a.memory (InStatic list index) x) y v e in
      let g : in_statics 0 a.memory.statics y 1 ≡ Some f.cell = sym (after_cells y) ∙ f.there in
      ⊎_elim
      (λ (q : y ≡ at).
      let same : f.cell ≡ InStatic list index = same_static g (subst (λ z. in_statics 0 a.memory.statics z 1 ≡ Some (InStatic list index)) (sym q) there) in
      inl (q, f.is ∙ ap (value_in_cell (with_cell_value a.memory (InStatic list index) x)) same ∙ value_here))
      (λ (n : y ≢ at).
      let r = is_in 0 a.memory.statics y f.cell g in
      let apart : (0 + r.index ≡ list) → (y - r.list.start) / 8 ≢ index = λ i k.
      n (let same : r.list ≡ inside.list = same_static (subst (λ z. slice_get a.memory.statics z ≡ Some r.list) (sym (zero_more r.index)
      ∙ i) r.there) own_there in
      let start : r.list.start ≡ inside.list.start = ap (λ (l : StaticList). l.start) same in
      let lo = r.low in let w = own_cells in let ev = f.even in let al = at_is in omega (arith, start, lo, w, ev, al, k)) in
      let old : v ≡ value_in_cell a.memory f.cell =
      f.is ∙ ap (value_in_cell (with_cell_value a.memory (InStatic list index) x)) r.is ∙ value_other (0 + r.index) ((y - r.list.start) / 8) apart
      ∙ ap (value_in_cell a.memory) (sym r.is) in
      inr (n, static_at a.memory y f.cell f.even g ∙ ap Some (sym old)))
      (same_or_not y at)
    where
      same_static : {X : Type 0} {o : Option X} {c d : X} → o ≡ Some c → o ≡ Some d → c ≡ d
      same_static e f = same_Some _ _ (sym e ∙ f)

  kind_by : (t : Bool) → is_root a.memory.roots at ≡ t → fits (end_of_data a.memory) (type_of_static t) x ≡ true →
      (IsVal s.image (length placed) x × AmongNumbers at (root_addresses s.image)) ⊎ (IsStill x × (AmongNumbers at (root_addresses s.image) → ⊥))
  kind_by true r e =
      let ends = h.lie.ends in
      inl (val_of s.image (length placed) (end_of_data a.memory) x (omega (arith, ends)) stands.known e, h.lie.root at r)
  kind_by false r e = inr (int_still (end_of_data a.memory) x e, λ i. let f = h.lie.roots at i in absurd (cc))

  kind_here : (IsVal s.image (length placed) x × AmongNumbers at (root_addresses s.image)) ⊎ (IsStill x × (AmongNumbers at (root_addresses s.image) → ⊥))
  kind_here =
      let root : is_root a.memory.roots ((slice_index_or a.memory.statics list no_list).start + 8 * index) ≡ is_root a.memory.roots at =
      ap (is_root a.memory.roots) (ap (λ (l : StaticList). l.start + 8 * index) own_is ∙ at_is) in
      kind_by (is_root a.memory.roots at) refl (ap (λ t. fits (end_of_data a.memory) (type_of_static t) x) (sym root) ∙ fit)

  -- the lists lie as they did
  lies_after : StaticsLie s.image (with_cell_value a.memory (InStatic list index) x)
  lies_after = record {
    lists = subst (λ (l : StaticList). AreBehind data_start (slice_set a.memory.statics list (record l { cells = slice_set l.cells index x }))) (sym own_is)
        (behind_same data_start a.memory.statics list (slice_set inside.list.cells index x) inside.list own_there
        (length-set inside.list.cells index x) h.lie.lists);
    ends = ap (λ (l : StaticList). end_of_statics data_start (slice_set a.memory.statics list (record l { cells = slice_set l.cells index x }))) own_is
        ∙ end_same data_start a.memory.statics list (slice_set inside.list.cells index x) inside.list own_there ∙ h.lie.ends;
    root = h.lie.root;
    roots = h.lie.roots;
  }

  pub static_stored : HeapStands s placed (hold m at value) (record a { memory = with_cell_value a.memory (InStatic list index) x })
  static_stored =
      let p = at_place in
      let short = s.functions.tables.bytes.short in
      record {
        old = h.old;
        readable = record { each = λ j y l e lo hi. readable_hold m at y value (h.readable.each j y l e lo hi) };
        stand = record {
          count = h.stand.count;
          sizes = h.stand.sizes;
          header = λ j w l e.
              let near = start_inside placed j h.old.inside l in
              word_hold m at (start_of placed j - 8) value even (λ q. omega (arith, q, near, p, short)) ∙ h.stand.header j w l e;
          cell = λ j i v l w e.
              let near = start_inside placed j h.old.inside l in
              word_hold m at (start_of placed j + 8 * i) value even (λ q. omega (arith, q, near, p, short)) ∙ h.stand.cell j i v l w e;
          known = h.stand.known;
        };
        heads = h.heads;
        fits = h.fits;
        statics = record {
          cell = λ y v e. ⊎_elim
              (λ q.
              subst (λ z. held_word (hold m at value) z ≡ value_word s.image placed v) (sym q.0)
              (hold_same m at value regions.each at_held ∙ stands.is ∙ ap (value_word s.image placed) (sym q.1)))
              (λ q. hold_other m at y value even (h.statics.place y v q.1).0 (λ z. q.0 (sym z)) ∙ h.statics.cell y v q.1)
              (static_as y v e);
          kind = λ y v e. ⊎_elim
              (λ q.
              subst (λ z. (IsVal s.image (length placed) v × AmongNumbers z (root_addresses s.image)) ⊎ (IsStill v × (AmongNumbers z (root_addresses s.image) → ⊥))) (sym q.0)
              (subst (λ z. (IsVal s.image (length placed) z × AmongNumbers at (root_addresses s.image)) ⊎ (IsStill z × (AmongNumbers at (root_addresses s.image) → ⊥))) (sym q.1)
              kind_here))
              (λ q. h.statics.kind y v q.1)
              (static_as y v e);
          known = λ y v e. ⊎_elim (λ q. subst (IsKnown s.image (length placed)) (sym q.1) stands.known) (λ q. h.statics.known y v q.1) (static_as y v e);
          place = λ y v e. ⊎_elim
              (λ q. subst (λ z. (z % 8 ≡ 0) × (data_start ≤ z) × (z < data_start + length s.image.bytes)) (sym q.0) at_place)
              (λ q. h.statics.place y v q.1)
              (static_as y v e);
        };
        lie = lies_after;
      }
