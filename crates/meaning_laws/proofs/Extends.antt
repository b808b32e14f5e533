-- A later memory extends an earlier one: a store and an allocation do not undo what there was, and what is known of the
-- earlier memory stays known.
use Rattle.std.proofs.Common.{◌≡◌, ℕ, ◌+◌, ◌*◌, ◌≤◌, Bool, true, false, cond, List, [], ◌∷◌, ◌++◌, Option, Some, None, Result, Ok, Err, length, map, sum, refl, ap, sym, ◌∙◌, append_assoc, length-set, arith}
use Rattle.std.proofs.lemmas.List.{append-nil, map-append}
use Rattle.std.proofs.lemmas.List.Sums.{sum_by-append}
use Rattle.std.proofs.Math.Seq.{map-set_same}
use Rattle.std.specs.Prelude.{slice_set, slice_index_or}
use Rattle.bs_words.specs.Fits.{fits, misfit, data_start}
use Rattle.bs_words.specs.Memory.{Memory, HeapBlock, StaticList, Cell, InHeader, InBlock, InStatic, sizes, heap_need, block_bytes, with_cell_value, type_in, value_in_cell, put_in, put_part, put_whole, replaced, stored_as, stored_in, stored, width, offset_in_cell, cell_at, end_of_statics, end_of_data, all_fit, type_of_cells, allocated}
use Rattle.bs_words.specs.declared.types.Chunk.{Chunk}
use Rattle.bs_words.specs.declared.types.Chunk.TheVariants as chunk
use Rattle.bs_words.specs.declared.types.Ty.{Ty}
use Rattle.bs_words.specs.declared.types.Ty.TheVariants as ty
use Rattle.bs_words.specs.declared.values.Kind.{Kind}
use Rattle.bs_words.specs.declared.values.Value.{Value}
use Rattle.bs_words.specs.declared.values.Value.TheVariants.{Word, Block, Function}
use Rattle.cmm_meaning.specs.Extends.{Shape, shape_of, StaticExtent, extent_of, Extends}

-- ---- one after the other

pub extends_same : (m : Memory) → Extends m m
extends_same m = record { further = []; blocks = sym (append-nil (map shape_of m.blocks)); statics = refl; roots = refl }

pub extends_trans : {a b c : Memory} → Extends a b → Extends b c → Extends a c
extends_trans {a} p q =
    record {
      further = p.further ++ q.further;
      blocks = q.blocks ∙ ap (λ l. l ++ q.further) p.blocks ∙ append_assoc (map shape_of a.blocks) p.further q.further;
      statics = q.statics ∙ p.statics;
      roots = q.roots ∙ p.roots;
    }

-- ---- what stays known

abbrev cells_in : Shape → ℕ
cells_in s = s.cells

abbrev bytes_in : Shape → ℕ
bytes_in s = 8 * (s.cells + 1)

sizes_shapes : (blocks : List HeapBlock) → map (λ (b : HeapBlock). length b.cells) blocks ≡ map cells_in (map shape_of blocks)
sizes_shapes [] = refl
sizes_shapes (b ∷ blocks) = ap (λ l. length b.cells ∷ l) (sizes_shapes blocks)

bytes_shapes : (blocks : List HeapBlock) → map block_bytes blocks ≡ map bytes_in (map shape_of blocks)
bytes_shapes [] = refl
bytes_shapes (b ∷ blocks) = ap (λ l. block_bytes b ∷ l) (bytes_shapes blocks)

-- The sizes of the blocks are the first ones of the later sizes.
pub extends_sizes : {a b : Memory} (e : Extends a b) → sizes b ≡ sizes a ++ map cells_in e.further
extends_sizes {a} {b} e =
    sizes_shapes b.blocks ∙ ap (map cells_in) e.blocks ∙ map-append cells_in (map shape_of a.blocks) e.further
    ∙ ap (λ l. l ++ map cells_in e.further) (sym (sizes_shapes a.blocks))

-- The heap need does not fall.
pub extends_need : {a b : Memory} → Extends a b → heap_need a ≤ heap_need b
extends_need {a} {b} e =
    let later : heap_need b ≡ sum (map bytes_in (map shape_of a.blocks)) + sum (map bytes_in e.further) =
    ap sum (bytes_shapes b.blocks ∙ ap (map bytes_in) e.blocks ∙ map-append bytes_in (map shape_of a.blocks) e.further)
    ∙ sum_by-append (λ x. x) (map bytes_in (map shape_of a.blocks)) (map bytes_in e.further) in
    let earlier : heap_need a ≡ sum (map bytes_in (map shape_of a.blocks)) = ap sum (bytes_shapes a.blocks) in
    omega arith

abbrev end_of_extents : ℕ → List StaticExtent → ℕ
end_of_extents end [] = end
end_of_extents end (e ∷ extents) = end_of_extents (e.start + e.size) extents

end_extents : (end : ℕ) (statics : List StaticList) → end_of_statics end statics ≡ end_of_extents end (map extent_of statics)
end_extents end [] = refl
end_extents end (l ∷ lists) = end_extents (l.start + l.size) lists

-- The data ends where it ended.
pub extends_end : {a b : Memory} → Extends a b → end_of_data b ≡ end_of_data a
extends_end {a} {b} e =
    end_extents data_start b.statics ∙ ap (end_of_extents data_start) e.statics ∙ sym (end_extents data_start a.statics)

-- What fits a type still fits it.
pub extends_fits : {a b : Memory} → Extends a b → (t : Ty) (v : Value) → fits (end_of_data b) t v ≡ fits (end_of_data a) t v
extends_fits e t v = ap (λ end. fits end t v) (extends_end e)

-- ---- what an operation makes of a memory

pub data Extended (m : Memory) : Result Memory Kind → Type 0 where
  extended : {after : Memory} → Extends m after → Extended m (Ok after)
  no_memory : {kind : Kind} → Extended m (Err kind)

same_blocks : (m : Memory) (blocks : List HeapBlock) (statics : List StaticList) → map shape_of blocks ≡ map shape_of m.blocks →
    map extent_of statics ≡ map extent_of m.statics → Extends m (record m { blocks = blocks; statics = statics })
same_blocks m blocks statics p q =
    record { further = []; blocks = p ∙ sym (append-nil (map shape_of m.blocks)); statics = q; roots = refl }

with_value_extends : (m : Memory) (cell : Cell) (value : Value) → Extends m (with_cell_value m cell value)
with_value_extends m (InHeader serial) value = extends_same m
with_value_extends m (InBlock serial index) value =
    let none : HeapBlock = record { header = 0; cells = [] } in
    let block : HeapBlock = slice_index_or m.blocks serial none in
    let cells : List Value = slice_set block.cells index value in
    let same : length cells ≡ length block.cells = length-set block.cells index value in
    same_blocks m (slice_set m.blocks serial (record block { cells = cells })) m.statics
    (map-set_same shape_of m.blocks serial (record block { cells = cells }) none (ap (λ (n : ℕ). let s : Shape = record { header = block.header; cells = n } in s) same)) refl
with_value_extends m (InStatic list index) value =
    let none : StaticList = record { start = 0; size = 0; cells = [] } in
    let statics : StaticList = slice_index_or m.statics list none in
    same_blocks m m.blocks (slice_set m.statics list (record statics { cells = slice_set statics.cells index value })) refl
    (map-set_same extent_of m.statics list (record statics { cells = slice_set statics.cells index value }) none
    (ap (λ (n : ℕ). let e : StaticExtent = record { start = statics.start; size = statics.size; cells = n } in e) (length-set statics.cells index value)))

extended_cond : (m : Memory) (b : Bool) (after : Memory) (kind : Kind) → Extends m after → Extended m (cond b (Ok after) (Err kind))
extended_cond m true after kind e = extended e
extended_cond m false after kind e = no_memory

-- A store leaves a memory that extends the one before it, and so does an allocation.

put_in_extended : (end : ℕ) (m : Memory) (cell : Cell) (value : Value) → Extended m (put_in end m cell value)
put_in_extended end m cell value = extended_cond m (fits end (type_in m cell) value) _ _ (with_value_extends m cell value)

put_part_extended : (end : ℕ) (m : Memory) (cell : Cell) (offset bytes : ℕ) (old new : Value) → Extended m (put_part end m cell offset bytes old new)
put_part_extended end m cell offset bytes (Word old) (Word new) = put_in_extended end m cell (Word (replaced old offset bytes new))
put_part_extended end m cell offset bytes (Word old) (Block serial o) = no_memory
put_part_extended end m cell offset bytes (Word old) (Function f) = no_memory
put_part_extended end m cell offset bytes (Block serial o) new = no_memory
put_part_extended end m cell offset bytes (Function f) new = no_memory

put_whole_extended : (type : Ty) (end : ℕ) (m : Memory) (cell : Cell) (value : Value) → Extended m (put_whole type end m cell value)
put_whole_extended type end m cell value = by (fits end type value)
  where
    by : (b : Bool) → Extended m (cond b (put_in end m cell value) (Err (misfit type)))
    by true = put_in_extended end m cell value
    by false = no_memory

stored_as_extended : (c : Chunk) (end : ℕ) (m : Memory) (cell : Cell) (offset : ℕ) (value : Value) → Extended m (stored_as c end m cell offset value)
stored_as_extended chunk.Int end m cell offset value = put_whole_extended ty.Int end m cell value
stored_as_extended chunk.Val end m cell offset value = put_whole_extended ty.Val end m cell value
stored_as_extended chunk.U8 end m cell offset value = put_part_extended end m cell offset (width chunk.U8) (value_in_cell m cell) value
stored_as_extended chunk.I8 end m cell offset value = put_part_extended end m cell offset (width chunk.I8) (value_in_cell m cell) value
stored_as_extended chunk.U16 end m cell offset value = put_part_extended end m cell offset (width chunk.U16) (value_in_cell m cell) value
stored_as_extended chunk.I16 end m cell offset value = put_part_extended end m cell offset (width chunk.I16) (value_in_cell m cell) value
stored_as_extended chunk.U32 end m cell offset value = put_part_extended end m cell offset (width chunk.U32) (value_in_cell m cell) value
stored_as_extended chunk.I32 end m cell offset value = put_part_extended end m cell offset (width chunk.I32) (value_in_cell m cell) value

stored_in_extended : (c : Chunk) (m : Memory) (offset : ℕ) (o : Option Cell) (value : Value) → Extended m (stored_in c m offset o value)
stored_in_extended c m offset None value = no_memory
stored_in_extended c m offset (Some (InHeader serial)) value = no_memory
stored_in_extended c m offset (Some (InBlock serial index)) value = stored_as_extended c (end_of_data m) m (InBlock serial index) offset value
stored_in_extended c m offset (Some (InStatic list index)) value = stored_as_extended c (end_of_data m) m (InStatic list index) offset value

pub stored_extended : (c : Chunk) (m : Memory) (address value : Value) → Extended m (stored c m address value)
stored_extended c m address value = stored_in_extended c m (offset_in_cell address) (cell_at m (width c) address) value

pub allocated_extended : (m : Memory) (header : ℕ) (values : List Value) → Extended m (allocated m header values)
allocated_extended m header values =
    let block : HeapBlock = record { header = header; cells = values } in
    let e : Extends m (record m { blocks = m.blocks ++ block ∷ [] }) =
    record { further = shape_of block ∷ []; blocks = map-append shape_of m.blocks (block ∷ []); statics = refl; roots = refl } in
    extended_cond m (all_fit (end_of_data m) (type_of_cells header) values) _ _ e
