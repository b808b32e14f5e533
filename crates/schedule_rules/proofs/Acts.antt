-- What operations of runs need of what is round a function, and what they make of it.
use Rattle.std.proofs.Common.{◌≡◌, ℕ, Bool, true, false, cond, List, [], ◌∷◌, Option, Some, None, Result, Ok, Err, map, length, nat_eq, refl, sym, ap, ◌∙◌, length-set}
use Rattle.std.proofs.Math.Seq.{map-set_same}
use Rattle.std.specs.Prelude.{slice_set, slice_index_or}
use Rattle.bs_words.specs.Fits.{fits, misfit}
use Rattle.bs_words.specs.Memory.{Memory, HeapBlock, Cell, InHeader, InBlock, InStatic, sizes, with_cell_value, type_in, value_in_cell, put_in, put_part, put_whole, replaced, stored_as, stored_in, stored, cell_at, width, offset_in_cell, end_of_data}
use Rattle.bs_words.specs.Operators.{apply}
use Rattle.bs_words.specs.declared.types.Chunk.{Chunk}
use Rattle.bs_words.specs.declared.types.Chunk.TheVariants as chunk
use Rattle.bs_words.specs.declared.types.Ty.{Ty}
use Rattle.bs_words.specs.declared.types.Ty.TheVariants as ty
use Rattle.bs_words.specs.declared.values.Kind.{Kind}
use Rattle.bs_words.specs.declared.values.Value.{Value}
use Rattle.bs_words.specs.declared.values.Value.TheVariants as value
use Rattle.cmm_meaning.specs.Extends.{Shape, shape_of}
use Rattle.cmm_meaning.specs.Setting.{Setting}
use Rattle.mach_ir.specs.Acts.{Around, On, Act, Goes, Pushes, Jumps, Unwinds, Asks, Replaces, Ends, EndsRaising, Stuck, is_among_cells, without, one_result, if_known, pure_act, loaded_act, after_store, header_written, first_written, stored_act, access_act, stuck_unless}
use Rattle.mach_ir.specs.declared.op.Right.TheVariants as right
use Rattle.mach_ir.specs.declared.op.Pure.{Pure}
use Rattle.mach_ir.specs.declared.op.Pure.TheVariants as pure
use Rattle.mach_ir.specs.declared.op.Access.TheVariants as access

-- ---- stores keep the shapes of blocks

abbrev pub SameShapes : Memory → Memory → Type 0
SameShapes a b = map shape_of b.blocks ≡ map shape_of a.blocks

abbrev cells_in : Shape → ℕ
cells_in s = s.cells

sizes_shapes : (blocks : List HeapBlock) → map (λ (b : HeapBlock). length b.cells) blocks ≡ map cells_in (map shape_of blocks)
sizes_shapes [] = refl
sizes_shapes (b ∷ blocks) = ap (λ l. length b.cells ∷ l) (sizes_shapes blocks)

pub same_sizes : (a b : Memory) → SameShapes a b → sizes b ≡ sizes a
same_sizes a b e = sizes_shapes b.blocks ∙ ap (map cells_in) e ∙ sym (sizes_shapes a.blocks)

data Shaped (m : Memory) : Result Memory Kind → Type 0 where
  shaped : {after : Memory} → SameShapes m after → Shaped m (Ok after)
  no_memory : {kind : Kind} → Shaped m (Err kind)

with_value_shaped : (m : Memory) (cell : Cell) (v : Value) → SameShapes m (with_cell_value m cell v)
with_value_shaped m (InHeader serial) v = refl
with_value_shaped m (InBlock serial index) v =
    let none : HeapBlock = record { header = 0; cells = [] } in
    let block : HeapBlock = slice_index_or m.blocks serial none in
    let cells : List Value = slice_set block.cells index v in
    map-set_same shape_of m.blocks serial (record block { cells = cells }) none
    (ap (λ (n : ℕ). let s : Shape = record { header = block.header; cells = n } in s) (length-set block.cells index v))
with_value_shaped m (InStatic list index) v = refl

shaped_cond : (m : Memory) (b : Bool) (after : Memory) (kind : Kind) → SameShapes m after → Shaped m (cond b (Ok after) (Err kind))
shaped_cond m true after kind e = shaped e
shaped_cond m false after kind e = no_memory

put_in_shaped : (end : ℕ) (m : Memory) (cell : Cell) (v : Value) → Shaped m (put_in end m cell v)
put_in_shaped end m cell v = shaped_cond m (fits end (type_in m cell) v) _ _ (with_value_shaped m cell v)

put_part_shaped : (end : ℕ) (m : Memory) (cell : Cell) (offset bytes : ℕ) (old new : Value) → Shaped m (put_part end m cell offset bytes old new)
put_part_shaped end m cell offset bytes (value.Word old) (value.Word new) = put_in_shaped end m cell (value.Word (replaced old offset bytes new))
put_part_shaped end m cell offset bytes (value.Word old) (value.Block s o) = no_memory
put_part_shaped end m cell offset bytes (value.Word old) (value.Function f) = no_memory
put_part_shaped end m cell offset bytes (value.Block s o) new = no_memory
put_part_shaped end m cell offset bytes (value.Function f) new = no_memory

put_whole_shaped : (type : Ty) (end : ℕ) (m : Memory) (cell : Cell) (v : Value) → Shaped m (put_whole type end m cell v)
put_whole_shaped type end m cell v = by (fits end type v)
  where
    by : (b : Bool) → Shaped m (cond b (put_in end m cell v) (Err (misfit type)))
    by true = put_in_shaped end m cell v
    by false = no_memory

stored_as_shaped : (c : Chunk) (end : ℕ) (m : Memory) (cell : Cell) (offset : ℕ) (v : Value) → Shaped m (stored_as c end m cell offset v)
stored_as_shaped chunk.Int end m cell offset v = put_whole_shaped ty.Int end m cell v
stored_as_shaped chunk.Val end m cell offset v = put_whole_shaped ty.Val end m cell v
stored_as_shaped chunk.U8 end m cell offset v = put_part_shaped end m cell offset (width chunk.U8) (value_in_cell m cell) v
stored_as_shaped chunk.I8 end m cell offset v = put_part_shaped end m cell offset (width chunk.I8) (value_in_cell m cell) v
stored_as_shaped chunk.U16 end m cell offset v = put_part_shaped end m cell offset (width chunk.U16) (value_in_cell m cell) v
stored_as_shaped chunk.I16 end m cell offset v = put_part_shaped end m cell offset (width chunk.I16) (value_in_cell m cell) v
stored_as_shaped chunk.U32 end m cell offset v = put_part_shaped end m cell offset (width chunk.U32) (value_in_cell m cell) v
stored_as_shaped chunk.I32 end m cell offset v = put_part_shaped end m cell offset (width chunk.I32) (value_in_cell m cell) v

stored_in_shaped : (c : Chunk) (m : Memory) (offset : ℕ) (o : Option Cell) (v : Value) → Shaped m (stored_in c m offset o v)
stored_in_shaped c m offset None v = no_memory
stored_in_shaped c m offset (Some (InHeader serial)) v = no_memory
stored_in_shaped c m offset (Some (InBlock serial index)) v = stored_as_shaped c (end_of_data m) m (InBlock serial index) offset v
stored_in_shaped c m offset (Some (InStatic list index)) v = stored_as_shaped c (end_of_data m) m (InStatic list index) offset v

stored_shaped : (c : Chunk) (m : Memory) (address v : Value) → Shaped m (stored c m address v)
stored_shaped c m address v = stored_in_shaped c m (offset_in_cell address) (cell_at m (width c) address) v

-- ---- what a store does

-- It changes the contents of memory and what is unwritten, and nothing else of what is round a function.
pub record IsLevel (a b : Around) : Type 0 where
  pub shapes : SameShapes a.memory b.memory
  pub tries : b.tries ≡ a.tries
  pub raised : b.raised ≡ a.raised

pub level_same : (a : Around) → IsLevel a a
level_same a = record { shapes = refl; tries = refl; raised = refl }

pub level_then : {a b c : Around} → IsLevel a b → IsLevel b c → IsLevel a c
level_then x y = record { shapes = y.shapes ∙ x.shapes; tries = y.tries ∙ x.tries; raised = y.raised ∙ x.raised }

-- it goes on with no results, or is stuck
pub data Stores (a : Around) : Act → Type 0 where
  stores : {b : Around} → IsLevel a b → Stores a (Goes [] On b)
  store_stuck : Stores a Stuck

store_only : (a : Around) (b : Bool) (x : Act) → Stores a x → Stores a (stuck_unless b x)
store_only a true x s = s
store_only a false x s = store_stuck

after_stores : (a : Around) (cells : List Cell) (r : Result Memory Kind) → Shaped a.memory r → Stores a (after_store a cells r)
after_stores a cells _ (shaped e) = stores (record { shapes = e; tries = refl; raised = refl })
after_stores a cells _ no_memory = store_stuck

header_stores : (k : Chunk) (a : Around) (s : ℕ) (old new : Value) → Stores a (header_written k a s old new)
header_stores chunk.Int a s (value.Word header) (value.Word w) =
    store_only a (nat_eq w header) _ (stores (record { shapes = refl; tries = refl; raised = refl }))
header_stores chunk.Int a s (value.Word header) (value.Block t o) = store_stuck
header_stores chunk.Int a s (value.Word header) (value.Function f) = store_stuck
header_stores chunk.Int a s (value.Block t o) new = store_stuck
header_stores chunk.Int a s (value.Function f) new = store_stuck
header_stores chunk.U8 a s old new = store_stuck
header_stores chunk.I8 a s old new = store_stuck
header_stores chunk.U16 a s old new = store_stuck
header_stores chunk.I16 a s old new = store_stuck
header_stores chunk.U32 a s old new = store_stuck
header_stores chunk.I32 a s old new = store_stuck
header_stores chunk.Val a s old new = store_stuck

first_stores : (k : Chunk) (a : Around) (cell : Cell) (x v : Value) → Stores a (first_written k a cell x v)
first_stores k a (InHeader s) x v = header_stores k a s (value_in_cell a.memory (InHeader s)) v
first_stores k a (InBlock s n) x v = store_only a _ _ (after_stores a (without (InBlock s n) a.unwritten) (stored k a.memory x v) (stored_shaped k a.memory x v))
first_stores k a (InStatic l n) x v = store_stuck

stored_stores : (k : Chunk) (a : Around) (o : Option Cell) (x v : Value) → Stores a (stored_act k a o x v)
stored_stores k a None x v = store_stuck
stored_stores k a (Some cell) x v = by (is_among_cells cell a.unwritten)
  where
    by : (b : Bool) → Stores a (cond b (first_written k a cell x v) (after_store a a.unwritten (stored k a.memory x v)))
    by true = first_stores k a cell x v
    by false = after_stores a a.unwritten (stored k a.memory x v) (stored_shaped k a.memory x v)

pub store_acts : (k : Chunk) (offset : ℕ) (vs : List Value) (a : Around) → Stores a (access_act (access.Store k offset) vs a)
store_acts k offset [] a = store_stuck
store_acts k offset (x ∷ []) a = store_stuck
store_acts k offset (x ∷ v ∷ []) a = stored_stores k a _ _ v
store_acts k offset (x ∷ v ∷ w ∷ vs) a = store_stuck

-- ---- what all others of a run do

-- it goes on with results and leaves what is round, or is stuck
pub data Gives (a : Around) : Act → Type 0 where
  gives : {vs : List Value} → Gives a (Goes vs On a)
  gives_none : Gives a Stuck

result_gives : (a : Around) (r : Result Value Kind) → Gives a (one_result a r)
result_gives a (Ok v) = gives
result_gives a (Err kind) = gives_none

known_gives : (a : Around) (o : Option Value) → Gives a (if_known a o)
known_gives a (Some v) = gives
known_gives a None = gives_none

loaded_gives : (a : Around) (o : Option Cell) (r : Result Value Kind) → Gives a (loaded_act a o r)
loaded_gives a None r = gives_none
loaded_gives a (Some cell) r = by (is_among_cells cell a.unwritten)
  where
    by : (b : Bool) → Gives a (cond b Stuck (one_result a r))
    by true = gives_none
    by false = result_gives a r

-- a load leaves what is round
pub load_acts : (k : Chunk) (offset : ℕ) (vs : List Value) (a : Around) → Gives a (access_act (access.Load k offset) vs a)
load_acts k offset [] a = gives_none
load_acts k offset (x ∷ []) a = loaded_gives a _ _
load_acts k offset (x ∷ y ∷ vs) a = gives_none

-- the same act where other things are round
abbrev pub moved_to : Around → Act → Act
moved_to b (Goes vs to a) = Goes vs to b
moved_to b (Pushes a) = Stuck
moved_to b (Jumps to a) = Stuck
moved_to b (Unwinds a) = Stuck
moved_to b (Asks callee vs go) = Stuck
moved_to b (Replaces callee vs kept) = Stuck
moved_to b (Ends d) = Stuck
moved_to b (EndsRaising d) = Stuck
moved_to b Stuck = Stuck

one_moved : (a b : Around) (r : Result Value Kind) → one_result b r ≡ moved_to b (one_result a r)
one_moved a b (Ok v) = refl
one_moved a b (Err kind) = refl

known_moved : (a b : Around) (o : Option Value) → if_known b o ≡ moved_to b (if_known a o)
known_moved a b (Some v) = refl
known_moved a b None = refl

operator_moved : (a b : Around) (f : _) (x y : Value) → sizes b.memory ≡ sizes a.memory → one_result b (apply f (sizes b.memory) x y) ≡ moved_to b (one_result a (apply f (sizes a.memory) x y))
operator_moved a b f x y e = ap (λ ns. one_result b (apply f ns x y)) e ∙ one_moved a b (apply f (sizes a.memory) x y)

-- what reads registers alone needs of memory the sizes of blocks
pub pure_moved : (c : Setting) (f : Pure) (vs : List Value) (a b : Around) → sizes b.memory ≡ sizes a.memory → pure_act c f vs b ≡ moved_to b (pure_act c f vs a)
pure_moved c (pure.Copy kind) [] a b e = refl
pure_moved c (pure.Copy kind) (v ∷ []) a b e = refl
pure_moved c (pure.Copy kind) (v ∷ x ∷ vs) a b e = refl
pure_moved c (pure.Constant w) [] a b e = refl
pure_moved c (pure.Constant w) (v ∷ vs) a b e = refl
pure_moved c (pure.Symbol name) [] a b e = known_moved a b (c.symbol name)
pure_moved c (pure.Symbol name) (v ∷ vs) a b e = refl
pure_moved c (pure.Operator f right.Register) [] a b e = refl
pure_moved c (pure.Operator f right.Register) (x ∷ []) a b e = refl
pure_moved c (pure.Operator f right.Register) (x ∷ y ∷ []) a b e = operator_moved a b f x y e
pure_moved c (pure.Operator f right.Register) (x ∷ y ∷ z ∷ vs) a b e = refl
pure_moved c (pure.Operator f (right.Constant w)) [] a b e = refl
pure_moved c (pure.Operator f (right.Constant w)) (x ∷ []) a b e = operator_moved a b f x (value.Word w) e
pure_moved c (pure.Operator f (right.Constant w)) (x ∷ y ∷ vs) a b e = refl

pub pure_acts : (c : Setting) (f : Pure) (vs : List Value) (a : Around) → Gives a (pure_act c f vs a)
pure_acts c (pure.Copy kind) [] a = gives_none
pure_acts c (pure.Copy kind) (v ∷ []) a = gives
pure_acts c (pure.Copy kind) (v ∷ x ∷ vs) a = gives_none
pure_acts c (pure.Constant w) [] a = gives
pure_acts c (pure.Constant w) (v ∷ vs) a = gives_none
pure_acts c (pure.Symbol name) [] a = known_gives a (c.symbol name)
pure_acts c (pure.Symbol name) (v ∷ vs) a = gives_none
pure_acts c (pure.Operator f right.Register) [] a = gives_none
pure_acts c (pure.Operator f right.Register) (x ∷ []) a = gives_none
pure_acts c (pure.Operator f right.Register) (x ∷ y ∷ []) a = result_gives a _
pure_acts c (pure.Operator f right.Register) (x ∷ y ∷ z ∷ vs) a = gives_none
pure_acts c (pure.Operator f (right.Constant w)) [] a = gives_none
pure_acts c (pure.Operator f (right.Constant w)) (x ∷ []) a = result_gives a _
pure_acts c (pure.Operator f (right.Constant w)) (x ∷ y ∷ vs) a = gives_none
