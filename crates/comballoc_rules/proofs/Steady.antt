-- What reads and writes registers and memory alone does the same where one block more has been allocated.
use Rattle.std.proofs.Common.{◌≡◌, ℕ, zero, suc, ◌+◌, ◌-◌, ◌*◌, ◌/◌, ◌%◌, ◌<◌, ◌≤◌, Bool, true, false, cond, not, ◌&&◌, ◌||◌, List, [], ◌∷◌, ◌++◌, length, map, Option, Some, None, Result, Ok, Err, refl, sym, ap, ◌∙◌, subst, arith}
use Rattle.std.specs.Prelude.{nat_eq, nat_le, ◌==◌, slice_get, slice_index, slice_index_or, slice_set}
use Rattle.std.proofs.lemmas.Bool.{true≢false, ltb-true, lt-ltb, leb-true, le-leb}
use Rattle.std.proofs.lemmas.List.{length-set, map-append, get_or_append_left, set-append_left}
use Rattle.std.proofs.Math.Seq.{map-set_same}
use Rattle.bs_words.specs.Fits.{fits, misfit}
use Rattle.bs_words.specs.Memory.{Memory, HeapBlock, StaticList, Cell, InHeader, InBlock, InStatic, sizes, loaded_from, loaded_as, stored, stored_in, stored_as, put_in, put_part, put_whole, replaced, with_cell_value, value_in_cell, type_in, cell_at, in_block, cell_of_block, in_statics, width, offset_in_cell, end_of_data}
use Rattle.bs_words.specs.Operators.{apply, is_in, is_near, equality_of, order_of, comparison_of, as_value, unequal_if, signed_holds, unsigned_holds}
use Rattle.bs_words.specs.Operators as operators
use Rattle.bs_words.specs.declared.operators.CmpOp.{CmpOp}
use Rattle.bs_words.specs.declared.operators.CmpOp.TheVariants.{Eq, Ne, Lt, Le, Gt, Ge}
use Rattle.bs_words.specs.declared.operators.IntOp.{IntOp}
use Rattle.bs_words.specs.declared.operators.IntOp.TheVariants.{Add, Sub, Mul, Mulh, Div, Mod, And, Or, Xor, Shl, Shr, Sar, Cmp, CmpU, AddV, AddA}
use Rattle.bs_words.specs.declared.types.Chunk.{Chunk}
use Rattle.bs_words.specs.declared.types.Chunk.TheVariants as chunk
use Rattle.bs_words.specs.declared.types.Ty.{Ty}
use Rattle.bs_words.specs.declared.types.Ty.TheVariants as ty
use Rattle.bs_words.specs.declared.values.Kind.{Kind}
use Rattle.bs_words.specs.declared.values.Value.{Value}
use Rattle.bs_words.specs.declared.values.Value.TheVariants as value
use Rattle.cmm_meaning.specs.Extends.{shape_of}
use Rattle.cmm_meaning.specs.Setting.{Setting}
use Rattle.mach_ir.specs.Acts.{Around, Act, Goes, Stuck, On, act, pure_act, access_act, one_result, if_known, stuck_unless, loaded_act, stored_act, first_written, header_written, after_store, moved_by, is_among_cells, without, same_cell, cells_from, fresh_block, with_block}
use Rattle.mach_ir.specs.Placed.{is_straight}
use Rattle.mach_ir.specs.declared.blocks.NewBlock.{NewBlock}
use Rattle.mach_ir.specs.declared.op.Access.{Access}
use Rattle.mach_ir.specs.declared.op.Access.TheVariants as access
use Rattle.mach_ir.specs.declared.op.Op.{Op}
use Rattle.mach_ir.specs.declared.op.Op.TheVariants as op
use Rattle.mach_ir.specs.declared.op.Pure.{Pure}
use Rattle.mach_ir.specs.declared.op.Pure.TheVariants as pure
use Rattle.mach_ir.specs.declared.op.Right.TheVariants as right
use Rattle.mach_ir.specs.declared.mach.MachOp.TheVariants as mach
use Rattle.comballoc_rules.proofs.Places.{eq_less}

-- ---- operators

-- what is no error stays as it is
pub data Firm {A : Type 0} : Result A Kind → Result A Kind → Type 0 where
  no_value : {k : Kind} {r : Result A Kind} → Firm (Err k) r
  a_value : {v : A} → Firm (Ok v) (Ok v)

firm : {A : Type 0} (r : Result A Kind) → Firm r r
firm (Ok v) = a_value
firm (Err k) = no_value

-- where the test holds in the first it holds in the second
firm_only : (x y : Bool) (k : Kind) (v : Value) → (x ≡ true → y ≡ true) → Firm (operators.only_if x k v) (operators.only_if y k v)
firm_only false y k v h = no_value
firm_only true y k v h = subst (λ z. Firm (Ok v) (operators.only_if z k v)) (sym (h refl)) a_value

firm_unequal : (x y : Bool) → (x ≡ true → y ≡ true) → Firm (unequal_if x) (unequal_if y)
firm_unequal false y h = no_value
firm_unequal true y h = subst (λ z. Firm (Ok false) (unequal_if z)) (sym (h refl)) a_value

firm_as : (f : Bool → Bool) {x y : Result Bool Kind} → Firm x y → Firm (as_value f x) (as_value f y)
firm_as f no_value = no_value
firm_as f a_value = a_value

and_more : (x : Bool) {y v w : Bool} → (x ≡ true → v ≡ true) → (y ≡ true → w ≡ true) → x && y ≡ true → v && w ≡ true
and_more false h g e = absurd (true≢false (sym e))
and_more true {w = w} h g e = ap (λ z. z && w) (h refl) ∙ g e

or_more : (x : Bool) {y v w : Bool} → (x ≡ true → v ≡ true) → (y ≡ true → w ≡ true) → x || y ≡ true → v || w ≡ true
or_more true {w = w} h g e = ap (λ z. z || w) (h refl)
or_more false {v = v} h g e = ap (λ z. v || z) (g e) ∙ or_true v
  where
    or_true : (b : Bool) → b || true ≡ true
    or_true true = refl
    or_true false = refl

index_more : (xs ys : List ℕ) (s : ℕ) → slice_index xs s ≤ slice_index (xs ++ ys) s
index_more [] ys s = omega arith
index_more (x ∷ xs) ys zero = omega arith
index_more (x ∷ xs) ys (suc s) = index_more xs ys s

is_in_more : (xs ys : List ℕ) (s o : ℕ) → is_in xs s o ≡ true → is_in (xs ++ ys) s o ≡ true
is_in_more xs ys s o e =
    let lt : o < 8 * slice_index xs s = ltb-true o (8 * slice_index xs s) e in
    let le = index_more xs ys s in
    lt-ltb o (8 * slice_index (xs ++ ys) s) (omega (arith, lt, le))

is_near_more : (xs ys : List ℕ) (s o : ℕ) → is_near xs s o ≡ true → is_near (xs ++ ys) s o ≡ true
is_near_more xs ys s o e =
    or_more _ (λ z. let lt : o ≤ 8 * slice_index xs s = leb-true o (8 * slice_index xs s) z in let le = index_more xs ys s in le-leb o (8 * slice_index (xs ++ ys) s) (omega (arith, lt, le))) (λ z. z) e

module _ (xs ys : List ℕ) where
  equality_firm : (a b : Value) → Firm (equality_of xs a b) (equality_of (xs ++ ys) a b)
  equality_firm (value.Word a) (value.Word b) = a_value
  equality_firm (value.Word a) (value.Block t q) = firm_unequal _ _ (and_more _ (is_in_more xs ys t q) (λ z. z))
  equality_firm (value.Word a) (value.Function g) = firm (equality_of xs (value.Word a) (value.Function g))
  equality_firm (value.Block s o) (value.Word b) = firm_unequal _ _ (and_more _ (is_in_more xs ys s o) (λ z. z))
  equality_firm (value.Block s o) (value.Block t q) = by (s == t)
    where
      by : (e : Bool) → Firm (cond e (Ok (o == q)) (unequal_if (is_in xs s o && is_in xs t q))) (cond e (Ok (o == q)) (unequal_if (is_in (xs ++ ys) s o && is_in (xs ++ ys) t q)))
      by true = a_value
      by false = firm_unequal _ _ (and_more _ (is_in_more xs ys s o) (is_in_more xs ys t q))
  equality_firm (value.Block s o) (value.Function g) = firm_unequal _ _ (is_in_more xs ys s o)
  equality_firm (value.Function f) (value.Word b) = firm (equality_of xs (value.Function f) (value.Word b))
  equality_firm (value.Function f) (value.Block t q) = firm_unequal _ _ (is_in_more xs ys t q)
  equality_firm (value.Function f) (value.Function g) = a_value

  order_firm : (holds : CmpOp → ℕ → ℕ → Bool) (op : CmpOp) (a b : Value) → Firm (order_of holds op xs a b) (order_of holds op (xs ++ ys) a b)
  order_firm holds op (value.Word a) (value.Word b) = a_value
  order_firm holds op (value.Word a) (value.Block t q) = no_value
  order_firm holds op (value.Word a) (value.Function g) = no_value
  order_firm holds op (value.Block s o) (value.Word b) = no_value
  order_firm holds op (value.Block s o) (value.Block t q) = firm_only _ _ _ _ (and_more _ (and_more _ (λ z. z) (is_near_more xs ys s o)) (is_near_more xs ys t q))
  order_firm holds op (value.Block s o) (value.Function g) = no_value
  order_firm holds op (value.Function f) (value.Word b) = no_value
  order_firm holds op (value.Function f) (value.Block t q) = no_value
  order_firm holds op (value.Function f) (value.Function g) = no_value

  comparison_firm : (holds : CmpOp → ℕ → ℕ → Bool) (op : CmpOp) (a b : Value) → Firm (comparison_of holds op xs a b) (comparison_of holds op (xs ++ ys) a b)
  comparison_firm holds Eq a b = firm_as (λ e. e) (equality_firm a b)
  comparison_firm holds Ne a b = firm_as not (equality_firm a b)
  comparison_firm holds Lt a b = order_firm holds Lt a b
  comparison_firm holds Le a b = order_firm holds Le a b
  comparison_firm holds Gt a b = order_firm holds Gt a b
  comparison_firm holds Ge a b = order_firm holds Ge a b

  pub apply_firm : (op : IntOp) (a b : Value) → Firm (apply op xs a b) (apply op (xs ++ ys) a b)
  apply_firm Add a b = firm (apply Add xs a b)
  apply_firm AddV a b = firm (apply AddV xs a b)
  apply_firm AddA a b = firm (apply AddA xs a b)
  apply_firm Sub a b = firm (apply Sub xs a b)
  apply_firm Mul a b = firm (apply Mul xs a b)
  apply_firm Mulh a b = firm (apply Mulh xs a b)
  apply_firm Div a b = firm (apply Div xs a b)
  apply_firm Mod a b = firm (apply Mod xs a b)
  apply_firm And a b = firm (apply And xs a b)
  apply_firm Or a b = firm (apply Or xs a b)
  apply_firm Xor a b = firm (apply Xor xs a b)
  apply_firm Shl a b = firm (apply Shl xs a b)
  apply_firm Shr a b = firm (apply Shr xs a b)
  apply_firm Sar a b = firm (apply Sar xs a b)
  apply_firm (Cmp op) a b = comparison_firm signed_holds op a b
  apply_firm (CmpU op) a b = comparison_firm unsigned_holds op a b

-- ---- cells

-- the cell is in no block from this serial on
pub data Low (s : ℕ) : Cell → Type 0 where
  low_header : {t : ℕ} → t < s → Low s (InHeader t)
  low_block : {t i : ℕ} → t < s → Low s (InBlock t i)
  low_static : {l i : ℕ} → Low s (InStatic l i)

pub data Cells (s : ℕ) : Option Cell → Option Cell → Type 0 where
  no_cell : {o : Option Cell} → Cells s None o
  a_cell : {cell : Cell} → Low s cell → Cells s (Some cell) (Some cell)

module _ (fs : List HeapBlock) where
  abbrev with_fresh : Memory → Memory
  with_fresh m = record m { blocks = m.blocks ++ fs }

  sizes_more : (m : Memory) → sizes (with_fresh m) ≡ sizes m ++ map (λ (block : HeapBlock). length block.cells) fs
  sizes_more m = map-append (λ (block : HeapBlock). length block.cells) m.blocks fs

  cells_cond : (s : ℕ) (b : Bool) (x y : Option Cell) → Cells s x y → Cells s (cond b x None) (cond b y None)
  cells_cond s true x y z = z
  cells_cond s false x y z = no_cell

  statics_cells : (s k : ℕ) (ls : List StaticList) (address bytes : ℕ) → Cells s (in_statics k ls address bytes) (in_statics k ls address bytes)
  statics_cells s k [] address bytes = no_cell
  statics_cells s k (l ∷ ls) address bytes = by (statics_cells s (suc k) ls address bytes) (nat_le l.start address && nat_le (address + bytes) (l.start + l.size))
    where
      by : Cells s (in_statics (suc k) ls address bytes) (in_statics (suc k) ls address bytes) → (b : Bool) → Cells s (cond b (Some (InStatic k ((address - l.start) / 8))) (in_statics (suc k) ls address bytes)) (cond b (Some (InStatic k ((address - l.start) / 8))) (in_statics (suc k) ls address bytes))
      by ih true = a_cell low_static
      by ih false = ih

  low_of : (s t i : ℕ) → t < s → Low s (cell_of_block t i)
  low_of s t zero lt = low_header lt
  low_of s t (suc i) lt = low_block lt

  -- a block's size, where there is one
  data Sized (s : ℕ) (t : ℕ) : Option ℕ → Option ℕ → Type 0 where
    no_size : {o : Option ℕ} → Sized s t None o
    a_size : {n : ℕ} → t < s → Sized s t (Some n) (Some n)

  sized : (xs ys : List ℕ) (t : ℕ) → Sized (length xs) t (slice_get xs t) (slice_get (xs ++ ys) t)
  sized [] ys t = no_size
  sized (x ∷ xs) ys zero = a_size (omega arith)
  sized (x ∷ xs) ys (suc t) = by (slice_get xs t) (slice_get (xs ++ ys) t) (sized xs ys t)
    where
      by : (x y : Option ℕ) → Sized (length xs) t x y → Sized (suc (length xs)) (suc t) x y
      by x y no_size = no_size
      by x y (a_size lt) = a_size (omega (arith, lt))

  length_sizes : (bs : List HeapBlock) → length (map (λ (block : HeapBlock). length block.cells) bs) ≡ length bs
  length_sizes [] = refl
  length_sizes (b ∷ bs) = ap suc (length_sizes bs)

  block_cells : (s t from bytes : ℕ) (x y : Option ℕ) → Sized s t x y → Cells s (in_block t x from bytes) (in_block t y from bytes)
  block_cells s t from bytes x y no_size = no_cell
  block_cells s t from bytes x y (a_size {n = n} lt) = by (nat_le (from + bytes) (8 * (n + 1)))
    where
      by : (b : Bool) → Cells s (cond b (Some (cell_of_block t (from / 8))) None) (cond b (Some (cell_of_block t (from / 8))) None)
      by true = a_cell (low_of s t (from / 8) lt)
      by false = no_cell

  cells_at : (m : Memory) (bytes : ℕ) (at : Value) → Cells (length m.blocks) (cell_at m bytes at) (cell_at (with_fresh m) bytes at)
  cells_at m bytes (value.Word address) = cells_cond _ (address % bytes == 0) _ _ (statics_cells _ 0 m.statics address bytes)
  cells_at m bytes (value.Block t o) =
      cells_cond _ (o % bytes == 0) _ _
      (block_cells _ t _ bytes _ _
      (subst (λ k. Sized k t (slice_get (sizes m) t) (slice_get (sizes (with_fresh m)) t)) (length_sizes m.blocks)
      (subst (λ xs. Sized (length (sizes m)) t (slice_get (sizes m) t) (slice_get xs t)) (sym (sizes_more m)) (sized (sizes m) (map (λ (block : HeapBlock). length block.cells) fs) t))))
  cells_at m bytes (value.Function g) = no_cell

  block_same : (m : Memory) (t : ℕ) → t < length m.blocks → slice_index_or (m.blocks ++ fs) t (record { header = 0; cells = [] }) ≡ slice_index_or m.blocks t (record { header = 0; cells = [] })
  block_same m t lt = get_or_append_left m.blocks fs (record { header = 0; cells = [] }) t lt

  value_same : (m : Memory) (cell : Cell) → Low (length m.blocks) cell → value_in_cell (with_fresh m) cell ≡ value_in_cell m cell
  value_same m (InHeader t) (low_header lt) = ap (λ (b : HeapBlock). value.Word b.header) (block_same m t lt)
  value_same m (InBlock t i) (low_block lt) = ap (λ (b : HeapBlock). slice_index_or b.cells i (value.Word 0)) (block_same m t lt)
  value_same m (InStatic l i) low_static = refl

  type_same : (m : Memory) (cell : Cell) → Low (length m.blocks) cell → type_in (with_fresh m) cell ≡ type_in m cell
  type_same m (InHeader t) (low_header lt) = refl
  type_same m (InBlock t i) (low_block lt) = ap (λ (b : HeapBlock). type_in (record m { blocks = b ∷ [] }) (InBlock 0 i)) (block_same m t lt)
  type_same m (InStatic l i) low_static = refl

  -- ---- stores

  pub data Stored (m : Memory) : Result Memory Kind → Result Memory Kind → Type 0 where
    not_stored : {k : Kind} {r : Result Memory Kind} → Stored m (Err k) r
    is_stored : {bs : List HeapBlock} {ss : List StaticList} → length bs ≡ length m.blocks → map shape_of bs ≡ map shape_of m.blocks →
        Stored m (Ok (record m { blocks = bs; statics = ss })) (Ok (record m { blocks = bs ++ fs; statics = ss }))

  with_same : (m : Memory) (cell : Cell) (v : Value) → Low (length m.blocks) cell → Stored m (Ok (with_cell_value m cell v)) (Ok (with_cell_value (with_fresh m) cell v))
  with_same m (InHeader t) v (low_header lt) = is_stored refl refl
  with_same m (InBlock t i) v (low_block lt) =
      let b : HeapBlock = slice_index_or m.blocks t (record { header = 0; cells = [] }) in
      subst (λ (z : HeapBlock). Stored m (Ok (with_cell_value m (InBlock t i) v)) (Ok (record m { blocks = slice_set (m.blocks ++ fs) t (record z { cells = slice_set z.cells i v }) }))) (sym (block_same m t lt))
      (subst (λ bs. Stored m (Ok (with_cell_value m (InBlock t i) v)) (Ok (record m { blocks = bs }))) (sym (set-append_left m.blocks fs t (record b { cells = slice_set b.cells i v }) lt))
      (is_stored (length-set m.blocks t (record b { cells = slice_set b.cells i v }))
      (map-set_same shape_of m.blocks t (record b { cells = slice_set b.cells i v }) (record { header = 0; cells = [] })
      (ap (λ k. record { header = b.header; cells = k }) (length-set b.cells i v)))))
  with_same m (InStatic l i) v low_static = is_stored refl refl

  put_in_same : (end : ℕ) (m : Memory) (cell : Cell) (v : Value) → Low (length m.blocks) cell → Stored m (put_in end m cell v) (put_in end (with_fresh m) cell v)
  put_in_same end m cell v low =
      subst (λ t. Stored m (put_in end m cell v) (cond (fits end t v) (Ok (with_cell_value (with_fresh m) cell v)) (Err (misfit t)))) (sym (type_same m cell low)) (by (fits end (type_in m cell) v))
    where
      by : (b : Bool) → Stored m (cond b (Ok (with_cell_value m cell v)) (Err (misfit (type_in m cell)))) (cond b (Ok (with_cell_value (with_fresh m) cell v)) (Err (misfit (type_in m cell))))
      by true = with_same m cell v low
      by false = not_stored

  put_part_same : (end : ℕ) (m : Memory) (cell : Cell) (offset bytes : ℕ) (old new : Value) → Low (length m.blocks) cell → Stored m (put_part end m cell offset bytes old new) (put_part end (with_fresh m) cell offset bytes old new)
  put_part_same end m cell offset bytes (value.Word old) (value.Word new) low = put_in_same end m cell (value.Word (replaced old offset bytes new)) low
  put_part_same end m cell offset bytes (value.Word old) (value.Block s o) low = not_stored
  put_part_same end m cell offset bytes (value.Word old) (value.Function g) low = not_stored
  put_part_same end m cell offset bytes (value.Block t o) new low = not_stored
  put_part_same end m cell offset bytes (value.Function g) new low = not_stored

  put_whole_same : (type : Ty) (end : ℕ) (m : Memory) (cell : Cell) (v : Value) → Low (length m.blocks) cell → Stored m (put_whole type end m cell v) (put_whole type end (with_fresh m) cell v)
  put_whole_same type end m cell v low = by (fits end type v)
    where
      by : (b : Bool) → Stored m (cond b (put_in end m cell v) (Err (misfit type))) (cond b (put_in end (with_fresh m) cell v) (Err (misfit type)))
      by true = put_in_same end m cell v low
      by false = not_stored

  part_same : (k : Chunk) (end : ℕ) (m : Memory) (cell : Cell) (offset : ℕ) (v : Value) → Low (length m.blocks) cell →
      Stored m (put_part end m cell offset (width k) (value_in_cell m cell) v) (put_part end (with_fresh m) cell offset (width k) (value_in_cell (with_fresh m) cell) v)
  part_same k end m cell offset v low =
      subst (λ old. Stored m (put_part end m cell offset (width k) (value_in_cell m cell) v) (put_part end (with_fresh m) cell offset (width k) old v)) (sym (value_same m cell low))
      (put_part_same end m cell offset (width k) (value_in_cell m cell) v low)

  stored_as_same : (k : Chunk) (end : ℕ) (m : Memory) (cell : Cell) (offset : ℕ) (v : Value) → Low (length m.blocks) cell → Stored m (stored_as k end m cell offset v) (stored_as k end (with_fresh m) cell offset v)
  stored_as_same chunk.Int end m cell offset v low = put_whole_same ty.Int end m cell v low
  stored_as_same chunk.Val end m cell offset v low = put_whole_same ty.Val end m cell v low
  stored_as_same chunk.U8 end m cell offset v low = part_same chunk.U8 end m cell offset v low
  stored_as_same chunk.I8 end m cell offset v low = part_same chunk.I8 end m cell offset v low
  stored_as_same chunk.U16 end m cell offset v low = part_same chunk.U16 end m cell offset v low
  stored_as_same chunk.I16 end m cell offset v low = part_same chunk.I16 end m cell offset v low
  stored_as_same chunk.U32 end m cell offset v low = part_same chunk.U32 end m cell offset v low
  stored_as_same chunk.I32 end m cell offset v low = part_same chunk.I32 end m cell offset v low

  stored_in_same : (k : Chunk) (m : Memory) (offset : ℕ) (cell : Cell) (v : Value) → Low (length m.blocks) cell → Stored m (stored_in k m offset (Some cell) v) (stored_in k (with_fresh m) offset (Some cell) v)
  stored_in_same k m offset (InHeader t) v low = not_stored
  stored_in_same k m offset (InBlock t i) v low = stored_as_same k (end_of_data m) m (InBlock t i) offset v low
  stored_in_same k m offset (InStatic l i) v low = stored_as_same k (end_of_data m) m (InStatic l i) offset v low

-- ---- what is unwritten

not_header : (s : ℕ) (cell : Cell) → Low s cell → same_cell cell (InHeader s) ≡ false
not_header s (InHeader t) (low_header lt) = eq_less t s lt
not_header s (InBlock t i) (low_block lt) = refl
not_header s (InStatic l i) low_static = refl

not_block : (s j : ℕ) (cell : Cell) → Low s cell → same_cell cell (InBlock s j) ≡ false
not_block s j (InHeader t) (low_header lt) = refl
not_block s j (InBlock t i) (low_block lt) = ap (λ b. b && nat_eq i j) (eq_less t s lt)
not_block s j (InStatic l i) low_static = refl

among_cells : (s : ℕ) (cell : Cell) → Low s cell → (i n : ℕ) (u : List Cell) → is_among_cells cell (cells_from s i n ++ u) ≡ is_among_cells cell u
among_cells s cell low i zero u = refl
among_cells s cell low i (suc n) u =
    ap (λ b. b || is_among_cells cell (cells_from s (suc i) n ++ u)) (not_block s i cell low) ∙ among_cells s cell low (suc i) n u

-- the cells of a block that is new, before others that are unwritten
abbrev unwritten_with : ℕ → NewBlock → List Cell → List Cell
unwritten_with s b u = InHeader s ∷ cells_from s 0 b.cells ++ u

among_low : (s : ℕ) (cell : Cell) → Low s cell → (b : NewBlock) (u : List Cell) → is_among_cells cell (unwritten_with s b u) ≡ is_among_cells cell u
among_low s cell low b u =
    ap (λ z. z || is_among_cells cell (cells_from s 0 b.cells ++ u)) (not_header s cell low) ∙ among_cells s cell low 0 b.cells u

without_cells : (s : ℕ) (cell : Cell) → Low s cell → (i n : ℕ) (u : List Cell) → without cell (cells_from s i n ++ u) ≡ cells_from s i n ++ without cell u
without_cells s cell low i zero u = refl
without_cells s cell low i (suc n) u =
    ap (λ b. cond b (without cell (cells_from s (suc i) n ++ u)) (InBlock s i ∷ without cell (cells_from s (suc i) n ++ u))) (not_block s i cell low)
    ∙ ap (λ xs. InBlock s i ∷ xs) (without_cells s cell low (suc i) n u)

without_low : (s : ℕ) (cell : Cell) → Low s cell → (b : NewBlock) (u : List Cell) → without cell (unwritten_with s b u) ≡ unwritten_with s b (without cell u)
without_low s cell low b u =
    ap (λ z. cond z (without cell (cells_from s 0 b.cells ++ u)) (InHeader s ∷ without cell (cells_from s 0 b.cells ++ u))) (not_header s cell low)
    ∙ ap (λ xs. InHeader s ∷ xs) (without_cells s cell low 0 b.cells u)

-- ---- what it does

-- where the first goes on, with as many blocks of the same sizes as before, the second goes on with one block more
pub data Steadies (b : NewBlock) (a : Around) : Act → Act → Type 0 where
  is_lost : {x : Act} → Steadies b a Stuck x
  goes_ahead : {vs : List Value} {after : Around} → length after.memory.blocks ≡ length a.memory.blocks →
      map shape_of after.memory.blocks ≡ map shape_of a.memory.blocks → after.tries ≡ a.tries →
      Steadies b a (Goes vs On after) (Goes vs On (with_block b after))

module _ (b : NewBlock) (a : Around) where
  one_steady : {r w : Result Value Kind} → Firm r w → Steadies b a (one_result a r) (one_result (with_block b a) w)
  one_steady no_value = is_lost
  one_steady a_value = goes_ahead refl refl refl

  known_steady : (o : Option Value) → Steadies b a (if_known a o) (if_known (with_block b a) o)
  known_steady (Some v) = goes_ahead refl refl refl
  known_steady None = is_lost

  abbrev fs : List HeapBlock
  fs = fresh_block b ∷ []

  abbrev more : Memory
  more = (with_block b a).memory

  abbrev count : ℕ
  count = length a.memory.blocks

  apply_steady : (f : IntOp) (x y : Value) → Steadies b a (one_result a (apply f (sizes a.memory) x y)) (one_result (with_block b a) (apply f (sizes more) x y))
  apply_steady f x y =
      one_steady (subst (λ s. Firm (apply f (sizes a.memory) x y) (apply f s x y)) (sym (sizes_more fs a.memory)) (apply_firm (sizes a.memory) (map (λ (block : HeapBlock). length block.cells) fs) f x y))

  pure_steady : (c : Setting) (f : Pure) (vs : List Value) → Steadies b a (pure_act c f vs a) (pure_act c f vs (with_block b a))
  pure_steady c (pure.Copy kind) [] = is_lost
  pure_steady c (pure.Copy kind) (x ∷ []) = goes_ahead refl refl refl
  pure_steady c (pure.Copy kind) (x ∷ y ∷ vs) = is_lost
  pure_steady c (pure.Constant w) [] = goes_ahead refl refl refl
  pure_steady c (pure.Constant w) (x ∷ vs) = is_lost
  pure_steady c (pure.Symbol name) [] = known_steady (c.symbol name)
  pure_steady c (pure.Symbol name) (x ∷ vs) = is_lost
  pure_steady c (pure.Operator f right.Register) [] = is_lost
  pure_steady c (pure.Operator f right.Register) (x ∷ []) = is_lost
  pure_steady c (pure.Operator f right.Register) (x ∷ y ∷ []) = apply_steady f x y
  pure_steady c (pure.Operator f right.Register) (x ∷ y ∷ z ∷ vs) = is_lost
  pure_steady c (pure.Operator f (right.Constant w)) [] = is_lost
  pure_steady c (pure.Operator f (right.Constant w)) (x ∷ []) = apply_steady f x (value.Word w)
  pure_steady c (pure.Operator f (right.Constant w)) (x ∷ y ∷ vs) = is_lost

  load_steady : (k : Chunk) (offset : ℕ) (o w : Option Cell) → Cells count o w → Steadies b a (loaded_act a o (loaded_from k a.memory offset o)) (loaded_act (with_block b a) w (loaded_from k more offset w))
  load_steady k offset o w no_cell = is_lost
  load_steady k offset o w (a_cell {cell = cell} low) =
      subst (λ z. Steadies b a (loaded_act a (Some cell) (loaded_from k a.memory offset (Some cell))) (cond z Stuck (one_result (with_block b a) (loaded_from k more offset (Some cell))))) (sym (among_low count cell low b a.unwritten))
      (subst (λ v. Steadies b a (loaded_act a (Some cell) (loaded_from k a.memory offset (Some cell))) (cond (is_among_cells cell a.unwritten) Stuck (one_result (with_block b a) (loaded_as k (end_of_data a.memory) offset v)))) (sym (value_same fs a.memory cell low))
      (by (is_among_cells cell a.unwritten)))
    where
      by : (z : Bool) → Steadies b a (cond z Stuck (one_result a (loaded_as k (end_of_data a.memory) offset (value_in_cell a.memory cell)))) (cond z Stuck (one_result (with_block b a) (loaded_as k (end_of_data a.memory) offset (value_in_cell a.memory cell))))
      by true = is_lost
      by false = one_steady (firm (loaded_as k (end_of_data a.memory) offset (value_in_cell a.memory cell)))

  goes_same : (after w : Around) → length after.memory.blocks ≡ count →
      map shape_of after.memory.blocks ≡ map shape_of a.memory.blocks → after.tries ≡ a.tries → w ≡ with_block b after → Steadies b a (Goes [] On after) (Goes [] On w)
  goes_same after w same shapes tries e = subst (λ z. Steadies b a (Goes [] On after) (Goes [] On z)) (sym e) (goes_ahead same shapes tries)

  -- after a store
  after_steady : (u w : List Cell) → w ≡ unwritten_with count b u → {r s : Result Memory Kind} → Stored fs a.memory r s → Steadies b a (after_store a u r) (after_store (with_block b a) w s)
  after_steady u w e not_stored = is_lost
  after_steady u w e (is_stored {bs = bs} {ss = ss} same sized) =
      goes_same (record a { memory = record a.memory { blocks = bs; statics = ss }; unwritten = u })
      (record a { memory = record a.memory { blocks = bs ++ fs; statics = ss }; unwritten = w }) same sized refl
      (ap (λ z. record a { memory = record a.memory { blocks = bs ++ fs; statics = ss }; unwritten = z }) (e ∙ ap (λ k. unwritten_with k b u) (sym same)))

  only_steady : (z : Bool) {x y : Act} → Steadies b a x y → Steadies b a (stuck_unless z x) (stuck_unless z y)
  only_steady true s = s
  only_steady false s = is_lost

  header_steady : (k : Chunk) (t : ℕ) → t < count → (x v : Value) → Steadies b a (header_written k a t x v) (header_written k (with_block b a) t x v)
  header_steady chunk.Int t lt (value.Word h) (value.Word w) =
      only_steady (nat_eq w h)
      (goes_same (record a { unwritten = without (InHeader t) a.unwritten })
      (record (with_block b a) { unwritten = without (InHeader t) (unwritten_with count b a.unwritten) }) refl refl refl
      (ap (λ z. record (with_block b a) { unwritten = z }) (without_low count (InHeader t) (low_header lt) b a.unwritten)))
  header_steady chunk.Int t lt (value.Word h) (value.Block s o) = is_lost
  header_steady chunk.Int t lt (value.Word h) (value.Function g) = is_lost
  header_steady chunk.Int t lt (value.Block s o) v = is_lost
  header_steady chunk.Int t lt (value.Function g) v = is_lost
  header_steady chunk.Val t lt x v = is_lost
  header_steady chunk.U8 t lt x v = is_lost
  header_steady chunk.I8 t lt x v = is_lost
  header_steady chunk.U16 t lt x v = is_lost
  header_steady chunk.I16 t lt x v = is_lost
  header_steady chunk.U32 t lt x v = is_lost
  header_steady chunk.I32 t lt x v = is_lost

  first_steady : (k : Chunk) (cell : Cell) → Low count cell → (x v : Value) → Stored fs a.memory (stored k a.memory x v) (stored k more x v) → Steadies b a (first_written k a cell x v) (first_written k (with_block b a) cell x v)
  first_steady k (InHeader t) (low_header lt) x v s =
      subst (λ h. Steadies b a (header_written k a t (value_in_cell a.memory (InHeader t)) v) (header_written k (with_block b a) t h v))
      (sym (value_same fs a.memory (InHeader t) (low_header lt))) (header_steady k t lt (value_in_cell a.memory (InHeader t)) v)
  first_steady k (InBlock t i) (low_block lt) x v s =
      only_steady (nat_eq (width k) 8)
      (after_steady (without (InBlock t i) a.unwritten) (without (InBlock t i) (unwritten_with count b a.unwritten)) (without_low count (InBlock t i) (low_block lt) b a.unwritten) s)
  first_steady k (InStatic l i) low_static x v s = is_lost

  store_steady : (k : Chunk) (x v : Value) (o w : Option Cell) → cell_at a.memory (width k) x ≡ o → cell_at more (width k) x ≡ w → Cells count o w → Steadies b a (stored_act k a o x v) (stored_act k (with_block b a) w x v)
  store_steady k x v o w e g no_cell = is_lost
  store_steady k x v o w e g (a_cell {cell = cell} low) =
      let s : Stored fs a.memory (stored k a.memory x v) (stored k more x v) =
      subst (λ z. Stored fs a.memory (stored_in k a.memory (offset_in_cell x) z v) (stored k more x v)) (sym e)
      (subst (λ z. Stored fs a.memory (stored_in k a.memory (offset_in_cell x) (Some cell) v) (stored_in k more (offset_in_cell x) z v)) (sym g) (stored_in_same fs k a.memory (offset_in_cell x) cell v low)) in
      subst (λ z. Steadies b a (stored_act k a (Some cell) x v) (cond z (first_written k (with_block b a) cell x v) (after_store (with_block b a) (unwritten_with count b a.unwritten) (stored k more x v)))) (sym (among_low count cell low b a.unwritten))
      (by s (is_among_cells cell a.unwritten))
    where
      by : Stored fs a.memory (stored k a.memory x v) (stored k more x v) → (z : Bool) →
          Steadies b a (cond z (first_written k a cell x v) (after_store a a.unwritten (stored k a.memory x v))) (cond z (first_written k (with_block b a) cell x v) (after_store (with_block b a) (unwritten_with count b a.unwritten) (stored k more x v)))
      by s true = first_steady k cell low x v s
      by s false = after_steady a.unwritten (unwritten_with count b a.unwritten) refl s

  access_steady : (f : Access) → ((blocks : List NewBlock) → f ≡ access.Alloc blocks → ⊥) → (vs : List Value) → Steadies b a (access_act f vs a) (access_act f vs (with_block b a))
  access_steady (access.Load k n) apart [] = is_lost
  access_steady (access.Load k n) apart (x ∷ []) = load_steady k (offset_in_cell (moved_by n x)) _ _ (cells_at fs a.memory (width k) (moved_by n x))
  access_steady (access.Load k n) apart (x ∷ y ∷ vs) = is_lost
  access_steady (access.Store k n) apart [] = is_lost
  access_steady (access.Store k n) apart (x ∷ []) = is_lost
  access_steady (access.Store k n) apart (x ∷ v ∷ []) = store_steady k (moved_by n x) v _ _ refl refl (cells_at fs a.memory (width k) (moved_by n x))
  access_steady (access.Store k n) apart (x ∷ v ∷ z ∷ vs) = is_lost
  access_steady (access.Alloc blocks) apart vs = absurd (apart blocks refl)

  -- What may be in a straight run, and is no allocation.
  pub steady : (c : Setting) (f : Op) (vs : List Value) → is_straight (mach.Op f) ≡ true → ((blocks : List NewBlock) → f ≡ op.Access (access.Alloc blocks) → ⊥) →
      Steadies b a (act c f vs a) (act c f vs (with_block b a))
  steady c (op.Pure f) vs e apart = pure_steady c f vs
  steady c (op.Access f) vs e apart = access_steady f (λ blocks g. apart blocks (ap op.Access g)) vs
  steady c (op.Calling f) vs e apart = absurd (true≢false (sym e))
  steady c (op.Leaving f) vs e apart = absurd (true≢false (sym e))
