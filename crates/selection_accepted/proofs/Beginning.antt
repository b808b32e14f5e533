-- The memory that a run of a file begins with holds words, where the text is of bytes.
use Rattle.std.proofs.Common.{◌≡◌, ℕ, zero, suc, ◌+◌, ◌*◌, ◌/◌, ◌<◌, ◌≤◌, ◌^◌, List, [], ◌∷◌, ◌++◌, map, length, replicate, Option, Some, None, Ok, arith, subst, sym}
use Rattle.std.specs.Prelude.{slice_index_or}
use Rattle.std.proofs.lemmas.Nat.{pow-add}
use Rattle.std.proofs.Math.Pow.{pow_pos}
use Rattle.bs_words.specs.Fits.{data_start}
use Rattle.bs_words.specs.Memory.{StaticList, Cell, InHeader, InBlock, InStatic, value_in_cell}
use Rattle.bs_words.specs.declared.values.Value.{Value}
use Rattle.bs_words.specs.declared.values.Value.TheVariants.{Word, Block, Function}
use Rattle.cmm_data.specs.Contents.{DataByte, Plain, OfFunction, little_endian, zeros, bytes_of_integer, symbol_bytes, bytes_at, bytes_of_items, byte_number, word_of_bytes, cell_of, cells_of, static_list, first_memory}
use Rattle.cmm_data.specs.Placement.{items_from, size_at, start_behind, end_behind, lists_behind, built_in_list, value_of_symbol}
use Rattle.cmm_lex.proofs.Languages.{AreBytes}
use Rattle.cmm_reader.specs.Text as said
use Rattle.cmm_reader.specs.Text.{ReadsAs}
use Rattle.cmm_front.specs.FileOf.{IsFileOf}
use Rattle.cmm_tree.specs.Tree.{DatumTree, Define, Byte, Half, Int, Val, Address, Skip, Align, Text, Global, AFloat, DataItemTree, DataListTree, ItemTree, AFunction, AData, FileTree, data_among, data_lists}
use Rattle.selection_rules.specs.Bounded.{Bounded, BoundedMemory}
use Rattle.selection_accepted.proofs.DataBytes.{DatumBytes, DataBytes, ItemsBytes, tokens_bytes, items_bytes}

-- ---- bytes

abbrev IsByte : DataByte → Type 0
IsByte (Plain b) = b < 256
IsByte (OfFunction f) = Unit {0}

abbrev AllBytes : List DataByte → Type 0
AllBytes [] = Unit {0}
AllBytes (b ∷ bs) = IsByte b × AllBytes bs

both_bytes : (xs ys : List DataByte) → AllBytes xs → AllBytes ys → AllBytes (xs ++ ys)
both_bytes [] ys p q = q
both_bytes (x ∷ xs) ys p q = (p.0, both_bytes xs ys p.1 q)

little_bytes : (count word : ℕ) → AllBytes (little_endian count word)
little_bytes zero word = tt
little_bytes (suc count) word = (omega arith, little_bytes count (word / 256))

zero_bytes : (count : ℕ) → AllBytes (zeros count)
zero_bytes zero = tt
zero_bytes (suc count) = (omega arith, zero_bytes count)

function_bytes : (f count : ℕ) → AllBytes (replicate count (OfFunction f))
function_bytes f zero = tt
function_bytes f (suc count) = (tt, function_bytes f count)

integer_bytes : (count : ℕ) (o : Option ℕ) → AllBytes (bytes_of_integer count o)
integer_bytes count (Some word) = little_bytes count word
integer_bytes count None = zero_bytes count

of_symbol : (o : Option Value) → AllBytes (symbol_bytes o)
of_symbol (Some (Word address)) = little_bytes 8 address
of_symbol (Some (Function f)) = function_bytes f 8
of_symbol (Some (Block serial offset)) = zero_bytes 8
of_symbol None = zero_bytes 8

plain_bytes : (bs : List ℕ) → AreBytes bs → AllBytes (map Plain bs)
plain_bytes [] p = tt
plain_bytes (b ∷ bs) p = (p.0, plain_bytes bs p.1)

datum_bytes : (f : List ℕ → Option Value) (address : ℕ) (d : DatumTree) → DatumBytes d → AllBytes (bytes_at f address d)
datum_bytes f address (Byte word) p = integer_bytes 1 word
datum_bytes f address (Half word) p = integer_bytes 2 word
datum_bytes f address (Int word) p = integer_bytes 8 word
datum_bytes f address (Val word) p = integer_bytes 8 word
datum_bytes f address (Address root name_at name) p = of_symbol (f name)
datum_bytes f address (Text bytes) p = plain_bytes bytes p
datum_bytes f address (Define name) p = zero_bytes (size_at address (Define name))
datum_bytes f address (Skip count) p = zero_bytes (size_at address (Skip count))
datum_bytes f address (Align unit) p = zero_bytes (size_at address (Align unit))
datum_bytes f address (Global name_at name) p = zero_bytes (size_at address (Global name_at name))
datum_bytes f address AFloat p = zero_bytes (size_at address AFloat)

item_bytes : (f : List ℕ → Option Value) (address : ℕ) (items : List DataItemTree) → DataBytes items → AllBytes (bytes_of_items f (items_from address items))
item_bytes f address [] p = tt
item_bytes f address (i ∷ items) p =
    both_bytes (bytes_at f address i.datum) (bytes_of_items f (items_from (address + size_at address i.datum) items)) (datum_bytes f address i.datum p.0) (item_bytes f (address + size_at address i.datum) items p.1)

-- ---- cells

number_below : (b : DataByte) → IsByte b → byte_number b < 256
number_below (Plain b) p = p
number_below (OfFunction f) p = omega arith

word_below : (n : ℕ) (bs : List DataByte) → length bs ≤ n → AllBytes bs → word_of_bytes bs < 2 ^ (8 * n)
word_below n [] le p = pow_pos (8 * n)
word_below zero (b ∷ bs) le p = absurd (omega (arith, le))
word_below (suc n) (b ∷ bs) le p =
    let few = number_below b p.0 in
    let w : ℕ = word_of_bytes bs in
    let less : w < 2 ^ (8 * n) = word_below n bs (omega (arith, le)) p.1 in
    let next : 2 ^ (8 + 8 * n) ≡ 2 ^ 8 * 2 ^ (8 * n) = pow-add 2 8 (8 * n) in
    let same : 8 + 8 * n ≡ 8 * suc n = omega arith in
    let m : ℕ = 2 ^ (8 * n) in
    subst (λ k. byte_number b + 256 * w < 2 ^ k) same (subst (λ k. byte_number b + 256 * w < k) (sym next) (let r : byte_number b + 256 * w < 256 * m = omega (arith, few, less) in r))

cell_bounded : (bs : List DataByte) → length bs ≤ 8 → AllBytes bs → Bounded (cell_of bs)
cell_bounded [] le p = omega arith
cell_bounded (OfFunction f ∷ bs) le p = tt
cell_bounded (Plain b ∷ bs) le p = word_below 8 (Plain b ∷ bs) le p

zero_word : 0 < 2 ^ 64
zero_word = omega arith

last_cell : (bs : List DataByte) → length bs ≤ 8 → AllBytes bs → (i : ℕ) → Bounded (slice_index_or (cell_of bs ∷ []) i (Word 0))
last_cell bs le p zero = cell_bounded bs le p
last_cell bs le p (suc i) = zero_word

cells_bounded : (bs : List DataByte) → AllBytes bs → (i : ℕ) → Bounded (slice_index_or (cells_of bs) i (Word 0))
cells_bounded [] p i = zero_word
cells_bounded (a ∷ []) p i = last_cell (a ∷ []) (omega arith) p i
cells_bounded (a ∷ b ∷ []) p i = last_cell (a ∷ b ∷ []) (omega arith) p i
cells_bounded (a ∷ b ∷ c ∷ []) p i = last_cell (a ∷ b ∷ c ∷ []) (omega arith) p i
cells_bounded (a ∷ b ∷ c ∷ d ∷ []) p i = last_cell (a ∷ b ∷ c ∷ d ∷ []) (omega arith) p i
cells_bounded (a ∷ b ∷ c ∷ d ∷ e ∷ []) p i = last_cell (a ∷ b ∷ c ∷ d ∷ e ∷ []) (omega arith) p i
cells_bounded (a ∷ b ∷ c ∷ d ∷ e ∷ f ∷ []) p i = last_cell (a ∷ b ∷ c ∷ d ∷ e ∷ f ∷ []) (omega arith) p i
cells_bounded (a ∷ b ∷ c ∷ d ∷ e ∷ f ∷ g ∷ []) p i = last_cell (a ∷ b ∷ c ∷ d ∷ e ∷ f ∷ g ∷ []) (omega arith) p i
cells_bounded (a ∷ b ∷ c ∷ d ∷ e ∷ f ∷ g ∷ h ∷ rest) p zero =
    cell_bounded (a ∷ b ∷ c ∷ d ∷ e ∷ f ∷ g ∷ h ∷ []) (omega arith) (p.0, (p.1.0, (p.1.1.0, (p.1.1.1.0, (p.1.1.1.1.0, (p.1.1.1.1.1.0, (p.1.1.1.1.1.1.0, (p.1.1.1.1.1.1.1.0, tt))))))))
cells_bounded (a ∷ b ∷ c ∷ d ∷ e ∷ f ∷ g ∷ h ∷ rest) p (suc i) = cells_bounded rest p.1.1.1.1.1.1.1.1 i

-- ---- lists

abbrev ListsBytes : List DataListTree → Type 0
ListsBytes [] = Unit {0}
ListsBytes (d ∷ lists) = DataBytes d.items × ListsBytes lists

lists_among : (items : List ItemTree) → ItemsBytes items → ListsBytes (data_among items)
lists_among [] p = tt
lists_among (AFunction f ∷ items) p = lists_among items p
lists_among (AData d ∷ items) p = (p.0, lists_among items p.1)

abbrev no_list : StaticList
no_list = record { start = 0; size = 0; cells = [] }

lists_bounded : (f : List ℕ → Option Value) (end : ℕ) (lists : List DataListTree) → ListsBytes lists → (l i : ℕ) →
    Bounded (slice_index_or (slice_index_or (map (static_list f) (lists_behind end lists)) l no_list).cells i (Word 0))
lists_bounded f end [] p l i = zero_word
lists_bounded f end (d ∷ lists) p zero i = cells_bounded (bytes_of_items f (items_from (start_behind end) d.items)) (item_bytes f (start_behind end) d.items p.0) i
lists_bounded f end (d ∷ lists) p (suc l) i = lists_bounded f (end_behind end d) lists p.1 l i

beginning_bounded : (file : FileTree) → ItemsBytes file.items → BoundedMemory (first_memory file)
beginning_bounded file p = record { each = each }
  where
    each : (cell : Cell) → Bounded (value_in_cell (first_memory file) cell)
    each (InHeader s) = zero_word
    each (InBlock s i) = zero_word
    each (InStatic l i) = lists_bounded (value_of_symbol file) data_start (built_in_list ∷ data_lists file) ((tt, (tt, tt)), lists_among file.items p) l i

pub read_bytes : (text : List ℕ) (file : FileTree) → ReadsAs text (Ok file) → AreBytes text → ItemsBytes file.items
read_bytes text _ (said.file tokens items short cut are faultless) bytes = items_bytes _ items tokens are (tokens_bytes 0 text tokens None cut bytes)

-- The memory that a run of a file that the front accepts begins with holds words.
pub front_memory : (text : List ℕ) (file : FileTree) → AreBytes text → IsFileOf text file → BoundedMemory (first_memory file)
front_memory text file bytes is = beginning_bounded file (read_bytes text file is.read bytes)
