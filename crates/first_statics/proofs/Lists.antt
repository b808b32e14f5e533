-- The lists of static data: their bytes keep what cells ask, and the words of their bytes are those of their cells.
use Rattle.std.proofs.Common.{◌≡◌, ℕ, zero, suc, ◌+◌, ◌-◌, ◌*◌, ◌/◌, ◌%◌, ◌^◌, ◌<◌, ◌≤◌, true, List, [], ◌∷◌, ◌++◌, length, map, flat_map, take, replicate, Option, Some, None, refl, ap, ap₂, ◌∙◌, sym, subst, length-append, arith}
use Rattle.std.specs.Prelude.{slice_get, slice_index}
use Rattle.std.specs.List.{AllByRecursion}
use Rattle.std.proofs.lemmas.Bool.{eqb-true}
use Rattle.std.proofs.lemmas.List.{length-map}
use Rattle.std.proofs.lemmas.Grind.{flat_map-append}
use Rattle.std.proofs.lemmas.Option.{slice_get_within}
use Rattle.bs_words.specs.Fits.{data_limit, data_start}
use Rattle.bs_words.specs.Memory.{StaticList}
use Rattle.bs_words.specs.declared.values.Value.{Value}
use Rattle.bs_words.specs.declared.values.Value.TheVariants.{Word, Block, Function}
use Rattle.cmm_data.specs.Contents.{DataByte, Plain, OfFunction, little_endian, zeros, bytes_of_integer, symbol_bytes, bytes_at, bytes_of_items, cells_of, static_list, statics}
use Rattle.cmm_data.specs.Faults.{keeps_rule, first_fault, data_fault_of}
use Rattle.cmm_data.specs.Placement.{size_at, items_from, start_behind, end_behind, end_of_lists, lists_behind, lists_of, items_of_lists, value_of_symbol, data_bytes}
use Rattle.cmm_data.proofs.Steps.{length-bytes_at, end-within}
use Rattle.cmm_data.proofs.Walk.{sound-first, sound-list, start-within}
use Rattle.cmm_tree.specs.Tree.{DatumTree, Define, Byte, Half, Int, Val, Address, Skip, Align, Text, Global, AFloat, DataItemTree, DataListTree, FileTree, functions}
use Rattle.assemble_rules.proofs.Placed.{end_of_lists-above, items_length, cells_enough}
use Rattle.rv_layout_rules.proofs.Rules.{all_append}
use Rattle.rv_layout_rules.specs.Laid.{address_of_place, cell_bytes, data_of}
use Rattle.rv_machine.specs.Memory.{words_of_bytes}
use Rattle.accepted_files.specs.Given.{IsDatumGiven, AreDataGiven, HasGivenData}
use Rattle.first_statics.proofs.Bytes.{word_bytes, WordsFit, fit_more, fit_both, words_cut}
use Rattle.first_statics.proofs.Cells.{IsDataByte, AreWhole, whole_both, word_in, cells_fit}
use Rattle.first_statics.proofs.Symbols.{IsOfFile, symbol_of_file}

-- ---- bytes of items

little_bytes : (count k word : ℕ) → AllByRecursion (IsDataByte count) (little_endian k word)
little_bytes count zero word = tt
little_bytes count (suc k) word = (omega arith, little_bytes count k (word / 256))

zero_bytes : (count k : ℕ) → AllByRecursion (IsDataByte count) (zeros k)
zero_bytes count zero = tt
zero_bytes count (suc k) = (omega arith, zero_bytes count k)

function_bytes : (count f k : ℕ) → f < count → AllByRecursion (IsDataByte count) (replicate k (OfFunction f))
function_bytes count f zero h = tt
function_bytes count f (suc k) h = (h, function_bytes count f k h)

integer_bytes : (count k : ℕ) (word : Option ℕ) → AllByRecursion (IsDataByte count) (bytes_of_integer k word)
integer_bytes count k (Some word) = little_bytes count k word
integer_bytes count k None = zero_bytes count k

string_bytes : (count : ℕ) (bs : List ℕ) → AllByRecursion (λ b. b < 256) bs → AllByRecursion (IsDataByte count) (map Plain bs)
string_bytes count [] p = tt
string_bytes count (b ∷ bs) p = (p.0, string_bytes count bs p.1)

of_symbol : (count end : ℕ) (o : Option Value) → ((v : Value) → o ≡ Some v → IsOfFile count end v) → AllByRecursion (IsDataByte count) (symbol_bytes o)
of_symbol count end (Some (Word address)) h = little_bytes count 8 address
of_symbol count end (Some (Function f)) h = function_bytes count f 8 (h (Function f) refl)
of_symbol count end (Some (Block serial offset)) h = zero_bytes count 8
of_symbol count end None h = zero_bytes count 8

item_bytes : (file : FileTree) (address : ℕ) (datum : DatumTree) → IsDatumGiven file datum →
    AllByRecursion (IsDataByte (length (functions file))) (bytes_at (value_of_symbol file) address datum)
item_bytes file address (Byte word) given = integer_bytes _ 1 word
item_bytes file address (Half word) given = integer_bytes _ 2 word
item_bytes file address (Int word) given = integer_bytes _ 8 word
item_bytes file address (Val word) given = integer_bytes _ 8 word
item_bytes file address (Address root name_at name) given = of_symbol _ _ (value_of_symbol file name) (symbol_of_file file name)
item_bytes file address (Text bytes) given = string_bytes _ bytes given
item_bytes file address (Define name) given = tt
item_bytes file address (Skip count) given = zero_bytes _ (size_at address (Skip count))
item_bytes file address (Align unit) given = zero_bytes _ (size_at address (Align unit))
item_bytes file address (Global name_at name) given = tt
item_bytes file address AFloat given = tt

pub items_bytes : (file : FileTree) (address : ℕ) (items : List DataItemTree) → AllByRecursion (λ (i : DataItemTree). IsDatumGiven file i.datum) items →
    AllByRecursion (IsDataByte (length (functions file))) (bytes_of_items (value_of_symbol file) (items_from address items))
items_bytes file address [] given = tt
items_bytes file address (i ∷ items) given =
    let next = address + size_at address i.datum in
    all_append (IsDataByte (length (functions file))) (bytes_at (value_of_symbol file) address i.datum) (bytes_of_items (value_of_symbol file) (items_from next items))
    (item_bytes file address i.datum given.0) (items_bytes file next items given.1)

-- ---- addresses of functions fill their cells

abbrev IsPlain : DataByte → Type 0
IsPlain (Plain b) = Unit {0}
IsPlain (OfFunction f) = ⊥

plain_get : (bs : List DataByte) (i f : ℕ) → AllByRecursion IsPlain bs → slice_get bs i ≡ Some (OfFunction f) → ⊥
plain_get [] i f p e = absurd (let no' : None ≡ Some (OfFunction f) = e in cc)
plain_get (b ∷ bs) zero f p e = let same : b ≡ OfFunction f = cc in subst IsPlain same p.0
plain_get (b ∷ bs) (suc i) f p e = plain_get bs i f p.1 e

plain_whole : (offset : ℕ) (bs : List DataByte) → AllByRecursion IsPlain bs → AreWhole offset bs
plain_whole offset bs p = record { each = λ i f even is. absurd (plain_get bs i f p is) }

plain_little : (k word : ℕ) → AllByRecursion IsPlain (little_endian k word)
plain_little zero word = tt
plain_little (suc k) word = (tt, plain_little k (word / 256))

plain_zeros : (k : ℕ) → AllByRecursion IsPlain (zeros k)
plain_zeros zero = tt
plain_zeros (suc k) = (tt, plain_zeros k)

plain_integer : (k : ℕ) (word : Option ℕ) → AllByRecursion IsPlain (bytes_of_integer k word)
plain_integer k (Some word) = plain_little k word
plain_integer k None = plain_zeros k

plain_string : (bs : List ℕ) → AllByRecursion IsPlain (map Plain bs)
plain_string [] = tt
plain_string (b ∷ bs) = (tt, plain_string bs)

symbol_whole : (address : ℕ) (o : Option Value) → address % 8 ≡ 0 → AreWhole address (symbol_bytes o)
symbol_whole address (Some (Word a)) even = plain_whole address _ (plain_little 8 a)
symbol_whole address (Some (Function f)) even =
    record { each = λ i g here is. let within = slice_get_within (replicate 8 (OfFunction f)) i (OfFunction g) is in omega (arith, even, here, within) }
symbol_whole address (Some (Block serial offset)) even = plain_whole address _ (plain_zeros 8)
symbol_whole address None even = plain_whole address _ (plain_zeros 8)

item_whole : (symbols : List ℕ → Option Value) (address : ℕ) (datum : DatumTree) → keeps_rule address datum ≡ true → AreWhole address (bytes_at symbols address datum)
item_whole symbols address (Byte word) keeps = plain_whole address _ (plain_integer 1 word)
item_whole symbols address (Half word) keeps = plain_whole address _ (plain_integer 2 word)
item_whole symbols address (Int word) keeps = plain_whole address _ (plain_integer 8 word)
item_whole symbols address (Val word) keeps = plain_whole address _ (plain_integer 8 word)
item_whole symbols address (Address root name_at name) keeps = symbol_whole address (symbols name) (eqb-true (address % 8) 0 keeps)
item_whole symbols address (Text bytes) keeps = plain_whole address _ (plain_string bytes)
item_whole symbols address (Define name) keeps = plain_whole address _ tt
item_whole symbols address (Skip count) keeps = plain_whole address _ (plain_zeros (size_at address (Skip count)))
item_whole symbols address (Align unit) keeps = plain_whole address _ (plain_zeros (size_at address (Align unit)))
item_whole symbols address (Global name_at name) keeps = plain_whole address _ tt
item_whole symbols address AFloat keeps = plain_whole address _ tt

items_whole : (symbols : List ℕ → Option Value) (address : ℕ) (items : List DataItemTree) → address ≤ data_start + data_limit → first_fault (items_from address items) ≡ None →
    AreWhole address (bytes_of_items symbols (items_from address items))
items_whole symbols address [] within none = plain_whole address [] tt
items_whole symbols address (i ∷ items) within none =
    let sound = sound-first address i items within none in
    let own = bytes_at symbols address i.datum in
    let next = address + size_at address i.datum in
    let same : next ≡ address + length own = ap (λ n. address + n) (sym (length-bytes_at symbols address i.datum)) in
    let later = items_whole symbols next items sound.within sound.behind in
    whole_both address own (bytes_of_items symbols (items_from next items)) (item_whole symbols address i.datum sound.rule)
    (subst (λ n. AreWhole n (bytes_of_items symbols (items_from next items))) same later)

-- from the start of a list
whole_from : (start : ℕ) (bs : List DataByte) → start % 8 ≡ 0 → AreWhole start bs → AreWhole 0 bs
whole_from start bs even p = record { each = λ i f here is. p.each i f (omega (arith, even, here)) is }

-- ---- lists

-- Lists after an address have no fault, and their items are given.
pub record AreSound (file : FileTree) (end : ℕ) (lists : List DataListTree) : Type 0 where
  pub within : end ≤ data_start + data_limit
  pub none : first_fault (items_of_lists (lists_behind end lists)) ≡ None
  pub given : AreDataGiven file lists

-- So is the first of them, and those after it.
pub record IsFirstSound (file : FileTree) (end : ℕ) (d : DataListTree) (lists : List DataListTree) : Type 0 where
  pub within : start_behind end ≤ data_start + data_limit
  pub none : first_fault (items_from (start_behind end) d.items) ≡ None
  pub given : AllByRecursion (λ (i : DataItemTree). IsDatumGiven file i.datum) d.items
  pub later : AreSound file (end_behind end d) lists

pub first_sound : (file : FileTree) (end : ℕ) (d : DataListTree) (lists : List DataListTree) → AreSound file end (d ∷ lists) → IsFirstSound file end d lists
first_sound file end d lists s =
    let both = sound-list end d lists s.none in
    let start = start-within end s.within in
    record {
      within = start;
      none = both.0;
      given = s.given.0;
      later = record { within = (end-within (start_behind end) d.items start both.0).1; none = both.1; given = s.given.1 };
    }

pub file_sound : (file : FileTree) → data_fault_of file ≡ None → HasGivenData file → AreSound file data_start (lists_of file)
file_sound file none given = record { within = omega arith; none = none; given = ((tt, (tt, tt)), given.each) }

module _ (file : FileTree) (entries : List ℕ) (low : (f : ℕ) → address_of_place (slice_index entries f) < 2 ^ 64) where
  abbrev count : ℕ
  count = length (functions file)

  abbrev symbols : List ℕ → Option Value
  symbols = value_of_symbol file

  abbrev pub statics_from : ℕ → List DataListTree → List StaticList
  statics_from end lists = map (static_list symbols) (lists_behind end lists)

  abbrev pub word_at : Value → ℕ
  word_at v = word_in entries count low v

  -- the words of all cells
  abbrev pub words_from : ℕ → List DataListTree → List ℕ
  words_from end lists = flat_map (λ (l : StaticList). map word_at l.cells) (statics_from end lists)

  abbrev pub own_bytes : ℕ → DataListTree → List DataByte
  own_bytes end d = bytes_of_items symbols (items_from (start_behind end) d.items)

  -- the words of a list fill up its bytes
  pub own_fill : (end : ℕ) (d : DataListTree) → start_behind (end_behind end d) ≡ start_behind end + 8 * length (map word_at (cells_of (own_bytes end d)))
  own_fill end d =
      let bs = own_bytes end d in
      let enough = cells_enough bs in
      omega (arith, items_length symbols (start_behind end) d.items, enough.all, enough.no_more, length-map (cells_of bs) word_at)

  pub cells_fill : (end : ℕ) (lists : List DataListTree) → start_behind (end_of_lists end lists) ≡ start_behind end + 8 * length (words_from end lists)
  cells_fill end [] = omega arith
  cells_fill end (d ∷ lists) =
      let next = end_behind end d in
      omega (arith, own_fill end d, cells_fill next lists, length-append (map word_at (cells_of (own_bytes end d))) (words_from next lists))

  own_fits : (end : ℕ) (d : DataListTree) (lists : List DataListTree) → IsFirstSound file end d lists →
      WordsFit (end_behind end d - start_behind end) (map word_at (cells_of (own_bytes end d)))
  own_fits end d lists s =
      let bs = own_bytes end d in
      let start = start_behind end in
      let even : start % 8 ≡ 0 = omega arith in
      let same : length bs ≡ end_behind end d - start = omega (arith, items_length symbols start d.items) in
      subst (λ n. WordsFit n (map word_at (cells_of bs))) same
      (cells_fit entries count low bs (items_bytes file start d.items s.given) (whole_from start bs even (items_whole symbols start d.items s.within s.none)))

  lists_fit : (end : ℕ) (lists : List DataListTree) → AreSound file end lists → WordsFit (end_of_lists end lists - start_behind end) (words_from end lists)
  lists_fit end [] s = tt
  lists_fit end (d ∷ lists) s =
      let first = first_sound file end d lists s in
      let next = end_behind end d in
      let start = start_behind end in
      let own = map word_at (cells_of (own_bytes end d)) in
      let high = end_of_lists next lists in
      let above = end_of_lists-above next lists in
      let mine = fit_more (next - start) (high - start) own (omega (arith, above)) (own_fits end d lists first) in
      let left : high - start_behind next ≡ high - start - 8 * length own = omega (arith, own_fill end d) in
      fit_both (high - start) own (words_from next lists) mine (subst (λ n. WordsFit n (words_from next lists)) left (lists_fit next lists first.later))

  -- ---- bytes of cells

  own_same : (vs : List Value) → flat_map (cell_bytes entries) vs ≡ flat_map word_bytes (map word_at vs)
  own_same [] = refl
  own_same (v ∷ vs) = ap (λ (bs : List ℕ). cell_bytes entries v ++ bs) (own_same vs)

  bytes_same : (ls : List StaticList) → flat_map (λ (l : StaticList). flat_map (cell_bytes entries) l.cells) ls
      ≡ flat_map word_bytes (flat_map (λ (l : StaticList). map word_at l.cells) ls)
  bytes_same [] = refl
  bytes_same (l ∷ ls) =
      ap₂ (λ (xs ys : List ℕ). xs ++ ys) (own_same l.cells) (bytes_same ls)
      ∙ sym (flat_map-append word_bytes (map word_at l.cells) (flat_map (λ (l : StaticList). map word_at l.cells) ls))

  -- The words of the bytes of the data are those of the cells.
  pub data_words : AreSound file data_start (lists_of file) → words_of_bytes (data_of file entries) ≡ words_from data_start (lists_of file)
  data_words s =
      let ws = words_from data_start (lists_of file) in
      let fill = cells_fill data_start (lists_of file) in
      let start : start_behind data_start ≡ data_start = refl in
      let above = end_of_lists-above data_start (lists_of file) in
      ap (λ (bs : List ℕ). words_of_bytes (take (data_bytes file) bs)) (bytes_same (statics file))
      ∙ words_cut ws (data_bytes file) (lists_fit data_start (lists_of file) s) (omega (arith, fill, start, above)) (omega (arith, fill, start, above))
