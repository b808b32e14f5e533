-- The symbols that an accepted file names are defined in it, and its static data is given.
use Rattle.std.proofs.Common.{◌≡◌, ◌∙◌, ℕ, suc, ◌<◌, Bool, true, false, cond, List, [], ◌∷◌, ◌++◌, map, Option, Some, None, bytes_eq, refl, sym, ap, ap₂, subst}
use Rattle.std.specs.Prelude.{IsSome, Contains}
use Rattle.std.specs.List.{AllByRecursion}
use Rattle.std.proofs.lemmas.List.{map-append}
use Rattle.bs_words.specs.Fits.{data_start}
use Rattle.cmm_data.specs.Placement.{DataSymbolTree, DefinedValue, definition_of_data, placed_symbols, items_from, start_behind, end_behind, defined_by_list, defined_from, definitions, value_among, value_of_symbol}
use Rattle.cmm_data.specs.Placement as placement
use Rattle.cmm_data.proofs.Table.{value_among-more}
use Rattle.bs_words.specs.declared.values.Value.{Value}
use Rattle.cmm_front.specs.FileOf.{IsFileOf}
use Rattle.cmm_lex.proofs.Languages.{AreBytes}
use Rattle.cmm_tree.specs.Symbols.{DefinedSymbol, data_symbols, definition_of}
use Rattle.cmm_tree.specs.Symbols as defined
use Rattle.cmm_tree.specs.Tree.{DatumTree, Define, Byte, Half, Int, Val, Address, Skip, Align, Text, Global, AFloat, DataItemTree, DataListTree, ItemTree, AFunction, AData, FileTree, data_among, data_lists}
use Rattle.cmm_types.specs.Faults.{unknown_address}
use Rattle.cmm_types.specs.Gathered.{first_symbols}
use Rattle.cmm_types.proofs.FirstSymbols.{agree-from, agree-at, with_symbols-agrees}
use Rattle.cmm_types.proofs.Containing.{contains_head, contains_tail}
use Rattle.selection_accepted.proofs.DataBytes.{DatumBytes, DataBytes, ItemsBytes}
use Rattle.accepted_files.specs.Given.{IsDatumGiven, AreDataGiven, HasGivenData}
use Rattle.accepted_files.proofs.Differ.{names, names_append, data_names, item_names}
use Rattle.accepted_files.proofs.Files.{read_of, lists_fine}
use Rattle.accepted_files.proofs.Spelled.{IsFine, AreFine, items_named}
use Rattle.selection_accepted.proofs.Beginning.{read_bytes}

-- ---- definitions have the names of the symbols

of_data : (ss : List DataSymbolTree) → map (λ (d : DefinedValue). d.name) (map definition_of_data ss) ≡ data_names ss
of_data [] = refl
of_data (s ∷ ss) = ap (λ (ns : List (List ℕ)). s.name ∷ ns) (of_data ss)

of_list : (end : ℕ) (d : DataListTree) → map (λ (d : DefinedValue). d.name) (defined_by_list end d) ≡ names (data_symbols d.items)
of_list end d = of_data (placed_symbols (items_from (start_behind end) d.items)) ∙ item_names (start_behind end) d.items

of_items : (n end : ℕ) (items : List ItemTree) → map (λ (d : DefinedValue). d.name) (defined_from n end items) ≡ names (defined.symbols_among items)
of_items n end [] = refl
of_items n end (AFunction f ∷ items) = ap (λ (ns : List (List ℕ)). f.name ∷ ns) (of_items (suc n) end items)
of_items n end (AData d ∷ items) =
    map-append (λ (d : DefinedValue). d.name) (defined_by_list end d) (defined_from n (end_behind end d) items)
    ∙ ap₂ (λ (xs ys : List (List ℕ)). xs ++ ys) (of_list end d) (of_items n (end_behind end d) items)
    ∙ sym (names_append (data_symbols d.items) (defined.symbols_among items))

found : (ss : List DefinedSymbol) (ds : List DefinedValue) (name : List ℕ) → map (λ (d : DefinedValue). d.name) ds ≡ names ss → IsSome (definition_of ss name) → IsSome (value_among ds name)
found [] ds name e some = absurd (let z : false ≡ true = some in cc)
found (s ∷ ss) [] name e some = absurd (cc)
found (s ∷ ss) (d ∷ ds) name e some =
    let same : d.name ≡ s.name = cc in
    let later : map (λ (d : DefinedValue). d.name) ds ≡ names ss = cc in
    subst (λ (o : Option Value). IsSome o) (sym (value_among-more d ds name))
    (by (bytes_eq s.name name) (ap (λ n. bytes_eq n name) same) some (found ss ds name later))
  where
    by : (b : Bool) → bytes_eq d.name name ≡ b → IsSome (cond b (Some s) (definition_of ss name)) → (IsSome (definition_of ss name) → IsSome (value_among ds name)) →
        IsSome (cond (bytes_eq d.name name) (Some d.value) (value_among ds name))
    by true is some later = subst (λ b. IsSome (cond b (Some d.value) (value_among ds name))) (sym is) refl
    by false is some later = subst (λ b. IsSome (cond b (Some d.value) (value_among ds name))) (sym is) (later some)

-- Both accounts of what a file defines, by places in the text and by addresses, have the same names in the same order.
pub same_names : (file : FileTree) → map (λ (d : DefinedValue). d.name) (definitions file) ≡ names (defined.symbols file)
same_names file =
    map-append (λ (d : DefinedValue). d.name) (defined_by_list data_start placement.built_in_list) (defined_from 0 (end_behind data_start placement.built_in_list) file.items)
    ∙ ap₂ (λ (xs ys : List (List ℕ)). xs ++ ys) (of_list data_start placement.built_in_list) (of_items 0 (end_behind data_start placement.built_in_list) file.items)

pub defined_valued : (file : FileTree) (name : List ℕ) → IsSome (definition_of (defined.symbols file) name) → IsSome (value_of_symbol file name)
defined_valued file name some = found (defined.symbols file) (definitions file) name (same_names file) some

first_same : (file : FileTree) (name : List ℕ) → definition_of (first_symbols file) name ≡ definition_of (defined.symbols file) name
first_same file name =
    agree-at _ _ (with_symbols-agrees (defined.built_in ∷ []) (defined.built_in ∷ []) (defined.symbols_among file.items) (agree-from _ _ (λ n. refl))) name

-- a symbol that is defined stands for a value
pub first_valued : (file : FileTree) (name : List ℕ) → IsSome (definition_of (first_symbols file) name) → IsSome (value_of_symbol file name)
first_valued file name some = defined_valued file name (subst (λ (o : Option DefinedSymbol). IsSome o) (first_same file name) some)

-- ---- static data

bytes_given : (bs : List ℕ) → AreBytes bs → AllByRecursion (λ b. b < 256) bs
bytes_given [] p = tt
bytes_given (b ∷ bs) p = (p.0, bytes_given bs p.1)

module _ (text : List ℕ) (file : FileTree) (is : IsFileOf text file) where
  datum : (l : DataListTree) (i : DataItemTree) (d : DatumTree) → Contains (data_lists file) l → Contains l.items i → i.datum ≡ d → IsFine d → DatumBytes d → IsDatumGiven file d
  datum l i (Val word) c k e fine bytes = fine
  datum l i (Text bytes) c k e fine are = bytes_given bytes are
  datum l i (Address true name_at name) c k e fine bytes = defined_valued file name (by (definition_of (defined.symbols file) name) refl)
    where
      by : (o : Option DefinedSymbol) → definition_of (defined.symbols file) name ≡ o → IsSome o
      by None none = absurd (is.typed _ (unknown_address l i true name_at name c k e none))
      by (Some s) some = refl
  datum l i (Address false name_at name) c k e fine bytes = tt
  datum l i (Define name) c k e fine bytes = tt
  datum l i (Byte word) c k e fine bytes = tt
  datum l i (Half word) c k e fine bytes = tt
  datum l i (Int word) c k e fine bytes = tt
  datum l i (Skip count) c k e fine bytes = tt
  datum l i (Align unit) c k e fine bytes = tt
  datum l i (Global name_at name) c k e fine bytes = tt
  datum l i AFloat c k e fine bytes = tt

  items_given : (l : DataListTree) (items : List DataItemTree) → Contains (data_lists file) l → ((i : DataItemTree) → Contains items i → Contains l.items i) → AreFine items → DataBytes items →
      AllByRecursion (λ (i : DataItemTree). IsDatumGiven file i.datum) items
  items_given l [] c k fine bytes = tt
  items_given l (i ∷ items) c k fine bytes =
      (datum l i i.datum c (k i (contains_head i items)) refl fine.0 bytes.0, items_given l items c (λ j m. k j (contains_tail i items j m)) fine.1 bytes.1)

  lists_given : (ls : List DataListTree) → ((l : DataListTree) → Contains ls l → Contains (data_lists file) l) → AllByRecursion (λ (l : DataListTree). AreFine l.items) ls →
      AllByRecursion (λ (l : DataListTree). DataBytes l.items) ls → AreDataGiven file ls
  lists_given [] k fine bytes = tt
  lists_given (l ∷ ls) k fine bytes =
      (items_given l l.items (k l (contains_head l ls)) (λ i m. m) fine.0 bytes.0, lists_given ls (λ j m. k j (contains_tail l ls j m)) fine.1 bytes.1)

bytes_among : (items : List ItemTree) → ItemsBytes items → AllByRecursion (λ (l : DataListTree). DataBytes l.items) (data_among items)
bytes_among [] p = tt
bytes_among (AFunction f ∷ items) p = bytes_among items p
bytes_among (AData d ∷ items) p = (p.0, bytes_among items p.1)

-- The static data of an accepted file is given.
pub given_data : (text : List ℕ) (file : FileTree) → IsFileOf text file → AreBytes text → HasGivenData file
given_data text file is bytes =
    let r = read_of text file is.read in
    record {
      each = lists_given text file is (data_lists file) (λ l m. m) (lists_fine file.items (items_named file.items r.tokens r.are r.in_range)) (bytes_among file.items (read_bytes text file is.read bytes));
    }
