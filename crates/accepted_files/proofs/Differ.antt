-- In a file without a fault of types no symbol is defined twice, and what is named is defined.
use Rattle.std.proofs.Common.{◌≡◌, ◌≢◌, ◌∙◌, ℕ, ◌+◌, Bool, true, cond, List, [], ◌∷◌, ◌++◌, map, append_assoc, Option, Some, None, bytes_eq, refl, sym, ap, ap₂, subst}
use Rattle.std.specs.List.{AllByRecursion}
use Rattle.std.specs.Option.{option_or}
use Rattle.std.proofs.lemmas.Slice.Eq.{bytes_eq-Decides}
use Rattle.std.proofs.lemmas.Option.{none-some}
use Rattle.std.proofs.lemmas.List.{map-append}
use Rattle.std.proofs.lemmas.List.Elements.{filter_map-append}
use Rattle.bs_fault.specs.declared.fault.Fault.{Fault}
use Rattle.cmm_data.specs.Placement.{PlacedItem, DataSymbolTree, symbol_at, placed_symbols, size_at, items_from, start_behind, end_behind, lists_behind, items_of_lists}
use Rattle.cmm_tree.specs.Symbols.{DefinedSymbol, data_symbols, symbols, definition_of}
use Rattle.cmm_tree.specs.Symbols as defined
use Rattle.cmm_tree.specs.Tree.{DatumTree, Define, DataItemTree, DataListTree, FunctionTree, ItemTree, AFunction, AData, FileTree, functions_among, data_among}
use Rattle.cmm_types.specs.Faults.{TypeFault, repeated_symbol}
use Rattle.cmm_types.proofs.FirstSymbols.{definition_of-append}
use Rattle.image_form.proofs.Differ.{AllDiffer}
use Rattle.rv_layout_rules.proofs.Rules.{all_append}

-- ---- definitions

neither_found : (a b : Option DefinedSymbol) → option_or a b ≡ None → (a ≡ None) × (b ≡ None)
neither_found None b e = (refl, e)
neither_found (Some s) b e = absurd (none-some s (sym e))

unknown_parts : (xs ys : List DefinedSymbol) (name : List ℕ) → definition_of (xs ++ ys) name ≡ None → (definition_of xs name ≡ None) × (definition_of ys name ≡ None)
unknown_parts xs ys name e = neither_found (definition_of xs name) (definition_of ys name) (sym (definition_of-append xs ys name) ∙ e)

other_name : (s : DefinedSymbol) (name : List ℕ) → definition_of (s ∷ []) name ≡ None → s.name ≢ name
other_name s name e same =
    let found : bytes_eq s.name name ≡ true = (bytes_eq-Decides s.name name).1 same in
    none-some s (sym e ∙ ap (λ (b : Bool). cond b (Some s) None) found)

abbrev pub names : List DefinedSymbol → List (List ℕ)
names ss = map (λ (s : DefinedSymbol). s.name) ss

module _ (file : FileTree) (typed : (told : Fault) → TypeFault file told → ⊥) where
  defined_once : (before : List DefinedSymbol) (s : DefinedSymbol) (behind : List DefinedSymbol) → symbols file ≡ before ++ s ∷ behind → definition_of before s.name ≡ None
  defined_once before s behind whole = by (definition_of before s.name) refl
    where
      by : (o : Option DefinedSymbol) → definition_of before s.name ≡ o → o ≡ None
      by None e = refl
      by (Some earlier) e = absurd (typed _ (repeated_symbol before behind s earlier whole e))

  -- none of these is defined before, nor is one that is after others
  all_new : (before behind : List DefinedSymbol) → symbols file ≡ before ++ behind → AllByRecursion (λ (s : DefinedSymbol). definition_of before s.name ≡ None) behind
  all_new before [] whole = tt
  all_new before (s ∷ behind) whole = (
    defined_once before s behind whole,
    fewer behind (all_new (before ++ s ∷ []) behind (whole ∙ sym (append_assoc before (s ∷ []) behind))),
  )
    where
      fewer : (ss : List DefinedSymbol) → AllByRecursion (λ (t : DefinedSymbol). definition_of (before ++ s ∷ []) t.name ≡ None) ss → AllByRecursion (λ (t : DefinedSymbol). definition_of before t.name ≡ None) ss
      fewer [] all = tt
      fewer (t ∷ ss) all = ((unknown_parts before (s ∷ []) t.name all.0).0, fewer ss all.1)

  pub differ_from : (before behind : List DefinedSymbol) → symbols file ≡ before ++ behind → AllDiffer (names behind)
  differ_from before [] whole = tt
  differ_from before (s ∷ behind) whole =
      let next : symbols file ≡ (before ++ s ∷ []) ++ behind = whole ∙ sym (append_assoc before (s ∷ []) behind) in
      (others behind (all_new (before ++ s ∷ []) behind next), differ_from (before ++ s ∷ []) behind next)
    where
      others : (ss : List DefinedSymbol) → AllByRecursion (λ (t : DefinedSymbol). definition_of (before ++ s ∷ []) t.name ≡ None) ss → AllByRecursion (λ name. s.name ≢ name) (names ss)
      others [] all = tt
      others (t ∷ ss) all = (other_name s t.name (unknown_parts before (s ∷ []) t.name all.0).1, others ss all.1)

-- ---- functions first, and then static data

abbrev pub function_names : List ItemTree → List (List ℕ)
function_names items = map (λ (f : FunctionTree). f.name) (functions_among items)

-- the symbols of lists
abbrev pub list_symbols : List DataListTree → List DefinedSymbol
list_symbols [] = []
list_symbols (d ∷ ds) = data_symbols d.items ++ list_symbols ds

pub record Parted (P : List ℕ → Type 0) (items : List ItemTree) : Type 0 where
  pub of_functions : AllByRecursion P (function_names items)
  pub of_data : AllByRecursion P (names (list_symbols (data_among items)))

all_front : {A : Type 0} (P : A → Type 0) (xs ys : List A) → AllByRecursion P (xs ++ ys) → AllByRecursion P xs
all_front P [] ys all = tt
all_front P (x ∷ xs) ys all = (all.0, all_front P xs ys all.1)

all_back : {A : Type 0} (P : A → Type 0) (xs ys : List A) → AllByRecursion P (xs ++ ys) → AllByRecursion P ys
all_back P [] ys all = all
all_back P (x ∷ xs) ys all = all_back P xs ys all.1

pub names_append : (xs ys : List DefinedSymbol) → names (xs ++ ys) ≡ names xs ++ names ys
names_append xs ys = map-append (λ (s : DefinedSymbol). s.name) xs ys

pub all_parted : (P : List ℕ → Type 0) (items : List ItemTree) → AllByRecursion P (names (defined.symbols_among items)) → Parted P items
all_parted P [] all = record { of_functions = tt; of_data = tt }
all_parted P (AFunction f ∷ items) all =
    let m = all_parted P items all.1 in
    record { of_functions = (all.0, m.of_functions); of_data = m.of_data }
all_parted P (AData d ∷ items) all =
    let own = data_symbols d.items in
    let parts = subst (AllByRecursion P) (names_append own (defined.symbols_among items)) all in
    let m = all_parted P items (all_back P (names own) (names (defined.symbols_among items)) parts) in
    record {
      of_functions = m.of_functions;
      of_data = subst (AllByRecursion P) (sym (names_append own (list_symbols (data_among items))))
          (all_append P (names own) (names (list_symbols (data_among items))) (all_front P (names own) (names (defined.symbols_among items)) parts) m.of_data);
    }

-- what differs and is put in front of others
differ_in_front : (xs rest others : List (List ℕ)) → AllDiffer (xs ++ rest) → AllDiffer others → ((x : List ℕ) → AllByRecursion (λ y. x ≢ y) rest → AllByRecursion (λ y. x ≢ y) others) →
    AllDiffer (xs ++ others)
differ_in_front [] rest others differ ok move = ok
differ_in_front (x ∷ xs) rest others differ ok move =
    (all_append (λ y. x ≢ y) xs others (all_front (λ y. x ≢ y) xs rest differ.0) (move x (all_back (λ y. x ≢ y) xs rest differ.0)), differ_in_front xs rest others differ.1 ok move)

differ_back : (xs ys : List (List ℕ)) → AllDiffer (xs ++ ys) → AllDiffer ys
differ_back [] ys differ = differ
differ_back (x ∷ xs) ys differ = differ_back xs ys differ.1

-- functions and data apart
pub record AreApart (items : List ItemTree) : Type 0 where
  pub of_functions : AllDiffer (function_names items)
  pub of_data : AllDiffer (names (list_symbols (data_among items)))
  pub apart : AllByRecursion (λ name. AllByRecursion (λ other. name ≢ other) (names (list_symbols (data_among items)))) (function_names items)

pub each_apart : (fs : List (List ℕ)) (xs ys : List (List ℕ)) → AllByRecursion (λ name. AllByRecursion (λ other. name ≢ other) ys) fs → AllByRecursion (λ x. AllByRecursion (λ f. x ≢ f) fs) xs →
    AllByRecursion (λ name. AllByRecursion (λ other. name ≢ other) (xs ++ ys)) fs
each_apart [] xs ys apart front = tt
each_apart (f ∷ fs) xs ys apart front =
    (all_append (λ other. f ≢ other) xs ys (heads xs front) apart.0, each_apart fs xs ys apart.1 (tails xs front))
  where
    heads : (xs : List (List ℕ)) → AllByRecursion (λ x. AllByRecursion (λ g. x ≢ g) (f ∷ fs)) xs → AllByRecursion (λ other. f ≢ other) xs
    heads [] front = tt
    heads (x ∷ xs) front = (λ e. front.0.0 (sym e), heads xs front.1)

    tails : (xs : List (List ℕ)) → AllByRecursion (λ x. AllByRecursion (λ g. x ≢ g) (f ∷ fs)) xs → AllByRecursion (λ x. AllByRecursion (λ g. x ≢ g) fs) xs
    tails [] front = tt
    tails (x ∷ xs) front = (front.0.1, tails xs front.1)

-- each of these differs from all after them
each_behind : (xs rest : List (List ℕ)) → AllDiffer (xs ++ rest) → AllByRecursion (λ x. AllByRecursion (λ y. x ≢ y) rest) xs
each_behind [] rest differ = tt
each_behind (x ∷ xs) rest differ = (all_back (λ y. x ≢ y) xs rest differ.0, each_behind xs rest differ.1)

all_map : {A : Type 0} (P Q : A → Type 0) (xs : List A) → ((x : A) → P x → Q x) → AllByRecursion P xs → AllByRecursion Q xs
all_map P Q [] f all = tt
all_map P Q (x ∷ xs) f all = (f x all.0, all_map P Q xs f all.1)

pub all_apart : (items : List ItemTree) → AllDiffer (names (defined.symbols_among items)) → AreApart items
all_apart [] differ = record { of_functions = tt; of_data = tt; apart = tt }
all_apart (AFunction f ∷ items) differ =
    let m = all_apart items differ.1 in
    let parted = all_parted (λ other. f.name ≢ other) items differ.0 in
    record { of_functions = (parted.of_functions, m.of_functions); of_data = m.of_data; apart = (parted.of_data, m.apart) }
all_apart (AData d ∷ items) differ =
    let own = names (data_symbols d.items) in
    let rest = names (defined.symbols_among items) in
    let parts : AllDiffer (own ++ rest) = subst AllDiffer (names_append (data_symbols d.items) (defined.symbols_among items)) differ in
    let m = all_apart items (differ_back own rest parts) in
    let later = names (list_symbols (data_among items)) in
    let whole = sym (names_append (data_symbols d.items) (list_symbols (data_among items))) in
    let behind = each_behind own rest parts in
    record {
      of_functions = m.of_functions;
      of_data = subst AllDiffer whole (differ_in_front own rest later parts m.of_data (λ x all. (all_parted (λ y. x ≢ y) items all).of_data));
      apart = subst (λ (ys : List (List ℕ)). AllByRecursion (λ name. AllByRecursion (λ other. name ≢ other) ys) (function_names items)) whole
          (each_apart (function_names items) own later m.apart (all_map _ _ own (λ x all. (all_parted (λ y. x ≢ y) items all).of_functions) behind));
    }

pub differ_both : (xs ys : List (List ℕ)) → AllDiffer xs → AllDiffer ys → AllByRecursion (λ x. AllByRecursion (λ y. x ≢ y) ys) xs → AllDiffer (xs ++ ys)
differ_both [] ys p q apart = q
differ_both (x ∷ xs) ys p q apart = (all_append (λ y. x ≢ y) xs ys p.0 apart.0, differ_both xs ys p.1 q apart.1)

-- ---- as static data has them

abbrev pub data_names : List DataSymbolTree → List (List ℕ)
data_names ss = map (λ (s : DataSymbolTree). s.name) ss

one_name : (at address : ℕ) (d : DatumTree) (more : List PlacedItem) (later : List DefinedSymbol) → data_names (placed_symbols more) ≡ names later →
    data_names (placed_symbols (record { at = at; address = address; datum = d } ∷ more)) ≡ names (defined.datum_symbols at d ++ later)
one_name at address (Define name) more later e = ap (λ (ns : List (List ℕ)). name ∷ ns) e
one_name at address d more later e = e

pub item_names : (address : ℕ) (items : List DataItemTree) → data_names (placed_symbols (items_from address items)) ≡ names (data_symbols items)
item_names address [] = refl
item_names address (i ∷ items) =
    let next = address + size_at address i.datum in
    one_name i.at address i.datum (items_from next items) (data_symbols items) (item_names next items)

pub list_names : (end : ℕ) (lists : List DataListTree) → data_names (placed_symbols (items_of_lists (lists_behind end lists))) ≡ names (list_symbols lists)
list_names end [] = refl
list_names end (d ∷ lists) =
    let own = items_from (start_behind end) d.items in
    let later = items_of_lists (lists_behind (end_behind end d) lists) in
    ap data_names (filter_map-append (λ (i : PlacedItem). symbol_at i.address i.datum) own later)
    ∙ map-append (λ (s : DataSymbolTree). s.name) (placed_symbols own) (placed_symbols later)
    ∙ ap₂ (λ (xs ys : List (List ℕ)). xs ++ ys) (item_names (start_behind end) d.items) (list_names (end_behind end d) lists)
    ∙ sym (names_append (data_symbols d.items) (list_symbols lists))
