-- Looking names up, one definition after the other.
use Rattle.std.proofs.Common.{◌≡◌, ◌∙◌, ℕ, Bool, true, false, cond, List, [], ◌∷◌, ◌++◌, Option, Some, None, Bor, bytes_eq, is_some, option_map, map, ◌+◌, refl, ap, sym, subst}
use Rattle.std.specs.BTreeMap as tree
use Rattle.std.specs.Map.{update, lookup}
use Rattle.std.specs.Option.{IfSome, option_or, option_to_list}
use Rattle.std.specs.Cmp.Lexicographic.{slice_cmp}
use Rattle.std.specs.Ordering.{nat_cmp}
use Rattle.std.specs.List.{AllByRecursion, cons_option, find}
use Rattle.std.proofs.lemmas.List.Folds.{find-append}
use Rattle.std.proofs.lemmas.Slice.Eq.{bytes_eq-Decides}
use Rattle.bs_words.specs.declared.values.Value.{Value}
use Rattle.cmm_tree.specs.Tree.{DataItemTree}
use Rattle.cmm_data.specs.declared.symbols.SymbolTable.{SymbolTable}
use Rattle.cmm_data.specs.Placement.{DefinedValue, value_among, symbol_at, size_at, definition_of_data, defined_at, DataSymbolTree, placed_symbols, items_from}
use Rattle.cmm_data.specs.Symbols.{value_in, AddsDefinitions}

pub option_or-none : (a : Option Value) → option_or a None ≡ a
option_or-none None = refl
option_or-none (Some v) = refl

pub option_or-assoc : (a b c : Option Value) → option_or (option_or a b) c ≡ option_or a (option_or b c)
option_or-assoc None b c = refl
option_or-assoc (Some v) b c = refl

option_or-known : (a b : Option Value) → is_some a ≡ true → a ≡ option_or a b
option_or-known None b h = absurd (cc)
option_or-known (Some v) b h = refl

option_or-unknown : (a b : Option Value) → is_some a ≡ false → b ≡ option_or a b
option_or-unknown None b h = refl
option_or-unknown (Some v) b h = absurd (cc)

-- ---- the first definition of a name

value_of-cond : (b : Bool) (d : DefinedValue) (rest : Option DefinedValue) →
    option_map (λ (d : DefinedValue). d.value) (cond b (Some d) rest) ≡ cond b (Some d.value) (option_map (λ (d : DefinedValue). d.value) rest)
value_of-cond true d rest = refl
value_of-cond false d rest = refl

value_of-or : (a b : Option DefinedValue) →
    option_map (λ (d : DefinedValue). d.value) (option_or a b) ≡ option_or (option_map (λ (d : DefinedValue). d.value) a) (option_map (λ (d : DefinedValue). d.value) b)
value_of-or None b = refl
value_of-or (Some d) b = refl

-- it is the first of these, or it is found among the others
pub value_among-more : (d : DefinedValue) (ds : List DefinedValue) (name : List ℕ) →
    value_among (d ∷ ds) name ≡ cond (bytes_eq d.name name) (Some d.value) (value_among ds name)
value_among-more d ds name = value_of-cond (bytes_eq d.name name) d (find (λ (d : DefinedValue). bytes_eq d.name name) ds)

pub value_among-append : (xs ys : List DefinedValue) (name : List ℕ) →
    value_among (xs ++ ys) name ≡ option_or (value_among xs name) (value_among ys name)
value_among-append xs ys name =
    ap (option_map (λ (d : DefinedValue). d.value)) (find-append (λ (d : DefinedValue). bytes_eq d.name name) xs ys)
    ∙ value_of-or (find (λ (d : DefinedValue). bytes_eq d.name name) xs) (find (λ (d : DefinedValue). bytes_eq d.name name) ys)

-- what holds of the value of each definition holds of the one that is found
pub value_among-all : (P : Value → Type 0) (ds : List DefinedValue) (name : List ℕ) →
    AllByRecursion (λ (d : DefinedValue). P d.value) ds → IfSome (value_among ds name) P
value_among-all P [] name all = tt
value_among-all P (d ∷ ds) name all =
    let Q : Option Value → Type 0 = λ o. IfSome o P in
    subst Q (sym (value_among-more d ds name)) (by (bytes_eq d.name name) (value_among-all P ds name all.1))
  where
    by : (b : Bool) → IfSome (value_among ds name) P → IfSome (cond b (Some d.value) (value_among ds name)) P
    by true later = all.0
    by false later = later

pub value_among-from : (P : Value → Type 0) (ds : List DefinedValue) (name : List ℕ) (v : Value) →
    AllByRecursion (λ (d : DefinedValue). P d.value) ds → value_among ds name ≡ Some v → P v
value_among-from P ds name v all e =
    let Q : Option Value → Type 0 = λ o. IfSome o P in
    subst Q e (value_among-all P ds name all)

-- ---- what is added to a table

-- a name that has a value keeps it
known-stays : (f : List ℕ → Option Value) (name : List ℕ) (value : Value) (q : List ℕ) (test : Bool) →
    bytes_eq name q ≡ test → is_some (f name) ≡ true → f q ≡ option_or (f q) (cond test (Some value) None)
known-stays f name value q true same h =
    let e : name ≡ q = (bytes_eq-Decides name q).0 same in
    option_or-known (f q) (Some value) (subst (λ (n : List ℕ). is_some (f n) ≡ true) e h)
known-stays f name value q false differs h = sym (option_or-none (f q))

-- one that has none gets this value
unknown-gets : (f : List ℕ → Option Value) (name : List ℕ) (value : Value) (q : List ℕ) (test : Bool) →
    bytes_eq name q ≡ test → is_some (f name) ≡ false → cond test (Some value) (f q) ≡ option_or (f q) (cond test (Some value) None)
unknown-gets f name value q true same h =
    let e : name ≡ q = (bytes_eq-Decides name q).0 same in
    option_or-unknown (f q) (Some value) (subst (λ (n : List ℕ). is_some (f n) ≡ false) e h)
unknown-gets f name value q false differs h = sym (option_or-none (f q))

pub adds-known : (table : SymbolTable) (name : List ℕ) (value : Value) →
    is_some (value_in table name) ≡ true → AddsDefinitions table table (record { name = name; value = value } ∷ [])
adds-known table name value h =
    let d : DefinedValue = record { name = name; value = value } in
    record {
      each = λ q.
          known-stays (value_in table) name value q (bytes_eq name q) refl h ∙ ap (option_or (value_in table q)) (sym (value_among-more d [] q));
    }

pub adds-unknown : (old new : SymbolTable) (name : List ℕ) (value : Value) →
    is_some (value_in old name) ≡ false →
    ((q : List ℕ) → value_in new q ≡ update bytes_eq (value_in old) name (Some value) q) →
    AddsDefinitions old new (record { name = name; value = value } ∷ [])
adds-unknown old new name value h updates =
    let d : DefinedValue = record { name = name; value = value } in
    record {
      each = λ q.
          updates q
          ∙ (unknown-gets (value_in old) name value q (bytes_eq name q) refl h ∙ ap (option_or (value_in old q)) (sym (value_among-more d [] q)));
    }

pub adds-none : (table : SymbolTable) → AddsDefinitions table table []
adds-none table = record { each = λ q. sym (option_or-none (value_in table q)) }

-- what is added, and what is defined later
pub adds-later : (old new : SymbolTable) (defined later : List DefinedValue) → AddsDefinitions old new defined → (name : List ℕ) →
    option_or (value_in old name) (value_among (defined ++ later) name) ≡ option_or (value_in new name) (value_among later name)
adds-later old new defined later adds name =
    ap (option_or (value_in old name)) (value_among-append defined later name)
    ∙ sym (option_or-assoc (value_in old name) (value_among defined name) (value_among later name))
    ∙ ap (λ (v : Option Value). option_or v (value_among later name)) (sym (adds.each name))

consed : (s : Option DataSymbolTree) (more : List DataSymbolTree) →
    map definition_of_data (cons_option s more) ≡ map definition_of_data (option_to_list s) ++ map definition_of_data more
consed None more = refl
consed (Some s) more = refl

-- what the first item defines, and the others
pub defined_at-next : (address : ℕ) (i : DataItemTree) (items : List DataItemTree) →
    defined_at address (i ∷ items)
    ≡ map definition_of_data (option_to_list (symbol_at address i.datum)) ++ defined_at (address + size_at address i.datum) items
defined_at-next address i items =
    consed (symbol_at address i.datum) (placed_symbols (items_from (address + size_at address i.datum) items))

-- an empty table has no value
pub value_in-empty : (table : SymbolTable) → table.values.entries ≡ [] → (name : List ℕ) → value_in table name ≡ None
value_in-empty table h name = ap (λ es. lookup (tree.is_at (λ (k : Bor (List ℕ)). slice_cmp nat_cmp name k.now)) es) h
