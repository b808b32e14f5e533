-- The symbols that a map's entries stand for, looked up and added to.
use Rattle.std.proofs.Common.{◌≡◌, ℕ, Bool, true, false, cond, List, [], ◌∷◌, ◌++◌, Option, Some, None, is_some, option_map, map, Vec, Global, refl, ap, sym, ◌∙◌, bytes_eq}
use Rattle.std.specs.Map.{lookup}
use Rattle.std.proofs.lemmas.List.{map-append}
use Rattle.std.proofs.lemmas.Bool.Decides.{same_from_decides}
use Rattle.std.proofs.lemmas.Slice.Eq.{bytes_eq-Decides}
use Rattle.indexmap.specs.IndexMap.{IndexMap, get, insert_entry}
use Rattle.indexmap.proofs.CallerLemmas.{insert_entry-new}
use Rattle.cmm_tree.specs.Symbols.{DefinedSymbol, definition_of}
use Rattle.cmm_types.specs.SymbolEntries.{entry_view}
use Rattle.cmm_types.specs.Definitions.{defined, definition}
use Rattle.cmm_types.specs.Gathered.{with_symbol}
use Rattle.cmm_types.specs.declared.symbols.Definition.{Definition}

abbrev Entry : Type 0
Entry = Vec ℕ Global × Definition

bytes_eq-turned : (a b : List ℕ) → bytes_eq a b ≡ bytes_eq b a
bytes_eq-turned a b =
    let d = bytes_eq-Decides b a in
    same_from_decides (bytes_eq a b) (bytes_eq b a) (bytes_eq-Decides a b) (λ e. sym (d.0 e), λ e. d.1 (sym e))

first : (a b : Bool) (e : Entry) (rest : Option Definition) (others : Option DefinedSymbol) → a ≡ b → rest ≡ option_map definition others → cond a (Some e.1) rest ≡ option_map definition (cond b (Some (entry_view e)) others)
first true true e rest others same r = refl
first false false e rest others same r = r
first true false e rest others same r = cc
first false true e rest others same r = cc

pub looked_up : (name : List ℕ) (es : List Entry) → lookup (λ (k : Vec ℕ Global). bytes_eq name k.items) es ≡ option_map definition (definition_of (map entry_view es) name)
looked_up name [] = refl
looked_up name (e ∷ es) = first (bytes_eq name e.0.items) (bytes_eq e.0.items name) e (lookup (λ (k : Vec ℕ Global). bytes_eq name k.items) es) (definition_of (map entry_view es) name) (bytes_eq-turned name e.0.items) (looked_up name es)

undefined : (r : Option DefinedSymbol) → option_map definition r ≡ None → is_some r ≡ false
undefined None e = refl
undefined (Some s) e = cc

is_defined : (r : Option DefinedSymbol) (d : Definition) → Some d ≡ option_map definition r → is_some r ≡ true
is_defined None d e = cc
is_defined (Some s) d e = refl

-- a symbol that is defined already is not added
pub known_symbol : (known : List DefinedSymbol) (name : List ℕ) (old new : Definition) → Some old ≡ option_map definition (definition_of known name) → known ≡ with_symbol known (defined name new)
known_symbol known name old new e = sym (ap (λ b. cond b known (known ++ defined name new ∷ [])) (is_defined (definition_of known name) old e))

-- a new one goes last
pub new_symbol : {S : Type 0} (m : IndexMap (Vec ℕ Global) Definition S) (k : Vec ℕ Global) (name : List ℕ) (new : Definition) → k.items ≡ name → None ≡ option_map definition (definition_of (map entry_view m.entries) name)
    → map entry_view (insert_entry (λ (a b : Vec ℕ Global). bytes_eq a.items b.items) m.entries k new) ≡ with_symbol (map entry_view m.entries) (defined name new)
new_symbol m k name new same none =
    let absent : get (λ (a b : Vec ℕ Global). bytes_eq a.items b.items) m k ≡ None =
    looked_up k.items m.entries ∙ ap (λ n. option_map definition (definition_of (map entry_view m.entries) n)) same ∙ sym none in
    ap (map entry_view) (insert_entry-new (λ (a b : Vec ℕ Global). bytes_eq a.items b.items) m k new absent)
    ∙ map-append entry_view m.entries ((k, new) ∷ [])
    ∙ ap (λ n. map entry_view m.entries ++ defined n new ∷ []) same
    ∙ sym (ap (λ b. cond b (map entry_view m.entries) (map entry_view m.entries ++ defined name new ∷ [])) (undefined (definition_of (map entry_view m.entries) name) (sym none)))
