-- The symbols that a file defines.
use Rattle.std.specs.Prelude.{ℕ, List, [], ◌∷◌, ◌++◌, Option, Some, None, length, find, bytes_eq}
use Rattle.std.specs.Option.{IsSome}
use Rattle.bs_words.specs.Symbol.{caml_bound_error}
use Rattle.cmm_tree.specs.Tree.{DatumTree, Define, DataItemTree, ItemTree, AFunction, AData, FileTree}

-- A symbol that is defined: its name, the place of its string, and of a function the number of its
-- parameters.
pub record DefinedSymbol : Type 0 where
  pub name : List ℕ
  pub at : ℕ
  pub parameters : Option ℕ

-- the built-in data, which is first; no text has its string
abbrev pub built_in : DefinedSymbol
built_in = record { name = caml_bound_error; at = 0; parameters = None }

-- the symbols that items of static data define, in order
abbrev pub datum_symbols : ℕ → DatumTree → List DefinedSymbol
datum_symbols at (Define name) = record { name = name; at = at; parameters = None } ∷ []
datum_symbols at _ = []

abbrev pub data_symbols : List DataItemTree → List DefinedSymbol
data_symbols [] = []
data_symbols (i ∷ items) = datum_symbols i.at i.datum ++ data_symbols items

-- the symbols that items of a file define, in order
abbrev pub item_symbols : ItemTree → List DefinedSymbol
item_symbols (AFunction f) = record { name = f.name; at = f.name_at; parameters = Some (length f.params) } ∷ []
item_symbols (AData d) = data_symbols d.items

abbrev pub symbols_among : List ItemTree → List DefinedSymbol
symbols_among [] = []
symbols_among (i ∷ items) = item_symbols i ++ symbols_among items

-- The symbols of a file, in the order of their definitions.
-- The types want names, places in the text and numbers of parameters; the image and the meaning want
-- addresses, which `placed_symbols` of `cmm_data` has. Of two definitions the first counts in both.
abbrev pub symbols : FileTree → List DefinedSymbol
symbols file = built_in ∷ symbols_among file.items

-- the definition of a symbol; of one that is defined twice the first counts
abbrev pub definition_of : List DefinedSymbol → List ℕ → Option DefinedSymbol
definition_of symbols name = find (λ (s : DefinedSymbol). bytes_eq s.name name) symbols

-- a symbol that the file defines
abbrev pub IsDefined : FileTree → List ℕ → Type 0
IsDefined file name = IsSome (definition_of (symbols file) name)
