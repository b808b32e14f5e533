-- What the code's table of symbols has.
use Rattle.std.specs.Prelude.{◌≡◌, ℕ, List, Option}
use Rattle.std.specs.Option.{option_or}
use Rattle.std.specs.BTreeMap as tree
use Rattle.std.specs.Cmp.Lexicographic.{slice_cmp}
use Rattle.std.specs.Ordering.{nat_cmp}
use Rattle.bs_words.specs.declared.values.Value.{Value}
use Rattle.cmm_tree.specs.Tree.{FileTree}
use Rattle.cmm_data.specs.declared.symbols.SymbolTable.{SymbolTable}
use Rattle.cmm_data.specs.Placement.{DefinedValue, value_among, value_of_symbol}

-- the value of a name
abbrev pub value_in : SymbolTable → List ℕ → Option Value
value_in table name = tree.get_by (λ k. slice_cmp nat_cmp name k.now) table.values

-- The table has these definitions after those that it had: the first one of a name counts.
pub record AddsDefinitions (old new : SymbolTable) (defined : List DefinedValue) : Type 0 where
  pub each : (name : List ℕ) → value_in new name ≡ option_or (value_in old name) (value_among defined name)

-- The table has the value of every symbol of the file.
pub record IsTableOf (file : FileTree) (table : SymbolTable) : Type 0 where
  pub each : (name : List ℕ) → value_in table name ≡ value_of_symbol file name
