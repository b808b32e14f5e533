-- Symbols that are defined, as the code holds them.
use Rattle.std.specs.Prelude.{ℕ, List}
use Rattle.cmm_tree.specs.Symbols.{DefinedSymbol}
use Rattle.cmm_types.specs.declared.symbols.Definition.{Definition}

-- a symbol with this definition
abbrev pub defined : List ℕ → Definition → DefinedSymbol
defined name new = record { name = name; at = new.at; parameters = new.parameters }

abbrev pub definition : DefinedSymbol → Definition
definition s = record { at = s.at; parameters = s.parameters }
