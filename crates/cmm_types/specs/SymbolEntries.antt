-- The symbols that the entries of a map stand for.
use Rattle.std.specs.Prelude.{ℕ}
use Rattle.std.specs.declared.vec.Vec.{Vec}
use Rattle.cmm_tree.specs.Symbols.{DefinedSymbol}
use Rattle.cmm_types.specs.declared.symbols.Definition.{Definition}

abbrev pub entry_view : {A : Type 0} → Vec ℕ A × Definition → DefinedSymbol
entry_view e = record { name = e.0.items; at = e.1.at; parameters = e.1.parameters }
