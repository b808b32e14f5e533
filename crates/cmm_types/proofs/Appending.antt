-- The symbols of a list of items, and their faults, gathered item by item.
use Rattle.std.proofs.Common.{◌≡◌, List, [], ◌∷◌, ◌++◌, Option, refl}
use Rattle.bs_fault.specs.declared.fault.Fault.{Fault}
use Rattle.cmm_tree.specs.Symbols.{DefinedSymbol}
use Rattle.cmm_types.specs.Gathered.{with_symbol, with_symbols, symbol_faults}
use Rattle.bs_fault.specs.Reported.{noted_all}

pub with_symbols-append : (known a b : List DefinedSymbol) → with_symbols known (a ++ b) ≡ with_symbols (with_symbols known a) b
with_symbols-append known [] b = refl
with_symbols-append known (s ∷ a) b = with_symbols-append (with_symbol known s) a b

pub symbol_faults-append : (known a b : List DefinedSymbol) (found : Option Fault) → noted_all (symbol_faults known (a ++ b)) found ≡ noted_all (symbol_faults (with_symbols known a) b) (noted_all (symbol_faults known a) found)
symbol_faults-append known [] b found = refl
symbol_faults-append known (s ∷ a) b found = symbol_faults-append (with_symbol known s) a b _
