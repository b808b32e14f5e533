-- What is found of the symbols and then of the items is what is found of the file.
use Rattle.std.proofs.Common.{◌≡◌, List, [], ◌∷◌, Option, None, ap, sym, ◌∙◌}
use Rattle.bs_fault.specs.declared.fault.Fault.{Fault}
use Rattle.cmm_tree.specs.Tree.{ItemTree}
use Rattle.cmm_tree.specs.Symbols.{DefinedSymbol, built_in, definition_of, symbols_among}
use Rattle.cmm_types.specs.Gathered.{with_symbols, symbol_faults, items_faults, file_faults}
use Rattle.bs_fault.specs.Reported.{noted_all}

pub found_of_file : (items first second : List ItemTree) (known : List DefinedSymbol) (found after : Option Fault) → first ≡ items → second ≡ items
    → known ≡ with_symbols (built_in ∷ []) (symbols_among first)
    → found ≡ noted_all (symbol_faults (built_in ∷ []) (symbols_among first)) None
    → after ≡ noted_all (items_faults (definition_of known) second) found
    → noted_all (file_faults (record { items = items })) None ≡ after
found_of_file items first second known found after one two known_is found_is after_is =
    let symbols = ap (λ l. with_symbols (built_in ∷ []) (symbols_among l)) (sym one) ∙ sym known_is in
    ap (λ l. noted_all (items_faults (definition_of l) items) (noted_all (symbol_faults (built_in ∷ []) (symbols_among items)) None)) symbols
    ∙ ap (λ f. noted_all (items_faults (definition_of known) items) f) (ap (λ l. noted_all (symbol_faults (built_in ∷ []) (symbols_among l)) None) (sym one) ∙ sym found_is)
    ∙ ap (λ l. noted_all (items_faults (definition_of known) l) found) (sym two)
    ∙ sym after_is

pub symbols_of_file : (items first : List ItemTree) (known : List DefinedSymbol) → first ≡ items
    → known ≡ with_symbols (built_in ∷ []) (symbols_among first) → known ≡ with_symbols (built_in ∷ []) (symbols_among items)
symbols_of_file items first known one known_is = known_is ∙ ap (λ l. with_symbols (built_in ∷ []) (symbols_among l)) one
