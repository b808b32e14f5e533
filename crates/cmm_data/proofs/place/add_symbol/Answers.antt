use Rattle.std.proofs.Common.{◌∙◌, ◌++◌, ◌∷◌, [], ap, sym, map}
use Rattle.std.specs.Option.{option_to_list}
use Rattle.std.proofs.lemmas.List.{map-append}
use Rattle.cmm_tree.specs.View.{datum_view}
use Rattle.cmm_data.specs.Placement.{DataSymbolTree, symbol_at}
use Rattle.cmm_data.specs.Map.{symbol_view}
use Rattle.cmm_data.proofs.place.add_symbol.Goals as goal

pub returns-in_ok-push : goal.returns-in_ok-push
returns-in_ok-push c =
    let before = map symbol_view c.args.symbols.now.items in
    ap (map symbol_view) c.in_ok-push.ensures.items
    ∙ map-append symbol_view c.args.symbols.now.items (c.in_ok-symbol.field-0 ∷ [])
    ∙ ap (λ (s : DataSymbolTree). before ++ s ∷ []) c.in_ok-symbol.ensures
    ∙ ap (λ n. before ++ (record { name = n; address = c.args.address }) ∷ []) c.as_bytes.ensures
    ∙ ap (λ d. before ++ option_to_list (symbol_at c.args.address (datum_view d))) (sym c.in-Define.is)
