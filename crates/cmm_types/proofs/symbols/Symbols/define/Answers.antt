use Rattle.std.proofs.Common.{map, option_map, ap, sym, ◌∙◌}
use Rattle.cmm_tree.specs.Symbols.{definition_of}
use Rattle.cmm_types.specs.SymbolEntries.{entry_view}
use Rattle.cmm_types.specs.Definitions.{defined, definition}
use Rattle.cmm_types.specs.Gathered.{with_symbol}
use Rattle.cmm_types.proofs.Lookups.{new_symbol}
use Rattle.cmm_types.proofs.symbols.Symbols.define.Goals as goal

pub returns-in_ok-insert-in-None-clause-after : goal.returns-in_ok-insert-in-None-clause-after
returns-in_ok-insert-in-None-clause-after c =
    ap (map entry_view) c.in_ok-insert-in-None.ensures.entries
    ∙ new_symbol c.self.inside.definitions c.in_ok-key-in-None.key c.args.name.now c.args.new c.in_ok-key-in-None.ensures.items (c.in-None.ensures ∙ sym (ap (λ l. option_map definition (definition_of l c.args.name.now)) c.self.view_is))
    ∙ ap (λ l. with_symbol l (defined c.args.name.now c.args.new)) c.self.view_is
