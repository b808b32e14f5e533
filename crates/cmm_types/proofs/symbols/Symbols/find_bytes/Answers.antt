use Rattle.std.proofs.Common.{option_map, ap, ◌∙◌}
use Rattle.cmm_tree.specs.Symbols.{definition_of}
use Rattle.cmm_types.specs.Definitions.{definition}
use Rattle.cmm_types.proofs.Lookups.{looked_up}
use Rattle.cmm_types.proofs.symbols.Symbols.find_bytes.Goals as goal

pub returns : goal.returns
returns c =
    c.copied.ensures ∙ c.get.ensures.value ∙ looked_up c.args.name.now _ ∙ ap (λ l. option_map definition (definition_of l c.args.name.now)) c.self.view_is
