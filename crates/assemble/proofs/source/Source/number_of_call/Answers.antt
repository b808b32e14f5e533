use Rattle.std.proofs.Common.{ap, ◌∙◌, arith}
use Rattle.assemble.specs.Source.{tree_of}
use Rattle.assemble.proofs.Bounds.{number_below}
use Rattle.rv_layout_rules.specs.Externals.{externals, external_number}
use Rattle.mach_ir.specs.Acts.{external_row}
use Rattle.assemble.proofs.source.Source.number_of_call.Goals as goal

pub overflow_cast-result : goal.overflow_cast-result
overflow_cast-result c =
    let row = external_row c.args.row.now in
    let is = c.in_ok-number.ensures ∙ ap (λ rows. external_number rows row) c.requires.calls in
    omega (arith, is, number_below (externals (tree_of c.args.self.now)) row, c.requires.can.of_file.few_externals)
