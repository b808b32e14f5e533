use Rattle.std.proofs.Common.{nat_eq}
use Rattle.std.proofs.lemmas.Bool.Decides.{Decides-eqb}
use Rattle.std.proofs.lemmas.List.Elements.{contains_decides, Decides-contains}
use Rattle.mach_ir.specs.Placed.{colour_numbers}
use Rattle.lin_tests.proofs.located.is_colour.Goals as goal

pub returns : goal.returns
returns c =
    Decides-contains colour_numbers c.args.register c.contains.result
    (contains_decides (λ a b. nat_eq a b) Decides-eqb colour_numbers c.args.register c.contains.result c.contains.ensures.cases)
