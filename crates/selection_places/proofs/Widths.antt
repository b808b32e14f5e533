-- Every number of selected code is small, where few tokens cover the tree.
use Rattle.std.proofs.Common.{◌+◌, ◌*◌, ◌<◌, ◌≤◌, length, arith}
use Rattle.bs_fault.specs.Limits.{most_tokens}
use Rattle.cmm_tree.specs.Measures.{nodes_in, values_in, all_tries}
use Rattle.cmm_tree.specs.Tree.{FunctionTree}
use Rattle.mach_ir.specs.Sizes.{IsSmallSize}
use Rattle.selection_laws.proofs.Widths.{few_numbers}
use Rattle.selection_places.proofs.Small.{size_of}

-- Where the tokens of a function cover its nodes and values, and are as few as the front takes, selected code is small.
pub size_is_small : (f : FunctionTree) → 18 + 9 * length f.params + nodes_in f.body < 3 * f.tokens →
    12 + 6 * length f.params + (values_in f.body + 2 * all_tries f.body) < 2 * f.tokens → f.tokens ≤ most_tokens → IsSmallSize (size_of f)
size_is_small f nodes values few =
    let x = few_numbers f.body in
    record {
      places = omega (arith, x, nodes, values, few);
      operands = omega (arith, x, nodes, values, few);
      registers = omega (arith, x, nodes, values, few);
      labels = omega (arith, x, nodes, values, few);
    }
