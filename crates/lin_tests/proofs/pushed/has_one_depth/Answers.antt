use Rattle.std.proofs.Common.{◌↔◌, IsTrue, subst}
use Rattle.lin_flow.proofs.Begun.{are_numbered}
use Rattle.lin_tests.specs.Positions.{AreAgreed}
use Rattle.lin_tests.proofs.Depths.{one_depth, agreed}
use Rattle.lin_tests.proofs.pushed.has_one_depth.Goals as goal

pub returns : goal.returns
returns c =
    let all = c.in_ok-positions.positions.items in
    let test : IsTrue c.are_agreed.result ↔ AreAgreed all =
    subst (λ xs. IsTrue c.are_agreed.result ↔ AreAgreed xs) c.as_slice.ensures.value c.are_agreed.ensures in (
      λ e. one_depth c.args.lin.now all c.in_ok-positions.ensures (test.0 e),
      λ h. test.1 (agreed c.args.lin.now all c.in_ok-positions.ensures h),
    )

pub positions_of-requires : goal.positions_of-requires
positions_of-requires c =
    record { numbered = are_numbered c.args.lin.now c.requires.located; countable = c.requires.countable }
