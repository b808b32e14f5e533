use Rattle.std.proofs.Common.{◌↔◌, All, IsTrue, subst, arith}
use Rattle.lin_ir.specs.Descriptors.{frame_bytes}
use Rattle.lin_flow.proofs.Begun.{are_numbered}
use Rattle.lin_tests.specs.Positions.{FitsDescriptorAt}
use Rattle.lin_tests.proofs.Depths.{within, all_fit, few_slots}
use Rattle.lin_tests.proofs.pushed.is_within.Goals as goal

pub returns-then-lin-gt-SLOTS : goal.returns-then-lin-gt-SLOTS
returns-then-lin-gt-SLOTS c = (
  λ e. absurd (cc),
  λ w. let le = few_slots c.args.lin.now w in let more = c.if-lin-gt-SLOTS.true in absurd (omega (arith, le, more)),
)

pub returns : goal.returns
returns c =
    let all = c.in_ok-positions.positions.items in
    let test : IsTrue c.all_fit.result ↔ All (FitsDescriptorAt (frame_bytes c.args.lin.now)) all =
    subst (λ n. IsTrue c.all_fit.result ↔ All (FitsDescriptorAt n) all) c.frame_bytes.ensures
    (subst (λ xs. IsTrue c.all_fit.result ↔ All (FitsDescriptorAt c.frame_bytes.result) xs) c.as_slice.ensures.value c.all_fit.ensures) in (
      λ e. within c.args.lin.now all c.in_ok-positions.ensures (test.0 e),
      λ w. test.1 (all_fit c.args.lin.now all c.in_ok-positions.ensures w),
    )

pub positions_of-requires : goal.positions_of-requires
positions_of-requires c =
    record {
      numbered = are_numbered c.args.lin.now c.requires;
      countable = record { lines = omega (arith, c.len.ensures, c.if-len.false); slots = omega (arith, c.if-lin-gt-SLOTS.false) };
    }
