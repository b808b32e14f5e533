use Rattle.lin_tidy_rules.specs.Leaving.{with_code}
use Rattle.std.proofs.Common.{refl}
use Rattle.scheduled_lines.proofs.InStep.{in_step}
use Rattle.scheduled_lines.proofs.Sizes.{same_pieces, same_total}
use Rattle.scheduled_lines.proofs.Walks.{same_count, same_frame}
use Rattle.scheduled_lines.proofs.reordered_lines_are_as_large.Goals as goal

pub returns-clause-lines : goal.returns-clause-lines
returns-clause-lines c = λ code other order measure total none more. same_total measure total none more code other order

pub returns-clause-points : goal.returns-clause-points
returns-clause-points c = λ code other order. same_count (in_step order)

pub returns-clause-frame : goal.returns-clause-frame
returns-clause-frame c = λ m code order. same_frame m (with_code m code) (in_step order) refl

pub returns-clause-pieces : goal.returns-clause-pieces
returns-clause-pieces c = λ tree m code ds p q lines order first second measure total none more.
    same_pieces m code order lines.tidy ds first second measure total none more
