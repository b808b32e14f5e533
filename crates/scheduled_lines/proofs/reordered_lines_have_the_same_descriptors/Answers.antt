use Rattle.scheduled_lines.proofs.Points.{exact_moved, points_turned, same_points}
use Rattle.scheduled_lines.proofs.reordered_lines_have_the_same_descriptors.Goals as goal

pub returns : goal.returns
returns c = λ tree m code ds lines order.
    let same = same_points m code order lines.regular.well.locations in
    (λ exact. exact_moved same ds exact, λ exact. exact_moved (points_turned same) ds exact)
