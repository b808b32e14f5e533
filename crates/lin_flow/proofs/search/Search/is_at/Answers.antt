use Rattle.std.proofs.Common.{sym, ◌∙◌}
use Rattle.std.proofs.lemmas.Slice.Eq.{bytes_eq-Decides}
use Rattle.lin_flow.specs.Search.{all_positions}
use Rattle.lin_flow.proofs.Searching.{found_at}
use Rattle.lin_flow.proofs.search.Search.is_at.Goals as goal

pub returns-then-found-place : goal.returns-then-found-place
returns-then-found-place c = λ h.
    found_at (all_positions c.args.self.now) c.args.number c.args.place c.args.tries.now c.in-Some.found.now (sym c.in-Some.ensures)
    c.if-found-place.true (sym c.as_slice.ensures ∙ (bytes_eq-Decides c.as_slice.result.now c.args.tries.now).0 (sym c.same_tries.ensures ∙ h))
