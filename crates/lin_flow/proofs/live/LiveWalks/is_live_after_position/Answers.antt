use Rattle.std.proofs.Common.{sym, ◌∙◌, ap, subst}
use Rattle.std.specs.Prelude.{slice_get, IsTrue, ◌↔◌}
use Rattle.lin_flow.proofs.Living.{from_node}
use Rattle.lin_flow.specs.Live.{ReadsOnAmong}
use Rattle.lin_flow.proofs.live.LiveWalks.is_live_after_position.Goals as goal

pub returns-in-Some : goal.returns-in-Some
returns-in-Some c =
    let w = c.args.self.now in
    from_node w c.args.place c.args.number c.args.position c.in-Some.node.now (c.is_there.ensures.0 c.if-not-is_there.false) c.is_live_before.result
    (ap (λ xs. slice_get xs c.args.position) (sym c.as_slice.ensures) ∙ sym c.in-Some.ensures)
    (subst (λ xs. IsTrue c.is_live_before.result ↔ ReadsOnAmong w xs c.args.number) c.as_slice-in-Some.ensures c.is_live_before.ensures)
