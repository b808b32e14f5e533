use Rattle.std.proofs.Common.{◌∙◌, ap, ◌∷◌, [], ◌++◌, ℕ, List, arith}
use Rattle.lin_laws.specs.Graph.{position}
use Rattle.lin_flow.specs.Search.{all_positions}
use Rattle.lin_flow.proofs.Searching.{entered_new}
use Rattle.lin_flow.proofs.search.Search.add.Goals as goal

pub returns : goal.returns
returns c =
    entered_new c.args.self.now (record { positions = c.push.new.self; groups = c.add_member.new.groups })
    (position c.args.place c.args.tries.now) c.len-count.result (omega (arith, c.len-count.ensures, c.if-count.false))
    (c.in_ok-push.ensures.items ∙ ap (λ (ts : List ℕ). all_positions c.args.self.now ++ position c.args.place ts ∷ []) c.in_ok-tries.ensures)
    (omega (arith, c.len-count.ensures)) c.in_ok-add_member.ensures
