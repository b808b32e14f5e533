use Rattle.lin_flow.proofs.Searching.{none_first}
use Rattle.lin_flow.proofs.search.Search.has_first.Goals as goal

pub returns-clause-no : goal.returns-clause-no
returns-clause-no c = λ no g h.
    none_first c.args.self.now c.args.place c.args.first _ c.loop-number.number-index c.loop-number-test.false c.members-number-items.ensures
    c.loop-number.invariant g h
