use Rattle.std.proofs.Common.{ℕ, subst}
use Rattle.lin_flow.proofs.Begun.{is_walked}
use Rattle.lin_flow.specs.Search.{Starts}
use Rattle.lin_flow.proofs.walks.search_walks.Goals as goal

pub returns : goal.returns
returns c =
    is_walked c.args.lin.now c.in_ok-search.search c.enter.new.self c.spread.new.search c.in_ok-_entry._entry c.spread.new.nodes.items
    c.requires.numbered (subst (λ (k : ℕ). Starts k c.in_ok-search.search) c.len-last.ensures c.in_ok-search.ensures) c.in_ok-_entry.ensures
    c.in_ok-spread.ensures
