use Rattle.std.proofs.Common.{◌∙◌, arith, sym, ap}
use Rattle.std.specs.Prelude.{vec_len}
use Rattle.std.specs.List.{insert}
use Rattle.cmm_nodes.proofs.Rows.{seq_of_more}
use Rattle.cmm_nodes.proofs.node.sequence_at.Goals as goal

pub returns-clause-expr : goal.returns-clause-expr
returns-clause-expr c =
    let more = c.args.more in
    seq_of_more _ c.args.at c.args.first.value more.items _ (vec_len more) c.seq_node.ensures
    (c.in_ok-insert.ensures.items ∙ ap (insert more.items 0) c.into_inner-first.ensures)
    (sym c.is_empty.ensures ∙ c.if-is_empty.false) (omega (arith, more.ok.0))
