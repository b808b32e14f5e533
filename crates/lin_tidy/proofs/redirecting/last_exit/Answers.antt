use Rattle.std.proofs.Common.{Some, None, sym, ap, ◌∙◌}
use Rattle.lin_tidy.proofs.Leading.{exit_is_at}
use Rattle.lin_tidy.proofs.redirecting.last_exit.Goals as goal

pub returns-in-None : goal.returns-in-None
returns-in-None c =
    exit_is_at c.args.lin.now c.args.labels.now c.as_slice.result.now c.args.label c.last_label-last.result c.place_of.result None c.requires
    c.as_slice.ensures c.last_label-last.ensures c.place_of.ensures (sym c.in-None.is ∙ c.exit_from.ensures)

pub returns-in-Some : goal.returns-in-Some
returns-in-Some c =
    ap Some c.last_label.ensures
    ∙ exit_is_at c.args.lin.now c.args.labels.now c.as_slice.result.now c.args.label c.last_label-last.result c.place_of.result (Some c.in-Some.out)
    c.requires c.as_slice.ensures c.last_label-last.ensures c.place_of.ensures (sym c.in-Some.is ∙ c.exit_from.ensures)
