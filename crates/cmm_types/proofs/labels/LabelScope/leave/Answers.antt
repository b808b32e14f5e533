use Rattle.std.proofs.Common.{◌-◌, map, reverse, drop, length, ap, ◌∙◌}
use Rattle.cmm_types.specs.VisibleLabels.{visible_view}
use Rattle.cmm_types.proofs.Stacks.{lowest}
use Rattle.cmm_types.proofs.labels.LabelScope.leave.Goals as goal

pub returns : goal.returns
returns c =
    ap (λ l. map visible_view (reverse l)) c.truncate.ensures.items
    ∙ lowest visible_view c.args.left _
    ∙ ap (λ l. drop (length l - c.args.left) l) c.self.view_is
