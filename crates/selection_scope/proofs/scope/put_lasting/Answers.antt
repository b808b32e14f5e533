use Rattle.std.proofs.Common.{◌∙◌, rules}
use Rattle.selection_scope.proofs.Lasting.{put-named, put-bare}
use Rattle.selection_scope.proofs.scope.put_lasting.Goals as goal

pub loop-target-preserved-in-Continue-1 : goal.loop-target-preserved-in-Continue-1
loop-target-preserved-in-Continue-1 c =
    put-named _ _ _ _ c.in-Some.target c.in-Some.ensures.items c.in_ok-push.ensures.items (search rules)
    ∙ c.loop-target.invariant

pub loop-target-preserved-else-not-is_bare : goal.loop-target-preserved-else-not-is_bare
loop-target-preserved-else-not-is_bare c =
    put-bare _ _ c.loop-target.labels.items c.in-Some.target c.in-Some.ensures.items (search rules)
    ∙ c.loop-target.invariant

pub loop-target-preserved : goal.loop-target-preserved
loop-target-preserved c =
    put-bare _ _ c.loop-target.labels.items c.in-Some.target c.in-Some.ensures.items (search rules)
    ∙ c.loop-target.invariant
