use Rattle.std.proofs.Common.{◌<◌, ◌≡◌, length, arith, subst, sym, List}
use Rattle.std.proofs.lemmas.Option.{slice_get-get_or}
use Rattle.lin_ir.specs.declared.descr.Descr.{Descr}
use Rattle.frame_tables.proofs.Bounds.{describing_more, describing_all}
use Rattle.frame_tables.specs.Described.{AreDescribed}
use Rattle.frame_tables.proofs.entries.describe_all.Goals as goal

pub loop-k-preserved : goal.loop-k-preserved
loop-k-preserved c =
    let lt : c.loop-k.k < length c.args.points.now = omega arith in
    describing_more c.args.frame c.args.first c.args.points.now c.args.live.now.rows.items c.loop-k.k c.loop-k.descrs.items c.push.new.self.items
    _ c.at.result.now c.in_ok-descr.descr (slice_get-get_or c.args.points.now c.loop-k.k _ lt) c.at.ensures c.in_ok-descr.ensures
    c.loop-k.invariant c.in_ok-push.ensures.items

pub returns : goal.returns
returns c =
    let end : c.loop-k.k ≡ length c.args.points.now = omega (arith, c.loop-k-test.false, c.loop-k.auto.k-end) in
    subst (λ (ds : List Descr). AreDescribed c.args.frame c.args.first c.args.points.now c.args.live.now.rows.items ds) (sym c.from_vec.ensures)
    (describing_all c.args.frame c.args.first c.args.points.now c.args.live.now.rows.items c.loop-k.k c.loop-k.descrs.items end
    c.loop-k.invariant)
