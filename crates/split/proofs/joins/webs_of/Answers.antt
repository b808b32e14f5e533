use Rattle.std.proofs.Common.{◌≡◌, ◌<◌, ◌≤◌, ◌∙◌, ◌∷◌, suc, length, drop, subst, arith}
use Rattle.split.specs.Joins.{JoinsReads}
use Rattle.split.specs.Writes.{listed_writes}
use Rattle.split.proofs.Joining.{indexes, at_index, still_least, webs_begun, webs_more, webs_done}
use Rattle.split.proofs.joins.webs_of.Goals as goal

pub loop-place-init : goal.loop-place-init
loop-place-init c =
    let count = c.len.ensures in
    let long = c.in_ok-labels.ensures.len in
    let same : length c.in_ok-labels.labels.items ≡ length (listed_writes c.args.writes.now) = omega (arith, count, long) in
    record {
      len = same;
      least = λ w lt. let e = c.in_ok-labels.ensures.own w (omega (arith, lt, long)) in omega (arith, e);
      webs = λ reach.
          webs_begun c.args.mach.now c.args.free c.args.writes.now c.args.rows.now.rows.items c.requires.writes reach
          c.in_ok-labels.labels.items same (λ w lt. c.in_ok-labels.ensures.own w (omega (arith, lt, long)));
    }

pub join_reads-requires : goal.join_reads-requires
join_reads-requires c =
    indexes c.args.mach.now c.args.free c.args.writes.now c.loop-place.labels.items c.requires.writes c.loop-place.invariant.len

pub loop-place-preserved : goal.loop-place-preserved
loop-place-preserved c =
    let m = c.args.mach.now in
    let i = c.instr-item.result in
    let at : drop c.loop-place.place m.code ≡ i ∷ drop (suc c.loop-place.place) m.code =
    at_index m c.as_slice-instr-items.result.now c.loop-place.place i c.as_slice-instr-items.ensures c.loop-place-test.true
    c.instr-item.is in
    let joins = subst (JoinsReads c.loop-place.labels.items c.join_reads.new.labels.items c.args.writes.now c.args.rows.now.rows.items c.loop-place.place)
    c.as_slice.ensures c.join_reads.ensures in
    record {
      len = joins.len ∙ c.loop-place.invariant.len;
      least = still_least c.loop-place.labels.items c.join_reads.new.labels.items joins.len joins.less c.loop-place.invariant.least;
      webs = λ reach.
          webs_more m c.args.free c.args.writes.now c.args.rows.now.rows.items c.requires.writes reach c.loop-place.labels.items
          c.join_reads.new.labels.items c.loop-place.place i (drop (suc c.loop-place.place) m.code)
          (subst (λ xs. c.loop-place.place < length xs) c.as_slice-instr-items.ensures c.loop-place-test.true) at
          (c.loop-place.invariant.webs reach) joins;
    }

pub returns-clause-webs : goal.returns-clause-webs
returns-clause-webs c = λ reach.
    webs_done c.args.mach.now c.args.free c.args.writes.now c.args.rows.now.rows.items c.requires.writes reach
    c.loop-place.labels.items c.loop-place.place
    (subst (λ xs. length xs ≤ c.loop-place.place) c.as_slice-instr-items.ensures c.loop-place-test.false)
    (c.loop-place.invariant.webs reach)
