use Rattle.std.proofs.Common.{◌≡◌, ◌-◌, ◌<◌, ◌≤◌, List, length, ap, sym, ◌∙◌, arith}
use Rattle.std.proofs.lemmas.List.{get_or_default}
use Rattle.cmm_meaning.specs.State.{Binding, Here}
use Rattle.eval_frames.specs.declared.here.Bound.{Bound}
use Rattle.eval_frames.proofs.Bounds.{assigned_here, assigned_below}
use Rattle.eval_frames.proofs.here.Here.assign.Goals as goal

pub returns-then-same : goal.returns-then-same
returns-then-same c =
    let xs = c.loop-index.self.names.items in
    let i = c.loop-index.index in
    let some : 0 < i = c.loop-index-test.true in
    let within : i ≤ length xs = c.loop-index.invariant.within in
    let lt : i - 1 < length xs = omega arith in
    let b : Bound = c.index_mut-bound.result.now in
    let one : b ≡ c.index.result.now =
    c.index_mut-bound.ensures.value ∙ get_or_default xs (i - 1) b c.index.result.now lt ∙ sym c.index.ensures in
    let same = rw (← one) at c.same.ensures in
    let is = assigned_here xs i b c.args.name.now c.same.result some within c.index_mut-bound.ensures.value same c.args.value _ c.if-same.true c.loop-index.invariant.behind in
    rw (← c.loop-index.invariant.same)
    (ap (λ (names : List Binding). let h : Here = record { names = names; below = c.loop-index.self.below; frame = c.loop-index.self.frame; tries = c.loop-index.self.tries } in h) is)

pub loop-index-preserved : goal.loop-index-preserved
loop-index-preserved c = record {
  same = c.loop-index.invariant.same;
  within = omega arith;
  behind =
      assigned_below c.loop-index.self.names.items c.loop-index.index c.index.result.now c.args.name.now c.same.result c.loop-index-test.true
      c.loop-index.invariant.within c.index.ensures c.same.ensures c.args.value _ c.if-same.false c.loop-index.invariant.behind;
}
