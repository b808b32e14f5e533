use Rattle.std.proofs.Common.{reverse, sym, ap, ◌∙◌, subst, arith}
use Rattle.std.proofs.lemmas.List.{nil_from_length}
use Rattle.par_moves.specs.Moves.{Moves}
use Rattle.par_moves.specs.Resolved.{top_target, walk_from}
use Rattle.par_moves.proofs.Turns.{Standing, standing_at_first, pushed, popped, finished, at_most}
use Rattle.par_moves.proofs.walk.walk.Goals as goal

pub loop-path-init : goal.loop-path-init
loop-path-init c = record {
  stands = λ moves h.
      let s = standing_at_first c.args.root c.args.pending.now.readers c.args.made.now.items moves h in
      subst (λ (p : Moves). Standing c.args.root p c.args.pending.now.readers c.args.made.now.items c.args.made.now.items (walk_from c.args.root moves)) (sym c.new-path.ensures.items) s;
  fewer = omega arith;
}

pub loop-path-preserved-in-Continue-branch-3 : goal.loop-path-preserved-in-Continue-branch-3
loop-path-preserved-in-Continue-branch-3 c = record {
  stands = λ moves h.
      let at = c.last_target-here.ensures ∙ ap (λ (p : Moves). top_target c.loop-path.root (reverse p)) c.as_slice.ensures.value in
      let s = pushed c.loop-path.root c.loop-path.path.items c.loop-path.pending.readers c.take.new.self.readers c.loop-path.made.items c.args.made.now.items (walk_from c.args.root moves) c.last_target-here.result c.in-Some.reader at (λ ms held_before. let t = c.in_ok-reader.ensures.taken ms held_before in (sym c.in-Some.is ∙ t.0, t.1)) (c.loop-path.invariant.stands moves h) in
      subst (λ (p : Moves). Standing c.loop-path.root p c.take.new.self.readers c.loop-path.made.items c.args.made.now.items (walk_from c.args.root moves)) (sym c.in_ok-push.ensures.items) s;
  fewer = let le = at_most _ _ c.in_ok-reader.field-0 c.in_ok-reader.ensures.fewer in omega arith;
}

pub loop-path-preserved : goal.loop-path-preserved
loop-path-preserved c = record {
  stands = λ moves h.
      let at = c.last_target-here.ensures ∙ ap (λ (p : Moves). top_target c.loop-path.root (reverse p)) c.as_slice.ensures.value in
      popped c.loop-path.root c.in_ok-root.root c.loop-path.path.items c.pop.new.self.items c.loop-path.pending.readers c.take.new.self.readers c.loop-path.made.items c.unwind.new.made.items c.args.made.now.items (walk_from c.args.root moves) c.last_target-here.result c.in-Some-pop.last at (λ ms held_before. let t = c.in_ok-reader.ensures.taken ms held_before in (sym c.in_default.is ∙ t.0, t.1)) c.in-Some-pop.ensures.items c.in_ok-root.ensures.moves c.in_ok-root.ensures.root (c.loop-path.invariant.stands moves h);
  fewer = let le = at_most _ _ c.in_ok-reader.field-0 c.in_ok-reader.ensures.fewer in omega arith;
}

pub returns-in_default-pop-clause-moves : goal.returns-in_default-pop-clause-moves
returns-in_default-pop-clause-moves c = λ moves h.
    let at = c.last_target-here.ensures ∙ ap (λ (p : Moves). top_target c.loop-path.root (reverse p)) c.as_slice.ensures.value in
    let none = nil_from_length c.loop-path.path.items (sym c.loop-path.path.ok.0 ∙ c.in_default-pop.ensures.cases.0) in
    let f = finished c.loop-path.root c.loop-path.path.items c.loop-path.pending.readers c.take.new.self.readers c.loop-path.made.items c.push-in_default-pop.new.self.items c.args.made.now.items (walk_from c.args.root moves) c.last_target-here.result at (λ ms held_before. let t = c.in_ok-reader.ensures.taken ms held_before in (sym c.in_default.is ∙ t.0, t.1)) none c.in_ok-push-2.ensures.items (c.loop-path.invariant.stands moves h) in
    f.moves

pub returns-in_default-pop-clause-left : goal.returns-in_default-pop-clause-left
returns-in_default-pop-clause-left c = λ moves h.
    let at = c.last_target-here.ensures ∙ ap (λ (p : Moves). top_target c.loop-path.root (reverse p)) c.as_slice.ensures.value in
    let none = nil_from_length c.loop-path.path.items (sym c.loop-path.path.ok.0 ∙ c.in_default-pop.ensures.cases.0) in
    let f = finished c.loop-path.root c.loop-path.path.items c.loop-path.pending.readers c.take.new.self.readers c.loop-path.made.items c.push-in_default-pop.new.self.items c.args.made.now.items (walk_from c.args.root moves) c.last_target-here.result at (λ ms held_before. let t = c.in_ok-reader.ensures.taken ms held_before in (sym c.in_default.is ∙ t.0, t.1)) none c.in_ok-push-2.ensures.items (c.loop-path.invariant.stands moves h) in
    f.left
