use Rattle.std.proofs.Common.{◌∙◌, ◌+◌, ℕ, Vec, Global, sym, ap, subst, eqb, arith}
use Rattle.std.proofs.lemmas.List.Elements.{contains_decides, Decides-contains}
use Rattle.std.proofs.lemmas.Bool.Decides.{Decides-eqb}
use Rattle.sink.proofs.Living.{Found, found_end, found_taken, found_passed, found_all}
use Rattle.sink.proofs.graphs.living.Goals as goal
use Rattle.sink.proofs.graphs.living.Goals.{then-not-contains+in_ok-push-in-Some, else-not-contains}
use Rattle.bs_words.proofs.Truths.{not_both}

pub loop-from-preserved-in-None : goal.loop-from-preserved-in-None
loop-from-preserved-in-None c =
    let lt = c.loop-from-test.true in
    found_end c.args.live.now.before.rows.items c.args.place c.args.except.now c.at-row.result.now c.loop-from.from c.size-bound.result
    c.loop-from.found.items c.at-row.ensures (omega (arith, lt)) c.in-None.ensures c.loop-from.invariant

pub loop-from-preserved : goal.loop-from-preserved
loop-from-preserved c =
    let rows = c.args.live.now.before.rows.items in
    let k = c.in-Some.number in
    let except = c.args.except.now in
    let tells = Decides-contains except k c.contains.result (contains_decides eqb Decides-eqb except k c.contains.result c.contains.ensures.cases) in
    elim c.if-not-contains.branch [
      | then-not-contains+in_ok-push-in-Some w ↦
          found_taken rows c.args.place except c.at-row.result.now c.loop-from.from k c.loop-from.found.items
          c.if-not-contains.found.items c.at-row.ensures c.in-Some.ensures
          (λ h. not_both c.contains.result (tells.1 h) w.if-not-contains.true) c.loop-from.invariant
          (ap (λ (v : Vec ℕ Global). v.items) w.found-is ∙ w.in_ok-push-in-Some.ensures.items)
      | else-not-contains w ↦
          subst (Found rows c.args.place except (k + 1)) (ap (λ (v : Vec ℕ Global). v.items) (sym w.found-is))
          (found_passed rows c.args.place except c.at-row.result.now c.loop-from.from k c.loop-from.found.items c.at-row.ensures
          c.in-Some.ensures (tells.0 w.if-not-contains.false) c.loop-from.invariant)
    ]

pub returns : goal.returns
returns c =
    let le = c.loop-from-test.false in
    let size = c.size-bound.ensures in
    found_all c.args.live.now.before.rows.items c.args.place c.args.except.now c.at-row.result.now c.loop-from.from c.loop-from.found.items
    c.at-row.ensures (omega (arith, le, size)) c.loop-from.invariant
