use Rattle.std.proofs.Common.{◌≡◌, ◌+◌, [], All, drop, refl, sym, ◌∙◌, subst}
use Rattle.std.proofs.lemmas.List.{drop_all, at_drop_more}
use Rattle.bs_words.specs.Contents.{contents}
use Rattle.par_moves.specs.Moves.{Moves, LeavesSources, IsMadeFor, ReadsSources, OneMoreForEachCycle}
use Rattle.par_moves.specs.Resolved.{resolved_moves}
use Rattle.par_moves.proofs.Turns.{emptied, gathering_one, emptying_at_first, emptying_one}
use Rattle.par_moves.proofs.Whole.{leaves_sources, made_for, one_more_for_each_cycle}
use Rattle.par_moves.proofs.Known.{reads_sources}
use Rattle.par_moves.proofs.resolving.resolve.Goals as goal

pub returns-clause-leaves : goal.returns-clause-leaves
returns-clause-leaves c =
    let same : contents c.from_vec.result ≡ resolved_moves c.args.moves.now = c.from_vec.ensures ∙ emptied c.loop-planned-2.pending.readers c.loop-planned-2.made.items (drop c.loop-planned-2.planned-index c.args.moves.now) c.args.moves.now (drop_all c.loop-planned-2.planned-index c.args.moves.now c.loop-planned-2-test.false) c.loop-planned-2.invariant in
    subst (LeavesSources c.args.moves.now) (sym same) (leaves_sources c.args.moves.now c.requires.apart c.requires.not_spare)

pub returns-clause-only_needed : goal.returns-clause-only_needed
returns-clause-only_needed c =
    let same : contents c.from_vec.result ≡ resolved_moves c.args.moves.now = c.from_vec.ensures ∙ emptied c.loop-planned-2.pending.readers c.loop-planned-2.made.items (drop c.loop-planned-2.planned-index c.args.moves.now) c.args.moves.now (drop_all c.loop-planned-2.planned-index c.args.moves.now c.loop-planned-2-test.false) c.loop-planned-2.invariant in
    subst (λ (ms : Moves). All (IsMadeFor c.args.moves.now) ms) (sym same) (made_for c.args.moves.now c.requires.apart c.requires.not_spare)

pub returns-clause-reads : goal.returns-clause-reads
returns-clause-reads c =
    let same : contents c.from_vec.result ≡ resolved_moves c.args.moves.now = c.from_vec.ensures ∙ emptied c.loop-planned-2.pending.readers c.loop-planned-2.made.items (drop c.loop-planned-2.planned-index c.args.moves.now) c.args.moves.now (drop_all c.loop-planned-2.planned-index c.args.moves.now c.loop-planned-2-test.false) c.loop-planned-2.invariant in
    subst (ReadsSources c.args.moves.now) (sym same) (reads_sources c.args.moves.now)

pub returns-clause-few : goal.returns-clause-few
returns-clause-few c =
    let same : contents c.from_vec.result ≡ resolved_moves c.args.moves.now = c.from_vec.ensures ∙ emptied c.loop-planned-2.pending.readers c.loop-planned-2.made.items (drop c.loop-planned-2.planned-index c.args.moves.now) c.args.moves.now (drop_all c.loop-planned-2.planned-index c.args.moves.now c.loop-planned-2-test.false) c.loop-planned-2.invariant in
    subst (OneMoreForEachCycle c.args.moves.now) (sym same) (one_more_for_each_cycle c.args.moves.now c.requires.apart c.requires.not_spare)

pub returns-clause-defined : goal.returns-clause-defined
returns-clause-defined c = c.from_vec.ensures ∙ emptied c.loop-planned-2.pending.readers c.loop-planned-2.made.items (drop c.loop-planned-2.planned-index c.args.moves.now) c.args.moves.now (drop_all c.loop-planned-2.planned-index c.args.moves.now c.loop-planned-2-test.false) c.loop-planned-2.invariant

pub loop-planned-init : goal.loop-planned-init
loop-planned-init c = record { pending = []; holds = c.new-pending.ensures; same = refl }

pub loop-planned-preserved : goal.loop-planned-preserved
loop-planned-preserved c =
    let xs = c.args.moves.now in
    let i = c.loop-planned.planned-index in
    gathering_one c.loop-planned.pending.readers c.add.new.self.readers _ (drop i xs) (drop (i + 1) xs) xs
    (at_drop_more (λ (ms : Moves). ms) xs i _ c.loop-planned-test.true)
    (λ ms before. c.in_ok-add.ensures ms before)
    c.loop-planned.invariant

pub loop-planned-2-init : goal.loop-planned-2-init
loop-planned-2-init c =
    let xs = c.args.moves.now in
    let i = c.loop-planned.planned-index in
    emptying_at_first c.loop-planned.pending.readers c.drain.new.pending.readers c.new-made.result.items c.drain.new.made.items (drop i xs) xs
    (drop_all i xs c.loop-planned-test.false) c.new-made.ensures.items
    (λ ms before. record { moves = c.in_ok-drain.ensures.moves ms before; left = c.in_ok-drain.ensures.left ms before })
    c.loop-planned.invariant

pub loop-planned-2-preserved : goal.loop-planned-2-preserved
loop-planned-2-preserved c =
    let xs = c.args.moves.now in
    let i = c.loop-planned-2.planned-index in
    emptying_one c.loop-planned-2.pending.readers c.drain-in-loop-planned-2.new.pending.readers c.loop-planned-2.made.items c.drain-in-loop-planned-2.new.made.items _ (drop i xs) (drop (i + 1) xs) xs
    (at_drop_more (λ (ms : Moves). ms) xs i _ c.loop-planned-2-test.true)
    (λ ms before. record { moves = c.in_ok-drain-2.ensures.moves ms before; left = c.in_ok-drain-2.ensures.left ms before })
    c.loop-planned-2.invariant
