use Rattle.std.proofs.Common.{ℕ, Bool, true, false, refl, ap, arith, ◌∙◌, sym, subst}
use Rattle.std.specs.List.{AllByRecursion, list_all}
use Rattle.image_form.specs.Tables.{tables}
use Rattle.rv_machine.specs.Frames.{frames_from, most_frames}
use Rattle.rv_machine.specs.Placement.{bytes_used, is_in_heap, new_places}
use Rattle.rv_machine.specs.Space.{IsHeapBlock}
use Rattle.alloc_service.specs.Attempt.{IsPrepared, Parts, moved_to}
use Rattle.alloc_service.specs.Forward.{root_by, roots_by}
use Rattle.alloc_service.specs.Plan.{plan_of}
use Rattle.machine_laws.proofs.Apart.{new_bytes, new_kept}
use Rattle.alloc_service.proofs.Placing.{cells_of_small, roots_are, small_of}
use Rattle.alloc_service.proofs.Served.{surveyed_by}
use Rattle.alloc_service.proofs.attempt.attempt.Goals as goal

pub returns-in-BadRoot-clause-tries : goal.returns-in-BadRoot-clause-tries
returns-in-BadRoot-clause-tries c =
    let olds = c.args.blocks.now.items in
    let starts = c.prepare.new.space.starts.items in
    let image = tables c.args.image.now in
    let prepared = subst (λ bs. IsPrepared c.args.caller.heap bs (new_places c.args.caller.heap c.args.caller.number bs (plan_of c.args.plan bs)) c.prepare.new.space) c.deref.ensures.value c.prepare.ensures in
    let inside = ap (list_all (is_in_heap c.args.caller.heap)) prepared.chosen ∙ prepared.inside in
    let same = roots_are c.args.caller.heap image c.prepare.new.space.table olds starts prepared.forward prepared.lengths inside in
    let found = surveyed_by (frames_from (most_frames c.args.caller.base) image.descs c.args.caller.base c.args.memory.now true c.args.caller.address c.args.caller.sp) (roots_by (root_by image c.prepare.new.space.table) c.args.registers.now c.args.memory.now true) false c.in-BadRoot.ensures in
    let roots = sym (ap (λ (test : ℕ → Bool). roots_by test c.args.registers.now c.args.memory.now true found.fs) same) ∙ found.holds in
    (found.fs, found.found, roots, refl)

pub returns-in-Fine-clause-tries : goal.returns-in-Fine-clause-tries
returns-in-Fine-clause-tries c =
    let olds = c.args.blocks.now.items in
    let starts = c.prepare.new.space.starts.items in
    let image = tables c.args.image.now in
    let prepared = subst (λ bs. IsPrepared c.args.caller.heap bs (new_places c.args.caller.heap c.args.caller.number bs (plan_of c.args.plan bs)) c.prepare.new.space) c.deref.ensures.value c.prepare.ensures in
    let inside = ap (list_all (is_in_heap c.args.caller.heap)) prepared.chosen ∙ prepared.inside in
    let same = roots_are c.args.caller.heap image c.prepare.new.space.table olds starts prepared.forward prepared.lengths inside in
    let found = surveyed_by (frames_from (most_frames c.args.caller.base) image.descs c.args.caller.base c.args.memory.now true c.args.caller.address c.args.caller.sp) (roots_by (root_by image c.prepare.new.space.table) c.args.registers.now c.args.memory.now true) true c.in-Fine.ensures in
    let roots = sym (ap (λ (test : ℕ → Bool). roots_by test c.args.registers.now c.args.memory.now true found.fs) same) ∙ found.holds in
    let old : Parts = record { registers = c.args.registers.now; memory = c.args.memory.now; blocks = olds } in
    (found.fs, found.found, roots, c.move_all.ensures.moved found.fs found.found ∙ ap (λ news. moved_to image news found.fs old) prepared.chosen)

pub returns-in-Fine-clause-kept : goal.returns-in-Fine-clause-kept
returns-in-Fine-clause-kept c = λ _.
    let olds = c.args.blocks.now.items in
    let starts = c.prepare.new.space.starts.items in
    let image = tables c.args.image.now in
    let prepared = subst (λ bs. IsPrepared c.args.caller.heap bs (new_places c.args.caller.heap c.args.caller.number bs (plan_of c.args.plan bs)) c.prepare.new.space) c.deref.ensures.value c.prepare.ensures in
    let inside = ap (list_all (is_in_heap c.args.caller.heap)) prepared.chosen ∙ prepared.inside in
    subst (AllByRecursion (IsHeapBlock c.args.caller.heap)) (sym c.move_all.ensures.places)
    (new_kept c.args.caller.heap olds starts (cells_of_small olds (small_of c.args.caller.heap olds c.requires.placed)) inside)

pub returns-in-Fine-clause-bytes : goal.returns-in-Fine-clause-bytes
returns-in-Fine-clause-bytes c =
    let same = ap bytes_used c.move_all.ensures.places ∙ new_bytes c.args.blocks.now.items c.prepare.new.space.starts.items in
    omega (arith, same, c.requires.fits)
