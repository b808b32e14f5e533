use Rattle.std.proofs.Common.{ℕ, ◌-◌, ◌&&◌, Bool, false, List, map, option_map, ap, arith, ◌∙◌, sym}
use Rattle.std.proofs.lemmas.Bool.{cond-true}
use Rattle.bs_words.specs.Contents.{contents}
use Rattle.image_form.specs.Tables.{desc, tables}
use Rattle.rv_machine.specs.Frames.{Frame, frames_from, is_frame, return_slot}
use Rattle.rv_machine.specs.Memory.{memory_word}
use Rattle.bs_words.specs.Word.{add_word}
use Rattle.alloc_service.specs.Forward.{root_by, roots_by}
use Rattle.alloc_service.proofs.Walking.{desc_rules, one_frame, surveyed}
use Rattle.alloc_service.proofs.roots.survey.Goals as goal

pub is_frame-requires : goal.is_frame-requires
is_frame-requires c =
    let rules = desc_rules c.args.image.now c.loop-most.address c.in-Some.row.now c.requires.image c.in-Some.ensures in
    omega (arith, rules.nonempty)

pub overflow_sub-size : goal.overflow_sub-size
overflow_sub-size c =
    let rules = desc_rules c.args.image.now c.loop-most.address c.in-Some.row.now c.requires.image c.in-Some.ensures in
    omega (arith, rules.nonempty, c.from-size.ensures)

pub loop-most-preserved : goal.loop-most-preserved
loop-most-preserved c =
    let descs = map desc (contents c.args.image.now.descs) in
    let m = c.args.memory.now in
    let d = desc c.in-Some.row.now in
    let test : ℕ → Bool = root_by (tables c.args.image.now) c.args.table.now in
    let here = c.loop-most in
    let f : Frame = record { at = here.at; desc = d } in
    here.invariant
    ∙ ap (option_map (λ (fs : List Frame). here.fine && roots_by test c.args.registers.now m here.first fs))
    (one_frame descs c.args.base m here.most here.first here.address here.at d c.loop-most-test.true c.if-address-eq-CODE_START.false (sym c.in-Some.ensures)
    ∙ cond-true (is_frame here.first c.args.base here.at d) _ _ (sym c.if-not-is_frame.ensures))
    ∙ surveyed test c.args.registers.now m here.first here.fine c.are_roots-here.result f _ c.are_roots-here.ensures
    ∙ ap (λ fine. option_map (λ (fs : List Frame). fine && roots_by test c.args.registers.now m false fs) (frames_from (here.most - 1) descs c.args.base m false (memory_word m (return_slot here.at d)) (add_word here.at d.size))) (sym c.both-fine.ensures)
    ∙ ap (λ size. option_map (λ (fs : List Frame). c.both-fine.result && roots_by test c.args.registers.now m false fs) (frames_from (here.most - 1) descs c.args.base m false (memory_word m (add_word here.at (size - 8))) (add_word here.at size))) (sym c.from-size.ensures)
    ∙ ap (λ a. option_map (λ (fs : List Frame). c.both-fine.result && roots_by test c.args.registers.now m false fs) (frames_from (here.most - 1) descs c.args.base m false a (add_word here.at c.from-size.result))) (ap (memory_word m) (sym c.add.ensures) ∙ sym c.word-address.ensures)
    ∙ ap (λ a. option_map (λ (fs : List Frame). c.both-fine.result && roots_by test c.args.registers.now m false fs) (frames_from (here.most - 1) descs c.args.base m false c.word-address.result a)) (sym c.add-at.ensures)
