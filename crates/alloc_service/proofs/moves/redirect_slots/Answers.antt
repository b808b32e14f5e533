use Rattle.std.proofs.Common.{◌≡◌, ℕ, suc, ◌+◌, ◌-◌, ◌*◌, ◌/◌, true, false, List, [], map, length, refl, ap, arith, ◌∙◌, sym, subst}
use Rattle.bs_words.specs.Contents.{contents}
use Rattle.bs_words.specs.Word.{add_word}
use Rattle.image_form.specs.Tables.{desc}
use Rattle.rv_machine.specs.Frames.{Frame, frames_from, return_slot, slots_named, slots_of}
use Rattle.rv_machine.specs.Memory.{Region, memory_word}
use Rattle.alloc_service.specs.Forward.{forward, redirected_now}
use Rattle.alloc_service.proofs.Walking.{Walks, at_stub, desc_rules, no_desc, walks_more}
use Rattle.alloc_service.proofs.moves.redirect_slots.Goals as goal

pub loop-most-init : goal.loop-most-init
loop-most-init c =
    let n : (0x40000000 - c.args.base) / 16 + 1 ≡ suc ((0x40000000 - c.args.base) / 16) = omega arith in (
      true,
      record {
        each = λ fs e. record {
          rest = fs;
          found = ap (λ k. frames_from k (map desc (contents c.args.image.now.descs)) c.args.base c.args.memory.now true c.args.address c.args.sp) n ∙ e;
          redirected = refl;
          above = λ b h. refl;
          low = tt;
        };
      },
      omega arith,
    )

nothing_more : (f : ℕ → ℕ) (old now : List Region) (fs rest : List Frame) → redirected_now f old (slots_of fs) ≡ redirected_now f now (slots_of rest) → rest ≡ [] → now ≡ redirected_now f old (slots_of fs)
nothing_more f old now fs rest e n = sym (e ∙ ap (λ r. redirected_now f now (slots_of r)) n)

pub returns-then-address-eq-CODE_START : goal.returns-then-address-eq-CODE_START
returns-then-address-eq-CODE_START c = record {
  each = λ fs e.
      let w = c.loop-most.invariant in
      let l = w.1.each fs e in
      let stub = at_stub (map desc (contents c.args.image.now.descs)) c.args.base c.args.memory.now c.loop-most.most w.0 c.loop-most.address c.loop-most.at c.loop-most-test.true c.if-address-eq-CODE_START.true in
      let none : l.rest ≡ [] = cc (stub, l.found) in
      nothing_more (forward c.args.table.now) c.args.memory.now c.loop-most.memory fs l.rest l.redirected none;
}

pub returns-in_default : goal.returns-in_default
returns-in_default c = record {
  each = λ fs e.
      let w = c.loop-most.invariant in
      let l = w.1.each fs e in
      let none = no_desc (map desc (contents c.args.image.now.descs)) c.args.base c.args.memory.now c.loop-most.most w.0 c.loop-most.address c.loop-most.at c.loop-most-test.true c.if-address-eq-CODE_START.false (sym c.in_default.ensures) in
      absurd (cc (none, l.found));
}

pub overflow_sub-size : goal.overflow_sub-size
overflow_sub-size c =
    let rules = desc_rules c.args.image.now c.loop-most.address c.in-Some.row.now c.requires.image c.in-Some.ensures in
    omega (arith, rules.nonempty, c.from-size.ensures)

pub loop-most-preserved : goal.loop-most-preserved
loop-most-preserved c =
    let w = c.loop-most.invariant in
    let descs = map desc (contents c.args.image.now.descs) in
    let f = forward c.args.table.now in
    let d = desc c.in-Some.row.now in
    let rules = desc_rules c.args.image.now c.loop-most.address c.in-Some.row.now c.requires.image c.in-Some.ensures in
    let more = walks_more f descs c.args.base c.args.memory.now c.loop-most.memory c.redirect_frame.new.memory c.args.address c.args.sp c.loop-most.most w.0 c.loop-most.address c.loop-most.at d c.args.image.now.version (4 * length (contents c.args.image.now.code))
    c.loop-most-test.true c.if-address-eq-CODE_START.false (sym c.in-Some.ensures) rules w.2
    (c.redirect_frame.ensures ∙ ap (λ es. redirected_now f c.loop-most.memory (slots_named c.loop-most.at es)) c.as_slice.ensures) w.1 in
    let address : c.word-address.result ≡ memory_word c.loop-most.memory (return_slot c.loop-most.at d) =
    c.word-address.ensures ∙ ap (memory_word c.loop-most.memory) (c.add.ensures ∙ ap (λ s. add_word c.loop-most.at (s - 8)) c.from-size.ensures) in
    let at : c.add-at.result ≡ add_word c.loop-most.at d.size = c.add-at.ensures ∙ ap (add_word c.loop-most.at) c.from-size.ensures in (
      false,
      subst (λ a. Walks f descs c.args.base c.args.memory.now c.redirect_frame.new.memory c.args.address c.args.sp (c.loop-most.most - 1) false a c.add-at.result) (sym address)
          (subst (Walks f descs c.args.base c.args.memory.now c.redirect_frame.new.memory c.args.address c.args.sp (c.loop-most.most - 1) false (memory_word c.loop-most.memory (return_slot c.loop-most.at d))) (sym at) more),
      c.add-at.type_inv,
    )

pub returns : goal.returns
returns c = record {
  each = λ fs e.
      let w = c.loop-most.invariant in
      let l = w.1.each fs e in
      let over : c.loop-most.most ≡ 0 = omega arith in
      let none = ap (λ k. frames_from k (map desc (contents c.args.image.now.descs)) c.args.base c.args.memory.now w.0 c.loop-most.address c.loop-most.at) over in
      absurd (cc (none, l.found));
}
