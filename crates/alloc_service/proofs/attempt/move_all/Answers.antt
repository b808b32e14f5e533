use Rattle.std.proofs.Common.{◌≡◌, ℕ, ◌*◌, inl, ◌++◌, true, List, length, refl, ap, arith, ◌∙◌, sym, subst}
use Rattle.std.specs.List.{AllByRecursion}
use Rattle.image_form.specs.Tables.{tables}
use Rattle.rv_machine.specs.Relocation.{root_addresses}
use Rattle.rv_machine.specs.Frames.{most_frames, registers_of, slots_of}
use Rattle.rv_machine.specs.Hart.{Placed}
use Rattle.rv_machine.specs.Memory.{Region}
use Rattle.rv_machine.specs.Moving.{moved_memory, redirected_registers, rewritten, vacated}
use Rattle.rv_machine.specs.Placement.{placed_at}
use Rattle.rv_machine.specs.Space.{IsHeapBlock}
use Rattle.alloc_service.specs.Attempt.{Parts}
use Rattle.alloc_service.specs.Forward.{IsLow, forward, poured, words_moved, words_of_blocks}
use Rattle.machine_laws.proofs.Apart.{all_of, new_kept}
use Rattle.alloc_service.proofs.Placing.{cells_of_small, forward_is, kept_low, length-moved, moved_is, new_words, same_function, small_of, words_bound}
use Rattle.alloc_service.proofs.Walking.{cells_rise, stacked}
use Rattle.alloc_service.proofs.Words.{registers_now}
use Rattle.alloc_service.proofs.attempt.move_all.Goals as goal

pub gather-requires-clause-room : goal.gather-requires-clause-room
gather-requires-clause-room c =
    let none : length c.args.space.now.words.items ≡ 0 = ap (λ (ws : List ℕ). length ws) c.requires.prepared.no_words in
    omega (arith, none, c.args.space.now.words.ok.0, ap words_of_blocks c.deref.ensures.value, words_bound c.args.blocks.now.items, c.requires.fits, c.requires.prepared.words)

pub pour-requires-clause-small : goal.pour-requires-clause-small
pour-requires-clause-small c =
    let olds = c.args.blocks.now.items in
    let starts = c.args.space.now.starts.items in
    let prepared = c.requires.prepared in
    let placed : c.deref-7.result.now ≡ placed_at olds starts = c.deref-7.ensures.value ∙ c.place.ensures.placed ∙ ap (placed_at olds) c.deref-5.ensures.value in
    subst (AllByRecursion IsLow) (sym placed)
    (all_of (IsHeapBlock c.args.caller.heap) IsLow (λ b k. kept_low c.args.caller.heap b c.requires.most k) (placed_at olds starts)
    (new_kept c.args.caller.heap olds starts (cells_of_small olds (small_of c.args.caller.heap olds c.requires.placed)) prepared.inside))

pub pour-requires-clause-enough : goal.pour-requires-clause-enough
pour-requires-clause-enough c =
    let olds = c.args.blocks.now.items in
    let starts = c.args.space.now.starts.items in
    let placed : c.deref-7.result.now ≡ placed_at olds starts = c.deref-7.ensures.value ∙ c.place.ensures.placed ∙ ap (placed_at olds) c.deref-5.ensures.value in
    let f = forward c.args.space.now.table in
    ap (λ (ws : List ℕ). length ws) (c.deref-6.ensures.value ∙ c.gather.ensures.gathered ∙ ap (λ (ws : List ℕ). ws ++ words_moved f c.args.memory.now c.deref.result.now) c.requires.prepared.no_words
    ∙ ap (words_moved f c.args.memory.now) c.deref.ensures.value)
    ∙ length-moved f c.args.memory.now olds ∙ sym (ap words_of_blocks placed ∙ new_words olds starts)

pub returns-clause-moved : goal.returns-clause-moved
returns-clause-moved c = λ fs e.
    let olds = c.args.blocks.now.items in
    let starts = c.args.space.now.starts.items in
    let prepared = c.requires.prepared in
    let image = tables c.args.image.now in
    let news = placed_at olds starts in
    let g = forward c.args.space.now.table in
    let f : ℕ → ℕ = rewritten olds news in
    let same : g ≡ f = same_function g f (forward_is c.args.caller.heap c.args.space.now.table olds starts prepared.forward prepared.lengths prepared.inside) in
    let frames = stacked image.descs image.version (4 * length image.code) c.args.caller.base c.args.memory.now c.requires.image.descs.each (most_frames c.args.caller.base) true c.args.caller.address c.args.caller.sp fs (omega arith) e in
    let placed : c.place.new.blocks.items ≡ news = c.place.ensures.placed ∙ ap (placed_at olds) c.deref-5.ensures.value in
    let parts : List ℕ → List Region → List Placed → Parts = λ registers memory blocks. record { registers = registers; memory = memory; blocks = blocks } in
    let registers : c.redirect_first.new.registers ≡ redirected_registers f c.args.registers.now (registers_of fs) c.args.registers.now =
    (c.redirect_first.ensures.exact c.args.caller.base c.args.caller.sp).each fs e
    ∙ sym (registers_now g c.args.registers.now (registers_of fs) c.args.registers.now 0 32 frames.first (λ b h. refl))
    ∙ ap (λ h. redirected_registers h c.args.registers.now (registers_of fs) c.args.registers.now) same in
    let gathered : c.deref-6.result.now ≡ words_moved g c.args.memory.now olds =
    c.deref-6.ensures.value ∙ c.gather.ensures.gathered ∙ ap (λ (ws : List ℕ). ws ++ words_moved g c.args.memory.now c.deref.result.now) prepared.no_words
    ∙ ap (words_moved g c.args.memory.now) c.deref.ensures.value in
    let memory : c.pour.new.memory ≡ moved_memory olds news c.args.memory.now (slots_of fs ++ root_addresses image) =
    moved_is g f olds starts c.args.memory.now c.redirect_slots.new.memory c.redirect_roots.new.memory c.vacate.new.memory c.pour.new.memory (slots_of fs) (root_addresses image) c.deref-6.result.now 0x10000000 0x20000000 0x40000000
    same refl (c.redirect_slots.ensures.each fs e) c.redirect_roots.ensures (c.vacate.ensures ∙ ap (vacated c.redirect_roots.new.memory) c.deref-2.ensures.value)
    (c.pour.ensures ∙ ap (poured c.vacate.new.memory c.deref-6.result.now) (c.deref-7.ensures.value ∙ placed)) gathered
    (frames.slots 0x20000000 (inl (omega (arith, c.requires.low)))) (cells_rise image c.requires.image) prepared.lengths in
    ap (λ r. parts r c.pour.new.memory c.place.new.blocks.items) registers ∙ ap (λ m. parts (redirected_registers f c.args.registers.now (registers_of fs) c.args.registers.now) m c.place.new.blocks.items) memory
    ∙ ap (parts (redirected_registers f c.args.registers.now (registers_of fs) c.args.registers.now) (moved_memory olds news c.args.memory.now (slots_of fs ++ root_addresses image))) placed
