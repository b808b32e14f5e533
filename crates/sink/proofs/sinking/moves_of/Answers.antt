use Rattle.std.proofs.Common.{◌≡◌, ◌∙◌, Bool, false, List, None, replicate, refl, sym, ap}
use Rattle.std.specs.Prelude.{Option}
use Rattle.mach_ir.specs.declared.reg.Reg.{Reg}
use Rattle.mach_ir.specs.declared.mach.Instr.{Instr}
use Rattle.sink.specs.Chosen.{all_moves}
use Rattle.sink.specs.Mixed.{noted_code}
use Rattle.sink.specs.Registers.{entered_code}
use Rattle.sink.specs.declared.sights.Sight.{Sight}
use Rattle.sink.proofs.Choosing.{are_moves, none_moved, lengths}
use Rattle.sink.proofs.sinking.moves_of.Goals as goal

pub returns-then-not-has_call : goal.returns-then-not-has_call
returns-then-not-has_call c =
    none_moved c.args.mach.now c.as_slice-code.result.now c.new.result.items c.as_slice-code.ensures
    (sym c.has_call.ensures ∙ c.if-not-has_call.true) c.new.ensures.items

pub choose-requires : goal.choose-requires
choose-requires c =
    lengths c.args.mach.now c.requires.formed c.in_ok-flow.field-0.live c.in_ok-flow.ensures.live c.in_ok-flow.field-0.flow.bound c.in_ok-solved.solved
    c.in_ok-solved.ensures c.deref.result.now c.deref-2.result.now
    (c.deref.ensures.value ∙ c.in_ok-registers.ensures
    ∙ ap (λ (code : List Instr). entered_code code (replicate c.in_ok-flow.field-0.flow.bound None)) c.as_slice-code.ensures)
    (c.deref-2.ensures.value ∙ c.in_ok-sights.ensures)

pub returns : goal.returns
returns c =
    let m = c.args.mach.now in
    let stale = c.in_ok-solved.solved.stale.rows.items in
    let registers : c.deref.result.now ≡ entered_code m.code (replicate c.in_ok-flow.field-0.flow.bound None) =
    c.deref.ensures.value ∙ c.in_ok-registers.ensures
    ∙ ap (λ (code : List Instr). entered_code code (replicate c.in_ok-flow.field-0.flow.bound None)) c.as_slice-code.ensures in
    let sights = c.deref-2.ensures.value ∙ c.in_ok-sights.ensures in
    let fresh = c.in_ok-solved.solved.fresh.rows.items in
    let mixed_set : List Bool = noted_code fresh stale 0 m.code (replicate c.in_ok-flow.field-0.flow.bound false) in
    let mixed : c.in_ok-mixed.mixed ≡ mixed_set =
    c.in_ok-mixed.ensures
    ∙ ap (λ (code : List Instr). noted_code fresh stale 0 code (replicate c.in_ok-flow.field-0.flow.bound false)) c.as_slice-code.ensures in
    are_moves m c.requires.formed c.in_ok-flow.field-0.live c.in_ok-flow.ensures.live c.in_ok-flow.field-0.flow.bound c.in_ok-solved.solved c.in_ok-solved.ensures
    c.in_ok-flow.field-0.flow c.in_ok-flow.ensures.flow c.in_ok-flow.ensures.formed refl c.in_ok-moves.moves.items
    (c.in_ok-moves.ensures
    ∙ ap (λ (code : List Instr). all_moves code stale c.in_ok-mixed.mixed c.deref.result.now c.deref-2.result.now) c.as_slice-code.ensures
    ∙ ap (λ (set : List Bool). all_moves m.code stale set c.deref.result.now c.deref-2.result.now) mixed
    ∙ ap (λ (rs : List (Option Reg)). all_moves m.code stale mixed_set rs c.deref-2.result.now) registers
    ∙ ap (λ (ss : List Sight). all_moves m.code stale mixed_set (entered_code m.code (replicate c.in_ok-flow.field-0.flow.bound None)) ss) sights)
