use Rattle.std.proofs.Common.{◌∙◌, ◌++◌, Bool, List, length, sym, ap}
use Rattle.mach_ir.specs.declared.mach.Instr.{Instr}
use Rattle.mach_laws.specs.Expand.{expand}
use Rattle.hoist_rules.specs.Hoisted.{hoisted_instruction}
use Rattle.hoist.specs.Moves.{none_moves, moves_by, left}
use Rattle.hoist.proofs.Flags.{first_by, as_it_is}
use Rattle.hoist.proofs.hoisting.hoist.Goals as goal

pub returns-then-none_moves : goal.returns-then-none_moves
returns-then-none_moves c =
    let flags = c.in_ok-flags.flags.items in
    let none = sym (ap none_moves c.as_slice.ensures.value) ∙ sym c.none_moves.ensures ∙ c.if-none_moves.true in
    as_it_is c.args.mach flags c.in_ok-flags.ensures none

pub returns : goal.returns
returns c =
    let m = c.args.mach in
    let flags = c.in_ok-flags.flags.items in
    let made =
    c.in_ok-code.ensures
    ∙ ap
    (λ (fs : List Bool).
    expand (hoisted_instruction (moves_by fs (length m.code))) m.code ++ expand (left (moves_by fs (length m.code))) m.code)
    c.as_slice-2.ensures.value in
    first_by m _ flags c.in_ok-flags.ensures (ap (λ (code : List Instr). record m { code = code }) made)
