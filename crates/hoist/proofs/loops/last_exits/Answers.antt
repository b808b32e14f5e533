use Rattle.std.proofs.Common.{◌∙◌, ◌+◌, refl, sym, ap}
use Rattle.std.proofs.lemmas.Option.{slice_get_read}
use Rattle.mach_ir.specs.declared.mach.Instr.{Instr}
use Rattle.hoist.specs.Loops.{exit_of, end_noted}
use Rattle.mach_ir.specs.NumberTables.{table_entry}
use Rattle.hoist.proofs.Reaching.{ends_more, ends_done}
use Rattle.hoist.proofs.loops.last_exits.Goals as goal

pub loop-place-preserved : goal.loop-place-preserved
loop-place-preserved c =
    let code = c.args.code.now in
    let p = c.loop-place.place in
    let i = c.index-code-place.result in
    let at = slice_get_read code _ p i refl c.loop-place-test.true c.index-code-place.is in
    ends_more code p i at (table_entry c.loop-place.ends) (table_entry c.note_exit.new.ends)
    (λ n.
    c.in_ok-note_exit.ensures n
    ∙ ap (λ (j : Instr). end_noted (exit_of j.op) (p + 1) (table_entry c.loop-place.ends) n) (sym c.index-code-place.is)) c.loop-place.invariant

pub returns : goal.returns
returns c = ends_done c.args.code.now c.loop-place.place (table_entry c.loop-place.ends) c.loop-place-test.false c.loop-place.invariant
