use Rattle.std.proofs.Common.{◌<◌, length, refl, arith}
use Rattle.std.proofs.lemmas.Option.{slice_get_read}
use Rattle.hoist.specs.Loops.{flag_at}
use Rattle.hoist.specs.Moves.{StaysAt}
use Rattle.mach_ir.specs.NumberTables.{table_entry}
use Rattle.hoist.proofs.Reaching.{flags_more}
use Rattle.hoist.proofs.Flags.{stays_is}
use Rattle.hoist.proofs.choosing.written_once.Goals as goal

pub loop-place-preserved : goal.loop-place-preserved
loop-place-preserved c =
    let flags = c.args.flags.now in
    let code = c.args.code.now in
    let writes = table_entry c.args.writes.now in
    let p = c.loop-place.place in
    let within = c.requires in
    let test = c.loop-place-test.true in
    let inside : p < length code = omega (arith, within, test) in
    flags_more (StaysAt flags code writes) p c.loop-place.kept.items c.push.new.self.items c.stays.result c.in_ok-push.ensures.items
    (stays_is flags code writes p c.index-code-place.result (flag_at flags p) c.stays.result refl
    (slice_get_read code _ p c.index-code-place.result refl inside c.index-code-place.is) c.stays.ensures)
    c.loop-place.invariant
