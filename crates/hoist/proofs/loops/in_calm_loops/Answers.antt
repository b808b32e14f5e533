use Rattle.std.proofs.Common.{rules, ◌≡◌, ◌∙◌, ◌<◌, max, length, refl, ap, arith}
use Rattle.std.proofs.lemmas.Option.{slice_get_read}
use Rattle.hoist.specs.Loops.{IsCalmWide}
use Rattle.mach_ir.specs.NumberTables.{table_entry}
use Rattle.hoist.proofs.Reaching.{reach_more, flags_more, calm_wide_is}
use Rattle.hoist.proofs.loops.in_calm_loops.Goals as goal

pub loop-place-preserved : goal.loop-place-preserved
loop-place-preserved c =
    let code = c.args.code.now in
    let calls = c.args.calls in
    let p = c.loop-place.place in
    let i = c.index-code-place.result in
    let r = c.max-reach.result in
    let ends = table_entry c.args.ends.now in
    let within = c.requires.within in
    let test = c.loop-place-test.true in
    let inside : p < length code = omega (arith, within, test) in
    let at = slice_get_read code _ p i refl inside c.index-code-place.is in
    let from_end : r ≡ max c.loop-place.reach c.end_of.result = search rules in
    let reach =
    reach_more code p i at ends c.requires.ends c.loop-place.reach r
    (from_end ∙ ap (max c.loop-place.reach) c.end_of.ensures)
    c.loop-place.invariant.reach in
    record {
      reach = reach;
      flags = flags_more (IsCalmWide code calls) p c.loop-place.flags.items c.push.new.self.items c.is_calm_wide.result
          c.in_ok-push.ensures.items
          (calm_wide_is code p i at r calls reach c.is_calm_wide.result c.is_calm_wide.ensures)
          c.loop-place.invariant.flags;
    }
