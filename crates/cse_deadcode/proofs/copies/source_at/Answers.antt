use Rattle.std.proofs.Common.{rules, ◌≡◌, ◌∙◌, ◌-◌, ◌<◌, length, Some, slice_get, refl}
use Rattle.std.proofs.lemmas.Option.{slice_get_read}
use Rattle.cse_deadcode.specs.Times.{time_in}
use Rattle.cse_deadcode.proofs.Earlier.{source_earlier}
use Rattle.cse_deadcode.proofs.copies.source_at.Goals as goal

pub returns-in-Some : goal.returns-in-Some
returns-in-Some c =
    let some : c.args.time ≡ 0 → ⊥ = search rules in
    let within : c.args.time - 1 < length c.args.made.now = search rules in
    let found : slice_get c.args.made.now (c.args.time - 1) ≡ Some c.in-Some.earlier.now =
    slice_get_read c.args.made.now (length c.args.made.now) (c.args.time - 1) c.in-Some.earlier.now refl within c.in-Some.ensures.lookup.1 in
    c.source_by.ensures
    ∙ source_earlier (time_in c.args.times.now) c.args.made.now c.args.time c.args.reg c.in-Some.earlier.now some found
