use Rattle.std.proofs.Common.{◌≡◌, ◌++◌, codes, refl, rules}
use Rattle.command_line.specs.Values.{seed}
use Rattle.command_line.proofs.values.seeded.Goals as goal

pub returns-in-Some-seed : goal.returns-in-Some-seed
returns-in-Some-seed c =
    let parts : c.args.text.now ≡ codes "seed:" ++ c.in-Some.digits.now = search rules in
    seed c.in-Some.digits.now c.in-Some-seed.seed parts c.in-Some-seed.ensures refl
