use Rattle.cmm_walks.specs.declared.limits.Part.TheVariants as part
use Rattle.cmm_walks.specs.declared.seeds.Goal.{Goal}
use Rattle.cmm_walks.proofs.Firsts.{no_first, told_least, first_of}
use Rattle.cmm_walks.proofs.first.Search.first.Goals as goal

pub returns-in_default : goal.returns-in_default
returns-in_default c = no_first c.args.self.now.nodes.now c.args.greatest c.args.entry c.in_ok-used.field-0 c.requires.places c.in_ok-used.ensures c.in_default.is

pub returns : goal.returns
returns c =
    let of_all : Goal = record { limits = record { bound = c.args.greatest; point = c.args.greatest; used = c.args.greatest }; part = part.Used } in
    let of_use : Goal = record { limits = c.with_part.result; part = part.Point } in
    let of_point : Goal = record { limits = c.with_part-2.result; part = part.Bound } in
    first_of c.args.self.now.nodes.now c.args.entry c.args.greatest c.in-Some.used c.in-Some-2.point c.in-Some-3.bound c.with_part.result c.with_part-2.result c.with_part-3.result
    c.requires.places c.with_part.ensures c.with_part-2.ensures c.with_part-3.ensures
    (told_least c.args.self.now.nodes.now c.args.entry c.in-Some.used of_all c.in_ok-used.field-0 c.in_ok-used.ensures c.in-Some.is)
    (told_least c.args.self.now.nodes.now c.args.entry c.in-Some-2.point of_use c.in_ok-point.field-0 c.in_ok-point.ensures c.in-Some-2.is)
    (told_least c.args.self.now.nodes.now c.args.entry c.in-Some-3.bound of_point c.in_ok-bound.field-0 c.in_ok-bound.ensures c.in-Some-3.is)
