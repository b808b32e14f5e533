use Rattle.std.proofs.Common.{ℕ, ◌<◌, length, arith, refl}
use Rattle.std.proofs.lemmas.List.Elements.{All-get_or}
use Rattle.cmm_walks.proofs.Grouped.{adding_none, adding_more, adding_all}
use Rattle.cmm_walks.proofs.groups.add_to_all.Goals as goal

pub loop-k-init : goal.loop-k-init
loop-k-init c = adding_none c.args.groups.now.items c.args.member c.args.targets.now

pub add-requires : goal.add-requires
add-requires c =
    omega (arith, All-get_or (λ (k : ℕ). k < length c.args.groups.now.items) c.args.targets.now c.loop-k.k-index 0 c.loop-k-test.true c.requires, c.loop-k.invariant.len)

pub loop-k-preserved : goal.loop-k-preserved
loop-k-preserved c =
    adding_more c.args.groups.now.items c.loop-k.groups.items c.add.new.groups.items c.args.member c.args.targets.now c.loop-k.k-index _
    c.loop-k-test.true refl c.loop-k.invariant c.in_ok-add.ensures

pub returns-clause-exact : goal.returns-clause-exact
returns-clause-exact c = adding_all c.args.groups.now.items c.loop-k.groups.items c.args.member c.args.targets.now c.loop-k.k-index c.loop-k-test.false c.loop-k.invariant
