use Rattle.std.proofs.Common.{length, subst, rules, arith}
use Rattle.std.proofs.lemmas.Result.{IfOk-weaker}
use Rattle.assemble.specs.Code.{IsCodeAt}
use Rattle.fork_join.specs.Calls.{AreGiven}
use Rattle.fork_join.proofs.Each.{given_weaker}
use Rattle.assemble.proofs.code.each_code.Goals as goal

pub map_in_halves-requires-clause-numbers : goal.map_in_halves-requires-clause-numbers
map_in_halves-requires-clause-numbers g c =
    omega (arith, c.requires.same, c.requires.source.can.each_one, c.requires.source.can.of_file.few_functions)

pub returns : goal.returns
returns g c =
    let s = c.args.source.now in
    let count = length c.args.work.now in
    IfOk-weaker c.map_in_halves.result _ _
    (λ all given.
    let each : AreGiven (IsCodeAt s) 0 count all.items =
    given_weaker _ (IsCodeAt s) count all.items (λ i x less post. search rules) given in
    subst (λ n. AreGiven (IsCodeAt s) 0 n all.items) c.requires.same each)
    c.map_in_halves.ensures
