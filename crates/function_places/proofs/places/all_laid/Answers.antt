use Rattle.std.proofs.Common.{length, subst, rules}
use Rattle.std.proofs.lemmas.Result.{IfOk-weaker}
use Rattle.function_places.specs.Places.{IsLaidFunction, IsLaidAt}
use Rattle.fork_join.specs.Calls.{AreGiven}
use Rattle.fork_join.proofs.Each.{given_weaker, given_each}
use Rattle.function_places.proofs.places.all_laid.Goals as goal

pub returns : goal.returns
returns g c =
    let ps = c.args.pieces.now in
    let count = length c.args.work.now in
    IfOk-weaker c.map_in_halves.result _ _
    (λ all given.
    let laid : AreGiven (IsLaidAt ps) 0 count all.items =
    given_weaker _ (IsLaidAt ps) count all.items (λ i x less post. search rules) given in
    given_each IsLaidFunction ps all.items (subst (λ n. AreGiven (IsLaidAt ps) 0 n all.items) c.requires.same laid))
    c.map_in_halves.ensures
