use Rattle.std.proofs.Common.{◌≡◌, Bor, length, subst, rules}
use Rattle.std.proofs.lemmas.Result.{IfOk-weaker}
use Rattle.cmm_tree.specs.View.{function_view}
use Rattle.cmm_tree.specs.declared.file.Function.{Function}
use Rattle.fork_join.specs.Calls.{AreGiven}
use Rattle.fork_join.proofs.Each.{given_weaker, given_each}
use Rattle.file_promise.specs.Known.{IsFunctionMade}
use Rattle.file_compile.specs.Pieces.{ArePiecesAt}
use Rattle.file_compile.proofs.Making.{made_trees}
use Rattle.file_compile.proofs.files.all_pieces.Goals as goal

pub returns : goal.returns
returns g c =
    let fs = c.args.functions.now in
    IfOk-weaker c.map_in_halves.result _ _
    (λ pieces given.
    let count = length c.as_slice.result.now in
    let all : AreGiven (ArePiecesAt c.args.choices fs) 0 count pieces.items =
    given_weaker _ (ArePiecesAt c.args.choices fs) count pieces.items (λ i x less post. search rules) given in
    let same : count ≡ length fs = search rules in
    made_trees c.args.choices fs pieces.items (given_each (λ (f : Bor Function) made. IsFunctionMade c.args.choices (function_view f.now) made) fs pieces.items
    (subst (λ n. AreGiven (ArePiecesAt c.args.choices fs) 0 n pieces.items) same all)))
    c.map_in_halves.ensures
