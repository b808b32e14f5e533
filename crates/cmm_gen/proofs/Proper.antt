-- The runs of what is drawn are proper.
use Rattle.std.proofs.Common.{◌≡◌, ℕ, suc, ◌<◌, ◌^◌, false, List, [], ◌∷◌, length, refl, ap, arith}
use Rattle.std.proofs.lemmas.Option.{slice_get_within}
use Rattle.cmm_tree.specs.Tree.{FunctionTree, ItemTree, FileTree, functions, functions_among}
use Rattle.cmm_meaning.specs.Layout.{Layout}
use Rattle.cmm_meaning.specs.Evaluation.{Evaluation}
use Rattle.cmm_meaning.specs.Run.{IsProper, first_world, callees, finished, cmm_run}
use Rattle.cmm_gen.specs.Drawn.{DrawnFunction}
use Rattle.cmm_gen.proofs.Trees
use Rattle.cmm_gen.proofs.Trees.{AreItemsOf}
use Rattle.cmm_gen.specs.Generated.{RunsProperly}
use Rattle.cmm_gen.proofs.Symbols.{HasFunction, function_at, two_parameters}
use Rattle.cmm_gen.proofs.Calls.{IsEnd, gives, out, call_on, callee_ends}

of_end : (layout : Layout) (e : Evaluation) → IsEnd e → IsProper (finished layout e).outcome
of_end layout _ (gives v h w) = tt
of_end layout _ (out w) = tt

count_of : (k : ℕ) (fs : List DrawnFunction) (items : List ItemTree) → AreItemsOf k fs items → length (functions_among items) ≡ length fs
count_of _ _ _ (Trees.none k) = refl
count_of _ _ _ (Trees.more k f fs tree items is rest) = ap suc (count_of (suc k) fs items rest)

-- a run on two words
on_two : (fs : List DrawnFunction) (file : FileTree) → AreItemsOf 0 fs file.items → length fs < 2 ^ 64 → (layout : Layout) (entry : ℕ) → entry < length fs → (arguments answers : List ℕ) (n : ℕ) → length arguments ≡ 2 → IsProper (cmm_run file layout entry arguments answers n).outcome
on_two fs file are few layout entry less (a ∷ b ∷ []) answers n e =
    of_end layout (callees file layout (suc n) (call_on entry a b 0 false 0) (first_world file answers n)) (callee_ends fs file are few layout (suc n) entry less a b 0 0 false (first_world file answers n))
on_two fs file are few layout entry less [] answers n e = absurd (omega arith)
on_two fs file are few layout entry less (a ∷ []) answers n e = absurd (omega arith)
on_two fs file are few layout entry less (a ∷ b ∷ c ∷ more) answers n e = absurd (omega arith)

pub runs_properly : (fs : List DrawnFunction) (file : FileTree) → AreItemsOf 0 fs file.items → length fs < 2 ^ 64 → RunsProperly file
runs_properly fs file are few layout entry f arguments answers n there count =
    let within : entry < length (functions file) = slice_get_within (functions file) entry f there in
    let same : length (functions file) ≡ length fs = count_of 0 fs file.items are in
    let less : entry < length fs = omega arith in
    let here : HasFunction file.items entry entry = function_at 0 fs file.items are entry entry less (omega arith) in
    let tree_is : here.tree ≡ f = cc here.found in
    let params : length here.tree.params ≡ length f.params = ap (λ (t : FunctionTree). length t.params) tree_is in
    let two : length here.tree.params ≡ 2 = two_parameters entry here.f here.tree here.is in
    on_two fs file are few layout entry less arguments answers n (omega arith)
