use Rattle.std.proofs.Common.{◌≡◌, ◌+◌, ◌++◌, ◌∷◌, [], map, min, drop, false, length, length-append, length-drop, ap, sym, ◌∙◌, rules, arith}
use Rattle.std.specs.Slice.Iter.{iter_rest}
use Rattle.std.specs.Iterator.Adapters.{zip_first, zip_second}
use Rattle.std.proofs.lemmas.Slice.Zip.{zip_turn, zip_end}
use Rattle.bs_words.specs.declared.types.Ty.{Ty}
use Rattle.cmm_tree.specs.View.{param_view, params_view}
use Rattle.cmm_meaning.specs.Evaluation.{scoped_parameter, with_bound}
use Rattle.eval_frames.specs.Views.{here_view}
use Rattle.eval_frames.proofs.Parameters.{bound_turn, bound_all}
use Rattle.eval_frames.proofs.bind.bind_params.Goals as goal

pub loop-param-preserved : goal.loop-param-preserved
loop-param-preserved c =
    let xs = c.loop-param.yielded in
    let p = c.in-Some.param in
    let v = c.in-Some.value in
    let first : iter_rest (zip_first c.into_iter-param-iterator.result) ≡ c.args.params.now = search rules in
    let second : iter_rest (zip_second c.into_iter-param-iterator.result) ≡ c.args.values.now = search rules in
    let t = zip_turn c.args.params.now c.args.values.now xs c.into_iter-param-iterator.result c.loop-param.param-iterator c.next.new.self c.next.result
    first second c.loop-param.yielded_by (p, v) c.in-Some.is c.next.ensures.steps in
    let more : length (xs ++ (p, v) ∷ []) ≡ length xs + 1 = length-append xs ((p, v) ∷ []) in
    let turn = bound_turn c.args.params.now c.args.values.now (length xs) p.now v.now t.0 t.1 (t.2 p.now) (t.3 v.now) (here_view c.loop-param.here) in
    let here : here_view c.bind.new.self ≡ with_bound (scoped_parameter (param_view p.now) ∷ []) (v.now ∷ []) (here_view c.loop-param.here) =
    c.in_ok-bind.ensures
    ∙ ap (λ (t : Ty). with_bound (record { name = p.now.name; type = t; mutable = false } ∷ []) (v.now ∷ []) (here_view c.loop-param.here)) c.ty.ensures in
    ap (λ n. with_bound (map scoped_parameter (params_view (drop n c.args.params.now))) (drop n c.args.values.now) (here_view c.bind.new.self)) more
    ∙ ap (with_bound (map scoped_parameter (params_view (drop (length xs + 1) c.args.params.now))) (drop (length xs + 1) c.args.values.now)) here
    ∙ sym turn
    ∙ c.loop-param.invariant

pub returns : goal.returns
returns c =
    let xs = c.loop-param.yielded in
    let ps = c.args.params.now in
    let vs = c.args.values.now in
    let first : iter_rest (zip_first c.into_iter-param-iterator.result) ≡ ps = search rules in
    let second : iter_rest (zip_second c.into_iter-param-iterator.result) ≡ vs = search rules in
    let e = zip_end ps vs xs c.into_iter-param-iterator.result c.loop-param.param-iterator c.next.new.self c.next.result
    first second c.loop-param.yielded_by c.in-None.is c.next.ensures.steps in
    let none : min (length (drop (length xs) ps)) (length (drop (length xs) vs)) ≡ 0 = omega (arith, e, length-drop (length xs) ps, length-drop (length xs) vs) in
    sym (bound_all (drop (length xs) ps) (drop (length xs) vs) (here_view c.loop-param.here) none) ∙ c.loop-param.invariant
