use Rattle.std.proofs.Common.{◌≡◌, ◌+◌, ◌++◌, ◌∷◌, [], ◌&&◌, true, false, map, drop, length, length-append, length-drop, ap, sym, ◌∙◌, rules, arith}
use Rattle.std.specs.Slice.Iter.{iter_rest}
use Rattle.std.specs.Iterator.Adapters.{zip_first, zip_second}
use Rattle.std.proofs.lemmas.Slice.Zip.{zip_turn, zip_end}
use Rattle.bs_words.specs.Fits.{fits, type_of_comp}
use Rattle.cmm_tree.specs.Tree.{Parameter}
use Rattle.cmm_tree.specs.View.{params_view}
use Rattle.cmm_meaning.specs.Evaluation.{fit_parameters}
use Rattle.eval_frames.proofs.Parameters.{fit_turn, fit_ended, other_number}
use Rattle.eval_frames.proofs.bind.fit_parameters.Goals as goal

pub returns-then-params-values : goal.returns-then-params-values
returns-then-params-values c = sym (other_number c.args.end c.args.params.now c.args.values.now c.if-params-values.true)

pub loop-param-preserved : goal.loop-param-preserved
loop-param-preserved c =
    let xs = c.loop-param.yielded in
    let ps = c.args.params.now in
    let vs = c.args.values.now in
    let p = c.in-Some.param in
    let v = c.in-Some.value in
    let first : iter_rest (zip_first c.into_iter-param-iterator.result) ≡ ps = search rules in
    let second : iter_rest (zip_second c.into_iter-param-iterator.result) ≡ vs = search rules in
    let t = zip_turn ps vs xs c.into_iter-param-iterator.result c.loop-param.param-iterator c.next.new.self c.next.result
    first second c.loop-param.yielded_by (p, v) c.in-Some.is c.next.ensures.steps in
    let more : length (xs ++ (p, v) ∷ []) ≡ length xs + 1 = length-append xs ((p, v) ∷ []) in
    let rest = fit_parameters c.args.end (map (λ (p : Parameter). p.comp) (params_view (drop (length xs + 1) ps))) (drop (length xs + 1) vs) in
    let turn = fit_turn ps vs (length xs) p.now v.now t.0 t.1 (t.2 p.now) (t.3 v.now) c.args.end in
    let fit : true ≡ fits c.args.end (type_of_comp p.now.comp) v.now =
    c.if-not-fits.ensures ∙ ap (λ t. fits c.args.end t v.now) c.ty.ensures in
    ap (λ n. fit_parameters c.args.end (map (λ (p : Parameter). p.comp) (params_view (drop n ps))) (drop n vs)) more
    ∙ ap (λ b. b && rest) fit
    ∙ sym turn
    ∙ c.loop-param.invariant

pub returns-then-not-fits : goal.returns-then-not-fits
returns-then-not-fits c =
    let xs = c.loop-param.yielded in
    let ps = c.args.params.now in
    let vs = c.args.values.now in
    let p = c.in-Some.param in
    let v = c.in-Some.value in
    let first : iter_rest (zip_first c.into_iter-param-iterator.result) ≡ ps = search rules in
    let second : iter_rest (zip_second c.into_iter-param-iterator.result) ≡ vs = search rules in
    let t = zip_turn ps vs xs c.into_iter-param-iterator.result c.loop-param.param-iterator c.next.new.self c.next.result
    first second c.loop-param.yielded_by (p, v) c.in-Some.is c.next.ensures.steps in
    let rest = fit_parameters c.args.end (map (λ (p : Parameter). p.comp) (params_view (drop (length xs + 1) ps))) (drop (length xs + 1) vs) in
    let turn = fit_turn ps vs (length xs) p.now v.now t.0 t.1 (t.2 p.now) (t.3 v.now) c.args.end in
    let fit : false ≡ fits c.args.end (type_of_comp p.now.comp) v.now =
    c.if-not-fits.ensures ∙ ap (λ t. fits c.args.end t v.now) c.ty.ensures in
    ap (λ b. b && rest) fit ∙ sym turn ∙ c.loop-param.invariant

pub returns : goal.returns
returns c =
    let xs = c.loop-param.yielded in
    let ps = c.args.params.now in
    let vs = c.args.values.now in
    let first : iter_rest (zip_first c.into_iter-param-iterator.result) ≡ ps = search rules in
    let second : iter_rest (zip_second c.into_iter-param-iterator.result) ≡ vs = search rules in
    let e = zip_end ps vs xs c.into_iter-param-iterator.result c.loop-param.param-iterator c.next.new.self c.next.result
    first second c.loop-param.yielded_by c.in-None.is c.next.ensures.steps in
    let same : length ps ≡ length vs = c.if-params-values.false in
    let none : length (drop (length xs) ps) ≡ 0 = omega (arith, e, length-drop (length xs) ps) in
    let no_more : length (drop (length xs) vs) ≡ 0 = omega (arith, e, length-drop (length xs) vs) in
    sym (fit_ended c.args.end (drop (length xs) ps) (drop (length xs) vs) none no_more) ∙ c.loop-param.invariant
