use Rattle.std.proofs.Common.{◌≡◌, ◌+◌, ◌++◌, ◌∷◌, [], true, false, cond, min, drop, length, length-append, length-drop, ap, sym, ◌∙◌, rules, arith}
use Rattle.std.specs.Slice.Iter.{iter_rest}
use Rattle.std.specs.Iterator.Adapters.{zip_first, zip_second}
use Rattle.std.proofs.lemmas.Slice.Zip.{zip_turn, zip_end}
use Rattle.bs_words.specs.Fits.{fits, misfit, type_of_comp}
use Rattle.cmm_tree.specs.View.{params_view}
use Rattle.cmm_meaning.specs.Evaluation.{Evaluation, NotProper, Stops, entered}
use Rattle.eval_frames.proofs.Parameters.{entered_turn, entered_all, entered_not}
use Rattle.eval_frames.proofs.bind.first_misfit.Goals as goal

pub loop-param-preserved : goal.loop-param-preserved
loop-param-preserved c w go =
    let xs = c.loop-param.yielded in
    let ps = c.args.params.now in
    let vs = c.args.values.now in
    let p = c.in-Some.param in
    let v = c.in-Some.value in
    let first : iter_rest (zip_first c.into_iter-param-iterator.result) ≡ ps = search rules in
    let second : iter_rest (zip_second c.into_iter-param-iterator.result) ≡ vs = search rules in
    let t = zip_turn ps vs xs c.into_iter-param-iterator.result c.loop-param.param-iterator c.next.new.self c.next.result
    first second c.loop-param.yielded_by (p, v) c.in-Some.is c.next.ensures.steps in
    let more : length (xs ++ (p, v) ∷ []) ≡ length xs + 1 = length-append xs ((p, v) ∷ []) in
    let rest = entered c.args.end (params_view (drop (length xs + 1) ps)) (drop (length xs + 1) vs) w go in
    let turn = entered_turn ps vs (length xs) p.now v.now t.0 t.1 (t.2 p.now) (t.3 v.now) c.args.end w go in
    let fit : true ≡ fits c.args.end (type_of_comp p.now.comp) v.now =
    c.if-not-fits.ensures ∙ ap (λ t. fits c.args.end t v.now) c.ty-ty.ensures in
    let stop : Evaluation = Stops (NotProper (misfit (type_of_comp p.now.comp))) w in
    ap (λ n. entered c.args.end (params_view (drop n ps)) (drop n vs) w go) more
    ∙ ap (λ b. cond b rest stop) fit
    ∙ sym turn
    ∙ c.loop-param.invariant w go

pub returns-then-not-fits : goal.returns-then-not-fits
returns-then-not-fits c w go =
    let xs = c.loop-param.yielded in
    let ps = c.args.params.now in
    let vs = c.args.values.now in
    let p = c.in-Some.param in
    let v = c.in-Some.value in
    let first : iter_rest (zip_first c.into_iter-param-iterator.result) ≡ ps = search rules in
    let second : iter_rest (zip_second c.into_iter-param-iterator.result) ≡ vs = search rules in
    let t = zip_turn ps vs xs c.into_iter-param-iterator.result c.loop-param.param-iterator c.next.new.self c.next.result
    first second c.loop-param.yielded_by (p, v) c.in-Some.is c.next.ensures.steps in
    let rest = entered c.args.end (params_view (drop (length xs + 1) ps)) (drop (length xs + 1) vs) w go in
    let turn = entered_turn ps vs (length xs) p.now v.now t.0 t.1 (t.2 p.now) (t.3 v.now) c.args.end w go in
    let fit : false ≡ fits c.args.end (type_of_comp p.now.comp) v.now =
    c.if-not-fits.ensures ∙ ap (λ t. fits c.args.end t v.now) c.ty-ty.ensures in
    let stop : Evaluation = Stops (NotProper (misfit (type_of_comp p.now.comp))) w in
    ap (λ k. Stops (NotProper k) w) (c.misfit.ensures ∙ ap misfit c.ty-ty.ensures)
    ∙ ap (λ b. cond b rest stop) fit
    ∙ sym turn
    ∙ c.loop-param.invariant w go

pub returns-then-params-values : goal.returns-then-params-values
returns-then-params-values c w go =
    let xs = c.loop-param.yielded in
    let ps = c.args.params.now in
    let vs = c.args.values.now in
    let first : iter_rest (zip_first c.into_iter-param-iterator.result) ≡ ps = search rules in
    let second : iter_rest (zip_second c.into_iter-param-iterator.result) ≡ vs = search rules in
    let e = zip_end ps vs xs c.into_iter-param-iterator.result c.loop-param.param-iterator c.next.new.self c.next.result
    first second c.loop-param.yielded_by c.in-None.is c.next.ensures.steps in
    let none : min (length (drop (length xs) ps)) (length (drop (length xs) vs)) ≡ 0 = omega (arith, e, length-drop (length xs) ps, length-drop (length xs) vs) in
    let other : length (drop (length xs) ps) ≡ length (drop (length xs) vs) → ⊥ =
    λ h. c.if-params-values.true (omega (arith, e, h, length-drop (length xs) ps, length-drop (length xs) vs)) in
    sym (entered_not c.args.end (drop (length xs) ps) (drop (length xs) vs) w go none other) ∙ c.loop-param.invariant w go

pub returns : goal.returns
returns c w go =
    let xs = c.loop-param.yielded in
    let ps = c.args.params.now in
    let vs = c.args.values.now in
    let first : iter_rest (zip_first c.into_iter-param-iterator.result) ≡ ps = search rules in
    let second : iter_rest (zip_second c.into_iter-param-iterator.result) ≡ vs = search rules in
    let e = zip_end ps vs xs c.into_iter-param-iterator.result c.loop-param.param-iterator c.next.new.self c.next.result
    first second c.loop-param.yielded_by c.in-None.is c.next.ensures.steps in
    let same : length ps ≡ length vs = c.if-params-values.false in
    let none : length (drop (length xs) ps) ≡ 0 = omega (arith, e, length-drop (length xs) ps) in
    let no_more : length (drop (length xs) vs) ≡ 0 = omega (arith, e, length-drop (length xs) vs) in
    sym (entered_all c.args.end (drop (length xs) ps) (drop (length xs) vs) w go none no_more) ∙ c.loop-param.invariant w go
