-- One turn of the machine: a node begins.
use Rattle.std.proofs.Common.{◌≡◌, ◌≢◌, ◌∙◌, ℕ, zero, suc, ◌-◌, Bool, true, false, List, [], ◌∷◌, ◌++◌, refl, ap, sym, arith}
use Rattle.bs_words.specs.declared.values.Kind.TheVariants.{BadValue}
use Rattle.cmm_tree.specs.declared.expr.Expr.{Expr}
use Rattle.cmm_tree.specs.declared.expr.Form.{Form}
use Rattle.cmm_tree.specs.declared.expr.Form as form
use Rattle.cmm_meaning.specs.State.{World, Here}
use Rattle.cmm_meaning.specs.Evaluation.{OutOfFuel, NotProper, Evaluation, Stops, Surroundings, spend, typed}
use Rattle.eval_frames.specs.declared.group.EvaluationGroup.{EvaluationGroup}
use Rattle.eval_frames.specs.declared.group.EvaluationGroup.TheVariants as group
use Rattle.eval_frames.specs.declared.frame.Frame.{Frame}
use Rattle.eval_frames.specs.Groups.{evaluation_group}
use Rattle.eval_frames.specs.Held.{is_float_form, node_held, inside}
use Rattle.eval_frames.specs.Filled.{evaluated_expression, fills_frame, resume}
use Rattle.cmm_eval.proofs.Resumed.{resume_push}

-- a frame that is added, and what is evaluated in it
pub pushed : (s : Surroundings) (frames new : List Frame) (f : Frame) (e whole : Evaluation) → new ≡ frames ++ f ∷ [] → fills_frame s f e ≡ whole →
    resume s new e ≡ resume s frames whole
pushed s frames new f e whole p q = ap (λ (l : List Frame). resume s l e) p ∙ resume_push s frames f e ∙ ap (resume s frames) q

abbrev is_float_group : EvaluationGroup → Bool
is_float_group group.Float = true
is_float_group group.Leaf = false
is_float_group group.One = false
is_float_group group.Two = false
is_float_group group.Row = false
is_float_group group.Sequence = false
is_float_group group.Scope = false

float_group : (f : Form) → is_float_form f ≡ is_float_group (evaluation_group f)
float_group (form.Integer n) = refl
float_group (form.Pointer n) = refl
float_group (form.Symbol name) = refl
float_group (form.Name name) = refl
float_group form.Nothing = refl
float_group (form.Float' word_at shape operands) = refl
float_group (form.Let' shape bindings p at type body) = refl
float_group (form.Assign' name_at name p at type value) = refl
float_group (form.Operator' op p left_at left_type left q right_at right_type right) = refl
float_group (form.Load' chunk p at type address) = refl
float_group (form.Store' chunk p address_at address_type address q value_at value_type value) = refl
float_group (form.Alloc' header_at header shape operands) = refl
float_group (form.App' p at type callee shape arguments result result_at) = refl
float_group (form.Extcall' frame name shape arguments result result_at) = refl
float_group (form.Checkbound' p bound_at bound_type bound q index_at index_type index) = refl
float_group (form.Raise' p at type value) = refl
float_group (form.Seq' shape elements) = refl
float_group (form.If' p at type condition q true_at true_type on_true r false_at false_type on_false) = refl
float_group (form.Switch' size_at size p at type selector shape cases) = refl
float_group (form.Catch' p at type body shape handlers) = refl
float_group (form.Exit' label_at label shape arguments) = refl
float_group (form.Try' p at type body name_at name q handler_at handler_type handler) = refl

not_float : (g : EvaluationGroup) → g ≢ group.Float → is_float_group g ≡ false
not_float group.Float p = absurd (p refl)
not_float group.Leaf p = refl
not_float group.One p = refl
not_float group.Two p = refl
not_float group.Row p = refl
not_float group.Sequence p = refl
not_float group.Scope p = refl

-- a float begins no node
pub floats : (s : Surroundings) (e : Expr) (tail : Bool) (h : Here) (w : World) → evaluation_group e.form ≡ group.Float →
    evaluated_expression s e tail h w ≡ Stops (NotProper BadValue) w
floats s e tail h w p =
    ap (λ b. node_held s b e.ty w (λ w. inside s e.form tail h w)) (float_group e.form ∙ ap is_float_group p)

spent : (left : ℕ) (w : World) (go : World → Evaluation) → left ≢ 0 → spend left w go ≡ go (record w { left = left - 1 })
spent zero w go p = absurd (p refl)
spent (suc n) w go p = let e : n ≡ suc n - 1 = omega arith in ap (λ k. go (record w { left = k })) e

begun : (s : Surroundings) (e : Expr) (tail : Bool) (h : Here) (w : World) → evaluation_group e.form ≢ group.Float →
    evaluated_expression s e tail h w ≡ spend w.left w (λ w. typed s.end e.ty (inside s e.form tail h w))
begun s e tail h w p =
    ap (λ b. node_held s b e.ty w (λ w. inside s e.form tail h w)) (float_group e.form ∙ not_float (evaluation_group e.form) p)

-- no unit is left
pub out_of_fuel : (s : Surroundings) (e : Expr) (tail : Bool) (h : Here) (w : World) → evaluation_group e.form ≢ group.Float → w.left ≡ 0 →
    evaluated_expression s e tail h w ≡ Stops OutOfFuel w
out_of_fuel s e tail h w p q =
    begun s e tail h w p ∙ ap (λ n. spend n w (λ w. typed s.end e.ty (inside s e.form tail h w))) q

-- a node takes a unit, and what it gives is tested
pub node_begins : (s : Surroundings) (e : Expr) (tail : Bool) (h : Here) (w : World) → evaluation_group e.form ≢ group.Float → w.left ≢ 0 →
    typed s.end e.ty (inside s e.form tail h (record w { left = w.left - 1 })) ≡ evaluated_expression s e tail h w
node_begins s e tail h w p q =
    sym (begun s e tail h w p ∙ spent w.left w (λ w. typed s.end e.ty (inside s e.form tail h w)) q)
