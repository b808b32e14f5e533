-- A row of operands, and the list of them from its end.
use Rattle.std.proofs.Common.{◌≡◌, ◌∙◌, Bool, true, false, List, [], ◌∷◌, ◌++◌, Option, Some, None, refl, ap, sym}
use Rattle.std.specs.Prelude.{reverse}
use Rattle.std.proofs.lemmas.List.{append-nil}
use mathlib.Core.Former.{Count}
use mathlib.Core.List.{reverse_aux}
use Rattle.bs_words.specs.declared.values.Value.{Value}
use Rattle.cmm_tree.specs.View.{form_view}
use Rattle.cmm_tree.specs.declared.expr.Expr.{Expr}
use Rattle.cmm_tree.specs.declared.expr.Form.{Form}
use Rattle.cmm_tree.specs.declared.expr.Form as form
use Rattle.cmm_types.specs.Light.{is_light_address}
use Rattle.cmm_meaning.specs.State.{World, Here, scope}
use Rattle.cmm_meaning.specs.Evaluation.{Evaluated, Evaluation, Gives, Exits, Raises, Stops, Surroundings, and_then, with_value, unless_light, now_or_before}
use Rattle.eval_frames.specs.declared.group.EvaluationGroup.TheVariants as group
use Rattle.eval_frames.specs.Groups.{evaluation_group}
use Rattle.eval_frames.specs.Held.{held, inside, waiting_held, filled_held}
use Rattle.eval_frames.proofs.Listed.{then_same, value_same}
use Rattle.eval_frames.specs.Filled.{operands_of, operated_by, fills_in, after_waiting, waits_for}

-- ---- what goes on

-- what is given, if anything is, is of this kind
abbrev Each : {A : Type 0} → (A → Type 0) → Evaluated A → Type 0
Each P (Gives a h w) = P a
Each P (Exits label values h w) = Unit {0}
Each P (Raises v h w) = Unit {0}
Each P (Stops why w) = Unit {0}

then_where : {A B : Type 0} (P : A → Type 0) (e : Evaluated A) (f g : A → Here → World → Evaluated B) → Each P e →
    ((a : A) (h : Here) (w : World) → P a → f a h w ≡ g a h w) → and_then e f ≡ and_then e g
then_where P (Gives a h w) f g q p = p a h w q
then_where P (Exits label values h w) f g q p = refl
then_where P (Raises v h w) f g q p = refl
then_where P (Stops why w) f g q p = refl

then_then : {A B C : Type 0} (e : Evaluated A) (f : A → Here → World → Evaluated B) (g : B → Here → World → Evaluated C) →
    and_then (and_then e f) g ≡ and_then e (λ a h w. and_then (f a h w) g)
then_then (Gives a h w) f g = refl
then_then (Exits label values h w) f g = refl
then_then (Raises v h w) f g = refl
then_then (Stops why w) f g = refl

each_then : {A B : Type 0} (P : A → Type 0) (Q : B → Type 0) (e : Evaluated A) (f : A → Here → World → Evaluated B) → Each P e →
    ((a : A) (h : Here) (w : World) → P a → Each Q (f a h w)) → Each Q (and_then e f)
each_then P Q (Gives a h w) f q p = p a h w q
each_then P Q (Exits label values h w) f q p = tt
each_then P Q (Raises v h w) f q p = tt
each_then P Q (Stops why w) f q p = tt

value_then : {B C : Type 0} (e : Evaluation) (f : Value → Here → World → Evaluated B) (g : B → Here → World → Evaluated C) →
    and_then (with_value e f) g ≡ with_value e (λ v h w. and_then (f v h w) g)
value_then (Gives (Some v) h w) f g = refl
value_then (Gives None h w) f g = refl
value_then (Exits label values h w) f g = refl
value_then (Raises v h w) f g = refl
value_then (Stops why w) f g = refl

each_value : {B : Type 0} (Q : B → Type 0) (e : Evaluation) (f : Value → Here → World → Evaluated B) →
    ((v : Value) (h : Here) (w : World) → Each Q (f v h w)) → Each Q (with_value e f)
each_value Q (Gives (Some v) h w) f p = p v h w
each_value Q (Gives None h w) f p = tt
each_value Q (Exits label values h w) f p = tt
each_value Q (Raises v h w) f p = tt
each_value Q (Stops why w) f p = tt

light_then : {B C : Type 0} (light : Bool) (e : Here → World → Evaluation) (h : Here) (w : World) (f : Option Value → Here → World → Evaluated B)
    (g : B → Here → World → Evaluated C) →
    and_then (unless_light light e h w f) g ≡ unless_light light e h w (λ v h w. and_then (f v h w) g)
light_then true e h w f g = refl
light_then false e h w f g = value_then (e h w) (λ v h w. f (Some v) h w) g

each_light : {B : Type 0} (Q : B → Type 0) (light : Bool) (e : Here → World → Evaluation) (h : Here) (w : World) (f : Option Value → Here → World → Evaluated B) →
    ((v : Option Value) (h : Here) (w : World) → Each Q (f v h w)) → Each Q (unless_light light e h w f)
each_light Q true e h w f p = p None h w
each_light Q false e h w f p = each_value Q (e h w) (λ v h w. f (Some v) h w) (λ v h w. p (Some v) h w)

light_alike : {B : Type 0} (light : Bool) (e : Here → World → Evaluation) (h : Here) (w : World) (f g : Option Value → Here → World → Evaluated B) →
    ((v : Option Value) (h : Here) (w : World) → f v h w ≡ g v h w) → unless_light light e h w f ≡ unless_light light e h w g
light_alike true e h w f g p = p None h w
light_alike false e h w f g p = value_same (e h w) (λ v h w. f (Some v) h w) (λ v h w. g (Some v) h w) (λ v h w. p (Some v) h w)

before_then : {B C : Type 0} (before : Option Value) (e : Here → World → Evaluation) (h : Here) (w : World) (f : Value → Here → World → Evaluated B)
    (g : B → Here → World → Evaluated C) →
    and_then (now_or_before before e h w f) g ≡ now_or_before before e h w (λ v h w. and_then (f v h w) g)
before_then (Some v) e h w f g = refl
before_then None e h w f g = value_then (e h w) f g

-- ---- the operands that wait

-- as many as the row has operands
abbrev AsLong : {m : _} → form.Row_of-Expr m → List (Option Value) → Type 0
AsLong form.end_of-Expr [] = Unit {0}
AsLong form.end_of-Expr (v ∷ values) = ⊥
AsLong (form.more_of-Expr at type e rest) [] = ⊥
AsLong (form.more_of-Expr at type e rest) (v ∷ values) = AsLong rest values

waiting_long : (s : Surroundings) (n : Count) (k : form.Row_of-Expr n) (h : Here) (w : World) → Each (AsLong k) (waiting_held s k h w)
waiting_long s n form.end_of-Expr h w = tt
waiting_long s n (form.more_of-Expr at type e rest) h w =
    each_then (AsLong rest) (AsLong (form.more_of-Expr at type e rest)) (waiting_held s rest h w)
    (λ values h w. unless_light (is_light_address (scope h) (form_view at e)) (held s type e false) h w (λ v h w. Gives (v ∷ values) h w))
    (waiting_long s _ rest h w)
    (λ values h w long. each_light (AsLong (form.more_of-Expr at type e rest)) (is_light_address (scope h) (form_view at e)) (held s type e false) h w
    (λ v h w. Gives (v ∷ values) h w) (λ v h w. long))

waits_row : (s : Surroundings) (f : Form) (tail : Bool) (n : Count) (k : form.Row_of-Expr n) (more : List Expr) (after : List (Option Value)) (h : Here) (w : World) →
    waits_for s f tail (reverse_aux (form.items-the_row-Expr n k) more) after h w
    ≡ and_then (waiting_held s k h w) (λ before h w. waits_for s f tail more (before ++ after) h w)
waits_row s f tail n form.end_of-Expr more after h w = refl
waits_row s f tail n (form.more_of-Expr at type e rest) more after h w =
    let x : Expr = record { at = at; ty = type; form = e } in
    let go : List (Option Value) → Here → World → Evaluation = λ before h w. waits_for s f tail more (before ++ after) h w in
    let one : List (Option Value) → Here → World → Evaluated (List (Option Value)) =
    λ values h w. unless_light (is_light_address (scope h) (form_view at e)) (held s type e false) h w (λ v h w. Gives (v ∷ values) h w) in
    waits_row s f tail _ rest (x ∷ more) after h w
    ∙ then_same (waiting_held s rest h w) (λ before h w. waits_for s f tail (x ∷ more) (before ++ after) h w) (λ before h w. and_then (one before h w) go)
    (λ before h w. sym (light_then (is_light_address (scope h) (form_view at e)) (held s type e false) h w (λ v h w. Gives (v ∷ before) h w) go))
    ∙ sym (then_then (waiting_held s rest h w) one go)

whole_row : (s : Surroundings) (f : Form) (tail : Bool) (n : Count) (k : form.Row_of-Expr n) (h : Here) (w : World) →
    waits_for s f tail (reverse (form.items-the_row-Expr n k)) [] h w
    ≡ and_then (waiting_held s k h w) (λ before h w. after_waiting s f tail before h w)
whole_row s f tail n k h w =
    waits_row s f tail n k [] [] h w
    ∙ then_same (waiting_held s k h w) (λ before h w. after_waiting s f tail (before ++ []) h w) (λ before h w. after_waiting s f tail before h w)
    (λ before h w. ap (λ l. after_waiting s f tail l h w) (append-nil before))

-- ---- and those that have waited

fills_row : (s : Surroundings) (f : Form) (tail : Bool) (callee : Option Value) (n : Count) (k : form.Row_of-Expr n) (more : List Expr)
    (before past : List (Option Value)) (values : List Value) (h : Here) (w : World) → AsLong k before →
    fills_in s f tail callee (reverse_aux (form.items-the_row-Expr n k) more) (reverse_aux before past) values h w
    ≡ and_then (filled_held s k before h w) (λ these h w. fills_in s f tail callee more past (these ++ values) h w)
fills_row s f tail callee n form.end_of-Expr more [] past values h w long = refl
fills_row s f tail callee n form.end_of-Expr more (v ∷ before) past values h w long = elim long [ ]
fills_row s f tail callee n (form.more_of-Expr at type e rest) more [] past values h w long = elim long [ ]
fills_row s f tail callee n (form.more_of-Expr at type e rest) more (v ∷ before) past values h w long =
    let x : Expr = record { at = at; ty = type; form = e } in
    let go : List Value → Here → World → Evaluation = λ these h w. fills_in s f tail callee more past (these ++ values) h w in
    let one : List Value → Here → World → Evaluated (List Value) =
    λ these h w. now_or_before v (held s type e false) h w (λ v h w. Gives (v ∷ these) h w) in
    fills_row s f tail callee _ rest (x ∷ more) before (v ∷ past) values h w long
    ∙ then_same (filled_held s rest before h w) (λ these h w. fills_in s f tail callee (x ∷ more) (v ∷ past) (these ++ values) h w)
    (λ these h w. and_then (one these h w) go)
    (λ these h w. sym (before_then v (held s type e false) h w (λ v h w. Gives (v ∷ these) h w) go))
    ∙ sym (then_then (filled_held s rest before h w) one go)

rest_row : (s : Surroundings) (f : Form) (tail : Bool) (callee : Option Value) (n : Count) (k : form.Row_of-Expr n) (before : List (Option Value)) (h : Here) (w : World) →
    AsLong k before →
    fills_in s f tail callee (reverse (form.items-the_row-Expr n k)) (reverse before) [] h w
    ≡ and_then (filled_held s k before h w) (λ values h w. operated_by s f tail callee values h w)
rest_row s f tail callee n k before h w long =
    fills_row s f tail callee n k [] before [] [] h w long
    ∙ then_same (filled_held s k before h w) (λ values h w. operated_by s f tail callee (values ++ []) h w) (λ values h w. operated_by s f tail callee values h w)
    (λ values h w. ap (λ l. operated_by s f tail callee l h w) (append-nil values))

-- a node with a row of operands that has nothing before them but those that wait
plain_row : (s : Surroundings) (f : Form) (tail : Bool) (n : Count) (k : form.Row_of-Expr n) (h : Here) (w : World) →
    ((before : List (Option Value)) (h : Here) (w : World) →
    after_waiting s f tail before h w ≡ fills_in s f tail None (reverse (form.items-the_row-Expr n k)) (reverse before) [] h w) →
    waits_for s f tail (reverse (form.items-the_row-Expr n k)) [] h w
    ≡ and_then (waiting_held s k h w) (λ before h w. and_then (filled_held s k before h w) (λ values h w. operated_by s f tail None values h w))
plain_row s f tail n k h w plain =
    whole_row s f tail n k h w
    ∙ then_where (AsLong k) (waiting_held s k h w) (λ before h w. after_waiting s f tail before h w)
    (λ before h w. and_then (filled_held s k before h w) (λ values h w. operated_by s f tail None values h w))
    (waiting_long s n k h w)
    (λ before h w long. plain before h w ∙ rest_row s f tail None n k before h w long)

-- a node with a row of operands
pub row_waits : (s : Surroundings) (f : Form) (tail : Bool) (h : Here) (w : World) → evaluation_group f ≡ group.Row →
    waits_for s f tail (reverse (operands_of f)) [] h w ≡ inside s f tail h w
row_waits s (form.Integer n) tail h w e = cc
row_waits s (form.Pointer n) tail h w e = cc
row_waits s (form.Symbol name) tail h w e = cc
row_waits s (form.Name name) tail h w e = cc
row_waits s form.Nothing tail h w e = cc
row_waits s (form.Float' word_at shape operands) tail h w e = cc
row_waits s (form.Let' shape bindings p at type body) tail h w e = cc
row_waits s (form.Assign' name_at name p at type value) tail h w e = cc
row_waits s (form.Operator' op p left_at left_type left q right_at right_type right) tail h w e = cc
row_waits s (form.Load' chunk p at type address) tail h w e = cc
row_waits s (form.Store' chunk p address_at address_type address q value_at value_type value) tail h w e = cc
row_waits s (form.Alloc' header_at header shape operands) tail h w e =
    plain_row s (form.Alloc' header_at header shape operands) tail _ operands h w (λ before h w. refl)
row_waits s (form.App' p at type callee shape arguments result result_at) tail h w e =
    let f : Form = form.App' p at type callee shape arguments result result_at in
    let called : Option Value → List (Option Value) → Here → World → Evaluation =
    λ c before h w. and_then (filled_held s arguments before h w) (λ values h w. operated_by s f tail c values h w) in
    whole_row s f tail _ arguments h w
    ∙ then_where (AsLong arguments) (waiting_held s arguments h w) (λ before h w. after_waiting s f tail before h w)
    (λ before h w. unless_light (is_light_address (scope h) (form_view at callee)) (held s type callee false) h w (λ c h w. called c before h w))
    (waiting_long s _ arguments h w)
    (λ before h w long. light_alike (is_light_address (scope h) (form_view at callee)) (held s type callee false) h w
    (λ c h w. fills_in s f tail c (reverse (form.items-the_row-Expr _ arguments)) (reverse before) [] h w) (λ c h w. called c before h w)
    (λ c h w. rest_row s f tail c _ arguments before h w long))
row_waits s (form.Extcall' frame name shape arguments result result_at) tail h w e =
    plain_row s (form.Extcall' frame name shape arguments result result_at) tail _ arguments h w (λ before h w. refl)
row_waits s (form.Checkbound' p bound_at bound_type bound q index_at index_type index) tail h w e = cc
row_waits s (form.Raise' p at type value) tail h w e = cc
row_waits s (form.Seq' shape elements) tail h w e = cc
row_waits s (form.If' p at type condition q true_at true_type on_true r false_at false_type on_false) tail h w e = cc
row_waits s (form.Switch' size_at size p at type selector shape cases) tail h w e = cc
row_waits s (form.Catch' p at type body shape handlers) tail h w e = cc
row_waits s (form.Exit' label_at label shape arguments) tail h w e =
    plain_row s (form.Exit' label_at label shape arguments) tail _ arguments h w (λ before h w. refl)
row_waits s (form.Try' p at type body name_at name q handler_at handler_type handler) tail h w e = cc
