-- What frames do with how the evaluation in them ends.
use Rattle.std.proofs.Common.{◌≡◌, ◌∙◌, ℕ, zero, suc, Bool, true, false, cond, not, List, [], ◌∷◌, ◌++◌, Option, Some, None, Result, Ok, Err, length, refl, ap, sym, subst, Vec, Box, Global}
use Rattle.std.specs.Prelude.{if◌then◌else◌, IfOk, reverse, nat_lt}
use Rattle.std.proofs.lemmas.List.{length-reverse, length-map}
use Rattle.std.specs.Borrow.{Bor}
use Rattle.bs_words.specs.declared.types.Ret.{Ret}
use Rattle.bs_words.specs.declared.types.Ty.TheVariants as ty
use Rattle.bs_words.specs.Operators.{word_in}
use Rattle.bs_words.specs.declared.values.Kind.{Kind}
use Rattle.bs_words.specs.declared.values.Kind.TheVariants.{SwitchRange}
use Rattle.bs_words.specs.declared.values.Value.{Value}
use Rattle.cmm_tree.proofs.Rows.{cases_in}
use Rattle.cmm_tree.specs.declared.expr.Binding.{Binding}
use Rattle.cmm_tree.specs.declared.expr.Case.{Case}
use Rattle.cmm_tree.specs.declared.expr.Expr.{Expr}
use Rattle.cmm_tree.specs.declared.expr.Form.{Form}
use Rattle.cmm_tree.specs.declared.expr.Form as form
use Rattle.cmm_types.specs.Types.{Scoped}
use Rattle.cmm_meaning.specs.State.{World, Here, back_in}
use Rattle.cmm_meaning.specs.Evaluation.{Body, NotProper, Evaluation, Gives, Raises, Stops, Surroundings, with_value, proper, tested, with_bound, back, chosen}
use Rattle.cmm_meaning.specs.Choices.{Chosen, case_for}
use Rattle.eval_frames.specs.Held.{choices_held}
use Rattle.eval_frames.specs.Filled.{or_improper, evaluated_expression, taken_by, left_operand, right_of, joined_by, operated_by, scoped_binding, bindings_from, first_bound, evaluated_handler, cases_ready, does, resume}
use Rattle.eval_frames.specs.declared.frame.Frame.{Frame}
use Rattle.eval_frames.specs.declared.frame.Step.{Step}
use Rattle.eval_frames.specs.declared.frame.Step.TheVariants as step
use Rattle.eval_frames.specs.declared.here.Here as here
use Rattle.eval_frames.specs.declared.here.Bound.{Bound}
use Rattle.eval_frames.specs.declared.tests.Tests.{Tests}
use Rattle.eval_frames.specs.Views.{bound_view, bounds_view}
use Rattle.cmm_eval.proofs.Turns.{pushed}
use Rattle.eval_frames.proofs.Listed.{choices_is}

-- as many bindings as the code has
pub bounds_count : (xs : List Bound) → length xs ≡ length (bounds_view xs)
bounds_count xs = sym (length-map (reverse xs) bound_view ∙ length-reverse xs)

pub if_ok_then : {A E : Type 0} (P Q : A → Type 0) (r : Result A E) → ((a : A) → P a → Q a) → IfOk r P → IfOk r Q
if_ok_then P Q (Ok a) f p = f a p
if_ok_then P Q (Err e) f p = p

-- a raise goes through all frames but those of a try and of a callee
pub raise_passes : (s : Surroundings) (st : Step) (f : Form) (tail : Bool) (v : Value) (h : Here) (w : World) →
    ((level tries : ℕ) → st ≡ step.Try level tries → ⊥) → ((here : here.Here) (tests : Tests) → st ≡ step.Return here tests → ⊥) →
    does s st f tail (Raises v h w) ≡ Raises v h w
raise_passes s (step.Typed type) f tail v h w p q = refl
raise_passes s (step.Scope level tries) f tail v h w p q = refl
raise_passes s step.Operand f tail v h w p q = refl
raise_passes s (step.First true) f tail v h w p q = refl
raise_passes s (step.First false) f tail v h w p q = refl
raise_passes s (step.Second first true) f tail v h w p q = refl
raise_passes s (step.Second first false) f tail v h w p q = refl
raise_passes s (step.Elements rest) f tail v h w p q = refl
raise_passes s (step.Bindings bindings) f tail v h w p q = refl
raise_passes s (step.Bound level tries) f tail v h w p q = refl
raise_passes s (step.Waiting rest values) f tail v h w p q = refl
raise_passes s (step.Callee waited) f tail v h w p q = refl
raise_passes s (step.Filling callee row) f tail v h w p q = refl
raise_passes s (step.LateCallee values) f tail v h w p q = refl
raise_passes s (step.Catch within zero level tries) f tail v h w p q = refl
raise_passes s (step.Catch within (suc turns) level tries) f tail v h w p q = refl
raise_passes s (step.Try level tries) f tail v h w p q = absurd (p level tries refl)
raise_passes s (step.Return here tests) f tail v h w p q = absurd (q here tests refl)

-- the name that a handler of a try binds
abbrev pub raised : List ℕ → Scoped
raised name = record { name = name; type = ty.Val; mutable = false }

-- a try handles a raise
pub try_handles : (s : Surroundings) (frames new : List Frame) (form : Bor Form) (tail : Bool) (level tries length' : ℕ) (v : Value) (h inner here : Here) (w : World)
    (name : List ℕ) (handler expr : Expr) →
    new ≡ frames ++ record { form = form; tail = tail; step = step.Scope length' tries } ∷ [] →
    inner ≡ back_in level tries h → length' ≡ length inner.names → here ≡ with_bound (raised name ∷ []) (v ∷ []) inner → expr ≡ handler →
    ((h : Here) (w : World) →
    evaluated_handler s form.now tail v h w ≡ back (length h.names) h.tries (evaluated_expression s handler tail (with_bound (raised name ∷ []) (v ∷ []) h) w)) →
    resume s new (evaluated_expression s expr tail here w) ≡ resume s frames (does s (step.Try level tries) form.now tail (Raises v h w))
try_handles s frames new form tail level tries length' v h inner here w name handler expr is-new is-inner is-length is-here is-expr is-handler =
    let body : Here → Evaluation = λ i. evaluated_expression s handler tail i w in
    let bind : Here → Here = λ i. with_bound (raised name ∷ []) (v ∷ []) i in
    pushed s frames new (record { form = form; tail = tail; step = step.Scope length' tries }) (evaluated_expression s expr tail here w)
    (evaluated_handler s form.now tail v (back_in level tries h) w) is-new
    (ap (λ (e : Expr). back length' tries (evaluated_expression s e tail here w)) is-expr
    ∙ ap (λ (i : Here). back length' tries (body i)) is-here
    ∙ ap (λ (n : ℕ). back n tries (body (bind inner))) is-length
    ∙ ap (λ (i : Here). back (length i.names) tries (body (bind i))) is-inner
    ∙ sym (is-handler (back_in level tries h) w))

-- the second of two operands is evaluated
pub second_begins : (s : Surroundings) (f : Form) (left_first tail : Bool) (first : Value) (left right expr : Expr) →
    ((h : Here) (w : World) → left_operand s f h w ≡ evaluated_expression s left false h w) → ((h : Here) (w : World) → right_of s f h w ≡ evaluated_expression s right false h w) →
    expr ≡ (if not left_first then left else right) → (h : Here) (w : World) →
    does s (step.Second first left_first) f tail (evaluated_expression s expr false h w) ≡ does s (step.First left_first) f tail (Gives (Some first) h w)
second_begins s f false tail first left right expr l r e h w =
    ap (λ (x : Expr). with_value (evaluated_expression s x false h w) (λ a h w. joined_by s f a first h w)) e
    ∙ ap (λ (x : Evaluation). with_value x (λ a h w. joined_by s f a first h w)) (sym (l h w))
second_begins s f true tail first left right expr l r e h w =
    ap (λ (x : Expr). with_value (evaluated_expression s x false h w) (λ b h w. joined_by s f first b h w)) e
    ∙ ap (λ (x : Evaluation). with_value x (λ b h w. joined_by s f first b h w)) (sym (r h w))

-- the first of these bindings has its value, or it does not fit
pub first_is_bound : (s : Surroundings) (end : ℕ) (bindings : List Binding) (b : Binding) (rest : List Binding) (v : Value) (h here : Here) (w : World) (kind : Option Kind) →
    bindings ≡ b ∷ rest → end ≡ s.end →
    ((w : World) (go : Here → Evaluation) →
    or_improper kind w (go here) ≡ tested end (scoped_binding b).type v w (go (with_bound (scoped_binding b ∷ []) (v ∷ []) h))) →
    or_improper kind w (bindings_from s rest here w) ≡ first_bound s bindings v h w
first_is_bound s end bindings b rest v h here w kind is-bindings is-end bind =
    bind w (λ i. bindings_from s rest i w)
    ∙ ap (λ (e : ℕ). tested e (scoped_binding b).type v w (bindings_from s rest (with_bound (scoped_binding b ∷ []) (v ∷ []) h) w)) is-end
    ∙ sym (ap (λ (l : List Binding). first_bound s l v h w) is-bindings)

-- ---- switches

-- a number below the size chooses a case
pub case_begins : (r : Result ℕ Kind) (k size : ℕ) (o : Option (Chosen Body)) (cases : List (Chosen Body)) (h : Here) (w : World) →
    r ≡ Ok k → nat_lt k size ≡ true → o ≡ case_for cases k →
    chosen o h w ≡ proper r w (λ k. cond (nat_lt k size) (chosen (case_for cases k) h w) (Stops (NotProper SwitchRange) w))
case_begins r k size o cases h w e lt is =
    let choose : ℕ → Evaluation = λ n. cond (nat_lt n size) (chosen (case_for cases n) h w) (Stops (NotProper SwitchRange) w) in
    ap (λ (x : Option (Chosen Body)). chosen x h w) is
    ∙ sym (ap (λ (b : Bool). cond b (chosen (case_for cases k) h w) (Stops (NotProper SwitchRange) w)) lt)
    ∙ sym (ap (λ (x : Result ℕ Kind). proper x w choose) e)

-- a switch takes a number to the cases of the code
pub switch_takes : (s : Surroundings) (size_at size : ℕ) (selector : Box Expr Global) (cases : Vec Case Global) (tail : Bool) (v : Value) (h : Here) (w : World) →
    taken_by s (form.Switch size_at size selector cases) tail v h w
    ≡ proper (word_in v) w (λ k. cond (nat_lt k size) (chosen (case_for (cases_ready s tail cases.items) k) h w) (Stops (NotProper SwitchRange) w))
switch_takes s size_at size selector cases tail v h w =
    let f : Form = form.Switch size_at size selector cases in
    let choose : List (Chosen Body) → ℕ → Evaluation = λ l n. cond (nat_lt n size) (chosen (case_for l n) h w) (Stops (NotProper SwitchRange) w) in
    ap (λ (l : List (Chosen Body)). proper (word_in v) w (choose l))
    (choices_is s (cases_in f).0 (cases_in f).1 tail ∙ ap (cases_ready s tail) (form.items_hidden-the_row-Case-2 cases))

-- ---- calls

-- the callee of a call is evaluated last
pub late_callee : (s : Surroundings) (f : Form) (b : Box Expr Global) (arguments : Vec Expr Global) (result : Ret) (result_at : ℕ) (tail : Bool) (callee : Option Value)
    (e : Expr) (values : List Value) → f ≡ form.App b arguments result result_at → callee ≡ None → e ≡ b.value → (h : Here) (w : World) →
    with_value (evaluated_expression s e false h w) (λ c h w. operated_by s f tail (Some c) values h w) ≡ operated_by s f tail callee values h w
late_callee s f b arguments result result_at tail callee e values p q r h w =
    let P : Form → Type 0 =
    λ g. with_value (evaluated_expression s b.value false h w) (λ c h w. operated_by s g tail (Some c) values h w) ≡ operated_by s g tail None values h w in
    ap (λ (x : Expr). with_value (evaluated_expression s x false h w) (λ c h w. operated_by s f tail (Some c) values h w)) r
    ∙ subst P (sym p) refl
    ∙ ap (λ (o : Option Value). operated_by s f tail o values h w) (sym q)
