-- Two evaluations that are one, and keep the names that are in scope.
use Rattle.std.proofs.Common.{◌≡◌, ◌∙◌, ℕ, zero, suc, ◌+◌, ◌-◌, Bool, true, false, cond, List, [], ◌∷◌, ◌++◌, Option, Some, None, Result, Ok, Err, length, map, drop, refl, ap, subst, sym, arith, append_assoc}
use Rattle.std.specs.Prelude.{bytes_eq, slice_get}
use Rattle.std.proofs.lemmas.List.{drop-map, length-map, length-append}
use Rattle.std.proofs.Math.Seq.{drop-append_seam}
use Rattle.bs_words.specs.Fits.{fits, misfit}
use Rattle.bs_words.specs.declared.types.Comp.{Comp}
use Rattle.bs_words.specs.declared.types.Ret.{Ret}
use Rattle.bs_words.specs.declared.types.Ret.TheVariants as ret
use Rattle.bs_words.specs.declared.types.Ty.{Ty}
use Rattle.bs_words.specs.declared.types.Ty.TheVariants as ty
use Rattle.bs_words.specs.declared.values.Kind.{Kind}
use Rattle.bs_words.specs.declared.values.Value.{Value}
use Rattle.bs_words.specs.declared.values.Value.TheVariants as value
use Rattle.cmm_tree.specs.Tree.{Expression, Parameter, LabelTree, Bindings, NoBinding, Bind, Declaration}
use Rattle.cmm_types.specs.Types.{Scoped, type_of, with_parameters, with_bindings, type_bound, is_mutable}
use Rattle.cmm_meaning.specs.State.{World, Here, Binding, scope, assigned, bound, back_in}
use Rattle.cmm_meaning.specs.Evaluation.{Stop, NotProper, Evaluated, Evaluation, Gives, Exits, Raises, Stops, Surroundings, and_then, only_value, with_value, proper, spend, of_type, tested, typed, both, unless_light, now_or_before, fit_parameters, back_from_call, as_written, call_from, called_with, applied, scoped_parameter, looked_up, node, back}
use Rattle.eval_frames.specs.Held.{node_held}

-- these names are the outermost of those
pub record Within (outer inner : List Scoped) : Type 0 where
  pub extra : List Scoped
  pub is : inner ≡ extra ++ outer

-- what is given has these names in scope; an exit or a raise has at least those
abbrev pub Keeps : {A : Type 0} → List Scoped → List Scoped → Evaluated A → Type 0
Keeps given outer (Gives a h w) = scope h ≡ given
Keeps given outer (Exits label values h w) = Within outer (scope h)
Keeps given outer (Raises v h w) = Within outer (scope h)
Keeps given outer (Stops why w) = Unit {0}

pub record Same {A : Type 0} (given outer : List Scoped) (x y : Evaluated A) : Type 0 where
  pub is : x ≡ y
  pub keeps : Keeps given outer x

pub within_same : (names : List Scoped) (h : Here) → scope h ≡ names → Within names (scope h)
within_same names h e = record { extra = []; is = e }

pub within_trans : (a b c : List Scoped) → Within a b → Within b c → Within a c
within_trans a b c p q =
    record { extra = q.extra ++ p.extra; is = q.is ∙ ap (λ l. q.extra ++ l) p.is ∙ sym (append_assoc q.extra p.extra a) }

-- ---- steps

pub same_then : {A B : Type 0} {i j o : List Scoped} {x y : Evaluated A} {f g : A → Here → World → Evaluated B} → Same i o x y →
    ((a : A) (h : Here) (w : World) → scope h ≡ i → Same j o (f a h w) (g a h w)) → Same j o (and_then x f) (and_then y g)
same_then {A} {x = Gives a h w} {g = g} p q =
    let e = q a h w p.keeps in record { is = e.is ∙ ap (λ (v : Evaluated A). and_then v g) p.is; keeps = e.keeps }
same_then {A} {x = Exits label values h w} {g = g} p q = record { is = ap (λ (v : Evaluated A). and_then v g) p.is; keeps = p.keeps }
same_then {A} {x = Raises v h w} {g = g} p q = record { is = ap (λ (v : Evaluated A). and_then v g) p.is; keeps = p.keeps }
same_then {A} {x = Stops why w} {g = g} p q = record { is = ap (λ (v : Evaluated A). and_then v g) p.is; keeps = tt }

-- what is left from an inner scope has the outer one too
pub same_widen : {A : Type 0} {j i o : List Scoped} {x y : Evaluated A} → Within o i → Same j i x y → Same j o x y
same_widen {x = Gives a h w} r p = record { is = p.is; keeps = p.keeps }
same_widen {i = i} {o = o} {x = Exits label values h w} r p = record { is = p.is; keeps = within_trans o i (scope h) r p.keeps }
same_widen {i = i} {o = o} {x = Raises v h w} r p = record { is = p.is; keeps = within_trans o i (scope h) r p.keeps }
same_widen {x = Stops why w} r p = record { is = p.is; keeps = tt }

same_only : {B : Type 0} {j o : List Scoped} (f g : Value → Here → World → Evaluated B) (v : Option Value) (h : Here) (w : World) →
    ((a : Value) → Same j o (f a h w) (g a h w)) → Same j o (only_value v f h w) (only_value v g h w)
same_only f g None h w q = record { is = refl; keeps = tt }
same_only f g (Some a) h w q = q a

pub same_value : {B : Type 0} {i j o : List Scoped} {x y : Evaluation} {f g : Value → Here → World → Evaluated B} → Same i o x y →
    ((a : Value) (h : Here) (w : World) → scope h ≡ i → Same j o (f a h w) (g a h w)) → Same j o (with_value x f) (with_value y g)
same_value {f = f} {g = g} p q =
    same_then {f = λ v h w. only_value v f h w} {g = λ v h w. only_value v g h w} p (λ v h w k. same_only f g v h w (λ a. q a h w k))

pub same_cond : {A : Type 0} {j o : List Scoped} {x y z u : Evaluated A} (b : Bool) → Same j o x y → Same j o z u →
    Same j o (cond b x z) (cond b y u)
same_cond true p q = p
same_cond false p q = q

pub same_tested : {A : Type 0} {j o : List Scoped} {x y : Evaluated A} (end : ℕ) (type : Ty) (v : Value) (w : World) → Same j o x y →
    Same j o (tested end type v w x) (tested end type v w y)
same_tested end type v w p = same_cond (fits end type v) p (record { is = refl; keeps = tt })

pub same_proper : {A B : Type 0} {j o : List Scoped} {f g : A → Evaluated B} (r : Result A Kind) (w : World) →
    ((a : A) → Same j o (f a) (g a)) → Same j o (proper r w f) (proper r w g)
same_proper (Ok a) w q = q a
same_proper (Err kind) w q = record { is = refl; keeps = tt }

same_spend : {j o : List Scoped} {f g : World → Evaluation} (k : ℕ) (w : World) → ((w : World) → Same j o (f w) (g w)) →
    Same j o (spend k w f) (spend k w g)
same_spend zero w q = record { is = refl; keeps = tt }
same_spend (suc l) w q = q (record w { left = l })

keeps_cond : {A : Type 0} (j o : List Scoped) (x y : Evaluated A) (b : Bool) → Keeps j o x → Keeps j o y → Keeps j o (cond b x y)
keeps_cond j o x y true p q = p
keeps_cond j o x y false p q = q

keeps_type : (j o : List Scoped) (end : ℕ) (type : Ty) (v : Option Value) (h : Here) (w : World) → scope h ≡ j →
    Keeps j o (of_type end type v h w)
keeps_type j o end ty.NoValue v h w e = e
keeps_type j o end ty.Never (Some v) h w e = tt
keeps_type j o end ty.Int (Some v) h w e =
    keeps_cond j o (Gives (Some v) h w) (Stops (NotProper (misfit ty.Int)) w) (fits end ty.Int v) e tt
keeps_type j o end ty.Val (Some v) h w e =
    keeps_cond j o (Gives (Some v) h w) (Stops (NotProper (misfit ty.Val)) w) (fits end ty.Val v) e tt
keeps_type j o end ty.Addr (Some v) h w e = e
keeps_type j o end ty.Never None h w e = tt
keeps_type j o end ty.Int None h w e = tt
keeps_type j o end ty.Val None h w e = tt
keeps_type j o end ty.Addr None h w e = tt

-- what is given fits this type
same_typed : {j o : List Scoped} {x y : Evaluation} (end : ℕ) (type : Ty) → Same j o x y → Same j o (typed end type x) (typed end type y)
same_typed {j = j} {o = o} end type p = same_then p (λ v h w e. record { is = refl; keeps = keeps_type j o end type v h w e })

-- a node that holds the type of its scope
pub same_node : (s : Surroundings) (names : List Scoped) (e : Expression) (type : Ty) (h : Here) (w : World) {go other : World → Evaluation} →
    type ≡ type_of names e → scope h ≡ names → ((w : World) → Same names names (go w) (other w)) →
    Same names names (node_held s false type w go) (node s e h w other)
same_node s names e type h w {go = go} {other = other} due k q =
    let P : Ty → Type 0 = λ t. Same names names (node_held s false type w go) (spend w.left w (λ w. typed s.end t (other w))) in
    subst P (due ∙ ap (λ n. type_of n e) (sym k)) (same_spend w.left w (λ w. same_typed s.end type (q w)))

pub same_gives : {A : Type 0} {j o : List Scoped} (a : A) (h : Here) (w : World) → scope h ≡ j → Same j o (Gives a h w) (Gives a h w)
same_gives a h w e = record { is = refl; keeps = e }

pub same_raises : {A : Type 0} {j o : List Scoped} (v : Value) (h : Here) (w : World) → scope h ≡ o →
    Same {A = A} j o (Raises v h w) (Raises v h w)
same_raises {o = o} v h w e = record { is = refl; keeps = within_same o h e }

pub same_exits : {A : Type 0} {j o : List Scoped} (label : LabelTree) (values : List Value) (h : Here) (w : World) → scope h ≡ o →
    Same {A = A} j o (Exits label values h w) (Exits label values h w)
same_exits {o = o} label values h w e = record { is = refl; keeps = within_same o h e }

pub same_stops : {A : Type 0} {j o : List Scoped} (why : Stop) (w : World) → Same {A = A} j o (Stops why w) (Stops why w)
same_stops why w = record { is = refl; keeps = tt }

-- ---- scopes

-- a name that is bound to an expression of this type
abbrev pub bound_as : List ℕ → Option Declaration → Ty → Scoped
bound_as name declared type = record { name = name; type = type_bound declared type; mutable = is_mutable declared }

-- a scope that was entered is left again
pub scope_back : (names : List Scoped) (h : Here) (level tries : ℕ) → level ≡ length names → Within names (scope h) →
    scope (back_in level tries h) ≡ names
scope_back names h level tries e r =
    let of : Binding → Scoped = λ b. b.scoped in
    let sizes : length (scope h) ≡ length h.names = length-map h.names of in
    let all : length (scope h) ≡ length r.extra + length names = ap length r.is ∙ length-append r.extra names in
    let count : length h.names - level ≡ length r.extra = omega arith in
    sym (drop-map of (length h.names - level) h.names) ∙ ap (λ n. drop n (scope h)) count ∙ ap (drop (length r.extra)) r.is
    ∙ drop-append_seam r.extra names

-- as many bindings as names
pub level_of : (names : List Scoped) (h : Here) → scope h ≡ names → length h.names ≡ length names
level_of names h e =
    let sizes : length (scope h) ≡ length h.names = length-map h.names (λ (b : Binding). b.scoped) in sym sizes ∙ ap length e

-- an evaluation in an inner scope is left
pub same_back : {i o : List Scoped} {x y : Evaluation} (level tries : ℕ) → level ≡ length o → Within o i → Same i i x y →
    Same o o (back level tries x) (back level tries y)
same_back {o = o} level tries e r p =
    same_then (same_widen r p) (λ v h w k. record { is = refl; keeps = scope_back o h level tries e (record { extra = r.extra; is = k ∙ r.is }) })

-- parameters that are bound to as many values
pub scope_bound : (params : List Parameter) (values : List Value) (names : List Binding) → length params ≡ length values →
    map (λ (b : Binding). b.scoped) (bound (map scoped_parameter params) values names) ≡ with_parameters params (map (λ (b : Binding). b.scoped) names)
scope_bound [] [] names e = refl
scope_bound [] (v ∷ values) names e = absurd (omega arith)
scope_bound (p ∷ params) [] names e = absurd (omega arith)
scope_bound (p ∷ params) (v ∷ values) names e =
    scope_bound params values (record { scoped = scoped_parameter p; value = v } ∷ names) (omega arith)

-- the names of parameters are round those that were in scope
pub within_parameters : (params : List Parameter) (names : List Scoped) → Within names (with_parameters params names)
within_parameters [] names = record { extra = []; is = refl }
within_parameters (p ∷ params) names =
    let one = scoped_parameter p in
    let r = within_parameters params (one ∷ names) in
    record { extra = r.extra ++ (one ∷ []); is = r.is ∙ sym (append_assoc r.extra (one ∷ []) names) }

-- so do those of bindings
pub within_bindings : (names : List Scoped) (bindings : Bindings) → Within names (with_bindings names bindings)
within_bindings names NoBinding = record { extra = []; is = refl }
within_bindings names (Bind at name declared value rest) =
    within_trans names (with_bindings names (Bind at name declared value NoBinding)) (with_bindings names (Bind at name declared value rest))
    (record { extra = bound_as name declared (type_of names value) ∷ []; is = refl })
    (within_bindings (with_bindings names (Bind at name declared value NoBinding)) rest)

-- a binding that is assigned keeps its name
scope_assigned_first : (b : Bool) (binding : Binding) (v : Value) (rest others : List Binding) →
    map (λ (b : Binding). b.scoped) others ≡ map (λ (b : Binding). b.scoped) rest →
    map (λ (b : Binding). b.scoped) (cond b (record binding { value = v } ∷ rest) (binding ∷ others)) ≡ binding.scoped ∷ map (λ (b : Binding). b.scoped) rest
scope_assigned_first true binding v rest others e = refl
scope_assigned_first false binding v rest others e = ap (λ l. binding.scoped ∷ l) e

pub scope_assigned : (names : List Binding) (name : List ℕ) (v : Value) →
    map (λ (b : Binding). b.scoped) (assigned names name v) ≡ map (λ (b : Binding). b.scoped) names
scope_assigned [] name v = refl
scope_assigned (b ∷ rest) name v =
    scope_assigned_first (bytes_eq b.scoped.name name) b v rest (assigned rest name v) (scope_assigned rest name v)

-- ---- operands

pub same_looked : {names : List Scoped} (o : Option Value) (h : Here) (w : World) → scope h ≡ names →
    Same names names (looked_up o h w) (looked_up o h w)
same_looked (Some v) h w e = record { is = refl; keeps = e }
same_looked None h w e = record { is = refl; keeps = tt }

pub same_both : {B : Type 0} {j o : List Scoped} {left left' right right' : Here → World → Evaluation}
    {go go' : Value → Value → Here → World → Evaluated B} (t : Bool) (h : Here) (w : World) → scope h ≡ o →
    ((h : Here) (w : World) → scope h ≡ o → Same o o (left h w) (left' h w)) →
    ((h : Here) (w : World) → scope h ≡ o → Same o o (right h w) (right' h w)) →
    ((a b : Value) (h : Here) (w : World) → scope h ≡ o → Same j o (go a b h w) (go' a b h w)) →
    Same j o (both t left right h w go) (both t left' right' h w go')
same_both false h w e p q r = same_value (q h w e) (λ b h w e. same_value (p h w e) (λ a h w e. r a b h w e))
same_both true h w e p q r = same_value (p h w e) (λ a h w e. same_value (q h w e) (λ b h w e. r a b h w e))

pub same_unless : {B : Type 0} {j o : List Scoped} {x y : Here → World → Evaluation} {go go' : Option Value → Here → World → Evaluated B}
    (light : Bool) (h : Here) (w : World) → scope h ≡ o →
    ((h : Here) (w : World) → scope h ≡ o → Same o o (x h w) (y h w)) →
    ((v : Option Value) (h : Here) (w : World) → scope h ≡ o → Same j o (go v h w) (go' v h w)) →
    Same j o (unless_light light x h w go) (unless_light light y h w go')
same_unless true h w e p q = q None h w e
same_unless false h w e p q = same_value (p h w e) (λ v h w e. q (Some v) h w e)

pub same_now : {B : Type 0} {j o : List Scoped} {x y : Here → World → Evaluation} {go go' : Value → Here → World → Evaluated B}
    (before : Option Value) (h : Here) (w : World) → scope h ≡ o →
    ((h : Here) (w : World) → scope h ≡ o → Same o o (x h w) (y h w)) →
    ((v : Value) (h : Here) (w : World) → scope h ≡ o → Same j o (go v h w) (go' v h w)) →
    Same j o (now_or_before before x h w go) (now_or_before before y h w go')
same_now (Some v) h w e p q = q v h w e
same_now None h w e p q = same_value (p h w e) q

-- ---- calls

-- a call leaves the activation of its caller as it was
same_call : {names : List Scoped} (h : Here) (x : Evaluation) → scope h ≡ names → Same names names (back_from_call h x) (back_from_call h x)
same_call h (Gives v i w) e = record { is = refl; keeps = e }
same_call h (Exits label values i w) e = record { is = refl; keeps = tt }
same_call {names = names} h (Raises v i w) e = record { is = refl; keeps = within_same names h e }
same_call h (Stops why w) e = record { is = refl; keeps = tt }

same_as_written : {names : List Scoped} (result : Ret) (v : Option Value) (h : Here) (w : World) → scope h ≡ names →
    Same names names (as_written result v h w) (as_written result v h w)
same_as_written ret.Unit v h w e = record { is = refl; keeps = e }
same_as_written (ret.Comp c) (Some v) h w e = record { is = refl; keeps = e }
same_as_written (ret.Comp c) None h w e = record { is = refl; keeps = tt }

pub same_written : {names : List Scoped} (result : Ret) (h : Here) (x : Evaluation) → scope h ≡ names →
    Same names names (and_then (back_from_call h x) (λ v h w. as_written result v h w)) (and_then (back_from_call h x) (λ v h w. as_written result v h w))
same_written result h x e = same_then (same_call h x e) (λ v h w e. same_as_written result v h w e)

same_called : {names : List Scoped} (s : Surroundings) (o : Option (List Comp)) (f : ℕ) (arguments : List Value) (result : Ret) (tail : Bool)
    (h : Here) (w : World) → scope h ≡ names →
    Same names names (called_with s o f arguments result tail h w) (called_with s o f arguments result tail h w)
same_called s None f arguments result tail h w e = record { is = refl; keeps = tt }
same_called s (Some comps) f arguments result tail h w e =
    same_cond (fit_parameters s.end comps arguments) (same_written result h (s.call (call_from f arguments tail h) w) e)
    (record { is = refl; keeps = tt })

pub same_applied : {names : List Scoped} (s : Surroundings) (f : Value) (arguments : List Value) (result : Ret) (tail : Bool) (h : Here) (w : World) →
    scope h ≡ names → Same names names (applied s f arguments result tail h w) (applied s f arguments result tail h w)
same_applied s (value.Word word) arguments result tail h w e = record { is = refl; keeps = tt }
same_applied s (value.Block serial offset) arguments result tail h w e = record { is = refl; keeps = tt }
same_applied s (value.Function f) arguments result tail h w e =
    same_called s (slice_get s.parameters f) f arguments result tail h w e
