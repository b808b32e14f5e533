-- An evaluation with one layout beside the same with another: the steps.
--
-- The second activation has its own bytes below it and its own frame; the second world has its own stack need, and its
-- own words in the calls made. All else is the same, as it computes, so that what is tested is tested alike.
use Rattle.std.proofs.Common.{ℕ, zero, suc, Bool, true, false, cond, List, Option, Some, None, Result, Ok, Err}
use Rattle.bs_words.specs.External.{External}
use Rattle.bs_words.specs.Fits.{fits}
use Rattle.bs_words.specs.Observed.{Made}
use Rattle.bs_words.specs.declared.types.Comp.{Comp}
use Rattle.bs_words.specs.declared.types.Ret.{Ret}
use Rattle.bs_words.specs.declared.types.Ret.TheVariants as ret
use Rattle.bs_words.specs.declared.types.Ty.{Ty}
use Rattle.bs_words.specs.declared.types.Ty.TheVariants as ty
use Rattle.std.specs.List.{slice_get}
use Rattle.bs_words.specs.declared.values.Kind.{Kind}
use Rattle.bs_words.specs.declared.values.Value.{Value}
use Rattle.bs_words.specs.declared.values.Value.TheVariants as value
use Rattle.cmm_tree.specs.Tree.{LabelTree, Expression}
use Rattle.cmm_meaning.specs.Known.{type_of}
use Rattle.cmm_meaning.specs.Layout.{Layout}
use Rattle.cmm_meaning.specs.State.{Called, World, Here, scope}
use Rattle.cmm_meaning.specs.Evaluation.{Stop, OutOfFuel, NotProper, NoAnswer, Evaluated, Evaluation, Gives, Exits, Raises, Stops, Surroundings, and_then, only_value, with_value, proper, spend, node, of_type, tested, both, unless_light, now_or_before, back_from_call, as_written, called_with, applied, call_from, fit_parameters}
use Rattle.layout_laws.specs.Shown.{IsCallAlike, AreCallsAlike}

-- Where another activation of the same function lies.
pub record Place : Type 0 where
  pub below : ℕ
  pub frame : ℕ

abbrev pub placed : Place → Here → Here
placed p h = record h { below = p.below; frame = p.frame }

-- What another world has for itself, where these calls were made.
pub record Apart (one two : Layout) (made : List Made) : Type 0 where
  pub stack_need : ℕ
  pub calls : List Made
  pub alike : AreCallsAlike one two made calls

abbrev pub apart : {one two : Layout} (w : World) → Apart one two w.made → World
apart w v = record w { stack_need = v.stack_need; made = v.calls }

-- Two evaluations stop for one reason. That a function alone asks is none of them: a whole file's run does not.
pub data StopsAlike (one two : Layout) : Stop → Stop → Type 0 where
  no_fuel : StopsAlike one two OutOfFuel OutOfFuel
  improper : {kind : Kind} → StopsAlike one two (NotProper kind) (NotProper kind)
  no_answer : {x y : Made} → IsCallAlike one two x y → StopsAlike one two (NoAnswer x) (NoAnswer y)

-- Two evaluations end alike.
pub data Alike {A : Type 0} (one two : Layout) : Evaluated A → Evaluated A → Type 0 where
  gives : {a : A} {h : Here} {w : World} (p : Place) (v : Apart one two w.made) → Alike one two (Gives a h w) (Gives a (placed p h) (apart w v))
  exits : {label : LabelTree} {values : List Value} {h : Here} {w : World} (p : Place) (v : Apart one two w.made) →
      Alike one two (Exits label values h w) (Exits label values (placed p h) (apart w v))
  raises : {a : Value} {h : Here} {w : World} (p : Place) (v : Apart one two w.made) → Alike one two (Raises a h w) (Raises a (placed p h) (apart w v))
  stops : {why other : Stop} {w : World} → StopsAlike one two why other → (v : Apart one two w.made) → Alike one two (Stops why w) (Stops other (apart w v))

-- Two ways to go on from the same are alike, wherever the second goes on.
abbrev pub Onwards : {A B : Type 0} → Layout → Layout → (A → Here → World → Evaluated B) → (A → Here → World → Evaluated B) → Type 0
Onwards {A} one two f g = (a : A) (h : Here) (w : World) (p : Place) (v : Apart one two w.made) → Alike one two (f a h w) (g a (placed p h) (apart w v))

-- So are two operands.
abbrev pub Operands : Layout → Layout → (Here → World → Evaluation) → (Here → World → Evaluation) → Type 0
Operands one two f g = (h : Here) (w : World) (p : Place) (v : Apart one two w.made) → Alike one two (f h w) (g (placed p h) (apart w v))

-- ---- steps

module _ {one two : Layout} where
  pub alike_improper : {A : Type 0} {kind : Kind} {w : World} (v : Apart one two w.made) →
      Alike {A = A} one two (Stops (NotProper kind) w) (Stops (NotProper kind) (apart w v))
  alike_improper v = stops improper v

  pub alike_then : {A B : Type 0} {x y : Evaluated A} {f : A → Here → World → Evaluated B} (g : A → Here → World → Evaluated B) → Alike one two x y →
      Onwards one two f g → Alike one two (and_then x f) (and_then y g)
  alike_then g (gives {a} {h} {w} p v) q = q a h w p v
  alike_then g (exits p v) q = exits p v
  alike_then g (raises p v) q = raises p v
  alike_then g (stops why v) q = stops why v

  alike_only : {B : Type 0} {f : Value → Here → World → Evaluated B} (g : Value → Here → World → Evaluated B) → Onwards one two f g →
      Onwards one two (λ (a : Option Value) h w. only_value a f h w) (λ (a : Option Value) h w. only_value a g h w)
  alike_only g q None h w p v = alike_improper v
  alike_only g q (Some a) h w p v = q a h w p v

  pub alike_value : {B : Type 0} {x y : Evaluation} {f : Value → Here → World → Evaluated B} (g : Value → Here → World → Evaluated B) → Alike one two x y →
      Onwards one two f g → Alike one two (with_value x f) (with_value y g)
  alike_value g x q = alike_then (λ (a : Option Value) h w. only_value a g h w) x (alike_only g q)

  pub alike_cond : {A : Type 0} (b : Bool) {x y z u : Evaluated A} → Alike one two x y → Alike one two z u → Alike one two (cond b x z) (cond b y u)
  alike_cond true p q = p
  alike_cond false p q = q

  pub alike_tested : {A : Type 0} (end : ℕ) (type : Ty) (a : Value) (w : World) (v : Apart one two w.made) {x y : Evaluated A} → Alike one two x y →
      Alike one two (tested end type a w x) (tested end type a (apart w v) y)
  alike_tested end type a w v p = alike_cond (fits end type a) p (alike_improper v)

  pub alike_proper : {A B : Type 0} (r : Result A Kind) (w : World) (v : Apart one two w.made) {f g : A → Evaluated B} → ((a : A) → Alike one two (f a) (g a)) →
      Alike one two (proper r w f) (proper r (apart w v) g)
  alike_proper (Ok a) w v q = q a
  alike_proper (Err kind) w v q = alike_improper v

  alike_type : (end : ℕ) (type : Ty) → Onwards one two (λ (a : Option Value) h w. of_type end type a h w) (λ (a : Option Value) h w. of_type end type a h w)
  alike_type end ty.NoValue a h w p v = gives p v
  alike_type end ty.Never (Some a) h w p v = alike_improper v
  alike_type end ty.Int (Some a) h w p v = alike_tested end ty.Int a w v (gives p v)
  alike_type end ty.Val (Some a) h w p v = alike_tested end ty.Val a w v (gives p v)
  alike_type end ty.Addr (Some a) h w p v = gives p v
  alike_type end ty.Never None h w p v = alike_improper v
  alike_type end ty.Int None h w p v = alike_improper v
  alike_type end ty.Val None h w p v = alike_improper v
  alike_type end ty.Addr None h w p v = alike_improper v

  alike_spend : {A : Type 0} (k : ℕ) (w : World) (v : Apart one two w.made) {f : World → Evaluated A} (g : World → Evaluated A) →
      ((w : World) (v : Apart one two w.made) → Alike one two (f w) (g (apart w v))) → Alike one two (spend k w f) (spend k (apart w v) g)
  alike_spend zero w v g q = stops no_fuel v
  alike_spend (suc l) w v g q = q (record w { left = l }) v

  -- ---- operands

  pub alike_both : {B : Type 0} (t : Bool) {left right : Here → World → Evaluation} (left' right' : Here → World → Evaluation)
      (h : Here) (w : World) (p : Place) (v : Apart one two w.made)
      {go : Value → Value → Here → World → Evaluated B} (go' : Value → Value → Here → World → Evaluated B) → Operands one two left left' →
      Operands one two right right' → ((a : Value) → Onwards one two (go a) (go' a)) →
      Alike one two (both t left right h w go) (both t left' right' (placed p h) (apart w v) go')
  alike_both false left' right' h w p v go' l r q = alike_value _ (r h w p v) (λ b h w p v. alike_value _ (l h w p v) (λ a h w p v. q a b h w p v))
  alike_both true left' right' h w p v go' l r q = alike_value _ (l h w p v) (λ a h w p v. alike_value _ (r h w p v) (λ b h w p v. q a b h w p v))

  pub alike_unless : {B : Type 0} (light : Bool) {x : Here → World → Evaluation} (y : Here → World → Evaluation)
      (h : Here) (w : World) (p : Place) (v : Apart one two w.made)
      {go : Option Value → Here → World → Evaluated B} (go' : Option Value → Here → World → Evaluated B) → Operands one two x y → Onwards one two go go' →
      Alike one two (unless_light light x h w go) (unless_light light y (placed p h) (apart w v) go')
  alike_unless true y h w p v go' o q = q None h w p v
  alike_unless false y h w p v go' o q = alike_value _ (o h w p v) (λ a h w p v. q (Some a) h w p v)

  pub alike_now : {B : Type 0} (before : Option Value) {x : Here → World → Evaluation} (y : Here → World → Evaluation)
      (h : Here) (w : World) (p : Place) (v : Apart one two w.made)
      {go : Value → Here → World → Evaluated B} (go' : Value → Here → World → Evaluated B) → Operands one two x y → Onwards one two go go' →
      Alike one two (now_or_before before x h w go) (now_or_before before y (placed p h) (apart w v) go')
  alike_now (Some a) y h w p v go' o q = q a h w p v
  alike_now None y h w p v go' o q = alike_value go' (o h w p v) q

  -- ---- calls

  alike_back : (h : Here) (p : Place) {x y : Evaluation} → Alike one two x y → Alike one two (back_from_call h x) (back_from_call (placed p h) y)
  alike_back h p (gives i v) = gives p v
  alike_back h p (exits i v) = alike_improper v
  alike_back h p (raises i v) = raises p v
  alike_back h p (stops why v) = stops why v

  alike_as : (result : Ret) → Onwards one two (λ (a : Option Value) h w. as_written result a h w) (λ (a : Option Value) h w. as_written result a h w)
  alike_as ret.Unit a h w p v = gives p v
  alike_as (ret.Comp c) (Some a) h w p v = gives p v
  alike_as (ret.Comp c) None h w p v = alike_improper v

  pub alike_written : (result : Ret) (h : Here) (p : Place) {x y : Evaluation} → Alike one two x y →
      Alike one two (and_then (back_from_call h x) (λ v h w. as_written result v h w))
      (and_then (back_from_call (placed p h) y) (λ v h w. as_written result v h w))
  alike_written result h p x = alike_then (λ a h w. as_written result a h w) (alike_back h p x) (alike_as result)

-- the same setting, where calls do something else
abbrev pub with_calls : Surroundings → (Called → World → Evaluation) → (External → Bool → List Value → World → Evaluation) → Surroundings
with_calls s c x = record s { call = c; external = x }

-- Calls do alike, on however many bytes of stack.
pub record DoAlike (one two : Layout) (s : Surroundings) (c : Called → World → Evaluation)
    (x : External → Bool → List Value → World → Evaluation) : Type 0 where
  pub calls : (call : Called) (w : World) (below : ℕ) (v : Apart one two w.made) → Alike one two (s.call call w) (c (record call { below = below }) (apart w v))
  pub outside : (row : External) (frame : Bool) (arguments : List Value) (w : World) (v : Apart one two w.made) →
      Alike one two (s.external row frame arguments w) (x row frame arguments (apart w v))

module _ {one two : Layout} (s : Surroundings) (c : Called → World → Evaluation) (x : External → Bool → List Value → World → Evaluation) where
  pub alike_node : (e : Expression) (h : Here) (w : World) (p : Place) (v : Apart one two w.made) {f : World → Evaluation} (g : World → Evaluation) →
      ((w : World) (v : Apart one two w.made) → Alike one two (f w) (g (apart w v))) →
      Alike one two (node s e h w f) (node (with_calls s c x) e (placed p h) (apart w v) g)
  alike_node e h w p v g q = alike_spend w.left w v _ (λ w v. alike_then _ (q w v) (alike_type s.end (type_of (scope h) e)))

  module _ (d : DoAlike one two s c x) where
    alike_called : (o : Option (List Comp)) (f : ℕ) (arguments : List Value) (result : Ret) (tail : Bool)
        (h : Here) (w : World) (p : Place) (v : Apart one two w.made) →
        Alike one two (called_with s o f arguments result tail h w) (called_with (with_calls s c x) o f arguments result tail (placed p h) (apart w v))
    alike_called None f arguments result tail h w p v = alike_improper v
    alike_called (Some comps) f arguments result tail h w p v =
        let call : Called = call_from f arguments tail h in
        let other : Called = call_from f arguments tail (placed p h) in
        alike_cond (fit_parameters s.end comps arguments) (alike_written result h p (d.calls call w other.below v)) (alike_improper v)

    pub alike_applied : (f : Value) (arguments : List Value) (result : Ret) (tail : Bool) (h : Here) (w : World) (p : Place) (v : Apart one two w.made) →
        Alike one two (applied s f arguments result tail h w) (applied (with_calls s c x) f arguments result tail (placed p h) (apart w v))
    alike_applied (value.Word word) arguments result tail h w p v = alike_improper v
    alike_applied (value.Block serial offset) arguments result tail h w p v = alike_improper v
    alike_applied (value.Function f) arguments result tail h w p v = alike_called (slice_get s.parameters f) f arguments result tail h w p v

    pub alike_external : (row : External) (frame : Bool) (arguments : List Value) (result : Ret) (h : Here) (w : World) (p : Place) (v : Apart one two w.made) →
        Alike one two (and_then (back_from_call h (s.external row frame arguments w)) (λ v h w. as_written result v h w))
        (and_then (back_from_call (placed p h) (x row frame arguments (apart w v))) (λ v h w. as_written result v h w))
    alike_external row frame arguments result h w p v = alike_written result h p (d.outside row frame arguments w v)
