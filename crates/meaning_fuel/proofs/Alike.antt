-- Where calls agree on the worlds of fewer units, evaluations agree; and none adds units: the steps.
use Rattle.std.proofs.Common.{◌≡◌, ◌∙◌, ℕ, zero, suc, ◌<◌, ◌≤◌, Bool, true, false, cond, List, Option, Some, None, Result, Ok, Err, refl, ap, arith}
use Rattle.bs_words.specs.External.{External}
use Rattle.bs_words.specs.Fits.{fits}
use Rattle.bs_words.specs.declared.types.Comp.{Comp}
use Rattle.bs_words.specs.declared.types.Ret.{Ret}
use Rattle.bs_words.specs.declared.types.Ret.TheVariants as ret
use Rattle.bs_words.specs.declared.types.Ty.{Ty}
use Rattle.bs_words.specs.declared.types.Ty.TheVariants as ty
use Rattle.std.specs.List.{slice_get}
use Rattle.bs_words.specs.declared.values.Kind.{Kind}
use Rattle.bs_words.specs.declared.values.Kind.TheVariants.{BadCall}
use Rattle.bs_words.specs.declared.values.Value.{Value}
use Rattle.bs_words.specs.declared.values.Value.TheVariants as value
use Rattle.cmm_tree.specs.Tree.{Expression}
use Rattle.cmm_meaning.specs.Known.{type_of}
use Rattle.cmm_meaning.specs.State.{Called, World, Here, scope}
use Rattle.cmm_meaning.specs.Evaluation.{Stop, OutOfFuel, NotProper, NoAnswer, Asking, Evaluated, Evaluation, Gives, Exits, Raises, Stops, Surroundings, and_then, only_value, with_value, proper, spend, node, of_type, tested, typed, both, unless_light, now_or_before, back_from_call, as_written, called_with, applied, call_from, fit_parameters}

-- where this is to be shown: no units are left where an evaluation is out of fuel
abbrev pub Stopped : Bool → Stop → World → Type 0
Stopped false why w = Unit {0}
Stopped true OutOfFuel w = w.left ≡ 0
Stopped true (NotProper kind) w = Unit {0}
Stopped true (NoAnswer call) w = Unit {0}
Stopped true (Asking call) w = Unit {0}

-- at most so many units are left
abbrev pub AtMost : {A : Type 0} → Bool → ℕ → Evaluated A → Type 0
AtMost dry n (Gives a h w) = w.left ≤ n
AtMost dry n (Exits label values h w) = w.left ≤ n
AtMost dry n (Raises v h w) = w.left ≤ n
AtMost dry n (Stops why w) = Stopped dry why w

abbrev pub Spends : {A : Type 0} → ℕ → Evaluated A → Type 0
Spends n x = AtMost false n x

pub stopped_improper : (dry : Bool) (kind : Kind) (w : World) → Stopped dry (NotProper kind) w
stopped_improper true kind w = tt
stopped_improper false kind w = tt

pub stopped_empty : (dry : Bool) (w : World) → w.left ≡ 0 → Stopped dry OutOfFuel w
stopped_empty true w none = none
stopped_empty false w none = tt

-- two evaluations are one, and leave at most so many units
pub record Alike {A : Type 0} (dry : Bool) (n : ℕ) (x y : Evaluated A) : Type 0 where
  pub is : x ≡ y
  pub spends : AtMost dry n x

pub alike_then : {dry : Bool} {A B : Type 0} {n : ℕ} {x y : Evaluated A} {f g : A → Here → World → Evaluated B} → Alike dry n x y →
    ((a : A) (h : Here) (w : World) → w.left ≤ n → Alike dry n (f a h w) (g a h w)) → Alike dry n (and_then x f) (and_then y g)
alike_then {A} {x = Gives a h w} {g = g} p q =
    let e = q a h w p.spends in record { is = e.is ∙ ap (λ (v : Evaluated A). and_then v g) p.is; spends = e.spends }
alike_then {A} {x = Exits label values h w} {g = g} p q = record { is = ap (λ (v : Evaluated A). and_then v g) p.is; spends = p.spends }
alike_then {A} {x = Raises v h w} {g = g} p q = record { is = ap (λ (v : Evaluated A). and_then v g) p.is; spends = p.spends }
alike_then {A} {x = Stops why w} {g = g} p q = record { is = ap (λ (v : Evaluated A). and_then v g) p.is; spends = p.spends }

pub alike_stop : {dry : Bool} {A : Type 0} {n : ℕ} {kind : Kind} {w : World} →
    Alike {A = A} dry n (Stops (NotProper kind) w) (Stops (NotProper kind) w)
alike_stop {dry} {kind = kind} {w = w} = record { is = refl; spends = stopped_improper dry kind w }

alike_only : {dry : Bool} {B : Type 0} {n : ℕ} (v : Option Value) (f g : Value → Here → World → Evaluated B) {h : Here} {w : World} →
    ((a : Value) → Alike dry n (f a h w) (g a h w)) → Alike dry n (only_value v f h w) (only_value v g h w)
alike_only None f g q = alike_stop
alike_only (Some a) f g q = q a

pub alike_value : {dry : Bool} {B : Type 0} {n : ℕ} {x y : Evaluation} {f g : Value → Here → World → Evaluated B} → Alike dry n x y →
    ((a : Value) (h : Here) (w : World) → w.left ≤ n → Alike dry n (f a h w) (g a h w)) → Alike dry n (with_value x f) (with_value y g)
alike_value {f = f} {g = g} p q = alike_then p (λ v h w le. alike_only v f g (λ a. q a h w le))

pub alike_cond : {dry : Bool} {A : Type 0} {n : ℕ} (b : Bool) {x y z u : Evaluated A} → Alike dry n x y → Alike dry n z u → Alike dry n (cond b x z) (cond b y u)
alike_cond true p q = p
alike_cond false p q = q

pub alike_gives : {dry : Bool} {A : Type 0} {n : ℕ} {v : A} {h : Here} {w : World} → w.left ≤ n → Alike dry n (Gives v h w) (Gives v h w)
alike_gives le = record { is = refl; spends = le }

pub alike_tested : {dry : Bool} {A : Type 0} {n : ℕ} (end : ℕ) (type : Ty) (v : Value) (w : World) {x y : Evaluated A} → Alike dry n x y →
    Alike dry n (tested end type v w x) (tested end type v w y)
alike_tested end type v w p = alike_cond (fits end type v) p alike_stop

pub alike_proper : {dry : Bool} {A B : Type 0} {n : ℕ} (r : Result A Kind) (w : World) {f g : A → Evaluated B} → ((a : A) → Alike dry n (f a) (g a)) →
    Alike dry n (proper r w f) (proper r w g)
alike_proper (Ok a) w q = q a
alike_proper (Err kind) w q = alike_stop

alike_type : {dry : Bool} {n : ℕ} (end : ℕ) (type : Ty) (v : Option Value) (h : Here) (w : World) → w.left ≤ n →
    Alike dry n (of_type end type v h w) (of_type end type v h w)
alike_type end ty.NoValue v h w le = alike_gives le
alike_type end ty.Never (Some v) h w le = alike_stop
alike_type end ty.Int (Some v) h w le = alike_tested end ty.Int v w (alike_gives le)
alike_type end ty.Val (Some v) h w le = alike_tested end ty.Val v w (alike_gives le)
alike_type end ty.Addr (Some v) h w le = alike_gives le
alike_type end ty.Never None h w le = alike_stop
alike_type end ty.Int None h w le = alike_stop
alike_type end ty.Val None h w le = alike_stop
alike_type end ty.Addr None h w le = alike_stop

pub alike_typed : {dry : Bool} {n : ℕ} (end : ℕ) (type : Ty) {x y : Evaluation} → Alike dry n x y → Alike dry n (typed end type x) (typed end type y)
alike_typed end type p = alike_then p (λ v h w le. alike_type end type v h w le)

spends_more : {A : Type 0} (dry : Bool) (m n : ℕ) (x : Evaluated A) → m ≤ n → AtMost dry m x → AtMost dry n x
spends_more dry m n (Gives a h w) le p = omega arith
spends_more dry m n (Exits label values h w) le p = omega arith
spends_more dry m n (Raises v h w) le p = omega arith
spends_more dry m n (Stops why w) le p = p

pub alike_more : {dry : Bool} {A : Type 0} (m n : ℕ) {x y : Evaluated A} → m ≤ n → Alike dry m x y → Alike dry n x y
alike_more {dry} m n {x} le p = record { is = p.is; spends = spends_more dry m n x le p.spends }

-- ---- nodes

-- a node leaves fewer units than it began with
abbrev pub Below : {A : Type 0} → Bool → ℕ → Evaluated A → Type 0
Below dry n (Gives a h w) = w.left < n
Below dry n (Exits label values h w) = w.left < n
Below dry n (Raises v h w) = w.left < n
Below dry n (Stops why w) = Stopped dry why w

abbrev pub Pays : {A : Type 0} → ℕ → Evaluated A → Type 0
Pays n x = Below false n x

-- two evaluations are one, and leave fewer units
pub record Same {A : Type 0} (dry : Bool) (n : ℕ) (x y : Evaluated A) : Type 0 where
  pub is : x ≡ y
  pub pays : Below dry n x

pub spends_pays : {A : Type 0} (dry : Bool) (n : ℕ) (x : Evaluated A) → Below dry n x → AtMost dry n x
spends_pays dry n (Gives a h w) p = omega arith
spends_pays dry n (Exits label values h w) p = omega arith
spends_pays dry n (Raises v h w) p = omega arith
spends_pays dry n (Stops why w) p = p

pays_spends : {A : Type 0} (dry : Bool) (l n : ℕ) (x : Evaluated A) → l < n → AtMost dry l x → Below dry n x
pays_spends dry l n (Gives a h w) le p = omega arith
pays_spends dry l n (Exits label values h w) le p = omega arith
pays_spends dry l n (Raises v h w) le p = omega arith
pays_spends dry l n (Stops why w) le p = p

pub alike_same : {dry : Bool} {A : Type 0} {m n : ℕ} {x y : Evaluated A} → m ≤ n → Same dry m x y → Alike dry n x y
alike_same {dry} {m = m} {n = n} {x = x} le p = record { is = p.is; spends = spends_more dry m n x le (spends_pays dry m x p.pays) }

alike_spend : {dry : Bool} (k : ℕ) (w : World) {f g : World → Evaluation} → w.left ≡ k →
    ((l : ℕ) → l < k → (v : World) → v.left ≤ l → Alike dry l (f v) (g v)) → Same dry k (spend k w f) (spend k w g)
alike_spend {dry} zero w none q = record { is = refl; pays = stopped_empty dry w none }
alike_spend {dry} (suc l) w {f} {g} paid q =
    let p : Alike dry l (f (record w { left = l })) (g (record w { left = l })) = q l (omega arith) (record w { left = l }) (omega arith) in
    record { is = p.is; pays = pays_spends dry l (suc l) (f (record w { left = l })) (omega arith) p.spends }

-- these surroundings, where calls do something else
abbrev pub with_calls : Surroundings → (Called → World → Evaluation) → Surroundings
with_calls s c = record s { call = c }

-- what is inside a node has fewer units
pub alike_node : {dry : Bool} (s : Surroundings) (c : Called → World → Evaluation) (e : Expression) (h : Here) (w : World)
    {f g : World → Evaluation} → ((l : ℕ) → l < w.left → (v : World) → v.left ≤ l → Alike dry l (f v) (g v)) →
    Same dry w.left (node s e h w f) (node (with_calls s c) e h w g)
alike_node s c e h w q =
    alike_spend w.left w refl (λ l small v at_most. alike_typed s.end (type_of (scope h) e) (q l small v at_most))

-- ---- operands

pub alike_both : {dry : Bool} {B : Type 0} {n : ℕ} (t : Bool) {left left' right right' : Here → World → Evaluation} (h : Here) (w : World)
    {go go' : Value → Value → Here → World → Evaluated B} → w.left ≤ n →
    ((h : Here) (w : World) → w.left ≤ n → Alike dry n (left h w) (left' h w)) →
    ((h : Here) (w : World) → w.left ≤ n → Alike dry n (right h w) (right' h w)) →
    ((a b : Value) (h : Here) (w : World) → w.left ≤ n → Alike dry n (go a b h w) (go' a b h w)) →
    Alike dry n (both t left right h w go) (both t left' right' h w go')
alike_both false h w le p q r = alike_value (q h w le) (λ b h w le. alike_value (p h w le) (λ a h w le. r a b h w le))
alike_both true h w le p q r = alike_value (p h w le) (λ a h w le. alike_value (q h w le) (λ b h w le. r a b h w le))

pub alike_unless : {dry : Bool} {B : Type 0} {n : ℕ} (light : Bool) {x y : Here → World → Evaluation} (h : Here) (w : World)
    {go go' : Option Value → Here → World → Evaluated B} → w.left ≤ n →
    ((h : Here) (w : World) → w.left ≤ n → Alike dry n (x h w) (y h w)) →
    ((v : Option Value) (h : Here) (w : World) → w.left ≤ n → Alike dry n (go v h w) (go' v h w)) →
    Alike dry n (unless_light light x h w go) (unless_light light y h w go')
alike_unless true h w le p q = q None h w le
alike_unless false h w le p q = alike_value (p h w le) (λ v h w le. q (Some v) h w le)

pub alike_now : {dry : Bool} {B : Type 0} {n : ℕ} (before : Option Value) {x y : Here → World → Evaluation} (h : Here) (w : World)
    {go go' : Value → Here → World → Evaluated B} → w.left ≤ n →
    ((h : Here) (w : World) → w.left ≤ n → Alike dry n (x h w) (y h w)) →
    ((v : Value) (h : Here) (w : World) → w.left ≤ n → Alike dry n (go v h w) (go' v h w)) →
    Alike dry n (now_or_before before x h w go) (now_or_before before y h w go')
alike_now (Some v) h w le p q = q v h w le
alike_now None h w le p q = alike_value (p h w le) q

-- ---- calls

-- what calls do on worlds of fewer units is one, and adds none
pub record Agree (dry : Bool) (n : ℕ) (s : Surroundings) (c : Called → World → Evaluation) : Type 0 where
  pub calls : (call : Called) (w : World) → w.left < n → Alike dry w.left (s.call call w) (c call w)
  pub outside : (row : External) (frame : Bool) (arguments : List Value) (w : World) → w.left < n →
      AtMost dry w.left (s.external row frame arguments w)

alike_back : {dry : Bool} {n : ℕ} (h : Here) {x y : Evaluation} → Alike dry n x y → Alike dry n (back_from_call h x) (back_from_call h y)
alike_back h {x = Gives v i w} p = record { is = ap (back_from_call h) p.is; spends = p.spends }
alike_back {dry} h {x = Exits label values i w} p = record { is = ap (back_from_call h) p.is; spends = stopped_improper dry BadCall w }
alike_back h {x = Raises v i w} p = record { is = ap (back_from_call h) p.is; spends = p.spends }
alike_back h {x = Stops why w} p = record { is = ap (back_from_call h) p.is; spends = p.spends }

alike_as : {dry : Bool} {n : ℕ} (result : Ret) (v : Option Value) (h : Here) (w : World) → w.left ≤ n →
    Alike dry n (as_written result v h w) (as_written result v h w)
alike_as ret.Unit v h w le = alike_gives le
alike_as (ret.Comp c) (Some v) h w le = alike_gives le
alike_as (ret.Comp c) None h w le = alike_stop

alike_written : {dry : Bool} {n : ℕ} (result : Ret) (h : Here) {x y : Evaluation} → Alike dry n x y →
    Alike dry n (and_then (back_from_call h x) (λ v h w. as_written result v h w)) (and_then (back_from_call h y) (λ v h w. as_written result v h w))
alike_written result h p = alike_then (alike_back h p) (λ v h w le. alike_as result v h w le)

alike_called : {dry : Bool} {m n : ℕ} {s : Surroundings} {c : Called → World → Evaluation} → Agree dry n s c → m < n →
    (o : Option (List Comp)) (f : ℕ) (arguments : List Value) (result : Ret) (tail : Bool) (h : Here) (w : World) → w.left ≤ m →
    Alike dry m (called_with s o f arguments result tail h w) (called_with (with_calls s c) o f arguments result tail h w)
alike_called a small None f arguments result tail h w le = alike_stop
alike_called {dry} {m} {s = s} {c = c} a small (Some comps) f arguments result tail h w le =
    let call : Called = call_from f arguments tail h in
    let here : Alike dry w.left (s.call call w) (c call w) = a.calls call w (omega arith) in
    alike_cond (fit_parameters s.end comps arguments) (alike_written result h (alike_more w.left m le here)) alike_stop

pub alike_applied : {dry : Bool} {m n : ℕ} {s : Surroundings} {c : Called → World → Evaluation} → Agree dry n s c → m < n →
    (f : Value) (arguments : List Value) (result : Ret) (tail : Bool) (h : Here) (w : World) → w.left ≤ m →
    Alike dry m (applied s f arguments result tail h w) (applied (with_calls s c) f arguments result tail h w)
alike_applied a small (value.Word word) arguments result tail h w le = alike_stop
alike_applied a small (value.Block serial offset) arguments result tail h w le = alike_stop
alike_applied {s = s} a small (value.Function f) arguments result tail h w le =
    alike_called a small (slice_get s.parameters f) f arguments result tail h w le

pub alike_external : {dry : Bool} {m n : ℕ} {s : Surroundings} {c : Called → World → Evaluation} → Agree dry n s c → m < n →
    (row : External) (frame : Bool) (arguments : List Value) (result : Ret) (h : Here) (w : World) → w.left ≤ m →
    Alike dry m (and_then (back_from_call h (s.external row frame arguments w)) (λ v h w. as_written result v h w))
    (and_then (back_from_call h (s.external row frame arguments w)) (λ v h w. as_written result v h w))
alike_external {dry} {m} {s = s} a small row frame arguments result h w le =
    let here : Alike dry w.left (s.external row frame arguments w) (s.external row frame arguments w) =
    record { is = refl; spends = a.outside row frame arguments w (omega arith) } in
    alike_written result h (alike_more w.left m le here)
