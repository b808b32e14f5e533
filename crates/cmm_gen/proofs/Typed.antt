-- The type of what is drawn: int, where its names have type int.
use Rattle.std.proofs.Common.{◌≡◌, ℕ, Bool, true, false, ◌||◌, cond, List, ◌∷◌, Some, None, codes, bytes_eq, refl, ap, ◌∙◌}
use Rattle.bs_words.specs.declared.types.Comp.TheVariants as comp
use Rattle.bs_words.specs.declared.types.Ret.TheVariants as ret
use Rattle.bs_words.specs.declared.types.Ty.{Ty}
use Rattle.bs_words.specs.declared.types.Ty.TheVariants as ty
use Rattle.bs_words.specs.declared.operators.CmpOp.TheVariants.{Lt}
use Rattle.bs_words.specs.declared.operators.IntOp.TheVariants.{Add, Cmp}
use Rattle.cmm_tree.specs.Tree.{Expression, Integer, Symbol, Name, App, Let, Operator, Alloc, If, Raise, NoMore, More, NoBinding, Bind}
use Rattle.cmm_types.specs.Light.{is_light_address}
use Rattle.cmm_types.specs.Types.{Scoped, binding_of, type_bound_by, join, type_named, holds_float, unless_float, type_without_float, type_of}
use Rattle.cmm_gen.specs.Drawn.{Drawn, DrawnFunction, symbol_of}
use Rattle.cmm_gen.proofs.Trees.{IsTreeOf, number, variable, sum, difference, product, choice, cell, attempt, IsBodyOf}
use Rattle.cmm_gen.proofs.Trees

-- `x` and `y` are in scope, and are ints
pub record HasInts (scope : List Scoped) : Type 0 where
  pub x : type_named scope (codes "x") ≡ ty.Int
  pub y : type_named scope (codes "y") ≡ ty.Int

-- the name of a raised value hides neither
abbrev pub raised : Scoped
raised = record { name = codes "z"; type = ty.Val; mutable = false }

neither : (a b : Bool) → a ≡ false → b ≡ false → (a || b) ≡ false
neither a b p q = rw (p, q) refl

pub no_float : (d : Drawn) (e : Expression) → IsTreeOf d e → holds_float e ≡ false
no_float _ _ (number draw at) = refl
no_float _ _ (variable even at) = refl
no_float _ _ (sum a b at left right l r) = neither _ _ (no_float a left l) (no_float b right r)
no_float _ _ (difference a b at left right l r) = neither _ _ (no_float a left l) (no_float b right r)
no_float _ _ (product a b at left right l r) = neither _ _ (no_float a left l) (no_float b right r)
no_float _ _ (choice a b c d at test_at left right on_true on_false l r t f) =
    neither _ _
    (neither _ _ (neither _ _ (no_float a left l) (no_float b right r)) (no_float c on_true t))
    (no_float d on_false f)
no_float _ _ (cell a b at alloc_at header_at first second l r) =
    neither _ _ (no_float a first l) (neither _ _ (no_float b second r) refl)
no_float _ _ (attempt a b c d at if_at test_at raise_at one_at name_at left right on_false handler l r f h) =
    neither _ _
    (neither _ _ (neither _ _ (neither _ _ (no_float a left l) (no_float b right r)) refl) (no_float c on_false f))
    (no_float d handler h)

both_int : (a b : Ty) → a ≡ ty.Int → b ≡ ty.Int → join a b ≡ ty.Int
both_int a b p q = rw (p, q) refl

never_or_int : (a : Ty) → a ≡ ty.Int → join ty.Never a ≡ ty.Int
never_or_int a p = rw p refl

pub int_without_float : (d : Drawn) (e : Expression) (scope : List Scoped) → IsTreeOf d e → HasInts scope → type_without_float scope e ≡ ty.Int
int_without_float _ _ scope (number draw at) i = refl
int_without_float _ _ scope (variable true at) i = i.x
int_without_float _ _ scope (variable false at) i = i.y
int_without_float _ _ scope (sum a b at left right l r) i = refl
int_without_float _ _ scope (difference a b at left right l r) i = refl
int_without_float _ _ scope (product a b at left right l r) i = refl
int_without_float _ _ scope (choice a b c d at test_at left right on_true on_false l r t f) i =
    both_int _ _ (int_without_float c on_true scope t i) (int_without_float d on_false scope f i)
int_without_float _ _ scope (cell a b at alloc_at header_at first second l r) i = refl
int_without_float _ _ scope (attempt a b c d at if_at test_at raise_at one_at name_at left right on_false handler l r f h) i =
    both_int _ _
    (never_or_int _ (int_without_float c on_false scope f i))
    (int_without_float d handler (raised ∷ scope) h (record { x = i.x; y = i.y }))

unless_none : (b : Bool) (t u : Ty) → b ≡ false → t ≡ u → unless_float b t ≡ u
unless_none b t u p q = rw p q

-- what is drawn has type int
pub is_int : (d : Drawn) (e : Expression) (scope : List Scoped) → IsTreeOf d e → HasInts scope → type_of scope e ≡ ty.Int
is_int d e scope t i = unless_none _ _ _ (no_float d e t) (int_without_float d e scope t i)

-- no part of it is a light address
pub no_light_address : (d : Drawn) (e : Expression) (scope : List Scoped) → IsTreeOf d e → is_light_address scope e ≡ false
no_light_address _ _ scope (number draw at) = refl
no_light_address _ _ scope (variable even at) = refl
no_light_address _ _ scope (sum a b at left right l r) = refl
no_light_address _ _ scope (difference a b at left right l r) = refl
no_light_address _ _ scope (product a b at left right l r) = refl
no_light_address _ _ scope (choice a b c d at test_at left right on_true on_false l r t f) = refl
no_light_address _ _ scope (cell a b at alloc_at header_at first second l r) = refl
no_light_address _ _ scope (attempt a b c d at if_at test_at raise_at one_at name_at left right on_false handler l r f h) = refl

-- ---- parts of forms that are not drawn

pub test_is_int : (a b : Drawn) (at : ℕ) (left right : Expression) (scope : List Scoped) → IsTreeOf a left → IsTreeOf b right → type_of scope (Operator at (Cmp Lt) left right) ≡ ty.Int
test_is_int a b at left right scope l r = unless_none _ _ _ (neither _ _ (no_float a left l) (no_float b right r)) refl

pub guarded_is_int : (a b c : Drawn) (at test_at raise_at one_at : ℕ) (left right on_false : Expression) (scope : List Scoped) → IsTreeOf a left → IsTreeOf b right → IsTreeOf c on_false → HasInts scope → type_of scope (If at (Operator test_at (Cmp Lt) left right) (Raise raise_at (Integer one_at 1)) on_false) ≡ ty.Int
guarded_is_int a b c at test_at raise_at one_at left right on_false scope l r f i =
    unless_none _ _ _
    (neither _ _ (neither _ _ (neither _ _ (no_float a left l) (no_float b right r)) refl) (no_float c on_false f))
    (never_or_int _ (int_without_float c on_false scope f i))

pub pair_without_float : (a b : Drawn) (at header_at : ℕ) (first second : Expression) → IsTreeOf a first → IsTreeOf b second → holds_float (Alloc at header_at 2299 (More first (More second NoMore))) ≡ false
pair_without_float a b at header_at first second l r = neither _ _ (no_float a first l) (neither _ _ (no_float b second r) refl)

-- ---- functions

-- a let with one binding, whose value is an int
abbrev pub bound_int : List ℕ → Scoped
bound_int name = record { name = name; type = ty.Int; mutable = false }

pub let_without_float : (at name_at : ℕ) (name : List ℕ) (value body : Expression) → holds_float value ≡ false → holds_float body ≡ false → holds_float (Let at (Bind name_at name None value NoBinding) body) ≡ false
let_without_float at name_at name value body p q = neither _ _ (neither _ _ p refl) q

pub let_without_float_is_int : (at name_at : ℕ) (name : List ℕ) (value body : Expression) (scope : List Scoped) → type_of scope value ≡ ty.Int → type_without_float (bound_int name ∷ scope) body ≡ ty.Int → type_without_float scope (Let at (Bind name_at name None value NoBinding) body) ≡ ty.Int
let_without_float_is_int at name_at name value body scope int inner =
    ap (λ (t : Ty). type_without_float (record { name = name; type = t; mutable = false } ∷ scope) body) int ∙ inner

pub let_is_int : (at name_at : ℕ) (name : List ℕ) (value body : Expression) (scope : List Scoped) → holds_float value ≡ false → holds_float body ≡ false → type_of scope value ≡ ty.Int → type_without_float (bound_int name ∷ scope) body ≡ ty.Int → type_of scope (Let at (Bind name_at name None value NoBinding) body) ≡ ty.Int
let_is_int at name_at name value body scope p q int inner =
    unless_none _ _ _ (let_without_float at name_at name value body p q) (let_without_float_is_int at name_at name value body scope int inner)

-- the body of a function
pub body_without_float : (j : ℕ) (b : Drawn) (e : Expression) → IsBodyOf j b e → holds_float e ≡ false
body_without_float _ _ _ (Trees.first b e t) = no_float b e t
body_without_float _ _ _ (Trees.later i b at app_at symbol_at p_at q_at result_at e t) = neither _ _ refl (no_float b e t)

pub body_is_int : (j : ℕ) (b : Drawn) (e : Expression) (scope : List Scoped) → IsBodyOf j b e → HasInts scope → type_without_float scope e ≡ ty.Int
body_is_int _ _ _ scope (Trees.first b e t) i = int_without_float b e scope t i
body_is_int _ _ _ scope (Trees.later k b at app_at symbol_at p_at q_at result_at e t) i = refl

pub sum_is_int : (i at app_at symbol_at p_at q_at result_at : ℕ) (b : Drawn) (e : Expression) (scope : List Scoped) → IsTreeOf b e → type_of scope (Operator at Add (App app_at (Symbol symbol_at (symbol_of i)) (More (Name p_at (codes "p")) (More (Name q_at (codes "q")) NoMore)) (ret.Comp comp.Int) result_at) e) ≡ ty.Int
sum_is_int i at app_at symbol_at p_at q_at result_at b e scope t = unless_none _ _ _ (neither _ _ refl (no_float b e t)) refl

abbrev pub inner_let : ℕ → ℕ → Expression → Expression → Expression
inner_let at q_at q b = Let at (Bind q_at (codes "q") None q NoBinding) b

-- the body of a function
abbrev pub whole : ℕ → ℕ → ℕ → ℕ → Expression → Expression → Expression → Expression
whole at p_at inner_at q_at p q b = Let at (Bind p_at (codes "p") None p NoBinding) (inner_let inner_at q_at q b)

-- after a name more
pub ints_below : (name : List ℕ) (scope : List Scoped) → bytes_eq name (codes "x") ≡ false → bytes_eq name (codes "y") ≡ false → HasInts scope → HasInts (bound_int name ∷ scope)
ints_below name scope p q i =
    record {
      x = ap (λ b. type_bound_by (cond b (Some (bound_int name)) (binding_of scope (codes "x")))) p ∙ i.x;
      y = ap (λ b. type_bound_by (cond b (Some (bound_int name)) (binding_of scope (codes "y")))) q ∙ i.y;
    }

module _ (j : ℕ) (f : DrawnFunction) (inner_at q_at : ℕ) (q b : Expression) (qt : IsTreeOf f.q q) (bt : IsBodyOf j f.b b) (scope : List Scoped) (i : HasInts scope) where
  below_p : HasInts (bound_int (codes "p") ∷ scope)
  below_p = ints_below (codes "p") scope refl refl i

  below_q : HasInts (bound_int (codes "q") ∷ bound_int (codes "p") ∷ scope)
  below_q = ints_below (codes "q") (bound_int (codes "p") ∷ scope) refl refl below_p

  inner_is_int : type_without_float (bound_int (codes "p") ∷ scope) (inner_let inner_at q_at q b) ≡ ty.Int
  inner_is_int =
      let_without_float_is_int inner_at q_at (codes "q") q b (bound_int (codes "p") ∷ scope)
      (is_int f.q q (bound_int (codes "p") ∷ scope) qt below_p)
      (body_is_int j f.b b (bound_int (codes "q") ∷ bound_int (codes "p") ∷ scope) bt below_q)

  pub inner_let_is_int : type_of (bound_int (codes "p") ∷ scope) (inner_let inner_at q_at q b) ≡ ty.Int
  inner_let_is_int =
      let_is_int inner_at q_at (codes "q") q b (bound_int (codes "p") ∷ scope) (no_float f.q q qt) (body_without_float j f.b b bt)
      (is_int f.q q (bound_int (codes "p") ∷ scope) qt below_p)
      (body_is_int j f.b b (bound_int (codes "q") ∷ bound_int (codes "p") ∷ scope) bt below_q)

pub whole_is_int : (j : ℕ) (f : DrawnFunction) (let_at p_at inner_at q_at : ℕ) (p q b : Expression) → IsTreeOf f.p p → IsTreeOf f.q q → IsBodyOf j f.b b → (scope : List Scoped) → HasInts scope → type_of scope (whole let_at p_at inner_at q_at p q b) ≡ ty.Int
whole_is_int j f let_at p_at inner_at q_at p q b pt qt bt scope i =
    let_is_int let_at p_at (codes "p") p (inner_let inner_at q_at q b) scope (no_float f.p p pt)
    (let_without_float inner_at q_at (codes "q") q b (no_float f.q q qt) (body_without_float j f.b b bt))
    (is_int f.p p scope pt i)
    (inner_is_int j f inner_at q_at q b qt bt scope i)
