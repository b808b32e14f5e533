-- What is left of the names and labels in scope where a scope is left.
use Rattle.std.proofs.Common.{◌≡◌, ℕ, ◌+◌, ◌-◌, false, List, [], ◌∷◌, ◌++◌, append_assoc, length, drop, length-append, refl, ap, sym, ◌∙◌, arith}
use Rattle.bs_words.specs.Fits.{type_of_comp}
use Rattle.cmm_tree.specs.Tree.{Bindings, NoBinding, Bind, Parameter}
use Rattle.cmm_types.specs.Types.{Scoped, with_parameters, with_bindings, holds_float, type_without_float, unless_float, type_bound, is_mutable}

-- the one is the other, with more in front
pub record Extends {A : Type 0} (whole rest : List A) : Type 0 where
  pub front : List A
  pub is : whole ≡ front ++ rest

pub drop_front : {A : Type 0} (front rest : List A) → drop (length front) (front ++ rest) ≡ rest
drop_front [] rest = refl
drop_front (x ∷ front) rest = drop_front front rest

pub drop_extends : {A : Type 0} (whole rest : List A) → Extends whole rest → drop (length whole - length rest) whole ≡ rest
drop_extends {A} whole rest e =
    let counted : length whole ≡ length e.front + length rest = ap length e.is ∙ length-append e.front rest in
    let less : length whole - length rest ≡ length e.front = omega arith in
    ap (λ (n : ℕ). drop n whole) less ∙ ap (λ (l : List A). drop (length e.front) l) e.is ∙ drop_front e.front rest

further : {A : Type 0} (whole rest : List A) (x : A) → Extends whole (x ∷ rest) → Extends whole rest
further whole rest x e = record { front = e.front ++ x ∷ []; is = e.is ∙ sym (append_assoc e.front (x ∷ []) rest) }

pub bindings_extend : (names : List Scoped) (bindings : Bindings) → Extends (with_bindings names bindings) names
bindings_extend names NoBinding = record { front = []; is = refl }
bindings_extend names (Bind at name declared value rest) = further _ names _ (bindings_extend (record { name = name; type = type_bound declared (unless_float (holds_float value) (type_without_float names value)); mutable = is_mutable declared } ∷ names) rest)

pub parameters_extend : (params : List Parameter) (names : List Scoped) → Extends (with_parameters params names) names
parameters_extend [] names = record { front = []; is = refl }
parameters_extend (p ∷ params) names = further _ names _ (parameters_extend params (record { name = p.name; type = type_of_comp p.comp; mutable = false } ∷ names))

-- the names after bindings, and after parameters, left again
pub leave_bindings : (names : List Scoped) (bindings : Bindings) → drop (length (with_bindings names bindings) - length names) (with_bindings names bindings) ≡ names
leave_bindings names bindings = drop_extends _ names (bindings_extend names bindings)

pub leave_parameters : (params : List Parameter) (names : List Scoped) → drop (length (with_parameters params names) - length names) (with_parameters params names) ≡ names
leave_parameters params names = drop_extends _ names (parameters_extend params names)

pub leave_front : {A : Type 0} (front rest : List A) → drop (length (front ++ rest) - length rest) (front ++ rest) ≡ rest
leave_front front rest = drop_extends (front ++ rest) rest (record { front = front; is = refl })
