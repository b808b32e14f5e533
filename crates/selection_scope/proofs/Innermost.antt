-- The innermost binding of a name, which is last in the stack.
use Rattle.std.proofs.Common.{◌≡◌, ℕ, Bool, true, false, cond, not, List, [], ◌∷◌, ◌++◌, Some, ◌↔◌, IsTrue, bytes_eq, map, reverse, ap, sym, ◌∙◌}
use Rattle.std.proofs.lemmas.Bool.Decides.{same_from_decides}
use Rattle.std.proofs.lemmas.Slice.Eq.{bytes_eq-Decides}
use Rattle.cmm_types.specs.Light.{is_immutable, is_fixed}
use Rattle.cmm_types.specs.Types.{binding_of}
use Rattle.selection_rules.specs.Select.{scopes, reg_of}
use Rattle.selection_scope.proofs.Scopes.{top}
use Rattle.selection_scope.specs.Scoping.{named_view}
use Rattle.selection_scope.specs.declared.scope.Bound.{Bound}

is-same : (t : Bool) (a b : List ℕ) → IsTrue t ↔ (a ≡ b) → t ≡ bytes_eq a b
is-same t a b d = same_from_decides t (bytes_eq a b) d (bytes_eq-Decides a b)

step-reg : (rest others : List Bound) (b : Bound) (name : List ℕ) (t : Bool) → rest ≡ others ++ b ∷ [] → IsTrue t ↔ (b.name ≡ name)
    → reg_of (map named_view (reverse rest)) name ≡ cond t (Some b.reg) (reg_of (map named_view (reverse others)) name)
step-reg rest others b name t is same =
    ap (λ l. reg_of (map named_view (reverse l)) name) is
    ∙ ap (λ l. reg_of l name) (top named_view others b)
    ∙ ap (λ k. cond k (Some b.reg) (reg_of (map named_view (reverse others)) name)) (sym (is-same t b.name name same))

step-mutable : (rest others : List Bound) (b : Bound) (name : List ℕ) (t : Bool) → rest ≡ others ++ b ∷ [] → IsTrue t ↔ (b.name ≡ name)
    → is_immutable (scopes (map named_view (reverse rest))) name ≡ is_fixed (cond t (Some (named_view b).scoped) (binding_of (scopes (map named_view (reverse others))) name))
step-mutable rest others b name t is same =
    ap (λ l. is_immutable (scopes (map named_view (reverse l))) name) is
    ∙ ap (λ l. is_immutable (scopes l) name) (top named_view others b)
    ∙ ap (λ k. is_fixed (cond k (Some (named_view b).scoped) (binding_of (scopes (map named_view (reverse others))) name))) (sym (is-same t b.name name same))

pub found-reg : (rest others : List Bound) (b : Bound) (name : List ℕ) (t : Bool) → rest ≡ others ++ b ∷ [] → IsTrue t ↔ (b.name ≡ name) → t ≡ true
    → Some b.reg ≡ reg_of (map named_view (reverse rest)) name
found-reg rest others b name t is same e =
    sym (step-reg rest others b name t is same ∙ ap (λ k. cond k (Some b.reg) (reg_of (map named_view (reverse others)) name)) e)

pub passed-reg : (rest others : List Bound) (b : Bound) (name : List ℕ) (t : Bool) → rest ≡ others ++ b ∷ [] → IsTrue t ↔ (b.name ≡ name) → t ≡ false
    → reg_of (map named_view (reverse others)) name ≡ reg_of (map named_view (reverse rest)) name
passed-reg rest others b name t is same e =
    sym (step-reg rest others b name t is same ∙ ap (λ k. cond k (Some b.reg) (reg_of (map named_view (reverse others)) name)) e)

pub found-mutable : (rest others : List Bound) (b : Bound) (name : List ℕ) (t : Bool) → rest ≡ others ++ b ∷ [] → IsTrue t ↔ (b.name ≡ name) → t ≡ true
    → is_immutable (scopes (map named_view (reverse rest))) name ≡ not b.mutable
found-mutable rest others b name t is same e =
    step-mutable rest others b name t is same ∙ ap (λ k. is_fixed (cond k (Some (named_view b).scoped) (binding_of (scopes (map named_view (reverse others))) name))) e

pub passed-mutable : (rest others : List Bound) (b : Bound) (name : List ℕ) (t : Bool) → rest ≡ others ++ b ∷ [] → IsTrue t ↔ (b.name ≡ name) → t ≡ false
    → is_immutable (scopes (map named_view (reverse others))) name ≡ is_immutable (scopes (map named_view (reverse rest))) name
passed-mutable rest others b name t is same e =
    sym (step-mutable rest others b name t is same ∙ ap (λ k. is_fixed (cond k (Some (named_view b).scoped) (binding_of (scopes (map named_view (reverse others))) name))) e)
