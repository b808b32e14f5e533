-- The innermost binding of a name, where each name in scope comes with something more.
use Rattle.std.proofs.Common.{◌≡◌, ℕ, Bool, true, false, cond, List, [], ◌∷◌, Option, Some, map, option_map, refl, ap, ◌∙◌, bytes_eq}
use Rattle.std.specs.Prelude.{find}
use Rattle.cmm_types.specs.Types.{Scoped, binding_of}

bound_first : {A : Type 0} (scoped : A → Scoped) (test : Bool) (x : A) (others : Option A) →
    cond test (Some (scoped x)) (option_map scoped others) ≡ option_map scoped (cond test (Some x) others)
bound_first scoped true x others = refl
bound_first scoped false x others = refl

pub bound_among : {A : Type 0} (scoped : A → Scoped) (xs : List A) (name : List ℕ) →
    binding_of (map scoped xs) name ≡ option_map scoped (find (λ (x : A). bytes_eq (scoped x).name name) xs)
bound_among scoped [] name = refl
bound_among {A} scoped (x ∷ xs) name =
    ap (λ (o : Option Scoped). cond (bytes_eq (scoped x).name name) (Some (scoped x)) o) (bound_among scoped xs name)
    ∙ bound_first scoped (bytes_eq (scoped x).name name) x (find (λ (y : A). bytes_eq (scoped y).name name) xs)
