-- Elements of lists.
use Rattle.std.proofs.Common.{◌≡◌, List, [], ◌∷◌, ◌⊎◌, inl, inr, arith}
use Rattle.std.specs.List.{Contains}
use Rattle.std.proofs.lemmas.List.Elements.{Contains-append_cases, Contains-append_right, Contains-append_left, Contains-push, Contains-push_cases}

pub contains_none : {X : Type 0} (z : X) → Contains [] z → ⊥
contains_none z (k, less, e) = omega arith

pub contains_cases : {X : Type 0} (x : X) (xs : List X) (z : X) → Contains (x ∷ xs) z → (x ≡ z) ⊎ Contains xs z
contains_cases {X} x xs z c = whole (Contains-append_cases (x ∷ []) xs z c)
  where
    single : Contains [] z ⊎ (x ≡ z) → (x ≡ z) ⊎ Contains xs z
    single (inl n) = absurd (contains_none z n)
    single (inr e) = inl e

    whole : Contains (x ∷ []) z ⊎ Contains xs z → (x ≡ z) ⊎ Contains xs z
    whole (inl s) = single (Contains-push_cases [] x z s)
    whole (inr t) = inr t

pub contains_head : {X : Type 0} (x : X) (xs : List X) → Contains (x ∷ xs) x
contains_head x xs = Contains-append_left (x ∷ []) xs x (Contains-push [] x)

pub contains_tail : {X : Type 0} (x : X) (xs : List X) (z : X) → Contains xs z → Contains (x ∷ xs) z
contains_tail x xs z c = Contains-append_right (x ∷ []) xs z c
