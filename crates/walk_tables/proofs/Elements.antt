-- What is in short lists, and what events bind.
use Rattle.std.proofs.Common.{◌≡◌, ◌⊎◌, ℕ, List, [], ◌∷◌, ◌++◌, inl, inr, arith}
use Rattle.std.specs.List.{Contains}
use Rattle.std.proofs.lemmas.List.Elements.{Contains-append_left, Contains-append_right, Contains-append_cases, Contains-push, Contains-push_cases}
use Rattle.walk_tables.specs.Walks.{Event}
use Rattle.walk_tables.specs.Walks as event
use Rattle.walk_tables.specs.AddrLive.{Unbound}

pub no_element : {X : Type 0} (x : X) → Contains [] x → ⊥
no_element x h = omega (arith, h.1)

pub only : {X : Type 0} (y x : X) → Contains (y ∷ []) x → y ≡ x
only y x h = elim (Contains-push_cases [] y x h) [ inl none ↦ absurd (no_element x none) | inr e ↦ e ]

pub itself : {X : Type 0} (x : X) → Contains (x ∷ []) x
itself x = Contains-push [] x

pub unbound_none : (r : ℕ) → Unbound r []
unbound_none r = λ address at h. no_element (event.Binds r address at) h

pub unbound_both : (r : ℕ) (a b : List Event) → Unbound r a → Unbound r b → Unbound r (a ++ b)
unbound_both r a b ua ub = λ address at h.
    elim (Contains-append_cases a b (event.Binds r address at) h) [ inl first ↦ ua address at first | inr later ↦ ub address at later ]

pub unbound_first : (r : ℕ) (a b : List Event) → Unbound r (a ++ b) → Unbound r a
unbound_first r a b u = λ address at h. u address at (Contains-append_left a b (event.Binds r address at) h)

pub unbound_rest : (r : ℕ) (a b : List Event) → Unbound r (a ++ b) → Unbound r b
unbound_rest r a b u = λ address at h. u address at (Contains-append_right a b (event.Binds r address at) h)

pub first_or_rest : {X : Type 0} (y : X) (ys : List X) (x : X) → Contains (y ∷ ys) x → (y ≡ x) ⊎ Contains ys x
first_or_rest y ys x h = elim (Contains-append_cases (y ∷ []) ys x h) [ inl first ↦ inl (only y x first) | inr later ↦ inr later ]
