-- A list that rises by a strict order is known by its members: so the order of a graph is one, and with it
-- the colouring.
use Rattle.std.proofs.Common.{◌≡◌, ℕ, suc, ◌<◌, ◌⊎◌, inl, inr, ⊎_elim, List, [], ◌∷◌, refl, sym, ap, ◌∙◌, subst, arith}
use Rattle.std.specs.List.{AllPairs, Contains}
use Rattle.mach_ir.specs.Placed.{Colouring}
use Rattle.mach_ir.specs.declared.graph.Node.{Node}
use Rattle.mach_ir.specs.declared.graph.Graph.{Graph}
use Rattle.bs_words.proofs.Lists.{none_in, first_in, later_in, in_cons, pairs_later}
use Rattle.colouring.specs.Chosen.{urgency, IsColouredBefore, fixed, greedily_coloured, OrderIsOne, ColoursAreOne}

-- the first before each later one
pub pairs_first : {A : Type 0} (R : A → A → Type 0) (x : A) (xs : List A) → AllPairs R (x ∷ xs) →
    (y : A) → Contains xs y → R x y
pairs_first R x xs h y c =
    let le = c.1 in subst (R x) c.2 (h 0 (suc c.0) y (omega arith) (omega (arith, le)))

module _ {A : Type 0} (R : A → A → Type 0) (strict : (x y : A) → R x y → R y x → ⊥) where
  -- what is after one head is after the other, which is equal
  left_over : (x y : A) (xs ys : List A) → x ≡ y → AllPairs R (x ∷ xs) →
      ((z : A) → Contains (x ∷ xs) z → Contains (y ∷ ys) z) → (z : A) → Contains xs z → Contains ys z
  left_over x y xs ys e up into z c =
      ⊎_elim
      (λ same.
      let before : R x z = pairs_first R x xs up z c in
      let self : R x x = subst (R x) (sym same ∙ sym e) before in
      absurd (strict x x self self))
      (λ d. d) (in_cons y z ys (into z (later_in x z xs c)))

  heads : (x y : A) (xs ys : List A) → AllPairs R (x ∷ xs) → AllPairs R (y ∷ ys) →
      (x ≡ y) ⊎ Contains ys x → (y ≡ x) ⊎ Contains xs y → x ≡ y
  heads x y xs ys up up' (inl e) d = e
  heads x y xs ys up up' (inr c) (inl e) = sym e
  heads x y xs ys up up' (inr c) (inr d) = absurd (strict x y (pairs_first R x xs up y d) (pairs_first R y ys up' x c))

  pub one_by_members : (xs ys : List A) → AllPairs R xs → AllPairs R ys →
      ((z : A) → Contains xs z → Contains ys z) → ((z : A) → Contains ys z → Contains xs z) → xs ≡ ys
  one_by_members [] [] up up' into from = refl
  one_by_members [] (y ∷ ys) up up' into from = absurd (none_in y (from y (first_in y ys)))
  one_by_members (x ∷ xs) [] up up' into from = absurd (none_in x (into x (first_in x xs)))
  one_by_members (x ∷ xs) (y ∷ ys) up up' into from =
      let e : x ≡ y = heads x y xs ys up up'
      (⊎_elim (λ e. inl (sym e)) (λ c. inr c) (in_cons y x ys (into x (first_in x xs))))
      (⊎_elim (λ e. inl (sym e)) (λ c. inr c) (in_cons x y xs (from y (first_in y ys)))) in
      let rest : xs ≡ ys = one_by_members xs ys (pairs_later R x xs up) (pairs_later R y ys up')
      (left_over x y xs ys e up into) (left_over y x ys xs (sym e) up' from) in
      cc

strict_by_numbers : (u v n m : ℕ) → (v < u) ⊎ ((u ≡ v) × (n < m)) → (u < v) ⊎ ((v ≡ u) × (m < n)) → ⊥
strict_by_numbers u v n m (inl a) (inl b) = absurd (omega (arith, a, b))
strict_by_numbers u v n m (inl a) (inr b) = let e = b.0 in absurd (omega (arith, a, e))
strict_by_numbers u v n m (inr a) (inl b) = let e = a.0 in absurd (omega (arith, e, b))
strict_by_numbers u v n m (inr a) (inr b) = let p = a.1 in let q = b.1 in absurd (omega (arith, p, q))

pub strict_order : (place : Colouring) (fresh : ℕ) (x y : Node) → IsColouredBefore place fresh x y → IsColouredBefore place fresh y x → ⊥
strict_order place fresh x y = strict_by_numbers (urgency place fresh x) (urgency place fresh y) x.reg.number y.reg.number

pub order_is_one : (fresh : ℕ) (g : Graph) → OrderIsOne fresh g
order_is_one fresh g a b order order' =
    one_by_members (IsColouredBefore (fixed g) fresh) (strict_order (fixed g) fresh) a b order.sorted order'.sorted
    (λ x c. (order'.exact x).1 ((order.exact x).0 c)) (λ x c. (order.exact x).1 ((order'.exact x).0 c))

pub one_colouring : (fresh : ℕ) (g : Graph) → ColoursAreOne fresh g
one_colouring fresh g c d by_c by_d n =
    let same : by_c.order ≡ by_d.order = order_is_one fresh g by_c.order by_d.order by_c.ordered by_d.ordered in
    by_c.places n ∙ ap (λ order. greedily_coloured g (fixed g) order n) same ∙ sym (by_d.places n)
