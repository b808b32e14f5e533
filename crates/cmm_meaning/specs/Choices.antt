-- Handlers and cases, whose bodies are ready to be evaluated in one way or another, and which of them is taken.
use Rattle.std.specs.Prelude.{ℕ, Bool, true, false, not, cond, ◌&&◌, ◌==◌, List, [], ◌∷◌, Option, Some, None, find}
use Rattle.cmm_data.specs.Known.{LabelTree, same_label, is_bare, Parameter, Index}

-- A handler, ready to be entered.
pub record Ready (Body : Type 0) : Type 0 where
  pub label : LabelTree
  pub params : List Parameter
  pub body : Body

-- the handler of a label; where the exit comes from a handler of the same catch, the bare one is not visible
abbrev pub ready_for : {Body : Type 0} → Bool → LabelTree → List (Ready Body) → Option (Ready Body)
ready_for {Body} within label handlers =
    find (λ (r : Ready Body). same_label label r.label && not (is_bare label && within)) handlers

-- A case, ready to be chosen.
pub record Chosen (Body : Type 0) : Type 0 where
  pub indexes : List Index
  pub body : Body

abbrev pub is_named : List Index → ℕ → Bool
is_named [] k = false
is_named (i ∷ indexes) k = cond (i.index == k) true (is_named indexes k)

abbrev pub last_naming : {Body : Type 0} → List (Chosen Body) → ℕ → Option (Chosen Body) → Option (Chosen Body)
last_naming [] k so_far = so_far
last_naming (c ∷ cases) k so_far = last_naming cases k (cond (is_named c.indexes k) (Some c) so_far)

abbrev pub first_case : {Body : Type 0} → List (Chosen Body) → Option (Chosen Body)
first_case [] = None
first_case (c ∷ cases) = Some c

-- the last case that names the number, and else the first
abbrev pub case_for : {Body : Type 0} → List (Chosen Body) → ℕ → Option (Chosen Body)
case_for cases k = last_naming cases k (first_case cases)
