-- Lists that follow an end of data lie as many bytes further on as that end does, where these are a multiple
-- of 4,096.
use Rattle.std.proofs.Common.{◌≡◌, ℕ, ◌+◌, ◌-◌, ◌*◌, ◌/◌, ◌%◌, Bool, true, false, cond, ◌&&◌, ◌==◌, List, [], ◌∷◌, Some, None, refl, sym, ap, ◌∙◌, mul_assoc, arith}
use Rattle.std.specs.Prelude.{nat_lt}
use Rattle.std.proofs.Math.Nat.{add-mul-mod_self_left, div-add-mod}
use Rattle.std.proofs.lemmas.Bool.{eqb-true}
use Rattle.cmm_data.specs.Placement.{to_multiple, is_unit, aligned, size_at, items_from, end_of_items, start_behind, end_behind, lists_behind, end_of_lists}
use Rattle.cmm_tree.specs.Tree.{DatumTree, Define, Byte, Half, Int, Val, Address, Skip, Align, Text, Global, AFloat, DataItemTree, DataListTree}
use Rattle.moved_data.specs.Moved.{items_further_on, lists_further_on, align_list}

and_second : (a b : Bool) → (a && b) ≡ true → b ≡ true
and_second true b e = e
and_second false b e = absurd (let z : false ≡ true = e in cc)

module _ (k : ℕ) where
  abbrev d : ℕ
  d = 4096 * k

  -- a divisor of 4,096 sees no difference
  same_rest : (u a : ℕ) → 4096 % u ≡ 0 → (a + d) % u ≡ a % u
  same_rest u a e =
      let q = 4096 / u in
      let whole : u * q ≡ 4096 = (let h = div-add-mod 4096 u in omega (arith, h, e)) in
      let same : u * (q * k) ≡ d = sym (mul_assoc u q k) ∙ ap (λ x. x * k) whole in
      ap (λ x. (a + x) % u) (sym same) ∙ add-mul-mod_self_left a u (q * k)

  unit_same : (u a : ℕ) → 4096 % u ≡ 0 → to_multiple (a + d) u ≡ to_multiple a u
  unit_same u a e = ap (λ r. (u - r) % u) (same_rest u a e)

  aligned_same : (a u : ℕ) → aligned (a + d) u ≡ aligned a u
  aligned_same a u = by (is_unit u) refl
    where
      by : (b : Bool) → is_unit u ≡ b → cond b (to_multiple (a + d) u) 0 ≡ cond b (to_multiple a u) 0
      by true e = unit_same u a (eqb-true (4096 % u) 0 (and_second (nat_lt 0 u) (4096 % u == 0) e))
      by false e = refl

  size_same : (a : ℕ) (i : DatumTree) → size_at (a + d) i ≡ size_at a i
  size_same a (Define name) = refl
  size_same a (Byte w) = refl
  size_same a (Half w) = refl
  size_same a (Int w) = refl
  size_same a (Val w) = refl
  size_same a (Address root at name) = refl
  size_same a (Skip (Some n)) = refl
  size_same a (Skip None) = refl
  size_same a (Align (Some u)) = aligned_same a u
  size_same a (Align None) = refl
  size_same a (Text bytes) = refl
  size_same a (Global at name) = refl
  size_same a AFloat = refl

  next_same : (a : ℕ) (i : DatumTree) → a + d + size_at (a + d) i ≡ a + size_at a i + d
  next_same a i = let same = size_same a i in omega (arith, same)

  pub items_move : (a : ℕ) (is : List DataItemTree) → items_from (a + d) is ≡ items_further_on d (items_from a is)
  items_move a [] = refl
  items_move a (i ∷ is) =
      let rest = ap (λ x. items_from x is) (next_same a i.datum) ∙ items_move (a + size_at a i.datum) is in
      λ j. record { at = i.at; address = a + d; datum = i.datum } ∷ rest j

  pub ends_move : (a : ℕ) (is : List DataItemTree) → end_of_items (a + d) is ≡ end_of_items a is + d
  ends_move a [] = refl
  ends_move a (i ∷ is) = ap (λ x. end_of_items x is) (next_same a i.datum) ∙ ends_move (a + size_at a i.datum) is

  start_moves : (a : ℕ) → start_behind (a + d) ≡ start_behind a + d
  start_moves a = let same = unit_same 8 a refl in omega (arith, same)

  end_moves : (a : ℕ) (l : DataListTree) → end_behind (a + d) l ≡ end_behind a l + d
  end_moves a l = ap (λ x. end_of_items x l.items) (start_moves a) ∙ ends_move (start_behind a) l.items

  -- The lists of a unit lie in an image as they lie in the unit, so many bytes further on.
  pub lists_move : (a : ℕ) (ls : List DataListTree) → lists_behind (a + d) ls ≡ lists_further_on d (lists_behind a ls)
  lists_move a [] = refl
  lists_move a (l ∷ ls) =
      let items = ap (λ x. items_from x l.items) (start_moves a) ∙ items_move (start_behind a) l.items in
      let rest = ap (λ x. lists_behind x ls) (end_moves a l) ∙ lists_move (end_behind a l) ls in
      λ j. record { start = start_moves a j; end = end_moves a l j; items = items j } ∷ rest j

  pub end_of_moves : (a : ℕ) (ls : List DataListTree) → end_of_lists (a + d) ls ≡ end_of_lists a ls + d
  end_of_moves a [] = refl
  end_of_moves a (l ∷ ls) = ap (λ x. end_of_lists x ls) (end_moves a l) ∙ end_of_moves (end_behind a l) ls

-- The list before a unit's own ends at a multiple of 4,096.
pub unit_begins : (at item_at end : ℕ) → end_behind end (align_list at item_at) % 4096 ≡ 0
unit_begins at item_at end = omega arith
