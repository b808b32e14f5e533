-- The lines of a function with its runs reordered are those of the function.
use Rattle.std.proofs.Common.{◌↔◌, ⊎_elim, List, ◌∷◌, ◌++◌}
use Rattle.std.specs.List.{Contains}
use Rattle.lin_ir.specs.declared.lin.Line.{Line}
use Rattle.linearise_rules.proofs.Homes.{IsIn, is_first, is_later, in_of, contains_of, split_in, in_left, in_right}
use Rattle.schedule_rules.specs.Orders.{Reorders, nothing, takes, Rest, rest_ends, rest_line, Ordered, ordered}

reorders_back : (i : Line) (xs ys : List Line) → Reorders xs ys → IsIn i ys → IsIn i xs
reorders_back i _ _ nothing z = z
reorders_back i _ _ (takes before j after {others = others} d r) z = by i z (λ w. reorders_back i (before ++ after) others r w)
  where
    by : (k : Line) → IsIn k (j ∷ others) → (IsIn k others → IsIn k (before ++ after)) → IsIn k (before ++ j ∷ after)
    by _ is_first ih = in_right before is_first
    by k (is_later w) ih = ⊎_elim (λ u. in_left (j ∷ after) u) (λ u. in_right before (is_later u)) (split_in before after (ih w))

reorders_forth : (i : Line) (xs ys : List Line) → Reorders xs ys → IsIn i xs → IsIn i ys
reorders_forth i _ _ nothing z = z
reorders_forth i _ _ (takes before j after {others = others} d r) z =
    ⊎_elim (λ u. is_later (reorders_forth i (before ++ after) others r (in_left after u)))
    (λ u. by i u (λ w. is_later (reorders_forth i (before ++ after) others r (in_right before w)))) (split_in before (j ∷ after) z)
  where
    by : (k : Line) → IsIn k (j ∷ after) → (IsIn k after → IsIn k (j ∷ others)) → IsIn k (j ∷ others)
    by _ is_first ih = is_first
    by k (is_later w) ih = ih w

-- after the line that stays, by what holds of its run and of the code behind that
past_line : (j : Line) (xs is ys js : List Line) (k : Line) → IsIn k (j ∷ xs ++ is) → (IsIn k xs → IsIn k ys) → (IsIn k is → IsIn k js) → IsIn k (j ∷ ys ++ js)
past_line j xs is ys js _ is_first one two = is_first
past_line j xs is ys js k (is_later w) one two = is_later (⊎_elim (λ u. in_left js (one u)) (λ u. in_right ys (two u)) (split_in xs is w))

rest_back : (i : Line) (is js : List Line) → Rest is js → IsIn i js → IsIn i is
rest_back i _ _ rest_ends z = z
rest_back i _ _ (rest_line j xs ys {is = is} {js = js} n p o t) z =
    past_line j ys js xs is i z (λ w. reorders_back i xs ys o w) (λ w. rest_back i is js t w)

rest_forth : (i : Line) (is js : List Line) → Rest is js → IsIn i is → IsIn i js
rest_forth i _ _ rest_ends z = z
rest_forth i _ _ (rest_line j xs ys {is = is} {js = js} n p o t) z =
    past_line j xs is ys js i z (λ w. reorders_forth i xs ys o w) (λ w. rest_forth i is js t w)

ordered_back : (i : Line) (code others : List Line) → Ordered code others → IsIn i others → IsIn i code
ordered_back i _ _ (ordered xs ys is js p o t) z =
    ⊎_elim (λ u. in_left is (reorders_back i xs ys o u)) (λ u. in_right xs (rest_back i is js t u)) (split_in ys js z)

ordered_forth : (i : Line) (code others : List Line) → Ordered code others → IsIn i code → IsIn i others
ordered_forth i _ _ (ordered xs ys is js p o t) z =
    ⊎_elim (λ u. in_left js (reorders_forth i xs ys o u)) (λ u. in_right ys (rest_forth i is js t u)) (split_in xs is z)

pub ordered_lines : (code others : List Line) → Ordered code others → (i : Line) → Contains others i ↔ Contains code i
ordered_lines code others o i =
    (λ z. contains_of (ordered_back i code others o (in_of i others z)), λ z. contains_of (ordered_forth i code others o (in_of i code z)))
