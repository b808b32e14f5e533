-- What is added up over the lines of a function is the same in any order of its runs.
use Rattle.std.proofs.Common.{◌≡◌, ℕ, ◌+◌, true, List, [], ◌∷◌, ◌++◌, length, refl, sym, ap, ◌∙◌, arith}
use Rattle.std.proofs.lemmas.Bool.{true≢false}
use Rattle.lin_ir.specs.Formed.{labels_in, label_of}
use Rattle.lin_ir.specs.declared.lin.LinOp.{LinOp}
use Rattle.lin_ir.specs.declared.lin.LinOp.TheVariants as lin
use Rattle.lin_ir.specs.declared.lin.Line.{Line}
use Rattle.schedule_rules.specs.Straight.{is_plain}
use Rattle.schedule_rules.specs.Orders.{sum_of_lines, are_plain, Reorders, nothing, takes, Rest, rest_ends, rest_line, Ordered, ordered}
use Rattle.schedule_rules.proofs.Reorder.{and_left, and_right, reorders_plain}

module _ (f : Line → ℕ) where
  abbrev total : List Line → ℕ
  total is = sum_of_lines f is

  total_append : (xs ys : List Line) → total (xs ++ ys) ≡ total xs + total ys
  total_append [] ys = omega arith
  total_append (x ∷ xs) ys = let ih = total_append xs ys in omega (arith, ih)

  pub reorders_total : (xs ys : List Line) → Reorders xs ys → total ys ≡ total xs
  reorders_total _ _ nothing = refl
  reorders_total _ _ (takes before i after {others = others} d r) =
      let ih = reorders_total (before ++ after) others r in
      let a = total_append before after in
      let b = total_append before (i ∷ after) in
      omega (arith, ih, a, b)

  rest_total : (is js : List Line) → Rest is js → total js ≡ total is
  rest_total _ _ rest_ends = refl
  rest_total _ _ (rest_line i xs ys {is = is} {js = js} n p o t) =
      let ih = rest_total is js t in
      let a = total_append xs is in
      let b = total_append ys js in
      let c = reorders_total xs ys o in
      omega (arith, ih, a, b, c)

  -- words, frame points and the like
  pub ordered_total : (code other : List Line) → Ordered code other → total other ≡ total code
  ordered_total _ _ (ordered xs ys is js p o t) =
      let a = total_append xs is in
      let b = total_append ys js in
      let c = reorders_total xs ys o in
      let d = rest_total is js t in
      omega (arith, a, b, c, d)

-- ---- how many

sum_of_ones : (is : List Line) → sum_of_lines (λ i. 1) is ≡ length is
sum_of_ones [] = refl
sum_of_ones (i ∷ is) = let ih = sum_of_ones is in omega (arith, ih)

pub ordered_length : (code other : List Line) → Ordered code other → length other ≡ length code
ordered_length code other o = sym (sum_of_ones other) ∙ ordered_total (λ i. 1) code other o ∙ sum_of_ones code

-- ---- labels

plain_unlabelled : (f : LinOp) → is_plain f ≡ true → label_of f ≡ []
plain_unlabelled (lin.Op f) e = refl
plain_unlabelled (lin.Flow f) e = absurd (true≢false (sym e))

run_labels : (xs is : List Line) → are_plain xs ≡ true → labels_in (xs ++ is) ≡ labels_in is
run_labels [] is p = refl
run_labels (x ∷ xs) is p = ap (λ l. l ++ labels_in (xs ++ is)) (plain_unlabelled x.op (and_left _ _ p)) ∙ run_labels xs is (and_right _ _ p)

rest_labels : (is js : List Line) → Rest is js → labels_in js ≡ labels_in is
rest_labels _ _ rest_ends = refl
rest_labels _ _ (rest_line i xs ys {is = is} {js = js} n p o t) =
    ap (λ l. label_of i.op ++ l) (run_labels ys js (reorders_plain xs ys o p) ∙ rest_labels is js t ∙ sym (run_labels xs is p))

-- The labels are the same, in the same order.
pub ordered_labels : (code other : List Line) → Ordered code other → labels_in other ≡ labels_in code
ordered_labels _ _ (ordered xs ys is js p o t) = run_labels ys js (reorders_plain xs ys o p) ∙ rest_labels is js t ∙ sym (run_labels xs is p)
