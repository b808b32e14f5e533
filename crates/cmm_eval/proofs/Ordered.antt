-- Operands of a node, in the order in which they are evaluated.
use Rattle.std.proofs.Common.{◌≡◌, ◌∙◌, ℕ, zero, suc, ◌+◌, ◌-◌, ◌<◌, ◌≤◌, Bool, true, false, List, [], ◌∷◌, ◌++◌, Option, Some, None, length, take, get_or, refl, ap, sym, arith}
use Rattle.std.specs.Prelude.{reverse, if◌then◌else◌, IsSome, SomeIff, ◌↔◌}
use Rattle.std.specs.Option.{option_flatten, option_to_list}
use Rattle.std.proofs.lemmas.List.{reverse-append, take_more, get_or_default}
use Rattle.bs_words.specs.declared.values.Value.{Value}
use Rattle.cmm_tree.specs.declared.expr.Expr.{Expr}
use Rattle.cmm_tree.specs.declared.expr.Form.{Form}
use Rattle.cmm_tree.specs.View.{expr_view}
use Rattle.cmm_types.specs.Light.{is_light_address}
use Rattle.cmm_meaning.specs.State.{World, Here, scope}
use Rattle.cmm_meaning.specs.Evaluation.{Evaluation, Surroundings, with_value, both, unless_light, now_or_before, first_of, rest_of}
use Rattle.eval_frames.specs.Filled.{evaluated_expression, fills_in, waits_for, left_operand, right_of, joined_by, does}
use Rattle.eval_frames.specs.declared.frame.Step.TheVariants as step

-- the first of two operands begins
pub both_begun : (s : Surroundings) (f : Form) (t : Bool) (l r : Expr) (tail : Bool) (h : Here) (w : World) → left_operand s f h w ≡ evaluated_expression s l false h w →
    right_of s f h w ≡ evaluated_expression s r false h w →
    does s (step.First t) f tail (evaluated_expression s (if t then l else r) false h w) ≡ both t (left_operand s f) (right_of s f) h w (λ a b h w. joined_by s f a b h w)
both_begun s f true l r tail h w left right =
    ap (λ (e : Evaluation). with_value e (λ a h w. with_value (right_of s f h w) (λ b h w. joined_by s f a b h w))) (sym left)
both_begun s f false l r tail h w left right =
    ap (λ (e : Evaluation). with_value e (λ b h w. with_value (left_operand s f h w) (λ a h w. joined_by s f a b h w))) (sym right)

-- the last of what is left
pub last_first : {A : Type 0} (xs : List A) (left : ℕ) (x : A) → 0 < left → left ≤ length xs → x ≡ get_or xs (left - 1) x →
    reverse (take left xs) ≡ x ∷ reverse (take (left - 1) xs)
last_first xs left x some within this =
    let lt : left - 1 < length xs = omega arith in
    let e : left ≡ (left - 1) + 1 = omega arith in
    ap (λ n. reverse (take n xs)) e
    ∙ ap reverse (take_more xs (left - 1) x lt ∙ ap (λ y. take (left - 1) xs ++ y ∷ []) (sym this))
    ∙ reverse-append (take (left - 1) xs) (x ∷ [])

pub reverse_push : {A : Type 0} (xs : List A) (x : A) → reverse (xs ++ x ∷ []) ≡ x ∷ reverse xs
reverse_push xs x = reverse-append xs (x ∷ [])

-- what the last operand that is left has come to before
pub record Popped (old new : List (Option Value)) (o : Option (Option Value)) : Type 0 where
  pub first : first_of (reverse old) ≡ option_flatten o
  pub rest : rest_of (reverse old) ≡ reverse new

empty_front : (new : List (Option Value)) → length (new ++ []) ≡ 0 → new ≡ []
empty_front [] h = refl
empty_front (x ∷ new) h = absurd (omega arith)

pub popped : (old new : List (Option Value)) (o : Option (Option Value)) (n : ℕ) → old ≡ new ++ option_to_list o → (IsSome o ↔ (0 < n)) → n ≡ length old →
    Popped old new o
popped old new (Some x) n e some count =
    let r : reverse old ≡ x ∷ reverse new = ap reverse e ∙ reverse_push new x in
    record { first = ap first_of r; rest = ap rest_of r }
popped old new None zero e some count =
    let none : new ≡ [] = empty_front new (ap length (sym e) ∙ sym count) in
    let r : reverse old ≡ [] = ap reverse e ∙ ap (λ l. reverse (l ++ [])) none in
    record { first = ap first_of r; rest = ap rest_of r ∙ ap reverse (sym none) }
popped old new None (suc n) e some count =
    let positive : 0 < suc n = omega arith in
    let h : IsSome {T = Option Value} None = some.1 positive in cc

pub item_at : {A : Type 0} (xs : List A) (i : ℕ) → i < length xs → (x : A) × (x ≡ get_or xs i x)
item_at [] i lt = absurd (omega arith)
item_at {A} (a ∷ xs) i lt = let x : A = get_or (a ∷ xs) i a in (x, get_or_default (a ∷ xs) i a x lt)

module _ (s : Surroundings) (f : Form) (tail : Bool) (callee : Option Value) (operands : List Expr) (left : ℕ) (x : Expr) (old new : List (Option Value))
    (o : Option (Option Value)) (values : List Value) (is : reverse (take left operands) ≡ x ∷ reverse (take (left - 1) operands)) (p : Popped old new o) (h : Here) (w : World) where
  filling : fills_in s f tail callee (reverse (take left operands)) (reverse old) (reverse values) h w
      ≡ now_or_before (option_flatten o) (evaluated_expression s x false) h w
      (λ v h w. fills_in s f tail callee (reverse (take (left - 1) operands)) (reverse new) (v ∷ reverse values) h w)
  filling =
      ap (λ l. fills_in s f tail callee l (reverse old) (reverse values) h w) is
      ∙ ap (λ b. now_or_before b (evaluated_expression s x false) h w
      (λ v h w. fills_in s f tail callee (reverse (take (left - 1) operands)) (rest_of (reverse old)) (v ∷ reverse values) h w)) p.first
      ∙ ap (λ l. now_or_before (option_flatten o) (evaluated_expression s x false) h w
      (λ v h w. fills_in s f tail callee (reverse (take (left - 1) operands)) l (v ∷ reverse values) h w)) p.rest

  -- the operand has a value already
  pub fill_before : (v : Value) → option_flatten o ≡ Some v →
      fills_in s f tail callee (reverse (take (left - 1) operands)) (reverse new) (reverse (values ++ v ∷ [])) h w
      ≡ fills_in s f tail callee (reverse (take left operands)) (reverse old) (reverse values) h w
  fill_before v e =
      ap (λ l. fills_in s f tail callee (reverse (take (left - 1) operands)) (reverse new) l h w) (reverse_push values v)
      ∙ ap (λ b. now_or_before b (evaluated_expression s x false) h w
      (λ v h w. fills_in s f tail callee (reverse (take (left - 1) operands)) (reverse new) (v ∷ reverse values) h w)) (sym e)
      ∙ sym filling

  -- the operand has waited
  pub fill_now : option_flatten o ≡ None →
      with_value (evaluated_expression s x false h w) (λ v h w. fills_in s f tail callee (reverse (take (left - 1) operands)) (reverse new) (v ∷ reverse values) h w)
      ≡ fills_in s f tail callee (reverse (take left operands)) (reverse old) (reverse values) h w
  fill_now e =
      ap (λ b. now_or_before b (evaluated_expression s x false) h w
      (λ v h w. fills_in s f tail callee (reverse (take (left - 1) operands)) (reverse new) (v ∷ reverse values) h w)) (sym e)
      ∙ sym filling

module _ (s : Surroundings) (f : Form) (tail : Bool) (operands : List Expr) (left : ℕ) (x : Expr) (values : List (Option Value))
    (is : reverse (take left operands) ≡ x ∷ reverse (take (left - 1) operands)) (h : Here) (w : World) where
  waiting : waits_for s f tail (reverse (take left operands)) (reverse values) h w
      ≡ unless_light (is_light_address (scope h) (expr_view x)) (evaluated_expression s x false) h w
      (λ v h w. waits_for s f tail (reverse (take (left - 1) operands)) (v ∷ reverse values) h w)
  waiting = ap (λ l. waits_for s f tail l (reverse values) h w) is

  -- a light address waits
  pub wait_light : is_light_address (scope h) (expr_view x) ≡ true →
      waits_for s f tail (reverse (take (left - 1) operands)) (reverse (values ++ None ∷ [])) h w
      ≡ waits_for s f tail (reverse (take left operands)) (reverse values) h w
  wait_light e =
      ap (λ l. waits_for s f tail (reverse (take (left - 1) operands)) l h w) (reverse_push values None)
      ∙ ap (λ t. unless_light t (evaluated_expression s x false) h w (λ v h w. waits_for s f tail (reverse (take (left - 1) operands)) (v ∷ reverse values) h w)) (sym e)
      ∙ sym waiting

  -- any other operand is evaluated
  pub wait_other : is_light_address (scope h) (expr_view x) ≡ false →
      with_value (evaluated_expression s x false h w) (λ v h w. waits_for s f tail (reverse (take (left - 1) operands)) (Some v ∷ reverse values) h w)
      ≡ waits_for s f tail (reverse (take left operands)) (reverse values) h w
  wait_other e =
      ap (λ t. unless_light t (evaluated_expression s x false) h w (λ v h w. waits_for s f tail (reverse (take (left - 1) operands)) (v ∷ reverse values) h w)) (sym e)
      ∙ sym waiting

-- a sum that did not pass a word
pub sum_is : (o : Option ℕ) (n m : ℕ) (P : Type 0) → SomeIff o P m → o ≡ Some n → n ≡ m
sum_is None n m P s e = cc
sum_is (Some x) n m P s e = let i : x ≡ n = cc in sym i ∙ s.1
