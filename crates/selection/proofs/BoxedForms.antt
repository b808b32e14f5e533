-- Forms that hold expressions in boxes: what they stand for, and that their parts hold their types.
use Rattle.std.proofs.Common.{◌≡◌, ℕ, List, ap, sym, ◌∙◌, subst, ◌∷◌, false, Box, Global}
use Rattle.bs_words.specs.declared.operators.IntOp.{IntOp}
use Rattle.bs_words.specs.declared.types.Chunk.{Chunk}
use Rattle.bs_words.specs.declared.types.Ty.TheVariants as ty
use Rattle.cmm_tree.specs.Tree as tree
use Rattle.cmm_tree.specs.View.{expr_view}
use Rattle.cmm_tree.specs.declared.expr.Expr.{Expr}
use Rattle.cmm_tree.specs.declared.expr.Form as form
use Rattle.cmm_types.specs.Annotated.{IsAnnotated}
use Rattle.cmm_types.specs.Types.{Scoped}
use Rattle.walk_tables.proofs.Shapes.{Shape}

is-typed : (ns : List Scoped) (b : Box Expr Global) (e : Expr) → e ≡ b.value → IsAnnotated ns b.value → IsAnnotated ns e
is-typed ns b e q t =
    let P : Expr → Type 0 = λ x. IsAnnotated ns x in
    subst P (sym q) t

pub assign-shape : (ns : List Scoped) (at name_at : ℕ) (name : List ℕ) (b : Box Expr Global) (e : Expr) → e ≡ b.value
    → Shape ns at (form.Assign name_at name b) (tree.Assign at name_at name (expr_view e)) (IsAnnotated ns e)
assign-shape ns at name_at name b e q = record {
  view = ap (λ x. tree.Assign at name_at name (expr_view x)) (sym q);
  parts = λ t. is-typed ns b e q t;
}

pub operator-shape : (ns : List Scoped) (at : ℕ) (op : IntOp) (b b' : Box Expr Global) (l r : Expr) → l ≡ b.value → r ≡ b'.value
    → Shape ns at (form.Operator op b b') (tree.Operator at op (expr_view l) (expr_view r)) (IsAnnotated ns l × IsAnnotated ns r)
operator-shape ns at op b b' l r p q = record {
  view = ap (λ x. tree.Operator at op (expr_view x) (expr_view b'.value)) (sym p) ∙ ap (λ x. tree.Operator at op (expr_view l) (expr_view x)) (sym q);
  parts = λ t. (is-typed ns b l p t.0, is-typed ns b' r q t.1);
}

pub load-shape : (ns : List Scoped) (at : ℕ) (chunk : Chunk) (b : Box Expr Global) (e : Expr) → e ≡ b.value
    → Shape ns at (form.Load chunk b) (tree.Load at chunk (expr_view e)) (IsAnnotated ns e)
load-shape ns at chunk b e q = record {
  view = ap (λ x. tree.Load at chunk (expr_view x)) (sym q);
  parts = λ t. is-typed ns b e q t;
}

pub store-shape : (ns : List Scoped) (at : ℕ) (chunk : Chunk) (b b' : Box Expr Global) (l r : Expr) → l ≡ b.value → r ≡ b'.value
    → Shape ns at (form.Store chunk b b') (tree.Store at chunk (expr_view l) (expr_view r)) (IsAnnotated ns l × IsAnnotated ns r)
store-shape ns at chunk b b' l r p q = record {
  view = ap (λ x. tree.Store at chunk (expr_view x) (expr_view b'.value)) (sym p) ∙ ap (λ x. tree.Store at chunk (expr_view l) (expr_view x)) (sym q);
  parts = λ t. (is-typed ns b l p t.0, is-typed ns b' r q t.1);
}

pub checkbound-shape : (ns : List Scoped) (at : ℕ) (b b' : Box Expr Global) (l r : Expr) → l ≡ b.value → r ≡ b'.value
    → Shape ns at (form.Checkbound b b') (tree.Checkbound at (expr_view l) (expr_view r)) (IsAnnotated ns l × IsAnnotated ns r)
checkbound-shape ns at b b' l r p q = record {
  view = ap (λ x. tree.Checkbound at (expr_view x) (expr_view b'.value)) (sym p) ∙ ap (λ x. tree.Checkbound at (expr_view l) (expr_view x)) (sym q);
  parts = λ t. (is-typed ns b l p t.0, is-typed ns b' r q t.1);
}

pub raise-shape : (ns : List Scoped) (at : ℕ) (b : Box Expr Global) (e : Expr) → e ≡ b.value
    → Shape ns at (form.Raise b) (tree.Raise at (expr_view e)) (IsAnnotated ns e)
raise-shape ns at b e q = record {
  view = ap (λ x. tree.Raise at (expr_view x)) (sym q);
  parts = λ t. is-typed ns b e q t;
}

pub if-shape : (ns : List Scoped) (at : ℕ) (b b' b'' : Box Expr Global) (c l r : Expr) → c ≡ b.value → l ≡ b'.value → r ≡ b''.value
    → Shape ns at (form.If b b' b'') (tree.If at (expr_view c) (expr_view l) (expr_view r)) (IsAnnotated ns c × IsAnnotated ns l × IsAnnotated ns r)
if-shape ns at b b' b'' c l r o p q = record {
  view =
      ap (λ x. tree.If at (expr_view x) (expr_view b'.value) (expr_view b''.value)) (sym o)
      ∙ ap (λ x. tree.If at (expr_view c) (expr_view x) (expr_view b''.value)) (sym p)
      ∙ ap (λ x. tree.If at (expr_view c) (expr_view l) (expr_view x)) (sym q);
  parts = λ t. (is-typed ns b c o t.0, is-typed ns b' l p t.1, is-typed ns b'' r q t.2);
}

-- the name of a raised value, in scope
abbrev pub with_raised : List ℕ → List Scoped → List Scoped
with_raised name ns = record { name = name; type = ty.Val; mutable = false } ∷ ns

pub try-shape : (ns : List Scoped) (at : ℕ) (b : Box Expr Global) (name_at : ℕ) (name : List ℕ) (b' : Box Expr Global) (l r : Expr) → l ≡ b.value → r ≡ b'.value
    → Shape ns at (form.Try b name_at name b') (tree.Try at (expr_view l) name_at name (expr_view r)) (IsAnnotated ns l × IsAnnotated (with_raised name ns) r)
try-shape ns at b name_at name b' l r p q = record {
  view = ap (λ x. tree.Try at (expr_view x) name_at name (expr_view b'.value)) (sym p) ∙ ap (λ x. tree.Try at (expr_view l) name_at name (expr_view x)) (sym q);
  parts = λ t. (is-typed ns b l p t.0, is-typed (with_raised name ns) b' r q t.1);
}
