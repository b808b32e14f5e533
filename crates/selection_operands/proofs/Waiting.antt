-- Operands in a row, from the first on: each is put into its register at its time.
use Rattle.std.proofs.Common.{◌≡◌, ℕ, suc, ◌+◌, ◌-◌, ◌≤◌, ◌&&◌, Bool, true, false, not, List, [], ◌∷◌, Option, Some, None, length, get_or, take, drop, refl, ap, ◌∙◌, arith}
use Rattle.cmm_tree.specs.Rows.{expressions_of}
use Rattle.cmm_tree.specs.View.{expr_view}
use Rattle.cmm_tree.specs.declared.expr.Expr.{Expr}
use Rattle.cmm_types.specs.Annotated.{IsAnnotated}
use Rattle.cmm_types.specs.Light.{is_light_address}
use Rattle.cmm_types.specs.Types.{type_of}
use Rattle.mach_ir.specs.declared.mach.Instr.{Instr}
use Rattle.mach_ir.specs.declared.reg.Reg.{Reg}
use Rattle.selection_rules.specs.Select.{Code, fresh_register, select, only_when, unless_symbol, width}
use Rattle.selection_operands.specs.Operands.{is_due, lacks, row_code}
use Rattle.selection_operands.specs.declared.operands.Timing.{Timing}
use Rattle.selection_operands.specs.declared.operands.Timing.TheVariants as timings
use Rattle.selection_scope.specs.Scoping.{LexicalScope, scoped_names}

-- the code of an operand, if it is needed here
abbrev here : LexicalScope → ℕ → Expr → List Instr → Bool → Reg → List Instr
here scope base e next needed r = only_when needed (select scope.names scope.labels false false r base (expr_view e)) next

here-is : (scope : LexicalScope) (reg base : ℕ) (e : Expr) (r : Reg) (needed now : Bool) (next made : List Instr)
    → needed ≡ now
    → IsAnnotated (scoped_names scope) e
    → r ≡ fresh_register reg e.ty
    → made ≡ here scope base e next needed r
    → made ≡ here scope base e next now (fresh_register reg (type_of (scoped_names scope) (expr_view e)))
here-is scope reg base e r needed now next made w t f m =
    m ∙ ap (λ x. here scope base e next x r) w ∙ ap (here scope base e next now) (f ∙ ap (fresh_register reg) t.type)

pub row-more : (timing : Timing) (scope : LexicalScope) (n b reg base : ℕ) (r : Reg) (light needed : Bool)
    (e : Expr) (rest : List Expr) (next made : List Instr)
    → n ≡ suc reg
    → b ≡ base + width (expr_view e)
    → light ≡ is_light_address (scoped_names scope) (expr_view e)
    → needed ≡ is_due timing light
    → IsAnnotated (scoped_names scope) e
    → r ≡ fresh_register reg e.ty
    → made ≡ only_when needed (select scope.names scope.labels false false r base (expr_view e)) next
    → row_code timing scope n b (expressions_of rest) made ≡ row_code timing scope reg base (expressions_of (e ∷ rest)) next
row-more timing scope n b reg base r light needed e rest next made p q l w t f m =
    ap (λ k. row_code timing scope k b (expressions_of rest) made) p
    ∙ ap (λ k. row_code timing scope (suc reg) k (expressions_of rest) made) q
    ∙ ap (row_code timing scope (suc reg) (base + width (expr_view e)) (expressions_of rest))
    (here-is scope reg base e r needed _ next made (w ∙ ap (is_due timing) l) t f m)
    ∙ by timing
  where
    by : (x : Timing) →
        row_code x scope (suc reg) (base + width (expr_view e)) (expressions_of rest)
        (here scope base e next (is_due x (is_light_address (scoped_names scope) (expr_view e)))
        (fresh_register reg (type_of (scoped_names scope) (expr_view e))))
        ≡ row_code x scope reg base (expressions_of (e ∷ rest)) next
    by timings.Eager = refl
    by timings.Deferred = refl

-- a callee that is no symbol and does not wait
pub called-here : (light : Bool) (name : Option (List ℕ)) (c : Code) (n : List Instr) → only_when (not light && lacks name) c n ≡ only_when (not light) (unless_symbol name c) n
called-here true (Some name) c n = refl
called-here true None c n = refl
called-here false (Some name) c n = refl
called-here false None c n = refl

-- ---- the first of a row

take-whole : {A : Type 0} (xs : List A) → take (length xs) xs ≡ xs
take-whole [] = refl
take-whole (x ∷ xs) = ap (λ l. x ∷ l) (take-whole xs)

pub first-of : {A : Type 0} (xs : List A) (x : A) → 1 ≤ length xs → x ≡ get_or xs 0 x → x ∷ take (length xs - 1) (drop 1 xs) ≡ xs
first-of [] x some is = absurd (omega arith)
first-of (y ∷ ys) x some is =
    let count : length (y ∷ ys) - 1 ≡ length ys = omega arith in
    ap (λ z. z ∷ take (length (y ∷ ys) - 1) ys) is ∙ ap (λ n. y ∷ take n ys) count ∙ ap (λ l. y ∷ l) (take-whole ys)
