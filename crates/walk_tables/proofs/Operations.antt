-- The tasks of operations, by their parts.
use Rattle.std.proofs.Common.{◌≡◌, ℕ, suc, ◌+◌, Bool, true, cond, List, [], ◌∷◌, ◌++◌, length, Some, None, sym, ap, ◌∙◌, arith, append_assoc}
use Rattle.cmm_tree.specs.Tree.{Expression, More}
use Rattle.cmm_tree.specs.declared.expr.Expr.{Expr}
use Rattle.cmm_types.specs.Light.{is_light_address}
use Rattle.cmm_tree.specs.Rows.{expressions_of}
use Rattle.cmm_types.specs.Types.{type_named, is_address}
use Rattle.walk_tables.specs.Found.{found_in}
use Rattle.walk_tables.specs.Walks.{Slotted, Task, Does, Binds, Uses, Passes, call_tasks, names, operand, operand_uses, waiting, filled_slots, all_operands, on_one, on_two, used_at, bound_at, slot_of}
use Rattle.cmm_tree.specs.Measures.{count_of}
use Rattle.walk_tables.specs.declared.scopes.Found.{Found}
use Rattle.walk_tables.proofs.Names.{type-found, slot-found, type_of_found, slot_of_found}
use Rattle.walk_tables.proofs.Parts.{count-is}

abbrev late : List Slotted → ℕ → ℕ → Expression → List Task
late s free slot e = cond (is_light_address (names s) e) (operand s free slot e) []

abbrev early : List Slotted → ℕ → ℕ → Expression → List Task
early s free slot e = cond (is_light_address (names s) e) [] (operand s free slot e)

five : (a b c d e : List Task) → a ++ (b ++ (c ++ (d ++ e))) ≡ ((a ++ b) ++ (c ++ d)) ++ e
five a b c d e = simp append_assoc

pub on-one-is : (s : List Slotted) (free slot at : ℕ) (e : Expression) → free ≡ slot + 1
    → early s free slot e ++ (late s free slot e ++ operand_uses at slot 1) ≡ on_one s slot at e
on-one-is s free slot at e q =
    ap (λ n. early s n slot e ++ (late s n slot e ++ operand_uses at slot 1)) q
    ∙ sym (append_assoc (early s (slot + 1) slot e) (late s (slot + 1) slot e) (operand_uses at slot 1))

pub on-two-is : (s : List Slotted) (free slot second at : ℕ) (a b : Expression) → free ≡ slot + 2 → second ≡ suc slot
    → early s free second b ++ (early s free slot a ++ (late s free second b ++ (late s free slot a ++ operand_uses at slot 2))) ≡ on_two s slot at a b
on-two-is s free slot second at a b q r =
    ap (λ n. early s n second b ++ (early s n slot a ++ (late s n second b ++ (late s n slot a ++ operand_uses at slot 2)))) q
    ∙ ap (λ n. early s (slot + 2) n b ++ (early s (slot + 2) slot a ++ (late s (slot + 2) n b ++ (late s (slot + 2) slot a ++ operand_uses at slot 2)))) r
    ∙ five (early s (slot + 2) (suc slot) b) (early s (slot + 2) slot a) (late s (slot + 2) (suc slot) b) (late s (slot + 2) slot a) (operand_uses at slot 2)

pub on-all-is : (s : List Slotted) (slot at : ℕ) (es : List Expr)
    → all_operands s slot (expressions_of es) ++ operand_uses at slot (length es) ≡ all_operands s slot (expressions_of es) ++ operand_uses at slot (count_of (expressions_of es))
on-all-is s slot at es = ap (λ n. all_operands s slot (expressions_of es) ++ operand_uses at slot n) (count-is es)

pub alloc-is : (s : List Slotted) (free slot at : ℕ) (es : List Expr) → free ≡ slot + length es
    → waiting s free slot (expressions_of es) ++ (Does (Passes at) ∷ (filled_slots s free slot (expressions_of es) ++ operand_uses at slot (length es)))
    ≡ waiting s (slot + count_of (expressions_of es)) slot (expressions_of es)
    ++ (Does (Passes at) ∷ (filled_slots s (slot + count_of (expressions_of es)) slot (expressions_of es) ++ operand_uses at slot (count_of (expressions_of es))))
alloc-is s free slot at es q =
    ap (λ n. waiting s n slot (expressions_of es) ++ (Does (Passes at) ∷ (filled_slots s n slot (expressions_of es) ++ operand_uses at slot (length es)))) q
    ∙ ap (λ n. waiting s (slot + n) slot (expressions_of es) ++ (Does (Passes at) ∷ (filled_slots s (slot + n) slot (expressions_of es) ++ operand_uses at slot n))) (count-is es)

pub calls-is : (slot second at n : ℕ) → second ≡ suc slot
    → Does (Uses slot at) ∷ (operand_uses at second n ++ call_tasks true at) ≡ operand_uses at slot (suc n) ++ call_tasks true at
calls-is slot second at n q = ap (λ m. Does (Uses slot at) ∷ (operand_uses at m n ++ call_tasks true at)) q

pub app-is : (s : List Slotted) (free slot second at : ℕ) (callee : Expression) (es : List Expr) → second ≡ suc slot → free ≡ second + length es
    → waiting s free second (expressions_of es)
    ++ (early s free slot callee
    ++ (filled_slots s free second (expressions_of es)
    ++ (late s free slot callee ++ (operand_uses at slot (suc (length es)) ++ call_tasks true at))))
    ≡ all_operands s slot (More callee (expressions_of es)) ++ (operand_uses at slot (suc (count_of (expressions_of es))) ++ call_tasks true at)
app-is s free slot second at callee es q r =
    let last : List Task = operand_uses at slot (suc (length es)) ++ call_tasks true at in
    let n : ℕ = slot + suc (count_of (expressions_of es)) in
    let f : free ≡ slot + suc (count_of (expressions_of es)) = omega (arith, q, r, count-is es) in
    ap (λ m. waiting s m second (expressions_of es) ++ (early s m slot callee ++ (filled_slots s m second (expressions_of es) ++ (late s m slot callee ++ last)))) f
    ∙ ap (λ m. waiting s n m (expressions_of es) ++ (early s n slot callee ++ (filled_slots s n m (expressions_of es) ++ (late s n slot callee ++ last)))) q
    ∙ five (waiting s n (suc slot) (expressions_of es)) (early s n slot callee) (filled_slots s n (suc slot) (expressions_of es)) (late s n slot callee) last
    ∙ ap (λ m. all_operands s slot (More callee (expressions_of es)) ++ (operand_uses at slot (suc m) ++ call_tasks true at)) (count-is es)

pub used-none : (s : List Slotted) (at : ℕ) (name : List ℕ) → found_in s name ≡ None → [] ≡ used_at at (slot_of s name)
used-none s at name e = sym (ap (λ o. used_at at o) (slot-found s name ∙ ap slot_of_found e))

pub used-some : (s : List Slotted) (at : ℕ) (name : List ℕ) (f : Found) → found_in s name ≡ Some f → Does (Uses f.slot at) ∷ [] ≡ used_at at (slot_of s name)
used-some s at name f e = sym (ap (λ o. used_at at o) (slot-found s name ∙ ap slot_of_found e))

pub bound-none : (s : List Slotted) (at : ℕ) (name : List ℕ) → found_in s name ≡ None → [] ≡ bound_at at (type_named (names s) name) (slot_of s name)
bound-none s at name e = sym (ap (λ o. bound_at at (type_named (names s) name) o) (slot-found s name ∙ ap slot_of_found e))

pub bound-some : (s : List Slotted) (at : ℕ) (name : List ℕ) (f : Found) (address : Bool) → found_in s name ≡ Some f → address ≡ is_address f.ty
    → Does (Binds f.slot address at) ∷ [] ≡ bound_at at (type_named (names s) name) (slot_of s name)
bound-some s at name f address e q =
    ap (λ a. Does (Binds f.slot a at) ∷ []) (q ∙ ap is_address (sym (type-found s name ∙ ap type_of_found e)))
    ∙ sym (ap (λ o. bound_at at (type_named (names s) name) o) (slot-found s name ∙ ap slot_of_found e))
