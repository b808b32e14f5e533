-- The tasks that the parts of a list stand for are those of the list.
use Rattle.std.proofs.Common.{◌≡◌, ℕ, zero, suc, ◌+◌, ◌-◌, Bool, cond, List, [], ◌∷◌, ◌++◌, length, option_map, refl, sym, ap, ◌∙◌, subst, arith}
use Rattle.bs_words.specs.Fits.{type_of_comp}
use Rattle.bs_words.specs.declared.types.Ty.{Ty}
use Rattle.cmm_tree.specs.Tree.{Expression, Bindings}
use Rattle.cmm_tree.specs.View.{expr_view, params_view, declared_view}
use Rattle.cmm_tree.specs.declared.expr.Expr.{Expr}
use Rattle.cmm_tree.specs.declared.expr.Binding.{Binding}
use Rattle.cmm_tree.specs.declared.file.Param.{Param}
use Rattle.cmm_tree.proofs.Rows.{place_view}
use Rattle.cmm_types.specs.Annotated.{IsAnnotated}
use Rattle.cmm_types.specs.Light.{is_light_address}
use Rattle.cmm_types.specs.Lists.{AreAnnotated}
use Rattle.cmm_tree.specs.Rows.{expressions_of}
use Rattle.cmm_types.specs.Types.{Scoped, type_of, type_bound, is_mutable, is_address}
use Rattle.walk_tables.specs.Walks.{Slotted, Does, Evaluates, Enters, Binds, Uses, names, operand, operand_uses, waiting, filled_slots, all_operands, tasks_in_order, parameters_bound}
use Rattle.cmm_tree.specs.Measures.{count_of}

pub operand-is : (s : List Slotted) (free slot : ℕ) (e : Expr) (address : Bool) → address ≡ is_address e.ty → IsAnnotated (names s) e
    → Evaluates s free (expr_view e) ∷ Does (Binds slot address e.at) ∷ [] ≡ operand s free slot (expr_view e)
operand-is s free slot e address q typed =
    ap (λ a. Evaluates s free (expr_view e) ∷ Does (Binds slot a e.at) ∷ []) (q ∙ ap is_address typed.type)
    ∙ ap (λ p. Evaluates s free (expr_view e) ∷ Does (Binds slot (is_address (type_of (names s) (expr_view e))) p) ∷ []) (sym (place_view e.at e.form))

pub takes-next : (at slot next n : ℕ) → (n ≡ 0 → ⊥) → next ≡ suc slot → Does (Uses slot at) ∷ operand_uses at next (n - 1) ≡ operand_uses at slot n
takes-next at slot next zero h e = absurd (h refl)
takes-next at slot next (suc n) h e =
    ap (λ m. Does (Uses slot at) ∷ operand_uses at m (suc n - 1)) e
    ∙ ap (λ k. Does (Uses slot at) ∷ operand_uses at (suc slot) k) (let m : suc n - 1 ≡ n = omega arith in m)

pub typed-first : (ns : List Scoped) (es : List Expr) (e : Expr) (others : List Expr) → es ≡ e ∷ others → AreAnnotated ns es → IsAnnotated ns e × AreAnnotated ns others
typed-first ns es e others p t =
    let P : List Expr → Type 0 = λ l. AreAnnotated ns l in
    subst P p t

pub waiting-first : (s : List Slotted) (free slot next : ℕ) (es : List Expr) (e : Expr) (others : List Expr) → es ≡ e ∷ others → next ≡ suc slot
    → waiting s free next (expressions_of others) ++ cond (is_light_address (names s) (expr_view e)) [] (operand s free slot (expr_view e))
    ≡ waiting s free slot (expressions_of es)
waiting-first s free slot next es e others p q =
    ap (λ n. waiting s free n (expressions_of others) ++ cond (is_light_address (names s) (expr_view e)) [] (operand s free slot (expr_view e))) q
    ∙ ap (λ (l : List Expr). waiting s free slot (expressions_of l)) (sym p)

pub filled-first : (s : List Slotted) (free slot next : ℕ) (es : List Expr) (e : Expr) (others : List Expr) → es ≡ e ∷ others → next ≡ suc slot
    → filled_slots s free next (expressions_of others) ++ cond (is_light_address (names s) (expr_view e)) (operand s free slot (expr_view e)) []
    ≡ filled_slots s free slot (expressions_of es)
filled-first s free slot next es e others p q =
    ap (λ n. filled_slots s free n (expressions_of others) ++ cond (is_light_address (names s) (expr_view e)) (operand s free slot (expr_view e)) []) q
    ∙ ap (λ (l : List Expr). filled_slots s free slot (expressions_of l)) (sym p)

pub in-order-first : (s : List Slotted) (slot : ℕ) (es : List Expr) (e : Expr) (others : List Expr) → es ≡ e ∷ others
    → Evaluates s slot (expr_view e) ∷ tasks_in_order s slot (expressions_of others) ≡ tasks_in_order s slot (expressions_of es)
in-order-first s slot es e others p = ap (λ (l : List Expr). tasks_in_order s slot (expressions_of l)) (sym p)

pub parameters-first : (slot next : ℕ) (ps : List Param) (p : Param) (others : List Param) (address : Bool) (type : Ty) → ps ≡ p ∷ others → next ≡ suc slot
    → address ≡ is_address type → type ≡ type_of_comp p.comp
    → Does (Binds slot address p.at) ∷ parameters_bound next (params_view others) ≡ parameters_bound slot (params_view ps)
parameters-first slot next ps p others address type e q a t =
    ap (λ n. Does (Binds slot address p.at) ∷ parameters_bound n (params_view others)) q
    ∙ ap (λ b. Does (Binds slot b p.at) ∷ parameters_bound (suc slot) (params_view others)) (a ∙ ap is_address t)
    ∙ ap (λ (l : List Param). parameters_bound slot (params_view l)) (sym e)

pub count-is : (es : List Expr) → length es ≡ count_of (expressions_of es)
count-is [] = refl
count-is (e ∷ es) = ap suc (count-is es)

pub operands-free : (s : List Slotted) (free slot : ℕ) (es : List Expr) → free ≡ slot + length es
    → waiting s free slot (expressions_of es) ++ filled_slots s free slot (expressions_of es) ≡ all_operands s slot (expressions_of es)
operands-free s free slot es q = ap (λ n. waiting s n slot (expressions_of es) ++ filled_slots s n slot (expressions_of es)) (q ∙ ap (λ n. slot + n) (count-is es))

-- a name of a let
abbrev pub let_name : List Slotted → ℕ → Binding → Slotted
let_name s slot b =
    record {
      scoped = record {
        name = b.name;
        type = type_bound (option_map declared_view b.declared) (type_of (names s) (expr_view b.value));
        mutable = is_mutable (option_map declared_view b.declared);
      };
      slot = slot;
    }

pub let-name-is : (s : List Slotted) (slot : ℕ) (b : Binding) (type : Ty) (mutable : Bool)
    → type ≡ type_bound (option_map declared_view b.declared) b.value.ty
    → mutable ≡ is_mutable (option_map declared_view b.declared)
    → IsAnnotated (names s) b.value
    → record { scoped = record { name = b.name; type = type; mutable = mutable }; slot = slot } ∷ s ≡ let_name s slot b ∷ s
let-name-is s slot b type mutable q r typed =
    ap (λ (m : Bool). record { scoped = record { name = b.name; type = type; mutable = m }; slot = slot } ∷ s) r
    ∙ ap (λ (t : Ty). record { scoped = record { name = b.name; type = t; mutable = is_mutable (option_map declared_view b.declared) }; slot = slot } ∷ s) (q ∙ ap (λ (t : Ty). type_bound (option_map declared_view b.declared) t) typed.type)

pub entering-is : (s : List Slotted) (slot next : ℕ) (b : Binding) (rest : Bindings) (body : Expression) (address : Bool) (type : Ty)
    → type ≡ type_bound (option_map declared_view b.declared) b.value.ty
    → address ≡ is_address type
    → next ≡ suc slot
    → IsAnnotated (names s) b.value
    → Evaluates s slot (expr_view b.value) ∷ Does (Binds slot address b.at) ∷ Enters (let_name s slot b ∷ s) next rest body ∷ []
    ≡ Evaluates s slot (expr_view b.value)
    ∷ Does (Binds slot (is_address (type_bound (option_map declared_view b.declared) (type_of (names s) (expr_view b.value)))) b.at)
    ∷ Enters (let_name s slot b ∷ s) (suc slot) rest body
    ∷ []
entering-is s slot next b rest body address type q a n typed =
    ap (λ m. Evaluates s slot (expr_view b.value) ∷ Does (Binds slot address b.at) ∷ Enters (let_name s slot b ∷ s) m rest body ∷ []) n
    ∙ ap (λ (x : Bool). Evaluates s slot (expr_view b.value) ∷ Does (Binds slot x b.at) ∷ Enters (let_name s slot b ∷ s) (suc slot) rest body ∷ []) (a ∙ ap is_address (q ∙ ap (λ (t : Ty). type_bound (option_map declared_view b.declared) t) typed.type))
