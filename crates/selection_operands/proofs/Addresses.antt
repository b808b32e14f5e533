-- The base and the offset of an address.
use Rattle.std.proofs.Common.{◌≡◌, ℕ, Bool, true, false, cond, List, Option, Some, None, refl, ap, sym, ◌∙◌, subst, arith}
use Rattle.bs_words.specs.declared.operators.IntOp.{IntOp}
use Rattle.cmm_tree.specs.Tree.{Expression, Integer, Operator}
use Rattle.cmm_types.specs.Types.{type_of}
use Rattle.mach_ir.specs.declared.mach.Instr.{Instr}
use Rattle.selection_rules.specs.Select.{NamedRegister, Label, Code, scopes, fresh_register, base_of, offset_of, is_based, select, select_base}
use Rattle.selection_code.specs.Shapes.{integer_of}
use Rattle.selection_code.proofs.Integers.{told}
use Rattle.selection_scope.specs.Room.{HasExpressionRoom}

pub base_told : (at : ℕ) (op : IntOp) (base e : Expression) → base_of (Operator at op base e) ≡ told (Operator at op base e) (λ w. cond (is_based op w) base (Operator at op base e)) (integer_of e)
base_told at' op base (Integer at w) = refl
base_told at' op base e = refl

pub offset_told : (at : ℕ) (op : IntOp) (base e : Expression) → offset_of (Operator at op base e) ≡ told 0 (λ w. cond (is_based op w) w 0) (integer_of e)
offset_told at' op base (Integer at w) = refl
offset_told at' op base e = refl

-- an address that is selected whole, where it is no sum with a short constant
pub selected_told : (env : List NamedRegister) (labels : List Label) (t b : ℕ) (at : ℕ) (op : IntOp) (base e : Expression) (whole : Code) (next : List Instr) → select_base env labels t b (Operator at op base e) whole next ≡ told (whole next) (λ w. cond (is_based op w) (select env labels false false (fresh_register t (type_of (scopes env) base)) b base next) (whole next)) (integer_of e)
selected_told env labels t b at' op base (Integer at w) whole next = refl
selected_told env labels t b at' op base e whole next = refl

abbrev At : List NamedRegister → List Label → ℕ → ℕ → Expression → List Instr → List Instr
At env labels t b e next = select env labels false false (fresh_register t (type_of (scopes env) e)) b e next

by_test : (env : List NamedRegister) (labels : List Label) (t b : ℕ) (whole base : Expression) (next : List Instr) (based : Bool)
    → cond based (At env labels t b base next) (At env labels t b whole next) ≡ At env labels t b (cond based base whole) next
by_test env labels t b whole base next true = refl
by_test env labels t b whole base next false = refl

by_word : (env : List NamedRegister) (labels : List Label) (t b : ℕ) (whole base : Expression) (op : IntOp) (next : List Instr) (word : Option ℕ)
    → told (At env labels t b whole next) (λ w. cond (is_based op w) (At env labels t b base next) (At env labels t b whole next)) word
    ≡ At env labels t b (told whole (λ w. cond (is_based op w) base whole) word) next
by_word env labels t b whole base op next None = refl
by_word env labels t b whole base op next (Some w) = by_test env labels t b whole base next (is_based op w)

by_sum : (env : List NamedRegister) (labels : List Label) (t b at : ℕ) (op : IntOp) (base e : Expression) (next : List Instr)
    → select_base env labels t b (Operator at op base e) (At env labels t b (Operator at op base e)) next
    ≡ At env labels t b (base_of (Operator at op base e)) next
by_sum env labels t b at op base e next =
    selected_told env labels t b at op base e (At env labels t b (Operator at op base e)) next
    ∙ by_word env labels t b (Operator at op base e) base op next (integer_of e)
    ∙ ap (λ x. At env labels t b x next) (sym (base_told at op base e))

-- whichever base it is, its code goes before what follows
pub based : (env : List NamedRegister) (labels : List Label) (t b : ℕ) (e : Expression) (next : List Instr)
    → select_base env labels t b e (select env labels false false (fresh_register t (type_of (scopes env) e)) b e) next
    ≡ select env labels false false (fresh_register t (type_of (scopes env) (base_of e))) b (base_of e) next
based env labels t b (Operator at op base e) next = by_sum env labels t b at op base e next
based env labels t b e next = refl

-- ---- room

room_by_test : (b at : ℕ) (op : IntOp) (base e : Expression) (based : Bool) → HasExpressionRoom b (Operator at op base e) → HasExpressionRoom b (cond based base (Operator at op base e))
room_by_test b at op base e true room = omega (arith, room)
room_by_test b at op base e false room = room

room_by_word : (b at : ℕ) (op : IntOp) (base e : Expression) (word : Option ℕ) → HasExpressionRoom b (Operator at op base e)
    → HasExpressionRoom b (told (Operator at op base e) (λ w. cond (is_based op w) base (Operator at op base e)) word)
room_by_word b at op base e None room = room
room_by_word b at op base e (Some w) room = room_by_test b at op base e (is_based op w) room

-- where an address has room, its base has
pub base_room : (b : ℕ) (e : Expression) → HasExpressionRoom b e → HasExpressionRoom b (base_of e)
base_room b (Operator at op base e) room = subst (HasExpressionRoom b) (sym (base_told at op base e)) (room_by_word b at op base e (integer_of e) room)
base_room b e room = room
