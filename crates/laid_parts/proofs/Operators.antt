-- The registers that the parts of lines name, but for the reserved ones.
use Rattle.std.proofs.Common.{◌≡◌, ℕ, ◌-◌, ◌%◌, Bool, true, false, cond, nat_eq, not, ◌||◌, List, [], ◌∷◌, ◌++◌, refl, ◌∙◌, ap}
use Rattle.std.proofs.Math.Bool.{and-false, or-false, or_self}
use Rattle.bs_words.specs.declared.operators.CmpOp.{CmpOp}
use Rattle.bs_words.specs.declared.operators.CmpOp.TheVariants as compare
use Rattle.bs_words.specs.declared.operators.IntOp.{IntOp}
use Rattle.bs_words.specs.declared.operators.IntOp.TheVariants as operator
use Rattle.bs_words.specs.declared.types.Loc.{Loc}
use Rattle.bs_words.specs.declared.types.Loc.TheVariants as loc
use Rattle.lin_ir.specs.Meaning.{same_loc}
use Rattle.rv_isa.specs.Registers.{register_number, register_at}
use Rattle.rv_isa.specs.declared.instr.AluImmOp.{AluImmOp}
use Rattle.rv_isa.specs.declared.instr.AluImmOp.TheVariants as imm
use Rattle.rv_isa.specs.declared.instr.AluOp.{AluOp}
use Rattle.rv_isa.specs.declared.instr.AluOp.TheVariants as alu
use Rattle.rv_isa.specs.declared.instr.LoadWidth.{LoadWidth}
use Rattle.rv_isa.specs.declared.instr.ShiftOp.TheVariants as shifts
use Rattle.rv_isa.specs.declared.instr.StoreWidth.{StoreWidth}
use Rattle.rv_isa.specs.declared.register.Register.{Register}
use Rattle.rv_isa.specs.declared.register.Register.TheVariants.{Zero, T1, T2}
use Rattle.rv_pieces.specs.declared.piece.Piece.{Piece}
use Rattle.rv_emit_rules.specs.Instructions.{with_immediate, alu_operation, load_piece, store_piece}
use Rattle.rv_emit_rules.specs.Constants.{constant_pieces}
use Rattle.rv_emit_rules.specs.Operators.{is_some, compared, operated, compared_with, operated_with}
use Rattle.rv_emit_rules.specs.Slots.{register_of, target, copy_pieces, slot_offset}
use Rattle.laid_parts.proofs.Registers.{not_both, or_turned, Names, same, joined, then_none, nothing, hits, IsApart, with_immediate-names, addi-names, operation-names, shift-names, load-names, store-names, constant-none, stack_load-names, stack_store-names, kept-names, last_none, first_none}

-- a location that a line may name: its register has its number
pub data IsNumbered : Loc → Type 0 where
  numbered : {r : ℕ} → register_number (register_at r) ≡ r → IsNumbered (loc.Machine r)
  in_slot : {k : ℕ} → IsNumbered (loc.Slot k)

module _ (n : ℕ) (apart : IsApart n) where
  pub at_place : (scratch : Register) (l : Loc) → hits n scratch ≡ false → IsNumbered l → hits n (register_of scratch l) ≡ same_loc l (loc.Machine n)
  at_place scratch (loc.Machine r) e (numbered same_number) = ap (λ (z : ℕ). nat_eq z n) same_number
  at_place scratch (loc.Slot k) e in_slot = e
  at_place scratch loc.Unset e h = elim h [ ]

  -- ---- operators

  -- what changes the target again
  again : (to : Register) {xs ys : List Piece} {R : Bool} → Names n xs R (hits n to) → Names n ys (hits n to) (hits n to) → Names n (xs ++ ys) R (hits n to)
  again to {xs} {ys} {R} x y = same (joined x y) (ap (λ (z : Bool). R || z) (not_both (hits n to)) ∙ or-false R) (or_self (hits n to))

  is_some-names : (to : Register) → Names n (is_some to ∷ []) (hits n to) (hits n to)
  is_some-names to = same (operation-names n apart alu.Sltu to Zero to) (first_none n apart (hits n Zero) (hits n to) apart.zero) refl

  compared-names : (less : AluOp) (f : CmpOp) (to a b : Register) → Names n (compared less f to a b) (hits n a || hits n b) (hits n to)
  compared-names less compare.Eq to a b =
      again to {xs = alu_operation alu.Xor to a b ∷ []} (operation-names n apart alu.Xor to a b) (with_immediate-names n apart imm.Sltiu to to 1)
  compared-names less compare.Ne to a b = again to {xs = alu_operation alu.Xor to a b ∷ []} (operation-names n apart alu.Xor to a b) (is_some-names to)
  compared-names less compare.Lt to a b = operation-names n apart less to a b
  compared-names less compare.Ge to a b =
      again to {xs = alu_operation less to a b ∷ []} (operation-names n apart less to a b) (with_immediate-names n apart imm.Xori to to 1)
  compared-names less compare.Gt to a b = same (operation-names n apart less to b a) (or_turned (hits n b) (hits n a)) refl
  compared-names less compare.Le to a b =
      again to {xs = alu_operation less to b a ∷ []} (same (operation-names n apart less to b a) (or_turned (hits n b) (hits n a)) refl)
      (with_immediate-names n apart imm.Xori to to 1)

  pub operated-names : (f : IntOp) (to a b : Register) → Names n (operated f to a b) (hits n a || hits n b) (hits n to)
  operated-names operator.Add to a b = operation-names n apart alu.Add to a b
  operated-names operator.AddV to a b = operation-names n apart alu.Add to a b
  operated-names operator.AddA to a b = operation-names n apart alu.Add to a b
  operated-names operator.Sub to a b = operation-names n apart alu.Sub to a b
  operated-names operator.Mul to a b = operation-names n apart alu.Mul to a b
  operated-names operator.Mulh to a b = operation-names n apart alu.Mulh to a b
  operated-names operator.Div to a b = operation-names n apart alu.Div to a b
  operated-names operator.Mod to a b = operation-names n apart alu.Rem to a b
  operated-names operator.And to a b = operation-names n apart alu.And to a b
  operated-names operator.Or to a b = operation-names n apart alu.Or to a b
  operated-names operator.Xor to a b = operation-names n apart alu.Xor to a b
  operated-names operator.Shl to a b = operation-names n apart alu.Sll to a b
  operated-names operator.Shr to a b = operation-names n apart alu.Srl to a b
  operated-names operator.Sar to a b = operation-names n apart alu.Sra to a b
  operated-names (operator.Cmp f) to a b = compared-names alu.Slt f to a b
  operated-names (operator.CmpU f) to a b = compared-names alu.Sltu f to a b

  -- with a constant in t2
  far-names : (to a : Register) (w : ℕ) {ys : List Piece} → Names n ys (hits n a || hits n T2) (hits n to) →
      Names n (constant_pieces T2 w ++ ys) (hits n a) (hits n to)
  far-names to a w y = joined (constant-none n apart T2 w apart.t2) (same y (last_none n apart (hits n a) (hits n T2) apart.t2) refl)

  compared_with-names : (less : AluImmOp) (far : AluOp) (f : CmpOp) (to a : Register) (w : ℕ) →
      Names n (compared_with less far f to a w) (hits n a) (hits n to)
  compared_with-names less far compare.Eq to a w =
      again to {xs = with_immediate imm.Xori to a w ∷ []} (with_immediate-names n apart imm.Xori to a w) (with_immediate-names n apart imm.Sltiu to to 1)
  compared_with-names less far compare.Ne to a w =
      again to {xs = with_immediate imm.Xori to a w ∷ []} (with_immediate-names n apart imm.Xori to a w) (is_some-names to)
  compared_with-names less far compare.Lt to a w = with_immediate-names n apart less to a w
  compared_with-names less far compare.Ge to a w =
      again to {xs = with_immediate less to a w ∷ []} (with_immediate-names n apart less to a w) (with_immediate-names n apart imm.Xori to to 1)
  compared_with-names less far compare.Gt to a w = far-names to a w (compared-names far compare.Gt to a T2)
  compared_with-names less far compare.Le to a w = far-names to a w (compared-names far compare.Le to a T2)

  pub operated_with-names : (f : IntOp) (to a : Register) (w : ℕ) → Names n (operated_with f to a w) (hits n a) (hits n to)
  operated_with-names operator.Add to a w = addi-names n apart to a w
  operated_with-names operator.AddV to a w = addi-names n apart to a w
  operated_with-names operator.AddA to a w = addi-names n apart to a w
  operated_with-names operator.Sub to a w = addi-names n apart to a (4096 - w % 4096)
  operated_with-names operator.And to a w = with_immediate-names n apart imm.Andi to a w
  operated_with-names operator.Or to a w = with_immediate-names n apart imm.Ori to a w
  operated_with-names operator.Xor to a w = with_immediate-names n apart imm.Xori to a w
  operated_with-names operator.Shl to a w = shift-names n apart shifts.Slli to a w
  operated_with-names operator.Shr to a w = shift-names n apart shifts.Srli to a w
  operated_with-names operator.Sar to a w = shift-names n apart shifts.Srai to a w
  operated_with-names operator.Mul to a w = far-names to a w (operated-names operator.Mul to a T2)
  operated_with-names operator.Mulh to a w = far-names to a w (operated-names operator.Mulh to a T2)
  operated_with-names operator.Div to a w = far-names to a w (operated-names operator.Div to a T2)
  operated_with-names operator.Mod to a w = far-names to a w (operated-names operator.Mod to a T2)
  operated_with-names (operator.Cmp f) to a w = compared_with-names imm.Slti alu.Slt f to a w
  operated_with-names (operator.CmpU f) to a w = compared_with-names imm.Sltiu alu.Sltu f to a w

  -- ---- copies

  pub copied-names : (t : ℕ) (from to : Loc) → IsNumbered from → IsNumbered to →
      Names n (copy_pieces t from to) (same_loc from (loc.Machine n)) (same_loc to (loc.Machine n))
  copied-names t (loc.Slot j) to a b =
      then_none (same (stack_load-names n apart T2 (target to) (slot_offset t j) apart.t2) refl (at_place T1 to apart.t1 b)) (kept-names n apart t to)
  copied-names t (loc.Machine r) (loc.Slot k) (numbered e) b =
      same (stack_store-names n apart T2 (register_at r) (slot_offset t k) apart.t2) (ap (λ (z : ℕ). nat_eq z n) e) refl
  copied-names t (loc.Machine r) (loc.Machine o) (numbered e) (numbered f) =
      same (addi-names n apart (register_at o) (register_at r) 0) (ap (λ (z : ℕ). nat_eq z n) e) (ap (λ (z : ℕ). nat_eq z n) f)
  copied-names t (loc.Machine r) loc.Unset a b = elim b [ ]
  copied-names t loc.Unset to a b = elim a [ ]

  -- ---- memory

  -- through the address, or through t1 where the offset is added first
  pub load_from-names : (b : Bool) (k : LoadWidth) (base to : Register) (w x : ℕ) →
      Names n (cond b [] (constant_pieces T2 w ++ alu_operation alu.Add T1 base T2 ∷ []) ++ load_piece k to (cond b base T1) x ∷ []) (hits n base) (hits n to)
  load_from-names true k base to w x = load-names n apart k to base x
  load_from-names false k base to w x =
      same (joined (far-names T1 base w (operation-names n apart alu.Add T1 base T2)) (same (load-names n apart k to T1 x) apart.t1 refl))
      (ap (λ (z : Bool). hits n base || z) (and-false (not (hits n T1))) ∙ or-false (hits n base))
      (first_none n apart (hits n T1) (hits n to) apart.t1)

  pub store_to-names : (b : Bool) (k : StoreWidth) (base from : Register) (w x : ℕ) {xs ys : List Piece} → Names n xs false false →
      Names n ys false false →
      Names n (xs ++ cond b [] (constant_pieces T2 w ++ alu_operation alu.Add T1 base T2 ∷ []) ++ ys ++ store_piece k from (cond b base T1) x ∷ [])
      (hits n base || hits n from) false
  store_to-names true k base from w x v y = joined (joined (joined v nothing) y) (store-names n apart k from base x)
  store_to-names false k base from w x v y =
      joined (then_none (joined v (same (far-names T1 base w (operation-names n apart alu.Add T1 base T2)) refl apart.t1)) y)
      (same (store-names n apart k from T1 x) (first_none n apart (hits n T1) (hits n from) apart.t1) refl)
