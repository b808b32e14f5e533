-- The registers that the parts of lines name, by their first and second operands.
use Rattle.std.proofs.Common.{◌≡◌, ℕ, ◌+◌, ◌*◌, ◌/◌, Bool, true, false, cond, nat_eq, nat_le, not, ◌||◌, List, [], ◌∷◌, ◌++◌, length, map, refl, ◌∙◌, ap, Option, Some, None}
use Rattle.std.proofs.Math.Bool.{and-false, or-false}
use Rattle.bs_words.specs.Fits.{data_start}
use Rattle.bs_words.specs.declared.operators.CmpOp.{CmpOp}
use Rattle.bs_words.specs.declared.operators.CmpOp.TheVariants as compare
use Rattle.bs_words.specs.declared.operators.IntOp.{IntOp}
use Rattle.bs_words.specs.declared.types.Loc.{Loc}
use Rattle.bs_words.specs.declared.types.Loc.TheVariants as loc
use Rattle.mach_ir.specs.Blocks.{total_block_bytes}
use Rattle.mach_ir.specs.Forms.{is_immediate_12}
use Rattle.mach_ir.specs.declared.blocks.NewBlock.{NewBlock}
use Rattle.mach_ir.specs.declared.mach.Test.{Test}
use Rattle.mach_ir.specs.declared.mach.Test.TheVariants as test
use Rattle.mach_ir.specs.declared.op.Right.{Right}
use Rattle.mach_ir.specs.declared.op.Right.TheVariants as right
use Rattle.lin_ir.specs.Formed.{places_of}
use Rattle.lin_ir.specs.Meaning.{same_loc, is_named_location}
use Rattle.lin_ir.specs.declared.lin.Spot.{Spot}
use Rattle.rv_isa.specs.declared.instr.AluOp.TheVariants as alu
use Rattle.rv_isa.specs.declared.instr.Condition.{Condition}
use Rattle.rv_isa.specs.declared.instr.Condition.TheVariants as condition
use Rattle.rv_isa.specs.declared.instr.LoadWidth.TheVariants as loads
use Rattle.rv_isa.specs.declared.instr.ShiftOp.TheVariants as shifts
use Rattle.rv_isa.specs.declared.instr.StoreWidth.TheVariants as stores
use Rattle.rv_isa.specs.declared.register.Register.{Register}
use Rattle.rv_isa.specs.declared.register.Register.TheVariants.{Zero, Ra, Sp, T0, T1, T2, S1, S10, S11, A0}
use Rattle.rv_pieces.specs.declared.piece.Piece.TheVariants as piece
use Rattle.rv_emit_rules.specs.Instructions.{addi, alu_operation, shift_piece, load_piece, store_piece, skip, ecall}
use Rattle.rv_isa.specs.Registers.{register_at}
use Rattle.rv_emit_rules.specs.Constants.{constant_pieces}
use Rattle.rv_emit_rules.specs.Memory.{ask, reserved, addresses, allocation_service}
use Rattle.rv_emit_rules.specs.Slots.{register_of, target, fetch_pieces, keep_pieces, slot_offset}
use Rattle.rv_emit_rules.specs.Tests.{signed_branch, unsigned_branch, constant_words, tests_in_turn, table_of_jumps, value_words}
use Rattle.laid_parts.proofs.Registers.{or_turned, Names, same, joined, then_none, either, nothing, alone, hits, IsApart, addi-names, operation-names, shift-names, load-names, store-names, constant-names, constant-none, sum_to-names, lowered-names, stack_load-names, fetched-names, kept-names, first_none}
use Rattle.mach_ir.specs.declared.op.Callee.TheVariants as callee
use Rattle.mach_ir.specs.declared.op.External.{External}
use Rattle.lin_ir.specs.declared.descr.Descr.{Descr}
use Rattle.rv_emit_rules.specs.Instructions.{mv, lui, goes_to_address, calls_at, auipc}
use Rattle.rv_emit_rules.specs.Slots.{first_location, second}
use Rattle.rv_emit_rules.specs.Emitted.{operator_part}
use Rattle.rv_emit_rules.specs.Memory.{load_width, store_width, load_part, store_part, alloc_part, address_offset}
use Rattle.rv_emit_rules.specs.Tests.{right_register, right_words, branch_part, switch_part}
use Rattle.rv_emit_rules.specs.Traps.{raise_words, push_part, pop_part, raise_bound_error, check_part}
use Rattle.rv_emit_rules.specs.Entry.{FrameLayout, frame_release, return_offset}
use Rattle.rv_emit_rules.specs.Calls.{mark_of, call_words, tail_call_part, external_service, external_words, return_part}
use Rattle.laid_parts.proofs.Operators.{IsNumbered, numbered, at_place, operated-names, operated_with-names, load_from-names, store_to-names}

module _ (n : ℕ) (apart : IsApart n) (t : ℕ) where
  -- the location is this register
  abbrev pub is_at : Loc → Bool
  is_at l = same_loc l (loc.Machine n)

  -- ---- operators

  pub operator_register-names : (f : IntOp) (args results : List Spot) → IsNumbered (first_location args) → IsNumbered (second args) → IsNumbered (first_location results) →
      Names n (operator_part t f right.Register args results) (is_at (first_location args) || is_at (second args)) (is_at (first_location results))
  operator_register-names f args results a b c =
      then_none
      (joined (joined (fetched-names n apart t T1 (first_location args) apart.t1) (fetched-names n apart t T2 (second args) apart.t2))
      (same (operated-names n apart f (target (first_location results)) (register_of T1 (first_location args)) (register_of T2 (second args)))
      (ap (λ (z : Bool). z || hits n (register_of T2 (second args))) (at_place n apart T1 (first_location args) apart.t1 a)
      ∙ ap (λ (z : Bool). is_at (first_location args) || z) (at_place n apart T2 (second args) apart.t2 b))
      (at_place n apart T1 (first_location results) apart.t1 c)))
      (kept-names n apart t (first_location results))

  pub operator_constant-names : (f : IntOp) (w : ℕ) (args results : List Spot) → IsNumbered (first_location args) → IsNumbered (first_location results) →
      Names n (operator_part t f (right.Constant w) args results) (is_at (first_location args)) (is_at (first_location results))
  operator_constant-names f w args results a c =
      then_none
      (joined (fetched-names n apart t T1 (first_location args) apart.t1)
      (same (operated_with-names n apart f (target (first_location results)) (register_of T1 (first_location args)) w)
      (at_place n apart T1 (first_location args) apart.t1 a) (at_place n apart T1 (first_location results) apart.t1 c)))
      (kept-names n apart t (first_location results))

  pub constant_line-names : (w : ℕ) (results : List Spot) → IsNumbered (first_location results) →
      Names n (constant_pieces (target (first_location results)) w ++ keep_pieces t (first_location results)) false (is_at (first_location results))
  constant_line-names w results c =
      then_none (same (constant-names n apart (target (first_location results)) w) refl (at_place n apart T1 (first_location results) apart.t1 c))
      (kept-names n apart t (first_location results))

  pub symbol_line-names : (name : List ℕ) (results : List Spot) → IsNumbered (first_location results) →
      Names n (piece.SymbolAddress (target (first_location results)) name ∷ keep_pieces t (first_location results)) false (is_at (first_location results))
  symbol_line-names name results c =
      then_none {xs = piece.SymbolAddress (target (first_location results)) name ∷ []}
      (same (alone n (piece.SymbolAddress (target (first_location results)) name)) refl
      (or-false (hits n (target (first_location results))) ∙ at_place n apart T1 (first_location results) apart.t1 c))
      (kept-names n apart t (first_location results))

  -- ---- memory

  pub load_line-names : (k : _) (w : ℕ) (args results : List Spot) → IsNumbered (first_location args) → IsNumbered (first_location results) →
      Names n (load_part t k w args results) (is_at (first_location args)) (is_at (first_location results))
  load_line-names k w args results a c =
      then_none
      (joined (fetched-names n apart t T1 (first_location args) apart.t1)
      (same (load_from-names n apart (is_immediate_12 w) (load_width k) (register_of T1 (first_location args)) (target (first_location results)) w (address_offset w))
      (at_place n apart T1 (first_location args) apart.t1 a) (at_place n apart T1 (first_location results) apart.t1 c)))
      (kept-names n apart t (first_location results))

  reserved-names : (bytes : ℕ) → Names n (reserved bytes) false false
  reserved-names bytes =
      joined (same (lowered-names n apart T1 S10 bytes apart.t1) apart.s10 apart.s10)
      (joined {xs = load_piece loads.Ld T1 S11 0 ∷ []} (same (load-names n apart loads.Ld T1 S11 0) apart.s11 apart.t1)
      (joined {xs = skip condition.Bgeu S10 T1 (4 * (1 + length (ask bytes))) ∷ []}
      (same (alone n (skip condition.Bgeu S10 T1 (4 * (1 + length (ask bytes)))))
      (first_none n apart (hits n S10) (hits n T1 || false) apart.s10 ∙ (or-false (hits n T1) ∙ apart.t1)) refl)
      (joined (joined (constant-none n apart T0 bytes apart.t0) (constant-none n apart T2 allocation_service apart.t2)) (alone n ecall))))

  mark-names : (d : Option Descr) → Names n (mark_of d) false false
  mark-names (Some d) = alone n (piece.Descriptor d)
  mark-names None = nothing

  pub data AreNumbered : List Spot → Type 0 where
    none_numbered : AreNumbered []
    more_numbered : {s : Spot} {ss : List Spot} → IsNumbered s.loc → AreNumbered ss → AreNumbered (s ∷ ss)

  addresses-names : (blocks : List NewBlock) (results : List Spot) → length results ≡ length blocks → AreNumbered results →
      Names n (addresses t blocks results) false (is_named_location (loc.Machine n) (places_of results))
  addresses-names [] [] e h = nothing
  addresses-names (b ∷ bs) [] e h = absurd (cc)
  addresses-names [] (s ∷ ss) e h = absurd (cc)
  addresses-names (b ∷ bs) (s ∷ ss) e (more_numbered a h) =
      let one = then_none
      (same (sum_to-names n apart T1 (target s.loc) S10 (total_block_bytes bs + 8) apart.t1) apart.s10 (at_place n apart T1 s.loc apart.t1 a))
      (kept-names n apart t s.loc) in
      let k : length ss ≡ length bs = cc in
      let g = joined (addresses-names bs ss k h) (same (sum_to-names n apart T1 (target s.loc) S10 (total_block_bytes bs + 8) apart.t1) apart.s10
      (at_place n apart T1 s.loc apart.t1 a)) in
      then_none (same g (and-false (not (is_named_location (loc.Machine n) (places_of ss))))
      (or_turned (is_named_location (loc.Machine n) (places_of ss)) (is_at s.loc))) (kept-names n apart t s.loc)

  pub alloc_line-names : (d : Option Descr) (blocks : List NewBlock) (results : List Spot) → length results ≡ length blocks → AreNumbered results →
      Names n (alloc_part t (mark_of d) blocks results) false (is_named_location (loc.Machine n) (places_of results))
  alloc_line-names d blocks results e h = joined (joined (reserved-names (total_block_bytes blocks)) (mark-names d)) (addresses-names blocks results e h)

  pub store_line-names : (k : _) (w : ℕ) (args : List Spot) → IsNumbered (first_location args) → IsNumbered (second args) →
      Names n (store_part t k w args) (is_at (first_location args) || is_at (second args)) false
  store_line-names k w args a b =
      same
      (store_to-names n apart (is_immediate_12 w) (store_width k) (register_of T1 (first_location args)) (register_of T2 (second args)) w (address_offset w)
      (fetched-names n apart t T1 (first_location args) apart.t1) (fetched-names n apart t T2 (second args) apart.t2))
      (ap (λ (z : Bool). z || hits n (register_of T2 (second args))) (at_place n apart T1 (first_location args) apart.t1 a)
      ∙ ap (λ (z : Bool). is_at (first_location args) || z) (at_place n apart T2 (second args) apart.t2 b))
      refl

  -- ---- tests

  constant_words-names : (w : ℕ) → Names n (constant_words w) false false
  constant_words-names w = either (nat_eq w 0) nothing (constant-none n apart T2 w apart.t2)

  chosen_none : (b : Bool) → hits n (cond b Zero T2) ≡ false
  chosen_none true = apart.zero
  chosen_none false = apart.t2

  branch-names : (c : Condition) (a b : Register) (l : ℕ) → Names n (piece.Branch c a b l ∷ []) (hits n a || hits n b) false
  branch-names c a b l = same (alone n (piece.Branch c a b l)) (ap (λ (z : Bool). hits n a || z) (or-false (hits n b))) refl

  turned-names : (c : Condition) (a b : Register) (l : ℕ) → Names n (piece.Branch c b a l ∷ []) (hits n a || hits n b) false
  turned-names c a b l = same (branch-names c b a l) (or_turned (hits n b) (hits n a)) refl

  signed-names : (f : CmpOp) (a b : Register) (l : ℕ) → Names n (signed_branch f a b l ∷ []) (hits n a || hits n b) false
  signed-names compare.Eq a b l = branch-names condition.Beq a b l
  signed-names compare.Ne a b l = branch-names condition.Bne a b l
  signed-names compare.Lt a b l = branch-names condition.Blt a b l
  signed-names compare.Le a b l = turned-names condition.Bge a b l
  signed-names compare.Gt a b l = turned-names condition.Blt a b l
  signed-names compare.Ge a b l = branch-names condition.Bge a b l

  unsigned-names : (f : CmpOp) (a b : Register) (l : ℕ) → Names n (unsigned_branch f a b l ∷ []) (hits n a || hits n b) false
  unsigned-names compare.Eq a b l = branch-names condition.Beq a b l
  unsigned-names compare.Ne a b l = branch-names condition.Bne a b l
  unsigned-names compare.Lt a b l = branch-names condition.Bltu a b l
  unsigned-names compare.Le a b l = turned-names condition.Bgeu a b l
  unsigned-names compare.Gt a b l = turned-names condition.Bltu a b l
  unsigned-names compare.Ge a b l = branch-names condition.Bgeu a b l

  -- the locations of the right operand
  abbrev pub right_at : Right → List Spot → Bool
  right_at right.Register args = is_at (second args)
  right_at (right.Constant w) args = false

  pub data RightNumbered : Right → List Spot → Type 0 where
    by_register : {args : List Spot} → IsNumbered (second args) → RightNumbered right.Register args
    by_constant : {w : ℕ} {args : List Spot} → RightNumbered (right.Constant w) args

  right-at : (r : Right) (args : List Spot) → RightNumbered r args → hits n (right_register r args) ≡ right_at r args
  right-at right.Register args (by_register b) = at_place n apart T2 (second args) apart.t2 b
  right-at (right.Constant w) args h = chosen_none (nat_eq w 0)

  right_words-names : (r : Right) (args : List Spot) → Names n (right_words t r args) false false
  right_words-names right.Register args = fetched-names n apart t T2 (second args) apart.t2
  right_words-names (right.Constant w) args = constant_words-names w

  two_at : (r : Right) (args : List Spot) → IsNumbered (first_location args) → RightNumbered r args →
      (hits n (register_of T1 (first_location args)) || hits n (right_register r args)) ≡ (is_at (first_location args) || right_at r args)
  two_at r args a h =
      ap (λ (z : Bool). z || hits n (right_register r args)) (at_place n apart T1 (first_location args) apart.t1 a)
      ∙ ap (λ (z : Bool). is_at (first_location args) || z) (right-at r args h)

  abbrev pub test_at : Test → List Spot → Bool
  test_at test.Holds args = false
  test_at test.Fails args = false
  test_at (test.Signed f r) args = right_at r args
  test_at (test.Unsigned f r) args = right_at r args

  pub data TestNumbered : Test → List Spot → Type 0 where
    alone_holds : {args : List Spot} → TestNumbered test.Holds args
    alone_fails : {args : List Spot} → TestNumbered test.Fails args
    with_signed : {f : CmpOp} {r : Right} {args : List Spot} → RightNumbered r args → TestNumbered (test.Signed f r) args
    with_unsigned : {f : CmpOp} {r : Right} {args : List Spot} → RightNumbered r args → TestNumbered (test.Unsigned f r) args

  with_zero : (args : List Spot) → IsNumbered (first_location args) → (hits n (register_of T1 (first_location args)) || hits n Zero) ≡ (is_at (first_location args) || false)
  with_zero args a =
      ap (λ (z : Bool). z || hits n Zero) (at_place n apart T1 (first_location args) apart.t1 a) ∙ ap (λ (z : Bool). is_at (first_location args) || z) apart.zero

  pub branch_line-names : (f : Test) (l : ℕ) (args : List Spot) → IsNumbered (first_location args) → TestNumbered f args →
      Names n (branch_part t f l args) (is_at (first_location args) || test_at f args) false
  branch_line-names test.Holds l args a h =
      joined (joined (fetched-names n apart t T1 (first_location args) apart.t1) nothing)
      (same (branch-names condition.Bne (register_of T1 (first_location args)) Zero l) (with_zero args a) refl)
  branch_line-names test.Fails l args a h =
      joined (joined (fetched-names n apart t T1 (first_location args) apart.t1) nothing)
      (same (branch-names condition.Beq (register_of T1 (first_location args)) Zero l) (with_zero args a) refl)
  branch_line-names (test.Signed f r) l args a (with_signed h) =
      joined (joined (fetched-names n apart t T1 (first_location args) apart.t1) (right_words-names r args))
      (same (signed-names f (register_of T1 (first_location args)) (right_register r args) l) (two_at r args a h) refl)
  branch_line-names (test.Unsigned f r) l args a (with_unsigned h) =
      joined (joined (fetched-names n apart t T1 (first_location args) apart.t1) (right_words-names r args))
      (same (unsigned-names f (register_of T1 (first_location args)) (right_register r args) l) (two_at r args a h) refl)

  -- ---- switches

  pub value_words-names : (l : Loc) → IsNumbered l → Names n (value_words t l) (is_at l) false
  value_words-names (loc.Slot k) a = same (stack_load-names n apart T1 T1 (slot_offset t k) apart.t1) refl apart.t1
  value_words-names (loc.Machine r) (numbered e) = same (addi-names n apart T1 (register_at r) 0) (ap (λ (z : ℕ). nat_eq z n) e) apart.t1
  value_words-names loc.Unset a = elim a [ ]

  turn-names : (ls : List ℕ) → Names n (tests_in_turn ls) false false
  turn-names [] = nothing
  turn-names (l ∷ []) = alone n (piece.Jump l)
  turn-names (l ∷ k ∷ ls) =
      joined {xs = piece.Branch condition.Beq T1 Zero l ∷ []}
      (same (branch-names condition.Beq T1 Zero l) (first_none n apart (hits n T1) (hits n Zero) apart.t1 ∙ apart.zero) refl)
      (joined {xs = addi T1 T1 0xFFFFFFFFFFFFFFFF ∷ []} (same (addi-names n apart T1 T1 0xFFFFFFFFFFFFFFFF) apart.t1 apart.t1) (turn-names (k ∷ ls)))

  rows-names : (ls : List ℕ) → Names n (map piece.Row ls) false false
  rows-names [] = nothing
  rows-names (l ∷ ls) = joined {xs = piece.Row l ∷ []} (alone n (piece.Row l)) (rows-names ls)

  goes_to-names : (r : Register) (w : ℕ) → Names n (goes_to_address r w ∷ []) (hits n r) false
  goes_to-names r w = same (alone n (goes_to_address r w)) (or-false (hits n r)) (or-false (hits n Zero) ∙ apart.zero)

  table-names : (ls : List ℕ) → Names n (table_of_jumps ls) false false
  table-names ls =
      joined {xs = shift_piece shifts.Slli T1 T1 3 ∷ []} (same (shift-names n apart shifts.Slli T1 T1 3) apart.t1 apart.t1)
      (joined {xs = auipc T2 ∷ []} (same (alone n (auipc T2)) refl (or-false (hits n T2) ∙ apart.t2))
      (joined {xs = alu_operation alu.Add T2 T2 T1 ∷ []}
      (same (operation-names n apart alu.Add T2 T2 T1) (first_none n apart (hits n T2) (hits n T1) apart.t2 ∙ apart.t1) apart.t2)
      (joined {xs = goes_to_address T2 12 ∷ []} (same (goes_to-names T2 12) apart.t2 refl) (rows-names ls))))

  pub switch_line-names : (ls : List ℕ) (args : List Spot) → IsNumbered (first_location args) → Names n (switch_part t ls args) (is_at (first_location args)) false
  switch_line-names ls args a =
      then_none (value_words-names (first_location args) a) (either (nat_le (length ls) 4) (turn-names ls) (table-names ls))

  -- ---- calls

  pub call_line-names : (whom : List ℕ) (d : Option Descr) (args : List Spot) → Names n (call_words t (callee.Symbol whom) args ++ mark_of d) false false
  call_line-names name d args = joined (same (alone n (piece.Call name)) refl (or-false (hits n Ra) ∙ apart.ra)) (mark-names d)

  pub call_register-names : (d : Option Descr) (args : List Spot) → IsNumbered (first_location args) →
      Names n (call_words t callee.Register args ++ mark_of d) (is_at (first_location args)) false
  call_register-names d args a =
      then_none
      (joined (fetched-names n apart t T1 (first_location args) apart.t1)
      (same (alone n (calls_at (register_of T1 (first_location args))))
      (or-false (hits n (register_of T1 (first_location args))) ∙ at_place n apart T1 (first_location args) apart.t1 a) (or-false (hits n Ra) ∙ apart.ra)))
      (mark-names d)

  given_back-names : (f : FrameLayout) → Names n (frame_release f) false false
  given_back-names f =
      joined (either f.saves (same (stack_load-names n apart T2 Ra (return_offset f) apart.t2) refl apart.ra) nothing)
      (either (nat_eq f.bytes 0) nothing (same (sum_to-names n apart T2 Sp Sp f.bytes apart.t2) apart.sp apart.sp))

  pub tail_call-names : (f : FrameLayout) (name : List ℕ) (args : List Spot) → Names n (tail_call_part t f (callee.Symbol name) args) false false
  tail_call-names f name args =
      joined (given_back-names f) (same (alone n (piece.TailCall name)) refl (or-false (hits n T1) ∙ apart.t1))

  pub tail_register-names : (f : FrameLayout) (args : List Spot) → IsNumbered (first_location args) →
      Names n (tail_call_part t f callee.Register args) (is_at (first_location args)) false
  tail_register-names f args a =
      then_none (then_none (value_words-names (first_location args) a) (given_back-names f)) (same (goes_to-names T1 0) apart.t1 refl)

  pub external-names : (row : External) (frame : Bool) (d : Option Descr) → Names n (external_words row frame ++ mark_of d) false false
  external-names row frame d =
      joined
      (joined {xs = piece.ExternalNumber T0 row ∷ []} (same (alone n (piece.ExternalNumber T0 row)) refl (or-false (hits n T0) ∙ apart.t0))
      (joined (constant-none n apart T2 (external_service frame) apart.t2) (alone n ecall)))
      (mark-names d)

  pub return-names : (f : FrameLayout) → Names n (return_part f) false false
  return-names f = joined (given_back-names f) (same (goes_to-names Ra 0) apart.ra refl)

  -- ---- traps

  pub raise-names : Names n raise_words false false
  raise-names =
      joined {xs = mv Sp S1 ∷ []} (same (addi-names n apart Sp S1 0) apart.s1 apart.sp)
      (joined {xs = load_piece loads.Ld T1 Sp 0 ∷ []} (same (load-names n apart loads.Ld T1 Sp 0) apart.sp apart.t1)
      (joined {xs = load_piece loads.Ld S1 Sp 8 ∷ []} (same (load-names n apart loads.Ld S1 Sp 8) apart.sp apart.s1)
      (joined {xs = addi Sp Sp 16 ∷ []} (same (addi-names n apart Sp Sp 16) apart.sp apart.sp) (same (goes_to-names T1 0) apart.t1 refl))))

  pub push-names : (l : ℕ) → Names n (push_part l) false false
  push-names l =
      joined {xs = piece.LabelAddress T1 l ∷ []} (same (alone n (piece.LabelAddress T1 l)) refl (or-false (hits n T1) ∙ apart.t1))
      (joined {xs = addi Sp Sp 0xFFFFFFFFFFFFFFF0 ∷ []} (same (addi-names n apart Sp Sp 0xFFFFFFFFFFFFFFF0) apart.sp apart.sp)
      (joined {xs = store_piece stores.Sd T1 Sp 0 ∷ []}
      (same (store-names n apart stores.Sd T1 Sp 0) (first_none n apart (hits n Sp) (hits n T1) apart.sp ∙ apart.t1) refl)
      (joined {xs = store_piece stores.Sd S1 Sp 8 ∷ []}
      (same (store-names n apart stores.Sd S1 Sp 8) (first_none n apart (hits n Sp) (hits n S1) apart.sp ∙ apart.s1) refl)
      (same (addi-names n apart S1 Sp 0) apart.sp apart.s1))))

  pub pop-names : Names n pop_part false false
  pop-names =
      joined {xs = load_piece loads.Ld S1 Sp 8 ∷ []} (same (load-names n apart loads.Ld S1 Sp 8) apart.sp apart.s1)
      (same (addi-names n apart Sp Sp 16) apart.sp apart.sp)

  -- up to its branch
  pub check-tests : (r : Right) (args : List Spot) → IsNumbered (first_location args) → RightNumbered r args →
      Names n (fetch_pieces t T1 (first_location args) ++ right_words t r args) false false
  check-tests r args a h = joined (fetched-names n apart t T1 (first_location args) apart.t1) (right_words-names r args)

  -- the raised value is put into a0
  pub check-names : (r : Right) (args : List Spot) → IsNumbered (first_location args) → RightNumbered r args →
      Names n (check_part t r args) (is_at (first_location args) || right_at r args) (hits n A0)
  check-names r args a h =
      joined (check-tests r args a h)
      (same
      (joined {xs = skip condition.Bltu (right_register r args) (register_of T1 (first_location args)) (4 * (1 + length raise_bound_error)) ∷ []}
      (alone n (skip condition.Bltu (right_register r args) (register_of T1 (first_location args)) (4 * (1 + length raise_bound_error))))
      (then_none {xs = lui A0 (data_start / 4096) ∷ []} (same (alone n (lui A0 (data_start / 4096))) refl (or-false (hits n A0))) raise-names))
      (or-false _ ∙ (ap (λ (z : Bool). hits n (right_register r args) || z) (or-false (hits n (register_of T1 (first_location args))))
      ∙ (or_turned (hits n (right_register r args)) (hits n (register_of T1 (first_location args))) ∙ two_at r args a h)))
      refl)
