-- The slots that the parts of lines name that leave a function, test a bound, or push, pop or enter a trap.
use Rattle.std.proofs.Common.{◌≡◌, ℕ, ◌+◌, ◌*◌, ◌/◌, ◌<◌, Bool, true, false, cond, nat_eq, nat_lt, nat_le, not, ◌||◌, ◌&&◌, List, [], ◌∷◌, length, refl, sym, ◌∙◌, ap, Option, subst, arith}
use Rattle.std.proofs.lemmas.Bool.Decides.{nat_tests}
use Rattle.std.proofs.Math.Bool.{and-false}
use Rattle.bs_words.specs.Fits.{data_start}
use Rattle.bs_words.specs.Word.{add_word, sext_word, word_of, signed_in}
use Rattle.bs_words.specs.declared.types.Loc.{Loc}
use Rattle.bs_words.specs.declared.types.Loc.TheVariants as loc
use Rattle.mach_ir.specs.Forms.{HasForm}
use Rattle.mach_ir.specs.Seats.{AreSeated, InOrder, argument_locations, result_locations}
use Rattle.mach_ir.specs.declared.op.Callee.{Callee}
use Rattle.mach_ir.specs.declared.op.Callee.TheVariants as callee
use Rattle.mach_ir.specs.declared.op.Calling.TheVariants as calling
use Rattle.mach_ir.specs.declared.op.Leaving.TheVariants as leaving
use Rattle.mach_ir.specs.declared.op.Op.TheVariants as op
use Rattle.mach_ir.specs.declared.op.Right.{Right}
use Rattle.mach_ir.specs.declared.op.Right.TheVariants as right
use Rattle.lin_ir.specs.Formed.{FlowHasForm, Locates, comps, places_of, lin_operand_seats}
use Rattle.lin_ir.specs.Meaning.{same_loc}
use Rattle.lin_ir.specs.declared.descr.Descr.{Descr}
use Rattle.lin_ir.specs.declared.lin.Flow.TheVariants as flow
use Rattle.lin_ir.specs.declared.lin.LinOp.{LinOp}
use Rattle.lin_ir.specs.declared.lin.LinOp.TheVariants as lin
use Rattle.lin_ir.specs.declared.lin.Lin.{Lin}
use Rattle.lin_ir.specs.declared.lin.Spot.{Spot}
use Rattle.rv_isa.specs.declared.instr.AluOp.TheVariants as alu
use Rattle.rv_isa.specs.declared.instr.Condition.TheVariants as condition
use Rattle.rv_isa.specs.declared.instr.LoadWidth.TheVariants as loads
use Rattle.rv_isa.specs.declared.register.Register.{Register}
use Rattle.rv_isa.specs.declared.register.Register.TheVariants.{Ra, Sp, T1, T2, S1, A0}
use Rattle.rv_pieces.specs.declared.piece.Piece.{Piece}
use Rattle.rv_pieces.specs.declared.piece.Piece.TheVariants as piece
use Rattle.rv_emit_rules.specs.Calls.{tail_call_part, return_part}
use Rattle.rv_emit_rules.specs.Emitted.{part_of_line}
use Rattle.rv_emit_rules.specs.Entry.{FrameLayout, return_offset, restored, raised_stack_pointer, frame_release}
use Rattle.rv_emit_rules.specs.Instructions.{addi, mv, alu_operation, lui, load_piece, skip, goes_to_address}
use Rattle.rv_emit_rules.specs.Slots.{first_location, second, register_of, stack_load, copy_pieces}
use Rattle.rv_emit_rules.specs.Tests.{right_register, right_words}
use Rattle.rv_emit_rules.specs.Traps.{raise_words, raise_bound_error, push_part, pop_part, check_part}
use Rattle.rv_emit_rules.specs.Traversal.{EachPiece, each_none, each_more}
use Rattle.rv_emit_rules.specs.Values.{Makes, makes_first, makes_upper, makes_lower, makes_sum, makes_shift}
use Rattle.rv_emit_rules.proofs.Values.{constant_is_made}
use Rattle.lin_laws.proofs.Forms.{push_inv, pop_inv, enter_inv, same_loc_is}
use Rattle.linearise_rules.specs.Lowered.{is_among_numbers}
use Rattle.mach_laws.proofs.Instructions.{returns_none}
use Rattle.laid_parts.specs.Laid.{lies_at, is_return_address, NamesSlots}
use Rattle.laid_parts.specs.Stack.{KnownWord, Is, RegisterForms, plus, word_at}
use Rattle.laid_parts.proofs.Words.{Through, Clear, Part, AtSp, IsClean, Whatever, IsFree, is_unknown, is_constant, joined, same, then_none, either, nothing, one_still, silent, in_part, at_end, is_t1, is_t2, later, stack_load-words}
use Rattle.laid_parts.proofs.Clean.{steady, free_names_none, plus_free, constant-clear}
use Rattle.laid_parts.proofs.SlotParts.{IsWithinFrame, in_register, fetched-clear, copied-slot}
use Rattle.laid_parts.proofs.PureSlots.{first_within, slots_of, lie_none, lie_one, lie_seated, lie_after}
use Rattle.laid_parts.proofs.FlowSlots.{value-slot, right-slot, RightWithin, beside}
use Rattle.laid_parts.proofs.Each.{right_inv, tail_more, check_inv, raise_inv}

-- ---- where nothing is loaded or stored, whatever registers hold

module _ (c : ℕ) where
  made-silent : (r : Register) {P : RegisterForms → Type 0} {p : Piece} → Makes r p → Through P Whatever c (p ∷ []) false false
  made-silent r (makes_first w) = silent c _ (λ h. refl) (λ h. refl)
  made-silent r (makes_upper w) = silent c _ (λ h. refl) (λ h. refl)
  made-silent r (makes_lower w) = silent c _ (λ h. refl) (λ h. refl)
  made-silent r (makes_sum w) = silent c _ (λ h. refl) (λ h. refl)
  made-silent r (makes_shift amount) = silent c _ (λ h. refl) (λ h. refl)

  each-silent : (r : Register) {P : RegisterForms → Type 0} {ps : List Piece} → EachPiece (Makes r) ps → Through P Whatever c ps false false
  each-silent r each_none = at_end c (nothing c)
  each-silent r (each_more {p} {ps} made rest) = joined c {xs = p ∷ []} (made-silent r made) (each-silent r rest)

  raised-silent : {P : RegisterForms → Type 0} (f : FrameLayout) → Through P Whatever c (raised_stack_pointer f) false false
  raised-silent f =
      either c (nat_eq f.bytes 0) (at_end c (nothing c))
      (either c (nat_lt f.bytes 2048) (silent c (addi Sp Sp f.bytes) (λ h. refl) (λ h. refl))
      (joined c (each-silent T2 (constant_is_made T2 f.bytes)) (silent c (alu_operation alu.Add Sp Sp T2) (λ h. refl) (λ h. refl))))

  -- ---- the frame is given back

  restored-slots : (f : FrameLayout) → return_offset f < 1073741824 → is_return_address f c ≡ false → Through AtSp AtSp c (restored f) false false
  restored-slots f l e = by f.saves e
    where
      by : (z : Bool) → (z && nat_eq (return_offset f) c) ≡ false → Through AtSp AtSp c (cond z (stack_load T2 Ra (return_offset f)) []) false false
      by true k = same c (stack_load-words c T2 Ra (return_offset f) is_t2 l refl) k refl
      by false k = nothing c

  given_back-slots : (f : FrameLayout) → return_offset f < 1073741824 → is_return_address f c ≡ false → Through AtSp Whatever c (frame_release f) false false
  given_back-slots f l e = joined c (restored-slots f l e) (raised-silent f)

  return-slots : (f : FrameLayout) → return_offset f < 1073741824 → is_return_address f c ≡ false → Part c (return_part f) false false
  return-slots f l e = in_part c (joined c (given_back-slots f l e) (silent c (goes_to_address Ra 0) (λ h. refl) (λ h. refl)))

  -- ---- raises

  SpFree : RegisterForms → Type 0
  SpFree h = IsFree (h 2)

  raise-slots : Part c raise_words false false
  unfolding SpFree
  raise-slots =
      joined c {P = IsClean} {Q = SpFree} {T = Whatever} {xs = mv Sp S1 ∷ []} (one_still c (mv Sp S1) (λ h k. refl) (λ h k. refl) (λ h k. plus_free (k.others 9 refl) is_constant))
      (joined c {P = SpFree} {Q = SpFree} {T = Whatever} {xs = load_piece loads.Ld T1 Sp 0 ∷ []}
      (one_still c (load_piece loads.Ld T1 Sp 0) (λ h k. free_names_none k _) (λ h k. refl) (λ h k. k))
      (joined c {P = SpFree} {Q = SpFree} {T = Whatever} {xs = load_piece loads.Ld S1 Sp 8 ∷ []}
      (one_still c (load_piece loads.Ld S1 Sp 8) (λ h k. free_names_none k _) (λ h k. refl) (λ h k. k))
      (joined c {xs = addi Sp Sp 16 ∷ []} (silent c (addi Sp Sp 16) (λ h. refl) (λ h. refl)) (silent c (goes_to_address T1 0) (λ h. refl) (λ h. refl)))))

  bound_error-slots : Part c raise_bound_error false false
  bound_error-slots =
      joined c {xs = lui A0 (data_start / 4096) ∷ []} (steady c (lui A0 (data_start / 4096)) (λ h k. refl) (λ h k. refl) (λ h k. is_constant) refl) raise-slots

  -- ---- traps

  -- the two words below sp
  no_pushed : nat_le 0xFFFFFFFFFFFFFFF0 c ≡ false → (nat_eq 0xFFFFFFFFFFFFFFF0 c || false || (nat_eq 0xFFFFFFFFFFFFFFF8 c || false || false)) ≡ false
  no_pushed e =
      let k : nat_eq 0xFFFFFFFFFFFFFFF0 c ≡ false = grind (arith, nat_tests) in
      let l : nat_eq 0xFFFFFFFFFFFFFFF8 c ≡ false = grind (arith, nat_tests) in
      ap (λ (z : Bool). z || false || (nat_eq 0xFFFFFFFFFFFFFFF8 c || false || false)) k ∙ ap (λ (z : Bool). z || false || false) l

  push-slots : (l : ℕ) → nat_le 0xFFFFFFFFFFFFFFF0 c ≡ false → Part c (push_part l) false false
  unfolding later add_word sext_word word_of signed_in
  push-slots l e = record {
    each = λ h k. record {
      loads = ap (λ (z : Bool). not (is_among_numbers c (word_at (plus (h 2) (Is (sext_word 0xFF0 12))) 0)) && z) (and-false _) ∙ and-false _;
      stores = ap
          (λ (f : KnownWord). is_among_numbers c (word_at (plus f (Is (sext_word 0xFF0 12))) 0) || (is_among_numbers c (word_at (plus f (Is (sext_word 0xFF0 12))) 8) || false))
          k.sp ∙ no_pushed e;
      left = tt;
    };
  }

  no_popped : nat_lt c 16 ≡ false → (nat_eq 8 c || false || false) ≡ false
  no_popped e = let k : nat_eq 8 c ≡ false = grind (arith, nat_tests) in ap (λ (z : Bool). z || false || false) k

  pop-slots : nat_lt c 16 ≡ false → Part c pop_part false false
  unfolding later add_word sext_word word_of signed_in
  pop-slots e = record {
    each = λ h k. record {
      loads = ap (λ (f : KnownWord). is_among_numbers c (word_at f 8) || false) k.sp ∙ no_popped e;
      stores = refl;
      left = tt;
    };
  }

module _ (c t : ℕ) where
  -- ---- tail calls

  tail_call-slots : (f : FrameLayout) (name : List ℕ) (args : List Spot) → return_offset f < 1073741824 → is_return_address f c ≡ false →
      Part c (tail_call_part t f (callee.Symbol name) args) false false
  tail_call-slots f name args l e =
      in_part c (joined c (given_back-slots c f l e) (silent c (piece.TailCall name) (λ h. refl) (λ h. refl)))

  tail_register-slots : (f : FrameLayout) (args : List Spot) → return_offset f < 1073741824 → is_return_address f c ≡ false → IsWithinFrame t (first_location args) →
      Part c (tail_call_part t f callee.Register args) (lies_at t c (first_location args)) false
  tail_register-slots f args l e a =
      in_part c
      (then_none c (then_none c (value-slot c t (first_location args) a) (given_back-slots c f l e)) (silent c (goes_to_address T1 0) (λ h. refl) (λ h. refl)))

  -- ---- bound tests

  right-clear : (o : Right) (args : List Spot) → RightWithin c t o args → Clear c (right_words t o args) (right-slot c t o args) false
  unfolding right-slot RightWithin
  right-clear right.Register args h = fetched-clear c t T2 (second args) is_t2 h
  right-clear (right.Constant w) args h = either c (nat_eq w 0) (nothing c) (constant-clear c T2 w refl)

  check-slots : (o : Right) (args : List Spot) → IsWithinFrame t (first_location args) → RightWithin c t o args →
      Part c (check_part t o args) (lies_at t c (first_location args) || right-slot c t o args) false
  check-slots o args a h =
      let test = skip condition.Bltu (right_register o args) (register_of T1 (first_location args)) (4 * (1 + length raise_bound_error)) in
      then_none c (joined c (fetched-clear c t T1 (first_location args) is_t1 a) (right-clear o args h))
      (joined c {xs = test ∷ []} (steady c test (λ h k. refl) (λ h k. refl) (λ h k. is_unknown) refl) (bound_error-slots c))

-- ---- lines

module _ (m : Lin) (t : ℕ) (b : 8 * m.slots + 16 * t < 1073741824) (f : FrameLayout) (fits : return_offset f < 1073741824) (d : Option Descr)
    (args results : List Spot) (a : Locates m args) (r : Locates m results) where
  abbrev NamesIn : LinOp → Type 0
  NamesIn o = NamesSlots f t (record { op = o; args = args; results = results }) (part_of_line t f d (record { op = o; args = args; results = results }))

  pub tail_call-named : (whom : Callee) (result : _) → HasForm (op.Calling (calling.TailCall whom result)) (comps args) (comps results) →
      AreSeated (lin_operand_seats (lin.Op (op.Calling (calling.TailCall whom result)))) (places_of args) →
      AreSeated (InOrder result_locations) (places_of results) → NamesIn (lin.Op (op.Calling (calling.TailCall whom result)))
  tail_call-named (callee.Symbol name) result h s u =
      slots_of t (λ c n. same c (tail_call-slots c t f name args fits n)
      (sym (lie_seated t c argument_locations (places_of args) s refl)) (sym (lie_seated t c result_locations (places_of results) u refl)))
  tail_call-named callee.Register result h s u =
      let i = tail_more result (comps args) (comps results) h in
      slots_of t (λ c n. same c (tail_register-slots c t f args fits n (first_within m t b args i.0 i.1 i.2 a))
      (sym (lie_after t c argument_locations args s refl)) (sym (lie_seated t c result_locations (places_of results) u refl)))

  pub leaving-named : (g : _) → HasForm (op.Leaving g) (comps args) (comps results) → AreSeated (lin_operand_seats (lin.Op (op.Leaving g))) (places_of args) →
      NamesIn (lin.Op (op.Leaving g))
  leaving-named (leaving.Checkbound o) h s =
      let i = check_inv o (comps args) (comps results) h in
      slots_of t (λ c n.
      let x = beside m t b f d args results a r c o i.0 i.1 i.2 (right_inv _ o i.1 i.3) in
      same c (check-slots c t o args (first_within m t b args i.0 i.1 i.2 a) x.0) x.1 (sym (lie_none t c results i.4)))
  leaving-named leaving.Raise h s =
      slots_of t (λ c n. same c (raise-slots c)
      (sym (lie_seated t c result_locations (places_of args) s refl)) (sym (lie_none t c results (raise_inv (comps args) (comps results) h))))
  leaving-named leaving.Return h s =
      slots_of t (λ c n. same c (return-slots c f fits n)
      (sym (lie_seated t c result_locations (places_of args) s refl)) (sym (lie_none t c results (returns_none h))))

  pub push-named : (l : ℕ) → FlowHasForm (flow.PushTrap l) (comps args) (comps results) → NamesIn (lin.Flow (flow.PushTrap l))
  push-named l h =
      let i = push_inv l (comps args) (comps results) h in
      slots_of t (λ c n. same c (push-slots c l n) (sym (lie_none t c args i.0)) (sym (lie_none t c results i.1)))

  pub pop-named : FlowHasForm flow.PopTrap (comps args) (comps results) → NamesIn (lin.Flow flow.PopTrap)
  pop-named h =
      let i = pop_inv (comps args) (comps results) h in
      slots_of t (λ c n. same c (pop-slots c n) (sym (lie_none t c args i.0)) (sym (lie_none t c results i.1)))

  pub enter-named : FlowHasForm flow.EnterTrap (comps args) (comps results) → NamesIn (lin.Flow flow.EnterTrap)
  enter-named h =
      let i = enter_inv (comps args) (comps results) h in
      slots_of t (λ c n. same c (from_a0 c (first_within m t b results i.1.0 [] i.1.1 r) (same_loc (loc.Machine 10) (first_location results)) refl)
      (sym (lie_none t c args i.0)) (sym (lie_one t c results i.1.0 i.1.1)))
    where
      from_a0 : (c : ℕ) → IsWithinFrame t (first_location results) → (z : Bool) → same_loc (loc.Machine 10) (first_location results) ≡ z →
          Part c (cond z [] (copy_pieces t (loc.Machine 10) (first_location results))) false (lies_at t c (first_location results))
      from_a0 c x true k =
          same c (at_end c (nothing c)) refl
          (subst (λ (l : Loc). false ≡ lies_at t c l) (same_loc_is (loc.Machine 10) (first_location results) k) refl)
      from_a0 c x false k = in_part c (copied-slot c t (loc.Machine 10) (first_location results) (in_register {r = 10} refl) x)
