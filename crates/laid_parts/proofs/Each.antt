-- The part of each line names the registers that the line reads and writes.
use Rattle.std.proofs.Common.{◌≡◌, ℕ, Bool, true, false, cond, nat_eq, ◌||◌, List, [], ◌∷◌, ◌++◌, length, refl, sym, subst, ◌∙◌, ap, arith, Option}
use Rattle.std.specs.List.{All, Contains}
use Rattle.std.proofs.lemmas.Bool.{eqb-true, or_parts}
use Rattle.std.proofs.lemmas.Bool.Decides.{nat_tests}
use Rattle.std.proofs.lemmas.List.Elements.{All-contains, All-nil, All-cons, All-head, All-tail}
use Rattle.std.proofs.Math.Bool.{or-false}
use Rattle.bs_words.specs.declared.operators.CmpOp.TheVariants as compare
use Rattle.bs_words.specs.declared.operators.IntOp.TheVariants as operator
use Rattle.bs_words.specs.declared.types.Comp.{Comp}
use Rattle.bs_words.specs.declared.types.Loc.{Loc}
use Rattle.bs_words.specs.declared.types.Loc.TheVariants as loc
use Rattle.mach_ir.specs.Forms.{HasForm, constant, operates, allocates, calls, tail_calls, checks, raises, IsRight, a_register, a_constant, IsCallee, by_register, IsTested, holds, fails, signed, unsigned}
use Rattle.mach_ir.specs.Meaning.{is_temporary}
use Rattle.mach_ir.specs.Placed.{colour_numbers}
use Rattle.mach_ir.specs.Seats.{AreSeated, InOrder, AfterFirst, in_order, after_first, argument_locations, result_locations}
use Rattle.mach_ir.specs.declared.mach.Test.{Test}
use Rattle.mach_ir.specs.declared.mach.Test.TheVariants as test
use Rattle.mach_ir.specs.declared.op.Access.TheVariants as access
use Rattle.mach_ir.specs.declared.op.Callee.TheVariants as callee
use Rattle.mach_ir.specs.declared.op.Calling.TheVariants as calling
use Rattle.mach_ir.specs.declared.op.Leaving.TheVariants as leaving
use Rattle.mach_ir.specs.declared.op.Op.TheVariants as op
use Rattle.mach_ir.specs.declared.op.Pure.TheVariants as pure
use Rattle.mach_ir.specs.declared.op.Right.{Right}
use Rattle.mach_ir.specs.declared.op.Right.TheVariants as right
use Rattle.lin_ir.specs.Formed.{FlowHasForm, IsFormedLine, formed_op, formed_flow, is_colour, is_slot, IsLocation, is_home, is_spare, IsSelfMove, is_self_move, Locates, comps, places_of, lin_operand_seats, lin_result_seats, WellFormed, Seated}
use Rattle.lin_ir.specs.Meaning.{same_loc, is_named_location}
use Rattle.lin_ir.specs.declared.descr.Descr.{Descr}
use Rattle.lin_ir.specs.declared.lin.Flow.{Flow}
use Rattle.lin_ir.specs.declared.lin.Flow.TheVariants as flow
use Rattle.lin_ir.specs.declared.lin.Line.{Line}
use Rattle.lin_ir.specs.declared.lin.LinOp.{LinOp}
use Rattle.lin_ir.specs.declared.lin.LinOp.TheVariants as lin
use Rattle.lin_ir.specs.declared.lin.Lin.{Lin}
use Rattle.lin_ir.specs.declared.lin.Spot.{Spot}
use Rattle.rv_isa.specs.Registers.{register_number, register_at}
use Rattle.rv_pieces.specs.declared.piece.Piece.{Piece}
use Rattle.rv_pieces.specs.declared.piece.Piece.TheVariants as piece
use Rattle.rv_emit_rules.specs.Emitted.{part_of_line}
use Rattle.rv_emit_rules.specs.Entry.{FrameLayout}
use Rattle.rv_emit_rules.specs.Slots.{first_location, second, fetch_pieces, copy_pieces}
use Rattle.rv_emit_rules.specs.Tests.{right_words}
use Rattle.rv_emit_rules.specs.Traps.{raise_bound_error, check_part}
use Rattle.rv_isa.specs.declared.register.Register.TheVariants.{T1}
use Rattle.lin_laws.proofs.Forms.{length_comps, label_inv, jump_inv, exit_inv, branch_inv, switch_inv, push_inv, pop_inv, enter_inv, same_loc_is}
use Rattle.mach_ir.proofs.Forms.{symbol_inv, copy_inv, load_inv, store_inv, register_inv}
use Rattle.linearise_rules.specs.Lowered.{is_among_numbers}
use Rattle.mach_laws.proofs.Instructions.{returns_none}
use Rattle.laid_parts.specs.Laid.{is_reserved, raises_behind, is_branch_piece, up_to_branch, NamesRegisters, MovesNothing, CarriesRegisters, moves_nothing, names}
use Rattle.laid_parts.specs.Named.{is_source, is_target, piece_targets}
use Rattle.laid_parts.proofs.Registers.{Names, same, alone, is-apart, IsApart}
use Rattle.laid_parts.proofs.Operators.{IsNumbered, numbered, in_slot, copied-names}
use Rattle.laid_parts.proofs.Lines as lines

-- ---- locations

numbers_agree : List ℕ → Bool
numbers_agree [] = true
numbers_agree (r ∷ rs) = cond (nat_eq (register_number (register_at r)) r) (numbers_agree rs) false

agree : (rs : List ℕ) → numbers_agree rs ≡ true → All (λ r. register_number (register_at r) ≡ r) rs
unfolding numbers_agree
agree [] e = All-nil (λ r. register_number (register_at r) ≡ r)
agree (r ∷ rs) e = by (nat_eq (register_number (register_at r)) r) refl e (λ h. agree rs h)
  where
    by : (b : Bool) → nat_eq (register_number (register_at r)) r ≡ b → cond b (numbers_agree rs) false ≡ true →
        (numbers_agree rs ≡ true → All (λ r. register_number (register_at r) ≡ r) rs) → All (λ r. register_number (register_at r) ≡ r) (r ∷ rs)
    by true h e rest = All-cons (λ r. register_number (register_at r) ≡ r) r rs (eqb-true (register_number (register_at r)) r h) (rest e)
    by false h e rest = absurd (cc)

colours_agree : numbers_agree colour_numbers ≡ true
unfolding numbers_agree
colours_agree = refl

pub is_numbered : {m : Lin} {l : Loc} → IsLocation m l → IsNumbered l
is_numbered (is_home (is_colour {n} c)) = numbered (All-contains (λ r. register_number (register_at r) ≡ r) colour_numbers n (agree colour_numbers colours_agree) c)
is_numbered (is_home (is_slot k)) = in_slot
is_numbered (is_spare e) = subst IsNumbered (sym e) (numbered {r = 5} refl)

module _ (m : Lin) where
  pub first_numbered : (ss : List Spot) (t : Comp) (ts : List Comp) → comps ss ≡ t ∷ ts → Locates m ss → IsNumbered (first_location ss)
  first_numbered [] t ts e h = absurd (cc)
  first_numbered (s ∷ ss) t ts e h = is_numbered (All-head (λ (s : Spot). IsLocation m s.loc) s ss h)

  pub second_numbered : (ss : List Spot) (t u : Comp) (ts : List Comp) → comps ss ≡ t ∷ u ∷ ts → Locates m ss → IsNumbered (second ss)
  second_numbered [] t u ts e h = absurd (cc)
  second_numbered (s ∷ []) t u ts e h = absurd (cc)
  second_numbered (s ∷ r ∷ ss) t u ts e h =
      is_numbered (All-head (λ (s : Spot). IsLocation m s.loc) r ss (All-tail (λ (s : Spot). IsLocation m s.loc) s (r ∷ ss) h))

  pub all_numbered : (n : ℕ) (apart : IsApart n) (t : ℕ) (ss : List Spot) → Locates m ss → lines.AreNumbered n apart t ss
  all_numbered n apart t [] h = lines.none_numbered
  all_numbered n apart t (s ∷ ss) h =
      lines.more_numbered (is_numbered (All-head (λ (s : Spot). IsLocation m s.loc) s ss h))
      (all_numbered n apart t ss (All-tail (λ (s : Spot). IsLocation m s.loc) s ss h))

-- ---- moves from a location to itself

abbrev pub copies_op : LinOp → Bool
copies_op (lin.Op (op.Pure (pure.Copy kind))) = true
copies_op _ = false

move_copies : {i : Line} {from to : Spot} → IsSelfMove i from to → copies_op i.op ≡ true
move_copies (is_self_move e) = refl

move_stays : {i : Line} {from to : Spot} → IsSelfMove i from to → first_location i.args ≡ first_location i.results
move_stays (is_self_move e) = e

pub no_move : {o : LinOp} {args results : List Spot} → copies_op o ≡ false → MovesNothing (record { op = o; args = args; results = results }) → ⊥
no_move e h = let k = move_copies h.2 in absurd (cc)

same_self : (l : Loc) → IsNumbered l → same_loc l l ≡ true
same_self (loc.Machine r) h = grind (arith, nat_tests)
same_self (loc.Slot k) h = grind (arith, nat_tests)
same_self loc.Unset h = elim h [ ]

-- a copy between locations that differ
pub no_self_copy : {kind : _} (x y : Spot) → IsNumbered x.loc → same_loc x.loc y.loc ≡ false →
    MovesNothing (record { op = lin.Op (op.Pure (pure.Copy kind)); args = x ∷ []; results = y ∷ [] }) → ⊥
no_self_copy x y n w h =
    let k : same_loc x.loc y.loc ≡ true = subst (λ (l : Loc). same_loc x.loc l ≡ true) (move_stays h.2) (same_self x.loc n) in
    absurd (cc)

-- ---- what a line names, by how many operands it has

pub named_none : (l : Loc) (ss : List Spot) → comps ss ≡ [] → is_named_location l (places_of ss) ≡ false
named_none l [] e = refl
named_none l (s ∷ ss) e = absurd (cc)

pub named_one : (l : Loc) (ss : List Spot) (t : Comp) → comps ss ≡ t ∷ [] → is_named_location l (places_of ss) ≡ same_loc (first_location ss) l
named_one l [] t e = absurd (cc)
named_one l (s ∷ []) t e = or-false (same_loc s.loc l)
named_one l (s ∷ r ∷ ss) t e = absurd (cc)

pub named_two : (l : Loc) (ss : List Spot) (t u : Comp) → comps ss ≡ t ∷ u ∷ [] →
    is_named_location l (places_of ss) ≡ (same_loc (first_location ss) l || same_loc (second ss) l)
named_two l [] t u e = absurd (cc)
named_two l (s ∷ []) t u e = absurd (cc)
named_two l (s ∷ r ∷ []) t u e = ap (λ (z : Bool). same_loc s.loc l || z) (or-false (same_loc r.loc l))
named_two l (s ∷ r ∷ q ∷ ss) t u e = absurd (cc)

-- ---- lines whose parts name every register themselves

-- the part names what these read and write, but for reserved registers
Plain : List Spot → List Spot → List Piece → Type 0
Plain args results part =
    (n : ℕ) → IsApart n → Names n part (is_named_location (loc.Machine n) (places_of args)) (is_named_location (loc.Machine n) (places_of results))

registers_of : {o : LinOp} {args results : List Spot} {part : List Piece} → ((n : ℕ) → raises_behind o n ≡ false) → Plain args results part →
    NamesRegisters (record { op = o; args = args; results = results }) part
unfolding Plain
registers_of {part} k h = record {
  reads = λ n e g. (h n (is-apart n e)).reads;
  writes = λ n e g. ap (λ (z : Bool). is_target n (cond z (up_to_branch part) part)) (k n) ∙ (h n (is-apart n e)).sets;
}

pub constant_inv : (w : ℕ) (xs ys : List Comp) → HasForm (op.Pure (pure.Constant w)) xs ys → (xs ≡ []) × ((u : Comp) × (ys ≡ u ∷ []))
constant_inv w xs ys (constant {to = u} l) = (refl, (u, refl))

pub alloc_inv : (blocks : _) (xs ys : List Comp) → HasForm (op.Access (access.Alloc blocks)) xs ys → (xs ≡ []) × (length ys ≡ length blocks)
alloc_inv blocks xs ys (allocates some all most as_many) = (refl, as_many)

pub with_inv : (f : _) (w : ℕ) (xs ys : List Comp) → HasForm (op.Pure (pure.Operator f (right.Constant w))) xs ys →
    (t : Comp) × (o : Comp) × (xs ≡ t ∷ []) × (ys ≡ o ∷ [])
with_inv f w xs ys (operates {left = t} {to = o} (a_constant e)) = (t, o, refl, refl)

-- what is beside the first operand
pub data RightIs : Right → List Comp → Type 0 where
  one_right : (t : Comp) → RightIs right.Register (t ∷ [])
  no_right : {w : ℕ} → RightIs (right.Constant w) []

pub right_inv : (g : _) (o : Right) (xs : List Comp) → IsRight g o xs → RightIs o xs
right_inv g right.Register xs (a_register {t}) = one_right t
right_inv g (right.Constant w) xs (a_constant e) = no_right

module _ (m : Lin) (args : List Spot) (a : Locates m args) (n : ℕ) (apart : IsApart n) (t : ℕ) where
  pub rights : (o : Right) (u : Comp) (xs : List Comp) → comps args ≡ u ∷ xs → RightIs o xs →
      lines.RightNumbered n apart t o args
      × ((lines.is_at n apart t (first_location args) || lines.right_at n apart t o args) ≡ is_named_location (loc.Machine n) (places_of args))
  rights right.Register u xs e (one_right v) =
      (lines.by_register (second_numbered m args u v [] e a), sym (named_two (loc.Machine n) args u v e))
  rights (right.Constant w) u xs e no_right =
      (lines.by_constant, or-false (same_loc (first_location args) (loc.Machine n)) ∙ sym (named_one (loc.Machine n) args u e))

  with_tested : (g : Test) (xs : List Comp) → comps args ≡ xs → IsTested g xs →
      IsNumbered (first_location args) × lines.TestNumbered n apart t g args
      × ((lines.is_at n apart t (first_location args) || lines.test_at n apart t g args) ≡ is_named_location (loc.Machine n) (places_of args))
  with_tested test.Holds xs e (holds {t = u}) =
      (first_numbered m args u [] e a, lines.alone_holds, or-false (same_loc (first_location args) (loc.Machine n)) ∙ sym (named_one (loc.Machine n) args u e))
  with_tested test.Fails xs e (fails {t = u}) =
      (first_numbered m args u [] e a, lines.alone_fails, or-false (same_loc (first_location args) (loc.Machine n)) ∙ sym (named_one (loc.Machine n) args u e))
  with_tested (test.Signed c o) xs e (signed {rest} {left = u} h) =
      let x = rights o u rest e (right_inv _ o rest h) in
      (first_numbered m args u rest e a, lines.with_signed x.0, x.1)
  with_tested (test.Unsigned c o) xs e (unsigned {rest} {left = u} h) =
      let x = rights o u rest e (right_inv _ o rest h) in
      (first_numbered m args u rest e a, lines.with_unsigned x.0, x.1)

module _ (m : Lin) (t : ℕ) (f : FrameLayout) (d : Option Descr) (args results : List Spot) (a : Locates m args) (r : Locates m results) where
  abbrev Part : LinOp → List Piece
  Part o = part_of_line t f d (record { op = o; args = args; results = results })

  abbrev PlainPart : LinOp → Type 0
  PlainPart o = Plain args results (Part o)

  constant-plain : (w : ℕ) → HasForm (op.Pure (pure.Constant w)) (comps args) (comps results) → PlainPart (lin.Op (op.Pure (pure.Constant w)))
  unfolding Plain
  constant-plain w h n apart =
      let i = constant_inv w (comps args) (comps results) h in
      same (lines.constant_line-names n apart t w results (first_numbered m results i.1.0 [] i.1.1 r))
      (sym (named_none (loc.Machine n) args i.0)) (sym (named_one (loc.Machine n) results i.1.0 i.1.1))

  symbol-plain : (name : List ℕ) → HasForm (op.Pure (pure.Symbol name)) (comps args) (comps results) → PlainPart (lin.Op (op.Pure (pure.Symbol name)))
  unfolding Plain
  symbol-plain name h n apart =
      let i = symbol_inv name (comps args) (comps results) h in
      same (lines.symbol_line-names n apart t name results (first_numbered m results i.1.0 [] i.1.1 r))
      (sym (named_none (loc.Machine n) args i.0)) (sym (named_one (loc.Machine n) results i.1.0 i.1.1))

  operator-plain : (g : _) (o : Right) → HasForm (op.Pure (pure.Operator g o)) (comps args) (comps results) → PlainPart (lin.Op (op.Pure (pure.Operator g o)))
  unfolding Plain
  operator-plain g right.Register h n apart =
      let i = register_inv g (comps args) (comps results) h in
      same
      (lines.operator_register-names n apart t g args results (first_numbered m args i.0 (i.1 ∷ []) i.3 a) (second_numbered m args i.0 i.1 [] i.3 a)
      (first_numbered m results i.2 [] i.4 r))
      (sym (named_two (loc.Machine n) args i.0 i.1 i.3)) (sym (named_one (loc.Machine n) results i.2 i.4))
  operator-plain g (right.Constant w) h n apart =
      let i = with_inv g w (comps args) (comps results) h in
      same
      (lines.operator_constant-names n apart t g w args results (first_numbered m args i.0 [] i.2 a) (first_numbered m results i.1 [] i.3 r))
      (sym (named_one (loc.Machine n) args i.0 i.2)) (sym (named_one (loc.Machine n) results i.1 i.3))

  access-plain : (g : _) → HasForm (op.Access g) (comps args) (comps results) → PlainPart (lin.Op (op.Access g))
  unfolding Plain
  access-plain (access.Load k w) h n apart =
      let i = load_inv k w (comps args) (comps results) h in
      same (lines.load_line-names n apart t k w args results (first_numbered m args i.0 [] i.2 a) (first_numbered m results i.1 [] i.3 r))
      (sym (named_one (loc.Machine n) args i.0 i.2)) (sym (named_one (loc.Machine n) results i.1 i.3))
  access-plain (access.Store k w) h n apart =
      let i = store_inv k w (comps args) (comps results) h in
      same (lines.store_line-names n apart t k w args (first_numbered m args i.0 (i.1 ∷ []) i.2 a) (second_numbered m args i.0 i.1 [] i.2 a))
      (sym (named_two (loc.Machine n) args i.0 i.1 i.2)) (sym (named_none (loc.Machine n) results i.3))
  access-plain (access.Alloc blocks) h n apart =
      let i = alloc_inv blocks (comps args) (comps results) h in
      same (lines.alloc_line-names n apart t d blocks results (sym (length_comps results) ∙ i.1) (all_numbered m n apart t results r))
      (sym (named_none (loc.Machine n) args i.0)) refl

  -- ---- lines of Linear's own

  flow-plain : (g : Flow) → FlowHasForm g (comps args) (comps results) → (g ≡ flow.EnterTrap → ⊥) → PlainPart (lin.Flow g)
  unfolding Plain
  flow-plain (flow.Label l) h o n apart =
      let i = label_inv l (comps args) (comps results) h in
      same (alone n (piece.Label l)) (sym (named_none (loc.Machine n) args i.0)) (sym (named_none (loc.Machine n) results i.1))
  flow-plain (flow.Jump l) h o n apart =
      let i = jump_inv l (comps args) (comps results) h in
      same (alone n (piece.Jump l)) (sym (named_none (loc.Machine n) args i.0)) (sym (named_none (loc.Machine n) results i.1))
  flow-plain (flow.Exit l) h o n apart =
      let i = exit_inv l (comps args) (comps results) h in
      same (alone n (piece.Jump l)) (sym (named_none (loc.Machine n) args i.0)) (sym (named_none (loc.Machine n) results i.1))
  flow-plain (flow.Branch g l) h o n apart =
      let i = branch_inv g l (comps args) (comps results) h in
      let x = with_tested m args a n apart t g (comps args) refl i.0 in
      same (lines.branch_line-names n apart t g l args x.0 x.1) x.2 (sym (named_none (loc.Machine n) results i.1))
  flow-plain (flow.Switch ls) h o n apart =
      let i = switch_inv ls (comps args) (comps results) h in
      same (lines.switch_line-names n apart t ls args (first_numbered m args i.0.0 [] i.0.1 a))
      (sym (named_one (loc.Machine n) args i.0.0 i.0.1)) (sym (named_none (loc.Machine n) results i.1))
  flow-plain (flow.PushTrap l) h o n apart =
      let i = push_inv l (comps args) (comps results) h in
      same (lines.push-names n apart t l) (sym (named_none (loc.Machine n) args i.0)) (sym (named_none (loc.Machine n) results i.1))
  flow-plain flow.PopTrap h o n apart =
      let i = pop_inv (comps args) (comps results) h in
      same (lines.pop-names n apart t) (sym (named_none (loc.Machine n) args i.0)) (sym (named_none (loc.Machine n) results i.1))
  flow-plain flow.EnterTrap h o n apart = absurd (o refl)

-- ---- registers that conventions hand over

prefix_none : (l : Loc) (ls more : List Loc) → is_named_location l (ls ++ more) ≡ false → is_named_location l ls ≡ false
prefix_none l [] more e = refl
prefix_none l (k ∷ ks) more e =
    let p = or_parts (same_loc k l) (is_named_location l (ks ++ more)) e in
    ap (λ (z : Bool). z || is_named_location l ks) p.0 ∙ prefix_none l ks more p.1

pub seated_none : (l : Loc) (places ls : List Loc) → AreSeated (InOrder places) ls → is_named_location l places ≡ false → is_named_location l ls ≡ false
seated_none l places ls (in_order more e) h = prefix_none l ls more (ap (λ (z : List Loc). is_named_location l z) e ∙ h)

pub seated_after : (l : Loc) (places : List Loc) (ss : List Spot) → AreSeated (AfterFirst places) (places_of ss) → is_named_location l places ≡ false →
    same_loc (first_location ss) l ≡ is_named_location l (places_of ss)
seated_after l places [] s h = elim s [ ]
seated_after l places (x ∷ ss) (after_first more e) h =
    let k : is_named_location l (places_of ss) ≡ false = prefix_none l (places_of ss) more (ap (λ (z : List Loc). is_named_location l z) e ∙ h) in
    sym (ap (λ (z : Bool). same_loc x.loc l || z) k ∙ or-false (same_loc x.loc l))

no_temporary : (n : ℕ) → is_temporary n ≡ false → is_named_location (loc.Machine n) result_locations ≡ false
no_temporary n e = by (nat_eq 10 n) refl
  where
    by : (b : Bool) → nat_eq 10 n ≡ b → (nat_eq 10 n || false) ≡ false
    by true h = let k : 10 ≡ n = eqb-true 10 n h in absurd (let g : is_temporary 10 ≡ false = ap (λ (z : ℕ). is_temporary z) k ∙ e in cc)
    by false h = ap (λ (z : Bool). z || false) h

callee_more : (first_location more : List Comp) → IsCallee callee.Register first_location → (t : Comp) × (ts : List Comp) × (first_location ++ more ≡ t ∷ ts)
callee_more first_location more (by_register {t}) = (t, more, refl)

pub tail_more : (result : _) (xs ys : List Comp) → HasForm (op.Calling (calling.TailCall callee.Register result)) xs ys →
    (t : Comp) × (ts : List Comp) × (xs ≡ t ∷ ts)
tail_more result xs ys (tail_calls {first} more is) = callee_more first more is

pub check_inv : (o : Right) (xs ys : List Comp) → HasForm (op.Leaving (leaving.Checkbound o)) xs ys →
    (t : Comp) × (ts : List Comp) × (xs ≡ t ∷ ts) × IsRight (operator.CmpU compare.Lt) o ts × (ys ≡ [])
check_inv o xs ys (checks {rest} {bound} h) = (bound, rest, refl, h, refl)

pub raise_inv : (xs ys : List Comp) → HasForm (op.Leaving leaving.Raise) xs ys → ys ≡ []
raise_inv xs ys raises = refl

pub call_more : (result : _) (xs ys : List Comp) → HasForm (op.Calling (calling.Call callee.Register result)) xs ys →
    (t : Comp) × (ts : List Comp) × (xs ≡ t ∷ ts)
call_more result xs ys (calls {first} more is) = callee_more first more is

-- what is after a branch is no matter
targets_up_to : (n : ℕ) (xs : List Piece) (p : Piece) (ys : List Piece) → is_target n xs ≡ false → is_among_numbers n (piece_targets p) ≡ false →
    is_branch_piece p ≡ true → is_target n (up_to_branch (xs ++ p ∷ ys)) ≡ false
targets_up_to n [] p ys e g k =
    ap (λ (z : Bool). z || is_target n (cond (is_branch_piece p) [] (up_to_branch ys))) g
    ∙ ap (λ (z : Bool). is_target n (cond z [] (up_to_branch ys))) k
targets_up_to n (x ∷ xs) p ys e g k =
    let h = or_parts _ _ e in
    ap (λ (z : Bool). z || is_target n (cond (is_branch_piece x) [] (up_to_branch (xs ++ p ∷ ys)))) h.0
    ∙ by (is_branch_piece x) (targets_up_to n xs p ys h.1 g k)
  where
    by : (b : Bool) → is_target n (up_to_branch (xs ++ p ∷ ys)) ≡ false → is_target n (cond b [] (up_to_branch (xs ++ p ∷ ys))) ≡ false
    by true h = refl
    by false h = h

module _ (m : Lin) (t : ℕ) (f : FrameLayout) (d : Option Descr) (args results : List Spot) (a : Locates m args) (r : Locates m results) where
  abbrev NamesIn : LinOp → Type 0
  NamesIn o = NamesRegisters (record { op = o; args = args; results = results }) (part_of_line t f d (record { op = o; args = args; results = results }))

  calling-names : (g : _) → HasForm (op.Calling g) (comps args) (comps results) → AreSeated (lin_operand_seats (lin.Op (op.Calling g))) (places_of args) →
      AreSeated (InOrder result_locations) (places_of results) → NamesIn (lin.Op (op.Calling g))
  calling-names (calling.Call (callee.Symbol name) result) h s u = record {
    reads = λ n e g. (lines.call_line-names n (is-apart n e) t name d args).reads ∙ sym (seated_none (loc.Machine n) argument_locations (places_of args) s g);
    writes = λ n e g. absurd (cc);
  }
  calling-names (calling.Call callee.Register result) h s u = record {
    reads = λ n e g. let i = call_more result (comps args) (comps results) h in
        (lines.call_register-names n (is-apart n e) t d args (first_numbered m args i.0 i.1 i.2 a)).reads ∙ seated_after
        (loc.Machine n) argument_locations args s g;
    writes = λ n e g. absurd (cc);
  }
  calling-names (calling.TailCall (callee.Symbol name) result) h s u = record {
    reads = λ n e g. (lines.tail_call-names n (is-apart n e) t f name args).reads ∙ sym (seated_none (loc.Machine n) argument_locations (places_of args) s g);
    writes = λ n e g. absurd (cc);
  }
  calling-names (calling.TailCall callee.Register result) h s u = record {
    reads = λ n e g. let i = tail_more result (comps args) (comps results) h in
        (lines.tail_register-names n (is-apart n e) t f args (first_numbered m args i.0 i.1 i.2 a)).reads ∙ seated_after
        (loc.Machine n) argument_locations args s g;
    writes = λ n e g. absurd (cc);
  }
  calling-names (calling.External row frame) h s u = record {
    reads = λ n e g. (lines.external-names n (is-apart n e) t row frame d).reads ∙ sym (seated_none (loc.Machine n) argument_locations (places_of args) s g);
    writes = λ n e g. (lines.external-names n (is-apart n e) t row frame d).sets
        ∙ sym (seated_none (loc.Machine n) result_locations (places_of results) u (no_temporary n g));
  }

  leaving-names : (g : _) → HasForm (op.Leaving g) (comps args) (comps results) → AreSeated (lin_operand_seats (lin.Op (op.Leaving g))) (places_of args) →
      NamesIn (lin.Op (op.Leaving g))
  leaving-names (leaving.Checkbound o) h s = record {
    reads = λ n e g. let i = check_inv o (comps args) (comps results) h in
        let x = rights m args a n (is-apart n e) t o i.0 i.1 i.2 (right_inv _ o i.1 i.3) in
        (lines.check-names n (is-apart n e) t o args (first_numbered m args i.0 i.1 i.2 a) x.0).reads ∙ x.1;
    writes = λ n e g. let i = check_inv o (comps args) (comps results) h in
        let x = rights m args a n (is-apart n e) t o i.0 i.1 i.2 (right_inv _ o i.1 i.3) in
        let b = first_numbered m args i.0 i.1 i.2 a in
        check_writes n (nat_eq 10 n || false) refl
        (lines.check-tests n (is-apart n e) t o args b x.0).sets
        ((lines.check-names n (is-apart n e) t o args b x.0).sets ∙ sym (or-false (nat_eq 10 n)))
        ∙ sym (named_none (loc.Machine n) results i.4);
  }
    where
      check_writes : (n : ℕ) (z : Bool) → (nat_eq 10 n || false) ≡ z →
          is_target n (fetch_pieces t T1 (first_location args) ++ right_words t o args) ≡ false →
          is_target n (check_part t o args) ≡ (nat_eq 10 n || false) → is_target n (cond z (up_to_branch (check_part t o args)) (check_part t o args)) ≡ false
      check_writes n true k w v = targets_up_to n (fetch_pieces t T1 (first_location args) ++ right_words t o args) _ raise_bound_error w refl refl
      check_writes n false k w v = v ∙ k
  leaving-names leaving.Raise h s = record {
    reads = λ n e g. (lines.raise-names n (is-apart n e) t).reads ∙ sym (seated_none (loc.Machine n) result_locations (places_of args) s g);
    writes = λ n e g. (lines.raise-names n (is-apart n e) t).sets ∙ sym (named_none (loc.Machine n) results (raise_inv (comps args) (comps results) h));
  }
  leaving-names leaving.Return h s = record {
    reads = λ n e g. (lines.return-names n (is-apart n e) t f).reads ∙ sym (seated_none (loc.Machine n) result_locations (places_of args) s g);
    writes = λ n e g. (lines.return-names n (is-apart n e) t f).sets ∙ sym (named_none (loc.Machine n) results (returns_none h));
  }

  enter-names : FlowHasForm flow.EnterTrap (comps args) (comps results) → NamesIn (lin.Flow flow.EnterTrap)
  enter-names h = record {
    reads = λ n e g. let i = enter_inv (comps args) (comps results) h in
        from_a0 n e (same_loc (loc.Machine 10) (first_location results)) (first_numbered m results i.1.0 [] i.1.1 r) g
        ∙ sym (named_none (loc.Machine n) args i.0);
    writes = λ n e g. absurd (cc);
  }
    where
      from_a0 : (n : ℕ) → is_reserved n ≡ false → (b : Bool) → IsNumbered (first_location results) → is_named_location (loc.Machine n) result_locations ≡ false →
          is_source n (cond b [] (copy_pieces t (loc.Machine 10) (first_location results))) ≡ false
      from_a0 n e true c g = refl
      from_a0 n e false c g =
          (copied-names n (is-apart n e) t (loc.Machine 10) (first_location results) (numbered {r = 10} refl) c).reads ∙ (sym (or-false (nat_eq 10 n)) ∙ g)

-- ---- every line

module _ (m : Lin) (t : ℕ) (f : FrameLayout) (d : Option Descr) where
  abbrev CarriedIn : LinOp → List Spot → List Spot → Type 0
  CarriedIn o args results =
      CarriesRegisters (record { op = o; args = args; results = results }) (part_of_line t f d (record { op = o; args = args; results = results }))

  copy-carried : (kind : _) (args results : List Spot) → (u v : Comp) → comps args ≡ u ∷ [] → comps results ≡ v ∷ [] → Locates m args → Locates m results →
      CarriedIn (lin.Op (op.Pure (pure.Copy kind))) args results
  copy-carried kind [] results u v e g a r = absurd (cc)
  copy-carried kind (x ∷ y ∷ args) results u v e g a r = absurd (cc)
  copy-carried kind (x ∷ []) [] u v e g a r = absurd (cc)
  copy-carried kind (x ∷ []) (y ∷ z ∷ results) u v e g a r = absurd (cc)
  copy-carried kind (x ∷ []) (y ∷ []) u v e g a r = by (same_loc x.loc y.loc) refl
    where
      by : (b : Bool) → same_loc x.loc y.loc ≡ b →
          CarriesRegisters (record { op = lin.Op (op.Pure (pure.Copy kind)); args = x ∷ []; results = y ∷ [] }) (cond b [] (copy_pieces t x.loc y.loc))
      by true k = moves_nothing (x, y, is_self_move (same_loc_is x.loc y.loc k))
      by false k = names (no_self_copy x y (first_numbered m (x ∷ []) u [] e a) k) (record {
        reads = λ n o w. (copied-names n (is-apart n o) t x.loc y.loc (first_numbered m (x ∷ []) u [] e a) (first_numbered m (y ∷ []) v [] g r)).reads
            ∙ sym (or-false (same_loc x.loc (loc.Machine n)));
        writes = λ n o w. (copied-names n (is-apart n o) t x.loc y.loc (first_numbered m (x ∷ []) u [] e a) (first_numbered m (y ∷ []) v [] g r)).sets
            ∙ sym (or-false (same_loc y.loc (loc.Machine n)));
      })

  pub line_carried : (o : LinOp) (args results : List Spot) → IsFormedLine (record { op = o; args = args; results = results }) →
      Locates m args → Locates m results → AreSeated (lin_operand_seats o) (places_of args) → AreSeated (lin_result_seats o) (places_of results) →
      CarriedIn o args results
  line_carried (lin.Op (op.Pure (pure.Copy kind))) args results (formed_op h) a r s u =
      let i = copy_inv kind (comps args) (comps results) h in copy-carried kind args results i.0 i.1 i.2 i.3 a r
  line_carried (lin.Op (op.Pure (pure.Constant w))) args results (formed_op h) a r s u =
      names (no_move refl) (registers_of (λ n. refl) (constant-plain m t f d args results a r w h))
  line_carried (lin.Op (op.Pure (pure.Symbol name))) args results (formed_op h) a r s u =
      names (no_move refl) (registers_of (λ n. refl) (symbol-plain m t f d args results a r name h))
  line_carried (lin.Op (op.Pure (pure.Operator g o))) args results (formed_op h) a r s u =
      names (no_move refl) (registers_of (λ n. refl) (operator-plain m t f d args results a r g o h))
  line_carried (lin.Op (op.Access g)) args results (formed_op h) a r s u = names (no_move refl) (registers_of (λ n. refl) (access-plain m t f d args results a r g h))
  line_carried (lin.Op (op.Calling g)) args results (formed_op h) a r s u = names (no_move refl) (calling-names m t f d args results a r g h s u)
  line_carried (lin.Op (op.Leaving g)) args results (formed_op h) a r s u = names (no_move refl) (leaving-names m t f d args results a r g h s)
  line_carried (lin.Flow flow.EnterTrap) args results (formed_flow h) a r s u = names (no_move refl) (enter-names m t f d args results a r h)
  line_carried (lin.Flow (flow.Label l)) args results (formed_flow h) a r s u =
      names (no_move refl) (registers_of (λ n. refl) (flow-plain m t f d args results a r (flow.Label l) h (λ k. absurd (cc))))
  line_carried (lin.Flow (flow.Jump l)) args results (formed_flow h) a r s u =
      names (no_move refl) (registers_of (λ n. refl) (flow-plain m t f d args results a r (flow.Jump l) h (λ k. absurd (cc))))
  line_carried (lin.Flow (flow.Exit l)) args results (formed_flow h) a r s u =
      names (no_move refl) (registers_of (λ n. refl) (flow-plain m t f d args results a r (flow.Exit l) h (λ k. absurd (cc))))
  line_carried (lin.Flow (flow.Branch g l)) args results (formed_flow h) a r s u =
      names (no_move refl) (registers_of (λ n. refl) (flow-plain m t f d args results a r (flow.Branch g l) h (λ k. absurd (cc))))
  line_carried (lin.Flow (flow.Switch ls)) args results (formed_flow h) a r s u =
      names (no_move refl) (registers_of (λ n. refl) (flow-plain m t f d args results a r (flow.Switch ls) h (λ k. absurd (cc))))
  line_carried (lin.Flow (flow.PushTrap l)) args results (formed_flow h) a r s u =
      names (no_move refl) (registers_of (λ n. refl) (flow-plain m t f d args results a r (flow.PushTrap l) h (λ k. absurd (cc))))
  line_carried (lin.Flow flow.PopTrap) args results (formed_flow h) a r s u =
      names (no_move refl) (registers_of (λ n. refl) (flow-plain m t f d args results a r flow.PopTrap h (λ k. absurd (cc))))

-- ---- every line of a function

pub carried : (m : Lin) → WellFormed m → Seated m → (i : Line) → Contains m.code i → (t : ℕ) (f : FrameLayout) (d : Option Descr) →
    CarriesRegisters i (part_of_line t f d i)
carried m w s i c t f d =
    let at = All-contains (λ (i : Line). Locates m i.args × Locates m i.results) m.code i w.locations c in
    line_carried m t f d i.op i.args i.results (All-contains IsFormedLine m.code i w.forms c) at.0 at.1 (s.operands i c) (s.results i c)
