-- A well-placed function is so with its reloads and spills, and what the conventions place is there.
use Rattle.std.proofs.Common.{◌≡◌, ◌≢◌, ℕ, suc, ◌<◌, Bool, true, false, cond, ◌⊎◌, inl, inr, ⊎_elim, List, [], ◌∷◌, ◌++◌, refl, sym, ap, ◌∙◌, subst, arith}
use Rattle.std.specs.List.{Contains}
use Rattle.std.proofs.lemmas.List.Elements.{All-contains}
use Rattle.std.proofs.lemmas.Bool.{false≢true}
use Rattle.bs_words.specs.declared.types.Comp.{Comp}
use Rattle.bs_words.specs.declared.types.Loc.{Loc}
use Rattle.bs_words.specs.declared.types.Loc.TheVariants as loc
use Rattle.mach_ir.specs.Acts.{Target, On, At}
use Rattle.mach_ir.specs.Forms.{HasForm, copies, constant, symbol, operates, loads, stores, allocates, calls, tail_calls, calls_out, checks, raises, returns}
use Rattle.mach_ir.specs.Formed.{comps, MarkHasForm, exit_form, if_form, else_form, switch_form, case_form, catch_form, with_form, try_form, leave_form, handler_form, end_form, IsFormedInstruction, formed_op, formed_mark, WellFormed}
use Rattle.mach_ir.specs.Meaning.{code_at, killed}
use Rattle.mach_ir.specs.Placed.{HasColourOrSlot, MayShare, WellPlaced}
use Rattle.mach_ir.specs.Seats.{Seats, Anywhere, InOrder, AfterFirst, AreSeated, anywhere, in_order, after_first, places_of, mach_operand_seats, mach_result_seats, Seated}
use Rattle.mach_ir.specs.Walks.{AmongRegisters, first, later, OneOf, this, other, targets, goes, Live, LiveAfter, after_step, Writes, IsMove, is_move, StandsAsInstr, IsRegister, is_colour, Meets, at_write, at_params, Joined, one_way, other_way}
use Rattle.mach_ir.specs.declared.op.Op.{Op}
use Rattle.mach_ir.specs.declared.op.CopyKind.TheVariants as copy
use Rattle.mach_ir.specs.declared.reg.Reg.{Reg}
use Rattle.mach_ir.specs.declared.mach.Mark.{Mark}
use Rattle.mach_ir.specs.declared.mach.MachOp.TheVariants as mach
use Rattle.mach_ir.specs.declared.mach.Instr.{Instr}
use Rattle.mach_ir.specs.declared.mach.Mach.{Mach}
use Rattle.mach_laws.specs.Expand.{all}
use Rattle.mach_laws.proofs.Places.{label_expand, ending_label, ending_of, contains_of}
use Rattle.mach_laws.proofs.Among.{left_among, right_among, split_among, number_among, among_of}
use Rattle.colouring_rules.specs.Places.{ColoursLow}
use Rattle.colouring_rules.proofs.Open.{machine_open}
use Rattle.colouring_rules.proofs.Whole.{AreRegisters, FixedSeats, fixed_in_order, fixed_after_first, fixed_operands, fixed_results, tail_fixed, head_fixed}
use Rattle.colouring_rules.proofs.Walked.{colour_place}
use Rattle.spill_rules.specs.Spilled.{copy_instruction}
use Rattle.spill_rules.proofs.Chosen.{no_result}
use Rattle.reload_rules.specs.Reloaded.{reads_registers, writes_registers, is_in_slot, is_renewed, fresh_stand_in, next_reload_number, renewed}
use Rattle.reload_rules.proofs.Passed.{laid_after}
use Rattle.reload_rules.proofs.Live.{IsNumbering, reloaded_by, ForResult, Storing, Laid, FreshResult, is_result, killed_same, live_back, live_before}
use Rattle.reload_rules.proofs.Numbers.{WasIn, was_own, was_fresh, for_in, for_slot, was_in}
use Rattle.reload_rules.proofs.Parts.{first_operand, first_result, main_for, Part, part_reload, part_main, part_spill, part_at, IsCopy, is_copy, part_in}
use Rattle.reload_rules.proofs.Registers.{for_operand, for_result, made_free, WasRegister, is_old, is_new, was_register}
use Rattle.reload_rules.proofs.Text.{laid_instr, keeps_marks}

-- ---- what has results goes on

op_goes : (g : Op) (cs ds : List Comp) → HasForm g cs ds → (ds ≡ []) ⊎ OneOf On (targets (mach.Op g))
op_goes g cs ds copies = inr this
op_goes g cs ds (constant w) = inr this
op_goes g cs ds symbol = inr this
op_goes g cs ds (operates h) = inr this
op_goes g cs ds loads = inr this
op_goes g cs ds stores = inr this
op_goes g cs ds (allocates w x y z) = inr this
op_goes g cs ds (calls arguments h) = inr this
op_goes g cs ds (tail_calls arguments h) = inl refl
op_goes g cs ds calls_out = inr this
op_goes g cs ds (checks h) = inr this
op_goes g cs ds raises = inl refl
op_goes g cs ds (returns result) = inl refl

mark_goes : (g : Mark) (cs ds : List Comp) → MarkHasForm g cs ds → (ds ≡ []) ⊎ OneOf On (targets (mach.Mark g))
mark_goes g cs ds exit_form = inl refl
mark_goes g cs ds (if_form h) = inl refl
mark_goes g cs ds else_form = inl refl
mark_goes g cs ds switch_form = inl refl
mark_goes g cs ds case_form = inl refl
mark_goes g cs ds catch_form = inl refl
mark_goes g cs ds with_form = inl refl
mark_goes g cs ds try_form = inl refl
mark_goes g cs ds leave_form = inl refl
mark_goes g cs ds handler_form = inr this
mark_goes g cs ds end_form = inl refl

results_go_on : {i : Instr} (r : Reg) → IsFormedInstruction i → Contains i.results r → OneOf On (targets i.op)
results_go_on r (formed_op {f = g} {args = args} {results = results} h) c =
    ⊎_elim (λ e. absurd (no_result results r e c)) (λ o. o) (op_goes g (comps args) (comps results) h)
results_go_on r (formed_mark {f = g} {args = args} {results = results} h) c =
    ⊎_elim (λ e. absurd (no_result results r e c)) (λ o. o) (mark_goes g (comps args) (comps results) h)

-- ---- seats

not_renewed : (b : Bool) (r : Reg) (n : ℕ) → r.loc ≡ loc.Machine n → is_renewed b r ≡ false
not_renewed true r n e = ap is_in_slot e
not_renewed false r n e = refl

same_places : (b : Bool) (n : ℕ) (rs : List Reg) (more : List Loc) → AreRegisters (places_of rs ++ more) →
    places_of (renewed b n rs) ≡ places_of rs
same_places b n [] more h = refl
same_places b n (r ∷ rs) more h =
    let k = head_fixed h in
    ap (λ t. (cond t (fresh_stand_in n r) r).loc ∷ places_of (renewed b (next_reload_number b n r) rs)) (not_renewed b r k.0 k.1)
    ∙ ap (λ ls. r.loc ∷ ls) (same_places b (next_reload_number b n r) rs more (tail_fixed h))

still_seated : (z : Seats) (b : Bool) (n : ℕ) (rs : List Reg) → FixedSeats z → AreSeated z (places_of rs) →
    AreSeated z (places_of (renewed b n rs))
still_seated Anywhere b n rs f h = anywhere
still_seated (InOrder places) b n rs (fixed_in_order f) (in_order more e) =
    in_order more (ap (λ ls. ls ++ more) (same_places b n rs more (subst AreRegisters (sym e) f)) ∙ e)
still_seated (AfterFirst places) b n [] f h = elim h [ ]
still_seated (AfterFirst places) b n (r ∷ rs) (fixed_after_first f) (after_first more e) =
    after_first more (ap (λ ls. ls ++ more) (same_places b (next_reload_number b n r) rs more (subst AreRegisters (sym e) f)) ∙ e)

module _ (m : Mach) (s : ℕ → ℕ) (free top : ℕ) (formed : WellFormed m) (placed : WellPlaced m) (is : IsNumbering m s free top) where
  abbrev q : Mach
  q = reloaded_by s m

  abbrev f : ℕ → Instr → List Instr
  f = laid_instr s

  abbrev over : Instr → List Instr → Instr
  over i next = main_for m s free top formed placed is i next

  abbrev Result : Instr → List Instr → ℕ → Reg → Type 0
  Result = ForResult m s free top formed placed is

  form_of : {i : Instr} {next : List Instr} → StandsAsInstr i next m.code → IsFormedInstruction i
  form_of {i} t = All-contains IsFormedInstruction m.code i formed.instrs (contains_of t)

  only_number : {x : ℕ} (r : Reg) → AmongRegisters x (r ∷ []) → r.number ≡ x
  only_number r (first e) = e
  only_number r (later a) = elim a [ ]

  -- ---- the graph

  result_high : {i : Instr} {next : List Instr} {n x : ℕ} → StandsAsInstr i next m.code → x < free → FreshResult m s free top formed placed is i next n x → ⊥
  result_high t lt (is_result w g le) =
      let high = made_free m s free top formed placed is t (for_result g) in omega (arith, lt, high)

  -- what it writes over fresh registers, of those of the first, it wrote
  writes_back : (x : ℕ) (i : Instr) (next : List Instr) → StandsAsInstr i next m.code → x < free → Writes q (over i next) x → Writes m i x
  writes_back x i next t lt w =
      ⊎_elim
      (λ a.
      let k = number_among (over i next).results a in
      of k.0 k.2 (was_in (writes_registers i.op) (first_result m s free top formed placed is i next) i.results k.0 k.1))
      (λ a. right_among i.results (killed m i) (subst (AmongRegisters x) (killed_same m s free top formed placed is i next) a))
      (split_among x (over i next).results (killed q (over i next)) w)
    where
      of : (k : Reg) → k.number ≡ x → WasIn (writes_registers i.op) (first_result m s free top formed placed is i next) i.results k → Writes m i x
      of k e (was_own c u) = left_among i.results (killed m i) (subst (λ n. AmongRegisters n i.results) e (among_of k i.results c))
      of k e (was_fresh y w g h) =
          let high = made_free m s free top formed placed is t (for_result g) in
          let number : y ≡ k.number = ap (λ (r : Reg). r.number) h in absurd (omega (arith, lt, high, number, e))

  after_main : (x : ℕ) (i : Instr) (next ys : List Instr) → StandsAsInstr i next m.code → x < free →
      Laid m s free top formed placed is (Storing i next (first_result m s free top formed placed is i next) i.results) ys →
      LiveAfter q x (over i next) ys → LiveAfter m x i next
  after_main x i next ys t lt laid (after_step (goes to o) v) = by to o v
    where
      by : (to : Target) → OneOf to (targets i.op) → Live q x (code_at q.code ys to) → LiveAfter m x i next
      by On o v =
          ⊎_elim (λ h. absurd (result_high t lt h)) (λ h. after_step (goes On o) h.0)
          (live_back m s free top formed placed is v (Storing i next (first_result m s free top formed placed is i next) i.results) laid)
      by (At l) o v =
          after_step (goes (At l) o)
          (live_before m s free top formed placed is (ending_label l m.code)
          (subst (Live q x) (label_expand f (keeps_marks s) l m.code) v))

  after_copy : (x n : ℕ) (r : Reg) (i : Instr) (next ys : List Instr) (rs : List Reg) → StandsAsInstr i next m.code → x < free →
      Laid m s free top formed placed is (Storing i next (suc n) rs) ys → LiveAfter q x (copy_instruction copy.Spill (fresh_stand_in n r) r) ys → Live m x next
  after_copy x n r i next ys rs t lt laid (after_step (goes to o) v) = by to o v
    where
      by : (to : Target) → OneOf to (On ∷ []) → Live q x (code_at q.code ys to) → Live m x next
      by On o v =
          ⊎_elim (λ h. absurd (result_high t lt h)) (λ h. h.0)
          (live_back m s free top formed placed is v (Storing i next (suc n) rs) laid)
      by (At l) (other o) v = elim o [ ]

  move_over : {k n : ℕ} {i : Instr} (next : List Instr) → IsMove k n i → IsMove k n (over i next)
  move_over next (is_move e h) = is_move e h

  move_none : {k n x : ℕ} {i : Instr} (next : List Instr) {w : Reg} → IsMove k n i → Result i next x w → ⊥
  move_none next (is_move e h) g = false≢true (for_slot false g)

  meets_back : (n k : ℕ) → n < free → k < free → Meets q n k → Meets m n k
  meets_back n k low lt (at_params a v) = at_params a (live_before m s free top formed placed is all v)
  meets_back n k low lt (at_write j ys z w v none) = by (part_at m s free top formed placed is j ys z)
    where
      by : Part m s free top formed placed is j ys → Meets m n k
      by (part_reload i next x r t g e) =
          let number = only_number (fresh_stand_in x r) (subst (λ j. Writes q j n) (sym e) w) in
          let high = made_free m s free top formed placed is t (for_operand g) in absurd (omega (arith, low, high, number))
      by (part_main i next t e h) =
          at_write i next t (writes_back n i next t low (subst (λ j. Writes q j n) (sym e) w))
          (after_main k i next ys t lt
          (subst (Laid m s free top formed placed is (Storing i next (first_result m s free top formed placed is i next) i.results)) h
          (laid_after m s free top formed placed is i next (ending_of t)))
          (subst (λ j. LiveAfter q k j ys) (sym e) v))
          (λ move. none (subst (IsMove k n) e (move_over next move)))
      by (part_spill i next x r rs t g e l) =
          let number = only_number r (subst (λ j. Writes q j n) (sym e) w) in
          at_write i next t
          (left_among i.results (killed m i) (subst (λ n. AmongRegisters n i.results) number (among_of r i.results (for_in (writes_registers i.op) g))))
          (after_step (goes On (results_go_on r (form_of t) (for_in (writes_registers i.op) g)))
          (after_copy k x r i next ys rs t lt l (subst (λ j. LiveAfter q k j ys) (sym e) v)))
          (λ move. move_none next move g)

  joined_back : (n k : ℕ) → n < free → k < free → Joined q n k → Joined m n k
  joined_back n k low lt (one_way e h) = one_way e (meets_back n k low lt h)
  joined_back n k low lt (other_way e h) = other_way e (meets_back k n lt low h)

  -- ---- places

  old : (r : Reg) → IsRegister q r → WasRegister m s free top formed placed is r
  old r i = was_register m s free top formed placed is r i

  old_if_placed : (r : Reg) → WasRegister m s free top formed placed is r → r.loc ≢ loc.Unset → IsRegister m r
  old_if_placed r (is_old a) h = a
  old_if_placed r (is_new i next x w t g e) h = absurd (h (sym (ap (λ (r : Reg). r.loc) e)))

  place_of : (r : Reg) → WasRegister m s free top formed placed is r → (r.loc ≡ loc.Unset) ⊎ HasColourOrSlot r
  place_of r (is_old a) = (placed.agree).places r a
  place_of r (is_new i next x w t g e) = inl (sym (ap (λ (r : Reg). r.loc) e))

  apart : (r k : Reg) → IsRegister q r → IsRegister q k → Joined q r.number k.number → r.loc ≢ loc.Unset → r.loc ≡ k.loc → MayShare r k
  apart r k i j joined fixed e =
      let a = old_if_placed r (old r i) fixed in
      let b = old_if_placed k (old k j) (λ u. fixed (e ∙ u)) in
      (placed.agree).apart r k a b (joined_back r.number k.number (is.above r a) (is.above k b) joined) fixed e

  pub reloaded_placed : WellPlaced (reloaded_by s m)
  reloaded_placed =
      record {
        colours = record {
          each = (placed.colours).each;
          least = λ r k c i e.
              let p = colour_place placed r c in
              (placed.colours).least r k c (old_if_placed k (old k i) (λ u. machine_open (e ∙ p.1) u)) e;
        };
        agree = record { places = λ r i. place_of r (old r i); apart = apart };
      }

  pub reloaded_low : ColoursLow m → ColoursLow (reloaded_by s m)
  reloaded_low low r k c i open_one = by (old k i)
    where
      by : WasRegister m s free top formed placed is k → r.number < k.number
      by (is_old a) = low r k c a open_one
      by (is_new j next x w t g e) =
          let lt = is.above r (is_colour c) in
          let high = made_free m s free top formed placed is t g in
          let number : x ≡ k.number = ap (λ (r : Reg). r.number) e in omega (arith, lt, high, number)

  -- ---- seats

  copy_args : (j : Instr) → IsCopy m s free top formed placed is j → AreSeated (mach_operand_seats j.op) (places_of j.args)
  copy_args j (is_copy kind from to e) = subst (λ (j : Instr). AreSeated (mach_operand_seats j.op) (places_of j.args)) e anywhere

  copy_results : (j : Instr) → IsCopy m s free top formed placed is j → AreSeated (mach_result_seats j.op) (places_of j.results)
  copy_results j (is_copy kind from to e) = subst (λ (j : Instr). AreSeated (mach_result_seats j.op) (places_of j.results)) e anywhere

  pub reloaded_seated : Seated m → Seated (reloaded_by s m)
  reloaded_seated seated =
      record {
        params = seated.params;
        operands = λ j c.
            let z = part_in m s free top formed placed is j c in
            ⊎_elim (λ k. copy_args j k)
            (λ w.
            subst (λ (j : Instr). AreSeated (mach_operand_seats j.op) (places_of j.args)) w.same
            (still_seated (mach_operand_seats (w.instr).op) (reads_registers (w.instr).op) (first_operand m s free top formed placed is w.next)
            (w.instr).args (fixed_operands (w.instr).op) (seated.operands w.instr (contains_of w.stands))))
            z.1;
        results = λ j c.
            let z = part_in m s free top formed placed is j c in
            ⊎_elim (λ k. copy_results j k)
            (λ w.
            subst (λ (j : Instr). AreSeated (mach_result_seats j.op) (places_of j.results)) w.same
            (still_seated (mach_result_seats (w.instr).op) (writes_registers (w.instr).op)
            (first_result m s free top formed placed is w.instr w.next) (w.instr).results (fixed_results (w.instr).op)
            (seated.results w.instr (contains_of w.stands))))
            z.1;
      }
