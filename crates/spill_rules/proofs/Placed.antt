-- A well-placed function is so with its spills and reloads, and what the conventions put at fixed places is there.
use Rattle.std.proofs.Common.{◌≡◌, ◌≢◌, ℕ, ◌≤◌, Bool, true, false, cond, ◌⊎◌, inl, inr, ⊎_elim, List, [], ◌∷◌, length, refl, sym, ap, ◌∙◌, subst}
use Rattle.std.specs.List.{Contains}
use Rattle.bs_words.specs.declared.types.Loc.TheVariants as loc
use Rattle.bs_words.proofs.Lists.{none_in, first_in}
use Rattle.mach_ir.specs.Acts.{Target, On, At}
use Rattle.mach_ir.specs.Formed.{WellFormed}
use Rattle.mach_ir.specs.Meaning.{after_label, code_at}
use Rattle.mach_ir.specs.Placed as placing
use Rattle.mach_ir.specs.Placed.{colour_numbers, HasColourOrSlot, in_colour, MayShare, WellPlaced}
use Rattle.mach_ir.specs.Seats.{AreSeated, anywhere, places_of, mach_operand_seats, mach_result_seats, Seated}
use Rattle.mach_ir.specs.Walks.{AmongRegisters, first, later, OneOf, targets, goes, Writes, Live, LiveAfter, after_step, IsRegister, is_in_code, StandsAsInstr, Meets, at_write, at_params, Joined, one_way, other_way}
use Rattle.mach_ir.specs.declared.reg.Reg.{Reg}
use Rattle.mach_ir.specs.declared.mach.Instr.{Instr}
use Rattle.mach_ir.specs.declared.mach.Mach.{Mach}
use Rattle.mach_laws.specs.Expand.{expand, Ending, all}
use Rattle.mach_laws.proofs.Places.{label_expand, ending_next, ending_label, ending_of, results_in, contains_of, stands_in}
use Rattle.split_rules.proofs.Known.{machine_slot, colour_place}
use Rattle.spill_rules.specs.Spilled.{SpillPlan, in_slot, written_results, has_results, spilled_instr, spilled, IsSpillPlan}
use Rattle.spill_rules.proofs.Formed.{IsCopy, is_reload, is_spill, IsMain, was_main}
use Rattle.spill_rules.proofs.Registers.{Which, own, slotted, WasRegister, was_register}
use Rattle.spill_rules.proofs.Live.{Storing, Laid, laid_of, laid_results, WasLive, itself, stored, IsResult, is_result, live_back, live_before}
use Rattle.spill_rules.proofs.Text.{keeps_marks}
use Rattle.bs_words.proofs.Places.{same_slot}

module _ (m : Mach) (plan : SpillPlan) (formed : WellFormed m) (placed : WellPlaced m) (is : IsSpillPlan m plan) where
  abbrev q : Mach
  q = spilled plan m

  abbrev g : ℕ → Instr → List Instr
  g = spilled_instr plan

  number : {r k : Reg} → r ≡ k → r.number ≡ k.number
  number e = ap (λ (r : Reg). r.number) e

  -- ---- what is live in the second is live in the first, for a register of the first

  of_own : (k : Reg) → IsRegister m k → (rest : List Instr) → WasLive m plan formed placed is k.number rest → Live m k.number rest
  of_own k i rest (itself v) = v
  of_own k i rest (stored n s v t) = absurd (is.fresh k i n s)

  after_own : (k : Reg) → IsRegister m k → (j : Instr) (ys : List Instr) (w : IsMain plan j ys m.code) → LiveAfter q k.number j ys →
      LiveAfter m k.number j w.next
  after_own k i j ys w (after_step (goes t o) v) = by t o v
    where
      ending : Ending (j ∷ w.next) m.code
      ending = ending_of w.stands

      result_in : (r : Reg) → Contains (written_results j) r → Contains j.results r
      result_in r c = in_cond (has_results j.op) c
        where
          in_cond : (b : Bool) → Contains (cond b j.results []) r → Contains j.results r
          in_cond true c = c
          in_cond false c = absurd (none_in r c)

      laid : Laid m plan formed placed is (Storing j w.next (written_results j)) ys
      laid =
          subst (Laid m plan formed placed is (Storing j w.next (written_results j))) w.same
          (laid_results m plan formed placed is j w.next (written_results j) (expand g w.next) result_in
          (laid_of m plan formed placed is w.next (ending_next ending)))

      by : (t : Target) → OneOf t (targets j.op) → Live q k.number (code_at q.code ys t) → LiveAfter m k.number j w.next
      by On o v =
          ⊎_elim (λ r. of_result r o)
          (λ h. after_step (goes On o) (of_own k i w.next h.0))
          (live_back m plan formed placed is v (Storing j w.next (written_results j)) laid)
        where
          of_result : IsResult m plan formed placed is k.number j (length w.next) → OneOf On (targets j.op) → LiveAfter m k.number j w.next
          of_result (is_result r c t e) o =
              after_step (goes On o) (subst (λ n. Live m n w.next) e (is.useful j w.next r w.stands c t))
      by (At l) o v =
          after_step (goes (At l) o)
          (of_own k i (after_label l m.code)
          (live_before m plan formed placed is (ending_label l m.code)
          (subst (Live q k.number) (label_expand g (keeps_marks plan) l m.code) v)))

  -- ---- the graph

  -- no copy writes a register of the first that has a place
  not_copied : (r : Reg) → IsRegister m r → r.loc ≢ loc.Unset → (j : Instr) (ys : List Instr) → StandsAsInstr j ys q.code → IsCopy plan j →
      Writes q j r.number → ⊥
  not_copied r i fixed j ys s (is_reload k t told e) w =
      by (was_register m plan formed placed is t there)
    where
      result : Contains j.results t
      result = subst (λ (j : Instr). Contains j.results t) (sym e) (first_in t [])

      there : IsRegister q t
      there = is_in_code (results_in s result)

      one : {x : ℕ} → AmongRegisters x (t ∷ []) → t.number ≡ x
      one (first e) = e
      one (later a) = elim a [ ]

      same : t.number ≡ r.number
      same = one (subst (λ (j : Instr). Writes q j r.number) e w)

      by : WasRegister m plan formed placed is t → ⊥
      by v = of_which v.which
        where
          of_which : Which m plan formed placed is v.register t → ⊥
          of_which (own x) =
              let known : IsRegister m t = subst (IsRegister m) x v.among in
              let eq : t ≡ r = formed.numbers t r known i same in
              fixed (ap (λ (r : Reg). r.loc) (sym eq) ∙ is.reloads_open t known k told)
          of_which (slotted x) = is.fresh r i v.register.number (number x ∙ same)
  not_copied r i fixed j ys s (is_spill t e) w =
      is.fresh r i t.number (one (subst (λ (j : Instr). Writes q j r.number) e w))
    where
      one : {x : ℕ} → AmongRegisters x (in_slot plan t ∷ []) → plan.slot t.number ≡ x
      one (first e) = e
      one (later a) = elim a [ ]

  meets_back : (r k : Reg) → IsRegister m r → IsRegister m k → r.loc ≢ loc.Unset → Meets q r.number k.number → Meets m r.number k.number
  meets_back r k i j fixed (at_write x ys s w v apart) =
      ⊎_elim (λ c. absurd (not_copied r i fixed x ys s c w))
      (λ o. at_write x o.next o.stands w (after_own k j x ys o v) apart) (was_main plan m.code x ys s)
  meets_back r k i j fixed (at_params a v) =
      at_params a (of_own k j m.code (live_before m plan formed placed is all v))

  joined_back : (r k : Reg) → IsRegister m r → IsRegister m k → r.loc ≢ loc.Unset → k.loc ≢ loc.Unset → Joined q r.number k.number →
      Joined m r.number k.number
  joined_back r k i j x y (one_way e h) = one_way e (meets_back r k i j x h)
  joined_back r k i j x y (other_way e h) = other_way e (meets_back k r j i y h)

  -- ---- places

  place_of : (r w : Reg) → IsRegister m w → Which m plan formed placed is w r → (r.loc ≡ loc.Unset) ⊎ HasColourOrSlot r
  place_of r w i (own e) = subst (λ (r : Reg). (r.loc ≡ loc.Unset) ⊎ HasColourOrSlot r) e ((placed.agree).places w i)
  place_of r w i (slotted e) = inr (subst HasColourOrSlot e (placing.in_slot refl))

  in_slot_of : (r : Reg) (n : ℕ) → HasColourOrSlot r → r.loc ≡ loc.Slot n → (n ≡ r.origin) × (r.loc ≡ loc.Slot r.origin)
  in_slot_of r n (in_colour k c h) e = absurd (machine_slot h e)
  in_slot_of r n (placing.in_slot h) e = (same_slot e h, h)

  apart : (r k : Reg) → IsRegister q r → IsRegister q k → Joined q r.number k.number → r.loc ≢ loc.Unset → r.loc ≡ k.loc → MayShare r k
  apart r k i j joined fixed e =
      let w = was_register m plan formed placed is r i in
      let v = was_register m plan formed placed is k j in
      by w.register v.register w.among v.among w.which v.which (place_of r w.register w.among w.which) (place_of k v.register v.among v.which)
    where
      also : k.loc ≢ loc.Unset
      also u = fixed (e ∙ u)

      by : (w v : Reg) → IsRegister m w → IsRegister m v → Which m plan formed placed is w r → Which m plan formed placed is v k →
          (r.loc ≡ loc.Unset) ⊎ HasColourOrSlot r → (k.loc ≡ loc.Unset) ⊎ HasColourOrSlot k → MayShare r k
      by w v a b x y (inl u) z = absurd (fixed u)
      by w v a b x y (inr p) (inl u) = absurd (also u)
      by w v a b (own x) (own y) (inr p) (inr s) =
          let one : IsRegister m r = subst (IsRegister m) x a in
          let other : IsRegister m k = subst (IsRegister m) y b in
          (placed.agree).apart r k one other (joined_back r k one other fixed also joined) fixed e
      by w v a b (slotted x) y (inr p) (inr s) =
          let at : r.loc ≡ loc.Slot w.origin = sym (ap (λ (r : Reg). r.loc) x) in
          let mine = in_slot_of r w.origin p at in
          let its = in_slot_of k w.origin s (sym e ∙ at) in
          (sym mine.0 ∙ its.0, mine.1)
      by w v a b x (slotted y) (inr p) (inr s) =
          let at : k.loc ≡ loc.Slot v.origin = sym (ap (λ (r : Reg). r.loc) y) in
          let mine = in_slot_of r v.origin p (e ∙ at) in
          let its = in_slot_of k v.origin s at in
          (sym mine.0 ∙ its.0, mine.1)

  least_of : (r k w : Reg) → Contains m.colours r → IsRegister m w → Which m plan formed placed is w k → k.loc ≡ r.loc →
      r.number ≤ k.number
  least_of r k w c i (own x) e =
      subst (λ n. r.number ≤ n) (number x) ((placed.colours).least r w c i (ap (λ (r : Reg). r.loc) x ∙ e))
  least_of r k w c i (slotted x) e =
      let p = colour_place placed r c in absurd (machine_slot p.1 (sym e ∙ sym (ap (λ (r : Reg). r.loc) x)))

  pub spilled_placed : WellPlaced (spilled plan m)
  spilled_placed =
      record {
        colours = record {
          each = (placed.colours).each;
          least = λ r k c i e.
              let w = was_register m plan formed placed is k i in least_of r k w.register c w.among w.which e;
        };
        agree = record {
          places = λ r i. let w = was_register m plan formed placed is r i in place_of r w.register w.among w.which;
          apart = apart;
        };
      }

  -- ---- seats

  copy_args : (j : Instr) → IsCopy plan j → AreSeated (mach_operand_seats j.op) (places_of j.args)
  copy_args j (is_reload k r t e) = subst (λ (j : Instr). AreSeated (mach_operand_seats j.op) (places_of j.args)) (sym e) anywhere
  copy_args j (is_spill r e) = subst (λ (j : Instr). AreSeated (mach_operand_seats j.op) (places_of j.args)) (sym e) anywhere

  copy_results : (j : Instr) → IsCopy plan j → AreSeated (mach_result_seats j.op) (places_of j.results)
  copy_results j (is_reload k r t e) = subst (λ (j : Instr). AreSeated (mach_result_seats j.op) (places_of j.results)) (sym e) anywhere
  copy_results j (is_spill r e) = subst (λ (j : Instr). AreSeated (mach_result_seats j.op) (places_of j.results)) (sym e) anywhere

  pub spilled_seated : Seated m → Seated (spilled plan m)
  spilled_seated seated =
      record {
        params = seated.params;
        operands = λ i c.
            let s = stands_in q.code i c in
            ⊎_elim (λ k. copy_args i k) (λ w. seated.operands i (contains_of w.stands)) (was_main plan m.code i s.0 s.1);
        results = λ i c.
            let s = stands_in q.code i c in
            ⊎_elim (λ k. copy_results i k) (λ w. seated.results i (contains_of w.stands)) (was_main plan m.code i s.0 s.1);
      }
