-- What each register of a function with its spills and reloads was: a register itself, or the slot of one.
use Rattle.std.proofs.Common.{◌≡◌, ℕ, Bool, true, false, cond, inl, inr, ◌⊎◌, ⊎_elim, List, [], ◌∷◌, ◌++◌, length, refl, sym, ap, ◌∙◌}
use Rattle.std.specs.List.{Contains}
use Rattle.bs_words.specs.declared.types.Loc.TheVariants as loc
use Rattle.bs_words.proofs.Lists.{none_in, first_in, later_in, in_cons}
use Rattle.mach_ir.specs.Formed.{WellFormed}
use Rattle.mach_ir.specs.Placed.{WellPlaced}
use Rattle.mach_ir.specs.Walks.{IsRegister, is_param, is_colour, is_in_code, InCode, in_args, in_results, further}
use Rattle.mach_ir.specs.declared.reg.Reg.{Reg}
use Rattle.mach_ir.specs.declared.mach.Instr.{Instr}
use Rattle.mach_ir.specs.declared.mach.Mach.{Mach}
use Rattle.mach_laws.specs.Expand.{expand}
use Rattle.spill_rules.specs.Spilled.{SpillPlan, in_slot, reload, spill, reloads_of, spills_of, operand_registers, written_results, spilled_instr, spilled, IsSpillPlan}
use Rattle.spill_rules.proofs.Text.{operand_in, written_in}

pub in_append : {r : Reg} (xs ys : List Instr) → InCode r (xs ++ ys) → InCode r xs ⊎ InCode r ys
in_append [] ys c = inr c
in_append (x ∷ xs) ys (in_args c) = inl (in_args c)
in_append (x ∷ xs) ys (in_results c) = inl (in_results c)
in_append (x ∷ xs) ys (further c) = ⊎_elim (λ h. inl (further h)) inr (in_append xs ys c)

module _ (m : Mach) (plan : SpillPlan) (formed : WellFormed m) (placed : WellPlaced m) (is : IsSpillPlan m plan) where
  abbrev q : Mach
  q = spilled plan m

  abbrev f : ℕ → Instr → List Instr
  f = spilled_instr plan

  -- what a register of the second was
  pub data Which (w r : Reg) : Type 0 where
    own : w ≡ r → Which w r
    slotted : in_slot plan w ≡ r → Which w r

  pub data IsCopiedAt (n : ℕ) : Type 0 where
    by_reload : (k : ℕ) → plan.reloads k n ≡ true → IsCopiedAt n
    by_spill : (k : ℕ) → plan.spills k n ≡ true → IsCopiedAt n

  pub record WasRegister (r : Reg) : Type 0 where
    pub register : Reg
    pub among : IsRegister m register
    pub which : Which register r
    -- only an open register has a slot
    pub unset : in_slot plan register ≡ r → register.loc ≡ loc.Unset
    -- and one that is copied somewhere
    pub copied : in_slot plan register ≡ r → IsCopiedAt register.number

  -- a register of the first is no slot of another
  not_its_slot : (r : Reg) → IsRegister m r → in_slot plan r ≡ r → r.loc ≡ loc.Unset
  not_its_slot r i e = absurd (is.fresh r i r.number (ap (λ (x : Reg). x.number) e))

  not_copied : (r : Reg) → IsRegister m r → in_slot plan r ≡ r → IsCopiedAt r.number
  not_copied r i e = absurd (is.fresh r i r.number (ap (λ (x : Reg). x.number) e))

  itself_was : (r : Reg) → IsRegister m r → WasRegister r
  itself_was r i =
      record { register = r; among = i; which = own refl; unset = not_its_slot r i; copied = not_copied r i }

  of_one : (x r : Reg) → Contains (x ∷ []) r → x ≡ r
  of_one x r c = ⊎_elim (λ e. e) (λ d. absurd (none_in r d)) (in_cons x r [] c)

  in_reloads : (k : ℕ) (rs : List Reg) (r : Reg) → ((w : Reg) → Contains rs w → IsRegister m w) → InCode r (reloads_of plan k rs) → WasRegister r
  in_reloads k [] r known c = elim c [ ]
  in_reloads k (w ∷ rs) r known c =
      by (plan.reloads k w.number) refl (λ h. in_reloads k rs r (λ x d. known x (later_in w x rs d)) h) c
    where
      one : plan.reloads k w.number ≡ true → InCode r (reload plan w ∷ reloads_of plan k rs) →
          (InCode r (reloads_of plan k rs) → WasRegister r) → WasRegister r
      one t (in_args d) ih =
          record {
            register = w;
            among = known w (first_in w rs);
            which = slotted (of_one (in_slot plan w) r d);
            unset = λ e. is.reloads_open w (known w (first_in w rs)) k t;
            copied = λ e. by_reload k t;
          }
      one t (in_results d) ih =
          record {
            register = w;
            among = known w (first_in w rs);
            which = own (of_one w r d);
            unset = λ e. is.reloads_open w (known w (first_in w rs)) k t;
            copied = λ e. by_reload k t;
          }
      one t (further d) ih = ih d

      by : (b : Bool) → plan.reloads k w.number ≡ b → (InCode r (reloads_of plan k rs) → WasRegister r) →
          InCode r (cond b (reload plan w ∷ reloads_of plan k rs) (reloads_of plan k rs)) → WasRegister r
      by true t ih c = one t c ih
      by false t ih c = ih c

  in_spills : (k : ℕ) (rs : List Reg) (r : Reg) → ((w : Reg) → Contains rs w → IsRegister m w) → InCode r (spills_of plan k rs) → WasRegister r
  in_spills k [] r known c = elim c [ ]
  in_spills k (w ∷ rs) r known c =
      by (plan.spills k w.number) refl (λ h. in_spills k rs r (λ x d. known x (later_in w x rs d)) h) c
    where
      one : plan.spills k w.number ≡ true → InCode r (spill plan w ∷ spills_of plan k rs) →
          (InCode r (spills_of plan k rs) → WasRegister r) → WasRegister r
      one t (in_args d) ih =
          record {
            register = w;
            among = known w (first_in w rs);
            which = own (of_one w r d);
            unset = λ e. is.spills_open w (known w (first_in w rs)) k t;
            copied = λ e. by_spill k t;
          }
      one t (in_results d) ih =
          record {
            register = w;
            among = known w (first_in w rs);
            which = slotted (of_one (in_slot plan w) r d);
            unset = λ e. is.spills_open w (known w (first_in w rs)) k t;
            copied = λ e. by_spill k t;
          }
      one t (further d) ih = ih d

      by : (b : Bool) → plan.spills k w.number ≡ b → (InCode r (spills_of plan k rs) → WasRegister r) →
          InCode r (cond b (spill plan w ∷ spills_of plan k rs) (spills_of plan k rs)) → WasRegister r
      by true t ih c = one t c ih
      by false t ih c = ih c

  was_in : (code : List Instr) (r : Reg) → ((w : Reg) → InCode w code → IsRegister m w) → InCode r (expand f code) → WasRegister r
  was_in [] r known c = elim c [ ]
  was_in (i ∷ next) r known c =
      ⊎_elim
      (λ h.
      ⊎_elim (λ g. in_reloads (length next) (operand_registers i) r (λ w d. known w (in_args (operand_in i w d))) g)
      (λ g. of_main g)
      (in_append (reloads_of plan (length next) (operand_registers i)) (i ∷ spills_of plan (length next) (written_results i)) h))
      (λ h. was_in next r (λ w d. known w (further d)) h) (in_append (f (length next) i) (expand f next) c)
    where
      of_main : InCode r (i ∷ spills_of plan (length next) (written_results i)) → WasRegister r
      of_main (in_args d) = itself_was r (known r (in_args d))
      of_main (in_results d) = itself_was r (known r (in_results d))
      of_main (further d) = in_spills (length next) (written_results i) r (λ w z. known w (in_results (written_in i w z))) d

  pub was_register : (r : Reg) → IsRegister q r → WasRegister r
  was_register r (is_param c) = itself_was r (is_param c)
  was_register r (is_colour c) = itself_was r (is_colour c)
  was_register r (is_in_code c) = was_in m.code r (λ w d. is_in_code d) c

  pub origin_of : {w r : Reg} → Which w r → w.origin ≡ r.origin
  origin_of (own e) = ap (λ (x : Reg). x.origin) e
  origin_of (slotted e) = ap (λ (x : Reg). x.origin) e

  pub comp_of : {w r : Reg} → Which w r → w.comp ≡ r.comp
  comp_of (own e) = ap (λ (x : Reg). x.comp) e
  comp_of (slotted e) = ap (λ (x : Reg). x.comp) e

  pub slots_apart : (n k : ℕ) → plan.slot n ≡ plan.slot k → n ≡ k
  slots_apart n k e = sym (is.slot_back n) ∙ ap is.back e ∙ is.slot_back k
