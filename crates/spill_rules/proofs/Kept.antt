-- A function with spills and reloads does what it did: registers that are live hold what they held, and so do their slots where
-- each write that comes there was stored.
use Rattle.std.proofs.Common.{◌≡◌, ℕ, Bool, true, false, cond, inl, inr, ◌⊎◌, ⊎_elim, List, [], ◌∷◌, ◌++◌, length, Option, Some, None, refl, sym, ap, ◌∙◌, subst}
use Rattle.std.proofs.lemmas.Bool.{cases_Bool, eq-eqb, eqb-true, both_ways}
use Rattle.std.specs.List.{Contains}
use Rattle.std.specs.Prelude.{nat_eq}
use Rattle.std.proofs.lemmas.Option.{none-some}
use Rattle.bs_words.specs.Fits.{fits, type_of_comp}
use Rattle.bs_words.specs.declared.values.Value.{Value}
use Rattle.bs_words.proofs.Lists.{none_in, first_in, later_in, in_cons, head_same, tail_same}
use Rattle.mach_ir.specs.Acts.{Around, Target, On, At, Landing, AtLabel, AtHandler}
use Rattle.mach_ir.specs.Formed.{WellFormed}
use Rattle.mach_ir.specs.Placed.{WellPlaced}
use Rattle.mach_ir.specs.Runs.{ActivationSetting, entry_around}
use Rattle.mach_ir.specs.Meaning.{Held, File, assign_register, put_all, clear_registers, killed, registers_written, values, past_frame, passes_frame, after_label, at_handler, code_at, tries_at, landing_code}
use Rattle.mach_ir.specs.Walks.{AmongRegisters, first, later, OneOf, targets, may_raise, goes, raises, Live, read, on, aside, LiveAcross, IsRegister, is_param, is_colour, is_in_code, StandsAsInstr, Writes}
use Rattle.mach_ir.specs.Keeps.{ValsWritten, OriginsAgree, wrote_unless, MachSimulation}
use Rattle.mach_ir.specs.declared.op.CopyKind.TheVariants as copy
use Rattle.mach_ir.specs.declared.reg.Reg.{Reg}
use Rattle.mach_ir.specs.declared.mach.Instr.{Instr}
use Rattle.mach_ir.specs.declared.mach.Mach.{Mach}
use Rattle.mach_laws.specs.Expand.{Ending, expand}
use Rattle.mach_laws.proofs.General as general
use Rattle.mach_laws.proofs.General.{at}
use Rattle.mach_laws.proofs.Leads.{IsTry, MayLand, lands_at_label, lands_at_handler, try_on}
use Rattle.mach_laws.proofs.Level as level
use Rattle.mach_laws.proofs.Places.{ending_next, ending_label, ending_land, label_expand, stands_of, args_in, results_in, land_expand, form_of}
use Rattle.mach_laws.proofs.Simulate.{Agrees}
use Rattle.mach_laws.proofs.Among.{left_among, right_among, split_among, number_among, among_of, unless_among, among_or_not}
use Rattle.mach_laws.proofs.Files.{put_other}
use Rattle.mach_laws.proofs.Raised.{IsRaised, IsSilent, label_silent, try_silent, told}
use Rattle.mach_laws.proofs.Walking.{across_live}
use Rattle.split_rules.proofs.Known.{values_same, past_same, cleared, not_cleared, put_here, PutsBoth, put_both}
use Rattle.split_rules.specs.Writes.{from_entry, past, past_raise}
use Rattle.liveness.proofs.Bounds.{killed_is_colour}
use Rattle.spill_rules.specs.Spilled.{SpillPlan, in_slot, reload, spill, reloads_of, spills_of, operand_registers, written_results, spilled_instr, spilled, IsSpillPlan}
use Rattle.spill_rules.proofs.Live.{IsStored, WasLive, itself, stored, Stage, Reading, Storing, Laid, main, laid_results, laid_operands, laid_of, is_result, Says, NotThere, stored_unwritten, laid_tries, live_back, live_before, WasAcross, itself_across, stored_across, across_back}
use Rattle.spill_rules.proofs.Registers.{Which, own, slotted, WasRegister, was_register, origin_of, comp_of, slots_apart}
use Rattle.spill_rules.proofs.Text.{keeps_marks, all_results, operand_in, written_in}
use Rattle.spill_rules.proofs.Holding.{values_held, FitsIn, put_fits, put_holds, clear_fits, frame_fits, live_register, unwritten_at_entry, fit_at_entry, agree_at_entry, copy_step, vals_copy}

module _ (m : Mach) (plan : SpillPlan) (formed : WellFormed m) (placed : WellPlaced m) (is : IsSpillPlan m plan) where
  abbrev q : Mach
  q = spilled plan m

  abbrev f : ℕ → Instr → List Instr
  f = spilled_instr plan

  abbrev Was : ℕ → List Instr → Type 0
  Was = WasLive m plan formed placed is

  abbrev Lay : Stage m plan formed placed is → List Instr → Type 0
  Lay = Laid m plan formed placed is

  abbrev Stored : ℕ → List Instr → Type 0
  Stored = IsStored m plan formed placed is

  -- ---- what registers hold

  abbrev NotIn : ℕ → ℕ → List Reg → Type 0
  NotIn = NotThere m plan formed placed is

  -- a register of the second, from where it is live in the first
  was_value : (rest : List Instr) → Ending rest m.code → (a b : File) (r : Reg) → ((n : ℕ) → Live m n rest → a n ≡ b n) →
      ((n : ℕ) → plan.slot n ≡ r.number → Live m n rest → Stored n rest → a n ≡ b (plan.slot n)) → (w : Reg) → IsRegister m w →
      Which m plan formed placed is w r → Was r.number rest → Live m w.number rest × (a w.number ≡ b r.number)
  was_value rest ending a b r own_same slot_same w among (own e) (itself v) =
      let n : w.number ≡ r.number = ap (λ (x : Reg). x.number) e in
      (subst (λ n. Live m n rest) (sym n) v, ap a n ∙ own_same r.number v)
  was_value rest ending a b r own_same slot_same w among (slotted e) (itself v) =
      let u = live_register m v ending in
      absurd (is.fresh u.0 u.1 w.number (ap (λ (x : Reg). x.number) e ∙ sym u.2))
  was_value rest ending a b r own_same slot_same w among (own e) (stored n s v k) =
      absurd (is.fresh w among n (s ∙ sym (ap (λ (x : Reg). x.number) e)))
  was_value rest ending a b r own_same slot_same w among (slotted e) (stored n s v k) =
      let same : n ≡ w.number = slots_apart m plan formed placed is n w.number (s ∙ sym (ap (λ (x : Reg). x.number) e)) in
      (subst (λ n. Live m n rest) same v, ap a (sym same) ∙ slot_same n s v k ∙ ap b s)

  is_code : q.code ≡ expand f m.code
  is_code = refl

  caught : {n : ℕ} {i : Instr} {next : List Instr} → may_raise i.op ≡ true → (tries : List ℕ) → tries_at (i ∷ next) ≡ tries →
      Live m n (at_handler m.code tries) → Live m n (i ∷ next) × (Stored n (at_handler m.code tries) → Stored n (i ∷ next))
  caught r [] e v = elim v [ ]
  caught r (l ∷ tries) e v = (aside (raises r e) v, λ s from k. s from (past_raise k (raises r e)))

  module _ (c : ActivationSetting) where
    abbrev limit : ℕ
    limit = c.setting.end

    record Holds (rest : List Instr) (a b : File) : Type 0 where
      itself : (n : ℕ) → Live m n rest → a n ≡ b n
      slots : (n : ℕ) → Live m n rest → Stored n rest → a n ≡ b (plan.slot n)
      fit : (r : Reg) → IsRegister m r → FitsIn limit r (a r.number)
      agree : (r k : Reg) → IsRegister m r → IsRegister m k → r.origin ≡ k.origin → Live m r.number rest → Live m k.number rest →
          (x y : Held) → a r.number ≡ Some x → a k.number ≡ Some y → x.value ≡ y.value

    -- ---- before an instruction

    agree_reading : (i : Instr) (next ys : List Instr) (rs us : List Reg) (a b : File) (y : Around) → Ending (i ∷ next) m.code →
        Lay (Reading i next rs) ys → Holds (i ∷ next) a b → ((x : ℕ) → AmongRegisters x us → AmongRegisters x i.args) → OriginsAgree q us (at ys b y)
    agree_reading i next ys rs us a b y ending laid holds known =
        record {
          agree = λ r k ir ik origin l e h g s t.
              let w = was_register m plan formed placed is r ir in
              let v = was_register m plan formed placed is k ik in
              let one = here r w l in
              let two = here k v e in
              holds.agree w.register v.register w.among v.among
              (origin_of m plan formed placed is w.which ∙ origin ∙ sym (origin_of m plan formed placed is v.which)) one.0 two.0 h g
              (one.1 ∙ s) (two.1 ∙ t);
        }
      where
        here : (r : Reg) (w : WasRegister m plan formed placed is r) → Live q r.number ys ⊎ AmongRegisters r.number us →
            Live m (w.register).number (i ∷ next) × (a (w.register).number ≡ b r.number)
        here r w l =
            was_value (i ∷ next) ending a b r holds.itself (λ n e v k. holds.slots n v k) w.register w.among w.which
            (⊎_elim (λ v. live_back m plan formed placed is v (Reading i next rs) laid) (λ z. itself (read (known r.number z))) l)

    module _ (Suit : Around → Around → Type 0) where
      abbrev Round : List Instr → Around → Around → File → File → Type 0
      Round = level.Level c m q f (keeps_marks plan) is_code Holds

      abbrev Passes : Type 0 → Around → List Instr → List Instr → File → File → Type 0
      Passes Given y xs next b d = general.Passes c m q f (keeps_marks plan) is_code Suit Round Given y xs next b d

      record PassedBefore (i : Instr) (next : List Instr) (rs : List Reg) (tail : List Instr) (a b : File) (y : Around) : Type 0 where
        file : File
        passing : Passes (Unit {0}) y (reloads_of plan (length next) rs) tail b file
        holds : Holds (i ∷ next) a file

      before : (i : Instr) (next : List Instr) (a : File) (y : Around) → Ending (i ∷ next) m.code →
          ((n : ℕ) → AmongRegisters n i.args → (h : Held) × (a n ≡ Some h)) → (tail : List Instr) → Lay (Reading i next []) tail → (rs : List Reg) →
          ((r : Reg) → Contains rs r → Contains i.args r) → (b : File) → Holds (i ∷ next) a b → PassedBefore i next rs tail a b y
      before i next a y ending held tail laid [] known b holds =
          record { file = b; passing = general.passed; holds = holds }
      before i next a y ending held tail laid (r ∷ rs) known b holds =
          by (plan.reloads (length next) r.number) refl
          (λ b' h. before i next a y ending held tail laid rs (λ k z. known k (later_in r k rs z)) b' h)
        where
          among : AmongRegisters r.number i.args
          among = among_of r i.args (known r (first_in r rs))

          is_reg : IsRegister m r
          is_reg = is_in_code (args_in (stands_of ending) (known r (first_in r rs)))

          h : Held
          h = (held r.number among).0

          fits_so : (h.comp ≡ r.comp) × (fits limit (type_of_comp h.comp) h.value ≡ true)
          fits_so = holds.fit r is_reg h (held r.number among).1

          as_put : a r.number ≡ Some (record { comp = r.comp; value = h.value })
          as_put = (held r.number among).1 ∙ ap (λ t. Some (record { comp = t; value = h.value })) fits_so.0

          b1 : File
          b1 = assign_register r h.value b

          holds_on : Holds (i ∷ next) a b1
          holds_on =
              record {
                itself = λ n v.
                    ⊎_elim
                    (λ e.
                    let s = eqb-true r.number n e in ap a (sym s) ∙ as_put ∙ sym (put_here r h.value b n s))
                    (λ e. holds.itself n v ∙ sym (put_other r h.value b n (λ z. both_ways (nat_eq r.number n) e (eq-eqb r.number n z))))
                    (cases_Bool (nat_eq r.number n));
                slots = λ n v k.
                    holds.slots n v k ∙ sym (put_other r h.value b (plan.slot n) (λ z. is.fresh r is_reg n (sym z)));
                fit = holds.fit;
                agree = holds.agree;
              }

          by : (t : Bool) → plan.reloads (length next) r.number ≡ t →
              ((b' : File) → Holds (i ∷ next) a b' → PassedBefore i next rs tail a b' y) →
              PassedBefore i next (r ∷ rs) tail a b y
          by true t again =
              let more = again b1 holds_on in
              record {
                file = more.file;
                passing = subst
                    (λ t. Passes (Unit {0}) y (cond t (reload plan r ∷ reloads_of plan (length next) rs) (reloads_of plan (length next) rs)) tail
                    b more.file)
                    (sym t)
                    (general.passes
                    (copy_step c q copy.Reload (in_slot plan r) r (reloads_of plan (length next) rs ++ tail) b y h
                    (sym
                    (holds.slots r.number (read among)
                    (λ from k. is.stored i next from r.number (stands_of ending) among t k))
                    ∙ (held r.number among).1)
                    (subst (λ t. fits limit (type_of_comp t) h.value ≡ true) fits_so.0 fits_so.1))
                    (vals_copy c q copy.Reload (in_slot plan r) r (reloads_of plan (length next) rs ++ tail) b y)
                    (λ u.
                    agree_reading i next (reloads_of plan (length next) rs ++ tail) rs (wrote_unless y.raised (r ∷ [])) a b1 y ending
                    (laid_operands m plan formed placed is i next rs tail ending (λ k z. known k (later_in r k rs z)) laid) holds_on
                    (λ x z. of_these x (unless_among y.raised (r ∷ []) x z)))
                    more.passing);
                holds = more.holds;
              }
            where
              of_these : (x : ℕ) → AmongRegisters x (r ∷ []) → AmongRegisters x i.args
              of_these x (first e) = subst (λ n. AmongRegisters n i.args) e among
              of_these x (later z) = elim z [ ]
          by false t again =
              let more = again b holds in
              record {
                file = more.file;
                passing = subst
                    (λ t. Passes (Unit {0}) y (cond t (reload plan r ∷ reloads_of plan (length next) rs) (reloads_of plan (length next) rs)) tail
                    b more.file)
                    (sym t) more.passing;
                holds = more.holds;
              }

      -- ---- after an instruction

      -- what the second holds once these results are left to be stored
      record HoldsAfter (next : List Instr) (rs : List Reg) (d e : File) : Type 0 where
        itself : (n : ℕ) → Live m n next → d n ≡ e n
        slots : (n : ℕ) → Live m n next → Stored n next → NotIn (plan.slot n) (length next) rs → d n ≡ e (plan.slot n)

      -- where a register of the second was just written
      abbrev JustWritten : Instr → List Instr → File → File → Around → List Reg → Type 0
      JustWritten i next d e y us =
          (r : Reg) (w : WasRegister m plan formed placed is r) (u : Held) → AmongRegisters r.number us → e r.number ≡ Some u →
          (Live m (w.register).number next ⊎ AmongRegisters (w.register).number (wrote_unless y.raised (registers_written m i)))
          × (d (w.register).number ≡ e r.number)

      agree_storing : (i : Instr) (next ys : List Instr) (rs us : List Reg) (d e : File) (y : Around) → Ending (i ∷ next) m.code →
          Lay (Storing i next rs) ys → HoldsAfter next rs d e → Agrees m (registers_written m i) (at next d y) → JustWritten i next d e y us →
          OriginsAgree q us (at ys e y)
      agree_storing i next ys rs us d e y ending laid holds agreed just =
          record {
            agree = λ r k ir ik origin l z h g s t.
                let w = was_register m plan formed placed is r ir in
                let v = was_register m plan formed placed is k ik in
                let one = here r w h l s in
                let two = here k v g z t in
                agreed.agree w.register v.register w.among v.among
                (origin_of m plan formed placed is w.which ∙ origin ∙ sym (origin_of m plan formed placed is v.which)) one.0 two.0 h g
                (one.1 ∙ s) (two.1 ∙ t);
          }
        where
          of_live : (r : Reg) (w : WasRegister m plan formed placed is r) → Says m plan formed placed is r.number (Storing i next rs) →
              Live m (w.register).number next × (d (w.register).number ≡ e r.number)
          of_live r w (inl (is_result k z0 spilt n)) =
              was_value next (ending_next ending) d e r holds.itself
              (λ j s v z.
              absurd
              (is.fresh k (is_in_code (results_in (stands_of ending) z0)) j (s ∙ sym n)))
              w.register w.among w.which
              (itself (subst (λ n. Live m n next) n (is.useful i next k (stands_of ending) z0 spilt)))
          of_live r w (inr g) =
              was_value next (ending_next ending) d e r holds.itself
              (λ j s v z. holds.slots j v z (subst (λ x. NotIn x (length next) rs) (sym s) g.1)) w.register w.among w.which g.0

          here : (r : Reg) (w : WasRegister m plan formed placed is r) (u : Held) → Live q r.number ys ⊎ AmongRegisters r.number us → e r.number ≡ Some u →
              (Live m (w.register).number next ⊎ AmongRegisters (w.register).number (wrote_unless y.raised (registers_written m i)))
              × (d (w.register).number ≡ e r.number)
          here r w u (inl v) s =
              let g = of_live r w (live_back m plan formed placed is v (Storing i next rs) laid) in (inl g.0, g.1)
          here r w u (inr z) s = just r w u z s

      record PassedAfter (i : Instr) (next : List Instr) (rs : List Reg) (d e : File) (y : Around) : Type 0 where
        file : File
        passing : Passes (Agrees m (registers_written m i) (at next d y)) y (spills_of plan (length next) rs) (expand f next) e file
        holds : HoldsAfter next [] d file

      after : (i : Instr) (next : List Instr) (d : File) (y : Around) → Ending (i ∷ next) m.code →
          ((n : ℕ) → AmongRegisters n i.results → (h : Held) × (d n ≡ Some h)) → ((r : Reg) → IsRegister m r → FitsIn limit r (d r.number)) →
          (rs : List Reg) → ((r : Reg) → Contains rs r → Contains i.results r) → (e : File) → HoldsAfter next rs d e →
          PassedAfter i next rs d e y
      after i next d y ending held fit [] known e holds =
          record { file = e; passing = general.passed; holds = holds }
      after i next d y ending held fit (r ∷ rs) known e holds =
          by (plan.spills (length next) r.number) refl
          (λ e' h. after i next d y ending held fit rs (λ k z. known k (later_in r k rs z)) e' h)
        where
          is_reg : IsRegister m r
          is_reg = is_in_code (results_in (stands_of ending) (known r (first_in r rs)))

          h : Held
          h = (held r.number (among_of r i.results (known r (first_in r rs)))).0

          holds_h : d r.number ≡ Some h
          holds_h = (held r.number (among_of r i.results (known r (first_in r rs)))).1

          fits_so : (h.comp ≡ r.comp) × (fits limit (type_of_comp h.comp) h.value ≡ true)
          fits_so = fit r is_reg h holds_h

          as_put : d r.number ≡ Some (record { comp = r.comp; value = h.value })
          as_put = holds_h ∙ ap (λ t. Some (record { comp = t; value = h.value })) fits_so.0

          e1 : File
          e1 = assign_register (in_slot plan r) h.value e

          not_in_more : (x : ℕ) → (plan.slot r.number ≡ x → ⊥) → NotIn x (length next) rs → NotIn x (length next) (r ∷ rs)
          not_in_more x g n = λ k z s t.
              ⊎_elim (λ a. g (ap (λ (r : Reg). plan.slot r.number) a ∙ t)) (λ z. n k z s t) (in_cons r k rs z)

          live_not_slot : (n : ℕ) → Live m n next → plan.slot r.number ≡ n → ⊥
          live_not_slot n v s =
              let u = live_register m v (ending_next ending) in is.fresh u.0 u.1 r.number (s ∙ sym u.2)

          holds_on : HoldsAfter next rs d e1
          holds_on =
              record {
                itself = λ n v. holds.itself n v ∙ sym (put_other (in_slot plan r) h.value e n (live_not_slot n v));
                slots = λ n v k free.
                    ⊎_elim
                    (λ s.
                    let same : plan.slot r.number ≡ plan.slot n = eqb-true (plan.slot r.number) (plan.slot n) s in
                    ap d (sym (slots_apart m plan formed placed is r.number n same)) ∙ as_put ∙ sym (put_here (in_slot plan r) h.value e (plan.slot n) same))
                    (λ s.
                    let other = λ (z : plan.slot r.number ≡ plan.slot n).
                    both_ways (nat_eq (plan.slot r.number) (plan.slot n)) s (eq-eqb (plan.slot r.number) (plan.slot n) z) in
                    holds.slots n v k (not_in_more (plan.slot n) other free)
                    ∙ sym (put_other (in_slot plan r) h.value e (plan.slot n) other))
                    (cases_Bool (nat_eq (plan.slot r.number) (plan.slot n)));
              }

          just : plan.spills (length next) r.number ≡ true →
              JustWritten i next d e1 y (wrote_unless y.raised (in_slot plan r ∷ []))
          just t k w u z s = by (w.which) (of_slot (unless_among y.raised (in_slot plan r ∷ []) k.number z))
            where
              of_slot : AmongRegisters k.number (in_slot plan r ∷ []) → plan.slot r.number ≡ k.number
              of_slot (first e) = e
              of_slot (later z) = elim z [ ]

              by : Which m plan formed placed is w.register k → plan.slot r.number ≡ k.number →
                  (Live m (w.register).number next ⊎ AmongRegisters (w.register).number (wrote_unless y.raised (registers_written m i)))
                  × (d (w.register).number ≡ e1 k.number)
              by (own a) n = absurd (is.fresh w.register w.among r.number (n ∙ sym (ap (λ (x : Reg). x.number) a)))
              by (slotted a) n =
                  let same : r.number ≡ w.register.number =
                  slots_apart m plan formed placed is r.number w.register.number (n ∙ sym (ap (λ (x : Reg). x.number) a)) in (
                    inl (subst (λ n. Live m n next) same (is.useful i next r (stands_of ending) (known r (first_in r rs)) t)),
                    ap d (sym same) ∙ as_put ∙ sym (put_here (in_slot plan r) h.value e k.number n),
                  )

          by : (t : Bool) → plan.spills (length next) r.number ≡ t →
              ((e' : File) → HoldsAfter next rs d e' → PassedAfter i next rs d e' y) → PassedAfter i next (r ∷ rs) d e y
          by true t again =
              let more = again e1 holds_on in
              record {
                file = more.file;
                passing = subst
                    (λ t. Passes (Agrees m (registers_written m i) (at next d y)) y
                    (cond t (spill plan r ∷ spills_of plan (length next) rs) (spills_of plan (length next) rs)) (expand f next) e more.file)
                    (sym t)
                    (general.passes
                    (copy_step c q copy.Spill r (in_slot plan r) (spills_of plan (length next) rs ++ expand f next) e y h
                    (sym (holds.itself r.number (is.useful i next r (stands_of ending) (known r (first_in r rs)) t)) ∙ holds_h)
                    (subst (λ t. fits limit (type_of_comp t) h.value ≡ true) fits_so.0 fits_so.1))
                    (vals_copy c q copy.Spill r (in_slot plan r) (spills_of plan (length next) rs ++ expand f next) e y)
                    (λ agreed.
                    agree_storing i next (spills_of plan (length next) rs ++ expand f next) rs
                    (wrote_unless y.raised (in_slot plan r ∷ [])) d e1 y ending
                    (laid_results m plan formed placed is i next rs (expand f next) (λ k z. known k (later_in r k rs z))
                    (laid_of m plan formed placed is next (ending_next ending)))
                    holds_on agreed (just t))
                    more.passing);
                holds = more.holds;
              }
          by false t again =
              let more = again e
              (record {
                itself = holds.itself;
                slots = λ n v k free. holds.slots n v k
                    (λ j z s g.
                    ⊎_elim
                    (λ a. both_ways (plan.spills (length next) r.number) t (subst (λ (j : Reg). plan.spills (length next) j.number ≡ true) (sym a) s))
                    (λ z. free j z s g) (in_cons r j rs z));
              }) in
              record {
                file = more.file;
                passing = subst
                    (λ t. Passes (Agrees m (registers_written m i) (at next d y)) y
                    (cond t (spill plan r ∷ spills_of plan (length next) rs) (spills_of plan (length next) rs)) (expand f next) e more.file)
                    (sym t) more.passing;
                holds = more.holds;
              }

      -- ---- each instruction

      module _ (i : Instr) (next : List Instr) (a b : File) (ending : Ending (i ∷ next) m.code) (holds : Holds (i ∷ next) a b) where
        abbrev a' : File
        a' = past_frame (passes_frame i.op) a

        abbrev b' : File
        b' = past_frame (passes_frame i.op) b

        abbrev post : List Instr
        post = spills_of plan (length next) (written_results i)

        stands : StandsAsInstr i next m.code
        stands = stands_of ending

        still : (n : ℕ) → Live m n (i ∷ next) → a' n ≡ b' n
        still n v = past_same (passes_frame i.op) a b n n (holds.itself n v)

        still_slot : (n : ℕ) → Live m n (i ∷ next) → Stored n (i ∷ next) → a' n ≡ b' (plan.slot n)
        still_slot n v k = past_same (passes_frame i.op) a b n (plan.slot n) (holds.slots n v k)

        laid_main : Lay (Storing i next (written_results i)) (post ++ expand f next)
        laid_main =
            laid_results m plan formed placed is i next (written_results i) (expand f next) (λ r z. written_in i r z)
            (laid_of m plan formed placed is next (ending_next ending))

        -- a slot is no register of the first
        not_slot : (n x : ℕ) (rs : List Reg) → ((r : Reg) → Contains rs r → IsRegister m r) → AmongRegisters (plan.slot n) rs → ⊥
        not_slot n x rs known z = let r = number_among rs z in is.fresh r.0 (known r.0 r.1) n (sym r.2)

        killed_known : (r : Reg) → Contains (killed m i) r → IsRegister m r
        killed_known r z = is_colour (killed_is_colour m i r z)

        abbrev Puts : List Value → File → Type 0
        Puts vs d = PutsBoth limit i.results vs (clear_registers (killed m i) a') (clear_registers (killed m i) b') d

        same_after : (vs : List Value) (d : File) (p : Puts vs d) (t : Target) → OneOf t (targets i.op) → (n : ℕ) →
            Live m n (code_at m.code next t) → d n ≡ p.file n
        same_after vs d p t o n v =
            ⊎_elim (λ z. p.same n z)
            (λ free.
            p.others n free
            ∙ ⊎_elim (λ z. cleared (killed m i) a' n z ∙ sym (cleared (killed m i) b' n z))
            (λ h.
            not_cleared (killed m i) a' n h
            ∙ still n (on (λ w. ⊎_elim free h (split_among n i.results (killed m i) w)) (goes t o) v)
            ∙ sym (not_cleared (killed m i) b' n h))
            (among_or_not n (killed m i))
            ∙ sym (p.others_new n free))
            (among_or_not n i.results)

        slot_after : (vs : List Value) (d : File) (p : Puts vs d) (t : Target) → OneOf t (targets i.op) → (n : ℕ) →
            Live m n (code_at m.code next t) → Stored n (code_at m.code next t) → (Writes m i n → ⊥) → d n ≡ p.file (plan.slot n)
        slot_after vs d p t o n v k silent =
            p.others n (λ z. silent (left_among i.results (killed m i) z))
            ∙ not_cleared (killed m i) a' n (λ z. silent (right_among i.results (killed m i) z))
            ∙ still_slot n (on silent (goes t o) v) (λ from z. k from (past z silent (goes t o)))
            ∙ sym (not_cleared (killed m i) b' (plan.slot n) (not_slot n 0 (killed m i) killed_known))
            ∙ sym (p.others_new (plan.slot n) (not_slot n 0 i.results (λ r z. is_in_code (results_in stands z))))

        one_number : (r : Reg) → IsRegister m r → (k : Reg) → Contains i.results k → k.number ≡ r.number → k ≡ r
        one_number r j k z e = formed.numbers k r (is_in_code (results_in stands z)) j e

        fit_after : (vs : List Value) (d : File) → put_all limit i.results vs (clear_registers (killed m i) a') ≡ Some d → (r : Reg) → IsRegister m r →
            FitsIn limit r (d r.number)
        fit_after vs d e r j =
            put_fits limit i.results vs (clear_registers (killed m i) a') d e r (one_number r j)
            (clear_fits limit (killed m i) a' r (frame_fits limit (passes_frame i.op) a r (holds.fit r j)))

        fit_still : (r : Reg) → IsRegister m r → FitsIn limit r (a' r.number)
        fit_still r j = frame_fits limit (passes_frame i.op) a r (holds.fit r j)

        -- what p knows of where it comes to
        agree_there : (rest : List Instr) (us : List Reg) (d : File) (y : Around) → Agrees m us (at rest d y) →
            (r k : Reg) → IsRegister m r → IsRegister m k → r.origin ≡ k.origin → Live m r.number rest → Live m k.number rest →
            (x z : Held) → d r.number ≡ Some x → d k.number ≡ Some z → x.value ≡ z.value
        agree_there rest us d y agreed r k j l origin v w x z e g = agreed.agree r k j l origin (inl v) (inl w) x z e g

        -- where the second begins a code, its registers of one origin agree
        agree_begins : (rest : List Instr) (us : List Reg) (d e : File) (y : Around) → Ending rest m.code → Holds rest d e →
            ((x : ℕ) → AmongRegisters x (wrote_unless y.raised us) → ⊥) → OriginsAgree q (wrote_unless y.raised us) (at (expand f rest) e y)
        agree_begins rest us d e y end_rest h none =
            record {
              agree = λ r k ir ik origin l z x u s t.
                  let w = was_register m plan formed placed is r ir in
                  let v = was_register m plan formed placed is k ik in
                  let one = here r w l in
                  let two = here k v z in
                  h.agree w.register v.register w.among v.among
                  (origin_of m plan formed placed is w.which ∙ origin ∙ sym (origin_of m plan formed placed is v.which)) one.0 two.0 x u
                  (one.1 ∙ s) (two.1 ∙ t);
            }
          where
            here : (r : Reg) (w : WasRegister m plan formed placed is r) →
                Live q r.number (expand f rest) ⊎ AmongRegisters r.number (wrote_unless y.raised us) →
                Live m (w.register).number rest × (d (w.register).number ≡ e r.number)
            here r w (inl v) =
                was_value rest end_rest d e r h.itself (λ n s v k. h.slots n v k) w.register w.among w.which
                (live_before m plan formed placed is end_rest v)
            here r w (inr z) = absurd (none r.number z)

        -- where it is silent, or raised a value
        silent_none : IsSilent m i → (o : Option Value) → (x : ℕ) → AmongRegisters x (wrote_unless o (registers_written m i)) → ⊥
        silent_none s o x z = s x (unless_among o (registers_written m i) x z)

        none_written : (o : Option Value) → IsSilent m i ⊎ IsRaised o → (x : ℕ) → AmongRegisters x (wrote_unless o (registers_written m i)) → ⊥
        none_written o (inl s) x z = silent_none s o x z
        none_written (Some v) (inr r) x z = elim z [ ]
        none_written None (inr r) x z = elim r [ ]

        abbrev Past : Around → File → File → Target → Type 0
        Past y d e to = general.Past c m q f (keeps_marks plan) is_code Suit Round i i next post y y d e to

        no_post : IsSilent m i → post ≡ []
        no_post s = ap (spills_of plan (length next)) (all_results (form_of formed ending) ∙ none i.results (λ n z. s n (left_among i.results (killed m i) z)))
          where
            none : (rs : List Reg) → ((n : ℕ) → AmongRegisters n rs → ⊥) → rs ≡ []
            none [] h = refl
            none (r ∷ rs) h = absurd (h r.number (first refl))

        just_main : (vs : List Value) (d : File) (p : Puts vs d) (y : Around) →
            JustWritten i next d p.file y (wrote_unless y.raised (registers_written m i))
        just_main vs d p y r w u z s = by w.which
          where
            there : AmongRegisters r.number (registers_written m i)
            there = unless_among y.raised (registers_written m i) r.number z

            in_m : (k : ℕ) → AmongRegisters k (registers_written m i) → (x : Reg) × IsRegister m x × (x.number ≡ k)
            in_m k a =
                ⊎_elim (λ h. let x = number_among i.results h in (x.0, is_in_code (results_in stands x.1), x.2))
                (λ h. let x = number_among (killed m i) h in (x.0, killed_known x.0 x.1, x.2)) (split_among k i.results (killed m i) a)

            value : d r.number ≡ p.file r.number
            value =
                ⊎_elim (λ h. p.same r.number h)
                (λ free.
                ⊎_elim (λ h. absurd (free h))
                (λ k. absurd (none-some _ (sym (cleared (killed m i) b' r.number k) ∙ sym (p.others_new r.number free) ∙ s)))
                (split_among r.number i.results (killed m i) there))
                (among_or_not r.number i.results)

            by : Which m plan formed placed is w.register r →
                (Live m (w.register).number next ⊎ AmongRegisters (w.register).number (wrote_unless y.raised (registers_written m i)))
                × (d (w.register).number ≡ p.file r.number)
            by (own e) =
                let n : w.register.number ≡ r.number = ap (λ (x : Reg). x.number) e in
                (inr (subst (λ n. AmongRegisters n (wrote_unless y.raised (registers_written m i))) (sym n) z), ap d n ∙ value)
            by (slotted e) =
                let x = in_m r.number there in absurd (is.fresh x.0 x.1 w.register.number (ap (λ (x : Reg). x.number) e ∙ sym x.2))

        past_to : (vs : List Value) (d : File) → put_all limit i.results vs (clear_registers (killed m i) a') ≡ Some d → (p : Puts vs d) (y : Around)
            (t : Target) → OneOf t (targets i.op) → Past y d p.file t
        past_to vs d e p y On o =
            let begun : HoldsAfter next (written_results i) d p.file =
            record {
              itself = λ n v. same_after vs d p On o n v;
              slots = λ n v k free. slot_after vs d p On o n v k
                  (stored_unwritten m plan formed placed is (plan.slot n) n i next next On ending o refl k free);
            } in
            let done = after i next d y ending (λ n z. put_holds limit i.results vs (clear_registers (killed m i) a') d e n z) (fit_after vs d e)
            (written_results i) (λ r z. written_in i r z) p.file begun in
            general.on
            (λ agreed.
            agree_storing i next (post ++ expand f next) (written_results i) (wrote_unless y.raised (registers_written m i)) d p.file y ending laid_main begun
            agreed (just_main vs d p y))
            done.passing
            (λ agreed. (
              refl,
              record {
                itself = λ n v. done.holds.itself n v;
                slots = λ n v k. done.holds.slots n v k (λ r z. absurd (none_in r z));
                fit = fit_after vs d e;
                agree = agree_there next (registers_written m i) d y agreed;
              },
            ))
        past_to vs d e p y (At l) o =
            let silent = label_silent m (form_of formed ending) l o in
            let rel : Agrees m (registers_written m i) (at (after_label l m.code) d y) → Holds (after_label l m.code) d p.file =
            λ (agreed : Agrees m (registers_written m i) (at (after_label l m.code) d y)).
            record {
              itself = λ n v. same_after vs d p (At l) o n v;
              slots = λ n v k. slot_after vs d p (At l) o n v k (silent n);
              fit = fit_after vs d e;
              agree = agree_there (after_label l m.code) (registers_written m i) d y agreed;
            } in
            general.elsewhere (no_post silent)
            (λ agreed. (
              (refl, rel agreed),
              subst (λ code. Agrees q (registers_written q i) (at code p.file y)) (sym (label_expand f (keeps_marks plan) l m.code))
                  (agree_begins (after_label l m.code) (registers_written m i) d p.file y (ending_label l m.code) (rel agreed)
                  (silent_none silent y.raised)),
            ))

        -- where an exit or a raise lands
        landed : (to : Landing) → MayLand i.op to → (y : Around) → Agrees m (registers_written m i) (at (landing_code m.code (i ∷ next) to) a' y) →
            Holds (landing_code m.code (i ∷ next) to) a' b'
        landed (AtLabel l) (lands_at_label o) y agreed =
            let silent = label_silent m (form_of formed ending) l o in
            record {
              itself = λ n v. still n (on (silent n) (goes (At l) o) v);
              slots = λ n v k. still_slot n (on (silent n) (goes (At l) o) v) (λ from z. k from (past z (silent n) (goes (At l) o)));
              fit = fit_still;
              agree = agree_there (after_label l m.code) (registers_written m i) a' y agreed;
            }
        landed AtHandler (lands_at_handler r) y agreed =
            record {
              itself = λ n v. let g = caught r (tries_at (i ∷ next)) refl v in still n g.0;
              slots = λ n v k. let g = caught r (tries_at (i ∷ next)) refl v in still_slot n g.0 (g.1 k);
              fit = fit_still;
              agree = agree_there (at_handler m.code (tries_at (i ∷ next))) (registers_written m i) a' y agreed;
            }

        tries_so : tries_at (i ∷ (post ++ expand f next)) ≡ tries_at (i ∷ next)
        tries_so = laid_tries m plan formed placed is (main ending laid_main)

        lands : (to : Landing) → MayLand i.op to → (y : Around) → IsSilent m i ⊎ IsRaised y.raised →
            general.Lands c m q f (keeps_marks plan) is_code Suit Round i i next post to y y a' b'
        lands to may y s agreed = (
          (refl, landed to may y agreed),
          subst (λ code. Agrees q (registers_written q i) (at code b' y))
              (sym (land_expand f (keeps_marks plan) m.code (i ∷ next) (i ∷ (post ++ expand f next)) to tries_so))
              (agree_begins (landing_code m.code (i ∷ next) to) (registers_written m i) a' b' y (ending_land to (i ∷ next) m.code)
              (landed to may y agreed) (none_written y.raised s)),
        )

        pushed : IsTry i.op → (y : Around) → Agrees m (registers_written m i) (at next a' y) → Holds next a' b'
        pushed t y agreed =
            let silent = try_silent m (form_of formed ending) t in
            record {
              itself = λ n v. still n (on (silent n) (goes On (try_on i.op t)) v);
              slots = λ n v k.
                  still_slot n (on (silent n) (goes On (try_on i.op t)) v) (λ from z. k from (past z (silent n) (goes On (try_on i.op t))));
              fit = fit_still;
              agree = agree_there next (registers_written m i) a' y agreed;
            }

        same_operation : level.SameOperation c m q f (keeps_marks plan) is_code Suit Holds (IsSilent m i) i i next post a' b'
        same_operation =
            record {
              goes = λ vs d e.
                  let p = put_both limit i.results vs (clear_registers (killed m i) a') (clear_registers (killed m i) b') d e in
                  (p.file, p.puts, λ y to o. past_to vs d e p y to o);
              lands = λ y to l s. lands to l y s;
              tries = tries_so;
              pushes = λ t. (
                no_post (try_silent m (form_of formed ending) t),
                λ y agreed. (
                  (refl, pushed t y agreed),
                  agree_begins next (registers_written m i) a' b' y (ending_next ending) (pushed t y agreed)
                      (silent_none (try_silent m (form_of formed ending) t) y.raised),
                ),
              );
            }

        -- ---- vals that are live over it

        vals_main : (y : Around) → ValsWritten m (at (i ∷ next) a y) → ValsWritten q (at (i ∷ (post ++ expand f next)) b y)
        vals_main y known =
            record {
              written = λ j ys e frame r one val v none.
                  let head = head_same e in
                  let w = was_register m plan formed placed is r one in
                  let there : LiveAcross q r.number i (post ++ expand f next) =
                  subst (λ xs. LiveAcross q r.number i xs) (sym (tail_same e))
                  (subst (λ j. LiveAcross q r.number j ys) (sym head) v) in
                  let x = across_back m plan formed placed is i next ending laid_main there in
                  let g = by r w x in
                  known.written i next refl (subst (λ (j : Instr). passes_frame j.op ≡ true) (sym head) frame) w.register w.among
                  (comp_of m plan formed placed is w.which ∙ val) g.0 (g.1 ∙ none);
            }
          where
            by : (r : Reg) (w : WasRegister m plan formed placed is r) → WasAcross m plan formed placed is r.number i next →
                LiveAcross m (w.register).number i next × (a (w.register).number ≡ b r.number)
            by r w (itself_across v) = own_by w.which
              where
                own_by : Which m plan formed placed is w.register r → LiveAcross m (w.register).number i next × (a (w.register).number ≡ b r.number)
                own_by (own e) =
                    let n : w.register.number ≡ r.number = ap (λ (x : Reg). x.number) e in
                    (subst (λ n. LiveAcross m n i next) (sym n) v, ap a n ∙ holds.itself r.number (across_live v))
                own_by (slotted e) =
                    let u = live_register m (across_live v) ending in
                    absurd (is.fresh u.0 u.1 w.register.number (ap (λ (x : Reg). x.number) e ∙ sym u.2))
            by r w (stored_across n s v k) = slot_by w.which
              where
                slot_by : Which m plan formed placed is w.register r → LiveAcross m (w.register).number i next × (a (w.register).number ≡ b r.number)
                slot_by (own e) = absurd (is.fresh w.register w.among n (s ∙ sym (ap (λ (x : Reg). x.number) e)))
                slot_by (slotted e) =
                    let same : n ≡ w.register.number = slots_apart m plan formed placed is n w.register.number (s ∙ sym (ap (λ (x : Reg). x.number) e)) in
                    (subst (λ n. LiveAcross m n i next) same v, ap a (sym same) ∙ holds.slots n (across_live v) k ∙ ap b s)

      one : (i : Instr) (next : List Instr) (a b : File) (ending : Ending (i ∷ next) m.code) → Holds (i ∷ next) a b → (y : Around)
          (vs : List Value) → values a i.args ≡ Some vs →
          general.Replaces c m q f (keeps_marks plan) is_code Suit Round i next y y a b vs
      one i next a b ending holds y vs e =
          let laid : Lay (Reading i next []) (i ∷ (spills_of plan (length next) (written_results i) ++ expand f next)) =
          main ending (laid_main i next a b ending holds) in
          let gone = before i next a y ending (λ n z. values_held a i.args vs e n z)
          (i ∷ (spills_of plan (length next) (written_results i) ++ expand f next)) laid (operand_registers i) (λ r z. operand_in i r z) b holds in
          level.replaces c m q f (keeps_marks plan) is_code Suit Holds y
          (record {
            pre = reloads_of plan (length next) (operand_registers i);
            main = i;
            post = spills_of plan (length next) (written_results i);
            shape = refl;
            same_op = refl;
            between = gone.file;
            passing = gone.passing;
            vals = vals_main i next a gone.file ending gone.holds y;
            reads = sym (values_same a gone.file i.args (λ n z. gone.holds.itself n (read z))) ∙ e;
            told = told m (form_of formed ending) c.setting vs y;
            same = same_operation i next a gone.file ending gone.holds;
          })

    serves : (Suit : Around → Around → Type 0) → ((x y : Around) → x ≡ y → Suit x y) →
        level.Serves c m q f (keeps_marks plan) is_code Holds Suit
    serves Suit suits =
        record {
          suits = λ rest x y a b l. suits x y l.0;
          each = λ i next x y a b ending l vs e. inl
              (subst
              (λ y. general.Replaces c m q f (keeps_marks plan) is_code Suit (level.Level c m q f (keeps_marks plan) is_code Holds) i next x y
              a b vs)
              l.0 (one Suit i next a b ending l.1 x vs e));
        }

    -- at the entry the parameters are written, and nothing is stored
    at_entry : (vs : List Value) (a : File) → put_all limit m.params vs (λ n. None) ≡ Some a → Holds m.code a a
    at_entry vs a e =
        record {
          itself = λ n v. refl;
          slots = λ n v k.
              ⊎_elim (λ z. absurd (both_ways (plan.spills (length m.code) n) (is.entry n z) (k m.code (from_entry z))))
              (λ free. unwritten n free ∙ sym (unwritten (plan.slot n) (not_param n))) (among_or_not n m.params);
          fit = fit_at_entry m formed limit vs a e;
          agree = λ r k i j origin v w x y g h. agree_at_entry m formed limit vs a e r k i j origin x y g h;
        }
      where
        unwritten : (n : ℕ) → (AmongRegisters n m.params → ⊥) → a n ≡ None
        unwritten n free = unwritten_at_entry m formed limit vs a e n free

        not_param : (n : ℕ) → AmongRegisters (plan.slot n) m.params → ⊥
        not_param n z = let r = number_among m.params z in is.fresh r.0 (is_param r.1) n (sym r.2)

  -- The function with its spills and reloads does what it did.
  pub does_spilled : MachSimulation m (spilled plan m)
  does_spilled = λ c.
      level.begins_at c m q refl
      (λ arguments memory a t n e proper.
      level.follows_from c m q f (keeps_marks plan) is_code (Holds c) (serves c) a a (entry_around memory) (at_entry c arguments a e) n t proper)
