-- The copies round an instruction: each reload before it gives a fresh register what its slot holds, and each spill after it
-- gives a slot what its fresh register holds.
use Rattle.std.proofs.Common.{◌≡◌, ℕ, suc, ◌<◌, ◌≤◌, Bool, true, false, cond, inl, inr, ◌⊎◌, ⊎_elim, List, [], ◌∷◌, ◌++◌, Option, Some, None, refl, sym, ap, ◌∙◌, subst, arith}
use Rattle.std.proofs.lemmas.Bool.{cases_Bool, eq-eqb, eqb-true, both_ways}
use Rattle.std.specs.List.{Contains}
use Rattle.std.specs.Prelude.{nat_eq}
use Rattle.bs_words.specs.Fits.{fits, type_of_comp}
use Rattle.bs_words.specs.declared.values.Value.{Value}
use Rattle.bs_words.proofs.Lists.{none_in, in_cons}
use Rattle.mach_ir.specs.Acts.{Around}
use Rattle.mach_ir.specs.Formed.{WellFormed}
use Rattle.mach_ir.specs.Placed.{WellPlaced}
use Rattle.mach_ir.specs.Runs.{ActivationSetting}
use Rattle.mach_ir.specs.Meaning.{Held, File, assign_register, killed, registers_written}
use Rattle.mach_ir.specs.Walks.{AmongRegisters, first, later, Live, read, IsRegister}
use Rattle.mach_ir.specs.Keeps.{OriginsAgree, wrote_unless}
use Rattle.mach_ir.specs.declared.op.CopyKind.TheVariants as copy
use Rattle.mach_ir.specs.declared.reg.Reg.{Reg}
use Rattle.mach_ir.specs.declared.mach.Instr.{Instr}
use Rattle.mach_ir.specs.declared.mach.Mach.{Mach}
use Rattle.mach_laws.specs.Expand.{Ending, expand}
use Rattle.mach_laws.proofs.General as general
use Rattle.mach_laws.proofs.General.{at}
use Rattle.mach_laws.proofs.Places.{ending_next, stands_of}
use Rattle.mach_laws.proofs.Simulate.{Agrees}
use Rattle.mach_laws.proofs.Among.{left_among, among_of, unless_among}
use Rattle.mach_laws.proofs.Files.{put_other}
use Rattle.colouring_rules.proofs.Files.{put_here}
use Rattle.spill_rules.specs.Spilled.{copy_instruction}
use Rattle.spill_rules.proofs.Holding.{FitsIn, live_register, copy_step, vals_copy}
use Rattle.reload_rules.specs.Reloaded.{reads_registers, writes_registers, is_renewed, fresh_stand_in, next_reload_number, reloads, spills}
use Rattle.reload_rules.proofs.Calm.{IsQuiet}
use Rattle.reload_rules.proofs.Live.{IsNumbering, reloaded_by, operands_at, results_at, ForOperand, ForResult, Stage, Reading, Storing, Laid, LastOperands, LastResults, fewer_operands, fewer_results, all_results, laid_results, laid_operands, laid_of, FreshOperand, is_operand, is_result, NotSpilled, Says, live_back}
use Rattle.reload_rules.proofs.Numbers.{for_this, after_true, after_false, for_in, for_same}
use Rattle.reload_rules.proofs.Registers.{for_operand, for_result, made_register, made_free, made_origin, old_register}
use Rattle.reload_rules.proofs.Text.{laid_instr, keeps_marks}

module _ (m : Mach) (s : ℕ → ℕ) (free top : ℕ) (formed : WellFormed m) (placed : WellPlaced m) (is : IsNumbering m s free top) where
  abbrev q : Mach
  q = reloaded_by s m

  abbrev f : ℕ → Instr → List Instr
  f = laid_instr s

  abbrev Lay : Stage m s free top formed placed is → List Instr → Type 0
  Lay = Laid m s free top formed placed is

  abbrev first_operand : List Instr → ℕ
  first_operand next = operands_at m s free top formed placed is next

  abbrev first_result : Instr → List Instr → ℕ
  first_result i next = results_at m s free top formed placed is i next

  abbrev Operand : Instr → List Instr → ℕ → Reg → Type 0
  Operand = ForOperand m s free top formed placed is

  abbrev Result : Instr → List Instr → ℕ → Reg → Type 0
  Result = ForResult m s free top formed placed is

  abbrev Told_at : ℕ → Stage m s free top formed placed is → Type 0
  Told_at = Says m s free top formed placed is

  abbrev Unspilled : Instr → ℕ → List Reg → Type 0
  Unspilled = NotSpilled m s free top formed placed is

  pub laid_after : (i : Instr) (next : List Instr) → Ending (i ∷ next) m.code →
      Lay (Storing i next (first_result i next) i.results) (spills (writes_registers i.op) (first_result i next) i.results ++ expand f next)
  laid_after i next ending =
      laid_results m s free top formed placed is i next (first_result i next) i.results (expand f next) ending
      (all_results m s free top formed placed is i next) (laid_of m s free top formed placed is next (ending_next ending))

  pub live_low : {n : ℕ} {rest : List Instr} → Live m n rest → Ending rest m.code → n < free
  live_low v e = let u = live_register m v e in subst (λ n. n < free) u.2 (is.above u.0 u.1)

  pub wrote_all : (o : Option Value) → o ≡ None → (us : List Reg) (x : ℕ) → AmongRegisters x us → AmongRegisters x (wrote_unless o us)
  wrote_all o e us x a = subst (λ o. AmongRegisters x (wrote_unless o us)) (sym e) a

  only_number : {x : ℕ} (r : Reg) → AmongRegisters x (r ∷ []) → r.number ≡ x
  only_number r (first e) = e
  only_number r (later a) = elim a [ ]

  abbrev is_code : q.code ≡ expand f m.code
  is_code = refl

  module _ (c : ActivationSetting) where
    abbrev limit : ℕ
    limit = c.setting.end

    pub record Holds (rest : List Instr) (a b : File) : Type 0 where
      pub itself : (n : ℕ) → Live m n rest → a n ≡ b n
      pub fit : (r : Reg) → IsRegister m r → FitsIn limit r (a r.number)
      pub agree : (r k : Reg) → IsRegister m r → IsRegister m k → r.origin ≡ k.origin → Live m r.number rest → Live m k.number rest →
          (x y : Held) → a r.number ≡ Some x → a k.number ≡ Some y → x.value ≡ y.value

    -- what is round both is the same
    pub record Linked (rest : List Instr) (x y : Around) (a b : File) : Type 0 where
      pub same : x ≡ y
      pub quiet : IsQuiet rest x
      pub holds : Holds rest a b

    -- ---- before an instruction

    -- the fresh registers below this number hold what their operands hold
    pub record HoldsReading (i : Instr) (next : List Instr) (n : ℕ) (a b : File) : Type 0 where
      pub holds : Holds (i ∷ next) a b
      pub made : (x : ℕ) (w : Reg) → Operand i next x w → x < n → a w.number ≡ b x

    -- a register of the first that holds what one of the second holds, and is live
    record Reads (i : Instr) (next : List Instr) (a b : File) (r : Reg) : Type 0 where
      register : Reg
      among : IsRegister m register
      origin : register.origin ≡ r.origin
      live : Live m register.number (i ∷ next)
      value : a register.number ≡ b r.number

    reads_of : (i : Instr) (next : List Instr) (n : ℕ) (rs : List Reg) (a b : File) → Ending (i ∷ next) m.code → HoldsReading i next n a b →
        (r : Reg) → IsRegister q r → Told_at r.number (Reading i next n rs) → Reads i next a b r
    reads_of i next n rs a b ending h r j (inl v) =
        let u = live_register m v ending in
        record {
          register = r;
          among = old_register m s free top formed placed is r u.0 j u.1 u.2;
          origin = refl;
          live = v;
          value = (h.holds).itself r.number v;
        }
    reads_of i next n rs a b ending h r j (inr (is_operand w g lt)) =
        record {
          register = w;
          among = made_register m s free top formed placed is (stands_of ending) (for_operand g);
          origin = made_origin m s free top formed placed is r j (stands_of ending) (for_operand g);
          live = read (among_of w i.args (for_in (reads_registers i.op) g));
          value = h.made r.number w g lt;
        }

    agree_reading : (i : Instr) (next ys : List Instr) (n : ℕ) (rs us : List Reg) (a b : File) (y : Around) → Ending (i ∷ next) m.code →
        Lay (Reading i next n rs) ys → HoldsReading i next n a b → ((x : ℕ) → AmongRegisters x us → Told_at x (Reading i next n rs)) →
        OriginsAgree q us (at ys b y)
    agree_reading i next ys n rs us a b y ending laid h known =
        record {
          agree = λ r k ir ik origin l e g d s t.
              let w = here r ir l in
              let v = here k ik e in
              (h.holds).agree w.register v.register w.among v.among (w.origin ∙ origin ∙ sym v.origin) w.live v.live g d
              (w.value ∙ s) (v.value ∙ t);
        }
      where
        here : (r : Reg) → IsRegister q r → Live q r.number ys ⊎ AmongRegisters r.number us → Reads i next a b r
        here r j l =
            reads_of i next n rs a b ending h r j
            (⊎_elim (λ v. live_back m s free top formed placed is v (Reading i next n rs) laid) (λ z. known r.number z) l)

    module _ (Suit : Around → Around → Type 0) where
      abbrev Passes : Type 0 → Around → List Instr → List Instr → File → File → Type 0
      Passes Given y xs next b d = general.Passes c m q f (keeps_marks s) is_code Suit Linked Given y xs next b d

      pub record PassedBefore (i : Instr) (next : List Instr) (n : ℕ) (rs : List Reg) (tail : List Instr) (a b : File) (y : Around) : Type 0 where
        pub file : File
        pub passing : Passes (Unit {0}) y (reloads (reads_registers i.op) n rs) tail b file
        pub holds : HoldsReading i next (first_result i next) a file

      pub before : (i : Instr) (next : List Instr) (a : File) (y : Around) → Ending (i ∷ next) m.code →
          ((n : ℕ) → AmongRegisters n i.args → (h : Held) × (a n ≡ Some h)) → (tail : List Instr) → Lay (Reading i next (first_result i next) []) tail →
          (n : ℕ) (rs : List Reg) → LastOperands m s free top formed placed is i next n rs → (b : File) → HoldsReading i next n a b →
          PassedBefore i next n rs tail a b y
      before i next a y ending held tail laid n [] known b holds =
          record { file = b; passing = general.passed; holds = subst (λ n. HoldsReading i next n a b) known.1 holds }
      before i next a y ending held tail laid n (r ∷ rs) known b holds =
          by (is_renewed (reads_registers i.op) r) refl
          (λ k e b' h. before i next a y ending held tail laid k rs (fewer_operands m s free top formed placed is i next n k r rs known e) b' h)
        where
          by : (t : Bool) → is_renewed (reads_registers i.op) r ≡ t →
              ((k : ℕ) → next_reload_number (reads_registers i.op) n r ≡ k → (b' : File) → HoldsReading i next k a b' → PassedBefore i next k rs tail a b' y) →
              PassedBefore i next n (r ∷ rs) tail a b y
          by false t again =
              let more = again n (after_false (reads_registers i.op) n r t) b holds in
              record {
                file = more.file;
                passing = subst
                    (λ t. Passes (Unit {0}) y
                    (cond t (copy_instruction copy.Reload r (fresh_stand_in n r) ∷ reloads (reads_registers i.op) (suc n) rs) (reloads (reads_registers i.op) n rs)) tail b
                    more.file)
                    (sym t) more.passing;
                holds = more.holds;
              }
          by true t again =
              record {
                file = more.file;
                passing = subst
                    (λ t. Passes (Unit {0}) y
                    (cond t (copy_instruction copy.Reload r (fresh_stand_in n r) ∷ reloads (reads_registers i.op) (suc n) rs) (reloads (reads_registers i.op) n rs)) tail b
                    more.file)
                    (sym t)
                    (general.passes
                    (copy_step c q copy.Reload r (fresh_stand_in n r) (reloads (reads_registers i.op) (suc n) rs ++ tail) b y h
                    (sym ((holds.holds).itself r.number (read among)) ∙ (held r.number among).1)
                    (subst (λ t. fits limit (type_of_comp t) h.value ≡ true) fits_so.0 fits_so.1))
                    (vals_copy c q copy.Reload r (fresh_stand_in n r) (reloads (reads_registers i.op) (suc n) rs ++ tail) b y)
                    (λ u.
                    agree_reading i next (reloads (reads_registers i.op) (suc n) rs ++ tail) (suc n) rs (wrote_unless y.raised (fresh_stand_in n r ∷ [])) a b1 y
                    ending
                    (laid_operands m s free top formed placed is i next (suc n) rs tail ending
                    (fewer_operands m s free top formed placed is i next n (suc n) r rs known (after_true (reads_registers i.op) n r t)) laid)
                    holds_on
                    (λ x z.
                    inr
                    (subst (FreshOperand m s free top formed placed is i next (suc n)) (only_number (fresh_stand_in n r) (unless_among y.raised (fresh_stand_in n r ∷ []) x z))
                    (is_operand r made_here (omega arith)))))
                    more.passing);
                holds = more.holds;
              }
            where
              made_here : Operand i next n r
              made_here = known.0 n r (for_this t)

              among : AmongRegisters r.number i.args
              among = among_of r i.args (for_in (reads_registers i.op) made_here)

              is_reg : IsRegister m r
              is_reg = made_register m s free top formed placed is (stands_of ending) (for_operand made_here)

              h : Held
              h = (held r.number among).0

              fits_so : (h.comp ≡ r.comp) × (fits limit (type_of_comp h.comp) h.value ≡ true)
              fits_so = (holds.holds).fit r is_reg h (held r.number among).1

              as_put : a r.number ≡ Some (record { comp = r.comp; value = h.value })
              as_put = (held r.number among).1 ∙ ap (λ t. Some (record { comp = t; value = h.value })) fits_so.0

              b1 : File
              b1 = assign_register (fresh_stand_in n r) h.value b

              high : free ≤ n
              high = made_free m s free top formed placed is (stands_of ending) (for_operand made_here)

              not_live : (x : ℕ) → Live m x (i ∷ next) → n ≡ x → ⊥
              not_live x v e = let lt = live_low v ending in omega (arith, lt, high, e)

              holds_on : HoldsReading i next (suc n) a b1
              holds_on =
                  record {
                    holds = record {
                      itself = λ x v. (holds.holds).itself x v ∙ sym (put_other (fresh_stand_in n r) h.value b x (not_live x v));
                      fit = (holds.holds).fit;
                      agree = (holds.holds).agree;
                    };
                    made = λ x w g lt.
                        ⊎_elim
                        (λ e.
                        let same : n ≡ x = eqb-true n x e in
                        ap (λ (k : Reg). a k.number) (sym (for_same (reads_registers i.op) made_here g same)) ∙ as_put
                        ∙ sym (put_here (fresh_stand_in n r) h.value b x same))
                        (λ e.
                        let ne = λ (z : n ≡ x). both_ways (nat_eq n x) e (eq-eqb n x z) in
                        holds.made x w g (less n x lt ne) ∙ sym (put_other (fresh_stand_in n r) h.value b x ne))
                        (cases_Bool (nat_eq n x));
                  }
                where
                  less : (n x : ℕ) → x < suc n → (n ≡ x → ⊥) → x < n
                  less n x lt ne = omega (arith, lt, ne)

              more : PassedBefore i next (suc n) rs tail a b1 y
              more = again (suc n) (after_true (reads_registers i.op) n r t) b1 holds_on

      -- ---- after an instruction

      -- what the second holds once these results are left to be spilled, from this number on
      pub record HoldsAfter (i : Instr) (next : List Instr) (n : ℕ) (rs : List Reg) (d e : File) : Type 0 where
        pub itself : (x : ℕ) → Live m x next → Unspilled i x rs → d x ≡ e x
        pub made : (x : ℕ) (w : Reg) → Result i next x w → n ≤ x → d w.number ≡ e x

      -- a register of the first that holds what one of the second holds, and is live or just written
      pub record Stores (i : Instr) (next : List Instr) (d e : File) (y : Around) (r : Reg) : Type 0 where
        pub register : Reg
        pub among : IsRegister m register
        pub origin : register.origin ≡ r.origin
        pub live : Live m register.number next ⊎ AmongRegisters register.number (wrote_unless y.raised (registers_written m i))
        pub value : d register.number ≡ e r.number

      pub of_result : (i : Instr) (next : List Instr) (d e : File) (y : Around) → Ending (i ∷ next) m.code → y.raised ≡ None → (r : Reg) →
          IsRegister q r → (w : Reg) → Result i next r.number w → d w.number ≡ e r.number → Stores i next d e y r
      of_result i next d e y ending quiet r j w g same =
          record {
            register = w;
            among = made_register m s free top formed placed is (stands_of ending) (for_result g);
            origin = made_origin m s free top formed placed is r j (stands_of ending) (for_result g);
            live = inr
                (wrote_all y.raised quiet (registers_written m i) w.number
                (left_among i.results (killed m i) (among_of w i.results (for_in (writes_registers i.op) g))));
            value = same;
          }

      pub agree_storing : (i : Instr) (next ys : List Instr) (n : ℕ) (rs us : List Reg) (d e : File) (y : Around) → Ending (i ∷ next) m.code →
          Lay (Storing i next n rs) ys → HoldsAfter i next n rs d e → y.raised ≡ None → Agrees m (registers_written m i) (at next d y) →
          ((r : Reg) (u : Held) → IsRegister q r → AmongRegisters r.number us → e r.number ≡ Some u → Stores i next d e y r) →
          OriginsAgree q us (at ys e y)
      agree_storing i next ys n rs us d e y ending laid holds quiet agreed just =
          record {
            agree = λ r k ir ik origin l z h g s t.
                let w = here r ir h l s in
                let v = here k ik g z t in
                agreed.agree w.register v.register w.among v.among (w.origin ∙ origin ∙ sym v.origin) w.live v.live h g
                (w.value ∙ s) (v.value ∙ t);
          }
        where
          of_live : (r : Reg) → IsRegister q r → Told_at r.number (Storing i next n rs) → Stores i next d e y r
          of_live r j (inl (is_result w g le)) = of_result i next d e y ending quiet r j w g (holds.made r.number w g le)
          of_live r j (inr g) =
              let u = live_register m g.0 (ending_next ending) in
              record {
                register = r;
                among = old_register m s free top formed placed is r u.0 j u.1 u.2;
                origin = refl;
                live = inl g.0;
                value = holds.itself r.number g.0 g.1;
              }

          here : (r : Reg) → IsRegister q r → (u : Held) → Live q r.number ys ⊎ AmongRegisters r.number us → e r.number ≡ Some u → Stores i next d e y r
          here r j u (inl v) g = of_live r j (live_back m s free top formed placed is v (Storing i next n rs) laid)
          here r j u (inr z) g = just r u j z g

      pub record PassedAfter (i : Instr) (next : List Instr) (n : ℕ) (rs : List Reg) (d e : File) (y : Around) : Type 0 where
        pub file : File
        pub passing : Passes (Agrees m (registers_written m i) (at next d y)) y (spills (writes_registers i.op) n rs) (expand f next) e file
        pub holds : (x : ℕ) → Live m x next → d x ≡ file x

      pub after : (i : Instr) (next : List Instr) (d : File) (y : Around) → Ending (i ∷ next) m.code → y.raised ≡ None →
          ((n : ℕ) → AmongRegisters n i.results → (h : Held) × (d n ≡ Some h)) → ((r : Reg) → IsRegister m r → FitsIn limit r (d r.number)) →
          (n : ℕ) (rs : List Reg) → LastResults m s free top formed placed is i next n rs → (e : File) → HoldsAfter i next n rs d e →
          PassedAfter i next n rs d e y
      after i next d y ending quiet held fit n [] known e holds =
          record { file = e; passing = general.passed; holds = λ x v. holds.itself x v (λ r c. absurd (none_in r c)) }
      after i next d y ending quiet held fit n (r ∷ rs) known e holds =
          by (is_renewed (writes_registers i.op) r) refl
          (λ k g e' h.
          after i next d y ending quiet held fit k rs (fewer_results m s free top formed placed is i next n k r rs known g) e' h)
        where
          by : (t : Bool) → is_renewed (writes_registers i.op) r ≡ t →
              ((k : ℕ) → next_reload_number (writes_registers i.op) n r ≡ k → (e' : File) → HoldsAfter i next k rs d e' → PassedAfter i next k rs d e' y) →
              PassedAfter i next n (r ∷ rs) d e y
          by false t again =
              let more = again n (after_false (writes_registers i.op) n r t) e
              (record {
                itself = λ x v free. holds.itself x v
                    (λ j z g h.
                    ⊎_elim
                    (λ a. both_ways (is_renewed (writes_registers i.op) r) t (subst (λ j. is_renewed (writes_registers i.op) j ≡ true) (sym a) g))
                    (λ z. free j z g h) (in_cons r j rs z));
                made = holds.made;
              }) in
              record {
                file = more.file;
                passing = subst
                    (λ t. Passes (Agrees m (registers_written m i) (at next d y)) y
                    (cond t (copy_instruction copy.Spill (fresh_stand_in n r) r ∷ spills (writes_registers i.op) (suc n) rs) (spills (writes_registers i.op) n rs))
                    (expand f next) e more.file)
                    (sym t) more.passing;
                holds = more.holds;
              }
          by true t again =
              record {
                file = more.file;
                passing = subst
                    (λ t. Passes (Agrees m (registers_written m i) (at next d y)) y
                    (cond t (copy_instruction copy.Spill (fresh_stand_in n r) r ∷ spills (writes_registers i.op) (suc n) rs) (spills (writes_registers i.op) n rs))
                    (expand f next) e more.file)
                    (sym t)
                    (general.passes
                    (copy_step c q copy.Spill (fresh_stand_in n r) r (spills (writes_registers i.op) (suc n) rs ++ expand f next) e y h
                    (sym (holds.made n r made_here (omega arith)) ∙ holds_h)
                    (subst (λ t. fits limit (type_of_comp t) h.value ≡ true) fits_so.0 fits_so.1))
                    (vals_copy c q copy.Spill (fresh_stand_in n r) r (spills (writes_registers i.op) (suc n) rs ++ expand f next) e y)
                    (λ agreed.
                    agree_storing i next (spills (writes_registers i.op) (suc n) rs ++ expand f next) (suc n) rs (wrote_unless y.raised (r ∷ []))
                    d e1 y ending
                    (laid_results m s free top formed placed is i next (suc n) rs (expand f next) ending
                    (fewer_results m s free top formed placed is i next n (suc n) r rs known (after_true (writes_registers i.op) n r t))
                    (laid_of m s free top formed placed is next (ending_next ending)))
                    holds_on quiet agreed (λ k u j z g. just k j (only_number r (unless_among y.raised (r ∷ []) k.number z))))
                    more.passing);
                holds = more.holds;
              }
            where
              made_here : Result i next n r
              made_here = known n r (for_this t)

              result : Contains i.results r
              result = for_in (writes_registers i.op) made_here

              is_reg : IsRegister m r
              is_reg = made_register m s free top formed placed is (stands_of ending) (for_result made_here)

              h : Held
              h = (held r.number (among_of r i.results result)).0

              holds_h : d r.number ≡ Some h
              holds_h = (held r.number (among_of r i.results result)).1

              fits_so : (h.comp ≡ r.comp) × (fits limit (type_of_comp h.comp) h.value ≡ true)
              fits_so = fit r is_reg h holds_h

              as_put : d r.number ≡ Some (record { comp = r.comp; value = h.value })
              as_put = holds_h ∙ ap (λ t. Some (record { comp = t; value = h.value })) fits_so.0

              e1 : File
              e1 = assign_register r h.value e

              high : (x : ℕ) → suc n ≤ x → r.number ≡ x → ⊥
              high x le g =
                  let lt = is.above r is_reg in
                  let from = made_free m s free top formed placed is (stands_of ending) (for_result made_here) in omega (arith, lt, from, le, g)

              holds_on : HoldsAfter i next (suc n) rs d e1
              holds_on =
                  record {
                    itself = λ x v free.
                        ⊎_elim
                        (λ g.
                        let same : r.number ≡ x = eqb-true r.number x g in
                        ap d (sym same) ∙ as_put ∙ sym (put_here r h.value e x same))
                        (λ g.
                        let ne = λ (z : r.number ≡ x). both_ways (nat_eq r.number x) g (eq-eqb r.number x z) in
                        holds.itself x v
                        (λ j z u w.
                        ⊎_elim (λ a. ne (ap (λ (r : Reg). r.number) a ∙ w)) (λ z. free j z u w) (in_cons r j rs z))
                        ∙ sym (put_other r h.value e x ne))
                        (cases_Bool (nat_eq r.number x));
                    made = λ x w g le. holds.made x w g (omega (arith, le)) ∙ sym (put_other r h.value e x (high x le));
                  }

              just : (k : Reg) → IsRegister q k → r.number ≡ k.number → Stores i next d e1 y k
              just k j g =
                  record {
                    register = k;
                    among = old_register m s free top formed placed is k r j is_reg g;
                    origin = refl;
                    live = inr
                        (wrote_all y.raised quiet (registers_written m i) k.number
                        (left_among i.results (killed m i) (subst (λ n. AmongRegisters n i.results) g (among_of r i.results result))));
                    value = ap d (sym g) ∙ as_put ∙ sym (put_here r h.value e k.number g);
                  }

              more : PassedAfter i next (suc n) rs d e1 y
              more = again (suc n) (after_true (writes_registers i.op) n r t) e1 holds_on
