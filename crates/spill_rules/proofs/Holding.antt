-- What registers hold: what is read and put, what they hold at the entry, and what a copy does.
use Rattle.std.proofs.Common.{◌≡◌, ℕ, Bool, true, false, cond, ⊎_elim, List, [], ◌∷◌, Option, Some, None, refl, sym, ap, ◌∙◌, subst}
use Rattle.std.proofs.lemmas.Bool.{cases_Bool, eq-eqb, eqb-true, both_ways}
use Rattle.std.specs.List.{Contains}
use Rattle.std.specs.Prelude.{nat_eq}
use Rattle.std.proofs.lemmas.Option.{none-some, same_Some}
use Rattle.std.proofs.lemmas.List.Elements.{All-contains}
use Rattle.bs_words.specs.Fits.{fits, type_of_comp}
use Rattle.bs_words.specs.declared.values.Value.{Value}
use Rattle.bs_words.proofs.Lists.{first_in, later_in, head_same}
use Rattle.mach_ir.specs.Acts.{Around, On, At}
use Rattle.mach_ir.specs.Formed.{WellFormed}
use Rattle.mach_ir.specs.Runs.{ActivationSetting, Continues}
use Rattle.mach_ir.specs.Meaning.{Held, File, assign_register, put_if, put_all, clear_registers, with_held, values, past_frame, unless_addr, passes_frame, wrote, on_values, step}
use Rattle.mach_ir.specs.Walks.{AmongRegisters, first, later, goes, raises, Live, read, on, aside, IsRegister, is_param, is_in_code}
use Rattle.mach_ir.specs.Keeps.{ValsWritten}
use Rattle.mach_ir.specs.declared.op.CopyKind.{CopyKind}
use Rattle.mach_ir.specs.declared.reg.Reg.{Reg}
use Rattle.mach_ir.specs.declared.mach.Instr.{Instr}
use Rattle.mach_ir.specs.declared.mach.Mach.{Mach}
use Rattle.mach_laws.specs.Expand.{Ending}
use Rattle.mach_laws.proofs.General.{at}
use Rattle.mach_laws.proofs.Places.{ending_next, ending_label, ending_from_handler, stands_of, args_in}
use Rattle.mach_laws.proofs.Among.{number_among, among_or_not}
use Rattle.mach_laws.proofs.Files.{put_other}
use Rattle.split_rules.proofs.Known.{put_here, put_both}
use Rattle.spill_rules.specs.Spilled.{copy_instruction}

-- what is read holds something
pub values_held : (a : File) (rs : List Reg) (vs : List Value) → values a rs ≡ Some vs → (n : ℕ) → AmongRegisters n rs → (h : Held) × (a n ≡ Some h)
values_held a [] vs e n z = elim z [ ]
values_held a (r ∷ rs) vs e n z =
    by (a r.number) refl (values a rs) refl e z (λ us t x. values_held a rs us t n x)
  where
    by : (o : Option Held) → a r.number ≡ o → (p : Option (List Value)) → values a rs ≡ p → with_held o p ≡ Some vs → AmongRegisters n (r ∷ rs) →
        ((us : List Value) → values a rs ≡ Some us → AmongRegisters n rs → (h : Held) × (a n ≡ Some h)) → (h : Held) × (a n ≡ Some h)
    by None s p t e z again = absurd (none-some _ e)
    by (Some h) s None t e z again = absurd (none-some _ e)
    by (Some h) s (Some us) t e (first x) again = (h, ap a (sym x) ∙ s)
    by (Some h) s (Some us) t e (later x) again = again us t x

-- ---- values that fit

-- what is put fits
module _ (end : ℕ) where
  abbrev pub IsFitting : Held → Type 0
  IsFitting h = fits end (type_of_comp h.comp) h.value ≡ true

  abbrev pub FitsIn : Reg → Option Held → Type 0
  FitsIn r o = (h : Held) → o ≡ Some h → (h.comp ≡ r.comp) × IsFitting h

  pub put_fits : (rs : List Reg) (vs : List Value) (f d : File) → put_all end rs vs f ≡ Some d → (r : Reg) →
      ((q : Reg) → Contains rs q → q.number ≡ r.number → q ≡ r) → FitsIn r (f r.number) → FitsIn r (d r.number)
  put_fits [] [] f d e r one h = subst (λ (x : File). FitsIn r (x r.number)) (same_Some _ _ e) h
  put_fits [] (v ∷ vs) f d e r one h = absurd (none-some _ e)
  put_fits (q ∷ rs) [] f d e r one h = absurd (none-some _ e)
  put_fits (q ∷ rs) (v ∷ vs) f d e r one h =
      by (fits end (type_of_comp q.comp) v) (put_all end rs vs f) refl refl e
      (λ c k. put_fits rs vs f c k r (λ j z. one j (later_in q j rs z)) h)
    where
      at_one : (c : File) → FitsIn r (c r.number) → fits end (type_of_comp q.comp) v ≡ true → FitsIn r (assign_register q v c r.number)
      at_one c old t =
          ⊎_elim
          (λ s.
          let same : q ≡ r = one q (first_in q rs) (eqb-true q.number r.number s) in
          λ (h : Held) (g : assign_register q v c r.number ≡ Some h).
          let is : record { comp = q.comp; value = v } ≡ h =
          same_Some _ _ (sym (put_here q v c r.number (eqb-true q.number r.number s)) ∙ g) in
          (ap (λ (x : Held). x.comp) (sym is) ∙ ap (λ (x : Reg). x.comp) same, subst IsFitting is t))
          (λ s. subst (FitsIn r) (sym (put_other q v c r.number (λ z. both_ways (nat_eq q.number r.number) s (eq-eqb q.number r.number z)))) old)
          (cases_Bool (nat_eq q.number r.number))

      by : (t : Bool) (o : Option File) → fits end (type_of_comp q.comp) v ≡ t → put_all end rs vs f ≡ o → put_if t q v o ≡ Some d →
          ((c : File) → put_all end rs vs f ≡ Some c → FitsIn r (c r.number)) → FitsIn r (d r.number)
      by false o t e k again = absurd (none-some _ k)
      by true None t e k again = absurd (none-some _ k)
      by true (Some c) t e k again =
          subst (λ (x : File). FitsIn r (x r.number)) (same_Some _ _ k) (at_one c (again c e) t)

  -- what is written holds something
  pub put_holds : (rs : List Reg) (vs : List Value) (f d : File) → put_all end rs vs f ≡ Some d → (n : ℕ) → AmongRegisters n rs → (h : Held) × (d n ≡ Some h)
  put_holds [] vs f d e n a = elim a [ ]
  put_holds (q ∷ rs) [] f d e n a = absurd (none-some _ e)
  put_holds (q ∷ rs) (v ∷ vs) f d e n a =
      by (fits end (type_of_comp q.comp) v) (put_all end rs vs f) refl e (λ c k z. put_holds rs vs f c k n z)
    where
      rest_of : (q.number ≡ n → ⊥) → AmongRegisters n (q ∷ rs) → AmongRegisters n rs
      rest_of h (first e) = absurd (h e)
      rest_of h (later a) = a

      at_one : (c : File) → (AmongRegisters n rs → (h : Held) × (c n ≡ Some h)) → (h : Held) × (assign_register q v c n ≡ Some h)
      at_one c old =
          ⊎_elim (λ s. (record { comp = q.comp; value = v }, put_here q v c n (eqb-true q.number n s)))
          (λ s.
          let other = λ (z : q.number ≡ n). both_ways (nat_eq q.number n) s (eq-eqb q.number n z) in
          let h = old (rest_of other a) in (h.0, put_other q v c n other ∙ h.1))
          (cases_Bool (nat_eq q.number n))

      by : (t : Bool) (o : Option File) → put_all end rs vs f ≡ o → put_if t q v o ≡ Some d →
          ((c : File) → put_all end rs vs f ≡ Some c → AmongRegisters n rs → (h : Held) × (c n ≡ Some h)) → (h : Held) × (d n ≡ Some h)
      by false o e k again = absurd (none-some _ k)
      by true None e k again = absurd (none-some _ k)
      by true (Some c) e k again =
          subst (λ (x : File). (h : Held) × (x n ≡ Some h)) (same_Some _ _ k) (at_one c (again c e))

  pub clear_fits : (ks : List Reg) (f : File) (r : Reg) → FitsIn r (f r.number) → FitsIn r (clear_registers ks f r.number)
  clear_fits [] f r h = h
  clear_fits (k ∷ ks) f r h = by (nat_eq k.number r.number) (clear_fits ks f r h)
    where
      by : (b : Bool) → FitsIn r (clear_registers ks f r.number) → FitsIn r (cond b None (clear_registers ks f r.number))
      by true old = λ h e. absurd (none-some _ e)
      by false old = old

  pub frame_fits : (t : Bool) (f : File) (r : Reg) → FitsIn r (f r.number) → FitsIn r (past_frame t f r.number)
  frame_fits false f r h = h
  frame_fits true f r h = by (f r.number) h
    where
      kept : (b : Bool) (u : Held) → FitsIn r (Some u) → FitsIn r (cond b None (Some u))
      kept true u h = λ k e. absurd (none-some _ e)
      kept false u h = h

      by : (o : Option Held) → FitsIn r o → FitsIn r (unless_addr o)
      by None h = h
      by (Some u) h = kept _ u h

-- ---- registers that are live

module _ (m : Mach) where
  pub live_register : {n : ℕ} {rest : List Instr} → Live m n rest → Ending rest m.code → (r : Reg) × IsRegister m r × (r.number ≡ n)
  live_register (read {i = i} a) e = let r = number_among i.args a in (r.0, is_in_code (args_in (stands_of e) r.1), r.2)
  live_register (on w (goes On o) v) e = live_register v (ending_next e)
  live_register (on w (goes (At l) o) v) e = live_register v (ending_label l m.code)
  live_register (aside (raises {l = l} b r) v) e = live_register v (ending_from_handler l m.code)

-- ---- at the entry

-- the parameters are written, and nothing else
module _ (m : Mach) (formed : WellFormed m) (end : ℕ) (vs : List Value) (a : File)
    (e : put_all end m.params vs (λ n. None) ≡ Some a) where
  pub unwritten_at_entry : (n : ℕ) → (AmongRegisters n m.params → ⊥) → a n ≡ None
  unwritten_at_entry n free = (put_both end m.params vs (λ n. None) (λ n. None) a e).others n free

  -- what holds something is a parameter, made from no other register
  own_origin : (r : Reg) → IsRegister m r → (x : Held) → a r.number ≡ Some x → r.origin ≡ r.number
  own_origin r i x g =
      ⊎_elim
      (λ z.
      let p = number_among m.params z in
      let same = formed.numbers p.0 r (is_param p.1) i p.2 in
      subst (λ (r : Reg). r.origin ≡ r.number) same (All-contains (λ (r : Reg). r.origin ≡ r.number) m.params p.0 formed.params p.1))
      (λ free. absurd (none-some _ (sym (unwritten_at_entry r.number free) ∙ g))) (among_or_not r.number m.params)

  pub fit_at_entry : (r : Reg) → IsRegister m r → FitsIn end r (a r.number)
  fit_at_entry r j =
      put_fits end m.params vs (λ n. None) a e r (λ k z g. formed.numbers k r (is_param z) j g) (λ h g. absurd (none-some _ g))

  pub agree_at_entry : (r k : Reg) → IsRegister m r → IsRegister m k → r.origin ≡ k.origin → (x y : Held) → a r.number ≡ Some x →
      a k.number ≡ Some y → x.value ≡ y.value
  agree_at_entry r k i j origin x y g h =
      let s : r ≡ k = formed.numbers r k i j (sym (own_origin r i x g) ∙ origin ∙ own_origin k j y h) in
      ap (λ (h : Held). h.value) (same_Some _ _ (sym g ∙ ap (λ (r : Reg). a r.number) s ∙ h))

-- ---- copies

module _ (c : ActivationSetting) (q : Mach) where
  pub copy_step : (kind : CopyKind) (from to : Reg) (zs : List Instr) (b : File) (y : Around) (h : Held) → b from.number ≡ Some h →
      fits c.setting.end (type_of_comp to.comp) h.value ≡ true →
      step c q (at (copy_instruction kind from to ∷ zs) b y) ≡ Continues (at zs (assign_register to h.value b) y)
  copy_step kind from to zs b y h e fit =
      ap (λ o. on_values c q (copy_instruction kind from to) zs b y (with_held o (Some []))) e
      ∙ ap (λ t. wrote zs y (put_if t to h.value (Some b))) fit

  pub vals_copy : (kind : CopyKind) (from to : Reg) (zs : List Instr) (b : File) (y : Around) →
      ValsWritten q (at (copy_instruction kind from to ∷ zs) b y)
  vals_copy kind from to zs b y =
      record {
        written = λ j ys e frame r one val v none.
            absurd
            (both_ways (passes_frame j.op) (ap (λ (i : Instr). passes_frame i.op) (sym (head_same e))) frame);
      }
