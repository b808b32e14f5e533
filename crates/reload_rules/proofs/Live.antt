-- What is live in a function with its reloads and spills was live before, but for the fresh registers of the instruction that is
-- near.
use Rattle.std.proofs.Common.{◌≡◌, ℕ, suc, ◌<◌, ◌≤◌, Bool, true, false, cond, ◌⊎◌, inl, inr, ⊎_elim, List, [], ◌∷◌, ◌++◌, length, refl, sym, ap, ◌∙◌, subst, arith, append_assoc}
use Rattle.std.proofs.lemmas.Bool.{cases_Bool, eq-eqb, eqb-true, both_ways}
use Rattle.std.specs.List.{Contains}
use Rattle.std.specs.Prelude.{nat_eq}
use Rattle.mach_ir.specs.Acts.{Target, On, At}
use Rattle.mach_ir.specs.Formed.{WellFormed}
use Rattle.mach_ir.specs.Meaning.{after_label, from_handler, code_at, tries_at, tries_past, destroyed_by, killed}
use Rattle.mach_ir.specs.Placed.{WellPlaced}
use Rattle.mach_ir.specs.Walks.{AmongRegisters, first, later, OneOf, targets, may_raise, goes, raises, Writes, Live, read, on, aside, LiveAcross, across_step, across_raise, StandsAsInstr, IsRegister}
use Rattle.mach_ir.specs.declared.op.CopyKind.TheVariants as copy
use Rattle.mach_ir.specs.declared.reg.Reg.{Reg}
use Rattle.mach_ir.specs.declared.mach.Instr.{Instr}
use Rattle.mach_ir.specs.declared.mach.Mach.{Mach}
use Rattle.mach_laws.specs.Expand.{expand, Ending}
use Rattle.mach_laws.proofs.Places.{label_expand, handler_expand, ending_next, ending_label, ending_from_handler, form_of}
use Rattle.mach_laws.proofs.Among.{left_among, right_among, split_among, number_among, among_of}
use Rattle.mach_laws.proofs.Raised.{label_silent}
use Rattle.mach_laws.proofs.Walking.{only_on}
use Rattle.spill_rules.specs.Spilled.{copy_instruction}
use Rattle.bs_words.proofs.Lists.{none_in, in_cons}
use Rattle.reload_rules.specs.Reloaded.{reads_registers, writes_registers, is_renewed, fresh_stand_in, next_reload_number, number_past, reloads, spills, results_from, past_instr, renewed_instr}
use Rattle.reload_rules.proofs.Killed.{same_killed}
use Rattle.reload_rules.proofs.Numbers.{IsFor, for_this, for_other, WasIn, was_own, was_fresh, after_true, after_false, for_from, for_below, for_in, was_in, own_stays, for_stands}
use Rattle.reload_rules.proofs.Text.{laid_instr, keeps_marks}

-- Numbers of fresh registers, by how many instructions come after: above those of all registers, and rising.
pub record IsNumbering (m : Mach) (s : ℕ → ℕ) (free top : ℕ) : Type 0 where
  pub above : (r : Reg) → IsRegister m r → r.number < free
  pub from : (i : Instr) (next : List Instr) → StandsAsInstr i next m.code → free ≤ s (length next)
  pub rises : (i j : Instr) (next rest : List Instr) → StandsAsInstr i next m.code → StandsAsInstr j rest next →
      past_instr (s (length next)) i ≤ s (length rest)
  pub below_top : (i : Instr) (next : List Instr) → StandsAsInstr i next m.code → past_instr (s (length next)) i ≤ top

abbrev pub reloaded_by : (ℕ → ℕ) → Mach → Mach
reloaded_by s m = record m { code = expand (laid_instr s) m.code }

module _ (m : Mach) (s : ℕ → ℕ) (free top : ℕ) (formed : WellFormed m) (placed : WellPlaced m) (is : IsNumbering m s free top) where
  abbrev q : Mach
  q = reloaded_by s m

  abbrev f : ℕ → Instr → List Instr
  f = laid_instr s

  abbrev pub operands_at : List Instr → ℕ
  operands_at next = s (length next)

  abbrev pub results_at : Instr → List Instr → ℕ
  results_at i next = results_from (s (length next)) i

  abbrev pub main_of : Instr → List Instr → Instr
  main_of i next = renewed_instr (s (length next)) i

  -- the fresh register for an operand, and for a result
  abbrev pub ForOperand : Instr → List Instr → ℕ → Reg → Type 0
  ForOperand i next x w = IsFor (reads_registers i.op) (s (length next)) i.args x w

  abbrev pub ForResult : Instr → List Instr → ℕ → Reg → Type 0
  ForResult i next x w = IsFor (writes_registers i.op) (results_from (s (length next)) i) i.results x w

  -- ---- the second's code, part by part

  pub data Stage : Type 0 where
    Before : List Instr → Stage
    -- before this instruction, with these operands to be gone over, from this number on
    Reading : Instr → List Instr → ℕ → List Reg → Stage
    -- after it, with these results to be gone over
    Storing : Instr → List Instr → ℕ → List Reg → Stage

  pub data Laid : Stage → List Instr → Type 0 where
    laid_end : Laid (Before []) []
    begins : {i : Instr} {next ys : List Instr} → Ending (i ∷ next) m.code → Laid (Reading i next (operands_at next) i.args) ys →
        Laid (Before (i ∷ next)) ys
    reload : {i : Instr} {next ys : List Instr} {n : ℕ} {rs : List Reg} (r : Reg) → Ending (i ∷ next) m.code → ForOperand i next n r →
        Laid (Reading i next (suc n) rs) ys → Laid (Reading i next n (r ∷ rs)) (copy_instruction copy.Reload r (fresh_stand_in n r) ∷ ys)
    passes_operand : {i : Instr} {next ys : List Instr} {n : ℕ} {rs : List Reg} (r : Reg) → Laid (Reading i next n rs) ys →
        Laid (Reading i next n (r ∷ rs)) ys
    main : {i : Instr} {next ys : List Instr} → Ending (i ∷ next) m.code → Laid (Storing i next (results_at i next) i.results) ys →
        Laid (Reading i next (results_at i next) []) (main_of i next ∷ ys)
    spill : {i : Instr} {next ys : List Instr} {n : ℕ} {rs : List Reg} (r : Reg) → Ending (i ∷ next) m.code → ForResult i next n r →
        Laid (Storing i next (suc n) rs) ys → Laid (Storing i next n (r ∷ rs)) (copy_instruction copy.Spill (fresh_stand_in n r) r ∷ ys)
    passes_result : {i : Instr} {next ys : List Instr} {n : ℕ} {rs : List Reg} (r : Reg) → is_renewed (writes_registers i.op) r ≡ false →
        Laid (Storing i next n rs) ys → Laid (Storing i next n (r ∷ rs)) ys
    ends : {i : Instr} {next ys : List Instr} {n : ℕ} → Laid (Before next) ys → Laid (Storing i next n []) ys

  -- these are the last operands, or results, with their numbers
  abbrev pub LastOperands : Instr → List Instr → ℕ → List Reg → Type 0
  LastOperands i next n rs =
      ((x : ℕ) (k : Reg) → IsFor (reads_registers i.op) n rs x k → ForOperand i next x k)
      × (number_past (reads_registers i.op) n rs ≡ results_at i next)

  abbrev pub LastResults : Instr → List Instr → ℕ → List Reg → Type 0
  LastResults i next n rs = (x : ℕ) (k : Reg) → IsFor (writes_registers i.op) n rs x k → ForResult i next x k

  last_after : (b : Bool) (n k : ℕ) (r : Reg) (rs : List Reg) → next_reload_number b n r ≡ k → (x : ℕ) (w : Reg) → IsFor b k rs x w →
      IsFor b n (r ∷ rs) x w
  last_after b n k r rs e x w h = for_other (subst (λ k. IsFor b k rs x w) (sym e) h)

  pub fewer_operands : (i : Instr) (next : List Instr) (n k : ℕ) (r : Reg) (rs : List Reg) → LastOperands i next n (r ∷ rs) →
      next_reload_number (reads_registers i.op) n r ≡ k → LastOperands i next k rs
  fewer_operands i next n k r rs h e =
      (λ x w g. h.0 x w (last_after (reads_registers i.op) n k r rs e x w g), ap (λ k. number_past (reads_registers i.op) k rs) (sym e) ∙ h.1)

  pub fewer_results : (i : Instr) (next : List Instr) (n k : ℕ) (r : Reg) (rs : List Reg) → LastResults i next n (r ∷ rs) →
      next_reload_number (writes_registers i.op) n r ≡ k → LastResults i next k rs
  fewer_results i next n k r rs h e = λ x w g. h x w (last_after (writes_registers i.op) n k r rs e x w g)

  pub laid_results : (i : Instr) (next : List Instr) (n : ℕ) (rs : List Reg) (ys : List Instr) → Ending (i ∷ next) m.code →
      LastResults i next n rs → Laid (Before next) ys → Laid (Storing i next n rs) (spills (writes_registers i.op) n rs ++ ys)
  laid_results i next n [] ys ending known h = ends h
  laid_results i next n (r ∷ rs) ys ending known h =
      by (is_renewed (writes_registers i.op) r) refl
      (λ k e. laid_results i next k rs ys ending (fewer_results i next n k r rs known e) h)
    where
      by : (t : Bool) → is_renewed (writes_registers i.op) r ≡ t →
          ((k : ℕ) → next_reload_number (writes_registers i.op) n r ≡ k → Laid (Storing i next k rs) (spills (writes_registers i.op) k rs ++ ys)) →
          Laid (Storing i next n (r ∷ rs))
          (cond t (copy_instruction copy.Spill (fresh_stand_in n r) r ∷ spills (writes_registers i.op) (suc n) rs) (spills (writes_registers i.op) n rs) ++ ys)
      by true t more = spill r ending (known n r (for_this t)) (more (suc n) (after_true (writes_registers i.op) n r t))
      by false t more = passes_result r t (more n (after_false (writes_registers i.op) n r t))

  pub laid_operands : (i : Instr) (next : List Instr) (n : ℕ) (rs : List Reg) (ys : List Instr) → Ending (i ∷ next) m.code →
      LastOperands i next n rs → Laid (Reading i next (results_at i next) []) ys →
      Laid (Reading i next n rs) (reloads (reads_registers i.op) n rs ++ ys)
  laid_operands i next n [] ys ending known h = subst (λ n. Laid (Reading i next n []) ys) (sym known.1) h
  laid_operands i next n (r ∷ rs) ys ending known h =
      by (is_renewed (reads_registers i.op) r) refl
      (λ k e. laid_operands i next k rs ys ending (fewer_operands i next n k r rs known e) h)
    where
      by : (t : Bool) → is_renewed (reads_registers i.op) r ≡ t →
          ((k : ℕ) → next_reload_number (reads_registers i.op) n r ≡ k → Laid (Reading i next k rs) (reloads (reads_registers i.op) k rs ++ ys)) →
          Laid (Reading i next n (r ∷ rs))
          (cond t (copy_instruction copy.Reload r (fresh_stand_in n r) ∷ reloads (reads_registers i.op) (suc n) rs) (reloads (reads_registers i.op) n rs) ++ ys)
      by true t more = reload r ending (known.0 n r (for_this t)) (more (suc n) (after_true (reads_registers i.op) n r t))
      by false t more = passes_operand r (more n (after_false (reads_registers i.op) n r t))

  pub all_operands : (i : Instr) (next : List Instr) → LastOperands i next (operands_at next) i.args
  all_operands i next = (λ x k h. h, refl)

  pub all_results : (i : Instr) (next : List Instr) → LastResults i next (results_at i next) i.results
  all_results i next = λ x k h. h

  pub laid_of : (rest : List Instr) → Ending rest m.code → Laid (Before rest) (expand f rest)
  laid_of [] ending = laid_end
  laid_of (i ∷ next) ending =
      begins ending
      (subst (Laid (Reading i next (operands_at next) i.args))
      (sym
      (append_assoc (reloads (reads_registers i.op) (operands_at next) i.args)
      (main_of i next ∷ spills (writes_registers i.op) (results_at i next) i.results) (expand f next)))
      (laid_operands i next (operands_at next) i.args
      (main_of i next ∷ (spills (writes_registers i.op) (results_at i next) i.results ++ expand f next)) ending (all_operands i next)
      (main ending
      (laid_results i next (results_at i next) i.results (expand f next) ending (all_results i next) (laid_of next (ending_next ending))))))

  -- ---- what it says at each stage

  pub data FreshOperand (i : Instr) (next : List Instr) (n x : ℕ) : Type 0 where
    is_operand : (w : Reg) → ForOperand i next x w → x < n → FreshOperand i next n x

  pub data FreshResult (i : Instr) (next : List Instr) (n x : ℕ) : Type 0 where
    is_result : (w : Reg) → ForResult i next x w → n ≤ x → FreshResult i next n x

  -- none of these is this register, and spilled
  abbrev pub NotSpilled : Instr → ℕ → List Reg → Type 0
  NotSpilled i x rs = (r : Reg) → Contains rs r → is_renewed (writes_registers i.op) r ≡ true → r.number ≡ x → ⊥

  abbrev pub Says : ℕ → Stage → Type 0
  Says x (Before rest) = Live m x rest
  Says x (Reading i next n rs) = Live m x (i ∷ next) ⊎ FreshOperand i next n x
  Says x (Storing i next n rs) = FreshResult i next n x ⊎ (Live m x next × NotSpilled i x rs)

  nothing_spilled : (i : Instr) (x : ℕ) → NotSpilled i x []
  nothing_spilled i x = λ r c. absurd (none_in r c)

  more_spilled : (i : Instr) (x : ℕ) (r : Reg) (rs : List Reg) → (is_renewed (writes_registers i.op) r ≡ true → r.number ≡ x → ⊥) →
      NotSpilled i x rs → NotSpilled i x (r ∷ rs)
  more_spilled i x r rs h hs =
      λ j c t e.
      ⊎_elim (λ g. h (subst (λ (r : Reg). is_renewed (writes_registers i.op) r ≡ true) (sym g) t) (ap (λ (r : Reg). r.number) g ∙ e))
      (λ d. hs j d t e) (in_cons r j rs c)

  narrowed : (x : ℕ) (i : Instr) (next : List Instr) → Live m x (i ∷ next) ⊎ FreshOperand i next (operands_at next) x → Live m x (i ∷ next)
  narrowed x i next (inl v) = v
  narrowed x i next (inr (is_operand w h lt)) =
      let le = for_from (reads_registers i.op) h in absurd (omega (arith, lt, le))

  -- ---- what an instruction writes

  pub killed_same : (i : Instr) (next : List Instr) → killed q (main_of i next) ≡ killed m i
  killed_same i next = same_killed m.colours (destroyed_by i.op) (writes_registers i.op) (results_at i next) i.results

  -- what it writes, and is spilled by none, its main writes
  pub unwritten : (x : ℕ) (i : Instr) (next : List Instr) → (Writes q (main_of i next) x → ⊥) → NotSpilled i x i.results → Writes m i x → ⊥
  unwritten x i next free none w =
      ⊎_elim
      (λ a.
      let r = number_among i.results a in
      ⊎_elim (λ t. none r.0 r.1 t r.2)
      (λ t.
      free
      (left_among (main_of i next).results (killed q (main_of i next))
      (subst (λ x. AmongRegisters x (main_of i next).results) r.2
      (among_of r.0 (main_of i next).results (own_stays (writes_registers i.op) (results_at i next) i.results r.0 r.1 t)))))
      (cases_Bool (is_renewed (writes_registers i.op) r.0)))
      (λ a. free (right_among (main_of i next).results (killed q (main_of i next)) (subst (AmongRegisters x) (sym (killed_same i next)) a)))
      (split_among x i.results (killed m i) w)

  pub writes_fresh : (x : ℕ) (i : Instr) (next : List Instr) (w : Reg) → ForResult i next x w → Writes q (main_of i next) x
  writes_fresh x i next w h =
      left_among (main_of i next).results (killed q (main_of i next))
      (among_of (fresh_stand_in x w) (main_of i next).results (for_stands (writes_registers i.op) h))

  -- ---- one step

  one_number : {x : ℕ} (r : Reg) → AmongRegisters x (r ∷ []) → r.number ≡ x
  one_number r (first e) = e
  one_number r (later a) = elim a [ ]

  passed_by : (x : ℕ) (i : Instr) (next : List Instr) (n : ℕ) (r : Reg) (rs : List Reg) → is_renewed (writes_registers i.op) r ≡ false →
      Says x (Storing i next n rs) → Says x (Storing i next n (r ∷ rs))
  passed_by x i next n r rs e (inl h) = inl h
  passed_by x i next n r rs e (inr h) =
      inr (h.0, more_spilled i x r rs (λ t g. both_ways (is_renewed (writes_registers i.op) r) e t) h.1)

  read_case : {x : ℕ} {j : Instr} {ys : List Instr} (z : Stage) → Laid z (j ∷ ys) → AmongRegisters x j.args → Says x z
  read_case {x} z (begins {i = i} {next = next} ending h) a = narrowed x i next (read_case (Reading i next (operands_at next) i.args) h a)
  read_case z (reload {i = i} r ending g h) a =
      inl
      (read
      (subst (λ n. AmongRegisters n i.args) (one_number r a) (among_of r i.args (for_in (reads_registers i.op) g))))
  read_case z (passes_operand {i = i} {next = next} {n = n} {rs = rs} r h) a = read_case (Reading i next n rs) h a
  read_case {x} z (main {i = i} {next = next} ending h) a = by (number_among (main_of i next).args a)
    where
      of : (k : Reg) → k.number ≡ x → WasIn (reads_registers i.op) (operands_at next) i.args k →
          Live m x (i ∷ next) ⊎ FreshOperand i next (results_at i next) x
      of k e (was_own c t) = inl (read (subst (λ n. AmongRegisters n i.args) e (among_of k i.args c)))
      of k e (was_fresh y w g same) =
          let number : y ≡ x = ap (λ (r : Reg). r.number) same ∙ e in
          inr
          (subst (FreshOperand i next (results_at i next)) number
          (is_operand w g (for_below (reads_registers i.op) g)))

      by : (k : Reg) × Contains (main_of i next).args k × (k.number ≡ x) → Live m x (i ∷ next) ⊎ FreshOperand i next (results_at i next) x
      by k = of k.0 k.2 (was_in (reads_registers i.op) (operands_at next) i.args k.0 k.1)
  read_case {x} z (spill {i = i} {next = next} {n = n} r ending g h) a =
      inl (subst (FreshResult i next n) (one_number (fresh_stand_in n r) a) (is_result r g (omega arith)))
  read_case {x} z (passes_result {i = i} {next = next} {n = n} {rs = rs} r e h) a =
      passed_by x i next n r rs e (read_case (Storing i next n rs) h a)
  read_case {x} z (ends {i = i} {next = next} h) a = inr (read_case (Before next) h a, nothing_spilled i x)

  -- where a copy goes on, and where an instruction does
  abbrev Onward : ℕ → List Instr → Target → Type 0
  Onward x ys t = (z : Stage) → Laid z (code_at q.code ys t) → Says x z

  at_label : (l : ℕ) → Laid (Before (after_label l m.code)) (after_label l q.code)
  at_label l =
      subst (Laid (Before (after_label l m.code))) (sym (label_expand f (keeps_marks s) l m.code))
      (laid_of (after_label l m.code) (ending_label l m.code))

  at_handler : (l : ℕ) → Laid (Before (from_handler l m.code)) (from_handler l q.code)
  at_handler l =
      subst (Laid (Before (from_handler l m.code))) (sym (handler_expand f (keeps_marks s) l m.code))
      (laid_of (from_handler l m.code) (ending_from_handler l m.code))

  on_case : {x : ℕ} {j : Instr} {ys : List Instr} (z : Stage) (t : Target) → Laid z (j ∷ ys) → (Writes q j x → ⊥) → OneOf t (targets j.op) →
      Onward x ys t → Says x z
  on_case {x} z t (begins {i = i} {next = next} ending h) w o ih =
      narrowed x i next (on_case (Reading i next (operands_at next) i.args) t h w o ih)
  on_case {x} {ys = ys} z t (reload {i = i} {next = next} {n = n} {rs = rs} r ending g h) w o ih =
      by (subst (Onward x ys) (only_on t o) ih (Reading i next (suc n) rs) h)
    where
      by : Live m x (i ∷ next) ⊎ FreshOperand i next (suc n) x → Live m x (i ∷ next) ⊎ FreshOperand i next n x
      by (inl v) = inl v
      by (inr (is_operand k a lt)) =
          ⊎_elim
          (λ e.
          absurd
          (w (left_among (fresh_stand_in n r ∷ []) (killed q (copy_instruction copy.Reload r (fresh_stand_in n r))) (first (eqb-true n x e)))))
          (λ e.
          let ne : (n ≡ x → ⊥) = λ d. both_ways (nat_eq n x) e (eq-eqb n x d) in
          inr (is_operand k a (less n x lt ne)))
          (cases_Bool (nat_eq n x))
        where
          less : (n x : ℕ) → x < suc n → (n ≡ x → ⊥) → x < n
          less n x lt ne = omega (arith, lt, ne)
  on_case z t (passes_operand {i = i} {next = next} {n = n} {rs = rs} r h) w o ih = on_case (Reading i next n rs) t h w o ih
  on_case {x} {ys = ys} z t (main {i = i} {next = next} ending h) w o ih = by t o ih
    where
      by : (t : Target) → OneOf t (targets i.op) → Onward x ys t → Live m x (i ∷ next) ⊎ FreshOperand i next (results_at i next) x
      by On o ih = of (ih (Storing i next (results_at i next) i.results) h)
        where
          of : FreshResult i next (results_at i next) x ⊎ (Live m x next × NotSpilled i x i.results) →
              Live m x (i ∷ next) ⊎ FreshOperand i next (results_at i next) x
          of (inl (is_result k g le)) = absurd (w (writes_fresh x i next k g))
          of (inr g) = inl (on (unwritten x i next w g.1) (goes On o) g.0)
      by (At l) o ih = inl (on (label_silent m (form_of formed ending) l o x) (goes (At l) o) (ih (Before (after_label l m.code)) (at_label l)))
  on_case {x} {ys = ys} z t (spill {i = i} {next = next} {n = n} {rs = rs} r ending g h) w o ih =
      by (subst (Onward x ys) (only_on t o) ih (Storing i next (suc n) rs) h)
    where
      by : FreshResult i next (suc n) x ⊎ (Live m x next × NotSpilled i x rs) →
          FreshResult i next n x ⊎ (Live m x next × NotSpilled i x (r ∷ rs))
      by (inl (is_result k a le)) = inl (is_result k a (omega (arith, le)))
      by (inr a) =
          inr (
            a.0,
            more_spilled i x r rs (λ t e. w (left_among (r ∷ []) (killed q (copy_instruction copy.Spill (fresh_stand_in n r) r)) (first e))) a.1,
          )
  on_case {x} z t (passes_result {i = i} {next = next} {n = n} {rs = rs} r e h) w o ih =
      passed_by x i next n r rs e (on_case (Storing i next n rs) t h w o ih)
  on_case {x} z t (ends {i = i} {next = next} h) w o ih = inr (on_case (Before next) t h w o ih, nothing_spilled i x)

  -- tries are known by marks alone
  abbrev pub tries_of : Stage → List ℕ
  tries_of (Before rest) = tries_at rest
  tries_of (Reading i next n rs) = tries_at (i ∷ next)
  tries_of (Storing i next n rs) = tries_at next

  pub laid_tries : {z : Stage} {ys : List Instr} → Laid z ys → tries_at ys ≡ tries_of z
  laid_tries laid_end = refl
  laid_tries (begins ending h) = laid_tries h
  laid_tries (reload r ending g h) = laid_tries h
  laid_tries (passes_operand r h) = laid_tries h
  laid_tries (main {i = i} ending h) = ap (tries_past i.op) (laid_tries h)
  laid_tries (spill r ending g h) = laid_tries h
  laid_tries (passes_result r e h) = laid_tries h
  laid_tries (ends h) = laid_tries h

  aside_case : {x : ℕ} {j : Instr} {ys : List Instr} (z : Stage) (l : ℕ) (tries : List ℕ) → Laid z (j ∷ ys) → may_raise j.op ≡ true →
      tries_at (j ∷ ys) ≡ l ∷ tries → ((z : Stage) → Laid z (from_handler l q.code) → Says x z) → Says x z
  aside_case {x} z l tries (begins {i = i} {next = next} ending h) b e ih =
      narrowed x i next (aside_case (Reading i next (operands_at next) i.args) l tries h b e ih)
  aside_case z l tries (reload r ending g h) b e ih = absurd (both_ways false refl b)
  aside_case z l tries (passes_operand {i = i} {next = next} {n = n} {rs = rs} r h) b e ih = aside_case (Reading i next n rs) l tries h b e ih
  aside_case z l tries (main {i = i} {next = next} ending h) b e ih =
      inl (aside (raises b (sym (laid_tries (main ending h)) ∙ e)) (ih (Before (from_handler l m.code)) (at_handler l)))
  aside_case z l tries (spill r ending g h) b e ih = absurd (both_ways false refl b)
  aside_case {x} z l tries (passes_result {i = i} {next = next} {n = n} {rs = rs} r t h) b e ih =
      passed_by x i next n r rs t (aside_case (Storing i next n rs) l tries h b e ih)
  aside_case {x} z l tries (ends {i = i} {next = next} h) b e ih =
      inr (aside_case (Before next) l tries h b e ih, nothing_spilled i x)

  -- what is live there was live
  pub live_back : {x : ℕ} {ys : List Instr} → Live q x ys → (z : Stage) → Laid z ys → Says x z
  live_back (read a) z h = read_case z h a
  live_back (on w (goes t o) v) z h = on_case z t h w o (λ z k. live_back v z k)
  live_back (aside (raises {l = l} {tries = tries} b r) v) z h = aside_case z l tries h b r (λ z k. live_back v z k)

  pub live_before : {x : ℕ} {rest : List Instr} → Ending rest m.code → Live q x (expand f rest) → Live m x rest
  live_before {rest = rest} e v = live_back v (Before rest) (laid_of rest e)

  -- what is live across the instruction itself
  pub across_back : {x : ℕ} {ys : List Instr} (i : Instr) (next : List Instr) → Ending (i ∷ next) m.code →
      Laid (Storing i next (results_at i next) i.results) ys → LiveAcross q x (main_of i next) ys → LiveAcross m x i next
  across_back {x} {ys} i next ending h (across_step w (goes t o) v) = by t o (λ z k. live_back v z k)
    where
      by : (t : Target) → OneOf t (targets i.op) → Onward x ys t → LiveAcross m x i next
      by On o ih = of (ih (Storing i next (results_at i next) i.results) h)
        where
          of : FreshResult i next (results_at i next) x ⊎ (Live m x next × NotSpilled i x i.results) → LiveAcross m x i next
          of (inl (is_result k g le)) = absurd (w (writes_fresh x i next k g))
          of (inr g) = across_step (unwritten x i next w g.1) (goes On o) g.0
      by (At l) o ih =
          across_step (label_silent m (form_of formed ending) l o x) (goes (At l) o) (ih (Before (after_label l m.code)) (at_label l))
  across_back {x} {ys} i next ending h (across_raise (raises {l = l} {tries = tries} b r) v) =
      across_raise (raises b (sym (laid_tries (main ending h)) ∙ r)) (live_back v (Before (from_handler l m.code)) (at_handler l))
