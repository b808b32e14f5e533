-- What is live in a function with its spills and reloads was live before: a register itself, or one that is stored in its slot
-- by each write that comes there.
use Rattle.std.proofs.Common.{◌≡◌, ℕ, Bool, true, false, cond, ◌⊎◌, inl, inr, ⊎_elim, List, [], ◌∷◌, ◌++◌, length, refl, sym, ap, ◌∙◌, subst, append_assoc}
use Rattle.std.specs.List.{Contains}
use Rattle.mach_ir.specs.Acts.{Target, On, At}
use Rattle.mach_ir.specs.Formed.{WellFormed}
use Rattle.mach_ir.specs.Meaning.{after_label, from_handler, code_at, tries_at, tries_past, killed}
use Rattle.mach_ir.specs.Placed.{WellPlaced}
use Rattle.mach_ir.specs.Walks.{AmongRegisters, first, later, OneOf, targets, may_raise, goes, raises, Writes, Live, read, on, aside, LiveAcross, across_step, across_raise, is_colour}
use Rattle.mach_ir.specs.declared.reg.Reg.{Reg}
use Rattle.mach_ir.specs.declared.mach.Instr.{Instr}
use Rattle.mach_ir.specs.declared.mach.Mach.{Mach}
use Rattle.mach_laws.specs.Expand.{expand, Ending}
use Rattle.mach_laws.proofs.Places.{label_expand, handler_expand, ending_next, ending_label, ending_from_handler, stands_of, form_of}
use Rattle.mach_laws.proofs.Among.{left_among, split_among, number_among, among_of}
use Rattle.mach_laws.proofs.Raised.{label_silent}
use Rattle.mach_laws.proofs.Walking.{only_on}
use Rattle.liveness.proofs.Bounds.{killed_is_colour}
use Rattle.split_rules.proofs.Whole.{fixed_colours}
use Rattle.split_rules.specs.Writes.{WriteReaches, from_write, past, past_raise}
use Rattle.bs_words.proofs.Lists.{none_in, first_in, later_in, in_cons}
use Rattle.spill_rules.specs.Spilled.{SpillPlan, in_slot, reload, spill, reloads_of, spills_of, operand_registers, written_results, spilled_instr, spilled, IsSpillPlan}
use Rattle.spill_rules.proofs.Text.{keeps_marks, all_results, operand_in, written_in}
use Rattle.bs_words.proofs.Truths.{not_both}

module _ (m : Mach) (plan : SpillPlan) (formed : WellFormed m) (placed : WellPlaced m) (is : IsSpillPlan m plan) where
  abbrev q : Mach
  q = spilled plan m

  abbrev f : ℕ → Instr → List Instr
  f = spilled_instr plan

  -- each write of the register that comes here was stored
  abbrev pub IsStored : ℕ → List Instr → Type 0
  IsStored n rest = (from : List Instr) → WriteReaches m n from rest → plan.spills (length from) n ≡ true

  -- what is live in the second was live in the first
  pub data WasLive (x : ℕ) (rest : List Instr) : Type 0 where
    itself : Live m x rest → WasLive x rest
    stored : (n : ℕ) → plan.slot n ≡ x → Live m n rest → IsStored n rest → WasLive x rest

  -- ---- the second's code, part by part

  pub data Stage : Type 0 where
    Before : List Instr → Stage
    -- before this instruction, with these operands to be gone over
    Reading : Instr → List Instr → List Reg → Stage
    -- after it, with these results to be gone over
    Storing : Instr → List Instr → List Reg → Stage

  pub data Laid : Stage → List Instr → Type 0 where
    laid_end : Laid (Before []) []
    begins : {i : Instr} {next ys : List Instr} → Ending (i ∷ next) m.code → Laid (Reading i next (operand_registers i)) ys →
        Laid (Before (i ∷ next)) ys
    reloads : {i : Instr} {next ys : List Instr} {rs : List Reg} (r : Reg) → Ending (i ∷ next) m.code → AmongRegisters r.number i.args →
        plan.reloads (length next) r.number ≡ true → Laid (Reading i next rs) ys → Laid (Reading i next (r ∷ rs)) (reload plan r ∷ ys)
    passes_operand : {i : Instr} {next ys : List Instr} {rs : List Reg} (r : Reg) → Laid (Reading i next rs) ys →
        Laid (Reading i next (r ∷ rs)) ys
    main : {i : Instr} {next ys : List Instr} → Ending (i ∷ next) m.code → Laid (Storing i next (written_results i)) ys →
        Laid (Reading i next []) (i ∷ ys)
    spills : {i : Instr} {next ys : List Instr} {rs : List Reg} (r : Reg) → Contains i.results r →
        plan.spills (length next) r.number ≡ true → Laid (Storing i next rs) ys → Laid (Storing i next (r ∷ rs)) (spill plan r ∷ ys)
    passes_result : {i : Instr} {next ys : List Instr} {rs : List Reg} (r : Reg) → plan.spills (length next) r.number ≡ false →
        Laid (Storing i next rs) ys → Laid (Storing i next (r ∷ rs)) ys
    ends : {i : Instr} {next ys : List Instr} → Laid (Before next) ys → Laid (Storing i next []) ys

  pub laid_results : (i : Instr) (next : List Instr) (rs : List Reg) (ys : List Instr) → ((r : Reg) → Contains rs r → Contains i.results r) →
      Laid (Before next) ys → Laid (Storing i next rs) (spills_of plan (length next) rs ++ ys)
  laid_results i next [] ys known h = ends h
  laid_results i next (r ∷ rs) ys known h =
      by (plan.spills (length next) r.number) refl (laid_results i next rs ys (λ k c. known k (later_in r k rs c)) h)
    where
      by : (b : Bool) → plan.spills (length next) r.number ≡ b → Laid (Storing i next rs) (spills_of plan (length next) rs ++ ys) →
          Laid (Storing i next (r ∷ rs)) (cond b (spill plan r ∷ spills_of plan (length next) rs) (spills_of plan (length next) rs) ++ ys)
      by true e h = spills r (known r (first_in r rs)) e h
      by false e h = passes_result r e h

  pub laid_operands : (i : Instr) (next : List Instr) (rs : List Reg) (ys : List Instr) → Ending (i ∷ next) m.code →
      ((r : Reg) → Contains rs r → Contains i.args r) → Laid (Reading i next []) ys →
      Laid (Reading i next rs) (reloads_of plan (length next) rs ++ ys)
  laid_operands i next [] ys ending known h = h
  laid_operands i next (r ∷ rs) ys ending known h =
      by (plan.reloads (length next) r.number) refl (laid_operands i next rs ys ending (λ k c. known k (later_in r k rs c)) h)
    where
      by : (b : Bool) → plan.reloads (length next) r.number ≡ b → Laid (Reading i next rs) (reloads_of plan (length next) rs ++ ys) →
          Laid (Reading i next (r ∷ rs)) (cond b (reload plan r ∷ reloads_of plan (length next) rs) (reloads_of plan (length next) rs) ++ ys)
      by true e h = reloads r ending (among_of r i.args (known r (first_in r rs))) e h
      by false e h = passes_operand r h

  pub laid_of : (rest : List Instr) → Ending rest m.code → Laid (Before rest) (expand f rest)
  laid_of [] ending = laid_end
  laid_of (i ∷ next) ending =
      begins ending
      (subst (Laid (Reading i next (operand_registers i)))
      (sym (append_assoc (reloads_of plan (length next) (operand_registers i)) (i ∷ spills_of plan (length next) (written_results i)) (expand f next)))
      (laid_operands i next (operand_registers i) (i ∷ (spills_of plan (length next) (written_results i) ++ expand f next)) ending
      (λ r c. operand_in i r c)
      (main ending
      (laid_results i next (written_results i) (expand f next) (λ r c. written_in i r c) (laid_of next (ending_next ending))))))

  -- ---- what it says at each stage

  -- none of these is stored in this slot
  abbrev pub NotThere : ℕ → ℕ → List Reg → Type 0
  NotThere x k rs = (r : Reg) → Contains rs r → plan.spills k r.number ≡ true → plan.slot r.number ≡ x → ⊥

  -- a result that is stored
  pub data IsResult (x : ℕ) (i : Instr) (k : ℕ) : Type 0 where
    is_result : (r : Reg) → Contains i.results r → plan.spills k r.number ≡ true → r.number ≡ x → IsResult x i k

  abbrev pub Says : ℕ → Stage → Type 0
  Says x (Before rest) = WasLive x rest
  Says x (Reading i next rs) = WasLive x (i ∷ next)
  Says x (Storing i next rs) = IsResult x i (length next) ⊎ (WasLive x next × NotThere x (length next) rs)

  nothing_there : (x k : ℕ) → NotThere x k []
  nothing_there x k = λ r c. absurd (none_in r c)

  more_there : (x k : ℕ) (r : Reg) (rs : List Reg) → (plan.spills k r.number ≡ true → plan.slot r.number ≡ x → ⊥) → NotThere x k rs →
      NotThere x k (r ∷ rs)
  more_there x k r rs h hs =
      λ j c s e. ⊎_elim (λ t. h (subst (λ (r : Reg). plan.spills k r.number ≡ true) (sym t) s) (ap (λ (r : Reg). plan.slot r.number) t ∙ e))
      (λ d. hs j d s e) (in_cons r j rs c)

  -- ---- what an instruction writes

  -- a stored register is not destroyed, and if it is written it is stored again
  pub stored_unwritten : (x n : ℕ) (i : Instr) (next to : List Instr) (t : Target) → Ending (i ∷ next) m.code → OneOf t (targets i.op) →
      plan.slot n ≡ x → IsStored n (code_at m.code next t) → NotThere x (length next) (written_results i) → Writes m i n → ⊥
  stored_unwritten x n i next to t ending o e s not_there w =
      let spilt = s next (from_write (stands_of ending) w (goes t o)) in
      ⊎_elim
      (λ a.
      let r = number_among i.results a in
      not_there r.0 (subst (λ rs. Contains rs r.0) (sym (all_results (form_of formed ending))) r.1)
      (subst (λ n. plan.spills (length next) n ≡ true) (sym r.2) spilt) (ap plan.slot r.2 ∙ e))
      (λ a.
      let r = number_among (killed m i) a in
      let c = killed_is_colour m i r.0 r.1 in
      fixed_colours m placed r.0 c
      (is.spills_open r.0 (is_colour c) (length next) (subst (λ n. plan.spills (length next) n ≡ true) (sym r.2) spilt)))
      (split_among n i.results (killed m i) w)

  -- ---- one step

  passed_by : (x : ℕ) (i : Instr) (next : List Instr) (r : Reg) (rs : List Reg) → plan.spills (length next) r.number ≡ false →
      Says x (Storing i next rs) → Says x (Storing i next (r ∷ rs))
  passed_by x i next r rs e (inl h) = inl h
  passed_by x i next r rs e (inr h) =
      inr (h.0, more_there x (length next) r rs (λ s t. not_both (plan.spills (length next) r.number) s e) h.1)

  read_case : {x : ℕ} {j : Instr} {ys : List Instr} (s : Stage) → Laid s (j ∷ ys) → AmongRegisters x j.args → Says x s
  read_case s (begins {i = i} {next = next} ending h) a = read_case (Reading i next (operand_registers i)) h a
  read_case s (reloads {i = i} {next = next} r ending among e h) a =
      stored r.number (of_one a) (read among) (λ from c. is.stored i next from r.number (stands_of ending) among e c)
    where
      of_one : {x : ℕ} → AmongRegisters x (in_slot plan r ∷ []) → plan.slot r.number ≡ x
      of_one (first e) = e
      of_one (later a) = elim a [ ]
  read_case s (passes_operand {i = i} {next = next} {rs = rs} r h) a = read_case (Reading i next rs) h a
  read_case s (main ending h) a = itself (read a)
  read_case s (spills r c e h) a = inl (is_result r c e (of_one a))
    where
      of_one : {x : ℕ} → AmongRegisters x (r ∷ []) → r.number ≡ x
      of_one (first e) = e
      of_one (later a) = elim a [ ]
  read_case {x} s (passes_result {i = i} {next = next} {rs = rs} r e h) a = passed_by x i next r rs e (read_case (Storing i next rs) h a)
  read_case {x} s (ends {i = i} {next = next} h) a = inr (read_case (Before next) h a, nothing_there x (length next))

  -- where a copy goes on, and where an instruction does
  abbrev Onward : ℕ → List Instr → Target → Type 0
  Onward x ys t = (s : Stage) → Laid s (code_at q.code ys t) → Says x s

  on_case : {x : ℕ} {j : Instr} {ys : List Instr} (s : Stage) (t : Target) → Laid s (j ∷ ys) → (Writes q j x → ⊥) → OneOf t (targets j.op) →
      Onward x ys t → Says x s
  on_case s t (begins {i = i} {next = next} ending h) w o ih = on_case (Reading i next (operand_registers i)) t h w o ih
  on_case {x} {ys = ys} s t (reloads {i = i} {next = next} {rs = rs} r ending among e h) w o ih =
      subst (Onward x ys) (only_on t o) ih (Reading i next rs) h
  on_case s t (passes_operand {i = i} {next = next} {rs = rs} r h) w o ih = on_case (Reading i next rs) t h w o ih
  on_case {x} {ys = ys} s t (main {i = i} {next = next} ending h) w o ih = by t o ih
    where
      not_result : IsResult x i (length next) → ⊥
      not_result (is_result r c s e) =
          w (left_among i.results (killed q i) (subst (λ n. AmongRegisters n i.results) e (among_of r i.results c)))

      went : (t : Target) → OneOf t (targets i.op) → WasLive x (code_at m.code next t) → NotThere x (length next) (written_results i) →
          WasLive x (i ∷ next)
      went t o (itself v) n = itself (on w (goes t o) v)
      went t o (stored k e v k_stored) n =
          let free : Writes m i k → ⊥ = stored_unwritten x k i next next t ending o e k_stored n in
          stored k e (on free (goes t o) v) (λ from c. k_stored from (past c free (goes t o)))

      silent_results : (l : ℕ) → OneOf (At l) (targets i.op) → NotThere x (length next) (written_results i)
      silent_results l o = λ r c.
          absurd
          (label_silent m (form_of formed ending) l o r.number
          (left_among i.results (killed m i) (among_of r i.results (subst (λ rs. Contains rs r) (all_results (form_of formed ending)) c))))

      by : (t : Target) → OneOf t (targets i.op) → Onward x ys t → WasLive x (i ∷ next)
      by On o ih =
          ⊎_elim (λ r. absurd (not_result r)) (λ g. went On o g.0 g.1) (ih (Storing i next (written_results i)) h)
      by (At l) o ih =
          went (At l) o
          (ih (Before (after_label l m.code))
          (subst (Laid (Before (after_label l m.code))) (sym (label_expand f (keeps_marks plan) l m.code))
          (laid_of (after_label l m.code) (ending_label l m.code))))
          (silent_results l o)
  on_case {x} {ys = ys} s t (spills {i = i} {next = next} {rs = rs} r c e h) w o ih =
      by (subst (Onward x ys) (only_on t o) ih (Storing i next rs) h)
    where
      by : Says x (Storing i next rs) → Says x (Storing i next (r ∷ rs))
      by (inl g) = inl g
      by (inr g) =
          inr (
            g.0,
            more_there x (length next) r rs
                (λ d z. w (left_among (in_slot plan r ∷ []) (killed q (spill plan r)) (first z))) g.1,
          )
  on_case {x} s t (passes_result {i = i} {next = next} {rs = rs} r e h) w o ih =
      passed_by x i next r rs e (on_case (Storing i next rs) t h w o ih)
  on_case {x} s t (ends {i = i} {next = next} h) w o ih = inr (on_case (Before next) t h w o ih, nothing_there x (length next))

  -- what was live across an instruction
  pub data WasAcross (x : ℕ) (i : Instr) (next : List Instr) : Type 0 where
    itself_across : LiveAcross m x i next → WasAcross x i next
    stored_across : (n : ℕ) → plan.slot n ≡ x → LiveAcross m n i next → IsStored n (i ∷ next) → WasAcross x i next

  -- tries are known by marks alone
  abbrev pub tries_of : Stage → List ℕ
  tries_of (Before rest) = tries_at rest
  tries_of (Reading i next rs) = tries_at (i ∷ next)
  tries_of (Storing i next rs) = tries_at next

  pub laid_tries : {s : Stage} {ys : List Instr} → Laid s ys → tries_at ys ≡ tries_of s
  laid_tries laid_end = refl
  laid_tries (begins ending h) = laid_tries h
  laid_tries (reloads r ending a e h) = laid_tries h
  laid_tries (passes_operand r h) = laid_tries h
  laid_tries (main {i = i} ending h) = ap (tries_past i.op) (laid_tries h)
  laid_tries (spills r c e h) = laid_tries h
  laid_tries (passes_result r e h) = laid_tries h
  laid_tries (ends h) = laid_tries h

  aside_case : {x : ℕ} {j : Instr} {ys : List Instr} (s : Stage) (l : ℕ) (tries : List ℕ) → Laid s (j ∷ ys) → may_raise j.op ≡ true →
      tries_at (j ∷ ys) ≡ l ∷ tries → ((s : Stage) → Laid s (from_handler l q.code) → Says x s) → Says x s
  aside_case s l tries (begins {i = i} {next = next} ending h) b r ih = aside_case (Reading i next (operand_registers i)) l tries h b r ih
  aside_case s l tries (reloads g ending a e h) b r ih = absurd (not_both false b refl)
  aside_case s l tries (passes_operand {i = i} {next = next} {rs = rs} g h) b r ih = aside_case (Reading i next rs) l tries h b r ih
  aside_case {x} s l tries (main {i = i} {next = next} ending h) b r ih =
      by
      (ih (Before (from_handler l m.code))
      (subst (Laid (Before (from_handler l m.code))) (sym (handler_expand f (keeps_marks plan) l m.code))
      (laid_of (from_handler l m.code) (ending_from_handler l m.code))))
    where
      round : tries_at (i ∷ next) ≡ l ∷ tries
      round = sym (laid_tries (main ending h)) ∙ r

      by : WasLive x (from_handler l m.code) → WasLive x (i ∷ next)
      by (itself v) = itself (aside (raises b round) v)
      by (stored n e v k) = stored n e (aside (raises b round) v) (λ from c. k from (past_raise c (raises b round)))
  aside_case s l tries (spills g c e h) b r ih = absurd (not_both false b refl)
  aside_case {x} s l tries (passes_result {i = i} {next = next} {rs = rs} g e h) b r ih =
      passed_by x i next g rs e (aside_case (Storing i next rs) l tries h b r ih)
  aside_case {x} s l tries (ends {i = i} {next = next} h) b r ih =
      inr (aside_case (Before next) l tries h b r ih, nothing_there x (length next))

  -- what is live there was live
  pub live_back : {x : ℕ} {ys : List Instr} → Live q x ys → (s : Stage) → Laid s ys → Says x s
  live_back (read a) s h = read_case s h a
  live_back (on w (goes t o) v) s h = on_case s t h w o (λ z k. live_back v z k)
  live_back (aside (raises {l = l} {tries = tries} b r) v) s h = aside_case s l tries h b r (λ z k. live_back v z k)

  pub live_before : {x : ℕ} {rest : List Instr} → Ending rest m.code → Live q x (expand f rest) → WasLive x rest
  live_before {rest = rest} e v = live_back v (Before rest) (laid_of rest e)

  -- what is live across the instruction itself
  pub across_back : {x : ℕ} {ys : List Instr} (i : Instr) (next : List Instr) → Ending (i ∷ next) m.code →
      Laid (Storing i next (written_results i)) ys → LiveAcross q x i ys → WasAcross x i next
  across_back {x} {ys} i next ending h (across_step w (goes t o) v) = by t o (λ z k. live_back v z k)
    where
      not_result : IsResult x i (length next) → ⊥
      not_result (is_result r c s e) =
          w (left_among i.results (killed q i) (subst (λ n. AmongRegisters n i.results) e (among_of r i.results c)))

      went : (t : Target) → OneOf t (targets i.op) → WasLive x (code_at m.code next t) → NotThere x (length next) (written_results i) →
          WasAcross x i next
      went t o (itself v) n = itself_across (across_step w (goes t o) v)
      went t o (stored k e v k_stored) n =
          let free : Writes m i k → ⊥ = stored_unwritten x k i next next t ending o e k_stored n in
          stored_across k e (across_step free (goes t o) v) (λ from c. k_stored from (past c free (goes t o)))

      silent_results : (l : ℕ) → OneOf (At l) (targets i.op) → NotThere x (length next) (written_results i)
      silent_results l o = λ r c.
          absurd
          (label_silent m (form_of formed ending) l o r.number
          (left_among i.results (killed m i) (among_of r i.results (subst (λ rs. Contains rs r) (all_results (form_of formed ending)) c))))

      by : (t : Target) → OneOf t (targets i.op) → Onward x ys t → WasAcross x i next
      by On o ih = ⊎_elim (λ r. absurd (not_result r)) (λ g. went On o g.0 g.1) (ih (Storing i next (written_results i)) h)
      by (At l) o ih =
          went (At l) o
          (ih (Before (after_label l m.code))
          (subst (Laid (Before (after_label l m.code))) (sym (label_expand f (keeps_marks plan) l m.code))
          (laid_of (after_label l m.code) (ending_label l m.code))))
          (silent_results l o)
  across_back {x} {ys} i next ending h (across_raise (raises {l = l} {tries = tries} b r) v) =
      by
      (live_back v (Before (from_handler l m.code))
      (subst (Laid (Before (from_handler l m.code))) (sym (handler_expand f (keeps_marks plan) l m.code))
      (laid_of (from_handler l m.code) (ending_from_handler l m.code))))
    where
      round : tries_at (i ∷ next) ≡ l ∷ tries
      round = sym (laid_tries (main ending h)) ∙ r

      by : WasLive x (from_handler l m.code) → WasAcross x i next
      by (itself v) = itself_across (across_raise (raises b round) v)
      by (stored n e v k) = stored_across n e (across_raise (raises b round) v) (λ from c. k from (past_raise c (raises b round)))
