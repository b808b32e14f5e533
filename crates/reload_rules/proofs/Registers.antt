-- The registers of a function with its reloads and spills: those that it had, and the fresh ones, each with a number of its own.
use Rattle.std.proofs.Common.{◌≡◌, ℕ, suc, ◌<◌, ◌≤◌, Bool, true, false, cond, ⊎_elim, List, [], ◌∷◌, length, refl, sym, ap, ◌∙◌, subst, arith}
use Rattle.std.specs.List.{Contains}
use Rattle.mach_ir.specs.Formed.{WellFormed}
use Rattle.mach_ir.specs.Placed.{WellPlaced}
use Rattle.mach_ir.specs.Walks.{InCode, in_args, in_results, further, IsRegister, is_param, is_colour, is_in_code, StandsAsInstr, here, below}
use Rattle.mach_ir.specs.declared.op.CopyKind.TheVariants as copy
use Rattle.mach_ir.specs.declared.reg.Reg.{Reg}
use Rattle.mach_ir.specs.declared.mach.Instr.{Instr}
use Rattle.mach_ir.specs.declared.mach.Mach.{Mach}
use Rattle.mach_laws.specs.Expand.{expand}
use Rattle.mach_laws.proofs.Places.{args_in, results_in}
use Rattle.spill_rules.specs.Spilled.{copy_instruction}
use Rattle.spill_rules.proofs.Registers.{in_append}
use Rattle.bs_words.proofs.Lists.{none_in, first_in, later_in, in_cons}
use Rattle.reload_rules.specs.Reloaded.{reads_registers, writes_registers, is_in_slot, is_renewed, fresh_stand_in, next_reload_number, number_past, reloads, spills, past_instr}
use Rattle.reload_rules.proofs.Killed.{renewed_slot}
use Rattle.reload_rules.proofs.Live.{IsNumbering, reloaded_by, results_at, main_of, ForOperand, ForResult}
use Rattle.reload_rules.proofs.Numbers.{IsFor, for_this, for_other, WasIn, was_own, was_fresh, after_true, after_false, past_rises, for_from, for_below, for_in, for_slot, for_same, was_in}
use Rattle.reload_rules.proofs.Text.{laid_instr}

-- a register of copies is one of these registers, or a fresh one
data CopiedIn (b : Bool) (n : ℕ) (rs : List Reg) (k : Reg) : Type 0 where
  copied_own : Contains rs k → CopiedIn b n rs k
  copied_fresh : (x : ℕ) (w : Reg) → IsFor b n rs x w → fresh_stand_in x w ≡ k → CopiedIn b n rs k

one_in : (x r : Reg) → Contains (x ∷ []) r → x ≡ r
one_in x r c = ⊎_elim (λ e. e) (λ d. absurd (none_in r d)) (in_cons x r [] c)

copied_later : (b : Bool) (n k : ℕ) (r : Reg) (rs : List Reg) (w : Reg) → next_reload_number b n r ≡ k → CopiedIn b k rs w →
    CopiedIn b n (r ∷ rs) w
copied_later b n k r rs w e (copied_own c) = copied_own (later_in r w rs c)
copied_later b n k r rs w e (copied_fresh x v g h) = copied_fresh x v (for_other (subst (λ k. IsFor b k rs x v) (sym e) g)) h

module _ (b : Bool) where
  in_reloads : (n : ℕ) (rs : List Reg) (w : Reg) → InCode w (reloads b n rs) → CopiedIn b n rs w
  in_reloads n [] w c = elim c [ ]
  in_reloads n (r ∷ rs) w c =
      by (is_renewed b r) refl (λ k e h. copied_later b n k r rs w e (in_reloads k rs w h)) c
    where
      of : is_renewed b r ≡ true → ((k : ℕ) → next_reload_number b n r ≡ k → InCode w (reloads b k rs) → CopiedIn b n (r ∷ rs) w) →
          InCode w (copy_instruction copy.Reload r (fresh_stand_in n r) ∷ reloads b (suc n) rs) → CopiedIn b n (r ∷ rs) w
      of t ih (in_args d) = subst (CopiedIn b n (r ∷ rs)) (one_in r w d) (copied_own (first_in r rs))
      of t ih (in_results d) = copied_fresh n r (for_this t) (one_in (fresh_stand_in n r) w d)
      of t ih (further d) = ih (suc n) (after_true b n r t) d

      by : (t : Bool) → is_renewed b r ≡ t →
          ((k : ℕ) → next_reload_number b n r ≡ k → InCode w (reloads b k rs) → CopiedIn b n (r ∷ rs) w) →
          InCode w (cond t (copy_instruction copy.Reload r (fresh_stand_in n r) ∷ reloads b (suc n) rs) (reloads b n rs)) → CopiedIn b n (r ∷ rs) w
      by true t ih c = of t ih c
      by false t ih c = ih n (after_false b n r t) c

  in_spills : (n : ℕ) (rs : List Reg) (w : Reg) → InCode w (spills b n rs) → CopiedIn b n rs w
  in_spills n [] w c = elim c [ ]
  in_spills n (r ∷ rs) w c =
      by (is_renewed b r) refl (λ k e h. copied_later b n k r rs w e (in_spills k rs w h)) c
    where
      of : is_renewed b r ≡ true → ((k : ℕ) → next_reload_number b n r ≡ k → InCode w (spills b k rs) → CopiedIn b n (r ∷ rs) w) →
          InCode w (copy_instruction copy.Spill (fresh_stand_in n r) r ∷ spills b (suc n) rs) → CopiedIn b n (r ∷ rs) w
      of t ih (in_args d) = copied_fresh n r (for_this t) (one_in (fresh_stand_in n r) w d)
      of t ih (in_results d) = subst (CopiedIn b n (r ∷ rs)) (one_in r w d) (copied_own (first_in r rs))
      of t ih (further d) = ih (suc n) (after_true b n r t) d

      by : (t : Bool) → is_renewed b r ≡ t →
          ((k : ℕ) → next_reload_number b n r ≡ k → InCode w (spills b k rs) → CopiedIn b n (r ∷ rs) w) →
          InCode w (cond t (copy_instruction copy.Spill (fresh_stand_in n r) r ∷ spills b (suc n) rs) (spills b n rs)) → CopiedIn b n (r ∷ rs) w
      by true t ih c = of t ih c
      by false t ih c = ih n (after_false b n r t) c

-- two instructions of a code are one, or one comes after the other
data Order (i j : Instr) (next rest : List Instr) : Type 0 where
  same_place : i ≡ j → next ≡ rest → Order i j next rest
  comes_after : StandsAsInstr j rest next → Order i j next rest
  comes_before : StandsAsInstr i next rest → Order i j next rest

order : {i j : Instr} {next rest code : List Instr} → StandsAsInstr i next code → StandsAsInstr j rest code → Order i j next rest
order {i} {j} {next} {rest} {code} s t = by code s t refl
  where
    tail_of : {x y : Instr} {xs ys : List Instr} → x ∷ xs ≡ y ∷ ys → xs ≡ ys
    tail_of e = cc

    head_of : {x y : Instr} {xs ys : List Instr} → x ∷ xs ≡ y ∷ ys → x ≡ y
    head_of e = cc

    by : (code : List Instr) → StandsAsInstr i next code → {other : List Instr} → StandsAsInstr j rest other → code ≡ other → Order i j next rest
    by [] s t e = elim s [ ]
    by (x ∷ xs) here here e = same_place (head_of e) (tail_of e)
    by (x ∷ xs) here (below t) e = comes_after (subst (StandsAsInstr j rest) (sym (tail_of e)) t)
    by (x ∷ xs) (below s) here e = comes_before (subst (StandsAsInstr i next) (tail_of e) s)
    by (x ∷ xs) (below s) (below t) e = by xs s t (tail_of e)

module _ (m : Mach) (s : ℕ → ℕ) (free top : ℕ) (formed : WellFormed m) (placed : WellPlaced m) (is : IsNumbering m s free top) where
  abbrev q : Mach
  q = reloaded_by s m

  abbrev f : ℕ → Instr → List Instr
  f = laid_instr s

  abbrev Operand : Instr → List Instr → ℕ → Reg → Type 0
  Operand = ForOperand m s free top formed placed is

  abbrev Result : Instr → List Instr → ℕ → Reg → Type 0
  Result = ForResult m s free top formed placed is

  -- this number is that of the fresh register for this operand or result
  pub data IsMade (i : Instr) (next : List Instr) (x : ℕ) (w : Reg) : Type 0 where
    for_operand : Operand i next x w → IsMade i next x w
    for_result : Result i next x w → IsMade i next x w

  pub made_register : {i : Instr} {next : List Instr} {x : ℕ} {w : Reg} → StandsAsInstr i next m.code → IsMade i next x w → IsRegister m w
  made_register {i} t (for_operand h) = is_in_code (args_in t (for_in (reads_registers i.op) h))
  made_register {i} t (for_result h) = is_in_code (results_in t (for_in (writes_registers i.op) h))

  pub made_slot : {i : Instr} {next : List Instr} {x : ℕ} {w : Reg} → IsMade i next x w → is_in_slot w.loc ≡ true
  made_slot {i} {w = w} (for_operand h) = renewed_slot (reads_registers i.op) w (for_slot (reads_registers i.op) h)
  made_slot {i} {w = w} (for_result h) = renewed_slot (writes_registers i.op) w (for_slot (writes_registers i.op) h)

  pub made_from : {i : Instr} {next : List Instr} {x : ℕ} {w : Reg} → IsMade i next x w → s (length next) ≤ x
  made_from {i} (for_operand h) = for_from (reads_registers i.op) h
  made_from {i} {next} (for_result h) =
      let a = for_from (writes_registers i.op) h in
      let b = past_rises (reads_registers i.op) (s (length next)) i.args in omega (arith, a, b)

  pub made_below : {i : Instr} {next : List Instr} {x : ℕ} {w : Reg} → IsMade i next x w → x < past_instr (s (length next)) i
  made_below {i} {next} (for_operand h) =
      let a = for_below (reads_registers i.op) h in
      let b = past_rises (writes_registers i.op) (number_past (reads_registers i.op) (s (length next)) i.args) i.results in omega (arith, a, b)
  made_below {i} (for_result h) = for_below (writes_registers i.op) h

  pub made_free : {i : Instr} {next : List Instr} {x : ℕ} {w : Reg} → StandsAsInstr i next m.code → IsMade i next x w → free ≤ x
  made_free {i} {next} t h = let a = made_from h in let b = is.from i next t in omega (arith, a, b)

  pub made_top : {i : Instr} {next : List Instr} {x : ℕ} {w : Reg} → StandsAsInstr i next m.code → IsMade i next x w → x < top
  made_top {i} {next} t h = let a = made_below h in let b = is.below_top i next t in omega (arith, a, b)

  made_there : {i : Instr} {next : List Instr} {x y : ℕ} {w v : Reg} → IsMade i next x w → IsMade i next y v → x ≡ y → w ≡ v
  made_there {i} (for_operand h) (for_operand g) e = for_same (reads_registers i.op) h g e
  made_there {i} (for_operand h) (for_result g) e =
      let a = for_below (reads_registers i.op) h in let b = for_from (writes_registers i.op) g in absurd (omega (arith, a, b, e))
  made_there {i} (for_result g) (for_operand h) e =
      let a = for_below (reads_registers i.op) h in let b = for_from (writes_registers i.op) g in absurd (omega (arith, a, b, e))
  made_there {i} (for_result h) (for_result g) e = for_same (writes_registers i.op) h g e

  -- a number is that of one fresh register alone
  pub made_once : {i j : Instr} {next rest : List Instr} {x y : ℕ} {w v : Reg} → StandsAsInstr i next m.code → StandsAsInstr j rest m.code →
      IsMade i next x w → IsMade j rest y v → x ≡ y → w ≡ v
  made_once {i} {j} {next} {rest} {x} {y} {w} {v} one two h g e = by (order one two)
    where
      by : Order i j next rest → w ≡ v
      by (same_place a b) = made_there h (subst (λ i. IsMade i next y v) (sym a) (subst (λ rest. IsMade j rest y v) (sym b) g)) e
      by (comes_after t) =
          let a = made_below h in let b = made_from g in let c = is.rises i j next rest one t in absurd (omega (arith, a, b, c, e))
      by (comes_before t) =
          let a = made_below g in let b = made_from h in let c = is.rises j i rest next two t in absurd (omega (arith, a, b, c, e))

  -- what a register of the second was
  pub data WasRegister (r : Reg) : Type 0 where
    is_old : IsRegister m r → WasRegister r
    is_new : (i : Instr) (next : List Instr) (x : ℕ) (w : Reg) → StandsAsInstr i next m.code → IsMade i next x w → fresh_stand_in x w ≡ r → WasRegister r

  of_operands : (i : Instr) (next : List Instr) (r : Reg) → StandsAsInstr i next m.code →
      CopiedIn (reads_registers i.op) (s (length next)) i.args r → WasRegister r
  of_operands i next r t (copied_own c) = is_old (is_in_code (args_in t c))
  of_operands i next r t (copied_fresh x w h e) = is_new i next x w t (for_operand h) e

  of_results : (i : Instr) (next : List Instr) (r : Reg) → StandsAsInstr i next m.code →
      CopiedIn (writes_registers i.op) (results_at m s free top formed placed is i next) i.results r → WasRegister r
  of_results i next r t (copied_own c) = is_old (is_in_code (results_in t c))
  of_results i next r t (copied_fresh x w h e) = is_new i next x w t (for_result h) e

  as_copied : (b : Bool) (n : ℕ) (rs : List Reg) (k : Reg) → WasIn b n rs k → CopiedIn b n rs k
  as_copied b n rs k (was_own c t) = copied_own c
  as_copied b n rs k (was_fresh x w h e) = copied_fresh x w h e

  was_code : (code : List Instr) (r : Reg) → ((i : Instr) (next : List Instr) → StandsAsInstr i next code → StandsAsInstr i next m.code) →
      InCode r (expand f code) → WasRegister r
  was_code [] r known c = elim c [ ]
  was_code (i ∷ next) r known c =
      ⊎_elim
      (λ h.
      ⊎_elim (λ g. of_operands i next r (known i next here) (in_reloads (reads_registers i.op) (s (length next)) i.args r g)) of_main
      (in_append (reloads (reads_registers i.op) (s (length next)) i.args)
      (main_of m s free top formed placed is i next
      ∷ spills (writes_registers i.op) (results_at m s free top formed placed is i next) i.results) h))
      (λ h. was_code next r (λ j rest t. known j rest (below t)) h) (in_append (f (length next) i) (expand f next) c)
    where
      of_main : InCode r
          (main_of m s free top formed placed is i next
          ∷ spills (writes_registers i.op) (results_at m s free top formed placed is i next) i.results) → WasRegister r
      of_main (in_args d) =
          of_operands i next r (known i next here)
          (as_copied (reads_registers i.op) (s (length next)) i.args r (was_in (reads_registers i.op) (s (length next)) i.args r d))
      of_main (in_results d) =
          of_results i next r (known i next here)
          (as_copied (writes_registers i.op) (results_at m s free top formed placed is i next) i.results r
          (was_in (writes_registers i.op) (results_at m s free top formed placed is i next) i.results r d))
      of_main (further d) =
          of_results i next r (known i next here)
          (in_spills (writes_registers i.op) (results_at m s free top formed placed is i next) i.results r d)

  pub was_register : (r : Reg) → IsRegister q r → WasRegister r
  was_register r (is_param c) = is_old (is_param c)
  was_register r (is_colour c) = is_old (is_colour c)
  was_register r (is_in_code c) = was_code m.code r (λ i next t. t) c

  -- a number identifies a register
  pub number_is : (r k : Reg) → IsRegister q r → IsRegister q k → r.number ≡ k.number → r ≡ k
  number_is r k i j e = by (was_register r i) (was_register k j)
    where
      apart : (r : Reg) (x : ℕ) (w k : Reg) → IsRegister m r → free ≤ x → fresh_stand_in x w ≡ k → r.number ≡ k.number → ⊥
      apart r x w k a le h e =
          let lt = is.above r a in let number : x ≡ k.number = ap (λ (r : Reg). r.number) h in omega (arith, lt, le, number, e)

      by : WasRegister r → WasRegister k → r ≡ k
      by (is_old a) (is_old b) = formed.numbers r k a b e
      by (is_old a) (is_new i next x w t h g) = absurd (apart r x w k a (made_free t h) g e)
      by (is_new i next x w t h g) (is_old b) = absurd (apart k x w r b (made_free t h) g (sym e))
      by (is_new i next x w t h g) (is_new j rest y v u d c) =
          let number : x ≡ y = ap (λ (r : Reg). r.number) g ∙ e ∙ sym (ap (λ (r : Reg). r.number) c) in
          sym g ∙ ap (λ x. fresh_stand_in x w) number ∙ ap (fresh_stand_in y) (made_once t u h d number) ∙ c

  -- one that has the number of a register of the first is it
  pub old_register : (r k : Reg) → IsRegister q r → IsRegister m k → k.number ≡ r.number → IsRegister m r
  old_register r k i j e = by (was_register r i)
    where
      by : WasRegister r → IsRegister m r
      by (is_old a) = a
      by (is_new i next x w t h g) =
          let lt = is.above k j in
          let le = made_free t h in
          let number : x ≡ r.number = ap (λ (r : Reg). r.number) g in absurd (omega (arith, lt, le, number, e))

  -- it has the origin of the register for which it was made
  pub made_origin : {i : Instr} {next : List Instr} {w : Reg} (r : Reg) → IsRegister q r → StandsAsInstr i next m.code → IsMade i next r.number w →
      w.origin ≡ r.origin
  made_origin {i} {next} {w} r k one h = by (was_register r k)
    where
      by : WasRegister r → w.origin ≡ r.origin
      by (is_old a) = let lt = is.above r a in let le = made_free one h in absurd (omega (arith, lt, le))
      by (is_new j rest y v t g e) =
          ap (λ (r : Reg). r.origin) (made_once one t h g (sym (ap (λ (r : Reg). r.number) e))) ∙ ap (λ (r : Reg). r.origin) e
