-- What a function with spills and reloads keeps.
use Rattle.std.proofs.Common.{◌≡◌, ℕ, ◌+◌, suc, ◌*◌, ◌<◌, ◌≤◌, Bool, true, false, cond, ◌⊎◌, inl, inr, ⊎_elim, List, [], ◌∷◌, length, refl, sym, ap, ◌∙◌, subst, arith}
use Rattle.std.specs.List.{Contains}
use Rattle.bs_words.specs.declared.types.Loc.TheVariants as loc
use Rattle.bs_words.proofs.Lists.{none_in, first_in, later_in, in_cons}
use Rattle.std.proofs.lemmas.List.{length-append}
use Rattle.std.proofs.lemmas.Bool.{both_ways}
use Rattle.std.proofs.lemmas.List.Elements.{Contains-append_cases}
use Rattle.mach_ir.specs.Acts.{Target, On, At}
use Rattle.mach_ir.specs.Formed.{WellFormed}
use Rattle.mach_ir.specs.Keeps.{Keeps, IsLoose, is_open, HasSlot, NamesSymbol, NamesExternal, IsNamedIn}
use Rattle.mach_ir.specs.Meaning.{after_label, from_handler, code_at, passes_frame, tries_at}
use Rattle.mach_ir.specs.Placed.{WellPlaced}
use Rattle.mach_ir.specs.Sizes.{operand_count, Size, HasSize}
use Rattle.mach_ir.specs.Walks.{OneOf, this, other, targets, may_raise, goes, raises, Reached, at_entry, by_step, by_raise, LiveAcross, IsRegister, NoAddrLive}
use Rattle.mach_ir.specs.declared.op.CopyKind.{CopyKind}
use Rattle.mach_ir.specs.declared.op.CopyKind.TheVariants as copy
use Rattle.mach_ir.specs.declared.reg.Reg.{Reg}
use Rattle.mach_ir.specs.declared.mach.MachOp.{MachOp}
use Rattle.mach_ir.specs.declared.mach.Instr.{Instr}
use Rattle.mach_ir.specs.declared.mach.Mach.{Mach}
use Rattle.mach_laws.specs.Expand.{expand, Ending, all}
use Rattle.mach_laws.proofs.Grows.{held, instrs_expand, operands_expand, operands_append}
use Rattle.mach_laws.proofs.Places.{label_expand, handler_expand, ending_label, ending_from_handler}
use Rattle.mach_laws.proofs.Walking.{across_live}
use Rattle.spill_rules.specs.Spilled.{SpillPlan, in_slot, copy_instruction, reload, spill, reloads_of, spills_of, has_operands, has_results, operand_registers, written_results, spilled_instr, spilled, IsSpillPlan}
use Rattle.spill_rules.proofs.Kept.{does_spilled}
use Rattle.spill_rules.proofs.Registers.{Which, own, slotted, WasRegister, was_register, origin_of, comp_of, slots_apart}
use Rattle.spill_rules.proofs.Live.{Stage, Before, Reading, Storing, Laid, begins, reloads, passes_operand, main, spills, passes_result, ends, laid_of, laid_tries, WasAcross, itself_across, stored_across, across_back}
use Rattle.spill_rules.proofs.Text.{keeps_marks, copy_no_symbol, copy_no_external}
use Rattle.spill_rules.proofs.Holding.{live_register}
use Rattle.bs_words.proofs.Places.{same_slot}

module _ (m : Mach) (plan : SpillPlan) (formed : WellFormed m) (placed : WellPlaced m) (is : IsSpillPlan m plan) where
  abbrev q : Mach
  q = spilled plan m

  abbrev f : ℕ → Instr → List Instr
  f = spilled_instr plan

  abbrev Lay : Stage m plan formed placed is → List Instr → Type 0
  Lay = Laid m plan formed placed is

  old : (r : Reg) → IsRegister q r → WasRegister m plan formed placed is r
  old r i = was_register m plan formed placed is r i

  -- ---- what instructions name

  module _ (Named : MachOp → Type 0) (no_copy : (kind : CopyKind) (from to : Reg) → Named (copy_instruction kind from to).op → ⊥) where
    in_reloads : (k : ℕ) (rs : List Reg) (j : Instr) → Contains (reloads_of plan k rs) j → Named j.op → ⊥
    in_reloads k [] j c n = none_in j c
    in_reloads k (r ∷ rs) j c n = by (plan.reloads k r.number) (λ d. in_reloads k rs j d n) c
      where
        by : (b : Bool) → (Contains (reloads_of plan k rs) j → ⊥) →
            Contains (cond b (reload plan r ∷ reloads_of plan k rs) (reloads_of plan k rs)) j → ⊥
        by true ih c =
            ⊎_elim (λ e. no_copy copy.Reload (in_slot plan r) r (subst (λ (j : Instr). Named j.op) (sym e) n)) ih
            (in_cons (reload plan r) j (reloads_of plan k rs) c)
        by false ih c = ih c

    in_spills : (k : ℕ) (rs : List Reg) (j : Instr) → Contains (spills_of plan k rs) j → Named j.op → ⊥
    in_spills k [] j c n = none_in j c
    in_spills k (r ∷ rs) j c n = by (plan.spills k r.number) (λ d. in_spills k rs j d n) c
      where
        by : (b : Bool) → (Contains (spills_of plan k rs) j → ⊥) →
            Contains (cond b (spill plan r ∷ spills_of plan k rs) (spills_of plan k rs)) j → ⊥
        by true ih c =
            ⊎_elim (λ e. no_copy copy.Spill r (in_slot plan r) (subst (λ (j : Instr). Named j.op) (sym e) n)) ih
            (in_cons (spill plan r) j (spills_of plan k rs) c)
        by false ih c = ih c

    pub named_in : (code : List Instr) (j : Instr) → Contains (expand f code) j → Named j.op → Contains code j
    named_in [] j c n = absurd (none_in j c)
    named_in (i ∷ next) j c n =
        ⊎_elim
        (λ h.
        ⊎_elim (λ g. absurd (in_reloads (length next) (operand_registers i) j g n))
        (λ g.
        ⊎_elim (λ e. subst (Contains (i ∷ next)) e (first_in i next)) (λ d. absurd (in_spills (length next) (written_results i) j d n))
        (in_cons i j (spills_of plan (length next) (written_results i)) g))
        (Contains-append_cases (reloads_of plan (length next) (operand_registers i)) (i ∷ spills_of plan (length next) (written_results i)) j h))
        (λ h. later_in i j next (named_in next j h n)) (Contains-append_cases (f (length next) i) (expand f next) j c)

    named_before : IsNamedIn Named q → IsNamedIn Named m
    named_before n = record { instr = n.instr; among = named_in m.code n.instr n.among n.named; named = n.named }

  -- ---- places that are reached

  abbrev IsReachedAt : Stage m plan formed placed is → Type 0
  IsReachedAt (Before rest) = Reached m rest
  IsReachedAt (Reading i next rs) = Reached m (i ∷ next)
  IsReachedAt (Storing i next rs) = Reached m next

  record WasReached (ys : List Instr) : Type 0 where
    stage : Stage m plan formed placed is
    laid : Lay stage ys
    reached : IsReachedAt stage

  reached_label : (l : ℕ) → Reached m (after_label l m.code) → WasReached (after_label l q.code)
  reached_label l r =
      record {
        stage = Before (after_label l m.code);
        laid = subst (Lay (Before (after_label l m.code))) (sym (label_expand f (keeps_marks plan) l m.code))
            (laid_of m plan formed placed is (after_label l m.code) (ending_label l m.code));
        reached = r;
      }

  reached_handler : (l : ℕ) → Reached m (from_handler l m.code) → WasReached (from_handler l q.code)
  reached_handler l r =
      record {
        stage = Before (from_handler l m.code);
        laid = subst (Lay (Before (from_handler l m.code))) (sym (handler_expand f (keeps_marks plan) l m.code))
            (laid_of m plan formed placed is (from_handler l m.code) (ending_from_handler l m.code));
        reached = r;
      }

  copy_on : (s : Stage m plan formed placed is) (ys : List Instr) (t : Target) → Lay s ys → IsReachedAt s → OneOf t (On ∷ []) →
      WasReached (code_at q.code ys t)
  copy_on s ys t h r this = record { stage = s; laid = h; reached = r }
  copy_on s ys t h r (other o) = elim o [ ]

  step_back : {j : Instr} {ys : List Instr} (s : Stage m plan formed placed is) (t : Target) → Lay s (j ∷ ys) → IsReachedAt s →
      OneOf t (targets j.op) → WasReached (code_at q.code ys t)
  step_back s t (begins {i = i} {next = next} ending h) r o = step_back (Reading i next (operand_registers i)) t h r o
  step_back {ys = ys} s t (reloads {i = i} {next = next} {rs = rs} k ending a e h) r o = copy_on (Reading i next rs) ys t h r o
  step_back s t (passes_operand {i = i} {next = next} {rs = rs} k h) r o = step_back (Reading i next rs) t h r o
  step_back {ys = ys} s t (main {i = i} {next = next} ending h) r o = by t o
    where
      by : (t : Target) → OneOf t (targets i.op) → WasReached (code_at q.code ys t)
      by On o = record { stage = Storing i next (written_results i); laid = h; reached = by_step r (goes On o) }
      by (At l) o = reached_label l (by_step r (goes (At l) o))
  step_back {ys = ys} s t (spills {i = i} {next = next} {rs = rs} k c e h) r o = copy_on (Storing i next rs) ys t h r o
  step_back s t (passes_result {i = i} {next = next} {rs = rs} k e h) r o = step_back (Storing i next rs) t h r o
  step_back s t (ends {i = i} {next = next} h) r o = step_back (Before next) t h r o

  raise_back : {j : Instr} {ys : List Instr} (s : Stage m plan formed placed is) (l : ℕ) (tries : List ℕ) → Lay s (j ∷ ys) → IsReachedAt s →
      may_raise j.op ≡ true → tries_at (j ∷ ys) ≡ l ∷ tries → WasReached (from_handler l q.code)
  raise_back s l tries (begins {i = i} {next = next} ending h) r b e = raise_back (Reading i next (operand_registers i)) l tries h r b e
  raise_back s l tries (reloads k ending a t h) r b e = absurd (both_ways false refl b)
  raise_back s l tries (passes_operand {i = i} {next = next} {rs = rs} k h) r b e = raise_back (Reading i next rs) l tries h r b e
  raise_back s l tries (main {i = i} {next = next} ending h) r b e =
      reached_handler l (by_raise r (raises b (sym (laid_tries m plan formed placed is (main ending h)) ∙ e)))
  raise_back s l tries (spills k c t h) r b e = absurd (both_ways false refl b)
  raise_back s l tries (passes_result {i = i} {next = next} {rs = rs} k t h) r b e = raise_back (Storing i next rs) l tries h r b e
  raise_back s l tries (ends {i = i} {next = next} h) r b e = raise_back (Before next) l tries h r b e

  was_reached : {ys : List Instr} → Reached q ys → WasReached ys
  was_reached at_entry =
      record { stage = Before m.code; laid = laid_of m plan formed placed is m.code all; reached = at_entry }
  was_reached (by_step r (goes t o)) = let w = was_reached r in step_back w.stage t w.laid w.reached o
  was_reached (by_raise r (raises {l = l} {tries = tries} b e)) = let w = was_reached r in raise_back w.stage l tries w.laid w.reached b e

  -- a frame point is an instruction of the first
  record IsMain (j : Instr) (ys : List Instr) : Type 0 where
    next : List Instr
    ending : Ending (j ∷ next) m.code
    laid : Lay (Storing j next (written_results j)) ys
    reached : Reached m (j ∷ next)

  frame_main : {j : Instr} {ys : List Instr} (s : Stage m plan formed placed is) → Lay s (j ∷ ys) → IsReachedAt s →
      passes_frame j.op ≡ true → IsMain j ys
  frame_main s (begins {i = i} {next = next} ending h) r t = frame_main (Reading i next (operand_registers i)) h r t
  frame_main s (reloads k ending a e h) r t = absurd (both_ways false refl t)
  frame_main s (passes_operand {i = i} {next = next} {rs = rs} k h) r t = frame_main (Reading i next rs) h r t
  frame_main s (main {i = i} {next = next} ending h) r t = record { next = next; ending = ending; laid = h; reached = r }
  frame_main s (spills k c e h) r t = absurd (both_ways false refl t)
  frame_main s (passes_result {i = i} {next = next} {rs = rs} k e h) r t = frame_main (Storing i next rs) h r t
  frame_main s (ends {i = i} {next = next} h) r t = frame_main (Before next) h r t

  across_register : (r w : Reg) → IsRegister m w → Which m plan formed placed is w r → (i : Instr) (next : List Instr) →
      Ending (i ∷ next) m.code → WasAcross m plan formed placed is r.number i next → LiveAcross m w.number i next
  across_register r w among (own e) i next ending (itself_across v) =
      subst (λ n. LiveAcross m n i next) (sym (ap (λ (x : Reg). x.number) e)) v
  across_register r w among (slotted e) i next ending (itself_across v) =
      let u = live_register m (across_live v) ending in
      absurd (is.fresh u.0 u.1 w.number (ap (λ (x : Reg). x.number) e ∙ sym u.2))
  across_register r w among (own e) i next ending (stored_across n s v k) =
      absurd (is.fresh w among n (s ∙ sym (ap (λ (x : Reg). x.number) e)))
  across_register r w among (slotted e) i next ending (stored_across n s v k) =
      subst (λ n. LiveAcross m n i next)
      (slots_apart m plan formed placed is n w.number (s ∙ sym (ap (λ (x : Reg). x.number) e))) v

  no_addr : NoAddrLive m → NoAddrLive q
  no_addr none =
      record {
        none = λ j ys reached frame r one addr v.
            let k = was_reached reached in
            let p = frame_main k.stage k.laid k.reached frame in
            let w = old r one in
            none.none j p.next p.reached frame w.register w.among (comp_of m plan formed placed is w.which ∙ addr)
            (across_register r w.register w.among w.which j p.next p.ending
            (across_back m plan formed placed is j p.next p.ending p.laid v));
      }

  -- ---- it keeps

  loose_of : (r w : Reg) → (in_slot plan w ≡ r → w.loc ≡ loc.Unset) → Which m plan formed placed is w r → IsLoose r → IsLoose w
  loose_of r w unset (own e) l = subst IsLoose (sym e) l
  loose_of r w unset (slotted e) l = is_open (unset e)

  slot_of : (r w : Reg) (k : ℕ) → IsRegister m w → Which m plan formed placed is w r → r.loc ≡ loc.Slot k →
      HasSlot m k r.origin ⊎ (k ≡ r.origin)
  slot_of r w k among (own e) s =
      inl
      (record {
        register = w;
        among = among;
        stands = ap (λ (x : Reg). x.loc) e ∙ s;
        same = ap (λ (x : Reg). x.origin) e;
      })
  slot_of r w k among (slotted e) s =
      inr (same_slot s (sym (ap (λ (x : Reg). x.loc) e)) ∙ ap (λ (x : Reg). x.origin) e)

  pub spilled_keeps : Keeps m (spilled plan m)
  spilled_keeps =
      record {
        name = refl;
        result = refl;
        does = does_spilled m plan formed placed is;
        origins = λ r i l.
            let w = old r i in
            record {
              register = w.register;
              among = w.among;
              loose = loose_of r w.register w.unset w.which l;
              same = origin_of m plan formed placed is w.which;
            };
        slots = λ r k i s. let w = old r i in slot_of r w.register k w.among w.which s;
        symbols = λ name n. named_before (NamesSymbol name) (copy_no_symbol name) n;
        externals = λ row n. named_before (NamesExternal row) (copy_no_external row) n;
        addrs = no_addr;
      }

  -- ---- sizes

  pub few_reloads : (k : ℕ) (rs : List Reg) → (length (reloads_of plan k rs) ≤ length rs) × (operand_count (reloads_of plan k rs) ≤ 2 * length rs)
  few_reloads k [] = (omega arith, omega arith)
  few_reloads k (r ∷ rs) = by (plan.reloads k r.number) (few_reloads k rs)
    where
      by : (b : Bool) → (length (reloads_of plan k rs) ≤ length rs) × (operand_count (reloads_of plan k rs) ≤ 2 * length rs) →
          (length (cond b (reload plan r ∷ reloads_of plan k rs) (reloads_of plan k rs)) ≤ length (r ∷ rs))
          × (operand_count (cond b (reload plan r ∷ reloads_of plan k rs) (reloads_of plan k rs)) ≤ 2 * length (r ∷ rs))
      by true h = let x = h.0 in let y = h.1 in (omega (arith, x), omega (arith, y))
      by false h = let x = h.0 in let y = h.1 in (omega (arith, x), omega (arith, y))

  pub few_spills : (k : ℕ) (rs : List Reg) → (length (spills_of plan k rs) ≤ length rs) × (operand_count (spills_of plan k rs) ≤ 2 * length rs)
  few_spills k [] = (omega arith, omega arith)
  few_spills k (r ∷ rs) = by (plan.spills k r.number) (few_spills k rs)
    where
      by : (b : Bool) → (length (spills_of plan k rs) ≤ length rs) × (operand_count (spills_of plan k rs) ≤ 2 * length rs) →
          (length (cond b (spill plan r ∷ spills_of plan k rs) (spills_of plan k rs)) ≤ length (r ∷ rs))
          × (operand_count (cond b (spill plan r ∷ spills_of plan k rs) (spills_of plan k rs)) ≤ 2 * length (r ∷ rs))
      by true h = let x = h.0 in let y = h.1 in (omega (arith, x), omega (arith, y))
      by false h = let x = h.0 in let y = h.1 in (omega (arith, x), omega (arith, y))

  pub cond_few : (b : Bool) (rs : List Reg) → length (cond b rs []) ≤ length rs
  cond_few true rs = omega arith
  cond_few false rs = omega arith

  few_instrs : (k : ℕ) (i : Instr) → length (f k i) ≤ suc (held i)
  few_instrs k i =
      let a = (few_reloads k (operand_registers i)).0 in
      let b = (few_spills k (written_results i)).0 in
      let x = cond_few (has_operands i.op) i.args in
      let y = cond_few (has_results i.op) i.results in
      let z = length-append (reloads_of plan k (operand_registers i)) (i ∷ spills_of plan k (written_results i)) in
      omega (arith, a, b, x, y, z)

  few_operands : (k : ℕ) (i : Instr) → operand_count (f k i) ≤ 3 * held i
  few_operands k i =
      let a = (few_reloads k (operand_registers i)).1 in
      let b = (few_spills k (written_results i)).1 in
      let x = cond_few (has_operands i.op) i.args in
      let y = cond_few (has_results i.op) i.results in
      let z = operands_append (reloads_of plan k (operand_registers i)) (i ∷ spills_of plan k (written_results i)) in
      omega (arith, a, b, x, y, z)

  number_below : (registers : ℕ) (r w : Reg) → Which m plan formed placed is w r → w.number < registers → plan.slot w.number < registers →
      r.number < registers
  number_below registers r w (own e) x y = subst (λ n. n < registers) (ap (λ (x : Reg). x.number) e) x
  number_below registers r w (slotted e) x y = subst (λ n. n < registers) (ap (λ (x : Reg). x.number) e) y

  pub within_bounds : (s : Size) (registers : ℕ) → HasSize m s → s.registers ≤ registers →
      ((r : Reg) → IsRegister m r → plan.slot r.number < registers) →
      HasSize (spilled plan m)
      (record s { instrs = s.instrs + s.operands; operands = 3 * s.operands; registers = registers })
  within_bounds s registers h le slots =
      let instrs = instrs_expand f few_instrs m.code in
      let operands = operands_expand f 3 few_operands m.code in
      let a = h.instrs in
      let b = h.operands in
      record {
        instrs = omega (arith, instrs, a, b);
        operands = omega (arith, operands, b);
        numbers = λ r i.
            let w = old r i in
            let lt = h.numbers w.register w.among in
            number_below registers r w.register w.which (omega (arith, lt, le)) (slots w.register w.among);
        origins = λ r i.
            let w = old r i in
            let lt = h.origins w.register w.among in
            subst (λ n. n < registers) (origin_of m plan formed placed is w.which) (omega (arith, lt, le));
        labels = h.labels;
      }
