-- What spilling chooses is a plan, there is one such plan, and a slot is needed.
use Rattle.std.proofs.Common.{◌≡◌, ◌↔◌, ℕ, suc, ◌+◌, ◌*◌, ◌-◌, ◌<◌, ◌≤◌, Bool, true, false, cond, ◌⊎◌, inl, inr, ⊎_elim, List, [], ◌∷◌, ◌++◌, drop, length, refl, sym, ap, ◌∙◌, subst, arith}
use Rattle.std.proofs.lemmas.Bool.{cases_Bool}
use Rattle.std.specs.List.{Contains}
use Rattle.std.proofs.lemmas.List.Elements.{All-contains, Contains-append_left}
use Rattle.std.proofs.Math.Nat.{le_antisymm}
use Rattle.bs_words.specs.declared.types.Comp.{Comp}
use Rattle.bs_words.specs.declared.types.Loc.TheVariants as loc
use Rattle.bs_words.proofs.Lists.{none_in, first_in, later_in, mapped, head_same}
use Rattle.mach_ir.specs.Acts.{Target, On}
use Rattle.mach_ir.specs.Formed.{comps, MarkHasForm, exit_form, if_form, else_form, switch_form, case_form, catch_form, with_form, try_form, leave_form, handler_form, end_form, IsFormedInstruction, formed_op, formed_mark, WellFormed}
use Rattle.mach_ir.specs.Forms as forms
use Rattle.mach_ir.specs.Forms.{HasForm}
use Rattle.mach_ir.specs.Meaning.{code_at}
use Rattle.mach_ir.specs.Placed.{WellPlaced}
use Rattle.mach_ir.specs.Seats.{argument_locations, InOrder, AreSeated, in_order, places_of, Seated}
use Rattle.mach_ir.specs.Walks.{AmongRegisters, OneOf, targets, goes, WalkStep, Writes, Live, read, on, aside, IsRegister, is_param, is_in_code, StandsAsInstr, here, below}
use Rattle.mach_ir.specs.declared.op.CopyKind.TheVariants as copy
use Rattle.mach_ir.specs.declared.op.Op.{Op}
use Rattle.mach_ir.specs.declared.reg.Reg.{Reg}
use Rattle.mach_ir.specs.declared.mach.Mark.{Mark}
use Rattle.mach_ir.specs.declared.mach.MachOp.TheVariants as mach
use Rattle.mach_ir.specs.declared.mach.Instr.{Instr}
use Rattle.mach_ir.specs.declared.mach.Mach.{Mach}
use Rattle.mach_laws.specs.Expand.{expand, Ending}
use Rattle.mach_laws.proofs.Places.{ending_next, ending_short, ending_of, args_in, contains_of}
use Rattle.mach_laws.proofs.Walking.{drop_ending, only_on}
use Rattle.mach_laws.proofs.Among.{number_among, among_of}
use Rattle.split_rules.proofs.Known.{machine_open, was}
use Rattle.split_rules.proofs.Result.{comes_write}
use Rattle.split_rules.specs.Writes.{WriteReaches, from_entry, from_write, past, past_raise, IsWrite, by_entry, by_instr}
use Rattle.spill_rules.specs.Chosen.{LivesOver, Lost, over, still, IsReloaded, IsSpillChoice, IsSpilled, ParamsPlaced, IsNeededSlot, IsChosenKept}
use Rattle.spill_rules.specs.Spilled.{SpillPlan, copy_instruction, reload, spill, reloads_of, spills_of, has_operands, has_results, operand_registers, written_results, spilled_instr, spilled, IsSpillPlan, IsSpillKept}
use Rattle.spill_rules.proofs.Formed.{spilled_formed}
use Rattle.spill_rules.proofs.Registers.{Which, own, slotted, WasRegister, IsCopiedAt, by_reload, by_spill, was_register}
use Rattle.spill_rules.proofs.Placed.{spilled_placed, spilled_seated}
use Rattle.spill_rules.proofs.Whole.{spilled_keeps, within_bounds, few_reloads, few_spills, cond_few}

-- ---- places of a code

-- what a code ends with is known by how long it is
pub same_rest : {a b code : List Instr} → Ending a code → Ending b code → length a ≡ length b → a ≡ b
same_rest {code = code} e h len = sym (drop_ending e) ∙ ap (λ k. drop (length code - k) code) len ∙ drop_ending h

pub same_instr : {i j : Instr} {next rest code : List Instr} → StandsAsInstr i next code → StandsAsInstr j rest code → length next ≡ length rest →
    i ∷ next ≡ j ∷ rest
same_instr s t len = same_rest (ending_of s) (ending_of t) (ap suc len)

pub not_whole : {i : Instr} {next code : List Instr} → StandsAsInstr i next code → length next ≡ length code → ⊥
not_whole s e = let le = ending_short (ending_of s) in omega (arith, le, e)

-- ---- what has results goes on

pub no_result : (rs : List Reg) (r : Reg) → comps rs ≡ [] → Contains rs r → ⊥
no_result [] r e c = none_in r c
no_result (x ∷ rs) r e c = some x.comp (comps rs) e
  where
    some : (c : Comp) (cs : List Comp) → c ∷ cs ≡ [] → ⊥
    some c cs e = cc

op_on : (f : Op) (cs ds : List Comp) → HasForm f cs ds → (ds ≡ [] → ⊥) → targets (mach.Op f) ≡ On ∷ []
op_on f cs ds forms.copies some = refl
op_on f cs ds (forms.constant lt) some = refl
op_on f cs ds forms.symbol some = refl
op_on f cs ds (forms.operates h) some = refl
op_on f cs ds forms.loads some = refl
op_on f cs ds forms.stores some = refl
op_on f cs ds (forms.allocates a b c d) some = refl
op_on f cs ds (forms.calls arguments h) some = refl
op_on f cs ds (forms.tail_calls arguments h) some = absurd (some refl)
op_on f cs ds forms.calls_out some = refl
op_on f cs ds (forms.checks h) some = refl
op_on f cs ds forms.raises some = absurd (some refl)
op_on f cs ds (forms.returns result) some = absurd (some refl)

mark_on : (f : Mark) (cs ds : List Comp) → MarkHasForm f cs ds → (ds ≡ [] → ⊥) → targets (mach.Mark f) ≡ On ∷ []
mark_on f cs ds exit_form some = absurd (some refl)
mark_on f cs ds (if_form h) some = absurd (some refl)
mark_on f cs ds else_form some = absurd (some refl)
mark_on f cs ds switch_form some = absurd (some refl)
mark_on f cs ds case_form some = absurd (some refl)
mark_on f cs ds catch_form some = absurd (some refl)
mark_on f cs ds with_form some = absurd (some refl)
mark_on f cs ds try_form some = absurd (some refl)
mark_on f cs ds leave_form some = absurd (some refl)
mark_on f cs ds handler_form some = refl
mark_on f cs ds end_form some = absurd (some refl)

pub goes_on : {i : Instr} (r : Reg) → IsFormedInstruction i → Contains i.results r → targets i.op ≡ On ∷ []
goes_on r (formed_op {f = f} {args = args} {results = results} h) c =
    op_on f (comps args) (comps results) h (λ e. no_result results r e c)
goes_on r (formed_mark {f = f} {args = args} {results = results} h) c =
    mark_on f (comps args) (comps results) h (λ e. no_result results r e c)

-- ---- where a write begins a walk

module _ (m : Mach) (n : ℕ) where
  data Begun : List Instr → Type 0 where
    at_start : Live m n m.code → Begun m.code
    at_instr : {i : Instr} {next to : List Instr} → StandsAsInstr i next m.code → Writes m i n → WalkStep m i next to → Live m n to → Begun next

  began : {from to : List Instr} → WriteReaches m n from to → Live m n to → Begun from
  began (from_entry a) v = at_start v
  began (from_write s w l) v = at_instr s w l v
  began (past c w l) v = began c (on w l v)
  began (past_raise c r) v = began c (aside r v)

  record IsOver : Type 0 where
    instr : Instr
    next : List Instr
    to : List Instr
    lives : LivesOver m n instr next to

  lost_over : {rest : List Instr} → Lost m n rest → IsOver
  lost_over (over {i = i} {next = next} {to = to} h) = record { instr = i; next = next; to = to; lives = h }
  lost_over (still l a w g) = lost_over l

-- ---- the plan

module _ (m : Mach) (plan : SpillPlan) (formed : WellFormed m) (placed : WellPlaced m) (is : IsSpillPlan m plan) where
  -- What a function keeps in which registers are stored and reloaded by a plan.
  pub kept_by : IsSpillKept m (spilled plan m) plan
  kept_by =
      record {
        pass = record {
          keeps = spilled_keeps m plan formed placed is;
          formed = spilled_formed m plan formed placed is;
          placed = λ _. spilled_placed m plan formed placed is;
          seated = spilled_seated m plan formed placed is;
        };
        size = within_bounds m plan formed placed is;
      }

module _ (m : Mach) (plan : SpillPlan) (formed : WellFormed m) (params : ParamsPlaced m) (chosen : IsSpillChoice m plan) where
  abbrev AtCode : ℕ → List Instr → Type 0
  AtCode n [] = ⊥
  AtCode n (i ∷ next) = IsReloaded m i next n

  pub reloaded_here : {i : Instr} {next : List Instr} (n : ℕ) → StandsAsInstr i next m.code → plan.reloads (length next) n ≡ true → IsReloaded m i next n
  reloaded_here {i} {next} n s e =
      let a = (chosen.reloads (length next) n).0 e in
      subst (AtCode n) (same_instr (a.reloaded).stands s a.len) a.reloaded

  unset_of : (r : Reg) → IsRegister m r → {i : Instr} {next : List Instr} → IsReloaded m i next r.number → r.loc ≡ loc.Unset
  unset_of r k h =
      let e = formed.numbers h.register r (is_in_code (args_in h.stands h.operand)) k h.number in
      ap (λ (x : Reg). x.loc) (sym e) ∙ h.unset

  stored_by : {from next : List Instr} {i : Instr} (n : ℕ) → IsReloaded m i next n → WriteReaches m n from (i ∷ next) → IsWrite m n from →
      plan.spills (length from) n ≡ true
  stored_by n h c (by_entry a) =
      let p = number_among m.params a in
      let e = formed.numbers p.0 h.register (is_param p.1) (is_in_code (args_in h.stands h.operand)) (p.2 ∙ sym h.number) in
      absurd (params.placed p.0 p.1 (ap (λ (x : Reg). x.loc) e ∙ h.unset))
  stored_by {from} {next} {i} n h c (by_instr {i = j} s w) =
      (chosen.spills (length from) n).1
      (record {
        next = from;
        len = refl;
        stored = record { instr = j; stands = s; writes = w; reader = i; rest = next; reloaded = h; comes = c };
      })

  live_next : {i : Instr} {next after : List Instr} (r : Reg) → StandsAsInstr i next m.code → Contains i.results r → after ≡ next → Begun m r.number after →
      Live m r.number next
  live_next r s c e (at_start v) = absurd (not_whole s (sym (ap length e)))
  live_next {i} {next} {after} r s c e (at_instr {i = j} {to = to} t w (goes x o) v) =
      let same : j ∷ after ≡ i ∷ next = same_instr t s (ap length e) in
      let to_on : x ≡ On =
      only_on x
      (subst (OneOf x) (ap (λ (i : Instr). targets i.op) (head_same same) ∙ goes_on r (All-contains IsFormedInstruction m.code i formed.instrs (contains_of s)) c) o) in
      turned x to_on v
    where
      turned : (x : Target) → x ≡ On → Live m r.number (code_at m.code after x) → Live m r.number next
      turned x h v =
          subst (Live m r.number) e (subst (λ x. Live m r.number (code_at m.code after x)) h v)

  useful : (i : Instr) (next : List Instr) (r : Reg) → StandsAsInstr i next m.code → Contains i.results r → plan.spills (length next) r.number ≡ true →
      Live m r.number next
  useful i next r s c e =
      let a = (chosen.spills (length next) r.number).0 e in
      let b = a.stored in
      let h = b.reloaded in
      live_next r s c (same_rest (ending_next (ending_of b.stands)) (ending_next (ending_of s)) a.len)
      (began m r.number b.comes
      (read (subst (λ n. AmongRegisters n (b.reader).args) h.number (among_of h.register (b.reader).args h.operand))))

  minus : (a b : ℕ) → a + b - a ≡ b
  minus a b = omega arith

  pub chosen_plan : IsSpillPlan m plan
  chosen_plan =
      record {
        back = λ n. n - chosen.free;
        slot_back = λ n. ap (λ k. k - chosen.free) (chosen.slots n) ∙ minus chosen.free n;
        fresh = λ r i n e.
            let lt = chosen.above r i in
            let s = chosen.slots n in
            absurd (omega (arith, lt, s, e));
        spills_open = λ r i k e. unset_of r i (((chosen.spills k r.number).0 e).stored).reloaded;
        reloads_open = λ r i k e. unset_of r i ((chosen.reloads k r.number).0 e).reloaded;
        stored = λ i next from n s a e c. stored_by n (reloaded_here n s e) c (comes_write m c);
        useful = useful;
        entry = λ n a.
            ⊎_elim
            (λ e.
            let x = (chosen.spills (length m.code) n).0 e in
            absurd (not_whole (x.stored).stands x.len))
            (λ e. e) (cases_Bool (plan.spills (length m.code) n));
      }

  -- ---- slots

  module _ (placed : WellPlaced m) where
    is : IsSpillPlan m plan
    is = chosen_plan

    copied_over : (n : ℕ) → IsCopiedAt m plan formed placed is n → IsOver m n
    copied_over n (by_reload k e) = lost_over m n (((chosen.reloads k n).0 e).reloaded).lost
    copied_over n (by_spill k e) = lost_over m n ((((chosen.spills k n).0 e).stored).reloaded).lost

    needed : (r : Reg) (w : WasRegister m plan formed placed is r) → Which m plan formed placed is w.register r → IsRegister m r ⊎ IsNeededSlot m r
    needed r w (own e) = inl (subst (IsRegister m) e w.among)
    needed r w (slotted e) =
        let h = copied_over (w.register).number (w.copied e) in
        inr
        (record {
          register = w.register;
          among = w.among;
          unset = w.unset e;
          stands = ap (λ (x : Reg). x.loc) (sym e);
          origin = ap (λ (x : Reg). x.origin) (sym e);
          comp = ap (λ (x : Reg). x.comp) (sym e);
          call = h.instr;
          next = h.next;
          to = h.to;
          over = h.lives;
        })

    twice : (a b c d : ℕ) → a ≡ b + c → b ≤ d → c < d → a < 2 * d
    twice a b c d e le lt = omega (arith, e, le, lt)

    pub chosen_kept : IsChosenKept m (spilled plan m) plan
    chosen_kept =
        record {
          kept = kept_by m plan formed placed is;
          slots = λ r i. let w = was_register m plan formed placed is r i in needed r w w.which;
          reloads = λ i k.
              let a = (few_reloads m plan formed placed is k (operand_registers i)).0 in
              let b = cond_few m plan formed placed is (has_operands i.op) i.args in
              omega (arith, a, b);
          spills = λ i k.
              let a = (few_spills m plan formed placed is k (written_results i)).0 in
              let b = cond_few m plan formed placed is (has_results i.op) i.results in
              omega (arith, a, b);
          size = λ s h.
              within_bounds m plan formed placed is s (2 * s.registers) h (omega arith)
              (λ r i.
              twice (plan.slot r.number) chosen.free r.number s.registers (chosen.slots r.number) (chosen.least s.registers h.numbers)
              (h.numbers r i));
        }

pub spilled_kept : (m q : Mach) → WellFormed m → WellPlaced m → ParamsPlaced m → (s : IsSpilled m q) → IsChosenKept m q s.plan
spilled_kept m q formed placed params s =
    subst (λ q. IsChosenKept m q s.plan) (sym s.is) (chosen_kept m s.plan formed params s.chosen placed)

-- ---- plans that agree

module _ (p q : SpillPlan) where
  abbrev ReloadsAlike : ℕ → List Reg → Type 0
  ReloadsAlike k rs = (r : Reg) → Contains rs r → (p.reloads k r.number ≡ q.reloads k r.number) × (p.slot r.number ≡ q.slot r.number)

  abbrev SpillsAlike : ℕ → List Reg → Type 0
  SpillsAlike k rs = (r : Reg) → Contains rs r → (p.spills k r.number ≡ q.spills k r.number) × (p.slot r.number ≡ q.slot r.number)

  abbrev slot_at : Reg → ℕ → Reg
  slot_at r s = record r { number = s; loc = loc.Slot r.origin }

  reloads_same : (k : ℕ) (rs : List Reg) → ReloadsAlike k rs → reloads_of p k rs ≡ reloads_of q k rs
  reloads_same k [] h = refl
  reloads_same k (r ∷ rs) h =
      let x = h r (first_in r rs) in
      ap (λ b. cond b (reload p r ∷ reloads_of p k rs) (reloads_of p k rs)) x.0
      ∙ ap (λ s. cond (q.reloads k r.number) (copy_instruction copy.Reload (slot_at r s) r ∷ reloads_of p k rs) (reloads_of p k rs)) x.1
      ∙ ap (λ xs. cond (q.reloads k r.number) (reload q r ∷ xs) xs) (reloads_same k rs (λ z c. h z (later_in r z rs c)))

  spills_same : (k : ℕ) (rs : List Reg) → SpillsAlike k rs → spills_of p k rs ≡ spills_of q k rs
  spills_same k [] h = refl
  spills_same k (r ∷ rs) h =
      let x = h r (first_in r rs) in
      ap (λ b. cond b (spill p r ∷ spills_of p k rs) (spills_of p k rs)) x.0
      ∙ ap (λ s. cond (q.spills k r.number) (copy_instruction copy.Spill r (slot_at r s) ∷ spills_of p k rs) (spills_of p k rs)) x.1
      ∙ ap (λ xs. cond (q.spills k r.number) (spill q r ∷ xs) xs) (spills_same k rs (λ z c. h z (later_in r z rs c)))

  instr_same : (k : ℕ) (i : Instr) → ReloadsAlike k (operand_registers i) → SpillsAlike k (written_results i) → spilled_instr p k i ≡ spilled_instr q k i
  instr_same k i a b =
      ap (λ xs. xs ++ i ∷ spills_of p k (written_results i)) (reloads_same k (operand_registers i) a)
      ∙ ap (λ xs. reloads_of q k (operand_registers i) ++ i ∷ xs) (spills_same k (written_results i) b)

  code_same : (code : List Instr) →
      ((i : Instr) (next : List Instr) → StandsAsInstr i next code → ReloadsAlike (length next) (operand_registers i) × SpillsAlike (length next) (written_results i)) →
      expand (spilled_instr p) code ≡ expand (spilled_instr q) code
  code_same [] h = refl
  code_same (i ∷ is) h =
      let x = h i is here in
      ap (λ xs. xs ++ expand (spilled_instr p) is) (instr_same (length is) i x.0 x.1)
      ∙ ap (λ xs. spilled_instr q (length is) i ++ xs) (code_same is (λ j next s. h j next (below s)))

  -- Plans that agree on operands and results give one function.
  pub spilled_alike : (m : Mach) →
      ((i : Instr) (next : List Instr) → StandsAsInstr i next m.code → ReloadsAlike (length next) (operand_registers i) × SpillsAlike (length next) (written_results i)) →
      spilled p m ≡ spilled q m
  spilled_alike m h = ap (λ xs. record m { code = xs }) (code_same m.code h)

pub same_answer : {P : Type 0} (a b : Bool) → (a ≡ true) ↔ P → (b ≡ true) ↔ P → a ≡ b
same_answer true true x y = refl
same_answer true false x y = sym (y.1 (x.0 refl))
same_answer false true x y = x.1 (y.0 refl)
same_answer false false x y = refl

pub one_spilled : (m q k : Mach) → IsSpilled m q → IsSpilled m k → q ≡ k
one_spilled m q k s t =
    let a = s.chosen in
    let b = t.chosen in
    let free : a.free ≡ b.free = le_antisymm (a.least b.free b.above) (b.least a.free a.above) in
    let slot = λ (n : ℕ). a.slots n ∙ ap (λ f. f + n) free ∙ sym (b.slots n) in
    s.is
    ∙ spilled_alike s.plan t.plan m
    (λ i next h. (
      λ r c. (
        same_answer ((s.plan).reloads (length next) r.number) ((t.plan).reloads (length next) r.number) (a.reloads (length next) r.number)
            (b.reloads (length next) r.number),
        slot r.number,
      ),
      λ r c. (
        same_answer ((s.plan).spills (length next) r.number) ((t.plan).spills (length next) r.number) (a.spills (length next) r.number)
            (b.spills (length next) r.number),
        slot r.number,
      ),
    ))
    ∙ sym t.is

-- ---- parameters

-- a0 to a7 and s2 to s9
abbrev argument_numbers : List ℕ
argument_numbers = 10 ∷ 11 ∷ 12 ∷ 13 ∷ 14 ∷ 15 ∷ 16 ∷ 17 ∷ 18 ∷ 19 ∷ 20 ∷ 21 ∷ 22 ∷ 23 ∷ 24 ∷ 25 ∷ []

pub seated_params : (m : Mach) → Seated m → ParamsPlaced m
seated_params m s = record { placed = λ r c e. by r c e s.params }
  where
    by : (r : Reg) → Contains m.params r → r.loc ≡ loc.Unset → AreSeated (InOrder argument_locations) (places_of m.params) → ⊥
    by r c e (in_order others h) =
        let l = mapped (λ (r : Reg). r.loc) m.params r c in
        let w = was loc.Machine argument_numbers r.loc (subst (λ ls. Contains ls r.loc) h (Contains-append_left (places_of m.params) others r.loc l)) in
        machine_open (sym w.same) e
