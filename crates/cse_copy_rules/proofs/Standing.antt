-- Which copies stand where a code is left, and what an instruction leaves of them.
use Rattle.std.proofs.Common.{◌≡◌, ◌≢◌, ℕ, true, false, ⊎_elim, List, [], ◌∷◌, ◌++◌, length, refl, sym, ap, subst}
use Rattle.std.proofs.lemmas.Bool.{cases_Bool, both_ways}
use Rattle.std.proofs.lemmas.List.{append_cancel_right}
use Rattle.std.proofs.lemmas.List.Elements.{All-contains, Contains-append_left}
use Rattle.std.specs.List.{Contains}
use Rattle.bs_words.specs.declared.types.Comp.{Comp}
use Rattle.bs_words.specs.declared.types.Comp.TheVariants as comp
use Rattle.bs_words.proofs.Lists.{none_in}
use Rattle.cse_copy_rules.specs.Propagated.{move_instruction, IsCopyOf, ReadFor, source, itself, instr_with_sources, alone_with_sources, with_sources, IsPropagatedBefore}
use Rattle.mach_ir.specs.Acts.{Landing}
use Rattle.mach_ir.specs.Formed.{MarkHasForm, exit_form, if_form, else_form, switch_form, case_form, catch_form, with_form, try_form, leave_form, handler_form, end_form, comps, IsFormedInstruction, formed_op, formed_mark}
use Rattle.mach_ir.specs.Meaning.{is_handler_of, after_label, from_handler, landing_code}
use Rattle.mach_ir.specs.Placed.{is_straight}
use Rattle.mach_ir.specs.Walks.{StandsAsInstr}
use Rattle.mach_ir.specs.declared.reg.Reg.{Reg}
use Rattle.mach_ir.specs.declared.mach.Mark.{Mark}
use Rattle.mach_ir.specs.declared.mach.MachOp.{MachOp}
use Rattle.mach_ir.specs.declared.mach.MachOp.TheVariants as mach
use Rattle.mach_ir.specs.declared.mach.Instr.{Instr}
use Rattle.mach_ir.specs.declared.mach.Mach.{Mach}
use Rattle.mach_laws.specs.Expand.{Ending, expand}
use Rattle.cse_repeat_rules.specs.Repeated.{allocates, EndsHeldValue}
use Rattle.cse_repeat_rules.proofs.OneForOne.{in_append, Before, before_of, Made, made_past}
use Rattle.cse_repeat_rules.proofs.Runs as run
use Rattle.cse_repeat_rules.proofs.Runs.{straight_front, Last, it_is, in_run, last_of, none_before, IsWithin}

-- ---- operations

straight_no_handler : (g : MachOp) → is_straight g ≡ true → (l : ℕ) → is_handler_of l g ≡ false
straight_no_handler (mach.Op g) e l = refl
straight_no_handler (mach.Mark g) e l = absurd (both_ways false refl e)

-- the mark of a handler reads nothing
mark_reads : {f : Mark} {cs ds : List Comp} → MarkHasForm f cs ds → (l : ℕ) → is_handler_of l (mach.Mark f) ≡ true → cs ≡ []
mark_reads exit_form l e = refl
mark_reads (if_form t) l e = absurd (both_ways false refl e)
mark_reads else_form l e = refl
mark_reads switch_form l e = absurd (both_ways false refl e)
mark_reads case_form l e = refl
mark_reads catch_form l e = refl
mark_reads with_form l e = refl
mark_reads try_form l e = refl
mark_reads leave_form l e = refl
mark_reads handler_form l e = refl
mark_reads end_form l e = refl

has_none : {r : Reg} (rs : List Reg) → comps rs ≡ [] → Contains rs r → ⊥
has_none {r} [] e c = none_in r c
has_none (k ∷ rs) e c = never k.comp (comps rs) e
  where
    never : (x : Comp) (xs : List Comp) → x ∷ xs ≡ [] → ⊥
    never x xs e = cc

pub reads_no_handler : {i : Instr} {r : Reg} → IsFormedInstruction i → Contains i.args r → (l : ℕ) → is_handler_of l i.op ≡ false
reads_no_handler (formed_op h) c l = refl
reads_no_handler (formed_mark {f = f} {args = args} h) c l =
    ⊎_elim (λ e. absurd (has_none args (mark_reads h l e) c)) (λ e. e) (cases_Bool (is_handler_of l (mach.Mark f)))

-- ---- one instruction more

-- what is a copy after an instruction was one before it, or it made it one
pub data Since (made : List Instr) (x : Instr) (c s : Reg) : Type 0 where
  just_there : x ≡ move_instruction s c → Since made x c s
  stood : IsCopyOf made c s → is_straight x.op ≡ true → ((w : Reg) → Contains x.results w → w.number ≢ c.number) →
      ((w : Reg) → Contains x.results w → EndsHeldValue s w → ⊥) → (s.comp ≡ comp.Addr → allocates x.op ≡ false) → Since made x c s

-- a copy was one earlier in its run too
restricted : {made : List Instr} (c s : Reg) (w : IsCopyOf made c s) (ys zs : List Instr) → w.run ≡ ys ++ zs →
    IsCopyOf (w.others ++ move_instruction s c ∷ ys) c s
restricted c s w ys zs e =
    record {
      others = w.others;
      run = ys;
      within = refl;
      straight = straight_front w.run ys zs e w.straight;
      same_comp = w.same_comp;
      source_open = w.source_open;
      copy_open = w.copy_open;
      stays = λ i d. w.stays i (to_run i d);
      stands = λ i d. w.stands i (to_run i d);
      kept = λ e i d. w.kept e i (to_run i d);
    }
  where
    to_run : (i : Instr) → Contains ys i → Contains w.run i
    to_run i d = subst (λ xs. Contains xs i) (sym e) (Contains-append_left ys zs i d)

pub since : (made : List Instr) (x : Instr) (c s : Reg) → IsCopyOf (made ++ x ∷ []) c s → Since made x c s
since made x c s w = by (last_of made x w.others (move_instruction s c) w.run w.within)
  where
    by : Last made x w.others (move_instruction s c) w.run → Since made x c s
    by (it_is e) = just_there e
    by (in_run ys e h) =
        stood
        (subst (λ xs. IsCopyOf xs c s) (sym h) (restricted c s w ys (x ∷ []) e))
        (All-contains (λ (i : Instr). is_straight i.op ≡ true) w.run x w.straight x_in)
        (λ v d. w.stays x x_in v d)
        (λ v d. w.stands x x_in v d)
        (λ e. w.kept e x x_in)
      where
        x_in : Contains w.run x
        x_in = subst (λ zs. Contains zs x) (sym e) (in_append ys x [])

-- this code begins, and not with the mark of a handler, to which a raise comes
pub data Begins : List Instr → Type 0 where
  begins : {i : Instr} {next : List Instr} → ((l : ℕ) → is_handler_of l i.op ≡ false) → Begins (i ∷ next)

begins_with : {i : Instr} {next : List Instr} → Begins (i ∷ next) → (l : ℕ) → is_handler_of l i.op ≡ false
begins_with (begins h) = h

not_nothing : Begins [] → ⊥
not_nothing s = elim s [ ]

module _ (m : Mach) (plan : ℕ → Reg → Reg) where
  abbrev pub q : Mach
  q = record m { code = with_sources plan m.code }

  abbrev pub f : ℕ → Instr → List Instr
  f = alone_with_sources plan

  -- ---- what stands

  -- One register is a copy of another in the second where this code of the first is left.
  pub record Standing (rest : List Instr) (c s : Reg) : Type 0 where
    pub made : List Instr
    pub whole : q.code ≡ made ++ expand f rest
    pub copies : IsCopyOf made c s
    pub starts : Begins rest

  pub data Earlier (i : Instr) (next : List Instr) (c s : Reg) : Type 0 where
    just_now : instr_with_sources plan (length next) i ≡ move_instruction s c → Earlier i next c s
    earlier : Standing (i ∷ next) c s → is_straight i.op ≡ true → ((w : Reg) → Contains i.results w → w.number ≢ c.number) →
        ((w : Reg) → Contains i.results w → EndsHeldValue s w → ⊥) → (s.comp ≡ comp.Addr → allocates i.op ≡ false) → Earlier i next c s

  -- what stands after an instruction
  pub earlier_of : {i : Instr} {next : List Instr} → Ending (i ∷ next) m.code → (c s : Reg) → Standing next c s → Earlier i next c s
  earlier_of {i} {next} ending c s w = of_since (since b.made x c s (subst (λ made. IsCopyOf made c s) past.1 w.copies))
    where
      x : Instr
      x = instr_with_sources plan (length next) i

      past : (b : Made (instr_with_sources plan) (i ∷ next) m.code) × (w.made ≡ b.made ++ x ∷ [])
      past = made_past (instr_with_sources plan) w.made ending w.whole

      b : Made (instr_with_sources plan) (i ∷ next) m.code
      b = past.0

      of_since : Since b.made x c s → Earlier i next c s
      of_since (just_there e) = just_now e
      of_since (stood v st apart ends kept) =
          earlier (record { made = b.made; whole = b.whole; copies = v; starts = begins (straight_no_handler i.op st) }) st
          apart ends kept

  -- nothing stands after what ends a straight run
  pub not_past : {i : Instr} {next : List Instr} → Ending (i ∷ next) m.code → is_straight i.op ≡ false → (c s : Reg) →
      Standing next c s → ⊥
  not_past {i} {next} ending e c s w = by (earlier_of ending c s w)
    where
      by : Earlier i next c s → ⊥
      by (just_now h) = both_ways (is_straight i.op) e (ap (λ (x : Instr). is_straight x.op) h)
      by (earlier v st apart ends kept) = both_ways (is_straight i.op) e st

  pub not_at_entry : (c s : Reg) → Standing m.code c s → ⊥
  not_at_entry c s w =
      let v : IsCopyOf [] c s = subst (λ made. IsCopyOf made c s) (append_cancel_right w.made [] q.code (sym w.whole)) w.copies in
      none_before v.others (move_instruction s c) v.run v.within

  within : (c s : Reg) → IsWithin m (λ rest. Standing rest c s)
  within c s =
      record {
        nothing = λ w. not_nothing w.starts;
        past = λ i next ending e w. not_past ending e c s w;
        handler = λ l i next e w. both_ways (is_handler_of l i.op) (begins_with w.starts l) e;
      }

  pub not_at_label : (l : ℕ) (c s : Reg) → Standing (after_label l m.code) c s → ⊥
  not_at_label l c s w = run.not_at_label m (λ rest. Standing rest c s) (within c s) l w

  pub not_at_handler : (l : ℕ) (c s : Reg) → Standing (from_handler l m.code) c s → ⊥
  not_at_handler l c s w = run.not_at_handler m (λ rest. Standing rest c s) (within c s) l w

  pub not_landed : (to : Landing) (from : List Instr) (c s : Reg) → Standing (landing_code m.code from to) c s → ⊥
  not_landed to from c s w = run.not_landed m (λ rest. Standing rest c s) (within c s) to from w

  -- ---- what is read

  pub data ReadAt (rest : List Instr) (r : Reg) : Reg → Type 0 where
    from_source : {s : Reg} → Standing rest r s → ReadAt rest r s
    as_it_is : ReadAt rest r r

  module _ (reads : (i : Instr) (next made : List Instr) → IsPropagatedBefore plan m i next made → (r : Reg) → Contains i.args r →
      ReadFor made r (plan (length next) r)) where
    pub read_at : (i : Instr) (next : List Instr) → StandsAsInstr i next m.code → IsFormedInstruction i → (r : Reg) → Contains i.args r →
        ReadAt (i ∷ next) r (plan (length next) r)
    read_at i next st formed r c =
        by (reads i next b.made (record { before = b.before; whole = b.whole; made_so = b.made_so }) r c)
      where
        b : Before (instr_with_sources plan) i next m.code
        b = before_of (instr_with_sources plan) st

        by : {s : Reg} → ReadFor b.made r s → ReadAt (i ∷ next) r s
        by (source w) =
            from_source (record { made = b.made; whole = b.made_so; copies = w; starts = begins (reads_no_handler formed c) })
        by (itself h) = as_it_is
