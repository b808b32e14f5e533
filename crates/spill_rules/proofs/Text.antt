-- The text of a function with its spills and reloads: labels, handlers and tries are where they were.
use Rattle.std.proofs.Common.{◌≡◌, ℕ, Bool, true, false, cond, ◌⊎◌, inl, inr, ⊎_elim, List, [], ◌∷◌, ◌++◌, refl, sym, ap, ◌∙◌}
use Rattle.std.specs.List.{Contains}
use Rattle.bs_words.specs.declared.types.Comp.{Comp}
use Rattle.bs_words.proofs.Lists.{none_in}
use Rattle.mach_ir.specs.Formed.{comps, MarkHasForm, exit_form, if_form, else_form, switch_form, case_form, catch_form, with_form, try_form, leave_form, handler_form, end_form, IsFormedInstruction, formed_op, formed_mark}
use Rattle.mach_ir.specs.Forms as form
use Rattle.mach_ir.specs.Keeps.{NamesSymbol, NamesExternal}
use Rattle.mach_ir.specs.Meaning.{has_label, is_handler_of}
use Rattle.mach_ir.specs.declared.op.CopyKind.{CopyKind}
use Rattle.mach_ir.specs.declared.reg.Reg.{Reg}
use Rattle.mach_ir.specs.declared.mach.Mark.{Mark}
use Rattle.mach_ir.specs.declared.mach.Mark.TheVariants as mark
use Rattle.mach_ir.specs.declared.mach.MachOp.{MachOp}
use Rattle.mach_ir.specs.declared.mach.MachOp.TheVariants as mach
use Rattle.mach_ir.specs.declared.mach.Instr.{Instr}
use Rattle.mach_laws.specs.Expand.{KeepsMarks, NoLabel, no_label, not_labelled, NoHandler, no_handler, not_handled, bounds_try, NoBound, no_bound, not_bound}
use Rattle.mach_laws.proofs.Instructions.{no_comps}
use Rattle.spill_rules.specs.Spilled.{SpillPlan, copy_instruction, reload, spill, reloads_of, spills_of, has_operands, has_results, operand_registers, written_results, spilled_instr}

module _ (plan : SpillPlan) where
  -- ---- no copy is a mark

  reloads_unlabelled : (l k : ℕ) (rs : List Reg) (ys : List Instr) → NoLabel l ys → NoLabel l (reloads_of plan k rs ++ ys)
  reloads_unlabelled l k [] ys h = h
  reloads_unlabelled l k (r ∷ rs) ys h = by (plan.reloads k r.number) (reloads_unlabelled l k rs ys h)
    where
      by : (b : Bool) → NoLabel l (reloads_of plan k rs ++ ys) →
          NoLabel l (cond b (reload plan r ∷ reloads_of plan k rs) (reloads_of plan k rs) ++ ys)
      by true h = not_labelled refl h
      by false h = h

  spills_unlabelled : (l k : ℕ) (rs : List Reg) → NoLabel l (spills_of plan k rs)
  spills_unlabelled l k [] = no_label
  spills_unlabelled l k (r ∷ rs) = by (plan.spills k r.number) (spills_unlabelled l k rs)
    where
      by : (b : Bool) → NoLabel l (spills_of plan k rs) →
          NoLabel l (cond b (spill plan r ∷ spills_of plan k rs) (spills_of plan k rs))
      by true h = not_labelled refl h
      by false h = h

  reloads_unhandled : (l k : ℕ) (rs : List Reg) (ys : List Instr) → NoHandler l ys → NoHandler l (reloads_of plan k rs ++ ys)
  reloads_unhandled l k [] ys h = h
  reloads_unhandled l k (r ∷ rs) ys h = by (plan.reloads k r.number) (reloads_unhandled l k rs ys h)
    where
      by : (b : Bool) → NoHandler l (reloads_of plan k rs ++ ys) →
          NoHandler l (cond b (reload plan r ∷ reloads_of plan k rs) (reloads_of plan k rs) ++ ys)
      by true h = not_handled refl h
      by false h = h

  spills_unhandled : (l k : ℕ) (rs : List Reg) → NoHandler l (spills_of plan k rs)
  spills_unhandled l k [] = no_handler
  spills_unhandled l k (r ∷ rs) = by (plan.spills k r.number) (spills_unhandled l k rs)
    where
      by : (b : Bool) → NoHandler l (spills_of plan k rs) →
          NoHandler l (cond b (spill plan r ∷ spills_of plan k rs) (spills_of plan k rs))
      by true h = not_handled refl h
      by false h = h

  reloads_unbound : (k : ℕ) (rs : List Reg) (ys : List Instr) → NoBound ys → NoBound (reloads_of plan k rs ++ ys)
  reloads_unbound k [] ys h = h
  reloads_unbound k (r ∷ rs) ys h = by (plan.reloads k r.number) (reloads_unbound k rs ys h)
    where
      by : (b : Bool) → NoBound (reloads_of plan k rs ++ ys) →
          NoBound (cond b (reload plan r ∷ reloads_of plan k rs) (reloads_of plan k rs) ++ ys)
      by true h = not_bound refl h
      by false h = h

  spills_unbound : (k : ℕ) (rs : List Reg) → NoBound (spills_of plan k rs)
  spills_unbound k [] = no_bound
  spills_unbound k (r ∷ rs) = by (plan.spills k r.number) (spills_unbound k rs)
    where
      by : (b : Bool) → NoBound (spills_of plan k rs) →
          NoBound (cond b (spill plan r ∷ spills_of plan k rs) (spills_of plan k rs))
      by true h = not_bound refl h
      by false h = h

  -- ---- marks that are alone

  not_true : false ≡ true → ⊥
  not_true e = cc

  -- it has no operands and no results
  abbrev IsBare : Instr → Type 0
  IsBare i = (has_operands i.op ≡ false) × (has_results i.op ≡ false)

  label_bare : (l : ℕ) (f : MachOp) → has_label l f ≡ true → (has_operands f ≡ false) × (has_results f ≡ false)
  label_bare l (mach.Op f) e = absurd (not_true e)
  label_bare l (mach.Mark (mark.Exit k n)) e = absurd (not_true e)
  label_bare l (mach.Mark (mark.If t k)) e = absurd (not_true e)
  label_bare l (mach.Mark (mark.Else k end)) e = (refl, refl)
  label_bare l (mach.Mark (mark.Switch ls)) e = absurd (not_true e)
  label_bare l (mach.Mark (mark.Case ns k end)) e = (refl, refl)
  label_bare l (mach.Mark mark.Catch) e = absurd (not_true e)
  label_bare l (mach.Mark (mark.With k end)) e = (refl, refl)
  label_bare l (mach.Mark (mark.Try k)) e = absurd (not_true e)
  label_bare l (mach.Mark (mark.Leave k end)) e = absurd (not_true e)
  label_bare l (mach.Mark (mark.Handler k)) e = absurd (not_true e)
  label_bare l (mach.Mark (mark.End k)) e = (refl, refl)

  bound_bare : (f : MachOp) → bounds_try f ≡ true → (has_operands f ≡ false) × (has_results f ≡ false)
  bound_bare (mach.Op f) e = absurd (not_true e)
  bound_bare (mach.Mark (mark.Exit k n)) e = absurd (not_true e)
  bound_bare (mach.Mark (mark.If t k)) e = absurd (not_true e)
  bound_bare (mach.Mark (mark.Else k end)) e = absurd (not_true e)
  bound_bare (mach.Mark (mark.Switch ls)) e = absurd (not_true e)
  bound_bare (mach.Mark (mark.Case ns k end)) e = absurd (not_true e)
  bound_bare (mach.Mark mark.Catch) e = absurd (not_true e)
  bound_bare (mach.Mark (mark.With k end)) e = absurd (not_true e)
  bound_bare (mach.Mark (mark.Try k)) e = (refl, refl)
  bound_bare (mach.Mark (mark.Leave k end)) e = (refl, refl)
  bound_bare (mach.Mark (mark.Handler k)) e = absurd (not_true e)
  bound_bare (mach.Mark (mark.End k)) e = absurd (not_true e)

  handler_no_operands : (l : ℕ) (f : MachOp) → is_handler_of l f ≡ true → has_operands f ≡ false
  handler_no_operands l (mach.Op f) e = absurd (not_true e)
  handler_no_operands l (mach.Mark (mark.Exit k n)) e = refl
  handler_no_operands l (mach.Mark (mark.If t k)) e = absurd (not_true e)
  handler_no_operands l (mach.Mark (mark.Else k end)) e = refl
  handler_no_operands l (mach.Mark (mark.Switch ls)) e = absurd (not_true e)
  handler_no_operands l (mach.Mark (mark.Case ns k end)) e = refl
  handler_no_operands l (mach.Mark mark.Catch) e = refl
  handler_no_operands l (mach.Mark (mark.With k end)) e = refl
  handler_no_operands l (mach.Mark (mark.Try k)) e = refl
  handler_no_operands l (mach.Mark (mark.Leave k end)) e = refl
  handler_no_operands l (mach.Mark (mark.Handler k)) e = refl
  handler_no_operands l (mach.Mark (mark.End k)) e = refl

  no_reloads : (k : ℕ) (i : Instr) → has_operands i.op ≡ false → spilled_instr plan k i ≡ i ∷ spills_of plan k (written_results i)
  no_reloads k i e =
      ap (λ b. reloads_of plan k (cond b i.args []) ++ i ∷ spills_of plan k (written_results i)) e

  stands_alone : (k : ℕ) (i : Instr) → IsBare i → spilled_instr plan k i ≡ i ∷ []
  stands_alone k i e = no_reloads k i e.0 ∙ ap (λ b. i ∷ spills_of plan k (cond b i.results [])) e.1

  pub keeps_marks : KeepsMarks (spilled_instr plan)
  keeps_marks =
      record {
        mark = λ l n i e. (i, stands_alone n i (label_bare l i.op e), refl);
        none = λ l n i e.
            reloads_unlabelled l n (operand_registers i) (i ∷ spills_of plan n (written_results i))
            (not_labelled e (spills_unlabelled l n (written_results i)));
        handler = λ l n i e.
            (i, spills_of plan n (written_results i), no_reloads n i (handler_no_operands l i.op e), refl);
        no_other = λ l n i e.
            reloads_unhandled l n (operand_registers i) (i ∷ spills_of plan n (written_results i))
            (not_handled e (spills_unhandled l n (written_results i)));
        bound = λ n i e. (i, stands_alone n i (bound_bare i.op e), refl);
        unbound = λ n i e.
            reloads_unbound n (operand_registers i) (i ∷ spills_of plan n (written_results i))
            (not_bound e (spills_unbound n (written_results i)));
      }

-- ---- what has no results

gives_or : (f : Mark) (cs ds : List Comp) → MarkHasForm f cs ds → (has_results (mach.Mark f) ≡ true) ⊎ (ds ≡ [])
gives_or f cs ds exit_form = inr refl
gives_or f cs ds (if_form h) = inr refl
gives_or f cs ds else_form = inr refl
gives_or f cs ds switch_form = inr refl
gives_or f cs ds case_form = inr refl
gives_or f cs ds catch_form = inr refl
gives_or f cs ds with_form = inr refl
gives_or f cs ds try_form = inr refl
gives_or f cs ds leave_form = inr refl
gives_or f cs ds handler_form = inl refl
gives_or f cs ds end_form = inr refl

cond_none : (b : Bool) (rs : List Reg) → rs ≡ [] → cond b rs [] ≡ rs
cond_none true rs e = refl
cond_none false rs e = sym e

pub all_results : {i : Instr} → IsFormedInstruction i → written_results i ≡ i.results
all_results (formed_op h) = refl
all_results (formed_mark {f = f} {args = args} {results = results} h) =
    ⊎_elim (λ e. ap (λ b. cond b results []) e)
    (λ e. cond_none (has_results (mach.Mark f)) results (no_comps results e)) (gives_or f (comps args) (comps results) h)

takes_or : (f : Mark) (cs ds : List Comp) → MarkHasForm f cs ds → (has_operands (mach.Mark f) ≡ true) ⊎ (cs ≡ [])
takes_or f cs ds exit_form = inr refl
takes_or f cs ds (if_form h) = inl refl
takes_or f cs ds else_form = inr refl
takes_or f cs ds switch_form = inl refl
takes_or f cs ds case_form = inr refl
takes_or f cs ds catch_form = inr refl
takes_or f cs ds with_form = inr refl
takes_or f cs ds try_form = inr refl
takes_or f cs ds leave_form = inr refl
takes_or f cs ds handler_form = inr refl
takes_or f cs ds end_form = inr refl

pub all_operands : {i : Instr} → IsFormedInstruction i → operand_registers i ≡ i.args
all_operands (formed_op h) = refl
all_operands (formed_mark {f = f} {args = args} {results = results} h) =
    ⊎_elim (λ e. ap (λ b. cond b args []) e)
    (λ e. cond_none (has_operands (mach.Mark f)) args (no_comps args e)) (takes_or f (comps args) (comps results) h)

pub operand_in : (i : Instr) (r : Reg) → Contains (operand_registers i) r → Contains i.args r
operand_in i r c = by (has_operands i.op) c
  where
    by : (b : Bool) → Contains (cond b i.args []) r → Contains i.args r
    by true c = c
    by false c = absurd (none_in r c)

pub written_in : (i : Instr) (r : Reg) → Contains (written_results i) r → Contains i.results r
written_in i r c = by (has_results i.op) c
  where
    by : (b : Bool) → Contains (cond b i.results []) r → Contains i.results r
    by true c = c
    by false c = absurd (none_in r c)

-- ---- what a copy is not

pub copy_formed : (kind : CopyKind) (from to : Reg) → IsFormedInstruction (copy_instruction kind from to)
copy_formed kind from to = formed_op form.copies

pub copy_no_mark : (kind : CopyKind) (from to : Reg) (k : Mark) → (copy_instruction kind from to).op ≡ mach.Mark k → ⊥
copy_no_mark kind from to k e = cc

pub copy_no_symbol : (name : List ℕ) (kind : CopyKind) (from to : Reg) → NamesSymbol name (copy_instruction kind from to).op → ⊥
copy_no_symbol name kind from to n = elim n [ ]

pub copy_no_external : (row : _) (kind : CopyKind) (from to : Reg) → NamesExternal row (copy_instruction kind from to).op → ⊥
copy_no_external row kind from to n = elim n [ ]
