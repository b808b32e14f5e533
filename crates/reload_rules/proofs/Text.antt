-- The text of a function with its reloads and spills: labels, handlers and tries are where they were.
use Rattle.std.proofs.Common.{◌≡◌, ℕ, suc, Bool, true, false, cond, List, [], ◌∷◌, ◌++◌, refl, ap, ◌∙◌, subst}
use Rattle.std.proofs.lemmas.Bool.{false≢true}
use Rattle.mach_ir.specs.Meaning.{has_label, is_handler_of}
use Rattle.mach_ir.specs.declared.op.CopyKind.{CopyKind}
use Rattle.mach_ir.specs.declared.op.CopyKind.TheVariants as copy
use Rattle.mach_ir.specs.declared.reg.Reg.{Reg}
use Rattle.mach_ir.specs.declared.mach.Mark.TheVariants as mark
use Rattle.mach_ir.specs.declared.mach.MachOp.{MachOp}
use Rattle.mach_ir.specs.declared.mach.MachOp.TheVariants as mach
use Rattle.mach_ir.specs.declared.mach.Instr.{Instr}
use Rattle.mach_laws.specs.Expand.{KeepsMarks, NoLabel, no_label, not_labelled, NoHandler, no_handler, not_handled, bounds_try, NoBound, no_bound, not_bound}
use Rattle.spill_rules.specs.Spilled.{copy_instruction}
use Rattle.reload_rules.specs.Reloaded.{reads_registers, writes_registers, is_renewed, fresh_stand_in, renewed, reloads, spills, results_from, renewed_instr, reloaded_instr}

-- ---- what holds of copies before other code

module _ (Q : List Instr → Type 0) (ys : List Instr) (base : Q ys)
    (more : (kind : CopyKind) (from to : Reg) (zs : List Instr) → Q zs → Q (copy_instruction kind from to ∷ zs)) where
  pub before_reloads : (b : Bool) (n : ℕ) (rs : List Reg) → Q (reloads b n rs ++ ys)
  before_reloads b n [] = base
  before_reloads b n (r ∷ rs) =
      by (is_renewed b r) (before_reloads b (suc n) rs) (before_reloads b n rs)
    where
      by : (t : Bool) → Q (reloads b (suc n) rs ++ ys) → Q (reloads b n rs ++ ys) →
          Q (cond t (copy_instruction copy.Reload r (fresh_stand_in n r) ∷ reloads b (suc n) rs) (reloads b n rs) ++ ys)
      by true one two = more copy.Reload r (fresh_stand_in n r) (reloads b (suc n) rs ++ ys) one
      by false one two = two

  pub before_spills : (b : Bool) (n : ℕ) (rs : List Reg) → Q (spills b n rs ++ ys)
  before_spills b n [] = base
  before_spills b n (r ∷ rs) =
      by (is_renewed b r) (before_spills b (suc n) rs) (before_spills b n rs)
    where
      by : (t : Bool) → Q (spills b (suc n) rs ++ ys) → Q (spills b n rs ++ ys) →
          Q (cond t (copy_instruction copy.Spill (fresh_stand_in n r) r ∷ spills b (suc n) rs) (spills b n rs) ++ ys)
      by true one two = more copy.Spill (fresh_stand_in n r) r (spills b (suc n) rs ++ ys) one
      by false one two = two

appended : (xs : List Instr) → xs ++ [] ≡ xs
appended [] = refl
appended (x ∷ xs) = ap (λ ys. x ∷ ys) (appended xs)

-- ---- where nothing is renewed

pub no_reloads : (n : ℕ) (rs : List Reg) → reloads false n rs ≡ []
no_reloads n [] = refl
no_reloads n (r ∷ rs) = no_reloads n rs

pub no_spills : (n : ℕ) (rs : List Reg) → spills false n rs ≡ []
no_spills n [] = refl
no_spills n (r ∷ rs) = no_spills n rs

pub none_renewed : (n : ℕ) (rs : List Reg) → renewed false n rs ≡ rs
none_renewed n [] = refl
none_renewed n (r ∷ rs) = ap (λ xs. r ∷ xs) (none_renewed n rs)

-- ---- marks

abbrev IsBare : MachOp → Type 0
IsBare f = (reads_registers f ≡ false) × (writes_registers f ≡ false)

label_bare : (l : ℕ) (f : MachOp) → has_label l f ≡ true → IsBare f
label_bare l (mach.Op f) e = absurd (false≢true e)
label_bare l (mach.Mark (mark.Exit k n)) e = absurd (false≢true e)
label_bare l (mach.Mark (mark.If t k)) e = absurd (false≢true e)
label_bare l (mach.Mark (mark.Else k end)) e = (refl, refl)
label_bare l (mach.Mark (mark.Switch ls)) e = absurd (false≢true e)
label_bare l (mach.Mark (mark.Case ns k end)) e = (refl, refl)
label_bare l (mach.Mark mark.Catch) e = absurd (false≢true e)
label_bare l (mach.Mark (mark.With k end)) e = (refl, refl)
label_bare l (mach.Mark (mark.Try k)) e = absurd (false≢true e)
label_bare l (mach.Mark (mark.Leave k end)) e = absurd (false≢true e)
label_bare l (mach.Mark (mark.Handler k)) e = absurd (false≢true e)
label_bare l (mach.Mark (mark.End k)) e = (refl, refl)

bound_bare : (f : MachOp) → bounds_try f ≡ true → IsBare f
bound_bare (mach.Op f) e = absurd (false≢true e)
bound_bare (mach.Mark (mark.Exit k n)) e = absurd (false≢true e)
bound_bare (mach.Mark (mark.If t k)) e = absurd (false≢true e)
bound_bare (mach.Mark (mark.Else k end)) e = absurd (false≢true e)
bound_bare (mach.Mark (mark.Switch ls)) e = absurd (false≢true e)
bound_bare (mach.Mark (mark.Case ns k end)) e = absurd (false≢true e)
bound_bare (mach.Mark mark.Catch) e = absurd (false≢true e)
bound_bare (mach.Mark (mark.With k end)) e = absurd (false≢true e)
bound_bare (mach.Mark (mark.Try k)) e = (refl, refl)
bound_bare (mach.Mark (mark.Leave k end)) e = (refl, refl)
bound_bare (mach.Mark (mark.Handler k)) e = absurd (false≢true e)
bound_bare (mach.Mark (mark.End k)) e = absurd (false≢true e)

handler_reads_none : (l : ℕ) (f : MachOp) → is_handler_of l f ≡ true → reads_registers f ≡ false
handler_reads_none l (mach.Op f) e = absurd (false≢true e)
handler_reads_none l (mach.Mark (mark.Exit k n)) e = refl
handler_reads_none l (mach.Mark (mark.If t k)) e = absurd (false≢true e)
handler_reads_none l (mach.Mark (mark.Else k end)) e = refl
handler_reads_none l (mach.Mark (mark.Switch ls)) e = absurd (false≢true e)
handler_reads_none l (mach.Mark (mark.Case ns k end)) e = refl
handler_reads_none l (mach.Mark mark.Catch) e = refl
handler_reads_none l (mach.Mark (mark.With k end)) e = refl
handler_reads_none l (mach.Mark (mark.Try k)) e = refl
handler_reads_none l (mach.Mark (mark.Leave k end)) e = refl
handler_reads_none l (mach.Mark (mark.Handler k)) e = refl
handler_reads_none l (mach.Mark (mark.End k)) e = refl

module _ (s : ℕ → ℕ) where
  abbrev pub laid_instr : ℕ → Instr → List Instr
  laid_instr k i = reloaded_instr (s k) i

  abbrev spilled_after : ℕ → Instr → List Instr
  spilled_after k i = spills (writes_registers i.op) (results_from (s k) i) i.results

  reads_none : (k : ℕ) (i : Instr) → reads_registers i.op ≡ false →
      laid_instr k i ≡ renewed_instr (s k) i ∷ spilled_after k i
  reads_none k i e =
      ap (λ b. reloads b (s k) i.args ++ renewed_instr (s k) i ∷ spilled_after k i) e
      ∙ ap (λ xs. xs ++ renewed_instr (s k) i ∷ spilled_after k i) (no_reloads (s k) i.args)

  stands_alone : (k : ℕ) (i : Instr) → IsBare i.op → laid_instr k i ≡ renewed_instr (s k) i ∷ []
  stands_alone k i e =
      reads_none k i e.0
      ∙ ap (λ b. renewed_instr (s k) i ∷ spills b (results_from (s k) i) i.results) e.1
      ∙ ap (λ xs. renewed_instr (s k) i ∷ xs) (no_spills (results_from (s k) i) i.results)

  pub keeps_marks : KeepsMarks laid_instr
  keeps_marks =
      record {
        mark = λ l n i e. (renewed_instr (s n) i, stands_alone n i (label_bare l i.op e), refl);
        none = λ l n i e.
            before_reloads (NoLabel l) (renewed_instr (s n) i ∷ spilled_after n i)
            (not_labelled e
            (subst (NoLabel l) (appended (spilled_after n i))
            (before_spills (NoLabel l) [] no_label (λ kind from to zs h. not_labelled refl h) (writes_registers i.op)
            (results_from (s n) i) i.results)))
            (λ kind from to zs h. not_labelled refl h) (reads_registers i.op) (s n) i.args;
        handler = λ l n i e.
            (renewed_instr (s n) i, spilled_after n i, reads_none n i (handler_reads_none l i.op e), refl);
        no_other = λ l n i e.
            before_reloads (NoHandler l) (renewed_instr (s n) i ∷ spilled_after n i)
            (not_handled e
            (subst (NoHandler l) (appended (spilled_after n i))
            (before_spills (NoHandler l) [] no_handler (λ kind from to zs h. not_handled refl h) (writes_registers i.op)
            (results_from (s n) i) i.results)))
            (λ kind from to zs h. not_handled refl h) (reads_registers i.op) (s n) i.args;
        bound = λ n i e. (renewed_instr (s n) i, stands_alone n i (bound_bare i.op e), refl);
        unbound = λ n i e.
            before_reloads NoBound (renewed_instr (s n) i ∷ spilled_after n i)
            (not_bound e
            (subst NoBound (appended (spilled_after n i))
            (before_spills NoBound [] no_bound (λ kind from to zs h. not_bound refl h) (writes_registers i.op)
            (results_from (s n) i) i.results)))
            (λ kind from to zs h. not_bound refl h) (reads_registers i.op) (s n) i.args;
      }
