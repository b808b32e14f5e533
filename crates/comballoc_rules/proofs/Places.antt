-- The code that a scan makes, as the code in which each instruction has been replaced: by itself, by an allocation with what
-- goes to it, or by nothing.
use Rattle.std.proofs.Common.{◌≡◌, ℕ, suc, ◌-◌, ◌<◌, Bool, true, false, cond, ⊎_elim, List, [], ◌∷◌, ◌++◌, length, drop, Option, None, refl, sym, ap, ◌∙◌, arith}
use Rattle.std.specs.Prelude.{nat_eq}
use Rattle.std.proofs.lemmas.Bool.{true≢false, cases_Bool, eq-eqb, eqb-true}
use Rattle.comballoc_rules.specs.Combined.{joins, open_past, Scanned, allocation, allocation_scanned, scanned_at, scan_for_combining, combined}
use Rattle.mach_ir.specs.Meaning.{has_label, is_handler_of}
use Rattle.mach_ir.specs.declared.blocks.NewBlock.{NewBlock}
use Rattle.mach_ir.specs.declared.op.Access.TheVariants as access
use Rattle.mach_ir.specs.declared.op.Op.TheVariants as op
use Rattle.mach_ir.specs.declared.reg.Reg.{Reg}
use Rattle.mach_ir.specs.declared.mach.MachOp.{MachOp}
use Rattle.mach_ir.specs.declared.mach.MachOp.TheVariants as mach
use Rattle.mach_ir.specs.declared.mach.Instr.{Instr}
use Rattle.mach_ir.specs.declared.mach.Mach.{Mach}
use Rattle.mach_laws.specs.Expand.{expand, NoLabel, no_label, not_labelled, NoHandler, no_handler, not_handled, bounds_try, NoBound, no_bound, not_bound, KeepsMarks, Ending, all, more}
use Rattle.mach_laws.proofs.Places.{ending_next, ending_short}
use Rattle.mach_laws.proofs.Walking.{drop_ending}

-- what is open at the place from which so many instructions are left
abbrev pub open_at : ℕ → Option ℕ → List Instr → Option ℕ
open_at n o [] = o
open_at n o (i ∷ is) = cond (nat_eq n (suc (length is))) o (open_at n (open_past o i.op) is)

-- what stands for an instruction of this operation
abbrev pub piece : Option ℕ → Instr → MachOp → Scanned → List Instr
piece o i (mach.Op (op.Access (access.Alloc blocks))) after =
    cond (joins o blocks) [] (allocation (blocks ++ after.blocks) (i.results ++ after.results) ∷ [])
piece o i _ after = i ∷ []

pub eq_less : (a b : ℕ) → a < b → nat_eq a b ≡ false
eq_less a b lt =
    ⊎_elim (λ e. let same = eqb-true a b e in absurd (omega (arith, same, lt))) (λ e. e) (cases_Bool (nat_eq a b))

here_at : (o : Option ℕ) (is : List Instr) → open_at (length is) o is ≡ o
here_at o [] = refl
here_at o (i ∷ is) =
    ap (λ b. cond b o (open_at (length (i ∷ is)) (open_past o i.op) is)) (eq-eqb (suc (length is)) (suc (length is)) refl)

later_at : (n : ℕ) (o : Option ℕ) (i : Instr) (is : List Instr) → n < suc (length is) →
    open_at n o (i ∷ is) ≡ open_at n (open_past o i.op) is
later_at n o i is lt =
    ap (λ b. cond b o (open_at n (open_past o i.op) is)) (eq_less n (suc (length is)) lt)

-- what is open after an instruction, by what is open before it
past_at : {i : Instr} {next code : List Instr} → Ending (i ∷ next) code → (o : Option ℕ) →
    open_at (length next) o code ≡ open_past (open_at (suc (length next)) o code) i.op
past_at {i} {next} all o =
    later_at (length next) o i next (omega arith) ∙ here_at (open_past o i.op) next
    ∙ ap (λ x. open_past x i.op) (sym (here_at o (i ∷ next)))
past_at {i} {next} (more {i = j} {code = code} e) o =
    let le = ending_short e in
    later_at (length next) o j code (omega (arith, le)) ∙ past_at e (open_past o j.op)
    ∙ ap (λ x. open_past x i.op) (sym (later_at (suc (length next)) o j code (omega (arith, le))))

-- the code of an instruction, before that of what is after it
laid_before : (o : Option ℕ) (i : Instr) (f : MachOp) (after : Scanned) →
    piece o i f after ++ after.code ≡ (scanned_at o i f after).code
laid_before o i (mach.Op (op.Pure f)) after = refl
laid_before o i (mach.Op (op.Access (access.Load k offset))) after = refl
laid_before o i (mach.Op (op.Access (access.Store k offset))) after = refl
laid_before o i (mach.Op (op.Access (access.Alloc blocks))) after = by (joins o blocks)
  where
    by : (b : Bool) →
        cond b [] (allocation (blocks ++ after.blocks) (i.results ++ after.results) ∷ []) ++ after.code
        ≡ (allocation_scanned b blocks i.results after).code
    by true = refl
    by false = refl
laid_before o i (mach.Op (op.Calling f)) after = refl
laid_before o i (mach.Op (op.Leaving f)) after = refl
laid_before o i (mach.Mark f) after = refl

module _ (code : List Instr) where
  -- what a scan of the whole code makes of the code from this place on
  abbrev pub scanned : List Instr → Scanned
  scanned rest = scan_for_combining (open_at (length rest) None code) rest

  -- what stands for an instruction with so many after it
  abbrev pub merged : ℕ → Instr → List Instr
  merged n i = piece (open_at (suc n) None code) i i.op (scanned (drop (length code - n) code))

  pub scanned_next : {i : Instr} {next : List Instr} → Ending (i ∷ next) code →
      scan_for_combining (open_past (open_at (suc (length next)) None code) i.op) next ≡ scanned next
  scanned_next {next = next} e = ap (λ o. scan_for_combining o next) (sym (past_at e None))

  -- what a scan makes from before an instruction on
  pub scanned_is : {i : Instr} {next : List Instr} → Ending (i ∷ next) code →
      scanned (i ∷ next) ≡ scanned_at (open_at (suc (length next)) None code) i i.op (scanned next)
  scanned_is {i} {next} e = ap (scanned_at (open_at (suc (length next)) None code) i i.op) (scanned_next e)

  pub merged_is : {i : Instr} {next : List Instr} → Ending (i ∷ next) code →
      merged (length next) i ≡ piece (open_at (suc (length next)) None code) i i.op (scanned next)
  merged_is {i} {next} e =
      ap (λ rest. piece (open_at (suc (length next)) None code) i i.op (scanned rest)) (drop_ending (ending_next e))

  pub expanded : (rest : List Instr) → Ending rest code → expand merged rest ≡ (scanned rest).code
  expanded [] e = refl
  expanded (i ∷ next) e =
      ap (λ xs. xs ++ expand merged next) (merged_is e)
      ∙ ap (λ xs. piece (open_at (suc (length next)) None code) i i.op (scanned next) ++ xs) (expanded next (ending_next e))
      ∙ laid_before (open_at (suc (length next)) None code) i i.op (scanned next)
      ∙ ap (λ (s : Scanned). s.code) (sym (scanned_is e))

  pub at_start : scanned code ≡ scan_for_combining None code
  at_start = ap (λ o. scan_for_combining o code) (here_at None code)

  -- ---- marks

  marks : (n : ℕ) (i : Instr) (f : MachOp) → i.op ≡ f → (l : ℕ) → has_label l f ≡ true → merged n i ≡ i ∷ []
  marks n i (mach.Op f) e l h = absurd (true≢false (sym h))
  marks n i (mach.Mark f) e l h = ap (λ f. piece (open_at (suc n) None code) i f (scanned (drop (length code - n) code))) e

  handlers : (n : ℕ) (i : Instr) (f : MachOp) → i.op ≡ f → (l : ℕ) → is_handler_of l f ≡ true → merged n i ≡ i ∷ []
  handlers n i (mach.Op f) e l h = absurd (true≢false (sym h))
  handlers n i (mach.Mark f) e l h = ap (λ f. piece (open_at (suc n) None code) i f (scanned (drop (length code - n) code))) e

  bounds : (n : ℕ) (i : Instr) (f : MachOp) → i.op ≡ f → bounds_try f ≡ true → merged n i ≡ i ∷ []
  bounds n i (mach.Op f) e h = absurd (true≢false (sym h))
  bounds n i (mach.Mark f) e h = ap (λ f. piece (open_at (suc n) None code) i f (scanned (drop (length code - n) code))) e

  -- what holds of an instruction, of any allocation and of nothing holds of what stands for it
  pub of_piece : (P : List Instr → Type 0) (o : Option ℕ) (i : Instr) (f : MachOp) (after : Scanned) → P (i ∷ []) → P [] →
      ((blocks : List NewBlock) (results : List Reg) → P (allocation blocks results ∷ [])) → P (piece o i f after)
  of_piece P o i (mach.Op (op.Pure f)) after one none alloc = one
  of_piece P o i (mach.Op (op.Access (access.Load k offset))) after one none alloc = one
  of_piece P o i (mach.Op (op.Access (access.Store k offset))) after one none alloc = one
  of_piece P o i (mach.Op (op.Access (access.Alloc blocks))) after one none alloc = by (joins o blocks)
    where
      by : (b : Bool) → P (cond b [] (allocation (blocks ++ after.blocks) (i.results ++ after.results) ∷ []))
      by true = none
      by false = alloc (blocks ++ after.blocks) (i.results ++ after.results)
  of_piece P o i (mach.Op (op.Calling f)) after one none alloc = one
  of_piece P o i (mach.Op (op.Leaving f)) after one none alloc = one
  of_piece P o i (mach.Mark f) after one none alloc = one

  pub keeps_marks : KeepsMarks merged
  keeps_marks =
      record {
        mark = λ l n i e. (i, marks n i i.op refl l e, refl);
        none = λ l n i e.
            of_piece (NoLabel l) (open_at (suc n) None code) i i.op (scanned (drop (length code - n) code))
            (not_labelled e no_label) no_label (λ blocks results. not_labelled refl no_label);
        handler = λ l n i e. (i, [], handlers n i i.op refl l e, refl);
        no_other = λ l n i e.
            of_piece (NoHandler l) (open_at (suc n) None code) i i.op (scanned (drop (length code - n) code))
            (not_handled e no_handler) no_handler (λ blocks results. not_handled refl no_handler);
        bound = λ n i e. (i, bounds n i i.op refl e, refl);
        unbound = λ n i e.
            of_piece NoBound (open_at (suc n) None code) i i.op (scanned (drop (length code - n) code))
            (not_bound e no_bound) no_bound (λ blocks results. not_bound refl no_bound);
      }

-- the code of the result
pub is_code : (m : Mach) → (combined m).code ≡ expand (merged m.code) m.code
is_code m =
    sym (expanded m.code m.code all ∙ ap (λ (s : Scanned). s.code) (at_start m.code))
