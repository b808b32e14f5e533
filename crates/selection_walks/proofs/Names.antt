-- Names: what reads them, assigns to them and binds them.
use Rattle.std.proofs.Common.{◌≡◌, ℕ, zero, suc, ◌+◌, ◌<◌, Bool, true, false, List, [], ◌∷◌, ◌++◌, Option, Some, refl, sym, ap, ◌∙◌, subst, arith}
use Rattle.std.specs.Prelude.{is_none}
use Rattle.bs_words.specs.declared.types.Ty.{Ty}
use Rattle.bs_words.specs.declared.types.Ty.TheVariants as ty
use Rattle.bs_fault.specs.Reported.{Faultless, one_if, here as one_here}
use Rattle.bs_fault.specs.declared.fault.Fault.TheVariants as fault
use Rattle.cmm_types.specs.Types.{Scoped, unless_float, is_address}
use Rattle.walk_tables.specs.Walks.{Binds, Task, Does, used_at, bound_at}
use Rattle.mach_ir.specs.Walks.{AmongRegisters, first}
use Rattle.mach_ir.specs.declared.mach.Instr.{Instr}
use Rattle.mach_ir.specs.declared.mach.Mach.{Mach}
use Rattle.mach_ir.specs.declared.reg.Reg.{Reg}
use Rattle.selection_rules.specs.Instructions as emit
use Rattle.selection_rules.specs.Select.{Label, move_from, move_to, inner_dest}
use Rattle.selection_rules.proofs.Parts.{Placed, placed_next}
use Rattle.selection_walks.proofs.Phases.{Phase, Early, Bound, Passed, Off, Written, here, there, Past, read_here, kept_on, wrote_it, straight, Apart, Told, skipped, held, kept_same, bound_none, apart_binds}
use Rattle.selection_walks.proofs.Situations.{Looked, nowhere, found, Sit, go, weak, no_written, one_number, out, Wanted, ApartFrom, address_of}
use Rattle.selection_walks.proofs.Operands.{Stood}
use Rattle.selection_walks.proofs.Finals.{ended, plain_move}

pub inner_below : (T : Ty) (b : ℕ) (d : Reg) → d.number < b → (inner_dest T b d).number < suc b
inner_below ty.NoValue b d l = omega arith
inner_below ty.Never b d l = omega (arith, l)
inner_below ty.Int b d l = omega (arith, l)
inner_below ty.Val b d l = omega (arith, l)
inner_below ty.Addr b d l = omega (arith, l)

module _ (m : Mach) (n : ℕ) where
  pub wanted_typed : (want h : Bool) (t : Ty) → Wanted m n want t → Wanted m n want (unless_float h t)
  wanted_typed true true t g = never
    where
      never : ty.Never ≡ ty.NoValue → ⊥
      never e = cc
  wanted_typed true false t g = g
  wanted_typed false h t g = g

  pub name_sit : {k : ℕ} {ts : List ℕ} {labels : List Label} {w : Option ℕ} {next : List Instr} {tasks : List Task} {t : Ty} (want : Bool) (at : ℕ) (d : Reg)
      (o : Option Reg) (s : Option ℕ) (x : Option Scoped) → Looked n w t o s x → Faultless (one_if (is_none x) (fault.Unbound at)) → ApartFrom m n d w →
      Sit m n (out m n want d) k w ts labels next tasks →
      Sit m n [] k w ts labels (move_from o d next) (used_at at s ++ tasks)
  name_sit want at d _ _ _ nowhere f apart y = absurd (f _ one_here)
  name_sit {w = w} want at d _ _ _ (found {r = a} {k = s} p q c) f apart y =
      ended m n want d (emit.move a d) (plain_move m n a d) refl at s 1 kept_same stands apart y
    where
      stands : AmongRegisters n (a ∷ []) → Stood w s 1
      stands i = let z : s ≡ s + zero = omega arith in record { index = 0; within = omega arith; is = p (sym (one_number m n i)) ∙ ap Some z }

  pub assign_sit : {k : ℕ} {ts : List ℕ} {labels : List Label} {w : Option ℕ} {next : List Instr} {tasks : List Task} (at : ℕ) (t : Ty) (x : Reg)
      (o : Option Reg) (s : Option ℕ) (u : Option Scoped) → Looked n w t o s u → ApartFrom m n x w → Sit m n [] k w ts labels next tasks →
      Sit m n (x ∷ []) k w ts labels (move_to x o next) (bound_at at t s ++ tasks)
  assign_sit at t x _ _ _ nowhere apart y = weak m n x y apart
  assign_sit {k} {ts} {w = w} {next = next} {tasks = tasks} at t x _ _ _ (found {r = r} {k = s} p q c) apart y =
      record {
        cont = λ placed ph f z. of_cont ph (placed_next refl placed) f (straight refl refl refl z);
        given = λ placed f z. absurd (bound_none w (apart (number f)) (of_given (placed_next refl placed) (straight refl refl refl z)));
        outs = y.outs;
      }
    where
      number : Written n (x ∷ []) → n ≡ x.number
      number (here e a) = sym e
      number (there i) = absurd (no_written m n i)

      away : (ph : Phase) → Off ph (AmongRegisters n (r ∷ [])) → Apart ph w (Binds s (is_address t) at)
      away Early f = tt
      away Bound f = apart_binds Bound w s _ at (λ i z e. f (first (q (z ∙ ap Some (sym e)))))
      away Passed f = apart_binds Passed w s _ at (λ i z e. f (first (q (z ∙ ap Some (sym e)))))

      of_cont : (ph : Phase) → Placed m ts next → Off ph (AmongRegisters n (x ∷ [])) → Past m n k (emit.move x r) next ph →
          Told ph w (Does (Binds s (is_address t) at) ∷ tasks)
      of_cont ph placed f (read_here i) = absurd (f i)
      of_cont ph placed f (kept_on c g z) = skipped (away ph g) (go m n y placed ph z)
      of_cont ph placed f (wrote_it (here e a) z) = subst (λ b. Told Early w (Does (Binds s b at) ∷ tasks)) (sym (address_of t (sym c ∙ a))) (held
          (subst (λ v. Told Bound v tasks) (p e) (go m n y placed Bound z)))
      of_cont ph placed f (wrote_it (there i) z) = absurd (no_written m n i)

      of_given : Placed m ts next → Past m n k (emit.move x r) next Bound → Told Bound w tasks
      of_given placed (kept_on c g z) = go m n y placed Bound z
