-- Code whose registers have been placed, instruction by instruction. Registers are read and written by their numbers.
use Rattle.std.proofs.Common.{◌≡◌, ℕ, Bool, true, false, List, [], ◌∷◌, Option, Some, None, refl, ap, ◌∙◌}
use Rattle.bs_words.specs.Fits.{fits, type_of_comp}
use Rattle.bs_words.specs.declared.values.Value.{Value}
use Rattle.mach_ir.specs.Meaning.{File, put_if, put_all, with_held, values}
use Rattle.mach_ir.specs.Walks.{AmongRegisters, first, later}
use Rattle.mach_ir.specs.declared.reg.Reg.{Reg}
use Rattle.mach_ir.specs.declared.mach.Instr.{Instr}
use Rattle.mach_laws.specs.Expand.{KeepsMarks, expand}
use Rattle.mach_laws.proofs.InPlace as text
use Rattle.mach_laws.proofs.InPlace.{AreAlike, same_op}
use Rattle.colouring_rules.specs.Places.{LocationAssignment, located_register, all_placed, placed_instr, placed_code}

module _ (place : LocationAssignment) where
  pub among_there : {n : ℕ} (rs : List Reg) → AmongRegisters n rs → AmongRegisters n (all_placed place rs)
  among_there [] a = a
  among_there (r ∷ rs) (first e) = first e
  among_there (r ∷ rs) (later a) = later (among_there rs a)

  pub among_back : {n : ℕ} (rs : List Reg) → AmongRegisters n (all_placed place rs) → AmongRegisters n rs
  among_back [] a = a
  among_back (r ∷ rs) (first e) = first e
  among_back (r ∷ rs) (later a) = later (among_back rs a)

  -- ---- registers are read and written by their numbers

  pub same_values : (f : File) (rs : List Reg) → values f (all_placed place rs) ≡ values f rs
  same_values f [] = refl
  same_values f (r ∷ rs) = ap (with_held (f r.number)) (same_values f rs)

  same_put_if : (b : Bool) (r : Reg) (v : Value) (o : Option File) → put_if b (located_register place r) v o ≡ put_if b r v o
  same_put_if true r v (Some f) = refl
  same_put_if true r v None = refl
  same_put_if false r v o = refl

  pub same_put : (end : ℕ) (rs : List Reg) (vs : List Value) (f : File) →
      put_all end (all_placed place rs) vs f ≡ put_all end rs vs f
  same_put end [] [] f = refl
  same_put end [] (v ∷ vs) f = refl
  same_put end (r ∷ rs) [] f = refl
  same_put end (r ∷ rs) (v ∷ vs) f =
      same_put_if (fits end (type_of_comp r.comp) v) r v (put_all end (all_placed place rs) vs f)
      ∙ ap (put_if (fits end (type_of_comp r.comp) v) r v) (same_put end rs vs f)

  -- ---- the code, instruction by instruction

  abbrev pub again : ℕ → Instr → Instr
  again n i = placed_instr place i

  pub same_ops : (n : ℕ) (i : Instr) → AreAlike i.op (again n i).op
  same_ops n i = same_op refl

  abbrev pub alone : ℕ → Instr → List Instr
  alone n i = placed_instr place i ∷ []

  pub as_expanded : (code : List Instr) → placed_code place code ≡ expand alone code
  as_expanded [] = refl
  as_expanded (i ∷ is) = ap (λ xs. placed_instr place i ∷ xs) (as_expanded is)

  pub keeps_marks : KeepsMarks alone
  keeps_marks = text.keeps_marks again same_ops
