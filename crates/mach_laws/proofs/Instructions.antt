-- Instructions, what they do and how many registers they name.
use Rattle.std.proofs.Common.{List, ◌≡◌, [], ◌∷◌, refl, suc, length, ap, subst}
use Rattle.mach_ir.specs.declared.reg.Reg.{Reg}
use Rattle.mach_ir.specs.declared.mach.MachOp.{MachOp}
use Rattle.mach_ir.specs.declared.mach.Instr.{Instr}
use Rattle.mach_ir.specs.declared.op.Op.{Op}
use Rattle.mach_ir.specs.declared.mach.MachOp.TheVariants as mach
use Rattle.mach_ir.specs.declared.mach.Mark.{Mark}
use Rattle.mach_ir.specs.Formed.{comps, IsFormedInstruction, formed_op, formed_mark}
use Rattle.mach_ir.specs.Forms.{HasForm}
use Rattle.bs_words.specs.declared.types.Comp.{Comp}
use Rattle.mach_ir.specs.Forms as forms
use Rattle.mach_ir.specs.declared.op.Leaving.TheVariants as leaving
use Rattle.mach_ir.specs.declared.op.Op.TheVariants as op

abbrev pub instr : MachOp → List Reg → List Reg → Instr
instr f args results = record { op = f; args = args; results = results }

pub same_op : (f g : Op) → mach.Op f ≡ mach.Op g → f ≡ g
same_op f g e = cc

pub no_mark : (f : Mark) (g : Op) → mach.Mark f ≡ mach.Op g → ⊥
no_mark f g e = cc

pub no_op : (f : Op) (g : Mark) → mach.Op f ≡ mach.Mark g → ⊥
no_op f g e = cc

pub no_comps : (rs : List Reg) → comps rs ≡ [] → rs ≡ []
no_comps [] e = refl
no_comps (r ∷ rs) e = absurd (some r.comp (comps rs) e)
  where
    some : (c : Comp) (cs : List Comp) → c ∷ cs ≡ [] → ⊥
    some c cs e = cc

pub length_comps : (rs : List Reg) → length (comps rs) ≡ length rs
length_comps [] = refl
length_comps (r ∷ rs) = ap suc (length_comps rs)

pub returns_none : {cs ds : List Comp} → HasForm (op.Leaving leaving.Return) cs ds → ds ≡ []
returns_none (forms.returns result) = refl

pub return_results : {i : Instr} → IsFormedInstruction i → i.op ≡ mach.Op (op.Leaving leaving.Return) → i.results ≡ []
return_results (formed_op {f = f} {args = args} {results = results} h) e =
    no_comps results
    (returns_none (subst (λ f. HasForm f (comps args) (comps results)) (same_op f (op.Leaving leaving.Return) e) h))
return_results (formed_mark {f = f} h) e = absurd (no_mark f (op.Leaving leaving.Return) e)
