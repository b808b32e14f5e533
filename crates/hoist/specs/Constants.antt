-- Which instructions make wide constants that fit wherever data ends, in open registers.
use Rattle.std.specs.Prelude.{ℕ, ◌%◌, Bool, true, false, ◌&&◌, nat_eq, nat_le, nat_lt, List, [], ◌∷◌, Option, Some, None}
use Rattle.bs_words.specs.declared.types.Comp.{Comp}
use Rattle.bs_words.specs.declared.types.Comp.TheVariants as comp
use Rattle.mach_ir.specs.declared.op.Op.TheVariants as op
use Rattle.mach_ir.specs.declared.op.Pure.TheVariants as pure
use Rattle.mach_ir.specs.declared.reg.Reg.{Reg}
use Rattle.mach_ir.specs.declared.mach.MachOp.{MachOp}
use Rattle.mach_ir.specs.declared.mach.MachOp.TheVariants as mach
use Rattle.mach_ir.specs.declared.mach.Instr.{Instr}
use Rattle.mach_ir.specs.Places.{is_unset_location, are_none}

-- no word that twelve bits give, sign extended
abbrev pub is_wide : ℕ → Bool
is_wide w = nat_le 2048 w && nat_lt w 18446744073709549568

abbrev pub fits_always : Comp → ℕ → Bool
fits_always comp.Int w = true
fits_always comp.Val w = nat_eq (w % 2) 1
fits_always comp.Addr w = false
fits_always comp.Float w = false

abbrev pub constant_of : MachOp → Option ℕ
constant_of (mach.Op (op.Pure (pure.Constant w))) = Some w
constant_of (mach.Op (op.Pure (pure.Copy kind))) = None
constant_of (mach.Op (op.Pure (pure.Symbol name))) = None
constant_of (mach.Op (op.Pure (pure.Operator f right))) = None
constant_of (mach.Op (op.Access f)) = None
constant_of (mach.Op (op.Calling f)) = None
constant_of (mach.Op (op.Leaving f)) = None
constant_of (mach.Mark f) = None

-- one open register in which a word fits
abbrev pub can_hold : ℕ → List Reg → Bool
can_hold w [] = false
can_hold w (r ∷ []) = is_unset_location r.loc && fits_always r.comp w
can_hold w (r ∷ q ∷ rs) = false

abbrev pub holds_wide : Option ℕ → List Reg → List Reg → Bool
holds_wide None args results = false
holds_wide (Some w) args results = is_wide w && (are_none args && can_hold w results)

abbrev pub makes_wide : Instr → Bool
makes_wide i = holds_wide (constant_of i.op) i.args i.results
