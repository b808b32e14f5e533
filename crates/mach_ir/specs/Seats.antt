-- Where operands and results are by the conventions of calls, in both languages.
--
-- Arguments, results and raised values are at the places of the convention from selection on, so that no
-- call needs moves at once.
use Rattle.std.specs.Prelude.{◌≡◌, List, [], ◌∷◌, ◌++◌, map, Contains}
use Rattle.bs_words.specs.declared.types.Loc.{Loc}
use Rattle.bs_words.specs.declared.types.Loc.TheVariants as loc
use Rattle.rv_isa.specs.Registers.{a0, argument_registers, register_number}
use Rattle.mach_ir.specs.declared.op.Callee.TheVariants as callee
use Rattle.mach_ir.specs.declared.op.Calling.TheVariants as calling
use Rattle.mach_ir.specs.declared.op.Leaving.TheVariants as leaving
use Rattle.mach_ir.specs.declared.op.Op.{Op}
use Rattle.mach_ir.specs.declared.op.Op.TheVariants as op
use Rattle.mach_ir.specs.declared.reg.Reg.{Reg}
use Rattle.mach_ir.specs.declared.mach.Mark.TheVariants as mark
use Rattle.mach_ir.specs.declared.mach.MachOp.{MachOp}
use Rattle.mach_ir.specs.declared.mach.MachOp.TheVariants as mach
use Rattle.mach_ir.specs.declared.mach.Instr.{Instr}
use Rattle.mach_ir.specs.declared.mach.Mach.{Mach}

-- the places of arguments, in their order
abbrev pub argument_locations : List Loc
argument_locations = map loc.Machine (map register_number argument_registers)

-- the place of a result and of a raised value
abbrev pub result_locations : List Loc
result_locations = loc.Machine a0 ∷ []

-- where a list of operands or results is
pub data Seats : Type 0 where
  Anywhere : Seats
  -- at the first of these places, in order
  InOrder : (places : List Loc) → Seats
  -- the first anywhere, the others so
  AfterFirst : (places : List Loc) → Seats

abbrev pub operand_seats : Op → Seats
operand_seats (op.Calling (calling.Call (callee.Symbol name) result)) = InOrder argument_locations
operand_seats (op.Calling (calling.Call callee.Register result)) = AfterFirst argument_locations
operand_seats (op.Calling (calling.TailCall (callee.Symbol name) result)) =
    InOrder argument_locations
operand_seats (op.Calling (calling.TailCall callee.Register result)) =
    AfterFirst argument_locations
operand_seats (op.Calling (calling.External row frame)) = InOrder argument_locations
operand_seats (op.Leaving leaving.Raise) = InOrder result_locations
operand_seats (op.Leaving leaving.Return) = InOrder result_locations
operand_seats (op.Leaving (leaving.Checkbound r)) = Anywhere
operand_seats (op.Access f) = Anywhere
operand_seats (op.Pure f) = Anywhere

abbrev pub result_seats : Op → Seats
result_seats (op.Calling f) = InOrder result_locations
result_seats (op.Leaving f) = Anywhere
result_seats (op.Access f) = Anywhere
result_seats (op.Pure f) = Anywhere

pub data AreSeated : Seats → List Loc → Type 0 where
  anywhere : {ls : List Loc} → AreSeated Anywhere ls
  in_order : {places ls : List Loc} (more : List Loc) → ls ++ more ≡ places →
      AreSeated (InOrder places) ls
  after_first : {places ls : List Loc} {l : Loc} (more : List Loc) → ls ++ more ≡ places →
      AreSeated (AfterFirst places) (l ∷ ls)

-- ---- Mach

abbrev pub places_of : List Reg → List Loc
places_of rs = map (λ (r : Reg). r.loc) rs

-- a handler takes the raised value from where a result is
abbrev pub mach_result_seats : MachOp → Seats
mach_result_seats (mach.Op f) = result_seats f
mach_result_seats (mach.Mark (mark.Handler l)) = InOrder result_locations
mach_result_seats (mach.Mark _) = Anywhere

abbrev pub mach_operand_seats : MachOp → Seats
mach_operand_seats (mach.Op f) = operand_seats f
mach_operand_seats (mach.Mark f) = Anywhere

-- Parameters, and operands and results that the conventions put at fixed places, are there.
pub record Seated (m : Mach) : Type 0 where
  pub params : AreSeated (InOrder argument_locations) (places_of m.params)
  pub operands : (i : Instr) → Contains m.code i →
      AreSeated (mach_operand_seats i.op) (places_of i.args)
  pub results : (i : Instr) → Contains m.code i →
      AreSeated (mach_result_seats i.op) (places_of i.results)
