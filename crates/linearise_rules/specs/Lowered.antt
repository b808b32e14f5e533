-- The lines of a Mach function whose registers have places, in one pass over the text (OCaml's
-- `asmcomp/linearize.ml`).
--
-- Each definition takes the lines that follow, so that nothing is appended.
--
-- A copy of any kind from a place to itself, of one component, has no line.
use Rattle.std.specs.Prelude.{ℕ, zero, suc, Bool, false, cond, ◌&&◌, ◌||◌, nat_eq, max, List, [], ◌∷◌, map}
use Rattle.bs_words.specs.declared.operators.CmpOp.{CmpOp}
use Rattle.bs_words.specs.declared.operators.CmpOp.TheVariants as compare
use Rattle.bs_words.specs.declared.types.Loc.{Loc}
use Rattle.bs_words.specs.declared.types.Loc.TheVariants as loc
use Rattle.mach_ir.specs.declared.op.Op.TheVariants as op
use Rattle.mach_ir.specs.declared.op.Pure.TheVariants as pure
use Rattle.mach_ir.specs.declared.reg.Reg.{Reg}
use Rattle.mach_ir.specs.declared.mach.Test.{Test}
use Rattle.mach_ir.specs.declared.mach.Test.TheVariants as test
use Rattle.mach_ir.specs.declared.mach.Mark.{Mark}
use Rattle.mach_ir.specs.declared.mach.Mark.TheVariants as mark
use Rattle.mach_ir.specs.declared.mach.MachOp.{MachOp}
use Rattle.mach_ir.specs.declared.mach.MachOp.TheVariants as mach
use Rattle.mach_ir.specs.declared.mach.Instr.{Instr}
use Rattle.mach_ir.specs.declared.mach.Mach.{Mach}
use Rattle.lin_ir.specs.Formed.{bare_flow}
use Rattle.lin_ir.specs.Meaning.{same_loc}
use Rattle.lin_ir.specs.declared.lin.Spot.{Spot}
use Rattle.lin_ir.specs.declared.lin.Flow.TheVariants as flow
use Rattle.lin_ir.specs.declared.lin.LinOp.{LinOp}
use Rattle.lin_ir.specs.declared.lin.LinOp.TheVariants as lin
use Rattle.lin_ir.specs.declared.lin.Line.{Line}
use Rattle.lin_ir.specs.declared.lin.Lin.{Lin}
use Rattle.mach_ir.specs.Places.{same_comp}

-- ---- slots

abbrev pub with_slot_of : Loc → List ℕ → List ℕ
with_slot_of (loc.Slot k) ks = k ∷ ks
with_slot_of (loc.Machine n) ks = ks
with_slot_of loc.Unset ks = ks

abbrev pub slots_of_regs : List Reg → List ℕ → List ℕ
slots_of_regs [] ks = ks
slots_of_regs (r ∷ rs) ks = with_slot_of r.loc (slots_of_regs rs ks)

abbrev pub slots_of_code : List Instr → List ℕ
slots_of_code [] = []
slots_of_code (i ∷ is) = slots_of_regs i.args (slots_of_regs i.results (slots_of_code is))

-- the slots that occur in a function, some of them more than once
abbrev pub slots_of_function : Mach → List ℕ
slots_of_function m = slots_of_regs m.params (slots_of_code m.code)

abbrev pub is_among_numbers : ℕ → List ℕ → Bool
is_among_numbers k [] = false
is_among_numbers k (n ∷ ns) = nat_eq n k || is_among_numbers k ns

-- how many of these numbers, each counted once, are below k
abbrev pub count_below : List ℕ → ℕ → ℕ
count_below ns zero = 0
count_below ns (suc k) = cond (is_among_numbers k ns) (suc (count_below ns k)) (count_below ns k)

-- above all these numbers
abbrev pub limit_above : List ℕ → ℕ
limit_above [] = 0
limit_above (n ∷ ns) = max (suc n) (limit_above ns)

-- Each slot gets the number of those that occur below it: they are numbered from 0 on, one for each
-- that occurs.
abbrev pub slot_number : Mach → ℕ → ℕ
slot_number m k = count_below (slots_of_function m) k

abbrev pub slot_count : Mach → ℕ
slot_count m = count_below (slots_of_function m) (limit_above (slots_of_function m))

-- ---- tests

abbrev pub opposite_compare : CmpOp → CmpOp
opposite_compare compare.Eq = compare.Ne
opposite_compare compare.Ne = compare.Eq
opposite_compare compare.Lt = compare.Ge
opposite_compare compare.Ge = compare.Lt
opposite_compare compare.Le = compare.Gt
opposite_compare compare.Gt = compare.Le

-- the test that holds where this one fails, and fails where it holds
abbrev pub opposite_test : Test → Test
opposite_test test.Holds = test.Fails
opposite_test test.Fails = test.Holds
opposite_test (test.Signed f r) = test.Signed (opposite_compare f) r
opposite_test (test.Unsigned f r) = test.Unsigned (opposite_compare f) r

-- ---- moves from a place to itself

abbrev pub same_spot : List Reg → List Reg → Bool
same_spot (r ∷ []) (q ∷ []) = same_loc r.loc q.loc && same_comp r.comp q.comp
same_spot _ _ = false

-- a copy from a place to itself, of one component
abbrev pub is_idle : MachOp → List Reg → List Reg → Bool
is_idle (mach.Op (op.Pure (pure.Copy kind))) args results = same_spot args results
is_idle _ args results = false

-- ---- lines

module _ (number : ℕ → ℕ) where
  abbrev pub home : Loc → Loc
  home (loc.Slot k) = loc.Slot (number k)
  home (loc.Machine n) = loc.Machine n
  home loc.Unset = loc.Unset

  abbrev pub spot_of_register : Reg → Spot
  spot_of_register r = record { loc = home r.loc; comp = r.comp }

  abbrev pub spots : List Reg → List Spot
  spots rs = map spot_of_register rs

  -- a line with the operands and results of an instruction
  abbrev pub line_of : LinOp → Instr → Line
  line_of f i = record { op = f; args = spots i.args; results = spots i.results }

  abbrev pub pops : ℕ → List Line → List Line
  pops zero next = next
  pops (suc n) next = bare_flow flow.PopTrap ∷ pops n next

  -- A branch goes where its test holds, and the true part of an `if` comes next: so its test is the
  -- opposite one.
  abbrev pub lines_of_mark : Mark → Instr → List Line → List Line
  lines_of_mark (mark.Exit l n) i next = pops n (bare_flow (flow.Exit l) ∷ next)
  lines_of_mark (mark.If t l) i next =
      line_of (lin.Flow (flow.Branch (opposite_test t) l)) i ∷ next
  lines_of_mark (mark.Else l end) i next = bare_flow (flow.Jump end) ∷ bare_flow (flow.Label l) ∷ next
  lines_of_mark (mark.Switch labels) i next = line_of (lin.Flow (flow.Switch labels)) i ∷ next
  lines_of_mark (mark.Case indexes l end) i next =
      bare_flow (flow.Jump end) ∷ bare_flow (flow.Label l) ∷ next
  lines_of_mark mark.Catch i next = next
  lines_of_mark (mark.With l end) i next = bare_flow (flow.Jump end) ∷ bare_flow (flow.Label l) ∷ next
  lines_of_mark (mark.Try l) i next = line_of (lin.Flow (flow.PushTrap l)) i ∷ next
  lines_of_mark (mark.Leave l end) i next = bare_flow flow.PopTrap ∷ bare_flow (flow.Jump end) ∷ next
  lines_of_mark (mark.Handler l) i next =
      bare_flow (flow.Label l) ∷ line_of (lin.Flow flow.EnterTrap) i ∷ next
  lines_of_mark (mark.End l) i next = bare_flow (flow.Label l) ∷ next

  abbrev pub lines_of : MachOp → Instr → List Line → List Line
  lines_of (mach.Op f) i next = line_of (lin.Op f) i ∷ next
  lines_of (mach.Mark f) i next = lines_of_mark f i next

  -- an instruction, before these lines
  abbrev pub lowered_one : Instr → List Line → List Line
  lowered_one i next = cond (is_idle i.op i.args i.results) next (lines_of i.op i next)

  abbrev pub lowered_code : List Instr → List Line
  lowered_code [] = []
  lowered_code (i ∷ is) = lowered_one i (lowered_code is)

-- with these numbers for its slots
abbrev pub lowered_with_numbers : (ℕ → ℕ) → ℕ → Mach → Lin
lowered_with_numbers number slots m =
    record {
      name = m.name;
      params = spots number m.params;
      result = m.result;
      slots = slots;
      code = lowered_code number m.code;
    }

abbrev pub lowered : Mach → Lin
lowered m = lowered_with_numbers (slot_number m) (slot_count m) m
