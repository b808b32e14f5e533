-- There are numbers for all that a function has that is countable.
use Rattle.std.proofs.Common.{◌≡◌, ℕ, zero, suc, ◌<◌, ◌≤◌, List, [], ◌∷◌, length, sym, subst, arith}
use Rattle.std.specs.List.{All, Contains}
use Rattle.std.specs.Prelude.{slice_index_or}
use Rattle.mach_ir.specs.Sizes.{Size, HasRoom, IsCountable, number_limit}
use Rattle.mach_ir.specs.Walks.{InCode, in_args, in_results, further, IsRegister}
use Rattle.mach_ir.specs.declared.reg.Reg.{Reg}
use Rattle.mach_ir.specs.declared.mach.Instr.{Instr}
use Rattle.mach_ir.specs.declared.mach.Mach.{Mach}
use Rattle.liveness.proofs.Bounds.{members}

below : (n k b : ℕ) → n < k → k < b → suc n < b
below n k b h g = omega (arith, h, g)

no_more : (n k b : ℕ) → n ≤ k → suc k < b → suc n < b
no_more n k b h g = omega (arith, h, g)

-- there is a number after that of each register, and after that of each place
pub next_fits : (m : Mach) → IsCountable m → (r : Reg) → IsRegister m r → suc r.number < number_limit
next_fits m room r i = below r.number room.size.registers number_limit (room.within.numbers r i) room.small.registers

pub places_fit : (m : Mach) → IsCountable m → suc (length m.code) < number_limit
places_fit m room = no_more (length m.code) room.size.instrs number_limit room.within.instrs room.small.places

-- What grows bounds leaves room for the function that it grows from.
pub countable_of : (grown : Size → Size) (m : Mach) → ((s : Size) → s.instrs ≤ (grown s).instrs) →
    ((s : Size) → s.operands ≤ (grown s).operands) → ((s : Size) → s.registers ≤ (grown s).registers) →
    ((s : Size) → s.labels ≤ (grown s).labels) → HasRoom grown m → IsCountable m
countable_of grown m instrs operands registers labels room =
    record {
      size = room.size;
      within = room.within;
      small = record {
        places = no_more room.size.instrs (grown room.size).instrs number_limit (instrs room.size) room.small.places;
        operands = less room.size.operands (grown room.size).operands number_limit (operands room.size) room.small.operands;
        registers = less room.size.registers (grown room.size).registers number_limit (registers room.size) room.small.registers;
        labels = less room.size.labels (grown room.size).labels number_limit (labels room.size) room.small.labels;
      };
    }
  where
    less : (n k b : ℕ) → n ≤ k → k < b → n < b
    less n k b h g = omega (arith, h, g)

-- ---- parts of a function

args_at : (code : List Instr) (k : ℕ) (i : Instr) (r : Reg) → k < length code → slice_index_or code k i ≡ i → Contains i.args r →
    InCode r code
args_at [] k i r lt e c = absurd (omega (arith, lt))
args_at (j ∷ is) zero i r lt e c = in_args (subst (λ (i : Instr). Contains i.args r) (sym e) c)
args_at (j ∷ is) (suc k) i r lt e c = further (args_at is k i r (omega (arith, lt)) e c)

results_at : (code : List Instr) (k : ℕ) (i : Instr) (r : Reg) → k < length code → slice_index_or code k i ≡ i → Contains i.results r →
    InCode r code
results_at [] k i r lt e c = absurd (omega (arith, lt))
results_at (j ∷ is) zero i r lt e c = in_results (subst (λ (i : Instr). Contains i.results r) (sym e) c)
results_at (j ∷ is) (suc k) i r lt e c = further (results_at is k i r (omega (arith, lt)) e c)

-- what holds of all registers of a code holds of the operands and the results of each instruction
pub args_all : (P : Reg → Type 0) (code : List Instr) (k : ℕ) (i : Instr) (args : List Reg) → ((r : Reg) → InCode r code → P r) →
    k < length code → i ≡ slice_index_or code k i → args ≡ i.args → All P args
args_all P code k i args all lt at e =
    subst (All P) (sym e) (members P i.args (λ r c. all r (args_at code k i r lt (sym at) c)))

pub results_all : (P : Reg → Type 0) (code : List Instr) (k : ℕ) (i : Instr) (results : List Reg) → ((r : Reg) → InCode r code → P r) →
    k < length code → i ≡ slice_index_or code k i → results ≡ i.results → All P results
results_all P code k i results all lt at e =
    subst (All P) (sym e) (members P i.results (λ r c. all r (results_at code k i r lt (sym at) c)))
