-- The flow graph of a Mach function, in the shape in which liveness is solved.
use Rattle.std.specs.Prelude.{◌≡◌, ℕ, suc, ◌-◌, Bool, true, false, List, [], ◌∷◌, drop, length, map}
use Rattle.bs_words.specs.Contents.{contents}
use Rattle.mach_ir.specs.Known.{Graph, graph, Flow}
use Rattle.mach_ir.specs.Meaning.{code_at, from_handler, tries_at, registers_written}
use Rattle.mach_ir.specs.Walks.{targets, may_raise}
use Rattle.mach_ir.specs.declared.reg.Reg.{Reg}
use Rattle.mach_ir.specs.declared.mach.Instr.{Instr}
use Rattle.mach_ir.specs.declared.mach.Mach.{Mach}

-- The number of the place from which this code is left. Places are numbered from 0 in the order of
-- the text; the last one is after the last instruction.
abbrev pub code_index : Mach → List Instr → ℕ
code_index m rest = length m.code - length rest

abbrev pub numbers_of_registers : List Reg → List ℕ
numbers_of_registers rs = map (λ (r : Reg). r.number) rs

-- the handler's place, where a raise leads to it
abbrev pub handler_places : Mach → Bool → List ℕ → List ℕ
handler_places m false tries = []
handler_places m true [] = []
handler_places m true (l ∷ tries) = code_index m (from_handler l m.code) ∷ []

-- where control may go from here on
abbrev pub next_places : Mach → List Instr → List ℕ
next_places m [] = []
next_places m (i ∷ next) = map (λ t. code_index m (code_at m.code next t)) (targets i.op)

-- where a raise leads, which passes no write
abbrev pub raise_places : Mach → List Instr → List ℕ
raise_places m [] = []
raise_places m (i ∷ next) = handler_places m (may_raise i.op) (tries_at (i ∷ next))

abbrev pub numbers_read : List Instr → List ℕ
numbers_read [] = []
numbers_read (i ∷ next) = numbers_of_registers i.args

abbrev pub numbers_written : Mach → List Instr → List ℕ
numbers_written m [] = []
numbers_written m (i ∷ next) = numbers_of_registers (registers_written m i)

abbrev pub flow_graph : Mach → Graph
flow_graph m =
    record {
      next = λ p. next_places m (drop p m.code);
      aside = λ p. raise_places m (drop p m.code);
      reads = λ p. numbers_read (drop p m.code);
      writes = λ p. numbers_written m (drop p m.code);
    }

-- a table of places that is the flow graph of a function
pub record IsFlowOf (m : Mach) (f : Flow) : Type 0 where
  pub places : length (contents f.places) ≡ suc (length m.code)
  pub next : (p : ℕ) → (graph f).next p ≡ (flow_graph m).next p
  pub aside : (p : ℕ) → (graph f).aside p ≡ (flow_graph m).aside p
  pub reads : (p : ℕ) → (graph f).reads p ≡ (flow_graph m).reads p
  pub writes : (p : ℕ) → (graph f).writes p ≡ (flow_graph m).writes p
