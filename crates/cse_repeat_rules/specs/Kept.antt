-- What is kept of a function whose repeats are moves.
use Rattle.std.specs.Prelude.{◌≡◌, List, ◌∷◌, ◌++◌}
use Rattle.mach_ir.specs.Walks.{IsRegister}
use Rattle.mach_ir.specs.declared.reg.Reg.{Reg}
use Rattle.mach_ir.specs.declared.mach.Instr.{Instr}
use Rattle.mach_ir.specs.declared.mach.Mach.{Mach}
use Rattle.cse_repeat_rules.specs.Repeated.{RepeatsEarlier}
use Rattle.mach_laws.specs.Passes.{IsPassKept, IsNoLarger}

-- No register is made from another.
-- The earlier result is live for longer than before, and a run is stuck where two live registers of one
-- origin differ. So repeats come before spilling and splitting, which make registers of one origin.
abbrev pub OwnOrigins : Mach → Type 0
OwnOrigins m = (r : Reg) → IsRegister m r → r.origin ≡ r.number

pub record IsRepeatKept (p q : Mach) : Type 0 where
  pub pass : IsPassKept p q
  pub no_larger : IsNoLarger p q
  -- no operator repeats an earlier one
  pub none_left : (made : List Instr) (i : Instr) (next : List Instr) →
      q.code ≡ made ++ i ∷ next → (r : Reg) → RepeatsEarlier made i r → ⊥
