-- How often registers are written.
use Rattle.std.specs.Prelude.{ℕ, zero, suc, Bool, cond, nat_eq, List, [], ◌∷◌}
use Rattle.std.specs.List.{list_all}
use Rattle.mach_ir.specs.declared.reg.Reg.{Reg}
use Rattle.mach_ir.specs.declared.mach.Instr.{Instr}
use Rattle.mach_ir.specs.declared.mach.Mach.{Mach}

-- once more, where 2 stands for each greater number too
abbrev pub more : ℕ → ℕ
more zero = 1
more (suc n) = 2

-- how often a number is written by these after so many times before
abbrev pub writes_counted : ℕ → List Reg → ℕ → ℕ
writes_counted n [] t = t
writes_counted n (r ∷ rs) t = writes_counted n rs (cond (nat_eq r.number n) (more t) t)

abbrev pub noted_in : ℕ → List Instr → ℕ → ℕ
noted_in n [] t = t
noted_in n (i ∷ is) t = noted_in n is (writes_counted n i.results t)

-- in a function, whose entry writes the parameters
abbrev pub times : Mach → ℕ → ℕ
times m n = noted_in n m.code (writes_counted n m.params 0)

abbrev pub is_once : (ℕ → ℕ) → Instr → Bool
is_once writes i = list_all (λ (r : Reg). nat_eq (writes r.number) 1) i.results
