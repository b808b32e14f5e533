-- The registers that an external call or a frame call leaves alone.
use Rattle.std.proofs.Common.{◌≡◌, ◌≢◌, ℕ, zero, suc, ◌<◌, ◌≤◌, ◌⊎◌, inl, inr, List, [], ◌∷◌, length, slice_index, refl, ◌∙◌, length-set, arith}
use Rattle.std.specs.List.{AllByRecursion}
use Rattle.rv_machine.specs.Hart.{with_register}
use Rattle.rv_machine.specs.Places.{filler}
use Rattle.rv_machine.specs.Services.{destroyed, filled_registers}
use Rattle.machine_laws.proofs.Serving.{not_filled}

with_length : (r value : ℕ) (registers : List ℕ) → length (with_register r value registers) ≡ length registers
with_length zero value registers = refl
with_length (suc r) value registers = length-set registers (suc r) value

pub filled_length : (rs registers : List ℕ) → length (filled_registers rs registers) ≡ length registers
filled_length [] registers = refl
filled_length (k ∷ rs) registers = filled_length rs (with_register k filler registers) ∙ with_length k filler registers

-- a register that is none of a0 to a7 and t3 to t6
abbrev pub IsSpared : ℕ → Type 0
IsSpared r = (r < 10) ⊎ ((18 ≤ r) × (r < 28))

pub spared : (r : ℕ) → IsSpared r → AllByRecursion (λ k. k ≢ r) destroyed
spared r s = (
  off 10 s (inl (omega arith, omega arith)),
  (
    off 11 s (inl (omega arith, omega arith)),
    (
      off 12 s (inl (omega arith, omega arith)),
      (
        off 13 s (inl (omega arith, omega arith)),
        (
          off 14 s (inl (omega arith, omega arith)),
          (
            off 15 s (inl (omega arith, omega arith)),
            (
              off 16 s (inl (omega arith, omega arith)),
              (
                off 17 s (inl (omega arith, omega arith)),
                (
                  off 28 s (inr (omega arith)),
                  (
                    off 29 s (inr (omega arith)),
                    (
                      off 30 s (inr (omega arith)),
                      (off 31 s (inr (omega arith)), tt),
                    ),
                  ),
                ),
              ),
            ),
          ),
        ),
      ),
    ),
  ),
)
  where
    off : (k : ℕ) → IsSpared r → ((10 ≤ k) × (k < 18)) ⊎ (28 ≤ k) → k ≢ r
    off k (inl s) (inl h) e = omega (arith, s, h, e)
    off k (inl s) (inr h) e = omega (arith, s, h, e)
    off k (inr s) (inl h) e = omega (arith, s, h, e)
    off k (inr s) (inr h) e = omega (arith, s, h, e)

pub destroyed_other : (registers : List ℕ) (r : ℕ) → IsSpared r → slice_index (filled_registers destroyed registers) r ≡ slice_index registers r
destroyed_other registers r s = not_filled destroyed registers r (spared r s)
