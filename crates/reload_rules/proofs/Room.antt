-- Bounds on a function that gets copies.
use Rattle.std.proofs.Common.{ℕ, ◌+◌, ◌*◌, ◌≤◌, arith}
use Rattle.liveness.proofs.Counting.{countable_of}
use Rattle.mach_ir.specs.Sizes.{Size, HasSize, IsSmallSize, HasRoom, IsCountable}
use Rattle.mach_ir.specs.declared.mach.Mach.{Mach}
use Rattle.mach_laws.proofs.Grows.{within_more}
use Rattle.reload_rules.specs.Kept.{with_copies}

no_less : (a b : ℕ) → a ≤ a + b
no_less a b = omega arith

twice : (a b : ℕ) → a ≤ a + 2 * b
twice a b = omega arith

same : (a : ℕ) → a ≤ a
same a = omega arith

-- A function that keeps bounds keeps those with copies too,
pub with_more : {m : Mach} {s : Size} (n : ℕ) → HasSize m s → HasSize m (with_copies n s)
with_more {m} {s} n h = within_more h (no_less s.instrs n) (twice s.operands n) (no_less s.registers n) (same s.labels)

-- and those with copies of copies are those with as many copies as both, or more.
pub with_both : {m : Mach} (s : Size) (n k both : ℕ) → n + k ≤ both → HasSize m (with_copies k (with_copies n s)) → HasSize m (with_copies both s)
with_both {m} s n k both le h = within_more h (once s.instrs n k both le) (doubled s.operands n k both le) (once s.registers n k both le) (same s.labels)
  where
    once : (a n k both : ℕ) → n + k ≤ both → a + n + k ≤ a + both
    once a n k both le = omega (arith, le)

    doubled : (a n k both : ℕ) → n + k ≤ both → a + 2 * n + 2 * k ≤ a + 2 * both
    doubled a n k both le = omega (arith, le)

-- With fewer copies bounds are small where they are with more.
pub small_both : (s : Size) (n k both : ℕ) → n + k ≤ both → IsSmallSize (with_copies both s) → IsSmallSize (with_copies k (with_copies n s))
small_both s n k both le h =
    let places = h.places in
    let operands = h.operands in
    let registers = h.registers in
    record {
      places = omega (arith, places, le);
      operands = omega (arith, operands, le);
      registers = omega (arith, registers, le);
      labels = h.labels;
    }

-- All of a function can be counted where there is room for copies.
pub room_counts : {m : Mach} (n : ℕ) → HasRoom (with_copies n) m → IsCountable m
room_counts {m} n room =
    countable_of (with_copies n) m (λ s. no_less s.instrs n) (λ s. twice s.operands n) (λ s. no_less s.registers n) (λ s. same s.labels) room
