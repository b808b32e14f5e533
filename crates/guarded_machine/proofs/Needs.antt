-- When the guarded machine refuses nothing.
use Rattle.std.proofs.Common.{◌≡◌, ℕ, ◌<◌, Bool, true, false, cond, not, ◌&&◌, ◌||◌, ◌==◌, nat_lt, ap, ◌∙◌, sym, refl}
use Rattle.std.proofs.lemmas.Bool.{and_from, and_left, and_right, cond-true, eq-eqb, false_from_ne_true, eqb-true, lt-ltb, ltb-true, or_left, or_right}
use Rattle.correctness.specs.InNeed.{IsAtAllocation, IsInNeed}
use Rattle.rv_machine.specs.Hart.{Hart, Service, decoded_next, fetched, goes_to, hart, register, sets, with_register}
use Rattle.rv_machine.specs.Hart as next
use Rattle.rv_machine.specs.Memory.{memory_word}
use Rattle.rv_machine.specs.Run.{Schedule, one}
use Rattle.rv_machine.specs.Services.{Machine, Going}
use Rattle.guarded_machine.specs.Guarded.{guarded_of, is_at_allocation, is_in_need, is_service}

-- ---- the test

free : (m : Machine) → is_at_allocation m ≡ false → is_in_need m ≡ true
free m e = or_left _ _ (ap not e)

-- an instruction that is no ECALL
pub unserved : (m : Machine) → is_service (hart m.hart) ≡ false → is_in_need m ≡ true
unserved m e = free m (and_left _ _ e)

-- another service
pub other_service : (m : Machine) → (register m.hart 7 ≡ 3 → ⊥) → is_in_need m ≡ true
other_service m other = free m (and_right _ _ (false_from_ne_true _ (λ e. other (eqb-true (register m.hart 7) 3 e))))

-- an allocation service below the limit word
pub below_limit : (m : Machine) → register m.hart 26 < memory_word m.hart.memory 0x20000000 → is_in_need m ≡ true
below_limit m l = or_right _ _ (lt-ltb (register m.hart 26) (memory_word m.hart.memory 0x20000000) l)

-- what sets a register is no ECALL
pub sets_unserved : (rd value address : ℕ) (h : Hart) → is_service (sets rd value address h) ≡ false
sets_unserved rd value address h = by ((rd == 2) && nat_lt value h.stack_base)
  where
    by : (t : Bool) → is_service (cond t next.StackOut (goes_to address (record h { registers = with_register rd value h.registers }))) ≡ false
    by true = refl
    by false = refl

-- ---- what it says

serves : (m : Machine) → IsAtAllocation m → hart m.hart ≡ Service m.hart
unfolding hart
serves m at = ap (λ o. fetched o m.hart) at.there ∙ ap (λ o. decoded_next o m.hart) at.ecall

at_allocation : (m : Machine) → IsAtAllocation m → is_at_allocation m ≡ true
at_allocation m at = and_from _ _ (ap is_service (serves m at)) (eq-eqb (register m.hart 7) 3 at.service)

pub in_need : (m : Machine) → is_in_need m ≡ true → IsInNeed m
in_need m e at =
    ltb-true (register m.hart 26) (memory_word m.hart.memory 0x20000000)
    (sym (ap (λ t. not t || nat_lt (register m.hart 26) (memory_word m.hart.memory 0x20000000)) (at_allocation m at)) ∙ e)

-- ---- one instruction

pub allows : (schedule : Schedule) (m : Machine) → is_in_need m ≡ true → guarded_of schedule (Going m) ≡ one schedule m
allows schedule m e = cond-true _ _ _ e
