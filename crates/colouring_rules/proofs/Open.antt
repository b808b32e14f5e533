-- What is at one place is at no other.
use Rattle.std.proofs.Common.{◌≡◌, ℕ}
use Rattle.bs_words.specs.declared.types.Loc.{Loc}
use Rattle.bs_words.specs.declared.types.Loc.TheVariants as loc
use Rattle.mach_ir.specs.Placed.{HasColourOrSlot, in_colour, in_slot}
use Rattle.mach_ir.specs.declared.reg.Reg.{Reg}

pub machine_open : {l : Loc} {n : ℕ} → l ≡ loc.Machine n → l ≡ loc.Unset → ⊥
machine_open e u = cc

pub slot_open : {l : Loc} {k : ℕ} → l ≡ loc.Slot k → l ≡ loc.Unset → ⊥
slot_open e u = cc

pub machine_slot : {l : Loc} {n k : ℕ} → l ≡ loc.Machine n → l ≡ loc.Slot k → ⊥
machine_slot e s = cc

-- A register that has a place is not open.
pub not_open : (r : Reg) → HasColourOrSlot r → r.loc ≡ loc.Unset → ⊥
not_open r (in_colour n c e) u = machine_open e u
not_open r (in_slot e) u = slot_open e u
