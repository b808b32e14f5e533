-- A function with wide room has room for each of the passes.
use Rattle.std.proofs.Common.{ℕ, length, sym, ap, subst, arith}
use Rattle.mach_ir.specs.Formed.{WellFormed}
use Rattle.mach_ir.specs.Placed.{WellPlaced}
use Rattle.mach_ir.specs.Sizes.{Size, IsSmallSize, HasRoom, IsCountable}
use Rattle.mach_ir.specs.declared.mach.Mach.{Mach}
use Rattle.pass_rules.proofs.Room.{small_within, room_within}
use Rattle.spill_rules.proofs.Chosen.{spilled_kept}
use Rattle.spill_rules.specs.Chosen.{ParamsPlaced, IsSpilled, spilled_size}
use Rattle.split_rules.specs.Split.{split_size}
use Rattle.mach_tests.specs.Room.{wide}

small_itself : (parameters : ℕ) (s : Size) → IsSmallSize (wide parameters s) → IsSmallSize s
small_itself parameters s = small_within s (wide parameters s) (omega arith) (omega arith) (omega arith) (omega arith)

small_spilled : (parameters : ℕ) (s : Size) → IsSmallSize (wide parameters s) → IsSmallSize (spilled_size s)
small_spilled parameters s =
    small_within (spilled_size s) (wide parameters s) (omega arith) (omega arith) (omega arith) (omega arith)

small_split : (parameters : ℕ) (s : Size) → IsSmallSize (wide parameters s) → IsSmallSize (split_size parameters s)
small_split parameters s =
    small_within (split_size parameters s) (wide parameters s) (omega arith) (omega arith) (omega arith) (omega arith)

-- it is countable, can be spilled, and can be split
pub countable : {m : Mach} (parameters : ℕ) → HasRoom (wide parameters) m → IsCountable m
countable parameters room = room_within (wide parameters) (λ s. s) (small_itself parameters) room

pub can_be_spilled : {m : Mach} (parameters : ℕ) → HasRoom (wide parameters) m → HasRoom spilled_size m
can_be_spilled parameters room = room_within (wide parameters) spilled_size (small_spilled parameters) room

pub can_be_split : {m : Mach} (parameters : ℕ) → HasRoom (wide parameters) m → HasRoom (split_size parameters) m
can_be_split parameters room = room_within (wide parameters) (split_size parameters) (small_split parameters) room

-- and what spilling makes of it can be split
pub spilled_can_be_split : {m q : Mach} → WellFormed m → WellPlaced m → ParamsPlaced m → IsSpilled m q → HasRoom (wide (length m.params)) m →
    HasRoom (split_size (length q.params)) q
spilled_can_be_split {m} {q} formed placed params made room =
    subst (λ n. HasRoom (split_size n) q) (sym (ap (λ (k : Mach). length k.params) made.is))
    (record {
      size = spilled_size room.size;
      within = (spilled_kept m q formed placed params made).size room.size room.within;
      small = room.small;
    })
