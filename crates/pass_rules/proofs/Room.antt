-- Where a function has room for more, it has room for less.
use Rattle.std.proofs.Common.{◌≤◌, arith}
use Rattle.mach_ir.specs.Sizes.{Size, IsSmallSize, HasRoom}
use Rattle.mach_ir.specs.declared.mach.Mach.{Mach}

pub small_within : (s t : Size) → s.instrs ≤ t.instrs → s.operands ≤ t.operands → s.registers ≤ t.registers → s.labels ≤ t.labels →
    IsSmallSize t → IsSmallSize s
small_within s t instrs operands registers labels small =
    let a = small.places in
    let b = small.operands in
    let c = small.registers in
    let d = small.labels in
    record {
      places = omega (arith, instrs, a);
      operands = omega (arith, operands, b);
      registers = omega (arith, registers, c);
      labels = omega (arith, labels, d);
    }

pub room_within : {m : Mach} (wide narrow : Size → Size) → ((s : Size) → IsSmallSize (wide s) → IsSmallSize (narrow s)) → HasRoom wide m → HasRoom narrow m
room_within wide narrow less room = record { size = room.size; within = room.within; small = less room.size room.small }
