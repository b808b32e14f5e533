-- There are numbers for all that the passes before register allocation make.
use Rattle.std.proofs.Common.{ℕ, length, sym, ap, subst, arith}
use Rattle.mach_ir.specs.Sizes.{Size, IsSmallSize, HasRoom, IsCountable}
use Rattle.mach_ir.specs.declared.mach.Mach.{Mach}
use Rattle.prepare_rules.specs.Prepared.{IsPreparable, prepared_size}
use Rattle.pass_rules.proofs.Room.{small_within, room_within}
use Rattle.sink_rules.specs.Chosen.{IsSunk}
use Rattle.sink_rules.specs.Known.{IsSpilled, spilled_size}
use Rattle.split_rules.specs.Split.{split_size}
use Rattle.prepare_rules.proofs.Whole.{IsStage, sunk_size, IsCut, cut_stage, sunk_stage, slots_stage}

-- What a stage makes has room to grow where the function has room for both.
room_after : {more : ℕ} {grown : Size → Size} {m q : Mach} (wider : Size → Size) → IsStage more grown m q →
    HasRoom (λ s. wider (grown s)) m → HasRoom wider q
room_after {grown = grown} wider stage room =
    record { size = grown room.size; within = stage.size room.size room.within; small = room.small }

small_at_first : (parameters : ℕ) (s : Size) → IsSmallSize (prepared_size parameters s) → IsSmallSize s
small_at_first parameters s =
    small_within s (prepared_size parameters s) (omega arith) (omega arith) (omega arith) (omega arith)

small_with_slots : (parameters : ℕ) (s : Size) → IsSmallSize (prepared_size parameters s) → IsSmallSize (spilled_size (sunk_size s))
small_with_slots parameters s =
    small_within (spilled_size (sunk_size s)) (prepared_size parameters s) (omega arith) (omega arith) (omega arith) (omega arith)

module _ (m : Mach) (is : IsPreparable m) (room : HasRoom (prepared_size (length m.params)) m) where
  pub countable : IsCountable m
  countable = room_within (prepared_size (length m.params)) (λ s. s) (small_at_first (length m.params)) room

  pub cut_countable : {q : Mach} → IsCut m q → IsCountable q
  cut_countable cut = room_after (λ s. s) (cut_stage cut) countable

  pub sunk_room : {hoisted q : Mach} → IsCut m hoisted → IsSunk hoisted q → HasRoom spilled_size q
  sunk_room cut made =
      room_after spilled_size (sunk_stage is cut made)
      (room_within (prepared_size (length m.params)) (λ s. spilled_size (sunk_size s)) (small_with_slots (length m.params)) room)

  pub spilled_room : {hoisted sunk q : Mach} → IsCut m hoisted → IsSunk hoisted sunk → IsSpilled sunk q → HasRoom (split_size (length q.params)) q
  spilled_room {q = q} cut made spilled =
      let slots = slots_stage is cut made spilled in
      subst (λ n. HasRoom (split_size n) q) (sym (ap length slots.params)) (room_after (split_size (length m.params)) slots room)
