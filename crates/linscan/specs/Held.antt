-- Which colours are closed to a register and who holds them, as tables, and what becomes of the next
-- register by them.
use Rattle.std.specs.Prelude.{◌≡◌, ℕ, ◌<◌, Bool, false, cond, ◌||◌, nat_eq, nat_lt, nat_le, List, [], ◌∷◌, Option, Some, None, slice_index_or}
use Rattle.bs_words.specs.declared.types.Loc.TheVariants as loc
use Rattle.mach_ir.specs.Placed.{Colouring}
use Rattle.colouring.specs.Chosen.{colouring_with}
use Rattle.linscan_rules.specs.Scan.{first_without}
use Rattle.linscan.specs.declared.active.Active.{Active}
use Rattle.linscan.specs.declared.choice.Choice.{Choice}
use Rattle.linscan.specs.declared.choice.Choice.TheVariants as choice
use Rattle.linscan.specs.declared.choice.Holder.{Holder}
use Rattle.linscan.specs.declared.closed.Closed.{Closed}
use Rattle.linscan.specs.declared.order.OpenRegister.{OpenRegister}

-- ---- tables

abbrev pub is_closed_in : Closed → ℕ → Bool
is_closed_in k c = slice_index_or k.items c false

abbrev pub holder_in : Active → ℕ → Option OpenRegister
holder_in a c = slice_index_or a.items c None

-- it has not ended before a place
abbrev pub is_held_by : Option OpenRegister → ℕ → Bool
is_held_by None from = false
is_held_by (Some r) from = nat_le from r.to

abbrev pub is_held_in : Active → ℕ → ℕ → Bool
is_held_in a from c = is_held_by (holder_in a c) from

abbrev pub is_shut : Active → Closed → ℕ → ℕ → Bool
is_shut a k from c = is_closed_in k c || is_held_in a from c

-- ---- who gives up

abbrev pub ends_after : OpenRegister → OpenRegister → Bool
ends_after x y =
    cond (nat_eq x.to y.to) (cond (nat_eq x.from y.from) (nat_lt y.number x.number) (nat_lt y.from x.from))
    (nat_lt y.to x.to)

abbrev pub later_holder : Option Holder → Option Holder → Option Holder
later_holder None o = o
later_holder (Some h) None = Some h
later_holder (Some h) (Some k) = cond (ends_after k.register h.register) (Some k) (Some h)

abbrev pub holder_if : Option OpenRegister → ℕ → ℕ → Option Holder
holder_if None from c = None
holder_if (Some r) from c = cond (nat_le from r.to) (Some (record { register = r; colour = c })) None

abbrev pub holder_to_give : Active → Closed → ℕ → ℕ → Option Holder
holder_to_give a k from c = cond (is_closed_in k c) None (holder_if (holder_in a c) from c)

abbrev pub last_holder : Active → Closed → ℕ → List ℕ → Option Holder
last_holder a k from [] = None
last_holder a k from (c ∷ cs) = later_holder (holder_to_give a k from c) (last_holder a k from cs)

-- ---- the choice

abbrev pub chosen_last : OpenRegister → Option Holder → Choice
chosen_last x None = choice.Slot
chosen_last x (Some h) = cond (nat_lt x.to h.register.to) (choice.Taken h) choice.Slot

abbrev pub chosen_of : OpenRegister → Option ℕ → Option Holder → Choice
chosen_of x None o = chosen_last x o
chosen_of x (Some c) o = choice.Free c

abbrev pub chosen : Active → Closed → OpenRegister → List ℕ → Choice
chosen a k x colours = chosen_of x (first_without (is_shut a k x.from) colours) (last_holder a k x.from colours)

-- ---- what it leaves

abbrev pub places_left : Colouring → OpenRegister → Choice → Colouring
places_left place x (choice.Free c) = colouring_with place x.number (loc.Machine c)
places_left place x (choice.Taken h) =
    colouring_with (colouring_with place h.register.number (loc.Slot h.register.origin)) x.number
    (loc.Machine h.colour)
places_left place x choice.Slot = colouring_with place x.number (loc.Slot x.origin)

abbrev pub holder_left : (ℕ → Option OpenRegister) → OpenRegister → Choice → ℕ → Option OpenRegister
holder_left hold x (choice.Free c) k = cond (nat_eq k c) (Some x) (hold k)
holder_left hold x (choice.Taken h) k = cond (nat_eq k h.colour) (Some x) (hold k)
holder_left hold x choice.Slot k = hold k

-- the number of the one that gives its colour is below a bound
abbrev pub IsGiverBelow : ℕ → Choice → Type 0
IsGiverBelow bound c = (h : Holder) → c ≡ choice.Taken h → h.register.number < bound
