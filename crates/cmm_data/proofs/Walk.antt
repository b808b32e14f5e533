-- The faults of lists one after the other.
use Rattle.std.proofs.Common.{◌≡◌, ◌∙◌, ℕ, ◌+◌, ◌≤◌, Bool, true, false, cond, ◌&&◌, nat_le, nat_lt, List, [], ◌∷◌, ◌++◌, Option, Some, None, refl, ap, sym, arith}
use Rattle.std.proofs.lemmas.Grind.{common_steps}
use Rattle.bs_words.specs.Fits.{data_limit, data_start}
use Rattle.bs_fault.specs.declared.fault.Fault.{Fault}
use Rattle.bs_fault.specs.declared.fault.Fault.TheVariants.{DataTooLarge, DataItem}
use Rattle.cmm_tree.specs.Tree.{DataListTree, DataItemTree}
use Rattle.cmm_data.specs.Placement.{PlacedItem, size_at, items_from, start_behind, end_behind, lists_behind, items_of_lists}
use Rattle.cmm_data.specs.Faults.{keeps_rule, fault_on, or_later, first_fault}

or_later-assoc : (a b c : Option Fault) → or_later a (or_later b c) ≡ or_later (or_later a b) c
or_later-assoc None b c = refl
or_later-assoc (Some f) b c = refl

pub first_fault-append : (xs ys : List PlacedItem) → first_fault (xs ++ ys) ≡ or_later (first_fault xs) (first_fault ys)
first_fault-append [] ys = refl
first_fault-append (x ∷ xs) ys =
    ap (or_later (fault_on x)) (first_fault-append xs ys) ∙ or_later-assoc (fault_on x) (first_fault xs) (first_fault ys)

-- a fault in the next list is the first one
pub first_fault-next : (end : ℕ) (d : DataListTree) (lists : List DataListTree) (fault : Fault) →
    first_fault (items_from (start_behind end) d.items) ≡ Some fault →
    first_fault (items_of_lists (lists_behind end (d ∷ lists))) ≡ Some fault
first_fault-next end d lists fault h =
    first_fault-append (items_from (start_behind end) d.items) (items_of_lists (lists_behind (end_behind end d) lists))
    ∙ ap (λ (f : Option Fault). or_later f (first_fault (items_of_lists (lists_behind (end_behind end d) lists)))) h

-- where there is none, it is the first one after that list
pub first_fault-behind : (end : ℕ) (d : DataListTree) (lists : List DataListTree) →
    first_fault (items_from (start_behind end) d.items) ≡ None →
    first_fault (items_of_lists (lists_behind end (d ∷ lists))) ≡ first_fault (items_of_lists (lists_behind (end_behind end d) lists))
first_fault-behind end d lists h =
    first_fault-append (items_from (start_behind end) d.items) (items_of_lists (lists_behind (end_behind end d) lists))
    ∙ ap (λ (f : Option Fault). or_later f (first_fault (items_of_lists (lists_behind (end_behind end d) lists)))) h

-- ---- items that have no fault

-- The first item has no fault, nor have the others.
pub record IsSound (address : ℕ) (i : DataItemTree) (items : List DataItemTree) : Type 0 where
  pub rule : keeps_rule address i.datum ≡ true
  pub within : address + size_at address i.datum ≤ data_start + data_limit
  pub behind : first_fault (items_from (address + size_at address i.datum) items) ≡ None

none-first : (a b : Option Fault) → or_later a b ≡ None → a ≡ None
none-first None b h = refl
none-first (Some f) b h = absurd (cc)

none-later : (a b : Option Fault) → or_later a b ≡ None → b ≡ None
none-later None b h = h
none-later (Some f) b h = absurd (cc)

passes-not : (passes keeps : Bool) (f g : Fault) → cond passes (Some f) (cond keeps None (Some g)) ≡ None → passes ≡ false
passes-not true keeps f g h = absurd (cc)
passes-not false keeps f g h = refl

keeps-it : (passes keeps : Bool) (f g : Fault) → cond passes (Some f) (cond keeps None (Some g)) ≡ None → keeps ≡ true
keeps-it true keeps f g h = absurd (cc)
keeps-it false true f g h = refl
keeps-it false false f g h = absurd (cc)

not-past : (address size limit : ℕ) → address ≤ limit → (nat_le address limit && nat_lt limit (address + size)) ≡ false → address + size ≤ limit
not-past address size limit h passes = grind (arith, common_steps)

pub sound-first : (address : ℕ) (i : DataItemTree) (items : List DataItemTree) → address ≤ data_start + data_limit →
    first_fault (items_from address (i ∷ items)) ≡ None → IsSound address i items
sound-first address i items h none =
    let placed : PlacedItem = record { at = i.at; address = address; datum = i.datum } in
    let rest = first_fault (items_from (address + size_at address i.datum) items) in
    let first : fault_on placed ≡ None = none-first (fault_on placed) rest none in
    let passes = nat_le address (data_start + data_limit) && nat_lt (data_start + data_limit) (address + size_at address i.datum) in
    record {
      rule = keeps-it passes (keeps_rule address i.datum) (DataTooLarge i.at) (DataItem i.at) first;
      within = not-past address (size_at address i.datum) (data_start + data_limit) h
          (passes-not passes (keeps_rule address i.datum) (DataTooLarge i.at) (DataItem i.at) first);
      behind = none-later (fault_on placed) rest none;
    }

-- ---- lists that have no fault

none-both : (a b : Option Fault) → or_later a b ≡ None → (a ≡ None) × (b ≡ None)
none-both a b h = (none-first a b h, none-later a b h)

-- the next list has no fault, nor have those after it
pub sound-list : (end : ℕ) (d : DataListTree) (lists : List DataListTree) →
    first_fault (items_of_lists (lists_behind end (d ∷ lists))) ≡ None →
    (first_fault (items_from (start_behind end) d.items) ≡ None)
    × (first_fault (items_of_lists (lists_behind (end_behind end d) lists)) ≡ None)
sound-list end d lists h =
    none-both (first_fault (items_from (start_behind end) d.items)) (first_fault (items_of_lists (lists_behind (end_behind end d) lists)))
    (sym (first_fault-append (items_from (start_behind end) d.items) (items_of_lists (lists_behind (end_behind end d) lists))) ∙ h)

-- a list begins within the limit, which is a multiple of 8
pub start-within : (end : ℕ) → end ≤ data_start + data_limit → start_behind end ≤ data_start + data_limit
start-within end h = omega arith
