-- A function has as few slots as the text has tokens, and its frame is as small.
use Rattle.std.proofs.Common.{◌≡◌, ℕ, ◌+◌, ◌*◌, ◌/◌, ◌<◌, ◌≤◌, ⊎_elim, Bool, true, false, cond, List, length, map, subst, arith}
use Rattle.std.specs.Prelude.{Contains, nat_eq}
use Rattle.std.specs.List.{list_any}
use Rattle.std.proofs.lemmas.List.{length-map}
use Rattle.std.proofs.lemmas.Map.Steps.{le-length_from_below}
use Rattle.std.proofs.lemmas.Map.Views.{list_any-from_Contains}
use Rattle.std.specs.Cmp.{nat_eq_equiv}
use Rattle.mach_ir.specs.Walks.{is_param, is_in_code}
use Rattle.mach_ir.specs.declared.mach.Mach.{Mach}
use Rattle.colouring_rules.specs.Places.{IsSlot, SlotsGrow}
use Rattle.lin_ir.specs.Descriptors.{has_frame_point, frame_bytes}
use Rattle.lin_ir.specs.declared.lin.Lin.{Lin}
use Rattle.chained_functions.specs.Known.{IsSlotOf, OneForEach}
use Rattle.bs_words.proofs.Lists.{mapped}

is_slot : (p : Mach) (k : ℕ) → IsSlotOf p k → IsSlot p k
is_slot p k h = record { register = h.0; among = ⊎_elim (λ c. is_param c) (λ c. is_in_code c) h.1; stands = h.2 }

-- Where slots are numbered one for each that occurs, there are no more of them than of numbers among which they are.
pub slots_among : (q : Mach) (slots : ℕ) (numbers : List ℕ) → ((slot : ℕ) → IsSlot q slot → Contains numbers slot) → OneForEach q slots →
    slots ≤ length numbers
slots_among q slots numbers among each =
    let bound = le-length_from_below (map each.number numbers) slots (λ n less. covered n less) in
    let same = length-map numbers each.number in
    omega (arith, bound, same)
  where
    covered : (n : ℕ) → n < slots → list_any (nat_eq n) (map each.number numbers) ≡ true
    covered n less =
        let k = each.onto n less in
        list_any-from_Contains nat_eq_equiv n (map each.number numbers)
        (subst (Contains (map each.number numbers)) k.2 (mapped each.number numbers k.0 (among k.0 (is_slot q k.0 k.1))))

-- So where they grow by so many from none, there are so many.
pub few_slots : (p q : Mach) (slots most : ℕ) → ((slot : ℕ) → IsSlot p slot → ⊥) → SlotsGrow p q most → OneForEach q slots → slots ≤ most
few_slots p q slots most none grows each =
    let bound = slots_among q slots grows.others (λ k s. ⊎_elim (λ was. absurd (none k was)) (λ c. c) (grows.all k s)) each in
    let few = grows.few in
    omega (arith, bound, few)

-- ---- frames

-- bytes of a frame of so many slots
pub frame_few : (m : Lin) (k : ℕ) → m.slots ≤ k → frame_bytes m ≤ 8 * k + 23
frame_few m k few = by (has_frame_point m.code)
  where
    by : (b : Bool) → (8 * m.slots + cond b 8 0 + 15) / 16 * 16 ≤ 8 * k + 23
    by true = omega (arith, few)
    by false = omega (arith, few)
