-- What reloading makes of a function is kept, and is one function.
use Rattle.std.proofs.Common.{◌≡◌, ℕ, ◌+◌, Bool, true, false, refl, ap, subst, arith}
use Rattle.std.proofs.lemmas.Bool.{both_ways}
use Rattle.std.proofs.Math.Nat.{le_antisymm}
use Rattle.mach_ir.specs.Formed.{WellFormed}
use Rattle.mach_ir.specs.Placed.{Colouring, IsProperColouring, WellPlaced}
use Rattle.mach_ir.specs.Sizes.{HasSize}
use Rattle.mach_ir.specs.Walks.{IsRegister, Joined}
use Rattle.mach_ir.specs.declared.mach.Mach.{Mach}
use Rattle.pass_rules.specs.Measures.{other_operands}
use Rattle.colouring_rules.specs.Places.{ColoursLow, with_colouring}
use Rattle.colouring_rules.proofs.Colouring.{coloured_kept}
use Rattle.colouring_rules.proofs.Open.{not_open}
use Rattle.colouring_rules.proofs.Text.{placed_formed}
use Rattle.colouring_rules.proofs.Whole.{placed_keeps, placed_well, placed_seated, placed_size, placed_slots}
use Rattle.reload_rules.specs.Kept.{with_copies, IsReloadKept}
use Rattle.reload_rules.specs.Reloaded.{any_needs, reloaded, to_slots, in_slots, IsFree, IsReloadedBy, is_coloured, asks_again}
use Rattle.reload_rules.proofs.Copies.{placed_others}
use Rattle.reload_rules.proofs.Formed.{reloaded_formed}
use Rattle.reload_rules.proofs.Live.{IsNumbering, reloaded_by}
use Rattle.reload_rules.proofs.Numbering.{numbering, is_numbering, numbered_same}
use Rattle.reload_rules.proofs.Placed.{reloaded_placed, reloaded_low, reloaded_seated}
use Rattle.reload_rules.proofs.Room.{with_more}
use Rattle.reload_rules.proofs.Slotted.{slots_placing, slots_least, slots_low, slots_above, coloured_needs}
use Rattle.reload_rules.proofs.Whole.{reloaded_keeps, reloaded_slots, reloaded_size, reloaded_registers}
use Rattle.mach_laws.specs.Passes.{IsPassKept}
use Rattle.mach_laws.proofs.Passes.{pass_then}

module _ (m : Mach) (place : Colouring) (formed : WellFormed m) (well : WellPlaced m) (low : ColoursLow m)
    (colouring : IsProperColouring (IsRegister m) (Joined m) place) where
  of_coloured : any_needs (in_slots place m).code ≡ false → IsReloadKept m (with_colouring place m) false
  of_coloured none =
      let kept = coloured_kept m place formed well colouring low in
      record {
        pass = kept.pass;
        all_placed = λ e. kept.placed;
        colours_low = λ r k c i u. absurd (not_open k ((kept.placed).places k i) u);
        in_registers = coloured_needs m place formed well colouring none;
        size = λ s h. with_more (other_operands m.code) (kept.size s h);
        slots = kept.slots;
      }

  abbrev m1 : Mach
  m1 = in_slots place m

  well_there : WellPlaced (in_slots place m)
  well_there = placed_well m (to_slots place) formed well (slots_placing m place formed well colouring) (slots_least m place formed well colouring)

  formed_there : WellFormed (in_slots place m)
  formed_there = placed_formed (to_slots place) m formed

  module _ (free : ℕ) (is_free : IsFree m free) where
    numbers : IsNumbering (in_slots place m) (numbering free (in_slots place m)) free (free + other_operands (in_slots place m).code)
    numbers = is_numbering (in_slots place m) free (slots_above m place formed well colouring free is_free.above)

    abbrev s : ℕ → ℕ
    s = numbering free (in_slots place m)

    abbrev top : ℕ
    top = free + other_operands (in_slots place m).code

    of_slots : IsPassKept m (in_slots place m)
    of_slots =
        record {
          keeps = placed_keeps m (to_slots place) formed well (slots_placing m place formed well colouring);
          formed = formed_there;
          placed = λ _. well_there;
          seated = placed_seated m (to_slots place) formed well (slots_placing m place formed well colouring);
        }

    of_copies : IsPassKept (in_slots place m) (reloaded_by (numbering free (in_slots place m)) (in_slots place m))
    of_copies =
        record {
          keeps = reloaded_keeps m1 s free top formed_there well_there numbers;
          formed = reloaded_formed m1 s free top formed_there well_there numbers;
          placed = λ _. reloaded_placed m1 s free top formed_there well_there numbers;
          seated = reloaded_seated m1 s free top formed_there well_there numbers;
        }

    of_numbered : IsReloadKept m (reloaded_by (numbering free (in_slots place m)) (in_slots place m)) true
    of_numbered =
        record {
          pass = pass_then of_slots of_copies;
          all_placed = λ e. absurd (both_ways true e refl);
          colours_low = reloaded_low m1 s free top formed_there well_there numbers (slots_low m place formed well colouring low);
          in_registers = reloaded_registers m1 s free top formed_there well_there numbers;
          size = λ size h.
              let same = placed_others (to_slots place) m.code in
              let least = is_free.least size.registers h.numbers in
              subst (λ n. HasSize (reloaded_by s m1) (with_copies n size)) same
              (reloaded_size m1 s free top formed_there well_there numbers size (placed_size m (to_slots place) size h) (omega (arith, least)));
          slots = λ k few.
              let grown = placed_slots m formed (to_slots place) (slots_placing m place formed well colouring) k few in
              record {
                others = grown.others;
                few = grown.few;
                all = λ slot h. grown.all slot (reloaded_slots m1 s free top formed_there well_there numbers slot h);
              };
        }

    of_reloaded : IsReloadKept m (reloaded free (in_slots place m)) true
    of_reloaded = subst (λ q. IsReloadKept m q true) (numbered_same (in_slots place m) free) of_numbered

-- What reloading makes of a function by a colouring is kept.
pub reloaded_kept : (m q : Mach) (place : Colouring) (asks : Bool) → WellFormed m → WellPlaced m → ColoursLow m →
    IsProperColouring (IsRegister m) (Joined m) place → IsReloadedBy m place q asks → IsReloadKept m q asks
reloaded_kept m q place asks formed well low colouring (is_coloured e) = of_coloured m place formed well low colouring e
reloaded_kept m q place asks formed well low colouring (asks_again {free = free} e h) =
    of_reloaded m place formed well low colouring free h

-- It makes one of each.
pub one_reloaded : (m q k : Mach) (place : Colouring) (a b : Bool) → IsReloadedBy m place q a → IsReloadedBy m place k b →
    (q ≡ k) × (a ≡ b)
one_reloaded m q k place a b (is_coloured e) (is_coloured h) = (refl, refl)
one_reloaded m q k place a b (is_coloured e) (asks_again h g) = absurd (both_ways (any_needs (in_slots place m).code) e h)
one_reloaded m q k place a b (asks_again h g) (is_coloured e) = absurd (both_ways (any_needs (in_slots place m).code) e h)
one_reloaded m q k place a b (asks_again {free = x} e g) (asks_again {free = y} h f) =
    (ap (λ n. reloaded n (in_slots place m)) (le_antisymm (g.least y f.above) (f.least x g.above)), refl)
