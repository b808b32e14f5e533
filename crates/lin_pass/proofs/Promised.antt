-- What holds of the Linear function.
use Rattle.std.proofs.Common.{◌≡◌, ℕ, ◌≤◌, true, ⊎_elim, Result, Ok, Err, length, sym, ap, subst, arith}
use Rattle.std.specs.List.{Contains}
use Rattle.std.specs.Prelude.{IfOk}
use Rattle.mach_ir.specs.Formed as mach_formed
use Rattle.mach_ir.specs.Formed.{WellFormed}
use Rattle.mach_ir.specs.Placed.{FullyPlaced}
use Rattle.mach_ir.specs.Seats.{Seated}
use Rattle.mach_ir.specs.declared.mach.Mach.{Mach}
use Rattle.lin_ir.specs.Formed.{labels_in}
use Rattle.lin_ir.specs.declared.lin.Lin.{Lin}
use Rattle.lin_laws.specs.Graph.{AreNumbered}
use Rattle.lin_flow.proofs.Begun.{are_numbered}
use Rattle.linearise_rules.specs.Keeps.{KeepsReached}
use Rattle.linearise_rules.specs.Lowered.{is_among_numbers, slots_of_function, slot_number, slot_count, lowered}
use Rattle.linearise_rules.proofs.Lowering.{lowered_keeps_reached, lowered_well_formed, lowered_slots, lowered_lines, lowered_labels}
use Rattle.linearise_rules.proofs.Slots.{slot_occurs_in_code, slot_occurs_in_params, slot_stands, numbers_apart, numbers_below, numbers_onto}
use Rattle.lin_tidy.specs.Known.{Tidies, IsRegular, IsTidied}
use Rattle.lin_tidy.proofs.Known.{tidied_tidies, keeps_tidied, lowered_regular, KeepsShape, tidied_shape, ways_few, tidied_regular, tidy_tight, tidied_keeps, tidied_no_addr}
use Rattle.lin_pass.specs.Linear.{IsSlotOf, OneForEach, IsLinearOf}
use Rattle.lin_pass.proofs.Named.{no_spare, all_homes}

module _ (p : Mach) where
  occurs : (k : ℕ) → IsSlotOf p k → is_among_numbers k (slots_of_function p) ≡ true
  occurs k h = ⊎_elim (λ c. slot_occurs_in_params p k h.0 c h.2) (λ c. slot_occurs_in_code p k h.0 c h.2) h.1

  -- one slot for each slot number that occurs
  one_for_each : OneForEach p (slot_count p)
  one_for_each =
      record {
        number = slot_number p;
        below = λ k h. numbers_below p k (occurs k h);
        apart = λ k n h i same. numbers_apart p k n (occurs k h) (occurs n i) same;
        onto = λ n lt. let y = numbers_onto p n lt in (y.0, slot_stands p y.0 y.1, y.2);
      }

module _ (p : Mach) (well : WellFormed p) (placed : FullyPlaced p) where
  pub lowered_numbered : AreNumbered (lowered p)
  lowered_numbered = are_numbered (lowered p) (lowered_well_formed p well placed).locations

  pub is_linear : (r : Lin) → Seated p → IsTidied (lowered p) r → IsLinearOf p r
  is_linear r seated t =
      let keeps : KeepsReached p (lowered p) = lowered_keeps_reached p well placed in
      let first : IsRegular (lowered p) = lowered_regular p well placed seated in
      let tidies : Tidies (lowered p) r = tidied_tidies first t in
      let regular : IsRegular r = tidied_regular tidies first in
      let shape : KeepsShape (lowered p) r = tidied_shape t first in
      let shape_lines = shape.lines in
      let shape_labels = shape.few_labels in
      let ways = ways_few (slot_number p) p.code in
      let own_labels : length (labels_in (lowered p).code) ≡ length (mach_formed.labels_in p.code) = ap length (lowered_labels p) in
      let lines = lowered_lines p in
      let slots : r.slots ≡ slot_count p = shape.slots in
      record {
        made = t;
        reached = keeps_tidied keeps first tidies;
        keeps = λ safe named exact. tidied_keeps keeps first tidies t.tidy safe named exact;
        no_addr = λ safe. tidied_no_addr keeps first tidies t.tidy safe;
        tidy = t.tidy;
        tight = tidy_tight r regular t.tidy;
        regular = regular;
        slots = subst (OneForEach p) (sym slots) (one_for_each p);
        labels = λ l among. shape.labels l (subst (λ ls. Contains ls l) (sym (lowered_labels p)) among);
        labels_few = omega (arith, shape_labels, ways, own_labels);
        spare_dead = no_spare r regular.homes;
        named = all_homes r regular.homes;
        lines = omega (arith, shape_lines, lines, ways);
        slots_few = λ s size. subst (λ n. n ≤ s.registers) (sym slots) (lowered_slots p placed s size);
      }

  pub linear_ok : {E : Type 0} (m : Lin) (o : Result Lin E) → Seated p → m ≡ lowered p → IfOk o (IsTidied m) → IfOk o (IsLinearOf p)
  linear_ok m (Ok r) seated same t = is_linear r seated (subst (λ m. IsTidied m r) same t)
  linear_ok m (Err e) seated same t = t
