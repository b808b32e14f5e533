-- A function whose registers are where a colouring has slots for them, the others as they were.
use Rattle.std.proofs.Common.{◌≡◌, ◌≢◌, ℕ, ◌<◌, ◌≤◌, Bool, true, false, ◌⊎◌, inl, inr, ⊎_elim, List, [], ◌∷◌, refl, sym, ap, ◌∙◌, subst}
use Rattle.std.specs.List.{Contains}
use Rattle.std.specs.Prelude.{◌||◌}
use Rattle.bs_words.specs.declared.types.Loc.{Loc}
use Rattle.bs_words.specs.declared.types.Loc.TheVariants as loc
use Rattle.bs_words.proofs.Lists.{first_in, later_in}
use Rattle.mach_ir.specs.Formed.{WellFormed}
use Rattle.mach_ir.specs.Placed.{Colouring, IsProperColouring, HasColourOrSlot, in_colour, in_slot, MayShare, WellPlaced}
use Rattle.mach_ir.specs.Walks.{InCode, in_args, in_results, further, IsRegister, is_in_code, Joined}
use Rattle.mach_ir.specs.declared.reg.Reg.{Reg}
use Rattle.mach_ir.specs.declared.mach.Instr.{Instr}
use Rattle.mach_ir.specs.declared.mach.Mach.{Mach}
use Rattle.colouring_rules.specs.Places.{LocationAssignment, IsProperAssignment, ColoursLow, located_register, all_placed, placed_code}
use Rattle.colouring_rules.proofs.Open.{slot_open, machine_slot}
use Rattle.colouring_rules.proofs.Lists.{was}
use Rattle.colouring_rules.proofs.Text.{was_register}
use Rattle.colouring_rules.proofs.Walked.{colour_place}
use Rattle.reload_rules.specs.Reloaded.{reads_registers, writes_registers, is_in_slot, is_renewed, any_renewed, any_needs, slot_or, to_slots, in_slots}

-- what becomes of a register's place
data Put (place : Colouring) (r : Reg) : Type 0 where
  to_slot : (k : ℕ) → place r.number ≡ loc.Slot k → to_slots place r ≡ loc.Slot k → Put place r
  as_was : is_in_slot (place r.number) ≡ false → to_slots place r ≡ r.loc → Put place r

put_of : (place : Colouring) (r : Reg) → Put place r
put_of place r = by (place r.number) refl
  where
    by : (l : Loc) → place r.number ≡ l → Put place r
    by (loc.Slot k) e = to_slot k e (ap (slot_or r.loc) e)
    by (loc.Machine n) e = as_was (ap is_in_slot e) (ap (slot_or r.loc) e)
    by loc.Unset e = as_was (ap is_in_slot e) (ap (slot_or r.loc) e)

module _ (m : Mach) (place : Colouring) (formed : WellFormed m) (well : WellPlaced m)
    (colouring : IsProperColouring (IsRegister m) (Joined m) place) where
  -- one that is not open is where the colouring has it
  place_same : (r : Reg) → IsRegister m r → to_slots place r ≢ loc.Unset → place r.number ≡ to_slots place r
  place_same r i ne = by (put_of place r)
    where
      by : Put place r → place r.number ≡ to_slots place r
      by (to_slot k e h) = e ∙ sym h
      by (as_was t h) = ⊎_elim (λ u. absurd (ne (h ∙ u))) (λ p. p ∙ sym h) (colouring.fixed r i)

  fixed : (r : Reg) → IsRegister m r → (r.loc ≡ loc.Unset) ⊎ (to_slots place r ≡ r.loc)
  fixed r i = by (put_of place r)
    where
      by : Put place r → (r.loc ≡ loc.Unset) ⊎ (to_slots place r ≡ r.loc)
      by (to_slot k e h) = ⊎_elim inl (λ p. inr (h ∙ sym e ∙ p)) (colouring.fixed r i)
      by (as_was t h) = inr h

  moved : (r : Reg) (l : Loc) → to_slots place r ≡ l → HasColourOrSlot (record r { loc = l }) → HasColourOrSlot (located_register (to_slots place) r)
  moved r l e (in_colour n c h) = in_colour n c (e ∙ h)
  moved r l e (in_slot h) = in_slot (e ∙ h)

  as_itself : (r : Reg) → HasColourOrSlot r → HasColourOrSlot (record r { loc = r.loc })
  as_itself r (in_colour n c h) = in_colour n c h
  as_itself r (in_slot h) = in_slot h

  places : (r : Reg) → IsRegister m r → (to_slots place r ≡ loc.Unset) ⊎ HasColourOrSlot (located_register (to_slots place) r)
  places r i = by (put_of place r)
    where
      by : Put place r → (to_slots place r ≡ loc.Unset) ⊎ HasColourOrSlot (located_register (to_slots place) r)
      by (to_slot k e h) = inr (moved r (place r.number) (h ∙ sym e) (colouring.places r i))
      by (as_was t h) =
          ⊎_elim (λ u. inl (h ∙ u)) (λ p. inr (moved r r.loc h (as_itself r p))) ((well.agree).places r i)

  apart : (r k : Reg) → IsRegister m r → IsRegister m k → Joined m r.number k.number → to_slots place r ≢ loc.Unset →
      to_slots place r ≡ to_slots place k → MayShare (located_register (to_slots place) r) (located_register (to_slots place) k)
  apart r k i j joined ne e =
      let one = place_same r i ne in
      let two = place_same k j (λ u. ne (e ∙ u)) in
      let share = colouring.apart r k i j joined (one ∙ e ∙ sym two) in (share.0, sym one ∙ share.1)

  pub slots_placing : IsProperAssignment m (to_slots place)
  slots_placing = record { fixed = fixed; places = places; apart = apart }

  pub slots_least : (r k : Reg) → Contains m.colours r → IsRegister m k → to_slots place k ≡ r.loc → r.number ≤ k.number
  slots_least r k c i e = by (put_of place k)
    where
      by : Put place k → r.number ≤ k.number
      by (to_slot n a h) = let p = colour_place well r c in absurd (machine_slot p.1 (sym e ∙ h))
      by (as_was t h) = (well.colours).least r k c i (sym h ∙ e)

  pub slots_low : ColoursLow m → ColoursLow (in_slots place m)
  slots_low low r k c i open_one =
      let w = was (located_register (to_slots place)) m.colours r c in
      let v = was_register (to_slots place) m k i in
      subst (λ n. r.number < n) (ap (λ (r : Reg). r.number) v.same)
      (subst (λ n. n < (v.register).number) (ap (λ (r : Reg). r.number) w.same)
      (low w.what v.register w.among v.among (by v.register (ap (λ (r : Reg). r.loc) v.same ∙ open_one) (put_of place v.register))))
    where
      by : (v : Reg) → to_slots place v ≡ loc.Unset → Put place v → v.loc ≡ loc.Unset
      by v e (to_slot n a h) = absurd (slot_open h e)
      by v e (as_was t h) = sym h ∙ e

  pub slots_above : (free : ℕ) → ((r : Reg) → IsRegister m r → r.number < free) → (r : Reg) → IsRegister (in_slots place m) r → r.number < free
  slots_above free above r i =
      let w = was_register (to_slots place) m r i in
      subst (λ n. n < free) (ap (λ (r : Reg). r.number) w.same) (above w.register w.among)

  -- ---- where none is in a slot

  same_slot : (r : Reg) → IsRegister m r → is_in_slot (place r.number) ≡ is_in_slot (to_slots place r)
  same_slot r i = by (put_of place r)
    where
      open_none : (l : Loc) → l ≡ loc.Unset → is_in_slot l ≡ false
      open_none l e = ap is_in_slot e

      by : Put place r → is_in_slot (place r.number) ≡ is_in_slot (to_slots place r)
      by (to_slot k e h) = ap is_in_slot (e ∙ sym h)
      by (as_was t h) =
          ⊎_elim (λ u. t ∙ sym (open_none (to_slots place r) (h ∙ u))) (λ p. ap is_in_slot (p ∙ sym h)) (colouring.fixed r i)

  abbrev by_number : LocationAssignment
  by_number r = place r.number

  same_renewed : (b : Bool) (r : Reg) → IsRegister m r → is_renewed b (located_register by_number r) ≡ is_renewed b (located_register (to_slots place) r)
  same_renewed true r i = same_slot r i
  same_renewed false r i = refl

  same_any : (b : Bool) (rs : List Reg) → ((r : Reg) → Contains rs r → IsRegister m r) →
      any_renewed b (all_placed by_number rs) ≡ any_renewed b (all_placed (to_slots place) rs)
  same_any b [] known = refl
  same_any b (r ∷ rs) known =
      ap (λ t. t || any_renewed b (all_placed by_number rs)) (same_renewed b r (known r (first_in r rs)))
      ∙ ap (λ t. is_renewed b (located_register (to_slots place) r) || t) (same_any b rs (λ k c. known k (later_in r k rs c)))

  same_needs : (code : List Instr) → ((r : Reg) → InCode r code → IsRegister m r) →
      any_needs (placed_code by_number code) ≡ any_needs (placed_code (to_slots place) code)
  same_needs [] known = refl
  same_needs (i ∷ is) known =
      ap (λ t. (t || any_renewed (writes_registers i.op) (all_placed by_number i.results)) || any_needs (placed_code by_number is))
      (same_any (reads_registers i.op) i.args (λ r c. known r (in_args c)))
      ∙ ap (λ t. (any_renewed (reads_registers i.op) (all_placed (to_slots place) i.args) || t) || any_needs (placed_code by_number is))
      (same_any (writes_registers i.op) i.results (λ r c. known r (in_results c)))
      ∙ ap
      (λ t.
      (any_renewed (reads_registers i.op) (all_placed (to_slots place) i.args)
      || any_renewed (writes_registers i.op) (all_placed (to_slots place) i.results))
      || t)
      (same_needs is (λ r c. known r (further c)))

  pub coloured_needs : any_needs (in_slots place m).code ≡ false → any_needs (placed_code (λ r. place r.number) m.code) ≡ false
  coloured_needs e = same_needs m.code (λ r c. is_in_code c) ∙ e
