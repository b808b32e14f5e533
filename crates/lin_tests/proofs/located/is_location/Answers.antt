use Rattle.std.proofs.Common.{⊎_elim, sym, subst, arith}
use Rattle.std.proofs.lemmas.Bool.{lt-ltb, ltb-true}
use Rattle.lin_ir.specs.Formed.{is_colour, is_slot, IsLocation, is_home}
use Rattle.lin_tests.proofs.Locations.{register_of, slot_of}
use Rattle.lin_tests.proofs.located.is_location.Goals as goal

pub returns-else-register-eq-SPARE : goal.returns-else-register-eq-SPARE
returns-else-register-eq-SPARE c =
    let n = c.in-Machine.register in
    let other = c.if-register-eq-SPARE.false in (
      λ e. subst (IsLocation c.args.lin.now) (sym c.in-Machine.is) (is_home (is_colour (c.is_colour.ensures.0 e))),
      λ l.
          ⊎_elim (λ h. c.is_colour.ensures.1 h) (λ e. absurd (omega (arith, other, e)))
          (register_of c.args.lin.now n (subst (IsLocation c.args.lin.now) c.in-Machine.is l)),
    )

pub returns-in-Slot : goal.returns-in-Slot
returns-in-Slot c = (
  λ e. subst (IsLocation c.args.lin.now) (sym c.in-Slot.is) (is_home (is_slot (ltb-true c.in-Slot.slot c.args.lin.now.slots e))),
  λ l.
      let lt = slot_of c.args.lin.now c.in-Slot.slot (subst (IsLocation c.args.lin.now) c.in-Slot.is l) in
      lt-ltb c.in-Slot.slot c.args.lin.now.slots lt,
)
