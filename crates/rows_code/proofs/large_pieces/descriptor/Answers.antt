use Rattle.std.proofs.Common.{◌≡◌, ℕ, suc, ◌+◌, sym, subst, refl, arith}
use Rattle.rows_code.specs.Points.{AreSlots, no_slot, one_slot}
use Rattle.rows_code.proofs.Points.{slots_describe}
use Rattle.rows_code.proofs.large_pieces.descriptor.Goals as goal

pub loop-entry-init : goal.loop-entry-init
loop-entry-init c = (subst (AreSlots 0) (sym c.new-offsets.ensures.items) no_slot, omega arith)

pub loop-entry-preserved : goal.loop-entry-preserved
loop-entry-preserved c =
    let before = c.loop-entry.invariant in
    let next : suc c.loop-entry.entry ≡ c.loop-entry.entry + 1 = omega arith in (
      subst (λ (n : ℕ). AreSlots n c.push.new.self.items) next
          (subst (AreSlots (suc c.loop-entry.entry)) (sym c.in_ok-push.ensures.items) (one_slot c.loop-entry.entry c.loop-entry.offsets.items before.0)),
      omega (arith, before.1, c.loop-entry-test.true),
    )

pub returns : goal.returns
returns c =
    let last = c.loop-entry.invariant in
    let all : c.loop-entry.entry ≡ c.args.entries = omega (arith, last.1, c.loop-entry-test.false) in
    slots_describe _ c.args.entries
    (subst (AreSlots c.args.entries) (sym c.from_vec.ensures) (subst (λ (n : ℕ). AreSlots n c.loop-entry.offsets.items) all last.0))
    c.requires refl
