use Rattle.std.proofs.Common.{sym, subst}
use Rattle.interfere.specs.Partners.{AreSmall}
use Rattle.interfere.proofs.Moved.{move_small}
use Rattle.mach_laws.proofs.Places.{args_in_code, results_in_code}
use Rattle.interfere.proofs.Entering.{read_in}
use Rattle.interfere.proofs.partners.partners_of.Goals as goal

pub add_move-requires : goal.add_move-requires
add_move-requires c =
    let i = c.instr-item.result in
    let at = read_in c.args.code.now c.loop-instr.instr-index i c.loop-instr-test.true c.instr-item.is in
    subst (λ n. AreSmall n c.move_of.result) (sym c.loop-instr.invariant.len)
    (subst (AreSmall c.args.size) (sym c.move_of.ensures)
    (move_small c.args.size i (λ r a. c.requires r (args_in_code c.args.code.now i r at a))
    (λ r a. c.requires r (results_in_code c.args.code.now i r at a))))
