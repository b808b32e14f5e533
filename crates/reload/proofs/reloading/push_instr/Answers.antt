use Rattle.reload.proofs.Numbers.{args_fit, results_fit}
use Rattle.reload.proofs.reloading.push_instr.Goals as goal

pub number_past-second-requires : goal.number_past-second-requires
number_past-second-requires c =
    record {
      room =
          args_fit c.args.number c.args.instr _ _ c.reads_registers-reads.ensures c.as_slice.ensures c.requires.room;
    }

pub number_past-next-requires : goal.number_past-next-requires
number_past-next-requires c =
    record {
      room =
          results_fit c.args.number _ c.args.instr _ _ _ _ c.reads_registers-reads.ensures c.writes_registers-writes.ensures
          c.as_slice.ensures c.as_slice-2.ensures c.number_past-second.ensures c.requires.room;
    }

pub push_reloads-requires : goal.push_reloads-requires
push_reloads-requires c =
    record {
      room =
          args_fit c.args.number c.args.instr _ _ c.reads_registers-reads.ensures c.as_slice-3.ensures c.requires.room;
    }

pub renewed-requires : goal.renewed-requires
renewed-requires c =
    record {
      room =
          args_fit c.args.number c.args.instr _ _ c.reads_registers-reads.ensures c.as_slice-4.ensures c.requires.room;
    }

pub renewed-requires-2 : goal.renewed-requires-2
renewed-requires-2 c =
    record {
      room =
          results_fit c.args.number _ c.args.instr _ _ _ _ c.reads_registers-reads.ensures c.writes_registers-writes.ensures
          c.as_slice.ensures c.as_slice-5.ensures c.number_past-second.ensures c.requires.room;
    }

pub push_spills-requires : goal.push_spills-requires
push_spills-requires c =
    record {
      room =
          results_fit c.args.number _ c.args.instr _ _ _ _ c.reads_registers-reads.ensures c.writes_registers-writes.ensures
          c.as_slice.ensures c.as_slice-6.ensures c.number_past-second.ensures c.requires.room;
    }
