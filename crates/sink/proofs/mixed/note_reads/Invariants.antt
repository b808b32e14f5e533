use Rattle.std.proofs.Common.{◌≡◌, drop}
use Rattle.dataflow.specs.Rows.{set_in_row}
use Rattle.sink.specs.Mixed.{noted_reads}
use Rattle.sink.proofs.mixed.note_reads.Given as goal

abbrev pub invariant-loop-reg : goal.invariant-loop-reg
invariant-loop-reg l =
    noted_reads (set_in_row l.fresh.rows.items l.place) (set_in_row l.stale.rows.items l.place) (drop l.reg-index l.regs) l.mixed
    ≡ noted_reads (set_in_row l.fresh.rows.items l.place) (set_in_row l.stale.rows.items l.place) l.regs l.initial.mixed
