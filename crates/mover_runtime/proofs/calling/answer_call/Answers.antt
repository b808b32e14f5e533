use Rattle.std.proofs.Common.{[], refl, drop}
use Rattle.image_form.specs.Tables.{ext}
use Rattle.rv_machine.specs.Services.{Asks, call_made}
use Rattle.mover_runtime.specs.Outcome.{calling_none}
use Rattle.mover_runtime.proofs.Rows.{none_taken, asks_now}
use Rattle.mover_runtime.proofs.calling.answer_call.Goals as goal

pub returns-in_ok-write_made_line-in-None-clause-reported : goal.returns-in_ok-write_made_line-in-None-clause-reported
returns-in_ok-write_made_line-in-None-clause-reported g c = (
  [],
  Asks (call_made (ext c.args.row.now) c.args.machine.now),
  asks_now c.args.row.now.result c.in-Comp.field-0 (call_made (ext c.args.row.now) c.args.machine.now) (drop c.args.taken.now c.args.answers.now)
      (calling_none c.args.machine.now c.args.returns (drop c.args.taken.now c.args.answers.now)) c.in-Comp.is
      (none_taken c.args.answers.now c.args.taken.now c.in-None.ensures.lookup.3),
  refl,
)
