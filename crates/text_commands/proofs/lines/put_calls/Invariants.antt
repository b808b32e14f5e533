use Rattle.std.proofs.Common.{◌≡◌, ◌++◌, drop, map}
use Rattle.eval_frames.specs.Views.{call_view}
use Rattle.rv_machine.specs.Text.{calls_text}
use Rattle.text_commands.proofs.lines.put_calls.Given as goal

abbrev pub invariant-loop-call : goal.invariant-loop-call
invariant-loop-call l =
    l.initial.page.bytes.items ++ calls_text (map call_view l.calls) ≡ l.page.bytes.items ++ calls_text (map call_view (drop l.call-index l.calls))
