use Rattle.std.proofs.Common.{◌≡◌, ◌++◌, drop}
use Rattle.rv_machine.specs.Text.{shown_text}
use Rattle.text_commands.proofs.lines.put_shown.Given as goal

abbrev pub invariant-loop-obs : goal.invariant-loop-obs
invariant-loop-obs l = l.initial.page.bytes.items ++ shown_text l.shown ≡ l.page.bytes.items ++ shown_text (drop l.obs-index l.shown)
