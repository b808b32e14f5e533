use Rattle.cmm_tree.specs.View.{function_view}
use Rattle.text_commands.proofs.call.call_of.Goals as goal

pub returns-in-None-2-clause-refused : goal.returns-in-None-2-clause-refused
returns-in-None-2-clause-refused c = record {
  entry = c.in-Some.entry.number;
  f = function_view c.in-Some.entry.function.now;
  named = c.in-Some.ensures;
  unfit = rw c.in-None-2.is at c.in_ok-args.ensures;
}
