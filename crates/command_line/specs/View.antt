-- What a value of the code stands for.
use Rattle.std.specs.Prelude.{ℕ, List, map}
use Rattle.std.specs.String.{string_bytes}
use Rattle.std.specs.declared.string.String.{String}
use Rattle.std.specs.declared.alloc.Global.{Global}
use Rattle.bs_words.specs.Contents.{contents}
use Rattle.command_line.specs.declared.command.Command.{Command}
use Rattle.command_line.specs.declared.command.Command.TheVariants as command
use Rattle.command_line.specs.declared.command.RunWords.{RunWords}
use Rattle.command_line.specs.declared.command.CheckWords.{CheckWords}
use Rattle.command_line.specs.Command.{CommandTree, CompileCommand, RunCommand, CheckCommand, ListCommand, SoakCommand, RunTree, CheckTree}

abbrev pub run_view : RunWords → RunTree
run_view r =
    record { entry = r.entry; args = contents r.args; answers = contents r.answers; steps = r.steps; stack = r.stack; heap = r.heap; moves = r.moves }

abbrev pub check_view : CheckWords → CheckTree
check_view c =
    record { entry = c.entry; args = contents c.args; answers = contents c.answers; fuel = c.fuel; choices = c.choices }

abbrev pub view : Command → CommandTree
view (command.Compile choices jobs) = CompileCommand choices jobs
view (command.Run r) = RunCommand (run_view r)
view (command.Check c) = CheckCommand (check_view c)
view (command.List choices stage) = ListCommand choices stage
view (command.Soak seed functions) = SoakCommand seed functions

-- the words, each as its bytes
abbrev pub texts : List (String Global) → List (List ℕ)
texts words = map string_bytes words
