-- Good input has its output, and bad input its line, but for want of memory and counts that rose.
use Rattle.std.proofs.Common.{ℕ, List}
use Rattle.command_line.proofs.Unique.{command_within}
use Rattle.command_line.specs.Command.{IsCommand, CommandTree, CompileCommand, RunCommand, CheckCommand, ListCommand, SoakCommand}
use Rattle.cmmc_core.specs.Complete.{HasNotRisen, Complete}
use Rattle.commands.specs.Effects.{Effects}
use Rattle.commands.specs.Ends.{HasInput, CommandEnds}
use Rattle.cmmc_core.proofs.CommandEnd.{CommandEnd, OrNoMemory, told, command_end, no_command_end, no_value_end}
use Rattle.cmmc_core.proofs.CompileEnds.{compile-complete}
use Rattle.cmmc_core.proofs.RunEnds.{run-complete}
use Rattle.cmmc_core.proofs.CheckEnds.{check-complete}
use Rattle.cmmc_core.proofs.ListEnds.{list-complete}
use Rattle.cmmc_core.proofs.SoakEnds.{soak-complete}

module _ (words : List (List ℕ)) (e : Effects) (status : ℕ) (ends : CommandEnds words e status) where
  end_of : (tree : CommandTree) → IsCommand words tree → (HasInput tree → HasNotRisen e.source) → HasNotRisen e.err
      → OrNoMemory status (CommandEnd tree e.source e.out status)
  end_of tree is calm reported = command_end words e.source e.out tree is calm status (told words e status ends reported)

  pub Ends-complete : Complete words e status
  Ends-complete = record {
    no_command = λ not reported. no_command_end words e.source e.out status (told words e status ends reported) not;
    no_value = λ not reported. no_value_end words e.source e.out status (told words e status ends reported) not;
    compile = λ choices is calm reported text known. compile-complete e.source e.out text known choices status (end_of (CompileCommand choices is.0) is.1 (λ h. calm) reported);
    run = λ run is calm reported bytes known. run-complete e.source e.out bytes known run status (end_of (RunCommand run) is (λ h. calm) reported);
    check = λ check is calm reported text known. check-complete e.source e.out text known check status (end_of (CheckCommand check) is (λ h. calm) reported);
    list = λ choices stage is calm reported text known. list-complete e.source e.out text known choices stage status (end_of (ListCommand choices stage) is (λ h. calm) reported);
    soak = λ seed functions is reported.
        soak-complete seed functions (command_within words (SoakCommand seed functions) is).2 e.out status (end_of (SoakCommand seed functions) is (λ h rose. h) reported);
  }
