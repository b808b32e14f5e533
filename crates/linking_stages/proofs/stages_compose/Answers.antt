use Rattle.selection_rules.specs.Bounded.{BoundedDoing}
use Rattle.linking_stages.specs.Chain.{IsGivenWords}
use Rattle.linking_stages.proofs.Chain.{lowered_keep}
use Rattle.linking_stages.proofs.Selected.{selected_selects}
use Rattle.linking_stages.proofs.stages_compose.Goals as goal

pub returns : goal.returns
returns c = λ file layout most machs lins named selected lowered.
    lowered_keep machs lins named file layout most IsGivenWords BoundedDoing (selected_selects file layout machs most selected) lowered
