use Rattle.selection_sizes.proofs.Selected.{selected_words, selected_points}
use Rattle.selection_sizes.proofs.selected_is_short.Goals as goal

pub returns-clause-words : goal.returns-clause-words
returns-clause-words c = selected_words

pub returns-clause-points : goal.returns-clause-points
returns-clause-points c = selected_points
