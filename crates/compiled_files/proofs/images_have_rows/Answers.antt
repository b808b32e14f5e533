use Rattle.compiled_files.proofs.Rows.{rows, words_fit}
use Rattle.compiled_files.proofs.images_have_rows.Goals as goal

pub returns-clause-rows : goal.returns-clause-rows
returns-clause-rows c = λ file image ps can laid. rows file image ps can laid

pub returns-clause-words : goal.returns-clause-words
returns-clause-words c = λ file image ps can laid. words_fit file image ps can laid
