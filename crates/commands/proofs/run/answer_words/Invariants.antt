use Rattle.image_form.specs.Tables.{tables}
use Rattle.commands.proofs.Answers.{SoFar}
use Rattle.commands.proofs.run.answer_words.Given as goal

abbrev pub invariant-loop-answer : goal.invariant-loop-answer
invariant-loop-answer l = SoFar (tables l.image) l.answer-items l.answer-index l.words.items
