use Rattle.line_stands.specs.Lines.{Nowhere}
use Rattle.line_calls.proofs.Whole.{lines_follow}
use Rattle.line_calls.proofs.lines_are_followed.Goals as goal

pub returns : goal.returns
returns c = λ s n laid entries c place named m f d i next v file a words. lines_follow s n laid
    Nowhere entries c place named m f d i next v file a words
