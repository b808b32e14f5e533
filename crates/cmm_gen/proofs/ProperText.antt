-- What the generator draws is the text of a file, whose runs are proper.
use Rattle.std.proofs.Common.{◌≡◌, ℕ, ◌<◌, ◌^◌, List, length, arith}
use Rattle.cmm_gen.specs.Drawn.{DrawnFunction, text_of}
use Rattle.cmm_gen.specs.Drawing.{generator, drawn}
use Rattle.cmm_gen.specs.Generated.{IsProperText}
use Rattle.cmm_gen.proofs.Proper.{runs_properly}
use Rattle.cmm_gen.proofs.ReadingDraws.{drawn-count, generated-reads}
use Rattle.cmm_gen.proofs.ReadingFile.{ReadAs}
use Rattle.cmm_gen.proofs.Settled.{settled}
use Rattle.cmm_gen.proofs.WellTyped.{well_typed}

pub proper_text : (seed count : ℕ) → count < 1001 → IsProperText (text_of (drawn count (generator seed)))
proper_text seed count few =
    let functions : List DrawnFunction = drawn count (generator seed) in
    let read : ReadAs functions (text_of functions) = generated-reads seed count few in
    let same : length functions ≡ count = drawn-count count (generator seed) in
    let small : length functions < 2 ^ 64 = omega arith in
    record {
      file = read.file;
      of_text =
          record {
            read = read.reads;
            typed = well_typed functions read.file read.is_drawn small;
            settled = settled functions read.file read.is_drawn;
          };
      proper = runs_properly functions read.file read.is_drawn small;
    }
