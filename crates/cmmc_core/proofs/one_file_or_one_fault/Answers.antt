use Rattle.cmm_front.proofs.OneFile.{one_file, one_fault, file_or_fault}
use Rattle.commands.proofs.Known.{bytes_of}
use Rattle.cmmc_core.proofs.one_file_or_one_fault.Goals as goal

pub returns : goal.returns
returns c = record {
  files = λ text bytes file other is was. one_file text file other (bytes_of text bytes) is was;
  faults = λ text bytes told other is was. one_fault text told other (bytes_of text bytes) is was;
  apart = λ text bytes file told is has. file_or_fault text file told (bytes_of text bytes) is has;
}
