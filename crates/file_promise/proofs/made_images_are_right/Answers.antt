use Rattle.file_promise.proofs.Promise.{made_bounded, made_correct, made_exact, made_in_need}
use Rattle.file_promise.proofs.made_images_are_right.Goals as goal

pub returns : goal.returns
returns c = record {
  correct = λ choices text file is bytes image tables made. made_correct text file is image made bytes tables;
  in_need = λ choices text file is bytes image tables made. made_in_need text file is image made bytes tables;
  bounded = λ choices text file is bytes image made. made_bounded text file is image made;
  exact = λ choices text file is image made. made_exact text file is image made;
}
