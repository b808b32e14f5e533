-- What is known of every file that was read.
use Rattle.std.proofs.Common.{List, ℕ, Result, Ok, Err, MatchResult, IfOk}
use Rattle.bs_fault.specs.declared.fault.FrontError.{FrontError}
use Rattle.cmm_tree.specs.Tree.{FileTree}
use Rattle.cmm_tree.specs.View.{file_view}
use Rattle.cmm_tree.specs.declared.file.File.{File}
use Rattle.cmm_grammar.specs.Spelling.{nesting}
use Rattle.cmm_grammar.specs.Covered.{IsMeasured}
use Rattle.cmm_grammar.proofs.Covered.{file_measured}
use Rattle.cmm_reader.specs.Text as said
use Rattle.cmm_reader.specs.Text.{ReadsAs, IsRefused}

pub read_measured : (text : List ℕ) (file : FileTree) → ReadsAs text (Ok file) → IsMeasured file
read_measured text _ (said.file tokens items short cut are faultless) = file_measured nesting items tokens are

pub result_measured : (text : List ℕ) (result : Result File FrontError)
    → MatchResult result (λ file. ReadsAs text (Ok (file_view file))) (IsRefused text)
    → IfOk result (λ file. IsMeasured (file_view file))
result_measured text (Ok file) h = read_measured text (file_view file) h
result_measured text (Err e) h = tt
