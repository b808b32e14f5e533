use Rattle.std.proofs.Common.{◌∙◌, sym}
use Rattle.cmm_lex.specs.Token.{token_view}
use Rattle.cmm_parts.proofs.Symbols.{if-some, if-none}
use Rattle.cmm_reader.proofs.Symbols.{word-symbol, word-keyword}
use Rattle.cmm_reader.proofs.data.data_word.Goals as goal
use Rattle.cmm_reader.proofs.data.data_word.Goals.{in-Some, in-None}

pub returns-clause-word : goal.returns-clause-word
returns-clause-word c =
    let t = token_view c.args.source.now c.args.token.now in
    elim c.match-branch-2.branch [
      | in-Some w ↦
          rw w.result-is (word-symbol t (if-some _ _ _ (sym w.in-Some.is ∙ c.in_ok-symbol_of.ensures.symbol)).0)
      | in-None w ↦
          rw w.result-is (word-keyword t w.data_keyword.result (if-none _ _ (sym w.in-None.is ∙ c.in_ok-symbol_of.ensures.symbol)) w.data_keyword.ensures)
    ]
