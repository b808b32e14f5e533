use Rattle.std.proofs.Common.{sym, arith, ◌∙◌}
use Rattle.cmm_lex.specs.Scanning.{keyword_table}
use Rattle.cmm_lex.proofs.Lengths.{find-of-length, none-of-length}
use Rattle.cmm_lex.proofs.words.find_keyword.Goals as goal

pub returns-in-2 : goal.returns-in-2
returns-in-2 c = c.find_kind.ensures ∙ sym (find-of-length 2 keyword_table c.args.text.now c.in-2.is)

pub returns-in-3 : goal.returns-in-3
returns-in-3 c = c.find_kind-in-3.ensures ∙ sym (find-of-length 3 keyword_table c.args.text.now c.in-3.is)

pub returns-in-4 : goal.returns-in-4
returns-in-4 c = c.find_kind-in-4.ensures ∙ sym (find-of-length 4 keyword_table c.args.text.now c.in-4.is)

pub returns-in-5 : goal.returns-in-5
returns-in-5 c = c.find_kind-in-5.ensures ∙ sym (find-of-length 5 keyword_table c.args.text.now c.in-5.is)

pub returns-in-6 : goal.returns-in-6
returns-in-6 c = c.find_kind-in-6.ensures ∙ sym (find-of-length 6 keyword_table c.args.text.now c.in-6.is)

pub returns-in-7 : goal.returns-in-7
returns-in-7 c = c.find_kind-in-7.ensures ∙ sym (find-of-length 7 keyword_table c.args.text.now c.in-7.is)

pub returns-in-8 : goal.returns-in-8
returns-in-8 c = c.find_kind-in-8.ensures ∙ sym (find-of-length 8 keyword_table c.args.text.now c.in-8.is)

pub returns-in-9 : goal.returns-in-9
returns-in-9 c = c.find_kind-in-9.ensures ∙ sym (find-of-length 9 keyword_table c.args.text.now c.in-9.is)

pub returns-in-10 : goal.returns-in-10
returns-in-10 c = c.find_kind-in-10.ensures ∙ sym (find-of-length 10 keyword_table c.args.text.now c.in-10.is)

pub returns-in-13 : goal.returns-in-13
returns-in-13 c = c.find_kind-in-13.ensures ∙ sym (find-of-length 13 keyword_table c.args.text.now c.in-13.is)

pub returns-in_default : goal.returns-in_default
returns-in_default c =
    sym (none-of-length c.args.text.now (λ low high. omega (arith, low, high)) (λ e. omega (arith, e)))
