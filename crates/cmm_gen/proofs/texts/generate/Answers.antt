use Rattle.std.proofs.Common.{◌≡◌, ◌∙◌, ap, sym, subst, arith}
use Rattle.cmm_gen.specs.Drawn.{text_of}
use Rattle.cmm_gen.specs.Drawing.{generator, drawn}
use Rattle.bs_words.specs.Contents.{contents}
use Rattle.cmm_gen.specs.Generated.{IsProperText}
use Rattle.cmm_gen.proofs.ProperText.{proper_text}
use Rattle.cmm_gen.proofs.Draws.{one_line_more, all_lines}
use Rattle.cmm_gen.proofs.texts.generate.Goals as goal

pub loop-number-preserved : goal.loop-number-preserved
loop-number-preserved c =
    one_line_more c.args.functions c.loop-number.number c.loop-number.words _ c.loop-number.text.bytes.items _
    (text_of (drawn c.args.functions (generator c.args.seed)))
    c.loop-number-test.true
    c.in_ok-write_function.ensures.text
    c.in_ok-write_function.ensures.words
    c.loop-number.invariant

pub returns : goal.returns
returns c =
    let text : contents c.from_vec.result ≡ text_of (drawn c.args.functions (generator c.args.seed)) =
    c.from_vec.ensures
    ∙ ap (λ v. v.items) c.into_bytes.ensures.value
    ∙ all_lines c.args.functions c.loop-number.number c.loop-number.words _ _ c.loop-number-test.false c.loop-number.invariant in
    record {
      text = text;
      proper = subst IsProperText (sym text) (proper_text c.args.seed c.args.functions (omega arith));
    }
