use Rattle.cmm_gen.proofs.Draws.{function_text_written, function_words}
use Rattle.cmm_gen.proofs.texts.write_function.Goals as goal

pub returns : goal.returns
returns c = record {
  text =
      function_text_written c.push_str-3.result c.args.number c.args.words.now _ _ c.args.text.now.bytes.items _ _ _ _ _ _ _
      c.in_ok-write.ensures.bytes
      c.in_ok-write_expression.ensures.text
      c.in_ok-write_expression.ensures.words
      c.in_ok-push_str.ensures.bytes
      c.in_ok-write_expression-2.ensures.text
      c.in_ok-write_expression-2.ensures.words
      c.in_ok-push_str-2.ensures.bytes
      c.in_ok-write_body.ensures.text
      c.push_str-3.ensures.bytes;
  words =
      function_words c.push_str-3.result c.args.words.now _ _ _ c.in_ok-write_expression.ensures.words c.in_ok-write_expression-2.ensures.words c.in_ok-write_body.ensures.words;
}
