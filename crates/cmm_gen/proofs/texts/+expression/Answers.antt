use Rattle.std.proofs.Common.{◌≡◌, ◌-◌, ◌%◌, arith}
use Rattle.cmm_gen.specs.Drawn.{Sum, Difference, Product, Choice, Cell, Attempt}
use Rattle.cmm_gen.specs.Drawing.{draw_number, variable, draw_two, four, draw_expression}
use Rattle.cmm_gen.proofs.Draws.{leaf, above, text_of_same, words_of_same, words_drawn, attempt_text}
use Rattle.cmm_gen.proofs.texts.+expression.Goals as goal

pub write_expression-returns-then-next_word-eq0 : goal.write_expression-returns-then-next_word-eq0
write_expression-returns-then-next_word-eq0 t c =
    let same : draw_expression c.args.depth c.args.words.now ≡ draw_number c.next_word.new.self =
    leaf c.args.depth 0 c.next_word.result c.args.words.now c.next_word.new.self c.if-depth-eq0.true c.next_word.ensures c.if-next_word-eq0.true in
    record {
      text = text_of_same c.write_number.result _ _ same _ _ c.write_number.ensures.text;
      words = words_drawn c.write_number.result _ _ same _ c.write_number.ensures.words;
    }

pub write_expression-returns-else-next_word-eq0 : goal.write_expression-returns-else-next_word-eq0
write_expression-returns-else-next_word-eq0 t c =
    let odd : c.next_word.result % 2 ≡ 1 = omega arith in
    let same : draw_expression c.args.depth c.args.words.now ≡ variable c.next_word.new.self =
    leaf c.args.depth 1 c.next_word.result c.args.words.now c.next_word.new.self c.if-depth-eq0.true c.next_word.ensures odd in
    record {
      text = text_of_same c.write_variable.result _ _ same _ _ c.write_variable.ensures.text;
      words = words_drawn c.write_variable.result _ _ same _ c.write_variable.ensures.words;
    }

pub write_expression-returns-in-0 : goal.write_expression-returns-in-0
write_expression-returns-in-0 t c =
    let same : draw_expression c.args.depth c.args.words.now ≡ draw_number c.next_word-2.new.self =
    above c.args.depth 0 c.next_word-2.result c.args.words.now c.next_word-2.new.self c.if-depth-eq0.false c.next_word-2.ensures c.in-0.is in
    record {
      text = text_of_same c.write_number-in-0.result _ _ same _ _ c.write_number-in-0.ensures.text;
      words = words_drawn c.write_number-in-0.result _ _ same _ c.write_number-in-0.ensures.words;
    }

pub write_expression-returns-in-1 : goal.write_expression-returns-in-1
write_expression-returns-in-1 t c =
    let same : draw_expression c.args.depth c.args.words.now ≡ variable c.next_word-2.new.self =
    above c.args.depth 1 c.next_word-2.result c.args.words.now c.next_word-2.new.self c.if-depth-eq0.false c.next_word-2.ensures c.in-1.is in
    record {
      text = text_of_same c.write_variable-in-1.result _ _ same _ _ c.write_variable-in-1.ensures.text;
      words = words_drawn c.write_variable-in-1.result _ _ same _ c.write_variable-in-1.ensures.words;
    }

pub write_expression-returns-in-2 : goal.write_expression-returns-in-2
write_expression-returns-in-2 t c =
    let same : draw_expression c.args.depth c.args.words.now ≡ draw_two (draw_expression (c.args.depth - 1)) Sum c.next_word-2.new.self =
    above c.args.depth 2 c.next_word-2.result c.args.words.now c.next_word-2.new.self c.if-depth-eq0.false c.next_word-2.ensures c.in-2.is in
    record {
      text = text_of_same c.write_two.result _ _ same _ _ c.write_two.ensures.text;
      words = words_of_same c.write_two.result _ _ same _ c.write_two.ensures.words;
    }

pub write_expression-returns-in-3 : goal.write_expression-returns-in-3
write_expression-returns-in-3 t c =
    let same : draw_expression c.args.depth c.args.words.now ≡ draw_two (draw_expression (c.args.depth - 1)) Difference c.next_word-2.new.self =
    above c.args.depth 3 c.next_word-2.result c.args.words.now c.next_word-2.new.self c.if-depth-eq0.false c.next_word-2.ensures c.in-3.is in
    record {
      text = text_of_same c.write_two-in-3.result _ _ same _ _ c.write_two-in-3.ensures.text;
      words = words_of_same c.write_two-in-3.result _ _ same _ c.write_two-in-3.ensures.words;
    }

pub write_expression-returns-in-4 : goal.write_expression-returns-in-4
write_expression-returns-in-4 t c =
    let same : draw_expression c.args.depth c.args.words.now ≡ draw_two (draw_expression (c.args.depth - 1)) Product c.next_word-2.new.self =
    above c.args.depth 4 c.next_word-2.result c.args.words.now c.next_word-2.new.self c.if-depth-eq0.false c.next_word-2.ensures c.in-4.is in
    record {
      text = text_of_same c.write_two-in-4.result _ _ same _ _ c.write_two-in-4.ensures.text;
      words = words_of_same c.write_two-in-4.result _ _ same _ c.write_two-in-4.ensures.words;
    }

pub write_expression-returns-in-5 : goal.write_expression-returns-in-5
write_expression-returns-in-5 t c =
    let same : draw_expression c.args.depth c.args.words.now ≡ four (draw_expression (c.args.depth - 1)) Choice c.next_word-2.new.self =
    above c.args.depth 5 c.next_word-2.result c.args.words.now c.next_word-2.new.self c.if-depth-eq0.false c.next_word-2.ensures c.in-5.is in
    record {
      text = text_of_same c.write_choice.result _ _ same _ _ c.write_choice.ensures.text;
      words = words_of_same c.write_choice.result _ _ same _ c.write_choice.ensures.words;
    }

pub write_expression-returns-in-6 : goal.write_expression-returns-in-6
write_expression-returns-in-6 t c =
    let same : draw_expression c.args.depth c.args.words.now ≡ draw_two (draw_expression (c.args.depth - 1)) Cell c.next_word-2.new.self =
    above c.args.depth 6 c.next_word-2.result c.args.words.now c.next_word-2.new.self c.if-depth-eq0.false c.next_word-2.ensures c.in-6.is in
    record {
      text = text_of_same c.write_two-in-6.result _ _ same _ _ c.write_two-in-6.ensures.text;
      words = words_of_same c.write_two-in-6.result _ _ same _ c.write_two-in-6.ensures.words;
    }

pub write_expression-returns-in_default : goal.write_expression-returns-in_default
write_expression-returns-in_default t c =
    let last : c.next_word-2.result % 8 ≡ 7 = omega arith in
    let same : draw_expression c.args.depth c.args.words.now ≡ four (draw_expression (c.args.depth - 1)) Attempt c.next_word-2.new.self =
    above c.args.depth 7 c.next_word-2.result c.args.words.now c.next_word-2.new.self c.if-depth-eq0.false c.next_word-2.ensures last in
    record {
      text = text_of_same c.write_attempt.result _ _ same _ _ c.write_attempt.ensures.text;
      words = words_of_same c.write_attempt.result _ _ same _ c.write_attempt.ensures.words;
    }

pub write_attempt-returns-clause-text : goal.write_attempt-returns-clause-text
write_attempt-returns-clause-text t c =
    attempt_text c.push_str-2.result c.args.depth c.args.words.now _ _ c.args.text.now.bytes.items _ _ _ _ _
    c.in_ok-write_two.ensures.text
    c.in_ok-write_two.ensures.words
    c.in_ok-write_expression.ensures.text
    c.in_ok-write_expression.ensures.words
    c.in_ok-push_str.ensures.bytes
    c.in_ok-write_expression-2.ensures.text
    c.push_str-2.ensures.bytes
