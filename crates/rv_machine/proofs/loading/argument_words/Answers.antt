use Rattle.std.proofs.Common.{◌≡◌, ◌<◌, ◌≤◌, List, ap, sym, ◌∙◌, length, get_or, option_map, arith}
use Rattle.std.proofs.lemmas.List.{length-set}
use Rattle.bs_words.specs.Contents.{contents}
use Rattle.image_form.specs.Tables.{tables}
use Rattle.rv_machine.specs.Start.{padded}
use Rattle.rv_machine.specs.declared.setup.Arg.{Arg}
use Rattle.rv_machine.proofs.Arguments.{words_of_other_length, next_word, still_free, all_words}
use Rattle.rv_machine.proofs.loading.argument_words.Goals as goal

pub returns-then-len : goal.returns-then-len
returns-then-len c = sym (ap (option_map (padded 16)) (words_of_other_length (tables c.args.image.now) (contents c.args.comps.now) (contents c.args.args.now) (λ e. c.if-len.true (c.len.ensures ∙ e ∙ sym c.len-2.ensures))))

pub loop-k-preserved : goal.loop-k-preserved
loop-k-preserved c =
    let same : length c.as_slice-arg-items.result.now ≡ length (contents c.args.args.now) = ap length c.as_slice-arg-items.ensures in
    let in_args : c.loop-k.k < length (contents c.args.args.now) = omega arith in
    let in_comps : c.loop-k.k < length (contents c.args.comps.now) = omega (arith, c.len.ensures, c.len-2.ensures, c.if-len.false) in
    let in_words : c.loop-k.k < length c.loop-k.words = omega (arith, c.loop-k.invariant.len, c.requires.few) in
    let below : c.loop-k.k < 16 = omega (arith, c.requires.few) in
    record {
      len = length-set c.loop-k.words c.loop-k.k c.in_ok-words.field-0 ∙ c.loop-k.invariant.len;
      free = still_free c.loop-k.words c.loop-k.k c.in_ok-words.field-0 in_words below c.loop-k.invariant.free;
      rest = c.loop-k.invariant.rest ∙ next_word (tables c.args.image.now) (contents c.args.comps.now) (contents c.args.args.now) c.loop-k.words c.loop-k.k c.in_ok-words.field-0 c.index.result.now c.arg-item.result
          in_args in_comps in_words c.index.ensures (c.arg-item.is ∙ ap (λ (xs : List Arg). get_or xs c.loop-k.k c.arg-item.result) c.as_slice-arg-items.ensures) (sym c.in_ok-words.ensures);
    }

pub returns : goal.returns
returns c =
    let same : length c.as_slice-arg-items.result.now ≡ length (contents c.args.args.now) = ap length c.as_slice-arg-items.ensures in
    let all : length (contents c.args.args.now) ≤ c.loop-k.k = omega arith in
    let all_comps : length (contents c.args.comps.now) ≤ c.loop-k.k = omega (arith, c.len.ensures, c.len-2.ensures, c.if-len.false) in
    let few : c.loop-k.k ≤ 16 = omega (arith, c.len.ensures, c.len-2.ensures, c.if-len.false, c.requires.few, c.loop-k.auto.k-end) in
    all_words (tables c.args.image.now) (contents c.args.comps.now) (contents c.args.args.now) c.loop-k.words c.loop-k.k all all_comps few
    c.loop-k.invariant.len c.loop-k.invariant.free c.loop-k.invariant.rest
