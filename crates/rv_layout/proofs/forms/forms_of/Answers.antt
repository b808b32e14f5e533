use Rattle.std.proofs.Common.{length, sym, ap, ◌∙◌, subst, arith}
use Rattle.std.proofs.lemmas.List.{length-replicate}
use Rattle.rv_layout_rules.specs.declared.form.Form.TheVariants.{Near}
use Rattle.rv_layout_rules.specs.Forms.{label_word_offset, place_or_entry, none_far, grown_from, ranks, AllNear, NoLonger}
use Rattle.rv_layout_rules.proofs.Relaxing.{near_least, round_least, grown_length, are_forms, ranks_most}
use Rattle.rv_layout.specs.Tables.{words_of_labels, IsLabelTable}
use Rattle.rv_layout.proofs.Steps.{all_near, ranks_near, grown_same}
use Rattle.rv_layout.proofs.forms.forms_of.Goals as goal

pub loop-forms-init : goal.loop-forms-init
loop-forms-init c =
    let is = c.in_ok-forms.ensures.items_if_clones_equal (λ y e. e) in
    let long = ap length is ∙ length-replicate (length c.args.code.now) Near in
    record {
      same = long;
      ranks = sym (ap ranks is ∙ ranks_near (length c.args.code.now));
      least = near_least none_far c.args.code.now c.in_ok-forms.forms.items long (subst AllNear (sym is) (all_near (length c.args.code.now)));
    }

pub returns-then-sum-ranks : goal.returns-then-sum-ranks
returns-then-sum-ranks c =
    let code = c.args.code.now in
    let forms = c.loop-forms.forms.items in
    let labels = c.in_ok-labels.labels in
    let table = subst (λ fs. IsLabelTable code fs labels) c.as_slice.ensures.value c.in_ok-labels.ensures in
    let round = c.in_ok-next.ensures.grown ∙ ap (λ fs. grown_from none_far (words_of_labels labels) 0 code fs) c.as_slice-in-loop-forms.ensures.value in
    let grown = round ∙ grown_same (words_of_labels labels) (label_word_offset code forms) 0 code forms (λ l. ap place_or_entry (table.each l)) in
    are_forms none_far code forms c.loop-forms.invariant.same c.loop-forms.invariant.least
    (omega (arith, c.if-sum-ranks.true, c.loop-forms.invariant.ranks, c.in_ok-next.ensures.ranks, ap ranks grown))

pub loop-forms-smaller : goal.loop-forms-smaller
loop-forms-smaller c =
    let code = c.args.code.now in
    let forms = c.loop-forms.forms.items in
    let labels = c.in_ok-labels.labels in
    let table = subst (λ fs. IsLabelTable code fs labels) c.as_slice.ensures.value c.in_ok-labels.ensures in
    let round = c.in_ok-next.ensures.grown ∙ ap (λ fs. grown_from none_far (words_of_labels labels) 0 code fs) c.as_slice-in-loop-forms.ensures.value in
    let long = ap length round ∙ grown_length none_far (words_of_labels labels) 0 code forms c.loop-forms.invariant.same in
    let most = ranks_most c.in_ok-next.field-0.forms.items in
    omega (arith, c.if-sum-ranks.false, c.in_ok-next.sum-is, c.in_ok-next.ensures.ranks, long, most)

pub loop-forms-preserved : goal.loop-forms-preserved
loop-forms-preserved c =
    let code = c.args.code.now in
    let forms = c.loop-forms.forms.items in
    let labels = c.in_ok-labels.labels in
    let table = subst (λ fs. IsLabelTable code fs labels) c.as_slice.ensures.value c.in_ok-labels.ensures in
    let round = c.in_ok-next.ensures.grown ∙ ap (λ fs. grown_from none_far (words_of_labels labels) 0 code fs) c.as_slice-in-loop-forms.ensures.value in
    let grown = round ∙ grown_same (words_of_labels labels) (label_word_offset code forms) 0 code forms (λ l. ap place_or_entry (table.each l)) in
    record {
      same = ap length grown ∙ grown_length none_far (label_word_offset code forms) 0 code forms c.loop-forms.invariant.same;
      ranks = c.in_ok-next.ensures.ranks;
      least = λ others reach. subst (λ fs. NoLonger fs others) (sym grown) (round_least none_far code forms others (c.loop-forms.invariant.least others reach) reach);
    }
