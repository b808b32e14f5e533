use Rattle.std.proofs.Common.{◌≡◌, ◌++◌, length, sym, ap, ◌∙◌, subst, OnOk, arith}
use Rattle.assemble.proofs.Bounds.{place_within, end_most, end_short}
use Rattle.function_places.proofs.Bounds.{length_most}
use Rattle.assemble.proofs.Walks.{words_placed, all_lead}
use Rattle.rv_layout_rules.specs.Conditions.{AllLead}
use Rattle.rv_layout_rules.specs.Forms.{total_words, place_or_entry}
use Rattle.rv_layout.specs.Tables.{words_of_labels}
use Rattle.assemble.proofs.source.Source.put_function.Goals as goal

pub of-requires-clause-few : goal.of-requires-clause-few
of-requires-clause-few c = omega (arith, ap length c.as_slice-code.ensures, length_most c.args.function.now.code, c.requires.few)

pub targets_of-requires-clause-low : goal.targets_of-requires-clause-low
targets_of-requires-clause-low c = λ label.
    let code = c.as_slice-code.result.now in
    let forms = c.args.forms.now in
    let place = ap place_or_entry (c.in_ok-labels.ensures.each label) in
    let words = ap (λ ps. total_words ps forms) c.as_slice-code.ensures in
    omega (arith, place, place_within code forms label, words, c.requires.inside)

pub place_address-requires : goal.place_address-requires
place_address-requires c = omega (arith, c.requires.inside, end_most c.args.self.now c.requires.source)

pub put_words-requires-clause-leads : goal.put_words-requires-clause-leads
put_words-requires-clause-leads c =
    let code = c.as_slice-code.result.now in
    let is = c.as_slice.ensures.value ∙ c.in_ok-targets.ensures in
    subst (λ targets. AllLead targets code) (sym is) (all_lead c.args.self.now c.args.entry (words_of_labels c.in_ok-labels.labels) code)

pub put_words-requires-clause-inside : goal.put_words-requires-clause-inside
put_words-requires-clause-inside c =
    let words = ap (λ ps. total_words ps c.args.forms.now) c.as_slice-code.ensures in
    omega (arith, c.place_address.ensures, words, c.requires.inside, end_short c.args.self.now c.requires.source c.requires.fits)

pub returns : goal.returns
returns c =
    let is = c.as_slice.ensures.value ∙ c.in_ok-targets.ensures in
    let words = words_placed c.args.self.now c.args.entry c.place_address.result c.as_slice.result.now c.in_ok-labels.labels c.as_slice-code.result.now c.args.function.now.code c.args.forms.now
    c.place_address.ensures is c.as_slice-code.ensures c.in_ok-labels.ensures in
    subst (λ ws. OnOk c.put_words.result (c.put_words.new.words.items ≡ c.args.words.now.items ++ ws)) words c.put_words.ensures
