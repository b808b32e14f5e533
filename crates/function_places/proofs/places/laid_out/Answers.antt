use Rattle.std.proofs.Common.{length, ap, ap₂, ◌∙◌, subst, arith}
use Rattle.std.specs.Prelude.{sum_by}
use Rattle.function_places.specs.Sizes.{piece_size}
use Rattle.function_places.proofs.Bounds.{length_most, code_most}
use Rattle.rv_layout_rules.specs.Forms.{total_words, label_word_offset, none_far, AreForms}
use Rattle.rv_layout_rules.proofs.Functions.{forms_length}
use Rattle.function_places.proofs.places.laid_out.Goals as goal

pub forms_of-requires : goal.forms_of-requires
forms_of-requires c = omega (arith, ap length c.as_slice-code.ensures, length_most c.args.function.now.code, c.requires)

pub total_words-words-requires-clause-few : goal.total_words-words-requires-clause-few
total_words-words-requires-clause-few c = omega (arith, ap length c.as_slice-code.ensures, length_most c.args.function.now.code, c.requires)

pub total_words-words-requires-clause-same : goal.total_words-words-requires-clause-same
total_words-words-requires-clause-same c =
    let code = c.as_slice-code.result.now in
    let own = c.in_ok-forms.forms.items in
    ap length c.as_slice.ensures.value ∙ forms_length (label_word_offset code own) 0 code own c.in_ok-forms.ensures.suffice

pub code_size-descs-requires : goal.code_size-descs-requires
code_size-descs-requires c =
    omega (arith, ap (sum_by piece_size) c.as_slice-code.ensures, code_most c.args.function.now.code, c.requires)

pub returns : goal.returns
returns c =
    let is = c.as_slice-code.ensures in
    record {
      forms = subst (λ code. AreForms none_far code c.in_ok-forms.forms.items) is c.in_ok-forms.ensures;
      words = c.total_words-words.ensures.exact ∙ ap₂ total_words is c.as_slice.ensures.value;
      descs = c.code_size-descs.ensures ∙ ap (sum_by piece_size) is;
    }
