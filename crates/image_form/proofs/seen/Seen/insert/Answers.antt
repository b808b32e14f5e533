use Rattle.std.proofs.Common.{Bool, ◌||◌, not, sym, ap, ◌∙◌}
use Rattle.std.proofs.lemmas.Map.Text.{is_eq-slice_cmp}
use Rattle.std.specs.Str.{bytes_eq}
use Rattle.image_form.specs.Seen.{HoldsTexts}
use Rattle.image_form.proofs.Texts.{among, has_insert, has_more}
use Rattle.image_form.proofs.seen.Seen.insert.Goals as goal

pub returns-clause-new : goal.returns-clause-new
unfolding HoldsTexts
returns-clause-new c = λ texts holds.
    c.in_ok-insert.ensures.added ∙ ap not (among (λ v. v.items) _ (λ x y. is_eq-slice_cmp x.items y.items) c.args.text c.args.self.now.texts.keys ∙ holds c.args.text.items)

pub returns-clause-holds : goal.returns-clause-holds
unfolding HoldsTexts
returns-clause-holds c = λ texts holds text.
    rw c.in_ok-insert.ensures.keys (has_insert (λ v. v.items) _ (λ x y. is_eq-slice_cmp x.items y.items) c.args.self.now.texts.keys c.args.text text ∙ ap (λ (b : Bool). bytes_eq text c.args.text.items || b) (holds text) ∙ sym (has_more texts c.args.text.items text))
