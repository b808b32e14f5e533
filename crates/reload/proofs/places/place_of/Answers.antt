use Rattle.std.proofs.Common.{◌∙◌, ap, unwrap_or}
use Rattle.std.proofs.lemmas.Option.{unwrap_or-slice_get}
use Rattle.bs_words.specs.declared.types.Loc.TheVariants as loc
use Rattle.reload.proofs.places.place_of.Goals as goal

pub returns : goal.returns
returns c =
    c.unwrap_or.ensures
    ∙ ap (λ o. unwrap_or o loc.Unset) (c.copied.ensures ∙ c.get.ensures)
    ∙ unwrap_or-slice_get c.args.colours.now.places c.args.number loc.Unset
