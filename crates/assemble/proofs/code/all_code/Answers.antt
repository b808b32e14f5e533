use Rattle.std.proofs.Common.{◌++◌, ap, ◌∙◌}
use Rattle.function_places.specs.Places.{forms_in}
use Rattle.assemble.proofs.Joined.{codes_given, words_joined, descs_joined}
use Rattle.image_form.specs.Image.{stub, stub_words}
use Rattle.assemble.proofs.code.all_code.Goals as goal

pub returns-clause-words : goal.returns-clause-words
returns-clause-words g c =
    let s = c.args.source.now in
    let are = codes_given s c.requires.source c.in_ok-parts.parts.items c.in_ok-parts.ensures in
    c.in_ok-code.ensures.words ∙ ap (λ ws. stub ++ ws) (words_joined s stub_words s.pieces.now (forms_in s.places.now) c.in_ok-parts.parts.items are)

pub returns-clause-descs : goal.returns-clause-descs
returns-clause-descs g c =
    let s = c.args.source.now in
    let are = codes_given s c.requires.source c.in_ok-parts.parts.items c.in_ok-parts.ensures in
    c.in_ok-code.ensures.descs ∙ descs_joined s stub_words s.pieces.now (forms_in s.places.now) c.in_ok-parts.parts.items are
