use Rattle.std.proofs.Common.{◌≡◌, ℕ, List, Option, Some, None, Ok, option_map, ap, sym, ◌∙◌, refl}
use Rattle.std.specs.Str.{bytes_eq}
use Rattle.bs_words.specs.Contents.{contents}
use Rattle.image_form.specs.Image.{IsFunc}
use Rattle.image_form.specs.Tables.{Tables, Func, tables, func}
use Rattle.rv_machine.specs.Hart.{Hart}
use Rattle.rv_machine.specs.Start.{start, padded}
use Rattle.rv_machine.specs.Loading.{begins_at, begins_with, words_of_args}
use Rattle.rv_machine.specs.declared.setup.Setup.{Setup}
use Rattle.rv_machine.proofs.Found.{found_has}
use Rattle.rv_machine.proofs.loading.load.Goals as goal

pub argument_words-requires-clause-few : goal.argument_words-requires-clause-few
argument_words-requires-clause-few c =
    let all : IsFunc (func c.in-Some.entry.now) =
    found_has IsFunc (λ (f : Func). bytes_eq f.name c.args.setup.now.entry) (tables c.args.image.now).funcs (func c.in-Some.entry.now)
    c.requires.image.funcs.each (sym c.in-Some.ensures) in
    all.few

started : (image : Tables) (setup : Setup) (entry : Func) (h : Hart) (words : List ℕ) (found : Option (List ℕ))
    → Some words ≡ option_map (padded 16) found
    → ((args : List ℕ) → words ≡ padded 16 args → h ≡ start image entry args setup.stack setup.heap)
    → begins_with image setup entry found ≡ Ok h
started image setup entry h words None e k = absurd (cc)
started image setup entry h words (Some args) e k = let same : words ≡ padded 16 args = cc in ap Ok (sym (k args same))

pub returns-clause-loaded : goal.returns-clause-loaded
returns-clause-loaded c =
    let entry = func c.in-Some.entry.now in
    ap (begins_at (tables c.args.image.now) c.args.setup.now) (sym c.in-Some.ensures)
    ∙ started (tables c.args.image.now) c.args.setup.now entry c.in_ok-machine.machine c.in-Some-argument_words.words
    (words_of_args (tables c.args.image.now) entry.params (contents c.args.setup.now.args)) c.in-Some-argument_words.ensures
    (λ args same.
    c.in_ok-machine.ensures entry args refl same
    ∙ ap (λ (stack : ℕ). start (tables c.args.image.now) entry args stack c.from-heap.result) c.from-stack.ensures
    ∙ ap (λ (heap : ℕ). start (tables c.args.image.now) entry args c.args.setup.now.stack heap) c.from-heap.ensures)
