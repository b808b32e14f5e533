use Rattle.std.proofs.Common.{◌≡◌, ◌<◌, ◌++◌, length, map, get_or, sym, ap, ap₂, ◌∙◌, arith}
use Rattle.function_places.specs.Places.{forms_in}
use Rattle.assemble.specs.Source.{tree_of, source_entries}
use Rattle.assemble.proofs.Steps.{read_at, same_at, form_at}
use Rattle.assemble.proofs.Walks.{forms_long, entries_long, function_there}
use Rattle.image_form.specs.Tables.{desc}
use Rattle.rv_layout_rules.specs.Forms.{total_words}
use Rattle.rv_layout_rules.specs.Laid.{function_words, descs_in}
use Rattle.rv_pieces.specs.declared.piece.Pieces.{Pieces}
use Rattle.assemble.proofs.source.Source.function_code.Goals as goal

pub index-laid-requires : goal.index-laid-requires
index-laid-requires c = omega (arith, c.requires.there, forms_long c.args.self.now c.requires.source)

pub index-entry-requires : goal.index-entry-requires
index-entry-requires c = omega (arith, c.requires.there, entries_long c.args.self.now c.requires.source)

pub put_function-requires-clause-same : goal.put_function-requires-clause-same
put_function-requires-clause-same c =
    let at = function_there c.args.self.now c.requires.source c.requires.fits c.args.index c.index-self-index.result c.index-laid.result.now c.requires.there c.index-self-index.is c.index-laid.ensures in
    omega (arith, ap length c.as_slice-forms.ensures.value, at.same, ap (λ (q : Pieces). length q.code) c.index-self-index.is)

pub put_function-requires-clause-inside : goal.put_function-requires-clause-inside
put_function-requires-clause-inside c =
    let at = function_there c.args.self.now c.requires.source c.requires.fits c.args.index c.index-self-index.result c.index-laid.result.now c.requires.there c.index-self-index.is c.index-laid.ensures in
    let entry = read_at c.args.self.now.places.now.entries.items c.args.index c.index-entry.result.now (omega (arith, c.requires.there, entries_long c.args.self.now c.requires.source)) c.index-entry.ensures in
    let words = ap₂ (λ (q : Pieces) fs. total_words q.code fs) (sym c.index-self-index.is) c.as_slice-forms.ensures.value in
    omega (arith, words, at.inside, entry)

pub put_descs-requires-clause-same : goal.put_descs-requires-clause-same
put_descs-requires-clause-same c =
    let at = function_there c.args.self.now c.requires.source c.requires.fits c.args.index c.index-self-index.result c.index-laid.result.now c.requires.there c.index-self-index.is c.index-laid.ensures in
    let code = c.as_slice.ensures ∙ ap (λ (q : Pieces). q.code) (sym c.index-self-index.is) in
    omega (arith, ap length c.as_slice-forms.ensures.value, at.same, ap length code)

pub put_descs-requires-clause-inside : goal.put_descs-requires-clause-inside
put_descs-requires-clause-inside c =
    let at = function_there c.args.self.now c.requires.source c.requires.fits c.args.index c.index-self-index.result c.index-laid.result.now c.requires.there c.index-self-index.is c.index-laid.ensures in
    let code = c.as_slice.ensures ∙ ap (λ (q : Pieces). q.code) (sym c.index-self-index.is) in
    let entry = read_at c.args.self.now.places.now.entries.items c.args.index c.index-entry.result.now (omega (arith, c.requires.there, entries_long c.args.self.now c.requires.source)) c.index-entry.ensures in
    let words = ap₂ total_words code c.as_slice-forms.ensures.value in
    omega (arith, words, at.inside, at.short, entry)

pub returns : goal.returns
returns c = λ p own got of.
    let s = c.args.self.now in
    let i = c.args.index in
    let laid = c.index-laid.result.now in
    let within : i < length s.places.now.forms.items = omega (arith, c.requires.there, forms_long s c.requires.source) in
    let read = read_at s.places.now.entries.items i c.index-entry.result.now (omega (arith, c.requires.there, entries_long s c.requires.source)) c.index-entry.ensures in
    let entry : c.index-entry.result.now ≡ get_or (source_entries s) i 0 = read ∙ ap (λ l. get_or l i 0) c.requires.source.places.entries in
    let this : get_or s.pieces.now i c.index-self-index.result ≡ p = sym c.index-self-index.is ∙ same_at s.pieces.now i p c.index-self-index.result got c.index-self-index.is in
    let code = c.as_slice.ensures ∙ ap (λ (q : Pieces). q.code) this in
    let forms : c.as_slice-forms.result.now ≡ own =
    c.as_slice-forms.ensures.value ∙ same_at (forms_in s.places.now) i own laid.forms.items of (form_at s.places.now.forms.items i laid within c.index-laid.ensures) in
    record {
      words =
          c.in_ok-put_function.ensures
          ∙ (ap (λ ws. ws ++ function_words (tree_of s) (source_entries s) c.index-entry.result.now (get_or s.pieces.now i c.index-self-index.result).code c.as_slice-forms.result.now) c.in_ok-words.ensures.items
          ∙ (ap (λ n. function_words (tree_of s) (source_entries s) n (get_or s.pieces.now i c.index-self-index.result).code c.as_slice-forms.result.now) entry
          ∙ ap₂ (λ (q : Pieces) ks. function_words (tree_of s) (source_entries s) (get_or (source_entries s) i 0) q.code ks) this forms));
      descs =
          c.in_ok-put_descs.ensures
          ∙ (ap (λ rows. map desc rows ++ descs_in c.index-entry.result.now c.as_slice.result.now c.as_slice-forms.result.now) c.new-descs.ensures.items
          ∙ (ap (λ n. descs_in n c.as_slice.result.now c.as_slice-forms.result.now) entry ∙ ap₂ (descs_in (get_or (source_entries s) i 0)) code forms));
    }
