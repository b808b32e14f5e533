use Rattle.std.proofs.Common.{◌≡◌, List, Some, None, map, subst, arith}
use Rattle.std.proofs.lemmas.List.{length-map}
use Rattle.cmm_lex.specs.Token.{token_view}
use Rattle.cmm_lex.specs.declared.token.Token as declared
use Rattle.cmm_tree.specs.View.{item_view}
use Rattle.cmm_tree.specs.declared.file.Item.{Item}
use Rattle.cmm_grammar.specs.Reading.{items_at}
use Rattle.cmm_parts.specs.Results.{trees, Fails}
use Rattle.cmm_grammar.specs.Spelling.{nesting}
use Rattle.cmm_reader.specs.Telling.{IsFinished}
use Rattle.cmm_reader.proofs.Texts.{too-long, tokens-few, lexed-cut, lexed-range, refused-lexing, read-finished, read-stopped}
use Rattle.cmm_reader.proofs.reader.read_text.Goals as goal

pub returns-then-text-gt-LONGEST_TEXT : goal.returns-then-text-gt-LONGEST_TEXT
returns-then-text-gt-LONGEST_TEXT c = too-long c.args.text.now c.if-text-gt-LONGEST_TEXT.true

pub items-requires : goal.items-requires
items-requires c =
    let text = c.args.text.now in
    let slice = c.as_slice.result.now in
    let lexed = c.in_ok-tokens.field-0 in
    let cut = lexed-cut text lexed slice lexed.fault c.in_ok-tokens.ensures (cc) (cc) in
    let few = tokens-few 0 text (trees text slice) lexed.fault cut in
    let short = c.if-text-gt-LONGEST_TEXT.false in
    omega (arith, few, short, length-map slice (token_view text))

pub returns-in-Some : goal.returns-in-Some
returns-in-Some c =
    let text = c.args.text.now in
    let slice = c.as_slice.result.now in
    let lexed = c.in_ok-tokens.field-0 in
    let cut = lexed-cut text lexed slice (Some c.in-Some.fault) c.in_ok-tokens.ensures (cc) (cc) in
    refused-lexing text (trees text slice) c.in-Some.fault (map item_view c.in-Ok.items.items) c.if-text-gt-LONGEST_TEXT.false cut c.in-Ok.ensures

pub returns-in-Ok : goal.returns-in-Ok
returns-in-Ok c =
    let text = c.args.text.now in
    let slice = c.as_slice.result.now in
    let lexed = c.in_ok-tokens.field-0 in
    let range = lexed.range in
    let cut = lexed-cut text lexed slice None c.in_ok-tokens.ensures (cc) (cc) in
    let first = lexed-range text lexed slice range c.in_ok-tokens.ensures (cc) (cc) in
    let P : List Item → Type 0 = λ v. IsFinished range (record { items = map item_view v }) c.faultless.result in
    read-finished text (trees text slice) range (map item_view c.in-Ok.items.items) c.faultless.result c.if-text-gt-LONGEST_TEXT.false cut c.in-Ok.ensures first
    (subst P c.from_vec.ensures c.faultless.ensures)

pub returns : goal.returns
returns c =
    let text = c.args.text.now in
    let slice = c.as_slice.result.now in
    let again = c.as_slice-in-Err.result.now in
    let lexed = c.in_ok-tokens.field-0 in
    let fault = lexed.fault in
    let cut = lexed-cut text lexed again fault c.in_ok-tokens.ensures (cc) (cc) in
    let same : slice ≡ again = cc in
    let P : List declared.Token → Type 0 = λ v. Fails c.in-Err.stop (items_at nesting (trees text v)) in
    read-stopped text again fault c.in-Err.stop c.stopped.result c.if-text-gt-LONGEST_TEXT.false cut (subst P same c.in-Err.ensures) c.stopped.ensures
