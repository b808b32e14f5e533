use Rattle.std.proofs.Common.{◌≡◌, ◌++◌, ◌+◌, ◌*◌, drop}
use Rattle.image_listings.specs.Texts.{words_text}
use Rattle.image_listings.proofs.code.put_words.Given as goal

abbrev pub invariant-loop-word : goal.invariant-loop-word
invariant-loop-word l =
    (l.address ≡ l.start + 4 * l.word-index)
    × (l.initial.page.bytes.items ++ words_text l.start l.words ≡ l.page.bytes.items ++ words_text l.address (drop l.word-index l.words))
