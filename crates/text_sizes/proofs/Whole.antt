-- A text has a byte for each token of its functions, and those of its external calls and symbols.
use Rattle.std.proofs.Common.{ℕ, ◌+◌, ◌≤◌, List, ◌∷◌, length, None, Ok, length-append, arith}
use Rattle.std.specs.Prelude.{sum_by}
use Rattle.std.proofs.lemmas.List.Sums.{sum_by-cons}
use Rattle.cmm_lex.specs.Token.{TokenTree}
use Rattle.cmm_tree.specs.Tree.{FunctionTree, ItemTree, FileTree, functions_among}
use Rattle.cmm_grammar.specs.Parts.{ItemPart, FunctionItem, DataItem, item_of}
use Rattle.cmm_grammar.specs.Spelling.{AreItems, none, more, nesting}
use Rattle.cmm_reader.specs.Text.{ReadsAs}
use Rattle.cmm_reader.specs.Text as said
use Rattle.cmm_front.specs.FileOf.{IsFileOf}
use Rattle.text_sizes.specs.Held.{IsSizeHeld}
use Rattle.text_sizes.proofs.Bytes.{weights_count, weights_fit}
use Rattle.text_sizes.proofs.Names.{items_few}

abbrev pub tokens_of : FunctionTree → ℕ
tokens_of f = f.tokens

one_item : (i : ItemPart) (n : ℕ) (items : List ItemTree) →
    sum_by tokens_of (functions_among (item_of n i ∷ items)) ≤ n + sum_by tokens_of (functions_among items)
one_item (FunctionItem f) n items =
    let split = sum_by-cons tokens_of (record { at = f.at; name_at = f.name_at; name = f.name; params = f.params; body = f.body; tokens = n }) (functions_among items) in
    omega (arith, split)
one_item (DataItem d) n items = omega arith

tokens_few : (d : ℕ) (items : List ItemTree) (tokens : List TokenTree) → AreItems d items tokens → sum_by tokens_of (functions_among items) ≤ length tokens
tokens_few _ _ _ (none d) = omega arith
tokens_few _ _ _ (more d i items xs ys h g) =
    let here = one_item i (length xs) items in
    let others = tokens_few d items ys g in
    omega (arith, here, others, length-append xs ys)

read_held : (text : List ℕ) (file : FileTree) → ReadsAs text (Ok file) → IsSizeHeld text file
read_held text _ (said.file tokens items short cut are faultless) =
    let fit = weights_fit 0 text tokens None cut in
    let count = weights_count tokens in
    let few = tokens_few nesting items tokens are in
    let bytes = items_few nesting items tokens are in
    record { short = short; tokens = omega (arith, fit, count, few); names = omega (arith, fit, bytes) }

-- what each text holds
pub text_held : (text : List ℕ) (file : FileTree) → IsFileOf text file → IsSizeHeld text file
text_held text file is = read_held text file is.read
