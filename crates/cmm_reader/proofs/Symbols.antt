-- Tokens that are symbols.
use Rattle.std.proofs.Common.{◌≡◌, ℕ, List, true, false, cond, Option, Some, None, sym, ap, ◌∙◌}
use Rattle.cmm_lex.specs.Token.{TokenTree}
use Rattle.cmm_lex.specs.Integers.{integer_value}
use Rattle.cmm_lex.specs.Strings.{string_bytes}
use Rattle.cmm_tree.specs.Tree.{Address, Val}
use Rattle.cmm_grammar.specs.declared.word.DataWord.{DataWord}
use Rattle.cmm_grammar.specs.declared.word.DataWord.TheVariants as word
use Rattle.cmm_grammar.specs.Words.{is_symbol_token, is_integer, data_word_of, data_keyword, marked, val_of}
use Rattle.cmm_reader.specs.ItemParts.{marked_with}

pub word-symbol : (t : TokenTree) → is_symbol_token t ≡ true → marked_with t (Some word.Define) ≡ data_word_of t
word-symbol t e = sym (ap (λ b. cond b (Some (t, word.Define)) (marked data_keyword t)) e)

pub word-keyword : (t : TokenTree) (o : Option DataWord) → is_symbol_token t ≡ false → o ≡ data_keyword t.kind → marked_with t o ≡ data_word_of t
word-keyword t o e h = ap (marked_with t) h ∙ sym (ap (λ b. cond b (Some (t, word.Define)) (marked data_keyword t)) e)

pub val-symbol : (t : TokenTree) (name : List ℕ) → is_symbol_token t ≡ true → name ≡ string_bytes t.text → Some (Address true t.at name) ≡ val_of t
val-symbol t name e h =
    ap (λ (v : List ℕ). Some (Address true t.at v)) h
    ∙ sym (ap (λ b. cond b (Some (Address true t.at (string_bytes t.text))) (cond (is_integer t) (Some (Val (integer_value t.text))) None)) e)

pub val-number : (t : TokenTree) → is_symbol_token t ≡ false → cond (is_integer t) (Some (Val (integer_value t.text))) None ≡ val_of t
val-number t e =
    sym (ap (λ b. cond b (Some (Address true t.at (string_bytes t.text))) (cond (is_integer t) (Some (Val (integer_value t.text))) None)) e)
