-- The words of arguments, one by one.
use Rattle.std.proofs.Common.{◌≡◌, ℕ, suc, ◌+◌, ◌<◌, ◌≤◌, zero, List, [], ◌∷◌, ◌++◌, length, drop, get_or, Option, Some, None, refl, sym, ap, ◌∙◌, arith, append-nil, append_assoc}
use Rattle.std.specs.Prelude.{option_map}
use Rattle.std.proofs.Math.Seq.{drop-cons}
use Rattle.bs_words.specs.declared.values.Value.{Value}
use Rattle.rv_machine.specs.declared.setup.Arg.{Arg}
use Rattle.rv_machine.specs.declared.setup.Arg.TheVariants.{Word, Symbol}
use Rattle.rv_machine.specs.Loading.{before_words}
use Rattle.text_commands.specs.Arguments.{address_in, word_of_argument, words_of_arguments}

-- these words, and then the others, where there are any
abbrev pub joined : List ℕ → Option (List ℕ) → Option (List ℕ)
joined words others = option_map (λ rest. words ++ rest) others

module _ (symbol : List ℕ → Option Value) where
  -- the words so far are those of the arguments that were passed
  abbrev pub SoFar : List Arg → ℕ → List ℕ → Type 0
  SoFar args i words = words_of_arguments symbol args ≡ joined words (words_of_arguments symbol (drop i args))

  joined-nil : (o : Option (List ℕ)) → o ≡ joined [] o
  joined-nil None = refl
  joined-nil (Some words) = refl

  pub SoFar-none : (args : List Arg) → SoFar args 0 []
  SoFar-none [] = refl
  SoFar-none (a ∷ rest) = joined-nil (words_of_arguments symbol (a ∷ rest))

  -- what is left begins with the argument here
  left : (args : List Arg) (i : ℕ) (a : Arg) → i < length args → a ≡ get_or args i a → drop i args ≡ a ∷ drop (i + 1) args
  left args i a h e =
      let n : suc i ≡ i + 1 = omega arith in
      drop-cons args i a h ∙ ap (λ y. y ∷ drop (suc i) args) (sym e) ∙ ap (λ k. a ∷ drop k args) n

  joined-before : (words : List ℕ) (word : ℕ) (o : Option (List ℕ)) → joined words (before_words (Some word) o) ≡ joined (words ++ word ∷ []) o
  joined-before words word None = refl
  joined-before words word (Some rest) = ap Some (sym (append_assoc words (word ∷ []) rest))

  pub SoFar-more : (args : List Arg) (i : ℕ) (words : List ℕ) (a : Arg) (word : ℕ) → SoFar args i words
      → i < length args → a ≡ get_or args i a → word_of_argument symbol a ≡ Some word → SoFar args (i + 1) (words ++ word ∷ [])
  SoFar-more args i words a word so h e is =
      so ∙ ap (λ l. joined words (words_of_arguments symbol l)) (left args i a h e)
      ∙ ap (λ o. joined words (before_words o (words_of_arguments symbol (drop (i + 1) args)))) is
      ∙ joined-before words word (words_of_arguments symbol (drop (i + 1) args))

  pub SoFar-stops : (args : List Arg) (i : ℕ) (words : List ℕ) (a : Arg) → SoFar args i words
      → i < length args → a ≡ get_or args i a → word_of_argument symbol a ≡ None → words_of_arguments symbol args ≡ None
  SoFar-stops args i words a so h e is =
      so ∙ ap (λ l. joined words (words_of_arguments symbol l)) (left args i a h e)
      ∙ ap (λ o. joined words (before_words o (words_of_arguments symbol (drop (i + 1) args)))) is

  drop_past : (args : List Arg) (i : ℕ) → length args ≤ i → drop i args ≡ []
  drop_past [] zero h = refl
  drop_past [] (suc i) h = refl
  drop_past (a ∷ rest) zero h = absurd (omega arith)
  drop_past (a ∷ rest) (suc i) h = drop_past rest i (omega arith)

  pub SoFar-all : (args : List Arg) (i : ℕ) (words : List ℕ) → SoFar args i words → length args ≤ i → words_of_arguments symbol args ≡ Some words
  SoFar-all args i words so h =
      so ∙ ap (λ l. joined words (words_of_arguments symbol l)) (drop_past args i h) ∙ ap Some (append-nil words)

-- symbols that stand for the same give the same words
pub words_same : (f g : List ℕ → Option Value) → ((name : List ℕ) → f name ≡ g name) → (args : List Arg) → words_of_arguments f args ≡ words_of_arguments g args
words_same f g same [] = refl
words_same f g same (Word word ∷ args) = ap (before_words (Some word)) (words_same f g same args)
words_same f g same (Symbol name ∷ args) =
    ap (λ v. before_words (address_in v) (words_of_arguments f args)) (same name) ∙ ap (before_words (address_in (g name))) (words_same f g same args)
