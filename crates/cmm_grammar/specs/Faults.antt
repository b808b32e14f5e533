-- Where tokens leave the grammar.
--
-- A token is unexpected where no text goes on with it at any depth, though some text that nests at most 250
-- deep begins with the tokens before it. A parenthesis is too deep where a text that nests one level deeper
-- begins so. The two are never on one token.
use Rattle.std.specs.Prelude.{◌≡◌, ℕ, suc, true, List, [], ◌∷◌, ◌++◌, length}
use Rattle.cmm_lex.specs.Token.{TokenTree}
use Rattle.cmm_tree.specs.Tree.{ItemTree}
use Rattle.cmm_grammar.specs.Words.{is_open}
use Rattle.cmm_grammar.specs.Spelling.{AreItems, BeginsText, nesting}

-- A text begins with the tokens before, and none goes on with this one, however deep its parentheses nest.
pub record Unexpected (before : List TokenTree) (bad : TokenTree) : Type 0 where
  pub so_far : BeginsText nesting before
  pub no_further : (d : ℕ) → BeginsText d (before ++ (bad ∷ [])) → ⊥

-- A text begins with the tokens before, and one whose parentheses nest one level deeper goes on with this one,
-- which opens a parenthesis; none does whose parentheses nest no deeper than they may.
pub record TooDeep (before : List TokenTree) (bad : TokenTree) : Type 0 where
  pub so_far : BeginsText nesting before
  pub opens : is_open bad ≡ true
  pub deeper : BeginsText (suc nesting) (before ++ (bad ∷ []))
  pub no_further : BeginsText nesting (before ++ (bad ∷ [])) → ⊥

-- A text begins with the tokens, and none ends there.
pub record EndsInside (tokens : List TokenTree) : Type 0 where
  pub so_far : BeginsText nesting tokens
  pub no_end : (d : ℕ) (items : List ItemTree) → AreItems d items tokens → ⊥

-- A token of which this holds, with those before it; with it so many tokens are left.
pub record HasBadToken (so : List TokenTree → TokenTree → Type 0) (tokens : List TokenTree) (left : ℕ) : Type 0 where
  pub before : List TokenTree
  pub bad : TokenTree
  pub behind : List TokenTree
  pub whole : tokens ≡ before ++ (bad ∷ behind)
  pub is_left : left ≡ suc (length behind)
  pub holds : so before bad
