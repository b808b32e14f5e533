-- Which tokens spell what.
use Rattle.std.specs.Prelude.{◌≡◌, ℕ, suc, Bool, true, false, List, [], ◌∷◌, ◌++◌, length, Option, Some, None}
use Rattle.cmm_lex.specs.Token.{TokenTree}
use Rattle.cmm_tree.specs.Tree.{Expression, Nothing, ItemTree}
use Rattle.cmm_grammar.specs.Parts.{ItemPart, item_of}
use Rattle.cmm_grammar.specs.Words.{is_open, is_open_bracket, is_close_bracket, is_name, is_labelled, leaf_of}
use Rattle.cmm_grammar.specs.Rule.{Sort, Value, AnExpression, AnItem, Listed, Rule, Give, One, Then, Expr, Inside, InsideOr, LabelledOr, Until, Maybe, Repeat}
use Rattle.cmm_grammar.specs.Grammar.{open_form, an_item}

-- Tokens spell a value by a rule. Parentheses nest in them at most so deep.
pub data Spells : (s : Sort) → ℕ → Rule s → Value s → List TokenTree → Type 0 where
  nothing : (s : Sort) (d : ℕ) (a : Value s) → Spells s d (Give s a) a []
  token : (s : Sort) (d : ℕ) (f : TokenTree → Option (Value s)) (t : TokenTree) (a : Value s)
      → f t ≡ Some a
      → Spells s d (One s f) a (t ∷ [])
  both : (s t : Sort) (d : ℕ) (r : Rule s) (k : Value s → Rule t) (a : Value s) (b : Value t) (xs ys : List TokenTree)
      → Spells s d r a xs
      → Spells t d (k a) b ys
      → Spells t d (Then s t r k) b (xs ++ ys)
  -- an expression of one token
  leaf : (d : ℕ) (t : TokenTree) (e : Expression)
      → leaf_of t ≡ Some e
      → Spells AnExpression d Expr e (t ∷ [])
  -- `[` `]`
  brackets : (d : ℕ) (o c : TokenTree)
      → is_open_bracket o ≡ true
      → is_close_bracket c ≡ true
      → Spells AnExpression d Expr (Nothing o.at) (o ∷ c ∷ [])
  -- a form in parentheses
  parenthesis : (d : ℕ) (o : TokenTree) (e : Expression) (xs : List TokenTree)
      → is_open o ≡ true
      → Spells AnExpression d (open_form o.at) e xs
      → Spells AnExpression (suc d) Expr e (o ∷ xs)
  inside : (s : Sort) (d : ℕ) (r : ℕ → Rule s) (o : TokenTree) (a : Value s) (xs : List TokenTree)
      → is_open o ≡ true
      → Spells s d (r o.at) a xs
      → Spells s (suc d) (Inside s r) a (o ∷ xs)
  inside_first : (s t : Sort) (d : ℕ) (r : ℕ → Rule s)
      (k : Value s → Rule t) (other : Rule t) (o : TokenTree) (a : Value s) (b : Value t) (xs ys : List TokenTree)
      → is_open o ≡ true
      → Spells s d (r o.at) a xs
      → Spells t (suc d) (k a) b ys
      → Spells t (suc d) (InsideOr s t r k other) b (o ∷ (xs ++ ys))
  not_inside : (s t : Sort) (d : ℕ) (r : ℕ → Rule s) (k : Value s → Rule t) (other : Rule t) (u : TokenTree) (b : Value t) (ys : List TokenTree)
      → is_open u ≡ false
      → Spells t d other b (u ∷ ys)
      → Spells t d (InsideOr s t r k other) b (u ∷ ys)
  labelled : (s t : Sort) (d : ℕ) (r : TokenTree → Rule s)
      (k : Value s → Rule t) (other : Expression → Rule t) (o n : TokenTree) (a : Value s) (b : Value t) (xs ys : List TokenTree)
      → is_open o ≡ true
      → is_name n ≡ true
      → Spells s d (r n) a xs
      → Spells t (suc d) (k a) b ys
      → Spells t (suc d) (LabelledOr s t r k other) b (o ∷ n ∷ (xs ++ ys))
  not_labelled : (s t : Sort) (d : ℕ) (r : TokenTree → Rule s)
      (k : Value s → Rule t) (other : Expression → Rule t) (e : Expression) (b : Value t) (xs ys : List TokenTree)
      → is_labelled xs ≡ false
      → Spells AnExpression d Expr e xs
      → Spells t d (other e) b ys
      → Spells t d (LabelledOr s t r k other) b (xs ++ ys)
  -- the end of any number, and one more before it
  ended : (s t : Sort) (d : ℕ) (stop : TokenTree → Bool) (r : Rule s) (k : List (Value s) → Rule t) (u : TokenTree) (b : Value t) (ys : List TokenTree)
      → stop u ≡ true
      → Spells t d (k []) b (u ∷ ys)
      → Spells t d (Until s t stop r k) b (u ∷ ys)
  one_more : (s t : Sort) (d : ℕ) (stop : TokenTree → Bool) (r : Rule s)
      (k : List (Value s) → Rule t) (u : TokenTree) (a : Value s) (b : Value t) (xs ys : List TokenTree)
      → stop u ≡ false
      → Spells s d r a (u ∷ xs)
      → Spells t d (Until s t stop r (λ rest. k (a ∷ rest))) b ys
      → Spells t d (Until s t stop r k) b (u ∷ (xs ++ ys))
  present : (s t : Sort) (d : ℕ) (f : TokenTree → Option (Value s))
      (k : Option (Value s) → Rule t) (u : TokenTree) (a : Value s) (b : Value t) (ys : List TokenTree)
      → f u ≡ Some a
      → Spells t d (k (Some a)) b ys
      → Spells t d (Maybe s t f k) b (u ∷ ys)
  absent : (s t : Sort) (d : ℕ) (f : TokenTree → Option (Value s)) (k : Option (Value s) → Rule t) (u : TokenTree) (b : Value t) (ys : List TokenTree)
      → f u ≡ None
      → Spells t d (k None) b (u ∷ ys)
      → Spells t d (Maybe s t f k) b (u ∷ ys)
  -- the last of some, and one before others
  last : (s : Sort) (d : ℕ) (more : Value s → Bool) (r : Rule s) (a : Value s) (xs : List TokenTree)
      → more a ≡ false
      → Spells s d r a xs
      → Spells (Listed s) d (Repeat s more r) (a ∷ []) xs
  another : (s : Sort) (d : ℕ) (more : Value s → Bool) (r : Rule s) (a : Value s) (more_values : List (Value s)) (xs ys : List TokenTree)
      → more a ≡ true
      → Spells s d r a xs
      → Spells (Listed s) d (Repeat s more r) more_values ys
      → Spells (Listed s) d (Repeat s more r) (a ∷ more_values) (xs ++ ys)

-- Items one after the other, in which parentheses nest at most so deep.
pub data AreItems : ℕ → List ItemTree → List TokenTree → Type 0 where
  none : (d : ℕ) → AreItems d [] []
  more : (d : ℕ) (i : ItemPart) (is : List ItemTree) (xs ys : List TokenTree)
      → Spells AnItem d an_item i xs
      → AreItems d is ys
      → AreItems d (item_of (length xs) i ∷ is) (xs ++ ys)

-- Some text begins with these tokens, in which parentheses nest at most so deep.
abbrev pub BeginsText : ℕ → List TokenTree → Type 0
BeginsText d ts =
    (items : List ItemTree) × (more_tokens : List TokenTree) × AreItems d items (ts ++ more_tokens)

-- how deep parentheses nest at most
abbrev pub nesting : ℕ
nesting = 250
