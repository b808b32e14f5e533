-- What tokens spell names symbols, and its integers are in range.
use Rattle.std.proofs.Common.{◌≡◌, ◌∙◌, ℕ, Bool, true, false, cond, List, [], ◌∷◌, Option, Some, None, option_map, refl, ap, subst}
use Rattle.std.proofs.lemmas.Bool.{and_parts}
use Rattle.std.specs.Prelude.{IsSome}
use Rattle.std.specs.List.{AllByRecursion}
use Rattle.bs_words.specs.Symbol.{is_symbol, IsSymbol}
use Rattle.bs_words.proofs.Symbols.{symbol_decides}
use Rattle.cmm_grammar.specs.Rule as rule
use Rattle.cmm_lex.specs.Token.{TokenTree}
use Rattle.cmm_lex.specs.Integers.{integer_value}
use Rattle.cmm_lex.specs.Strings.{string_bytes}
use Rattle.cmm_lex.specs.declared.token.TokenKind.{TokenKind}
use Rattle.cmm_lex.specs.declared.token.TokenKind.TheVariants as kind
use Rattle.cmm_lex.specs.declared.token.Keyword.TheVariants as word
use Rattle.cmm_tree.specs.Tree.{Expression, Float, ItemTree}
use Rattle.cmm_tree.specs.Tree as tree
use Rattle.cmm_grammar.specs.declared.word.DataWord.{DataWord}
use Rattle.cmm_grammar.specs.declared.word.DataWord.TheVariants as item
use Rattle.cmm_grammar.specs.Parts.{BindingPart, CasePart, HandlerPart, expressions, bindings, cases, handlers}
use Rattle.cmm_grammar.specs.Words.{is_integer, is_string, is_symbol_token, passing, marked, val_of, data_word_of, data_keyword}
use Rattle.cmm_grammar.specs.Rule.{AnExpression, ABinding, ACase, AHandler}
use Rattle.cmm_grammar.specs.Grammar.{a_token, a_data_integer, datum_of}
use Rattle.cmm_grammar.specs.Spelling.{AreItems, nesting}
use Rattle.accepted_files.specs.Named.{CallsSymbols, RowCallsSymbols, BoundCallsSymbols, CasesCallSymbols, HandlersCallSymbols}
use Rattle.cmm_grammar.proofs.Giving.{Facts, AllKnown, DataHave, PartsHave, Given, Gives}
use Rattle.cmm_grammar.proofs.GivingForms.{IsClosed, ItemKnown, items_known}

-- ---- what is known

-- an integer is in range
pub record IsInRange (t : TokenTree) : Type 0 where
  pub some : is_integer t ≡ true → IsSome (integer_value t.text)

-- a symbol that is defined, and an integer that is written as a val
abbrev pub IsFine : tree.DatumTree → Type 0
IsFine (tree.Define name) = IsSymbol name
IsFine (tree.Val word) = IsSome word
IsFine _ = Unit {0}

abbrev symbol_facts : Facts
symbol_facts = record { token = IsInRange; expression = λ d e. CallsSymbols e; name = IsSymbol; datum = IsFine }

abbrev pub AreFine : List tree.DataItemTree → Type 0
AreFine items = DataHave symbol_facts items

-- ---- symbols

symbol_token : (t : TokenTree) → is_symbol_token t ≡ true → IsSymbol (string_bytes t.text)
symbol_token t h = (symbol_decides (string_bytes t.text)).0 (and_parts (is_string t) (is_symbol (string_bytes t.text)) h).1

passing_same : (test : TokenTree → Bool) (t a : TokenTree) → passing test t ≡ Some a → t ≡ a
passing_same test t a e = by (test t) e
  where
    by : (b : Bool) → cond b (Some t) None ≡ Some a → t ≡ a
    by true e = cc
    by false e = absurd (cc)

passing_is : (test : TokenTree → Bool) (t a : TokenTree) → passing test t ≡ Some a → test a ≡ true
passing_is test t a e = by (test t) refl e
  where
    by : (b : Bool) → test t ≡ b → cond b (Some t) None ≡ Some a → test a ≡ true
    by true is e = let same : t ≡ a = cc in subst (λ (v : TokenTree). test v ≡ true) same is
    by false is e = absurd (cc)

symbol_given : (name : Given symbol_facts rule.AToken (passing is_symbol_token)) → IsSymbol (string_bytes name.value.text)
symbol_given name = symbol_token name.value (passing_is is_symbol_token name.of name.value name.is)

first_or : TokenTree → Option (TokenTree × DataWord) → TokenTree
first_or t None = t
first_or t (Some x) = x.0

second_or : DataWord → Option (TokenTree × DataWord) → DataWord
second_or a None = a
second_or a (Some x) = x.1

-- ---- rows

row_has : (d : ℕ) (es : List Expression) → PartsHave symbol_facts d AnExpression es → RowCallsSymbols (expressions es)
row_has d [] p = tt
row_has d (e ∷ es) p = (p.0, row_has d es p.1)

bound_has : (d : ℕ) (bs : List BindingPart) → PartsHave symbol_facts d ABinding bs → BoundCallsSymbols (bindings bs)
bound_has d [] p = tt
bound_has d (b ∷ bs) p = (p.0, bound_has d bs p.1)

cases_have : (d : ℕ) (cs : List CasePart) → PartsHave symbol_facts d ACase cs → CasesCallSymbols (cases cs)
cases_have d [] p = tt
cases_have d (c ∷ cs) p = (p.0, cases_have d cs p.1)

handlers_have : (d : ℕ) (hs : List HandlerPart) → PartsHave symbol_facts d AHandler hs → HandlersCallSymbols (handlers hs)
handlers_have d [] p = tt
handlers_have d (h ∷ hs) p = (p.0, handlers_have d hs p.1)

closed : IsClosed symbol_facts
closed = record {
  deeper = λ n d e le p. p;
  integer = λ d at w. tt;
  pointer = λ d at w. tt;
  symbol = λ d at name. tt;
  named = λ d at name. tt;
  nothing = λ d at. tt;
  float = λ d at word_at es row. row_has d es row;
  bound = λ d at bs e parts p. (bound_has d bs parts, p);
  assigned = λ d at name_at name e p. p;
  operator = λ d at op x y p q. (p, q);
  load = λ d at c x p. p;
  store = λ d at c x y p q. (p, q);
  alloc = λ d at header_at header es row. row_has d es row;
  app = λ d at f es r result_at p row. (p, row_has d es row);
  extcall = λ d at frame name es r result_at n row. (n, row_has d es row);
  checkbound = λ d at x y p q. (p, q);
  raised = λ d at x p. p;
  sequence = λ d at es row. row_has d es row;
  branch = λ d at x y z p q r. (p, (q, r));
  switch = λ d at size_at size e c cs p q parts. (p, (q, cases_have d cs parts));
  caught = λ d at e h hs p q parts. (p, (q, handlers_have d hs parts));
  exit = λ d at label_at label es row. row_has d es row;
  tried = λ d at e name_at name g p q. (p, q);
}

-- ---- items

integer_gives : (d : ℕ) (made : Option ℕ → tree.DatumTree) → ((o : Option ℕ) → IsSome o → IsFine (made o)) → Gives symbol_facts d (a_data_integer made) IsFine
unfolding a_data_integer a_token
integer_gives d made q = λ i. q (integer_value i.value.text) (subst (λ (t : TokenTree). IsSome (integer_value t.text)) (passing_same is_integer i.of i.value i.is) (i.known.some (ap is_integer (passing_same is_integer i.of i.value i.is) ∙ passing_is is_integer i.of i.value i.is)))

val_fine : (t : TokenTree) (d : tree.DatumTree) → IsInRange t → val_of t ≡ Some d → IsFine d
val_fine t d b e = by (is_symbol_token t) (is_integer t) refl e
  where
    by : (x y : Bool) → is_integer t ≡ y → cond x (Some (tree.Address true t.at (string_bytes t.text))) (cond y (Some (tree.Val (integer_value t.text))) None) ≡ Some d → IsFine d
    by true y test e = let same : tree.Address true t.at (string_bytes t.text) ≡ d = cc in subst IsFine same tt
    by false true test e = let same : tree.Val (integer_value t.text) ≡ d = cc in subst IsFine same (b.some test)
    by false false test e = absurd (cc)

datum_gives : (d : ℕ) (t : TokenTree) (w : DataWord) → (w ≡ item.Define → is_symbol_token t ≡ true) → Gives symbol_facts d (datum_of t w) IsFine
unfolding datum_of a_token
datum_gives d t item.Define h = λ c. symbol_token t (h refl)
datum_gives d t item.Byte h = integer_gives d tree.Byte (λ o some. tt)
datum_gives d t item.Half h = integer_gives d tree.Half (λ o some. tt)
datum_gives d t item.Int h = integer_gives d tree.Int (λ o some. tt)
datum_gives d t item.Val h = λ i. val_fine i.of i.value i.known i.is
datum_gives d t item.Addr h = λ c. tt
datum_gives d t item.Skip h = integer_gives d tree.Skip (λ o some. tt)
datum_gives d t item.Align h = integer_gives d tree.Align (λ o some. tt)
datum_gives d t item.Text h = λ c. tt
datum_gives d t item.Global h = λ c. tt
datum_gives d t item.Float h = λ c. tt

-- no keyword is the word of a definition
keyword_other : (k : TokenKind) → data_keyword k ≡ Some item.Define → ⊥
keyword_other (kind.Keyword word.Byte) e = cc
keyword_other (kind.Keyword word.Half) e = cc
keyword_other (kind.Keyword word.Int) e = cc
keyword_other (kind.Keyword word.Val) e = cc
keyword_other (kind.Keyword word.Addr) e = cc
keyword_other (kind.Keyword word.Skip) e = cc
keyword_other (kind.Keyword word.Align) e = cc
keyword_other (kind.Keyword word.String) e = cc
keyword_other (kind.Keyword word.Global) e = cc
keyword_other (kind.Keyword word.Float) e = cc
keyword_other _ e = cc

word_given : (w : Given symbol_facts (rule.Both rule.AToken rule.ADataWord) data_word_of) → w.value.1 ≡ item.Define → is_symbol_token w.value.0 ≡ true
unfolding first_or second_or
word_given w e = by (is_symbol_token w.of) refl w.is
  where
    none_of : (o : Option DataWord) → (o ≡ Some item.Define → ⊥) → option_map (λ (a : DataWord). (w.of, a)) o ≡ Some w.value → ⊥
    none_of None h is = cc
    none_of (Some a) h is = let same : a ≡ w.value.1 = ap (λ (o : Option (TokenTree × DataWord)). second_or a o) is in h (ap Some (same ∙ e))

    by : (b : Bool) → is_symbol_token w.of ≡ b → cond b (Some (w.of, item.Define)) (marked data_keyword w.of) ≡ Some w.value → is_symbol_token w.value.0 ≡ true
    by true test is = let same : w.of ≡ w.value.0 = ap (λ (o : Option (TokenTree × DataWord)). first_or w.of o) is in subst (λ (t : TokenTree). is_symbol_token t ≡ true) same test
    by false test is = absurd (none_of (data_keyword w.of.kind) (keyword_other w.of.kind) is)

-- What is known of an item of a file.
abbrev pub IsNamed : ItemTree → Type 0
IsNamed i = ItemKnown symbol_facts nesting i

-- The items that tokens spell are so.
pub items_named : (items : List ItemTree) (tokens : List TokenTree) → AreItems nesting items tokens → AllKnown IsInRange tokens → AllByRecursion IsNamed items
items_named items tokens are b =
    items_known symbol_facts closed symbol_given (λ d w. datum_gives d w.value.0 w.value.1 (word_given w)) nesting items tokens are b
