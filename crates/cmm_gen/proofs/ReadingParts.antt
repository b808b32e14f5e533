-- How expressions are read, by how their parts are.
use Rattle.std.proofs.Common.{◌≡◌, ℕ, ◌+◌, ◌≤◌, suc, true, false, List, [], ◌∷◌, ◌++◌, length, lit<, Some, None, refl, sym, subst, arith, length-append, codes}
use Rattle.bs_words.specs.declared.operators.IntOp.{IntOp}
use Rattle.bs_words.specs.declared.operators.IntOp.TheVariants as op
use Rattle.bs_words.specs.declared.types.Chunk.TheVariants as chunk
use Rattle.cmm_lex.specs.declared.token.Keyword.TheVariants as word
use Rattle.cmm_lex.specs.declared.token.Sign.TheVariants as sign
use Rattle.cmm_lex.specs.declared.token.TokenKind.{TokenKind}
use Rattle.cmm_lex.specs.declared.token.TokenKind.TheVariants as kind
use Rattle.cmm_lex.specs.Scanning.{is_star_first}
use Rattle.cmm_lex.specs.Strings.{string_bytes}
use Rattle.bs_words.specs.Symbol.{is_symbol}
use Rattle.cmm_lex.specs.Token.{TokenTree}
use Rattle.cmm_tree.specs.Tree.{Expression, Name, Operator, Load, Alloc, Raise, If, Try, Let, Bind, NoBinding, App, Symbol, NoMore, More}
use Rattle.bs_fault.specs.Reported.{Faults, NoFault, Both, first, second, Faultless}
use Rattle.cmm_limits.specs.Limits.{faults_in}
use Rattle.cmm_grammar.specs.declared.word.Head.TheVariants as head
use Rattle.cmm_grammar.specs.declared.word.Pair.TheVariants as pair
use Rattle.cmm_grammar.specs.declared.word.Triple.TheVariants as triple
use Rattle.cmm_grammar.specs.Grammar.{form_of}
use Rattle.cmm_grammar.specs.Rule.{AnExpression, Expr}
use Rattle.cmm_grammar.specs.Spelling.{Spells, leaf}
use Rattle.cmm_grammar.specs.Words.{is_close, is_close_kind, leaf_of}
use Rattle.cmm_grammar.proofs.Basics.{rises, higher}
use Rattle.cmm_gen.specs.Drawn.{symbol_of}
use Rattle.cmm_lex.specs.Enclosed.{BeginsWith, AComment, opening}
use Rattle.bs_words.specs.declared.types.Comp.TheVariants as comp
use Rattle.bs_words.specs.declared.types.Ret.TheVariants as ret
use Rattle.cmm_gen.proofs.Lexed.{Lexes, Word, closed-then, no-first, lexes-none, lexes-word, lexes-then, word-then, open-then, close-then, space-then}
use Rattle.cmm_gen.proofs.LexedNumerals.{quoted, IsSymbolOf}
use Rattle.cmm_gen.proofs.LexedWords.{word-star, word-if, word-load, word-int, word-alloc, word-header, word-try, word-raise, word-with, word-z, word-p, word-q, word-let, word-app}
use Rattle.cmm_gen.proofs.ReadingForms.{form-spells, pair-spells, triple-spells, raise-spells, load-spells, alloc-spells, try-spells, let-spells, app-spells}

-- ---- tokens at their places

abbrev pub word_at : ℕ → TokenKind → List ℕ → TokenTree
word_at at k text = record { at = at; kind = k; text = text }

abbrev pub open_at : ℕ → TokenTree
open_at at = word_at at (kind.Sign sign.Open) (40 ∷ [])

abbrev pub close_at : ℕ → TokenTree
close_at at = word_at at (kind.Sign sign.Close) (41 ∷ [])

-- ---- faults

pub none-fine : Faultless NoFault
none-fine f h = elim h [ ]

pub both-fine : (a b : Faults) → Faultless a → Faultless b → Faultless (Both a b)
both-fine a b h g f (first _ _ i) = h f i
both-fine a b h g f (second _ _ i) = g f i

-- ---- expressions

-- How a text at a place is read as an expression: of at most so many tokens, in which parentheses nest at
-- most so deep.
pub record Spelled (text : List ℕ) (at : ℕ) (tree : Expression) (most levels : ℕ) : Type 0 where
  pub start : TokenTree
  pub others : List TokenTree
  pub lexes : Lexes at text (start ∷ others)
  pub spells : (d : ℕ) → Spells AnExpression (higher levels d) Expr tree (start ∷ others)
  pub opens : is_close start ≡ false
  pub few : suc (length others) ≤ most
  pub faultless : Faultless (faults_in tree)

-- the same of a text that is written otherwise
pub spelled-as : (text flat : List ℕ) (at : ℕ) (tree : Expression) (most levels : ℕ)
    → text ≡ flat
    → Spelled flat at tree most levels
    → Spelled text at tree most levels
spelled-as text flat at tree most levels e h = subst (λ (v : List ℕ). Spelled v at tree most levels) (sym e) h

-- parentheses may nest deeper
pub deeper : (text : List ℕ) (at : ℕ) (tree : Expression) (most levels : ℕ) → Spelled text at tree most levels → Spelled text at tree most (suc levels)
deeper text at tree most levels h = record {
  start = h.start;
  others = h.others;
  lexes = h.lexes;
  spells = λ d. rises AnExpression (higher levels d) Expr tree (h.start ∷ h.others) (h.spells d);
  opens = h.opens;
  few = h.few;
  faultless = h.faultless;
}

-- there may be more tokens
pub more-tokens : (text : List ℕ) (at : ℕ) (tree : Expression) (most other levels : ℕ)
    → most ≤ other
    → Spelled text at tree most levels
    → Spelled text at tree other levels
more-tokens text at tree most other levels more h =
    let few = h.few in
    record {
      start = h.start;
      others = h.others;
      lexes = h.lexes;
      spells = h.spells;
      opens = h.opens;
      few = omega arith;
      faultless = h.faultless;
    }

-- one word
pub leaf-spelled : (k : TokenKind) (text : List ℕ) (at : ℕ) (tree : Expression) (levels : ℕ)
    → Word k text
    → leaf_of (word_at at k text) ≡ Some tree
    → is_close_kind k ≡ false
    → Faultless (faults_in tree)
    → Spelled text at tree 1 levels
leaf-spelled k text at tree levels w is opens fine = record {
  start = word_at at k text;
  others = [];
  lexes = lexes-word at k text w;
  spells = λ d. leaf (higher levels d) (word_at at k text) tree is;
  opens = opens;
  few = omega arith;
  faultless = fine;
}

-- two rows of tokens, and one token at the end
size-two : (m n : ℕ) (xs ys : List TokenTree) (c : TokenTree)
    → length xs ≤ m
    → length ys ≤ n
    → length (xs ++ (ys ++ (c ∷ []))) ≤ 1 + m + n
size-two m n xs ys c h g = omega (arith, length-append xs (ys ++ (c ∷ [])), length-append ys (c ∷ []))

-- `(+ a b)`, with the sign of an operator
abbrev pub pair_text : List ℕ → List ℕ → List ℕ → List ℕ
pair_text text a b = 40 ∷ (text ++ (32 ∷ (a ++ (32 ∷ (b ++ (41 ∷ []))))))

pub pair-spelled : (o : IntOp) (text a b : List ℕ) (at : ℕ) (x y : Expression) (m n levels : ℕ)
    → Word (kind.Operator o) text
    → is_star_first text ≡ false
    → Spelled a (at + 1 + length text + 1) x m levels
    → Spelled b (at + 1 + length text + 1 + length a + 1) y n levels
    → Spelled (pair_text text a b) at (Operator at o x y) (3 + m + n) (suc levels)
unfolding form_of
pair-spelled o text a b at x y m n levels w star h g =
    let end = close_at (at + 1 + length text + 1 + length a + 1 + length b) in
    record {
      start = open_at at;
      others = word_at (at + 1) (kind.Operator o) text ∷ ((h.start ∷ h.others) ++ ((g.start ∷ g.others) ++ (end ∷ [])));
      lexes =
          open-then at _ _ (no-star text _ star refl)
          (word-then (at + 1) (kind.Operator o) text _ _ w refl
          (space-then _ 32 _ _ (lit< tt) refl
          (lexes-then _ a _ (h.start ∷ h.others) _ h.lexes refl
          (space-then _ 32 _ _ (lit< tt) refl
          (lexes-then _ b _ (g.start ∷ g.others) _ g.lexes refl
          (close-then _ [] [] (lexes-none _)))))));
      spells = λ d.
          form-spells (higher levels d) (open_at at) (word_at (at + 1) (kind.Operator o) text) (head.Pair (pair.Operator o)) _ _ refl refl
          (pair-spells (higher levels d) at (pair.Operator o) x y (h.start ∷ h.others) (g.start ∷ g.others) end refl (h.spells d) (g.spells d));
      opens = refl;
      few = let size = size-two m n (h.start ∷ h.others) (g.start ∷ g.others) end h.few g.few in omega arith;
      faultless = both-fine _ _ h.faultless g.faultless;
    }
  where
    no-star : (xs ys : List ℕ) → is_star_first xs ≡ false → is_star_first ys ≡ false → is_star_first (xs ++ ys) ≡ false
    no-star [] ys h g = g
    no-star (x ∷ xs) ys h g = h

-- `( * a b)`: a parenthesis and a star would open a comment
abbrev pub product_text : List ℕ → List ℕ → List ℕ
product_text a b = 40 ∷ 32 ∷ 42 ∷ 32 ∷ (a ++ (32 ∷ (b ++ (41 ∷ []))))

pub product-spelled : (a b : List ℕ) (at : ℕ) (x y : Expression) (m n levels : ℕ)
    → Spelled a (at + 1 + 1 + 1 + 1) x m levels
    → Spelled b (at + 1 + 1 + 1 + 1 + length a + 1) y n levels
    → Spelled (product_text a b) at (Operator at op.Mul x y) (3 + m + n) (suc levels)
unfolding form_of
product-spelled a b at x y m n levels h g =
    let end = close_at (at + 1 + 1 + 1 + 1 + length a + 1 + length b) in
    record {
      start = open_at at;
      others = word_at (at + 1 + 1) (kind.Operator op.Mul) (codes "*") ∷ ((h.start ∷ h.others) ++ ((g.start ∷ g.others) ++ (end ∷ [])));
      lexes =
          open-then at _ _ refl
          (space-then _ 32 _ _ (lit< tt) refl
          (word-then _ (kind.Operator op.Mul) (codes "*") _ _ word-star refl
          (space-then _ 32 _ _ (lit< tt) refl
          (lexes-then _ a _ (h.start ∷ h.others) _ h.lexes refl
          (space-then _ 32 _ _ (lit< tt) refl
          (lexes-then _ b _ (g.start ∷ g.others) _ g.lexes refl
          (close-then _ [] [] (lexes-none _))))))));
      spells = λ d.
          form-spells (higher levels d) (open_at at) (word_at (at + 1 + 1) (kind.Operator op.Mul) (codes "*")) (head.Pair (pair.Operator op.Mul)) _ _ refl refl
          (pair-spells (higher levels d) at (pair.Operator op.Mul) x y (h.start ∷ h.others) (g.start ∷ g.others) end refl (h.spells d) (g.spells d));
      opens = refl;
      few = let size = size-two m n (h.start ∷ h.others) (g.start ∷ g.others) end h.few g.few in omega arith;
      faultless = both-fine _ _ h.faultless g.faultless;
    }

-- `(if a b c)`
abbrev pub if_text : List ℕ → List ℕ → List ℕ → List ℕ
if_text a b c = 40 ∷ 105 ∷ 102 ∷ 32 ∷ (a ++ (32 ∷ (b ++ (32 ∷ (c ++ (41 ∷ []))))))

pub if-spelled : (a b c : List ℕ) (at : ℕ) (x y z : Expression) (l m n levels : ℕ)
    → Spelled a (at + 1 + 2 + 1) x l levels
    → Spelled b (at + 1 + 2 + 1 + length a + 1) y m levels
    → Spelled c (at + 1 + 2 + 1 + length a + 1 + length b + 1) z n levels
    → Spelled (if_text a b c) at (If at x y z) (3 + l + m + n) (suc levels)
unfolding form_of
if-spelled a b c at x y z l m n levels h g i =
    let end = close_at (at + 1 + 2 + 1 + length a + 1 + length b + 1 + length c) in
    record {
      start = open_at at;
      others = word_at (at + 1) (kind.Keyword word.If) (codes "if") ∷ ((h.start ∷ h.others) ++ ((g.start ∷ g.others) ++ ((i.start ∷ i.others) ++ (end ∷ []))));
      lexes =
          open-then at _ _ refl
          (word-then _ (kind.Keyword word.If) (codes "if") _ _ word-if refl
          (space-then _ 32 _ _ (lit< tt) refl
          (lexes-then _ a _ (h.start ∷ h.others) _ h.lexes refl
          (space-then _ 32 _ _ (lit< tt) refl
          (lexes-then _ b _ (g.start ∷ g.others) _ g.lexes refl
          (space-then _ 32 _ _ (lit< tt) refl
          (lexes-then _ c _ (i.start ∷ i.others) _ i.lexes refl
          (close-then _ [] [] (lexes-none _)))))))));
      spells = λ d.
          form-spells (higher levels d) (open_at at) (word_at (at + 1) (kind.Keyword word.If) (codes "if")) (head.Triple triple.If) _ _ refl refl
          (triple-spells (higher levels d) at triple.If x y z (h.start ∷ h.others) (g.start ∷ g.others) (i.start ∷ i.others) end refl
          (h.spells d) (g.spells d) (i.spells d));
      opens = refl;
      few =
          let size = size-two m n (g.start ∷ g.others) (i.start ∷ i.others) end g.few i.few in
          let more = length-append (h.start ∷ h.others) ((g.start ∷ g.others) ++ ((i.start ∷ i.others) ++ (end ∷ []))) in
          let front = h.few in
          omega arith;
      faultless = both-fine _ _ h.faultless (both-fine _ _ g.faultless i.faultless);
    }

-- `(raise a)`
abbrev pub raise_text : List ℕ → List ℕ
raise_text a = codes "(raise " ++ (a ++ (41 ∷ []))

pub raise-spelled : (a : List ℕ) (at : ℕ) (x : Expression) (m levels : ℕ)
    → Spelled a (at + 1 + 5 + 1) x m levels
    → Spelled (raise_text a) at (Raise at x) (3 + m) (suc levels)
unfolding form_of
raise-spelled a at x m levels h =
    let end = close_at (at + 1 + 5 + 1 + length a) in
    record {
      start = open_at at;
      others = word_at (at + 1) (kind.Keyword word.Raise) (codes "raise") ∷ ((h.start ∷ h.others) ++ (end ∷ []));
      lexes =
          open-then at _ _ refl
          (word-then _ (kind.Keyword word.Raise) (codes "raise") _ _ word-raise refl
          (space-then _ 32 _ _ (lit< tt) refl
          (lexes-then _ a _ (h.start ∷ h.others) _ h.lexes refl
          (close-then _ [] [] (lexes-none _)))));
      spells = λ d.
          form-spells (higher levels d) (open_at at) (word_at (at + 1) (kind.Keyword word.Raise) (codes "raise")) head.Raise _ _ refl refl
          (raise-spells (higher levels d) at x (h.start ∷ h.others) end refl (h.spells d));
      opens = refl;
      few = let front = h.few in omega (arith, length-append (h.start ∷ h.others) (end ∷ []));
      faultless = h.faultless;
    }

-- `(alloc 2299 a b)`
abbrev pub alloc_text : List ℕ → List ℕ → List ℕ
alloc_text a b = codes "(alloc 2299 " ++ (a ++ (32 ∷ (b ++ (41 ∷ []))))

pub alloc-spelled : (a b : List ℕ) (at : ℕ) (x y : Expression) (m n levels : ℕ)
    → Spelled a (at + 1 + 5 + 1 + 4 + 1) x m levels
    → Spelled b (at + 1 + 5 + 1 + 4 + 1 + length a + 1) y n levels
    → Spelled (alloc_text a b) at (Alloc at (at + 1 + 5 + 1) 2299 (More x (More y NoMore))) (4 + m + n) (suc levels)
unfolding form_of
alloc-spelled a b at x y m n levels h g =
    let end = close_at (at + 1 + 5 + 1 + 4 + 1 + length a + 1 + length b) in
    record {
      start = open_at at;
      others =
          word_at (at + 1) (kind.Keyword word.Alloc) (codes "alloc")
          ∷ word_at (at + 1 + 5 + 1) kind.Integer (codes "2299")
          ∷ ((h.start ∷ h.others) ++ ((g.start ∷ g.others) ++ (end ∷ [])));
      lexes =
          open-then at _ _ refl
          (word-then _ (kind.Keyword word.Alloc) (codes "alloc") _ _ word-alloc refl
          (space-then _ 32 _ _ (lit< tt) refl
          (word-then _ kind.Integer (codes "2299") _ _ word-header refl
          (space-then _ 32 _ _ (lit< tt) refl
          (lexes-then _ a _ (h.start ∷ h.others) _ h.lexes refl
          (space-then _ 32 _ _ (lit< tt) refl
          (lexes-then _ b _ (g.start ∷ g.others) _ g.lexes refl
          (close-then _ [] [] (lexes-none _)))))))));
      spells = λ d.
          form-spells (higher levels d) (open_at at) (word_at (at + 1) (kind.Keyword word.Alloc) (codes "alloc")) head.Alloc _ _ refl refl
          (alloc-spells (higher levels d) at (word_at (at + 1 + 5 + 1) kind.Integer (codes "2299")) x y h.start g.start h.others g.others end
          refl h.opens g.opens refl (h.spells d) (g.spells d));
      opens = refl;
      few = let size = size-two m n (h.start ∷ h.others) (g.start ∷ g.others) end h.few g.few in omega arith;
      faultless = both-fine _ _ h.faultless (both-fine _ _ g.faultless none-fine);
    }

-- `(load int a)`
abbrev pub load_text : List ℕ → List ℕ
load_text a = codes "(load int " ++ (a ++ (41 ∷ []))

pub load-spelled : (a : List ℕ) (at : ℕ) (x : Expression) (m levels : ℕ)
    → Spelled a (at + 1 + 4 + 1 + 3 + 1) x m levels
    → Spelled (load_text a) at (Load at chunk.Int x) (4 + m) (suc levels)
unfolding form_of
load-spelled a at x m levels h =
    let end = close_at (at + 1 + 4 + 1 + 3 + 1 + length a) in
    record {
      start = open_at at;
      others =
          word_at (at + 1) (kind.Keyword word.Load) (codes "load")
          ∷ word_at (at + 1 + 4 + 1) (kind.Keyword word.Int) (codes "int")
          ∷ ((h.start ∷ h.others) ++ (end ∷ []));
      lexes =
          open-then at _ _ refl
          (word-then _ (kind.Keyword word.Load) (codes "load") _ _ word-load refl
          (space-then _ 32 _ _ (lit< tt) refl
          (word-then _ (kind.Keyword word.Int) (codes "int") _ _ word-int refl
          (space-then _ 32 _ _ (lit< tt) refl
          (lexes-then _ a _ (h.start ∷ h.others) _ h.lexes refl
          (close-then _ [] [] (lexes-none _)))))));
      spells = λ d.
          form-spells (higher levels d) (open_at at) (word_at (at + 1) (kind.Keyword word.Load) (codes "load")) head.Load _ _ refl refl
          (load-spells (higher levels d) at (word_at (at + 1 + 4 + 1) (kind.Keyword word.Int) (codes "int")) x (h.start ∷ h.others) end
          refl refl (h.spells d));
      opens = refl;
      few = let front = h.few in omega (arith, length-append (h.start ∷ h.others) (end ∷ []));
      faultless = h.faultless;
    }

-- `(try a with z b)`
abbrev pub try_text : List ℕ → List ℕ → List ℕ
try_text a b = codes "(try " ++ (a ++ (codes " with z " ++ (b ++ (41 ∷ []))))

pub try-spelled : (a b : List ℕ) (at : ℕ) (x y : Expression) (m n levels : ℕ)
    → Spelled a (at + 1 + 3 + 1) x m levels
    → Spelled b (at + 1 + 3 + 1 + length a + 1 + 4 + 1 + 1 + 1) y n levels
    → Spelled (try_text a b) at (Try at x (at + 1 + 3 + 1 + length a + 1 + 4 + 1) (codes "z") y) (5 + m + n) (suc levels)
unfolding form_of
try-spelled a b at x y m n levels h g =
    let end = close_at (at + 1 + 3 + 1 + length a + 1 + 4 + 1 + 1 + 1 + length b) in
    let with_at = word_at (at + 1 + 3 + 1 + length a + 1) (kind.Keyword word.With) (codes "with") in
    let name_at = word_at (at + 1 + 3 + 1 + length a + 1 + 4 + 1) kind.Name (codes "z") in
    record {
      start = open_at at;
      others =
          word_at (at + 1) (kind.Keyword word.Try) (codes "try")
          ∷ ((h.start ∷ h.others) ++ (with_at ∷ name_at ∷ ((g.start ∷ g.others) ++ (end ∷ []))));
      lexes =
          open-then at _ _ refl
          (word-then _ (kind.Keyword word.Try) (codes "try") _ _ word-try refl
          (space-then _ 32 _ _ (lit< tt) refl
          (lexes-then _ a _ (h.start ∷ h.others) _ h.lexes refl
          (space-then _ 32 _ _ (lit< tt) refl
          (word-then _ (kind.Keyword word.With) (codes "with") _ _ word-with refl
          (space-then _ 32 _ _ (lit< tt) refl
          (word-then _ kind.Name (codes "z") _ _ word-z refl
          (space-then _ 32 _ _ (lit< tt) refl
          (lexes-then _ b _ (g.start ∷ g.others) _ g.lexes refl
          (close-then _ [] [] (lexes-none _)))))))))));
      spells = λ d.
          form-spells (higher levels d) (open_at at) (word_at (at + 1) (kind.Keyword word.Try) (codes "try")) head.Try _ _ refl refl
          (try-spells (higher levels d) at x y (h.start ∷ h.others) (g.start ∷ g.others) with_at name_at end refl refl refl (h.spells d) (g.spells d));
      opens = refl;
      few =
          let front = h.few in
          let back = g.few in
          omega (arith, length-append (h.start ∷ h.others) (with_at ∷ name_at ∷ ((g.start ∷ g.others) ++ (end ∷ []))), length-append (g.start ∷ g.others) (end ∷ []));
      faultless = both-fine _ _ h.faultless g.faultless;
    }

-- `(let p v b)`
abbrev pub let_text : List ℕ → List ℕ → List ℕ → List ℕ
let_text name v b = codes "(let " ++ (name ++ (32 ∷ (v ++ (32 ∷ (b ++ (41 ∷ []))))))

pub let-spelled : (name v b : List ℕ) (at : ℕ) (x y : Expression) (m n levels : ℕ)
    → Word kind.Name name
    → Spelled v (at + 1 + 3 + 1 + length name + 1) x m levels
    → Spelled b (at + 1 + 3 + 1 + length name + 1 + length v + 1) y n levels
    → Spelled (let_text name v b) at (Let at (Bind (at + 1 + 3 + 1) name None x NoBinding) y) (4 + m + n) (suc levels)
unfolding form_of
let-spelled name v b at x y m n levels w h g =
    let end = close_at (at + 1 + 3 + 1 + length name + 1 + length v + 1 + length b) in
    let name_at = word_at (at + 1 + 3 + 1) kind.Name name in
    record {
      start = open_at at;
      others = word_at (at + 1) (kind.Keyword word.Let) (codes "let") ∷ name_at ∷ ((h.start ∷ h.others) ++ ((g.start ∷ g.others) ++ (end ∷ [])));
      lexes =
          open-then at _ _ refl
          (word-then _ (kind.Keyword word.Let) (codes "let") _ _ word-let refl
          (space-then _ 32 _ _ (lit< tt) refl
          (word-then _ kind.Name name _ _ w refl
          (space-then _ 32 _ _ (lit< tt) refl
          (lexes-then _ v _ (h.start ∷ h.others) _ h.lexes refl
          (space-then _ 32 _ _ (lit< tt) refl
          (lexes-then _ b _ (g.start ∷ g.others) _ g.lexes refl
          (close-then _ [] [] (lexes-none _)))))))));
      spells = λ d.
          form-spells (higher levels d) (open_at at) (word_at (at + 1) (kind.Keyword word.Let) (codes "let")) head.Let _ _ refl refl
          (let-spells (higher levels d) at name_at end x y (h.start ∷ h.others) (g.start ∷ g.others) refl refl refl (h.spells d) (g.spells d));
      opens = refl;
      few = let size = size-two m n (h.start ∷ h.others) (g.start ∷ g.others) end h.few g.few in omega arith;
      faultless = both-fine _ _ (both-fine _ _ h.faultless none-fine) g.faultless;
    }

-- a call of the function of this number, with `p` and `q`
abbrev pub call_text : ℕ → List ℕ
call_text i = codes "(app " ++ (quoted i ++ codes " p q int)")

abbrev pub call_tree : ℕ → ℕ → Expression
call_tree i at =
    App at (Symbol (at + 1 + 3 + 1) (symbol_of i))
    (More (Name (at + 1 + 3 + 1 + length (quoted i) + 1) (codes "p")) (More (Name (at + 1 + 3 + 1 + length (quoted i) + 1 + 1 + 1) (codes "q")) NoMore))
    (ret.Comp comp.Int) (at + 1 + 3 + 1 + length (quoted i) + 1 + 1 + 1 + 1 + 1)

string-leaf : (at : ℕ) (text name : List ℕ)
    → string_bytes text ≡ name
    → is_symbol name ≡ true
    → leaf_of (word_at at kind.String text) ≡ Some (Symbol at name)
string-leaf at text name value is = rw (value, is) refl

-- a symbol
pub symbol-leaf : (i at : ℕ) → IsSymbolOf i → leaf_of (word_at at kind.String (quoted i)) ≡ Some (Symbol at (symbol_of i))
symbol-leaf i at is = string-leaf at (quoted i) (symbol_of i) is.value is.symbol

pub no-comment-quoted : (i : ℕ) (rest : List ℕ) → BeginsWith (quoted i ++ rest) (opening AComment) → ⊥
no-comment-quoted i rest q = no-first 34 40 _ _ refl q.1

pub call-spelled : (i at levels : ℕ) → IsSymbolOf i → Spelled (call_text i) at (call_tree i at) 7 (suc levels)
unfolding form_of
call-spelled i at levels is =
    let p = at + 1 + 3 + 1 + length (quoted i) + 1 in
    let symbol_at = word_at (at + 1 + 3 + 1) kind.String (quoted i) in
    let p_at = word_at p kind.Name (codes "p") in
    let q_at = word_at (p + 1 + 1) kind.Name (codes "q") in
    let int_at = word_at (p + 1 + 1 + 1 + 1) (kind.Keyword word.Int) (codes "int") in
    let end = close_at (p + 1 + 1 + 1 + 1 + 3) in
    record {
      start = open_at at;
      others = word_at (at + 1) (kind.Keyword word.App) (codes "app") ∷ symbol_at ∷ p_at ∷ q_at ∷ int_at ∷ end ∷ [];
      lexes =
          open-then at _ _ refl
          (word-then _ (kind.Keyword word.App) (codes "app") _ _ word-app refl
          (space-then _ 32 _ _ (lit< tt) refl
          (closed-then _ kind.String (quoted i) _ _ is.closed (λ rest ends. no-comment-quoted i _)
          (space-then _ 32 _ _ (lit< tt) refl
          (word-then _ kind.Name (codes "p") _ _ word-p refl
          (space-then _ 32 _ _ (lit< tt) refl
          (word-then _ kind.Name (codes "q") _ _ word-q refl
          (space-then _ 32 _ _ (lit< tt) refl
          (word-then _ (kind.Keyword word.Int) (codes "int") _ _ word-int refl
          (close-then _ [] [] (lexes-none _)))))))))));
      spells = λ d.
          form-spells (higher levels d) (open_at at) (word_at (at + 1) (kind.Keyword word.App) (codes "app")) head.App _ _ refl refl
          (app-spells (higher levels d) at (Symbol (at + 1 + 3 + 1) (symbol_of i)) _ _ (symbol_at ∷ []) p_at q_at int_at end (ret.Comp comp.Int)
          refl refl refl refl refl refl (leaf _ symbol_at _ (symbol-leaf i _ is)));
      opens = refl;
      few = omega arith;
      faultless = both-fine _ _ none-fine (both-fine _ _ none-fine (both-fine _ _ none-fine (both-fine _ _ none-fine none-fine)));
    }
