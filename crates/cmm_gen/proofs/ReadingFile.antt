-- A text of drawn functions is read as its file.
use Rattle.std.proofs.Common.{◌≡◌, ℕ, ◌+◌, ◌*◌, ◌≤◌, ◌<◌, suc, zero, true, not, nat_le, List, [], ◌∷◌, ◌++◌, length, lit<, Option, None, Ok, refl, sym, subst, arith, append_assoc, length-append, codes}
use Rattle.std.proofs.lemmas.Bool.{le-leb}
use Rattle.bs_fault.specs.declared.fault.Fault.{Fault}
use Rattle.bs_fault.specs.declared.fault.Fault.TheVariants.{FunctionTooLong}
use Rattle.bs_words.specs.declared.operators.IntOp.TheVariants as op
use Rattle.bs_words.specs.declared.types.Comp.TheVariants as comp
use Rattle.cmm_lex.specs.declared.token.Keyword.TheVariants as word
use Rattle.cmm_lex.specs.declared.token.Sign.TheVariants as sign
use Rattle.cmm_lex.specs.declared.token.TokenKind.TheVariants as kind
use Rattle.cmm_lex.specs.Token.{TokenTree}
use Rattle.cmm_lex.proofs.Languages.{AreBytes}
use Rattle.cmm_tree.specs.Tree.{Expression, Operator, Let, Bind, NoBinding, Parameter, ItemTree, FileTree, data_among}
use Rattle.bs_fault.specs.Reported.{Both, one_if, faults_of_option, Faultless}
use Rattle.bs_fault.specs.Limits.{most_tokens}
use Rattle.cmm_limits.specs.Limits.{item_limit_faults, items_limit_faults}
use Rattle.cmm_grammar.specs.Grammar.{an_item}
use Rattle.cmm_grammar.specs.Parts.{FunctionPart, FunctionItem, item_of}
use Rattle.cmm_grammar.specs.Rule.{AnItem}
use Rattle.cmm_grammar.specs.Spelling.{Spells, AreItems, none, more, nesting}
use Rattle.cmm_grammar.specs.Words.{is_symbol_token}
use Rattle.cmm_lex.specs.Strings.{string_bytes}
use Rattle.bs_words.specs.Symbol.{is_symbol}
use Rattle.cmm_gen.specs.Drawn.{Drawn, DrawnFunction, drawn_text, symbol_of, body_text, function_text, text_from, text_of}
use Rattle.cmm_gen.proofs.Within.{IsWithin}
use Rattle.cmm_gen.proofs.Trees as tree
use Rattle.cmm_gen.proofs.Trees.{IsTreeOf, IsBodyOf, IsFunctionTreeOf, AreItemsOf, IsFileTreeOf}
use Rattle.cmm_data.specs.Faults.{data_fault_of}
use Rattle.cmm_reader.specs.Text.{ReadsAs}
use Rattle.cmm_reader.specs.Text as text
use Rattle.cmm_gen.proofs.Lexed.{Lexes, begins_end, none-out, whole-text, lexes-none, lexes-then, word-then, closed-then, open-then, close-then, colon-then, space-then}
use Rattle.cmm_gen.proofs.LexedNumerals.{quoted, IsSymbolOf, symbol-is}
use Rattle.cmm_gen.proofs.LexedWords.{word-plus, word-int, word-x, word-y, word-p, word-q, word-function}
use Rattle.cmm_gen.proofs.ReadingForms.{parameter-spells, parameters-spell, function-spells}
use Rattle.cmm_gen.proofs.ReadingParts.{Spelled, spelled-as, deeper, more-tokens, word_at, open_at, close_at, none-fine, both-fine, pair_text, pair-spelled, let_text, let-spelled, call_text, call_tree, call-spelled, no-comment-quoted}
use Rattle.cmm_gen.proofs.ReadingDrawn.{drawn-reads}
use Rattle.cmm_gen.proofs.Sized.{most_of_line, line-short}

-- The expressions of a function nest at most three deep.
pub record IsFunctionWithin (f : DrawnFunction) : Type 0 where
  pub p : IsWithin 3 f.p
  pub q : IsWithin 3 f.q
  pub b : IsWithin 3 f.b

-- ---- what a function gives

-- How its last expression is read.
record ReadingBody (j : ℕ) (b : Drawn) (at : ℕ) : Type 0 where
  tree : Expression
  spelled : Spelled (body_text j b) at tree 389 10
  is_tree : IsBodyOf j b tree

flat-body : (i : ℕ) (b : Drawn) → body_text (suc i) b ≡ pair_text (codes "+") (call_text i) (drawn_text b)
flat-body i b = simp append_assoc

body-reads : (j : ℕ) (b : Drawn) (at : ℕ) → j < 1000 → IsWithin 3 b → ReadingBody j b at
body-reads zero b at small h =
    let r = drawn-reads 3 b at h in
    record {
      tree = r.tree;
      spelled = deeper _ at r.tree _ _ (more-tokens _ at r.tree _ 389 _ (omega arith) r.spelled);
      is_tree = tree.first b r.tree r.is_tree;
    }
body-reads (suc i) b at small h =
    let r = drawn-reads 3 b (at + 1 + 1 + 1 + length (call_text i) + 1) h in
    let call_at = at + 1 + 1 + 1 in
    let made = Operator at op.Add (call_tree i call_at) r.tree in
    record {
      tree = made;
      spelled =
          spelled-as (body_text (suc i) b) _ at made _ _ (flat-body i b)
          (pair-spelled op.Add (codes "+") (call_text i) (drawn_text b) at (call_tree i call_at) r.tree 7 379 9 word-plus refl
          (call-spelled i call_at 8 (symbol-is i (omega arith))) r.spelled);
      is_tree = tree.later i b at call_at _ _ _ _ r.tree r.is_tree;
    }

-- the line of a function, from left to right
abbrev line_text : ℕ → List ℕ → List ℕ
line_text j body = codes "(function " ++ (quoted j ++ (codes " (x:int y:int) " ++ (body ++ (41 ∷ 10 ∷ []))))

abbrev bindings_text : ℕ → DrawnFunction → List ℕ
bindings_text j f = let_text (codes "p") (drawn_text f.p) (let_text (codes "q") (drawn_text f.q) (body_text j f.b))

flat-parts : (s p q b : List ℕ)
    → codes "(function \"" ++ s ++ codes "\" (x:int y:int) (let p " ++ p ++ codes " (let q " ++ q ++ codes " " ++ b ++ codes ")))\n"
    ≡ codes "(function " ++ ((34 ∷ (s ++ (34 ∷ []))) ++ (codes " (x:int y:int) " ++ (let_text (codes "p") p (let_text (codes "q") q b) ++ (41 ∷ 10 ∷ []))))
flat-parts s p q b = simp append_assoc

flat-line : (j : ℕ) (f : DrawnFunction) → function_text j f ≡ line_text j (bindings_text j f)
flat-line j f = flat-parts (symbol_of j) (drawn_text f.p) (drawn_text f.q) (body_text j f.b)

-- How a function is read whose line is at a place.
pub record ReadingFunction (j : ℕ) (f : DrawnFunction) (at : ℕ) : Type 0 where
  pub tokens : List TokenTree
  pub part : FunctionPart
  pub lexes : Lexes at (function_text j f) tokens
  pub spells : Spells AnItem nesting an_item (FunctionItem part) tokens
  pub faultless : Faultless (item_limit_faults (item_of (length tokens) (FunctionItem part)))
  pub few : length tokens ≤ 1167
  pub is_tree : IsFunctionTreeOf j f
      (record { at = part.at; name_at = part.name_at; name = part.name; params = part.params; body = part.body; tokens = length tokens })

-- the bindings of a function, and its last expression
record ReadingLet (j : ℕ) (f : DrawnFunction) (at : ℕ) : Type 0 where
  p : Expression
  q : Expression
  b : Expression
  inner_at : ℕ
  spelled : Spelled (bindings_text j f) at
      (Let at (Bind (at + 1 + 3 + 1) (codes "p") None p NoBinding) (Let inner_at (Bind (inner_at + 1 + 3 + 1) (codes "q") None q NoBinding) b))
      1155 12
  p_is : IsTreeOf f.p p
  q_is : IsTreeOf f.q q
  b_is : IsBodyOf j f.b b

let-reads : (j : ℕ) (f : DrawnFunction) (at : ℕ) → j < 1000 → IsFunctionWithin f → ReadingLet j f at
let-reads j f at small h =
    let r = drawn-reads 3 f.p (at + 1 + 3 + 1 + 1 + 1) h.p in
    let inner_at = at + 1 + 3 + 1 + 1 + 1 + length (drawn_text f.p) + 1 in
    let s = drawn-reads 3 f.q (inner_at + 1 + 3 + 1 + 1 + 1) h.q in
    let t = body-reads j f.b (inner_at + 1 + 3 + 1 + 1 + 1 + length (drawn_text f.q) + 1) small h.b in
    let inner = Let inner_at (Bind (inner_at + 1 + 3 + 1) (codes "q") None s.tree NoBinding) t.tree in
    record {
      p = r.tree;
      q = s.tree;
      b = t.tree;
      inner_at = inner_at;
      spelled =
          let-spelled (codes "p") (drawn_text f.p) (let_text (codes "q") (drawn_text f.q) (body_text j f.b)) at r.tree inner 379 772 11 word-p
          (deeper _ _ r.tree _ _ (deeper _ _ r.tree _ _ r.spelled))
          (let-spelled (codes "q") (drawn_text f.q) (body_text j f.b) inner_at s.tree t.tree 379 389 10 word-q
          (deeper _ _ s.tree _ _ s.spelled) t.spelled);
      p_is = r.is_tree;
      q_is = s.is_tree;
      b_is = t.is_tree;
    }

-- a symbol's token
symbol-token : (j at : ℕ) → IsSymbolOf j → is_symbol_token (word_at at kind.String (quoted j)) ≡ true
symbol-token j at is = string-symbol (quoted j) (symbol_of j) is.value is.symbol
  where
    string-symbol : (text name : List ℕ) → string_bytes text ≡ name → is_symbol name ≡ true → is_symbol (string_bytes text) ≡ true
    string-symbol text name value h = rw value h

few-tokens : (tokens at : ℕ) → tokens ≤ most_tokens → Faultless (one_if (not (nat_le tokens most_tokens)) (FunctionTooLong at))
few-tokens tokens at h = rw (le-leb tokens most_tokens h) none-fine

pub function-reads : (j : ℕ) (f : DrawnFunction) (at : ℕ) → j < 1000 → IsFunctionWithin f → ReadingFunction j f at
function-reads j f at small h =
    let is = symbol-is j small in
    let name_at = at + 1 + 8 + 1 in
    let params_at = name_at + length (quoted j) + 1 in
    let x_at = params_at + 1 in
    let x_int = x_at + 1 + 1 in
    let y_at = x_int + 3 + 1 in
    let y_int = y_at + 1 + 1 in
    let body_at = y_int + 3 + 1 + 1 in
    let r = let-reads j f body_at small h in
    let g = r.spelled in
    let x : Parameter = record { at = x_at; name = codes "x"; comp = comp.Int; comp_at = x_int } in
    let y : Parameter = record { at = y_at; name = codes "y"; comp = comp.Int; comp_at = y_int } in
    let body =
    Let body_at (Bind (body_at + 1 + 3 + 1) (codes "p") None r.p NoBinding)
    (Let r.inner_at (Bind (r.inner_at + 1 + 3 + 1) (codes "q") None r.q NoBinding) r.b)
    in
    let end = close_at (body_at + length (bindings_text j f)) in
    let name = word_at name_at kind.String (quoted j) in
    let params =
    word_at x_at kind.Name (codes "x") ∷ word_at (x_at + 1) (kind.Sign sign.Colon) (58 ∷ []) ∷ word_at x_int (kind.Keyword word.Int) (codes "int")
    ∷ word_at y_at kind.Name (codes "y") ∷ word_at (y_at + 1) (kind.Sign sign.Colon) (58 ∷ []) ∷ word_at y_int (kind.Keyword word.Int) (codes "int")
    ∷ close_at (y_int + 3) ∷ []
    in
    let tokens = open_at at ∷ word_at (at + 1) (kind.Keyword word.Function) (codes "function") ∷ name ∷ open_at params_at ∷ (params ++ ((g.start ∷ g.others) ++ (end ∷ []))) in
    let front = g.few in
    let size : length tokens ≤ 1167 = omega (arith, length-append g.others (end ∷ [])) in
    record {
      tokens = tokens;
      part = record { at = at; name_at = name_at; name = symbol_of j; params = x ∷ y ∷ []; body = body };
      lexes = subst (λ (v : List ℕ). Lexes at v tokens) (sym (flat-line j f)) (
          open-then at _ _ refl
          (word-then _ (kind.Keyword word.Function) (codes "function") _ _ word-function refl
          (space-then _ 32 _ _ (lit< tt) refl
          (closed-then _ kind.String (quoted j) _ _ is.closed (λ rest ends. no-comment-quoted j _)
          (space-then _ 32 _ _ (lit< tt) refl
          (open-then _ _ _ refl
          (word-then _ kind.Name (codes "x") _ _ word-x refl
          (colon-then _ _ _
          (word-then _ (kind.Keyword word.Int) (codes "int") _ _ word-int refl
          (space-then _ 32 _ _ (lit< tt) refl
          (word-then _ kind.Name (codes "y") _ _ word-y refl
          (colon-then _ _ _
          (word-then _ (kind.Keyword word.Int) (codes "int") _ _ word-int refl
          (close-then _ _ _
          (space-then _ 32 _ _ (lit< tt) refl
          (lexes-then _ (bindings_text j f) _ (g.start ∷ g.others) _ g.lexes refl
          (close-then _ _ []
          (space-then _ 10 [] [] (lit< tt) refl (lexes-none _)))))))))))))))))));
      spells =
          subst (λ (v : List ℕ). Spells AnItem nesting an_item (FunctionItem (record { at = at; name_at = name_at; name = v; params = x ∷ y ∷ []; body = body })) tokens)
          is.value
          (function-spells 248 (open_at at) (word_at (at + 1) (kind.Keyword word.Function) (codes "function")) name (open_at params_at) end
          (x ∷ y ∷ []) body params (g.start ∷ g.others) refl refl (symbol-token j name_at is) refl refl
          (parameters-spell 248 x y _ _ _ _ _ refl refl refl
          (parameter-spells 248 _ _ _ comp.Int refl refl refl)
          (parameter-spells 248 _ _ _ comp.Int refl refl refl))
          (g.spells 237));
      faultless = both-fine _ _ none-fine (both-fine _ _ (few-tokens (length tokens) at (omega arith)) g.faultless);
      few = size;
      is_tree =
          tree.function j f at name_at x_at x_int y_at y_int body_at (body_at + 1 + 3 + 1) r.inner_at (r.inner_at + 1 + 3 + 1) (length tokens)
          r.p r.q r.b r.p_is r.q_is r.b_is;
    }

-- ---- the file

-- The expressions of each function nest at most three deep.
pub data AreWithin : List DrawnFunction → Type 0 where
  none_within : AreWithin []
  more_within : (f : DrawnFunction) (fs : List DrawnFunction) → IsFunctionWithin f → AreWithin fs → AreWithin (f ∷ fs)

-- How the lines of functions are read that are at a place.
pub record ReadingLines (j : ℕ) (fs : List DrawnFunction) (at : ℕ) : Type 0 where
  pub tokens : List TokenTree
  pub items : List ItemTree
  pub lexes : Lexes at (text_from j fs) tokens
  pub spells : AreItems nesting items tokens
  pub faultless : Faultless (items_limit_faults items)
  pub no_data : data_among items ≡ []
  pub are : AreItemsOf j fs items
  pub short : length (text_from j fs) ≤ most_of_line * length fs

lines-end : (j : ℕ) (fs : List DrawnFunction) → begins_end (text_from j fs) ≡ true
lines-end j [] = refl
lines-end j (f ∷ fs) = refl

pub lines-read : (j : ℕ) (fs : List DrawnFunction) (at : ℕ) → j + length fs ≤ 1000 → AreWithin fs → ReadingLines j fs at
lines-read j [] at few none_within = record {
  tokens = [];
  items = [];
  lexes = lexes-none at;
  spells = none nesting;
  faultless = none-fine;
  no_data = refl;
  are = tree.none j;
  short = omega arith;
}
lines-read j (f ∷ fs) at few (more_within _ _ h within) =
    let small : j < 1000 = omega arith in
    let r = function-reads j f at small h in
    let s = lines-read (suc j) fs (at + length (function_text j f)) (omega arith) within in
    let line = line-short j f small h.p h.q h.b in
    let lines = s.short in
    record {
      tokens = r.tokens ++ s.tokens;
      items = item_of (length r.tokens) (FunctionItem r.part) ∷ s.items;
      lexes = lexes-then at (function_text j f) (text_from (suc j) fs) r.tokens s.tokens r.lexes (lines-end (suc j) fs) s.lexes;
      spells = more nesting (FunctionItem r.part) s.items r.tokens s.tokens r.spells s.spells;
      faultless = both-fine _ _ r.faultless s.faultless;
      no_data = s.no_data;
      are = tree.more j f fs _ s.items r.is_tree s.are;
      short = omega (arith, length-append (function_text j f) (text_from (suc j) fs));
    }

-- A file that a text is read as, and that is what was drawn.
pub record ReadAs (functions : List DrawnFunction) (text : List ℕ) : Type 0 where
  pub file : FileTree
  pub reads : ReadsAs text (Ok file)
  pub bytes : AreBytes text
  pub is_drawn : IsFileTreeOf functions file

-- no data but that which is built in
no-data-fault : (items : List ItemTree) → data_among items ≡ [] → data_fault_of (record { items = items }) ≡ None
no-data-fault items no_data = rw no_data refl

-- no fault of sizes, of integers or of data
fine-file : (range data_fault : Option Fault) (items : List ItemTree)
    → range ≡ None
    → data_fault ≡ None
    → Faultless (items_limit_faults items)
    → Faultless (Both (items_limit_faults items) (Both (faults_of_option range) (faults_of_option data_fault)))
fine-file range data_fault items no_range no_fault h = rw (no_range, no_fault) (both-fine _ _ h (both-fine _ _ none-fine none-fine))

-- The text of up to 1,000 functions that are drawn is read as their file.
pub text-reads : (functions : List DrawnFunction) → length functions ≤ 1000 → AreWithin functions → ReadAs functions (text_of functions)
text-reads functions few within =
    let r = lines-read 0 functions 0 (omega arith) within in
    let size = r.short in
    let fine = fine-file _ _ r.items (none-out r.tokens r.lexes.in_range) (no-data-fault r.items r.no_data) r.faultless in
    record {
      file = record { items = r.items };
      reads = text.file r.tokens r.items (omega arith) (whole-text (text_of functions) r.tokens r.lexes) r.spells fine;
      bytes = r.lexes.bytes;
      is_drawn = r.are;
    }
