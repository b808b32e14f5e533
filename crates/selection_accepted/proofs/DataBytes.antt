-- The strings of static data are of bytes, where the text is.
use Rattle.std.proofs.Common.{◌≡◌, ℕ, ◌<◌, Bool, true, false, cond, List, [], ◌∷◌, Option, Some, None, refl, subst, arith}
use Rattle.std.specs.Prelude.{◌==◌, ◌&&◌, nat_le}
use Rattle.std.specs.Char.{is_ascii_digit}
use Rattle.std.proofs.lemmas.Bool.{leb-true, and_parts}
use Rattle.bs_fault.specs.declared.fault.Fault.{Fault}
use Rattle.cmm_lex.specs.Token.{TokenTree}
use Rattle.cmm_lex.specs.Lexing.{Splits, ended, gap, token, stopped}
use Rattle.cmm_lex.specs.Strings.{coded, is_code, escaped, unescaped, behind_backslash, string_bytes}
use Rattle.cmm_lex.proofs.Languages.{AreBytes}
use Rattle.cmm_lex.proofs.Scans.{AreBytes-back, AreBytes-front}
use Rattle.cmm_tree.specs.Tree.{DatumTree, Text, Define, Byte, Half, Int, Val, Address, Skip, Align, Global, DataItemTree, ItemTree}
use Rattle.cmm_tree.specs.Tree as tree
use Rattle.cmm_grammar.specs.declared.word.DataWord.{DataWord}
use Rattle.cmm_grammar.specs.declared.word.DataWord.TheVariants as item
use Rattle.cmm_grammar.specs.Words.{passing, is_symbol_token, is_integer, is_string}
use Rattle.cmm_grammar.specs.Grammar.{a_token, a_data_integer, datum_of}
use Rattle.cmm_grammar.specs.Spelling.{AreItems, nothing}
use Rattle.cmm_grammar.proofs.Giving.{Facts, AllKnown, DataHave, Gives}
use Rattle.cmm_grammar.proofs.GivingForms.{IsClosed, ItemKnown, items_known}
use Rattle.std.specs.List.{AllByRecursion}

-- ---- strings

escaped_byte : (b : ℕ) → b < 256 → escaped b < 256
escaped_byte b less = by (b == 110) (b == 116) (b == 114) (b == 98)
  where
    by : (w x y z : Bool) → cond w 10 (cond x 9 (cond y 13 (cond z 8 b))) < 256
    by true x y z = omega arith
    by false true y z = omega arith
    by false false true z = omega arith
    by false false false true = omega arith
    by false false false false = less

bytes_if : (t : Bool) (x y : List ℕ) → AreBytes x → AreBytes y → AreBytes (cond t x y)
bytes_if true x y p q = p
bytes_if false x y p q = q

coded_bytes : (a b c : ℕ) (t : Bool) → is_code a b c ≡ t → (x y : List ℕ) → AreBytes x → AreBytes y → AreBytes (cond t (coded a b c ∷ x) y)
coded_bytes a b c true e x y p q =
    let le = leb-true (coded a b c) 255 (and_parts (is_ascii_digit c) (nat_le (coded a b c) 255) (and_parts (is_ascii_digit a && is_ascii_digit b) _ e).1).1 in
    (omega (arith, le), p)
coded_bytes a b c false e x y p q = q

mutual
  unescaped_bytes : (bs : List ℕ) → AreBytes bs → AreBytes (unescaped bs)
  unescaped_bytes [] p = tt
  unescaped_bytes (b ∷ bs) p =
      bytes_if (b == 34) [] _ tt (bytes_if (b == 92) (behind_backslash bs) (b ∷ unescaped bs) (behind_bytes bs p.1) (p.0, unescaped_bytes bs p.1))

  behind_bytes : (bs : List ℕ) → AreBytes bs → AreBytes (behind_backslash bs)
  behind_bytes (a ∷ b ∷ c ∷ bs) p =
      coded_bytes a b c (is_code a b c) refl (unescaped bs) (escaped a ∷ unescaped (b ∷ c ∷ bs)) (unescaped_bytes bs p.1.1.1) (escaped_byte a p.0, unescaped_bytes (b ∷ c ∷ bs) p.1)
  behind_bytes (a ∷ []) p = (escaped_byte a p.0, tt)
  behind_bytes (a ∷ b ∷ []) p = (escaped_byte a p.0, unescaped_bytes (b ∷ []) p.1)
  behind_bytes [] p = tt

string_of_bytes : (text : List ℕ) → AreBytes text → AreBytes (string_bytes text)
string_of_bytes [] p = tt
string_of_bytes (b ∷ bs) p = unescaped_bytes bs p.1

-- ---- tokens

abbrev pub HasBytes : TokenTree → Type 0
HasBytes t = AreBytes t.text

pub tokens_bytes : (at : ℕ) (text : List ℕ) (tokens : List TokenTree) (fault : Option Fault) → Splits at text tokens fault → AreBytes text → AllKnown HasBytes tokens
tokens_bytes _ _ _ _ (ended at) p = tt
tokens_bytes _ _ _ _ (gap at text rest tokens fault is further) p = tokens_bytes _ rest tokens fault further (AreBytes-back text rest p)
tokens_bytes _ _ _ _ (token at k text rest tokens fault is long no' further) p = (AreBytes-front text rest p, tokens_bytes _ rest tokens fault further (AreBytes-back text rest p))
tokens_bytes _ _ _ _ (stopped at bytes fault is) p = tt

-- ---- static data

abbrev pub DatumBytes : DatumTree → Type 0
DatumBytes (Text bytes) = AreBytes bytes
DatumBytes _ = Unit {0}

-- nothing is known of expressions and names
abbrev byte_facts : Facts
byte_facts = record { token = HasBytes; expression = λ d e. Unit {0}; name = λ name. Unit {0}; datum = DatumBytes }

abbrev pub DataBytes : List DataItemTree → Type 0
DataBytes items = DataHave byte_facts items

closed : IsClosed byte_facts
closed = record {
  deeper = λ n d e le p. tt;
  integer = λ d at w. tt;
  pointer = λ d at w. tt;
  symbol = λ d at name. tt;
  named = λ d at name. tt;
  nothing = λ d at. tt;
  float = λ d at word_at es row. tt;
  bound = λ d at bs e parts p. tt;
  assigned = λ d at name_at name e p. tt;
  operator = λ d at op x y p q. tt;
  load = λ d at c x p. tt;
  store = λ d at c x y p q. tt;
  alloc = λ d at header_at header es row. tt;
  app = λ d at f es r result_at p row. tt;
  extcall = λ d at frame name es r result_at n row. tt;
  checkbound = λ d at x y p q. tt;
  raised = λ d at x p. tt;
  sequence = λ d at es row. tt;
  branch = λ d at x y z p q r. tt;
  switch = λ d at size_at size e c cs p q parts. tt;
  caught = λ d at e h hs p q parts. tt;
  exit = λ d at label_at label es row. tt;
  tried = λ d at e name_at name g p q. tt;
}

integer_gives : (d : ℕ) (made : Option ℕ → DatumTree) → ((o : Option ℕ) → DatumBytes (made o)) → Gives byte_facts d (a_data_integer made) DatumBytes
unfolding a_data_integer a_token
integer_gives d made fine = λ i. fine _

passed : (test : TokenTree → Bool) (t a : TokenTree) → passing test t ≡ Some a → AreBytes t.text → AreBytes a.text
passed test t a e b = by (test t) e
  where
    by : (q : Bool) → cond q (Some t) None ≡ Some a → AreBytes a.text
    by true e = let same : t ≡ a = cc in subst (λ (u : TokenTree). AreBytes u.text) same b
    by false e = absurd (cc)

val_bytes : (t : TokenTree) (d : DatumTree) (x y : Bool) (name : List ℕ) (o : Option ℕ) → cond x (Some (Address true t.at name)) (cond y (Some (Val o)) None) ≡ Some d → DatumBytes d
val_bytes t d true y name o e = let same : Address true t.at name ≡ d = cc in subst DatumBytes same tt
val_bytes t d false true name o e = let same : Val o ≡ d = cc in subst DatumBytes same tt
val_bytes t d false false name o e = absurd (cc)

datum_gives : (d : ℕ) (t : TokenTree) (w : DataWord) → Gives byte_facts d (datum_of t w) DatumBytes
unfolding datum_of a_token
datum_gives d t item.Define = λ u. tt
datum_gives d t item.Byte = integer_gives d Byte (λ o. tt)
datum_gives d t item.Half = integer_gives d Half (λ o. tt)
datum_gives d t item.Int = integer_gives d Int (λ o. tt)
datum_gives d t item.Val = λ i. val_bytes i.of i.value (is_symbol_token i.of) (is_integer i.of) _ _ i.is
datum_gives d t item.Addr = λ u. tt
datum_gives d t item.Skip = integer_gives d Skip (λ o. tt)
datum_gives d t item.Align = integer_gives d Align (λ o. tt)
datum_gives d t item.Text = λ u. string_of_bytes u.value.text (passed is_string u.of u.value u.is u.known)
datum_gives d t item.Global = λ u. tt
datum_gives d t item.Float = λ u. tt

abbrev pub ItemsBytes : List ItemTree → Type 0
ItemsBytes [] = Unit {0}
ItemsBytes (tree.AFunction f ∷ items) = ItemsBytes items
ItemsBytes (tree.AData d ∷ items) = DataBytes d.items × ItemsBytes items

bytes_among : (d : ℕ) (items : List ItemTree) → AllByRecursion (ItemKnown byte_facts d) items → ItemsBytes items
bytes_among d [] p = tt
bytes_among d (tree.AFunction f ∷ items) p = bytes_among d items p.1
bytes_among d (tree.AData l ∷ items) p = (p.0, bytes_among d items p.1)

-- the strings of the static data of items are of bytes
pub items_bytes : (d : ℕ) (items : List ItemTree) (tokens : List TokenTree) → AreItems d items tokens → AllKnown HasBytes tokens → ItemsBytes items
items_bytes d items tokens are b =
    bytes_among d items (items_known byte_facts closed (λ t. tt) (λ d w. datum_gives d w.value.0 w.value.1) d items tokens are b)
