-- The numerals of generated texts: the numbers from -100 to 100, and those below 1,000 in symbols.
use Rattle.std.proofs.Common.{◌≡◌, ℕ, ◌≤◌, ◌<◌, Bool, true, false, ◌&&◌, ◌==◌, eqb-true, nat_le, nat_lt, List, [], ◌∷◌, ◌++◌, length, lit<, Option, Some, None, refl, ap, arith}
use Rattle.std.proofs.lemmas.Bool.{and_parts, false≢true, leb-true, ltb-true, ne_eqb}
use Rattle.std.specs.Fmt.{decimal, digits}
use Rattle.bs_words.specs.Word.{sub_word}
use Rattle.cmm_lex.specs.declared.state.Shape.{Shape}
use Rattle.cmm_lex.specs.declared.state.Shape.TheVariants as shape
use Rattle.cmm_lex.specs.declared.state.State.{State}
use Rattle.cmm_lex.specs.declared.state.State.TheVariants.{Start}
use Rattle.cmm_lex.specs.declared.token.TokenKind.TheVariants as kind
use Rattle.cmm_lex.specs.Automaton.{run, state_after_byte, after_start, after_number, after_decimal, after_operator, accepts, accepts_number, is_dead}
use Rattle.cmm_lex.specs.Integers.{integer_value}
use Rattle.cmm_lex.specs.Scanning.{kind_of}
use Rattle.cmm_lex.specs.Strings.{IsInside, closing, plain, unescaped, string_bytes}
use Rattle.bs_words.specs.Symbol.{is_symbol}
use Rattle.cmm_lex.proofs.Languages.{AreBytes, all_below, all_below-at}
use Rattle.cmm_lex.proofs.Scans.{dead-is}
use Rattle.cmm_lex.proofs.Spelled.{token-found}
use Rattle.cmm_gen.specs.Drawn.{number_text, symbol_of}
use Rattle.cmm_gen.proofs.Trees.{number_word}
use Rattle.cmm_gen.proofs.Lexed.{Word, Halts, begins_plain, Closed, closed-string, bytes-append}

-- ---- tests of a word

abbrev pub are_bytes : List ℕ → Bool
are_bytes [] = true
are_bytes (b ∷ bs) = nat_lt b 256 && are_bytes bs

pub are-bytes : (text : List ℕ) → are_bytes text ≡ true → AreBytes text
are-bytes [] e = tt
are-bytes (b ∷ bs) e = let p = and_parts (nat_lt b 256) (are_bytes bs) e in (ltb-true b 256 p.0, are-bytes bs p.1)

unfoldable pub halts : State → Bool
halts s = is_dead (state_after_byte s 32) && (is_dead (state_after_byte s 10) && (is_dead (state_after_byte s 40) && (is_dead (state_after_byte s 41) && is_dead (state_after_byte s 58))))

pub halts-are : (s : State) → halts s ≡ true → Halts s
unfolding halts
halts-are s e =
    let a = and_parts _ _ e in
    let b = and_parts _ _ a.1 in
    let c = and_parts _ _ b.1 in
    let d = and_parts _ _ c.1 in
    record {
      space = dead-is _ a.0;
      line = dead-is _ b.0;
      open_sign = dead-is _ c.0;
      close_sign = dead-is _ d.0;
      colon = dead-is _ d.1;
    }

-- ---- numbers

abbrev is_integer_shape : Option Shape → Bool
is_integer_shape (Some shape.Integer) = true
is_integer_shape _ = false

integer-shape : (o : Option Shape) → is_integer_shape o ≡ true → o ≡ Some shape.Integer
integer-shape (Some shape.Integer) e = refl
integer-shape _ e = absurd (false≢true e)

abbrev is_word : Option ℕ → ℕ → Bool
is_word None w = false
is_word (Some v) w = v == w

word-is : (o : Option ℕ) (w : ℕ) → is_word o w ≡ true → o ≡ Some w
word-is None w e = absurd (false≢true e)
word-is (Some v) w e = ap Some (eqb-true v w e)

unfoldable is_number : ℕ → Bool
is_number draw =
    are_bytes (number_text draw)
    && (begins_plain (number_text draw)
    && (halts (run Start (number_text draw))
    && (is_integer_shape (accepts (run Start (number_text draw)))
    && (is_word (integer_value (number_text draw)) (number_word draw)
    && nat_le (length (number_text draw)) 4))))

numbers-are : all_below 201 is_number ≡ true
unfolding is_number digits sub_word halts state_after_byte after_start after_number after_decimal after_operator accepts accepts_number
numbers-are = refl

-- What is used of a number's text.
pub record IsNumber (draw : ℕ) : Type 0 where
  pub word : Word kind.Integer (number_text draw)
  pub value : integer_value (number_text draw) ≡ Some (number_word draw)
  pub short : length (number_text draw) ≤ 4

pub number-is : (draw : ℕ) → draw ≤ 200 → IsNumber draw
unfolding is_number kind_of
number-is draw h =
    let e = all_below-at 201 is_number numbers-are draw (omega arith) in
    let a = and_parts _ _ e in
    let b = and_parts _ _ a.1 in
    let c = and_parts _ _ b.1 in
    let d = and_parts _ _ c.1 in
    let f = and_parts _ _ d.1 in
    let value = word-is (integer_value (number_text draw)) (number_word draw) f.0 in
    record {
      word = record {
        is = token-found shape.Integer (number_text draw) kind.Integer (are-bytes _ a.0) (integer-shape _ d.0) refl;
        bytes = are-bytes _ a.0;
        plain = b.0;
        halts = halts-are _ c.0;
        in_range = rw value refl;
      };
      value = value;
      short = leb-true _ 4 f.1;
    }

-- ---- symbols

abbrev is_digit : ℕ → Bool
is_digit b = nat_le 48 b && nat_le b 57

abbrev are_digits : List ℕ → Bool
are_digits [] = true
are_digits (b ∷ bs) = is_digit b && are_digits bs

unfoldable is_short : ℕ → Bool
is_short j = are_digits (decimal j) && (nat_le (length (decimal j)) 3 && is_symbol (symbol_of j))

short-are : all_below 1000 is_short ≡ true
unfolding is_short digits
short-are = refl

digits-bytes : (ds : List ℕ) → are_digits ds ≡ true → AreBytes ds
digits-bytes [] e = tt
digits-bytes (d ∷ ds) e =
    let p = and_parts (is_digit d) (are_digits ds) e in
    let q = and_parts (nat_le 48 d) (nat_le d 57) p.0 in
    let high = leb-true d 57 q.1 in
    (omega arith, digits-bytes ds p.1)

digits-inside : (ds : List ℕ) → are_digits ds ≡ true → IsInside (ds ++ (34 ∷ []))
digits-inside [] e = closing
digits-inside (d ∷ ds) e =
    let p = and_parts (is_digit d) (are_digits ds) e in
    let q = and_parts (nat_le 48 d) (nat_le d 57) p.0 in
    let low = leb-true 48 d q.0 in
    let high = leb-true d 57 q.1 in
    plain d (ds ++ (34 ∷ [])) (λ e. omega arith) (λ e. omega arith) (digits-inside ds p.1)

digits-unescaped : (ds : List ℕ) → are_digits ds ≡ true → unescaped (ds ++ (34 ∷ [])) ≡ ds
digits-unescaped [] e = refl
digits-unescaped (d ∷ ds) e =
    let p = and_parts (is_digit d) (are_digits ds) e in
    let q = and_parts (nat_le 48 d) (nat_le d 57) p.0 in
    let low = leb-true 48 d q.0 in
    let high = leb-true d 57 q.1 in
    let quote : (d == 34) ≡ false = ne_eqb d 34 (λ e. omega arith) in
    let slash : (d == 92) ≡ false = ne_eqb d 92 (λ e. omega arith) in
    rw (quote, slash) (ap (λ (v : List ℕ). d ∷ v) (digits-unescaped ds p.1))

-- the text of a function's symbol, with its quotes
abbrev pub quoted : ℕ → List ℕ
quoted j = 34 ∷ (symbol_of j ++ (34 ∷ []))

-- What is used of a symbol.
pub record IsSymbolOf (j : ℕ) : Type 0 where
  pub closed : Closed kind.String (quoted j)
  pub value : string_bytes (quoted j) ≡ symbol_of j
  pub symbol : is_symbol (symbol_of j) ≡ true
  pub short : length (symbol_of j) ≤ 4

pub symbol-is : (j : ℕ) → j < 1000 → IsSymbolOf j
unfolding is_short
symbol-is j h =
    let e = and_parts (are_digits (decimal j)) (nat_le (length (decimal j)) 3 && is_symbol (symbol_of j)) (all_below-at 1000 is_short short-are j h) in
    let f = and_parts (nat_le (length (decimal j)) 3) (is_symbol (symbol_of j)) e.1 in
    let few : length (decimal j) ≤ 3 = leb-true (length (decimal j)) 3 f.0 in
    record {
      closed = closed-string (symbol_of j ++ (34 ∷ []))
          (lit< tt, bytes-append (decimal j) (34 ∷ []) (digits-bytes (decimal j) e.0) (lit< tt, tt))
          (plain 103 (decimal j ++ (34 ∷ [])) (λ e. omega arith) (λ e. omega arith) (digits-inside (decimal j) e.0));
      value = ap (λ (v : List ℕ). 103 ∷ v) (digits-unescaped (decimal j) e.0);
      symbol = f.1;
      short = omega arith;
    }
