-- Texts that are cut into tokens part by part.
use Rattle.std.proofs.Common.{◌≡◌, ℕ, ◌+◌, ◌≤◌, ◌<◌, Bool, true, false, not, ◌&&◌, ◌||◌, ◌==◌, eqb-true, List, [], ◌∷◌, ◌++◌, length, lit<, Option, Some, None, refl, sym, ap, subst, ◌∙◌, inl, inr, arith, length-append, append_assoc, append-nil}
use Rattle.std.proofs.lemmas.Bool.{or_cases, false≢true, eqb-false}
use Rattle.bs_fault.specs.declared.fault.Fault.{Fault}
use Rattle.cmm_lex.specs.declared.state.Shape.{Shape}
use Rattle.cmm_lex.specs.declared.state.Shape.TheVariants as shape
use Rattle.cmm_lex.specs.declared.state.State.{State}
use Rattle.cmm_lex.specs.declared.state.State.TheVariants.{Start, Done, Dead}
use Rattle.cmm_lex.specs.declared.token.TokenKind.{TokenKind}
use Rattle.cmm_lex.specs.declared.token.TokenKind.TheVariants as kind
use Rattle.cmm_lex.specs.declared.token.Sign.TheVariants as sign
use Rattle.cmm_lex.specs.Automaton.{run, state_after_byte, after_start, accepts}
use Rattle.cmm_lex.specs.Enclosed.{BeginsWith, AComment, opening}
use Rattle.cmm_lex.specs.Lexing.{Splits, ended, gap, token, separator, is_out_of_range, first_range}
use Rattle.cmm_lex.specs.Strings.{IsInside}
use Rattle.cmm_lex.specs.Token.{TokenTree}
use Rattle.cmm_lex.specs.Tokens.{IsToken, is_sign, is_string, Longest}
use Rattle.cmm_lex.specs.Scanning.{is_separator, is_star_first, behind_string, IsFine}
use Rattle.cmm_lex.proofs.Languages.{AreBytes}
use Rattle.cmm_lex.proofs.Scans.{AreBytes-front, run-dead}
use Rattle.cmm_lex.proofs.Spelled.{accepted-token}
use Rattle.cmm_lex.proofs.Closings.{string-to, inside-ends}
use Rattle.cmm_lex.proofs.Fronts.{separator-from, string-quote, string-token}

-- ---- bytes after a token

-- a byte that goes on with no word, no number and no operator: a space, a line feed, a parenthesis or a colon
abbrev pub is_end : ℕ → Bool
is_end b = (b == 32) || ((b == 10) || ((b == 40) || ((b == 41) || (b == 58))))

abbrev pub begins_end : List ℕ → Bool
begins_end [] = true
begins_end (b ∷ bs) = is_end b

-- the automaton goes on from this state with none of these bytes
pub record Halts (s : State) : Type 0 where
  pub space : state_after_byte s 32 ≡ Dead
  pub line : state_after_byte s 10 ≡ Dead
  pub open_sign : state_after_byte s 40 ≡ Dead
  pub close_sign : state_after_byte s 41 ≡ Dead
  pub colon : state_after_byte s 58 ≡ Dead

pub halts-at : (s : State) (b : ℕ) → Halts s → is_end b ≡ true → state_after_byte s b ≡ Dead
halts-at s b h e =
    elim (or_cases _ _ e) [
      | inl is ↦ ap (state_after_byte s) (eqb-true b 32 is) ∙ h.space
      | inr e1 ↦ elim (or_cases _ _ e1) [
        | inl is ↦ ap (state_after_byte s) (eqb-true b 10 is) ∙ h.line
        | inr e2 ↦ elim (or_cases _ _ e2) [
          | inl is ↦ ap (state_after_byte s) (eqb-true b 40 is) ∙ h.open_sign
          | inr e3 ↦ elim (or_cases _ _ e3) [
            | inl is ↦ ap (state_after_byte s) (eqb-true b 41 is) ∙ h.close_sign
            | inr is ↦ ap (state_after_byte s) (eqb-true b 58 is) ∙ h.colon
          ]
        ]
      ]
    ]

pub bytes-append : (xs ys : List ℕ) → AreBytes xs → AreBytes ys → AreBytes (xs ++ ys)
bytes-append [] ys h g = g
bytes-append (x ∷ xs) ys h g = (h.0, bytes-append xs ys h.1 g)

-- no front that is longer is accepted where the automaton halts after these bytes
none-longer : (s : State) (text rest xs ys : List ℕ) (k : Shape)
    → ((b : ℕ) (bs : List ℕ) → rest ≡ b ∷ bs → state_after_byte (run s text) b ≡ Dead)
    → text ++ rest ≡ xs ++ ys
    → accepts (run s xs) ≡ Some k
    → length xs ≤ length text
none-longer s text rest [] ys k halts e a = omega arith
none-longer s [] rest (x ∷ xs) ys k halts e a =
    let dead : state_after_byte s x ≡ Dead = halts x (xs ++ ys) e in
    let none : accepts (run (state_after_byte s x) xs) ≡ None = ap (λ (t : State). accepts (run t xs)) dead ∙ run-dead xs in
    cc
none-longer s (t ∷ text) rest (x ∷ xs) ys k halts e a =
    let same : x ≡ t = cc in
    let tail : text ++ rest ≡ xs ++ ys = cc in
    let there : accepts (run (state_after_byte s t) xs) ≡ Some k = subst (λ (v : ℕ). accepts (run (state_after_byte s v) xs) ≡ Some k) same a in
    let shorter = none-longer (state_after_byte s t) text rest xs ys k halts tail there in
    omega arith

-- ---- one token

-- a text that begins with neither a quote nor a parenthesis
abbrev pub begins_plain : List ℕ → Bool
begins_plain [] = false
begins_plain (b ∷ bs) = not (b == 34) && not (b == 40)

-- A token that ends where one of the bytes is that end tokens.
pub record Word (k : TokenKind) (text : List ℕ) : Type 0 where
  pub is : IsToken k text
  pub bytes : AreBytes text
  pub plain : begins_plain text ≡ true
  pub halts : Halts (run Start text)
  pub in_range : is_out_of_range k text ≡ false

not-first : (text rest : List ℕ) (b : ℕ) (bs : List ℕ) → begins_plain text ≡ true → not (b == 34) && not (b == 40) ≡ false → text ++ rest ≡ b ∷ bs → ⊥
not-first [] rest b bs plain wrong e = false≢true plain
not-first (t ∷ text) rest b bs plain wrong e =
    let same : t ≡ b = cc in
    let there = subst (λ (v : ℕ). (not (v == 34) && not (v == 40)) ≡ true) same plain in
    false≢true (sym wrong ∙ there)

pub no-quote : (text rest : List ℕ) → begins_plain text ≡ true → BeginsWith (text ++ rest) (34 ∷ []) → ⊥
no-quote text rest plain (bs, e) = not-first text rest 34 bs plain refl e

pub no-comment : (text rest : List ℕ) → begins_plain text ≡ true → BeginsWith (text ++ rest) (opening AComment) → ⊥
no-comment text rest plain (bs, e) = not-first text rest 40 (42 ∷ bs) plain refl e

-- the longest token, where the automaton halts after it
pub longest-there : (text rest : List ℕ)
    → AreBytes (text ++ rest)
    → (BeginsWith (text ++ rest) (34 ∷ []) → ⊥)
    → ((b : ℕ) (bs : List ℕ) → rest ≡ b ∷ bs → state_after_byte (run Start text) b ≡ Dead)
    → Longest (length text) (text ++ rest)
longest-there text rest are no_quote halts k xs ys is whole =
    elim (accepted-token k xs (AreBytes-front xs ys (subst AreBytes whole are)) is) [
      | inl s ↦ absurd (no_quote (string-quote (text ++ rest) xs ys s.1 whole))
      | inr a ↦ none-longer Start text rest xs ys a.shape halts whole a.accepted
    ]

end-first : (rest : List ℕ) (b : ℕ) (bs : List ℕ) → begins_end rest ≡ true → rest ≡ b ∷ bs → is_end b ≡ true
end-first rest b bs ends e = subst (λ (v : List ℕ). begins_end v ≡ true) e ends

pub splits-word : (at : ℕ) (k : TokenKind) (text rest : List ℕ) (tokens : List TokenTree) (fault : Option Fault)
    → Word k text
    → AreBytes rest
    → begins_end rest ≡ true
    → Splits (at + length text) rest tokens fault
    → Splits at (text ++ rest) (record { at = at; kind = k; text = text } ∷ tokens) fault
splits-word at k text rest tokens fault w are ends s =
    token at k text rest tokens fault w.is
    (longest-there text rest (bytes-append text rest w.bytes are) (no-quote text rest w.plain)
    (λ b bs e. halts-at (run Start text) b w.halts (end-first rest b bs ends e)))
    (no-comment text rest w.plain) s

-- ---- parts of a text

-- each token is in range
abbrev pub InRange : List TokenTree → Type 0
InRange [] = Unit {0}
InRange (t ∷ ts) = (is_out_of_range t.kind t.text ≡ false) × InRange ts

pub in-range-append : (xs ys : List TokenTree) → InRange xs → InRange ys → InRange (xs ++ ys)
in-range-append [] ys h g = g
in-range-append (x ∷ xs) ys h g = (h.0, in-range-append xs ys h.1 g)

pub none-out : (ts : List TokenTree) → InRange ts → first_range ts ≡ None
none-out [] h = refl
none-out (t ∷ ts) h = rw (h.0) (none-out ts h.1)

-- The tokens that a part of a text is cut into, whatever follows it that ends a token.
pub record Lexes (at : ℕ) (text : List ℕ) (tokens : List TokenTree) : Type 0 where
  pub bytes : AreBytes text
  pub in_range : InRange tokens
  pub before : (rest : List ℕ) (ts : List TokenTree) (fault : Option Fault)
      → AreBytes rest
      → begins_end rest ≡ true
      → Splits (at + length text) rest ts fault
      → Splits at (text ++ rest) (tokens ++ ts) fault

pub whole-text : (text : List ℕ) (tokens : List TokenTree) → Lexes 0 text tokens → Splits 0 text tokens None
whole-text text tokens h =
    subst (λ (v : List ℕ). Splits 0 v tokens None) (append-nil text)
    (subst (λ (v : List TokenTree). Splits 0 (text ++ []) v None) (append-nil tokens)
    (h.before [] [] None tt refl (ended _)))

-- no bytes
pub lexes-none : (at : ℕ) → Lexes at [] []
lexes-none at = record {
  bytes = tt;
  in_range = tt;
  before = λ rest ts fault are ends s. let same : at + 0 ≡ at = omega arith in subst (λ (p : ℕ). Splits p rest ts fault) same s;
}

ends-append : (more rest : List ℕ) → begins_end more ≡ true → begins_end rest ≡ true → begins_end (more ++ rest) ≡ true
ends-append [] rest h g = g
ends-append (b ∷ bs) rest h g = h

-- one part and another
pub lexes-then : (at : ℕ) (text more : List ℕ) (tokens others : List TokenTree)
    → Lexes at text tokens
    → begins_end more ≡ true
    → Lexes (at + length text) more others
    → Lexes at (text ++ more) (tokens ++ others)
lexes-then at text more tokens others h ends g = record {
  bytes = bytes-append text more h.bytes g.bytes;
  in_range = in-range-append tokens others h.in_range g.in_range;
  before = λ rest ts fault are end_there s. at_rest rest ts fault are end_there s;
}
  where
    at_rest : (rest : List ℕ) (ts : List TokenTree) (fault : Option Fault)
        → AreBytes rest
        → begins_end rest ≡ true
        → Splits (at + length (text ++ more)) rest ts fault
        → Splits at ((text ++ more) ++ rest) ((tokens ++ others) ++ ts) fault
    at_rest rest ts fault are end_there s =
        let place : at + length (text ++ more) ≡ at + length text + length more = omega (arith, length-append text more) in
        rw (append_assoc text more rest, append_assoc tokens others ts)
        (h.before (more ++ rest) (others ++ ts) fault (bytes-append more rest g.bytes are) (ends-append more rest ends end_there)
        (g.before rest ts fault are end_there (subst (λ (p : ℕ). Splits p rest ts fault) place s)))

-- one word
pub lexes-word : (at : ℕ) (k : TokenKind) (text : List ℕ) → Word k text → Lexes at text (record { at = at; kind = k; text = text } ∷ [])
lexes-word at k text w = record {
  bytes = w.bytes;
  in_range = (w.in_range, tt);
  before = λ rest ts fault are ends s. splits-word at k text rest ts fault w are ends s;
}

-- a word, and what follows it
pub word-then : (at : ℕ) (k : TokenKind) (text more : List ℕ) (others : List TokenTree)
    → Word k text
    → begins_end more ≡ true
    → Lexes (at + length text) more others
    → Lexes at (text ++ more) (record { at = at; kind = k; text = text } ∷ others)
word-then at k text more others w ends g =
    lexes-then at text more (record { at = at; kind = k; text = text } ∷ []) others (lexes-word at k text w) ends g

-- A token that ends by itself.
pub record Closed (k : TokenKind) (text : List ℕ) : Type 0 where
  pub is : IsToken k text
  pub bytes : AreBytes text
  pub longest : (rest : List ℕ) → AreBytes rest → Longest (length text) (text ++ rest)
  pub in_range : is_out_of_range k text ≡ false

splits-closed : (at : ℕ) (k : TokenKind) (text rest : List ℕ) (ts : List TokenTree) (fault : Option Fault)
    → Closed k text
    → AreBytes rest
    → (BeginsWith (text ++ rest) (opening AComment) → ⊥)
    → Splits (at + length text) rest ts fault
    → Splits at (text ++ rest) (record { at = at; kind = k; text = text } ∷ ts) fault
splits-closed at k text rest ts fault c are alone s = token at k text rest ts fault c.is (c.longest rest are) alone s

-- such a token, and what follows it
pub closed-then : (at : ℕ) (k : TokenKind) (text more : List ℕ) (others : List TokenTree)
    → Closed k text
    → ((rest : List ℕ) → begins_end rest ≡ true → BeginsWith (text ++ (more ++ rest)) (opening AComment) → ⊥)
    → Lexes (at + length text) more others
    → Lexes at (text ++ more) (record { at = at; kind = k; text = text } ∷ others)
closed-then at k text more others c alone g = record {
  bytes = bytes-append text more c.bytes g.bytes;
  in_range = (c.in_range, g.in_range);
  before = λ rest ts fault are ends s. at_rest rest ts fault are ends s;
}
  where
    at_rest : (rest : List ℕ) (ts : List TokenTree) (fault : Option Fault)
        → AreBytes rest
        → begins_end rest ≡ true
        → Splits (at + length (text ++ more)) rest ts fault
        → Splits at ((text ++ more) ++ rest) (record { at = at; kind = k; text = text } ∷ (others ++ ts)) fault
    at_rest rest ts fault are ends s =
        let place : at + length (text ++ more) ≡ at + length text + length more = omega (arith, length-append text more) in
        rw append_assoc
        (splits-closed at k text (more ++ rest) (others ++ ts) fault c (bytes-append more rest g.bytes are) (alone rest ends)
        (g.before rest ts fault are ends (subst (λ (p : ℕ). Splits p rest ts fault) place s)))

-- a space or a line feed, and what follows it
pub space-then : (at b : ℕ) (more : List ℕ) (others : List TokenTree)
    → b < 256
    → is_separator b ≡ true
    → Lexes (at + 1) more others
    → Lexes at (b ∷ more) others
space-then at b more others small is g = record {
  bytes = (small, g.bytes);
  in_range = g.in_range;
  before = λ rest ts fault are ends s.
      let place : at + length (b ∷ more) ≡ at + 1 + length more = omega arith in
      gap at (b ∷ []) (more ++ rest) (others ++ ts) fault (separator b (separator-from b is))
      (g.before rest ts fault are ends (subst (λ (p : ℕ). Splits p rest ts fault) place s));
}

-- ---- parentheses and colons

no-sign-quote : (b : ℕ) (rest bs : List ℕ) → (b == 34) ≡ false → b ∷ rest ≡ 34 ∷ bs → ⊥
no-sign-quote b rest bs other e =
    let same : b ≡ 34 = cc in
    false≢true (sym other ∙ ap (λ (v : ℕ). v == 34) same)

done-halts : (b : ℕ) (k : Shape) → state_after_byte Start b ≡ Done k → (c : ℕ) → state_after_byte (run Start (b ∷ [])) c ≡ Dead
unfolding state_after_byte
done-halts b k e c = ap (λ (s : State). state_after_byte s c) e

closed-sign : (k : TokenKind) (b : ℕ)
    → IsToken k (b ∷ [])
    → b < 256
    → (b == 34) ≡ false
    → state_after_byte Start b ≡ Done shape.Signs
    → is_out_of_range k (b ∷ []) ≡ false
    → Closed k (b ∷ [])
closed-sign k b is small no_quote done in_range = record {
  is = is;
  bytes = (small, tt);
  longest = λ rest are.
      longest-there (b ∷ []) rest (small, are) (λ q. no-sign-quote b rest q.0 no_quote q.1) (λ c bs e. done-halts b shape.Signs done c);
  in_range = in_range;
}

pub open-closed : Closed (kind.Sign sign.Open) (40 ∷ [])
unfolding state_after_byte after_start
open-closed = closed-sign (kind.Sign sign.Open) 40 (is_sign sign.Open _ refl) (lit< tt) refl refl refl

pub close-closed : Closed (kind.Sign sign.Close) (41 ∷ [])
unfolding state_after_byte after_start
close-closed = closed-sign (kind.Sign sign.Close) 41 (is_sign sign.Close _ refl) (lit< tt) refl refl refl

pub colon-closed : Closed (kind.Sign sign.Colon) (58 ∷ [])
unfolding state_after_byte after_start
colon-closed = closed-sign (kind.Sign sign.Colon) 58 (is_sign sign.Colon _ refl) (lit< tt) refl refl refl

no-star-there : (more rest bs : List ℕ) → is_star_first more ≡ false → begins_end rest ≡ true → more ++ rest ≡ 42 ∷ bs → ⊥
no-star-there [] rest bs star ends e = let there = ap begins_end e in false≢true (sym there ∙ ends)
no-star-there (b ∷ more) rest bs star ends e =
    let same : b ≡ 42 = cc in
    false≢true (sym star ∙ ap (λ (v : ℕ). v == 42) same)

-- an opening parenthesis, and what follows it
pub open-then : (at : ℕ) (more : List ℕ) (others : List TokenTree)
    → is_star_first more ≡ false
    → Lexes (at + 1) more others
    → Lexes at (40 ∷ more) (record { at = at; kind = kind.Sign sign.Open; text = 40 ∷ [] } ∷ others)
open-then at more others star g =
    closed-then at (kind.Sign sign.Open) (40 ∷ []) more others open-closed
    (λ rest ends q. no-star-there more rest q.0 star ends (tail-of _ _ q.1)) g
  where
    tail-of : (xs ys : List ℕ) → 40 ∷ xs ≡ 40 ∷ ys → xs ≡ ys
    tail-of xs ys e = cc

pub no-first : (b c : ℕ) (xs ys : List ℕ) → (b == c) ≡ false → b ∷ xs ≡ c ∷ ys → ⊥
no-first b c xs ys other e =
    let same : b ≡ c = cc in
    eqb-false b c other same

-- a closing one
pub close-then : (at : ℕ) (more : List ℕ) (others : List TokenTree)
    → Lexes (at + 1) more others
    → Lexes at (41 ∷ more) (record { at = at; kind = kind.Sign sign.Close; text = 41 ∷ [] } ∷ others)
close-then at more others g =
    closed-then at (kind.Sign sign.Close) (41 ∷ []) more others close-closed
    (λ rest ends q. no-first 41 40 _ _ refl q.1) g

-- a colon
pub colon-then : (at : ℕ) (more : List ℕ) (others : List TokenTree)
    → Lexes (at + 1) more others
    → Lexes at (58 ∷ more) (record { at = at; kind = kind.Sign sign.Colon; text = 58 ∷ [] } ∷ others)
colon-then at more others g =
    closed-then at (kind.Sign sign.Colon) (58 ∷ []) more others colon-closed
    (λ rest ends q. no-first 58 40 _ _ refl q.1) g

-- ---- strings

-- a string whose bytes end at its closing quote
pub closed-string : (inside : List ℕ) → AreBytes inside → IsInside inside → Closed kind.String (34 ∷ inside)
closed-string inside are is = record {
  is = is_string (34 ∷ inside) (inside, refl, is);
  bytes = (lit< tt, are);
  longest = λ rest more. at_rest rest more;
  in_range = refl;
}
  where
    fine : IsFine inside
    fine tail e =
        let closed : behind_string inside ≡ Some [] = ap behind_string (sym (append-nil inside)) ∙ string-to inside [] (inside-ends inside is) in
        let none : tail ≡ [] = cc in
        record { inside = inside; whole = sym (append-nil inside) ∙ ap (λ (v : List ℕ). inside ++ v) (sym none); good = is }

    at_rest : (rest : List ℕ) → AreBytes rest → Longest (length (34 ∷ inside)) (34 ∷ (inside ++ rest))
    at_rest rest more =
        let h = string-token (inside ++ rest) inside rest (lit< tt, bytes-append inside rest are more) refl (inside-ends inside is) fine in
        let size : length (34 ∷ (inside ++ rest)) ≡ length (h.text ++ rest) = ap length h.whole in
        let same : length h.text ≡ length (34 ∷ inside) = omega (arith, size, length-append h.text rest, length-append inside rest) in
        subst (λ (n : ℕ). Longest n (34 ∷ (inside ++ rest))) same h.longest
