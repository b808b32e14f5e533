-- A text is cut in one way.
use Rattle.std.proofs.Common.{◌≡◌, ℕ, ◌+◌, ◌-◌, ◌≤◌, suc, zero, false, cond, ◌==◌, List, [], ◌∷◌, ◌++◌, length, take, drop, Option, Some, None, Contains, inl, inr, refl, sym, ap, subst, ◌∙◌, arith, length-append}
use Rattle.std.proofs.Math.Seq.{take-append_seam}
use Rattle.std.proofs.lemmas.Bool.{ne_eqb, cases_Bool}
use Rattle.bs_fault.specs.declared.fault.Fault.{Fault}
use Rattle.bs_fault.specs.declared.fault.Fault.TheVariants.{BadToken, Unclosed}
use Rattle.cmm_lex.specs.declared.front.Opening.{Opening}
use Rattle.cmm_lex.specs.declared.front.Opening.TheVariants.{Separator, Quote, Brace, Comment, Other}
use Rattle.cmm_lex.specs.declared.state.Shape.{Shape}
use Rattle.cmm_lex.specs.declared.state.State.{State}
use Rattle.cmm_lex.specs.declared.state.State.TheVariants.{Start, Dead}
use Rattle.cmm_lex.specs.declared.token.TokenKind.{TokenKind}
use Rattle.cmm_lex.specs.declared.token.TokenKind.TheVariants as kind
use Rattle.cmm_lex.specs.Automaton.{run, state_after_byte, after_start, accepts, scan}
use Rattle.cmm_lex.specs.Enclosed.{BeginsWith, Enclosed, AString, AComment, Braces, opening, Ends, EndsString, EndsComments, EndsBraces}
use Rattle.cmm_lex.specs.Lexing.{separators, IsGap, separator, comment, in_braces, IsFault, no_token, bad_escape, unclosed, Splits, ended, gap, token, stopped}
use Rattle.cmm_lex.specs.Scanning.{behind_string, behind_comments, behind_braces, kind_of, opening_of, is_letter_escape}
use Rattle.cmm_lex.specs.Strings.{letters, is_code, IsEscape, letter, code, IsString, IsInside, closing, plain, escape, BadEscape, here, past_plain, past_escape}
use Rattle.cmm_lex.specs.Token.{TokenTree}
use Rattle.cmm_lex.specs.Tokens.{IsToken, Longest}
use Rattle.cmm_lex.proofs.Closings.{string-from, string-to, inside-ends, braces-from, braces-to, comments-from, comments-to}
use Rattle.cmm_lex.proofs.Escapes.{letter-from, letter-to}
use Rattle.cmm_lex.proofs.Fronts.{separator-to, Opens, opens-is}
use Rattle.cmm_lex.proofs.Languages.{AreBytes}
use Rattle.cmm_lex.proofs.Places.{gap-some, token-some}
use Rattle.cmm_lex.proofs.Scans as scans
use Rattle.cmm_lex.proofs.Scans.{AreBytes-front, AreBytes-back, scan-token, scan-none, same_parts, run-dead}
use Rattle.cmm_lex.proofs.Spelled.{Accepted, accepted-token, token-found, kind-some}

-- ---- the first bad escape

abbrev mutual
  -- how many bytes are before it, so many having been read
  first_bad : ℕ → List ℕ → Option ℕ
  first_bad n [] = None
  first_bad n (b ∷ bs) = cond (b == 34) None (cond (b == 92) (bad_behind n bs) (first_bad (n + 1) bs))

  bad_behind : ℕ → List ℕ → Option ℕ
  bad_behind n [] = Some n
  bad_behind n (a ∷ []) = cond (is_letter_escape a) (first_bad (n + 2) []) (Some n)
  bad_behind n (a ∷ b ∷ []) = cond (is_letter_escape a) (first_bad (n + 2) (b ∷ [])) (Some n)
  bad_behind n (a ∷ b ∷ c ∷ bs) =
      cond (is_code a b c) (first_bad (n + 4) bs) (cond (is_letter_escape a) (first_bad (n + 2) (b ∷ c ∷ bs)) (Some n))

-- a letter is no digit
letter-no_code : (a b c : ℕ) → Contains letters a → is_code a b c ≡ false
letter-no_code a b c (zero, h, e) = subst (λ (v : ℕ). is_code v b c ≡ false) e refl
letter-no_code a b c (suc zero, h, e) = subst (λ (v : ℕ). is_code v b c ≡ false) e refl
letter-no_code a b c (suc (suc zero), h, e) = subst (λ (v : ℕ). is_code v b c ≡ false) e refl
letter-no_code a b c (suc (suc (suc zero)), h, e) = subst (λ (v : ℕ). is_code v b c ≡ false) e refl
letter-no_code a b c (suc (suc (suc (suc zero))), h, e) = subst (λ (v : ℕ). is_code v b c ≡ false) e refl
letter-no_code a b c (suc (suc (suc (suc (suc zero)))), h, e) = subst (λ (v : ℕ). is_code v b c ≡ false) e refl
letter-no_code a b c (suc (suc (suc (suc (suc (suc n))))), h, e) = absurd (omega arith)

past_letter : (n a : ℕ) (bs : List ℕ) → Contains letters a → bad_behind n (a ∷ bs) ≡ first_bad (n + 2) bs
past_letter n a [] is = let t = letter-to a is in rw t refl
past_letter n a (b ∷ []) is = let t = letter-to a is in rw t refl
past_letter n a (b ∷ c ∷ bs) is = let t = letter-to a is in let u = letter-no_code a b c is in rw (u, t) refl

past_an_escape : (n : ℕ) (e bs : List ℕ) → IsEscape e → first_bad n (e ++ bs) ≡ first_bad (n + length e) bs
past_an_escape n e bs (letter b is) = past_letter n b bs is
past_an_escape n e bs (code a b c is) = rw is refl

past_a_plain : (n b : ℕ) (bs : List ℕ) → (b ≡ 34 → ⊥) → (b ≡ 92 → ⊥) → first_bad n (b ∷ bs) ≡ first_bad (n + 1) bs
past_a_plain n b bs x y = let t = ne_eqb b 34 x in let u = ne_eqb b 92 y in rw (t, u) refl

inside-no_bad : (n : ℕ) (inside : List ℕ) → IsInside inside → first_bad n inside ≡ None
inside-no_bad n inside closing = refl
inside-no_bad n inside (plain b bytes x y h) = past_a_plain n b bytes x y ∙ inside-no_bad (n + 1) bytes h
inside-no_bad n inside (escape e bytes is h) = past_an_escape n e bytes is ∙ inside-no_bad (n + length e) bytes h

no_escape-bad : (n : ℕ) (bs : List ℕ) → ((e : List ℕ) → IsEscape e → BeginsWith (92 ∷ bs) e → ⊥) → bad_behind n bs ≡ Some n
no_escape-bad n [] none = refl
no_escape-bad n (a ∷ []) none =
    elim (cases_Bool (is_letter_escape a)) [
      | inl t ↦ absurd (none (92 ∷ a ∷ []) (letter a (letter-from a t)) ([], refl))
      | inr t ↦ rw t refl
    ]
no_escape-bad n (a ∷ b ∷ []) none =
    elim (cases_Bool (is_letter_escape a)) [
      | inl t ↦ absurd (none (92 ∷ a ∷ []) (letter a (letter-from a t)) (b ∷ [], refl))
      | inr t ↦ rw t refl
    ]
no_escape-bad n (a ∷ b ∷ c ∷ bs) none =
    elim (cases_Bool (is_code a b c)) [
      | inl u ↦ absurd (none (92 ∷ a ∷ b ∷ c ∷ []) (code a b c u) (bs, refl))
      | inr u ↦ elim (cases_Bool (is_letter_escape a)) [
        | inl t ↦ absurd (none (92 ∷ a ∷ []) (letter a (letter-from a t)) (b ∷ c ∷ bs, refl))
        | inr t ↦ rw (u, t) refl
      ]
    ]

bad-first : (n m : ℕ) (bs : List ℕ) → BadEscape m bs → first_bad n bs ≡ Some (n + m)
bad-first n m bs (here bytes none) =
    let same : n ≡ n + 0 = omega arith in
    no_escape-bad n bytes none ∙ ap Some same
bad-first n m bs (past_plain k b bytes x y h) =
    let same : n + 1 + k ≡ n + (k + 1) = omega arith in
    past_a_plain n b bytes x y ∙ bad-first (n + 1) k bytes h ∙ ap Some same
bad-first n m bs (past_escape k e bytes is h) =
    let same : n + length e + k ≡ n + (k + length e) = omega arith in
    past_an_escape n e bytes is ∙ bad-first (n + length e) k bytes h ∙ ap Some same

-- ---- what a text does first

data Move : Type 0 where
  End : Move
  Skip : (len : ℕ) → Move
  Take : (k : TokenKind) (len : ℕ) → Move
  Stop : (fault : Fault) → Move

abbrev gap_move : ℕ → List ℕ → Option (List ℕ) → Move
gap_move at bytes None = Stop (Unclosed at)
gap_move at bytes (Some tail) = Skip (length bytes - length tail)

abbrev bad_move : ℕ → ℕ → Option ℕ → Move
bad_move at len None = Take kind.String len
bad_move at len (Some n) = Stop (BadToken (at + 1 + n))

abbrev string_move : ℕ → List ℕ → Option (List ℕ) → Move
string_move at bytes None = Stop (Unclosed at)
string_move at bytes (Some tail) = bad_move at (length bytes - length tail) (first_bad 0 (take (length bytes - 1 - length tail) (drop 1 bytes)))

abbrev kind_move : ℕ → ℕ → Option TokenKind → Move
kind_move at n None = Stop (BadToken at)
kind_move at n (Some k) = Take k n

abbrev scan_move : ℕ → List ℕ → Option (Shape × ℕ) → Move
scan_move at bytes None = Stop (BadToken at)
scan_move at bytes (Some found) = kind_move at found.1 (kind_of found.0 (take found.1 bytes))

abbrev other_move : ℕ → List ℕ → Move
other_move at [] = End
other_move at (b ∷ bs) = scan_move at (b ∷ bs) (scan Start 0 None (b ∷ bs))

abbrev opening_move : ℕ → List ℕ → Opening → Move
opening_move at bytes Separator = Skip 1
opening_move at bytes Quote = string_move at bytes (behind_string (drop 1 bytes))
opening_move at bytes Comment = gap_move at bytes (behind_comments 1 (drop 2 bytes))
opening_move at bytes Brace = gap_move at bytes (behind_braces (drop 1 bytes))
opening_move at bytes Other = other_move at bytes

abbrev move : ℕ → List ℕ → Move
move at bytes = opening_move at bytes (opening_of bytes)

move-as : (at : ℕ) (bytes : List ℕ) (o : Opening) → opening_of bytes ≡ o → move at bytes ≡ opening_move at bytes o
move-as at bytes o e = ap (opening_move at bytes) e

-- ---- gaps

gap-move : (at : ℕ) (text rest : List ℕ) → IsGap text → move at (text ++ rest) ≡ Skip (length text)
gap-move at text rest (separator b is) =
    let t = separator-to b is in
    move-as at (b ∷ rest) Separator (rw t refl)
gap-move at text rest (comment inside ends) =
    let size : length (40 ∷ 42 ∷ (inside ++ rest)) - length rest ≡ length (40 ∷ 42 ∷ inside) = omega (arith, length-append inside rest) in
    ap (gap_move at (40 ∷ 42 ∷ (inside ++ rest))) (comments-to 1 inside rest ends) ∙ ap Skip size
gap-move at text rest (in_braces inside ends) =
    let size : length (123 ∷ (inside ++ rest)) - length rest ≡ length (123 ∷ inside) = omega (arith, length-append inside rest) in
    ap (gap_move at (123 ∷ (inside ++ rest))) (braces-to inside rest ends) ∙ ap Skip size

-- ---- strings

string-move : (at : ℕ) (inside rest : List ℕ) → EndsString inside
    → move at (34 ∷ (inside ++ rest)) ≡ bad_move at (length (34 ∷ inside)) (first_bad 0 inside)
string-move at inside rest ends =
    let bytes = 34 ∷ (inside ++ rest) in
    let size : length bytes - length rest ≡ length (34 ∷ inside) = omega (arith, length-append inside rest) in
    let inner : length bytes - 1 - length rest ≡ length inside = omega (arith, length-append inside rest) in
    ap (string_move at bytes) (string-to inside rest ends)
    ∙ ap (λ (n : ℕ). bad_move at n (first_bad 0 (take (length bytes - 1 - length rest) (inside ++ rest)))) size
    ∙ ap (λ (n : ℕ). bad_move at (length (34 ∷ inside)) (first_bad 0 (take n (inside ++ rest)))) inner
    ∙ ap (λ (v : List ℕ). bad_move at (length (34 ∷ inside)) (first_bad 0 v)) (take-append_seam inside rest)

-- ---- other tokens

-- a text that begins with a byte of this kind begins with no other token
dead-first : (b : ℕ) (bs text rest : List ℕ) (s : Shape)
    → state_after_byte Start b ≡ Dead
    → b ∷ bs ≡ text ++ rest
    → accepts (run Start text) ≡ Some s
    → ⊥
unfolding accepts
dead-first b bs [] rest s dead whole accepted = cc
dead-first b bs (c ∷ cs) rest s dead whole accepted =
    let first : c ≡ b = cc in
    let at_b : state_after_byte Start c ≡ Dead = ap (state_after_byte Start) first ∙ dead in
    let none : accepts (run (state_after_byte Start c) cs) ≡ None = ap (λ (t : State). accepts (run t cs)) at_b ∙ run-dead cs in
    cc

separator-dead : (b : ℕ) → Contains separators b → state_after_byte Start b ≡ Dead
unfolding state_after_byte after_start
separator-dead b (zero, h, e) = subst (λ (v : ℕ). state_after_byte Start v ≡ Dead) e refl
separator-dead b (suc zero, h, e) = subst (λ (v : ℕ). state_after_byte Start v ≡ Dead) e refl
separator-dead b (suc (suc zero), h, e) = subst (λ (v : ℕ). state_after_byte Start v ≡ Dead) e refl
separator-dead b (suc (suc (suc zero)), h, e) = subst (λ (v : ℕ). state_after_byte Start v ≡ Dead) e refl
separator-dead b (suc (suc (suc (suc zero))), h, e) = subst (λ (v : ℕ). state_after_byte Start v ≡ Dead) e refl
separator-dead b (suc (suc (suc (suc (suc n)))), h, e) = absurd (omega arith)

quote-dead : state_after_byte Start 34 ≡ Dead
unfolding state_after_byte after_start
quote-dead = refl

brace-dead : state_after_byte Start 123 ≡ Dead
unfolding state_after_byte after_start
brace-dead = refl

-- nothing else opens where a token is that is no string
token-other : (bytes text rest : List ℕ) (s : Shape)
    → bytes ≡ text ++ rest
    → accepts (run Start text) ≡ Some s
    → (BeginsWith bytes (40 ∷ 42 ∷ []) → ⊥)
    → opening_of bytes ≡ Other
token-other bytes text rest s whole accepted no_comment = at_opening (opening_of bytes) refl (opens-is bytes)
  where
    at_opening : (o : Opening) → opening_of bytes ≡ o → Opens (opening_of bytes) bytes → o ≡ Other
    at_opening Other e h = refl
    at_opening Separator e h =
        let g = subst (λ (o : Opening). Opens o bytes) e h in
        absurd (dead-first g.0 g.1 text rest s (separator-dead g.0 g.3) (sym g.2 ∙ whole) accepted)
    at_opening Quote e h =
        let g = subst (λ (o : Opening). Opens o bytes) e h in
        absurd (dead-first 34 g.0 text rest s quote-dead (sym g.1 ∙ whole) accepted)
    at_opening Brace e h =
        let g = subst (λ (o : Opening). Opens o bytes) e h in
        absurd (dead-first 123 g.0 text rest s brace-dead (sym g.1 ∙ whole) accepted)
    at_opening Comment e h =
        let g = subst (λ (o : Opening). Opens o bytes) e h in
        absurd (no_comment (g.0, g.1))

-- what the scan finds is a token
found-token : (bytes : List ℕ) (s : Shape) (n : ℕ) → AreBytes bytes → (h : scans.Longest bytes s n)
    → (k : TokenKind) × IsToken k h.text
found-token bytes s n are h = of_kind (kind_of s h.text) refl
  where
    of_kind : (o : Option TokenKind) → kind_of s h.text ≡ o → (k : TokenKind) × IsToken k h.text
    of_kind None e = absurd (kind-some s h.text (AreBytes-front h.text h.rest (subst AreBytes h.whole are)) h.accepted e)
    of_kind (Some k) e = (k, token-found s h.text k (AreBytes-front h.text h.rest (subst AreBytes h.whole are)) h.accepted e)

one-shape : (o : Option Shape) (s t : Shape) → o ≡ Some s → o ≡ Some t → s ≡ t
one-shape o s t a b = cc

-- the scan finds the longest token
token-scanned : (k : TokenKind) (text rest : List ℕ)
    → AreBytes (text ++ rest)
    → Longest (length text) (text ++ rest)
    → (a : Accepted k text)
    → (r : Option (Shape × ℕ))
    → scan Start 0 None (text ++ rest) ≡ r
    → r ≡ Some (a.shape, length text)
token-scanned k text rest are longest a None e = absurd (scan-none (text ++ rest) e text rest a.shape refl a.accepted)
token-scanned k text rest are longest a (Some found) e =
    let h = scan-token (text ++ rest) found.0 found.1 e in
    let t = found-token (text ++ rest) found.0 found.1 are h in
    let len = h.len in
    let up = h.none_longer text rest a.shape refl a.accepted in
    let down = longest t.0 h.text h.rest t.1 h.whole in
    let size : length text ≡ found.1 = omega arith in
    let same = same_parts h.text h.rest text rest (sym h.whole) (h.len ∙ sym size) in
    let shape : found.0 ≡ a.shape =
    one-shape _ found.0 a.shape (subst (λ (v : List ℕ). accepts (run Start v) ≡ Some found.0) same.0 h.accepted) a.accepted
    in
    ap (λ (t : Shape). Some (t, found.1)) shape ∙ ap (λ (m : ℕ). Some (a.shape, m)) (sym size)

other_move-some : (at : ℕ) (bytes : List ℕ) → 1 ≤ length bytes → other_move at bytes ≡ scan_move at bytes (scan Start 0 None bytes)
other_move-some at [] some = absurd (omega arith)
other_move-some at (b ∷ bs) some = refl

token-move : (at : ℕ) (k : TokenKind) (text rest : List ℕ)
    → AreBytes (text ++ rest)
    → IsToken k text
    → Longest (length text) (text ++ rest)
    → (BeginsWith (text ++ rest) (40 ∷ 42 ∷ []) → ⊥)
    → Accepted k text
    → move at (text ++ rest) ≡ Take k (length text)
token-move at k text rest are is longest no_comment a =
    let some = token-some k text is in
    let long : 1 ≤ length (text ++ rest) = omega (arith, length-append text rest) in
    move-as at (text ++ rest) Other (token-other (text ++ rest) text rest a.shape refl a.accepted no_comment)
    ∙ other_move-some at (text ++ rest) long
    ∙ ap (scan_move at (text ++ rest)) (token-scanned k text rest are longest a (scan Start 0 None (text ++ rest)) refl)
    ∙ ap (λ (v : List ℕ). kind_move at (length text) (kind_of a.shape v)) (take-append_seam text rest)
    ∙ ap (kind_move at (length text)) a.found

all-tokens-move : (at : ℕ) (k : TokenKind) (text rest : List ℕ)
    → AreBytes (text ++ rest)
    → IsToken k text
    → Longest (length text) (text ++ rest)
    → (BeginsWith (text ++ rest) (40 ∷ 42 ∷ []) → ⊥)
    → move at (text ++ rest) ≡ Take k (length text)
all-tokens-move at k text rest are is longest no_comment =
    elim (accepted-token k text (AreBytes-front text rest are) is) [
      | inl s ↦ string-token-move at k text rest s.0 s.1
      | inr a ↦ token-move at k text rest are is longest no_comment a
    ]
  where
    string-token-move : (at : ℕ) (k : TokenKind) (text rest : List ℕ) → k ≡ kind.String → IsString text → move at (text ++ rest) ≡ Take k (length text)
    string-token-move at k text rest is_kind (inside, e, h) =
        subst (λ (v : List ℕ). move at (v ++ rest) ≡ Take k (length v)) (sym e)
        (string-move at inside rest (inside-ends inside h)
        ∙ ap (bad_move at (length (34 ∷ inside))) (inside-no_bad 0 inside h)
        ∙ ap (λ (j : TokenKind). Take j (length (34 ∷ inside))) (sym is_kind))

-- ---- faults

none-other : (b : ℕ) (bs : List ℕ)
    → (Contains separators b → ⊥)
    → ((e : Enclosed) → BeginsWith (b ∷ bs) (opening e) → ⊥)
    → opening_of (b ∷ bs) ≡ Other
none-other b bs no_sep no_open = at_opening (opening_of (b ∷ bs)) refl (opens-is (b ∷ bs))
  where
    at_opening : (o : Opening) → opening_of (b ∷ bs) ≡ o → Opens (opening_of (b ∷ bs)) (b ∷ bs) → o ≡ Other
    at_opening Other e h = refl
    at_opening Separator e h =
        let g = subst (λ (o : Opening). Opens o (b ∷ bs)) e h in
        let whole = g.2 in
        let same : g.0 ≡ b = cc in
        absurd (no_sep (subst (Contains separators) same g.3))
    at_opening Quote e h =
        let g = subst (λ (o : Opening). Opens o (b ∷ bs)) e h in
        absurd (no_open AString (g.0, g.1))
    at_opening Brace e h =
        let g = subst (λ (o : Opening). Opens o (b ∷ bs)) e h in
        absurd (no_open Braces (g.0, g.1))
    at_opening Comment e h =
        let g = subst (λ (o : Opening). Opens o (b ∷ bs)) e h in
        absurd (no_open AComment (g.0, g.1))

none-scanned : (at : ℕ) (bytes : List ℕ) (r : Option (Shape × ℕ))
    → AreBytes bytes
    → ((k : TokenKind) (text : List ℕ) → IsToken k text → BeginsWith bytes text → ⊥)
    → scan Start 0 None bytes ≡ r
    → scan_move at bytes r ≡ Stop (BadToken at)
none-scanned at bytes None are none e = refl
none-scanned at bytes (Some found) are none e =
    let h = scan-token bytes found.0 found.1 e in
    let t = found-token bytes found.0 found.1 are h in
    absurd (none t.0 h.text t.1 (h.rest, h.whole))

no_string : (at : ℕ) (bytes : List ℕ) (r : Option (List ℕ))
    → behind_string bytes ≡ r
    → ((inside : List ℕ) → EndsString inside → BeginsWith bytes inside → ⊥)
    → string_move at (34 ∷ bytes) r ≡ Stop (Unclosed at)
no_string at bytes None e none = refl
no_string at bytes (Some tail) e none =
    let h = string-from bytes tail e in
    absurd (none h.inside h.ends (tail, h.whole))

no_comment_end : (at : ℕ) (bytes all : List ℕ) (r : Option (List ℕ))
    → behind_comments 1 bytes ≡ r
    → ((inside : List ℕ) → EndsComments 1 inside → BeginsWith bytes inside → ⊥)
    → gap_move at all r ≡ Stop (Unclosed at)
no_comment_end at bytes all None e none = refl
no_comment_end at bytes all (Some tail) e none =
    let h = comments-from 1 bytes tail e in
    absurd (none h.inside h.ends (tail, h.whole))

no_brace_end : (at : ℕ) (bytes all : List ℕ) (r : Option (List ℕ))
    → behind_braces bytes ≡ r
    → ((inside : List ℕ) → EndsBraces inside → BeginsWith bytes inside → ⊥)
    → gap_move at all r ≡ Stop (Unclosed at)
no_brace_end at bytes all None e none = refl
no_brace_end at bytes all (Some tail) e none =
    let h = braces-from bytes tail e in
    absurd (none h.inside h.ends (tail, h.whole))

unclosed-move : (at : ℕ) (e : Enclosed) (bytes : List ℕ)
    → ((inside : List ℕ) → Ends e inside → BeginsWith bytes inside → ⊥)
    → move at (opening e ++ bytes) ≡ Stop (Unclosed at)
unclosed-move at AString bytes none = no_string at bytes (behind_string bytes) refl none
unclosed-move at AComment bytes none = no_comment_end at bytes (40 ∷ 42 ∷ bytes) (behind_comments 1 bytes) refl none
unclosed-move at Braces bytes none = no_brace_end at bytes (123 ∷ bytes) (behind_braces bytes) refl none

fault-move : (at : ℕ) (bytes : List ℕ) (f : Fault) → AreBytes bytes → IsFault at bytes f → move at bytes ≡ Stop f
fault-move at bytes f are (no_token _ b bs no_sep no_open none) =
    move-as at (b ∷ bs) Other (none-other b bs no_sep no_open)
    ∙ none-scanned at (b ∷ bs) (scan Start 0 None (b ∷ bs)) are none refl
fault-move at bytes f are (bad_escape _ n inside rest ends bad) =
    let same : at + 1 + (0 + n) ≡ at + 1 + n = omega arith in
    string-move at inside rest ends
    ∙ ap (bad_move at (length (34 ∷ inside))) (bad-first 0 n inside bad)
    ∙ ap (λ (p : ℕ). Stop (BadToken p)) same
fault-move at bytes f are (unclosed _ e bs none) = unclosed-move at e bs none

-- ---- one split

-- the first step of a split
data Step (at : ℕ) : List ℕ → List TokenTree → Option Fault → Type 0 where
  at_end : Step at [] [] None
  at_gap : (text rest : List ℕ) (ts : List TokenTree) (f : Option Fault)
      → Splits (at + length text) rest ts f
      → move at (text ++ rest) ≡ Skip (length text)
      → Step at (text ++ rest) ts f
  at_token : (k : TokenKind) (text rest : List ℕ) (ts : List TokenTree) (f : Option Fault)
      → Splits (at + length text) rest ts f
      → move at (text ++ rest) ≡ Take k (length text)
      → Step at (text ++ rest) (record { at = at; kind = k; text = text } ∷ ts) f
  at_fault : (bytes : List ℕ) (f : Fault) → move at bytes ≡ Stop f → Step at bytes [] (Some f)

step-of : (at : ℕ) (bytes : List ℕ) (ts : List TokenTree) (f : Option Fault) → AreBytes bytes → Splits at bytes ts f → Step at bytes ts f
step-of at bytes ts f are (ended _) = at_end
step-of at bytes ts f are (gap _ text rest tokens g is s) = at_gap text rest tokens g s (gap-move at text rest is)
step-of at bytes ts f are (token _ k text rest tokens g is longest alone s) =
    at_token k text rest tokens g s (all-tokens-move at k text rest are is longest alone)
step-of at bytes ts f are (stopped _ bs fault is) = at_fault bs fault (fault-move at bs fault are is)

skip-len : (m n : ℕ) → Skip m ≡ Skip n → m ≡ n
skip-len m n e = cc

take-same : (j k : TokenKind) (m n : ℕ) → Take j m ≡ Take k n → (j ≡ k) × (m ≡ n)
take-same j k m n e = (cc, cc)

stop-same : (f g : Fault) → Stop f ≡ Stop g → f ≡ g
stop-same f g e = cc

-- what one split says of another
abbrev Same : List TokenTree → Option Fault → List TokenTree → Option Fault → Type 0
Same ts f us g = (ts ≡ us) × (f ≡ g)

-- after a gap
gap-same : (at : ℕ) (bytes text rest : List ℕ) (ts us : List TokenTree) (f g : Option Fault)
    → bytes ≡ text ++ rest
    → move at (text ++ rest) ≡ Skip (length text)
    → ((vs : List TokenTree) (h : Option Fault) → Splits (at + length text) rest vs h → Same ts f vs h)
    → Step at bytes us g
    → 1 ≤ length text
    → Same ts f us g
gap-same at bytes text rest ts us f g cut is later at_end some =
    let size : length {A = ℕ} [] ≡ length (text ++ rest) = ap length cut in
    absurd (omega (arith, size, length-append text rest))
gap-same at bytes text rest ts us f g cut is later (at_gap text' rest' vs h s is') some =
    let moves : Skip (length text) ≡ Skip (length text') = sym is ∙ ap (move at) (sym cut) ∙ is' in
    let size = skip-len (length text) (length text') moves in
    let same = same_parts text rest text' rest' (sym cut) size in
    later vs h (subst (λ (v : List ℕ). Splits (at + length text) v vs h) (sym same.1) (subst (λ (n : ℕ). Splits (at + n) rest' vs h) (sym size) s))
gap-same at bytes text rest ts us f g cut is later (at_token k text' rest' vs h s is') some =
    let moves : Skip (length text) ≡ Take k (length text') = sym is ∙ ap (move at) (sym cut) ∙ is' in
    absurd (cc)
gap-same at bytes text rest ts us f g cut is later (at_fault _ fault is') some =
    let moves : Skip (length text) ≡ Stop fault = sym is ∙ ap (move at) (sym cut) ∙ is' in
    absurd (cc)

token-cons : (at : ℕ) (k j : TokenKind) (text text' : List ℕ) (ts us : List TokenTree)
    → k ≡ j
    → text ≡ text'
    → ts ≡ us
    → ◌≡◌ {A = List TokenTree} (record { at = at; kind = k; text = text } ∷ ts) (record { at = at; kind = j; text = text' } ∷ us)
token-cons at k j text text' ts us kinds texts tails =
    subst (λ (v : TokenKind). ◌≡◌ {A = List TokenTree} (record { at = at; kind = k; text = text } ∷ ts) (record { at = at; kind = v; text = text' } ∷ us)) kinds
    (subst (λ (v : List ℕ). ◌≡◌ {A = List TokenTree} (record { at = at; kind = k; text = text } ∷ ts) (record { at = at; kind = k; text = v } ∷ us)) texts
    (ap (λ (v : List TokenTree). record { at = at; kind = k; text = text } ∷ v) tails))

-- after a token
token-same : (at : ℕ) (k : TokenKind) (bytes text rest : List ℕ) (ts us : List TokenTree) (f g : Option Fault)
    → bytes ≡ text ++ rest
    → move at (text ++ rest) ≡ Take k (length text)
    → ((vs : List TokenTree) (h : Option Fault) → Splits (at + length text) rest vs h → Same ts f vs h)
    → Step at bytes us g
    → 1 ≤ length text
    → Same (record { at = at; kind = k; text = text } ∷ ts) f us g
token-same at k bytes text rest ts us f g cut is later at_end some =
    let size : length {A = ℕ} [] ≡ length (text ++ rest) = ap length cut in
    absurd (omega (arith, size, length-append text rest))
token-same at k bytes text rest ts us f g cut is later (at_gap text' rest' vs h s is') some =
    let moves : Take k (length text) ≡ Skip (length text') = sym is ∙ ap (move at) (sym cut) ∙ is' in
    absurd (cc)
token-same at k bytes text rest ts us f g cut is later (at_token j text' rest' vs h s is') some =
    let moves : Take k (length text) ≡ Take j (length text') = sym is ∙ ap (move at) (sym cut) ∙ is' in
    let p = take-same k j (length text) (length text') moves in
    let kinds = p.0 in
    let same = same_parts text rest text' rest' (sym cut) p.1 in
    let texts = same.0 in
    let r = later vs h (subst (λ (v : List ℕ). Splits (at + length text) v vs h) (sym same.1) (subst (λ (n : ℕ). Splits (at + n) rest' vs h) (sym p.1) s)) in
    let tails = r.0 in
    (token-cons at k j text text' ts vs kinds texts tails, r.1)
token-same at k bytes text rest ts us f g cut is later (at_fault _ fault is') some =
    let moves : Take k (length text) ≡ Stop fault = sym is ∙ ap (move at) (sym cut) ∙ is' in
    absurd (cc)

-- at a fault
fault-same : (at : ℕ) (bytes bs : List ℕ) (fault : Fault) (us : List TokenTree) (g : Option Fault)
    → bytes ≡ bs
    → move at bs ≡ Stop fault
    → Step at bytes us g
    → Same [] (Some fault) us g
fault-same at bytes bs fault us g cut is at_end =
    let moves : Stop fault ≡ End = sym is ∙ ap (move at) (sym cut) in
    absurd (cc)
fault-same at bytes bs fault us g cut is (at_gap text' rest' vs h s is') =
    let moves : Stop fault ≡ Skip (length text') = sym is ∙ ap (move at) (sym cut) ∙ is' in
    absurd (cc)
fault-same at bytes bs fault us g cut is (at_token j text' rest' vs h s is') =
    let moves : Stop fault ≡ Take j (length text') = sym is ∙ ap (move at) (sym cut) ∙ is' in
    absurd (cc)
fault-same at bytes bs fault us g cut is (at_fault _ other is') =
    let moves : Stop fault ≡ Stop other = sym is ∙ ap (move at) (sym cut) ∙ is' in
    (refl, ap Some (stop-same fault other moves))

-- at the end
end-same : (at : ℕ) (bytes : List ℕ) (us : List TokenTree) (g : Option Fault) → bytes ≡ [] → Step at bytes us g → Same [] None us g
end-same at bytes us g none at_end = (refl, refl)
end-same at bytes us g none (at_gap text' rest' vs h s is') =
    let moves : End ≡ Skip (length text') = ap (move at) (sym none) ∙ is' in
    absurd (cc)
end-same at bytes us g none (at_token j text' rest' vs h s is') =
    let moves : End ≡ Take j (length text') = ap (move at) (sym none) ∙ is' in
    absurd (cc)
end-same at bytes us g none (at_fault _ other is') =
    let moves : End ≡ Stop other = ap (move at) (sym none) ∙ is' in
    absurd (cc)

-- Bytes have one split: their tokens and their fault are determined.
pub one-split : (at : ℕ) (bytes : List ℕ) (ts us : List TokenTree) (f g : Option Fault)
    → AreBytes bytes
    → Splits at bytes ts f
    → Splits at bytes us g
    → (ts ≡ us) × (f ≡ g)
one-split at bytes ts us f g are (ended _) other = end-same at [] us g refl (step-of at [] us g are other)
one-split at bytes ts us f g are (gap _ text rest tokens h is s) other =
    gap-same at (text ++ rest) text rest tokens us h g refl (gap-move at text rest is)
    (λ vs i more. one-split (at + length text) rest tokens vs h i (AreBytes-back text rest are) s more)
    (step-of at (text ++ rest) us g are other)
    (gap-some text is)
one-split at bytes ts us f g are (token _ k text rest tokens h is longest alone s) other =
    token-same at k (text ++ rest) text rest tokens us h g refl (all-tokens-move at k text rest are is longest alone)
    (λ vs i more. one-split (at + length text) rest tokens vs h i (AreBytes-back text rest are) s more)
    (step-of at (text ++ rest) us g are other)
    (token-some k text is)
one-split at bytes ts us f g are (stopped _ bs fault is) other =
    fault-same at bs bs fault us g refl (fault-move at bs fault are is) (step-of at bs us g are other)
