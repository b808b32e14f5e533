-- What is at the front of a text.
use Rattle.std.proofs.Common.{◌≡◌, ℕ, ◌+◌, ◌-◌, ◌≤◌, ◌<◌, suc, zero, Bool, true, false, cond, ◌&&◌, ◌==◌, eqb-true, List, [], ◌∷◌, ◌++◌, length, drop, Some, None, Contains, lit<, ◌⊎◌, refl, sym, ap, subst, ◌∙◌, inl, inr, arith, length-append, append-nil}
use Rattle.std.proofs.lemmas.Bool.{false≢true, and_parts, or_cases}
use Rattle.bs_fault.specs.declared.fault.Fault.TheVariants.{BadToken, Unclosed}
use Rattle.cmm_lex.specs.declared.front.Opening.{Opening}
use Rattle.cmm_lex.specs.declared.front.Opening.TheVariants.{Separator, Quote, Brace, Comment, Other}
use Rattle.cmm_lex.specs.declared.state.Shape.{Shape}
use Rattle.cmm_lex.specs.declared.state.State.TheVariants.{Start}
use Rattle.cmm_lex.specs.declared.token.TokenKind.{TokenKind}
use Rattle.cmm_lex.specs.declared.token.TokenKind.TheVariants as kind
use Rattle.cmm_lex.specs.Automaton.{run, state_after_byte, after_start, accepts, scan}
use Rattle.cmm_lex.specs.Enclosed.{BeginsWith, Enclosed, AString, AComment, Braces, opening, EndsString, EndsComments, EndsBraces}
use Rattle.cmm_lex.specs.Lexing.{separators, separator, comment, in_braces, IsFault, no_token, bad_escape, unclosed}
use Rattle.cmm_lex.specs.Scanning.{behind_string, behind_comments, behind_braces, kind_of, IsFine, GapTo, TokenTo, Longer, is_separator, is_star_first, opening_of}
use Rattle.cmm_lex.specs.Strings.{IsString, IsInside, BadEscape, here, past_plain, past_escape}
use Rattle.cmm_lex.specs.Tokens.{IsToken, is_string}
use Rattle.cmm_lex.proofs.Closings.{string-from, string-to, inside-ends, braces-from, braces-to, comments-from, comments-to}
use Rattle.cmm_lex.proofs.Languages.{AreBytes}
use Rattle.cmm_lex.proofs.Scans as scans
use Rattle.cmm_lex.proofs.Scans.{AreBytes-front, scan-none, same_parts, run-dead}
use Rattle.cmm_lex.proofs.Spelled.{accepted-token, token-found, kind-some}

-- ---- tokens that are no strings

-- bytes that begin with a string begin with a quote
pub string-quote : (bytes text rest : List ℕ) → IsString text → bytes ≡ text ++ rest → BeginsWith bytes (34 ∷ [])
string-quote bytes text rest (inside, e, h) whole = (inside ++ rest, whole ∙ ap (λ (v : List ℕ). v ++ rest) e)

pub first-none : (bytes : List ℕ) → AreBytes bytes → scan Start 0 None bytes ≡ None
    → (BeginsWith bytes (34 ∷ []) → ⊥)
    → (k : TokenKind) (text : List ℕ) → IsToken k text → BeginsWith bytes text → ⊥
first-none bytes are e no_quote k text is (rest, whole) =
    elim (accepted-token k text (AreBytes-front text rest (subst AreBytes whole are)) is) [
      | inl s ↦ no_quote (string-quote bytes text rest s.1 whole)
      | inr a ↦ scan-none bytes e text rest a.shape whole a.accepted
    ]

pub first-kind : (bytes : List ℕ) (s : Shape) (n : ℕ) (front back : List ℕ)
    → AreBytes bytes
    → scans.Longest bytes s n
    → bytes ≡ front ++ back
    → length front ≡ n
    → kind_of s front ≡ None
    → ⊥
first-kind bytes s n front back are h cut len none =
    let same = same_parts h.text h.rest front back (sym h.whole ∙ cut) (h.len ∙ sym len) in
    let accepted : accepts (run Start front) ≡ Some s = subst (λ (v : List ℕ). accepts (run Start v) ≡ Some s) same.0 h.accepted in
    kind-some s front (AreBytes-front front back (subst AreBytes cut are)) accepted none

pub first-some : (bytes : List ℕ) (s : Shape) (n : ℕ) (front back : List ℕ) (k : TokenKind)
    → AreBytes bytes
    → scans.Longest bytes s n
    → bytes ≡ front ++ back
    → length front ≡ n
    → kind_of s front ≡ Some k
    → Longer bytes k back
first-some bytes s n front back k are h cut len found =
    let same = same_parts h.text h.rest front back (sym h.whole ∙ cut) (h.len ∙ sym len) in
    let accepted : accepts (run Start front) ≡ Some s = subst (λ (v : List ℕ). accepts (run Start v) ≡ Some s) same.0 h.accepted in
    record {
      text = front;
      whole = cut;
      is_token = token-found s front k (AreBytes-front front back (subst AreBytes cut are)) accepted found;
      longest = λ no_quote j text rest is whole.
          elim (accepted-token j text (AreBytes-front text rest (subst AreBytes whole are)) is) [
            | inl str ↦ absurd (no_quote (string-quote bytes text rest str.1 whole))
            | inr a ↦ let short = h.none_longer text rest a.shape whole a.accepted in omega (arith, short, len)
          ];
    }

-- ---- strings

pub unclosed-string : (bytes : List ℕ) (at : ℕ) → behind_string bytes ≡ None → IsFault at (34 ∷ bytes) (Unclosed at)
unclosed-string bytes at none = unclosed at AString bytes (λ inside ends begins. no_end inside ends begins.0 begins.1)
  where
    no_end : (inside : List ℕ) → EndsString inside → (rest : List ℕ) → bytes ≡ inside ++ rest → ⊥
    no_end inside ends rest whole =
        let there = ap behind_string whole ∙ string-to inside rest ends in
        cc

-- the bytes of a string up to its end
pub string-cut : (bytes behind front back : List ℕ)
    → behind_string bytes ≡ Some behind
    → bytes ≡ front ++ back
    → length front ≡ length bytes - length behind
    → EndsString front × (behind ≡ back)
string-cut bytes behind front back e cut len =
    let h = string-from bytes behind e in
    let size : length bytes ≡ length (h.inside ++ behind) = ap length h.whole in
    let inside_size : length h.inside ≡ length front = omega (arith, size, length-append h.inside behind, len) in
    let same = same_parts h.inside behind front back (sym h.whole ∙ cut) inside_size in
    (subst EndsString same.0 h.ends, same.1)

pub string-shorter : (bytes behind : List ℕ) → behind_string bytes ≡ Some behind → length behind ≤ length bytes
string-shorter bytes behind e =
    let h = string-from bytes behind e in
    let size : length bytes ≡ length (h.inside ++ behind) = ap length h.whole in
    omega (arith, size, length-append h.inside behind)

pub bad-string : (bytes front back : List ℕ) (offset at : ℕ)
    → bytes ≡ front ++ back
    → EndsString front
    → BadEscape offset front
    → IsFault at (34 ∷ bytes) (BadToken (at + (1 + offset)))
bad-string bytes front back offset at cut ends bad =
    let place : at + 1 + offset ≡ at + (1 + offset) = omega arith in
    subst (λ (v : List ℕ). IsFault at (34 ∷ v) (BadToken (at + (1 + offset)))) (sym cut)
    (subst (λ (p : ℕ). IsFault at (34 ∷ (front ++ back)) (BadToken p)) place (bad_escape at offset front back ends bad))

-- a bad escape is in the bytes
pub bad-within : (n : ℕ) (bytes : List ℕ) → BadEscape n bytes → n < length bytes
bad-within n bytes (here bs none) = omega arith
bad-within n bytes (past_plain m b bs x y h) = let less = bad-within m bs h in omega arith
bad-within n bytes (past_escape m e bs is h) = let less = bad-within m bs h in omega (arith, length-append e bs)

-- no other token begins with a quote
quote-dead : (text rest bytes : List ℕ) (s : Shape) → 34 ∷ bytes ≡ text ++ rest → accepts (run Start text) ≡ Some s → ⊥
unfolding accepts state_after_byte after_start
quote-dead [] rest bytes s whole accepted = cc
quote-dead (b ∷ bs) rest bytes s whole accepted =
    let first : 34 ≡ b = cc in
    let there : accepts (run (state_after_byte Start 34) bs) ≡ Some s = subst (λ (v : ℕ). accepts (run (state_after_byte Start v) bs) ≡ Some s) (sym first) accepted in
    let dead : accepts (run (state_after_byte Start 34) bs) ≡ None = run-dead bs in
    cc

string-rest : (bytes text rest : List ℕ) → IsString text → 34 ∷ bytes ≡ text ++ rest → behind_string bytes ≡ Some rest
string-rest bytes text rest (inside, e, h) whole =
    let tail : bytes ≡ inside ++ rest = cc (ap (λ (v : List ℕ). v ++ rest) e) in
    ap behind_string tail ∙ string-to inside rest (inside-ends inside h)

quote-no_comment : (bytes rest : List ℕ) → 34 ∷ bytes ≡ 40 ∷ 42 ∷ rest → ⊥
quote-no_comment bytes rest e = let first : ◌≡◌ {A = ℕ} 34 40 = cc in omega arith

pub string-token : (bytes front back : List ℕ)
    → AreBytes (34 ∷ bytes)
    → bytes ≡ front ++ back
    → EndsString front
    → IsFine front
    → TokenTo (34 ∷ bytes) kind.String back
string-token bytes front back are cut ends fine =
    let closed : behind_string front ≡ Some [] = ap behind_string (sym (append-nil front)) ∙ string-to front [] ends in
    let f = fine [] closed in
    let same : front ≡ f.inside = f.whole ∙ append-nil f.inside in
    let good : IsInside front = subst IsInside (sym same) f.good in
    record {
      text = 34 ∷ front;
      whole = ap (λ (v : List ℕ). 34 ∷ v) cut;
      is_token = is_string (34 ∷ front) (front, refl, good);
      longest = λ j text rest is whole.
          elim (accepted-token j text (AreBytes-front text rest (subst AreBytes whole are)) is) [
            | inl s ↦
                let here = ap behind_string cut ∙ string-to front back ends in
                let there = string-rest bytes text rest s.1 whole in
                let tail : back ≡ rest = cc in
                let tail_size : length back ≡ length rest = ap length tail in
                let size : length (34 ∷ bytes) ≡ length (text ++ rest) = ap length whole in
                let cut_size : length bytes ≡ length (front ++ back) = ap length cut in
                omega (arith, size, cut_size, tail_size, length-append text rest, length-append front back)
            | inr a ↦ absurd (quote-dead text rest bytes a.shape whole a.accepted)
          ];
      no_comment = λ begins. quote-no_comment bytes begins.0 begins.1;
    }

-- ---- what opens

pub separator-from : (b : ℕ) → is_separator b ≡ true → Contains separators b
separator-from b e =
    elim (or_cases _ _ e) [
      | inl h ↦ (0, lit< tt, sym (eqb-true b 32 h))
      | inr e1 ↦ elim (or_cases _ _ e1) [
        | inl h ↦ (1, lit< tt, sym (eqb-true b 9 h))
        | inr e2 ↦ elim (or_cases _ _ e2) [
          | inl h ↦ (2, lit< tt, sym (eqb-true b 10 h))
          | inr e3 ↦ elim (or_cases _ _ e3) [
            | inl h ↦ (3, lit< tt, sym (eqb-true b 12 h))
            | inr h ↦ (4, lit< tt, sym (eqb-true b 13 h))
          ]
        ]
      ]
    ]

pub separator-to : (b : ℕ) → Contains separators b → is_separator b ≡ true
separator-to b (zero, h, e) = subst (λ (v : ℕ). is_separator v ≡ true) e refl
separator-to b (suc zero, h, e) = subst (λ (v : ℕ). is_separator v ≡ true) e refl
separator-to b (suc (suc zero), h, e) = subst (λ (v : ℕ). is_separator v ≡ true) e refl
separator-to b (suc (suc (suc zero)), h, e) = subst (λ (v : ℕ). is_separator v ≡ true) e refl
separator-to b (suc (suc (suc (suc zero))), h, e) = subst (λ (v : ℕ). is_separator v ≡ true) e refl
separator-to b (suc (suc (suc (suc (suc n)))), h, e) = absurd (omega arith)

-- what a text begins with, by what opens
abbrev pub Opens : Opening → List ℕ → Type 0
Opens Separator bytes = (b : ℕ) × (bs : List ℕ) × (bytes ≡ b ∷ bs) × Contains separators b
Opens Quote bytes = (bs : List ℕ) × (bytes ≡ 34 ∷ bs)
Opens Brace bytes = (bs : List ℕ) × (bytes ≡ 123 ∷ bs)
Opens Comment bytes = (bs : List ℕ) × (bytes ≡ 40 ∷ 42 ∷ bs)
Opens Other bytes =
    (bytes ≡ []) ⊎ ((b : ℕ) × (bs : List ℕ) × (bytes ≡ b ∷ bs) × (is_separator b ≡ false) × ((b == 34) ≡ false) × ((b == 123) ≡ false) × ((b == 40 && is_star_first bs) ≡ false))

star-from : (bs : List ℕ) → is_star_first bs ≡ true → (cs : List ℕ) × (bs ≡ 42 ∷ cs)
star-from [] e = absurd (false≢true e)
star-from (c ∷ cs) e = (cs, ap (λ (v : ℕ). v ∷ cs) (eqb-true c 42 e))

pub opens-is : (bytes : List ℕ) → Opens (opening_of bytes) bytes
opens-is [] = inl refl
opens-is (b ∷ bs) = at_test (is_separator b) (b == 34) (b == 123) (b == 40 && is_star_first bs) refl refl refl refl
  where
    at_test : (s q r c : Bool)
        → is_separator b ≡ s
        → (b == 34) ≡ q
        → (b == 123) ≡ r
        → (b == 40 && is_star_first bs) ≡ c
        → Opens (cond s Separator (cond q Quote (cond r Brace (cond c Comment Other)))) (b ∷ bs)
    at_test true q r c is_s is_q is_r is_c = (b, bs, refl, separator-from b is_s)
    at_test false true r c is_s is_q is_r is_c = (bs, ap (λ (v : ℕ). v ∷ bs) (eqb-true b 34 is_q))
    at_test false false true c is_s is_q is_r is_c = (bs, ap (λ (v : ℕ). v ∷ bs) (eqb-true b 123 is_r))
    at_test false false false true is_s is_q is_r is_c =
        let p = and_parts (b == 40) (is_star_first bs) is_c in
        let h = star-from bs p.1 in
        let first = eqb-true b 40 p.0 in
        let second = h.1 in
        (h.0, cc)
    at_test false false false false is_s is_q is_r is_c = inr (b, bs, refl, is_s, is_q, is_r, is_c)

pub opens-as : (bytes : List ℕ) (o : Opening) → opening_of bytes ≡ o → Opens o bytes
opens-as bytes o e = subst (λ (v : Opening). Opens v bytes) e (opens-is bytes)

-- ---- gaps

pub separator-gap : (bytes rest : List ℕ) → opening_of bytes ≡ Separator → rest ≡ drop 1 bytes → GapTo bytes rest
separator-gap bytes rest e r =
    let h = opens-as bytes Separator e in
    let tail : rest ≡ h.1 = r ∙ ap (drop 1) h.2 in
    record {
      text = h.0 ∷ [];
      whole = h.2 ∙ ap (λ (v : List ℕ). h.0 ∷ v) (sym tail);
      is_gap = separator h.0 h.3;
    }

pub quote-behind : (bytes rest : List ℕ) → opening_of bytes ≡ Quote → rest ≡ drop 1 bytes → bytes ≡ 34 ∷ rest
quote-behind bytes rest e r =
    let h = opens-as bytes Quote e in
    let tail : rest ≡ h.0 = r ∙ ap (drop 1) h.1 in
    h.1 ∙ ap (λ (v : List ℕ). 34 ∷ v) (sym tail)

pub brace-behind : (bytes rest : List ℕ) → opening_of bytes ≡ Brace → rest ≡ drop 1 bytes → bytes ≡ 123 ∷ rest
brace-behind bytes rest e r =
    let h = opens-as bytes Brace e in
    let tail : rest ≡ h.0 = r ∙ ap (drop 1) h.1 in
    h.1 ∙ ap (λ (v : List ℕ). 123 ∷ v) (sym tail)

pub comment-behind : (bytes rest : List ℕ) → opening_of bytes ≡ Comment → rest ≡ drop 2 bytes → bytes ≡ 40 ∷ 42 ∷ rest
comment-behind bytes rest e r =
    let h = opens-as bytes Comment e in
    let tail : rest ≡ h.0 = r ∙ ap (drop 2) h.1 in
    h.1 ∙ ap (λ (v : List ℕ). 40 ∷ 42 ∷ v) (sym tail)

pub brace-gap : (bytes inside rest : List ℕ) → bytes ≡ 123 ∷ inside → behind_braces inside ≡ Some rest → GapTo bytes rest
brace-gap bytes inside rest e found =
    let h = braces-from inside rest found in
    record {
      text = 123 ∷ h.inside;
      whole = e ∙ ap (λ (v : List ℕ). 123 ∷ v) h.whole;
      is_gap = in_braces h.inside h.ends;
    }

pub comment-gap : (bytes inside rest : List ℕ) → bytes ≡ 40 ∷ 42 ∷ inside → behind_comments 1 inside ≡ Some rest → GapTo bytes rest
comment-gap bytes inside rest e found =
    let h = comments-from 1 inside rest found in
    record {
      text = 40 ∷ 42 ∷ h.inside;
      whole = e ∙ ap (λ (v : List ℕ). 40 ∷ 42 ∷ v) h.whole;
      is_gap = comment h.inside h.ends;
    }

pub unclosed-brace : (bytes inside : List ℕ) (at : ℕ) → bytes ≡ 123 ∷ inside → behind_braces inside ≡ None → IsFault at bytes (Unclosed at)
unclosed-brace bytes inside at e none =
    subst (λ (v : List ℕ). IsFault at v (Unclosed at)) (sym e)
    (unclosed at Braces inside (λ text ends begins. no_end text ends begins.0 begins.1))
  where
    no_end : (text : List ℕ) → EndsBraces text → (rest : List ℕ) → inside ≡ text ++ rest → ⊥
    no_end text ends rest whole =
        let there = ap behind_braces whole ∙ braces-to text rest ends in
        cc

pub unclosed-comment : (bytes inside : List ℕ) (at : ℕ) → bytes ≡ 40 ∷ 42 ∷ inside → behind_comments 1 inside ≡ None → IsFault at bytes (Unclosed at)
unclosed-comment bytes inside at e none =
    subst (λ (v : List ℕ). IsFault at v (Unclosed at)) (sym e)
    (unclosed at AComment inside (λ text ends begins. no_end text ends begins.0 begins.1))
  where
    no_end : (text : List ℕ) → EndsComments 1 text → (rest : List ℕ) → inside ≡ text ++ rest → ⊥
    no_end text ends rest whole =
        let there = ap (behind_comments 1) whole ∙ comments-to 1 text rest ends in
        cc

-- ---- all else

-- where nothing else opens, there is no quote and no comment
pub other-no_quote : (bytes : List ℕ) → opening_of bytes ≡ Other → BeginsWith bytes (34 ∷ []) → ⊥
other-no_quote bytes e (rest, whole) = let wrong : opening_of (34 ∷ rest) ≡ Other = ap opening_of (sym whole) ∙ e in cc

pub other-no_comment : (bytes : List ℕ) → opening_of bytes ≡ Other → BeginsWith bytes (40 ∷ 42 ∷ []) → ⊥
other-no_comment bytes e (rest, whole) = let wrong : opening_of (40 ∷ 42 ∷ rest) ≡ Other = ap opening_of (sym whole) ∙ e in cc

pub other-no_brace : (bytes : List ℕ) → opening_of bytes ≡ Other → BeginsWith bytes (123 ∷ []) → ⊥
other-no_brace bytes e (rest, whole) = let wrong : opening_of (123 ∷ rest) ≡ Other = ap opening_of (sym whole) ∙ e in cc

other-opening : (bytes : List ℕ) → opening_of bytes ≡ Other → (e : Enclosed) → BeginsWith bytes (opening e) → ⊥
other-opening bytes is AString begins = other-no_quote bytes is begins
other-opening bytes is AComment begins = other-no_comment bytes is begins
other-opening bytes is Braces begins = other-no_brace bytes is begins

pub other-token : (bytes : List ℕ) (k : TokenKind) (rest : List ℕ) → opening_of bytes ≡ Other → Longer bytes k rest → TokenTo bytes k rest
other-token bytes k rest e h =
    record {
      text = h.text;
      whole = h.whole;
      is_token = h.is_token;
      longest = h.longest (other-no_quote bytes e);
      no_comment = other-no_comment bytes e;
    }

pub other-bad : (bytes : List ℕ) (at : ℕ)
    → 0 < length bytes
    → opening_of bytes ≡ Other
    → ((k : TokenKind) (text : List ℕ) → IsToken k text → BeginsWith bytes text → ⊥)
    → IsFault at bytes (BadToken (at + 0))
other-bad [] at some e none = absurd (omega arith)
other-bad (b ∷ bs) at some e none =
    let place : at ≡ at + 0 = omega arith in
    subst (λ (p : ℕ). IsFault at (b ∷ bs) (BadToken p)) place
    (no_token at b bs (λ is. not_separator (opens-as (b ∷ bs) Other e) (separator-to b is)) (other-opening (b ∷ bs) e) none)
  where
    not_separator : Opens Other (b ∷ bs) → is_separator b ≡ true → ⊥
    not_separator (inl h) is = cc
    not_separator (inr h) is =
        let no_sep = h.3 in
        let whole = h.2 in
        let same : b ≡ h.0 = cc in
        false≢true (sym no_sep ∙ subst (λ (v : ℕ). is_separator v ≡ true) same is)
