-- Where strings, comments and texts in braces end.
use Rattle.std.proofs.Common.{◌≡◌, ℕ, ◌+◌, suc, zero, Bool, true, false, cond, ◌&&◌, ◌==◌, eqb-true, List, [], ◌∷◌, ◌++◌, Some, None, refl, sym, ap, subst, ◌∙◌, arith, append_assoc}
use Rattle.std.proofs.lemmas.Bool.{false≢true, and_parts, and_from, eqb-false, eq-eqb, ne_eqb}
use Rattle.cmm_lex.specs.Enclosed.{BeginsWith, EndsString, quote, pair, byte, EndsComments, all_ended, opens, closes, comment_byte, EndsBraces, brace, brace_byte}
use Rattle.cmm_lex.specs.Scanning.{behind_string, behind_comments, behind_braces}
use Rattle.cmm_lex.specs.Strings.{IsEscape, letter, code, IsInside, closing, plain, escape}
use Rattle.cmm_lex.proofs.Escapes.{plain-on, code-plain}

-- bytes up to the end, and those after
pub record Closed (P : List ℕ → Type 0) (bytes rest : List ℕ) : Type 0 where
  pub inside : List ℕ
  pub ends : P inside
  pub whole : bytes ≡ inside ++ rest

closed-cons : (P : List ℕ → Type 0) (bytes rest : List ℕ) (e : List ℕ)
    → Closed P bytes rest
    → ((inside : List ℕ) → P inside → P (e ++ inside))
    → Closed P (e ++ bytes) rest
closed-cons P bytes rest e h more =
    record {
      inside = e ++ h.inside;
      ends = more h.inside h.ends;
      whole = ap (λ (v : List ℕ). e ++ v) h.whole ∙ sym (append_assoc e h.inside rest);
    }

-- ---- strings

pub string-from : (bytes rest : List ℕ) → behind_string bytes ≡ Some rest → Closed EndsString bytes rest
string-from [] rest e = cc
string-from (b ∷ []) rest e = at_quote (b == 34) refl e
  where
    at_quote : (t : Bool) → (b == 34) ≡ t → cond t (Some []) None ≡ Some rest → Closed EndsString (b ∷ []) rest
    at_quote true is found =
        let same : b ≡ 34 = eqb-true b 34 is in
        let none : ◌≡◌ {A = List ℕ} [] rest = cc in
        record { inside = 34 ∷ []; ends = quote; whole = cc }
    at_quote false is found = cc
string-from (b ∷ c ∷ bs) rest e = at_quote (b == 34) (b == 92) refl refl (string-from bs rest) (string-from (c ∷ bs) rest) e
  where
    at_quote : (t u : Bool)
        → (b == 34) ≡ t
        → (b == 92) ≡ u
        → (behind_string bs ≡ Some rest → Closed EndsString bs rest)
        → (behind_string (c ∷ bs) ≡ Some rest → Closed EndsString (c ∷ bs) rest)
        → cond t (Some (c ∷ bs)) (cond u (behind_string bs) (behind_string (c ∷ bs))) ≡ Some rest
        → Closed EndsString (b ∷ c ∷ bs) rest
    at_quote true u is slash two one found =
        let same : b ≡ 34 = eqb-true b 34 is in
        let tail : c ∷ bs ≡ rest = cc in
        record { inside = 34 ∷ []; ends = quote; whole = cc }
    at_quote false true is slash two one found =
        let same : b ≡ 92 = eqb-true b 92 slash in
        subst (λ (v : ℕ). Closed EndsString (v ∷ c ∷ bs) rest) (sym same)
        (closed-cons EndsString bs rest (92 ∷ c ∷ []) (two found) (λ inside is. pair c inside is))
    at_quote false false is slash two one found =
        closed-cons EndsString (c ∷ bs) rest (b ∷ []) (one found)
        (λ inside ends. byte b inside (eqb-false b 34 is) (eqb-false b 92 slash) ends)

quote-first : (rest : List ℕ) → behind_string (34 ∷ rest) ≡ Some rest
quote-first [] = refl
quote-first (c ∷ cs) = refl

pub string-to : (inside rest : List ℕ) → EndsString inside → behind_string (inside ++ rest) ≡ Some rest
string-to inside rest quote = quote-first rest
string-to inside rest (pair b bytes h) = string-to bytes rest h
string-to inside rest (byte b bytes no_quote no_slash h) =
    plain-on b (bytes ++ rest) (ne_eqb b 34 no_quote) (ne_eqb b 92 no_slash) ∙ string-to bytes rest h

escape-ends : (e bytes : List ℕ) → IsEscape e → EndsString bytes → EndsString (e ++ bytes)
escape-ends e bytes (letter b is) ends = pair b bytes ends
escape-ends e bytes (code a b c is) ends =
    let p = code-plain a b c is in
    pair a (b ∷ c ∷ bytes) (byte b (c ∷ bytes) p.0 p.1 (byte c bytes p.2 p.3 ends))

-- plain bytes, escapes and the closing quote end a string
pub inside-ends : (inside : List ℕ) → IsInside inside → EndsString inside
inside-ends inside closing = quote
inside-ends inside (plain b bytes no_quote no_slash h) = byte b bytes no_quote no_slash (inside-ends bytes h)
inside-ends inside (escape e bytes is h) = escape-ends e bytes is (inside-ends bytes h)

-- ---- braces

pub braces-from : (bytes rest : List ℕ) → behind_braces bytes ≡ Some rest → Closed EndsBraces bytes rest
braces-from [] rest e = cc
braces-from (b ∷ bs) rest e = at_brace (b == 125) refl (braces-from bs rest) e
  where
    at_brace : (t : Bool)
        → (b == 125) ≡ t
        → (behind_braces bs ≡ Some rest → Closed EndsBraces bs rest)
        → cond t (Some bs) (behind_braces bs) ≡ Some rest
        → Closed EndsBraces (b ∷ bs) rest
    at_brace true is later found =
        let same : b ≡ 125 = eqb-true b 125 is in
        let tail : bs ≡ rest = cc in
        record { inside = 125 ∷ []; ends = brace; whole = cc }
    at_brace false is later found =
        closed-cons EndsBraces bs rest (b ∷ []) (later found) (λ inside ends. brace_byte b inside (eqb-false b 125 is) ends)

pub braces-to : (inside rest : List ℕ) → EndsBraces inside → behind_braces (inside ++ rest) ≡ Some rest
braces-to inside rest brace = refl
braces-to inside rest (brace_byte b bytes other h) =
    let test : (b == 125) ≡ false = ne_eqb b 125 other in
    rw test (braces-to bytes rest h)

-- ---- comments

is_both : (a b x y : ℕ) → a ≡ x → b ≡ y → (a == x && b == y) ≡ true
is_both a b x y e f = and_from _ _ (eq-eqb a x e) (eq-eqb b y f)

-- a sign of two bytes is not across the end
no_sign : (b c x y : ℕ) (bs inside rest : List ℕ)
    → (b == x && c == y) ≡ false
    → c ∷ bs ≡ inside ++ rest
    → BeginsWith (b ∷ inside) (x ∷ y ∷ [])
    → ⊥
no_sign b c x y bs [] rest none whole (more, e) = cc
no_sign b c x y bs (d ∷ ds) rest none whole (more, e) =
    let first : b ≡ x = cc in
    let second : d ≡ y = cc in
    let same : c ≡ d = cc in
    false≢true (sym none ∙ is_both b c x y first (same ∙ second))

pub comments-from : (n : ℕ) (bytes rest : List ℕ) → behind_comments n bytes ≡ Some rest → Closed (EndsComments n) bytes rest
comments-from zero bytes rest e =
    let same : bytes ≡ rest = cc in
    record { inside = []; ends = all_ended; whole = same }
comments-from (suc n) [] rest e = cc
comments-from (suc n) (b ∷ []) rest e = cc
comments-from (suc n) (b ∷ c ∷ bs) rest e =
    at_sign (b == 40 && c == 42) (b == 42 && c == 41) refl refl (comments-from (suc (suc n)) bs rest) (comments-from n bs rest) (comments-from (suc n) (c ∷ bs) rest) e
  where
    at_sign : (t u : Bool)
        → (b == 40 && c == 42) ≡ t
        → (b == 42 && c == 41) ≡ u
        → (behind_comments (suc (suc n)) bs ≡ Some rest → Closed (EndsComments (suc (suc n))) bs rest)
        → (behind_comments n bs ≡ Some rest → Closed (EndsComments n) bs rest)
        → (behind_comments (suc n) (c ∷ bs) ≡ Some rest → Closed (EndsComments (suc n)) (c ∷ bs) rest)
        → cond t (behind_comments (suc (suc n)) bs) (cond u (behind_comments n bs) (behind_comments (suc n) (c ∷ bs))) ≡ Some rest
        → Closed (EndsComments (suc n)) (b ∷ c ∷ bs) rest
    at_sign true u is_open is_close deeper higher same found =
        let h = deeper found in
        let p = and_parts (b == 40) (c == 42) is_open in
        let first = eqb-true b 40 p.0 in
        let second = eqb-true c 42 p.1 in
        let one : n + 1 ≡ suc n = omega arith in
        let two : suc (suc n) ≡ n + 2 = omega arith in
        record {
          inside = 40 ∷ 42 ∷ h.inside;
          ends = subst (λ (m : ℕ). EndsComments m (40 ∷ 42 ∷ h.inside)) one
              (opens n h.inside (subst (λ (m : ℕ). EndsComments m h.inside) two h.ends));
          whole = let w = h.whole in cc;
        }
    at_sign false true is_open is_close deeper higher same found =
        let h = higher found in
        let p = and_parts (b == 42) (c == 41) is_close in
        let first = eqb-true b 42 p.0 in
        let second = eqb-true c 41 p.1 in
        let one : n + 1 ≡ suc n = omega arith in
        record {
          inside = 42 ∷ 41 ∷ h.inside;
          ends = subst (λ (m : ℕ). EndsComments m (42 ∷ 41 ∷ h.inside)) one (closes n h.inside h.ends);
          whole = let w = h.whole in cc;
        }
    at_sign false false is_open is_close deeper higher same found =
        let h = same found in
        let one : n + 1 ≡ suc n = omega arith in
        let back : suc n ≡ n + 1 = omega arith in
        record {
          inside = b ∷ h.inside;
          ends = subst (λ (m : ℕ). EndsComments m (b ∷ h.inside)) one
              (comment_byte n b h.inside
              (no_sign b c 40 42 bs h.inside rest is_open h.whole)
              (no_sign b c 42 41 bs h.inside rest is_close h.whole)
              (subst (λ (m : ℕ). EndsComments m h.inside) back h.ends));
          whole = ap (λ (v : List ℕ). b ∷ v) h.whole;
        }

ends-some : (m n : ℕ) (bytes : List ℕ) → EndsComments m bytes → m ≡ n + 1 → bytes ≡ [] → ⊥
ends-some m n bytes all_ended e none = absurd (omega arith)
ends-some m n bytes (opens k bs h) e none = cc
ends-some m n bytes (closes k bs h) e none = cc
ends-some m n bytes (comment_byte k b bs x y h) e none = cc

-- a byte that begins no sign leaves as many open
byte-on : (n b : ℕ) (bytes rest : List ℕ)
    → (BeginsWith (b ∷ bytes) (40 ∷ 42 ∷ []) → ⊥)
    → (BeginsWith (b ∷ bytes) (42 ∷ 41 ∷ []) → ⊥)
    → (bytes ≡ [] → ⊥)
    → behind_comments (suc n) (b ∷ (bytes ++ rest)) ≡ behind_comments (suc n) (bytes ++ rest)
byte-on n b [] rest x y some = absurd (some refl)
byte-on n b (c ∷ cs) rest x y some = at_sign (b == 40 && c == 42) (b == 42 && c == 41) refl refl
  where
    at_sign : (t u : Bool)
        → (b == 40 && c == 42) ≡ t
        → (b == 42 && c == 41) ≡ u
        → cond t (behind_comments (suc (suc n)) (cs ++ rest)) (cond u (behind_comments n (cs ++ rest)) (behind_comments (suc n) (c ∷ (cs ++ rest)))) ≡ behind_comments (suc n) (c ∷ (cs ++ rest))
    at_sign true u is_open is_close =
        let p = and_parts (b == 40) (c == 42) is_open in
        let first = eqb-true b 40 p.0 in
        let second = eqb-true c 42 p.1 in
        absurd (x (cs, cc))
    at_sign false true is_open is_close =
        let p = and_parts (b == 42) (c == 41) is_close in
        let first = eqb-true b 42 p.0 in
        let second = eqb-true c 41 p.1 in
        absurd (y (cs, cc))
    at_sign false false is_open is_close = refl

pub comments-to : (n : ℕ) (inside rest : List ℕ) → EndsComments n inside → behind_comments n (inside ++ rest) ≡ Some rest
comments-to n inside rest all_ended = refl
comments-to n inside rest (opens k bytes h) =
    let one : suc k ≡ k + 1 = omega arith in
    let two : k + 2 ≡ suc (suc k) = omega arith in
    subst (λ (m : ℕ). behind_comments m (40 ∷ 42 ∷ (bytes ++ rest)) ≡ Some rest) one
    (subst (λ (m : ℕ). behind_comments m (bytes ++ rest) ≡ Some rest) two (comments-to (k + 2) bytes rest h))
comments-to n inside rest (closes k bytes h) =
    let one : suc k ≡ k + 1 = omega arith in
    subst (λ (m : ℕ). behind_comments m (42 ∷ 41 ∷ (bytes ++ rest)) ≡ Some rest) one (comments-to k bytes rest h)
comments-to n inside rest (comment_byte k b bytes x y h) =
    let one : suc k ≡ k + 1 = omega arith in
    let later = comments-to (k + 1) bytes rest h in
    subst (λ (m : ℕ). behind_comments m (b ∷ (bytes ++ rest)) ≡ Some rest) one
    (byte-on k b bytes rest x y (ends-some (k + 1) k bytes h refl)
    ∙ subst (λ (m : ℕ). behind_comments m (bytes ++ rest) ≡ Some rest) (sym one) later)
