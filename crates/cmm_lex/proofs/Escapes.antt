-- Strings, byte by byte.
use Rattle.std.proofs.Common.{◌≡◌, ℕ, ◌+◌, ◌-◌, ◌≤◌, suc, zero, Bool, true, false, not, cond, ◌&&◌, ◌||◌, ◌==◌, eqb-true, leb-true, nat_le, List, [], ◌∷◌, ◌++◌, length, Option, Some, None, is_some, Contains, lit<, ◌⊎◌, inl, inr, refl, sym, ap, subst, ◌∙◌, arith, length-append, append_assoc}
use Rattle.std.proofs.lemmas.Bool.{false≢true, and_parts, or_cases, or_left, or_right, eqb-false, ne_eqb}
use Rattle.std.specs.Char.{is_ascii_digit}
use Rattle.cmm_lex.specs.Scanning.{code_of, first_unescaped, is_letter_escape, begins_escape, is_bad, next_byte, behind_string, Fine}
use Rattle.cmm_lex.specs.Strings.{letters, coded, is_code, escaped, unescaped, behind_backslash, IsEscape, letter, code, IsInside, closing, plain, escape, BadEscape, here, past_plain, past_escape}
use Rattle.cmm_lex.proofs.Pairs.{some_pair}

-- ---- letters and codes

pub letter-from : (b : ℕ) → is_letter_escape b ≡ true → Contains letters b
letter-from b e =
    elim (or_cases _ _ e) [
      | inl h ↦ (0, lit< tt, sym (eqb-true b 92 h))
      | inr e1 ↦ elim (or_cases _ _ e1) [
        | inl h ↦ (1, lit< tt, sym (eqb-true b 34 h))
        | inr e2 ↦ elim (or_cases _ _ e2) [
          | inl h ↦ (2, lit< tt, sym (eqb-true b 110 h))
          | inr e3 ↦ elim (or_cases _ _ e3) [
            | inl h ↦ (3, lit< tt, sym (eqb-true b 116 h))
            | inr e4 ↦ elim (or_cases _ _ e4) [
              | inl h ↦ (4, lit< tt, sym (eqb-true b 114 h))
              | inr h ↦ (5, lit< tt, sym (eqb-true b 98 h))
            ]
          ]
        ]
      ]
    ]

pub letter-to : (b : ℕ) → Contains letters b → is_letter_escape b ≡ true
letter-to b (zero, h, e) = subst (λ (v : ℕ). is_letter_escape v ≡ true) e refl
letter-to b (suc zero, h, e) = subst (λ (v : ℕ). is_letter_escape v ≡ true) e refl
letter-to b (suc (suc zero), h, e) = subst (λ (v : ℕ). is_letter_escape v ≡ true) e refl
letter-to b (suc (suc (suc zero)), h, e) = subst (λ (v : ℕ). is_letter_escape v ≡ true) e refl
letter-to b (suc (suc (suc (suc zero))), h, e) = subst (λ (v : ℕ). is_letter_escape v ≡ true) e refl
letter-to b (suc (suc (suc (suc (suc zero)))), h, e) = subst (λ (v : ℕ). is_letter_escape v ≡ true) e refl
letter-to b (suc (suc (suc (suc (suc (suc n))))), h, e) = absurd (omega arith)

-- a digit is neither a quote nor a backslash
pub digit-plain : (b : ℕ) → is_ascii_digit b ≡ true → (48 ≤ b) × (b ≤ 57)
digit-plain b e =
    let p = and_parts (nat_le 48 b) (nat_le b 57) e in
    (leb-true 48 b p.0, leb-true b 57 p.1)

-- ---- where a string is closed

-- a plain byte does not close it
pub plain-on : (b : ℕ) (bs : List ℕ) → (b == 34) ≡ false → (b == 92) ≡ false → behind_string (b ∷ bs) ≡ behind_string bs
plain-on b [] quote slash = rw quote refl
plain-on b (c ∷ bs) quote slash = rw (quote, slash) refl

-- the second and the third digit of a code are plain
pub code-plain : (a b c : ℕ) → is_code a b c ≡ true → (b ≡ 34 → ⊥) × (b ≡ 92 → ⊥) × (c ≡ 34 → ⊥) × (c ≡ 92 → ⊥)
code-plain a b c e =
    let p = and_parts (is_ascii_digit a && is_ascii_digit b) (is_ascii_digit c && nat_le (coded a b c) 255) e in
    let ab = and_parts (is_ascii_digit a) (is_ascii_digit b) p.0 in
    let cd = and_parts (is_ascii_digit c) (nat_le (coded a b c) 255) p.1 in
    let db = digit-plain b ab.1 in
    let dc = digit-plain c cd.0 in
    let low_b = db.0 in
    let high_b = db.1 in
    let low_c = dc.0 in
    let high_c = dc.1 in
    (λ q. omega arith, λ q. omega arith, λ q. omega arith, λ q. omega arith)

code-on : (a b c : ℕ) (bs : List ℕ) → is_code a b c ≡ true → behind_string (92 ∷ a ∷ b ∷ c ∷ bs) ≡ behind_string bs
code-on a b c bs e =
    let p = code-plain a b c e in
    plain-on b (c ∷ bs) (ne_eqb b 34 p.0) (ne_eqb b 92 p.1) ∙ plain-on c bs (ne_eqb c 34 p.2) (ne_eqb c 92 p.3)

-- ---- one byte or one escape

-- the bytes of an escape, and the rest
pub record Begun (bs rest : List ℕ) : Type 0 where
  pub e : List ℕ
  pub whole : bs ≡ e ++ rest
  pub is_escape : IsEscape (92 ∷ e)
  pub same : behind_string (92 ∷ bs) ≡ behind_string rest

by_letter : (a v : ℕ) (bs rest : List ℕ)
    → is_letter_escape a ≡ true
    → ◌≡◌ {A = Option (ℕ × List ℕ)} (Some (escaped a, bs)) (Some (v, rest))
    → Begun (a ∷ bs) rest
by_letter a v bs rest is found =
    let p = some_pair (escaped a) v bs rest found in
    let r = p.1 in
    record {
      e = a ∷ [];
      whole = ap (λ (w : List ℕ). a ∷ w) r;
      is_escape = letter a (letter-from a is);
      same = ap behind_string r;
    }

-- no code is there
letter_alone : (a : ℕ) → (is_letter_escape a || false) ≡ true → is_letter_escape a ≡ true
letter_alone a e = elim (or_cases _ _ e) [ inl h ↦ h | inr h ↦ absurd (false≢true h) ]

code_or_letter : (a b c v : ℕ) (bs rest : List ℕ) (t : Bool)
    → is_code a b c ≡ t
    → (is_letter_escape a || is_some (cond {A = Option (ℕ × List ℕ)} t (Some (coded a b c, bs)) None)) ≡ true
    → cond {A = Option (ℕ × List ℕ)} t (Some (coded a b c, bs)) (Some (escaped a, b ∷ c ∷ bs)) ≡ Some (v, rest)
    → Begun (a ∷ b ∷ c ∷ bs) rest
code_or_letter a b c v bs rest true is begins found =
    let p = some_pair (coded a b c) v bs rest found in
    let r = p.1 in
    record {
      e = a ∷ b ∷ c ∷ [];
      whole = ap (λ (w : List ℕ). a ∷ b ∷ c ∷ w) r;
      is_escape = code a b c is;
      same = code-on a b c bs is ∙ ap behind_string r;
    }
code_or_letter a b c v bs rest false is begins found = by_letter a v (b ∷ c ∷ bs) rest (letter_alone a begins) found

begun : (bs : List ℕ) (v : ℕ) (rest : List ℕ) → begins_escape bs ≡ true → first_unescaped bs ≡ Some (v, rest) → Begun bs rest
begun [] v rest begins found = cc
begun (a ∷ []) v rest begins found = by_letter a v [] rest (letter_alone a begins) found
begun (a ∷ b ∷ []) v rest begins found = by_letter a v (b ∷ []) rest (letter_alone a begins) found
begun (a ∷ b ∷ c ∷ bs) v rest begins found = code_or_letter a b c v bs rest (is_code a b c) refl begins found

-- a plain byte or an escape, and the rest
abbrev IsPart : List ℕ → Type 0
IsPart e = ((b : ℕ) × (e ≡ b ∷ []) × (b ≡ 34 → ⊥) × (b ≡ 92 → ⊥)) ⊎ IsEscape e

pub record Passed (bs rest : List ℕ) : Type 0 where
  pub e : List ℕ
  pub whole : bs ≡ e ++ rest
  pub part : IsPart e
  pub same : behind_string bs ≡ behind_string rest

not_true : (t : Bool) → not t ≡ false → t ≡ true
not_true true e = refl
not_true false e = absurd (false≢true (sym e))

pub passed : (bs : List ℕ) (v : ℕ) (rest : List ℕ) → is_bad bs ≡ false → next_byte bs ≡ Some (v, rest) → Passed bs rest
passed [] v rest fine found = cc
passed (b ∷ bs) v rest fine found = at_quote (b == 34) (b == 92) refl refl fine found
  where
    at_quote : (t u : Bool)
        → (b == 34) ≡ t
        → (b == 92) ≡ u
        → (u && not (begins_escape bs)) ≡ false
        → cond {A = Option (ℕ × List ℕ)} t None (cond u (first_unescaped bs) (Some (b, bs))) ≡ Some (v, rest)
        → Passed (b ∷ bs) rest
    at_quote true u is_quote is_slash fine found = cc
    at_quote false true is_quote is_slash fine found =
        let h = begun bs v rest (not_true (begins_escape bs) fine) found in
        let slash : b ≡ 92 = eqb-true b 92 is_slash in
        subst (λ (w : ℕ). Passed (w ∷ bs) rest) (sym slash) (record {
          e = 92 ∷ h.e;
          whole = ap (λ (w : List ℕ). 92 ∷ w) h.whole;
          part = inr h.is_escape;
          same = h.same;
        })
    at_quote false false is_quote is_slash fine found =
        let p = some_pair b v bs rest found in
        let r = p.1 in
        record {
          e = b ∷ [];
          whole = ap (λ (w : List ℕ). b ∷ w) r;
          part = inl (b, refl, eqb-false b 34 is_quote, eqb-false b 92 is_slash);
          same = plain-on b bs is_quote is_slash ∙ ap behind_string r;
        }

-- ---- what a part does

bad-part : (e rest : List ℕ) (n : ℕ) → IsPart e → BadEscape n rest → BadEscape (n + length e) (e ++ rest)
bad-part e rest n (inl p) bad =
    let is_one = p.1 in
    subst (λ (w : List ℕ). BadEscape (n + length w) (w ++ rest)) (sym is_one) (past_plain n p.0 rest p.2 p.3 bad)
bad-part e rest n (inr is) bad = past_escape n e rest is bad

pub bad-on : (bs rest : List ℕ) (n : ℕ) → Passed bs rest → BadEscape n rest → BadEscape (n + (length bs - length rest)) bs
bad-on bs rest n h bad =
    let len : length bs ≡ length (h.e ++ rest) = ap length h.whole in
    let size : n + length h.e ≡ n + (length bs - length rest) = omega (arith, len, length-append h.e rest) in
    subst (λ (w : List ℕ). BadEscape (n + (length bs - length rest)) w) (sym h.whole)
    (subst (λ (m : ℕ). BadEscape m (h.e ++ rest)) size (bad-part h.e rest n h.part bad))

inside-part : (e rest : List ℕ) → IsPart e → IsInside rest → IsInside (e ++ rest)
inside-part e rest (inl p) is =
    let is_one = p.1 in
    subst (λ (w : List ℕ). IsInside (w ++ rest)) (sym is_one) (plain p.0 rest p.2 p.3 is)
inside-part e rest (inr is_escape) is = escape e rest is_escape is

pub fine-on : (bs rest tail : List ℕ) → Passed bs rest → Fine rest tail → Fine bs tail
fine-on bs rest tail h f =
    record {
      inside = h.e ++ f.inside;
      whole = h.whole ∙ ap (λ (w : List ℕ). h.e ++ w) f.whole ∙ sym (append_assoc h.e f.inside tail);
      good = inside-part h.e f.inside h.part f.good;
    }

pub passed-shorter : (bs rest : List ℕ) → Passed bs rest → length rest ≤ length bs
passed-shorter bs rest h =
    let len : length bs ≡ length (h.e ++ rest) = ap length h.whole in
    omega (arith, len, length-append h.e rest)

-- ---- ends

-- a bad backslash
pub bad-here : (bs : List ℕ) → is_bad bs ≡ true → BadEscape 0 bs
bad-here [] e = absurd (false≢true e)
bad-here (b ∷ bs) e =
    let p = and_parts (b == 92) (not (begins_escape bs)) e in
    let slash : b ≡ 92 = eqb-true b 92 p.0 in
    subst (λ (w : ℕ). BadEscape 0 (w ∷ bs)) (sym slash) (here bs (λ e is begins. no_escape e is begins.0 begins.1 p.1))
  where
    no_escape : (e : List ℕ) → IsEscape e → (rest : List ℕ) → 92 ∷ bs ≡ e ++ rest → not (begins_escape bs) ≡ true → ⊥
    no_escape e (letter c is) rest whole none =
        let tail : bs ≡ c ∷ rest = cc in
        let begins : begins_escape (c ∷ rest) ≡ true = or_left _ _ (letter-to c is) in
        let there : begins_escape bs ≡ true = ap begins_escape tail ∙ begins in
        false≢true (sym (ap not there) ∙ none)
    no_escape e (code a b' c is) rest whole none =
        let tail : bs ≡ a ∷ b' ∷ c ∷ rest = cc in
        let some : is_some (code_of (a ∷ b' ∷ c ∷ rest)) ≡ true = rw is refl in
        let begins : begins_escape (a ∷ b' ∷ c ∷ rest) ≡ true = or_right _ _ some in
        let there : begins_escape bs ≡ true = ap begins_escape tail ∙ begins in
        false≢true (sym (ap not there) ∙ none)

behind-quote : (bs tail : List ℕ) → behind_string (34 ∷ bs) ≡ Some tail → bs ≡ tail
behind-quote [] tail e = cc
behind-quote (b ∷ bs) tail e = cc

-- where no byte goes on, the quote closes
pub fine-end : (bs tail : List ℕ) → next_byte bs ≡ None → behind_string bs ≡ Some tail → Fine bs tail
fine-end [] tail none closed = cc
fine-end (b ∷ bs) tail none closed = at_quote (b == 34) (b == 92) refl refl none
  where
    at_slash : (cs : List ℕ) → first_unescaped cs ≡ None → behind_string (92 ∷ cs) ≡ Some tail → ⊥
    at_slash [] none closed = cc
    at_slash (a ∷ []) none closed = cc
    at_slash (a ∷ c ∷ []) none closed = cc
    at_slash (a ∷ c ∷ d ∷ cs) none closed = at_code (is_code a c d) none
      where
        at_code : (t : Bool) → cond {A = Option (ℕ × List ℕ)} t (Some (coded a c d, cs)) (Some (escaped a, c ∷ d ∷ cs)) ≡ None → ⊥
        at_code true e = cc
        at_code false e = cc

    at_quote : (t u : Bool)
        → (b == 34) ≡ t
        → (b == 92) ≡ u
        → cond {A = Option (ℕ × List ℕ)} t None (cond u (first_unescaped bs) (Some (b, bs))) ≡ None
        → Fine (b ∷ bs) tail
    at_quote true u is_quote is_slash none' =
        let same : b ≡ 34 = eqb-true b 34 is_quote in
        let ends = behind-quote bs tail (subst (λ (w : ℕ). behind_string (w ∷ bs) ≡ Some tail) same closed) in
        record {
          inside = 34 ∷ [];
          whole = ap (λ (w : ℕ). w ∷ bs) same ∙ ap (λ (w : List ℕ). 34 ∷ w) ends;
          good = closing;
        }
    at_quote false true is_quote is_slash none' =
        let same : b ≡ 92 = eqb-true b 92 is_slash in
        absurd (at_slash bs none' (subst (λ (w : ℕ). behind_string (w ∷ bs) ≡ Some tail) same closed))
    at_quote false false is_quote is_slash none' = cc

-- ---- values

behind_backslash-is : (bs : List ℕ) (v : ℕ) (rest : List ℕ) → first_unescaped bs ≡ Some (v, rest) → behind_backslash bs ≡ v ∷ unescaped rest
behind_backslash-is [] v rest e = cc
behind_backslash-is (a ∷ []) v rest e =
    let p = some_pair (escaped a) v [] rest e in
    rw (← p.0, ← p.1) refl
behind_backslash-is (a ∷ b ∷ []) v rest e =
    let p = some_pair (escaped a) v (b ∷ []) rest e in
    rw (← p.0, ← p.1) refl
behind_backslash-is (a ∷ b ∷ c ∷ bs) v rest e = at_code (is_code a b c) e
  where
    at_code : (t : Bool)
        → cond {A = Option (ℕ × List ℕ)} t (Some (coded a b c, bs)) (Some (escaped a, b ∷ c ∷ bs)) ≡ Some (v, rest)
        → cond t (coded a b c ∷ unescaped bs) (escaped a ∷ unescaped (b ∷ c ∷ bs)) ≡ v ∷ unescaped rest
    at_code true found =
        let p = some_pair (coded a b c) v bs rest found in
        rw (← p.0, ← p.1) refl
    at_code false found =
        let p = some_pair (escaped a) v (b ∷ c ∷ bs) rest found in
        rw (← p.0, ← p.1) refl

pub unescaped-on : (bs : List ℕ) (v : ℕ) (rest : List ℕ) → next_byte bs ≡ Some (v, rest) → unescaped bs ≡ v ∷ unescaped rest
unescaped-on [] v rest e = cc
unescaped-on (b ∷ bs) v rest e = at_quote (b == 34) (b == 92) e
  where
    at_quote : (t u : Bool)
        → cond {A = Option (ℕ × List ℕ)} t None (cond u (first_unescaped bs) (Some (b, bs))) ≡ Some (v, rest)
        → cond t [] (cond u (behind_backslash bs) (b ∷ unescaped bs)) ≡ v ∷ unescaped rest
    at_quote true u found = cc
    at_quote false true found = behind_backslash-is bs v rest found
    at_quote false false found =
        let p = some_pair b v bs rest found in
        rw (← p.0, ← p.1) refl

first_unescaped-none : (bs : List ℕ) → first_unescaped bs ≡ None → behind_backslash bs ≡ []
first_unescaped-none [] e = refl
first_unescaped-none (a ∷ []) e = cc
first_unescaped-none (a ∷ b ∷ []) e = cc
first_unescaped-none (a ∷ b ∷ c ∷ bs) e = at_code (is_code a b c) e
  where
    at_code : (t : Bool)
        → cond {A = Option (ℕ × List ℕ)} t (Some (coded a b c, bs)) (Some (escaped a, b ∷ c ∷ bs)) ≡ None
        → cond t (coded a b c ∷ unescaped bs) (escaped a ∷ unescaped (b ∷ c ∷ bs)) ≡ []
    at_code true found = cc
    at_code false found = cc

pub unescaped-end : (bs : List ℕ) → next_byte bs ≡ None → unescaped bs ≡ []
unescaped-end [] e = refl
unescaped-end (b ∷ bs) e = at_quote (b == 34) (b == 92) e
  where
    at_quote : (t u : Bool)
        → cond {A = Option (ℕ × List ℕ)} t None (cond u (first_unescaped bs) (Some (b, bs))) ≡ None
        → cond t [] (cond u (behind_backslash bs) (b ∷ unescaped bs)) ≡ []
    at_quote true u found = refl
    at_quote false true found = first_unescaped-none bs found
    at_quote false false found = cc
