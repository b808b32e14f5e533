-- Looking words up in a table, and those that have the length of a text.
use Rattle.std.proofs.Common.{◌≡◌, ℕ, ◌==◌, Bool, true, false, cond, List, [], ◌∷◌, Some, bytes_eq, find, option_map, length, ◌≤◌, ◌||◌, ◌&&◌, inl, inr, nat_le, None, refl, sym, ap, ◌∙◌}
use Rattle.std.specs.List.{list_all}
use Rattle.std.proofs.lemmas.Bool.{false_from_ne_true, eqb-false, eqb-true, leb-true, and_parts, or_cases}
use Rattle.std.proofs.lemmas.Slice.Eq.{bytes_eq-Decides}
use Rattle.cmm_lex.specs.declared.token.TokenKind.{TokenKind}
use Rattle.cmm_lex.specs.Scanning.{find_spelled, keyword_table}

-- what is found: the first entry's kind, or what the others give
pub found-cond : (t : Bool) (entry : List ℕ × TokenKind) (entries : List (List ℕ × TokenKind)) (text : List ℕ)
    → option_map (λ (e : List ℕ × TokenKind). e.1) (cond t (Some entry) (find (λ (e : List ℕ × TokenKind). bytes_eq e.0 text) entries))
    ≡ cond t (Some entry.1) (find_spelled entries text)
found-cond true entry entries text = refl
found-cond false entry entries text = refl

-- the entries whose words have this length
abbrev pub of_length : ℕ → List (List ℕ × TokenKind) → List (List ℕ × TokenKind)
of_length n [] = []
of_length n (entry ∷ entries) = cond (length entry.0 == n) (entry ∷ of_length n entries) (of_length n entries)

-- a text of this length is found among them, if at all
pub find-of-length : (n : ℕ) (table : List (List ℕ × TokenKind)) (text : List ℕ)
    → length text ≡ n
    → find_spelled table text ≡ find_spelled (of_length n table) text
find-of-length n [] text long = refl
find-of-length n (entry ∷ entries) text long = at_length (length entry.0 == n) refl (find-of-length n entries text long)
  where
    at_length : (t : Bool)
        → (length entry.0 == n) ≡ t
        → find_spelled entries text ≡ find_spelled (of_length n entries) text
        → find_spelled (entry ∷ entries) text
        ≡ find_spelled (cond t (entry ∷ of_length n entries) (of_length n entries)) text
    at_length true e later =
        found-cond (bytes_eq entry.0 text) entry entries text
        ∙ ap (cond (bytes_eq entry.0 text) (Some entry.1)) later
        ∙ sym (found-cond (bytes_eq entry.0 text) entry (of_length n entries) text)
    at_length false e later =
        let other : bytes_eq entry.0 text ≡ false =
        false_from_ne_true (bytes_eq entry.0 text)
        (λ same. eqb-false (length entry.0) n e (ap length ((bytes_eq-Decides entry.0 text).0 same) ∙ long)) in
        rw other later

-- the lengths of the keywords
abbrev is_keyword_length : ℕ → Bool
is_keyword_length n = (nat_le 2 n && nat_le n 10) || (n == 13)

-- a text of another length is no word of a table of such words
none-among : (table : List (List ℕ × TokenKind)) (text : List ℕ)
    → list_all (λ (entry : List ℕ × TokenKind). is_keyword_length (length entry.0)) table ≡ true
    → (is_keyword_length (length text) ≡ true → ⊥)
    → find_spelled table text ≡ None
none-among [] text all other = refl
none-among (entry ∷ entries) text all other =
    let parts = and_parts _ _ all in
    let unlike : bytes_eq entry.0 text ≡ false =
    false_from_ne_true (bytes_eq entry.0 text)
    (λ same. other (ap (λ (w : List ℕ). is_keyword_length (length w)) (sym ((bytes_eq-Decides entry.0 text).0 same)) ∙ parts.0)) in
    rw unlike (none-among entries text parts.1 other)

-- a text of another length is no keyword
pub none-of-length : (text : List ℕ)
    → (2 ≤ length text → length text ≤ 10 → ⊥)
    → (length text ≡ 13 → ⊥)
    → find_spelled keyword_table text ≡ None
none-of-length text short longest =
    none-among keyword_table text refl
    (λ e. elim (or_cases _ _ e) [
      | inl within ↦ let ends = and_parts _ _ within in short (leb-true 2 (length text) ends.0) (leb-true (length text) 10 ends.1)
      | inr long ↦ longest (eqb-true (length text) 13 long)
    ])
