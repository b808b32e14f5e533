-- Strings: their escapes, and the bytes that they stand for.
--
-- Every three digits up to 255 after a backslash are a code. In a closed string the fault is at the first
-- backslash that begins no escape.
use Rattle.std.specs.Prelude.{◌≡◌, ℕ, ◌+◌, ◌-◌, ◌*◌, Bool, true, cond, ◌&&◌, ◌==◌, nat_le, List, [], ◌∷◌, ◌++◌, length, Contains}
use Rattle.std.specs.Char.{is_ascii_digit}
use Rattle.cmm_lex.specs.Enclosed.{BeginsWith}

-- ---- escapes

-- what may be after a backslash: `\`, `"`, `n`, `t`, `r`, `b`
abbrev pub letters : List ℕ
letters = 92 ∷ 34 ∷ 110 ∷ 116 ∷ 114 ∷ 98 ∷ []

-- the number of three decimal digits
abbrev pub coded : ℕ → ℕ → ℕ → ℕ
coded a b c = 100 * (a - 48) + 10 * (b - 48) + (c - 48)

-- three decimal digits up to 255
abbrev pub is_code : ℕ → ℕ → ℕ → Bool
is_code a b c = (is_ascii_digit a && is_ascii_digit b) && (is_ascii_digit c && nat_le (coded a b c) 255)

-- A backslash with a letter or with a code.
pub data IsEscape : List ℕ → Type 0 where
  letter : (b : ℕ) → Contains letters b → IsEscape (92 ∷ b ∷ [])
  code : (a b c : ℕ) → is_code a b c ≡ true → IsEscape (92 ∷ a ∷ b ∷ c ∷ [])

-- The bytes of a string after its opening quote: plain bytes and escapes, and the closing quote.
pub data IsInside : List ℕ → Type 0 where
  closing : IsInside (34 ∷ [])
  plain : (b : ℕ) (bytes : List ℕ) → (b ≡ 34 → ⊥) → (b ≡ 92 → ⊥) → IsInside bytes → IsInside (b ∷ bytes)
  escape : (e bytes : List ℕ) → IsEscape e → IsInside bytes → IsInside (e ++ bytes)

-- a string with its quotes
abbrev pub IsString : List ℕ → Type 0
IsString text = (inside : List ℕ) × (text ≡ 34 ∷ inside) × IsInside inside

-- After so many of the bytes after an opening quote comes the first backslash that begins no escape.
pub data BadEscape : ℕ → List ℕ → Type 0 where
  here : (bytes : List ℕ) → ((e : List ℕ) → IsEscape e → BeginsWith (92 ∷ bytes) e → ⊥) → BadEscape 0 (92 ∷ bytes)
  past_plain : (n b : ℕ) (bytes : List ℕ) → (b ≡ 34 → ⊥) → (b ≡ 92 → ⊥) → BadEscape n bytes → BadEscape (n + 1) (b ∷ bytes)
  past_escape : (n : ℕ) (e bytes : List ℕ) → IsEscape e → BadEscape n bytes → BadEscape (n + length e) (e ++ bytes)

-- ---- values

-- the byte of a letter after a backslash: `\n`, `\t`, `\r` and `\b`; the other two stand for themselves
abbrev pub escaped : ℕ → ℕ
escaped b = cond (b == 110) 10 (cond (b == 116) 9 (cond (b == 114) 13 (cond (b == 98) 8 b)))

abbrev mutual
  -- the bytes of a string from here to its closing quote, each escape replaced
  pub unescaped : List ℕ → List ℕ
  unescaped [] = []
  unescaped (b ∷ bs) = cond (b == 34) [] (cond (b == 92) (behind_backslash bs) (b ∷ unescaped bs))

  pub behind_backslash : List ℕ → List ℕ
  behind_backslash (a ∷ b ∷ c ∷ bs) =
      cond (is_code a b c) (coded a b c ∷ unescaped bs) (escaped a ∷ unescaped (b ∷ c ∷ bs))
  behind_backslash (a ∷ bs) = escaped a ∷ unescaped bs
  behind_backslash [] = []

-- The bytes that the text of a string stands for: those between its quotes, each escape replaced.
abbrev pub string_bytes : List ℕ → List ℕ
string_bytes [] = []
string_bytes (b ∷ bs) = unescaped bs
