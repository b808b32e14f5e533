-- What is read from its opening to its end, whatever is between: strings, comments, texts in braces.
use Rattle.std.specs.Prelude.{◌≡◌, ℕ, ◌+◌, List, [], ◌∷◌, ◌++◌}

-- these bytes begin with that front
abbrev pub BeginsWith : List ℕ → List ℕ → Type 0
BeginsWith bytes front = (rest : List ℕ) × (bytes ≡ front ++ rest)

pub data Enclosed : Type 0 where
  AString : Enclosed
  AComment : Enclosed
  Braces : Enclosed

-- what opens it: `"`, `(*` or `{`
abbrev pub opening : Enclosed → List ℕ
opening AString = 34 ∷ []
opening AComment = 40 ∷ 42 ∷ []
opening Braces = 123 ∷ []

-- The bytes of a string after its opening quote, up to the closing one: a backslash takes the byte after
-- it along.
pub data EndsString : List ℕ → Type 0 where
  quote : EndsString (34 ∷ [])
  pair : (b : ℕ) (bytes : List ℕ) → EndsString bytes → EndsString (92 ∷ b ∷ bytes)
  byte : (b : ℕ) (bytes : List ℕ) → (b ≡ 34 → ⊥) → (b ≡ 92 → ⊥) → EndsString bytes → EndsString (b ∷ bytes)

-- The bytes that end so many open comments, up to the end of the outermost. Only `(*` and `*)` count, from
-- left to right.
pub data EndsComments : ℕ → List ℕ → Type 0 where
  all_ended : EndsComments 0 []
  opens : (n : ℕ) (bytes : List ℕ) → EndsComments (n + 2) bytes → EndsComments (n + 1) (40 ∷ 42 ∷ bytes)
  closes : (n : ℕ) (bytes : List ℕ) → EndsComments n bytes → EndsComments (n + 1) (42 ∷ 41 ∷ bytes)
  comment_byte : (n b : ℕ) (bytes : List ℕ)
      → (BeginsWith (b ∷ bytes) (40 ∷ 42 ∷ []) → ⊥)
      → (BeginsWith (b ∷ bytes) (42 ∷ 41 ∷ []) → ⊥)
      → EndsComments (n + 1) bytes
      → EndsComments (n + 1) (b ∷ bytes)

-- The bytes of a text in braces after its `{`, up to the next `}`.
pub data EndsBraces : List ℕ → Type 0 where
  brace : EndsBraces (125 ∷ [])
  brace_byte : (b : ℕ) (bytes : List ℕ) → (b ≡ 125 → ⊥) → EndsBraces bytes → EndsBraces (b ∷ bytes)

-- the bytes after the opening, up to the end
abbrev pub Ends : Enclosed → List ℕ → Type 0
Ends AString inside = EndsString inside
Ends AComment inside = EndsComments 1 inside
Ends Braces inside = EndsBraces inside
