-- Regular forms: how a token may be spelled.
--
-- Forms have a relation of their own, and the longest match is a statement about all of them: no token of
-- any kind at this place is longer. So `(+a x)` has the operator `+a`, and `(+ 3e)` the tokens `3` and `e`.
use Rattle.std.specs.Prelude.{◌≡◌, ℕ, ◌≤◌, List, [], ◌∷◌, ◌++◌, ◌⊎◌}

-- A regular form of lists of bytes.
pub data Form : Type 0 where
  -- no list
  Nothing : Form
  -- the empty list
  Empty : Form
  -- one byte of this range
  Between : (low high : ℕ) → Form
  -- one form, and then another
  Then : (first second : Form) → Form
  -- one form or another
  Either : (first second : Form) → Form
  -- a form any number of times
  Many : (form : Form) → Form

-- lists that follow one another, each with the property
pub data Repeats (P : List ℕ → Type 0) : List ℕ → Type 0 where
  none : Repeats P []
  more : (xs ys : List ℕ) → P xs → Repeats P ys → Repeats P (xs ++ ys)

-- the list has the form
unfoldable pub Matches : Form → List ℕ → Type 0
Matches Nothing xs = ⊥
Matches Empty xs = xs ≡ []
Matches (Between low high) xs = (b : ℕ) × (low ≤ b) × (b ≤ high) × (xs ≡ b ∷ [])
Matches (Then f g) xs = (ys zs : List ℕ) × (xs ≡ ys ++ zs) × Matches f ys × Matches g zs
Matches (Either f g) xs = Matches f xs ⊎ Matches g xs
Matches (Many f) xs = Repeats (Matches f) xs

-- this byte
abbrev pub this : ℕ → Form
this b = Between b b

-- these bytes, in order
abbrev pub spelled : List ℕ → Form
spelled [] = Empty
spelled (b ∷ bs) = Then (this b) (spelled bs)

-- one of these lists
abbrev pub one_of : List (List ℕ) → Form
one_of [] = Nothing
one_of (word ∷ words) = Either (spelled word) (one_of words)

-- a form, or nothing
abbrev pub optional_form : Form → Form
optional_form f = Either Empty f

-- a form once or more
abbrev pub some : Form → Form
some f = Then f (Many f)
