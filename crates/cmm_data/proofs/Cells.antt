-- Bytes as they come, and the cells that they fill.
use Rattle.std.proofs.Common.{◌≡◌, ◌∙◌, ℕ, suc, ◌+◌, ◌-◌, ◌/◌, ◌%◌, ◌<◌, ◌≤◌, List, [], ◌∷◌, ◌++◌, map, length, get_or, append_assoc, append-nil, length-append, refl, ap, sym, subst, arith}
use Rattle.std.specs.Int.{w64, from_le_bytes}
use Rattle.bs_words.specs.declared.values.Value.{Value}
use Rattle.bs_words.specs.declared.values.Value.TheVariants.{Word}
use Rattle.cmm_data.specs.Contents.{DataByte, Plain, little_endian, zeros, word_of_bytes, cells_of}
use Rattle.cmm_data.specs.Filling.{cells_with, pending_bytes, Puts}
use Rattle.cmm_data.specs.declared.filling.Filling.{Filling}

pub word_of_bytes-word : (xs : List ℕ) → length xs ≤ 8 →
    from_le_bytes w64 (get_or xs 0 0 ∷ get_or xs 1 0 ∷ get_or xs 2 0 ∷ get_or xs 3 0 ∷ get_or xs 4 0 ∷ get_or xs 5 0 ∷ get_or xs 6 0 ∷ get_or xs 7 0 ∷ [])
    ≡ word_of_bytes (map Plain xs)
word_of_bytes-word [] h = omega arith
word_of_bytes-word (a ∷ []) h = omega arith
word_of_bytes-word (a ∷ b ∷ []) h = omega arith
word_of_bytes-word (a ∷ b ∷ c ∷ []) h = omega arith
word_of_bytes-word (a ∷ b ∷ c ∷ d ∷ []) h = omega arith
word_of_bytes-word (a ∷ b ∷ c ∷ d ∷ e ∷ []) h = omega arith
word_of_bytes-word (a ∷ b ∷ c ∷ d ∷ e ∷ f ∷ []) h = omega arith
word_of_bytes-word (a ∷ b ∷ c ∷ d ∷ e ∷ f ∷ g ∷ []) h = omega arith
word_of_bytes-word (a ∷ b ∷ c ∷ d ∷ e ∷ f ∷ g ∷ i ∷ []) h = omega arith
word_of_bytes-word (a ∷ b ∷ c ∷ d ∷ e ∷ f ∷ g ∷ i ∷ j ∷ xs) h = absurd (omega arith)

-- eight bytes are a cell
pub cells_of-whole : (xs : List ℕ) (rest : List DataByte) → length xs ≡ 8 →
    cells_of (map Plain xs ++ rest) ≡ Word (word_of_bytes (map Plain xs)) ∷ cells_of rest
cells_of-whole [] rest h = absurd (omega arith)
cells_of-whole (a ∷ []) rest h = absurd (omega arith)
cells_of-whole (a ∷ b ∷ []) rest h = absurd (omega arith)
cells_of-whole (a ∷ b ∷ c ∷ []) rest h = absurd (omega arith)
cells_of-whole (a ∷ b ∷ c ∷ d ∷ []) rest h = absurd (omega arith)
cells_of-whole (a ∷ b ∷ c ∷ d ∷ e ∷ []) rest h = absurd (omega arith)
cells_of-whole (a ∷ b ∷ c ∷ d ∷ e ∷ f ∷ []) rest h = absurd (omega arith)
cells_of-whole (a ∷ b ∷ c ∷ d ∷ e ∷ f ∷ g ∷ []) rest h = absurd (omega arith)
cells_of-whole (a ∷ b ∷ c ∷ d ∷ e ∷ f ∷ g ∷ i ∷ []) rest h = refl
cells_of-whole (a ∷ b ∷ c ∷ d ∷ e ∷ f ∷ g ∷ i ∷ j ∷ xs) rest h = absurd (omega arith)

-- fewer are one too, at the end
pub cells_of-last : (xs : List ℕ) → 0 < length xs → length xs < 8 →
    cells_of (map Plain xs ++ []) ≡ Word (word_of_bytes (map Plain xs)) ∷ []
cells_of-last [] h less = absurd (omega arith)
cells_of-last (a ∷ []) h less = refl
cells_of-last (a ∷ b ∷ []) h less = refl
cells_of-last (a ∷ b ∷ c ∷ []) h less = refl
cells_of-last (a ∷ b ∷ c ∷ d ∷ []) h less = refl
cells_of-last (a ∷ b ∷ c ∷ d ∷ e ∷ []) h less = refl
cells_of-last (a ∷ b ∷ c ∷ d ∷ e ∷ f ∷ []) h less = refl
cells_of-last (a ∷ b ∷ c ∷ d ∷ e ∷ f ∷ g ∷ []) h less = refl
cells_of-last (a ∷ b ∷ c ∷ d ∷ e ∷ f ∷ g ∷ i ∷ xs) h less = absurd (omega arith)

-- one byte more
pub pending-more : (xs : List ℕ) (byte : ℕ) (rest : List DataByte) →
    map Plain (xs ++ byte ∷ []) ++ rest ≡ map Plain xs ++ (Plain byte ∷ rest)
pending-more [] byte rest = refl
pending-more (x ∷ xs) byte rest = ap (λ (v : List DataByte). Plain x ∷ v) (pending-more xs byte rest)

-- ---- bytes after bytes

pub puts-none : (filling : Filling) → pending_bytes filling < 8 → Puts filling filling []
puts-none filling h =
    record {
      small = h;
      count = omega arith;
      cells = λ rest. refl;
    }

pub puts-join : (a b c : Filling) (xs ys : List DataByte) → Puts a b xs → Puts b c ys → Puts a c (xs ++ ys)
puts-join a b c xs ys first later =
    record {
      small = later.small;
      count = omega (arith, length-append xs ys, first.count, later.count);
      cells = λ rest.
          later.cells rest ∙ first.cells (ys ++ rest)
          ∙ ap (cells_with a) (sym (append_assoc xs ys rest));
    }

pub zeros-next : (count index : ℕ) → index < count → zeros (count - index) ≡ Plain 0 ∷ zeros (count - (index + 1))
zeros-next count index h = let e : count - index ≡ suc (count - (index + 1)) = omega arith in ap zeros e

pub little_endian-next : (count index word : ℕ) → index < count →
    little_endian (count - index) word ≡ Plain (word % 256) ∷ little_endian (count - (index + 1)) (word / 256)
little_endian-next count index word h =
    let e : count - index ≡ suc (count - (index + 1)) = omega arith in ap (λ n. little_endian n word) e

-- ---- what the calls do

-- a byte that fills its cell
pub filled : (cells after : List Value) (before whole none : List ℕ) (byte word : ℕ) (rest : List DataByte) →
    whole ≡ before ++ byte ∷ [] → length whole ≡ 8 → word ≡ word_of_bytes (map Plain whole) →
    after ≡ cells ++ Word word ∷ [] → none ≡ [] →
    after ++ cells_of (map Plain none ++ rest) ≡ cells ++ cells_of (map Plain before ++ (Plain byte ∷ rest))
filled cells after before whole none byte word rest is eight value pushed cleared =
    ap (λ (v : List ℕ). after ++ cells_of (map Plain v ++ rest)) cleared
    ∙ ap (λ (v : List Value). v ++ cells_of rest) pushed
    ∙ append_assoc cells (Word word ∷ []) (cells_of rest)
    ∙ ap (λ w. cells ++ (Word w ∷ cells_of rest)) value
    ∙ ap (λ (v : List Value). cells ++ v) (sym (cells_of-whole whole rest eight))
    ∙ ap (λ (v : List ℕ). cells ++ cells_of (map Plain v ++ rest)) is
    ∙ ap (λ (v : List DataByte). cells ++ cells_of v) (pending-more before byte rest)

-- the last cell, which is not whole
pub ended : (cells after : List Value) (left : List ℕ) (word : ℕ) →
    0 < length left → length left < 8 → word ≡ word_of_bytes (map Plain left) → after ≡ cells ++ Word word ∷ [] →
    after ≡ cells ++ cells_of (map Plain left ++ [])
ended cells after left word some less value pushed =
    pushed
    ∙ ap (λ w. cells ++ (Word w ∷ [])) value
    ∙ ap (λ (v : List Value). cells ++ v) (sym (cells_of-last left some less))

pub ended-whole : (cells : List Value) (left : List ℕ) → length left ≤ 0 → cells ≡ cells ++ cells_of (map Plain left ++ [])
ended-whole cells [] none = sym (append-nil cells)
ended-whole cells (x ∷ left) none = absurd (omega arith)

-- one byte, and the others
pub puts-step : (a b c : Filling) (byte : DataByte) (rest whole : List DataByte) →
    Puts a b (byte ∷ []) → Puts b c rest → whole ≡ byte ∷ rest → Puts a c whole
puts-step a b c byte rest whole first later is =
    let joined : Puts a c (byte ∷ rest) = puts-join a b c (byte ∷ []) rest first later in
    subst (λ (v : List DataByte). Puts a c v) (sym is) joined
