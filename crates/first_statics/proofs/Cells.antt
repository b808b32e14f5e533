-- The cells of bytes of static data: how many there are, what they hold, and that the word of each fits its bytes.
use Rattle.std.proofs.Common.{◌≡◌, ℕ, zero, suc, ◌+◌, ◌-◌, ◌*◌, ◌%◌, ◌^◌, ◌<◌, ◌≤◌, List, [], ◌∷◌, ◌++◌, length, map, Some, refl, ap, ◌∙◌, sym, subst, ⊎_elim, length-append, arith}
use Rattle.std.specs.Prelude.{slice_get, slice_index, slice_index_or}
use Rattle.std.specs.List.{AllByRecursion}
use Rattle.std.proofs.lemmas.Bool.{cases_lt}
use Rattle.std.proofs.lemmas.Nat.{pow-add}
use Rattle.std.proofs.lemmas.Option.{slice_get_within}
use Rattle.bs_words.specs.declared.values.Value.{Value}
use Rattle.bs_words.specs.declared.values.Value.TheVariants.{Word, Block, Function}
use Rattle.cmm_data.specs.Contents.{DataByte, Plain, OfFunction, byte_number, word_of_bytes, cell_of, cells_of}
use Rattle.rv_layout_rules.specs.Laid.{address_of_place, address_of_value}
use Rattle.lin_machine.proofs.Growing.{get_front}
use Rattle.first_statics.proofs.Bytes.{WordsFit, power_rises}

-- ---- bytes

-- a byte, and a byte of the address of a function that is there
abbrev pub IsDataByte : ℕ → DataByte → Type 0
IsDataByte count (Plain b) = b < 256
IsDataByte count (OfFunction f) = f < count

-- Where a cell begins with a function's byte, its eight bytes are there.
pub record AreWhole (offset : ℕ) (bs : List DataByte) : Type 0 where
  pub each : (i f : ℕ) → (offset + i) % 8 ≡ 0 → slice_get bs i ≡ Some (OfFunction f) → i + 8 ≤ length bs

right_get : {A : Type 0} (xs ys : List A) (i : ℕ) → slice_get (xs ++ ys) (length xs + i) ≡ slice_get ys i
right_get [] ys i = let e : 0 + i ≡ i = omega arith in ap (slice_get ys) e
right_get (x ∷ xs) ys i = let e : length (x ∷ xs) + i ≡ suc (length xs + i) = omega arith in ap (slice_get (x ∷ (xs ++ ys))) e ∙ right_get xs ys i

pub whole_both : (offset : ℕ) (xs ys : List DataByte) → AreWhole offset xs → AreWhole (offset + length xs) ys → AreWhole offset (xs ++ ys)
whole_both offset xs ys p q = record { each = each }
  where
    each : (i f : ℕ) → (offset + i) % 8 ≡ 0 → slice_get (xs ++ ys) i ≡ Some (OfFunction f) → i + 8 ≤ length (xs ++ ys)
    each i f even is = ⊎_elim first second (cases_lt i (length xs))
      where
        first : i < length xs → i + 8 ≤ length (xs ++ ys)
        first lt = let own = p.each i f even (sym (get_front xs ys i lt) ∙ is) in omega (arith, own, length-append xs ys)

        second : length xs ≤ i → i + 8 ≤ length (xs ++ ys)
        second le =
            let j = i - length xs in
            let split : i ≡ length xs + j = omega (arith, le) in
            let own = q.each j f (let e : offset + length xs + j ≡ offset + i = omega (arith, split) in ap (λ n. n % 8) e ∙ even)
            (sym (right_get xs ys j) ∙ ap (slice_get (xs ++ ys)) (sym split) ∙ is) in
            omega (arith, own, split, length-append xs ys)

whole_cell : (bs : List DataByte) → length bs ≡ 8 → AreWhole 0 bs
whole_cell bs eight = record { each = λ i f even is. let within = slice_get_within bs i (OfFunction f) is in omega (arith, eight, even, within) }

pub whole_behind : (xs ys : List DataByte) → length xs ≡ 8 → AreWhole 0 (xs ++ ys) → AreWhole 0 ys
whole_behind xs ys eight p =
    record {
      each = λ i f even is.
          let own = p.each (length xs + i) f (omega (arith, eight, even)) (right_get xs ys i ∙ is) in
          omega (arith, own, length-append xs ys);
    }

-- ---- one cell

-- what a cell holds
abbrev pub IsCell : ℕ → Value → Type 0
IsCell count (Word w) = w < 2 ^ 64
IsCell count (Function f) = f < count
IsCell count (Block serial offset) = ⊥

byte_below : (count : ℕ) (b : DataByte) → IsDataByte count b → byte_number b < 256
byte_below count (Plain b) h = h
byte_below count (OfFunction f) h = omega arith

word_below : (count : ℕ) (bs : List DataByte) → AllByRecursion (IsDataByte count) bs → word_of_bytes bs < 2 ^ (8 * length bs)
word_below count [] p = omega arith
word_below count (b ∷ bs) p =
    let few = byte_below count b p.0 in
    let w : ℕ = word_of_bytes bs in
    let n : ℕ = length bs in
    let less : w < 2 ^ (8 * n) = word_below count bs p.1 in
    let next : 2 ^ (8 + 8 * n) ≡ 2 ^ 8 * 2 ^ (8 * n) = pow-add 2 8 (8 * n) in
    let same : 8 + 8 * n ≡ 8 * suc n = omega arith in
    let m : ℕ = 2 ^ (8 * n) in
    subst (λ k. byte_number b + 256 * w < 2 ^ k) same (subst (λ k. byte_number b + 256 * w < k) (sym next) (let r : byte_number b + 256 * w < 256 * m = omega (arith, few, less) in r))

cell_is : (count : ℕ) (bs : List DataByte) → length bs ≤ 8 → AllByRecursion (IsDataByte count) bs → IsCell count (cell_of bs)
cell_is count [] le p = omega arith
cell_is count (OfFunction f ∷ bs) le p = p.0
cell_is count (Plain b ∷ bs) le p =
    let below = word_below count (Plain b ∷ bs) p in
    omega (arith, below, power_rises (length (Plain b ∷ bs)) 8 le)

module _ (entries : List ℕ) (count : ℕ) (low : (f : ℕ) → address_of_place (slice_index entries f) < 2 ^ 64) where
  -- the word of a value in the image
  abbrev pub word_in : Value → ℕ
  word_in v = address_of_value entries (Some v)

  cell_small : (v : Value) → IsCell count v → word_in v < 2 ^ 64
  cell_small (Word w) h = h
  cell_small (Function f) h = low f
  cell_small (Block serial offset) h = absurd h

  cell_fits : (bs : List DataByte) → length bs ≤ 8 → AllByRecursion (IsDataByte count) bs → AreWhole 0 bs → word_in (cell_of bs) < 2 ^ (8 * length bs)
  cell_fits [] le p whole = omega arith
  cell_fits (OfFunction f ∷ bs) le p whole =
      let long = whole.each 0 f (omega arith) refl in
      let small = low f in
      omega (arith, small, power_rises 8 (length (OfFunction f ∷ bs)) (omega (arith, long)))
  cell_fits (Plain b ∷ bs) le p whole = word_below count (Plain b ∷ bs) p

  last_fits : (bs : List DataByte) → length bs ≤ 8 → AllByRecursion (IsDataByte count) bs → AreWhole 0 bs → WordsFit (length bs) (word_in (cell_of bs) ∷ [])
  last_fits bs le p whole = (cell_small (cell_of bs) (cell_is count bs le p), cell_fits bs le p whole, tt)

  -- The words of the cells of bytes fit the bytes.
  pub cells_fit : (bs : List DataByte) → AllByRecursion (IsDataByte count) bs → AreWhole 0 bs → WordsFit (length bs) (map word_in (cells_of bs))
  cells_fit [] p whole = tt
  cells_fit (a ∷ []) p whole = last_fits (a ∷ []) (omega arith) p whole
  cells_fit (a ∷ b ∷ []) p whole = last_fits (a ∷ b ∷ []) (omega arith) p whole
  cells_fit (a ∷ b ∷ c ∷ []) p whole = last_fits (a ∷ b ∷ c ∷ []) (omega arith) p whole
  cells_fit (a ∷ b ∷ c ∷ d ∷ []) p whole = last_fits (a ∷ b ∷ c ∷ d ∷ []) (omega arith) p whole
  cells_fit (a ∷ b ∷ c ∷ d ∷ e ∷ []) p whole = last_fits (a ∷ b ∷ c ∷ d ∷ e ∷ []) (omega arith) p whole
  cells_fit (a ∷ b ∷ c ∷ d ∷ e ∷ f ∷ []) p whole = last_fits (a ∷ b ∷ c ∷ d ∷ e ∷ f ∷ []) (omega arith) p whole
  cells_fit (a ∷ b ∷ c ∷ d ∷ e ∷ f ∷ g ∷ []) p whole = last_fits (a ∷ b ∷ c ∷ d ∷ e ∷ f ∷ g ∷ []) (omega arith) p whole
  cells_fit (a ∷ b ∷ c ∷ d ∷ e ∷ f ∷ g ∷ h ∷ rest) p whole =
      let cell : List DataByte = a ∷ b ∷ c ∷ d ∷ e ∷ f ∷ g ∷ h ∷ [] in
      let own = last_fits cell (omega arith) (p.0, (p.1.0, (p.1.1.0, (p.1.1.1.0, (p.1.1.1.1.0, (p.1.1.1.1.1.0, (p.1.1.1.1.1.1.0, (p.1.1.1.1.1.1.1.0, tt)))))))) (whole_cell cell refl) in
      let later = cells_fit rest p.1.1.1.1.1.1.1.1 (whole_behind cell rest refl whole) in
      let n : ℕ = length (a ∷ b ∷ c ∷ d ∷ e ∷ f ∷ g ∷ h ∷ rest) in
      let small = own.1 in
      (own.0, omega (arith, small, power_rises 8 n (omega arith)), subst (λ k. WordsFit k (map word_in (cells_of rest))) (omega arith) later)

-- ---- all cells

-- What the cells of bytes hold.
pub cells_are : (count : ℕ) (bs : List DataByte) → AllByRecursion (IsDataByte count) bs → AllByRecursion (IsCell count) (cells_of bs)
cells_are count [] p = tt
cells_are count (a ∷ []) p = (cell_is count (a ∷ []) (omega arith) p, tt)
cells_are count (a ∷ b ∷ []) p = (cell_is count (a ∷ b ∷ []) (omega arith) p, tt)
cells_are count (a ∷ b ∷ c ∷ []) p = (cell_is count (a ∷ b ∷ c ∷ []) (omega arith) p, tt)
cells_are count (a ∷ b ∷ c ∷ d ∷ []) p = (cell_is count (a ∷ b ∷ c ∷ d ∷ []) (omega arith) p, tt)
cells_are count (a ∷ b ∷ c ∷ d ∷ e ∷ []) p = (cell_is count (a ∷ b ∷ c ∷ d ∷ e ∷ []) (omega arith) p, tt)
cells_are count (a ∷ b ∷ c ∷ d ∷ e ∷ f ∷ []) p = (cell_is count (a ∷ b ∷ c ∷ d ∷ e ∷ f ∷ []) (omega arith) p, tt)
cells_are count (a ∷ b ∷ c ∷ d ∷ e ∷ f ∷ g ∷ []) p = (cell_is count (a ∷ b ∷ c ∷ d ∷ e ∷ f ∷ g ∷ []) (omega arith) p, tt)
cells_are count (a ∷ b ∷ c ∷ d ∷ e ∷ f ∷ g ∷ h ∷ rest) p =
    (cell_is count (a ∷ b ∷ c ∷ d ∷ e ∷ f ∷ g ∷ h ∷ []) (omega arith) (p.0, (p.1.0, (p.1.1.0, (p.1.1.1.0, (p.1.1.1.1.0, (p.1.1.1.1.1.0, (p.1.1.1.1.1.1.0, (p.1.1.1.1.1.1.1.0, tt)))))))), cells_are count rest p.1.1.1.1.1.1.1.1)

-- The cell after so many whole ones.
pub cell_at : (j : ℕ) (before eight after : List DataByte) → length before ≡ 8 * j → length eight ≡ 8 →
    slice_index_or (cells_of (before ++ (eight ++ after))) j (Word 0) ≡ cell_of eight
cell_at zero [] ([]) after few long = absurd (omega (arith, long))
cell_at zero [] (a ∷ []) after few long = absurd (omega (arith, long))
cell_at zero [] (a ∷ b ∷ []) after few long = absurd (omega (arith, long))
cell_at zero [] (a ∷ b ∷ c ∷ []) after few long = absurd (omega (arith, long))
cell_at zero [] (a ∷ b ∷ c ∷ d ∷ []) after few long = absurd (omega (arith, long))
cell_at zero [] (a ∷ b ∷ c ∷ d ∷ e ∷ []) after few long = absurd (omega (arith, long))
cell_at zero [] (a ∷ b ∷ c ∷ d ∷ e ∷ f ∷ []) after few long = absurd (omega (arith, long))
cell_at zero [] (a ∷ b ∷ c ∷ d ∷ e ∷ f ∷ g ∷ []) after few long = absurd (omega (arith, long))
cell_at zero [] (a ∷ b ∷ c ∷ d ∷ e ∷ f ∷ g ∷ h ∷ []) after few long = refl
cell_at zero [] (a ∷ b ∷ c ∷ d ∷ e ∷ f ∷ g ∷ h ∷ i ∷ more) after few long = absurd (omega (arith, long))
cell_at zero (a ∷ before) eight after few long = absurd (omega (arith, few))
cell_at (suc j) ([]) eight after few long = absurd (omega (arith, few))
cell_at (suc j) (a ∷ []) eight after few long = absurd (omega (arith, few))
cell_at (suc j) (a ∷ b ∷ []) eight after few long = absurd (omega (arith, few))
cell_at (suc j) (a ∷ b ∷ c ∷ []) eight after few long = absurd (omega (arith, few))
cell_at (suc j) (a ∷ b ∷ c ∷ d ∷ []) eight after few long = absurd (omega (arith, few))
cell_at (suc j) (a ∷ b ∷ c ∷ d ∷ e ∷ []) eight after few long = absurd (omega (arith, few))
cell_at (suc j) (a ∷ b ∷ c ∷ d ∷ e ∷ f ∷ []) eight after few long = absurd (omega (arith, few))
cell_at (suc j) (a ∷ b ∷ c ∷ d ∷ e ∷ f ∷ g ∷ []) eight after few long = absurd (omega (arith, few))
cell_at (suc j) (a ∷ b ∷ c ∷ d ∷ e ∷ f ∷ g ∷ h ∷ before) eight after few long = cell_at j before eight after (omega (arith, few)) long
