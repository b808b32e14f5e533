-- The loops that change one set.
use Rattle.std.proofs.Common.{◌≡◌, ℕ, ◌+◌, ◌<◌, Bool, true, false, not, ◌||◌, ◌&&◌, List, [], length, take, set, get_or, subst, sym, ◌∙◌, ap, arith, refl}
use Rattle.std.specs.Prelude.{◌==◌}
use Rattle.std.specs.List.{list_any, All}
use Rattle.std.proofs.lemmas.List.{length-set, get_or_default}
use Rattle.std.proofs.lemmas.List.Elements.{All-get_or}
use Rattle.std.proofs.lemmas.List.Folds.{list_any_more}
use Rattle.bs_bits.specs.Set.{has, union}
use Rattle.bs_bits.proofs.Sets.{length-union, has-union, has-inserted, has-removed}
use Rattle.dataflow.specs.Rows.{set_in_row, HasSizes}

-- a set to which others were added
pub record AddsRows (old now : List Bool) (rows : List (List Bool)) (places : List ℕ) : Type 0 where
  pub size : length now ≡ length old
  pub members : (r : ℕ) → has now r ≡ (has old r || list_any (λ q. has (set_in_row rows q) r) places)

-- a set from which numbers were taken
pub record TakesOut (old now : List Bool) (numbers : List ℕ) : Type 0 where
  pub size : length now ≡ length old
  pub members : (r : ℕ) → has now r ≡ (has old r && not (list_any (λ k. k == r) numbers))

-- a set to which numbers were added
pub record PutsIn (old now : List Bool) (numbers : List ℕ) : Type 0 where
  pub size : length now ≡ length old
  pub members : (r : ℕ) → has now r ≡ (has old r || list_any (λ k. k == r) numbers)

or_false : (x : Bool) → x ≡ (x || false)
or_false true = refl
or_false false = refl

and_true : (x : Bool) → x ≡ (x && true)
and_true true = refl
and_true false = refl

or_assoc : (x y z : Bool) → ((x || y) || z) ≡ (x || (y || z))
or_assoc true y z = refl
or_assoc false y z = refl

-- taken out at the one, or at the other
and_not : (x y z : Bool) → ((x && not y) && not z) ≡ (x && not (y || z))
and_not true true z = refl
and_not true false z = refl
and_not false y z = refl

pub adds_none : (old : List Bool) (rows : List (List Bool)) (places : List ℕ) → AddsRows old old rows (take 0 places)
adds_none old rows places = record { size = refl; members = λ r. or_false (has old r) }

pub takes_none : (old : List Bool) (numbers : List ℕ) → TakesOut old old (take 0 numbers)
takes_none old numbers = record { size = refl; members = λ r. and_true (has old r) }

pub puts_none : (old : List Bool) (numbers : List ℕ) → PutsIn old old (take 0 numbers)
puts_none old numbers = record { size = refl; members = λ r. or_false (has old r) }

pub adds_more : (old now now' added : List Bool) (rows : List (List Bool)) (places : List ℕ) (i : ℕ) → i < length places → All (λ q. q < length rows) places → HasSizes (length old) rows → added ≡ get_or rows (get_or places i 0) added → AddsRows old now rows (take i places) → now' ≡ union now added → AddsRows old now' rows (take (i + 1) places)
adds_more old now now' added rows places i within all sizes read a e =
    let there : get_or places i 0 < length rows = All-get_or (λ q. q < length rows) places i 0 within all in
    let P : List Bool → Type 0 = λ set. length set ≡ length old in
    let size : length added ≡ length old = subst P (sym read) (All-get_or P rows (get_or places i 0) added there sizes) in
    let Q : List Bool → Type 0 = λ set. AddsRows old set rows (take (i + 1) places) in
    subst Q (sym e) record {
      size = length-union now added ∙ a.size;
      members = λ r.
          let at : added ≡ set_in_row rows (get_or places i 0) = read ∙ get_or_default rows (get_or places i 0) added [] there in
          has-union now added (a.size ∙ sym size) r ∙ (ap (λ (b : Bool). b || has added r) (a.members r) ∙ (or_assoc (has old r) (list_any (λ q. has (set_in_row rows q) r) (take i places)) (has added r) ∙ (ap (λ (m : List Bool). has old r || (list_any (λ q. has (set_in_row rows q) r) (take i places) || has m r)) at ∙ ap (λ (b : Bool). has old r || b) (sym (list_any_more (λ q. has (set_in_row rows q) r) places i 0 within)))));
    }

pub takes_more : (old now : List Bool) (numbers : List ℕ) (i : ℕ) → i < length numbers → get_or numbers i 0 < length old → TakesOut old now (take i numbers) → TakesOut old (set now (get_or numbers i 0) false) (take (i + 1) numbers)
takes_more old now numbers i within below a = record {
  size = length-set now (get_or numbers i 0) false ∙ a.size;
  members = λ r.
      has-removed now (get_or numbers i 0) r (omega (arith, a.size)) ∙ (ap (λ (b : Bool). b && not (get_or numbers i 0 == r)) (a.members r) ∙ (and_not (has old r) (list_any (λ k. k == r) (take i numbers)) (get_or numbers i 0 == r) ∙ ap (λ (b : Bool). has old r && not b) (sym (list_any_more (λ k. k == r) numbers i 0 within))));
}

pub puts_more : (old now : List Bool) (numbers : List ℕ) (i : ℕ) → i < length numbers → get_or numbers i 0 < length old → PutsIn old now (take i numbers) → PutsIn old (set now (get_or numbers i 0) true) (take (i + 1) numbers)
puts_more old now numbers i within below a = record {
  size = length-set now (get_or numbers i 0) true ∙ a.size;
  members = λ r.
      has-inserted now (get_or numbers i 0) r (omega (arith, a.size)) ∙ (ap (λ (b : Bool). b || (get_or numbers i 0 == r)) (a.members r) ∙ (or_assoc (has old r) (list_any (λ k. k == r) (take i numbers)) (get_or numbers i 0 == r) ∙ ap (λ (b : Bool). has old r || b) (sym (list_any_more (λ k. k == r) numbers i 0 within))));
}
