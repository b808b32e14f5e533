-- Sets of registers, each with what it is for: from one number to another, with one register for each number.
use Rattle.std.proofs.Common.{◌≡◌, ℕ, suc, ◌+◌, ◌<◌, ◌≤◌, ◌⊎◌, Bool, true, false, List, [], ◌∷◌, ◌++◌, length, sym, ap, ◌∙◌, subst, arith}
use Rattle.std.specs.Prelude.{Contains}
use Rattle.std.proofs.lemmas.List.{length-append}
use Rattle.std.proofs.lemmas.List.Elements.{Contains-append_right, Contains-append_left}
use Rattle.bs_words.specs.declared.types.Loc.{Loc}
use Rattle.bs_words.specs.declared.types.Loc.TheVariants as loc
use Rattle.cmm_types.proofs.Containing.{contains_head}
use Rattle.mach_ir.specs.Placed.{colour_numbers}
use Rattle.mach_ir.specs.declared.reg.Reg.{Reg}

-- What a register is for: it is open and any code may write it, or it is open and one allocation writes it, or it has
-- a place that the convention fixes.
pub data Role : Type 0 where
  Plain : Role
  New : Role
  Seated : Role

pub record IsColour (l : Loc) : Type 0 where
  pub colour : ℕ
  pub among : Contains colour_numbers colour
  pub is : l ≡ loc.Machine colour

abbrev pub PlaceOf : Role → Loc → Type 0
PlaceOf Plain l = l ≡ loc.Unset
PlaceOf New l = l ≡ loc.Unset
PlaceOf Seated l = (l ≡ loc.Unset) ⊎ IsColour l

abbrev pub is_seated : Role → Bool
is_seated Plain = false
is_seated New = false
is_seated Seated = true

pub data Both (A B : Role → Reg → Type 0) (t : Role) (r : Reg) : Type 0 where
  left : A t r → Both A B t r
  right : B t r → Both A B t r

pub data One (u : Role) (q : Reg) (t : Role) (r : Reg) : Type 0 where
  it : t ≡ u → r ≡ q → One u q t r

abbrev pub Listed : Role → List Reg → Role → Reg → Type 0
Listed u [] t r = ⊥
Listed u (q ∷ qs) t r = Both (One u q) (Listed u qs) t r

-- The registers of a set have numbers in a range, one register for each; at most k of them are open.
pub record Block (In : Role → Reg → Type 0) (lo hi k : ℕ) : Type 0 where
  pub from : (t : Role) (r : Reg) → In t r → lo ≤ r.number
  pub to : (t : Role) (r : Reg) → In t r → r.number < hi
  pub tells : (t u : Role) (r q : Reg) → In t r → In u q → r.number ≡ q.number → (t ≡ u) × (r ≡ q)
  pub origin : (t : Role) (r : Reg) → In t r → r.origin ≡ r.number
  pub place : (t : Role) (r : Reg) → In t r → PlaceOf t r.loc
  pub numbers : List ℕ
  pub few : length numbers ≤ k
  pub each : (t : Role) (r : Reg) → In t r → is_seated t ≡ false → Contains numbers r.number

pub block_in : {In : Role → Reg → Type 0} {lo mid hi k : ℕ} → Block In lo mid k → mid ≤ hi → Block In lo hi k
block_in x le =
    record {
      from = x.from;
      to = λ t r i. let less = x.to t r i in omega (arith, less, le);
      tells = x.tells;
      origin = x.origin;
      place = x.place;
      numbers = x.numbers;
      few = x.few;
      each = x.each;
    }

pub block_few : {In : Role → Reg → Type 0} {lo hi j k : ℕ} → Block In lo hi j → j ≤ k → Block In lo hi k
block_few x le =
    record {
      from = x.from;
      to = x.to;
      tells = x.tells;
      origin = x.origin;
      place = x.place;
      numbers = x.numbers;
      few = let f = x.few in omega (arith, f, le);
      each = x.each;
    }

pub block_from : {In : Role → Reg → Type 0} {lo mid hi k : ℕ} → Block In mid hi k → lo ≤ mid → Block In lo hi k
block_from x le =
    record {
      from = λ t r i. let more = x.from t r i in omega (arith, more, le);
      to = x.to;
      tells = x.tells;
      origin = x.origin;
      place = x.place;
      numbers = x.numbers;
      few = x.few;
      each = x.each;
    }

pub block_then : {A B : Role → Reg → Type 0} {lo mid hi j k : ℕ} → Block A lo mid j → Block B mid hi k → lo ≤ mid → mid ≤ hi → Block (Both A B) lo hi (j + k)
block_then {A} {B} {lo} {mid} {hi} {j} {k} x y low high =
    record {
      from = from;
      to = to;
      tells = tells;
      origin = origin;
      place = place;
      numbers = x.numbers ++ y.numbers;
      few = fewer (length (x.numbers ++ y.numbers)) (length x.numbers) (length y.numbers) (length-append x.numbers y.numbers) x.few y.few;
      each = each;
    }
  where
    fewer : (n a b : ℕ) → n ≡ a + b → a ≤ j → b ≤ k → n ≤ j + k
    fewer n a b e p q = omega (arith, e, p, q)

    from : (t : Role) (r : Reg) → Both A B t r → lo ≤ r.number
    from t r (left i) = x.from t r i
    from t r (right i) = let f = y.from t r i in omega (arith, f, low)

    to : (t : Role) (r : Reg) → Both A B t r → r.number < hi
    to t r (left i) = let l = x.to t r i in omega (arith, l, high)
    to t r (right i) = y.to t r i

    tells : (t u : Role) (r q : Reg) → Both A B t r → Both A B u q → r.number ≡ q.number → (t ≡ u) × (r ≡ q)
    tells t u r q (left i) (left h) e = x.tells t u r q i h e
    tells t u r q (left i) (right h) e = let l = x.to t r i in let f = y.from u q h in absurd (omega (arith, l, f, e))
    tells t u r q (right i) (left h) e = let l = x.to u q h in let f = y.from t r i in absurd (omega (arith, l, f, e))
    tells t u r q (right i) (right h) e = y.tells t u r q i h e

    origin : (t : Role) (r : Reg) → Both A B t r → r.origin ≡ r.number
    origin t r (left i) = x.origin t r i
    origin t r (right i) = y.origin t r i

    place : (t : Role) (r : Reg) → Both A B t r → PlaceOf t r.loc
    place t r (left i) = x.place t r i
    place t r (right i) = y.place t r i

    each : (t : Role) (r : Reg) → Both A B t r → is_seated t ≡ false → Contains (x.numbers ++ y.numbers) r.number
    each t r (left i) e = Contains-append_left x.numbers y.numbers r.number (x.each t r i e)
    each t r (right i) e = Contains-append_right x.numbers y.numbers r.number (y.each t r i e)

pub block_one : (u : Role) (q : Reg) → q.origin ≡ q.number → PlaceOf u q.loc → Block (One u q) q.number (suc q.number) 1
block_one u q o p =
    record {
      from = λ t r i. from t r i;
      to = λ t r i. to t r i;
      tells = tells;
      origin = origin;
      place = place;
      numbers = q.number ∷ [];
      few = omega arith;
      each = each;
    }
  where
    same : (t : Role) (r : Reg) → One u q t r → r ≡ q
    same t r (it a b) = b

    from : (t : Role) (r : Reg) → One u q t r → q.number ≤ r.number
    from t r i = let e = ap (λ (z : Reg). z.number) (same t r i) in omega (arith, e)

    to : (t : Role) (r : Reg) → One u q t r → r.number < suc q.number
    to t r i = let e = ap (λ (z : Reg). z.number) (same t r i) in omega (arith, e)

    tells : (t v : Role) (r s : Reg) → One u q t r → One u q v s → r.number ≡ s.number → (t ≡ v) × (r ≡ s)
    tells t v r s (it a b) (it c d) e = (a ∙ sym c, b ∙ sym d)

    origin : (t : Role) (r : Reg) → One u q t r → r.origin ≡ r.number
    origin t r (it a b) = subst (λ (z : Reg). z.origin ≡ z.number) (sym b) o

    place : (t : Role) (r : Reg) → One u q t r → PlaceOf t r.loc
    place t r (it a b) = subst (λ (z : Reg). PlaceOf t z.loc) (sym b) (subst (λ v. PlaceOf v q.loc) (sym a) p)

    each : (t : Role) (r : Reg) → One u q t r → is_seated t ≡ false → Contains (q.number ∷ []) r.number
    each t r (it a b) e = subst (λ (z : Reg). Contains (q.number ∷ []) z.number) (sym b) (contains_head q.number [])

pub no_block : (n : ℕ) → Block (λ t r. ⊥) n n 0
no_block n =
    record {
      from = λ t r i. absurd i;
      to = λ t r i. absurd i;
      tells = λ t u r q i h e. absurd i;
      origin = λ t r i. absurd i;
      place = λ t r i. absurd i;
      numbers = [];
      few = omega arith;
      each = λ t r i e. absurd i;
    }
