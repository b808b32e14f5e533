-- What a line reads, by cases.
use Rattle.std.proofs.Common.{◌≡◌, ℕ, Bool, true, false, List, [], ◌∷◌, Option, Some, None, refl}
use Rattle.bs_words.specs.Fits.{fits, type_of_comp}
use Rattle.bs_words.specs.declared.values.Value.{Value}
use Rattle.lin_ir.specs.Meaning.{Locations, as_type, values, with_held}
use Rattle.lin_ir.specs.declared.lin.Spot.{Spot}

module _ (end : ℕ) (file : Locations) (P : Option (List Value) → Type 0) (stuck : P None) where
  -- it reads a value that fits before the others
  reads_then :
      (p : Spot) (vs : Option (List Value)) → ((x : Value) → file p.loc ≡ Some x → fits end (type_of_comp p.comp) x ≡ true → P (as_type true x vs)) →
      P (with_held end p.comp (file p.loc) vs)
  reads_then p vs go = by_held (file p.loc) refl
    where
      by_fit : (x : Value) (t : Bool) → file p.loc ≡ Some x → fits end (type_of_comp p.comp) x ≡ t → P (as_type t x vs)
      by_fit x true h e = go x h e
      by_fit x false h e = stuck

      by_held : (o : Option Value) → file p.loc ≡ o → P (with_held end p.comp o vs)
      by_held None h = stuck
      by_held (Some x) h = by_fit x (fits end (type_of_comp p.comp) x) h refl

  pub reads_one : (p : Spot) → ((x : Value) → file p.loc ≡ Some x → fits end (type_of_comp p.comp) x ≡ true → P (Some (x ∷ []))) → P (values end file (p ∷ []))
  reads_one p go = reads_then p (Some []) go

pub reads_two :
    (end : ℕ) (file : Locations) (P : Option (List Value) → Type 0) → P None → (p q : Spot) →
    ((x y : Value) → file p.loc ≡ Some x → fits end (type_of_comp p.comp) x ≡ true → file q.loc ≡ Some y → fits end (type_of_comp q.comp) y ≡ true →
    P (Some (x ∷ y ∷ []))) →
    P (values end file (p ∷ q ∷ []))
reads_two end file P stuck p q go =
    reads_then end file P stuck p (values end file (q ∷ []))
    (λ x h e. reads_one end file (λ vs. P (as_type true x vs)) stuck q (λ y k f. go x y h e k f))
