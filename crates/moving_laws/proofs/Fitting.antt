-- What fits a type of the text, as the services see it.
use Rattle.std.proofs.Common.{◌≡◌, ℕ, ◌+◌, ◌%◌, ◌≤◌, inl, inr, true, ◌&&◌, ◌==◌, nat_le, length, arith, ⊎_elim}
use Rattle.std.proofs.lemmas.Bool.{and_parts, eqb-true, leb-true, or_cases}
use Rattle.bs_words.specs.Fits.{data_start, fits}
use Rattle.bs_words.specs.declared.types.Ty.TheVariants as ty
use Rattle.bs_words.specs.declared.values.Value.{Value}
use Rattle.bs_words.specs.declared.values.Value.TheVariants.{Word, Block, Function}
use Rattle.image_form.specs.Tables.{Tables}
use Rattle.moving_laws.specs.Values.{IsKnown, IsVal, IsStill}

pub val_fits : (image : Tables) (count : ℕ) (v : Value) → fits (data_start + length image.bytes) ty.Val v ≡ true → IsKnown image count v → IsVal image count v
val_fits image count (Word w) fit known =
    ⊎_elim
    (λ odd. inl (eqb-true (w % 2) 1 odd))
    (λ inside. let p = and_parts (nat_le data_start w) (nat_le w (data_start + length image.bytes)) inside in
    inr (leb-true data_start w p.0, leb-true w (data_start + length image.bytes) p.1))
    (or_cases (w % 2 == 1) (nat_le data_start w && nat_le w (data_start + length image.bytes)) fit)
val_fits image count (Block k offset) fit known = (eqb-true offset 0 fit, known.0)
val_fits image count (Function f) fit known = known

pub int_still : (end : ℕ) (v : Value) → fits end ty.Int v ≡ true → IsStill v
int_still end (Word w) fit = tt
int_still end (Block k offset) fit = absurd (cc)
int_still end (Function f) fit = tt

pub val_known : (image : Tables) (count : ℕ) (v : Value) → IsVal image count v → IsKnown image count v
val_known image count (Word w) fit = tt
val_known image count (Block k offset) fit = (fit.1, (let e = fit.0 in omega (arith, e)))
val_known image count (Function f) fit = fit

-- with more blocks what was known stays so
pub known_more : (image : Tables) (count more : ℕ) (v : Value) → count ≤ more → IsKnown image count v → IsKnown image more v
known_more image count more (Word w) l known = tt
known_more image count more (Block k offset) l known = ((let h = known.0 in omega (arith, l, h)), known.1)
known_more image count more (Function f) l known = known
