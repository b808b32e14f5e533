-- The row of an external call, and what a call comes to.
use Rattle.std.proofs.Common.{◌≡◌, ℕ, zero, suc, ◌≤◌, List, [], ◌∷◌, length, map, drop, Option, Some, option_map, refl, ap, arith, ◌∙◌, sym, subst}
use Rattle.std.specs.Prelude.{slice_get}
use Rattle.std.specs.List.{AllByRecursion}
use Rattle.std.proofs.lemmas.Option.{slice_get-map}
use Rattle.bs_words.specs.Contents.{contents}
use Rattle.bs_words.specs.Observed.{Made}
use Rattle.bs_words.specs.declared.types.Comp.{Comp}
use Rattle.bs_words.specs.declared.types.Ret.{Ret}
use Rattle.bs_words.specs.declared.types.Ret.TheVariants as returns
use Rattle.image_form.specs.Tables.{Tables, tables, ext}
use Rattle.image_form.specs.declared.image.Image as declared
use Rattle.image_form.specs.declared.image.ExtRow.{ExtRow}
use Rattle.rv_machine.specs.Services.{Machine, Over, Asks, machine_answered}

pub ext_at : (image : declared.Image) (t : Tables) (i j : ℕ) (o : Option ExtRow) → tables image ≡ t → i ≡ j → o ≡ slice_get (contents image.extcs) i
    → slice_get t.extcs j ≡ option_map ext o
ext_at image t i j o same e h =
    ap (λ (s : Tables). slice_get s.extcs j) (sym same) ∙ ap (slice_get (map ext (contents image.extcs))) (sym e)
    ∙ slice_get-map ext (contents image.extcs) i ∙ ap (option_map ext) (sym h)

pub has_at : {X : Type 0} (P : X → Type 0) (xs : List X) (i : ℕ) (x : X) → AllByRecursion P xs → slice_get xs i ≡ Some x → P x
has_at P [] zero x all e = absurd (cc)
has_at P [] (suc i) x all e = absurd (cc)
has_at P (y ∷ ys) zero x all e = let same : y ≡ x = cc in subst P same all.0
has_at P (y ∷ ys) (suc i) x all e = has_at P ys i x all.1 e

pub none_taken : (xs : List ℕ) (i : ℕ) → length xs ≤ i → drop i xs ≡ []
none_taken [] zero e = refl
none_taken [] (suc i) e = refl
none_taken (x ∷ xs) zero e = absurd (omega arith)
none_taken (x ∷ xs) (suc i) e = none_taken xs i (omega arith)

pub asks_now : (ret : Ret) (comp : Comp) (call : Made) (answers : List ℕ) (m : Machine) → ret ≡ returns.Comp comp → answers ≡ []
    → machine_answered ret call answers m ≡ Over m.calls (Asks call)
asks_now ret comp call answers m e n = ap (λ (r : Ret). machine_answered r call answers m) e ∙ ap (λ (as' : List ℕ). machine_answered (returns.Comp comp) call as' m) n
