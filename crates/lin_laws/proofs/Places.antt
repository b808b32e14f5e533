-- Places of the text, lists that are tables, and numbers of positions.
use Rattle.std.proofs.Common.{◌≡◌, ℕ, zero, suc, ◌-◌, ◌<◌, ◌≤◌, Bool, true, false, cond, List, [], ◌∷◌, Some, length, map, drop, get_or, refl, sym, ap, ◌∙◌, subst, arith}
use Rattle.std.proofs.lemmas.List.{length-drop, get_or_default}
use Rattle.std.proofs.lemmas.List.Elements.{Contains-get_or}
use Rattle.std.proofs.lemmas.Option.{slice_get-map, get_or_from_slice_get}
use Rattle.std.specs.List.{Contains}
use Rattle.std.specs.Option.{option_map}
use Rattle.std.specs.Prelude.{slice_get, slice_index_or}
use Rattle.lin_ir.specs.Known.{Target, On, At}
use Rattle.lin_ir.specs.Meaning.{code_at, after_label, has_label}
use Rattle.lin_ir.specs.declared.lin.Line.{Line}
use Rattle.lin_ir.specs.declared.lin.Lin.{Lin}
use Rattle.bs_words.proofs.Lists.{drop_none}
use Rattle.lin_laws.specs.Graph.{line_index, place_at, position, AreNumbersOf}
use Rattle.lin_laws.specs.declared.position.Position.{Position}

-- ---- tables

pub table_at : {A B : Type 0} (h : A → B) (xs : List A) (q : ℕ) (x : A) (d : B) → slice_get xs q ≡ Some x →
    slice_index_or (map h xs) q d ≡ h x
table_at h xs q x d e = get_or_from_slice_get (map h xs) q (h x) d (slice_get-map h xs q ∙ ap (option_map h) e)

-- ---- numbers of positions

pub number_is : (all : List Position) (ns : List ℕ) (ys : List Position) (q : ℕ) → AreNumbersOf all ns ys → Contains ns q →
    (y : Position) × Contains ys y × (slice_get all q ≡ Some y)
number_is all ns ys q is c =
    let le : c.0 < length ns = c.1 in
    let lt : c.0 < length ys = omega (arith, le, is.len) in
    let d : Position = position 0 [] in
    let same : get_or ns c.0 0 ≡ q = get_or_default ns c.0 0 q le ∙ c.2 in (
      get_or ys c.0 d,
      Contains-get_or ys c.0 d lt,
      subst (λ k. slice_get all k ≡ Some (get_or ys c.0 d)) same (is.each c.0 d lt),
    )

pub number_all : (all : List Position) (ns : List ℕ) (ys : List Position) (y : Position) → AreNumbersOf all ns ys → Contains ys y →
    (q : ℕ) × Contains ns q × (slice_get all q ≡ Some y)
number_all all ns ys y is c =
    let le : c.0 < length ys = c.1 in
    let lt : c.0 < length ns = omega (arith, le, is.len) in
    (get_or ns c.0 0, Contains-get_or ns c.0 0 lt, is.each c.0 y le ∙ ap Some c.2)

-- ---- the rest of the code from a place on

pub drop_is : {A : Type 0} (p : ℕ) (xs : List A) (x : A) (ys : List A) → drop p xs ≡ x ∷ ys → (p < length xs) × (drop (suc p) xs ≡ ys)
drop_is zero [] x ys e = absurd (cc)
drop_is zero (z ∷ zs) x ys e = (omega arith, (let f : zs ≡ ys = cc in drop_none zs ∙ f))
drop_is (suc p) [] x ys e = absurd (cc)
drop_is (suc p) (z ∷ zs) x ys e = let r = drop_is p zs x ys e in let le = r.0 in (omega (arith, le), r.1)

-- code that ends with the rest, by the place where that begins
pub record Ends (code rest : List Line) : Type 0 where
  pub at : ℕ
  pub within : at ≤ length code
  pub is : drop at code ≡ rest

pub place_drop : (p : ℕ) (code : List Line) → p ≤ length code → length code - length (drop p code) ≡ p
place_drop p code le = omega (arith, length-drop p code)

pub ends_label : (l : ℕ) (code : List Line) → Ends code (after_label l code)
ends_label l [] = record { at = 0; within = omega arith; is = refl }
ends_label l (i ∷ is) = by (has_label l i.op) (ends_label l is)
  where
    by : (b : Bool) → Ends is (after_label l is) → Ends (i ∷ is) (cond b is (after_label l is))
    by true e = record { at = 1; within = omega arith; is = drop_none is }
    by false e = let le = e.within in record { at = suc e.at; within = omega (arith, le); is = e.is }

pub after_within : (l : ℕ) (code : List Line) → length (after_label l code) ≤ length code
after_within l [] = omega arith
after_within l (i ∷ is) = by (has_label l i.op) (after_within l is)
  where
    by : (b : Bool) → length (after_label l is) ≤ length is → length (cond b is (after_label l is)) ≤ length (i ∷ is)
    by true le = omega arith
    by false le = omega (arith, le)

module _ (m : Lin) where
  pub place_ends : {rest : List Line} (e : Ends m.code rest) → line_index m rest ≡ e.at
  place_ends e = ap (λ xs. length m.code - length xs) (sym e.is) ∙ place_drop e.at m.code e.within

  pub place_is : {rest : List Line} → Ends m.code rest → drop (line_index m rest) m.code ≡ rest
  place_is e = ap (λ k. drop k m.code) (place_ends e) ∙ e.is

  pub next_ends : {i : Line} {next : List Line} → Ends m.code (i ∷ next) → Ends m.code next
  next_ends {i} {next} e =
      let d = drop_is e.at m.code i next e.is in let le = d.0 in
      record { at = suc e.at; within = omega (arith, le); is = d.1 }

  pub target_ends : {i : Line} {next : List Line} (t : Target) → Ends m.code (i ∷ next) → Ends m.code (code_at m.code next t)
  target_ends On e = next_ends e
  target_ends (At l) e = ends_label l m.code

  -- the place where a line goes on
  pub place_target : (p : ℕ) (i : Line) (next : List Line) (t : Target) → drop p m.code ≡ i ∷ next →
      drop (place_at m p t) m.code ≡ code_at m.code next t
  place_target p i next On e = (drop_is p m.code i next e).1
  place_target p i next (At l) e = place_is (ends_label l m.code)

  pub place_of_target : (i : Line) (next : List Line) (t : Target) → Ends m.code (i ∷ next) →
      line_index m (code_at m.code next t) ≡ place_at m (line_index m (i ∷ next)) t
  unfolding next_ends
  place_of_target i next On e = place_ends (next_ends e) ∙ ap suc (sym (place_ends e))
  place_of_target i next (At l) e = refl
