-- Parameters of a function or a handler, and values for them, one after the other.
use Rattle.std.proofs.Common.{◌≡◌, ◌∙◌, ℕ, suc, ◌+◌, ◌<◌, ◌&&◌, true, false, List, [], ◌∷◌, map, length, drop, get_or, min, refl, ap, sym, add-one, arith, drop-cons}
use Rattle.std.proofs.Math.Bool.{and-false}
use Rattle.bs_words.specs.Fits.{fits, type_of_comp}
use Rattle.bs_words.specs.declared.types.Comp.{Comp}
use Rattle.bs_words.specs.declared.values.Kind.TheVariants.{BadCall}
use Rattle.bs_words.specs.declared.values.Value.{Value}
use Rattle.cmm_tree.specs.Tree.{Parameter}
use Rattle.cmm_tree.specs.View.{param_view, params_view}
use Rattle.cmm_tree.specs.declared.file.Param.{Param}
use Rattle.cmm_meaning.specs.State.{World, Here}
use Rattle.cmm_meaning.specs.Evaluation.{NotProper, Evaluation, Stops, tested, fit_parameters, entered, scoped_parameter, with_bound}

abbrev comps : List Param → List Comp
comps params = map (λ (p : Parameter). p.comp) (params_view params)

-- values of another number do not fit
pub other_number : (end : ℕ) (ps : List Param) (vs : List Value) → (length ps ≡ length vs → ⊥) → fit_parameters end (comps ps) vs ≡ false
other_number end [] [] h = absurd (h refl)
other_number end [] (v ∷ vs) h = refl
other_number end (p ∷ ps) [] h = refl
other_number end (p ∷ ps) (v ∷ vs) h =
    ap (λ b. fits end (type_of_comp p.comp) v && b) (other_number end ps vs (λ e. h (ap suc e))) ∙ and-false (fits end (type_of_comp p.comp) v)

-- where no more pairs are left
pub fit_ended : (end : ℕ) (ps : List Param) (vs : List Value) → length ps ≡ 0 → length vs ≡ 0 → fit_parameters end (comps ps) vs ≡ true
fit_ended end [] [] p v = refl
fit_ended end [] (y ∷ vs) p v = absurd (omega arith)
fit_ended end (x ∷ ps) vs p v = absurd (omega arith)

pub entered_all : (end : ℕ) (ps : List Param) (vs : List Value) (w : World) (go : Evaluation) → length ps ≡ 0 → length vs ≡ 0 →
    entered end (params_view ps) vs w go ≡ go
entered_all end [] [] w go p v = refl
entered_all end [] (y ∷ vs) w go p v = absurd (omega arith)
entered_all end (x ∷ ps) vs w go p v = absurd (omega arith)

pub entered_not : (end : ℕ) (ps : List Param) (vs : List Value) (w : World) (go : Evaluation) → min (length ps) (length vs) ≡ 0 → (length ps ≡ length vs → ⊥) →
    entered end (params_view ps) vs w go ≡ Stops (NotProper BadCall) w
entered_not end [] [] w go m h = absurd (h refl)
entered_not end [] (y ∷ vs) w go m h = refl
entered_not end (x ∷ ps) [] w go m h = refl
entered_not end (x ∷ ps) (y ∷ vs) w go m h = absurd (omega arith)

pub bound_all : (ps : List Param) (vs : List Value) (h : Here) → min (length ps) (length vs) ≡ 0 →
    with_bound (map scoped_parameter (params_view ps)) vs h ≡ h
bound_all [] vs h m = refl
bound_all (x ∷ ps) [] h m = refl
bound_all (x ∷ ps) (y ∷ vs) h m = absurd (omega arith)

module _ (ps : List Param) (vs : List Value) (n : ℕ) (p : Param) (v : Value) (short : n < length ps) (few : n < length vs)
    (this : p ≡ get_or ps n p) (that : v ≡ get_or vs n v) where
  params_from : drop n ps ≡ p ∷ drop (n + 1) ps
  params_from = drop-cons ps n p short ∙ ap (λ x. x ∷ drop (suc n) ps) (sym this) ∙ ap (λ k. p ∷ drop k ps) (sym (add-one n))

  values_from : drop n vs ≡ v ∷ drop (n + 1) vs
  values_from = drop-cons vs n v few ∙ ap (λ x. x ∷ drop (suc n) vs) (sym that) ∙ ap (λ k. v ∷ drop k vs) (sym (add-one n))

  pub fit_turn : (end : ℕ) → fit_parameters end (comps (drop n ps)) (drop n vs)
      ≡ (fits end (type_of_comp p.comp) v && fit_parameters end (comps (drop (n + 1) ps)) (drop (n + 1) vs))
  fit_turn end = ap (λ l. fit_parameters end (comps l) (drop n vs)) params_from ∙ ap (fit_parameters end (comps (p ∷ drop (n + 1) ps))) values_from

  pub entered_turn : (end : ℕ) (w : World) (go : Evaluation) → entered end (params_view (drop n ps)) (drop n vs) w go
      ≡ tested end (type_of_comp p.comp) v w (entered end (params_view (drop (n + 1) ps)) (drop (n + 1) vs) w go)
  entered_turn end w go =
      ap (λ l. entered end (params_view l) (drop n vs) w go) params_from
      ∙ ap (λ l. entered end (params_view (p ∷ drop (n + 1) ps)) l w go) values_from

  pub bound_turn : (h : Here) → with_bound (map scoped_parameter (params_view (drop n ps))) (drop n vs) h
      ≡ with_bound (map scoped_parameter (params_view (drop (n + 1) ps))) (drop (n + 1) vs)
      (with_bound (scoped_parameter (param_view p) ∷ []) (v ∷ []) h)
  bound_turn h =
      ap (λ l. with_bound (map scoped_parameter (params_view l)) (drop n vs) h) params_from
      ∙ ap (λ l. with_bound (map scoped_parameter (params_view (p ∷ drop (n + 1) ps))) l h) values_from
