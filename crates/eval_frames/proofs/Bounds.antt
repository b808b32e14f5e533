-- The bindings of an activation, which the code keeps the other way round.
use Rattle.std.proofs.Common.{◌≡◌, ◌∙◌, ℕ, suc, ◌+◌, ◌-◌, ◌<◌, ◌≤◌, Bool, true, false, not, cond, List, [], ◌∷◌, ◌++◌, Option, Some, None, length, map, option_map, take, drop, get_or, set, ap, sym, append_assoc, arith, length-drop, drop-cons}
use Rattle.std.specs.Prelude.{reverse, bytes_eq, IsTrue, ◌↔◌}
use Rattle.std.proofs.lemmas.List.{reverse-append, length-reverse, length-map, map-append, take-append-drop, take_more, set_split}
use Rattle.std.proofs.lemmas.Bool.Decides.{same_from_decides}
use Rattle.std.proofs.lemmas.Slice.Eq.{bytes_eq-Decides}
use Rattle.std.proofs.Math.Seq.{drop-append_seam}
use Rattle.bs_words.specs.declared.types.Ty.TheVariants.{Never}
use Rattle.bs_words.specs.declared.values.Value.{Value}
use Rattle.cmm_types.specs.Types.{binding_of, type_bound_by, type_named}
use Rattle.cmm_types.specs.Light.{is_immutable, is_fixed}
use Rattle.cmm_types.proofs.Bindings.{bound_among}
use Rattle.cmm_meaning.specs.State.{Binding, innermost, value_of, assigned}
use Rattle.eval_frames.specs.Views.{bound_view, bounds_view}
use Rattle.eval_frames.specs.declared.here.Bound.{Bound}

pub bounds_push : (xs : List Bound) (b : Bound) → bounds_view (xs ++ b ∷ []) ≡ bound_view b ∷ bounds_view xs
bounds_push xs b = ap (map bound_view) (reverse-append xs (b ∷ []))

-- one more binding, which is the innermost
pub bounds_at : (xs : List Bound) (i : ℕ) (b : Bound) → i < length xs → b ≡ get_or xs i b →
    bounds_view (take (i + 1) xs) ≡ bound_view b ∷ bounds_view (take i xs)
bounds_at xs i b lt at =
    ap bounds_view (take_more xs i b lt ∙ ap (λ y. take i xs ++ y ∷ []) (sym at)) ∙ bounds_push (take i xs) b

bounds_append : (xs ys : List Bound) → bounds_view (xs ++ ys) ≡ bounds_view ys ++ bounds_view xs
bounds_append xs ys = ap (map bound_view) (reverse-append xs ys) ∙ map-append bound_view (reverse ys) (reverse xs)

bounds_front : (b : Bound) (xs : List Bound) → bounds_view (b ∷ xs) ≡ bounds_view xs ++ bound_view b ∷ []
bounds_front b xs = bounds_append (b ∷ []) xs

bounds_length : (xs : List Bound) → length (bounds_view xs) ≡ length xs
bounds_length xs = length-map (reverse xs) bound_view ∙ length-reverse xs

pub bounds_take : (level : ℕ) (xs : List Bound) →
    bounds_view (take level xs) ≡ drop (length (bounds_view xs) - level) (bounds_view xs)
bounds_take level xs =
    let t = take level xs in
    let d = drop level xs in
    let split : bounds_view xs ≡ bounds_view d ++ bounds_view t =
    ap bounds_view (sym (take-append-drop level xs)) ∙ ap (map bound_view) (reverse-append t d) ∙ map-append bound_view (reverse d) (reverse t) in
    let all : length (bounds_view xs) ≡ length xs = bounds_length xs in
    let behind : length (bounds_view d) ≡ length d = bounds_length d in
    let cut : length d ≡ length xs - level = length-drop level xs in
    let count : length (bounds_view xs) - level ≡ length (bounds_view d) = omega arith in
    sym (ap (λ n. drop n (bounds_view xs)) count ∙ ap (drop (length (bounds_view d))) split ∙ drop-append_seam (bounds_view d) (bounds_view t))

-- ---- the innermost binding of a name

pub value_some : (names : List Binding) (x : List ℕ) (b : Binding) → innermost names x ≡ Some b → value_of names x ≡ Some b.value
value_some names x b h = ap (option_map (λ (c : Binding). c.value)) h

pub value_none : (names : List Binding) (x : List ℕ) → innermost names x ≡ None → value_of names x ≡ None
value_none names x h = ap (option_map (λ (c : Binding). c.value)) h

bound_as : (names : List Binding) (x : List ℕ) (o : Option Binding) → innermost names x ≡ o →
    binding_of (map (λ (c : Binding). c.scoped) names) x ≡ option_map (λ (c : Binding). c.scoped) o
bound_as names x o h = bound_among (λ (c : Binding). c.scoped) names x ∙ ap (option_map (λ (c : Binding). c.scoped)) h

pub type_some : (names : List Binding) (x : List ℕ) (b : Binding) → innermost names x ≡ Some b →
    type_named (map (λ (c : Binding). c.scoped) names) x ≡ b.scoped.type
type_some names x b h = ap type_bound_by (bound_as names x (Some b) h)

pub type_none : (names : List Binding) (x : List ℕ) → innermost names x ≡ None →
    type_named (map (λ (c : Binding). c.scoped) names) x ≡ Never
type_none names x h = ap type_bound_by (bound_as names x None h)

pub immutable_some : (names : List Binding) (x : List ℕ) (b : Binding) → innermost names x ≡ Some b →
    is_immutable (map (λ (c : Binding). c.scoped) names) x ≡ not b.scoped.mutable
immutable_some names x b h = ap is_fixed (bound_as names x (Some b) h)

pub immutable_none : (names : List Binding) (x : List ℕ) → innermost names x ≡ None →
    is_immutable (map (λ (c : Binding). c.scoped) names) x ≡ false
immutable_none names x h = ap is_fixed (bound_as names x None h)

-- ---- the search for it from the innermost on

module _ (xs : List Bound) (i : ℕ) (b : Bound) (x : List ℕ) (t : Bool) (some : 0 < i) (within : i ≤ length xs) (at : b ≡ get_or xs (i - 1) b)
    (same : IsTrue t ↔ (b.name.now ≡ x)) where
  tested_name : t ≡ bytes_eq b.name.now x
  tested_name = sym (same_from_decides (bytes_eq b.name.now x) t (bytes_eq-Decides b.name.now x) same)

  one_less : bounds_view (take i xs) ≡ bound_view b ∷ bounds_view (take (i - 1) xs)
  one_less =
      let lt : i - 1 < length xs = omega arith in
      let e : i ≡ (i - 1) + 1 = omega arith in
      ap (λ n. bounds_view (take n xs)) e ∙ bounds_at xs (i - 1) b lt at

  innermost_is : innermost (bounds_view (take i xs)) x ≡ cond t (Some (bound_view b)) (innermost (bounds_view (take (i - 1) xs)) x)
  innermost_is =
      ap (λ names. innermost names x) one_less
      ∙ ap (λ t. cond t (Some (bound_view b)) (innermost (bounds_view (take (i - 1) xs)) x)) (sym tested_name)

  pub innermost_here : t ≡ true → innermost (bounds_view (take i xs)) x ≡ Some (bound_view b)
  innermost_here h = innermost_is ∙ ap (λ t. cond t (Some (bound_view b)) (innermost (bounds_view (take (i - 1) xs)) x)) h

  pub innermost_below : t ≡ false → innermost (bounds_view (take i xs)) x ≡ innermost (bounds_view (take (i - 1) xs)) x
  innermost_below h = innermost_is ∙ ap (λ t. cond t (Some (bound_view b)) (innermost (bounds_view (take (i - 1) xs)) x)) h

  -- ---- an assignment

  behind : (drop (i - 1) xs) ≡ b ∷ drop i xs
  behind =
      let lt : i - 1 < length xs = omega arith in
      let e : suc (i - 1) ≡ i = omega arith in
      drop-cons xs (i - 1) b lt ∙ ap (λ y. y ∷ drop (suc (i - 1)) xs) (sym at) ∙ ap (λ n. b ∷ drop n xs) e

  assigned_is : (v : Value) → assigned (bounds_view (take i xs)) x v
      ≡ cond t (record (bound_view b) { value = v } ∷ bounds_view (take (i - 1) xs)) (bound_view b ∷ assigned (bounds_view (take (i - 1) xs)) x v)
  assigned_is v =
      ap (λ names. assigned names x v) one_less
      ∙ ap (λ t. cond t (record (bound_view b) { value = v } ∷ bounds_view (take (i - 1) xs)) (bound_view b ∷ assigned (bounds_view (take (i - 1) xs)) x v)) (sym tested_name)

  pub assigned_below : (v : Value) (whole : List Binding) → t ≡ false → whole ≡ bounds_view (drop i xs) ++ assigned (bounds_view (take i xs)) x v →
      whole ≡ bounds_view (drop (i - 1) xs) ++ assigned (bounds_view (take (i - 1) xs)) x v
  assigned_below v whole h w =
      let d = bounds_view (drop i xs) in
      let rest = assigned (bounds_view (take (i - 1) xs)) x v in
      let a : assigned (bounds_view (take i xs)) x v ≡ bound_view b ∷ rest =
      assigned_is v ∙ ap (λ t. cond t (record (bound_view b) { value = v } ∷ bounds_view (take (i - 1) xs)) (bound_view b ∷ rest)) h in
      let e : bounds_view (drop (i - 1) xs) ≡ d ++ bound_view b ∷ [] = ap bounds_view behind ∙ bounds_front b (drop i xs) in
      w ∙ ap (λ l. d ++ l) a ∙ sym (append_assoc d (bound_view b ∷ []) rest) ∙ ap (λ l. l ++ rest) (sym e)

  pub assigned_here : (v : Value) (whole : List Binding) → t ≡ true → whole ≡ bounds_view (drop i xs) ++ assigned (bounds_view (take i xs)) x v →
      bounds_view (set xs (i - 1) (record b { value = v })) ≡ whole
  assigned_here v whole h w =
      let lt : i - 1 < length xs = omega arith in
      let s : suc (i - 1) ≡ i = omega arith in
      let new : Bound = record b { value = v } in
      let d = bounds_view (drop i xs) in
      let rest = bounds_view (take (i - 1) xs) in
      let a : assigned (bounds_view (take i xs)) x v ≡ bound_view new ∷ rest =
      assigned_is v ∙ ap (λ t. cond t (record (bound_view b) { value = v } ∷ rest) (bound_view b ∷ assigned rest x v)) h in
      let e : bounds_view (set xs (i - 1) new) ≡ bounds_view (new ∷ drop i xs) ++ rest =
      ap bounds_view (set_split xs (i - 1) new lt ∙ ap (λ n. take (i - 1) xs ++ new ∷ drop n xs) s) ∙ bounds_append (take (i - 1) xs) (new ∷ drop i xs) in
      e ∙ ap (λ l. l ++ rest) (bounds_front new (drop i xs)) ∙ append_assoc d (bound_view new ∷ []) rest ∙ ap (λ l. d ++ l) (sym a) ∙ sym w
