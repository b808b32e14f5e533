-- What a choice is: a colour that no neighbour has, or, where each colour has a neighbour, the slot.
use Rattle.std.proofs.Common.{◌≡◌, ℕ, ◌⊎◌, inl, inr, ⊎_elim, Bool, true, false, cond, List, [], ◌∷◌, Option, Some, None, refl, ap, ◌∙◌, subst}
use Rattle.std.specs.List.{Contains, filter}
use Rattle.std.proofs.lemmas.Bool.{eqb-true, eqb-false, eq-eqb, cases_Bool}
use Rattle.bs_words.specs.declared.types.Loc.{Loc}
use Rattle.bs_words.specs.declared.types.Loc.TheVariants as loc
use Rattle.bs_words.proofs.Lists.{none_in, first_in, later_in}
use Rattle.mach_ir.specs.Placed.{Colouring, colour_numbers}
use Rattle.mach_ir.specs.declared.graph.Node.{Node}
use Rattle.mach_ir.specs.declared.graph.Graph.{Graph}
use Rattle.colouring.specs.declared.merit.Merit.{Merit}
use Rattle.colouring.specs.Chosen.{merit, has_colour, count_in_colour, is_better, is_free_colour, better_colour, first_best, place_for, chosen_location}
use Rattle.colouring.proofs.Found.{none_counted, some_counted, Counted, in_filter, into_filter}

-- ---- the first of the best

pub best_in : (m : ℕ → Merit) (cs : List ℕ) (c : ℕ) → first_best m cs ≡ Some c → Contains cs c
best_in m [] c e = cc
best_in m (d ∷ ds) c e = by (best_in m ds) (first_best m ds) refl e
  where
    pick : (t : Bool) (l : ℕ) → Contains ds l → Some (cond t l d) ≡ Some c → Contains (d ∷ ds) c
    pick true l i e = let s : l ≡ c = cc in subst (λ a. Contains (d ∷ ds) a) s (later_in d l ds i)
    pick false l i e = let s : d ≡ c = cc in subst (λ a. Contains (d ∷ ds) a) s (first_in d ds)

    by : ((c : ℕ) → first_best m ds ≡ Some c → Contains ds c) → (o : Option ℕ) → first_best m ds ≡ o →
        Some (better_colour m d o) ≡ Some c → Contains (d ∷ ds) c
    by later None f e = let s : d ≡ c = cc in subst (λ a. Contains (d ∷ ds) a) s (first_in d ds)
    by later (Some l) f e = pick (is_better (m l) (m d)) l (later l f) e

best_none : (m : ℕ → Merit) (cs : List ℕ) → first_best m cs ≡ None → cs ≡ []
best_none m [] e = refl
best_none m (d ∷ ds) e = cc

-- ---- places

pub is_in_true : (c : ℕ) (l : Loc) → has_colour c l ≡ true → l ≡ loc.Machine c
is_in_true c loc.Unset e = cc
is_in_true c (loc.Machine n) e = ap loc.Machine (eqb-true n c e)
is_in_true c (loc.Slot n) e = cc

pub is_in_same : (c : ℕ) (l : Loc) → l ≡ loc.Machine c → has_colour c l ≡ true
is_in_same c l e = ap (has_colour c) e ∙ eq-eqb c c refl

pub record Stands (place : Colouring) (ns : List ℕ) (c : ℕ) : Type 0 where
  pub number : ℕ
  pub among : Contains ns number
  pub there : place number ≡ loc.Machine c

-- a colour of these that no neighbour has
pub record InColour (cs : List ℕ) (place : Colouring) (x : Node) (here : Loc) : Type 0 where
  pub colour : ℕ
  pub among : Contains cs colour
  pub free : (n : ℕ) → Contains x.neighbours n → place n ≡ loc.Machine colour → ⊥
  pub is : here ≡ loc.Machine colour

-- the slot, where each of these colours has a neighbour
pub record InSlot (cs : List ℕ) (place : Colouring) (x : Node) (here : Loc) : Type 0 where
  pub full : (c : ℕ) → Contains cs c → Stands place x.neighbours c
  pub is : here ≡ loc.Slot x.reg.origin

free_colour : (place : Colouring) (x : Node) (c : ℕ) → is_free_colour place x c ≡ true →
    (n : ℕ) → Contains x.neighbours n → place n ≡ loc.Machine c → ⊥
free_colour place x c free n i e =
    let no : has_colour c (place n) ≡ false =
    none_counted (λ n. has_colour c (place n)) x.neighbours (eqb-true (count_in_colour place c x.neighbours) 0 free) n i in
    let yes : has_colour c (place n) ≡ true = is_in_same c (place n) e in
    cc

taken_colour : (place : Colouring) (x : Node) (c : ℕ) → is_free_colour place x c ≡ false → Stands place x.neighbours c
taken_colour place x c taken =
    let w : Counted (λ n. has_colour c (place n)) x.neighbours =
    some_counted (λ n. has_colour c (place n)) x.neighbours (eqb-false (count_in_colour place c x.neighbours) 0 taken) in
    record { number = w.what; among = w.among; there = is_in_true c (place w.what) w.passes }

choice_among : (cs : List ℕ) (m : ℕ → Merit) (place : Colouring) (x : Node) (o : Option ℕ) →
    first_best m (filter (is_free_colour place x) cs) ≡ o →
    InColour cs place x (place_for x.reg o) ⊎ InSlot cs place x (place_for x.reg o)
choice_among cs m place x (Some c) e =
    let i = in_filter (is_free_colour place x) cs c (best_in m (filter (is_free_colour place x) cs) c e) in
    inl (record { colour = c; among = i.0; free = free_colour place x c i.1; is = refl })
choice_among cs m place x None e =
    let none : filter (is_free_colour place x) cs ≡ [] = best_none m (filter (is_free_colour place x) cs) e in
    inr (record {
      full = λ c i. ⊎_elim
          (λ (t : is_free_colour place x c ≡ true). absurd
          (none_in c (subst (λ l. Contains l c) none (into_filter (is_free_colour place x) cs c i t))))
          (λ (t : is_free_colour place x c ≡ false). taken_colour place x c t)
          (cases_Bool (is_free_colour place x c));
      is = refl;
    })

pub choice : (g : Graph) (place : Colouring) (x : Node) →
    InColour colour_numbers place x (chosen_location g place x) ⊎ InSlot colour_numbers place x (chosen_location g place x)
unfolding chosen_location
choice g place x =
    choice_among colour_numbers (merit g place x) place x
    (first_best (merit g place x) (filter (is_free_colour place x) colour_numbers)) refl
