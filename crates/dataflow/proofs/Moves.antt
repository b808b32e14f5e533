-- A visit that spreads what comes to a place, and that the end of the sweeps is exactly what comes.
use Rattle.std.proofs.Common.{◌≡◌, ℕ, zero, suc, ◌<◌, Bool, true, false, not, ◌||◌, ◌&&◌, List, [], ◌∷◌, length, map, replicate, get_or, sym, ◌∙◌, ap, inl, inr, arith, refl, subst}
use Rattle.std.specs.Prelude.{◌==◌}
use Rattle.std.specs.List.{Contains, list_any, All}
use Rattle.std.proofs.lemmas.List.{get_or-map, get_or_past, get_or_default}
use Rattle.std.proofs.lemmas.List.Elements.{All-get_or, All-contains}
use Rattle.std.proofs.lemmas.Bool.{or_cases, and_parts, and_from, cases_lt, both_ways, not-true}
use Rattle.bs_words.specs.Contents.{contents}
use Rattle.bs_bits.specs.Set.{has, union}
use Rattle.bs_bits.proofs.Sets.{has-union, has-empty}
use Rattle.dataflow.specs.declared.flow.Place as place
use Rattle.dataflow.specs.declared.flow.Flow as flow
use Rattle.dataflow.specs.Flow.{Graph, graph, IsPlace, IsFlowFormed}
use Rattle.dataflow.specs.Reach.{ComesIn, ComesTo, IsReaching}
use Rattle.dataflow.specs.Rows.{set_in_row, HasSizes}
use Rattle.dataflow.specs.Spread.{Pushed, arrives, Spread, IsComing, IsSpreadFrom, Moved}
use Rattle.dataflow.proofs.Progress.{Solving}
use Rattle.dataflow.proofs.Steps.{contains_from, from_contains, or_left, or_right, not_from}
use Rattle.dataflow.proofs.Sweeps.{table_past}
use Rattle.dataflow.proofs.Visits.{table_at}

-- ---- a call of `spread`

pub first_set : (size : ℕ) (cleared here first : List Bool) → cleared ≡ replicate size false → first ≡ union cleared here → length cleared ≡ length here → (r : ℕ) → has first r ≡ has here r
first_set size cleared here first empty is len r =
    ap (λ (m : List Bool). has m r) is ∙ (has-union cleared here len r ∙ ap (λ (b : Bool). b || has here r) (ap (λ (m : List Bool). has m r) empty ∙ has-empty size r))

or_assoc : (x y z : Bool) → ((x || y) || z) ≡ (x || (y || z))
or_assoc true y z = refl
or_assoc false y z = refl

or_parts : (x y : Bool) → (x || y) ≡ false → (x ≡ false) × (y ≡ false)
or_parts true y e = cc
or_parts false y e = (refl, e)

-- the row that was read and copied
pub copied : (rows : List (List Bool)) (p : ℕ) (here first : List Bool) → p < length rows → here ≡ get_or rows p here → ((r : ℕ) → has first r ≡ has here r) → (r : ℕ) → has first r ≡ has (set_in_row rows p) r
copied rows p here first within read same r =
    same r ∙ ap (λ (m : List Bool). has m r) (read ∙ get_or_default rows p here [] within)

-- a list of numbers that was lent
pub lent_out : (marks taken : List Bool) (numbers lent : List ℕ) → lent ≡ numbers → ((r : ℕ) → has taken r ≡ (has marks r && not (list_any (λ k. k == r) lent))) → (r : ℕ) → has taken r ≡ (has marks r && not (list_any (λ k. k == r) numbers))
lent_out marks taken numbers lent e told r = told r ∙ ap (λ (l : List ℕ). has marks r && not (list_any (λ k. k == r) l)) e

pub lent_in : (marks put : List Bool) (numbers lent : List ℕ) → lent ≡ numbers → ((r : ℕ) → has put r ≡ (has marks r || list_any (λ k. k == r) lent)) → (r : ℕ) → has put r ≡ (has marks r || list_any (λ k. k == r) numbers)
lent_in marks put numbers lent e told r = told r ∙ ap (λ (l : List ℕ). has marks r || list_any (λ k. k == r) l) e

pub lent_places : (marks : List Bool) (old new : List (List Bool)) (places lent : List ℕ) (grew : Bool) → lent ≡ places → Pushed marks old new lent grew → Pushed marks old new places grew
lent_places marks old new places lent grew e told = let P : List ℕ → Type 0 = λ l. Pushed marks old new l grew in subst P e told

pub spread_is : (x : place.Place) (bound : ℕ) (old mid new : List (List Bool)) (p : ℕ) (s0 s1 s2 : List Bool) (g1 g2 g : Bool) → ((r : ℕ) → has s0 r ≡ has (set_in_row old p) r) → Pushed s0 old mid (contents x.aside) g1 →
    ((r : ℕ) → has s1 r ≡ (has s0 r && not (list_any (λ k. k == r) (contents x.writes)))) → ((r : ℕ) → has s2 r ≡ (has s1 r || list_any (λ k. k == r) (contents x.reads))) → Pushed s2 mid new (contents x.next) g2 → length s2 ≡ bound → g ≡ (g1 || g2) → Spread x bound old new p g
spread_is x bound old mid new p s0 s1 s2 g1 g2 g first aside out put next size flag =
    let P : ℕ → Type 0 = λ n. HasSizes n new in
    record {
      len = next.len ∙ aside.len;
      sizes = subst P size next.sizes;
      members = λ q r below.
          let a : Bool = list_any (λ k. k == q) (contents x.aside) in
          let n : Bool = list_any (λ k. k == q) (contents x.next) in
          let w : Bool = not (list_any (λ k. k == r) (contents x.writes)) in
          let d : Bool = list_any (λ k. k == r) (contents x.reads) in
          let here : Bool = has (set_in_row old p) r in
          let last : has s2 r ≡ ((here && w) || d) = put r ∙ (ap (λ (b : Bool). b || d) (out r) ∙ ap (λ (b : Bool). (b && w) || d) (first r)) in
          let middle : has (set_in_row mid q) r ≡ (has (set_in_row old q) r || (a && here)) = aside.members q r below ∙ ap (λ (b : Bool). has (set_in_row old q) r || (a && b)) (first r) in
          next.members q r (omega (arith, aside.len, below)) ∙ (ap (λ (b : Bool). b || (n && has s2 r)) middle ∙ (ap (λ (b : Bool). (has (set_in_row old q) r || (a && here)) || (n && b)) last ∙ or_assoc (has (set_in_row old q) r) (a && here) (n && ((here && w) || d))));
      same = λ e. let parts = or_parts g1 g2 (sym flag ∙ e) in next.same parts.1 ∙ aside.same parts.0;
      fewer = λ e. elim (or_cases g1 g2 (sym flag ∙ e)) [
        | inl before ↦ omega (arith, aside.fewer before, next.most)
        | inr after ↦ omega (arith, aside.most, next.fewer after)
      ];
    }

-- ---- a visit

arrives_at : (f : flow.Flow) (rows : List (List Bool)) (p : ℕ) (x : place.Place) (q r : ℕ) → p < length (contents f.places) → x ≡ get_or (contents f.places) p x → arrives ((graph f).next p) ((graph f).aside p) ((graph f).reads p) ((graph f).writes p) rows p q r ≡ arrives (contents x.next) (contents x.aside) (contents x.reads) (contents x.writes) rows p q r
arrives_at f rows p x q r within read =
    let n : (graph f).next p ≡ contents x.next = table_at (λ y. contents y.next) (contents f.places) p x within read in
    let a : (graph f).aside p ≡ contents x.aside = table_at (λ y. contents y.aside) (contents f.places) p x within read in
    let d : (graph f).reads p ≡ contents x.reads = table_at (λ y. contents y.reads) (contents f.places) p x within read in
    let w : (graph f).writes p ≡ contents x.writes = table_at (λ y. contents y.writes) (contents f.places) p x within read in
    ap (λ (l : List ℕ). arrives l ((graph f).aside p) ((graph f).reads p) ((graph f).writes p) rows p q r) n ∙ (ap (λ (l : List ℕ). arrives (contents x.next) l ((graph f).reads p) ((graph f).writes p) rows p q r) a ∙ (ap (λ (l : List ℕ). arrives (contents x.next) (contents x.aside) l ((graph f).writes p) rows p q r) d ∙ ap (λ (l : List ℕ). arrives (contents x.next) (contents x.aside) (contents x.reads) l rows p q r) w))

arrives_comes : (g : Graph) (rows : List (List Bool)) (p q r : ℕ) → IsComing g rows → arrives (g.next p) (g.aside p) (g.reads p) (g.writes p) rows p q r ≡ true → ComesTo g q r
arrives_comes g rows p q r coming e =
    let a : Bool = list_any (λ k. k == q) (g.aside p) in
    let n : Bool = list_any (λ k. k == q) (g.next p) in
    let w : Bool = list_any (λ k. k == r) (g.writes p) in
    let d : Bool = list_any (λ k. k == r) (g.reads p) in
    let here : Bool = has (set_in_row rows p) r in
    elim (or_cases (a && here) (n && ((here && not w) || d)) e) [
      | inl past ↦
          let parts = and_parts a here past in
          let comes = coming.comes p r parts.1 in
          (suc comes.0, inr (p, contains_from (g.aside p) q parts.0, comes.1))
      | inr onwards ↦
          let parts = and_parts n ((here && not w) || d) onwards in
          let step : Contains (g.next p) q = contains_from (g.next p) q parts.0 in
          elim (or_cases (here && not w) d parts.1) [
            | inl kept ↦
                let both = and_parts here (not w) kept in
                let comes = coming.comes p r both.0 in
                let unwritten : Contains (g.writes p) r → ⊥ = λ c. both_ways w (not-true w both.1) (from_contains (g.writes p) r c) in
                (suc comes.0, inl (p, step, inr (unwritten, comes.1)))
            | inr reads ↦ (suc zero, inl (p, step, inl (contains_from (g.reads p) r reads)))
          ]
    ]

moved_sound : (f : flow.Flow) (old new : List (List Bool)) (p : ℕ) (x : place.Place) (grew : Bool) → p < length (contents f.places) → x ≡ get_or (contents f.places) p x → Spread x f.bound old new p grew → IsComing (graph f) old → IsComing (graph f) new
moved_sound f old new p x grew within read s coming = record {
  comes = λ q r is.
      elim (cases_lt q (length old)) [
        | inl below ↦ elim (or_cases (has (set_in_row old q) r) (arrives (contents x.next) (contents x.aside) (contents x.reads) (contents x.writes) old p q r) (sym (s.members q r below) ∙ is)) [
          | inl before ↦ coming.comes q r before
          | inr arrived ↦ arrives_comes (graph f) old p q r coming (arrives_at f old p x q r within read ∙ arrived)
        ]
        | inr past ↦
            let none : has (set_in_row new q) r ≡ false = ap (λ (m : List Bool). has m r) (get_or_past new q [] (omega (arith, s.len, past))) in
            absurd (both_ways (has (set_in_row new q) r) none is)
      ];
}

pub moved : (f : flow.Flow) (old new : List (List Bool)) (p : ℕ) (x : place.Place) (bound : ℕ) (grew : Bool) → p < length (contents f.places) → x ≡ get_or (contents f.places) p x → bound ≡ f.bound → Spread x bound old new p grew → Moved f old new p grew
moved f old new p x bound grew within read same_bound told =
    let P : ℕ → Type 0 = λ n. Spread x n old new p grew in
    let s : Spread x f.bound old new p grew = subst P same_bound told in
    record {
      len = s.len;
      sizes = s.sizes;
      sound = moved_sound f old new p x grew within read s;
      same = λ e. (
        s.same e,
        record {
          member = λ q r below arrived.
              ap (λ (rows : List (List Bool)). has (set_in_row rows q) r) (sym (s.same e)) ∙ (s.members q r below ∙ or_right (has (set_in_row old q) r) (arrives (contents x.next) (contents x.aside) (contents x.reads) (contents x.writes) old p q r) (sym (arrives_at f old p x q r within read) ∙ arrived));
        },
      );
      fewer = s.fewer;
    }

-- ---- the end

-- an edge leads from a place to a place
from_within : (field : place.Place → List ℕ) (xs : List place.Place) (o q : ℕ) → Contains (get_or (map field xs) o []) q → o < length xs
from_within field xs o q step =
    elim (cases_lt o (length xs)) [
      | inl below ↦ below
      | inr past ↦
          let P : List ℕ → Type 0 = λ l. Contains l q in
          let none : Contains [] q = subst P (table_past field xs o past) step in
          absurd (omega (arith, none.1))
    ]

to_within : (field : place.Place → List ℕ) (xs : List place.Place) (n o q : ℕ) → ((d : place.Place) → o < length xs → All (λ k. k < n) (field (get_or xs o d))) → Contains (get_or (map field xs) o []) q → q < n
to_within field [] n o q all step = absurd (omega (arith, step.1))
to_within field (x ∷ xs) n o q all step =
    let within : o < length (x ∷ xs) = from_within field (x ∷ xs) o q step in
    let P : List ℕ → Type 0 = λ l. Contains l q in
    All-contains (λ k. k < n) (field (get_or (x ∷ xs) o x)) q (all x within) (subst P (get_or-map field (x ∷ xs) o x [] within) step)

next_within : (f : flow.Flow) (o q : ℕ) → IsFlowFormed f → Contains ((graph f).next o) q → q < length (contents f.places)
next_within f o q formed step =
    to_within (λ y. contents y.next) (contents f.places) (length (contents f.places)) o q (λ d within. (All-get_or (IsPlace (length (contents f.places)) f.bound) (contents f.places) o d within formed).next) step

aside_within : (f : flow.Flow) (o q : ℕ) → IsFlowFormed f → Contains ((graph f).aside o) q → q < length (contents f.places)
aside_within f o q formed step =
    to_within (λ y. contents y.aside) (contents f.places) (length (contents f.places)) o q (λ d within. (All-get_or (IsPlace (length (contents f.places)) f.bound) (contents f.places) o d within formed).aside) step

comes_member : (f : flow.Flow) (rows : List (List Bool)) → IsFlowFormed f → length rows ≡ length (contents f.places) → ((p : ℕ) → p < length rows → IsSpreadFrom (graph f) rows p) → (n q r : ℕ) → ComesIn (graph f) r n q → has (set_in_row rows q) r ≡ true
comes_member f rows formed len closed zero q r walk = absurd walk
comes_member f rows formed len closed (suc n) q r (inl (o, step, inl reads)) =
    let g = graph f in
    let from : o < length rows = omega (arith, len, from_within (λ y. contents y.next) (contents f.places) o q step) in
    let to : q < length rows = omega (arith, len, next_within f o q formed step) in
    (closed o from).member q r to (or_right (list_any (λ k. k == q) (g.aside o) && has (set_in_row rows o) r) (list_any (λ k. k == q) (g.next o) && ((has (set_in_row rows o) r && not (list_any (λ k. k == r) (g.writes o))) || list_any (λ k. k == r) (g.reads o))) (and_from (list_any (λ k. k == q) (g.next o)) ((has (set_in_row rows o) r && not (list_any (λ k. k == r) (g.writes o))) || list_any (λ k. k == r) (g.reads o)) (from_contains (g.next o) q step) (or_right (has (set_in_row rows o) r && not (list_any (λ k. k == r) (g.writes o))) (list_any (λ k. k == r) (g.reads o)) (from_contains (g.reads o) r reads))))
comes_member f rows formed len closed (suc n) q r (inl (o, step, inr (unwritten, walk))) =
    let g = graph f in
    let from : o < length rows = omega (arith, len, from_within (λ y. contents y.next) (contents f.places) o q step) in
    let to : q < length rows = omega (arith, len, next_within f o q formed step) in
    let there : has (set_in_row rows o) r ≡ true = comes_member f rows formed len closed n o r walk in
    let kept : not (list_any (λ k. k == r) (g.writes o)) ≡ true = not_from (list_any (λ k. k == r) (g.writes o)) (λ t. unwritten (contains_from (g.writes o) r t)) in
    (closed o from).member q r to (or_right (list_any (λ k. k == q) (g.aside o) && has (set_in_row rows o) r) (list_any (λ k. k == q) (g.next o) && ((has (set_in_row rows o) r && not (list_any (λ k. k == r) (g.writes o))) || list_any (λ k. k == r) (g.reads o))) (and_from (list_any (λ k. k == q) (g.next o)) ((has (set_in_row rows o) r && not (list_any (λ k. k == r) (g.writes o))) || list_any (λ k. k == r) (g.reads o)) (from_contains (g.next o) q step) (or_left (has (set_in_row rows o) r && not (list_any (λ k. k == r) (g.writes o))) (list_any (λ k. k == r) (g.reads o)) (and_from (has (set_in_row rows o) r) (not (list_any (λ k. k == r) (g.writes o))) there kept))))
comes_member f rows formed len closed (suc n) q r (inr (o, step, walk)) =
    let g = graph f in
    let from : o < length rows = omega (arith, len, from_within (λ y. contents y.aside) (contents f.places) o q step) in
    let to : q < length rows = omega (arith, len, aside_within f o q formed step) in
    let there : has (set_in_row rows o) r ≡ true = comes_member f rows formed len closed n o r walk in
    (closed o from).member q r to (or_left (list_any (λ k. k == q) (g.aside o) && has (set_in_row rows o) r) (list_any (λ k. k == q) (g.next o) && ((has (set_in_row rows o) r && not (list_any (λ k. k == r) (g.writes o))) || list_any (λ k. k == r) (g.reads o))) (and_from (list_any (λ k. k == q) (g.aside o)) (has (set_in_row rows o) r) (from_contains (g.aside o) q step) there))

-- the sets say exactly what comes to each place
pub solved_on : (f : flow.Flow) (rows : List (List Bool)) (marks : List Bool) (grew : Bool) → IsFlowFormed f → grew ≡ false → Solving (IsComing (graph f)) (IsSpreadFrom (graph f)) (length (contents f.places)) f.bound rows marks grew → IsReaching f rows
solved_on f rows marks grew formed unchanged s = record {
  len = s.len;
  sizes = s.sizes;
  exact = λ p r. (s.sound.comes p r, λ comes. comes_member f rows formed s.len (s.closed unchanged) comes.0 p r comes.1);
}
