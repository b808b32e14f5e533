-- A visit of one place.
use Rattle.std.proofs.Common.{◌≡◌, ◌⊎◌, ℕ, ◌<◌, Bool, true, false, ◌||◌, List, [], ◌∷◌, length, map, get_or, sym, ◌∙◌, ap, inl, inr, arith, refl, subst}
use Rattle.std.proofs.Math.ListN as Seq
use Rattle.std.proofs.lemmas.List.{get_or-map, get_or_default, get_or-set_same, get_or-set_other, set-get_or, length-set}
use Rattle.std.proofs.lemmas.List.Elements.{All-set, All-get_or}
use Rattle.std.proofs.lemmas.List.Sums.{sum_by-set}
use Rattle.std.proofs.lemmas.Bool.{or_cases, cases_eq, both_ways}
use Rattle.bs_words.specs.Contents.{contents}
use Rattle.bs_bits.specs.Set.{has, union, Grew}
use Rattle.bs_bits.proofs.Sets.{length-union, has-union, union_cases, grew_not}
use Rattle.dataflow.specs.declared.flow.Place as place
use Rattle.dataflow.specs.declared.flow.Flow as flow
use Rattle.dataflow.specs.Flow.{graph, LiveBefore, IsPlace, IsFlowFormed}
use Rattle.dataflow.specs.Rows.{set_in_row, HasSizes}
use Rattle.dataflow.specs.Progress.{absent, missing, VisitOf}
use Rattle.dataflow.specs.Sweep.{enters, enters_place, AreRowsLive, IsClosedAt, Visited}
use Rattle.dataflow.proofs.Steps.{enters_live, or_right}

-- a table of the graph at a place that was read
pub table_at : (field : place.Place → List ℕ) (xs : List place.Place) (p : ℕ) (x : place.Place) → p < length xs → x ≡ get_or xs p x → get_or (map field xs) p [] ≡ field x
table_at field xs p x within read = get_or-map field xs p x [] within ∙ ap field (sym read)

pub is_place : (f : flow.Flow) (count bound p : ℕ) (x : place.Place) → IsFlowFormed f → count ≡ length (contents f.places) → bound ≡ f.bound → p < count → x ≡ get_or (contents f.places) p x → IsPlace count bound x
is_place f count bound p x formed e b within read =
    let P : ℕ → Type 0 = λ n. IsPlace n bound x in
    let Q : ℕ → Type 0 = λ n. IsPlace (length (contents f.places)) n x in
    let R : place.Place → Type 0 = λ y. IsPlace (length (contents f.places)) f.bound y in
    subst P (sym e) (subst Q (sym b) (subst R (sym read) (All-get_or (IsPlace (length (contents f.places)) f.bound) (contents f.places) p x (omega arith) formed)))

-- ---- fewer numbers are missing

pub absent_less : (xs ys : List Bool) → (union xs ys ≡ xs) ⊎ (absent (union xs ys) < absent xs)
absent_less [] ys = inl refl
absent_less (x ∷ xs) [] = inl refl
absent_less (true ∷ xs) (y ∷ ys) =
    elim (absent_less xs ys) [ inl e ↦ inl (ap (λ (zs : List Bool). true ∷ zs) e) | inr less ↦ inr less ]
absent_less (false ∷ xs) (false ∷ ys) =
    elim (absent_less xs ys) [ inl e ↦ inl (ap (λ (zs : List Bool). false ∷ zs) e) | inr less ↦ inr (omega (arith, less)) ]
absent_less (false ∷ xs) (true ∷ ys) =
    elim (absent_less xs ys) [ inl e ↦ inr (let same : absent (union xs ys) ≡ absent xs = ap absent e in omega (arith, same)) | inr less ↦ inr (omega (arith, less)) ]

-- ---- a visit

-- what the calls of a visit of place p reported, where `enters` says what enters it
pub record Visit (bound : ℕ) (enters : ℕ → Bool) (rows : List (List Bool)) (p : ℕ) (set here here' : List Bool) (grew : Bool) : Type 0 where
  pub within : p < length rows
  pub sizes : HasSizes bound rows
  pub size : length set ≡ bound
  pub members : (r : ℕ) → has set r ≡ enters r
  pub read : here ≡ get_or rows p here
  pub all : here' ≡ union here set
  pub grew_is : (grew ≡ true → Grew here here') × (Grew here here' → grew ≡ true)

module _ {bound : ℕ} {enters : ℕ → Bool} {rows : List (List Bool)} {p : ℕ} {set here here' : List Bool} {grew : Bool} (v : Visit bound enters rows p set here here' grew) where
  here_row : here ≡ set_in_row rows p
  here_row = v.read ∙ get_or_default rows p here [] v.within

  here_size : length here ≡ bound
  here_size =
      let P : List Bool → Type 0 = λ s. length s ≡ bound in
      subst P (sym v.read) (All-get_or P rows p here v.within v.sizes)

  has_here : (r : ℕ) → has here' r ≡ (has here r || has set r)
  has_here r = ap (λ (m : List Bool). has m r) v.all ∙ has-union here set (here_size ∙ sym v.size) r

  -- a member was one before, or enters
  pub member_after : (q r : ℕ) → has (set_in_row (Seq.set rows p here') q) r ≡ true → (has (set_in_row rows q) r ≡ true) ⊎ ((q ≡ p) × (enters r ≡ true))
  member_after q r is =
      elim (cases_eq q p) [
        | inl at ↦
            let new : has here' r ≡ true = sym (ap (λ (n : ℕ). has (set_in_row (Seq.set rows p here') n) r) at ∙ ap (λ (m : List Bool). has m r) (get_or-set_same rows p here' [] v.within)) ∙ is in
            elim (or_cases (has here r) (has set r) (sym (has_here r) ∙ new)) [
              | inl old ↦ inl (ap (λ (n : ℕ). has (set_in_row rows n) r) at ∙ (ap (λ (m : List Bool). has m r) (sym here_row) ∙ old))
              | inr entered ↦ inr (at, sym (v.members r) ∙ entered)
            ]
        | inr other ↦ inl (sym (ap (λ (m : List Bool). has m r) (get_or-set_other rows p q here' [] other)) ∙ is)
      ]

  visit_same : grew ≡ false → (Seq.set rows p here' ≡ rows) × ((r : ℕ) → enters r ≡ true → has (set_in_row rows p) r ≡ true)
  visit_same unchanged =
      let same : here' ≡ here = elim (union_cases here set) [
        | inl e ↦ v.all ∙ e
        | inr g ↦
            let P : List Bool → Type 0 = λ m. Grew here m in
            let t : grew ≡ true = v.grew_is.1 (subst P (sym v.all) g) in
            absurd (both_ways grew unchanged t)
      ] in (
        ap (λ (m : List Bool). Seq.set rows p m) (same ∙ v.read) ∙ set-get_or rows p here,
        λ r entered.
            ap (λ (m : List Bool). has m r) (sym here_row ∙ sym same) ∙ (has_here r ∙ or_right (has here r) (has set r) (v.members r ∙ entered)),
      )

  visit_fewer : grew ≡ true → missing (Seq.set rows p here') < missing rows
  visit_fewer grown =
      let less : absent here' < absent here = elim (absent_less here set) [
        | inl e ↦ absurd (grew_not here here' (v.all ∙ e) (v.grew_is.0 grown))
        | inr less ↦ let e : absent here' ≡ absent (union here set) = ap absent v.all in omega (arith, e, less)
      ] in
      let e : absent (get_or rows p here) ≡ absent here = ap absent (sym v.read) in
      omega (arith, sum_by-set absent rows p here' here v.within, e, less)

  pub visit_of : (Sound : List (List Bool) → Type 0) (Closed : List (List Bool) → ℕ → Type 0) → (Sound rows → Sound (Seq.set rows p here')) → (((r : ℕ) → enters r ≡ true → has (set_in_row rows p) r ≡ true) → Closed rows p) → VisitOf Sound Closed bound rows (Seq.set rows p here') p grew
  visit_of Sound Closed sound closed = record {
    len = length-set rows p here';
    sizes = let P : List Bool → Type 0 = λ s. length s ≡ bound in All-set P rows p here' (ap length v.all ∙ (length-union here set ∙ here_size)) v.sizes;
    sound = sound;
    same = λ unchanged. ((visit_same unchanged).0, closed (visit_same unchanged).1);
    fewer = visit_fewer;
  }

-- ---- a visit for what is live

pub enters_at : (f : flow.Flow) (rows : List (List Bool)) (p : ℕ) (x : place.Place) (r : ℕ) → p < length (contents f.places) → x ≡ get_or (contents f.places) p x → enters ((graph f).next p) ((graph f).aside p) ((graph f).reads p) ((graph f).writes p) rows r ≡ enters_place x rows r
enters_at f rows p x r within read =
    let n : (graph f).next p ≡ contents x.next = table_at (λ y. contents y.next) (contents f.places) p x within read in
    let a : (graph f).aside p ≡ contents x.aside = table_at (λ y. contents y.aside) (contents f.places) p x within read in
    let d : (graph f).reads p ≡ contents x.reads = table_at (λ y. contents y.reads) (contents f.places) p x within read in
    let w : (graph f).writes p ≡ contents x.writes = table_at (λ y. contents y.writes) (contents f.places) p x within read in
    ap (λ (l : List ℕ). enters l ((graph f).aside p) ((graph f).reads p) ((graph f).writes p) rows r) n ∙ (ap (λ (l : List ℕ). enters (contents x.next) l ((graph f).reads p) ((graph f).writes p) rows r) a ∙ (ap (λ (l : List ℕ). enters (contents x.next) (contents x.aside) l ((graph f).writes p) rows r) d ∙ ap (λ (l : List ℕ). enters (contents x.next) (contents x.aside) (contents x.reads) l rows r) w))

-- whether r enters place p of the graph
abbrev pub enters_place_of : flow.Flow → List (List Bool) → ℕ → ℕ → Bool
enters_place_of f rows p r = enters ((graph f).next p) ((graph f).aside p) ((graph f).reads p) ((graph f).writes p) rows r

pub visited : (f : flow.Flow) (rows : List (List Bool)) (p : ℕ) (set here here' : List Bool) (grew : Bool) → Visit f.bound (enters_place_of f rows p) rows p set here here' grew → Visited f rows (Seq.set rows p here') p grew
visited f rows p set here here' grew v =
    visit_of v (AreRowsLive (graph f)) (IsClosedAt (graph f))
    (λ sound. record {
      live = λ q r is.
          elim (member_after v q r is) [
            | inl old ↦ sound.live q r old
            | inr (at, entered) ↦
                let P : ℕ → Type 0 = λ n. LiveBefore (graph f) n r in
                subst P (sym at) (enters_live (graph f) rows p r sound entered)
          ];
    })
    (λ all. record { member = all })

-- what a call of `flow_back` reported of the set
pub back_members : (f : flow.Flow) (rows lent : List (List Bool)) (p : ℕ) (x : place.Place) (set : List Bool) → p < length (contents f.places) → x ≡ get_or (contents f.places) p x → lent ≡ rows → ((r : ℕ) → has set r ≡ enters_place x lent r) →
    (r : ℕ) → has set r ≡ enters ((graph f).next p) ((graph f).aside p) ((graph f).reads p) ((graph f).writes p) rows r
back_members f rows lent p x set within read e members r =
    members r ∙ (ap (λ (rs : List (List Bool)). enters_place x rs r) e ∙ sym (enters_at f rows p x r within read))
