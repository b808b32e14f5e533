-- A visit of one place.
use Rattle.std.proofs.Common.{◌≡◌, ℕ, ◌<◌, Bool, List, length, get_or, sym, ◌∙◌, ap, inl, inr, subst}
use Rattle.std.proofs.Math.ListN as Seq
use Rattle.bs_words.specs.Contents.{contents}
use Rattle.bs_bits.specs.Set.{has}
use Rattle.dataflow.specs.declared.flow.Place as place
use Rattle.dataflow.specs.declared.flow.Flow as flow
use Rattle.dataflow.specs.Flow.{graph}
use Rattle.dataflow.proofs.Visits.{table_at, Visit, member_after, visit_of}
use Rattle.cse_deadcode.specs.Flows.{UsedBefore, is_used_before, is_used_before_place, AreRowsUsed, IsClosedForUse, VisitedForUse}
use Rattle.cse_deadcode.proofs.Steps.{enters_used}

pub enters_at : (f : flow.Flow) (c : ℕ → Bool) (rows : List (List Bool)) (p : ℕ) (x : place.Place) (r : ℕ) → p < length (contents f.places) → x ≡ get_or (contents f.places) p x → is_used_before (c p) ((graph f).next p) ((graph f).aside p) ((graph f).reads p) ((graph f).writes p) rows r ≡ is_used_before_place (c p) x rows r
enters_at f c rows p x r within read =
    let n : (graph f).next p ≡ contents x.next = table_at (λ y. contents y.next) (contents f.places) p x within read in
    let a : (graph f).aside p ≡ contents x.aside = table_at (λ y. contents y.aside) (contents f.places) p x within read in
    let d : (graph f).reads p ≡ contents x.reads = table_at (λ y. contents y.reads) (contents f.places) p x within read in
    let w : (graph f).writes p ≡ contents x.writes = table_at (λ y. contents y.writes) (contents f.places) p x within read in
    ap (λ (l : List ℕ). is_used_before (c p) l ((graph f).aside p) ((graph f).reads p) ((graph f).writes p) rows r) n ∙ (ap (λ (l : List ℕ). is_used_before (c p) (contents x.next) l ((graph f).reads p) ((graph f).writes p) rows r) a ∙ (ap (λ (l : List ℕ). is_used_before (c p) (contents x.next) (contents x.aside) l ((graph f).writes p) rows r) d ∙ ap (λ (l : List ℕ). is_used_before (c p) (contents x.next) (contents x.aside) (contents x.reads) l rows r) w))

-- whether r is used before place p of the graph, by what is known of the next ones
abbrev pub is_used_at : flow.Flow → (ℕ → Bool) → List (List Bool) → ℕ → ℕ → Bool
is_used_at f c rows p r = is_used_before (c p) ((graph f).next p) ((graph f).aside p) ((graph f).reads p) ((graph f).writes p) rows r

pub visited : (f : flow.Flow) (c : ℕ → Bool) (rows : List (List Bool)) (p : ℕ) (set here here' : List Bool) (grew : Bool) → Visit f.bound (is_used_at f c rows p) rows p set here here' grew → VisitedForUse f c rows (Seq.set rows p here') p grew
visited f c rows p set here here' grew v =
    visit_of v (AreRowsUsed (graph f) c) (IsClosedForUse (graph f) c)
    (λ sound. record {
      used = λ q r is.
          elim (member_after v q r is) [
            | inl old ↦ sound.used q r old
            | inr (at, entered) ↦
                let P : ℕ → Type 0 = λ n. UsedBefore (graph f) c n r in
                subst P (sym at) (enters_used (graph f) c rows sound p r entered)
          ];
    })
    (λ all. record { member = all })

-- what a call of `flow_back` reported of the set
pub back_members : (f : flow.Flow) (c : ℕ → Bool) (rows lent : List (List Bool)) (p : ℕ) (x : place.Place) (set : List Bool) (b : Bool) →
    p < length (contents f.places) → x ≡ get_or (contents f.places) p x → lent ≡ rows → b ≡ c p →
    ((r : ℕ) → has set r ≡ is_used_before_place b x lent r) →
    (r : ℕ) → has set r ≡ is_used_before (c p) ((graph f).next p) ((graph f).aside p) ((graph f).reads p) ((graph f).writes p) rows r
back_members f c rows lent p x set b within read e h members r =
    members r
    ∙ (ap (λ (t : Bool). is_used_before_place t x lent r) h
    ∙ (ap (λ (rs : List (List Bool)). is_used_before_place (c p) x rs r) e ∙ sym (enters_at f c rows p x r within read)))
