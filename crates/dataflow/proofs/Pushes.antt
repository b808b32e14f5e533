-- A set that is added to the sets of places.
use Rattle.std.proofs.Common.{◌≡◌, ◌⊎◌, ℕ, ◌+◌, ◌<◌, Bool, true, false, ◌||◌, ◌&&◌, List, [], length, take, get_or, sym, ◌∙◌, ap, inl, inr, arith, refl, subst}
use Rattle.std.specs.Prelude.{◌==◌}
use Rattle.std.specs.List.{list_any, All}
use Rattle.std.proofs.Math.ListN as Seq
use Rattle.std.proofs.lemmas.List.{get_or_default, get_or-set_same, get_or-set_other, set-get_or, length-set}
use Rattle.std.proofs.lemmas.List.Elements.{All-set, All-get_or}
use Rattle.std.proofs.lemmas.List.Folds.{list_any_more}
use Rattle.std.proofs.lemmas.List.Sums.{sum_by-set}
use Rattle.std.proofs.lemmas.Bool.{cases_eq, both_ways, eq-eqb, ne_eqb, or_cases}
use Rattle.bs_bits.specs.Set.{has, union, Grew}
use Rattle.bs_bits.proofs.Sets.{length-union, has-union, union_cases, grew_not}
use Rattle.dataflow.specs.Rows.{set_in_row, HasSizes}
use Rattle.dataflow.specs.Progress.{absent, missing}
use Rattle.dataflow.specs.Spread.{Pushed}
use Rattle.dataflow.proofs.Visits.{absent_less}

or_false : (x : Bool) → x ≡ (x || false)
or_false true = refl
or_false false = refl

pub pushed_none : (marks : List Bool) (rows : List (List Bool)) (places : List ℕ) → HasSizes (length marks) rows → Pushed marks rows rows (take 0 places) false
pushed_none marks rows places sizes = record {
  len = refl;
  sizes = sizes;
  members = λ q r below. or_false (has (set_in_row rows q) r);
  same = λ e. refl;
  most = omega arith;
  fewer = λ e. cc;
}

-- at the place itself, and elsewhere
at_it : (o a s : Bool) → ((o || (a && s)) || s) ≡ (o || ((a || true) && s))
at_it true a s = refl
at_it false true true = refl
at_it false true false = refl
at_it false false s = refl

elsewhere : (o a s : Bool) → (o || (a && s)) ≡ (o || ((a || false) && s))
elsewhere o true s = refl
elsewhere o false s = refl

or_parts : (x y : Bool) → (x || y) ≡ false → (x ≡ false) × (y ≡ false)
or_parts true y e = cc
or_parts false y e = (refl, e)

fewer_here : (here marks here' : List Bool) → here' ≡ union here marks → (here' ≡ here) ⊎ (absent here' < absent here)
fewer_here here marks here' is =
    elim (absent_less here marks) [
      | inl e ↦ inl (is ∙ e)
      | inr less ↦ let e : absent here' ≡ absent (union here marks) = ap absent is in inr (omega (arith, e, less))
    ]

kept_here : (here marks here' : List Bool) (grew : Bool) → here' ≡ union here marks → (grew ≡ true → Grew here here') × (Grew here here' → grew ≡ true) → grew ≡ false → here' ≡ here
kept_here here marks here' grew is told unchanged =
    elim (union_cases here marks) [
      | inl e ↦ is ∙ e
      | inr g ↦
          let P : List Bool → Type 0 = λ m. Grew here m in
          absurd (both_ways grew unchanged (told.1 (subst P (sym is) g)))
    ]

pub pushed_more : (marks : List Bool) (old now : List (List Bool)) (places : List ℕ) (i : ℕ) (here here' : List Bool) (grew grew_here grew' : Bool) → i < length places → All (λ q. q < length old) places → Pushed marks old now (take i places) grew → here ≡ get_or now (get_or places i 0) here → here' ≡ union here marks → (grew_here ≡ true → Grew here here') × (Grew here here' → grew_here ≡ true) → grew' ≡ (grew || grew_here) →
    Pushed marks old (Seq.set now (get_or places i 0) here') (take (i + 1) places) grew'
pushed_more marks old now places i here here' grew grew_here grew' below all p read is told flag =
    let k : ℕ = get_or places i 0 in
    let within : k < length now = omega (arith, All-get_or (λ q. q < length old) places i 0 below all, p.len) in
    let at : here ≡ set_in_row now k = read ∙ get_or_default now k here [] within in
    let P : List Bool → Type 0 = λ s. length s ≡ length marks in
    let size : length here ≡ length marks = subst P (sym read) (All-get_or P now k here within p.sizes) in
    let any : (q : ℕ) → list_any (λ j. j == q) (take (i + 1) places) ≡ (list_any (λ j. j == q) (take i places) || (k == q)) = λ q. list_any_more (λ j. j == q) places i 0 below in
    let less : missing (Seq.set now k here') + absent here ≡ missing now + absent here' =
    subst (λ (s : List Bool). missing (Seq.set now k here') + absent s ≡ missing now + absent here') (sym read) (sum_by-set absent now k here' here within) in
    let few : (here' ≡ here) ⊎ (absent here' < absent here) = fewer_here here marks here' is in
    record {
      len = length-set now k here' ∙ p.len;
      sizes = All-set P now k here' (ap length is ∙ (length-union here marks ∙ size)) p.sizes;
      members = λ q r less_q.
          elim (cases_eq q k) [
            | inl e ↦
                ap (λ (n : ℕ). has (set_in_row (Seq.set now k here') n) r) e ∙ (ap (λ (m : List Bool). has m r) (get_or-set_same now k here' [] within) ∙ (ap (λ (m : List Bool). has m r) is ∙ (has-union here marks size r ∙ (ap (λ (m : List Bool). has m r || has marks r) at ∙ (ap (λ (n : ℕ). has (set_in_row now n) r || has marks r) (sym e) ∙ (ap (λ (b : Bool). b || has marks r) (p.members q r less_q) ∙ (at_it (has (set_in_row old q) r) (list_any (λ j. j == q) (take i places)) (has marks r) ∙ (ap (λ (b : Bool). has (set_in_row old q) r || ((list_any (λ j. j == q) (take i places) || b) && has marks r)) (sym (eq-eqb k q (sym e))) ∙ ap (λ (b : Bool). has (set_in_row old q) r || (b && has marks r)) (sym (any q))))))))))
            | inr ne ↦
                ap (λ (m : List Bool). has m r) (get_or-set_other now k q here' [] ne) ∙ (p.members q r less_q ∙ (elsewhere (has (set_in_row old q) r) (list_any (λ j. j == q) (take i places)) (has marks r) ∙ (ap (λ (b : Bool). has (set_in_row old q) r || ((list_any (λ j. j == q) (take i places) || b) && has marks r)) (sym (ne_eqb k q (λ e. ne (sym e)))) ∙ ap (λ (b : Bool). has (set_in_row old q) r || (b && has marks r)) (sym (any q)))))
          ];
      same = λ e.
          let parts = or_parts grew grew_here (sym flag ∙ e) in
          let kept : here' ≡ here = kept_here here marks here' grew_here is told parts.1 in
          ap (λ (m : List Bool). Seq.set now k m) (kept ∙ read) ∙ (set-get_or now k here ∙ p.same parts.0);
      most = elim few [
        | inl e ↦ let ae : absent here' ≡ absent here = ap absent e in omega (arith, ae, less, p.most)
        | inr fewer ↦ omega (arith, fewer, less, p.most)
      ];
      fewer = λ e. elim (or_cases grew grew_here (sym flag ∙ e)) [
        | inl before ↦ elim few [
          | inl eq ↦ let ae : absent here' ≡ absent here = ap absent eq in omega (arith, ae, less, p.fewer before)
          | inr fewer ↦ omega (arith, fewer, less, p.fewer before)
        ]
        | inr now_grew ↦ elim few [
          | inl eq ↦ absurd (grew_not here here' eq (told.0 now_grew))
          | inr fewer ↦ omega (arith, fewer, less, p.most)
        ]
      ];
    }
