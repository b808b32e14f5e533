-- What sweeps over the places keep, whatever the sets are to tell.
use Rattle.std.proofs.Common.{◌≡◌, ℕ, ◌+◌, ◌-◌, ◌<◌, ◌≤◌, Bool, true, false, ◌||◌, List, length, sym, ◌∙◌, ap, inl, inr, arith, refl, subst}
use Rattle.std.proofs.lemmas.Bool.{cases_eq, or_cases, or_parts}
use Rattle.dataflow.specs.Progress.{missing, VisitOf, SweepOf}
use Rattle.dataflow.specs.Rows.{HasSizes}

-- the places from p on were visited, and nothing grew before the last visit
pub record SweepingDown (Sound : List (List Bool) → Type 0) (Closed : List (List Bool) → ℕ → Type 0) (bound : ℕ) (old now : List (List Bool)) (set : List Bool) (p : ℕ) (grew : Bool) : Type 0 where
  pub within : p ≤ length now
  pub len : length now ≡ length old
  pub size : length set ≡ bound
  pub sizes : HasSizes bound now
  pub sound : Sound old → Sound now
  pub same : grew ≡ false → (now ≡ old) × ((q : ℕ) → p ≤ q → q < length old → Closed old q)
  pub fewer : grew ≡ true → missing now < missing old

-- the places before p were visited
pub record SweepingUp (Sound : List (List Bool) → Type 0) (Closed : List (List Bool) → ℕ → Type 0) (bound : ℕ) (old now : List (List Bool)) (set : List Bool) (p : ℕ) (grew : Bool) : Type 0 where
  pub len : length now ≡ length old
  pub size : length set ≡ bound
  pub sizes : HasSizes bound now
  pub sound : Sound old → Sound now
  pub same : grew ≡ false → (now ≡ old) × ((q : ℕ) → q < p → Closed old q)
  pub most : missing now ≤ missing old
  pub fewer : grew ≡ true → missing now < missing old

-- the sets of so many places are sound, and closed once nothing grew
pub record Solving (Sound : List (List Bool) → Type 0) (Closed : List (List Bool) → ℕ → Type 0) (count bound : ℕ) (rows : List (List Bool)) (set : List Bool) (grew : Bool) : Type 0 where
  pub len : length rows ≡ count
  pub size : length set ≡ bound
  pub sizes : HasSizes bound rows
  pub sound : Sound rows
  pub closed : grew ≡ false → (p : ℕ) → p < length rows → Closed rows p

module _ {Sound : List (List Bool) → Type 0} {Closed : List (List Bool) → ℕ → Type 0} {bound : ℕ} where
  -- ---- from the last to the first

  pub down_more : {old now now' : List (List Bool)} {set set' : List Bool} (p : ℕ) {grew here : Bool} → 0 < p → grew ≡ false → SweepingDown Sound Closed bound old now set p grew → length set' ≡ bound → VisitOf Sound Closed bound now now' (p - 1) here →
      SweepingDown Sound Closed bound old now' set' (p - 1) here
  down_more {old} {now} {now'} p some unchanged s size v = record {
    within = omega (arith, s.within, v.len);
    len = v.len ∙ s.len;
    size = size;
    sizes = v.sizes;
    sound = λ sound. v.sound (s.sound sound);
    same = λ e.
        let before = s.same unchanged in
        let P : List (List Bool) → Type 0 = λ rows. Closed rows (p - 1) in (
          (v.same e).0 ∙ before.0,
          λ q from below.
              elim (cases_eq q (p - 1)) [
                | inl at ↦
                    let Q : ℕ → Type 0 = λ n. Closed old n in
                    subst Q (sym at) (subst P before.0 (v.same e).1)
                | inr other ↦ before.1 q (omega arith) below
              ],
        );
    fewer = λ e. let same : missing now ≡ missing old = ap missing (s.same unchanged).0 in omega (arith, same, v.fewer e);
  }

  -- ---- from the first to the last

  pub up_none : (rows : List (List Bool)) (set : List Bool) → length set ≡ bound → HasSizes bound rows → SweepingUp Sound Closed bound rows rows set 0 false
  up_none rows set size sizes = record {
    len = refl;
    size = size;
    sizes = sizes;
    sound = λ s. s;
    same = λ e. (refl, λ q below. absurd (omega (arith, below)));
    most = omega arith;
    fewer = λ e. cc;
  }

  visited_most : (old new : List (List Bool)) (p : ℕ) (grew : Bool) → VisitOf Sound Closed bound old new p grew → missing new ≤ missing old
  visited_most old new p true v = omega (arith, v.fewer refl)
  visited_most old new p false v = let e : missing new ≡ missing old = ap missing (v.same refl).0 in omega (arith, e)

  pub up_more : {old now now' : List (List Bool)} {set set' : List Bool} (p : ℕ) {grew here grew' : Bool} → SweepingUp Sound Closed bound old now set p grew → length set' ≡ bound → VisitOf Sound Closed bound now now' p here → grew' ≡ (grew || here) →
      SweepingUp Sound Closed bound old now' set' (p + 1) grew'
  up_more {old} {now} {now'} p {grew} {here} s size v flag = record {
    len = v.len ∙ s.len;
    size = size;
    sizes = v.sizes;
    sound = λ sound. v.sound (s.sound sound);
    same = λ e.
        let parts = or_parts grew here (sym flag ∙ e) in
        let before = s.same parts.0 in
        let P : List (List Bool) → Type 0 = λ rows. Closed rows p in (
          (v.same parts.1).0 ∙ before.0,
          λ q below.
              elim (cases_eq q p) [
                | inl at ↦
                    let Q : ℕ → Type 0 = λ n. Closed old n in
                    subst Q (sym at) (subst P before.0 (v.same parts.1).1)
                | inr other ↦ before.1 q (omega (arith, other, below))
              ],
        );
    most = omega (arith, s.most, visited_most now now' p here v);
    fewer = λ e. elim (or_cases grew here (sym flag ∙ e)) [
      | inl before ↦ omega (arith, s.fewer before, visited_most now now' p here v)
      | inr now_grew ↦ omega (arith, s.most, v.fewer now_grew)
    ];
  }

  -- ---- one sweep after the other

  swept_most : (old new : List (List Bool)) (grew : Bool) → SweepOf Sound Closed bound old new grew → missing new ≤ missing old
  swept_most old new true s = omega (arith, s.fewer refl)
  swept_most old new false s = let e : missing new ≡ missing old = ap missing (s.same refl).0 in omega (arith, e)

  pub swept_both : {old mid new : List (List Bool)} {first second grew : Bool} → SweepOf Sound Closed bound old mid first → SweepOf Sound Closed bound mid new second → grew ≡ (first || second) → SweepOf Sound Closed bound old new grew
  swept_both {old} {mid} {new} {first} {second} a b flag = record {
    len = b.len ∙ a.len;
    sizes = b.sizes;
    sound = λ s. b.sound (a.sound s);
    same = λ e.
        let parts = or_parts first second (sym flag ∙ e) in
        ((b.same parts.1).0 ∙ (a.same parts.0).0, (a.same parts.0).1);
    fewer = λ e. elim (or_cases first second (sym flag ∙ e)) [
      | inl grown ↦ omega (arith, a.fewer grown, swept_most mid new second b)
      | inr grown ↦ omega (arith, b.fewer grown, swept_most old mid first a)
    ];
  }
