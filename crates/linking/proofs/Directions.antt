-- From one call that the machine does to both directions of what it means to be correct.
use Rattle.std.proofs.Common.{◌≡◌, ◌⊎◌, inl, inr, ℕ, zero, suc, ◌+◌, ◌-◌, ◌*◌, ◌≤◌, ◌<◌, true, Option, refl, sym, ap, subst, ◌∙◌, arith}
use Rattle.std.proofs.Math.Nat.{mul-le-mul_left}
use Rattle.std.proofs.lemmas.Bool.{cases_lt}
use Rattle.bs_words.specs.Fits.{fits}
use Rattle.bs_words.specs.declared.types.Ret.{Ret}
use Rattle.bs_words.specs.declared.types.Ty.TheVariants as ty
use Rattle.bs_words.specs.declared.values.Value.{Value}
use Rattle.cmm_meaning.specs.Layout.{Layout}
use Rattle.cmm_meaning.specs.Run.{Outcome, Run, Returned, Raised, Asks, More, Improper, IsProper, finished}
use Rattle.cmm_meaning.specs.State.{Doing, World, Here}
use Rattle.cmm_meaning.specs.Evaluation.{OutOfFuel, NotProper, NoAnswer, Asking, Evaluation, Gives, Exits, Raises, Stops}
use Rattle.correctness.specs.Correct.{EndsAlike, Alike, IsGiven, Forwards, Accounted, Backwards}
use Rattle.machine_laws.specs.Steps.{moments, IsFrontOf, IsOrderly}
use Rattle.meaning_laws.specs.Fitting.{FitsResult, GivesFit, gives_fit, RaisedFits, raised_fits}
use Rattle.meaning_laws.proofs.Units.{Begins-same}
use Rattle.rv_machine.specs.Run.{Seen}
use Rattle.rv_machine.specs.Services.{End, Running}
use Rattle.rv_machine.specs.Services as machine
use Rattle.linking.specs.Carries.{Outer, outer_of, Out, no_stack, no_heap, EventuallyHolds, Spends, DoesCall}
use Rattle.linking.specs.Assembled.{IsStub}
use Rattle.linking.proofs.Coming.{moments_add, front_same, front_trans, comes_on, comes_map}

-- ---- a machine as such

module _ (X : Type 0) (turn : X → X) (see : X → Seen) (orderly : IsOrderly X turn see) where
  -- what has come to be seen so many instructions later
  pub data Onwards (x y : X) : Type 0 where
    over : y ≡ x → Onwards x y
    runs : (see x).end ≡ Running → IsFrontOf (see x).calls (see y).calls → Onwards x y

  stay : (k : ℕ) (x : X) → turn x ≡ x → moments turn k x ≡ x
  stay zero x e = refl
  stay (suc k) x e = ap (moments turn k) e ∙ stay k x e

  prefixes : (k : ℕ) (x : X) → IsFrontOf (see x).calls (see (moments turn k x)).calls
  prefixes zero x = front_same (see x).calls
  prefixes (suc k) x = front_trans _ _ _ (orderly.calls x) (prefixes k (turn x))

  onwards_by : (k : ℕ) (x : X) → ((see x).end ≡ Running) ⊎ (turn x ≡ x) → Onwards x (moments turn k x)
  onwards_by k x (inl r) = runs r (prefixes k x)
  onwards_by k x (inr e) = over (stay k x e)

  pub onwards : (k : ℕ) (x : X) → Onwards x (moments turn k x)
  onwards k x = onwards_by k x (orderly.stays x)

  pub later : (m n : ℕ) (x : X) → m ≤ n → Onwards (moments turn m x) (moments turn n x)
  later m n x le =
      let e : m + (n - m) ≡ n = omega arith in
      subst (Onwards (moments turn m x)) (sym (moments_add X turn m (n - m) x) ∙ ap (λ k. moments turn k x) e) (onwards (n - m) (moments turn m x))

-- ---- arithmetic

within : (n units words all count c d : ℕ) → units ≤ n → c ≤ words * (2 * units + 1) → d ≤ 2 → words + 1 ≤ all → count ≡ c + d → count ≤ 2 * (n + 1) * all
within n units words all count c d a b e le is =
    let one : words * units ≤ words * n = mul-le-mul_left words a in
    let two : (2 * (n + 1)) * (words + 1) ≤ (2 * (n + 1)) * all = mul-le-mul_left (2 * (n + 1)) le in
    omega arith

past : (most m units : ℕ) → most * (2 * m + 1) + 1 ≤ 0 + most * (2 * units + 1) → m < units
past most m units le = by (cases_lt m units)
  where
    by : (m < units) ⊎ (units ≤ m) → m < units
    by (inl lt) = lt
    by (inr ge) = let k : most * units ≤ most * m = mul-le-mul_left most ge in absurd (omega arith)

-- ---- how a run is seen in the machine

abbrev pub end_of : Outcome → End
end_of (Returned value) = machine.Returned value
end_of (Raised value) = machine.Raised value
end_of (Asks call) = machine.Asks call
end_of More = Running
end_of (Improper kind) = Running

abbrev pub seen_of : Run → Seen
seen_of r = record { calls = r.calls; end = end_of r.outcome }

ends_alike : (o : Outcome) (e : End) → e ≡ end_of o → EndsAlike o e
ends_alike (Returned value) e is = is
ends_alike (Raised value) e is = is
ends_alike (Asks call) e is = is
ends_alike More e is = is
ends_alike (Improper kind) e is = tt

alike : (r : Run) (now : Seen) → now ≡ seen_of r → Alike r now
alike r now is = record { calls = ap (λ (s : Seen). s.calls) is; end = ends_alike r.outcome now.end (ap (λ (s : Seen). s.end) is) }

-- the end of a run of n units of which so many are left, in the machine
pub record Over (X : Type 0) (see : X → Seen) (most words n : ℕ) (e : Seen) (left : ℕ) (count : ℕ) (x : X) : Type 0 where
  pub units : ℕ
  pub no_more : units + left ≤ n
  pub enough : n ≤ left + most * (2 * units + 1)
  pub lower : units ≤ count + 1
  pub c : ℕ
  pub d : ℕ
  pub is : count ≡ c + d
  pub upper : c ≤ words * (2 * units + 1)
  pub two : d ≤ 2
  pub at : see x ≡ e

-- ---- both directions

module _ (X : Type 0) (turn : X → X) (see : X → Seen) (stack heap most words all : ℕ) (room : words + 1 ≤ all) (run : ℕ → Run) (x : X)
    (told : (n : ℕ) → IsProper (run n).outcome → EventuallyHolds X turn see stack heap (run n).stack_need (run n).heap_need (run n).calls
    (Over X see most words n (seen_of (run n)) (run n).left) x) where
  fits_out : (r : Run) (count : ℕ) (y : X) → IsGiven r stack heap → Out X turn see stack heap r.stack_need r.heap_need r.calls y → ⊥
  fits_out r count y given (no_stack lt e calls) = absurd (omega (arith, lt, given.stack_fits))
  fits_out r count y given (no_heap lt e calls) = absurd (omega (arith, lt, given.heap_fits))

  pub forwards : Forwards run (λ m. see (moments turn m x)) stack heap all
  forwards = record { does = λ n given. by n given ((told n given.proper).count) ((told n given.proper).at) }
    where
      by : (n : ℕ) → IsGiven (run n) stack heap → (count : ℕ) →
          Over X see most words n (seen_of (run n)) (run n).left count (moments turn count x) ⊎ Out X turn see stack heap (run n).stack_need
          (run n).heap_need (run n).calls (moments turn count x) →
          (m : ℕ) × (m ≤ 2 * (n + 1) * all) × Alike (run n) (see (moments turn m x))
      by n given count (inl o) = (
        count,
        within n o.units words all count o.c o.d (omega (arith, o.no_more)) o.upper o.two room o.is,
        alike (run n)
            (see (moments turn count x)) o.at,
      )
      by n given count (inr o) = absurd (fits_out (run n) count (moments turn count x) given o)

  module _ (orderly : IsOrderly X turn see) (empty : (n : ℕ) → (run n).outcome ≡ More → (run n).left ≡ 0) where
    record Explained (n : ℕ) (now : Seen) : Type 0 where
      calls : IsFrontOf now.calls (run n).calls
      end : Accounted run stack heap now now.end

    running : (n : ℕ) (now : Seen) → now.end ≡ Running → IsFrontOf now.calls (run n).calls → Explained n now
    running n now e calls = record { calls = calls; end = subst (Accounted run stack heap now) (sym e) tt }

    no_room : (n : ℕ) (y : X) → Out X turn see stack heap (run n).stack_need (run n).heap_need (run n).calls y → Explained n (see y)
    no_room n y (no_stack lt e calls) = record { calls = calls; end = subst (Accounted run stack heap (see y)) (sym e) (n, lt) }
    no_room n y (no_heap lt e calls) = record { calls = calls; end = subst (Accounted run stack heap (see y)) (sym e) (n, lt) }

    -- a state that is over, and what is before or after it
    around : (m count n : ℕ) → ((see (moments turn count x)).end ≡ Running → m ≤ count) → Explained n (see (moments turn count x)) →
        (m < count) ⊎ (count ≤ m) → Explained n (see (moments turn m x))
    around m count n early known (inl lt) = by (later X turn see orderly m count x (omega (arith, lt)))
      where
        by : Onwards X turn see orderly (moments turn m x) (moments turn count x) → Explained n (see (moments turn m x))
        by (over e) = subst (λ y. Explained n (see y)) e known
        by (runs r pre) = running n (see (moments turn m x)) r (front_trans _ _ _ pre known.calls)
    around m count n early known (inr ge) = by (later X turn see orderly count m x ge)
      where
        by : Onwards X turn see orderly (moments turn count x) (moments turn m x) → Explained n (see (moments turn m x))
        by (over e) = subst (λ y. Explained n (see y)) (sym e) known
        by (runs r pre) = let e : count ≡ m = omega (arith, ge, early r) in subst (λ k. Explained n (see (moments turn k x))) e known

    explained_over : (n : ℕ) (now : Seen) → IsProper (run n).outcome → now ≡ seen_of (run n) → Explained n now
    explained_over n now proper is = record {
      calls = subst (IsFrontOf now.calls) (ap (λ (s : Seen). s.calls) is) (front_same now.calls);
      end = by
          (run n).outcome refl;
    }
      where
        ends : now.end ≡ end_of (run n).outcome
        ends = ap (λ (s : Seen). s.end) is

        by : (o : Outcome) → (run n).outcome ≡ o → Accounted run stack heap now now.end
        by (Returned value) e = subst (Accounted run stack heap now) (sym (ends ∙ ap end_of e)) (n, alike (run n) now is)
        by (Raised value) e = subst (Accounted run stack heap now) (sym (ends ∙ ap end_of e)) (n, alike (run n) now is)
        by (Asks call) e = subst (Accounted run stack heap now) (sym (ends ∙ ap end_of e)) (n, alike (run n) now is)
        by More e = subst (Accounted run stack heap now) (sym (ends ∙ ap end_of e)) tt
        by (Improper kind) e = subst (Accounted run stack heap now) (sym (ends ∙ ap end_of e)) tt

    outcome_running : (o : Outcome) → IsProper o → end_of o ≡ Running → o ≡ More
    outcome_running (Returned value) proper e = absurd (cc)
    outcome_running (Raised value) proper e = absurd (cc)
    outcome_running (Asks call) proper e = absurd (cc)
    outcome_running More proper e = refl
    outcome_running (Improper kind) proper e = absurd proper

    -- with so many units the run of the text is past m instructions, or over
    explained : (proper : (n : ℕ) → IsProper (run n).outcome) (m : ℕ) → Explained (most * (2 * m + 1) + 1) (see (moments turn m x))
    explained proper m = by (most * (2 * m + 1) + 1) refl ((told (most * (2 * m + 1) + 1) (proper (most * (2 * m + 1) + 1))).count)
        ((told (most * (2 * m + 1) + 1) (proper (most * (2 * m + 1) + 1))).at)
      where
        by : (n : ℕ) → n ≡ most * (2 * m + 1) + 1 → (count : ℕ) →
            Over X see most words n (seen_of (run n)) (run n).left count (moments turn count x) ⊎ Out X turn see stack heap (run n).stack_need
            (run n).heap_need (run n).calls (moments turn count x) →
            Explained n (see (moments turn m x))
        by n is count (inl o) =
            around m count n
            (λ r.
            let none = empty n (outcome_running (run n).outcome (proper n) (sym (ap (λ (s : Seen). s.end) o.at) ∙ r)) in
            let far = past most m o.units (omega (arith, o.enough, none, is)) in
            omega (arith, far, o.lower))
            (explained_over n (see (moments turn count x)) (proper n) o.at) (cases_lt m count)
        by n is count (inr o) = around m count n (λ r. absurd (not_running o r)) (no_room n (moments turn count x) o) (cases_lt m count)
          where
            not_running : Out X turn see stack heap (run n).stack_need (run n).heap_need (run n).calls (moments turn count x) →
                (see (moments turn count x)).end ≡ Running → ⊥
            not_running (no_stack lt e calls) r = cc
            not_running (no_heap lt e calls) r = cc

    pub backwards : Backwards run (λ m. see (moments turn m x)) stack heap
    backwards = record { calls = λ proper m. (most * (2 * m + 1) + 1, (explained proper m).calls); end = λ proper m. (explained proper m).end }

module _ (X : Type 0) (turn : X → X) (see : X → Seen) (stack heap most words : ℕ) (layout : Layout) (end : ℕ) (result : Ret)
    (Back : Doing → Outer → X → Type 0)
    (stub : IsStub X turn see stack heap layout end result Back) where
  abbrev pub IsOver : ℕ → Run → ℕ → X → Type 0
  IsOver n r = Over X see most words n (seen_of r) r.left

  just : {n : ℕ} (r : Run) {left count : ℕ} {y : X} (P : X → Type 0) → r.left ≡ left → (P y → see y ≡ seen_of r) → {owed : ℕ} → owed ≤ 1 →
      Spends owed most words n left P count y → IsOver n r count y
  just r {count = count} P is to few s =
      let no = s.no_more in
      let en = s.enough in
      let up = s.upper in
      record {
        units = s.units;
        no_more = omega (arith, no, is);
        enough = omega (arith, en, is);
        lower = let low = s.lower in omega (arith, low, few);
        c = count;
        d = 0;
        is = omega arith;
        upper = omega (arith, up);
        two = omega arith;
        at = to s.at;
      }

  given_fits : {v : Option Value} {h : Here} {u : World} → GivesFit end result (Gives v h u) → FitsResult end result v
  given_fits (gives_fit fit) = fit

  raise_fits : {v : Value} {h : Here} {u : World} → RaisedFits end (Raises v h u) → fits end ty.Val v ≡ true
  raise_fits (raised_fits fit) = fit

  -- what the machine does for the whole run is what is said of it
  pub told_of : (w : World) (x : X) (e : Evaluation) → GivesFit end result e → RaisedFits end e → DoesCall X turn see stack heap most words Back w x e →
      IsProper (finished layout e).outcome →
      EventuallyHolds X turn see stack heap (finished layout e).stack_need (finished layout e).heap_need (finished layout e).calls (IsOver w.left (finished layout e)) x
  told_of w x (Gives v h u) fit raised c proper =
      comes_on X turn see stack heap x (omega arith) (omega arith) (Begins-same u.made) c (λ c1 y spends.
      comes_map X turn see stack heap y (omega arith) (omega arith) (Begins-same u.made)
      (stub.returned v u.memory (outer_of u) y (given_fits fit) spends.at) (λ d z near.
      let lo = spends.lower in
      let up = spends.upper in
      record {
        units = spends.units;
        no_more = spends.no_more;
        enough = spends.enough;
        lower = omega (arith, lo);
        c = c1;
        d = d;
        is = refl;
        upper = omega (arith, up);
        two = near.upper;
        at = near.at;
      }))
  told_of w x (Raises v h u) fit raised c proper =
      comes_on X turn see stack heap x (omega arith) (omega arith) (Begins-same u.made) c (λ c1 y spends.
      comes_map X turn see stack heap y (omega arith) (omega arith) (Begins-same u.made)
      (stub.raised v u.memory (outer_of u) y (raise_fits raised) spends.at) (λ d z near.
      let lo = spends.lower in
      let up = spends.upper in
      record {
        units = spends.units;
        no_more = spends.no_more;
        enough = spends.enough;
        lower = omega (arith, lo);
        c = c1;
        d = d;
        is = refl;
        upper = omega (arith, up);
        two = near.upper;
        at = near.at;
      }))
  told_of w x (Stops OutOfFuel u) fit raised c proper =
      comes_map X turn see stack heap x (omega arith) (omega arith) (Begins-same u.made) c
      (λ d y s. just (finished layout (Stops OutOfFuel u)) _ refl (λ at. at) (omega arith) s)
  told_of w x (Stops (NoAnswer call) u) fit raised c proper =
      comes_map X turn see stack heap x (omega arith) (omega arith) (Begins-same u.made) c
      (λ d y s. just (finished layout (Stops (NoAnswer call) u)) _ refl (λ at. at) (omega arith) s)
  told_of w x (Stops (NotProper kind) u) fit raised c proper = absurd proper
  told_of w x (Stops (Asking call) u) fit raised c proper = absurd proper
  told_of w x (Exits label values h u) fit raised c proper = absurd proper
