-- A run of the guarded machine beside the run of the machine.
use Rattle.std.proofs.Common.{◌≡◌, ◌⊎◌, inl, inr, ℕ, zero, suc, ◌≤◌, Bool, true, false, cond, [], ap, ◌∙◌, sym, refl, subst, arith, ⊎_elim, append-nil}
use Rattle.std.proofs.lemmas.Bool.{cond-false}
use Rattle.correctness.specs.InNeed.{AsksOnlyInNeed, AsksOnlyInNeedUntil, IsInNeed}
use Rattle.machine_laws.specs.Steps.{IsFrontOf, IsOrderly}
use Rattle.machine_laws.proofs.Orderly.{machine_orderly}
use Rattle.rv_machine.specs.Run.{Schedule, now_after, one, seen}
use Rattle.rv_machine.specs.Services.{Running, Now, Going, Over, Stopped}
use Rattle.rv_machine.specs.declared.cause.Cause.TheVariants.{BadService}
use Rattle.guarded_machine.specs.Guarded.{guarded_of, guarded_after, is_in_need}
use Rattle.guarded_machine.proofs.Needs.{in_need}

-- ---- it is orderly

stays : (schedule : Schedule) (now : Now) → ((seen now).end ≡ Running) ⊎ (guarded_of schedule now ≡ now)
stays schedule (Going m) = inl refl
stays schedule (Over calls end) = inr refl

step_calls : (schedule : Schedule) (now : Now) → IsFrontOf (seen now).calls (seen (guarded_of schedule now)).calls
step_calls schedule (Over calls end) = ([], sym (append-nil calls))
step_calls schedule (Going m) = by (is_in_need m)
  where
    by : (t : Bool) → IsFrontOf m.calls (seen (cond t (one schedule m) (Over m.calls (Stopped BadService)))).calls
    by true = (machine_orderly schedule).calls (Going m)
    by false = ([], sym (append-nil m.calls))

pub guarded_orderly : (schedule : Schedule) → IsOrderly Now (guarded_of schedule) seen
guarded_orderly schedule = record { stays = λ now. stays schedule now; calls = λ now. step_calls schedule now }

-- ---- it is the run of the machine, or it is refused

abbrev pub IsRefused : Now → Type 0
IsRefused now = (seen now).end ≡ Stopped BadService

over_stays : (schedule : Schedule) (n : ℕ) (now : Now) → guarded_of schedule now ≡ now → guarded_after schedule n now ≡ now
over_stays schedule zero now e = refl
over_stays schedule (suc n) now e = ap (guarded_after schedule n) e ∙ over_stays schedule n now e

pub same_or_refused : (schedule : Schedule) (n : ℕ) (now : Now) → (guarded_after schedule n now ≡ now_after schedule n now) ⊎ IsRefused (guarded_after schedule n now)
same_or_refused schedule zero now = inl refl
same_or_refused schedule (suc n) (Over calls end) = inl (over_stays schedule (suc n) (Over calls end) refl)
same_or_refused schedule (suc n) (Going m) = by (is_in_need m) (same_or_refused schedule n (one schedule m))
  where
    by : (t : Bool) → (guarded_after schedule n (one schedule m) ≡ now_after schedule n (one schedule m)) ⊎ IsRefused (guarded_after schedule n (one schedule m)) →
        (guarded_after schedule n (cond t (one schedule m) (Over m.calls (Stopped BadService))) ≡ now_after schedule n (one schedule m))
        ⊎ IsRefused (guarded_after schedule n (cond t (one schedule m) (Over m.calls (Stopped BadService))))
    by true behind = behind
    by false behind = inr (ap (λ x. (seen x).end) (over_stays schedule n (Over m.calls (Stopped BadService)) refl))

one_more : (schedule : Schedule) (n : ℕ) (now : Now) → guarded_after schedule (suc n) now ≡ guarded_of schedule (guarded_after schedule n now)
one_more schedule zero now = refl
one_more schedule (suc n) now = one_more schedule n (guarded_of schedule now)

-- ---- a refusal is the end

refused_on : (schedule : Schedule) (n : ℕ) (now : Now) → IsRefused now → IsRefused (guarded_after schedule n now)
refused_on schedule n (Going m) r = let e : Running ≡ Stopped BadService = r in absurd (cc)
refused_on schedule n (Over calls end) r = subst IsRefused (sym (over_stays schedule n (Over calls end) refl)) r

stays_refused : (schedule : Schedule) (k n : ℕ) (now : Now) → k ≤ n → IsRefused (guarded_after schedule k now) → IsRefused (guarded_after schedule n now)
stays_refused schedule zero n now le r = refused_on schedule n now r
stays_refused schedule (suc k) zero now le r = absurd (omega (arith, le))
stays_refused schedule (suc k) (suc n) now le r = stays_refused schedule k n (guarded_of schedule now) (omega (arith, le)) r

-- until a moment at which it is not refused the machine asks only in need
pub needed_until : (schedule : Schedule) (start : Now) (n : ℕ) → (IsRefused (guarded_after schedule n start) → ⊥) → AsksOnlyInNeedUntil schedule start n
needed_until schedule start n never k lt m e =
    ⊎_elim (λ same. by same (is_in_need m) refl) (λ r. absurd (never (stays_refused schedule k n start (omega (arith, lt)) r)))
    (same_or_refused schedule k start)
  where
    by : guarded_after schedule k start ≡ now_after schedule k start → (t : Bool) → is_in_need m ≡ t → IsInNeed m
    by same true is = in_need m is
    by same false is =
        absurd (never (stays_refused schedule (suc k) n start (omega (arith, lt)) (ap (λ x. (seen x).end)
        (one_more schedule k start ∙ ap (guarded_of schedule) (same ∙ e) ∙ cond-false (is_in_need m) _ _ is))))

module _ (schedule : Schedule) (start : Now) (never : (n : ℕ) → IsRefused (guarded_after schedule n start) → ⊥) where
  -- where it is never refused
  pub same_run : (n : ℕ) → guarded_after schedule n start ≡ now_after schedule n start
  same_run n = ⊎_elim (λ e. e) (λ r. absurd (never n r)) (same_or_refused schedule n start)

  pub never_needless : AsksOnlyInNeed schedule start
  never_needless n m e = needed_until schedule start (suc n) (never (suc n)) n (omega arith) m e
