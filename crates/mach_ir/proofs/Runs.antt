-- More steps show the same once a run is over.
use Rattle.std.proofs.Common.{◌≡◌, ℕ, zero, suc, ◌+◌, List, [], ◌∷◌, refl, ap, ◌∙◌, subst, arith}
use Rattle.cmm_meaning.specs.State.{Doing, Asked}
use Rattle.mach_ir.specs.Runs.{Step, Continues, Pays, Deepens, Waits, FinishesBy, Finishes, FinishesRaising, IsStuck, Tally, RunProgress, Running, Asking, Ended, Wrong, paid, came_back, kept_of, handed, run_onward, runs}

module _ {S : Type 0} (step : S → Step S) where
  -- so many more steps from where a run is
  abbrev pub goes_on : ℕ → RunProgress S → RunProgress S
  goes_on n (Running s t) = runs step n s t
  goes_on n (Asking call t) = Asking call t
  goes_on n (Ended doing t) = Ended doing t
  goes_on n Wrong = Wrong

  abbrev added : ℕ → ℕ → ℕ
  added zero n = n
  added (suc k) n = suc (added k n)

  zero_added : (n : ℕ) → n ≡ 0 + n
  zero_added n = omega arith

  added_is : (k n : ℕ) → added k n ≡ k + n
  added_is zero n = zero_added n
  added_is (suc k) n = let e : added k n ≡ k + n = added_is k n in ap suc e ∙ omega arith

  abbrev After : ℕ → ℕ → ℕ → Type 0
  After m k n = (s : S) (t : Tally) → runs step m s t ≡ goes_on n (runs step k s t)

  after_handed : (m k n : ℕ) (call : Asked) (next : Doing → Step S) →
      ((d : Doing) (t : Tally) → run_onward (runs step m) (next d) t ≡ goes_on n (run_onward (runs step k) (next d) t)) →
      (ds : List Doing) (t : Tally) →
      handed (λ d t. run_onward (runs step m) (next d) t) call ds t ≡ goes_on n (handed (λ d t. run_onward (runs step k) (next d) t) call ds t)
  after_handed m k n call next e [] t = refl
  after_handed m k n call next e (d ∷ ds) t = e d (came_back call ds t)

  after_finished : (n : ℕ) (call : Asked) (end : Doing → Tally → RunProgress S) →
      ((d : Doing) (t : Tally) → end d t ≡ goes_on n (end d t)) → (ds : List Doing) (t : Tally) →
      handed end call ds t ≡ goes_on n (handed end call ds t)
  after_finished n call end e [] t = refl
  after_finished n call end e (d ∷ ds) t = e d (came_back call ds t)

  after_step : (m k n : ℕ) → After m k n → (x : Step S) (t : Tally) →
      run_onward (runs step m) x t ≡ goes_on n (run_onward (runs step k) x t)
  after_step m k n ih (Continues s) t = ih s t
  after_step m k n ih (Pays s) t = ih s (paid t)
  after_step m k n ih (Deepens bytes s) t = ih s _
  after_step m k n ih (Waits call next) t = after_handed m k n call next (λ d t. after_step m k n ih (next d) t) t.doings t
  after_step m k n ih (FinishesBy call kept) t = after_finished n call (λ d t. Ended (kept_of kept d) t) (λ d t. refl) t.doings t
  after_step m k n ih (Finishes d) t = refl
  after_step m k n ih (FinishesRaising d) t = refl
  after_step m k n ih IsStuck t = refl

  after_added : (k n : ℕ) → After (added k n) k n
  after_added zero n = λ s t. refl
  after_added (suc k) n = λ s t. after_step (added k n) k n (after_added k n) (step s) t

  -- k + n steps are k, and then n from there, so that an end stays an end
  pub runs_on : (k n : ℕ) (s : S) (t : Tally) → runs step (k + n) s t ≡ goes_on n (runs step k s t)
  runs_on k n s t = subst (λ m. runs step m s t ≡ goes_on n (runs step k s t)) (added_is k n) (after_added k n s t)
