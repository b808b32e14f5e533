-- A relation between the states of two functions that each step of the first keeps.
use Rattle.std.proofs.Common.{◌≡◌, ℕ, zero, suc, ◌<◌, List, [], ◌∷◌, refl, subst, arith}
use Rattle.mach_ir.specs.Known.{Doing, Asked}
use Rattle.bs_words.specs.declared.types.Ret.{Ret}
use Rattle.mach_ir.specs.Acts.{Around}
use Rattle.mach_ir.specs.Runs.{ActivationSetting, Step, Continues, Pays, Deepens, Waits, FinishesBy, Finishes, FinishesRaising, IsStuck, Tally, RunProgress, Running, Asking, Ended, Wrong, paid, came_back, kept_of, handed, run_onward}
use Rattle.mach_ir.specs.Meaning.{State, step, run_of_mach}
use Rattle.mach_ir.specs.Keeps.{ValsWritten, OriginsAgree, wrote_unless, wrote_at, just_written, Proper, RunsAlike, SuitRound, both_running, both_asking, both_ended, Comes}
use Rattle.mach_ir.specs.declared.reg.Reg.{Reg}
use Rattle.mach_ir.specs.declared.mach.Mach.{Mach}
use Rattle.mach_laws.proofs.Runs.{none_below, running_same, alike_goes}

-- registers of one origin agree where an instruction that writes these registers has come to
abbrev pub Agrees : Mach → List Reg → State → Type 0
Agrees m ws s = OriginsAgree m (wrote_unless s.around.raised ws) s

-- and where a step comes to, if it does
abbrev pub ArrivesWell : Mach → List Reg → Step State → Type 0
ArrivesWell m ws (Continues s) = Agrees m ws s
ArrivesWell m ws (Pays s) = Agrees m ws s
ArrivesWell m ws (Deepens bytes s) = Agrees m ws s
ArrivesWell m ws (Waits call go) = Unit {0}
ArrivesWell m ws (FinishesBy call kept) = Unit {0}
ArrivesWell m ws (Finishes d) = Unit {0}
ArrivesWell m ws (FinishesRaising d) = Unit {0}
ArrivesWell m ws IsStuck = Unit {0}

-- ---- runs that are nowhere stuck, step by step

-- what is asked of the states of a run, but that it goes: `at k` is the run after k steps
record Fine (m : Mach) (n : ℕ) (at : ℕ → RunProgress State) : Type 0 where
  vals : (k : ℕ) → k < n → (u : State) (y : Tally) → at k ≡ Running u y → ValsWritten m u
  origins : (k : ℕ) → k < n → (u v : State) (y z : Tally) → at k ≡ Running u y → at (suc k) ≡ Running v z →
      OriginsAgree m (just_written m u v) v

-- and where it begins with a step by an instruction that writes these registers
record FineFrom (m : Mach) (n : ℕ) (ws : List Reg) (at : ℕ → RunProgress State) : Type 0 where
  first : (v : State) (z : Tally) → at 0 ≡ Running v z → Agrees m ws v
  fine : Fine m n at

nowhere : (m : Mach) (at : ℕ → RunProgress State) → Fine m 0 at
nowhere m at =
    record { vals = λ k le u y e. none_below k le; origins = λ k le u v y z e h. none_below k le }

not_asking : (call : Asked) (t : Tally) (v : State) (z : Tally) → Asking call t ≡ Running v z → ⊥
not_asking call t v z e = cc

not_ended : (d : Doing) (t : Tally) (v : State) (z : Tally) → Ended d t ≡ Running v z → ⊥
not_ended d t v z e = cc

module _ (c : ActivationSetting) (p q : Mach) (Suit : Around → Around → Type 0) (R : State → State → Type 0) where
  -- What the second function comes to, where the first does this step by an instruction that writes these registers, and
  -- the second has just done this step by one that writes those. The second may go on alone.
  pub data Arrives (ws : List Reg) : List Reg → Step State → Step State → Type 0 where
    both_continue : {xs : List Reg} {s t : State} → (Agrees p ws s → R s t × Agrees q xs t) →
        Arrives ws xs (Continues s) (Continues t)
    both_pay : {xs : List Reg} {s t : State} → (Agrees p ws s → R s t × Agrees q xs t) →
        Arrives ws xs (Pays s) (Pays t)
    both_deepen : {xs : List Reg} {bytes : ℕ} {s t : State} → (Agrees p ws s → R s t × Agrees q xs t) →
        Arrives ws xs (Deepens bytes s) (Deepens bytes t)
    both_wait : {xs : List Reg} {call : Asked} {next go : Doing → Step State} →
        ((d : Doing) → Arrives ws xs (next d) (go d)) → Arrives ws xs (Waits call next) (Waits call go)
    both_finish_by : {xs : List Reg} {call : Asked} {kept : Ret} →
        Arrives ws xs (FinishesBy call kept) (FinishesBy call kept)
    both_finish : {xs : List Reg} {d : Doing} → Arrives ws xs (Finishes d) (Finishes d)
    both_finish_raising : {xs : List Reg} {d : Doing} → Arrives ws xs (FinishesRaising d) (FinishesRaising d)
    first_stuck : {xs : List Reg} {w : Step State} → Arrives ws xs IsStuck w
    later : {xs : List Reg} {x : Step State} {t : State} → (ArrivesWell p ws x → Agrees q xs t) → ValsWritten q t →
        Arrives ws (wrote_at q t.rest) x (step c q t) → Arrives ws xs x (Continues t)

  -- The same where the second is at this state: it waits, or begins with a step.
  pub data Answers (ws : List Reg) (t : State) : Step State → Type 0 where
    stays : {s : State} → (Agrees p ws s → R s t) → Answers ws t (Continues s)
    stuck : Answers ws t IsStuck
    steps : {x : Step State} → ValsWritten q t → Arrives ws (wrote_at q t.rest) x (step c q t) → Answers ws t x

  -- each step of the first is answered by some steps of the second
  pub record Closed : Type 0 where
    pub suits : (s t : State) → R s t → Suit s.around t.around
    pub next : (s t : State) → R s t → ValsWritten p s → Answers (wrote_at p s.rest) t (step c p s)

  -- ---- what is shown of it

  record Tells (r : RunProgress State) (at : ℕ → RunProgress State) : Type 0 where
    count : ℕ
    alike : RunsAlike (SuitRound Suit) r (at count)
    fine : Fine q count at

  record TellsFrom (r : RunProgress State) (xs : List Reg) (at : ℕ → RunProgress State) : Type 0 where
    count : ℕ
    alike : RunsAlike (SuitRound Suit) r (at count)
    fine : FineFrom q count xs at

  module _ (closed : Closed) where
    abbrev From : Mach → Step State → Tally → ℕ → RunProgress State
    From m x y = λ k. run_onward (run_of_mach c m k) x y

    abbrev Whole : ℕ → Type 0
    Whole n = (s t : State) (y : Tally) → R s t → Fine p n (λ k. run_of_mach c p k s y) → (run_of_mach c p n s y ≡ Wrong → ⊥) →
        Tells (run_of_mach c p n s y) (λ k. run_of_mach c q k t y)

    -- where the second goes on from a state, and that state comes first
    stepped : {r : RunProgress State} {t : State} {y : Tally} → ValsWritten q t →
        TellsFrom r (wrote_at q t.rest) (From q (step c q t) y) → Tells r (λ k. run_of_mach c q k t y)
    stepped {r} {t} {y} written b =
        record { count = suc b.count; alike = b.alike; fine = record { vals = vals_by; origins = origins_by } }
      where
        vals_by : (k : ℕ) → k < suc b.count → (u : State) (z : Tally) → run_of_mach c q k t y ≡ Running u z → ValsWritten q u
        vals_by zero le u z e = subst (ValsWritten q) (running_same t u y z e) written
        vals_by (suc k) le u z e = ((b.fine).fine).vals k (omega (arith, le)) u z e

        first_by : (u v : State) (z w : Tally) → t ≡ u → run_onward (run_of_mach c q 0) (step c q t) y ≡ Running v w →
            OriginsAgree q (just_written q u v) v
        first_by u v z w e h =
            subst (λ (x : State). OriginsAgree q (just_written q x v) v) e ((b.fine).first v w h)

        origins_by : (k : ℕ) → k < suc b.count → (u v : State) (z w : Tally) → run_of_mach c q k t y ≡ Running u z →
            run_of_mach c q (suc k) t y ≡ Running v w → OriginsAgree q (just_written q u v) v
        origins_by zero le u v z w e h = first_by u v z w (running_same t u y z e) h
        origins_by (suc k) le u v z w e h = ((b.fine).fine).origins k (omega (arith, le)) u v z w e h

    -- it comes to a state, from which this is said
    came_to : {r : RunProgress State} {xs : List Reg} {t : State} {y : Tally} → Agrees q xs t → Tells r (λ k. run_of_mach c q k t y) →
        TellsFrom r xs (λ k. run_of_mach c q k t y)
    came_to {r} {xs} {t} {y} agree b =
        record {
          count = b.count;
          alike = b.alike;
          fine = record { first = λ v z e. subst (Agrees q xs) (running_same t v y z e) agree; fine = b.fine };
        }

    abbrev Answered : ℕ → List Reg → List Reg → Step State → Step State → Type 0
    Answered n ws xs x w =
        (y : Tally) → FineFrom p n ws (From p x y) → (run_onward (run_of_mach c p n) x y ≡ Wrong → ⊥) →
        TellsFrom (run_onward (run_of_mach c p n) x y) xs (From q w y)

    handed_told : (n : ℕ) (ws xs : List Reg) (call : Asked) (next go : Doing → Step State) →
        ((d : Doing) → Answered n ws xs (next d) (go d)) → (ds : List Doing) (y : Tally) →
        FineFrom p n ws (λ k. handed (λ d y. run_onward (run_of_mach c p k) (next d) y) call ds y) →
        (handed (λ d y. run_onward (run_of_mach c p n) (next d) y) call ds y ≡ Wrong → ⊥) →
        TellsFrom (handed (λ d y. run_onward (run_of_mach c p n) (next d) y) call ds y) xs
        (λ k. handed (λ d y. run_onward (run_of_mach c q k) (go d) y) call ds y)
    handed_told n ws xs call next go told [] y fine goes =
        record {
          count = 0;
          alike = both_asking;
          fine = record { first = λ v z e. absurd (not_asking call y v z e); fine = nowhere q _ };
        }
    handed_told n ws xs call next go told (d ∷ ds) y fine goes = told d (came_back call ds y) fine goes

    arrived : {n : ℕ} {ws : List Reg} (x : Step State) (y : Tally) → FineFrom p n ws (From p x y) → ArrivesWell p ws x
    arrived (Continues s) y fine = fine.first s y refl
    arrived (Pays s) y fine = fine.first s (paid y) refl
    arrived (Deepens bytes s) y fine = fine.first s _ refl
    arrived (Waits call go) y fine = tt
    arrived (FinishesBy call kept) y fine = tt
    arrived (Finishes d) y fine = tt
    arrived (FinishesRaising d) y fine = tt
    arrived IsStuck y fine = tt

    ended_told : (d : Doing) (y : Tally) (xs : List Reg) → TellsFrom (Ended d y) xs (λ k. Ended d y)
    ended_told d y xs =
        record {
          count = 0;
          alike = both_ended;
          fine = record { first = λ v z e. absurd (not_ended d y v z e); fine = nowhere q _ };
        }

    -- where another function takes its place
    finished_told : (call : Asked) (left : Doing → Doing) (xs : List Reg) (ds : List Doing) (y : Tally) →
        TellsFrom (handed (λ d y. Ended (left d) y) call ds y) xs (λ k. handed (λ d y. Ended (left d) y) call ds y)
    finished_told call left xs [] y =
        record {
          count = 0;
          alike = both_asking;
          fine = record { first = λ v z e. absurd (not_asking call y v z e); fine = nowhere q _ };
        }
    finished_told call left xs (d ∷ ds) y = ended_told (left d) (came_back call ds y) xs

    answered : (n : ℕ) → Whole n → (ws xs : List Reg) (x w : Step State) → Arrives ws xs x w → Answered n ws xs x w
    answered n ih ws xs x w (both_continue {s = s} {t = t} f) y fine goes =
        let h = f (fine.first s y refl) in came_to h.1 (ih s t y h.0 fine.fine goes)
    answered n ih ws xs x w (both_pay {s = s} {t = t} f) y fine goes =
        let h = f (fine.first s (paid y) refl) in came_to h.1 (ih s t (paid y) h.0 fine.fine goes)
    answered n ih ws xs x w (both_deepen {bytes = bytes} {s = s} {t = t} f) y fine goes =
        let h = f (fine.first s _ refl) in came_to h.1 (ih s t _ h.0 fine.fine goes)
    answered n ih ws xs x w (both_wait {call = call} {next = next} {go = go} a) y fine goes =
        handed_told n ws xs call next go (λ d. answered n ih ws xs (next d) (go d) (a d)) y.doings y fine goes
    answered n ih ws xs x w (both_finish_by {call = call} {kept = kept}) y fine goes =
        finished_told call (kept_of kept) xs y.doings y
    answered n ih ws xs x w (both_finish {d = d}) y fine goes = ended_told d y xs
    answered n ih ws xs x w (both_finish_raising {d = d}) y fine goes = ended_told d (paid y) xs
    answered n ih ws xs x w first_stuck y fine goes = absurd (goes refl)
    answered n ih ws xs x w (later {t = t} agree written a) y fine goes =
        came_to (agree (arrived x y fine))
        (stepped written (answered n ih ws (wrote_at q t.rest) x (step c q t) a y fine goes))

    replied : (n : ℕ) → Whole n → (ws : List Reg) (t : State) (x : Step State) → Answers ws t x → (y : Tally) →
        FineFrom p n ws (From p x y) → (run_onward (run_of_mach c p n) x y ≡ Wrong → ⊥) →
        Tells (run_onward (run_of_mach c p n) x y) (λ k. run_of_mach c q k t y)
    replied n ih ws t x (stays {s = s} f) y fine goes = ih s t y (f (fine.first s y refl)) fine.fine goes
    replied n ih ws t x stuck y fine goes = absurd (goes refl)
    replied n ih ws t x (steps written a) y fine goes =
        stepped written (answered n ih ws (wrote_at q t.rest) x (step c q t) a y fine goes)

    -- after the first step of a run
    rest_fine : {n : ℕ} (s : State) (y : Tally) → Fine p (suc n) (λ k. run_of_mach c p k s y) →
        FineFrom p n (wrote_at p s.rest) (From p (step c p s) y)
    rest_fine s y fine =
        record {
          first = λ v z e. fine.origins 0 (omega arith) s v y z refl e;
          fine = record {
            vals = λ k le u z e. fine.vals (suc k) (omega (arith, le)) u z e;
            origins = λ k le u v z w e h. fine.origins (suc k) (omega (arith, le)) u v z w e h;
          };
        }

    whole : (n : ℕ) → Whole n
    whole zero = λ s t y r fine goes.
        record { count = 0; alike = both_running (closed.suits s t r); fine = nowhere q _ }
    whole (suc n) = λ s t y r fine goes.
        replied n (whole n) (wrote_at p s.rest) t (step c p s)
        (closed.next s t r (fine.vals 0 (omega arith) s y refl)) y (rest_fine s y fine) goes

    -- Related states report the same.
    pub simulates : (n : ℕ) (s t : State) (y : Tally) → R s t → Proper c p n s y → Comes Suit (run_of_mach c p n s y) c q t y
    simulates n s t y r proper =
        let b = whole n s t y r (record { vals = proper.vals; origins = proper.origins }) proper.goes in
        record {
          steps = b.count;
          alike = b.alike;
          proper = record { goes = alike_goes b.alike; vals = (b.fine).vals; origins = (b.fine).origins };
        }
