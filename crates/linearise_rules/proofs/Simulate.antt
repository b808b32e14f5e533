-- A relation between states of a Mach function and of a Linear one that each step of the first keeps.
use Rattle.std.proofs.Common.{◌≡◌, ℕ, zero, suc, ◌<◌, List, [], ◌∷◌, refl, subst, arith}
use Rattle.lin_ir.specs.Known.{Doing, Asked}
use Rattle.bs_words.specs.declared.types.Ret.{Ret}
use Rattle.mach_ir.specs.Acts.{Around}
use Rattle.mach_ir.specs.Runs.{ActivationSetting, Step, Continues, Pays, Deepens, Waits, FinishesBy, Finishes, FinishesRaising, IsStuck, Tally, RunProgress, Running, Ended, Wrong, paid, came_back, kept_of, handed, run_onward}
use Rattle.mach_ir.specs.Meaning as mach
use Rattle.mach_ir.specs.Keeps.{ValsWritten, OriginsAgree, wrote_at, just_written, Proper, RunsAlike, both_running, both_asking, both_ended}
use Rattle.mach_ir.specs.declared.reg.Reg.{Reg}
use Rattle.mach_ir.specs.declared.mach.Mach.{Mach}
use Rattle.mach_laws.proofs.Simulate.{Agrees}
use Rattle.mach_laws.proofs.Runs.{none_below, running_same, alike_goes}
use Rattle.lin_ir.specs.Meaning.{State}
use Rattle.lin_ir.specs.Keeps.{SuitRound}
use Rattle.lin_ir.specs.declared.lin.Lin.{Lin}
use Rattle.linearise_rules.specs.Kept.{lossless_line_step, run_of_lowered, ValsHeld, LosslessComes}

-- ---- runs of the Mach function that are nowhere stuck, step by step

record Fine (m : Mach) (n : ℕ) (at : ℕ → RunProgress mach.State) : Type 0 where
  vals : (k : ℕ) → k < n → (u : mach.State) (y : Tally) → at k ≡ Running u y → ValsWritten m u
  origins : (k : ℕ) → k < n → (u v : mach.State) (y z : Tally) → at k ≡ Running u y → at (suc k) ≡ Running v z → OriginsAgree m (just_written m u v) v

-- and where it begins with a step by an instruction that writes these registers
record FineFrom (m : Mach) (n : ℕ) (ws : List Reg) (at : ℕ → RunProgress mach.State) : Type 0 where
  first : (v : mach.State) (z : Tally) → at 0 ≡ Running v z → Agrees m ws v
  fine : Fine m n at

module _ (c : ActivationSetting) (p : Mach) (q : Lin) (R : mach.State → State → Type 0) where
  -- What the Linear function comes to, where the Mach function does this step by an instruction that writes these
  -- registers. The Linear function may go on alone.
  pub data Arrives (ws : List Reg) : Step mach.State → Step State → Type 0 where
    both_continue : {s : mach.State} {t : State} → (Agrees p ws s → R s t) → Arrives ws (Continues s) (Continues t)
    both_pay : {s : mach.State} {t : State} → (Agrees p ws s → R s t) → Arrives ws (Pays s) (Pays t)
    both_deepen : {bytes : ℕ} {s : mach.State} {t : State} → (Agrees p ws s → R s t) → Arrives ws (Deepens bytes s) (Deepens bytes t)
    both_wait : {call : Asked} {next : Doing → Step mach.State} {go : Doing → Step State} → ((d : Doing) → Arrives ws (next d) (go d)) →
        Arrives ws (Waits call next) (Waits call go)
    both_finish_by : {call : Asked} {kept : Ret} → Arrives ws (FinishesBy call kept) (FinishesBy call kept)
    both_finish : {d : Doing} → Arrives ws (Finishes d) (Finishes d)
    both_finish_raising : {d : Doing} → Arrives ws (FinishesRaising d) (FinishesRaising d)
    first_stuck : {w : Step State} → Arrives ws IsStuck w
    goes_alone : {x : Step mach.State} {t : State} → ValsHeld c q t → Arrives ws x (lossless_line_step c q t) → Arrives ws x (Continues t)

  pub record Closed : Type 0 where
    pub around : (s : mach.State) (t : State) → R s t → s.around ≡ t.around
    pub next : (s : mach.State) (t : State) → R s t → ValsWritten p s → Arrives (wrote_at p s.rest) (mach.step c p s) (Continues t)

  record Tells (Suit : Around → Around → Type 0) (r : RunProgress mach.State) (at : ℕ → RunProgress State) : Type 0 where
    count : ℕ
    alike : RunsAlike (SuitRound Suit) r (at count)
    vals : (k : ℕ) → k < count → (u : State) (z : Tally) → at k ≡ Running u z → ValsHeld c q u

  module _ (closed : Closed) (Suit : Around → Around → Type 0) (suits : (x y : Around) → x ≡ y → Suit x y) where
    abbrev Whole : ℕ → Type 0
    Whole n = (s : mach.State) (t : State) (y : Tally) → R s t → Fine p n (λ k. mach.run_of_mach c p k s y) → (mach.run_of_mach c p n s y ≡ Wrong → ⊥) →
        Tells Suit (mach.run_of_mach c p n s y) (λ k. run_of_lowered c q k t y)

    abbrev From : Step mach.State → Tally → ℕ → RunProgress mach.State
    From x y = λ k. run_onward (mach.run_of_mach c p k) x y

    abbrev Onto : Step State → Tally → ℕ → RunProgress State
    Onto w y = λ k. run_onward (run_of_lowered c q k) w y

    abbrev Answered : ℕ → List Reg → Step mach.State → Step State → Type 0
    Answered n ws x w =
        (y : Tally) → FineFrom p n ws (From x y) → (run_onward (mach.run_of_mach c p n) x y ≡ Wrong → ⊥) → Tells Suit (run_onward (mach.run_of_mach c p n) x y) (Onto w y)

    handed_told : (n : ℕ) (ws : List Reg) (call : Asked) (next : Doing → Step mach.State) (go : Doing → Step State) → ((d : Doing) → Answered n ws (next d) (go d)) → (ds : List Doing) (y : Tally) →
        FineFrom p n ws (λ k. handed (λ d y. run_onward (mach.run_of_mach c p k) (next d) y) call ds y) →
        (handed (λ d y. run_onward (mach.run_of_mach c p n) (next d) y) call ds y ≡ Wrong → ⊥) →
        Tells Suit (handed (λ d y. run_onward (mach.run_of_mach c p n) (next d) y) call ds y) (λ k. handed (λ d y. run_onward (run_of_lowered c q k) (go d) y) call ds y)
    handed_told n ws call next go told [] y fine goes = record { count = 0; alike = both_asking; vals = λ k le. none_below k le }
    handed_told n ws call next go told (d ∷ ds) y fine goes = told d (came_back call ds y) fine goes

    finished_told : (call : Asked) (left : Doing → Doing) (ds : List Doing) (y : Tally) →
        Tells Suit (handed (λ d y. Ended (left d) y) call ds y) (λ k. handed (λ d y. Ended (left d) y) call ds y)
    finished_told call left [] y = record { count = 0; alike = both_asking; vals = λ k le. none_below k le }
    finished_told call left (d ∷ ds) y = record { count = 0; alike = both_ended; vals = λ k le. none_below k le }

    -- one step more comes first
    one_more : {r : RunProgress mach.State} {t : State} {y : Tally} → ValsHeld c q t → Tells Suit r (Onto (lossless_line_step c q t) y) → Tells Suit r (λ k. run_of_lowered c q k t y)
    one_more {t = t} {y = y} held b = record { count = suc b.count; alike = b.alike; vals = by }
      where
        by : (k : ℕ) → k < suc b.count → (u : State) (z : Tally) → run_of_lowered c q k t y ≡ Running u z → ValsHeld c q u
        by zero le u z e = subst (ValsHeld c q) (running_same t u y z e) held
        by (suc k) le u z e = b.vals k (omega (arith, le)) u z e

    answered : (n : ℕ) → Whole n → (ws : List Reg) (x : Step mach.State) (w : Step State) → Arrives ws x w → Answered n ws x w
    answered n ih ws x w (both_continue {s = s} {t = t} f) y fine goes = ih s t y (f (fine.first s y refl)) fine.fine goes
    answered n ih ws x w (both_pay {s = s} {t = t} f) y fine goes = ih s t (paid y) (f (fine.first s (paid y) refl)) fine.fine goes
    answered n ih ws x w (both_deepen {bytes = bytes} {s = s} {t = t} f) y fine goes = ih s t _ (f (fine.first s _ refl)) fine.fine goes
    answered n ih ws x w (both_wait {call = call} {next = next} {go = go} a) y fine goes =
        handed_told n ws call next go (λ d. answered n ih ws (next d) (go d) (a d)) y.doings y fine goes
    answered n ih ws x w (both_finish_by {call = call} {kept = kept}) y fine goes = finished_told call (kept_of kept) y.doings y
    answered n ih ws x w (both_finish {d = d}) y fine goes = record { count = 0; alike = both_ended; vals = λ k le. none_below k le }
    answered n ih ws x w (both_finish_raising {d = d}) y fine goes = record { count = 0; alike = both_ended; vals = λ k le. none_below k le }
    answered n ih ws x w first_stuck y fine goes = absurd (goes refl)
    answered n ih ws x w (goes_alone {t = t} held a) y fine goes = one_more held (answered n ih ws x (lossless_line_step c q t) a y fine goes)

    -- after the first step of a run
    rest_fine : {n : ℕ} (s : mach.State) (y : Tally) → Fine p (suc n) (λ k. mach.run_of_mach c p k s y) → FineFrom p n (wrote_at p s.rest) (From (mach.step c p s) y)
    rest_fine s y fine =
        record {
          first = λ v z e. fine.origins 0 (omega arith) s v y z refl e;
          fine = record {
            vals = λ k le u z e. fine.vals (suc k) (omega (arith, le)) u z e;
            origins = λ k le u v z w e h. fine.origins (suc k) (omega (arith, le)) u v z w e h;
          };
        }

    whole : (n : ℕ) → Whole n
    whole zero = λ s t y r fine goes. record { count = 0; alike = both_running (suits s.around t.around (closed.around s t r)); vals = λ k le. none_below k le }
    whole (suc n) = λ s t y r fine goes.
        answered n (whole n) (wrote_at p s.rest) (mach.step c p s) (Continues t) (closed.next s t r (fine.vals 0 (omega arith) s y refl)) y (rest_fine s y fine) goes

    -- Related states report the same.
    pub simulates : (n : ℕ) (s : mach.State) (t : State) (y : Tally) → R s t → Proper c p n s y → LosslessComes (SuitRound Suit) (mach.run_of_mach c p n s y) c q t y
    simulates n s t y r proper =
        let b = whole n s t y r (record { vals = proper.vals; origins = proper.origins }) proper.goes in
        record { steps = b.count; alike = b.alike; proper = record { goes = alike_goes b.alike; vals = b.vals } }
