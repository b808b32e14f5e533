-- A relation between states of two Linear functions that each step of the first keeps. What states have in common
-- while both are under way is handed in (`Suit`): lines that are done in another order leave other memories between them.
use Rattle.std.proofs.Common.{◌≡◌, ℕ, zero, suc, ◌<◌, true, Option, Some, None, List, [], ◌∷◌, refl, sym, subst, arith, ap, ◌∙◌}
use Rattle.std.proofs.lemmas.Option.{none-some, same_Some}
use Rattle.bs_words.specs.declared.types.Ret.{Ret}
use Rattle.bs_words.specs.declared.values.Value.{Value}
use Rattle.bs_words.specs.Memory.{Memory}
use Rattle.cmm_meaning.specs.State.{Doing, Asked}
use Rattle.mach_ir.specs.Acts.{Around, Target, On, At, AtLabel, AtHandler, Act, Goes, Pushes, Jumps, Unwinds, Asks, Replaces, Ends, EndsRaising, Stuck}
use Rattle.mach_ir.specs.Runs.{ActivationSetting, Step, Continues, Pays, Deepens, Waits, FinishesBy, Finishes, FinishesRaising, IsStuck, Tally, RunProgress, Running, Ended, Wrong, runs, paid, came_back, kept_of, handed, run_onward, first_tally, entry_around}
use Rattle.mach_ir.specs.Keeps.{RunsAlike, both_running, both_asking, both_ended}
use Rattle.mach_ir.specs.Walks.{OneOf}
use Rattle.lin_ir.specs.Meaning.{State, Locations, put_all, clear_destroyed, destroyed_by, code_at, after_label, at_handler, wrote, on_act, begin_linear, linear_start}
use Rattle.lin_ir.specs.Walks.{targets, may_raise, tries_after}
use Rattle.lin_ir.specs.declared.lin.Line.{Line}
use Rattle.lin_ir.specs.declared.lin.Lin.{Lin}
use Rattle.lin_ir.specs.declared.lin.Spot.{Spot}
use Rattle.linearise_rules.specs.Kept.{lossless_line_step, run_of_lowered, ValsHeld, Proper}
use Rattle.mach_laws.proofs.Runs.{none_below, running_same, alike_goes}
use Rattle.lin_tidy_rules.specs.Keeps.{TidyBegins}
use Rattle.lin_tidy_rules.proofs.Turns.{is_bare, Turns, goes_in, exits_in, jumps_in, unwinds_in, pushes_in, asks_in}

-- The second function is known by its steps, and by what is asked of a state from which it takes one.
module _ (c : ActivationSetting) (m : Lin) (second : State → Step State) (Fair : State → Type 0) (Suit : State → State → Type 0) (R : State → State → Type 0) where
  -- What the second comes to, where the first does this step. It may go on alone.
  pub data Arrives : Step State → Step State → Type 0 where
    both_continue : {s u : State} → R s u → Arrives (Continues s) (Continues u)
    both_pay : {s u : State} → R s u → Arrives (Pays s) (Pays u)
    both_deepen : {bytes : ℕ} {s u : State} → R s u → Arrives (Deepens bytes s) (Deepens bytes u)
    both_wait : {call : Asked} {next go : Doing → Step State} → ((d : Doing) → Arrives (next d) (go d)) → Arrives (Waits call next) (Waits call go)
    both_finish_by : {call : Asked} {kept : Ret} → Arrives (FinishesBy call kept) (FinishesBy call kept)
    both_finish : {d : Doing} → Arrives (Finishes d) (Finishes d)
    both_finish_raising : {d : Doing} → Arrives (FinishesRaising d) (FinishesRaising d)
    first_stuck : {w : Step State} → Arrives IsStuck w
    goes_alone : {x : Step State} {u : State} → Fair u → Arrives x (second u) → Arrives x (Continues u)

  -- The same where the second is at this state: it waits, or begins with a step.
  pub data Answers (u : State) : Step State → Type 0 where
    stays : {s : State} → R s u → Answers u (Continues s)
    stuck : Answers u IsStuck
    steps : {x : Step State} → Fair u → Arrives x (second u) → Answers u x

  pub record Closed : Type 0 where
    pub around : (s u : State) → R s u → Suit s u
    pub next : (s u : State) → R s u → ValsHeld c m s → Answers u (lossless_line_step c m s)

  pub record Tells (r : RunProgress State) (at : ℕ → RunProgress State) : Type 0 where
    pub count : ℕ
    pub alike : RunsAlike Suit r (at count)
    pub fair : (k : ℕ) → k < count → (u : State) (z : Tally) → at k ≡ Running u z → Fair u

  abbrev IsFair : ℕ → (ℕ → RunProgress State) → Type 0
  IsFair n at = (k : ℕ) → k < n → (u : State) (z : Tally) → at k ≡ Running u z → ValsHeld c m u

  module _ (closed : Closed) where
    abbrev Whole : ℕ → Type 0
    Whole n = (s u : State) (y : Tally) → R s u → IsFair n (λ k. run_of_lowered c m k s y) → (run_of_lowered c m n s y ≡ Wrong → ⊥) →
        Tells (run_of_lowered c m n s y) (λ k. runs second k u y)

    abbrev Onto : Step State → Tally → ℕ → RunProgress State
    Onto w y = λ k. run_onward (runs second k) w y

    abbrev Answered : ℕ → Step State → Step State → Type 0
    Answered n x w =
        (y : Tally) → IsFair n (λ k. run_onward (run_of_lowered c m k) x y) → (run_onward (run_of_lowered c m n) x y ≡ Wrong → ⊥) → Tells (run_onward (run_of_lowered c m n) x y) (Onto w y)

    handed_told : (n : ℕ) (call : Asked) (next go : Doing → Step State) → ((d : Doing) → Answered n (next d) (go d)) → (ds : List Doing) (y : Tally) →
        IsFair n (λ k. handed (λ d y. run_onward (run_of_lowered c m k) (next d) y) call ds y) →
        (handed (λ d y. run_onward (run_of_lowered c m n) (next d) y) call ds y ≡ Wrong → ⊥) →
        Tells (handed (λ d y. run_onward (run_of_lowered c m n) (next d) y) call ds y) (λ k. handed (λ d y. run_onward (runs second k) (go d) y) call ds y)
    handed_told n call next go told [] y fair goes = record { count = 0; alike = both_asking; fair = λ k le. none_below k le }
    handed_told n call next go told (d ∷ ds) y fair goes = told d (came_back call ds y) fair goes

    finished_told : (call : Asked) (left : Doing → Doing) (ds : List Doing) (y : Tally) →
        Tells (handed (λ d y. Ended (left d) y) call ds y) (λ k. handed (λ d y. Ended (left d) y) call ds y)
    finished_told call left [] y = record { count = 0; alike = both_asking; fair = λ k le. none_below k le }
    finished_told call left (d ∷ ds) y = record { count = 0; alike = both_ended; fair = λ k le. none_below k le }

    -- one step more comes first
    one_more : {r : RunProgress State} {u : State} {y : Tally} → Fair u → Tells r (Onto (second u) y) → Tells r (λ k. runs second k u y)
    one_more {u = u} {y = y} here b = record { count = suc b.count; alike = b.alike; fair = by }
      where
        by : (k : ℕ) → k < suc b.count → (v : State) (z : Tally) → runs second k u y ≡ Running v z → Fair v
        by zero le v z e = subst Fair (running_same u v y z e) here
        by (suc k) le v z e = b.fair k (omega (arith, le)) v z e

    answered : (n : ℕ) → Whole n → (x w : Step State) → Arrives x w → Answered n x w
    answered n ih x w (both_continue {s = s} {u = u} r) y fair goes = ih s u y r fair goes
    answered n ih x w (both_pay {s = s} {u = u} r) y fair goes = ih s u (paid y) r fair goes
    answered n ih x w (both_deepen {bytes = bytes} {s = s} {u = u} r) y fair goes = ih s u _ r fair goes
    answered n ih x w (both_wait {call = call} {next = next} {go = go} a) y fair goes =
        handed_told n call next go (λ d. answered n ih (next d) (go d) (a d)) y.doings y fair goes
    answered n ih x w (both_finish_by {call = call} {kept = kept}) y fair goes = finished_told call (kept_of kept) y.doings y
    answered n ih x w (both_finish {d = d}) y fair goes = record { count = 0; alike = both_ended; fair = λ k le. none_below k le }
    answered n ih x w (both_finish_raising {d = d}) y fair goes = record { count = 0; alike = both_ended; fair = λ k le. none_below k le }
    answered n ih x w first_stuck y fair goes = absurd (goes refl)
    answered n ih x w (goes_alone {u = u} here a) y fair goes = one_more here (answered n ih x (second u) a y fair goes)

    replied : (n : ℕ) → Whole n → (u : State) (x : Step State) → Answers u x → (y : Tally) → IsFair n (λ k. run_onward (run_of_lowered c m k) x y) →
        (run_onward (run_of_lowered c m n) x y ≡ Wrong → ⊥) → Tells (run_onward (run_of_lowered c m n) x y) (λ k. runs second k u y)
    replied n ih u x (stays {s = s} r) y fair goes = ih s u y r fair goes
    replied n ih u x stuck y fair goes = absurd (goes refl)
    replied n ih u x (steps here a) y fair goes = one_more here (answered n ih x (second u) a y fair goes)

    whole : (n : ℕ) → Whole n
    whole zero = λ s u y r fair goes. record { count = 0; alike = both_running (closed.around s u r); fair = λ k le. none_below k le }
    whole (suc n) = λ s u y r fair goes.
        replied n (whole n) u (lossless_line_step c m s) (closed.next s u r (fair 0 (omega arith) s y refl)) y
        (λ k le v z e. fair (suc k) (omega (arith, le)) v z e) goes

    -- Related states report the same.
    pub simulates : (n : ℕ) (s u : State) (y : Tally) → R s u → Proper c m n s y → Tells (run_of_lowered c m n s y) (λ k. runs second k u y)
    simulates n s u y r proper = whole n s u y r proper.vals proper.goes

  -- ---- one line in both, before code that may differ

  abbrev at : List Line → Locations → Around → State
  at rest f a = record { rest = rest; file = f; around = a }

  -- where the line leads, the states that it comes to are related
  pub record Leads (r : Lin) (i : Line) (next after : List Line) (f g : Locations) (tries : List ℕ) : Type 0 where
    pub on : (vs : List Value) (to : Target) (a : Around) (f' : Locations) → OneOf to (targets i.op) → a.tries ≡ tries_after i.op tries →
        put_all c.setting.end i.results vs (clear_destroyed (destroyed_by i.op) f) ≡ Some f' →
        (g' : Locations) × (put_all c.setting.end i.results vs (clear_destroyed (destroyed_by i.op) g) ≡ Some g') × R (at (code_at m.code next to) f' a)
        (at (code_at r.code after to) g' a)
    -- nothing is written
    pub bare : (to : Target) (a : Around) → is_bare i.op ≡ true → OneOf to (targets i.op) → a.tries ≡ tries_after i.op tries →
        R (at (code_at m.code next to) f a) (at (code_at r.code after to) g a)
    pub aside : (h : ℕ) (a : Around) → may_raise i.op ≡ true → tries ≡ h ∷ a.tries → R (at (after_label h m.code) f a) (at (after_label h r.code) g a)

  module _ (r : Lin) (i : Line) (next after : List Line) (f g : Locations) (a : Around) (leads : Leads r i next after f g a.tries) where
    caught : (h : ℕ) (b : Around) → may_raise i.op ≡ true → a.tries ≡ h ∷ b.tries → R (at (at_handler m.code a.tries) f b) (at (at_handler r.code a.tries) g b)
    caught h b raise e = subst (λ ts. R (at (at_handler m.code ts) f b) (at (at_handler r.code ts) g b)) (sym e) (leads.aside h b raise e)

    pub acts : (x : Act) → Turns i.op a.tries x → Arrives (on_act c m i next f a x) (on_act c r i after g a x)
    acts (Goes vs to b) (goes_in o e) = by (put_all c.setting.end i.results vs (clear_destroyed (destroyed_by i.op) f)) refl
      where
        by : (x : Option Locations) → put_all c.setting.end i.results vs (clear_destroyed (destroyed_by i.op) f) ≡ x →
            Arrives (wrote (code_at m.code next to) b x) (wrote (code_at r.code after to) b (put_all c.setting.end i.results vs (clear_destroyed (destroyed_by i.op) g)))
        by None u = first_stuck
        by (Some f') u =
            let y = leads.on vs to b f' o e u in
            subst (λ x. Arrives (Continues (at (code_at m.code next to) f' b)) (wrote (code_at r.code after to) b x)) (sym y.1) (both_continue y.2)
    acts (Jumps (AtLabel l) b) (exits_in n o e) = both_pay (leads.bare (At l) b n o e)
    acts (Jumps AtHandler b) (jumps_in {h = h} raise e) = both_pay (caught h b raise e)
    acts (Unwinds b) (unwinds_in {h = h} raise e) = both_continue (caught h b raise e)
    acts (Pushes b) (pushes_in n o e) = both_deepen (leads.bare On b n o e)
    acts (Asks callee vs go) (asks_in w) = both_wait (λ d. acts (go d) (w d))
    acts (Replaces callee vs kept) t = both_finish_by
    acts (Ends d) t = both_finish
    acts (EndsRaising d) t = both_finish_raising
    acts Stuck t = first_stuck

-- ---- from the start

-- Where the states in which two functions of the same parameters begin are related, the second begins as the first does.
module _ (c : ActivationSetting) (m q : Lin) (same : q.params ≡ m.params) (Suit : State → State → Type 0) (R : State → State → Type 0)
    (closed : Closed c m (lossless_line_step c q) (ValsHeld c q) Suit R)
    (entry : (f : Locations) (memory : Memory) →
    R (record { rest = m.code; file = f; around = entry_around memory }) (record { rest = q.code; file = f; around = entry_around memory })) where
  pub begins_alike : (arguments : List Value) (memory : Memory) (doings : List Doing) (s : State) → linear_start c m arguments memory ≡ Some s →
      TidyBegins Suit c m q arguments memory doings s
  begins_alike arguments memory doings s is = by (put_all c.setting.end m.params arguments (λ l. None)) refl is
    where
      by : (o : Option Locations) → put_all c.setting.end m.params arguments (λ l. None) ≡ o → begin_linear m memory o ≡ Some s →
          TidyBegins Suit c m q arguments memory doings s
      by None e g = absurd (none-some _ g)
      by (Some f) e g =
          let one : State = record { rest = m.code; file = f; around = entry_around memory } in
          let two : State = record { rest = q.code; file = f; around = entry_around memory } in
          subst (TidyBegins Suit c m q arguments memory doings) (same_Some one s g)
          (record {
            state = two;
            begins = ap (λ (ps : List Spot). begin_linear q memory (put_all c.setting.end ps arguments (λ l. None))) same ∙ ap (begin_linear q memory) e;
            follows = λ n proper.
                let b = simulates c m (lossless_line_step c q) (ValsHeld c q) Suit R closed n one two (first_tally c doings) (entry f memory) proper in
                record { steps = b.count; alike = b.alike; proper = record { goes = alike_goes b.alike; vals = b.fair } };
          })
