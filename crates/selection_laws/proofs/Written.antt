-- What is live has been written, at each place of a run: so a run of a function is proper where it does not go wrong.
use Rattle.std.proofs.Common.{◌≡◌, ℕ, zero, suc, Bool, true, false, cond, List, [], ◌∷◌, Option, Some, None, refl, sym, ◌∙◌, subst}
use Rattle.std.specs.Prelude.{◌≢◌, nat_eq}
use Rattle.std.proofs.lemmas.Bool.{eqb-true}
use Rattle.bs_words.specs.Fits.{fits, type_of_comp}
use Rattle.bs_words.specs.Memory.{Memory}
use Rattle.bs_words.specs.declared.types.Ret.{Ret}
use Rattle.bs_words.specs.declared.values.Value.{Value}
use Rattle.cmm_meaning.specs.State.{Doing, Asked}
use Rattle.mach_ir.specs.Acts.{Around, Target, On, At, Landing, AtLabel, AtHandler, Act, Goes, Pushes, Jumps, Unwinds, Asks, Replaces, Ends, EndsRaising, Stuck}
use Rattle.mach_ir.specs.Keeps.{ValsWritten, OriginsAgree, Proper}
use Rattle.mach_ir.specs.Runs.{ActivationSetting, Step, Continues, Pays, Deepens, Waits, FinishesBy, Finishes, FinishesRaising, IsStuck, Tally, RunProgress, Running, Asking, Ended, Wrong, paid, came_back, kept_of, handed, run_onward, first_tally, entry_around}
use Rattle.mach_ir.specs.Meaning.{State, File, Held, put_if, put_all, clear_registers, killed, destroyed_by, values, is_addr, unless_addr, past_frame, passes_frame, code_at, tries_at, at_handler, landing_code, mach_act, wrote, on_act, on_values, at_code, run_of_mach, begin_mach, mach_start}
use Rattle.mach_ir.specs.Walks.{AmongRegisters, first, later, OneOf, targets, may_raise, goes, raises, Reached, at_entry, by_step, by_raise, Live, read, on, aside, LiveAcross, across_step, across_raise, InCode, is_param, is_in_code}
use Rattle.mach_ir.specs.declared.mach.Instr.{Instr}
use Rattle.mach_ir.specs.declared.mach.Mach.{Mach}
use Rattle.mach_ir.specs.declared.reg.Reg.{Reg}
use Rattle.mach_laws.specs.Expand.{Ending, all}
use Rattle.mach_laws.proofs.Among.{number_among}
use Rattle.mach_laws.proofs.Colouring.{of_killed_by}
use Rattle.mach_laws.proofs.Places.{ending_next, ending_label, stands_of, results_in, args_in, ending_land}
use Rattle.mach_laws.proofs.Leads.{IsTry, MayLand, lands_at_label, lands_at_handler, Within, goes_in, pushes_in, jumps_in, unwinds_in, asks_in, within}
use Rattle.mach_laws.proofs.Walking.{ending_leads, ending_raises}
use Rattle.selection_laws.proofs.Losing.{not_first, frame_keeps, not_addr, none_not, bare_at, bare_try, next_try, Steady, Known, AllKnown, Stood, comes, at_end, free_both, live_in, clear_known, put_all_known, known_of, bare_free}

pub data Holding : Option Held → Type 0 where
  holding : {x : Held} → Holding (Some x)

not_none : {o : Option Held} → Holding o → o ≢ None
not_none (holding {x = x}) e = ne x e
  where
    ne : (x : Held) → Some x ≡ None → ⊥
    ne x e = cc

-- ---- files in which registers hold something

data Holds (L : ℕ → Type 0) : Option File → Type 0 where
  no_file : Holds L None
  a_file : {a : File} → ((n : ℕ) → L n → Holding (a n)) → Holds L (Some a)

if_holding : (b : Bool) (h : Held) (o : Option Held) → (b ≡ false → Holding o) → Holding (cond b (Some h) o)
if_holding true h o f = holding
if_holding false h o f = f refl

put_holds : {L M : ℕ → Type 0} {x : Option File} (g : Bool) (r : Reg) (v : Value) → ((n : ℕ) → L n → nat_eq r.number n ≡ false → M n) → Holds M x →
    Holds L (put_if g r v x)
put_holds true r v weak no_file = no_file
put_holds true r v weak (a_file {a = a} h) = a_file (λ n l. if_holding (nat_eq r.number n) _ _ (λ e. h n (weak n l e)))
put_holds false r v weak no_file = no_file
put_holds false r v weak (a_file h) = no_file

put_all_holds : (end : ℕ) (rs : List Reg) (vs : List Value) {L : ℕ → Type 0} (a : File) → ((n : ℕ) → L n → (AmongRegisters n rs → ⊥) → Holding (a n)) →
    Holds L (put_all end rs vs a)
put_all_holds end [] [] a h = a_file (λ n l. h n l (λ i. elim i [ ]))
put_all_holds end [] (v ∷ vs) a h = no_file
put_all_holds end (r ∷ rs) [] a h = no_file
put_all_holds end (r ∷ rs) (v ∷ vs) {L} a h =
    put_holds {L = L} {M = λ n. L n × (nat_eq r.number n ≡ false)} (fits end (type_of_comp r.comp) v) r v (λ n l q. (l, q))
    (put_all_holds end rs vs {L = λ n. L n × (nat_eq r.number n ≡ false)} a (λ n l free. h n l.0 (λ i. not_first l.1 free i)))

cleared : (n : ℕ) (ks : List Reg) (a : File) → (AmongRegisters n ks → ⊥) → Holding (a n) → Holding (clear_registers ks a n)
cleared n [] a free h = h
cleared n (k ∷ ks) a free h = by (nat_eq k.number n) refl (cleared n ks a (λ i. free (later i)) h)
  where
    by : (b : Bool) → nat_eq k.number n ≡ b → Holding (clear_registers ks a n) → Holding (cond b None (clear_registers ks a n))
    by true e g = absurd (free (first (eqb-true k.number n e)))
    by false e g = g

-- ---- what is read is in the code

module _ (c : ActivationSetting) (m : Mach) where
  -- What this rests on: only parameters are live at the entry, and no register of a colour is in the code.
  pub record Assigned : Type 0 where
    pub steady : Steady c m
    pub entry : (n : ℕ) → Live m n m.code → AmongRegisters n m.params
    pub colours : (r : Reg) → InCode r m.code → AmongRegisters r.number m.colours → ⊥

  no_colour : Assigned → {n : ℕ} {code : List Instr} → Ending code m.code → Live m n code → AmongRegisters n m.colours → ⊥
  no_colour z {n} e (read {i = i} a) k =
      let x = number_among i.args a in
      z.colours x.0 (args_in (stands_of e) x.1) (subst (λ q. AmongRegisters q m.colours) (sym x.2) k)
  no_colour z e (on free l w) k = no_colour z (ending_leads l e) w k
  no_colour z e (aside r w) k = no_colour z (ending_raises r) w k

  -- what is live has been written
  pub record Fine (rest : List Instr) (a : File) : Type 0 where
    pub ending : Ending rest m.code
    pub reached : Stood c m rest
    pub written : (n : ℕ) → Live m n rest → Holding (a n)
    pub known : AllKnown c m a

  data FineStep : Step State → Type 0 where
    fine_walk : {rest : List Instr} {a : File} {around : Around} → Fine rest a → FineStep (Continues (record { rest = rest; file = a; around = around }))
    fine_leap : {rest : List Instr} {a : File} {around : Around} → Fine rest a → FineStep (Pays (record { rest = rest; file = a; around = around }))
    fine_deep : {bytes : ℕ} {rest : List Instr} {a : File} {around : Around} → Fine rest a →
        FineStep (Deepens bytes (record { rest = rest; file = a; around = around }))
    fine_wait : {call : Asked} {x : Doing → Step State} → ((d : Doing) → FineStep (x d)) → FineStep (Waits call x)
    fine_place : {call : Asked} {kept : Ret} → FineStep (FinishesBy call kept)
    fine_over : {d : Doing} → FineStep (Finishes d)
    fine_raise : {d : Doing} → FineStep (FinishesRaising d)
    fine_halt : FineStep IsStuck

  past_known : (pf : Bool) (a : File) → AllKnown c m a → AllKnown c m (past_frame pf a)
  past_known false a k n x e = k n x e
  past_known true a k n x e = k n x (by (a n) e)
    where
      by_addr : (b : Bool) (h : Held) → cond b None (Some h) ≡ Some x → Some h ≡ Some x
      by_addr true h q = absurd (none_not x q)
      by_addr false h q = q

      by : (o : Option Held) → unless_addr o ≡ Some x → o ≡ Some x
      by None q = q
      by (Some h) q = by_addr (is_addr h.comp) h q

  module _ (assigned : Assigned) (i : Instr) (next : List Instr) (a : File) (rel : Fine (i ∷ next) a) where
    abbrev a' : File
    a' = past_frame (passes_frame i.op) a

    known' : AllKnown c m a'
    known' = past_known (passes_frame i.op) a rel.known

    reached_here : Reached m (i ∷ next)
    reached_here = by rel.reached
      where
        not_end : i ∷ next ≡ [] → ⊥
        not_end e = cc

        by : Stood c m (i ∷ next) → Reached m (i ∷ next)
        by (comes r) = r
        by (at_end e) = absurd (not_end e)

    stays : (n : ℕ) → LiveAcross m n i next → Holding (a' n)
    stays n v =
        subst (λ o. Holding o) (sym (frame_keeps (passes_frame i.op) a n (λ x e pf. plain x (rel.known n x e) pf))) (rel.written n (live_in c m n i next v))
      where
        plain : (x : Held) → Known c m n x → passes_frame i.op ≡ true → is_addr x.comp ≡ false
        plain x k pf =
            let steady = assigned.steady in
            let none = steady.no_addr in
            not_addr x.comp (λ e. none.none i next reached_here pf k.reg k.is_register (k.its_comp ∙ e) (subst (λ q. LiveAcross m q i next) (sym k.number) v))

    ending_at : (t : Target) → Ending (code_at m.code next t) m.code
    ending_at On = ending_next rel.ending
    ending_at (At l) = ending_label l m.code

    put_fine : (vs : List Value) (t : Target) (after : Around) → OneOf t (targets i.op) →
        FineStep (wrote (code_at m.code next t) after (put_all c.setting.end i.results vs (clear_registers (killed m i) a')))
    put_fine vs t after o =
        by (put_all c.setting.end i.results vs (clear_registers (killed m i) a')) refl
        (put_all_holds c.setting.end i.results vs {L = λ n. Live m n (code_at m.code next t)} (clear_registers (killed m i) a')
        (λ n w free. let unkilled = dead n w in cleared n (killed m i) a' unkilled (stays n (across_step (free_both c m i free unkilled) (goes t o) w))))
      where
        dead : (n : ℕ) → Live m n (code_at m.code next t) → AmongRegisters n (killed m i) → ⊥
        dead n w k = no_colour assigned (ending_at t) w (of_killed_by n m.colours (destroyed_by i.op) i.results k)

        by : (x : Option File) → put_all c.setting.end i.results vs (clear_registers (killed m i) a') ≡ x → Holds (λ n. Live m n (code_at m.code next t)) x →
            FineStep (wrote (code_at m.code next t) after x)
        by x e no_file = fine_halt
        by x e (a_file {a = d} q) =
            fine_walk (record {
              ending = ending_at t;
              reached = comes (by_step reached_here (goes t o));
              written = q;
              known =
                  known_of c m
                  (put_all_known c m c.setting.end i.results vs (clear_registers (killed m i) a') (λ r x. is_in_code (results_in (stands_of rel.ending) x))
                  (clear_known c m (killed m i) a' known')) e;
            })

    land_fine : (to : Landing) → MayLand i.op to → Fine (landing_code m.code (i ∷ next) to) a'
    land_fine to l = record { ending = ending_land to (i ∷ next) m.code; reached = comes_to to l; written = λ n v. stays n (by to l n v); known = known' }
      where
        caught : (ts : List ℕ) → tries_at (i ∷ next) ≡ ts → may_raise i.op ≡ true → (n : ℕ) → Live m n (at_handler m.code ts) → LiveAcross m n i next
        caught [] e r n v = elim v [ ]
        caught (l ∷ ts) e r n v = across_raise (raises r e) v

        caught_at : (ts : List ℕ) → tries_at (i ∷ next) ≡ ts → may_raise i.op ≡ true → Stood c m (at_handler m.code ts)
        caught_at [] e r = at_end refl
        caught_at (l ∷ ts) e r = comes (by_raise reached_here (raises r e))

        comes_to : (to : Landing) → MayLand i.op to → Stood c m (landing_code m.code (i ∷ next) to)
        comes_to (AtLabel l) (lands_at_label o) = comes (by_step reached_here (goes (At l) o))
        comes_to AtHandler (lands_at_handler r) = caught_at (tries_at (i ∷ next)) refl r

        by : (to : Landing) → MayLand i.op to → (n : ℕ) → Live m n (landing_code m.code (i ∷ next) to) → LiveAcross m n i next
        by (AtLabel l) (lands_at_label o) n v = across_step (bare_free c m assigned.steady (stands_of rel.ending) (bare_at i.op l o) n) (goes (At l) o) v
        by AtHandler (lands_at_handler r) n v = caught (tries_at (i ∷ next)) refl r n v

    try_fine : IsTry i.op → Fine next a'
    try_fine z =
        let o = next_try z in
        record {
          ending = ending_next rel.ending;
          reached = comes (by_step reached_here (goes On o));
          written = λ n v. stays n (across_step (bare_free c m assigned.steady (stands_of rel.ending) (bare_try z) n) (goes On o) v);
          known = known';
        }

    act_fine : (around : Around) (x : Act) → Within i.op x → FineStep (on_act c m i next a' around x)
    act_fine around (Goes vs to after) (goes_in o) = put_fine vs to after o
    act_fine around (Jumps to after) (jumps_in l) = fine_leap (land_fine to l)
    act_fine around (Unwinds after) (unwinds_in r) = fine_walk (land_fine AtHandler (lands_at_handler r))
    act_fine around (Pushes after) (pushes_in z) = fine_deep (try_fine z)
    act_fine around (Asks whom vs go) (asks_in g) = fine_wait (λ d. act_fine around (go d) (g d))
    act_fine around (Replaces whom vs kept) l = fine_place
    act_fine around (Ends d) l = fine_over
    act_fine around (EndsRaising d) l = fine_raise
    act_fine around Stuck l = fine_halt

    instr_fine : (around : Around) (o : Option (List Value)) → FineStep (on_values c m i next a around o)
    instr_fine around None = fine_halt
    instr_fine around (Some vs) = act_fine around (mach_act c.setting i.op vs around) (within c.setting i.op vs around)

  step_fine : Assigned → (rest : List Instr) (a : File) (around : Around) → Fine rest a → FineStep (at_code c m rest a around)
  step_fine assigned [] a around rel = fine_halt
  step_fine assigned (i ∷ next) a around rel = instr_fine assigned i next a rel around (values a i.args)

  -- ---- runs

  data FineRun : RunProgress State → Type 0 where
    fine_running : {s : State} {t : Tally} → Fine s.rest s.file → FineRun (Running s t)
    fine_asking : {call : Asked} {t : Tally} → FineRun (Asking call t)
    fine_ended : {d : Doing} {t : Tally} → FineRun (Ended d t)
    fine_wrong : FineRun Wrong

  abbrev FineRuns : ℕ → Type 0
  FineRuns k = (rest : List Instr) (a : File) (around : Around) (t : Tally) → Fine rest a →
      FineRun (run_of_mach c m k (record { rest = rest; file = a; around = around }) t)

  handed_runs : (k : ℕ) (call : Asked) (x : Doing → Step State) (ds : List Doing) (t : Tally) →
      ((d : Doing) (t : Tally) → FineRun (run_onward (run_of_mach c m k) (x d) t)) →
      FineRun (handed (λ d t. run_onward (run_of_mach c m k) (x d) t) call ds t)
  handed_runs k call x [] t each = fine_asking
  handed_runs k call x (d ∷ ds) t each = each d (came_back call ds t)

  placed_runs : (call : Asked) (kept : Ret) (ds : List Doing) (t : Tally) → FineRun (handed (λ d t. Ended (kept_of kept d) t) call ds t)
  placed_runs call kept [] t = fine_asking
  placed_runs call kept (d ∷ ds) t = fine_ended

  step_runs : (k : ℕ) → FineRuns k → {x : Step State} → FineStep x → (t : Tally) → FineRun (run_onward (run_of_mach c m k) x t)
  step_runs k ih (fine_walk rel) t = ih _ _ _ t rel
  step_runs k ih (fine_leap rel) t = ih _ _ _ (paid t) rel
  step_runs k ih (fine_deep rel) t = ih _ _ _ _ rel
  step_runs k ih (fine_wait {call = call} {x = x} g) t = handed_runs k call x t.doings t (λ d t. step_runs k ih (g d) t)
  step_runs k ih (fine_place {call = call} {kept = kept}) t = placed_runs call kept t.doings t
  step_runs k ih fine_over t = fine_ended
  step_runs k ih fine_raise t = fine_ended
  step_runs k ih fine_halt t = fine_wrong

  fine_runs : Assigned → (k : ℕ) → FineRuns k
  fine_runs assigned zero = λ rest a around t rel. fine_running rel
  fine_runs assigned (suc k) = λ rest a around t rel. step_runs k (fine_runs assigned k) (step_fine assigned rest a around rel) t

  start_fine : Assigned → (arguments : List Value) (memory : Memory) (s : State) → mach_start c m arguments memory ≡ Some s → Fine s.rest s.file
  start_fine assigned arguments memory s is = by (put_all c.setting.end m.params arguments (λ n. None)) refl at_first is
    where
      no_state : (s : State) → None ≡ Some s → ⊥
      no_state s e = cc

      some_state : (x y : State) → Some x ≡ Some y → x ≡ y
      some_state x y e = cc

      at_first : Holds (λ n. Live m n m.code) (put_all c.setting.end m.params arguments (λ n. None))
      at_first = put_all_holds c.setting.end m.params arguments {L = λ n. Live m n m.code} (λ n. None) (λ n l free. absurd (free (assigned.entry n l)))

      by : (o : Option File) → put_all c.setting.end m.params arguments (λ n. None) ≡ o → Holds (λ n. Live m n m.code) o → begin_mach m memory o ≡ Some s →
          Fine s.rest s.file
      by None e h b = absurd (no_state s b)
      by (Some a) e (a_file h) b =
          subst (λ (x : State). Fine x.rest x.file)
          (some_state (record { rest = m.code; file = a; around = entry_around memory }) s b)
          (record {
            ending = all;
            reached = comes at_entry;
            written = h;
            known = known_of c m (put_all_known c m c.setting.end m.params arguments (λ n. None) (λ r x. is_param x) (λ n x q. absurd (none_not x q))) e;
          })

  vals_written : {u : State} {y : Tally} → FineRun (Running u y) → ValsWritten m u
  vals_written {u} (fine_running z) =
      record {
        written = λ i next e pf r is val live.
            not_none (z.written r.number (subst (λ code. Live m r.number code) (sym e) (live_in c m r.number i next live)));
      }

  -- A run that does not go wrong is nowhere stuck, where registers of one origin never differ.
  pub runs_proper : Assigned → ((just_written : List Reg) (s : State) → OriginsAgree m just_written s) → (arguments : List Value) (memory : Memory)
      (doings : List Doing) (s : State) → mach_start c m arguments memory ≡ Some s → (n : ℕ) → run_of_mach c m n s (first_tally c doings) ≢ Wrong →
      Proper c m n s (first_tally c doings)
  runs_proper assigned agree arguments memory doings s is n right =
      record {
        goes = right;
        vals = λ k less u y e.
            vals_written
            (subst (λ r. FineRun r) e
            (fine_runs assigned k s.rest s.file s.around (first_tally c doings) (start_fine assigned arguments memory s is)));
        origins = λ k less u v y z e f. agree _ v;
      }
