-- A function with its reloads and spills does what it did: what is live holds what it held, and so do the fresh registers of the
-- instruction that is near.
use Rattle.std.proofs.Common.{◌≡◌, ℕ, ◌<◌, true, inl, inr, ◌⊎◌, ⊎_elim, List, [], ◌∷◌, ◌++◌, length, Option, Some, None, refl, sym, ap, ◌∙◌, subst, arith}
use Rattle.std.proofs.lemmas.Bool.{cases_Bool}
use Rattle.std.specs.List.{Contains}
use Rattle.std.proofs.lemmas.Option.{none-some}
use Rattle.std.proofs.lemmas.List.Elements.{All-contains}
use Rattle.bs_words.specs.Memory.{Memory}
use Rattle.bs_words.specs.declared.values.Value.{Value}
use Rattle.bs_words.proofs.Lists.{head_same, tail_same}
use Rattle.mach_ir.specs.Acts.{Around, Target, On, At, Landing, AtLabel, AtHandler, Act, Goes, Pushes, Jumps, Unwinds, Asks, Replaces, Ends, EndsRaising, Stuck}
use Rattle.mach_ir.specs.Formed.{WellFormed, AreDistinct}
use Rattle.mach_ir.specs.Placed.{WellPlaced}
use Rattle.mach_ir.specs.Runs.{ActivationSetting, Tally, entry_around}
use Rattle.mach_ir.specs.Meaning.{Held, File, put_all, clear_registers, killed, registers_written, values, past_frame, passes_frame, mach_act, after_label, at_handler, code_at, tries_at, landing_code, run_of_mach}
use Rattle.mach_ir.specs.Walks.{AmongRegisters, first, OneOf, targets, may_raise, goes, raises, Live, read, on, aside, LiveAcross, IsRegister, is_colour, is_in_code, StandsAsInstr}
use Rattle.mach_ir.specs.Keeps.{ValsWritten, OriginsAgree, wrote_unless, Ahead, Trails, Proper, Comes, MachSimulation}
use Rattle.mach_ir.proofs.Keeping.{level, level_trail}
use Rattle.mach_ir.specs.declared.reg.Reg.{Reg}
use Rattle.mach_ir.specs.declared.mach.Instr.{Instr}
use Rattle.mach_ir.specs.declared.mach.Mach.{Mach}
use Rattle.mach_laws.specs.Expand.{Ending, expand}
use Rattle.mach_laws.proofs.General as general
use Rattle.mach_laws.proofs.General.{at}
use Rattle.mach_laws.proofs.Leads.{IsTry, MayLand, lands_at_label, lands_at_handler, Within, goes_in, pushes_in, jumps_in, unwinds_in, asks_in, within, try_on}
use Rattle.mach_laws.proofs.Level.{begins_at}
use Rattle.mach_laws.proofs.Places.{ending_next, ending_label, ending_land, label_expand, stands_of, results_in, contains_of, land_expand, form_of}
use Rattle.mach_laws.proofs.Simulate.{Agrees}
use Rattle.mach_laws.proofs.Among.{left_among, right_among, split_among, number_among, among_of, unless_among, among_or_not}
use Rattle.mach_laws.proofs.Raised.{IsRaised, Told, told_jump, told_unwind, told_ask, IsSilent, told, label_silent, try_silent}
use Rattle.mach_laws.proofs.Walking.{across_live}
use Rattle.colouring_rules.proofs.Files.{past_same, cleared, not_cleared}
use Rattle.liveness.proofs.Bounds.{killed_is_colour}
use Rattle.spill_rules.proofs.Holding.{values_held, FitsIn, put_fits, put_holds, clear_fits, frame_fits, live_register, fit_at_entry, agree_at_entry}
use Rattle.reload_rules.specs.Reloaded.{reads_registers, writes_registers, is_renewed, reloads, spills}
use Rattle.reload_rules.proofs.Calm.{Calm, calm_go, calm_push, calm_label, calm_handler, calm_unwind, calm_ask, caught_at, IsQuiet, none_raised, caught, calm_here}
use Rattle.reload_rules.proofs.Files.{values_renewed, Apart, apart_of, PutsRenewed, put_renewed}
use Rattle.reload_rules.proofs.Live.{IsNumbering, reloaded_by, operands_at, results_at, main_of, ForResult, Stage, Reading, Storing, Laid, main, all_operands, all_results, NotSpilled, killed_same, laid_tries, live_before, across_back}
use Rattle.reload_rules.proofs.Numbers.{WasIn, was_own, was_fresh, past_rises, for_from, for_below, for_in, was_in}
use Rattle.reload_rules.proofs.Passed as passed
use Rattle.reload_rules.proofs.Registers.{for_result, made_free, old_register}
use Rattle.reload_rules.proofs.Text.{laid_instr, keeps_marks}

module _ (m : Mach) (s : ℕ → ℕ) (free top : ℕ) (formed : WellFormed m) (placed : WellPlaced m) (is : IsNumbering m s free top) where
  abbrev q : Mach
  q = reloaded_by s m

  abbrev f : ℕ → Instr → List Instr
  f = laid_instr s

  abbrev Lay : Stage m s free top formed placed is → List Instr → Type 0
  Lay = Laid m s free top formed placed is

  abbrev first_operand : List Instr → ℕ
  first_operand next = operands_at m s free top formed placed is next

  abbrev first_result : Instr → List Instr → ℕ
  first_result i next = results_at m s free top formed placed is i next

  abbrev main_for : Instr → List Instr → Instr
  main_for i next = main_of m s free top formed placed is i next

  abbrev Result : Instr → List Instr → ℕ → Reg → Type 0
  Result = ForResult m s free top formed placed is

  abbrev Unspilled : Instr → ℕ → List Reg → Type 0
  Unspilled = NotSpilled m s free top formed placed is

  abbrev is_code : q.code ≡ expand f m.code
  is_code = refl

  caught_live : {n : ℕ} {i : Instr} {next : List Instr} → may_raise i.op ≡ true → (tries : List ℕ) → tries_at (i ∷ next) ≡ tries →
      Live m n (at_handler m.code tries) → Live m n (i ∷ next)
  caught_live r [] e v = elim v [ ]
  caught_live r (l ∷ tries) e v = aside (raises r e) v

  module _ (c : ActivationSetting) where
    abbrev limit : ℕ
    limit = c.setting.end

    abbrev Holds : List Instr → File → File → Type 0
    Holds = passed.Holds m s free top formed placed is c

    abbrev Linked : List Instr → Around → Around → File → File → Type 0
    Linked = passed.Linked m s free top formed placed is c

    abbrev HoldsReading : Instr → List Instr → ℕ → File → File → Type 0
    HoldsReading = passed.HoldsReading m s free top formed placed is c

    module _ (Suit : Around → Around → Type 0) where
      abbrev HoldsAfter : Instr → List Instr → ℕ → List Reg → File → File → Type 0
      HoldsAfter = passed.HoldsAfter m s free top formed placed is c Suit

      abbrev Stores : Instr → List Instr → File → File → Around → Reg → Type 0
      Stores = passed.Stores m s free top formed placed is c Suit

      module _ (i : Instr) (next : List Instr) (a b : File) (ending : Ending (i ∷ next) m.code)
          (reading : HoldsReading i next (first_result i next) a b) where
        abbrev a' : File
        a' = past_frame (passes_frame i.op) a

        abbrev b' : File
        b' = past_frame (passes_frame i.op) b

        abbrev post : List Instr
        post = spills (writes_registers i.op) (first_result i next) i.results

        stands : StandsAsInstr i next m.code
        stands = stands_of ending

        still : (n : ℕ) → Live m n (i ∷ next) → a' n ≡ b' n
        still n v = past_same (passes_frame i.op) a b n n ((reading.holds).itself n v)

        laid_main : Lay (Storing i next (first_result i next) i.results) (post ++ expand f next)
        laid_main = passed.laid_after m s free top formed placed is i next ending

        killed_known : (r : Reg) → Contains (killed m i) r → IsRegister m r
        killed_known r z = is_colour (killed_is_colour m i r z)

        abbrev Puts : List Value → File → Type 0
        Puts vs d =
            PutsRenewed limit (writes_registers i.op) (first_result i next) i.results vs (clear_registers (killed m i) a') (clear_registers (killed m i) b') d

        -- a register of the first is none of the fresh ones
        own_result : (x : ℕ) → x < free → AmongRegisters x (main_for i next).results → AmongRegisters x i.results
        own_result x lt z =
            let k = number_among (main_for i next).results z in
            of k.0 k.2 (was_in (writes_registers i.op) (first_result i next) i.results k.0 k.1)
          where
            of : (k : Reg) → k.number ≡ x → WasIn (writes_registers i.op) (first_result i next) i.results k → AmongRegisters x i.results
            of k e (was_own c t) = subst (λ n. AmongRegisters n i.results) e (among_of k i.results c)
            of k e (was_fresh y w g h) =
                let le = made_free m s free top formed placed is stands (for_result g) in
                let number : y ≡ k.number = ap (λ (r : Reg). r.number) h in absurd (omega (arith, lt, le, number, e))

        same_after : (vs : List Value) (d : File) (p : Puts vs d) (t : Target) → OneOf t (targets i.op) → (x : ℕ) → x < free →
            Live m x (code_at m.code next t) → Unspilled i x i.results → d x ≡ p.file x
        same_after vs d p t o x lt v spilled =
            ⊎_elim
            (λ z.
            let r = number_among i.results z in
            ⊎_elim (λ t. absurd (spilled r.0 r.1 t r.2))
            (λ t. ap d (sym r.2) ∙ p.own r.0 r.1 t ∙ ap p.file r.2) (cases_Bool (is_renewed (writes_registers i.op) r.0)))
            (λ free_one.
            p.others x free_one
            ∙ ⊎_elim (λ z. cleared (killed m i) a' x z ∙ sym (cleared (killed m i) b' x z))
            (λ h.
            not_cleared (killed m i) a' x h
            ∙ still x (on (λ w. ⊎_elim free_one h (split_among x i.results (killed m i) w)) (goes t o) v)
            ∙ sym (not_cleared (killed m i) b' x h))
            (among_or_not x (killed m i))
            ∙ sym (p.others_new x (λ z. free_one (own_result x lt z))))
            (among_or_not x i.results)

        one_result : (r : Reg) → IsRegister m r → (k : Reg) → Contains i.results k → k.number ≡ r.number → k ≡ r
        one_result r j k z e = formed.numbers k r (is_in_code (results_in stands z)) j e

        fit_after : (vs : List Value) (d : File) → put_all limit i.results vs (clear_registers (killed m i) a') ≡ Some d → (r : Reg) → IsRegister m r →
            FitsIn limit r (d r.number)
        fit_after vs d e r j =
            put_fits limit i.results vs (clear_registers (killed m i) a') d e r (one_result r j)
            (clear_fits limit (killed m i) a' r (frame_fits limit (passes_frame i.op) a r ((reading.holds).fit r j)))

        fit_still : (r : Reg) → IsRegister m r → FitsIn limit r (a' r.number)
        fit_still r j = frame_fits limit (passes_frame i.op) a r ((reading.holds).fit r j)

        agree_there : (rest : List Instr) (us : List Reg) (d : File) (y : Around) → Agrees m us (at rest d y) →
            (r k : Reg) → IsRegister m r → IsRegister m k → r.origin ≡ k.origin → Live m r.number rest → Live m k.number rest →
            (x z : Held) → d r.number ≡ Some x → d k.number ≡ Some z → x.value ≡ z.value
        agree_there rest us d y agreed r k j l origin v w x z e g = agreed.agree r k j l origin (inl v) (inl w) x z e g

        -- where the second begins a code, its registers of one origin agree
        agree_begins : (rest : List Instr) (us : List Reg) (d e : File) (y : Around) → Ending rest m.code → Holds rest d e →
            ((x : ℕ) → AmongRegisters x (wrote_unless y.raised us) → ⊥) → OriginsAgree q (wrote_unless y.raised us) (at (expand f rest) e y)
        agree_begins rest us d e y end_rest h none =
            record {
              agree = λ r k ir ik origin l z x u s t.
                  let w = here r ir l in
                  let v = here k ik z in
                  h.agree r k w.0 v.0 origin w.1 v.1 x u (h.itself r.number w.1 ∙ s) (h.itself k.number v.1 ∙ t);
            }
          where
            here : (r : Reg) → IsRegister q r → Live q r.number (expand f rest) ⊎ AmongRegisters r.number (wrote_unless y.raised us) →
                IsRegister m r × Live m r.number rest
            here r j (inl v) =
                let live = live_before m s free top formed placed is end_rest v in
                let u = live_register m live end_rest in (old_register m s free top formed placed is r u.0 j u.1 u.2, live)
            here r j (inr z) = absurd (none r.number z)

        -- what the second writes, where the first writes nothing
        main_silent : IsSilent m i → (x : ℕ) → AmongRegisters x (registers_written q (main_for i next)) → ⊥
        main_silent silent x z =
            ⊎_elim
            (λ h.
            let k = number_among (main_for i next).results h in
            of k.0 (was_in (writes_registers i.op) (first_result i next) i.results k.0 k.1))
            (λ h.
            silent x
            (right_among i.results (killed m i) (subst (AmongRegisters x) (killed_same m s free top formed placed is i next) h)))
            (split_among x (main_for i next).results (killed q (main_for i next)) z)
          where
            of : (k : Reg) → WasIn (writes_registers i.op) (first_result i next) i.results k → ⊥
            of k (was_own c t) = silent k.number (left_among i.results (killed m i) (among_of k i.results c))
            of k (was_fresh y w g h) =
                silent w.number (left_among i.results (killed m i) (among_of w i.results (for_in (writes_registers i.op) g)))

        silent_none : IsSilent m i → (o : Option Value) → (x : ℕ) → AmongRegisters x (wrote_unless o (registers_written q (main_for i next))) → ⊥
        silent_none silent o x z = main_silent silent x (unless_among o (registers_written q (main_for i next)) x z)

        none_written : (o : Option Value) → IsSilent m i ⊎ IsRaised o → (x : ℕ) → AmongRegisters x (wrote_unless o (registers_written q (main_for i next))) → ⊥
        none_written o (inl silent) x z = silent_none silent o x z
        none_written (Some v) (inr r) x z = elim z [ ]
        none_written None (inr r) x z = elim r [ ]

        abbrev Past : Around → File → File → Target → Type 0
        Past y d e to = general.Past c m q f (keeps_marks s) is_code Suit Linked i (main_for i next) next post y y d e to

        no_post : IsSilent m i → post ≡ []
        no_post silent =
            ap (λ rs. spills (writes_registers i.op) (first_result i next) rs) (none i.results (λ n z. silent n (left_among i.results (killed m i) z)))
          where
            none : (rs : List Reg) → ((n : ℕ) → AmongRegisters n rs → ⊥) → rs ≡ []
            none [] h = refl
            none (r ∷ rs) h = absurd (h r.number (first refl))

        just_main : (vs : List Value) (d : File) (p : Puts vs d) (y : Around) → y.raised ≡ None → (r : Reg) (u : Held) → IsRegister q r →
            AmongRegisters r.number (wrote_unless y.raised (registers_written q (main_for i next))) → p.file r.number ≡ Some u → Stores i next d p.file y r
        just_main vs d p y quiet r u j z e =
            ⊎_elim
            (λ h.
            let k = number_among (main_for i next).results h in
            of k.0 k.2 (was_in (writes_registers i.op) (first_result i next) i.results k.0 k.1))
            (λ none.
            ⊎_elim (λ h. absurd (none h))
            (λ h.
            absurd
            (none-some _ (sym (cleared (killed m i) b' r.number (subst (AmongRegisters r.number) (killed_same m s free top formed placed is i next) h))
            ∙ sym (p.others_new r.number none) ∙ e)))
            (split_among r.number (main_for i next).results (killed q (main_for i next))
            (unless_among y.raised (registers_written q (main_for i next)) r.number z)))
            (among_or_not r.number (main_for i next).results)
          where
            of : (k : Reg) → k.number ≡ r.number → WasIn (writes_registers i.op) (first_result i next) i.results k → Stores i next d p.file y r
            of k g (was_own c t) =
                record {
                  register = r;
                  among = old_register m s free top formed placed is r k j (is_in_code (results_in stands c)) g;
                  origin = refl;
                  live = inr
                      (passed.wrote_all m s free top formed placed is y.raised quiet (registers_written m i) r.number
                      (left_among i.results (killed m i) (subst (λ n. AmongRegisters n i.results) g (among_of k i.results c))));
                  value = ap d (sym g) ∙ p.own k c t ∙ ap p.file g;
                }
            of k g (was_fresh x w h t) =
                let number : x ≡ r.number = ap (λ (r : Reg). r.number) t ∙ g in
                let made : Result i next r.number w = subst (λ x. Result i next x w) number h in
                passed.of_result m s free top formed placed is c Suit i next d p.file y ending quiet r j w made (p.made r.number w made)

        past_to : (vs : List Value) (d : File) → put_all limit i.results vs (clear_registers (killed m i) a') ≡ Some d → (p : Puts vs d) (y : Around) →
            y.raised ≡ None → (t : Target) → OneOf t (targets i.op) → Past y d p.file t
        past_to vs d e p y quiet On o =
            let begun : HoldsAfter i next (first_result i next) i.results d p.file =
            record {
              itself = λ x v spilled. same_after vs d p On o x (passed.live_low m s free top formed placed is v (ending_next ending)) v spilled;
              made = λ x w g le. p.made x w g;
            } in
            let done = passed.after m s free top formed placed is c Suit i next d y ending quiet
            (λ n z. put_holds limit i.results vs (clear_registers (killed m i) a') d e n z) (fit_after vs d e)
            (first_result i next) i.results (all_results m s free top formed placed is i next) p.file begun in
            general.on
            (λ agreed.
            passed.agree_storing m s free top formed placed is c Suit i next (post ++ expand f next) (first_result i next) i.results
            (wrote_unless y.raised (registers_written q (main_for i next))) d p.file y
            ending laid_main begun quiet agreed (λ r u j z g. just_main vs d p y quiet r u j z g))
            done.passing
            (λ agreed.
            record {
              same = refl;
              quiet = none_raised quiet;
              holds = record { itself = done.holds; fit = fit_after vs d e; agree = agree_there next (registers_written m i) d y agreed };
            })
        past_to vs d e p y quiet (At l) o =
            let silent = label_silent m (form_of formed ending) l o in
            let unspilled = λ (x : ℕ) (r : Reg) (z : Contains i.results r) (t : is_renewed (writes_registers i.op) r ≡ true) (g : r.number ≡ x).
            silent r.number (left_among i.results (killed m i) (among_of r i.results z)) in
            let rel : Agrees m (registers_written m i) (at (after_label l m.code) d y) → Linked (after_label l m.code) y y d p.file =
            λ (agreed : Agrees m (registers_written m i) (at (after_label l m.code) d y)).
            record {
              same = refl;
              quiet = none_raised quiet;
              holds = record {
                itself = λ x v. same_after vs d p (At l) o x (passed.live_low m s free top formed placed is v (ending_label l m.code)) v (unspilled x);
                fit = fit_after vs d e;
                agree = agree_there (after_label l m.code) (registers_written m i) d y agreed;
              };
            } in
            general.elsewhere (no_post silent)
            (λ agreed. (
              rel agreed,
              subst (λ code. Agrees q (registers_written q (main_for i next)) (at code p.file y)) (sym (label_expand f (keeps_marks s) l m.code))
                  (agree_begins (after_label l m.code) (registers_written q (main_for i next)) d p.file y (ending_label l m.code) (rel agreed).holds
                  (silent_none silent y.raised)),
            ))

        -- where an exit or a raise lands
        landed : (to : Landing) → MayLand i.op to → (y : Around) → Agrees m (registers_written m i) (at (landing_code m.code (i ∷ next) to) a' y) →
            Holds (landing_code m.code (i ∷ next) to) a' b'
        landed (AtLabel l) (lands_at_label o) y agreed =
            let silent = label_silent m (form_of formed ending) l o in
            record {
              itself = λ n v. still n (on (silent n) (goes (At l) o) v);
              fit = fit_still;
              agree = agree_there (after_label l m.code) (registers_written m i) a' y agreed;
            }
        landed AtHandler (lands_at_handler r) y agreed =
            record {
              itself = λ n v. still n (caught_live r (tries_at (i ∷ next)) refl v);
              fit = fit_still;
              agree = agree_there (at_handler m.code (tries_at (i ∷ next))) (registers_written m i) a' y agreed;
            }

        tries_so : tries_at (main_for i next ∷ (post ++ expand f next)) ≡ tries_at (i ∷ next)
        tries_so = laid_tries m s free top formed placed is (main ending laid_main)

        lands : (to : Landing) → MayLand i.op to → (y : Around) → IsSilent m i ⊎ IsRaised y.raised →
            IsQuiet (landing_code m.code (i ∷ next) to) y →
            general.Lands c m q f (keeps_marks s) is_code Suit Linked i (main_for i next) next post to y y a' b'
        lands to may y silent quiet agreed = (
          record { same = refl; quiet = quiet; holds = landed to may y agreed },
          subst (λ code. Agrees q (registers_written q (main_for i next)) (at code b' y))
              (sym (land_expand f (keeps_marks s) m.code (i ∷ next) (main_for i next ∷ (post ++ expand f next)) to tries_so))
              (agree_begins (landing_code m.code (i ∷ next) to) (registers_written q (main_for i next)) a' b' y (ending_land to (i ∷ next) m.code)
              (landed to may y agreed) (none_written y.raised silent)),
        )

        pushed : IsTry i.op → (y : Around) → Agrees m (registers_written m i) (at next a' y) → Holds next a' b'
        pushed t y agreed =
            let silent = try_silent m (form_of formed ending) t in
            record {
              itself = λ n v. still n (on (silent n) (goes On (try_on i.op t)) v);
              fit = fit_still;
              agree = agree_there next (registers_written m i) a' y agreed;
            }

        apart_results : Apart i.results
        apart_results = apart_of i.results (All-contains (λ (i : Instr). AreDistinct i.results) m.code i formed.distinct (contains_of stands))

        low_results : (r : Reg) → Contains i.results r → r.number < first_result i next
        low_results r z =
            let lt = is.above r (is_in_code (results_in stands z)) in
            let from = is.from i next stands in
            let rises = past_rises (reads_registers i.op) (s (length next)) i.args in omega (arith, lt, from, rises)

        puts_same : (vs : List Value) (d : File) (p : Puts vs d) →
            put_all limit (main_for i next).results vs (clear_registers (killed q (main_for i next)) b') ≡ Some p.file
        puts_same vs d p =
            subst (λ ks. put_all limit (main_for i next).results vs (clear_registers ks b') ≡ Some p.file)
            (sym (killed_same m s free top formed placed is i next)) p.puts

        acts_same : (y : Around) (act : Act) → Within i.op act → Told (IsSilent m i) act → Calm act →
            general.Acts c m q f (keeps_marks s) is_code Suit Linked i (main_for i next) next post y y a' b' act act
        acts_same y (Goes vs to y') (goes_in o) t (calm_go quiet) =
            general.both_go
            (λ d e.
            let p = put_renewed limit (writes_registers i.op) (first_result i next) i.results vs (clear_registers (killed m i) a') (clear_registers (killed m i) b') d
            apart_results low_results e in
            (p.file, puts_same vs d p, past_to vs d e p y' quiet to o))
        acts_same y (Jumps (AtLabel l) y') (jumps_in may) (told_jump silent) (calm_label quiet) =
            general.both_jump tries_so (lands (AtLabel l) may y' silent (none_raised quiet))
        acts_same y (Jumps AtHandler y') (jumps_in may) (told_jump silent) calm_handler =
            general.both_jump tries_so (lands AtHandler may y' silent (caught (caught_at m.code (tries_at (i ∷ next)))))
        acts_same y (Unwinds y') (unwinds_in r) (told_unwind silent) calm_unwind =
            general.both_unwind tries_so
            (lands AtHandler (lands_at_handler r) y' silent (caught (caught_at m.code (tries_at (i ∷ next)))))
        acts_same y (Pushes y') (pushes_in t) u (calm_push quiet) =
            general.both_push (no_post (try_silent m (form_of formed ending) t)) refl
            (λ agreed. (
              record { same = refl; quiet = none_raised quiet; holds = pushed t y' agreed },
              agree_begins next (registers_written q (main_for i next)) a' b' y' (ending_next ending) (pushed t y' agreed)
                  (silent_none (try_silent m (form_of formed ending) t) y'.raised),
            ))
        acts_same y (Asks whom vs go) (asks_in w) (told_ask t) (calm_ask k) =
            general.both_ask (record { memory = refl; tries = refl }) (λ d. acts_same y (go d) (w d) (t d) (k d))
        acts_same y (Replaces whom vs kept) w t k = general.both_replace (record { memory = refl; tries = refl })
        acts_same y (Ends d) w t k = general.both_end
        acts_same y (EndsRaising d) w t k = general.both_raise
        acts_same y Stuck w t k = general.stuck_first

        -- ---- vals that are live over it

        vals_main : (y : Around) → ValsWritten m (at (i ∷ next) a y) → ValsWritten q (at (main_for i next ∷ (post ++ expand f next)) b y)
        vals_main y known =
            record {
              written = λ j ys e frame r one val v none.
                  let head = head_same e in
                  let there : LiveAcross q r.number (main_for i next) (post ++ expand f next) =
                  subst (λ xs. LiveAcross q r.number (main_for i next) xs) (sym (tail_same e))
                  (subst (λ j. LiveAcross q r.number j ys) (sym head) v) in
                  let x = across_back m s free top formed placed is i next ending laid_main there in
                  let u = live_register m (across_live x) ending in
                  known.written i next refl (subst (λ (j : Instr). passes_frame j.op ≡ true) (sym head) frame) r
                  (old_register m s free top formed placed is r u.0 one u.1 u.2) val x
                  ((reading.holds).itself r.number (across_live x) ∙ none);
            }

      one : (i : Instr) (next : List Instr) (a b : File) (ending : Ending (i ∷ next) m.code) → Holds (i ∷ next) a b → (y : Around) →
          IsQuiet (i ∷ next) y → (vs : List Value) → values a i.args ≡ Some vs →
          general.Replaces c m q f (keeps_marks s) is_code Suit Linked i next y y a b vs
      one i next a b ending holds y quiet vs e =
          let laid : Lay (Reading i next (first_result i next) [])
          (main_for i next ∷ (spills (writes_registers i.op) (first_result i next) i.results ++ expand f next)) =
          main ending (passed.laid_after m s free top formed placed is i next ending) in
          let begun : HoldsReading i next (first_operand next) a b =
          record {
            holds = holds;
            made = λ x w g lt. let le = for_from (reads_registers i.op) g in absurd (omega (arith, lt, le));
          } in
          let gone = passed.before m s free top formed placed is c Suit i next a y ending (λ n z. values_held a i.args vs e n z)
          (main_for i next ∷ (spills (writes_registers i.op) (first_result i next) i.results ++ expand f next)) laid
          (first_operand next) i.args (all_operands m s free top formed placed is i next) b begun in
          record {
            pre = reloads (reads_registers i.op) (first_operand next) i.args;
            main = main_for i next;
            post = spills (writes_registers i.op) (first_result i next) i.results;
            shape = refl;
            between = gone.file;
            passing = gone.passing;
            vals = vals_main i next a gone.file ending gone.holds y;
            read = vs;
            reads = sym
                (values_renewed a gone.file (reads_registers i.op) (first_operand next) i.args
                (λ r z t. ((gone.holds).holds).itself r.number (read (among_of r i.args z)))
                (λ x w g. (gone.holds).made x w g (for_below (reads_registers i.op) g)))
                ∙ e;
            alike = acts_same i next a gone.file ending gone.holds y (mach_act c.setting i.op vs y) (within c.setting i.op vs y)
                (told m (form_of formed ending) c.setting vs y) (calm_here i next y quiet c.setting vs);
          }

    serves : (Suit : Around → Around → Type 0) → ((x y : Around) → x ≡ y → Suit x y) →
        general.Serves c m q f (keeps_marks s) is_code Suit Linked
    serves Suit suits =
        record {
          suits = λ rest x y a b l. suits x y l.same;
          each = λ i next x y a b ending l vs e. inl
              (subst (λ y. general.Replaces c m q f (keeps_marks s) is_code Suit Linked i next x y a b vs) l.same
              (one Suit i next a b ending l.holds x l.quiet vs e));
        }

    -- at the entry the parameters are written
    at_entry : (vs : List Value) (a : File) → put_all limit m.params vs (λ n. None) ≡ Some a → Holds m.code a a
    at_entry vs a e =
        record {
          itself = λ n v. refl;
          fit = fit_at_entry m formed limit vs a e;
          agree = λ r k i j origin v w x y g h. agree_at_entry m formed limit vs a e r k i j origin x y g h;
        }

    linked_entry : (vs : List Value) (a : File) (memory : Memory) → put_all limit m.params vs (λ n. None) ≡ Some a →
        Linked m.code (entry_around memory) (entry_around memory) a a
    linked_entry vs a memory e = record { same = refl; quiet = none_raised refl; holds = at_entry vs a e }

    comes : (Suit : Around → Around → Type 0) → ((x : Around) → Suit x x) → (vs : List Value) (a : File) (memory : Memory) →
        put_all limit m.params vs (λ n. None) ≡ Some a → (n : ℕ) (t : Tally) → Proper c m n (at m.code a (entry_around memory)) t →
        Comes Suit (run_of_mach c m n (at m.code a (entry_around memory)) t) c q (at q.code a (entry_around memory)) t
    comes Suit suits vs a memory e n t proper =
        general.comes_from c m q f (keeps_marks s) is_code Suit Linked (serves Suit (λ x y g. subst (Suit x) g (suits x))) a a (entry_around memory)
        (entry_around memory) (linked_entry vs a memory e) n t proper

  -- The function with its reloads and spills does what it did.
  pub does_reloaded : MachSimulation m (reloaded_by s m)
  does_reloaded = λ c.
      begins_at c m q refl
      (λ arguments memory a t n e proper.
      record {
        no_less = comes c Ahead level arguments a memory e n t proper;
        no_more = comes c Trails level_trail arguments a memory e n t proper;
      })
