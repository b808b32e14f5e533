-- A function with moves of registers to themselves does what it did: a register that is moved holds a value of its component
-- there, so that both hold the same all along.
use Rattle.std.proofs.Common.{◌≡◌, ◌≢◌, ℕ, Bool, true, false, cond, inl, inr, ◌⊎◌, ⊎_elim, List, [], ◌∷◌, ◌++◌, length, Option, Some, None, refl, sym, ap, ◌∙◌, subst}
use Rattle.std.specs.List.{Contains}
use Rattle.std.proofs.lemmas.Bool.{both_ways}
use Rattle.std.proofs.lemmas.Option.{none-some}
use Rattle.bs_words.specs.Fits.{fits, type_of_comp}
use Rattle.bs_words.specs.declared.types.Comp.TheVariants as comp
use Rattle.bs_words.specs.declared.types.Loc.TheVariants as loc
use Rattle.bs_words.specs.declared.values.Value.{Value}
use Rattle.bs_words.proofs.Lists.{first_in, later_in, head_same, tail_same, none_there}
use Rattle.mach_ir.specs.Acts.{Around, Target, On, At, Landing, AtLabel, AtHandler}
use Rattle.mach_ir.specs.Formed.{WellFormed}
use Rattle.mach_ir.specs.Runs.{ActivationSetting, Continues, entry_around}
use Rattle.mach_ir.specs.Meaning.{Held, File, put_if, put_all, clear_registers, killed, registers_written, with_held, values, past_frame, passes_frame, after_label, from_handler, at_handler, code_at, tries_at, tries_past, landing_code, wrote, on_values, step}
use Rattle.mach_ir.specs.Walks.{AmongRegisters, OneOf, targets, may_raise, goes, raises, Reached, at_entry, by_step, by_raise, Live, LiveAcross, IsRegister, is_in_code}
use Rattle.mach_ir.specs.Keeps.{ValsWritten, OriginsAgree, wrote_unless, MachSimulation}
use Rattle.mach_ir.specs.declared.reg.Reg.{Reg}
use Rattle.mach_ir.specs.declared.mach.MachOp.{MachOp}
use Rattle.mach_ir.specs.declared.mach.MachOp.TheVariants as mach
use Rattle.mach_ir.specs.declared.mach.Instr.{Instr}
use Rattle.mach_ir.specs.declared.mach.Mach.{Mach}
use Rattle.mach_laws.specs.Expand.{Ending, expand}
use Rattle.mach_laws.proofs.General as general
use Rattle.mach_laws.proofs.General.{at}
use Rattle.mach_laws.proofs.Leads.{MayLand, lands_at_label, lands_at_handler, try_on}
use Rattle.mach_laws.proofs.Level as level
use Rattle.mach_laws.proofs.Places.{ending_next, stands_of, results_in, form_of}
use Rattle.mach_laws.proofs.Simulate.{Agrees}
use Rattle.mach_laws.proofs.Among.{split_among, among_or_not}
use Rattle.mach_laws.proofs.Raised.{IsSilent, label_silent, try_silent, told}
use Rattle.colouring_rules.proofs.Files.{not_cleared, put_both}
use Rattle.spill_rules.proofs.Holding.{FitsIn, put_fits, put_holds, clear_fits, frame_fits, fit_at_entry, agree_at_entry}
use Rattle.sink_rules.specs.Sunk.{SinkPlan, to_itself, planned_moves, IsSinkPlan}
use Rattle.sink_rules.specs.Walks as walks
use Rattle.sink_rules.specs.Walks.{Stale}
use Rattle.sink_rules.proofs.Files.{put_back, open_kept, lost_nothing}
use Rattle.sink_rules.proofs.Live.{laid_label, laid_handler, live_back, moved_live, across_back}
use Rattle.sink_rules.proofs.Text as text
use Rattle.sink_rules.proofs.Text.{before, laid_instr, keeps_marks, of_one}

some_none : {A : Type 0} {x : A} (o : Option A) → o ≡ Some x → o ≡ None → ⊥
some_none o e h = none-some _ (sym h ∙ e)

module _ (m : Mach) (plan : SinkPlan) (formed : WellFormed m) (is : IsSinkPlan m plan) where
  abbrev q : Mach
  q = text.laid m plan is

  abbrev f : ℕ → Instr → List Instr
  f = laid_instr plan

  abbrev Laid : List Instr → List Instr → Type 0
  Laid = text.Laid m plan is

  was : (r : Reg) → IsRegister q r → IsRegister m r
  was = text.was_register m plan is

  -- ---- where registers of one origin agree

  -- what agrees in the first agrees in the second
  agrees_by : (rest ys : List Instr) → Laid rest ys → (ws : List Reg) (a : File) (y : Around) → OriginsAgree m ws (at rest a y) →
      OriginsAgree q ws (at ys a y)
  agrees_by rest ys laid ws a y known =
      record {
        agree = λ r k i j origin l e x z g h.
            known.agree r k (was r i) (was k j) origin (there r l) (there k e) x z g h;
      }
    where
      there : (r : Reg) → Live q r.number ys ⊎ AmongRegisters r.number ws → Live m r.number rest ⊎ AmongRegisters r.number ws
      there r l = ⊎_elim (λ v. inl (live_back m plan is v rest laid)) inr l

  -- ---- where it goes

  laid_at_handler : (tries : List ℕ) → Laid (at_handler m.code tries) (at_handler q.code tries)
  laid_at_handler [] = text.laid_end
  laid_at_handler (l ∷ tries) = laid_handler m plan is l

  laid_landing : (i : Instr) (next : List Instr) (to : Landing) → Ending next m.code →
      Laid (landing_code m.code (i ∷ next) to) (landing_code q.code (i ∷ expand f next) to)
  laid_landing i next (AtLabel l) e = laid_label m plan is l
  laid_landing i next AtHandler e =
      subst (λ ts. Laid (at_handler m.code (tries_at (i ∷ next))) (at_handler q.code ts))
      (sym (ap (tries_past i.op) (text.laid_tries m plan is (text.laid_of m plan is next e))))
      (laid_at_handler (tries_at (i ∷ next)))

  module _ (c : ActivationSetting) where
    abbrev limit : ℕ
    limit = c.setting.end

    abbrev IsFit : File → Type 0
    IsFit a = (r : Reg) → IsRegister m r → FitsIn limit r (a r.number)

    -- an open register that holds nothing, and is no addr, may not have been written
    abbrev IsStale : List Instr → File → Type 0
    IsStale rest a =
        (r : Reg) → IsRegister m r → r.loc ≡ loc.Unset → r.comp ≢ comp.Addr → a r.number ≡ None → Stale m r.number rest

    record Known (rest : List Instr) (a : File) : Type 0 where
      reached : Reached m rest
      fit : IsFit a
      stale : IsStale rest a
      agree : (y : Around) → OriginsAgree m [] (at rest a y)

    -- both hold the same, and of it that is known where code is left
    record Holds (rest : List Instr) (a b : File) : Type 0 where
      same : a ≡ b
      known : (i : Instr) (next : List Instr) → rest ≡ i ∷ next → Known (i ∷ next) a

    holds_by : (rest : List Instr) (a : File) → Known rest a → Holds rest a a
    holds_by rest a k =
        record { same = refl; known = λ i next e. subst (λ rest. Known rest a) e k }

    agree_live : (rest : List Instr) (ws : List Reg) (a : File) (y : Around) → Agrees m ws (at rest a y) → (z : Around) →
        OriginsAgree m [] (at rest a z)
    agree_live rest ws a y known z =
        record {
          agree = λ r k i j origin l e x u g h. known.agree r k i j origin (live r l) (live k e) x u g h;
        }
      where
        live : (r : Reg) → Live m r.number rest ⊎ AmongRegisters r.number [] → Live m r.number rest ⊎ AmongRegisters r.number (wrote_unless y.raised ws)
        live r (inl v) = inl v
        live r (inr a) = elim a [ ]

    -- ---- moves

    module _ (Suit : Around → Around → Type 0) where
      abbrev Round : List Instr → Around → Around → File → File → Type 0
      Round = level.Level c m q f (keeps_marks plan) refl Holds

      abbrev Passes : Around → List Instr → List Instr → File → File → Type 0
      Passes y xs next b d = general.Passes c m q f (keeps_marks plan) refl Suit Round (Unit {0}) y xs next b d

      move_step : (r : Reg) (zs : List Instr) (a : File) (y : Around) (h : Held) → a r.number ≡ Some h →
          fits limit (type_of_comp r.comp) h.value ≡ true → h.comp ≡ r.comp →
          step c q (at (to_itself r ∷ zs) a y) ≡ Continues (at zs a y)
      move_step r zs a y h e fit same =
          ap (λ o. on_values c q (to_itself r) zs a y (with_held o (Some []))) e
          ∙ ap (λ t. wrote zs y (put_if t r h.value (Some a))) fit
          ∙ ap (λ d. Continues (at zs d y)) (put_back r h a e same)

      no_frame : (r : Reg) (zs : List Instr) (a : File) (y : Around) → ValsWritten q (at (to_itself r ∷ zs) a y)
      no_frame r zs a y =
          record {
            written = λ j ys e frame k one val v none.
                absurd
                (both_ways (passes_frame j.op) (ap (λ (i : Instr). passes_frame i.op) (sym (head_same e))) frame);
          }

      -- what a register holds where it is moved
      moved_holds : (i : Instr) (next : List Instr) (a : File) → Ending (i ∷ next) m.code → Known (i ∷ next) a → (r : Reg) →
          text.IsMoved m plan is r next → (h : Held) × (a r.number ≡ Some h)
      moved_holds i next a ending known r k = by (a r.number) refl
        where
          by : (o : Option Held) → a r.number ≡ o → (h : Held) × (a r.number ≡ Some h)
          by (Some h) e = (h, e)
          by None e =
              absurd
              (is.written i next r (stands_of ending) k.among k.told
              (known.stale r (is.registers r k.among) (is.open_places r k.among)
              (is.no_addr i next r known.reached k.among k.told) e))

      wrote_one : (o : Option Value) (r : Reg) (n : ℕ) → AmongRegisters n (wrote_unless o (r ∷ [])) → r.number ≡ n
      wrote_one None r n a = of_one a
      wrote_one (Some v) r n a = elim a [ ]

      agrees_moved : (i : Instr) (next ys : List Instr) (a : File) (y : Around) → Ending (i ∷ next) m.code → Known (i ∷ next) a →
          (r : Reg) → text.IsMoved m plan is r next → Laid (i ∷ next) ys → Agrees q (registers_written q (to_itself r)) (at ys a y)
      agrees_moved i next ys a y ending known r k laid =
          record {
            agree = λ x z u w origin l e g h s t.
                (known.agree y).agree x z (was x u) (was z w) origin (inl (live x l)) (inl (live z e)) g h s t;
          }
        where
          live : (x : Reg) → Live q x.number ys ⊎ AmongRegisters x.number (wrote_unless y.raised (r ∷ [])) → Live m x.number (i ∷ next)
          live x (inl v) = live_back m plan is v (i ∷ next) laid
          live x (inr a) =
              subst (λ n. Live m n (i ∷ next)) (wrote_one y.raised r x.number a) (moved_live m plan is r ending k)

      passed_moves : (i : Instr) (next ys : List Instr) (a : File) (y : Around) → Ending (i ∷ next) m.code → Known (i ∷ next) a →
          Laid (i ∷ next) ys → (rs : List Reg) → ((r : Reg) → Contains rs r → Contains plan.registers r) →
          Passes y (planned_moves plan (length next) rs) ys a a
      passed_moves i next ys a y ending known laid [] there = general.passed
      passed_moves i next ys a y ending known laid (r ∷ rs) there =
          by (plan.moves (length next) r.number) refl
          (passed_moves i next ys a y ending known laid rs (λ k c. there k (later_in r k rs c)))
        where
          by : (b : Bool) → plan.moves (length next) r.number ≡ b → Passes y (planned_moves plan (length next) rs) ys a a →
              Passes y (cond b (to_itself r ∷ planned_moves plan (length next) rs) (planned_moves plan (length next) rs)) ys a a
          by false t more = more
          by true t more =
              let k : text.IsMoved m plan is r next = record { among = there r (first_in r rs); told = t } in
              let h = moved_holds i next a ending known r k in
              let fit = known.fit r (is.registers r k.among) h.0 h.1 in
              general.passes
              (move_step r (planned_moves plan (length next) rs ++ ys) a y h.0 h.1
              (subst (λ t. fits limit (type_of_comp t) (h.0).value ≡ true) fit.0 fit.1) fit.0)
              (no_frame r (planned_moves plan (length next) rs ++ ys) a y)
              (λ u.
              agrees_moved i next (planned_moves plan (length next) rs ++ ys) a y ending known r k
              (text.laid_moves m plan is i next ending rs (λ k c. there k (later_in r k rs c)) ys laid))
              more

      passed_before : (i : Instr) (next ys : List Instr) (a : File) (y : Around) → Ending (i ∷ next) m.code → Known (i ∷ next) a →
          Laid (i ∷ next) ys → (g : MachOp) → Passes y (before plan (length next) g) ys a a
      passed_before i next ys a y ending known laid (mach.Op g) =
          passed_moves i next ys a y ending known laid plan.registers (λ r c. c)
      passed_before i next ys a y ending known laid (mach.Mark g) = general.passed

      -- ---- each instruction

      module _ (i : Instr) (next : List Instr) (a : File) (ending : Ending (i ∷ next) m.code) (known : Known (i ∷ next) a) where
        abbrev a' : File
        a' = past_frame (passes_frame i.op) a

        laid_next : Laid next (expand f next)
        laid_next = text.laid_of m plan is next (ending_next ending)

        fit_still : IsFit a'
        fit_still r j = frame_fits limit (passes_frame i.op) a r (known.fit r j)

        one_number : (r : Reg) → IsRegister m r → (k : Reg) → Contains i.results k → k.number ≡ r.number → k ≡ r
        one_number r j k z e = formed.numbers k r (is_in_code (results_in (stands_of ending) z)) j e

        fit_after : (vs : List Value) (d : File) → put_all limit i.results vs (clear_registers (killed m i) a') ≡ Some d → IsFit d
        fit_after vs d e r j =
            put_fits limit i.results vs (clear_registers (killed m i) a') d e r (one_number r j)
            (clear_fits limit (killed m i) a' r (fit_still r j))

        -- what holds nothing after a frame point held nothing before it
        stale_still : (r : Reg) → IsRegister m r → r.loc ≡ loc.Unset → r.comp ≢ comp.Addr → a' r.number ≡ None →
            Stale m r.number (i ∷ next)
        stale_still r j u apart e =
            known.stale r j u apart
            (lost_nothing (passes_frame i.op) a r (λ h s. (known.fit r j h s).0) apart e)

        stale_after : (vs : List Value) (d : File) → put_all limit i.results vs (clear_registers (killed m i) a') ≡ Some d → (t : Target) →
            OneOf t (targets i.op) → IsStale (code_at m.code next t) d
        stale_after vs d e t o r j u apart none =
            ⊎_elim (λ z. let h = put_holds limit i.results vs (clear_registers (killed m i) a') d e r.number z in absurd (some_none (d r.number) h.1 none))
            (λ free.
            let p = put_both limit i.results vs (clear_registers (killed m i) a') a' d e in
            let kept = λ (z : AmongRegisters r.number (killed m i)). open_kept m formed i r j u z in
            walks.on
            (stale_still r j u apart
            (sym (not_cleared (killed m i) a' r.number kept) ∙ sym (p.others r.number free) ∙ none))
            (λ w. ⊎_elim free kept (split_among r.number i.results (killed m i) w)) (goes t o))
            (among_or_not r.number i.results)

        known_after : (vs : List Value) (d : File) → put_all limit i.results vs (clear_registers (killed m i) a') ≡ Some d → (y : Around) (t : Target) →
            OneOf t (targets i.op) → Agrees m (registers_written m i) (at (code_at m.code next t) d y) → Known (code_at m.code next t) d
        known_after vs d e y t o agreed =
            record {
              reached = by_step known.reached (goes t o);
              fit = fit_after vs d e;
              stale = stale_after vs d e t o;
              agree = agree_live (code_at m.code next t) (registers_written m i) d y agreed;
            }

        past_to : (vs : List Value) (d : File) → put_all limit i.results vs (clear_registers (killed m i) a') ≡ Some d → (y : Around) (t : Target) →
            OneOf t (targets i.op) → general.Past c m q f (keeps_marks plan) refl Suit Round i i next [] y y d d t
        past_to vs d e y On o =
            general.on (λ agreed. agrees_by next (expand f next) laid_next (wrote_unless y.raised (registers_written m i)) d y agreed) general.passed
            (λ agreed. (refl, holds_by next d (known_after vs d e y On o agreed)))
        past_to vs d e y (At l) o =
            general.elsewhere refl
            (λ agreed. (
              (refl, holds_by (after_label l m.code) d (known_after vs d e y (At l) o agreed)),
              agrees_by (after_label l m.code) (after_label l q.code) (laid_label m plan is l) (wrote_unless y.raised (registers_written m i)) d y
                  agreed,
            ))

        -- ---- where it lands

        known_at_handler : may_raise i.op ≡ true → (y : Around) → (tries : List ℕ) → tries_at (i ∷ next) ≡ tries →
            Agrees m (registers_written m i) (at (at_handler m.code tries) a' y) → Holds (at_handler m.code tries) a' a'
        known_at_handler b y [] e agreed = record { same = refl; known = λ j ys h. absurd (none_there h) }
        known_at_handler b y (l ∷ tries) e agreed =
            holds_by (from_handler l m.code) a'
            (record {
              reached = by_raise known.reached (raises b e);
              fit = fit_still;
              stale = λ r j u apart none. walks.aside (stale_still r j u apart none) (raises b e);
              agree = agree_live (from_handler l m.code) (registers_written m i) a' y agreed;
            })

        silent_known : IsSilent m i → (y : Around) (t : Target) → OneOf t (targets i.op) →
            Agrees m (registers_written m i) (at (code_at m.code next t) a' y) → Known (code_at m.code next t) a'
        silent_known silent y t o agreed =
            record {
              reached = by_step known.reached (goes t o);
              fit = fit_still;
              stale = λ r j u apart none.
                  walks.on (stale_still r j u apart none) (λ w. silent r.number w) (goes t o);
              agree = agree_live (code_at m.code next t) (registers_written m i) a' y agreed;
            }

        landed : (to : Landing) → MayLand i.op to → (y : Around) → Agrees m (registers_written m i) (at (landing_code m.code (i ∷ next) to) a' y) →
            Holds (landing_code m.code (i ∷ next) to) a' a'
        landed (AtLabel l) (lands_at_label o) y agreed =
            holds_by (after_label l m.code) a' (silent_known (label_silent m (form_of formed ending) l o) y (At l) o agreed)
        landed AtHandler (lands_at_handler b) y agreed = known_at_handler b y (tries_at (i ∷ next)) refl agreed

        lands : (y : Around) (to : Landing) → MayLand i.op to →
            general.Lands c m q f (keeps_marks plan) refl Suit Round i i next [] to y y a' a'
        lands y to may agreed = (
          (refl, landed to may y agreed),
          agrees_by (landing_code m.code (i ∷ next) to) (landing_code q.code (i ∷ expand f next) to)
              (laid_landing i next to (ending_next ending)) (wrote_unless y.raised (registers_written m i)) a' y agreed,
        )

        same_operation : level.SameOperation c m q f (keeps_marks plan) refl Suit Holds (IsSilent m i) i i next [] a' a'
        same_operation =
            record {
              goes = λ vs d e. (d, e, λ y to o. past_to vs d e y to o);
              lands = λ y to may s. lands y to may;
              tries = ap (tries_past i.op) (text.laid_tries m plan is laid_next);
              pushes = λ t. (
                refl,
                λ y agreed. (
                  (refl, holds_by next a' (silent_known (try_silent m (form_of formed ending) t) y On (try_on i.op t) agreed)),
                  agrees_by next (expand f next) laid_next (wrote_unless y.raised (registers_written m i)) a' y agreed,
                ),
              );
            }

        vals_before : (y : Around) → ValsWritten m (at (i ∷ next) a y) → ValsWritten q (at (i ∷ expand f next) a y)
        vals_before y before_it =
            record {
              written = λ j ys e frame r one val v none.
                  let head = head_same e in
                  let there : LiveAcross q r.number i (expand f next) =
                  subst (λ xs. LiveAcross q r.number i xs) (sym (tail_same e))
                  (subst (λ j. LiveAcross q r.number j ys) (sym head) v) in
                  before_it.written i next refl (subst (λ (j : Instr). passes_frame j.op ≡ true) (sym head) frame) r (was r one) val
                  (across_back m plan is i next laid_next there) none;
            }

        stays : (y : Around) (vs : List Value) → values a i.args ≡ Some vs →
            level.StaysRound c m q f (keeps_marks plan) refl Suit Holds (IsSilent m i) i next y a a vs
        stays y vs e =
            record {
              pre = before plan (length next) i.op;
              main = i;
              post = [];
              shape = refl;
              same_op = refl;
              between = a;
              passing = passed_before i next (i ∷ expand f next) a y ending known (text.main ending laid_next) i.op;
              vals = vals_before y;
              reads = e;
              told = told m (form_of formed ending) c.setting vs y;
              same = same_operation;
            }

    serves : (Suit : Around → Around → Type 0) → ((x y : Around) → x ≡ y → Suit x y) →
        level.Serves c m q f (keeps_marks plan) refl Holds Suit
    serves Suit suits =
        record {
          suits = λ rest x y a b l. suits x y l.0;
          each = λ i next x y a b ending l vs e. inl (each i next x y a b ending l vs e);
        }
      where
        each : (i : Instr) (next : List Instr) (x y : Around) (a b : File) → Ending (i ∷ next) m.code →
            level.Level c m q f (keeps_marks plan) refl Holds (i ∷ next) x y a b → (vs : List Value) → values a i.args ≡ Some vs →
            general.Replaces c m q f (keeps_marks plan) refl Suit (level.Level c m q f (keeps_marks plan) refl Holds) i next x y a b vs
        each i next x y a b ending l vs e =
            let h = l.1 in
            subst
            (λ y. general.Replaces c m q f (keeps_marks plan) refl Suit (level.Level c m q f (keeps_marks plan) refl Holds) i next x y a b vs)
            l.0
            (subst
            (λ b. general.Replaces c m q f (keeps_marks plan) refl Suit (level.Level c m q f (keeps_marks plan) refl Holds) i next x x a b vs)
            h.same
            (level.replaces c m q f (keeps_marks plan) refl Suit Holds x (stays Suit i next a ending (h.known i next refl) x vs e)))

    -- at the entry the parameters are written
    at_start : (vs : List Value) (a : File) → put_all limit m.params vs (λ n. None) ≡ Some a → Holds m.code a a
    at_start vs a e =
        holds_by m.code a
        (record {
          reached = at_entry;
          fit = fit_at_entry m formed limit vs a e;
          stale = λ r j u apart none.
              walks.at_entry
              (λ z. let h = put_holds limit m.params vs (λ n. None) a e r.number z in some_none (a r.number) h.1 none);
          agree = λ y.
              record {
                agree = λ r k i j origin l w x z g h. agree_at_entry m formed limit vs a e r k i j origin x z g h;
              };
        })

  -- The function with its moves does what it did.
  pub does_sunk : MachSimulation m q
  does_sunk = λ c.
      level.begins_at c m q refl
      (λ arguments memory a t n e proper.
      level.follows_from c m q f (keeps_marks plan) refl (Holds c) (serves c) a a (entry_around memory) (at_start c arguments a e) n t proper)
