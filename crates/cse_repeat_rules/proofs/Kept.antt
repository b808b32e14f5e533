-- A function whose repeats are moves does what it did, step by step, over registers that hold the same.
use Rattle.std.proofs.Common.{◌≡◌, ℕ, true, false, inl, inr, ◌⊎◌, ⊎_elim, List, [], ◌∷◌, length, Option, Some, None, refl, sym, ap, ◌∙◌, subst}
use Rattle.std.proofs.lemmas.Bool.{cases_Bool}
use Rattle.std.proofs.lemmas.Option.{none-some}
use Rattle.bs_words.specs.Memory.{Memory}
use Rattle.bs_words.specs.declared.types.Comp.TheVariants as comp
use Rattle.bs_words.specs.declared.values.Value.{Value}
use Rattle.bs_words.proofs.Lists.{head_same, tail_same}
use Rattle.cmm_meaning.specs.State.{Doing}
use Rattle.mach_ir.specs.Acts.{Around, Target, On, At, AtHandler, Act, Goes, Pushes, Jumps, Unwinds, Asks, Replaces, Ends, EndsRaising, Stuck}
use Rattle.mach_ir.specs.Keeps.{ValsWritten, Ahead, Trails, Proper, Follows, Begins, MachSimulation}
use Rattle.mach_ir.specs.Meaning.{Held, State, File, put_all, clear_registers, killed, values, with_held, past_frame, passes_frame, mach_act, tries_at, tries_past, mach_start}
use Rattle.mach_ir.specs.Placed.{is_straight}
use Rattle.mach_ir.specs.Runs.{ActivationSetting, Tally, entry_around}
use Rattle.mach_ir.specs.Walks.{IsRegister, LiveAcross}
use Rattle.mach_ir.specs.declared.reg.Reg.{Reg}
use Rattle.mach_ir.specs.declared.mach.Instr.{Instr}
use Rattle.mach_ir.specs.declared.mach.Mach.{Mach}
use Rattle.mach_laws.specs.Expand.{Ending, expand}
use Rattle.mach_laws.proofs.General as general
use Rattle.mach_laws.proofs.General.{at}
use Rattle.mach_laws.proofs.Leads.{Within, asks_in, within}
use Rattle.mach_laws.proofs.Level as levels
use Rattle.mach_laws.proofs.Places.{tries_expand, stands_of}
use Rattle.mach_laws.proofs.Simulate.{Agrees}
use Rattle.cse_repeat_rules.specs.Kept.{OwnOrigins}
use Rattle.cse_repeat_rules.specs.Repeated.{is_operator, allocates, RepeatsEarlier, from_earlier, instr_with_earlier, alone_with_earlier, with_moves, IsRepeatedBefore}
use Rattle.cse_repeat_rules.proofs.OneForOne as one
use Rattle.mach_laws.proofs.InPlace.{frame_same}
use Rattle.mach_laws.proofs.Level.{ahead_of, trails_of}
use Rattle.cse_repeat_rules.proofs.Form.{Fate, unchanged, moved, fate, alike, same_ops, keeps_marks, was_register}
use Rattle.cse_repeat_rules.proofs.Acting.{Grown, GoesOn, is_stuck, goes_on, straight_on, as_it_was}
use Rattle.cse_repeat_rules.proofs.Held.{Holding, Holds, holds_next, calm}
use Rattle.cse_repeat_rules.proofs.Live.{Stood, across_back}
use Rattle.cse_repeat_rules.proofs.Standing.{operator_straight, operator_same, Standing, not_past, not_at_entry, not_at_label, not_landed, Repeated, repeated}

module _ (m : Mach) (plan : ℕ → Option Reg) (own : OwnOrigins m)
    (moves : (i : Instr) (next made : List Instr) → IsRepeatedBefore plan m i next made → is_operator i.op ≡ true → (r : Reg) →
    plan (length next) ≡ Some r → RepeatsEarlier made i r) where
  abbrev q : Mach
  q = record m { code = with_moves plan m.code }

  abbrev f : ℕ → Instr → List Instr
  f = alone_with_earlier plan

  -- registers of one origin are one
  agreed : (ws : List Reg) (s : State) → Agrees q ws s
  agreed ws s = one.agreed (instr_with_earlier plan) (alike plan) m (was_register m plan moves) own ws s

  module _ (c : ActivationSetting) where
    -- both are at one place, with the same round them and in registers, and results that stand hold what they should
    record InStep (rest : List Instr) (x y : Around) (a b : File) : Type 0 where
      around : x ≡ y
      file : a ≡ b
      holds : Holds m plan c rest x a

    vals_before : (i : Instr) (next : List Instr) (a : File) (x : Around) → Ending (i ∷ next) m.code →
        Holds m plan c (i ∷ next) x a → ValsWritten m (at (i ∷ next) a x) →
        ValsWritten q (at (instr_with_earlier plan (length next) i ∷ expand f next) a x)
    vals_before i next a x ending holds known =
        record {
          written = λ j ys e frame r one val v none.
              by r (was_register m plan moves r one) val
              (sym (frame_same (instr_with_earlier plan) (same_ops plan) (length next) i) ∙ ap (λ (z : Instr). passes_frame z.op) (head_same e) ∙ frame) none
              (across_back m plan moves ending
              (subst (λ ys. LiveAcross q r.number (instr_with_earlier plan (length next) i) ys) (sym (tail_same e))
              (subst (λ (z : Instr). LiveAcross q r.number z ys) (sym (head_same e)) v)));
        }
      where
        by : (r : Reg) → IsRegister m r → r.comp ≡ comp.Val → passes_frame i.op ≡ true → a r.number ≡ None →
            LiveAcross m r.number i next ⊎ Stood m plan moves r.number i next → ⊥
        by r one val frame none (inl l) = known.written i next refl frame r one val l none
        by r one val frame none (inr s) =
            let b = s.before in
            let h = holds b.instr b.register b.standing in none-some _ (sym none ∙ ap a (sym b.number) ∙ h.holds)

    module _ (Suit : Around → Around → Type 0) where
      abbrev Acts : (i main : Instr) (next : List Instr) (x : Around) (a b : File) → Act → Act → Type 0
      Acts i main next x a b one two = general.Acts c m q f (keeps_marks plan) refl Suit InStep i main next [] x x a b one two

      abbrev Past : (i main : Instr) (next : List Instr) (x : Around) (d : File) → Target → Type 0
      Past i main next x d to = general.Past c m q f (keeps_marks plan) refl Suit InStep i main next [] x x d d to

      tries_same : (i : Instr) (next : List Instr) → tries_at (i ∷ expand f next) ≡ tries_at (i ∷ next)
      tries_same i next = ap (tries_past i.op) (tries_expand f (keeps_marks plan) next)

      -- where nothing stands
      none_holds : (rest : List Instr) (x : Around) (a : File) → ((j : Instr) (r : Reg) → Standing m plan rest j r → ⊥) → InStep rest x x a a
      none_holds rest x a none = record { around = refl; file = refl; holds = λ j r s. absurd (none j r s) }

      past_to : (i : Instr) (next : List Instr) (x : Around) (d : File) → Ending (i ∷ next) m.code → is_straight i.op ≡ false →
          (t : Target) → Past i i next x d t
      past_to i next x d ending e On =
          general.on (λ w. agreed _ _) general.passed (λ w. none_holds next x d (not_past m plan ending e))
      past_to i next x d ending e (At l) =
          general.elsewhere refl (λ w. (none_holds _ x d (not_at_label m plan l), agreed _ _))

      -- what ends a straight run
      acts_same : (i : Instr) (next : List Instr) (x : Around) (a : File) → Ending (i ∷ next) m.code → is_straight i.op ≡ false →
          (act : Act) → Within i.op act → Acts i i next x a a act act
      acts_same i next x a ending e (Goes vs to after) w = general.both_go (λ d h. (d, h, past_to i next after d ending e to))
      acts_same i next x a ending e (Jumps to after) w =
          general.both_jump (tries_same i next)
          (λ w. (none_holds _ after a (not_landed m plan to (i ∷ next)), agreed _ _))
      acts_same i next x a ending e (Unwinds after) w =
          general.both_unwind (tries_same i next)
          (λ w. (none_holds _ after a (not_landed m plan AtHandler (i ∷ next)), agreed _ _))
      acts_same i next x a ending e (Pushes after) w =
          general.both_push refl refl (λ w. (none_holds next after a (not_past m plan ending e), agreed _ _))
      acts_same i next x a ending e (Asks whom vs go) (asks_in w) =
          general.both_ask (record { memory = refl; tries = refl }) (λ d. acts_same i next x a ending e (go d) (w d))
      acts_same i next x a ending e (Replaces whom vs kept) w = general.both_replace (record { memory = refl; tries = refl })
      acts_same i next x a ending e (Ends d) w = general.both_end
      acts_same i next x a ending e (EndsRaising d) w = general.both_raise
      acts_same i next x a ending e Stuck w = general.stuck_first

      module _ (i : Instr) (next : List Instr) (x : Around) (a : File) (ending : Ending (i ∷ next) m.code)
          (holds : Holds m plan c (i ∷ next) x a) (vs : List Value) (reads : values a i.args ≡ Some vs) where
        abbrev a' : File
        a' = past_frame (passes_frame i.op) a

        -- within a straight run
        stays_in_step : is_straight i.op ≡ true → (ws : List Value) (after : Around) →
            mach_act c.setting i.op vs x ≡ Goes ws On after → Grown x after → (d : File) →
            put_all c.setting.end i.results ws (clear_registers (killed m i) a') ≡ Some d → InStep next after after d d
        stays_in_step st ws after acts grown d puts =
            record {
              around = refl;
              file = refl;
              holds = holds_next m plan c ending st a d x after vs ws reads acts grown puts holds;
            }

        on_straight : is_straight i.op ≡ true → (ws : List Value) (after : Around) →
            mach_act c.setting i.op vs x ≡ Goes ws On after → Grown x after →
            Acts i i next x a' a' (Goes ws On after) (Goes ws On after)
        on_straight st ws after acts grown =
            general.both_go
            (λ d e. (d, e, general.on (λ w. agreed _ _) general.passed (λ w. stays_in_step st ws after acts grown d e)))

        of_act : (act : Act) → mach_act c.setting i.op vs x ≡ act → Acts i i next x a' a' act act →
            Acts i i next x a' a' (mach_act c.setting i.op vs x) (mach_act c.setting i.op vs x)
        of_act act e s = subst (λ z. Acts i i next x a' a' z z) (sym e) s

        straight_acts : is_straight i.op ≡ true → GoesOn x (mach_act c.setting i.op vs x) →
            Acts i i next x a' a' (mach_act c.setting i.op vs x) (mach_act c.setting i.op vs x)
        straight_acts st (is_stuck e) = of_act Stuck e general.stuck_first
        straight_acts st (goes_on ws after e grown) = of_act (Goes ws On after) e (on_straight st ws after e grown)

        same_acts : Acts i i next x a' a' (mach_act c.setting i.op vs x) (mach_act c.setting i.op vs x)
        same_acts =
            ⊎_elim (λ st. straight_acts st (straight_on c.setting i.op st vs x))
            (λ e. acts_same i next x a' ending e (mach_act c.setting i.op vs x) (within c.setting i.op vs x))
            (cases_Bool (is_straight i.op))

        abbrev Replaced : Type 0
        Replaced = general.Replaces c m q f (keeps_marks plan) refl Suit InStep i next x x a a vs

        vals_here : (main : Instr) → instr_with_earlier plan (length next) i ≡ main → ValsWritten m (at (i ∷ next) a x) →
            ValsWritten q (at (main ∷ expand f next) a x)
        vals_here main e known =
            subst (λ (z : Instr). ValsWritten q (at (z ∷ expand f next) a x)) e (vals_before i next a x ending holds known)

        left_there : instr_with_earlier plan (length next) i ≡ i → Replaced
        left_there e =
            record {
              pre = [];
              main = i;
              post = [];
              shape = ap (λ z. z ∷ []) e;
              between = a;
              passing = general.passed;
              vals = vals_here i e;
              read = vs;
              reads = reads;
              alike = same_acts;
            }

        move_there : (r : Reg) → is_operator i.op ≡ true → instr_with_earlier plan (length next) i ≡ from_earlier (Some r) i →
            Repeated m plan i next r → Replaced
        move_there r o e w =
            record {
              pre = [];
              main = from_earlier (Some r) i;
              post = [];
              shape = ap (λ z. z ∷ []) e;
              between = a;
              passing = general.passed;
              vals = vals_here (from_earlier (Some r) i) e;
              read = h.value ∷ [];
              reads = ap (λ (o : Option Held). with_held o (Some [])) h.holds;
              alike = subst
                  (λ act. Acts i (from_earlier (Some r) i) next x a' a act (Goes (h.value ∷ []) On x)) (sym acts)
                  (general.both_go
                  (λ d puts. (
                    d,
                    ap (put_all c.setting.end i.results (h.value ∷ [])) (sym quiet) ∙ puts,
                    general.on (λ z. agreed _ _) general.passed
                        (λ z. stays_in_step (operator_straight i.op o) (h.value ∷ []) x acts (as_it_was x) d puts),
                  )));
            }
          where
            h : Holding m plan c x a w.instr r
            h = holds w.instr r w.standing

            acts : mach_act c.setting i.op vs x ≡ Goes (h.value ∷ []) On x
            acts =
                ap (λ g. mach_act c.setting g vs x) (sym w.same_op)
                ∙ h.gives vs (ap (values a) w.same_args ∙ reads)

            quiet : clear_registers (killed m i) a' ≡ a
            quiet =
                calm m plan c i a (operator_straight i.op o) (operator_same allocates false (λ f. refl) i.op o)

        replaced : Replaced
        replaced = by (fate plan (length next) i)
          where
            by : Fate plan (length next) i → Replaced
            by (unchanged e s) = left_there e
            by (moved r g s e) = move_there r g e (repeated m plan moves (stands_of ending) g s)

      serves : ((x y : Around) → x ≡ y → Suit x y) → general.Serves c m q f (keeps_marks plan) refl Suit InStep
      serves suits =
          record {
            suits = λ rest x y a b s. suits x y s.around;
            each = λ i next x y a b ending s vs e.
                inl
                (subst (λ y. general.Replaces c m q f (keeps_marks plan) refl Suit InStep i next x y a b vs) s.around
                (subst (λ b. general.Replaces c m q f (keeps_marks plan) refl Suit InStep i next x x a b vs) s.file
                (replaced i next x a ending s.holds vs e)));
          }

    begun : (x : Around) (a : File) → InStep m.code x x a a
    begun x a = record { around = refl; file = refl; holds = λ j r s. absurd (not_at_entry m plan j r s) }

    follows : (a : File) (x : Around) (n : ℕ) (t : Tally) → Proper c m n (at m.code a x) t →
        Follows c m q (at m.code a x) (at q.code a x) t n
    follows a x n t proper =
        record {
          no_less = general.comes_from c m q f (keeps_marks plan) refl Ahead InStep (serves Ahead ahead_of) a a x x (begun x a) n t proper;
          no_more = general.comes_from c m q f (keeps_marks plan) refl Trails InStep (serves Trails trails_of) a a x x (begun x a) n t proper;
        }

    does_at : (arguments : List Value) (memory : Memory) (doings : List Doing) (s : State) →
        mach_start c m arguments memory ≡ Some s → Begins c m q arguments memory doings s
    does_at = levels.begins_at c m q refl (λ arguments memory a t n e proper. follows a (entry_around memory) n t proper)

  -- The function whose repeats are moves does what it did.
  pub does_repeated : MachSimulation m (record m { code = with_moves plan m.code })
  does_repeated = λ c arguments memory doings s e. does_at c arguments memory doings s e
