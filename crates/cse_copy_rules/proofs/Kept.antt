-- A function whose copies are propagated does what it did, step by step, over registers that hold the same.
use Rattle.std.proofs.Common.{◌≡◌, ℕ, true, false, inl, inr, ◌⊎◌, ⊎_elim, List, [], ◌∷◌, length, Some, None, refl, sym, ap, ◌∙◌, subst}
use Rattle.std.proofs.lemmas.Bool.{cases_Bool, both_ways}
use Rattle.std.specs.List.{Contains}
use Rattle.std.proofs.lemmas.Option.{none-some}
use Rattle.bs_words.specs.Memory.{Memory}
use Rattle.bs_words.specs.declared.types.Comp.TheVariants as comp
use Rattle.bs_words.specs.declared.values.Value.{Value}
use Rattle.bs_words.proofs.Lists.{head_same, tail_same}
use Rattle.cmm_meaning.specs.State.{Doing}
use Rattle.cse_copy_rules.specs.Propagated.{ReadFor, instr_with_sources, alone_with_sources, with_sources, IsPropagatedBefore}
use Rattle.mach_ir.specs.Acts.{Around, Target, On, At, AtHandler, Act, Goes, Pushes, Jumps, Unwinds, Asks, Replaces, Ends, EndsRaising, Stuck}
use Rattle.mach_ir.specs.Formed.{WellFormed}
use Rattle.mach_ir.specs.Keeps.{ValsWritten, Ahead, Trails, Proper, Follows, Begins, MachSimulation}
use Rattle.mach_ir.specs.Meaning.{State, File, put_all, clear_registers, killed, values, past_frame, passes_frame, mach_act, tries_at, mach_start}
use Rattle.mach_ir.specs.Placed.{is_straight}
use Rattle.mach_ir.specs.Runs.{ActivationSetting, Tally, entry_around}
use Rattle.mach_ir.specs.Walks.{IsRegister, is_param, is_in_code, LiveAcross}
use Rattle.mach_ir.specs.declared.reg.Reg.{Reg}
use Rattle.mach_ir.specs.declared.mach.Instr.{Instr}
use Rattle.mach_ir.specs.declared.mach.Mach.{Mach}
use Rattle.mach_laws.specs.Expand.{Ending, expand}
use Rattle.mach_laws.proofs.General as general
use Rattle.mach_laws.proofs.General.{at}
use Rattle.mach_laws.proofs.Leads.{Within, asks_in, within}
use Rattle.mach_laws.proofs.Level as levels
use Rattle.mach_laws.proofs.Places.{tries_expand, stands_of, results_in}
use Rattle.mach_laws.proofs.Simulate.{Agrees}
use Rattle.mach_laws.proofs.Level.{ahead_of, trails_of}
use Rattle.cse_repeat_rules.specs.Kept.{OwnOrigins}
use Rattle.cse_repeat_rules.proofs.Acting.{GoesOn, is_stuck, goes_on, straight_on}
use Rattle.cse_repeat_rules.proofs.OneForOne as one
use Rattle.cse_copy_rules.proofs.Form.{alike, keeps_marks, was_register}
use Rattle.cse_copy_rules.proofs.Held.{Typed, nothing_typed, written_typed, past_typed, Holds, reads_same, holds_next}
use Rattle.cse_copy_rules.proofs.Live.{Stood, moved, left, across_back}
use Rattle.cse_copy_rules.proofs.Standing.{Standing, not_past, not_at_entry, not_at_label, not_landed}

module _ (m : Mach) (plan : ℕ → Reg → Reg) (formed : WellFormed m) (own : OwnOrigins m)
    (reads : (i : Instr) (next made : List Instr) → IsPropagatedBefore plan m i next made → (r : Reg) → Contains i.args r →
    ReadFor made r (plan (length next) r)) where
  abbrev q : Mach
  q = record m { code = with_sources plan m.code }

  abbrev f : ℕ → Instr → List Instr
  f = alone_with_sources plan

  -- registers of one origin are one
  agreed : (ws : List Reg) (s : State) → Agrees q ws s
  agreed ws s = one.agreed (instr_with_sources plan) (alike plan) m (was_register m plan reads) own ws s

  module _ (c : ActivationSetting) where
    abbrev HoldsAt : List Instr → File → Type 0
    HoldsAt = Holds m formed plan reads c

    abbrev TypedAt : File → Type 0
    TypedAt = Typed m formed

    -- both are at one place, with the same round them and in registers, and copies that stand hold what their sources do
    record InStep (rest : List Instr) (x y : Around) (a b : File) : Type 0 where
      around : x ≡ y
      file : a ≡ b
      typed : TypedAt a
      holds : HoldsAt rest a

    vals_before : (i : Instr) (next : List Instr) (a : File) (x : Around) → Ending (i ∷ next) m.code →
        HoldsAt (i ∷ next) a → ValsWritten m (at (i ∷ next) a x) →
        ValsWritten q (at (instr_with_sources plan (length next) i ∷ expand f next) a x)
    vals_before i next a x ending holds known =
        record {
          written = λ j ys e frame r one val v none.
              by r (was_register m plan reads r one) val
              (ap (λ (z : Instr). passes_frame z.op) (head_same e) ∙ frame) none
              (across_back m plan formed reads ending
              (subst (λ ys. LiveAcross q r.number (instr_with_sources plan (length next) i) ys) (sym (tail_same e))
              (subst (λ (z : Instr). LiveAcross q r.number z ys) (sym (head_same e)) v)));
        }
      where
        by : (r : Reg) → IsRegister m r → r.comp ≡ comp.Val → passes_frame i.op ≡ true → a r.number ≡ None →
            LiveAcross m r.number i next ⊎ Stood m plan formed reads r.number i next → ⊥
        by r one val frame none (inl l) = known.written i next refl frame r one val l none
        by r one val frame none (inr (moved quiet z)) = both_ways (passes_frame i.op) quiet frame
        by r one val frame none (inr (left b straight kept)) =
            let h = holds b.copy b.register b.standing in none-some _ (sym none ∙ ap a (sym b.number) ∙ h.of_source)

    module _ (Suit : Around → Around → Type 0) where
      abbrev Acts : (i main : Instr) (next : List Instr) (x : Around) (a b : File) → Act → Act → Type 0
      Acts i main next x a b one two = general.Acts c m q f (keeps_marks plan) refl Suit InStep i main next [] x x a b one two

      abbrev Past : (i main : Instr) (next : List Instr) (x : Around) (d : File) → Target → Type 0
      Past i main next x d to = general.Past c m q f (keeps_marks plan) refl Suit InStep i main next [] x x d d to

      abbrev now : Instr → List Instr → Instr
      now i next = instr_with_sources plan (length next) i

      tries_same : (i : Instr) (next : List Instr) → tries_at (now i next ∷ expand f next) ≡ tries_at (i ∷ next)
      tries_same i next = tries_expand f (keeps_marks plan) (i ∷ next)

      -- where nothing stands
      none_holds : (rest : List Instr) (x : Around) (a : File) → TypedAt a → ((copy source : Reg) → Standing m plan rest copy source → ⊥) →
          InStep rest x x a a
      none_holds rest x a typed none =
          record { around = refl; file = refl; typed = typed; holds = λ k s w. absurd (none k s w) }

      past_to : (i : Instr) (next : List Instr) (x : Around) (d : File) → TypedAt d → Ending (i ∷ next) m.code →
          is_straight i.op ≡ false → (t : Target) → Past i (now i next) next x d t
      past_to i next x d typed ending e On =
          general.on (λ w. agreed _ _) general.passed (λ w. none_holds next x d typed (not_past m plan ending e))
      past_to i next x d typed ending e (At l) =
          general.elsewhere refl (λ w. (none_holds _ x d typed (not_at_label m plan l), agreed _ _))

      -- what an instruction writes is of the right component
      puts_typed : (i : Instr) (next : List Instr) → Ending (i ∷ next) m.code → (vs : List Value) (a d : File) → TypedAt a →
          put_all c.setting.end i.results vs (clear_registers (killed m i) a) ≡ Some d → TypedAt d
      puts_typed i next ending vs a d typed e =
          written_typed m formed c.setting.end i.results (killed m i) vs a d
          (λ r z. is_in_code (results_in (stands_of ending) z)) typed e

      -- what ends a straight run
      acts_same : (i : Instr) (next : List Instr) (x : Around) (a : File) → TypedAt a → Ending (i ∷ next) m.code →
          is_straight i.op ≡ false → (act : Act) → Within i.op act → Acts i (now i next) next x a a act act
      acts_same i next x a typed ending e (Goes vs to after) w =
          general.both_go
          (λ d h. (d, h, past_to i next after d (puts_typed i next ending vs a d typed h) ending e to))
      acts_same i next x a typed ending e (Jumps to after) w =
          general.both_jump (tries_same i next)
          (λ w. (none_holds _ after a typed (not_landed m plan to (i ∷ next)), agreed _ _))
      acts_same i next x a typed ending e (Unwinds after) w =
          general.both_unwind (tries_same i next)
          (λ w. (none_holds _ after a typed (not_landed m plan AtHandler (i ∷ next)), agreed _ _))
      acts_same i next x a typed ending e (Pushes after) w =
          general.both_push refl refl (λ w. (none_holds next after a typed (not_past m plan ending e), agreed _ _))
      acts_same i next x a typed ending e (Asks whom vs go) (asks_in w) =
          general.both_ask (record { memory = refl; tries = refl }) (λ d. acts_same i next x a typed ending e (go d) (w d))
      acts_same i next x a typed ending e (Replaces whom vs kept) w =
          general.both_replace (record { memory = refl; tries = refl })
      acts_same i next x a typed ending e (Ends d) w = general.both_end
      acts_same i next x a typed ending e (EndsRaising d) w = general.both_raise
      acts_same i next x a typed ending e Stuck w = general.stuck_first

      module _ (i : Instr) (next : List Instr) (x : Around) (a : File) (ending : Ending (i ∷ next) m.code)
          (typed : TypedAt a) (holds : HoldsAt (i ∷ next) a) (vs : List Value) (taken : values a i.args ≡ Some vs) where
        abbrev a' : File
        a' = past_frame (passes_frame i.op) a

        typed_past : TypedAt a'
        typed_past = past_typed m formed (passes_frame i.op) a typed

        -- within a straight run
        on_straight : is_straight i.op ≡ true → (ws : List Value) (after : Around) →
            mach_act c.setting i.op vs x ≡ Goes ws On after →
            Acts i (now i next) next x a' a' (Goes ws On after) (Goes ws On after)
        on_straight st ws after acts =
            general.both_go
            (λ d e. (
              d,
              e,
              general.on (λ w. agreed _ _) general.passed
                  (λ w.
                  record {
                    around = refl;
                    file = refl;
                    typed = puts_typed i next ending ws a' d typed_past e;
                    holds = holds_next m formed plan reads c ending st a d x after vs ws typed taken acts e holds;
                  }),
            ))

        of_act : (act : Act) → mach_act c.setting i.op vs x ≡ act → Acts i (now i next) next x a' a' act act →
            Acts i (now i next) next x a' a' (mach_act c.setting i.op vs x) (mach_act c.setting i.op vs x)
        of_act act e s = subst (λ z. Acts i (now i next) next x a' a' z z) (sym e) s

        straight_acts : is_straight i.op ≡ true → GoesOn x (mach_act c.setting i.op vs x) →
            Acts i (now i next) next x a' a' (mach_act c.setting i.op vs x) (mach_act c.setting i.op vs x)
        straight_acts st (is_stuck e) = of_act Stuck e general.stuck_first
        straight_acts st (goes_on ws after e grown) = of_act (Goes ws On after) e (on_straight st ws after e)

        same_acts : Acts i (now i next) next x a' a' (mach_act c.setting i.op vs x) (mach_act c.setting i.op vs x)
        same_acts =
            ⊎_elim (λ st. straight_acts st (straight_on c.setting i.op st vs x))
            (λ e.
            acts_same i next x a' typed_past ending e (mach_act c.setting i.op vs x) (within c.setting i.op vs x))
            (cases_Bool (is_straight i.op))

        replaced : general.Replaces c m q f (keeps_marks plan) refl Suit InStep i next x x a a vs
        replaced =
            record {
              pre = [];
              main = now i next;
              post = [];
              shape = refl;
              between = a;
              passing = general.passed;
              vals = vals_before i next a x ending holds;
              read = vs;
              reads = reads_same m formed plan reads c ending a holds vs taken;
              alike = same_acts;
            }

      serves : ((x y : Around) → x ≡ y → Suit x y) → general.Serves c m q f (keeps_marks plan) refl Suit InStep
      serves suits =
          record {
            suits = λ rest x y a b s. suits x y s.around;
            each = λ i next x y a b ending s vs e.
                inl
                (subst (λ y. general.Replaces c m q f (keeps_marks plan) refl Suit InStep i next x y a b vs) s.around
                (subst (λ b. general.Replaces c m q f (keeps_marks plan) refl Suit InStep i next x x a b vs) s.file
                (replaced i next x a ending s.typed s.holds vs e)));
          }

    begun : (x : Around) (a : File) → TypedAt a → InStep m.code x x a a
    begun x a typed =
        record { around = refl; file = refl; typed = typed; holds = λ k s w. absurd (not_at_entry m plan k s w) }

    follows : (a : File) (x : Around) (n : ℕ) (t : Tally) → TypedAt a → Proper c m n (at m.code a x) t →
        Follows c m q (at m.code a x) (at q.code a x) t n
    follows a x n t typed proper =
        record {
          no_less = general.comes_from c m q f (keeps_marks plan) refl Ahead InStep (serves Ahead ahead_of) a a x x (begun x a typed) n t
              proper;
          no_more = general.comes_from c m q f (keeps_marks plan) refl Trails InStep (serves Trails trails_of) a a x x (begun x a typed) n t
              proper;
        }

    does_at : (arguments : List Value) (memory : Memory) (doings : List Doing) (s : State) →
        mach_start c m arguments memory ≡ Some s → Begins c m q arguments memory doings s
    does_at =
        levels.begins_at c m q refl
        (λ arguments memory a t n e proper.
        follows a (entry_around memory) n t
        (written_typed m formed c.setting.end m.params [] arguments (λ n. None) a (λ r z. is_param z) (nothing_typed m formed) e)
        proper)

  -- The function whose copies are propagated does what it did.
  pub does_propagated : MachSimulation m (record m { code = with_sources plan m.code })
  does_propagated = λ c arguments memory doings s e. does_at c arguments memory doings s e
