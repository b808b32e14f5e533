-- A function with cuts does what the function does, and no addr is live after a frame point where none was.
use Rattle.std.proofs.Common.{◌≡◌, ℕ, true, inl, inr, ⊎_elim, List, [], ◌∷◌, Option, Some, None, refl, sym, ap, ◌∙◌, subst}
use Rattle.std.proofs.lemmas.Bool.{true≢false}
use Rattle.bs_words.specs.declared.types.Comp.TheVariants as comp
use Rattle.bs_words.specs.declared.values.Value.{Value}
use Rattle.mach_ir.specs.Acts.{Around, Target, On, At, Landing, AtLabel, AtHandler, Act, Goes, Pushes, Jumps, Unwinds, Asks, Replaces, Ends, EndsRaising, Stuck}
use Rattle.mach_ir.specs.Formed.{WellFormed}
use Rattle.mach_ir.specs.Keeps.{ValsWritten, wrote_unless, wrote_at, Proper, Comes, Ahead, Trails, MachSimulation}
use Rattle.mach_ir.specs.Meaning.{State, File, put_all, clear_registers, killed, registers_written, values, past_frame, passes_frame, mach_act, at_handler, code_at, tries_at, tries_past, landing_code, wrote, on_act, on_values, step, run_of_mach}
use Rattle.mach_ir.specs.Placed.{is_straight}
use Rattle.mach_ir.specs.Runs.{ActivationSetting, Step, Continues, Tally, entry_around}
use Rattle.mach_ir.specs.Walks.{AmongRegisters, OneOf, targets, Reached, LiveAcross, IsRegister, NoAddrLive}
use Rattle.mach_ir.specs.declared.reg.Reg.{Reg}
use Rattle.mach_ir.specs.declared.mach.MachOp.{MachOp}
use Rattle.mach_ir.specs.declared.mach.Instr.{Instr}
use Rattle.mach_ir.specs.declared.mach.Mach.{Mach}
use Rattle.mach_laws.specs.Expand.{Ending, all}
use Rattle.mach_laws.proofs.Among.{none_among}
use Rattle.mach_laws.proofs.General.{at}
use Rattle.mach_laws.proofs.Leads.{Within, goes_in, pushes_in, jumps_in, unwinds_in, asks_in, MayLand, lands_at_label, lands_at_handler, IsTry, is_try, within}
use Rattle.mach_laws.proofs.Level as level
use Rattle.mach_laws.proofs.Places.{ending_next, ending_handler}
use Rattle.mach_laws.proofs.Simulate.{Agrees, Arrives, both_continue, both_pay, both_deepen, both_wait, both_finish_by, both_finish, both_finish_raising, first_stuck, later, Answers, stuck, steps, Closed, simulates}
use Rattle.cut_rules.specs.Cut.{cut_mark, IsCutCode, no_code}
use Rattle.cut_rules.proofs.Walked.{Beside, Places, Head, Marked, split, ReachedBefore, reached_back, at_mark, label_beside, handler_beside, place_tries, live_back, across_back, register_back, Behind, plainly, by_mark, Firsts, first_of, firsts, behind_places}
use Rattle.cut_rules.proofs.Walked as walked

module _ (m : Mach) (formed : WellFormed m) (xs : List Instr) (top : ℕ) (whole : IsCutCode m m.code xs) where
  abbrev q : Mach
  q = record m { code = xs; labels = top }

  pub data Related : State → State → Type 0 where
    related : {rest ys : List Instr} {a : File} {x : Around} → Beside m formed xs top whole rest ys → Related (at rest a x) (at ys a x)

  -- of fewer registers that were just written
  agrees : {rest ys : List Instr} {a : File} {x : Around} (ws vs : List Reg) → ((n : ℕ) → AmongRegisters n vs → AmongRegisters n ws) →
      Places m formed xs top whole rest ys → Agrees m ws (at rest a x) → Agrees q vs (at ys a x)
  agrees {rest} {x = x} ws vs fewer b h =
      record {
        agree = λ r k i j e v w y z g o.
            h.agree r k (register_back m formed xs top whole r i) (register_back m formed xs top whole k j) e
            (⊎_elim (λ l. inl (live_back m formed xs top whole l rest b)) (λ a. inr (lifted x.raised r.number a)) v)
            (⊎_elim (λ l. inl (live_back m formed xs top whole l rest b)) (λ a. inr (lifted x.raised k.number a)) w) y z g o;
      }
    where
      lifted : (raised : Option Value) (n : ℕ) → AmongRegisters n (wrote_unless raised vs) → AmongRegisters n (wrote_unless raised ws)
      lifted None n a = fewer n a
      lifted (Some v) n a = a

  arrives : {rest ys : List Instr} {a : File} {x : Around} (ws : List Reg) → Beside m formed xs top whole rest ys → Agrees m ws (at rest a x) →
      Related (at rest a x) (at ys a x) × Agrees q ws (at ys a x)
  arrives ws b h = (related b, agrees ws ws (λ n a. a) (walked.level b) h)

  handlers : (ts : List ℕ) → IsCutCode m (at_handler m.code ts) (at_handler xs ts)
  handlers [] = no_code
  handlers (l ∷ ts) = (handler_beside m formed xs top whole l).1

  landed : (i : Instr) (next zs : List Instr) → Ending (i ∷ next) m.code → tries_at (i ∷ zs) ≡ tries_at (i ∷ next) → (to : Landing) → MayLand i.op to →
      Beside m formed xs top whole (landing_code m.code (i ∷ next) to) (landing_code xs (i ∷ zs) to)
  landed i next zs r e (AtLabel l) (lands_at_label o) = label_beside m formed xs top whole r o
  landed i next zs r e AtHandler (lands_at_handler h) = (
    ending_handler (tries_at (i ∷ next)) m.code,
    subst (λ us. IsCutCode m (at_handler m.code (tries_at (i ∷ next))) (at_handler xs us)) (sym e) (handlers (tries_at (i ∷ next))),
  )

  no_try : {A : Type 0} {f : MachOp} → is_straight f ≡ true → IsTry f → A
  no_try s is_try = absurd (true≢false (sym s))

  no_frame : (k : ℕ) (zs : List Instr) (a : File) (x : Around) → ValsWritten q (at (cut_mark k ∷ zs) a x)
  no_frame k zs a x =
      record { written = λ j ys g frame r one val v none. true≢false (sym frame ∙ sym (ap (λ (j : Instr). passes_frame j.op) (head_of g))) }
    where
      head_of : {i j : Instr} {xs ys : List Instr} → i ∷ xs ≡ j ∷ ys → i ≡ j
      head_of e = cc

  module _ (c : ActivationSetting) (Suit : Around → Around → Type 0) (suits : (x : Around) → Suit x x) where
    abbrev Coming : List Reg → Step State → Step State → Type 0
    Coming ws x w = Arrives c m q Suit Related ws ws x w

    -- past an instruction, and its mark
    goes_on : (ws : List Reg) (i : Instr) (next zs : List Instr) (a : File) (x : Around) → Ending next m.code → Behind m formed xs top whole i next zs →
        Coming ws (Continues (at next a x)) (Continues (at zs a x))
    goes_on ws i next zs a x e (plainly h) = both_continue (λ w. arrives ws (e, h) w)
    goes_on ws i next ys a x e (by_mark {k = k} {zs = zs} s h) =
        later (λ w. agrees ws ws (λ n a. a) (at_mark (e, h)) w) (no_frame k zs a x)
        (both_continue (λ w. (related (e, h), agrees ws [] (λ n a. none_among a) (walked.level (e, h)) w)))

    arrives_act : (i : Instr) (next zs : List Instr) (a : File) (x : Around) → Ending (i ∷ next) m.code → Behind m formed xs top whole i next zs →
        tries_at (i ∷ zs) ≡ tries_at (i ∷ next) → (act : Act) → Within i.op act →
        Coming (registers_written m i) (on_act c m i next a x act) (on_act c q i zs a x act)
    arrives_act i next zs a x r h e (Goes vs to after) (goes_in o) = by to o (put_all c.setting.end i.results vs (clear_registers (killed m i) a))
      where
        by : (to : Target) → OneOf to (targets i.op) → (f : Option File) →
            Coming (registers_written m i) (wrote (code_at m.code next to) after f) (wrote (code_at xs zs to) after f)
        by to o None = first_stuck
        by On o (Some d) = goes_on (registers_written m i) i next zs d after (ending_next r) h
        by (At l) o (Some d) = both_continue (λ w. arrives (registers_written m i) (label_beside m formed xs top whole r o) w)
    arrives_act i next zs a x r (plainly h) e (Pushes after) (pushes_in t) = both_deepen (λ w. arrives (registers_written m i) (ending_next r, h) w)
    arrives_act i next zs a x r (by_mark s h) e (Pushes after) (pushes_in t) = no_try s t
    arrives_act i next zs a x r h e (Jumps to after) (jumps_in l) = both_pay (λ w. arrives (registers_written m i) (landed i next zs r e to l) w)
    arrives_act i next zs a x r h e (Unwinds after) (unwinds_in y) =
        both_continue (λ w. arrives (registers_written m i) (landed i next zs r e AtHandler (lands_at_handler y)) w)
    arrives_act i next zs a x r h e (Asks callee vs go) (asks_in g) = both_wait (λ d. arrives_act i next zs a x r h e (go d) (g d))
    arrives_act i next zs a x r h e (Replaces callee vs kept) w = both_finish_by
    arrives_act i next zs a x r h e (Ends d) w = both_finish
    arrives_act i next zs a x r h e (EndsRaising d) w = both_finish_raising
    arrives_act i next zs a x r h e Stuck w = first_stuck

    arrives_values : (i : Instr) (next zs : List Instr) (a : File) (x : Around) → Ending (i ∷ next) m.code → Behind m formed xs top whole i next zs →
        tries_at (i ∷ zs) ≡ tries_at (i ∷ next) → (o : Option (List Value)) →
        Coming (registers_written m i) (on_values c m i next a x o) (on_values c q i zs a x o)
    arrives_values i next zs a x r h e None = first_stuck
    arrives_values i next zs a x r h e (Some vs) =
        arrives_act i next zs (past_frame (passes_frame i.op) a) x r h e (mach_act c.setting i.op vs x) (within c.setting i.op vs x)

    vals_in : (i : Instr) (next zs : List Instr) (a : File) (x : Around) → Ending (i ∷ next) m.code → Places m formed xs top whole next zs →
        ValsWritten m (at (i ∷ next) a x) → ValsWritten q (at (i ∷ zs) a x)
    vals_in i next zs a x r h known =
        record {
          written = λ j ys g frame k one val v.
              known.written i next refl (subst (λ (j : Instr). passes_frame j.op ≡ true) (sym (head_of g)) frame) k
              (register_back m formed xs top whole k one) val
              (across_back m formed xs top whole i next zs r h
              (subst (λ (j : Instr). LiveAcross q k.number j zs) (sym (head_of g)) (subst (λ ys. LiveAcross q k.number j ys) (sym (tail_of g)) v)));
        }
      where
        head_of : {i j : Instr} {xs ys : List Instr} → i ∷ xs ≡ j ∷ ys → i ≡ j
        head_of e = cc

        tail_of : {i j : Instr} {xs ys : List Instr} → i ∷ xs ≡ j ∷ ys → xs ≡ ys
        tail_of e = cc

    suits_in : (s u : State) → Related s u → Suit s.around u.around
    suits_in s u (related {x = x} b) = suits x

    answers : (rest ys : List Instr) (a : File) (x : Around) → Beside m formed xs top whole rest ys → ValsWritten m (at rest a x) →
        Answers c m q Suit Related (wrote_at m rest) (at ys a x) (step c m (at rest a x))
    answers [] ys a x b known = stuck
    answers (i ∷ next) ys a x b known = by (firsts m formed xs top whole b.1)
      where
        by : {ys : List Instr} → Firsts m formed xs top whole i next ys → Answers c m q Suit Related (registers_written m i) (at ys a x) (step c m (at (i ∷ next) a x))
        by (first_of {zs = zs} h) =
            let p = behind_places m formed xs top whole (ending_next b.0) h in
            steps (vals_in i next zs a x b.0 p known)
            (arrives_values i next zs a x b.0 h (ap (tries_past i.op) (place_tries m formed xs top whole p)) (values a i.args))

    closed : Closed c m q Suit Related
    closed = record { suits = suits_in; next = by }
      where
        by : (s u : State) → Related s u → ValsWritten m s → Answers c m q Suit Related (wrote_at m s.rest) u (step c m s)
        by s u (related {rest = rest} {ys = ys} {a = a} {x = x} b) known = answers rest ys a x b known

    comes : (n : ℕ) (a : File) (x : Around) (t : Tally) → Proper c m n (at m.code a x) t →
        Comes Suit (run_of_mach c m n (at m.code a x) t) c q (at q.code a x) t
    comes n a x t proper = simulates c m q Suit Related closed n (at m.code a x) (at xs a x) t (related (all, whole)) proper

  -- It does what the function does, for as many units.
  pub does : MachSimulation m q
  does c =
      level.begins_at c m q refl
      (λ arguments memory a t n begun proper.
      record {
        no_less = comes c Ahead (λ x. level.ahead_of x x refl) n a (entry_around memory) t proper;
        no_more = comes c Trails (λ x. level.trails_of x x refl) n a (entry_around memory) t proper;
      })

  -- No addr is live after a frame point of it where none was.
  pub no_addr : NoAddrLive m → NoAddrLive q
  no_addr none =
      record { none = λ i zs r frame k one addr v. by i zs (reached_back m formed xs top whole r) frame k one addr v }
    where
      by : (i : Instr) (zs : List Instr) → ReachedBefore m formed xs top whole (i ∷ zs) → passes_frame i.op ≡ true → (k : Reg) → IsRegister q k →
          k.comp ≡ comp.Addr → LiveAcross q k.number i zs → ⊥
      by i zs w frame k one addr v =
          ⊎_elim
          (λ (h : Head m formed xs top whole i zs w.rest).
          none.none i h.next (subst (Reached m) h.same w.reached) frame k (register_back m formed xs top whole k one) addr
          (across_back m formed xs top whole i h.next zs h.ending h.places v))
          (λ (h : Marked m formed xs top whole i zs w.rest). absurd (true≢false (sym frame ∙ ap (λ (j : Instr). passes_frame j.op) h.same)))
          (split m formed xs top whole w.places)
