-- What stays of a function does what the function does, and no addr is live after a frame point where none was.
use Rattle.std.proofs.Common.{◌≡◌, ℕ, inl, inr, ⊎_elim, List, [], ◌∷◌, Option, Some, None, refl, sym, ap, ◌∙◌, subst, true}
use Rattle.bs_words.specs.declared.values.Value.{Value}
use Rattle.mach_ir.specs.Acts.{Around, Target, On, At, Landing, AtLabel, AtHandler, Act, Goes, Pushes, Jumps, Unwinds, Asks, Replaces, Ends, EndsRaising, Stuck}
use Rattle.mach_ir.specs.Formed.{WellFormed}
use Rattle.mach_ir.specs.Keeps.{ValsWritten, wrote_at, Proper, Comes, Ahead, Trails, MachSimulation}
use Rattle.mach_ir.specs.Meaning.{has_label, State, File, put_all, clear_registers, killed, registers_written, values, past_frame, passes_frame, mach_act, after_label, from_handler, at_handler, code_at, tries_at, landing_code, wrote, on_act, on_values, step, run_of_mach}
use Rattle.mach_ir.specs.Runs.{ActivationSetting, Step, Tally, entry_around}
use Rattle.mach_ir.specs.Walks.{OneOf, targets, goes, raises, Reached, at_entry, by_step, by_raise, Live, LiveAcross, IsRegister, NoAddrLive}
use Rattle.mach_ir.specs.declared.reg.Reg.{Reg}
use Rattle.mach_ir.specs.declared.mach.Instr.{Instr}
use Rattle.mach_ir.specs.declared.mach.Mach.{Mach}
use Rattle.mach_laws.proofs.General.{at}
use Rattle.mach_laws.proofs.Leads.{Within, goes_in, pushes_in, jumps_in, unwinds_in, asks_in, MayLand, lands_at_label, lands_at_handler, try_on, within}
use Rattle.mach_laws.proofs.Level as level
use Rattle.mach_laws.proofs.Simulate.{Agrees, Arrives, both_continue, both_pay, both_deepen, both_wait, both_finish_by, both_finish, both_finish_raising, first_stuck, Answers, stuck, steps, Closed, simulates}
use Rattle.std.proofs.lemmas.Bool.{true≢false}
use Rattle.bs_words.specs.declared.types.Comp.TheVariants as comp
use Rattle.mach_ir.specs.declared.op.Op.{Op}
use Rattle.mach_ir.specs.declared.mach.MachOp.{MachOp}
use Rattle.mach_ir.specs.declared.mach.MachOp.TheVariants as mach
use Rattle.reached_rules.specs.Trimmed.{IsTrimmedCode, IsCatchMark, is_with, is_end, Stays, is_reached, is_place, is_of_try, is_of_catch, IsTryMark, begins, leaves, handles}
use Rattle.reached_rules.proofs.Walked.{Beside, first_of, head_beside, next_beside, label_beside, handler_beside, live_back, across_back, register_back}

module _ (m : Mach) (formed : WellFormed m) (xs : List Instr) (whole : IsTrimmedCode m m.code xs) where
  abbrev q : Mach
  q = record m { code = xs }

  -- what the first is at is reached, and the second is at what stays of it; or both are past the end
  pub data Places : List Instr → List Instr → Type 0 where
    reached : {rest ys : List Instr} → Beside m formed xs whole rest ys → Places rest ys
    over : Places [] []

  pub data Related : State → State → Type 0 where
    related : {rest ys : List Instr} {a : File} {x : Around} → Places rest ys → Related (at rest a x) (at ys a x)

  nothing_live : {n : ℕ} → Live q n [] → Live m n []
  nothing_live v = elim v [ ]

  live_in : {rest ys : List Instr} {n : ℕ} → Places rest ys → Live q n ys → Live m n rest
  live_in {rest} (reached b) v = live_back m formed xs whole v rest b
  live_in over v = nothing_live v

  agrees : {rest ys : List Instr} {a : File} {x : Around} (ws : List Reg) → Places rest ys → Agrees m ws (at rest a x) → Agrees q ws (at ys a x)
  agrees ws b h =
      record {
        agree = λ r k i j e v w x y g o.
            h.agree r k (register_back m formed xs whole r i) (register_back m formed xs whole k j) e
            (⊎_elim (λ l. inl (live_in b l)) inr v) (⊎_elim (λ l. inl (live_in b l)) inr w) x y g o;
      }

  arrives : {rest ys : List Instr} {a : File} {x : Around} (ws : List Reg) → Places rest ys → Agrees m ws (at rest a x) →
      Related (at rest a x) (at ys a x) × Agrees q ws (at ys a x)
  arrives ws b h = (related b, agrees ws b h)

  landed : (i : Instr) (next zs : List Instr) → Reached m (i ∷ next) → tries_at (i ∷ zs) ≡ tries_at (i ∷ next) → (to : Landing) → MayLand i.op to →
      Places (landing_code m.code (i ∷ next) to) (landing_code xs (i ∷ zs) to)
  landed i next zs r e (AtLabel l) (lands_at_label o) = reached (label_beside m formed xs whole r o)
  landed i next zs r e AtHandler (lands_at_handler h) = by (tries_at (i ∷ next)) refl
    where
      by : (ts : List ℕ) → tries_at (i ∷ next) ≡ ts → Places (at_handler m.code (tries_at (i ∷ next))) (at_handler xs (tries_at (i ∷ zs)))
      by ts t =
          subst (λ us. Places (at_handler m.code (tries_at (i ∷ next))) (at_handler xs us)) (sym e)
          (subst (λ us. Places (at_handler m.code us) (at_handler xs us)) (sym t) (at_one ts t))
        where
          at_one : (ts : List ℕ) → tries_at (i ∷ next) ≡ ts → Places (at_handler m.code ts) (at_handler xs ts)
          at_one [] t = over
          at_one (l ∷ ts) t = reached (handler_beside m formed xs whole r h t)

  module _ (c : ActivationSetting) (Suit : Around → Around → Type 0) (suits : (x : Around) → Suit x x) where
    abbrev Coming : List Reg → Step State → Step State → Type 0
    Coming ws x w = Arrives c m q Suit Related ws ws x w

    arrives_act : (i : Instr) (next zs : List Instr) (a : File) (x : Around) → Reached m (i ∷ next) → IsTrimmedCode m next zs →
        tries_at (i ∷ zs) ≡ tries_at (i ∷ next) → (act : Act) → Within i.op act →
        Coming (registers_written m i) (on_act c m i next a x act) (on_act c q i zs a x act)
    arrives_act i next zs a x r h e (Goes vs to after) (goes_in o) = by to o (put_all c.setting.end i.results vs (clear_registers (killed m i) a))
      where
        by : (to : Target) → OneOf to (targets i.op) → (f : Option File) →
            Coming (registers_written m i) (wrote (code_at m.code next to) after f) (wrote (code_at xs zs to) after f)
        by to o None = first_stuck
        by On o (Some d) = both_continue (λ w. arrives (registers_written m i) (reached (next_beside m formed xs whole r o h)) w)
        by (At l) o (Some d) = both_continue (λ w. arrives (registers_written m i) (reached (label_beside m formed xs whole r o)) w)
    arrives_act i next zs a x r h e (Pushes after) (pushes_in t) =
        both_deepen (λ w. arrives (registers_written m i) (reached (next_beside m formed xs whole r (try_on i.op t) h)) w)
    arrives_act i next zs a x r h e (Jumps to after) (jumps_in l) = both_pay (λ w. arrives (registers_written m i) (landed i next zs r e to l) w)
    arrives_act i next zs a x r h e (Unwinds after) (unwinds_in y) =
        both_continue (λ w. arrives (registers_written m i) (landed i next zs r e AtHandler (lands_at_handler y)) w)
    arrives_act i next zs a x r h e (Asks callee vs go) (asks_in g) = both_wait (λ d. arrives_act i next zs a x r h e (go d) (g d))
    arrives_act i next zs a x r h e (Replaces callee vs kept) w = both_finish_by
    arrives_act i next zs a x r h e (Ends d) w = both_finish
    arrives_act i next zs a x r h e (EndsRaising d) w = both_finish_raising
    arrives_act i next zs a x r h e Stuck w = first_stuck

    arrives_values : (i : Instr) (next zs : List Instr) (a : File) (x : Around) → Reached m (i ∷ next) → IsTrimmedCode m next zs →
        tries_at (i ∷ zs) ≡ tries_at (i ∷ next) → (o : Option (List Value)) →
        Coming (registers_written m i) (on_values c m i next a x o) (on_values c q i zs a x o)
    arrives_values i next zs a x r h e None = first_stuck
    arrives_values i next zs a x r h e (Some vs) =
        arrives_act i next zs (past_frame (passes_frame i.op) a) x r h e (mach_act c.setting i.op vs x) (within c.setting i.op vs x)

    vals_in : (i : Instr) (next zs : List Instr) (a : File) (x : Around) → Reached m (i ∷ next) → IsTrimmedCode m next zs →
        tries_at (i ∷ zs) ≡ tries_at (i ∷ next) → ValsWritten m (at (i ∷ next) a x) → ValsWritten q (at (i ∷ zs) a x)
    vals_in i next zs a x r h e known =
        record {
          written = λ j ys g frame k one val v.
              known.written i next refl (subst (λ (j : Instr). passes_frame j.op ≡ true) (sym (head_of g)) frame) k
              (register_back m formed xs whole k one) val
              (across_back m formed xs whole i next zs r h e
              (subst (λ (j : Instr). LiveAcross q k.number j zs) (sym (head_of g)) (subst (λ ys. LiveAcross q k.number j ys) (sym (tail_of g)) v)));
        }
      where
        head_of : {i j : Instr} {xs ys : List Instr} → i ∷ xs ≡ j ∷ ys → i ≡ j
        head_of e = cc

        tail_of : {i j : Instr} {xs ys : List Instr} → i ∷ xs ≡ j ∷ ys → xs ≡ ys
        tail_of e = cc

    suits_in : (s u : State) → Related s u → Suit s.around u.around
    suits_in s u (related {x = x} b) = suits x

    answers : {rest ys : List Instr} {a : File} {x : Around} → Places rest ys → ValsWritten m (at rest a x) →
        Answers c m q Suit Related (wrote_at m rest) (at ys a x) (step c m (at rest a x))
    answers over known = stuck
    answers {rest = []} (reached b) known = stuck
    answers {rest = i ∷ next} {ys = ys} {a = a} {x = x} (reached b) known =
        let f = first_of m formed xs whole i next ys b in
        subst (λ ys. Answers c m q Suit Related (registers_written m i) (at ys a x) (step c m (at (i ∷ next) a x))) (sym f.same)
        (steps (vals_in i next f.zs a x b.0 f.trimmed f.tries known)
        (arrives_values i next f.zs a x b.0 f.trimmed f.tries (values a i.args)))

    closed : Closed c m q Suit Related
    closed = record { suits = suits_in; next = by }
      where
        by : (s u : State) → Related s u → ValsWritten m s → Answers c m q Suit Related (wrote_at m s.rest) u (step c m s)
        by s u (related b) known = answers b known

    comes : (n : ℕ) (a : File) (x : Around) (t : Tally) → Proper c m n (at m.code a x) t →
        Comes Suit (run_of_mach c m n (at m.code a x) t) c q (at q.code a x) t
    comes n a x t proper = simulates c m q Suit Related closed n (at m.code a x) (at xs a x) t (related (reached (at_entry, whole))) proper

  -- What stays does what the function does, step for step.
  pub does : MachSimulation m q
  does c =
      level.begins_at c m q refl
      (λ arguments memory a t n begun proper.
      record {
        no_less = comes c Ahead (λ x. level.ahead_of x x refl) n a (entry_around memory) t proper;
        no_more = comes c Trails (λ x. level.trails_of x x refl) n a (entry_around memory) t proper;
      })

  -- No addr is live after a frame point of it where none was.
  reached_back : {ys : List Instr} → Reached q ys → (rest : List Instr) × Places rest ys
  reached_back at_entry = (m.code, reached (at_entry, whole))
  reached_back (by_step {i = i} {next = zs} r (goes On o)) = step_on (reached_back r)
    where
      step_on : (rest : List Instr) × Places rest (i ∷ zs) → (rest : List Instr) × Places rest zs
      step_on (rest, reached b) = let h = head_beside m formed xs whole i zs rest b in (h.next, reached (next_beside m formed xs whole h.reached o h.trimmed))
  reached_back (by_step {i = i} {next = zs} r (goes (At l) o)) = step_at (reached_back r)
    where
      step_at : (rest : List Instr) × Places rest (i ∷ zs) → (rest : List Instr) × Places rest (after_label l xs)
      step_at (rest, reached b) = let h = head_beside m formed xs whole i zs rest b in (after_label l m.code, reached (label_beside m formed xs whole h.reached o))
  reached_back (by_raise {i = i} {next = zs} r (raises {l = l} y t)) = step_aside (reached_back r)
    where
      step_aside : (rest : List Instr) × Places rest (i ∷ zs) → (rest : List Instr) × Places rest (from_handler l xs)
      step_aside (rest, reached b) =
          let h = head_beside m formed xs whole i zs rest b in
          (from_handler l m.code, reached (handler_beside m formed xs whole h.reached y (sym h.tries ∙ t)))

  pub no_addr : NoAddrLive m → NoAddrLive q
  no_addr none =
      record { none = λ i zs r frame k one addr v. by i zs (reached_back r) frame k one addr v }
    where
      by : (i : Instr) (zs : List Instr) → (rest : List Instr) × Places rest (i ∷ zs) → passes_frame i.op ≡ true → (k : Reg) → IsRegister q k →
          k.comp ≡ comp.Addr → LiveAcross q k.number i zs → ⊥
      by i zs (rest, reached b) frame k one addr v =
          let h = head_beside m formed xs whole i zs rest b in
          none.none i h.next h.reached frame k (register_back m formed xs whole k one) addr
          (across_back m formed xs whole i h.next zs h.reached h.trimmed h.tries v)

  -- And every operation of it is reached: so an address is live at no frame point of it, reached or not.
  pub op_reached : (i : Instr) (next : List Instr) → Stays m i next → (f : Op) → i.op ≡ mach.Op f → Reached m (i ∷ next)
  op_reached i next (is_reached r) f e = r
  op_reached i next (is_place {l = l} s h o g) f e = absurd (true≢false (sym g ∙ ap (has_label l) e))
  op_reached i next (is_of_catch s h is p in_it) f e = absurd (no_part p e)
    where
      no_part : {g : MachOp} → IsCatchMark g → g ≡ mach.Op f → ⊥
      no_part is_with e = cc
      no_part is_end e = cc
  op_reached i next (is_of_try s h is of) f e = absurd (no_op of e)
    where
      no_op : {l : ℕ} {g : MachOp} → IsTryMark l g → g ≡ mach.Op f → ⊥
      no_op begins e = cc
      no_op leaves e = cc
      no_op handles e = cc
