-- A pass that replaces each instruction by straight code, by straight code with one that acts alike in it, or by nothing.
use Rattle.std.proofs.Common.{◌≡◌, ℕ, ◌+◌, ◌*◌, Bool, true, false, ◌⊎◌, ⊎_elim, List, [], ◌∷◌, ◌++◌, length, Option, Some, None, refl, sym, ap, ◌∙◌, subst, append_assoc}
use Rattle.bs_words.specs.Memory.{Memory}
use Rattle.bs_words.specs.declared.types.Ret.{Ret}
use Rattle.bs_words.specs.declared.values.Value.{Value}
use Rattle.mach_ir.specs.Known.{Doing, Callee, Inside, Outside, Asked}
use Rattle.mach_ir.specs.Acts.{Around, Target, On, At, Landing, AtLabel, AtHandler, Act, Goes, Pushes, Jumps, Unwinds, Asks, Replaces as TakesPlace, Ends, EndsRaising, Stuck}
use Rattle.mach_ir.specs.Runs.{ActivationSetting, stack_in_use, asked_call, Step, Continues, Deepens, Waits, FinishesBy, Tally}
use Rattle.mach_ir.specs.Meaning.{State, File, put_all, clear_registers, killed, registers_written, past_frame, passes_frame, values, mach_act, after_label, from_handler, at_handler, code_at, tries_at, landing_code, wrote, on_act, on_values, step, run_of_mach}
use Rattle.mach_ir.specs.Keeps.{ValsWritten, wrote_at, Proper, Comes}
use Rattle.mach_ir.specs.declared.reg.Reg.{Reg}
use Rattle.mach_ir.specs.declared.mach.Instr.{Instr}
use Rattle.mach_ir.specs.declared.mach.Mach.{Mach}
use Rattle.mach_laws.specs.Expand.{expand, KeepsMarks, Ending, all}
use Rattle.mach_laws.proofs.Places.{label_expand, handler_expand, ending_next, ending_label, ending_land}
use Rattle.mach_laws.proofs.Simulate.{Agrees, ArrivesWell, Arrives, both_continue, both_pay, both_deepen, both_wait, both_finish_by, both_finish, both_finish_raising, first_stuck, later, Answers, stays, stuck, steps, Closed, simulates}

abbrev pub at : List Instr → File → Around → State
at rest f a = record { rest = rest; file = f; around = a }

-- what a call sees of two surroundings is the same
pub record Seen (x y : Around) : Type 0 where
  pub memory : x.memory ≡ y.memory
  pub tries : x.tries ≡ y.tries

abbrev asked_of : ActivationSetting → Callee → List Value → Bool → Memory → List ℕ → Asked
asked_of c callee vs tail memory tries =
    asked_call c callee vs tail (record { memory = memory; unwritten = []; tries = tries; raised = None })

asked_by_seen : (c : ActivationSetting) (callee : Callee) (vs : List Value) (tail : Bool) (x : Around) →
    asked_call c callee vs tail x ≡ asked_of c callee vs tail x.memory x.tries
asked_by_seen c (Outside row frame) vs tail x = refl
asked_by_seen c (Inside f) vs true x = refl
asked_by_seen c (Inside f) vs false x = refl

asked_same : (c : ActivationSetting) (callee : Callee) (vs : List Value) (tail : Bool) (x y : Around) → Seen x y →
    asked_call c callee vs tail x ≡ asked_call c callee vs tail y
asked_same c callee vs tail x y seen =
    asked_by_seen c callee vs tail x
    ∙ ap (λ m. asked_of c callee vs tail m x.tries) seen.memory
    ∙ ap (λ ts. asked_of c callee vs tail y.memory ts) seen.tries
    ∙ sym (asked_by_seen c callee vs tail y)

module _ (c : ActivationSetting) (p q : Mach) (f : ℕ → Instr → List Instr) (keeps : KeepsMarks f) (is_code : q.code ≡ expand f p.code)
    (Suit : Around → Around → Type 0) (Rel : List Instr → Around → Around → File → File → Type 0) where
  -- the second is at the code for what the first is at
  pub data Related : State → State → Type 0 where
    related : {rest : List Instr} {x y : Around} {a b : File} → Ending rest p.code → Rel rest x y a b →
        Related (at rest a x) (at (expand f rest) b y)

  abbrev pub Coming : List Reg → List Reg → Step State → Step State → Type 0
  Coming = Arrives c p q Suit Related

  pub label_expanded : (l : ℕ) → after_label l q.code ≡ expand f (after_label l p.code)
  label_expanded l = ap (after_label l) is_code ∙ label_expand f keeps l p.code

  handler_expanded : (tries : List ℕ) → at_handler q.code tries ≡ expand f (at_handler p.code tries)
  handler_expanded [] = refl
  handler_expanded (l ∷ tries) = ap (from_handler l) is_code ∙ handler_expand f keeps l p.code

  land_expanded : (here there : List Instr) (to : Landing) → tries_at there ≡ tries_at here →
      landing_code q.code there to ≡ expand f (landing_code p.code here to)
  land_expanded here there (AtLabel l) same = label_expanded l
  land_expanded here there AtHandler same = ap (at_handler q.code) same ∙ handler_expanded (tries_at here)

  -- ---- straight code

  -- Straight code of the second brings one file to another, before this code. Its registers of one origin agree where
  -- this is given.
  pub data Passes (Given : Type 0) (y : Around) : List Instr → List Instr → File → File → Type 0 where
    passed : {next : List Instr} {b : File} → Passes Given y [] next b b
    passes : {i : Instr} {xs next : List Instr} {b d e : File} →
        step c q (at (i ∷ (xs ++ next)) b y) ≡ Continues (at (xs ++ next) d y) →
        ValsWritten q (at (i ∷ (xs ++ next)) b y) → (Given → Agrees q (registers_written q i) (at (xs ++ next) d y)) →
        Passes Given y xs next d e → Passes Given y (i ∷ xs) next b e

  passes_on : {Given : Type 0} {y : Around} {xs next : List Instr} {b e : File} {ws vs : List Reg} {x : Step State} →
      Passes Given y xs next b e → (ArrivesWell p ws x → Given) →
      (ArrivesWell p ws x → Agrees q vs (at (xs ++ next) b y)) →
      ((us : List Reg) → (ArrivesWell p ws x → Agrees q us (at next e y)) → Coming ws us x (Continues (at next e y))) →
      Coming ws vs x (Continues (at (xs ++ next) b y))
  passes_on {vs = vs} passed given agree go = go vs agree
  passes_on {ws = ws} {x = x} (passes {i = i} e known more further) given agree go =
      later agree known
      (subst (Coming ws (registers_written q i) x) (sym e) (passes_on further given (λ w. more (given w)) go))

  -- the same where the second is before the straight code
  begins_on : {Given : Type 0} {y : Around} {xs next : List Instr} {b e : File} {ws : List Reg} {x : Step State} →
      Passes Given y xs next b e → (ArrivesWell p ws x → Given) → Answers c p q Suit Related ws (at next e y) x →
      ((us : List Reg) → (ArrivesWell p ws x → Agrees q us (at next e y)) → Coming ws us x (Continues (at next e y))) →
      Answers c p q Suit Related ws (at (xs ++ next) b y) x
  begins_on passed given none go = none
  begins_on {ws = ws} {x = x} (passes {i = i} e known more further) given none go =
      steps known (subst (Coming ws (registers_written q i) x) (sym e) (passes_on further given (λ w. more (given w)) go))

  -- ---- what acts alike

  -- What follows an instruction of the second, once the first has come to a state: straight code where it goes on, and
  -- nothing where it goes elsewhere.
  pub data Past (i main : Instr) (next post : List Instr) (x y : Around) (d e : File) : Target → Type 0 where
    on : {g : File} →
        (Agrees p (registers_written p i) (at next d x) → Agrees q (registers_written q main) (at (post ++ expand f next) e y)) →
        Passes (Agrees p (registers_written p i) (at next d x)) y post (expand f next) e g →
        (Agrees p (registers_written p i) (at next d x) → Rel next x y d g) → Past i main next post x y d e On
    elsewhere : {l : ℕ} → post ≡ [] →
        (Agrees p (registers_written p i) (at (after_label l p.code) d x) →
        Rel (after_label l p.code) x y d e × Agrees q (registers_written q main) (at (after_label l q.code) e y)) →
        Past i main next post x y d e (At l)

  -- where an exit or a raise comes to, in both
  abbrev pub Lands : Instr → Instr → List Instr → List Instr → Landing → Around → Around → File → File → Type 0
  Lands i main next post to x y a b =
      Agrees p (registers_written p i) (at (landing_code p.code (i ∷ next) to) a x) →
      Rel (landing_code p.code (i ∷ next) to) x y a b
      × Agrees q (registers_written q main) (at (landing_code q.code (main ∷ (post ++ expand f next)) to) b y)

  -- what an instruction of the first does, and what one of the second with straight code after it does
  pub data Acts (i main : Instr) (next post : List Instr) (u w : Around) (a b : File) : Act → Act → Type 0 where
    both_go : {vs ws : List Value} {to : Target} {x y : Around} →
        ((d : File) → put_all c.setting.end i.results vs (clear_registers (killed p i) a) ≡ Some d →
        (e : File) × (put_all c.setting.end main.results ws (clear_registers (killed q main) b) ≡ Some e)
        × Past i main next post x y d e to) → Acts i main next post u w a b (Goes vs to x) (Goes ws to y)
    both_jump : {to : Landing} {x y : Around} → tries_at (main ∷ (post ++ expand f next)) ≡ tries_at (i ∷ next) →
        Lands i main next post to x y a b → Acts i main next post u w a b (Jumps to x) (Jumps to y)
    both_unwind : {x y : Around} → tries_at (main ∷ (post ++ expand f next)) ≡ tries_at (i ∷ next) →
        Lands i main next post AtHandler x y a b → Acts i main next post u w a b (Unwinds x) (Unwinds y)
    both_push : {x y : Around} → post ≡ [] → x.tries ≡ y.tries →
        (Agrees p (registers_written p i) (at next a x) →
        Rel next x y a b × Agrees q (registers_written q main) (at (expand f next) b y)) →
        Acts i main next post u w a b (Pushes x) (Pushes y)
    both_ask : {callee : Callee} {vs : List Value} {go so : Doing → Act} → Seen u w →
        ((d : Doing) → Acts i main next post u w a b (go d) (so d)) →
        Acts i main next post u w a b (Asks callee vs go) (Asks callee vs so)
    both_replace : {callee : Callee} {vs : List Value} {kept : Ret} → Seen u w →
        Acts i main next post u w a b (TakesPlace callee vs kept) (TakesPlace callee vs kept)
    both_end : {d : Doing} → Acts i main next post u w a b (Ends d) (Ends d)
    both_raise : {d : Doing} → Acts i main next post u w a b (EndsRaising d) (EndsRaising d)
    stuck_first : {act : Act} → Acts i main next post u w a b Stuck act

  walks_past : {i main : Instr} {next post : List Instr} {x y : Around} {d e : File} {to : Target} →
      Ending next p.code → Past i main next post x y d e to →
      Coming (registers_written p i) (registers_written q main) (Continues (at (code_at p.code next to) d x))
      (Continues (at (code_at q.code (post ++ expand f next) to) e y))
  walks_past ending (on agree passing rel) =
      passes_on passing (λ w. w) agree (λ us more. both_continue (λ w. (related ending (rel w), more w)))
  walks_past {x = x} {y = y} {d = d} {e = e} ending (elsewhere {l = l} none rel) =
      both_continue
      (λ w.
      let g = rel w in (
        subst (λ rest. Related (at (after_label l p.code) d x) (at rest e y)) (sym (label_expanded l))
            (related (ending_label l p.code) g.0),
        g.1,
      ))

  landed : (i main : Instr) (next post : List Instr) (x y : Around) (a b : File) (to : Landing) →
      tries_at (main ∷ (post ++ expand f next)) ≡ tries_at (i ∷ next) → Lands i main next post to x y a b →
      Agrees p (registers_written p i) (at (landing_code p.code (i ∷ next) to) a x) →
      Related (at (landing_code p.code (i ∷ next) to) a x)
      (at (landing_code q.code (main ∷ (post ++ expand f next)) to) b y)
      × Agrees q (registers_written q main) (at (landing_code q.code (main ∷ (post ++ expand f next)) to) b y)
  landed i main next post x y a b to same lands w =
      let g = lands w in (
        subst (λ rest. Related (at (landing_code p.code (i ∷ next) to) a x) (at rest b y))
            (sym (land_expanded (i ∷ next) (main ∷ (post ++ expand f next)) to same))
            (related (ending_land to (i ∷ next) p.code) g.0),
        g.1,
      )

  acts_alike : {i main : Instr} {next post : List Instr} {a b : File} → Ending next p.code → (u w : Around)
      (one two : Act) → Acts i main next post u w a b one two →
      Coming (registers_written p i) (registers_written q main) (on_act c p i next a u one)
      (on_act c q main (post ++ expand f next) b w two)
  acts_alike {i} {main} {next} {post} {a} {b} ending u w one two (both_go {vs = vs} {ws = ws} {to = to} {x = x} {y = y} g) =
      by (put_all c.setting.end i.results vs (clear_registers (killed p i) a)) refl
    where
      by : (r : Option File) → put_all c.setting.end i.results vs (clear_registers (killed p i) a) ≡ r →
          Coming (registers_written p i) (registers_written q main) (wrote (code_at p.code next to) x r)
          (wrote (code_at q.code (post ++ expand f next) to) y
          (put_all c.setting.end main.results ws (clear_registers (killed q main) b)))
      by None e = first_stuck
      by (Some d) e =
          let h = g d e in
          subst
          (λ r. Coming (registers_written p i) (registers_written q main) (Continues (at (code_at p.code next to) d x))
          (wrote (code_at q.code (post ++ expand f next) to) y r))
          (sym h.1) (walks_past ending h.2)
  acts_alike {i} {main} {next} {post} {a} {b} ending u w one two (both_jump {to = to} {x = x} {y = y} same lands) =
      both_pay (landed i main next post x y a b to same lands)
  acts_alike {i} {main} {next} {post} {a} {b} ending u w one two (both_unwind {x = x} {y = y} same lands) =
      both_continue (landed i main next post x y a b AtHandler same lands)
  acts_alike {i} {main} {next} {post} {a} {b} ending u w one two (both_push {x = x} {y = y} none tries rel) =
      subst
      (λ bytes. Coming (registers_written p i) (registers_written q main) (Deepens (stack_in_use c x) (at next a x))
      (Deepens bytes (at (post ++ expand f next) b y)))
      (ap (λ ts. c.below + c.frame + 16 * length ts) tries)
      (both_deepen
      (λ v.
      let g = rel v in
      subst
      (λ code. Related (at next a x) (at (code ++ expand f next) b y)
      × Agrees q (registers_written q main) (at (code ++ expand f next) b y))
      (sym none) (related ending g.0, g.1)))
  acts_alike {i} {main} {next} {post} {a} {b} ending u w one two (both_ask {callee = callee} {vs = vs} {go = go} {so = so} seen g) =
      subst
      (λ call. Coming (registers_written p i) (registers_written q main) (on_act c p i next a u (Asks callee vs go))
      (Waits call (λ d. on_act c q main (post ++ expand f next) b w (so d))))
      (asked_same c callee vs false u w seen)
      (both_wait (λ d. acts_alike ending u w (go d) (so d) (g d)))
  acts_alike {i} {main} {next} {post} {a} {b} ending u w one two (both_replace {callee = callee} {vs = vs} {kept = kept} seen) =
      subst
      (λ call. Coming (registers_written p i) (registers_written q main) (on_act c p i next a u (TakesPlace callee vs kept))
      (FinishesBy call kept))
      (asked_same c callee vs true u w seen) both_finish_by
  acts_alike ending u w one two both_end = both_finish
  acts_alike ending u w one two both_raise = both_finish_raising
  acts_alike ending u w one two stuck_first = first_stuck

  -- ---- the pass

  -- What stands for an instruction that reads these values: straight code, an operation that does the like, straight code.
  pub record Replaces (i : Instr) (next : List Instr) (x y : Around) (a b : File) (vs : List Value) : Type 0 where
    pub pre : List Instr
    pub main : Instr
    pub post : List Instr
    pub shape : f (length next) i ≡ pre ++ main ∷ post
    pub between : File
    pub passing : Passes (Unit {0}) y pre (main ∷ (post ++ expand f next)) b between
    pub vals : ValsWritten p (at (i ∷ next) a x) → ValsWritten q (at (main ∷ (post ++ expand f next)) between y)
    pub read : List Value
    pub reads : values between main.args ≡ Some read
    pub alike : Acts i main next post x y (past_frame (passes_frame i.op) a) (past_frame (passes_frame main.op) between)
        (mach_act c.setting i.op vs x) (mach_act c.setting main.op read y)

  -- what straight code in place of an instruction comes to, where the instruction goes on
  pub record Skips (i : Instr) (next code : List Instr) (x y : Around) (b d : File) : Type 0 where
    pub after : File
    pub passing : Passes (Agrees p (registers_written p i) (at next d x)) y code (expand f next) b after
    pub rel : Agrees p (registers_written p i) (at next d x) → Rel next x y d after

  -- Or straight code in its place, where it only goes on.
  pub record StandsFor (i : Instr) (next : List Instr) (x y : Around) (a b : File) (vs : List Value) : Type 0 where
    pub code : List Instr
    pub shape : f (length next) i ≡ code
    pub skips : (mach_act c.setting i.op vs x ≡ Stuck)
        ⊎ ((results : List Value) × (after : Around) × (mach_act c.setting i.op vs x ≡ Goes results On after)
        × ((d : File) → put_all c.setting.end i.results results (clear_registers (killed p i) (past_frame (passes_frame i.op) a)) ≡ Some d →
        Skips i next code after y b d))

  shaped : {i : Instr} {next : List Instr} {x y : Around} {a b : File} {vs : List Value} (r : Replaces i next x y a b vs) →
      expand f (i ∷ next) ≡ r.pre ++ (r.main ∷ (r.post ++ expand f next))
  shaped {next = next} r =
      ap (λ xs. xs ++ expand f next) r.shape ∙ append_assoc r.pre (r.main ∷ r.post) (expand f next)

  -- what a step of the first is from where it has read its operands
  abbrev Done : Instr → List Instr → File → Around → List Value → Step State
  Done i next a x vs = on_act c p i next (past_frame (passes_frame i.op) a) x (mach_act c.setting i.op vs x)

  abbrev Answering : Instr → List Instr → File → Around → List Value → State → Type 0
  Answering i next a x vs t = Answers c p q Suit Related (registers_written p i) t (Done i next a x vs)

  replaced : {i : Instr} {next : List Instr} {a b : File} (vs : List Value) (x y : Around) → Ending (i ∷ next) p.code →
      ValsWritten p (at (i ∷ next) a x) → (r : Replaces i next x y a b vs) →
      Answering i next a x vs (at (expand f (i ∷ next)) b y)
  replaced {i} {next} {a} {b} vs x y ending known r =
      subst (λ code. Answering i next a x vs (at code b y)) (sym (shaped r))
      (begins_on r.passing (λ w. tt) (steps (r.vals known) coming) (λ us agree. later agree (r.vals known) coming))
    where
      acted : Coming (registers_written p i) (registers_written q r.main) (Done i next a x vs)
          (on_values c q r.main (r.post ++ expand f next) r.between y (Some r.read))
      acted =
          acts_alike (ending_next ending) x y (mach_act c.setting i.op vs x)
          (mach_act c.setting (r.main).op r.read y) r.alike

      coming : Coming (registers_written p i) (registers_written q r.main) (Done i next a x vs)
          (step c q (at (r.main ∷ (r.post ++ expand f next)) r.between y))
      coming =
          subst
          (λ o. Coming (registers_written p i) (registers_written q r.main) (Done i next a x vs)
          (on_values c q r.main (r.post ++ expand f next) r.between y o))
          (sym r.reads) acted

  -- the second, at this code, answers a step by this instruction of the first
  abbrev Reply : Instr → List Instr → File → Around → Step State → Type 0
  Reply i code b y z = Answers c p q Suit Related (registers_written p i) (at code b y) z

  stood : {i : Instr} {next : List Instr} {a b : File} (vs : List Value) (x y : Around) → Ending (i ∷ next) p.code →
      (r : StandsFor i next x y a b vs) → Answering i next a x vs (at (expand f (i ∷ next)) b y)
  stood {i} {next} {a} {b} vs x y ending r =
      subst (λ code. Answering i next a x vs (at (code ++ expand f next) b y)) (sym r.shape)
      (⊎_elim (λ e. of_act Stuck e stuck) (λ g. of_act (Goes g.0 On g.1) g.2 (goes g.0 g.1 g.3 _ refl)) r.skips)
    where
      of_act : (act : Act) → mach_act c.setting i.op vs x ≡ act →
          Reply i (r.code ++ expand f next) b y (on_act c p i next (past_frame (passes_frame i.op) a) x act) →
          Reply i (r.code ++ expand f next) b y (Done i next a x vs)
      of_act act e =
          subst (λ z. Reply i (r.code ++ expand f next) b y (on_act c p i next (past_frame (passes_frame i.op) a) x z)) (sym e)

      goes : (results : List Value) (after : Around) →
          ((d : File) → put_all c.setting.end i.results results (clear_registers (killed p i) (past_frame (passes_frame i.op) a)) ≡ Some d →
          Skips i next r.code after y b d) → (o : Option File) →
          put_all c.setting.end i.results results (clear_registers (killed p i) (past_frame (passes_frame i.op) a)) ≡ o →
          Reply i (r.code ++ expand f next) b y (wrote next after o)
      goes results after skips None e = stuck
      goes results after skips (Some d) e =
          let g = skips d e in
          begins_on g.passing (λ w. w) (stays (λ w. related (ending_next ending) (g.rel w)))
          (λ us agree. both_continue (λ w. (related (ending_next ending) (g.rel w), agree w)))

  -- What a pass owes: what its relation says of surroundings, and what it does for each instruction.
  pub record Serves : Type 0 where
    pub suits : (rest : List Instr) (x y : Around) (a b : File) → Rel rest x y a b → Suit x y
    pub each : (i : Instr) (next : List Instr) (x y : Around) (a b : File) → Ending (i ∷ next) p.code →
        Rel (i ∷ next) x y a b → (vs : List Value) → values a i.args ≡ Some vs →
        Replaces i next x y a b vs ⊎ StandsFor i next x y a b vs

  pub expansion : Serves → Closed c p q Suit Related
  expansion serves = record { suits = suits_by; next = next_by }
    where
      suits_by : (s t : State) → Related s t → Suit s.around t.around
      suits_by s t (related {rest = rest} {x = x} {y = y} {a = a} {b = b} ending rel) = serves.suits rest x y a b rel

      by : {i : Instr} {next : List Instr} {a b : File} (x y : Around) → Ending (i ∷ next) p.code →
          Rel (i ∷ next) x y a b → ValsWritten p (at (i ∷ next) a x) → (o : Option (List Value)) → values a i.args ≡ o →
          Answers c p q Suit Related (registers_written p i) (at (expand f (i ∷ next)) b y) (on_values c p i next a x o)
      by x y ending rel known None e = stuck
      by {i} {next} {a} {b} x y ending rel known (Some vs) e =
          ⊎_elim (λ r. replaced vs x y ending known r) (λ r. stood vs x y ending r)
          (serves.each i next x y a b ending rel vs e)

      next_by : (s t : State) → Related s t → ValsWritten p s →
          Answers c p q Suit Related (wrote_at p s.rest) t (step c p s)
      next_by s t (related {rest = []} ending rel) known = stuck
      next_by s t (related {rest = i ∷ next} {x = x} {y = y} {a = a} ending rel) known =
          by x y ending rel known (values a i.args) refl

  -- The theorem on passes: from states that are related, the second comes to what the first does.
  pub comes_from : Serves → (a b : File) (x y : Around) → Rel p.code x y a b → (n : ℕ) (t : Tally) →
      Proper c p n (at p.code a x) t → Comes Suit (run_of_mach c p n (at p.code a x) t) c q (at q.code b y) t
  comes_from serves a b x y rel n t proper =
      simulates c p q Suit Related (expansion serves) n (at p.code a x) (at q.code b y) t
      (subst (λ code. Related (at p.code a x) (at code b y)) (sym is_code) (related all rel)) proper
