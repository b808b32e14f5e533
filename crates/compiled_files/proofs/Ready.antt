-- Where a run of a Linear function is, its line finds what it is to find: a raise is on its way only before the entry of a handler.
use Rattle.std.proofs.Common.{◌≡◌, ◌⊎◌, inl, inr, ⊎_elim, ℕ, zero, suc, Bool, true, false, not, ◌||◌, List, [], ◌∷◌, Option, Some, None, Result, Ok, Err, length, refl, sym, ap, ◌∙◌, subst}
use Rattle.bs_words.specs.Memory.{Memory, sizes}
use Rattle.bs_words.specs.Operators.{word_in}
use Rattle.bs_words.specs.declared.types.Loc.{Loc}
use Rattle.bs_words.specs.declared.values.Kind.{Kind}
use Rattle.bs_words.specs.declared.values.Value.{Value}
use Rattle.cmm_meaning.specs.Setting.{Setting}
use Rattle.cmm_meaning.specs.State.{Doing}
use Rattle.mach_ir.specs.Acts as acts
use Rattle.mach_ir.specs.Acts.{Around, On, At, AtLabel, AtHandler, Act, Goes, Pushes, Jumps, Unwinds, Asks, Replaces, Ends, EndsRaising, Stuck, if_known}
use Rattle.mach_ir.specs.Runs.{ActivationSetting, Step, entry_around}
use Rattle.mach_ir.specs.declared.op.Op.{Op}
use Rattle.mach_ir.specs.declared.mach.MachOp.TheVariants as mach
use Rattle.lin_ir.specs.Formed.{WellFormed}
use Rattle.lin_ir.specs.Meaning.{Locations, NamedAt, State, are_vals, at_code, at_handler, begin_linear, clear_destroyed, code_at, destroyed_by, flow_act, lin_act, on_act, on_values, passes_frame, past_frame, put_all, unless_misnamed, values, wrote}
use Rattle.lin_ir.specs.Walks.{Reached}
use Rattle.lin_ir.specs.declared.lin.Flow.{Flow}
use Rattle.lin_ir.specs.declared.lin.Flow.TheVariants as flow
use Rattle.lin_ir.specs.declared.lin.Lin.{Lin}
use Rattle.lin_ir.specs.declared.lin.Line.{Line}
use Rattle.lin_ir.specs.declared.lin.LinOp.{LinOp}
use Rattle.lin_ir.specs.declared.lin.LinOp.TheVariants as lin
use Rattle.linearise_rules.proofs.Homes.{is_first}
use Rattle.mach_laws.proofs.Turns as ops
use Rattle.lin_tidy_rules.proofs.Turns.{Turns, goes_in, exits_in, jumps_in, unwinds_in, pushes_in, asks_in, replaces_in, ends_in, raising_in, stuck_in, turns}
use Rattle.function_stands.specs.Known.{IsReadyFor}
use Rattle.function_stands.proofs.Handlers.{pushed, pushed_enters}
use Rattle.linking.specs.Pace.{IsReached, StepLeadsTo, at_start, behind, by_step, continues, deepens, pays}
use Rattle.linking_machine.specs.Known.{linear_program}
use Rattle.linking_machine.proofs.Known.{reached_walks}

-- ---- what is raised

-- where an act goes on but at a handler, nothing is raised
abbrev LeavesNone : Act → Type 0
LeavesNone (Goes vs to after) = after.raised ≡ None
LeavesNone (Pushes after) = after.raised ≡ None
LeavesNone (Jumps (AtLabel l) after) = after.raised ≡ None
LeavesNone (Jumps AtHandler after) = Unit {0}
LeavesNone (Unwinds after) = Unit {0}
LeavesNone (Asks whom vs go) = (d : Doing) → LeavesNone (go d)
LeavesNone (Replaces whom vs kept) = Unit {0}
LeavesNone (Ends d) = Unit {0}
LeavesNone (EndsRaising d) = Unit {0}
LeavesNone Stuck = Unit {0}

op_none : {f : Op} {ts : List ℕ} {rv : Option Value} {x : Act} → rv ≡ None → ops.Turns (mach.Op f) ts rv x → LeavesNone x
op_none e (ops.goes_in o t u) = u ∙ e
op_none e (ops.exits_in x t u) = elim x [ ]
op_none e (ops.jumps_in r t) = tt
op_none e (ops.unwinds_in r t) = tt
op_none e (ops.pushes_in x t u) = elim x [ ]
op_none e (ops.asks_in w) = λ d. op_none e (w d)
op_none e ops.replaces_in = tt
op_none e ops.ends_in = tt
op_none e ops.raising_in = tt
op_none e ops.stuck_in = tt

branch_none : (l : ℕ) (a : Around) → a.raised ≡ None → (o : Option Bool) → LeavesNone (acts.goes_by_test a (At l) On o)
branch_none l a e (Some b) = e
branch_none l a e None = tt

case_none : (a : Around) → a.raised ≡ None → (labels : List ℕ) (r : Result ℕ Kind) → LeavesNone (acts.goes_to_case a labels r)
case_none a e labels (Err kind) = tt
case_none a e [] (Ok n) = tt
case_none a e (l ∷ labels) (Ok zero) = e
case_none a e (l ∷ labels) (Ok (suc n)) = case_none a e labels (Ok n)

-- the entry of a handler takes what is raised
taken_none : (a : Around) (o : Option Value) → LeavesNone (if_known (record a { raised = None }) o)
taken_none a (Some v) = refl
taken_none a None = tt

flow_none : (g : Flow) (vs : List Value) (a : Around) → (a.raised ≡ None) ⊎ (g ≡ flow.EnterTrap) → LeavesNone (flow_act g vs a)
flow_none flow.EnterTrap [] a h = taken_none a a.raised
flow_none flow.EnterTrap (v ∷ vs) a h = tt
flow_none (flow.Label l) [] a (inl e) = e
flow_none (flow.Label l) [] a (inr q) = absurd (cc)
flow_none (flow.Label l) (v ∷ vs) a h = tt
flow_none (flow.Jump l) [] a (inl e) = e
flow_none (flow.Jump l) [] a (inr q) = absurd (cc)
flow_none (flow.Jump l) (v ∷ vs) a h = tt
flow_none (flow.Exit l) [] a (inl e) = e
flow_none (flow.Exit l) [] a (inr q) = absurd (cc)
flow_none (flow.Exit l) (v ∷ vs) a h = tt
flow_none (flow.Branch t l) vs a (inl e) = branch_none l a e (acts.truth_of (sizes a.memory) t vs)
flow_none (flow.Branch t l) vs a (inr q) = absurd (cc)
flow_none (flow.Switch labels) [] a h = tt
flow_none (flow.Switch labels) (v ∷ []) a (inl e) = case_none a e labels (word_in v)
flow_none (flow.Switch labels) (v ∷ []) a (inr q) = absurd (cc)
flow_none (flow.Switch labels) (v ∷ w ∷ vs) a h = tt
flow_none (flow.PushTrap l) [] a (inl e) = e
flow_none (flow.PushTrap l) [] a (inr q) = absurd (cc)
flow_none (flow.PushTrap l) (v ∷ vs) a h = tt
flow_none flow.PopTrap [] a (inl e) = e
flow_none flow.PopTrap [] a (inr q) = absurd (cc)
flow_none flow.PopTrap (v ∷ vs) a h = tt

lin_none : (c : Setting) (g : LinOp) (vs : List Value) (a : Around) → (a.raised ≡ None) ⊎ (g ≡ lin.Flow flow.EnterTrap) → LeavesNone (lin_act c g vs a)
lin_none c (lin.Op f) vs a (inl e) = op_none e (ops.turns c (mach.Op f) vs a)
lin_none c (lin.Op f) vs a (inr q) = absurd (cc)
lin_none c (lin.Flow g) vs a (inl e) = flow_none g vs a (inl e)
lin_none c (lin.Flow g) vs a (inr q) = flow_none g vs a (inr (let h : lin.Flow g ≡ lin.Flow flow.EnterTrap = q in cc))

-- ---- where it is raised

-- the code begins with the entry of a handler
record BeginsHandler (code : List Line) : Type 0 where
  line : Line
  next : List Line
  is : code ≡ line ∷ next
  enters : line.op ≡ lin.Flow flow.EnterTrap

abbrev Calm : State → Type 0
Calm u = (u.around.raised ≡ None) ⊎ BeginsHandler u.rest

module _ (m : Lin) (formed : WellFormed m) where
  module _ (c : ActivationSetting) (i : Line) (next : List Line) (a : Around) (here : Reached m (i ∷ next) a.tries) where
    -- the innermost handler is entered
    handler_begins : (h : ℕ) (tries : List ℕ) → a.tries ≡ h ∷ tries → BeginsHandler (at_handler m.code a.tries)
    handler_begins h tries e =
        let there = pushed_enters m formed h (pushed m (subst (Reached m (i ∷ next)) e here) h is_first) in
        subst (λ (ts : List ℕ). BeginsHandler (at_handler m.code ts)) (sym e)
        (record { line = there.line; next = there.next; is = there.is; enters = there.enters })

    wrote_calm : (rest : List Line) (after : Around) (o : Option Locations) → after.raised ≡ None → (u : State) →
        StepLeadsTo State u (wrote rest after o) → Calm u
    wrote_calm rest after None e u l = elim l [ ]
    wrote_calm rest after (Some f) e u continues = inl e

    act_calm : (f : Locations) {x : Act} → LeavesNone x → Turns i.op a.tries x → (u : State) → StepLeadsTo State u (on_act c m i next f a x) → Calm u
    act_calm f none (goes_in {vs = vs} {to = to} {after = after} o e) u l =
        wrote_calm (code_at m.code next to) after (put_all c.setting.end i.results vs (clear_destroyed (destroyed_by i.op) f)) none u l
    act_calm f none (exits_in b o e) u pays = inl none
    act_calm f none (jumps_in {h = h} {after = after} r e) u pays = inr (handler_begins h after.tries e)
    act_calm f none (unwinds_in {h = h} {after = after} r e) u continues = inr (handler_begins h after.tries e)
    act_calm f none (pushes_in b o e) u deepens = inl none
    act_calm f none (asks_in w) u (behind d l) = act_calm f (none d) (w d) u l
    act_calm f none replaces_in u l = elim l [ ]
    act_calm f none ends_in u l = elim l [ ]
    act_calm f none raising_in u l = elim l [ ]
    act_calm f none stuck_in u l = elim l [ ]

    misnamed_calm : (b : Bool) (x : Step State) → ((u : State) → StepLeadsTo State u x → Calm u) → (u : State) →
        StepLeadsTo State u (unless_misnamed b x) → Calm u
    misnamed_calm true x k u l = k u l
    misnamed_calm false x k u l = elim l [ ]

    values_calm : (a.raised ≡ None) ⊎ (i.op ≡ lin.Flow flow.EnterTrap) → (names : List Loc) (f : Locations) (o : Option (List Value)) (u : State) →
        StepLeadsTo State u (on_values c names m i next f a o) → Calm u
    values_calm h names f None u l = elim l [ ]
    values_calm h names f (Some vs) u l =
        misnamed_calm (not (passes_frame i.op) || are_vals c.setting.end names f) _
        (act_calm (past_frame (passes_frame i.op) names f) (lin_none c.setting i.op vs a h) (turns c.setting i.op vs a)) u l

  -- a line finds nothing raised, or enters a handler
  finds : (u : State) {i : Line} {next : List Line} → u.rest ≡ i ∷ next → Calm u → (u.around.raised ≡ None) ⊎ (i.op ≡ lin.Flow flow.EnterTrap)
  finds u e (inl none) = inl none
  finds u {i = i} {next = next} e (inr b) =
      let same : b.line ∷ b.next ≡ i ∷ next = sym b.is ∙ e in
      let it : b.line ≡ i = cc in
      inr (ap (λ (j : Line). j.op) (sym it) ∙ b.enters)

  code_calm : (c : ActivationSetting) (named : NamedAt) (s : State) → Reached m s.rest s.around.tries → Calm s → (rest : List Line) → s.rest ≡ rest →
      (u : State) → StepLeadsTo State u (at_code c named m rest s.file s.around) → Calm u
  code_calm c named s here calm [] e u l = elim l [ ]
  code_calm c named s here calm (i ∷ next) e u l =
      values_calm c i next s.around (subst (λ (code : List Line). Reached m code s.around.tries) e here) (finds s e calm) (named (length next)) s.file
      (values c.setting.end s.file i.args) u l

  start_calm : (memory : Memory) (o : Option Locations) (s : State) → begin_linear m memory o ≡ Some s → Calm s
  start_calm memory None s e = absurd (let no : None ≡ Some s = e in cc)
  start_calm memory (Some f) s e =
      let same : record { rest = m.code; file = f; around = entry_around memory } ≡ s = cc in
      subst Calm same (inl refl)

module _ (lins : ℕ → Lin) (named : ℕ → NamedAt) (f : ℕ) (c : ActivationSetting) (formed : WellFormed (lins f)) where
  -- wherever a run comes, a raise is on its way only before the entry of a handler
  reached_calm : {u : State} → IsReached State (linear_program lins named) f c u → Calm u
  reached_calm (at_start {arguments = arguments} {memory = memory} {s = s} e) =
      start_calm (lins f) formed memory (put_all c.setting.end (lins f).params arguments (λ l. None)) s e
  reached_calm (by_step {s = s} {u = u} r l) =
      code_calm (lins f) formed c (named f) s (reached_walks lins named f c r) (reached_calm r) s.rest refl u l

  -- Each line that a run comes to finds what it is to find.
  pub ready : (u : State) (i : Line) (next : List Line) → IsReached State (linear_program lins named) f c u → u.rest ≡ i ∷ next →
      IsReadyFor i u.around
  ready u i next reached is =
      let walk : Reached (lins f) (i ∷ next) u.around.tries =
      subst (λ (code : List Line). Reached (lins f) code u.around.tries) is (reached_walks lins named f c reached) in
      record {
        raised = λ no. ⊎_elim (λ e. e) (λ q. absurd (no q)) (finds (lins f) formed u is (reached_calm reached));
        left = λ e. formed.traps.leaves i next u.around.tries walk e;
        popped = λ e none. formed.traps.pops i next u.around.tries walk e (ap length none);
      }
