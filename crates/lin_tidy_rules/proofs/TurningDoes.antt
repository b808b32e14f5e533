-- Loops turned round: the function does what it did.
use Rattle.std.proofs.Common.{◌≡◌, ℕ, Bool, true, false, List, [], ◌∷◌, Option, Some, None, refl, sym, ap, ◌∙◌, subst}
use Rattle.std.proofs.lemmas.Bool.{true≢false}
use Rattle.bs_words.specs.Memory.{Memory, sizes}
use Rattle.bs_words.specs.declared.types.Comp.TheVariants as comp
use Rattle.bs_words.specs.declared.values.Value.{Value}
use Rattle.bs_words.proofs.Lists.{head_same, tail_same}
use Rattle.cmm_meaning.specs.State.{Doing}
use Rattle.mach_ir.specs.Acts.{Around, Target, On, At, opposite, truth_of, goes_by_test}
use Rattle.mach_ir.specs.Runs.{ActivationSetting, Step, Continues}
use Rattle.mach_ir.specs.Walks.{OneOf, this, other}
use Rattle.mach_ir.specs.declared.mach.MachOp.{MachOp}
use Rattle.mach_ir.specs.declared.op.Op.{Op}
use Rattle.lin_ir.specs.Formed.{WellFormed, bare_flow}
use Rattle.lin_ir.specs.Keeps.{IsNamedIn}
use Rattle.lin_ir.specs.Meaning.{State, Locations, values, lin_act, on_act, after_label, code_at, passes_frame, linear_start}
use Rattle.lin_ir.specs.Walks as walks
use Rattle.lin_ir.specs.Walks.{targets, tries_after, Reached, at_entry, by_step, by_raise, LiveAcross}
use Rattle.lin_ir.specs.declared.lin.Flow.{Flow}
use Rattle.lin_ir.specs.declared.lin.Flow.TheVariants as flow
use Rattle.lin_ir.specs.declared.lin.LinOp.TheVariants as lin
use Rattle.lin_ir.specs.declared.lin.Line.{Line}
use Rattle.lin_ir.specs.declared.lin.Lin.{Lin}
use Rattle.linearise_rules.specs.Kept as kept
use Rattle.linearise_rules.specs.Kept.{lossless_line_step, ValsHeld}
use Rattle.linearise_rules.specs.Lowered.{opposite_test}
use Rattle.linearise_rules.proofs.Homes.{in_of, contains_of}
use Rattle.linearise_rules.proofs.Opposite.{truth_opposite}
use Rattle.linearise_rules.proofs.Walked.{tail_all}
use Rattle.lin_tidy_rules.specs.Keeps.{SameRound, TidyBegins, KeepsLin}
use Rattle.lin_tidy_rules.specs.Regular.{IsRegular}
use Rattle.lin_tidy_rules.specs.Turning as turning
use Rattle.lin_tidy_rules.specs.Turning.{branch_line}
use Rattle.lin_tidy_rules.proofs.Turns.{turns}
use Rattle.lin_tidy_rules.proofs.Simulate.{Arrives, both_continue, both_pay, first_stuck, goes_alone, Answers, stays, stuck, steps, Closed, Leads, acts, begins_alike}
use Rattle.lin_tidy_rules.proofs.Turning.{T, R, Where, Stand, image, Own, same, other_way, exits, View, own, past_label, past_jump, head_line, own_image, view, Moves, live_across, no_addr_turned, handler_turned, image_some, stands_none}
use Rattle.lin_tidy_rules.proofs.TurningLines.{From, was_line, new_line, new_flow, from_line}

module _ (m r : Lin) (h : turning.Turns m r) (well : WellFormed m) where
  abbrev L : List Line → List Line
  L = T m r h well

  abbrev Q : Lin
  Q = R m r h well

  abbrev Stands : List Line → List Line → List ℕ → Type 0
  Stands = Stand m r h well

  module _ (c : ActivationSetting) where
    abbrev at : List Line → Locations → Around → State
    at is f a = record { rest = is; file = f; around = a }

    data Rel : State → State → Type 0 where
      rel : {is js : List Line} {f : Locations} {a : Around} → Stands is js a.tries → Reached m is a.tries → Rel (at is f a) (at js f a)

    abbrev Answer : State → Step State → Type 0
    Answer = Answers c m (lossless_line_step c Q) (ValsHeld c Q) SameRound Rel

    abbrev Arrive : Step State → Step State → Type 0
    Arrive = Arrives c m (lossless_line_step c Q) (ValsHeld c Q) SameRound Rel

    -- ---- what is asked at frame points

    passes_none : (i k : Line) (is ks : List Line) → i ∷ is ≡ k ∷ ks → passes_frame i.op ≡ false → passes_frame k.op ≡ true → ⊥
    passes_none i k is ks e none frame = true≢false (sym frame ∙ ap (λ (j : Line). passes_frame j.op) (sym (head_same e)) ∙ none)

    flow_held : (j : Line) (js : List Line) (g : Locations) (a : Around) → passes_frame j.op ≡ false → ValsHeld c Q (at (j ∷ js) g a)
    flow_held j js g a none = record { held = λ k ks same frame l w. absurd (passes_none j k js ks same none frame) }

    line_held : {i : Line} {next ks : List Line} {top : Where} (g : Locations) (a : Around) → Moves m r h well i next ks a.tries top →
        Reached m (i ∷ next) a.tries →
        ValsHeld c m (at (i ∷ next) g a) → ValsHeld c Q (at (i ∷ ks) g a)
    line_held {i} {next} {ks} g a moves reached vals =
        record {
          held = λ k js same frame l w.
              let head : i ≡ k = head_same same in
              let tail : ks ≡ js = tail_same same in
              vals.held i next refl (ap (λ (k : Line). passes_frame k.op) head ∙ frame) l
              (live_across m r h well moves reached
              (subst (λ k. LiveAcross Q l comp.Val k ks a.tries) (sym head) (subst (λ js. LiveAcross Q l comp.Val k js a.tries) (sym tail) w)));
        }

    -- ---- a line of both

    leads : {i : Line} {next ks : List Line} {top : Where} (g : Locations) (a : Around) → Moves m r h well i next ks a.tries top →
        Reached m (i ∷ next) a.tries →
        Leads c m (lossless_line_step c Q) (ValsHeld c Q) SameRound Rel Q i next ks g g a.tries
    leads {i} {next} {ks} g a moves reached =
        record {
          on = λ vs t b g' o e u. (g', u, goes t b o e g');
          bare = λ t b n o e. goes t b o e g;
          aside = λ k b raise e. caught k b raise (subst (Reached m (i ∷ next)) e reached);
        }
      where
        goes : (t : Target) (b : Around) → OneOf t (targets i.op) → b.tries ≡ tries_after i.op a.tries → (f : Locations) → Rel (at (code_at m.code next t) f b)
            (at (code_at Q.code ks t) f b)
        goes t b o e f =
            rel (subst (Stands (code_at m.code next t) (code_at Q.code ks t)) (sym e) (moves t o).stand)
            (subst (Reached m (code_at m.code next t)) (sym e) (by_step reached (walks.goes t o)))

        caught : (k : ℕ) (b : Around) → walks.may_raise i.op ≡ true → Reached m (i ∷ next) (k ∷ b.tries) → Rel (at (after_label k m.code) g b)
            (at (after_label k Q.code) g b)
        caught k b raise s = rel (image (handler_turned m r h well s)) (by_raise s (walks.raises raise))

    -- a line of its own, where the second is at what does the same
    answer_own : {is ks : List Line} {j : Line} {top : Where} (g : Locations) (a : Around) → Own m r h well is j ks a.tries top → Reached m is a.tries →
        ValsHeld c m (at is g a) → Answer (at (j ∷ ks) g a) (lossless_line_step c m (at is g a))
    answer_own {ks = ks} g a (same {i = i} {next = next} rank moves) reached vals =
        steps (line_held g a moves reached vals) (by (values c.setting.end g i.args))
      where
        by : (o : Option (List Value)) → Arrive (kept.on_lossless_line_values c m i next g a o) (kept.on_lossless_line_values c Q i ks g a o)
        by None = first_stuck
        by (Some vs) =
            acts c m (lossless_line_step c Q) (ValsHeld c Q) SameRound Rel Q i next ks g g a (leads g a moves reached) (lin_act c.setting i.op vs a) (turns c.setting i.op vs a)
    answer_own {ks = ks} g a (other_way {d = d} {rest = rest} holds fails) reached vals =
        steps (flow_held (branch_line (opposite_test d.test) d.on d.args) ks g a refl) (by (values c.setting.end g d.args))
      where
        to : {next js : List Line} → Stands next js a.tries → Reached m next a.tries → Arrive (Continues (at next g a)) (Continues (at js g a))
        to s reached = both_continue (rel s reached)

        tested : (o : Option Bool) → Arrive (on_act c m (head_line d) rest g a (goes_by_test a (At d.to) On o))
            (on_act c Q (branch_line (opposite_test d.test) d.on d.args) ks g a (goes_by_test a (At d.on) On (opposite o)))
        tested None = first_stuck
        tested (Some true) = to holds.stand (by_step reached (walks.goes (At d.to) (other this)))
        tested (Some false) = to fails.stand (by_step reached (walks.goes On this))

        by : (o : Option (List Value)) → Arrive (kept.on_lossless_line_values c m (head_line d) rest g a o)
            (kept.on_lossless_line_values c Q (branch_line (opposite_test d.test) d.on d.args) ks g a o)
        by None = first_stuck
        by (Some vs) =
            subst (λ o. Arrive (on_act c m (head_line d) rest g a (goes_by_test a (At d.to) On (truth_of (sizes a.memory) d.test vs)))
            (on_act c Q (branch_line (opposite_test d.test) d.on d.args) ks g a (goes_by_test a (At d.on) On o)))
            (sym (truth_opposite (sizes a.memory) d.test vs)) (tested (truth_of (sizes a.memory) d.test vs))
    answer_own {ks = ks} g a (exits {l = l} {n = n} stand) reached vals =
        steps (flow_held (bare_flow (flow.Exit n)) ks g a refl) (both_pay (rel stand (by_step reached (walks.goes (At l) this))))

    -- the second goes on alone to a place where it answers
    alone : {u v : State} {x : Step State} → ValsHeld c Q u → lossless_line_step c Q u ≡ Continues v → Answer v x → Answer u x
    alone {u} {v} {x} here e answer = by answer
      where
        on : {x : Step State} → Arrive x (Continues v) → Answer u x
        on {x} arrives = steps here (subst (Arrive x) (sym e) arrives)

        by : {x : Step State} → Answer v x → Answer u x
        by (stays goes) = on (both_continue goes)
        by stuck = stuck
        by (steps there arrives) = on (goes_alone there arrives)

    answer_image : (is js : List Line) (g : Locations) (a : Around) → L is ≡ js → Reached m is a.tries → ValsHeld c m (at is g a) →
        Answer (at js g a) (lossless_line_step c m (at is g a))
    answer_image [] js g a e reached vals = stuck
    answer_image (i ∷ next) [] g a e reached vals = absurd (image_some m r h well i next e)
    answer_image (i ∷ next) (j ∷ ks) g a e reached vals = answer_own g a (own_image m r h well (i ∷ next) reached e) reached vals

    answer : {is : List Line} (js : List Line) (g : Locations) (a : Around) → Stands is js a.tries → Reached m is a.tries → ValsHeld c m (at is g a) →
        Answer (at js g a) (lossless_line_step c m (at is g a))
    answer {is} [] g a s reached vals = subst (λ is. Answer (at [] g a) (lossless_line_step c m (at is g a))) (sym (stands_none m r h well s refl)) stuck
    answer {is} (j ∷ ks) g a s reached vals = by (view m r h well s reached refl) reached vals
      where
        by : {is ks : List Line} {j : Line} {top : Where} → View m r h well is j ks a.tries top → Reached m is a.tries → ValsHeld c m (at is g a) →
            Answer (at (j ∷ ks) g a) (lossless_line_step c m (at is g a))
        by (own o) reached vals = answer_own g a o reached vals
        by (past_label {is = is} {ks = ks} {l = l} e low) reached vals =
            alone (flow_held (bare_flow (flow.Label l)) ks g a refl) refl (answer_image is ks g a e reached vals)
        by (past_jump {is = is} {ks = ks} {l = l} e low) reached vals =
            alone (flow_held (bare_flow (flow.Jump l)) ks g a refl) refl (answer_image is (after_label l Q.code) g a e reached vals)

    closed : Closed c m (lossless_line_step c Q) (ValsHeld c Q) SameRound Rel
    closed = record { around = λ s u r. around_same s u r; next = λ s u r vals. next_same s u r vals }
      where
        around_same : (s u : State) → Rel s u → s.around ≡ u.around
        around_same s u (rel s' r) = refl

        next_same : (s u : State) → Rel s u → ValsHeld c m s → Answer u (lossless_line_step c m s)
        next_same s u (rel {js = js} {f = f} {a = a} stand reached) vals = answer js f a stand reached vals

    turning_begins : (arguments : List Value) (memory : Memory) (doings : List Doing) (s : State) → linear_start c m arguments memory ≡ Some s →
        TidyBegins SameRound c m Q arguments memory doings s
    turning_begins = begins_alike c m Q refl SameRound Rel closed (λ f memory. rel (image refl) at_entry)

  named_before : (Named : MachOp → Type 0) → IsNamedIn Named Q → IsNamedIn Named m
  named_before Named n = by (from_line m r h well m.code tail_all (in_of n.line Q.code n.among))
    where
      flow_op : (f : Flow) (g : Op) → lin.Flow f ≡ lin.Op g → ⊥
      flow_op f g e = cc

      by : From m r h well n.line → IsNamedIn Named m
      by (was_line z) = record { line = n.line; among = contains_of z; op = n.op; is = n.is; named = n.named }
      by (new_line new) = let f = new_flow m r h well new in absurd (flow_op f.0 n.op (sym f.1 ∙ n.is))

  keeps : KeepsLin SameRound m Q
  keeps =
      record {
        name = refl;
        result = refl;
        does = λ c arguments memory doings s e. turning_begins c arguments memory doings s e;
        symbols = λ name n. named_before _ n;
        externals = λ row n. named_before _ n;
        addrs = no_addr_turned m r h well;
      }

-- Where loops are turned round a function does what it did.
pub turning_keeps : {m r : Lin} → turning.Turns m r → IsRegular m → KeepsLin SameRound m r
turning_keeps {m} {r} h regular = subst (KeepsLin SameRound m) (sym h.is) (keeps m r h regular.well)
