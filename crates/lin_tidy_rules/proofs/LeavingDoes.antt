-- Without lines that have no use a function does what it did.
use Rattle.std.proofs.Common.{◌≡◌, ℕ, Bool, true, false, cond, List, [], ◌∷◌, length, Option, Some, None, refl, sym, ap, ◌∙◌, subst}
use Rattle.std.proofs.lemmas.Bool.{true≢false}
use Rattle.bs_words.specs.Fits.{fits, type_of_comp}
use Rattle.bs_words.specs.Memory.{Memory}
use Rattle.bs_words.specs.declared.types.Comp.TheVariants as comp
use Rattle.bs_words.specs.declared.types.Loc.{Loc}
use Rattle.bs_words.specs.declared.values.Value.{Value}
use Rattle.bs_words.proofs.Lists.{head_same, tail_same}
use Rattle.cmm_meaning.specs.State.{Doing}
use Rattle.mach_ir.specs.Acts.{Around, On, At}
use Rattle.mach_ir.specs.Runs.{ActivationSetting, Step, Continues}
use Rattle.mach_ir.specs.Walks.{this}
use Rattle.lin_ir.specs.Formed.{IsSelfMove, is_self_move, bare_flow}
use Rattle.lin_ir.specs.Keeps.{IsNamedIn}
use Rattle.lin_ir.specs.Meaning.{State, Locations, same_loc, put_if, as_type, with_held, values, wrote, lin_act, passes_frame, after_label, linear_start}
use Rattle.lin_ir.specs.Walks as walks
use Rattle.lin_ir.specs.Walks.{StandsAsLine, Reached, at_entry, by_step, by_raise}
use Rattle.lin_ir.specs.declared.lin.Flow.TheVariants as flow
use Rattle.lin_ir.specs.declared.lin.LinOp.TheVariants as lin
use Rattle.lin_ir.specs.declared.lin.Line.{Line}
use Rattle.lin_ir.specs.declared.lin.Lin.{Lin}
use Rattle.lin_ir.specs.declared.lin.Spot.{Spot}
use Rattle.linearise_rules.specs.Kept as kept
use Rattle.linearise_rules.specs.Kept.{lossless_line_step, ValsHeld}
use Rattle.linearise_rules.proofs.Homes.{in_of, contains_of}
use Rattle.linearise_rules.proofs.Walked.{Tail, tail_next, tail_stands, reached_tail, reached_stands}
use Rattle.mach_ir.specs.declared.mach.MachOp.{MachOp}
use Rattle.mach_ir.specs.declared.op.Op.TheVariants as op
use Rattle.mach_ir.specs.declared.op.Pure.TheVariants as pure
use Rattle.linearise_rules.proofs.Known.{same_loc_is}
use Rattle.lin_tidy_rules.specs.Keeps.{SameRound, TidyBegins, KeepsLin}
use Rattle.lin_tidy_rules.specs.Leaving.{LabelsBetween, none_between, label_between, IsUseless, unreached, unread, skipped, LeavesOut}
use Rattle.lin_tidy_rules.proofs.Turns.{turns}
use Rattle.lin_tidy_rules.proofs.Simulate.{Arrives, both_continue, first_stuck, goes_alone, Answers, stays, stuck, steps, Closed, Leads, acts, begins_alike}
use Rattle.lin_tidy_rules.proofs.Leaving.{K, rest, useless_landing, there, target_rest, handler_rest, live_across, no_addr_rest, in_code}

module _ (c : ActivationSetting) (m : Lin) (goes : ℕ → Bool)
    (each : (i : Line) (next : List Line) → StandsAsLine i next m.code → goes (length next) ≡ true → IsUseless m i next) where
  abbrev R : Lin
  R = rest m goes each

  abbrev L : List Line → List Line
  L = K m goes each

  abbrev at : List Line → Locations → Around → State
  at is f a = record { rest = is; file = f; around = a }

  -- the same is held, and the second is before what stays of the first's code
  data Rel : State → State → Type 0 where
    rel : {is js : List Line} {f : Locations} {a : Around} → Reached m is a.tries → L is ≡ js → Rel (at is f a) (at js f a)
    -- the second has labels to pass
    lags : {s : State} {k : ℕ} {js : List Line} {f : Locations} {a : Around} → Rel s (at js f a) → Rel s (at (bare_flow (flow.Label k) ∷ js) f a)

  abbrev Answer : State → Step State → Type 0
  Answer = Answers c m (lossless_line_step c R) (ValsHeld c R) SameRound Rel

  abbrev Arrive : Step State → Step State → Type 0
  Arrive = Arrives c m (lossless_line_step c R) (ValsHeld c R) SameRound Rel

  module _ (i : Line) (next : List Line) (f : Locations) (a : Around) (reached : Reached m (i ∷ next) a.tries) where
    leads : Leads c m (lossless_line_step c R) (ValsHeld c R) SameRound Rel R i next (L next) f f a.tries
    leads =
        record {
          on = λ vs to b f' o e u. (
            f',
            u,
            rel (subst (Reached m _) (sym e) (by_step reached (walks.goes to o)))
                (target_rest m goes each next (L next) refl to),
          );
          bare = λ to b n o e. rel (subst (Reached m _) (sym e) (by_step reached (walks.goes to o))) (target_rest m goes each next (L next) refl to);
          aside = λ h b raise e. rel (by_raise (subst (Reached m (i ∷ next)) e reached) (walks.raises raise)) (handler_rest m goes each h);
        }

    held_back : ValsHeld c m (at (i ∷ next) f a) → ValsHeld c R (at (i ∷ L next) f a)
    held_back vals =
        record {
          held = λ k ks same frame l w.
              let head : i ≡ k = head_same same in
              let tail : L next ≡ ks = tail_same same in
              vals.held i next refl (ap (λ (x : Line). passes_frame x.op) head ∙ frame) l
              (live_across m goes each
              (subst (λ x. walks.LiveAcross R l comp.Val x (L next) a.tries) (sym head)
              (subst (λ xs. walks.LiveAcross R l comp.Val k xs a.tries) (sym tail) w)) next refl (there reached));
        }

    stays_line : ValsHeld c m (at (i ∷ next) f a) → Answer (at (i ∷ L next) f a) (lossless_line_step c m (at (i ∷ next) f a))
    stays_line vals = steps (held_back vals) (by (values c.setting.end f i.args))
      where
        by : (o : Option (List Value)) → Arrive (kept.on_lossless_line_values c m i next f a o) (kept.on_lossless_line_values c R i (L next) f a o)
        by None = first_stuck
        by (Some vs) = acts c m (lossless_line_step c R) (ValsHeld c R) SameRound Rel R i next (L next) f f a leads (lin_act c.setting i.op vs a) (turns c.setting i.op vs a)

  -- a move of a location to itself leaves all as it was
  same_file : (f : Locations) (from to : Loc) (v : Value) → from ≡ to → f from ≡ Some v → (λ (l : Loc). cond (same_loc to l) (Some v) (f l)) ≡ f
  same_file f from to v same e = λ i l. at_loc l i
    where
      at_loc : (l : Loc) → cond (same_loc to l) (Some v) (f l) ≡ f l
      at_loc l = by (same_loc to l) refl
        where
          by : (b : Bool) → same_loc to l ≡ b → cond b (Some v) (f l) ≡ f l
          by false s = refl
          by true s = sym e ∙ ap f (same ∙ same_loc_is to l s)

  moves : {i : Line} {from to : Spot} → IsSelfMove i from to → (next js : List Line) (f : Locations) (a : Around) → L next ≡ js → Reached m next a.tries →
      Answer (at js f a) (lossless_line_step c m (at (i ∷ next) f a))
  moves (is_self_move {kind = kind} {from = from} {to = to} same) next js f a e reached = by (f from.loc) refl
    where
      put : (v : Value) → f from.loc ≡ Some v → (b : Bool) → Answer (at js f a) (wrote next a (put_if b to v (Some f)))
      put v u false = stuck
      put v u true =
          stays
          (subst (λ g. Rel (at next g a) (at js f a)) (sym (same_file f from.loc to.loc v same u)) (rel reached e))

      read : (v : Value) → f from.loc ≡ Some v → (b : Bool) → Answer (at js f a)
          (kept.on_lossless_line_values c m (record { op = lin.Op (op.Pure (pure.Copy kind)); args = from ∷ []; results = to ∷ [] }) next f a (as_type b v (Some [])))
      read v u false = stuck
      read v u true = put v u (fits c.setting.end (type_of_comp to.comp) v)

      by : (o : Option Value) → f from.loc ≡ o → Answer (at js f a)
          (kept.on_lossless_line_values c m (record { op = lin.Op (op.Pure (pure.Copy kind)); args = from ∷ []; results = to ∷ [] }) next f a
          (with_held c.setting.end from.comp o (Some [])))
      by None u = stuck
      by (Some v) u = read v u (fits c.setting.end (type_of_comp from.comp) v)

  -- where the second has labels to pass, it passes them
  as_arrives : {u : State} {x : Step State} → Answer u x → Arrive x (Continues u)
  as_arrives (stays r) = both_continue r
  as_arrives stuck = first_stuck
  as_arrives (steps fair a) = goes_alone fair a

  label_calm : (k : ℕ) (js : List Line) (f : Locations) (a : Around) → ValsHeld c R (at (bare_flow (flow.Label k) ∷ js) f a)
  label_calm k js f a =
      record {
        held = λ i next same frame l w. absurd
            (true≢false (sym frame ∙ ap (λ (x : Line). passes_frame x.op) (sym (head_same same))));
      }

  lagging : (k : ℕ) (js : List Line) (f : Locations) (a : Around) {x : Step State} → Answer (at js f a) x → Answer (at (bare_flow (flow.Label k) ∷ js) f a) x
  lagging k js f a y = steps (label_calm k js f a) (as_arrives y)

  -- the place after a jump that is skipped, and the labels before it
  past : {a b : List Line} (f : Locations) (around : Around) → LabelsBetween a b → Tail a m.code → Reached m b around.tries → Rel (at b f around)
      (at (L a) f around)
  past f around none_between w r = rel r refl
  past f around (label_between {l = k} {next = next} {to = to} p) w r =
      subst (λ g. Rel (at to f around) (at (cond g (L next) (bare_flow (flow.Label k) ∷ L next)) f around)) (sym (label_stays (goes (length next)) refl))
      (lags (past f around p (tail_next w) r))
    where
      label_stays : (g : Bool) → goes (length next) ≡ g → goes (length next) ≡ false
      label_stays false u = u
      label_stays true u = absurd (true≢false (useless_landing (each (bare_flow (flow.Label k)) next (tail_stands w) u)))

  jumps : {i : Line} {k : ℕ} → i ≡ bare_flow (flow.Jump k) → (next js : List Line) (f : Locations) (a : Around) → LabelsBetween next (after_label k m.code) →
      L next ≡ js → Reached m (i ∷ next) a.tries →
      Answer (at js f a) (lossless_line_step c m (at (i ∷ next) f a))
  jumps {i} {k} same next js f a p e r =
      subst (λ x. Answer (at js f a) (lossless_line_step c m (at (x ∷ next) f a))) (sym same)
      (stays
      (subst (λ xs. Rel (at (after_label k m.code) f a) (at xs f a)) e
      (past f a p (tail_next (reached_tail m r)) (by_step (subst (λ x. Reached m (x ∷ next) a.tries) same r) (walks.goes (At k) this)))))

  closed : Closed c m (lossless_line_step c R) (ValsHeld c R) SameRound Rel
  closed = record { around = λ s u r. around_same s u r; next = λ s u r vals. next_same s u r vals }
    where
      around_same : (s u : State) → Rel s u → s.around ≡ u.around
      around_same s u (rel r e) = refl
      around_same s u (lags {s = v} {js = js} {f = f} {a = a} y) = around_same v (at js f a) y

      useless_line : (i : Line) (next js : List Line) (f : Locations) (a : Around) → Reached m (i ∷ next) a.tries → L next ≡ js → IsUseless m i next →
          Answer (at js f a) (lossless_line_step c m (at (i ∷ next) f a))
      useless_line i next js f a r e (unreached n out) = absurd (out a.tries r)
      useless_line i next js f a r e (unread z dead) = moves z next js f a e (goes_past z r)
        where
          goes_past : {i : Line} {from to : Spot} → IsSelfMove i from to → Reached m (i ∷ next) a.tries → Reached m next a.tries
          goes_past (is_self_move same) r = by_step r (walks.goes On this)
      useless_line i next js f a r e (skipped same p) = jumps same next js f a p e r

      from_line : (i : Line) (next js : List Line) (f : Locations) (a : Around) → Reached m (i ∷ next) a.tries → ValsHeld c m (at (i ∷ next) f a) →
          (b : Bool) → goes (length next) ≡ b →
          cond b (L next) (i ∷ L next) ≡ js → Answer (at js f a) (lossless_line_step c m (at (i ∷ next) f a))
      from_line i next js f a r vals false s e = subst (λ xs. Answer (at xs f a) (lossless_line_step c m (at (i ∷ next) f a))) e (stays_line i next f a r vals)
      from_line i next js f a r vals true s e = useless_line i next js f a r e (each i next (reached_stands m r) s)

      next_same : (s u : State) → Rel s u → ValsHeld c m s → Answer u (lossless_line_step c m s)
      next_same s u (lags {s = v} {k = k} {js = js} {f = f} {a = a} y) vals = lagging k js f a (next_same v (at js f a) y vals)
      next_same s u (rel {is = []} r e) vals = stuck
      next_same s u (rel {is = i ∷ next} {js = js} {f = f} {a = a} r e) vals = from_line i next js f a r vals (goes (length next)) refl e

  rest_begins : (arguments : List Value) (memory : Memory) (doings : List Doing) (s : State) → linear_start c m arguments memory ≡ Some s →
      TidyBegins SameRound c m R arguments memory doings s
  rest_begins = begins_alike c m R refl SameRound Rel closed (λ f memory. rel at_entry refl)

module _ (m : Lin) (goes : ℕ → Bool) (each : (i : Line) (next : List Line) → StandsAsLine i next m.code → goes (length next) ≡ true → IsUseless m i next) where
  named_before : (Named : MachOp → Type 0) → IsNamedIn Named (rest m goes each) → IsNamedIn Named m
  named_before Named n =
      record {
        line = n.line;
        among = contains_of (in_code m goes each n.line m.code (in_of n.line (K m goes each m.code) n.among));
        op = n.op;
        is = n.is;
        named = n.named;
      }

  rest_keeps : KeepsLin SameRound m (rest m goes each)
  rest_keeps =
      record {
        name = refl;
        result = refl;
        does = λ c arguments memory doings s e. rest_begins c m goes each arguments memory doings s e;
        symbols = λ name n. named_before _ n;
        externals = λ row n. named_before _ n;
        addrs = no_addr_rest m goes each;
      }

-- Without lines that have no use a function does what it did.
pub leaving_keeps : {m r : Lin} → LeavesOut m r → KeepsLin SameRound m r
leaving_keeps {m} h = subst (KeepsLin SameRound m) (sym h.is) (rest_keeps m h.goes h.each)
