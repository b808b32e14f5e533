-- Walks come to what is left when lines without use have gone, as they did before.
use Rattle.std.proofs.Common.{◌≡◌, ℕ, Bool, true, false, cond, List, [], ◌∷◌, length, refl, sym, ap, ◌∙◌, subst}
use Rattle.std.proofs.lemmas.Bool.{true≢false}
use Rattle.std.specs.List.{Contains}
use Rattle.bs_words.specs.declared.types.Comp.{Comp}
use Rattle.bs_words.specs.declared.types.Loc.{Loc}
use Rattle.bs_words.proofs.Lists.{none_in}
use Rattle.mach_ir.specs.Acts.{Target, On, At}
use Rattle.mach_ir.specs.Walks.{OneOf, this, other}
use Rattle.lin_ir.specs.Formed.{IsSelfMove, is_self_move, bare_flow}
use Rattle.lin_ir.specs.Meaning.{after_label, code_at}
use Rattle.lin_ir.specs.Walks as walks
use Rattle.lin_ir.specs.Walks.{targets, may_raise, tries_after, StandsAsLine, here, below, Writes, ReadsLocationAs, Reached, at_entry, by_step, by_raise, Live, read, on, aside}
use Rattle.lin_ir.specs.declared.lin.Flow.TheVariants as flow
use Rattle.lin_ir.specs.declared.lin.Line.{Line}
use Rattle.lin_ir.specs.declared.lin.Lin.{Lin}
use Rattle.lin_ir.specs.declared.lin.Spot.{Spot}
use Rattle.linearise_rules.proofs.Walked.{Tail, tail_next, tail_stands, reached_tail}
use Rattle.lin_tidy_rules.specs.Leaving.{LabelsBetween, none_between, label_between, IsUseless, unreached, unread, skipped, without_lines}
use Rattle.lin_tidy_rules.proofs.Leaving.{rest, self_goes, target_rest, handler_rest}
use Rattle.lin_tidy_rules.proofs.Shape.{landing_stays}
use Rattle.lin_tidy_rules.specs.Regular.{IsReadBehind}
use Rattle.lin_tidy_rules.proofs.Redirecting.{label_unwritten}
use Rattle.lin_unused.specs.Forms.{IsNoSelfMove}
use Rattle.lin_unused.proofs.Useful.{only_on}

self_calm : {i : Line} {from to : Spot} → IsSelfMove i from to → may_raise i.op ≡ false
self_calm (is_self_move same) = refl

jump_to : (k : ℕ) (t : Target) → OneOf t (At k ∷ []) → t ≡ At k
jump_to k t this = refl
jump_to k t (other o) = elim o [ ]

module _ (m : Lin) (goes : ℕ → Bool) (each : (i : Line) (next : List Line) → StandsAsLine i next m.code → goes (length next) ≡ true → IsUseless m i next) where
  abbrev R : Lin
  R = rest m goes each

  abbrev K : List Line → List Line
  K = without_lines goes

  past_labels : {a b : List Line} {tries : List ℕ} → Tail a m.code → LabelsBetween a b → Reached R (K a) tries → Reached R (K b) tries
  past_labels w none_between r = r
  past_labels {tries = tries} w (label_between {l = l} {next = next} p) r =
      past_labels (tail_next w) p
      (by_step
      (subst (λ b. Reached R (cond b (K next) (bare_flow (flow.Label l) ∷ K next)) tries)
      (landing_stays m goes each (bare_flow (flow.Label l)) next (tail_stands w) refl) r) (walks.goes On this))

  module _ (i : Line) (next : List Line) (tries : List ℕ) (r : Reached m (i ∷ next) tries) (k : Reached R (K (i ∷ next)) tries) where
    tail : Tail (i ∷ next) m.code
    tail = reached_tail m r

    as_goes : (b : Bool) → goes (length next) ≡ b → Reached R (cond b (K next) (i ∷ K next)) tries
    as_goes b s = subst (λ b. Reached R (cond b (K next) (i ∷ K next)) tries) s k

    step_gone : (t : Target) → OneOf t (targets i.op) → Reached R (K next) tries → IsUseless m i next →
        Reached R (K (code_at m.code next t)) (tries_after i.op tries)
    step_gone t o x (unreached n out) = absurd (out tries r)
    step_gone t o x (unread z dead) =
        subst (λ t. Reached R (K (code_at m.code next t)) (tries_after i.op tries)) (sym (only_on z o))
        (subst (Reached R (K next)) (sym ((self_goes z).tries tries)) x)
    step_gone t o x (skipped {l = l} same past) =
        subst (λ (j : Line). Reached R (K (code_at m.code next t)) (tries_after j.op tries)) (sym same)
        (subst (λ t. Reached R (K (code_at m.code next t)) tries) (sym (jump_to l t (subst (λ (j : Line). OneOf t (targets j.op)) same o)))
        (past_labels (tail_next tail) past x))

    step_left : (t : Target) → OneOf t (targets i.op) → (b : Bool) → goes (length next) ≡ b →
        Reached R (K (code_at m.code next t)) (tries_after i.op tries)
    step_left t o true s = step_gone t o (as_goes true s) (each i next (tail_stands tail) s)
    step_left t o false s =
        subst (λ xs. Reached R xs (tries_after i.op tries)) (sym (target_rest m goes each next (K next) refl t))
        (by_step (as_goes false s) (walks.goes t o))

    raise_gone : may_raise i.op ≡ true → IsUseless m i next → ⊥
    raise_gone e (unreached n out) = out tries r
    raise_gone e (unread z dead) = true≢false (sym e ∙ self_calm z)
    raise_gone e (skipped same past) = true≢false (sym e ∙ ap (λ (j : Line). may_raise j.op) same)

  raise_left : (i : Line) (next : List Line) (h : ℕ) (tries : List ℕ) → Reached m (i ∷ next) (h ∷ tries) → Reached R (K (i ∷ next)) (h ∷ tries) →
      may_raise i.op ≡ true → (b : Bool) → goes (length next) ≡ b → Reached R (K (after_label h m.code)) tries
  raise_left i next h tries r k e true s =
      absurd (raise_gone i next (h ∷ tries) r k e (each i next (tail_stands (reached_tail m r)) s))
  raise_left i next h tries r k e false s =
      subst (λ xs. Reached R xs tries) (sym (handler_rest m goes each h))
      (by_raise (as_goes i next (h ∷ tries) r k false s) (walks.raises e))

  -- a walk of the function, without the lines that go
  pub walk_left : {code : List Line} {tries : List ℕ} → Reached m code tries → Reached R (K code) tries
  walk_left at_entry = at_entry
  walk_left (by_step {i = i} {next = next} {tries = tries} r (walks.goes t o)) =
      step_left i next tries r (walk_left r) t o (goes (length next)) refl
  walk_left (by_raise {i = i} {next = next} r (walks.raises {h = h} {tries = tries} e)) =
      raise_left i next h tries r (walk_left r) e (goes (length next)) refl

  -- to a line that stays
  pub line_left : {i : Line} {next : List Line} {tries : List ℕ} → goes (length next) ≡ false → Reached m (i ∷ next) tries → Reached R (i ∷ K next) tries
  line_left {i} {next} {tries} stays r = subst (λ b. Reached R (cond b (K next) (i ∷ K next)) tries) stays (walk_left r)

  -- ---- what is live, where no move of a location to itself goes

  module _ (still : (i : Line) (next : List Line) → StandsAsLine i next m.code → goes (length next) ≡ true → IsNoSelfMove i) where
    past_live : {l : Loc} {t : Comp} {a b : List Line} {tries : List ℕ} → Tail a m.code → LabelsBetween a b → Live R l t (K b) tries → Live R l t (K a) tries
    past_live w none_between v = v
    past_live {l} {t} {tries = tries} w (label_between {l = k} {next = next} p) v =
        subst (λ b. Live R l t (cond b (K next) (bare_flow (flow.Label k) ∷ K next)) tries)
        (sym (landing_stays m goes each (bare_flow (flow.Label k)) next (tail_stands w) refl))
        (on (label_unwritten k l) (walks.goes On this) (past_live (tail_next w) p v))

    module _ (l : Loc) (t : Comp) (i : Line) (next : List Line) (tries : List ℕ) (r : Reached m (i ∷ next) tries) where
      as_stays : (b : Bool) → goes (length next) ≡ b → Live R l t (cond b (K next) (i ∷ K next)) tries → Live R l t (K (i ∷ next)) tries
      as_stays b s = subst (λ b. Live R l t (cond b (K next) (i ∷ K next)) tries) (sym s)

      stands : StandsAsLine i next m.code
      stands = tail_stands (reached_tail m r)

      read_gone : ReadsLocationAs l t i → goes (length next) ≡ true → IsUseless m i next → ⊥
      read_gone x s (unreached n out) = out tries r
      read_gone x s (unread {from = from} {to = to} z dead) = still i next stands s from to z
      read_gone x s (skipped same past) =
          none_in (record { loc = l; comp = t }) (subst (λ (j : Line). Contains j.args (record { loc = l; comp = t })) same x)

      read_stays : ReadsLocationAs l t i → (b : Bool) → goes (length next) ≡ b → Live R l t (K (i ∷ next)) tries
      read_stays x true s = absurd (read_gone x s (each i next stands s))
      read_stays x false s = as_stays false s (read x)

      on_gone : (k : Target) → OneOf k (targets i.op) → Live R l t (K (code_at m.code next k)) (tries_after i.op tries) → goes (length next) ≡ true →
          IsUseless m i next → Live R l t (K next) tries
      on_gone k o v s (unreached n out) = absurd (out tries r)
      on_gone k o v s (unread {from = from} {to = to} z dead) = absurd (still i next stands s from to z)
      on_gone k o v s (skipped {l = j} same past) =
          past_live (tail_next (reached_tail m r)) past
          (subst (λ (k : Target). Live R l t (K (code_at m.code next k)) tries) (jump_to j k (subst (λ (i : Line). OneOf k (targets i.op)) same o))
          (subst (λ (i : Line). Live R l t (K (code_at m.code next k)) (tries_after i.op tries)) same v))

      on_stays : (Writes i l → ⊥) → (k : Target) → OneOf k (targets i.op) → Live R l t (K (code_at m.code next k)) (tries_after i.op tries) →
          (b : Bool) → goes (length next) ≡ b → Live R l t (K (i ∷ next)) tries
      on_stays free k o v true s = as_stays true s (on_gone k o v s (each i next stands s))
      on_stays free k o v false s =
          as_stays false s
          (on free (walks.goes k o)
          (subst (λ xs. Live R l t xs (tries_after i.op tries)) (target_rest m goes each next (K next) refl k) v))

    aside_stays : (l : Loc) (t : Comp) (i : Line) (next : List Line) (h : ℕ) (tries : List ℕ) (r : Reached m (i ∷ next) (h ∷ tries)) →
        may_raise i.op ≡ true → Live R l t (K (after_label h m.code)) tries → (b : Bool) → goes (length next) ≡ b →
        Live R l t (K (i ∷ next)) (h ∷ tries)
    aside_stays l t i next h tries r e v true s =
        absurd (raise_gone i next (h ∷ tries) r (walk_left r) e (each i next (tail_stands (reached_tail m r)) s))
    aside_stays l t i next h tries r e v false s =
        as_stays l t i next (h ∷ tries) r false s
        (aside (walks.raises e) (subst (λ xs. Live R l t xs tries) (handler_rest m goes each h) v))

    -- what was live where a walk comes
    live_left : {l : Loc} {t : Comp} {code : List Line} {tries : List ℕ} → Live m l t code tries → Reached m code tries → Live R l t (K code) tries
    live_left {l} {t} (read {i = i} {next = next} {tries = tries} x) r = read_stays l t i next tries r x (goes (length next)) refl
    live_left {l} {t} (on {i = i} {next = next} {tries = tries} free (walks.goes k o) v) r =
        on_stays l t i next tries r free k o (live_left v (by_step r (walks.goes k o))) (goes (length next)) refl
    live_left {l} {t} (aside {i = i} {next = next} (walks.raises {h = h} {tries = tries} e) v) r =
        aside_stays l t i next h tries r e (live_left v (by_raise r (walks.raises e))) (goes (length next)) refl

    -- a move of a location to itself is read as before
    pub read_left : {i : Line} {next : List Line} {from to : Spot} → goes (length next) ≡ false → IsSelfMove i from to → IsReadBehind m i next to →
        IsReadBehind R i (K next) to
    read_left {i} {next} stays z y =
        let g = self_goes z in
        record {
          tries = y.tries;
          reached = line_left stays y.reached;
          type = y.type;
          live = live_left y.live (subst (Reached m next) (g.tries y.tries) (by_step y.reached (walks.goes On g.on)));
        }

-- ---- a line that is left, where it was

pub record Was (goes : ℕ → Bool) (j : Line) (js code : List Line) : Type 0 where
  pub next : List Line
  pub stands : StandsAsLine j next code
  pub stays : goes (length next) ≡ false
  pub same : without_lines goes next ≡ js

module _ (goes : ℕ → Bool) where
  first_was : {i j : Line} {ks js : List Line} (next : List Line) → without_lines goes next ≡ ks → goes (length next) ≡ false → StandsAsLine j js (i ∷ ks) →
      (StandsAsLine j js ks → Was goes j js (i ∷ next)) → Was goes j js (i ∷ next)
  first_was next e stays here ih = record { next = next; stands = here; stays = stays; same = e }
  first_was next e stays (below s) ih = ih s

  pub was : {j : Line} {js : List Line} (code : List Line) → StandsAsLine j js (without_lines goes code) → Was goes j js code
  was [] s = elim s [ ]
  was {j} {js} (i ∷ next) s = by (goes (length next)) refl s (was next)
    where
      lower : Was goes j js next → Was goes j js (i ∷ next)
      lower y = record { next = y.next; stands = below y.stands; stays = y.stays; same = y.same }

      by : (b : Bool) → goes (length next) ≡ b → StandsAsLine j js (cond b (without_lines goes next) (i ∷ without_lines goes next)) →
          (StandsAsLine j js (without_lines goes next) → Was goes j js next) → Was goes j js (i ∷ next)
      by true e s ih = lower (ih s)
      by false e s ih = first_was next refl e s (λ s. lower (ih s))
