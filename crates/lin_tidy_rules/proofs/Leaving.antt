-- Where walks come in the code without lines that have no use, and what is live there.
use Rattle.std.proofs.Common.{◌≡◌, ℕ, Bool, true, false, cond, ⊎_elim, List, [], ◌∷◌, length, refl, sym, ap, ◌∙◌, subst}
use Rattle.std.proofs.lemmas.Bool.{true≢false}
use Rattle.std.specs.List.{Contains}
use Rattle.bs_words.specs.declared.types.Comp.{Comp}
use Rattle.bs_words.specs.declared.types.Loc.{Loc}
use Rattle.bs_words.proofs.Lists.{none_in, in_cons, head_same, tail_same, none_there}
use Rattle.mach_ir.specs.Acts.{Target, On, At}
use Rattle.mach_ir.specs.Walks.{OneOf, this, other}
use Rattle.lin_ir.specs.Formed.{IsSelfMove, is_self_move, bare_flow}
use Rattle.lin_ir.specs.Meaning.{has_label, after_label, code_at, passes_frame}
use Rattle.lin_ir.specs.Walks as walks
use Rattle.lin_ir.specs.Walks.{targets, may_raise, tries_after, Writes, StandsAsLine, Reached, at_entry, by_step, by_raise, Live, read, on, aside, LiveAcross, across_step, across_raise}
use Rattle.lin_ir.specs.declared.lin.Flow.{Flow}
use Rattle.lin_ir.specs.declared.lin.Flow.TheVariants as flow
use Rattle.lin_ir.specs.declared.lin.LinOp.{LinOp}
use Rattle.lin_ir.specs.declared.lin.LinOp.TheVariants as lin
use Rattle.lin_ir.specs.declared.lin.Line.{Line}
use Rattle.lin_ir.specs.declared.lin.Lin.{Lin}
use Rattle.lin_ir.specs.declared.lin.Spot.{Spot}
use Rattle.linearise_rules.proofs.Homes.{IsIn, is_first, is_later}
use Rattle.linearise_rules.proofs.Walked.{Tail, tail_all, tail_next, tail_stands, reached_tail}
use Rattle.linearise_rules.specs.Keeps.{NoAddrReached, OneTraps}
use Rattle.lin_tidy_rules.specs.Leaving.{is_landing, LabelsBetween, none_between, label_between, IsUseless, unreached, unread, skipped, without_lines, with_code}

-- ---- moves of a location to itself

pub record GoesOn (i : Line) (to : Spot) : Type 0 where
  pub on : OneOf On (targets i.op)
  pub tries : (ts : List ℕ) → tries_after i.op ts ≡ ts
  pub writes : (l : Loc) → Writes i l → to.loc ≡ l
  pub calm : passes_frame i.op ≡ false

pub self_goes : {i : Line} {from to : Spot} → IsSelfMove i from to → GoesOn i to
self_goes (is_self_move {from = from} {to = to} same) =
    record {
      on = this;
      tries = λ ts. refl;
      writes = λ l w. ⊎_elim (λ y. by l y.0 y.1) (λ e. absurd (true≢false (sym e))) w;
      calm = refl;
    }
  where
    by : (l : Loc) (t : Comp) → Contains (to ∷ []) (record { loc = l; comp = t }) → to.loc ≡ l
    by l t c = ⊎_elim (λ e. ap (λ (s : Spot). s.loc) e) (λ d. absurd (none_in (record { loc = l; comp = t }) d))
        (in_cons to (record { loc = l; comp = t }) [] c)

-- ---- labels

no_landing : (l : ℕ) (f : LinOp) → is_landing f ≡ false → has_label l f ≡ false
no_landing l (lin.Op f) e = refl
no_landing l (lin.Flow (flow.Label k)) e = absurd (true≢false e)
no_landing l (lin.Flow (flow.Jump k)) e = refl
no_landing l (lin.Flow (flow.Exit k)) e = refl
no_landing l (lin.Flow (flow.Branch t k)) e = refl
no_landing l (lin.Flow (flow.Switch ls)) e = refl
no_landing l (lin.Flow (flow.PushTrap k)) e = refl
no_landing l (lin.Flow flow.PopTrap) e = refl
no_landing l (lin.Flow flow.EnterTrap) e = refl

pub useless_landing : {m : Lin} {i : Line} {next : List Line} → IsUseless m i next → is_landing i.op ≡ false
useless_landing (unreached n out) = n
useless_landing (unread (is_self_move same) dead) = refl
useless_landing (skipped same past) = ap (λ (i : Line). is_landing i.op) same

pub frame_landing : (f : LinOp) → passes_frame f ≡ true → is_landing f ≡ false
frame_landing (lin.Op f) e = refl
frame_landing (lin.Flow f) e = absurd (true≢false (sym e))

pub raise_landing : (f : LinOp) → may_raise f ≡ true → is_landing f ≡ false
raise_landing (lin.Op f) e = refl
raise_landing (lin.Flow f) e = absurd (true≢false (sym e))

-- ---- lines with no operands

bare_unread : (f : Flow) (l : Loc) (t : Comp) {A : Type 0} → walks.ReadsLocationAs l t (bare_flow f) → A
bare_unread f l t x = absurd (none_in (record { loc = l; comp = t }) x)

pub jump_unwritten : (k : ℕ) (l : Loc) → Writes (bare_flow (flow.Jump k)) l → ⊥
jump_unwritten k l w = ⊎_elim (λ y. none_in (record { loc = l; comp = y.0 }) y.1) (λ e. true≢false (sym e)) w

-- what is live before labels is live after them
label_live : {m : Lin} {k : ℕ} {l : Loc} {t : Comp} {next : List Line} {tries : List ℕ} → Live m l t (bare_flow (flow.Label k) ∷ next) tries → Live m l t next tries
label_live {k = k} {l = l} {t = t} (read x) = bare_unread (flow.Label k) l t x
label_live (on free (walks.goes On o) v) = v
label_live (on free (walks.goes (At j) (other o)) v) = elim o [ ]
label_live (aside (walks.raises e) v) = absurd (true≢false (sym e))

labels_live : {m : Lin} {l : Loc} {t : Comp} {a b : List Line} {tries : List ℕ} → LabelsBetween a b → Live m l t a tries → Live m l t b tries
labels_live none_between v = v
labels_live (label_between p) v = labels_live p (label_live v)

-- ---- walks, and labels that are passed before a place to which one comes

pub data Comes (m : Lin) : List Line → List ℕ → Type 0 where
  there : {code : List Line} {tries : List ℕ} → Reached m code tries → Comes m code tries
  before : {l : ℕ} {next : List Line} {tries : List ℕ} → Tail (bare_flow (flow.Label l) ∷ next) m.code → Comes m next tries → Comes m
      (bare_flow (flow.Label l) ∷ next) tries

pub comes_tail : {m : Lin} {code : List Line} {tries : List ℕ} → Comes m code tries → Tail code m.code
comes_tail {m} (there r) = reached_tail m r
comes_tail (before w c) = w

pub comes_line : {m : Lin} {j : Line} {next : List Line} {tries : List ℕ} → Comes m (j ∷ next) tries → is_landing j.op ≡ false → Reached m (j ∷ next) tries
comes_line (there r) e = r
comes_line (before w c) e = absurd (true≢false e)

comes_step : {m : Lin} {j : Line} {next : List Line} {tries : List ℕ} → Comes m (j ∷ next) tries → (t : Target) → OneOf t (targets j.op) → Comes m
    (code_at m.code next t) (tries_after j.op tries)
comes_step (there r) t o = there (by_step r (walks.goes t o))
comes_step (before w c) On o = c
comes_step (before w c) (At k) (other o) = elim o [ ]

comes_aside : {m : Lin} {j : Line} {next : List Line} {h : ℕ} {tries : List ℕ} → Comes m (j ∷ next) (h ∷ tries) → may_raise j.op ≡ true → Comes m
    (after_label h m.code) tries
comes_aside {j = j} c e = there (by_raise (comes_line c (raise_landing j.op e)) (walks.raises e))

comes_past : {m : Lin} {a b : List Line} {tries : List ℕ} → LabelsBetween a b → Tail a m.code → Comes m b tries → Comes m a tries
comes_past none_between w c = c
comes_past (label_between p) w c = before w (comes_past p (tail_next w) c)

label_moves : {m : Lin} {l : ℕ} {next : List Line} {tries : List ℕ} → Reached m (bare_flow (flow.Label l) ∷ next) tries → Reached m next tries
label_moves r = by_step r (walks.goes On this)

comes_as : {m : Lin} {code : List Line} {tries others : List ℕ} → OneTraps m → Comes m code tries → Reached m code others → tries ≡ others
comes_as {code = code} {tries = tries} {others = others} traps (there r) s = traps.one code tries others r s
comes_as traps (before w c) s = comes_as traps c (label_moves s)

pub comes_same : {m : Lin} {code : List Line} {tries others : List ℕ} → OneTraps m → Comes m code tries → Comes m code others → tries ≡ others
comes_same traps c (there s) = comes_as traps c s
comes_same traps (there r) (before w d) = sym (comes_as traps d (label_moves r))
comes_same traps (before w c) (before x d) = comes_same traps c d

module _ (m : Lin) (goes : ℕ → Bool) (each : (i : Line) (next : List Line) → StandsAsLine i next m.code → goes (length next) ≡ true → IsUseless m i next) where
  abbrev pub K : List Line → List Line
  K = without_lines goes

  abbrev pub rest : Lin
  rest = with_code m (K m.code)

  pub label_without : (l : ℕ) (is : List Line) → Tail is m.code → after_label l (K is) ≡ K (after_label l is)
  label_without l [] w = refl
  label_without l (i ∷ next) w = by (goes (length next)) refl (label_without l next (tail_next w))
    where
      two : (b : Bool) → after_label l (K next) ≡ K (after_label l next) → cond b (K next) (after_label l (K next)) ≡ K (cond b next (after_label l next))
      two true e = refl
      two false e = e

      by : (b : Bool) → goes (length next) ≡ b → after_label l (K next) ≡ K (after_label l next) →
          after_label l (cond b (K next) (i ∷ K next)) ≡ K (cond (has_label l i.op) next (after_label l next))
      by false s e = two (has_label l i.op) e
      by true s e = e ∙ ap (λ b. K (cond b next (after_label l next))) (sym (no_landing l i.op (useless_landing (each i next (tail_stands w) s))))

  label_rest : (l : ℕ) → K (after_label l m.code) ≡ after_label l rest.code
  label_rest l = sym (label_without l m.code tail_all)

  pub target_rest : (next js : List Line) → K next ≡ js → (t : Target) → K (code_at m.code next t) ≡ code_at rest.code js t
  target_rest next js e On = e
  target_rest next js e (At l) = label_rest l

  pub handler_rest : (l : ℕ) → K (after_label l m.code) ≡ after_label l rest.code
  handler_rest l = label_rest l

  -- ---- the next line that stays

  pub record Stays (is : List Line) (j : Line) (js : List Line) (tries : List ℕ) : Type 0 where
    pub next : List Line
    pub stays : goes (length next) ≡ false
    pub same : K next ≡ js
    pub reached : Comes m (j ∷ next) tries
    pub back : (l : Loc) (t : Comp) → Live m l t (j ∷ next) tries → Live m l t is tries

  pub stayed : (is : List Line) (tries : List ℕ) → Comes m is tries → (j : Line) (js : List Line) → K is ≡ j ∷ js → Stays is j js tries
  stayed [] tries c j js e = absurd (none_there e)
  stayed (i ∷ next) tries c j js e = by (goes (length next)) refl e (λ c' u. stayed next tries c' j js u)
    where
      gone : IsUseless m i next → K next ≡ j ∷ js → (Comes m next tries → K next ≡ j ∷ js → Stays next j js tries) → Stays (i ∷ next) j js tries
      gone (unreached n out) e ih = absurd (out tries (comes_line c n))
      gone (unread {to = to} z dead) e ih =
          let g = self_goes z in
          let r : Reached m (i ∷ next) tries = comes_line c (useless_landing {m = m} {next = next} (unread z dead)) in
          let y = ih (there (subst (Reached m next) (g.tries tries) (by_step r (walks.goes On g.on)))) e in
          record {
            next = y.next;
            stays = y.stays;
            same = y.same;
            reached = y.reached;
            back = λ l t v.
                let w = y.back l t v in
                on (λ x. dead tries r t (subst (λ l. Live m l t next tries) (sym (g.writes l x)) w)) (walks.goes On g.on)
                (subst (λ ts. Live m l t next ts) (sym (g.tries tries)) w);
          }
      gone (skipped {l = k} same past) e ih =
          let r : Reached m (bare_flow (flow.Jump k) ∷ next) tries = subst (λ x. Reached m (x ∷ next) tries) same
          (comes_line c (ap (λ (i : Line). is_landing i.op) same)) in
          let y = ih (comes_past past (tail_next (comes_tail c)) (there (by_step r (walks.goes (At k) this)))) e in
          record {
            next = y.next;
            stays = y.stays;
            same = y.same;
            reached = y.reached;
            back = λ l t v.
                subst (λ x. Live m l t (x ∷ next) tries) (sym same) (on (jump_unwritten k l) (walks.goes (At k) this) (labels_live past (y.back l t v)));
          }

      by : (b : Bool) → goes (length next) ≡ b → cond b (K next) (i ∷ K next) ≡ j ∷ js → (Comes m next tries → K next ≡ j ∷ js → Stays next j js tries) →
          Stays (i ∷ next) j js tries
      by false s e ih =
          let head : i ≡ j = head_same e in
          record {
            next = next;
            stays = s;
            same = tail_same e;
            reached = subst (λ x. Comes m (x ∷ next) tries) head c;
            back = λ l t v. subst (λ x. Live m l t (x ∷ next) tries) (sym head) v;
          }
      by true s e ih = gone (each i next (tail_stands (comes_tail c)) s) e ih

  -- ---- walks

  -- the code that is left where a walk comes
  pub record Source (js : List Line) (tries : List ℕ) : Type 0 where
    pub code : List Line
    pub same : K code ≡ js
    pub reached : Comes m code tries

  pub source : {js : List Line} {tries : List ℕ} → Reached rest js tries → Source js tries
  source at_entry = record { code = m.code; same = refl; reached = there at_entry }
  source (by_step {i = j} {next = js} {tries = tries} r (walks.goes t o)) =
      let y = source r in
      let a = stayed y.code tries y.reached j js y.same in
      record { code = code_at m.code a.next t; same = target_rest a.next js a.same t; reached = comes_step a.reached t o }
  source (by_raise {i = j} {next = js} r (walks.raises {h = h} {tries = tries} e)) =
      let y = source r in
      let a = stayed y.code (h ∷ tries) y.reached j js y.same in
      record { code = after_label h m.code; same = label_rest h; reached = comes_aside a.reached e }

  -- the line that a walk comes to, where it is in the first code
  pub source_line : {j : Line} {js : List Line} {tries : List ℕ} → (r : Reached rest (j ∷ js) tries) → Stays (source r).code j js tries
  source_line {j} {js} {tries} r = let y = source r in stayed y.code tries y.reached j js y.same

  -- what is live without those lines was live with them
  pub live_before : {l : Loc} {t : Comp} {js : List Line} {tries : List ℕ} → Live rest l t js tries → (is : List Line) → K is ≡ js → Comes m is tries →
      Live m l t is tries
  live_before {l} {t} (read {i = j} {next = js} {tries = tries} x) is e r = let a = stayed is tries r j js e in a.back l t (read x)
  live_before {l} {t} (on {i = j} {next = js} {tries = tries} free (walks.goes k o) v) is e r =
      let a = stayed is tries r j js e in
      a.back l t (on free (walks.goes k o) (live_before v (code_at m.code a.next k) (target_rest a.next js a.same k) (comes_step a.reached k o)))
  live_before {l} {t} (aside {i = j} {next = js} (walks.raises {h = h} {tries = tries} x) v) is e r =
      let a = stayed is (h ∷ tries) r j js e in
      a.back l t (aside (walks.raises x) (live_before v (after_label h m.code) (label_rest h) (comes_aside a.reached x)))

  pub live_across : {l : Loc} {t : Comp} {j : Line} {js : List Line} {tries : List ℕ} → LiveAcross rest l t j js tries → (next : List Line) → K next ≡ js →
      Comes m (j ∷ next) tries →
      LiveAcross m l t j next tries
  live_across {js = js} (across_step free (walks.goes k o) v) next e r =
      across_step free (walks.goes k o) (live_before v (code_at m.code next k) (target_rest next js e k) (comes_step r k o))
  live_across (across_raise (walks.raises {h = h} x) v) next e r =
      across_raise (walks.raises x) (live_before v (after_label h m.code) (label_rest h) (comes_aside r x))

  pub no_addr_rest : NoAddrReached m → NoAddrReached rest
  no_addr_rest h =
      record {
        none = λ j js tries r frame l w.
            let a = source_line r in h.none j a.next tries (comes_line a.reached (frame_landing j.op frame)) frame l (live_across w a.next a.same a.reached);
      }

  -- ---- lines

  -- what stays was there
  pub in_code : (j : Line) (is : List Line) → IsIn j (K is) → IsIn j is
  in_code j [] z = elim z [ ]
  in_code j (i ∷ next) z = by (goes (length next)) z (λ y. in_code j next y)
    where
      later : (k : Line) → IsIn j (k ∷ K next) → (IsIn j (K next) → IsIn j next) → IsIn j (k ∷ next)
      later k is_first ih = is_first
      later k (is_later y) ih = is_later (ih y)

      by : (b : Bool) → IsIn j (cond b (K next) (i ∷ K next)) → (IsIn j (K next) → IsIn j next) → IsIn j (i ∷ next)
      by true y ih = is_later (ih y)
      by false y ih = later i y ih
