-- Control still goes down where lines that have no use are left out: a place counts by the first line from it on that stays and is no label.
use Rattle.std.proofs.Common.{◌≡◌, ℕ, suc, ◌<◌, ◌≤◌, Bool, true, false, cond, ◌||◌, nat_le, List, [], ◌∷◌, length, refl, sym, ap, ◌∙◌, subst, arith}
use Rattle.std.proofs.lemmas.Bool.{true≢false, leb-true, le-leb}
use Rattle.mach_ir.specs.Acts.{On, At}
use Rattle.mach_ir.specs.Walks.{OneOf, this}
use Rattle.lin_ir.specs.Formed.{IsSelfMove, is_self_move, is_exit, is_label, GoesDown, bare_flow}
use Rattle.lin_ir.specs.Meaning.{after_label, code_at}
use Rattle.lin_ir.specs.Walks as walks
use Rattle.lin_ir.specs.Walks.{targets, StandsAsLine, Reached, by_step, by_raise, LineWalkStep, Raises}
use Rattle.lin_ir.specs.declared.lin.Flow.TheVariants as flow
use Rattle.lin_ir.specs.declared.lin.LinOp.{LinOp}
use Rattle.lin_ir.specs.declared.lin.LinOp.TheVariants as lin
use Rattle.lin_ir.specs.declared.lin.Line.{Line}
use Rattle.lin_ir.specs.declared.lin.Lin.{Lin}
use Rattle.linearise_rules.proofs.Walked.{Tail, tail_all, tail_more, tail_next, tail_stands, tail_label, tail_target, reached_tail}
use Rattle.lin_tidy_rules.specs.Leaving.{is_landing, LabelsBetween, none_between, label_between, IsUseless, unreached, unread, skipped}
use Rattle.lin_tidy_rules.proofs.Leaving.{self_goes, raise_landing, Comes, there, before, comes_tail, K, rest, target_rest, handler_rest, source_line}

-- a move is neither an exit nor a label
self_no_exit : {i : Line} {from to : _} → IsSelfMove i from to → is_exit i.op ≡ false
self_no_exit (is_self_move e) = refl

self_no_label : {i : Line} {from to : _} → IsSelfMove i from to → is_label i.op ≡ false
self_no_label (is_self_move e) = refl

no_label_line : (f : LinOp) → is_landing f ≡ false → is_label f ≡ false
no_label_line (lin.Op f) e = refl
no_label_line (lin.Flow (flow.Label k)) e = absurd (true≢false e)
no_label_line (lin.Flow (flow.Jump k)) e = refl
no_label_line (lin.Flow (flow.Exit k)) e = refl
no_label_line (lin.Flow (flow.Branch t k)) e = refl
no_label_line (lin.Flow (flow.Switch ls)) e = refl
no_label_line (lin.Flow (flow.PushTrap k)) e = refl
no_label_line (lin.Flow flow.PopTrap) e = refl
no_label_line (lin.Flow flow.EnterTrap) e = refl

-- only labels are passed before a place to which a walk comes
comes_there : {m : Lin} {j : Line} {next : List Line} {tries : List ℕ} → Comes m (j ∷ next) tries → is_label j.op ≡ false → Reached m (j ∷ next) tries
comes_there (there r) e = r
comes_there (before w c) e = absurd (true≢false e)

pub between_tail : {a b : List Line} → LabelsBetween a b → Tail b a
between_tail none_between = tail_all
between_tail (label_between p) = tail_more (between_tail p)

module _ (m : Lin) (goes : ℕ → Bool) (each : (i : Line) (next : List Line) → StandsAsLine i next m.code → goes (length next) ≡ true → IsUseless m i next) where
  abbrev L : List Line → List Line
  L = K m goes each

  abbrev R : Lin
  R = rest m goes each

  -- how many lines are left at the first one that stays and is no label
  abbrev solid : List Line → ℕ
  solid [] = 0
  solid (i ∷ next) = cond (goes (length next) || is_label i.op) (solid next) (suc (length next))

  -- the same, from where so many are left of those that stay
  abbrev solid_at : List Line → ℕ → ℕ
  solid_at [] n = 0
  solid_at (i ∷ next) n = cond (nat_le n (length (L next))) (solid_at next n) (solid (i ∷ next))

  solid_past : (b : Bool) (next : List Line) (i : Line) → goes (length next) ≡ b → is_label i.op ≡ true → solid (i ∷ next) ≡ solid next
  solid_past b next i e u = ap (λ t. cond (goes (length next) || t) (solid next) (suc (length next))) u ∙ by (goes (length next))
    where
      by : (b : Bool) → cond (b || true) (solid next) (suc (length next)) ≡ solid next
      by true = refl
      by false = refl

  between_solid : {a b : List Line} → LabelsBetween a b → solid a ≡ solid b
  between_solid none_between = refl
  between_solid (label_between {l = k} {next = next} p) = solid_past (goes (length next)) next (bare_flow (flow.Label k)) refl refl ∙ between_solid p

  fewer : {a b : List Line} → Tail a b → length (L a) ≤ length (L b)
  fewer {a} tail_all = omega arith
  fewer {a} (tail_more {j = j} {zs = zs} t) = by (goes (length zs)) (fewer t)
    where
      by : (b : Bool) → length (L a) ≤ length (L zs) → length (L a) ≤ length (cond b (L zs) (j ∷ L zs))
      by true le = le
      by false le = omega (arith, le)

  no_more : (n : ℕ) → nat_le (suc n) n ≡ false
  no_more n = by (nat_le (suc n) n) refl
    where
      by : (b : Bool) → nat_le (suc n) n ≡ b → nat_le (suc n) n ≡ false
      by false e = e
      by true e = let le = leb-true (suc n) n e in absurd (omega (arith, le))

  at_all : (code : List Line) → solid_at code (length (L code)) ≡ solid code
  at_all [] = refl
  at_all (i ∷ next) = by (goes (length next)) refl (at_all next)
    where
      by : (b : Bool) → goes (length next) ≡ b → solid_at next (length (L next)) ≡ solid next →
          cond (nat_le (length (cond (goes (length next)) (L next) (i ∷ L next))) (length (L next)))
          (solid_at next (length (cond (goes (length next)) (L next) (i ∷ L next)))) (solid (i ∷ next)) ≡ solid (i ∷ next)
      by true e ih =
          ap (λ b. cond (nat_le (length (cond b (L next) (i ∷ L next))) (length (L next))) (solid_at next (length (cond b (L next) (i ∷ L next))))
          (solid (i ∷ next))) e
          ∙ ap (λ b. cond b (solid_at next (length (L next))) (solid (i ∷ next))) (le-leb (length (L next)) (length (L next)) (omega arith))
          ∙ ih ∙ sym (ap (λ b. cond (b || is_label i.op) (solid next) (suc (length next))) e)
      by false e ih =
          ap (λ b. cond (nat_le (length (cond b (L next) (i ∷ L next))) (length (L next))) (solid_at next (length (cond b (L next) (i ∷ L next))))
          (solid (i ∷ next))) e
          ∙ ap (λ b. cond b (solid_at next (suc (length (L next)))) (solid (i ∷ next))) (no_more (length (L next)))

  at_place : {is code : List Line} → Tail is code → solid_at code (length (L is)) ≡ solid is
  at_place {is} tail_all = at_all is
  at_place {is} (tail_more {j = j} {zs = zs} t) =
      ap (λ b. cond b (solid_at zs (length (L is))) (solid (j ∷ zs))) (le-leb (length (L is)) (length (L zs)) (fewer t)) ∙ at_place t

  module _ (down : GoesDown m) where
    -- to that line the order does not rise
    low_in : (code : List Line) {is : List Line} (tries : List ℕ) → Tail is code → Tail code m.code → Reached m is tries →
        down.order (solid is) ≤ down.order (length is)
    low_in [] tries tail_all w r = omega arith
    low_in (i ∷ next) tries (tail_more t) w r = low_in next tries t (tail_next w) r
    low_in (i ∷ next) tries tail_all w r = by (goes (length next)) refl
        (λ (b : List Line) (others : List ℕ) (t : Tail b next) (s : Reached m b others). low_in next others t (tail_next w) s)
      where
        gone : IsUseless m i next → ((b : List Line) (others : List ℕ) → Tail b next → Reached m b others → down.order (solid b) ≤ down.order (length b)) →
            down.order (solid next) ≤ down.order (suc (length next))
        gone (unreached n out) ih = absurd (out tries r)
        gone (unread z dead) ih =
            let g = self_goes z in
            let lower = down.steps i next next tries (walks.tries_after i.op tries) r (self_no_exit z) (self_no_label z) (walks.goes On g.on) in
            let le = ih next (walks.tries_after i.op tries) tail_all (by_step r (walks.goes On g.on)) in
            omega (arith, lower, le)
        gone (skipped {l = k} same past) ih =
            let x : Reached m (bare_flow (flow.Jump k) ∷ next) tries = subst (λ x. Reached m (x ∷ next) tries) same r in
            let lower = down.steps (bare_flow (flow.Jump k)) next (after_label k m.code) tries tries x refl refl (walks.goes (At k) this) in
            let le = ih (after_label k m.code) tries (between_tail past) (by_step x (walks.goes (At k) this)) in
            let e : down.order (solid next) ≡ down.order (solid (after_label k m.code)) = ap down.order (between_solid past) in
            omega (arith, lower, le, e)

        stays : (t : Bool) → is_label i.op ≡ t → down.order (solid next) ≤ down.order (length next) →
            down.order (cond t (solid next) (suc (length next))) ≤ down.order (suc (length next))
        stays true e le = let weak = down.labels i next tries r e in omega (arith, weak, le)
        stays false e le = omega arith

        on_label : (t : Bool) → is_label i.op ≡ t →
            ((b : List Line) (others : List ℕ) → Tail b next → Reached m b others → down.order (solid b) ≤ down.order (length b)) →
            down.order (cond t (solid next) (suc (length next))) ≤ down.order (suc (length next))
        on_label true e ih = stays true e (ih next (walks.tries_after i.op tries) tail_all (by_step r (walks.goes On (on_of i.op e))))
          where
            on_of : (f : LinOp) → is_label f ≡ true → OneOf On (targets f)
            on_of (lin.Op f) e = absurd (true≢false (sym e))
            on_of (lin.Flow (flow.Label k)) e = this
            on_of (lin.Flow (flow.Jump k)) e = absurd (true≢false (sym e))
            on_of (lin.Flow (flow.Exit k)) e = absurd (true≢false (sym e))
            on_of (lin.Flow (flow.Branch t k)) e = absurd (true≢false (sym e))
            on_of (lin.Flow (flow.Switch ls)) e = absurd (true≢false (sym e))
            on_of (lin.Flow (flow.PushTrap k)) e = absurd (true≢false (sym e))
            on_of (lin.Flow flow.PopTrap) e = absurd (true≢false (sym e))
            on_of (lin.Flow flow.EnterTrap) e = absurd (true≢false (sym e))
        on_label false e ih = omega arith

        by : (b : Bool) → goes (length next) ≡ b →
            ((b : List Line) (others : List ℕ) → Tail b next → Reached m b others → down.order (solid b) ≤ down.order (length b)) →
            down.order (cond (goes (length next) || is_label i.op) (solid next) (suc (length next))) ≤ down.order (suc (length next))
        by true e ih =
            subst (λ b. down.order (cond (b || is_label i.op) (solid next) (suc (length next))) ≤ down.order (suc (length next))) (sym e)
            (gone (each i next (tail_stands w) e) ih)
        by false e ih =
            subst (λ b. down.order (cond (b || is_label i.op) (solid next) (suc (length next))) ≤ down.order (suc (length next))) (sym e)
            (subst (λ t. down.order (cond t (solid next) (suc (length next))) ≤ down.order (suc (length next))) refl (on_label (is_label i.op) refl ih))

    low : {is : List Line} {tries : List ℕ} → Reached m is tries → down.order (solid is) ≤ down.order (length is)
    low {is} {tries} r = low_in m.code tries (reached_tail m r) tail_all r

    abbrev order : ℕ → ℕ
    order n = down.order (solid_at m.code n)

    placed : {is js : List Line} → Tail is m.code → L is ≡ js → order (length js) ≡ down.order (solid is)
    placed {is} t e = subst (λ js. order (length js) ≡ down.order (solid is)) e (ap down.order (at_place t))

    -- the place of a line that stays
    placed_line : {j : Line} {next js : List Line} → Tail (j ∷ next) m.code → goes (length next) ≡ false → L next ≡ js →
        order (suc (length js)) ≡ down.order (cond (is_label j.op) (solid next) (suc (length next)))
    placed_line {j} {next} {js} t s e =
        placed {js = j ∷ js} t (ap (λ b. cond b (L next) (j ∷ L next)) s ∙ ap (λ ks. j ∷ ks) e)
        ∙ ap (λ b. down.order (cond (b || is_label j.op) (solid next) (suc (length next)))) s

    pub down_rest : GoesDown R
    down_rest = record {
      order = order;
      labels = λ j js tries r e.
          let x = source_line m goes each r in
          let w = comes_tail x.reached in
          let here : order (suc (length js)) ≡ down.order (solid x.next) = placed_line w x.stays x.same
          ∙ ap (λ t. down.order (cond t (solid x.next) (suc (length x.next)))) e in
          let on = placed (tail_next w) x.same in
          omega (arith, here, on);
      steps = λ j js to tries left r inside solid_line leads. step j js to tries left r inside solid_line leads;
      raises = λ j js to tries left r leads. raise j js to tries left r leads;
    }
      where
        step : (j : Line) (js to : List Line) (tries left : List ℕ) → Reached R (j ∷ js) tries → is_exit j.op ≡ false → is_label j.op ≡ false →
            LineWalkStep R j js tries to left → order (length to) < order (suc (length js))
        step j js _ tries _ r inside mark (walks.goes t o) =
            let x = source_line m goes each r in
            let w = comes_tail x.reached in
            let s : Reached m (j ∷ x.next) tries = comes_there x.reached mark in
            let here : order (suc (length js)) ≡ down.order (suc (length x.next)) = placed_line w x.stays x.same
            ∙ ap (λ t. down.order (cond t (solid x.next) (suc (length x.next)))) mark in
            let on = placed (tail_target m w t) (target_rest m goes each x.next js x.same t) in
            let le = low (by_step s (walks.goes t o)) in
            let lower = down.steps j x.next (code_at m.code x.next t) tries (walks.tries_after j.op tries) s inside mark (walks.goes t o) in
            omega (arith, here, on, le, lower)

        raise : (j : Line) (js to : List Line) (tries left : List ℕ) → Reached R (j ∷ js) tries → Raises R j tries to left →
            order (length to) < order (suc (length js))
        raise j js _ _ _ r (walks.raises {h = h} {tries = tries} e) =
            let x = source_line m goes each r in
            let w = comes_tail x.reached in
            let mark = no_label_line j.op (raise_landing j.op e) in
            let s : Reached m (j ∷ x.next) (h ∷ tries) = comes_there x.reached mark in
            let here : order (suc (length js)) ≡ down.order (suc (length x.next)) = placed_line w x.stays x.same
            ∙ ap (λ t. down.order (cond t (solid x.next) (suc (length x.next)))) mark in
            let on = placed (tail_label h m.code) (handler_rest m goes each h) in
            let le = low (by_raise s (walks.raises e)) in
            let lower = down.raises j x.next (after_label h m.code) (h ∷ tries) tries s (walks.raises e) in
            omega (arith, here, on, le, lower)
