-- Loops turned round: where the second function is while the first is at a place, where walks come, and what is live.
use Rattle.std.proofs.Common.{◌≡◌, ◌≢◌, ℕ, suc, ◌+◌, ◌*◌, ◌≤◌, ◌<◌, Bool, true, false, cond, ◌⊎◌, inl, inr, ⊎_elim, List, [], ◌∷◌, ◌++◌, length, Option, Some, None, refl, sym, ap, ◌∙◌, subst, arith}
use Rattle.std.proofs.lemmas.Bool.{true≢false}
use Rattle.std.specs.List.{AllPairs}
use Rattle.bs_words.specs.declared.types.Comp.{Comp}
use Rattle.bs_words.specs.declared.types.Comp.TheVariants as comp
use Rattle.bs_words.specs.declared.types.Loc.{Loc}
use Rattle.bs_words.proofs.Lists.{none_in, head_same, tail_same, none_there}
use Rattle.mach_ir.specs.Acts.{Target, On, At}
use Rattle.mach_ir.specs.Walks.{OneOf, this, other}
use Rattle.lin_ir.specs.Formed.{label_of, labels_in, goes_to, is_exit, is_label, GoesDown, WellFormed, bare_flow}
use Rattle.lin_ir.specs.Meaning.{has_label, after_label, code_at, passes_frame}
use Rattle.lin_ir.specs.Walks as walks
use Rattle.lin_ir.specs.Walks.{targets, may_raise, tries_after, Writes, Reached, at_entry, by_step, by_raise, Live, read, on, aside, LiveAcross, across_step, across_raise}
use Rattle.lin_ir.specs.declared.lin.Flow.{Flow}
use Rattle.lin_ir.specs.declared.lin.Flow.TheVariants as flow
use Rattle.lin_ir.specs.declared.lin.LinOp.{LinOp}
use Rattle.lin_ir.specs.declared.lin.LinOp.TheVariants as lin
use Rattle.lin_ir.specs.declared.lin.Line.{Line}
use Rattle.lin_ir.specs.declared.lin.Lin.{Lin}
use Rattle.linearise_rules.specs.Keeps.{NoAddrReached}
use Rattle.linearise_rules.specs.Lowered.{opposite_test}
use Rattle.linearise_rules.proofs.Homes.{IsIn, in_of, contains_of, split_in, in_left, in_right}
use Rattle.linearise_rules.proofs.Walked.{Tail, tail_all, tail_more, tail_next, tail_label, tail_in, tail_stands, reached_tail}
use Rattle.linearise_rules.proofs.Marks.{Differ}
use Rattle.lin_tidy_rules.specs.Leaving.{with_code}
use Rattle.lin_tidy_rules.specs.Turning.{Head, Turn, branch_line, tested_again, label_put, turned_line, turned_lines, ExitsToBranch, Turns}
use Rattle.lin_tidy_rules.proofs.Ends.{later_after, pairs_past, at_label, has_own_label, tail_past}
use Rattle.lin_tidy_rules.proofs.Handlers.{handler_stands}

-- ---- lines that may be turned, or have a label put after them

abbrev pub may_turn : LinOp → Bool
may_turn (lin.Flow (flow.Exit l)) = true
may_turn (lin.Flow (flow.Branch t l)) = true
may_turn _ = false

pub label_stays : (l : ℕ) (f : LinOp) → has_label l f ≡ true → may_turn f ≡ false
label_stays l (lin.Op f) e = refl
label_stays l (lin.Flow (flow.Label k)) e = refl
label_stays l (lin.Flow (flow.Jump k)) e = refl
label_stays l (lin.Flow (flow.Exit k)) e = absurd (true≢false (sym e))
label_stays l (lin.Flow (flow.Branch t k)) e = absurd (true≢false (sym e))
label_stays l (lin.Flow (flow.Switch ls)) e = refl
label_stays l (lin.Flow (flow.PushTrap k)) e = refl
label_stays l (lin.Flow flow.PopTrap) e = refl
label_stays l (lin.Flow flow.EnterTrap) e = refl

abbrev pub head_line : Head → Line
head_line d = branch_line d.test d.to d.args

-- the labels that come after a line
abbrev pub new_labels : Option Turn → Option ℕ → List ℕ
new_labels None None = []
new_labels None (Some l) = l ∷ []
new_labels (Some t) o = t.here ∷ []

pub none_left : (j : Line) (js : List Line) → j ∷ js ≡ [] → ⊥
none_left j js e = cc

exit_unwritten : (k : ℕ) (l : Loc) → Writes (bare_flow (flow.Exit k)) l → ⊥
exit_unwritten k l w = ⊎_elim (λ y. none_in (record { loc = l; comp = y.0 }) y.1) (λ e. true≢false (sym e)) w

bare_unread : (f : Flow) (l : Loc) (t : Comp) {A : Type 0} → walks.ReadsLocationAs l t (bare_flow f) → A
bare_unread f l t x = absurd (none_in (record { loc = l; comp = t }) x)

abbrev is_pop : Flow → Bool
is_pop flow.PopTrap = true
is_pop _ = false

-- ---- places

-- A place of the second function, by the code of the first: a line, the label after a branch, a branch that is repeated, or
-- the jump after that.
pub data Where : Type 0 where
  own_place : List Line → Where
  label_place : List Line → Where
  copy_place : List Line → Where
  jump_place : List Line → Where

-- the place of the first from which it is reached without a step that changes the traps
abbrev pub code_of : Where → List Line
code_of (own_place is) = is
code_of (label_place is) = is
code_of (copy_place is) = is
code_of (jump_place is) = is

abbrev pub rank_of : (ℕ → ℕ) → Where → ℕ
rank_of order (own_place is) = 2 * order (length is) + 1
rank_of order (label_place is) = 2 * order (length is) + 1
rank_of order (copy_place is) = 2 * order (length is) + 1
rank_of order (jump_place is) = 2 * order (length is)

lower_own : (x y : ℕ) → x < y → 2 * x + 1 < 2 * y + 1
lower_own x y lt = omega (arith, lt)

lower_jump : (y : ℕ) → 2 * y < 2 * y + 1
lower_jump y = omega arith

past_lower : (x y : ℕ) → x < y → 2 * x + 1 < 2 * y
past_lower x y lt = omega (arith, lt)

level_own : (x y : ℕ) → x ≤ y → 2 * x + 1 ≤ 2 * y + 1
level_own x y le = omega (arith, le)

-- a label leads on
label_leads : (l : ℕ) (f : LinOp) {A : Type 0} → is_label f ≡ true → OneOf (At l) (targets f) → A
label_leads l (lin.Op f) e o = absurd (true≢false (sym e))
label_leads l (lin.Flow (flow.Label k)) e (other o) = elim o [ ]
label_leads l (lin.Flow (flow.Jump k)) e o = absurd (true≢false (sym e))
label_leads l (lin.Flow (flow.Exit k)) e o = absurd (true≢false (sym e))
label_leads l (lin.Flow (flow.Branch t k)) e o = absurd (true≢false (sym e))
label_leads l (lin.Flow (flow.Switch ls)) e o = absurd (true≢false (sym e))
label_leads l (lin.Flow (flow.PushTrap k)) e o = absurd (true≢false (sym e))
label_leads l (lin.Flow flow.PopTrap) e o = absurd (true≢false (sym e))
label_leads l (lin.Flow flow.EnterTrap) e o = absurd (true≢false (sym e))

-- the labels of what became of a line
pub labels_of_line : (x : Option Turn) (o : Option ℕ) (i : Line) (rest : List Line) → ((t : Turn) → x ≡ Some t → label_of i.op ≡ []) →
    labels_in (turned_line x o i ++ rest) ≡ label_of i.op ++ (new_labels x o ++ labels_in rest)
labels_of_line None None i rest none = refl
labels_of_line None (Some l) i rest none = refl
labels_of_line (Some t) o i rest none =
    ap (λ ls. t.here ∷ ls) (again t.keeps)
    ∙ ap (λ ls. ls ++ (t.here ∷ labels_in rest)) (sym (none t refl))
  where
    again : (b : Bool) → labels_in (tested_again b t.head ++ rest) ≡ labels_in rest
    again true = refl
    again false = refl

module _ (m r : Lin) (h : Turns m r) (well : WellFormed m) where
  abbrev pub T : List Line → List Line
  T = turned_lines h.turns h.opens

  abbrev pub R : Lin
  R = with_code m (T m.code)

  pub once : AllPairs Differ (labels_in (T m.code))
  once = subst (λ (r : Lin). AllPairs Differ (labels_in r.code)) h.is h.labels

  -- ---- lines that stay

  pub exit_turns : {i : Line} {next : List Line} {t : Turn} → Tail (i ∷ next) m.code → h.turns (length next) ≡ Some t → may_turn i.op ≡ true
  exit_turns {i} {next} {t} w e = ap (λ (i : Line). may_turn i.op) (h.each i next t (tail_stands w) e).is

  exit_labels : {i : Line} {next : List Line} {t : Turn} → Tail (i ∷ next) m.code → h.turns (length next) ≡ Some t → label_of i.op ≡ []
  exit_labels {i} {next} {t} w e = ap (λ (i : Line). label_of i.op) (h.each i next t (tail_stands w) e).is

  pub branch_opens : {i : Line} {next : List Line} {l : ℕ} → Tail (i ∷ next) m.code → h.opens (length next) ≡ Some l → may_turn i.op ≡ true
  branch_opens {i} {next} {l} w e = ap (λ (i : Line). may_turn i.op) (h.branches i next l (tail_stands w) e).1

  abbrev Line_in : List Line → Line → List Line
  Line_in next i = turned_line (h.turns (length next)) (h.opens (length next)) i

  pub line_stays : {i : Line} {next : List Line} → Tail (i ∷ next) m.code → may_turn i.op ≡ false → Line_in next i ≡ i ∷ []
  line_stays {i} {next} w e = by (h.turns (length next)) refl (h.opens (length next)) refl
    where
      by : (x : Option Turn) → h.turns (length next) ≡ x → (o : Option ℕ) → h.opens (length next) ≡ o → turned_line x o i ≡ i ∷ []
      by (Some t) u o v = absurd (true≢false (sym (exit_turns w u) ∙ e))
      by None u (Some l) v = absurd (true≢false (sym (branch_opens w v) ∙ e))
      by None u None v = refl

  pub code_stays : {i : Line} {next : List Line} → Tail (i ∷ next) m.code → may_turn i.op ≡ false → T (i ∷ next) ≡ i ∷ T next
  code_stays {i} {next} w e = ap (λ xs. xs ++ T next) (line_stays w e)

  -- a branch is not turned
  branch_stays : (d : Head) {next : List Line} → Tail (head_line d ∷ next) m.code → h.turns (length next) ≡ None
  branch_stays d {next} w = by (h.turns (length next)) refl
    where
      exits_only : (i : Line) (l : ℕ) → i ≡ bare_flow (flow.Exit l) → is_exit i.op ≡ true
      exits_only i l e = ap (λ (i : Line). is_exit i.op) e

      by : (x : Option Turn) → h.turns (length next) ≡ x → h.turns (length next) ≡ None
      by None u = u
      by (Some t) u = let e = h.each (head_line d) next t (tail_stands w) u in absurd (true≢false (sym (exits_only (head_line d) e.label e.is)))

  pub not_turned : {i : Line} {next : List Line} {l : ℕ} → Tail (i ∷ next) m.code → h.opens (length next) ≡ Some l → h.turns (length next) ≡ None
  not_turned {i} {next} {l} w e =
      let b = h.branches i next l (tail_stands w) e in branch_stays b.0 (subst (λ i. Tail (i ∷ next) m.code) b.1 w)

  pub tail_image : {is zs : List Line} → Tail is zs → Tail (T is) (T zs)
  tail_image tail_all = tail_all
  tail_image {is} (tail_more {j = j} {zs = zs} w) = then_more (Line_in zs j) (tail_image w)
    where
      then_more : {ys : List Line} (xs : List Line) → Tail (T is) ys → Tail (T is) (xs ++ ys)
      then_more [] t = t
      then_more (x ∷ xs) t = tail_more (then_more xs t)

  -- ---- labels

  abbrev new_after : List Line → List ℕ
  new_after next = new_labels (h.turns (length next)) (h.opens (length next))

  pub labels_line : {i : Line} {next : List Line} → Tail (i ∷ next) m.code → labels_in (T (i ∷ next)) ≡ label_of i.op ++ (new_after next ++ labels_in (T next))
  labels_line {i} {next} w = labels_of_line (h.turns (length next)) (h.opens (length next)) i (T next) (λ t u. exit_labels w u)

  pub label_kept : {l : ℕ} (is : List Line) → Tail is m.code → IsIn l (labels_in is) → IsIn l (labels_in (T is))
  label_kept [] w z = z
  label_kept {l} (i ∷ next) w z =
      subst (IsIn l) (sym (labels_line w))
      (⊎_elim (λ u. in_left (new_after next ++ labels_in (T next)) u)
      (λ u. in_right (label_of i.op) (in_right (new_after next) (label_kept next (tail_next w) u)))
      (split_in (label_of i.op) (labels_in next) z))

  label_after : (l : ℕ) (is : List Line) → Tail is m.code → AllPairs Differ (labels_in (T is)) → IsIn l (labels_in is) →
      after_label l (T is) ≡ T (after_label l is)
  label_after l [] w pairs z = refl
  label_after l (i ∷ next) w pairs z = by (has_label l i.op) refl (λ once y. label_after l next (tail_next w) once y)
    where
      below : IsIn l (label_of i.op) ⊎ IsIn l (labels_in next) → has_label l i.op ≡ false → IsIn l (labels_in next)
      below (inl u) e = absurd (true≢false (sym (has_own_label l i.op u) ∙ e))
      below (inr u) e = u

      by : (b : Bool) → has_label l i.op ≡ b →
          (AllPairs Differ (labels_in (T next)) → IsIn l (labels_in next) → after_label l (T next) ≡ T (after_label l next)) →
          after_label l (T (i ∷ next)) ≡ T (cond b next (after_label l next))
      by true e ih =
          ap (after_label l) (code_stays w (label_stays l i.op e))
          ∙ ap (λ b. cond b (T next) (after_label l (T next))) e
      by false e ih =
          let y : IsIn l (labels_in next) = below (split_in (label_of i.op) (labels_in next) z) e in
          later_after l (tail_past (Line_in next i)) pairs (label_kept next (tail_next w) y)
          ∙ ih
          (pairs_past (new_after next) (labels_in (T next))
          (pairs_past (label_of i.op) (new_after next ++ labels_in (T next)) (subst (AllPairs Differ) (labels_line w) pairs))) y

  pub label_turned : (l : ℕ) → IsIn l (labels_in m.code) → after_label l R.code ≡ T (after_label l m.code)
  label_turned l z = label_after l m.code tail_all once z

  -- ---- labels that lines name

  pub named_in : {i : Line} {next : List Line} {l : ℕ} → Tail (i ∷ next) m.code → OneOf (At l) (targets i.op) → IsIn l (labels_in m.code)
  named_in {i} {next} {l} w o = in_of l (labels_in m.code) (well.named i (contains_of (tail_in w)) l (goes_to o))

  pub handler_turned : {is : List Line} {l : ℕ} {tries : List ℕ} → Reached m is (l ∷ tries) → T (after_label l m.code) ≡ after_label l R.code
  handler_turned {l = l} r = sym (label_turned l (handler_stands m well r))

  -- ---- copies of a branch

  -- the exit before this code is turned so
  pub record Copied (next : List Line) (t : Turn) : Type 0 where
    pub line : Line
    pub stands : Tail (line ∷ next) m.code
    pub turned : h.turns (length next) ≡ Some t

  pub exit_of : {next : List Line} {t : Turn} (c : Copied next t) → ExitsToBranch m h.opens c.line t.head
  exit_of {next} {t} c = h.each c.line next t (tail_stands c.stands) c.turned

  -- the code after the branch
  abbrev pub rest_of : {next : List Line} {t : Turn} → Copied next t → List Line
  rest_of c = (exit_of c).rest

  abbrev pub head_code : {next : List Line} {t : Turn} → Copied next t → List Line
  head_code {t = t} c = head_line t.head ∷ rest_of c

  pub head_tail : {next : List Line} {t : Turn} (c : Copied next t) → Tail (head_code c) m.code
  head_tail c = let e = (exit_of c) in subst (λ xs. Tail xs m.code) e.leads (tail_label e.label m.code)

  pub turned_code : {next : List Line} {t : Turn} (c : Copied next t) →
      T (c.line ∷ next) ≡ bare_flow (flow.Exit t.here) ∷ bare_flow (flow.Label t.here) ∷ (tested_again t.keeps t.head ++ T next)
  turned_code {next} {t} c = ap (λ x. turned_line x (h.opens (length next)) c.line ++ T next) c.turned

  pub at_here : {next : List Line} {t : Turn} (c : Copied next t) → after_label t.here R.code ≡ tested_again t.keeps t.head ++ T next
  at_here {next} {t} c =
      at_label t.here (tail_next (subst (λ xs. Tail xs R.code) (turned_code c) (tail_image c.stands))) once

  pub opened_code : (d : Head) {next : List Line} {l : ℕ} → Tail (head_line d ∷ next) m.code → h.opens (length next) ≡ Some l →
      T (head_line d ∷ next) ≡ head_line d ∷ bare_flow (flow.Label l) ∷ T next
  opened_code d {next} {l} w e =
      ap (λ x. turned_line x (h.opens (length next)) (head_line d) ++ T next) (branch_stays d w)
      ∙ ap (λ o. (head_line d ∷ label_put o) ++ T next) e

  pub at_on : {next : List Line} {t : Turn} (c : Copied next t) → after_label t.head.on R.code ≡ T (rest_of c)
  at_on {next} {t} c =
      at_label t.head.on
      (tail_next (subst (λ xs. Tail xs R.code) (opened_code t.head (head_tail c) (exit_of c).opened) (tail_image (head_tail c)))) once

  pub at_to : {next : List Line} {t : Turn} (c : Copied next t) → after_label t.head.to R.code ≡ T (after_label t.head.to m.code)
  at_to {next} {t} c = label_turned t.head.to (named_in (head_tail c) (other this))

  -- ---- where the second function is

  -- The first is at the one code, the second at the other.
  pub data Stand : List Line → List Line → List ℕ → Type 0 where
    image : {is js : List Line} {tries : List ℕ} → T is ≡ js → Stand is js tries
    opened : {i : Line} {is js : List Line} {l : ℕ} {tries : List ℕ} → Tail (i ∷ is) m.code → h.opens (length is) ≡ Some l →
        bare_flow (flow.Label l) ∷ T is ≡ js → Stand is js tries
    copied : {next js : List Line} {t : Turn} {tries : List ℕ} (c : Copied next t) → tested_again t.keeps t.head ++ T next ≡ js → Stand (head_code c) js tries
    jumps : {next js : List Line} {t : Turn} {tries : List ℕ} {l : ℕ} (c : Copied next t) (to : Target) → OneOf to (targets (head_line t.head).op) →
        after_label l R.code ≡ T (code_at m.code (rest_of c) to) → Reached m (head_code c) tries → bare_flow (flow.Jump l) ∷ T next ≡ js →
        Stand (code_at m.code (rest_of c) to) js tries

  abbrev pub where_of : {is js : List Line} {tries : List ℕ} → Stand is js tries → Where
  where_of (image {is = is} e) = own_place is
  where_of (opened {is = is} w o e) = label_place is
  where_of (copied c e) = copy_place (head_code c)
  where_of (jumps c to o at r e) = jump_place (head_code c)

  -- where a step leads, and that it leads down
  pub record Goes (i : Line) (is js : List Line) (left : List ℕ) (top : Where) : Type 0 where
    pub stand : Stand is js left
    pub lower : (d : GoesDown m) → is_exit i.op ≡ false → is_label i.op ≡ false → rank_of d.order (where_of stand) < rank_of d.order top
    pub level : (d : GoesDown m) → is_label i.op ≡ true → rank_of d.order (where_of stand) ≤ rank_of d.order top

  -- the line of the second function does what that of the first does
  pub data Own : List Line → Line → List Line → List ℕ → Where → Type 0 where
    same : {i : Line} {next ks : List Line} {tries : List ℕ} {top : Where} → ((order : ℕ → ℕ) → rank_of order top ≡ 2 * order (suc (length next)) + 1) →
        ((t : Target) → OneOf t (targets i.op) → Goes i (code_at m.code next t) (code_at R.code ks t) (tries_after i.op tries) top) →
        Own (i ∷ next) i ks tries top
    other_way : {d : Head} {rest ks : List Line} {tries : List ℕ} {top : Where} → Goes (head_line d) (after_label d.to m.code) ks tries top →
        Goes (head_line d) rest (after_label d.on R.code) tries top →
        Own (head_line d ∷ rest) (branch_line (opposite_test d.test) d.on d.args) ks tries top
    exits : {l n : ℕ} {next ks : List Line} {tries : List ℕ} {top : Where} → Stand (after_label l m.code) (after_label n R.code) tries →
        Own (bare_flow (flow.Exit l) ∷ next) (bare_flow (flow.Exit n)) ks tries top

  -- or it is passed alone
  pub data View : List Line → Line → List Line → List ℕ → Where → Type 0 where
    own : {is ks : List Line} {j : Line} {tries : List ℕ} {top : Where} → Own is j ks tries top → View is j ks tries top
    past_label : {is ks : List Line} {l : ℕ} {tries : List ℕ} {top : Where} → T is ≡ ks →
        ((d : GoesDown m) → rank_of d.order (own_place is) ≤ rank_of d.order top) → View is (bare_flow (flow.Label l)) ks tries top
    past_jump : {is ks : List Line} {l : ℕ} {tries : List ℕ} {top : Where} → T is ≡ after_label l R.code →
        ((d : GoesDown m) → rank_of d.order (own_place is) < rank_of d.order top) → View is (bare_flow (flow.Jump l)) ks tries top

  own_onto : {is ks js : List Line} {i j : Line} {tries : List ℕ} {top : Where} → i ∷ ks ≡ j ∷ js → Own is i ks tries top → Own is j js tries top
  own_onto {is} {ks} {js} {i} {j} {tries} {top} e o =
      subst (λ i. Own is i js tries top) (head_same e) (subst (λ ks. Own is i ks tries top) (tail_same e) o)

  view_onto : {is ks js : List Line} {i j : Line} {tries : List ℕ} {top : Where} → i ∷ ks ≡ j ∷ js → View is i ks tries top → View is j js tries top
  view_onto {is} {ks} {js} {i} {j} {tries} {top} e o =
      subst (λ i. View is i js tries top) (head_same e) (subst (λ ks. View is i ks tries top) (tail_same e) o)

  -- a step of the first goes down
  step_down : {i : Line} {next : List Line} {tries : List ℕ} → Reached m (i ∷ next) tries → (t : Target) → OneOf t (targets i.op) → (d : GoesDown m) →
      is_exit i.op ≡ false → is_label i.op ≡ false → d.order (length (code_at m.code next t)) < d.order (suc (length next))
  step_down {i} {next} {tries} r t o d e u = d.steps i next (code_at m.code next t) tries (tries_after i.op tries) r e u (walks.goes t o)

  -- to a label that the second has too
  goes_label : {i : Line} {next : List Line} {tries : List ℕ} → Reached m (i ∷ next) tries → (l : ℕ) → OneOf (At l) (targets i.op) → {top : Where} →
      ((order : ℕ → ℕ) → rank_of order top ≡ 2 * order (suc (length next)) + 1) →
      Goes i (after_label l m.code) (after_label l R.code) (tries_after i.op tries) top
  goes_label {i} {next} r l o top =
      record {
        stand = image (sym (label_turned l (named_in (reached_tail m r) o)));
        lower = λ d e u.
            let lt = lower_own (d.order (length (after_label l m.code))) (d.order (suc (length next))) (step_down r (At l) o d e u) in
            let same = top d.order in
            omega (arith, lt, same);
        level = λ d e. label_leads l i.op e o;
      }

  own_line : {i j : Line} {next ks : List Line} {tries : List ℕ} → Reached m (i ∷ next) tries → (x : Option Turn) → h.turns (length next) ≡ x → (o : Option ℕ) →
      h.opens (length next) ≡ o → turned_line x o i ++ T next ≡ j ∷ ks → Own (i ∷ next) j ks tries (own_place (i ∷ next))
  own_line {i} {j} {next} {ks} {tries} r None u o v e = own_onto e (same (λ order. refl) (by o v))
    where
      on_next : (o : Option ℕ) → h.opens (length next) ≡ o → OneOf On (targets i.op) →
          Goes i next (label_put o ++ T next) (tries_after i.op tries) (own_place (i ∷ next))
      on_next None v a =
          record {
            stand = image refl;
            lower = λ d e u. lower_own (d.order (length next)) (d.order (suc (length next))) (step_down r On a d e u);
            level = λ d e. level_own (d.order (length next)) (d.order (suc (length next))) (d.labels i next tries r e);
          }
      on_next (Some l) v a =
          record {
            stand = opened (reached_tail m r) v refl;
            lower = λ d e u. lower_own (d.order (length next)) (d.order (suc (length next))) (step_down r On a d e u);
            level = λ d e. level_own (d.order (length next)) (d.order (suc (length next))) (d.labels i next tries r e);
          }

      by : (o : Option ℕ) → h.opens (length next) ≡ o → (t : Target) → OneOf t (targets i.op) →
          Goes i (code_at m.code next t) (code_at R.code (label_put o ++ T next) t) (tries_after i.op tries) (own_place (i ∷ next))
      by o v On a = on_next o v a
      by o v (At l) a = goes_label r l a (λ order. refl)
  own_line {i} {j} {next} {ks} {tries} r (Some t) u o v e =
      let c : Copied next t = record { line = i; stands = reached_tail m r; turned = u } in
      let x = (exit_of c) in
      own_onto e
      (subst (λ (i : Line). Own (i ∷ next) (bare_flow (flow.Exit t.here)) (bare_flow (flow.Label t.here) ∷ (tested_again t.keeps t.head ++ T next)) tries
      (own_place (c.line ∷ next))) (sym x.is)
      (exits
      (subst (λ is. Stand is (after_label t.here R.code) tries) (sym x.leads)
      (subst (λ js. Stand (head_code c) js tries) (sym (at_here c)) (copied c refl)))))

  pub own_image : {j : Line} {ks : List Line} {tries : List ℕ} (is : List Line) → Reached m is tries → T is ≡ j ∷ ks → Own is j ks tries (own_place is)
  own_image {j} {ks} [] r e = absurd (none_there e)
  own_image (i ∷ next) r e = own_line r (h.turns (length next)) refl (h.opens (length next)) refl e

  line_some : (x : Option Turn) (o : Option ℕ) (i : Line) (ks : List Line) → turned_line x o i ++ ks ≡ [] → ⊥
  line_some None o i ks e = none_left i (label_put o ++ ks) e
  line_some (Some t) o i ks e = none_left (bare_flow (flow.Exit t.here)) (bare_flow (flow.Label t.here) ∷ (tested_again t.keeps t.head ++ ks)) e

  -- the second is at its end where the first is
  pub image_some : (i : Line) (next : List Line) → T (i ∷ next) ≡ [] → ⊥
  image_some i next e = line_some (h.turns (length next)) (h.opens (length next)) i (T next) e

  pub stands_none : {is js : List Line} {tries : List ℕ} → Stand is js tries → js ≡ [] → is ≡ []
  stands_none (image {is = is} e) u = by is (e ∙ u)
    where
      by : (is : List Line) → T is ≡ [] → is ≡ []
      by [] e = refl
      by (i ∷ next) e = absurd (image_some i next e)
  stands_none (opened {is = is} {l = l} w o e) u = absurd (none_left (bare_flow (flow.Label l)) (T is) (e ∙ u))
  stands_none (copied {next = next} {t = t} c e) u = absurd (by t.keeps (e ∙ u))
    where
      by : (b : Bool) → tested_again b t.head ++ T next ≡ [] → ⊥
      by true e = none_left (head_line t.head) (bare_flow (flow.Jump t.head.on) ∷ T next) e
      by false e = none_left (branch_line (opposite_test t.head.test) t.head.on t.head.args) (bare_flow (flow.Jump t.head.to) ∷ T next) e
  stands_none (jumps {next = next} {l = l} c to o at r e) u = absurd (none_left (bare_flow (flow.Jump l)) (T next) (e ∙ u))

  own_copy : {j : Line} {ks next : List Line} {t : Turn} {tries : List ℕ} (c : Copied next t) → Reached m (head_code c) tries →
      tested_again t.keeps t.head ++ T next ≡ j ∷ ks → Own (head_code c) j ks tries (copy_place (head_code c))
  own_copy {j} {ks} {next} {t} {tries} c r e = by t.keeps e
    where
      to_jump : {l : ℕ} (to : Target) → OneOf to (targets (head_line t.head).op) → after_label l R.code ≡ T (code_at m.code (rest_of c) to) →
          Goes (head_line t.head) (code_at m.code (rest_of c) to) (bare_flow (flow.Jump l) ∷ T next) tries (copy_place (head_code c))
      to_jump to o e =
          record {
            stand = jumps c to o e r refl;
            lower = λ d e u. lower_jump (d.order (suc (length (rest_of c))));
            level = λ d e. absurd (true≢false (sym e));
          }

      kept : (to : Target) → OneOf to (targets (head_line t.head).op) →
          Goes (head_line t.head) (code_at m.code (rest_of c) to) (code_at R.code (bare_flow (flow.Jump t.head.on) ∷ T next) to) tries (copy_place (head_code c))
      kept On o = to_jump On o (at_on c)
      kept (At l) o = goes_label r l o (λ order. refl)

      turned_over : Goes (head_line t.head) (rest_of c) (after_label t.head.on R.code) tries (copy_place (head_code c))
      turned_over =
          record {
            stand = image (sym (at_on c));
            lower = λ d e u. lower_own (d.order (length (rest_of c))) (d.order (suc (length (rest_of c)))) (step_down r On this d e u);
            level = λ d e. absurd (true≢false (sym e));
          }

      by : (b : Bool) → tested_again b t.head ++ T next ≡ j ∷ ks → Own (head_code c) j ks tries (copy_place (head_code c))
      by true e = own_onto e (same (λ order. refl) kept)
      by false e = own_onto e (other_way (to_jump (At t.head.to) (other this) (at_to c)) turned_over)

  pub view : {is js ks : List Line} {j : Line} {tries : List ℕ} (s : Stand is js tries) → Reached m is tries → js ≡ j ∷ ks → View is j ks tries (where_of s)
  view (image {is = is} e) r u = own (own_image is r (e ∙ u))
  view (opened {is = is} w o e) r u = view_onto (e ∙ u) (past_label refl (λ d. omega arith))
  view (copied c e) r u = own (own_copy c r (e ∙ u))
  view (jumps c to o at r e) r' u =
      view_onto (e ∙ u)
      (past_jump (sym at)
      (λ d. past_lower (d.order (length (code_at m.code (rest_of c) to))) (d.order (suc (length (rest_of c)))) (step_down r to o d refl refl)))

  -- ---- walks

  -- the code of the first where a walk of the second comes
  pub record Source (js : List Line) (tries : List ℕ) : Type 0 where
    pub code : List Line
    pub stand : Stand code js tries
    pub reached : Reached m code tries

  stepped : {is ks : List Line} {j : Line} {tries : List ℕ} {top : Where} → View is j ks tries top → Reached m is tries → (t : Target) →
      OneOf t (targets j.op) →
      Source (code_at R.code ks t) (tries_after j.op tries)
  stepped {ks = ks} (own o) r t a = by o r t a
    where
      by : {is ks : List Line} {j : Line} {tries : List ℕ} {top : Where} → Own is j ks tries top → Reached m is tries → (t : Target) → OneOf t (targets j.op) →
          Source (code_at R.code ks t) (tries_after j.op tries)
      by (same {next = next} rank moves) r t a = record { code = code_at m.code next t; stand = (moves t a).stand; reached = by_step r (walks.goes t a) }
      by (other_way {d = d} {rest = rest} holds fails) r On a =
          record { code = after_label d.to m.code; stand = holds.stand; reached = by_step r (walks.goes (At d.to) (other this)) }
      by (other_way {d = d} {rest = rest} holds fails) r (At l) (other this) =
          record { code = rest; stand = fails.stand; reached = by_step r (walks.goes On this) }
      by (other_way {d = d} {rest = rest} holds fails) r (At l) (other (other a)) = elim a [ ]
      by (exits {l = l} stand) r t this = record { code = after_label l m.code; stand = stand; reached = by_step r (walks.goes (At l) this) }
      by (exits stand) r t (other a) = elim a [ ]
  stepped (past_label {is = is} e low) r t this = record { code = is; stand = image e; reached = r }
  stepped (past_label e low) r t (other a) = elim a [ ]
  stepped (past_jump {is = is} e low) r t this = record { code = is; stand = image e; reached = r }
  stepped (past_jump e low) r t (other a) = elim a [ ]

  raised : {is ks : List Line} {j : Line} {n : ℕ} {tries : List ℕ} {top : Where} → View is j ks (n ∷ tries) top → Reached m is (n ∷ tries) →
      may_raise j.op ≡ true →
      Source (after_label n R.code) tries
  raised {n = l} (own (same rank moves)) r e = record { code = after_label l m.code; stand = image (handler_turned r); reached = by_raise r (walks.raises e) }
  raised (own (other_way holds fails)) r e = absurd (true≢false (sym e))
  raised (own (exits stand)) r e = absurd (true≢false (sym e))
  raised (past_label u low) r e = absurd (true≢false (sym e))
  raised (past_jump u low) r e = absurd (true≢false (sym e))

  pub source : {js : List Line} {tries : List ℕ} → Reached R js tries → Source js tries
  source at_entry = record { code = m.code; stand = image refl; reached = at_entry }
  source (by_step r (walks.goes t o)) = let y = source r in stepped (view y.stand y.reached refl) y.reached t o
  source (by_raise r (walks.raises e)) = let y = source r in raised (view y.stand y.reached refl) y.reached e

  -- ---- what is live

  abbrev Was : Loc → Comp → List Line → List ℕ → Type 0
  Was l t js tries = (is : List Line) → Stand is js tries → Reached m is tries → Live m l t is tries

  live_read : {l : Loc} {t : Comp} {is ks : List Line} {j : Line} {tries : List ℕ} {top : Where} → View is j ks tries top → walks.ReadsLocationAs l t j →
      Live m l t is tries
  live_read (own (same rank moves)) x = read x
  live_read (own (other_way holds fails)) x = read x
  live_read {l} {t} (own (exits {n = n} stand)) x = bare_unread (flow.Exit n) l t x
  live_read {l} {t} (past_label {l = k} u low) x = bare_unread (flow.Label k) l t x
  live_read {l} {t} (past_jump {l = k} u low) x = bare_unread (flow.Jump k) l t x

  live_on : {l : Loc} {t : Comp} {is ks : List Line} {j : Line} {tries : List ℕ} {top : Where} → View is j ks tries top → Reached m is tries →
      (Writes j l → ⊥) →
      (k : Target) → OneOf k (targets j.op) → Was l t (code_at R.code ks k) (tries_after j.op tries) → Live m l t is tries
  live_on (own (same rank moves)) r free k o v = on free (walks.goes k o) (v _ (moves k o).stand (by_step r (walks.goes k o)))
  live_on (own (other_way {d = d} holds fails)) r free On o v =
      on free (walks.goes (At d.to) (other this)) (v _ holds.stand (by_step r (walks.goes (At d.to) (other this))))
  live_on (own (other_way holds fails)) r free (At k) (other this) v = on free (walks.goes On this) (v _ fails.stand (by_step r (walks.goes On this)))
  live_on (own (other_way holds fails)) r free (At k) (other (other o)) v = elim o [ ]
  live_on {l} (own (exits {l = k} stand)) r free t this v = on (exit_unwritten k l) (walks.goes (At k) this) (v _ stand (by_step r (walks.goes (At k) this)))
  live_on (own (exits stand)) r free t (other o) v = elim o [ ]
  live_on (past_label u low) r free k this v = v _ (image u) r
  live_on (past_label u low) r free k (other o) v = elim o [ ]
  live_on (past_jump u low) r free k this v = v _ (image u) r
  live_on (past_jump u low) r free k (other o) v = elim o [ ]

  live_aside : {l : Loc} {t : Comp} {is ks : List Line} {j : Line} {n : ℕ} {tries : List ℕ} {top : Where} → View is j ks (n ∷ tries) top →
      Reached m is (n ∷ tries) →
      may_raise j.op ≡ true → Was l t (after_label n R.code) tries → Live m l t is (n ∷ tries)
  live_aside (own (same rank moves)) r e v = aside (walks.raises e) (v _ (image (handler_turned r)) (by_raise r (walks.raises e)))
  live_aside (own (other_way holds fails)) r e v = absurd (true≢false (sym e))
  live_aside (own (exits stand)) r e v = absurd (true≢false (sym e))
  live_aside (past_label u low) r e v = absurd (true≢false (sym e))
  live_aside (past_jump u low) r e v = absurd (true≢false (sym e))

  -- what is live in the second was live in the first
  pub live_before : {l : Loc} {t : Comp} {js : List Line} {tries : List ℕ} → Live R l t js tries → {is : List Line} → Stand is js tries → Reached m is tries →
      Live m l t is tries
  live_before (read x) s r = live_read (view s r refl) x
  live_before (on free (walks.goes k o) v) s r = live_on (view s r refl) r free k o (λ is s r. live_before v s r)
  live_before (aside (walks.raises e) v) s r = live_aside (view s r refl) r e (λ is s r. live_before v s r)

  -- The line of the second, where it is that of the first.
  abbrev pub Moves : Line → List Line → List Line → List ℕ → Where → Type 0
  Moves i next ks tries top = (t : Target) → OneOf t (targets i.op) → Goes i (code_at m.code next t) (code_at R.code ks t) (tries_after i.op tries) top

  pub live_across : {l : Loc} {t : Comp} {i : Line} {next ks : List Line} {tries : List ℕ} {top : Where} → Moves i next ks tries top →
      Reached m (i ∷ next) tries →
      LiveAcross R l t i ks tries → LiveAcross m l t i next tries
  live_across moves r (across_step free (walks.goes k o) v) =
      across_step free (walks.goes k o) (live_before v (moves k o).stand (by_step r (walks.goes k o)))
  live_across moves r (across_raise (walks.raises e) v) =
      across_raise (walks.raises e) (live_before v (image (handler_turned r)) (by_raise r (walks.raises e)))

  -- what is no flow is the line of the first
  pub data Kept (j : Line) (ks : List Line) (tries : List ℕ) : Type 0 where
    kept_line : {next : List Line} {top : Where} → Moves j next ks tries top → Reached m (j ∷ next) tries → Kept j ks tries
    is_way : (f : Flow) → j.op ≡ lin.Flow f → (f ≡ flow.PopTrap → ⊥) → Kept j ks tries

  not_pop : (f : Flow) → is_pop f ≡ false → f ≡ flow.PopTrap → ⊥
  not_pop f e u = true≢false (sym (ap is_pop u) ∙ e)

  pub kept : {j : Line} {ks : List Line} {tries : List ℕ} → Reached R (j ∷ ks) tries → Kept j ks tries
  kept {j} {ks} {tries} r = let y = source r in by (view y.stand y.reached refl) y.reached
    where
      by : {is ks : List Line} {j : Line} {tries : List ℕ} {top : Where} → View is j ks tries top → Reached m is tries → Kept j ks tries
      by (own (same rank moves)) r = kept_line moves r
      by (own (other_way {d = d} holds fails)) r = is_way (flow.Branch (opposite_test d.test) d.on) refl (not_pop _ refl)
      by (own (exits {n = n} stand)) r = is_way (flow.Exit n) refl (not_pop _ refl)
      by (past_label {l = l} u low) r = is_way (flow.Label l) refl (not_pop _ refl)
      by (past_jump {l = l} u low) r = is_way (flow.Jump l) refl (not_pop _ refl)

  frame_flow : (j : Line) (f : Flow) → j.op ≡ lin.Flow f → passes_frame j.op ≡ true → ⊥
  frame_flow j f e frame = true≢false (sym frame ∙ ap passes_frame e)

  pub no_addr_turned : NoAddrReached m → NoAddrReached R
  no_addr_turned none = record { none = λ j ks tries r frame l w. by (kept r) frame l w }
    where
      by : {j : Line} {ks : List Line} {tries : List ℕ} → Kept j ks tries → passes_frame j.op ≡ true → (l : Loc) → LiveAcross R l comp.Addr j ks tries → ⊥
      by {j} {ks} {tries} (kept_line {next = next} moves r) frame l w = none.none j next tries r frame l (live_across moves r w)
      by {j} (is_way f e p) frame l w = frame_flow j f e frame
