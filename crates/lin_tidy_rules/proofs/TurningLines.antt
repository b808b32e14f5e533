-- Loops turned round: where each line of the function comes from.
use Rattle.std.proofs.Common.{◌≡◌, ℕ, Bool, true, false, ◌⊎◌, ⊎_elim, List, [], ◌∷◌, length, Option, Some, None, refl, subst}
use Rattle.mach_ir.specs.Walks.{this, other}
use Rattle.lin_ir.specs.Formed.{labels_in, WellFormed, bare_flow}
use Rattle.lin_ir.specs.declared.lin.Flow.{Flow}
use Rattle.lin_ir.specs.declared.lin.Flow.TheVariants as flow
use Rattle.lin_ir.specs.declared.lin.LinOp.TheVariants as lin
use Rattle.lin_ir.specs.declared.lin.Line.{Line}
use Rattle.lin_ir.specs.declared.lin.Lin.{Lin}
use Rattle.linearise_rules.specs.Lowered.{opposite_test}
use Rattle.linearise_rules.proofs.Homes.{IsIn, is_first, is_later, split_in}
use Rattle.linearise_rules.proofs.Walked.{Tail, tail_all, tail_next, tail_in, later_label}
use Rattle.lin_tidy_rules.specs.Turning.{Head, Turn, branch_line, tested_again, turned_line, Turns}
use Rattle.lin_tidy_rules.proofs.Turning.{head_line, T, R, Copied, exit_of, head_tail, turned_code, opened_code, tail_image, label_kept, named_in}

module _ (m r : Lin) (h : Turns m r) (well : WellFormed m) where
  abbrev L : List Line → List Line
  L = T m r h well

  abbrev Q : Lin
  Q = R m r h well

  -- a line that was not there
  pub data IsNew : Line → Type 0 where
    new_exit : {l : ℕ} → IsIn l (labels_in Q.code) → IsNew (bare_flow (flow.Exit l))
    new_label : {l : ℕ} → IsNew (bare_flow (flow.Label l))
    new_branch : {d : Head} → IsIn (head_line d) m.code → IsIn d.on (labels_in Q.code) → IsNew (branch_line (opposite_test d.test) d.on d.args)
    new_jump : {l : ℕ} → IsIn l (labels_in Q.code) → IsNew (bare_flow (flow.Jump l))

  pub data From (j : Line) : Type 0 where
    was_line : IsIn j m.code → From j
    new_line : IsNew j → From j

  -- it is one of control
  pub new_flow : {j : Line} → IsNew j → (f : Flow) × (j.op ≡ lin.Flow f)
  new_flow (new_exit {l = l} z) = (flow.Exit l, refl)
  new_flow (new_label {l = l}) = (flow.Label l, refl)
  new_flow (new_branch {d = d} z s) = (flow.Branch (opposite_test d.test) d.on, refl)
  new_flow (new_jump {l = l} z) = (flow.Jump l, refl)

  label_there : {l : ℕ} {js zs : List Line} → Tail (bare_flow (flow.Label l) ∷ js) zs → IsIn l (labels_in zs)
  label_there w = later_label w is_first

  module _ {next : List Line} {t : Turn} (c : Copied m r h well next t) where
    here_there : IsIn t.here (labels_in Q.code)
    here_there = label_there (tail_next (subst (λ xs. Tail xs Q.code) (turned_code m r h well c) (tail_image m r h well (c.stands))))

    on_there : IsIn t.head.on (labels_in Q.code)
    on_there =
        label_there
        (tail_next
        (subst (λ xs. Tail xs Q.code) (opened_code m r h well t.head (head_tail m r h well c) (exit_of m r h well c).opened)
        (tail_image m r h well (head_tail m r h well c))))

    to_there : IsIn t.head.to (labels_in Q.code)
    to_there = label_kept m r h well m.code tail_all (named_in m r h well (head_tail m r h well c) (other this))

    from_copy : {j : Line} (b : Bool) → IsIn j (tested_again b t.head) → From j
    from_copy true is_first = was_line (tail_in (head_tail m r h well c))
    from_copy true (is_later is_first) = new_line (new_jump on_there)
    from_copy true (is_later (is_later z)) = elim z [ ]
    from_copy false is_first = new_line (new_branch (tail_in (head_tail m r h well c)) on_there)
    from_copy false (is_later is_first) = new_line (new_jump to_there)
    from_copy false (is_later (is_later z)) = elim z [ ]

    from_turn : {j : Line} (i : Line) (o : Option ℕ) → IsIn j (turned_line (Some t) o i) → From j
    from_turn i o is_first = new_line (new_exit here_there)
    from_turn i o (is_later is_first) = new_line new_label
    from_turn i o (is_later (is_later z)) = from_copy t.keeps z

  from_same : {i j : Line} {next : List Line} (o : Option ℕ) → Tail (i ∷ next) m.code → IsIn j (turned_line None o i) → From j
  from_same None w is_first = was_line (tail_in w)
  from_same None w (is_later z) = elim z [ ]
  from_same (Some l) w is_first = was_line (tail_in w)
  from_same (Some l) w (is_later is_first) = new_line new_label
  from_same (Some l) w (is_later (is_later z)) = elim z [ ]

  pub from_line : {j : Line} (is : List Line) → Tail is m.code → IsIn j (L is) → From j
  from_line [] w z = elim z [ ]
  from_line {j} (i ∷ next) w z =
      ⊎_elim (by (h.turns (length next)) refl (h.opens (length next))) (λ u. from_line next (tail_next w) u)
      (split_in (turned_line (h.turns (length next)) (h.opens (length next)) i) (L next) z)
    where
      by : (x : Option Turn) → h.turns (length next) ≡ x → (o : Option ℕ) → IsIn j (turned_line x o i) → From j
      by (Some t) u o z = from_turn (record { line = i; stands = w; turned = u }) i o z
      by None u o z = from_same o w z
