-- Jumps that go at once where the jumps lead to which they go.
use Rattle.std.specs.Option.{unwrap_or, option_map}
use Rattle.std.specs.Prelude.{◌≡◌, ℕ, zero, suc, Bool, true, false, cond, Option, Some, None, List, [], ◌∷◌, length, map}
use Rattle.lin_ir.specs.Formed.{bare_flow}
use Rattle.lin_ir.specs.Meaning.{after_label}
use Rattle.lin_ir.specs.declared.lin.Flow.{Flow}
use Rattle.lin_ir.specs.declared.lin.Flow.TheVariants as flow
use Rattle.lin_ir.specs.declared.lin.LinOp.{LinOp}
use Rattle.lin_ir.specs.declared.lin.LinOp.TheVariants as lin
use Rattle.lin_ir.specs.declared.lin.Spot.{Spot}
use Rattle.lin_ir.specs.declared.lin.Line.{Line}
use Rattle.lin_ir.specs.declared.lin.Lin.{Lin}
use Rattle.lin_tidy_rules.specs.Leaving.{LabelsBetween, with_code, LeavesOut}
use Rattle.lin_tidy_rules.specs.Turning.{Turns}

-- what a jump becomes: an exit to the first label, if it is one, and else a jump to the second
abbrev pub exit_or_jump : Option ℕ → ℕ → Flow
exit_or_jump (Some n) l = flow.Exit n
exit_or_jump None l = flow.Jump l

-- Jumps, exits and branches go elsewhere. A jump whose label leads to an exit is an exit itself, and
-- so counts the unit. The rows of a table and the handlers of pushed traps stay where they are.
abbrev pub redirected_operation : (to : ℕ → ℕ) (exits : ℕ → Option ℕ) → LinOp → LinOp
redirected_operation to exits (lin.Flow (flow.Jump l)) = lin.Flow (exit_or_jump (exits l) (to l))
redirected_operation to exits (lin.Flow (flow.Exit l)) = lin.Flow (flow.Exit (to l))
redirected_operation to exits (lin.Flow (flow.Branch test l)) = lin.Flow (flow.Branch test (to l))
redirected_operation to exits f = f

abbrev pub redirect : (to : ℕ → ℕ) (exits : ℕ → Option ℕ) → Line → Line
redirect to exits i =
    record { op = redirected_operation to exits i.op; args = i.args; results = i.results }

-- from the first label control goes by labels and jumps alone to the second
pub data GoesOnTo (m : Lin) (l : ℕ) : ℕ → Type 0 where
  itself : GoesOnTo m l l
  and_on : {k n : ℕ} {next : List Line} → GoesOnTo m l k →
      LabelsBetween (after_label k m.code) (bare_flow (flow.Jump n) ∷ next) → GoesOnTo m l n

-- From the first label control goes by labels and jumps alone to an exit, and from there to the
-- second.
-- Such a jump becomes an exit: the unit is counted once either way, and a turn of a `while` has one jump
-- less. A branch becomes none, since no branch of Linear counts a unit.
pub data ExitsTo (m : Lin) (l n : ℕ) : Type 0 where
  by_exit : {last out : ℕ} {next : List Line} → GoesOnTo m l last →
      LabelsBetween (after_label last m.code) (bare_flow (flow.Exit out) ∷ next) →
      GoesOnTo m out n → ExitsTo m l n

-- the second function is the first with other ways to the same places
pub record RedirectsTargets (m r : Lin) : Type 0 where
  pub to : ℕ → ℕ
  pub exits : ℕ → Option ℕ
  pub is : r ≡ with_code m (map (redirect to exits) m.code)
  pub each : (l : ℕ) → GoesOnTo m l (to l)
  -- the unit of that exit is counted by the jump that becomes one
  pub out : (l n : ℕ) → exits l ≡ Some n → ExitsTo m l n

-- ---- all jumps at once

-- it is a label, with no operands
abbrev pub is_label_line : LinOp → (args results : List Spot) → Bool
is_label_line (lin.Flow (flow.Label l)) [] [] = true
is_label_line _ args results = false

-- where a jump with no operands goes
abbrev pub jumps_to : LinOp → (args results : List Spot) → Option ℕ
jumps_to (lin.Flow (flow.Jump l)) [] [] = Some l
jumps_to _ args results = None

-- where an exit with no operands goes
abbrev pub exits_to : LinOp → (args results : List Spot) → Option ℕ
exits_to (lin.Flow (flow.Exit l)) [] [] = Some l
exits_to _ args results = None

-- where the first line that is no label goes, by what says so of one line
abbrev pub first_goes : (LinOp → (args results : List Spot) → Option ℕ) → List Line → Option ℕ
first_goes goes [] = None
first_goes goes (i ∷ next) =
    cond (is_label_line i.op i.args i.results) (first_goes goes next) (goes i.op i.args i.results)

-- where the first line that is no label jumps
abbrev pub leads_to : List Line → Option ℕ
leads_to = first_goes jumps_to

-- where it exits
abbrev pub leaves_to : List Line → Option ℕ
leaves_to = first_goes exits_to

-- the label to which one jumps at once from a label, and else that label itself
abbrev pub next_label : Lin → ℕ → ℕ
next_label m l = unwrap_or (leads_to (after_label l m.code)) l

-- so often one after the other
abbrev pub followed : Lin → ℕ → ℕ → ℕ
followed m zero l = l
followed m (suc n) l = followed m n (next_label m l)

-- where one comes from a label by labels and jumps; jumps that lead round are followed once for
-- each line
abbrev pub final_label : Lin → ℕ → ℕ
final_label m l = followed m (length m.code) l

-- where one comes from there by an exit, and by labels and jumps again
abbrev pub last_exit : Lin → ℕ → Option ℕ
last_exit m l = option_map (final_label m) (leaves_to (after_label (final_label m l) m.code))

-- the function in which jumps go at once where others lead
abbrev pub redirected_all : Lin → Lin
redirected_all m = with_code m (map (redirect (final_label m) (last_exit m)) m.code)

-- ---- changes in any order

-- Lines that have no use are left out, jumps redirected and loops turned, as often as one likes.
-- It is a relation and no function: each line that goes has a reason in terms of walks (`IsUseless`), and
-- at the end no line has one (`IsTidy`).
pub data Tidies (m : Lin) : Lin → Type 0 where
  as_it_is : Tidies m m
  then_leaves : {q r : Lin} → Tidies m q → LeavesOut q r → Tidies m r
  then_redirects : {q r : Lin} → Tidies m q → RedirectsTargets q r → Tidies m r
  then_turns : {q r : Lin} → Tidies m q → Turns q r → Tidies m r
