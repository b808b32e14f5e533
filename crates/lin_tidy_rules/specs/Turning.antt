-- Loops that are turned round. Where an exit leads to a branch, the branch is repeated right after
-- the exit, so that a turn of a loop has no jump back to its test.
--
-- The exit pays its unit before the repeated test reads its operands, so lines, units and their order are
-- those of before. A branch that tests first and pays where it is taken would stop a unit too early where
-- the test is stuck.
--
-- The test keeps its label where that is before the exit, and else its opposite leads to a label after the
-- head's branch: both mean the same, and the other choice costs a jump. An exit is not turned where the
-- label comes first after it, nor after a jump or an exit, where it goes later.
use Rattle.std.specs.Prelude.{◌≡◌, ◌≢◌, ℕ, suc, ◌+◌, ◌*◌, Bool, true, false, cond, ◌||◌, ◌&&◌, nat_eq, nat_le, Option, Some, None, List, [], ◌∷◌, ◌++◌, length, AllPairs}
use Rattle.lin_ir.specs.Formed.{labels_in, bare_flow}
use Rattle.lin_ir.specs.Meaning.{after_label, has_label}
use Rattle.lin_ir.specs.Walks.{StandsAsLine}
use Rattle.lin_ir.specs.declared.lin.Flow.{Flow}
use Rattle.lin_ir.specs.declared.lin.Flow.TheVariants as flow
use Rattle.lin_ir.specs.declared.lin.LinOp.{LinOp}
use Rattle.lin_ir.specs.declared.lin.LinOp.TheVariants as lin
use Rattle.lin_ir.specs.declared.lin.Spot.{Spot}
use Rattle.lin_ir.specs.declared.lin.Line.{Line}
use Rattle.lin_ir.specs.declared.lin.Lin.{Lin}
use Rattle.mach_ir.specs.declared.mach.Test.{Test}
use Rattle.linearise_rules.specs.Lowered.{opposite_test, limit_above}
use Rattle.lin_tidy_rules.specs.Leaving.{with_code}

-- A branch to a label, and a label that is put right after it.
pub record Head : Type 0 where
  pub test : Test
  pub args : List Spot
  pub to : ℕ
  pub on : ℕ

-- What an exit to a branch becomes: it goes to a label right after it, where the test of that
-- branch is repeated. Either the test keeps its label, and the other way is a jump, or the other
-- way round.
pub record Turn : Type 0 where
  pub here : ℕ
  pub head : Head
  pub keeps : Bool

abbrev pub branch_line : Test → ℕ → List Spot → Line
branch_line t l args = record { op = lin.Flow (flow.Branch t l); args = args; results = [] }

abbrev pub tested_again : Bool → Head → List Line
tested_again true h = branch_line h.test h.to h.args ∷ bare_flow (flow.Jump h.on) ∷ []
tested_again false h = branch_line (opposite_test h.test) h.on h.args ∷ bare_flow (flow.Jump h.to) ∷ []

-- a label that may be put after a line
abbrev pub label_put : Option ℕ → List Line
label_put None = []
label_put (Some l) = bare_flow (flow.Label l) ∷ []

-- what is in place of a line
abbrev pub turned_line : Option Turn → Option ℕ → Line → List Line
turned_line None opened i = i ∷ label_put opened
turned_line (Some t) opened i =
    bare_flow (flow.Exit t.here) ∷ bare_flow (flow.Label t.here) ∷ tested_again t.keeps t.head

-- all lines, by the number of lines after each
abbrev pub turned_lines : (turns : ℕ → Option Turn) (opens : ℕ → Option ℕ) → List Line → List Line
turned_lines turns opens [] = []
turned_lines turns opens (i ∷ next) =
    turned_line (turns (length next)) (opens (length next)) i ++ turned_lines turns opens next

-- the line is an exit, to a branch after which that label is put
pub record ExitsToBranch (m : Lin) (opens : ℕ → Option ℕ) (i : Line) (h : Head) : Type 0 where
  pub label : ℕ
  pub is : i ≡ bare_flow (flow.Exit label)
  pub rest : List Line
  pub leads : after_label label m.code ≡ branch_line h.test h.to h.args ∷ rest
  pub opened : opens (length rest) ≡ Some h.on

-- the second function is the first with the branch repeated after some exits that lead to it
pub record Turns (m r : Lin) : Type 0 where
  pub turns : ℕ → Option Turn
  pub opens : ℕ → Option ℕ
  pub is : r ≡ with_code m (turned_lines turns opens m.code)
  -- labels are put after branches alone
  pub branches : (i : Line) (next : List Line) (l : ℕ) → StandsAsLine i next m.code →
      opens (length next) ≡ Some l → (h : Head) × (i ≡ branch_line h.test h.to h.args)
  pub each : (i : Line) (next : List Line) (t : Turn) → StandsAsLine i next m.code →
      turns (length next) ≡ Some t → ExitsToBranch m opens i t.head
  -- each label occurs once
  pub labels : AllPairs (λ k l. k ≢ l) (labels_in r.code)

-- ---- which exits are turned

-- New labels, from the first free one on: two for each line, by the number of lines after it.
abbrev pub label_here : ℕ → ℕ → ℕ
label_here free n = free + 2 * n

abbrev pub label_on : ℕ → ℕ → ℕ
label_on free n = suc (free + 2 * n)

-- the branch that comes first
abbrev pub head_by : ℕ → LinOp → (args results : List Spot) → List Line → Option Head
head_by free (lin.Flow (flow.Branch t l)) args [] next =
    Some (record { test = t; args = args; to = l; on = label_on free (length next) })
head_by free _ args results next = None

abbrev pub head_at : ℕ → List Line → Option Head
head_at free [] = None
head_at free (i ∷ next) = head_by free i.op i.args i.results next

-- the label comes first
abbrev pub comes_first : ℕ → List Line → Bool
comes_first l [] = false
comes_first l (i ∷ next) = has_label l i.op

-- a jump or an exit: control does not come to what is right after it
abbrev pub goes_away : LinOp → Bool
goes_away (lin.Flow (flow.Jump l)) = true
goes_away (lin.Flow (flow.Exit l)) = true
goes_away _ = false

-- The label comes first, or after one jump or exit: from an exit control does not come to that, and so
-- it goes.
abbrev pub stands_first : ℕ → List Line → Bool
stands_first l [] = false
stands_first l (i ∷ next) = has_label l i.op || (goes_away i.op && comes_first l next)

-- The branch to which an exit before this code leads, but not where it is there already: right
-- after the label that comes next.
abbrev pub exit_head : Lin → ℕ → LinOp → (args results : List Spot) → List Line → Option Head
exit_head m free (lin.Flow (flow.Exit l)) [] [] next =
    cond (stands_first l next) None (head_at free (after_label l m.code))
exit_head m free _ args results next = None

-- The label of the branch is kept where it is before the exit: there, most often, the loop goes
-- on.
abbrev pub turn_for : Lin → ℕ → List Line → Option Head → Option Turn
turn_for m free next None = None
turn_for m free next (Some h) = Some (record {
  here = label_here free (length next);
  head = h;
  keeps = nat_le (length next) (length (after_label h.to m.code));
})

abbrev pub line_turn : Lin → ℕ → Line → List Line → Option Turn
line_turn m free i next = turn_for m free next (exit_head m free i.op i.args i.results next)

-- the turn of the line with so many lines after it
abbrev pub turn_at : Lin → ℕ → List Line → ℕ → Option Turn
turn_at m free [] n = None
turn_at m free (i ∷ next) n =
    cond (nat_eq (length next) n) (line_turn m free i next) (turn_at m free next n)

-- whether some exit of the code that is turned leads to the branch whose label this is
abbrev pub is_on : ℕ → Option Turn → Bool
is_on l None = false
is_on l (Some t) = nat_eq t.head.on l

abbrev pub is_led_to : Lin → ℕ → ℕ → List Line → Bool
is_led_to m free l [] = false
is_led_to m free l (i ∷ next) = is_on l (line_turn m free i next) || is_led_to m free l next

abbrev pub opened_at : Lin → ℕ → ℕ → Option ℕ
opened_at m free n =
    cond (is_led_to m free (label_on free n) m.code) (Some (label_on free n)) None

-- The function in which each exit that leads to a branch is turned, but one whose label comes right
-- after it.
abbrev pub turned_all : Lin → Lin
turned_all m =
    let free = limit_above (labels_in m.code) in
    with_code m (turned_lines (turn_at m free m.code) (opened_at m free) m.code)
