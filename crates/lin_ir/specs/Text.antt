-- The text of a Linear function: its name, and a line for each instruction.
use Rattle.std.specs.Prelude.{ℕ, Bool, true, false, List, [], ◌∷◌, ◌++◌, codes}
use Rattle.mach_ir.specs.Words.{comp_letter, location_text, label_text, separator, op_word, op_text, test_word, test_right, right_text}
use Rattle.mach_ir.specs.declared.op.Right.{Right}
use Rattle.mach_ir.specs.declared.op.Right.TheVariants as right
use Rattle.lin_ir.specs.declared.lin.Spot.{Spot}
use Rattle.lin_ir.specs.declared.lin.Flow.{Flow}
use Rattle.lin_ir.specs.declared.lin.Flow.TheVariants as flow
use Rattle.lin_ir.specs.declared.lin.LinOp.{LinOp}
use Rattle.lin_ir.specs.declared.lin.LinOp.TheVariants as lin
use Rattle.lin_ir.specs.declared.lin.Line.{Line}
use Rattle.lin_ir.specs.declared.lin.Lin.{Lin}

-- as `a0:i` or `[3]:i`
abbrev pub spot_text : Spot → List ℕ
spot_text s = location_text (codes "r") s.loc ++ codes ":" ++ comp_letter s.comp

-- each location after its mark, the first of all operands or not
abbrev pub spots_text : Bool → List Spot → List ℕ
spots_text first [] = []
spots_text first (s ∷ ss) = separator first ++ spot_text s ++ spots_text false ss

-- results, and that they are results
abbrev pub results_text : List Spot → List ℕ
results_text [] = []
results_text (s ∷ ss) = spot_text s ++ spots_text false ss ++ codes " = "

abbrev pub are_no_spots : List Spot → Bool
are_no_spots [] = true
are_no_spots (s ∷ ss) = false

abbrev pub labels_text : Bool → List ℕ → List ℕ
labels_text first [] = []
labels_text first (l ∷ ls) = separator first ++ label_text l ++ labels_text false ls

-- ---- control

abbrev pub flow_word : Flow → List ℕ
flow_word (flow.Label l) = label_text l ++ codes ":"
flow_word (flow.Jump l) = codes "jump"
flow_word (flow.Exit l) = codes "jump"
flow_word (flow.Branch t l) = codes "branch" ++ test_word t
flow_word (flow.Switch ls) = codes "switch"
flow_word (flow.PushTrap l) = codes "pushtrap"
flow_word flow.PopTrap = codes "poptrap"
flow_word flow.EnterTrap = codes "entertrap"

-- whether an operand comes before what is after a right operand
abbrev pub stays_first : Bool → Right → Bool
stays_first first right.Register = first
stays_first first (right.Constant w) = false

abbrev pub flow_text : Bool → Flow → List ℕ
flow_text first (flow.Label l) = []
flow_text first (flow.Jump l) = separator first ++ label_text l
flow_text first (flow.Exit l) = separator first ++ label_text l
flow_text first (flow.Branch t l) =
    right_text first (test_right t) ++ separator (stays_first first (test_right t)) ++ label_text l
flow_text first (flow.Switch ls) = labels_text first ls
flow_text first (flow.PushTrap l) = separator first ++ label_text l
flow_text first flow.PopTrap = []
flow_text first flow.EnterTrap = []

abbrev pub lin_word : LinOp → List ℕ
lin_word (lin.Op f) = op_word f
lin_word (lin.Flow f) = flow_word f

abbrev pub lin_op_text : Bool → LinOp → List ℕ
lin_op_text first (lin.Op f) = op_text first f
lin_op_text first (lin.Flow f) = flow_text first f

-- ---- lines

-- a label is not indented
abbrev pub indent_of : LinOp → List ℕ
indent_of (lin.Flow (flow.Label l)) = []
indent_of _ = codes "  "

-- results, the word, operands
abbrev pub line_text : Line → List ℕ
line_text i =
    indent_of i.op ++ results_text i.results ++ lin_word i.op ++ spots_text true i.args
    ++ lin_op_text (are_no_spots i.args) i.op ++ codes "\n"

abbrev pub lines_text : List Line → List ℕ
lines_text [] = []
lines_text (i ∷ is) = line_text i ++ lines_text is

abbrev pub lin_text : Lin → List ℕ
lin_text m = codes "function " ++ m.name ++ codes "\n" ++ lines_text m.code
