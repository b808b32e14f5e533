-- What a node does first.
use Rattle.cmm_tree.specs.declared.expr.Form.{Form}
use Rattle.cmm_tree.specs.declared.expr.Form as form
use Rattle.eval_frames.specs.declared.group.EvaluationGroup.{EvaluationGroup}
use Rattle.eval_frames.specs.declared.group.EvaluationGroup.TheVariants.{Float, Leaf, One, Two, Row, Sequence, Scope}

abbrev pub evaluation_group : Form → EvaluationGroup
evaluation_group (form.Integer n) = Leaf
evaluation_group (form.Pointer n) = Leaf
evaluation_group (form.Symbol name) = Leaf
evaluation_group (form.Name name) = Leaf
evaluation_group form.Nothing = Leaf
evaluation_group (form.Float' word_at shape operands) = Float
evaluation_group (form.Let' shape bindings p at type body) = Scope
evaluation_group (form.Assign' name_at name p at type e) = One
evaluation_group (form.Operator' op p left_at left_type left q right_at right_type right) = Two
evaluation_group (form.Load' chunk p at type address) = One
evaluation_group (form.Store' chunk p address_at address_type address q value_at value_type e) = Two
evaluation_group (form.Alloc' header_at header shape operands) = Row
evaluation_group (form.App' p at type callee shape arguments result result_at) = Row
evaluation_group (form.Extcall' frame name shape arguments result result_at) = Row
evaluation_group (form.Checkbound' p bound_at bound_type bound q index_at index_type index) = Two
evaluation_group (form.Raise' p at type e) = One
evaluation_group (form.Seq' shape elements) = Sequence
evaluation_group (form.If' p at type condition q true_at true_type on_true r false_at false_type on_false) =
    One
evaluation_group (form.Switch' size_at size p at type selector shape cases) = One
evaluation_group (form.Catch' p at type body shape handlers) = Scope
evaluation_group (form.Exit' label_at label shape arguments) = Row
evaluation_group (form.Try' p at type body name_at name q handler_at handler_type handler) = Scope
