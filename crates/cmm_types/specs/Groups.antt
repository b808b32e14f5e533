-- Forms that are checked alike.
use Rattle.cmm_tree.specs.declared.expr.Form.{Form}
use Rattle.cmm_tree.specs.declared.expr.Form as form
use Rattle.cmm_types.specs.declared.group.FormGroup.{FormGroup}
use Rattle.cmm_types.specs.declared.group.FormGroup.TheVariants.{Leaf, Unary, Binary, Row, Call, Branch, Scope}

abbrev pub group_of : Form → FormGroup
group_of (form.Integer word) = Leaf
group_of (form.Pointer word) = Leaf
group_of (form.Symbol name) = Leaf
group_of (form.Name name) = Leaf
group_of form.Nothing = Leaf
group_of (form.Float' word_at shape operands) = Row
group_of (form.Let' shape bindings p body_at body_ty body) = Scope
group_of (form.Assign' name_at name p value_at value_ty value) = Unary
group_of (form.Operator' op p left_at left_ty left q right_at right_ty right) = Binary
group_of (form.Load' chunk p address_at address_ty address) = Unary
group_of (form.Store' chunk p address_at address_ty address q value_at value_ty value) = Binary
group_of (form.Alloc' header_at header shape operands) = Row
group_of (form.App' p callee_at callee_ty callee shape arguments result result_at) = Call
group_of (form.Extcall' frame name shape arguments result result_at) = Call
group_of (form.Checkbound' p bound_at bound_ty bound q index_at index_ty index) = Binary
group_of (form.Raise' p value_at value_ty value) = Unary
group_of (form.Seq' shape elements) = Row
group_of (form.If' p condition_at condition_ty condition q true_at true_ty on_true r false_at false_ty on_false) =
    Branch
group_of (form.Switch' size_at size p selector_at selector_ty selector shape cases) = Branch
group_of (form.Catch' p body_at body_ty body shape handlers) = Scope
group_of (form.Exit' label_at label shape arguments) = Row
group_of (form.Try' p body_at body_ty body name_at name q handler_at handler_ty handler) = Scope
