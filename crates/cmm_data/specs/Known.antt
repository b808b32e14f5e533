-- Words of crates below, named again for the crates above.
pub use Rattle.cmm_tree.specs.Tree.{Alloc, App, Assign, Bind, Bindings, Cases, Catch, Checkbound, Choose, Exit, Expression, Expressions, Extcall, FileTree, Float, FunctionTree, Handle, Handlers, If, Index, Integer, LabelTree, Let, Load, More, Name, NoBinding, NoCase, NoHandler, NoMore, Nothing, Operator, Parameter, Pointer, Raise, Seq, Store, Switch, Symbol, Try, comps_of, functions, is_bare, same_label}
pub use Rattle.cmm_tree.specs.View.{row_view}
pub use Rattle.cmm_tree.specs.declared.expr.Form.{Row_of-Expr, end_of-Expr, more_of-Expr}
