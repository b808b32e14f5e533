use Rattle.std.proofs.Common.{map, reverse, ap, ◌∙◌}
use Rattle.selection_scope.specs.Scoping.{LexicalScope, target_view}
use Rattle.selection_scope.proofs.Scopes.{left-below}
use Rattle.selection_scope.proofs.scope.Scope.leave_labels.Goals as goal

pub returns : goal.returns
returns c = λ front rest e same.
    let v = c.self.view_is in
    let left = ap (λ l. map target_view (reverse l)) c.truncate.ensures.items ∙ left-below target_view c.args.left _ front rest (ap (λ (s : LexicalScope). s.labels) v ∙ e) same in
    let names = ap (λ (s : LexicalScope). s.names) v in
    let labels = ap (λ (s : LexicalScope). s.labels) v in
    cc
