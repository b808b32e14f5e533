use Rattle.std.proofs.Common.{◌↔◌, IsTrue, subst}
use Rattle.std.specs.List.{All}
use Rattle.lin_ir.specs.Formed.{Locates}
use Rattle.lin_ir.specs.declared.lin.Line.{Line}
use Rattle.lin_tests.proofs.located.is_located.Goals as goal

pub returns-then-args_are_located : goal.returns-then-args_are_located
returns-then-args_are_located c =
    let m = c.args.lin.now in
    let first : All (λ (i : Line). Locates m i.args) m.code =
    subst (λ code. All (λ (i : Line). Locates m i.args) code) c.as_slice-code.ensures (c.args_are_located.ensures.0 c.if-args_are_located.true) in
    let test : IsTrue c.results_are_located.result ↔ All (λ (i : Line). Locates m i.results) m.code =
    subst (λ code. IsTrue c.results_are_located.result ↔ All (λ (i : Line). Locates m i.results) code) c.as_slice-code.ensures
    c.results_are_located.ensures in (
      λ e. λ k d lt. (first k d lt, test.0 e k d lt),
      λ h. test.1 (λ k d lt. (h k d lt).1),
    )

pub returns-else-args_are_located : goal.returns-else-args_are_located
returns-else-args_are_located c =
    let m = c.args.lin.now in
    let test : IsTrue c.args_are_located.result ↔ All (λ (i : Line). Locates m i.args) m.code =
    subst (λ code. IsTrue c.args_are_located.result ↔ All (λ (i : Line). Locates m i.args) code) c.as_slice-code.ensures
    c.args_are_located.ensures in (
      λ e. let no = c.if-args_are_located.false in absurd (cc),
      λ h. test.1 (λ k d lt. (h k d lt).0),
    )
