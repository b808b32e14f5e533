use Rattle.std.proofs.Common.{ap, sym, ◌∙◌}
use Rattle.cmm_tree.specs.View.{function_view, item_view}
use Rattle.cmm_tree.specs.Symbols.{definition_of}
use Rattle.cmm_types.specs.Gathered.{function_faults, item_faults}
use Rattle.bs_fault.specs.Reported.{noted_all}
use Rattle.cmm_types.proofs.checker.Checker.check_item.Goals as goal

pub returns-in_ok-check_function-in-Function-clause-found : goal.returns-in_ok-check_function-in-Function-clause-found
returns-in_ok-check_function-in-Function-clause-found c =
    let d = definition_of c.args.symbols.now in
    c.in_ok-check_function-in-Function.ensures.found
    ∙ ap (λ f. noted_all (function_faults d (function_view f)) c.args.self.now.found) c.in-Function.function-is
    ∙ sym (ap (λ i. noted_all (item_faults d (item_view i)) c.args.self.now.found) c.in-Function.is)
