use Rattle.std.proofs.Common.{◌++◌, codes, ap, ◌∙◌}
use Rattle.std.specs.Fmt.{decimal}
use Rattle.bs_fault.proofs.fault.bound_and_point.Goals as goal

pub returns : goal.returns
returns c =
    c.in_ok-push_str.ensures.bytes
    ∙ ap (λ bytes. bytes ++ c.as_str.result.now) c.in_ok-text.ensures
    ∙ ap (λ bytes. (codes ", bound at " ++ decimal c.args.bound) ++ bytes) (c.as_str.ensures.value ∙ c.in_ok-passed.ensures)
