use Rattle.std.proofs.Common.{◌+◌, Some, cond, drop, option_map, option_copied, sym, ap, ◌∙◌}
use Rattle.cmm_meaning.specs.Choices.{last_naming}
use Rattle.eval_frames.specs.Filled.{case_ready, cases_ready}
use Rattle.eval_frames.proofs.Listed.{first_is, naming_turn, naming_end}
use Rattle.eval_frames.proofs.cases.case_for.Goals as goal
use Rattle.eval_frames.proofs.cases.case_for.Goals.{then-is_named, else-is_named}

pub loop-case-init : goal.loop-case-init
loop-case-init c s tail =
    ap (last_naming (cases_ready s tail c.args.cases.now) c.args.number)
    (ap (option_map (case_ready s tail)) c.first-found.ensures.value ∙ first_is s tail c.args.cases.now)

pub loop-case-preserved : goal.loop-case-preserved
loop-case-preserved c s tail =
    let xs = c.args.cases.now in
    let i = c.loop-case.case-index in
    let x = c.case-item.result in
    let k = c.args.number in
    let so_far = option_map (case_ready s tail) (option_copied c.loop-case.found) in
    let rest = cases_ready s tail (drop (i + 1) xs) in
    let turn = sym (naming_turn s tail xs i x k so_far c.loop-case-test.true c.case-item.is) ∙ c.loop-case.invariant s tail in
    elim c.if-is_named.branch [
      | then-is_named w ↦
          ap (λ o. last_naming rest k (option_map (case_ready s tail) (option_copied o))) w.found-is
          ∙ ap (λ t. last_naming rest k (cond t (Some (case_ready s tail x)) so_far)) (sym w.if-is_named.true ∙ c.is_named.ensures)
          ∙ turn
      | else-is_named w ↦
          ap (λ o. last_naming rest k (option_map (case_ready s tail) (option_copied o))) w.found-is
          ∙ ap (λ t. last_naming rest k (cond t (Some (case_ready s tail x)) so_far)) (sym w.if-is_named.false ∙ c.is_named.ensures)
          ∙ turn
    ]

pub returns : goal.returns
returns c s tail =
    sym (naming_end s tail c.args.cases.now c.loop-case.case-index c.args.number (option_map (case_ready s tail) (option_copied c.loop-case.found)) c.loop-case-test.false)
    ∙ c.loop-case.invariant s tail
