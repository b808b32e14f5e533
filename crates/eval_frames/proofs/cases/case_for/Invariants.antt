use Rattle.std.proofs.Common.{◌≡◌, Bool, drop, option_map, option_copied}
use Rattle.cmm_meaning.specs.Evaluation.{Surroundings}
use Rattle.cmm_meaning.specs.Choices.{last_naming, first_case}
use Rattle.eval_frames.specs.Filled.{case_ready, cases_ready}
use Rattle.eval_frames.proofs.cases.case_for.Given as goal

-- the cases that are left say it, where none of them names the number what was found so far
abbrev pub invariant-loop-case : goal.invariant-loop-case
invariant-loop-case l =
    (s : Surroundings) (tail : Bool) → last_naming (cases_ready s tail (drop l.case-index l.cases)) l.number (option_map (case_ready s tail) (option_copied l.found))
    ≡ last_naming (cases_ready s tail l.cases) l.number (first_case (cases_ready s tail l.cases))
