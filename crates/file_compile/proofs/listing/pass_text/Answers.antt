use Rattle.std.proofs.lemmas.Result.{IfOk-weaker}
use Rattle.bs_words.specs.Contents.{contents}
use Rattle.cmm_tree.specs.View.{function_view}
use Rattle.file_compile.proofs.Passing.{over_mach, over_mach_text}
use Rattle.file_compile.proofs.listing.pass_text.Goals as goal

pub passed_text-requires-clause-over_mach : goal.passed_text-requires-clause-over_mach
passed_text-requires-clause-over_mach c = over_mach c.args.stage c.in_default.not-Alloc c.in_default.not-Linear c.in_default.not-Frames c.in_default.not-Code

pub returns-in_default : goal.returns-in_default
returns-in_default c =
    IfOk-weaker c.passed_text.result _ _
    (λ text is. over_mach_text c.args.choices c.args.stage (function_view c.args.function.now) (contents text)
    (over_mach c.args.stage c.in_default.not-Alloc c.in_default.not-Linear c.in_default.not-Frames c.in_default.not-Code) is)
    c.passed_text.ensures
