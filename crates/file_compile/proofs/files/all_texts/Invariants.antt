use Rattle.std.proofs.Common.{take, map}
use Rattle.cmm_tree.specs.View.{function_view}
use Rattle.file_compile.specs.Listed.{AreFunctionTexts}
use Rattle.file_compile.proofs.files.all_texts.Given as goal

-- the texts of those that were passed
abbrev pub invariant-loop-function : goal.invariant-loop-function
invariant-loop-function l =
    AreFunctionTexts l.choices l.stage (map (λ f. function_view f.now) (take l.function-index l.functions)) l.text.items
