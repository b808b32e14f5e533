use Rattle.std.proofs.Common.{◌≡◌, ◌-◌, ◌++◌}
use Rattle.cmm_gen.specs.Drawn.{text_from, text_of}
use Rattle.cmm_gen.specs.Drawing.{drawn, generator}
use Rattle.cmm_gen.proofs.texts.generate.Given as goal

-- what is written, with what is still drawn, is the whole
abbrev pub invariant-loop-number : goal.invariant-loop-number
invariant-loop-number l =
    l.text.bytes.items ++ text_from l.number (drawn (l.fn.functions - l.number) l.words) ≡ text_of (drawn l.fn.functions (generator l.fn.seed))
