use Rattle.std.proofs.Common.{◌≡◌, drop}
use Rattle.cmm_lex.specs.Scanning.{entries_of, find_spelled}
use Rattle.cmm_lex.proofs.words.find_kind.Given as goal

-- none of the entries so far is spelled so
abbrev pub invariant-loop-spelling : goal.invariant-loop-spelling
invariant-loop-spelling l = find_spelled (entries_of (drop l.spelling-index l.entries)) l.text ≡ find_spelled (entries_of l.entries) l.text
