use Rattle.std.proofs.Common.{◌≡◌, ◌++◌, List, []}
use Rattle.comballoc.specs.Finished.{finished_scan}
use Rattle.mach_ir.specs.declared.mach.Instr.{Instr}
use Rattle.comballoc.proofs.combining.Scan.take_all.Given as goal

abbrev pub invariant-loop-instr : goal.invariant-loop-instr
invariant-loop-instr l =
    ((rest : List Instr) → finished_scan l.self rest ≡ finished_scan l.fn.self (l.yielded ++ rest))
    × (finished_scan l.self [] ≡ finished_scan l.fn.self l.yielded)
