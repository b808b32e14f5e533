use Rattle.mach_laws.proofs.Colouring.{colourable}
use Rattle.linscan_rules.proofs.Tables.{scannable}
use Rattle.reg_rounds.proofs.Scanned.{scan_taken}
use Rattle.reg_rounds.proofs.choosing.scanned_places.Goals as goal

pub scan-requires-clause-colourable : goal.scan-requires-clause-colourable
scan-requires-clause-colourable c = colourable c.args.mach.now c.args.graph.now c.requires.graph c.requires.placed

pub scan-requires-clause-scannable : goal.scan-requires-clause-scannable
scan-requires-clause-scannable c =
    scannable c.args.mach.now c.args.graph.now c.in_ok-intervals.intervals (c.requires.placed).colours c.requires.graph c.in_ok-intervals.ensures

pub returns-clause-taken : goal.returns-clause-taken
returns-clause-taken c =
    scan_taken c.args.mach.now c.args.graph.now c.in_ok-intervals.intervals c.in_ok-intervals.ensures c.scan.result c.scan.ensures.full c.scan.ensures.value
