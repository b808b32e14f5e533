-- What linear scan takes, of what scanning promises.
use Rattle.std.proofs.Common.{ℕ, Result, Ok, Err}
use Rattle.std.specs.Prelude.{IfOk}
use Rattle.mach_ir.specs.Graph.{InGraph, coloured_location}
use Rattle.mach_ir.specs.declared.graph.Colours.{Colours}
use Rattle.mach_ir.specs.declared.graph.Graph.{Graph}
use Rattle.mach_ir.specs.declared.mach.Mach.{Mach}
use Rattle.linscan_rules.specs.Contract.{Overlaps, NoNeedlessSlotByIntervals}
use Rattle.linscan_rules.specs.Ranges.{IsInterval}
use Rattle.linscan_rules.specs.Table.{IntervalIn, IsIntervalsOf, IsScannedBy}
use Rattle.linscan_rules.specs.declared.interval.Intervals.{Intervals}
use Rattle.reg_rounds_rules.specs.Rounds.{IsLinearScan}

module _ (m : Mach) (g : Graph) (t : Intervals) (of : IsIntervalsOf m t) where
  of_function : (n k : ℕ) → Overlaps (IntervalIn t) n k → Overlaps (IsInterval m) n k
  of_function n k o = record {
    from = o.from;
    to = o.to;
    other_from = o.other_from;
    other_to = o.other_to;
    one = of.exact n o.from o.to o.one;
    two = of.exact k o.other_from o.other_to o.two;
    overlap = o.overlap;
  }

  taken : (c : Colours) → NoNeedlessSlotByIntervals (InGraph g) (IntervalIn t) (coloured_location c) → IsScannedBy g t c → IsLinearScan m g c
  taken c full by = record {
    intervals = t;
    of_function = of;
    no_needless =
        record {
          full = λ r i u k e n among. let w = full.full r i u k e n among in (w.0, w.1, of_function r.number (w.0).number w.2, w.3);
        };
    scanned = by;
  }

  pub scan_taken : {E : Type 0} (r : Result Colours E) → IfOk r (λ (c : Colours). NoNeedlessSlotByIntervals (InGraph g) (IntervalIn t) (coloured_location c)) →
      IfOk r (IsScannedBy g t) → IfOk r (IsLinearScan m g)
  scan_taken (Ok c) full by = taken c full by
  scan_taken (Err e) full by = tt
