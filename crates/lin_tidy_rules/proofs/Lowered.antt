-- The lowered function is one to begin with.
use Rattle.mach_ir.specs.Formed.{WellFormed}
use Rattle.mach_ir.specs.Placed.{FullyPlaced}
use Rattle.mach_ir.specs.Seats.{Seated}
use Rattle.mach_ir.specs.declared.mach.Mach.{Mach}
use Rattle.linearise_rules.specs.Lowered.{lowered}
use Rattle.linearise_rules.proofs.Lowering.{lowered_well_formed, lowered_homes, lowered_traps, lowered_forward, lowered_seated, lowered_changes}
use Rattle.lin_tidy_rules.specs.Regular.{IsRegular}
use Rattle.lin_tidy_rules.proofs.Descending.{goes_down}

-- The lowered function is regular.
pub lowered_regular : (p : Mach) → WellFormed p → FullyPlaced p → Seated p → IsRegular (lowered p)
lowered_regular p well full seated =
    record {
      well = lowered_well_formed p well full;
      homes = lowered_homes p well full;
      traps = lowered_traps p well full;
      down = goes_down (lowered p) (lowered_well_formed p well full).labels (lowered_forward p well full);
      seated = lowered_seated p well full seated;
      changes = lowered_changes p well full;
    }
