-- The intervals of a function as a table, and the order in which linear scan takes the registers of a graph.
use Rattle.std.specs.Prelude.{◌≡◌, ◌↔◌, ◌⊎◌, ℕ, ◌<◌, ◌≤◌, List, [], Option, Some, None, AllPairs, Contains, not, nat_eq}
use Rattle.bs_words.specs.Contents.{contents}
use Rattle.bs_words.specs.declared.types.Loc.TheVariants as loc
use Rattle.mach_ir.specs.Graph.{InGraph, JoinedIn, coloured_location}
use Rattle.mach_ir.specs.Placed.{colour_numbers}
use Rattle.mach_ir.specs.declared.graph.Colours.{Colours}
use Rattle.mach_ir.specs.declared.graph.Graph.{Graph}
use Rattle.mach_ir.specs.declared.graph.Node.{Node}
use Rattle.mach_ir.specs.declared.mach.Mach.{Mach}
use Rattle.mach_ir.specs.declared.reg.Reg.{Reg}
use Rattle.colouring.specs.Chosen.{count_in_colour, fixed, node_at}
use Rattle.linscan_rules.specs.Contract.{Overlaps}
use Rattle.linscan_rules.specs.Ranges.{IsAtPlace, IsInterval}
use Rattle.linscan_rules.specs.Scan.{OpenInterval, ClosedColours, scanned}
use Rattle.linscan_rules.specs.declared.interval.Interval.{Interval}
use Rattle.linscan_rules.specs.declared.interval.Intervals.{Intervals}

-- ---- the table

-- the table says this of a register
abbrev pub IntervalIn : Intervals → ℕ → ℕ → ℕ → Type 0
IntervalIn t n from to = Contains (contents t.list) (record { register = n; from = from; to = to })

-- each register once, by rising number
abbrev pub AreByRegister : Intervals → Type 0
AreByRegister t = AllPairs (λ (x y : Interval). x.register < y.register) (contents t.list)

-- The intervals of a function: one for each register that is at some place, and no other.
pub record IsIntervalsOf (m : Mach) (t : Intervals) : Type 0 where
  pub order : AreByRegister t
  pub exact : (n from to : ℕ) → IntervalIn t n from to → IsInterval m n from to
  pub all : (n p : ℕ) → IsAtPlace m n p → (from : ℕ) × (to : ℕ) × IntervalIn t n from to

-- ---- a graph and a table

-- What linear scan asks of both: each register whose place is open has an interval, and joined
-- registers have intervals that overlap.
pub record IsScannable (g : Graph) (t : Intervals) : Type 0 where
  pub order : AreByRegister t
  pub ranges : (n from to : ℕ) → IntervalIn t n from to → from ≤ to
  pub open_ones : (r : Reg) → InGraph g r → r.loc ≡ loc.Unset →
      (from : ℕ) × (to : ℕ) × IntervalIn t r.number from to
  pub overlap : (n k : ℕ) → JoinedIn g n k → Overlaps (IntervalIn t) n k

-- ---- what is scanned

-- a register of the graph whose place is open, with its interval
pub record IsOpenInterval (g : Graph) (t : Intervals) (x : OpenInterval) : Type 0 where
  pub reg : Reg
  pub among : InGraph g reg
  pub is_open : reg.loc ≡ loc.Unset
  pub number : x.number ≡ reg.number
  pub origin : x.origin ≡ reg.origin
  pub interval : IntervalIn t x.number x.from x.to

-- by where they begin, and of two that begin together by number
abbrev pub StartsBefore : OpenInterval → OpenInterval → Type 0
StartsBefore x y = (x.from < y.from) ⊎ ((x.from ≡ y.from) × (x.number < y.number))

pub record IsScanOrder (g : Graph) (t : Intervals) (rows : List OpenInterval) : Type 0 where
  pub exact : (x : OpenInterval) → Contains rows x ↔ IsOpenInterval g t x
  pub sorted : AllPairs StartsBefore rows

abbrev pub node_neighbours : Option Node → List ℕ
node_neighbours None = []
node_neighbours (Some x) = x.neighbours

-- the registers that the graph joins it with
abbrev pub neighbours_of : Graph → ℕ → List ℕ
neighbours_of g n = node_neighbours (node_at g.nodes n)

-- a colour is closed to a register where the graph joins it with one that is fixed there
abbrev pub closed_by : Graph → ClosedColours
closed_by g x c = not (nat_eq (count_in_colour (fixed g) c (neighbours_of g x.number)) 0)

-- Each register has its fixed place or the one that scanning gives; no other number has one.
pub record IsScannedBy (g : Graph) (t : Intervals) (c : Colours) : Type 0 where
  pub rows : List OpenInterval
  pub ordered : IsScanOrder g t rows
  pub places : (n : ℕ) → coloured_location c n ≡ scanned colour_numbers (closed_by g) [] (fixed g) rows n
