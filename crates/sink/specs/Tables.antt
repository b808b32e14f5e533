-- What the tables of a function say: exactly what is stale or fresh, of what is live.
use Rattle.std.specs.Prelude.{◌≡◌, ◌↔◌, ℕ, ◌≤◌, Bool, true, List, length, drop}
use Rattle.bs_bits.specs.Set.{has}
use Rattle.dataflow.specs.Rows.{set_in_row}
use Rattle.bs_words.specs.Contents.{contents}
use Rattle.dataflow.specs.Flow as flows
use Rattle.mach_ir.specs.Walks.{Live}
use Rattle.mach_ir.specs.declared.graph.LiveMap.{LiveMap}
use Rattle.mach_ir.specs.declared.mach.Mach.{Mach}
use Rattle.sink_rules.specs.Walks.{Fresh, Stale}
use Rattle.sink.specs.Graphs.{AreFreshNodes}
use Rattle.sink.specs.declared.solved.Solved.{Solved}

pub record AreStale (m : Mach) (rows : List (List Bool)) : Type 0 where
  pub exact : (p n : ℕ) → p ≤ length m.code → Live m n (drop p m.code) →
      (has (set_in_row rows p) n ≡ true) ↔ Stale m n (drop p m.code)

pub record AreFresh (m : Mach) (rows : List (List Bool)) : Type 0 where
  pub exact : (p n : ℕ) → p ≤ length m.code → Live m n (drop p m.code) →
      (has (set_in_row rows p) n ≡ true) ↔ Fresh m n (drop p m.code)

-- both, with the graph of what is fresh
pub record IsSolved (m : Mach) (live : LiveMap) (bound : ℕ) (s : Solved) : Type 0 where
  pub bound_is : s.graph.bound ≡ bound
  pub formed : flows.IsFlowFormed s.graph
  pub nodes : AreFreshNodes m live.before.rows.items m.code (contents s.graph.places)
  pub fresh : AreFresh m s.fresh.rows.items
  pub stale : AreStale m s.stale.rows.items
