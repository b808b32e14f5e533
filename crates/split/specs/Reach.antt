-- Which writes come to each place, by their indexes.
use Rattle.std.specs.Prelude.{◌≡◌, ℕ, ◌≤◌, Bool, true, List, [], ◌∷◌, ◌++◌, Option, Some, None, length, drop, slice_get}
use Rattle.bs_bits.specs.Set.{has}
use Rattle.bs_words.specs.Contents.{contents}
use Rattle.dataflow.specs.Rows.{set_in_row}
use Rattle.dataflow.specs.declared.flow.Place as place
use Rattle.mach_ir.specs.declared.reg.Reg.{Reg}
use Rattle.mach_ir.specs.declared.mach.Instr.{Instr}
use Rattle.mach_ir.specs.declared.mach.Mach.{Mach}
use Rattle.liveness.specs.Nodes.{Uses, AreEdges, IsLivenessNode}
use Rattle.liveness.specs.declared.edges.Edges.{Edges}
use Rattle.split_rules.specs.Writes.{WriteReaches}
use Rattle.split.specs.Writes.{listed_writes, writes_of_number, find_at, code_after}
use Rattle.split_rules.specs.declared.writes.Write.{Write}
use Rattle.split.specs.declared.writes.Writes.{Writes}

abbrev pub listed : Option ℕ → List ℕ
listed None = []
listed (Some w) = w ∷ []

-- the writes of these registers before so many instructions
abbrev pub made_at : Writes → ℕ → List Reg → List ℕ
made_at t k [] = []
made_at t k (r ∷ rs) = listed (find_at (listed_writes t) k (writes_of_number t r.number)) ++ made_at t k rs

-- all writes of these registers
abbrev pub ended_by : Writes → List Reg → List ℕ
ended_by t [] = []
ended_by t (r ∷ rs) = writes_of_number t r.number ++ ended_by t rs

abbrev pub made_before : Writes → List Instr → List ℕ
made_before t [] = []
made_before t (i ∷ next) = made_at t (length next) i.results

abbrev pub ended_before : Writes → List Instr → List ℕ
ended_before t [] = []
ended_before t (i ∷ next) = ended_by t i.results

-- what instructions make and end
abbrev pub write_uses : Writes → Uses
write_uses t = record { reads = made_before t; writes = ended_before t }

-- the node of an instruction that so many come after, and from which control goes so
pub record IsNodeAt (t : Writes) (k : ℕ) (i : Instr) (edges : Edges) (node : place.Place) : Type 0 where
  pub there : (m : Mach) (next : List Instr) → length next ≡ k → AreEdges m (i ∷ next) edges →
      IsLivenessNode m (write_uses t) (i ∷ next) node

-- the node of the entry, which makes its writes and goes to the first place
pub record IsReachingEntry (m : Mach) (t : Writes) (node : place.Place) : Type 0 where
  pub next : contents node.next ≡ 0 ∷ []
  pub aside : contents node.aside ≡ []
  pub reads : contents node.reads ≡ made_at t (length m.code) m.params
  pub writes : contents node.writes ≡ []

-- The sets say which writes come to each place.
pub record AreReaching (m : Mach) (t : Writes) (rows : List (List Bool)) : Type 0 where
  pub sound : (p w : ℕ) → p ≤ length m.code → has (set_in_row rows p) w ≡ true →
      (x : Write) × (slice_get (listed_writes t) w ≡ Some x)
      × WriteReaches m x.number (code_after m x.left) (drop p m.code)
  pub whole : (p w n : ℕ) (from : List Instr) → p ≤ length m.code →
      WriteReaches m n from (drop p m.code) →
      find_at (listed_writes t) (length from) (writes_of_number t n) ≡ Some w → has (set_in_row rows p) w ≡ true
