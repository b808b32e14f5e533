-- The nodes of a flow graph over the places of a function.
use Rattle.std.specs.Prelude.{◌≡◌, ℕ, List, [], ◌∷◌, drop}
use Rattle.bs_words.specs.Contents.{contents}
use Rattle.dataflow.specs.declared.flow.Place as place
use Rattle.mach_ir.specs.Meaning.{tries_at}
use Rattle.mach_ir.specs.declared.mach.Instr.{Instr}
use Rattle.mach_ir.specs.declared.mach.Mach.{Mach}
use Rattle.mach_laws.specs.Graph.{next_places, raise_places, numbers_read, numbers_written}
use Rattle.liveness.specs.declared.edges.Edges.{Edges}

-- where control goes from the place from which this code is left
pub record AreEdges (m : Mach) (rest : List Instr) (edges : Edges) : Type 0 where
  pub next : contents edges.next ≡ next_places m rest
  pub aside : contents edges.aside ≡ raise_places m rest

-- so it is for an instruction at this place, with these tries round it
pub record AreEdgesAt (m : Mach) (p : ℕ) (i : Instr) (tries : List ℕ) (edges : Edges) : Type 0 where
  pub there : (next : List Instr) → drop p m.code ≡ i ∷ next → tries ≡ tries_at (i ∷ next) →
      AreEdges m (i ∷ next) edges

-- what a graph's places read and write, by the code from there on
pub record Uses : Type 0 where
  pub reads : List Instr → List ℕ
  pub writes : List Instr → List ℕ

-- the node of the place from which this code is left
pub record IsLivenessNode (m : Mach) (uses : Uses) (rest : List Instr) (node : place.Place) : Type 0 where
  pub next : contents node.next ≡ next_places m rest
  pub aside : contents node.aside ≡ raise_places m rest
  pub reads : contents node.reads ≡ uses.reads rest
  pub writes : contents node.writes ≡ uses.writes rest

-- those of this place and of all after it
pub data AreLivenessNodes (m : Mach) (uses : Uses) : List Instr → List place.Place → Type 0 where
  at_end : {node : place.Place} → IsLivenessNode m uses [] node → AreLivenessNodes m uses [] (node ∷ [])
  before : {i : Instr} {next : List Instr} {node : place.Place} {nodes : List place.Place} →
      IsLivenessNode m uses (i ∷ next) node → AreLivenessNodes m uses next nodes →
      AreLivenessNodes m uses (i ∷ next) (node ∷ nodes)

-- the registers that instructions read and write
abbrev pub register_uses : Mach → Uses
register_uses m = record { reads = numbers_read; writes = numbers_written m }

-- the node of an instruction from which control goes so
pub record IsNodeWith (m : Mach) (uses : Uses) (i : Instr) (edges : Edges) (node : place.Place) :
    Type 0 where
  pub there : (next : List Instr) → AreEdges m (i ∷ next) edges → IsLivenessNode m uses (i ∷ next) node
