-- The graphs over which is solved what is stale and what is fresh.
use Rattle.std.specs.Prelude.{◌≡◌, ◌↔◌, ℕ, Bool, true, false, List, [], ◌∷◌, Contains}
use Rattle.bs_bits.specs.Set.{has}
use Rattle.bs_words.specs.Contents.{contents}
use Rattle.dataflow.specs.Flow.{IsBare}
use Rattle.dataflow.specs.Rows.{set_in_row}
use Rattle.dataflow.specs.declared.flow.Place as place
use Rattle.mach_ir.specs.Meaning.{registers_written}
use Rattle.mach_ir.specs.declared.mach.Instr.{Instr}
use Rattle.mach_ir.specs.declared.mach.Mach.{Mach}
use Rattle.mach_ir.specs.declared.mach.MachOp.{MachOp}
use Rattle.mach_ir.specs.declared.mach.MachOp.TheVariants as mach
use Rattle.mach_ir.specs.declared.mach.Mark.TheVariants as mark
use Rattle.mach_ir.specs.declared.op.Calling.TheVariants as calling
use Rattle.mach_ir.specs.declared.op.Op.TheVariants as op
use Rattle.mach_laws.specs.Graph.{code_index, numbers_of_registers, next_places, raise_places}

-- whether it destroys every colour and goes on
abbrev pub destroys_colours : MachOp → Bool
destroys_colours (mach.Op (op.Pure f)) = false
destroys_colours (mach.Op (op.Access f)) = false
destroys_colours (mach.Op (op.Calling (calling.Call whom result))) = true
destroys_colours (mach.Op (op.Calling (calling.TailCall whom result))) = false
destroys_colours (mach.Op (op.Calling (calling.External set_in_row frame))) = false
destroys_colours (mach.Op (op.Leaving f)) = false
destroys_colours (mach.Mark (mark.Handler l)) = true
destroys_colours (mach.Mark _) = false

-- a number that is live at a place, and none of these
pub record LivesAt (rows : List (List Bool)) (p : ℕ) (except : List ℕ) (n : ℕ) : Type 0 where
  pub live : has (set_in_row rows p) n ≡ true
  pub other : Contains except n → ⊥

abbrev pub AreLiving : List (List Bool) → ℕ → List ℕ → List ℕ → Type 0
AreLiving rows p except found = (n : ℕ) → Contains found n ↔ LivesAt rows p except n

-- a number that lives over an instruction which is followed by this place, and writes these
abbrev pub IsOver : List (List Bool) → ℕ → MachOp → List ℕ → ℕ → Type 0
IsOver rows after f registers_written n = (destroys_colours f ≡ true) × LivesAt rows after registers_written n

abbrev pub AreOver : List (List Bool) → ℕ → MachOp → List ℕ → List ℕ → Type 0
AreOver rows after f registers_written found = (n : ℕ) → Contains found n ↔ IsOver rows after f registers_written n

-- a place of the graph of liveness as one of this graph
pub record IsStalePlace (rows : List (List Bool)) (after : ℕ) (f : MachOp) (x y : place.Place) :
    Type 0 where
  pub next : contents y.next ≡ contents x.next
  pub aside : contents y.aside ≡ contents x.aside
  pub reads : AreOver rows after f (contents x.writes) (contents y.reads)
  pub writes : contents y.writes ≡ contents x.writes

-- the place that stands for the entry
pub record IsSinkEntry (m : Mach) (rows : List (List Bool)) (x : place.Place) : Type 0 where
  pub next : contents x.next ≡ 0 ∷ []
  pub aside : contents x.aside ≡ []
  pub reads : AreLiving rows 0 (numbers_of_registers m.params) (contents x.reads)
  pub writes : AreLiving rows 0 [] (contents x.writes)

-- ---- nodes

-- the nodes of a code: of its end, and of each instruction, known by the code after it
pub data AreCodeNodes (E : place.Place → Type 0) (N : Instr → List Instr → place.Place → Type 0) :
    List Instr → List place.Place → Type 0 where
  at_end : {node : place.Place} → E node → AreCodeNodes E N [] (node ∷ [])
  before : {i : Instr} {next : List Instr} {node : place.Place} {nodes : List place.Place} →
      N i next node → AreCodeNodes E N next nodes → AreCodeNodes E N (i ∷ next) (node ∷ nodes)

-- what comes from a place, and what it kills
pub record IsStaleNode (m : Mach) (rows : List (List Bool)) (i : Instr) (next : List Instr)
    (node : place.Place) : Type 0 where
  pub next_is : contents node.next ≡ next_places m (i ∷ next)
  pub aside : contents node.aside ≡ raise_places m (i ∷ next)
  pub reads : AreOver rows (code_index m next) i.op (numbers_of_registers (registers_written m i)) (contents node.reads)
  pub writes : contents node.writes ≡ numbers_of_registers (registers_written m i)

abbrev pub AreStaleNodes : Mach → List (List Bool) → List Instr → List place.Place → Type 0
AreStaleNodes m rows = AreCodeNodes (IsSinkEntry m rows) (IsStaleNode m rows)

pub record IsFreshNode (m : Mach) (rows : List (List Bool)) (i : Instr) (next : List Instr)
    (node : place.Place) : Type 0 where
  pub next_is : contents node.next ≡ next_places m (i ∷ next)
  pub aside : contents node.aside ≡ raise_places m (i ∷ next)
  pub reads : contents node.reads ≡ numbers_of_registers (registers_written m i)
  pub writes : AreOver rows (code_index m next) i.op (numbers_of_registers (registers_written m i)) (contents node.writes)

abbrev pub AreFreshNodes : Mach → List (List Bool) → List Instr → List place.Place → Type 0
AreFreshNodes m rows = AreCodeNodes IsBare (IsFreshNode m rows)

-- the same place with what it reads and writes exchanged
pub record IsTurned (x y : place.Place) : Type 0 where
  pub next : y.next ≡ x.next
  pub aside : y.aside ≡ x.aside
  pub reads : y.reads ≡ x.writes
  pub writes : y.writes ≡ x.reads

-- all but the last, which is bare
pub data AreTurned : List place.Place → List place.Place → Type 0 where
  turned_end : {x y : place.Place} → IsBare y → AreTurned (x ∷ []) (y ∷ [])
  turned_before : {x y : place.Place} {xs ys : List place.Place} → IsTurned x y →
      AreTurned xs ys → AreTurned (x ∷ xs) (y ∷ ys)
