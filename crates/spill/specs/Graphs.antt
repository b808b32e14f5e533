-- The graphs over which is solved what is lost and what is wanted.
use Rattle.std.specs.Prelude.{◌≡◌, ◌↔◌, ℕ, ◌<◌, Bool, true, cond, ◌&&◌, List, [], ◌∷◌, ◌++◌, Contains}
use Rattle.bs_bits.specs.Set.{has}
use Rattle.bs_words.specs.Contents.{contents}
use Rattle.dataflow.specs.Rows.{set_in_row}
use Rattle.dataflow.specs.declared.flow.Place as place
use Rattle.mach_ir.specs.Meaning.{Everything, destroyed_by, registers_written}
use Rattle.mach_ir.specs.declared.reg.Reg.{Reg}
use Rattle.mach_ir.specs.declared.mach.Instr.{Instr}
use Rattle.mach_ir.specs.declared.mach.MachOp.{MachOp}
use Rattle.mach_ir.specs.declared.mach.Mach.{Mach}
use Rattle.mach_laws.specs.Graph.{code_index, numbers_of_registers, next_places, numbers_read, numbers_written}
use Rattle.liveness.specs.Nodes.{Uses}
use Rattle.mach_ir.specs.Places.{is_unset_location}

-- ---- what is lost

-- a number that is live at the place after an instruction, and not written there
pub record LivesUnwritten (rows : List (List Bool)) (after : ℕ) (registers_written : List ℕ) (n : ℕ) : Type 0 where
  pub live : has (set_in_row rows after) n ≡ true
  pub unwritten : Contains registers_written n → ⊥

abbrev pub IsLivingOver : List (List Bool) → ℕ → ℕ → List ℕ → ℕ → Type 0
IsLivingOver rows after bound registers_written n = (n < bound) × LivesUnwritten rows after registers_written n

-- these are all such numbers below a bound
abbrev pub AreLivingOver : List (List Bool) → ℕ → ℕ → List ℕ → List ℕ → Type 0
AreLivingOver rows after bound registers_written found =
    (n : ℕ) → Contains found n ↔ IsLivingOver rows after bound registers_written n

-- those that an instruction makes
abbrev pub AreMade : List (List Bool) → ℕ → ℕ → List ℕ → MachOp → List ℕ → Type 0
AreMade rows after bound registers_written f found =
    (n : ℕ) → Contains found n ↔
    ((destroyed_by f ≡ Everything) × IsLivingOver rows after bound registers_written n)

-- A place of the graph of liveness as one of this graph: what lives over it comes from it, and reads
-- and writes end what came. Nothing goes aside.
pub record IsLostPlace (rows : List (List Bool)) (after bound : ℕ) (f : MachOp)
    (x y : place.Place) : Type 0 where
  pub next : contents y.next ≡ contents x.next
  pub aside : contents y.aside ≡ []
  pub reads : AreMade rows after bound (contents x.writes) f (contents y.reads)
  pub writes : contents y.writes ≡ contents x.reads ++ contents x.writes

-- what lives over the first instruction of this code
abbrev pub IsMadeBefore : Mach → List (List Bool) → ℕ → List Instr → ℕ → Type 0
IsMadeBefore m rows bound [] n = ⊥
IsMadeBefore m rows bound (i ∷ next) n =
    (destroyed_by i.op ≡ Everything)
    × IsLivingOver rows (code_index m next) bound (numbers_of_registers (registers_written m i)) n

-- the node of the place from which this code is left
pub record IsLostNode (m : Mach) (rows : List (List Bool)) (bound : ℕ) (rest : List Instr)
    (node : place.Place) : Type 0 where
  pub next : contents node.next ≡ next_places m rest
  pub aside : contents node.aside ≡ []
  pub reads : (n : ℕ) → Contains (contents node.reads) n ↔ IsMadeBefore m rows bound rest n
  pub writes : contents node.writes ≡ numbers_read rest ++ numbers_written m rest

-- those of this place and of all after it
pub data AreLostNodes (m : Mach) (rows : List (List Bool)) (bound : ℕ) :
    List Instr → List place.Place → Type 0 where
  at_end : {node : place.Place} → IsLostNode m rows bound [] node →
      AreLostNodes m rows bound [] (node ∷ [])
  before : {i : Instr} {next : List Instr} {node : place.Place} {nodes : List place.Place} →
      IsLostNode m rows bound (i ∷ next) node → AreLostNodes m rows bound next nodes →
      AreLostNodes m rows bound (i ∷ next) (node ∷ nodes)

-- ---- what is wanted

-- the numbers of those operands that are reloaded at a place
abbrev pub reloaded_among : List (List Bool) → ℕ → List Reg → List ℕ
reloaded_among lost p [] = []
reloaded_among lost p (r ∷ rs) =
    cond (is_unset_location r.loc && has (set_in_row lost p) r.number) (r.number ∷ reloaded_among lost p rs)
    (reloaded_among lost p rs)

abbrev pub reloaded_before : Mach → List (List Bool) → List Instr → List ℕ
reloaded_before m lost [] = []
reloaded_before m lost (i ∷ next) = reloaded_among lost (code_index m (i ∷ next)) i.args

-- the graph of liveness, in which reloaded operands alone are read
abbrev pub wanted_uses : Mach → List (List Bool) → Uses
wanted_uses m lost = record { reads = reloaded_before m lost; writes = numbers_written m }

pub record IsWantedPlace (lost : List (List Bool)) (p : ℕ) (args : List Reg) (x y : place.Place) :
    Type 0 where
  pub next : contents y.next ≡ contents x.next
  pub aside : contents y.aside ≡ contents x.aside
  pub reads : contents y.reads ≡ reloaded_among lost p args
  pub writes : contents y.writes ≡ contents x.writes
