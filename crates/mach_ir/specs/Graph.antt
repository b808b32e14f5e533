-- What is live in a function, its graph of interference and places for its registers, as tables.
use Rattle.std.specs.Prelude.{◌≡◌, ◌↔◌, ℕ, suc, ◌+◌, ◌<◌, Bool, true, false, cond, nat_eq, List, [], ◌∷◌, ◌++◌, drop, length, map, slice_index_or, All, AllPairs, Contains}
use Rattle.bs_words.specs.declared.types.Loc.TheVariants as loc
use Rattle.bs_bits.specs.Set.{has}
use Rattle.dataflow.specs.Rows.{set_in_row}
use Rattle.mach_ir.specs.Placed.{Colouring, LocationsAgree}
use Rattle.mach_ir.specs.Walks.{Live, IsRegister, Joined}
use Rattle.mach_ir.specs.declared.op.Op.{Op}
use Rattle.mach_ir.specs.declared.op.Op.TheVariants as op
use Rattle.mach_ir.specs.declared.op.CopyKind.TheVariants as copy
use Rattle.mach_ir.specs.declared.op.Pure.TheVariants as pure
use Rattle.mach_ir.specs.declared.reg.Reg.{Reg}
use Rattle.mach_ir.specs.declared.mach.Instr.{Instr}
use Rattle.mach_ir.specs.declared.mach.MachOp.{MachOp}
use Rattle.mach_ir.specs.declared.mach.MachOp.TheVariants as mach
use Rattle.mach_ir.specs.declared.mach.Mach.{Mach}
use Rattle.mach_ir.specs.declared.graph.LiveMap.{LiveMap}
use Rattle.mach_ir.specs.declared.graph.Node.{Node}
use Rattle.mach_ir.specs.declared.graph.Graph.{Graph}
use Rattle.mach_ir.specs.declared.graph.Colours.{Colours}

-- Before each instruction, and after the last, exactly those registers that some walk from there
-- reads before it writes them.
pub record IsLiveMap (m : Mach) (live : LiveMap) : Type 0 where
  pub len : length live.before.rows.items ≡ suc (length m.code)
  pub exact : (p n : ℕ) →
      (has (set_in_row live.before.rows.items p) n ≡ true) ↔ Live m n (drop p m.code)

-- ---- a graph alone

-- a register of the graph
abbrev pub InGraph : Graph → Reg → Type 0
InGraph g r = Contains (map (λ (x : Node). x.reg) g.nodes) r

-- two registers, by number, that the graph joins
pub record JoinedIn (g : Graph) (n k : ℕ) : Type 0 where
  pub node : Node
  pub among : Contains g.nodes node
  pub number : node.reg.number ≡ n
  pub joins : Contains node.neighbours k

-- the nodes by rising number
abbrev pub IsOrdered : Graph → Type 0
IsOrdered g = AllPairs (λ (x y : Node). x.reg.number < y.reg.number) g.nodes

-- the neighbours of each by rising number
abbrev pub AreSorted : Graph → Type 0
AreSorted g = All (λ (x : Node). AllPairs ◌<◌ x.neighbours) g.nodes

-- this number, where the other is that of the register
abbrev pub partner : ℕ → ℕ → ℕ → List ℕ
partner n k other = cond (nat_eq n k) (other ∷ []) []

-- whether it takes the value of a register to another
abbrev pub is_move : MachOp → Bool
is_move (mach.Op (op.Pure (pure.Copy copy.Move))) = true
is_move (mach.Op (op.Pure (pure.Copy copy.Spill))) = false
is_move (mach.Op (op.Pure (pure.Copy copy.Reload))) = false
is_move (mach.Op (op.Pure (pure.Constant w))) = false
is_move (mach.Op (op.Pure (pure.Symbol name))) = false
is_move (mach.Op (op.Pure (pure.Operator f r))) = false
is_move (mach.Op (op.Access f)) = false
is_move (mach.Op (op.Calling f)) = false
is_move (mach.Op (op.Leaving f)) = false
is_move (mach.Mark f) = false

-- the other registers of a move from or to a register
abbrev pub moved_with : ℕ → Op → List Reg → List Reg → List ℕ
moved_with n (op.Pure (pure.Copy copy.Move)) (r ∷ []) (q ∷ []) =
    partner n r.number q.number ++ partner n q.number r.number
moved_with n _ _ _ = []

abbrev pub moved_by : ℕ → MachOp → List Reg → List Reg → List ℕ
moved_by n (mach.Op f) args results = moved_with n f args results
moved_by n (mach.Mark f) args results = []

-- the registers that moves of the code take it from or to
abbrev pub moves_of : ℕ → List Instr → List ℕ
moves_of n [] = []
moves_of n (i ∷ is) = moved_by n i.op i.args i.results ++ moves_of n is

-- how often a register is among these
abbrev pub times_among : ℕ → List Reg → ℕ
times_among n [] = 0
times_among n (r ∷ rs) = cond (nat_eq n r.number) 1 0 + times_among n rs

-- how often the code reads or writes it
abbrev pub uses_of : ℕ → List Instr → ℕ
uses_of n [] = 0
uses_of n (i ∷ is) = times_among n i.args + times_among n i.results + uses_of n is

-- The graph of a function: its registers, exactly its edges, its moves and its uses.
-- Nodes and neighbours are by rising number, so that the graph is determined by the function, and with it
-- the colouring.
pub record IsGraph (m : Mach) (g : Graph) : Type 0 where
  pub order : IsOrdered g
  pub sorted : AreSorted g
  pub registers : (r : Reg) → InGraph g r ↔ IsRegister m r
  pub edges : (r : Reg) → IsRegister m r → (k : ℕ) → JoinedIn g r.number k ↔ Joined m r.number k
  pub moves : All (λ (x : Node). x.moves ≡ moves_of x.reg.number m.code) g.nodes
  pub uses : All (λ (x : Node). x.uses ≡ uses_of x.reg.number m.code) g.nodes

-- what colouring asks of a graph: as that of a function it joins both ways, and nothing with itself
pub record IsColourable (g : Graph) : Type 0 where
  pub order : IsOrdered g
  pub symmetric : (n k : ℕ) → JoinedIn g n k → JoinedIn g k n
  pub apart_from_itself : (n : ℕ) → JoinedIn g n n → ⊥
  pub agree : LocationsAgree (InGraph g) (JoinedIn g)

-- ---- places

-- a register that the table does not have is open
abbrev pub coloured_location : Colours → Colouring
coloured_location c n = slice_index_or c.places n loc.Unset
