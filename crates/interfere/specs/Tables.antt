-- What is known of each register of a function, by number, and the nodes that come of it.
use Rattle.std.specs.Prelude.{◌≡◌, ◌↔◌, ℕ, ◌<◌, List, length, slice_index, AllPairs, Contains}
use Rattle.dataflow.specs.Rows.{set_in_row}
use Rattle.mach_ir.specs.Graph.{moves_of, uses_of}
use Rattle.mach_ir.specs.Walks.{Joined}
use Rattle.mach_ir.specs.declared.graph.Node.{Node}
use Rattle.mach_ir.specs.declared.mach.Mach.{Mach}
use Rattle.mach_ir.specs.declared.reg.Reg.{Reg}
use Rattle.interfere.specs.Members.{AreMembers}
use Rattle.interfere.specs.Pairs.{Has}
use Rattle.interfere.specs.Partners.{partners_in}
use Rattle.interfere.specs.Registers.{IsRegisterAt, AreNumberedRegisters}
use Rattle.interfere.specs.declared.tables.Tables.{Tables}

-- the tables of a function
pub record AreInterferenceTables (m : Mach) (t : Tables) : Type 0 where
  pub registers : AreNumberedRegisters m (length t.joined) t.registers.items
  pub joined : (n k : ℕ) → Has t.joined n k ↔ Joined m n k
  pub partners : (n : ℕ) → partners_in t.partners.items n ≡ moves_of n m.code
  pub uses : (n : ℕ) → slice_index t.uses.items n ≡ uses_of n m.code

-- each register is at its number, and has a row
pub record AreByNumber (t : Tables) : Type 0 where
  pub len : length t.registers.items ≡ length t.joined
  pub number : (n : ℕ) (r : Reg) → IsRegisterAt t.registers.items n r → r.number ≡ n

-- the node of a register
pub record IsInterferenceNode (t : Tables) (r : Reg) (x : Node) : Type 0 where
  pub reg : x.reg ≡ r
  pub neighbours : AreMembers (set_in_row t.joined r.number) x.neighbours
  pub moves : x.moves ≡ partners_in t.partners.items r.number
  pub uses : x.uses ≡ slice_index t.uses.items r.number

-- a node of a register of the tables
pub record IsTableNode (t : Tables) (x : Node) : Type 0 where
  pub there : IsRegisterAt t.registers.items x.reg.number x.reg
  pub node : IsInterferenceNode t x.reg x

-- the node of a register is among these
pub record HasNode (nodes : List Node) (r : Reg) : Type 0 where
  pub node : Node
  pub among : Contains nodes node
  pub reg : node.reg ≡ r

-- the nodes of the registers below a number, rising
pub record AreNodesBelow (t : Tables) (bound : ℕ) (nodes : List Node) : Type 0 where
  pub order : AllPairs (λ (x y : Node). x.reg.number < y.reg.number) nodes
  pub each : (x : Node) → Contains nodes x → IsTableNode t x
  pub below : (x : Node) → Contains nodes x → x.reg.number < bound
  pub whole : (n : ℕ) (r : Reg) → n < bound → IsRegisterAt t.registers.items n r → HasNode nodes r
