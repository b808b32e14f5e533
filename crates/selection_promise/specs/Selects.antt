-- What selection promises of the Mach function that it makes of a function of an accepted file.
--
-- It asks for runs that are nowhere stuck, since that is the premise of what a pass keeps: so a pass that
-- keeps carries the text's meaning on.
use Rattle.std.specs.Prelude.{◌≡◌, ◌≢◌, ℕ, ◌-◌, ◌*◌, List, Option, All, Contains}
use Rattle.bs_words.specs.External.{External}
use Rattle.bs_words.specs.declared.types.Comp.TheVariants as comp
use Rattle.bs_words.specs.declared.types.Loc.TheVariants as loc
use Rattle.cmm_grammar.specs.Covered.{IsCovered}
use Rattle.cmm_tree.specs.Measures.{all_tries}
use Rattle.cmm_tree.specs.Symbols.{DefinedSymbol}
use Rattle.cmm_tree.specs.Tree.{FunctionTree, comps_of}
use Rattle.cmm_types.specs.Types.{body_type, result_of}
use Rattle.walk_tables.specs.AddrLive.{IsLiveIn}
use Rattle.correctness.specs.Measures.{tries}
use Rattle.mach_ir.specs.Formed.{WellFormed, comps}
use Rattle.mach_ir.specs.Keeps.{IsNamedIn, NamesSymbol, NamesExternal}
use Rattle.mach_ir.specs.Placed.{WellPlaced, AllocatesFresh}
use Rattle.mach_ir.specs.Seats.{Seated}
use Rattle.mach_ir.specs.Sizes.{Size, HasSize, IsSmallSize, OpenAtMost}
use Rattle.mach_ir.specs.Walks.{IsRegister, NoAddrLive}
use Rattle.mach_ir.specs.declared.blocks.NewBlock.{NewBlock}
use Rattle.mach_ir.specs.declared.mach.Instr.{Instr}
use Rattle.mach_ir.specs.declared.mach.Mach.{Mach}
use Rattle.mach_ir.specs.declared.mach.MachOp.TheVariants as mach
use Rattle.mach_ir.specs.declared.op.Access.TheVariants as access
use Rattle.mach_ir.specs.declared.op.Op.TheVariants as op
use Rattle.mach_ir.specs.declared.reg.Reg.{Reg}
use Rattle.pass_rules.specs.Carried.{TriesAtMost, OffsetFits}
use Rattle.selection_walks.specs.Known.{Accepted, FunctionNames, FunctionCalls}
use Rattle.selection_promise.specs.Runs.{PlaysAs}

-- What the front has found of a function that it accepts, where these symbols are defined.
pub record IsAccepted (defined : List ℕ → Option DefinedSymbol) (f : FunctionTree) : Type 0 where
  -- it keeps the limits, has no fault of types, and each switch has a case
  pub checked : Accepted defined f
  -- its tokens cover its nodes, values and tries
  pub covered : IsCovered f
  -- no address is used after a frame point that it was bound before
  pub settled : (bound point used : ℕ) → IsLiveIn f bound point used → ⊥

-- how large the Mach function of so many tokens is at most
abbrev pub size_by : ℕ → Size
size_by tokens =
    record {
      instrs = 184 * tokens;
      operands = 184 * tokens;
      registers = 23 * tokens;
      labels = 23 * tokens;
    }

pub record Selects (f : FunctionTree) (m : Mach) : Type 0 where
  -- its name, its parameters and its result are those of the text
  pub name : m.name ≡ f.name
  pub params : comps m.params ≡ comps_of f
  pub result : m.result ≡ result_of (body_type f)
  -- it does what the text's function does, wherever that is proper
  pub plays : PlaysAs f m
  pub formed : WellFormed m
  -- arguments, results and raised values are at the places of the conventions
  pub seated : Seated m
  -- joined registers are apart, none is in a slot, and none is made from another
  pub placed : WellPlaced m
  pub no_slot : (r : Reg) → IsRegister m r → (slot : ℕ) → r.loc ≢ loc.Slot slot
  pub origins : (r : Reg) → IsRegister m r → r.origin ≡ r.number
  -- what an allocation writes is a register of its own, of component val
  pub allocates : AllocatesFresh m
  pub starts : (i : Instr) (blocks : List NewBlock) → Contains m.code i →
      i.op ≡ mach.Op (op.Access (access.Alloc blocks)) → (r : Reg) → Contains i.results r →
      r.comp ≡ comp.Val
  -- at most two open registers for each token, where a try takes a token less
  pub open_registers : OpenAtMost m (2 * (f.tokens - all_tries f.body))
  pub no_addr : NoAddrLive m
  -- no more tries are round a place than are round one of the text
  pub tries : TriesAtMost m (tries f)
  -- offsets are words, and every number fits its type
  pub offsets : All (λ (i : Instr). OffsetFits i.op) m.code
  pub size : HasSize m (size_by f.tokens)
  pub small : IsSmallSize (size_by f.tokens)
  -- it names no symbol and no external call that the text does not name
  pub symbols : (name : List ℕ) → IsNamedIn (NamesSymbol name) m → FunctionNames f name
  pub externals : (row : External) → IsNamedIn (NamesExternal row) m → FunctionCalls f row
