-- When a Linear function does what a Mach function does.
use Rattle.std.specs.Prelude.{◌≡◌, ℕ, List, ◌++◌, Some, Contains, map}
use Rattle.bs_words.specs.External.{External}
use Rattle.bs_words.specs.Memory.{Memory}
use Rattle.bs_words.specs.declared.values.Value.{Value}
use Rattle.cmm_meaning.specs.Extends.{Shape, shape_of}
use Rattle.cmm_meaning.specs.State.{Doing}
use Rattle.mach_ir.specs.Runs.{ActivationSetting, Tally, RunProgress, first_tally}
use Rattle.mach_ir.specs.Meaning as mach
use Rattle.mach_ir.specs.Acts.{Around}
use Rattle.mach_ir.specs.Keeps.{Proper, Trails, RunsAlike, NamesSymbol, NamesExternal}
use Rattle.mach_ir.specs.Keeps as kept
use Rattle.mach_ir.specs.Walks as walks
use Rattle.mach_ir.specs.declared.mach.MachOp.{MachOp}
use Rattle.mach_ir.specs.declared.mach.MachOp.TheVariants as instr
use Rattle.mach_ir.specs.declared.mach.Mach.{Mach}
use Rattle.mach_ir.specs.declared.op.Op.{Op}
use Rattle.lin_ir.specs.Meaning.{NamedAt, State, linear_start, run_of_linear}
use Rattle.lin_ir.specs.Descriptors.{NoAddrLive}
use Rattle.lin_ir.specs.declared.lin.LinOp.TheVariants as lin
use Rattle.lin_ir.specs.declared.lin.Line.{Line}
use Rattle.lin_ir.specs.declared.lin.Lin.{Lin}

-- The second has pushed the same traps and allocated no less, by the shapes of blocks. What blocks
-- hold between calls is not said: lines of Linear may be done in another order.
-- That memories are the same but for blocks further on would be false then: a line may be stuck before a
-- store is done.
pub record NoLess (x y : Around) : Type 0 where
  pub tries : x.tries ≡ y.tries
  pub more : List Shape
  pub blocks : map shape_of y.memory.blocks ≡ map shape_of x.memory.blocks ++ more

-- what is round a state of each suits
abbrev pub SuitRound : (Around → Around → Type 0) → mach.State → State → Type 0
SuitRound Suit s u = Suit s.around u.around

-- some number of steps of the Linear function comes to a run that reports the same
pub record LinearComes (Suit : Around → Around → Type 0) (r : RunProgress mach.State) (c : ActivationSetting)
    (named : NamedAt) (m : Lin) (s : State) (t : Tally) : Type 0 where
  pub steps : ℕ
  pub alike : RunsAlike (SuitRound Suit) r (run_of_linear c named m steps s t)

-- The Linear function comes to a run that has allocated no less, and to one that has allocated no
-- more: so both allocate the same blocks.
pub record Follows (c : ActivationSetting) (p : Mach) (q : Lin) (named : NamedAt) (s : mach.State) (u : State)
    (t : Tally) (n : ℕ) : Type 0 where
  pub no_less : LinearComes NoLess (mach.run_of_mach c p n s t) c named q u t
  pub no_more : LinearComes Trails (mach.run_of_mach c p n s t) c named q u t

-- the Linear function begins where the Mach function does, and follows it from there
pub record LinearBegins (c : ActivationSetting) (p : Mach) (q : Lin) (named : NamedAt) (arguments : List Value)
    (memory : Memory) (doings : List Doing) (s : mach.State) : Type 0 where
  pub state : State
  pub begins : linear_start c q arguments memory ≡ Some state
  pub follows : (n : ℕ) → Proper c p n s (first_tally c doings) →
      Follows c p q named s state (first_tally c doings) n

abbrev pub LinearSimulation : Mach → Lin → NamedAt → Type 0
LinearSimulation p q named =
    (c : ActivationSetting) (arguments : List Value) (memory : Memory) (doings : List Doing)
    (s : mach.State) → mach.mach_start c p arguments memory ≡ Some s →
    LinearBegins c p q named arguments memory doings s

-- some line of the function has an operation that names it
pub record IsNamedIn (Named : MachOp → Type 0) (m : Lin) : Type 0 where
  pub line : Line
  pub among : Contains m.code line
  pub op : Op
  pub is : line.op ≡ lin.Op op
  pub named : Named (instr.Op op)

-- With these names at its frame points, a Linear function does what a Mach function does wherever
-- that is not stuck, so it never reads poison there.
pub record LinearKeeps (p : Mach) (q : Lin) (named : NamedAt) : Type 0 where
  pub name : q.name ≡ p.name
  pub result : q.result ≡ p.result
  pub does : LinearSimulation p q named
  pub symbols : (name : List ℕ) → IsNamedIn (NamesSymbol name) q →
      kept.IsNamedIn (NamesSymbol name) p
  pub externals : (row : External) → IsNamedIn (NamesExternal row) q →
      kept.IsNamedIn (NamesExternal row) p
  pub addrs : walks.NoAddrLive p → NoAddrLive q
