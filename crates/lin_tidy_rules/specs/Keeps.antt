-- When a Linear function does what another does, wherever that is nowhere stuck and nothing is lost
-- at frame points.
use Rattle.std.specs.Prelude.{◌≡◌, ℕ, List, Some}
use Rattle.bs_words.specs.External.{External}
use Rattle.bs_words.specs.Memory.{Memory}
use Rattle.bs_words.specs.declared.values.Value.{Value}
use Rattle.cmm_meaning.specs.State.{Doing}
use Rattle.mach_ir.specs.Runs.{ActivationSetting, first_tally}
use Rattle.mach_ir.specs.Keeps.{NamesSymbol, NamesExternal}
use Rattle.lin_ir.specs.Meaning.{State, linear_start}
use Rattle.lin_ir.specs.Keeps.{IsNamedIn}
use Rattle.lin_ir.specs.declared.lin.Lin.{Lin}
use Rattle.linearise_rules.specs.Keeps.{NoAddrReached}
use Rattle.linearise_rules.specs.Kept.{run_of_lowered, Proper, LosslessComes}

-- both have the same memory, unwritten cells, traps and raised value
abbrev pub SameRound : State → State → Type 0
SameRound s u = s.around ≡ u.around

-- The second begins where the first does, and comes to what that comes to. What states of both have
-- in common while both are under way is handed in.
pub record TidyBegins (Suit : State → State → Type 0) (c : ActivationSetting) (m r : Lin) (arguments : List Value)
    (memory : Memory) (doings : List Doing) (s : State) : Type 0 where
  pub state : State
  pub begins : linear_start c r arguments memory ≡ Some state
  pub follows : (n : ℕ) → Proper c m n s (first_tally c doings) →
      LosslessComes Suit (run_of_lowered c m n s (first_tally c doings)) c r state (first_tally c doings)

abbrev pub TidySimulation : (State → State → Type 0) → Lin → Lin → Type 0
TidySimulation Suit m r =
    (c : ActivationSetting) (arguments : List Value) (memory : Memory) (doings : List Doing) (s : State) →
    linear_start c m arguments memory ≡ Some s → TidyBegins Suit c m r arguments memory doings s

-- What states of both have in common while both are under way is handed in (`Suit`); all users hand in
-- `SameRound`.
pub record KeepsLin (Suit : State → State → Type 0) (m r : Lin) : Type 0 where
  pub name : r.name ≡ m.name
  pub result : r.result ≡ m.result
  -- calls in the same memories, end and units are the same wherever the first is not stuck
  pub does : TidySimulation Suit m r
  -- no new symbol, and no new external call
  pub symbols : (name : List ℕ) → IsNamedIn (NamesSymbol name) r →
      IsNamedIn (NamesSymbol name) m
  pub externals : (row : External) → IsNamedIn (NamesExternal row) r →
      IsNamedIn (NamesExternal row) m
  pub addrs : NoAddrReached m → NoAddrReached r
