-- Which registers are moved to themselves, and where.
use Rattle.std.specs.Prelude.{◌≡◌, ◌<◌, ℕ, Bool, false, cond, not, ◌&&◌, ◌||◌, List, [], ◌∷◌, ◌++◌, Option, Some, None, option_to_list, slice_get, AllPairs, Contains}
use Rattle.bs_bits.specs.Set.{has}
use Rattle.dataflow.specs.Rows.{set_in_row}
use Rattle.mach_ir.specs.declared.reg.Reg.{Reg}
use Rattle.mach_ir.specs.declared.mach.Instr.{Instr}
use Rattle.mach_ir.specs.declared.mach.Mach.{Mach}
use Rattle.mach_ir.specs.declared.mach.MachOp.{MachOp}
use Rattle.mach_ir.specs.declared.mach.MachOp.TheVariants as mach
use Rattle.mach_laws.specs.Graph.{code_index}
use Rattle.sink_rules.specs.Chosen.{IsSunkAt}
use Rattle.sink.specs.Graphs.{destroys_colours}
use Rattle.sink.specs.Runs.{run_start}
use Rattle.sink.specs.declared.chosen.Move.{Move}
use Rattle.sink.specs.declared.sights.Sight.{Sight}
use Rattle.sink.specs.declared.sights.Sight.TheVariants as sight
use Rattle.mach_ir.specs.Places.{is_unset_location}

-- a call that returns
abbrev pub is_call : MachOp → Bool
is_call (mach.Op f) = destroys_colours (mach.Op f)
is_call (mach.Mark f) = false

abbrev pub some_call : Option Instr → Bool
some_call None = false
some_call (Some i) = is_call i.op

-- whether code has a call
abbrev pub has_call : List Instr → Bool
has_call [] = false
has_call (i ∷ is) = is_call i.op || has_call is

abbrev pub move_before : Reg → Option ℕ → Option Move
move_before r None = None
move_before r (Some p) = Some (record { reg = r; place = p })

-- whether an open register is not stale at a call, and no read finds it mixed
abbrev pub is_sure : List Instr → List (List Bool) → List Bool → Reg → ℕ → Bool
is_sure code stale mixed r p =
    is_unset_location r.loc
    && (some_call (slice_get code p)
    && (not (has (set_in_row stale p) r.number) && not (has mixed r.number)))

-- the move of a register before the straight run to the one place where it was seen
abbrev pub move_at : List Instr → List (List Bool) → List Bool → Option Reg → Sight → Option Move
move_at code stale mixed None s = None
move_at code stale mixed (Some r) sight.Unseen = None
move_at code stale mixed (Some r) sight.Often = None
move_at code stale mixed (Some r) (sight.Once p) =
    cond (is_sure code stale mixed r p) (move_before r (run_start code r.number p)) None

-- those of all numbers
abbrev pub all_moves : List Instr → List (List Bool) → List Bool → List (Option Reg) →
    List Sight → List Move
all_moves code stale mixed [] ss = []
all_moves code stale mixed (r ∷ rs) [] = []
all_moves code stale mixed (r ∷ rs) (s ∷ ss) =
    option_to_list (move_at code stale mixed r s) ++ all_moves code stale mixed rs ss

-- a move is one of a register that is sunk there
pub record IsSinkingMove (m : Mach) (move : Move) : Type 0 where
  pub instr : Instr
  pub next : List Instr
  pub sunk_at : IsSunkAt m instr next move.reg
  pub place : move.place ≡ code_index m (instr ∷ next)

-- these are all moves, by rising numbers
pub record AreMoves (m : Mach) (moves : List Move) : Type 0 where
  pub each : (move : Move) → Contains moves move → IsSinkingMove m move
  pub all : (i : Instr) (next : List Instr) (r : Reg) → IsSunkAt m i next r →
      Contains moves (record { reg = r; place = code_index m (i ∷ next) })
  pub rising : AllPairs (λ (x y : Move). x.reg.number < y.reg.number) moves
