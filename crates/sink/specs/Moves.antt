-- The code with its moves.
use Rattle.std.specs.Prelude.{ℕ, ◌-◌, Bool, cond, nat_eq, List, [], ◌∷◌, ◌++◌, length}
use Rattle.mach_ir.specs.declared.mach.Instr.{Instr}
use Rattle.mach_laws.specs.Expand.{expand}
use Rattle.sink_rules.specs.Sunk.{to_itself}
use Rattle.sink.specs.Runs.{straight_run_begins}
use Rattle.sink.specs.declared.chosen.Move.{Move}

-- those of these moves that are before a place
abbrev pub moves_before : List Move → ℕ → List Instr
moves_before [] p = []
moves_before (move ∷ moves) p =
    cond (nat_eq move.place p) (to_itself move.reg ∷ moves_before moves p) (moves_before moves p)

-- the instruction at a place, with those before it if a straight run may begin there
abbrev pub instr_after_moves : List Move → Bool → ℕ → Instr → List Instr
instr_after_moves moves begins p i = cond begins (moves_before moves p ++ i ∷ []) (i ∷ [])

-- the last part of a code
abbrev pub sunk_code : List Move → List Instr → List Instr → List Instr
sunk_code moves code part =
    expand
    (λ k i. instr_after_moves moves (straight_run_begins code (length code - 1 - k)) (length code - 1 - k) i) part
