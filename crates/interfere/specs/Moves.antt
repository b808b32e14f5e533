-- Moves between registers.
use Rattle.std.specs.Prelude.{ℕ, Bool, false, cond, ◌&&◌, nat_eq, List, [], ◌∷◌, ◌++◌, Option, Some, None}
use Rattle.mach_ir.specs.Graph.{is_move, partner}
use Rattle.mach_ir.specs.declared.reg.Reg.{Reg}
use Rattle.mach_ir.specs.declared.mach.Instr.{Instr}
use Rattle.interfere.specs.declared.moves.Move.{Move}

-- from the one operand to the one result
abbrev pub move_between : List Reg → List Reg → Option Move
move_between (r ∷ []) (q ∷ []) = Some (record { from = r.number; to = q.number })
move_between _ _ = None

-- the move that an instruction is
abbrev pub move_of : Instr → Option Move
move_of i = cond (is_move i.op) (move_between i.args i.results) None

abbrev pub is_move_from_to : Option Move → ℕ → ℕ → Bool
is_move_from_to None from to = false
is_move_from_to (Some x) from to = nat_eq x.from from && nat_eq x.to to

-- the registers that a move takes this one from or to
abbrev pub partners_of : ℕ → Option Move → List ℕ
partners_of n None = []
partners_of n (Some x) = partner n x.from x.to ++ partner n x.to x.from
