-- The frame of a function: its entry, and how it gives the frame back.
use Rattle.std.specs.Prelude.{ℕ, ◌-◌, Bool, cond, nat_eq, List, [], ◌++◌}
use Rattle.rv_isa.specs.declared.register.Register.TheVariants.{Ra, Sp, T1, T2}
use Rattle.rv_pieces.specs.declared.piece.Piece.{Piece}
use Rattle.lin_ir.specs.Descriptors.{has_frame_point, frame_bytes}
use Rattle.lin_ir.specs.declared.lin.Lin.{Lin}
use Rattle.rv_emit_rules.specs.Constants.{sum_to, bytes_taken_off}
use Rattle.rv_emit_rules.specs.Slots.{stack_load, stack_store}

-- the bytes of a frame, and whether its highest 8 hold the return address
pub record FrameLayout : Type 0 where
  pub bytes : ℕ
  pub saves : Bool

abbrev pub frame_of : Lin → FrameLayout
frame_of m = record { bytes = frame_bytes m; saves = has_frame_point m.code }

-- where the return address lies
abbrev pub return_offset : FrameLayout → ℕ
return_offset f = f.bytes - 8

abbrev pub frame_allocation : FrameLayout → List Piece
frame_allocation f = cond (nat_eq f.bytes 0) [] (bytes_taken_off T1 Sp f.bytes)

-- sp is lowered by the frame, and then ra is stored in its place
abbrev pub entry_pieces : FrameLayout → List Piece
entry_pieces f = frame_allocation f ++ cond f.saves (stack_store T1 Ra (return_offset f)) []

abbrev pub restored : FrameLayout → List Piece
restored f = cond f.saves (stack_load T2 Ra (return_offset f)) []

abbrev pub raised_stack_pointer : FrameLayout → List Piece
raised_stack_pointer f = cond (nat_eq f.bytes 0) [] (sum_to T2 Sp Sp f.bytes)

-- No trap is pushed where a function is left. T1 keeps its value, which may be a callee's.
abbrev pub frame_release : FrameLayout → List Piece
frame_release f = restored f ++ raised_stack_pointer f
