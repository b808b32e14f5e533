-- Calls, and the return from a function. Arguments and results are at the places of the
-- convention.
use Rattle.std.specs.Prelude.{ℕ, Bool, cond, List, [], ◌∷◌, ◌++◌, Option, Some, None}
use Rattle.mach_ir.specs.declared.op.Callee.{Callee}
use Rattle.mach_ir.specs.declared.op.Callee.TheVariants as callee
use Rattle.mach_ir.specs.declared.op.External.{External}
use Rattle.lin_ir.specs.declared.descr.Descr.{Descr}
use Rattle.lin_ir.specs.declared.lin.Spot.{Spot}
use Rattle.rv_isa.specs.declared.register.Register.TheVariants.{Ra, T0, T1, T2}
use Rattle.rv_pieces.specs.declared.piece.Piece.{Piece}
use Rattle.rv_pieces.specs.declared.piece.Piece.TheVariants as piece
use Rattle.rv_emit_rules.specs.Instructions.{goes_to_address, calls_at, ecall}
use Rattle.rv_emit_rules.specs.Constants.{constant_pieces}
use Rattle.rv_emit_rules.specs.Slots.{first_location, register_of, fetch_pieces}
use Rattle.rv_emit_rules.specs.Tests.{value_words}
use Rattle.rv_emit_rules.specs.Entry.{FrameLayout, frame_release}

-- what is at the return address of a frame point
abbrev pub mark_of : Option Descr → List Piece
mark_of (Some d) = piece.Descriptor d ∷ []
mark_of None = []

abbrev pub call_words : (traps : ℕ) → Callee → List Spot → List Piece
call_words traps (callee.Symbol name) args = piece.Call name ∷ []
call_words traps callee.Register args =
    fetch_pieces traps T1 (first_location args) ++ calls_at (register_of T1 (first_location args)) ∷ []

-- what a callee's value, the first operand, is put into before the frame is given back: t1
abbrev pub callee_words : (traps : ℕ) → Callee → List Spot → List Piece
callee_words traps (callee.Symbol name) args = []
callee_words traps callee.Register args = value_words traps (first_location args)

abbrev pub goes_to_callee : Callee → Piece
goes_to_callee (callee.Symbol name) = piece.TailCall name
goes_to_callee callee.Register = goes_to_address T1 0

abbrev pub tail_call_part : (traps : ℕ) → FrameLayout → Callee → List Spot → List Piece
tail_call_part traps f whom args =
    callee_words traps whom args ++ frame_release f ++ goes_to_callee whom ∷ []

-- the number of the service: of a frame call, and of an external call that is no frame point
abbrev pub external_service : Bool → ℕ
external_service frame = cond frame 4 2

abbrev pub external_words : External → Bool → List Piece
external_words row frame =
    piece.ExternalNumber T0 row ∷ constant_pieces T2 (external_service frame) ++ ecall ∷ []

abbrev pub return_part : FrameLayout → List Piece
return_part f = frame_release f ++ goes_to_address Ra 0 ∷ []
