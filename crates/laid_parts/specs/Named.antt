-- The registers that instructions and pieces name, as their sources and as their targets.
use Rattle.std.specs.Prelude.{ℕ, Bool, false, not, ◌||◌, ◌&&◌, List, [], ◌∷◌}
use Rattle.rv_isa.specs.Registers.{register_number, ra, t1}
use Rattle.rv_isa.specs.declared.instr.Instr.{Instr}
use Rattle.rv_isa.specs.declared.instr.Instr.TheVariants as instr
use Rattle.rv_pieces.specs.declared.piece.Piece.{Piece}
use Rattle.rv_pieces.specs.declared.piece.Piece.TheVariants as piece
use Rattle.linearise_rules.specs.Lowered.{is_among_numbers}

-- ---- instructions, by their formats

abbrev pub sources : Instr → List ℕ
sources (instr.Lui rd upper) = []
sources (instr.Auipc rd upper) = []
sources (instr.Jal rd offset) = []
sources (instr.Jalr rd rs w) = rs ∷ []
sources (instr.Branch c a b offset) = a ∷ b ∷ []
sources (instr.Load k rd rs w) = rs ∷ []
sources (instr.Store k address value w) = address ∷ value ∷ []
sources (instr.OpImm f rd rs w) = rs ∷ []
sources (instr.Shift f rd rs amount) = rs ∷ []
sources (instr.Op f rd a b) = a ∷ b ∷ []
sources (instr.Addiw rd rs w) = rs ∷ []
sources (instr.ShiftWord f rd rs amount) = rs ∷ []
sources (instr.OpWord f rd a b) = a ∷ b ∷ []
sources instr.Ecall = []

abbrev pub destination_registers : Instr → List ℕ
destination_registers (instr.Lui rd upper) = rd ∷ []
destination_registers (instr.Auipc rd upper) = rd ∷ []
destination_registers (instr.Jal rd offset) = rd ∷ []
destination_registers (instr.Jalr rd rs w) = rd ∷ []
destination_registers (instr.Branch c a b offset) = []
destination_registers (instr.Load k rd rs w) = rd ∷ []
destination_registers (instr.Store k address value w) = []
destination_registers (instr.OpImm f rd rs w) = rd ∷ []
destination_registers (instr.Shift f rd rs amount) = rd ∷ []
destination_registers (instr.Op f rd a b) = rd ∷ []
destination_registers (instr.Addiw rd rs w) = rd ∷ []
destination_registers (instr.ShiftWord f rd rs amount) = rd ∷ []
destination_registers (instr.OpWord f rd a b) = rd ∷ []
destination_registers instr.Ecall = []

-- ---- pieces

abbrev pub piece_sources : Piece → List ℕ
piece_sources (piece.Known j) = sources j
piece_sources (piece.Branch c a b l) = register_number a ∷ register_number b ∷ []
piece_sources _ = []

abbrev pub piece_targets : Piece → List ℕ
piece_targets (piece.Known j) = destination_registers j
piece_targets (piece.LabelAddress r l) = register_number r ∷ []
piece_targets (piece.Call name) = ra ∷ []
piece_targets (piece.TailCall name) = t1 ∷ []
piece_targets (piece.SymbolAddress r name) = register_number r ∷ []
piece_targets (piece.ExternalNumber r row) = register_number r ∷ []
piece_targets _ = []

-- whether pieces in this order name a register as a source before they have set it
abbrev pub is_source : ℕ → List Piece → Bool
is_source n [] = false
is_source n (p ∷ ps) =
    is_among_numbers n (piece_sources p) || (not (is_among_numbers n (piece_targets p)) && is_source n ps)

abbrev pub is_target : ℕ → List Piece → Bool
is_target n [] = false
is_target n (p ∷ ps) = is_among_numbers n (piece_targets p) || is_target n ps
