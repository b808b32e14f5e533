-- The words of a piece, decoded, name the registers that the piece names.
use Rattle.std.specs.Prelude.{◌≡◌, ℕ, Bool, true, false, not, ◌||◌, ◌&&◌, List, [], ◌∷◌, map, Some}
use Rattle.rv_isa.specs.Decoding.{decoded}
use Rattle.rv_isa.specs.declared.instr.Instr.{Instr}
use Rattle.rv_isa.specs.declared.instr.Instr.TheVariants as instr
use Rattle.rv_pieces.specs.declared.piece.Piece.{Piece}
use Rattle.rv_pieces.specs.declared.piece.Piece.TheVariants as piece
use Rattle.linearise_rules.specs.Lowered.{is_among_numbers}
use Rattle.laid_parts.specs.Laid.{is_reserved}
use Rattle.laid_parts.specs.Named.{sources, destination_registers, piece_sources, piece_targets}

-- whether instructions in this order name a register as a source before they have set it
abbrev pub is_source_in : ℕ → List Instr → Bool
is_source_in n [] = false
is_source_in n (j ∷ js) =
    is_among_numbers n (sources j) || (not (is_among_numbers n (destination_registers j)) && is_source_in n js)

abbrev pub is_target_in : ℕ → List Instr → Bool
is_target_in n [] = false
is_target_in n (j ∷ js) = is_among_numbers n (destination_registers j) || is_target_in n js

-- whether one of these loads or stores
abbrev pub some_loads_or_stores : List Instr → Bool
some_loads_or_stores [] = false
some_loads_or_stores (instr.Load k rd rs w ∷ js) = true
some_loads_or_stores (instr.Store k address value w ∷ js) = true
some_loads_or_stores (_ ∷ js) = some_loads_or_stores js

abbrev pub is_known : Piece → Bool
is_known (piece.Known j) = true
is_known _ = false

-- These instructions name, reserved registers aside, exactly the registers that the piece names. A piece
-- that is an instruction has that one alone; of no other piece does one load or store.
pub record NamesAs (p : Piece) (js : List Instr) : Type 0 where
  pub reads : (n : ℕ) → is_reserved n ≡ false → is_source_in n js ≡ is_among_numbers n (piece_sources p)
  pub writes : (n : ℕ) → is_reserved n ≡ false → is_target_in n js ≡ is_among_numbers n (piece_targets p)
  pub known : (j : Instr) → p ≡ piece.Known j → js ≡ j ∷ []
  pub memory : is_known p ≡ false → some_loads_or_stores js ≡ false

-- each word decodes, to these instructions in their order
abbrev pub Decodes : List ℕ → List Instr → Type 0
Decodes words js = map decoded words ≡ map Some js
