-- Pieces of a function with many frame descriptors.
use Rattle.std.specs.Prelude.{ℕ, suc, ◌*◌, ◌^◌, ◌≤◌, ◌<◌, List, [], ◌∷◌, ◌++◌, length}
use Rattle.cmm_tree.specs.Tree.{FileTree}
use Rattle.rv_layout_rules.specs.Conditions.{IsDescriptor, IsFunctionLaid, weight_of}
use Rattle.lin_ir.specs.declared.descr.Descr.{Descr}
use Rattle.rv_isa.specs.Encoding.{InstrFits}
use Rattle.rv_isa.specs.declared.instr.Instr.{Instr}
use Rattle.rv_pieces.specs.declared.piece.Piece.{Piece}
use Rattle.rv_pieces.specs.declared.piece.Piece.TheVariants as piece
use Rattle.rv_pieces.specs.declared.piece.Pieces.{Pieces}

-- the offsets of the first so many slots
pub data AreSlots : ℕ → List ℕ → Type 0 where
  no_slot : AreSlots 0 []
  one_slot : (n : ℕ) (offsets : List ℕ) → AreSlots n offsets → AreSlots (suc n) (offsets ++ 8 * n ∷ [])

-- a descriptor that keeps the rules of images, and is not too long
pub record IsShortDescriptor (d : Descr) : Type 0 where
  pub keeps : IsDescriptor d
  pub few : length d.entries ≤ 2 ^ 20

-- an instruction, and so often another and a descriptor
pub data ArePointPieces : ℕ → List Piece → Type 0 where
  no_point : (j : Instr) → InstrFits j → ArePointPieces 0 (piece.Known j ∷ [])
  one_point : (n : ℕ) (code : List Piece) (j : Instr) (d : Descr)
      → ArePointPieces n code
      → InstrFits j
      → IsShortDescriptor d
      → ArePointPieces (suc n) ((code ++ piece.Known j ∷ []) ++ piece.Descriptor d ∷ [])

-- pieces that may be in an image of any file
pub record CanStand (p : Pieces) : Type 0 where
  pub laid : (file : FileTree) → IsFunctionLaid file p
  pub few : weight_of p.code < 2 ^ 48
