-- What may be said of each piece of a part, by what its line names.
use Rattle.std.specs.Prelude.{◌≡◌, ℕ, List, [], ◌∷◌, Option, Some}
use Rattle.mach_ir.specs.Keeps.{NamesSymbol}
use Rattle.mach_ir.specs.declared.mach.MachOp.TheVariants as mach
use Rattle.mach_ir.specs.declared.op.Calling.TheVariants as calling
use Rattle.mach_ir.specs.declared.op.External.{External}
use Rattle.mach_ir.specs.declared.op.Op.{Op}
use Rattle.mach_ir.specs.declared.op.Op.TheVariants as op
use Rattle.lin_ir.specs.Formed.{NamesLabel}
use Rattle.lin_ir.specs.declared.descr.Descr.{Descr}
use Rattle.lin_ir.specs.declared.lin.Flow.TheVariants as flow
use Rattle.lin_ir.specs.declared.lin.LinOp.{LinOp}
use Rattle.lin_ir.specs.declared.lin.LinOp.TheVariants as lin
use Rattle.rv_isa.specs.Encoding.{InstrFits}
use Rattle.rv_isa.specs.declared.instr.Condition.{Condition}
use Rattle.rv_isa.specs.declared.instr.Instr.{Instr}
use Rattle.rv_isa.specs.declared.register.Register.{Register}
use Rattle.rv_pieces.specs.declared.piece.Piece.{Piece}
use Rattle.rv_pieces.specs.declared.piece.Piece.TheVariants as piece

pub data EachPiece (P : Piece → Type 0) : List Piece → Type 0 where
  each_none : EachPiece P []
  each_more : {p : Piece} {ps : List Piece} → P p → EachPiece P ps → EachPiece P (p ∷ ps)

-- the symbol is named by what a line does
pub record LineNamesSymbol (name : List ℕ) (f : LinOp) : Type 0 where
  pub op : Op
  pub is : f ≡ lin.Op op
  pub named : NamesSymbol name (mach.Op op)

-- What the pieces of a line with this operation and this descriptor may be: instructions whose
-- numbers fit, and the labels, symbols, external call and descriptor that the line names.
pub record Allows (P : Piece → Type 0) (f : LinOp) (d : Option Descr) : Type 0 where
  pub known : (j : Instr) → InstrFits j → P (piece.Known j)
  pub place : (l : ℕ) → f ≡ lin.Flow (flow.Label l) → P (piece.Label l)
  pub branch : (l : ℕ) → NamesLabel l f → (c : Condition) (a b : Register) →
      P (piece.Branch c a b l)
  pub jump : (l : ℕ) → NamesLabel l f → P (piece.Jump l)
  pub row : (l : ℕ) → NamesLabel l f → P (piece.Row l)
  pub address : (l : ℕ) → NamesLabel l f → (r : Register) → P (piece.LabelAddress r l)
  pub call : (name : List ℕ) → LineNamesSymbol name f → P (piece.Call name)
  pub tail_call : (name : List ℕ) → LineNamesSymbol name f → P (piece.TailCall name)
  pub symbol : (name : List ℕ) → LineNamesSymbol name f → (r : Register) → P (piece.SymbolAddress r name)
  pub external : (row : External) (frame : _) →
      f ≡ lin.Op (op.Calling (calling.External row frame)) → (r : Register) →
      P (piece.ExternalNumber r row)
  pub mark : (e : Descr) → d ≡ Some e → P (piece.Descriptor e)
