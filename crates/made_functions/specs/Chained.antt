-- What is known of a function that was compiled, whatever passes made it. That the image of a file
-- is correct rests on this alone.
--
-- What is known of its lines is a record of its own, which speaks of the Linear function and of the text's
-- alone. So a pass over Linear that comes last has to give that again, and nothing above changes.
use Rattle.std.specs.Prelude.{◌≡◌, ℕ, List, [], All, length}
use Rattle.bs_words.specs.declared.types.Comp.{Comp}
use Rattle.cmm_tree.specs.Tree.{FunctionTree}
use Rattle.selection_rules.specs.Select.{selected}
use Rattle.lin_ir.specs.Descriptors.{AreExact, FitsDescriptors, NamesLives, NoAddrLive, frame_point_count}
use Rattle.lin_ir.specs.Formed.{IsTight, spare}
use Rattle.lin_ir.specs.Keeps.{LinearKeeps}
use Rattle.lin_ir.specs.Meaning.{NamedAt}
use Rattle.lin_ir.specs.Walks.{LiveAt, Reached, StandsAsLine}
use Rattle.lin_ir.specs.declared.descr.Descr.{Descr}
use Rattle.lin_ir.specs.declared.lin.Lin.{Lin}
use Rattle.lin_ir.specs.declared.lin.Line.{Line}
use Rattle.lin_pass.specs.Known.{IsRegular, IsTidy}
use Rattle.lin_pass.specs.Linear.{NamesHomes}
use Rattle.line_stands.specs.Lines.{OffsetFits}
use Rattle.rv_emit_rules.specs.Emitted.{IsEmitted}
use Rattle.rv_pieces.specs.declared.piece.Pieces.{Pieces}

-- What is known of its lines alone, beside its text.
pub record AreLinesOf (tree : FunctionTree) (m : Lin) : Type 0 where
  -- with exact names they do what is selected of the text's function, and never read poison
  pub keeps : (named : NamedAt) → NamesLives m named → LinearKeeps (selected tree) m named
  -- well formed and seated, control comes back to a place only by an exit, t0 does not occur
  pub regular : IsRegular m
  pub tidy : IsTidy m
  pub tight : IsTight m
  -- neither an address nor t0 is live after a frame point
  pub no_addr : NoAddrLive m
  pub spare_dead : (i : Line) (next : List Line) (t : Comp) → StandsAsLine i next m.code →
      LiveAt m spare t i next → ⊥
  -- frames, pushed traps and lines fit what descriptors can say
  pub within : FitsDescriptors m
  -- offsets of loads and of stores are words
  pub offsets : All (λ (i : Line). OffsetFits i.op) m.code
  -- no walk comes to the end of the code
  pub unended : (tries : List ℕ) → Reached m [] tries → ⊥

pub record IsChained (tree : FunctionTree) (m : Lin) (ds : List Descr) (pieces : Pieces) : Type 0
  where
    pub lines : AreLinesOf tree m
    -- a descriptor for each frame point, which names what is live after it, at colours and slots
    pub exact : AreExact m ds
    pub count : length ds ≡ frame_point_count m.code
    pub homes : All (NamesHomes m) ds
    pub emitted : IsEmitted m ds pieces
