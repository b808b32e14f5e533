-- How a function lies in the image: what the laws of its lines and of its entry take as known.
--
-- Where a function lies is no definition: the law says that there is a `Laid` with which all its lines
-- stand.
use Rattle.std.specs.Prelude.{◌≡◌, ℕ, ◌+◌, ◌-◌, ◌/◌, ◌≤◌, true, false, List, ◌∷◌, length, Option, slice_index}
use Rattle.cmm_meaning.specs.Setting.{Setting}
use Rattle.correctness.specs.Setting.{layout_of}
use Rattle.rv_emit_rules.specs.Entry.{entry_pieces, frame_of}
use Rattle.rv_emit_rules.specs.Units.{is_free_exit}
use Rattle.image_form.specs.Image.{stub_words}
use Rattle.image_form.specs.Tables.{Tables}
use Rattle.rv_layout_rules.specs.Words.{NameAddresses}
use Rattle.lin_ir.specs.Meaning.{NamedAt}
use Rattle.lin_ir.specs.Walks.{Reached, StandsAsLine}
use Rattle.lin_ir.specs.declared.descr.Descr.{Descr}
use Rattle.lin_ir.specs.declared.lin.Lin.{Lin}
use Rattle.lin_ir.specs.declared.lin.Line.{Line}
use Rattle.line_calls.specs.Points.{IsTurn, PointStands}
use Rattle.line_calls.specs.Known.{FreeStands, LineStands, Nowhere, PartStands}
use Rattle.lin_machine.specs.Relation.{Laid}
use Rattle.lin_machine.specs.View.{Fixed}
use Rattle.moving_laws.specs.Values.{function_at}
use Rattle.rv_machine.specs.Memory.{code_start}

-- the place of a function's entry, by its number
abbrev pub entry_place : Tables → ℕ → ℕ
entry_place image f = (function_at image.funcs f - code_start) / 4

-- A line to which a walk comes, and which is no exit without words, where these traps are pushed,
-- with its descriptor if it has one.
pub record LineAt (s : Fixed) (laid : Laid) (n : NameAddresses) (m : Lin) (c : Setting) (named : NamedAt)
    (tries : List ℕ) (i : Line) (next : List Line) : Type 0 where
  pub descr : Option Descr
  pub stands : LineStands s laid n m c Nowhere tries (frame_of m) descr i next
  pub point : IsTurn i.op → PointStands s laid m c named (entry_place s.image) (length tries)
      (frame_of m) descr i next stands.part.forms

-- Function k of the image, for every run of it.
pub record FunctionStands (image : Tables) (m : Lin) (c : Setting) (named : NamedAt) (k : ℕ)
    : Type 0 where
  pub laid : Laid
  pub names : NameAddresses
  -- its frame is that of its row
  pub frame : laid.frame ≡ slice_index (layout_of image).frames k
  pub small : laid.frame ≤ 1048576
  -- the parts of the lines lie one after the other after the entry, inside the function's words;
  -- these and the words of the stub are at most all of the code
  pub rises : (fewer more : ℕ) → fewer ≤ more → laid.part more ≤ laid.part fewer
  pub begins : entry_place image k ≤ laid.part (length m.code)
  pub ends : laid.part 0 + stub_words ≤ entry_place image k + length image.code
  -- the entry's pieces are at the entry, up to the first line's part
  pub entered : (s : Fixed) → s.image ≡ image →
      PartStands s names (entry_place image k) (laid.part (length m.code))
      (entry_pieces (record { bytes = laid.frame; saves = laid.saves }))
  pub line : (s : Fixed) → s.image ≡ image → (i : Line) (next : List Line) (tries : List ℕ) →
      StandsAsLine i next m.code → Reached m (i ∷ next) tries → is_free_exit i.op next ≡ false →
      LineAt s laid names m c named tries i next
  pub free : (i : Line) (next : List Line) → StandsAsLine i next m.code → is_free_exit i.op next ≡ true →
      FreeStands laid m i next
