-- The image of a file whose functions were compiled.
use Rattle.std.specs.Prelude.{◌≡◌, ℕ, ◌+◌, ◌*◌, ◌≤◌, List, length}
use Rattle.bs_words.specs.Fits.{data_start}
use Rattle.cmm_data.specs.Placement.{value_of_symbol}
use Rattle.cmm_meaning.specs.Setting.{Setting}
use Rattle.cmm_tree.specs.Tree.{FileTree}
use Rattle.image_form.specs.Image.{code_limit}
use Rattle.image_form.specs.Tables.{Tables}
use Rattle.rv_layout_rules.specs.Conditions.{CanBeLaid}
use Rattle.rv_layout_rules.specs.Laid.{IsLaid}
use Rattle.rv_pieces.specs.declared.piece.Pieces.{Pieces}

-- The image is that of the file, whose functions are these pieces in order, and the setting is the
-- file's.
pub record IsImageOfPieces (image : Tables) (file : FileTree) (ps : List Pieces) (c : Setting) : Type 0
  where
    pub can : CanBeLaid file ps
    pub laid : IsLaid file ps image
    -- its code keeps the limit of images
    pub short : 4 * length image.code ≤ code_limit
    pub symbols : (name : List ℕ) → c.symbol name ≡ value_of_symbol file name
    pub end : c.end ≡ data_start + length image.bytes
