-- What the names in a function's lines stand for.
use Rattle.std.specs.Prelude.{◌≡◌, ℕ, ◌^◌, ◌<◌, ◌≤◌, List, [], length, Some, slice_get, Contains}
use Rattle.bs_words.specs.External.{External}
use Rattle.bs_words.specs.declared.values.Value.{Value}
use Rattle.cmm_meaning.specs.Setting.{Setting}
use Rattle.rv_layout_rules.specs.Known.{IsExternalOf}
use Rattle.rv_layout_rules.specs.Laid.{address_of_place}
use Rattle.rv_layout_rules.specs.Words.{NameAddresses}
use Rattle.lin_ir.specs.Formed.{labels_in}
use Rattle.lin_ir.specs.Meaning.{after_label}
use Rattle.lin_ir.specs.declared.lin.Lin.{Lin}
use Rattle.mach_ir.specs.Acts.{external_row}
use Rattle.mach_ir.specs.declared.op.External as declared
use Rattle.lin_machine.specs.Relation.{Laid, StandsFor}
use Rattle.lin_machine.specs.View.{Fixed}

-- an external call's row in the image
pub record IsRowAt (s : Fixed) (row : declared.External) (number : ℕ) : Type 0 where
  pub ext : External
  pub there : slice_get s.image.extcs number ≡ Some ext
  pub name : ext.name ≡ row.name
  pub params : ext.params ≡ row.params
  pub result : ext.result ≡ row.result

-- Labels of the function, symbols of the file round it, and the external calls of its lines.
pub record NamesStand (s : Fixed) (laid : Laid) (n : NameAddresses) (m : Lin) (c : Setting) : Type 0 where
  -- the place of the part that is after the label
  pub label : (l : ℕ) → Contains (labels_in m.code) l →
      n.label l ≡ address_of_place (laid.part (length (after_label l m.code)))
  pub within : (l : ℕ) → Contains (labels_in m.code) l →
      laid.part (length (after_label l m.code)) ≤ length s.image.code
  pub handler : (l : ℕ) → laid.handler l ≡ n.label l
  -- a function, or static data: no block, so that it is known among none
  pub symbol : (name : List ℕ) (v : Value) → c.symbol name ≡ Some v →
      StandsFor s [] (n.symbol name) v × (n.symbol name < 2 ^ 30)
  pub external : (row : declared.External) → IsExternalOf m row → IsRowAt s row (n.external (external_row row))
