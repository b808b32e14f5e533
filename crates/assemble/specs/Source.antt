-- What an image is made of.
use Rattle.std.specs.Prelude.{◌≡◌, ℕ, ◌+◌, List}
use Rattle.function_places.specs.Places.{ArePlaces, forms_in}
use Rattle.assemble.specs.declared.source.Source.{Source}
use Rattle.bs_words.specs.Contents.{contents}
use Rattle.cmm_data.specs.Map.{IsMapOf}
use Rattle.cmm_data.specs.Symbols.{IsTableOf}
use Rattle.cmm_tree.specs.Tree.{FileTree}
use Rattle.cmm_tree.specs.View.{file_view}
use Rattle.cmm_types.specs.Typing.{AreItemsAnnotated}
use Rattle.image_form.specs.Image.{stub_words}
use Rattle.image_form.specs.Tables.{Tables}
use Rattle.rv_layout_rules.specs.Conditions.{CanBeLaid}
use Rattle.rv_layout_rules.specs.Externals.{externals, external_number}
use Rattle.rv_layout_rules.specs.Laid.{address_of_place, address_of_value, function_entries_from, laid_out}
use Rattle.rv_layout_rules.specs.Words.{NameAddresses}
use Rattle.cmm_data.specs.Placement.{value_of_symbol}

abbrev pub tree_of : Source → FileTree
tree_of s = file_view s.file.now

abbrev pub source_entries : Source → List ℕ
source_entries s = function_entries_from stub_words s.pieces.now (forms_in s.places.now)

-- the image
abbrev pub laid_of : Source → Tables
laid_of s = laid_out (tree_of s) s.pieces.now (forms_in s.places.now)

-- All that is known is of one file, whose image can be laid out.
pub record IsSource (s : Source) : Type 0 where
  pub typed : AreItemsAnnotated (contents s.file.now.items)
  pub placed : IsMapOf (tree_of s) s.data.now
  pub symbols : IsTableOf (tree_of s) s.symbols.now
  pub calls : s.calls.now ≡ externals (tree_of s)
  pub can : CanBeLaid (tree_of s) s.pieces.now
  pub places : ArePlaces s.pieces.now s.places.now

-- what the pieces of a function name, whose entry is at this word and whose labels have these places
abbrev pub addresses_named_by : Source → (entry : ℕ) → (places : ℕ → ℕ) → NameAddresses
addresses_named_by s entry places = record {
  label = λ l. address_of_place (entry + places l);
  symbol = λ name. address_of_value (source_entries s) (value_of_symbol (tree_of s) name);
  external = external_number (externals (tree_of s));
}
