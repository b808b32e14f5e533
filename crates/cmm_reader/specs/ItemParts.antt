-- Items and their static data, as their readers return them.
use Rattle.std.specs.Prelude.{ℕ, Option, option_map}
use Rattle.bs_words.specs.Contents.{contents}
use Rattle.cmm_lex.specs.Token.{TokenTree}
use Rattle.cmm_tree.specs.Tree.{DatumTree}
use Rattle.cmm_tree.specs.Tree as tree
use Rattle.cmm_tree.specs.View.{expr_view, params_view, data_list_view}
use Rattle.cmm_tree.specs.declared.file.Item.{Item}
use Rattle.cmm_tree.specs.declared.file.Item.TheVariants as item
use Rattle.cmm_grammar.specs.Parts.{ItemPart, FunctionItem, DataItem}
use Rattle.cmm_grammar.specs.declared.word.DataWord.{DataWord}
use Rattle.cmm_grammar.specs.declared.word.DataWord.TheVariants as word

-- an item, without the number of its tokens
abbrev pub item_part : Item → ItemPart
item_part (item.Function f) =
    FunctionItem
    (record {
      at = f.at;
      name_at = f.name_at;
      name = f.name;
      params = params_view (contents f.params);
      body = expr_view f.body;
    })
item_part (item.Data d) = DataItem (data_list_view d)

-- the items of one integer
abbrev pub number_datum : DataWord → Option ℕ → DatumTree
number_datum word.Byte value = tree.Byte value
number_datum word.Half value = tree.Half value
number_datum word.Int value = tree.Int value
number_datum word.Skip value = tree.Skip value
number_datum _ value = tree.Align value

-- what a token begins, with the token
abbrev pub marked_with : TokenTree → Option DataWord → Option (TokenTree × DataWord)
marked_with t o = option_map (λ w. (t, w)) o
