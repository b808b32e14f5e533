-- What is round the run of a file, and the activations of its functions.
use Rattle.std.specs.Prelude.{◌≡◌, ℕ, ◌+◌, true, List, [], ◌∷◌, Option, Some, None, map, option_copied, slice_get}
use Rattle.bs_words.specs.Contents.{contents}
use Rattle.bs_words.specs.declared.values.Kind.TheVariants.{BadCall}
use Rattle.bs_words.specs.declared.values.Value.{Value}
use Rattle.cmm_tree.specs.View.{file_view, params_view}
use Rattle.cmm_tree.specs.declared.file.File.{File}
use Rattle.cmm_tree.specs.declared.file.Item.{Item}
use Rattle.cmm_tree.specs.declared.file.Item.TheVariants as item
use Rattle.cmm_tree.specs.declared.file.Function.{Function}
use Rattle.cmm_data.specs.Placement.{data_end}
use Rattle.cmm_data.specs.Symbols.{IsTableOf}
use Rattle.cmm_meaning.specs.Layout.{Layout}
use Rattle.cmm_meaning.specs.State.{World, Here, bound, deepened}
use Rattle.cmm_meaning.specs.Evaluation.{Evaluation, Stops, NotProper, scoped_parameter}
use Rattle.cmm_meaning.specs.Evaluation as evaluation
use Rattle.meaning_fuel.specs.Whole as fuel
use Rattle.eval_frames.specs.Annotated.{IsTyped}
use Rattle.eval_frames.specs.Filled.{evaluated_expression}
use Rattle.eval_frames.specs.Views.{layout_view}
use Rattle.eval_frames.specs.declared.around.Surroundings.{Surroundings}

-- the functions of a file, in the order of its text
abbrev pub functions_in : List Item → List Function
functions_in [] = []
functions_in (item.Function f ∷ items) = f ∷ functions_in items
functions_in (item.Data d ∷ items) = functions_in items

-- an activation, by the types that nodes hold
abbrev pub activated_held : evaluation.Surroundings → ℕ → Option Function → List Value → ℕ → World → Evaluation
activated_held s frame None arguments below w = Stops (NotProper BadCall) w
activated_held s frame (Some f) arguments below w =
    let here : Here = record {
      names = bound (map scoped_parameter (params_view (contents f.params))) arguments [];
      below = below;
      frame = frame;
      tries = 0;
    } in
    evaluated_expression s f.body true here (deepened (below + frame) w)

-- what is round a run of a file
abbrev pub surroundings_of_file : File → Layout → evaluation.Surroundings
surroundings_of_file file layout = fuel.file_surroundings (file_view file) layout

abbrev pub around_view : Surroundings → evaluation.Surroundings
around_view a = surroundings_of_file a.file.now (layout_view a.layout.now)

-- What the machine keeps of its file is right.
pub record IsAround (a : Surroundings) : Type 0 where
  pub end : a.end ≡ data_end (file_view a.file.now)
  pub symbols : IsTableOf (file_view a.file.now) a.symbols
  pub functions : (k : ℕ)
      → option_copied (slice_get a.functions.items k)
      ≡ slice_get (functions_in (contents a.file.now.items)) k
  pub typed : IsTyped a.file.now
