-- The image of a file is one, and no section of a roomy file's passes its limit.
use Rattle.std.proofs.Common.{◌≡◌, ℕ, List, Some, sym, ◌∙◌}
use Rattle.std.proofs.lemmas.Option.{none-some}
use Rattle.bs_fault.specs.declared.large.Large.{Large}
use Rattle.cmm_front.specs.FileOf.{IsFileOf}
use Rattle.cmm_tree.specs.Tree.{FileTree}
use Rattle.correctness.specs.Bounds.{IsRoomy}
use Rattle.file_compile.proofs.Promised.{roomy_fits}
use Rattle.image_form.specs.Tables.{Tables}
use Rattle.rv_layout_rules.specs.TooLarge.{first_too_large}
use Rattle.file_compile.specs.Known.{AreTablesMadeFor}
use Rattle.choices.specs.declared.choices.Choices.{Choices}
use Rattle.file_compile.proofs.Known.{made_for_once}
use Rattle.text_commands.specs.Compile.{IsOnlyMadeFor, IsTooLarge}

pub only_made : {choices : Choices} (file : FileTree) (image : Tables) → AreTablesMadeFor choices file image → IsOnlyMadeFor choices file image
only_made file image made = record { made = made; only = λ other m. made_for_once file other image m made }

module _ {choices : Choices} (text : List ℕ) (file : FileTree) (large : Large) (is : IsFileOf text file) (of : (t : Tables) × (AreTablesMadeFor choices file t × (first_too_large t ≡ Some large))) where
  pub not_roomy : IsRoomy file → ⊥
  not_roomy roomy = none-some large (sym (roomy_fits text file is of.0 of.1.0 roomy) ∙ of.1.1)

  pub too_large : IsTooLarge choices text large
  too_large = record {
    file = file;
    is_file = is;
    image = of.0;
    made = only_made file of.0 of.1.0;
    passes = of.1.1;
    not_roomy = not_roomy;
  }
