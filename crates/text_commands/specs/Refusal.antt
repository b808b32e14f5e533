-- What compiling a text answers.
use Rattle.std.specs.Prelude.{◌≡◌, ⊤, ℕ, List}
use Rattle.bs_fault.specs.declared.build.BuildError.{BuildError}
use Rattle.bs_fault.specs.declared.build.BuildError.TheVariants as build
use Rattle.bs_fault.specs.declared.fault.FrontError.{FrontError}
use Rattle.bs_fault.specs.declared.fault.FrontError.TheVariants as front
use Rattle.choices.specs.declared.choices.Choices.{Choices}
use Rattle.cmm_front.specs.FileOf.{HasFault}
use Rattle.image_form.specs.Image.{tables_bytes}
use Rattle.image_form.specs.Tables.{Tables}
use Rattle.text_commands.specs.Compile.{IsImageOf, IsTooLarge}
use Rattle.text_commands.specs.declared.compile.Refusal.{Refusal}
use Rattle.text_commands.specs.declared.compile.Refusal.TheVariants.{Fault, TooLarge, OutOfMemory}

-- The bytes are the spelling of an image of the text, by what is chosen.
pub record SpellsImageOf (choices : Choices) (text bytes : List ℕ) : Type 0 where
  pub image : Tables
  pub is_image : IsImageOf choices text image
  pub spelled : bytes ≡ tables_bytes image

-- why a text has no image
abbrev pub IsTextRefusal : Choices → List ℕ → Refusal → Type 0
IsTextRefusal choices text (Fault told) = HasFault text told
IsTextRefusal choices text (TooLarge large) = IsTooLarge choices text large
IsTextRefusal choices text OutOfMemory = ⊤

-- what is answered where the text has no file
abbrev pub refusal_of_front : FrontError → Refusal
refusal_of_front (front.Fault told) = Fault told
refusal_of_front front.OutOfMemory = OutOfMemory

-- what is answered where no image of the file is built
abbrev pub refusal_of_build : BuildError → Refusal
refusal_of_build (build.TooLarge large) = TooLarge large
refusal_of_build build.OutOfMemory = OutOfMemory
