-- The sizes of an image's sections.
use Rattle.std.specs.Prelude.{◌≡◌}
use Rattle.bs_fault.specs.declared.large.Section.TheVariants.{Func, Code, Data, Syms, Root, Extc, Desc}
use Rattle.image_form.specs.Tables.{Tables}
use Rattle.rv_layout_rules.specs.TooLarge.{section_bytes_of}
use Rattle.rv_layout.specs.declared.sizes.Sizes.{Sizes}

-- These are the bytes of the bodies of the sections of these tables.
pub record AreSizesOf (sizes : Sizes) (t : Tables) : Type 0 where
  pub funcs : sizes.funcs ≡ section_bytes_of t Func
  pub code : sizes.code ≡ section_bytes_of t Code
  pub data_bytes : sizes.bytes ≡ section_bytes_of t Data
  pub syms : sizes.syms ≡ section_bytes_of t Syms
  pub roots : sizes.roots ≡ section_bytes_of t Root
  pub extcs : sizes.extcs ≡ section_bytes_of t Extc
  pub descs : sizes.descs ≡ section_bytes_of t Desc
