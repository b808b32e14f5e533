-- Which section of an image is the first that passes its limit.
use Rattle.std.specs.Prelude.{ℕ, ◌*◌, Bool, nat_lt, List, [], ◌∷◌, length, Option, find, option_map}
use Rattle.bs_words.specs.Fits.{data_limit}
use Rattle.bs_fault.specs.declared.large.Large.{Large}
use Rattle.bs_fault.specs.declared.large.Section as declared
use Rattle.bs_fault.specs.declared.large.Section.TheVariants.{Func, Code, Data, Syms, Root, Extc, Desc, Imps, Relo}
use Rattle.image_form.specs.Image.{le32, func_bytes, sym_bytes, ext_bytes, desc_bytes, table_bytes, table_limit, code_limit}
use Rattle.image_form.specs.Tables.{Tables}

-- the sections of an image, in their order
abbrev pub sections : List declared.Section
sections = Func ∷ Code ∷ Data ∷ Syms ∷ Root ∷ Extc ∷ Desc ∷ []

-- the bytes of a section's body; an image has neither imports nor relocations
abbrev pub section_bytes_of : Tables → declared.Section → ℕ
section_bytes_of t Func = length (table_bytes func_bytes t.funcs)
section_bytes_of t Code = 4 * length t.code
section_bytes_of t Data = length t.bytes
section_bytes_of t Syms = length (table_bytes sym_bytes t.syms)
section_bytes_of t Root = length (table_bytes le32 t.roots)
section_bytes_of t Extc = length (table_bytes ext_bytes t.extcs)
section_bytes_of t Desc = length (table_bytes (desc_bytes t.version) t.descs)
section_bytes_of t Imps = 0
section_bytes_of t Relo = 0

-- the most bytes of a section's body
abbrev pub section_limit : declared.Section → ℕ
section_limit Code = code_limit
section_limit Data = data_limit
section_limit _ = table_limit

abbrev pub section_passes_limit : Tables → declared.Section → Bool
section_passes_limit t section = nat_lt (section_limit section) (section_bytes_of t section)

-- the first section that passes its limit, with its bytes
abbrev pub first_too_large : Tables → Option Large
first_too_large t =
    option_map (λ section. record { section = section; bytes = section_bytes_of t section }) (find (section_passes_limit t) sections)
