-- The lines that the program writes for faults: the program's name, the number and the word of the
-- fault, and where it is.
use Rattle.std.specs.Prelude.{ℕ, List, ◌++◌, codes}
use Rattle.std.specs.Fmt.{decimal}
use Rattle.bs_fault.specs.declared.image.ImageFault.{ImageFault}
use Rattle.bs_fault.specs.declared.image.ImageFault.TheVariants.{Truncated, Magic, Version, Section, Table, Trailing}
use Rattle.bs_fault.specs.declared.image.ImageRefusal.{ImageRefusal}
use Rattle.bs_fault.specs.declared.usage.Usage.{Usage}
use Rattle.bs_fault.specs.declared.usage.Usage.TheVariants.{Words, ValueText, UnknownEntry, ArgumentUnfit}
use Rattle.bs_fault.specs.declared.large.Section as sections
use Rattle.bs_fault.specs.declared.large.Section.TheVariants as section
use Rattle.bs_fault.specs.declared.large.Large.{Large}

abbrev pub image_word : ImageFault → List ℕ
image_word Truncated = codes "G1 Truncated"
image_word Magic = codes "G2 Magic"
image_word Version = codes "G3 Version"
image_word Section = codes "G4 Section"
image_word Table = codes "G5 Table"
image_word Trailing = codes "G6 Trailing"

-- as `cmmc: G1 Truncated at 133`
abbrev pub image_line : ImageRefusal → List ℕ
image_line refusal = codes "cmmc: " ++ image_word refusal.fault ++ codes " at " ++ decimal refusal.at ++ codes "\n"

abbrev pub usage_word : Usage → List ℕ
usage_word Words = codes "U1 Words"
usage_word ValueText = codes "U2 ValueText"
usage_word UnknownEntry = codes "U3 UnknownEntry"
usage_word ArgumentUnfit = codes "U4 ArgumentUnfit"

-- as `cmmc: U1 Words`
abbrev pub usage_line : Usage → List ℕ
usage_line usage = codes "cmmc: " ++ usage_word usage ++ codes "\n"

-- the four letters of a section
abbrev pub section_word : sections.Section → List ℕ
section_word section.Func = codes "FUNC"
section_word section.Code = codes "CODE"
section_word section.Data = codes "DATA"
section_word section.Syms = codes "SYMS"
section_word section.Root = codes "ROOT"
section_word section.Extc = codes "EXTC"
section_word section.Desc = codes "DESC"
section_word section.Imps = codes "IMPS"
section_word section.Relo = codes "RELO"

-- as `cmmc: B1 ImageTooLarge DESC 67233604`
abbrev pub large_line : Large → List ℕ
large_line large = codes "cmmc: B1 ImageTooLarge " ++ section_word large.section ++ codes " " ++ decimal large.bytes ++ codes "\n"
