-- The lines on err that have no number.
use Rattle.std.specs.Prelude.{ℕ, List, codes}

abbrev pub read_fault_line : List ℕ
read_fault_line = codes "cmmc: read fault\n"

abbrev pub no_memory_line : List ℕ
no_memory_line = codes "cmmc: no memory\n"
