-- Tables by number.
use Rattle.std.specs.Prelude.{ℕ, slice_index_or}
use Rattle.mach_ir.specs.declared.number_table.NumberTable.{NumberTable}

-- what was put at a number, 0 beyond the end of the table
abbrev pub table_entry : NumberTable → ℕ → ℕ
table_entry t n = slice_index_or t.entries.items n 0
