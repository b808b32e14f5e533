-- The names of symbols.
use Rattle.std.specs.Prelude.{ℕ, ◌≤◌, Bool, ◌&&◌, nat_le, List, length, All, codes}
use Rattle.std.specs.List.{list_all}
use Rattle.std.specs.Char.{is_ascii_graphic}

-- the name of a symbol: 1 to 255 bytes, each 0x21 to 0x7E
abbrev pub IsSymbol : List ℕ → Type 0
IsSymbol bytes = (1 ≤ length bytes) × (length bytes ≤ 255) × All (λ b. (0x21 ≤ b) × (b ≤ 0x7E)) bytes

-- whether bytes are the name of a symbol
abbrev pub is_symbol : List ℕ → Bool
is_symbol bytes = nat_le 1 (length bytes) && (nat_le (length bytes) 255 && list_all is_ascii_graphic bytes)

-- the symbol of the built-in data, which a failed test of an index raises
abbrev pub caml_bound_error : List ℕ
caml_bound_error = codes "caml_bound_error"
