-- The limits on sizes that a text keeps.
use Rattle.std.specs.Prelude.{ℕ}

-- the most bytes of a text
abbrev pub longest_text : ℕ
longest_text = 16777216

-- the most parameters of a function, and arguments of a call
abbrev pub most_params : ℕ
most_params = 16

-- the most tokens of a function, its parentheses counted
abbrev pub most_tokens : ℕ
most_tokens = 32000

-- the most indexes of a switch
abbrev pub most_indexes : ℕ
most_indexes = 4096
