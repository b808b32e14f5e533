-- How many numbers of registers and labels an expression may take, so that no sum of them passes 32 bits.
use Rattle.std.specs.Prelude.{ℕ, ◌+◌, ◌<◌, max, List, [], ◌∷◌}
use Rattle.cmm_tree.specs.Measures.{total, row_total, bindings_total, cases_total, handlers_total, own_indexes}
use Rattle.cmm_tree.specs.Tree.{FunctionTree, Expression, Expressions, Bindings, Cases, Handlers}
use Rattle.selection_rules.specs.Select.{Label, selected, width}

-- The numbers of a function are fewer, and with them the tries round a node and the indexes of its
-- switches. The bytes of a block with fewer cells take 32 bits.
abbrev pub most_numbers : ℕ
most_numbers = 0x1FFFFFFF

-- the most tries that are between a handler in scope and here
abbrev pub most_tries : List Label → ℕ
most_tries [] = 0
most_tries (t ∷ labels) = max t.tries (most_tries labels)

-- those of all switches in it
abbrev pub indexes_in : Expression → ℕ
indexes_in e = total own_indexes e

abbrev pub indexes_in_row : Expressions → ℕ
indexes_in_row es = row_total own_indexes es

abbrev pub indexes_in_bound : Bindings → ℕ
indexes_in_bound bindings = bindings_total own_indexes bindings

abbrev pub indexes_in_cases : Cases → ℕ
indexes_in_cases cases = cases_total own_indexes cases

abbrev pub indexes_in_handlers : Handlers → ℕ
indexes_in_handlers handlers = handlers_total own_indexes handlers

-- an expression has room whose own numbers begin with this one
abbrev pub HasExpressionRoom : ℕ → Expression → Type 0
HasExpressionRoom base e = base + (width e + indexes_in e) < most_numbers

-- a function has room: in its Mach function `labels` is the first number after its own
abbrev pub IsSelectable : FunctionTree → Type 0
IsSelectable f = (selected f).labels + indexes_in f.body < most_numbers
