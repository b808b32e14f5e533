-- What becomes of the lines of a function whose loops are turned round, as the code keeps it.
use Rattle.std.specs.Prelude.{◌≡◌, ℕ, Bool, cond, Option, Some, None, List, [], ◌∷◌, ◌++◌, length, map, reverse}
use Rattle.std.specs.BTreeSet as set
use Rattle.std.specs.Option.{option_map}
use Rattle.std.specs.Ordering.{nat_cmp}
use Rattle.lin_ir.specs.declared.lin.Line.{Line}
use Rattle.lin_ir.specs.declared.lin.Lin.{Lin}
use Rattle.lin_tidy_rules.specs.Turning.{Head, Turn, label_on, line_turn, is_led_to, turned_line}
use Rattle.lin_tidy.specs.declared.turning.Changes.{Changes}
use Rattle.lin_tidy.specs.declared.turning.Head as declared_head
use Rattle.lin_tidy.specs.declared.turning.Turn as declared_turn

abbrev pub head_view : declared_head.Head → Head
head_view h = record { test = h.test; args = h.args; to = h.to; on = h.on }

abbrev pub turn_view : declared_turn.Turn → Turn
turn_view t = record { here = t.here; head = head_view t.head; keeps = t.keeps }

-- what each line becomes, if it is turned, from the first line on
abbrev pub turns_in : Changes → List (Option Turn)
turns_in c = map (option_map turn_view) (reverse c.turns.items)

-- whether the label is put after a branch
abbrev pub is_opened : Changes → ℕ → Bool
is_opened c l = set.contains nat_cmp c.opened l

-- the label that is put after a line, by the number of lines after it
abbrev pub opened_in : Changes → ℕ → ℕ → Option ℕ
opened_in c free n = cond (is_opened c (label_on free n)) (Some (label_on free n)) None

abbrev pub first_turn : List (Option Turn) → Option Turn
first_turn [] = None
first_turn (turn ∷ turns) = turn

abbrev pub others_of : List (Option Turn) → List (Option Turn)
others_of [] = []
others_of (turn ∷ turns) = turns

-- the lines, each with what it becomes
abbrev pub turned_by : (ℕ → Option ℕ) → List (Option Turn) → List Line → List Line
turned_by opens turns [] = []
turned_by opens turns (i ∷ next) =
    turned_line (first_turn turns) (opens (length (others_of turns))) i
    ++ turned_by opens (others_of turns) next

abbrev pub turns_of : Lin → ℕ → List Line → List (Option Turn)
turns_of m free [] = []
turns_of m free (i ∷ next) = line_turn m free i next ∷ turns_of m free next

-- they are those of these lines, the last of the function
pub record AreChanges (m : Lin) (free : ℕ) (code : List Line) (c : Changes) : Type 0 where
  pub turns : turns_in c ≡ turns_of m free code
  pub opened : (l : ℕ) → is_opened c l ≡ is_led_to m free l code
