-- What the generator draws, and its text.
--
-- What is drawn is data, whose text, tree, types and runs are each said of it. So reading, typing and
-- running are proved for every drawn text, and not for those of some seed.
use Rattle.std.specs.Prelude.{ℕ, zero, suc, ◌-◌, cond, nat_lt, Bool, true, false, List, [], ◌∷◌, ◌++◌, codes}
use Rattle.std.specs.Fmt.{decimal}

-- An expression that the generator draws.
pub data Drawn : Type 0 where
  -- a further draw mod 201, less 100
  Number : (draw : ℕ) → Drawn  -- 0 .. 200
  -- `x` where a further draw is even, else `y`
  Variable : (even : Bool) → Drawn
  Sum : (a b : Drawn) → Drawn
  Difference : (a b : Drawn) → Drawn
  Product : (a b : Drawn) → Drawn
  -- (if (< a b) c d)
  Choice : (a b c d : Drawn) → Drawn
  -- (load int (alloc 2299 a b))
  Cell : (a b : Drawn) → Drawn
  -- (try (if (< a b) (raise 1) c) with z d)
  Attempt : (a b c d : Drawn) → Drawn

-- A function that it draws: `(let p P (let q Q B))`. Each but the first calls the one before it, and adds
-- what `b` is.
pub record DrawnFunction : Type 0 where
  pub p : Drawn
  pub q : Drawn
  pub b : Drawn

-- ---- texts, in bytes

-- the number that a draw stands for, which is 100 less
abbrev pub number_text : ℕ → List ℕ
number_text draw = cond (nat_lt draw 100) (codes "-" ++ decimal (100 - draw)) (decimal (draw - 100))

-- the parameter that a draw stands for
abbrev pub variable_name : Bool → List ℕ
variable_name true = codes "x"
variable_name false = codes "y"

abbrev pub drawn_text : Drawn → List ℕ
drawn_text (Number draw) = number_text draw
drawn_text (Variable even) = variable_name even
drawn_text (Sum a b) = codes "(+ " ++ drawn_text a ++ codes " " ++ drawn_text b ++ codes ")"
drawn_text (Difference a b) = codes "(- " ++ drawn_text a ++ codes " " ++ drawn_text b ++ codes ")"
-- `(*` would open a comment
drawn_text (Product a b) = codes "( * " ++ drawn_text a ++ codes " " ++ drawn_text b ++ codes ")"
drawn_text (Choice a b c d) =
    codes "(if (< " ++ drawn_text a ++ codes " " ++ drawn_text b ++ codes ") "
    ++ drawn_text c ++ codes " " ++ drawn_text d ++ codes ")"
drawn_text (Cell a b) =
    codes "(load int (alloc 2299 " ++ drawn_text a ++ codes " " ++ drawn_text b ++ codes "))"
drawn_text (Attempt a b c d) =
    codes "(try (if (< " ++ drawn_text a ++ codes " " ++ drawn_text b ++ codes ") (raise 1) "
    ++ drawn_text c ++ codes ") with z " ++ drawn_text d ++ codes ")"

-- the symbol of a function, by its number
abbrev pub symbol_of : ℕ → List ℕ
symbol_of j = codes "g" ++ decimal j

-- the first function calls none, and each other one the function before it
abbrev pub body_text : ℕ → Drawn → List ℕ
body_text zero b = drawn_text b
body_text (suc i) b =
    codes "(+ (app \"" ++ symbol_of i ++ codes "\" p q int) " ++ drawn_text b ++ codes ")"

-- the line of a function, by its number
abbrev pub function_text : ℕ → DrawnFunction → List ℕ
function_text j f =
    codes "(function \"" ++ symbol_of j ++ codes "\" (x:int y:int) (let p " ++ drawn_text f.p
    ++ codes " (let q " ++ drawn_text f.q ++ codes " " ++ body_text j f.b ++ codes ")))\n"

-- the lines of functions, of which the first has this number
abbrev pub text_from : ℕ → List DrawnFunction → List ℕ
text_from j [] = []
text_from j (f ∷ functions) = function_text j f ++ text_from (suc j) functions

-- the text of a file
abbrev pub text_of : List DrawnFunction → List ℕ
text_of functions = text_from 0 functions
