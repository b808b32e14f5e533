-- The tree of a text that the generator draws, whatever the places of its nodes.
use Rattle.std.specs.Prelude.{ℕ, zero, suc, Bool, List, [], ◌∷◌, None, codes}
use Rattle.bs_words.specs.Word.{sub_word}
use Rattle.bs_words.specs.declared.operators.CmpOp.TheVariants.{Lt}
use Rattle.bs_words.specs.declared.operators.IntOp.TheVariants.{Add, Sub, Mul, Cmp}
use Rattle.bs_words.specs.declared.types.Chunk.TheVariants as chunk
use Rattle.bs_words.specs.declared.types.Comp.TheVariants as comp
use Rattle.bs_words.specs.declared.types.Ret.TheVariants as ret
use Rattle.cmm_tree.specs.Tree.{Expression, Integer, Symbol, Name, Let, Operator, Load, Alloc, App, Raise, If, Try, NoMore, More, NoBinding, Bind, FunctionTree, ItemTree, AFunction, FileTree}
use Rattle.cmm_gen.specs.Drawn.{Drawn, Number, Variable, Sum, Difference, Product, Choice, Cell, Attempt, DrawnFunction, variable_name, symbol_of}

-- the word of a number
abbrev pub number_word : ℕ → ℕ
number_word draw = sub_word draw 100

-- The expression is what is drawn.
pub data IsTreeOf : Drawn → Expression → Type 0 where
  number : (draw at : ℕ) → IsTreeOf (Number draw) (Integer at (number_word draw))
  variable : (even : Bool) (at : ℕ) → IsTreeOf (Variable even) (Name at (variable_name even))
  sum : (a b : Drawn) (at : ℕ) (left right : Expression)
      → IsTreeOf a left
      → IsTreeOf b right
      → IsTreeOf (Sum a b) (Operator at Add left right)
  difference : (a b : Drawn) (at : ℕ) (left right : Expression)
      → IsTreeOf a left
      → IsTreeOf b right
      → IsTreeOf (Difference a b) (Operator at Sub left right)
  product : (a b : Drawn) (at : ℕ) (left right : Expression)
      → IsTreeOf a left
      → IsTreeOf b right
      → IsTreeOf (Product a b) (Operator at Mul left right)
  choice : (a b c d : Drawn) (at test_at : ℕ) (left right on_true on_false : Expression)
      → IsTreeOf a left
      → IsTreeOf b right
      → IsTreeOf c on_true
      → IsTreeOf d on_false
      → IsTreeOf (Choice a b c d) (If at (Operator test_at (Cmp Lt) left right) on_true on_false)
  cell : (a b : Drawn) (at alloc_at header_at : ℕ) (first second : Expression)
      → IsTreeOf a first
      → IsTreeOf b second
      → IsTreeOf (Cell a b) (Load at chunk.Int (Alloc alloc_at header_at 2299 (More first (More second NoMore))))
  attempt : (a b c d : Drawn) (at if_at test_at raise_at one_at name_at : ℕ) (left right on_false handler : Expression)
      → IsTreeOf a left
      → IsTreeOf b right
      → IsTreeOf c on_false
      → IsTreeOf d handler
      → IsTreeOf (Attempt a b c d)
      (Try at (If if_at (Operator test_at (Cmp Lt) left right) (Raise raise_at (Integer one_at 1)) on_false) name_at (codes "z") handler)

-- The expression is what a function adds to the call of the one before it, by its own number.
pub data IsBodyOf : ℕ → Drawn → Expression → Type 0 where
  first : (b : Drawn) (e : Expression) → IsTreeOf b e → IsBodyOf zero b e
  later : (i : ℕ) (b : Drawn) (at app_at symbol_at p_at q_at result_at : ℕ) (e : Expression)
      → IsTreeOf b e
      → IsBodyOf (suc i) b
      (Operator at Add
      (App app_at (Symbol symbol_at (symbol_of i)) (More (Name p_at (codes "p")) (More (Name q_at (codes "q")) NoMore)) (ret.Comp comp.Int) result_at)
      e)

-- The function of this number is what is drawn.
pub data IsFunctionTreeOf : ℕ → DrawnFunction → FunctionTree → Type 0 where
  function : (j : ℕ) (f : DrawnFunction) (at name_at x_at x_comp_at y_at y_comp_at let_at p_at inner_at q_at tokens : ℕ) (p q b : Expression)
      → IsTreeOf f.p p
      → IsTreeOf f.q q
      → IsBodyOf j f.b b
      → IsFunctionTreeOf j f
      (record {
        at = at;
        name_at = name_at;
        name = symbol_of j;
        params =
            record { at = x_at; name = codes "x"; comp = comp.Int; comp_at = x_comp_at }
            ∷ record { at = y_at; name = codes "y"; comp = comp.Int; comp_at = y_comp_at } ∷ [];
        body = Let let_at (Bind p_at (codes "p") None p NoBinding) (Let inner_at (Bind q_at (codes "q") None q NoBinding) b);
        tokens = tokens;
      })

-- The items are these functions, of which the first has this number.
pub data AreItemsOf : ℕ → List DrawnFunction → List ItemTree → Type 0 where
  none : (j : ℕ) → AreItemsOf j [] []
  more : (j : ℕ) (f : DrawnFunction) (fs : List DrawnFunction) (tree : FunctionTree) (items : List ItemTree)
      → IsFunctionTreeOf j f tree
      → AreItemsOf (suc j) fs items
      → AreItemsOf j (f ∷ fs) (AFunction tree ∷ items)

-- The file is what is drawn.
abbrev pub IsFileTreeOf : List DrawnFunction → FileTree → Type 0
IsFileTreeOf functions file = AreItemsOf 0 functions file.items
