-- Forms inside forms: what a reader needs of the function that reads a form one level deeper.
use Rattle.std.specs.Prelude.{◌<◌, ℕ, List, Result}
use Rattle.std.specs.Borrow.{Bor}
use Rattle.cmm_lex.specs.declared.token.Token as declared
use Rattle.cmm_tree.specs.View.{expr_view}
use Rattle.cmm_tree.specs.declared.expr.Expr.{Expr}
use Rattle.cmm_grammar.specs.Grammar.{open_form}
use Rattle.cmm_nodes.specs.declared.stop.Stop.{Stop}
use Rattle.cmm_parts.specs.Results.{ReadPart, ReadsBy}

-- what reads a form after its parenthesis, by the tokens there, the depth inside it and its place,
-- may be called below this depth
abbrev pub MayRead : (Bor (List declared.Token) → ℕ → ℕ → Type 0) → ℕ → Type 0
MayRead may_call depth =
    (tokens : Bor (List declared.Token)) (below at : ℕ) → below < depth → may_call tokens below at

-- and what it then returns is what reading the form gives
abbrev pub ReadsForms : (Bor (List declared.Token) → ℕ → ℕ → Result (ReadPart Expr) Stop → Type 0)
    → List ℕ → ℕ → Type 0
ReadsForms returns source depth =
    (tokens : Bor (List declared.Token)) (below at : ℕ) (result : Result (ReadPart Expr) Stop)
    → below < depth
    → returns tokens below at result
    → ReadsBy (open_form at) expr_view below source tokens.now result
