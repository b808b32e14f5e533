-- The parts of forms that hold expressions, as their readers return them.
use Rattle.std.specs.Prelude.{ℕ, suc, Bool, true, false, List, [], ◌∷◌, length, map}
use Rattle.cmm_tree.specs.Tree.{Expression}
use Rattle.cmm_tree.specs.View.{expr_view, index_view, label_view, params_view}
use Rattle.cmm_tree.specs.declared.expr.Case.{Case}
use Rattle.cmm_tree.specs.declared.expr.Handler.{Handler}
use Rattle.cmm_grammar.specs.Parts.{CasePart, HandlerPart}
use Rattle.cmm_grammar.specs.Rule.{Sort, Value, Rule, Then, Expr, ABinding, AnExpression, Listed, labelled_or}
use Rattle.cmm_grammar.specs.Grammar.{a_binding, a_mutable_binding, bindings_to_close, let_body, label_rest, labelled_handlers, bare_handler}
use Rattle.cmm_grammar.specs.Reading.{Reader, some_of, deeper, reading, forms_below}

-- ---- rules

-- a binding of `letmut`, or of `let`
abbrev pub binding_rule : Bool → Rule ABinding
binding_rule true = a_mutable_binding
binding_rule false = a_binding

-- a `let` of one binding, after its word
abbrev pub let_one : ℕ → Rule ABinding → Rule AnExpression
let_one at r = Then ABinding AnExpression r (λ b. let_body at (b ∷ []))

-- a handler without a label, after `with`
abbrev pub bare_handler_rule : ℕ → Expression → Rule AnExpression
bare_handler_rule at body = Then AnExpression AnExpression Expr (bare_handler at body)

-- the handlers of a catch, after `with`
abbrev pub handlers_rule : ℕ → Expression → Rule AnExpression
handlers_rule at body = labelled_or label_rest (labelled_handlers at body) (bare_handler at body)

-- bindings in a parenthesis of their own, after that
abbrev pub enclosed_bindings : Rule ABinding → ℕ → Reader (Value (Listed ABinding))
enclosed_bindings r depth ts = deeper depth (reading (bindings_to_close r)) (forms_below depth) ts

-- at least one by the rule, up to the first that none follows
abbrev pub some_by : {s : Sort} → (Value s → Bool) → Rule s → ℕ → Reader (List (Value s))
some_by more rule depth ts =
    some_of more (reading rule depth (forms_below depth)) (suc (length ts)) ts

-- ---- parts

-- a case of a switch, and whether another follows
abbrev pub case_part : Bool → Case → CasePart
case_part goes_on c =
    record { indexes = map index_view c.indexes.items; body = expr_view c.body; goes_on = goes_on }

-- a handler, and whether another follows
abbrev pub handler_part : Bool → Handler → HandlerPart
handler_part goes_on h =
    record {
      at = h.at;
      label = label_view h.label;
      params = params_view h.params.items;
      body = expr_view h.body;
      goes_on = goes_on;
    }

abbrev pub case_goes_on : CasePart → Bool
case_goes_on = λ c. c.goes_on

abbrev pub handler_goes_on : HandlerPart → Bool
handler_goes_on = λ h. h.goes_on

-- parts one after the other: each but the last is followed by another
abbrev pub marked_parts : {X A : Type 0} → (Bool → X → A) → List X → List A
marked_parts part [] = []
marked_parts part (x ∷ []) = part false x ∷ []
marked_parts part (x ∷ y ∷ xs) = part true x ∷ marked_parts part (y ∷ xs)
