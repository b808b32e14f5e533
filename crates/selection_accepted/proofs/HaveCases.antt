-- Each switch that tokens spell has a case.
use Rattle.std.proofs.Common.{ℕ, List, [], ◌∷◌}
use Rattle.std.specs.Prelude.{Contains}
use Rattle.std.proofs.lemmas.List.Elements.{All-contains}
use Rattle.cmm_lex.specs.Token.{TokenTree}
use Rattle.cmm_tree.specs.Tree.{Expression, FunctionTree, ItemTree, functions_among}
use Rattle.cmm_grammar.specs.Parts.{BindingPart, CasePart, HandlerPart, expressions, bindings, cases, handlers}
use Rattle.cmm_grammar.specs.Rule.{AnExpression, ABinding, ACase, AHandler}
use Rattle.cmm_grammar.specs.Spelling.{AreItems}
use Rattle.cmm_grammar.proofs.Giving.{Facts, PartsHave, tokens_any}
use Rattle.cmm_grammar.proofs.GivingForms.{IsClosed, items_known, functions_known, any_datum}
use Rattle.selection_promise.specs.Known.{HaveCases, RowHaveCases, BoundHaveCases, CasesHaveCases, HandlersHaveCases}

abbrev case_facts : Facts
case_facts = record { token = λ t. Unit {0}; expression = λ d e. HaveCases e; name = λ name. Unit {0}; datum = λ d. Unit {0} }

row_has : (d : ℕ) (es : List Expression) → PartsHave case_facts d AnExpression es → RowHaveCases (expressions es)
row_has d [] p = tt
row_has d (e ∷ es) p = (p.0, row_has d es p.1)

bound_has : (d : ℕ) (bs : List BindingPart) → PartsHave case_facts d ABinding bs → BoundHaveCases (bindings bs)
bound_has d [] p = tt
bound_has d (b ∷ bs) p = (p.0, bound_has d bs p.1)

cases_have : (d : ℕ) (cs : List CasePart) → PartsHave case_facts d ACase cs → CasesHaveCases (cases cs)
cases_have d [] p = tt
cases_have d (c ∷ cs) p = (p.0, cases_have d cs p.1)

handlers_have : (d : ℕ) (hs : List HandlerPart) → PartsHave case_facts d AHandler hs → HandlersHaveCases (handlers hs)
handlers_have d [] p = tt
handlers_have d (h ∷ hs) p = (p.0, handlers_have d hs p.1)

closed : IsClosed case_facts
closed = record {
  deeper = λ n d e le p. p;
  integer = λ d at w. tt;
  pointer = λ d at w. tt;
  symbol = λ d at name. tt;
  named = λ d at name. tt;
  nothing = λ d at. tt;
  float = λ d at word_at es row. row_has d es row;
  bound = λ d at bs e parts p. (bound_has d bs parts, p);
  assigned = λ d at name_at name e p. p;
  operator = λ d at op x y p q. (p, q);
  load = λ d at c x p. p;
  store = λ d at c x y p q. (p, q);
  alloc = λ d at header_at header es row. row_has d es row;
  app = λ d at f es r result_at p row. (p, row_has d es row);
  extcall = λ d at frame name es r result_at n row. row_has d es row;
  checkbound = λ d at x y p q. (p, q);
  raised = λ d at x p. p;
  sequence = λ d at es row. row_has d es row;
  branch = λ d at x y z p q r. (p, (q, r));
  switch = λ d at size_at size e c cs p q parts. (tt, (p, (q, cases_have d cs parts)));
  caught = λ d at e h hs p q parts. (p, (q, handlers_have d hs parts));
  exit = λ d at label_at label es row. row_has d es row;
  tried = λ d at e name_at name g p q. (p, q);
}

-- each switch of a function of items has a case
pub items_have_cases : (d : ℕ) (items : List ItemTree) (tokens : List TokenTree) → AreItems d items tokens → (f : FunctionTree) →
    Contains (functions_among items) f → HaveCases f.body
items_have_cases d items tokens are f c =
    let known = items_known case_facts closed (λ t. tt) (λ d w. any_datum case_facts (λ i. tt) d w.value.0 w.value.1) d items tokens are (tokens_any tokens) in
    (All-contains (λ (f : FunctionTree). Unit {0} × HaveCases f.body) (functions_among items) f (functions_known case_facts d items known) c).1
