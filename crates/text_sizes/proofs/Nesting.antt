-- As few tries nest in what tokens spell as parentheses.
use Rattle.std.proofs.Common.{ℕ, ◌≤◌, List, [], ◌∷◌, Ok, arith}
use Rattle.cmm_lex.specs.Token.{TokenTree}
use Rattle.cmm_tree.specs.Tree.{Expression, FunctionTree, ItemTree, functions_among}
use Rattle.cmm_grammar.specs.Parts.{BindingPart, CasePart, HandlerPart, expressions, bindings, cases, handlers}
use Rattle.cmm_grammar.specs.Rule.{AnExpression, ABinding, ACase, AHandler}
use Rattle.cmm_grammar.specs.Spelling.{AreItems}
use Rattle.std.specs.Prelude.{Contains}
use Rattle.cmm_tree.specs.Tree.{FileTree, functions}
use Rattle.cmm_reader.specs.Text.{ReadsAs}
use Rattle.cmm_reader.specs.Text as said
use Rattle.cmm_grammar.specs.Spelling.{nesting}
use Rattle.cmm_front.specs.FileOf.{IsFileOf}
use Rattle.correctness.specs.Measures.{tries_in, tries_in_row, tries_in_bindings, tries_in_cases, tries_in_handlers, tries}
use Rattle.cmm_grammar.proofs.Giving.{Facts, PartsHave, tokens_any}
use Rattle.cmm_grammar.proofs.GivingForms.{IsClosed, items_known, functions_known, any_datum}
use Rattle.std.proofs.lemmas.List.Elements.{All-contains}

-- as few tries nest in an expression as parentheses
abbrev try_facts : Facts
try_facts = record { token = λ t. Unit {0}; expression = λ d e. tries_in e ≤ d; name = λ name. Unit {0}; datum = λ d. Unit {0} }

row_has : (d : ℕ) (es : List Expression) → PartsHave try_facts d AnExpression es → tries_in_row (expressions es) ≤ d
row_has d [] p = omega arith
row_has d (e ∷ es) p = let here : tries_in e ≤ d = p.0 in let others = row_has d es p.1 in omega (arith, here, others)

bound_has : (d : ℕ) (bs : List BindingPart) → PartsHave try_facts d ABinding bs → tries_in_bindings (bindings bs) ≤ d
bound_has d [] p = omega arith
bound_has d (b ∷ bs) p = let here : tries_in b.value ≤ d = p.0 in let others = bound_has d bs p.1 in omega (arith, here, others)

cases_have : (d : ℕ) (cs : List CasePart) → PartsHave try_facts d ACase cs → tries_in_cases (cases cs) ≤ d
cases_have d [] p = omega arith
cases_have d (c ∷ cs) p = let here : tries_in c.body ≤ d = p.0 in let others = cases_have d cs p.1 in omega (arith, here, others)

handlers_have : (d : ℕ) (hs : List HandlerPart) → PartsHave try_facts d AHandler hs → tries_in_handlers (handlers hs) ≤ d
handlers_have d [] p = omega arith
handlers_have d (h ∷ hs) p = let here : tries_in h.body ≤ d = p.0 in let others = handlers_have d hs p.1 in omega (arith, here, others)

closed : IsClosed try_facts
closed = record {
  deeper = λ n d e le p. omega (arith, le, p);
  integer = λ d at w. omega arith;
  pointer = λ d at w. omega arith;
  symbol = λ d at name. omega arith;
  named = λ d at name. omega arith;
  nothing = λ d at. omega arith;
  float = λ d at word_at es row. row_has d es row;
  bound = λ d at bs e parts p. let others = bound_has d bs parts in omega (arith, p, others);
  assigned = λ d at name_at name e p. p;
  operator = λ d at op x y p q. omega (arith, p, q);
  load = λ d at c x p. p;
  store = λ d at c x y p q. omega (arith, p, q);
  alloc = λ d at header_at header es row. row_has d es row;
  app = λ d at f es r result_at p row. let others = row_has d es row in omega (arith, p, others);
  extcall = λ d at frame name es r result_at n row. row_has d es row;
  checkbound = λ d at x y p q. omega (arith, p, q);
  raised = λ d at x p. p;
  sequence = λ d at es row. row_has d es row;
  branch = λ d at x y z p q r. omega (arith, p, q, r);
  switch = λ d at size_at size e c cs p q parts. let all = cases_have d (c ∷ cs) (q, parts) in omega (arith, p, all);
  caught = λ d at e h hs p q parts. let all = handlers_have d (h ∷ hs) (q, parts) in omega (arith, p, all);
  exit = λ d at label_at label es row. row_has d es row;
  tried = λ d at e name_at name g p q. omega (arith, p, q);
}

-- as few tries nest in a function of items as parentheses
items_nest : (d : ℕ) (items : List ItemTree) (tokens : List TokenTree) → AreItems d items tokens → (f : FunctionTree) → Contains (functions_among items) f →
    tries f ≤ d
items_nest d items tokens are f c =
    let known = items_known try_facts closed (λ t. tt) (λ d w. any_datum try_facts (λ i. tt) d w.value.0 w.value.1) d items tokens are (tokens_any tokens) in
    (All-contains (λ (f : FunctionTree). Unit {0} × (tries f ≤ d)) (functions_among items) f (functions_known try_facts d items known) c).1

read_nests : (text : List ℕ) (file : FileTree) (f : FunctionTree) → ReadsAs text (Ok file) → Contains (functions file) f → tries f ≤ 250
read_nests text _ f (said.file tokens items short cut are faultless) c = items_nest nesting items tokens are f c

-- at most 250 tries nest in a function of a text
pub text_nests : (text : List ℕ) (file : FileTree) (f : FunctionTree) → IsFileOf text file → Contains (functions file) f → tries f ≤ 250
text_nests text file f is c = read_nests text file f is.read c
