-- Forms that go by their first tokens.
use Rattle.std.proofs.Common.{◌≡◌, ℕ, suc, Bool, false, List, [], ◌∷◌, length, refl, sym, ap, ◌∙◌}
use Rattle.std.specs.List.{insert}
use Rattle.cmm_lex.specs.Token.{TokenTree}
use Rattle.cmm_lex.specs.Integers.{integer_value}
use Rattle.cmm_tree.specs.Tree.{Expression, Switch, Catch, Handlers, Handle}
use Rattle.cmm_tree.specs.View.{expr_view, label_view, params_view}
use Rattle.cmm_tree.specs.declared.expr.Handler.{Handler}
use Rattle.cmm_grammar.specs.Parts.{CasePart, HandlerPart, HeadPart, cases, handlers}
use Rattle.cmm_grammar.specs.Words.{is_open, is_integer, is_case, passing, word_or_zero}
use Rattle.cmm_grammar.specs.Rule.{Expr}
use Rattle.cmm_grammar.specs.Grammar.{let_form, labelled_handlers, a_token, switch_form, a_case, handler_rest, more_handlers}
use Rattle.cmm_grammar.specs.Reading.{ReadOutcome, Read, Reader, bind, one_by, some_of, reading, forms_below, reads}
use Rattle.cmm_grammar.proofs.Basics.{cond_off}
use Rattle.cmm_tree.specs.Rows.{handlers_of}
use Rattle.cmm_exprs.specs.Results.{binding_rule, let_one, case_goes_on, handler_part, marked_parts}
use Rattle.cmm_exprs.proofs.Readings.{handlers-marked}

-- ---- let

pub let-single : (at : ℕ) (mutable : Bool) (d : ℕ) (tokens : List TokenTree) (t : TokenTree) (ts : List TokenTree)
    → tokens ≡ t ∷ ts
    → is_open t ≡ false
    → reads (let_form at (binding_rule mutable)) d tokens
    ≡ reads (let_one at (binding_rule mutable)) d tokens
unfolding let_form
let-single at mutable d tokens t ts e h =
    ap (reads (let_form at (binding_rule mutable)) d) e ∙ cond_off (is_open t) _ _ h
    ∙ sym (ap (reads (let_one at (binding_rule mutable)) d) e)

-- ---- switch

pub switch-read : (at d : ℕ) (ts us vs ws rest : List TokenTree) (size token : TokenTree) (selector : Expression) (cs : List CasePart)
    → one_by (passing is_integer) ts ≡ Read size us
    → reads Expr d us ≡ Read selector vs
    → one_by (passing is_case) vs ≡ Read token ws
    → some_of case_goes_on (reading a_case d (forms_below d)) (suc (length ws)) ws ≡ Read cs rest
    → reads (switch_form at) d ts ≡ Read (Switch at size.at (word_or_zero (integer_value size.text)) selector (cases cs)) rest
unfolding switch_form a_token
switch-read at d ts us vs ws rest size token selector cs e f g h =
    let last : TokenTree → Expression → List CasePart → Reader Expression =
    λ size selector cs rest. Read (Switch at size.at (word_or_zero (integer_value size.text)) selector (cases cs)) rest
    in
    let third : TokenTree → Expression → TokenTree → Reader Expression =
    λ size selector token ws. bind (some_of case_goes_on (reading a_case d (forms_below d)) (suc (length ws)) ws) (last size selector)
    in
    let second : TokenTree → Expression → Reader Expression = λ size selector vs. bind (one_by (passing is_case) vs) (third size selector) in
    let first : TokenTree → Reader Expression = λ size us. bind (reads Expr d us) (second size) in
    ap (λ (o : ReadOutcome TokenTree). bind o first) e
    ∙ ap (λ (o : ReadOutcome Expression). bind o (second size)) f
    ∙ ap (λ (o : ReadOutcome TokenTree). bind o (third size selector)) g
    ∙ ap (λ (o : ReadOutcome (List CasePart)). bind o (last size selector)) h

-- ---- catch

-- the handlers of a catch after its first label
pub labelled-read : (at d : ℕ) (body : Expression) (label : HeadPart) (ts us rest : List TokenTree) (h : HandlerPart) (hs : List HandlerPart)
    → reads (handler_rest label) d ts ≡ Read h us
    → reads (more_handlers h.goes_on) d us ≡ Read hs rest
    → reads (labelled_handlers at body label) d ts ≡ Read (Catch at body (handlers (h ∷ hs))) rest
unfolding labelled_handlers
labelled-read at d body label ts us rest h hs e f =
    let second : HandlerPart → List HandlerPart → Reader Expression = λ h hs rest. Read (Catch at body (handlers (h ∷ hs))) rest in
    let first : HandlerPart → Reader Expression = λ h us. bind (reads (more_handlers h.goes_on) d us) (second h) in
    ap (λ (o : ReadOutcome HandlerPart). bind o first) e ∙ ap (λ (o : ReadOutcome (List HandlerPart)). bind o (second h)) f

pub insert-first : {A : Type 0} (xs : List A) (x : A) → insert xs 0 x ≡ x ∷ xs
insert-first [] x = refl
insert-first (y ∷ ys) x = refl

-- a handler before others
pub handlers-first : (first : Handler) (goes_on : Bool) (more items : List Handler) → items ≡ insert more 0 first
    → handlers_of items ≡ handlers (handler_part goes_on first ∷ marked_parts handler_part more)
handlers-first first goes_on more items e =
    ap handlers_of (e ∙ insert-first more first)
    ∙ ap (λ (v : Handlers). Handle first.at (label_view first.label) (params_view first.params.items) (expr_view first.body) v) (sym (handlers-marked more))
