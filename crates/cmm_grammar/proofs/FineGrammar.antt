-- The rules of the grammar can always be finished, and the next token always decides in them.
use Rattle.std.proofs.Common.{ℕ, ◌≤◌, zero, suc, Bool, true, false, List, [], ◌∷◌, ◌++◌, Option, Some, None, is_some, refl, arith}
use Rattle.bs_words.specs.declared.types.Chunk.{Chunk}
use Rattle.cmm_lex.specs.Token.{TokenTree}
use Rattle.cmm_lex.specs.declared.token.TokenKind.TheVariants as kind
use Rattle.cmm_lex.specs.declared.token.Keyword.TheVariants as word
use Rattle.cmm_lex.specs.declared.token.Sign.TheVariants as sign
use Rattle.cmm_tree.specs.Tree.{Expression, Expressions, DatumTree, Index}
use Rattle.cmm_tree.specs.Tree as tree
use Rattle.cmm_grammar.specs.declared.word.Head.{Head}
use Rattle.cmm_grammar.specs.declared.word.Head.TheVariants as head
use Rattle.cmm_grammar.specs.declared.word.Pair.{Pair}
use Rattle.cmm_grammar.specs.declared.word.Triple.{Triple}
use Rattle.cmm_grammar.specs.declared.word.ChunkWord.{ChunkWord}
use Rattle.cmm_grammar.specs.declared.word.ChunkWord.TheVariants as starts
use Rattle.cmm_grammar.specs.declared.word.DataWord.{DataWord}
use Rattle.cmm_grammar.specs.declared.word.DataWord.TheVariants as item
use Rattle.cmm_grammar.specs.declared.word.Width.TheVariants as width
use Rattle.cmm_grammar.specs.Parts.{ResultPart, BindingPart, CasePart, HandlerPart, HeadPart, sequence}
use Rattle.cmm_grammar.specs.Words.{is_close, is_colon, is_name, is_integer, is_float_token, is_string, is_with, is_case, is_no_case, is_and, is_symbol_token, is_ret, is_data, is_function, ends_case, ends_handler}
use Rattle.cmm_grammar.specs.Rule.{AToken, AnExpression, AResult, ABinding, AnIndex, ACase, AHandler, ALabel, AParameter, ADataItem, AnItem, Listed, Rule, Expr, Inside}
use Rattle.cmm_grammar.specs.Grammar.{a_token, close, a_comp, a_result, operands, sequence_to_close, sequence_to_with, a_binding, a_mutable_binding, bindings_to_close, let_body, let_form, assign_form, arguments_of, app_form, extcall_rest, extcall_form, alloc_form, load_rest, store_rest, chunk_rest, chunked, load_form, store_form, raise_form, pair_form, triple_form, float_form, seq_form, while_form, case_number, another_number, case_body, a_case, switch_form, a_parameter, parameters, label_rest, handler_rest, a_label, next_handler, more_handlers, labelled_handlers, bare_handler, catch_form, exit_rest, exit_form, try_form, form_of, open_form, a_data_integer, datum_of, a_data_item, data_items, data_list, a_function, item_rest, an_item}
use Rattle.cmm_grammar.specs.Spelling.{Spells, nothing, token, both, inside, ended}
use Rattle.cmm_grammar.proofs.Fine.{Solid, Fine, Starts, Ends, is_no_open}
use Rattle.cmm_grammar.proofs.Finish.{finish, of_kind, a_name, an_open, a_name_leaf, leaf_spells, starts_then, starts_leaf, starts_token, token_spells, token_fine, token_solid, the, two, three, until_fine}

-- tokens for the rules of one token
abbrev a_close : TokenTree
a_close = of_kind (kind.Sign sign.Close)

abbrev a_colon : TokenTree
a_colon = of_kind (kind.Sign sign.Colon)

abbrev an_integer : TokenTree
an_integer = of_kind kind.Integer

abbrev a_float : TokenTree
a_float = of_kind kind.Float

-- `"a"`
abbrev a_string : TokenTree
a_string = record { at = 0; kind = kind.String; text = 34 ∷ 97 ∷ 34 ∷ [] }

abbrev a_with : TokenTree
a_with = of_kind (kind.Keyword word.With)

abbrev a_case_word : TokenTree
a_case_word = of_kind (kind.Keyword word.Case)

abbrev an_int : TokenTree
an_int = of_kind (kind.Keyword word.Int)

close_fine : (d : ℕ) → Fine close d
close_fine d = token_fine is_close d a_close refl

close_solid : Solid close
close_solid = token_solid is_close

comp_fine : (d : ℕ) → Fine a_comp d
unfolding a_comp
comp_fine d = record { token = an_int; value = _; gives = refl }

result_fine : (d : ℕ) → Fine a_result d
unfolding a_result
result_fine d = record { token = an_int; value = _; gives = refl }

name_fine : (d : ℕ) → Fine (a_token is_name) d
name_fine d = token_fine is_name d a_name refl

integer_fine : (d : ℕ) → Fine (a_token is_integer) d
integer_fine d = token_fine is_integer d an_integer refl

symbol_fine : (d : ℕ) → Fine (a_token is_symbol_token) d
symbol_fine d = token_fine is_symbol_token d a_string refl

-- ---- expressions one after the other

operands_fine : (d : ℕ) → Fine operands d
unfolding operands
operands_fine d = until_fine AnExpression (Listed AnExpression) is_close Expr (λ u v. v) d a_close tt tt refl

to_close_fine : (d : ℕ) → Fine sequence_to_close d
unfolding sequence_to_close
to_close_fine d = two tt (λ e. two (operands_fine d) (λ es. tt))

to_with_fine : (d : ℕ) → Fine sequence_to_with d
unfolding sequence_to_with
to_with_fine d = two tt (λ e. until_fine AnExpression AnExpression is_with Expr (λ u v. sequence e v) d a_with tt tt refl)

-- ---- let, letmut and assign

binding_fine : (d : ℕ) → Fine a_binding d
unfolding a_binding
binding_fine d = two (name_fine d) (λ n. two tt (λ v. tt))

binding_solid : Solid a_binding
unfolding a_binding
binding_solid = token_solid is_name

binding_starts : (d : ℕ) → Starts is_no_open ABinding d a_binding
unfolding a_binding
binding_starts d = starts_then is_no_open _ _ d _ _ (starts_token is_no_open is_name d a_name refl refl) (λ n. two tt (λ v. tt))

mutable_fine : (d : ℕ) → Fine a_mutable_binding d
unfolding a_mutable_binding
mutable_fine d = two (name_fine d) (λ n. two (comp_fine d) (λ c. two tt (λ v. tt)))

mutable_solid : Solid a_mutable_binding
unfolding a_mutable_binding
mutable_solid = token_solid is_name

mutable_starts : (d : ℕ) → Starts is_no_open ABinding d a_mutable_binding
unfolding a_mutable_binding
mutable_starts d = starts_then is_no_open _ _ d _ _ (starts_token is_no_open is_name d a_name refl refl) (λ n. two (comp_fine d) (λ c. two tt (λ v. tt)))

bindings_fine : (r : Rule ABinding) (d : ℕ) → Fine r d → Solid r → Fine (bindings_to_close r) d
unfolding bindings_to_close
bindings_fine r d fine solid = two fine (λ b. until_fine ABinding (Listed ABinding) is_close r (λ u v. b ∷ v) d a_close fine solid refl)

let_body_fine : (at : ℕ) (bs : List BindingPart) (d : ℕ) → Fine (let_body at bs) d
unfolding let_body
let_body_fine at bs d = two (to_close_fine d) (λ e. tt)

let_fine : (at : ℕ) (r : Rule ABinding) (d : ℕ) → ((e : ℕ) → Fine r e) → Solid r → Starts is_no_open ABinding d r → Fine (let_form at r) d
unfolding let_form
let_fine at r zero fine solid start =
    three (two (fine 0) (λ b. let_body_fine at (b ∷ []) 0)) (two solid (starts_then is_no_open _ _ 0 _ _ start (λ b. let_body_fine at (b ∷ []) 0))) tt
let_fine at r (suc d) fine solid start =
    three (two (fine (suc d)) (λ b. let_body_fine at (b ∷ []) (suc d)))
    (two solid (starts_then is_no_open _ _ (suc d) _ _ start (λ b. let_body_fine at (b ∷ []) (suc d))))
    (two (λ p. bindings_fine r d (fine d) solid) (λ bs. let_body_fine at bs (suc d)))

assign_fine : (at d : ℕ) → Fine (assign_form at) d
unfolding assign_form
assign_fine at d = two (name_fine d) (λ n. two tt (λ v. two (close_fine d) (λ c. tt)))

-- ---- calls

result_starts : (d : ℕ) → Starts is_ret AResult d a_result
unfolding a_result
result_starts d = record { first = an_int; others = []; value = _; passes = refl; spells = token AResult d _ an_int _ refl }

result_solid : Solid a_result
unfolding a_result
result_solid = tt

arguments_fine : (made : Expressions → ResultPart → Expression) (d : ℕ) → Fine (arguments_of made) d
unfolding arguments_of
arguments_fine made d =
    two (two tt tt) (λ es. three (two (result_fine d) (λ r. two (close_fine d) (λ c. tt))) result_solid
    (starts_then is_ret _ _ d _ _ (result_starts d) (λ r. two (close_fine d) (λ c. tt))))

app_fine : (at d : ℕ) → Fine (app_form at) d
unfolding app_form
app_fine at d = two tt (λ e. arguments_fine _ d)

extcall_rest_fine : (at : ℕ) (frame : Bool) (d : ℕ) → Fine (extcall_rest at frame) d
unfolding extcall_rest
extcall_rest_fine at frame d = two (symbol_fine d) (λ n. arguments_fine _ d)

extcall_rest_solid : (at : ℕ) (frame : Bool) → Solid (extcall_rest at frame)
unfolding extcall_rest
extcall_rest_solid at frame = token_solid is_symbol_token

extcall_fine : (at d : ℕ) → Fine (extcall_form at) d
unfolding extcall_form
extcall_fine at d =
    three (record { token = of_kind (kind.Keyword word.Alloc); value = _; gives = refl }) (extcall_rest_solid at false)
    (λ mark. extcall_rest_fine at (is_some mark) d)

-- ---- memory

alloc_fine : (at d : ℕ) → Fine (alloc_form at) d
unfolding alloc_form
alloc_fine at d = two (integer_fine d) (λ h. two (operands_fine d) (λ es. tt))

load_rest_fine : (at : ℕ) (c : Option Chunk) (n d : ℕ) → Fine (load_rest at c n) d
unfolding load_rest
load_rest_fine at c n d = two tt (λ a. two (close_fine d) (λ u. tt))

store_rest_fine : (at : ℕ) (c : Option Chunk) (n d : ℕ) → Fine (store_rest at c n) d
unfolding store_rest
store_rest_fine at c n d = two tt (λ a. two tt (λ v. two (close_fine d) (λ u. tt)))

chunk_rest_fine : (w : ChunkWord) (k : Option Chunk → Rule AnExpression) (d : ℕ) → ((c : Option Chunk) → Fine (k c) d) → Fine (chunk_rest w k) d
unfolding chunk_rest
chunk_rest_fine (starts.Whole c) k d fine = fine (Some c)
chunk_rest_fine starts.Unsigned k d fine = two (record { token = of_kind (kind.Keyword word.Byte); value = width.Byte; gives = refl }) (λ w. fine _)
chunk_rest_fine starts.Signed k d fine = two (record { token = of_kind (kind.Keyword word.Byte); value = width.Byte; gives = refl }) (λ w. fine _)
chunk_rest_fine starts.Float k d fine = fine None

chunked_fine : (rest : Option Chunk → ℕ → Rule AnExpression) (w : Option (TokenTree × ChunkWord)) (d : ℕ) → ((c : Option Chunk) (n : ℕ) → Fine (rest c n) d) → Fine (chunked rest w) d
unfolding chunked
chunked_fine rest None d fine = fine _ 0
chunked_fine rest (Some w) d fine = chunk_rest_fine w.1 (λ c. rest c w.0.at) d (λ c. fine c w.0.at)

load_solid : (at : ℕ) → Solid (chunked (load_rest at) None)
unfolding chunked load_rest
load_solid at = tt

store_solid : (at : ℕ) → Solid (chunked (store_rest at) None)
unfolding chunked store_rest
store_solid at = tt

load_fine : (at d : ℕ) → Fine (load_form at) d
unfolding load_form
load_fine at d = three (record { token = an_int; value = _; gives = refl }) (load_solid at) (λ w. chunked_fine (load_rest at) w d (λ c n. load_rest_fine at c n d))

store_fine : (at d : ℕ) → Fine (store_form at) d
unfolding store_form
store_fine at d = three (record { token = an_int; value = _; gives = refl }) (store_solid at) (λ w. chunked_fine (store_rest at) w d (λ c n. store_rest_fine at c n d))

-- ---- operators, and other forms of one, two or three operands

raise_fine : (at d : ℕ) → Fine (raise_form at) d
unfolding raise_form
raise_fine at d = two tt (λ a. two (close_fine d) (λ u. tt))

pair_fine : (at : ℕ) (p : Pair) (d : ℕ) → Fine (pair_form at p) d
unfolding pair_form
pair_fine at p d = two tt (λ a. two tt (λ b. two (close_fine d) (λ u. tt)))

triple_fine : (at : ℕ) (p : Triple) (d : ℕ) → Fine (triple_form at p) d
unfolding triple_form
triple_fine at p d = two tt (λ a. two tt (λ b. two tt (λ c. two (close_fine d) (λ u. tt))))

float_fine : (at word_at d : ℕ) → Fine (float_form at word_at) d
unfolding float_form
float_fine at word_at d = two (operands_fine d) (λ es. tt)

-- ---- control

seq_fine : (at d : ℕ) → Fine (seq_form at) d
unfolding seq_form
seq_fine at d = two tt (λ e. two (operands_fine d) (λ es. tt))

while_fine : (at d : ℕ) → Fine (while_form at) d
unfolding while_form
while_fine at d = two tt (λ e. two (to_close_fine d) (λ es. tt))

case_number_fine : (d : ℕ) → Fine case_number d
unfolding case_number
case_number_fine d = two (integer_fine d) (λ i. two (token_fine is_colon d a_colon refl) (λ u. tt))

another_fine : (d : ℕ) → Fine another_number d
unfolding another_number
another_fine d = two (token_fine is_case d a_case_word refl) (λ u. case_number_fine d)

another_solid : Solid another_number
unfolding another_number
another_solid = token_solid is_case

case_body_fine : (numbers : List Index) (d : ℕ) → Fine (case_body numbers) d
unfolding case_body
case_body_fine numbers d = two tt (λ e. until_fine AnExpression ACase ends_case Expr (λ u v. record { indexes = numbers; body = sequence e v; goes_on = is_case u }) d a_close tt tt refl)

case_body_solid : (numbers : List Index) → Solid (case_body numbers)
unfolding case_body
case_body_solid numbers = tt

case_body_starts : (numbers : List Index) (d : ℕ) → Starts is_no_case ACase d (case_body numbers)
unfolding case_body
case_body_starts numbers d =
    starts_then is_no_case _ _ d _ _ (starts_leaf is_no_case d refl)
    (λ e. until_fine AnExpression ACase ends_case Expr (λ u v. record { indexes = numbers; body = sequence e v; goes_on = is_case u }) d a_close tt tt refl)

abbrev a_case_part : List Index → CasePart
a_case_part numbers = record { indexes = numbers; body = a_name_leaf; goes_on = false }

case_body_spells : (numbers : List Index) (d : ℕ) → Spells ACase d (case_body numbers) (a_case_part numbers) (a_name ∷ a_close ∷ [])
unfolding case_body
case_body_spells numbers d =
    both AnExpression ACase d Expr _ a_name_leaf (a_case_part numbers) (a_name ∷ []) (a_close ∷ []) (leaf_spells d)
    (ended AnExpression ACase d ends_case Expr _ a_close (a_case_part numbers) [] refl
    (both AToken ACase d (a_token ends_case) _ a_close (a_case_part numbers) (a_close ∷ []) [] (token_spells ends_case d a_close refl) (nothing ACase d (a_case_part numbers))))

a_case_fine : (d : ℕ) → Fine a_case d
unfolding a_case
a_case_fine d =
    two (case_number_fine d) (λ i. two (two (another_fine d) another_solid) (λ is. three (case_body_fine (i ∷ is) d) (case_body_solid (i ∷ is)) (case_body_starts (i ∷ is) d)))

a_case_solid : Solid a_case
unfolding a_case case_number
a_case_solid = token_solid is_integer

a_case_ends : (d : ℕ) → Ends ACase d (λ (c : CasePart). c.goes_on) a_case
unfolding a_case
a_case_ends d =
    let i = finish AnIndex case_number d (case_number_fine d) in
    record {
      value = a_case_part (i.value ∷ []);
      tokens = i.more ++ (a_name ∷ a_close ∷ []);
      ends = refl;
      spells =
          both AnIndex ACase d case_number _ i.value (a_case_part (i.value ∷ [])) i.more (a_name ∷ a_close ∷ []) i.spells
          (ended AnIndex ACase d is_no_case another_number _ a_name (a_case_part (i.value ∷ [])) (a_close ∷ []) refl (case_body_spells (i.value ∷ []) d));
    }

switch_fine : (at d : ℕ) → Fine (switch_form at) d
unfolding switch_form
switch_fine at d =
    two (integer_fine d) (λ n. two tt (λ e. two (token_fine is_case d a_case_word refl) (λ u. two (three (a_case_fine d) a_case_solid (a_case_ends d)) (λ cs. tt))))

parameter_fine : (d : ℕ) → Fine a_parameter d
unfolding a_parameter
parameter_fine d = two (name_fine d) (λ n. two (token_fine is_colon d a_colon refl) (λ u. two (comp_fine d) (λ c. tt)))

parameter_solid : Solid a_parameter
unfolding a_parameter
parameter_solid = token_solid is_name

parameters_fine : (d : ℕ) → Fine parameters d
unfolding parameters
parameters_fine d = until_fine AParameter (Listed AParameter) is_close a_parameter (λ u v. v) d a_close (parameter_fine d) parameter_solid refl

label_rest_fine : (n : TokenTree) (d : ℕ) → Fine (label_rest n) d
unfolding label_rest
label_rest_fine n d = two (parameters_fine d) (λ ps. tt)

abbrev a_handler_part : HeadPart → Expression → Bool → HandlerPart
a_handler_part label body on = record { at = label.at; label = tree.Named label.name; params = label.params; body = body; goes_on = on }

handler_rest_fine : (label : HeadPart) (d : ℕ) → Fine (handler_rest label) d
unfolding handler_rest
handler_rest_fine label d = two tt (λ e. until_fine AnExpression AHandler ends_handler Expr (λ u v. a_handler_part label (sequence e v) (is_and u)) d a_close tt tt refl)

handler_rest_spells : (label : HeadPart) (d : ℕ) → Spells AHandler d (handler_rest label) (a_handler_part label a_name_leaf false) (a_name ∷ a_close ∷ [])
unfolding handler_rest
handler_rest_spells label d =
    let h = a_handler_part label a_name_leaf false in
    both AnExpression AHandler d Expr _ a_name_leaf h (a_name ∷ []) (a_close ∷ []) (leaf_spells d)
    (ended AnExpression AHandler d ends_handler Expr _ a_close h [] refl
    (both AToken AHandler d (a_token ends_handler) _ a_close h (a_close ∷ []) [] (token_spells ends_handler d a_close refl) (nothing AHandler d h)))

a_label_fine : (d : ℕ) → Fine a_label d
unfolding a_label
a_label_fine d = two (name_fine d) (λ n. label_rest_fine n d)

next_handler_fine : (d : ℕ) → Fine next_handler (suc d)
unfolding next_handler
next_handler_fine d = two (λ at. a_label_fine d) (λ label. handler_rest_fine label (suc d))

next_handler_solid : Solid next_handler
unfolding next_handler
next_handler_solid = tt

next_handler_ends : (d : ℕ) → Ends AHandler (suc d) (λ (h : HandlerPart). h.goes_on) next_handler
unfolding next_handler
next_handler_ends d =
    let l = finish ALabel a_label d (a_label_fine d) in
    let h = a_handler_part l.value a_name_leaf false in
    record {
      value = h;
      tokens = (an_open ∷ l.more) ++ (a_name ∷ a_close ∷ []);
      ends = refl;
      spells =
          both ALabel AHandler (suc d) (Inside ALabel (λ at. a_label)) _ l.value h (an_open ∷ l.more) (a_name ∷ a_close ∷ [])
          (inside ALabel d (λ at. a_label) an_open l.value l.more refl l.spells)
          (handler_rest_spells l.value (suc d));
    }

more_handlers_fine : (on : Bool) (d : ℕ) → Fine (more_handlers on) (suc d)
unfolding more_handlers
more_handlers_fine true d = three (next_handler_fine d) next_handler_solid (next_handler_ends d)
more_handlers_fine false d = tt

labelled_fine : (at : ℕ) (body : Expression) (label : HeadPart) (d : ℕ) → Fine (labelled_handlers at body label) (suc d)
unfolding labelled_handlers
labelled_fine at body label d = two (handler_rest_fine label (suc d)) (λ h. two (more_handlers_fine h.goes_on d) (λ hs. tt))

bare_fine : (at : ℕ) (body e : Expression) (d : ℕ) → Fine (bare_handler at body e) d
unfolding bare_handler
bare_fine at body e d = two (operands_fine d) (λ es. tt)

catch_fine : (at d : ℕ) → Fine (catch_form at) d
unfolding catch_form
catch_fine at zero = two (to_with_fine 0) (λ body. two (λ e. bare_fine at body e 0) tt)
catch_fine at (suc d) =
    two (to_with_fine (suc d)) (λ body. two (λ e. bare_fine at body e (suc d)) (two (λ n. label_rest_fine n d) (λ label. labelled_fine at body label d)))

exit_rest_fine : (at : ℕ) (name : Option TokenTree) (d : ℕ) → Fine (exit_rest at name) d
unfolding exit_rest
exit_rest_fine at None d = two (close_fine d) (λ u. tt)
exit_rest_fine at (Some n) d = two (operands_fine d) (λ es. tt)

exit_rest_solid : (at : ℕ) → Solid (exit_rest at None)
unfolding exit_rest
exit_rest_solid at = close_solid

exit_fine : (at d : ℕ) → Fine (exit_form at) d
unfolding exit_form
exit_fine at d = three (the is_name a_name refl) (exit_rest_solid at) (λ name. exit_rest_fine at name d)

try_fine : (at d : ℕ) → Fine (try_form at) d
unfolding try_form
try_fine at d = two (to_with_fine d) (λ body. two (name_fine d) (λ n. two (to_close_fine d) (λ h. tt)))

form_of_fine : (at word_at : ℕ) (h : Head) (d : ℕ) → Fine (form_of at word_at h) d
unfolding form_of
form_of_fine at word_at head.Let d = let_fine at a_binding d binding_fine binding_solid (binding_starts d)
form_of_fine at word_at head.Letmut d = let_fine at a_mutable_binding d mutable_fine mutable_solid (mutable_starts d)
form_of_fine at word_at head.Assign d = assign_fine at d
form_of_fine at word_at head.App d = app_fine at d
form_of_fine at word_at head.Extcall d = extcall_fine at d
form_of_fine at word_at head.Alloc d = alloc_fine at d
form_of_fine at word_at head.Load d = load_fine at d
form_of_fine at word_at head.Store d = store_fine at d
form_of_fine at word_at (head.Pair p) d = pair_fine at p d
form_of_fine at word_at (head.Triple p) d = triple_fine at p d
form_of_fine at word_at head.While d = while_fine at d
form_of_fine at word_at head.Raise d = raise_fine at d
form_of_fine at word_at head.Seq d = seq_fine at d
form_of_fine at word_at head.Switch d = switch_fine at d
form_of_fine at word_at head.Catch d = catch_fine at d
form_of_fine at word_at head.Exit d = exit_fine at d
form_of_fine at word_at head.Try d = try_fine at d
form_of_fine at word_at head.Float d = float_fine at word_at d

-- each form, at any depth
pub form_fine : (d at : ℕ) → Fine (open_form at) d
unfolding open_form
form_fine d at = two (record { token = of_kind (kind.Keyword word.Seq); value = _; gives = refl }) (λ w. form_of_fine at w.0.at w.1 d)

-- ---- static data and functions

data_integer_fine : (made : Option ℕ → DatumTree) (d : ℕ) → Fine (a_data_integer made) d
unfolding a_data_integer
data_integer_fine made d = two (integer_fine d) (λ i. tt)

datum_fine : (t : TokenTree) (w : DataWord) (d : ℕ) → Fine (datum_of t w) d
unfolding datum_of
datum_fine t item.Define d = two (token_fine is_colon d a_colon refl) (λ u. tt)
datum_fine t item.Byte d = data_integer_fine _ d
datum_fine t item.Half d = data_integer_fine _ d
datum_fine t item.Int d = data_integer_fine _ d
datum_fine t item.Val d = record { token = an_integer; value = _; gives = refl }
datum_fine t item.Addr d = two (symbol_fine d) (λ n. tt)
datum_fine t item.Skip d = data_integer_fine _ d
datum_fine t item.Align d = data_integer_fine _ d
datum_fine t item.Text d = two (token_fine is_string d a_string refl) (λ u. tt)
datum_fine t item.Global d = two (symbol_fine d) (λ n. tt)
datum_fine t item.Float d = two (token_fine is_float_token d a_float refl) (λ u. tt)

data_item_fine : (d : ℕ) → Fine a_data_item d
unfolding a_data_item
data_item_fine d = two (record { token = an_int; value = (an_int, item.Int); gives = refl }) (λ w. two (datum_fine w.0 w.1 d) (λ v. tt))

data_item_solid : Solid a_data_item
unfolding a_data_item
data_item_solid = tt

data_items_fine : (at d : ℕ) → Fine (data_items at) d
unfolding data_items
data_items_fine at d = until_fine ADataItem AnItem is_close a_data_item _ d a_close (data_item_fine d) data_item_solid refl

data_items_solid : (at : ℕ) → Solid (data_items at)
unfolding data_items
data_items_solid at = tt

data_list_fine : (at d : ℕ) → Fine (data_list at) d
unfolding data_list
data_list_fine at d = three (the is_data (of_kind (kind.Keyword word.Data)) refl) (data_items_solid at) (λ w. data_items_fine at d)

data_list_solid : (at : ℕ) → Solid (data_list at)
unfolding data_list
data_list_solid at = tt

function_fine : (at d : ℕ) → Fine (a_function at) (suc d)
unfolding a_function
function_fine at d = two (symbol_fine (suc d)) (λ n. two (λ p. parameters_fine d) (λ ps. two (to_close_fine (suc d)) (λ b. tt)))

item_rest_fine : (at : ℕ) (w : Option TokenTree) (d : ℕ) → Fine (item_rest at w) (suc d)
unfolding item_rest
item_rest_fine at (Some u) d = function_fine at d
item_rest_fine at None d = data_list_fine at (suc d)

item_rest_solid : (at : ℕ) → Solid (item_rest at None)
unfolding item_rest
item_rest_solid at = data_list_solid at

item_inside : (d : ℕ) → Fine an_item (suc (suc d))
unfolding an_item
item_inside d = λ at. three (the is_function (of_kind (kind.Keyword word.Function)) refl) (item_rest_solid at) (λ w. item_rest_fine at w d)

-- an item, where parentheses may nest two levels
pub item_fine : (d : ℕ) → 2 ≤ d → Fine an_item d
item_fine zero less = absurd (omega arith)
item_fine (suc zero) less = absurd (omega arith)
item_fine (suc (suc d)) less = item_inside d

pub item_solid : Solid an_item
unfolding an_item
item_solid = tt
