-- The grammar of Cmm texts: what is in each form, and the tree that it gives.
--
-- A star in a comment is any number, a plus at least one. A rule that is after a parenthesis holds the
-- one that closes it too.
use Rattle.std.specs.Prelude.{ℕ, Bool, true, false, List, [], ◌∷◌, Option, Some, None, option_map, is_some}
use Rattle.bs_words.specs.declared.types.Chunk.{Chunk}
use Rattle.bs_words.specs.declared.types.Chunk.TheVariants as chunk
use Rattle.cmm_lex.specs.Token.{TokenTree}
use Rattle.cmm_lex.specs.Integers.{integer_value}
use Rattle.cmm_lex.specs.Strings.{string_bytes}
use Rattle.cmm_tree.specs.Tree.{Expression, Expressions, NoMore, More, Let, Assign, Operator, Load, Store, Alloc, App, Extcall, Checkbound, Raise, Float, If, Switch, Catch, Exit, Try, Bare, Index, NoHandler, Handle, DatumTree}
use Rattle.cmm_tree.specs.Tree as tree
use Rattle.cmm_tree.specs.Place.{place_of}
use Rattle.cmm_grammar.specs.declared.word.Head.{Head}
use Rattle.cmm_grammar.specs.declared.word.Head.TheVariants as head
use Rattle.cmm_grammar.specs.declared.word.Pair.{Pair}
use Rattle.cmm_grammar.specs.declared.word.Pair.TheVariants as pair
use Rattle.cmm_grammar.specs.declared.word.Triple.{Triple}
use Rattle.cmm_grammar.specs.declared.word.Triple.TheVariants as triple
use Rattle.cmm_grammar.specs.declared.word.ChunkWord.{ChunkWord}
use Rattle.cmm_grammar.specs.declared.word.ChunkWord.TheVariants as starts
use Rattle.cmm_grammar.specs.declared.word.DataWord.{DataWord}
use Rattle.cmm_grammar.specs.declared.word.DataWord.TheVariants as item
use Rattle.cmm_grammar.specs.Parts.{ResultPart, BindingPart, CasePart, HandlerPart, HeadPart, FunctionItem, DataItem, expressions, bindings, cases, handlers, sequence_at, sequence}
use Rattle.cmm_grammar.specs.Rewriting.{array_load, array_store, while_loop}
use Rattle.cmm_grammar.specs.Words.{is_close, is_colon, is_name, is_integer, is_float_token, is_string, is_with, is_case, is_no_case, is_and, is_data, is_function, is_alloc, is_symbol_token, is_ret, ends_case, ends_handler, passing, marked, word_or_zero, comp_of, ret_of, head_of, chunk_word_of, width_of, unsigned_chunk, signed_chunk, data_word_of, val_of}
use Rattle.cmm_grammar.specs.Rule.{AToken, AnExpression, AParameter, ADeclaration, AResult, ABinding, AnIndex, ACase, AHandler, ALabel, AHead, AChunkWord, AWidth, ADataWord, ADatum, ADataItem, AnItem, Listed, Both, Rule, One, Expr, Inside, ◌>>=◌, ◌>>◌, give, inside_or, labelled_or, maybe, until, repeat}

-- ---- one token

unfoldable pub a_token : (TokenTree → Bool) → Rule AToken
a_token test = One AToken (passing test)

abbrev pub close : Rule AToken
close = a_token is_close

-- int, val, addr or float
unfoldable pub a_comp : Rule ADeclaration
a_comp = One ADeclaration (λ t. option_map (λ c. record { at = t.at; comp = c }) (comp_of t.kind))

-- a component or unit
unfoldable pub a_result : Rule AResult
a_result = One AResult (λ t. option_map (λ r. record { at = t.at; ret = r }) (ret_of t.kind))

-- ---- expressions one after the other

-- expr* )
unfoldable pub operands : Rule (Listed AnExpression)
operands = until is_close Expr (λ es. do
  close
  give es)

-- expr+ )
unfoldable pub sequence_to_close : Rule AnExpression
sequence_to_close = do
  e ← Expr
  es ← operands
  give (sequence e es)

-- expr+ with
unfoldable pub sequence_to_with : Rule AnExpression
sequence_to_with = do
  e ← Expr
  until is_with Expr (λ es. do
    a_token is_with
    give (sequence e es))

-- ---- let, letmut and assign

-- name expr
unfoldable pub a_binding : Rule ABinding
a_binding = do
  name ← a_token is_name
  value ← Expr
  give (record { at = name.at; name = name.text; declared = None; value = value })

-- name comp expr
unfoldable pub a_mutable_binding : Rule ABinding
a_mutable_binding = do
  name ← a_token is_name
  declared ← a_comp
  value ← Expr
  give (record { at = name.at; name = name.text; declared = Some declared; value = value })

-- binding+ )
unfoldable pub bindings_to_close : Rule ABinding → Rule (Listed ABinding)
bindings_to_close r = do
  b ← r
  until is_close r (λ bs. do
    close
    give (b ∷ bs))

unfoldable pub let_body : ℕ → List BindingPart → Rule AnExpression
let_body at bs = do
  body ← sequence_to_close
  give (Let at (bindings bs) body)

-- binding seq ), or ( binding+ ) seq )
unfoldable pub let_form : ℕ → Rule ABinding → Rule AnExpression
let_form at r = inside_or (λ _. bindings_to_close r) (let_body at) (do
  b ← r
  let_body at (b ∷ []))

-- name expr )
unfoldable pub assign_form : ℕ → Rule AnExpression
assign_form at = do
  name ← a_token is_name
  value ← Expr
  close
  give (Assign at name.at name.text value)

-- ---- calls

-- expr* result )
unfoldable pub arguments_of : (Expressions → ResultPart → Expression) → Rule AnExpression
arguments_of made = until is_ret Expr (λ es. do
  result ← a_result
  close
  give (made (expressions es) result))

-- expr expr* result )
unfoldable pub app_form : ℕ → Rule AnExpression
app_form at = do
  callee ← Expr
  arguments_of (λ es result. App at callee es result.ret result.at)

-- symbol expr* result )
unfoldable pub extcall_rest : ℕ → Bool → Rule AnExpression
extcall_rest at frame = do
  name ← a_token is_symbol_token
  arguments_of (λ es result. Extcall at frame (string_bytes name.text) es result.ret result.at)

-- [alloc] symbol expr* result ), with `alloc` a frame call
unfoldable pub extcall_form : ℕ → Rule AnExpression
extcall_form at = maybe AToken (passing is_alloc) (λ mark. extcall_rest at (is_some mark))

-- ---- memory

-- integer expr* )
unfoldable pub alloc_form : ℕ → Rule AnExpression
alloc_form at = do
  header ← a_token is_integer
  es ← operands
  give (Alloc at header.at (word_or_zero (integer_value header.text)) (expressions es))

-- what a load or a store is, by its chunk: with a chunk of floats it computes with floats
abbrev pub load_expression : ℕ → Option Chunk → ℕ → Expression → Expression
load_expression at (Some chunk) chunk_at address = Load at chunk address
load_expression at None chunk_at address = Float at chunk_at (More address NoMore)

abbrev pub store_expression : ℕ → Option Chunk → ℕ → Expression → Expression → Expression
store_expression at (Some chunk) chunk_at address value = Store at chunk address value
store_expression at None chunk_at address value = Float at chunk_at (More address (More value NoMore))

-- expr )
unfoldable pub load_rest : ℕ → Option Chunk → ℕ → Rule AnExpression
load_rest at chunk chunk_at = do
  address ← Expr
  close
  give (load_expression at chunk chunk_at address)

-- expr expr )
unfoldable pub store_rest : ℕ → Option Chunk → ℕ → Rule AnExpression
store_rest at chunk chunk_at = do
  address ← Expr
  value ← Expr
  close
  give (store_expression at chunk chunk_at address value)

-- a width, where one follows
unfoldable pub chunk_rest : ChunkWord → (Option Chunk → Rule AnExpression) → Rule AnExpression
chunk_rest (starts.Whole chunk) k = k (Some chunk)
chunk_rest starts.Unsigned k = do
  w ← One AWidth (λ t. width_of t.kind)
  k (Some (unsigned_chunk w))
chunk_rest starts.Signed k = do
  w ← One AWidth (λ t. width_of t.kind)
  k (Some (signed_chunk w))
chunk_rest starts.Float k = k None

-- the rest after a chunk, or after none, which is val
unfoldable pub chunked : (Option Chunk → ℕ → Rule AnExpression) → Option (TokenTree × ChunkWord) → Rule AnExpression
chunked rest None = rest (Some chunk.Val) 0
chunked rest (Some w) = chunk_rest w.1 (λ chunk. rest chunk w.0.at)

-- [chunk] expr )
unfoldable pub load_form : ℕ → Rule AnExpression
load_form at = maybe (Both AToken AChunkWord) (marked chunk_word_of) (chunked (load_rest at))

-- [chunk] expr expr )
unfoldable pub store_form : ℕ → Rule AnExpression
store_form at = maybe (Both AToken AChunkWord) (marked chunk_word_of) (chunked (store_rest at))

-- ---- operators, and other forms of one, two or three operands

abbrev pub paired : ℕ → Pair → Expression → Expression → Expression
paired at (pair.Operator op) left right = Operator at op left right
paired at pair.Checkbound bound index = Checkbound at bound index
paired at (pair.Element chunk) array index = array_load at chunk array index

abbrev pub tripled : ℕ → Triple → Expression → Expression → Expression → Expression
tripled at triple.If condition on_true on_false = If at condition on_true on_false
tripled at (triple.SetElement chunk) array index value = array_store at chunk array index value

-- expr )
unfoldable pub raise_form : ℕ → Rule AnExpression
raise_form at = do
  value ← Expr
  close
  give (Raise at value)

-- expr expr )
unfoldable pub pair_form : ℕ → Pair → Rule AnExpression
pair_form at p = do
  a ← Expr
  b ← Expr
  close
  give (paired at p a b)

-- expr expr expr )
unfoldable pub triple_form : ℕ → Triple → Rule AnExpression
triple_form at p = do
  a ← Expr
  b ← Expr
  c ← Expr
  close
  give (tripled at p a b c)

-- expr* )
unfoldable pub float_form : ℕ → ℕ → Rule AnExpression
float_form at word_at = do
  es ← operands
  give (Float at word_at (expressions es))

-- ---- control

-- expr+ )
unfoldable pub seq_form : ℕ → Rule AnExpression
seq_form at = do
  e ← Expr
  es ← operands
  give (sequence_at at e es)

-- expr expr+ )
unfoldable pub while_form : ℕ → Rule AnExpression
while_form at = do
  condition ← Expr
  body ← sequence_to_close
  give (while_loop at condition body)

-- integer :
unfoldable pub case_number : Rule AnIndex
case_number = do
  i ← a_token is_integer
  a_token is_colon
  give (record { at = i.at; index = word_or_zero (integer_value i.text) })

-- case integer :
unfoldable pub another_number : Rule AnIndex
another_number = do
  a_token is_case
  case_number

-- expr+ and the next `case`, or )
unfoldable pub case_body : List Index → Rule ACase
case_body numbers = do
  e ← Expr
  until ends_case Expr (λ es. do
    end ← a_token ends_case
    give (record { indexes = numbers; body = sequence e es; goes_on = is_case end }))

-- what is after the first `case` of a case: integer : (case integer :)* expr+, and the next `case`, or )
unfoldable pub a_case : Rule ACase
a_case = do
  i ← case_number
  until is_no_case another_number (λ is. case_body (i ∷ is))

-- integer expr (case ..)+ )
unfoldable pub switch_form : ℕ → Rule AnExpression
switch_form at = do
  size ← a_token is_integer
  selector ← Expr
  a_token is_case
  cs ← repeat (λ (c : CasePart). c.goes_on) a_case
  give (Switch at size.at (word_or_zero (integer_value size.text)) selector (cases cs))

-- name : comp
unfoldable pub a_parameter : Rule AParameter
a_parameter = do
  name ← a_token is_name
  a_token is_colon
  declared ← a_comp
  give (record { at = name.at; name = name.text; comp = declared.comp; comp_at = declared.at })

-- param* )
unfoldable pub parameters : Rule (Listed AParameter)
parameters = until is_close a_parameter (λ ps. do
  close
  give ps)

-- after the name of a labelled handler: param* )
unfoldable pub label_rest : TokenTree → Rule ALabel
label_rest name = do
  ps ← parameters
  give (record { at = name.at; name = name.text; params = ps })

-- expr+ and the next `and`, or )
unfoldable pub handler_rest : HeadPart → Rule AHandler
handler_rest label = do
  e ← Expr
  until ends_handler Expr (λ es. do
    end ← a_token ends_handler
    give (record { at = label.at; label = tree.Named label.name; params = label.params; body = sequence e es; goes_on = is_and end }))

-- name param* )
unfoldable pub a_label : Rule ALabel
a_label = do
  name ← a_token is_name
  label_rest name

-- ( name param* ) expr+, and the next `and`, or )
unfoldable pub next_handler : Rule AHandler
next_handler = do
  label ← Inside ALabel (λ _. a_label)
  handler_rest label

unfoldable pub more_handlers : Bool → Rule (Listed AHandler)
more_handlers true = repeat (λ (h : HandlerPart). h.goes_on) next_handler
more_handlers false = give []

-- after the first label: its handler, and those that `and` joins to it
unfoldable pub labelled_handlers : ℕ → Expression → HeadPart → Rule AnExpression
labelled_handlers at body label = do
  h ← handler_rest label
  hs ← more_handlers h.goes_on
  give (Catch at body (handlers (h ∷ hs)))

-- a handler without a label
abbrev pub bare_catch : ℕ → Expression → Expression → Expression
bare_catch at body handler = Catch at body (Handle (place_of handler) Bare [] handler NoHandler)

-- after the first expression of a handler without a label: expr* )
unfoldable pub bare_handler : ℕ → Expression → Expression → Rule AnExpression
bare_handler at body e = do
  es ← operands
  give (bare_catch at body (sequence e es))

-- expr+ with, and the handlers. A parenthesis that a name follows begins a labelled one.
unfoldable pub catch_form : ℕ → Rule AnExpression
catch_form at = do
  body ← sequence_to_with
  labelled_or label_rest (labelled_handlers at body) (bare_handler at body)

unfoldable pub exit_rest : ℕ → Option TokenTree → Rule AnExpression
exit_rest at None = do
  close
  give (Exit at at Bare NoMore)
exit_rest at (Some name) = do
  es ← operands
  give (Exit at name.at (tree.Named name.text) (expressions es))

-- [name expr*] )
unfoldable pub exit_form : ℕ → Rule AnExpression
exit_form at = maybe AToken (passing is_name) (exit_rest at)

-- expr+ with name expr+ )
unfoldable pub try_form : ℕ → Rule AnExpression
try_form at = do
  body ← sequence_to_with
  name ← a_token is_name
  handler ← sequence_to_close
  give (Try at body name.at name.text handler)

-- what is after the word of a form that opens at this place
unfoldable pub form_of : ℕ → ℕ → Head → Rule AnExpression
form_of at word_at head.Let = let_form at a_binding
form_of at word_at head.Letmut = let_form at a_mutable_binding
form_of at word_at head.Assign = assign_form at
form_of at word_at head.App = app_form at
form_of at word_at head.Extcall = extcall_form at
form_of at word_at head.Alloc = alloc_form at
form_of at word_at head.Load = load_form at
form_of at word_at head.Store = store_form at
form_of at word_at (head.Pair p) = pair_form at p
form_of at word_at (head.Triple p) = triple_form at p
form_of at word_at head.While = while_form at
form_of at word_at head.Raise = raise_form at
form_of at word_at head.Seq = seq_form at
form_of at word_at head.Switch = switch_form at
form_of at word_at head.Catch = catch_form at
form_of at word_at head.Exit = exit_form at
form_of at word_at head.Try = try_form at
form_of at word_at head.Float = float_form at word_at

-- a form that opens at this place: its word, and the rest
unfoldable pub open_form : ℕ → Rule AnExpression
open_form at = do
  w ← One (Both AToken AHead) (marked head_of)
  form_of at w.0.at w.1

-- ---- static data

unfoldable pub a_data_integer : (Option ℕ → DatumTree) → Rule ADatum
a_data_integer made = do
  i ← a_token is_integer
  give (made (integer_value i.text))

unfoldable pub datum_of : TokenTree → DataWord → Rule ADatum
datum_of t item.Define = do
  a_token is_colon
  give (tree.Define (string_bytes t.text))
datum_of t item.Byte = a_data_integer tree.Byte
datum_of t item.Half = a_data_integer tree.Half
datum_of t item.Int = a_data_integer tree.Int
datum_of t item.Val = One ADatum val_of
datum_of t item.Addr = do
  name ← a_token is_symbol_token
  give (tree.Address false name.at (string_bytes name.text))
datum_of t item.Skip = a_data_integer tree.Skip
datum_of t item.Align = a_data_integer tree.Align
datum_of t item.Text = do
  text ← a_token is_string
  give (tree.Text (string_bytes text.text))
datum_of t item.Global = do
  name ← a_token is_symbol_token
  give (tree.Global name.at (string_bytes name.text))
datum_of t item.Float = do
  a_token is_float_token
  give tree.AFloat

unfoldable pub a_data_item : Rule ADataItem
a_data_item = do
  w ← One (Both AToken ADataWord) data_word_of
  datum ← datum_of w.0 w.1
  give (record { at = w.0.at; datum = datum })

-- dataitem* )
unfoldable pub data_items : ℕ → Rule AnItem
data_items at = until is_close a_data_item (λ ds. do
  close
  give (DataItem (record { at = at; items = ds })))

-- [data] dataitem* )
unfoldable pub data_list : ℕ → Rule AnItem
data_list at = maybe AToken (passing is_data) (λ _. data_items at)

-- ---- functions

-- symbol ( param* ) expr+ )
unfoldable pub a_function : ℕ → Rule AnItem
a_function at = do
  name ← a_token is_symbol_token
  params ← Inside (Listed AParameter) (λ _. parameters)
  body ← sequence_to_close
  give (FunctionItem (record { at = at; name_at = name.at; name = string_bytes name.text; params = params; body = body }))

unfoldable pub item_rest : ℕ → Option TokenTree → Rule AnItem
item_rest at (Some word) = a_function at
item_rest at None = data_list at

-- ( function .. ), or ( [data] dataitem* )
unfoldable pub an_item : Rule AnItem
an_item = Inside AnItem (λ at. maybe AToken (passing is_function) (item_rest at))
