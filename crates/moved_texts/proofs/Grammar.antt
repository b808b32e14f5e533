-- The grammar says of tokens further on what it says of them, further on.
use Rattle.std.proofs.Common.{◌≡◌, ℕ, zero, suc, ◌+◌, Bool, true, false, cond, List, [], ◌∷◌, ◌++◌, Option, Some, None, length, refl, sym, ap, ◌∙◌, subst}
use Rattle.std.specs.Prelude.{option_map, is_some}
use Rattle.bs_words.specs.Symbol.{is_symbol}
use Rattle.bs_words.specs.declared.types.Comp.{Comp}
use Rattle.bs_words.specs.declared.types.Ret.{Ret}
use Rattle.cmm_grammar.specs.declared.word.Width.{Width}
use Rattle.bs_words.specs.declared.types.Chunk.{Chunk}
use Rattle.bs_words.specs.declared.types.Chunk.TheVariants as chunk
use Rattle.cmm_lex.specs.Token.{TokenTree}
use Rattle.cmm_lex.specs.Integers.{integer_value}
use Rattle.cmm_lex.specs.Strings.{string_bytes}
use Rattle.cmm_lex.specs.declared.token.TokenKind.{TokenKind}
use Rattle.cmm_lex.specs.declared.token.TokenKind.TheVariants as kind
use Rattle.cmm_lex.specs.declared.token.Keyword.TheVariants as word
use Rattle.cmm_tree.specs.Tree.{Parameter, Declaration, Index, Expression, Integer, Pointer, Symbol, Name, Nothing, Float, Let, Assign, Operator, Load, Store, Alloc, App, Extcall, Checkbound, Raise, Seq, If, Switch, Catch, Exit, Try, Expressions, NoMore, More, Bind, Choose, NoHandler, Handle, Bare, Done, Again, DatumTree, ItemTree}
use Rattle.cmm_tree.specs.Tree as tree
use Rattle.cmm_tree.specs.Place.{place_of}
use Rattle.cmm_grammar.specs.declared.word.Head.{Head}
use Rattle.cmm_grammar.specs.declared.word.Head.TheVariants as head
use Rattle.cmm_grammar.specs.declared.word.Pair.{Pair}
use Rattle.cmm_grammar.specs.declared.word.Pair.TheVariants as pair
use Rattle.cmm_grammar.specs.declared.word.Triple.{Triple}
use Rattle.cmm_grammar.specs.declared.word.Triple.TheVariants as triple
use Rattle.cmm_grammar.specs.declared.word.ChunkWord.{ChunkWord}
use Rattle.cmm_grammar.specs.declared.word.ChunkWord.TheVariants as starts
use Rattle.cmm_grammar.specs.declared.word.DataWord.{DataWord}
use Rattle.cmm_grammar.specs.declared.word.DataWord.TheVariants as item
use Rattle.cmm_grammar.specs.Parts.{ResultPart, BindingPart, CasePart, HandlerPart, HeadPart, ItemPart, FunctionItem, DataItem, item_of, expressions, bindings, cases, handlers, sequence_at, sequence}
use Rattle.cmm_grammar.specs.Rewriting.{element, turn, while_loop}
use Rattle.cmm_grammar.specs.Words.{leaf_of, word_or_zero, passing, marked, comp_of, ret_of, head_of, chunk_word_of, width_of, unsigned_chunk, signed_chunk, data_keyword, data_word_of, val_of, is_close, is_colon, is_name, is_integer, is_float_token, is_string, is_with, is_case, is_and, is_data, is_function, is_alloc, is_symbol_token, ends_case, ends_handler}
use Rattle.cmm_grammar.specs.Rule.{Sort, Value, AToken, AnExpression, AParameter, ADeclaration, AResult, ABinding, AnIndex, ACase, AHandler, ALabel, AHead, AChunkWord, AWidth, ADataWord, ADatum, ADataItem, AnItem, Both, Rule, Give, One}
use Rattle.cmm_grammar.specs.Grammar.{a_token, a_comp, a_result, operands, sequence_to_close, sequence_to_with, a_binding, a_mutable_binding, bindings_to_close, let_body, let_form, assign_form, arguments_of, app_form, extcall_rest, extcall_form, alloc_form, load_rest, store_rest, chunk_rest, chunked, load_form, store_form, paired, tripled, raise_form, pair_form, triple_form, float_form, seq_form, while_form, case_number, another_number, case_body, a_case, switch_form, a_parameter, parameters, label_rest, handler_rest, a_label, next_handler, more_handlers, labelled_handlers, bare_catch, bare_handler, catch_form, exit_rest, exit_form, try_form, form_of, open_form, a_data_integer, datum_of, a_data_item, data_items, data_list, a_function, item_rest, an_item}
use Rattle.cmm_grammar.specs.Spelling.{AreItems, none, more}
use Rattle.moved_texts.specs.Moved.{moved_token, moved_tokens, moved_expression, moved_row, moved_bindings, moved_cases, moved_handlers, moved_parameter, moved_parameters, moved_indexes, moved_declared, moved_data_items, moved_item, moved_items}
use Rattle.moved_texts.proofs.Rules.{moved_value, moved_values, moved_option, moved_item_part, RuleMoves}
use Rattle.moved_texts.proofs.Spelling.{joined, spells}

module _ (d : ℕ) where
  -- ---- parts

  places : (e : Expression) → place_of (moved_expression d e) ≡ place_of e + d
  places (Integer at word) = refl
  places (Pointer at word) = refl
  places (Symbol at name) = refl
  places (Name at name) = refl
  places (Nothing at) = refl
  places (Float at word_at row) = refl
  places (Let at bindings body) = refl
  places (Assign at name_at name value) = refl
  places (Operator at op left right) = refl
  places (Load at chunk address) = refl
  places (Store at chunk address value) = refl
  places (Alloc at header_at header row) = refl
  places (App at callee arguments result result_at) = refl
  places (Extcall at frame name arguments result result_at) = refl
  places (Checkbound at bound index) = refl
  places (Raise at value) = refl
  places (Seq at elements) = refl
  places (If at condition on_true on_false) = refl
  places (Switch at size_at size selector cases) = refl
  places (Catch at body handlers) = refl
  places (Exit at label_at label arguments) = refl
  places (Try at body name_at name handler) = refl

  rows : (es : List Expression) → expressions (moved_values d AnExpression es) ≡ moved_row d (expressions es)
  rows [] = refl
  rows (e ∷ es) = λ i. More (moved_expression d e) (rows es i)

  bounds : (bs : List BindingPart) → bindings (moved_values d ABinding bs) ≡ moved_bindings d (bindings bs)
  bounds [] = refl
  bounds (b ∷ bs) = λ i. Bind (b.at + d) b.name (moved_declared d b.declared) (moved_expression d b.value) (bounds bs i)

  all_cases : (cs : List CasePart) → cases (moved_values d ACase cs) ≡ moved_cases d (cases cs)
  all_cases [] = refl
  all_cases (c ∷ cs) = λ i. Choose (moved_indexes d c.indexes) (moved_expression d c.body) (all_cases cs i)

  all_handlers : (hs : List HandlerPart) → handlers (moved_values d AHandler hs) ≡ moved_handlers d (handlers hs)
  all_handlers [] = refl
  all_handlers (h ∷ hs) = λ i. Handle (h.at + d) h.label (moved_parameters d h.params) (moved_expression d h.body) (all_handlers hs i)

  all_params : (ps : List Parameter) → moved_values d AParameter ps ≡ moved_parameters d ps
  all_params [] = refl
  all_params (p ∷ ps) = λ i. moved_parameter d p ∷ all_params ps i

  all_indexes : (is : List Index) → moved_values d AnIndex is ≡ moved_indexes d is
  all_indexes [] = refl
  all_indexes (j ∷ js) = λ i. moved_value d AnIndex j ∷ all_indexes js i

  all_data : (is : List tree.DataItemTree) → moved_values d ADataItem is ≡ moved_data_items d is
  all_data [] = refl
  all_data (j ∷ js) = λ i. moved_value d ADataItem j ∷ all_data js i

  sequences_at : (at : ℕ) (e : Expression) (es : List Expression) → sequence_at (at + d) (moved_expression d e) (moved_values d AnExpression es) ≡ moved_expression d (sequence_at at e es)
  sequences_at at e [] = refl
  sequences_at at e (f ∷ es) = λ i. Seq (at + d) (More (moved_expression d e) (More (moved_expression d f) (rows es i)))

  sequences : (e : Expression) (es : List Expression) → sequence (moved_expression d e) (moved_values d AnExpression es) ≡ moved_expression d (sequence e es)
  sequences e es = ap (λ at. sequence_at at (moved_expression d e) (moved_values d AnExpression es)) (places e) ∙ sequences_at (place_of e) e es

  elements : (at : ℕ) (a i : Expression) → element (at + d) (moved_expression d a) (moved_expression d i) ≡ moved_expression d (element at a i)
  elements at a (Integer at' zero) = refl
  elements at a (Integer at' (suc n)) = refl
  elements at a (Pointer at' word') = refl
  elements at a (Symbol at' name') = refl
  elements at a (Name at' name') = refl
  elements at a (Nothing at') = refl
  elements at a (Float at' word_at' operands') = refl
  elements at a (Let at' bindings' body') = refl
  elements at a (Assign at' name_at' name' value') = refl
  elements at a (Operator at' op' left' right') = refl
  elements at a (Load at' chunk' address') = refl
  elements at a (Store at' chunk' address' value') = refl
  elements at a (Alloc at' header_at' header' operands') = refl
  elements at a (App at' callee' arguments' result' result_at') = refl
  elements at a (Extcall at' frame' name' arguments' result' result_at') = refl
  elements at a (Checkbound at' bound' index') = refl
  elements at a (Raise at' value') = refl
  elements at a (Seq at' elements') = refl
  elements at a (If at' condition' on_true' on_false') = refl
  elements at a (Switch at' size_at' size' selector' cases') = refl
  elements at a (Catch at' body' handlers') = refl
  elements at a (Exit at' label_at' label' arguments') = refl
  elements at a (Try at' body' name_at' name' handler') = refl

  turns : (at : ℕ) (c b : Expression) → turn (at + d) (moved_expression d c) (moved_expression d b) ≡ moved_expression d (turn at c b)
  turns at (Integer at' zero) b = refl
  turns at (Integer at' (suc n)) b = refl
  turns at (Pointer at' word') b = refl
  turns at (Symbol at' name') b = refl
  turns at (Name at' name') b = refl
  turns at (Nothing at') b = refl
  turns at (Float at' word_at' operands') b = refl
  turns at (Let at' bindings' body') b = refl
  turns at (Assign at' name_at' name' value') b = refl
  turns at (Operator at' op' left' right') b = refl
  turns at (Load at' chunk' address') b = refl
  turns at (Store at' chunk' address' value') b = refl
  turns at (Alloc at' header_at' header' operands') b = refl
  turns at (App at' callee' arguments' result' result_at') b = refl
  turns at (Extcall at' frame' name' arguments' result' result_at') b = refl
  turns at (Checkbound at' bound' index') b = refl
  turns at (Raise at' value') b = refl
  turns at (Seq at' elements') b = refl
  turns at (If at' condition' on_true' on_false') b = refl
  turns at (Switch at' size_at' size' selector' cases') b = refl
  turns at (Catch at' body' handlers') b = refl
  turns at (Exit at' label_at' label' arguments') b = refl
  turns at (Try at' body' name_at' name' handler') b = refl

  -- ---- one token

  if_some : (s : Sort) (b : Bool) (a : Value s) → cond b (Some (moved_value d s a)) None ≡ moved_option d s (cond b (Some a) None)
  if_some s true a = refl
  if_some s false a = refl

  tok : (test : TokenTree → Bool) → ((t : TokenTree) → test (moved_token d t) ≡ test t) → RuleMoves d (a_token test) (a_token test)
  unfolding a_token
  tok test same = (passing test, refl, λ t. ap (λ b. cond b (Some (moved_token d t)) None) (same t) ∙ if_some AToken (test t) t)

  passed : (test : TokenTree → Bool) → ((t : TokenTree) → test (moved_token d t) ≡ test t) → (t : TokenTree) → passing test (moved_token d t) ≡ moved_option d AToken (passing test t)
  passed test same t = ap (λ b. cond b (Some (moved_token d t)) None) (same t) ∙ if_some AToken (test t) t

  close_moves : RuleMoves d (a_token is_close) (a_token is_close)
  close_moves = tok is_close (λ t. refl)

  abbrev at_comp : ℕ → Comp → Declaration
  at_comp at c = record { at = at; comp = c }

  abbrev at_ret : ℕ → Ret → ResultPart
  at_ret at r = record { at = at; ret = r }

  comps : RuleMoves d a_comp a_comp
  unfolding a_comp
  comps = (_, refl, λ t. by t (comp_of t.kind))
    where
      by : (t : TokenTree) (o : Option Comp) → option_map (λ c. at_comp (t.at + d) c) o ≡ moved_option d ADeclaration (option_map (λ c. at_comp t.at c) o)
      by t None = refl
      by t (Some c) = refl

  results : RuleMoves d a_result a_result
  unfolding a_result
  results = (_, refl, λ t. by t (ret_of t.kind))
    where
      by : (t : TokenTree) (o : Option Ret) → option_map (λ r. at_ret (t.at + d) r) o ≡ moved_option d AResult (option_map (λ r. at_ret t.at r) o)
      by t None = refl
      by t (Some c) = refl

  heads : (t : TokenTree) → marked head_of (moved_token d t) ≡ moved_option d (Both AToken AHead) (marked head_of t)
  heads t = by (head_of t.kind)
    where
      by : (o : Option Head) → option_map (λ a. (moved_token d t, a)) o ≡ moved_option d (Both AToken AHead) (option_map (λ a. (t, a)) o)
      by None = refl
      by (Some a) = refl

  chunk_words : (t : TokenTree) → marked chunk_word_of (moved_token d t) ≡ moved_option d (Both AToken AChunkWord) (marked chunk_word_of t)
  chunk_words t = by (chunk_word_of t.kind)
    where
      by : (o : Option ChunkWord) → option_map (λ a. (moved_token d t, a)) o ≡ moved_option d (Both AToken AChunkWord) (option_map (λ a. (t, a)) o)
      by None = refl
      by (Some a) = refl

  data_words : (t : TokenTree) → data_word_of (moved_token d t) ≡ moved_option d (Both AToken ADataWord) (data_word_of t)
  data_words t = by (is_symbol_token t) (data_keyword t.kind)
    where
      by : (b : Bool) (o : Option DataWord) →
          cond b (Some (moved_token d t, item.Define)) (option_map (λ a. (moved_token d t, a)) o)
          ≡ moved_option d (Both AToken ADataWord) (cond b (Some (t, item.Define)) (option_map (λ a. (t, a)) o))
      by true o = refl
      by false None = refl
      by false (Some a) = refl

  vals : (t : TokenTree) → val_of (moved_token d t) ≡ moved_option d ADatum (val_of t)
  vals t = by (is_symbol_token t) (is_integer t)
    where
      by : (b c : Bool) →
          cond b (Some (tree.Address true (t.at + d) (string_bytes t.text))) (cond c (Some (tree.Val (integer_value t.text))) None)
          ≡ moved_option d ADatum (cond b (Some (tree.Address true t.at (string_bytes t.text))) (cond c (Some (tree.Val (integer_value t.text))) None))
      by true c = refl
      by false true = refl
      by false false = refl

  widths : RuleMoves d (One AWidth (λ t. width_of t.kind)) (One AWidth (λ t. width_of t.kind))
  widths = (_, refl, λ t. by (width_of t.kind))
    where
      by : (o : Option Width) → o ≡ moved_option d AWidth o
      by None = refl
      by (Some w) = refl

  pub leaves : (t : TokenTree) → leaf_of (moved_token d t) ≡ moved_option d AnExpression (leaf_of t)
  leaves t = by t.at t.kind t.text
    where
      by : (at : ℕ) (k : TokenKind) (text : List ℕ) →
          leaf_of (record { at = at + d; kind = k; text = text }) ≡ moved_option d AnExpression (leaf_of (record { at = at; kind = k; text = text }))
      by at kind.String text = if_some AnExpression (is_symbol (string_bytes text)) (Symbol at (string_bytes text))
      by at (kind.Keyword word.Exit) text = refl
      by at _ text = refl

  -- ---- expressions one after the other

  m_operands : RuleMoves d operands operands
  unfolding operands
  m_operands = (_, _, _, refl, (λ u. refl), refl, λ es. (_, _, refl, close_moves, λ t. refl))

  m_sequence_to_close : RuleMoves d sequence_to_close sequence_to_close
  unfolding sequence_to_close
  m_sequence_to_close = (_, _, refl, refl, λ e. (_, _, refl, m_operands, λ es. ap (Give AnExpression) (sequences e es)))

  m_sequence_to_with : RuleMoves d sequence_to_with sequence_to_with
  unfolding sequence_to_with
  m_sequence_to_with =
      (_, _, refl, refl, λ e. (_, _, _, refl, (λ u. refl), refl, λ es. (_, _, refl, tok is_with (λ t. refl), λ t. ap (Give AnExpression) (sequences e es))))

  -- ---- let, letmut and assign

  m_binding : RuleMoves d a_binding a_binding
  unfolding a_binding
  m_binding = (_, _, refl, tok is_name (λ t. refl), λ name. (_, _, refl, refl, λ value. refl))

  m_mutable : RuleMoves d a_mutable_binding a_mutable_binding
  unfolding a_mutable_binding
  m_mutable = (_, _, refl, tok is_name (λ t. refl), λ name. (_, _, refl, comps, λ declared. (_, _, refl, refl, λ value. refl)))

  m_bindings : (r : Rule ABinding) → RuleMoves d r r → RuleMoves d (bindings_to_close r) (bindings_to_close r)
  unfolding bindings_to_close
  m_bindings r m = (_, _, refl, m, λ b. (_, _, _, refl, (λ u. refl), m, λ bs. (_, _, refl, close_moves, λ t. refl)))

  m_let_body : (at : ℕ) (bs : List BindingPart) → RuleMoves d (let_body at bs) (let_body (at + d) (moved_values d ABinding bs))
  unfolding let_body
  m_let_body at bs = (_, _, refl, m_sequence_to_close, λ body. ap (λ b. Give AnExpression (Let (at + d) b (moved_expression d body))) (bounds bs))

  m_let : (at : ℕ) (r : Rule ABinding) → RuleMoves d r r → RuleMoves d (let_form at r) (let_form (at + d) r)
  unfolding let_form
  m_let at r m = (_, _, _, refl, (λ _. m_bindings r m), (λ bs. m_let_body at bs), (_, _, refl, m, λ b. m_let_body at (b ∷ [])))

  m_assign : (at : ℕ) → RuleMoves d (assign_form at) (assign_form (at + d))
  unfolding assign_form
  m_assign at = (_, _, refl, tok is_name (λ t. refl), λ name. (_, _, refl, refl, λ value. (_, _, refl, close_moves, λ t. refl)))

  -- ---- calls

  m_arguments : (made made' : Expressions → ResultPart → Expression) →
      ((es : Expressions) (r : ResultPart) → made' (moved_row d es) (moved_value d AResult r) ≡ moved_expression d (made es r)) → RuleMoves d (arguments_of made) (arguments_of made')
  unfolding arguments_of
  m_arguments made made' same = (
    _,
    _,
    _,
    refl,
    (λ u. refl),
    refl,
    λ es. (
      _,
      _,
      refl,
      results,
      λ r. (
        _,
        _,
        refl,
        close_moves,
        λ t.
            ap (λ row. Give AnExpression (made' row (moved_value d AResult r))) (rows es) ∙ ap (Give AnExpression) (same (expressions es) r),
      ),
    ),
  )

  m_app : (at : ℕ) → RuleMoves d (app_form at) (app_form (at + d))
  unfolding app_form
  m_app at = (_, _, refl, refl, λ callee. m_arguments _ _ (λ es r. refl))

  m_extcall_rest : (at : ℕ) (frame : Bool) → RuleMoves d (extcall_rest at frame) (extcall_rest (at + d) frame)
  unfolding extcall_rest
  m_extcall_rest at frame = (_, _, refl, tok is_symbol_token (λ t. refl), λ name. m_arguments _ _ (λ es r. refl))

  m_extcall : (at : ℕ) → RuleMoves d (extcall_form at) (extcall_form (at + d))
  unfolding extcall_form
  m_extcall at = (_, _, refl, passed is_alloc (λ t. refl), by)
    where
      by : (o : Option TokenTree) → RuleMoves d (extcall_rest at (is_some o)) (extcall_rest (at + d) (is_some (moved_option d AToken o)))
      by None = m_extcall_rest at false
      by (Some t) = m_extcall_rest at true

  -- ---- memory

  m_alloc : (at : ℕ) → RuleMoves d (alloc_form at) (alloc_form (at + d))
  unfolding alloc_form
  m_alloc at = (
    _,
    _,
    refl,
    tok is_integer (λ t. refl),
    λ header. (
      _,
      _,
      refl,
      m_operands,
      λ es.
          ap (λ row. Give AnExpression (Alloc (at + d) (header.at + d) (word_or_zero (integer_value header.text)) row)) (rows es),
    ),
  )

  m_load_rest : (at x x' : ℕ) (c : Chunk) → RuleMoves d (load_rest at (Some c) x) (load_rest (at + d) (Some c) x')
  unfolding load_rest
  m_load_rest at x x' c = (_, _, refl, refl, λ address. (_, _, refl, close_moves, λ t. refl))

  m_load_float : (at x : ℕ) → RuleMoves d (load_rest at None x) (load_rest (at + d) None (x + d))
  unfolding load_rest
  m_load_float at x = (_, _, refl, refl, λ address. (_, _, refl, close_moves, λ t. refl))

  m_store_rest : (at x x' : ℕ) (c : Chunk) → RuleMoves d (store_rest at (Some c) x) (store_rest (at + d) (Some c) x')
  unfolding store_rest
  m_store_rest at x x' c = (_, _, refl, refl, λ address. (_, _, refl, refl, λ value. (_, _, refl, close_moves, λ t. refl)))

  m_store_float : (at x : ℕ) → RuleMoves d (store_rest at None x) (store_rest (at + d) None (x + d))
  unfolding store_rest
  m_store_float at x = (_, _, refl, refl, λ address. (_, _, refl, refl, λ value. (_, _, refl, close_moves, λ t. refl)))

  m_chunk_rest : (w : ChunkWord) (k k' : Option Chunk → Rule AnExpression) → ((c : Option Chunk) → RuleMoves d (k c) (k' c)) → RuleMoves d (chunk_rest w k) (chunk_rest w k')
  unfolding chunk_rest
  m_chunk_rest (starts.Whole c) k k' m = m (Some c)
  m_chunk_rest starts.Unsigned k k' m = (_, _, refl, widths, λ w. m (Some (unsigned_chunk w)))
  m_chunk_rest starts.Signed k k' m = (_, _, refl, widths, λ w. m (Some (signed_chunk w)))
  m_chunk_rest starts.Float k k' m = m None

  m_chunked : (rest rest' : Option Chunk → ℕ → Rule AnExpression) → ((x x' : ℕ) (c : Chunk) → RuleMoves d (rest (Some c) x) (rest' (Some c) x')) →
      ((x : ℕ) → RuleMoves d (rest None x) (rest' None (x + d))) → (o : Option (TokenTree × ChunkWord)) →
      RuleMoves d (chunked rest o) (chunked rest' (moved_option d (Both AToken AChunkWord) o))
  unfolding chunked
  m_chunked rest rest' whole floats None = whole 0 0 chunk.Val
  m_chunked rest rest' whole floats (Some w) = m_chunk_rest w.1 (λ c. rest c w.0.at) (λ c. rest' c (w.0.at + d)) by
    where
      by : (c : Option Chunk) → RuleMoves d (rest c w.0.at) (rest' c (w.0.at + d))
      by None = floats w.0.at
      by (Some c) = whole w.0.at (w.0.at + d) c

  m_load : (at : ℕ) → RuleMoves d (load_form at) (load_form (at + d))
  unfolding load_form
  m_load at = (_, _, refl, chunk_words, m_chunked (load_rest at) (load_rest (at + d)) (λ x x' c. m_load_rest at x x' c) (λ x. m_load_float at x))

  m_store : (at : ℕ) → RuleMoves d (store_form at) (store_form (at + d))
  unfolding store_form
  m_store at = (_, _, refl, chunk_words, m_chunked (store_rest at) (store_rest (at + d)) (λ x x' c. m_store_rest at x x' c) (λ x. m_store_float at x))

  -- ---- other forms of one, two or three operands

  m_raise : (at : ℕ) → RuleMoves d (raise_form at) (raise_form (at + d))
  unfolding raise_form
  m_raise at = (_, _, refl, refl, λ value. (_, _, refl, close_moves, λ t. refl))

  pairs : (at : ℕ) (p : Pair) (a b : Expression) → paired (at + d) p (moved_expression d a) (moved_expression d b) ≡ moved_expression d (paired at p a b)
  pairs at (pair.Operator op) a b = refl
  pairs at pair.Checkbound a b = refl
  pairs at (pair.Element c) a b = ap (Load (at + d) c) (elements at a b)

  m_pair : (at : ℕ) (p : Pair) → RuleMoves d (pair_form at p) (pair_form (at + d) p)
  unfolding pair_form
  m_pair at p = (_, _, refl, refl, λ a. (_, _, refl, refl, λ b. (_, _, refl, close_moves, λ t. ap (Give AnExpression) (pairs at p a b))))

  triples : (at : ℕ) (p : Triple) (a b c : Expression) → tripled (at + d) p (moved_expression d a) (moved_expression d b) (moved_expression d c) ≡ moved_expression d (tripled at p a b c)
  triples at triple.If a b c = refl
  triples at (triple.SetElement k) a b c = ap (λ x. Store (at + d) k x (moved_expression d c)) (elements at a b)

  m_triple : (at : ℕ) (p : Triple) → RuleMoves d (triple_form at p) (triple_form (at + d) p)
  unfolding triple_form
  m_triple at p =
      (_, _, refl, refl, λ a. (_, _, refl, refl, λ b. (_, _, refl, refl, λ c. (_, _, refl, close_moves, λ t. ap (Give AnExpression) (triples at p a b c)))))

  m_float : (at x : ℕ) → RuleMoves d (float_form at x) (float_form (at + d) (x + d))
  unfolding float_form
  m_float at x = (_, _, refl, m_operands, λ es. ap (λ row. Give AnExpression (Float (at + d) (x + d) row)) (rows es))

  -- ---- control

  m_seq : (at : ℕ) → RuleMoves d (seq_form at) (seq_form (at + d))
  unfolding seq_form
  m_seq at = (_, _, refl, refl, λ e. (_, _, refl, m_operands, λ es. ap (Give AnExpression) (sequences_at at e es)))

  loops : (at : ℕ) (c b : Expression) → while_loop (at + d) (moved_expression d c) (moved_expression d b) ≡ moved_expression d (while_loop at c b)
  loops at c b =
      λ i.
      Catch (at + d)
      (Catch (at + d) (Exit (at + d) (at + d) Again NoMore)
      (Handle (at + d) Again [] (Seq (at + d) (More (turns at c b i) (More (Exit (at + d) (at + d) Again NoMore) NoMore))) NoHandler))
      (Handle (at + d) Done [] (Nothing (at + d)) NoHandler)

  m_while : (at : ℕ) → RuleMoves d (while_form at) (while_form (at + d))
  unfolding while_form
  m_while at = (_, _, refl, refl, λ c. (_, _, refl, m_sequence_to_close, λ b. ap (Give AnExpression) (loops at c b)))

  m_number : RuleMoves d case_number case_number
  unfolding case_number
  m_number = (_, _, refl, tok is_integer (λ t. refl), λ i. (_, _, refl, tok is_colon (λ t. refl), λ t. refl))

  m_another : RuleMoves d another_number another_number
  unfolding another_number
  m_another = (_, _, refl, tok is_case (λ t. refl), λ t. m_number)

  abbrev a_case_of : List Index → Expression → Bool → CasePart
  a_case_of numbers body goes_on = record { indexes = numbers; body = body; goes_on = goes_on }

  m_case_body : (is : List Index) → RuleMoves d (case_body is) (case_body (moved_values d AnIndex is))
  unfolding case_body
  m_case_body is = (
    _,
    _,
    refl,
    refl,
    λ e. (
      _,
      _,
      _,
      refl,
      (λ u. refl),
      refl,
      λ es. (
        _,
        _,
        refl,
        tok ends_case (λ t. refl),
        λ end.
            λ i. Give ACase (a_case_of (all_indexes is i) (sequences e es i) (is_case end)),
      ),
    ),
  )

  m_case : RuleMoves d a_case a_case
  unfolding a_case
  m_case = (_, _, refl, m_number, λ i. (_, _, _, refl, (λ u. refl), m_another, λ is. m_case_body (i ∷ is)))

  m_switch : (at : ℕ) → RuleMoves d (switch_form at) (switch_form (at + d))
  unfolding switch_form
  m_switch at = (
    _,
    _,
    refl,
    tok is_integer (λ t. refl),
    λ size. (
      _,
      _,
      refl,
      refl,
      λ selector. (
        _,
        _,
        refl,
        tok is_case (λ t. refl),
        λ t. (
          _,
          _,
          refl,
          (_, _, refl, (λ c. refl), m_case),
          λ cs.
              ap (λ row. Give AnExpression (Switch (at + d) (size.at + d) (word_or_zero (integer_value size.text)) (moved_expression d selector) row)) (all_cases cs),
        ),
      ),
    ),
  )

  m_parameter : RuleMoves d a_parameter a_parameter
  unfolding a_parameter
  m_parameter = (_, _, refl, tok is_name (λ t. refl), λ name. (_, _, refl, tok is_colon (λ t. refl), λ t. (_, _, refl, comps, λ c. refl)))

  m_parameters : RuleMoves d parameters parameters
  unfolding parameters
  m_parameters = (_, _, _, refl, (λ u. refl), m_parameter, λ ps. (_, _, refl, close_moves, λ t. refl))

  abbrev a_head_of : ℕ → List ℕ → List Parameter → HeadPart
  a_head_of at name ps = record { at = at; name = name; params = ps }

  m_label_rest : (name : TokenTree) → RuleMoves d (label_rest name) (label_rest (moved_token d name))
  unfolding label_rest
  m_label_rest name = (_, _, refl, m_parameters, λ ps. λ i. Give ALabel (a_head_of (name.at + d) name.text (all_params ps i)))

  abbrev a_handler_of : HeadPart → Expression → Bool → HandlerPart
  a_handler_of label body goes_on = record { at = label.at; label = tree.Named label.name; params = label.params; body = body; goes_on = goes_on }

  m_handler_rest : (label : HeadPart) → RuleMoves d (handler_rest label) (handler_rest (moved_value d ALabel label))
  unfolding handler_rest
  m_handler_rest label = (
    _,
    _,
    refl,
    refl,
    λ e. (
      _,
      _,
      _,
      refl,
      (λ u. refl),
      refl,
      λ es. (
        _,
        _,
        refl,
        tok ends_handler (λ t. refl),
        λ end.
            λ i. Give AHandler (a_handler_of (moved_value d ALabel label) (sequences e es i) (is_and end)),
      ),
    ),
  )

  m_label : RuleMoves d a_label a_label
  unfolding a_label
  m_label = (_, _, refl, tok is_name (λ t. refl), λ name. m_label_rest name)

  m_next_handler : RuleMoves d next_handler next_handler
  unfolding next_handler
  m_next_handler = (_, _, refl, (_, refl, λ at. m_label), λ label. m_handler_rest label)

  m_more_handlers : (b : Bool) → RuleMoves d (more_handlers b) (more_handlers b)
  unfolding more_handlers
  m_more_handlers true = (_, _, refl, (λ h. refl), m_next_handler)
  m_more_handlers false = refl

  m_labelled_handlers : (at : ℕ) (body : Expression) (label : HeadPart) →
      RuleMoves d (labelled_handlers at body label) (labelled_handlers (at + d) (moved_expression d body) (moved_value d ALabel label))
  unfolding labelled_handlers
  m_labelled_handlers at body label = (
    _,
    _,
    refl,
    m_handler_rest label,
    λ h. (
      _,
      _,
      refl,
      m_more_handlers h.goes_on,
      λ hs.
          ap (λ row. Give AnExpression (Catch (at + d) (moved_expression d body) row)) (all_handlers (h ∷ hs)),
    ),
  )

  bare_catches : (at : ℕ) (body h : Expression) → bare_catch (at + d) (moved_expression d body) (moved_expression d h) ≡ moved_expression d (bare_catch at body h)
  bare_catches at body h = ap (λ x. Catch (at + d) (moved_expression d body) (Handle x Bare [] (moved_expression d h) NoHandler)) (places h)

  m_bare_handler : (at : ℕ) (body e : Expression) → RuleMoves d (bare_handler at body e) (bare_handler (at + d) (moved_expression d body) (moved_expression d e))
  unfolding bare_handler
  m_bare_handler at body e = (
    _,
    _,
    refl,
    m_operands,
    λ es.
        ap (λ x. Give AnExpression (bare_catch (at + d) (moved_expression d body) x)) (sequences e es) ∙ ap (Give AnExpression) (bare_catches at body (sequence e es)),
  )

  m_catch : (at : ℕ) → RuleMoves d (catch_form at) (catch_form (at + d))
  unfolding catch_form
  m_catch at = (
    _,
    _,
    refl,
    m_sequence_to_with,
    λ body.
        (_, _, _, refl, (λ name. m_label_rest name), (λ label. m_labelled_handlers at body label), λ e. m_bare_handler at body e),
  )

  m_exit_rest : (at : ℕ) (o : Option TokenTree) → RuleMoves d (exit_rest at o) (exit_rest (at + d) (moved_option d AToken o))
  unfolding exit_rest
  m_exit_rest at None = (_, _, refl, close_moves, λ t. refl)
  m_exit_rest at (Some name) =
      (_, _, refl, m_operands, λ es. ap (λ row. Give AnExpression (Exit (at + d) (name.at + d) (tree.Named name.text) row)) (rows es))

  m_exit : (at : ℕ) → RuleMoves d (exit_form at) (exit_form (at + d))
  unfolding exit_form
  m_exit at = (_, _, refl, passed is_name (λ t. refl), λ o. m_exit_rest at o)

  m_try : (at : ℕ) → RuleMoves d (try_form at) (try_form (at + d))
  unfolding try_form
  m_try at = (_, _, refl, m_sequence_to_with, λ body. (_, _, refl, tok is_name (λ t. refl), λ name. (_, _, refl, m_sequence_to_close, λ handler. refl)))

  m_form_of : (at word_at : ℕ) (h : Head) → RuleMoves d (form_of at word_at h) (form_of (at + d) (word_at + d) h)
  unfolding form_of
  m_form_of at word_at head.Let = m_let at a_binding m_binding
  m_form_of at word_at head.Letmut = m_let at a_mutable_binding m_mutable
  m_form_of at word_at head.Assign = m_assign at
  m_form_of at word_at head.App = m_app at
  m_form_of at word_at head.Extcall = m_extcall at
  m_form_of at word_at head.Alloc = m_alloc at
  m_form_of at word_at head.Load = m_load at
  m_form_of at word_at head.Store = m_store at
  m_form_of at word_at (head.Pair p) = m_pair at p
  m_form_of at word_at (head.Triple p) = m_triple at p
  m_form_of at word_at head.While = m_while at
  m_form_of at word_at head.Raise = m_raise at
  m_form_of at word_at head.Seq = m_seq at
  m_form_of at word_at head.Switch = m_switch at
  m_form_of at word_at head.Catch = m_catch at
  m_form_of at word_at head.Exit = m_exit at
  m_form_of at word_at head.Try = m_try at
  m_form_of at word_at head.Float = m_float at word_at

  pub m_form : (at : ℕ) → RuleMoves d (open_form at) (open_form (at + d))
  unfolding open_form
  m_form at = (_, _, refl, (_, refl, heads), λ w. m_form_of at w.0.at w.1)

  -- ---- static data

  m_data_integer : (made : Option ℕ → DatumTree) → ((o : Option ℕ) → made o ≡ moved_value d ADatum (made o)) → RuleMoves d (a_data_integer made) (a_data_integer made)
  unfolding a_data_integer
  m_data_integer made same = (_, _, refl, tok is_integer (λ t. refl), λ i. ap (Give ADatum) (same (integer_value i.text)))

  m_datum : (t : TokenTree) (w : DataWord) → RuleMoves d (datum_of t w) (datum_of (moved_token d t) w)
  unfolding datum_of
  m_datum t item.Define = (_, _, refl, tok is_colon (λ t. refl), λ c. refl)
  m_datum t item.Byte = m_data_integer tree.Byte (λ o. refl)
  m_datum t item.Half = m_data_integer tree.Half (λ o. refl)
  m_datum t item.Int = m_data_integer tree.Int (λ o. refl)
  m_datum t item.Val = (_, refl, vals)
  m_datum t item.Addr = (_, _, refl, tok is_symbol_token (λ t. refl), λ name. refl)
  m_datum t item.Skip = m_data_integer tree.Skip (λ o. refl)
  m_datum t item.Align = m_data_integer tree.Align (λ o. refl)
  m_datum t item.Text = (_, _, refl, tok is_string (λ t. refl), λ text. refl)
  m_datum t item.Global = (_, _, refl, tok is_symbol_token (λ t. refl), λ name. refl)
  m_datum t item.Float = (_, _, refl, tok is_float_token (λ t. refl), λ f. refl)

  m_data_item : RuleMoves d a_data_item a_data_item
  unfolding a_data_item
  m_data_item = (_, _, refl, (_, refl, data_words), λ w. (_, _, refl, m_datum w.0 w.1, λ datum. refl))

  abbrev a_list_of : ℕ → List tree.DataItemTree → ItemPart
  a_list_of at is = DataItem (record { at = at; items = is })

  m_data_items : (at : ℕ) → RuleMoves d (data_items at) (data_items (at + d))
  unfolding data_items
  m_data_items at = (_, _, _, refl, (λ u. refl), m_data_item, λ ds. (_, _, refl, close_moves, λ t. λ i. Give AnItem (a_list_of (at + d) (all_data ds i))))

  m_data_list : (at : ℕ) → RuleMoves d (data_list at) (data_list (at + d))
  unfolding data_list
  m_data_list at = (_, _, refl, passed is_data (λ t. refl), λ o. m_data_items at)

  abbrev a_function_of : ℕ → TokenTree → List Parameter → Expression → ItemPart
  a_function_of at name ps body = FunctionItem (record { at = at; name_at = name.at; name = string_bytes name.text; params = ps; body = body })

  m_function : (at : ℕ) → RuleMoves d (a_function at) (a_function (at + d))
  unfolding a_function
  m_function at = (
    _,
    _,
    refl,
    tok is_symbol_token (λ t. refl),
    λ name. (
      _,
      _,
      refl,
      (_, refl, λ at. m_parameters),
      λ ps. (
        _,
        _,
        refl,
        m_sequence_to_close,
        λ body.
            λ i. Give AnItem (a_function_of (at + d) (moved_token d name) (all_params ps i) (moved_expression d body)),
      ),
    ),
  )

  m_item_rest : (at : ℕ) (o : Option TokenTree) → RuleMoves d (item_rest at o) (item_rest (at + d) (moved_option d AToken o))
  unfolding item_rest
  m_item_rest at None = m_data_list at
  m_item_rest at (Some w) = m_function at

  m_item : RuleMoves d an_item an_item
  unfolding an_item
  m_item = (_, refl, λ at. (_, _, refl, passed is_function (λ t. refl), λ o. m_item_rest at o))

  -- ---- items

  long : (xs : List TokenTree) → length (moved_tokens d xs) ≡ length xs
  long [] = refl
  long (x ∷ xs) = λ i. suc (long xs i)

  of_item : (n : ℕ) (i : ItemPart) → item_of n (moved_item_part d i) ≡ moved_item d (item_of n i)
  of_item n (FunctionItem f) = refl
  of_item n (DataItem l) = refl

  -- Items further on are what the tokens further on spell.
  pub items_move : (n : ℕ) (is : List ItemTree) (xs : List TokenTree) → AreItems n is xs → AreItems n (moved_items d is) (moved_tokens d xs)
  items_move _ _ _ (none n) = none n
  items_move _ _ _ (more n i is xs ys h g) =
      let one = spells d leaves m_form AnItem n an_item i xs h an_item m_item in
      let rest = items_move n is ys g in
      let same : item_of (length (moved_tokens d xs)) (moved_item_part d i) ≡ moved_item d (item_of (length xs) i) =
      ap (λ k. item_of k (moved_item_part d i)) (long xs) ∙ of_item (length xs) i in
      subst (λ zs. AreItems n (moved_item d (item_of (length xs) i) ∷ moved_items d is) zs) (sym (joined d xs ys))
      (subst (λ j. AreItems n (j ∷ moved_items d is) (moved_tokens d xs ++ moved_tokens d ys)) same
      (more n (moved_item_part d i) (moved_items d is) (moved_tokens d xs) (moved_tokens d ys) one rest))
