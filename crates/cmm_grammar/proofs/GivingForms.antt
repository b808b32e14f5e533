-- What holds of an expression by what holds of its parts holds of each expression that tokens spell, and so of each item.
use Rattle.std.proofs.Common.{◌≡◌, ℕ, ◌≤◌, zero, suc, Bool, true, false, cond, List, [], ◌∷◌, Option, Some, None, All, arith, le_refl, subst}
use Rattle.std.specs.List.{AllByRecursion}
use Rattle.std.proofs.lemmas.List.Elements.{All-nil, All-cons}
use Rattle.bs_words.specs.Symbol.{is_symbol}
use Rattle.bs_words.specs.declared.operators.IntOp.{IntOp}
use Rattle.bs_words.specs.declared.types.Chunk.{Chunk}
use Rattle.bs_words.specs.declared.types.Chunk.TheVariants as chunk
use Rattle.bs_words.specs.declared.types.Ret.{Ret}
use Rattle.cmm_lex.specs.Token.{TokenTree}
use Rattle.cmm_lex.specs.Integers.{integer_value}
use Rattle.cmm_lex.specs.Strings.{string_bytes}
use Rattle.cmm_lex.specs.declared.token.TokenKind.{TokenKind}
use Rattle.cmm_lex.specs.declared.token.TokenKind.TheVariants as kind
use Rattle.cmm_lex.specs.declared.token.Keyword.TheVariants as word
use Rattle.cmm_tree.specs.Tree.{Expression, Integer, Pointer, Symbol, Name, Nothing, Float, Let, Assign, Operator, Load, Store, Alloc, App, Extcall, Checkbound, Raise, Seq, If, Switch, Catch, Exit, Try, Expressions, Bare, Done, Again, LabelTree, Index, Parameter, FunctionTree, ItemTree, functions_among}
use Rattle.cmm_tree.specs.Tree as tree
use Rattle.cmm_tree.specs.Place.{place_of}
use Rattle.cmm_grammar.specs.declared.word.Head.{Head}
use Rattle.cmm_grammar.specs.declared.word.Head.TheVariants as head
use Rattle.cmm_grammar.specs.declared.word.Pair.{Pair}
use Rattle.cmm_grammar.specs.declared.word.Pair.TheVariants as pair
use Rattle.cmm_grammar.specs.declared.word.Triple.{Triple}
use Rattle.cmm_grammar.specs.declared.word.Triple.TheVariants as triple
use Rattle.cmm_grammar.specs.declared.word.ChunkWord.{ChunkWord}
use Rattle.cmm_grammar.specs.declared.word.ChunkWord.TheVariants as starts
use Rattle.cmm_grammar.specs.declared.word.DataWord.{DataWord}
use Rattle.cmm_grammar.specs.declared.word.DataWord.TheVariants as item
use Rattle.cmm_grammar.specs.Parts.{ResultPart, BindingPart, CasePart, HandlerPart, HeadPart, ItemPart, FunctionItem, DataItem, item_of, expressions, bindings, cases, handlers, sequence_at, sequence}
use Rattle.cmm_grammar.specs.Rewriting.{element_by, element, turn_by, turn}
use Rattle.cmm_grammar.specs.Words.{leaf_of, word_or_zero, passing, is_symbol_token, data_word_of}
use Rattle.cmm_grammar.specs.Rule.{AToken, AnExpression, ABinding, ACase, AHandler, ADataItem, ADataWord, AnItem, Both, Rule}
use Rattle.cmm_grammar.specs.Grammar.{a_token, a_comp, a_result, operands, sequence_to_close, sequence_to_with, a_binding, a_mutable_binding, bindings_to_close, let_body, let_form, assign_form, arguments_of, app_form, extcall_rest, extcall_form, alloc_form, load_expression, store_expression, load_rest, store_rest, chunk_rest, chunked, load_form, store_form, paired, tripled, raise_form, pair_form, triple_form, float_form, seq_form, while_form, case_number, another_number, case_body, a_case, switch_form, a_parameter, parameters, label_rest, handler_rest, a_label, next_handler, more_handlers, labelled_handlers, bare_handler, catch_form, exit_rest, exit_form, try_form, form_of, open_form, a_data_integer, datum_of, a_data_item, data_items, data_list, a_function, item_rest, an_item}
use Rattle.cmm_grammar.specs.Spelling.{Spells, AreItems, none, more}
use Rattle.cmm_grammar.proofs.Giving.{Facts, AllKnown, front, back, DataHave, ItemHas, PartHas, PartsHave, Given, Gives, given}

-- What is known of an expression follows from what is known of its parts. A try nests one deeper than what it holds.
pub record IsClosed (k : Facts) : Type 0 where
  pub deeper : (n d : ℕ) (e : Expression) → n ≤ d → k.expression n e → k.expression d e
  pub integer : (d at w : ℕ) → k.expression d (Integer at w)
  pub pointer : (d at w : ℕ) → k.expression d (Pointer at w)
  pub symbol : (d at : ℕ) (name : List ℕ) → k.expression d (Symbol at name)
  pub named : (d at : ℕ) (name : List ℕ) → k.expression d (Name at name)
  pub nothing : (d at : ℕ) → k.expression d (Nothing at)
  pub float : (d at word_at : ℕ) (es : List Expression) → PartsHave k d AnExpression es → k.expression d (Float at word_at (expressions es))
  pub bound : (d at : ℕ) (bs : List BindingPart) (e : Expression) → PartsHave k d ABinding bs → k.expression d e → k.expression d (Let at (bindings bs) e)
  pub assigned : (d at name_at : ℕ) (name : List ℕ) (e : Expression) → k.expression d e → k.expression d (Assign at name_at name e)
  pub operator : (d at : ℕ) (op : IntOp) (x y : Expression) → k.expression d x → k.expression d y → k.expression d (Operator at op x y)
  pub load : (d at : ℕ) (c : Chunk) (x : Expression) → k.expression d x → k.expression d (Load at c x)
  pub store : (d at : ℕ) (c : Chunk) (x y : Expression) → k.expression d x → k.expression d y → k.expression d (Store at c x y)
  pub alloc : (d at header_at header : ℕ) (es : List Expression) → PartsHave k d AnExpression es → k.expression d (Alloc at header_at header (expressions es))
  pub app : (d at : ℕ) (f : Expression) (es : List Expression) (r : Ret) (result_at : ℕ) → k.expression d f → PartsHave k d AnExpression es →
      k.expression d (App at f (expressions es) r result_at)
  pub extcall : (d at : ℕ) (frame : Bool) (name : List ℕ) (es : List Expression) (r : Ret) (result_at : ℕ) → k.name name → PartsHave k d AnExpression es →
      k.expression d (Extcall at frame name (expressions es) r result_at)
  pub checkbound : (d at : ℕ) (x y : Expression) → k.expression d x → k.expression d y → k.expression d (Checkbound at x y)
  pub raised : (d at : ℕ) (x : Expression) → k.expression d x → k.expression d (Raise at x)
  pub sequence : (d at : ℕ) (es : List Expression) → PartsHave k d AnExpression es → k.expression d (Seq at (expressions es))
  pub branch : (d at : ℕ) (x y z : Expression) → k.expression d x → k.expression d y → k.expression d z → k.expression d (If at x y z)
  pub switch : (d at size_at size : ℕ) (e : Expression) (c : CasePart) (cs : List CasePart) → k.expression d e → PartHas k d ACase c → PartsHave k d ACase cs →
      k.expression d (Switch at size_at size e (cases (c ∷ cs)))
  pub caught : (d at : ℕ) (e : Expression) (h : HandlerPart) (hs : List HandlerPart) → k.expression d e → PartHas k d AHandler h → PartsHave k d AHandler hs →
      k.expression d (Catch at e (handlers (h ∷ hs)))
  pub exit : (d at label_at : ℕ) (label : LabelTree) (es : List Expression) → PartsHave k d AnExpression es →
      k.expression d (Exit at label_at label (expressions es))
  pub tried : (d at : ℕ) (e : Expression) (name_at : ℕ) (name : List ℕ) (g : Expression) → k.expression d e → k.expression d g →
      k.expression (suc d) (Try at e name_at name g)

next_le : (d : ℕ) → d ≤ suc d
next_le d = omega arith

module _ (k : Facts) (c : IsClosed k) where
  -- ---- one token

  leaf_kind : (d at : ℕ) (kind : TokenKind) (text : List ℕ) (e : Expression) → leaf_of (record { at = at; kind = kind; text = text }) ≡ Some e → k.expression d e
  leaf_kind d at kind.Integer text e h = let same : Integer at (word_or_zero (integer_value text)) ≡ e = cc in subst (k.expression d) same (c.integer d at _)
  leaf_kind d at kind.Pointer text e h = let same : Pointer at (word_or_zero (integer_value text)) ≡ e = cc in subst (k.expression d) same (c.pointer d at _)
  leaf_kind d at kind.Float text e h = let same : Float at at (expressions []) ≡ e = cc in subst (k.expression d) same (c.float d at at [] tt)
  leaf_kind d at kind.String text e h = go (is_symbol (string_bytes text)) h
    where
      go : (b : Bool) → cond b (Some (Symbol at (string_bytes text))) None ≡ Some e → k.expression d e
      go true h = let same : Symbol at (string_bytes text) ≡ e = cc in subst (k.expression d) same (c.symbol d at _)
      go false h = absurd (cc)
  leaf_kind d at kind.Name text e h = let same : Name at text ≡ e = cc in subst (k.expression d) same (c.named d at text)
  leaf_kind d at (kind.Keyword word.Exit) text e h =
      let same : Exit at at Bare (expressions []) ≡ e = cc in subst (k.expression d) same (c.exit d at at Bare [] tt)
  leaf_kind d at _ text e h = absurd (cc)

  leaf_has : (d : ℕ) (t : TokenTree) (e : Expression) → leaf_of t ≡ Some e → k.expression d e
  leaf_has d t e h = leaf_kind d t.at t.kind t.text e h

  -- ---- the expressions inside

  sequence_has : (d at : ℕ) (e : Expression) (es : List Expression) → k.expression d e → PartsHave k d AnExpression es → k.expression d (sequence_at at e es)
  sequence_has d at e [] p q = p
  sequence_has d at e (f ∷ es) p q = c.sequence d at (e ∷ f ∷ es) (p, q)

  known_element : (d at : ℕ) (array : Expression) (i : ℕ) → k.expression d array → k.expression d (element_by at array i)
  known_element d at array zero p = p
  known_element d at array (suc i) p = c.operator d at _ array _ p (c.integer d at _)

  element_has : (d at : ℕ) (array index : Expression) → k.expression d array → k.expression d index → k.expression d (element at array index)
  element_has d at array (Integer index_at i) p q = known_element d at array i p
  element_has d at array index p q = c.operator d at _ array _ p (c.operator d at _ index _ q (c.integer d at _))

  done : (d at : ℕ) (label : LabelTree) → k.expression d (Exit at at label (expressions []))
  done d at label = c.exit d at at label [] tt

  known_turn : (d at condition_at i n : ℕ) (y : Expression) → k.expression d y → k.expression d (turn_by at (Integer condition_at i) y n)
  known_turn d at condition_at i zero y q = c.branch d at _ y _ (c.integer d condition_at i) q (done d at Done)
  known_turn d at condition_at i (suc n) y q = q

  turn_has : (d at : ℕ) (x y : Expression) → k.expression d x → k.expression d y → k.expression d (turn at x y)
  turn_has d at (Integer condition_at i) y p q = known_turn d at condition_at i i y q
  turn_has d at x y p q = c.branch d at x y _ p q (done d at Done)

  -- a catch whose one handler has no parameters
  one_handler : (d at from : ℕ) (label : LabelTree) (body handler : Expression) → k.expression d body → k.expression d handler →
      k.expression d (Catch at body (tree.Handle from label [] handler tree.NoHandler))
  one_handler d at from label body handler p q =
      c.caught d at body (record { at = from; label = label; params = []; body = handler; goes_on = false }) [] p q tt

  loop_has : (d at : ℕ) (body : Expression) → k.expression d body →
      k.expression d (Catch at (Catch at (Exit at at Again (expressions []))
      (tree.Handle at Again [] (Seq at (expressions (body ∷ Exit at at Again (expressions []) ∷ []))) tree.NoHandler))
      (tree.Handle at Done [] (Nothing at) tree.NoHandler))
  loop_has d at body p =
      one_handler d at at Done _ _
      (one_handler d at at Again _ _ (done d at Again) (c.sequence d at (body ∷ Exit at at Again (expressions []) ∷ []) (p, (done d at Again, tt))))
      (c.nothing d at)

  -- ---- forms, by the expressions inside, where parentheses nest at most d deep

  module _ (d : ℕ) where
    abbrev Holds : Expression → Type 0
    Holds e = k.expression d e

    abbrev Out : Expression → Type 0
    Out e = k.expression (suc d) e

    out : (e : Expression) → Holds e → Out e
    out e p = c.deeper d (suc d) e (next_le d) p

    operands_give : (Q : List Expression → Type 0) → ((es : List Expression) → PartsHave k d AnExpression es → Q es) → Gives k d operands Q
    unfolding operands a_token
    operands_give Q q = record { first = λ e p. p; second = λ es parts u. q es parts }

    to_close_gives : (Q : Expression → Type 0) → ((e : Expression) → Holds e → Q e) → Gives k d sequence_to_close Q
    unfolding sequence_to_close
    to_close_gives Q q = λ e p. operands_give _ (λ es parts. q (sequence e es) (sequence_has d _ e es p parts))

    to_with_gives : (Q : Expression → Type 0) → ((e : Expression) → Holds e → Q e) → Gives k d sequence_to_with Q
    unfolding sequence_to_with a_token
    to_with_gives Q q = λ e p. record { first = λ f g. g; second = λ es parts u. q (sequence e es) (sequence_has d _ e es p parts) }

    -- ---- let, letmut and assign

    abbrev BindingsGive : Rule ABinding → Type 1
    BindingsGive r = (Q : BindingPart → Type 0) → ((b : BindingPart) → Holds b.value → Q b) → Gives k d r Q

    binding_gives : BindingsGive a_binding
    unfolding a_binding a_token
    binding_gives Q q = λ name v p. q _ p

    mutable_gives : BindingsGive a_mutable_binding
    unfolding a_mutable_binding a_token a_comp
    mutable_gives Q q = λ name comp v p. q _ p

    let_body_gives : (at : ℕ) (bs : List BindingPart) → PartsHave k d ABinding bs → Gives k d (let_body at bs) Out
    unfolding let_body
    let_body_gives at bs parts = to_close_gives _ (λ e p. out _ (c.bound d at bs e parts p))

    let_gives : (at : ℕ) (r : Rule ABinding) → BindingsGive r → Gives k d (let_form at r) Out
    unfolding let_form bindings_to_close a_token
    let_gives at r gives = record {
      first = λ place.
          gives _ (λ b p. record { first = gives (PartHas k d ABinding) (λ b p. p); second = λ bs parts u. let_body_gives at (b ∷ bs) (p, parts) });
      second = gives _ (λ b p. let_body_gives at (b ∷ []) (p, tt));
    }

    assign_gives : (at : ℕ) → Gives k d (assign_form at) Out
    unfolding assign_form a_token
    assign_gives at = λ name v p u. out _ (c.assigned d at _ _ v p)

    -- ---- calls

    arguments_give : (made : Expressions → ResultPart → Expression) →
        ((es : List Expression) (r : ResultPart) → PartsHave k d AnExpression es → Out (made (expressions es) r)) → Gives k d (arguments_of made) Out
    unfolding arguments_of a_result a_token
    arguments_give made q = record { first = λ e p. p; second = λ es parts r u. q es r.value parts }

    app_gives : (at : ℕ) → Gives k d (app_form at) Out
    unfolding app_form
    app_gives at = λ f p. arguments_give _ (λ es r row. out _ (c.app d at f es _ _ p row))

    -- ---- memory

    alloc_gives : (at : ℕ) → Gives k d (alloc_form at) Out
    unfolding alloc_form a_token
    alloc_gives at = λ header. operands_give _ (λ es parts. out _ (c.alloc d at _ _ es parts))

    loaded_has : (at : ℕ) (o : Option Chunk) (chunk_at : ℕ) (x : Expression) → Holds x → Holds (load_expression at o chunk_at x)
    loaded_has at None chunk_at x p = c.float d at chunk_at (x ∷ []) (p, tt)
    loaded_has at (Some w) chunk_at x p = c.load d at w x p

    stored_has : (at : ℕ) (o : Option Chunk) (chunk_at : ℕ) (x y : Expression) → Holds x → Holds y → Holds (store_expression at o chunk_at x y)
    stored_has at None chunk_at x y p q = c.float d at chunk_at (x ∷ y ∷ []) (p, (q, tt))
    stored_has at (Some w) chunk_at x y p q = c.store d at w x y p q

    load_rest_gives : (at : ℕ) (o : Option Chunk) (chunk_at : ℕ) → Gives k d (load_rest at o chunk_at) Out
    unfolding load_rest a_token
    load_rest_gives at o chunk_at = λ x p u. out _ (loaded_has at o chunk_at x p)

    store_rest_gives : (at : ℕ) (o : Option Chunk) (chunk_at : ℕ) → Gives k d (store_rest at o chunk_at) Out
    unfolding store_rest a_token
    store_rest_gives at o chunk_at = λ x p y q u. out _ (stored_has at o chunk_at x y p q)

    chunk_rest_gives : (w : ChunkWord) (rest : Option Chunk → Rule AnExpression) → ((o : Option Chunk) → Gives k d (rest o) Out) →
        Gives k d (chunk_rest w rest) Out
    unfolding chunk_rest
    chunk_rest_gives (starts.Whole w) rest gives = gives (Some w)
    chunk_rest_gives starts.Unsigned rest gives = λ w. gives _
    chunk_rest_gives starts.Signed rest gives = λ w. gives _
    chunk_rest_gives starts.Float rest gives = gives None

    load_gives : (at : ℕ) → Gives k d (load_form at) Out
    unfolding load_form chunked
    load_gives at = record {
      first = λ w. chunk_rest_gives w.value.1 (λ o. load_rest at o w.value.0.at) (λ o. load_rest_gives at o w.value.0.at);
      second = load_rest_gives at (Some chunk.Val) 0;
    }

    store_gives : (at : ℕ) → Gives k d (store_form at) Out
    unfolding store_form chunked
    store_gives at = record {
      first = λ w. chunk_rest_gives w.value.1 (λ o. store_rest at o w.value.0.at) (λ o. store_rest_gives at o w.value.0.at);
      second = store_rest_gives at (Some chunk.Val) 0;
    }

    -- ---- operators, and other forms of one, two or three operands

    paired_has : (at : ℕ) (w : Pair) (x y : Expression) → Holds x → Holds y → Holds (paired at w x y)
    paired_has at (pair.Operator o) x y p q = c.operator d at o x y p q
    paired_has at pair.Checkbound x y p q = c.checkbound d at x y p q
    paired_has at (pair.Element w) x y p q = c.load d at w _ (element_has d at x y p q)

    tripled_has : (at : ℕ) (w : Triple) (x y z : Expression) → Holds x → Holds y → Holds z → Holds (tripled at w x y z)
    tripled_has at triple.If x y z p q r = c.branch d at x y z p q r
    tripled_has at (triple.SetElement w) x y z p q r = c.store d at w _ z (element_has d at x y p q) r

    raise_gives : (at : ℕ) → Gives k d (raise_form at) Out
    unfolding raise_form a_token
    raise_gives at = λ x p u. out _ (c.raised d at x p)

    pair_gives : (at : ℕ) (w : Pair) → Gives k d (pair_form at w) Out
    unfolding pair_form a_token
    pair_gives at w = λ x p y q u. out _ (paired_has at w x y p q)

    triple_gives : (at : ℕ) (w : Triple) → Gives k d (triple_form at w) Out
    unfolding triple_form a_token
    triple_gives at w = λ x p y q z r u. out _ (tripled_has at w x y z p q r)

    float_gives : (at word_at : ℕ) → Gives k d (float_form at word_at) Out
    unfolding float_form
    float_gives at word_at = operands_give _ (λ es parts. out _ (c.float d at word_at es parts))

    -- ---- control

    seq_gives : (at : ℕ) → Gives k d (seq_form at) Out
    unfolding seq_form
    seq_gives at = λ e p. operands_give _ (λ es parts. out _ (sequence_has d at e es p parts))

    while_gives : (at : ℕ) → Gives k d (while_form at) Out
    unfolding while_form
    while_gives at = λ x p. to_close_gives _ (λ y q. out _ (loop_has d at (turn at x y) (turn_has d at x y p q)))

    number_gives : (Q : Index → Type 0) → ((i : Index) → Q i) → Gives k d case_number Q
    unfolding case_number a_token
    number_gives Q q = λ i u. q _

    case_body_gives : (is : List Index) → Gives k d (case_body is) (PartHas k d ACase)
    unfolding case_body a_token
    case_body_gives is = λ e p. record { first = λ f g. g; second = λ es parts end. sequence_has d _ e es p parts }

    case_gives : Gives k d a_case (PartHas k d ACase)
    unfolding a_case another_number a_token
    case_gives = number_gives _ (λ i. record { first = λ u. number_gives _ (λ j. tt); second = λ is parts. case_body_gives (i ∷ is) })

    switch_gives : (at : ℕ) → Gives k d (switch_form at) Out
    unfolding switch_form a_token
    switch_gives at = λ size selector p u. record { first = case_gives; second = λ a others q parts. out _ (c.switch d at _ _ selector a others p q parts) }

    parameters_give : (Q : List Parameter → Type 0) → ((ps : List Parameter) → Q ps) → Gives k d parameters Q
    unfolding parameters a_parameter a_comp a_token
    parameters_give Q q = record { first = λ name colon comp. tt; second = λ ps parts u. q ps }

    label_rest_gives : (name : TokenTree) (Q : HeadPart → Type 0) → ((l : HeadPart) → Q l) → Gives k d (label_rest name) Q
    unfolding label_rest
    label_rest_gives name Q q = parameters_give _ (λ ps. q _)

    handler_rest_gives : (l : HeadPart) (Q : HandlerPart → Type 0) → ((x : HandlerPart) → Holds x.body → Q x) → Gives k d (handler_rest l) Q
    unfolding handler_rest a_token
    handler_rest_gives l Q q = λ e p. record { first = λ f g. g; second = λ es parts end. q _ (sequence_has d _ e es p parts) }

    next_handler_gives : Gives k d next_handler (PartHas k d AHandler)
    unfolding next_handler a_label a_token
    next_handler_gives = λ place name. label_rest_gives name.value _ (λ l. handler_rest_gives l _ (λ x p. p))

    more_handlers_give : (goes_on : Bool) (Q : List HandlerPart → Type 0) → ((hs : List HandlerPart) → PartsHave k d AHandler hs → Q hs) →
        Gives k d (more_handlers goes_on) Q
    unfolding more_handlers
    more_handlers_give true Q q = record { first = next_handler_gives; second = λ a others p parts. q (a ∷ others) (p, parts) }
    more_handlers_give false Q q = q [] tt

    catch_gives : (at : ℕ) → Gives k d (catch_form at) Out
    unfolding catch_form labelled_handlers bare_handler
    catch_gives at = to_with_gives _ (λ body p. record {
      first = λ name. label_rest_gives name _ (λ l. handler_rest_gives l _ (λ x q.
          more_handlers_give x.goes_on _ (λ hs parts. out _ (c.caught d at body x hs p q parts))));
      second = λ e q. operands_give _ (λ es parts. out _ (one_handler d at _ Bare body _ p (sequence_has d (place_of e) e es q parts)));
    })

    exit_gives : (at : ℕ) → Gives k d (exit_form at) Out
    unfolding exit_form exit_rest a_token
    exit_gives at = record { first = λ name. operands_give _ (λ es parts. out _ (c.exit d at _ _ es parts)); second = λ u. out _ (done d at Bare) }

    try_gives : (at : ℕ) → Gives k d (try_form at) Out
    unfolding try_form a_token
    try_gives at = to_with_gives _ (λ body p. λ name. to_close_gives _ (λ handler q. c.tried d at body _ _ handler p q))

  -- ---- by words: the name of an external call, and the items of static data

  module _ (symbol_given : (t : Given k AToken (passing is_symbol_token)) → k.name (string_bytes t.value.text))
      (datum_gives : (d : ℕ) (w : Given k (Both AToken ADataWord) data_word_of) → Gives k d (datum_of w.value.0 w.value.1) k.datum) where
    extcall_rest_gives : (d at : ℕ) (frame : Bool) → Gives k d (extcall_rest at frame) (Out d)
    unfolding extcall_rest a_token
    extcall_rest_gives d at frame = λ name. arguments_give d _ (λ es r row. out d _ (c.extcall d at frame _ es _ _ (symbol_given name) row))

    extcall_gives : (d at : ℕ) → Gives k d (extcall_form at) (Out d)
    unfolding extcall_form
    extcall_gives d at = record { first = λ mark. extcall_rest_gives d at true; second = extcall_rest_gives d at false }

    form_of_gives : (d at word_at : ℕ) (w : Head) → Gives k d (form_of at word_at w) (Out d)
    unfolding form_of
    form_of_gives d at word_at head.Let = let_gives d at a_binding (binding_gives d)
    form_of_gives d at word_at head.Letmut = let_gives d at a_mutable_binding (mutable_gives d)
    form_of_gives d at word_at head.Assign = assign_gives d at
    form_of_gives d at word_at head.App = app_gives d at
    form_of_gives d at word_at head.Extcall = extcall_gives d at
    form_of_gives d at word_at head.Alloc = alloc_gives d at
    form_of_gives d at word_at head.Load = load_gives d at
    form_of_gives d at word_at head.Store = store_gives d at
    form_of_gives d at word_at (head.Pair w) = pair_gives d at w
    form_of_gives d at word_at (head.Triple w) = triple_gives d at w
    form_of_gives d at word_at head.While = while_gives d at
    form_of_gives d at word_at head.Raise = raise_gives d at
    form_of_gives d at word_at head.Seq = seq_gives d at
    form_of_gives d at word_at head.Switch = switch_gives d at
    form_of_gives d at word_at head.Catch = catch_gives d at
    form_of_gives d at word_at head.Exit = exit_gives d at
    form_of_gives d at word_at head.Try = try_gives d at
    form_of_gives d at word_at head.Float = float_gives d at word_at

    form_gives : (d at : ℕ) → Gives k d (open_form at) (Out d)
    unfolding open_form
    form_gives d at = λ w. form_of_gives d at w.value.0.at w.value.1

    -- ---- items

    data_have : (d : ℕ) (items : List tree.DataItemTree) → PartsHave k d ADataItem items → DataHave k items
    data_have d [] p = tt
    data_have d (i ∷ items) p = (p.0, data_have d items p.1)

    data_items_give : (d at : ℕ) → Gives k d (data_items at) (ItemHas k d)
    unfolding data_items a_data_item a_token
    data_items_give d at = record { first = λ w. datum_gives d w; second = λ items parts u. data_have d items parts }

    function_gives : (d at : ℕ) → Gives k d (a_function at) (ItemHas k d)
    unfolding a_function a_token
    function_gives d at = λ name place. parameters_give d _ (λ ps. to_close_gives d _ (λ body p. (symbol_given name, p)))

    item_gives : (d : ℕ) → Gives k d an_item (ItemHas k d)
    unfolding an_item item_rest data_list
    item_gives d = λ at. record {
      first = λ word. function_gives d at;
      second = record { first = λ word. data_items_give d at; second = data_items_give d at };
    }

    pub item_has : (d : ℕ) (i : ItemPart) (xs : List TokenTree) → Spells AnItem d an_item i xs → AllKnown k.token xs → ItemHas k d i
    item_has d i xs h b = given k c.deeper leaf_has c.nothing form_gives AnItem d an_item i xs h b d (le_refl d) (ItemHas k d) (item_gives d)

-- what is known of an item of a file
abbrev pub ItemKnown : Facts → ℕ → ItemTree → Type 0
ItemKnown k d (tree.AFunction f) = k.name f.name × k.expression d f.body
ItemKnown k d (tree.AData l) = DataHave k l.items

item_known : (k : Facts) (d : ℕ) (i : ItemPart) (n : ℕ) → ItemHas k d i → ItemKnown k d (item_of n i)
item_known k d (FunctionItem f) n h = h
item_known k d (DataItem l) n h = h

-- What is known of the parts of a text is known of the items that its tokens spell.
pub items_known : (k : Facts) → IsClosed k → ((t : Given k AToken (passing is_symbol_token)) → k.name (string_bytes t.value.text)) →
    ((d : ℕ) (w : Given k (Both AToken ADataWord) data_word_of) → Gives k d (datum_of w.value.0 w.value.1) k.datum) →
    (d : ℕ) (items : List ItemTree) (tokens : List TokenTree) → AreItems d items tokens → AllKnown k.token tokens → AllByRecursion (ItemKnown k d) items
items_known k c named datum _ _ _ (none d) b = tt
items_known k c named datum _ _ _ (more d i items xs ys h g) b =
    (item_known k d i _ (item_has k c named datum d i xs h (front k.token xs ys b)), items_known k c named datum d items ys g (back k.token xs ys b))

-- and so of each function
pub functions_known : (k : Facts) (d : ℕ) (items : List ItemTree) → AllByRecursion (ItemKnown k d) items →
    All (λ (f : FunctionTree). k.name f.name × k.expression d f.body) (functions_among items)
functions_known k d [] p = All-nil (λ (f : FunctionTree). k.name f.name × k.expression d f.body)
functions_known k d (tree.AFunction g ∷ items) p =
    All-cons (λ (f : FunctionTree). k.name f.name × k.expression d f.body) g (functions_among items) p.0 (functions_known k d items p.1)
functions_known k d (tree.AData l ∷ items) p = functions_known k d items p.1

-- ---- where nothing is known of static data

module _ (k : Facts) (any : (d : tree.DatumTree) → k.datum d) (d : ℕ) where
  any_integer : (made : Option ℕ → tree.DatumTree) → Gives k d (a_data_integer made) k.datum
  unfolding a_data_integer a_token
  any_integer made = λ i. any _

  pub any_datum : (t : TokenTree) (w : DataWord) → Gives k d (datum_of t w) k.datum
  unfolding datum_of a_token
  any_datum t item.Define = λ u. any _
  any_datum t item.Byte = any_integer tree.Byte
  any_datum t item.Half = any_integer tree.Half
  any_datum t item.Int = any_integer tree.Int
  any_datum t item.Val = λ i. any _
  any_datum t item.Addr = λ u. any _
  any_datum t item.Skip = any_integer tree.Skip
  any_datum t item.Align = any_integer tree.Align
  any_datum t item.Text = λ u. any _
  any_datum t item.Global = λ u. any _
  any_datum t item.Float = λ u. any _
