-- Every item that tokens spell is covered by them: its integers are words, and its nodes, values and tries are few.
use Rattle.std.proofs.Common.{◌≡◌, ℕ, ◌+◌, ◌*◌, ◌^◌, ◌<◌, ◌≤◌, zero, suc, Bool, true, false, cond, List, [], ◌∷◌, length, Option, Some, None, All, lit<, refl, subst, arith}
use Rattle.std.proofs.Math.Nat.{mod-lt}
use Rattle.std.proofs.lemmas.List.Elements.{All-nil, All-cons}
use Rattle.bs_words.specs.declared.operators.IntOp.TheVariants as op
use Rattle.bs_words.specs.declared.types.Chunk.{Chunk}
use Rattle.bs_words.specs.declared.types.Chunk.TheVariants as chunk
use Rattle.bs_words.specs.Symbol.{is_symbol}
use Rattle.cmm_lex.specs.Token.{TokenTree}
use Rattle.cmm_lex.specs.Integers.{integer_value}
use Rattle.cmm_lex.specs.Strings.{string_bytes}
use Rattle.cmm_lex.specs.declared.token.TokenKind.{TokenKind}
use Rattle.cmm_lex.specs.declared.token.TokenKind.TheVariants as kind
use Rattle.cmm_lex.specs.declared.token.Keyword.TheVariants as word
use Rattle.cmm_tree.specs.Tree.{Expression, Integer, Pointer, Symbol, Name, Nothing, Float, Let, Assign, Operator, Load, Store, Alloc, App, Extcall, Checkbound, Raise, Seq, If, Switch, Catch, Exit, Try, Expressions, NoMore, Bare, Parameter, Index, DatumTree, DataItemTree, FunctionTree, ItemTree, functions_among, data_among}
use Rattle.cmm_tree.specs.Tree as tree
use Rattle.cmm_tree.specs.Measures.{nodes_in, all_tries, values_in, IndexesFit, IntegersFit, WordFits, DatumFits, ItemsFit, DataFits}
use Rattle.cmm_grammar.specs.declared.word.Head.{Head}
use Rattle.cmm_grammar.specs.declared.word.Head.TheVariants as head
use Rattle.cmm_grammar.specs.declared.word.Pair.{Pair}
use Rattle.cmm_grammar.specs.declared.word.Pair.TheVariants as pair
use Rattle.cmm_grammar.specs.declared.word.Triple.{Triple}
use Rattle.cmm_grammar.specs.declared.word.Triple.TheVariants as triple
use Rattle.cmm_grammar.specs.declared.word.ChunkWord.{ChunkWord}
use Rattle.cmm_grammar.specs.declared.word.ChunkWord.TheVariants as starts
use Rattle.cmm_grammar.specs.declared.word.DataWord.{DataWord}
use Rattle.cmm_grammar.specs.declared.word.DataWord.TheVariants as item
use Rattle.cmm_grammar.specs.Parts.{ResultPart, BindingPart, HandlerPart, HeadPart, ItemPart, FunctionItem, DataItem, item_of, expressions, sequence}
use Rattle.cmm_grammar.specs.Rewriting.{element_by, element, array_load, array_store, exit_to, turn_by, turn, while_loop}
use Rattle.cmm_grammar.specs.Words.{leaf_of, word_or_zero, is_symbol_token, is_integer, val_of}
use Rattle.cmm_grammar.specs.Rule.{AnExpression, ABinding, AnIndex, AHandler, AParameter, ADataItem, AnItem, Rule}
use Rattle.cmm_grammar.specs.Grammar.{a_token, a_comp, a_result, operands, sequence_to_close, sequence_to_with, a_binding, a_mutable_binding, bindings_to_close, let_body, let_form, assign_form, arguments_of, app_form, extcall_rest, extcall_form, alloc_form, load_expression, store_expression, load_rest, store_rest, chunk_rest, chunked, load_form, store_form, paired, tripled, raise_form, pair_form, triple_form, float_form, seq_form, while_form, case_number, another_number, case_body, a_case, switch_form, a_parameter, parameters, label_rest, handler_rest, a_label, next_handler, more_handlers, labelled_handlers, bare_handler, catch_form, exit_rest, exit_form, try_form, form_of, open_form, a_data_integer, datum_of, a_data_item, data_items, data_list, a_function, item_rest, an_item}
use Rattle.cmm_grammar.specs.Spelling.{Spells, AreItems, none, more}
use Rattle.cmm_grammar.specs.Covered.{IsCovered, IsMeasured}
use Rattle.cmm_grammar.proofs.Fitting.{integer_fits, word_fits_if}
use Rattle.cmm_grammar.proofs.Measured.{Measured, Holds, CaseHolds, ItemHolds, PartOf, PartsOf, no_parts, more_parts, RowMeasured, row_measured, bindings_measured, cases_measured, handlers_measured, measured_more, sequence_measured}
use Rattle.cmm_grammar.proofs.Paid.{Pays, paid}

same_measured : (e f : Expression) (n : ℕ) → e ≡ f → Measured e n → Measured f n
same_measured e f n same p = subst (λ (v : Expression). Measured v n) same p

-- ---- one token

leaf_kind : (at : ℕ) (k : TokenKind) (text : List ℕ) (e : Expression) → leaf_of (record { at = at; kind = k; text = text }) ≡ Some e → Measured e 1
leaf_kind at kind.Integer text e h =
    let same : Integer at (word_or_zero (integer_value text)) ≡ e = cc in
    same_measured _ e 1 same (record { fits = integer_fits text; nodes = omega arith; values = omega arith })
leaf_kind at kind.Pointer text e h =
    let same : Pointer at (word_or_zero (integer_value text)) ≡ e = cc in
    same_measured _ e 1 same (record { fits = integer_fits text; nodes = omega arith; values = omega arith })
leaf_kind at kind.Float text e h =
    let same : Float at at NoMore ≡ e = cc in
    same_measured _ e 1 same (record { fits = tt; nodes = omega arith; values = omega arith })
leaf_kind at kind.String text e h = go (is_symbol (string_bytes text)) h
  where
    go : (b : Bool) → cond b (Some (Symbol at (string_bytes text))) None ≡ Some e → Measured e 1
    go true h =
        let same : Symbol at (string_bytes text) ≡ e = cc in
        same_measured _ e 1 same (record { fits = tt; nodes = omega arith; values = omega arith })
    go false h = absurd (cc)
leaf_kind at kind.Name text e h =
    let same : Name at text ≡ e = cc in
    same_measured _ e 1 same (record { fits = tt; nodes = omega arith; values = omega arith })
leaf_kind at (kind.Keyword word.Exit) text e h =
    let same : Exit at at Bare NoMore ≡ e = cc in
    same_measured _ e 1 same (record { fits = tt; nodes = omega arith; values = omega arith })
leaf_kind at _ text e h = absurd (cc)

leaf_measured : (t : TokenTree) (e : Expression) → leaf_of t ≡ Some e → Measured e 1
leaf_measured t e h = leaf_kind t.at t.kind t.text e h

nothing_measured : (at : ℕ) → Measured (Nothing at) 2
nothing_measured at = record { fits = tt; nodes = omega arith; values = omega arith }

-- ---- expressions one after the other

operands_pay : (n : ℕ) (Q : List Expression → ℕ → Type 0)
    → ((es : List Expression) (m all : ℕ) → PartsOf AnExpression es m → all ≡ 1 + (m + n) → Q es all)
    → Pays operands n Q
unfolding operands a_token
operands_pay n Q q = record {
  first = λ e m p. measured_more e m (m + 0) (omega arith) p;
  second = λ es m parts t c e. q es m (1 + (m + n)) parts refl;
}

to_close_pay : (n : ℕ) (Q : Expression → ℕ → Type 0)
    → ((e : Expression) (m all : ℕ) → Measured e m → all ≡ 1 + (m + n) → Q e all)
    → Pays sequence_to_close n Q
unfolding sequence_to_close
to_close_pay n Q q =
    λ e m p. operands_pay (m + n) _ (λ es k all parts size. q (sequence e es) (m + k) all (sequence_measured _ e es m k p parts) (omega arith))

to_with_pay : (n : ℕ) (Q : Expression → ℕ → Type 0)
    → ((e : Expression) (m all : ℕ) → Measured e m → all ≡ 1 + (m + n) → Q e all)
    → Pays sequence_to_with n Q
unfolding sequence_to_with a_token
to_with_pay n Q q = λ e m p. record {
  first = λ f k g. measured_more f k (k + 0) (omega arith) g;
  second = λ es k parts t c h.
      q (sequence e es) (m + k) (1 + (k + (m + n))) (sequence_measured _ e es m k p parts) (omega arith);
}

-- ---- let, letmut and assign

-- what a rule of bindings gives
abbrev BindingsPay : Rule ABinding → Type 1
BindingsPay r =
    (n : ℕ) (Q : BindingPart → ℕ → Type 0)
    → ((b : BindingPart) (m all : ℕ) → Holds b.value 1 m → all ≡ m + n → Q b all)
    → Pays r n Q

binding_pays : BindingsPay a_binding
unfolding a_binding a_token
binding_pays n Q q =
    λ t name e v m p. q _ (m + 1) (m + (1 + n)) (record { own = m; measured = p; count = omega arith }) (omega arith)

mutable_pays : BindingsPay a_mutable_binding
unfolding a_mutable_binding a_token a_comp
mutable_pays n Q q =
    λ t name e u c f v m p. q _ (m + 2) (m + (1 + (1 + n))) (record { own = m; measured = p; count = omega arith }) (omega arith)

let_body_pays : (at : ℕ) (bs : List BindingPart) (m n : ℕ) → PartsOf ABinding bs m → 2 + m ≤ n → Pays (let_body at bs) n Measured
unfolding let_body
let_body_pays at bs m n parts h =
    to_close_pay n _ (λ e k all p size.
    let r = bindings_measured bs m parts in
    let a = p.nodes in
    let b = p.values in
    let c = r.nodes in
    let d = r.values in
    record { fits = (r.fits, p.fits); nodes = omega arith; values = omega arith })

let_pays : (at : ℕ) (r : Rule ABinding) (n : ℕ) → BindingsPay r → 2 ≤ n → Pays (let_form at r) n Measured
unfolding let_form bindings_to_close a_token
let_pays at r n pays h = record {
  first = λ place.
      pays (1 + n) _ (λ b m all p size. record {
        first = pays 0 (PartOf ABinding) (λ b m all p size. record { own = p.own; measured = p.measured; count = let k = p.count in omega arith });
        second = λ bs k parts t c e. let_body_pays at (b ∷ bs) (m + k) (1 + (k + all)) (more_parts b bs m k p parts) (omega arith);
      });
  second =
      pays n _ (λ b m all p size. let_body_pays at (b ∷ []) (m + 0) all (more_parts b [] m 0 p no_parts) (omega arith));
}

assign_pays : (at n : ℕ) → 2 ≤ n → Pays (assign_form at) n Measured
unfolding assign_form a_token
assign_pays at n h = λ t name e v m p u c f.
    let a = p.nodes in
    let b = p.values in
    record { fits = p.fits; nodes = omega arith; values = omega arith }

-- ---- calls

arguments_pay : (made : Expressions → ResultPart → Expression) (n : ℕ)
    → ((es : List Expression) (r : ResultPart) (m all : ℕ) → RowMeasured (expressions es) (length es) m → all ≡ 2 + (m + n) → Measured (made (expressions es) r) all)
    → Pays (arguments_of made) n Measured
unfolding arguments_of a_result a_token
arguments_pay made n q = record {
  first = λ e m p. measured_more e m (m + 0) (omega arith) p;
  second = λ es m parts t r e u c f. q es r m (1 + (1 + (m + n))) (row_measured es m parts) (omega arith);
}

app_pays : (at n : ℕ) → 2 ≤ n → Pays (app_form at) n Measured
unfolding app_form
app_pays at n h = λ f m p. arguments_pay _ (m + n) (λ es r k all row size.
    let a = p.nodes in
    let b = p.values in
    let c = row.nodes in
    let d = row.values in
    record { fits = (p.fits, row.fits); nodes = omega arith; values = omega arith })

extcall_rest_pays : (at : ℕ) (frame : Bool) (n : ℕ) → 2 ≤ n → Pays (extcall_rest at frame) n Measured
unfolding extcall_rest a_token
extcall_rest_pays at frame n h = λ t name e. arguments_pay _ (1 + n) (λ es r k all row size.
    let c = row.nodes in
    let d = row.values in
    record { fits = row.fits; nodes = omega arith; values = omega arith })

extcall_pays : (at n : ℕ) → 2 ≤ n → Pays (extcall_form at) n Measured
unfolding extcall_form
extcall_pays at n h = record {
  first = λ t mark e. extcall_rest_pays at true (1 + n) (omega arith);
  second = extcall_rest_pays at false n h;
}

-- ---- memory

alloc_pays : (at n : ℕ) → 2 ≤ n → Pays (alloc_form at) n Measured
unfolding alloc_form a_token
alloc_pays at n h = λ t header e. operands_pay (1 + n) _ (λ es k all parts size.
    let row = row_measured es k parts in
    let c = row.nodes in
    let d = row.values in
    record { fits = (integer_fits header.text, row.fits); nodes = omega arith; values = omega arith })

loaded_measured : (at : ℕ) (c : Option Chunk) (chunk_at : ℕ) (x : Expression) (m n : ℕ) → Measured x m → 3 + m ≤ n → Measured (load_expression at c chunk_at x) n
loaded_measured at None chunk_at x m n p h =
    let a = p.nodes in
    let b = p.values in
    record { fits = (p.fits, tt); nodes = omega arith; values = omega arith }
loaded_measured at (Some c) chunk_at x m n p h =
    let a = p.nodes in
    let b = p.values in
    record { fits = p.fits; nodes = omega arith; values = omega arith }

stored_measured : (at : ℕ) (c : Option Chunk) (chunk_at : ℕ) (x y : Expression) (m k n : ℕ) → Measured x m → Measured y k → 3 + (m + k) ≤ n
    → Measured (store_expression at c chunk_at x y) n
stored_measured at None chunk_at x y m k n p q h =
    let a = p.nodes in
    let b = p.values in
    let c = q.nodes in
    let d = q.values in
    record { fits = (p.fits, (q.fits, tt)); nodes = omega arith; values = omega arith }
stored_measured at (Some w) chunk_at x y m k n p q h =
    let a = p.nodes in
    let b = p.values in
    let c = q.nodes in
    let d = q.values in
    record { fits = (p.fits, q.fits); nodes = omega arith; values = omega arith }

load_rest_pays : (at : ℕ) (c : Option Chunk) (chunk_at n : ℕ) → 2 ≤ n → Pays (load_rest at c chunk_at) n Measured
unfolding load_rest a_token
load_rest_pays at c chunk_at n h = λ x m p t u e. loaded_measured at c chunk_at x m _ p (omega arith)

store_rest_pays : (at : ℕ) (c : Option Chunk) (chunk_at n : ℕ) → 2 ≤ n → Pays (store_rest at c chunk_at) n Measured
unfolding store_rest a_token
store_rest_pays at c chunk_at n h = λ x m p y k q t u e. stored_measured at c chunk_at x y m k _ p q (omega arith)

chunk_rest_pays : (w : ChunkWord) (k : Option Chunk → Rule AnExpression) (n : ℕ) → 2 ≤ n
    → ((c : Option Chunk) (m : ℕ) → 2 ≤ m → Pays (k c) m Measured) → Pays (chunk_rest w k) n Measured
unfolding chunk_rest
chunk_rest_pays (starts.Whole c) k n h pays = pays (Some c) n h
chunk_rest_pays starts.Unsigned k n h pays = λ t w e. pays _ (1 + n) (omega arith)
chunk_rest_pays starts.Signed k n h pays = λ t w e. pays _ (1 + n) (omega arith)
chunk_rest_pays starts.Float k n h pays = pays None n h

load_pays : (at n : ℕ) → 2 ≤ n → Pays (load_form at) n Measured
unfolding load_form chunked
load_pays at n h = record {
  first = λ t w e. chunk_rest_pays w.1 (λ c. load_rest at c w.0.at) (1 + n) (omega arith) (λ c m g. load_rest_pays at c w.0.at m g);
  second = load_rest_pays at (Some chunk.Val) 0 n h;
}

store_pays : (at n : ℕ) → 2 ≤ n → Pays (store_form at) n Measured
unfolding store_form chunked
store_pays at n h = record {
  first = λ t w e. chunk_rest_pays w.1 (λ c. store_rest at c w.0.at) (1 + n) (omega arith) (λ c m g. store_rest_pays at c w.0.at m g);
  second = store_rest_pays at (Some chunk.Val) 0 n h;
}

-- ---- elements of arrays

record ElementMeasured (x : Expression) (n : ℕ) : Type 0 where
  fits : IntegersFit x
  nodes : nodes_in x ≤ 3 * n + 1
  values : values_in x + 2 * all_tries x ≤ 2 * n + 1

known_element : (at : ℕ) (array : Expression) (i m k : ℕ) → Measured array m → 1 ≤ k → ElementMeasured (element_by at array i) (m + k)
known_element at array zero m k p h =
    let a = p.nodes in
    let b = p.values in
    record { fits = p.fits; nodes = omega arith; values = omega arith }
known_element at array (suc i) m k p h =
    let a = p.nodes in
    let b = p.values in
    record { fits = (p.fits, mod-lt (8 * suc i) (lit< tt)); nodes = omega arith; values = omega arith }

computed_element : (at : ℕ) (array index : Expression) (m k : ℕ) → Measured array m → Measured index k
    → ElementMeasured (Operator at op.AddA array (Operator at op.Shl index (Integer at 3))) (m + k)
computed_element at array index m k p q =
    let a = p.nodes in
    let b = p.values in
    let c = q.nodes in
    let d = q.values in
    record { fits = (p.fits, (q.fits, lit< tt)); nodes = omega arith; values = omega arith }

some_tokens : (e : Expression) (n : ℕ) → Measured e n → 1 ≤ n
some_tokens e n p = let a = p.nodes in omega arith

element_measured : (at : ℕ) (array index : Expression) (m k : ℕ) → Measured array m → Measured index k → ElementMeasured (element at array index) (m + k)
element_measured at array (Integer index_at i) m k p q = known_element at array i m k p (some_tokens _ k q)
element_measured at array (Pointer place word) m k p q = computed_element at array (Pointer place word) m k p q
element_measured at array (Symbol place name) m k p q = computed_element at array (Symbol place name) m k p q
element_measured at array (Name place name) m k p q = computed_element at array (Name place name) m k p q
element_measured at array (Nothing place) m k p q = computed_element at array (Nothing place) m k p q
element_measured at array (Float place word_at operands) m k p q = computed_element at array (Float place word_at operands) m k p q
element_measured at array (Let place bs body) m k p q = computed_element at array (Let place bs body) m k p q
element_measured at array (Assign place name_at name value) m k p q = computed_element at array (Assign place name_at name value) m k p q
element_measured at array (Operator place op left right) m k p q = computed_element at array (Operator place op left right) m k p q
element_measured at array (Load place width address) m k p q = computed_element at array (Load place width address) m k p q
element_measured at array (Store place width address value) m k p q = computed_element at array (Store place width address value) m k p q
element_measured at array (Alloc place header_at header operands) m k p q = computed_element at array (Alloc place header_at header operands) m k p q
element_measured at array (App place callee arguments result result_at) m k p q = computed_element at array (App place callee arguments result result_at) m k p q
element_measured at array (Extcall place frame name arguments result result_at) m k p q = computed_element at array (Extcall place frame name arguments result result_at) m k p q
element_measured at array (Checkbound place bound i) m k p q = computed_element at array (Checkbound place bound i) m k p q
element_measured at array (Raise place value) m k p q = computed_element at array (Raise place value) m k p q
element_measured at array (Seq place elements) m k p q = computed_element at array (Seq place elements) m k p q
element_measured at array (If place c x y) m k p q = computed_element at array (If place c x y) m k p q
element_measured at array (Switch place size_at size selector cs) m k p q = computed_element at array (Switch place size_at size selector cs) m k p q
element_measured at array (Catch place body hs) m k p q = computed_element at array (Catch place body hs) m k p q
element_measured at array (Exit place label_at label arguments) m k p q = computed_element at array (Exit place label_at label arguments) m k p q
element_measured at array (Try place body name_at name handler) m k p q = computed_element at array (Try place body name_at name handler) m k p q

array_load_measured : (at : ℕ) (c : Chunk) (array index : Expression) (m k n : ℕ) → Measured array m → Measured index k → 3 + (m + k) ≤ n
    → Measured (array_load at c array index) n
array_load_measured at c array index m k n p q h =
    let x = element_measured at array index m k p q in
    let a = x.nodes in
    let b = x.values in
    record { fits = x.fits; nodes = omega arith; values = omega arith }

array_store_measured : (at : ℕ) (c : Chunk) (array index value : Expression) (m k l n : ℕ) → Measured array m → Measured index k → Measured value l
    → 3 + (m + (k + l)) ≤ n → Measured (array_store at c array index value) n
array_store_measured at c array index value m k l n p q r h =
    let x = element_measured at array index m k p q in
    let a = x.nodes in
    let b = x.values in
    let y = r.nodes in
    let z = r.values in
    record { fits = (x.fits, r.fits); nodes = omega arith; values = omega arith }

-- ---- operators, and other forms of one, two or three operands

paired_measured : (at : ℕ) (w : Pair) (x y : Expression) (m k n : ℕ) → Measured x m → Measured y k → 3 + (m + k) ≤ n → Measured (paired at w x y) n
paired_measured at (pair.Operator o) x y m k n p q h =
    let a = p.nodes in
    let b = p.values in
    let c = q.nodes in
    let d = q.values in
    record { fits = (p.fits, q.fits); nodes = omega arith; values = omega arith }
paired_measured at pair.Checkbound x y m k n p q h =
    let a = p.nodes in
    let b = p.values in
    let c = q.nodes in
    let d = q.values in
    record { fits = (p.fits, q.fits); nodes = omega arith; values = omega arith }
paired_measured at (pair.Element c) x y m k n p q h = array_load_measured at c x y m k n p q h

tripled_measured : (at : ℕ) (w : Triple) (x y z : Expression) (m k l n : ℕ) → Measured x m → Measured y k → Measured z l → 3 + (m + (k + l)) ≤ n
    → Measured (tripled at w x y z) n
tripled_measured at triple.If x y z m k l n p q r h =
    let a = p.nodes in
    let b = p.values in
    let c = q.nodes in
    let d = q.values in
    let e = r.nodes in
    let f = r.values in
    record { fits = (p.fits, (q.fits, r.fits)); nodes = omega arith; values = omega arith }
tripled_measured at (triple.SetElement c) x y z m k l n p q r h = array_store_measured at c x y z m k l n p q r h

raise_pays : (at n : ℕ) → 2 ≤ n → Pays (raise_form at) n Measured
unfolding raise_form a_token
raise_pays at n h = λ x m p t u e.
    let a = p.nodes in
    let b = p.values in
    record { fits = p.fits; nodes = omega arith; values = omega arith }

pair_pays : (at : ℕ) (w : Pair) (n : ℕ) → 2 ≤ n → Pays (pair_form at w) n Measured
unfolding pair_form a_token
pair_pays at w n h = λ x m p y k q t u e. paired_measured at w x y m k _ p q (omega arith)

triple_pays : (at : ℕ) (w : Triple) (n : ℕ) → 2 ≤ n → Pays (triple_form at w) n Measured
unfolding triple_form a_token
triple_pays at w n h = λ x m p y k q z l r t u e. tripled_measured at w x y z m k l _ p q r (omega arith)

float_pays : (at word_at n : ℕ) → 2 ≤ n → Pays (float_form at word_at) n Measured
unfolding float_form
float_pays at word_at n h = operands_pay n _ (λ es k all parts size.
    let row = row_measured es k parts in
    let c = row.nodes in
    let d = row.values in
    record { fits = row.fits; nodes = omega arith; values = omega arith })

-- ---- control

seq_pays : (at n : ℕ) → 2 ≤ n → Pays (seq_form at) n Measured
unfolding seq_form
seq_pays at n h = λ e m p. operands_pay (m + n) _ (λ es k all parts size.
    measured_more _ (m + k) all (omega arith) (sequence_measured at e es m k p parts))

record TurnMeasured (e : Expression) (n : ℕ) : Type 0 where
  fits : IntegersFit e
  nodes : nodes_in e ≤ 3 * n
  values : values_in e + 2 * all_tries e ≤ 2 * n

if_measured : (at : ℕ) (x y : Expression) (m k : ℕ) → Measured x m → Measured y k → TurnMeasured (If at x y (exit_to at tree.Done)) (m + k)
if_measured at x y m k p q =
    let a = p.nodes in
    let b = p.values in
    let c = q.nodes in
    let d = q.values in
    record { fits = (p.fits, (q.fits, tt)); nodes = omega arith; values = omega arith }

known_turn : (at condition_at i word : ℕ) (y : Expression) (m k : ℕ) → Measured (Integer condition_at i) m → Measured y k
    → TurnMeasured (turn_by at (Integer condition_at i) y word) (m + k)
known_turn at condition_at i zero y m k p q = if_measured at (Integer condition_at i) y m k p q
known_turn at condition_at i (suc w) y m k p q =
    let c = q.nodes in
    let d = q.values in
    record { fits = q.fits; nodes = omega arith; values = omega arith }

turn_measured : (at : ℕ) (x y : Expression) (m k : ℕ) → Measured x m → Measured y k → TurnMeasured (turn at x y) (m + k)
turn_measured at (Integer condition_at i) y m k p q = known_turn at condition_at i i y m k p q
turn_measured at (Pointer place word) y m k p q = if_measured at (Pointer place word) y m k p q
turn_measured at (Symbol place name) y m k p q = if_measured at (Symbol place name) y m k p q
turn_measured at (Name place name) y m k p q = if_measured at (Name place name) y m k p q
turn_measured at (Nothing place) y m k p q = if_measured at (Nothing place) y m k p q
turn_measured at (Float place word_at operands) y m k p q = if_measured at (Float place word_at operands) y m k p q
turn_measured at (Let place bs body) y m k p q = if_measured at (Let place bs body) y m k p q
turn_measured at (Assign place name_at name value) y m k p q = if_measured at (Assign place name_at name value) y m k p q
turn_measured at (Operator place op left right) y m k p q = if_measured at (Operator place op left right) y m k p q
turn_measured at (Load place width address) y m k p q = if_measured at (Load place width address) y m k p q
turn_measured at (Store place width address value) y m k p q = if_measured at (Store place width address value) y m k p q
turn_measured at (Alloc place header_at header operands) y m k p q = if_measured at (Alloc place header_at header operands) y m k p q
turn_measured at (App place callee arguments result result_at) y m k p q = if_measured at (App place callee arguments result result_at) y m k p q
turn_measured at (Extcall place frame name arguments result result_at) y m k p q = if_measured at (Extcall place frame name arguments result result_at) y m k p q
turn_measured at (Checkbound place bound i) y m k p q = if_measured at (Checkbound place bound i) y m k p q
turn_measured at (Raise place value) y m k p q = if_measured at (Raise place value) y m k p q
turn_measured at (Seq place elements) y m k p q = if_measured at (Seq place elements) y m k p q
turn_measured at (If place c x body_) y m k p q = if_measured at (If place c x body_) y m k p q
turn_measured at (Switch place size_at size selector cs) y m k p q = if_measured at (Switch place size_at size selector cs) y m k p q
turn_measured at (Catch place body hs) y m k p q = if_measured at (Catch place body hs) y m k p q
turn_measured at (Exit place label_at label arguments) y m k p q = if_measured at (Exit place label_at label arguments) y m k p q
turn_measured at (Try place body name_at name handler) y m k p q = if_measured at (Try place body name_at name handler) y m k p q

while_measured : (at : ℕ) (x y : Expression) (m k n : ℕ) → Measured x m → Measured y k → 3 + (m + k) ≤ n → Measured (while_loop at x y) n
while_measured at x y m k n p q h =
    let t = turn_measured at x y m k p q in
    let a = t.nodes in
    let b = t.values in
    record { fits = ((tt, ((t.fits, (tt, tt)), tt)), (tt, tt)); nodes = omega arith; values = omega arith }

while_pays : (at n : ℕ) → 2 ≤ n → Pays (while_form at) n Measured
unfolding while_form
while_pays at n h = λ x m p. to_close_pay (m + n) _ (λ y k all q size. while_measured at x y m k all p q (omega arith))

number_pays : (n : ℕ) (Q : Index → ℕ → Type 0) → ((i : Index) → i.index < 2 ^ 64 → Q i (2 + n)) → Pays case_number n Q
unfolding case_number a_token
number_pays n Q q =
    λ t i e u c f.
    let Two_more : ℕ → Type 0 = Q (record { at = i.at; index = word_or_zero (integer_value i.text) }) in
    subst Two_more (omega arith) (q (record { at = i.at; index = word_or_zero (integer_value i.text) }) (integer_fits i.text))

indexes_fit : (is : List Index) (n : ℕ) → PartsOf AnIndex is n → IndexesFit is
indexes_fit _ _ no_parts = tt
indexes_fit _ _ (more_parts i others m n p ps) = (p, indexes_fit others n ps)

case_body_pays : (is : List Index) (n : ℕ) → IndexesFit is → Pays (case_body is) n CaseHolds
unfolding case_body a_token
case_body_pays is n fit = λ e m p. record {
  first = λ f k g. measured_more f k (k + 0) (omega arith) g;
  second = λ es k parts t end g. record {
    indexes = fit;
    body = record { own = m + k; measured = sequence_measured _ e es m k p parts; count = omega arith };
  };
}

case_pays : Pays a_case 0 CaseHolds
unfolding a_case another_number a_token
case_pays = number_pays 0 _ (λ i small. record {
  first = λ t c e. number_pays (1 + 0) (PartOf AnIndex) (λ j g. g);
  second = λ is m parts. case_body_pays (i ∷ is) _ (small, indexes_fit is m parts);
})

switch_pays : (at n : ℕ) → 2 ≤ n → Pays (switch_form at) n Measured
unfolding switch_form a_token
switch_pays at n h = λ t size e selector m p u c f. record {
  first = case_pays;
  second = λ cs k parts.
      let r = cases_measured cs k parts in
      let a = p.nodes in
      let b = p.values in
      let x = r.nodes in
      let y = r.values in
      record { fits = (integer_fits size.text, (p.fits, r.fits)); nodes = omega arith; values = omega arith };
}

threes : (ps : List Parameter) (n : ℕ) → PartsOf AParameter ps n → 3 * length ps ≤ n
threes _ _ no_parts = omega arith
threes _ _ (more_parts p ps m n h hs) = let rest = threes ps n hs in omega arith

parameters_pay : (n : ℕ) (Q : List Parameter → ℕ → Type 0)
    → ((ps : List Parameter) (all : ℕ) → 1 + (3 * length ps + n) ≤ all → Q ps all)
    → Pays parameters n Q
unfolding parameters a_parameter a_comp a_token
parameters_pay n Q q = record {
  first = λ t name e u colon f v c g. omega arith;
  second = λ ps m parts t c e. let few = threes ps m parts in q ps (1 + (m + n)) (omega arith);
}

label_rest_pays : (name : TokenTree) (n : ℕ) (Q : HeadPart → ℕ → Type 0)
    → ((l : HeadPart) (all : ℕ) → 1 + (3 * length l.params + n) ≤ all → Q l all)
    → Pays (label_rest name) n Q
unfolding label_rest
label_rest_pays name n Q q = parameters_pay n _ (λ ps all size. q _ all size)

handler_rest_pays : (l : HeadPart) (n : ℕ) (Q : HandlerPart → ℕ → Type 0)
    → ((x : HandlerPart) (m all : ℕ) → Measured x.body m → length x.params ≡ length l.params → m + n ≤ all → Q x all)
    → Pays (handler_rest l) n Q
unfolding handler_rest a_token
handler_rest_pays l n Q q = λ e m p. record {
  first = λ f k g. measured_more f k (k + 0) (omega arith) g;
  second = λ es k parts t end g. q _ (m + k) _ (sequence_measured _ e es m k p parts) refl (omega arith);
}

next_handler_pays : Pays next_handler 0 (PartOf AHandler)
unfolding next_handler a_label a_token
next_handler_pays = λ place t name e. label_rest_pays name _ _ (λ l all size.
    handler_rest_pays l all _ (λ x m whole p same room. record { own = m; measured = p; count = omega arith }))

more_handlers_pay : (goes_on : Bool) (n : ℕ) (Q : List HandlerPart → ℕ → Type 0)
    → ((hs : List HandlerPart) (m all : ℕ) → PartsOf AHandler hs m → all ≡ m + n → Q hs all)
    → Pays (more_handlers goes_on) n Q
unfolding more_handlers
more_handlers_pay true n Q q = record { first = next_handler_pays; second = λ hs m parts. q hs m (m + n) parts refl }
more_handlers_pay false n Q q = q [] 0 n no_parts (omega arith)

catch_pays : (at n : ℕ) → 2 ≤ n → Pays (catch_form at) n Measured
unfolding catch_form labelled_handlers bare_handler
catch_pays at n h = to_with_pay n _ (λ body m all p size. record {
  first = λ name. label_rest_pays name (2 + all) _ (λ l before few.
      handler_rest_pays l before _ (λ x k whole q same room.
      more_handlers_pay x.goes_on whole _ (λ hs j last parts sum.
      let one : Holds x.body (3 * length x.params) (k + 3 * length x.params) = record { own = k; measured = q; count = omega arith } in
      let r = handlers_measured (x ∷ hs) (k + 3 * length x.params + j) (more_parts x hs (k + 3 * length x.params) j one parts) in
      let a = p.nodes in
      let b = p.values in
      let c = r.nodes in
      let d = r.values in
      record { fits = (p.fits, r.fits); nodes = omega arith; values = omega arith })));
  second = λ e k q. operands_pay (k + all) _ (λ es j last parts sum.
      let r = sequence_measured _ e es k j q parts in
      let a = p.nodes in
      let b = p.values in
      let c = r.nodes in
      let d = r.values in
      record { fits = (p.fits, (r.fits, tt)); nodes = omega arith; values = omega arith });
})

exit_pays : (at n : ℕ) → 2 ≤ n → Pays (exit_form at) n Measured
unfolding exit_form exit_rest a_token
exit_pays at n h = record {
  first = λ t name e. operands_pay (1 + n) _ (λ es k all parts size.
      let row = row_measured es k parts in
      let c = row.nodes in
      let d = row.values in
      record { fits = row.fits; nodes = omega arith; values = omega arith });
  second = λ t c e. record { fits = tt; nodes = omega arith; values = omega arith };
}

try_pays : (at n : ℕ) → 2 ≤ n → Pays (try_form at) n Measured
unfolding try_form a_token
try_pays at n h = to_with_pay n _ (λ body m before p size. λ t name e.
    to_close_pay (1 + before) _ (λ handler k all q sum.
    let a = p.nodes in
    let b = p.values in
    let c = q.nodes in
    let d = q.values in
    record { fits = (p.fits, q.fits); nodes = omega arith; values = omega arith }))

form_of_pays : (at word_at : ℕ) (w : Head) (n : ℕ) → 2 ≤ n → Pays (form_of at word_at w) n Measured
unfolding form_of
form_of_pays at word_at head.Let n h = let_pays at a_binding n binding_pays h
form_of_pays at word_at head.Letmut n h = let_pays at a_mutable_binding n mutable_pays h
form_of_pays at word_at head.Assign n h = assign_pays at n h
form_of_pays at word_at head.App n h = app_pays at n h
form_of_pays at word_at head.Extcall n h = extcall_pays at n h
form_of_pays at word_at head.Alloc n h = alloc_pays at n h
form_of_pays at word_at head.Load n h = load_pays at n h
form_of_pays at word_at head.Store n h = store_pays at n h
form_of_pays at word_at (head.Pair w) n h = pair_pays at w n h
form_of_pays at word_at (head.Triple w) n h = triple_pays at w n h
form_of_pays at word_at head.While n h = while_pays at n h
form_of_pays at word_at head.Raise n h = raise_pays at n h
form_of_pays at word_at head.Seq n h = seq_pays at n h
form_of_pays at word_at head.Switch n h = switch_pays at n h
form_of_pays at word_at head.Catch n h = catch_pays at n h
form_of_pays at word_at head.Exit n h = exit_pays at n h
form_of_pays at word_at head.Try n h = try_pays at n h
form_of_pays at word_at head.Float n h = float_pays at word_at n h

form_pays : (at : ℕ) → Pays (open_form at) 1 Measured
unfolding open_form
form_pays at = λ t w e. form_of_pays at w.0.at w.1 (1 + 1) (omega arith)

-- ---- static data

integer_pays : (made : Option ℕ → DatumTree) (n : ℕ) → ((o : Option ℕ) → WordFits o → DatumFits (made o)) → Pays (a_data_integer made) n (λ d m. DatumFits d)
unfolding a_data_integer a_token
integer_pays made n h = λ t i e. h (integer_value i.text) (word_fits_if i.text)

val_fits : (t : TokenTree) (d : DatumTree) → val_of t ≡ Some d → DatumFits d
val_fits t d h = go (is_symbol_token t) (is_integer t) h
  where
    go : (b c : Bool) → cond b (Some (tree.Address true t.at (string_bytes t.text))) (cond c (Some (tree.Val (integer_value t.text))) None) ≡ Some d → DatumFits d
    go true c h = let same : tree.Address true t.at (string_bytes t.text) ≡ d = cc in subst DatumFits same tt
    go false true h = let same : tree.Val (integer_value t.text) ≡ d = cc in subst DatumFits same (word_fits_if t.text)
    go false false h = absurd (cc)

datum_pays : (t : TokenTree) (w : DataWord) (n : ℕ) → Pays (datum_of t w) n (λ d m. DatumFits d)
unfolding datum_of a_token
datum_pays t item.Define n = λ u c e. tt
datum_pays t item.Byte n = integer_pays tree.Byte n (λ o h. h)
datum_pays t item.Half n = integer_pays tree.Half n (λ o h. h)
datum_pays t item.Int n = integer_pays tree.Int n (λ o h. h)
datum_pays t item.Val n = λ u d e. val_fits u d e
datum_pays t item.Addr n = λ u c e. tt
datum_pays t item.Skip n = integer_pays tree.Skip n (λ o h. h)
datum_pays t item.Align n = integer_pays tree.Align n (λ o h. h)
datum_pays t item.Text n = λ u c e. tt
datum_pays t item.Global n = λ u c e. tt
datum_pays t item.Float n = λ u c e. tt

data_fits : (ds : List DataItemTree) (n : ℕ) → PartsOf ADataItem ds n → ItemsFit ds
data_fits _ _ no_parts = tt
data_fits _ _ (more_parts d others m n p ps) = (p, data_fits others n ps)

data_items_pay : (at n : ℕ) → Pays (data_items at) n ItemHolds
unfolding data_items a_data_item a_token
data_items_pay at n = record {
  first = λ t w e. datum_pays w.0 w.1 _;
  second = λ ds m parts t c e. data_fits ds m parts;
}

-- ---- items

function_pays : (at n : ℕ) → 2 ≤ n → Pays (a_function at) n ItemHolds
unfolding a_function a_token
function_pays at n h = λ t name e place. parameters_pay _ _ (λ ps before few.
    to_close_pay before _ (λ body m all p size. record { own = m; measured = p; count = omega arith }))

item_pays : Pays an_item 0 ItemHolds
unfolding an_item item_rest data_list
item_pays = λ at. record {
  first = λ t word e. function_pays at (1 + (1 + 0)) (omega arith);
  second = record { first = λ t word e. data_items_pay at _; second = data_items_pay at _ };
}

item_holds : (d : ℕ) (i : ItemPart) (xs : List TokenTree) → Spells AnItem d an_item i xs → ItemHolds i (length xs + 0)
item_holds d i xs h = paid leaf_measured nothing_measured form_pays AnItem d an_item i xs h 0 ItemHolds item_pays

-- ---- files

record ItemsMeasured (items : List ItemTree) : Type 0 where
  covered : All IsCovered (functions_among items)
  each_list : All DataFits (data_among items)

item_then : (i : ItemPart) (items : List ItemTree) (n : ℕ) → ItemHolds i (n + 0) → ItemsMeasured items → ItemsMeasured (item_of n i ∷ items)
item_then (FunctionItem f) items n h g =
    let one : FunctionTree = record { at = f.at; name_at = f.name_at; name = f.name; params = f.params; body = f.body; tokens = n } in
    let a = h.measured.nodes in
    let b = h.measured.values in
    let k = h.count in
    let covered : IsCovered one = record { integers_fit = h.measured.fits; nodes_covered = omega arith; tokens_cover = omega arith } in
    record { covered = All-cons IsCovered one (functions_among items) covered g.covered; each_list = g.each_list }
item_then (DataItem d) items n h g = record { covered = g.covered; each_list = All-cons DataFits d (data_among items) h g.each_list }

items_measured : (d : ℕ) (items : List ItemTree) (tokens : List TokenTree) → AreItems d items tokens → ItemsMeasured items
items_measured _ _ _ (none d) = record { covered = All-nil IsCovered; each_list = All-nil DataFits }
items_measured _ _ _ (more d i items xs ys h g) = item_then i items (length xs) (item_holds d i xs h) (items_measured d items ys g)

-- what is known of a file whose items are spelled by tokens
pub file_measured : (d : ℕ) (items : List ItemTree) (tokens : List TokenTree) → AreItems d items tokens → IsMeasured (record { items = items })
file_measured d items tokens h =
    let m = items_measured d items tokens h in
    record { functions_covered = m.covered; data_fits = m.each_list }
