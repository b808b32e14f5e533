-- As many bytes as external calls and symbols have a text that spells them has at least.
use Rattle.std.proofs.Common.{◌≡◌, ℕ, zero, suc, ◌+◌, ◌≤◌, Bool, true, false, cond, List, [], ◌∷◌, length, Option, Some, None, refl, ap, subst, arith}
use Rattle.bs_words.specs.Symbol.{is_symbol}
use Rattle.bs_words.specs.declared.types.Chunk.{Chunk}
use Rattle.bs_words.specs.declared.types.Chunk.TheVariants as chunk
use Rattle.cmm_lex.specs.Token.{TokenTree}
use Rattle.cmm_lex.specs.Integers.{integer_value}
use Rattle.cmm_lex.specs.Strings.{string_bytes}
use Rattle.cmm_lex.specs.declared.token.TokenKind.{TokenKind}
use Rattle.cmm_lex.specs.declared.token.TokenKind.TheVariants as kind
use Rattle.cmm_lex.specs.declared.token.Keyword.TheVariants as word
use Rattle.cmm_tree.specs.Tree.{Expression, Integer, Pointer, Symbol, Name, Float, Exit, Expressions, NoMore, Bare, Index, Parameter, ItemTree}
use Rattle.cmm_grammar.specs.declared.word.Head.{Head}
use Rattle.cmm_grammar.specs.declared.word.Head.TheVariants as head
use Rattle.cmm_grammar.specs.declared.word.Pair.{Pair}
use Rattle.cmm_grammar.specs.declared.word.Pair.TheVariants as pair
use Rattle.cmm_grammar.specs.declared.word.Triple.{Triple}
use Rattle.cmm_grammar.specs.declared.word.Triple.TheVariants as triple
use Rattle.cmm_grammar.specs.declared.word.ChunkWord.{ChunkWord}
use Rattle.cmm_grammar.specs.declared.word.ChunkWord.TheVariants as starts
use Rattle.cmm_grammar.specs.declared.word.DataWord.{DataWord}
use Rattle.cmm_grammar.specs.declared.word.DataWord.TheVariants as item
use Rattle.cmm_grammar.specs.Parts.{ResultPart, BindingPart, CasePart, HandlerPart, HeadPart, ItemPart, FunctionItem, DataItem, item_of, expressions, bindings, cases, handlers, sequence_at, sequence}
use Rattle.cmm_grammar.specs.Rewriting.{element_by, element, turn_by, turn, while_loop}
use Rattle.cmm_grammar.specs.Words.{leaf_of, word_or_zero}
use Rattle.cmm_grammar.specs.Grammar.{a_token, a_comp, a_result, operands, sequence_to_close, sequence_to_with, a_binding, a_mutable_binding, bindings_to_close, let_body, let_form, assign_form, arguments_of, app_form, extcall_rest, extcall_form, alloc_form, load_expression, store_expression, load_rest, store_rest, chunk_rest, chunked, load_form, store_form, paired, tripled, raise_form, pair_form, triple_form, float_form, seq_form, while_form, case_number, another_number, case_body, a_case, switch_form, a_parameter, parameters, label_rest, handler_rest, a_label, next_handler, more_handlers, labelled_handlers, bare_handler, catch_form, exit_rest, exit_form, try_form, form_of, open_form, a_data_integer, datum_of, a_data_item, data_items, data_list, a_function, item_rest, an_item}
use Rattle.cmm_tree.specs.Measures.{total, row_total, bindings_total, cases_total, handlers_total}
use Rattle.cmm_tree.specs.Tree.{DatumTree, Byte, Half, Int, Val, Address, Skip, Align, DataItemTree}
use Rattle.cmm_types.specs.Faults.{row_length}
use Rattle.cmm_grammar.specs.Rule.{AnExpression, ABinding, AnIndex, ACase, AHandler, ADataItem, AnItem, Rule}
use Rattle.cmm_grammar.specs.Words.{passing, is_symbol_token, is_integer, val_of, data_keyword, data_word_of}
use Rattle.cmm_tree.specs.Place.{place_of}
use Rattle.std.specs.Prelude.{option_map}
use Rattle.cmm_grammar.specs.Spelling.{Spells, AreItems, none, more}
use Rattle.text_sizes.specs.Measures.{call_bytes, datum_bytes, list_bytes, item_bytes, items_bytes}
use Rattle.text_sizes.proofs.Bytes.{weight, weight_some, weight_text, weights, weights_append, string_short}
use Rattle.text_sizes.proofs.Taken.{Weighed, ItemTakes, PartOf, PartsOf, no_parts, more_parts, Takes, UpTo, taken}

-- ---- one token

same_weighed : (e f : Expression) → e ≡ f → total call_bytes e ≡ 0 → Weighed f 1
same_weighed e f same h = subst (λ (v : Expression). Weighed v 1) same (record { calls = omega (arith, h) })

leaf_kind : (at : ℕ) (k : TokenKind) (text : List ℕ) (e : Expression) → leaf_of (record { at = at; kind = k; text = text }) ≡ Some e → Weighed e 1
leaf_kind at kind.Integer text e h = same_weighed (Integer at (word_or_zero (integer_value text))) e (cc) refl
leaf_kind at kind.Pointer text e h = same_weighed (Pointer at (word_or_zero (integer_value text))) e (cc) refl
leaf_kind at kind.Float text e h = same_weighed (Float at at NoMore) e (cc) refl
leaf_kind at kind.String text e h = go (is_symbol (string_bytes text)) h
  where
    go : (b : Bool) → cond b (Some (Symbol at (string_bytes text))) None ≡ Some e → Weighed e 1
    go true h = same_weighed (Symbol at (string_bytes text)) e (cc) refl
    go false h = absurd (cc)
leaf_kind at kind.Name text e h = same_weighed (Name at text) e (cc) refl
leaf_kind at (kind.Keyword word.Exit) text e h = same_weighed (Exit at at Bare NoMore) e (cc) refl
leaf_kind at _ text e h = absurd (cc)

leaf_weighed : (t : TokenTree) (e : Expression) → leaf_of t ≡ Some e → Weighed e 1
leaf_weighed t e h = leaf_kind t.at t.kind t.text e h

-- a token that passes is the one that is given
passed : (test : TokenTree → Bool) (t a : TokenTree) → passing test t ≡ Some a → t ≡ a
passed test t a e = by (test t) e
  where
    by : (q : Bool) → cond q (Some t) None ≡ Some a → t ≡ a
    by true e = cc
    by false e = absurd (cc)

-- the bytes that a string stands for are no more than those of its token
named_short : (test : TokenTree → Bool) (t a : TokenTree) → passing test t ≡ Some a → length (string_bytes a.text) ≤ weight t
named_short test t a e =
    let short = string_short t.text in
    let text = weight_text t in
    subst (λ (a : TokenTree). length (string_bytes a.text) ≤ weight t) (passed test t a e) (omega (arith, short, text))

-- ---- rows

weighed_more : (e : Expression) (m n : ℕ) → m ≤ n → Weighed e m → Weighed e n
weighed_more e m n h p = let a = p.calls in record { calls = omega (arith, a, h) }

row_weighed : (es : List Expression) (n : ℕ) → PartsOf AnExpression es n → row_total call_bytes (expressions es) + row_length (expressions es) ≤ n
row_weighed _ _ no_parts = omega arith
row_weighed _ _ (more_parts e es m n p ps) = let a = p.calls in let r = row_weighed es n ps in omega (arith, a, r)

bindings_weighed : (bs : List BindingPart) (n : ℕ) → PartsOf ABinding bs n → bindings_total call_bytes (bindings bs) ≤ n
bindings_weighed _ _ no_parts = omega arith
bindings_weighed _ _ (more_parts b bs m n p ps) = let a = p.calls in let r = bindings_weighed bs n ps in omega (arith, a, r)

cases_weighed : (cs : List CasePart) (n : ℕ) → PartsOf ACase cs n → cases_total call_bytes (cases cs) ≤ n
cases_weighed _ _ no_parts = omega arith
cases_weighed _ _ (more_parts c cs m n p ps) = let a = p.calls in let r = cases_weighed cs n ps in omega (arith, a, r)

handlers_weighed : (hs : List HandlerPart) (n : ℕ) → PartsOf AHandler hs n → handlers_total call_bytes (handlers hs) ≤ n
handlers_weighed _ _ no_parts = omega arith
handlers_weighed _ _ (more_parts h hs m n p ps) = let a = p.calls in let r = handlers_weighed hs n ps in omega (arith, a, r)

sequence_weighed : (at : ℕ) (e : Expression) (es : List Expression) (m n : ℕ) → Weighed e m → PartsOf AnExpression es n → Weighed (sequence_at at e es) (m + n)
sequence_weighed at e [] m n p ps = weighed_more e m (m + n) (omega arith) p
sequence_weighed at e (f ∷ es) m n p ps = let a = p.calls in let r = row_weighed (f ∷ es) n ps in record { calls = omega (arith, a, r) }

part_more : (e : Expression) (m : ℕ) → Weighed e m → Weighed e (m + 0)
part_more e m p = weighed_more e m (m + 0) (omega arith) p

operands_take : (n : ℕ) (Q : List Expression → ℕ → Type 0)
    → ((es : List Expression) (m all : ℕ) → PartsOf AnExpression es m → m + n ≤ all → Q es all)
    → Takes operands n Q
unfolding operands a_token
operands_take n Q q = record { first = part_more; second = λ es m parts t c e. q es m (weight t + (m + n)) parts (omega arith) }

to_close_take : (n : ℕ) (Q : Expression → ℕ → Type 0)
    → ((e : Expression) (m all : ℕ) → Weighed e m → m + n ≤ all → Q e all)
    → Takes sequence_to_close n Q
unfolding sequence_to_close
to_close_take n Q q =
    λ e m p. operands_take (m + n) _ (λ es k all parts size. q (sequence e es) (m + k) all (sequence_weighed _ e es m k p parts) (omega (arith, size)))

to_with_take : (n : ℕ) (Q : Expression → ℕ → Type 0)
    → ((e : Expression) (m all : ℕ) → Weighed e m → m + n ≤ all → Q e all)
    → Takes sequence_to_with n Q
unfolding sequence_to_with a_token
to_with_take n Q q = λ e m p. record {
  first = part_more;
  second = λ es k parts t c h. q (sequence e es) (m + k) (weight t + (k + (m + n))) (sequence_weighed _ e es m k p parts) (omega arith);
}

-- ---- let, letmut and assign

abbrev BindingsTake : Rule ABinding → Type 1
BindingsTake r =
    (n : ℕ) (Q : BindingPart → ℕ → Type 0)
    → ((b : BindingPart) (m all : ℕ) → Weighed b.value m → m + n ≤ all → Q b all)
    → Takes r n Q

binding_takes : BindingsTake a_binding
unfolding a_binding a_token
binding_takes n Q q = λ t name e v m p. q _ m (m + (weight t + n)) p (omega arith)

mutable_takes : BindingsTake a_mutable_binding
unfolding a_mutable_binding a_token a_comp
mutable_takes n Q q = λ t name e u c f v m p. q _ m (m + (weight u + (weight t + n))) p (omega arith)

let_body_takes : (at : ℕ) (bs : List BindingPart) (m n : ℕ) → PartsOf ABinding bs m → m ≤ n → Takes (let_body at bs) n Weighed
unfolding let_body
let_body_takes at bs m n parts h =
    to_close_take n _ (λ e k all p size.
    let r = bindings_weighed bs m parts in
    let a = p.calls in
    record { calls = omega (arith, r, a, size, h) })

let_takes : (at : ℕ) (r : Rule ABinding) (n : ℕ) → BindingsTake r → Takes (let_form at r) n Weighed
unfolding let_form bindings_to_close a_token
let_takes at r n takes = record {
  first = λ place.
      takes (1 + n) _ (λ b m all p size. record {
        first = takes 0 (PartOf ABinding) (λ b m all p size. weighed_more b.value m all (omega (arith, size)) p);
        second = λ bs k parts t c e. let_body_takes at (b ∷ bs) (m + k) (weight t + (k + all)) (more_parts b bs m k p parts) (omega (arith, size));
      });
  second =
      takes n _ (λ b m all p size. let_body_takes at (b ∷ []) (m + 0) all (more_parts b [] m 0 p no_parts) (omega (arith, size)));
}

assign_takes : (at n : ℕ) → Takes (assign_form at) n Weighed
unfolding assign_form a_token
assign_takes at n = λ t name e v m p u c f. let a = p.calls in record { calls = omega (arith, a) }

-- ---- calls

arguments_take : (made : Expressions → ResultPart → Expression) (n : ℕ)
    → ((es : List Expression) (r : ResultPart) (m all : ℕ) → row_total call_bytes (expressions es) + row_length (expressions es) ≤ m → 2 + (m + n) ≤ all →
    Weighed (made (expressions es) r) all)
    → Takes (arguments_of made) n Weighed
unfolding arguments_of a_result a_token
arguments_take made n q = record {
  first = part_more;
  second = λ es m parts t r e u c f.
      let some = weight_some t in
      let other = weight_some u in
      q es r m (weight u + (weight t + (m + n))) (row_weighed es m parts) (omega (arith, some, other));
}

app_takes : (at n : ℕ) → Takes (app_form at) n Weighed
unfolding app_form
app_takes at n = λ f m p. arguments_take _ (m + n) (λ es r k all row size. let a = p.calls in record { calls = omega (arith, a, row, size) })

extcall_rest_takes : (at : ℕ) (frame : Bool) (n : ℕ) → 2 ≤ n → Takes (extcall_rest at frame) n Weighed
unfolding extcall_rest a_token
extcall_rest_takes at frame n h = λ t name e.
    let short = named_short is_symbol_token t name e in
    arguments_take _ (weight t + n) (λ es r k all row size. record { calls = omega (arith, short, row, size, h) })

extcall_takes : (at n : ℕ) → 2 ≤ n → Takes (extcall_form at) n Weighed
unfolding extcall_form
extcall_takes at n h = record {
  first = λ t mark e. extcall_rest_takes at true (weight t + n) (omega (arith, h));
  second = extcall_rest_takes at false n h;
}

-- ---- memory

alloc_takes : (at n : ℕ) → 2 ≤ n → Takes (alloc_form at) n Weighed
unfolding alloc_form a_token
alloc_takes at n h = λ t header e. operands_take (weight t + n) _ (λ es k all parts size. let row = row_weighed es k parts in record { calls = omega (arith, row, size, h) })

loaded_weighed : (at : ℕ) (c : Option Chunk) (chunk_at : ℕ) (x : Expression) (m n : ℕ) → Weighed x m → m ≤ n → Weighed (load_expression at c chunk_at x) n
loaded_weighed at None chunk_at x m n p h = let a = p.calls in record { calls = omega (arith, a, h) }
loaded_weighed at (Some c) chunk_at x m n p h = let a = p.calls in record { calls = omega (arith, a, h) }

stored_weighed : (at : ℕ) (c : Option Chunk) (chunk_at : ℕ) (x y : Expression) (m k n : ℕ) → Weighed x m → Weighed y k → m + k ≤ n →
    Weighed (store_expression at c chunk_at x y) n
stored_weighed at None chunk_at x y m k n p q h = let a = p.calls in let b = q.calls in record { calls = omega (arith, a, b, h) }
stored_weighed at (Some w) chunk_at x y m k n p q h = let a = p.calls in let b = q.calls in record { calls = omega (arith, a, b, h) }

load_rest_takes : (at : ℕ) (c : Option Chunk) (chunk_at n : ℕ) → Takes (load_rest at c chunk_at) n Weighed
unfolding load_rest a_token
load_rest_takes at c chunk_at n = λ x m p t u e. loaded_weighed at c chunk_at x m _ p (omega arith)

store_rest_takes : (at : ℕ) (c : Option Chunk) (chunk_at n : ℕ) → Takes (store_rest at c chunk_at) n Weighed
unfolding store_rest a_token
store_rest_takes at c chunk_at n = λ x m p y k q t u e. stored_weighed at c chunk_at x y m k _ p q (omega arith)

chunk_rest_takes : (w : ChunkWord) (k : Option Chunk → Rule AnExpression) (n : ℕ) → ((c : Option Chunk) (m : ℕ) → Takes (k c) m Weighed) →
    Takes (chunk_rest w k) n Weighed
unfolding chunk_rest
chunk_rest_takes (starts.Whole c) k n takes = takes (Some c) n
chunk_rest_takes starts.Unsigned k n takes = λ t w e. takes _ (weight t + n)
chunk_rest_takes starts.Signed k n takes = λ t w e. takes _ (weight t + n)
chunk_rest_takes starts.Float k n takes = takes None n

load_takes : (at n : ℕ) → Takes (load_form at) n Weighed
unfolding load_form chunked
load_takes at n = record {
  first = λ t w e. chunk_rest_takes w.1 (λ c. load_rest at c w.0.at) (weight t + n) (λ c m. load_rest_takes at c w.0.at m);
  second = load_rest_takes at (Some chunk.Val) 0 n;
}

store_takes : (at n : ℕ) → Takes (store_form at) n Weighed
unfolding store_form chunked
store_takes at n = record {
  first = λ t w e. chunk_rest_takes w.1 (λ c. store_rest at c w.0.at) (weight t + n) (λ c m. store_rest_takes at c w.0.at m);
  second = store_rest_takes at (Some chunk.Val) 0 n;
}

-- ---- elements of arrays

known_element : (at : ℕ) (array : Expression) (i : ℕ) → total call_bytes (element_by at array i) ≡ total call_bytes array
known_element at array zero = refl
known_element at array (suc i) = omega arith

element_few : (at : ℕ) (array index : Expression) → total call_bytes (element at array index) ≤ total call_bytes array + total call_bytes index
element_few at array (Integer index_at i) = let same = known_element at array i in omega (arith, same)
element_few at array index = omega arith

-- ---- operators, and other forms of one, two or three operands

paired_weighed : (at : ℕ) (w : Pair) (x y : Expression) (m k n : ℕ) → Weighed x m → Weighed y k → m + k ≤ n → Weighed (paired at w x y) n
paired_weighed at (pair.Operator o) x y m k n p q h = let a = p.calls in let b = q.calls in record { calls = omega (arith, a, b, h) }
paired_weighed at pair.Checkbound x y m k n p q h = let a = p.calls in let b = q.calls in record { calls = omega (arith, a, b, h) }
paired_weighed at (pair.Element c) x y m k n p q h =
    let a = p.calls in let b = q.calls in let both = element_few at x y in record { calls = omega (arith, a, b, both, h) }

tripled_weighed : (at : ℕ) (w : Triple) (x y z : Expression) (m k l n : ℕ) → Weighed x m → Weighed y k → Weighed z l → m + (k + l) ≤ n →
    Weighed (tripled at w x y z) n
tripled_weighed at triple.If x y z m k l n p q r h =
    let a = p.calls in let b = q.calls in let c = r.calls in record { calls = omega (arith, a, b, c, h) }
tripled_weighed at (triple.SetElement w) x y z m k l n p q r h =
    let a = p.calls in let b = q.calls in let c = r.calls in let both = element_few at x y in record { calls = omega (arith, a, b, c, both, h) }

raise_takes : (at n : ℕ) → Takes (raise_form at) n Weighed
unfolding raise_form a_token
raise_takes at n = λ x m p t u e. let a = p.calls in record { calls = omega (arith, a) }

pair_takes : (at : ℕ) (w : Pair) (n : ℕ) → Takes (pair_form at w) n Weighed
unfolding pair_form a_token
pair_takes at w n = λ x m p y k q t u e. paired_weighed at w x y m k _ p q (omega arith)

triple_takes : (at : ℕ) (w : Triple) (n : ℕ) → Takes (triple_form at w) n Weighed
unfolding triple_form a_token
triple_takes at w n = λ x m p y k q z l r t u e. tripled_weighed at w x y z m k l _ p q r (omega arith)

float_takes : (at word_at n : ℕ) → 2 ≤ n → Takes (float_form at word_at) n Weighed
unfolding float_form
float_takes at word_at n h = operands_take n _ (λ es k all parts size. let row = row_weighed es k parts in record { calls = omega (arith, row, size, h) })

-- ---- control

seq_takes : (at n : ℕ) → Takes (seq_form at) n Weighed
unfolding seq_form
seq_takes at n = λ e m p. operands_take (m + n) _ (λ es k all parts size.
    weighed_more _ (m + k) all (omega (arith, size)) (sequence_weighed at e es m k p parts))

known_turn : (at condition_at i n : ℕ) (y : Expression) → total call_bytes (turn_by at (Integer condition_at i) y n) ≡ total call_bytes y
known_turn at condition_at i zero y = omega arith
known_turn at condition_at i (suc n) y = refl

turn_few : (at : ℕ) (x y : Expression) → total call_bytes (turn at x y) ≤ total call_bytes x + total call_bytes y
turn_few at (Integer condition_at i) y = let same = known_turn at condition_at i i y in omega (arith, same)
turn_few at x y = omega arith

while_weighed : (at : ℕ) (x y : Expression) (m k n : ℕ) → Weighed x m → Weighed y k → m + k ≤ n → Weighed (while_loop at x y) n
while_weighed at x y m k n p q h = let a = p.calls in let b = q.calls in let both = turn_few at x y in record { calls = omega (arith, a, b, both, h) }

while_takes : (at n : ℕ) → Takes (while_form at) n Weighed
unfolding while_form
while_takes at n = λ x m p. to_close_take (m + n) _ (λ y k all q size. while_weighed at x y m k all p q (omega (arith, size)))

number_takes : (n : ℕ) (Q : Index → ℕ → Type 0) → ((i : Index) (all : ℕ) → n ≤ all → Q i all) → Takes case_number n Q
unfolding case_number a_token
number_takes n Q q = λ t i e u c f. q _ (weight u + (weight t + n)) (omega arith)

case_body_takes : (is : List Index) (n : ℕ) → Takes (case_body is) n (PartOf ACase)
unfolding case_body a_token
case_body_takes is n = λ e m p. record {
  first = part_more;
  second = λ es k parts t end g. weighed_more _ (m + k) _ (omega arith) (sequence_weighed _ e es m k p parts);
}

case_takes : Takes a_case 0 (PartOf ACase)
unfolding a_case another_number a_token
case_takes = number_takes 0 _ (λ i all le. record {
  first = λ t c e. number_takes (weight t + 0) (PartOf AnIndex) (λ j all le. tt);
  second = λ is m parts. case_body_takes (i ∷ is) (m + all);
})

switch_takes : (at n : ℕ) → Takes (switch_form at) n Weighed
unfolding switch_form a_token
switch_takes at n = λ t size e selector m p u c f. record {
  first = case_takes;
  second = λ cs k parts. let r = cases_weighed cs k parts in let a = p.calls in record { calls = omega (arith, a, r) };
}

parameters_take : (n : ℕ) (Q : List Parameter → ℕ → Type 0) → ((ps : List Parameter) (all : ℕ) → n ≤ all → Q ps all) → Takes parameters n Q
unfolding parameters a_parameter a_comp a_token
parameters_take n Q q = record {
  first = λ t name e u colon f v c g. tt;
  second = λ ps m parts t c e. q ps (weight t + (m + n)) (omega arith);
}

label_rest_takes : (name : TokenTree) (n : ℕ) (Q : HeadPart → ℕ → Type 0) → ((l : HeadPart) (all : ℕ) → n ≤ all → Q l all) → Takes (label_rest name) n Q
unfolding label_rest
label_rest_takes name n Q q = parameters_take n _ (λ ps all size. q _ all size)

handler_rest_takes : (l : HeadPart) (n : ℕ) (Q : HandlerPart → ℕ → Type 0) → ((x : HandlerPart) (m all : ℕ) → Weighed x.body m → m + n ≤ all → Q x all) →
    Takes (handler_rest l) n Q
unfolding handler_rest a_token
handler_rest_takes l n Q q = λ e m p. record {
  first = part_more;
  second = λ es k parts t end g. q _ (m + k) _ (sequence_weighed _ e es m k p parts) (omega arith);
}

next_handler_takes : Takes next_handler 0 (PartOf AHandler)
unfolding next_handler a_label a_token
next_handler_takes = λ place t name e. label_rest_takes name _ _ (λ l all size.
    handler_rest_takes l all _ (λ x m whole p room. weighed_more x.body m whole (omega (arith, room)) p))

more_handlers_take : (goes_on : Bool) (n : ℕ) (Q : List HandlerPart → ℕ → Type 0)
    → ((hs : List HandlerPart) (m all : ℕ) → PartsOf AHandler hs m → m + n ≤ all → Q hs all)
    → Takes (more_handlers goes_on) n Q
unfolding more_handlers
more_handlers_take true n Q q = record { first = next_handler_takes; second = λ hs m parts. q hs m (m + n) parts (omega arith) }
more_handlers_take false n Q q = q [] 0 n no_parts (omega arith)

catch_takes : (at n : ℕ) → Takes (catch_form at) n Weighed
unfolding catch_form labelled_handlers bare_handler
catch_takes at n = to_with_take n _ (λ body m all p size. record {
  first = λ name. label_rest_takes name (2 + all) _ (λ l before few.
      handler_rest_takes l before _ (λ x k whole q room.
      more_handlers_take x.goes_on whole _ (λ hs j last parts sum.
      let r = handlers_weighed (x ∷ hs) (k + j) (more_parts x hs k j q parts) in
      let a = p.calls in
      record { calls = omega (arith, a, r, size, few, room, sum) })));
  second = λ e k q. operands_take (k + all) _ (λ es j last parts sum.
      let r = sequence_weighed (place_of e) e es k j q parts in
      let a = p.calls in
      let b = r.calls in
      record { calls = omega (arith, a, b, size, sum) });
})

exit_takes : (at n : ℕ) → 2 ≤ n → Takes (exit_form at) n Weighed
unfolding exit_form exit_rest a_token
exit_takes at n h = record {
  first = λ t name e. operands_take (weight t + n) _ (λ es k all parts size. let row = row_weighed es k parts in record { calls = omega (arith, row, size, h) });
  second = λ t c e. record { calls = omega (arith, h) };
}

try_takes : (at n : ℕ) → Takes (try_form at) n Weighed
unfolding try_form a_token
try_takes at n = to_with_take n _ (λ body m before p size. λ t name e.
    to_close_take (weight t + before) _ (λ handler k all q sum.
    let a = p.calls in
    let b = q.calls in
    record { calls = omega (arith, a, b, size, sum) }))

form_of_takes : (at word_at : ℕ) (w : Head) (n : ℕ) → 2 ≤ n → Takes (form_of at word_at w) n Weighed
unfolding form_of
form_of_takes at word_at head.Let n h = let_takes at a_binding n binding_takes
form_of_takes at word_at head.Letmut n h = let_takes at a_mutable_binding n mutable_takes
form_of_takes at word_at head.Assign n h = assign_takes at n
form_of_takes at word_at head.App n h = app_takes at n
form_of_takes at word_at head.Extcall n h = extcall_takes at n h
form_of_takes at word_at head.Alloc n h = alloc_takes at n h
form_of_takes at word_at head.Load n h = load_takes at n
form_of_takes at word_at head.Store n h = store_takes at n
form_of_takes at word_at (head.Pair w) n h = pair_takes at w n
form_of_takes at word_at (head.Triple w) n h = triple_takes at w n
form_of_takes at word_at head.While n h = while_takes at n
form_of_takes at word_at head.Raise n h = raise_takes at n
form_of_takes at word_at head.Seq n h = seq_takes at n
form_of_takes at word_at head.Switch n h = switch_takes at n
form_of_takes at word_at head.Catch n h = catch_takes at n
form_of_takes at word_at head.Exit n h = exit_takes at n h
form_of_takes at word_at head.Try n h = try_takes at n
form_of_takes at word_at head.Float n h = float_takes at word_at n h

form_takes : (at : ℕ) → Takes (open_form at) 1 Weighed
unfolding open_form
form_takes at = λ t w e. let some = weight_some t in form_of_takes at w.0.at w.1 (weight t + 1) (omega (arith, some))

-- ---- static data

abbrev Datum : DatumTree → ℕ → Type 0
Datum d n = datum_bytes d ≤ n

integer_takes : (made : Option ℕ → DatumTree) (n : ℕ) → ((o : Option ℕ) → datum_bytes (made o) ≡ 0) → Takes (a_data_integer made) n Datum
unfolding a_data_integer a_token
integer_takes made n h = λ t i e. let none = h (integer_value i.text) in omega (arith, none)

val_none : (t : TokenTree) (d : DatumTree) → val_of t ≡ Some d → datum_bytes d ≡ 0
val_none t d h = go (is_symbol_token t) (is_integer t) h
  where
    go : (b c : Bool) → cond b (Some (Address true t.at (string_bytes t.text))) (cond c (Some (Val (integer_value t.text))) None) ≡ Some d → datum_bytes d ≡ 0
    go true c h = let same : Address true t.at (string_bytes t.text) ≡ d = cc in subst (λ d. datum_bytes d ≡ 0) same refl
    go false true h = let same : Val (integer_value t.text) ≡ d = cc in subst (λ d. datum_bytes d ≡ 0) same refl
    go false false h = absurd (cc)

-- the word of an item is its first token, which is among the bytes
datum_takes : (t : TokenTree) (w : DataWord) (n : ℕ) → length (string_bytes t.text) ≤ n → Takes (datum_of t w) n Datum
unfolding datum_of a_token
datum_takes t item.Define n h = λ u c e. let some = weight_some u in omega (arith, some, h)
datum_takes t item.Byte n h = integer_takes Byte n (λ o. refl)
datum_takes t item.Half n h = integer_takes Half n (λ o. refl)
datum_takes t item.Int n h = integer_takes Int n (λ o. refl)
datum_takes t item.Val n h = λ u d e. let none = val_none u d e in omega (arith, none)
datum_takes t item.Addr n h = λ u c e. omega arith
datum_takes t item.Skip n h = integer_takes Skip n (λ o. refl)
datum_takes t item.Align n h = integer_takes Align n (λ o. refl)
datum_takes t item.Text n h = λ u c e. omega arith
datum_takes t item.Global n h = λ u c e. omega arith
datum_takes t item.Float n h = λ u c e. omega arith

list_few : (ds : List DataItemTree) (n : ℕ) → PartsOf ADataItem ds n → list_bytes ds ≤ n
list_few _ _ no_parts = omega arith
list_few _ _ (more_parts d others m n p ps) = let r = list_few others n ps in omega (arith, p, r)

abbrev token_of : TokenTree → Option (TokenTree × DataWord) → TokenTree
token_of t None = t
token_of t (Some w) = w.0

data_token : (t : TokenTree) (w : TokenTree × DataWord) → data_word_of t ≡ Some w → t ≡ w.0
data_token t w e = by (is_symbol_token t) (data_keyword t.kind) e
  where
    by : (b : Bool) (o : Option DataWord) → cond b (Some (t, item.Define)) (option_map (λ a. (t, a)) o) ≡ Some w → t ≡ w.0
    by true o e = ap (token_of t) e
    by false None e = absurd (cc)
    by false (Some a) e = ap (token_of t) e

data_items_take : (at n : ℕ) → Takes (data_items at) n ItemTakes
unfolding data_items a_data_item a_token
data_items_take at n = record {
  first = λ t w e.
      let short = string_short t.text in
      let text = weight_text t in
      datum_takes w.0 w.1 (weight t + 0)
      (subst (λ (u : TokenTree). length (string_bytes u.text) ≤ weight t + 0) (data_token t w e) (omega (arith, short, text)));
  second = λ ds m parts t c e. let few = list_few ds m parts in omega (arith, few);
}

-- ---- items

function_takes : (at n : ℕ) → Takes (a_function at) n ItemTakes
unfolding a_function a_token
function_takes at n = λ t name e place. parameters_take _ _ (λ ps before few.
    to_close_take before _ (λ body m all p size. let a = p.calls in omega (arith, a, size)))

item_takes : Takes an_item 0 ItemTakes
unfolding an_item item_rest data_list
item_takes = λ at. record {
  first = λ t word e. function_takes at (weight t + (1 + 0));
  second = record { first = λ t word e. data_items_take at _; second = data_items_take at _ };
}

item_few : (d : ℕ) (i : ItemPart) (xs : List TokenTree) → Spells AnItem d an_item i xs → item_bytes (item_of (length xs) i) ≤ weights xs
item_few d i xs h = by i (taken leaf_weighed form_takes AnItem d an_item i xs h 0 ItemTakes item_takes)
  where
    by : (i : ItemPart) → UpTo (weights xs + 0) (ItemTakes i) → item_bytes (item_of (length xs) i) ≤ weights xs
    by (FunctionItem f) u = let few = u.few in let so = u.so in omega (arith, few, so)
    by (DataItem d) u = let few = u.few in let so = u.so in omega (arith, few, so)

-- items take no more bytes than their tokens
pub items_few : (d : ℕ) (items : List ItemTree) (tokens : List TokenTree) → AreItems d items tokens → items_bytes items ≤ weights tokens
items_few _ _ _ (none d) = omega arith
items_few _ _ _ (more d i items xs ys h g) =
    let here = item_few d i xs h in
    let others = items_few d items ys g in
    omega (arith, here, others, weights_append xs ys)
