-- What the forms of generated texts spell.
use Rattle.std.proofs.Common.{◌≡◌, ℕ, suc, Bool, true, false, List, [], ◌∷◌, ◌++◌, Some, None, is_some, ap, refl, subst, append-nil, append_assoc}
use Rattle.cmm_lex.specs.Strings.{string_bytes}
use Rattle.cmm_grammar.specs.Parts.{expressions, BindingPart, ResultPart, FunctionItem}
use Rattle.bs_words.specs.declared.types.Chunk.TheVariants as chunk
use Rattle.cmm_lex.specs.Integers.{integer_value}
use Rattle.cmm_lex.specs.Token.{TokenTree}
use Rattle.cmm_tree.specs.Tree.{Expression, NoMore, More, Load, Alloc, Raise, Try, Let, Bind, NoBinding, App, Parameter, Declaration}
use Rattle.bs_words.specs.declared.types.Comp.{Comp}
use Rattle.bs_words.specs.declared.types.Ret.{Ret}
use Rattle.cmm_grammar.specs.declared.word.Head.{Head}
use Rattle.cmm_grammar.specs.declared.word.Pair.{Pair}
use Rattle.cmm_grammar.specs.declared.word.Triple.{Triple}
use Rattle.cmm_grammar.specs.declared.word.ChunkWord.TheVariants as starts
use Rattle.cmm_grammar.specs.Grammar.{open_form, form_of, a_token, close, pair_form, paired, triple_form, tripled, raise_form, load_form, load_rest, chunked, chunk_rest, alloc_form, operands, sequence_to_close, sequence_to_with, try_form, let_form, a_binding, let_body, app_form, arguments_of, a_result, a_parameter, a_comp, parameters, an_item, item_rest, a_function}
use Rattle.cmm_grammar.specs.Rule.{Sort, AToken, AnExpression, AHead, AChunkWord, ABinding, AResult, ADeclaration, AParameter, AnItem, Both, Listed, Rule, Value, Give, Then, Expr}
use Rattle.cmm_grammar.specs.Spelling.{Spells, nothing, token, both, leaf, parenthesis, ended, one_more, present, not_inside, inside}
use Rattle.cmm_grammar.specs.Words.{is_open, is_close, is_name, is_integer, is_with, is_colon, is_function, is_symbol_token, is_ret, ret_of, comp_of, leaf_of, passing, marked, head_of, chunk_word_of, word_or_zero}

-- a form in its parentheses
pub form-spells : (d : ℕ) (o w : TokenTree) (h : Head) (e : Expression) (xs : List TokenTree)
    → is_open o ≡ true
    → head_of w.kind ≡ Some h
    → Spells AnExpression d (form_of o.at w.at h) e xs
    → Spells AnExpression (suc d) Expr e (o ∷ w ∷ xs)
unfolding open_form
form-spells d o w h e xs opens is g =
    parenthesis d o e (w ∷ xs) opens
    (both (Both AToken AHead) AnExpression d _ _ (w, h) e (w ∷ []) xs
    (token (Both AToken AHead) d (marked head_of) w (w, h) (rw is refl))
    g)

-- a token that passes a test
passes : (d : ℕ) (test : TokenTree → Bool) (t : TokenTree) → test t ≡ true → Spells AToken d (a_token test) t (t ∷ [])
unfolding a_token
passes d test t e = token AToken d (passing test) t t (rw e refl)

-- the end of a form
closes : (d : ℕ) (c : TokenTree) (e : Expression)
    → is_close c ≡ true
    → Spells AnExpression d (Then AToken AnExpression close (λ _. Give AnExpression e)) e (c ∷ [])
closes d c e is = both AToken AnExpression d _ _ c e (c ∷ []) [] (passes d is_close c is) (nothing AnExpression d e)

pub pair-spells : (d at : ℕ) (p : Pair) (a b : Expression) (xs ys : List TokenTree) (c : TokenTree)
    → is_close c ≡ true
    → Spells AnExpression d Expr a xs
    → Spells AnExpression d Expr b ys
    → Spells AnExpression d (pair_form at p) (paired at p a b) (xs ++ (ys ++ (c ∷ [])))
unfolding pair_form
pair-spells d at p a b xs ys c is h g =
    both AnExpression AnExpression d Expr _ a (paired at p a b) xs (ys ++ (c ∷ [])) h
    (both AnExpression AnExpression d Expr _ b (paired at p a b) ys (c ∷ []) g
    (closes d c (paired at p a b) is))

pub triple-spells : (d at : ℕ) (p : Triple) (a b e : Expression) (xs ys zs : List TokenTree) (c : TokenTree)
    → is_close c ≡ true
    → Spells AnExpression d Expr a xs
    → Spells AnExpression d Expr b ys
    → Spells AnExpression d Expr e zs
    → Spells AnExpression d (triple_form at p) (tripled at p a b e) (xs ++ (ys ++ (zs ++ (c ∷ []))))
unfolding triple_form
triple-spells d at p a b e xs ys zs c is h g i =
    both AnExpression AnExpression d Expr _ a (tripled at p a b e) xs _ h
    (both AnExpression AnExpression d Expr _ b (tripled at p a b e) ys _ g
    (both AnExpression AnExpression d Expr _ e (tripled at p a b e) zs _ i
    (closes d c (tripled at p a b e) is)))

pub raise-spells : (d at : ℕ) (a : Expression) (xs : List TokenTree) (c : TokenTree)
    → is_close c ≡ true
    → Spells AnExpression d Expr a xs
    → Spells AnExpression d (raise_form at) (Raise at a) (xs ++ (c ∷ []))
unfolding raise_form
raise-spells d at a xs c is h = both AnExpression AnExpression d Expr _ a (Raise at a) xs (c ∷ []) h (closes d c (Raise at a) is)

-- a load by the chunk of a word
pub load-spells : (d at : ℕ) (w : TokenTree) (a : Expression) (xs : List TokenTree) (c : TokenTree)
    → chunk_word_of w.kind ≡ Some (starts.Whole chunk.Int)
    → is_close c ≡ true
    → Spells AnExpression d Expr a xs
    → Spells AnExpression d (load_form at) (Load at chunk.Int a) (w ∷ (xs ++ (c ∷ [])))
unfolding load_form load_rest chunked chunk_rest
load-spells d at w a xs c chunk_is is h =
    present (Both AToken AChunkWord) AnExpression d (marked chunk_word_of) _ w (w, starts.Whole chunk.Int) (Load at chunk.Int a) (xs ++ (c ∷ []))
    (rw chunk_is refl)
    (both AnExpression AnExpression d Expr _ a (Load at chunk.Int a) xs (c ∷ []) h (closes d c (Load at chunk.Int a) is))

-- no expression up to a parenthesis that closes, and two
no-operands : (d : ℕ) (c : TokenTree) → is_close c ≡ true → Spells (Listed AnExpression) d operands [] (c ∷ [])
unfolding operands
no-operands d c is =
    ended AnExpression (Listed AnExpression) d is_close Expr _ c [] [] is
    (both AToken (Listed AnExpression) d _ _ c [] (c ∷ []) [] (passes d is_close c is) (nothing (Listed AnExpression) d []))

two-operands : (d : ℕ) (a b : Expression) (u v : TokenTree) (xs ys : List TokenTree) (c : TokenTree)
    → is_close u ≡ false
    → is_close v ≡ false
    → is_close c ≡ true
    → Spells AnExpression d Expr a (u ∷ xs)
    → Spells AnExpression d Expr b (v ∷ ys)
    → Spells (Listed AnExpression) d operands (a ∷ b ∷ []) (u ∷ (xs ++ (v ∷ (ys ++ (c ∷ [])))))
unfolding operands
two-operands d a b u v xs ys c first second is h g =
    one_more AnExpression (Listed AnExpression) d is_close Expr _ u a (a ∷ b ∷ []) xs (v ∷ (ys ++ (c ∷ []))) first h
    (one_more AnExpression (Listed AnExpression) d is_close Expr _ v b (a ∷ b ∷ []) ys (c ∷ []) second g
    (ended AnExpression (Listed AnExpression) d is_close Expr _ c (a ∷ b ∷ []) [] is
    (both AToken (Listed AnExpression) d _ _ c (a ∷ b ∷ []) (c ∷ []) [] (passes d is_close c is) (nothing (Listed AnExpression) d (a ∷ b ∷ [])))))

-- an allocation of two fields
pub alloc-spells : (d at : ℕ) (n : TokenTree) (a b : Expression) (u v : TokenTree) (xs ys : List TokenTree) (c : TokenTree)
    → is_integer n ≡ true
    → is_close u ≡ false
    → is_close v ≡ false
    → is_close c ≡ true
    → Spells AnExpression d Expr a (u ∷ xs)
    → Spells AnExpression d Expr b (v ∷ ys)
    → Spells AnExpression d (alloc_form at) (Alloc at n.at (word_or_zero (integer_value n.text)) (More a (More b NoMore))) (n ∷ u ∷ (xs ++ (v ∷ (ys ++ (c ∷ [])))))
unfolding alloc_form
alloc-spells d at n a b u v xs ys c number first second is h g =
    let all = u ∷ (xs ++ (v ∷ (ys ++ (c ∷ [])))) in
    let e = Alloc at n.at (word_or_zero (integer_value n.text)) (More a (More b NoMore)) in
    both AToken AnExpression d _ _ n e (n ∷ []) all (passes d is_integer n number)
    (subst (λ (ts : List TokenTree). Spells AnExpression d (Then (Listed AnExpression) AnExpression operands (λ es. Give AnExpression (Alloc at n.at (word_or_zero (integer_value n.text)) (expressions es)))) e ts) (append-nil all)
    (both (Listed AnExpression) AnExpression d operands _ (a ∷ b ∷ []) e all [] (two-operands d a b u v xs ys c first second is h g) (nothing AnExpression d e)))

-- ---- one expression up to a word

pub sequence-spells : (d : ℕ) (e : Expression) (xs : List TokenTree) (c : TokenTree)
    → is_close c ≡ true
    → Spells AnExpression d Expr e xs
    → Spells AnExpression d sequence_to_close e (xs ++ (c ∷ []))
unfolding sequence_to_close
sequence-spells d e xs c is h =
    both AnExpression AnExpression d Expr _ e e xs (c ∷ []) h
    (both (Listed AnExpression) AnExpression d operands _ [] e (c ∷ []) [] (no-operands d c is) (nothing AnExpression d e))

pub with-spells : (d : ℕ) (e : Expression) (xs : List TokenTree) (w : TokenTree)
    → is_with w ≡ true
    → Spells AnExpression d Expr e xs
    → Spells AnExpression d sequence_to_with e (xs ++ (w ∷ []))
unfolding sequence_to_with
with-spells d e xs w is h =
    both AnExpression AnExpression d Expr _ e e xs (w ∷ []) h
    (ended AnExpression AnExpression d is_with Expr _ w e [] is
    (both AToken AnExpression d _ _ w e (w ∷ []) [] (passes d is_with w is) (nothing AnExpression d e)))

-- a rule, and what it gives
then-gives : (s t : Sort) (d : ℕ) (r : Rule s) (k : Value s → Value t) (a : Value s) (xs : List TokenTree)
    → Spells s d r a xs
    → Spells t d (Then s t r (λ b. Give t (k b))) (k a) xs
then-gives s t d r k a xs h =
    subst (λ (ts : List TokenTree). Spells t d (Then s t r (λ b. Give t (k b))) (k a) ts) (append-nil xs)
    (both s t d r _ a (k a) xs [] h (nothing t d (k a)))

pub try-spells : (d at : ℕ) (e f : Expression) (xs ys : List TokenTree) (w n c : TokenTree)
    → is_with w ≡ true
    → is_name n ≡ true
    → is_close c ≡ true
    → Spells AnExpression d Expr e xs
    → Spells AnExpression d Expr f ys
    → Spells AnExpression d (try_form at) (Try at e n.at n.text f) (xs ++ (w ∷ n ∷ (ys ++ (c ∷ []))))
unfolding try_form
try-spells d at e f xs ys w n c with_is name is h g =
    let made = Try at e n.at n.text f in
    subst (λ (ts : List TokenTree). Spells AnExpression d (try_form at) made ts) (append_assoc xs (w ∷ []) (n ∷ (ys ++ (c ∷ []))))
    (both AnExpression AnExpression d sequence_to_with _ e made (xs ++ (w ∷ [])) (n ∷ (ys ++ (c ∷ []))) (with-spells d e xs w with_is h)
    (both AToken AnExpression d _ _ n made (n ∷ []) (ys ++ (c ∷ [])) (passes d is_name n name)
    (then-gives AnExpression AnExpression d sequence_to_close (λ b. Try at e n.at n.text b) f (ys ++ (c ∷ [])) (sequence-spells d f ys c is g))))

-- a binding without parentheses
pub let-spells : (d at : ℕ) (n c : TokenTree) (v b : Expression) (xs ys : List TokenTree)
    → is_name n ≡ true
    → is_open n ≡ false
    → is_close c ≡ true
    → Spells AnExpression d Expr v xs
    → Spells AnExpression d Expr b ys
    → Spells AnExpression d (let_form at a_binding) (Let at (Bind n.at n.text None v NoBinding) b) (n ∷ (xs ++ (ys ++ (c ∷ []))))
unfolding let_form a_binding let_body
let-spells d at n c v b xs ys name not_open is h g =
    let bound : BindingPart = record { at = n.at; name = n.text; declared = None; value = v } in
    let made = Let at (Bind n.at n.text None v NoBinding) b in
    not_inside (Listed ABinding) AnExpression d _ _ _ n made (xs ++ (ys ++ (c ∷ []))) not_open
    (both ABinding AnExpression d a_binding _ bound made (n ∷ xs) (ys ++ (c ∷ []))
    (both AToken ABinding d _ _ n bound (n ∷ []) xs (passes d is_name n name)
    (then-gives AnExpression ABinding d Expr (λ (e : Expression). record { at = n.at; name = n.text; declared = None; value = e }) v xs h))
    (then-gives AnExpression AnExpression d sequence_to_close (λ e. Let at (Bind n.at n.text None v NoBinding) e) b (ys ++ (c ∷ [])) (sequence-spells d b ys c is g)))

-- a call with two arguments of one token
pub app-spells : (d at : ℕ) (callee e f : Expression) (xs : List TokenTree) (p q i c : TokenTree) (r : Ret)
    → leaf_of p ≡ Some e
    → leaf_of q ≡ Some f
    → is_ret p ≡ false
    → is_ret q ≡ false
    → ret_of i.kind ≡ Some r
    → is_close c ≡ true
    → Spells AnExpression d Expr callee xs
    → Spells AnExpression d (app_form at) (App at callee (More e (More f NoMore)) r i.at) (xs ++ (p ∷ q ∷ i ∷ c ∷ []))
unfolding app_form arguments_of a_result
app-spells d at callee e f xs p q i c r p_is q_is p_more q_more result is h =
    let made = App at callee (More e (More f NoMore)) r i.at in
    let given : ResultPart = record { at = i.at; ret = r } in
    both AnExpression AnExpression d Expr _ callee made xs (p ∷ q ∷ i ∷ c ∷ []) h
    (one_more AnExpression AnExpression d is_ret Expr _ p e made [] (q ∷ i ∷ c ∷ []) p_more (leaf d p e p_is)
    (one_more AnExpression AnExpression d is_ret Expr _ q f made [] (i ∷ c ∷ []) q_more (leaf d q f q_is)
    (ended AnExpression AnExpression d is_ret Expr _ i made (c ∷ []) (ap is_some result)
    (both AResult AnExpression d _ _ given made (i ∷ []) (c ∷ [])
    (token AResult d _ i given (rw result refl))
    (closes d c made is)))))

-- ---- functions

pub parameter-spells : (d : ℕ) (n s t : TokenTree) (c : Comp)
    → is_name n ≡ true
    → is_colon s ≡ true
    → comp_of t.kind ≡ Some c
    → Spells AParameter d a_parameter (record { at = n.at; name = n.text; comp = c; comp_at = t.at }) (n ∷ s ∷ t ∷ [])
unfolding a_parameter a_comp
parameter-spells d n s t c name colon comp_is =
    let made : Parameter = record { at = n.at; name = n.text; comp = c; comp_at = t.at } in
    let declared : Declaration = record { at = t.at; comp = c } in
    both AToken AParameter d _ _ n made (n ∷ []) (s ∷ t ∷ []) (passes d is_name n name)
    (both AToken AParameter d _ _ s made (s ∷ []) (t ∷ []) (passes d is_colon s colon)
    (both ADeclaration AParameter d _ _ declared made (t ∷ []) []
    (token ADeclaration d _ t declared (rw comp_is refl))
    (nothing AParameter d made)))

-- two parameters
pub parameters-spell : (d : ℕ) (a b : Parameter) (u v : TokenTree) (xs ys : List TokenTree) (c : TokenTree)
    → is_close u ≡ false
    → is_close v ≡ false
    → is_close c ≡ true
    → Spells AParameter d a_parameter a (u ∷ xs)
    → Spells AParameter d a_parameter b (v ∷ ys)
    → Spells (Listed AParameter) d parameters (a ∷ b ∷ []) (u ∷ (xs ++ (v ∷ (ys ++ (c ∷ [])))))
unfolding parameters
parameters-spell d a b u v xs ys c first second is h g =
    one_more AParameter (Listed AParameter) d is_close a_parameter _ u a (a ∷ b ∷ []) xs (v ∷ (ys ++ (c ∷ []))) first h
    (one_more AParameter (Listed AParameter) d is_close a_parameter _ v b (a ∷ b ∷ []) ys (c ∷ []) second g
    (ended AParameter (Listed AParameter) d is_close a_parameter _ c (a ∷ b ∷ []) [] is
    (both AToken (Listed AParameter) d _ _ c (a ∷ b ∷ []) (c ∷ []) [] (passes d is_close c is) (nothing (Listed AParameter) d (a ∷ b ∷ [])))))

pub function-spells : (d : ℕ) (o f n u c : TokenTree) (params : List Parameter) (body : Expression) (xs ys : List TokenTree)
    → is_open o ≡ true
    → is_function f ≡ true
    → is_symbol_token n ≡ true
    → is_open u ≡ true
    → is_close c ≡ true
    → Spells (Listed AParameter) d parameters params xs
    → Spells AnExpression (suc d) Expr body ys
    → Spells AnItem (suc (suc d)) an_item
    (FunctionItem (record { at = o.at; name_at = n.at; name = string_bytes n.text; params = params; body = body }))
    (o ∷ f ∷ n ∷ u ∷ (xs ++ (ys ++ (c ∷ []))))
unfolding an_item item_rest a_function
function-spells d o f n u c params body xs ys o_is f_is n_is u_is is h g =
    let made = FunctionItem (record { at = o.at; name_at = n.at; name = string_bytes n.text; params = params; body = body }) in
    inside AnItem (suc d) _ o made (f ∷ n ∷ u ∷ (xs ++ (ys ++ (c ∷ [])))) o_is
    (present AToken AnItem (suc d) (passing is_function) _ f f made (n ∷ u ∷ (xs ++ (ys ++ (c ∷ [])))) (rw f_is refl)
    (both AToken AnItem (suc d) _ _ n made (n ∷ []) (u ∷ (xs ++ (ys ++ (c ∷ [])))) (passes (suc d) is_symbol_token n n_is)
    (both (Listed AParameter) AnItem (suc d) _ _ params made (u ∷ xs) (ys ++ (c ∷ []))
    (inside (Listed AParameter) d _ u params xs u_is h)
    (then-gives AnExpression AnItem (suc d) sequence_to_close
    (λ (b : Expression). FunctionItem (record { at = o.at; name_at = n.at; name = string_bytes n.text; params = params; body = b }))
    body (ys ++ (c ∷ [])) (sequence-spells (suc d) body ys c is g)))))
