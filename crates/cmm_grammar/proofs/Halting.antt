-- Where reading stops, by any rule, and so by the rules of the grammar.
use Rattle.std.proofs.Common.{ℕ, ◌≤◌, zero, suc, length, arith}
use Rattle.cmm_grammar.specs.Rule.{Sort, Value, AnExpression, AnItem, Rule, Give, One, Then, Expr, Inside, InsideOr, LabelledOr, Until, Maybe, Repeat}
use Rattle.cmm_grammar.specs.Grammar.{open_form, an_item}
use Rattle.cmm_grammar.proofs.Fine.{Fine}
use Rattle.cmm_grammar.proofs.Sound.{IsSound, sound, expr_sound}
use Rattle.cmm_grammar.proofs.Complete.{FineForms, forms_sound}
use Rattle.cmm_grammar.proofs.FineGrammar.{form_fine, item_fine}
use Rattle.cmm_grammar.proofs.Halt.{Halts, AllFine}
use Rattle.cmm_grammar.proofs.Stops.{FormsHalt, one_halts, then_halts, expr_halts, inside_halts, flat_halts, inside_or_halts, maybe_halts}
use Rattle.cmm_grammar.proofs.Lists.{until_halts, repeat_halts}
use Rattle.cmm_grammar.proofs.Labels.{flat_labelled_halts, labelled_halts}

is_sound : FineForms → (s : Sort) (r : Rule s) (d : ℕ) → AllFine s d r → IsSound s d r
is_sound forms s r d fine = sound s r d (fine d (omega arith)) (forms_sound forms d)

lower_halts : (d : ℕ) → FormsHalt (suc d) → FormsHalt d
lower_halts d h e less at = h e (omega arith) at

give_halts : (s : Sort) (a : Value s) (d : ℕ) → Halts s d (Give s a)
give_halts s a d ts why left p = cc

pub halts : FineForms → (s : Sort) (r : Rule s) (d : ℕ) → AllFine s d r → FormsHalt d → Halts s d r
halts forms _ (Give s a) d fine h = give_halts s a d
halts forms _ (One s f) d fine h = one_halts s d f fine
halts forms _ (Then s t r k) d fine h =
    then_halts forms s t d r k fine (is_sound forms s r d (λ e l. (fine e l).first)) (halts forms s r d (λ e l. (fine e l).first) h)
    (λ a. halts forms t (k a) d (λ e l. (fine e l).second a) h)
halts forms _ Expr d fine h = expr_halts forms d h
halts forms _ (Inside s r) zero fine h = absurd (fine 0 (omega arith))
halts forms _ (Inside s r) (suc d) fine h =
    inside_halts s d r fine (λ at. halts forms s (r at) d (λ e l. fine (suc e) (omega arith) at) (lower_halts d h))
halts forms _ (InsideOr s t r k other) zero fine h = flat_halts s t r k other fine (halts forms t other 0 (λ e l. (fine e l).first) h)
halts forms _ (InsideOr s t r k other) (suc d) fine h =
    inside_or_halts forms s t d r k other fine
    (λ at. is_sound forms s (r at) d (λ e l. (fine (suc e) (omega arith)).third.first at))
    (λ at. halts forms s (r at) d (λ e l. (fine (suc e) (omega arith)).third.first at) (lower_halts d h))
    (λ a. halts forms t (k a) (suc d) (next_fine a) h)
    (halts forms t other (suc d) (λ e l. (fine e l).first) h)
  where
    next_fine : (a : Value s) (e : ℕ) → suc d ≤ e → Fine (k a) e
    next_fine a zero l = absurd (omega arith)
    next_fine a (suc e) l = (fine (suc e) l).third.second a
halts forms _ (LabelledOr s t r k other) zero fine h =
    flat_labelled_halts forms s t r k other fine (expr_sound 0 (forms_sound forms 0)) (expr_halts forms 0 h)
    (λ e. halts forms t (other e) 0 (λ f l. (fine f l).first e) h)
halts forms _ (LabelledOr s t r k other) (suc d) fine h =
    labelled_halts forms s t d r k other fine
    (λ n. is_sound forms s (r n) d (λ e l. (fine (suc e) (omega arith)).second.first n))
    (λ n. halts forms s (r n) d (λ e l. (fine (suc e) (omega arith)).second.first n) (lower_halts d h))
    (λ a. halts forms t (k a) (suc d) (next_fine a) h)
    (expr_sound (suc d) (forms_sound forms (suc d)))
    (expr_halts forms (suc d) h)
    (λ e. halts forms t (other e) (suc d) (λ f l. (fine f l).first e) h)
  where
    next_fine : (a : Value s) (e : ℕ) → suc d ≤ e → Fine (k a) e
    next_fine a zero l = absurd (omega arith)
    next_fine a (suc e) l = (fine (suc e) l).second.second a
halts forms _ (Until s t stop r k) d fine h = λ ts.
    until_halts forms s t d stop r (is_sound forms s r d (λ e l. (fine e l).first.first)) (halts forms s r d (λ e l. (fine e l).first.first) h)
    (length ts) k fine (λ v. halts forms t (k v) d (λ e l. ((fine e l).second v).first) h) ts (omega arith)
halts forms _ (Maybe s t f k) d fine h = maybe_halts s t d f k fine (λ o. halts forms t (k o) d (λ e l. (fine e l).third o) h)
halts forms _ (Repeat s more r) d fine h = λ ts.
    repeat_halts forms s d more r fine (is_sound forms s r d (λ e l. (fine e l).first)) (halts forms s r d (λ e l. (fine e l).first) h)
    (suc (length ts)) ts (omega arith)

-- each form can be finished at any depth
pub grammar_forms : FineForms
grammar_forms e at = form_fine e at

forms_halt : (n : ℕ) → FormsHalt n
forms_halt zero e less at = absurd (omega arith)
forms_halt (suc n) e less at = halts grammar_forms AnExpression (open_form at) e (λ f l. form_fine f at) (λ f under. forms_halt n f (omega arith))

pub item_halts : (d : ℕ) → 2 ≤ d → Halts AnItem d an_item
item_halts d two = halts grammar_forms AnItem an_item d (λ e l. item_fine e (omega arith)) (forms_halt d)

pub item_sound : (d : ℕ) → 2 ≤ d → IsSound AnItem d an_item
item_sound d two = sound AnItem an_item d (item_fine d two) (forms_sound grammar_forms d)
