-- The steps of the loops that read lists: over what the code holds.
use Rattle.std.proofs.Common.{◌≡◌, ℕ, ◌<◌, suc, Bool, true, false, List, [], ◌∷◌, ◌++◌, length, map, refl, sym, ap, subst, ◌∙◌, arith}
use Rattle.std.proofs.lemmas.List.{map-append}
use Rattle.cmm_lex.specs.Token.{TokenTree}
use Rattle.cmm_grammar.specs.Rule.{Sort, Value, Rule, Give, One, Then, Expr, Inside, InsideOr, LabelledOr, Until, Maybe, Repeat}
use Rattle.cmm_grammar.specs.Reading.{ReadOutcome, Read, Stops, Stuck, Reader, Forms, bind, some_of, reading, forms_below}
use Rattle.cmm_exprs.specs.Results.{marked_parts}
use Rattle.cmm_parts.proofs.Lengths.{Takes, shorter}
use Rattle.cmm_exprs.proofs.Repeating.{Repeating, repeating-on, repeating-last}
use Rattle.cmm_exprs.proofs.Readings.{marked-push}

pub takes-none : (s : Sort) (r : Rule s) → Takes r → (d : ℕ) (forms : Forms) → reading r d forms [] ≡ Stops Stuck 0
takes-none _ (One s f) h d forms = refl
takes-none _ Expr h d forms = refl
takes-none _ (Inside s r) h d forms = refl
takes-none _ (Then s t r k) h d forms = ap (λ o. bind o (λ a rest. reading (k a) d forms rest)) (takes-none s r h d forms)
takes-none _ (Give s a) h d forms = absurd h
takes-none _ (InsideOr s t r k other) h d forms = absurd h
takes-none _ (LabelledOr s t r k other) h d forms = absurd h
takes-none _ (Until s t stop r k) h d forms = absurd h
takes-none _ (Maybe s t f k) h d forms = absurd h
takes-none _ (Repeat s more r) h d forms = absurd h

stops-read : {A : Type 0} {G : Type 0} (o : ReadOutcome A) (a : A) (rest : List TokenTree) → o ≡ Stops Stuck 0 → o ≡ Read a rest → G
stops-read o a rest h g = cc

-- a rule that takes a token leaves fewer
pub shortened : (s : Sort) (r : Rule s) → Takes r → (d : ℕ) (ts : List TokenTree) (a : Value s) (rest : List TokenTree)
    → reading r d (forms_below d) ts ≡ Read a rest
    → length rest < length ts
shortened s r h d [] a rest e = stops-read (reading r d (forms_below d) []) a rest (takes-none s r h d (forms_below d)) e
shortened s r h d (t ∷ ts) a rest e = let l = shorter s r h d t ts a rest e in omega arith

pub repeating_push : {X A : Type 0} (more : A → Bool) (one : Reader A) (whole : List TokenTree) (view : X → A) (old new : List X) (x : X) (here behind : List TokenTree)
    → Repeating more one whole (map view old) here
    → one here ≡ Read (view x) behind
    → more (view x) ≡ true
    → new ≡ old ++ x ∷ []
    → length behind < length here
    → Repeating more one whole (map view new) behind
repeating_push {X} {A} more one whole view old new x here behind g r h p l =
    let views : map view new ≡ map view old ++ view x ∷ [] = ap (map view) p ∙ map-append view old (x ∷ []) in
    subst (λ (v : List A). Repeating more one whole v behind) (sym views) (repeating-on more one whole (map view old) here g (view x) behind r h l)

pub repeating_done : {X A : Type 0} (more : A → Bool) (one : Reader A) (whole : List TokenTree) (part : Bool → X → A) (old new : List X) (x : X) (here behind : List TokenTree)
    → Repeating more one whole (map (part true) old) here
    → one here ≡ Read (part false x) behind
    → more (part false x) ≡ false
    → new ≡ old ++ x ∷ []
    → some_of more one (suc (length whole)) whole ≡ Read (marked_parts part new) behind
repeating_done {X} {A} more one whole part old new x here behind g r h p =
    repeating-last more one whole (map (part true) old) here g (part false x) behind r h
    ∙ ap (λ (v : List A). Read v behind) (sym (ap (marked_parts part) p ∙ marked-push part old x))
