-- Reading leaves no more tokens than there were, and some rules always take one.
use Rattle.std.proofs.Common.{◌≡◌, ℕ, ◌≤◌, zero, suc, Bool, true, false, cond, ◌&&◌, List, [], ◌∷◌, length, Option, Some, None, arith, subst}
use Rattle.cmm_lex.specs.Token.{TokenTree}
use Rattle.cmm_tree.specs.Tree.{Expression}
use Rattle.cmm_grammar.specs.Words.{is_open, is_open_bracket, is_close_bracket, is_name, leaf_of}
use Rattle.cmm_grammar.specs.Rule.{Sort, Value, AnExpression, Rule, Give, One, Then, Expr, Inside, InsideOr, LabelledOr, Until, Maybe, Repeat}
use Rattle.cmm_grammar.specs.Grammar.{open_form}
use Rattle.cmm_grammar.specs.Reading.{ReadOutcome, Read, Stops, Reader, Forms, bind, given, bracket_at, expression_by, many, some_of, maybe_given, form_below, reading, forms_below}

-- at most so many tokens are left
abbrev pub Leaves : {A : Type 0} → ℕ → ReadOutcome A → Type 0
Leaves n (Read a rest) = length rest ≤ n
Leaves n (Stops why left) = Unit {0}

pub leaves-up : {A : Type 0} (o : ReadOutcome A) (n m : ℕ) → Leaves n o → n ≤ m → Leaves m o
leaves-up (Read a rest) n m h l = omega arith
leaves-up (Stops why left) n m h l = tt

pub bind-leaves : {A B : Type 0} (o : ReadOutcome A) (next : A → Reader B) (n m : ℕ)
    → Leaves n o
    → ((a : A) (rest : List TokenTree) → length rest ≤ n → Leaves m (next a rest))
    → Leaves m (bind o next)
bind-leaves (Read a rest) next n m h f = f a rest h
bind-leaves (Stops why left) next n m h f = tt

cond-leaves : {A : Type 0} (b : Bool) (x y : ReadOutcome A) (n : ℕ) → Leaves n x → Leaves n y → Leaves n (cond b x y)
cond-leaves true x y n h g = h
cond-leaves false x y n h g = g

given-leaves : {A : Type 0} (o : Option A) (ts : List TokenTree) (n : ℕ) → length ts ≤ n → Leaves n (given o ts)
given-leaves (Some a) ts n h = h
given-leaves None ts n h = tt

abbrev pub AllLeave : {A : Type 0} → Reader A → Type 0
AllLeave one = (ts : List TokenTree) → Leaves (length ts) (one ts)

abbrev pub FormsLeave : Forms → Type 0
FormsLeave forms = (j at : ℕ) → AllLeave (forms j at)

many-leaves : {A : Type 0} (stop : TokenTree → Bool) (one : Reader A) → AllLeave one → (bound : ℕ) → AllLeave (many stop one bound)
many-leaves stop one h bound [] = tt
many-leaves stop one h zero (t ∷ ts) = cond-leaves (stop t) _ _ (suc (length ts)) (omega arith) tt
many-leaves stop one h (suc bound) (t ∷ ts) =
    cond-leaves (stop t) _ _ (suc (length ts)) (omega arith)
    (bind-leaves (one (t ∷ ts)) _ (suc (length ts)) (suc (length ts)) (h (t ∷ ts))
    (λ a rest l. bind-leaves (many stop one bound rest) _ (length rest) (suc (length ts)) (many-leaves stop one h bound rest) (λ more final k. omega arith)))

some-leaves : {A : Type 0} (more : A → Bool) (one : Reader A) → AllLeave one → (bound : ℕ) → AllLeave (some_of more one bound)
some-leaves more one h zero ts = tt
some-leaves more one h (suc bound) ts =
    bind-leaves (one ts) _ (length ts) (length ts) (h ts)
    (λ a rest l. cond-leaves (more a) _ _ (length ts)
    (bind-leaves (some_of more one bound rest) _ (length rest) (length ts) (some-leaves more one h bound rest) (λ others final k. omega arith))
    (omega arith))

bracket-leaves : (at : ℕ) (ts : List TokenTree) (n : ℕ) → length ts ≤ n → Leaves n (bracket_at at ts)
bracket-leaves at [] n h = tt
bracket-leaves at (c ∷ ts) n h = cond-leaves (is_close_bracket c) _ _ n (omega arith) tt

form-leaves : (d : ℕ) (inner : Reader Expression) (ts : List TokenTree) (n : ℕ) → AllLeave inner → length ts ≤ n → Leaves n (form_below d inner ts)
form-leaves zero inner ts n h l = tt
form-leaves (suc d) inner ts n h l = leaves-up (inner ts) (length ts) n (h ts) l

-- an expression takes a token
expr-leaves : (d : ℕ) (forms : Forms) → FormsLeave forms → (n : ℕ) (ts : List TokenTree) → length ts ≤ suc n
    → Leaves n (expression_by (λ at. form_below d (forms 0 at)) ts)
expr-leaves d forms h n [] l = tt
expr-leaves d forms h n (t ∷ ts) l =
    cond-leaves (is_open t) _ _ n (form-leaves d (forms 0 t.at) ts n (h 0 t.at) (omega arith))
    (cond-leaves (is_open_bracket t) _ _ n (bracket-leaves t.at ts n (omega arith)) (given-leaves (leaf_of t) ts n (omega arith)))

maybe-leaves : {A B : Type 0} (o : Option A) (next : Option A → Reader B) (t : TokenTree) (ts : List TokenTree)
    → ((o : Option A) → AllLeave (next o))
    → Leaves (suc (length ts)) (maybe_given o next t ts)
maybe-leaves (Some a) next t ts h = leaves-up (next (Some a) ts) (length ts) (suc (length ts)) (h (Some a) ts) (omega arith)
maybe-leaves None next t ts h = h None (t ∷ ts)

pub reading-leaves : (s : Sort) (r : Rule s) (d : ℕ) (forms : Forms) → FormsLeave forms → AllLeave (reading r d forms)
reading-leaves _ (Give s a) d forms h ts = omega arith
reading-leaves _ (One s f) d forms h [] = tt
reading-leaves _ (One s f) d forms h (t ∷ ts) = given-leaves (f t) ts (suc (length ts)) (omega arith)
reading-leaves _ (Then s t r k) d forms h ts =
    bind-leaves (reading r d forms ts) _ (length ts) (length ts) (reading-leaves s r d forms h ts)
    (λ a rest l. leaves-up (reading (k a) d forms rest) (length rest) (length ts) (reading-leaves t (k a) d forms h rest) l)
reading-leaves _ Expr d forms h ts = expr-leaves d forms h (length ts) ts (omega arith)
reading-leaves _ (Inside s r) d forms h [] = tt
reading-leaves _ (Inside s r) zero forms h (t ∷ ts) = cond-leaves (is_open t) _ _ (suc (length ts)) tt tt
reading-leaves _ (Inside s r) (suc d) forms h (t ∷ ts) =
    cond-leaves (is_open t) _ _ (suc (length ts))
    (leaves-up (reading (r t.at) d (λ j. forms (suc j)) ts) (length ts) (suc (length ts)) (reading-leaves s (r t.at) d (λ j. forms (suc j)) (λ j. h (suc j)) ts) (omega arith))
    tt
reading-leaves _ (InsideOr s t r k other) d forms h [] = tt
reading-leaves _ (InsideOr s t r k other) zero forms h (u ∷ ts) =
    cond-leaves (is_open u) _ _ (suc (length ts)) tt (reading-leaves t other zero forms h (u ∷ ts))
reading-leaves _ (InsideOr s t r k other) (suc d) forms h (u ∷ ts) =
    cond-leaves (is_open u) _ _ (suc (length ts))
    (bind-leaves (reading (r u.at) d (λ j. forms (suc j)) ts) _ (length ts) (suc (length ts)) (reading-leaves s (r u.at) d (λ j. forms (suc j)) (λ j. h (suc j)) ts)
    (λ a rest l. leaves-up (reading (k a) (suc d) forms rest) (length rest) (suc (length ts)) (reading-leaves t (k a) (suc d) forms h rest) (omega arith)))
    (reading-leaves t other (suc d) forms h (u ∷ ts))
reading-leaves _ (LabelledOr s t r k other) d forms h [] = tt
reading-leaves _ (LabelledOr s t r k other) d forms h (o ∷ []) =
    bind-leaves (expression_by (λ at. form_below d (forms 0 at)) (o ∷ [])) _ 1 1 (expr-leaves d forms h 1 (o ∷ []) (omega arith))
    (λ e rest l. leaves-up (reading (other e) d forms rest) (length rest) 1 (reading-leaves t (other e) d forms h rest) l)
reading-leaves _ (LabelledOr s t r k other) zero forms h (o ∷ n ∷ ts) =
    let m = suc (suc (length ts)) in
    cond-leaves (is_open o && is_name n) _ _ m tt
    (bind-leaves (expression_by (λ at. form_below zero (forms 0 at)) (o ∷ n ∷ ts)) _ m m (expr-leaves zero forms h m (o ∷ n ∷ ts) (omega arith))
    (λ e rest l. leaves-up (reading (other e) zero forms rest) (length rest) m (reading-leaves t (other e) zero forms h rest) l))
reading-leaves _ (LabelledOr s t r k other) (suc d) forms h (o ∷ n ∷ ts) =
    let m = suc (suc (length ts)) in
    cond-leaves (is_open o && is_name n) _ _ m
    (bind-leaves (reading (r n) d (λ j. forms (suc j)) ts) _ (length ts) m (reading-leaves s (r n) d (λ j. forms (suc j)) (λ j. h (suc j)) ts)
    (λ a rest l. leaves-up (reading (k a) (suc d) forms rest) (length rest) m (reading-leaves t (k a) (suc d) forms h rest) (omega arith)))
    (bind-leaves (expression_by (λ at. form_below (suc d) (forms 0 at)) (o ∷ n ∷ ts)) _ m m (expr-leaves (suc d) forms h m (o ∷ n ∷ ts) (omega arith))
    (λ e rest l. leaves-up (reading (other e) (suc d) forms rest) (length rest) m (reading-leaves t (other e) (suc d) forms h rest) l))
reading-leaves _ (Until s t stop r k) d forms h ts =
    bind-leaves (many stop (reading r d forms) (length ts) ts) _ (length ts) (length ts) (many-leaves stop (reading r d forms) (reading-leaves s r d forms h) (length ts) ts)
    (λ values rest l. leaves-up (reading (k values) d forms rest) (length rest) (length ts) (reading-leaves t (k values) d forms h rest) l)
reading-leaves _ (Maybe s t f k) d forms h [] = tt
reading-leaves _ (Maybe s t f k) d forms h (u ∷ ts) = maybe-leaves (f u) _ u ts (λ o. reading-leaves t (k o) d forms h)
reading-leaves _ (Repeat s more r) d forms h ts = some-leaves more (reading r d forms) (reading-leaves s r d forms h) (suc (length ts)) ts

pub forms-leave : (d : ℕ) → FormsLeave (forms_below d)
forms-leave zero j at ts = tt
forms-leave (suc d) zero at ts = reading-leaves AnExpression (open_form at) d (forms_below d) (forms-leave d) ts
forms-leave (suc d) (suc j) at ts = forms-leave d j at ts

-- rules that begin with a token that they always take
abbrev pub Takes : {s : Sort} → Rule s → Type 0
Takes (One s f) = Unit {0}
Takes Expr = Unit {0}
Takes (Inside s r) = Unit {0}
Takes (Then s t r k) = Takes r
Takes _ = ⊥

pub taking-leaves : (s : Sort) (r : Rule s) → Takes r → (d : ℕ) (forms : Forms) → FormsLeave forms → (n : ℕ) (ts : List TokenTree)
    → length ts ≤ suc n
    → Leaves n (reading r d forms ts)
taking-leaves _ (One s f) h d forms g n [] l = tt
taking-leaves _ (One s f) h d forms g n (t ∷ ts) l = given-leaves (f t) ts n (omega arith)
taking-leaves _ Expr h d forms g n ts l = expr-leaves d forms g n ts l
taking-leaves _ (Inside s r) h d forms g n [] l = tt
taking-leaves _ (Inside s r) h zero forms g n (t ∷ ts) l = cond-leaves (is_open t) _ _ n tt tt
taking-leaves _ (Inside s r) h (suc d) forms g n (t ∷ ts) l =
    cond-leaves (is_open t) _ _ n
    (leaves-up (reading (r t.at) d (λ j. forms (suc j)) ts) (length ts) n (reading-leaves s (r t.at) d (λ j. forms (suc j)) (λ j. g (suc j)) ts) (omega arith))
    tt
taking-leaves _ (Then s t r k) h d forms g n ts l =
    bind-leaves (reading r d forms ts) _ n n (taking-leaves s r h d forms g n ts l)
    (λ a rest m. leaves-up (reading (k a) d forms rest) (length rest) n (reading-leaves t (k a) d forms g rest) m)
taking-leaves _ (Give s a) h d forms g n ts l = absurd h
taking-leaves _ (InsideOr s t r k other) h d forms g n ts l = absurd h
taking-leaves _ (LabelledOr s t r k other) h d forms g n ts l = absurd h
taking-leaves _ (Until s t stop r k) h d forms g n ts l = absurd h
taking-leaves _ (Maybe s t f k) h d forms g n ts l = absurd h
taking-leaves _ (Repeat s more r) h d forms g n ts l = absurd h

-- what such a rule leaves is shorter
pub shorter : (s : Sort) (r : Rule s) → Takes r → (d : ℕ) (t : TokenTree) (ts : List TokenTree) (a : Value s) (rest : List TokenTree)
    → reading r d (forms_below d) (t ∷ ts) ≡ Read a rest
    → length rest ≤ length ts
shorter s r h d t ts a rest e =
    let P : ReadOutcome (Value s) → Type 0 = Leaves (length ts) in
    subst P e (taking-leaves s r h d (forms_below d) (forms-leave d) (length ts) (t ∷ ts) (omega arith))
