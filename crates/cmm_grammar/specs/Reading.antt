-- Reading from left to right: what each rule reads at the front of tokens, and where it stops.
use Rattle.std.specs.Prelude.{ℕ, ◌-◌, zero, suc, Bool, cond, ◌&&◌, List, [], ◌∷◌, length, Option, Some, None}
use Rattle.cmm_lex.specs.Token.{TokenTree}
use Rattle.cmm_tree.specs.Tree.{Expression, Nothing, ItemTree}
use Rattle.cmm_grammar.specs.Parts.{ItemPart, item_of}
use Rattle.cmm_grammar.specs.Words.{is_open, is_open_bracket, is_close_bracket, is_name, leaf_of}
use Rattle.cmm_grammar.specs.Rule.{Sort, Value, Rule, Give, One, Then, Expr, Inside, InsideOr, LabelledOr, Until, Maybe, Repeat}
use Rattle.cmm_grammar.specs.Grammar.{open_form, an_item}

-- Why reading stops: no text goes on so, or a parenthesis is one level too deep.
pub data Why : Type 0 where
  Stuck : Why
  Deep : Why

-- What reading gives: a value and the tokens that are left, or, where it stops, the number of tokens from
-- there on.
pub data ReadOutcome (A : Type 0) : Type 0 where
  Read : (a : A) (rest : List TokenTree) → ReadOutcome A
  Stops : (why : Why) (left : ℕ) → ReadOutcome A

abbrev pub Reader : Type 0 → Type 0
Reader A = List TokenTree → ReadOutcome A

abbrev pub bind : {A B : Type 0} → ReadOutcome A → (A → Reader B) → ReadOutcome B
bind (Read a rest) next = next a rest
bind (Stops why left) next = Stops why left

-- a token that gives a value, or none
abbrev pub given : {A : Type 0} → Option A → List TokenTree → ReadOutcome A
given (Some a) ts = Read a ts
given None ts = Stops Stuck (suc (length ts))

-- the second of two brackets
abbrev pub bracket_at : ℕ → Reader Expression
bracket_at at [] = Stops Stuck 0
bracket_at at (c ∷ ts) =
    cond (is_close_bracket c) (Read (Nothing at) ts) (Stops Stuck (suc (length ts)))

-- an expression, whose forms are read so
abbrev pub expression_by : (ℕ → Reader Expression) → Reader Expression
expression_by inside [] = Stops Stuck 0
expression_by inside (t ∷ ts) =
    cond (is_open t) (inside t.at ts) (cond (is_open_bracket t) (bracket_at t.at ts) (given (leaf_of t) ts))

-- any number, up to a token that passes the test; `bound` is at least the number of tokens
abbrev pub many : {A : Type 0} → (TokenTree → Bool) → Reader A → ℕ → Reader (List A)
many stop one bound [] = Stops Stuck 0
many stop one zero (t ∷ ts) = cond (stop t) (Read [] (t ∷ ts)) (Stops Stuck (suc (length ts)))
many stop one (suc bound) (t ∷ ts) =
    cond (stop t) (Read [] (t ∷ ts))
    (bind (one (t ∷ ts)) (λ a rest. bind (many stop one bound rest) (λ more last. Read (a ∷ more) last)))

-- at least one, up to the first that none follows
abbrev pub some_of : {A : Type 0} → (A → Bool) → Reader A → ℕ → Reader (List A)
some_of more one zero ts = Stops Stuck (length ts)
some_of more one (suc bound) ts =
    bind (one ts) (λ a rest. cond (more a) (bind (some_of more one bound rest) (λ others last. Read (a ∷ others) last)) (Read (a ∷ []) rest))

-- what a parenthesis holds, by its place
abbrev pub inside_by : {A : Type 0} → (ℕ → Reader A) → Reader A
inside_by inner [] = Stops Stuck 0
inside_by inner (t ∷ ts) = cond (is_open t) (inner t.at ts) (Stops Stuck (suc (length ts)))

abbrev pub inside_or_by : {A B : Type 0} → (ℕ → Reader A) → (A → Reader B) → Reader B → Reader B
inside_or_by inner next other [] = Stops Stuck 0
inside_or_by inner next other (t ∷ ts) =
    cond (is_open t) (bind (inner t.at ts) next) (other (t ∷ ts))

abbrev pub labelled_by : {A B : Type 0} → Reader A → (A → Reader B) → Reader Expression → (Expression → Reader B) → Reader B
labelled_by inner next one other [] = Stops Stuck 0
labelled_by inner next one other (o ∷ []) = bind (one (o ∷ [])) other
labelled_by inner next one other (o ∷ n ∷ ts) =
    cond (is_open o && is_name n) (bind (inner (n ∷ ts)) next) (bind (one (o ∷ n ∷ ts)) other)

-- what follows a token, by that token
abbrev pub behind : {A : Type 0} → (TokenTree → Reader A) → Reader A
behind inner [] = Stops Stuck 0
behind inner (n ∷ ts) = inner n ts

abbrev pub maybe_given : {A B : Type 0} → Option A → (Option A → Reader B) → TokenTree → Reader B
maybe_given (Some a) next t ts = next (Some a) ts
maybe_given None next t ts = next None (t ∷ ts)

abbrev pub maybe_by : {A B : Type 0} → (TokenTree → Option A) → (Option A → Reader B) → Reader B
maybe_by f next [] = Stops Stuck 0
maybe_by f next (t ∷ ts) = maybe_given (f t) next t ts

abbrev pub one_by : {A : Type 0} → (TokenTree → Option A) → Reader A
one_by f [] = Stops Stuck 0
one_by f (t ∷ ts) = given (f t) ts

-- how forms are read, by their places: those one level deeper, two levels and so on
abbrev pub Forms : Type 0
Forms = ℕ → ℕ → Reader Expression

-- one level deeper, after the parenthesis; at the last level its place is too deep
abbrev pub deeper : {A : Type 0} → ℕ → (ℕ → Forms → Reader A) → Forms → Reader A
deeper zero inner forms ts = Stops Deep (suc (length ts))
deeper (suc d) inner forms ts = inner d (λ j. forms (suc j)) ts

abbrev pub form_below : ℕ → Reader Expression → Reader Expression
form_below zero inner ts = Stops Deep (suc (length ts))
form_below (suc d) inner ts = inner ts

-- what a rule reads where parentheses may nest so deep
abbrev pub reading : {s : Sort} → Rule s → ℕ → Forms → Reader (Value s)
reading (Give s a) d forms ts = Read a ts
reading (One s f) d forms ts = one_by f ts
reading (Then s t r k) d forms ts =
    bind (reading r d forms ts) (λ a rest. reading (k a) d forms rest)
reading Expr d forms ts = expression_by (λ at. form_below d (forms 0 at)) ts
reading (Inside s r) d forms ts = inside_by (λ at. deeper d (reading (r at)) forms) ts
reading (InsideOr s t r k other) d forms ts =
    inside_or_by (λ at. deeper d (reading (r at)) forms) (λ a. reading (k a) d forms) (reading other d forms) ts
reading (LabelledOr s t r k other) d forms ts =
    labelled_by (deeper d (λ e below. behind (λ n. reading (r n) e below)) forms) (λ a. reading (k a) d forms)
    (expression_by (λ at. form_below d (forms 0 at))) (λ e. reading (other e) d forms) ts
reading (Until s t stop r k) d forms ts =
    bind (many stop (reading r d forms) (length ts) ts) (λ values rest. reading (k values) d forms rest)
reading (Maybe s t f k) d forms ts = maybe_by f (λ o. reading (k o) d forms) ts
reading (Repeat s more r) d forms ts = some_of more (reading r d forms) (suc (length ts)) ts

abbrev pub forms_below : ℕ → Forms
forms_below zero j at ts = Stops Deep (suc (length ts))
forms_below (suc d) zero at ts = reading (open_form at) d (forms_below d) ts
forms_below (suc d) (suc j) at ts = forms_below d j at ts

abbrev pub reads : {s : Sort} → Rule s → ℕ → Reader (Value s)
reads r d ts = reading r d (forms_below d) ts

-- items up to the end
abbrev pub items_by : Reader ItemPart → ℕ → Reader (List ItemTree)
items_by one bound [] = Read [] []
items_by one zero (t ∷ ts) = Stops Stuck (suc (length ts))
items_by one (suc bound) (t ∷ ts) =
    bind (one (t ∷ ts)) (λ i rest. bind (items_by one bound rest) (λ more last. Read (item_of (suc (length ts) - length rest) i ∷ more) last))

abbrev pub items_at : ℕ → Reader (List ItemTree)
items_at d ts = items_by (reads an_item d) (length ts) ts
