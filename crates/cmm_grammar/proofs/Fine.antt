-- Rules that can always be finished, and whose next token always decides.
use Rattle.std.proofs.Common.{◌≡◌, ℕ, zero, suc, Bool, true, false, not, List, ◌∷◌, Option, Some, None}
use Rattle.cmm_lex.specs.Token.{TokenTree}
use Rattle.cmm_grammar.specs.Words.{is_open}
use Rattle.cmm_grammar.specs.Rule.{Sort, Value, AnExpression, Rule, Give, One, Then, Expr, Inside, InsideOr, LabelledOr, Until, Maybe, Repeat}
use Rattle.cmm_grammar.specs.Spelling.{Spells}

-- a rule that spells no value by no token
abbrev pub Solid : {s : Sort} → Rule s → Type 0
Solid (Give s a) = ⊥
Solid (One s f) = Unit {0}
Solid (Then s t r k) = Solid r
Solid Expr = Unit {0}
Solid (Inside s r) = Unit {0}
Solid (InsideOr s t r k other) = Unit {0}
Solid (LabelledOr s t r k other) = Unit {0}
Solid (Until s t stop r k) = Unit {0}
Solid (Maybe s t f k) = Unit {0}
Solid (Repeat s more r) = Solid r

-- some tokens spell a value by the rule, and the first one passes the test
pub record Starts (test : TokenTree → Bool) (s : Sort) (d : ℕ) (r : Rule s) : Type 0 where
  pub first : TokenTree
  pub others : List TokenTree
  pub value : Value s
  pub passes : test first ≡ true
  pub spells : Spells s d r value (first ∷ others)

pub record Given (s : Sort) (f : TokenTree → Option (Value s)) : Type 0 where
  pub token : TokenTree
  pub value : Value s
  pub gives : f token ≡ Some value

-- some tokens spell a last value
pub record Ends (s : Sort) (d : ℕ) (more : Value s → Bool) (r : Rule s) : Type 0 where
  pub value : Value s
  pub tokens : List TokenTree
  pub ends : more value ≡ false
  pub spells : Spells s d r value tokens

-- one level deeper, if there is one
abbrev pub OneDeeper : ℕ → (ℕ → Type 0) → Type 0
OneDeeper zero P = ⊥
OneDeeper (suc d) P = P d

abbrev pub IfDeeper : ℕ → (ℕ → Type 0) → Type 0
IfDeeper zero P = Unit {0}
IfDeeper (suc d) P = P d

abbrev pub is_no_open : TokenTree → Bool
is_no_open t = not (is_open t)

pub record Two (A B : Type 0) : Type 0 where
  pub first : A
  pub second : B

pub record Three (A B C : Type 0) : Type 0 where
  pub first : A
  pub second : B
  pub third : C

abbrev pub Fine : {s : Sort} → Rule s → ℕ → Type 0
Fine (Give s a) d = Unit {0}
Fine (One s f) d = Given s f
Fine (Then s t r k) d = Two (Fine r d) ((a : Value s) → Fine (k a) d)
Fine Expr d = Unit {0}
Fine (Inside s r) d = OneDeeper d (λ e. (at : ℕ) → Fine (r at) e)
Fine (InsideOr s t r k other) d =
    Three (Fine other d) (Two (Solid other) (Starts is_no_open t d other))
    (IfDeeper d (λ e. Two ((at : ℕ) → Fine (r at) e) ((a : Value s) → Fine (k a) (suc e))))
Fine (LabelledOr s t r k other) d =
    Two ((e : Value AnExpression) → Fine (other e) d)
    (IfDeeper d (λ e. Two ((n : TokenTree) → Fine (r n) e) ((a : Value s) → Fine (k a) (suc e))))
Fine (Until s t stop r k) d =
    Two (Two (Fine r d) (Solid r)) ((values : List (Value s)) → Three (Fine (k values) d) (Solid (k values)) (Starts stop t d (k values)))
Fine (Maybe s t f k) d = Three (Given s f) (Solid (k None)) ((o : Option (Value s)) → Fine (k o) d)
Fine (Repeat s more r) d = Three (Fine r d) (Solid r) (Ends s d more r)
