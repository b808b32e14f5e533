-- What holds of every value that a rule gives holds of what tokens spell by the rule.
use Rattle.std.proofs.Common.{◌≡◌, ℕ, suc, ◌≤◌, List, [], ◌∷◌, ◌++◌, Option, Some, None, arith, le_refl}
use Rattle.cmm_lex.specs.Token.{TokenTree}
use Rattle.cmm_tree.specs.Tree.{Expression, Nothing, DatumTree, DataItemTree}
use Rattle.cmm_grammar.specs.Parts.{ItemPart, FunctionItem, DataItem}
use Rattle.cmm_grammar.specs.Words.{leaf_of}
use Rattle.cmm_grammar.specs.Rule.{Sort, Value, AnExpression, ABinding, ACase, AHandler, ADataItem, AnItem, Listed, Rule, Give, One, Then, Expr, Inside, InsideOr, LabelledOr, Until, Maybe, Repeat}
use Rattle.cmm_grammar.specs.Grammar.{open_form}
use Rattle.cmm_grammar.specs.Spelling.{Spells, nothing, token, both, leaf, brackets, parenthesis, inside, inside_first, not_inside, labelled, not_labelled, ended, one_more, present, absent, last, another}
use Rattle.cmm_grammar.proofs.Paid.{Two}

-- what is to be known
pub record Facts : Type 1 where
  -- of each token
  pub token : TokenTree → Type 0
  -- of an expression in which parentheses nest at most so deep
  pub expression : ℕ → Expression → Type 0
  -- of the name of a function, or of an external call
  pub name : List ℕ → Type 0
  -- of an item of static data
  pub datum : DatumTree → Type 0

-- ---- tokens

abbrev pub AllKnown : (TokenTree → Type 0) → List TokenTree → Type 0
AllKnown known [] = Unit {0}
AllKnown known (t ∷ ts) = known t × AllKnown known ts

pub front : (known : TokenTree → Type 0) (xs ys : List TokenTree) → AllKnown known (xs ++ ys) → AllKnown known xs
front known [] ys p = tt
front known (x ∷ xs) ys p = (p.0, front known xs ys p.1)

pub back : (known : TokenTree → Type 0) (xs ys : List TokenTree) → AllKnown known (xs ++ ys) → AllKnown known ys
back known [] ys p = p
back known (x ∷ xs) ys p = back known xs ys p.1

-- nothing is known of them
pub tokens_any : (ts : List TokenTree) → AllKnown (λ t. Unit {0}) ts
tokens_any [] = tt
tokens_any (t ∷ ts) = (tt, tokens_any ts)

-- ---- values

abbrev pub DataHave : Facts → List DataItemTree → Type 0
DataHave k [] = Unit {0}
DataHave k (i ∷ items) = k.datum i.datum × DataHave k items

abbrev pub ItemHas : Facts → ℕ → ItemPart → Type 0
ItemHas k d (FunctionItem f) = k.name f.name × k.expression d f.body
ItemHas k d (DataItem l) = DataHave k l.items

-- what is known of a value of each sort
abbrev pub PartHas : Facts → ℕ → (s : Sort) → Value s → Type 0
PartHas k d AnExpression e = k.expression d e
PartHas k d ABinding b = k.expression d b.value
PartHas k d ACase c = k.expression d c.body
PartHas k d AHandler h = k.expression d h.body
PartHas k d ADataItem i = k.datum i.datum
PartHas k d AnItem i = ItemHas k d i
PartHas k d _ a = Unit {0}

abbrev pub PartsHave : Facts → ℕ → (s : Sort) → List (Value s) → Type 0
PartsHave k d s [] = Unit {0}
PartsHave k d s (a ∷ others) = PartHas k d s a × PartsHave k d s others

-- what one token gives
pub record Given (k : Facts) (s : Sort) (f : TokenTree → Option (Value s)) : Type 0 where
  pub of : TokenTree
  pub known : k.token of
  pub value : Value s
  pub is : f of ≡ Some value

-- every value that the rule gives is so
abbrev pub Gives : (k : Facts) → ℕ → {s : Sort} → Rule s → (Value s → Type 0) → Type 0
Gives k d (Give s a) Q = Q a
Gives k d (One s f) Q = (a : Given k s f) → Q a.value
Gives k d (Then s t r next) Q = Gives k d r (λ a. Gives k d (next a) Q)
Gives k d Expr Q = (e : Expression) → k.expression d e → Q e
Gives k d (Inside s r) Q = (at : ℕ) → Gives k d (r at) Q
Gives k d (InsideOr s t r next other) Q =
    Two ((at : ℕ) → Gives k d (r at) (λ a. Gives k d (next a) Q)) (Gives k d other Q)
Gives k d (LabelledOr s t r next other) Q =
    Two ((name : TokenTree) → Gives k d (r name) (λ a. Gives k d (next a) Q))
    ((e : Expression) → k.expression d e → Gives k d (other e) Q)
Gives k d (Until s t stop r next) Q =
    Two (Gives k d r (PartHas k d s)) ((values : List (Value s)) → PartsHave k d s values → Gives k d (next values) Q)
Gives k d (Maybe s t f next) Q =
    Two ((a : Given k s f) → Gives k d (next (Some a.value)) Q) (Gives k d (next None) Q)
Gives k d (Repeat s more r) Q =
    Two (Gives k d r (PartHas k d s))
    ((a : Value s) (others : List (Value s)) → PartHas k d s a → PartsHave k d s others → Q (a ∷ others))

less_deep : (n d : ℕ) → suc n ≤ d → n ≤ d
less_deep n d le = omega (arith, le)

-- What holds of a leaf and of a form, by what holds of its parts, holds of what tokens spell.
module _ (k : Facts) (deeper : (n d : ℕ) (e : Expression) → n ≤ d → k.expression n e → k.expression d e)
    (leaf_has : (d : ℕ) (t : TokenTree) (e : Expression) → leaf_of t ≡ Some e → k.expression d e)
    (nothing_has : (d at : ℕ) → k.expression d (Nothing at))
    (form_gives : (d at : ℕ) → Gives k d (open_form at) (k.expression (suc d))) where
  pub given : (s : Sort) (n : ℕ) (r : Rule s) (a : Value s) (xs : List TokenTree) → Spells s n r a xs → AllKnown k.token xs → (d : ℕ) → n ≤ d →
      (Q : Value s → Type 0) → Gives k d r Q → Q a
  given _ _ _ _ _ (nothing s n a) b d le Q p = p
  given _ _ _ _ _ (token s n f t a e) b d le Q p = p (record { of = t; known = b.0; value = a; is = e })
  given _ _ _ _ _ (both s t n r next a v xs ys h g) b d le Q p =
      given t n (next a) v ys g (back k.token xs ys b) d le Q
      (given s n r a xs h (front k.token xs ys b) d le (λ a. Gives k d (next a) Q) p)
  given _ _ _ _ _ (leaf n t e h) b d le Q p = p e (leaf_has d t e h)
  given _ _ _ _ _ (brackets n o c h g) b d le Q p = p (Nothing o.at) (nothing_has d o.at)
  given _ _ _ _ _ (parenthesis n o e xs h g) b d le Q p =
      p e (deeper (suc n) d e le (given AnExpression n (open_form o.at) e xs g b.1 n (le_refl n) (k.expression (suc n)) (form_gives n o.at)))
  given _ _ _ _ _ (inside s n r o a xs h g) b d le Q p = given s n (r o.at) a xs g b.1 d (less_deep n d le) Q (p o.at)
  given _ _ _ _ _ (inside_first s t n r next other o a v xs ys h g i) b d le Q p =
      given t (suc n) (next a) v ys i (back k.token xs ys b.1) d le Q
      (given s n (r o.at) a xs g (front k.token xs ys b.1) d (less_deep n d le) (λ a. Gives k d (next a) Q) (p.first o.at))
  given _ _ _ _ _ (not_inside s t n r next other u v ys h g) b d le Q p = given t n other v (u ∷ ys) g b d le Q p.second
  given _ _ _ _ _ (labelled s t n r next other o name a v xs ys h i g j) b d le Q p =
      given t (suc n) (next a) v ys j (back k.token xs ys b.1.1) d le Q
      (given s n (r name) a xs g (front k.token xs ys b.1.1) d (less_deep n d le) (λ a. Gives k d (next a) Q) (p.first name))
  given _ _ _ _ _ (not_labelled s t n r next other e v xs ys h g i) b d le Q p =
      given t n (other e) v ys i (back k.token xs ys b) d le Q
      (p.second e (given AnExpression n Expr e xs g (front k.token xs ys b) d le (k.expression d) (λ e q. q)))
  given _ _ _ _ _ (ended s t n stop r next u v ys h g) b d le Q p = given t n (next []) v (u ∷ ys) g b d le Q (p.second [] tt)
  given _ _ _ _ _ (one_more s t n stop r next u a v xs ys h g i) b d le Q p =
      let one : PartHas k d s a = given s n r a (u ∷ xs) g (front k.token (u ∷ xs) ys b) d le (PartHas k d s) p.first in
      given t n (Until s t stop r (λ rest. next (a ∷ rest))) v ys i (back k.token (u ∷ xs) ys b) d le Q
      (record { first = p.first; second = λ values parts. p.second (a ∷ values) (one, parts) })
  given _ _ _ _ _ (present s t n f next u a v ys h g) b d le Q p =
      given t n (next (Some a)) v ys g b.1 d le Q (p.first (record { of = u; known = b.0; value = a; is = h }))
  given _ _ _ _ _ (absent s t n f next u v ys h g) b d le Q p = given t n (next None) v (u ∷ ys) g b d le Q p.second
  given _ _ _ _ _ (last s n more r a xs h g) b d le Q p = p.second a [] (given s n r a xs g b d le (PartHas k d s) p.first) tt
  given _ _ _ _ _ (another s n more r a values xs ys h g i) b d le Q p =
      let one : PartHas k d s a = given s n r a xs g (front k.token xs ys b) d le (PartHas k d s) p.first in
      given (Listed s) n (Repeat s more r) values ys i (back k.token xs ys b) d le (λ others. Q (a ∷ others))
      (record { first = p.first; second = λ v others q parts. p.second a (v ∷ others) one (q, parts) })
