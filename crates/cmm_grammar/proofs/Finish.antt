-- What may be finished: from nothing, and after what was spelled.
use Rattle.std.proofs.Common.{◌≡◌, ℕ, zero, suc, Bool, true, false, cond, List, [], ◌∷◌, ◌++◌, Some, None, refl, sym, subst}
use Rattle.std.proofs.lemmas.Bool.{not-true}
use Rattle.std.proofs.lemmas.List.{append-nil}
use Rattle.cmm_lex.specs.Token.{TokenTree}
use Rattle.cmm_lex.specs.declared.token.TokenKind.{TokenKind}
use Rattle.cmm_lex.specs.declared.token.TokenKind.TheVariants as kind
use Rattle.cmm_lex.specs.declared.token.Sign.TheVariants as sign
use Rattle.cmm_tree.specs.Tree.{Expression, Name}
use Rattle.cmm_grammar.specs.Words.{passing}
use Rattle.cmm_grammar.specs.Rule.{Sort, Value, AToken, AnExpression, Rule, Give, One, Then, Expr, Inside, InsideOr, LabelledOr, Until, Maybe, Repeat}
use Rattle.cmm_grammar.specs.Grammar.{a_token}
use Rattle.cmm_grammar.specs.Spelling.{Spells, nothing, token, both, leaf, inside, not_inside, not_labelled, ended, present, last}
use Rattle.cmm_grammar.proofs.Fine.{Solid, Fine, Given, Starts, Two, Three}

-- tokens that begin with these spell a value by the rule
pub record Finish (s : Sort) (e : ℕ) (r : Rule s) (front : List TokenTree) : Type 0 where
  pub value : Value s
  pub more : List TokenTree
  pub spells : Spells s e r value (front ++ more)

abbrev pub of_kind : TokenKind → TokenTree
of_kind k = record { at = 0; kind = k; text = [] }

abbrev pub a_name : TokenTree
a_name = of_kind kind.Name

abbrev pub an_open : TokenTree
an_open = of_kind (kind.Sign sign.Open)

abbrev pub a_name_leaf : Expression
a_name_leaf = Name 0 []

pub leaf_spells : (d : ℕ) → Spells AnExpression d Expr a_name_leaf (a_name ∷ [])
leaf_spells d = leaf d a_name a_name_leaf refl

-- a rule that is fine spells something
pub finish : (s : Sort) (r : Rule s) (d : ℕ) → Fine r d → Finish s d r []
finish _ (Give s a) d fine = record { value = a; more = []; spells = nothing s d a }
finish _ (One s f) d fine = record { value = fine.value; more = fine.token ∷ []; spells = token s d f fine.token fine.value fine.gives }
finish _ (Then s t r k) d fine =
    let x = finish s r d fine.first in
    let y = finish t (k x.value) d (fine.second x.value) in
    record { value = y.value; more = x.more ++ y.more; spells = both s t d r k x.value y.value x.more y.more x.spells y.spells }
finish _ Expr d fine = record { value = a_name_leaf; more = a_name ∷ []; spells = leaf_spells d }
finish _ (Inside s r) zero fine = absurd fine
finish _ (Inside s r) (suc d) fine =
    let x = finish s (r 0) d (fine 0) in
    record { value = x.value; more = an_open ∷ x.more; spells = inside s d r an_open x.value x.more refl x.spells }
finish _ (InsideOr s t r k other) d fine =
    let x = fine.second.second in
    record {
      value = x.value;
      more = x.first ∷ x.others;
      spells = not_inside s t d r k other x.first x.value x.others (not-true _ x.passes) x.spells;
    }
finish _ (LabelledOr s t r k other) d fine =
    let y = finish t (other a_name_leaf) d (fine.first a_name_leaf) in
    record {
      value = y.value;
      more = a_name ∷ y.more;
      spells = not_labelled s t d r k other a_name_leaf y.value (a_name ∷ []) y.more refl (leaf_spells d) y.spells;
    }
finish _ (Until s t stop r k) d fine =
    let x = (fine.second []).third in
    record { value = x.value; more = x.first ∷ x.others; spells = ended s t d stop r k x.first x.value x.others x.passes x.spells }
finish _ (Maybe s t f k) d fine =
    let g = fine.first in
    let y = finish t (k (Some g.value)) d (fine.third (Some g.value)) in
    record { value = y.value; more = g.token ∷ y.more; spells = present s t d f k g.token g.value y.value y.more g.gives y.spells }
finish _ (Repeat s more r) d fine =
    let x = fine.third in
    record { value = x.value ∷ []; more = x.tokens; spells = last s d more r x.value x.tokens x.ends x.spells }

-- what is spelled is finished
pub exactly : (s : Sort) (e : ℕ) (r : Rule s) (a : Value s) (xs : List TokenTree) → Spells s e r a xs → Finish s e r xs
exactly s e r a xs h = record { value = a; more = []; spells = subst (λ (v : List TokenTree). Spells s e r a v) (sym (append-nil xs)) h }

-- the first part, and then the rest, which is fine
pub then_finish : (s t : Sort) (e : ℕ) (r : Rule s) (k : Value s → Rule t) (a : Value s) (xs : List TokenTree) → Spells s e r a xs → Fine (k a) e → Finish t e (Then s t r k) xs
then_finish s t e r k a xs h fine =
    let y = finish t (k a) e fine in
    record { value = y.value; more = y.more; spells = both s t e r k a y.value xs y.more h y.spells }

pub starts_then : (test : TokenTree → Bool) (s t : Sort) (d : ℕ) (r : Rule s) (k : Value s → Rule t) → Starts test s d r → ((a : Value s) → Fine (k a) d) → Starts test t d (Then s t r k)
starts_then test s t d r k x fine =
    let y = finish t (k x.value) d (fine x.value) in
    record {
      first = x.first;
      others = x.others ++ y.more;
      value = y.value;
      passes = x.passes;
      spells = both s t d r k x.value y.value (x.first ∷ x.others) y.more x.spells y.spells;
    }

pub starts_leaf : (test : TokenTree → Bool) (d : ℕ) → test a_name ≡ true → Starts test AnExpression d Expr
starts_leaf test d e = record { first = a_name; others = []; value = a_name_leaf; passes = e; spells = leaf_spells d }

some_of_cond : (b : Bool) (t : TokenTree) → b ≡ true → cond b (Some t) None ≡ Some t
some_of_cond true t e = refl
some_of_cond false t e = cc

pub token_spells : (test : TokenTree → Bool) (d : ℕ) (t : TokenTree) → test t ≡ true → Spells AToken d (a_token test) t (t ∷ [])
unfolding a_token
token_spells test d t e = token AToken d (passing test) t t (some_of_cond (test t) t e)

pub starts_token : (test own : TokenTree → Bool) (d : ℕ) (t : TokenTree) → test t ≡ true → own t ≡ true → Starts test AToken d (a_token own)
starts_token test own d t e f = record { first = t; others = []; value = t; passes = e; spells = token_spells own d t f }

pub the : (test : TokenTree → Bool) (t : TokenTree) → test t ≡ true → Given AToken (passing test)
the test t e = record { token = t; value = t; gives = some_of_cond (test t) t e }

-- one token that passes a test
pub token_fine : (test : TokenTree → Bool) (d : ℕ) (t : TokenTree) → test t ≡ true → Fine (a_token test) d
unfolding a_token
token_fine test d t e = the test t e

pub token_solid : (test : TokenTree → Bool) → Solid (a_token test)
unfolding a_token
token_solid test = tt

abbrev pub two : {A B : Type 0} → A → B → Two A B
two a b = record { first = a; second = b }

abbrev pub three : {A B C : Type 0} → A → B → C → Three A B C
three a b c = record { first = a; second = b; third = c }

-- any number, up to a token that the list owns
pub until_fine : (s t : Sort) (test : TokenTree → Bool) (r : Rule s) (made : TokenTree → List (Value s) → Value t) (d : ℕ) (u : TokenTree)
    → Fine r d → Solid r → test u ≡ true
    → Fine (Until s t test r (λ v. Then AToken t (a_token test) (λ u. Give t (made u v)))) d
until_fine s t test r made d u fine solid e =
    two (two fine solid) (λ v. three (two (token_fine test d u e) (λ w. tt)) (token_solid test)
    (starts_then test AToken t d (a_token test) (λ w. Give t (made w v)) (starts_token test test d u e e) (λ w. tt)))
