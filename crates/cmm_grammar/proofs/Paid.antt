-- What holds of every value that a rule gives, with the number of its tokens, holds of what tokens spell by the rule.
use Rattle.std.proofs.Common.{◌≡◌, ℕ, ◌+◌, suc, List, [], ◌∷◌, ◌++◌, length, Some, None, subst, arith, length-append}
use Rattle.cmm_lex.specs.Token.{TokenTree}
use Rattle.cmm_tree.specs.Tree.{Expression, Nothing}
use Rattle.cmm_grammar.specs.Words.{leaf_of}
use Rattle.cmm_grammar.specs.Rule.{Sort, Value, AnExpression, Listed, Rule, Give, One, Then, Expr, Inside, InsideOr, LabelledOr, Until, Maybe, Repeat}
use Rattle.cmm_grammar.specs.Grammar.{open_form}
use Rattle.cmm_grammar.specs.Spelling.{Spells, nothing, token, both, leaf, brackets, parenthesis, inside, inside_first, not_inside, labelled, not_labelled, ended, one_more, present, absent, last, another}
use Rattle.cmm_grammar.proofs.Measured.{Measured, PartOf, PartsOf, no_parts, more_parts}

pub record Two (A B : Type 0) : Type 0 where
  pub first : A
  pub second : B

-- every value that the rule gives, n tokens having come before, is so with the number of all tokens
abbrev pub Pays : {s : Sort} → Rule s → ℕ → (Value s → ℕ → Type 0) → Type 0
Pays (Give s a) n Q = Q a n
Pays (One s f) n Q = (t : TokenTree) (a : Value s) → f t ≡ Some a → Q a (1 + n)
Pays (Then s t r k) n Q = Pays r n (λ a m. Pays (k a) m Q)
Pays Expr n Q = (e : Expression) (m : ℕ) → Measured e m → Q e (m + n)
Pays (Inside s r) n Q = (at : ℕ) → Pays (r at) (1 + n) Q
Pays (InsideOr s t r k other) n Q = Two ((at : ℕ) → Pays (r at) (1 + n) (λ a m. Pays (k a) m Q)) (Pays other n Q)
Pays (LabelledOr s t r k other) n Q =
    Two ((name : TokenTree) → Pays (r name) (2 + n) (λ a m. Pays (k a) m Q))
    ((e : Expression) (m : ℕ) → Measured e m → Pays (other e) (m + n) Q)
Pays (Until s t stop r k) n Q =
    Two (Pays r 0 (PartOf s)) ((values : List (Value s)) (m : ℕ) → PartsOf s values m → Pays (k values) (m + n) Q)
Pays (Maybe s t f k) n Q =
    Two ((u : TokenTree) (a : Value s) → f u ≡ Some a → Pays (k (Some a)) (1 + n) Q) (Pays (k None) n Q)
Pays (Repeat s more r) n Q =
    Two (Pays r 0 (PartOf s)) ((values : List (Value s)) (m : ℕ) → PartsOf s values m → Q values (m + n))

-- the same for an equal number
pub moved : (Q : ℕ → Type 0) (m n : ℕ) → m ≡ n → Q m → Q n
moved Q m n e q = subst Q e q

module _ (leaf_measured : (t : TokenTree) (e : Expression) → leaf_of t ≡ Some e → Measured e 1)
    (nothing_measured : (at : ℕ) → Measured (Nothing at) 2)
    (form_pays : (at : ℕ) → Pays (open_form at) 1 Measured) where
  pub paid : (s : Sort) (d : ℕ) (r : Rule s) (a : Value s) (xs : List TokenTree) → Spells s d r a xs
      → (n : ℕ) (Q : Value s → ℕ → Type 0) → Pays r n Q → Q a (length xs + n)
  paid _ _ _ _ _ (nothing s d a) n Q p = moved (Q a) n _ (omega arith) p
  paid _ _ _ _ _ (token s d f t a e) n Q p = moved (Q a) (1 + n) _ (omega arith) (p t a e)
  paid _ _ _ _ _ (both s t d r k a b xs ys h g) n Q p =
      let front : Pays (k a) (length xs + n) Q = paid s d r a xs h n (λ a m. Pays (k a) m Q) p in
      moved (Q b) (length ys + (length xs + n)) (length (xs ++ ys) + n) (omega (arith, length-append xs ys))
      (paid t d (k a) b ys g (length xs + n) Q front)
  paid _ _ _ _ _ (leaf d t e h) n Q p = moved (Q e) (1 + n) _ (omega arith) (p e 1 (leaf_measured t e h))
  paid _ _ _ _ _ (brackets d o c h g) n Q p =
      moved (Q (Nothing o.at)) (2 + n) _ (omega arith) (p (Nothing o.at) 2 (nothing_measured o.at))
  paid _ _ _ _ _ (parenthesis d o e xs h g) n Q p =
      moved (Q e) (length xs + 1 + n) (length (o ∷ xs) + n) (omega arith)
      (p e (length xs + 1) (paid AnExpression d (open_form o.at) e xs g 1 Measured (form_pays o.at)))
  paid _ _ _ _ _ (inside s d r o a xs h g) n Q p =
      moved (Q a) (length xs + (1 + n)) (length (o ∷ xs) + n) (omega arith) (paid s d (r o.at) a xs g (1 + n) Q (p o.at))
  paid _ _ _ _ _ (inside_first s t d r k other o a b xs ys h g i) n Q p =
      let front : Pays (k a) (length xs + (1 + n)) Q = paid s d (r o.at) a xs g (1 + n) (λ a m. Pays (k a) m Q) (p.first o.at) in
      moved (Q b) (length ys + (length xs + (1 + n))) (length (o ∷ (xs ++ ys)) + n) (omega (arith, length-append xs ys))
      (paid t (suc d) (k a) b ys i (length xs + (1 + n)) Q front)
  paid _ _ _ _ _ (not_inside s t d r k other u b ys h g) n Q p = paid t d other b (u ∷ ys) g n Q p.second
  paid _ _ _ _ _ (labelled s t d r k other o name a b xs ys h i g j) n Q p =
      let front : Pays (k a) (length xs + (2 + n)) Q = paid s d (r name) a xs g (2 + n) (λ a m. Pays (k a) m Q) (p.first name) in
      moved (Q b) (length ys + (length xs + (2 + n))) (length (o ∷ name ∷ (xs ++ ys)) + n) (omega (arith, length-append xs ys))
      (paid t (suc d) (k a) b ys j (length xs + (2 + n)) Q front)
  paid _ _ _ _ _ (not_labelled s t d r k other e b xs ys h g i) n Q p =
      let own : Measured e (length xs + 0) =
      paid AnExpression d Expr e xs g 0 Measured (λ e m q. moved (Measured e) m (m + 0) (omega arith) q) in
      let front : Pays (other e) (length xs + 0 + n) Q = p.second e (length xs + 0) own in
      moved (Q b) (length ys + (length xs + 0 + n)) (length (xs ++ ys) + n) (omega (arith, length-append xs ys))
      (paid t d (other e) b ys i (length xs + 0 + n) Q front)
  paid _ _ _ _ _ (ended s t d stop r k u b ys h g) n Q p =
      moved (Q b) (length (u ∷ ys) + (0 + n)) (length (u ∷ ys) + n) (omega arith)
      (paid t d (k []) b (u ∷ ys) g (0 + n) Q (p.second [] 0 no_parts))
  paid _ _ _ _ _ (one_more s t d stop r k u a b xs ys h g i) n Q p =
      let one : PartOf s a (length (u ∷ xs) + 0) = paid s d r a (u ∷ xs) g 0 (PartOf s) p.first in
      let m : ℕ = length (u ∷ xs) + 0 in
      moved (Q b) (length ys + (m + n)) (length (u ∷ (xs ++ ys)) + n) (omega (arith, length-append xs ys))
      (paid t d (Until s t stop r (λ rest. k (a ∷ rest))) b ys i (m + n) Q (record {
        first = p.first;
        second = λ values l parts.
            moved (λ x. Pays (k (a ∷ values)) x Q) (m + l + n) (l + (m + n)) (omega arith)
            (p.second (a ∷ values) (m + l) (more_parts a values m l one parts));
      }))
  paid _ _ _ _ _ (present s t d f k u a b ys h g) n Q p =
      moved (Q b) (length ys + (1 + n)) (length (u ∷ ys) + n) (omega arith)
      (paid t d (k (Some a)) b ys g (1 + n) Q (p.first u a h))
  paid _ _ _ _ _ (absent s t d f k u b ys h g) n Q p = paid t d (k None) b (u ∷ ys) g n Q p.second
  paid _ _ _ _ _ (last s d more r a xs h g) n Q p =
      let one : PartOf s a (length xs + 0) = paid s d r a xs g 0 (PartOf s) p.first in
      moved (Q (a ∷ [])) (length xs + 0 + 0 + n) (length xs + n) (omega arith)
      (p.second (a ∷ []) (length xs + 0 + 0) (more_parts a [] (length xs + 0) 0 one no_parts))
  paid _ _ _ _ _ (another s d more r a values xs ys h g i) n Q p =
      let one : PartOf s a (length xs + 0) = paid s d r a xs g 0 (PartOf s) p.first in
      let m : ℕ = length xs + 0 in
      moved (Q (a ∷ values)) (length ys + (m + n)) (length (xs ++ ys) + n) (omega (arith, length-append xs ys))
      (paid (Listed s) d (Repeat s more r) values ys i (m + n) (λ others l. Q (a ∷ others) l) (record {
        first = p.first;
        second = λ others l parts.
            moved (Q (a ∷ others)) (m + l + n) (l + (m + n)) (omega arith)
            (p.second (a ∷ others) (m + l) (more_parts a others m l one parts));
      }))
