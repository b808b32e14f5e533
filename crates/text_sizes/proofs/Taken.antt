-- What holds of every value that a rule gives, with the bytes of its tokens, holds of what tokens spell by the rule.
use Rattle.std.proofs.Common.{◌≡◌, ℕ, ◌+◌, ◌≤◌, suc, List, [], ◌∷◌, ◌++◌, Some, None, arith}
use Rattle.cmm_lex.specs.Token.{TokenTree}
use Rattle.cmm_tree.specs.Measures.{total}
use Rattle.cmm_tree.specs.Tree.{Expression, Nothing}
use Rattle.cmm_grammar.specs.Parts.{ItemPart, FunctionItem, DataItem}
use Rattle.cmm_grammar.specs.Words.{leaf_of}
use Rattle.cmm_grammar.specs.Rule.{Sort, Value, AnExpression, ABinding, ACase, AHandler, ADataItem, AnItem, Listed, Rule, Give, One, Then, Expr, Inside, InsideOr, LabelledOr, Until, Maybe, Repeat}
use Rattle.cmm_grammar.specs.Grammar.{open_form}
use Rattle.cmm_grammar.specs.Spelling as spelling
use Rattle.cmm_grammar.specs.Spelling.{Spells, nothing, both, leaf, brackets, parenthesis, inside, inside_first, not_inside, labelled, not_labelled, one_more, present, absent, last, another}
use Rattle.text_sizes.specs.Measures.{call_bytes, datum_bytes, list_bytes}
use Rattle.text_sizes.proofs.Bytes.{weight, weight_some, weights, weights_append}
use Rattle.cmm_grammar.proofs.Paid.{moved, Two}

-- its calls take no more than so many bytes, and one is left
pub record Weighed (e : Expression) (n : ℕ) : Type 0 where
  pub calls : total call_bytes e + 1 ≤ n

abbrev pub ItemTakes : ItemPart → ℕ → Type 0
ItemTakes (FunctionItem f) n = total call_bytes f.body ≤ n
ItemTakes (DataItem d) n = list_bytes d.items ≤ n

-- what is known of a value of each sort, of so many bytes
abbrev pub PartOf : (s : Sort) → Value s → ℕ → Type 0
PartOf AnExpression e n = Weighed e n
PartOf ABinding b n = Weighed b.value n
PartOf ACase c n = Weighed c.body n
PartOf AHandler h n = Weighed h.body n
PartOf ADataItem d n = datum_bytes d.datum ≤ n
PartOf AnItem i n = ItemTakes i n
PartOf _ a n = Unit {0}

pub data PartsOf (s : Sort) : List (Value s) → ℕ → Type 0 where
  no_parts : PartsOf s [] 0
  more_parts : (a : Value s) (others : List (Value s)) (m n : ℕ) → PartOf s a m → PartsOf s others n → PartsOf s (a ∷ others) (m + n)

-- every value that the rule gives, n bytes having come before, is so with the number of all bytes
abbrev pub Takes : {s : Sort} → Rule s → ℕ → (Value s → ℕ → Type 0) → Type 0
Takes (Give s a) n Q = Q a n
Takes (One s f) n Q = (t : TokenTree) (a : Value s) → f t ≡ Some a → Q a (weight t + n)
Takes (Then s t r k) n Q = Takes r n (λ a m. Takes (k a) m Q)
Takes Expr n Q = (e : Expression) (m : ℕ) → Weighed e m → Q e (m + n)
Takes (Inside s r) n Q = (at : ℕ) → Takes (r at) (1 + n) Q
Takes (InsideOr s t r k other) n Q = Two ((at : ℕ) → Takes (r at) (1 + n) (λ a m. Takes (k a) m Q)) (Takes other n Q)
Takes (LabelledOr s t r k other) n Q =
    Two ((name : TokenTree) → Takes (r name) (2 + n) (λ a m. Takes (k a) m Q))
    ((e : Expression) (m : ℕ) → Weighed e m → Takes (other e) (m + n) Q)
Takes (Until s t stop r k) n Q =
    Two (Takes r 0 (PartOf s)) ((values : List (Value s)) (m : ℕ) → PartsOf s values m → Takes (k values) (m + n) Q)
Takes (Maybe s t f k) n Q =
    Two ((u : TokenTree) (a : Value s) → f u ≡ Some a → Takes (k (Some a)) (weight u + n) Q) (Takes (k None) n Q)
Takes (Repeat s more r) n Q =
    Two (Takes r 0 (PartOf s)) ((values : List (Value s)) (m : ℕ) → PartsOf s values m → Q values (m + n))

-- it holds of some number up to this one
pub record UpTo (n : ℕ) (Q : ℕ → Type 0) : Type 0 where
  pub bytes : ℕ
  pub few : bytes ≤ n
  pub so : Q bytes

further : {Q : ℕ → Type 0} (m n : ℕ) → m ≤ n → UpTo m Q → UpTo n Q
further m n le u = let few = u.few in record { bytes = u.bytes; few = omega (arith, few, le); so = u.so }

module _ (leaf_weighed : (t : TokenTree) (e : Expression) → leaf_of t ≡ Some e → Weighed e 1)
    (form_takes : (at : ℕ) → Takes (open_form at) 1 Weighed) where
  pub taken : (s : Sort) (d : ℕ) (r : Rule s) (a : Value s) (xs : List TokenTree) → Spells s d r a xs
      → (n : ℕ) (Q : Value s → ℕ → Type 0) → Takes r n Q → UpTo (weights xs + n) (Q a)
  taken _ _ _ _ _ (nothing s d a) n Q p = record { bytes = n; few = omega arith; so = p }
  taken _ _ _ _ _ (spelling.token s d f t a e) n Q p = record { bytes = weight t + n; few = omega arith; so = p t a e }
  taken _ _ _ _ _ (both s t d r k a b xs ys h g) n Q p =
      let x = taken s d r a xs h n (λ a m. Takes (k a) m Q) p in
      let few = x.few in
      further (weights ys + x.bytes) (weights (xs ++ ys) + n) (omega (arith, few, weights_append xs ys)) (taken t d (k a) b ys g x.bytes Q x.so)
  taken _ _ _ _ _ (leaf d t e h) n Q p =
      let some = weight_some t in record { bytes = 1 + n; few = omega (arith, some); so = p e 1 (leaf_weighed t e h) }
  taken _ _ _ _ _ (brackets d o c h g) n Q p =
      let some = weight_some o in record { bytes = 1 + n; few = omega (arith, some); so = p (Nothing o.at) 1 (record { calls = omega arith }) }
  taken _ _ _ _ _ (parenthesis d o e xs h g) n Q p =
      let x = taken AnExpression d (open_form o.at) e xs g 1 Weighed (form_takes o.at) in
      let few = x.few in
      let some = weight_some o in
      record { bytes = x.bytes + n; few = omega (arith, few, some); so = p e x.bytes x.so }
  taken _ _ _ _ _ (inside s d r o a xs h g) n Q p =
      let some = weight_some o in
      further (weights xs + (1 + n)) (weights (o ∷ xs) + n) (omega (arith, some)) (taken s d (r o.at) a xs g (1 + n) Q (p o.at))
  taken _ _ _ _ _ (inside_first s t d r k other o a b xs ys h g i) n Q p =
      let x = taken s d (r o.at) a xs g (1 + n) (λ a m. Takes (k a) m Q) (p.first o.at) in
      let few = x.few in
      let some = weight_some o in
      further (weights ys + x.bytes) (weights (o ∷ (xs ++ ys)) + n) (omega (arith, few, some, weights_append xs ys)) (taken t (suc d) (k a) b ys i x.bytes Q x.so)
  taken _ _ _ _ _ (not_inside s t d r k other u b ys h g) n Q p = taken t d other b (u ∷ ys) g n Q p.second
  taken _ _ _ _ _ (labelled s t d r k other o name a b xs ys h i g j) n Q p =
      let x = taken s d (r name) a xs g (2 + n) (λ a m. Takes (k a) m Q) (p.first name) in
      let few = x.few in
      let some = weight_some o in
      let named = weight_some name in
      further (weights ys + x.bytes) (weights (o ∷ name ∷ (xs ++ ys)) + n) (omega (arith, few, some, named, weights_append xs ys))
      (taken t (suc d) (k a) b ys j x.bytes Q x.so)
  taken _ _ _ _ _ (not_labelled s t d r k other e b xs ys h g i) n Q p =
      let x = taken AnExpression d Expr e xs g 0 Weighed (λ e m q. moved (Weighed e) m (m + 0) (omega arith) q) in
      let few = x.few in
      further (weights ys + (x.bytes + n)) (weights (xs ++ ys) + n) (omega (arith, few, weights_append xs ys))
      (taken t d (other e) b ys i (x.bytes + n) Q (p.second e x.bytes x.so))
  taken _ _ _ _ _ (spelling.ended s t d stop r k u b ys h g) n Q p =
      further (weights (u ∷ ys) + (0 + n)) (weights (u ∷ ys) + n) (omega arith) (taken t d (k []) b (u ∷ ys) g (0 + n) Q (p.second [] 0 no_parts))
  taken _ _ _ _ _ (one_more s t d stop r k u a b xs ys h g i) n Q p =
      let x = taken s d r a (u ∷ xs) g 0 (PartOf s) p.first in
      let few = x.few in
      let m : ℕ = x.bytes in
      further (weights ys + (m + n)) (weights (u ∷ (xs ++ ys)) + n) (omega (arith, few, weights_append xs ys))
      (taken t d (Until s t stop r (λ rest. k (a ∷ rest))) b ys i (m + n) Q (record {
        first = p.first;
        second = λ values l parts.
            moved (λ x. Takes (k (a ∷ values)) x Q) (m + l + n) (l + (m + n)) (omega arith)
            (p.second (a ∷ values) (m + l) (more_parts a values m l x.so parts));
      }))
  taken _ _ _ _ _ (present s t d f k u a b ys h g) n Q p =
      further (weights ys + (weight u + n)) (weights (u ∷ ys) + n) (omega arith) (taken t d (k (Some a)) b ys g (weight u + n) Q (p.first u a h))
  taken _ _ _ _ _ (absent s t d f k u b ys h g) n Q p = taken t d (k None) b (u ∷ ys) g n Q p.second
  taken _ _ _ _ _ (last s d more r a xs h g) n Q p =
      let x = taken s d r a xs g 0 (PartOf s) p.first in
      let few = x.few in
      record { bytes = x.bytes + 0 + n; few = omega (arith, few); so = p.second (a ∷ []) (x.bytes + 0) (more_parts a [] x.bytes 0 x.so no_parts) }
  taken _ _ _ _ _ (another s d more r a values xs ys h g i) n Q p =
      let x = taken s d r a xs g 0 (PartOf s) p.first in
      let few = x.few in
      let m : ℕ = x.bytes in
      further (weights ys + (m + n)) (weights (xs ++ ys) + n) (omega (arith, few, weights_append xs ys))
      (taken (Listed s) d (Repeat s more r) values ys i (m + n) (λ others l. Q (a ∷ others) l) (record {
        first = p.first;
        second = λ others l parts.
            moved (λ x. Q (a ∷ others) x) (m + l + n) (l + (m + n)) (omega arith)
            (p.second (a ∷ others) (m + l) (more_parts a others m l x.so parts));
      }))
