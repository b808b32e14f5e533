-- What tokens spell is spelled further on by the same tokens further on.
use Rattle.std.proofs.Common.{◌≡◌, ℕ, suc, ◌+◌, List, [], ◌∷◌, ◌++◌, Some, None, refl, sym, ap, ◌∙◌, subst}
use Rattle.cmm_lex.specs.Token.{TokenTree}
use Rattle.cmm_tree.specs.Tree.{Nothing}
use Rattle.cmm_grammar.specs.Words.{is_labelled, leaf_of}
use Rattle.cmm_grammar.specs.Rule.{Sort, Value, AnExpression, Listed, Rule, Then, Expr, InsideOr, LabelledOr, Until, Repeat}
use Rattle.cmm_grammar.specs.Grammar.{open_form}
use Rattle.cmm_grammar.specs.Spelling.{Spells, nothing, token, both, leaf, brackets, parenthesis, inside, inside_first, not_inside, labelled, not_labelled, ended, one_more, present, absent, last, another}
use Rattle.moved_texts.specs.Moved.{moved_token, moved_tokens, moved_expression}
use Rattle.moved_texts.proofs.Rules.{moved_value, moved_values, moved_option, RuleMoves}

pub joined : (d : ℕ) (xs ys : List TokenTree) → moved_tokens d (xs ++ ys) ≡ moved_tokens d xs ++ moved_tokens d ys
joined d [] ys = refl
joined d (x ∷ xs) ys = λ i. moved_token d x ∷ joined d xs ys i

still_labelled : (d : ℕ) (xs : List TokenTree) → is_labelled (moved_tokens d xs) ≡ is_labelled xs
still_labelled d [] = refl
still_labelled d (x ∷ []) = refl
still_labelled d (x ∷ y ∷ xs) = refl

-- by what is known of an expression of one token and of a form
module _ (d : ℕ) (leaves : (t : TokenTree) → leaf_of (moved_token d t) ≡ moved_option d AnExpression (leaf_of t))
    (forms : (at : ℕ) → RuleMoves d (open_form at) (open_form (at + d))) where
  abbrev to : (s : Sort) → Value s → Value s
  to s a = moved_value d s a

  abbrev on : List TokenTree → List TokenTree
  on xs = moved_tokens d xs

  pub spells : (s : Sort) (n : ℕ) (r : Rule s) (a : Value s) (xs : List TokenTree) → Spells s n r a xs → (q : Rule s) → RuleMoves d r q → Spells s n q (to s a) (on xs)
  spells _ _ _ _ _ (nothing s n a) q m = subst (λ (q : Rule s). Spells s n q (to s a) []) (sym m) (nothing s n (to s a))
  spells _ _ _ _ _ (token s n f t a e) q m =
      subst (λ (q : Rule s). Spells s n q (to s a) (moved_token d t ∷ [])) (sym m.1)
      (token s n m.0 (moved_token d t) (to s a) (m.2 t ∙ ap (moved_option d s) e))
  spells _ _ _ _ _ (both s t n r k a b xs ys h g) q m =
      let first = spells s n r a xs h m.0 m.3 in
      let later = spells t n (k a) b ys g (m.1 (to s a)) (m.4 a) in
      subst (λ (q : Rule t). Spells t n q (to t b) (on (xs ++ ys))) (sym m.2)
      (subst (λ zs. Spells t n (Then s t m.0 m.1) (to t b) zs) (sym (joined d xs ys)) (both s t n m.0 m.1 (to s a) (to t b) (on xs) (on ys) first later))
  spells _ _ _ _ _ (leaf n t e h) q m =
      subst (λ (q : Rule AnExpression). Spells AnExpression n q (moved_expression d e) (moved_token d t ∷ [])) (sym m)
      (leaf n (moved_token d t) (moved_expression d e) (leaves t ∙ ap (moved_option d AnExpression) h))
  spells _ _ _ _ _ (brackets n o c h g) q m =
      subst (λ (q : Rule AnExpression). Spells AnExpression n q (Nothing (o.at + d)) (moved_token d o ∷ moved_token d c ∷ [])) (sym m)
      (brackets n (moved_token d o) (moved_token d c) h g)
  spells _ _ _ _ _ (parenthesis n o e xs h g) q m =
      let inner = spells AnExpression n (open_form o.at) e xs g (open_form (o.at + d)) (forms o.at) in
      subst (λ (q : Rule AnExpression). Spells AnExpression (suc n) q (moved_expression d e) (moved_token d o ∷ on xs)) (sym m)
      (parenthesis n (moved_token d o) (moved_expression d e) (on xs) h inner)
  spells _ _ _ _ _ (inside s n r o a xs h g) q m =
      let inner = spells s n (r o.at) a xs g (m.0 (o.at + d)) (m.2 o.at) in
      subst (λ (q : Rule s). Spells s (suc n) q (to s a) (moved_token d o ∷ on xs)) (sym m.1)
      (inside s n m.0 (moved_token d o) (to s a) (on xs) h inner)
  spells _ _ _ _ _ (inside_first s t n r k other o a b xs ys h g i) q m =
      let inner = spells s n (r o.at) a xs g (m.0 (o.at + d)) (m.4 o.at) in
      let later = spells t (suc n) (k a) b ys i (m.1 (to s a)) (m.5 a) in
      subst (λ (q : Rule t). Spells t (suc n) q (to t b) (moved_token d o ∷ on (xs ++ ys))) (sym m.3)
      (subst (λ zs. Spells t (suc n) (InsideOr s t m.0 m.1 m.2) (to t b) (moved_token d o ∷ zs)) (sym (joined d xs ys))
      (inside_first s t n m.0 m.1 m.2 (moved_token d o) (to s a) (to t b) (on xs) (on ys) h inner later))
  spells _ _ _ _ _ (not_inside s t n r k other u b ys h g) q m =
      let later = spells t n other b (u ∷ ys) g m.2 m.6 in
      subst (λ (q : Rule t). Spells t n q (to t b) (moved_token d u ∷ on ys)) (sym m.3)
      (not_inside s t n m.0 m.1 m.2 (moved_token d u) (to t b) (on ys) h later)
  spells _ _ _ _ _ (labelled s t n r k other o name a b xs ys h i g j) q m =
      let inner = spells s n (r name) a xs g (m.0 (moved_token d name)) (m.4 name) in
      let later = spells t (suc n) (k a) b ys j (m.1 (to s a)) (m.5 a) in
      subst (λ (q : Rule t). Spells t (suc n) q (to t b) (moved_token d o ∷ moved_token d name ∷ on (xs ++ ys))) (sym m.3)
      (subst (λ zs. Spells t (suc n) (LabelledOr s t m.0 m.1 m.2) (to t b) (moved_token d o ∷ moved_token d name ∷ zs)) (sym (joined d xs ys))
      (labelled s t n m.0 m.1 m.2 (moved_token d o) (moved_token d name) (to s a) (to t b) (on xs) (on ys) h i inner later))
  spells _ _ _ _ _ (not_labelled s t n r k other e b xs ys h g i) q m =
      let first = spells AnExpression n Expr e xs g Expr refl in
      let later = spells t n (other e) b ys i (m.2 (moved_expression d e)) (m.6 e) in
      subst (λ (q : Rule t). Spells t n q (to t b) (on (xs ++ ys))) (sym m.3)
      (subst (λ zs. Spells t n (LabelledOr s t m.0 m.1 m.2) (to t b) zs) (sym (joined d xs ys))
      (not_labelled s t n m.0 m.1 m.2 (moved_expression d e) (to t b) (on xs) (on ys) (still_labelled d xs ∙ h) first later))
  spells _ _ _ _ _ (ended s t n stop r k u b ys h g) q m =
      let later = spells t n (k []) b (u ∷ ys) g (m.2 []) (m.6 []) in
      subst (λ (q : Rule t). Spells t n q (to t b) (moved_token d u ∷ on ys)) (sym m.3)
      (ended s t n m.0 m.1 m.2 (moved_token d u) (to t b) (on ys) (m.4 u ∙ h) later)
  spells _ _ _ _ _ (one_more s t n stop r k u a b xs ys h g i) q m =
      let first = spells s n r a (u ∷ xs) g m.1 m.5 in
      let later = spells t n (Until s t stop r (λ rest. k (a ∷ rest))) b ys i (Until s t m.0 m.1 (λ rest. m.2 (to s a ∷ rest)))
      (m.0, m.1, (λ rest. m.2 (to s a ∷ rest)), refl, m.4, m.5, (λ vs. m.6 (a ∷ vs))) in
      subst (λ (q : Rule t). Spells t n q (to t b) (moved_token d u ∷ on (xs ++ ys))) (sym m.3)
      (subst (λ zs. Spells t n (Until s t m.0 m.1 m.2) (to t b) (moved_token d u ∷ zs)) (sym (joined d xs ys))
      (one_more s t n m.0 m.1 m.2 (moved_token d u) (to s a) (to t b) (on xs) (on ys) (m.4 u ∙ h) first later))
  spells _ _ _ _ _ (present s t n f k u a b ys h g) q m =
      let later = spells t n (k (Some a)) b ys g (m.1 (Some (to s a))) (m.4 (Some a)) in
      subst (λ (q : Rule t). Spells t n q (to t b) (moved_token d u ∷ on ys)) (sym m.2)
      (present s t n m.0 m.1 (moved_token d u) (to s a) (to t b) (on ys) (m.3 u ∙ ap (moved_option d s) h) later)
  spells _ _ _ _ _ (absent s t n f k u b ys h g) q m =
      let later = spells t n (k None) b (u ∷ ys) g (m.1 None) (m.4 None) in
      subst (λ (q : Rule t). Spells t n q (to t b) (moved_token d u ∷ on ys)) (sym m.2)
      (absent s t n m.0 m.1 (moved_token d u) (to t b) (on ys) (m.3 u ∙ ap (moved_option d s) h) later)
  spells _ _ _ _ _ (last s n more r a xs h g) q m =
      let only = spells s n r a xs g m.1 m.4 in
      subst (λ (q : Rule (Listed s)). Spells (Listed s) n q (to s a ∷ []) (on xs)) (sym m.2)
      (last s n m.0 m.1 (to s a) (on xs) (m.3 a ∙ h) only)
  spells _ _ _ _ _ (another s n more r a values xs ys h g i) q m =
      let first = spells s n r a xs g m.1 m.4 in
      let later = spells (Listed s) n (Repeat s more r) values ys i (Repeat s m.0 m.1) (m.0, m.1, refl, m.3, m.4) in
      subst (λ (q : Rule (Listed s)). Spells (Listed s) n q (to s a ∷ moved_values d s values) (on (xs ++ ys))) (sym m.2)
      (subst (λ zs. Spells (Listed s) n (Repeat s m.0 m.1) (to s a ∷ moved_values d s values) zs) (sym (joined d xs ys))
      (another s n m.0 m.1 (to s a) (moved_values d s values) (on xs) (on ys) (m.3 a ∙ h) first later))
