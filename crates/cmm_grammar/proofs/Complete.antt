-- What is spelled so is read, whatever follows.
use Rattle.std.proofs.Common.{◌≡◌, ℕ, ◌<◌, ◌≤◌, zero, suc, Bool, true, false, cond, ◌&&◌, List, [], ◌∷◌, ◌++◌, length, Some, None, refl, ap, ◌∙◌, arith, append_assoc, length-append}
use Rattle.std.proofs.lemmas.Bool.{and_from}
use Rattle.cmm_lex.specs.Token.{TokenTree}
use Rattle.cmm_tree.specs.Tree.{Expression}
use Rattle.cmm_grammar.specs.Words.{is_open, is_open_bracket, is_close_bracket, is_name, is_labelled}
use Rattle.cmm_grammar.specs.Rule.{Sort, Value, AnExpression, Listed, Rule, Then, Expr, InsideOr, LabelledOr, Until, Repeat}
use Rattle.cmm_grammar.specs.Grammar.{open_form}
use Rattle.cmm_grammar.specs.Spelling.{Spells, nothing, token, both, leaf, brackets, parenthesis, inside, inside_first, not_inside, labelled, not_labelled, ended, one_more, present, absent, last, another}
use Rattle.cmm_grammar.specs.Reading.{ReadOutcome, Read, Stops, Reader, bind, given, many, some_of, maybe_given, reads}
use Rattle.cmm_grammar.proofs.Fine.{Solid, Fine}
use Rattle.cmm_grammar.proofs.Basics.{bind_on, bind_bind, cond_on, cond_off, solid_some, leaf_closed, bracket_closed}
use Rattle.cmm_grammar.proofs.Sound.{IsSound, FormsSound, sound}

-- reading takes at least one token
abbrev pub Shortens : {A : Type 0} → Reader A → Type 0
Shortens {A} one = (ts : List TokenTree) (a : A) (rest : List TokenTree) → one ts ≡ Read a rest → suc (length rest) ≤ length ts

pub solid_shortens : (s : Sort) (d : ℕ) (r : Rule s) → Solid r → IsSound s d r → Shortens (reads r d)
solid_shortens s d r solid h ts a rest e =
    let t = h ts a rest e in
    let n = solid_some s d r a t.tokens t.spells solid in
    let m : length ts ≡ length (t.tokens ++ rest) = ap length t.whole in
    omega (arith, n, m, length-append t.tokens rest)

many_step : {A : Type 0} (stop : TokenTree → Bool) (one : Reader A) (n m : ℕ) (o : ReadOutcome A)
    → ((a : A) (rest : List TokenTree) → o ≡ Read a rest → many stop one n rest ≡ many stop one m rest)
    → bind o (λ a rest. bind (many stop one n rest) (λ more final. Read (a ∷ more) final))
    ≡ bind o (λ a rest. bind (many stop one m rest) (λ more final. Read (a ∷ more) final))
many_step stop one n m (Read a rest) h = ap (λ v. bind v (λ more final. Read (a ∷ more) final)) (h a rest refl)
many_step stop one n m (Stops why left) h = refl

-- any bound that is large enough gives the same
pub many_same : {A : Type 0} (stop : TokenTree → Bool) (one : Reader A) → Shortens one → (n m : ℕ) (ts : List TokenTree)
    → length ts ≤ n
    → length ts ≤ m
    → many stop one n ts ≡ many stop one m ts
many_same stop one h n m [] x y = refl
many_same stop one h zero m (t ∷ ts) x y = absurd (omega arith)
many_same stop one h (suc n) zero (t ∷ ts) x y = absurd (omega arith)
many_same stop one h (suc n) (suc m) (t ∷ ts) x y =
    ap (λ v. cond (stop t) (Read [] (t ∷ ts)) v)
    (many_step stop one n m (one (t ∷ ts)) (λ a rest e. let l = h (t ∷ ts) a rest e in many_same stop one h n m rest (omega arith) (omega arith)))

some_step : {A : Type 0} (more : A → Bool) (one : Reader A) (n m : ℕ) (o : ReadOutcome A)
    → ((a : A) (rest : List TokenTree) → o ≡ Read a rest → some_of more one n rest ≡ some_of more one m rest)
    → bind o (λ a rest. cond (more a) (bind (some_of more one n rest) (λ others final. Read (a ∷ others) final)) (Read (a ∷ []) rest))
    ≡ bind o (λ a rest. cond (more a) (bind (some_of more one m rest) (λ others final. Read (a ∷ others) final)) (Read (a ∷ []) rest))
some_step more one n m (Read a rest) h = ap (λ v. cond (more a) (bind v (λ others final. Read (a ∷ others) final)) (Read (a ∷ []) rest)) (h a rest refl)
some_step more one n m (Stops why left) h = refl

pub some_same : {A : Type 0} (more : A → Bool) (one : Reader A) → Shortens one → (n m : ℕ) (ts : List TokenTree)
    → length ts < n
    → length ts < m
    → some_of more one n ts ≡ some_of more one m ts
some_same more one h zero m ts x y = absurd (omega arith)
some_same more one h (suc n) zero ts x y = absurd (omega arith)
some_same more one h (suc n) (suc m) ts x y =
    some_step more one n m (one ts) (λ a rest e. let l = h ts a rest e in some_same more one h n m rest (omega arith) (omega arith))

abbrev pub FineForms : Type 0
FineForms = (e at : ℕ) → Fine (open_form at) e

pub forms_sound : FineForms → (n : ℕ) → FormsSound n
forms_sound fine zero e less at = absurd (omega arith)
forms_sound fine (suc n) e less at = sound AnExpression (open_form at) e (fine e at) (λ f under. forms_sound fine n f (omega arith))

-- a solid rule that is fine takes at least one token
pub shortens : FineForms → (s : Sort) (d : ℕ) (r : Rule s) → Solid r → Fine r d → Shortens (reads r d)
shortens forms s d r solid fine = solid_shortens s d r solid (sound s r d fine (forms_sound forms d))

-- the lists begin again after the first
pub fine_again : (s t : Sort) (d : ℕ) (stop : TokenTree → Bool) (r : Rule s) (k : List (Value s) → Rule t) (a : Value s)
    → Fine (Until s t stop r k) d
    → Fine (Until s t stop r (λ v. k (a ∷ v))) d
fine_again s t d stop r k a fine = record { first = fine.first; second = λ v. fine.second (a ∷ v) }

until_more : (s t : Sort) (d : ℕ) (stop : TokenTree → Bool) (r : Rule s) (k : List (Value s) → Rule t) (u : TokenTree) (ts middle : List TokenTree) (a : Value s) (b : Value t) (rest : List TokenTree)
    → Shortens (reads r d)
    → stop u ≡ false
    → reads r d (u ∷ ts) ≡ Read a middle
    → reads (Until s t stop r (λ v. k (a ∷ v))) d middle ≡ Read b rest
    → reads (Until s t stop r k) d (u ∷ ts) ≡ Read b rest
until_more s t d stop r k u ts middle a b rest short is one others =
    let less = short (u ∷ ts) a middle one in
    let n = length ts in
    let next : List (Value s) → Reader (Value t) = λ v left. reads (k v) d left in
    ap (λ v. bind v next) (cond_off (stop u) _ _ is ∙ bind_on _ _ a middle one)
    ∙ bind_bind (many stop (reads r d) n middle) (λ v. a ∷ v) next
    ∙ ap (λ v. bind v (λ values. next (a ∷ values))) (many_same stop (reads r d) short n (length middle) middle (omega arith) (omega arith))
    ∙ others

repeat_more : (s : Sort) (d : ℕ) (more : Value s → Bool) (r : Rule s) (ts middle : List TokenTree) (a : Value s) (values : List (Value s)) (rest : List TokenTree)
    → Shortens (reads r d)
    → more a ≡ true
    → reads r d ts ≡ Read a middle
    → reads (Repeat s more r) d middle ≡ Read values rest
    → reads (Repeat s more r) d ts ≡ Read (a ∷ values) rest
repeat_more s d more r ts middle a values rest short is one others =
    let less = short ts a middle one in
    bind_on _ _ a middle one
    ∙ cond_on (more a) _ _ is
    ∙ ap (λ v. bind v (λ w left. Read (a ∷ w) left)) (some_same more (reads r d) short (length ts) (suc (length middle)) middle (omega arith) (omega arith) ∙ others)

abbrev pub IsExpr : {s : Sort} → Rule s → Type 0
IsExpr Expr = Unit {0}
IsExpr _ = ⊥

-- one token alone opens no parenthesis
abbrev AloneClosed : List TokenTree → Type 0
AloneClosed [] = Unit {0}
AloneClosed (x ∷ []) = is_open x ≡ false
AloneClosed (x ∷ y ∷ xs) = Unit {0}

pub form_solid : (at : ℕ) → Solid (open_form at)
unfolding open_form
form_solid at = tt

behind_open : (o : TokenTree) (xs : List TokenTree) → 1 ≤ length xs → AloneClosed (o ∷ xs)
behind_open o [] h = absurd (omega arith)
behind_open o (x ∷ xs) h = tt

alone : (s : Sort) (d : ℕ) (r : Rule s) (a : Value s) (xs : List TokenTree) → Spells s d r a xs → IsExpr r → AloneClosed xs
alone _ _ _ _ _ (leaf d t e h) is = (leaf_closed t e h).0
alone _ _ _ _ _ (brackets d o c h g) is = tt
alone _ _ _ _ _ (parenthesis d o e xs h g) is = behind_open o xs (solid_some AnExpression d (open_form o.at) e xs g (form_solid o.at))
alone _ _ _ _ _ _ is = absurd is

alone_closed : (d : ℕ) (o : TokenTree) (e : Expression) → Spells AnExpression d Expr e (o ∷ []) → is_open o ≡ false
alone_closed d o e h = alone AnExpression d Expr e (o ∷ []) h tt

-- where an expression is spelled that is not labelled, it is read first
pub not_labelled_read : (s t : Sort) (d : ℕ) (r : TokenTree → Rule s) (k : Value s → Rule t) (other : Expression → Rule t) (e : Expression) (xs rest : List TokenTree)
    → is_labelled xs ≡ false
    → Spells AnExpression d Expr e xs
    → reads Expr d (xs ++ rest) ≡ Read e rest
    → reads (LabelledOr s t r k other) d (xs ++ rest) ≡ reads (other e) d rest
not_labelled_read s t d r k other e [] rest is h one = absurd (omega (arith, solid_some AnExpression d Expr e [] h tt))
not_labelled_read s t d r k other e (o ∷ n ∷ xs) rest is h one =
    cond_off (is_open o && is_name n) _ _ is ∙ bind_on _ _ e rest one
not_labelled_read s t d r k other e (o ∷ []) [] is h one = bind_on _ _ e [] one
not_labelled_read s t d r k other e (o ∷ []) (n ∷ rest) is h one =
    cond_off (is_open o && is_name n) _ _ (ap (λ v. v && is_name n) (alone_closed d o e h)) ∙ bind_on _ _ e (n ∷ rest) one

-- the rest of the tokens, after those of two parts
behind_two : {A : Type 0} (o : Reader A) (xs ys rest : List TokenTree) → o ((xs ++ ys) ++ rest) ≡ o (xs ++ (ys ++ rest))
behind_two o xs ys rest = ap o (append_assoc xs ys rest)

pub complete : FineForms → (s : Sort) (d : ℕ) (r : Rule s) (a : Value s) (xs : List TokenTree) → Spells s d r a xs → Fine r d → (rest : List TokenTree)
    → reads r d (xs ++ rest) ≡ Read a rest
complete forms _ _ _ _ _ (nothing s d a) fine rest = refl
complete forms _ _ _ _ _ (token s d f t a e) fine rest = ap (λ o. given o rest) e
complete forms _ _ _ _ _ (both s t d r k a b xs ys h g) fine rest =
    behind_two (reads (Then s t r k) d) xs ys rest
    ∙ bind_on _ _ a (ys ++ rest) (complete forms s d r a xs h fine.first (ys ++ rest))
    ∙ complete forms t d (k a) b ys g (fine.second a) rest
complete forms _ _ _ _ _ (leaf d t e h) fine rest =
    let c = leaf_closed t e h in
    cond_off (is_open t) _ _ c.0 ∙ cond_off (is_open_bracket t) _ _ c.1 ∙ ap (λ o. given o rest) h
complete forms _ _ _ _ _ (brackets d o c h g) fine rest =
    cond_off (is_open o) _ _ (bracket_closed o h) ∙ cond_on (is_open_bracket o) _ _ h ∙ cond_on (is_close_bracket c) _ _ g
complete forms _ _ _ _ _ (parenthesis d o e xs h g) fine rest =
    cond_on (is_open o) _ _ h ∙ complete forms AnExpression d (open_form o.at) e xs g (forms d o.at) rest
complete forms _ _ _ _ _ (inside s d r o a xs h g) fine rest =
    cond_on (is_open o) _ _ h ∙ complete forms s d (r o.at) a xs g (fine o.at) rest
complete forms _ _ _ _ _ (inside_first s t d r k other o a b xs ys h g i) fine rest =
    behind_two (λ v. reads (InsideOr s t r k other) (suc d) (o ∷ v)) xs ys rest
    ∙ cond_on (is_open o) _ _ h
    ∙ bind_on _ _ a (ys ++ rest) (complete forms s d (r o.at) a xs g (fine.third.first o.at) (ys ++ rest))
    ∙ complete forms t (suc d) (k a) b ys i (fine.third.second a) rest
complete forms _ _ _ _ _ (not_inside s t d r k other u b ys h g) fine rest =
    cond_off (is_open u) _ _ h ∙ complete forms t d other b (u ∷ ys) g fine.first rest
complete forms _ _ _ _ _ (labelled s t d r k other o n a b xs ys h i g j) fine rest =
    behind_two (λ v. reads (LabelledOr s t r k other) (suc d) (o ∷ n ∷ v)) xs ys rest
    ∙ cond_on (is_open o && is_name n) _ _ (and_from _ _ h i)
    ∙ bind_on _ _ a (ys ++ rest) (complete forms s d (r n) a xs g (fine.second.first n) (ys ++ rest))
    ∙ complete forms t (suc d) (k a) b ys j (fine.second.second a) rest
complete forms _ _ _ _ _ (not_labelled s t d r k other e b xs ys h g i) fine rest =
    behind_two (reads (LabelledOr s t r k other) d) xs ys rest
    ∙ not_labelled_read s t d r k other e xs (ys ++ rest) h g (complete forms AnExpression d Expr e xs g tt (ys ++ rest))
    ∙ complete forms t d (other e) b ys i (fine.first e) rest
complete forms _ _ _ _ _ (ended s t d stop r k u b ys h g) fine rest =
    ap (λ v. bind v (λ values left. reads (k values) d left)) (cond_on (stop u) _ _ h) ∙ complete forms t d (k []) b (u ∷ ys) g (fine.second []).first rest
complete forms _ _ _ _ _ (one_more s t d stop r k u a b xs ys h g i) fine rest =
    behind_two (λ v. reads (Until s t stop r k) d (u ∷ v)) xs ys rest
    ∙ until_more s t d stop r k u (xs ++ (ys ++ rest)) (ys ++ rest) a b rest (shortens forms s d r fine.first.second fine.first.first) h
    (complete forms s d r a (u ∷ xs) g fine.first.first (ys ++ rest))
    (complete forms t d (Until s t stop r (λ v. k (a ∷ v))) b ys i (fine_again s t d stop r k a fine) rest)
complete forms _ _ _ _ _ (present s t d f k u a b ys h g) fine rest =
    ap (λ o. maybe_given o (λ v. reads (k v) d) u (ys ++ rest)) h ∙ complete forms t d (k (Some a)) b ys g (fine.third (Some a)) rest
complete forms _ _ _ _ _ (absent s t d f k u b ys h g) fine rest =
    ap (λ o. maybe_given o (λ v. reads (k v) d) u (ys ++ rest)) h ∙ complete forms t d (k None) b (u ∷ ys) g (fine.third None) rest
complete forms _ _ _ _ _ (last s d more r a xs h g) fine rest =
    bind_on _ _ a rest (complete forms s d r a xs g fine.first rest) ∙ cond_off (more a) _ _ h
complete forms _ _ _ _ _ (another s d more r a values xs ys h g i) fine rest =
    behind_two (reads (Repeat s more r) d) xs ys rest
    ∙ repeat_more s d more r (xs ++ (ys ++ rest)) (ys ++ rest) a values rest (shortens forms s d r fine.second fine.first) h
    (complete forms s d r a xs g fine.first (ys ++ rest))
    (complete forms (Listed s) d (Repeat s more r) values ys i fine rest)
