-- What is read is spelled so.
use Rattle.std.proofs.Common.{◌≡◌, ℕ, ◌<◌, zero, suc, Bool, true, false, cond, ◌&&◌, List, [], ◌∷◌, ◌++◌, length, Option, Some, None, refl, sym, ap, subst, ◌∙◌, arith, append_assoc}
use Rattle.std.proofs.lemmas.Bool.{and_parts}
use Rattle.cmm_lex.specs.Token.{TokenTree}
use Rattle.cmm_tree.specs.Tree.{Expression, Nothing}
use Rattle.cmm_grammar.specs.Words.{is_open, is_open_bracket, is_close_bracket, is_name, is_labelled, leaf_of}
use Rattle.cmm_grammar.specs.Rule.{Sort, Value, AnExpression, Listed, Rule, Give, One, Then, Expr, Inside, InsideOr, LabelledOr, Until, Maybe, Repeat}
use Rattle.cmm_grammar.specs.Grammar.{open_form}
use Rattle.cmm_grammar.specs.Spelling.{Spells, nothing, token, both, leaf, brackets, parenthesis, inside, inside_first, not_inside, labelled, not_labelled, ended, one_more, present, absent, last, another}
use Rattle.cmm_grammar.specs.Reading.{ReadOutcome, Read, Stops, Stuck, bind, given, behind, bracket_at, many, some_of, maybe_given, deeper, form_below, reading, forms_below, reads}
use Rattle.cmm_grammar.proofs.Fine.{Solid, Fine}
use Rattle.cmm_grammar.proofs.Basics.{read_inj, bind_read, given_read, solid_some}

-- the tokens that were read spell the value
pub record Taken (s : Sort) (d : ℕ) (r : Rule s) (a : Value s) (ts rest : List TokenTree) : Type 0 where
  pub tokens : List TokenTree
  pub spells : Spells s d r a tokens
  pub whole : ts ≡ tokens ++ rest

abbrev pub IsSound : (s : Sort) → ℕ → Rule s → Type 0
IsSound s d r = (ts : List TokenTree) (a : Value s) (rest : List TokenTree) → reads r d ts ≡ Read a rest → Taken s d r a ts rest

-- the forms below a level are
abbrev pub FormsSound : ℕ → Type 0
FormsSound d = (e : ℕ) → e < d → (at : ℕ) → IsSound AnExpression e (open_form at)

pub lower : (d : ℕ) → FormsSound (suc d) → FormsSound d
lower d h e less at = h e (omega arith) at

bracket_sound : (d : ℕ) (o : TokenTree) (ts : List TokenTree) (a : Expression) (rest : List TokenTree)
    → is_open_bracket o ≡ true
    → bracket_at o.at ts ≡ Read a rest
    → Taken AnExpression d Expr a (o ∷ ts) rest
bracket_sound d o [] a rest is e = cc
bracket_sound d o (c ∷ ts) a rest is e = go (is_close_bracket c) refl e
  where
    go : (b : Bool) → is_close_bracket c ≡ b → cond b (Read (Nothing o.at) ts) (Stops Stuck (suc (length ts))) ≡ Read a rest → Taken AnExpression d Expr a (o ∷ c ∷ ts) rest
    go false i e = cc
    go true i e =
        let same = read_inj _ _ _ _ e in
        record {
          tokens = o ∷ c ∷ [];
          spells = subst (λ (v : Expression). Spells AnExpression d Expr v (o ∷ c ∷ [])) same.0 (brackets d o c is i);
          whole = ap (λ (v : List TokenTree). o ∷ c ∷ v) same.1;
        }

form_sound : (d : ℕ) → FormsSound d → (o : TokenTree) (ts : List TokenTree) (a : Expression) (rest : List TokenTree)
    → is_open o ≡ true
    → form_below d (forms_below d 0 o.at) ts ≡ Read a rest
    → Taken AnExpression d Expr a (o ∷ ts) rest
form_sound zero h o ts a rest is e = cc
form_sound (suc d) h o ts a rest is e =
    let t = h d (omega arith) o.at ts a rest e in
    record { tokens = o ∷ t.tokens; spells = parenthesis d o a t.tokens is t.spells; whole = ap (λ (v : List TokenTree). o ∷ v) t.whole }

pub expr_sound : (d : ℕ) → FormsSound d → IsSound AnExpression d Expr
expr_sound d h [] a rest e = cc
expr_sound d h (t ∷ ts) a rest e = at_open (is_open t) refl e
  where
    at_bracket : (b : Bool) → is_open_bracket t ≡ b → cond b (bracket_at t.at ts) (given (leaf_of t) ts) ≡ Read a rest → Taken AnExpression d Expr a (t ∷ ts) rest
    at_bracket true is e = bracket_sound d t ts a rest is e
    at_bracket false is e =
        let g = given_read (leaf_of t) a ts rest e in
        record { tokens = t ∷ []; spells = leaf d t a g.0; whole = ap (λ (v : List TokenTree). t ∷ v) g.1 }

    at_open : (b : Bool) → is_open t ≡ b
        → cond b (form_below d (forms_below d 0 t.at) ts) (cond (is_open_bracket t) (bracket_at t.at ts) (given (leaf_of t) ts)) ≡ Read a rest
        → Taken AnExpression d Expr a (t ∷ ts) rest
    at_open true is e = form_sound d h t ts a rest is e
    at_open false is e = at_bracket (is_open_bracket t) refl e

-- a list up to a token, and what is left, which begins with that token
pub record ManyTaken (s : Sort) (d : ℕ) (stop : TokenTree → Bool) (r : Rule s) (values : List (Value s)) (ts rest : List TokenTree) : Type 0 where
  pub next : TokenTree
  pub others : List TokenTree
  pub is_rest : rest ≡ next ∷ others
  pub is_stop : stop next ≡ true
  pub goes_on : (t : Sort) (k : List (Value s) → Rule t) (b : Value t) (ys zs : List TokenTree) → Spells t d (k values) b (next ∷ ys) → others ≡ ys ++ zs
      → Taken t d (Until s t stop r k) b ts zs

pub some_tokens : (s : Sort) (d : ℕ) (r : Rule s) (a : Value s) (t : TokenTree) (ts rest xs : List TokenTree) → Spells s d r a xs → Solid r → t ∷ ts ≡ xs ++ rest
    → (ys : List TokenTree) × (xs ≡ t ∷ ys) × (ts ≡ ys ++ rest)
some_tokens s d r a t ts rest [] h solid e = absurd (omega (arith, solid_some s d r a [] h solid))
some_tokens s d r a t ts rest (x ∷ ys) h solid e = (ys, cc, cc)

many_ended : (s : Sort) (d : ℕ) (stop : TokenTree → Bool) (r : Rule s) (t : TokenTree) (ts : List TokenTree) (values : List (Value s)) (rest : List TokenTree)
    → stop t ≡ true
    → ◌≡◌ {A = ReadOutcome (List (Value s))} (Read [] (t ∷ ts)) (Read values rest)
    → ManyTaken s d stop r values (t ∷ ts) rest
many_ended s d stop r t ts values rest is e =
    let same = read_inj _ _ _ _ e in
    record {
      next = t;
      others = ts;
      is_rest = sym same.1;
      is_stop = is;
      goes_on = λ q k b ys zs h w.
          record {
            tokens = t ∷ ys;
            spells = ended s q d stop r k t b ys is (subst (λ (v : List (Value s)). Spells q d (k v) b (t ∷ ys)) (sym same.0) h);
            whole = ap (λ (v : List TokenTree). t ∷ v) w;
          };
    }

many_more : (s : Sort) (d : ℕ) (stop : TokenTree → Bool) (r : Rule s) (t : TokenTree) (ts : List TokenTree) (a : Value s) (middle : List TokenTree)
    (more : List (Value s)) (final : List TokenTree) (values : List (Value s)) (rest : List TokenTree)
    → stop t ≡ false
    → Taken s d r a (t ∷ ts) middle
    → Solid r
    → ManyTaken s d stop r more middle final
    → a ∷ more ≡ values
    → final ≡ rest
    → ManyTaken s d stop r values (t ∷ ts) rest
many_more s d stop r t ts a middle more final values rest is one solid m same left =
    let x = some_tokens s d r a t ts middle one.tokens one.spells solid one.whole in
    record {
      next = m.next;
      others = m.others;
      is_rest = sym left ∙ m.is_rest;
      is_stop = m.is_stop;
      goes_on = λ q k b ys zs h w.
          let g = m.goes_on q (λ v. k (a ∷ v)) b ys zs (subst (λ (v : List (Value s)). Spells q d (k v) b (m.next ∷ ys)) (sym same) h) w in
          record {
            tokens = t ∷ (x.0 ++ g.tokens);
            spells = one_more s q d stop r k t a b x.0 g.tokens is (subst (λ (v : List TokenTree). Spells s d r a v) x.1 one.spells) g.spells;
            whole = ap (λ (v : List TokenTree). t ∷ v) (x.2 ∙ ap (λ (v : List TokenTree). x.0 ++ v) g.whole ∙ sym (append_assoc x.0 g.tokens zs));
          };
    }

many_sound : (s : Sort) (d : ℕ) (stop : TokenTree → Bool) (r : Rule s) → Solid r → IsSound s d r → (n : ℕ) (ts : List TokenTree) (values : List (Value s)) (rest : List TokenTree)
    → many stop (reads r d) n ts ≡ Read values rest
    → ManyTaken s d stop r values ts rest
many_sound s d stop r solid one n [] values rest e = cc
many_sound s d stop r solid one zero (t ∷ ts) values rest e = go (stop t) refl e
  where
    go : (b : Bool) → stop t ≡ b → cond b (Read [] (t ∷ ts)) (Stops Stuck (suc (length ts))) ≡ Read values rest → ManyTaken s d stop r values (t ∷ ts) rest
    go false is e = cc
    go true is e = many_ended s d stop r t ts values rest is e
many_sound s d stop r solid one (suc n) (t ∷ ts) values rest e = go (stop t) refl e (λ middle more final. many_sound s d stop r solid one n middle more final)
  where
    go : (b : Bool) → stop t ≡ b
        → cond b (Read [] (t ∷ ts)) (bind (reads r d (t ∷ ts)) (λ a middle. bind (many stop (reads r d) n middle) (λ more final. Read (a ∷ more) final))) ≡ Read values rest
        → ((middle : List TokenTree) (more : List (Value s)) (final : List TokenTree) → many stop (reads r d) n middle ≡ Read more final → ManyTaken s d stop r more middle final)
        → ManyTaken s d stop r values (t ∷ ts) rest
    go true is e later = many_ended s d stop r t ts values rest is e
    go false is e later =
        let p = bind_read _ _ values rest e in
        let q = bind_read _ _ values rest p.second in
        let same = read_inj _ _ _ _ q.second in
        let m = later p.middle q.a q.middle q.first in
        many_more s d stop r t ts p.a p.middle q.a q.middle values rest is (one (t ∷ ts) p.a p.middle p.first) solid m same.0 same.1

some_sound : (s : Sort) (d : ℕ) (more : Value s → Bool) (r : Rule s) → IsSound s d r → (n : ℕ) (ts : List TokenTree) (values : List (Value s)) (rest : List TokenTree)
    → some_of more (reads r d) n ts ≡ Read values rest
    → Taken (Listed s) d (Repeat s more r) values ts rest
some_sound s d more r one zero ts values rest e = cc
some_sound s d more r one (suc n) ts values rest e =
    let p = bind_read _ _ values rest e in
    let h = one ts p.a p.middle p.first in
    go p.a p.middle (more p.a) refl p.second h (λ middle others final. some_sound s d more r one n middle others final)
  where
    go : (a : Value s) (middle : List TokenTree) (b : Bool) → more a ≡ b
        → cond b (bind (some_of more (reads r d) n middle) (λ others final. Read (a ∷ others) final)) (Read (a ∷ []) middle) ≡ Read values rest
        → Taken s d r a ts middle
        → ((middle : List TokenTree) (others : List (Value s)) (final : List TokenTree) → some_of more (reads r d) n middle ≡ Read others final → Taken (Listed s) d (Repeat s more r) others middle final)
        → Taken (Listed s) d (Repeat s more r) values ts rest
    go a middle false is e h later =
        let same = read_inj _ _ _ _ e in
        record {
          tokens = h.tokens;
          spells = subst (λ (v : List (Value s)). Spells (Listed s) d (Repeat s more r) v h.tokens) same.0 (last s d more r a h.tokens is h.spells);
          whole = h.whole ∙ ap (λ (v : List TokenTree). h.tokens ++ v) same.1;
        }
    go a middle true is e h later =
        let q = bind_read _ _ values rest e in
        let same = read_inj _ _ _ _ q.second in
        let g = later middle q.a q.middle q.first in
        record {
          tokens = h.tokens ++ g.tokens;
          spells = subst (λ (v : List (Value s)). Spells (Listed s) d (Repeat s more r) v (h.tokens ++ g.tokens)) same.0 (another s d more r a q.a h.tokens g.tokens is h.spells g.spells);
          whole = h.whole ∙ ap (λ (v : List TokenTree). h.tokens ++ v) (g.whole ∙ ap (λ (v : List TokenTree). g.tokens ++ v) same.1) ∙ sym (append_assoc h.tokens g.tokens rest);
        }

inside_sound : (s : Sort) (d : ℕ) (r : ℕ → Rule s) → ((at : ℕ) → IsSound s d (r at)) → IsSound s (suc d) (Inside s r)
inside_sound s d r inner [] b rest e = cc
inside_sound s d r inner (t ∷ ts) b rest e = go (is_open t) refl e
  where
    go : (o : Bool) → is_open t ≡ o → cond o (reads (r t.at) d ts) (Stops Stuck (suc (length ts))) ≡ Read b rest → Taken s (suc d) (Inside s r) b (t ∷ ts) rest
    go false is e = cc
    go true is e =
        let x = inner t.at ts b rest e in
        record { tokens = t ∷ x.tokens; spells = inside s d r t b x.tokens is x.spells; whole = ap (λ (v : List TokenTree). t ∷ v) x.whole }

other_sound : (s t : Sort) (d : ℕ) (r : ℕ → Rule s) (k : Value s → Rule t) (other : Rule t) (u : TokenTree) (us : List TokenTree) (b : Value t) (rest : List TokenTree)
    → Solid other
    → is_open u ≡ false
    → Taken t d other b (u ∷ us) rest
    → Taken t d (InsideOr s t r k other) b (u ∷ us) rest
other_sound s t d r k other u us b rest solid is h =
    let x = some_tokens t d other b u us rest h.tokens h.spells solid h.whole in
    record {
      tokens = u ∷ x.0;
      spells = not_inside s t d r k other u b x.0 is (subst (λ (v : List TokenTree). Spells t d other b v) x.1 h.spells);
      whole = ap (λ (v : List TokenTree). u ∷ v) x.2;
    }

flat_sound : (s t : Sort) (r : ℕ → Rule s) (k : Value s → Rule t) (other : Rule t) → IsSound t zero other → Solid other → IsSound t zero (InsideOr s t r k other)
flat_sound s t r k other one solid [] b rest e = cc
flat_sound s t r k other one solid (u ∷ us) b rest e = go (is_open u) refl e
  where
    go : (o : Bool) → is_open u ≡ o
        → cond o (bind (deeper zero (λ e below. reading (r u.at) e below) (forms_below zero) us) (λ a. reads (k a) zero)) (reads other zero (u ∷ us)) ≡ Read b rest
        → Taken t zero (InsideOr s t r k other) b (u ∷ us) rest
    go true is e = cc
    go false is e = other_sound s t zero r k other u us b rest solid is (one (u ∷ us) b rest e)

inside_or_sound : (s t : Sort) (d : ℕ) (r : ℕ → Rule s) (k : Value s → Rule t) (other : Rule t)
    → ((at : ℕ) → IsSound s d (r at))
    → ((a : Value s) → IsSound t (suc d) (k a))
    → IsSound t (suc d) other
    → Solid other
    → IsSound t (suc d) (InsideOr s t r k other)
inside_or_sound s t d r k other inner next one solid [] b rest e = cc
inside_or_sound s t d r k other inner next one solid (u ∷ us) b rest e = go (is_open u) refl e
  where
    go : (o : Bool) → is_open u ≡ o
        → cond o (bind (reads (r u.at) d us) (λ a. reads (k a) (suc d))) (reads other (suc d) (u ∷ us)) ≡ Read b rest
        → Taken t (suc d) (InsideOr s t r k other) b (u ∷ us) rest
    go false is e = other_sound s t (suc d) r k other u us b rest solid is (one (u ∷ us) b rest e)
    go true is e =
        let p = bind_read _ _ b rest e in
        let x = inner u.at us p.a p.middle p.first in
        let y = next p.a p.middle b rest p.second in
        record {
          tokens = u ∷ (x.tokens ++ y.tokens);
          spells = inside_first s t d r k other u p.a b x.tokens y.tokens is x.spells y.spells;
          whole = ap (λ (v : List TokenTree). u ∷ v) (x.whole ∙ ap (λ (v : List TokenTree). x.tokens ++ v) y.whole ∙ sym (append_assoc x.tokens y.tokens rest));
        }

pub unlabelled_front : (xs rest ts : List TokenTree) → ts ≡ xs ++ rest → is_labelled ts ≡ false → is_labelled xs ≡ false
unlabelled_front [] rest ts e h = refl
unlabelled_front (x ∷ []) rest ts e h = refl
unlabelled_front (x ∷ y ∷ xs) rest ts e h = sym (ap is_labelled e) ∙ h

unlabelled_sound : (s t : Sort) (d : ℕ) (r : TokenTree → Rule s) (k : Value s → Rule t) (other : Expression → Rule t) (ts : List TokenTree) (b : Value t) (rest : List TokenTree)
    → IsSound AnExpression d Expr
    → ((e : Expression) → IsSound t d (other e))
    → is_labelled ts ≡ false
    → bind (reads Expr d ts) (λ e. reads (other e) d) ≡ Read b rest
    → Taken t d (LabelledOr s t r k other) b ts rest
unlabelled_sound s t d r k other ts b rest one next is e =
    let p = bind_read _ _ b rest e in
    let x = one ts p.a p.middle p.first in
    let y = next p.a p.middle b rest p.second in
    record {
      tokens = x.tokens ++ y.tokens;
      spells = not_labelled s t d r k other p.a b x.tokens y.tokens (unlabelled_front x.tokens p.middle ts x.whole is) x.spells y.spells;
      whole = x.whole ∙ ap (λ (v : List TokenTree). x.tokens ++ v) y.whole ∙ sym (append_assoc x.tokens y.tokens rest);
    }

flat_labelled_sound : (s t : Sort) (r : TokenTree → Rule s) (k : Value s → Rule t) (other : Expression → Rule t)
    → IsSound AnExpression zero Expr
    → ((e : Expression) → IsSound t zero (other e))
    → IsSound t zero (LabelledOr s t r k other)
flat_labelled_sound s t r k other one next [] b rest e = cc
flat_labelled_sound s t r k other one next (o ∷ []) b rest e = unlabelled_sound s t zero r k other (o ∷ []) b rest one next refl e
flat_labelled_sound s t r k other one next (o ∷ n ∷ ts) b rest e = go (is_open o && is_name n) refl e
  where
    go : (c : Bool) → (is_open o && is_name n) ≡ c
        → cond c (bind (deeper zero (λ e below. behind (λ n. reading (r n) e below)) (forms_below zero) (n ∷ ts)) (λ a. reads (k a) zero)) (bind (reads Expr zero (o ∷ n ∷ ts)) (λ e. reads (other e) zero)) ≡ Read b rest
        → Taken t zero (LabelledOr s t r k other) b (o ∷ n ∷ ts) rest
    go true is e = cc
    go false is e = unlabelled_sound s t zero r k other (o ∷ n ∷ ts) b rest one next is e

labelled_sound : (s t : Sort) (d : ℕ) (r : TokenTree → Rule s) (k : Value s → Rule t) (other : Expression → Rule t)
    → ((n : TokenTree) → IsSound s d (r n))
    → ((a : Value s) → IsSound t (suc d) (k a))
    → IsSound AnExpression (suc d) Expr
    → ((e : Expression) → IsSound t (suc d) (other e))
    → IsSound t (suc d) (LabelledOr s t r k other)
labelled_sound s t d r k other inner then' one next [] b rest e = cc
labelled_sound s t d r k other inner then' one next (o ∷ []) b rest e = unlabelled_sound s t (suc d) r k other (o ∷ []) b rest one next refl e
labelled_sound s t d r k other inner then' one next (o ∷ n ∷ ts) b rest e = go (is_open o && is_name n) refl e
  where
    go : (c : Bool) → (is_open o && is_name n) ≡ c
        → cond c (bind (reads (r n) d ts) (λ a. reads (k a) (suc d))) (bind (reads Expr (suc d) (o ∷ n ∷ ts)) (λ e. reads (other e) (suc d))) ≡ Read b rest
        → Taken t (suc d) (LabelledOr s t r k other) b (o ∷ n ∷ ts) rest
    go false is e = unlabelled_sound s t (suc d) r k other (o ∷ n ∷ ts) b rest one next is e
    go true is e =
        let both_hold = and_parts (is_open o) (is_name n) is in
        let p = bind_read _ _ b rest e in
        let x = inner n ts p.a p.middle p.first in
        let y = then' p.a p.middle b rest p.second in
        record {
          tokens = o ∷ n ∷ (x.tokens ++ y.tokens);
          spells = labelled s t d r k other o n p.a b x.tokens y.tokens both_hold.0 both_hold.1 x.spells y.spells;
          whole = ap (λ (v : List TokenTree). o ∷ n ∷ v) (x.whole ∙ ap (λ (v : List TokenTree). x.tokens ++ v) y.whole ∙ sym (append_assoc x.tokens y.tokens rest));
        }

until_sound : (s t : Sort) (d : ℕ) (stop : TokenTree → Bool) (r : Rule s) (k : List (Value s) → Rule t)
    → IsSound s d r
    → Solid r
    → ((values : List (Value s)) → IsSound t d (k values))
    → ((values : List (Value s)) → Solid (k values))
    → IsSound t d (Until s t stop r k)
until_sound s t d stop r k one solid next solid_next ts b rest e =
    let p = bind_read _ _ b rest e in
    let m = many_sound s d stop r solid one (length ts) ts p.a p.middle p.first in
    let y = next p.a p.middle b rest p.second in
    let x = some_tokens t d (k p.a) b m.next m.others rest y.tokens y.spells (solid_next p.a) (sym m.is_rest ∙ y.whole) in
    m.goes_on t k b x.0 rest (subst (λ (v : List TokenTree). Spells t d (k p.a) b v) x.1 y.spells) x.2

maybe_sound : (s t : Sort) (d : ℕ) (f : TokenTree → Option (Value s)) (k : Option (Value s) → Rule t)
    → ((o : Option (Value s)) → IsSound t d (k o))
    → Solid (k None)
    → IsSound t d (Maybe s t f k)
maybe_sound s t d f k next solid [] b rest e = cc
maybe_sound s t d f k next solid (u ∷ us) b rest e = go (f u) refl e
  where
    go : (o : Option (Value s)) → f u ≡ o → maybe_given o (λ v. reads (k v) d) u us ≡ Read b rest → Taken t d (Maybe s t f k) b (u ∷ us) rest
    go None is e =
        let y = next None (u ∷ us) b rest e in
        let x = some_tokens t d (k None) b u us rest y.tokens y.spells solid y.whole in
        record {
          tokens = u ∷ x.0;
          spells = absent s t d f k u b x.0 is (subst (λ (v : List TokenTree). Spells t d (k None) b v) x.1 y.spells);
          whole = ap (λ (v : List TokenTree). u ∷ v) x.2;
        }
    go (Some a) is e =
        let y = next (Some a) us b rest e in
        record { tokens = u ∷ y.tokens; spells = present s t d f k u a b y.tokens is y.spells; whole = ap (λ (v : List TokenTree). u ∷ v) y.whole }

one_sound : (s : Sort) (d : ℕ) (f : TokenTree → Option (Value s)) → IsSound s d (One s f)
one_sound s d f [] b rest e = cc
one_sound s d f (t ∷ ts) b rest e =
    let g = given_read (f t) b ts rest e in
    record { tokens = t ∷ []; spells = token s d f t b g.0; whole = ap (λ (v : List TokenTree). t ∷ v) g.1 }

then_sound : (s t : Sort) (d : ℕ) (r : Rule s) (k : Value s → Rule t) → IsSound s d r → ((a : Value s) → IsSound t d (k a)) → IsSound t d (Then s t r k)
then_sound s t d r k one next ts b rest e =
    let p = bind_read (reads r d ts) _ b rest e in
    let x = one ts p.a p.middle p.first in
    let y = next p.a p.middle b rest p.second in
    record {
      tokens = x.tokens ++ y.tokens;
      spells = both s t d r k p.a b x.tokens y.tokens x.spells y.spells;
      whole = x.whole ∙ ap (λ (v : List TokenTree). x.tokens ++ v) y.whole ∙ sym (append_assoc x.tokens y.tokens rest);
    }

give_sound : (s : Sort) (d : ℕ) (a : Value s) → IsSound s d (Give s a)
give_sound s d a ts b rest e =
    let same = read_inj _ _ _ _ e in
    record { tokens = []; spells = subst (λ (v : Value s). Spells s d (Give s a) v []) same.0 (nothing s d a); whole = same.1 }

pub sound : (s : Sort) (r : Rule s) (d : ℕ) → Fine r d → FormsSound d → IsSound s d r
sound _ (Give s a) d fine h = give_sound s d a
sound _ (One s f) d fine h = one_sound s d f
sound _ (Then s t r k) d fine h = then_sound s t d r k (sound s r d fine.first h) (λ a. sound t (k a) d (fine.second a) h)
sound _ Expr d fine h = expr_sound d h
sound _ (Inside s r) zero fine h = absurd fine
sound _ (Inside s r) (suc d) fine h = inside_sound s d r (λ at. sound s (r at) d (fine at) (lower d h))
sound _ (InsideOr s t r k other) zero fine h = flat_sound s t r k other (sound t other zero fine.first h) fine.second.first
sound _ (InsideOr s t r k other) (suc d) fine h =
    inside_or_sound s t d r k other (λ at. sound s (r at) d (fine.third.first at) (lower d h)) (λ a. sound t (k a) (suc d) (fine.third.second a) h)
    (sound t other (suc d) fine.first h) fine.second.first
sound _ (LabelledOr s t r k other) zero fine h = flat_labelled_sound s t r k other (expr_sound zero h) (λ e. sound t (other e) zero (fine.first e) h)
sound _ (LabelledOr s t r k other) (suc d) fine h =
    labelled_sound s t d r k other (λ n. sound s (r n) d (fine.second.first n) (lower d h)) (λ a. sound t (k a) (suc d) (fine.second.second a) h)
    (expr_sound (suc d) h) (λ e. sound t (other e) (suc d) (fine.first e) h)
sound _ (Until s t stop r k) d fine h =
    until_sound s t d stop r k (sound s r d fine.first.first h) fine.first.second (λ v. sound t (k v) d (fine.second v).first h) (λ v. (fine.second v).second)
sound _ (Maybe s t f k) d fine h = maybe_sound s t d f k (λ o. sound t (k o) d (fine.third o) h) fine.second
sound _ (Repeat s more r) d fine h = λ ts. some_sound s d more r (sound s r d fine.first h) (suc (length ts)) ts
