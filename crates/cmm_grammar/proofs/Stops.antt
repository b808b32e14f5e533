-- Where reading stops, by each rule.
use Rattle.std.proofs.Common.{◌≡◌, ℕ, ◌+◌, ◌-◌, ◌<◌, ◌≤◌, zero, suc, Bool, true, false, cond, List, [], ◌∷◌, ◌++◌, length, Option, Some, None, refl, sym, ap, subst, ◌∙◌, arith}
use Rattle.cmm_lex.specs.Token.{TokenTree}
use Rattle.cmm_lex.specs.declared.token.TokenKind.TheVariants as kind
use Rattle.cmm_lex.specs.declared.token.Sign.TheVariants as sign
use Rattle.cmm_tree.specs.Tree.{Expression, Nothing}
use Rattle.cmm_grammar.specs.Words.{is_open, is_open_bracket, is_close_bracket, leaf_of}
use Rattle.cmm_grammar.specs.Rule.{Sort, Value, AnExpression, Rule, One, Then, Expr, Inside, InsideOr, Maybe}
use Rattle.cmm_grammar.specs.Grammar.{open_form}
use Rattle.cmm_grammar.specs.Spelling.{Spells, both, brackets, parenthesis, inside, inside_first, not_inside, present, absent}
use Rattle.cmm_grammar.specs.Reading.{ReadOutcome, Read, Stops, Why, Stuck, Deep, bind, given, bracket_at, maybe_given, deeper, form_below, reading, forms_below, reads}
use Rattle.cmm_grammar.proofs.Fine.{Fine}
use Rattle.cmm_grammar.proofs.Basics.{stops_inj, bind_stops, OneStops, at_first, at_second, bind_on, bind_out, cond_on, cond_off, bracket_closed, rises}
use Rattle.cmm_grammar.proofs.Sound.{IsSound}
use Rattle.cmm_grammar.proofs.Complete.{FineForms, complete}
use Rattle.cmm_grammar.proofs.Finish.{Finish, finish, of_kind, exactly, then_finish}
use Rattle.cmm_grammar.proofs.Halt.{Alike, Way, here, beyond, Halted, Halts, AllFine, halted_as, behind, within, starting, at_first_token, at_too_deep}

-- ---- depths

rises_gap : (k : ℕ) (s : Sort) (d e : ℕ) → e ≡ k + d → (r : Rule s) (a : Value s) (xs : List TokenTree) → Spells s d r a xs → Spells s e r a xs
rises_gap zero s d e p r a xs h = let same : d ≡ e = omega arith in subst (λ (x : ℕ). Spells s x r a xs) same h
rises_gap (suc k) s d zero p r a xs h = absurd (omega arith)
rises_gap (suc k) s d (suc e) p r a xs h = rises s e r a xs (rises_gap k s d e (omega arith) r a xs h)

pub rises_to : (s : Sort) (d e : ℕ) → d ≤ e → (r : Rule s) (a : Value s) (xs : List TokenTree) → Spells s d r a xs → Spells s e r a xs
rises_to s d e l r a xs h = rises_gap (e - d) s d e (omega arith) r a xs h

-- what was taken is read at any depth from there on, whatever follows
pub taken_read : FineForms → (s : Sort) (d e : ℕ) → d ≤ e → (r : Rule s) (a : Value s) (xs : List TokenTree) → Spells s d r a xs → Fine r e → (zs : List TokenTree) → reads r e (xs ++ zs) ≡ Read a zs
taken_read forms s d e l r a xs h fine zs = complete forms s e r a xs (rises_to s d e l r a xs h) fine zs

abbrev pub FormsHalt : ℕ → Type 0
FormsHalt d = (e : ℕ) → e < d → (at : ℕ) → Halts AnExpression e (open_form at)

-- ---- at the first token

pub at_end : (s : Sort) (d : ℕ) (q : Rule s) (why : Why) (left : ℕ) → AllFine s d q → ((e : ℕ) → d ≤ e → reads q e [] ≡ Stops Stuck 0)
    → ◌≡◌ {A = ReadOutcome (Value s)} (Stops Stuck 0) (Stops why left)
    → Halted s d q why [] left
at_end s d q why left fine stops p =
    let x = stops_inj Stuck why 0 left p in
    halted_as s d q Stuck why [] 0 left (at_first_token s d q [] fine go) x.0 x.1
  where
    go : (e : ℕ) → d ≤ e → (zs : List TokenTree) → Alike [] zs → reads q e zs ≡ Stops Stuck (length zs)
    go e l [] alike = stops e l
    go e l (z ∷ zs) alike = absurd alike

pub at_token : (s : Sort) (d : ℕ) (q : Rule s) (u : TokenTree) (us : List TokenTree) (why : Why) (left : ℕ) → AllFine s d q
    → ((e : ℕ) → d ≤ e → (zs : List TokenTree) → reads q e (u ∷ zs) ≡ Stops Stuck (suc (length zs)))
    → ◌≡◌ {A = ReadOutcome (Value s)} (Stops Stuck (suc (length us))) (Stops why left)
    → Halted s d q why (u ∷ us) left
at_token s d q u us why left fine stops p =
    let x = stops_inj Stuck why (suc (length us)) left p in
    halted_as s d q Stuck why (u ∷ us) (suc (length us)) left (at_first_token s d q (u ∷ us) fine go) x.0 x.1
  where
    go : (e : ℕ) → d ≤ e → (zs : List TokenTree) → Alike (u ∷ us) zs → reads q e zs ≡ Stops Stuck (length zs)
    go e l [] alike = absurd alike
    go e l (z ∷ zs) alike = subst (λ (x : TokenTree). reads q e (x ∷ zs) ≡ Stops Stuck (suc (length zs))) alike (stops e l zs)

pub too_deep : (s : Sort) (q : Rule s) (u : TokenTree) (us : List TokenTree) (why : Why) (left : ℕ) → AllFine s 0 q
    → is_open u ≡ true
    → ((zs : List TokenTree) → reads q 0 (u ∷ zs) ≡ Stops Deep (suc (length zs)))
    → Finish s 1 q (u ∷ [])
    → ◌≡◌ {A = ReadOutcome (Value s)} (Stops Deep (suc (length us))) (Stops why left)
    → Halted s 0 q why (u ∷ us) left
too_deep s q u us why left fine is stops f p =
    let x = stops_inj Deep why (suc (length us)) left p in
    halted_as s 0 q Deep why (u ∷ us) (suc (length us)) left (at_too_deep s q u us fine is stops f) x.0 x.1

-- ---- one token, and one rule after another

pub one_halts : (s : Sort) (d : ℕ) (f : TokenTree → Option (Value s)) → AllFine s d (One s f) → Halts s d (One s f)
one_halts s d f fine [] why left p = at_end s d (One s f) why left fine (λ e l. refl) p
one_halts s d f fine (t ∷ ts) why left p = go (f t) refl p
  where
    go : (o : Option (Value s)) → f t ≡ o → given o ts ≡ Stops why left → Halted s d (One s f) why (t ∷ ts) left
    go (Some a) is p = cc
    go None is p = at_token s d (One s f) t ts why left fine (λ e l zs. ap (λ o. given o zs) is) p

pub then_halts : FineForms → (s t : Sort) (d : ℕ) (r : Rule s) (k : Value s → Rule t) → AllFine t d (Then s t r k)
    → IsSound s d r
    → Halts s d r
    → ((a : Value s) → Halts t d (k a))
    → Halts t d (Then s t r k)
then_halts forms s t d r k fine so one next ts why left p = go (bind_stops (reads r d ts) (λ a rest. reads (k a) d rest) why left p)
  where
    go : OneStops (reads r d ts) (λ a rest. reads (k a) d rest) why left → Halted t d (Then s t r k) why ts left
    go (at_first p) =
        behind s t d r (Then s t r k) why [] ts ts left refl (one ts why left p)
        (λ e l zs n stop. bind_out (reads r e zs) (λ a rest. reads (k a) e rest) why n stop)
        (λ e l a ys h. then_finish s t e r k a ys h ((fine e l).second a))
    go (at_second a middle p g) =
        let x = so ts a middle p in
        behind t t d (k a) (Then s t r k) why x.tokens ts middle left x.whole (next a middle why left g)
        (λ e l zs n stop. bind_on (reads r e (x.tokens ++ zs)) (λ a rest. reads (k a) e rest) a zs (taken_read forms s d e l r a x.tokens x.spells (fine e l).first zs) ∙ stop)
        (λ e l b ys h. exactly t e (Then s t r k) b (x.tokens ++ ys) (both s t e r k a b x.tokens ys (rises_to s d e l r a x.tokens x.spells) h))

-- ---- expressions

a_close_bracket : TokenTree
a_close_bracket = of_kind (kind.Sign sign.CloseBracket)

-- after an opening bracket there is none that closes it
bracket_stop : (d : ℕ) (t : TokenTree) (cs : List TokenTree) → is_open_bracket t ≡ true
    → ((zs : List TokenTree) → Alike cs zs → bracket_at t.at zs ≡ Stops Stuck (length zs))
    → Halted AnExpression d Expr Stuck (t ∷ cs) (length cs)
unfolding a_close_bracket
bracket_stop d t cs is stops = record {
  before = t ∷ [];
  after = cs;
  whole = refl;
  so = refl;
  opens = λ w. cc;
  finishes = λ e forced way. go e forced way;
  again = λ e reach zs alike. cond_off (is_open t) _ _ (bracket_closed t is) ∙ cond_on (is_open_bracket t) _ _ is ∙ stops zs alike;
}
  where
    go : (e : ℕ) (forced : List TokenTree) → Way Stuck d cs e forced → Finish AnExpression e Expr (t ∷ forced)
    go e forced (here p v) =
        subst (λ (x : List TokenTree). Finish AnExpression e Expr (t ∷ x)) (sym v)
        (record { value = Nothing t.at; more = a_close_bracket ∷ []; spells = brackets e t a_close_bracket is refl })
    go e forced (beyond bad bs w a p v) = cc

bracket_halts : (d : ℕ) (t : TokenTree) (cs : List TokenTree) (why : Why) (left : ℕ) → is_open_bracket t ≡ true
    → bracket_at t.at cs ≡ Stops why left
    → Halted AnExpression d Expr why (t ∷ cs) left
bracket_halts d t [] why left is p =
    let x = stops_inj Stuck why 0 left p in
    halted_as AnExpression d Expr Stuck why (t ∷ []) 0 left (bracket_stop d t [] is go) x.0 x.1
  where
    go : (zs : List TokenTree) → Alike [] zs → bracket_at t.at zs ≡ Stops Stuck (length zs)
    go [] alike = refl
    go (z ∷ zs) alike = absurd alike
bracket_halts d t (c ∷ cs) why left is p = go (is_close_bracket c) refl p
  where
    stops : is_close_bracket c ≡ false → (zs : List TokenTree) → Alike (c ∷ cs) zs → bracket_at t.at zs ≡ Stops Stuck (length zs)
    stops i [] alike = absurd alike
    stops i (z ∷ zs) alike = cond_off (is_close_bracket z) _ _ (ap is_close_bracket (sym alike) ∙ i)

    go : (b : Bool) → is_close_bracket c ≡ b → cond b (Read (Nothing t.at) cs) (Stops Stuck (suc (length cs))) ≡ Stops why left → Halted AnExpression d Expr why (t ∷ c ∷ cs) left
    go true i p = cc
    go false i p =
        let x = stops_inj Stuck why (suc (length cs)) left p in
        halted_as AnExpression d Expr Stuck why (t ∷ c ∷ cs) (suc (length cs)) left (bracket_stop d t (c ∷ cs) is (stops i)) x.0 x.1

form_deep : FineForms → (t : TokenTree) → is_open t ≡ true → Finish AnExpression 1 Expr (t ∷ [])
form_deep forms t is =
    let x = finish AnExpression (open_form t.at) 0 (forms 0 t.at) in
    record { value = x.value; more = x.more; spells = parenthesis 0 t x.value x.more is x.spells }

form_halts : FineForms → (d : ℕ) → FormsHalt d → (t : TokenTree) (ts : List TokenTree) (why : Why) (left : ℕ) → is_open t ≡ true
    → form_below d (forms_below d 0 t.at) ts ≡ Stops why left
    → Halted AnExpression d Expr why (t ∷ ts) left
form_halts forms zero h t ts why left is p =
    too_deep AnExpression Expr t ts why left (λ e l. tt) is (λ zs. cond_on (is_open t) _ _ is) (form_deep forms t is) p
form_halts forms (suc d) h t ts why left is p =
    within AnExpression AnExpression d (open_form t.at) Expr why (t ∷ []) (t ∷ ts) ts left refl (h d (omega arith) t.at ts why left p)
    (λ e l zs n stop. cond_on (is_open t) _ _ is ∙ stop)
    (λ e l a ys g. exactly AnExpression (suc e) Expr a (t ∷ ys) (parenthesis e t a ys is g))

pub expr_halts : FineForms → (d : ℕ) → FormsHalt d → Halts AnExpression d Expr
expr_halts forms d h [] why left p = at_end AnExpression d Expr why left (λ e l. tt) (λ e l. refl) p
expr_halts forms d h (t ∷ ts) why left p = at_open (is_open t) refl p
  where
    at_leaf : is_open t ≡ false → is_open_bracket t ≡ false → (o : Option Expression) → leaf_of t ≡ o → given o ts ≡ Stops why left → Halted AnExpression d Expr why (t ∷ ts) left
    at_leaf x y (Some a) is p = cc
    at_leaf x y None is p =
        at_token AnExpression d Expr t ts why left (λ e l. tt)
        (λ e l zs. cond_off (is_open t) _ _ x ∙ cond_off (is_open_bracket t) _ _ y ∙ ap (λ o. given o zs) is) p

    at_bracket : is_open t ≡ false → (b : Bool) → is_open_bracket t ≡ b → cond b (bracket_at t.at ts) (given (leaf_of t) ts) ≡ Stops why left → Halted AnExpression d Expr why (t ∷ ts) left
    at_bracket x true is p = bracket_halts d t ts why left is p
    at_bracket x false is p = at_leaf x is (leaf_of t) refl p

    at_open : (b : Bool) → is_open t ≡ b
        → cond b (form_below d (forms_below d 0 t.at) ts) (cond (is_open_bracket t) (bracket_at t.at ts) (given (leaf_of t) ts)) ≡ Stops why left
        → Halted AnExpression d Expr why (t ∷ ts) left
    at_open true is p = form_halts forms d h t ts why left is p
    at_open false is p = at_bracket is (is_open_bracket t) refl p

-- ---- parentheses

pub inside_halts : (s : Sort) (d : ℕ) (r : ℕ → Rule s) → AllFine s (suc d) (Inside s r) → ((at : ℕ) → Halts s d (r at)) → Halts s (suc d) (Inside s r)
inside_halts s d r fine inner [] why left p = at_end s (suc d) (Inside s r) why left fine (λ e l. refl) p
inside_halts s d r fine inner (t ∷ ts) why left p = go (is_open t) refl p
  where
    go : (b : Bool) → is_open t ≡ b → cond b (reads (r t.at) d ts) (Stops Stuck (suc (length ts))) ≡ Stops why left → Halted s (suc d) (Inside s r) why (t ∷ ts) left
    go true is p =
        within s s d (r t.at) (Inside s r) why (t ∷ []) (t ∷ ts) ts left refl (inner t.at ts why left p)
        (λ e l zs n stop. cond_on (is_open t) _ _ is ∙ stop)
        (λ e l a ys g. exactly s (suc e) (Inside s r) a (t ∷ ys) (inside s e r t a ys is g))
    go false is p = at_token s (suc d) (Inside s r) t ts why left fine (λ e l zs. cond_off (is_open t) _ _ is) p

other_halts : (s t : Sort) (d : ℕ) (r : ℕ → Rule s) (k : Value s → Rule t) (other : Rule t) (u : TokenTree) (us : List TokenTree) (why : Why) (left : ℕ)
    → AllFine t d (InsideOr s t r k other)
    → is_open u ≡ false
    → Halted t d other why (u ∷ us) left
    → Halted t d (InsideOr s t r k other) why (u ∷ us) left
other_halts s t d r k other u us why left fine is h =
    starting t t d other (InsideOr s t r k other) why u us left h
    (λ e reach zs n stop. cond_off (is_open u) _ _ is ∙ stop)
    (λ e l b ys g. exactly t e (InsideOr s t r k other) b (u ∷ ys) (not_inside s t e r k other u b ys is g))
    fine

pub flat_halts : (s t : Sort) (r : ℕ → Rule s) (k : Value s → Rule t) (other : Rule t) → AllFine t 0 (InsideOr s t r k other) → Halts t 0 other → Halts t 0 (InsideOr s t r k other)
flat_halts s t r k other fine one [] why left p = at_end t 0 (InsideOr s t r k other) why left fine (λ e l. refl) p
flat_halts s t r k other fine one (u ∷ us) why left p = go (is_open u) refl p
  where
    deep : is_open u ≡ true → Finish t 1 (InsideOr s t r k other) (u ∷ [])
    deep is =
        let f = (fine 1 (omega arith)).third in
        let x = finish s (r u.at) 0 (f.first u.at) in
        let y = finish t (k x.value) 1 (f.second x.value) in
        record { value = y.value; more = x.more ++ y.more; spells = inside_first s t 0 r k other u x.value y.value x.more y.more is x.spells y.spells }

    go : (o : Bool) → is_open u ≡ o
        → cond o (bind (deeper zero (λ e below. reading (r u.at) e below) (forms_below zero) us) (λ a. reads (k a) zero)) (reads other zero (u ∷ us)) ≡ Stops why left
        → Halted t 0 (InsideOr s t r k other) why (u ∷ us) left
    go true is p = too_deep t (InsideOr s t r k other) u us why left fine is (λ zs. cond_on (is_open u) _ _ is) (deep is) p
    go false is p = other_halts s t 0 r k other u us why left fine is (one (u ∷ us) why left p)

pub inside_or_halts : FineForms → (s t : Sort) (d : ℕ) (r : ℕ → Rule s) (k : Value s → Rule t) (other : Rule t)
    → AllFine t (suc d) (InsideOr s t r k other)
    → ((at : ℕ) → IsSound s d (r at))
    → ((at : ℕ) → Halts s d (r at))
    → ((a : Value s) → Halts t (suc d) (k a))
    → Halts t (suc d) other
    → Halts t (suc d) (InsideOr s t r k other)
inside_or_halts forms s t d r k other fine so inner next one [] why left p = at_end t (suc d) (InsideOr s t r k other) why left fine (λ e l. refl) p
inside_or_halts forms s t d r k other fine so inner next one (u ∷ us) why left p = go (is_open u) refl p
  where
    second : is_open u ≡ true → (a : Value s) (middle : List TokenTree) → reads (r u.at) d us ≡ Read a middle → reads (k a) (suc d) middle ≡ Stops why left → Halted t (suc d) (InsideOr s t r k other) why (u ∷ us) left
    second is a middle p g =
        let x = so u.at us a middle p in
        behind t t (suc d) (k a) (InsideOr s t r k other) why (u ∷ x.tokens) (u ∷ us) middle left (ap (λ (v : List TokenTree). u ∷ v) x.whole) (next a middle why left g)
        (stops x.tokens x.spells) (wraps x.tokens x.spells)
      where
        stops : (xs : List TokenTree) → Spells s d (r u.at) a xs → (e : ℕ) → suc d ≤ e → (zs : List TokenTree) (n : ℕ) → reads (k a) e zs ≡ Stops why n → reads (InsideOr s t r k other) e (u ∷ (xs ++ zs)) ≡ Stops why n
        stops xs h zero l zs n stop = absurd (omega arith)
        stops xs h (suc e) l zs n stop =
            cond_on (is_open u) _ _ is
            ∙ bind_on (reads (r u.at) e (xs ++ zs)) (λ a. reads (k a) (suc e)) a zs (taken_read forms s d e (omega arith) (r u.at) a xs h ((fine (suc e) l).third.first u.at) zs)
            ∙ stop

        wraps : (xs : List TokenTree) → Spells s d (r u.at) a xs → (e : ℕ) → suc d ≤ e → (b : Value t) (ys : List TokenTree) → Spells t e (k a) b ys → Finish t e (InsideOr s t r k other) (u ∷ (xs ++ ys))
        wraps xs h zero l b ys g = absurd (omega arith)
        wraps xs h (suc e) l b ys g =
            exactly t (suc e) (InsideOr s t r k other) b (u ∷ (xs ++ ys)) (inside_first s t e r k other u a b xs ys is (rises_to s d e (omega arith) (r u.at) a xs h) g)

    parts : is_open u ≡ true → OneStops (reads (r u.at) d us) (λ a. reads (k a) (suc d)) why left → Halted t (suc d) (InsideOr s t r k other) why (u ∷ us) left
    parts is (at_first p) =
        within s t d (r u.at) (InsideOr s t r k other) why (u ∷ []) (u ∷ us) us left refl (inner u.at us why left p)
        (λ e l zs n stop. cond_on (is_open u) _ _ is ∙ bind_out (reads (r u.at) e zs) (λ a. reads (k a) (suc e)) why n stop)
        (λ e l a ys h.
        let y = finish t (k a) (suc e) ((fine (suc e) (omega arith)).third.second a) in
        record { value = y.value; more = y.more; spells = inside_first s t e r k other u a y.value ys y.more is h y.spells })
    parts is (at_second a middle p g) = second is a middle p g

    go : (o : Bool) → is_open u ≡ o
        → cond o (bind (reads (r u.at) d us) (λ a. reads (k a) (suc d))) (reads other (suc d) (u ∷ us)) ≡ Stops why left
        → Halted t (suc d) (InsideOr s t r k other) why (u ∷ us) left
    go false is p = other_halts s t (suc d) r k other u us why left fine is (one (u ∷ us) why left p)
    go true is p = parts is (bind_stops (reads (r u.at) d us) (λ a. reads (k a) (suc d)) why left p)

-- ---- a token, or none

pub maybe_halts : (s t : Sort) (d : ℕ) (f : TokenTree → Option (Value s)) (k : Option (Value s) → Rule t) → AllFine t d (Maybe s t f k)
    → ((o : Option (Value s)) → Halts t d (k o))
    → Halts t d (Maybe s t f k)
maybe_halts s t d f k fine next [] why left p = at_end t d (Maybe s t f k) why left fine (λ e l. refl) p
maybe_halts s t d f k fine next (u ∷ us) why left p = go (f u) refl p
  where
    go : (o : Option (Value s)) → f u ≡ o → maybe_given o (λ v. reads (k v) d) u us ≡ Stops why left → Halted t d (Maybe s t f k) why (u ∷ us) left
    go None is p =
        starting t t d (k None) (Maybe s t f k) why u us left (next None (u ∷ us) why left p)
        (λ e reach zs n stop. ap (λ o. maybe_given o (λ v. reads (k v) e) u zs) is ∙ stop)
        (λ e l b ys h. exactly t e (Maybe s t f k) b (u ∷ ys) (absent s t e f k u b ys is h))
        fine
    go (Some a) is p =
        behind t t d (k (Some a)) (Maybe s t f k) why (u ∷ []) (u ∷ us) us left refl (next (Some a) us why left p)
        (λ e l zs n stop. ap (λ o. maybe_given o (λ v. reads (k v) e) u zs) is ∙ stop)
        (λ e l b ys h. exactly t e (Maybe s t f k) b (u ∷ ys) (present s t e f k u a b ys is h))
