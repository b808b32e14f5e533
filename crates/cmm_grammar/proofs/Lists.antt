-- Where reading stops in what comes any number of times.
use Rattle.std.proofs.Common.{◌≡◌, ℕ, ◌<◌, ◌≤◌, zero, suc, Bool, true, false, cond, List, [], ◌∷◌, ◌++◌, length, refl, sym, ap, subst, ◌∙◌, arith, length-append}
use Rattle.cmm_lex.specs.Token.{TokenTree}
use Rattle.cmm_grammar.specs.Rule.{Sort, Value, Listed, Rule, Until, Repeat}
use Rattle.cmm_grammar.specs.Spelling.{Spells, ended, one_more, last, another}
use Rattle.cmm_grammar.specs.Reading.{ReadOutcome, Read, Stops, Why, Reader, bind, many, some_of, reads}
use Rattle.cmm_grammar.proofs.Fine.{Fine}
use Rattle.cmm_grammar.proofs.Basics.{bind_stops, OneStops, at_first, at_second, bind_on, bind_out, bind_bind, cond_on, cond_off}
use Rattle.cmm_grammar.proofs.Sound.{IsSound, some_tokens}
use Rattle.cmm_grammar.proofs.Complete.{FineForms, Shortens, shortens, many_same, some_same, fine_again}
use Rattle.cmm_grammar.proofs.Finish.{Finish, finish, exactly}
use Rattle.cmm_grammar.proofs.Halt.{Halted, Halts, AllFine, behind, starting}
use Rattle.cmm_grammar.proofs.Stops.{at_end, rises_to, taken_read}

-- ---- up to a token

until_stop : (s t : Sort) (d : ℕ) (stop : TokenTree → Bool) (r : Rule s) (k : List (Value s) → Rule t) (u : TokenTree) (us : List TokenTree) → stop u ≡ true
    → reads (Until s t stop r k) d (u ∷ us) ≡ reads (k []) d (u ∷ us)
until_stop s t d stop r k u us is = ap (λ v. bind v (λ values left. reads (k values) d left)) (cond_on (stop u) _ _ is)

many_next : {A B : Type 0} (stop : TokenTree → Bool) (one : Reader A) (next : List A → Reader B) (n : ℕ) (o : ReadOutcome A)
    → Shortens one
    → ((a : A) (rest : List TokenTree) → o ≡ Read a rest → length rest ≤ n)
    → bind (bind o (λ a rest. bind (many stop one n rest) (λ more final. Read (a ∷ more) final))) next
    ≡ bind o (λ a rest. bind (many stop one (length rest) rest) (λ values left. next (a ∷ values) left))
many_next stop one next n (Read a rest) short less =
    bind_bind (many stop one n rest) (λ v. a ∷ v) next
    ∙ ap (λ v. bind v (λ values left. next (a ∷ values) left)) (many_same stop one short n (length rest) rest (less a rest refl) (omega arith))
many_next stop one next n (Stops why left) short less = refl

until_next : (s t : Sort) (d : ℕ) (stop : TokenTree → Bool) (r : Rule s) (k : List (Value s) → Rule t) (u : TokenTree) (us : List TokenTree) → Shortens (reads r d) → stop u ≡ false
    → reads (Until s t stop r k) d (u ∷ us) ≡ bind (reads r d (u ∷ us)) (λ a rest. reads (Until s t stop r (λ v. k (a ∷ v))) d rest)
until_next s t d stop r k u us short is =
    ap (λ v. bind v (λ values left. reads (k values) d left)) (cond_off (stop u) _ _ is)
    ∙ many_next stop (reads r d) (λ values left. reads (k values) d left) (length us) (reads r d (u ∷ us)) short
    (λ a rest e. let l = short (u ∷ us) a rest e in omega (arith, l))

pub until_halts : FineForms → (s t : Sort) (d : ℕ) (stop : TokenTree → Bool) (r : Rule s) → IsSound s d r → Halts s d r
    → (n : ℕ) (k : List (Value s) → Rule t) → AllFine t d (Until s t stop r k) → ((values : List (Value s)) → Halts t d (k values))
    → (ts : List TokenTree) → length ts ≤ n
    → (why : Why) (left : ℕ) → reads (Until s t stop r k) d ts ≡ Stops why left
    → Halted t d (Until s t stop r k) why ts left
until_halts forms s t d stop r so one n k fine next [] less why left p = at_end t d (Until s t stop r k) why left fine (λ e l. refl) p
until_halts forms s t d stop r so one zero k fine next (u ∷ us) less why left p = absurd (omega arith)
until_halts forms s t d stop r so one (suc n) k fine next (u ∷ us) less why left p =
    go (stop u) refl (λ a middle l g. until_halts forms s t d stop r so one n (λ v. k (a ∷ v)) (λ e m. fine_again s t e stop r k a (fine e m)) (λ v. next (a ∷ v)) middle l why left g)
  where
    short : (e : ℕ) → d ≤ e → Shortens (reads r e)
    short e l = let f = (fine e l).first in shortens forms s e r f.second f.first

    parts : stop u ≡ false
        → ((a : Value s) (middle : List TokenTree) → length middle ≤ n → reads (Until s t stop r (λ v. k (a ∷ v))) d middle ≡ Stops why left → Halted t d (Until s t stop r (λ v. k (a ∷ v))) why middle left)
        → OneStops (reads r d (u ∷ us)) (λ a rest. reads (Until s t stop r (λ v. k (a ∷ v))) d rest) why left
        → Halted t d (Until s t stop r k) why (u ∷ us) left
    parts is later (at_first g) =
        starting s t d r (Until s t stop r k) why u us left (one (u ∷ us) why left g)
        (λ e reach zs m stops. until_next s t e stop r k u zs (short e reach.low) is ∙ bind_out (reads r e (u ∷ zs)) (λ a rest. reads (Until s t stop r (λ v. k (a ∷ v))) e rest) why m stops)
        (λ e l a ys h.
        let y = finish t (Until s t stop r (λ v. k (a ∷ v))) e (fine_again s t e stop r k a (fine e l)) in
        record { value = y.value; more = y.more; spells = one_more s t e stop r k u a y.value ys y.more is h y.spells })
        fine
    parts is later (at_second a middle g i) =
        let taken = so (u ∷ us) a middle g in
        let x = some_tokens s d r a u us middle taken.tokens taken.spells (fine d (omega arith)).first.second taken.whole in
        let spells : Spells s d r a (u ∷ x.0) = subst (λ (v : List TokenTree). Spells s d r a v) x.1 taken.spells in
        let size : length us ≡ length (x.0 ++ middle) = ap length x.2 in
        behind t t d (Until s t stop r (λ v. k (a ∷ v))) (Until s t stop r k) why (u ∷ x.0) (u ∷ us) middle left (ap (λ (v : List TokenTree). u ∷ v) x.2)
        (later a middle (omega (arith, size, length-append x.0 middle)) i)
        (λ e l zs m stops.
        until_next s t e stop r k u (x.0 ++ zs) (short e l) is
        ∙ bind_on (reads r e (u ∷ (x.0 ++ zs))) (λ a rest. reads (Until s t stop r (λ v. k (a ∷ v))) e rest) a zs (taken_read forms s d e l r a (u ∷ x.0) spells (fine e l).first.first zs)
        ∙ stops)
        (λ e l b ys h. exactly t e (Until s t stop r k) b (u ∷ (x.0 ++ ys)) (one_more s t e stop r k u a b x.0 ys is (rises_to s d e l r a (u ∷ x.0) spells) h))

    go : (b : Bool) → stop u ≡ b
        → ((a : Value s) (middle : List TokenTree) → length middle ≤ n → reads (Until s t stop r (λ v. k (a ∷ v))) d middle ≡ Stops why left → Halted t d (Until s t stop r (λ v. k (a ∷ v))) why middle left)
        → Halted t d (Until s t stop r k) why (u ∷ us) left
    go true is later =
        starting t t d (k []) (Until s t stop r k) why u us left (next [] (u ∷ us) why left (sym (until_stop s t d stop r k u us is) ∙ p))
        (λ e reach zs m stops. until_stop s t e stop r k u zs is ∙ stops)
        (λ e l b ys h. exactly t e (Until s t stop r k) b (u ∷ ys) (ended s t e stop r k u b ys is h))
        fine
    go false is later =
        parts is later (bind_stops (reads r d (u ∷ us)) (λ a rest. reads (Until s t stop r (λ v. k (a ∷ v))) d rest) why left (sym (until_next s t d stop r k u us (short d (omega arith)) is) ∙ p))

-- ---- up to the first that no other follows

some_next : {A : Type 0} (more : A → Bool) (one : Reader A) (n : ℕ) (o : ReadOutcome A)
    → Shortens one
    → ((a : A) (rest : List TokenTree) → o ≡ Read a rest → length rest < n)
    → bind o (λ a rest. cond (more a) (bind (some_of more one n rest) (λ others final. Read (a ∷ others) final)) (Read (a ∷ []) rest))
    ≡ bind o (λ a rest. cond (more a) (bind (some_of more one (suc (length rest)) rest) (λ others final. Read (a ∷ others) final)) (Read (a ∷ []) rest))
some_next more one n (Read a rest) short less =
    ap (λ v. cond (more a) (bind v (λ others final. Read (a ∷ others) final)) (Read (a ∷ []) rest)) (some_same more one short n (suc (length rest)) rest (less a rest refl) (omega arith))
some_next more one n (Stops why left) short less = refl

-- one, and the rest by what it says
abbrev next_of : (s : Sort) (d : ℕ) (more : Value s → Bool) (r : Rule s) → Value s → Reader (List (Value s))
next_of s d more r a rest = cond (more a) (bind (reads (Repeat s more r) d rest) (λ others final. Read (a ∷ others) final)) (Read (a ∷ []) rest)

repeat_next : (s : Sort) (d : ℕ) (more : Value s → Bool) (r : Rule s) (ts : List TokenTree) → Shortens (reads r d)
    → reads (Repeat s more r) d ts ≡ bind (reads r d ts) (next_of s d more r)
repeat_next s d more r ts short =
    some_next more (reads r d) (length ts) (reads r d ts) short (λ a rest e. let l = short ts a rest e in omega (arith, l))

repeat_finish : (s : Sort) (e : ℕ) (more : Value s → Bool) (r : Rule s) (a : Value s) (ys : List TokenTree) → Fine (Repeat s more r) e → Spells s e r a ys → (b : Bool) → more a ≡ b → Finish (Listed s) e (Repeat s more r) ys
repeat_finish s e more r a ys fine h false is = exactly (Listed s) e (Repeat s more r) (a ∷ []) ys (last s e more r a ys is h)
repeat_finish s e more r a ys fine h true is =
    let x = fine.third in
    record { value = a ∷ (x.value ∷ []); more = x.tokens; spells = another s e more r a (x.value ∷ []) ys x.tokens is h (last s e more r x.value x.tokens x.ends x.spells) }

pub repeat_halts : FineForms → (s : Sort) (d : ℕ) (more : Value s → Bool) (r : Rule s) → AllFine (Listed s) d (Repeat s more r) → IsSound s d r → Halts s d r
    → (n : ℕ) (ts : List TokenTree) → length ts < n
    → (why : Why) (left : ℕ) → reads (Repeat s more r) d ts ≡ Stops why left
    → Halted (Listed s) d (Repeat s more r) why ts left
repeat_halts forms s d more r fine so one zero ts less why left p = absurd (omega arith)
repeat_halts forms s d more r fine so one (suc n) ts less why left p =
    parts (λ middle l g. repeat_halts forms s d more r fine so one n middle l why left g)
    (bind_stops (reads r d ts) (next_of s d more r) why left (sym (repeat_next s d more r ts (short d (omega arith))) ∙ p))
  where
    short : (e : ℕ) → d ≤ e → Shortens (reads r e)
    short e l = let f = fine e l in shortens forms s e r f.second f.first

    rest_stops : (a : Value s) (middle : List TokenTree)
        → OneStops (reads (Repeat s more r) d middle) (λ others final. Read (a ∷ others) final) why left
        → reads (Repeat s more r) d middle ≡ Stops why left
    rest_stops a middle (at_first g) = g
    rest_stops a middle (at_second b final g i) = cc

    second : (a : Value s) (middle : List TokenTree) → reads r d ts ≡ Read a middle
        → ((middle : List TokenTree) → length middle < n → reads (Repeat s more r) d middle ≡ Stops why left → Halted (Listed s) d (Repeat s more r) why middle left)
        → (b : Bool) → more a ≡ b
        → cond b (bind (reads (Repeat s more r) d middle) (λ others final. Read (a ∷ others) final)) (Read (a ∷ []) middle) ≡ Stops why left
        → Halted (Listed s) d (Repeat s more r) why ts left
    second a middle g later false is i = cc
    second a middle g later true is i =
        let x = so ts a middle g in
        let l = short d (omega arith) ts a middle g in
        let j = rest_stops a middle (bind_stops (reads (Repeat s more r) d middle) (λ others final. Read (a ∷ others) final) why left i) in
        behind (Listed s) (Listed s) d (Repeat s more r) (Repeat s more r) why x.tokens ts middle left x.whole (later middle (omega (arith, l)) j)
        (λ e m zs k stops.
        repeat_next s e more r (x.tokens ++ zs) (short e m)
        ∙ bind_on (reads r e (x.tokens ++ zs)) (next_of s e more r) a zs (taken_read forms s d e m r a x.tokens x.spells (fine e m).first zs)
        ∙ cond_on (more a) _ _ is
        ∙ bind_out (reads (Repeat s more r) e zs) (λ others final. Read (a ∷ others) final) why k stops)
        (λ e m b ys h. exactly (Listed s) e (Repeat s more r) (a ∷ b) (x.tokens ++ ys) (another s e more r a b x.tokens ys is (rises_to s d e m r a x.tokens x.spells) h))

    parts : ((middle : List TokenTree) → length middle < n → reads (Repeat s more r) d middle ≡ Stops why left → Halted (Listed s) d (Repeat s more r) why middle left)
        → OneStops (reads r d ts) (next_of s d more r) why left
        → Halted (Listed s) d (Repeat s more r) why ts left
    parts later (at_first g) =
        behind s (Listed s) d r (Repeat s more r) why [] ts ts left refl (one ts why left g)
        (λ e l zs m stops. repeat_next s e more r zs (short e l) ∙ bind_out (reads r e zs) (next_of s e more r) why m stops)
        (λ e l a ys h. repeat_finish s e more r a ys (fine e l) h (more a) refl)
    parts later (at_second a middle g i) = second a middle g later (more a) refl i
