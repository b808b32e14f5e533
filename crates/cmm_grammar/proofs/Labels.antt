-- Where reading stops in a rule whose first two tokens may be a label.
use Rattle.std.proofs.Common.{◌≡◌, ℕ, ◌≤◌, zero, suc, Bool, true, false, cond, ◌&&◌, List, [], ◌∷◌, ◌++◌, length, Option, None, option_map, refl, sym, ap, subst, ◌∙◌, arith, append_assoc}
use Rattle.std.proofs.lemmas.Bool.{and_parts}
use Rattle.cmm_lex.specs.Token.{TokenTree}
use Rattle.cmm_lex.specs.declared.token.TokenKind.{TokenKind}
use Rattle.cmm_lex.specs.declared.token.TokenKind.TheVariants as kind
use Rattle.cmm_tree.specs.Tree.{Expression}
use Rattle.cmm_grammar.specs.declared.word.Head.{Head}
use Rattle.cmm_grammar.specs.Words.{is_open, is_name, is_name_kind, is_labelled, head_of}
use Rattle.cmm_grammar.specs.Rule.{Sort, Value, AnExpression, Rule, Expr, LabelledOr}
use Rattle.cmm_grammar.specs.Grammar.{open_form, form_of}
use Rattle.cmm_grammar.specs.Spelling.{Spells, leaf, brackets, parenthesis, labelled, not_labelled}
use Rattle.cmm_grammar.specs.Reading.{ReadOutcome, Stops, Why, Stuck, Deep, bind, given, behind as behind_token, deeper, reading, forms_below, reads}
use Rattle.cmm_grammar.proofs.Fine.{Fine}
use Rattle.cmm_grammar.proofs.Basics.{stops_inj, not_both, bind_stops, OneStops, at_first, at_second, bind_on, bind_out, cond_on, cond_off, bracket_closed}
use Rattle.cmm_grammar.proofs.Sound.{IsSound}
use Rattle.cmm_grammar.proofs.Complete.{FineForms, IsExpr, not_labelled_read, complete}
use Rattle.cmm_grammar.proofs.Finish.{Finish, finish, a_name, exactly}
use Rattle.cmm_grammar.proofs.Halt.{Alike, Halted, Halts, AllFine, way_low, behind, within}
use Rattle.cmm_grammar.proofs.Stops.{at_end, too_deep, rises_to, taken_read}

-- a name begins no form
name_heads_none : (k : TokenKind) → is_name_kind k ≡ true → head_of k ≡ None
name_heads_none kind.Name h = refl
name_heads_none _ h = cc

named_form : (d at : ℕ) (n : TokenTree) (xs : List TokenTree) → is_name n ≡ true → reads (open_form at) d (n ∷ xs) ≡ Stops Stuck (suc (length xs))
unfolding open_form
named_form d at n xs h =
    ap (λ (o : Option Head). bind {A = TokenTree × Head} (given {A = TokenTree × Head} (option_map (λ (a : Head). (n, a)) o) xs) (λ w rest. reads (form_of at w.0.at w.1) d rest)) (name_heads_none n.kind h)

and_false : (a b : Bool) → b ≡ false → (a && b) ≡ false
and_false true b e = e
and_false false b e = refl

behind_form : FineForms → (d : ℕ) (o : TokenTree) (e : Expression) (xs : List TokenTree) → Spells AnExpression d (open_form o.at) e xs → is_labelled (o ∷ xs) ≡ false
behind_form forms d o e [] h = refl
behind_form forms d o e (n ∷ xs) h = go (is_name n) refl
  where
    go : (b : Bool) → is_name n ≡ b → (is_open o && is_name n) ≡ false
    go false is = and_false (is_open o) (is_name n) is
    go true is = not_both _ _ _ _ (sym (named_form d o.at n (xs ++ []) is) ∙ complete forms AnExpression d (open_form o.at) e (n ∷ xs) h (forms d o.at) [])

unlabelled_any : FineForms → (s : Sort) (d : ℕ) (r : Rule s) (a : Value s) (xs : List TokenTree) → Spells s d r a xs → IsExpr r → is_labelled xs ≡ false
unlabelled_any forms _ _ _ _ _ (leaf d t e h) is = refl
unlabelled_any forms _ _ _ _ _ (brackets d o c h g) is = ap (λ v. v && is_name c) (bracket_closed o h)
unlabelled_any forms _ _ _ _ _ (parenthesis d o e xs h g) is = behind_form forms d o e xs g
unlabelled_any forms _ _ _ _ _ _ is = absurd is

-- no expression begins as a label does
pub unlabelled : FineForms → (d : ℕ) (e : Expression) (xs : List TokenTree) → Spells AnExpression d Expr e xs → is_labelled xs ≡ false
unlabelled forms d e xs h = unlabelled_any forms AnExpression d Expr e xs h tt

either : {A : Type 0} (b : Bool) (x y z : A) → x ≡ z → y ≡ z → cond b x y ≡ z
either true x y z p q = p
either false x y z p q = q

-- where no level is left, a parenthesis is too deep, whatever follows it
deep_here : (s t : Sort) (r : TokenTree → Rule s) (k : Value s → Rule t) (other : Expression → Rule t) (o : TokenTree) (zs : List TokenTree) → is_open o ≡ true
    → reads (LabelledOr s t r k other) 0 (o ∷ zs) ≡ Stops Deep (suc (length zs))
deep_here s t r k other o [] is = bind_out (reads Expr 0 (o ∷ [])) (λ e. reads (other e) 0) Deep 1 (cond_on (is_open o) _ _ is)
deep_here s t r k other o (n ∷ zs) is =
    either (is_open o && is_name n) _ _ _ refl (bind_out (reads Expr 0 (o ∷ n ∷ zs)) (λ e. reads (other e) 0) Deep (suc (suc (length zs))) (cond_on (is_open o) _ _ is))

-- tokens that begin as no label does
unlabelled_reads : (s t : Sort) (d : ℕ) (r : TokenTree → Rule s) (k : Value s → Rule t) (other : Expression → Rule t) (z : TokenTree) (zs : List TokenTree) → is_labelled (z ∷ zs) ≡ false
    → reads (LabelledOr s t r k other) d (z ∷ zs) ≡ bind (reads Expr d (z ∷ zs)) (λ e. reads (other e) d)
unlabelled_reads s t d r k other z [] is = refl
unlabelled_reads s t d r k other z (n ∷ zs) is = cond_off (is_open z && is_name n) _ _ is

first_unlabelled : (z : TokenTree) (zs : List TokenTree) → is_open z ≡ false → is_labelled (z ∷ zs) ≡ false
first_unlabelled z [] is = refl
first_unlabelled z (n ∷ zs) is = ap (λ v. v && is_name n) is

-- a form of no tokens ends inside
empty_form : (d at : ℕ) → reads (open_form at) d [] ≡ Stops Stuck 0
unfolding open_form
empty_form d at = refl

-- an expression stops at a parenthesis only where that is too deep
open_stops : (e : ℕ) (z : TokenTree) (why : Why) → is_open z ≡ true → reads Expr e (z ∷ []) ≡ Stops why 1 → (e ≡ 0) × (Deep ≡ why)
open_stops zero z why is p =
    let x : ◌≡◌ {A = ReadOutcome Expression} (Stops Deep 1) (Stops why 1) = sym (cond_on (is_open z) _ _ is) ∙ p in
    (refl, (stops_inj Deep why 1 1 x).0)
open_stops (suc e) z why is p =
    let x : ◌≡◌ {A = ReadOutcome Expression} (Stops Stuck 0) (Stops why 1) = sym (empty_form e z.at) ∙ sym (cond_on (is_open z) _ _ is) ∙ p in
    cc

expression_again : (s t : Sort) (e : ℕ) (r : TokenTree → Rule s) (k : Value s → Rule t) (other : Expression → Rule t) (why : Why) (before after zs : List TokenTree) (z0 : TokenTree) (zs0 : List TokenTree)
    → z0 ∷ zs0 ≡ before ++ after
    → is_labelled (z0 ∷ zs0) ≡ false
    → Alike after zs
    → ((ws : List TokenTree) → Alike after ws → reads Expr e (before ++ ws) ≡ Stops why (length ws))
    → reads (LabelledOr s t r k other) e (before ++ zs) ≡ Stops why (length zs)
expression_again s t e r k other why [] [] zs u us w is alike h = cc
expression_again s t e r k other why [] (a ∷ after) [] u us w is alike h = absurd alike
expression_again s t e r k other why [] (a ∷ after) (z ∷ zs) u us w is alike h = go (is_open z) refl
  where
    go : (b : Bool) → is_open z ≡ b → reads (LabelledOr s t r k other) e (z ∷ zs) ≡ Stops why (suc (length zs))
    go false i = unlabelled_reads s t e r k other z zs (first_unlabelled z zs i) ∙ bind_out (reads Expr e (z ∷ zs)) (λ x. reads (other x) e) why (suc (length zs)) (h (z ∷ zs) alike)
    go true i =
        let x = open_stops e z why i (h (z ∷ []) alike) in
        subst (λ (v : Why). reads (LabelledOr s t r k other) e (z ∷ zs) ≡ Stops v (suc (length zs))) x.1
        (subst (λ (v : ℕ). reads (LabelledOr s t r k other) v (z ∷ zs) ≡ Stops Deep (suc (length zs))) (sym x.0) (deep_here s t r k other z zs i))
expression_again s t e r k other why (o ∷ []) after zs u us w is alike h =
    unlabelled_reads s t e r k other o zs (alone after zs (ap is_labelled (sym w) ∙ is) alike) ∙ bind_out (reads Expr e (o ∷ zs)) (λ x. reads (other x) e) why (length zs) (h zs alike)
  where
    alone : (after zs : List TokenTree) → is_labelled (o ∷ after) ≡ false → Alike after zs → is_labelled (o ∷ zs) ≡ false
    alone after [] is alike = refl
    alone [] (z ∷ zs) is alike = absurd alike
    alone (a ∷ after) (z ∷ zs) is alike = ap (λ (v : TokenTree). is_open o && is_name v) (sym alike) ∙ is
expression_again s t e r k other why (o ∷ n ∷ before) after zs u us w is alike h =
    unlabelled_reads s t e r k other o (n ∷ (before ++ zs)) (ap is_labelled (sym w) ∙ is)
    ∙ bind_out (reads Expr e (o ∷ n ∷ (before ++ zs))) (λ x. reads (other x) e) why (length zs) (h zs alike)

-- the finish of an expression, and what follows it
expression_finish : FineForms → (s t : Sort) (e : ℕ) (r : TokenTree → Rule s) (k : Value s → Rule t) (other : Expression → Rule t) → Fine (LabelledOr s t r k other) e
    → (a : Expression) (ys : List TokenTree) → Spells AnExpression e Expr a ys → Finish t e (LabelledOr s t r k other) ys
expression_finish forms s t e r k other fine a ys h =
    let y = finish t (other a) e (fine.first a) in
    record { value = y.value; more = y.more; spells = not_labelled s t e r k other a y.value ys y.more (unlabelled forms e a ys h) h y.spells }

unlabelled_halts : FineForms → (s t : Sort) (d : ℕ) (r : TokenTree → Rule s) (k : Value s → Rule t) (other : Expression → Rule t) (u : TokenTree) (us : List TokenTree)
    → AllFine t d (LabelledOr s t r k other)
    → IsSound AnExpression d Expr
    → Halts AnExpression d Expr
    → ((e : Expression) → Halts t d (other e))
    → is_labelled (u ∷ us) ≡ false
    → (why : Why) (left : ℕ)
    → bind (reads Expr d (u ∷ us)) (λ e. reads (other e) d) ≡ Stops why left
    → Halted t d (LabelledOr s t r k other) why (u ∷ us) left
unlabelled_halts forms s t d r k other u us fine so one next is why left p = go (bind_stops (reads Expr d (u ∷ us)) (λ e. reads (other e) d) why left p)
  where
    first : Halted AnExpression d Expr why (u ∷ us) left → Halted t d (LabelledOr s t r k other) why (u ∷ us) left
    first h = record {
      before = h.before;
      after = h.after;
      whole = h.whole;
      so = h.so;
      opens = h.opens;
      finishes = λ e forced way.
          let x = h.finishes e forced way in
          let y = expression_finish forms s t e r k other (fine e (way_low why d h.after e forced way)) x.value ((h.before ++ forced) ++ x.more) x.spells in
          record {
            value = y.value;
            more = x.more ++ y.more;
            spells = subst (λ (v : List TokenTree). Spells t e (LabelledOr s t r k other) y.value v) (append_assoc (h.before ++ forced) x.more y.more) y.spells;
          };
      again = λ e reach zs alike. expression_again s t e r k other why h.before h.after zs u us h.whole is alike (h.again e reach);
    }

    go : OneStops (reads Expr d (u ∷ us)) (λ e. reads (other e) d) why left → Halted t d (LabelledOr s t r k other) why (u ∷ us) left
    go (at_first g) = first (one (u ∷ us) why left g)
    go (at_second a middle g i) =
        let x = so (u ∷ us) a middle g in
        let free = unlabelled forms d a x.tokens x.spells in
        behind t t d (other a) (LabelledOr s t r k other) why x.tokens (u ∷ us) middle left x.whole (next a middle why left i)
        (λ e l zs n stops. not_labelled_read s t e r k other a x.tokens zs free (rises_to AnExpression d e l Expr a x.tokens x.spells) (taken_read forms AnExpression d e l Expr a x.tokens x.spells tt zs) ∙ stops)
        (λ e l b ys h. exactly t e (LabelledOr s t r k other) b (x.tokens ++ ys) (not_labelled s t e r k other a b x.tokens ys free (rises_to AnExpression d e l Expr a x.tokens x.spells) h))

pub flat_labelled_halts : FineForms → (s t : Sort) (r : TokenTree → Rule s) (k : Value s → Rule t) (other : Expression → Rule t)
    → AllFine t 0 (LabelledOr s t r k other)
    → IsSound AnExpression 0 Expr
    → Halts AnExpression 0 Expr
    → ((e : Expression) → Halts t 0 (other e))
    → Halts t 0 (LabelledOr s t r k other)
flat_labelled_halts forms s t r k other fine so one next [] why left p = at_end t 0 (LabelledOr s t r k other) why left fine (λ e l. refl) p
flat_labelled_halts forms s t r k other fine so one next (o ∷ []) why left p = unlabelled_halts forms s t 0 r k other o [] fine so one next refl why left p
flat_labelled_halts forms s t r k other fine so one next (o ∷ n ∷ us) why left p = go (is_open o && is_name n) refl p
  where
    deep : is_open o ≡ true → Finish t 1 (LabelledOr s t r k other) (o ∷ [])
    deep is =
        let f = (fine 1 (omega arith)).second in
        let x = finish s (r a_name) 0 (f.first a_name) in
        let y = finish t (k x.value) 1 (f.second x.value) in
        record { value = y.value; more = a_name ∷ (x.more ++ y.more); spells = labelled s t 0 r k other o a_name x.value y.value x.more y.more is refl x.spells y.spells }

    go : (c : Bool) → (is_open o && is_name n) ≡ c
        → cond c (bind (deeper zero (λ e below. behind_token (λ n. reading (r n) e below)) (forms_below zero) (n ∷ us)) (λ a. reads (k a) zero)) (bind (reads Expr zero (o ∷ n ∷ us)) (λ e. reads (other e) zero)) ≡ Stops why left
        → Halted t 0 (LabelledOr s t r k other) why (o ∷ n ∷ us) left
    go true is p =
        let i = (and_parts (is_open o) (is_name n) is).0 in
        too_deep t (LabelledOr s t r k other) o (n ∷ us) why left fine i (λ zs. deep_here s t r k other o zs i) (deep i) p
    go false is p = unlabelled_halts forms s t 0 r k other o (n ∷ us) fine so one next is why left p

pub labelled_halts : FineForms → (s t : Sort) (d : ℕ) (r : TokenTree → Rule s) (k : Value s → Rule t) (other : Expression → Rule t)
    → AllFine t (suc d) (LabelledOr s t r k other)
    → ((n : TokenTree) → IsSound s d (r n))
    → ((n : TokenTree) → Halts s d (r n))
    → ((a : Value s) → Halts t (suc d) (k a))
    → IsSound AnExpression (suc d) Expr
    → Halts AnExpression (suc d) Expr
    → ((e : Expression) → Halts t (suc d) (other e))
    → Halts t (suc d) (LabelledOr s t r k other)
labelled_halts forms s t d r k other fine inner_so inner then' so one next [] why left p = at_end t (suc d) (LabelledOr s t r k other) why left fine (λ e l. refl) p
labelled_halts forms s t d r k other fine inner_so inner then' so one next (o ∷ []) why left p = unlabelled_halts forms s t (suc d) r k other o [] fine so one next refl why left p
labelled_halts forms s t d r k other fine inner_so inner then' so one next (o ∷ n ∷ us) why left p = go (is_open o && is_name n) refl p
  where
    stops : (is_open o && is_name n) ≡ true → (a : Value s) (xs : List TokenTree) → Spells s d (r n) a xs → (e : ℕ) → suc d ≤ e → (zs : List TokenTree) (m : ℕ) → reads (k a) e zs ≡ Stops why m
        → reads (LabelledOr s t r k other) e (o ∷ n ∷ (xs ++ zs)) ≡ Stops why m
    stops is a xs h zero l zs m stop = absurd (omega arith)
    stops is a xs h (suc e) l zs m stop =
        cond_on (is_open o && is_name n) _ _ is
        ∙ bind_on (reads (r n) e (xs ++ zs)) (λ a. reads (k a) (suc e)) a zs (taken_read forms s d e (omega arith) (r n) a xs h ((fine (suc e) l).second.first n) zs)
        ∙ stop

    wraps : (is_open o && is_name n) ≡ true → (a : Value s) (xs : List TokenTree) → Spells s d (r n) a xs → (e : ℕ) → suc d ≤ e → (b : Value t) (ys : List TokenTree) → Spells t e (k a) b ys
        → Finish t e (LabelledOr s t r k other) (o ∷ n ∷ (xs ++ ys))
    wraps is a xs h zero l b ys g = absurd (omega arith)
    wraps is a xs h (suc e) l b ys g =
        let i = and_parts (is_open o) (is_name n) is in
        exactly t (suc e) (LabelledOr s t r k other) b (o ∷ n ∷ (xs ++ ys)) (labelled s t e r k other o n a b xs ys i.0 i.1 (rises_to s d e (omega arith) (r n) a xs h) g)

    parts : (is_open o && is_name n) ≡ true → OneStops (reads (r n) d us) (λ a. reads (k a) (suc d)) why left → Halted t (suc d) (LabelledOr s t r k other) why (o ∷ n ∷ us) left
    parts is (at_first g) =
        let i = and_parts (is_open o) (is_name n) is in
        within s t d (r n) (LabelledOr s t r k other) why (o ∷ n ∷ []) (o ∷ n ∷ us) us left refl (inner n us why left g)
        (λ e l zs m stop. cond_on (is_open o && is_name n) _ _ is ∙ bind_out (reads (r n) e zs) (λ a. reads (k a) (suc e)) why m stop)
        (λ e l a ys h.
        let y = finish t (k a) (suc e) ((fine (suc e) (omega arith)).second.second a) in
        record { value = y.value; more = y.more; spells = labelled s t e r k other o n a y.value ys y.more i.0 i.1 h y.spells })
    parts is (at_second a middle g j) =
        let x = inner_so n us a middle g in
        behind t t (suc d) (k a) (LabelledOr s t r k other) why (o ∷ n ∷ x.tokens) (o ∷ n ∷ us) middle left (ap (λ (v : List TokenTree). o ∷ n ∷ v) x.whole) (then' a middle why left j)
        (stops is a x.tokens x.spells) (wraps is a x.tokens x.spells)

    go : (c : Bool) → (is_open o && is_name n) ≡ c
        → cond c (bind (reads (r n) d us) (λ a. reads (k a) (suc d))) (bind (reads Expr (suc d) (o ∷ n ∷ us)) (λ e. reads (other e) (suc d))) ≡ Stops why left
        → Halted t (suc d) (LabelledOr s t r k other) why (o ∷ n ∷ us) left
    go true is p = parts is (bind_stops (reads (r n) d us) (λ a. reads (k a) (suc d)) why left p)
    go false is p = unlabelled_halts forms s t (suc d) r k other o (n ∷ us) fine so one next is why left p
