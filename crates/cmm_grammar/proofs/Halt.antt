-- Where reading stops: what is before can be finished, and with the token there reading stops so, whatever follows.
use Rattle.std.proofs.Common.{◌≡◌, ℕ, ◌≤◌, zero, suc, true, List, [], ◌∷◌, ◌++◌, length, ◌⊎◌, inl, inr, refl, sym, ap, subst, ◌∙◌, arith, append_assoc}
use Rattle.cmm_lex.specs.Token.{TokenTree}
use Rattle.cmm_grammar.specs.Words.{is_open}
use Rattle.cmm_grammar.specs.Rule.{Sort, Value, Rule}
use Rattle.cmm_grammar.specs.Spelling.{Spells}
use Rattle.cmm_grammar.specs.Reading.{Stops, Why, Stuck, Deep, reads}
use Rattle.cmm_grammar.proofs.Fine.{Fine}
use Rattle.cmm_grammar.proofs.Finish.{Finish, finish}

-- both are empty, or begin with the same token
abbrev pub Alike : List TokenTree → List TokenTree → Type 0
Alike [] [] = Unit {0}
Alike [] (b ∷ bs) = ⊥
Alike (a ∷ as') [] = ⊥
Alike (a ∷ as') (b ∷ bs) = a ≡ b

-- the depths at which reading stops so: from this one on, or where a parenthesis is too deep, this one
pub record Reach (why : Why) (d e : ℕ) : Type 0 where
  pub low : d ≤ e
  pub level : why ≡ Deep → d ≡ e

-- What can be finished: the tokens before, at this depth; and where a parenthesis is too deep, those and the
-- parenthesis, one level deeper.
pub data Way (why : Why) (d : ℕ) (after : List TokenTree) (e : ℕ) (forced : List TokenTree) : Type 0 where
  here : e ≡ d → forced ≡ [] → Way why d after e forced
  beyond : (bad : TokenTree) (behind : List TokenTree) → why ≡ Deep → after ≡ bad ∷ behind → e ≡ suc d → forced ≡ bad ∷ [] → Way why d after e forced

pub record AnOpen (after : List TokenTree) : Type 0 where
  pub bad : TokenTree
  pub behind : List TokenTree
  pub is_after : after ≡ bad ∷ behind
  pub opens : is_open bad ≡ true

pub record Halted (s : Sort) (d : ℕ) (r : Rule s) (why : Why) (ts : List TokenTree) (left : ℕ) : Type 0 where
  pub before : List TokenTree
  pub after : List TokenTree
  pub whole : ts ≡ before ++ after
  pub so : length after ≡ left
  pub opens : why ≡ Deep → AnOpen after
  pub finishes : (e : ℕ) (forced : List TokenTree) → Way why d after e forced → Finish s e r (before ++ forced)
  pub again : (e : ℕ) → Reach why d e → (zs : List TokenTree) → Alike after zs → reads r e (before ++ zs) ≡ Stops why (length zs)

abbrev pub Halts : (s : Sort) → ℕ → Rule s → Type 0
Halts s d r = (ts : List TokenTree) (why : Why) (left : ℕ) → reads r d ts ≡ Stops why left → Halted s d r why ts left

-- fine from a depth on
abbrev pub AllFine : (s : Sort) → ℕ → Rule s → Type 0
AllFine s d r = (e : ℕ) → d ≤ e → Fine r e

pub way_low : (why : Why) (d : ℕ) (after : List TokenTree) (e : ℕ) (forced : List TokenTree) → Way why d after e forced → d ≤ e
way_low why d after e forced (here p q) = omega (arith, p)
way_low why d after e forced (beyond bad bs w a p q) = omega (arith, p)

pub way_down : (why : Why) (d : ℕ) (after : List TokenTree) (e : ℕ) (forced : List TokenTree) → Way why (suc d) after (suc e) forced → Way why d after e forced
way_down why d after e forced (here p q) = here (omega (arith, p)) q
way_down why d after e forced (beyond bad bs w a p q) = beyond bad bs w a (omega (arith, p)) q

pub reach_down : (why : Why) (d e : ℕ) → Reach why (suc d) (suc e) → Reach why d e
reach_down why d e r = record { low = let l = r.low in omega (arith, l); level = λ w. let p = r.level w in omega (arith, p) }

pub halted_as : (s : Sort) (d : ℕ) (r : Rule s) (v w : Why) (ts : List TokenTree) (m n : ℕ) → Halted s d r v ts m → v ≡ w → m ≡ n → Halted s d r w ts n
halted_as s d r v w ts m n h p q = subst (λ (x : Why). Halted s d r x ts n) p (subst (λ (x : ℕ). Halted s d r v ts x) q h)

regroup : (xs b f m n : List TokenTree) → (xs ++ ((b ++ f) ++ m)) ++ n ≡ ((xs ++ b) ++ f) ++ (m ++ n)
regroup xs b f m n =
    append_assoc xs ((b ++ f) ++ m) n
    ∙ ap (λ (v : List TokenTree). xs ++ v) (append_assoc (b ++ f) m n)
    ∙ sym (append_assoc xs (b ++ f) (m ++ n))
    ∙ ap (λ (v : List TokenTree). v ++ (m ++ n)) (sym (append_assoc xs b f))

-- the tokens xs, and what a finish of the rest is finished by
wrapped : (s t : Sort) (e : ℕ) (r : Rule s) (f : ℕ) (q : Rule t) (xs before forced : List TokenTree)
    → Finish s e r (before ++ forced)
    → ((a : Value s) (ys : List TokenTree) → Spells s e r a ys → Finish t f q (xs ++ ys))
    → Finish t f q ((xs ++ before) ++ forced)
wrapped s t e r f q xs before forced x wrap =
    let g = wrap x.value ((before ++ forced) ++ x.more) x.spells in
    record {
      value = g.value;
      more = x.more ++ g.more;
      spells = subst (λ (v : List TokenTree). Spells t f q g.value v) (regroup xs before forced x.more g.more) g.spells;
    }

-- reading stops in a part, after tokens that were read
pub behind : (s t : Sort) (d : ℕ) (r : Rule s) (q : Rule t) (why : Why) (xs ts middle : List TokenTree) (left : ℕ)
    → ts ≡ xs ++ middle
    → Halted s d r why middle left
    → ((e : ℕ) → d ≤ e → (zs : List TokenTree) (n : ℕ) → reads r e zs ≡ Stops why n → reads q e (xs ++ zs) ≡ Stops why n)
    → ((e : ℕ) → d ≤ e → (a : Value s) (ys : List TokenTree) → Spells s e r a ys → Finish t e q (xs ++ ys))
    → Halted t d q why ts left
behind s t d r q why xs ts middle left w h stops wrap = record {
  before = xs ++ h.before;
  after = h.after;
  whole = w ∙ ap (λ (v : List TokenTree). xs ++ v) h.whole ∙ sym (append_assoc xs h.before h.after);
  so = h.so;
  opens = h.opens;
  finishes = λ e forced way. wrapped s t e r e q xs h.before forced (h.finishes e forced way) (wrap e (way_low why d h.after e forced way));
  again = λ e reach zs alike. ap (reads q e) (append_assoc xs h.before zs) ∙ stops e reach.low (h.before ++ zs) (length zs) (h.again e reach zs alike);
}

-- the same, one level deeper
pub within : (s t : Sort) (d : ℕ) (r : Rule s) (q : Rule t) (why : Why) (xs ts middle : List TokenTree) (left : ℕ)
    → ts ≡ xs ++ middle
    → Halted s d r why middle left
    → ((e : ℕ) → d ≤ e → (zs : List TokenTree) (n : ℕ) → reads r e zs ≡ Stops why n → reads q (suc e) (xs ++ zs) ≡ Stops why n)
    → ((e : ℕ) → d ≤ e → (a : Value s) (ys : List TokenTree) → Spells s e r a ys → Finish t (suc e) q (xs ++ ys))
    → Halted t (suc d) q why ts left
within s t d r q why xs ts middle left w h stops wrap = record {
  before = xs ++ h.before;
  after = h.after;
  whole = w ∙ ap (λ (v : List TokenTree). xs ++ v) h.whole ∙ sym (append_assoc xs h.before h.after);
  so = h.so;
  opens = h.opens;
  finishes = finishes;
  again = again;
}
  where
    finishes : (e : ℕ) (forced : List TokenTree) → Way why (suc d) h.after e forced → Finish t e q ((xs ++ h.before) ++ forced)
    finishes zero forced way = absurd (omega (arith, way_low why (suc d) h.after 0 forced way))
    finishes (suc e) forced way =
        let down = way_down why d h.after e forced way in
        wrapped s t e r (suc e) q xs h.before forced (h.finishes e forced down) (wrap e (way_low why d h.after e forced down))

    again : (e : ℕ) → Reach why (suc d) e → (zs : List TokenTree) → Alike h.after zs → reads q e ((xs ++ h.before) ++ zs) ≡ Stops why (length zs)
    again zero reach zs alike = let l = reach.low in absurd (omega (arith, l))
    again (suc e) reach zs alike =
        let down = reach_down why d e reach in
        ap (reads q (suc e)) (append_assoc xs h.before zs) ∙ stops e down.low (h.before ++ zs) (length zs) (h.again e down zs alike)

-- tokens that begin with this one
pub record Begun (u : TokenTree) (ts : List TokenTree) : Type 0 where
  pub others : List TokenTree
  pub is : ts ≡ u ∷ others

pub front : (u : TokenTree) (us before after zs : List TokenTree) → u ∷ us ≡ before ++ after → Alike after zs → Begun u (before ++ zs)
front u us [] [] zs w alike = cc
front u us [] (a ∷ after) [] w alike = absurd alike
front u us [] (a ∷ after) (z ∷ zs) w alike = record { others = zs; is = cc }
front u us (x ∷ before) after zs w alike = record { others = before ++ zs; is = cc }

forced_front : (why : Why) (d : ℕ) (u : TokenTree) (us before after : List TokenTree) (e : ℕ) (forced : List TokenTree) → u ∷ us ≡ before ++ after → Way why d after e forced
    → ([] ≡ before ++ forced) ⊎ Begun u (before ++ forced)
forced_front why d u us [] after e forced w (here p q) = inl (sym q)
forced_front why d u us [] after e forced w (beyond bad bs v a p q) = inr (record { others = []; is = cc })
forced_front why d u us (x ∷ before) after e forced w way = inr (record { others = before ++ forced; is = cc })

-- reading stops in a part that begins at the same token, by which that part was chosen
pub starting : (s t : Sort) (d : ℕ) (r : Rule s) (q : Rule t) (why : Why) (u : TokenTree) (us : List TokenTree) (left : ℕ)
    → Halted s d r why (u ∷ us) left
    → ((e : ℕ) → Reach why d e → (zs : List TokenTree) (n : ℕ) → reads r e (u ∷ zs) ≡ Stops why n → reads q e (u ∷ zs) ≡ Stops why n)
    → ((e : ℕ) → d ≤ e → (a : Value s) (ys : List TokenTree) → Spells s e r a (u ∷ ys) → Finish t e q (u ∷ ys))
    → AllFine t d q
    → Halted t d q why (u ∷ us) left
starting s t d r q why u us left h stops wrap fine = record {
  before = h.before;
  after = h.after;
  whole = h.whole;
  so = h.so;
  opens = h.opens;
  finishes = λ e forced way. go e forced (way_low why d h.after e forced way) (h.finishes e forced way) (forced_front why d u us h.before h.after e forced h.whole way);
  again = λ e reach zs alike.
      let x = front u us h.before h.after zs h.whole alike in
      ap (reads q e) x.is ∙ stops e reach x.others (length zs) (ap (reads r e) (sym x.is) ∙ h.again e reach zs alike);
}
  where
    go : (e : ℕ) (forced : List TokenTree) → d ≤ e → Finish s e r (h.before ++ forced) → ([] ≡ h.before ++ forced) ⊎ Begun u (h.before ++ forced) → Finish t e q (h.before ++ forced)
    go e forced low x (inl p) = subst (λ (v : List TokenTree). Finish t e q v) p (finish t q e (fine e low))
    go e forced low x (inr b) =
        let spells : Spells s e r x.value (u ∷ (b.others ++ x.more)) = subst (λ (v : List TokenTree). Spells s e r x.value (v ++ x.more)) b.is x.spells in
        let g = wrap e low x.value (b.others ++ x.more) spells in
        let made : Finish t e q (u ∷ b.others) = record {
          value = g.value;
          more = x.more ++ g.more;
          spells = subst (λ (v : List TokenTree). Spells t e q g.value v) (append_assoc (u ∷ b.others) x.more g.more) g.spells;
        } in
        subst (λ (v : List TokenTree). Finish t e q v) (sym b.is) made

-- reading stops at the first token, or where there is none
pub at_first_token : (s : Sort) (d : ℕ) (q : Rule s) (ts : List TokenTree)
    → AllFine s d q
    → ((e : ℕ) → d ≤ e → (zs : List TokenTree) → Alike ts zs → reads q e zs ≡ Stops Stuck (length zs))
    → Halted s d q Stuck ts (length ts)
at_first_token s d q ts fine stops = record {
  before = [];
  after = ts;
  whole = refl;
  so = refl;
  opens = λ w. cc;
  finishes = λ e forced way. go e forced way;
  again = λ e reach zs alike. stops e reach.low zs alike;
}
  where
    go : (e : ℕ) (forced : List TokenTree) → Way Stuck d ts e forced → Finish s e q forced
    go e forced (here p v) = subst (λ (x : List TokenTree). Finish s e q x) (sym v) (finish s q e (fine e (omega (arith, p))))
    go e forced (beyond bad bs w a p v) = cc

-- a parenthesis is too deep
pub at_too_deep : (s : Sort) (q : Rule s) (u : TokenTree) (us : List TokenTree)
    → AllFine s 0 q
    → is_open u ≡ true
    → ((zs : List TokenTree) → reads q 0 (u ∷ zs) ≡ Stops Deep (suc (length zs)))
    → Finish s 1 q (u ∷ [])
    → Halted s 0 q Deep (u ∷ us) (suc (length us))
at_too_deep s q u us fine is stops deeper = record {
  before = [];
  after = u ∷ us;
  whole = refl;
  so = refl;
  opens = λ w. record { bad = u; behind = us; is_after = refl; opens = is };
  finishes = λ e forced way. go e forced way;
  again = λ e reach zs alike. again e (reach.level refl) zs alike;
}
  where
    go : (e : ℕ) (forced : List TokenTree) → Way Deep 0 (u ∷ us) e forced → Finish s e q forced
    go e forced (here p v) = subst (λ (x : List TokenTree). Finish s e q x) (sym v) (finish s q e (fine e (omega (arith, p))))
    go e forced (beyond bad bs w a p v) =
        let same : u ≡ bad = cc in
        subst (λ (x : List TokenTree). Finish s e q x) (ap (λ x. x ∷ []) same ∙ sym v) (subst (λ (x : ℕ). Finish s x q (u ∷ [])) (sym p) deeper)

    again : (e : ℕ) → 0 ≡ e → (zs : List TokenTree) → Alike (u ∷ us) zs → reads q e zs ≡ Stops Deep (length zs)
    again e p [] alike = absurd alike
    again e p (z ∷ zs) alike =
        subst (λ (x : ℕ). reads q x (z ∷ zs) ≡ Stops Deep (suc (length zs))) p (subst (λ (x : TokenTree). reads q 0 (x ∷ zs) ≡ Stops Deep (suc (length zs))) alike (stops zs))
