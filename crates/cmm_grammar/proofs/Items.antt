-- Items: what is read is spelled so, what is spelled so is read, and where reading stops.
use Rattle.std.proofs.Common.{◌≡◌, ℕ, ◌-◌, ◌≤◌, zero, suc, List, [], ◌∷◌, ◌++◌, length, refl, sym, ap, subst, ◌∙◌, arith, append_assoc, length-append}
use Rattle.std.proofs.lemmas.List.{append-nil}
use Rattle.cmm_lex.specs.Token.{TokenTree}
use Rattle.cmm_tree.specs.Tree.{ItemTree}
use Rattle.cmm_grammar.specs.Parts.{ItemPart, item_of}
use Rattle.cmm_grammar.specs.Rule.{AnItem}
use Rattle.cmm_grammar.specs.Grammar.{an_item}
use Rattle.cmm_grammar.specs.Spelling.{Spells, AreItems, none, more, BeginsText}
use Rattle.cmm_grammar.specs.Reading.{ReadOutcome, Read, Stops, Why, Deep, Reader, bind, reads, items_by, items_at}
use Rattle.cmm_grammar.proofs.Basics.{read_inj, bind_read, bind_stops, OneStops, at_first, at_second, bind_on, bind_out, solid_some}
use Rattle.cmm_grammar.proofs.Sound.{Taken}
use Rattle.cmm_grammar.proofs.Complete.{Shortens, shortens, complete}
use Rattle.cmm_grammar.proofs.FineGrammar.{item_fine, item_solid}
use Rattle.cmm_grammar.proofs.Finish.{Finish}
use Rattle.cmm_grammar.proofs.Halt.{Alike, Reach, Way, AnOpen, Halted, front, way_low}
use Rattle.cmm_grammar.proofs.Stops.{rises_to}
use Rattle.cmm_grammar.proofs.Halting.{grammar_forms, item_halts, item_sound}

item_short : (d : ℕ) → 2 ≤ d → Shortens (reads an_item d)
item_short d two = shortens grammar_forms AnItem d an_item item_solid (item_fine d two)

-- an item of so many tokens, before others
abbrev before_others : ℕ → ItemPart → List ItemTree → Reader (List ItemTree)
before_others size i others final = Read (item_of size i ∷ others) final

item_step : (one : Reader ItemPart) (n m size : ℕ) (o : ReadOutcome ItemPart)
    → ((i : ItemPart) (rest : List TokenTree) → o ≡ Read i rest → items_by one n rest ≡ items_by one m rest)
    → bind o (λ i rest. bind (items_by one n rest) (before_others (size - length rest) i)) ≡ bind o (λ i rest. bind (items_by one m rest) (before_others (size - length rest) i))
item_step one n m size (Read i rest) h = ap (λ v. bind v (before_others (size - length rest) i)) (h i rest refl)
item_step one n m size (Stops why left) h = refl

items_same : (one : Reader ItemPart) → Shortens one → (n m : ℕ) (ts : List TokenTree) → length ts ≤ n → length ts ≤ m → items_by one n ts ≡ items_by one m ts
items_same one h n m [] x y = refl
items_same one h zero m (t ∷ ts) x y = absurd (omega arith)
items_same one h (suc n) zero (t ∷ ts) x y = absurd (omega arith)
items_same one h (suc n) (suc m) (t ∷ ts) x y =
    item_step one n m (suc (length ts)) (one (t ∷ ts)) (λ i rest e. let l = h (t ∷ ts) i rest e in items_same one h n m rest (omega arith) (omega arith))

next_step : (one : Reader ItemPart) → Shortens one → (n size : ℕ) (o : ReadOutcome ItemPart)
    → ((i : ItemPart) (rest : List TokenTree) → o ≡ Read i rest → length rest ≤ n)
    → bind o (λ i rest. bind (items_by one n rest) (before_others (size - length rest) i)) ≡ bind o (λ i rest. bind (items_by one (length rest) rest) (before_others (size - length rest) i))
next_step one short n size (Read i rest) h = ap (λ v. bind v (before_others (size - length rest) i)) (items_same one short n (length rest) rest (h i rest refl) (omega arith))
next_step one short n size (Stops why left) h = refl

items_next : (d : ℕ) → 2 ≤ d → (t : TokenTree) (ts : List TokenTree)
    → items_at d (t ∷ ts) ≡ bind (reads an_item d (t ∷ ts)) (λ i rest. bind (items_at d rest) (before_others (suc (length ts) - length rest) i))
items_next d two t ts =
    next_step (reads an_item d) (item_short d two) (length ts) (suc (length ts)) (reads an_item d (t ∷ ts))
    (λ i rest e. let l = item_short d two (t ∷ ts) i rest e in omega (arith, l))

-- after an item
items_past : (d : ℕ) → 2 ≤ d → (i : ItemPart) (xs : List TokenTree) → Spells AnItem d an_item i xs → (ws : List TokenTree)
    → items_at d (xs ++ ws) ≡ bind (items_at d ws) (before_others (length xs) i)
items_past d two i [] h ws = absurd (omega (arith, solid_some AnItem d an_item i [] h item_solid))
items_past d two i (t ∷ xs) h ws =
    let size : suc (length (xs ++ ws)) - length ws ≡ suc (length xs) = omega (arith, length-append xs ws) in
    items_next d two t (xs ++ ws)
    ∙ bind_on (reads an_item d (t ∷ (xs ++ ws))) (λ i rest. bind (items_at d rest) (before_others (suc (length (xs ++ ws)) - length rest) i)) i ws
    (complete grammar_forms AnItem d an_item i (t ∷ xs) h (item_fine d two) ws)
    ∙ ap (λ k. bind (items_at d ws) (before_others k i)) size

-- items that are spelled are read
pub items_complete : (d : ℕ) (items : List ItemTree) (ts : List TokenTree) → AreItems d items ts → 2 ≤ d → items_at d ts ≡ Read items []
items_complete _ _ _ (none d) two = refl
items_complete _ _ _ (more d i is xs ys h g) two =
    items_past d two i xs h ys ∙ bind_on (items_at d ys) (before_others (length xs) i) is [] (items_complete d is ys g two)

pub record ItemsTaken (d : ℕ) (items : List ItemTree) (ts rest : List TokenTree) : Type 0 where
  pub all : rest ≡ []
  pub are : AreItems d items ts

-- what is read is spelled so, to the end
pub items_sound : (d : ℕ) → 2 ≤ d → (n : ℕ) (ts : List TokenTree) → length ts ≤ n → (items : List ItemTree) (rest : List TokenTree) → items_at d ts ≡ Read items rest → ItemsTaken d items ts rest
items_sound d two n [] less items rest p =
    let x = read_inj [] items [] rest p in
    record { all = sym x.1; are = subst (λ (v : List ItemTree). AreItems d v []) x.0 (none d) }
items_sound d two zero (t ∷ ts) less items rest p = absurd (omega arith)
items_sound d two (suc n) (t ∷ ts) less items rest p =
    let x = bind_read (reads an_item d (t ∷ ts)) (λ i rest. bind (items_at d rest) (before_others (suc (length ts) - length rest) i)) items rest (sym (items_next d two t ts) ∙ p) in
    let l = item_short d two (t ∷ ts) x.a x.middle x.first in
    let y = bind_read (items_at d x.middle) (before_others (suc (length ts) - length x.middle) x.a) items rest x.second in
    let z = read_inj (item_of (suc (length ts) - length x.middle) x.a ∷ y.a) items y.middle rest y.second in
    let taken = item_sound d two (t ∷ ts) x.a x.middle x.first in
    let later = items_sound d two n x.middle (omega (arith, l)) y.a y.middle y.first in
    let whole : suc (length ts) ≡ length (taken.tokens ++ x.middle) = ap length taken.whole in
    let size : length taken.tokens ≡ suc (length ts) - length x.middle = omega (arith, whole, length-append taken.tokens x.middle) in
    let made : AreItems d (item_of (length taken.tokens) x.a ∷ y.a) (taken.tokens ++ x.middle) = more d x.a y.a taken.tokens x.middle taken.spells later.are in
    let sized : AreItems d (item_of (suc (length ts) - length x.middle) x.a ∷ y.a) (taken.tokens ++ x.middle) =
    subst (λ (k : ℕ). AreItems d (item_of k x.a ∷ y.a) (taken.tokens ++ x.middle)) size made in
    let named : AreItems d items (taken.tokens ++ x.middle) = subst (λ (v : List ItemTree). AreItems d v (taken.tokens ++ x.middle)) z.0 sized in
    record {
      all = sym z.1 ∙ later.all;
      are = subst (λ (v : List TokenTree). AreItems d items v) (sym taken.whole) named;
    }

-- parentheses may nest deeper
pub items_rise : (d : ℕ) (items : List ItemTree) (ts : List TokenTree) → AreItems d items ts → (e : ℕ) → d ≤ e → AreItems e items ts
items_rise _ _ _ (none d) e l = none e
items_rise _ _ _ (more d i is xs ys h g) e l = more e i is xs ys (rises_to AnItem d e l an_item i xs h) (items_rise d is ys g e l)

-- ---- where reading stops

pub record HaltedItems (d : ℕ) (why : Why) (ts : List TokenTree) (left : ℕ) : Type 0 where
  pub before : List TokenTree
  pub after : List TokenTree
  pub whole : ts ≡ before ++ after
  pub so : length after ≡ left
  pub opens : why ≡ Deep → AnOpen after
  pub finishes : (e : ℕ) (forced : List TokenTree) → Way why d after e forced → BeginsText e (before ++ forced)
  pub again : (e : ℕ) → Reach why d e → (zs : List TokenTree) → Alike after zs → items_at e (before ++ zs) ≡ Stops why (length zs)

one_item : (e : ℕ) (ys : List TokenTree) → Finish AnItem e an_item ys → BeginsText e ys
one_item e ys x =
    let made : AreItems e (item_of (length (ys ++ x.more)) x.value ∷ []) ((ys ++ x.more) ++ []) = more e x.value [] (ys ++ x.more) [] x.spells (none e) in
    (item_of (length (ys ++ x.more)) x.value ∷ [], x.more, subst (λ (v : List TokenTree). AreItems e (item_of (length (ys ++ x.more)) x.value ∷ []) v) (append-nil (ys ++ x.more)) made)

regroup : (xs b f m : List TokenTree) → xs ++ ((b ++ f) ++ m) ≡ ((xs ++ b) ++ f) ++ m
regroup xs b f m = sym (append_assoc xs (b ++ f) m) ∙ ap (λ (v : List TokenTree). v ++ m) (sym (append_assoc xs b f))

one_more_item : (e : ℕ) (i : ItemPart) (xs before forced : List TokenTree) → Spells AnItem e an_item i xs → BeginsText e (before ++ forced) → BeginsText e ((xs ++ before) ++ forced)
one_more_item e i xs before forced h b =
    let made : AreItems e (item_of (length xs) i ∷ b.0) (xs ++ ((before ++ forced) ++ b.1)) = more e i b.0 xs ((before ++ forced) ++ b.1) h b.2 in
    (item_of (length xs) i ∷ b.0, b.1, subst (λ (v : List TokenTree). AreItems e (item_of (length xs) i ∷ b.0) v) (regroup xs before forced b.1) made)

first_stops : (e : ℕ) → 2 ≤ e → (u : TokenTree) (ws us : List TokenTree) (why : Why) (n : ℕ) → ws ≡ u ∷ us → reads an_item e ws ≡ Stops why n → items_at e ws ≡ Stops why n
first_stops e two u ws us why n w p =
    let q : reads an_item e (u ∷ us) ≡ Stops why n = ap (reads an_item e) (sym w) ∙ p in
    ap (items_at e) w ∙ items_next e two u us ∙ bind_out (reads an_item e (u ∷ us)) (λ i rest. bind (items_at e rest) (before_others (suc (length us) - length rest) i)) why n q

rest_stops : (o : ReadOutcome (List ItemTree)) (size : ℕ) (i : ItemPart) (why : Why) (left : ℕ) → OneStops o (before_others size i) why left → o ≡ Stops why left
rest_stops o size i why left (at_first g) = g
rest_stops o size i why left (at_second a middle g j) = cc

pub items_halt : (d : ℕ) → 2 ≤ d → (n : ℕ) (ts : List TokenTree) → length ts ≤ n → (why : Why) (left : ℕ) → items_at d ts ≡ Stops why left → HaltedItems d why ts left
items_halt d two n [] less why left p = cc
items_halt d two zero (t ∷ ts) less why left p = absurd (omega arith)
items_halt d two (suc n) (t ∷ ts) less why left p =
    go (λ middle l g. items_halt d two n middle l why left g)
    (bind_stops (reads an_item d (t ∷ ts)) (λ i rest. bind (items_at d rest) (before_others (suc (length ts) - length rest) i)) why left (sym (items_next d two t ts) ∙ p))
  where
    first : Halted AnItem d an_item why (t ∷ ts) left → HaltedItems d why (t ∷ ts) left
    first h = record {
      before = h.before;
      after = h.after;
      whole = h.whole;
      so = h.so;
      opens = h.opens;
      finishes = λ e forced way. one_item e (h.before ++ forced) (h.finishes e forced way);
      again = λ e reach zs alike.
          let x = front t ts h.before h.after zs h.whole alike in
          let l = reach.low in
          first_stops e (omega (arith, l)) t (h.before ++ zs) x.others why (length zs) x.is (h.again e reach zs alike);
    }

    second : (i : ItemPart) (middle : List TokenTree) → Taken AnItem d an_item i (t ∷ ts) middle → HaltedItems d why middle left → HaltedItems d why (t ∷ ts) left
    second i middle x h = record {
      before = x.tokens ++ h.before;
      after = h.after;
      whole = x.whole ∙ ap (λ (v : List TokenTree). x.tokens ++ v) h.whole ∙ sym (append_assoc x.tokens h.before h.after);
      so = h.so;
      opens = h.opens;
      finishes = λ e forced way.
          one_more_item e i x.tokens h.before forced (rises_to AnItem d e (way_low why d h.after e forced way) an_item i x.tokens x.spells) (h.finishes e forced way);
      again = λ e reach zs alike.
          let l = reach.low in
          ap (items_at e) (append_assoc x.tokens h.before zs)
          ∙ items_past e (omega (arith, l)) i x.tokens (rises_to AnItem d e l an_item i x.tokens x.spells) (h.before ++ zs)
          ∙ bind_out (items_at e (h.before ++ zs)) (before_others (length x.tokens) i) why (length zs) (h.again e reach zs alike);
    }

    go : ((middle : List TokenTree) → length middle ≤ n → items_at d middle ≡ Stops why left → HaltedItems d why middle left)
        → OneStops (reads an_item d (t ∷ ts)) (λ i rest. bind (items_at d rest) (before_others (suc (length ts) - length rest) i)) why left
        → HaltedItems d why (t ∷ ts) left
    go later (at_first g) = first (item_halts d two (t ∷ ts) why left g)
    go later (at_second i middle g j) =
        let l = item_short d two (t ∷ ts) i middle g in
        let k = rest_stops (items_at d middle) (suc (length ts) - length middle) i why left
        (bind_stops (items_at d middle) (before_others (suc (length ts) - length middle) i) why left j) in
        second i middle (item_sound d two (t ∷ ts) i middle g) (later middle (omega (arith, l)) k)
