-- Tokens are items, or end inside a form, or a token is unexpected, or a parenthesis too deep: exactly one of these,
-- at one place, and reading says which.
use Rattle.std.proofs.Common.{◌≡◌, ℕ, ◌+◌, ◌≤◌, suc, List, [], ◌∷◌, ◌++◌, length, refl, sym, ap, subst, ◌∙◌, arith, append_assoc}
use Rattle.std.proofs.lemmas.List.{append-nil}
use Rattle.cmm_lex.specs.Token.{TokenTree}
use Rattle.cmm_tree.specs.Tree.{ItemTree}
use Rattle.cmm_grammar.specs.Words.{is_open}
use Rattle.cmm_grammar.specs.Rule.{Sort, Value, Rule}
use Rattle.cmm_grammar.specs.Spelling.{Spells, AreItems, BeginsText, nesting}
use Rattle.cmm_grammar.specs.Faults.{Unexpected, TooDeep, EndsInside, HasBadToken}
use Rattle.cmm_grammar.specs.Reading.{Read, Stops, Why, Stuck, Deep, items_at}
use Rattle.cmm_grammar.proofs.Fine.{Fine}
use Rattle.cmm_grammar.proofs.Basics.{read_inj, not_both}
use Rattle.cmm_grammar.proofs.Complete.{complete}
use Rattle.cmm_grammar.proofs.Halt.{Alike, Reach, Way, here, beyond, AnOpen}
use Rattle.cmm_grammar.proofs.Halting.{grammar_forms}
use Rattle.cmm_grammar.proofs.Items.{ItemsTaken, items_complete, items_sound, items_rise, items_halt}

-- ---- values are unique

-- tokens have at most one value by a rule
pub one_value : (s : Sort) (d : ℕ) (r : Rule s) (a b : Value s) (xs : List TokenTree) → Fine r d → Spells s d r a xs → Spells s d r b xs → a ≡ b
one_value s d r a b xs fine h g =
    (read_inj a b [] [] (sym (complete grammar_forms s d r a xs h fine []) ∙ complete grammar_forms s d r b xs g fine [])).0

-- and are at most one list of items, however deep parentheses may nest
pub one_list : (d e : ℕ) (is js : List ItemTree) (ts : List TokenTree) → AreItems d is ts → AreItems e js ts → is ≡ js
one_list d e is js ts h g =
    let f = suc (suc (d + e)) in
    let x = items_complete f is ts (items_rise d is ts h f (omega arith)) (omega arith) in
    let y = items_complete f js ts (items_rise e js ts g f (omega arith)) (omega arith) in
    (read_inj is js [] [] (sym x ∙ y)).0

-- ---- beginnings

pub begins_less : (d : ℕ) (xs ys : List TokenTree) → BeginsText d (xs ++ ys) → BeginsText d xs
begins_less d xs ys b = (b.0, ys ++ b.1, subst (λ (v : List TokenTree). AreItems d b.0 v) (append_assoc xs ys b.1) b.2)

pub begins_rise : (d e : ℕ) (xs : List TokenTree) → d ≤ e → BeginsText d xs → BeginsText e xs
begins_rise d e xs l b = (b.0, b.1, items_rise d b.0 (xs ++ b.1) b.2 e l)

pub items_begin : (d : ℕ) (items : List ItemTree) (ts : List TokenTree) → AreItems d items ts → BeginsText d ts
items_begin d items ts h = (items, [], subst (λ (v : List TokenTree). AreItems d items v) (sym (append-nil ts)) h)

-- where reading stops at a token whatever follows, no text goes on with it
blocked : (e : ℕ) → 2 ≤ e → (before : List TokenTree) (bad : TokenTree) (why : Why)
    → ((zs : List TokenTree) → items_at e (before ++ (bad ∷ zs)) ≡ Stops why (suc (length zs)))
    → BeginsText e (before ++ (bad ∷ [])) → ⊥
blocked e two before bad why stops b =
    let x = items_complete e b.0 ((before ++ (bad ∷ [])) ++ b.1) b.2 two in
    not_both b.0 [] why (suc (length b.1)) (sym (stops b.1) ∙ ap (items_at e) (sym (append_assoc before (bad ∷ []) b.1)) ∙ x)

-- ---- what reading says

-- all tokens are read, as items
pub read_items : (ts : List TokenTree) (items : List ItemTree) (rest : List TokenTree) → items_at nesting ts ≡ Read items rest → ItemsTaken nesting items ts rest
read_items ts items rest p = items_sound nesting (omega arith) (length ts) ts (omega arith) items rest p

-- items are read
pub items_read : (ts : List TokenTree) (items : List ItemTree) → AreItems nesting items ts → items_at nesting ts ≡ Read items []
items_read ts items h = items_complete nesting items ts h (omega arith)

so_far_of : (d : ℕ) (before : List TokenTree) → BeginsText d (before ++ []) → BeginsText d before
so_far_of d before b = begins_less d before [] b

-- where no token is left, the text ends inside a form
pub stuck_end : (ts : List TokenTree) → items_at nesting ts ≡ Stops Stuck 0 → EndsInside ts
stuck_end ts p =
    let h = items_halt nesting (omega arith) (length ts) ts (omega arith) Stuck 0 p in
    go h.before h.after h.whole h.so h.finishes h.again
  where
    go : (before after : List TokenTree) → ts ≡ before ++ after → length after ≡ 0
        → ((e : ℕ) (forced : List TokenTree) → Way Stuck nesting after e forced → BeginsText e (before ++ forced))
        → ((e : ℕ) → Reach Stuck nesting e → (zs : List TokenTree) → Alike after zs → items_at e (before ++ zs) ≡ Stops Stuck (length zs))
        → EndsInside ts
    go before (a ∷ after) w so finishes again = absurd (omega arith)
    go before [] w so finishes again = record {
      so_far = subst (λ (v : List TokenTree). BeginsText nesting v) (sym w) (finishes nesting [] (here refl refl));
      no_end = λ d items are.
          let e = d + nesting in
          let x = items_complete e items ts (items_rise d items ts are e (omega arith)) (omega arith) in
          let y = again e (record { low = omega arith; level = λ v. cc }) [] tt in
          not_both items [] Stuck 0 (sym y ∙ ap (items_at e) (sym w) ∙ x);
    }

-- where tokens are left, the first one is unexpected
pub stuck_token : (ts : List TokenTree) (left : ℕ) → items_at nesting ts ≡ Stops Stuck left → 1 ≤ left → HasBadToken Unexpected ts left
stuck_token ts left p some =
    let h = items_halt nesting (omega arith) (length ts) ts (omega arith) Stuck left p in
    go h.before h.after h.whole h.so h.finishes h.again
  where
    go : (before after : List TokenTree) → ts ≡ before ++ after → length after ≡ left
        → ((e : ℕ) (forced : List TokenTree) → Way Stuck nesting after e forced → BeginsText e (before ++ forced))
        → ((e : ℕ) → Reach Stuck nesting e → (zs : List TokenTree) → Alike after zs → items_at e (before ++ zs) ≡ Stops Stuck (length zs))
        → HasBadToken Unexpected ts left
    go before [] w so finishes again = absurd (omega arith)
    go before (bad ∷ after) w so finishes again = record {
      before = before;
      bad = bad;
      behind = after;
      whole = w;
      is_left = sym so;
      holds = record {
        so_far = so_far_of nesting before (finishes nesting [] (here refl refl));
        no_further = λ d b.
            let e = d + nesting in
            blocked e (omega arith) before bad Stuck (λ zs. again e (record { low = omega arith; level = λ v. cc }) (bad ∷ zs) refl)
            (begins_rise d e (before ++ (bad ∷ [])) (omega arith) b);
      };
    }

-- where it is too deep, the first token that is left opens a parenthesis one level too deep
pub deep_token : (ts : List TokenTree) (left : ℕ) → items_at nesting ts ≡ Stops Deep left → HasBadToken TooDeep ts left
deep_token ts left p =
    let h = items_halt nesting (omega arith) (length ts) ts (omega arith) Deep left p in
    go h.before h.after h.whole h.so (h.opens refl) h.finishes h.again
  where
    go : (before after : List TokenTree) → ts ≡ before ++ after → length after ≡ left → AnOpen after
        → ((e : ℕ) (forced : List TokenTree) → Way Deep nesting after e forced → BeginsText e (before ++ forced))
        → ((e : ℕ) → Reach Deep nesting e → (zs : List TokenTree) → Alike after zs → items_at e (before ++ zs) ≡ Stops Deep (length zs))
        → HasBadToken TooDeep ts left
    go before [] w so o finishes again = let x = o.is_after in cc
    go before (bad ∷ after) w so o finishes again =
        let x = o.is_after in
        let same : o.bad ≡ bad = cc in
        record {
          before = before;
          bad = bad;
          behind = after;
          whole = w;
          is_left = sym so;
          holds = record {
            so_far = so_far_of nesting before (finishes nesting [] (here refl refl));
            opens = ap is_open (sym same) ∙ o.opens;
            deeper = finishes (suc nesting) (bad ∷ []) (beyond bad after refl refl refl refl);
            no_further = λ b.
                blocked nesting (omega arith) before bad Deep (λ zs. again nesting (record { low = omega arith; level = λ v. refl }) (bad ∷ zs) refl) b;
          };
        }
