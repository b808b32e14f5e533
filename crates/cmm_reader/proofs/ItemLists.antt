-- Items that are read one by one: what was read so far comes before what the rest gives.
use Rattle.std.proofs.Common.{◌≡◌, ℕ, ◌-◌, ◌≤◌, ◌<◌, ◌==◌, zero, suc, false, List, [], ◌∷◌, ◌++◌, length, map, refl, sym, ap, subst, ◌∙◌, arith, append-nil}
use Rattle.std.proofs.lemmas.List.{map-append, length-map}
use Rattle.cmm_lex.specs.Token.{TokenTree, token_view}
use Rattle.cmm_lex.specs.declared.token.Token as declared
use Rattle.cmm_tree.specs.Tree.{ItemTree}
use Rattle.cmm_tree.specs.View.{item_view}
use Rattle.cmm_tree.specs.declared.file.Item.{Item}
use Rattle.cmm_grammar.specs.Parts.{ItemPart, item_of}
use Rattle.cmm_grammar.specs.Rule.{AnItem}
use Rattle.cmm_grammar.specs.Grammar.{a_data_item, an_item}
use Rattle.cmm_grammar.specs.Reading.{Read, Stops, Why, Reader, bind, items_by, items_at, reads}
use Rattle.cmm_nodes.specs.declared.stop.Stop.{Stop}
use Rattle.cmm_parts.specs.Results.{trees, Fails}
use Rattle.cmm_parts.proofs.Lengths.{Takes, shorter}
use Rattle.cmm_parts.proofs.Lists.{with_front, front-none, front-more, fails-along}
use Rattle.cmm_parts.proofs.Loops.{read-shorter}
use Rattle.cmm_reader.specs.ItemParts.{item_part}

pub takes-data-item : Takes a_data_item
unfolding a_data_item
takes-data-item = tt

pub takes-item : Takes an_item
unfolding an_item
takes-item = tt

items-end-by : (one : Reader ItemPart) (bound : ℕ) → items_by one bound [] ≡ Read [] []
items-end-by one zero = refl
items-end-by one (suc bound) = refl

-- what was read so far of the items of a text, and the tokens that are left
pub record ItemsGoing (one : Reader ItemPart) (whole : List TokenTree) (xs : List ItemTree) (rest : List TokenTree) : Type 0 where
  pub bound : ℕ
  pub room : length rest ≤ bound
  pub same : with_front xs (items_by one bound rest) ≡ items_by one (length whole) whole

pub items-start : (one : Reader ItemPart) (whole : List TokenTree) → ItemsGoing one whole [] whole
items-start one whole = record { bound = length whole; room = omega arith; same = front-none (items_by one (length whole) whole) }

pub items-on : (one : Reader ItemPart) (whole : List TokenTree) (xs : List ItemTree) (t : TokenTree) (ts : List TokenTree)
    → ItemsGoing one whole xs (t ∷ ts)
    → (i : ItemPart) (rest : List TokenTree)
    → one (t ∷ ts) ≡ Read i rest
    → length rest ≤ length ts
    → ItemsGoing one whole (xs ++ item_of (suc (length ts) - length rest) i ∷ []) rest
items-on one whole xs t ts g i rest h l = by_bound g.bound g.room g.same
  where
    by_bound : (bound : ℕ) → length (t ∷ ts) ≤ bound → with_front xs (items_by one bound (t ∷ ts)) ≡ items_by one (length whole) whole
        → ItemsGoing one whole (xs ++ item_of (suc (length ts) - length rest) i ∷ []) rest
    by_bound zero room same = absurd (omega arith)
    by_bound (suc bound) room same =
        record {
          bound = bound;
          room = omega arith;
          same =
              sym (front-more xs (item_of (suc (length ts) - length rest) i) (items_by one bound rest))
              ∙ sym (ap (λ o. with_front xs (bind o (λ i rest. bind (items_by one bound rest) (λ more final. Read (item_of (suc (length ts) - length rest) i ∷ more) final)))) h)
              ∙ same;
        }

pub items-end : (one : Reader ItemPart) (whole : List TokenTree) (xs : List ItemTree) (rest : List TokenTree)
    → ItemsGoing one whole xs rest
    → rest ≡ []
    → items_by one (length whole) whole ≡ Read xs []
items-end one whole xs rest g e =
    sym g.same ∙ ap (λ v. with_front xs (items_by one g.bound v)) e ∙ ap (with_front xs) (items-end-by one g.bound) ∙ ap (λ v. Read v []) (append-nil xs)

pub items-out : (one : Reader ItemPart) (whole : List TokenTree) (xs : List ItemTree) (t : TokenTree) (ts : List TokenTree)
    → ItemsGoing one whole xs (t ∷ ts)
    → (s : Stop)
    → Fails s (one (t ∷ ts))
    → Fails s (items_by one (length whole) whole)
items-out one whole xs t ts g s h = fails-along s (one (t ∷ ts)) (items_by one (length whole) whole) (λ why left f. by_bound g.bound g.room g.same why left f) h
  where
    by_bound : (bound : ℕ) → length (t ∷ ts) ≤ bound → with_front xs (items_by one bound (t ∷ ts)) ≡ items_by one (length whole) whole
        → (why : Why) (left : ℕ) → one (t ∷ ts) ≡ Stops why left → items_by one (length whole) whole ≡ Stops why left
    by_bound zero room same why left f = absurd (omega arith)
    by_bound (suc bound) room same why left f =
        sym same
        ∙ ap (λ o. with_front xs (bind o (λ i rest. bind (items_by one bound rest) (λ more final. Read (item_of (suc (length ts) - length rest) i ∷ more) final)))) f

-- ---- over the items that the code holds

pub item-shorter : (d : ℕ) (source : List ℕ) (tokens behind : List declared.Token) (i : ItemPart)
    → (length tokens == 0) ≡ false
    → reads an_item d (trees source tokens) ≡ Read i (trees source behind)
    → length behind < length tokens
item-shorter d source [] behind i n h = cc
item-shorter d source (t ∷ tokens) behind i n h = let l = read-shorter an_item takes-item d source t tokens behind i h in omega (arith, l)

pub item-on : (d : ℕ) (source : List ℕ) (whole : List TokenTree) (xs new : List Item) (i counted : Item) (tokens behind : List declared.Token)
    → ItemsGoing (reads an_item d) whole (map item_view xs) (trees source tokens)
    → (length tokens == 0) ≡ false
    → reads an_item d (trees source tokens) ≡ Read (item_part i) (trees source behind)
    → item_view counted ≡ item_of (length tokens - length behind) (item_part i)
    → new ≡ xs ++ counted ∷ []
    → ItemsGoing (reads an_item d) whole (map item_view new) (trees source behind)
item-on d source whole xs new i counted [] behind g n h c p = cc
item-on d source whole xs new i counted (t ∷ tokens) behind g n h c p =
    let l = shorter AnItem an_item takes-item d (token_view source t) (trees source tokens) (item_part i) (trees source behind) h in
    let m = items-on (reads an_item d) whole (map item_view xs) (token_view source t) (trees source tokens) g (item_part i) (trees source behind) h l in
    let R : List ItemTree → Type 0 = λ v. ItemsGoing (reads an_item d) whole v (trees source behind) in
    let a = length-map tokens (token_view source) in
    let b = length-map behind (token_view source) in
    let k : suc (length tokens) - length behind ≡ suc (length (trees source tokens)) - length (trees source behind) = omega arith in
    let e : map item_view new ≡ map item_view xs ++ item_of (suc (length (trees source tokens)) - length (trees source behind)) (item_part i) ∷ [] =
    ap (map item_view) p ∙ map-append item_view xs (counted ∷ []) ∙ ap (λ (v : ItemTree). map item_view xs ++ v ∷ []) (c ∙ ap (λ n. item_of n (item_part i)) k)
    in
    subst R (sym e) m

pub item-out : (d : ℕ) (source : List ℕ) (whole : List TokenTree) (xs : List ItemTree) (tokens : List declared.Token)
    → ItemsGoing (reads an_item d) whole xs (trees source tokens)
    → (length tokens == 0) ≡ false
    → (s : Stop)
    → Fails s (reads an_item d (trees source tokens))
    → Fails s (items_at d whole)
item-out d source whole xs [] g n s h = cc
item-out d source whole xs (t ∷ tokens) g n s h = items-out (reads an_item d) whole xs (token_view source t) (trees source tokens) g s h
