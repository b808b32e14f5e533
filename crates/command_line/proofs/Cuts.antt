-- Items and the commas between them.
use Rattle.std.proofs.Common.{◌≡◌, ◌≢◌, ℕ, ◌+◌, ◌<◌, ◌≤◌, List, [], ◌∷◌, ◌++◌, ◌⊎◌, inl, inr, All, length, take, drop, get_or, nat_eq, false, refl, sym, ap, ◌∙◌, subst, arith}
use Rattle.std.proofs.lemmas.List.{append_assoc, take-append-drop, drop_more}
use Rattle.std.proofs.lemmas.List.Elements.{All-cons, All-head, All-tail, All-weaker, All-same}
use Rattle.bs_words.specs.Word.{sub_word}
use Rattle.rv_machine.specs.declared.setup.Arg.{Arg}
use Rattle.rv_machine.specs.declared.setup.Arg.TheVariants.{Word, Symbol}
use Rattle.bs_words.specs.Symbol.{IsSymbol}
use Rattle.command_line.specs.Values.{Nothing, decimal_number, IsNumber, IsItem, number, negative, symbol, AreArguments, last, more, IsItems, none, some}

abbrev NoComma : List ℕ → Type 0
NoComma text = All (λ b. b ≢ 44) text

-- ---- an item has no comma, and is one item alone

digits-no_comma : (text : List ℕ) (n : ℕ) → IsNumber text n → NoComma text
digits-no_comma text n is = All-weaker (λ b. (48 ≤ b) × (b ≤ 57)) (λ b. b ≢ 44) (λ b d e. omega arith) text is.digits

item-no_comma : (text : List ℕ) (item : Arg) → IsItem text item → NoComma text
item-no_comma text item (number n is fits e) = digits-no_comma text n is
item-no_comma text item (negative digits n t is fits e) =
    All-same (λ b. b ≢ 44) text (45 ∷ digits) t (All-cons (λ b. b ≢ 44) 45 digits (λ (e : 45 ≡ 44). omega arith) (digits-no_comma digits n is))
item-no_comma text item (symbol name t is free e) =
    All-same (λ b. b ≢ 44) text (64 ∷ name) t (All-cons (λ b. b ≢ 44) 64 name (λ (e : 64 ≡ 44). omega arith) free)

pub number-head : (b : ℕ) (text digits : List ℕ) (n : ℕ) → IsNumber text n → text ≡ b ∷ digits → (48 ≤ b) × (b ≤ 57)
number-head b text digits n is e =
    All-head (λ b. (48 ≤ b) × (b ≤ 57)) b digits (All-same (λ b. (48 ≤ b) × (b ≤ 57)) (b ∷ digits) text (sym e) is.digits)

same_number : (text digits : List ℕ) (n m : ℕ) → text ≡ digits → IsNumber text n → IsNumber digits m → n ≡ m
same_number text digits n m e a b = a.value ∙ (ap decimal_number e ∙ sym b.value)

pub tail-same : (a b : ℕ) (xs ys : List ℕ) → a ∷ xs ≡ b ∷ ys → (a ≡ b) × (xs ≡ ys)
tail-same a b xs ys e = (cc, cc)

pub item-unique : (text : List ℕ) (a b : Arg) → IsItem text a → IsItem text b → a ≡ b
item-unique text a b (number n is fits e) (number m is' fits' e') = e ∙ (ap Word (same_number text text n m refl is is') ∙ sym e')
item-unique text a b (number n is fits e) (negative digits m t is' fits' e') = let h = number-head 45 text digits n is t in absurd (omega arith)
item-unique text a b (number n is fits e) (symbol name t is' free e') = let h = number-head 64 text name n is t in absurd (omega arith)
item-unique text a b (negative digits n t is fits e) (number m is' fits' e') = let h = number-head 45 text digits m is' t in absurd (omega arith)
item-unique text a b (negative digits n t is fits e) (negative digits' m t' is' fits' e') =
    e ∙ (ap (λ k. Word (sub_word 0 k)) (same_number digits digits' n m (tail-same 45 45 digits digits' (sym t ∙ t')).1 is is') ∙ sym e')
item-unique text a b (negative digits n t is fits e) (symbol name t' is' free e') =
    let h = (tail-same 45 64 digits name (sym t ∙ t')).0 in absurd (omega arith)
item-unique text a b (symbol name t is free e) (number m is' fits' e') = let h = number-head 64 text name m is' t in absurd (omega arith)
item-unique text a b (symbol name t is free e) (negative digits m t' is' fits' e') =
    let h = (tail-same 64 45 name digits (sym t ∙ t')).0 in absurd (omega arith)
item-unique text a b (symbol name t is free e) (symbol name' t' is' free' e') =
    e ∙ (ap Symbol (tail-same 64 64 name name' (sym t ∙ t')).1 ∙ sym e')

-- ---- one item from its first byte

pub item_symbol : (text name name' : List ℕ) → NoComma text → text ≡ 64 ∷ name → (name' ≡ name) × IsSymbol name → IsItem text (Symbol name')
item_symbol text name name' free t is =
    symbol name t is.1 (All-tail (λ b. b ≢ 44) 64 name (All-same (λ b. b ≢ 44) (64 ∷ name) text (sym t) free)) (ap Symbol is.0)

pub item_negative : (text digits : List ℕ) (n w : ℕ) → text ≡ 45 ∷ digits → IsNumber digits n × (n ≤ 9223372036854775808)
    → w ≡ sub_word 0 n → IsItem text (Word w)
item_negative text digits n w t is e = negative digits n t is.0 is.1 (ap Word e)

pub item_number : (text : List ℕ) (n : ℕ) → IsNumber text n × (n ≤ 9223372036854775807) → IsItem text (Word n)
item_number text n is = let h = is.1 in number n is.0 (omega arith) refl

pub no_symbol : (text name : List ℕ) → text ≡ 64 ∷ name → (IsSymbol name → ⊥) → Nothing (IsItem text)
no_symbol text name t refuses item (number n is fits e) = let h = number-head 64 text name n is t in omega arith
no_symbol text name t refuses item (negative digits n t' is fits e) = let h = (tail-same 64 45 name digits (sym t ∙ t')).0 in omega arith
no_symbol text name t refuses item (symbol name' t' is free e) =
    refuses (subst IsSymbol (sym (tail-same 64 64 name name' (sym t ∙ t')).1) is)

pub no_negative : (text digits : List ℕ) → text ≡ 45 ∷ digits → ((n : ℕ) → IsNumber digits n → 9223372036854775808 < n) → Nothing (IsItem text)
no_negative text digits t past item (number n is fits e) = let h = number-head 45 text digits n is t in omega arith
no_negative text digits t past item (negative digits' n t' is fits e) =
    let P : List ℕ → Type 0 = λ d. IsNumber d n in
    let h = past n (subst P (sym (tail-same 45 45 digits digits' (sym t ∙ t')).1) is) in omega arith
no_negative text digits t past item (symbol name t' is free e) = let h = (tail-same 45 64 digits name (sym t ∙ t')).0 in omega arith

pub no_number : (text : List ℕ) → Nothing (λ rest. text ≡ 64 ∷ rest) → Nothing (λ rest. text ≡ 45 ∷ rest)
    → ((n : ℕ) → IsNumber text n → 9223372036854775807 < n) → Nothing (IsItem text)
no_number text no_at no_minus past item (number n is fits e) = let h = past n is in omega arith
no_number text no_at no_minus past item (negative digits n t is fits e) = no_minus digits t
no_number text no_at no_minus past item (symbol name t is free e) = no_at name t

-- ---- where the first comma is

-- no comma so far, and at its place
pub cut_here : (text : List ℕ) (at : ℕ) → at < length text → get_or text at 0 ≡ 44
    → text ≡ take at text ++ (44 ∷ drop (at + 1) text)
cut_here text at h e =
    sym (take-append-drop at text) ∙ ap (λ r. take at text ++ r) (drop_more text at 0 h ∙ ap (λ b. b ∷ drop (at + 1) text) e)

cut_once : (t u r s : List ℕ) → NoComma t → NoComma u → t ++ (44 ∷ r) ≡ u ++ (44 ∷ s) → (t ≡ u) × (r ≡ s)
cut_once [] [] r s h k e = (refl, (tail-same 44 44 r s e).1)
cut_once [] (b ∷ u) r s h k e = absurd (All-head (λ b. b ≢ 44) b u k (sym (tail-same 44 b r (u ++ (44 ∷ s)) e).0))
cut_once (a ∷ t) [] r s h k e = absurd (All-head (λ b. b ≢ 44) a t h (tail-same a 44 (t ++ (44 ∷ r)) s e).0)
cut_once (a ∷ t) (b ∷ u) r s h k e =
    let both = tail-same a b (t ++ (44 ∷ r)) (u ++ (44 ∷ s)) e in
    let rest = cut_once t u r s (All-tail (λ b. b ≢ 44) a t h) (All-tail (λ b. b ≢ 44) b u k) both.1 in
    let x : a ≡ b = both.0 in
    let y : t ≡ u = rest.0 in
    (cc, rest.1)

not_cut : (t u s : List ℕ) → NoComma t → t ≡ u ++ (44 ∷ s) → ⊥
not_cut [] [] s h e = cc
not_cut [] (b ∷ u) s h e = cc
not_cut (a ∷ t) [] s h e = All-head (λ b. b ≢ 44) a t h (tail-same a 44 t s e).0
not_cut (a ∷ t) (b ∷ u) s h e = not_cut t u s (All-tail (λ b. b ≢ 44) a t h) (tail-same a b t (u ++ (44 ∷ s)) e).1

-- one item, or a first one before a comma
record Alone (bytes : List ℕ) (items : List Arg) : Type 0 where
  item : Arg
  is : IsItem bytes item
  all : items ≡ item ∷ []

record First (bytes : List ℕ) (items : List Arg) : Type 0 where
  text : List ℕ
  rest : List ℕ
  item : Arg
  others : List Arg
  bytes_are : bytes ≡ text ++ (44 ∷ rest)
  is : IsItem text item
  others_are : AreArguments rest others
  all : items ≡ item ∷ others

cases : (bytes : List ℕ) (items : List Arg) → AreArguments bytes items → Alone bytes items ⊎ First bytes items
cases _ _ (last text item is) = inl (record { item = item; is = is; all = refl })
cases _ _ (more text rest item items is r) =
    inr (record { text = text; rest = rest; item = item; others = items; bytes_are = refl; is = is; others_are = r; all = refl })

items-unique : (bytes : List ℕ) (a b : List Arg) → AreArguments bytes a → AreArguments bytes b → a ≡ b
items-unique _ _ b (last text item is) other = elim (cases text b other) [
  | inl one ↦ ap (λ x. x ∷ []) (item-unique text item one.item is one.is) ∙ sym one.all
  | inr first ↦ absurd (not_cut text first.text first.rest (item-no_comma text item is) first.bytes_are)
]
items-unique _ _ b (more text rest item items is r) other = elim (cases (text ++ (44 ∷ rest)) b other) [
  | inl one ↦ absurd (not_cut (text ++ (44 ∷ rest)) text rest (item-no_comma (text ++ (44 ∷ rest)) one.item one.is) refl)
  | inr first ↦
      let same = cut_once text first.text rest first.rest (item-no_comma text item is) (item-no_comma first.text first.item first.is) first.bytes_are in
      let P : List ℕ → Type 0 = λ t. IsItem t first.item in
      let Q : List ℕ → Type 0 = λ t. AreArguments t first.others in
      let x : item ≡ first.item = item-unique text item first.item is (subst P (sym same.0) first.is) in
      let xs : items ≡ first.others = items-unique rest items first.others r (subst Q (sym same.1) first.others_are) in
      let joined : item ∷ items ≡ first.item ∷ first.others = cc in
      joined ∙ sym first.all
]

not_empty : (bytes : List ℕ) (items : List Arg) → AreArguments bytes items → bytes ≡ [] → ⊥
not_empty bytes items are e = elim (cases bytes items are) [
  | inl one ↦ elim one.is [
    | number n is fits f ↦ let h = is.some in let l = ap length e in omega arith
    | negative digits n t is fits f ↦ let x : 45 ∷ digits ≡ [] = sym t ∙ e in cc
    | symbol name t is free f ↦ let x : 64 ∷ name ≡ [] = sym t ∙ e in cc
  ]
  | inr first ↦ not_cut [] first.text first.rest (λ k d h. omega arith) (sym e ∙ first.bytes_are)
]

pub list-unique : (bytes : List ℕ) (a b : List Arg) → IsItems bytes a → IsItems bytes b → a ≡ b
list-unique bytes a b (none e x) (none e' y) = x ∙ sym y
list-unique bytes a b (none e x) (some are) = absurd (not_empty bytes b are e)
list-unique bytes a b (some are) (none e y) = absurd (not_empty bytes a are e)
list-unique bytes a b (some are) (some are') = items-unique bytes a b are are'

-- ---- reading item after item

-- After the items that are done the rest of the bytes is left: its items go on with them, and where the
-- whole is items so is the rest.
pub record GoesOn (bytes : List ℕ) (done : List Arg) (rest : List ℕ) : Type 0 where
  pub forth : (items : List Arg) → AreArguments rest items → AreArguments bytes (done ++ items)
  pub back : (all : List Arg) → AreArguments bytes all → (items : List Arg) × AreArguments rest items

pub start : (bytes : List ℕ) → GoesOn bytes [] bytes
start bytes = record { forth = λ items are. are; back = λ all are. (all, are) }

pub step : (bytes : List ℕ) (done : List Arg) (rest text others : List ℕ) (item : Arg)
    → GoesOn bytes done rest → rest ≡ text ++ (44 ∷ others) → IsItem text item → GoesOn bytes (done ++ item ∷ []) others
step bytes done rest text others item on cut is =
    let P : List ℕ → Type 0 = λ r. GoesOn bytes done r in
    let on : GoesOn bytes done (text ++ (44 ∷ others)) = subst P cut on in
    record {
      forth = λ items are.
          let Q : List Arg → Type 0 = λ xs. AreArguments bytes xs in
          subst Q (sym (append_assoc done (item ∷ []) items)) (on.forth (item ∷ items) (more text others item items is are));
      back = λ all are. let left = on.back all are in elim (cases (text ++ (44 ∷ others)) left.0 left.1) [
        | inl one ↦ absurd (not_cut (text ++ (44 ∷ others)) text others (item-no_comma (text ++ (44 ∷ others)) one.item one.is) refl)
        | inr first ↦
            let same = cut_once text first.text others first.rest (item-no_comma text item is) (item-no_comma first.text first.item first.is) first.bytes_are in
            let R : List ℕ → Type 0 = λ t. AreArguments t first.others in
            (first.others, subst R (sym same.1) first.others_are)
      ];
    }

pub end : (bytes : List ℕ) (done : List Arg) (rest : List ℕ) (item : Arg)
    → GoesOn bytes done rest → IsItem rest item → IsItems bytes (done ++ item ∷ [])
end bytes done rest item on is = some (on.forth (item ∷ []) (last rest item is))

-- where the next item is none there are no items
pub fails : (bytes : List ℕ) (done : List Arg) (rest text others : List ℕ)
    → (bytes ≡ [] → ⊥) → GoesOn bytes done rest → rest ≡ text ++ (44 ∷ others) → All (λ b. b ≢ 44) text → Nothing (IsItem text)
    → Nothing (IsItems bytes)
fails bytes done rest text others full on cut free refuses items (none e x) = full e
fails bytes done rest text others full on cut free refuses items (some are) =
    let left = on.back items are in elim (cases rest left.0 left.1) [
      | inl one ↦ not_cut rest text others (item-no_comma rest one.item one.is) cut
      | inr first ↦
          let same = cut_once text first.text others first.rest free (item-no_comma first.text first.item first.is) (sym cut ∙ first.bytes_are) in
          let P : List ℕ → Type 0 = λ t. IsItem t first.item in
          refuses first.item (subst P (sym same.0) first.is)
    ]

pub fails_last : (bytes : List ℕ) (done : List Arg) (rest : List ℕ)
    → (bytes ≡ [] → ⊥) → GoesOn bytes done rest → All (λ b. b ≢ 44) rest → Nothing (IsItem rest)
    → Nothing (IsItems bytes)
fails_last bytes done rest full on free refuses items (none e x) = full e
fails_last bytes done rest full on free refuses items (some are) =
    let left = on.back items are in elim (cases rest left.0 left.1) [
      | inl one ↦ refuses one.item one.is
      | inr first ↦ not_cut rest first.text first.rest free first.bytes_are
    ]

pub full : (bytes : List ℕ) → nat_eq (length bytes) 0 ≡ false → bytes ≡ [] → ⊥
full [] e n = cc
full (b ∷ bytes) e n = cc
