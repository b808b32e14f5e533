-- Which words give a slot a value.
use Rattle.std.proofs.Common.{◌≡◌, ℕ, ◌+◌, ◌<◌, ◌≤◌, suc, zero, Bool, true, false, cond, List, [], ◌∷◌, ◌++◌, Contains, count_by, length, take, drop, get_or, nat_eq, refl, sym, ap, ◌∙◌, subst, arith, ◌⊎◌, inl, inr, Option, Some, None, Result, Ok, Err, MatchOption, IfOk}
use Rattle.std.specs.Prelude.{OnErr}
use Rattle.std.specs.Borrow.{Bor}
use Rattle.std.specs.List.{starts_with}
use Rattle.std.specs.Cmp.Lexicographic.{pointwise}
use Rattle.std.proofs.lemmas.Bool.{cases_Bool}
use Rattle.std.proofs.lemmas.Bool.Decides.{Decides-eqb}
use Rattle.std.proofs.lemmas.Slice.Eq.{starts_is, strip_prefix_is}
use Rattle.std.proofs.lemmas.List.{append_cancel_left}
use Rattle.std.proofs.lemmas.List.Sums.{sum_by-cons, get_or-le-sum_by}
use Rattle.command_line.specs.declared.form.Slot.{Slot}
use Rattle.command_line.specs.declared.form.Slot.TheVariants.{Plain}
use Rattle.std.specs.Option.{ok_or}
use Rattle.command_line.specs.Command.{Sets, given, left_out, TellsSlot}
use Rattle.command_line.specs.Program.{IsSlotText, word_gives, word_lacks, Defaults, default_texts}
use Rattle.bs_words.specs.Symbol.{IsSymbol}
use Rattle.command_line.specs.Values.{Nothing}
use Rattle.command_line.specs.Words.{prefix_of, fills_slot, GivesSlot}

one-if : (b : Bool) → b ≡ true → ◌≡◌ {A = ℕ} (cond b 1 0) 1
one-if b e = rw e refl

none-if : (b : Bool) → b ≡ false → ◌≡◌ {A = ℕ} (cond b 1 0) 0
none-if b e = rw e refl

Contains-cases : {X : Type 0} (x : X) (xs : List X) (y : X) → Contains (x ∷ xs) y → (x ≡ y) ⊎ Contains xs y
Contains-cases x xs y c = elim c.0 as (λ k. k < length (x ∷ xs) → get_or (x ∷ xs) k y ≡ y → (x ≡ y) ⊎ Contains xs y) [
  | zero ↦ λ _ e. inl e
  | suc k ↦ λ h e. inr (k, omega arith, e)
] c.1 c.2

count-some : {X : Type 0} (p : X → Bool) (xs : List X) (y : X) → Contains xs y → p y ≡ true → 1 ≤ count_by p xs
count-some p xs y c passes =
    let le : cond (p (get_or xs c.0 y)) 1 0 ≤ count_by p xs = get_or-le-sum_by (λ x. cond (p x) 1 0) xs c.0 y c.1 in
    omega (arith, le, one-if (p (get_or xs c.0 y)) (ap p c.2 ∙ passes))

-- where at most one passes, two that pass are one
once : {X : Type 0} (p : X → Bool) (xs : List X) (a b : X) → count_by p xs ≤ 1
    → Contains xs a → Contains xs b → p a ≡ true → p b ≡ true → a ≡ b
once p [] a b few ca cb pa pb = let h : ca.0 < 0 = ca.1 in absurd (omega arith)
once p (x ∷ xs) a b few ca cb pa pb =
    let count : count_by p (x ∷ xs) ≡ cond (p x) 1 0 + count_by p xs = sum_by-cons (λ y. cond (p y) 1 0) x xs in
    elim (Contains-cases x xs a ca) [
      | inl ea ↦ elim (Contains-cases x xs b cb) [
        | inl eb ↦ sym ea ∙ eb
        | inr tb ↦ absurd (omega (arith, count, one-if (p x) (ap p ea ∙ pa), count-some p xs b tb pb))
      ]
      | inr ta ↦ elim (Contains-cases x xs b cb) [
        | inl eb ↦ absurd (omega (arith, count, one-if (p x) (ap p eb ∙ pb), count-some p xs a ta pa))
        | inr tb ↦ once p xs a b (omega (arith, count)) ta tb pa pb
      ]
    ]

pub gives-unique : (slot : Slot) (others : List (List ℕ)) (v w : List ℕ) → count_by (fills_slot slot) others ≤ 1
    → GivesSlot others slot v → GivesSlot others slot w → v ≡ w
gives-unique slot others v w few gv gw =
    append_cancel_left (prefix_of slot) v w (once (fills_slot slot) others _ _ few gv.0 gw.0 gv.1 gw.1)

pub sets_nothing : {X : Type 0} (others : List (List ℕ)) (slot : Slot) (Reads : List ℕ → X → Type 0) (default : X) (v : List ℕ)
    → count_by (fills_slot slot) others ≤ 1 → GivesSlot others slot v → Nothing (Reads v)
    → Nothing (Sets others slot Reads default)
sets_nothing others slot Reads default v few g refuses x (given w gw r) =
    let P : List ℕ → Type 0 = λ u. Reads u x in refuses x (subst P (gives-unique slot others w v few gw g) r)
sets_nothing others slot Reads default v few g refuses x (left_out none e) = none v g

pub sets-unique : {X : Type 0} (others : List (List ℕ)) (slot : Slot) (Reads : List ℕ → X → Type 0) (default : X)
    → count_by (fills_slot slot) others ≤ 1 → ((v : List ℕ) (x y : X) → Reads v x → Reads v y → x ≡ y)
    → (x y : X) → Sets others slot Reads default x → Sets others slot Reads default y → x ≡ y
sets-unique others slot Reads default few one x y (given v gv rv) (given w gw rw') =
    let P : List ℕ → Type 0 = λ u. Reads u y in one v x y rv (subst P (gives-unique slot others w v few gw gv) rw')
sets-unique others slot Reads default few one x y (given v gv rv) (left_out none e) = absurd (none v gv)
sets-unique others slot Reads default few one x y (left_out none e) (given w gw r) = absurd (none w gw)
sets-unique others slot Reads default few one x y (left_out none e) (left_out none' e') = e ∙ sym e'

some_passes : {X : Type 0} (p : X → Bool) (xs : List X) → 1 ≤ count_by p xs → (x : X) × Contains xs x × (p x ≡ true)
some_passes p [] h = absurd (omega arith)
some_passes p (x ∷ xs) h =
    let count : count_by p (x ∷ xs) ≡ cond (p x) 1 0 + count_by p xs = sum_by-cons (λ y. cond (p y) 1 0) x xs in
    elim (cases_Bool (p x)) [
      | inl yes' ↦ (x, (0, omega arith, refl), yes')
      | inr no' ↦
          let left : 1 ≤ count_by p xs = omega (arith, count, none-if (p x) no') in
          let found = some_passes p xs left in
          let at = found.1 in
          (found.0, (suc at.0, omega arith, at.2), found.2)
    ]

-- what begins with a text is that text and more
pub starts_cut : (start text : List ℕ) → starts_with nat_eq text start ≡ true → (value : List ℕ) × (text ≡ start ++ value)
starts_cut start text e = (drop (length start) text, (starts_is Decides-eqb text start _ refl).0 e)

-- what taking an option's name off a word says of the slot
pub stripped : (slot : Slot) (s p : List ℕ) (r : Option (Bor (List ℕ))) → fills_slot slot s ≡ starts_with nat_eq s p → prefix_of slot ≡ p
    → MatchOption r (pointwise nat_eq (take (length p) s) p ≡ false)
    (λ x. (pointwise nat_eq (take (length p) s) p ≡ true) × (x.now ≡ drop (length p) s) × (length x.now + length p ≡ length s))
    → MatchOption r (fills_slot slot s ≡ false) (λ value. (fills_slot slot s ≡ true) × (s ≡ prefix_of slot ++ value.now))
stripped slot s p (Some x) f q m =
    let is = strip_prefix_is Decides-eqb s p (Some x) m in
    (f ∙ (starts_is Decides-eqb s p _ refl).1 x.now is, is ∙ ap (λ t. t ++ x.now) (sym q))
stripped slot s p None f q m = elim (cases_Bool (starts_with nat_eq s p)) [
  | inl begins ↦ absurd (strip_prefix_is Decides-eqb s p None m _ ((starts_is Decides-eqb s p _ refl).0 begins))
  | inr other ↦ f ∙ other
]

-- a word that has to be there gives its value
pub wanted_given : (slot : Slot) (others : List (List ℕ)) → 1 ≤ count_by (fills_slot slot) others
    → ((text : List ℕ) → fills_slot slot text ≡ true → (value : List ℕ) × (text ≡ prefix_of slot ++ value))
    → ((value : List ℕ) → GivesSlot others slot value → ⊥) → ⊥
wanted_given slot others there cut none =
    let found = some_passes (fills_slot slot) others there in
    let parts = cut found.0 found.2 in
    let P : List ℕ → Type 0 = λ text. Contains others text × (fills_slot slot text ≡ true) in
    none parts.0 (subst P parts.1 (found.1, found.2))

-- the plain word is the one that is not refused
pub plain_nothing : (others : List (List ℕ)) (v : List ℕ) (P : List ℕ → Type 0)
    → count_by (fills_slot Plain) others ≤ 1 → GivesSlot others Plain v → (P v → ⊥) → Nothing (λ w. GivesSlot others Plain w × P w)
plain_nothing others v P few g refuses w both = refuses (subst P (gives-unique Plain others w v few both.0 g) both.1)

first_same : (v w : List ℕ) → v ∷ [] ≡ w ∷ [] → v ≡ w
first_same v w e = cc

-- what a value that was read sets, and that one that was refused sets nothing
pub stands_sets : {X : Type 0} (others : List (List ℕ)) (slot : Slot) (Reads : List ℕ → X → Type 0) (default : X) (v : List ℕ)
    → Defaults slot Reads default → IsSlotText others slot v → (x : X) → Reads v x → Sets others slot Reads default x
stands_sets others slot Reads default v d (word_gives g) x reads = given v g reads
stands_sets others slot Reads default v d (word_lacks none is) x reads =
    let same : v ≡ d.text = first_same v d.text (sym is ∙ d.is) in
    left_out none (d.alone x (subst (λ t. Reads t x) same reads))

pub stands_nothing : {X : Type 0} (others : List (List ℕ)) (slot : Slot) (Reads : List ℕ → X → Type 0) (default : X) (v : List ℕ)
    → count_by (fills_slot slot) others ≤ 1 → Defaults slot Reads default → IsSlotText others slot v → Nothing (Reads v) → Nothing (Sets others slot Reads default)
stands_nothing others slot Reads default v few d (word_gives g) refuses = sets_nothing others slot Reads default v few g refuses
stands_nothing others slot Reads default v few d (word_lacks none is) refuses =
    let same : d.text ≡ v = first_same d.text v (sym d.is ∙ is) in
    absurd (refuses default (subst (λ t. Reads t default) same d.reads))

pub sets_value : {X E : Type 0} (others : List (List ℕ)) (slot : Slot) (Reads : List ℕ → X → Type 0) (default : X) (v : List ℕ)
    → Defaults slot Reads default → IsSlotText others slot v → (o : Option X) (r : Result X E) (b : E) → r ≡ ok_or o b
    → MatchOption o (Nothing (Reads v)) (λ x. Reads v x) → IfOk r (λ x. Sets others slot Reads default x)
sets_value {X} {E} others slot Reads default v d g (Some x) r b e reads =
    let P : Result X E → Type 0 = λ t. IfOk t (λ y. Sets others slot Reads default y) in
    subst P (sym e) (stands_sets others slot Reads default v d g x reads)
sets_value {X} {E} others slot Reads default v d g None r b e reads =
    let P : Result X E → Type 0 = λ t. IfOk t (λ y. Sets others slot Reads default y) in subst P (sym e) tt

pub sets_bad : {X E : Type 0} (others : List (List ℕ)) (slot : Slot) (Reads : List ℕ → X → Type 0) (default : X) (v : List ℕ)
    → count_by (fills_slot slot) others ≤ 1 → Defaults slot Reads default → IsSlotText others slot v → (o : Option X) (r : Result X E) (b : E) → r ≡ ok_or o b
    → MatchOption o (Nothing (Reads v)) (λ x. Reads v x) → OnErr r (Nothing (Sets others slot Reads default))
sets_bad {X} {E} others slot Reads default v few d g (Some x) r b e reads =
    let P : Result X E → Type 0 = λ t. OnErr t (Nothing (Sets others slot Reads default)) in subst P (sym e) tt
sets_bad {X} {E} others slot Reads default v few d g None r b e reads =
    let P : Result X E → Type 0 = λ t. OnErr t (Nothing (Sets others slot Reads default)) in subst P (sym e) (stands_nothing others slot Reads default v few d g reads)

pub sets_each : {X Y E : Type 0} (others : List (List ℕ)) (slot : Slot) (Reads : List ℕ → X → Type 0) (default : X) (v : List ℕ) (f : Y → X)
    → Defaults slot Reads default → IsSlotText others slot v → (r : Result Y E) → IfOk r (λ y. Reads v (f y)) → IfOk r (λ y. Sets others slot Reads default (f y))
sets_each others slot Reads default v f d g (Ok y) reads = stands_sets others slot Reads default v d g (f y) reads
sets_each others slot Reads default v f d g (Err e) reads = tt

-- where there is no default, a word gives the text
pub stands_given : (others : List (List ℕ)) (slot : Slot) (v : List ℕ) → default_texts slot ≡ [] → IsSlotText others slot v → GivesSlot others slot v
stands_given others slot v empty (word_gives g) = g
stands_given others slot v empty (word_lacks none is) = let clash : v ∷ [] ≡ [] = sym is ∙ empty in cc

pub named_value : {E : Type 0} (others : List (List ℕ)) (v : List ℕ) → GivesSlot others Plain v → (r : Result (List ℕ) E)
    → IfOk r (λ bytes. (bytes ≡ v) × IsSymbol v) → IfOk r (λ name. GivesSlot others Plain name × IsSymbol name)
named_value others v g (Ok bytes) is = (subst (GivesSlot others Plain) (sym is.0) g, subst IsSymbol (sym is.0) is.1)
named_value others v g (Err e) is = tt

-- the same of what a word has to tell

pub tells-unique : {X : Type 0} (others : List (List ℕ)) (slot : Slot) (Reads : List ℕ → X → Type 0)
    → count_by (fills_slot slot) others ≤ 1 → ((v : List ℕ) (x y : X) → Reads v x → Reads v y → x ≡ y)
    → (x y : X) → TellsSlot others slot Reads x → TellsSlot others slot Reads y → x ≡ y
tells-unique others slot Reads few one x y a b =
    let P : List ℕ → Type 0 = λ u. Reads u y in
    one a.value x y a.reads (subst P (gives-unique slot others b.value a.value few b.gives a.gives) b.reads)

pub tells_nothing : {X : Type 0} (others : List (List ℕ)) (slot : Slot) (Reads : List ℕ → X → Type 0) (v : List ℕ)
    → count_by (fills_slot slot) others ≤ 1 → GivesSlot others slot v → Nothing (Reads v)
    → Nothing (TellsSlot others slot Reads)
tells_nothing others slot Reads v few g refuses x tells =
    let P : List ℕ → Type 0 = λ u. Reads u x in
    refuses x (subst P (gives-unique slot others tells.value v few tells.gives g) tells.reads)

pub tells_value : {X E : Type 0} (others : List (List ℕ)) (slot : Slot) (Reads : List ℕ → X → Type 0) (v : List ℕ)
    → GivesSlot others slot v → (o : Option X) (r : Result X E) (b : E) → r ≡ ok_or o b
    → MatchOption o (Nothing (Reads v)) (λ x. Reads v x) → IfOk r (λ x. TellsSlot others slot Reads x)
tells_value {X} {E} others slot Reads v g (Some x) r b e reads =
    let P : Result X E → Type 0 = λ t. IfOk t (λ y. TellsSlot others slot Reads y) in
    subst P (sym e) (record { value = v; gives = g; reads = reads })
tells_value {X} {E} others slot Reads v g None r b e reads =
    let P : Result X E → Type 0 = λ t. IfOk t (λ y. TellsSlot others slot Reads y) in subst P (sym e) tt

pub tells_bad : {X E : Type 0} (others : List (List ℕ)) (slot : Slot) (Reads : List ℕ → X → Type 0) (v : List ℕ)
    → count_by (fills_slot slot) others ≤ 1 → GivesSlot others slot v → (o : Option X) (r : Result X E) (b : E) → r ≡ ok_or o b
    → MatchOption o (Nothing (Reads v)) (λ x. Reads v x) → OnErr r (Nothing (TellsSlot others slot Reads))
tells_bad {X} {E} others slot Reads v few g (Some x) r b e reads =
    let P : Result X E → Type 0 = λ t. OnErr t (Nothing (TellsSlot others slot Reads)) in subst P (sym e) tt
tells_bad {X} {E} others slot Reads v few g None r b e reads =
    let P : Result X E → Type 0 = λ t. OnErr t (Nothing (TellsSlot others slot Reads)) in subst P (sym e) (tells_nothing others slot Reads v few g reads)
