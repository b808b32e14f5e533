-- Where calls agree on the worlds of fewer units, cases, handlers and what they lead to agree.
use Rattle.std.proofs.Common.{◌≡◌, ◌∙◌, ℕ, zero, suc, ◌≤◌, ◌&&◌, not, Bool, true, false, cond, List, [], ◌∷◌, Option, Some, None, map, refl, ap, subst}
use Rattle.bs_words.specs.Fits.{type_of_comp}
use Rattle.bs_words.specs.declared.values.Value.{Value}
use Rattle.cmm_tree.specs.Tree.{LabelTree, Parameter, Index, same_label, is_bare}
use Rattle.cmm_meaning.specs.State.{World, Here, back_in}
use Rattle.cmm_meaning.specs.Evaluation.{Evaluation, Gives, Exits, Raises, Stops, Body, chosen, entered, scoped_parameter, with_bound, back, handled, caught, tried, looked_up}
use Rattle.cmm_meaning.specs.Choices.{Chosen, is_named, last_naming, first_case, case_for, Ready, ready_for}
use Rattle.meaning_fuel.proofs.Alike.{Alike, alike_then, alike_gives, alike_stop, alike_tested}

pub alike_looked : {dry : Bool} {n : ℕ} (o : Option Value) (h : Here) (w : World) → w.left ≤ n → Alike dry n (looked_up o h w) (looked_up o h w)
alike_looked (Some v) h w le = alike_gives le
alike_looked None h w le = alike_stop

pub alike_back_in : {dry : Bool} {n : ℕ} (level tries : ℕ) {x y : Evaluation} → Alike dry n x y → Alike dry n (back level tries x) (back level tries y)
alike_back_in level tries p = alike_then p (λ v h w le. alike_gives le)

-- ---- cases

pub record ChosenSame (dry : Bool) (n : ℕ) (a b : Chosen Body) : Type 0 where
  pub indexes : a.indexes ≡ b.indexes
  pub body : (h : Here) (w : World) → w.left ≤ n → Alike dry n (a.body h w) (b.body h w)

pub data ChosenAlike (dry : Bool) (n : ℕ) : List (Chosen Body) → List (Chosen Body) → Type 0 where
  no_case : ChosenAlike dry n [] []
  a_case : {a b : Chosen Body} {xs ys : List (Chosen Body)} → ChosenSame dry n a b → ChosenAlike dry n xs ys → ChosenAlike dry n (a ∷ xs) (b ∷ ys)

pub data OptionChosen (dry : Bool) (n : ℕ) : Option (Chosen Body) → Option (Chosen Body) → Type 0 where
  no_chosen : OptionChosen dry n None None
  a_chosen : {a b : Chosen Body} → ChosenSame dry n a b → OptionChosen dry n (Some a) (Some b)

chosen_cond : {dry : Bool} {n : ℕ} (t : Bool) {a b : Chosen Body} {p q : Option (Chosen Body)} → ChosenSame dry n a b → OptionChosen dry n p q →
    OptionChosen dry n (cond t (Some a) p) (cond t (Some b) q)
chosen_cond true e o = a_chosen e
chosen_cond false e o = o

naming : {dry : Bool} {n : ℕ} {xs ys : List (Chosen Body)} (k : ℕ) {p q : Option (Chosen Body)} → ChosenAlike dry n xs ys → OptionChosen dry n p q →
    OptionChosen dry n (last_naming xs k p) (last_naming ys k q)
naming k no_case o = o
naming {dry} {n} k {p} {q} (a_case {a} {b} e l) o =
    let P : List Index → Type 0 = λ i. OptionChosen dry n (cond (is_named a.indexes k) (Some a) p) (cond (is_named i k) (Some b) q) in
    naming k l (subst P e.indexes (chosen_cond (is_named a.indexes k) e o))

first_alike : {dry : Bool} {n : ℕ} {xs ys : List (Chosen Body)} → ChosenAlike dry n xs ys → OptionChosen dry n (first_case xs) (first_case ys)
first_alike no_case = no_chosen
first_alike (a_case e l) = a_chosen e

pub case_alike : {dry : Bool} {n : ℕ} {xs ys : List (Chosen Body)} (k : ℕ) → ChosenAlike dry n xs ys → OptionChosen dry n (case_for xs k) (case_for ys k)
case_alike k l = naming k l (first_alike l)

pub alike_chosen : {dry : Bool} {n : ℕ} {p q : Option (Chosen Body)} → OptionChosen dry n p q → (h : Here) (w : World) → w.left ≤ n → Alike dry n (chosen p h w) (chosen q h w)
alike_chosen no_chosen h w le = alike_stop
alike_chosen (a_chosen e) h w le = e.body h w le

-- ---- handlers

pub record ReadySame (dry : Bool) (n : ℕ) (a b : Ready Body) : Type 0 where
  pub label : a.label ≡ b.label
  pub params : a.params ≡ b.params
  pub body : (h : Here) (w : World) → w.left ≤ n → Alike dry n (a.body h w) (b.body h w)

pub data ReadyAlike (dry : Bool) (n : ℕ) : List (Ready Body) → List (Ready Body) → Type 0 where
  no_ready : ReadyAlike dry n [] []
  a_ready : {a b : Ready Body} {xs ys : List (Ready Body)} → ReadySame dry n a b → ReadyAlike dry n xs ys → ReadyAlike dry n (a ∷ xs) (b ∷ ys)

data OptionReady (dry : Bool) (n : ℕ) : Option (Ready Body) → Option (Ready Body) → Type 0 where
  no_option : OptionReady dry n None None
  an_option : {a b : Ready Body} → ReadySame dry n a b → OptionReady dry n (Some a) (Some b)

ready_first : {dry : Bool} {n : ℕ} (t : Bool) {a b : Ready Body} {p q : Option (Ready Body)} → ReadySame dry n a b → OptionReady dry n p q →
    OptionReady dry n (cond t (Some a) p) (cond t (Some b) q)
ready_first true e o = an_option e
ready_first false e o = o

ready_alike : {dry : Bool} {n : ℕ} (within : Bool) (label : LabelTree) {xs ys : List (Ready Body)} → ReadyAlike dry n xs ys →
    OptionReady dry n (ready_for within label xs) (ready_for within label ys)
ready_alike within label no_ready = no_option
ready_alike {dry} {n} within label (a_ready {a} {b} {xs} {ys} e l) =
    let P : LabelTree → Type 0 =
    λ i. OptionReady dry n (cond (same_label label a.label && not (is_bare label && within)) (Some a) (ready_for within label xs))
    (cond (same_label label i && not (is_bare label && within)) (Some b) (ready_for within label ys)) in
    subst P e.label (ready_first (same_label label a.label && not (is_bare label && within)) e (ready_alike within label l))

alike_entered : {dry : Bool} {n : ℕ} (end : ℕ) (params : List Parameter) (values : List Value) (w : World) {x y : Evaluation} → Alike dry n x y →
    Alike dry n (entered end params values w x) (entered end params values w y)
alike_entered end [] [] w p = p
alike_entered end [] (v ∷ values) w p = alike_stop
alike_entered end (q ∷ params) [] w p = alike_stop
alike_entered end (q ∷ params) (v ∷ values) w p = alike_tested end (type_of_comp q.comp) v w (alike_entered end params values w p)

-- a handler with these parameters is entered
abbrev enters : ℕ → List Parameter → Body → List Value → ℕ → ℕ → Here → World → Evaluation
enters end params body values level tries h w =
    entered end params values w (back level tries (body (with_bound (map scoped_parameter params) values (back_in level tries h)) w))

alike_handled : {dry : Bool} {n : ℕ} (end : ℕ) {p q : Option (Ready Body)} → OptionReady dry n p q → (label : LabelTree) (values : List Value) (level tries : ℕ) (h : Here)
    (w : World) → w.left ≤ n → (again other : Evaluation → Evaluation) → ((x y : Evaluation) → Alike dry n x y → Alike dry n (again x) (other y)) →
    Alike dry n (handled end p label values level tries h w again) (handled end q label values level tries h w other)
alike_handled end no_option label values level tries h w le again other k = record { is = refl; spends = le }
alike_handled {dry} {n} end (an_option {a} {b} o) label values level tries h w le again other k =
    let P : List Parameter → Type 0 =
    λ ps. Alike dry n (again (enters end a.params a.body values level tries h w)) (other (enters end ps b.body values level tries h w)) in
    let inside : Here = with_bound (map scoped_parameter a.params) values (back_in level tries h) in
    subst P o.params
    (k (enters end a.params a.body values level tries h w) (enters end a.params b.body values level tries h w)
    (alike_entered end a.params values w (alike_back_in level tries (o.body inside w le))))

pub alike_caught : {dry : Bool} {n : ℕ} (end turns : ℕ) (within : Bool) {xs ys : List (Ready Body)} → ReadyAlike dry n xs ys → (level tries : ℕ) {x y : Evaluation} →
    Alike dry n x y → Alike dry n (caught end turns within xs level tries x) (caught end turns within ys level tries y)
alike_caught end zero within l level tries p = p
alike_caught end (suc turns) within {ys = ys} l level tries {x = Gives v h w} p =
    record { is = ap (caught end (suc turns) within ys level tries) p.is; spends = p.spends }
alike_caught end (suc turns) within {ys = ys} l level tries {x = Raises v h w} p =
    record { is = ap (caught end (suc turns) within ys level tries) p.is; spends = p.spends }
alike_caught end (suc turns) within {ys = ys} l level tries {x = Stops why w} p =
    record { is = ap (caught end (suc turns) within ys level tries) p.is; spends = p.spends }
alike_caught end (suc turns) within {xs = xs} {ys = ys} l level tries {x = Exits label values h w} p =
    let e = alike_handled end (ready_alike within label l) label values level tries h w
    p.spends (caught end turns true xs level tries) (caught end turns true ys level tries)
    (λ x y q. alike_caught end turns true l level tries q) in
    record { is = e.is ∙ ap (caught end (suc turns) within ys level tries) p.is; spends = e.spends }

pub alike_tried : {dry : Bool} {n : ℕ} {handler other : Value → Here → World → Evaluation} (level tries : ℕ) {x y : Evaluation} → Alike dry n x y →
    ((v : Value) (h : Here) (w : World) → w.left ≤ n → Alike dry n (handler v h w) (other v h w)) →
    Alike dry n (tried handler level tries x) (tried other level tries y)
alike_tried {other = other} level tries {x = Gives v h w} p k = record { is = ap (tried other level tries) p.is; spends = p.spends }
alike_tried {other = other} level tries {x = Exits label values h w} p k =
    record { is = ap (tried other level tries) p.is; spends = p.spends }
alike_tried {other = other} level tries {x = Raises v h w} p k =
    let e = k v (back_in level tries h) w p.spends in record { is = e.is ∙ ap (tried other level tries) p.is; spends = e.spends }
alike_tried {other = other} level tries {x = Stops why w} p k = record { is = ap (tried other level tries) p.is; spends = p.spends }
