-- The walk finds the frames that are on the stack, and a move keeps them.
use Rattle.std.proofs.Common.{◌≡◌, ℕ, zero, suc, ◌+◌, ◌*◌, ◌-◌, ◌%◌, ◌^◌, ◌<◌, ◌≤◌, ◌⊎◌, inl, inr, Bool, true, false, cond, not, ◌||◌, ◌==◌, List, [], ◌∷◌, ◌++◌, length, Option, Some, option_map, option_and_then, refl, ap, arith, ◌∙◌, sym, subst, ⊎_elim, mod-eq_of_lt}
use Rattle.std.specs.List.{list_all}
use Rattle.std.proofs.lemmas.Bool.{eq-eqb, ne_eqb, eqb-true, le-leb, and_from, or_left, or_right, cond-true, cond-false}
use Rattle.bs_words.specs.Word.{add_word}
use Rattle.image_form.specs.Tables.{Desc}
use Rattle.rv_machine.specs.Frames.{Frame, is_stack_word, is_register, names_register, slots_named, slots_of, return_slot, is_frame, frame_then, frames_from, most_frames}
use Rattle.rv_machine.specs.Memory.{Region, memory_word, code_start}
use Rattle.rv_machine.specs.Places.{stack_end}
use Rattle.moving_laws.specs.Stands.{AmongNumbers}
use Rattle.moving_laws.specs.Waiting.{IsFrameAt, Chain}

pub sum_small : (a b : ℕ) → a + b < 2 ^ 64 → add_word a b ≡ a + b
unfolding add_word
sum_small a b l = mod-eq_of_lt l

stack_word : (base x : ℕ) → x % 8 ≡ 0 → base ≤ x → x + 8 ≤ stack_end → is_stack_word base x ≡ true
stack_word base x e l h = and_from _ _ (and_from _ _ (eq-eqb (x % 8) 0 e) (le-leb base x l)) (le-leb (x + 8) stack_end h)

-- offsets that are named, each inside the frame
abbrev Inside : ℕ → List ℕ → Type 0
Inside size es = (e : ℕ) → AmongNumbers e es → e % 2 ≡ 0 → (e % 8 ≡ 0) × (e + 8 ≤ size)

even_by : (e : ℕ) → is_register e ≡ false → e % 2 ≡ 0
even_by e h = ⊎_elim (λ z. z) (λ o. absurd (let t = eq-eqb (e % 2) 1 o in cc)) (two e) where
  two : (e : ℕ) → (e % 2 ≡ 0) ⊎ (e % 2 ≡ 1)
  two e = by (e % 2) refl where
    by : (n : ℕ) → e % 2 ≡ n → (n ≡ 0) ⊎ (n ≡ 1)
    by zero h = inl refl
    by (suc zero) h = inr refl
    by (suc (suc n)) h = absurd (omega (arith, h))

all_slots : (base p size : ℕ) (es : List ℕ) → base ≤ p → p % 8 ≡ 0 → p + size ≤ stack_end → Inside size es → list_all (is_stack_word base)
    (slots_named p es) ≡ true
all_slots base p size [] l e h i = refl
all_slots base p size (x ∷ es) l e h i = by_kind (is_register x) refl (all_slots base p size es l e h (λ y a v. i y (inr a) v)) where
  by_kind : (t : Bool) → is_register x ≡ t → list_all (is_stack_word base) (slots_named p es) ≡ true → list_all (is_stack_word base)
      (cond t (slots_named p es) (add_word p x ∷ slots_named p es)) ≡ true
  by_kind true k rest = rest
  by_kind false k rest =
      let j = i x (inl refl) (even_by x k) in
      let j0 = j.0 in
      let j1 = j.1 in
      let s : add_word p x ≡ p + x = sum_small p x (omega (arith, h, j1)) in
      and_from _ _ (ap (is_stack_word base) s ∙ stack_word base (p + x) (omega (arith, e, j0)) (omega (arith, l)) (omega (arith, h, j1))) rest

first_by : (first : Bool) (d : Desc) → (first ≡ true) ⊎ (names_register d.entries ≡ false) → (first || not (names_register d.entries)) ≡ true
first_by first d (inl t) = or_left first (not (names_register d.entries)) t
first_by first d (inr n) = or_right first (not (names_register d.entries)) (ap not n)

is_frame_yes : (first : Bool) (base p : ℕ) (d : Desc) → IsFrameAt first base p d → is_frame first base p d ≡ true
is_frame_yes first base p d is =
    let lo = is.low in
    let hi = is.high in
    let e = is.even in
    let se = is.size_even in
    let sl = is.size_least in
    let at : return_slot p d ≡ p + (d.size - 8) = sum_small p (d.size - 8) (omega (arith, hi, sl)) in
    and_from _ _
    (and_from _ _ (first_by first d is.registers)
    (ap (is_stack_word base) at ∙ stack_word base (p + (d.size - 8)) (omega (arith, e, se, sl)) (omega (arith, lo)) (omega (arith, hi, sl))))
    (all_slots base p d.size d.entries lo e hi is.entries)

-- the walk finds exactly these frames
walks : (ds : List Desc) (base : ℕ) (m : List Region) (first : Bool) (fs : List Frame) (n a p : ℕ) → Chain ds base m first a p fs → length fs < n →
    frames_from n ds base m first a p ≡ Some fs
walks ds base m first fs zero a p c l = absurd (omega (arith, l))
walks ds base m first [] (suc n) a p c l = cond-true (a == code_start) _ _ (eq-eqb a code_start c)
walks ds base m first (f ∷ fs) (suc n) a p c l =
    let is = c.3 in
    let hi = is.high in
    let sl = is.size_least in
    let d = f.desc in
    let at : return_slot p d ≡ p + (d.size - 8) = sum_small p (d.size - 8) (omega (arith, hi, sl)) in
    let up : add_word p d.size ≡ p + d.size = sum_small p d.size (omega (arith, hi)) in
    let go : Desc → Option (List Frame) = λ d. frame_then (is_frame first base p d) p d (frames_from n ds base m false (memory_word m (return_slot p d))
    (add_word p d.size)) in
    let here : record { at = p; desc = d } ≡ f = ap (λ q. record { at = q; desc = d }) (sym c.2) in
    cond-false (a == code_start) _ _ (ne_eqb a code_start c.0)
    ∙ ap (λ o. option_and_then go o) c.1
    ∙ ap (λ t. frame_then t p d (frames_from n ds base m false (memory_word m (return_slot p d)) (add_word p d.size))) (is_frame_yes first base p d is)
    ∙ ap (λ x. option_map (λ fs. record { at = p; desc = d } ∷ fs) (frames_from n ds base m false (memory_word m x) (add_word p d.size))) at
    ∙ ap (λ x. option_map (λ fs. record { at = p; desc = d } ∷ fs) (frames_from n ds base m false (memory_word m (p + (d.size - 8))) x)) up
    ∙ ap (option_map (λ fs. record { at = p; desc = d } ∷ fs)) (walks ds base m false fs n (memory_word m (p + (d.size - 8))) (p + d.size) c.5 (omega (arith, l)))
    ∙ ap (λ q. Some (q ∷ fs)) here

few : (ds : List Desc) (base : ℕ) (m : List Region) (first : Bool) (fs : List Frame) (a p : ℕ) → p ≤ stack_end → Chain ds base m first a p fs →
    16 * length fs ≤ stack_end - p
few ds base m first [] a p l c = omega arith
few ds base m first (f ∷ fs) a p l c =
    let is = c.3 in
    let hi = is.high in
    let sl = is.size_least in
    let r = few ds base m false fs (memory_word m (p + (f.desc.size - 8))) (p + f.desc.size) hi c.5 in
    omega (arith, r, hi, sl, l)

pub walks_all : (ds : List Desc) (base : ℕ) (m : List Region) (first : Bool) (fs : List Frame) (a p : ℕ) → base ≤ p → p ≤ stack_end →
    Chain ds base m first a p fs → frames_from (most_frames base) ds base m first a p ≡ Some fs
walks_all ds base m first fs a p l h c =
    let r = few ds base m first fs a p h c in
    walks ds base m first fs (most_frames base) a p c (omega (arith, r, l, h))

-- ---- a memory in which each return address stays has the same chain

pub chain_kept : (ds : List Desc) (base : ℕ) (m m' : List Region) (first : Bool) (a p : ℕ) (fs : List Frame) →
    ((x : ℕ) → base ≤ x → x + 8 ≤ stack_end → x % 8 ≡ 0 → memory_word m x ≤ 0x10000000 → memory_word m' x ≡ memory_word m x) → Chain ds base m first a p fs →
    Chain ds base m' first a p fs
chain_kept ds base m m' first a p [] keeps c = c
chain_kept ds base m m' first a p (f ∷ fs) keeps c =
    let is = c.3 in
    let lo = is.low in
    let hi = is.high in
    let e = is.even in
    let se = is.size_even in
    let sl = is.size_least in
    let x : ℕ = p + (f.desc.size - 8) in
    let same : memory_word m' x ≡ memory_word m x = keeps x (omega (arith, lo)) (omega (arith, hi, sl)) (omega (arith, e, se, sl)) c.4 in (
      c.0,
      c.1,
      c.2,
      c.3,
      subst (λ w. w ≤ 0x10000000) (sym same) c.4,
      subst (λ w. Chain ds base m' false w (p + f.desc.size) fs) (sym same) (chain_kept ds base m m' false (memory_word m x) (p + f.desc.size) fs keeps c.5),
    )

-- ---- what is named in the frames

pub among_append : (x : ℕ) (as' bs : List ℕ) → AmongNumbers x (as' ++ bs) → AmongNumbers x as' ⊎ AmongNumbers x bs
among_append x [] bs h = inr h
among_append x (a ∷ as') bs h = ⊎_elim (λ e. inl (inl e)) (λ t. ⊎_elim (λ l. inl (inr l)) (λ r. inr r) (among_append x as' bs t)) h

pub among_first : (x : ℕ) (as' bs : List ℕ) → AmongNumbers x as' → AmongNumbers x (as' ++ bs)
among_first x [] bs h = absurd h
among_first x (a ∷ as') bs h = ⊎_elim (λ e. inl e) (λ j. inr (among_first x as' bs j)) h

pub among_second : (x : ℕ) (as' bs : List ℕ) → AmongNumbers x bs → AmongNumbers x (as' ++ bs)
among_second x [] bs h = h
among_second x (a ∷ as') bs h = inr (among_second x as' bs h)

-- an address that entries name in a frame comes from an even entry
pub named_entry : (p size x : ℕ) (es : List ℕ) → p + size ≤ stack_end → Inside size es → AmongNumbers x (slots_named p es) → (e : ℕ) × (x ≡ p + e) × AmongNumbers e es
    × (e % 2 ≡ 0)
named_entry p size x [] h i a = absurd a
named_entry p size x (y ∷ es) h i a = by_kind (is_register y) refl a (λ b. named_entry p size x es h (λ z c v. i z (inr c) v) b) where
  by_kind : (t : Bool) → is_register y ≡ t → AmongNumbers x (cond t (slots_named p es) (add_word p y ∷ slots_named p es)) →
      (AmongNumbers x (slots_named p es) → (e : ℕ) × (x ≡ p + e) × AmongNumbers e es × (e % 2 ≡ 0)) → (e : ℕ) × (x ≡ p + e) × AmongNumbers e (y ∷ es) × (e % 2 ≡ 0)
  by_kind true k a later = let r = later a in (r.0, r.1, inr r.2, r.3)
  by_kind false k (inl e) later =
      let v = even_by y k in
      let j = (i y (inl refl) v).1 in
      (y, e ∙ sum_small p y (omega (arith, h, j)), inl refl, v)
  by_kind false k (inr a) later = let r = later a in (r.0, r.1, inr r.2, r.3)

pub entry_named : (p size e : ℕ) (es : List ℕ) → p + size ≤ stack_end → Inside size es → AmongNumbers e es → e % 2 ≡ 0 → AmongNumbers (p + e) (slots_named p es)
entry_named p size e [] h i a v = absurd a
entry_named p size e (y ∷ es) h i a v = by_kind (is_register y) refl a (λ b. entry_named p size e es h (λ z c w. i z (inr c) w) b v) where
  by_kind : (t : Bool) → is_register y ≡ t → AmongNumbers e (y ∷ es) → (AmongNumbers e es → AmongNumbers (p + e) (slots_named p es)) → AmongNumbers (p + e)
      (cond t (slots_named p es) (add_word p y ∷ slots_named p es))
  by_kind true k (inl s) later = absurd (let o = eqb-true (y % 2) 1 k in omega (arith, o, v, s))
  by_kind true k (inr a) later = later a
  by_kind false k (inl s) later = let j = (i y (inl refl) (even_by y k)).1 in inl (ap (λ z. p + z) s ∙ sym (sum_small p y (omega (arith, h, j))))
  by_kind false k (inr a) later = inr (later a)

-- a place below all the frames is not named
pub below : (ds : List Desc) (base : ℕ) (m : List Region) (first : Bool) (a p x : ℕ) (fs : List Frame) → Chain ds base m first a p fs → x < p →
    AmongNumbers x (slots_of fs) → ⊥
below ds base m first a p x [] c l h = h
below ds base m first a p x (f ∷ fs) c l h =
    let is = c.3 in
    let hi = is.high in
    ⊎_elim
    (λ t. let r = named_entry f.at f.desc.size x f.desc.entries (subst (λ q. q + f.desc.size ≤ stack_end)
    (sym c.2) hi) is.entries t in let e = r.1 in let q = c.2 in omega (arith, e, l, q))
    (λ t. below ds base m false (memory_word m (p + (f.desc.size - 8))) (p + f.desc.size) x fs c.5 (omega (arith, l)) t)
    (among_append x (slots_named f.at f.desc.entries) (slots_of fs) h)

-- what is named inside a frame is named by its own descriptor
pub own : (ds : List Desc) (base : ℕ) (m : List Region) (first : Bool) (a p k : ℕ) (f : Frame) (fs : List Frame) → Chain ds base m first a p (f ∷ fs) →
    k < f.desc.size → AmongNumbers (p + k) (slots_of (f ∷ fs)) → AmongNumbers k f.desc.entries
own ds base m first a p k f fs c l h =
    let is = c.3 in
    let hi = is.high in
    ⊎_elim
    (λ t.
    let r = named_entry f.at f.desc.size (p + k) f.desc.entries (subst (λ q. q + f.desc.size ≤ stack_end) (sym c.2) hi) is.entries t in
    let e = r.1 in
    let q = c.2 in
    let same : r.0 ≡ k = omega (arith, e, q) in
    subst (λ z. AmongNumbers z f.desc.entries) same r.2)
    (λ t. absurd (below ds base m false (memory_word m (p + (f.desc.size - 8))) (p + f.desc.size) (p + k) fs c.5 (omega (arith, l)) t))
    (among_append (p + k) (slots_named f.at f.desc.entries) (slots_of fs) h)

-- nor is a place above a frame named by it
pub above_frame : (x : ℕ) (f : Frame) (es : List ℕ) → f.at + f.desc.size ≤ stack_end → Inside f.desc.size es → f.at + f.desc.size ≤ x →
    AmongNumbers x (slots_named f.at es) → ⊥
above_frame x f es h i l a =
    let r = named_entry f.at f.desc.size x es h i a in
    let e = r.1 in
    let b = (i r.0 r.2 r.3).1 in
    omega (arith, e, b, l)
