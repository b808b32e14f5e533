-- What frames name is a root.
use Rattle.std.proofs.Common.{◌≡◌, ℕ, zero, suc, ◌+◌, ◌-◌, ◌*◌, ◌%◌, ◌<◌, ◌≤◌, inl, inr, Bool, true, false, ◌==◌, List, [], ◌∷◌, length, refl, arith, sym, subst, ⊎_elim}
use Rattle.std.specs.List.{list_all, AllByRecursion}
use Rattle.std.proofs.lemmas.Bool.{eq-eqb, le-leb, lt-ltb, and_from, or_left, or_right}
use Rattle.bs_words.specs.declared.values.Value.{Value}
use Rattle.bs_words.specs.declared.values.Value.TheVariants.{Word, Block, Function}
use Rattle.image_form.specs.Tables.{Tables, Desc, Func}
use Rattle.rv_machine.specs.Relocation.{is_start, is_in_data, is_in_code, is_root_word}
use Rattle.rv_machine.specs.Frames.{Frame, slots_named, slots_of}
use Rattle.rv_machine.specs.Hart.{Placed}
use Rattle.rv_machine.specs.Memory.{Region, memory_word, code_start}
use Rattle.bs_words.specs.Fits.{data_start}
use Rattle.moving_laws.specs.Heap.{IsInHeap}
use Rattle.moving_laws.specs.Values.{start_of, value_word, function_at, IsVal, HasFunctions}
use Rattle.moving_laws.specs.Stands.{AmongNumbers}
use Rattle.moving_laws.specs.Waiting.{WaitingActivation, waiting_slot_offset, Chain, AllWait}
use Rattle.moving_laws.proofs.Rewriting.{at_start, start_inside}
use Rattle.moving_laws.proofs.Walk.{among_append, named_entry}

pub all_from_among : (P : ℕ → Bool) (xs : List ℕ) → ((x : ℕ) → AmongNumbers x xs → P x ≡ true) → list_all P xs ≡ true
all_from_among P [] h = refl
all_from_among P (x ∷ xs) h = and_from (P x) (list_all P xs) (h x (inl refl)) (all_from_among P xs (λ y a. h y (inr a)))

start_is : (bs : List Placed) (k w : ℕ) → k < length bs → w ≡ start_of bs k → is_start bs w ≡ true
start_is [] k w l e = absurd (omega (arith, l))
start_is (b ∷ bs) zero w l e = or_left (b.start == w) (is_start bs w) (eq-eqb b.start w (sym e))
start_is (b ∷ bs) (suc k) w l e = or_right (b.start == w) (is_start bs w) (start_is bs k w (omega (arith, l)) e)

-- functions lie in the code
pub function_low : (fs : List Func) (f : ℕ) → code_start ≤ function_at fs f
function_low [] f = omega arith
function_low (g ∷ gs) zero = omega arith
function_low (g ∷ gs) (suc f) = function_low gs f

pub is_root_of : (image : Tables) (bs : List Placed) (v : Value) (w : ℕ) → HasFunctions image → AllByRecursion IsInHeap bs → IsVal image (length bs) v →
    w ≡ value_word image bs v → is_root_word image bs w ≡ true
is_root_of image bs v w has inside fit e = subst (λ x. is_root_word image bs x ≡ true) (sym e) (by_value v fit) where
  by_value : (v : Value) → IsVal image (length bs) v → is_root_word image bs (value_word image bs v) ≡ true
  by_value (Word w) (inl odd) = or_left _ (is_in_code image w) (or_left _ (is_in_data image w) (or_left (w % 2 == 1) (is_start bs w) (eq-eqb (w % 2) 1 odd)))
  by_value (Word w) (inr l) =
      or_left _ (is_in_code image w) (or_right _ (is_in_data image w) (and_from _ _ (le-leb data_start w l.0) (le-leb w (data_start + length image.bytes) l.1)))
  by_value (Block k o) fit =
      let at = start_inside bs k inside fit.1 in
      let s : value_word image bs (Block k o) ≡ start_of bs k = at_start (start_of bs k) o fit.0 (omega (arith, at)) in
      let w = value_word image bs (Block k o) in
      or_left _ (is_in_code image w) (or_left _ (is_in_data image w) (or_right (w % 2 == 1) (is_start bs w) (start_is bs k w fit.1 s)))
  by_value (Function f) fit =
      let w = function_at image.funcs f in
      or_right _ (is_in_code image w) (and_from _ _ (le-leb code_start w (function_low image.funcs f))
      (lt-ltb w (code_start + 4 * length image.code) (has.inside f fit)))

-- the slots that the frames name hold roots
pub slots_root :
    (image : Tables) (bs : List Placed) (m : List Region) (ds : List Desc) (base : ℕ) (first : Bool) (a p : ℕ) (xs : List WaitingActivation) (fs : List Frame) →
    HasFunctions image → AllByRecursion IsInHeap bs → Chain ds base m first a p fs → AllWait image bs m xs fs → (y : ℕ) → AmongNumbers y (slots_of fs) →
    is_root_word image bs (memory_word m y) ≡ true
slots_root image bs m ds base first a p [] [] has inside c w y i = absurd i
slots_root image bs m ds base first a p [] (f ∷ fs) has inside c w y i = absurd w
slots_root image bs m ds base first a p (x ∷ xs) [] has inside c w y i = absurd w
slots_root image bs m ds base first a p (x ∷ xs) (f ∷ fs) has inside c w y i =
    let is = c.3 in
    let at = c.2 in
    let hi = is.high in
    ⊎_elim
    (λ t.
    let r = named_entry f.at f.desc.size y f.desc.entries (omega (arith, at, hi)) is.entries t in
    let n = w.0.named r.0 r.2 r.3 in
    let there : memory_word m (f.at + waiting_slot_offset x n.0) ≡ value_word image bs n.1 = w.0.slot n.0 n.1 n.3 n.4 in
    let e1 = r.1 in
    let e2 = n.2 in
    let same : f.at + waiting_slot_offset x n.0 ≡ y = omega (arith, e1, e2) in
    is_root_of image bs n.1 (memory_word m y) has inside n.5 (subst (λ z. memory_word m z ≡ value_word image bs n.1) same there))
    (λ t. slots_root image bs m ds base false (memory_word m (p + (f.desc.size - 8))) (p + f.desc.size) xs fs has inside c.5 w.1 y t)
    (among_append y (slots_named f.at f.desc.entries) (slots_of fs) i)
