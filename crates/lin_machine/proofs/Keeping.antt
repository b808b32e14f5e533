-- What a change of the memory leaves of the stack and of the heap.
use Rattle.std.proofs.Common.{◌≡◌, ◌≢◌, ℕ, zero, suc, ◌+◌, ◌-◌, ◌*◌, ◌%◌, ◌<◌, ◌≤◌, Bool, false, List, [], ◌∷◌, ◌++◌, length, arith, ◌∙◌, sym, subst}
use Rattle.std.specs.List.{AllByRecursion}
use Rattle.image_form.specs.Tables.{Tables, Desc}
use Rattle.mach_ir.specs.Acts.{Around}
use Rattle.rv_machine.specs.Frames.{Frame}
use Rattle.rv_machine.specs.Hart.{Placed}
use Rattle.rv_machine.specs.Memory.{Region, memory_word}
use Rattle.rv_machine.specs.Places.{stack_bottom, stack_end}
use Rattle.moving_laws.specs.Words.{IsReadable, held_word}
use Rattle.moving_laws.specs.Heap.{IsInHeap}
use Rattle.moving_laws.specs.Values.{start_of, cells_of_block}
use Rattle.moving_laws.specs.Waiting.{WaitingActivation, waiting_slot_offset, Chain, AllWait, TrapsFrom, traps_at}
use Rattle.moving_laws.proofs.Rewriting.{start_inside}
use Rattle.lin_machine.specs.View.{Fixed}
use Rattle.lin_machine.specs.Relation.{Below, waiting_trap_frames, Waits, TrapsStand, HeapStands}

-- ---- trap frames

abbrev pub AllTraps : (ℕ → Type 0) → List (ℕ × ℕ) → Type 0
AllTraps P [] = Unit {0}
AllTraps P (t ∷ ts) = P t.0 × AllTraps P ts

pub all_traps_append : (P : ℕ → Type 0) (as' bs : List (ℕ × ℕ)) → AllTraps P as' → AllTraps P bs → AllTraps P (as' ++ bs)
all_traps_append P [] bs a b = b
all_traps_append P (t ∷ as') bs a b = (a.0, all_traps_append P as' bs a.1 b)

pub traps_at_all : (P : ℕ → Type 0) (p : ℕ) (tries : List ℕ) → ((y : ℕ) → p ≤ y → y + 16 ≤ p + 16 * length tries → P y) → AllTraps P (traps_at p tries)
traps_at_all P p [] h = tt
traps_at_all P p (t ∷ tries) h = (h p (omega arith) (omega arith), traps_at_all P (p + 16) tries (λ y l k. h y (omega (arith, l)) (omega (arith, k))))

pub traps_of_all :
    (P : ℕ → Type 0) (image : Tables) (placed : List Placed) (ds : List Desc) (base : ℕ) (m : List Region) (first : Bool) (a p : ℕ) (xs : List WaitingActivation)
    (fs : List Frame) →
    Chain ds base m first a p fs → AllWait image placed m xs fs → ((y : ℕ) → p ≤ y → y + 16 ≤ stack_end → P y) → AllTraps P (waiting_trap_frames xs fs)
traps_of_all P image placed ds base m first a p [] fs c w h = tt
traps_of_all P image placed ds base m first a p (x ∷ xs) [] c w h = tt
traps_of_all P image placed ds base m first a p (x ∷ xs) (f ∷ fs) c w h =
    let is = c.3 in
    let at = c.2 in
    let hi = is.high in
    let room = w.0.room in
    all_traps_append P (traps_at f.at x.tries) (waiting_trap_frames xs fs)
    (traps_at_all P f.at x.tries (λ y l k. h y (omega (arith, l, at)) (omega (arith, k, room, hi, at))))
    (traps_of_all P image placed ds base m false (memory_word m (p + (f.desc.size - 8))) (p + f.desc.size) xs fs c.5 w.1 (λ y l k. h y (omega (arith, l)) k))

pub traps_same : (base : ℕ) (m m' : List Region) (s : ℕ) (ts : List (ℕ × ℕ)) (last : ℕ) →
    AllTraps (λ y. (memory_word m' y ≡ memory_word m y) × (memory_word m' (y + 8) ≡ memory_word m (y + 8))) ts → TrapsFrom base m s ts last → TrapsFrom base m' s ts last
traps_same base m m' s [] last same t = t
traps_same base m m' s (x ∷ ts) last same t =
    let here : memory_word m' s ≡ memory_word m s = subst (λ y. memory_word m' y ≡ memory_word m y) (sym t.0) same.0.0 in
    let next : memory_word m' (s + 8) ≡ memory_word m (s + 8) = subst (λ y. memory_word m' (y + 8) ≡ memory_word m (y + 8)) (sym t.0) same.0.1 in (
      t.0,
      t.1,
      t.2,
      t.3,
      here ∙ t.4,
      t.5,
      subst (λ w. base ≤ w) (sym next) t.6,
      subst (λ w. TrapsFrom base m' w ts last) (sym next)
          (traps_same base m m' (memory_word m (s + 8)) ts last same.1 t.7),
    )

-- ---- the frames

pub chain_above : (ds : List Desc) (base : ℕ) (m m' : List Region) (first : Bool) (a p : ℕ) (fs : List Frame) →
    ((y : ℕ) → p ≤ y → y + 8 ≤ stack_end → memory_word m' y ≡ memory_word m y) → Chain ds base m first a p fs → Chain ds base m' first a p fs
chain_above ds base m m' first a p [] same c = c
chain_above ds base m m' first a p (f ∷ fs) same c =
    let is = c.3 in
    let hi = is.high in
    let sl = is.size_least in
    let x : ℕ = p + (f.desc.size - 8) in
    let here : memory_word m' x ≡ memory_word m x = same x (omega arith) (omega (arith, hi, sl)) in (
      c.0,
      c.1,
      c.2,
      c.3,
      subst (λ w. w ≤ 0x10000000) (sym here) c.4,
      subst (λ w. Chain ds base m' false w (p + f.desc.size) fs) (sym here)
          (chain_above ds base m m' false (memory_word m x) (p + f.desc.size) fs (λ y l h. same y (omega (arith, l)) h) c.5),
    )

pub waits_above : (image : Tables) (placed : List Placed) (ds : List Desc) (base : ℕ) (m m' : List Region) (first : Bool) (a p : ℕ) (xs : List WaitingActivation)
    (fs : List Frame) →
    ((y : ℕ) → p ≤ y → y + 8 ≤ stack_end → memory_word m' y ≡ memory_word m y) → Chain ds base m first a p fs → AllWait image placed m xs fs → AllWait image placed m' xs fs
waits_above image placed ds base m m' first a p [] [] same c w = w
waits_above image placed ds base m m' first a p [] (f ∷ fs) same c w = w
waits_above image placed ds base m m' first a p (x ∷ xs) [] same c w = w
waits_above image placed ds base m m' first a p (x ∷ xs) (f ∷ fs) same c w =
    let is = c.3 in
    let at = c.2 in
    let hi = is.high in
    let sl = is.size_least in
    let room = w.0.room in (
      record {
        room = w.0.room;
        back = same (f.at + (f.desc.size - 8)) (omega (arith, at)) (omega (arith, at, hi, sl)) ∙ w.0.back;
        slot = λ k v l h. same (f.at + waiting_slot_offset x k) (omega (arith, at)) (omega (arith, at, hi, room, l)) ∙ w.0.slot k v l h;
        known = w.0.known;
        value = w.0.value;
        named = w.0.named;
      },
      waits_above image placed ds base m m' false (memory_word m (p + (f.desc.size - 8))) (p + f.desc.size) xs fs (λ y l h. same y (omega (arith, l)) h) c.5 w.1,
    )

-- what waits stays as long as what lies from the frame's end on stays
pub waits_kept :
    (s : Fixed) (placed : List Placed) (m m' : List Region) (c : Below) →
    ((y : ℕ) → c.top ≤ y → y + 8 ≤ stack_end → memory_word m' y ≡ memory_word m y) →
    Waits s placed m c → Waits s placed m' c
waits_kept s placed m m' c same st = record {
  low = st.low;
  high = st.high;
  even = st.even;
  back = st.back;
  backs = st.backs;
  bottom = (let h = st.high in same 0x3FFFFFF0 h (omega arith)) ∙ st.bottom;
  chain = chain_above s.image.descs s.base m m' false c.back c.top c.frames same st.chain;
  waits = waits_above s.image placed s.image.descs s.base m m' false c.back c.top c.waiting c.frames same st.chain st.waits;
}

-- and the function's own trap frames
pub traps_kept :
    (s : Fixed) (placed : List Placed) (m m' : List Region) (trap : ℕ) (own : List (ℕ × ℕ)) (c : Below) →
    ((y : ℕ) → c.top ≤ y → y + 8 ≤ stack_end → memory_word m' y ≡ memory_word m y) →
    AllTraps (λ y. (memory_word m' y ≡ memory_word m y) × (memory_word m' (y + 8) ≡ memory_word m (y + 8))) own →
    Waits s placed m c → TrapsStand s m trap own c → TrapsStand s m' trap own c
traps_kept s placed m m' trap own c same traps st t =
    traps_same s.base m m' trap (own ++ waiting_trap_frames c.waiting c.frames) stack_bottom
    (all_traps_append _ own (waiting_trap_frames c.waiting c.frames) traps
    (traps_of_all _ s.image placed s.image.descs s.base m false c.back c.top c.waiting c.frames st.chain st.waits
    (λ y l h. (same y l (omega (arith, h)), same (y + 8) (omega (arith, l)) (omega (arith, h))))))
    t

-- ---- the heap

pub cell_inside : (bs : List Placed) (k j : ℕ) → AllByRecursion IsInHeap bs → k < length bs → j < cells_of_block bs k → (0x30000008 ≤ start_of bs k + 8 * j)
    × (start_of bs k + 8 * j + 8 ≤ 0x38010000) × ((start_of bs k + 8 * j) % 8 ≡ 0)
cell_inside [] k j a l h = absurd (omega (arith, l))
cell_inside (b ∷ bs) zero j a l h = let lo = a.0.low in let hi = a.0.high in let e = a.0.aligned in (omega (arith, lo), omega (arith, hi, h), omega (arith, e))
cell_inside (b ∷ bs) (suc k) j a l h = cell_inside bs k j a.1 (omega (arith, l)) h

pub heap_kept :
    (s : Fixed) (placed : List Placed) (m m' : List Region) (a : Around) →
    ((y : ℕ) → y < 0x38010008 → y ≢ 0x20000000 → memory_word m' y ≡ memory_word m y) →
    ((y : ℕ) → y % 8 ≡ 0 → y < 0x20000000 → held_word m' y ≡ held_word m y) → ((x : ℕ) → IsReadable m x → IsReadable m' x) → HeapStands s placed m a →
    HeapStands s placed m' a
heap_kept s placed m m' a same held readable h =
    let short = s.functions.tables.bytes.short in
    record {
      old = h.old;
      readable = record { each = λ k x l e lo hi. readable x (h.readable.each k x l e lo hi) };
      stand = record {
        count = h.stand.count;
        sizes = h.stand.sizes;
        header = λ k w l e. let at = start_inside placed k h.old.inside l in same (start_of placed k - 8) (omega (arith, at)) (λ q. omega (arith, q, at))
            ∙ h.stand.header k w l e;
        cell = λ k j v l i e. let at = cell_inside placed k j h.old.inside l i in same (start_of placed k + 8 * j) (omega (arith, at))
            (λ q. omega (arith, q, at)) ∙ h.stand.cell k j v l i e;
        known = h.stand.known;
      };
      heads = h.heads;
      fits = h.fits;
      statics = record {
        cell = λ x v e.
            let p = h.statics.place x v e in
            let high = p.2 in
            held x p.0 (omega (arith, high, short)) ∙ h.statics.cell x v e;
        kind = h.statics.kind;
        known = h.statics.known;
        place = h.statics.place;
      };
      lie = h.lie;
    }
