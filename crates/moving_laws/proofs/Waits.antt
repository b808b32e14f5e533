-- A move keeps what waits on the stack, the registers, the static cells and the trap frames.
use Rattle.std.proofs.Common.{◌≡◌, ◌≢◌, ℕ, zero, suc, ◌+◌, ◌-◌, ◌%◌, ◌^◌, ◌<◌, ◌≤◌, ◌⊎◌, inl, inr, Bool, false, List, [], ◌∷◌, length, Option, Some, slice_index, slice_set, refl, arith, ◌∙◌, sym, subst, ⊎_elim, get_or-set_same, get_or-set_other, length-set}
use Rattle.std.specs.List.{AllByRecursion}
use Rattle.bs_words.specs.declared.values.Value.{Value}
use Rattle.image_form.specs.Tables.{Tables, Desc}
use Rattle.rv_machine.specs.Frames.{Frame, slots_named, slots_of}
use Rattle.rv_machine.specs.Hart.{Placed, with_register}
use Rattle.rv_machine.specs.Memory.{Region, memory_word}
use Rattle.rv_machine.specs.Moving.{redirected_registers}
use Rattle.rv_machine.specs.Places.{stack_end}
use Rattle.moving_laws.specs.Words.{IsReadable, held_word}
use Rattle.moving_laws.specs.Heap.{IsInHeap, SameSizes}
use Rattle.moving_laws.specs.Values.{IsVal, IsStill, IsKnown}
use Rattle.moving_laws.specs.Stands.{Blocks, IsOutside, AmongNumbers, StaticsStand}
use Rattle.moving_laws.specs.Waiting.{WaitingActivation, waiting_slot_offset, Chain, IsWaiting, AllWait, TrapsFrom}
use Rattle.moving_laws.proofs.Words.{same_or_not}
use Rattle.moving_laws.proofs.Rewriting.{far_no_start, still_word, same_length}
use Rattle.moving_laws.proofs.Restored.{IsMemoryRestored}
use Rattle.moving_laws.proofs.Walk.{among_append, among_first, among_second, entry_named, own, above_frame}

pub among_or_not : (x : ℕ) (xs : List ℕ) → AmongNumbers x xs ⊎ (AmongNumbers x xs → ⊥)
among_or_not x [] = inr (λ a. a)
among_or_not x (y ∷ ys) =
    ⊎_elim (λ e. inl (inl e))
    (λ n. ⊎_elim (λ a. inl (inr a)) (λ none. inr (λ s. ⊎_elim (λ e. n e) (λ a. none a) s)) (among_or_not x ys))
    (same_or_not x y)

module _ (image : Tables) (olds news : List Placed) (places : List ℕ) (m m' : List Region) (blocks : Blocks)
    (r : IsMemoryRestored image olds news places m m' blocks) (sizes : SameSizes olds news) (inside : AllByRecursion IsInHeap olds)
    (base : ℕ) (high : 0x38010008 ≤ base) (can : (x : ℕ) → x % 8 ≡ 0 → base ≤ x → x + 8 ≤ stack_end → IsReadable m x) where
  on_stack : (x : ℕ) → base ≤ x → IsOutside x
  on_stack x l = record { off = inr (omega (arith, l, high)); no_limit = λ e. omega (arith, e, l, high) }

  -- words of the stack that lie in no heap stay
  pub stack_keeps : (x : ℕ) → base ≤ x → x + 8 ≤ stack_end → x % 8 ≡ 0 → (memory_word m x < 0x30000008) ⊎ (0x38010000 < memory_word m x) → memory_word m' x ≡ memory_word m x
  stack_keeps x l h e out = r.plain x (can x e l h) (on_stack x l) (far_no_start (memory_word m x) olds out inside)

  pub return_keeps : (x : ℕ) → base ≤ x → x + 8 ≤ stack_end → x % 8 ≡ 0 → memory_word m x ≤ 0x10000000 → memory_word m' x ≡ memory_word m x
  return_keeps x l h e low = stack_keeps x l h e (inl (omega (arith, low)))

  count_same : length news ≡ length olds
  count_same = same_length olds news sizes

  val_again : (v : Value) → IsVal image (length olds) v → IsVal image (length news) v
  val_again v f = subst (λ n. IsVal image n v) (sym count_same) f

  one_value : (v v' : Value) (o : Option Value) → o ≡ Some v → o ≡ Some v' → v' ≡ v
  one_value v v' o e e' = cc

  pub waits_one :
      (x : WaitingActivation) (f : Frame) → base ≤ f.at → f.at % 8 ≡ 0 → f.at + f.desc.size ≤ stack_end →
      ((e : ℕ) → AmongNumbers e f.desc.entries → e % 2 ≡ 0 → AmongNumbers (f.at + e) places) →
      ((k : ℕ) → k < f.desc.size → (AmongNumbers k f.desc.entries → ⊥) → AmongNumbers (f.at + k) places → ⊥) →
      memory_word m' (f.at + (f.desc.size - 8)) ≡ memory_word m (f.at + (f.desc.size - 8)) →
      IsWaiting image olds m x f → IsWaiting image news m' x f
  waits_one x f lo even hi sub only ret w = record {
    room = w.room;
    back = ret ∙ w.back;
    slot = λ k v l h.
        let room = w.room in
        let at : ℕ = f.at + waiting_slot_offset x k in
        let at_low : base ≤ at = omega (arith, lo) in
        let at_even : at % 8 ≡ 0 = omega (arith, even) in
        let at_high : at + 8 ≤ stack_end = omega (arith, hi, room, l) in
        ⊎_elim
        (λ a.
        let n = w.named (waiting_slot_offset x k) a (omega arith) in
        let e = n.2 in
        let same : n.0 ≡ k = omega (arith, e) in
        let is : n.1 ≡ v = one_value v n.1 (x.slot k) h (subst (λ z. x.slot z ≡ Some n.1) same n.4) in
        r.named at v (can at at_even at_low at_high) (on_stack at at_low) (sub (waiting_slot_offset x k) a (omega arith))
        (subst (λ z. IsVal image (length olds) z) is n.5) (w.slot k v l h))
        (λ none.
        let still : IsStill v = ⊎_elim (λ s. s) (λ a. absurd (none a)) (w.value k v l h) in
        r.unnamed at (on_stack at at_low) (only (waiting_slot_offset x k) (omega (arith, room, l)) none) ∙ w.slot k v l h ∙ still_word image olds news v still)
        (among_or_not (waiting_slot_offset x k) f.desc.entries);
    known = λ k v l h. subst (λ q. IsKnown image q v) (sym count_same) (w.known k v l h);
    value = w.value;
    named = λ e a v. let n = w.named e a v in (n.0, n.1, n.2, n.3, n.4, val_again n.1 n.5);
  }

  pub waits :
      (ds : List Desc) (first : Bool) (a p : ℕ) (xs : List WaitingActivation) (fs : List Frame) → Chain ds base m first a p fs →
      ((y : ℕ) → AmongNumbers y (slots_of fs) → AmongNumbers y places) → ((y : ℕ) → p ≤ y → AmongNumbers y places → AmongNumbers y (slots_of fs)) →
      AllWait image olds m xs fs → AllWait image news m' xs fs
  waits ds first a p [] [] c sub only w = w
  waits ds first a p [] (f ∷ fs) c sub only w = w
  waits ds first a p (x ∷ xs) [] c sub only w = w
  waits ds first a p (x ∷ xs) (f ∷ fs) c sub only w =
      let is = c.3 in
      let at = c.2 in
      let lo = is.low in
      let hi = is.high in
      let ev = is.even in
      let hi' : f.at + f.desc.size ≤ stack_end = omega (arith, at, hi) in (
        waits_one x f (omega (arith, at, lo)) (omega (arith, at, ev)) hi'
            (λ e i v. sub (f.at + e) (among_first (f.at + e) (slots_named f.at f.desc.entries) (slots_of fs)
            (entry_named f.at f.desc.size e f.desc.entries hi' is.entries i v)))
            (λ k l none i. none (own ds base m first a p k f fs c l (subst (λ q. AmongNumbers (q + k) (slots_of (f ∷ fs))) at (only (f.at + k)
            (omega (arith, at)) i))))
            (let se = is.size_even in let sl = is.size_least in
            return_keeps (f.at + (f.desc.size - 8)) (omega (arith, at, lo)) (omega (arith, at, hi, sl)) (omega (arith, at, ev, se, sl))
            (subst (λ q. memory_word m (q + (f.desc.size - 8)) ≤ 0x10000000) (sym at) c.4))
            w.0,
        waits ds false (memory_word m (p + (f.desc.size - 8))) (p + f.desc.size) xs fs c.5
            (λ y i. sub y (among_second y (slots_named f.at f.desc.entries) (slots_of fs) i))
            (λ y l i. ⊎_elim
            (λ t. absurd (above_frame y f f.desc.entries hi' is.entries (omega (arith, l, at)) t))
            (λ t. t)
            (among_append y (slots_named f.at f.desc.entries) (slots_of fs) (only y (omega (arith, l)) i)))
            w.1,
      )

  -- ---- trap frames

  pub traps_kept : (s : ℕ) (ts : List (ℕ × ℕ)) (last : ℕ) → TrapsFrom base m s ts last → TrapsFrom base m' s ts last
  traps_kept s [] last t = t
  traps_kept s (x ∷ ts) last t =
      let lo = t.1 in
      let hi = t.2 in
      let ev = t.3 in
      let h = t.5.high in
      let e = t.4 in
      let here : memory_word m' s ≡ memory_word m s = return_keeps s lo (omega (arith, hi)) ev (omega (arith, h, e)) in
      let up = t.6 in
      let next : memory_word m' (s + 8) ≡ memory_word m (s + 8) = stack_keeps (s + 8) (omega (arith, lo)) (omega (arith, hi)) (omega (arith, ev))
      (inr (omega (arith, up, high))) in (
        t.0,
        t.1,
        t.2,
        t.3,
        here ∙ t.4,
        t.5,
        subst (λ w. base ≤ w) (sym next) t.6,
        subst (λ w. TrapsFrom base m' w ts last) (sym next)
            (traps_kept (memory_word m (s + 8)) ts last t.7),
      )

  -- ---- static cells

  pub statics_kept : (roots : List ℕ) (static : ℕ → Option Value) → length image.bytes ≤ 16777216 →
      ((x : ℕ) → AmongNumbers x roots → AmongNumbers x places) → ((x : ℕ) → x < 0x20000000 → AmongNumbers x places → AmongNumbers x roots) →
      ((x : ℕ) → AmongNumbers x roots → IsReadable m x × (held_word m x ≡ memory_word m x) × (held_word m' x ≡ memory_word m' x)) →
      StaticsStand image olds m roots static → StaticsStand image news m' roots static
  statics_kept roots static short sub only whole s = record {
    cell = λ x v e.
        let at = (s.place x v e).2 in
        let low : x < 0x20000000 = omega (arith, at, short) in
        let out : IsOutside x = record { off = inl (omega (arith, low)); no_limit = λ q. omega (arith, q, low) } in
        ⊎_elim
        (λ k.
        let w = whole x k.1 in
        w.2 ∙ r.named x v w.0 out (sub x k.1) k.0 (sym w.1 ∙ s.cell x v e))
        (λ k. r.held x (s.place x v e).0 out (λ i. k.1 (only x low i)) ∙ s.cell x v e ∙ still_word image olds news v k.0)
        (s.kind x v e);
    kind = λ x v e. ⊎_elim (λ k. inl (val_again v k.0, k.1)) (λ k. inr k) (s.kind x v e);
    known = λ x v e. subst (λ q. IsKnown image q v) (sym count_same) (s.known x v e);
    place = s.place;
  }

-- ---- registers

module _ (f : ℕ → ℕ) (old : List ℕ) where
  pub regs_length : (rs registers : List ℕ) → length (redirected_registers f old rs registers) ≡ length registers
  regs_length [] registers = refl
  regs_length (zero ∷ rs) registers = regs_length rs registers
  regs_length (suc r ∷ rs) registers = regs_length rs (slice_set registers (suc r) (f (slice_index old (suc r)))) ∙ length-set registers (suc r)
      (f (slice_index old (suc r)))

  pub set_words : (xs : List ℕ) (j value : ℕ) → ((i : ℕ) → slice_index xs i < 2 ^ 64) → value < 2 ^ 64 → (i : ℕ) → slice_index (slice_set xs j value) i < 2 ^ 64
  set_words [] j value all small i = all i
  set_words (x ∷ xs) zero value all small zero = small
  set_words (x ∷ xs) zero value all small (suc i) = all (suc i)
  set_words (x ∷ xs) (suc j) value all small zero = all zero
  set_words (x ∷ xs) (suc j) value all small (suc i) = set_words xs j value (λ k. all (suc k)) small i

  pub regs_words : (rs registers : List ℕ) → ((i : ℕ) → f (slice_index old i) < 2 ^ 64) → ((i : ℕ) → slice_index registers i < 2 ^ 64) → (i : ℕ) →
      slice_index (redirected_registers f old rs registers) i < 2 ^ 64
  regs_words [] registers small all i = all i
  regs_words (zero ∷ rs) registers small all i = regs_words rs registers small all i
  regs_words (suc r ∷ rs) registers small all i = regs_words rs (slice_set registers (suc r) (f (slice_index old (suc r)))) small (set_words registers (suc r)
      (f (slice_index old (suc r))) all (small (suc r))) i

  set_one : (r x v : ℕ) (registers : List ℕ) → 1 ≤ r → r ≡ x → x < length registers → slice_index (with_register r v registers) x ≡ v
  set_one zero x v registers l e h = absurd (omega (arith, l))
  set_one (suc r) x v registers l e h = subst (λ y. slice_index (slice_set registers (suc r) v) y ≡ v) e (get_or-set_same registers (suc r) v 0 (omega
      (arith, e, h)))

  pub set_other : (r x v : ℕ) (registers : List ℕ) → r ≢ x → slice_index (with_register r v registers) x ≡ slice_index registers x
  set_other zero x v registers n = refl
  set_other (suc r) x v registers n = get_or-set_other registers (suc r) x v 0 (λ e. n (sym e))

  length_with : (r v : ℕ) (registers : List ℕ) → length (with_register r v registers) ≡ length registers
  length_with zero v registers = refl
  length_with (suc r) v registers = length-set registers (suc r) v

  regs_settled : (rs registers : List ℕ) (x : ℕ) → 1 ≤ x → x < length registers → slice_index registers x ≡ f (slice_index old x) →
      slice_index (redirected_registers f old rs registers) x ≡ f (slice_index old x)
  regs_settled [] registers x o l e = e
  regs_settled (r ∷ rs) registers x o l e =
      let v : ℕ = f (slice_index old r) in
      let n = length_with r v registers in
      regs_settled rs (with_register r v registers) x o (omega (arith, l, n))
      (⊎_elim
      (λ (s : r ≡ x). subst (λ y. slice_index (with_register y (f (slice_index old y)) registers) x ≡ f (slice_index old x)) (sym s)
      (set_one x x (f (slice_index old x)) registers o refl l))
      (λ ne. set_other r x v registers ne ∙ e)
      (same_or_not r x))

  pub regs_in : (rs registers : List ℕ) (x : ℕ) → 1 ≤ x → x < length registers → AmongNumbers x rs →
      slice_index (redirected_registers f old rs registers) x ≡ f (slice_index old x)
  regs_in [] registers x o l i = absurd i
  regs_in (r ∷ rs) registers x o l i =
      let v : ℕ = f (slice_index old r) in
      let n = length_with r v registers in
      let l' : x < length (with_register r v registers) = omega (arith, l, n) in
      ⊎_elim
      (λ (s : x ≡ r). regs_settled rs (with_register r v registers) x o l' (subst (λ y. slice_index (with_register y (f (slice_index old y)) registers) x ≡ f
      (slice_index old x)) s (set_one x x (f (slice_index old x)) registers o refl l)))
      (λ j. regs_in rs (with_register r v registers) x o l' j)
      i

  pub regs_off : (rs registers : List ℕ) (x : ℕ) → (AmongNumbers x rs → ⊥) → slice_index (redirected_registers f old rs registers) x ≡ slice_index registers x
  regs_off [] registers x none = refl
  regs_off (r ∷ rs) registers x none =
      let v : ℕ = f (slice_index old r) in
      regs_off rs (with_register r v registers) x (λ j. none (inr j)) ∙ set_other r x v registers (λ e. none (inl (sym e)))
