-- The walk up the stack, and what it finds.
use Rattle.std.proofs.Common.{◌≡◌, ℕ, zero, suc, ◌+◌, ◌-◌, ◌*◌, ◌%◌, ◌/◌, ◌^◌, ◌<◌, ◌≤◌, ◌⊎◌, inl, inr, Bool, true, false, cond, ◌&&◌, ◌==◌, List, [], ◌∷◌, ◌++◌, length, map, Option, Some, None, option_map, slice_index, refl, ap, arith, ◌∙◌, sym, subst, eq-eqb}
use Rattle.std.specs.List.{list_all, AllByRecursion}
use Rattle.std.specs.Option.{option_and_then}
use Rattle.std.proofs.lemmas.Bool.{ne_eqb, and_parts, leb-true, cases_eq, cond-true, cond-false}
use Rattle.bs_words.specs.Contents.{contents}
use Rattle.bs_words.specs.Word.{add_word}
use Rattle.image_form.specs.Image.{AreTables, EachNext, First, IsDesc, IsEntry, IsImage, IsNextEntry, IsRoot}
use Rattle.image_form.proofs.Lengths.{wide_enough}
use Rattle.image_form.specs.Tables.{Desc, Tables, desc}
use Rattle.image_form.specs.declared.image.DescRow.{DescRow}
use Rattle.image_form.specs.declared.image.Image as declared
use Rattle.rv_machine.proofs.Found.{found_has}
use Rattle.rv_machine.specs.Relocation.{root_addresses}
use Rattle.bs_words.specs.Fits.{data_start}
use Rattle.rv_machine.specs.Frames.{Frame, descriptor_at, frame_then, frames_from, is_frame, is_register, is_stack_word, most_frames, registers_named, registers_of, return_slot, slots_named, slots_of}
use Rattle.rv_machine.specs.Memory.{Region, code_start, memory_word}
use Rattle.alloc_service.specs.Forward.{redirected_now, roots_by}
use Rattle.machine_laws.proofs.Rise.{Rise, none_above, rise_low, rise-append}
use Rattle.alloc_service.proofs.Words.{redirected-append, kept}

-- ---- one frame

module _ (descs : List Desc) (base : ℕ) (m : List Region) where
  pub at_stub : (most : ℕ) (first : Bool) (address at : ℕ) → 0 < most → address ≡ code_start → frames_from most descs base m first address at ≡ Some []
  at_stub zero first address at h e = absurd (omega arith)
  at_stub (suc most) first address at h e =
      ap (λ t. cond t (Some []) (option_and_then (λ (d : Desc). frame_then (is_frame first base at d) at d (frames_from most descs base m false (memory_word m (return_slot at d)) (add_word at d.size))) (descriptor_at descs address)))
      (eq-eqb address code_start e)

  below_stub :
      (most : ℕ) (first : Bool) (address at : ℕ) → 0 < most → (address ≡ code_start → ⊥) →
      frames_from most descs base m first address at
      ≡ option_and_then (λ (d : Desc). frame_then (is_frame first base at d) at d (frames_from (most - 1) descs base m false (memory_word m (return_slot at d)) (add_word at d.size))) (descriptor_at descs address)
  below_stub zero first address at h e = absurd (omega arith)
  below_stub (suc most) first address at h e =
      let n : most ≡ suc most - 1 = omega arith in
      ap (λ t. cond t (Some []) (option_and_then (λ (d : Desc). frame_then (is_frame first base at d) at d (frames_from most descs base m false (memory_word m (return_slot at d)) (add_word at d.size))) (descriptor_at descs address)))
      (ne_eqb address code_start e)
      ∙ ap (λ k. option_and_then (λ (d : Desc). frame_then (is_frame first base at d) at d (frames_from k descs base m false (memory_word m (return_slot at d)) (add_word at d.size))) (descriptor_at descs address)) n

  pub no_desc : (most : ℕ) (first : Bool) (address at : ℕ) → 0 < most → (address ≡ code_start → ⊥) → descriptor_at descs address ≡ None → frames_from most descs base m first address at ≡ None
  no_desc most first address at h e d =
      below_stub most first address at h e
      ∙ ap (option_and_then (λ (d : Desc). frame_then (is_frame first base at d) at d (frames_from (most - 1) descs base m false (memory_word m (return_slot at d)) (add_word at d.size)))) d

  -- the frame there, before the frames above it
  pub one_frame :
      (most : ℕ) (first : Bool) (address at : ℕ) (d : Desc) → 0 < most → (address ≡ code_start → ⊥) → descriptor_at descs address ≡ Some d →
      frames_from most descs base m first address at
      ≡ frame_then (is_frame first base at d) at d (frames_from (most - 1) descs base m false (memory_word m (return_slot at d)) (add_word at d.size))
  one_frame most first address at d h e s =
      below_stub most first address at h e
      ∙ ap (option_and_then (λ (d : Desc). frame_then (is_frame first base at d) at d (frames_from (most - 1) descs base m false (memory_word m (return_slot at d)) (add_word at d.size)))) s

-- ---- descriptors of an image

-- a descriptor that is found keeps the rules
pub desc_rules : (image : declared.Image) (address : ℕ) (row : DescRow) → IsImage image → Some (desc row) ≡ descriptor_at (map desc (contents image.descs)) address → IsDesc image.version (4 * length (contents image.code)) (desc row)
desc_rules image address row rules e =
    found_has (IsDesc image.version (4 * length (contents image.code))) (λ (d : Desc). code_start + d.after == address) (map desc (contents image.descs)) (desc row) rules.descs.each (sym e)

-- ---- roots

all-append : (t : ℕ → Bool) (xs ys : List ℕ) → list_all t (xs ++ ys) ≡ (list_all t xs && list_all t ys)
all-append t [] ys = refl
all-append t (x ∷ xs) ys = by_test (t x) (all-append t xs ys)
  where
    by_test : (b : Bool) → list_all t (xs ++ ys) ≡ (list_all t xs && list_all t ys) → (b && list_all t (xs ++ ys)) ≡ ((b && list_all t xs) && list_all t ys)
    by_test true later = later
    by_test false later = refl

regrouped : (fine a b c : Bool) → (fine && (a && (b && c))) ≡ ((fine && (a && b)) && (true && c))
regrouped false a b c = refl
regrouped true false b c = refl
regrouped true true false c = refl
regrouped true true true c = refl

-- what is left of a survey, once a frame was looked at
pub surveyed :
    (test : ℕ → Bool) (registers : List ℕ) (m : List Region) (first fine here : Bool) (f : Frame) (o : Option (List Frame)) →
    here ≡ (cond first (list_all (λ r. test (slice_index registers r)) (registers_named f.desc.entries)) true && list_all (λ a. test (memory_word m a)) (slots_named f.at f.desc.entries)) →
    option_map (λ (fs : List Frame). fine && roots_by test registers m first fs) (option_map (λ (fs : List Frame). f ∷ fs) o)
    ≡ option_map (λ (fs : List Frame). (fine && here) && roots_by test registers m false fs) o
surveyed test registers m first fine here f None h = refl
surveyed test registers m first fine here f (Some fs) h =
    let regs = cond first (list_all (λ r. test (slice_index registers r)) (registers_named f.desc.entries)) true in
    let slots = list_all (λ a. test (memory_word m a)) (slots_named f.at f.desc.entries) in
    let rest = list_all (λ a. test (memory_word m a)) (slots_of fs) in
    ap Some
    (ap (λ b. fine && (regs && b)) (all-append (λ a. test (memory_word m a)) (slots_named f.at f.desc.entries) (slots_of fs))
    ∙ regrouped fine regs slots rest ∙ ap (λ b. (fine && b) && (true && rest)) (sym h))

-- ---- where the places of a frame lie

-- what a word of the stack is
stack_word : (base a : ℕ) → is_stack_word base a ≡ true → (base ≤ a) × (a + 8 ≤ 0x40000000)
stack_word base a h =
    let p = and_parts _ _ h in
    let q = and_parts _ _ p.0 in
    (leb-true base a q.1, leb-true (a + 8) 0x40000000 p.1)

-- From a place in the stack on, sums do not wrap, though the one to that place may have.
farther : (at e g : ℕ) → at < 2 ^ 64 → e ≤ g → g ≤ 2 ^ 32 → add_word at e + 8 ≤ 0x40000000 → add_word at g ≡ add_word at e + (g - e)
unfolding add_word
farther at e g a le few high = omega arith

no_wrap : (at e : ℕ) → at ≤ 0x40000000 → e ≤ 2 ^ 32 → add_word at e ≡ at + e
unfolding add_word
no_wrap at e a few = omega arith

abbrev IsEven : ℕ → ℕ → Type 0
IsEven low e = (e % 2 ≡ 0) × (low ≤ e)

below_size : (size e : ℕ) → IsEntry size e → e % 2 ≡ 0 → e < size
below_size size e (inl h) k = absurd (omega (arith, h.0))
below_size size e (inr h) k = h.1

next_even : (e : ℕ) (es : List ℕ) → e % 2 ≡ 0 → First (IsNextEntry e) es → First (IsEven (suc e)) es
next_even e [] k n = tt
next_even e (g ∷ es) k (inl h) = (omega (arith, h.0), omega (arith, h.1))
next_even e (g ∷ es) k (inr h) = absurd (omega (arith, h.0))

not_register : (e : ℕ) → e % 2 ≡ 0 → is_register e ≡ false
not_register e k = ne_eqb (e % 2) 1 (λ h. omega arith)

-- places that lie at offsets from here on, in the stack, are at this address or above it
unfoldable pub Reaches : ℕ → ℕ → ℕ → ℕ → ℕ → Type 0
Reaches base at size from low = (e : ℕ) → from ≤ e → e < size → is_stack_word base (add_word at e) ≡ true → low ≤ add_word at e

even_slots :
    (base at size : ℕ) (es : List ℕ) (from low : ℕ) → at < 2 ^ 64 → size ≤ 2 ^ 32 → AllByRecursion (IsEntry size) es → EachNext IsNextEntry es → First (IsEven from) es →
    list_all (is_stack_word base) (slots_named at es) ≡ true → Reaches base at size from low → Rise low (add_word at size) (slots_named at es)
unfolding Reaches
even_slots base at size [] from low a few all next first in_stack reaches = tt
even_slots base at size (e ∷ es) from low a few all next first in_stack reaches =
    let small = below_size size e all.0 first.0 in
    let here : slots_named at (e ∷ es) ≡ add_word at e ∷ slots_named at es =
    cond-false (is_register e) (slots_named at es) (add_word at e ∷ slots_named at es) (not_register e first.0) in
    let parts = and_parts (is_stack_word base (add_word at e)) (list_all (is_stack_word base) (slots_named at es)) (ap (list_all (is_stack_word base)) (sym here) ∙ in_stack) in
    let memory_word = stack_word base (add_word at e) parts.0 in
    let end = farther at e size a (omega arith) few memory_word.1 in
    let later = even_slots base at size es (suc e) (suc (add_word at e)) a few all.1 next.1 (next_even e es first.0 next.0) parts.1
    (λ g le lt in'. let there = farther at e g a (omega arith) (omega arith) memory_word.1 in omega (arith, there)) in
    subst (Rise low (add_word at size)) (sym here)
    (reaches e first.1 small parts.0, omega (arith, end, small), later)

-- the places of a frame rise, and lie in the frame
pub frame_slots :
    (base at size : ℕ) (es : List ℕ) (low : ℕ) → at < 2 ^ 64 → size ≤ 2 ^ 32 → AllByRecursion (IsEntry size) es → EachNext IsNextEntry es →
    list_all (is_stack_word base) (slots_named at es) ≡ true → Reaches base at size 0 low → Rise low (add_word at size) (slots_named at es)
frame_slots base at size [] low a few all next in_stack reaches = tt
frame_slots base at size (e ∷ es) low a few all next in_stack reaches = by_case (cases_eq (e % 2) 1) (λ h. frame_slots base at size es low a few all.1 next.1 h reaches)
  where
    by_case : (e % 2 ≡ 1) ⊎ (e % 2 ≡ 1 → ⊥) → (list_all (is_stack_word base) (slots_named at es) ≡ true → Rise low (add_word at size) (slots_named at es)) → Rise low (add_word at size) (slots_named at (e ∷ es))
    by_case (inl odd) later =
        let here = cond-true (is_register e) (slots_named at es) (add_word at e ∷ slots_named at es) (eq-eqb (e % 2) 1 odd) in
        subst (Rise low (add_word at size)) (sym here) (later (ap (list_all (is_stack_word base)) (sym here) ∙ in_stack))
    by_case (inr even) later =
        let z : e % 2 ≡ 0 = omega (arith, even) in
        even_slots base at size (e ∷ es) 0 low a few all next (z, omega arith) in_stack reaches

-- where a lower bound of a frame's places may be: at the stack's base, or where the frame begins, if that is
-- in the stack
abbrev pub IsFloor : ℕ → ℕ → ℕ → Type 0
IsFloor base at low = (low ≤ base) ⊎ ((low ≤ at) × (at ≤ 0x40000000))

reaches_from : (base at size low : ℕ) → size ≤ 2 ^ 32 → IsFloor base at low → Reaches base at size 0 low
unfolding Reaches
reaches_from base at size low few (inl h) e le lt in' = omega (arith, h, (stack_word base (add_word at e) in').0)
reaches_from base at size low few (inr h) e le lt in' = let same = no_wrap at e h.1 (omega arith) in omega (arith, h.0, same)

-- ---- rewriting what the frames name

-- nothing is rewritten before the first frame, and then nothing from the next frame up
abbrev pub IsAbove : Bool → ℕ → ℕ → Type 0
IsAbove true at b = Unit {0}
IsAbove false at b = at ≤ b

-- a frame after the first one begins in the stack
abbrev pub BeginsLow : Bool → ℕ → Type 0
BeginsLow true at = Unit {0}
BeginsLow false at = at ≤ 0x40000000

above_by : (first : Bool) (at b : ℕ) → BeginsLow first at → (at ≤ 0x40000000 → at ≤ b) → IsAbove first at b
above_by true at b low h = tt
above_by false at b low h = h low

-- What is left of the walk: the frames that are left, read from the old memory, are rewritten in the one
-- that there now is, and both have the same words from here up.
pub record Left (f : ℕ → ℕ) (descs : List Desc) (base : ℕ) (old now : List Region) (fs : List Frame) (most : ℕ) (first : Bool) (address at : ℕ) : Type 0 where
  pub rest : List Frame
  pub found : frames_from most descs base old first address at ≡ Some rest
  pub redirected : redirected_now f old (slots_of fs) ≡ redirected_now f now (slots_of rest)
  pub above : (b : ℕ) → IsAbove first at b → memory_word now b ≡ memory_word old b
  pub low : BeginsLow first at

pub record Walks (f : ℕ → ℕ) (descs : List Desc) (base : ℕ) (old now : List Region) (from sp most : ℕ) (first : Bool) (address at : ℕ) : Type 0 where
  pub each : (fs : List Frame) → frames_from (most_frames base) descs base old true from sp ≡ Some fs → Left f descs base old now fs most first address at

-- what a frame before the others is
pub record Framed (t : Bool) (f : Frame) (o : Option (List Frame)) (fs : List Frame) : Type 0 where
  pub fits : t ≡ true
  pub tail : List Frame
  pub found : o ≡ Some tail
  pub is : f ∷ tail ≡ fs

pub framed : (t : Bool) (at : ℕ) (d : Desc) (o : Option (List Frame)) (fs : List Frame) → frame_then t at d o ≡ Some fs → Framed t (record { at = at; desc = d }) o fs
framed false at d o fs e = absurd (cc)
framed true at d None fs e = absurd (cc)
framed true at d (Some tail) fs e = record { fits = refl; tail = tail; found = refl; is = cc }

-- where a frame that fits lies
pub record InStack (base at : ℕ) (d : Desc) : Type 0 where
  pub next : return_slot at d + 8 ≡ add_word at d.size
  pub low : base ≤ return_slot at d
  pub high : add_word at d.size ≤ 0x40000000
  pub few : d.size ≤ 2 ^ 32
  pub slots : list_all (is_stack_word base) (slots_named at d.entries) ≡ true

pub in_stack : (version code : ℕ) (first : Bool) (base at : ℕ) (d : Desc) → IsDesc version code d → at < 2 ^ 64 → is_frame first base at d ≡ true → InStack base at d
in_stack version code first base at d rules a h =
    let p = and_parts _ _ h in
    let q = and_parts _ _ p.0 in
    let w = stack_word base (return_slot at d) q.1 in
    let few : d.size ≤ 2 ^ 32 = omega (arith, rules.size_fits, (wide_enough version).1) in
    let end = farther at (d.size - 8) d.size a (omega arith) few w.1 in
    let eight : d.size - (d.size - 8) ≡ 8 = omega (arith, rules.nonempty) in
    record {
      next = omega (arith, end, eight);
      low = w.0;
      high = omega (arith, end, eight, w.1);
      few = few;
      slots = p.1;
    }

module _ (f : ℕ → ℕ) (descs : List Desc) (base : ℕ) (old now new : List Region) (from sp most : ℕ) (first : Bool) (address at : ℕ) (d : Desc) (version code : ℕ) where
  pub walks_more :
      0 < most → (address ≡ code_start → ⊥) → descriptor_at descs address ≡ Some d → IsDesc version code d → at < 2 ^ 64 →
      new ≡ redirected_now f now (slots_named at d.entries) → Walks f descs base old now from sp most first address at →
      Walks f descs base old new from sp (most - 1) false (memory_word now (return_slot at d)) (add_word at d.size)
  walks_more some below is rules a rewritten walks = record { each = λ fs e. step (walks.each fs e) }
    where
      step : {fs : List Frame} → Left f descs base old now fs most first address at → Left f descs base old new fs (most - 1) false (memory_word now (return_slot at d)) (add_word at d.size)
      step {fs} l =
          let fr = framed (is_frame first base at d) at d (frames_from (most - 1) descs base old false (memory_word old (return_slot at d)) (add_word at d.size)) l.rest
          (sym (one_frame descs base old most first address at d some below is) ∙ l.found) in
          let s = in_stack version code first base at d rules a fr.fits in
          let rise = frame_slots base at d.size d.entries base a s.few rules.entries rules.in_order s.slots (reaches_from base at d.size base s.few (inl (omega arith))) in
          let above_slot : IsAbove first at (return_slot at d) =
          above_by first at (return_slot at d) l.low (λ h. let same = no_wrap at (d.size - 8) h (omega (arith, s.few)) in omega (arith, same)) in
          record {
            rest = fr.tail;
            found = ap (λ w. frames_from (most - 1) descs base old false w (add_word at d.size)) (l.above (return_slot at d) above_slot) ∙ fr.found;
            redirected = l.redirected ∙ sym (ap (λ fs. redirected_now f now (slots_of fs)) fr.is)
                ∙ redirected-append f now (slots_named at d.entries) (slots_of fr.tail)
                ∙ ap (λ m. redirected_now f m (slots_of fr.tail)) (sym rewritten);
            above = λ b h.
                ap (λ m. memory_word m b) rewritten ∙ kept f now (slots_named at d.entries) b (none_above base (add_word at d.size) b (slots_named at d.entries) h rise)
                ∙ l.above b (above_by first at b l.low (λ k. let same = no_wrap at d.size k s.few in omega (arith, same, h)));
            low = s.high;
          }

-- ---- what frames name rises

-- the next register that entries name is at least this
abbrev FirstRegister : ℕ → ℕ → Type 0
FirstRegister low e = ((e % 2 ≡ 1) × (2 * low + 1 ≤ e)) ⊎ (e % 2 ≡ 0)

first_register : (es : List ℕ) → First (FirstRegister 0) es
first_register [] = tt
first_register (e ∷ es) = by_case (cases_eq (e % 2) 1)
  where
    by_case : (e % 2 ≡ 1) ⊎ (e % 2 ≡ 1 → ⊥) → FirstRegister 0 e
    by_case (inl h) = inl (h, omega arith)
    by_case (inr h) = inr (omega (arith, h))

few_registers : (size e : ℕ) → IsEntry size e → e % 2 ≡ 1 → e ≤ 63
few_registers size e (inl h) k = h.1
few_registers size e (inr h) k = absurd (omega (arith, h.0))

after_odd : (e : ℕ) (es : List ℕ) → e % 2 ≡ 1 → First (IsNextEntry e) es → First (FirstRegister (suc (e / 2))) es
after_odd e [] k n = tt
after_odd e (g ∷ es) k (inl h) = inl (omega (arith, h.0), omega (arith, h.0, h.1))
after_odd e (g ∷ es) k (inr h) = inr h.1

after_even : (low e : ℕ) (es : List ℕ) → e % 2 ≡ 0 → First (IsNextEntry e) es → First (FirstRegister low) es
after_even low e [] k n = tt
after_even low e (g ∷ es) k (inl h) = inr (omega (arith, h.0))
after_even low e (g ∷ es) k (inr h) = absurd (omega (arith, h.0))

registers_rise : (size : ℕ) (es : List ℕ) (low : ℕ) → AllByRecursion (IsEntry size) es → EachNext IsNextEntry es → First (FirstRegister low) es → Rise low 32 (registers_named es)
registers_rise size [] low all next first = tt
registers_rise size (e ∷ es) low all next (inl h) =
    let small = few_registers size e all.0 h.0 in
    subst (Rise low 32) (sym (cond-true (is_register e) (e / 2 ∷ registers_named es) (registers_named es) (eq-eqb (e % 2) 1 h.0)))
    (omega (arith, h.1), omega (arith, small), registers_rise size es (suc (e / 2)) all.1 next.1 (after_odd e es h.0 next.0))
registers_rise size (e ∷ es) low all next (inr h) =
    subst (Rise low 32) (sym (cond-false (is_register e) (e / 2 ∷ registers_named es) (registers_named es) (not_register e h)))
    (registers_rise size es low all.1 next.1 (after_even low e es h next.0))

abbrev pub Stacks : List Frame → Type 0
Stacks fs = Rise 0 32 (registers_of fs)

module _ (descs : List Desc) (version code base : ℕ) (m : List Region) (rules : AllByRecursion (IsDesc version code) descs) where
  -- What is known of frames from a stack pointer on.
  pub record Stacked (at : ℕ) (fs : List Frame) : Type 0 where
    pub slots : (low : ℕ) → IsFloor base at low → Rise low 0x40000000 (slots_of fs)
    pub first : Stacks fs

  stacked_one :
      (most : ℕ) (first : Bool) (address at : ℕ) (fs : List Frame) (d : Desc) → at < 2 ^ 64 → descriptor_at descs address ≡ Some d →
      Framed (is_frame first base at d) (record { at = at; desc = d }) (frames_from most descs base m false (memory_word m (return_slot at d)) (add_word at d.size)) fs →
      ((address at : ℕ) (fs : List Frame) → at < 2 ^ 64 → frames_from most descs base m false address at ≡ Some fs → Stacked at fs) → Stacked at fs
  stacked_one most first address at fs d a found fr later =
      let r = found_has (IsDesc version code) (λ (d : Desc). code_start + d.after == address) descs d rules found in
      let s = in_stack version code first base at d r a fr.fits in
      let next = later (memory_word m (return_slot at d)) (add_word at d.size) fr.tail (omega (arith, s.high)) fr.found in
      let there : Rise (add_word at d.size) 0x40000000 (slots_of fr.tail) = next.slots (add_word at d.size) (inr (omega arith, s.high)) in
      subst (Stacked at) fr.is (record {
        slots = λ low floor.
            let here = frame_slots base at d.size d.entries low a s.few r.entries r.in_order s.slots (reaches_from base at d.size low s.few floor) in
            rise-append low (add_word at d.size) 0x40000000 (slots_named at d.entries) (slots_of fr.tail) (floor_below floor s) s.high here there;
        first = registers_rise d.size d.entries 0 r.entries r.in_order (first_register d.entries);
      })
    where
      floor_below : {low : ℕ} → IsFloor base at low → InStack base at d → low ≤ add_word at d.size
      floor_below (inl h) s = omega (arith, h, s.low, s.next)
      floor_below (inr h) s = let same = no_wrap at d.size h.1 s.few in omega (arith, h.0, same)

  pub stacked : (most : ℕ) (first : Bool) (address at : ℕ) (fs : List Frame) → at < 2 ^ 64 → frames_from most descs base m first address at ≡ Some fs → Stacked at fs
  stacked zero first address at fs a e = absurd (cc)
  stacked (suc most) first address at fs a e = by_stub (cases_eq address code_start) (λ address at fs a e. stacked most false address at fs a e)
    where
      by_desc :
          (o : Option Desc) → descriptor_at descs address ≡ o → (address ≡ code_start → ⊥) →
          ((address at : ℕ) (fs : List Frame) → at < 2 ^ 64 → frames_from most descs base m false address at ≡ Some fs → Stacked at fs) → Stacked at fs
      by_desc None o n later = let none = no_desc descs base m (suc most) first address at (omega arith) n o in absurd (cc (none, e))
      by_desc (Some d) o n later =
          let k : suc most - 1 ≡ most = omega arith in
          let one : frame_then (is_frame first base at d) at d (frames_from most descs base m false (memory_word m (return_slot at d)) (add_word at d.size)) ≡ Some fs =
          ap (λ j. frame_then (is_frame first base at d) at d (frames_from j descs base m false (memory_word m (return_slot at d)) (add_word at d.size))) (sym k)
          ∙ sym (one_frame descs base m (suc most) first address at d (omega arith) n o) ∙ e in
          stacked_one most first address at fs d a o (framed (is_frame first base at d) at d _ fs one) later

      by_stub :
          (address ≡ code_start) ⊎ (address ≡ code_start → ⊥) →
          ((address at : ℕ) (fs : List Frame) → at < 2 ^ 64 → frames_from most descs base m false address at ≡ Some fs → Stacked at fs) → Stacked at fs
      by_stub (inl s) later =
          let none : [] ≡ fs = let stub = at_stub descs base m (suc most) first address at (omega arith) s in cc (stub, e) in
          subst (Stacked at) none (record { slots = λ low floor. tt; first = tt })
      by_stub (inr n) later = by_desc (descriptor_at descs address) refl n later

-- ---- root cells

roots_rise :
    (len : ℕ) (rs : List ℕ) (low : ℕ) → len ≤ 16777216 → AllByRecursion (IsRoot len) rs → EachNext (λ a b. a < b) rs → First (λ r. low ≤ r) rs →
    Rise (0x10000000 + low) 0x20000000 (map (λ offset. data_start + offset) rs)
roots_rise len [] low m all next first = tt
roots_rise len (r ∷ rs) low m all next first =
    let n : suc (0x10000000 + r) ≤ 0x10000000 + suc r = omega arith in
    let inside = all.0.in_data in
    (omega (arith, first), omega (arith, inside), rise_low (suc (0x10000000 + r)) (0x10000000 + suc r) 0x20000000 (map (λ offset. data_start + offset) rs) n (roots_rise len rs (suc r) m all.1 next.1 (first_next r rs next.0)))
  where
    first_next : (r : ℕ) (rs : List ℕ) → First (λ b. r < b) rs → First (λ b. suc r ≤ b) rs
    first_next r [] h = tt
    first_next r (b ∷ rs) h = omega (arith, h)

any_root : (rs : List ℕ) → First (λ r. 0 ≤ r) rs
any_root [] = tt
any_root (r ∷ rs) = omega arith

-- the root cells rise, below the stack
pub cells_rise : (image : Tables) → AreTables image → Rise 0x10000000 0x20000000 (root_addresses image)
cells_rise image t =
    rise_low 0x10000000 (0x10000000 + 0) 0x20000000 (root_addresses image) (omega arith)
    (roots_rise (length image.bytes) image.roots 0 t.bytes.short t.roots.each t.roots.rising (any_root image.roots))
