-- The trap frame at the stack's bottom, which no program pushed.
use Rattle.std.proofs.Common.{◌≡◌, ℕ, zero, suc, ◌+◌, ◌-◌, ◌/◌, ◌%◌, ◌^◌, ◌<◌, ◌≤◌, false, nat_le, List, [], ◌∷◌, ◌++◌, replicate, Some, slice_index, ap, arith, ◌∙◌, refl, sym, subst}
use Rattle.std.proofs.lemmas.Bool.{le-leb, lt-leb, and_from, and_right, cond-true, cond-false}
use Rattle.image_form.specs.Image.{AreTables}
use Rattle.image_form.specs.Tables.{Tables}
use Rattle.rv_machine.specs.Loading.{IsRoom}
use Rattle.rv_machine.specs.Memory.{Region, byte_in, code_start, is_inside, or_zero, read, memory_word}
use Rattle.bs_words.specs.Memory.{part}
use Rattle.rv_machine.specs.Observation.{young_start}
use Rattle.rv_machine.specs.Start.{data_region, domain_region, stack_region, start_memory, uniform}
use Rattle.rv_machine.specs.Places.{filler, half_start, stack_bottom}

last_word : (n w z : ℕ) → slice_index (replicate n 0 ++ w ∷ z ∷ []) n ≡ w
last_word zero w z = refl
last_word (suc n) w z = last_word n w z

whole_word : (n w : ℕ) → n ≡ 0 → w < 2 ^ 64 → part w n 8 ≡ w
whole_word n w e l = subst (λ k. part w k 8 ≡ w) (sym e) (at_zero w l)
  where
    at_zero : (w : ℕ) → w < 2 ^ 64 → part w 0 8 ≡ w
    at_zero w l = omega arith

pub past_region : (r : Region) (x : ℕ) → r.start + r.bytes ≤ x → is_inside r x 8 ≡ false
past_region r x l = and_right (nat_le r.start x) (nat_le (x + 8) (r.start + r.bytes)) (lt-leb (x + 8) (r.start + r.bytes) (omega (arith, l)))

skip : (r : Region) (rs : List Region) (x : ℕ) → r.start + r.bytes ≤ x → read (r ∷ rs) x 8 ≡ read rs x 8
skip r rs x l = cond-false (is_inside r x 8) _ _ (past_region r x l)

in_stack : (stack : ℕ) → IsRoom stack → read (stack_region stack ∷ []) 0x3FFFFFF0 8 ≡ Some (code_start + 8)
unfolding stack_region
in_stack stack room =
    let most = room.most in
    let even = room.aligned in
    let i : (0x3FFFFFF0 - (stack_bottom - stack)) / 8 ≡ stack / 8 = omega (arith, most) in
    let z : (0x3FFFFFF0 - (stack_bottom - stack)) % 8 ≡ 0 = omega (arith, most, even) in
    cond-true (is_inside (stack_region stack) 0x3FFFFFF0 8) _ _
    (and_from _ _ (le-leb (stack_bottom - stack) 0x3FFFFFF0 (omega arith))
    (le-leb (0x3FFFFFF0 + 8) (stack_bottom - stack + (stack + 16)) (omega (arith, most))))
    ∙ ap (λ k. Some (part (slice_index (replicate (stack / 8) 0 ++ (code_start + 8) ∷ 0 ∷ []) k) (byte_in (stack_region stack) 0x3FFFFFF0) 8)) i
    ∙ ap (λ w. Some (part w (byte_in (stack_region stack) 0x3FFFFFF0) 8)) (last_word (stack / 8) (code_start + 8) 0)
    ∙ ap Some (whole_word (byte_in (stack_region stack) 0x3FFFFFF0) (code_start + 8) z (omega arith))

-- its first word is the address in the stub that ends the run with an uncaught raise
pub bottom_start : (image : Tables) (stack heap : ℕ) → AreTables image → IsRoom stack → IsRoom heap →
    memory_word (start_memory image stack heap) stack_bottom ≡ code_start + 8
unfolding memory_word uniform data_region domain_region
bottom_start image stack heap tables stack_room heap_room =
    let short = tables.bytes.short in
    let most = heap_room.most in
    ap or_zero
    (skip (data_region image.bytes) (domain_region ∷ uniform (half_start 0) (heap / 8) filler ∷ uniform (half_start 1)
    (heap / 8) filler ∷ uniform young_start 8192 filler ∷ stack_region stack ∷ []) 0x3FFFFFF0 (omega (arith, short))
    ∙ skip domain_region (uniform (half_start 0) (heap / 8) filler ∷ uniform (half_start 1)
    (heap / 8) filler ∷ uniform young_start 8192 filler ∷ stack_region stack ∷ []) 0x3FFFFFF0 (omega arith)
    ∙ skip (uniform (half_start 0) (heap / 8) filler)
    (uniform (half_start 1) (heap / 8) filler ∷ uniform young_start 8192 filler ∷ stack_region stack ∷ []) 0x3FFFFFF0 (omega (arith, most))
    ∙ skip (uniform (half_start 1) (heap / 8) filler) (uniform young_start 8192 filler ∷ stack_region stack ∷ []) 0x3FFFFFF0 (omega (arith, most))
    ∙ skip (uniform young_start 8192 filler) (stack_region stack ∷ []) 0x3FFFFFF0 (omega arith)
    ∙ in_stack stack stack_room)
