-- The service, step by step, on a hart.
use mathlib.Core.Path.{fun_ext}
use Rattle.std.proofs.Common.{◌≡◌, ℕ, zero, suc, ◌+◌, ◌≤◌, Bool, true, false, ◌&&◌, List, ◌++◌, reverse, Option, Some, None, option_map, slice_index, refl, ap, ◌∙◌, sym}
use Rattle.std.specs.List.{list_all}
use Rattle.std.proofs.lemmas.Bool.{cond-true, cond-false, le-leb}
use Rattle.rv_machine.specs.Allocation.{after_request}
use Rattle.rv_machine.specs.Relocation.{Serviced, Goes, NoHeap, Refused, serve_then, are_roots, emptied, is_root_word, with_blocks, with_frames}
use Rattle.rv_machine.specs.Step.{count, with_retired_counted}
use Rattle.rv_machine.specs.Frames.{Frame, frames, registers_of, slots_of}
use Rattle.rv_machine.specs.Hart.{Hart, Placed, past_ecall, register}
use Rattle.rv_machine.specs.Memory.{memory_word}
use Rattle.rv_machine.specs.Observation.{blocks_at, young_blocks}
use Rattle.rv_machine.specs.Placement.{bytes_used, new_places}
use Rattle.rv_machine.specs.declared.cause.Cause.{Cause}
use Rattle.rv_machine.specs.declared.cause.Cause.TheVariants.{BadRoot}
use Rattle.alloc_service.specs.Attempt.{Parts, frames_at, moved_to, roots_at}
use Rattle.alloc_service.specs.Plan.{both_counted, services_counted, with_counts}
use Rattle.alloc_service.specs.Surveyed.{stack_of}
use Rattle.alloc_service.specs.declared.attempt.Caller.{Caller}

-- ---- what a survey has found

pub record Surveyed (o : Option (List Frame)) (g : List Frame → Bool) (b : Bool) : Type 0 where
  pub fs : List Frame
  pub found : o ≡ Some fs
  pub holds : g fs ≡ b

same_roots : (x b : Bool) → stack_of (Some b) ≡ stack_of (Some x) → x ≡ b
same_roots true true e = refl
same_roots false false e = refl
same_roots true false e = absurd (cc)
same_roots false true e = absurd (cc)

pub surveyed_by : (o : Option (List Frame)) (g : List Frame → Bool) (b : Bool) → stack_of (Some b) ≡ stack_of (option_map g o) → Surveyed o g b
surveyed_by None g true e = absurd (cc)
surveyed_by None g false e = absurd (cc)
surveyed_by (Some fs) g b e = record { fs = fs; found = refl; holds = same_roots (g fs) b e }

-- ---- the steps

-- the caller of a service on a hart
abbrev pub caller_of : Hart → Caller
caller_of h = record { number = h.services; base = h.stack_base; heap = h.heap; address = h.pc + 4; sp = slice_index h.registers 2 }

module _ (plan : List Placed → List ℕ) (h : Hart) (found : List Placed) (from : ℕ) (young : young_blocks h.memory from ≡ Some found) (fits : bytes_used (h.blocks ++ reverse found) ≤ h.heap) where
  abbrev pub parts : Parts
  parts = record { registers = h.registers; memory = h.memory; blocks = h.blocks ++ reverse found }

  abbrev entered : Hart
  entered = record h { blocks = h.blocks ++ reverse found }

  to_frames : with_blocks plan h (blocks_at h from) ≡ with_frames plan entered (frames entered)
  to_frames =
      ap (λ o. with_blocks plan h (option_map (λ bs. h.blocks ++ reverse bs) o)) young
      ∙ cond-true _ _ _ (le-leb (bytes_used (h.blocks ++ reverse found)) h.heap fits)

  read_by : slice_index h.registers 0 ≡ 0 → (r : ℕ) → register entered r ≡ slice_index h.registers r
  read_by z zero = sym z
  read_by z (suc r) = refl

  roots_same : slice_index h.registers 0 ≡ 0 → (fs : List Frame) → are_roots entered fs ≡ roots_at h.image parts fs
  roots_same z fs =
      ap (λ (g : ℕ → ℕ). list_all (λ r. is_root_word h.image (h.blocks ++ reverse found) (g r)) (registers_of fs) && list_all (λ a. is_root_word h.image (h.blocks ++ reverse found) (memory_word h.memory a)) (slots_of fs))
      (fun_ext (read_by z))

  pub bad_root :
      slice_index h.registers 0 ≡ 0 → (fs : List Frame) → frames_at h.image (caller_of h) parts ≡ Some fs →
      roots_at h.image parts fs ≡ false → with_counts services_counted (with_blocks plan h (blocks_at h from)) ≡ Refused BadRoot
  unfolding frames
  bad_root z fs e r =
      ap (with_counts services_counted)
      (to_frames ∙ ap (with_frames plan entered) e
      ∙ cond-false (are_roots entered fs) _ _ (roots_same z fs ∙ r))

  pub goes :
      slice_index h.registers 0 ≡ 0 → (fs : List Frame) → frames_at h.image (caller_of h) parts ≡ Some fs →
      roots_at h.image parts fs ≡ true → (new : Parts) →
      new ≡ moved_to h.image (new_places h.heap h.services (h.blocks ++ reverse found) (plan (h.blocks ++ reverse found))) fs parts →
      (services : ℕ) → services ≡ count (suc h.services) →
      with_counts services_counted (with_blocks plan h (blocks_at h from))
      ≡ Goes (record h { registers = new.registers; memory = new.memory; blocks = new.blocks; services = services })
  unfolding frames
  goes z fs e r new is services s =
      let hart : Parts → ℕ → Hart = λ p services. record h { registers = p.registers; memory = p.memory; blocks = p.blocks; services = services } in
      ap (with_counts services_counted)
      (to_frames ∙ ap (with_frames plan entered) e
      ∙ cond-true (are_roots entered fs) _ _ (roots_same z fs ∙ r))
      ∙ ap (λ (p : Parts). Goes (hart p (count (suc h.services)))) (sym is)
      ∙ ap (λ (k : ℕ). Goes (hart new k)) (sym s)

-- ---- what comes after the move

-- the young area is emptied and the ECALL retires
pub requested : (bytes : ℕ) (came : Serviced) (mid : Hart) → with_counts services_counted came ≡ Goes mid
    → with_counts both_counted (serve_then (after_request bytes) came) ≡ Goes (with_retired_counted (past_ecall (emptied bytes mid)))
requested bytes (Goes h) mid e = let same : services_counted h ≡ mid = cc in ap (λ (g : Hart). Goes (with_retired_counted (past_ecall (emptied bytes g)))) same
requested bytes NoHeap mid e = absurd cc
requested bytes (Refused cause) mid e = absurd cc

pub emptied_so : (came : Serviced) (mid : Hart) → with_counts services_counted came ≡ Goes mid
    → with_counts services_counted (serve_then (λ g. Goes (emptied 0 g)) came) ≡ Goes (emptied 0 mid)
emptied_so (Goes h) mid e = let same : services_counted h ≡ mid = cc in ap (λ (g : Hart). Goes (emptied 0 g)) same
emptied_so NoHeap mid e = absurd cc
emptied_so (Refused cause) mid e = absurd cc

-- a service that has ended has ended whatever comes after it
pub no_heap : (counts counts' : Hart → Hart) (next : Hart → Serviced) (came : Serviced) → with_counts counts came ≡ NoHeap → with_counts counts' (serve_then next came) ≡ NoHeap
no_heap counts counts' next (Goes h) e = absurd cc
no_heap counts counts' next NoHeap e = refl
no_heap counts counts' next (Refused cause) e = absurd cc

pub refused : (counts counts' : Hart → Hart) (next : Hart → Serviced) (came : Serviced) (cause : Cause) → with_counts counts came ≡ Refused cause → with_counts counts' (serve_then next came) ≡ Refused cause
refused counts counts' next (Goes h) cause e = absurd cc
refused counts counts' next NoHeap cause e = absurd cc
refused counts counts' next (Refused other) cause e = e
