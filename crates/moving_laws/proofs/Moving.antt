-- The two services that move the blocks, each as a whole, under any plan.
use Rattle.std.proofs.Common.{◌≡◌, ℕ, suc, ◌+◌, ◌<◌, ◌≤◌, true, List, ◌∷◌, ◌++◌, reverse, refl, ap, ◌∙◌, subst}
use Rattle.std.proofs.lemmas.Bool.{cond-true}
use Rattle.rv_isa.specs.Registers.{s10}
use Rattle.rv_machine.specs.Allocation.{after_request, allocation_served, bytes_asked, is_request, young_from}
use Rattle.rv_machine.specs.FrameCalls.{collected}
use Rattle.rv_machine.specs.Frames.{Frame}
use Rattle.rv_machine.specs.Hart.{Hart, Placed, register}
use Rattle.rv_machine.specs.Observation.{blocks_at}
use Rattle.rv_machine.specs.Placement.{bytes_used}
use Rattle.rv_machine.specs.Relocation.{Goes, NoHeap, serve_then, emptied, with_blocks}
use Rattle.rv_machine.specs.Sound.{IsSoundService}
use Rattle.machine_laws.proofs.Serving.{allocated_sound, collected_sound}
use Rattle.moving_laws.specs.Service.{Contents, Knows, IsServiceReady, IsAllocationServed, IsCollected}
use Rattle.moving_laws.proofs.Serves.{after, blocks_found, is_moved, no_room, restores}

module _ (h : Hart) (young : List Placed) (f : Frame) (fs : List Frame) (holds : Contents)
    (knows : Knows (h.blocks ++ reverse young) h (f ∷ fs) holds (h.pc + 4)) (plan : List Placed → List ℕ) where
  -- ---- the allocation service

  module _ (request : is_request (bytes_asked h) ≡ true) (ready : IsServiceReady h (young_from h) young f holds.registers) where
    pub allocates : bytes_used (h.blocks ++ reverse young) ≤ h.heap → IsAllocationServed plan h f fs holds
    unfolding allocation_served
    allocates fits =
        let new : Hart = after h (young_from h) young f fs holds knows ready fits plan (bytes_asked h) (h.pc + 4) (suc h.retired) in
        let is : allocation_served plan h ≡ Goes new =
        ap (λ o. serve_then (after_request (bytes_asked h)) (with_blocks plan h o))
        (cond-true (is_request (bytes_asked h)) (blocks_at h (young_from h)) _ request)
        ∙ ap (serve_then (after_request (bytes_asked h))) (is_moved h (young_from h) young f fs holds knows ready fits plan) in
        record {
          new = new;
          is = is;
          restored = restores h (young_from h) young f fs holds knows ready fits plan (bytes_asked h) (h.pc + 4) (suc h.retired)
              (subst IsSoundService is (allocated_sound plan h knows.sound));
          pc = refl;
          retired = refl;
        }

    -- where there is no room for the blocks the run is out of heap
    pub allocates_not : h.heap < bytes_used (h.blocks ++ reverse young) → allocation_served plan h ≡ NoHeap
    unfolding allocation_served
    allocates_not l =
        ap (λ o. serve_then (after_request (bytes_asked h)) (with_blocks plan h o))
        (cond-true (is_request (bytes_asked h)) (blocks_at h (young_from h)) _ request)
        ∙ ap (λ o. serve_then (after_request (bytes_asked h)) (with_blocks plan h o)) (blocks_found h (young_from h) young f holds.registers knows.sound ready)
        ∙ ap (serve_then (after_request (bytes_asked h))) (no_room plan h (h.blocks ++ reverse young) l)

  -- ---- the move of a frame call

  module _ (ready : IsServiceReady h (register h s10) young f holds.registers) where
    pub collects : bytes_used (h.blocks ++ reverse young) ≤ h.heap → IsCollected plan h f fs holds
    collects fits =
        let new : Hart = after h (register h s10) young f fs holds knows ready fits plan 0 h.pc h.retired in
        let is : collected plan h ≡ Goes new =
        ap (serve_then (λ g. Goes (emptied 0 g))) (is_moved h (register h s10) young f fs holds knows ready fits plan) in
        record {
          new = new;
          is = is;
          restored = restores h (register h s10) young f fs holds knows ready fits plan 0 h.pc h.retired
              (subst IsSoundService is (collected_sound plan h knows.sound));
          pc = refl;
          retired = refl;
        }

    pub collects_not : h.heap < bytes_used (h.blocks ++ reverse young) → collected plan h ≡ NoHeap
    collects_not l =
        ap (λ o. serve_then (λ g. Goes (emptied 0 g)) (with_blocks plan h o)) (blocks_found h (register h s10) young f holds.registers knows.sound ready)
        ∙ ap (serve_then (λ g. Goes (emptied 0 g))) (no_room plan h (h.blocks ++ reverse young) l)
