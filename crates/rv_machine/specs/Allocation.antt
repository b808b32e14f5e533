-- The allocation service: service 3, of t0 bytes.
--
-- Compiled code has taken the bytes off s10 before it asks. The service takes the young blocks into the
-- table and moves every block, so that the young area is empty but for what is asked for.
use Rattle.std.specs.Prelude.{ℕ, ◌%◌, Bool, cond, ◌&&◌, ◌==◌, nat_le, List, Option, None}
use Rattle.bs_words.specs.Word.{add_word}
use Rattle.rv_isa.specs.Registers.{s10, t0}
use Rattle.rv_machine.specs.Hart.{Hart, Placed, past_ecall, register}
use Rattle.rv_machine.specs.Observation.{blocks_at}
use Rattle.rv_machine.specs.Relocation.{Serviced, Goes, serve_then, emptied, with_blocks}

abbrev pub bytes_asked : Hart → ℕ
bytes_asked h = register h t0

-- where the young blocks begin: s10 before the bytes were taken off it
abbrev pub young_from : Hart → ℕ
young_from h = add_word (register h s10) (bytes_asked h)

abbrev pub is_request : ℕ → Bool
is_request bytes = (bytes % 8 == 0) && nat_le 16 bytes && nat_le bytes 2056

-- all blocks where the request is a right one
abbrev pub blocks_at_request : Hart → Option (List Placed)
blocks_at_request h = cond (is_request (bytes_asked h)) (blocks_at h (young_from h)) None

-- what was asked for lies below the young area's top, and the ECALL has retired
abbrev pub after_request : ℕ → Hart → Serviced
after_request bytes h = Goes (past_ecall (emptied bytes h))

-- As `moved_memory`, `frames` and `hart` it is opened by name alone, so that goals over it stay short
-- elsewhere.
unfoldable pub allocation_served : (List Placed → List ℕ) → Hart → Serviced
allocation_served plan h =
    serve_then (after_request (bytes_asked h)) (with_blocks plan h (blocks_at_request h))
