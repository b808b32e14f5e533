-- How a service moves every block: what the allocation service and a frame call have in common.
use Rattle.std.specs.Prelude.{ℕ, suc, ◌+◌, ◌-◌, ◌*◌, ◌%◌, Bool, cond, ◌&&◌, ◌||◌, ◌==◌, nat_lt, nat_le, List, ◌++◌, length, map, Option, Some, None}
use Rattle.std.specs.List.{list_all, list_any}
use Rattle.image_form.specs.Tables.{Tables}
use Rattle.rv_isa.specs.Registers.{s10}
use Rattle.rv_machine.specs.Frames.{Frame, frames, registers_of, slots_of}
use Rattle.rv_machine.specs.Hart.{Hart, Placed, register, with_register}
use Rattle.rv_machine.specs.Memory.{memory_word, write, code_start}
use Rattle.rv_machine.specs.Moving.{rewritten, moved_memory, redirected_registers}
use Rattle.rv_machine.specs.Observation.{young_top}
use Rattle.rv_machine.specs.Placement.{bytes_used, new_places}
use Rattle.rv_machine.specs.Places.{domain_start, limit_at_rest}
use Rattle.bs_words.specs.Fits.{data_start}
use Rattle.rv_machine.specs.declared.cause.Cause.{Cause}
use Rattle.rv_machine.specs.declared.cause.Cause.TheVariants.{BadRequest, BadFrame, BadRoot}

-- What comes of a service that moves the blocks.
pub data Serviced : Type 0 where
  Goes : (h : Hart) → Serviced
  NoHeap : Serviced
  Refused : (cause : Cause) → Serviced

abbrev pub serve_then : (Hart → Serviced) → Serviced → Serviced
serve_then next (Goes h) = next h
serve_then next NoHeap = NoHeap
serve_then next (Refused cause) = Refused cause

-- ---- what a named location may hold

abbrev pub is_start : List Placed → ℕ → Bool
is_start blocks w = list_any (λ (b : Placed). b.start == w) blocks

-- a word from the data's start to its end, the end included
abbrev pub is_in_data : Tables → ℕ → Bool
is_in_data image w = nat_le data_start w && nat_le w (data_start + length image.bytes)

abbrev pub is_in_code : Tables → ℕ → Bool
is_in_code image w = nat_le code_start w && nat_lt w (code_start + 4 * length image.code)

abbrev pub is_root_word : Tables → List Placed → ℕ → Bool
is_root_word image blocks w =
    (w % 2 == 1) || is_start blocks w || is_in_data image w || is_in_code image w

abbrev pub are_roots : Hart → List Frame → Bool
are_roots h fs =
    list_all (λ r. is_root_word h.image h.blocks (register h r)) (registers_of fs)
    && list_all (λ a. is_root_word h.image h.blocks (memory_word h.memory a)) (slots_of fs)

-- ---- the move

-- the addresses of the root cells
abbrev pub root_addresses : Tables → List ℕ
root_addresses image = map (λ offset. data_start + offset) image.roots

-- The blocks have moved. Named registers, named slots, root cells and the cells of scanned blocks have the
-- new starts. The bytes that the blocks have left are filler, and no other word has changed.
abbrev pub relocated : List Placed → List Frame → Hart → Hart
relocated news fs h =
    let f = rewritten h.blocks news in
    let places = slots_of fs ++ root_addresses h.image in
    record h {
      registers = redirected_registers f h.registers (registers_of fs) h.registers;
      memory = moved_memory h.blocks news h.memory places;
      blocks = news;
      services = suc h.services;
    }

-- The mover asks no more, and the young area is empty but for so many bytes below its top.
abbrev pub emptied : ℕ → Hart → Hart
emptied bytes h = record h {
  registers = with_register s10 (young_top - bytes) h.registers;
  memory = write h.memory domain_start limit_at_rest;
}

-- ---- the order

-- third, the named locations; then the move, to where the plan for these blocks says
abbrev pub with_frames : (List Placed → List ℕ) → Hart → Option (List Frame) → Serviced
with_frames plan h None = Refused BadFrame
with_frames plan h (Some fs) =
    cond (are_roots h fs) (Goes (relocated (new_places h.heap h.services h.blocks (plan h.blocks)) fs h)) (Refused BadRoot)

-- first, whether all blocks fit a half; second, the stack. All blocks, those of the young area included, are
-- then in the table.
abbrev pub with_blocks : (List Placed → List ℕ) → Hart → Option (List Placed) → Serviced
with_blocks plan h None = Refused BadRequest
with_blocks plan h (Some blocks) =
    let g = record h { blocks = blocks } in
    cond (nat_le (bytes_used blocks) h.heap) (with_frames plan g (frames g)) NoHeap
