-- What the later steps of a service come to, on the parts of a machine.
use Rattle.std.specs.Prelude.{◌≡◌, ℕ, ◌/◌, ◌≤◌, Bool, true, false, ◌&&◌, List, [], ◌++◌, length, slice_index, Option, Some, None}
use Rattle.std.specs.List.{list_all}
use Rattle.std.specs.Vec.{vec_capacity}
use Rattle.image_form.specs.Tables.{Tables}
use Rattle.rv_machine.specs.Relocation.{is_root_word, root_addresses}
use Rattle.rv_machine.specs.Frames.{Frame, frames_from, most_frames, registers_of, slots_of}
use Rattle.rv_machine.specs.Hart.{Placed}
use Rattle.rv_machine.specs.Memory.{Region, memory_word}
use Rattle.rv_machine.specs.Moving.{moved_memory, redirected_registers, rewritten}
use Rattle.rv_machine.specs.Placement.{is_in_heap, new_places, placed_at}
use Rattle.rv_machine.specs.declared.space.Space.{Space}
use Rattle.alloc_service.specs.Forward.{IsForward}
use Rattle.alloc_service.specs.Plan.{plan_of}
use Rattle.alloc_service.specs.declared.attempt.Caller.{Caller}
use Rattle.alloc_service.specs.declared.roots.Stack.{Stack}
use Rattle.alloc_service.specs.declared.roots.Stack.TheVariants.{NoFrames, BadRoot, Fine}
use Rattle.alloc_service.specs.declared.plan.Plan.{Plan}

-- The parts of a machine that a service reads and changes.
pub record Parts : Type 0 where
  pub registers : List ℕ
  pub memory : List Region
  pub blocks : List Placed

abbrev pub parts : List ℕ → List Region → List Placed → Parts
parts registers memory blocks = record { registers = registers; memory = memory; blocks = blocks }

-- where the caller's service puts the blocks by a plan
abbrev pub planned : Plan → Caller → List Placed → List Placed
planned plan caller blocks = new_places caller.heap caller.number blocks (plan_of plan blocks)

-- the frames of the caller
abbrev pub frames_at : Tables → Caller → Parts → Option (List Frame)
frames_at image caller p =
    frames_from (most_frames caller.base) image.descs caller.base p.memory true caller.address caller.sp

abbrev pub roots_at : Tables → Parts → List Frame → Bool
roots_at image p fs =
    list_all (λ r. is_root_word image p.blocks (slice_index p.registers r)) (registers_of fs)
    && list_all (λ a. is_root_word image p.blocks (memory_word p.memory a)) (slots_of fs)

-- the parts once the blocks have moved
abbrev pub moved_to : Tables → List Placed → List Frame → Parts → Parts
moved_to image news fs p = record {
  registers = redirected_registers (rewritten p.blocks news) p.registers (registers_of fs) p.registers;
  memory = moved_memory p.blocks news p.memory (slots_of fs ++ root_addresses image);
  blocks = news;
}

-- the blocks have moved, where the caller has frames
abbrev pub MovesForCaller : Tables → Caller → List Placed → Parts → Parts → Type 0
MovesForCaller image caller news old new =
    (fs : List Frame) → frames_at image caller old ≡ Some fs → new ≡ moved_to image news fs old

-- what a service comes to from the stack walk on
abbrev pub Tries : Stack → Tables → Caller → List Placed → Parts → Parts → Type 0
Tries NoFrames image caller news old new = (frames_at image caller old ≡ None) × (new ≡ old)
Tries Fine image caller news old new =
    (fs : List Frame) × (frames_at image caller old ≡ Some fs) × (roots_at image old fs ≡ true)
    × (new ≡ moved_to image news fs old)
Tries BadRoot image caller news old new =
    (fs : List Frame) × (frames_at image caller old ≡ Some fs) × (roots_at image old fs ≡ false) × (new ≡ old)

-- The space with the new starts of the blocks, each marked at the block's old start.
pub record IsPrepared (heap : ℕ) (blocks news : List Placed) (space : Space) : Type 0 where
  pub of_heap : space.table.heap ≡ heap
  pub forward : IsForward space.table blocks space.starts.items
  pub lengths : length space.starts.items ≡ length blocks
  pub chosen : placed_at blocks space.starts.items ≡ news
  pub inside : list_all (is_in_heap heap) news ≡ true
  pub no_young : space.young.items ≡ []
  pub no_words : space.words.items ≡ []
  pub young : 4097 ≤ vec_capacity space.young
  pub starts : heap / 16 ≤ vec_capacity space.starts
  pub words : heap / 8 ≤ vec_capacity space.words
