-- The table of marks while a service moves blocks: at the old start of each block it has the new one.
use Rattle.std.specs.Prelude.{◌≡◌, ℕ, zero, suc, ◌+◌, ◌*◌, ◌<◌, ◌≤◌, ◌%◌, Bool, true, false, cond, not, ◌&&◌, ◌||◌, ◌==◌, nat_le, nat_lt, List, [], ◌∷◌, slice_index, take, drop, ◌^◌, Some, IsSome}
use Rattle.std.specs.List.{list_all, list_any, flat_map}
use Rattle.image_form.specs.Tables.{Desc, Tables}
use Rattle.rv_machine.specs.Relocation.{is_in_data, is_in_code}
use Rattle.rv_machine.specs.Frames.{Frame, frames_from, most_frames, registers_of, slots_of}
use Rattle.rv_machine.specs.Hart.{Placed, with_register}
use Rattle.rv_machine.specs.Marks.{Marks, mark_at, mark_index}
use Rattle.rv_machine.specs.Memory.{Region, memory_word, write, put}
use Rattle.rv_machine.specs.Moving.{rewritten_block}
use Rattle.rv_machine.specs.Placement.{header_address, block_end}

-- ---- marks

-- the new start of the block that starts at an address; 0 where none does
abbrev pub forwarded : List Placed → List ℕ → ℕ → ℕ
forwarded [] starts w = 0
forwarded (b ∷ bs) [] w = 0
forwarded (b ∷ bs) (s ∷ starts) w = cond (w == b.start) s (forwarded bs starts w)

pub record IsForward (table : Marks) (blocks : List Placed) (starts : List ℕ) : Type 0 where
  pub each : (w : ℕ) → mark_at table w ≡ forwarded blocks starts w

abbrev pub mark_or : ℕ → ℕ → ℕ
mark_or zero w = w
mark_or (suc n) w = suc n

-- what the table makes of a word
unfoldable pub forward : Marks → ℕ → ℕ
forward table w = mark_or (mark_at table w) w

-- ---- what a named location may hold, by the table

abbrev pub root_by : Tables → Marks → ℕ → Bool
root_by image table w = (w % 2 == 1) || not (mark_at table w == 0) || is_in_data image w || is_in_code image w

-- the locations that frames name are roots; registers count where the first frame is among these (`first`)
abbrev pub roots_by : (ℕ → Bool) → List ℕ → List Region → Bool → List Frame → Bool
roots_by test registers m first fs =
    cond first (list_all (λ r. test (slice_index registers r)) (registers_of fs)) true
    && list_all (λ a. test (memory_word m a)) (slots_of fs)

-- ---- words that move

-- the words at these addresses are rewritten, each as it is when its turn comes
abbrev pub redirected_now : (ℕ → ℕ) → List Region → List ℕ → List Region
redirected_now f m [] = m
redirected_now f m (a ∷ as') = redirected_now f (write m a (f (memory_word m a))) as'

-- the places that the frames from a return address and a stack pointer on name are rewritten
pub record Redirects (f : ℕ → ℕ) (descs : List Desc) (base : ℕ) (old new : List Region) (address sp : ℕ) : Type 0 where
  pub each :
      (fs : List Frame) → frames_from (most_frames base) descs base old true address sp ≡ Some fs →
      new ≡ redirected_now f old (slots_of fs)

-- the same of registers; x0 stays
abbrev pub redirected_registers_now : (ℕ → ℕ) → List ℕ → List ℕ → List ℕ
redirected_registers_now f registers [] = registers
redirected_registers_now f registers (r ∷ rs) =
    redirected_registers_now f (with_register r (f (slice_index registers r)) registers) rs

-- the words, as many as each block has with its header, poured to the blocks' places one after the other
abbrev pub poured : List Region → List ℕ → List Placed → List Region
poured m words [] = m
poured m words (b ∷ bs) = poured (put m (header_address b) (take (suc b.words) words)) (drop (suc b.words) words) bs

-- the words of all blocks, as they are copied
abbrev pub words_moved : (ℕ → ℕ) → List Region → List Placed → List ℕ
words_moved f m blocks = flat_map (rewritten_block f m) blocks

-- so many words of all blocks
abbrev pub words_of_blocks : List Placed → ℕ
words_of_blocks [] = 0
words_of_blocks (b ∷ bs) = suc b.words + words_of_blocks bs

-- ---- claims

-- an address lies in a block, header and all
abbrev pub covers : ℕ → Placed → Bool
covers a b = nat_le (header_address b) a && nat_lt a (block_end b)

abbrev pub is_covered : List Placed → ℕ → Bool
is_covered blocks a = list_any (covers a) blocks

-- nothing is marked but what the blocks cover
pub record MarksWithin (table : Marks) (blocks : List Placed) : Type 0 where
  pub each : (a : ℕ) → is_covered blocks a ≡ false → mark_at table a ≡ 0

-- ---- what is known of blocks

-- how large a block may be: no more than an area of the machine
pub record IsSmall (b : Placed) : Type 0 where
  pub some : 1 ≤ b.words
  pub most : b.words ≤ 2 ^ 24

-- a block lies in the heap or in the young area, so that the table has a place for its start
pub record IsPlaced (heap : ℕ) (b : Placed) : Type 0 where
  pub place : IsSome (mark_index heap b.start)
  pub small : IsSmall b

-- a block whose addresses are far below 2 ^ 64
pub record IsLow (b : Placed) : Type 0 where
  pub low : b.start + 8 * b.words < 2 ^ 63
  pub high : 8 ≤ b.start
  pub some : 1 ≤ b.words

-- the registers that the first of the frames names are rewritten
pub record RedirectsFirst (f : ℕ → ℕ) (descs : List Desc) (base : ℕ) (memory : List Region) (old new : List ℕ) (address sp : ℕ) : Type 0 where
  pub each :
      (fs : List Frame) → frames_from (most_frames base) descs base memory true address sp ≡ Some fs →
      new ≡ redirected_registers_now f old (registers_of fs)
