-- The memory of the machine: regions of 64-bit words, and accesses of 1, 2, 4 or 8 bytes.
--
-- Numbers are little-endian. An access is at a multiple of its width and lies whole inside one region.
--
-- Each width is a part of an aligned word. A list of bytes would cost many lines for each law.
use Rattle.std.specs.Prelude.{ℕ, zero, suc, ◌+◌, ◌-◌, ◌*◌, ◌/◌, ◌%◌, ◌^◌, Bool, cond, ◌&&◌, ◌==◌, nat_le, List, [], ◌∷◌, Option, Some, None, slice_index, slice_set, option_map, length}
use Rattle.bs_words.specs.Memory.{part, replaced}

pub record Region : Type 0 where
  -- the first address, a multiple of 8
  pub start : ℕ
  pub bytes : ℕ
  -- the words from the start on; the last one may reach past the end
  pub words : List ℕ

-- `width` bytes at an address lie whole inside a region
abbrev pub is_inside : Region → ℕ → ℕ → Bool
is_inside r address width = nat_le r.start address && nat_le (address + width) (r.start + r.bytes)

-- the place of an address: its word's index in the region, and its byte in the word
abbrev pub index_in : Region → ℕ → ℕ
index_in r address = (address - r.start) / 8

abbrev pub byte_in : Region → ℕ → ℕ
byte_in r address = (address - r.start) % 8

abbrev pub with_written : Region → ℕ → ℕ → ℕ → Region
with_written r address width value =
    let i = index_in r address in
    record r { words = slice_set r.words i (replaced (slice_index r.words i) (byte_in r address) width value) }

-- the bytes at an address, as a number, where a region has them
abbrev pub read : List Region → ℕ → ℕ → Option ℕ
read [] address width = None
read (r ∷ rs) address width =
    cond (is_inside r address width)
    (Some (part (slice_index r.words (index_in r address)) (byte_in r address) width))
    (read rs address width)

-- the regions with those bytes written, where one of them has them
abbrev pub written : List Region → ℕ → ℕ → ℕ → Option (List Region)
written [] address width value = None
written (r ∷ rs) address width value =
    cond (is_inside r address width)
    (Some (with_written r address width value ∷ rs))
    (option_map (λ rest. r ∷ rest) (written rs address width value))

-- ---- aligned accesses

abbrev pub loaded_number : List Region → ℕ → ℕ → Option ℕ
loaded_number regions address width = cond (address % width == 0) (read regions address width) None

abbrev pub stored_number : List Region → ℕ → ℕ → ℕ → Option (List Region)
stored_number regions address width value =
    cond (address % width == 0) (written regions address width value) None

-- ---- words at multiples of 8

abbrev pub or_zero : Option ℕ → ℕ
or_zero None = 0
or_zero (Some memory_word) = memory_word

-- the word at an address; 0 where there is none
unfoldable pub memory_word : List Region → ℕ → ℕ
memory_word m address = or_zero (loaded_number m address 8)

abbrev pub memory_or : List Region → Option (List Region) → List Region
memory_or old None = old
memory_or old (Some new) = new

-- the memory with a word written at an address; nothing changes where there is no word
unfoldable pub write : List Region → ℕ → ℕ → List Region
write m address value = memory_or m (stored_number m address 8 value)

-- so many words from an address on
abbrev pub words_at : List Region → ℕ → ℕ → List ℕ
words_at m address zero = []
words_at m address (suc n) = memory_word m address ∷ words_at m (address + 8) n

-- the memory with those words written from an address on
abbrev pub put : List Region → ℕ → List ℕ → List Region
put m address [] = m
put m address (w ∷ ws) = put (write m address w) (address + 8) ws

-- ---- words of bytes, and of instruction words

-- the number of bytes, the lowest first
abbrev pub number_from_bytes : List ℕ → ℕ
number_from_bytes [] = 0
number_from_bytes (b ∷ bs) = b + 256 * number_from_bytes bs

-- the 64-bit words of bytes; past the end the last one has zeros
abbrev pub words_of_bytes : List ℕ → List ℕ
words_of_bytes [] = []
words_of_bytes (a ∷ b ∷ c ∷ d ∷ e ∷ f ∷ g ∷ h ∷ rest) =
    number_from_bytes (a ∷ b ∷ c ∷ d ∷ e ∷ f ∷ g ∷ h ∷ []) ∷ words_of_bytes rest
words_of_bytes bytes = number_from_bytes bytes ∷ []

-- the 64-bit words of words of 32 bits
abbrev pub words_of_halves : List ℕ → List ℕ
words_of_halves [] = []
words_of_halves (low ∷ []) = low ∷ []
words_of_halves (low ∷ high ∷ rest) = (low + 2 ^ 32 * high) ∷ words_of_halves rest

-- where code begins
abbrev pub code_start : ℕ
code_start = 0x00010000

-- the code as a region, which is read and never written
abbrev pub code_region : List ℕ → Region
code_region code =
    record { start = code_start; bytes = 4 * length code; words = words_of_halves code }
