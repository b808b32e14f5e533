-- Where the blocks of the heap lie, and where a service puts them.
use Rattle.std.specs.Prelude.{ℕ, ◌+◌, ◌-◌, ◌*◌, ◌/◌, ◌%◌, Bool, true, false, cond, ◌&&◌, ◌||◌, ◌==◌, nat_le, List, [], ◌∷◌, length, reverse}
use Rattle.std.specs.List.{list_all}
use Rattle.rv_machine.specs.Hart.{Placed}
use Rattle.rv_machine.specs.Places.{half_start, most_room}

-- ---- one block

-- the address of its header
abbrev pub header_address : Placed → ℕ
header_address b = b.start - 8

-- the address after its last cell
abbrev pub block_end : Placed → ℕ
block_end b = b.start + 8 * b.words

-- its bytes, with those of its header
abbrev pub bytes_of : Placed → ℕ
bytes_of b = 8 + 8 * b.words

-- the bytes of all blocks
abbrev pub bytes_used : List Placed → ℕ
bytes_used [] = 0
bytes_used (b ∷ bs) = bytes_of b + bytes_used bs

-- ---- new places

-- the blocks at these starts; a block past the last start keeps its own
abbrev pub placed_at : List Placed → List ℕ → List Placed
placed_at [] starts = []
placed_at (b ∷ bs) [] = b ∷ bs
placed_at (b ∷ bs) (s ∷ starts) = record b { start = s } ∷ placed_at bs starts

-- the starts of blocks that lie one after the other from an address on, with a gap before each
abbrev pub spaced : ℕ → ℕ → List Placed → List ℕ
spaced gap at [] = []
spaced gap at (b ∷ bs) = (at + gap + 8) ∷ spaced gap (at + gap + bytes_of b) bs

-- without gaps from the start of a half: of half 0 at services with an even number
abbrev pub packed : ℕ → List Placed → List ℕ
packed number blocks = spaced 0 (half_start (number % 2)) blocks

-- ---- plans: a new start for each block, by serial

-- a block lies inside one half, header and all
abbrev pub is_in_half : ℕ → ℕ → Placed → Bool
is_in_half heap k b = nat_le (half_start k + 8) b.start && nat_le (block_end b) (half_start k + heap)

abbrev pub is_in_heap : ℕ → Placed → Bool
is_in_heap heap b = (b.start % 8 == 0) && (is_in_half heap 0 b || is_in_half heap 1 b)

-- no byte is of both blocks
abbrev pub is_apart : Placed → Placed → Bool
is_apart a b = nat_le (block_end a + 8) b.start || nat_le (block_end b + 8) a.start

abbrev pub are_apart : List Placed → Bool
are_apart [] = true
are_apart (b ∷ bs) = list_all (is_apart b) bs && are_apart bs

-- A plan is valid block by block: each lies in one half, header and all, and none overlaps another.
abbrev pub is_valid : ℕ → List Placed → List ℕ → Bool
is_valid heap blocks starts =
    (length starts == length blocks) && list_all (is_in_heap heap) (placed_at blocks starts)
    && are_apart (placed_at blocks starts)

-- the blocks where the service of this number puts them: by the plan where it is valid, else packed
abbrev pub new_places : ℕ → ℕ → List Placed → List ℕ → List Placed
new_places heap number blocks plan =
    placed_at blocks (cond (is_valid heap blocks plan) plan (packed number blocks))

-- ---- the plan that is drawn from a random word

abbrev pub starts_in_order : Bool → ℕ → ℕ → List Placed → List ℕ
starts_in_order true gap at blocks = spaced gap at blocks
starts_in_order false gap at blocks = reverse (spaced gap at (reverse blocks))

-- the bytes of blocks that lie one after the other, with a gap before each
abbrev pub bytes_spaced : ℕ → List Placed → ℕ
bytes_spaced gap blocks = gap * length blocks + bytes_used blocks

-- The lowest bit has the half, the next one whether serials rise or fall from the half's start on, and the
-- two from the third on the words of the gap before each block. A plan that would run past the largest half
-- is no plan: there the halves meet, and it would run on into the other one.
abbrev pub drawn_plan : ℕ → List Placed → List ℕ
drawn_plan drawn blocks =
    let gap : ℕ = 8 * (drawn / 4 % 4) in
    cond (nat_le (bytes_spaced gap blocks) most_room)
    (starts_in_order (drawn / 2 % 2 == 0) gap (half_start (drawn % 2)) blocks) []
