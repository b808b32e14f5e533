-- How a service moves blocks from their old places to new ones. Every word that is moved or rewritten is
-- read from the old state.
--
-- Named locations and root cells are rewritten first, then old places vacated, then
-- blocks copied. For places outside the heap that order does not show.
use Rattle.std.specs.Prelude.{ℕ, suc, ◌%◌, ◌^◌, Bool, true, false, cond, ◌==◌, nat_lt, List, [], ◌∷◌, map, replicate, slice_index}
use Rattle.rv_machine.specs.Hart.{Placed, with_register}
use Rattle.rv_machine.specs.Memory.{Region, memory_word, write, words_at, put}
use Rattle.rv_machine.specs.Placement.{header_address}
use Rattle.rv_machine.specs.Places.{filler}

-- what a word becomes: a block's old start its new start, and every other word stays
abbrev pub rewritten : List Placed → List Placed → ℕ → ℕ
rewritten [] news w = w
rewritten (o ∷ os) [] w = w
rewritten (o ∷ os) (n ∷ ns) w = cond (w == o.start) n.start (rewritten os ns w)

-- a block with this header has cells that hold values: its tag is below 251
abbrev pub is_scanned : ℕ → Bool
is_scanned header = nat_lt (header % 2 ^ 8) 251

abbrev pub rewritten_cells : Bool → (ℕ → ℕ) → List ℕ → List ℕ
rewritten_cells true f cells = map f cells
rewritten_cells false f cells = cells

-- the words of a block, its header first, as they are copied
abbrev pub rewritten_block : (ℕ → ℕ) → List Region → Placed → List ℕ
rewritten_block f m b =
    let header = memory_word m (header_address b) in
    header ∷ rewritten_cells (is_scanned header) f (words_at m b.start b.words)

-- bytes that were a block's hold nothing
abbrev pub vacated : List Region → List Placed → List Region
vacated m [] = m
vacated m (b ∷ bs) = vacated (put m (header_address b) (replicate (suc b.words) filler)) bs

-- each block is copied from the old memory to its new place
abbrev pub copied : (ℕ → ℕ) → List Region → List Region → List Placed → List Placed → List Region
copied f old m [] news = m
copied f old m (o ∷ os) [] = m
copied f old m (o ∷ os) (n ∷ ns) =
    copied f old (put m (header_address n) (rewritten_block f old o)) os ns

-- the words at these addresses are rewritten
abbrev pub redirected : (ℕ → ℕ) → List Region → List Region → List ℕ → List Region
redirected f old m [] = m
redirected f old m (a ∷ as') = redirected f old (write m a (f (memory_word old a))) as'

-- the memory in which the words at the places are rewritten and the blocks have moved
unfoldable pub moved_memory : List Placed → List Placed → List Region → List ℕ → List Region
moved_memory olds news m places =
    let f = rewritten olds news in
    copied f m (vacated (redirected f m m places) olds) olds news

-- the registers in which those of these numbers are rewritten
abbrev pub redirected_registers : (ℕ → ℕ) → List ℕ → List ℕ → List ℕ → List ℕ
redirected_registers f old [] registers = registers
redirected_registers f old (r ∷ rs) registers =
    redirected_registers f old rs (with_register r (f (slice_index old r)) registers)
