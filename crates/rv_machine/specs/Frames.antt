-- The walk up the stack: the frames of the functions that have not returned, and what they name.
--
-- The walk is bounded by the stack's bytes divided by 16, which no stack comes to. Sums may wrap: with
-- sizes of 32 bits the first frame's sum can come round into the stack, so what is visited is stated from
-- the stack's base.
use Rattle.std.specs.Prelude.{ℕ, zero, suc, ◌+◌, ◌-◌, ◌/◌, ◌%◌, Bool, true, false, cond, not, ◌&&◌, ◌||◌, ◌==◌, nat_le, List, [], ◌∷◌, ◌++◌, Option, Some, None, find, option_map, option_and_then}
use Rattle.std.specs.List.{list_any, list_all}
use Rattle.bs_words.specs.Word.{add_word}
use Rattle.image_form.specs.Tables.{Desc}
use Rattle.rv_isa.specs.Registers.{sp}
use Rattle.rv_machine.specs.Hart.{Hart, register}
use Rattle.rv_machine.specs.Memory.{Region, memory_word, code_start}
use Rattle.rv_machine.specs.Places.{stack_end}

-- A frame: its lowest address, and the descriptor of the place to which its callee returns.
pub record Frame : Type 0 where
  pub at : ℕ
  pub desc : Desc

-- the descriptor of a return address
abbrev pub descriptor_at : List Desc → ℕ → Option Desc
descriptor_at descs address = find (λ (d : Desc). code_start + d.after == address) descs

-- a word of the stack: 8 bytes at a multiple of 8 that lie whole in the stack's region
abbrev pub is_stack_word : ℕ → ℕ → Bool
is_stack_word base address =
    (address % 8 == 0) && nat_le base address && nat_le (address + 8) stack_end

-- ---- entries: an odd one, 2r + 1, names register r, and an even one a place at that offset in the frame

abbrev pub is_register : ℕ → Bool
is_register entry = entry % 2 == 1

abbrev pub names_register : List ℕ → Bool
names_register entries = list_any is_register entries

-- the registers that entries name
abbrev pub registers_named : List ℕ → List ℕ
registers_named [] = []
registers_named (e ∷ es) = cond (is_register e) (e / 2 ∷ registers_named es) (registers_named es)

-- the addresses that entries name in a frame
abbrev pub slots_named : ℕ → List ℕ → List ℕ
slots_named at [] = []
slots_named at (e ∷ es) =
    cond (is_register e) (slots_named at es) (add_word at e ∷ slots_named at es)

-- ---- the walk

-- where the return address lies: in the highest 8 bytes of the frame
abbrev pub return_slot : ℕ → Desc → ℕ
return_slot at d = add_word at (d.size - 8)

-- a frame that lies in the stack; registers are named in the first one alone
abbrev pub is_frame : Bool → ℕ → ℕ → Desc → Bool
is_frame first base at d =
    (first || not (names_register d.entries)) && is_stack_word base (return_slot at d)
    && list_all (is_stack_word base) (slots_named at d.entries)

abbrev pub frame_then : Bool → ℕ → Desc → Option (List Frame) → Option (List Frame)
frame_then fits at d rest =
    cond fits (option_map (λ fs. record { at = at; desc = d } ∷ fs) rest) None

-- The frames from a return address and a stack pointer up to the stub's address, the lowest first; none
-- where a return address has no descriptor, a frame does not lie in the stack or names a register too
-- late. A frame has 16 bytes at least, so that no stack has more of them than the bound allows.
abbrev pub frames_from : ℕ → List Desc → ℕ → List Region → Bool → ℕ → ℕ → Option (List Frame)
frames_from zero descs base memory first address at = None
frames_from (suc most) descs base memory first address at =
    cond (address == code_start) (Some [])
    (option_and_then
    (λ d. frame_then (is_frame first base at d) at d (frames_from most descs base memory false (memory_word memory (return_slot at d)) (add_word at d.size)))
    (descriptor_at descs address))

-- the most frames that a stack holds, and one
abbrev pub most_frames : ℕ → ℕ
most_frames base = suc ((stack_end - base) / 16)

-- the frames of a machine that is at a service: the innermost one returns after the ECALL
unfoldable pub frames : Hart → Option (List Frame)
frames h =
    frames_from (most_frames h.stack_base) h.image.descs h.stack_base h.memory true (h.pc + 4)
    (register h sp)

-- ---- the locations that frames name

abbrev pub registers_of : List Frame → List ℕ
registers_of [] = []
registers_of (f ∷ fs) = registers_named f.desc.entries

abbrev pub slots_of : List Frame → List ℕ
slots_of [] = []
slots_of (f ∷ fs) = slots_named f.at f.desc.entries ++ slots_of fs
