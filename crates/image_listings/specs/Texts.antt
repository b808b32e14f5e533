-- The texts of an image: its frame descriptors, and the words of its code, a line for each.
use Rattle.std.specs.Prelude.{ℕ, zero, suc, ◌+◌, ◌/◌, ◌%◌, ◌==◌, cond, false, List, [], ◌∷◌, ◌++◌, codes}
use Rattle.std.specs.Fmt.{decimal, digit_glyph}
use Rattle.std.specs.List.{flat_map}
use Rattle.mach_ir.specs.Words.{register_name}
use Rattle.image_form.specs.Tables.{Desc, Tables}
use Rattle.rv_machine.specs.Memory.{code_start}

-- ---- numbers

-- the last so many hexadecimal digits of a number, with small letters
abbrev pub last_digits : ℕ → ℕ → List ℕ
last_digits zero n = []
last_digits (suc count) n = last_digits count (n / 16) ++ digit_glyph false (n % 16) ∷ []

-- a number below 2 ^ 32 in eight hexadecimal digits
unfoldable pub eight_digits : ℕ → List ℕ
eight_digits n = last_digits 8 n

-- ---- frame descriptors

-- as `a0` for a register, and as `[8]` for a place of the frame by its offset from the stack pointer
unfoldable pub entry_text : ℕ → List ℕ
entry_text entry =
    cond (entry % 2 == 1) (register_name (entry / 2)) (codes "[" ++ decimal entry ++ codes "]")

-- each entry after a space
abbrev pub entries_text : List ℕ → List ℕ
entries_text entries = flat_map (λ entry. codes " " ++ entry_text entry) entries

-- The return address, the bytes of the frame, and the entries: as `00010034 16 s2 [8]`.
unfoldable pub desc_line : Desc → List ℕ
desc_line d =
    eight_digits (code_start + d.after) ++ codes " " ++ decimal d.size ++ entries_text d.entries ++ codes "\n"

abbrev pub frames_text : Tables → List ℕ
frames_text t = flat_map desc_line t.descs

-- ---- code

-- a word after its address: as `00010004 00000073`
unfoldable pub word_line : ℕ → ℕ → List ℕ
word_line address word = eight_digits address ++ codes " " ++ eight_digits word ++ codes "\n"

-- the words from an address on
abbrev pub words_text : ℕ → List ℕ → List ℕ
words_text address [] = []
words_text address (w ∷ ws) = word_line address w ++ words_text (address + 4) ws

abbrev pub code_text : Tables → List ℕ
code_text t = words_text code_start t.code
