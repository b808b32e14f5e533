-- Bytes of which no image is read are the spelling of none.
use Rattle.std.proofs.Common.{◌≡◌, ℕ, ◌+◌, ◌*◌, ◌≤◌, List, ◌++◌, length, length-append, Ok, Err, refl, sym, ap, ◌∙◌, arith}
use Rattle.std.specs.Prelude.{codes}
use Rattle.std.specs.List.{flat_map}
use Rattle.bs_words.specs.Fits.{data_limit}
use Rattle.bs_fault.specs.declared.image.ImageRefusal.{ImageRefusal}
use Rattle.image_codec.proofs.ImageLaws.{is_read}
use Rattle.image_form.proofs.Lengths.{length-le32, length-words}
use Rattle.image_form.specs.Image.{AreTables, tables_bytes, section_bytes, table_bytes, func_bytes, sym_bytes, ext_bytes, desc_bytes, le32, magic, table_limit, code_limit}
use Rattle.image_codec.specs.Reading.{image_reading, NoImage}
use Rattle.image_form.specs.Tables.{Tables}
use Rattle.commands.specs.Run.{IsSpelling, IsNoImage, longest_image}

-- an image is read from its spelling
pub read_of : (bytes : List ℕ) (image : Tables) → IsSpelling bytes image → image_reading bytes ≡ Ok image
read_of bytes image s = ap image_reading s.spelled ∙ is_read image s.is_image

-- bytes spell one image
pub one_image : (bytes : List ℕ) (a b : Tables) → IsSpelling bytes a → IsSpelling bytes b → a ≡ b
one_image bytes a b s t = let e = sym (read_of bytes a s) ∙ read_of bytes b t in cc

-- ---- the longest image

length-section : (name body : List ℕ) → length name ≡ 4 → length (section_bytes name body) ≡ 8 + length body
unfolding section_bytes
length-section name body four =
    omega (arith, length-append name (le32 (length body) ++ body), length-append (le32 (length body)) body, length-le32 (length body))

length-two : (a b : List ℕ) (m n : ℕ) → length a ≡ m → length b ≤ n → length (a ++ b) ≤ m + n
length-two a b m n e h = omega (arith, length-append a b)

section_then : (name body rest : List ℕ) (m n : ℕ) → length name ≡ 4 → length body ≤ m → length rest ≤ n → length (section_bytes name body ++ rest) ≤ 8 + m + n
section_then name body rest m n four short h =
    omega (arith, length-append (section_bytes name body) rest, length-section name body four)

last_section : (name body : List ℕ) (m : ℕ) → length name ≡ 4 → length body ≤ m → length (section_bytes name body) ≤ 8 + m
last_section name body m four short = omega (arith, length-section name body four)

code_short : (code : List ℕ) → 4 * length code ≤ code_limit → length (flat_map le32 code) ≤ code_limit
code_short code h = omega (arith, length-words code)

tables_short : (t : Tables) → AreTables t → length (tables_bytes t) ≤ longest_image
unfolding tables_bytes
tables_short t h =
    let x7 = section_bytes (codes "DESC") (table_bytes (desc_bytes t.version) t.descs) in
    let x6 = section_bytes (codes "EXTC") (table_bytes ext_bytes t.extcs) ++ x7 in
    let x5 = section_bytes (codes "ROOT") (table_bytes le32 t.roots) ++ x6 in
    let x4 = section_bytes (codes "SYMS") (table_bytes sym_bytes t.syms) ++ x5 in
    let x3 = section_bytes (codes "DATA") t.bytes ++ x4 in
    let x2 = section_bytes (codes "CODE") (flat_map le32 t.code) ++ x3 in
    let x1 = section_bytes (codes "FUNC") (table_bytes func_bytes t.funcs) ++ x2 in
    let l7 : length x7 ≤ 67108872 = last_section (codes "DESC") (table_bytes (desc_bytes t.version) t.descs) table_limit refl h.descs.short in
    let l6 : length x6 ≤ 134217744 = section_then (codes "EXTC") (table_bytes ext_bytes t.extcs) x7 table_limit 67108872 refl h.extcs.short l7 in
    let l5 : length x5 ≤ 201326616 = section_then (codes "ROOT") (table_bytes le32 t.roots) x6 table_limit 134217744 refl h.roots.short l6 in
    let l4 : length x4 ≤ 268435488 = section_then (codes "SYMS") (table_bytes sym_bytes t.syms) x5 table_limit 201326616 refl h.syms.short l5 in
    let l3 : length x3 ≤ 285212712 = section_then (codes "DATA") t.bytes x4 data_limit 268435488 refl h.bytes.short l4 in
    let l2 : length x2 ≤ 553582640 = section_then (codes "CODE") (flat_map le32 t.code) x3 code_limit 285212712 refl (code_short t.code h.code.short) l3 in
    let l1 : length x1 ≤ 620691512 = section_then (codes "FUNC") (table_bytes func_bytes t.funcs) x2 table_limit 553582640 refl h.funcs.short l2 in
    length-two magic (le32 t.version ++ x1) 8 620691516 refl (length-two (le32 t.version) x1 4 620691512 (length-le32 t.version) l1)

pub spelling_short : (bytes : List ℕ) (image : Tables) → IsSpelling bytes image → length bytes ≤ longest_image
spelling_short bytes image s =
    let short = tables_short image s.is_image in
    let same : length bytes ≡ length (tables_bytes image) = ap length s.spelled in
    omega arith

pub no_spelling : (bytes : List ℕ) (refusal : ImageRefusal) → NoImage bytes × (image_reading bytes ≡ Err refusal) → IsNoImage bytes refusal
no_spelling bytes refusal h = record { none = λ image s. (let e = sym (read_of bytes image s) ∙ h.1 in cc); first = h.1 }
