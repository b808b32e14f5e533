-- Reading the bytes of an image from the first on: the image, or the first fault. Until the bytes of a
-- field or of a body are all there, nothing else is asked of them. A section's length is tested once
-- its four bytes are there, before its body is wanted.
use Rattle.std.specs.Prelude.{◌≡◌, ℕ, ◌-◌, ◌*◌, ◌%◌, Bool, ◌&&◌, ◌||◌, max, fold, List, length, take, drop, Result, Ok, Err, nat_lt, nat_le, ◌==◌, if◌then◌else◌, codes}
use Rattle.std.specs.Int.{w32, from_le_bytes}
use Rattle.std.specs.Str.{bytes_eq}
use Rattle.bs_words.specs.Fits.{data_limit}
use Rattle.bs_fault.specs.declared.image.ImageFault.{ImageFault}
use Rattle.bs_fault.specs.declared.image.ImageFault.TheVariants as faults
use Rattle.bs_fault.specs.declared.image.ImageRefusal.{ImageRefusal}
use Rattle.image_form.specs.declared.fault.Stop.{Stop}
use Rattle.image_form.specs.declared.fault.Stop.TheVariants as stops
use Rattle.image_form.specs.declared.fault.ImageError.{ImageError}
use Rattle.image_form.specs.declared.fault.ImageError.TheVariants as errors
use Rattle.image_codec.specs.declared.reading.Limits.{Limits}
use Rattle.image_form.specs.Tables.{Func, Tables, func_names}
use Rattle.image_form.specs.declared.image.Image as declared
use Rattle.image_form.specs.Image.{IsImage, image_bytes, function_end, magic, stub_words, table_limit, code_limit}
use Rattle.image_form.specs.Fields.{◌>>=◌, func_at, sym_at, root_offset_field, ext_at, desc_at, table_at, words_of_body}

-- What a function of the code returned, seen by view, is what reading gives, unless memory ran out.
abbrev pub Refuses : {Y : Type 0} → ImageError → Result Y ImageRefusal → Type 0
Refuses errors.OutOfMemory read = Unit {0}
Refuses (errors.Refused refusal) read = read ≡ Err refusal

abbrev pub ReadsImagePart : {X Y : Type 0} → (X → Y) → Result X ImageError → Result Y ImageRefusal → Type 0
ReadsImagePart view (Ok x) read = read ≡ Ok (view x)
ReadsImagePart view (Err e) read = Refuses e read

-- the same of a function that takes no memory
abbrev pub ReadsWithoutMemory : {X Y : Type 0} → (X → Y) → Result X ImageRefusal → Result Y ImageRefusal → Type 0
ReadsWithoutMemory view (Ok x) read = read ≡ Ok (view x)
ReadsWithoutMemory view (Err refusal) read = read ≡ Err refusal

-- the fault at the first of the bytes that are left of so many
abbrev pub refused : ImageFault → ℕ → List ℕ → ImageRefusal
refused fault total bytes = record { fault = fault; at = total - length bytes }

-- the first n bytes; where they are not all there, the fault is at the end
unfoldable pub whole_at : ℕ → ℕ → List ℕ → Result (List ℕ × List ℕ) ImageRefusal
whole_at total n bytes =
    if nat_lt (length bytes) n then Err (record { fault = faults.Truncated; at = total }) else Ok
    (take n bytes, drop n bytes)

-- the bytes after the mark, which is to be here
unfoldable pub after_mark : ℕ → ImageFault → List ℕ → List ℕ → Result (List ℕ) ImageRefusal
after_mark total fault mark bytes = do
  front ← whole_at total (length mark) bytes
  if bytes_eq front.0 mark then Ok front.1 else Err (refused fault total bytes)

-- the version, 1 or 2
abbrev pub is_version : ℕ → Bool
is_version n = (n == 1) || (n == 2)

unfoldable pub version_at : ℕ → List ℕ → Result (ℕ × List ℕ) ImageRefusal
version_at total bytes = do
  front ← whole_at total 4 bytes
  if is_version (from_le_bytes w32 front.0) then Ok (from_le_bytes w32 front.0, front.1) else Err (refused faults.Version total bytes)

-- the length of a body, within its limits
abbrev pub is_within_limits : Limits → ℕ → Bool
is_within_limits limits n = (n % limits.step == 0) && (nat_le limits.least n && nat_le n limits.most)

unfoldable pub length_at : ℕ → Limits → List ℕ → Result (ℕ × List ℕ) ImageRefusal
length_at total limits bytes = do
  front ← whole_at total 4 bytes
  if is_within_limits limits (from_le_bytes w32 front.0) then Ok (from_le_bytes w32 front.0, front.1) else Err (refused faults.Table total bytes)

-- the body of the section of that name, and the bytes after it
unfoldable pub section_at : ℕ → List ℕ → Limits → List ℕ → Result (List ℕ × List ℕ) ImageRefusal
section_at total name limits bytes = do
  rest ← after_mark total faults.Section name bytes
  n ← length_at total limits rest
  whole_at total n.0 n.1

-- what is read of a body, with a fault known by its place in the image: so many bytes before the end
-- of the body, after which these come
abbrev pub placed : {A : Type 0} → ℕ → List ℕ → Result A ℕ → Result A ImageRefusal
placed total behind (Ok x) = Ok x
placed total behind (Err left) =
    Err (record { fault = faults.Table; at = total - length behind - left })

-- the same of what a function of the code read
abbrev pub placed_result : {X : Type 0} → ℕ → List ℕ → Result X Stop → Result X ImageError
placed_result total behind (Ok x) = Ok x
placed_result total behind (Err stops.Memory) = Err errors.OutOfMemory
placed_result total behind (Err (stops.Left left)) =
    Err (errors.Refused (record { fault = faults.Table; at = total - length behind - left }))

-- a section, and the bytes after it
unfoldable pub part_at : {A : Type 0} → ℕ → List ℕ → Limits → (List ℕ → Result A ℕ) → List ℕ → Result (A × List ℕ) ImageRefusal
part_at total name limits read bytes = do
  body ← section_at total name limits bytes
  x ← placed total body.1 (read body.0)
  Ok (x, body.1)

-- ---- the limits of the bodies

abbrev pub table_limits : Limits
table_limits = record { least = 0; most = table_limit; step = 1 }

abbrev pub data_limits : Limits
data_limits = record { least = 8; most = data_limit; step = 1 }

-- the code holds the stub, and each function
unfoldable pub code_least : List Func → ℕ
code_least funcs = fold (λ n f. max n (function_end f)) (4 * stub_words) funcs

abbrev pub code_limits : List Func → Limits
code_limits funcs = record { least = code_least funcs; most = code_limit; step = 4 }

-- ---- the whole

-- the front of an image, up to the end of its first section: what is read before any memory is taken
unfoldable pub opening_at : List ℕ → Result (List ℕ × List ℕ) ImageRefusal
opening_at bytes = do
  behind_magic ← after_mark (length bytes) faults.Magic magic bytes
  front ← version_at (length bytes) behind_magic
  section_at (length bytes) (codes "FUNC") table_limits front.1

unfoldable pub image_reading : List ℕ → Result Tables ImageRefusal
image_reading bytes = do
  behind_magic ← after_mark (length bytes) faults.Magic magic bytes
  front ← version_at (length bytes) behind_magic
  funcs ← part_at (length bytes) (codes "FUNC") table_limits (table_at func_at) front.1
  code ← part_at (length bytes) (codes "CODE") (code_limits funcs.0) words_of_body funcs.1
  data_ ← part_at (length bytes) (codes "DATA") data_limits Ok code.1
  syms ← part_at (length bytes) (codes "SYMS") table_limits (table_at (sym_at (func_names funcs.0) (length data_.0))) data_.1
  roots ← part_at (length bytes) (codes "ROOT") table_limits (table_at (root_offset_field (length data_.0))) syms.1
  extcs ← part_at (length bytes) (codes "EXTC") table_limits (table_at ext_at) roots.1
  descs ← part_at (length bytes) (codes "DESC") table_limits (table_at (desc_at front.0 (4 * length code.0))) extcs.1
  if length descs.1 == 0
      then Ok (record {
        version = front.0;
        funcs = funcs.0;
        code = code.0;
        bytes = data_.0;
        syms = syms.0;
        roots = roots.0;
        extcs = extcs.0;
        descs = descs.0;
      })
      else Err (refused faults.Trailing (length bytes) descs.1)

-- no image has these bytes
abbrev pub NoImage : List ℕ → Type 0
NoImage bytes = (image : declared.Image) → IsImage image → image_bytes image ≡ bytes → ⊥

-- What is refused is no image, and the fault reported is the first.
abbrev pub IsRefusalOf : List ℕ → ImageError → Type 0
IsRefusalOf bytes errors.OutOfMemory = Unit {0}
IsRefusalOf bytes (errors.Refused refusal) = NoImage bytes × (image_reading bytes ≡ Err refusal)
