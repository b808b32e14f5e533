-- Reading the body of a section from its first byte on: the value of a field and the bytes after it, or
-- the first field that breaks a rule or passes the end of the body. A field is known by the number of
-- bytes of the body from it on.
use Rattle.std.specs.Prelude.{◌≡◌, ℕ, zero, suc, ◌+◌, ◌-◌, ◌/◌, ◌%◌, Bool, true, ◌&&◌, ◌||◌, not, List, [], ◌∷◌, ◌++◌, length, take, drop, map, Option, Some, None, Result, Ok, Err, nat_lt, nat_le, ◌==◌, if◌then◌else◌}
use Rattle.std.specs.List.{slice_get}
use Rattle.std.specs.Int.{Width, w16, w32, byte_len, from_le_bytes}
use Rattle.bs_words.specs.External.{External}
use Rattle.bs_words.specs.Symbol.{is_symbol}
use Rattle.bs_words.specs.declared.types.Comp.{Comp}
use Rattle.bs_words.specs.declared.types.Comp.TheVariants.{Int, Val, Addr}
use Rattle.bs_words.specs.declared.types.Ret.{Ret}
use Rattle.bs_words.specs.declared.types.Ret.TheVariants as returns
use Rattle.image_form.specs.declared.fault.BadField.{BadField}
use Rattle.image_form.specs.declared.fault.Stop.{Stop}
use Rattle.image_form.specs.declared.fault.Stop.TheVariants as stops
use Rattle.image_form.specs.Tables.{Func, Sym, Desc, func_names, sym_names}
use Rattle.image_form.specs.Image.{function_end, ext_bytes, entry_width, first_return}
use Rattle.image_form.specs.Seen.{has_text}

infixl 10 ◌>>=◌
abbrev pub ◌>>=◌ : {A B E : Type 0} → Result A E → (A → Result B E) → Result B E
(Ok x) >>= f = f x
(Err e) >>= f = Err e

-- What a function of the code returned, seen by view, is what reading gives, unless memory ran out.
abbrev pub Stops : {Y : Type 0} → Stop → Result Y ℕ → Type 0
Stops stops.Memory read = Unit {0}
Stops (stops.Left n) read = read ≡ Err n

abbrev pub GivesField : {X Y : Type 0} → (X → Y) → Result X Stop → Result Y ℕ → Type 0
GivesField view (Ok x) read = read ≡ Ok (view x)
GivesField view (Err e) read = Stops e read

-- the same of a function that takes no memory
abbrev pub ReadsField : {X Y : Type 0} → (X → Y) → Result X BadField → Result Y ℕ → Type 0
ReadsField view (Ok x) read = read ≡ Ok (view x)
ReadsField view (Err field) read = read ≡ Err field.left

-- ---- fields

unfoldable pub byte_at : List ℕ → Result (ℕ × List ℕ) ℕ
byte_at [] = Err 0
byte_at (b ∷ rest) = Ok (b, rest)

unfoldable pub number_at : Width → List ℕ → Result (ℕ × List ℕ) ℕ
number_at w bytes =
    if nat_lt (length bytes) (byte_len w) then Err (length bytes) else Ok
    (from_le_bytes w (take (byte_len w) bytes), drop (byte_len w) bytes)

-- the field, where its value keeps the rule
unfoldable pub kept : {A : Type 0} → (A → Bool) → (List ℕ → Result (A × List ℕ) ℕ) → List ℕ → Result (A × List ℕ) ℕ
kept rule field bytes = do
  x ← field bytes
  if rule x.0 then Ok x else Err (length bytes)

-- a length of two bytes, and that many bytes
unfoldable pub text_at : List ℕ → Result (List ℕ × List ℕ) ℕ
text_at bytes = do
  n ← number_at w16 bytes
  if nat_lt (length n.1) n.0 then Err (length bytes) else Ok (take n.0 n.1, drop n.0 n.1)

unfoldable pub name_at : List ℕ → Result (List ℕ × List ℕ) ℕ
name_at = kept is_symbol text_at

-- a name that is not among these
unfoldable pub new_name_at : List (List ℕ) → List ℕ → Result (List ℕ × List ℕ) ℕ
new_name_at names = kept (λ name. not (has_text names name)) name_at

-- the value that a byte stands for
abbrev pub decoded_byte : {A : Type 0} → Option A → List ℕ → List ℕ → Result (A × List ℕ) ℕ
decoded_byte (Some x) bytes rest = Ok (x, rest)
decoded_byte None bytes rest = Err (length bytes)

-- the types up to that byte: 2 for a parameter of a function, 1 for an argument of an external call
unfoldable pub comp_of_byte : ℕ → ℕ → Option Comp
comp_of_byte most b =
    if nat_le b most then
    (if b == 0 then Some Int else
    (if b == 1 then Some Val else (if b == 2 then Some Addr else None))) else None

unfoldable pub result_of_byte : ℕ → Option Ret
result_of_byte b =
    if b == 0 then Some (returns.Comp Int) else
    (if b == 1 then Some (returns.Comp Val) else (if b == 3 then Some returns.Unit else None))

unfoldable pub ext_result_of : ℕ → Option Ret
ext_result_of b = if b == 2 then Some (returns.Comp Addr) else result_of_byte b

unfoldable pub type_at : {A : Type 0} → (ℕ → Option A) → List ℕ → Result (A × List ℕ) ℕ
type_at of bytes = do
  b ← byte_at bytes
  decoded_byte (of b.0) bytes b.1

-- as many rows as are left, each read in view of those before it
unfoldable pub rows_at : {A : Type 0} → (List A → List ℕ → Result (A × List ℕ) ℕ) → List A → ℕ → List ℕ → Result (List A × List ℕ) ℕ
rows_at row before zero bytes = Ok (before, bytes)
rows_at row before (suc n) bytes = do
  x ← row before bytes
  rows_at row (before ++ x.0 ∷ []) n x.1

-- the number of types, at most 16, and the types
unfoldable pub params_at : ℕ → List ℕ → Result (List Comp × List ℕ) ℕ
params_at most bytes = do
  n ← kept (λ n. nat_le n 16) byte_at bytes
  rows_at (λ _. type_at (comp_of_byte most)) [] n.0 n.1

-- ---- rows

-- the test passes at the last of the rows, if there is one
abbrev pub at_some : {A : Type 0} → (A → Bool) → Option A → Bool
at_some p None = true
at_some p (Some x) = p x

unfoldable pub at_last : {A : Type 0} → (A → Bool) → List A → Bool
at_last p before = at_some p (slice_get before (length before - 1))

unfoldable pub func_offset_at : List Func → List ℕ → Result (ℕ × List ℕ) ℕ
func_offset_at before =
    kept (λ n. (n % 4 == 0) && at_last (λ f. nat_lt f.offset n && nat_le (function_end f) n) before)
    (number_at w32)

unfoldable pub frame_at : List ℕ → Result (ℕ × List ℕ) ℕ
frame_at = kept (λ n. n % 16 == 0) (number_at w32)

unfoldable pub func_at : List Func → List ℕ → Result (Func × List ℕ) ℕ
func_at before bytes = do
  name ← new_name_at (func_names before) bytes
  offset ← func_offset_at before name.1
  words ← number_at w32 offset.1
  frame ← frame_at words.1
  params ← params_at 2 frame.1
  result ← type_at result_of_byte params.1
  Ok (record { name = name.0; offset = offset.0; words = words.0; frame = frame.0; params = params.0; result = result.0 }, result.1)

unfoldable pub sym_offset_at : ℕ → List Sym → List ℕ → Result (ℕ × List ℕ) ℕ
sym_offset_at data_len before =
    kept (λ n. nat_le n data_len && at_last (λ s. nat_le s.offset n) before) (number_at w32)

-- a symbol, whose name is not among the names of the functions either
unfoldable pub sym_at : List (List ℕ) → ℕ → List Sym → List ℕ → Result (Sym × List ℕ) ℕ
sym_at names data_len before bytes = do
  name ← new_name_at (names ++ sym_names before) bytes
  offset ← sym_offset_at data_len before name.1
  Ok (record { name = name.0; offset = offset.0 }, offset.1)

unfoldable pub root_offset_field : ℕ → List ℕ → List ℕ → Result (ℕ × List ℕ) ℕ
root_offset_field data_len before =
    kept (λ n. ((n % 8 == 0) && nat_le (n + 8) data_len) && at_last (λ p. nat_lt p n) before)
    (number_at w32)

-- an entry that is there already is reported at its result
unfoldable pub ext_at : List External → List ℕ → Result (External × List ℕ) ℕ
ext_at before bytes = do
  name ← name_at bytes
  params ← params_at 1 name.1
  result ←
      kept (λ result. not (has_text (map ext_bytes before) (ext_bytes (record { name = name.0; params = params.0; result = result }))))
      (type_at ext_result_of) params.1
  Ok (record { name = name.0; params = params.0; result = result.0 }, result.1)

unfoldable pub is_entry : ℕ → ℕ → Bool
is_entry size e = ((e % 2 == 1) && nat_le e 63) || ((e % 8 == 0) && nat_lt e size)

unfoldable pub is_next_entry : ℕ → ℕ → Bool
is_next_entry a b = ((a % 2 == b % 2) && nat_lt a b) || ((a % 2 == 1) && (b % 2 == 0))

-- a size, a number of entries or an entry
unfoldable pub wide_at : ℕ → List ℕ → Result (ℕ × List ℕ) ℕ
wide_at version = number_at (entry_width version)

unfoldable pub entry_at : ℕ → ℕ → List ℕ → List ℕ → Result (ℕ × List ℕ) ℕ
entry_at version size before =
    kept (λ e. is_entry size e && at_last (λ p. is_next_entry p e) before) (wide_at version)

-- where a call in the code can return to: after the stub and a word
abbrev pub is_return : ℕ → ℕ → Bool
is_return code_len n = (n % 4 == 0) && (nat_le first_return n && nat_le n code_len)

unfoldable pub after_at : ℕ → List Desc → List ℕ → Result (ℕ × List ℕ) ℕ
after_at code_len before =
    kept (λ n. is_return code_len n && at_last (λ d. nat_lt d.after n) before) (number_at w32)

unfoldable pub frame_size_field : ℕ → List ℕ → Result (ℕ × List ℕ) ℕ
frame_size_field version = kept (λ n. (n % 16 == 0) && nat_le 16 n) (wide_at version)

unfoldable pub desc_at : ℕ → ℕ → List Desc → List ℕ → Result (Desc × List ℕ) ℕ
desc_at version code_len before bytes = do
  after ← after_at code_len before bytes
  size ← frame_size_field version after.1
  count ← wide_at version size.1
  entries ← rows_at (entry_at version size.0) [] count.0 count.1
  Ok (record { after = after.0; size = size.0; entries = entries.0 }, entries.1)

-- ---- bodies

-- all of a body: the number of rows, and the rows
unfoldable pub table_at : {A : Type 0} → (List A → List ℕ → Result (A × List ℕ) ℕ) → List ℕ → Result (List A) ℕ
table_at row body = do
  n ← number_at w32 body
  rows ← rows_at row [] n.0 n.1
  if length rows.1 == 0 then Ok rows.0 else Err (length rows.1)

-- the words of a body
unfoldable pub words_of_body : List ℕ → Result (List ℕ) ℕ
words_of_body body = do
  words ← rows_at (λ _. number_at w32) [] (length body / 4) body
  Ok words.0
