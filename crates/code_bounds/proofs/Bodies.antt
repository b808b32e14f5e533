-- How many bytes the rows of an image have.
use Rattle.std.proofs.Common.{◌≡◌, ℕ, ◌+◌, ◌*◌, List, [], ◌∷◌, ◌++◌, length, refl, length-append, arith}
use Rattle.std.specs.List.{flat_map}
use Rattle.bs_words.specs.External.{External}
use Rattle.image_form.specs.Image.{le32, le_entry, ret_byte, name_bytes, params_bytes, func_bytes, sym_bytes, ext_bytes, desc_bytes, table_bytes}
use Rattle.image_form.specs.Tables.{Func, Sym, Desc}
use Rattle.image_form.proofs.Lengths.{length-le32, name_length, params_length}

pub func_length : (r : Func) → length (func_bytes r) ≡ 16 + (length r.name + length r.params)
unfolding func_bytes
func_length r =
    let last = params_bytes r.params ++ ret_byte r.result ∷ [] in
    let frame = le32 r.frame ++ last in
    let words = le32 r.words ++ frame in
    let offset = le32 r.offset ++ words in
    omega (
      arith,
      length-append (name_bytes r.name) offset,
      length-append (le32 r.offset) words,
      length-append (le32 r.words) frame,
      length-append (le32 r.frame) last,
      length-append (params_bytes r.params) (ret_byte r.result ∷ []),
      name_length r.name,
      length-le32 r.offset,
      length-le32 r.words,
      length-le32 r.frame,
      params_length r.params,
    )

pub sym_length : (s : Sym) → length (sym_bytes s) ≡ 6 + length s.name
unfolding sym_bytes
sym_length s = omega (arith, length-append (name_bytes s.name) (le32 s.offset), name_length s.name, length-le32 s.offset)

pub ext_length : (e : External) → length (ext_bytes e) ≡ 4 + (length e.name + length e.params)
unfolding ext_bytes
ext_length e =
    let last = params_bytes e.params ++ ret_byte e.result ∷ [] in
    omega (
      arith,
      length-append (name_bytes e.name) last,
      length-append (params_bytes e.params) (ret_byte e.result ∷ []),
      name_length e.name,
      params_length e.params,
    )

-- ---- descriptors, in images of version 2

entry_length : (n : ℕ) → length (le_entry 2 n) ≡ 4
unfolding le_entry
entry_length n = refl

entries_length : (ns : List ℕ) → length (flat_map (le_entry 2) ns) ≡ 4 * length ns
entries_length [] = refl
entries_length (n ∷ ns) =
    let others = entries_length ns in omega (arith, length-append (le_entry 2 n) (flat_map (le_entry 2) ns), entry_length n, others)

pub desc_length : (d : Desc) → length (desc_bytes 2 d) ≡ 12 + 4 * length d.entries
unfolding desc_bytes
desc_length d =
    let rest = flat_map (le_entry 2) d.entries in
    let count = le_entry 2 (length d.entries) ++ rest in
    let size = le_entry 2 d.size ++ count in
    omega (
      arith,
      length-append (le32 d.after) size,
      length-append (le_entry 2 d.size) count,
      length-append (le_entry 2 (length d.entries)) rest,
      length-le32 d.after,
      entry_length d.size,
      entry_length (length d.entries),
      entries_length d.entries,
    )

pub table_length : {A : Type 0} (row : A → List ℕ) (rows : List A) → length (table_bytes row rows) ≡ 4 + length (flat_map row rows)
unfolding table_bytes
table_length row rows = omega (arith, length-append (le32 (length rows)) (flat_map row rows), length-le32 (length rows))
