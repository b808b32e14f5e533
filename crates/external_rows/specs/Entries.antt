-- Rows of external calls, and how one more is noted.
use Rattle.std.specs.Prelude.{◌≡◌, ℕ, cond, List, [], ◌∷◌, ◌++◌, map}
use Rattle.std.specs.declared.vec.Vec.{Vec}
use Rattle.bs_words.specs.External.{External}
use Rattle.image_form.specs.Image.{comp_byte, ret_byte}
use Rattle.image_form.specs.Tables.{ext}
use Rattle.image_form.specs.declared.image.ExtRow.{ExtRow}
use Rattle.rv_layout_rules.specs.Externals.{is_among_externals}

-- rows with that of one more call
abbrev pub row_noted : List External → External → List External
row_noted rows e = cond (is_among_externals rows e) rows (rows ++ e ∷ [])

-- ---- how a map holds rows

-- the bytes by which a row is found: those of its types, one that is none of a type, its name
abbrev pub external_key : External → List ℕ
external_key e = ret_byte e.result ∷ (map comp_byte e.params ++ 255 ∷ e.name)

abbrev pub external_view : {A : Type 0} → Vec ℕ A × ExtRow → External
external_view e = ext e.1

-- each row is at its own bytes
abbrev pub AreKeyed : {A : Type 0} → List (Vec ℕ A × ExtRow) → Type 0
AreKeyed entries = map (λ e. e.0.items) entries ≡ map (λ e. external_key (external_view e)) entries
