-- Each row reads what is spelled so and keeps the rules in view of the rows before it, and nothing else.
use Rattle.std.proofs.Common.{◌≡◌, ℕ, ◌+◌, ◌-◌, ◌%◌, ◌^◌, ◌<◌, ◌≤◌, Bool, false, not, ltb, leb, eqb, ◌&&◌, List, [], ◌∷◌, ◌++◌, length, map, Option, Some, None, Result, Ok, refl, sym, ap, subst, ◌∙◌, append_assoc}
use Rattle.std.specs.Bool.{Decides}
use Rattle.std.specs.List.{flat_map, slice_get}
use Rattle.std.specs.Int.{w32}
use Rattle.std.proofs.lemmas.Bool.{leb-true, le-leb}
use Rattle.std.proofs.lemmas.Bool.Decides.{Decides-and, Decides-or, Decides-eqb, Decides-ltb}
use Rattle.bs_words.specs.External.{External}
use Rattle.bs_words.specs.declared.types.Comp.{Comp}
use Rattle.bs_words.specs.declared.types.Ret.{Ret}
use Rattle.image_form.specs.Tables.{Func, Sym, Desc, func_names, sym_names}
use Rattle.bs_words.specs.Symbol.{IsSymbol}
use Rattle.image_form.specs.Image.{le32, le_entry, entry_limit, ret_byte, name_bytes, params_bytes, func_bytes, sym_bytes, ext_bytes, desc_bytes, IsParam, IsResult, IsArgument, IsExtResult, IsRoot, IsEntry, IsNextEntry, function_end, first_return}
use Rattle.image_form.specs.Seen.{has_text}
use Rattle.image_form.specs.Fields.{◌>>=◌, number_at, wide_at, kept, name_at, new_name_at, result_of_byte, ext_result_of, type_at, rows_at, params_at, at_some, at_last, func_offset_at, frame_at, func_at, sym_offset_at, sym_at, root_offset_field, ext_at, is_entry, is_next_entry, entry_at, after_at, frame_size_field, desc_at}
use Rattle.image_codec.proofs.Takes.{IsBytes, bind_ok, ok_is, Takes, Takes-then, IsField, alike, kept_field, rows_take, rows_again, AllAfter}
use Rattle.image_codec.proofs.FieldLaws.{some_is, u32_field, wide_field, IsNew, name_field, new_name_field, new_decides, result_field, ext_result_field, AreParams, func_params_field, ext_params_field}

-- ---- the row before

-- P holds of the last of the rows, if there is one
abbrev pub Last : {A : Type 0} → (A → Type 0) → List A → Type 0
Last {A} P before = (x : A) → slice_get before (length before - 1) ≡ Some x → P x

some_decides : {A : Type 0} (p : A → Bool) (P : A → Type 0) → ((x : A) → Decides (p x) (P x)) → (o : Option A) → Decides (at_some p o) ((x : A) → o ≡ Some x → P x)
some_decides p P d None = (λ e x h. absurd cc, λ h. refl)
some_decides p P d (Some y) = (λ e x h. subst P (some_is y x h) ((d y).0 e), λ h. (d y).1 (h y refl))

last_decides : {A : Type 0} (p : A → Bool) (P : A → Type 0) → ((x : A) → Decides (p x) (P x)) → (before : List A) → Decides (at_last p before) (Last P before)
unfolding at_last
last_decides p P d before = some_decides p P d (slice_get before (length before - 1))

leb_decides : (a b : ℕ) → Decides (leb a b) (a ≤ b)
leb_decides a b = (leb-true a b, le-leb a b)

-- ---- one field after the other

-- a field was read, and the reading went on
record Step {A Y : Type 0} (spell : A → List ℕ) (Fits : A → Type 0) (bytes : List ℕ) (k : A × List ℕ → Result Y ℕ) (y : Y) : Type 0 where
  value : A
  rest : List ℕ
  takes : Takes bytes (spell value) rest
  fits : Fits value
  then : k (value, rest) ≡ Ok y

step : {A Y : Type 0} (field : List ℕ → Result (A × List ℕ) ℕ) (spell : A → List ℕ) (Fits : A → Type 0) → IsField field spell Fits
    → (bytes : List ℕ) (k : A × List ℕ → Result Y ℕ) (y : Y) → IsBytes bytes → (field bytes >>= k) ≡ Ok y → Step spell Fits bytes k y
step field spell Fits is bytes k y fits e =
    let a = bind_ok (field bytes) k y e in
    let t = is.takes bytes a.0.0 a.0.1 fits a.1 in
    record { value = a.0.0; rest = a.0.1; takes = t.0; fits = t.1; then = a.2 }

-- ---- functions

func_offset_decides : (before : List Func) (n : ℕ) → Decides (eqb (n % 4) 0 && at_last (λ (f : Func). ltb f.offset n && leb (function_end f) n) before) ((n % 4 ≡ 0) × Last (λ (f : Func). (f.offset < n) × (function_end f ≤ n)) before)
func_offset_decides before n =
    Decides-and _ _ (Decides-eqb (n % 4) 0) (last_decides (λ (f : Func). ltb f.offset n && leb (function_end f) n) (λ (f : Func). (f.offset < n) × (function_end f ≤ n)) (λ f. Decides-and _ _ (Decides-ltb f.offset n) (leb_decides (function_end f) n)) before)

pub record FuncOffset (before : List Func) (n : ℕ) : Type 0 where
  pub fits : n < 2 ^ 32
  pub aligned : n % 4 ≡ 0
  pub behind : Last (λ (f : Func). (f.offset < n) × (function_end f ≤ n)) before

func_offset_field : (before : List Func) → IsField (func_offset_at before) le32 (FuncOffset before)
unfolding func_offset_at
func_offset_field before =
    alike (func_offset_at before) le32 _ (kept_field (number_at w32) le32 _ u32_field _ _ (func_offset_decides before))
    (FuncOffset before) (λ x h. record { fits = h.0; aligned = h.1.0; behind = h.1.1 }) (λ x h. (h.fits, (h.aligned, h.behind)))

frame_field : IsField frame_at le32 (λ n. (n < 2 ^ 32) × (n % 16 ≡ 0))
unfolding frame_at
frame_field = kept_field (number_at w32) le32 _ u32_field (λ n. eqb (n % 16) 0) (λ n. n % 16 ≡ 0) (λ n. Decides-eqb (n % 16) 0)

pub record FuncRule (before : List Func) (f : Func) : Type 0 where
  pub name : IsNew (func_names before) f.name
  pub offset : FuncOffset before f.offset
  pub words : f.words < 2 ^ 32
  pub frame : (f.frame < 2 ^ 32) × (f.frame % 16 ≡ 0)
  pub params : AreParams IsParam f.params
  pub result : IsResult f.result

func_takes : (before : List Func) (bytes : List ℕ) (f : Func) (rest : List ℕ) → IsBytes bytes → func_at before bytes ≡ Ok (f, rest) → Takes bytes (func_bytes f) rest × FuncRule before f
unfolding func_at func_bytes
func_takes before bytes f rest fits e =
    let a = step (new_name_at (func_names before)) name_bytes _ (new_name_field (func_names before)) bytes _ (f, rest) fits e in
    let b = step (func_offset_at before) le32 _ (func_offset_field before) a.rest _ (f, rest) a.takes.rest_fits a.then in
    let c = step (number_at w32) le32 _ u32_field b.rest _ (f, rest) b.takes.rest_fits b.then in
    let d = step frame_at le32 _ frame_field c.rest _ (f, rest) c.takes.rest_fits c.then in
    let p = step (params_at 2) params_bytes _ func_params_field d.rest _ (f, rest) d.takes.rest_fits d.then in
    let r = step (type_at result_of_byte) (λ x. ret_byte x ∷ []) _ result_field p.rest _ (f, rest) p.takes.rest_fits p.then in
    let made : Func × List ℕ = (record { name = a.value; offset = b.value; words = c.value; frame = d.value; params = p.value; result = r.value }, r.rest) in
    let t4 = Takes-then d.rest (params_bytes p.value) p.rest (ret_byte r.value ∷ []) r.rest p.takes r.takes in
    let t3 = Takes-then c.rest (le32 d.value) d.rest _ r.rest d.takes t4 in
    let t2 = Takes-then b.rest (le32 c.value) c.rest _ r.rest c.takes t3 in
    let t1 = Takes-then a.rest (le32 b.value) b.rest _ r.rest b.takes t2 in
    let t0 = Takes-then bytes (name_bytes a.value) a.rest _ r.rest a.takes t1 in
    subst (λ (y : Func × List ℕ). Takes bytes (name_bytes y.0.name ++ (le32 y.0.offset ++ (le32 y.0.words ++ (le32 y.0.frame ++ (params_bytes y.0.params ++ ret_byte y.0.result ∷ []))))) y.1 × FuncRule before y.0) (ok_is made (f, rest) r.then)
    (t0, record { name = a.fits; offset = b.fits; words = c.fits; frame = d.fits; params = p.fits; result = r.fits })

func_again : (before : List Func) (f : Func) (rest : List ℕ) → FuncRule before f → func_at before (func_bytes f ++ rest) ≡ Ok (f, rest)
unfolding func_at func_bytes
func_again before f rest rule =
    let regrouped : (name_bytes f.name ++ (le32 f.offset ++ (le32 f.words ++ (le32 f.frame ++ (params_bytes f.params ++ ret_byte f.result ∷ []))))) ++ rest
    ≡ name_bytes f.name ++ (le32 f.offset ++ (le32 f.words ++ (le32 f.frame ++ (params_bytes f.params ++ ((ret_byte f.result ∷ []) ++ rest))))) = simp append_assoc in
    ap (func_at before) regrouped
    ∙ rw ((new_name_field (func_names before)).again f.name _ rule.name, (func_offset_field before).again f.offset _ rule.offset, u32_field.again f.words _ rule.words, frame_field.again f.frame _ rule.frame, func_params_field.again f.params _ rule.params, result_field.again f.result rest rule.result) refl

pub func_field : (before : List Func) → IsField (func_at before) func_bytes (FuncRule before)
func_field before = record { takes = func_takes before; again = func_again before }

-- ---- symbols

pub record SymOffset (data_len : ℕ) (before : List Sym) (n : ℕ) : Type 0 where
  pub fits : n < 2 ^ 32
  pub in_data : n ≤ data_len
  pub in_order : Last (λ (s : Sym). s.offset ≤ n) before

sym_offset_field : (data_len : ℕ) (before : List Sym) → IsField (sym_offset_at data_len before) le32 (SymOffset data_len before)
unfolding sym_offset_at
sym_offset_field data_len before =
    alike (sym_offset_at data_len before) le32 _ (kept_field (number_at w32) le32 _ u32_field _ ((λ n. (n ≤ data_len) × Last (λ (s : Sym). s.offset ≤ n) before))
    (λ n. Decides-and _ _ (leb_decides n data_len) (last_decides (λ (s : Sym). leb s.offset n) (λ (s : Sym). s.offset ≤ n) (λ s. leb_decides s.offset n) before)))
    (SymOffset data_len before) (λ x h. record { fits = h.0; in_data = h.1.0; in_order = h.1.1 }) (λ x h. (h.fits, (h.in_data, h.in_order)))

pub record SymRule (names : List (List ℕ)) (data_len : ℕ) (before : List Sym) (s : Sym) : Type 0 where
  pub name : IsNew (names ++ sym_names before) s.name
  pub offset : SymOffset data_len before s.offset

sym_takes : (names : List (List ℕ)) (data_len : ℕ) (before : List Sym) (bytes : List ℕ) (s : Sym) (rest : List ℕ) → IsBytes bytes → sym_at names data_len before bytes ≡ Ok (s, rest) → Takes bytes (sym_bytes s) rest × SymRule names data_len before s
unfolding sym_at sym_bytes
sym_takes names data_len before bytes s rest fits e =
    let a = step (new_name_at (names ++ sym_names before)) name_bytes _ (new_name_field (names ++ sym_names before)) bytes _ (s, rest) fits e in
    let b = step (sym_offset_at data_len before) le32 _ (sym_offset_field data_len before) a.rest _ (s, rest) a.takes.rest_fits a.then in
    let made : Sym × List ℕ = (record { name = a.value; offset = b.value }, b.rest) in
    let t0 = Takes-then bytes (name_bytes a.value) a.rest (le32 b.value) b.rest a.takes b.takes in
    subst (λ (y : Sym × List ℕ). Takes bytes (name_bytes y.0.name ++ le32 y.0.offset) y.1 × SymRule names data_len before y.0) (ok_is made (s, rest) b.then)
    (t0, record { name = a.fits; offset = b.fits })

sym_again : (names : List (List ℕ)) (data_len : ℕ) (before : List Sym) (s : Sym) (rest : List ℕ) → SymRule names data_len before s → sym_at names data_len before (sym_bytes s ++ rest) ≡ Ok (s, rest)
unfolding sym_at sym_bytes
sym_again names data_len before s rest rule =
    ap (sym_at names data_len before) (append_assoc (name_bytes s.name) (le32 s.offset) rest)
    ∙ rw ((new_name_field (names ++ sym_names before)).again s.name _ rule.name, (sym_offset_field data_len before).again s.offset rest rule.offset) refl

pub sym_field : (names : List (List ℕ)) (data_len : ℕ) (before : List Sym) → IsField (sym_at names data_len before) sym_bytes (SymRule names data_len before)
sym_field names data_len before = record { takes = sym_takes names data_len before; again = sym_again names data_len before }

-- ---- root cells

pub record RootRule (data_len : ℕ) (before : List ℕ) (n : ℕ) : Type 0 where
  pub fits : n < 2 ^ 32
  pub cell : IsRoot data_len n
  pub rises : Last (λ (p : ℕ). p < n) before

pub root_field : (data_len : ℕ) (before : List ℕ) → IsField (root_offset_field data_len before) le32 (RootRule data_len before)
unfolding root_offset_field
root_field data_len before =
    alike (root_offset_field data_len before) le32 _ (kept_field (number_at w32) le32 _ u32_field _ (λ n. ((n % 8 ≡ 0) × (n + 8 ≤ data_len)) × Last (λ (p : ℕ). p < n) before)
    (λ n. Decides-and _ _ (Decides-and _ _ (Decides-eqb (n % 8) 0) (leb_decides (n + 8) data_len)) (last_decides (λ (p : ℕ). ltb p n) (λ (p : ℕ). p < n) (λ p. Decides-ltb p n) before)))
    (RootRule data_len before) (λ x h. record { fits = h.0; cell = record { aligned = h.1.0.0; in_data = h.1.0.1 }; rises = h.1.1 }) (λ x h. (h.fits, ((h.cell.aligned, h.cell.in_data), h.rises)))

-- ---- external calls

pub record ExtRule (before : List External) (e : External) : Type 0 where
  pub name : IsSymbol e.name
  pub params : AreParams IsArgument e.params
  pub result : IsExtResult e.result
  pub new : has_text (map ext_bytes before) (ext_bytes e) ≡ false

abbrev ext_of : List ℕ → List Comp → Ret → External
ext_of name params result = record { name = name; params = params; result = result }

new_ext_field : (before : List External) (name : List ℕ) (params : List Comp)
    → IsField (kept (λ result. not (has_text (map ext_bytes before) (ext_bytes (ext_of name params result)))) (type_at ext_result_of)) (λ x. ret_byte x ∷ [])
    (λ result. IsExtResult result × (has_text (map ext_bytes before) (ext_bytes (ext_of name params result)) ≡ false))
new_ext_field before name params =
    kept_field (type_at ext_result_of) (λ x. ret_byte x ∷ []) IsExtResult ext_result_field _ _ (λ result. new_decides (has_text (map ext_bytes before) (ext_bytes (ext_of name params result))))

-- the bytes of a row, opened
ext_opened : (e : External) → ext_bytes e ≡ name_bytes e.name ++ (params_bytes e.params ++ ret_byte e.result ∷ [])
unfolding ext_bytes
ext_opened e = refl

ext_takes : (before : List External) (bytes : List ℕ) (x : External) (rest : List ℕ) → IsBytes bytes → ext_at before bytes ≡ Ok (x, rest) → Takes bytes (ext_bytes x) rest × ExtRule before x
unfolding ext_at
ext_takes before bytes x rest fits e =
    let a = step name_at name_bytes IsSymbol name_field bytes _ (x, rest) fits e in
    let p = step (params_at 1) params_bytes _ ext_params_field a.rest _ (x, rest) a.takes.rest_fits a.then in
    let r = step _ (λ x. ret_byte x ∷ []) _ (new_ext_field before a.value p.value) p.rest _ (x, rest) p.takes.rest_fits p.then in
    let made : External × List ℕ = (ext_of a.value p.value r.value, r.rest) in
    let t1 = Takes-then a.rest (params_bytes p.value) p.rest (ret_byte r.value ∷ []) r.rest p.takes r.takes in
    let t0 = Takes-then bytes (name_bytes a.value) a.rest _ r.rest a.takes t1 in
    let taken : Takes bytes (ext_bytes made.0) r.rest = subst (λ (text : List ℕ). Takes bytes text r.rest) (sym (ext_opened made.0)) t0 in
    subst (λ (y : External × List ℕ). Takes bytes (ext_bytes y.0) y.1 × ExtRule before y.0) (ok_is made (x, rest) r.then)
    (taken, record { name = a.fits; params = p.fits; result = r.fits.0; new = r.fits.1 })

ext_again : (before : List External) (x : External) (rest : List ℕ) → ExtRule before x → ext_at before (ext_bytes x ++ rest) ≡ Ok (x, rest)
unfolding ext_at
ext_again before x rest rule =
    let opened : ext_bytes x ++ rest ≡ (name_bytes x.name ++ (params_bytes x.params ++ ret_byte x.result ∷ [])) ++ rest = ap (λ (t : List ℕ). t ++ rest) (ext_opened x) in
    let regrouped : (name_bytes x.name ++ (params_bytes x.params ++ ret_byte x.result ∷ [])) ++ rest ≡ name_bytes x.name ++ (params_bytes x.params ++ ((ret_byte x.result ∷ []) ++ rest)) = simp append_assoc in
    ap (ext_at before) (opened ∙ regrouped)
    ∙ rw (name_field.again x.name _ rule.name, ext_params_field.again x.params _ rule.params, (new_ext_field before x.name x.params).again x.result rest (rule.result, rule.new)) refl

pub ext_field : (before : List External) → IsField (ext_at before) ext_bytes (ExtRule before)
ext_field before = record { takes = ext_takes before; again = ext_again before }

-- ---- descriptors

entry_decides : (size e : ℕ) → Decides (is_entry size e) (IsEntry size e)
unfolding is_entry
entry_decides size e =
    Decides-or _ _ (Decides-and _ _ (Decides-eqb (e % 2) 1) (leb_decides e 63)) (Decides-and _ _ (Decides-eqb (e % 8) 0) (Decides-ltb e size))

next_entry_decides : (a b : ℕ) → Decides (is_next_entry a b) (IsNextEntry a b)
unfolding is_next_entry
next_entry_decides a b =
    Decides-or _ _ (Decides-and _ _ (Decides-eqb (a % 2) (b % 2)) (Decides-ltb a b)) (Decides-and _ _ (Decides-eqb (a % 2) 1) (Decides-eqb (b % 2) 0))

pub record EntryRule (version size : ℕ) (before : List ℕ) (e : ℕ) : Type 0 where
  pub fits : e < entry_limit version
  pub is : IsEntry size e
  pub in_order : Last (λ (p : ℕ). IsNextEntry p e) before

entry_field : (version size : ℕ) (before : List ℕ) → IsField (entry_at version size before) (le_entry version) (EntryRule version size before)
unfolding entry_at
entry_field version size before =
    alike (entry_at version size before) (le_entry version) _ (kept_field (wide_at version) (le_entry version) _ (wide_field version) _ (λ e. IsEntry size e × Last (λ (p : ℕ). IsNextEntry p e) before)
    (λ e. Decides-and _ _ (entry_decides size e) (last_decides (λ (p : ℕ). is_next_entry p e) (λ (p : ℕ). IsNextEntry p e) (λ p. next_entry_decides p e) before)))
    (EntryRule version size before) (λ x h. record { fits = h.0; is = h.1.0; in_order = h.1.1 }) (λ x h. (h.fits, (h.is, h.in_order)))

pub record AfterRule (code_len : ℕ) (before : List Desc) (n : ℕ) : Type 0 where
  pub fits : n < 2 ^ 32
  pub aligned : n % 4 ≡ 0
  pub behind_stub : first_return ≤ n
  pub in_code : n ≤ code_len
  pub rises : Last (λ (d : Desc). d.after < n) before

after_field : (code_len : ℕ) (before : List Desc) → IsField (after_at code_len before) le32 (AfterRule code_len before)
unfolding after_at
after_field code_len before =
    alike (after_at code_len before) le32 _ (kept_field (number_at w32) le32 _ u32_field _ (λ n. ((n % 4 ≡ 0) × ((first_return ≤ n) × (n ≤ code_len))) × Last (λ (d : Desc). d.after < n) before)
    (λ n. Decides-and _ _ (Decides-and _ _ (Decides-eqb (n % 4) 0) (Decides-and _ _ (leb_decides first_return n) (leb_decides n code_len))) (last_decides (λ (d : Desc). ltb d.after n) (λ (d : Desc). d.after < n) (λ d. Decides-ltb d.after n) before)))
    (AfterRule code_len before) (λ x h. record { fits = h.0; aligned = h.1.0.0; behind_stub = h.1.0.1.0; in_code = h.1.0.1.1; rises = h.1.1 }) (λ x h. (h.fits, ((h.aligned, (h.behind_stub, h.in_code)), h.rises)))

pub record SizeRule (version n : ℕ) : Type 0 where
  pub fits : n < entry_limit version
  pub aligned : n % 16 ≡ 0
  pub nonempty : 16 ≤ n

size_field : (version : ℕ) → IsField (frame_size_field version) (le_entry version) (SizeRule version)
unfolding frame_size_field
size_field version =
    alike (frame_size_field version) (le_entry version) _ (kept_field (wide_at version) (le_entry version) _ (wide_field version) _ (λ n. (n % 16 ≡ 0) × (16 ≤ n)) (λ n. Decides-and _ _ (Decides-eqb (n % 16) 0) (leb_decides 16 n)))
    (SizeRule version) (λ x h. record { fits = h.0; aligned = h.1.0; nonempty = h.1.1 }) (λ x h. (h.fits, (h.aligned, h.nonempty)))

pub record DescRule (version code_len : ℕ) (before : List Desc) (d : Desc) : Type 0 where
  pub after : AfterRule code_len before d.after
  pub size : SizeRule version d.size
  pub few : length d.entries < entry_limit version
  pub entries : AllAfter (EntryRule version d.size) [] d.entries

desc_takes : (version code_len : ℕ) (before : List Desc) (bytes : List ℕ) (x : Desc) (rest : List ℕ) → IsBytes bytes → desc_at version code_len before bytes ≡ Ok (x, rest) → Takes bytes (desc_bytes version x) rest × DescRule version code_len before x
unfolding desc_at desc_bytes
desc_takes version code_len before bytes x rest fits e =
    let a = step (after_at code_len before) le32 _ (after_field code_len before) bytes _ (x, rest) fits e in
    let b = step (frame_size_field version) (le_entry version) _ (size_field version) a.rest _ (x, rest) a.takes.rest_fits a.then in
    let c = step (wide_at version) (le_entry version) _ (wide_field version) b.rest _ (x, rest) b.takes.rest_fits b.then in
    let d = bind_ok (rows_at (entry_at version b.value) [] c.value c.rest) _ (x, rest) c.then in
    let r = rows_take (entry_at version b.value) (le_entry version) (EntryRule version b.value) (entry_field version b.value) [] c.value c.rest d.0.0 d.0.1 c.takes.rest_fits d.1 in
    let made : Desc × List ℕ = (record { after = a.value; size = b.value; entries = d.0.0 }, d.0.1) in
    let all-is : d.0.0 ≡ r.rows = r.all_is in
    let t2 = Takes-then b.rest (le_entry version c.value) c.rest (flat_map (le_entry version) r.rows) d.0.1 c.takes r.takes in
    let t1 = Takes-then a.rest (le_entry version b.value) b.rest _ d.0.1 b.takes t2 in
    let t0 = Takes-then bytes (le32 a.value) a.rest _ d.0.1 a.takes t1 in
    let t0' = subst (λ (n : ℕ). Takes bytes (le32 a.value ++ (le_entry version b.value ++ (le_entry version n ++ flat_map (le_entry version) r.rows))) d.0.1) (sym r.count) t0 in
    let rows-fit : (length r.rows < entry_limit version) × AllAfter (EntryRule version b.value) [] r.rows = (subst (λ (n : ℕ). n < entry_limit version) (sym r.count) c.fits, r.rules) in
    let both = subst (λ (es : List ℕ). Takes bytes (le32 a.value ++ (le_entry version b.value ++ (le_entry version (length es) ++ flat_map (le_entry version) es))) d.0.1 × ((length es < entry_limit version) × AllAfter (EntryRule version b.value) [] es)) (sym all-is) (t0', rows-fit) in
    subst (λ (y : Desc × List ℕ). Takes bytes (le32 y.0.after ++ (le_entry version y.0.size ++ (le_entry version (length y.0.entries) ++ flat_map (le_entry version) y.0.entries))) y.1 × DescRule version code_len before y.0) (ok_is made (x, rest) d.2)
    (both.0, record { after = a.fits; size = b.fits; few = both.1.0; entries = both.1.1 })

desc_again : (version code_len : ℕ) (before : List Desc) (x : Desc) (rest : List ℕ) → DescRule version code_len before x → desc_at version code_len before (desc_bytes version x ++ rest) ≡ Ok (x, rest)
unfolding desc_at desc_bytes
desc_again version code_len before x rest rule =
    let regrouped : (le32 x.after ++ (le_entry version x.size ++ (le_entry version (length x.entries) ++ flat_map (le_entry version) x.entries))) ++ rest ≡ le32 x.after ++ (le_entry version x.size ++ (le_entry version (length x.entries) ++ (flat_map (le_entry version) x.entries ++ rest))) = simp append_assoc in
    ap (desc_at version code_len before) regrouped
    ∙ rw ((after_field code_len before).again x.after _ rule.after, (size_field version).again x.size _ rule.size, (wide_field version).again (length x.entries) _ rule.few, rows_again (entry_at version x.size) (le_entry version) (EntryRule version x.size) (entry_field version x.size) [] x.entries rest rule.entries) refl

pub desc_field : (version code_len : ℕ) (before : List Desc) → IsField (desc_at version code_len before) (desc_bytes version) (DescRule version code_len before)
desc_field version code_len before = record { takes = desc_takes version code_len before; again = desc_again version code_len before }
