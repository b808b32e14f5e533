-- Each body and each section reads what is spelled so, and nothing else.
use Rattle.std.proofs.Common.{◌≡◌, ℕ, ◌*◌, ◌/◌, ◌%◌, ◌^◌, ◌<◌, ◌≤◌, true, false, ltb, eqb, List, [], ◌∷◌, ◌++◌, length, take, drop, max, fold, Result, Ok, Err, refl, sym, ap, subst, ◌∙◌, append_assoc, arith, inl, inr}
use Rattle.std.specs.Bool.{Decides}
use Rattle.std.specs.List.{flat_map, AllByRecursion}
use Rattle.std.specs.Int.{w32, from_le_bytes}
use Rattle.std.specs.Str.{bytes_eq}
use Rattle.std.proofs.lemmas.Bool.{ltb-false, le-ltb, eqb-true, leb-true, le-leb}
use Rattle.std.proofs.lemmas.Bool.Decides.{Decides-and, Decides-or, Decides-eqb}
use Rattle.std.proofs.lemmas.List.{take_at, drop_at, take-append-drop, length-append, length-take, append-nil, nil_from_length}
use Rattle.std.proofs.lemmas.Nat.{le_bytes_4, from_le_bytes-to_le_bytes_4}
use Rattle.std.proofs.lemmas.Slice.Eq.{bytes_eq-Decides}
use Rattle.bs_fault.specs.declared.image.ImageFault.{ImageFault}
use Rattle.bs_fault.specs.declared.image.ImageFault.TheVariants as faults
use Rattle.bs_fault.specs.declared.image.ImageRefusal.{ImageRefusal}
use Rattle.image_codec.specs.declared.reading.Limits.{Limits}
use Rattle.image_form.specs.Tables.{Func}
use Rattle.image_form.specs.Image.{le32, table_bytes, section_bytes, function_end, stub_words, IsVersion}
use Rattle.image_form.specs.Fields.{number_at, rows_at, table_at, words_of_body}
use Rattle.image_codec.specs.Reading.{refused, whole_at, after_mark, is_version, version_at, is_within_limits, length_at, section_at, placed, part_at, code_least, code_limits}
use Rattle.image_form.proofs.Lengths.{length-le32, length-words}
use Rattle.image_codec.proofs.Takes.{IsBytes, IsBytes-drop, IsBytes-take, bind_ok, guard_ok, passed_ok, ok_is, Takes, Takes-then, IsField, AllAfter, rows_take, rows_again}
use Rattle.image_codec.proofs.FieldLaws.{u32_field, each_from, each_to}

-- A body of a length within the limits reads what is spelled so and keeps a rule, and nothing else.
pub record IsBody {A : Type 0} (body : List ℕ → Result A ℕ) (spell : A → List ℕ) (limits : Limits) (Fits : A → Type 0) : Type 0 where
  pub takes : (bytes : List ℕ) (x : A) → IsBytes bytes → is_within_limits limits (length bytes) ≡ true → body bytes ≡ Ok x → (bytes ≡ spell x) × Fits x
  pub again : (x : A) → Fits x → body (spell x) ≡ Ok x

-- ---- tables

-- the rows keep their rules, and their number fits
pub record AreRows {A : Type 0} (Rule : List A → A → Type 0) (rows : List A) : Type 0 where
  pub count : length rows < 2 ^ 32
  pub rules : AllAfter Rule [] rows

module _ {A : Type 0} (row : List A → List ℕ → Result (A × List ℕ) ℕ) (spell : A → List ℕ) (Rule : List A → A → Type 0) (is : (before : List A) → IsField (row before) spell (Rule before)) where
  table_takes : (bytes : List ℕ) (rows : List A) → IsBytes bytes → table_at row bytes ≡ Ok rows → (bytes ≡ table_bytes spell rows) × AreRows Rule rows
  unfolding table_at table_bytes
  table_takes bytes rows fits e =
      let a = bind_ok (number_at w32 bytes) _ rows e in
      let t = u32_field.takes bytes a.0.0 a.0.1 fits a.1 in
      let b = bind_ok (rows_at row [] a.0.0 a.0.1) _ rows a.2 in
      let g = passed_ok (eqb (length b.0.1) 0) (length b.0.1) b.0.0 rows b.2 in
      let r = rows_take row spell Rule is [] a.0.0 a.0.1 b.0.0 b.0.1 t.0.rest_fits b.1 in
      let same : r.rows ≡ rows = sym r.all_is ∙ g.1 in
      let nothing : b.0.1 ≡ [] = nil_from_length b.0.1 (eqb-true _ _ g.0) in
      let parts = (Takes-then bytes (le32 a.0.0) a.0.1 (flat_map spell r.rows) b.0.1 t.0 r.takes).parts in
      let whole : bytes ≡ le32 (length r.rows) ++ flat_map spell r.rows =
      parts ∙ ap (λ (x : List ℕ). (le32 a.0.0 ++ flat_map spell r.rows) ++ x) nothing ∙ append-nil (le32 a.0.0 ++ flat_map spell r.rows) ∙ ap (λ (n : ℕ). le32 n ++ flat_map spell r.rows) (sym r.count) in
      subst (λ (xs : List A). (bytes ≡ le32 (length xs) ++ flat_map spell xs) × AreRows Rule xs) same (whole, record { count = omega (arith, r.count, t.1); rules = r.rules })

  table_again : (rows : List A) → AreRows Rule rows → table_at row (table_bytes spell rows) ≡ Ok rows
  unfolding table_at table_bytes
  table_again rows are =
      let rows-read : rows_at row [] (length rows) (flat_map spell rows) ≡ Ok (rows, []) = subst (λ (t : List ℕ). rows_at row [] (length rows) t ≡ Ok (rows, [])) (append-nil (flat_map spell rows)) (rows_again row spell Rule is [] rows [] are.rules) in
      rw (u32_field.again (length rows) (flat_map spell rows) are.count, rows-read) refl

  pub table_body : (limits : Limits) → IsBody (table_at row) (table_bytes spell) limits (AreRows Rule)
  table_body limits = record { takes = λ bytes rows fits within e. table_takes bytes rows fits e; again = table_again }

-- ---- words

within_decides : (limits : Limits) (n : ℕ) → Decides (is_within_limits limits n) ((n % limits.step ≡ 0) × ((limits.least ≤ n) × (n ≤ limits.most)))
within_decides limits n = Decides-and _ _ (Decides-eqb (n % limits.step) 0) (Decides-and _ _ (leb-true limits.least n, le-leb limits.least n) (leb-true n limits.most, le-leb n limits.most))

pub record IsWithin (limits : Limits) (n : ℕ) : Type 0 where
  pub step : n % limits.step ≡ 0
  pub least : limits.least ≤ n
  pub most : n ≤ limits.most

pub within_from : (limits : Limits) (n : ℕ) → is_within_limits limits n ≡ true → IsWithin limits n
within_from limits n e = let h = (within_decides limits n).0 e in record { step = h.0; least = h.1.0; most = h.1.1 }

pub within_to : (limits : Limits) (n : ℕ) → IsWithin limits n → is_within_limits limits n ≡ true
within_to limits n is = (within_decides limits n).1 (is.step, (is.least, is.most))

abbrev Word : List ℕ → ℕ → Type 0
Word before n = n < 2 ^ 32

words_takes : (bytes words : List ℕ) → IsBytes bytes → length bytes % 4 ≡ 0 → words_of_body bytes ≡ Ok words → (bytes ≡ flat_map le32 words) × AllByRecursion (λ w. w < 2 ^ 32) words
unfolding words_of_body
words_takes bytes words fits whole e =
    let a = bind_ok (rows_at (λ _. number_at w32) [] (length bytes / 4) bytes) _ words e in
    let r = rows_take (λ _. number_at w32) le32 Word (λ _. u32_field) [] (length bytes / 4) bytes a.0.0 a.0.1 fits a.1 in
    let same : r.rows ≡ words = sym r.all_is ∙ ok_is a.0.0 words a.2 in
    let none : length a.0.1 ≡ 0 = omega (arith, r.count, length-words r.rows, length-append (flat_map le32 r.rows) a.0.1, ap length r.takes.parts) in
    let nothing : a.0.1 ≡ [] = nil_from_length a.0.1 none in
    let all : bytes ≡ flat_map le32 r.rows = r.takes.parts ∙ ap (λ (x : List ℕ). flat_map le32 r.rows ++ x) nothing ∙ append-nil (flat_map le32 r.rows) in
    subst (λ (ws : List ℕ). (bytes ≡ flat_map le32 ws) × AllByRecursion (λ w. w < 2 ^ 32) ws) same (all, each_from (λ w. w < 2 ^ 32) [] r.rows r.rules)

words_again : (words : List ℕ) → AllByRecursion (λ w. w < 2 ^ 32) words → words_of_body (flat_map le32 words) ≡ Ok words
unfolding words_of_body
words_again words all =
    let count : length (flat_map le32 words) / 4 ≡ length words = omega (arith, length-words words) in
    let read : rows_at (λ _. number_at w32) [] (length words) (flat_map le32 words) ≡ Ok (words, []) = subst (λ (t : List ℕ). rows_at (λ _. number_at w32) [] (length words) t ≡ Ok (words, [])) (append-nil (flat_map le32 words)) (rows_again (λ _. number_at w32) le32 Word (λ _. u32_field) [] words [] (each_to (λ w. w < 2 ^ 32) [] words all)) in
    rw (count, read) refl

pub words_body : (funcs : List Func) → IsBody words_of_body (flat_map le32) (code_limits funcs) (AllByRecursion (λ w. w < 2 ^ 32))
words_body funcs = record { takes = λ bytes words fits within e. words_takes bytes words fits (within_from (code_limits funcs) (length bytes) within).step e; again = words_again }

pub data_body : (limits : Limits) → IsBody (λ body. Ok body) (λ bytes. bytes) limits (λ bytes. Unit {0})
data_body limits = record { takes = λ bytes x fits within e. (ok_is bytes x e, tt); again = λ x fits. refl }

-- ---- sections

whole_takes : (total n : ℕ) (bytes text rest : List ℕ) → IsBytes bytes → whole_at total n bytes ≡ Ok (text, rest) → Takes bytes text rest × ((length text ≡ n) × IsBytes text)
unfolding whole_at
whole_takes total n bytes text rest fits e =
    let g = guard_ok (ltb (length bytes) n) (record { fault = faults.Truncated; at = total }) (take n bytes, drop n bytes) (text, rest) e in
    let long : n ≤ length bytes = ltb-false _ _ g.0 in
    subst (λ (p : List ℕ × List ℕ). Takes bytes p.0 p.1 × ((length p.0 ≡ n) × IsBytes p.0)) g.1
    (record { parts = sym (take-append-drop n bytes); rest_fits = IsBytes-drop n bytes fits }, (omega (arith, length-take n bytes), IsBytes-take n bytes fits))

whole_again : (total n : ℕ) (text rest : List ℕ) → length text ≡ n → whole_at total n (text ++ rest) ≡ Ok (text, rest)
unfolding whole_at
whole_again total n text rest len =
    let long : ltb (length (text ++ rest)) n ≡ false = le-ltb _ _ (omega (arith, length-append text rest)) in
    rw (long, take_at text rest n len, drop_at text rest n len) refl

pub mark_takes : (total : ℕ) (fault : ImageFault) (mark bytes rest : List ℕ) → IsBytes bytes → after_mark total fault mark bytes ≡ Ok rest → Takes bytes mark rest
unfolding after_mark
mark_takes total fault mark bytes rest fits e =
    let a = bind_ok (whole_at total (length mark) bytes) _ rest e in
    let t = whole_takes total (length mark) bytes a.0.0 a.0.1 fits a.1 in
    let g = passed_ok (bytes_eq a.0.0 mark) (refused fault total bytes) a.0.1 rest a.2 in
    subst (λ (r : List ℕ). Takes bytes mark r) g.1 (subst (λ (m : List ℕ). Takes bytes m a.0.1) ((bytes_eq-Decides a.0.0 mark).0 g.0) t.0)

pub mark_again : (total : ℕ) (fault : ImageFault) (mark rest : List ℕ) → after_mark total fault mark (mark ++ rest) ≡ Ok rest
unfolding after_mark
mark_again total fault mark rest = rw (whole_again total (length mark) mark rest refl, (bytes_eq-Decides mark mark).1 refl) refl

version_decides : (n : ℕ) → Decides (is_version n) (IsVersion n)
version_decides n = Decides-or _ _ (Decides-eqb n 1) (Decides-eqb n 2)

pub version_takes : (total : ℕ) (bytes : List ℕ) (n : ℕ) (rest : List ℕ) → IsBytes bytes → version_at total bytes ≡ Ok (n, rest) → Takes bytes (le32 n) rest × IsVersion n
unfolding version_at le32
version_takes total bytes n rest fits e =
    let a = bind_ok (whole_at total 4 bytes) _ (n, rest) e in
    let t = whole_takes total 4 bytes a.0.0 a.0.1 fits a.1 in
    let g = passed_ok (is_version (from_le_bytes w32 a.0.0)) (refused faults.Version total bytes) (from_le_bytes w32 a.0.0, a.0.1) (n, rest) a.2 in
    let text : a.0.0 ≡ le32 (from_le_bytes w32 a.0.0) = sym (le_bytes_4 a.0.0 _ t.1.0 t.1.1 refl) in
    subst (λ (p : ℕ × List ℕ). Takes bytes (le32 p.0) p.1 × IsVersion p.0) g.1 (subst (λ (m : List ℕ). Takes bytes m a.0.1) text t.0, (version_decides _).0 g.0)

length_takes : (total : ℕ) (limits : Limits) (bytes : List ℕ) (n : ℕ) (rest : List ℕ) → IsBytes bytes → length_at total limits bytes ≡ Ok (n, rest) → Takes bytes (le32 n) rest × (is_within_limits limits n ≡ true)
unfolding length_at le32
length_takes total limits bytes n rest fits e =
    let a = bind_ok (whole_at total 4 bytes) _ (n, rest) e in
    let t = whole_takes total 4 bytes a.0.0 a.0.1 fits a.1 in
    let g = passed_ok (is_within_limits limits (from_le_bytes w32 a.0.0)) (refused faults.Table total bytes) (from_le_bytes w32 a.0.0, a.0.1) (n, rest) a.2 in
    let text : a.0.0 ≡ le32 (from_le_bytes w32 a.0.0) = sym (le_bytes_4 a.0.0 _ t.1.0 t.1.1 refl) in
    subst (λ (p : ℕ × List ℕ). Takes bytes (le32 p.0) p.1 × (is_within_limits limits p.0 ≡ true)) g.1 (subst (λ (m : List ℕ). Takes bytes m a.0.1) text t.0, g.0)

number_back : (n : ℕ) → n < 2 ^ 32 → from_le_bytes w32 (le32 n) ≡ n
unfolding le32
number_back n lt = from_le_bytes-to_le_bytes_4 n lt

version_small : (n : ℕ) → IsVersion n → n < 2 ^ 32
version_small n (inl one) = omega arith
version_small n (inr two) = omega arith

pub version_again : (total n : ℕ) (rest : List ℕ) → IsVersion n → version_at total (le32 n ++ rest) ≡ Ok (n, rest)
unfolding version_at
version_again total n rest is =
    rw (whole_again total 4 (le32 n) rest (length-le32 n), number_back n (version_small n is), (version_decides n).1 is) refl

length_again : (total : ℕ) (limits : Limits) (n : ℕ) (rest : List ℕ) → n < 2 ^ 32 → is_within_limits limits n ≡ true → length_at total limits (le32 n ++ rest) ≡ Ok (n, rest)
unfolding length_at
length_again total limits n rest lt within =
    rw (whole_again total 4 (le32 n) rest (length-le32 n), number_back n lt, within) refl

-- what reading a section gave
record TakesSection (name : List ℕ) (limits : Limits) (bytes body rest : List ℕ) : Type 0 where
  takes : Takes bytes (section_bytes name body) rest
  within : is_within_limits limits (length body) ≡ true
  fits : IsBytes body

section_takes : (total : ℕ) (name : List ℕ) (limits : Limits) (bytes body rest : List ℕ) → IsBytes bytes → section_at total name limits bytes ≡ Ok (body, rest) → TakesSection name limits bytes body rest
unfolding section_at section_bytes
section_takes total name limits bytes body rest fits e =
    let a = bind_ok (after_mark total faults.Section name bytes) _ (body, rest) e in
    let t = mark_takes total faults.Section name bytes a.0 fits a.1 in
    let b = bind_ok (length_at total limits a.0) _ (body, rest) a.2 in
    let u = length_takes total limits a.0 b.0.0 b.0.1 t.rest_fits b.1 in
    let v = whole_takes total b.0.0 b.0.1 body rest u.0.rest_fits b.2 in
    let len : b.0.0 ≡ length body = sym v.1.0 in
    let both = Takes-then a.0 (le32 b.0.0) b.0.1 body rest u.0 v.0 in
    record {
      takes = subst (λ (n : ℕ). Takes bytes (name ++ (le32 n ++ body)) rest) len (Takes-then bytes name a.0 _ rest t both);
      within = subst (λ (n : ℕ). is_within_limits limits n ≡ true) len u.1;
      fits = v.1.1;
    }

section_again : (total : ℕ) (name : List ℕ) (limits : Limits) (body rest : List ℕ) → length body < 2 ^ 32 → is_within_limits limits (length body) ≡ true → section_at total name limits (section_bytes name body ++ rest) ≡ Ok (body, rest)
unfolding section_at section_bytes
section_again total name limits body rest lt within =
    let regrouped : (name ++ (le32 (length body) ++ body)) ++ rest ≡ name ++ (le32 (length body) ++ (body ++ rest)) = simp append_assoc in
    ap (section_at total name limits) regrouped
    ∙ rw (mark_again total faults.Section name (le32 (length body) ++ (body ++ rest)), length_again total limits (length body) (body ++ rest) lt within, whole_again total (length body) body rest refl) refl

-- ---- parts

placed_ok : {A : Type 0} (total : ℕ) (behind : List ℕ) (r : Result A ℕ) (x : A) → placed total behind r ≡ Ok x → r ≡ Ok x
placed_ok total behind (Ok y) x e = cc
placed_ok total behind (Err n) x e = absurd cc

abbrev pub kept_part : {X : Type 0} → X → Result X ImageRefusal
kept_part x = Ok x

pub part_is : {X : Type 0} (x y : X) → kept_part x ≡ kept_part y → x ≡ y
part_is x y e = cc

-- what reading a section and its body gave
pub record TakesPart {A : Type 0} (name : List ℕ) (spell : A → List ℕ) (limits : Limits) (Fits : A → Type 0) (bytes : List ℕ) (x : A) (rest : List ℕ) : Type 0 where
  pub takes : Takes bytes (section_bytes name (spell x)) rest
  pub within : IsWithin limits (length (spell x))
  pub fits : Fits x

module _ {A : Type 0} (read : List ℕ → Result A ℕ) (spell : A → List ℕ) (limits : Limits) (Fits : A → Type 0) (is : IsBody read spell limits Fits) (total : ℕ) (name : List ℕ) where
  pub part_takes : (bytes : List ℕ) (x : A) (rest : List ℕ) → IsBytes bytes → part_at total name limits read bytes ≡ Ok (x, rest) → TakesPart name spell limits Fits bytes x rest
  unfolding part_at
  part_takes bytes x rest fits e =
      let a = bind_ok (section_at total name limits bytes) _ (x, rest) e in
      let t = section_takes total name limits bytes a.0.0 a.0.1 fits a.1 in
      let b = bind_ok (placed total a.0.1 (read a.0.0)) _ (x, rest) a.2 in
      let u = is.takes a.0.0 b.0 t.fits t.within (placed_ok total a.0.1 (read a.0.0) b.0 b.1) in
      let made : A × List ℕ = (b.0, a.0.1) in
      subst (λ (p : A × List ℕ). TakesPart name spell limits Fits bytes p.0 p.1) (part_is made (x, rest) b.2)
      (record { takes = subst (λ (m : List ℕ). Takes bytes (section_bytes name m) a.0.1) u.0 t.takes; within = within_from limits _ (subst (λ (m : List ℕ). is_within_limits limits (length m) ≡ true) u.0 t.within); fits = u.1 })

  pub part_again : (x : A) (rest : List ℕ) → Fits x → length (spell x) < 2 ^ 32 → IsWithin limits (length (spell x)) → part_at total name limits read (section_bytes name (spell x) ++ rest) ≡ Ok (x, rest)
  unfolding part_at
  part_again x rest fits lt within = rw (section_again total name limits (spell x) rest lt (within_to limits _ within), is.again x fits) refl

-- ---- the least length of the code

least_from : (a n : ℕ) (funcs : List Func) → fold (λ m f. max m (function_end f)) a funcs ≤ n → (a ≤ n) × AllByRecursion (λ f. function_end f ≤ n) funcs
least_from a n [] le = (le, tt)
least_from a n (f ∷ funcs) le =
    let h = least_from (max a (function_end f)) n funcs le in
    (omega (arith, h.0), (omega (arith, h.0), h.1))

least_to : (a n : ℕ) (funcs : List Func) → a ≤ n → AllByRecursion (λ f. function_end f ≤ n) funcs → fold (λ m f. max m (function_end f)) a funcs ≤ n
least_to a n [] le all = le
least_to a n (f ∷ funcs) le all = least_to (max a (function_end f)) n funcs (omega (arith, all.0)) all.1

pub code_least_from : (n : ℕ) (funcs : List Func) → code_least funcs ≤ n → (4 * stub_words ≤ n) × AllByRecursion (λ f. function_end f ≤ n) funcs
unfolding code_least
code_least_from n funcs le = least_from (4 * stub_words) n funcs le

pub code_least_to : (n : ℕ) (funcs : List Func) → 4 * stub_words ≤ n → AllByRecursion (λ f. function_end f ≤ n) funcs → code_least funcs ≤ n
unfolding code_least
code_least_to n funcs le all = least_to (4 * stub_words) n funcs le all
