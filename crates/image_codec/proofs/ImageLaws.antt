-- What is read is an image and its bytes, and the bytes of each image are read as it.
use Rattle.std.proofs.Common.{◌≡◌, ℕ, ◌*◌, ◌^◌, ◌<◌, ◌≤◌, Bool, true, cond, eqb, List, [], ◌++◌, length, Result, Ok, Err, sym, ap, subst, ◌∙◌, arith}
use Rattle.std.specs.Prelude.{codes, IfOk, IfErr}
use Rattle.std.specs.List.{flat_map, AllByRecursion}
use Rattle.std.proofs.lemmas.Bool.{eqb-true}
use Rattle.std.proofs.lemmas.List.{append-nil, nil_from_length}
use Rattle.bs_fault.specs.declared.image.ImageFault.{ImageFault}
use Rattle.bs_fault.specs.declared.image.ImageFault.TheVariants as faults
use Rattle.bs_fault.specs.declared.image.ImageRefusal.{ImageRefusal}
use Rattle.image_codec.specs.declared.reading.Limits.{Limits}
use Rattle.image_form.specs.declared.image.Image as declared
use Rattle.image_form.specs.declared.fault.ImageError.{ImageError}
use Rattle.image_form.specs.declared.fault.ImageError.TheVariants as errors
use Rattle.image_form.specs.Tables.{Tables, tables, func_names, sym_names}
use Rattle.image_form.specs.Image.{le32, func_bytes, sym_bytes, ext_bytes, desc_bytes, table_bytes, section_bytes, tables_bytes, magic, IsVersion, AreTables, IsImage, image_bytes, table_limit}
use Rattle.image_form.specs.Fields.{◌>>=◌, func_at, sym_at, root_offset_field, ext_at, desc_at, table_at, words_of_body}
use Rattle.image_codec.specs.Reading.{ReadsImagePart, IsRefusalOf, refused, after_mark, version_at, part_at, table_limits, data_limits, code_limits, code_least, image_reading}
use Rattle.image_form.proofs.Differ.{apart, along}
use Rattle.image_form.proofs.Lengths.{length-words, few, func_nonempty, sym_nonempty, ext_nonempty, desc_nonempty, le32_nonempty}
use Rattle.image_codec.proofs.Takes.{IsBytes, bind_ok, passed_ok, Takes, Takes-then}
use Rattle.image_codec.proofs.RowLaws.{FuncRule, SymRule, RootRule, ExtRule, DescRule, func_field, sym_field, root_field, ext_field, desc_field}
use Rattle.image_codec.proofs.Rules.{new_append, new_parts, differ_from, differ_to, funcs_from, funcs_to, syms_from, syms_to, roots_from, roots_to, extcs_from, extcs_to, descs_from, descs_to}
use Rattle.image_codec.proofs.PartLaws.{IsBody, AreRows, table_body, words_body, data_body, IsWithin, mark_takes, mark_again, version_takes, version_again, TakesPart, part_takes, part_again, kept_part, code_least_from, code_least_to}

abbrev AreWords : List ℕ → Type 0
AreWords = AllByRecursion (λ w. w < 2 ^ 32)

-- what the reading tests
record AreRead (t : Tables) : Type 0 where
  version : IsVersion t.version
  funcs : AreRows FuncRule t.funcs
  funcs_within : IsWithin table_limits (length (table_bytes func_bytes t.funcs))
  code : AreWords t.code
  code_within : IsWithin (code_limits t.funcs) (length (flat_map le32 t.code))
  bytes_within : IsWithin data_limits (length t.bytes)
  syms : AreRows (SymRule (func_names t.funcs) (length t.bytes)) t.syms
  syms_within : IsWithin table_limits (length (table_bytes sym_bytes t.syms))
  roots : AreRows (RootRule (length t.bytes)) t.roots
  roots_within : IsWithin table_limits (length (table_bytes le32 t.roots))
  extcs : AreRows ExtRule t.extcs
  extcs_within : IsWithin table_limits (length (table_bytes ext_bytes t.extcs))
  descs : AreRows (DescRule t.version (4 * length t.code)) t.descs
  descs_within : IsWithin table_limits (length (table_bytes (desc_bytes t.version) t.descs))

tables_from : (t : Tables) → AreRead t → AreTables t
tables_from t r =
    let funcs = funcs_from t.funcs r.funcs.rules in
    let syms = syms_from (func_names t.funcs) (length t.bytes) t.syms r.syms.rules in
    let roots = roots_from (length t.bytes) t.roots r.roots.rules in
    let extcs = extcs_from t.extcs r.extcs.rules in
    let descs = descs_from t.version (4 * length t.code) t.descs r.descs.rules in
    let long : code_least t.funcs ≤ 4 * length t.code = omega (arith, r.code_within.least, length-words t.code) in
    let least = code_least_from (4 * length t.code) t.funcs long in
    record {
      version = r.version;
      funcs = record { each = funcs.each; in_order = funcs.in_order; in_code = least.1; short = r.funcs_within.most };
      code = record { words = r.code; stub = least.0; short = omega (arith, r.code_within.most, length-words t.code) };
      bytes = record { begins = r.bytes_within.least; short = r.bytes_within.most };
      syms = record { each = syms.each; in_order = syms.in_order; short = r.syms_within.most };
      names_differ = apart _ (differ_from (func_names t.funcs ++ sym_names t.syms) (new_append [] (func_names t.funcs) (sym_names t.syms) funcs.names syms.new));
      roots = record { each = roots.each; rising = roots.rising; short = r.roots_within.most };
      extcs = record { each = extcs.each; differ = apart _ extcs.differ; short = r.extcs_within.most };
      descs = record { each = descs.each; rising = descs.rising; short = r.descs_within.most };
    }

table_within : (n : ℕ) → n ≤ table_limit → IsWithin table_limits n
table_within n le = record { step = omega arith; least = omega arith; most = le }

tables_to : (t : Tables) → AreTables t → AreRead t
tables_to t is =
    let names = new_parts [] (func_names t.funcs) (sym_names t.syms) (differ_to (func_names t.funcs ++ sym_names t.syms) (along _ is.names_differ)) in
    let code_small : 4 * length t.code < 2 ^ 32 = omega (arith, is.code.short) in
    let data_small : length t.bytes < 2 ^ 32 = omega (arith, is.bytes.short) in
    record {
      version = is.version;
      funcs = record { count = few func_bytes t.funcs func_nonempty is.funcs.short; rules = funcs_to (4 * length t.code) t.funcs code_small (record { each = is.funcs.each; in_order = is.funcs.in_order; names = names.0 }) is.funcs.in_code };
      funcs_within = table_within _ is.funcs.short;
      code = is.code.words;
      code_within = record {
        step = omega (arith, length-words t.code);
        least = omega (arith, length-words t.code, code_least_to (4 * length t.code) t.funcs is.code.stub is.funcs.in_code);
        most = omega (arith, length-words t.code, is.code.short);
      };
      bytes_within = record { step = omega arith; least = is.bytes.begins; most = is.bytes.short };
      syms = record { count = few sym_bytes t.syms sym_nonempty is.syms.short; rules = syms_to (func_names t.funcs) (length t.bytes) t.syms data_small (record { each = is.syms.each; in_order = is.syms.in_order; new = names.1 }) };
      syms_within = table_within _ is.syms.short;
      roots = record { count = few le32 t.roots le32_nonempty is.roots.short; rules = roots_to (length t.bytes) t.roots data_small (record { each = is.roots.each; rising = is.roots.rising }) };
      roots_within = table_within _ is.roots.short;
      extcs = record { count = few ext_bytes t.extcs ext_nonempty is.extcs.short; rules = extcs_to t.extcs (record { each = is.extcs.each; differ = along _ is.extcs.differ }) };
      extcs_within = table_within _ is.extcs.short;
      descs = record { count = few (desc_bytes t.version) t.descs (desc_nonempty t.version) is.descs.short; rules = descs_to t.version (4 * length t.code) t.descs code_small (record { each = is.descs.each; rising = is.descs.rising }) };
      descs_within = table_within _ is.descs.short;
    }

-- ---- the reading

-- Where a mark or a section was read and the reading went on, what follows from both holds. (The value
-- and the rest are variables there, so that terms stay small.)
mark_then : {Y : Type 0} (G : Type 0) (total : ℕ) (fault : ImageFault) (mark bytes : List ℕ) (k : List ℕ → Result Y ImageRefusal) (y : Y) → IsBytes bytes → (after_mark total fault mark bytes >>= k) ≡ Ok y
    → ((rest : List ℕ) → Takes bytes mark rest → k rest ≡ Ok y → G) → G
mark_then G total fault mark bytes k y fits e next =
    let a = bind_ok (after_mark total fault mark bytes) k y e in
    next a.0 (mark_takes total fault mark bytes a.0 fits a.1) a.2

version_then : {Y : Type 0} (G : Type 0) (total : ℕ) (bytes : List ℕ) (k : ℕ × List ℕ → Result Y ImageRefusal) (y : Y) → IsBytes bytes → (version_at total bytes >>= k) ≡ Ok y
    → ((version : ℕ) (rest : List ℕ) → Takes bytes (le32 version) rest → IsVersion version → k (version, rest) ≡ Ok y → G) → G
version_then G total bytes k y fits e next =
    let a = bind_ok (version_at total bytes) k y e in
    let t = version_takes total bytes a.0.0 a.0.1 fits a.1 in
    next a.0.0 a.0.1 t.0 t.1 a.2

part_then : {A Y : Type 0} (G : Type 0) (read : List ℕ → Result A ℕ) (spell : A → List ℕ) (limits : Limits) (Fits : A → Type 0) → IsBody read spell limits Fits → (total : ℕ) (name bytes : List ℕ)
    (k : A × List ℕ → Result Y ImageRefusal) (y : Y) → IsBytes bytes → (part_at total name limits read bytes >>= k) ≡ Ok y
    → ((value : A) (rest : List ℕ) → TakesPart name spell limits Fits bytes value rest → k (value, rest) ≡ Ok y → G) → G
part_then G read spell limits Fits is total name bytes k y fits e next =
    let a = bind_ok (part_at total name limits read bytes) k y e in
    next a.0.0 a.0.1 (part_takes read spell limits Fits is total name bytes a.0.0 a.0.1 fits a.1) a.2

ended : (b : Bool) (refusal : ImageRefusal) (made t : Tables) → cond b (Ok made) (Err refusal) ≡ Ok t → (b ≡ true) × (made ≡ t)
ended b refusal made t e = passed_ok b refusal made t e

func_body : IsBody (table_at func_at) (table_bytes func_bytes) table_limits (AreRows FuncRule)
func_body = table_body func_at func_bytes FuncRule func_field table_limits

sym_body : (names : List (List ℕ)) (data_len : ℕ) → IsBody (table_at (sym_at names data_len)) (table_bytes sym_bytes) table_limits (AreRows (SymRule names data_len))
sym_body names data_len = table_body (sym_at names data_len) sym_bytes (SymRule names data_len) (sym_field names data_len) table_limits

root_body : (data_len : ℕ) → IsBody (table_at (root_offset_field data_len)) (table_bytes le32) table_limits (AreRows (RootRule data_len))
root_body data_len = table_body (root_offset_field data_len) le32 (RootRule data_len) (root_field data_len) table_limits

ext_body : IsBody (table_at ext_at) (table_bytes ext_bytes) table_limits (AreRows ExtRule)
ext_body = table_body ext_at ext_bytes ExtRule ext_field table_limits

desc_body : (version code_len : ℕ) → IsBody (table_at (desc_at version code_len)) (table_bytes (desc_bytes version)) table_limits (AreRows (DescRule version code_len))
desc_body version code_len = table_body (desc_at version code_len) (desc_bytes version) (DescRule version code_len) (desc_field version code_len) table_limits

-- nine parts one after the other, with nothing after them
chained : (bytes a b c d e f g h i x0 x1 x2 x3 x4 x5 x6 x7 rest : List ℕ) → Takes bytes a x0 → Takes x0 b x1 → Takes x1 c x2 → Takes x2 d x3 → Takes x3 e x4 → Takes x4 f x5 → Takes x5 g x6 → Takes x6 h x7 → Takes x7 i rest → rest ≡ []
    → bytes ≡ a ++ (b ++ (c ++ (d ++ (e ++ (f ++ (g ++ (h ++ i)))))))
chained bytes a b c d e f g h i x0 x1 x2 x3 x4 x5 x6 x7 rest t0 t1 t2 t3 t4 t5 t6 t7 t8 nothing =
    let u7 = Takes-then x6 h x7 i rest t7 t8 in
    let u6 = Takes-then x5 g x6 _ rest t6 u7 in
    let u5 = Takes-then x4 f x5 _ rest t5 u6 in
    let u4 = Takes-then x3 e x4 _ rest t4 u5 in
    let u3 = Takes-then x2 d x3 _ rest t3 u4 in
    let u2 = Takes-then x1 c x2 _ rest t2 u3 in
    let u1 = Takes-then x0 b x1 _ rest t1 u2 in
    let u0 = Takes-then bytes a x0 _ rest t0 u1 in
    let all : List ℕ = a ++ (b ++ (c ++ (d ++ (e ++ (f ++ (g ++ (h ++ i))))))) in
    u0.parts ∙ ap (λ (r : List ℕ). all ++ r) nothing ∙ append-nil all

reading_takes : (bytes : List ℕ) (t : Tables) → IsBytes bytes → image_reading bytes ≡ Ok t → AreRead t × (bytes ≡ tables_bytes t)
unfolding image_reading tables_bytes
reading_takes bytes t fits e =
    let total = length bytes in
    let G : Type 0 = AreRead t × (bytes ≡ tables_bytes t) in
    mark_then G total faults.Magic magic bytes _ t fits e (λ x0 t0 e0.
    version_then G total x0 _ t t0.rest_fits e0 (λ version x1 t1 is-version e1.
    part_then G (table_at func_at) (table_bytes func_bytes) table_limits (AreRows FuncRule) func_body total (codes "FUNC") x1 _ t t1.rest_fits e1 (λ funcs x2 f e2.
    part_then G words_of_body (flat_map le32) (code_limits funcs) AreWords (words_body funcs) total (codes "CODE") x2 _ t f.takes.rest_fits e2 (λ code x3 c e3.
    part_then G (λ body. Ok body) (λ b. b) data_limits (λ b. Unit {0}) (data_body data_limits) total (codes "DATA") x3 _ t c.takes.rest_fits e3 (λ bytes' x4 d e4.
    part_then G (table_at (sym_at (func_names funcs) (length bytes'))) (table_bytes sym_bytes) table_limits (AreRows (SymRule (func_names funcs) (length bytes'))) (sym_body (func_names funcs) (length bytes')) total (codes "SYMS") x4 _ t d.takes.rest_fits e4 (λ syms x5 s e5.
    part_then G (table_at (root_offset_field (length bytes'))) (table_bytes le32) table_limits (AreRows (RootRule (length bytes'))) (root_body (length bytes')) total (codes "ROOT") x5 _ t s.takes.rest_fits e5 (λ roots x6 r e6.
    part_then G (table_at ext_at) (table_bytes ext_bytes) table_limits (AreRows ExtRule) ext_body total (codes "EXTC") x6 _ t r.takes.rest_fits e6 (λ extcs x7 x e7.
    part_then G (table_at (desc_at version (4 * length code))) (table_bytes (desc_bytes version)) table_limits (AreRows (DescRule version (4 * length code))) (desc_body version (4 * length code)) total (codes "DESC") x7 _ t x.takes.rest_fits e7 (λ descs x8 z e8.
    let made : Tables = record { version = version; funcs = funcs; code = code; bytes = bytes'; syms = syms; roots = roots; extcs = extcs; descs = descs } in
    let g = ended (eqb (length x8) 0) (refused faults.Trailing total x8) made t e8 in
    let nothing : x8 ≡ [] = nil_from_length x8 (eqb-true _ _ g.0) in
    let whole : bytes ≡ tables_bytes made = chained bytes magic (le32 version) _ _ _ _ _ _ _ x0 x1 x2 x3 x4 x5 x6 x7 x8 t0 t1 f.takes c.takes d.takes s.takes r.takes x.takes z.takes nothing in
    let read : AreRead made = record {
      version = is-version;
      funcs = f.fits;
      funcs_within = f.within;
      code = c.fits;
      code_within = c.within;
      bytes_within = d.within;
      syms = s.fits;
      syms_within = s.within;
      roots = r.fits;
      roots_within = r.within;
      extcs = x.fits;
      extcs_within = x.within;
      descs = z.fits;
      descs_within = z.within;
    } in
    subst (λ (u : Tables). AreRead u × (bytes ≡ tables_bytes u)) g.1 (read, whole))))))))))

mark_goes : {Y : Type 0} (total : ℕ) (fault : ImageFault) (mark rest : List ℕ) (k : List ℕ → Result Y ImageRefusal) → (after_mark total fault mark (mark ++ rest) >>= k) ≡ k rest
mark_goes total fault mark rest k = ap (λ r. r >>= k) (mark_again total fault mark rest)

version_goes : {Y : Type 0} (total version : ℕ) (rest : List ℕ) (k : ℕ × List ℕ → Result Y ImageRefusal) → IsVersion version → (version_at total (le32 version ++ rest) >>= k) ≡ k (version, rest)
version_goes total version rest k is = ap (λ r. r >>= k) (version_again total version rest is)

part_goes : {A Y : Type 0} (read : List ℕ → Result A ℕ) (spell : A → List ℕ) (limits : Limits) (Fits : A → Type 0) → IsBody read spell limits Fits → (total : ℕ) (name : List ℕ) (x : A) (rest : List ℕ)
    (k : A × List ℕ → Result Y ImageRefusal) → Fits x → length (spell x) < 2 ^ 32 → IsWithin limits (length (spell x)) → (part_at total name limits read (section_bytes name (spell x) ++ rest) >>= k) ≡ k (x, rest)
part_goes read spell limits Fits is total name x rest k fits lt within = ap (λ r. r >>= k) (part_again read spell limits Fits is total name x rest fits lt within)

table_small : (n : ℕ) → IsWithin table_limits n → n < 2 ^ 32
table_small n within = omega (arith, within.most)

reading_again : (t : Tables) → AreRead t → image_reading (tables_bytes t) ≡ Ok t
unfolding image_reading tables_bytes
reading_again t r =
    let total = length (tables_bytes t) in
    let x7 = section_bytes (codes "DESC") (table_bytes (desc_bytes t.version) t.descs) ++ [] in
    let x6 = section_bytes (codes "EXTC") (table_bytes ext_bytes t.extcs) ++ x7 in
    let x5 = section_bytes (codes "ROOT") (table_bytes le32 t.roots) ++ x6 in
    let x4 = section_bytes (codes "SYMS") (table_bytes sym_bytes t.syms) ++ x5 in
    let x3 = section_bytes (codes "DATA") t.bytes ++ x4 in
    let x2 = section_bytes (codes "CODE") (flat_map le32 t.code) ++ x3 in
    let x1 = section_bytes (codes "FUNC") (table_bytes func_bytes t.funcs) ++ x2 in
    let x0 = le32 t.version ++ x1 in
    let whole : tables_bytes t ≡ magic ++ x0 = ap (λ (end : List ℕ).
    magic ++ (le32 t.version ++ (section_bytes (codes "FUNC") (table_bytes func_bytes t.funcs) ++ (section_bytes (codes "CODE") (flat_map le32 t.code) ++ (section_bytes (codes "DATA") t.bytes
    ++ (section_bytes (codes "SYMS") (table_bytes sym_bytes t.syms) ++ (section_bytes (codes "ROOT") (table_bytes le32 t.roots) ++ (section_bytes (codes "EXTC") (table_bytes ext_bytes t.extcs) ++ end)))))))) (sym (append-nil (section_bytes (codes "DESC") (table_bytes (desc_bytes t.version) t.descs)))) in
    let code_small : length (flat_map le32 t.code) < 2 ^ 32 = omega (arith, r.code_within.most) in
    let data_small : length t.bytes < 2 ^ 32 = omega (arith, r.bytes_within.most) in
    ap image_reading whole
    ∙ mark_goes _ faults.Magic magic x0 _
    ∙ version_goes _ t.version x1 _ r.version
    ∙ part_goes (table_at func_at) (table_bytes func_bytes) table_limits (AreRows FuncRule) func_body _ (codes "FUNC") t.funcs x2 _ r.funcs (table_small _ r.funcs_within) r.funcs_within
    ∙ part_goes words_of_body (flat_map le32) (code_limits t.funcs) AreWords (words_body t.funcs) _ (codes "CODE") t.code x3 _ r.code code_small r.code_within
    ∙ part_goes (λ body. Ok body) (λ b. b) data_limits (λ b. Unit {0}) (data_body data_limits) _ (codes "DATA") t.bytes x4 _ tt data_small r.bytes_within
    ∙ part_goes (table_at (sym_at (func_names t.funcs) (length t.bytes))) (table_bytes sym_bytes) table_limits (AreRows (SymRule (func_names t.funcs) (length t.bytes))) (sym_body (func_names t.funcs) (length t.bytes)) _ (codes "SYMS") t.syms x5 _ r.syms (table_small _ r.syms_within) r.syms_within
    ∙ part_goes (table_at (root_offset_field (length t.bytes))) (table_bytes le32) table_limits (AreRows (RootRule (length t.bytes))) (root_body (length t.bytes)) _ (codes "ROOT") t.roots x6 _ r.roots (table_small _ r.roots_within) r.roots_within
    ∙ part_goes (table_at ext_at) (table_bytes ext_bytes) table_limits (AreRows ExtRule) ext_body _ (codes "EXTC") t.extcs x7 _ r.extcs (table_small _ r.extcs_within) r.extcs_within
    ∙ part_goes (table_at (desc_at t.version (4 * length t.code))) (table_bytes (desc_bytes t.version)) table_limits (AreRows (DescRule t.version (4 * length t.code))) (desc_body t.version (4 * length t.code)) _ (codes "DESC") t.descs [] _ r.descs (table_small _ r.descs_within) r.descs_within

-- ---- the laws of the reading

pub read_is : (bytes : List ℕ) (t : Tables) → IsBytes bytes → image_reading bytes ≡ Ok t → AreTables t × (bytes ≡ tables_bytes t)
read_is bytes t fits e = let h = reading_takes bytes t fits e in (tables_from t h.0, h.1)

pub is_read : (t : Tables) → AreTables t → image_reading (tables_bytes t) ≡ Ok t
is_read t is = reading_again t (tables_to t is)

pub found_from : (bytes : List ℕ) → IsBytes bytes → (result : Result declared.Image ImageError) → ReadsImagePart tables result (image_reading bytes) → IfOk result (λ image. IsImage image × (image_bytes image ≡ bytes))
found_from bytes fits (Ok image) e = let h = read_is bytes (tables image) fits e in (h.0, sym h.1)
found_from bytes fits (Err error) e = tt

image_read : (bytes : List ℕ) (image : declared.Image) → IsImage image → image_bytes image ≡ bytes → image_reading bytes ≡ Ok (tables image)
image_read bytes image is same = ap image_reading (sym same) ∙ is_read (tables image) is

pub only_from : (bytes : List ℕ) (result : Result declared.Image ImageError) → ReadsImagePart tables result (image_reading bytes) → (image : declared.Image) → IsImage image → image_bytes image ≡ bytes → ReadsImagePart tables result (Ok (tables image))
only_from bytes result e image is same = subst (λ (read : Result Tables ImageRefusal). ReadsImagePart tables result read) (image_read bytes image is same) e

pub refused_from : (bytes : List ℕ) (result : Result declared.Image ImageError) → ReadsImagePart tables result (image_reading bytes) → IfErr result (IsRefusalOf bytes)
refused_from bytes (Ok image) e = tt
refused_from bytes (Err errors.OutOfMemory) e = tt
refused_from bytes (Err (errors.Refused refusal)) e = (λ image is same. clash (tables image) refusal (sym (image_read bytes image is same) ∙ e), e)
  where
    clash : (t : Tables) (refusal : ImageRefusal) → kept_part t ≡ Err refusal → ⊥
    clash t refusal e = cc
