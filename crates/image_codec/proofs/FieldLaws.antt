-- Each field reads what is spelled so, and nothing else.
use Rattle.std.proofs.Common.{◌≡◌, ℕ, ◌^◌, ◌<◌, ◌≤◌, Bool, true, false, not, cond, ltb, leb, eqb, List, [], ◌∷◌, ◌++◌, length, take, drop, map, Option, Some, None, Ok, Err, refl, sym, ap, subst, ◌∙◌, append_assoc, arith, inl, inr, ◌⊎◌}
use Rattle.std.specs.Bool.{Decides}
use Rattle.std.specs.Prelude.{nat_le}
use Rattle.std.specs.List.{flat_map, AllByRecursion}
use Rattle.std.specs.Int.{Width, w16, w32, byte_len, from_le_bytes, to_le_bytes}
use Rattle.std.proofs.lemmas.Bool.{ltb-false, le-ltb, leb-true, le-leb, eqb-true}
use Rattle.std.proofs.lemmas.List.{take_at, drop_at, take-append-drop, length-append, length-take}
use Rattle.std.proofs.lemmas.Nat.{le_bytes_2, le_bytes_4, from_le_bytes-to_le_bytes_2, from_le_bytes-to_le_bytes_4}
use Rattle.bs_words.specs.Symbol.{is_symbol, IsSymbol}
use Rattle.bs_words.proofs.Symbols.{symbol_decides}
use Rattle.bs_words.specs.declared.types.Comp.{Comp}
use Rattle.bs_words.specs.declared.types.Comp.TheVariants.{Int, Val, Addr, Float}
use Rattle.bs_words.specs.declared.types.Ret.{Ret}
use Rattle.bs_words.specs.declared.types.Ret.TheVariants as returns
use Rattle.image_form.specs.Image.{le16, le32, le_entry, entry_width, entry_limit, comp_byte, ret_byte, name_bytes, params_bytes, IsParam, IsResult, IsArgument, IsExtResult}
use Rattle.image_form.specs.Seen.{has_text}
use Rattle.image_form.specs.Fields.{byte_at, number_at, wide_at, kept, text_at, name_at, new_name_at, decoded_byte, comp_of_byte, result_of_byte, ext_result_of, type_at, rows_at, params_at}
use Rattle.image_codec.proofs.Takes.{IsBytes, IsBytes-drop, IsBytes-take, IsBytes-rest, bind_ok, guard_ok, ok_is, Takes, Takes-then, IsField, alike, kept_field, rows_take, rows_again, AllAfter}

-- ---- bytes and numbers

byte_takes : (bytes : List ℕ) (x : ℕ) (rest : List ℕ) → IsBytes bytes → byte_at bytes ≡ Ok (x, rest) → Takes bytes (x ∷ []) rest × (x < 256)
unfolding byte_at
byte_takes [] x rest fits e = absurd cc
byte_takes (b ∷ bytes) x rest fits e =
    subst (λ (p : ℕ × List ℕ). Takes (b ∷ bytes) (p.0 ∷ []) p.1 × (p.0 < 256)) (ok_is (b, bytes) (x, rest) e) (record { parts = refl; rest_fits = IsBytes-rest b bytes fits }, fits 0)

byte_again : (x : ℕ) (rest : List ℕ) → x < 256 → byte_at ((x ∷ []) ++ rest) ≡ Ok (x, rest)
unfolding byte_at
byte_again x rest fits = refl

pub byte_field : IsField byte_at (λ b. b ∷ []) (λ b. b < 256)
byte_field = record { takes = byte_takes; again = byte_again }

record IsWide (w : Width) (spell : ℕ → List ℕ) (limit : ℕ) : Type 0 where
  len : (n : ℕ) → length (spell n) ≡ byte_len w
  back : (bytes : List ℕ) → length bytes ≡ byte_len w → IsBytes bytes → spell (from_le_bytes w bytes) ≡ bytes
  again : (n : ℕ) → n < limit → from_le_bytes w (spell n) ≡ n
  below : (bytes : List ℕ) → IsBytes bytes → from_le_bytes w bytes < limit

wide16 : IsWide w16 le16 (2 ^ 16)
unfolding le16
wide16 = record {
  len = λ n. refl;
  back = λ bytes len fits. le_bytes_2 bytes _ len fits refl;
  again = λ n lt. from_le_bytes-to_le_bytes_2 n lt;
  below = λ bytes fits. omega (arith, fits 0, fits 1);
}

wide32 : IsWide w32 le32 (2 ^ 32)
unfolding le32
wide32 = record {
  len = λ n. refl;
  back = λ bytes len fits. le_bytes_4 bytes _ len fits refl;
  again = λ n lt. from_le_bytes-to_le_bytes_4 n lt;
  below = λ bytes fits. omega (arith, fits 0, fits 1, fits 2, fits 3);
}

module _ (w : Width) (spell : ℕ → List ℕ) (limit : ℕ) (wide : IsWide w spell limit) where
  number_takes : (bytes : List ℕ) (n : ℕ) (rest : List ℕ) → IsBytes bytes → number_at w bytes ≡ Ok (n, rest) → Takes bytes (spell n) rest × (n < limit)
  unfolding number_at
  number_takes bytes n rest fits e =
      let g = guard_ok (ltb (length bytes) (byte_len w)) (length bytes) (from_le_bytes w (take (byte_len w) bytes), drop (byte_len w) bytes) (n, rest) e in
      let long : byte_len w ≤ length bytes = ltb-false _ _ g.0 in
      let front : spell (from_le_bytes w (take (byte_len w) bytes)) ≡ take (byte_len w) bytes = wide.back (take (byte_len w) bytes) (omega (arith, length-take (byte_len w) bytes)) (IsBytes-take (byte_len w) bytes fits) in
      subst (λ (p : ℕ × List ℕ). Takes bytes (spell p.0) p.1 × (p.0 < limit)) g.1
      (record { parts = rw front (sym (take-append-drop (byte_len w) bytes)); rest_fits = IsBytes-drop (byte_len w) bytes fits }, wide.below (take (byte_len w) bytes) (IsBytes-take (byte_len w) bytes fits))

  number_again : (n : ℕ) (rest : List ℕ) → n < limit → number_at w (spell n ++ rest) ≡ Ok (n, rest)
  unfolding number_at
  number_again n rest lt =
      let len = wide.len n in
      let long : ltb (length (spell n ++ rest)) (byte_len w) ≡ false = le-ltb _ _ (omega (arith, length-append (spell n) rest)) in
      rw (long, take_at (spell n) rest (byte_len w) len, drop_at (spell n) rest (byte_len w) len, wide.again n lt) refl

  number_field : IsField (number_at w) spell (λ n. n < limit)
  number_field = record { takes = number_takes; again = number_again }

pub u16_field : IsField (number_at w16) le16 (λ n. n < 2 ^ 16)
u16_field = number_field w16 le16 (2 ^ 16) wide16

pub u32_field : IsField (number_at w32) le32 (λ n. n < 2 ^ 32)
u32_field = number_field w32 le32 (2 ^ 32) wide32

-- by the width of a version's fields
wide_by : (old : Bool) → IsWide (cond old w16 w32) (to_le_bytes (cond old w16 w32)) (cond old (2 ^ 16) (2 ^ 32))
wide_by true = unfold le16 in wide16
wide_by false = unfold le32 in wide32

pub wide_field : (version : ℕ) → IsField (wide_at version) (le_entry version) (λ n. n < entry_limit version)
unfolding wide_at le_entry
wide_field version = number_field (entry_width version) (to_le_bytes (entry_width version)) (entry_limit version) (wide_by (eqb version 1))

-- ---- names

text_takes : (bytes text rest : List ℕ) → IsBytes bytes → text_at bytes ≡ Ok (text, rest) → Takes bytes (name_bytes text) rest × (length text < 2 ^ 16)
unfolding text_at name_bytes
text_takes bytes text rest fits e =
    let b = bind_ok (number_at w16 bytes) (λ n. cond (ltb (length n.1) n.0) (Err (length bytes)) (Ok (take n.0 n.1, drop n.0 n.1))) (text, rest) e in
    let n = b.0 in
    let t = u16_field.takes bytes n.0 n.1 fits b.1 in
    let g = guard_ok (ltb (length n.1) n.0) (length bytes) (take n.0 n.1, drop n.0 n.1) (text, rest) b.2 in
    let long : n.0 ≤ length n.1 = ltb-false _ _ g.0 in
    let len : length (take n.0 n.1) ≡ n.0 = omega (arith, length-take n.0 n.1) in
    let second : Takes n.1 (take n.0 n.1) (drop n.0 n.1) = record { parts = sym (take-append-drop n.0 n.1); rest_fits = IsBytes-drop n.0 n.1 t.0.rest_fits } in
    let both = Takes-then bytes (le16 n.0) n.1 (take n.0 n.1) (drop n.0 n.1) t.0 second in
    let whole : Takes bytes (le16 (length (take n.0 n.1)) ++ take n.0 n.1) (drop n.0 n.1) = subst (λ (k : ℕ). Takes bytes (le16 k ++ take n.0 n.1) (drop n.0 n.1)) (sym len) both in
    subst (λ (p : List ℕ × List ℕ). Takes bytes (le16 (length p.0) ++ p.0) p.1 × (length p.0 < 2 ^ 16)) g.1 (whole, omega (arith, t.1))

text_again : (text rest : List ℕ) → length text < 2 ^ 16 → text_at (name_bytes text ++ rest) ≡ Ok (text, rest)
unfolding text_at name_bytes
text_again text rest lt =
    let long : ltb (length (text ++ rest)) (length text) ≡ false = le-ltb _ _ (omega (arith, length-append text rest)) in
    ap text_at (append_assoc (le16 (length text)) text rest)
    ∙ rw (u16_field.again (length text) (text ++ rest) lt, long, take_at text rest (length text) refl, drop_at text rest (length text) refl) refl

text_field : IsField text_at name_bytes (λ text. length text < 2 ^ 16)
text_field = record { takes = text_takes; again = text_again }

pub name_field : IsField name_at name_bytes IsSymbol
unfolding name_at
name_field = alike name_at name_bytes _ (kept_field text_at name_bytes _ text_field is_symbol IsSymbol symbol_decides) IsSymbol (λ x fits. fits.1) (λ x name. (omega (arith, name.1), name))

pub new_decides : (b : Bool) → Decides (not b) (b ≡ false)
new_decides true = (λ e. absurd cc, λ e. absurd cc)
new_decides false = (λ e. refl, λ e. refl)

-- a name that is not among these
pub record IsNew (names : List (List ℕ)) (text : List ℕ) : Type 0 where
  pub name : IsSymbol text
  pub new : has_text names text ≡ false

pub new_name_field : (names : List (List ℕ)) → IsField (new_name_at names) name_bytes (IsNew names)
unfolding new_name_at
new_name_field names =
    alike (new_name_at names) name_bytes _ (kept_field name_at name_bytes IsSymbol name_field (λ name. not (has_text names name)) (λ name. has_text names name ≡ false) (λ name. new_decides (has_text names name)))
    (IsNew names) (λ x fits. record { name = fits.0; new = fits.1 }) (λ x is. (is.name, is.new))

-- ---- types

-- a byte stands for a value that is allowed, and no other byte does
record IsCode {A : Type 0} (of : ℕ → Option A) (byte : A → ℕ) (Allowed : A → Type 0) : Type 0 where
  from : (b : ℕ) (x : A) → of b ≡ Some x → (b ≡ byte x) × Allowed x
  to : (x : A) → Allowed x → of (byte x) ≡ Some x
  small : (x : A) → byte x < 256

decoded_ok : {A : Type 0} (o : Option A) (bytes rest : List ℕ) (y : A × List ℕ) → decoded_byte o bytes rest ≡ Ok y → (x : A) × (o ≡ Some x) × ((x, rest) ≡ y)
decoded_ok (Some x) bytes rest y e = (x, refl, ok_is (x, rest) y e)
decoded_ok None bytes rest y e = absurd cc

module _ {A : Type 0} (of : ℕ → Option A) (byte : A → ℕ) (Allowed : A → Type 0) (is : IsCode of byte Allowed) where
  type_takes : (bytes : List ℕ) (x : A) (rest : List ℕ) → IsBytes bytes → type_at of bytes ≡ Ok (x, rest) → Takes bytes (byte x ∷ []) rest × Allowed x
  unfolding type_at
  type_takes bytes x rest fits e =
      let a = bind_ok (byte_at bytes) (λ b. decoded_byte (of b.0) bytes b.1) (x, rest) e in
      let d = decoded_ok (of a.0.0) bytes a.0.1 (x, rest) a.2 in
      let t = byte_field.takes bytes a.0.0 a.0.1 fits a.1 in
      let c = is.from a.0.0 d.0 d.1 in
      let at : Takes bytes (byte d.0 ∷ []) a.0.1 = subst (λ (b : ℕ). Takes bytes (b ∷ []) a.0.1) c.0 t.0 in
      subst (λ (p : A × List ℕ). Takes bytes (byte p.0 ∷ []) p.1 × Allowed p.0) d.2 (at, c.1)

  type_again : (x : A) (rest : List ℕ) → Allowed x → type_at of ((byte x ∷ []) ++ rest) ≡ Ok (x, rest)
  unfolding type_at
  type_again x rest allowed = rw (byte_field.again (byte x) rest (is.small x), is.to x allowed) refl

  type_field : IsField (type_at of) (λ x. byte x ∷ []) Allowed
  type_field = record { takes = type_takes; again = type_again }

chosen : {A : Type 0} (b : Bool) (x y z : A) → cond b x y ≡ z → ((b ≡ true) × (x ≡ z)) ⊎ ((b ≡ false) × (y ≡ z))
chosen true x y z e = inl (refl, e)
chosen false x y z e = inr (refl, e)

abbrev some : {A : Type 0} → A → Option A
some x = Some x

pub some_is : {A : Type 0} (x y : A) → some x ≡ some y → x ≡ y
some_is x y e = cc

comp_cases : (b : ℕ) (x : Comp) → cond (eqb b 0) (Some Int) (cond (eqb b 1) (Some Val) (cond (eqb b 2) (Some Addr) None)) ≡ Some x → (b ≡ comp_byte x) × IsParam x
comp_cases b x e =
    elim (chosen (eqb b 0) (Some Int) _ (Some x) e) [
      | inl p ↦ subst (λ (y : Comp). (b ≡ comp_byte y) × IsParam y) (some_is Int x p.1) (eqb-true b 0 p.0, tt)
      | inr p ↦ elim (chosen (eqb b 1) (Some Val) _ (Some x) p.1) [
        | inl q ↦ subst (λ (y : Comp). (b ≡ comp_byte y) × IsParam y) (some_is Val x q.1) (eqb-true b 1 q.0, tt)
        | inr q ↦ elim (chosen (eqb b 2) (Some Addr) None (Some x) q.1) [
          | inl r ↦ subst (λ (y : Comp). (b ≡ comp_byte y) × IsParam y) (some_is Addr x r.1) (eqb-true b 2 r.0, tt)
          | inr r ↦ absurd cc
        ]
      ]
    ]

argument_from : (x : Comp) → comp_byte x ≤ 1 → IsArgument x
argument_from Int le = tt
argument_from Val le = tt
argument_from Addr le = absurd (omega arith)
argument_from Float le = absurd (omega arith)

comp_small : (x : Comp) → comp_byte x < 256
comp_small Int = omega arith
comp_small Val = omega arith
comp_small Addr = omega arith
comp_small Float = omega arith

comp_within : (most b : ℕ) (x : Comp) → comp_of_byte most b ≡ Some x → (b ≤ most) × ((b ≡ comp_byte x) × IsParam x)
unfolding comp_of_byte
comp_within most b x e =
    elim (chosen (leb b most) _ None (Some x) e) [
      | inl p ↦ (leb-true b most p.0, comp_cases b x p.1)
      | inr p ↦ absurd cc
    ]

param_to : (x : Comp) → IsParam x → comp_of_byte 2 (comp_byte x) ≡ Some x
unfolding comp_of_byte
param_to Int allowed = refl
param_to Val allowed = refl
param_to Addr allowed = refl
param_to Float allowed = absurd allowed

argument_to : (x : Comp) → IsArgument x → comp_of_byte 1 (comp_byte x) ≡ Some x
unfolding comp_of_byte
argument_to Int allowed = refl
argument_to Val allowed = refl
argument_to Addr allowed = absurd allowed
argument_to Float allowed = absurd allowed

param_code : IsCode (comp_of_byte 2) comp_byte IsParam
param_code = record { from = λ b x e. (comp_within 2 b x e).1; to = param_to; small = comp_small }

argument_code : IsCode (comp_of_byte 1) comp_byte IsArgument
argument_code = record {
  from = λ b x e. let h = comp_within 1 b x e in (h.1.0, argument_from x (omega (arith, h.0, h.1.0)));
  to = argument_to;
  small = comp_small;
}

ret_small : (x : Ret) → ret_byte x < 256
ret_small returns.Unit = omega arith
ret_small (returns.Comp c) = comp_small c

result_from : (b : ℕ) (x : Ret) → result_of_byte b ≡ Some x → (b ≡ ret_byte x) × IsResult x
unfolding result_of_byte
result_from b x e =
    elim (chosen (eqb b 0) (Some (returns.Comp Int)) _ (Some x) e) [
      | inl p ↦ subst (λ (y : Ret). (b ≡ ret_byte y) × IsResult y) (some_is (returns.Comp Int) x p.1) (eqb-true b 0 p.0, tt)
      | inr p ↦ elim (chosen (eqb b 1) (Some (returns.Comp Val)) _ (Some x) p.1) [
        | inl q ↦ subst (λ (y : Ret). (b ≡ ret_byte y) × IsResult y) (some_is (returns.Comp Val) x q.1) (eqb-true b 1 q.0, tt)
        | inr q ↦ elim (chosen (eqb b 3) (Some returns.Unit) None (Some x) q.1) [
          | inl r ↦ subst (λ (y : Ret). (b ≡ ret_byte y) × IsResult y) (some_is returns.Unit x r.1) (eqb-true b 3 r.0, tt)
          | inr r ↦ absurd cc
        ]
      ]
    ]

result_to : (x : Ret) → IsResult x → result_of_byte (ret_byte x) ≡ Some x
unfolding result_of_byte
result_to returns.Unit allowed = refl
result_to (returns.Comp Int) allowed = refl
result_to (returns.Comp Val) allowed = refl
result_to (returns.Comp Addr) allowed = absurd allowed
result_to (returns.Comp Float) allowed = absurd allowed

result_code : IsCode result_of_byte ret_byte IsResult
result_code = record { from = result_from; to = result_to; small = ret_small }

ext_from_result : (x : Ret) → IsResult x → IsExtResult x
ext_from_result returns.Unit allowed = tt
ext_from_result (returns.Comp Int) allowed = tt
ext_from_result (returns.Comp Val) allowed = tt
ext_from_result (returns.Comp Addr) allowed = tt
ext_from_result (returns.Comp Float) allowed = absurd allowed

ext_result_from : (b : ℕ) (x : Ret) → ext_result_of b ≡ Some x → (b ≡ ret_byte x) × IsExtResult x
unfolding ext_result_of
ext_result_from b x e =
    elim (chosen (eqb b 2) (Some (returns.Comp Addr)) (result_of_byte b) (Some x) e) [
      | inl p ↦ subst (λ (y : Ret). (b ≡ ret_byte y) × IsExtResult y) (some_is (returns.Comp Addr) x p.1) (eqb-true b 2 p.0, tt)
      | inr p ↦ let h = result_from b x p.1 in (h.0, ext_from_result x h.1)
    ]

ext_result_to : (x : Ret) → IsExtResult x → ext_result_of (ret_byte x) ≡ Some x
unfolding ext_result_of result_of_byte
ext_result_to returns.Unit allowed = refl
ext_result_to (returns.Comp Int) allowed = refl
ext_result_to (returns.Comp Val) allowed = refl
ext_result_to (returns.Comp Addr) allowed = refl
ext_result_to (returns.Comp Float) allowed = absurd allowed

ext_result_code : IsCode ext_result_of ret_byte IsExtResult
ext_result_code = record { from = ext_result_from; to = ext_result_to; small = ret_small }

pub result_field : IsField (type_at result_of_byte) (λ x. ret_byte x ∷ []) IsResult
result_field = type_field result_of_byte ret_byte IsResult result_code

pub ext_result_field : IsField (type_at ext_result_of) (λ x. ret_byte x ∷ []) IsExtResult
ext_result_field = type_field ext_result_of ret_byte IsExtResult ext_result_code

-- ---- parameters

pub each_from : {A : Type 0} (P : A → Type 0) (before xs : List A) → AllAfter (λ _ x. P x) before xs → AllByRecursion P xs
each_from P before [] all = tt
each_from P before (x ∷ xs) all = (all.0, each_from P (before ++ x ∷ []) xs all.1)

pub each_to : {A : Type 0} (P : A → Type 0) (before xs : List A) → AllByRecursion P xs → AllAfter (λ _ x. P x) before xs
each_to P before [] all = tt
each_to P before (x ∷ xs) all = (all.0, each_to P (before ++ x ∷ []) xs all.1)

bytes_map : {A : Type 0} (byte : A → ℕ) (xs : List A) → flat_map (λ x. byte x ∷ []) xs ≡ map byte xs
bytes_map byte [] = refl
bytes_map byte (x ∷ xs) = ap (λ (ys : List ℕ). byte x ∷ ys) (bytes_map byte xs)

count_field : IsField (kept (λ n. nat_le n 16) byte_at) (λ b. b ∷ []) (λ n. (n < 256) × (n ≤ 16))
count_field = kept_field byte_at (λ b. b ∷ []) (λ b. b < 256) byte_field (λ n. nat_le n 16) (λ n. n ≤ 16) (λ n. (leb-true n 16, le-leb n 16))

params_text : (n : ℕ) (rows : List Comp) → length rows ≡ n → (n ∷ []) ++ flat_map (λ x. comp_byte x ∷ []) rows ≡ length rows ∷ map comp_byte rows
params_text n rows e = rw (bytes_map comp_byte rows, e) refl

pub record AreParams (Allowed : Comp → Type 0) (params : List Comp) : Type 0 where
  pub few : length params ≤ 16
  pub each : AllByRecursion Allowed params

module _ (most : ℕ) (Allowed : Comp → Type 0) (is : IsCode (comp_of_byte most) comp_byte Allowed) where
  comp_field : (before : List Comp) → IsField (type_at (comp_of_byte most)) (λ x. comp_byte x ∷ []) Allowed
  comp_field before = type_field (comp_of_byte most) comp_byte Allowed is

  params_take : (bytes : List ℕ) (params : List Comp) (rest : List ℕ) → IsBytes bytes → params_at most bytes ≡ Ok (params, rest) → Takes bytes (params_bytes params) rest × AreParams Allowed params
  unfolding params_at params_bytes
  params_take bytes params rest fits e =
      let a = bind_ok (kept (λ n. nat_le n 16) byte_at bytes) (λ n. rows_at (λ _. type_at (comp_of_byte most)) [] n.0 n.1) (params, rest) e in
      let t = count_field.takes bytes a.0.0 a.0.1 fits a.1 in
      let r = rows_take (λ _. type_at (comp_of_byte most)) (λ x. comp_byte x ∷ []) (λ _ x. Allowed x) comp_field [] a.0.0 a.0.1 params rest t.0.rest_fits a.2 in
      let all-is : params ≡ r.rows = r.all_is in
      let both = Takes-then bytes (a.0.0 ∷ []) a.0.1 (flat_map (λ x. comp_byte x ∷ []) r.rows) rest t.0 r.takes in
      let text : (a.0.0 ∷ []) ++ flat_map (λ x. comp_byte x ∷ []) r.rows ≡ length r.rows ∷ map comp_byte r.rows = params_text a.0.0 r.rows r.count in
      subst (λ (ps : List Comp). Takes bytes (length ps ∷ map comp_byte ps) rest × AreParams Allowed ps) (sym all-is)
      (subst (λ (ys : List ℕ). Takes bytes ys rest) text both, record { few = omega (arith, r.count, t.1.1); each = each_from Allowed [] r.rows r.rules })

  params_again : (params : List Comp) (rest : List ℕ) → AreParams Allowed params → params_at most (params_bytes params ++ rest) ≡ Ok (params, rest)
  unfolding params_at params_bytes
  params_again params rest are =
      let small : (length params < 256) × (length params ≤ 16) = (omega (arith, are.few), are.few) in
      let rows = rows_again (λ _. type_at (comp_of_byte most)) (λ x. comp_byte x ∷ []) (λ _ x. Allowed x) comp_field [] params rest (each_to Allowed [] params are.each) in
      let rows' : rows_at (λ _. type_at (comp_of_byte most)) [] (length params) (map comp_byte params ++ rest) ≡ Ok (params, rest) = rw (← bytes_map comp_byte params) rows in
      rw (count_field.again (length params) (map comp_byte params ++ rest) small) rows'

pub func_params_field : IsField (params_at 2) params_bytes (AreParams IsParam)
func_params_field = record { takes = params_take 2 IsParam param_code; again = params_again 2 IsParam param_code }

pub ext_params_field : IsField (params_at 1) params_bytes (AreParams IsArgument)
ext_params_field = record { takes = params_take 1 IsArgument argument_code; again = params_again 1 IsArgument argument_code }
