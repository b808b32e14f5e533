-- Where no section of an image passes its limit.
use Rattle.std.proofs.Common.{◌≡◌, ◌*◌, ◌≤◌, Bool, true, false, cond, List, [], ◌∷◌, length, refl}
use Rattle.std.specs.Prelude.{Option, Some, None, find, option_map}
use Rattle.std.specs.List.{AllByRecursion}
use Rattle.std.proofs.lemmas.Bool.{ltb-false}
use Rattle.bs_words.specs.Fits.{data_limit}
use Rattle.bs_fault.specs.declared.large.Section.{Section}
use Rattle.bs_fault.specs.declared.large.Section.TheVariants.{Func, Code, Data, Syms, Root, Extc, Desc}
use Rattle.image_form.specs.Image.{le32, func_bytes, sym_bytes, ext_bytes, desc_bytes, table_bytes, table_limit, code_limit}
use Rattle.image_form.specs.Tables.{Tables}
use Rattle.rv_layout_rules.specs.TooLarge.{sections, section_bytes_of, section_limit, section_passes_limit, first_too_large}

-- The sections keep their limits.
pub record AreShort (t : Tables) : Type 0 where
  pub funcs : length (table_bytes func_bytes t.funcs) ≤ table_limit
  pub code : 4 * length t.code ≤ code_limit
  pub bytes : length t.bytes ≤ data_limit
  pub syms : length (table_bytes sym_bytes t.syms) ≤ table_limit
  pub roots : length (table_bytes le32 t.roots) ≤ table_limit
  pub extcs : length (table_bytes ext_bytes t.extcs) ≤ table_limit
  pub descs : length (table_bytes (desc_bytes t.version) t.descs) ≤ table_limit

none_found : {A : Type 0} (test : A → Bool) (xs : List A) → find test xs ≡ None → AllByRecursion (λ x. test x ≡ false) xs
none_found test [] none = tt
none_found test (x ∷ xs) none = by (test x) refl none (none_found test xs)
  where
    by : (passes : Bool) → test x ≡ passes → cond passes (Some x) (find test xs) ≡ None → (find test xs ≡ None → AllByRecursion (λ y. test y ≡ false) xs) →
        AllByRecursion (λ y. test y ≡ false) (x ∷ xs)
    by true e found rest = cc
    by false e found rest = (e, rest found)

of_none : {A B : Type 0} (f : A → B) (o : Option A) → option_map f o ≡ None → o ≡ None
of_none f None e = refl
of_none f (Some x) e = cc

pub are_short : (t : Tables) → first_too_large t ≡ None → AreShort t
are_short t none =
    let all = none_found (section_passes_limit t) sections (of_none (λ (section : Section). record { section = section; bytes = section_bytes_of t section }) (find (section_passes_limit t) sections) none) in
    record {
      funcs = ltb-false (section_limit Func) (section_bytes_of t Func) all.0;
      code = ltb-false (section_limit Code) (section_bytes_of t Code) all.1.0;
      bytes = ltb-false (section_limit Data) (section_bytes_of t Data) all.1.1.0;
      syms = ltb-false (section_limit Syms) (section_bytes_of t Syms) all.1.1.1.0;
      roots = ltb-false (section_limit Root) (section_bytes_of t Root) all.1.1.1.1.0;
      extcs = ltb-false (section_limit Extc) (section_bytes_of t Extc) all.1.1.1.1.1.0;
      descs = ltb-false (section_limit Desc) (section_bytes_of t Desc) all.1.1.1.1.1.1.0;
    }
