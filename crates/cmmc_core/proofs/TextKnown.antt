-- What was read of a text that the source is known to hold, and what its file is.
use Rattle.std.proofs.Common.{◌≡◌, ℕ, ◌+◌, ◌≤◌, List, Option, Some, None, length, sym, ◌∙◌, subst, arith}
use Rattle.bs_fault.specs.Limits.{longest_text}
use Rattle.bs_fault.specs.declared.fault.Fault.{Fault}
use Rattle.bs_fault.specs.declared.large.Large.{Large}
use Rattle.choices.specs.declared.choices.Choices.{Choices}
use Rattle.cmm_front.proofs.OneFile.{one_file, file_or_fault}
use Rattle.cmm_front.proofs.Readings.{is_read}
use Rattle.cmm_front.specs.FileOf.{IsFileOf, HasFault}
use Rattle.cmm_lex.proofs.Languages.{AreBytes}
use Rattle.cmm_tree.specs.Tree.{FileTree}
use Rattle.correctness.specs.Bounds.{IsRoomy}
use Rattle.image_form.specs.Tables.{Tables}
use Rattle.rv_layout_rules.specs.TooLarge.{first_too_large}
use Rattle.commands.specs.Known.{AreTablesMadeFor}
use Rattle.commands.proofs.Known.{bytes_of, made_for_once}
use Rattle.commands.specs.Compile.{ReadsText}
use Rattle.commands.specs.Effects.{Side, IsRead}
use Rattle.commands.proofs.Reading.{all, too_long, IsRead-known}

-- ---- images of files

-- the image that is made for the file by what is chosen fits
abbrev pub Fits : Choices → FileTree → Type 0
Fits choices file = (image : Tables) × (AreTablesMadeFor choices file image × (first_too_large image ≡ None))

-- or this section of it is the first to pass its limit
abbrev pub Passes : Choices → Large → FileTree → Type 0
Passes choices large file = (image : Tables) × (AreTablesMadeFor choices file image × (first_too_large image ≡ Some large))

pub some_none : {A : Type 0} (o : Option A) (x : A) → o ≡ Some x → o ≡ None → ⊥
some_none o x s n = let e : Some x ≡ None = sym s ∙ n in cc

-- so does some section of it, and then the file is not roomy
pub record IsPassed (choices : Choices) (file : FileTree) : Type 0 where
  pub large : Large
  pub passes : Passes choices large file
  pub not_roomy : IsRoomy file → ⊥

-- one image is made for a file: it does not do both
pub not_both : {choices : Choices} (file : FileTree) (large : Large) → Fits choices file → Passes choices large file → ⊥
not_both file large fits passes =
    let fit : Tables → Type 0 = λ t. first_too_large t ≡ None in
    some_none (first_too_large passes.0) large passes.1.1 (subst fit (made_for_once file fits.0 passes.0 fits.1.0 passes.1.0) fits.1.1)

-- ---- bytes that the source is known to hold

module _ (source : Side) (limit : ℕ) (text : List ℕ) (known : source.before ≡ Some text) where
  -- what holds of all the bytes holds of what was read, and the other way round, where they are not too long
  pub of_read : (P : List ℕ → Type 0) (read : List ℕ) → IsRead limit source read → (limit + 1 ≤ length text → ⊥) → P text → P read
  of_read P read r short p = elim (IsRead-known limit source text read known r) [ all same ↦ subst P same p | too_long long cut ↦ absurd (short long) ]

  pub before_read : (P : List ℕ → Type 0) (read : List ℕ) → IsRead limit source read → (length read ≡ limit + 1 → ⊥) → P read → P text
  before_read P read r short p = elim (IsRead-known limit source text read known r) [ all same ↦ subst P (sym same) p | too_long long cut ↦ absurd (short cut) ]

-- ---- a text that the source is known to hold

module _ (source : Side) (text : List ℕ) (known : source.before ≡ Some text) where
  -- where the text has a file, it was read
  pub of_file : (P : List ℕ → Type 0) (file : FileTree) → IsFileOf text file → ReadsText P source → AreBytes text × P text
  of_file P file f r =
      let short = (is_read text file f.read).short in
      elim (IsRead-known longest_text source text r.text known r.read) [ all same ↦ (subst AreBytes (sym same) (bytes_of r.text r.are_bytes), subst P (sym same) r.holds) | too_long long cut ↦ absurd (omega (arith, long, short)) ]

  -- and where what was read has a file, it is the text's
  of_read_file : (P : List ℕ → Type 0) (r : ReadsText P source) (file : FileTree) → IsFileOf r.text file → AreBytes text × IsFileOf text file
  of_read_file P r file f =
      let short = (is_read r.text file f.read).short in
      let same_text : List ℕ → Type 0 = λ t. IsFileOf t file in
      elim (IsRead-known longest_text source text r.text known r.read) [ all same ↦ (subst AreBytes (sym same) (bytes_of r.text r.are_bytes), subst same_text (sym same) f) | too_long long cut ↦ absurd (omega (arith, cut, short)) ]

  -- a text with a file has no fault
  pub no_fault : (file : FileTree) (told : Fault) → IsFileOf text file → ReadsText (λ t. HasFault t told) source → ⊥
  no_fault file f has r =
      let h = of_file (λ t. HasFault t f) file has r in
      file_or_fault text file f h.0 has h.1

  pub no_file : (P : List ℕ → Type 0) (f : Fault) → HasFault text f → (r : ReadsText P source) (file : FileTree) → IsFileOf r.text file → ⊥
  no_file P f has r file h =
      let k = of_read_file P r file h in
      file_or_fault text file f k.0 k.1 has

  -- what the file of what was read has, the text's has
  pub file_has : (P : List ℕ → Type 0) (Q : FileTree → Type 0) (file : FileTree) → IsFileOf text file
      → (of : (t : List ℕ) → P t → (other : FileTree) × (IsFileOf t other × Q other)) → ReadsText P source → Q file
  file_has P Q file is_file of r =
      let h = of_file P file is_file r in
      let o = of text h.1 in
      subst Q (one_file text o.0 file h.0 o.1.0 is_file) o.1.1

  -- the file of what was read is that of the text, and has what that has
  pub read_same : (P : List ℕ → Type 0) (Q : FileTree → Type 0) (file : FileTree) → IsFileOf text file → Q file
      → (of : (t : List ℕ) → P t → (other : FileTree) × IsFileOf t other) → ReadsText P source → (p : P text) × Q (of text p).0
  read_same P Q file is_file q of r =
      let h = of_file P file is_file r in
      let o = of text h.1 in
      (h.1, subst Q (one_file text file o.0 h.0 is_file o.1) q)
