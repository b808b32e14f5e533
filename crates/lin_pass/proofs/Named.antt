-- What descriptors can name: colours and slots, each once.
use Rattle.std.proofs.Common.{◌≡◌, ℕ, zero, suc, ◌+◌, ◌*◌, ◌<◌, ◌≤◌, ⊎_elim, List, [], ◌∷◌, ◌++◌, map, length, All, refl, ap, ◌∙◌, subst, arith}
use Rattle.std.proofs.lemmas.Bool.{cases_lt}
use Rattle.std.proofs.lemmas.List.{length-append}
use Rattle.std.specs.List.{AllPairs}
use Rattle.std.specs.Prelude.{slice_index_or}
use Rattle.bs_words.specs.declared.types.Comp.{Comp}
use Rattle.bs_words.specs.declared.types.Loc.{Loc}
use Rattle.bs_words.specs.declared.types.Loc.TheVariants as loc
use Rattle.bs_words.proofs.Lists.{pairs_here, pairs_later}
use Rattle.mach_ir.specs.Placed.{colour_numbers}
use Rattle.lin_ir.specs.Descriptors.{IsDescriptorEntry, of_register, of_slot, ComesBefore, Describes, AreExact}
use Rattle.lin_ir.specs.Formed.{IsHome, is_colour, is_slot, spare}
use Rattle.lin_ir.specs.Walks.{StandsAsLine, LiveAt}
use Rattle.lin_ir.specs.declared.descr.Descr.{Descr}
use Rattle.lin_ir.specs.declared.lin.Line.{Line}
use Rattle.lin_ir.specs.declared.lin.Lin.{Lin}
use Rattle.linearise_rules.proofs.Homes.{IsIn, is_first, is_later, in_of, contains_of}
use Rattle.linearise_rules.proofs.Marks.{all_in}
use Rattle.linearise_rules.proofs.Walked.{not_spare}
use Rattle.lin_tidy.specs.Known.{AtHomes}
use Rattle.lin_tidy.proofs.Known.{live_home}
use Rattle.lin_laws.proofs.Forms.{not_before}
use Rattle.lin_pass.specs.Linear.{NamesHomes}

-- ---- a list that rises within another is no longer

record Without (x : ℕ) (ys : List ℕ) : Type 0 where
  others : List ℕ
  len : length ys ≡ suc (length others)
  left : (z : ℕ) → IsIn z ys → (z ≡ x → ⊥) → IsIn z others

first_left : (x : ℕ) (ys : List ℕ) (z : ℕ) → IsIn z (x ∷ ys) → (z ≡ x → ⊥) → IsIn z ys
first_left x ys z is_first ne = absurd (ne refl)
first_left x ys z (is_later i) ne = i

later_left : (x y : ℕ) (ys others : List ℕ) → ((z : ℕ) → IsIn z ys → (z ≡ x → ⊥) → IsIn z others) → (z : ℕ) → IsIn z (y ∷ ys) → (z ≡ x → ⊥) →
    IsIn z (y ∷ others)
later_left x y ys others left z is_first ne = is_first
later_left x y ys others left z (is_later i) ne = is_later (left z i ne)

without_one : {x : ℕ} {ys : List ℕ} → IsIn x ys → Without x ys
without_one {x} (is_first {xs = xs}) = record { others = xs; len = refl; left = first_left x xs }
without_one {x} (is_later {y = y} {xs = xs} i) =
    let w = without_one i in record { others = y ∷ w.others; len = ap suc w.len; left = later_left x y xs w.others w.left }

no_longer : (xs ys : List ℕ) → AllPairs ComesBefore xs → ((x : ℕ) → IsIn x xs → IsIn x ys) → length xs ≤ length ys
no_longer [] ys order all = omega arith
no_longer (x ∷ xs) ys order all =
    let w = without_one (all x is_first) in
    let later = pairs_here ComesBefore x xs order in
    let le = no_longer xs w.others (pairs_later ComesBefore x xs order)
    (λ z i. w.left z (all z (is_later i)) (λ e. not_before x (subst (ComesBefore x) e (all_in (ComesBefore x) later i)))) in
    let len = w.len in
    omega (arith, le, len)

-- ---- entries of colours and slots

abbrev slot_entries : ℕ → ℕ → List ℕ
slot_entries traps zero = []
slot_entries traps (suc n) = (8 * n + 16 * traps) ∷ slot_entries traps n

slot_count : (traps n : ℕ) → length (slot_entries traps n) ≡ n
slot_count traps zero = refl
slot_count traps (suc n) = ap suc (slot_count traps n)

has_slot : (traps k n : ℕ) → k < n → IsIn (8 * k + 16 * traps) (slot_entries traps n)
has_slot traps k zero lt = absurd (omega (arith, lt))
has_slot traps k (suc n) lt =
    ⊎_elim (λ less. is_later (has_slot traps k n less))
    (λ le.
    let same : n ≡ k = omega (arith, lt, le) in
    subst (λ j. IsIn (8 * j + 16 * traps) (slot_entries traps (suc n))) same is_first)
    (cases_lt k n)

left_in : {x : ℕ} {xs : List ℕ} (ys : List ℕ) → IsIn x xs → IsIn x (xs ++ ys)
left_in ys is_first = is_first
left_in ys (is_later i) = is_later (left_in ys i)

right_in : {x : ℕ} (xs : List ℕ) {ys : List ℕ} → IsIn x ys → IsIn x (xs ++ ys)
right_in [] i = i
right_in (y ∷ xs) i = is_later (right_in xs i)

map_in : (f : ℕ → ℕ) {x : ℕ} {xs : List ℕ} → IsIn x xs → IsIn (f x) (map f xs)
map_in f is_first = is_first
map_in f (is_later i) = is_later (map_in f i)

abbrev entries : Lin → ℕ → List ℕ
entries m traps = map (λ r. 2 * r + 1) colour_numbers ++ slot_entries traps m.slots

entries_count : (m : Lin) (traps : ℕ) → length (entries m traps) ≡ 21 + m.slots
entries_count m traps =
    length-append (map (λ r. 2 * r + 1) colour_numbers) (slot_entries traps m.slots) ∙ ap (λ k. 21 + k) (slot_count traps m.slots)

among : (m : Lin) (traps : ℕ) (l : Loc) (e : ℕ) → IsHome m l → IsDescriptorEntry traps l e → IsIn e (entries m traps)
among m traps (loc.Machine r) e (is_colour c) of_register =
    left_in (slot_entries traps m.slots) (map_in (λ r. 2 * r + 1) (in_of r colour_numbers c))
among m traps (loc.Slot k) e (is_slot lt) of_slot = right_in (map (λ r. 2 * r + 1) colour_numbers) (has_slot traps k m.slots lt)
among m traps loc.Unset e h i = elim h [ ]

-- ---- what is live

module _ (m : Lin) (homes : All (λ (i : Line). AtHomes m i.args × AtHomes m i.results) m.code) where
  pub no_spare : (i : Line) (next : List Line) (t : Comp) → StandsAsLine i next m.code → LiveAt m spare t i next → ⊥
  no_spare i next t s v = not_spare {m = m} (live_home m homes s v) refl

  pub names_homes : (d : Descr) → Describes m d → NamesHomes m d
  names_homes d h =
      record {
        few = (let le = no_longer d.entries (entries m (length h.tries)) h.is.order
            (λ e i. let n = (h.is.exact e).0 (contains_of i) in among m (length h.tries) n.location e (live_home m homes h.stands n.live) n.entry) in
            let len = entries_count m (length h.tries) in omega (arith, le, len));
        homes = λ e c. let n = (h.is.exact e).0 c in (length h.tries, n.location, live_home m homes h.stands n.live, n.entry);
      }

  pub all_homes : (ds : List Descr) → AreExact m ds → All (NamesHomes m) ds
  all_homes ds exact = λ k d lt. names_homes (slice_index_or ds k d) (exact.others k d lt)
