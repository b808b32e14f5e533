-- Exact descriptors name what is live.
use Rattle.std.proofs.Common.{◌≡◌, ◌≢◌, ◌↔◌, ℕ, suc, ◌+◌, ◌-◌, ◌*◌, ◌/◌, ◌%◌, ◌<◌, Bool, true, false, cond, nat_eq, List, [], ◌∷◌, map, length, refl, sym, ap, ◌∙◌, subst, arith}
use Rattle.std.proofs.lemmas.Bool.{true≢false, eq-eqb, eqb-true, ne_eqb}
use Rattle.std.proofs.lemmas.List.{get_or-map, length-map}
use Rattle.std.proofs.lemmas.List.Elements.{Contains-get_or}
use Rattle.std.specs.List.{AllPairs, Contains}
use Rattle.std.specs.Prelude.{slice_index_or}
use Rattle.bs_words.specs.declared.types.Comp.TheVariants as comp
use Rattle.bs_words.specs.declared.types.Loc.{Loc}
use Rattle.bs_words.specs.declared.types.Loc.TheVariants as loc
use Rattle.bs_words.proofs.Lists.{head_same, tail_same}
use Rattle.lin_ir.specs.Descriptors.{frame_bytes, IsDescriptorEntry, of_register, of_slot, ComesBefore, IsDescr, Describes, AreExact, NamesLives}
use Rattle.lin_ir.specs.Formed.{IsHome}
use Rattle.lin_ir.specs.Meaning.{passes_frame}
use Rattle.lin_ir.specs.Walks.{StandsAsLine, LiveAt}
use Rattle.lin_ir.specs.declared.descr.Descr.{Descr}
use Rattle.lin_ir.specs.declared.lin.Line.{Line}
use Rattle.lin_ir.specs.declared.lin.Lin.{Lin}
use Rattle.linearise_rules.proofs.Homes.{IsIn, is_first, is_later, in_of, contains_of, in_map}
use Rattle.linearise_rules.proofs.Marks.{all_in}
use Rattle.linearise_rules.proofs.Walked.{stands_tail}
use Rattle.lin_tidy_rules.specs.Regular.{IsRegular}
use Rattle.lin_tidy_rules.proofs.Living.{live_home}
use Rattle.lin_tidy_rules.proofs.Ends.{same_tail}
use Rattle.lin_laws.proofs.Forms.{not_before}
use Rattle.frame_tables_rules.specs.Names.{location, trap_count_at, locations, locations_named_at, locations_named_by}

-- ---- entries

location_is : (traps : ℕ) (l : Loc) (entry : ℕ) → IsDescriptorEntry traps l entry → location traps entry ≡ l
location_is traps (loc.Machine r) entry (of_register) =
    let odd : (2 * r + 1) % 2 ≡ 1 = omega arith in
    let half : (2 * r + 1) / 2 ≡ r = omega arith in
    ap (λ b. cond b (loc.Machine ((2 * r + 1) / 2)) (loc.Slot ((2 * r + 1 - 16 * traps) / 8))) (eq-eqb ((2 * r + 1) % 2) 1 odd) ∙ ap loc.Machine half
location_is traps (loc.Slot k) entry (of_slot) =
    let even : (8 * k + 16 * traps) % 2 ≡ 0 = omega arith in
    let slot : (8 * k + 16 * traps - 16 * traps) / 8 ≡ k = omega arith in
    ap (λ b. cond b (loc.Machine ((8 * k + 16 * traps) / 2)) (loc.Slot ((8 * k + 16 * traps - 16 * traps) / 8)))
    (ne_eqb ((8 * k + 16 * traps) % 2) 1 (λ e. one_none ((8 * k + 16 * traps) % 2) even e)) ∙ ap loc.Slot slot
  where
    one_none : (n : ℕ) → n ≡ 0 → n ≡ 1 → ⊥
    one_none n e f = omega (arith, e, f)
location_is traps loc.Unset entry h = elim h [ ]

one_entry : (traps : ℕ) (l : Loc) (a b : ℕ) → IsDescriptorEntry traps l a → IsDescriptorEntry traps l b → a ≡ b
one_entry traps (loc.Machine r) a b (of_register) (of_register) = refl
one_entry traps (loc.Slot k) a b (of_slot) (of_slot) = refl
one_entry traps loc.Unset a b h k = elim h [ ]

entry_of : (m : Lin) (traps : ℕ) (l : Loc) → IsHome m l → (entry : ℕ) × IsDescriptorEntry traps l entry
entry_of m traps (loc.Machine r) h = (2 * r + 1, of_register)
entry_of m traps (loc.Slot k) h = (8 * k + 16 * traps, of_slot)
entry_of m traps loc.Unset h = elim h [ ]

traps_are : (size frame traps : ℕ) → size ≡ frame + 16 * traps → (size - frame) / 16 ≡ traps
traps_are size frame traps e = omega (arith, e)

-- ---- lists

record Mapped {A B : Type 0} (f : A → B) (y : B) (xs : List A) : Type 0 where
  of : A
  among : IsIn of xs
  is : f of ≡ y

mapped : {A B : Type 0} (f : A → B) (y : B) (xs : List A) → IsIn y (map f xs) → Mapped f y xs
mapped f y [] z = elim z [ ]
mapped {A} {B} f y (x ∷ xs) z = by (f x) refl (map f xs) z (mapped f y xs)
  where
    by : (k : B) → f x ≡ k → (ks : List B) → IsIn y (k ∷ ks) → (IsIn y ks → Mapped f y xs) → Mapped f y (x ∷ xs)
    by k e ks is_first ih = record { of = x; among = is_first; is = e }
    by k e ks (is_later z) ih = let h = ih z in record { of = h.of; among = is_later h.among; is = h.is }

-- the descriptor that is found, if there is one
data Finds (m : Lin) (left : ℕ) (ds : List Descr) : List Loc → Type 0 where
  finds : {d : Descr} → IsIn d ds → d.after + suc left ≡ length m.code → Finds m left ds (locations m d)
  finds_none : ((d : Descr) → IsIn d ds → d.after + suc left ≡ length m.code → ⊥) → Finds m left ds []

found : (m : Lin) (left : ℕ) (ds : List Descr) → Finds m left ds (locations_named_at m left ds)
found m left [] = finds_none (λ d z. elim z [ ])
found m left (e ∷ ds) = by (nat_eq (e.after + suc left) (length m.code)) refl (found m left ds)
  where
    lower : {ls : List Loc} → (e.after + suc left ≡ length m.code → ⊥) → Finds m left ds ls → Finds m left (e ∷ ds) ls
    lower ne (finds z at) = finds (is_later z) at
    lower ne (finds_none out) = finds_none (λ d z. only d z)
      where
        only : (d : Descr) → IsIn d (e ∷ ds) → d.after + suc left ≡ length m.code → ⊥
        only d is_first at = ne at
        only d (is_later z) at = out d z at

    by : (b : Bool) → nat_eq (e.after + suc left) (length m.code) ≡ b → Finds m left ds (locations_named_at m left ds) →
        Finds m left (e ∷ ds) (cond b (locations m e) (locations_named_at m left ds))
    by true s ih = finds is_first (eqb-true (e.after + suc left) (length m.code) s)
    by false s ih = lower (λ at. true≢false (sym (eq-eqb (e.after + suc left) (length m.code) at) ∙ s)) ih

-- ---- descriptors

module _ (m : Lin) (regular : IsRegular m) (ds : List Descr) (exact : AreExact m ds) where
  record IsOf (i : Line) (next : List Line) (d : Descr) : Type 0 where
    tries : List ℕ
    is : IsDescr m i next tries d

  -- a descriptor is that of the one line that has so many after it
  is_of : {i : Line} {next : List Line} {d : Descr} → StandsAsLine i next m.code → IsIn d ds → d.after + suc (length next) ≡ length m.code → IsOf i next d
  is_of {i} {next} {d} s z at =
      let x = all_in (Describes m) exact.others z in
      let there = x.is.after in
      let len : length (x.line ∷ x.next) ≡ length (i ∷ next) = omega (arith, at, there) in
      let same : x.line ∷ x.next ≡ i ∷ next = same_tail (stands_tail x.stands) (stands_tail s) len in
      record {
        tries = x.tries;
        is = subst (λ j. IsDescr m j next x.tries d) (head_same same)
            (subst (λ js. IsDescr m x.line js x.tries d) (tail_same same) x.is);
      }

  module _ {i : Line} {next : List Line} (s : StandsAsLine i next m.code) (d : Descr) (h : IsOf i next d) where
    traps_same : trap_count_at m d ≡ length h.tries
    traps_same = traps_are d.size (frame_bytes m) (length h.tries) h.is.size

    located : (l : Loc) (entry : ℕ) → IsDescriptorEntry (length h.tries) l entry → location (trap_count_at m d) entry ≡ l
    located l entry e = ap (λ t. location t entry) traps_same ∙ location_is (length h.tries) l entry e

    named_live : (l : Loc) → IsIn l (locations m d) → LiveAt m l comp.Val i next
    named_live l z =
        let y = mapped (location (trap_count_at m d)) l d.entries z in
        let n = (h.is.exact y.of).0 (contains_of y.among) in
        subst (λ l. LiveAt m l comp.Val i next) (sym (located n.location y.of n.entry) ∙ y.is) n.live

    live_named : (l : Loc) → LiveAt m l comp.Val i next → IsIn l (locations m d)
    live_named l v =
        let e = entry_of m (length h.tries) l (live_home m regular.homes s v) in
        let z = (h.is.exact e.0).1 (record { location = l; live = v; entry = e.1 }) in
        subst (λ k. IsIn k (locations m d)) (located l e.0 e.1) (in_map (location (trap_count_at m d)) (in_of e.0 d.entries z))

    -- entries in order name locations that differ
    apart : (a b : ℕ) → Contains d.entries a → Contains d.entries b → ComesBefore a b → location (trap_count_at m d) a ≢ location (trap_count_at m d) b
    apart a b in_a in_b before same =
        let x = (h.is.exact a).0 in_a in
        let y = (h.is.exact b).0 in_b in
        let l : x.location ≡ y.location = sym (located x.location a x.entry) ∙ same ∙ located y.location b y.entry in
        let e : a ≡ b = one_entry (length h.tries) y.location a b (subst (λ l. IsDescriptorEntry (length h.tries) l a) l x.entry) y.entry in
        not_before b (subst (λ k. ComesBefore k b) e before)

    each_once : AllPairs (λ k l. k ≢ l) (locations m d)
    each_once = λ j k x lt le.
        let f = location (trap_count_at m d) in
        let len = length-map d.entries f in
        let in_k : k < length d.entries = omega (arith, le, len) in
        let in_j : j < length d.entries = omega (arith, lt, in_k) in
        subst (λ l. l ≢ slice_index_or (map f d.entries) k x) (sym (get_or-map f d.entries j 0 x in_j))
        (subst (λ l. f (slice_index_or d.entries j 0) ≢ l) (sym (get_or-map f d.entries k 0 x in_k))
        (apart (slice_index_or d.entries j 0) (slice_index_or d.entries k 0) (Contains-get_or d.entries j 0 in_j) (Contains-get_or d.entries k 0 in_k)
        (h.is.order j k 0 lt in_k)))

  none_once : AllPairs (λ (k l : Loc). k ≢ l) []
  none_once = λ j k x lt le. absurd (omega (arith, le))

  module _ (i : Line) (next : List Line) (s : StandsAsLine i next m.code) (point : passes_frame i.op ≡ true) where
    exact_in : {ls : List Loc} → Finds m (length next) ds ls → (l : Loc) → Contains ls l ↔ LiveAt m l comp.Val i next
    exact_in (finds {d = d} z at) l =
        let h = is_of s z at in
        (λ c. named_live s d h l (in_of l (locations m d) c), λ v. contains_of (live_named s d h l v))
    exact_in (finds_none out) l = (
      λ c. nowhere (in_of l [] c),
      λ v. (let d = exact.each i next v.tries s point v.traps in absurd (out d.0 (in_of d.0 ds d.1) d.2.after)),
    )
      where
        nowhere : {A : Type 0} → IsIn l [] → A
        nowhere z = elim z [ ]

    once_in : {ls : List Loc} → Finds m (length next) ds ls → AllPairs (λ k l. k ≢ l) ls
    once_in (finds {d = d} z at) = each_once s d (is_of s z at)
    once_in (finds_none out) = none_once

  all_names : NamesLives m (locations_named_by ds m)
  all_names =
      record {
        exact = λ i next s point l. exact_in i next s point (found m (length next) ds) l;
        once = λ i next s point. once_in i next s point (found m (length next) ds);
      }

-- Exact descriptors name at each frame point what is live after it.
pub exact_names : {m : Lin} {ds : List Descr} → IsRegular m → AreExact m ds → NamesLives m (locations_named_by ds m)
exact_names {m} {ds} regular exact = all_names m regular ds exact
