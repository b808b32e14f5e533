-- Exact descriptors, one for each frame point: each line has its own.
use Rattle.std.proofs.Common.{◌≡◌, ℕ, suc, ◌+◌, ◌<◌, ◌≤◌, Bool, true, false, cond, ◌⊎◌, inl, inr, ⊎_elim, List, [], ◌∷◌, length, AllPairs, Some, refl, sym, ap, ◌∙◌, subst, arith}
use Rattle.std.specs.List.{AllByRecursion}
use Rattle.std.proofs.lemmas.Bool.{true≢false, eq-eqb}
use Rattle.std.proofs.lemmas.List.Elements.{recursion_from_All}
use Rattle.rv_emit_rules.specs.Emitted.{descriptor, left_after}
use Rattle.lin_ir.specs.Descriptors.{AreExact, Describes, IsDescr, frame_point_count}
use Rattle.lin_ir.specs.Meaning.{passes_frame}
use Rattle.lin_ir.specs.Walks.{StandsAsLine, here, below, Traps}
use Rattle.lin_ir.specs.declared.descr.Descr.{Descr}
use Rattle.lin_ir.specs.declared.lin.Line.{Line}
use Rattle.lin_ir.specs.declared.lin.Lin.{Lin}
use Rattle.linearise_rules.proofs.Homes.{IsIn, in_of, is_first, is_later}
use Rattle.bs_words.proofs.Lists.{pairs_here, pairs_later}
use Rattle.lin_tidy_rules.proofs.TurningShape.{not_same}
use Rattle.function_stands.proofs.Parts.{descriptor_of, left_in, shorter}

-- a descriptor of a line of this code, where the whole code has so many lines
record Points (total : ℕ) (code : List Line) (d : Descr) : Type 0 where
  line : Line
  next : List Line
  stands : StandsAsLine line next code
  point : passes_frame line.op ≡ true
  after : d.after + suc (length next) ≡ total

AllPoint : ℕ → List Line → List Descr → Type 0
AllPoint total code ds = AllByRecursion (Points total code) ds

Rises : List Descr → Type 0
Rises [] = Unit {0}
Rises (d ∷ ds) = AllByRecursion (λ (e : Descr). d.after < e.after) ds × Rises ds

module _ (total : ℕ) where
  -- it is of the first line, or of a later one
  cases : (i : Line) (next : List Line) (d : Descr) → Points total (i ∷ next) d →
      ((passes_frame i.op ≡ true) × (d.after + suc (length next) ≡ total)) ⊎ Points total next d
  cases i next d p = by p.stands p.point p.after
    where
      by : {line : Line} {rest : List Line} → StandsAsLine line rest (i ∷ next) → passes_frame line.op ≡ true → d.after + suc (length rest) ≡ total →
          ((passes_frame i.op ≡ true) × (d.after + suc (length next) ≡ total)) ⊎ Points total next d
      by here point after = inl (point, after)
      by {line} {rest} (below stands) point after = inr (record { line = line; next = rest; stands = stands; point = point; after = after })

  behind : (next : List Line) (d : Descr) → Points total next d → total < d.after + suc (length next)
  behind next d p = let h = shorter p.stands in let e = p.after in omega (arith, h, e)

  later : (i : Line) (next : List Line) (d : Descr) → total < d.after + suc (length next) → Points total (i ∷ next) d → Points total next d
  later i next d h p = ⊎_elim (λ own. let e = own.1 in absurd (omega (arith, e, h))) (λ q. q) (cases i next d p)

  all_later : (i : Line) (next : List Line) (at : ℕ) (ds : List Descr) → total ≤ at + suc (length next) →
      AllByRecursion (λ (e : Descr). at < e.after) ds → AllPoint total (i ∷ next) ds → AllPoint total next ds
  unfolding AllPoint
  all_later i next at [] h above all = tt
  all_later i next at (d ∷ ds) h above all =
      let first = above.0 in
      (later i next d (omega (arith, h, first)) all.0, all_later i next at ds h above.1 all.1)

  all_other : (i : Line) (next : List Line) (ds : List Descr) → passes_frame i.op ≡ false → AllPoint total (i ∷ next) ds → AllPoint total next ds
  unfolding AllPoint
  all_other i next [] none all = tt
  all_other i next (d ∷ ds) none all =
      (⊎_elim (λ own. absurd (true≢false (sym own.0 ∙ none))) (λ q. q) (cases i next d all.0), all_other i next ds none all.1)

  -- there are no more of them than frame points
  few : (code : List Line) (ds : List Descr) → AllPoint total code ds → Rises ds → length ds ≤ frame_point_count code
  unfolding AllPoint Rises
  few code [] all rises = omega arith
  few [] (d ∷ ds) all rises = elim (all.0.stands) [ ]
  few (i ∷ next) (d ∷ ds) all rises = by (passes_frame i.op) refl (cases i next d all.0) (λ es a r. few next es a r)
    where
      by : (b : Bool) → passes_frame i.op ≡ b → ((passes_frame i.op ≡ true) × (d.after + suc (length next) ≡ total)) ⊎ Points total next d →
          ((es : List Descr) → AllPoint total next es → Rises es → length es ≤ frame_point_count next) →
          length (d ∷ ds) ≤ cond b (suc (frame_point_count next)) (frame_point_count next)
      by true e (inl own) go =
          let at = own.1 in
          let rest = go ds (all_later i next d.after ds (omega (arith, at)) rises.0 all.1) rises.1 in omega (arith, rest)
      by false e (inl own) go = absurd (true≢false (sym own.0 ∙ e))
      by true e (inr q) go =
          let at = behind next d q in
          let rest = go (d ∷ ds) (q, all_later i next d.after ds (omega (arith, at)) rises.0 all.1) rises in omega (arith, rest)
      by false e (inr q) go =
          let at = behind next d q in
          go (d ∷ ds) (q, all_later i next d.after ds (omega (arith, at)) rises.0 all.1) rises

  -- The first of them is of the first line where that is a frame point, and none is left over.
  own_first : (i : Line) (next : List Line) (d : Descr) (ds : List Descr) → AllPoint total (i ∷ next) (d ∷ ds) → Rises (d ∷ ds) →
      length (d ∷ ds) ≡ suc (frame_point_count next) → d.after + suc (length next) ≡ total
  unfolding AllPoint Rises
  own_first i next d ds all rises count = ⊎_elim (λ own. own.1) (λ q.
      let at = behind next d q in
      let rest = few next (d ∷ ds) (q, all_later i next d.after ds (omega (arith, at)) rises.0 all.1) rises in absurd (omega (arith, rest, count)))
      (cases i next d all.0)

  record Own (all : List Descr) (ds : List Descr) (code next : List Line) : Type 0 where
    of : Descr
    is : descriptor_of ds code (length next) ≡ Some of
    among : IsIn of all
    after : of.after + suc (length next) ≡ total

  own : {i : Line} {next : List Line} (whole : List Descr) (code : List Line) (ds : List Descr) → StandsAsLine i next code → passes_frame i.op ≡ true →
      AllPoint total code ds → Rises ds → length ds ≡ frame_point_count code → ((d : Descr) → IsIn d ds → IsIn d whole) → Own whole ds code next
  unfolding AllPoint Rises
  own whole [] ds stands point all rises count within = elim stands [ ]
  own whole (i ∷ next) [] here point all rises count within =
      let e : 0 ≡ suc (frame_point_count next) = count ∙ ap (λ b. cond b (suc (frame_point_count next)) (frame_point_count next)) point in absurd (omega (arith, e))
  own whole (i ∷ next) (d ∷ ds) here point all rises count within = record {
    of = d;
    is = ap (λ b. cond b (descriptor (passes_frame i.op) (d ∷ ds)) (descriptor_of (left_in (d ∷ ds) i) next (length next))) (eq-eqb (length next) (length next) refl)
        ∙ ap (λ b. descriptor b (d ∷ ds)) point;
    among = within d is_first;
    after = own_first i next d ds all rises (count ∙ ap (λ b. cond b (suc (frame_point_count next)) (frame_point_count next)) point);
  }
  own {i} {next} whole (j ∷ js) ds (below stands) point all rises count within =
      by (passes_frame j.op) refl ds all rises count within (λ es a r c w. own whole js es stands point a r c w)
    where
      skipped : (ds : List Descr) → descriptor_of ds (j ∷ js) (length next) ≡ descriptor_of (left_in ds j) js (length next)
      skipped ds = ap (λ b. cond b (descriptor (passes_frame j.op) ds) (descriptor_of (left_in ds j) js (length next)))
          (not_same (length js) (length next) (shorter stands))

      moved : (ds left : List Descr) → left_in ds j ≡ left → Own whole left js next → Own whole ds (j ∷ js) next
      moved ds left e o = record {
        of = o.of;
        is = skipped ds ∙ ap (λ l. descriptor_of l js (length next)) e ∙ o.is;
        among = o.among;
        after = o.after;
      }

      by : (b : Bool) → passes_frame j.op ≡ b → (ds : List Descr) → AllPoint total (j ∷ js) ds → Rises ds →
          length ds ≡ cond b (suc (frame_point_count js)) (frame_point_count js) → ((d : Descr) → IsIn d ds → IsIn d whole) →
          ((es : List Descr) → AllPoint total js es → Rises es → length es ≡ frame_point_count js → ((d : Descr) → IsIn d es → IsIn d whole) →
          Own whole es js next) →
          Own whole ds (j ∷ js) next
      by true e [] all rises count within go = absurd (omega (arith, count))
      by true e (d ∷ ds) all rises count within go =
          let first = own_first j js d ds all rises count in
          moved (d ∷ ds) ds (ap (λ b. left_after b (d ∷ ds)) e)
          (go ds (all_later j js d.after ds (omega (arith, first)) rises.0 all.1) rises.1 (omega (arith, count))
          (λ x z. within x (is_later z)))
      by false e ds all rises count within go =
          moved ds ds (ap (λ b. left_after b ds) e) (go ds (all_other j js ds e all) rises count within)

-- ---- exact descriptors

rises_of : (ds : List Descr) → AllPairs (λ (d e : Descr). d.after < e.after) ds → Rises ds
unfolding Rises
rises_of [] h = tt
rises_of (d ∷ ds) h = (
  recursion_from_All (λ (e : Descr). d.after < e.after) ds (pairs_here (λ (d e : Descr). d.after < e.after) d ds h),
  rises_of ds (pairs_later (λ (d e : Descr). d.after < e.after) d ds h),
)

above_in : (at : ℕ) (ds : List Descr) (d : Descr) → AllByRecursion (λ (e : Descr). at < e.after) ds → IsIn d ds → at < d.after
above_in at (d ∷ ds) d' above is_first = above.0
above_in at (e ∷ ds) d above (is_later z) = above_in at ds d above.1 z
above_in at [] d above z = elim z [ ]

-- the places tell them apart
same_after : (ds : List Descr) (d e : Descr) → Rises ds → IsIn d ds → IsIn e ds → d.after ≡ e.after → d ≡ e
unfolding Rises
same_after [] d e rises p q same = elim p [ ]
same_after (x ∷ xs) d e rises is_first is_first same = refl
same_after (x ∷ xs) d e rises is_first (is_later q) same = let h = above_in d.after xs e rises.0 q in absurd (omega (arith, h, same))
same_after (x ∷ xs) d e rises (is_later p) is_first same = let h = above_in e.after xs d rises.0 p in absurd (omega (arith, h, same))
same_after (x ∷ xs) d e rises (is_later p) (is_later q) same = same_after xs d e rises.1 p q same

module _ (m : Lin) (ds : List Descr) (exact : AreExact m ds) (count : length ds ≡ frame_point_count m.code) where
  points : (d : Descr) → Describes m d → Points (length m.code) m.code d
  points d h = record { line = h.line; next = h.next; stands = h.stands; point = h.point; after = h.is.after }

  all_point : AllPoint (length m.code) m.code ds
  unfolding AllPoint
  all_point = by ds (recursion_from_All (Describes m) ds exact.others)
    where
      by : (ds : List Descr) → AllByRecursion (Describes m) ds → AllByRecursion (Points (length m.code) m.code) ds
      by [] h = tt
      by (d ∷ ds) h = (points d h.0, by ds h.1)

  -- A frame point has the descriptor that is exact for it.
  pub record Described (i : Line) (next : List Line) (tries : List ℕ) : Type 0 where
    pub of : Descr
    pub is : descriptor_of ds m.code (length next) ≡ Some of
    pub describes : IsDescr m i next tries of

  pub described : (i : Line) (next : List Line) (tries : List ℕ) → StandsAsLine i next m.code → passes_frame i.op ≡ true → Traps m (i ∷ next) tries →
      Described i next tries
  described i next tries stands point traps =
      let rises = rises_of ds exact.order in
      let it = own (length m.code) ds m.code ds stands point all_point rises count (λ d z. z) in
      let that = exact.each i next tries stands point traps in
      let other = that.2 in
      let after = it.after in
      let after' = other.after in
      let same = same_after ds that.0 it.of rises (in_of that.0 ds that.1) it.among (omega (arith, after, after')) in
      record { of = it.of; is = it.is; describes = subst (IsDescr m i next tries) same other }
