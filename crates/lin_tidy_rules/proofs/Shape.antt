-- What is kept of a function's shape where lines that have no use go.
use Rattle.std.proofs.Common.{◌≡◌, ◌≢◌, ℕ, suc, ◌≤◌, Bool, true, false, cond, ◌⊎◌, inl, inr, ⊎_elim, List, [], ◌∷◌, ◌++◌, length, All, refl, sym, ap, ◌∙◌, subst, arith}
use Rattle.std.proofs.lemmas.Bool.{true≢false}
use Rattle.std.specs.List.{Contains, AllPairs}
use Rattle.bs_words.specs.declared.types.Comp.{Comp}
use Rattle.bs_words.specs.declared.types.Loc.{Loc}
use Rattle.mach_ir.specs.Acts.{At}
use Rattle.mach_ir.specs.Walks.{this}
use Rattle.lin_ir.specs.Formed.{IsFormedLine, IsHome, is_colour, is_slot, is_home, IsLocation, Locates, spare, SpareIsPassing, label_of, labels_in, EntersAt, enters_here, enters_below, WellFormed, bare_flow}
use Rattle.lin_ir.specs.Walks as walks
use Rattle.lin_ir.specs.Walks.{StandsAsLine, Reached, by_step, LiveAfter, after_step, Traps, by_walk, unreached, TrapsBalance}
use Rattle.lin_ir.specs.declared.lin.Flow.TheVariants as flow
use Rattle.lin_ir.specs.declared.lin.LinOp.{LinOp}
use Rattle.lin_ir.specs.declared.lin.LinOp.TheVariants as lin
use Rattle.lin_ir.specs.declared.lin.Line.{Line}
use Rattle.lin_ir.specs.declared.lin.Lin.{Lin}
use Rattle.lin_ir.specs.declared.lin.Spot.{Spot}
use Rattle.linearise_rules.specs.Keeps.{OneTraps}
use Rattle.linearise_rules.proofs.Homes.{IsIn, in_of, contains_of, split_in}
use Rattle.linearise_rules.proofs.Lines.{all_of}
use Rattle.linearise_rules.proofs.Marks.{all_in}
use Rattle.linearise_rules.proofs.Walked.{Tail, tail_all, tail_more, tail_next, tail_stands, stands_tail, tail_target, IsRead, live_read, not_spare}
use Rattle.lin_tidy_rules.specs.Leaving as leaving
use Rattle.lin_tidy_rules.specs.Leaving.{is_landing, IsUseless, unread, LeavesOut}
use Rattle.lin_tidy_rules.specs.Regular.{AtHomes, IsRegular}
use Rattle.lin_tidy_rules.proofs.LeavingDown.{down_rest}
use Rattle.lin_tidy_rules.proofs.Leaving.{self_goes, useless_landing, Comes, there, comes_tail, comes_line, comes_same, K, rest, source, source_line, in_code}

-- ---- ends of a list

pub compare : {a b zs : List Line} → Tail a zs → Tail b zs → Tail a b ⊎ Tail b a
compare tail_all t = inr t
compare (tail_more s) tail_all = inl (tail_more s)
compare (tail_more s) (tail_more t) = compare s t

inner : {i j : Line} {a b : List Line} → Tail (i ∷ a) (j ∷ b) → (a ≡ b) ⊎ Tail (i ∷ a) b
inner tail_all = inl refl
inner (tail_more t) = inr t

-- ---- t0 does not occur

pub spare_free : (m : Lin) → All (λ (i : Line). AtHomes m i.args × AtHomes m i.results) m.code → SpareIsPassing m
spare_free m homes =
    record {
      copies = λ i c t z. absurd (no_spare t (in_of i m.code c) (split_in i.args i.results (in_of (spot t) (i.args ++ i.results) z)));
      entry = λ t v. none t (live_read m v tail_all);
      written = λ i next tries s u t v. absurd (none t (after v (stands_tail s)));
    }
  where
    spot : Comp → Spot
    spot t = record { loc = spare; comp = t }

    no_spare : (t : Comp) {i : Line} → IsIn i m.code → IsIn (spot t) i.args ⊎ IsIn (spot t) i.results → ⊥
    no_spare t {i} z w =
        let h = all_in (λ (i : Line). AtHomes m i.args × AtHomes m i.results) homes z in
        ⊎_elim (λ x. not_spare {m = m} (all_in (λ (s : Spot). IsHome m s.loc) h.0 x) refl)
        (λ x. not_spare {m = m} (all_in (λ (s : Spot). IsHome m s.loc) h.1 x) refl) w

    none : (t : Comp) → IsRead m spare t → ⊥
    none t y = no_spare t y.inside (inl (in_of (spot t) y.line.args y.reads))

    after : {l : Loc} {t : Comp} {j : Line} {ys : List Line} {tries : List ℕ} → LiveAfter m l t j ys tries → Tail (j ∷ ys) m.code → IsRead m l t
    after (after_step (walks.goes t o) v) w = live_read m v (tail_target m w t)

-- ---- depth

-- where every walk comes with the same traps, it comes with one number of them, and pushes and pops balance
pub balance_of : (m : Lin) → OneTraps m →
    ((i : Line) (next : List Line) (tries : List ℕ) → Reached m (i ∷ next) tries → i.op ≡ lin.Flow flow.PopTrap → (length tries ≡ 0) → ⊥) →
    ((i : Line) (next : List Line) (tries : List ℕ) → Reached m (i ∷ next) tries → walks.leaves i.op ≡ true → tries ≡ []) → TrapsBalance m
balance_of m traps pops leaves = record { depth = record { one = λ code tries others s t. one s t }; pops = pops; leaves = leaves }
  where
    one : {code : List Line} {tries others : List ℕ} → Traps m code tries → Traps m code others → length tries ≡ length others
    one {code} {tries} {others} (by_walk s) (by_walk t) = ap length (traps.one code tries others s t)
    one (by_walk {tries = tries} s) (unreached out) = absurd (out tries s)
    one (unreached out) (by_walk {tries = tries} s) = absurd (out tries s)
    one (unreached out) (unreached other) = refl

leaves_landing : (f : LinOp) → walks.leaves f ≡ true → is_landing f ≡ false
leaves_landing (lin.Op f) e = refl
leaves_landing (lin.Flow f) e = absurd (true≢false (sym e))

-- ---- labels

no_label : (f : LinOp) → is_landing f ≡ false → label_of f ≡ []
no_label (lin.Op f) e = refl
no_label (lin.Flow (flow.Label k)) e = absurd (true≢false e)
no_label (lin.Flow (flow.Jump k)) e = refl
no_label (lin.Flow (flow.Exit k)) e = refl
no_label (lin.Flow (flow.Branch t k)) e = refl
no_label (lin.Flow (flow.Switch ls)) e = refl
no_label (lin.Flow (flow.PushTrap k)) e = refl
no_label (lin.Flow flow.PopTrap) e = refl
no_label (lin.Flow flow.EnterTrap) e = refl

module _ (m : Lin) (goes : ℕ → Bool) (each : (i : Line) (next : List Line) → StandsAsLine i next m.code → goes (length next) ≡ true → IsUseless m i next) where
  abbrev R : Lin
  R = rest m goes each

  abbrev L : List Line → List Line
  L = K m goes each

  -- a line that is a label or an entry stays
  pub landing_stays : (i : Line) (next : List Line) → StandsAsLine i next m.code → is_landing i.op ≡ true → goes (length next) ≡ false
  landing_stays i next s e = by (goes (length next)) refl
    where
      by : (b : Bool) → goes (length next) ≡ b → goes (length next) ≡ false
      by false u = u
      by true u = absurd (true≢false (sym e ∙ useless_landing (each i next s u)))

  labels_rest : (is : List Line) → Tail is m.code → labels_in (L is) ≡ labels_in is
  labels_rest [] w = refl
  labels_rest (i ∷ next) w = by (goes (length next)) refl (labels_rest next (tail_next w))
    where
      by : (b : Bool) → goes (length next) ≡ b → labels_in (L next) ≡ labels_in next → labels_in
          (cond b (L next) (i ∷ L next)) ≡ label_of i.op ++ labels_in next
      by false u e = ap (λ ls. label_of i.op ++ ls) e
      by true u e = e ∙ ap (λ ks. ks ++ labels_in next) (sym (no_label i.op (useless_landing (each i next (tail_stands w) u))))

  enters_rest : {l : ℕ} (is : List Line) → Tail is m.code → EntersAt l is → EntersAt l (L is)
  enters_rest {l} [] w h = elim h [ ]
  enters_rest {l} (i ∷ is) w (enters_below h) = by (goes (length is)) (enters_rest is (tail_next w) h)
    where
      by : (b : Bool) → EntersAt l (L is) → EntersAt l (cond b (L is) (i ∷ L is))
      by true h = h
      by false h = enters_below h
  enters_rest {l} (i ∷ j ∷ is) w (enters_here e u) =
      subst (λ b. EntersAt l (cond b (L (j ∷ is)) (i ∷ L (j ∷ is)))) (sym (landing_stays i (j ∷ is) (tail_stands w) (ap is_landing e)))
      (subst (λ b. EntersAt l (i ∷ cond b (L is) (j ∷ L is))) (sym (landing_stays j is (tail_stands (tail_next w)) (ap is_landing u))) (enters_here e u))

  shorter : {a b : List Line} → Tail a b → length (L a) ≤ length (L b)
  shorter {a} tail_all = omega arith
  shorter {a} (tail_more {j = j} {zs = zs} t) = by (goes (length zs)) (shorter t)
    where
      by : (b : Bool) → length (L a) ≤ length (L zs) → length (L a) ≤ length (cond b (L zs) (j ∷ L zs))
      by true le = le
      by false le = omega (arith, le)

  lines_fewer : (is : List Line) → length (L is) ≤ length is
  lines_fewer [] = omega arith
  lines_fewer (i ∷ is) = by (goes (length is)) (lines_fewer is)
    where
      by : (b : Bool) → length (L is) ≤ length is → length (cond b (L is) (i ∷ L is)) ≤ suc (length is)
      by true le = omega (arith, le)
      by false le = omega (arith, le)

  -- ---- a line that stays is found by what stays after it

  pub one_place : {i j : Line} {a b : List Line} → Tail (i ∷ a) m.code → Tail (j ∷ b) m.code → goes (length a) ≡ false → goes (length b) ≡ false → L a ≡ L b → a ≡ b
  one_place {i} {j} {a} {b} s t u v e = ⊎_elim (λ w. by i a b (inner w) u e) (λ w. sym (by j b a (inner w) v (sym e))) (compare s t)
    where
      by : (i : Line) (a b : List Line) → (a ≡ b) ⊎ Tail (i ∷ a) b → goes (length a) ≡ false → L a ≡ L b → a ≡ b
      by i a b w u e = ⊎_elim (λ x. x) (λ x. absurd (out x)) w
        where
          out : Tail (i ∷ a) b → ⊥
          out x =
              let le : length (L (i ∷ a)) ≤ length (L b) = shorter x in
              let one : length (L (i ∷ a)) ≡ suc (length (L a)) = ap (λ t. length (cond t (L a) (i ∷ L a))) u in
              let same : length (L a) ≡ length (L b) = ap length e in
              omega (arith, le, one, same)

  -- where nothing stays a walk goes on to the end
  to_end : (is : List Line) (tries : List ℕ) → Comes m is tries → L is ≡ [] → Comes m [] tries
  to_end [] tries r e = r
  to_end (i ∷ next) tries r e = by (goes (length next)) refl e (λ s u. to_end next tries s u)
    where
      not_none : (j : Line) (js : List Line) → j ∷ js ≡ [] → ⊥
      not_none j js e = cc

      label_first : {i : Line} {is : List Line} {k : ℕ} → IsUseless m i is → i ≡ bare_flow (flow.Label k) → ⊥
      label_first u e = true≢false (sym (ap (λ (i : Line). is_landing i.op) e) ∙ useless_landing u)

      nothing_between : {a b : List Line} → leaving.LabelsBetween a b → Tail a m.code → L a ≡ [] → a ≡ b
      nothing_between leaving.none_between w e = refl
      nothing_between (leaving.label_between {l = k} {next = ks} p) w e = absurd (two (goes (length ks)) refl e)
        where
          two : (b : Bool) → goes (length ks) ≡ b → cond b (L ks) (bare_flow (flow.Label k) ∷ L ks) ≡ [] → ⊥
          two true s e = label_first (each (bare_flow (flow.Label k)) ks (tail_stands w) s) refl
          two false s e = not_none (bare_flow (flow.Label k)) (L ks) e

      gone : IsUseless m i next → L next ≡ [] → (Comes m next tries → L next ≡ [] → Comes m [] tries) → Comes m [] tries
      gone (leaving.unreached n out) e ih = absurd (out tries (comes_line r n))
      gone (unread z dead) e ih =
          let g = self_goes z in
          ih (there (subst (Reached m next) (g.tries tries)
          (by_step (comes_line r (useless_landing {m = m} {next = next} (unread z dead))) (walks.goes _ g.on)))) e
      gone (leaving.skipped {l = k} same p) e ih =
          let x : Reached m (bare_flow (flow.Jump k) ∷ next) tries =
          subst (λ x. Reached m (x ∷ next) tries) same (comes_line r (ap (λ (i : Line). is_landing i.op) same)) in
          ih (there (subst (λ xs. Reached m xs tries) (sym (nothing_between p (tail_next (comes_tail r)) e)) (by_step x (walks.goes (At k) this)))) e

      by : (b : Bool) → goes (length next) ≡ b → cond b (L next) (i ∷ L next) ≡ [] → (Comes m next tries → L next ≡ [] → Comes m [] tries) → Comes m [] tries
      by false s e ih = absurd (not_none i (L next) e)
      by true s e ih = gone (each i next (tail_stands (comes_tail r)) s) e ih

  module _ (regular : IsRegular m) where
    traps_rest : OneTraps R
    traps_rest = record { one = λ js tries others r s. by js tries others r s }
      where
        by : (js : List Line) (tries others : List ℕ) → Reached R js tries → Reached R js others → tries ≡ others
        by [] tries others r s =
            let x = source m goes each r in
            let y = source m goes each s in
            comes_same regular.traps (to_end x.code tries x.reached x.same) (to_end y.code others y.reached y.same)
        by (j ∷ js) tries others r s =
            let x = source_line m goes each r in
            let y = source_line m goes each s in
            let same : x.next ≡ y.next = one_place (comes_tail x.reached) (comes_tail y.reached) x.stays y.stays (x.same ∙ sym y.same) in
            comes_same regular.traps (subst (λ ks. Comes m (j ∷ ks) tries) same x.reached) y.reached

    balance_rest : TrapsBalance R
    balance_rest =
        balance_of R traps_rest
        (λ j js tries r e n. let x = source_line m goes each r in regular.well.traps.pops j x.next tries (comes_line x.reached (ap is_landing e)) e n)
        (λ j js tries r e. let x = source_line m goes each r in regular.well.traps.leaves j x.next tries (comes_line x.reached (leaves_landing j.op e)) e)

    -- ---- lines and locations

    home_rest : {l : Loc} → IsHome m l → IsHome R l
    home_rest (is_colour z) = is_colour z
    home_rest (is_slot lt) = is_slot lt

    spots_rest : (ss : List Spot) → AtHomes m ss → AtHomes R ss
    spots_rest ss h = all_of (λ (s : Spot). IsHome R s.loc) ss (λ s z. home_rest (all_in (λ (s : Spot). IsHome m s.loc) h z))

    was_in : {j : Line} → IsIn j R.code → IsIn j m.code
    was_in {j} z = in_code m goes each j m.code z

    homes_rest : All (λ (i : Line). AtHomes R i.args × AtHomes R i.results) R.code
    homes_rest =
        all_of (λ (i : Line). AtHomes R i.args × AtHomes R i.results) R.code
        (λ j z. let h = all_in (λ (i : Line). AtHomes m i.args × AtHomes m i.results) regular.homes (was_in z) in
        (spots_rest j.args h.0, spots_rest j.results h.1))

    located : (ss : List Spot) → AtHomes R ss → Locates R ss
    located ss h = all_of (λ (s : Spot). IsLocation R s.loc) ss (λ s z. is_home (all_in (λ (s : Spot). IsHome R s.loc) h z))

    was_among : (j : Line) → Contains R.code j → Contains m.code j
    was_among j c = contains_of (was_in (in_of j R.code c))

    labels_same : labels_in R.code ≡ labels_in m.code
    labels_same = labels_rest m.code tail_all

    well_rest : WellFormed R
    well_rest =
        record {
          forms = all_of IsFormedLine R.code (λ j z. all_in IsFormedLine regular.well.forms (was_in z));
          returns = λ j c e. regular.well.returns j (was_among j c) e;
          params = spots_rest m.params regular.well.params;
          locations = all_of (λ (i : Line). Locates R i.args × Locates R i.results) R.code
              (λ j z. let h = all_in (λ (i : Line). AtHomes R i.args × AtHomes R i.results) homes_rest z in (located j.args h.0, located j.results h.1));
          spare = spare_free R homes_rest;
          labels = subst (λ ls. AllPairs (λ k l. k ≢ l) ls) (sym labels_same) regular.well.labels;
          named = λ j c l n. subst (λ ls. Contains ls l) (sym labels_same) (regular.well.named j (was_among j c) l n);
          handlers = λ j c l e. enters_rest m.code tail_all (regular.well.handlers j (was_among j c) l e);
          traps = balance_rest;
        }

    regular_rest : IsRegular R
    regular_rest =
        record {
          well = well_rest;
          homes = homes_rest;
          traps = traps_rest;
          down = down_rest m goes each regular.down;
          seated = record {
            params = regular.seated.params;
            operands = λ j c. regular.seated.operands j (was_among j c);
            results = λ j c. regular.seated.results j (was_among j c);
          };
          changes = λ j c from to z. regular.changes j (was_among j c) from to z;
        }

-- what lines that have no use leave of a function's shape
pub record SameShape (m r : Lin) : Type 0 where
  pub slots : r.slots ≡ m.slots
  pub params : r.params ≡ m.params
  pub labels : labels_in r.code ≡ labels_in m.code
  pub lines : length r.code ≤ length m.code

pub leaving_regular : {m r : Lin} → LeavesOut m r → IsRegular m → IsRegular r
leaving_regular {m} h regular = subst IsRegular (sym h.is) (regular_rest m h.goes h.each regular)

pub leaving_shape : {m r : Lin} → LeavesOut m r → SameShape m r
leaving_shape {m} h =
    subst (SameShape m) (sym h.is)
    (record { slots = refl; params = refl; labels = labels_rest m h.goes h.each m.code tail_all; lines = lines_fewer m h.goes h.each m.code })
