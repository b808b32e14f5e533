-- What is within bounds.
use Rattle.std.proofs.Common.{◌≡◌, ℕ, ◌+◌, ◌*◌, ◌/◌, ◌<◌, ◌≤◌, ◌^◌, Bool, cond, ⊎_elim, List, [], ◌∷◌, ◌++◌, Some, length, drop, refl, sym, ap, ◌∙◌, subst, arith}
use Rattle.std.specs.List.{All}
use Rattle.std.specs.Prelude.{slice_get, slice_index_or}
use Rattle.std.proofs.lemmas.Bool.{cases_lt}
use Rattle.std.proofs.lemmas.List.{length_push}
use Rattle.std.proofs.lemmas.List.Elements.{All-weaker}
use Rattle.std.proofs.lemmas.Option.{slice_get_within, slice_get-get_or}
use Rattle.dataflow.specs.Rows.{set_in_row, HasSizes}
use Rattle.dataflow.specs.declared.flow.Place as place
use Rattle.lin_ir.specs.Descriptors.{frame_bytes, has_frame_point, FitsDescriptors}
use Rattle.lin_ir.specs.Walks.{at_entry, by_walk}
use Rattle.lin_ir.specs.declared.descr.Descr.{Descr}
use Rattle.lin_ir.specs.declared.lin.Lin.{Lin}
use Rattle.lin_laws.specs.declared.position.Position.{Position}
use Rattle.lin_flow.specs.Nodes.{AreWalkedTo}
use Rattle.lin_flow.specs.Sizes.{IsCountable}
use Rattle.bs_words.proofs.Lists.{got, same_some, pushed_kept, pushed_here}
use Rattle.frame_tables.specs.Described.{described, AreDescribed}
use Rattle.frame_tables.specs.Points.{ArePoints}
use Rattle.frame_tables.specs.declared.after.Point.{Point}

rounded : (s c f : ℕ) → f ≡ (8 * s + c + 15) / 16 * 16 → f + 16 * 0 ≤ 1048576 → s ≤ 131072
rounded s c f e le = omega (arith, e, le)

pub slots_small : (m : Lin) → FitsDescriptors m → m.slots ≤ 131072
slots_small m h = rounded m.slots (cond (has_frame_point m.code) 8 0) (frame_bytes m) refl (h.frame m.code [] (by_walk at_entry))

-- so there are numbers for its lines and slots
pub countable_by : (m : Lin) → FitsDescriptors m → IsCountable m
countable_by m h = let few = slots_small m h in record { lines = h.lines; slots = omega (arith, few) }

-- and for the traps at each position that walks come to
pub traps_small : (m : Lin) (all : List Position) → FitsDescriptors m → AreWalkedTo m all → (k : ℕ) (x : Position) → slice_get all k ≡ Some x →
    length x.tries < 4294967296
traps_small m all within walked k x at =
    let le : frame_bytes m + 16 * length x.tries ≤ 1048576 = within.frame (drop x.place m.code) x.tries (by_walk (walked.each k x at)) in
    by (frame_bytes m) (length x.tries) le
  where
    by : (f n : ℕ) → f + 16 * n ≤ 1048576 → n < 4294967296
    by f n le = omega (arith, le)

pub frame_small : (m : Lin) → FitsDescriptors m → frame_bytes m < 4294967296
frame_small m h = let le : frame_bytes m + 16 * 0 ≤ 1048576 = h.frame m.code [] (by_walk at_entry) in omega (arith, le)

pub points_small : (m : Lin) (all : List Position) (nodes : List place.Place) (points : List Point) (k : ℕ) → FitsDescriptors m →
    ArePoints m all nodes points k → All (λ (point : Point). frame_bytes m + 16 * point.traps < 2 ^ 31) points
points_small m all nodes points k within is = λ j d lt.
    let point : Point = slice_index_or points j d in
    let len = is.len in
    let node = got nodes (length all + j) (omega (arith, lt, len)) in
    let p = is.each j point node.0 (slice_get-get_or points j d lt) node.1 in
    let le : frame_bytes m + 16 * length p.tries ≤ 1048576 = within.frame (drop point.place m.code) p.tries p.pushed in
    by point.traps (length p.tries) (frame_bytes m) p.traps le
  where
    by : (t n f : ℕ) → t ≡ n → f + 16 * n ≤ 1048576 → f + 16 * t < 2 ^ 31
    by t n f e le = omega (arith, e, le)

pub sizes_small : (slots bound : ℕ) (rows : List (List Bool)) → slots ≤ 131072 → bound ≡ slots + 32 → HasSizes bound rows →
    All (λ set. 8 * length set < 2 ^ 31) rows
sizes_small slots bound rows le e h =
    All-weaker (λ (set : List Bool). length set ≡ bound) (λ (set : List Bool). 8 * length set < 2 ^ 31)
    (λ set f. by (length set) f) rows h
  where
    by : (n : ℕ) → n ≡ bound → 8 * n < 2 ^ 31
    by n f = omega (arith, f, e, le)

-- ---- descriptors so far

pub record Describing (frame first : ℕ) (points : List Point) (sets : List (List Bool)) (k : ℕ) (ds : List Descr) : Type 0 where
  pub len : length ds ≡ k
  pub each : (j : ℕ) (point : Point) → j < k → slice_get points j ≡ Some point →
      slice_get ds j ≡ Some (described frame point (set_in_row sets (first + j)))

pub describing_none : (frame first : ℕ) (points : List Point) (sets : List (List Bool)) (ds : List Descr) → ds ≡ [] →
    Describing frame first points sets 0 ds
describing_none frame first points sets ds e =
    record { len = ap length e; each = λ j point lt f. absurd (omega (arith, lt)) }

pub describing_more : (frame first : ℕ) (points : List Point) (sets : List (List Bool)) (k : ℕ) (ds more : List Descr) (point : Point)
    (set : List Bool) (d : Descr) → slice_get points k ≡ Some point → set ≡ set_in_row sets (first + k) → d ≡ described frame point set →
    Describing frame first points sets k ds → more ≡ ds ++ d ∷ [] → Describing frame first points sets (k + 1) more
describing_more frame first points sets k ds more point set d at is made h e =
    let old = h.len in
    let len : length more ≡ length ds + 1 = ap length e ∙ length_push ds d in
    record {
      len = omega (arith, old, len);
      each = λ j pt lt f.
          ⊎_elim
          (λ (b : j < k).
          subst (λ xs. slice_get xs j ≡ Some (described frame pt (set_in_row sets (first + j)))) (sym e)
          (pushed_kept ds d (described frame pt (set_in_row sets (first + j))) j (h.each j pt b f)))
          (λ (b : k ≤ j).
          let same : k ≡ j = omega (arith, lt, b) in
          let same_point : point ≡ pt = same_some point pt (sym at ∙ ap (slice_get points) same ∙ f) in
          subst (λ xs. slice_get xs j ≡ Some (described frame pt (set_in_row sets (first + j)))) (sym e)
          (subst (λ i. slice_get (ds ++ d ∷ []) i ≡ Some (described frame pt (set_in_row sets (first + j)))) (old ∙ same)
          (pushed_here ds d
          ∙ ap Some (made ∙ ap (described frame point) (is ∙ ap (λ i. set_in_row sets (first + i)) same)
          ∙ ap (λ (p : Point). described frame p (set_in_row sets (first + j))) same_point)))) (cases_lt j k);
    }

pub describing_all : (frame first : ℕ) (points : List Point) (sets : List (List Bool)) (k : ℕ) (ds : List Descr) → k ≡ length points →
    Describing frame first points sets k ds → AreDescribed frame first points sets ds
describing_all frame first points sets k ds e h =
    record {
      len = h.len ∙ e;
      each = λ j point f. let lt : j < length points = slice_get_within points j point f in h.each j point (omega (arith, lt, e)) f;
    }
