-- The steps of a whole function, put together.
use Rattle.std.proofs.Common.{◌≡◌, ℕ, ◌+◌, ◌*◌, ◌<◌, ◌≤◌, ◌^◌, Bool, List, [], length, drop, sym, ap, subst, arith}
use Rattle.std.specs.List.{All}
use Rattle.std.proofs.lemmas.List.{drop_all}
use Rattle.bs_words.specs.Contents.{contents}
use Rattle.dataflow.specs.Flow.{IsFlowFormed}
use Rattle.dataflow.specs.Live.{IsLiveness}
use Rattle.dataflow.specs.declared.flow.Flow as flow
use Rattle.dataflow.specs.declared.flow.Place as place
use Rattle.lin_ir.specs.Descriptors.{frame_point_count, frame_bytes, FitsDescriptors, AreExact}
use Rattle.lin_ir.specs.Walks.{OneDepth}
use Rattle.lin_ir.specs.declared.descr.Descr.{Descr}
use Rattle.lin_ir.specs.declared.lin.Lin.{Lin}
use Rattle.lin_laws.specs.Graph.{AreNumbered}
use Rattle.lin_laws.specs.declared.position.Position.{Position}
use Rattle.frame_tables.proofs.Bounds.{slots_small, points_small, sizes_small}
use Rattle.frame_tables.proofs.Deriving.{well_formed, are_exact}
use Rattle.frame_tables.specs.Described.{AreDescribed}
use Rattle.frame_tables.specs.Points.{ArePoints}
use Rattle.frame_tables.specs.declared.after.Point.{Point}

module _ (m : Lin) (all : List Position) (nodes : List place.Place) (points : List Point)
    (is : ArePoints m all nodes points (length m.code)) (f : flow.Flow) (places : contents f.places ≡ nodes)
    (bound : f.bound ≡ m.slots + 32) where
  are : ArePoints m all (contents f.places) points (length m.code)
  are = subst (λ xs. ArePoints m all xs points (length m.code)) (sym places) is

  pub well_formed_by : IsFlowFormed f
  well_formed_by = well_formed m all f points are bound

  module _ (rows : List (List Bool)) (live : IsLiveness f rows) (first : ℕ) (at : first ≡ length all) (slice : List Point)
      (same : slice ≡ points) where
    pub rows_enough : first + length slice ≤ length rows
    rows_enough =
        let a = live.len in let b = ap length places in let c = is.len in let d = ap length same in
        omega (arith, a, b, c, d, at)

    pub exact_by : AreNumbered m → OneDepth m → (frame : ℕ) (ds : List Descr) → frame ≡ frame_bytes m →
        AreDescribed frame first slice rows ds → AreExact m ds
    exact_by numbered depth frame ds e made =
        are_exact m all f points are bound numbered depth rows live ds
        (subst (λ k. AreDescribed k (length all) points rows ds) e
        (subst (λ k. AreDescribed frame k points rows ds) at
        (subst (λ xs. AreDescribed frame first xs rows ds) same made)))

  pub sizes_by : FitsDescriptors m → (rows : List (List Bool)) → IsLiveness f rows → All (λ set. 8 * length set < 2 ^ 31) rows
  sizes_by within rows live = sizes_small m.slots f.bound rows (slots_small m within) bound live.sizes

pub small_by : (m : Lin) (all : List Position) (nodes : List place.Place) (points slice : List Point) (k frame : ℕ) → FitsDescriptors m →
    ArePoints m all nodes points k → slice ≡ points → frame ≡ frame_bytes m →
    All (λ (point : Point). frame + 16 * point.traps < 2 ^ 31) slice
small_by m all nodes points slice k frame within is same e =
    subst (λ j. All (λ (point : Point). j + 16 * point.traps < 2 ^ 31) slice) (sym e)
    (subst (All (λ (point : Point). frame_bytes m + 16 * point.traps < 2 ^ 31)) (sym same) (points_small m all nodes points k within is))

pub count_by : (m : Lin) (all : List Position) (nodes : List place.Place) (points slice : List Point) (frame first : ℕ)
    (rows : List (List Bool)) (ds : List Descr) → ArePoints m all nodes points (length m.code) → slice ≡ points →
    AreDescribed frame first slice rows ds → length ds ≡ frame_point_count m.code
count_by m all nodes points slice frame first rows ds is same made =
    let none : drop (length m.code) m.code ≡ [] = drop_all (length m.code) m.code (omega arith) in
    let last : frame_point_count (drop (length m.code) m.code) ≡ 0 = ap frame_point_count none in
    let count = is.count in let len = made.len in let d = ap length same in
    omega (arith, last, count, len, d)
