-- From the positions of walks to what holds of each place.
use Rattle.std.proofs.Common.{◌≡◌, ℕ, ◌+◌, ◌*◌, ◌/◌, ◌<◌, ◌≤◌, Bool, true, false, cond, List, [], Some, length, drop, refl, subst, arith}
use Rattle.std.specs.List.{All}
use Rattle.std.specs.Prelude.{slice_get, slice_index_or}
use Rattle.std.proofs.lemmas.Option.{slice_get_within, slice_get-get_or, get_or_from_slice_get}
use Rattle.lin_ir.specs.Descriptors.{has_frame_point, frame_bytes, FitsDescriptors}
use Rattle.lin_ir.specs.Walks.{Reached, at_entry, Traps, by_walk, unreached, OneDepth}
use Rattle.lin_ir.specs.declared.lin.Line.{Line}
use Rattle.lin_ir.specs.declared.lin.Lin.{Lin}
use Rattle.lin_laws.specs.Graph.{line_index, position}
use Rattle.lin_laws.specs.declared.position.Position.{Position}
use Rattle.lin_tests.specs.Positions.{Agree, AreAgreed, FitsDescriptorAt, ArePositions}

in_all : {A : Type 0} (P : A → Type 0) (xs : List A) (k : ℕ) (x : A) → slice_get xs k ≡ Some x → All P xs → P x
in_all P xs k x e h = subst P (get_or_from_slice_get xs k x x e) (h k x (slice_get_within xs k x e))

module _ (m : Lin) (all : List Position) (are : ArePositions m all) where
  one_number : AreAgreed all → (code : List Line) (tries others : List ℕ) → Traps m code tries → Traps m code others →
      length tries ≡ length others
  one_number h code tries others (by_walk r) (by_walk s) =
      let a = are.reached.complete code tries r in
      let b = are.reached.complete code others s in
      let x : Position = position (line_index m code) tries in
      let y : Position = position (line_index m code) others in
      in_all (Agree x) all b.0 y b.1 (in_all (λ x. All (Agree x) all) all a.0 x a.1 h) refl
  one_number h code tries others (by_walk r) (unreached none) = absurd (none tries r)
  one_number h code tries others (unreached none) (by_walk s) = absurd (none others s)
  one_number h code tries others (unreached none) (unreached neither) = refl

  pub one_depth : AreAgreed all → OneDepth m
  one_depth h = record { one = one_number h }

  walk_to : (k : ℕ) (d : Position) → k < length all → Reached m (drop (slice_index_or all k d).place m.code) (slice_index_or all k d).tries
  walk_to k d lt = are.reached.sound k (slice_index_or all k d) (slice_get-get_or all k d lt)

  pub agreed : OneDepth m → AreAgreed all
  agreed depth = λ j d lt k e le same.
      let x = slice_index_or all j d in
      let y = slice_index_or all k e in
      depth.one (drop y.place m.code) x.tries y.tries (by_walk (subst (λ p. Reached m (drop p m.code) x.tries) same (walk_to j d lt)))
      (by_walk (walk_to k e le))

  fits_walk : All (FitsDescriptorAt (frame_bytes m)) all → (code : List Line) (tries : List ℕ) → Reached m code tries →
      frame_bytes m + 16 * length tries ≤ 1048576
  fits_walk h code tries r =
      let a = are.reached.complete code tries r in
      in_all (FitsDescriptorAt (frame_bytes m)) all a.0 (position (line_index m code) tries) a.1 h

  fits_at : All (FitsDescriptorAt (frame_bytes m)) all → (code : List Line) (tries : List ℕ) → Traps m code tries →
      frame_bytes m + 16 * length tries ≤ 1048576
  fits_at h code tries (by_walk r) = fits_walk h code tries r
  fits_at h code tries (unreached none) = fits_walk h m.code [] at_entry

  pub within : All (FitsDescriptorAt (frame_bytes m)) all → FitsDescriptors m
  within h = record { lines = are.lines; frame = fits_at h }

  pub all_fit : FitsDescriptors m → All (FitsDescriptorAt (frame_bytes m)) all
  all_fit w = λ k d lt.
      let x = slice_index_or all k d in
      w.frame (drop x.place m.code) x.tries (by_walk (walk_to k d lt))

-- ---- slots

round_up : (slots address : ℕ) → 8 * slots ≤ (8 * slots + address + 15) / 16 * 16
round_up slots address = omega arith

round_least : (slots : ℕ) (b : Bool) → slots ≤ 131072 → (8 * slots + cond b 8 0 + 15) / 16 * 16 < 2147483648
round_least slots true le = omega (arith, le)
round_least slots false le = omega (arith, le)

pub frame_small : (m : Lin) → m.slots ≤ 131072 → frame_bytes m < 2147483648
frame_small m le = round_least m.slots (has_frame_point m.code) le

pub few_slots : (m : Lin) → FitsDescriptors m → m.slots ≤ 131072
few_slots m w =
    let frame : frame_bytes m + 16 * length {A = ℕ} [] ≤ 1048576 = w.frame m.code [] (by_walk at_entry) in
    let least = round_up m.slots (cond (has_frame_point m.code) 8 0) in
    omega (arith, frame, least)
