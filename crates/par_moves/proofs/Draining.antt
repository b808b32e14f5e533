-- What all walks do to the values that places hold.
use Rattle.std.proofs.Common.{◌≡◌, ◌≢◌, ℕ, zero, suc, ◌+◌, ◌<◌, ◌≤◌, ◌⊎◌, Bool, true, false, cond, [], ◌∷◌, ◌++◌, length, Option, Some, None, refl, sym, ap, ◌∙◌, arith, inl, inr}
use Rattle.bs_words.specs.declared.types.Loc.{Loc}
use Rattle.par_moves.specs.declared.moves.Move.{Move}
use Rattle.par_moves.specs.Moves.{Moves, same_place, spare, after_moves}
use Rattle.par_moves.specs.Resolved.{MovesMade, then_made, first_reader, others, walk_from, added, gathered, drained_by, drained_within, drained_at, drained, resolved_moves}
use Rattle.par_moves.proofs.Places.{same_place-true, same_place-false}
use Rattle.par_moves.proofs.Members.{In, NotTo, Apart, split_first, none_reads}
use Rattle.par_moves.proofs.Turns.{length-others, length-walked}
use Rattle.par_moves.proofs.Effects.{Effect, Ready, fit_root, effect_nothing, effect_root, effect_then, effect_walked}

pub ready_left : {A : Type 0} (held : Loc → A) (place : Loc) (pending : Moves) (w : MovesMade) → Ready place pending → Effect held [] pending w → Ready place w.left
ready_left held place pending w r e = record {
  apart = e.left_apart;
  targets = λ m h. r.targets m (e.left_in m h);
  spare_free = elim r.spare_free [ inl at ↦ inl at | inr g ↦ inr (λ m h. g m (e.left_in m h)) ];
}

pub effect_one_walk : {A : Type 0} (held : Loc → A) (place : Loc) (pending : Moves) (root : Move) → first_reader place pending ≡ Some root → Ready place pending → Effect held [] pending (walk_from root (others place pending))
effect_one_walk held place pending root e r =
    let s = split_first place pending root e in
    let rest = others place pending in
    effect_root held place pending rest root (walk_from root rest) s r
    (effect_walked (suc (length rest + length rest)) root [] rest (omega arith) (fit_root place pending rest root s r) held)

pub effect_drained_within : {A : Type 0} (n : ℕ) (place : Loc) (pending : Moves) → Ready place pending → (held : Loc → A) → Effect held [] pending (drained_within n place pending)
unfolding drained_within
effect_drained_within zero place pending r held = effect_nothing held pending r.apart
effect_drained_within {A} (suc n) place pending r held = by (λ q s h. effect_drained_within n place q s h) (first_reader place pending) refl where
  by : ((q : Moves) → Ready place q → (h : Loc → A) → Effect h [] q (drained_within n place q)) → (found : Option Move) → first_reader place pending ≡ found → Effect held [] pending (drained_by (drained_within n place) place pending found)
  by later None e = effect_nothing held pending r.apart
  by later (Some root) e =
      let w = walk_from root (others place pending) in
      let first : Effect held [] pending w = effect_one_walk held place pending root e r in
      effect_then held pending w (drained_within n place w.left) r.targets first
      (later w.left (ready_left held place pending w r first) (after_moves w.made held))

-- nothing is left that reads the place
pub drained_none_reads : (n : ℕ) (place : Loc) (pending : Moves) → length pending < n → (m : Move) → In m (drained_within n place pending).left → m.from ≡ place → ⊥
unfolding drained_within
drained_none_reads zero place pending enough m h e = absurd (omega arith)
drained_none_reads (suc n) place pending enough m h e = by (λ q. drained_none_reads n place q) (first_reader place pending) refl h where
  by : ((q : Moves) → length q < n → (x : Move) → In x (drained_within n place q).left → x.from ≡ place → ⊥) → (found : Option Move) → first_reader place pending ≡ found → In m (drained_by (drained_within n place) place pending found).left → ⊥
  by later None none k = none_reads place pending none m k e
  by later (Some root) found k =
      let rest = others place pending in
      let fewer : suc (length rest) ≡ length pending = length-others place pending root found in
      let shorter : length (walk_from root rest).left ≤ length rest = length-walked _ root [] rest in
      later (walk_from root rest).left (omega arith) m k e

pub effect_drained : {A : Type 0} (ms pending : Moves) → Apart pending → ((m : Move) → In m pending → m.to ≢ spare) → ((m : Move) → In m pending → m.from ≢ spare) → (held : Loc → A) → Effect held [] pending (drained ms pending)
effect_drained [] pending a targets free held = effect_nothing held pending a
effect_drained (m ∷ ms) pending a targets free held =
    let w = drained_at m.from pending in
    let first : Effect held [] pending w = effect_drained_within (suc (length pending)) m.from pending (record { apart = a; targets = targets; spare_free = inr free }) held in
    effect_then held pending w (drained ms w.left) targets first
    (effect_drained ms w.left first.left_apart (λ x h. targets x (first.left_in x h)) (λ x h. free x (first.left_in x h)) (after_moves w.made held))

-- nothing is left that reads the source of one of the moves
pub drained_nothing : (ms pending : Moves) → Apart pending → ((m : Move) → In m pending → m.to ≢ spare) → ((m : Move) → In m pending → m.from ≢ spare) → (x : Move) → In x (drained ms pending).left → (m : Move) → In m ms → x.from ≡ m.from → ⊥
drained_nothing [] pending a targets free x h m k e = k
drained_nothing (y ∷ ms) pending a targets free x h m k e =
    let w = drained_at y.from pending in
    let held : Loc → Loc = λ place. place in
    let first : Effect held [] pending w = effect_drained_within (suc (length pending)) y.from pending (record { apart = a; targets = targets; spare_free = inr free }) held in
    let targets' = λ (n : Move) (l : In n w.left). targets n (first.left_in n l) in
    let free' = λ (n : Move) (l : In n w.left). free n (first.left_in n l) in
    let then = effect_drained ms w.left first.left_apart targets' free' held in
    elim k [
      | inl is ↦ drained_none_reads (suc (length pending)) y.from pending (omega arith) x (then.left_in x h) (e ∙ ap (λ (n : Move). n.from) is)
      | inr l ↦ drained_nothing ms w.left first.left_apart targets' free' x h m l e
    ]

-- ---- the moves that are needed

added_in : (m : Move) (pending : Moves) (x : Move) → In x (added m pending) → In x pending ⊎ ((x ≡ m) × (m.from ≡ m.to → ⊥))
added_in m pending x h = by (same_place m.from m.to) refl h where
  by : (t : Bool) → same_place m.from m.to ≡ t → In x (cond t pending (m ∷ pending)) → In x pending ⊎ ((x ≡ m) × (m.from ≡ m.to → ⊥))
  by true e h = inl h
  by false e (inl is) = inr (is, same_place-false m.from m.to e)
  by false e (inr k) = inl k

added_has : (m : Move) (pending : Moves) (x : Move) → In x pending ⊎ (x ≡ m) → (x.from ≡ x.to → ⊥) → In x (added m pending)
added_has m pending x h needed = by (same_place m.from m.to) refl h where
  by : (t : Bool) → same_place m.from m.to ≡ t → In x pending ⊎ (x ≡ m) → In x (cond t pending (m ∷ pending))
  by true e (inl k) = k
  by true e (inr is) = absurd (needed (ap (λ (y : Move). y.from) is ∙ (same_place-true m.from m.to e ∙ sym (ap (λ (y : Move). y.to) is))))
  by false e (inl k) = inr k
  by false e (inr is) = inl is

pub gathered_in : (ms pending : Moves) (x : Move) → In x (gathered ms pending) → In x pending ⊎ (In x ms × (x.from ≡ x.to → ⊥))
gathered_in [] pending x h = inl h
gathered_in (m ∷ ms) pending x h = elim (gathered_in ms (added m pending) x h) [
  | inl k ↦ elim (added_in m pending x k) [
    | inl l ↦ inl l
    | inr d ↦ inr (inl d.0, λ e. d.1 (sym (ap (λ (y : Move). y.from) d.0) ∙ (e ∙ ap (λ (y : Move). y.to) d.0)))
  ]
  | inr d ↦ inr (inr d.0, d.1)
]

pub gathered_has : (ms pending : Moves) (x : Move) → In x pending ⊎ In x ms → (x.from ≡ x.to → ⊥) → In x (gathered ms pending)
gathered_has [] pending x h needed = elim h [ inl k ↦ k | inr k ↦ absurd k ]
gathered_has (m ∷ ms) pending x h needed =
    gathered_has ms (added m pending) x
    (elim h [ inl k ↦ inl (added_has m pending x (inl k) needed) | inr d ↦ elim d [ inl is ↦ inl (added_has m pending x (inr is) needed) | inr l ↦ inr l ] ])
    needed

pub gathered_apart : (ms pending : Moves) → Apart ms → Apart pending → ((m : Move) → In m ms → NotTo m.to pending) → Apart (gathered ms pending)
gathered_apart [] pending a b across = b
gathered_apart (m ∷ ms) pending a b across =
    gathered_apart ms (added m pending) a.1 (by (same_place m.from m.to))
    (λ n h x k e. elim (added_in m pending x k) [ inl l ↦ across n (inr h) x l e | inr d ↦ a.0 n h (sym e ∙ ap (λ (y : Move). y.to) d.0) ])
  where
    by : (t : Bool) → Apart (cond t pending (m ∷ pending))
    by true = b
    by false = (across m (inl refl), b)

pub apart_same : (ms : Moves) → Apart ms → (x y : Move) → In x ms → In y ms → x.to ≡ y.to → x ≡ y
apart_same [] a x y h k e = absurd h
apart_same (m ∷ ms) a x y h k e = by (λ p q. apart_same ms a.1 x y p q e) h k where
  by : (In x ms → In y ms → x ≡ y) → (x ≡ m) ⊎ In x ms → (y ≡ m) ⊎ In y ms → x ≡ y
  by later (inl p) (inl q) = p ∙ sym q
  by later (inl p) (inr q) = absurd (a.0 y q (sym e ∙ ap (λ (z : Move). z.to) p))
  by later (inr p) (inl q) = absurd (a.0 x p (e ∙ ap (λ (z : Move). z.to) q))
  by later (inr p) (inr q) = later p q

-- ---- the whole

-- what the sequence does to any values
pub record Leaves {A : Type 0} (held : Loc → A) (moves done : Moves) : Type 0 where
  pub targets : (m : Move) → In m moves → after_moves done held m.to ≡ held m.from
  pub rest : (place : Loc) → place ≢ spare → NotTo place moves → after_moves done held place ≡ held place

pub leaves : {A : Type 0} (held : Loc → A) (moves : Moves) → Apart moves → ((m : Move) → In m moves → m.to ≢ spare) → Leaves held moves (resolved_moves moves)
leaves {A} held moves a targets = record {
  targets = λ m h. by m h (same_place m.from m.to) refl;
  rest = λ place free no_target. whole.rest place free (λ x k e. k) (λ x k e. no_target x (elim (planned x k) [ inl l ↦ absurd l | inr d ↦ d.0 ]) e);
} where
  all : Moves
  all = gathered moves []

  first : MovesMade
  first = drained_at spare all

  planned : (x : Move) → In x all → In x [] ⊎ (In x moves × (x.from ≡ x.to → ⊥))
  planned x k = gathered_in moves [] x k

  planned_target : (x : Move) → In x all → x.to ≢ spare
  planned_target x k = elim (planned x k) [ inl l ↦ absurd l | inr d ↦ targets x d.0 ]

  first_effect : Effect held [] all first
  first_effect = effect_drained_within (suc (length all)) spare all (record { apart = gathered_apart moves [] a tt (λ m h x k e. k); targets = planned_target; spare_free = inl refl }) held

  no_spare : (x : Move) → In x first.left → x.from ≢ spare
  no_spare x k e = drained_none_reads (suc (length all)) spare all (omega arith) x k e

  left_target : (x : Move) → In x first.left → x.to ≢ spare
  left_target x k = planned_target x (first_effect.left_in x k)

  whole : Effect held [] all (then_made first.made (drained moves first.left))
  whole =
      effect_then held all first (drained moves first.left) planned_target first_effect
      (effect_drained moves first.left first_effect.left_apart left_target no_spare (after_moves first.made held))

  by : (m : Move) → In m moves → (t : Bool) → same_place m.from m.to ≡ t → after_moves (first.made ++ (drained moves first.left).made) held m.to ≡ held m.from
  by m h true e =
      let stays : m.from ≡ m.to = same_place-true m.from m.to e in
      let no_target : NotTo m.to all = λ x k t. elim (planned x k) [
        | inl l ↦ l
        | inr d ↦
            (let is : x ≡ m = apart_same moves a x m d.0 h t in
            d.1 (ap (λ (y : Move). y.from) is ∙ (stays ∙ sym (ap (λ (y : Move). y.to) is))))
      ] in
      whole.rest m.to (targets m h) (λ x k e. k) no_target ∙ ap held (sym stays)
  by m h false e = elim (whole.done m (gathered_has moves [] m (inr h) (same_place-false m.from m.to e))) [
    | inl k ↦ absurd (drained_nothing moves first.left first_effect.left_apart left_target no_spare m k m h refl)
    | inr d ↦ d.1
  ]
