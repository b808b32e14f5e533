-- What the moves read that are made: a source, or what an earlier one wrote.
use Rattle.std.proofs.Common.{◌≡◌, ℕ, zero, suc, ◌+◌, ◌<◌, ◌⊎◌, Bool, true, false, cond, List, [], ◌∷◌, ◌++◌, map, length, Contains, Option, Some, None, refl, sym, subst, arith, inl, inr}
use Rattle.std.proofs.lemmas.List.Elements.{Contains-append_right}
use Rattle.bs_words.specs.declared.types.Loc.{Loc}
use Rattle.par_moves.specs.declared.moves.Move.{Move}
use Rattle.par_moves.specs.Moves.{Moves, same_place, spare, saved, from_spare, ReadsKnown, ReadsSources}
use Rattle.par_moves.specs.Resolved.{MovesMade, added, gathered, first_reader, others, top_target, turned, walked, walk_from, drained_by, drained_within, drained_at, drained, resolved_moves}
use Rattle.par_moves.proofs.Members.{In, split_first}

-- ---- places that are known

known-here : (place : Loc) (known : List Loc) → Contains (place ∷ known) place
known-here place known = (zero, omega arith, refl)

known-more : (other place : Loc) (known : List Loc) → Contains known place → Contains (other ∷ known) place
known-more other place known h = Contains-append_right (other ∷ []) known place h

-- each of them reads a known place
abbrev AllRead : List Loc → Moves → Type 0
AllRead known ms = (m : Move) → In m ms → Contains known m.from

one-more : (other : Loc) (known more : List Loc) → ((place : Loc) → Contains known place → Contains more place) → (place : Loc) → Contains (other ∷ known) place → Contains (other ∷ more) place
one-more other known more h place (zero, below, is) = (zero, omega arith, is)
one-more other known more h place (suc k, below, is) = known-more other place more (h place (k, (let b : suc k < suc (length known) = below in omega arith), is))

reads-more : (known more : List Loc) → ((place : Loc) → Contains known place → Contains more place) → (ms : Moves) → ReadsKnown known ms → ReadsKnown more ms
reads-more known more h [] r = tt
reads-more known more h (m ∷ ms) r = (h m.from r.0, reads-more (m.to ∷ known) (m.to ∷ more) (one-more m.to known more h) ms r.1)

-- one list of moves after the other
reads-append : (known : List Loc) (first second : Moves) → ReadsKnown known first → ReadsKnown known second → ReadsKnown known (first ++ second)
reads-append known [] second f s = s
reads-append known (m ∷ first) second f s =
    (f.0, reads-append (m.to ∷ known) first second f.1 (reads-more known (m.to ∷ known) (λ place h. known-more m.to place known h) second s))

-- ---- what is left of a walk was pending

others-in : (place : Loc) (ms : Moves) (m : Move) → In m (others place ms) → In m ms
others-in place [] m h = h
others-in place (x ∷ ms) m h = by (others-in place ms m) (same_place x.from place) h where
  by : (In m (others place ms) → In m ms) → (t : Bool) → In m (cond t ms (x ∷ others place ms)) → (m ≡ x) ⊎ In m ms
  by later true h = inr h
  by later false (inl is) = inl is
  by later false (inr h) = inr (later h)

abbrev LeavesPending : (Move → Moves → Moves → MovesMade) → Type 0
LeavesPending go = (root : Move) (path pending : Moves) (m : Move) → In m (go root path pending).left → In m pending

left-turned : (go : Move → Moves → Moves → MovesMade) → LeavesPending go → (root : Move) (path pending : Moves) (found : Option Move) (m : Move) → In m (turned go root path pending found).left → In m pending
left-turned go later root path pending (Some c) m h = others-in (top_target root path) pending m (later root (c ∷ path) (others (top_target root path) pending) m h)
left-turned go later root [] pending None m h = h
left-turned go later root (x ∷ path) pending None m h = later (cond (same_place x.to root.from) (from_spare root) root) path pending m h

left-pending : (n : ℕ) → LeavesPending (walked n)
unfolding walked
left-pending zero root path pending m h = h
left-pending (suc n) root path pending m h = left-turned (walked n) (left-pending n) root path pending (first_reader (top_target root path) pending) m h

-- ---- walks

abbrev ReadsOn : (Move → Moves → Moves → MovesMade) → Type 0
ReadsOn go = (known : List Loc) (root : Move) (path pending : Moves) → Contains known root.from → AllRead known path → AllRead known pending → ReadsKnown known (go root path pending).made

reads-unwound : (go : Move → Moves → Moves → MovesMade) → ReadsOn go → (known : List Loc) (root x : Move) (path pending : Moves) → Contains known root.from → Contains known x.from → AllRead known path → AllRead known pending
    → (t : Bool) → ReadsKnown known (cond t (saved root ∷ x ∷ []) (x ∷ []) ++ (go (cond t (from_spare root) root) path pending).made)
reads-unwound go later known root x path pending r h p q true =
    let up : (place : Loc) → Contains known place → Contains (x.to ∷ spare ∷ known) place = λ place k. known-more x.to place (spare ∷ known) (known-more spare place known k) in
    (r, (known-more spare x.from known h, later (x.to ∷ spare ∷ known) (from_spare root) path pending (known-more x.to spare (spare ∷ known) (known-here spare known)) (λ m i. up m.from (p m i)) (λ m i. up m.from (q m i))))
reads-unwound go later known root x path pending r h p q false =
    let up : (place : Loc) → Contains known place → Contains (x.to ∷ known) place = λ place k. known-more x.to place known k in
    (h, later (x.to ∷ known) root path pending (up root.from r) (λ m i. up m.from (p m i)) (λ m i. up m.from (q m i)))

read-first : (known : List Loc) (c : Move) (path : Moves) → Contains known c.from → AllRead known path → AllRead known (c ∷ path)
read-first known c path h p m (inl is) = let P : Move → Type 0 = λ x. Contains known x.from in subst P (sym is) h
read-first known c path h p m (inr k) = p m k

reads-turned : (go : Move → Moves → Moves → MovesMade) → ReadsOn go → (known : List Loc) (root : Move) (path pending : Moves) (found : Option Move) → first_reader (top_target root path) pending ≡ found
    → Contains known root.from → AllRead known path → AllRead known pending → ReadsKnown known (turned go root path pending found).made
reads-turned go later known root path pending (Some c) is r p q =
    later known root (c ∷ path) (others (top_target root path) pending) r
    (read-first known c path (q c (split_first (top_target root path) pending c is).inside) p)
    (λ m i. q m (others-in (top_target root path) pending m i))
reads-turned go later known root [] pending None is r p q = (r, tt)
reads-turned go later known root (x ∷ path) pending None is r p q =
    reads-unwound go later known root x path pending r (p x (inl refl)) (λ m i. p m (inr i)) q (same_place x.to root.from)

reads-walk : (n : ℕ) → ReadsOn (walked n)
unfolding walked
reads-walk zero known root path pending r p q = tt
reads-walk (suc n) known root path pending r p q = reads-turned (walked n) (reads-walk n) known root path pending (first_reader (top_target root path) pending) refl r p q

-- ---- all walks

-- what is made reads what is known, and what is left was pending
record Reads (known : List Loc) (pending : Moves) (w : MovesMade) : Type 0 where
  made : ReadsKnown known w.made
  left : (m : Move) → In m w.left → In m pending

reads-drained-by : (go : Moves → MovesMade) (known : List Loc) → ((pending : Moves) → AllRead known pending → Reads known pending (go pending))
    → (place : Loc) (pending : Moves) (found : Option Move) → first_reader place pending ≡ found → AllRead known pending → Reads known pending (drained_by go place pending found)
reads-drained-by go known later place pending None is q = record { made = tt; left = λ m h. h }
reads-drained-by go known later place pending (Some root) is q =
    let rest : Moves = others place pending in
    let first : MovesMade = walk_from root rest in
    let n : ℕ = suc (length rest + length rest) in
    let q' : AllRead known rest = λ m i. q m (others-in place pending m i) in
    let walk : ReadsKnown known first.made = reads-walk n known root [] rest (q root (split_first place pending root is).inside) (λ m h. absurd h) q' in
    let back : (m : Move) → In m first.left → In m rest = λ m h. left-pending n root [] rest m h in
    let more : Reads known first.left (go first.left) = later first.left (λ m i. q' m (back m i)) in
    record {
      made = reads-append known first.made (go first.left).made walk more.made;
      left = λ m h. others-in place pending m (back m (more.left m h));
    }

reads-within : (n : ℕ) (known : List Loc) (place : Loc) (pending : Moves) → AllRead known pending → Reads known pending (drained_within n place pending)
unfolding drained_within
reads-within zero known place pending q = record { made = tt; left = λ m h. h }
reads-within (suc n) known place pending q =
    reads-drained-by (drained_within n place) known (λ p r. reads-within n known place p r) place pending (first_reader place pending) refl q

reads-drained : (known : List Loc) (ms pending : Moves) → AllRead known pending → ReadsKnown known (drained ms pending).made
reads-drained known [] pending q = tt
reads-drained known (m ∷ ms) pending q =
    let first : MovesMade = drained_at m.from pending in
    let f : Reads known pending first = reads-within (suc (length pending)) known m.from pending q in
    reads-append known first.made (drained ms first.left).made f.made (reads-drained known ms first.left (λ x i. q x (f.left x i)))

-- ---- all moves

added-in : (x : Move) (pending : Moves) (m : Move) → In m (added x pending) → (m ≡ x) ⊎ In m pending
added-in x pending m h = by (same_place x.from x.to) h where
  by : (t : Bool) → In m (cond t pending (x ∷ pending)) → (m ≡ x) ⊎ In m pending
  by true h = inr h
  by false h = h

gathered-in : (ms pending : Moves) (m : Move) → In m (gathered ms pending) → In m ms ⊎ In m pending
gathered-in [] pending m h = inr h
gathered-in (x ∷ ms) pending m h =
    elim (gathered-in ms (added x pending) m h) [
      | inl k ↦ inl (inr k)
      | inr k ↦ elim (added-in x pending m k) [ inl is ↦ inl (inl is) | inr j ↦ inr j ]
    ]

source-known : (ms : Moves) (m : Move) → In m ms → Contains (map (λ x. x.from) ms) m.from
source-known [] m h = absurd h
source-known (x ∷ ms) m (inl is) =
    let P : Move → Type 0 = λ y. Contains (x.from ∷ map (λ z. z.from) ms) y.from in
    subst P (sym is) (known-here x.from (map (λ z. z.from) ms))
source-known (x ∷ ms) m (inr h) = known-more x.from m.from (map (λ z. z.from) ms) (source-known ms m h)

pub reads_sources : (moves : Moves) → ReadsSources moves (resolved_moves moves)
reads_sources moves =
    let known : List Loc = map (λ x. x.from) moves in
    let all : Moves = gathered moves [] in
    let q : AllRead known all = λ m h. elim (gathered-in moves [] m h) [ inl k ↦ source-known moves m k | inr k ↦ absurd k ] in
    let first : MovesMade = drained_at spare all in
    let f : Reads known all first = reads-within (suc (length all)) known spare all q in
    reads-append known first.made (drained moves first.left).made f.made (reads-drained known moves first.left (λ m i. q m (f.left m i)))
