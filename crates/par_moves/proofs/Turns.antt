-- The turns of the loops, against the definition on lists.
use Rattle.std.proofs.Common.{◌≡◌, ℕ, zero, suc, ◌+◌, ◌<◌, ◌≤◌, Bool, true, false, cond, [], ◌∷◌, ◌++◌, length, Option, Some, None, MatchOption, refl, sym, ap, ◌∙◌, subst, arith, append_assoc, length-append}
use Rattle.std.specs.Prelude.{reverse}
use Rattle.std.specs.BTreeMap.{BTreeMap}
use Rattle.std.specs.Global.{Vec}
use Rattle.std.proofs.lemmas.List.{reverse-append, append-nil}
use Rattle.bs_words.specs.declared.types.Loc.{Loc}
use Rattle.par_moves.specs.declared.moves.Move.{Move}
use Rattle.par_moves.specs.Index.{HoldsPending}
use Rattle.par_moves.specs.Moves.{Moves, same_place, spare}
use Rattle.par_moves.specs.Resolved.{MovesMade, then_made, first_reader, others, added, gathered, top_target, unwound, unwound_moves, unwound_root, turned, walked, walk_from, drained_by, drained_within, drained_at, drained, resolved_moves}

-- ---- lists

pub others-none : (place : Loc) (moves : Moves) → first_reader place moves ≡ None → others place moves ≡ moves
others-none place [] e = refl
others-none place (m ∷ ms) e = by (others-none place ms) (same_place m.from place) e where
  by : (first_reader place ms ≡ None → others place ms ≡ ms) → (t : Bool) → cond t (Some m) (first_reader place ms) ≡ None → cond t ms (m ∷ others place ms) ≡ m ∷ ms
  by later true e = cc
  by later false e = ap (λ (r : Moves). m ∷ r) (later e)

pub length-others : (place : Loc) (moves : Moves) (m : Move) → first_reader place moves ≡ Some m → suc (length (others place moves)) ≡ length moves
length-others place [] m e = cc
length-others place (x ∷ ms) m e = by (length-others place ms m) (same_place x.from place) e where
  by : (first_reader place ms ≡ Some m → suc (length (others place ms)) ≡ length ms) → (t : Bool) → cond t (Some x) (first_reader place ms) ≡ Some m → suc (length (cond t ms (x ∷ others place ms))) ≡ suc (length ms)
  by later true e = refl
  by later false e = ap suc (later e)

pub length-others-le : (place : Loc) (moves : Moves) → length (others place moves) ≤ length moves
length-others-le place moves = by (first_reader place moves) refl where
  by : (found : Option Move) → first_reader place moves ≡ found → length (others place moves) ≤ length moves
  by None e = let h : length (others place moves) ≡ length moves = ap length (others-none place moves e) in omega arith
  by (Some m) e = let h : suc (length (others place moves)) ≡ length moves = length-others place moves m e in omega arith

-- ---- a walk

-- what one turn does, by what reads the last target
walked-some : (n : ℕ) (root : Move) (path pending : Moves) (m : Move) → first_reader (top_target root path) pending ≡ Some m → walked (suc n) root path pending ≡ walked n root (m ∷ path) (others (top_target root path) pending)
unfolding walked
walked-some n root path pending m e = ap (turned (walked n) root path pending) e

walked-none : (n : ℕ) (root : Move) (path pending : Moves) → first_reader (top_target root path) pending ≡ None → walked (suc n) root path pending ≡ unwound (walked n) root path pending
unfolding walked
walked-none n root path pending e = ap (turned (walked n) root path pending) e

-- where a walk is: the definition from here gives what the whole gives
pub record Standing (root : Move) (path : Moves) (index : BTreeMap ℕ (Vec Move)) (made before : Moves) (whole : MovesMade) : Type 0 where
  pub pending : Moves
  pub turns : ℕ
  pub holds : HoldsPending index pending
  pub enough : length pending + length pending + length path < suc turns
  pub moves : made ++ (walked (suc turns) root (reverse path) pending).made ≡ before ++ whole.made
  pub left : (walked (suc turns) root (reverse path) pending).left ≡ whole.left

pub standing_at_first : (root : Move) (index : BTreeMap ℕ (Vec Move)) (before pending : Moves) → HoldsPending index pending → Standing root [] index before before (walk_from root pending)
standing_at_first root index before pending h =
    record { pending = pending; turns = length pending + length pending; holds = h; enough = omega arith; moves = refl; left = refl }

-- what a call of `take` reports
abbrev pub Takes : BTreeMap ℕ (Vec Move) → BTreeMap ℕ (Vec Move) → Loc → Option Move → Type 0
Takes index index' here found = (moves : Moves) → HoldsPending index moves → (found ≡ first_reader here moves) × HoldsPending index' (others here moves)

reverse-push : (path : Moves) (m : Move) → reverse (path ++ m ∷ []) ≡ m ∷ reverse path
reverse-push path m = reverse-append path (m ∷ [])

pub pushed : (root : Move) (path : Moves) (index index' : BTreeMap ℕ (Vec Move)) (made before : Moves) (whole : MovesMade) (here : Loc) (m : Move) → here ≡ top_target root (reverse path) → Takes index index' here (Some m) → Standing root path index made before whole → Standing root (path ++ m ∷ []) index' made before whole
pushed root path index index' made before whole here m at t s = by s.turns s.enough s.moves s.left where
  got : (Some m ≡ first_reader here s.pending) × HoldsPending index' (others here s.pending)
  got = t s.pending s.holds

  found : first_reader (top_target root (reverse path)) s.pending ≡ Some m
  found = ap (λ (x : Loc). first_reader x s.pending) (sym at) ∙ sym got.0

  step : (n : ℕ) → walked (suc n) root (reverse path) s.pending ≡ walked n root (reverse (path ++ m ∷ [])) (others here s.pending)
  step n = walked-some n root (reverse path) s.pending m found ∙ (ap (λ (x : Loc). walked n root (m ∷ reverse path) (others x s.pending)) (sym at) ∙ ap (λ (p : Moves). walked n root p (others here s.pending)) (sym (reverse-push path m)))

  by : (n : ℕ) → length s.pending + length s.pending + length path < suc n → made ++ (walked (suc n) root (reverse path) s.pending).made ≡ before ++ whole.made → (walked (suc n) root (reverse path) s.pending).left ≡ whole.left → Standing root (path ++ m ∷ []) index' made before whole
  by zero enough moves left = let fewer : suc (length (others here s.pending)) ≡ length s.pending = length-others here s.pending m (sym got.0) in absurd (omega arith)
  by (suc n) enough moves left = record {
    pending = others here s.pending;
    turns = n;
    holds = got.1;
    enough =
        let fewer : suc (length (others here s.pending)) ≡ length s.pending = length-others here s.pending m (sym got.0) in
        let longer : length (path ++ m ∷ []) ≡ length path + 1 = length-append path (m ∷ []) in
        omega arith;
    moves = ap (λ (w : MovesMade). made ++ w.made) (sym (step (suc n))) ∙ moves;
    left = ap (λ (w : MovesMade). w.left) (sym (step (suc n))) ∙ left;
  }

pub popped : (root root' : Move) (path path' : Moves) (index index' : BTreeMap ℕ (Vec Move)) (made made' before : Moves) (whole : MovesMade) (here : Loc) (last : Move) → here ≡ top_target root (reverse path) → Takes index index' here None → path ≡ path' ++ last ∷ [] → made' ≡ made ++ unwound_moves root last → root' ≡ unwound_root root last → Standing root path index made before whole → Standing root' path' index' made' before whole
popped root root' path path' index index' made made' before whole here last at t split more again s = by s.turns s.enough s.moves s.left where
  got : (None ≡ first_reader here s.pending) × HoldsPending index' (others here s.pending)
  got = t s.pending s.holds

  found : first_reader (top_target root (reverse path)) s.pending ≡ None
  found = ap (λ (x : Loc). first_reader x s.pending) (sym at) ∙ sym got.0

  step : (n : ℕ) → walked (suc n) root (reverse path) s.pending ≡ then_made (unwound_moves root last) (walked n root' (reverse path') s.pending)
  step n =
      walked-none n root (reverse path) s.pending found
      ∙ (ap (λ (p : Moves). unwound (walked n) root p s.pending) (ap reverse split ∙ reverse-push path' last)
      ∙ ap (λ (r : Move). then_made (unwound_moves root last) (walked n r (reverse path') s.pending)) (sym again))

  by : (n : ℕ) → length s.pending + length s.pending + length path < suc n → made ++ (walked (suc n) root (reverse path) s.pending).made ≡ before ++ whole.made → (walked (suc n) root (reverse path) s.pending).left ≡ whole.left → Standing root' path' index' made' before whole
  by zero enough moves left =
      let longer : length path ≡ length path' + 1 = ap length split ∙ length-append path' (last ∷ []) in
      absurd (omega arith)
  by (suc n) enough moves left = record {
    pending = s.pending;
    turns = n;
    holds = subst (HoldsPending index') (others-none here s.pending (sym got.0)) got.1;
    enough =
        let longer : length path ≡ length path' + 1 = ap length split ∙ length-append path' (last ∷ []) in
        omega arith;
    moves =
        ap (λ (ms : Moves). ms ++ (walked (suc n) root' (reverse path') s.pending).made) more
        ∙ (append_assoc made (unwound_moves root last) (walked (suc n) root' (reverse path') s.pending).made
        ∙ (ap (λ (w : MovesMade). made ++ w.made) (sym (step (suc n))) ∙ moves));
    left = ap (λ (w : MovesMade). w.left) (sym (step (suc n))) ∙ left;
  }

pub record Finished (index : BTreeMap ℕ (Vec Move)) (made before : Moves) (whole : MovesMade) : Type 0 where
  pub moves : made ≡ before ++ whole.made
  pub left : HoldsPending index whole.left

pub finished : (root : Move) (path : Moves) (index index' : BTreeMap ℕ (Vec Move)) (made made' before : Moves) (whole : MovesMade) (here : Loc) → here ≡ top_target root (reverse path) → Takes index index' here None → path ≡ [] → made' ≡ made ++ root ∷ [] → Standing root path index made before whole → Finished index' made' before whole
finished root path index index' made made' before whole here at t none more s = record {
  moves = more ∙ (ap (λ (w : MovesMade). made ++ w.made) (sym step) ∙ s.moves);
  left = subst (HoldsPending index') (others-none here s.pending (sym got.0) ∙ (ap (λ (w : MovesMade). w.left) (sym step) ∙ s.left)) got.1;
} where
  got : (None ≡ first_reader here s.pending) × HoldsPending index' (others here s.pending)
  got = t s.pending s.holds

  step : walked (suc s.turns) root (reverse path) s.pending ≡ record { made = root ∷ []; left = s.pending }
  step =
      walked-none s.turns root (reverse path) s.pending (ap (λ (x : Loc). first_reader x s.pending) (sym at) ∙ sym got.0)
      ∙ ap (λ (p : Moves). unwound (walked s.turns) root (reverse p) s.pending) none

pub at_most : (a b : ℕ) (found : Option Move) → MatchOption found (a ≡ b) (λ _. a + 1 ≡ b) → a ≤ b
at_most a b None e = omega arith
at_most a b (Some m) e = omega arith

-- ---- the walks from the readers of one place

pub length-walked : (n : ℕ) (root : Move) (path pending : Moves) → length (walked n root path pending).left ≤ length pending
unfolding walked
length-walked zero root path pending = omega arith
length-walked (suc n) root path pending = by (λ r p q. length-walked n r p q) (first_reader (top_target root path) pending) refl path where
  by : ((r : Move) (p q : Moves) → length (walked n r p q).left ≤ length q) → (found : Option Move) → first_reader (top_target root path) pending ≡ found → (p : Moves) → length (turned (walked n) root p pending found).left ≤ length pending
  by later None e [] = omega arith
  by later None e (m ∷ p) = later (unwound_root root m) p pending
  by later (Some m) e p =
      let here = top_target root p in
      let shorter : length (others here pending) ≤ length pending = length-others-le here pending in
      let rest : length (walked n root (m ∷ p) (others here pending)).left ≤ length (others here pending) = later root (m ∷ p) (others here pending) in
      omega arith

drained-some : (n : ℕ) (place : Loc) (pending : Moves) (root : Move) → first_reader place pending ≡ Some root → drained_within (suc n) place pending ≡ then_made (walk_from root (others place pending)).made (drained_within n place (walk_from root (others place pending)).left)
unfolding drained_within
drained-some n place pending root e = ap (drained_by (drained_within n place) place pending) e

drained-none : (n : ℕ) (place : Loc) (pending : Moves) → first_reader place pending ≡ None → drained_within (suc n) place pending ≡ record { made = []; left = pending }
unfolding drained_within
drained-none n place pending e = ap (drained_by (drained_within n place) place pending) e

pub record Draining (place : Loc) (index : BTreeMap ℕ (Vec Move)) (made before : Moves) (whole : MovesMade) : Type 0 where
  pub pending : Moves
  pub turns : ℕ
  pub holds : HoldsPending index pending
  pub enough : length pending < suc turns
  pub moves : made ++ (drained_within (suc turns) place pending).made ≡ before ++ whole.made
  pub left : (drained_within (suc turns) place pending).left ≡ whole.left

pub draining_at_first : (place : Loc) (index : BTreeMap ℕ (Vec Move)) (before pending : Moves) → HoldsPending index pending → Draining place index before before (drained_at place pending)
draining_at_first place index before pending h =
    record { pending = pending; turns = length pending; holds = h; enough = omega arith; moves = refl; left = refl }

-- what a call of `walk` reports
abbrev pub Walks : BTreeMap ℕ (Vec Move) → BTreeMap ℕ (Vec Move) → Move → Moves → Moves → Type 0
Walks index index' root made made' = (moves : Moves) → HoldsPending index moves → Finished index' made' made (walk_from root moves)

pub walked_once : (place : Loc) (index mid index' : BTreeMap ℕ (Vec Move)) (made made' before : Moves) (whole : MovesMade) (root : Move) → Takes index mid place (Some root) → Walks mid index' root made made' → Draining place index made before whole → Draining place index' made' before whole
walked_once place index mid index' made made' before whole root t w s = by s.turns s.enough s.moves s.left where
  got : (Some root ≡ first_reader place s.pending) × HoldsPending mid (others place s.pending)
  got = t s.pending s.holds

  after : Finished index' made' made (walk_from root (others place s.pending))
  after = w (others place s.pending) got.1

  fewer : suc (length (others place s.pending)) ≡ length s.pending
  fewer = length-others place s.pending root (sym got.0)

  shorter : length (walk_from root (others place s.pending)).left ≤ length (others place s.pending)
  shorter = length-walked _ root [] (others place s.pending)

  step : (n : ℕ) → drained_within (suc n) place s.pending ≡ then_made (walk_from root (others place s.pending)).made (drained_within n place (walk_from root (others place s.pending)).left)
  step n = drained-some n place s.pending root (sym got.0)

  by : (n : ℕ) → length s.pending < suc n → made ++ (drained_within (suc n) place s.pending).made ≡ before ++ whole.made → (drained_within (suc n) place s.pending).left ≡ whole.left → Draining place index' made' before whole
  by zero enough moves left = let f = fewer in absurd (omega arith)
  by (suc n) enough moves left =
      let f = fewer in
      let g = shorter in
      record {
        pending = (walk_from root (others place s.pending)).left;
        turns = n;
        holds = after.left;
        enough = omega arith;
        moves =
            ap (λ (ms : Moves). ms ++ (drained_within (suc n) place (walk_from root (others place s.pending)).left).made) after.moves
            ∙ (append_assoc made (walk_from root (others place s.pending)).made (drained_within (suc n) place (walk_from root (others place s.pending)).left).made
            ∙ (ap (λ (x : MovesMade). made ++ x.made) (sym (step (suc n))) ∙ moves));
        left = ap (λ (x : MovesMade). x.left) (sym (step (suc n))) ∙ left;
      }

pub drained_all : (place : Loc) (index index' : BTreeMap ℕ (Vec Move)) (made before : Moves) (whole : MovesMade) → Takes index index' place None → Draining place index made before whole → Finished index' made before whole
drained_all place index index' made before whole t s = record {
  moves = sym (append-nil made) ∙ (ap (λ (x : MovesMade). made ++ x.made) (sym step) ∙ s.moves);
  left = subst (HoldsPending index') (others-none place s.pending (sym got.0) ∙ (ap (λ (x : MovesMade). x.left) (sym step) ∙ s.left)) got.1;
} where
  got : (None ≡ first_reader place s.pending) × HoldsPending index' (others place s.pending)
  got = t s.pending s.holds

  step : drained_within (suc s.turns) place s.pending ≡ record { made = []; left = s.pending }
  step = drained-none s.turns place s.pending (sym got.0)

-- ---- the whole

-- the moves from the index on are still to be added
pub record Gathering (index : BTreeMap ℕ (Vec Move)) (rest all : Moves) : Type 0 where
  pub pending : Moves
  pub holds : HoldsPending index pending
  pub same : gathered rest pending ≡ gathered all []

pub gathering_one : (index index' : BTreeMap ℕ (Vec Move)) (m : Move) (rest rest' all : Moves) → rest ≡ m ∷ rest' → ((moves : Moves) → HoldsPending index moves → HoldsPending index' (added m moves)) → Gathering index rest all → Gathering index' rest' all
gathering_one index index' m rest rest' all e add s =
    record { pending = added m s.pending; holds = add s.pending s.holds; same = ap (λ (ms : Moves). gathered ms s.pending) (sym e) ∙ s.same }

-- the walks from the sources of the moves from the index on are still to be made
pub record Emptying (index : BTreeMap ℕ (Vec Move)) (made rest all : Moves) : Type 0 where
  pub pending : Moves
  pub holds : HoldsPending index pending
  pub same : made ++ (drained rest pending).made ≡ resolved_moves all

abbrev pub Drains : BTreeMap ℕ (Vec Move) → BTreeMap ℕ (Vec Move) → Loc → Moves → Moves → Type 0
Drains index index' place made made' = (moves : Moves) → HoldsPending index moves → Finished index' made' made (drained_at place moves)

pub emptying_at_first : (index index' : BTreeMap ℕ (Vec Move)) (made made' rest all : Moves) → rest ≡ [] → made ≡ [] → Drains index index' spare made made' → Gathering index rest all → Emptying index' made' all all
emptying_at_first index index' made made' rest all none new d s =
    let h : HoldsPending index (gathered all []) = subst (HoldsPending index) (ap (λ (ms : Moves). gathered ms s.pending) (sym none) ∙ s.same) s.holds in
    let f = d (gathered all []) h in
    record {
      pending = (drained_at spare (gathered all [])).left;
      holds = f.left;
      same = ap (λ (ms : Moves). ms ++ (drained all (drained_at spare (gathered all [])).left).made) (f.moves ∙ ap (λ (ms : Moves). ms ++ (drained_at spare (gathered all [])).made) new);
    }

pub emptying_one : (index index' : BTreeMap ℕ (Vec Move)) (made made' : Moves) (m : Move) (rest rest' all : Moves) → rest ≡ m ∷ rest' → Drains index index' m.from made made' → Emptying index made rest all → Emptying index' made' rest' all
emptying_one index index' made made' m rest rest' all e d s =
    let f = d s.pending s.holds in
    record {
      pending = (drained_at m.from s.pending).left;
      holds = f.left;
      same =
          ap (λ (ms : Moves). ms ++ (drained rest' (drained_at m.from s.pending).left).made) f.moves
          ∙ (append_assoc made (drained_at m.from s.pending).made (drained rest' (drained_at m.from s.pending).left).made
          ∙ (ap (λ (ms : Moves). made ++ (drained ms s.pending).made) (sym e) ∙ s.same));
    }

pub emptied : (index : BTreeMap ℕ (Vec Move)) (made rest all : Moves) → rest ≡ [] → Emptying index made rest all → made ≡ resolved_moves all
emptied index made rest all none s = sym (append-nil made) ∙ (ap (λ (ms : Moves). made ++ (drained ms s.pending).made) (sym none) ∙ s.same)
