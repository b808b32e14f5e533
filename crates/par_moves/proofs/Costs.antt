-- Which moves the walks make, and how many.
use Rattle.std.proofs.Common.{◌≡◌, ◌≢◌, ℕ, zero, suc, ◌+◌, ◌≤◌, ◌⊎◌, Bool, true, false, cond, List, [], ◌∷◌, ◌++◌, length, Option, Some, None, refl, sym, ap, ◌∙◌, subst, arith, inl, inr, append_assoc, length-append}
use Rattle.bs_words.specs.declared.types.Loc.{Loc}
use Rattle.par_moves.specs.declared.moves.Move.{Move}
use Rattle.par_moves.specs.Moves.{Moves, same_place, spare, needed, saved, from_spare, first_target, ReadsOn, IsCycle, joined_moves}
use Rattle.par_moves.specs.Resolved.{MovesMade, then_made, first_reader, others, top_target, unwound, turned, walked, walk_from, gathered, added, drained_by, drained_within, drained_at, drained, resolved_moves}
use Rattle.par_moves.proofs.Places.{same_place-true}
use Rattle.par_moves.proofs.Members.{In, NotTo, Apart, split_first}
use Rattle.par_moves.proofs.Turns.{length-others}
use Rattle.par_moves.proofs.Effects.{Fit, Follows, Ready, Effect, fit_root, fit_pushed, fit_popped}
use Rattle.par_moves.proofs.Draining.{ready_left, effect_one_walk, effect_drained_within, drained_none_reads, gathered_in, gathered_apart}

-- ---- lists

pub In-append : (xs ys : Moves) (m : Move) → In m (xs ++ ys) → In m xs ⊎ In m ys
In-append [] ys m h = inr h
In-append (x ∷ xs) ys m h = elim h [ inl is ↦ inl (inl is) | inr k ↦ elim (In-append xs ys m k) [ inl l ↦ inl (inr l) | inr l ↦ inr l ] ]

pub Apart-append : (xs ys : Moves) → Apart xs → Apart ys → ((m : Move) → In m xs → NotTo m.to ys) → Apart (xs ++ ys)
Apart-append [] ys a b across = b
Apart-append (x ∷ xs) ys a b across = (
  λ m h e. elim (In-append xs ys m h) [ inl k ↦ a.0 m k e | inr k ↦ across x (inl refl) m k e ],
  Apart-append xs ys a.1 b (λ m h. across m (inr h)),
)

joined-append : (xs ys : List Moves) → joined_moves (xs ++ ys) ≡ joined_moves xs ++ joined_moves ys
joined-append [] ys = refl
joined-append (x ∷ xs) ys = ap (λ (r : Moves). x ++ r) (joined-append xs ys) ∙ sym (append_assoc x (joined_moves xs) (joined_moves ys))

abbrev pub EachCycle : List Moves → Type 0
EachCycle [] = Unit
EachCycle (c ∷ cs) = IsCycle c × EachCycle cs

EachCycle-append : (xs ys : List Moves) → EachCycle xs → EachCycle ys → EachCycle (xs ++ ys)
EachCycle-append [] ys a b = b
EachCycle-append (x ∷ xs) ys a b = (a.0, EachCycle-append xs ys a.1 b)

-- ---- the cycle of a walk that comes back

first_target-path : (root : Move) (path : Moves) (end : Loc) → top_target root path ≡ first_target (path ++ root ∷ []) end
first_target-path root [] end = refl
first_target-path root (m ∷ path) end = refl

reads_path : (root : Move) (path : Moves) (end : Loc) → Follows root path → root.from ≡ end → ReadsOn (path ++ root ∷ []) end
reads_path root [] end f e = (e, tt)
reads_path root (m ∷ path) end f e = (f.0 ∙ first_target-path root path end, reads_path root path end f.1 e)

-- ---- one walk

-- a move itself, or one of its halves through t0
abbrev pub IsFrom : Move → Move → Type 0
IsFrom m made = (made ≡ m) ⊎ ((made ≡ from_spare m) ⊎ (made ≡ saved m))

-- a walk whose root reads t0 makes each move once
record Plain (root : Move) (path pending : Moves) (w : MovesMade) : Type 0 where
  pub few : length w.made + length w.left ≤ suc (length path) + length pending
  pub made : (r : Move) → In r w.made → (r ≡ root) ⊎ (In r path ⊎ In r pending)
  pub left_in : (r : Move) → In r w.left → In r pending

abbrev ArePlain : (Move → Moves → Moves → MovesMade) → Type 0
ArePlain go = (root : Move) (path pending : Moves) → ((m : Move) → In m path → m.to ≢ spare) → ((m : Move) → In m pending → m.to ≢ spare) → root.from ≡ spare → Plain root path pending (go root path pending)

plain_no_reader : (go : Move → Moves → Moves → MovesMade) → ArePlain go → (root : Move) (path pending : Moves) → ((m : Move) → In m path → m.to ≢ spare) → ((m : Move) → In m pending → m.to ≢ spare) → root.from ≡ spare → Plain root path pending (unwound go root path pending)
plain_no_reader go goes root [] pending tp tq e = record {
  few = omega arith;
  made = λ r h. elim h [ inl is ↦ inl is | inr k ↦ absurd k ];
  left_in = λ r h. h;
}
plain_no_reader go goes root (top ∷ path) pending tp tq e = by (same_place top.to root.from) refl where
  by : (t : Bool) → same_place top.to root.from ≡ t → Plain root (top ∷ path) pending (then_made (cond t (saved root ∷ top ∷ []) (top ∷ [])) (go (cond t (from_spare root) root) path pending))
  by true s = absurd (tp top (inl refl) (same_place-true top.to root.from s ∙ e))
  by false s =
      let p : Plain root path pending (go root path pending) = goes root path pending (λ m h. tp m (inr h)) tq e in
      let few : length (go root path pending).made + length (go root path pending).left ≤ suc (length path) + length pending = p.few in
      record {
        few = omega arith;
        made = λ r h. elim h [ inl is ↦ inr (inl (inl is)) | inr k ↦ elim (p.made r k) [ inl l ↦ inl l | inr d ↦ elim d [ inl l ↦ inr (inl (inr l)) | inr l ↦ inr (inr l) ] ] ];
        left_in = p.left_in;
      }

plain_turned : (go : Move → Moves → Moves → MovesMade) → ArePlain go → (root : Move) (path pending : Moves) → ((m : Move) → In m path → m.to ≢ spare) → ((m : Move) → In m pending → m.to ≢ spare) → root.from ≡ spare → Plain root path pending (turned go root path pending (first_reader (top_target root path) pending))
plain_turned go goes root path pending tp tq e = by (first_reader (top_target root path) pending) refl where
  by : (found : Option Move) → first_reader (top_target root path) pending ≡ found → Plain root path pending (turned go root path pending found)
  by None f = plain_no_reader go goes root path pending tp tq e
  by (Some c) f =
      let rest = others (top_target root path) pending in
      let s = split_first (top_target root path) pending c f in
      let fewer : suc (length rest) ≡ length pending = length-others (top_target root path) pending c f in
      let p : Plain root (c ∷ path) rest (go root (c ∷ path) rest) =
      goes root (c ∷ path) rest (λ m h. elim h [ inl is ↦ (λ t. tq c s.inside (sym (ap (λ (y : Move). y.to) is) ∙ t)) | inr k ↦ tp m k ]) (λ m h. tq m (s.back m h)) e in
      let few : length (go root (c ∷ path) rest).made + length (go root (c ∷ path) rest).left ≤ suc (suc (length path)) + length rest = p.few in
      record {
        few = omega arith;
        made = λ r h. elim (p.made r h) [
          | inl is ↦ inl is
          | inr d ↦ elim d [
            | inl k ↦ elim k [ inl is ↦ inr (inr (subst (λ (x : Move). In x pending) (sym is) s.inside)) | inr l ↦ inr (inl l) ]
            | inr k ↦ inr (inr (s.back r k))
          ]
        ];
        left_in = λ r h. s.back r (p.left_in r h);
      }

plain_walked : (n : ℕ) → ArePlain (walked n)
unfolding walked
plain_walked zero root path pending tp tq e = record { few = omega arith; made = λ r h. absurd h; left_in = λ r h. h }
plain_walked (suc n) root path pending tp tq e = plain_turned (walked n) (plain_walked n) root path pending tp tq e

pub record Costs (root : Move) (path pending : Moves) (w : MovesMade) : Type 0 where
  pub cycles : List Moves
  pub each : EachCycle cycles
  pub inside : (m : Move) → In m (joined_moves cycles) → (m ≡ root) ⊎ (In m path ⊎ In m pending)
  pub apart : Apart (joined_moves cycles)
  pub gone : (m : Move) → In m (joined_moves cycles) → NotTo m.to w.left
  pub few : length w.made + length w.left ≤ suc (length path) + length pending + length cycles
  pub made : (r : Move) → In r w.made → IsFrom root r ⊎ (In r path ⊎ In r pending)
  pub left_in : (r : Move) → In r w.left → In r pending

abbrev HaveCosts : (Move → Moves → Moves → MovesMade) → Type 0
HaveCosts go = (root : Move) (path pending : Moves) → Fit root path pending → Costs root path pending (go root path pending)

costs_cycle : (go : Move → Moves → Moves → MovesMade) → ArePlain go → (root top : Move) (path pending : Moves) → Fit root (top ∷ path) pending → top.to ≡ root.from → Costs root (top ∷ path) pending (then_made (saved root ∷ top ∷ []) (go (from_spare root) path pending))
costs_cycle go plain root top path pending f back = record {
  cycles = cycle ∷ [];
  each = ((f.follows.0 ∙ first_target-path root path top.to, reads_path root path top.to f.follows.1 (sym back)), tt);
  inside = λ m h. elim (in_cycle m (of_cycle m h)) [ inl is ↦ inl is | inr k ↦ inr (inl k) ];
  apart = Apart-append cycle [] apart_cycle tt (λ m h x k e. k);
  gone = λ m h x k e. cycle_gone m (in_cycle m (of_cycle m h)) x k e;
  few = let few : length (go (from_spare root) path pending).made + length (go (from_spare root) path pending).left ≤ suc (length path) + length pending = rest.few in omega arith;
  made = λ r h. elim h [
    | inl is ↦ inl (inr (inr is))
    | inr k ↦ elim k [
      | inl is ↦ inr (inl (inl is))
      | inr l ↦ elim (rest.made r l) [ inl is ↦ inl (inr (inl is)) | inr d ↦ elim d [ inl x ↦ inr (inl (inr x)) | inr x ↦ inr (inr x) ] ]
    ]
  ];
  left_in = rest.left_in;
} where
  cycle : Moves
  cycle = top ∷ (path ++ root ∷ [])

  rest : Plain (from_spare root) path pending (go (from_spare root) path pending)
  rest = plain (from_spare root) path pending (λ m h. f.path_target m (inr h)) f.pending_target refl

  of_cycle : (m : Move) → In m (cycle ++ []) → In m cycle
  of_cycle m h = elim (In-append cycle [] m h) [ inl k ↦ k | inr k ↦ absurd k ]

  in_cycle : (m : Move) → In m cycle → (m ≡ root) ⊎ In m (top ∷ path)
  in_cycle m h = elim h [
    | inl is ↦ inr (inl is)
    | inr k ↦ elim (In-append path (root ∷ []) m k) [ inl l ↦ inr (inr l) | inr d ↦ elim d [ inl is ↦ inl is | inr l ↦ absurd l ] ]
  ]

  apart_cycle : Apart cycle
  apart_cycle = (
    λ x h e. elim (In-append path (root ∷ []) x h) [
      | inl k ↦ f.path_apart.0 x k e
      | inr d ↦ elim d [ inl is ↦ f.below top (inl refl) (sym e ∙ ap (λ (y : Move). y.to) is) | inr l ↦ l ]
    ],
    Apart-append path (root ∷ []) f.path_apart.1 (λ x h e. h, tt)
        (λ m h x k e. elim k [ inl is ↦ f.below m (inr h) (sym e ∙ ap (λ (y : Move). y.to) is) | inr l ↦ l ]),
  )

  cycle_gone : (m : Move) → (m ≡ root) ⊎ In m (top ∷ path) → (x : Move) → In x (go (from_spare root) path pending).left → x.to ≡ m.to → ⊥
  cycle_gone m h x k e = elim h [
    | inl is ↦ f.root_across x (rest.left_in x k) (e ∙ ap (λ (y : Move). y.to) is)
    | inr l ↦ f.across m l x (rest.left_in x k) e
  ]

costs_no_reader : (go : Move → Moves → Moves → MovesMade) → ArePlain go → HaveCosts go → (root : Move) (path pending : Moves) → Fit root path pending → Costs root path pending (unwound go root path pending)
costs_no_reader go plain goes root [] pending f = record {
  cycles = [];
  each = tt;
  inside = λ m h. absurd h;
  apart = tt;
  gone = λ m h x k e. h;
  few = omega arith;
  made = λ r h. elim h [ inl is ↦ inl (inl is) | inr k ↦ absurd k ];
  left_in = λ r h. h;
}
costs_no_reader go plain goes root (top ∷ path) pending f = by (same_place top.to root.from) refl where
  by : (t : Bool) → same_place top.to root.from ≡ t → Costs root (top ∷ path) pending (then_made (cond t (saved root ∷ top ∷ []) (top ∷ [])) (go (cond t (from_spare root) root) path pending))
  by true e = costs_cycle go plain root top path pending f (same_place-true top.to root.from e)
  by false e =
      let c : Costs root path pending (go root path pending) = goes root path pending (fit_popped root top path pending f) in
      let few : length (go root path pending).made + length (go root path pending).left ≤ suc (length path) + length pending + length c.cycles = c.few in
      record {
        cycles = c.cycles;
        each = c.each;
        inside = λ m h. elim (c.inside m h) [ inl is ↦ inl is | inr d ↦ elim d [ inl k ↦ inr (inl (inr k)) | inr k ↦ inr (inr k) ] ];
        apart = c.apart;
        gone = c.gone;
        few = omega arith;
        made = λ r h. elim h [
          | inl is ↦ inr (inl (inl is))
          | inr k ↦ elim (c.made r k) [ inl l ↦ inl l | inr d ↦ elim d [ inl l ↦ inr (inl (inr l)) | inr l ↦ inr (inr l) ] ]
        ];
        left_in = c.left_in;
      }

costs_turned : (go : Move → Moves → Moves → MovesMade) → ArePlain go → HaveCosts go → (root : Move) (path pending : Moves) → Fit root path pending → Costs root path pending (turned go root path pending (first_reader (top_target root path) pending))
costs_turned go plain goes root path pending f = by (first_reader (top_target root path) pending) refl where
  by : (found : Option Move) → first_reader (top_target root path) pending ≡ found → Costs root path pending (turned go root path pending found)
  by None e = costs_no_reader go plain goes root path pending f
  by (Some n) e =
      let rest = others (top_target root path) pending in
      let s = split_first (top_target root path) pending n e in
      let fewer : suc (length rest) ≡ length pending = length-others (top_target root path) pending n e in
      let c : Costs root (n ∷ path) rest (go root (n ∷ path) rest) = goes root (n ∷ path) rest (fit_pushed root path pending rest n s f) in
      let few : length (go root (n ∷ path) rest).made + length (go root (n ∷ path) rest).left ≤ suc (suc (length path)) + length rest + length c.cycles = c.few in
      let wider : (m : Move) → In m (n ∷ path) ⊎ In m rest → In m path ⊎ In m pending = λ m d. elim d [
        | inl k ↦ elim k [ inl is ↦ inr (subst (λ (x : Move). In x pending) (sym is) s.inside) | inr l ↦ inl l ]
        | inr k ↦ inr (s.back m k)
      ] in
      record {
        cycles = c.cycles;
        each = c.each;
        inside = λ m h. elim (c.inside m h) [ inl is ↦ inl is | inr d ↦ inr (wider m d) ];
        apart = c.apart;
        gone = c.gone;
        few = omega arith;
        made = λ r h. elim (c.made r h) [ inl k ↦ inl k | inr d ↦ inr (wider r d) ];
        left_in = λ r h. s.back r (c.left_in r h);
      }

costs_walked : (n : ℕ) → HaveCosts (walked n)
unfolding walked
costs_walked zero root path pending f = record {
  cycles = [];
  each = tt;
  inside = λ m h. absurd h;
  apart = tt;
  gone = λ m h x k e. h;
  few = omega arith;
  made = λ r h. absurd h;
  left_in = λ r h. h;
}
costs_walked (suc n) root path pending f = costs_turned (walked n) (plain_walked n) (costs_walked n) root path pending f

-- ---- all walks

pub record Total (pending : Moves) (w : MovesMade) : Type 0 where
  pub cycles : List Moves
  pub each : EachCycle cycles
  pub inside : (m : Move) → In m (joined_moves cycles) → In m pending
  pub apart : Apart (joined_moves cycles)
  pub gone : (m : Move) → In m (joined_moves cycles) → NotTo m.to w.left
  pub few : length w.made + length w.left ≤ length pending + length cycles
  pub made : (r : Move) → In r w.made → (m : Move) × In m pending × IsFrom m r
  pub left_in : (r : Move) → In r w.left → In r pending

total_nothing : (pending : Moves) → Total pending (record { made = []; left = pending })
total_nothing pending = record {
  cycles = [];
  each = tt;
  inside = λ m h. absurd h;
  apart = tt;
  gone = λ m h x k e. h;
  few = omega arith;
  made = λ r h. absurd h;
  left_in = λ r h. h;
}

total_one_walk : (place : Loc) (pending : Moves) (root : Move) → first_reader place pending ≡ Some root → Ready place pending → Total pending (walk_from root (others place pending))
total_one_walk place pending root e r =
    let rest = others place pending in
    let s = split_first place pending root e in
    let w = walk_from root rest in
    let fewer : suc (length rest) ≡ length pending = length-others place pending root e in
    let c : Costs root [] rest w = costs_walked (suc (length rest + length rest)) root [] rest (fit_root place pending rest root s r) in
    let few : length w.made + length w.left ≤ suc 0 + length rest + length c.cycles = c.few in
    record {
      cycles = c.cycles;
      each = c.each;
      inside = λ m h. elim (c.inside m h) [
        | inl is ↦ subst (λ (x : Move). In x pending) (sym is) s.inside
        | inr d ↦ elim d [ inl k ↦ absurd k | inr k ↦ s.back m k ]
      ];
      apart = c.apart;
      gone = c.gone;
      few = omega arith;
      made = λ x h. elim (c.made x h) [
        | inl k ↦ (root, s.inside, k)
        | inr d ↦ elim d [ inl k ↦ absurd k | inr k ↦ (x, s.back x k, inl refl) ]
      ];
      left_in = λ x h. s.back x (c.left_in x h);
    }

total_then : (pending : Moves) (v w : MovesMade) → Total pending v → Total v.left w → Total pending (then_made v.made w)
total_then pending v w e f =
    let parts : (m : Move) → In m (joined_moves (e.cycles ++ f.cycles)) → In m (joined_moves e.cycles) ⊎ In m (joined_moves f.cycles) =
    λ m h. In-append (joined_moves e.cycles) (joined_moves f.cycles) m (subst (In m) (joined-append e.cycles f.cycles) h) in
    let few_e : length v.made + length v.left ≤ length pending + length e.cycles = e.few in
    let few_f : length w.made + length w.left ≤ length v.left + length f.cycles = f.few in
    let longer : length (v.made ++ w.made) ≡ length v.made + length w.made = length-append v.made w.made in
    let more : length (e.cycles ++ f.cycles) ≡ length e.cycles + length f.cycles = length-append e.cycles f.cycles in
    record {
      cycles = e.cycles ++ f.cycles;
      each = EachCycle-append e.cycles f.cycles e.each f.each;
      inside = λ m h. elim (parts m h) [ inl k ↦ e.inside m k | inr k ↦ e.left_in m (f.inside m k) ];
      apart = subst Apart (sym (joined-append e.cycles f.cycles)) (Apart-append (joined_moves e.cycles) (joined_moves f.cycles) e.apart f.apart (λ m h x k t. e.gone m h x (f.inside x k) t));
      gone = λ m h x k t. elim (parts m h) [ inl l ↦ e.gone m l x (f.left_in x k) t | inr l ↦ f.gone m l x k t ];
      few = omega arith;
      made = λ r h. elim (In-append v.made w.made r h) [
        | inl k ↦ e.made r k
        | inr k ↦ (let t : (m : Move) × In m v.left × IsFrom m r = f.made r k in (t.0, e.left_in t.0 t.1, t.2))
      ];
      left_in = λ r h. e.left_in r (f.left_in r h);
    }

-- any values will do, to know what is left
names : Loc → Loc
names place = place

total_drained_within : (n : ℕ) (place : Loc) (pending : Moves) → Ready place pending → Total pending (drained_within n place pending)
unfolding drained_within
total_drained_within zero place pending r = total_nothing pending
total_drained_within (suc n) place pending r = by (λ q s. total_drained_within n place q s) (first_reader place pending) refl where
  by : ((q : Moves) → Ready place q → Total q (drained_within n place q)) → (found : Option Move) → first_reader place pending ≡ found → Total pending (drained_by (drained_within n place) place pending found)
  by later None e = total_nothing pending
  by later (Some root) e =
      let w = walk_from root (others place pending) in
      total_then pending w (drained_within n place w.left) (total_one_walk place pending root e r)
      (later w.left (ready_left names place pending w r (effect_one_walk names place pending root e r)))

total_drained : (ms pending : Moves) → Apart pending → ((m : Move) → In m pending → m.to ≢ spare) → ((m : Move) → In m pending → m.from ≢ spare) → Total pending (drained ms pending)
total_drained [] pending a targets free = total_nothing pending
total_drained (m ∷ ms) pending a targets free =
    let w = drained_at m.from pending in
    let r : Ready m.from pending = record { apart = a; targets = targets; spare_free = inr free } in
    let first : Effect names [] pending w = effect_drained_within (suc (length pending)) m.from pending r names in
    total_then pending w (drained ms w.left) (total_drained_within (suc (length pending)) m.from pending r)
    (total_drained ms w.left first.left_apart (λ x h. targets x (first.left_in x h)) (λ x h. free x (first.left_in x h)))

needed_in : (ms : Moves) (x : Move) → In x ms → (x.from ≡ x.to → ⊥) → In x (needed ms)
needed_in [] x h needs = h
needed_in (m ∷ ms) x h needs = by (λ k. needed_in ms x k needs) (same_place m.from m.to) refl h where
  by : (In x ms → In x (needed ms)) → (t : Bool) → same_place m.from m.to ≡ t → (x ≡ m) ⊎ In x ms → In x (cond t (needed ms) (m ∷ needed ms))
  by later true e (inl is) = absurd (needs (ap (λ (y : Move). y.from) is ∙ (same_place-true m.from m.to e ∙ sym (ap (λ (y : Move). y.to) is))))
  by later true e (inr k) = later k
  by later false e (inl is) = inl is
  by later false e (inr k) = inr (later k)

length-gathered : (ms pending : Moves) → length (gathered ms pending) ≡ length (needed ms) + length pending
length-gathered [] pending = omega arith
length-gathered (m ∷ ms) pending =
    length-gathered ms (added m pending) ∙ by (same_place m.from m.to)
  where
    by : (t : Bool) → length (needed ms) + length (cond t pending (m ∷ pending)) ≡ length (cond t (needed ms) (m ∷ needed ms)) + length pending
    by true = refl
    by false = omega arith

-- what is made of the moves, and how much
pub record Sums (moves done : Moves) : Type 0 where
  pub cycles : List Moves
  pub each : EachCycle cycles
  pub inside : (m : Move) → In m (joined_moves cycles) → In m (needed moves)
  pub apart : Apart (joined_moves cycles)
  pub few : length done ≤ length (needed moves) + length cycles
  pub made : (r : Move) → In r done → (m : Move) × In m (needed moves) × IsFrom m r

pub sums : (moves : Moves) → Apart moves → ((m : Move) → In m moves → m.to ≢ spare) → Sums moves (resolved_moves moves)
sums moves a targets =
    let all = gathered moves [] in
    let planned : (x : Move) → In x all → In x moves × (x.from ≡ x.to → ⊥) = λ x k. elim (gathered_in moves [] x k) [ inl l ↦ absurd l | inr d ↦ d ] in
    let r : Ready spare all = record { apart = gathered_apart moves [] a tt (λ m h x k e. k); targets = λ x k. targets x (planned x k).0; spare_free = inl refl } in
    let first = drained_at spare all in
    let effect : Effect names [] all first = effect_drained_within (suc (length all)) spare all r names in
    let whole : Total all (then_made first.made (drained moves first.left)) =
    total_then all first (drained moves first.left) (total_drained_within (suc (length all)) spare all r)
    (total_drained moves first.left effect.left_apart (λ x k. r.targets x (effect.left_in x k)) (λ x k e. drained_none_reads (suc (length all)) spare all (omega arith) x k e)) in
    let few : length (first.made ++ (drained moves first.left).made) + length (drained moves first.left).left ≤ length all + length whole.cycles = whole.few in
    let fewer : length all ≡ length (needed moves) + 0 = length-gathered moves [] in
    let is_needed : (x : Move) → In x all → In x (needed moves) = λ x k. needed_in moves x (planned x k).0 (planned x k).1 in
    record {
      cycles = whole.cycles;
      each = whole.each;
      inside = λ m h. is_needed m (whole.inside m h);
      apart = whole.apart;
      few = omega arith;
      made = λ x h. let t : (m : Move) × In m all × IsFrom m x = whole.made x h in (t.0, is_needed t.0 t.1, t.2);
    }
