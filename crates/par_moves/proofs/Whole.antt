-- What the sequence that is made of moves promises.
use Rattle.std.proofs.Common.{◌≡◌, ◌≢◌, zero, suc, ◌<◌, ◌⊎◌, Bool, true, false, cond, List, [], ◌∷◌, length, All, AllPairs, Contains, refl, sym, ap, ◌∙◌, arith, inl, inr}
use Rattle.std.proofs.lemmas.List.Elements.{All-nil, All-cons, All-contains}
use Rattle.std.proofs.lemmas.List.Kept.{AllPairs-cons}
use Rattle.bs_words.specs.declared.types.Loc.{Loc}
use Rattle.par_moves.specs.declared.moves.Move.{Move}
use Rattle.par_moves.specs.Moves.{Moves, spare, needed, same_place, moved, after_moves, origin, LeavesSources, IsMadeFor, OneMoreForEachCycle, IsCycle, joined_moves}
use Rattle.par_moves.specs.Resolved.{resolved_moves}
use Rattle.par_moves.proofs.Members.{In, Apart}
use Rattle.par_moves.proofs.Draining.{Leaves, leaves}
use Rattle.par_moves.proofs.Costs.{EachCycle, sums}

-- ---- members, by places and by recursion

pub Contains-from_In : (ms : Moves) (m : Move) → In m ms → Contains ms m
Contains-from_In [] m h = absurd h
Contains-from_In (x ∷ ms) m h = by (Contains-from_In ms m) h where
  by : (In m ms → Contains ms m) → (m ≡ x) ⊎ In m ms → Contains (x ∷ ms) m
  by later (inl is) = (zero, omega arith, sym is)
  by later (inr k) = let c : Contains ms m = later k in (suc c.0, (let h : c.0 < length ms = c.1 in omega arith), c.2)

pub all_from_In : (P : Move → Type 0) (ms : Moves) → ((m : Move) → In m ms → P m) → All P ms
all_from_In P [] h = All-nil P
all_from_In P (x ∷ ms) h = All-cons P x ms (h x (inl refl)) (all_from_In P ms (λ m k. h m (inr k)))

In-from_all : (P : Move → Type 0) (ms : Moves) → All P ms → (m : Move) → In m ms → P m
In-from_all P ms a m h = All-contains P ms m a (Contains-from_In ms m h)

apart_from_pairs : (ms : Moves) → AllPairs (λ a b. a.to ≢ b.to) ms → Apart ms
apart_from_pairs [] a = tt
apart_from_pairs (x ∷ ms) a = (
  λ m h e.
      let c : Contains ms m = Contains-from_In ms m h in
      let below : suc c.0 < suc (length ms) = (let l : c.0 < length ms = c.1 in omega arith) in
      a zero (suc c.0) m (omega arith) below (sym e ∙ ap (λ (y : Move). y.to) (sym c.2)),
  apart_from_pairs ms (λ i j d p q. a (suc i) (suc j) d (omega arith) (omega arith)),
)

pub pairs_from_apart : (ms : Moves) → Apart ms → AllPairs (λ a b. a.to ≢ b.to) ms
pairs_from_apart [] a = λ i j d p q. absurd (omega arith)
pairs_from_apart (x ∷ ms) a =
    AllPairs-cons (λ (a b : Move). a.to ≢ b.to) x ms (all_from_In (λ (m : Move). x.to ≢ m.to) ms (λ m h e. a.0 m h (sym e))) (pairs_from_apart ms a.1)

all_cycles : (cs : List Moves) → EachCycle cs → All IsCycle cs
all_cycles [] e = All-nil IsCycle
all_cycles (c ∷ cs) e = All-cons IsCycle c cs e.0 (all_cycles cs e.1)

-- ---- the promises

pub leaves_sources : (moves : Moves) → AllPairs (λ a b. a.to ≢ b.to) moves → All (λ m. m.to ≢ spare) moves → LeavesSources moves (resolved_moves moves)
leaves_sources moves a t =
    let names : Loc → Loc = λ place. place in
    let l : Leaves names moves (resolved_moves moves) = leaves names moves (apart_from_pairs moves a) (In-from_all (λ (m : Move). m.to ≢ spare) moves t) in
    record {
      targets = all_from_In (λ (m : Move). origin (resolved_moves moves) m.to ≡ m.from) moves l.targets;
      others = λ place free no_target. l.rest place free (In-from_all (λ (m : Move). m.to ≢ place) moves no_target);
    }

pub made_for : (moves : Moves) → AllPairs (λ a b. a.to ≢ b.to) moves → All (λ m. m.to ≢ spare) moves → All (IsMadeFor moves) (resolved_moves moves)
made_for moves a t =
    let s = sums moves (apart_from_pairs moves a) (In-from_all (λ (m : Move). m.to ≢ spare) moves t) in
    all_from_In (IsMadeFor moves) (resolved_moves moves)
    (λ r h. let p = s.made r h in record { planned = p.0; among = Contains-from_In (needed moves) p.0 p.1; same = p.2 })

pub one_more_for_each_cycle : (moves : Moves) → AllPairs (λ a b. a.to ≢ b.to) moves → All (λ m. m.to ≢ spare) moves → OneMoreForEachCycle moves (resolved_moves moves)
one_more_for_each_cycle moves a t =
    let s = sums moves (apart_from_pairs moves a) (In-from_all (λ (m : Move). m.to ≢ spare) moves t) in
    record {
      cycles = s.cycles;
      each = all_cycles s.cycles s.each;
      among = all_from_In (Contains (needed moves)) (joined_moves s.cycles) (λ m h. Contains-from_In (needed moves) m (s.inside m h));
      apart = pairs_from_apart (joined_moves s.cycles) s.apart;
      few = s.few;
    }

-- ---- any values

both : {A B : Type 0} (f : A → B) (t : Bool) (x y : A) → cond t (f x) (f y) ≡ f (cond t x y)
both f true x y = refl
both f false x y = refl

cond_same : {A : Type 0} (t : Bool) (a b x y : A) → a ≡ x → b ≡ y → cond t a b ≡ cond t x y
cond_same true a b x y p q = p
cond_same false a b x y p q = q

after-same : {A : Type 0} (done : Moves) (f g : Loc → A) → ((place : Loc) → f place ≡ g place) → (place : Loc) → after_moves done f place ≡ after_moves done g place
after-same [] f g same place = same place
after-same (m ∷ ms) f g same place =
    after-same ms (moved m f) (moved m g) (λ p. cond_same (same_place p m.to) (f m.from) (f p) (g m.from) (g p) (same m.from) (same p)) place

after-through : {A : Type 0} (done : Moves) (held : Loc → A) (at : Loc → Loc) (place : Loc) → after_moves done (λ p. held (at p)) place ≡ held (after_moves done at place)
after-through [] held at place = refl
after-through (m ∷ ms) held at place =
    after-same ms (moved m (λ p. held (at p))) (λ p. held (moved m at p)) (λ p. both held (same_place p m.to) (at m.from) (at p)) place
    ∙ after-through ms held (moved m at) place

-- what a place holds after moves is what its origin held before
pub after-origin : {A : Type 0} (done : Moves) (held : Loc → A) (place : Loc) → after_moves done held place ≡ held (origin done place)
after-origin done held place = after-through done held (λ p. p) place

-- each target holds what its source held, whatever the values are
pub value_at_target : {A : Type 0} (moves done : Moves) → LeavesSources moves done → (held : Loc → A) → All (λ m. after_moves done held m.to ≡ held m.from) moves
value_at_target moves done l held =
    all_from_In (λ (m : Move). after_moves done held m.to ≡ held m.from) moves
    (λ m h. after-origin done held m.to ∙ ap held (In-from_all (λ (m : Move). origin done m.to ≡ m.from) moves l.targets m h))

pub value_elsewhere : {A : Type 0} (moves done : Moves) → LeavesSources moves done → (held : Loc → A) (place : Loc) → place ≢ spare → All (λ m. m.to ≢ place) moves → after_moves done held place ≡ held place
value_elsewhere moves done l held place free no_target = after-origin done held place ∙ ap held (l.others place free no_target)
