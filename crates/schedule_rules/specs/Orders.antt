-- The order into which straight runs are brought.
use Rattle.std.specs.Prelude.{◌≡◌, ◌⊎◌, ℕ, ◌+◌, ◌<◌, ◌≤◌, zero, suc, Bool, true, false, cond, ◌&&◌, not, nat_lt, List, [], ◌∷◌, ◌++◌, Option, Some, None, length, map}
use Rattle.cmm_meaning.specs.Setting.{Setting}
use Rattle.bs_words.specs.declared.values.Value.{Value}
use Rattle.mach_ir.specs.Acts.{Around, On, At, Act, Goes, Pushes, Jumps, Unwinds, Asks, Replaces, Ends, EndsRaising, Stuck}
use Rattle.lin_ir.specs.Meaning.{Locations, put_all, values, lin_act}
use Rattle.lin_ir.specs.declared.lin.Line.{Line}
use Rattle.schedule_rules.specs.Straight.{is_plain, depends, Ranked, ranked}

-- ---- the new order

abbrev pub rank_line : Ranked → Line
rank_line r = r.line

-- whether a line depends on none of these
abbrev pub depends_on_none : Line → List Line → Bool
depends_on_none i [] = true
depends_on_none i (j ∷ js) = not (depends i j) && depends_on_none i js

-- a line among those that are left, with those before it and those after it, in their order
pub record Pick : Type 0 where
  pub before : List Ranked
  pub taken : Ranked
  pub after : List Ranked

-- that of the two which is higher; of two as high the first
abbrev pub higher : Pick → Option Pick → Pick
higher p None = p
higher p (Some q) = cond (nat_lt p.taken.height q.taken.height) q p

abbrev pub if_free : Bool → Pick → Option Pick → Option Pick
if_free true p best = Some (higher p best)
if_free false p best = best

-- Which of these comes first: of those that depend on none before them the one of greatest height,
-- and of two as high the earlier. `before` are those before all of these.
abbrev pub best : List Ranked → List Ranked → Option Pick
best before [] = None
best before (r ∷ rs) =
    if_free (depends_on_none r.line (map rank_line before))
    (record { before = before; taken = r; after = rs }) (best (before ++ r ∷ []) rs)

-- one that may come next: it depends on none that is left before it
pub record MayComeNext (left : List Ranked) (p : Pick) : Type 0 where
  pub whole : p.before ++ p.taken ∷ p.after ≡ left
  pub free : depends_on_none p.taken.line (map rank_line p.before) ≡ true

-- the first is higher, or as high and no later
abbrev pub ComesFirst : Pick → Pick → Type 0
ComesFirst p q =
    (q.taken.height < p.taken.height)
    ⊎ ((q.taken.height ≡ p.taken.height) × (length p.before ≤ length q.before))

-- one after the other, at most so many
abbrev pub take_next : (List Ranked → List Line) → Option Pick → List Line
take_next go None = []
take_next go (Some p) = p.taken.line ∷ go (p.before ++ p.after)

abbrev pub taken_in_order : ℕ → List Ranked → List Line
taken_in_order zero rs = []
taken_in_order (suc n) rs = take_next (taken_in_order n) (best [] rs)

-- the lines of a run in their new order
abbrev pub scheduled_run : List Line → List Line
scheduled_run is = taken_in_order (length is) (ranked is)

-- ---- whole functions

-- the run at the head of some code is gathered, and put in order where it ends
abbrev pub scheduled_from : List Line → List Line → List Line
scheduled_from run [] = scheduled_run run
scheduled_from run (i ∷ is) =
    cond (is_plain i.op) (scheduled_from (run ++ i ∷ []) is)
    (scheduled_run run ++ i ∷ scheduled_from [] is)

-- each longest run in its new order, all else as it was
abbrev pub scheduled : List Line → List Line
scheduled code = scheduled_from [] code

-- ---- orders that respect dependence

-- whether all may stand within a run
abbrev pub are_plain : List Line → Bool
are_plain [] = true
are_plain (i ∷ is) = is_plain i.op && are_plain is

-- The second list is the first in an order in which each line has before it all on which it
-- depends.
pub data Reorders : List Line → List Line → Type 0 where
  nothing : Reorders [] []
  takes : (before : List Line) (i : Line) (after : List Line) {others : List Line} →
      depends_on_none i before ≡ true → Reorders (before ++ after) others →
      Reorders (before ++ i ∷ after) (i ∷ others)

-- Code from a line on that stays where it is, and the code in its place: after each such line comes
-- a run, reordered, which may be empty.
pub data Rest : List Line → List Line → Type 0 where
  rest_ends : Rest [] []
  rest_line : (i : Line) (xs ys : List Line) {is js : List Line} → is_plain i.op ≡ false →
      are_plain xs ≡ true → Reorders xs ys → Rest is js → Rest (i ∷ xs ++ is) (i ∷ ys ++ js)

-- The second code is the first with its straight runs reordered.
pub data Ordered : List Line → List Line → Type 0 where
  ordered : (xs ys is js : List Line) → are_plain xs ≡ true → Reorders xs ys → Rest is js →
      Ordered (xs ++ is) (ys ++ js)

-- ---- what lines of a run do

-- locations, and what is round a function
pub record Both : Type 0 where
  pub file : Locations
  pub around : Around

abbrev pub both_if : Around → Option Locations → Option Both
both_if a None = None
both_if a (Some f) = Some (record { file = f; around = a })

-- a line of a run goes on to the next
abbrev pub line_goes_on : ℕ → Line → Locations → Act → Option Both
line_goes_on end i f (Goes vs On a) = both_if a (put_all end i.results vs f)
line_goes_on end i f (Goes vs (At l) a) = None
line_goes_on end i f (Pushes a) = None
line_goes_on end i f (Jumps to a) = None
line_goes_on end i f (Unwinds a) = None
line_goes_on end i f (Asks callee vs go) = None
line_goes_on end i f (Replaces callee vs kept) = None
line_goes_on end i f (Ends d) = None
line_goes_on end i f (EndsRaising d) = None
line_goes_on end i f Stuck = None

abbrev pub acts_on : Setting → Line → Locations → Around → Option (List Value) → Option Both
acts_on c i f a None = None
acts_on c i f a (Some vs) = line_goes_on c.end i f (lin_act c i.op vs a)

-- what one line makes of them; nothing where it is stuck
abbrev pub does_line : Setting → Line → Both → Option Both
does_line c i s = acts_on c i s.file s.around (values c.end s.file i.args)

abbrev pub then_does : (Both → Option Both) → Option Both → Option Both
then_does go None = None
then_does go (Some s) = go s

-- what lines do one after the other
abbrev pub do_all : Setting → List Line → Both → Option Both
do_all c [] s = Some s
do_all c (i ∷ is) s = then_does (do_all c is) (does_line c i s)

-- ---- sums

-- what is added up over lines, as words or frame points are
abbrev pub sum_of_lines : (Line → ℕ) → List Line → ℕ
sum_of_lines measure [] = 0
sum_of_lines measure (i ∷ is) = measure i + sum_of_lines measure is
