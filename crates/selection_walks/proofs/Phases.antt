-- Three phases of an address: it has not been bound; it has been bound; and a frame point has been passed since. What
-- a walk of a Mach function still does with the register of one number, and what a walk of a text still does with one
-- slot, in each phase.
use Rattle.std.proofs.Common.{◌≡◌, ℕ, zero, suc, Bool, true, false, List, [], ◌∷◌, ◌++◌, Option, Some, None, refl, sym, ap, ◌∙◌, subst, arith}
use Rattle.std.proofs.lemmas.Bool.{true≢false}
use Rattle.bs_words.specs.declared.types.Comp.TheVariants as comp
use Rattle.mach_ir.specs.Acts.{Target, On}
use Rattle.mach_ir.specs.Meaning.{passes_frame, code_at, from_handler, tries_at}
use Rattle.mach_ir.specs.Walks.{AmongRegisters, first, later, OneOf, targets, may_raise, WalkStep, goes, Raises, raises}
use Rattle.mach_ir.specs.declared.mach.Instr.{Instr}
use Rattle.mach_ir.specs.declared.mach.Mach.{Mach}
use Rattle.mach_ir.specs.declared.reg.Reg.{Reg}
use Rattle.mach_laws.proofs.Walking.{only_on}
use Rattle.walk_tables.specs.Walks.{Event, Binds, Uses, Passes, Task, Does, NextTasks, Walk}
use Rattle.walk_tables.specs.Walks as walk
use Rattle.walk_tables.specs.AddrLive.{Unbound}

pub data Phase : Type 0 where
  Early : Phase
  Bound : Phase
  Passed : Phase

-- not so, once it has been bound
abbrev pub Off : Phase → Type 0 → Type 0
Off Early U = Unit {0}
Off Bound U = U → ⊥
Off Passed U = U → ⊥

pub off : {U : Type 0} (p : Phase) → (U → ⊥) → Off p U
off Early f = tt
off Bound f = f
off Passed f = f

pub off_less : {U V : Type 0} (p : Phase) → (V → U) → Off p U → Off p V
off_less Early f o = tt
off_less Bound f o = λ v. o (f v)
off_less Passed f o = λ v. o (f v)

-- ---- of a Mach function

pub data Turns (n : ℕ) (i : Instr) : Phase → Phase → Type 0 where
  not_yet : Turns n i Early Early
  stays : {p : Phase} → (AmongRegisters n i.results → ⊥) → Turns n i p p
  writes : AmongRegisters n i.results → Turns n i Early Bound
  crosses : passes_frame i.op ≡ true → (AmongRegisters n i.results → ⊥) → Turns n i Bound Passed

-- a raise edge passes no write
pub data Flies (i : Instr) : Phase → Phase → Type 0 where
  the_same : {p : Phase} → Flies i p p
  beyond : passes_frame i.op ≡ true → Flies i Bound Passed

-- a register of this number that holds an address
pub data Written (n : ℕ) : List Reg → Type 0 where
  here : {r : Reg} {rs : List Reg} → r.number ≡ n → r.comp ≡ comp.Addr → Written n (r ∷ rs)
  there : {r : Reg} {rs : List Reg} → Written n rs → Written n (r ∷ rs)

-- those of this number hold addresses
abbrev pub Addresses : ℕ → List Reg → Type 0
Addresses n [] = Unit {0}
Addresses n (r ∷ rs) = (r.number ≡ n → r.comp ≡ comp.Addr) × Addresses n rs

pub address_written : {n : ℕ} {rs : List Reg} → Addresses n rs → AmongRegisters n rs → Written n rs
address_written a (first e) = here e (a.0 e)
address_written a (later i) = there (address_written a.1 i)

pub written_among : {n : ℕ} {rs : List Reg} → Written n rs → AmongRegisters n rs
written_among (here e a) = first e
written_among (there w) = later (written_among w)

-- In this phase at this code, some walk of at most so many steps goes on through the phases, and reads the register in
-- the last.
pub data Ahead (m : Mach) (n : ℕ) : ℕ → Phase → List Instr → Type 0 where
  ends : {k : ℕ} {i : Instr} {next : List Instr} → AmongRegisters n i.args → Ahead m n k Passed (i ∷ next)
  steps : {k : ℕ} {p q : Phase} {i : Instr} {next to : List Instr} → Addresses n i.results → Turns n i p q → WalkStep m i next to → Ahead m n k q to →
      Ahead m n (suc k) p (i ∷ next)
  strays : {k : ℕ} {p q : Phase} {i : Instr} {next to : List Instr} → Flies i p q → Raises m i next to → Ahead m n k q to → Ahead m n (suc k) p (i ∷ next)

pub more_steps : {m : Mach} {n k : ℕ} {p : Phase} {code : List Instr} → Ahead m n k p code → Ahead m n (suc k) p code
more_steps (ends a) = ends a
more_steps (steps a t l x) = steps a t l (more_steps x)
more_steps (strays f r x) = strays f r (more_steps x)

-- what an instruction does that goes on alone
pub data Past (m : Mach) (n k : ℕ) (i : Instr) (next : List Instr) : Phase → Type 0 where
  read_here : AmongRegisters n i.args → Past m n k i next Passed
  kept_on : {p : Phase} → Addresses n i.results → Off p (AmongRegisters n i.results) → Ahead m n k p next → Past m n k i next p
  wrote_it : Written n i.results → Ahead m n k Bound next → Past m n k i next Early

-- what one does that goes on, may raise and may be a frame point
pub data Onward (m : Mach) (n k : ℕ) (i : Instr) (next : List Instr) : Phase → Type 0 where
  simply : {p : Phase} → Past m n k i next p → Onward m n k i next p
  crossed : passes_frame i.op ≡ true → (AmongRegisters n i.results → ⊥) → Ahead m n k Passed next → Onward m n k i next Bound
  flew : {p q : Phase} {l : ℕ} {tries : List ℕ} → may_raise i.op ≡ true → tries_at (i ∷ next) ≡ l ∷ tries → Flies i p q →
      Ahead m n k q (from_handler l m.code) → Onward m n k i next p

leads_on : {m : Mach} {i : Instr} {next to : List Instr} → targets i.op ≡ On ∷ [] → WalkStep m i next to → to ≡ next
leads_on {m} {i} {next} ts (goes t o) = ap (code_at m.code next) (only_on t (subst (OneOf t) ts o))

turned : {m : Mach} {n k : ℕ} {i : Instr} {next : List Instr} {p q : Phase} → Addresses n i.results → Turns n i p q → Ahead m n k q next → Onward m n k i next p
turned a not_yet x = simply (kept_on a tt x)
turned a (stays {p = p} f) x = simply (kept_on a (off p f) x)
turned a (writes w) x = simply (wrote_it (address_written a w) x)
turned a (crosses e f) x = crossed e f x

flown : {m : Mach} {n k : ℕ} {i : Instr} {next to : List Instr} {p q : Phase} → Flies i p q → Raises m i next to → Ahead m n k q to → Onward m n k i next p
flown f (raises mr e) x = flew mr e f x

pub onward : {m : Mach} {n k : ℕ} {i : Instr} {next : List Instr} {p : Phase} → targets i.op ≡ On ∷ [] → Ahead m n k p (i ∷ next) → Onward m n k i next p
onward ts (ends a) = simply (read_here a)
onward {m} {n} ts (steps {k = k} {q = q} a t l x) = turned a t (more_steps (subst (λ c. Ahead m n k q c) (leads_on ts l) x))
onward ts (strays f r x) = flown f r (more_steps x)

pub straight : {m : Mach} {n k : ℕ} {i : Instr} {next : List Instr} {p : Phase} → targets i.op ≡ On ∷ [] → may_raise i.op ≡ false → passes_frame i.op ≡ false →
    Ahead m n k p (i ∷ next) → Past m n k i next p
straight ts mr pf x = by mr pf (onward ts x)
  where
    by : {m : Mach} {n k : ℕ} {i : Instr} {next : List Instr} {p : Phase} → may_raise i.op ≡ false → passes_frame i.op ≡ false → Onward m n k i next p →
        Past m n k i next p
    by mr pf (simply y) = y
    by mr pf (crossed e f y) = absurd (true≢false (sym e ∙ pf))
    by mr pf (flew e t f y) = absurd (true≢false (sym e ∙ mr))

-- what one does that goes nowhere in the function, or to a handler of it
pub data Leaving (m : Mach) (n k : ℕ) (i : Instr) (next : List Instr) : Phase → Type 0 where
  read_last : AmongRegisters n i.args → Leaving m n k i next Passed
  flew_off : {p : Phase} {l : ℕ} {tries : List ℕ} → may_raise i.op ≡ true → tries_at (i ∷ next) ≡ l ∷ tries → Ahead m n k p (from_handler l m.code) →
      Leaving m n k i next p

nowhere_to : {m : Mach} {i : Instr} {next to : List Instr} → targets i.op ≡ [] → WalkStep m i next to → ⊥
nowhere_to ts (goes t o) = none t (subst (OneOf t) ts o)
  where
    none : (t : Target) → OneOf t [] → ⊥
    none t o = elim o [ ]

leaves_flying : {m : Mach} {n k : ℕ} {i : Instr} {next to : List Instr} {p q : Phase} → passes_frame i.op ≡ false → Flies i p q → Raises m i next to →
    Ahead m n k q to → Leaving m n k i next p
leaves_flying pf the_same (raises mr e) x = flew_off mr e x
leaves_flying pf (beyond e) r x = absurd (true≢false (sym e ∙ pf))

pub leaves : {m : Mach} {n k : ℕ} {i : Instr} {next : List Instr} {p : Phase} → targets i.op ≡ [] → passes_frame i.op ≡ false → Ahead m n k p (i ∷ next) →
    Leaving m n k i next p
leaves ts pf (ends a) = read_last a
leaves ts pf (steps a t l x) = absurd (nowhere_to ts l)
leaves ts pf (strays f r x) = leaves_flying pf f r (more_steps x)

-- where a mark goes that writes nothing
pub data Marked (m : Mach) (n : ℕ) (i : Instr) (next : List Instr) : ℕ → Phase → Type 0 where
  read_there : {k : ℕ} → AmongRegisters n i.args → Marked m n i next k Passed
  moved_on : {k : ℕ} {p : Phase} (t : Target) → OneOf t (targets i.op) → Ahead m n k p (code_at m.code next t) → Marked m n i next (suc k) p

turned_nothing : {n : ℕ} {i : Instr} {p q : Phase} → i.results ≡ [] → passes_frame i.op ≡ false → Turns n i p q → q ≡ p
turned_nothing e pf not_yet = refl
turned_nothing e pf (stays f) = refl
turned_nothing {n} e pf (writes w) = absurd (none (subst (AmongRegisters n) e w))
  where
    none : AmongRegisters n [] → ⊥
    none a = elim a [ ]
turned_nothing e pf (crosses q f) = absurd (true≢false (sym q ∙ pf))

pub marked : {m : Mach} {n k : ℕ} {i : Instr} {next : List Instr} {p : Phase} → i.results ≡ [] → may_raise i.op ≡ false → passes_frame i.op ≡ false →
    Ahead m n k p (i ∷ next) → Marked m n i next k p
marked e mr pf (ends a) = read_there a
marked {m} {n} {next = next} e mr pf (steps {k = k} a t (goes u o) x) =
    moved_on u o (subst (λ q. Ahead m n k q (code_at m.code next u)) (turned_nothing e pf t) x)
marked e mr pf (strays f (raises r q) x) = absurd (true≢false (sym r ∙ mr))

-- ---- of a text

-- an event that leaves the slot as it is
abbrev pub Apart : Phase → Option ℕ → Event → Type 0
Apart Early w ev = Unit {0}
Apart p (Some s) (Binds k a at) = k ≡ s → ⊥
Apart p w ev = Unit {0}

pub apart_binds : (p : Phase) (w : Option ℕ) (k : ℕ) (x : Bool) (at : ℕ) → ((s : ℕ) → w ≡ Some s → k ≡ s → ⊥) → Apart p w (Binds k x at)
apart_binds Early w k x at f = tt
apart_binds Bound None k x at f = tt
apart_binds Bound (Some s) k x at f = f s refl
apart_binds Passed None k x at f = tt
apart_binds Passed (Some s) k x at f = f s refl

pub apart_uses : (p : Phase) (w : Option ℕ) (k at : ℕ) → Apart p w (Uses k at)
apart_uses Early w k at = tt
apart_uses Bound None k at = tt
apart_uses Bound (Some s) k at = tt
apart_uses Passed None k at = tt
apart_uses Passed (Some s) k at = tt

pub apart_passes : (p : Phase) (w : Option ℕ) (at : ℕ) → Apart p w (Passes at)
apart_passes Early w at = tt
apart_passes Bound None at = tt
apart_passes Bound (Some s) at = tt
apart_passes Passed None at = tt
apart_passes Passed (Some s) at = tt

-- In this phase before these tasks, some walk goes on through the phases and uses the slot in the last. Where no slot
-- is given no walk does.
pub data Told : Phase → Option ℕ → List Task → Type 0 where
  used : {s at : ℕ} {tasks : List Task} → Told Passed (Some s) (Does (Uses s at) ∷ tasks)
  skipped : {p : Phase} {w : Option ℕ} {ev : Event} {tasks : List Task} → Apart p w ev → Told p w tasks → Told p w (Does ev ∷ tasks)
  held : {s at : ℕ} {w : Option ℕ} {tasks : List Task} → Told Bound (Some s) tasks → Told Early w (Does (Binds s true at) ∷ tasks)
  past : {at : ℕ} {w : Option ℕ} {tasks : List Task} → Told Passed w tasks → Told Bound w (Does (Passes at) ∷ tasks)
  quietly : {p : Phase} {w : Option ℕ} {tasks left : List Task} → NextTasks tasks [] left → Told p w left → Told p w tasks

pub none_passed : {tasks : List Task} → Told Passed None tasks → ⊥
none_passed (skipped a t) = none_passed t
none_passed (quietly x t) = none_passed t

pub none_bound : {tasks : List Task} → Told Bound None tasks → ⊥
none_bound (skipped a t) = none_bound t
none_bound (past t) = none_passed t
none_bound (quietly x t) = none_bound t

pub any_early : {w v : Option ℕ} {tasks : List Task} → Told Early w tasks → Told Early v tasks
any_early (skipped a t) = skipped tt (any_early t)
any_early (held t) = held t
any_early (quietly x t) = quietly x (any_early t)

-- a slot that is given stays so
abbrev pub Kept : Option ℕ → Option ℕ → Type 0
Kept w v = (s : ℕ) → w ≡ Some s → v ≡ Some s

pub kept_same : {w : Option ℕ} → Kept w w
kept_same s e = e

pub kept_then : {w v u : Option ℕ} → Kept w v → Kept v u → Kept w u
kept_then f g s e = g s (f s e)

pub grown : (p : Phase) (w v : Option ℕ) {tasks : List Task} → Kept w v → Told p w tasks → Told p v tasks
grown Early w v k t = any_early t
grown Bound None v k t = absurd (none_bound t)
grown Bound (Some s) v {tasks} k t = subst (λ x. Told Bound x tasks) (sym (k s refl)) t
grown Passed None v k t = absurd (none_passed t)
grown Passed (Some s) v {tasks} k t = subst (λ x. Told Passed x tasks) (sym (k s refl)) t

pub bound_none : (w : Option ℕ) {tasks : List Task} → w ≡ None → Told Bound w tasks → ⊥
bound_none w {tasks} e t = none_bound (subst (λ x. Told Bound x tasks) e t)

-- ---- what is reported is a walk

pub data LivePassed (s : ℕ) (tasks : List Task) : Type 0 where
  live_passed : (es : List Event) (u : ℕ) → Walk tasks (es ++ Uses s u ∷ []) → Unbound s es → LivePassed s tasks

pub data LiveBound (s : ℕ) (tasks : List Task) : Type 0 where
  live_bound : (es fs : List Event) (p u : ℕ) → Walk tasks (es ++ Passes p ∷ (fs ++ Uses s u ∷ [])) → Unbound s es → Unbound s fs → LiveBound s tasks

pub data LiveEarly (tasks : List Task) : Type 0 where
  live_early : (before es fs : List Event) (s b p u : ℕ) → Walk tasks (before ++ Binds s true b ∷ (es ++ Passes p ∷ (fs ++ Uses s u ∷ []))) → Unbound s es →
      Unbound s fs → LiveEarly tasks

unbound_none : (s : ℕ) → Unbound s []
unbound_none s a at (k, l, e) = omega (arith, l)

unbound_one : (s : ℕ) (ev : Event) (es : List Event) → ((a : Bool) (at : ℕ) → ev ≡ Binds s a at → ⊥) → Unbound s es → Unbound s (ev ∷ es)
unbound_one s ev es p u a at (zero, l, e) = p a at e
unbound_one s ev es p u a at (suc k, l, e) = u a at (k, omega (arith, l), e)

abbrev slot_is : Event → ℕ
slot_is (Binds k a at) = k
slot_is (Uses k at) = k
slot_is (Passes at) = at

apart_is : (s : ℕ) (ev : Event) (p : Phase) → (p ≡ Early → ⊥) → Apart p (Some s) ev → (a : Bool) (at : ℕ) → ev ≡ Binds s a at → ⊥
apart_is s ev Early n x a at e = n refl
apart_is s (Binds k c place) Bound n x a at e = x (ap slot_is e)
apart_is s (Binds k c place) Passed n x a at e = x (ap slot_is e)
apart_is s (Uses k place) Bound n x a at e = cc
apart_is s (Uses k place) Passed n x a at e = cc
apart_is s (Passes place) Bound n x a at e = cc
apart_is s (Passes place) Passed n x a at e = cc

is_bound : Bound ≡ Early → ⊥
is_bound e = cc

is_passed : Passed ≡ Early → ⊥
is_passed e = cc

pub passed_walk : {s : ℕ} {tasks : List Task} → Told Passed (Some s) tasks → LivePassed s tasks
passed_walk {s} (used {at = at} {tasks = tasks}) = live_passed [] at (walk.goes _ tasks (_ ∷ []) [] (walk.does _ tasks) (walk.stops tasks)) (unbound_none s)
passed_walk {s} (skipped {ev = ev} {tasks = tasks} a t) = by (passed_walk t)
  where
    by : LivePassed s tasks → LivePassed s (Does ev ∷ tasks)
    by (live_passed es u w x) = live_passed (ev ∷ es) u (walk.goes _ tasks (ev ∷ []) _ (walk.does ev tasks) w) (unbound_one s ev es
        (apart_is s ev Passed is_passed a) x)
passed_walk {s} (quietly {tasks = tasks} {left = left} y t) = by (passed_walk t)
  where
    by : LivePassed s left → LivePassed s tasks
    by (live_passed es u w x) = live_passed es u (walk.goes tasks left [] _ y w) x

pub bound_walk : {s : ℕ} {tasks : List Task} → Told Bound (Some s) tasks → LiveBound s tasks
bound_walk {s} (past {at = at} {tasks = tasks} t) = by (passed_walk t)
  where
    by : LivePassed s tasks → LiveBound s (Does (Passes at) ∷ tasks)
    by (live_passed es u w x) = live_bound [] es at u (walk.goes _ tasks (_ ∷ []) _ (walk.does _ tasks) w) (unbound_none s) x
bound_walk {s} (skipped {ev = ev} {tasks = tasks} a t) = by (bound_walk t)
  where
    by : LiveBound s tasks → LiveBound s (Does ev ∷ tasks)
    by (live_bound es fs p u w x y) = live_bound (ev ∷ es) fs p u (walk.goes _ tasks (ev ∷ []) _ (walk.does ev tasks) w) (unbound_one s ev es
        (apart_is s ev Bound is_bound a) x) y
bound_walk {s} (quietly {tasks = tasks} {left = left} z t) = by (bound_walk t)
  where
    by : LiveBound s left → LiveBound s tasks
    by (live_bound es fs p u w x y) = live_bound es fs p u (walk.goes tasks left [] _ z w) x y

pub early_walk : {w : Option ℕ} {tasks : List Task} → Told Early w tasks → LiveEarly tasks
early_walk (held {s = s} {at = at} {tasks = tasks} t) = by (bound_walk t)
  where
    by : LiveBound s tasks → LiveEarly (Does (Binds s true at) ∷ tasks)
    by (live_bound es fs p u w x y) = live_early [] es fs s at p u (walk.goes _ tasks (_ ∷ []) _ (walk.does _ tasks) w) x y
early_walk (skipped {ev = ev} {tasks = tasks} a t) = by (early_walk t)
  where
    by : LiveEarly tasks → LiveEarly (Does ev ∷ tasks)
    by (live_early before es fs s b p u w x y) = live_early (ev ∷ before) es fs s b p u (walk.goes _ tasks (ev ∷ []) _ (walk.does ev tasks) w) x y
early_walk (quietly {tasks = tasks} {left = left} z t) = by (early_walk t)
  where
    by : LiveEarly left → LiveEarly tasks
    by (live_early before es fs s b p u w x y) = live_early before es fs s b p u (walk.goes tasks left [] _ z w) x y
