-- Which events happen in an instruction.
use Rattle.std.proofs.lemmas.Bool.{false_from_ne_true, not_from_true, or_from, or_left}
use Rattle.std.proofs.Common.{◌≡◌, ◌∙◌, ℕ, Bool, true, false, not, ◌||◌, ⊎_elim, List, [], ◌∷◌, refl, sym, ap}
use Rattle.std.proofs.lemmas.Cmp.{tied_itself, nat_cmp_total}
use Rattle.std.proofs.lemmas.Map.Lookups.{exact_unsigned}
use Rattle.std.specs.List.{Contains, list_any}
use Rattle.std.specs.Ordering.{is_eq, nat_cmp}
use Rattle.std.specs.declared.cmp.Ordering.{Ordering}
use Rattle.std.specs.declared.cmp.Ordering.TheVariants.{Less, Equal, Greater}
use Rattle.bs_words.specs.declared.types.Loc.{Loc}
use Rattle.bs_words.specs.declared.types.Loc.TheVariants as loc
use Rattle.bs_words.proofs.Lists.{none_in, first_in, later_in, in_cons}
use Rattle.mach_ir.specs.Placed.{is_straight}
use Rattle.mach_ir.specs.declared.op.Access.TheVariants as access
use Rattle.mach_ir.specs.declared.op.Op.TheVariants as op
use Rattle.mach_ir.specs.declared.op.Pure.TheVariants as pure
use Rattle.mach_ir.specs.declared.reg.Reg.{Reg}
use Rattle.mach_ir.specs.declared.mach.Instr.{Instr}
use Rattle.mach_ir.specs.declared.mach.MachOp.{MachOp}
use Rattle.mach_ir.specs.declared.mach.MachOp.TheVariants as mach
use Rattle.cse_repeat_rules.specs.Repeated.{allocates}
use Rattle.cse_deadcode.specs.declared.events.Computed.{Computed}
use Rattle.cse_deadcode.specs.declared.events.Event.{Event}
use Rattle.cse_deadcode.specs.declared.events.Event.TheVariants as event
use Rattle.cse_deadcode.specs.Events.{computation}
use Rattle.cse_deadcode.specs.Times.{is_same, writes_place, writes, happens_by, happens}
use Rattle.cse_deadcode.proofs.Last.{AreQuiet}
use Rattle.bs_words.proofs.Truths.{not_both}

-- ---- truth

pub not_false : (b : Bool) → not b ≡ false → b ≡ true
not_false true e = refl
not_false false e = absurd (not_both true refl e)

pub first_false : (a b : Bool) → a || b ≡ false → a ≡ false
first_false true b e = absurd (not_both true refl e)
first_false false b e = refl

pub second_false : (a b : Bool) → a || b ≡ false → b ≡ false
second_false true b e = absurd (not_both true refl e)
second_false false b e = e

pub only_first : (a b : Bool) → b ≡ false → a || b ≡ true → a ≡ true
only_first true b e h = refl
only_first false b e h = absurd (not_both b h e)

-- ---- numbers

pub equal_numbers : (a b : ℕ) → is_eq (nat_cmp a b) ≡ true → a ≡ b
equal_numbers a b e = exact_unsigned a b (by (nat_cmp a b) e)
  where
    by : (o : Ordering) → is_eq o ≡ true → o ≡ Equal
    by Less e = absurd (not_both false e refl)
    by Equal e = refl
    by Greater e = absurd (not_both false e refl)

pub numbers_equal : (a b : ℕ) → a ≡ b → is_eq (nat_cmp a b) ≡ true
numbers_equal a b e = ap (λ x. is_eq (nat_cmp x b)) e ∙ ap is_eq (tied_itself nat_cmp_total b)

-- ---- members

pub any_none : {A : Type 0} (test : A → Bool) (xs : List A) → ((x : A) → Contains xs x → test x ≡ false) → list_any test xs ≡ false
any_none test [] h = refl
any_none test (x ∷ xs) h =
    or_from (test x) (list_any test xs) (h x (first_in x xs)) (any_none test xs (λ y c. h y (later_in x y xs c)))

pub none_any : {A : Type 0} (test : A → Bool) (xs : List A) → list_any test xs ≡ false → (x : A) → Contains xs x → test x ≡ false
none_any test [] e x c = absurd (none_in x c)
none_any test (y ∷ xs) e x c =
    ⊎_elim (λ h. ap test (sym h) ∙ first_false (test y) (list_any test xs) e)
    (λ d. none_any test xs (second_false (test y) (list_any test xs) e) x d) (in_cons y x xs c)

-- ---- what is written

no_place : (l : Loc) → writes_place event.EndsRun l ≡ false
no_place loc.Unset = refl
no_place (loc.Machine k) = refl
no_place (loc.Slot k) = refl

no_place_allocated : (l : Loc) → writes_place event.Allocates l ≡ false
no_place_allocated loc.Unset = refl
no_place_allocated (loc.Machine k) = refl
no_place_allocated (loc.Slot k) = refl

no_place_computed : (c : Computed) (l : Loc) → writes_place (event.Computes c) l ≡ false
no_place_computed c loc.Unset = refl
no_place_computed c (loc.Machine k) = refl
no_place_computed c (loc.Slot k) = refl

no_place_number : (n : ℕ) (l : Loc) → writes_place (event.Writes n) l ≡ false
no_place_number n loc.Unset = refl
no_place_number n (loc.Machine k) = refl
no_place_number n (loc.Slot k) = refl

no_place_origin : (n : ℕ) (l : Loc) → writes_place (event.WritesOrigin n) l ≡ false
no_place_origin n loc.Unset = refl
no_place_origin n (loc.Machine k) = refl
no_place_origin n (loc.Slot k) = refl

pub number_written : (n : ℕ) (w : Reg) → writes (event.Writes n) w ≡ true → w.number ≡ n
number_written n w e =
    equal_numbers w.number n (only_first (is_eq (nat_cmp w.number n)) (writes_place (event.Writes n) w.loc) (no_place_number n w.loc) e)

pub written_number : (n : ℕ) (w : Reg) → w.number ≡ n → writes (event.Writes n) w ≡ true
written_number n w e =
    or_left (is_eq (nat_cmp w.number n)) (writes_place (event.Writes n) w.loc) (numbers_equal w.number n e)

pub origin_written : (n : ℕ) (w : Reg) → writes (event.WritesOrigin n) w ≡ true → w.origin ≡ n
origin_written n w e =
    equal_numbers w.origin n
    (only_first (is_eq (nat_cmp w.origin n)) (writes_place (event.WritesOrigin n) w.loc) (no_place_origin n w.loc) e)

pub written_origin : (n : ℕ) (w : Reg) → w.origin ≡ n → writes (event.WritesOrigin n) w ≡ true
written_origin n w e =
    or_left (is_eq (nat_cmp w.origin n)) (writes_place (event.WritesOrigin n) w.loc) (numbers_equal w.origin n e)

pub colour_written : (n : ℕ) (w : Reg) → writes (event.WritesColour n) w ≡ true → w.loc ≡ loc.Machine n
colour_written n w e = by w.loc e
  where
    by : (l : Loc) → writes_place (event.WritesColour n) l ≡ true → l ≡ loc.Machine n
    by loc.Unset e = absurd (not_both false e refl)
    by (loc.Machine k) e = ap loc.Machine (equal_numbers k n e)
    by (loc.Slot k) e = absurd (not_both false e refl)

pub written_colour : (n : ℕ) (w : Reg) → w.loc ≡ loc.Machine n → writes (event.WritesColour n) w ≡ true
written_colour n w e = ap (writes_place (event.WritesColour n)) e ∙ numbers_equal n n refl

pub slot_written : (n : ℕ) (w : Reg) → writes (event.WritesSlot n) w ≡ true → w.loc ≡ loc.Slot n
slot_written n w e = by w.loc e
  where
    by : (l : Loc) → writes_place (event.WritesSlot n) l ≡ true → l ≡ loc.Slot n
    by loc.Unset e = absurd (not_both false e refl)
    by (loc.Machine k) e = absurd (not_both false e refl)
    by (loc.Slot k) e = ap loc.Slot (equal_numbers k n e)

pub written_slot : (n : ℕ) (w : Reg) → w.loc ≡ loc.Slot n → writes (event.WritesSlot n) w ≡ true
written_slot n w e = ap (writes_place (event.WritesSlot n)) e ∙ numbers_equal n n refl

-- ---- what happens in an instruction

-- no register is written for which the event happens
abbrev pub AreUnwritten : Event → List Instr → Type 0
AreUnwritten e xs =
    (i : Instr) → Contains xs i → (w : Reg) → Contains i.results w → writes e w ≡ true → ⊥

pub unwritten : (e : Event) (xs : List Instr) → AreQuiet (happens e) xs → AreUnwritten e xs
unwritten e xs q i c w d h =
    not_both (writes e w) h
    (none_any (writes e) i.results (first_false (list_any (writes e) i.results) (happens_by e i.op i.args) (q i c)) w d)

-- an event that is only by a write
pub record IsWrite (e : Event) : Type 0 where
  pub no_end : is_same event.EndsRun e ≡ false
  pub no_allocation : is_same event.Allocates e ≡ false
  pub no_operator : (c : Computed) → is_same (event.Computes c) e ≡ false

pub number_write : (n : ℕ) → IsWrite (event.Writes n)
number_write n = record { no_end = refl; no_allocation = refl; no_operator = λ c. refl }

pub origin_write : (n : ℕ) → IsWrite (event.WritesOrigin n)
origin_write n = record { no_end = refl; no_allocation = refl; no_operator = λ c. refl }

pub colour_write : (n : ℕ) → IsWrite (event.WritesColour n)
colour_write n = record { no_end = refl; no_allocation = refl; no_operator = λ c. refl }

pub slot_write : (n : ℕ) → IsWrite (event.WritesSlot n)
slot_write n = record { no_end = refl; no_allocation = refl; no_operator = λ c. refl }

only_writes : (e : Event) → IsWrite e → (f : MachOp) (args : List Reg) → happens_by e f args ≡ false
only_writes e w (mach.Op (op.Pure (pure.Operator f r))) args = w.no_operator (computation f r args)
only_writes e w (mach.Op (op.Pure (pure.Copy kind))) args = refl
only_writes e w (mach.Op (op.Pure (pure.Constant k))) args = refl
only_writes e w (mach.Op (op.Pure (pure.Symbol name))) args = refl
only_writes e w (mach.Op (op.Access (access.Alloc blocks))) args = w.no_allocation
only_writes e w (mach.Op (op.Access (access.Load chunk offset))) args = refl
only_writes e w (mach.Op (op.Access (access.Store chunk offset))) args = refl
only_writes e w (mach.Op (op.Calling f)) args = w.no_end
only_writes e w (mach.Op (op.Leaving f)) args = w.no_end
only_writes e w (mach.Mark f) args = w.no_end

pub quiet : (e : Event) (xs : List Instr) → IsWrite e → AreUnwritten e xs → AreQuiet (happens e) xs
quiet e xs is free i c =
    or_from (list_any (writes e) i.results) (happens_by e i.op i.args)
    (any_none (writes e) i.results (λ w d. false_from_ne_true (writes e w) (free i c w d))) (only_writes e is i.op i.args)

straight_on : (f : MachOp) (args : List Reg) → happens_by event.EndsRun f args ≡ not (is_straight f)
straight_on (mach.Op (op.Pure (pure.Operator f r))) args = refl
straight_on (mach.Op (op.Pure (pure.Copy kind))) args = refl
straight_on (mach.Op (op.Pure (pure.Constant w))) args = refl
straight_on (mach.Op (op.Pure (pure.Symbol name))) args = refl
straight_on (mach.Op (op.Access (access.Alloc blocks))) args = refl
straight_on (mach.Op (op.Access (access.Load chunk offset))) args = refl
straight_on (mach.Op (op.Access (access.Store chunk offset))) args = refl
straight_on (mach.Op (op.Calling f)) args = refl
straight_on (mach.Op (op.Leaving f)) args = refl
straight_on (mach.Mark f) args = refl

allocated : (f : MachOp) (args : List Reg) → happens_by event.Allocates f args ≡ allocates f
allocated (mach.Op (op.Pure (pure.Operator f r))) args = refl
allocated (mach.Op (op.Pure (pure.Copy kind))) args = refl
allocated (mach.Op (op.Pure (pure.Constant w))) args = refl
allocated (mach.Op (op.Pure (pure.Symbol name))) args = refl
allocated (mach.Op (op.Access (access.Alloc blocks))) args = refl
allocated (mach.Op (op.Access (access.Load chunk offset))) args = refl
allocated (mach.Op (op.Access (access.Store chunk offset))) args = refl
allocated (mach.Op (op.Calling f)) args = refl
allocated (mach.Op (op.Leaving f)) args = refl
allocated (mach.Mark f) args = refl

pub ends_run : (i : Instr) → happens event.EndsRun i ≡ false → is_straight i.op ≡ true
ends_run i e =
    not_false (is_straight i.op)
    (sym (straight_on i.op i.args)
    ∙ second_false (list_any (writes event.EndsRun) i.results) (happens_by event.EndsRun i.op i.args) e)

pub in_run : (i : Instr) → is_straight i.op ≡ true → happens event.EndsRun i ≡ false
in_run i e =
    or_from (list_any (writes event.EndsRun) i.results) (happens_by event.EndsRun i.op i.args)
    (any_none (writes event.EndsRun) i.results (λ w d. no_place w.loc))
    (straight_on i.op i.args ∙ not_from_true (is_straight i.op) e)

pub keeps_addrs : (i : Instr) → happens event.Allocates i ≡ false → allocates i.op ≡ false
keeps_addrs i e =
    sym (allocated i.op i.args)
    ∙ second_false (list_any (writes event.Allocates) i.results) (happens_by event.Allocates i.op i.args) e

pub addrs_kept : (i : Instr) → allocates i.op ≡ false → happens event.Allocates i ≡ false
addrs_kept i e =
    or_from (list_any (writes event.Allocates) i.results) (happens_by event.Allocates i.op i.args)
    (any_none (writes event.Allocates) i.results (λ w d. no_place_allocated w.loc)) (allocated i.op i.args ∙ e)

pub never_written : (c : Computed) (w : Reg) → writes (event.Computes c) w ≡ false
never_written c w = no_place_computed c w.loc
