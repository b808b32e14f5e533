-- Places of a function and where they lead, as lists of numbers.
use Rattle.std.proofs.Common.{◌≡◌, ℕ, zero, suc, ◌-◌, ◌<◌, ◌≤◌, Bool, true, false, List, [], ◌∷◌, map, length, drop, refl, subst, arith}
use Rattle.std.proofs.lemmas.List.Elements.{All-contains, Contains-get_or, All-nil}
use Rattle.std.specs.List.{All, Contains}
use Rattle.std.specs.Prelude.{slice_index_or}
use Rattle.bs_words.specs.Contents.{contents}
use Rattle.bs_words.proofs.Lists.{none_in}
use Rattle.dataflow.specs.Flow.{IsPlace}
use Rattle.dataflow.specs.Flow as flows
use Rattle.dataflow.specs.declared.flow.Flow as flow
use Rattle.dataflow.specs.declared.flow.Place as place
use Rattle.mach_ir.specs.Acts.{Target, On}
use Rattle.mach_ir.specs.Meaning.{Nothing, Everything, destroyed_by, code_at, from_handler, tries_at}
use Rattle.mach_ir.specs.Walks.{OneOf, this, other, next_if, targets, may_raise, goes, raises, WalkStep, Raises, Live, read, on, aside}
use Rattle.mach_ir.specs.declared.mach.Mark.TheVariants as mark
use Rattle.mach_ir.specs.declared.mach.MachOp.{MachOp}
use Rattle.mach_ir.specs.declared.mach.MachOp.TheVariants as mach
use Rattle.mach_ir.specs.declared.mach.Instr.{Instr}
use Rattle.mach_ir.specs.declared.mach.Mach.{Mach}
use Rattle.mach_laws.specs.Expand.{Ending}
use Rattle.mach_laws.specs.Graph.{code_index, numbers_of_registers, next_places, raise_places, numbers_read, numbers_written, IsFlowOf}
use Rattle.mach_laws.proofs.Places.{ending_from_handler}
use Rattle.mach_laws.proofs.Walking.{in_numbers, ending_at, place_is, place_at, place_within, ending_place, target_of, in_targets, handler_of, in_handlers, ending_leads, ending_raises}

pub each : {A : Type 0} (P : A → Type 0) (xs : List A) → ((y : A) → Contains xs y → P y) → All P xs
each P xs h = λ k d lt. h (slice_index_or xs k d) (Contains-get_or xs k d lt)

-- ---- what destroys every colour goes on, if anywhere

only_next : (b : Bool) (t : Target) → OneOf t (next_if b) → t ≡ On
only_next true t this = refl
only_next true t (other o) = elim o [ ]
only_next false t o = elim o [ ]

differ : Nothing ≡ Everything → ⊥
differ e = cc

pub destroys_on : (f : MachOp) (t : Target) → destroyed_by f ≡ Everything → OneOf t (targets f) → t ≡ On
destroys_on (mach.Op f) t e o = only_next _ t o
destroys_on (mach.Mark (mark.Exit l n)) t e o = absurd (differ e)
destroys_on (mach.Mark (mark.If test l)) t e o = absurd (differ e)
destroys_on (mach.Mark (mark.Else l end)) t e o = absurd (differ e)
destroys_on (mach.Mark (mark.Switch labels)) t e o = absurd (differ e)
destroys_on (mach.Mark (mark.Case indexes l end)) t e o = absurd (differ e)
destroys_on (mach.Mark mark.Catch) t e o = absurd (differ e)
destroys_on (mach.Mark (mark.With l end)) t e o = absurd (differ e)
destroys_on (mach.Mark (mark.Try l)) t e o = absurd (differ e)
destroys_on (mach.Mark (mark.Leave l end)) t e o = absurd (differ e)
destroys_on (mach.Mark (mark.Handler l)) t e o = only_next true t o
destroys_on (mach.Mark (mark.End l)) t e o = absurd (differ e)

module _ (m : Mach) where
  -- ---- steps

  -- a step leads from a place to another
  pub record Steps (o q : ℕ) : Type 0 where
    pub instr : Instr
    pub next : List Instr
    pub is : drop o m.code ≡ instr ∷ next
    pub target : Target
    pub one : OneOf target (targets instr.op)
    pub to : drop q m.code ≡ code_at m.code next target
    pub lands : q ≤ length m.code

  pub steps_of : (o q : ℕ) (rest : List Instr) → drop o m.code ≡ rest → Contains (next_places m rest) q → Steps o q
  steps_of o q [] e c = absurd (none_in q c)
  steps_of o q (i ∷ next) e c =
      let t = target_of m next (targets i.op) q c in
      record {
        instr = i;
        next = next;
        is = e;
        target = t.0;
        one = t.1;
        to = place_at m (ending_at t.0 (ending_place m o e)) t.2;
        lands = subst (λ q. q ≤ length m.code) t.2 (place_within m (code_at m.code next t.0));
      }

  pub steps_to : {i : Instr} {next to : List Instr} → WalkStep m i next to → Contains (next_places m (i ∷ next)) (code_index m to)
  steps_to {i} {next} (goes t o) = in_targets m next o

  pub record Raised (o q : ℕ) : Type 0 where
    pub instr : Instr
    pub next : List Instr
    pub is : drop o m.code ≡ instr ∷ next
    pub to : List Instr
    pub lands_at : drop q m.code ≡ to
    pub raise : Raises m instr next to
    pub lands : q ≤ length m.code

  pub raised_of : (o q : ℕ) (rest : List Instr) → drop o m.code ≡ rest → Contains (raise_places m rest) q → Raised o q
  raised_of o q [] e c = absurd (none_in q c)
  raised_of o q (i ∷ next) e c =
      let h = handler_of m (may_raise i.op) (tries_at (i ∷ next)) q c in
      record {
        instr = i;
        next = next;
        is = e;
        to = from_handler h.0 m.code;
        lands_at = place_at m (ending_from_handler h.0 m.code) h.4;
        raise = raises h.2 h.3;
        lands = subst (λ q. q ≤ length m.code) h.4 (place_within m (from_handler h.0 m.code));
      }

  pub raises_to : {i : Instr} {next to : List Instr} → Raises m i next to → Contains (raise_places m (i ∷ next)) (code_index m to)
  raises_to {i} {next} (raises {l = l} {tries = tries} b e) = in_handlers m (may_raise i.op) (tries_at (i ∷ next)) l tries b e

  -- ---- the graph of liveness

  module _ (f : flow.Flow) (is : IsFlowOf m f) (formed : flows.IsFlowFormed f) where
    abbrev pub IsSmall : List ℕ → Type 0
    IsSmall ns = All (λ n. n < f.bound) ns

    abbrev pub IsWithin : List ℕ → Type 0
    IsWithin qs = All (λ q. q < length (contents f.places)) qs

    of_part : (P : List ℕ → Type 0) (part : place.Place → List ℕ) → P [] →
        ((x : place.Place) → IsPlace (length (contents f.places)) f.bound x → P (part x)) → (xs : List place.Place) →
        All (IsPlace (length (contents f.places)) f.bound) xs → (p : ℕ) → P (slice_index_or (map part xs) p [])
    of_part P part none h [] a p = none
    of_part P part none h (x ∷ xs) a zero = h x (a 0 x (omega arith))
    of_part P part none h (x ∷ xs) a (suc p) = of_part P part none h xs (λ k d lt. a (suc k) d (omega (arith, lt))) p

    pub next_within : (p : ℕ) → IsWithin (next_places m (drop p m.code))
    next_within p =
        subst IsWithin (is.next p)
        (of_part IsWithin (λ x. contents x.next) (All-nil (λ q. q < length (contents f.places))) (λ x h. h.next) (contents f.places) formed p)

    pub aside_within : (p : ℕ) → IsWithin (raise_places m (drop p m.code))
    aside_within p =
        subst IsWithin (is.aside p)
        (of_part IsWithin (λ x. contents x.aside) (All-nil (λ q. q < length (contents f.places))) (λ x h. h.aside) (contents f.places) formed p)

    pub reads_small : (p : ℕ) → IsSmall (numbers_read (drop p m.code))
    reads_small p =
        subst IsSmall (is.reads p)
        (of_part IsSmall (λ x. contents x.reads) (All-nil (λ n. n < f.bound)) (λ x h. h.reads) (contents f.places) formed p)

    pub writes_small : (p : ℕ) → IsSmall (numbers_written m (drop p m.code))
    writes_small p =
        subst IsSmall (is.writes p)
        (of_part IsSmall (λ x. contents x.writes) (All-nil (λ n. n < f.bound)) (λ x h. h.writes) (contents f.places) formed p)

    -- what is live is below the bound
    pub live_small : {n : ℕ} {rest : List Instr} → Live m n rest → Ending rest m.code → n < f.bound
    live_small {n} (read {i = i} {next = next} a) e =
        let p = code_index m (i ∷ next) in
        All-contains (λ n. n < f.bound) (numbers_of_registers i.args) n (subst (λ rest. IsSmall (numbers_read rest)) (place_is m e) (reads_small p)) (in_numbers a)
    live_small (on w l v) e = live_small v (ending_leads l e)
    live_small (aside r v) e = live_small v (ending_raises r)
