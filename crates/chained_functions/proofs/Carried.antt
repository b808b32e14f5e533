-- What is carried from a Mach function to its tidy lines: how many traps are pushed, its operations, and that no walk
-- comes to the end of the code.
use Rattle.std.proofs.Common.{◌≡◌, ℕ, zero, suc, ◌≤◌, Bool, true, false, cond, List, [], ◌∷◌, ◌++◌, length, map, nat_le, Option, refl, sym, ap, ◌∙◌, subst, arith}
use Rattle.std.proofs.lemmas.Bool.{true≢false, eq-eqb}
use Rattle.mach_ir.specs.Acts.{On, At, drop_tries}
use Rattle.mach_ir.specs.Formed.{WellFormed}
use Rattle.mach_ir.specs.Meaning.{tries_at}
use Rattle.mach_ir.specs.Placed.{FullyPlaced}
use Rattle.mach_ir.specs.Walks.{OneOf, this}
use Rattle.mach_ir.specs.Walks as mach_walks
use Rattle.mach_ir.specs.declared.op.Leaving.TheVariants as leaving
use Rattle.mach_ir.specs.declared.op.Op.{Op}
use Rattle.mach_ir.specs.declared.op.Op.TheVariants as op
use Rattle.mach_ir.specs.declared.reg.Reg.{Reg}
use Rattle.mach_ir.specs.declared.mach.Mark.TheVariants as mark
use Rattle.mach_ir.specs.declared.mach.MachOp.{MachOp}
use Rattle.mach_ir.specs.declared.mach.MachOp.TheVariants as mach
use Rattle.mach_ir.specs.declared.mach.Instr.{Instr}
use Rattle.mach_ir.specs.declared.mach.Mach.{Mach}
use Rattle.lin_ir.specs.Formed as formed_lin
use Rattle.lin_ir.specs.Formed.{labels_in, label_of, goes_to, bare_flow}
use Rattle.lin_ir.specs.Keeps.{IsNamedIn}
use Rattle.lin_ir.specs.Meaning.{has_label, after_label}
use Rattle.lin_ir.specs.Walks.{Reached, at_entry, by_step, by_raise, targets}
use Rattle.lin_ir.specs.Walks as walks
use Rattle.lin_ir.specs.declared.lin.Flow.{Flow}
use Rattle.lin_ir.specs.declared.lin.Flow.TheVariants as flow
use Rattle.lin_ir.specs.declared.lin.LinOp.{LinOp}
use Rattle.lin_ir.specs.declared.lin.LinOp.TheVariants as lin
use Rattle.lin_ir.specs.declared.lin.Line.{Line}
use Rattle.lin_ir.specs.declared.lin.Lin.{Lin}
use Rattle.lin_ir.specs.declared.lin.Spot.{Spot}
use Rattle.pass_rules.specs.Carried.{TriesAtMost, EndsInReturn}
use Rattle.pass_rules.specs.Carried as carried
use Rattle.linearise_rules.specs.Lowered.{is_idle, pops, lines_of, lowered_code, slot_number, slot_count, lowered}
use Rattle.linearise_rules.proofs.Homes.{IsIn, is_first, is_later, in_of, contains_of}
use Rattle.linearise_rules.proofs.Meeting.{comes}
use Rattle.linearise_rules.proofs.Places.{place_tries}
use Rattle.linearise_rules.proofs.Standing.{is_at}
use Rattle.linearise_rules.proofs.Walked.{Tail, tail_all, tail_next, tail_in, tail_stands, reached_tail}
use Rattle.lin_tidy_rules.specs.Leaving.{LabelsBetween, none_between, label_between, IsUseless, unreached, unread, skipped, without_lines, with_code, is_landing}
use Rattle.lin_tidy_rules.specs.Redirecting.{redirect, Tidies, as_it_is, then_leaves, then_redirects, then_turns}
use Rattle.lin_tidy_rules.specs.Regular.{IsRegular}
use Rattle.lin_tidy_rules.proofs.Leaving.{Comes, there, before, comes_tail, comes_line, self_goes, useless_landing, in_code}
use Rattle.lin_tidy_rules.proofs.Leaving as left
use Rattle.lin_tidy_rules.proofs.Redirecting.{line_was, op_was}
use Rattle.lin_tidy_rules.proofs.Redirecting as turned
use Rattle.lin_tidy_rules.proofs.Handlers.{handler_stands}
use Rattle.lin_tidy_rules.proofs.Tidied.{tidied_regular}
use Rattle.lin_tidy_rules.proofs.Turning as round
use Rattle.lin_tidy_rules.proofs.TurningLines.{From, was_line, new_line, new_flow, from_line}
use Rattle.lin_tidy_rules.proofs.Turning.{none_left}
use Rattle.mach_laws.proofs.Instructions.{instr}

-- ---- tries

-- so many tries at most are round each place of a code
abbrev AllTries : ℕ → List Instr → Type 0
AllTries k [] = Unit {0}
AllTries k (i ∷ is) = (length (tries_at (i ∷ is)) ≤ k) × AllTries k is

all_tries : (k : ℕ) (code : List Instr) → ((i : Instr) (next : List Instr) → mach_walks.StandsAsInstr i next code → length (tries_at (i ∷ next)) ≤ k) → AllTries k code
all_tries k [] h = tt
all_tries k (i ∷ is) h = (h i is mach_walks.here, all_tries k is (λ j next s. h j next (mach_walks.below s)))

-- so many traps are pushed wherever a walk comes
abbrev pub IsShallow : ℕ → Lin → Type 0
IsShallow k m = (code : List Line) (tries : List ℕ) → Reached m code tries → length tries ≤ k

few_either : (k : ℕ) (b : Bool) (xs ys : List ℕ) → length xs ≤ k → length ys ≤ k → length (cond b xs ys) ≤ k
few_either k true xs ys one two = one
few_either k false xs ys one two = two

few_dropped : (k n : ℕ) (ts : List ℕ) → length ts ≤ k → length (drop_tries n ts) ≤ k
few_dropped k zero ts le = le
few_dropped k (suc n) [] le = le
few_dropped k (suc n) (t ∷ ts) le = few_dropped k n ts (omega (arith, le))

few_at : (number : ℕ → ℕ) (k : ℕ) (code : List Instr) → AllTries k code → (n : ℕ) → length (place_tries number code n) ≤ k
few_at number k [] h n = omega arith
few_at number k (i ∷ is) h n = by i.op i.args i.results h.0 (few_at number k is h.1 n)
  where
    side : Bool
    side = nat_le n (length (lowered_code number is))

    by : (f : MachOp) (args results : List Reg) → length (tries_at (instr f args results ∷ is)) ≤ k → length (place_tries number is n) ≤ k → length (place_tries number (instr f args results ∷ is) n) ≤ k
    by (mach.Op f) args results own ih = few_either k side _ _ ih own
    by (mach.Mark (mark.Exit l j)) args results own ih = few_either k side _ _ ih (few_dropped k _ (tries_at is) own)
    by (mach.Mark (mark.If t l)) args results own ih = few_either k side _ _ ih own
    by (mach.Mark (mark.Else l end)) args results own ih = few_either k side _ _ ih own
    by (mach.Mark (mark.Switch ls)) args results own ih = few_either k side _ _ ih own
    by (mach.Mark (mark.Case ns l end)) args results own ih = few_either k side _ _ ih own
    by (mach.Mark mark.Catch) args results own ih = few_either k side _ _ ih own
    by (mach.Mark (mark.With l end)) args results own ih = few_either k side _ _ ih own
    by (mach.Mark (mark.Try l)) args results own ih = few_either k side _ _ ih own
    by (mach.Mark (mark.Leave l end)) args results own ih = few_either k side _ _ ih (few_dropped k _ (l ∷ tries_at is) own)
    by (mach.Mark (mark.Handler l)) args results own ih = few_either k side _ _ ih own
    by (mach.Mark (mark.End l)) args results own ih = few_either k side _ _ ih own

-- A trap is pushed for each try.
pub lowered_shallow : (p : Mach) → WellFormed p → FullyPlaced p → (k : ℕ) → TriesAtMost p k → IsShallow k (lowered p)
lowered_shallow p formed full k h code tries r =
    let at = is_at (slot_number p) (slot_count p) p formed (comes (slot_number p) (slot_count p) p formed full r).stands in
    subst (λ ts. length ts ≤ k) (sym at) (few_at (slot_number p) k p.code (all_tries k p.code h) (length code))

comes_shallow : {k : ℕ} {m : Lin} {code : List Line} {tries : List ℕ} → IsShallow k m → Comes m code tries → length tries ≤ k
comes_shallow h (there {code = code} {tries = tries} r) = h code tries r
comes_shallow h (before w c) = comes_shallow h c

-- Walks of the tidy function come with the traps of walks of the first.
pub tidied_shallow : {m r : Lin} (k : ℕ) → IsRegular m → Tidies m r → IsShallow k m → IsShallow k r
tidied_shallow k regular as_it_is h = h
tidied_shallow k regular (then_leaves {q = q} {r = r} t l) h =
    let more = tidied_shallow k regular t h in
    subst (IsShallow k) (sym l.is) (λ code tries x. comes_shallow more (left.source q l.goes l.each x).reached)
tidied_shallow k regular (then_redirects {q = q} {r = r} t l) h =
    let more = tidied_shallow k regular t h in
    subst (IsShallow k) (sym l.is) (λ code tries x. let y = turned.source q l.to l.exits l.each l.out x in more y.code tries y.reached)
tidied_shallow k regular (then_turns {q = q} {r = r} t l) h =
    let more = tidied_shallow k regular t h in
    let well = (tidied_regular t regular).well in
    subst (IsShallow k) (sym l.is) (λ code tries x. let y = round.source q r l well x in more y.code tries y.reached)

-- ---- operations

-- An operation of the tidy function is one of the first.
pub tidied_named : {m r : Lin} (Named : MachOp → Type 0) → IsRegular m → Tidies m r → IsNamedIn Named r → IsNamedIn Named m
tidied_named Named regular as_it_is n = n
tidied_named Named regular (then_leaves {q = q} t l) n =
    tidied_named Named regular t
    (let x = subst (IsNamedIn Named) l.is n in
    record { line = x.line; among = contains_of (in_code q l.goes l.each x.line q.code (in_of x.line (without_lines l.goes q.code) x.among)); op = x.op; is = x.is; named = x.named })
tidied_named Named regular (then_redirects {q = q} t l) n =
    tidied_named Named regular t
    (let x = subst (IsNamedIn Named) l.is n in
    let y = line_was q l.to l.exits l.each l.out x.line q.code (in_of x.line (map (redirect l.to l.exits) q.code) x.among) in
    record { line = y.0; among = contains_of y.1; op = x.op; is = op_was q l.to l.exits l.each l.out y.0.op x.op (ap (λ (j : Line). j.op) y.2 ∙ x.is); named = x.named })
tidied_named Named regular (then_turns {q = q} {r = r} t l) n =
    let x = subst (IsNamedIn Named) l.is n in
    tidied_named Named regular t (by x.line x.op x.is x.named (from_line q r l well q.code tail_all (in_of x.line (round.T q r l well q.code) x.among)))
  where
    well : formed_lin.WellFormed q
    well = (tidied_regular t regular).well

    no_op : (f : Flow) (g : Op) → lin.Flow f ≡ lin.Op g → ⊥
    no_op f g e = cc

    by : (j : Line) (g : Op) → j.op ≡ lin.Op g → Named (mach.Op g) → From q r l well j → IsNamedIn Named q
    by j g e named (was_line z) = record { line = j; among = contains_of z; op = g; is = e; named = named }
    by j g e named (new_line z) = let y = new_flow q r l well z in absurd (no_op y.0 g (sym y.1 ∙ e))

-- ---- the end of the code

-- the last line is a return
data Closed : List Line → Type 0 where
  closes : {args results : List Spot} → Closed (record { op = lin.Op (op.Leaving leaving.Return); args = args; results = results } ∷ [])
  closes_later : {i : Line} {is : List Line} → Closed is → Closed (i ∷ is)

module _ (number : ℕ → ℕ) where
  pops_close : (n : ℕ) {xs : List Line} → Closed xs → Closed (pops number n xs)
  pops_close zero c = c
  pops_close (suc n) c = closes_later (pops_close n c)

  lines_close : (f : MachOp) (i : Instr) {xs : List Line} → Closed xs → Closed (lines_of number f i xs)
  lines_close (mach.Op f) i c = closes_later c
  lines_close (mach.Mark (mark.Exit l n)) i c = pops_close n (closes_later c)
  lines_close (mach.Mark (mark.If t l)) i c = closes_later c
  lines_close (mach.Mark (mark.Else l end)) i c = closes_later (closes_later c)
  lines_close (mach.Mark (mark.Switch ls)) i c = closes_later c
  lines_close (mach.Mark (mark.Case ns l end)) i c = closes_later (closes_later c)
  lines_close (mach.Mark mark.Catch) i c = c
  lines_close (mach.Mark (mark.With l end)) i c = closes_later (closes_later c)
  lines_close (mach.Mark (mark.Try l)) i c = closes_later c
  lines_close (mach.Mark (mark.Leave l end)) i c = closes_later (closes_later c)
  lines_close (mach.Mark (mark.Handler l)) i c = closes_later (closes_later c)
  lines_close (mach.Mark (mark.End l)) i c = closes_later c

  either_close : (b : Bool) {xs ys : List Line} → Closed xs → Closed ys → Closed (cond b xs ys)
  either_close true x y = x
  either_close false x y = y

  lowered_closed : {code : List Instr} → EndsInReturn code → Closed (lowered_code number code)
  lowered_closed carried.at_return = closes
  lowered_closed (carried.further {i = i} {is = is} e) = let c = lowered_closed e in either_close (is_idle i.op i.args i.results) c (lines_close i.op i c)

-- a label after a line is after it, or is the line
behind : (l : ℕ) (f : LinOp) {ls : List ℕ} → IsIn l (label_of f ++ ls) → has_label l f ≡ false → IsIn l ls
behind l (lin.Op f) z e = z
behind l (lin.Flow (flow.Label k)) is_first e = absurd (true≢false (sym (eq-eqb k k refl) ∙ e))
behind l (lin.Flow (flow.Label k)) (is_later z) e = z
behind l (lin.Flow (flow.Jump k)) z e = z
behind l (lin.Flow (flow.Exit k)) z e = z
behind l (lin.Flow (flow.Branch t k)) z e = z
behind l (lin.Flow (flow.Switch ks)) z e = z
behind l (lin.Flow (flow.PushTrap k)) z e = z
behind l (lin.Flow flow.PopTrap) z e = z
behind l (lin.Flow flow.EnterTrap) z e = z

label_closed : (l : ℕ) {code : List Line} → Closed code → IsIn l (labels_in code) → Closed (after_label l code)
label_closed l closes z = elim z [ ]
label_closed l (closes_later {i = i} {is = is} c) z = by (has_label l i.op) refl (λ y. label_closed l c y)
  where
    by : (b : Bool) → has_label l i.op ≡ b → (IsIn l (labels_in is) → Closed (after_label l is)) → Closed (cond b is (after_label l is))
    by true e ih = c
    by false e ih = ih (behind l i.op z e)

goes_on_closed : {i : Line} {next : List Line} → Closed (i ∷ next) → OneOf On (targets i.op) → Closed next
goes_on_closed closes o = elim o [ ]
goes_on_closed (closes_later c) o = c

reached_closed : (m : Lin) → IsRegular m → Closed m.code → {code : List Line} {tries : List ℕ} → Reached m code tries → Closed code
reached_closed m regular closed at_entry = closed
reached_closed m regular closed (by_step r (walks.goes On o)) = goes_on_closed (reached_closed m regular closed r) o
reached_closed m regular closed (by_step {i = i} r (walks.goes (At l) o)) =
    label_closed l closed (in_of l (labels_in m.code) (regular.well.named i (contains_of (tail_in (reached_tail m r))) l (goes_to o)))
reached_closed m regular closed (by_raise {i = i} {next = next} r (walks.raises {h = h} {tries = tries} e)) =
    label_closed h closed (handler_stands m regular.well r)

-- no walk comes to the end of the code
abbrev pub IsUnended : Lin → Type 0
IsUnended m = (tries : List ℕ) → Reached m [] tries → ⊥

none_closed : Closed [] → ⊥
none_closed c = elim c [ ]

pub lowered_unended : (p : Mach) → IsRegular (lowered p) → EndsInReturn p.code → IsUnended (lowered p)
lowered_unended p regular e tries r = none_closed (reached_closed (lowered p) regular (lowered_closed (slot_number p) e) r)

module _ (m : Lin) (goes : ℕ → Bool) (each : (i : Line) (next : List Line) → walks.StandsAsLine i next m.code → goes (length next) ≡ true → IsUseless m i next) (unended : IsUnended m) where
  abbrev K : List Line → List Line
  K = without_lines goes

  -- labels stay, so where all lines after go there is none
  no_labels : {a b : List Line} → LabelsBetween a b → Tail a m.code → K a ≡ [] → a ≡ b
  no_labels none_between w e = refl
  no_labels (label_between {l = l} {next = next} p) w e = by (goes (length next)) refl e
    where
      by : {A : Type 0} (b : Bool) → goes (length next) ≡ b → cond b (K next) (bare_flow (flow.Label l) ∷ K next) ≡ [] → A
      by true s e = absurd (true≢false (useless_landing (each (bare_flow (flow.Label l)) next (tail_stands w) s)))
      by false s e = absurd (none_left _ (K next) e)

  ended : (is : List Line) (tries : List ℕ) → Comes m is tries → K is ≡ [] → ⊥
  ended [] tries (there r) e = unended tries r
  ended (i ∷ next) tries c e = by (goes (length next)) refl e (λ c' u. ended next tries c' u)
    where
      gone : IsUseless m i next → K next ≡ [] → (Comes m next tries → K next ≡ [] → ⊥) → ⊥
      gone (unreached n out) e ih = out tries (comes_line c n)
      gone (unread {to = to} z dead) e ih =
          let g = self_goes z in
          let r : Reached m (i ∷ next) tries = comes_line c (useless_landing {m = m} {next = next} (unread z dead)) in
          ih (there (subst (Reached m next) (g.tries tries) (by_step r (walks.goes On g.on)))) e
      gone (skipped {l = k} same between) e ih =
          let r : Reached m (bare_flow (flow.Jump k) ∷ next) tries = subst (λ x. Reached m (x ∷ next) tries) same (comes_line c (ap (λ (i : Line). is_landing i.op) same)) in
          ih (there (subst (λ code. Reached m code tries) (sym (no_labels between (tail_next (comes_tail c)) e)) (by_step r (walks.goes (At k) this)))) e

      by : (b : Bool) → goes (length next) ≡ b → cond b (K next) (i ∷ K next) ≡ [] → (Comes m next tries → K next ≡ [] → ⊥) → ⊥
      by true s e ih = gone (each i next (tail_stands (comes_tail c)) s) e ih
      by false s e ih = none_left i (K next) e

  leaving_unended : IsUnended (with_code m (K m.code))
  leaving_unended tries r = let y = left.source m goes each r in ended y.code tries y.reached y.same

no_turned : (to : ℕ → ℕ) (exits : ℕ → Option ℕ) (is : List Line) → map (redirect to exits) is ≡ [] → is ≡ []
no_turned to exits [] e = refl
no_turned to exits (i ∷ is) e = absurd (none_left _ _ e)

-- The tidy function is left as the first is.
pub tidied_unended : {m r : Lin} → IsRegular m → Tidies m r → IsUnended m → IsUnended r
tidied_unended regular as_it_is h = h
tidied_unended regular (then_leaves {q = q} t l) h = subst IsUnended (sym l.is) (leaving_unended q l.goes l.each (tidied_unended regular t h))
tidied_unended regular (then_redirects {q = q} t l) h =
    let more = tidied_unended regular t h in
    subst IsUnended (sym l.is)
    (λ tries r. let y = turned.source q l.to l.exits l.each l.out r in more tries (subst (λ code. Reached q code tries) (no_turned l.to l.exits y.code y.same) y.reached))
tidied_unended regular (then_turns {q = q} {r = r} t l) h =
    let more = tidied_unended regular t h in
    let well = (tidied_regular t regular).well in
    subst IsUnended (sym l.is)
    (λ tries x.
    let y = round.source q r l well x in
    more tries (subst (λ code. Reached q code tries) (round.stands_none q r l well y.stand refl) y.reached))
