-- Straight runs to a call: what goes on along them, and that each code has one place where its run to a call begins.
use Rattle.std.proofs.Common.{◌≡◌, ℕ, ◌<◌, true, false, ◌⊎◌, inl, inr, ⊎_elim, List, [], ◌∷◌, ◌++◌, length, refl, sym, ap, ◌∙◌, subst, arith}
use Rattle.std.specs.List.{All, Contains}
use Rattle.std.proofs.lemmas.Bool.{both_ways}
use Rattle.std.proofs.lemmas.List.Elements.{All-head, All-tail, All-contains}
use Rattle.mach_ir.specs.Acts.{On}
use Rattle.mach_ir.specs.Placed.{is_straight, AreStraight}
use Rattle.mach_ir.specs.Walks.{OneOf, this, targets, goes, Reached, by_step, Writes, WalkStep, Live, on, StandsAsInstr, here, below}
use Rattle.mach_ir.specs.declared.op.Op.{Op}
use Rattle.mach_ir.specs.declared.op.Op.TheVariants as op
use Rattle.mach_ir.specs.declared.mach.MachOp.{MachOp}
use Rattle.mach_ir.specs.declared.mach.MachOp.TheVariants as mach
use Rattle.mach_ir.specs.declared.mach.Instr.{Instr}
use Rattle.mach_ir.specs.declared.mach.Mach.{Mach}
use Rattle.mach_laws.specs.Expand.{Ending, all, more}
use Rattle.mach_laws.proofs.Places.{ending_short}
use Rattle.bs_words.proofs.Lists.{first_in, later_in, head_same}
use Rattle.sink_rules.specs.Chosen.{IsRunTo}
use Rattle.sink_rules.specs.Walks as walks
use Rattle.sink_rules.specs.Walks.{Stale}

-- ---- straight instructions

abbrev IsStraight : Instr → Type 0
IsStraight i = is_straight i.op ≡ true

straight_targets : (g : MachOp) → is_straight g ≡ true → targets g ≡ On ∷ []
straight_targets (mach.Op (op.Pure f)) e = refl
straight_targets (mach.Op (op.Access f)) e = refl
straight_targets (mach.Op (op.Calling f)) e = absurd (both_ways false refl e)
straight_targets (mach.Op (op.Leaving f)) e = absurd (both_ways false refl e)
straight_targets (mach.Mark f) e = absurd (both_ways false refl e)

straight_op : (g : MachOp) → is_straight g ≡ true → (f : Op) × (g ≡ mach.Op f)
straight_op (mach.Op f) e = (f, refl)
straight_op (mach.Mark f) e = absurd (both_ways false refl e)

straight_leads : (m : Mach) (i : Instr) (next : List Instr) → is_straight i.op ≡ true → WalkStep m i next next
straight_leads m i next e = goes On (subst (OneOf On) (sym (straight_targets i.op e)) this)

-- ---- along a run

module _ (m : Mach) (n : ℕ) where
  abbrev Unwritten : Instr → Type 0
  Unwritten i = Writes m i n → ⊥

  -- what goes on with each step that does not write the register holds after the run
  along : (P : List Instr → Type 0) →
      ((i : Instr) (next : List Instr) → Unwritten i → WalkStep m i next next → P (i ∷ next) → P next) →
      (run rest : List Instr) → AreStraight run → All Unwritten run → P (run ++ rest) → P rest
  along P goes_on [] rest st w p = p
  along P goes_on (i ∷ run) rest st w p =
      along P goes_on run rest (All-tail IsStraight i run st) (All-tail Unwritten i run w)
      (goes_on i (run ++ rest) (All-head Unwritten i run w) (straight_leads m i (run ++ rest) (All-head IsStraight i run st)) p)

  module _ {from : List Instr} {call : Instr} {after : List Instr} (r : IsRunTo m n from call after) where
    to_call : (P : List Instr → Type 0) →
        ((i : Instr) (next : List Instr) → Unwritten i → WalkStep m i next next → P (i ∷ next) → P next) →
        P from → P (call ∷ after)
    to_call P goes_on p = along P goes_on r.run (call ∷ after) r.straight r.unwritten (subst P r.is p)

    pub stale_at_call : Stale m n from → Stale m n (call ∷ after)
    stale_at_call = to_call (Stale m n) (λ i next w l s. walks.on s w l)

    pub reached_at_call : Reached m from → Reached m (call ∷ after)
    reached_at_call = to_call (Reached m) (λ i next w l s. by_step s l)

    pub live_from_call : Live m n (call ∷ after) → Live m n from
    live_from_call =
        to_call (λ rest. Live m n rest → Live m n from) (λ i next w l h live. h (on w l live)) (λ live. live)

  pub run_operation : {i : Instr} {next : List Instr} {call : Instr} {after : List Instr} →
      IsRunTo m n (i ∷ next) call after → (f : Op) × (i.op ≡ mach.Op f)
  run_operation {i} {next} {call} {after} r = by r.run r.is r.straight
    where
      by : (run : List Instr) → i ∷ next ≡ run ++ call ∷ after → AreStraight run → (f : Op) × (i.op ≡ mach.Op f)
      by [] e st = (r.operation, ap (λ (i : Instr). i.op) (head_same e) ∙ r.is_call)
      by (j ∷ run) e st =
          let g = straight_op j.op (All-head IsStraight j run st) in (g.0, ap (λ (i : Instr). i.op) (head_same e) ∙ g.1)

-- ---- where a run begins

-- of two endings of a code one is an ending of the other
one_ends : {a b code : List Instr} → Ending a code → Ending b code → Ending a b ⊎ Ending b a
one_ends all e = inr e
one_ends (more d) all = inl (more d)
one_ends (more d) (more e) = one_ends d e

stands_further : {i : Instr} {next rest code : List Instr} → Ending rest code → StandsAsInstr i next rest → StandsAsInstr i next code
stands_further all s = s
stands_further (more e) s = below (stands_further e s)

-- an ending of a run and of what comes after, and shorter than that, begins the run or is after an instruction of it
within : (run : List Instr) (call : Instr) (after rest : List Instr) → Ending rest (run ++ call ∷ after) → length after < length rest →
    (rest ≡ run ++ call ∷ after) ⊎ ((i : Instr) × StandsAsInstr i rest (run ++ call ∷ after) × Contains run i)
within [] call after rest all lt = inl refl
within [] call after rest (more e) lt = let le = ending_short e in absurd (omega (arith, lt, le))
within (j ∷ run) call after rest all lt = inl refl
within (j ∷ run) call after rest (more e) lt =
    ⊎_elim (λ h. inr (j, subst (λ xs. StandsAsInstr j rest (j ∷ xs)) h here, first_in j run))
    (λ h. inr (h.0, below h.1, later_in j h.0 run h.2)) (within run call after rest e lt)

module _ (m : Mach) (n : ℕ) where
  past : {from : List Instr} {call : Instr} {after : List Instr} → IsRunTo m n from call after → length after < length from
  past {from} {call} {after} r = subst (λ xs. length after < length xs) (sym r.is) (by r.run)
    where
      by : (run : List Instr) → length after < length (run ++ call ∷ after)
      by [] = omega arith
      by (i ∷ run) = let lt = by run in omega (arith, lt)

  begins_last : {a b : List Instr} {x y : Instr} {after : List Instr} → Ending b m.code → Ending a b →
      IsRunTo m n a x after → IsRunTo m n b y after → a ≡ b
  begins_last {a} {b} {x} {y} {after} there e r s =
      ⊎_elim (λ h. h ∙ sym s.is)
      (λ h.
      absurd
      (both_ways (is_straight (h.0).op) (r.begins h.0 (stands_further there (subst (StandsAsInstr h.0 a) (sym s.is) h.1))) (All-contains IsStraight s.run h.0 s.straight h.2)))
      (within s.run y after a (subst (Ending a) s.is e) (past r))

  -- runs to what one code comes after begin at one place
  pub begins_once : {a b : List Instr} {x y : Instr} {after : List Instr} → Ending a m.code → Ending b m.code →
      IsRunTo m n a x after → IsRunTo m n b y after → a ≡ b
  begins_once d e r s = ⊎_elim (λ h. begins_last e h r s) (λ h. sym (begins_last d h s r)) (one_ends d e)
