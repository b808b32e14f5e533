-- What is read soon is read soon among reloads and spills.
use Rattle.std.proofs.Common.{◌≡◌, ℕ, suc, ◌<◌, ◌≤◌, Bool, true, false, cond, ◌⊎◌, inl, inr, ⊎_elim, List, [], ◌∷◌, ◌++◌, refl, sym, subst, arith, append_assoc}
use Rattle.std.proofs.lemmas.Bool.{true≢false}
use Rattle.mach_ir.specs.Acts.{On}
use Rattle.mach_ir.specs.Meaning.{killed}
use Rattle.mach_ir.specs.Placed.{is_straight}
use Rattle.mach_ir.specs.Walks.{AmongRegisters, first, later, OneOf, this, targets, goes, Live, read, on, StandsAsInstr, here, below}
use Rattle.mach_ir.specs.declared.op.Access.TheVariants as access
use Rattle.mach_ir.specs.declared.op.CopyKind.TheVariants as copy
use Rattle.mach_ir.specs.declared.op.Op.TheVariants as op
use Rattle.mach_ir.specs.declared.reg.Reg.{Reg}
use Rattle.mach_ir.specs.declared.mach.MachOp.{MachOp}
use Rattle.mach_ir.specs.declared.mach.MachOp.TheVariants as mach
use Rattle.mach_ir.specs.declared.mach.Instr.{Instr}
use Rattle.mach_ir.specs.declared.mach.Mach.{Mach}
use Rattle.mach_laws.proofs.Among.{none_among, split_among}
use Rattle.colouring_rules.specs.Places.{LocationAssignment, all_placed, placed_code}
use Rattle.reload_rules.specs.Reloaded.{reads_registers, writes_registers, is_renewed, fresh_stand_in, next_reload_number, renewed, reloads, spills, results_from, past_instr, renewed_instr, reloaded_instr, reloaded_code}
use Rattle.reload_rules.proofs.Numbers.{after_rises, past_rises}
use Rattle.spill_rules.specs.Spilled.{copy_instruction}
use Rattle.wide_rules.specs.Wide.{IsReadSoon, read_now, read_later}

-- ---- straight code

pub straight_on : (f : MachOp) → is_straight f ≡ true → OneOf On (targets f)
straight_on (mach.Op (op.Pure f)) e = this
straight_on (mach.Op (op.Access (access.Load k offset))) e = this
straight_on (mach.Op (op.Access (access.Store k offset))) e = this
straight_on (mach.Op (op.Access (access.Alloc blocks))) e = this
straight_on (mach.Op (op.Calling f)) e = absurd (true≢false (sym e))
straight_on (mach.Op (op.Leaving f)) e = absurd (true≢false (sym e))
straight_on (mach.Mark f) e = absurd (true≢false (sym e))

straight_kills : (m : Mach) (f : MachOp) (args results : List Reg) → is_straight f ≡ true →
    killed m (record { op = f; args = args; results = results }) ≡ []
straight_kills m (mach.Op (op.Pure f)) args results e = refl
straight_kills m (mach.Op (op.Access f)) args results e = refl
straight_kills m (mach.Op (op.Calling f)) args results e = absurd (true≢false (sym e))
straight_kills m (mach.Op (op.Leaving f)) args results e = absurd (true≢false (sym e))
straight_kills m (mach.Mark f) args results e = absurd (true≢false (sym e))

pub soon_live : (m : Mach) (n : ℕ) {next : List Instr} → IsReadSoon n next → Live m n next
soon_live m n (read_now a) = read a
soon_live m n (read_later {i = i} {next = next} s free h) =
    on
    (λ w. ⊎_elim free (λ k. none_among (subst (AmongRegisters n) (straight_kills m i.op i.args i.results s) k))
    (split_among n i.results (killed m i) w))
    (goes On (straight_on i.op s)) (soon_live m n h)

-- ---- at chosen places

among_placed : (place : LocationAssignment) {n : ℕ} (rs : List Reg) → AmongRegisters n rs → AmongRegisters n (all_placed place rs)
among_placed place (r ∷ rs) (first e) = first e
among_placed place (r ∷ rs) (later a) = later (among_placed place rs a)
among_placed place [] a = elim a [ ]

pub placed_among : (place : LocationAssignment) {n : ℕ} (rs : List Reg) → AmongRegisters n (all_placed place rs) → AmongRegisters n rs
placed_among place (r ∷ rs) (first e) = first e
placed_among place (r ∷ rs) (later a) = later (placed_among place rs a)
placed_among place [] a = elim a [ ]

pub soon_placed : (place : LocationAssignment) {n : ℕ} {next : List Instr} → IsReadSoon n next → IsReadSoon n (placed_code place next)
soon_placed place (read_now {i = i} a) = read_now (among_placed place i.args a)
soon_placed place (read_later {i = i} s free h) =
    read_later s (λ w. free (placed_among place i.results w)) (soon_placed place h)

-- ---- among fresh numbers

pub renewed_among : (b : Bool) (k : ℕ) {n : ℕ} (rs : List Reg) → AmongRegisters n (renewed b k rs) → AmongRegisters n rs ⊎ (k ≤ n)
renewed_among b k [] a = elim a [ ]
renewed_among b k {n} (r ∷ rs) a = by (is_renewed b r) a (renewed_among b (next_reload_number b k r) rs)
  where
    rises : k ≤ next_reload_number b k r
    rises = after_rises b k r

    on_tail : AmongRegisters n rs ⊎ (next_reload_number b k r ≤ n) → AmongRegisters n (r ∷ rs) ⊎ (k ≤ n)
    on_tail h = ⊎_elim (λ x. inl (later x)) (λ le. let up = rises in inr (omega (arith, le, up))) h

    by : (t : Bool) → AmongRegisters n (cond t (fresh_stand_in k r) r ∷ renewed b (next_reload_number b k r) rs) →
        (AmongRegisters n (renewed b (next_reload_number b k r) rs) → AmongRegisters n rs ⊎ (next_reload_number b k r ≤ n)) → AmongRegisters n (r ∷ rs) ⊎ (k ≤ n)
    by true (first e) ih = inr (omega (arith, e))
    by true (later x) ih = on_tail (ih x)
    by false (first e) ih = inl (first e)
    by false (later x) ih = on_tail (ih x)

-- a register that is read is reloaded before, or still read
module _ (b : Bool) {n : ℕ} (ys : List Instr) where
  past_reloads : (k : ℕ) (rs : List Reg) → n < k → IsReadSoon n ys → IsReadSoon n (reloads b k rs ++ ys)
  past_reloads k [] lt h = h
  past_reloads k (r ∷ rs) lt h = by (λ k lt. past_reloads k rs lt h) (is_renewed b r)
    where
      other : AmongRegisters n (fresh_stand_in k r ∷ []) → ⊥
      other (first e) = absurd (omega (arith, lt, e))
      other (later a) = none_among a

      by : ((k : ℕ) → n < k → IsReadSoon n (reloads b k rs ++ ys)) → (t : Bool) →
          IsReadSoon n (cond t (copy_instruction copy.Reload r (fresh_stand_in k r) ∷ reloads b (suc k) rs) (reloads b k rs) ++ ys)
      by ih true = read_later refl (λ w. other w) (ih (suc k) (omega (arith, lt)))
      by ih false = ih k lt

  reloads_read : (k : ℕ) (rs : List Reg) → n < k → AmongRegisters n rs → (AmongRegisters n (renewed b k rs) → IsReadSoon n ys) →
      IsReadSoon n (reloads b k rs ++ ys)
  reloads_read k (r ∷ rs) lt a h = by (λ k lt x g. reloads_read k rs lt x g) (is_renewed b r) refl a
    where
      other : AmongRegisters n (fresh_stand_in k r ∷ []) → ⊥
      other (first e) = absurd (omega (arith, lt, e))
      other (later a) = none_among a

      tail : (t : Bool) → is_renewed b r ≡ t → AmongRegisters n (renewed b (cond t (suc k) k) rs) → AmongRegisters n (renewed b k (r ∷ rs))
      tail t e x = later (subst (λ t. AmongRegisters n (renewed b (cond t (suc k) k) rs)) (sym e) x)

      by : ((k : ℕ) → n < k → AmongRegisters n rs → (AmongRegisters n (renewed b k rs) → IsReadSoon n ys) → IsReadSoon n (reloads b k rs ++ ys)) →
          (t : Bool) → is_renewed b r ≡ t → AmongRegisters n (r ∷ rs) →
          IsReadSoon n (cond t (copy_instruction copy.Reload r (fresh_stand_in k r) ∷ reloads b (suc k) rs) (reloads b k rs) ++ ys)
      by ih true e (first s) = read_now (first s)
      by ih true e (later x) = read_later refl other (ih (suc k) (omega (arith, lt)) x (λ y. h (tail true e y)))
      by ih false e (first s) =
          past_reloads k rs lt (h (subst (λ t. AmongRegisters n (cond t (fresh_stand_in k r) r ∷ renewed b (cond t (suc k) k) rs)) (sym e) (first s)))
      by ih false e (later x) = ih k lt x (λ y. h (tail false e y))
  reloads_read k [] lt a h = elim a [ ]

  past_spills : (k : ℕ) (rs : List Reg) → (AmongRegisters n rs → ⊥) → IsReadSoon n ys → IsReadSoon n (spills b k rs ++ ys)
  past_spills k [] free h = h
  past_spills k (r ∷ rs) free h = by (λ k. past_spills k rs (λ a. free (later a)) h) (is_renewed b r)
    where
      other : AmongRegisters n (r ∷ []) → ⊥
      other (first e) = free (first e)
      other (later a) = none_among a

      by : ((k : ℕ) → IsReadSoon n (spills b k rs ++ ys)) → (t : Bool) →
          IsReadSoon n (cond t (copy_instruction copy.Spill (fresh_stand_in k r) r ∷ spills b (suc k) rs) (spills b k rs) ++ ys)
      by ih true = read_later refl other (ih (suc k))
      by ih false = ih k

-- ---- over code that is reloaded

pub soon_reloaded : {n : ℕ} {next : List Instr} → IsReadSoon n next → (k : ℕ) → n < k → IsReadSoon n (reloaded_code k next)
soon_reloaded {n} (read_now {i = i} {next = next} a) k lt =
    subst (IsReadSoon n)
    (sym (append_assoc (reloads (reads_registers i.op) k i.args)
    (renewed_instr k i ∷ spills (writes_registers i.op) (results_from k i) i.results) (reloaded_code (past_instr k i) next)))
    (reloads_read (reads_registers i.op)
    (renewed_instr k i ∷ (spills (writes_registers i.op) (results_from k i) i.results ++ reloaded_code (past_instr k i) next))
    k i.args lt a (λ y. read_now y))
soon_reloaded {n} (read_later {i = i} {next = next} s free h) k lt =
    let one = past_rises (reads_registers i.op) k i.args in
    let two = past_rises (writes_registers i.op) (results_from k i) i.results in
    subst (IsReadSoon n)
    (sym (append_assoc (reloads (reads_registers i.op) k i.args)
    (renewed_instr k i ∷ spills (writes_registers i.op) (results_from k i) i.results) (reloaded_code (past_instr k i) next)))
    (past_reloads (reads_registers i.op)
    (renewed_instr k i ∷ (spills (writes_registers i.op) (results_from k i) i.results ++ reloaded_code (past_instr k i) next))
    k i.args lt
    (read_later s
    (λ w. ⊎_elim free (λ le. absurd (omega (arith, le, one, lt))) (renewed_among (writes_registers i.op) (results_from k i) i.results w))
    (past_spills (writes_registers i.op) (reloaded_code (past_instr k i) next) (results_from k i) i.results free
    (soon_reloaded h (past_instr k i) (omega (arith, one, two, lt))))))

-- ---- where an instruction stands then

pub stands_reloaded : {i : Instr} {next code : List Instr} → StandsAsInstr i next code → (n : ℕ) →
    (k : ℕ) × (n ≤ k)
    × StandsAsInstr (renewed_instr k i) (spills (writes_registers i.op) (results_from k i) i.results ++ reloaded_code (past_instr k i) next)
    (reloaded_code n code)
stands_reloaded {i} {next} here n = (
  n,
  omega arith,
  subst (StandsAsInstr (renewed_instr n i) (spills (writes_registers i.op) (results_from n i) i.results ++ reloaded_code (past_instr n i) next))
      (sym (append_assoc (reloads (reads_registers i.op) n i.args)
      (renewed_instr n i ∷ spills (writes_registers i.op) (results_from n i) i.results) (reloaded_code (past_instr n i) next)))
      (behind (reloads (reads_registers i.op) n i.args)),
)
  where
    behind : (xs : List Instr) → StandsAsInstr (renewed_instr n i)
        (spills (writes_registers i.op) (results_from n i) i.results ++ reloaded_code (past_instr n i) next)
        (xs ++ (renewed_instr n i ∷ (spills (writes_registers i.op) (results_from n i) i.results ++ reloaded_code (past_instr n i) next)))
    behind [] = here
    behind (x ∷ xs) = below (behind xs)
stands_reloaded {i} {next} (below {j = j} {is = is} s) n =
    let one = past_rises (reads_registers j.op) n j.args in
    let two = past_rises (writes_registers j.op) (results_from n j) j.results in
    let h = stands_reloaded s (past_instr n j) in
    let up = h.1 in
    (h.0, omega (arith, one, two, up), behind (reloaded_instr n j) h.2)
  where
    behind : {k : Instr} {rest ys : List Instr} (xs : List Instr) → StandsAsInstr k rest ys → StandsAsInstr k rest (xs ++ ys)
    behind [] t = t
    behind (x ∷ xs) t = below (behind xs t)
