-- What is chosen is a plan, and there is one way to choose.
use Rattle.std.proofs.Common.{◌≡◌, ℕ, suc, ◌<◌, true, cond, ⊎_elim, List, [], ◌∷◌, ◌++◌, length, refl, sym, ap, ◌∙◌, subst, arith}
use Rattle.std.specs.List.{AllPairs, Contains}
use Rattle.mach_ir.specs.Acts.{Target, has_descriptor}
use Rattle.mach_ir.specs.Formed.{WellFormed, AreDistinct}
use Rattle.mach_ir.specs.Meaning.{Nothing, Temporaries, Everything, destroyed_by_operation, destroyed_by, passes_frame}
use Rattle.mach_ir.specs.Walks.{OneOf, targets, goes, raises, Reached, at_entry, by_step, by_raise, Live, on, LiveAcross, across_step, StandsAsInstr, here, below, NoAddrLive}
use Rattle.mach_ir.specs.declared.op.Calling.TheVariants as calling
use Rattle.mach_ir.specs.declared.op.Op.{Op}
use Rattle.mach_ir.specs.declared.op.Op.TheVariants as op
use Rattle.mach_ir.specs.declared.reg.Reg.{Reg}
use Rattle.mach_ir.specs.declared.mach.MachOp.TheVariants as mach
use Rattle.mach_ir.specs.declared.mach.Instr.{Instr}
use Rattle.mach_ir.specs.declared.mach.Mach.{Mach}
use Rattle.mach_laws.specs.Expand.{expand, Ending, all}
use Rattle.mach_laws.proofs.Places.{ending_from_handler, stands_of, ending_of}
use Rattle.mach_laws.proofs.Walking.{ending_at}
use Rattle.spill_rules.specs.Chosen.{LivesOver, lives}
use Rattle.spill_rules.proofs.Chosen.{same_answer}
use Rattle.bs_words.proofs.Lists.{none_in, first_in, later_in, in_cons, tail_same}
use Rattle.sink_rules.specs.Chosen.{IsRunTo, IsSunkAt, IsSunkSomewhere, IsSinkChoice, IsSunk}
use Rattle.sink_rules.specs.Sunk.{SinkPlan, to_itself, planned_moves, sunk_instr, IsSinkPlan, IsSinkKept}
use Rattle.sink_rules.proofs.Runs.{stale_at_call, reached_at_call, live_from_call, run_operation, begins_once}
use Rattle.sink_rules.proofs.Whole.{sunk_kept}

-- ---- calls

not_nothing : Nothing ≡ Everything → ⊥
not_nothing e = cc

not_temporaries : Temporaries ≡ Everything → ⊥
not_temporaries e = cc

-- what destroys everything and goes on is a frame point
frame_of : (f : Op) → destroyed_by_operation f ≡ Everything → (t : Target) → OneOf t (targets (mach.Op f)) → has_descriptor f ≡ true
frame_of (op.Calling (calling.Call whom result)) e t o = refl
frame_of (op.Calling (calling.TailCall whom result)) e t o = elim o [ ]
frame_of (op.Calling (calling.External row frame)) e t o = absurd (not_temporaries e)
frame_of (op.Pure f) e t o = absurd (not_nothing e)
frame_of (op.Access f) e t o = absurd (not_nothing e)
frame_of (op.Leaving f) e t o = absurd (not_nothing e)

abbrev Rising : List Reg → Type 0
Rising rs = AllPairs (λ (r q : Reg). r.number < q.number) rs

rising_distinct : (rs : List Reg) → Rising rs → AreDistinct rs
rising_distinct rs h = λ i j d lt within e. let le = h i j d lt within in absurd (omega (arith, le, e))

module _ (m : Mach) where
  reached_ending : {rest : List Instr} → Reached m rest → Ending rest m.code
  reached_ending at_entry = all
  reached_ending (by_step r (goes t o)) = ending_at t (reached_ending r)
  reached_ending (by_raise r (raises {l = l} b t)) = ending_from_handler l m.code

  live_over : {n : ℕ} {i : Instr} {next to : List Instr} → LivesOver m n i next to → Live m n (i ∷ next)
  live_over (lives s d w l v) = on w l v

  across_over : {n : ℕ} {i : Instr} {next to : List Instr} → LivesOver m n i next to → LiveAcross m n i next
  across_over (lives s d w l v) = across_step w l v

  frame_over : {n : ℕ} {i : Instr} {next to : List Instr} (f : Op) → i.op ≡ mach.Op f → LivesOver m n i next to → passes_frame i.op ≡ true
  frame_over f e (lives s d w (goes t o) v) =
      ap passes_frame e
      ∙ frame_of f (sym (ap destroyed_by e) ∙ d) t (subst (λ g. OneOf t (targets g)) e o)

module _ (m : Mach) (plan : SinkPlan) (calm : NoAddrLive m) (chosen : IsSinkChoice m plan) where
  sunk_at : (i : Instr) (next : List Instr) (r : Reg) → StandsAsInstr i next m.code → Contains plan.registers r →
      plan.moves (length next) r.number ≡ true → IsSunkAt m i next r
  sunk_at i next r s c t = (chosen.moves i next r s c).0 t

  somewhere : (r : Reg) → Contains plan.registers r → IsSunkSomewhere m r
  somewhere r c = (chosen.registers r).0 c

  pub chosen_plan : IsSinkPlan m plan
  chosen_plan =
      record {
        registers = λ r c. ((somewhere r c).sunk_at).register;
        open_places = λ r c. ((somewhere r c).sunk_at).open_place;
        distinct = rising_distinct plan.registers chosen.rising;
        live = λ i next r s c t. let w = sunk_at i next r s c t in live_from_call m r.number w.run (live_over m w.over);
        written = λ i next r s c t stale. let w = sunk_at i next r s c t in w.surely (stale_at_call m r.number w.run stale);
        operations = λ i next r s c t. run_operation m r.number (sunk_at i next r s c t).run;
        no_addr = λ i next r reached c t addr.
            let w = sunk_at i next r (stands_of (reached_ending m reached)) c t in
            calm.none w.call w.after (reached_at_call m r.number w.run reached)
            (frame_over m (w.run).operation (w.run).is_call w.over) r w.register addr (across_over m w.over);
        once = λ i j next others r s t c a b.
            let w = sunk_at i next r s c a in
            let v = sunk_at j others r t c b in
            let one = subst (IsRunTo m r.number (j ∷ others) v.call) (w.only v.call v.after v.to v.over v.unsaved) v.run in
            tail_same (begins_once m r.number (ending_of t) (ending_of s) one w.run);
      }

pub a_plan : (m : Mach) (plan : SinkPlan) → WellFormed m → NoAddrLive m → IsSinkChoice m plan → IsSinkPlan m plan
a_plan m plan formed calm chosen = chosen_plan m plan calm chosen

pub kept : (m q : Mach) → WellFormed m → NoAddrLive m → (s : IsSunk m q) → IsSinkKept m q s.plan
kept m q formed calm s =
    subst (λ q. IsSinkKept m q s.plan) (sym s.is) (sunk_kept m s.plan formed (chosen_plan m s.plan calm s.chosen))

-- ---- one list

head_below : (x : Reg) (xs : List Reg) → Rising (x ∷ xs) → (r : Reg) → Contains xs r → x.number < r.number
head_below x xs h r c =
    let k = c.0 in
    let lt = c.1 in
    let zero_first : 0 < suc k = omega arith in
    let within : suc k < length (x ∷ xs) = omega (arith, lt) in
    subst (λ (q : Reg). x.number < q.number) c.2 (h 0 (suc k) r zero_first within)

tail_rising : (x : Reg) (xs : List Reg) → Rising (x ∷ xs) → Rising xs
tail_rising x xs h = λ i j d lt within. h (suc i) (suc j) d (omega (arith, lt)) (omega (arith, within))

-- lists by rising numbers with the same members are one
same_list : (xs ys : List Reg) → Rising xs → Rising ys → ((r : Reg) → Contains xs r → Contains ys r) →
    ((r : Reg) → Contains ys r → Contains xs r) → xs ≡ ys
same_list [] [] a b to back = refl
same_list [] (y ∷ ys) a b to back = absurd (none_in y (back y (first_in y ys)))
same_list (x ∷ xs) [] a b to back = absurd (none_in x (to x (first_in x xs)))
same_list (x ∷ xs) (y ∷ ys) a b to back =
    ap (λ r. r ∷ xs) same
    ∙ ap (λ rs. y ∷ rs) (same_list xs ys (tail_rising x xs a) (tail_rising y ys b) (λ r c. tail_to r c) (λ r c. tail_back r c))
  where
    both : (n k : ℕ) → n < k → k < n → ⊥
    both n k p q = omega (arith, p, q)

    itself : (n k : ℕ) → n < k → n ≡ k → ⊥
    itself n k p e = omega (arith, p, e)

    same : x ≡ y
    same =
        ⊎_elim (λ e. sym e)
        (λ c.
        ⊎_elim (λ e. e)
        (λ d. absurd (both x.number y.number (head_below x xs a y d) (head_below y ys b x c)))
        (in_cons x y xs (back y (first_in y ys))))
        (in_cons y x ys (to x (first_in x xs)))

    tail_to : (r : Reg) → Contains xs r → Contains ys r
    tail_to r c =
        ⊎_elim (λ e. absurd (itself x.number r.number (head_below x xs a r c) (ap (λ (r : Reg). r.number) (same ∙ e)))) (λ d. d)
        (in_cons y r ys (to r (later_in x r xs c)))

    tail_back : (r : Reg) → Contains ys r → Contains xs r
    tail_back r c =
        ⊎_elim (λ e. absurd (itself y.number r.number (head_below y ys b r c) (ap (λ (r : Reg). r.number) (sym same ∙ e)))) (λ d. d)
        (in_cons x r xs (back r (later_in y r ys c)))

-- ---- one code

module _ (p q : SinkPlan) where
  abbrev MoveAlike : ℕ → List Reg → Type 0
  MoveAlike k rs = (r : Reg) → Contains rs r → p.moves k r.number ≡ q.moves k r.number

  moves_same : (k : ℕ) (rs : List Reg) → MoveAlike k rs → planned_moves p k rs ≡ planned_moves q k rs
  moves_same k [] h = refl
  moves_same k (r ∷ rs) h =
      ap (λ b. cond b (to_itself r ∷ planned_moves p k rs) (planned_moves p k rs)) (h r (first_in r rs))
      ∙ ap (λ xs. cond (q.moves k r.number) (to_itself r ∷ xs) xs) (moves_same k rs (λ z c. h z (later_in r z rs c)))

  code_same : p.registers ≡ q.registers → (code : List Instr) →
      ((i : Instr) (next : List Instr) → StandsAsInstr i next code → MoveAlike (length next) p.registers) →
      expand (sunk_instr p) code ≡ expand (sunk_instr q) code
  code_same same [] h = refl
  code_same same (i ∷ is) h =
      ap (λ xs. (xs ++ i ∷ []) ++ expand (sunk_instr p) is)
      (moves_same (length is) p.registers (h i is here) ∙ ap (planned_moves q (length is)) same)
      ∙ ap (λ xs. sunk_instr q (length is) i ++ xs) (code_same same is (λ j next s. h j next (below s)))

-- One function is made of each.
pub one_sunk : (m q k : Mach) → IsSunk m q → IsSunk m k → q ≡ k
one_sunk m q k s t =
    s.is
    ∙ ap (λ xs. record m { code = xs })
    (code_same s.plan t.plan registers m.code (λ i next stands r c.
    same_answer ((s.plan).moves (length next) r.number) ((t.plan).moves (length next) r.number) (a.moves i next r stands c)
    (b.moves i next r stands (to r c))))
    ∙ sym t.is
  where
    a : IsSinkChoice m s.plan
    a = s.chosen

    b : IsSinkChoice m t.plan
    b = t.chosen

    to : (r : Reg) → Contains (s.plan).registers r → Contains (t.plan).registers r
    to r c = (b.registers r).1 ((a.registers r).0 c)

    registers : (s.plan).registers ≡ (t.plan).registers
    registers =
        same_list (s.plan).registers (t.plan).registers a.rising b.rising to
        (λ r c. (a.registers r).1 ((b.registers r).0 c))
