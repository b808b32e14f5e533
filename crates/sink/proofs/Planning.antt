-- The plan of the moves is the chosen one, and the code is that of the plan.
use Rattle.std.proofs.Common.{◌≡◌, ℕ, suc, ◌-◌, ◌<◌, Bool, true, false, cond, ◌&&◌, ◌||◌, ⊎_elim, List, [], ◌∷◌, ◌++◌, map, length, drop, refl, sym, ap, ◌∙◌, subst, arith}
use Rattle.std.proofs.lemmas.Bool.{cases_Bool, eq-eqb, eqb-true, or_cases, or_left, or_right, and_parts, and_from}
use Rattle.std.specs.List.{AllPairs, Contains}
use Rattle.std.specs.Prelude.{nat_eq}
use Rattle.mach_ir.specs.Formed.{WellFormed}
use Rattle.mach_ir.specs.Walks.{StandsAsInstr, here, below, IsRegister}
use Rattle.mach_ir.specs.declared.reg.Reg.{Reg}
use Rattle.mach_ir.specs.declared.mach.Instr.{Instr}
use Rattle.mach_ir.specs.declared.mach.Mach.{Mach}
use Rattle.mach_laws.specs.Expand.{expand}
use Rattle.mach_laws.specs.Graph.{code_index}
use Rattle.mach_laws.proofs.Walking.{place_is}
use Rattle.sink_rules.specs.Chosen.{IsSunkAt, IsSinkChoice, IsSunk}
use Rattle.sink_rules.specs.Sunk.{SinkPlan, to_itself, planned_moves, sunk_instr}
use Rattle.bs_words.proofs.Lists.{none_in, first_in, later_in, in_cons}
use Rattle.sink.specs.Chosen.{AreMoves}
use Rattle.sink.specs.Runs.{straight_run_begins}
use Rattle.sink.specs.Moves.{moves_before, instr_after_moves, sunk_code}
use Rattle.sink.specs.declared.chosen.Move.{Move}
use Rattle.sink.proofs.Moving.{pairs_none, pairs_more, pairs_first, pairs_rest}
use Rattle.sink.proofs.Running.{begins_of, one_start}
use Rattle.mach_laws.proofs.Places.{ending_of}
use Rattle.bs_words.proofs.Truths.{not_both, bool_same}

-- ---- moves by their numbers and places

abbrev regs_of : List Move → List Reg
regs_of moves = map (λ (x : Move). x.reg) moves

-- a register of this number is moved before this place
abbrev moved_there : List Move → ℕ → ℕ → Bool
moved_there [] n p = false
moved_there (x ∷ xs) n p = (nat_eq x.reg.number n && nat_eq x.place p) || moved_there xs n p

record There (xs : List Move) (n p : ℕ) : Type 0 where
  move : Move
  among : Contains xs move
  number : move.reg.number ≡ n
  place : move.place ≡ p

there_of : (xs : List Move) (n p : ℕ) → moved_there xs n p ≡ true → There xs n p
there_of [] n p e = absurd (not_both false e refl)
there_of (x ∷ xs) n p e =
    ⊎_elim
    (λ h.
    let t = and_parts (nat_eq x.reg.number n) (nat_eq x.place p) h in
    record { move = x; among = first_in x xs; number = eqb-true x.reg.number n t.0; place = eqb-true x.place p t.1 })
    (λ h.
    let t = there_of xs n p h in
    record { move = t.move; among = later_in x t.move xs t.among; number = t.number; place = t.place })
    (or_cases (nat_eq x.reg.number n && nat_eq x.place p) (moved_there xs n p) e)

of_there : (xs : List Move) (y : Move) (n p : ℕ) → Contains xs y → y.reg.number ≡ n → y.place ≡ p → moved_there xs n p ≡ true
of_there [] y n p c e h = absurd (none_in y c)
of_there (x ∷ xs) y n p c e h =
    ⊎_elim
    (λ s.
    or_left (nat_eq x.reg.number n && nat_eq x.place p) (moved_there xs n p)
    (and_from (nat_eq x.reg.number n) (nat_eq x.place p) (eq-eqb x.reg.number n (ap (λ (x : Move). x.reg.number) s ∙ e))
    (eq-eqb x.place p (ap (λ (x : Move). x.place) s ∙ h))))
    (λ d. or_right (nat_eq x.reg.number n && nat_eq x.place p) (moved_there xs n p) (of_there xs y n p d e h))
    (in_cons x y xs c)

reg_in : (xs : List Move) (r : Reg) → Contains (regs_of xs) r → (x : Move) × Contains xs x × (x.reg ≡ r)
reg_in [] r c = absurd (none_in r c)
reg_in (x ∷ xs) r c =
    ⊎_elim (λ e. (x, first_in x xs, e)) (λ d. let y = reg_in xs r d in (y.0, later_in x y.0 xs y.1, y.2)) (in_cons x.reg r (regs_of xs) c)

in_regs : (xs : List Move) (y : Move) → Contains xs y → Contains (regs_of xs) y.reg
in_regs [] y c = absurd (none_in y c)
in_regs (x ∷ xs) y c =
    ⊎_elim (λ e. subst (λ (y : Move). Contains (regs_of (x ∷ xs)) y.reg) e (first_in x.reg (regs_of xs)))
    (λ d. later_in x.reg y.reg (regs_of xs) (in_regs xs y d)) (in_cons x y xs c)

rising_regs : (xs : List Move) → AllPairs (λ (x y : Move). x.reg.number < y.reg.number) xs →
    AllPairs (λ (r q : Reg). r.number < q.number) (regs_of xs)
rising_regs [] all = pairs_none (λ (r q : Reg). r.number < q.number)
rising_regs (x ∷ xs) all =
    pairs_more (λ (r q : Reg). r.number < q.number) x.reg (regs_of xs)
    (λ q c.
    let y = reg_in xs q c in
    subst (λ (q : Reg). x.reg.number < q.number) y.2
    (pairs_first (λ (x y : Move). x.reg.number < y.reg.number) x y.0 xs all y.1))
    (rising_regs xs (pairs_rest (λ (x y : Move). x.reg.number < y.reg.number) x xs all))

-- ---- the code

code_same : (f g : ℕ → Instr → List Instr) (code : List Instr) →
    ((i : Instr) (next : List Instr) → StandsAsInstr i next code → f (length next) i ≡ g (length next) i) → expand f code ≡ expand g code
code_same f g [] h = refl
code_same f g (i ∷ is) h =
    ap (λ xs. xs ++ expand f is) (h i is here) ∙ ap (λ xs. g (length is) i ++ xs) (code_same f g is (λ j next s. h j next (below s)))

bare : (whole code : List Instr) → code ≡ sunk_code [] whole code
bare whole [] = refl
bare whole (i ∷ is) =
    ap (λ xs. i ∷ xs) (bare whole is) ∙ ap (λ xs. xs ++ sunk_code [] whole is) (one (straight_run_begins whole (length whole - 1 - length is)))
  where
    one : (b : Bool) → i ∷ [] ≡ cond b ([] ++ i ∷ []) (i ∷ [])
    one true = refl
    one false = refl

module _ (m : Mach) (formed : WellFormed m) (moves : List Move) (are : AreMoves m moves) where
  abbrev plan : SinkPlan
  plan = record { registers = regs_of moves; moves = λ k n. moved_there moves n (length m.code - 1 - k) }

  place_now : (i : Instr) (next : List Instr) → length m.code - 1 - length next ≡ code_index m (i ∷ next)
  place_now i next = minus (length m.code) (length next)
    where
      minus : (a b : ℕ) → a - 1 - b ≡ a - suc b
      minus a b = omega arith

  -- a place is that of one instruction
  same_code : {i j : Instr} {next others : List Instr} → StandsAsInstr i next m.code → StandsAsInstr j others m.code →
      code_index m (j ∷ others) ≡ code_index m (i ∷ next) → j ∷ others ≡ i ∷ next
  same_code s t e = sym (place_is m (ending_of t)) ∙ ap (λ p. drop p m.code) e ∙ place_is m (ending_of s)

  head_is : {i j : Instr} {xs ys : List Instr} → i ∷ xs ≡ j ∷ ys → i ≡ j
  head_is e = cc

  tail_is : {i j : Instr} {xs ys : List Instr} → i ∷ xs ≡ j ∷ ys → xs ≡ ys
  tail_is e = cc

  registered : (r : Reg) → Contains plan.registers r → IsRegister m r
  registered r c = let x = reg_in moves r c in subst (IsRegister m) x.2 ((are.each x.0 x.1).sunk_at).register

  -- a move of the plan is there
  sunk_there : (i : Instr) (next : List Instr) (r : Reg) → StandsAsInstr i next m.code → IsRegister m r → There moves r.number (length m.code - 1 - length next) →
      IsSunkAt m i next r
  sunk_there i next r s known t =
      let x = are.each t.move t.among in
      let a = x.sunk_at in
      let same = same_code s a.stands (sym x.place ∙ t.place ∙ place_now i next) in
      let reg : t.move.reg ≡ r = formed.numbers t.move.reg r a.register known t.number in
      subst (IsSunkAt m i next) reg
      (subst (λ (i : Instr). IsSunkAt m i next t.move.reg) (head_is same)
      (subst (λ (next : List Instr). IsSunkAt m x.instr next t.move.reg) (tail_is same) a))

  there_sunk : (i : Instr) (next : List Instr) (r : Reg) → IsSunkAt m i next r → plan.moves (length next) r.number ≡ true
  there_sunk i next r a =
      of_there moves (record { reg = r; place = code_index m (i ∷ next) }) r.number (length m.code - 1 - length next) (are.all i next r a) refl
      (sym (place_now i next))

  is_chosen : IsSinkChoice m plan
  is_chosen =
      record {
        registers = λ r. (
          λ c.
              let x = reg_in moves r c in
              let y = are.each x.0 x.1 in
              record { instr = y.instr; next = y.next; sunk_at = subst (IsSunkAt m y.instr y.next) x.2 y.sunk_at },
          λ h. in_regs moves (record { reg = r; place = code_index m (h.instr ∷ h.next) }) (are.all h.instr h.next r h.sunk_at),
        );
        rising = rising_regs moves are.rising;
        moves = λ i next r s c. (
          λ e. sunk_there i next r s (registered r c) (there_of moves r.number (length m.code - 1 - length next) e),
          there_sunk i next r,
        );
      }

  -- ---- the code

  module _ (i : Instr) (next : List Instr) (s : StandsAsInstr i next m.code) where
    abbrev p : ℕ
    p = length m.code - 1 - length next

    test_same : (x : Move) → Contains moves x → nat_eq x.place p ≡ plan.moves (length next) x.reg.number
    test_same x c =
        bool_same (nat_eq x.place p) (moved_there moves x.reg.number p)
        (λ e. of_there moves x x.reg.number p c refl (eqb-true x.place p e))
        (λ e.
        let y = are.each x c in
        let a = sunk_there i next x.reg s (y.sunk_at).register (there_of moves x.reg.number p e) in
        let b = y.sunk_at in
        let after : a.after ≡ b.after = b.only a.call a.after a.to a.over a.unsaved in
        let same : code_index m (i ∷ next) ≡ code_index m (y.instr ∷ y.next) =
        one_start m x.reg.number (ending_of a.stands) (ending_of b.stands) a.run b.run after in
        eq-eqb x.place p (y.place ∙ sym same ∙ sym (place_now i next)))

    moves_same : (xs : List Move) → ((x : Move) → Contains xs x → Contains moves x) → moves_before xs p ≡ planned_moves plan (length next) (regs_of xs)
    moves_same [] known = refl
    moves_same (x ∷ xs) known =
        ap (λ b. cond b (to_itself x.reg ∷ moves_before xs p) (moves_before xs p)) (test_same x (known x (first_in x xs)))
        ∙ ap (λ ys. cond (plan.moves (length next) x.reg.number) (to_itself x.reg ∷ ys) ys)
        (moves_same xs (λ y c. known y (later_in x y xs c)))

    none_same : straight_run_begins m.code p ≡ false → (xs : List Move) → ((x : Move) → Contains xs x → Contains moves x) →
        planned_moves plan (length next) (regs_of xs) ≡ []
    none_same e [] known = refl
    none_same e (x ∷ xs) known =
        ap (λ b. cond b (to_itself x.reg ∷ planned_moves plan (length next) (regs_of xs)) (planned_moves plan (length next) (regs_of xs)))
        (⊎_elim (λ h. absurd (never h)) (λ h. h) (cases_Bool (plan.moves (length next) x.reg.number)))
        ∙ none_same e xs (λ y c. known y (later_in x y xs c))
      where
        never : plan.moves (length next) x.reg.number ≡ true → ⊥
        never h =
            let y = are.each x (known x (first_in x xs)) in
            let a = sunk_there i next x.reg s (y.sunk_at).register (there_of moves x.reg.number p h) in
            not_both (straight_run_begins m.code p) (ap (straight_run_begins m.code) (place_now i next) ∙ begins_of m x.reg.number (ending_of a.stands) a.run) e

    instr_same : instr_after_moves moves (straight_run_begins m.code p) p i ≡ sunk_instr plan (length next) i
    instr_same =
        ⊎_elim
        (λ e.
        ap (λ b. cond b (moves_before moves p ++ i ∷ []) (i ∷ [])) e ∙ ap (λ xs. xs ++ i ∷ []) (moves_same moves (λ x c. c)))
        (λ e.
        ap (λ b. cond b (moves_before moves p ++ i ∷ []) (i ∷ [])) e ∙ ap (λ xs. xs ++ i ∷ []) (sym (none_same e moves (λ x c. c))))
        (cases_Bool (straight_run_begins m.code p))

  pub sunk_by : (code : List Instr) → code ≡ sunk_code moves m.code m.code → IsSunk m (record m { code = code })
  sunk_by code e =
      record {
        plan = plan;
        chosen = is_chosen;
        is = ap (λ xs. record m { code = xs })
            (e ∙ code_same (λ k i. instr_after_moves moves (straight_run_begins m.code (length m.code - 1 - k)) (length m.code - 1 - k) i) (sunk_instr plan) m.code instr_same);
      }

  pub unsunk : moves ≡ [] → IsSunk m m
  unsunk none = sunk_by m.code (bare m.code m.code ∙ ap (λ xs. sunk_code xs m.code m.code) (sym none))

pub none_of : {A : Type 0} (xs : List A) → length xs ≡ 0 → xs ≡ []
none_of [] e = refl
none_of (x ∷ xs) e = absurd (omega (arith, e))
