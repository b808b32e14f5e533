-- How many moves there are: one for each register at the most; and no more registers than numbers.
use Rattle.std.proofs.Common.{◌≡◌, ◌≢◌, ℕ, zero, suc, ◌+◌, ◌*◌, ◌<◌, ◌≤◌, Bool, true, false, cond, List, [], ◌∷◌, ◌++◌, map, length, refl, sym, ap, ◌∙◌, subst, arith}
use Rattle.std.proofs.lemmas.Bool.{eqb-true}
use Rattle.std.proofs.lemmas.Bool.Decides.{Decides-eqb}
use Rattle.std.proofs.lemmas.Map.Made.{IsDistinct-from_AllPairs, length-le_from_is_member}
use Rattle.std.proofs.lemmas.Map.Steps.{length-le_from_distinct_below}
use Rattle.std.proofs.lemmas.Map.Views.{Contains-from_any, list_any-from_Contains}
use Rattle.std.specs.List.{AllPairs, Contains}
use Rattle.std.specs.Cmp.{nat_eq_equiv}
use Rattle.std.specs.Prelude.{slice_index_or}
use Rattle.std.proofs.lemmas.List.{length-map}
use Rattle.mach_ir.specs.Formed.{AreDistinct}
use Rattle.mach_ir.specs.Sizes.{operand_count, Size, HasSize, OpenAtMost}
use Rattle.mach_ir.specs.Walks.{IsRegister, StandsAsInstr, here, below}
use Rattle.mach_ir.specs.declared.reg.Reg.{Reg}
use Rattle.mach_ir.specs.declared.mach.Instr.{Instr}
use Rattle.mach_ir.specs.declared.mach.Mach.{Mach}
use Rattle.mach_laws.specs.Expand.{expand, Ending, all, more}
use Rattle.mach_laws.proofs.Places.{ending_next, stands_of}
use Rattle.colouring_rules.proofs.Lists.{was}
use Rattle.bs_words.proofs.Lists.{first_in, later_in}
use Rattle.pass_rules.proofs.Words.{both_sum}
use Rattle.sink_rules.specs.Sunk.{SinkPlan, to_itself, planned_moves, sunk_instr, sunk, IsSinkPlan}

-- ---- registers and their numbers

at_number : (rs : List Reg) (k : ℕ) (r : Reg) (z : ℕ) → k < length rs →
    slice_index_or (map (λ (r : Reg). r.number) rs) k z ≡ (slice_index_or rs k r).number
at_number [] k r z lt = absurd (omega (arith, lt))
at_number (q ∷ rs) zero r z lt = refl
at_number (q ∷ rs) (suc k) r z lt = at_number rs k r z (omega (arith, lt))

numbers_differ : (rs : List Reg) → AreDistinct rs → AllPairs (λ n k. n ≢ k) (map (λ (r : Reg). r.number) rs)
numbers_differ [] h = λ i j d lt within. absurd (omega (arith, within))
numbers_differ (r ∷ rs) h = λ i j d lt within.
    let le : j < length (r ∷ rs) = subst (λ n. j < n) (length-map (r ∷ rs) (λ (r : Reg). r.number)) within in
    let under : i < length (r ∷ rs) = omega (arith, lt, le) in
    λ e.
    h i j r lt le (sym (at_number (r ∷ rs) i r d under) ∙ e ∙ at_number (r ∷ rs) j r d le)

-- registers of different numbers, all below a bound, are no more than that
few_registers : (rs : List Reg) (bound : ℕ) → AreDistinct rs → ((r : Reg) → Contains rs r → r.number < bound) → length rs ≤ bound
few_registers rs bound h low =
    subst (λ n. n ≤ bound) (length-map rs (λ (r : Reg). r.number))
    (length-le_from_distinct_below ns bound (IsDistinct-from_AllPairs Decides-eqb ns (numbers_differ rs h))
    (λ n seen.
    let w = was (λ (r : Reg). r.number) rs n (Contains-from_any eqb-true n ns seen) in
    subst (λ k. k < bound) w.same (low w.what w.among)))
  where
    ns : List ℕ
    ns = map (λ (r : Reg). r.number) rs

-- registers of different numbers, all among some numbers, are no more than these
registers_among : (rs : List Reg) (numbers : List ℕ) → AreDistinct rs → ((r : Reg) → Contains rs r → Contains numbers r.number) →
    length rs ≤ length numbers
registers_among rs numbers h known =
    subst (λ n. n ≤ length numbers) (length-map rs (λ (r : Reg). r.number))
    (length-le_from_is_member nat_eq_equiv ns numbers (IsDistinct-from_AllPairs Decides-eqb ns (numbers_differ rs h))
    (λ n seen.
    let w = was (λ (r : Reg). r.number) rs n (Contains-from_any eqb-true n ns seen) in
    list_any-from_Contains nat_eq_equiv n numbers (subst (λ k. Contains numbers k) w.same (known w.what w.among))))
  where
    ns : List ℕ
    ns = map (λ (r : Reg). r.number) rs

-- ---- how many moves

module _ (plan : SinkPlan) where
  -- how many moves are in the code, of these registers
  abbrev pub total : List Reg → List Instr → ℕ
  total rs [] = 0
  total rs (i ∷ is) = length (planned_moves plan (length is) rs) + total rs is

  -- of one register
  abbrev times : ℕ → List Instr → ℕ
  times n [] = 0
  times n (i ∷ is) = cond (plan.moves (length is) n) 1 0 + times n is

  none_total : (code : List Instr) → total [] code ≡ 0
  none_total [] = refl
  none_total (i ∷ is) = let e = none_total is in omega (arith, e)

  total_more : (r : Reg) (rs : List Reg) (code : List Instr) → total (r ∷ rs) code ≡ times r.number code + total rs code
  total_more r rs [] = refl
  total_more r rs (i ∷ is) = by (plan.moves (length is) r.number) (total_more r rs is)
    where
      by : (b : Bool) → total (r ∷ rs) is ≡ times r.number is + total rs is →
          length (cond b (to_itself r ∷ planned_moves plan (length is) rs) (planned_moves plan (length is) rs)) + total (r ∷ rs) is
          ≡ cond b 1 0 + times r.number is + (length (planned_moves plan (length is) rs) + total rs is)
      by true e = omega (arith, e)
      by false e = omega (arith, e)

  -- ---- what is a sum over instructions

  module _ (M : List Instr → ℕ) (one : Instr → ℕ) (most : ℕ) (none : M [] ≡ 0) (step : (i : Instr) (is : List Instr) → M (i ∷ is) ≡ one i + M is)
      (each : (r : Reg) → one (to_itself r) ≤ most) where
    one_times : (a b c d : ℕ) → a ≤ d → b ≤ d * c → a + b ≤ d * suc c
    one_times a b c d x y = subst (λ k. a + b ≤ k) (spread d c) (omega (arith, x, y))
      where
        spread : (d c : ℕ) → d + d * c ≡ d * suc c
        spread d c = omega arith

    moves_sum : (k : ℕ) (rs : List Reg) → M (planned_moves plan k rs) ≤ most * length (planned_moves plan k rs)
    moves_sum k [] = let e = none in subst (λ n. n ≤ most * 0) (sym e) (least (most * 0))
      where
        least : (n : ℕ) → 0 ≤ n
        least n = omega arith
    moves_sum k (r ∷ rs) = by (plan.moves k r.number) (moves_sum k rs)
      where
        by : (b : Bool) → M (planned_moves plan k rs) ≤ most * length (planned_moves plan k rs) →
            M (cond b (to_itself r ∷ planned_moves plan k rs) (planned_moves plan k rs))
            ≤ most * length (cond b (to_itself r ∷ planned_moves plan k rs) (planned_moves plan k rs))
        by true h =
            subst (λ n. n ≤ most * suc (length (planned_moves plan k rs))) (sym (step (to_itself r) (planned_moves plan k rs)))
            (one_times (one (to_itself r)) (M (planned_moves plan k rs)) (length (planned_moves plan k rs)) most (each r) h)
        by false h = h

    -- the code is no larger by more than so much for each move
    sum_grows : (code : List Instr) → M (expand (sunk_instr plan) code) ≤ M code + most * total plan.registers code
    sum_grows [] = let e = none in more_is (M []) (most * 0)
      where
        more_is : (a b : ℕ) → a ≤ a + b
        more_is a b = omega arith
    sum_grows (i ∷ is) =
        adds (M (expand (sunk_instr plan) (i ∷ is))) (M xs) (one i) (M (expand (sunk_instr plan) is)) (M is) (M (i ∷ is)) most (length xs)
        (total plan.registers is) whole (moves_sum (length is) plan.registers) (sum_grows is) (step i is)
      where
        xs : List Instr
        xs = planned_moves plan (length is) plan.registers

        whole : M (expand (sunk_instr plan) (i ∷ is)) ≡ M xs + one i + M (expand (sunk_instr plan) is)
        whole =
            let a = both_sum M one none step (xs ++ i ∷ []) (expand (sunk_instr plan) is) in
            let b = both_sum M one none step xs (i ∷ []) in
            let c = step i [] in
            let d = none in omega (arith, a, b, c, d)

        adds : (g a b c d e k x y : ℕ) → g ≡ a + b + c → a ≤ k * x → c ≤ d + k * y → e ≡ b + d → g ≤ e + k * (x + y)
        adds g a b c d e k x y p q r s = subst (λ n. g ≤ e + n) (spread k x y) (omega (arith, p, q, r, s))
          where
            spread : (k x y : ℕ) → k * x + k * y ≡ k * (x + y)
            spread k x y = omega arith

module _ (m : Mach) (plan : SinkPlan) (known_plan : IsSinkPlan m plan) where
  -- ---- each register is moved once at the most

  shorter : {j : Instr} {others code : List Instr} → StandsAsInstr j others code → length others < length code
  shorter here = omega arith
  shorter (below s) = let lt = shorter s in omega (arith, lt)

  stands_later : {j : Instr} {others rest code : List Instr} → Ending rest code → StandsAsInstr j others rest → StandsAsInstr j others code
  stands_later all s = s
  stands_later (more e) s = below (stands_later e s)

  never : (n : ℕ) (code : List Instr) →
      ((j : Instr) (others : List Instr) → StandsAsInstr j others code → plan.moves (length others) n ≡ true → ⊥) → times plan n code ≡ 0
  never n [] h = refl
  never n (i ∷ is) h = by (plan.moves (length is) n) refl (never n is (λ j others s. h j others (below s)))
    where
      by : (b : Bool) → plan.moves (length is) n ≡ b → times plan n is ≡ 0 → cond b 1 0 + times plan n is ≡ 0
      by true t e = absurd (h i is here t)
      by false t e = omega (arith, e)

  once : (r : Reg) → Contains plan.registers r → (code : List Instr) → Ending code m.code → times plan r.number code ≤ 1
  once r c [] ending = omega arith
  once r c (i ∷ next) ending = by (plan.moves (length next) r.number) refl (once r c next (ending_next ending))
    where
      by : (b : Bool) → plan.moves (length next) r.number ≡ b → times plan r.number next ≤ 1 → cond b 1 0 + times plan r.number next ≤ 1
      by true t old =
          let e = never r.number next
          (λ j others s u.
          let same : others ≡ next = is_once j others s u t in
          let lt : length others < length next = shorter s in
          let le : length others ≡ length next = ap length same in absurd (omega (arith, lt, le))) in
          omega (arith, e)
        where
          is_once : (j : Instr) (others : List Instr) → StandsAsInstr j others next → plan.moves (length others) r.number ≡ true →
              plan.moves (length next) r.number ≡ true → others ≡ next
          is_once j others s u t =
              known_plan.once i j next others r (stands_of ending) (stands_later (ending_next ending) s) c t u
      by false t old = omega (arith, old)

  few_of : (rs : List Reg) → ((r : Reg) → Contains rs r → Contains plan.registers r) → total plan rs m.code ≤ length rs
  few_of [] known = let e = none_total plan m.code in omega (arith, e)
  few_of (r ∷ rs) known =
      let a = total_more plan r rs m.code in
      let b = once r (known r (first_in r rs)) m.code all in
      let c = few_of rs (λ k d. known k (later_in r k rs d)) in omega (arith, a, b, c)

  few_moves : total plan plan.registers m.code ≤ length plan.registers
  few_moves = few_of plan.registers (λ r c. c)

  -- what is a sum grows by no more than so much for each register
  pub sum_within : (M : List Instr → ℕ) (one : Instr → ℕ) (most : ℕ) → M [] ≡ 0 →
      ((i : Instr) (is : List Instr) → M (i ∷ is) ≡ one i + M is) → ((r : Reg) → one (to_itself r) ≤ most) →
      M (sunk plan m).code ≤ M m.code + most * length plan.registers
  sum_within M one most none step each =
      joins (M (sunk plan m).code) (M m.code) most (total plan plan.registers m.code) (length plan.registers)
      (sum_grows plan M one most none step each m.code) few_moves
    where
      times_le : (k a b : ℕ) → a ≤ b → k * a ≤ k * b
      times_le zero a b le = omega arith
      times_le (suc k) a b le = let ih = times_le k a b le in omega (arith, ih, le)

      joins : (g d k x y : ℕ) → g ≤ d + k * x → x ≤ y → g ≤ d + k * y
      joins g d k x y p le = let z = times_le k x y le in omega (arith, p, z)

  -- bounds with a move for each register
  abbrev pub with_moves : Size → Size
  with_moves s = record s { instrs = s.instrs + length plan.registers; operands = s.operands + 2 * length plan.registers }

  pub sunk_size : ((r : Reg) → IsRegister (sunk plan m) r → IsRegister m r) → (s : Size) → HasSize m s →
      HasSize (sunk plan m) (with_moves s)
  sunk_size old s h =
      let a = sum_within length (λ i. 1) 1 refl (λ i is. omega arith) (λ r. omega arith) in
      let b = sum_within operand_count (λ (i : Instr). length i.args + length i.results) 2 refl (λ i is. refl) (λ r. omega arith) in
      let c = h.instrs in
      let d = h.operands in
      record {
        instrs = omega (arith, a, c);
        operands = omega (arith, b, d);
        numbers = λ r i. h.numbers r (old r i);
        origins = λ r i. h.origins r (old r i);
        labels = h.labels;
      }

  pub few : (s : Size) → HasSize m s → length plan.registers ≤ s.registers
  few s h = few_registers plan.registers s.registers known_plan.distinct (λ r c. h.numbers r (known_plan.registers r c))

  -- they are open
  pub few_open : (k : ℕ) → OpenAtMost m k → length plan.registers ≤ k
  few_open k h =
      few_then (length plan.registers) (length h.numbers) k
      (registers_among plan.registers h.numbers known_plan.distinct (λ r c. h.all r (known_plan.registers r c) (known_plan.open_places r c))) h.few
    where
      few_then : (a b c : ℕ) → a ≤ b → b ≤ c → a ≤ c
      few_then a b c p q = omega (arith, p, q)
