-- What moves to the entry: straight code that makes constants, each in a register of its own.
use Rattle.std.proofs.Common.{◌≡◌, ℕ, Bool, true, false, cond, inl, inr, ◌⊎◌, ⊎_elim, List, [], ◌∷◌, ◌++◌, length, refl, sym, ap, ◌∙◌, subst, arith}
use Rattle.std.specs.List.{Contains}
use Rattle.std.proofs.lemmas.Bool.{both_ways}
use Rattle.mach_ir.specs.Acts.{Target, On, At, Landing, AtLabel, AtHandler}
use Rattle.mach_ir.specs.Meaning.{after_label, from_handler, at_handler, code_at, landing_code, has_label, is_handler_of, killed, tries_at, tries_past}
use Rattle.mach_ir.specs.Walks.{AmongRegisters, first, later, Writes, StandsAsInstr, here, below}
use Rattle.mach_ir.specs.declared.reg.Reg.{Reg}
use Rattle.mach_ir.specs.declared.mach.Instr.{Instr}
use Rattle.mach_ir.specs.declared.mach.Mach.{Mach}
use Rattle.mach_laws.specs.Expand.{expand, Ending, all}
use Rattle.mach_laws.proofs.Places.{ending_next, stands_of, shorter}
use Rattle.mach_laws.proofs.Among.{none_among, left_among, among_or_not}
use Rattle.deadcode_rules.specs.Dropped.{may_go, unless_dropped}
use Rattle.deadcode_rules.proofs.Text.{pure_of, pure_kills}
use Rattle.bs_words.proofs.Lists.{first_in, later_in}
use Rattle.hoist_rules.specs.Hoisted.{MayMove, hoisted_instruction, hoisted, MayAllMove}

-- the register by which a number is among these
pub record Member (n : ℕ) (rs : List Reg) : Type 0 where
  pub reg : Reg
  pub among : Contains rs reg
  pub number : reg.number ≡ n

pub member : {n : ℕ} (rs : List Reg) → AmongRegisters n rs → Member n rs
member (r ∷ rs) (first e) = record { reg = r; among = first_in r rs; number = e }
member (r ∷ rs) (later a) =
    let k = member rs a in record { reg = k.reg; among = later_in r k.reg rs k.among; number = k.number }
member [] a = elim a [ ]

-- ---- results

abbrev pub results_in : List Instr → List Reg
results_in [] = []
results_in (i ∷ is) = i.results ++ results_in is

-- ---- places

-- what is before one code is one instruction
pub same_place : {i j : Instr} {next others code : List Instr} → StandsAsInstr i next code → StandsAsInstr j others code →
    length next ≡ length others → i ≡ j
same_place here here e = refl
same_place here (below t) e = let lt = shorter t in absurd (omega (arith, lt, e))
same_place (below s) here e = let lt = shorter s in absurd (omega (arith, lt, e))
same_place (below s) (below t) e = same_place s t e

module _ (m : Mach) (moves : ℕ → Bool) (may : MayAllMove m moves) where
  abbrev pub q : Mach
  q = hoisted moves m

  -- What is left, where the registers that are made at the entry have been handed in.
  abbrev pub rest_of : Mach
  rest_of =
      record m {
        params = m.params ++ results_in (expand (hoisted_instruction moves) m.code);
        code = expand (unless_dropped moves) m.code;
      }

  abbrev pub f : ℕ → Instr → List Instr
  f = unless_dropped moves

  abbrev pub front : List Instr
  front = expand (hoisted_instruction moves) m.code

  -- ---- which registers are made at the entry

  pub record IsMade (n : ℕ) : Type 0 where
    pub instr : Instr
    pub next : List Instr
    pub stands : StandsAsInstr instr next m.code
    pub moves_so : moves (length next) ≡ true
    pub among : AmongRegisters n instr.results

  abbrev pub move_of : {n : ℕ} (a : IsMade n) → MayMove m a.instr a.next
  move_of a = may a.instr a.next a.stands a.moves_so

  only_one : {n : ℕ} (r : Reg) → AmongRegisters n (r ∷ []) → r.number ≡ n
  only_one r (first e) = e
  only_one r (later a) = elim a [ ]

  pub number_of : {n : ℕ} {i : Instr} {next : List Instr} (v : MayMove m i next) → AmongRegisters n i.results → (v.register).number ≡ n
  number_of {n} v a = only_one v.register (subst (λ (i : Instr). AmongRegisters n i.results) v.is a)

  pub made_number : {n : ℕ} (a : IsMade n) → ((move_of a).register).number ≡ n
  made_number a = number_of (move_of a) a.among

  pub no_param : {n : ℕ} → IsMade n → AmongRegisters n m.params → ⊥
  no_param a z = (move_of a).no_param (subst (λ n. AmongRegisters n m.params) (sym (made_number a)) z)

  pub made_once : {n : ℕ} (a : IsMade n) (j : Instr) (others : List Instr) → StandsAsInstr j others m.code → Writes m j n → others ≡ a.next
  made_once a j others s w = (move_of a).once j others s (subst (λ n. Writes m j n) (sym (made_number a)) w)

  -- one instruction makes it
  pub one_maker : {n : ℕ} (a b : IsMade n) → a.instr ≡ b.instr
  one_maker a b =
      let e = made_once b a.instr a.next a.stands (left_among (a.instr).results (killed m a.instr) a.among) in
      same_place a.stands b.stands (ap length e)

  pub may_go_so : {i : Instr} {next : List Instr} → MayMove m i next → may_go i.op ≡ true
  may_go_so v = ap (λ (i : Instr). may_go i.op) v.is

  -- what is left writes none of them
  pub left_writes_none : {n : ℕ} (j : Instr) (others : List Instr) → StandsAsInstr j others m.code →
      (may_go j.op ≡ true → moves (length others) ≡ false) → IsMade n → Writes m j n → ⊥
  left_writes_none j others s kept a w =
      let t = ap (λ xs. moves (length xs)) (made_once a j others s w) ∙ a.moves_so in
      both_ways (moves (length others)) (kept (may_go_so (may j others s t))) t

  -- what moves destroys nothing
  pub none_killed : (n : ℕ) {i : Instr} {next : List Instr} → MayMove m i next → AmongRegisters n (killed m i) → ⊥
  none_killed n {i} v a =
      none_among (subst (AmongRegisters n) (pure_kills m.colours i.results (pure_of i.op (may_go_so v))) a)

  scan : (n : ℕ) (code : List Instr) → Ending code m.code →
      IsMade n ⊎ ((i : Instr) (next : List Instr) → StandsAsInstr i next code → moves (length next) ≡ true → AmongRegisters n i.results → ⊥)
  scan n [] ending = inr (λ i next s e a. elim s [ ])
  scan n (i ∷ is) ending = by (moves (length is)) refl (among_or_not n i.results) (scan n is (ending_next ending))
    where
      None : List Instr → Type 0
      None code = (i : Instr) (next : List Instr) → StandsAsInstr i next code → moves (length next) ≡ true → AmongRegisters n i.results → ⊥

      none : (moves (length is) ≡ true → AmongRegisters n i.results → ⊥) → None is → None (i ∷ is)
      none h k j next here e a = h e a
      none h k j next (below s) e a = k j next s e a

      by : (b : Bool) → moves (length is) ≡ b → AmongRegisters n i.results ⊎ (AmongRegisters n i.results → ⊥) → IsMade n ⊎ None is → IsMade n ⊎ None (i ∷ is)
      by b e o (inl made) = inl made
      by true e (inl a) (inr k) =
          inl (record { instr = i; next = is; stands = stands_of ending; moves_so = e; among = a })
      by false e (inl a) (inr k) = inr (none (λ t z. both_ways (moves (length is)) e t) k)
      by b e (inr h) (inr k) = inr (none (λ t z. h z) k)

  pub made_or_not : (n : ℕ) → IsMade n ⊎ (IsMade n → ⊥)
  made_or_not n =
      ⊎_elim inl (λ k. inr (λ a. k a.instr a.next a.stands a.moves_so a.among)) (scan n m.code all)

  -- ---- the code at the entry

  pub data Front : List Instr → Type 0 where
    front_end : Front []
    front_one : {i : Instr} {next xs : List Instr} → StandsAsInstr i next m.code → moves (length next) ≡ true → Front xs →
        Front (i ∷ xs)

  pub front_of : (code : List Instr) → Ending code m.code → Front (expand (hoisted_instruction moves) code)
  front_of [] e = front_end
  front_of (i ∷ is) e = by (moves (length is)) refl (front_of is (ending_next e))
    where
      by : (b : Bool) → moves (length is) ≡ b → Front (expand (hoisted_instruction moves) is) → Front (expand (hoisted_instruction moves) (i ∷ is))
      by true h k =
          subst (λ b. Front (cond b (i ∷ []) [] ++ expand (hoisted_instruction moves) is)) (sym h) (front_one (stands_of e) h k)
      by false h k = subst (λ b. Front (cond b (i ∷ []) [] ++ expand (hoisted_instruction moves) is)) (sym h) k

  pub whole_front : Front front
  whole_front = front_of m.code all

  label_past : (l : ℕ) (ys : List Instr) {xs : List Instr} → Front xs → after_label l (xs ++ ys) ≡ after_label l ys
  label_past l ys front_end = refl
  label_past l ys (front_one {i = i} {next = next} {xs = xs} s h k) =
      ap (λ (i : Instr). cond (has_label l i.op) (xs ++ ys) (after_label l (xs ++ ys))) (may i next s h).is ∙ label_past l ys k

  handler_past : (l : ℕ) (ys : List Instr) {xs : List Instr} → Front xs → from_handler l (xs ++ ys) ≡ from_handler l ys
  handler_past l ys front_end = refl
  handler_past l ys (front_one {i = i} {next = next} {xs = xs} s h k) =
      ap (λ (j : Instr). cond (is_handler_of l j.op) (i ∷ (xs ++ ys)) (from_handler l (xs ++ ys))) (may i next s h).is
      ∙ handler_past l ys k

  pub tries_past_front : (ys : List Instr) {xs : List Instr} → Front xs → tries_at (xs ++ ys) ≡ tries_at ys
  tries_past_front ys front_end = refl
  tries_past_front ys (front_one {i = i} {next = next} {xs = xs} s h k) =
      ap (λ (j : Instr). tries_past j.op (tries_at (xs ++ ys))) (may i next s h).is ∙ tries_past_front ys k

  -- ---- places are as in what is left

  pub label_same : (l : ℕ) → after_label l q.code ≡ after_label l rest_of.code
  label_same l = label_past l rest_of.code whole_front

  pub handler_same : (l : ℕ) → from_handler l q.code ≡ from_handler l rest_of.code
  handler_same l = handler_past l rest_of.code whole_front

  pub code_same : (next : List Instr) (t : Target) → code_at q.code next t ≡ code_at rest_of.code next t
  code_same next On = refl
  code_same next (At l) = label_same l

  handlers_same : (tries : List ℕ) → at_handler q.code tries ≡ at_handler rest_of.code tries
  handlers_same [] = refl
  handlers_same (l ∷ tries) = handler_same l

  pub land_same : (there : List Instr) (to : Landing) → landing_code q.code there to ≡ landing_code rest_of.code there to
  land_same there (AtLabel l) = label_same l
  land_same there AtHandler = handlers_same (tries_at there)

  -- ---- where what moves is at the entry

  abbrev pub InFront : Instr → List Instr → Type 0
  InFront i xs = (ys : List Instr) × StandsAsInstr i ys xs

  behind : {i : Instr} (zs : List Instr) {xs : List Instr} → InFront i xs → InFront i (zs ++ xs)
  behind [] t = t
  behind (z ∷ zs) t = let u = behind zs t in (u.0, below u.1)

  pub moved_there : {i : Instr} {next code : List Instr} → StandsAsInstr i next code → moves (length next) ≡ true →
      InFront i (expand (hoisted_instruction moves) code)
  moved_there {i} {next} here h =
      subst (λ b. InFront i (cond b (i ∷ []) [] ++ expand (hoisted_instruction moves) next)) (sym h) (expand (hoisted_instruction moves) next, here)
  moved_there {i} {next} (below {j = j} {is = is} s) h = behind (hoisted_instruction moves (length is) j) (moved_there s h)
