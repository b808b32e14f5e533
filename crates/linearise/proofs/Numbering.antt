-- The table of numbers counts the slots below each, and lines by it are the lowered lines.
use Rattle.std.proofs.Common.{◌≡◌, ℕ, zero, suc, ◌+◌, ◌<◌, ◌≤◌, Bool, true, false, cond, ◌||◌, List, [], ◌∷◌, length, nat_eq, get_or, refl, sym, ap, ◌∙◌, subst, arith}
use Rattle.std.proofs.lemmas.Bool.{eq-eqb}
use Rattle.bs_words.specs.declared.types.Loc.{Loc}
use Rattle.bs_words.specs.declared.types.Loc.TheVariants as loc
use Rattle.mach_ir.specs.declared.reg.Reg.{Reg}
use Rattle.mach_ir.specs.declared.mach.Mark.TheVariants as mark
use Rattle.mach_ir.specs.declared.mach.MachOp.{MachOp}
use Rattle.mach_ir.specs.declared.mach.MachOp.TheVariants as mach
use Rattle.mach_ir.specs.declared.mach.Instr.{Instr}
use Rattle.mach_ir.specs.declared.mach.Mach.{Mach}
use Rattle.lin_ir.specs.Formed.{bare_flow}
use Rattle.lin_ir.specs.declared.lin.Flow.TheVariants as flow
use Rattle.lin_ir.specs.declared.lin.LinOp.{LinOp}
use Rattle.lin_ir.specs.declared.lin.Line.{Line}
use Rattle.lin_ir.specs.declared.lin.Spot.{Spot}
use Rattle.linearise_rules.specs.Lowered.{with_slot_of, slots_of_regs, slots_of_code, slots_of_function, is_among_numbers, count_below, limit_above, slot_number, slot_count, home, spot_of_register, spots, is_idle, line_of, pops, lines_of, lowered_code, lowered}
use Rattle.linearise_rules.proofs.Slots.{among_below}
use Rattle.linearise.specs.Numbers.{number_of_slot, AreSlotFlags, IsTable, running}

zero_is : (k : ℕ) → k ≤ 0 → k ≡ 0
zero_is k le = omega (arith, le)

plus_zero : (o : ℕ) → o + 0 ≡ o
plus_zero o = omega arith

plus_suc : (o k : ℕ) → suc o + k ≡ o + suc k
plus_suc o k = omega arith

module _ (ns : List ℕ) where
  counted : (o : ℕ) (t : Bool) → t ≡ is_among_numbers o ns → cond t (suc (count_below ns o)) (count_below ns o) ≡ count_below ns (suc o)
  counted o t e = ap (λ t. cond t (suc (count_below ns o)) (count_below ns o)) e

  abbrev Holds : ℕ → List Bool → Type 0
  Holds o fs = (k : ℕ) → k < length fs → get_or fs k false ≡ is_among_numbers (o + k) ns

  holds_here : (o : ℕ) (f : Bool) (fs : List Bool) → Holds o (f ∷ fs) → f ≡ is_among_numbers o ns
  holds_here o f fs h = h 0 (omega arith) ∙ ap (λ k. is_among_numbers k ns) (plus_zero o)

  holds_later : (o : ℕ) (f : Bool) (fs : List Bool) → Holds o (f ∷ fs) → Holds (suc o) fs
  holds_later o f fs h = λ k lt. h (suc k) (omega (arith, lt)) ∙ ap (λ k. is_among_numbers k ns) (sym (plus_suc o k))

  running_at : (fs : List Bool) (o : ℕ) → Holds o fs → (k : ℕ) → k ≤ length fs → get_or (running (count_below ns o) fs) k 0 ≡ count_below ns (o + k)
  running_at [] o h k le =
      ap (λ k. get_or (running (count_below ns o) []) k 0) (zero_is k le) ∙ ap (count_below ns) (sym (plus_zero o)) ∙ ap (λ k. count_below ns (o + k)) (sym (zero_is k le))
  running_at (true ∷ fs) o h zero le = ap (count_below ns) (sym (plus_zero o))
  running_at (false ∷ fs) o h zero le = ap (count_below ns) (sym (plus_zero o))
  running_at (true ∷ fs) o h (suc k) le =
      ap (λ n. get_or (running n fs) k 0) (counted o true (holds_here o true fs h))
      ∙ running_at fs (suc o) (holds_later o true fs h) k (omega (arith, le)) ∙ ap (count_below ns) (plus_suc o k)
  running_at (false ∷ fs) o h (suc k) le =
      ap (λ n. get_or (running n fs) k 0) (counted o false (holds_here o false fs h))
      ∙ running_at fs (suc o) (holds_later o false fs h) k (omega (arith, le)) ∙ ap (count_below ns) (plus_suc o k)

zero_plus : (k : ℕ) → 0 + k ≡ k
zero_plus k = omega arith

module _ (slots : List ℕ) (flags : List Bool) (are : AreSlotFlags slots flags) where
  all_hold : Holds slots 0 flags
  all_hold = λ k lt. are.same k (subst (λ n. k < n) are.len lt) ∙ ap (λ k. is_among_numbers k slots) (sym (zero_plus k))

  pub number_at : (numbers : List ℕ) → numbers ≡ running 0 flags → (k : ℕ) → k ≤ limit_above slots → number_of_slot numbers k ≡ count_below slots k
  number_at numbers e k le =
      ap (λ ns. get_or ns k 0) e ∙ running_at slots flags 0 all_hold k (subst (λ n. k ≤ n) (sym are.len) le) ∙ ap (count_below slots) (zero_plus k)

-- ---- two ways to number that agree on what occurs

module _ (number other : ℕ → ℕ) where
  abbrev Agree : List ℕ → Type 0
  Agree ks = (k : ℕ) → is_among_numbers k ks ≡ true → number k ≡ other k

  or_right : (t b : Bool) → b ≡ true → t || b ≡ true
  or_right true b e = refl
  or_right false b e = e

  home_agrees : (l : Loc) (ks : List ℕ) → Agree (with_slot_of l ks) → (home number l ≡ home other l) × Agree ks
  home_agrees (loc.Slot n) ks h = (ap loc.Slot (h n (ap (λ t. t || is_among_numbers n ks) (eq-eqb n n refl))), λ k e. h k (or_right (nat_eq n k) (is_among_numbers k ks) e))
  home_agrees (loc.Machine n) ks h = (refl, h)
  home_agrees loc.Unset ks h = (refl, h)

  spots_agree : (rs : List Reg) (ks : List ℕ) → Agree (slots_of_regs rs ks) → (spots number rs ≡ spots other rs) × Agree ks
  spots_agree [] ks h = (refl, h)
  spots_agree (r ∷ rs) ks h =
      let a = home_agrees r.loc (slots_of_regs rs ks) h in
      let b = spots_agree rs ks a.1 in
      (ap (λ l. record { loc = l; comp = r.comp } ∷ spots number rs) a.0 ∙ ap (λ ss. spot_of_register other r ∷ ss) b.0, b.1)

  pops_agree : (n : ℕ) (xs : List Line) → pops number n xs ≡ pops other n xs
  pops_agree zero xs = refl
  pops_agree (suc n) xs = ap (λ ys. bare_flow flow.PopTrap ∷ ys) (pops_agree n xs)

  line_agrees : (f : LinOp) (i : Instr) → spots number i.args ≡ spots other i.args → spots number i.results ≡ spots other i.results → line_of number f i ≡ line_of other f i
  line_agrees f i a r = ap (λ ss. record { op = f; args = ss; results = spots number i.results }) a ∙ ap (λ ss. record { op = f; args = spots other i.args; results = ss }) r

  lines_agree : (f : MachOp) (i : Instr) (xs : List Line) → spots number i.args ≡ spots other i.args → spots number i.results ≡ spots other i.results → lines_of number f i xs ≡ lines_of other f i xs
  lines_agree (mach.Op f) i xs a r = ap (λ j. j ∷ xs) (line_agrees _ i a r)
  lines_agree (mach.Mark (mark.Exit l n)) i xs a r = pops_agree n (bare_flow (flow.Exit l) ∷ xs)
  lines_agree (mach.Mark (mark.If t l)) i xs a r = ap (λ j. j ∷ xs) (line_agrees _ i a r)
  lines_agree (mach.Mark (mark.Else l m)) i xs a r = refl
  lines_agree (mach.Mark (mark.Switch ls)) i xs a r = ap (λ j. j ∷ xs) (line_agrees _ i a r)
  lines_agree (mach.Mark (mark.Case ns l m)) i xs a r = refl
  lines_agree (mach.Mark mark.Catch) i xs a r = refl
  lines_agree (mach.Mark (mark.With l m)) i xs a r = refl
  lines_agree (mach.Mark (mark.Try l)) i xs a r = ap (λ j. j ∷ xs) (line_agrees _ i a r)
  lines_agree (mach.Mark (mark.Leave l m)) i xs a r = refl
  lines_agree (mach.Mark (mark.Handler l)) i xs a r = ap (λ j. bare_flow (flow.Label l) ∷ j ∷ xs) (line_agrees _ i a r)
  lines_agree (mach.Mark (mark.End l)) i xs a r = refl

  code_agrees : (code : List Instr) → Agree (slots_of_code code) → lowered_code number code ≡ lowered_code other code
  code_agrees [] h = refl
  code_agrees (i ∷ is) h =
      let a = spots_agree i.args (slots_of_regs i.results (slots_of_code is)) h in
      let r = spots_agree i.results (slots_of_code is) a.1 in
      let xs = code_agrees is r.1 in
      ap (λ ys. cond (is_idle i.op i.args i.results) ys (lines_of number i.op i ys)) xs
      ∙ ap (λ zs. cond (is_idle i.op i.args i.results) (lowered_code other is) zs) (lines_agree i.op i (lowered_code other is) a.0 r.0)

less_or : (k n : ℕ) → k < n → k ≤ n
less_or k n lt = omega (arith, lt)

-- the table that is made of flags
pub table_of : (slots : List ℕ) (flags : List Bool) (numbers : List ℕ) → AreSlotFlags slots flags → numbers ≡ running 0 flags → IsTable slots numbers
table_of slots flags numbers are e = record { counts = λ k le. number_at slots flags are numbers e k le }

module _ (m : Mach) (numbers : List ℕ) (table : IsTable (slots_of_function m) numbers) where
  agrees : Agree (number_of_slot numbers) (slot_number m) (slots_of_function m)
  agrees = λ k e. table.counts k (less_or k (limit_above (slots_of_function m)) (among_below k (slots_of_function m) e))

  params_by : spots (number_of_slot numbers) m.params ≡ spots (slot_number m) m.params
  params_by = (spots_agree (number_of_slot numbers) (slot_number m) m.params (slots_of_code m.code) agrees).0

  code_by : lowered_code (number_of_slot numbers) m.code ≡ lowered_code (slot_number m) m.code
  code_by = code_agrees (number_of_slot numbers) (slot_number m) m.code (spots_agree (number_of_slot numbers) (slot_number m) m.params (slots_of_code m.code) agrees).1

  count_by : number_of_slot numbers (limit_above (slots_of_function m)) ≡ slot_count m
  count_by = table.counts (limit_above (slots_of_function m)) (omega arith)

  -- what is made with this table is the lowered function
  pub made_is : (name : List ℕ) (params : List Spot) (slots : ℕ) (code : List Line) → name ≡ m.name → params ≡ spots (number_of_slot numbers) m.params →
      slots ≡ number_of_slot numbers (limit_above (slots_of_function m)) → code ≡ lowered_code (number_of_slot numbers) m.code → record { name = name; params = params; result = m.result; slots = slots; code = code } ≡ lowered m
  made_is name params slots code n ps k is =
      let ps' = ps ∙ params_by in
      let k' = k ∙ count_by in
      let is' = is ∙ code_by in
      ap (λ x. record { name = x; params = params; result = m.result; slots = slots; code = code }) n
      ∙ ap (λ x. record { name = m.name; params = x; result = m.result; slots = slots; code = code }) ps'
      ∙ ap (λ x. record { name = m.name; params = spots (slot_number m) m.params; result = m.result; slots = x; code = code }) k'
      ∙ ap (λ x. record { name = m.name; params = spots (slot_number m) m.params; result = m.result; slots = slot_count m; code = x }) is'
