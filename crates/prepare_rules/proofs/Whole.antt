-- What the passes before register allocation keep together.
use Rattle.std.proofs.Common.{◌≡◌, ℕ, suc, ◌+◌, ◌*◌, ◌<◌, ◌≤◌, ⊎_elim, List, [], ◌∷◌, length, refl, sym, ap, ◌∙◌, subst, arith}
use Rattle.std.specs.List.{Contains}
use Rattle.std.proofs.Math.Nat.{le_trans}
use Rattle.comballoc_rules.specs.Combined.{combined}
use Rattle.cse_copy_rules.proofs.One.{one_propagated}
use Rattle.cse_copy_rules.proofs.Whole.{propagated_kept}
use Rattle.cse_copy_rules.specs.Propagated.{IsPropagated}
use Rattle.hoist_rules.proofs.Known.{dropped_kept, one_dropped}
use Rattle.hoist_rules.specs.Known.{IsDropped}
use Rattle.pass_rules.specs.Carried.{IsCarried}
use Rattle.pass_rules.specs.Measures.{copy_words, code_words}
use Rattle.hoist_rules.proofs.Chosen.{constants_first_kept, one_constants_first}
use Rattle.hoist_rules.specs.Chosen.{HasConstantsFirst}
use Rattle.mach_ir.specs.Formed.{WellFormed}
use Rattle.mach_ir.specs.Placed.{WellPlaced}
use Rattle.mach_ir.specs.Sizes.{Size, HasSize, OpenAtMost, operand_count}
use Rattle.mach_ir.specs.Walks.{InCode, in_args, in_results, further, IsRegister, is_param, is_colour, is_in_code, NoAddrLive}
use Rattle.mach_ir.specs.declared.reg.Reg.{Reg}
use Rattle.mach_ir.specs.declared.mach.Instr.{Instr}
use Rattle.mach_ir.specs.declared.mach.Mach.{Mach}
use Rattle.sink_rules.proofs.Chosen as sinking
use Rattle.sink_rules.proofs.Chosen.{one_sunk}
use Rattle.sink_rules.specs.Chosen.{IsSunk}
use Rattle.sink_rules.specs.Sunk as sinks
use Rattle.sink_rules.proofs.Known.{spilled_kept, one_spilled, seated_params}
use Rattle.sink_rules.specs.Known.{ParamsPlaced, IsSpilled, IsChosenKept, spilled_size}
use Rattle.split_rules.proofs.One.{one_split}
use Rattle.split_rules.proofs.Whole.{split_kept}
use Rattle.split_rules.specs.Split.{IsSplit, split_size}
use Rattle.stages.specs.declared.stage.Stage.{Stage}
use Rattle.stages.specs.declared.stage.Stage.TheVariants.{CombAlloc, Cse, Dead, Spill, Split}
use Rattle.bs_words.proofs.Lists.{none_in, in_cons}
use Rattle.prepare_rules.specs.Prepared.{IsPreparedMach, IsPreparable, IsPreparedKept}
use Rattle.prepare_rules.specs.Stages.{IsPassedTo, selects, combines, commons, drops, spills, splits}
use Rattle.cse_repeat_rules.proofs.One.{one_repeated}
use Rattle.cse_repeat_rules.proofs.Whole.{repeated_kept}
use Rattle.cse_repeat_rules.specs.Kept.{OwnOrigins}
use Rattle.cse_repeat_rules.specs.Repeated.{IsRepeated}
use Rattle.prepare_rules.proofs.Combined.{combined_carried}
use Rattle.prepare_rules.proofs.Dropped.{dropped_carried}
use Rattle.prepare_rules.proofs.Propagated.{propagated_carried}
use Rattle.prepare_rules.proofs.Repeated.{repeated_carried}
use Rattle.prepare_rules.proofs.Spilled.{spill_carried}
use Rattle.prepare_rules.proofs.Split.{split_carried}
use Rattle.mach_laws.specs.Passes.{IsPassKept, IsNoLarger}
use Rattle.mach_laws.proofs.Passes.{pass_then}
use Rattle.comballoc_rules.proofs.Whole.{combined_kept}

-- ---- a function has its own size

above_this : (a b c : ℕ) → a < suc (a + b) + c
above_this a b c = omega arith

above_that : (a b c : ℕ) → b < suc (a + b) + c
above_that a b c = omega arith

still_above : (n a b : ℕ) → n < a → n < b + a
still_above n a b lt = omega (arith, lt)

first_above : (n a b c : ℕ) → n < a → n < a + b + c
first_above n a b c lt = omega (arith, lt)

second_above : (n a b c : ℕ) → n < b → n < a + b + c
second_above n a b c lt = omega (arith, lt)

third_above : (n a b c : ℕ) → n < c → n < a + b + c
third_above n a b c lt = omega (arith, lt)

-- above the numbers and origins of registers
abbrev IsUnder : ℕ → Reg → Type 0
IsUnder k r = (r.number < k) × (r.origin < k)

abbrev limit : List Reg → ℕ
limit [] = 0
limit (r ∷ rs) = suc (r.number + r.origin) + limit rs

under : (rs : List Reg) (r : Reg) → Contains rs r → IsUnder (limit rs) r
under [] r c = absurd (none_in r c)
under (x ∷ rs) r c =
    ⊎_elim
    (λ e.
    subst (IsUnder (limit (x ∷ rs))) e (above_this x.number x.origin (limit rs), above_that x.number x.origin (limit rs)))
    (λ d.
    let h = under rs r d in
    (still_above r.number (limit rs) (suc (x.number + x.origin)) h.0, still_above r.origin (limit rs) (suc (x.number + x.origin)) h.1))
    (in_cons x r rs c)

in_first : (a b c : ℕ) (r : Reg) → IsUnder a r → IsUnder (a + b + c) r
in_first a b c r h = (first_above r.number a b c h.0, first_above r.origin a b c h.1)

in_second : (a b c : ℕ) (r : Reg) → IsUnder b r → IsUnder (a + b + c) r
in_second a b c r h = (second_above r.number a b c h.0, second_above r.origin a b c h.1)

in_third : (a b c : ℕ) (r : Reg) → IsUnder c r → IsUnder (a + b + c) r
in_third a b c r h = (third_above r.number a b c h.0, third_above r.origin a b c h.1)

abbrev code_limit : List Instr → ℕ
code_limit [] = 0
code_limit (i ∷ is) = limit i.args + limit i.results + code_limit is

code_under : (code : List Instr) (r : Reg) → InCode r code → IsUnder (code_limit code) r
code_under [] r c = elim c [ ]
code_under (i ∷ is) r (in_args c) = in_first (limit i.args) (limit i.results) (code_limit is) r (under i.args r c)
code_under (i ∷ is) r (in_results c) = in_second (limit i.args) (limit i.results) (code_limit is) r (under i.results r c)
code_under (i ∷ is) r (further c) = in_third (limit i.args) (limit i.results) (code_limit is) r (code_under is r c)

abbrev register_limit : Mach → ℕ
register_limit m = limit m.params + limit m.colours + code_limit m.code

register_under : (m : Mach) (r : Reg) → IsRegister m r → IsUnder (register_limit m) r
register_under m r (is_param c) = in_first (limit m.params) (limit m.colours) (code_limit m.code) r (under m.params r c)
register_under m r (is_colour c) = in_second (limit m.params) (limit m.colours) (code_limit m.code) r (under m.colours r c)
register_under m r (is_in_code c) = in_third (limit m.params) (limit m.colours) (code_limit m.code) r (code_under m.code r c)

abbrev own_size : Mach → Size
own_size m =
    record {
      instrs = length m.code;
      operands = operand_count m.code;
      registers = register_limit m;
      labels = m.labels;
    }

le_self : (a : ℕ) → a ≤ a
le_self a = omega arith

has_own_size : (m : Mach) → HasSize m (own_size m)
has_own_size m =
    record {
      instrs = le_self (length m.code);
      operands = le_self (operand_count m.code);
      numbers = λ r i. (register_under m r i).0;
      origins = λ r i. (register_under m r i).1;
      labels = le_self m.labels;
    }

-- ---- carrying goes on

words_then : (a b c more others : ℕ) → b ≤ a + more → c ≤ b + others → c ≤ a + (more + others)
words_then a b c more others x y = omega (arith, x, y)

words_within : (a b more most : ℕ) → b ≤ a + more → more ≤ most → b ≤ a + most
words_within a b more most x y = omega (arith, x, y)

pub carried_then : {more others : ℕ} {p q r : Mach} → IsCarried more p q → IsCarried others q r → IsCarried (more + others) p r
carried_then {more} {others} {p} {q} {r} one two =
    record {
      words = words_then (code_words p.code) (code_words q.code) (code_words r.code) more others one.words two.words;
      points = le_trans two.points one.points;
      operands = le_trans two.operands one.operands;
      exits = le_trans two.exits one.exits;
      tries = λ most h. two.tries most (one.tries most h);
      offsets = λ h. two.offsets (one.offsets h);
      ends = λ h. two.ends (one.ends h);
      colours_low = λ h. two.colours_low (one.colours_low h);
    }

pub carried_within : {more most : ℕ} {p q : Mach} → more ≤ most → IsCarried more p q → IsCarried most p q
carried_within {more} {most} {p} {q} le c =
    record {
      words = words_within (code_words p.code) (code_words q.code) more most c.words le;
      points = c.points;
      operands = c.operands;
      exits = c.exits;
      tries = c.tries;
      offsets = c.offsets;
      ends = c.ends;
      colours_low = c.colours_low;
    }

-- ---- stages
--
-- What each pass gives: it adds so many words at the most, and the bounds on a function grow so.
pub record IsStage (more : ℕ) (grown : Size → Size) (m q : Mach) : Type 0 where
  pub pass : IsPassKept m q
  pub params : q.params ≡ m.params
  pub size : (s : Size) → HasSize m s → HasSize q (grown s)
  pub carried : IsCarried more m q

pub stage_then : {more others : ℕ} {grown wider : Size → Size} {p q r : Mach} → IsStage more grown p q → IsStage others wider q r →
    IsStage (more + others) (λ s. wider (grown s)) p r
stage_then {grown = grown} one two =
    record {
      pass = pass_then one.pass two.pass;
      params = two.params ∙ one.params;
      size = λ s h. two.size (grown s) (one.size s h);
      carried = carried_then one.carried two.carried;
    }

-- a pass that does not enlarge the function
abbrev pub Smaller : Mach → Mach → Type 0
Smaller m q = IsStage 0 (λ (s : Size). s) m q

-- where it comes to a size, it is within each greater one
pub within_size : {m : Mach} {s t : Size} → HasSize m s → s.instrs ≤ t.instrs → s.operands ≤ t.operands → s.registers ≡ t.registers → s.labels ≡ t.labels →
    HasSize m t
within_size {m} {s} {t} h instrs operands registers labels =
    record {
      instrs = le_trans h.instrs instrs;
      operands = le_trans h.operands operands;
      numbers = λ r i. subst (λ n. r.number < n) registers (h.numbers r i);
      origins = λ r i. subst (λ n. r.origin < n) registers (h.origins r i);
      labels = subst (λ n. m.labels ≤ n) labels h.labels;
    }

pub fewer_operands : {more : ℕ} {m q : Mach} → IsStage more (λ (s : Size). s) m q → operand_count q.code ≤ operand_count m.code
fewer_operands {m = m} stage = (stage.size (own_size m) (has_own_size m)).operands

-- a move to itself for each register at the most
abbrev pub sunk_size : Size → Size
sunk_size s = record s { instrs = s.instrs + s.registers; operands = s.operands + 2 * s.registers }

more_than : (a n r : ℕ) → n ≤ r → a + n ≤ a + r
more_than a n r le = omega (arith, le)

twice_more : (a n r : ℕ) → n ≤ r → a + 2 * n ≤ a + 2 * r
twice_more a n r le = omega (arith, le)

sink_stage : (m q : Mach) → WellFormed m → NoAddrLive m → (made : IsSunk m q) → IsStage (copy_words * length made.plan.registers) sunk_size m q
sink_stage m q formed no_addr s =
    let k = sinking.kept m q formed no_addr s in
    let moved = length s.plan.registers in
    record {
      pass = k.pass;
      params = k.params;
      size = λ z h.
          within_size (k.size z h) (more_than z.instrs moved z.registers (k.few z h)) (twice_more z.operands moved z.registers (k.few z h)) refl refl;
      carried = k.carried;
    }

spill_stage : (m q : Mach) → WellFormed m → WellPlaced m → ParamsPlaced m → IsSpilled m q →
    IsStage (copy_words * operand_count m.code) spilled_size m q
spill_stage m q formed placed params s =
    let k : IsChosenKept m q s.plan = spilled_kept m q formed placed params s in
    record {
      pass = (k.kept).pass;
      params = ap (λ (q : Mach). q.params) s.is;
      size = k.size;
      carried = spill_carried m q formed s k;
    }

split_stage : (m q : Mach) (parameters : ℕ) → length m.params ≡ parameters → WellFormed m → WellPlaced m → IsSplit m q →
    IsStage 0 (split_size parameters) m q
split_stage m q parameters e formed placed s =
    let k = split_kept m q formed placed s in
    record {
      pass = k.pass;
      params = ap (λ (q : Mach). q.params) s.is;
      size = λ z h. subst (λ n. HasSize q (split_size n z)) e (k.size z h);
      carried = split_carried formed placed s;
    }

-- ---- the passes

all_words : (n r a b : ℕ) → n ≤ r → a ≤ b + 2 * n → ((0 + copy_words * n) + copy_words * a) + 0 ≤ copy_words * (b + 3 * r)
all_words n r a b few le = by n r a b few le
  where
    by : (n r a b : ℕ) → n ≤ r → a ≤ b + 2 * n → ((0 + 6 * n) + 6 * a) + 0 ≤ 6 * (b + 3 * r)
    by n r a b few le = omega (arith, few, le)

-- What the passes before late stores make of a function is no larger.
pub record IsCut (m q : Mach) : Type 0 where
  pub pass : IsPassKept m q
  pub no_larger : IsNoLarger m q
  pub carried : IsCarried 0 m q

pub cut_stage : {m q : Mach} → IsCut m q → Smaller m q
cut_stage cut =
    record { pass = cut.pass; params = (cut.no_larger).params; size = (cut.no_larger).size; carried = cut.carried }

cut_then : {p q r : Mach} → IsCut p q → IsPassKept q r → IsNoLarger q r → IsCarried 0 q r → IsCut p r
cut_then cut pass smaller carried =
    record {
      pass = pass_then cut.pass pass;
      no_larger = record {
        params = smaller.params ∙ (cut.no_larger).params;
        registers = λ r i. (cut.no_larger).registers r (smaller.registers r i);
        size = λ s h. smaller.size s ((cut.no_larger).size s h);
      };
      carried = carried_then cut.carried carried;
    }

module _ {m : Mach} (is : IsPreparable m) where
  pub cut_placed : {q : Mach} → IsCut m q → WellPlaced q
  cut_placed cut = (cut.pass).placed is.placed

  -- no register is made from another
  pub cut_own : {q : Mach} → IsCut m q → OwnOrigins q
  cut_own cut r i = (is.combinable).origins r ((cut.no_larger).registers r i)

  pub combine_cut : {q : Mach} → q ≡ combined m → IsCut m q
  combine_cut e =
      let k = combined_kept m is.combinable in
      subst (IsCut m) (sym e)
      (record { pass = k.pass; no_larger = k.no_larger; carried = combined_carried m (is.combinable).formed })

  pub propagate_cut : {p q : Mach} → IsCut m p → IsPropagated p q → IsCut m q
  propagate_cut {p} {q} cut s =
      let k = propagated_kept p q (cut.pass).formed (cut_placed cut) (cut_own cut) s in
      cut_then cut k.pass k.no_larger (propagated_carried k s)

  pub repeat_cut : {p q : Mach} → IsCut m p → IsRepeated p q → IsCut m q
  repeat_cut {p} {q} cut s =
      let k = repeated_kept p q (cut.pass).formed (cut_placed cut) (cut_own cut) s in
      cut_then cut k.pass k.no_larger (repeated_carried k s)

  pub drop_cut : {p q : Mach} → IsCut m p → IsDropped p q → IsCut m q
  drop_cut {p} {q} cut s =
      let k = dropped_kept p q (cut.pass).formed (cut_placed cut) s in
      cut_then cut k.pass k.no_larger (dropped_carried (cut.pass).formed s)

  pub hoist_cut : {p q : Mach} → IsCut m p → HasConstantsFirst p q → IsCut m q
  hoist_cut {p} {q} cut s =
      let k = constants_first_kept p q (cut.pass).formed s in
      cut_then cut k.pass k.no_larger k.carried

  -- so it is up to the stages without repeats and without dead code
  pub combined_cut : {q : Mach} → IsPassedTo m CombAlloc q → IsCut m q
  combined_cut (combines e) = combine_cut e

  pub repeated_cut : {q : Mach} → IsPassedTo m Cse q → IsCut m q
  repeated_cut (commons before a b c d) = repeat_cut (propagate_cut (repeat_cut (propagate_cut (combined_cut before) a) b) c) d

  pub dropped_cut : {q : Mach} → IsPassedTo m Dead q → IsCut m q
  dropped_cut (drops before a) = drop_cut (repeated_cut before) a

-- and late stores
module _ {m hoisted q : Mach} (is : IsPreparable m) (cut : IsCut m hoisted) (made : IsSunk hoisted q) where
  no_addr_left : NoAddrLive hoisted
  no_addr_left = ((cut.pass).keeps).addrs is.no_addr

  abbrev pub moves : ℕ
  moves = length made.plan.registers

  pub sunk_stage : IsStage (0 + copy_words * moves) sunk_size m q
  sunk_stage = stage_then (cut_stage cut) (sink_stage hoisted q (cut.pass).formed no_addr_left made)

  sunk : sinks.IsSinkKept hoisted q made.plan
  sunk = sinking.kept hoisted q (cut.pass).formed no_addr_left made

  -- a move for each open register at the most
  pub few_moves : (k : ℕ) → OpenAtMost m k → moves ≤ k
  few_moves k h = sunk.few_open k (record { numbers = h.numbers; few = h.few; all = λ r i e. h.all r ((cut.no_larger).registers r i) e })

  -- each has an operand and a result
  pub more_operands : operand_count q.code ≤ operand_count m.code + 2 * moves
  more_operands =
      grows (operand_count m.code) (operand_count hoisted.code) (operand_count q.code) moves (fewer_operands (cut_stage cut))
      (sunk.size (own_size hoisted) (has_own_size hoisted)).operands
    where
      grows : (a b c n : ℕ) → b ≤ a → c ≤ b + 2 * n → c ≤ a + 2 * n
      grows a b c n p q = omega (arith, p, q)

  -- and spilling after them
  pub slots_stage : {r : Mach} → IsSpilled q r →
      IsStage (0 + copy_words * moves + copy_words * operand_count q.code) (λ s. spilled_size (sunk_size s)) m r
  slots_stage {r} spilled =
      stage_then sunk_stage
      (spill_stage q r (sunk_stage.pass).formed ((sunk_stage.pass).placed is.placed) (seated_params q ((sunk_stage.pass).seated is.seated)) spilled)

-- ---- all of them

-- a prepared function is passed to the last of these stages, and what it is made of to those before
module _ {m q : Mach} (made : IsPreparedMach m q) where
  pub repeated_passed : IsPassedTo m Cse made.common_again
  repeated_passed = commons (combines refl) made.is_propagated made.is_common made.is_propagated_again made.is_common_again

  pub dropped_passed : IsPassedTo m Dead made.dropped
  dropped_passed = drops repeated_passed made.is_dropped

  pub spilled_passed : IsPassedTo m Spill made.spilled
  spilled_passed = spills dropped_passed made.has_constants_first made.is_sunk made.is_spilled

  pub passed : IsPassedTo m Split q
  passed = splits spilled_passed made.is_split

-- and what is passed there is prepared
pub prepared : {m q : Mach} → IsPassedTo m Split q → IsPreparedMach m q
prepared (splits {start = spilled} (spills {start = dropped} {a = hoisted} {b = sunk} (drops {start = repeated} (commons {a = a} {b = b} {c = c} (combines e) one two three four) five) six seven eight) nine) =
    record {
      propagated = a;
      is_propagated = subst (λ (p : Mach). IsPropagated p a) e one;
      common = b;
      is_common = two;
      propagated_again = c;
      is_propagated_again = three;
      common_again = repeated;
      is_common_again = four;
      dropped = dropped;
      is_dropped = five;
      hoisted = hoisted;
      has_constants_first = six;
      sunk = sunk;
      is_sunk = seven;
      spilled = spilled;
      is_spilled = eight;
      is_split = nine;
    }

-- what is passed to the stages before spilling and before splitting
pub hoisted_cut : {m : Mach} → IsPreparable m → (q : Mach) (made : IsPreparedMach m q) → IsCut m made.hoisted
hoisted_cut is q made =
    hoist_cut is
    (drop_cut is
    (repeat_cut is
    (propagate_cut is (repeat_cut is (propagate_cut is (combine_cut is refl) made.is_propagated) made.is_common) made.is_propagated_again) made.is_common_again)
    made.is_dropped)
    made.has_constants_first

pub prepared_kept : (m q : Mach) → IsPreparable m → IsPreparedMach m q → IsPreparedKept m q
prepared_kept m q is made =
    let cut = hoisted_cut is q made in
    let slots = slots_stage is cut made.is_sunk made.is_spilled in
    let all = stage_then slots
    (split_stage made.spilled q (length m.params) (ap length slots.params) (slots.pass).formed ((slots.pass).placed is.placed) made.is_split) in
    record {
      keeps = (all.pass).keeps;
      formed = (all.pass).formed;
      placed = (all.pass).placed is.placed;
      seated = (all.pass).seated is.seated;
      size = all.size;
      carried = λ k h.
          carried_within
          (all_words (moves is cut made.is_sunk) k (operand_count (made.sunk).code) (operand_count m.code) (few_moves is cut made.is_sunk k h)
          (more_operands is cut made.is_sunk)) all.carried;
    }

-- ---- one result

-- where a pass makes one function, it does so of functions that are one
one_made : (P : Mach → Mach → Type 0) → ((m q k : Mach) → P m q → P m k → q ≡ k) → {p o q k : Mach} → p ≡ o → P p q → P o k → q ≡ k
one_made P one {p} {o} {q} {k} same a b = one o q k (subst (λ (x : Mach). P x q) same a) b

-- The passes up to a stage make one function of each.
pub one_passed : {m q k : Mach} {stage : Stage} → IsPassedTo m stage q → IsPassedTo m stage k → q ≡ k
one_passed (selects a) (selects b) = a ∙ sym b
one_passed (combines a) (combines b) = a ∙ sym b
one_passed (commons x a b c d) (commons y e f g h) =
    one_made IsRepeated one_repeated
    (one_made IsPropagated one_propagated
    (one_made IsRepeated one_repeated (one_made IsPropagated one_propagated (one_passed x y) a e) b f) c g) d h
one_passed (drops x a) (drops y b) = one_made IsDropped one_dropped (one_passed x y) a b
one_passed (spills x a b c) (spills y d e f) =
    one_made IsSpilled one_spilled (one_made IsSunk one_sunk (one_made HasConstantsFirst one_constants_first (one_passed x y) a d) b e) c f
one_passed (splits x a) (splits y b) = one_made IsSplit one_split (one_passed x y) a b

pub one_prepared : (m q k : Mach) → IsPreparedMach m q → IsPreparedMach m k → q ≡ k
one_prepared m q k a b = one_passed (passed a) (passed b)
