-- There are numbers for the fresh registers.
use Rattle.std.proofs.Common.{◌≡◌, ℕ, ◌+◌, ◌<◌, ◌≤◌, Bool, true, List, ◌∷◌, length, drop, get_or, ◌++◌, append_assoc, sym, ap, ◌∙◌, arith}
use Rattle.std.proofs.lemmas.List.{drop_more}
use Rattle.mach_ir.specs.Placed.{Colouring}
use Rattle.mach_ir.specs.Sizes.{HasRoom, number_limit}
use Rattle.mach_ir.specs.Walks.{IsRegister}
use Rattle.mach_ir.specs.declared.reg.Reg.{Reg}
use Rattle.mach_ir.specs.declared.mach.Instr.{Instr}
use Rattle.mach_ir.specs.declared.mach.Mach.{Mach}
use Rattle.pass_rules.specs.Measures.{other_operands}
use Rattle.colouring_rules.specs.Places.{placed_code}
use Rattle.reload_rules.proofs.Copies.{few_past, placed_others}
use Rattle.reload_rules.proofs.Numbers.{after_true, past_rises}
use Rattle.reload_rules.specs.Kept.{with_copies}
use Rattle.reload_rules.specs.Reloaded.{writes_registers, reads_registers, is_renewed, next_reload_number, number_past, results_from, past_instr, reloaded_instr, reloaded_code, to_slots, in_slots}

-- from the first on
pub first_fits : (m slotted : Mach) (place : Colouring) (free : ℕ) → slotted ≡ in_slots place m → HasRoom (with_copies (other_operands m.code)) m →
    ((b : ℕ) → ((r : Reg) → IsRegister m r → r.number < b) → free ≤ b) → free + other_operands slotted.code < number_limit
first_fits m slotted place free is room least =
    let low = least (room.size).registers (room.within).numbers in
    let most = (room.small).registers in
    let same = placed_others (to_slots place) m.code in
    let here : other_operands slotted.code ≡ other_operands (placed_code (to_slots place) m.code) =
    ap (λ (q : Mach). other_operands q.code) is in
    omega (arith, low, most, same, here)

-- what is made so far and of the rest is all, past an instruction too
pub code_lasts : (n next : ℕ) (made more whole all : List Instr) (i : Instr) (is : List Instr) → all ≡ i ∷ is → next ≡ past_instr n i →
    more ≡ made ++ reloaded_instr n i → made ++ reloaded_code n all ≡ whole → more ++ reloaded_code next is ≡ whole
code_lasts n next made more whole all i is e past pushed so_far =
    ap (λ xs. xs ++ reloaded_code next is) pushed ∙ ap (λ k. (made ++ reloaded_instr n i) ++ reloaded_code k is) past
    ∙ append_assoc made (reloaded_instr n i) (reloaded_code (past_instr n i) is) ∙ sym (ap (λ xs. made ++ reloaded_code n xs) e) ∙ so_far

-- past an instruction
pub past_lasts : (n next top : ℕ) (all : List Instr) (i : Instr) (is : List Instr) → all ≡ i ∷ is → next ≡ past_instr n i →
    n + other_operands all ≤ top → next + other_operands is ≤ top
past_lasts n next top all i is e past le =
    let few = few_past n i in
    let same = ap other_operands e in
    omega (arith, few, same, past, le)

pub past_fits : (n top : ℕ) (all : List Instr) (i : Instr) (is : List Instr) → all ≡ i ∷ is → n + other_operands all ≤ top → top < number_limit →
    past_instr n i < number_limit
past_fits n top all i is e le most =
    let few = few_past n i in
    let same = ap other_operands e in
    omega (arith, few, same, le, most)

-- past a register that is renewed
pub next_fits : (b : Bool) (n from : ℕ) (regs : List Reg) (k : ℕ) (d : Reg) → k < length regs → is_renewed b (get_or regs k d) ≡ true →
    number_past b n (drop k regs) ≡ number_past b from regs → number_past b from regs < number_limit → n + 1 < number_limit
next_fits b n from regs k d lt renew same most =
    let r : Reg = get_or regs k d in
    let here : number_past b n (drop k regs) ≡ number_past b n (r ∷ drop (k + 1) regs) = ap (number_past b n) (drop_more regs k d lt) in
    let after = after_true b n r renew in
    let rises = past_rises b (next_reload_number b n r) (drop (k + 1) regs) in
    omega (arith, here, after, rises, same, most)

-- past the operands of an instruction
pub operands_fit : (n : ℕ) (i : Instr) → past_instr n i < number_limit → results_from n i < number_limit
operands_fit n i most = let rises = past_rises (writes_registers i.op) (results_from n i) i.results in omega (arith, rises, most)

-- past the operands of an instruction, as its parts are at hand, and past its results
pub args_fit : (n : ℕ) (i : Instr) (b : Bool) (args : List Reg) → b ≡ reads_registers i.op → args ≡ i.args → past_instr n i < number_limit →
    number_past b n args < number_limit
args_fit n i b args reads are most =
    let less = operands_fit n i most in
    let same = ap (λ t. number_past t n args) reads ∙ ap (number_past (reads_registers i.op) n) are in
    omega (arith, less, same)

pub results_fit : (n second : ℕ) (i : Instr) (b w : Bool) (args results : List Reg) → b ≡ reads_registers i.op → w ≡ writes_registers i.op →
    args ≡ i.args → results ≡ i.results → second ≡ number_past b n args → past_instr n i < number_limit → number_past w second results < number_limit
results_fit n second i b w args results reads writes are also from most =
    let first : second ≡ results_from n i = from ∙ ap (λ t. number_past t n args) reads ∙ ap (number_past (reads_registers i.op) n) are in
    let same = ap (λ t. number_past t second results) writes ∙ ap (number_past (writes_registers i.op) second) also
    ∙ ap (λ x. number_past (writes_registers i.op) x i.results) first in
    omega (arith, same, most)
