-- The code of a function with its stores and reloads, made from its end.
use Rattle.std.proofs.Common.{◌≡◌, ℕ, ◌+◌, ◌-◌, ◌*◌, ◌<◌, ◌≤◌, List, [], ◌∷◌, ◌++◌, length, sym, ap, ◌∙◌, subst, append_assoc, arith}
use Rattle.std.proofs.lemmas.List.{append-nil, length-append}
use Rattle.liveness.proofs.Bounds.{members}
use Rattle.liveness.proofs.Counting.{countable_of}
use Rattle.mach_ir.specs.Sizes.{HasRoom, IsCountable, number_limit}
use Rattle.mach_ir.specs.Walks.{in_args, in_results, further, IsRegister, is_in_code}
use Rattle.mach_ir.specs.declared.reg.Reg.{Reg}
use Rattle.mach_ir.specs.declared.mach.Instr.{Instr}
use Rattle.mach_ir.specs.declared.mach.Mach.{Mach}
use Rattle.spill.specs.Copies.{HaveSlots, CodeHasSlots, instr_with_copies, spilled_code}
use Rattle.spill_rules.specs.Chosen.{spilled_size}
use Rattle.spill.specs.declared.tables.Tables.{Tables}

-- what is left of the code, and what has been made of the rest
pub record Copying (t : Tables) (code items made : List Instr) : Type 0 where
  pub done : List Instr
  pub whole : items ++ done ≡ code
  pub made_so : made ≡ spilled_code t (length code) done

-- what is left of a code has slots, as the code has
slots_before : (free : ℕ) (rest : List Instr) (i : Instr) (done : List Instr) → CodeHasSlots free (rest ++ i ∷ done) →
    HaveSlots free i.args × HaveSlots free i.results
slots_before free [] i done all = (
  members (λ (r : Reg). free + r.number < number_limit) i.args (λ r c. all r (in_args c)),
  members (λ (r : Reg). free + r.number < number_limit) i.results (λ r c. all r (in_results c)),
)
slots_before free (j ∷ rest) i done all = slots_before free rest i done (λ r c. all r (further c))

-- so has the last instruction
pub last_slots : (t : Tables) (code items rest : List Instr) (i : Instr) (made : List Instr) → CodeHasSlots t.free code →
    items ≡ rest ++ i ∷ [] → Copying t code items made → HaveSlots t.free i.args × HaveSlots t.free i.results
last_slots t code items rest i made all popped c =
    slots_before t.free rest i c.done
    (subst (CodeHasSlots t.free) (sym (sym (append_assoc rest (i ∷ []) c.done) ∙ ap (λ xs. xs ++ c.done) (sym popped) ∙ c.whole)) all)

-- there is room for the slots of all registers of a function
pub slots_fit : (m : Mach) (free : ℕ) → ((b : ℕ) → ((r : Reg) → IsRegister m r → r.number < b) → free ≤ b) → HasRoom spilled_size m →
    CodeHasSlots free m.code
slots_fit m free least room r c =
    by free r.number room.size.registers number_limit (least room.size.registers room.within.numbers)
    (room.within.numbers r (is_in_code c)) room.small.registers
  where
    by : (f n k b : ℕ) → f ≤ k → n < k → 2 * k < b → f + n < b
    by f n k b low lt small = omega (arith, low, lt, small)

pub countable : (m : Mach) → HasRoom spilled_size m → IsCountable m
countable m room = countable_of spilled_size m (λ s. omega arith) (λ s. omega arith) (λ s. omega arith) (λ s. omega arith) room

pub copying_begun : (t : Tables) (code items made : List Instr) → items ≡ code → made ≡ [] → Copying t code items made
copying_begun t code items made e h = record { done = []; whole = append-nil items ∙ e; made_so = h }

pub copying_more : (t : Tables) (code items rest : List Instr) (i : Instr) (place : ℕ) (made new : List Instr) → items ≡ rest ++ i ∷ [] →
    place ≡ length rest → Copying t code items made → new ≡ instr_with_copies t place i ++ made → Copying t code rest new
copying_more t code items rest i place made new popped at c e =
    record {
      done = i ∷ c.done;
      whole = sym (append_assoc rest (i ∷ []) c.done) ∙ ap (λ xs. xs ++ c.done) (sym popped) ∙ c.whole;
      made_so = e ∙ ap (λ xs. instr_with_copies t place i ++ xs) c.made_so
          ∙ ap (λ p. instr_with_copies t p i ++ spilled_code t (length code) c.done) (at ∙ place_is);
    }
  where
    all : length items + length c.done ≡ length code
    all = sym (length-append items c.done) ∙ ap length c.whole

    some : length items ≡ length rest + 1
    some = ap length popped ∙ length-append rest (i ∷ [])

    place_is : length rest ≡ length code - 1 - length c.done
    place_is = let a = all in let b = some in omega (arith, a, b)

pub copying_done : (t : Tables) (code items made all : List Instr) → Copying t code items made → items ≡ [] → all ≡ made →
    all ≡ spilled_code t (length code) code
copying_done t code items made all c none e =
    e ∙ c.made_so ∙ ap (spilled_code t (length code)) (ap (λ xs. xs ++ c.done) (sym none) ∙ c.whole)
