-- At most one copy, and one register, is made for each operand and result of another instruction than a copy.
use Rattle.std.proofs.Common.{◌≡◌, ℕ, suc, ◌+◌, ◌*◌, ◌≤◌, Bool, true, false, cond, List, [], ◌∷◌, length, refl, ap, arith}
use Rattle.std.proofs.lemmas.List.{length-append, length-map}
use Rattle.mach_ir.specs.Sizes.{operand_count}
use Rattle.mach_ir.specs.declared.op.CopyKind.TheVariants as copy
use Rattle.mach_ir.specs.declared.op.Op.TheVariants as op
use Rattle.mach_ir.specs.declared.op.Pure.TheVariants as pure
use Rattle.mach_ir.specs.declared.reg.Reg.{Reg}
use Rattle.mach_ir.specs.declared.mach.Mark.TheVariants as mark
use Rattle.mach_ir.specs.declared.mach.MachOp.{MachOp}
use Rattle.mach_ir.specs.declared.mach.MachOp.TheVariants as mach
use Rattle.mach_ir.specs.declared.mach.Instr.{Instr}
use Rattle.mach_laws.specs.Expand.{expand}
use Rattle.mach_laws.proofs.Grows.{held, operands_append}
use Rattle.pass_rules.specs.Measures.{operands_with, other_operands}
use Rattle.colouring_rules.specs.Places.{LocationAssignment, located_register, all_placed, placed_code}
use Rattle.spill_rules.specs.Spilled.{copy_instruction}
use Rattle.reload_rules.specs.Reloaded.{reads_registers, writes_registers, is_renewed, fresh_stand_in, next_reload_number, number_past, renewed, reloads, spills, results_from, past_instr, renewed_instr, reloaded_instr}
use Rattle.reload_rules.proofs.Numbers.{after_few}
use Rattle.reload_rules.proofs.Text.{laid_instr}

-- ---- of these registers

-- how many may be renewed
abbrev pub most : Bool → List Reg → ℕ
most true rs = length rs
most false rs = 0

most_then : (b : Bool) (r : Reg) (rs : List Reg) → most b (r ∷ rs) ≡ cond b 1 0 + most b rs
most_then true r rs = omega arith
most_then false r rs = omega arith

-- a register that is not renewed leaves no trace
after_most : (b : Bool) (n : ℕ) (r : Reg) → next_reload_number b n r ≤ n + cond b 1 0
after_most true n r = let x = after_few true n r in omega (arith, x)
after_most false n r = omega arith

pub past_most : (b : Bool) (n : ℕ) (rs : List Reg) → number_past b n rs ≤ n + most b rs
past_most b n [] = omega arith
past_most b n (r ∷ rs) =
    let x = past_most b (next_reload_number b n r) rs in
    let y = after_most b n r in
    let z = most_then b r rs in
    omega (arith, x, y, z)

pub same_length : (b : Bool) (n : ℕ) (rs : List Reg) → length (renewed b n rs) ≡ length rs
same_length b n [] = refl
same_length b n (r ∷ rs) = ap suc (same_length b (next_reload_number b n r) rs)

few_reloads : (b : Bool) (n : ℕ) (rs : List Reg) → (length (reloads b n rs) ≤ most b rs) × (operand_count (reloads b n rs) ≤ 2 * most b rs)
few_reloads false n [] = (omega arith, omega arith)
few_reloads false n (r ∷ rs) = few_reloads false n rs
few_reloads true n [] = (omega arith, omega arith)
few_reloads true n (r ∷ rs) = by (is_renewed true r) (few_reloads true (suc n) rs) (few_reloads true n rs)
  where
    by : (t : Bool) → (length (reloads true (suc n) rs) ≤ length rs) × (operand_count (reloads true (suc n) rs) ≤ 2 * length rs) →
        (length (reloads true n rs) ≤ length rs) × (operand_count (reloads true n rs) ≤ 2 * length rs) →
        (length (cond t (copy_instruction copy.Reload r (fresh_stand_in n r) ∷ reloads true (suc n) rs) (reloads true n rs)) ≤ length (r ∷ rs))
        × (operand_count (cond t (copy_instruction copy.Reload r (fresh_stand_in n r) ∷ reloads true (suc n) rs) (reloads true n rs)) ≤ 2 * length (r ∷ rs))
    by true h g = let x = h.0 in let y = h.1 in (omega (arith, x), omega (arith, y))
    by false h g = let x = g.0 in let y = g.1 in (omega (arith, x), omega (arith, y))

few_spills : (b : Bool) (n : ℕ) (rs : List Reg) → (length (spills b n rs) ≤ most b rs) × (operand_count (spills b n rs) ≤ 2 * most b rs)
few_spills false n [] = (omega arith, omega arith)
few_spills false n (r ∷ rs) = few_spills false n rs
few_spills true n [] = (omega arith, omega arith)
few_spills true n (r ∷ rs) = by (is_renewed true r) (few_spills true (suc n) rs) (few_spills true n rs)
  where
    by : (t : Bool) → (length (spills true (suc n) rs) ≤ length rs) × (operand_count (spills true (suc n) rs) ≤ 2 * length rs) →
        (length (spills true n rs) ≤ length rs) × (operand_count (spills true n rs) ≤ 2 * length rs) →
        (length (cond t (copy_instruction copy.Spill (fresh_stand_in n r) r ∷ spills true (suc n) rs) (spills true n rs)) ≤ length (r ∷ rs))
        × (operand_count (cond t (copy_instruction copy.Spill (fresh_stand_in n r) r ∷ spills true (suc n) rs) (spills true n rs)) ≤ 2 * length (r ∷ rs))
    by true h g = let x = h.0 in let y = h.1 in (omega (arith, x), omega (arith, y))
    by false h g = let x = g.0 in let y = g.1 in (omega (arith, x), omega (arith, y))

-- ---- of an instruction

either_few : (f : MachOp) (args results : List Reg) →
    most (reads_registers f) args + most (writes_registers f) results ≤ operands_with f args results
either_few (mach.Op (op.Pure (pure.Copy kind))) args results = omega arith
either_few (mach.Op (op.Pure (pure.Constant w))) args results = omega arith
either_few (mach.Op (op.Pure (pure.Symbol name))) args results = omega arith
either_few (mach.Op (op.Pure (pure.Operator f right))) args results = omega arith
either_few (mach.Op (op.Access f)) args results = omega arith
either_few (mach.Op (op.Calling f)) args results = omega arith
either_few (mach.Op (op.Leaving f)) args results = omega arith
either_few (mach.Mark (mark.Exit l n)) args results = omega arith
either_few (mach.Mark (mark.If test l)) args results = omega arith
either_few (mach.Mark (mark.Else l end)) args results = omega arith
either_few (mach.Mark (mark.Switch labels)) args results = omega arith
either_few (mach.Mark (mark.Case indexes l end)) args results = omega arith
either_few (mach.Mark mark.Catch) args results = omega arith
either_few (mach.Mark (mark.With l end)) args results = omega arith
either_few (mach.Mark (mark.Try l)) args results = omega arith
either_few (mach.Mark (mark.Leave l end)) args results = omega arith
either_few (mach.Mark (mark.Handler l)) args results = omega arith
either_few (mach.Mark (mark.End l)) args results = omega arith

pub few_past : (n : ℕ) (i : Instr) → past_instr n i ≤ n + operands_with i.op i.args i.results
few_past n i =
    let x = past_most (reads_registers i.op) n i.args in
    let y = past_most (writes_registers i.op) (results_from n i) i.results in
    let z = either_few i.op i.args i.results in
    omega (arith, x, y, z)

few_instrs : (n : ℕ) (i : Instr) → length (reloaded_instr n i) ≤ suc (operands_with i.op i.args i.results)
few_instrs n i =
    let a = (few_reloads (reads_registers i.op) n i.args).0 in
    let b = (few_spills (writes_registers i.op) (results_from n i) i.results).0 in
    let z = length-append (reloads (reads_registers i.op) n i.args) (renewed_instr n i ∷ spills (writes_registers i.op) (results_from n i) i.results) in
    let w = either_few i.op i.args i.results in
    omega (arith, a, b, z, w)

few_operands : (n : ℕ) (i : Instr) → operand_count (reloaded_instr n i) ≤ held i + 2 * operands_with i.op i.args i.results
few_operands n i =
    let a = (few_reloads (reads_registers i.op) n i.args).1 in
    let b = (few_spills (writes_registers i.op) (results_from n i) i.results).1 in
    let x = same_length (reads_registers i.op) n i.args in
    let y = same_length (writes_registers i.op) (results_from n i) i.results in
    let z = operands_append (reloads (reads_registers i.op) n i.args) (renewed_instr n i ∷ spills (writes_registers i.op) (results_from n i) i.results) in
    let w = either_few i.op i.args i.results in
    omega (arith, a, b, x, y, z, w)

-- ---- of a code, by the numbers from which its instructions are given fresh ones

module _ (s : ℕ → ℕ) where
  pub code_instrs : (code : List Instr) → length (expand (laid_instr s) code) ≤ length code + other_operands code
  code_instrs [] = omega arith
  code_instrs (i ∷ is) =
      let here = few_instrs (s (length is)) i in
      let rest = code_instrs is in
      let both = length-append (reloaded_instr (s (length is)) i) (expand (laid_instr s) is) in
      omega (arith, here, rest, both)

  pub code_operands : (code : List Instr) → operand_count (expand (laid_instr s) code) ≤ operand_count code + 2 * other_operands code
  code_operands [] = omega arith
  code_operands (i ∷ is) =
      let here = few_operands (s (length is)) i in
      let rest = code_operands is in
      let both = operands_append (reloaded_instr (s (length is)) i) (expand (laid_instr s) is) in
      omega (arith, here, rest, both)

-- ---- wherever registers are

same_with : (f : MachOp) (args results us rs : List Reg) → length us ≡ length args → length rs ≡ length results →
    operands_with f us rs ≡ operands_with f args results
same_with (mach.Op (op.Pure (pure.Copy kind))) args results us rs a r = refl
same_with (mach.Op (op.Pure (pure.Constant w))) args results us rs a r = omega (arith, a, r)
same_with (mach.Op (op.Pure (pure.Symbol name))) args results us rs a r = omega (arith, a, r)
same_with (mach.Op (op.Pure (pure.Operator f right))) args results us rs a r = omega (arith, a, r)
same_with (mach.Op (op.Access f)) args results us rs a r = omega (arith, a, r)
same_with (mach.Op (op.Calling f)) args results us rs a r = omega (arith, a, r)
same_with (mach.Op (op.Leaving f)) args results us rs a r = omega (arith, a, r)
same_with (mach.Mark f) args results us rs a r = omega (arith, a, r)

pub placed_others : (place : LocationAssignment) (code : List Instr) → other_operands (placed_code place code) ≡ other_operands code
placed_others place [] = refl
placed_others place (i ∷ is) =
    let here = same_with i.op i.args i.results (all_placed place i.args) (all_placed place i.results) (length-map i.args (located_register place)) (length-map i.results (located_register place)) in
    let rest = placed_others place is in
    omega (arith, here, rest)
