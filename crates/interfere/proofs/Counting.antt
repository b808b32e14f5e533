-- How often a code reads or writes a register: no more often than it has operands and results.
use Rattle.std.proofs.Common.{◌≡◌, ℕ, ◌+◌, ◌<◌, ◌≤◌, Bool, true, false, cond, List, [], ◌∷◌, length, drop, get_or, refl, sym, ap, ◌∙◌, arith}
use Rattle.std.specs.Prelude.{nat_eq, slice_index}
use Rattle.std.proofs.lemmas.Bool.{eq-eqb}
use Rattle.std.proofs.lemmas.List.{drop_more, get_or_read}
use Rattle.mach_ir.specs.Graph.{times_among, uses_of}
use Rattle.mach_ir.specs.Sizes.{operand_count, number_limit}
use Rattle.mach_ir.specs.declared.reg.Reg.{Reg}
use Rattle.mach_ir.specs.declared.mach.Instr.{Instr}

at_most_one : (b : Bool) → cond b 1 0 ≤ 1
at_most_one true = omega arith
at_most_one false = omega arith

pub times_few : (n : ℕ) (rs : List Reg) → times_among n rs ≤ length rs
times_few n [] = omega arith
times_few n (r ∷ rs) = let one = at_most_one (nat_eq n r.number) in let rest = times_few n rs in omega (arith, one, rest)

pub uses_few : (n : ℕ) (code : List Instr) → uses_of n code ≤ operand_count code
uses_few n [] = omega arith
uses_few n (i ∷ is) =
    let args = times_few n i.args in
    let results = times_few n i.results in
    let rest = uses_few n is in
    omega (arith, args, results, rest)

-- the next of these can be counted, where all can
pub one_fits : (now first : List ℕ) (regs : List Reg) (k : ℕ) (d : Reg) (count : ℕ) → k < length regs →
    length now ≡ length first → (get_or regs k d).number < length first →
    count ≡ get_or now (get_or regs k d).number count →
    ((n : ℕ) → slice_index now n + times_among n (drop k regs) ≡ slice_index first n + times_among n regs) →
    ((n : ℕ) → slice_index first n + times_among n regs < number_limit) → count + 1 < number_limit
one_fits now first regs k d count lt len within read more fits =
    let r : Reg = get_or regs k d in
    let here : times_among r.number (drop k regs) ≡ times_among r.number (r ∷ drop (k + 1) regs) =
    ap (times_among r.number) (drop_more regs k d lt) in
    let one : times_among r.number (r ∷ drop (k + 1) regs) ≡ 1 + times_among r.number (drop (k + 1) regs) =
    ap (λ b. cond b 1 0 + times_among r.number (drop (k + 1) regs)) (eq-eqb r.number r.number refl) in
    let counted : count ≡ slice_index now r.number = get_or_read now r.number count (omega (arith, within, len)) read 0 in
    let all = more r.number in
    let most = fits r.number in
    omega (arith, here, one, counted, all, most)

module _ (uses : List ℕ) (code : List Instr) (k : ℕ) (i : Instr) (lt : k < length code) (at : i ≡ get_or code k i)
    (more : (n : ℕ) → slice_index uses n + uses_of n (drop k code) ≡ uses_of n code) (few : operand_count code < number_limit) where
  here : (n : ℕ) → uses_of n (drop k code) ≡ uses_of n (i ∷ drop (k + 1) code)
  here n = ap (uses_of n) (drop_more code k i lt ∙ ap (λ x. x ∷ drop (k + 1) code) (sym at))

  -- and so can the operands of an instruction, and then its results
  pub args_fit : (args : List Reg) → args ≡ i.args → (n : ℕ) → slice_index uses n + times_among n args < number_limit
  args_fit args is n =
      let one = here n in
      let all = more n in
      let most = uses_few n code in
      let same = ap (times_among n) is in
      omega (arith, one, all, most, same, few)

  pub results_fit : (args results : List Reg) (then : List ℕ) → args ≡ i.args → results ≡ i.results →
      ((n : ℕ) → slice_index then n ≡ slice_index uses n + times_among n args) → (n : ℕ) →
      slice_index then n + times_among n results < number_limit
  results_fit args results then is are counted n =
      let one = here n in
      let all = more n in
      let most = uses_few n code in
      let same = ap (times_among n) is in
      let too = ap (times_among n) are in
      let so_far = counted n in
      omega (arith, one, all, most, same, too, so_far, few)
