-- There are numbers for all the lines of a function of an accepted text.
use Rattle.std.proofs.Common.{◌≡◌, ℕ, ◌+◌, ◌*◌, ◌<◌, ◌≤◌, ⊎_elim, List, Option, ◌∙◌, sym, subst, arith}
use Rattle.std.proofs.Math.Nat.{mul-le-mul_left, mul-le-mul_right}
use Rattle.std.proofs.lemmas.Bool.{cases_lt}
use Rattle.bs_words.specs.declared.types.Loc.TheVariants as loc
use Rattle.cmm_tree.specs.Symbols.{DefinedSymbol}
use Rattle.cmm_tree.specs.Tree.{FunctionTree}
use Rattle.correctness.specs.Measures.{tries}
use Rattle.linearise_rules.specs.Sizes.{tries_ended, HasLineRoom}
use Rattle.linearise_rules.proofs.Slots.{slots_low}
use Rattle.mach_ir.specs.Keeps.{is_slot}
use Rattle.mach_ir.specs.Walks as mach_walks
use Rattle.mach_ir.specs.Placed.{HasColourOrSlot, in_colour, in_slot}
use Rattle.mach_ir.specs.declared.mach.Instr.{Instr}
use Rattle.mach_ir.specs.declared.mach.Mach.{Mach}
use Rattle.mach_ir.specs.declared.mach.Mark.TheVariants as mark
use Rattle.mach_ir.specs.declared.mach.MachOp.TheVariants as mach
use Rattle.mach_ir.specs.declared.reg.Reg.{Reg}
use Rattle.pass_rules.specs.Measures.{exit_count}
use Rattle.placed_functions.specs.Known.{IsAccepted}
use Rattle.placed_functions.proofs.Known.{promised, few_tokens}
use Rattle.placed_functions.specs.Placed.{IsPlacedFor}
use Rattle.placed_functions.proofs.Exits.{selected_exits}
use Rattle.placed_functions.proofs.Tries.{few_nest}
use Rattle.chained_functions.proofs.Chained.{ended_few}
use Rattle.bs_words.proofs.Places.{same_slot}

-- ---- products

product_within : (n k a b most : ℕ) → n ≤ a → k ≤ b → a * b ≤ most → n * k ≤ most
product_within n k a b most one two within =
    let x : n * k ≤ a * k = mul-le-mul_right k one in
    let y : a * k ≤ a * b = mul-le-mul_left a two in
    omega (arith, x, y, within)

-- Exits and tries share the tokens of a function: where there are many of the one there are few of the
-- other.
few_ended : (n k : ℕ) → n + 2 * k ≤ 64000 → n * k ≤ 603000000
few_ended n k sum =
    ⊎_elim (λ k0. product_within n k 64000 9400 603000000 (omega (arith, sum)) (omega (arith, k0)) (omega arith))
    (λ k1. ⊎_elim (λ k2. product_within n k 45198 13300 603000000 (omega (arith, sum, k1)) (omega (arith, k2)) (omega arith))
    (λ k3. ⊎_elim (λ k4. product_within n k 37398 16100 603000000 (omega (arith, sum, k3)) (omega (arith, k4)) (omega arith))
    (λ k5. ⊎_elim (λ k6. product_within n k 31798 18900 603000000 (omega (arith, sum, k5)) (omega (arith, k6)) (omega arith))
    (λ k7. ⊎_elim (λ k8. product_within n k 26198 23000 603000000 (omega (arith, sum, k7)) (omega (arith, k8)) (omega arith))
    (λ k9. product_within n k 17998 32000 603000000 (omega (arith, sum, k9)) (omega (arith, sum)) (omega arith))
    (cases_lt k 23001)) (cases_lt k 18901)) (cases_lt k 16101)) (cases_lt k 13301)) (cases_lt k 9401)

-- ---- whole

module _ {defined : List ℕ → Option DefinedSymbol} {tree : FunctionTree} (accepted : IsAccepted defined tree) {q : Mach} (is : IsPlacedFor tree q) where
  ended : tries_ended q.code ≤ 603000000
  ended =
      let own : (i : Instr) (next : List Instr) → mach_walks.StandsAsInstr i next q.code → (l n : ℕ) → i.op ≡ mach.Mark (mark.Exit l n) → n ≤ tries tree =
      λ i next s l n e. let ended = (is.formed).nested.at_exit i next s l n e in let le = is.tries i next s in omega (arith, ended, le) in
      let all = ended_few (tries tree) q.code own in
      let tokens = few_tokens tree accepted.checked.limits_kept in
      let cover = accepted.covered.tokens_cover in
      let rarely = selected_exits tree in
      let same = is.exits in
      let nest = few_nest tree.body in
      let product = few_ended (exit_count q.code) (tries tree) (omega (arith, same, rarely, nest, cover, tokens)) in
      omega (arith, all, product)

  -- a slot is that of an origin of selected code
  slot_low : (k : ℕ) (r : Reg) → mach_walks.IsRegister q r → r.loc ≡ loc.Slot k → k < 23 * tree.tokens
  slot_low k r among stands =
      let o = (is.keeps).origins r among (is_slot stands) in
      let size = (promised defined tree accepted).size in
      let low = size.origins o.register o.among in
      let at : r.origin ≡ k = of_place ((is.placed).places r among) in
      subst (λ n. n < 23 * tree.tokens) (o.same ∙ at) low
    where
      of_place : HasColourOrSlot r → r.origin ≡ k
      of_place (in_colour n c e) = absurd (no_slot (sym e ∙ stands))
        where
          no_slot : {n : ℕ} → loc.Machine n ≡ loc.Slot k → ⊥
          no_slot e = cc
      of_place (in_slot e) = same_slot e stands

  pub line_room : HasLineRoom q
  line_room =
      let tokens = few_tokens tree accepted.checked.limits_kept in
      let slots = slots_low q (23 * tree.tokens) slot_low in
      let labels = is.labels in
      let instrs = is.instrs in
      let few = ended in
      record {
        slots = omega (arith, slots, tokens);
        labels = omega (arith, labels, instrs, few, tokens);
      }
