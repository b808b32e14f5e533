-- What the tests find, together, is room.
use Rattle.std.proofs.Common.{◌≡◌, ℕ, zero, suc, ◌+◌, ◌<◌, ◌≤◌, List, [], ◌∷◌, length, drop, refl, sym, ap, ◌∙◌, subst, arith}
use Rattle.std.specs.List.{All}
use Rattle.std.specs.Prelude.{slice_index_or}
use Rattle.std.proofs.lemmas.List.Elements.{All-contains}
use Rattle.mach_ir.specs.Sizes.{Size, HasRoom, operand_count}
use Rattle.mach_ir.specs.Walks.{InCode, in_args, in_results, further, IsRegister, is_param, is_colour, is_in_code}
use Rattle.mach_ir.specs.declared.reg.Reg.{Reg}
use Rattle.mach_ir.specs.declared.mach.Instr.{Instr}
use Rattle.mach_ir.specs.declared.mach.Mach.{Mach}
use Rattle.bs_words.proofs.Lists.{drop_none}
use Rattle.mach_tests.specs.Room.{wide, most, HasLowNumbers, IsShort, AreLow}

-- ---- registers

code_low : (code : List Instr) → All (λ (i : Instr). All HasLowNumbers i.args) code → All (λ (i : Instr). All HasLowNumbers i.results) code → (r : Reg) →
    InCode r code → HasLowNumbers r
code_low [] args results r c = elim c [ ]
code_low (i ∷ is) args results r (in_args c) = All-contains HasLowNumbers i.args r (args 0 i (omega arith)) c
code_low (i ∷ is) args results r (in_results c) = All-contains HasLowNumbers i.results r (results 0 i (omega arith)) c
code_low (i ∷ is) args results r (further c) =
    code_low is (λ k d lt. args (suc k) d (omega (arith, lt))) (λ k d lt. results (suc k) d (omega (arith, lt))) r c

all_low : (m : Mach) → AreLow m → (r : Reg) → IsRegister m r → HasLowNumbers r
all_low m low r (is_param c) = All-contains HasLowNumbers m.params r low.params c
all_low m low r (is_colour c) = All-contains HasLowNumbers m.colours r low.colours c
all_low m low r (is_in_code c) = code_low m.code low.args low.results r c

-- ---- operands, as far as they are counted

counted_next : (code : List Instr) (k : ℕ) (i : Instr) → k < length code → i ≡ slice_index_or code k i →
    operand_count (drop k code) ≡ length i.args + length i.results + operand_count (drop (suc k) code)
counted_next [] k i lt at = absurd (omega (arith, lt))
counted_next (j ∷ is) zero i lt at =
    ap (λ (rest : List Instr). length j.args + length j.results + operand_count rest) (sym (drop_none is))
    ∙ ap (λ (i : Instr). length i.args + length i.results + operand_count (drop 0 is)) (sym at)
counted_next (j ∷ is) (suc k) i lt at = counted_next is k i (omega (arith, lt)) at

pub counted : (code : List Instr) (k : ℕ) (i : Instr) → k < length code → i ≡ slice_index_or code k i →
    operand_count (drop k code) ≡ length i.args + length i.results + operand_count (drop (k + 1) code)
counted code k i lt at =
    let same : suc k ≡ k + 1 = omega arith in
    subst (λ n. operand_count (drop k code) ≡ length i.args + length i.results + operand_count (drop n code)) same (counted_next code k i lt at)

pub all_counted : (code : List Instr) (k : ℕ) → length code ≤ k → operand_count (drop k code) ≡ 0
all_counted [] zero le = refl
all_counted [] (suc k) le = refl
all_counted (i ∷ is) zero le = absurd (omega (arith, le))
all_counted (i ∷ is) (suc k) le = all_counted is k (omega (arith, le))

-- ---- the function

abbrev tested_size : Size
tested_size = record { instrs = most; operands = most; registers = most; labels = most }

pub has_wide_room : (m : Mach) → IsShort m → AreLow m → operand_count m.code ≤ most → HasRoom (wide (length m.params)) m
has_wide_room m short low few =
    record {
      size = tested_size;
      within = record {
        instrs = short.instrs;
        operands = few;
        numbers = λ r i. (all_low m low r i).0;
        origins = λ r i. (all_low m low r i).1;
        labels = short.labels;
      };
      small = let params = short.params in record {
        places = omega arith;
        operands = omega arith;
        registers = omega (arith, params);
        labels = omega arith;
      };
    }
