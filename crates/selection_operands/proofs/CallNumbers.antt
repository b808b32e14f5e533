-- The numbers of a call, one by one.
use Rattle.std.proofs.Common.{◌≡◌, ℕ, ◌+◌, ap, sym, ◌∙◌}
use Rattle.selection_operands.specs.Calls.{call_numbers}
use Rattle.selection_operands.specs.declared.leaving.CallNumbers.{CallNumbers}

pub seated-is : (row count : ℕ) (n : CallNumbers) → n ≡ call_numbers row count → n.seated ≡ row + count
seated-is row count n is = ap (λ (k : CallNumbers). k.seated) is

pub given-is : (row count : ℕ) (n : CallNumbers) → n ≡ call_numbers row count → n.given ≡ n.seated + count
given-is row count n is = ap (λ (k : CallNumbers). k.given) is ∙ ap (λ s. s + count) (sym (seated-is row count n is))

pub base-is : (row count : ℕ) (n : CallNumbers) → n ≡ call_numbers row count → n.base ≡ n.given + 1
base-is row count n is = ap (λ (k : CallNumbers). k.base) is ∙ ap (λ g. g + 1) (sym (ap (λ (k : CallNumbers). k.given) is))

pub row-is : (row count : ℕ) (n : CallNumbers) → n ≡ call_numbers row count → n.row ≡ row
row-is row count n is = ap (λ (k : CallNumbers). k.row) is
