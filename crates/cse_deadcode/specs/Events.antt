-- Operators by their ranks, and what an operator computes from its operands.
use Rattle.std.specs.Prelude.{ℕ, ◌+◌, List, Option, Some, None, slice_get}
use Rattle.std.specs.Option.{option_map}
use Rattle.bs_words.specs.declared.operators.CmpOp.{CmpOp}
use Rattle.bs_words.specs.declared.operators.CmpOp.TheVariants as compare
use Rattle.bs_words.specs.declared.operators.IntOp.{IntOp}
use Rattle.bs_words.specs.declared.operators.IntOp.TheVariants as operator
use Rattle.mach_ir.specs.declared.op.Right.{Right}
use Rattle.mach_ir.specs.declared.op.Right.TheVariants as right
use Rattle.mach_ir.specs.declared.reg.Reg.{Reg}
use Rattle.cse_deadcode.specs.declared.events.Computed.{Computed}

-- where a comparison is among all
abbrev pub rank_of_comparison : CmpOp → ℕ
rank_of_comparison compare.Eq = 0
rank_of_comparison compare.Ne = 1
rank_of_comparison compare.Lt = 2
rank_of_comparison compare.Le = 3
rank_of_comparison compare.Gt = 4
rank_of_comparison compare.Ge = 5

-- where an operator is among all
abbrev pub rank_of_operator : IntOp → ℕ
rank_of_operator operator.Add = 0
rank_of_operator operator.Sub = 1
rank_of_operator operator.Mul = 2
rank_of_operator operator.Mulh = 3
rank_of_operator operator.Div = 4
rank_of_operator operator.Mod = 5
rank_of_operator operator.And = 6
rank_of_operator operator.Or = 7
rank_of_operator operator.Xor = 8
rank_of_operator operator.Shl = 9
rank_of_operator operator.Shr = 10
rank_of_operator operator.Sar = 11
rank_of_operator operator.AddV = 12
rank_of_operator operator.AddA = 13
rank_of_operator (operator.Cmp f) = 14 + rank_of_comparison f
rank_of_operator (operator.CmpU f) = 20 + rank_of_comparison f

abbrev pub constant_of_right : Right → Option ℕ
constant_of_right right.Register = None
constant_of_right (right.Constant w) = Some w

-- what an operator computes from operands
abbrev pub computation : IntOp → Right → List Reg → Computed
computation f r args =
    record {
      operator = record { operator = f };
      constant = constant_of_right r;
      left = option_map (λ (k : Reg). k.number) (slice_get args 0);
      right = option_map (λ (k : Reg). k.number) (slice_get args 1);
    }
