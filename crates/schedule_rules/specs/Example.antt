-- A run of four lines: two loads, and an addition to each.
use Rattle.std.specs.Prelude.{ℕ, List, [], ◌∷◌}
use Rattle.bs_words.specs.declared.types.Chunk.TheVariants as chunk
use Rattle.bs_words.specs.declared.types.Comp.TheVariants as comp
use Rattle.bs_words.specs.declared.types.Loc.TheVariants as loc
use Rattle.bs_words.specs.declared.operators.IntOp.TheVariants as operator
use Rattle.mach_ir.specs.declared.op.Right.TheVariants as right
use Rattle.mach_ir.specs.declared.op.Pure.TheVariants as pure
use Rattle.mach_ir.specs.declared.op.Access.TheVariants as access
use Rattle.mach_ir.specs.declared.op.Op.TheVariants as op
use Rattle.lin_ir.specs.declared.lin.Spot.{Spot}
use Rattle.lin_ir.specs.declared.lin.LinOp.TheVariants as lin
use Rattle.lin_ir.specs.declared.lin.Line.{Line}

abbrev pub example_int : ℕ → Spot
example_int n = record { loc = loc.Machine n; comp = comp.Int }

abbrev pub example_pointer : Spot
example_pointer = record { loc = loc.Machine 11; comp = comp.Val }

abbrev pub example_load : ℕ → ℕ → Line
example_load to offset =
    record {
      op = lin.Op (op.Access (access.Load chunk.Int offset));
      args = example_pointer ∷ [];
      results = example_int to ∷ [];
    }

abbrev pub example_add : ℕ → ℕ → ℕ → Line
example_add to from k =
    record {
      op = lin.Op (op.Pure (pure.Operator operator.Add (right.Constant k)));
      args = example_int from ∷ [];
      results = example_int to ∷ [];
    }

-- the registers a0 to a4 are those of numbers 10 to 14
abbrev pub example_run : List Line
example_run =
    example_load 10 0 ∷ example_add 12 10 1 ∷ example_load 13 8 ∷ example_add 14 13 2 ∷ []
