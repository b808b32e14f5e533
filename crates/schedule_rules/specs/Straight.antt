-- Straight runs of Linear code, which of their lines depend on others, and how high each stands.
use Rattle.std.specs.Prelude.{ℕ, ◌+◌, Bool, true, false, cond, ◌&&◌, ◌||◌, max, List, [], ◌∷◌}
use Rattle.bs_words.specs.declared.types.Loc.{Loc}
use Rattle.bs_words.specs.declared.operators.IntOp.{IntOp}
use Rattle.bs_words.specs.declared.operators.IntOp.TheVariants as operator
use Rattle.mach_ir.specs.declared.op.CopyKind.TheVariants as copy
use Rattle.mach_ir.specs.declared.op.Pure.{Pure}
use Rattle.mach_ir.specs.declared.op.Pure.TheVariants as pure
use Rattle.mach_ir.specs.declared.op.Access.TheVariants as access
use Rattle.mach_ir.specs.declared.op.Op.TheVariants as op
use Rattle.lin_ir.specs.Meaning.{same_loc}
use Rattle.lin_ir.specs.declared.lin.Spot.{Spot}
use Rattle.lin_ir.specs.declared.lin.LinOp.{LinOp}
use Rattle.lin_ir.specs.declared.lin.LinOp.TheVariants as lin
use Rattle.lin_ir.specs.declared.lin.Line.{Line}

-- ---- what may stand within a straight run

-- Moves, spills, reloads, constants, symbols, integer operators, loads and stores. What steers
-- control ends a run, and so does what calls, allocates, tests a bound, raises or returns.
abbrev pub is_plain : LinOp → Bool
is_plain (lin.Op (op.Pure f)) = true
is_plain (lin.Op (op.Access (access.Load k offset))) = true
is_plain (lin.Op (op.Access (access.Store k offset))) = true
is_plain (lin.Op (op.Access (access.Alloc blocks))) = false
is_plain (lin.Op (op.Calling f)) = false
is_plain (lin.Op (op.Leaving f)) = false
is_plain (lin.Flow f) = false

abbrev pub is_store : LinOp → Bool
is_store (lin.Op (op.Access (access.Store k offset))) = true
is_store (lin.Op (op.Access (access.Load k offset))) = false
is_store (lin.Op (op.Access (access.Alloc blocks))) = false
is_store (lin.Op (op.Pure f)) = false
is_store (lin.Op (op.Calling f)) = false
is_store (lin.Op (op.Leaving f)) = false
is_store (lin.Flow f) = false

-- a load or a store: a slot is a location, no memory
abbrev pub is_access : LinOp → Bool
is_access (lin.Op (op.Access (access.Store k offset))) = true
is_access (lin.Op (op.Access (access.Load k offset))) = true
is_access (lin.Op (op.Access (access.Alloc blocks))) = false
is_access (lin.Op (op.Pure f)) = false
is_access (lin.Op (op.Calling f)) = false
is_access (lin.Op (op.Leaving f)) = false
is_access (lin.Flow f) = false

-- ---- dependence

-- whether the location is one of these
abbrev pub is_among_spots : Loc → List Spot → Bool
is_among_spots l [] = false
is_among_spots l (s ∷ ss) = same_loc s.loc l || is_among_spots l ss

-- whether both name one location
abbrev pub meet : List Spot → List Spot → Bool
meet [] ts = false
meet (s ∷ ss) ts = is_among_spots s.loc ts || meet ss ts

-- Whether the later of two lines depends on the earlier: one of them writes a location that the
-- other reads or writes, or both touch memory and one of them is a store. It is the same both ways.
abbrev pub depends : Line → Line → Bool
depends later earlier =
    meet earlier.results later.args
    || (meet earlier.args later.results
    || (meet earlier.results later.results
    || ((is_store earlier.op && is_access later.op)
    || (is_access earlier.op && is_store later.op))))

-- ---- heights

-- products, quotients and remainders 4, all others 1
abbrev pub weight_of_operator : IntOp → ℕ
weight_of_operator operator.Mul = 4
weight_of_operator operator.Mulh = 4
weight_of_operator operator.Div = 4
weight_of_operator operator.Mod = 4
weight_of_operator _ = 1

-- a reload 2
abbrev pub weight_of_pure : Pure → ℕ
weight_of_pure (pure.Copy copy.Reload) = 2
weight_of_pure (pure.Operator f r) = weight_of_operator f
weight_of_pure _ = 1

-- a load 2
abbrev pub weight_of_line : LinOp → ℕ
weight_of_line (lin.Op (op.Pure f)) = weight_of_pure f
weight_of_line (lin.Op (op.Access (access.Load k offset))) = 2
weight_of_line _ = 1

-- a line of a run, with its height
pub record Ranked : Type 0 where
  pub line : Line
  pub height : ℕ

-- the greatest height of those of these, all later, that depend on a line; 0 where none does
abbrev pub highest_after : Line → List Ranked → ℕ
highest_after i [] = 0
highest_after i (r ∷ rs) = max (cond (depends r.line i) r.height 0) (highest_after i rs)

-- the lines of a run with their heights: the weight, and the greatest of what depends on it
abbrev pub ranked : List Line → List Ranked
ranked [] = []
ranked (i ∷ is) =
    record { line = i; height = weight_of_line i.op + highest_after i (ranked is) } ∷ ranked is
