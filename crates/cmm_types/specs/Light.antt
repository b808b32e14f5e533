-- Light expressions: their evaluation may wait until the operation that takes them.
use Rattle.std.specs.Prelude.{ℕ, Bool, true, false, not, ◌&&◌, List, Option, Some, None}
use Rattle.bs_words.specs.declared.operators.IntOp.{IntOp}
use Rattle.bs_words.specs.declared.operators.IntOp.TheVariants.{Add, Sub, Mul, And, Or, Xor, Shl, Shr, Sar, AddV, AddA}
use Rattle.cmm_tree.specs.Tree.{Expression, Integer, Symbol, Name, Operator}
use Rattle.cmm_types.specs.Types.{Scoped, binding_of}

-- the operators of light expressions
abbrev pub is_light_operator : IntOp → Bool
is_light_operator Add = true
is_light_operator Sub = true
is_light_operator Mul = true
is_light_operator And = true
is_light_operator Or = true
is_light_operator Xor = true
is_light_operator Shl = true
is_light_operator Shr = true
is_light_operator Sar = true
is_light_operator AddV = true
is_light_operator AddA = true
is_light_operator _ = false

-- the operator that makes an address inside a block
abbrev pub makes_address : IntOp → Bool
makes_address AddA = true
makes_address _ = false

abbrev pub is_fixed : Option Scoped → Bool
is_fixed None = false
is_fixed (Some s) = not s.mutable

-- a name whose innermost binding is not mutable
abbrev pub is_immutable : List Scoped → List ℕ → Bool
is_immutable scope name = is_fixed (binding_of scope name)

-- an integer, a symbol, an immutable name, or one of these operators over two light expressions
abbrev pub is_light : List Scoped → Expression → Bool
is_light scope (Integer at word) = true
is_light scope (Symbol at name) = true
is_light scope (Name at name) = is_immutable scope name
is_light scope (Operator at op left right) =
    is_light_operator op && (is_light scope left && is_light scope right)
is_light scope _ = false

-- a light expression whose outermost operator is `+a`: it is evaluated after the other operands of its
-- operation
abbrev pub is_light_address : List Scoped → Expression → Bool
is_light_address scope (Operator at AddA left right) = is_light scope left && is_light scope right
is_light_address scope _ = false
