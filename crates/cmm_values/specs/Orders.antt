-- The order of two pointers; what is no pointer has none.
use Rattle.std.specs.Prelude.{ℕ, List, Result, Err, ◌&&◌, ◌==◌}
use Rattle.bs_words.specs.Operators.{only_if, truth, is_near, signed_holds}
use Rattle.bs_words.specs.declared.operators.CmpOp.{CmpOp}
use Rattle.bs_words.specs.declared.values.Kind.{Kind}
use Rattle.bs_words.specs.declared.values.Kind.TheVariants.{PointerOrder}
use Rattle.bs_words.specs.declared.values.Value.{Value}
use Rattle.bs_words.specs.declared.values.Value.TheVariants.{Block}

abbrev pub order_of_pointers : CmpOp → List ℕ → Value → Value → Result Value Kind
order_of_pointers op sizes (Block s o) (Block t p) =
    only_if ((s == t) && is_near sizes s o && is_near sizes t p) PointerOrder (truth (signed_holds op o p))
order_of_pointers op sizes _ _ = Err PointerOrder
