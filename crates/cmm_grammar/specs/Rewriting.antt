-- The forms that stand for others. Every node that a rewriting makes is at the `(` of its form.
use Rattle.std.specs.Prelude.{ℕ, ◌*◌, ◌%◌, ◌^◌, zero, suc, []}
use Rattle.bs_words.specs.declared.operators.IntOp.TheVariants as op
use Rattle.bs_words.specs.declared.types.Chunk.{Chunk}
use Rattle.cmm_tree.specs.Tree.{Expression, NoMore, More, NoHandler, Handle, LabelTree, Done, Again, Integer, Operator, Load, Store, Catch, Exit, Seq, If, Nothing}

-- ---- arrays: the address of element i is the array's where i is the integer 0, lies a known offset after it
-- where i is another integer, and else an offset that is computed

abbrev pub element_by : ℕ → Expression → ℕ → Expression
element_by at array zero = array
element_by at array (suc i) = Operator at op.AddA array (Integer at (8 * suc i % 2 ^ 64))

abbrev pub element : ℕ → Expression → Expression → Expression
element at array (Integer index_at i) = element_by at array i
element at array index = Operator at op.AddA array (Operator at op.Shl index (Integer at 3))

-- `intaref` and `addraref`, by the chunk
abbrev pub array_load : ℕ → Chunk → Expression → Expression → Expression
array_load at chunk array index = Load at chunk (element at array index)

-- `intaset` and `addraset`, by the chunk
abbrev pub array_store : ℕ → Chunk → Expression → Expression → Expression → Expression
array_store at chunk array index value = Store at chunk (element at array index) value

-- ---- while

abbrev pub exit_to : ℕ → LabelTree → Expression
exit_to at label = Exit at at label NoMore

abbrev pub turn_by : ℕ → Expression → Expression → ℕ → Expression
turn_by at condition body zero = If at condition body (exit_to at Done)
turn_by at condition body (suc n) = body

-- a turn: the body under the condition, and out where it does not hold. An integer other than 0 always holds.
abbrev pub turn : ℕ → Expression → Expression → Expression
turn at (Integer condition_at n) body = turn_by at (Integer condition_at n) body n
turn at condition body = If at condition body (exit_to at Done)

-- a catch with one handler that has no parameters
abbrev pub catch_one : ℕ → LabelTree → Expression → Expression → Expression
catch_one at label body handler = Catch at body (Handle at label [] handler NoHandler)

abbrev pub while_loop : ℕ → Expression → Expression → Expression
while_loop at condition body =
    catch_one at Done
    (catch_one at Again (exit_to at Again)
    (Seq at (More (turn at condition body) (More (exit_to at Again) NoMore))))
    (Nothing at)
