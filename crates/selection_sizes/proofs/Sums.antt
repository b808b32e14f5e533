-- What an expression may weigh, and what a row of operands may, in two parts.
use Rattle.std.proofs.Common.{◌≡◌, ℕ, ◌+◌, ◌-◌, ◌*◌, ◌≤◌, arith}
use Rattle.cmm_tree.specs.Measures.{total, row_total, counts_one, nodes_in, own_indexes, count_of}
use Rattle.cmm_tree.specs.Tree.{Expression, Integer, Pointer, Symbol, Name, Nothing, Float, Let, Assign, Operator, Load, Store, Alloc, App, Extcall, Checkbound, Raise, Seq, If, Switch, Catch, Exit, Try, Expressions, NoMore, More}
use Rattle.correctness.specs.Measures.{is_frame_point}
use Rattle.selection_places.proofs.Adds.{sum_of, sum_total}

-- a hundred words of it are left for what puts it to use
abbrev pub most : Expression → ℕ
most e = 640 * nodes_in e + 4 * total own_indexes e - 100

abbrev pub points : Expression → ℕ
points e = total is_frame_point e

pub some_nodes : (e : Expression) → 1 ≤ nodes_in e
some_nodes (Integer at word) = omega arith
some_nodes (Pointer at word) = omega arith
some_nodes (Symbol at name) = omega arith
some_nodes (Name at name) = omega arith
some_nodes (Nothing at) = omega arith
some_nodes (Float at word_at operands) = omega arith
some_nodes (Let at bindings body) = omega arith
some_nodes (Assign at name_at name value) = omega arith
some_nodes (Operator at op left right) = omega arith
some_nodes (Load at chunk address) = omega arith
some_nodes (Store at chunk address value) = omega arith
some_nodes (Alloc at header_at header operands) = omega arith
some_nodes (App at callee arguments result result_at) = omega arith
some_nodes (Extcall at frame name arguments result result_at) = omega arith
some_nodes (Checkbound at bound index) = omega arith
some_nodes (Raise at value) = omega arith
some_nodes (Seq at elements) = omega arith
some_nodes (If at condition on_true on_false) = omega arith
some_nodes (Switch at size_at size selector cases) = omega arith
some_nodes (Catch at body handlers) = omega arith
some_nodes (Exit at label_at label arguments) = omega arith
some_nodes (Try at body name_at name handler) = omega arith

-- ---- rows

pub row_points : (es : Expressions) → sum_of points es ≡ row_total is_frame_point es
row_points es = sum_total is_frame_point es

pub row_most : (es : Expressions) → sum_of most es + 100 * count_of es ≤ 640 * row_total counts_one es + 4 * row_total own_indexes es
row_most NoMore = omega arith
row_most (More e rest) =
    let others = row_most rest in
    let some = some_nodes e in
    omega (arith, others, some)
