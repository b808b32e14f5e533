use Rattle.std.proofs.Common.{◌≡◌, ◌∙◌, suc, ◌+◌, Bool, true, false, ◌∷◌, drop, map, IsTrue, sym, ap, subst, arith}
use Rattle.cmm_tree.specs.Tree.{AFunction, AData, functions}
use Rattle.cmm_tree.specs.View.{item_view, file_view, function_view, data_list_view}
use Rattle.file_compile.proofs.LayoutRows.{map_past}
use Rattle.text_commands.proofs.Rows.{map_rest}
use Rattle.text_commands.proofs.Entries.{Passed, passed-none, passed-below, passed-found, passed-named, passed-function, passed-data, passed-all}
use Rattle.text_commands.proofs.entry.entry_named.Goals as goal
use Rattle.text_commands.proofs.entry.entry_named.Goals.{in-Function+else-same, in-Data}

no_true : (b : Bool) → b ≡ false → IsTrue b → ⊥
no_true true e t = cc
no_true false e t = cc

pub loop-item-init : goal.loop-item-init
loop-item-init c = rw c.as_slice-item-items.ensures (passed-none c.args.name.now (map item_view c.args.file.now.items.items.items))

pub overflow_add-number : goal.overflow_add-number
overflow_add-number c =
    let k = c.loop-item.item-index in
    let items = c.as_slice-item-items.result.now in
    let f = function_view c.in-Function.function in
    let rest = map item_view (drop (k + 1) items) in
    let here : map item_view (drop k items) ≡ AFunction f ∷ rest =
    map_rest item_view items k c.item-item.result c.loop-item-test.true c.item-item.is ∙ ap (λ i. item_view i ∷ rest) c.in-Function.is in
    let below = passed-below c.args.name.now (functions (file_view c.args.file.now)) c.loop-item.number (map item_view (drop k items)) rest f here c.loop-item.invariant in
    omega (arith, below, c.requires.few)

pub returns-then-same : goal.returns-then-same
returns-then-same c =
    let k = c.loop-item.item-index in
    let items = c.as_slice-item-items.result.now in
    let f = function_view c.in-Function.function in
    let here : map item_view (drop k items) ≡ AFunction f ∷ map item_view (drop (k + 1) items) =
    map_rest item_view items k c.item-item.result c.loop-item-test.true c.item-item.is ∙ ap (λ i. item_view i ∷ map item_view (drop (k + 1) items)) c.in-Function.is in
    record {
      of_file = passed-found c.args.name.now (functions (file_view c.args.file.now)) c.loop-item.number (map item_view (drop k items)) (map item_view (drop (k + 1) items)) f here c.loop-item.invariant;
      named = passed-named c.args.name.now (functions (file_view c.args.file.now)) c.loop-item.number (map item_view (drop k items)) (map item_view (drop (k + 1) items)) f here (c.same.ensures.0 c.if-same.true) c.loop-item.invariant;
    }

pub loop-item-preserved : goal.loop-item-preserved
loop-item-preserved c =
    let k = c.loop-item.item-index in
    let items = c.as_slice-item-items.result.now in
    let rest = map item_view (drop (k + 1) items) in
    let all = functions (file_view c.args.file.now) in
    elim c.match-item.branch [
      | in-Function+else-same w ↦
          let f = function_view w.in-Function.function in
          let here : map item_view (drop k items) ≡ AFunction f ∷ rest =
          map_rest item_view items k c.item-item.result c.loop-item-test.true c.item-item.is ∙ ap (λ i. item_view i ∷ rest) w.in-Function.is in
          let next : suc c.loop-item.number ≡ c.match-item.number = omega (arith, w.number-is) in
          subst (λ n. Passed c.args.name.now all n rest) next
          (passed-function c.args.name.now all c.loop-item.number (map item_view (drop k items)) rest f here (λ e. no_true w.same.result w.if-same.false (w.same.ensures.1 e)) c.loop-item.invariant)
      | in-Data w ↦
          let d = data_list_view w.in-Data.field-0 in
          let here : map item_view (drop k items) ≡ AData d ∷ rest =
          map_rest item_view items k c.item-item.result c.loop-item-test.true c.item-item.is ∙ ap (λ i. item_view i ∷ rest) w.in-Data.is in
          subst (λ n. Passed c.args.name.now all n rest) (sym w.number-is)
          (passed-data c.args.name.now all c.loop-item.number (map item_view (drop k items)) rest d here c.loop-item.invariant)
    ]

pub returns : goal.returns
returns c =
    let items = c.as_slice-item-items.result.now in
    passed-all c.args.name.now (functions (file_view c.args.file.now)) c.loop-item.number (map item_view (drop c.loop-item.item-index items))
    (map_past item_view items c.loop-item.item-index (omega (arith, c.loop-item-test.false))) c.loop-item.invariant
