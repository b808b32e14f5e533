use Rattle.std.proofs.Common.{◌≡◌, ◌+◌, ◌<◌, ◌++◌, ◌∷◌, [], length, map, drop, refl, sym, ap, ap₂, ◌∙◌, subst, arith}
use Rattle.std.proofs.lemmas.List.{map-append}
use Rattle.function_places.specs.Places.{forms_in, IsLaidFunction}
use Rattle.assemble.specs.Source.{laid_of}
use Rattle.assemble.proofs.Bounds.{end_most}
use Rattle.assemble.proofs.Walks.{forms_long, function_at, rows_more, function_here, data_here, typed_next}
use Rattle.cmm_tree.specs.Tree.{functions_among}
use Rattle.cmm_tree.specs.View.{function_view, item_view}
use Rattle.image_form.specs.Tables.{func}
use Rattle.rv_layout_rules.specs.Forms.{total_words, all_words}
use Rattle.rv_layout_rules.specs.Laid.{rows_from}
use Rattle.rv_pieces.specs.declared.piece.Pieces.{Pieces}
use Rattle.assemble.proofs.source.Source.rows.Goals as goal
use Rattle.assemble.proofs.source.Source.rows.Goals.{in-Function+in_ok-row-in-Function+in_ok-push-in-Function, in-Data}

pub index-laid-requires : goal.index-laid-requires
index-laid-requires c =
    let fs = function_here c.as_slice-item-items.result.now c.loop-item.item-index c.item-item.result c.in-Function.function c.loop-item-test.true c.item-item.is c.in-Function.is in
    omega (arith, c.loop-item.invariant.same, ap length fs, forms_long c.args.self.now c.requires.source)

pub overflow_add-entry : goal.overflow_add-entry
overflow_add-entry c =
    let fs = function_here c.as_slice-item-items.result.now c.loop-item.item-index c.item-item.result c.in-Function.function c.loop-item-test.true c.item-item.is c.in-Function.is in
    let within : c.loop-item.next < length c.args.self.now.pieces.now = omega (arith, c.loop-item.invariant.same, ap length fs) in
    let at = function_at c.args.self.now c.requires.source c.requires.fits c.loop-item.next c.index-self-next.result c.index-laid.result.now c.loop-item.entry within c.index-self-next.is
    c.index-laid.ensures c.loop-item.invariant.place in
    omega (arith, at.is.words, at.inside, end_most c.args.self.now c.requires.source)

pub row-requires-clause-laid : goal.row-requires-clause-laid
row-requires-clause-laid c =
    let fs = function_here c.as_slice-item-items.result.now c.loop-item.item-index c.item-item.result c.in-Function.function c.loop-item-test.true c.item-item.is c.in-Function.is in
    let within : c.loop-item.next < length c.args.self.now.pieces.now = omega (arith, c.loop-item.invariant.same, ap length fs) in
    let at = function_at c.args.self.now c.requires.source c.requires.fits c.loop-item.next c.index-self-next.result c.index-laid.result.now c.loop-item.entry within c.index-self-next.is
    c.index-laid.ensures c.loop-item.invariant.place in
    subst (λ q. IsLaidFunction q c.index-laid.result.now) c.index-self-next.is at.is

pub row-requires-clause-inside : goal.row-requires-clause-inside
row-requires-clause-inside c =
    let fs = function_here c.as_slice-item-items.result.now c.loop-item.item-index c.item-item.result c.in-Function.function c.loop-item-test.true c.item-item.is c.in-Function.is in
    let within : c.loop-item.next < length c.args.self.now.pieces.now = omega (arith, c.loop-item.invariant.same, ap length fs) in
    let at = function_at c.args.self.now c.requires.source c.requires.fits c.loop-item.next c.index-self-next.result c.index-laid.result.now c.loop-item.entry within c.index-self-next.is
    c.index-laid.ensures c.loop-item.invariant.place in
    let words = ap (λ (q : Pieces). total_words q.code c.index-laid.result.now.forms.items) (sym c.index-self-next.is) in
    omega (arith, words, at.inside, at.short)

pub loop-item-preserved : goal.loop-item-preserved
loop-item-preserved c =
    let s = c.args.self.now in
    let ps = s.pieces.now in
    let forms = forms_in s.places.now in
    let others = functions_among (map item_view (drop (c.loop-item.item-index + 1) c.as_slice-item-items.result.now)) in
    let typed = typed_next c.as_slice-item-items.result.now c.loop-item.item-index c.item-item.result c.loop-item-test.true c.item-item.is c.loop-item.invariant.typed in
    elim c.match-item.branch [
      | in-Function+in_ok-row-in-Function+in_ok-push-in-Function w ↦
          let fs = function_here c.as_slice-item-items.result.now c.loop-item.item-index c.item-item.result w.in-Function.function c.loop-item-test.true c.item-item.is w.in-Function.is in
          let within : c.loop-item.next < length c.args.self.now.pieces.now = omega (arith, c.loop-item.invariant.same, ap length fs) in
          let at = function_at c.args.self.now c.requires.source c.requires.fits c.loop-item.next w.index-self-next.result w.index-laid.result.now c.loop-item.entry within w.index-self-next.is
          w.index-laid.ensures c.loop-item.invariant.place in
          let entry : c.match-item.entry ≡ c.loop-item.entry + total_words w.index-self-next.result.code w.index-laid.result.now.forms.items = omega (arith, w.entry-is, at.is.words) in
          let pushed = ap (λ v. map func v.items) w.rows-is ∙ (ap (map func) w.in_ok-push-in-Function.ensures.items ∙ (map-append func c.loop-item.rows.items _ ∙ ap (λ r. map func c.loop-item.rows.items ++ r ∷ []) w.in_ok-row-in-Function.ensures)) in
          let so_far = ap (λ l. map func c.loop-item.rows.items ++ rows_from c.loop-item.entry l (drop c.loop-item.next ps) (drop c.loop-item.next forms)) (sym fs) ∙ c.loop-item.invariant.rows in
          record {
            items = c.loop-item.invariant.items;
            typed = typed;
            same = omega (arith, w.next-is, c.loop-item.invariant.same, ap length fs);
            place = subst (λ n. c.match-item.entry + all_words (drop n ps) (drop n forms) ≡ s.places.now.end) (sym w.next-is) (omega (arith, entry, at.place));
            rows = subst (λ n. map func c.match-item.rows.items ++ rows_from c.match-item.entry others (drop n ps) (drop n forms) ≡ (laid_of s).funcs) (sym w.next-is)
                (rows_more s c.loop-item.next w.index-self-next.result _ (function_view w.in-Function.function) others w.index-laid.result.now _ c.loop-item.entry c.match-item.entry
                (map func c.loop-item.rows.items) (map func c.match-item.rows.items) _ at (sym w.index-self-next.is) refl entry pushed so_far);
          }
      | in-Data w ↦
          let fs = data_here c.as_slice-item-items.result.now c.loop-item.item-index c.item-item.result w.in-Data.field-0 c.loop-item-test.true c.item-item.is w.in-Data.is in
          record {
            items = c.loop-item.invariant.items;
            typed = typed;
            same = omega (arith, w.next-is, c.loop-item.invariant.same, ap length fs);
            place = ap₂ (λ n e. e + all_words (drop n ps) (drop n forms)) w.next-is w.entry-is ∙ c.loop-item.invariant.place;
            rows =
                ap₂ (λ n e. map func c.match-item.rows.items ++ rows_from e others (drop n ps) (drop n forms)) w.next-is w.entry-is
                ∙ (ap₂ (λ v l. map func v.items ++ rows_from c.loop-item.entry l (drop c.loop-item.next ps) (drop c.loop-item.next forms)) w.rows-is (sym fs) ∙ c.loop-item.invariant.rows);
          }
    ]
