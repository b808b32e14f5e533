use Rattle.std.proofs.Common.{map, ap, ◌∙◌, arith}
use Rattle.std.specs.Prelude.{sum_by}
use Rattle.function_places.proofs.Bounds.{all_most}
use Rattle.function_places.proofs.Starts.{own_forms, own_words, starts, starts_step, starts_done, forms_laid, starts_laid, words_laid}
use Rattle.function_places.proofs.Sums.{sum_step, sum_done}
use Rattle.function_places.proofs.places.Places.of.Goals as goal

pub overflow_add-at : goal.overflow_add-at
overflow_add-at g c =
    let ps = c.args.pieces.now in
    let all = c.in_ok-forms.forms.items in
    let step = sum_step own_words c.as_slice-functions.result.now c.loop-function.function-index c.function-item.result c.loop-function.at _ c.loop-function-test.true c.function-item.is c.loop-function.invariant.end in
    omega (arith, step, ap (sum_by own_words) c.as_slice-functions.ensures.value, words_laid ps all c.in_ok-forms.ensures, all_most ps (map own_forms all), c.requires.few)

pub loop-function-preserved : goal.loop-function-preserved
loop-function-preserved g c =
    let all = c.as_slice-functions.result.now in
    let i = c.loop-function.function-index in
    record {
      end = sum_step own_words all i c.function-item.result c.loop-function.at _ c.loop-function-test.true c.function-item.is c.loop-function.invariant.end;
      entries = starts_step all i c.function-item.result c.loop-function.at c.loop-function.entries.items _ _ c.loop-function-test.true c.function-item.is c.in_ok-push.ensures.items c.loop-function.invariant.entries;
    }

pub returns : goal.returns
returns g c =
    let ps = c.args.pieces.now in
    let all = c.in_ok-forms.forms.items in
    let each = c.in_ok-forms.ensures in
    let same = c.as_slice-functions.ensures.value in
    let i = c.loop-function.function-index in
    let end = sum_done own_words c.as_slice-functions.result.now i c.loop-function.at _ c.loop-function-test.false c.loop-function.invariant.end in
    let entries = starts_done c.as_slice-functions.result.now i c.loop-function.at c.loop-function.entries.items _ c.loop-function-test.false c.loop-function.invariant.entries in
    record {
      each = each;
      forms = forms_laid ps all each;
      entries = entries ∙ (ap (starts 4) same ∙ starts_laid 4 ps all each);
      end = omega (arith, end, ap (sum_by own_words) same, words_laid ps all each);
    }
