use Rattle.std.proofs.Common.{◌≡◌, ◌++◌, ℕ, List, ap, ◌∙◌}
use Rattle.bs_words.specs.Contents.{contents}
use Rattle.file_compile.proofs.Texts.{texts_more}
use Rattle.file_compile.proofs.files.all_texts.Goals as goal

pub loop-function-preserved : goal.loop-function-preserved
loop-function-preserved c =
    let text = c.loop-function.text.items in
    let own = contents c.in_ok-own.own in
    let longer : c.extend_from_slice.new.self.items ≡ text ++ c.as_slice.result.now = c.in_ok-extend_from_slice.ensures.items in
    let listed : c.as_slice.result.now ≡ own = c.as_slice.ensures in
    texts_more c.args.choices c.args.stage c.args.functions.now c.loop-function.function-index c.function-item.result text own c.extend_from_slice.new.self.items
    c.loop-function-test.true c.function-item.is (longer ∙ ap (λ (l : List ℕ). text ++ l) listed) c.in_ok-own.ensures c.loop-function.invariant
