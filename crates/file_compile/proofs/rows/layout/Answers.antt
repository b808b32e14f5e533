use Rattle.std.proofs.Common.{◌+◌, ◌∙◌, arith}
use Rattle.bs_words.specs.Contents.{contents}
use Rattle.image_form.specs.declared.image.FuncRow.{FuncRow}
use Rattle.rv_machine.specs.Memory.{code_start}
use Rattle.file_compile.proofs.LayoutRows.{whole_map, same_layout}
use Rattle.file_compile.proofs.rows.layout.Goals as goal

pub returns : goal.returns
returns c =
    same_layout c.args.image.now.funcs.items.items (contents c.from_vec-frames.result) (contents c.from_vec-addresses.result)
    (c.from_vec-frames.ensures ∙ whole_map (λ (r : FuncRow). r.frame) c.as_slice-row-items.result.now c.args.image.now.funcs.items.items c.loop-row.frames.items c.loop-row.row-index c.as_slice-row-items.ensures (omega (arith, c.loop-row-test.false)) c.loop-row.invariant.0)
    (c.from_vec-addresses.ensures ∙ whole_map (λ (r : FuncRow). code_start + r.offset) c.as_slice-row-items.result.now c.args.image.now.funcs.items.items c.loop-row.addresses.items c.loop-row.row-index c.as_slice-row-items.ensures (omega (arith, c.loop-row-test.false)) c.loop-row.invariant.1)
