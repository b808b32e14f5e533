use Rattle.std.proofs.Common.{arith, length, ◌*◌}
use Rattle.image_form.specs.Tables.{func, sym, ext, desc}
use Rattle.image_form.specs.Image.{func_bytes, sym_bytes, ext_bytes, desc_bytes}
use Rattle.image_form.proofs.Lengths.{few_rows, few_roots, length-words, func_nonempty, sym_nonempty, ext_nonempty, desc_nonempty}
use Rattle.image_codec.proofs.writing.write_image.Goals as goal

pub func_table-requires-clause-few : goal.func_table-requires-clause-few
func_table-requires-clause-few c = rw c.as_slice.ensures (few_rows func func_bytes _ func_nonempty c.requires.funcs.short)

pub sym_table-requires-clause-few : goal.sym_table-requires-clause-few
sym_table-requires-clause-few c = rw c.as_slice-4.ensures (few_rows sym sym_bytes _ sym_nonempty c.requires.syms.short)

pub sym_table-requires-clause-each : goal.sym_table-requires-clause-each
sym_table-requires-clause-each c = (length c.args.image.now.bytes.items.items, rw c.as_slice-4.ensures c.requires.syms.each)

pub root_table-requires : goal.root_table-requires
root_table-requires c = rw c.as_slice-5.ensures (few_roots _ c.requires.roots.short)

pub ext_table-requires-clause-few : goal.ext_table-requires-clause-few
ext_table-requires-clause-few c = rw c.as_slice-6.ensures (few_rows ext ext_bytes _ ext_nonempty c.requires.extcs.short)

pub desc_table-requires-clause-few : goal.desc_table-requires-clause-few
desc_table-requires-clause-few c = rw c.as_slice-7.ensures (few_rows desc (desc_bytes c.args.image.now.version) _ (desc_nonempty c.args.image.now.version) c.requires.descs.short)

pub desc_table-requires-clause-each : goal.desc_table-requires-clause-each
desc_table-requires-clause-each c = (4 * length c.args.image.now.code.items.items, rw c.as_slice-7.ensures c.requires.descs.each)

pub put_section-requires-2 : goal.put_section-requires-2
put_section-requires-2 c = rw (c.deref-2.ensures.value, c.in_ok-words.ensures, c.as_slice-2.ensures, length-words) (omega (arith, c.requires.code.short))
