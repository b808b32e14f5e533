use Rattle.std.proofs.Common.{ap, arith}
use Rattle.std.specs.Prelude.{sum_by}
use Rattle.assemble.specs.Sizes.{item_size, symbol_size, descs_size}
use Rattle.assemble.proofs.Bounds.{end_most}
use Rattle.assemble.proofs.Sized.{sized}
use Rattle.assemble.proofs.Steps.{descs_laid}
use Rattle.assemble.proofs.source.Source.sizes.Goals as goal

pub items_size-requires : goal.items_size-requires
items_size-requires c =
    let it = sized c.args.self.now c.requires.source c.args.calls.now c.requires.calls in
    omega (arith, it.funcs_few, ap (sum_by item_size) c.as_slice.ensures)

pub overflow_add-result : goal.overflow_add-result
overflow_add-result c =
    let it = sized c.args.self.now c.requires.source c.args.calls.now c.requires.calls in
    omega (arith, it.funcs_few, c.items_size.ensures, ap (sum_by item_size) c.as_slice.ensures)

pub overflow_mul-result : goal.overflow_mul-result
overflow_mul-result c =
    let it = sized c.args.self.now c.requires.source c.args.calls.now c.requires.calls in
    omega (arith, end_most c.args.self.now c.requires.source)

pub symbols_size-requires : goal.symbols_size-requires
symbols_size-requires c =
    let it = sized c.args.self.now c.requires.source c.args.calls.now c.requires.calls in
    omega (arith, it.syms_few, ap (sum_by symbol_size) c.as_slice-2.ensures)

pub overflow_add-result-2 : goal.overflow_add-result-2
overflow_add-result-2 c =
    let it = sized c.args.self.now c.requires.source c.args.calls.now c.requires.calls in
    omega (arith, it.syms_few, c.symbols_size.ensures, ap (sum_by symbol_size) c.as_slice-2.ensures)

pub overflow_mul-result-2 : goal.overflow_mul-result-2
overflow_mul-result-2 c =
    let it = sized c.args.self.now c.requires.source c.args.calls.now c.requires.calls in
    omega (arith, it.roots_few, c.len.ensures, c.from.ensures)

pub overflow_add-result-3 : goal.overflow_add-result-3
overflow_add-result-3 c =
    let it = sized c.args.self.now c.requires.source c.args.calls.now c.requires.calls in
    omega (arith, it.roots_few, c.len.ensures, c.from.ensures)

pub calls_size-requires : goal.calls_size-requires
calls_size-requires c =
    let it = sized c.args.self.now c.requires.source c.args.calls.now c.requires.calls in
    omega (arith, it.calls_few)

pub overflow_add-result-4 : goal.overflow_add-result-4
overflow_add-result-4 c =
    let it = sized c.args.self.now c.requires.source c.args.calls.now c.requires.calls in
    omega (arith, it.calls_few, c.calls_size.ensures)

pub descs_size-requires : goal.descs_size-requires
descs_size-requires c =
    let s = c.args.self.now in
    let it = sized s c.requires.source c.args.calls.now c.requires.calls in
    omega (arith, it.descs_few, descs_laid s.pieces.now s.places.now.forms.items c.requires.source.places.each, ap (sum_by descs_size) c.as_slice-3.ensures.value)

pub overflow_add-result-5 : goal.overflow_add-result-5
overflow_add-result-5 c =
    let s = c.args.self.now in
    let it = sized s c.requires.source c.args.calls.now c.requires.calls in
    omega (arith, it.descs_few, c.descs_size.ensures, descs_laid s.pieces.now s.places.now.forms.items c.requires.source.places.each, ap (sum_by descs_size) c.as_slice-3.ensures.value)

pub returns : goal.returns
returns c =
    let s = c.args.self.now in
    let it = sized s c.requires.source c.args.calls.now c.requires.calls in
    record {
      funcs = omega (arith, it.funcs, c.items_size.ensures, ap (sum_by item_size) c.as_slice.ensures);
      code = it.code;
      data_bytes = omega (arith, it.bytes, c.from.ensures);
      syms = omega (arith, it.syms, c.symbols_size.ensures, ap (sum_by symbol_size) c.as_slice-2.ensures);
      roots = omega (arith, it.roots, c.len.ensures);
      extcs = omega (arith, it.extcs, c.calls_size.ensures);
      descs = omega (arith, it.descs, c.descs_size.ensures, descs_laid s.pieces.now s.places.now.forms.items c.requires.source.places.each, ap (sum_by descs_size) c.as_slice-3.ensures.value);
    }
