use Rattle.std.proofs.Common.{◌∙◌, sym, map, arith}
use Rattle.std.proofs.lemmas.Result.{err_from_is_err_and}
use Rattle.cmm_tree.specs.View.{item_view}
use Rattle.cmm_grammar.specs.Grammar.{an_item}
use Rattle.cmm_grammar.specs.Reading.{reads}
use Rattle.cmm_parts.specs.Results.{trees}
use Rattle.cmm_reader.proofs.ItemLists.{items-start, item-shorter, item-on, item-out}
use Rattle.cmm_reader.proofs.items.items.Goals as goal

pub loop-rest-init : goal.loop-rest-init
loop-rest-init c =
    record {
      going = rw c.new-items.ensures.items (items-start (reads an_item c.args.depth) (trees c.args.source.now c.args.tokens.now));
      within = omega arith;
    }

pub returns-in_err-item : goal.returns-in_err-item
returns-in_err-item c =
    let p = err_from_is_err_and c.from_residual.result c.from_residual.ensures.1 in
    rw (p.1, p.2)
    (item-out c.args.depth c.args.source.now (trees c.args.source.now c.args.tokens.now) (map item_view c.loop-rest.items.items) c.loop-rest.rest.now
    c.loop-rest.invariant.going (sym c.is_empty.ensures ∙ c.loop-rest-test.true) _ c.in_err-item.ensures)

pub overflow_sub-count : goal.overflow_sub-count
overflow_sub-count c =
    let l = item-shorter c.args.depth c.args.source.now c.loop-rest.rest.now c.in_ok-item.behind.now _ (sym c.is_empty.ensures ∙ c.loop-rest-test.true) c.in_ok-item.ensures in
    omega (arith, l)

pub overflow_cast-count : goal.overflow_cast-count
overflow_cast-count c =
    let few = c.requires in
    let within = c.loop-rest.invariant.within in
    omega (arith, few, within)

pub loop-rest-smaller : goal.loop-rest-smaller
loop-rest-smaller c =
    item-shorter c.args.depth c.args.source.now c.loop-rest.rest.now c.in_ok-item.behind.now _ (sym c.is_empty.ensures ∙ c.loop-rest-test.true) c.in_ok-item.ensures

pub loop-rest-preserved : goal.loop-rest-preserved
loop-rest-preserved c =
    let l = item-shorter c.args.depth c.args.source.now c.loop-rest.rest.now c.in_ok-item.behind.now _ (sym c.is_empty.ensures ∙ c.loop-rest-test.true) c.in_ok-item.ensures in
    let within = c.loop-rest.invariant.within in
    record {
      going =
          item-on c.args.depth c.args.source.now (trees c.args.source.now c.args.tokens.now) c.loop-rest.items.items c.push.new.self.items c.in_ok-item.item c.counted.result
          c.loop-rest.rest.now c.in_ok-item.behind.now c.loop-rest.invariant.going (sym c.is_empty.ensures ∙ c.loop-rest-test.true) c.in_ok-item.ensures c.counted.ensures c.in_ok-push.ensures.items;
      within = omega (arith, l, within);
    }
