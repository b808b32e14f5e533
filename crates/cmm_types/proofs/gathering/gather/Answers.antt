use Rattle.std.proofs.Common.{◌≡◌, ◌<◌, [], ◌∷◌, map, get_or, length, None, ap, ◌∙◌, arith}
use Rattle.cmm_tree.specs.View.{item_view}
use Rattle.cmm_tree.specs.Symbols.{built_in, symbols_among}
use Rattle.cmm_types.specs.Gathered.{with_symbol, with_symbols, symbol_faults}
use Rattle.bs_fault.specs.Reported.{noted_all}
use Rattle.cmm_types.proofs.ItemTurns.{symbols_turn, symbol_faults_turn}
use Rattle.cmm_types.proofs.gathering.gather.Goals as goal

pub loop-item-init : goal.loop-item-init
loop-item-init c =
    let first : c.define.new.self ≡ built_in ∷ [] = c.in_ok-define.ensures.after ∙ ap (λ l. with_symbol l built_in) c.new-symbols.ensures in
    record {
      symbols = ap (λ l. with_symbols l (symbols_among (map item_view c.args.items.now))) first;
      found = ap (λ l. noted_all (symbol_faults l (symbols_among (map item_view c.args.items.now))) None) first;
    }

pub loop-item-preserved : goal.loop-item-preserved
loop-item-preserved c =
    let xs = c.args.items.now in
    let old = c.item-item.result in
    let lt : c.loop-item.item-index < length xs = omega arith in
    let at : old ≡ get_or xs c.loop-item.item-index old = c.item-item.is in
    record {
      symbols = symbols_turn xs c.loop-item.item-index old c.loop-item.all.symbols c.add_item.new.self.symbols lt at c.in_ok-add_item.ensures.symbols ∙ c.loop-item.invariant.symbols;
      found = symbol_faults_turn xs c.loop-item.item-index old c.loop-item.all.symbols c.add_item.new.self.symbols c.loop-item.all.found c.add_item.new.self.found lt at c.in_ok-add_item.ensures.symbols c.in_ok-add_item.ensures.found ∙ c.loop-item.invariant.found;
    }
