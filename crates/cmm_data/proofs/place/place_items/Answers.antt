use Rattle.std.proofs.Common.{◌≡◌, ◌∙◌, ℕ, ◌+◌, ◌%◌, ◌≤◌, ◌++◌, ◌∷◌, List, drop, map, append-nil, refl, ap, sym, arith, ◌-◌, None, Fits, w64}
use Rattle.std.proofs.lemmas.List.{at_drop_all}
use Rattle.bs_words.specs.Fits.{data_limit, data_start}
use Rattle.bs_words.specs.Memory.{StaticList}
use Rattle.bs_words.specs.declared.values.Value.{Value}
use Rattle.cmm_tree.specs.Tree.{DataItemTree}
use Rattle.cmm_tree.specs.View.{data_item_view}
use Rattle.cmm_data.specs.Placement.{size_at, items_from, end_of_items, placed_symbols}
use Rattle.cmm_data.specs.Faults.{first_fault}
use Rattle.cmm_data.specs.Contents.{bytes_at, bytes_of_items, roots_among}
use Rattle.cmm_data.specs.Filling.{cells_with}
use Rattle.cmm_data.specs.Symbols.{value_in}
use Rattle.cmm_data.specs.Map.{symbol_view}
use Rattle.cmm_data.proofs.Items.{map_drop-cons}
use Rattle.cmm_data.proofs.Walk.{IsSound, sound-first}
use Rattle.cmm_data.proofs.Steps.{symbols-step, roots-step, length-bytes_at}
use Rattle.cmm_data.proofs.place.place_items.Goals as goal

begins-next : (start address next size : ℕ) → start ≤ address → next ≡ address + size → start ≤ next
begins-next start address next size begins is = omega arith

within-next : (behind next : ℕ) → behind ≤ data_start + data_limit → behind ≡ next → next ≤ data_start + data_limit
within-next behind next within is = omega arith

fits-next : (size result address : ℕ) → address + size ≤ data_start + data_limit → result ≡ size → Fits w64 (address + result)
fits-next size result address within is = omega arith

place-next : (before after count size address : ℕ) → before ≡ address % 8 → after ≡ (before + count) % 8 → count ≡ size →
    after ≡ (address + size) % 8
place-next before after count size address place is same = omega arith

-- the items that are left begin with one that has no fault
sound-here : (address : ℕ) (left rest : List DataItemTree) (i : DataItemTree) → address ≤ data_start + data_limit →
    first_fault (items_from address left) ≡ None → left ≡ i ∷ rest → IsSound address i rest
sound-here address left rest i within faultless here =
    sound-first address i rest within (sym (ap (λ (l : List DataItemTree). first_fault (items_from address l)) here) ∙ faultless)

same-list : (start end whole : ℕ) (cells all : List Value) → end ≡ whole → cells ≡ all →
    (let S : Type 0 = StaticList in let a : S = record { start = start; size = end - start; cells = cells } in
    let b : S = record { start = start; size = whole - start; cells = all } in a ≡ b)
same-list start end whole cells all is same =
    ap (λ e. (let l : StaticList = record { start = start; size = e - start; cells = cells } in l)) is
    ∙ ap (λ (v : List Value). (let l : StaticList = record { start = start; size = whole - start; cells = v } in l)) same

pub loop-item-init : goal.loop-item-init
loop-item-init c =
    record {
      begins = omega arith;
      within = c.requires.within;
      faultless = c.requires.faultless;
      end = refl;
      small = rw c.new-filling.ensures.pending (omega arith);
      place = rw c.new-filling.ensures.pending (sym c.requires.aligned);
      symbols = refl;
      roots = refl;
      cells = rw (c.new-filling.ensures.cells, c.new-filling.ensures.pending) refl;
    }

pub put_datum-requires-clause-rule : goal.put_datum-requires-clause-rule
put_datum-requires-clause-rule c =
    let k = c.loop-item.item-index in
    let items = c.args.items.now in
    let here = map_drop-cons data_item_view items k c.item-item.result c.loop-item-test.true c.item-item.is in
    let sound = sound-here c.loop-item.address (map data_item_view (drop k items)) (map data_item_view (drop (k + 1) items)) (data_item_view c.item-item.result)
    c.loop-item.invariant.within c.loop-item.invariant.faultless here in
    sound.rule

pub put_datum-requires-clause-place : goal.put_datum-requires-clause-place
put_datum-requires-clause-place c = c.loop-item.invariant.place

pub overflow_add-address : goal.overflow_add-address
overflow_add-address c =
    let k = c.loop-item.item-index in
    let items = c.args.items.now in
    let here = map_drop-cons data_item_view items k c.item-item.result c.loop-item-test.true c.item-item.is in
    let sound = sound-here c.loop-item.address (map data_item_view (drop k items)) (map data_item_view (drop (k + 1) items)) (data_item_view c.item-item.result)
    c.loop-item.invariant.within c.loop-item.invariant.faultless here in
    fits-next _ _ c.loop-item.address sound.within c.size_at-address.ensures

pub loop-item-preserved : goal.loop-item-preserved
loop-item-preserved c =
    let k = c.loop-item.item-index in
    let items = c.args.items.now in
    let i = data_item_view c.item-item.result in
    let rest = map data_item_view (drop (k + 1) items) in
    let address = c.loop-item.address in
    let behind = address + size_at address i.datum in
    let next = address + c.size_at-address.result in
    let values = value_in c.args.table.now in
    let here : map data_item_view (drop k items) ≡ i ∷ rest =
    map_drop-cons data_item_view items k c.item-item.result c.loop-item-test.true c.item-item.is in
    let sound = sound-here address (map data_item_view (drop k items)) rest i c.loop-item.invariant.within c.loop-item.invariant.faultless here in
    let moved : behind ≡ next = ap (λ n. address + n) (sym c.size_at-address.ensures) in
    let symbols_before = map symbol_view c.loop-item.symbols.items in
    let symbols_after = map symbol_view c.add_symbol.new.symbols.items in
    let roots_before = c.loop-item.roots.items in
    let roots_after = c.add_root.new.roots.items in
    record {
      begins = begins-next c.args.start address next c.size_at-address.result c.loop-item.invariant.begins refl;
      within = within-next behind next sound.within moved;
      faultless = sym (ap (λ e. first_fault (items_from e rest)) moved) ∙ sound.behind;
      end =
          c.loop-item.invariant.end
          ∙ ap (λ (l : List DataItemTree). end_of_items address l) here
          ∙ ap (λ e. end_of_items e rest) moved;
      small = c.in_ok-put_datum.ensures.small;
      place =
          place-next _ _ _ _ address c.loop-item.invariant.place c.in_ok-put_datum.ensures.count
          (length-bytes_at values address i.datum ∙ sym c.size_at-address.ensures);
      symbols =
          c.loop-item.invariant.symbols
          ∙ ap (λ (l : List DataItemTree). symbols_before ++ placed_symbols (items_from address l)) here
          ∙ symbols-step symbols_before symbols_after address i rest c.in_ok-add_symbol.ensures
          ∙ ap (λ e. symbols_after ++ placed_symbols (items_from e rest)) moved;
      roots =
          c.loop-item.invariant.roots
          ∙ ap (λ (l : List DataItemTree). roots_before ++ roots_among (items_from address l)) here
          ∙ roots-step roots_before roots_after address i rest c.in_ok-add_root.ensures
          ∙ ap (λ e. roots_after ++ roots_among (items_from e rest)) moved;
      cells =
          c.loop-item.invariant.cells
          ∙ ap (λ (l : List DataItemTree). cells_with c.loop-item.filling (bytes_of_items values (items_from address l))) here
          ∙ sym (c.in_ok-put_datum.ensures.cells (bytes_of_items values (items_from behind rest)))
          ∙ ap (λ e. cells_with c.put_datum.new.self (bytes_of_items values (items_from e rest))) moved;
    }

pub returns-clause-list : goal.returns-clause-list
returns-clause-list c =
    let k = c.loop-item.item-index in
    let items = c.args.items.now in
    let address = c.loop-item.address in
    let values = value_in c.args.table.now in
    let end = c.loop-item.invariant.end ∙ at_drop_all (λ l. end_of_items address (map data_item_view l)) items k c.loop-item-test.false in
    let cells =
    c.loop-item.invariant.cells
    ∙ at_drop_all (λ l. cells_with c.loop-item.filling (bytes_of_items values (items_from address (map data_item_view l)))) items k c.loop-item-test.false in
    same-list c.args.start address _ _ _ (sym end) (c.from_vec.ensures ∙ c.in_ok-cells.ensures ∙ sym cells)

pub returns-clause-symbols : goal.returns-clause-symbols
returns-clause-symbols c =
    let address = c.loop-item.address in
    let symbols = map symbol_view c.loop-item.symbols.items in
    sym (c.loop-item.invariant.symbols
    ∙ at_drop_all (λ l. symbols ++ placed_symbols (items_from address (map data_item_view l))) c.args.items.now c.loop-item.item-index c.loop-item-test.false
    ∙ append-nil symbols)

pub returns-clause-roots : goal.returns-clause-roots
returns-clause-roots c =
    let address = c.loop-item.address in
    let roots = c.loop-item.roots.items in
    sym (c.loop-item.invariant.roots
    ∙ at_drop_all (λ l. roots ++ roots_among (items_from address (map data_item_view l))) c.args.items.now c.loop-item.item-index c.loop-item-test.false
    ∙ append-nil roots)
