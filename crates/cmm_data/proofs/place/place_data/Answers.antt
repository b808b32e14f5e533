use Rattle.std.proofs.Common.{◌≡◌, ◌∙◌, ℕ, ◌+◌, ◌-◌, ◌≤◌, ◌++◌, ◌∷◌, [], List, drop, map, ap, sym, arith, None}
use Rattle.std.proofs.lemmas.List.{map-append}
use Rattle.bs_words.specs.Fits.{data_limit, data_start}
use Rattle.bs_words.specs.Memory.{StaticList}
use Rattle.cmm_tree.specs.Tree.{ItemTree, AData, DataListTree, data_among}
use Rattle.cmm_tree.specs.View.{item_view, file_view, data_list_view}
use Rattle.cmm_data.specs.Placement.{start_behind, items_from, end_behind, end_of_lists, lists_behind, items_of_lists, placed_symbols, value_of_symbol}
use Rattle.cmm_data.specs.Faults.{first_fault}
use Rattle.cmm_data.specs.Contents.{static_list, roots_among}
use Rattle.cmm_data.specs.Symbols.{value_in}
use Rattle.cmm_data.specs.Map.{symbol_view, cells_view}
use Rattle.cmm_data.proofs.Items.{map_drop-cons}
use Rattle.cmm_data.proofs.Walk.{sound-list, start-within}
use Rattle.cmm_data.proofs.Steps.{end-within, symbols-list, roots-list, lists-list, placed_list}
use Rattle.cmm_data.proofs.place.place_data.Goals as goal
use Rattle.cmm_data.proofs.place.place_data.Goals.{in-Data+in_ok-placed+in_ok-push, in_default}

ends-there : (begin end start size first second whole : ℕ) → start ≡ begin → size ≡ end - begin → first ≡ start → second ≡ size →
    whole ≡ first + second → begin ≤ end → end ≡ whole
ends-there begin end start size first second whole a b d e is within = omega arith

begins-there : (end behind whole : ℕ) → data_start ≤ end → start_behind end ≤ behind → behind ≡ whole → data_start ≤ whole
begins-there end behind whole begins within is = omega arith

within-there : (behind whole : ℕ) → behind ≤ data_start + data_limit → behind ≡ whole → whole ≤ data_start + data_limit
within-there behind whole within is = omega arith

pub place_items-requires-clause-faultless : goal.place_items-requires-clause-faultless
place_items-requires-clause-faultless c =
    let k = c.loop-item.item-index in
    let items = c.as_slice-item-items.result.now in
    let rest = map item_view (drop (k + 1) items) in
    let d = data_list_view c.in-Data.list in
    let here : map item_view (drop k items) ≡ AData d ∷ rest =
    map_drop-cons item_view items k c.item-item.result c.loop-item-test.true c.item-item.is
    ∙ ap (λ i. item_view i ∷ rest) c.in-Data.is in
    let sound = sound-list c.loop-item.end d (data_among rest)
    (sym (ap (λ (l : List ItemTree). first_fault (items_of_lists (lists_behind c.loop-item.end (data_among l)))) here) ∙ c.loop-item.invariant.faultless) in
    let none : first_fault (items_from (start_behind c.loop-item.end) d.items) ≡ None = sound.0 in
    cc (none, c.start_behind-start.ensures, c.as_slice-items.ensures)

pub loop-item-preserved : goal.loop-item-preserved
loop-item-preserved c =
    elim c.match-item.branch [
      | in-Data+in_ok-placed+in_ok-push w ↦
          let k = c.loop-item.item-index in
          let items = c.as_slice-item-items.result.now in
          let rest = map item_view (drop (k + 1) items) in
          let end = c.loop-item.end in
          let f = value_of_symbol (file_view c.args.file.now) in
          let d = data_list_view w.in-Data.list in
          let here : map item_view (drop k items) ≡ AData d ∷ rest =
          map_drop-cons item_view items k c.item-item.result c.loop-item-test.true c.item-item.is
          ∙ ap (λ i. item_view i ∷ rest) w.in-Data.is in
          let sound = sound-list end d (data_among rest)
          (sym (ap (λ (l : List ItemTree). first_fault (items_of_lists (lists_behind end (data_among l)))) here) ∙ c.loop-item.invariant.faultless) in
          let ends = end-within (start_behind end) d.items (start-within end c.loop-item.invariant.within) sound.0 in
          let placed : cells_view w.in_ok-placed.placed ≡ static_list (value_in c.in_ok-table.table) (placed_list end d) =
          rw (w.start_behind-start.ensures, w.as_slice-items.ensures) at w.in_ok-placed.ensures.list in
          let added_symbols : map symbol_view w.place_items.new.symbols.items ≡ map symbol_view c.loop-item.symbols.items ++ placed_symbols (items_from (start_behind end) d.items) =
          rw (w.start_behind-start.ensures, w.as_slice-items.ensures) at w.in_ok-placed.ensures.symbols in
          let added_roots : w.place_items.new.roots.items ≡ c.loop-item.roots.items ++ roots_among (items_from (start_behind end) d.items) =
          rw (w.start_behind-start.ensures, w.as_slice-items.ensures) at w.in_ok-placed.ensures.roots in
          let start : w.in_ok-placed.placed.start ≡ start_behind end = ap (λ (l : StaticList). l.start) placed in
          let size : w.in_ok-placed.placed.size ≡ end_behind end d - start_behind end = ap (λ (l : StaticList). l.size) placed in
          let behind : end_behind end d ≡ c.match-item.end = ends-there _ _ _ _ _ _ _ start size w.from.ensures w.from-in-Data.ensures w.end-is ends.0 in
          let pushed : map cells_view w.push.new.self.items ≡ map cells_view c.loop-item.lists.items ++ cells_view w.in_ok-placed.placed ∷ [] =
          ap (map cells_view) w.in_ok-push.ensures.items ∙ map-append cells_view c.loop-item.lists.items (w.in_ok-placed.placed ∷ []) in
          record {
            begins = begins-there end (end_behind end d) c.match-item.end c.loop-item.invariant.begins ends.0 behind;
            within = within-there (end_behind end d) c.match-item.end ends.1 behind;
            faultless = sym (ap (λ e. first_fault (items_of_lists (lists_behind e (data_among rest)))) behind) ∙ sound.1;
            end =
                c.loop-item.invariant.end
                ∙ ap (λ (l : List ItemTree). end_of_lists end (data_among l)) here
                ∙ ap (λ e. end_of_lists e (data_among rest)) behind;
            symbols =
                c.loop-item.invariant.symbols
                ∙ ap (λ (l : List ItemTree). map symbol_view c.loop-item.symbols.items ++ placed_symbols (items_of_lists (lists_behind end (data_among l)))) here
                ∙ symbols-list (map symbol_view c.loop-item.symbols.items) (map symbol_view w.place_items.new.symbols.items) end d (data_among rest) added_symbols
                ∙ ap (λ e. map symbol_view w.place_items.new.symbols.items ++ placed_symbols (items_of_lists (lists_behind e (data_among rest)))) behind
                ∙ ap (λ v. map symbol_view v.items ++ placed_symbols (items_of_lists (lists_behind c.match-item.end (data_among rest)))) (sym w.symbols-is);
            roots =
                c.loop-item.invariant.roots
                ∙ ap (λ (l : List ItemTree). c.loop-item.roots.items ++ roots_among (items_of_lists (lists_behind end (data_among l)))) here
                ∙ roots-list c.loop-item.roots.items w.place_items.new.roots.items end d (data_among rest) added_roots
                ∙ ap (λ e. w.place_items.new.roots.items ++ roots_among (items_of_lists (lists_behind e (data_among rest)))) behind
                ∙ ap (λ v. v.items ++ roots_among (items_of_lists (lists_behind c.match-item.end (data_among rest)))) (sym w.roots-is);
            lists =
                c.loop-item.invariant.lists
                ∙ ap (λ (l : List ItemTree). map cells_view c.loop-item.lists.items ++ map (static_list f) (lists_behind end (data_among l))) here
                ∙ lists-list (map cells_view c.loop-item.lists.items) (map cells_view w.push.new.self.items) (cells_view w.in_ok-placed.placed)
                f (value_in c.in_ok-table.table) end d (data_among rest) pushed placed c.in_ok-table.ensures.each
                ∙ ap (λ e. map cells_view w.push.new.self.items ++ map (static_list f) (lists_behind e (data_among rest))) behind
                ∙ ap (λ v. map cells_view v.items ++ map (static_list f) (lists_behind c.match-item.end (data_among rest))) (sym w.lists-is);
          }
      | in_default w ↦
          let k = c.loop-item.item-index in
          let items = c.as_slice-item-items.result.now in
          let rest = map item_view (drop (k + 1) items) in
          let end = c.loop-item.end in
          let f = value_of_symbol (file_view c.args.file.now) in
          let here : data_among (map item_view (drop k items)) ≡ data_among rest =
          ap data_among (map_drop-cons item_view items k c.item-item.result c.loop-item-test.true c.item-item.is
          ∙ ap (λ i. item_view i ∷ rest) w.in_default.is) in
          let stays : end ≡ c.match-item.end = sym w.end-is in
          record {
            begins = omega (arith, c.loop-item.invariant.begins, w.end-is);
            within = within-there end c.match-item.end c.loop-item.invariant.within stays;
            faultless =
                sym (ap (λ (l : List DataListTree). first_fault (items_of_lists (lists_behind end l))) here
                ∙ ap (λ e. first_fault (items_of_lists (lists_behind e (data_among rest)))) stays)
                ∙ c.loop-item.invariant.faultless;
            end =
                c.loop-item.invariant.end
                ∙ ap (λ (l : List DataListTree). end_of_lists end l) here
                ∙ ap (λ e. end_of_lists e (data_among rest)) stays;
            symbols =
                c.loop-item.invariant.symbols
                ∙ ap (λ (l : List DataListTree). map symbol_view c.loop-item.symbols.items ++ placed_symbols (items_of_lists (lists_behind end l))) here
                ∙ ap (λ e. map symbol_view c.loop-item.symbols.items ++ placed_symbols (items_of_lists (lists_behind e (data_among rest)))) stays
                ∙ ap (λ v. map symbol_view v.items ++ placed_symbols (items_of_lists (lists_behind c.match-item.end (data_among rest)))) (sym w.symbols-is);
            roots =
                c.loop-item.invariant.roots
                ∙ ap (λ (l : List DataListTree). c.loop-item.roots.items ++ roots_among (items_of_lists (lists_behind end l))) here
                ∙ ap (λ e. c.loop-item.roots.items ++ roots_among (items_of_lists (lists_behind e (data_among rest)))) stays
                ∙ ap (λ v. v.items ++ roots_among (items_of_lists (lists_behind c.match-item.end (data_among rest)))) (sym w.roots-is);
            lists =
                c.loop-item.invariant.lists
                ∙ ap (λ (l : List DataListTree). map cells_view c.loop-item.lists.items ++ map (static_list f) (lists_behind end l)) here
                ∙ ap (λ e. map cells_view c.loop-item.lists.items ++ map (static_list f) (lists_behind e (data_among rest))) stays
                ∙ ap (λ v. map cells_view v.items ++ map (static_list f) (lists_behind c.match-item.end (data_among rest))) (sym w.lists-is);
          }
    ]
