use Rattle.std.proofs.Common.{◌≡◌, ◌∙◌, ◌+◌, suc, refl, ap, sym, arith, List, [], ◌∷◌, drop, length, map, None, Option}
use Rattle.std.specs.Option.{option_or}
use Rattle.bs_words.specs.declared.values.Value.{Value}
use Rattle.bs_words.specs.declared.values.Value.TheVariants as value
use Rattle.cmm_tree.specs.Tree.{ItemTree, AFunction, AData, data_among, functions_among}
use Rattle.cmm_tree.specs.View.{item_view, function_view, data_list_view}
use Rattle.cmm_data.specs.Placement.{DefinedValue, start_behind, items_from, end_behind, lists_behind, items_of_lists, defined_from, defined_by_list, value_among}
use Rattle.bs_words.specs.Symbol.{caml_bound_error}
use Rattle.cmm_data.specs.Faults.{first_fault}
use Rattle.cmm_data.specs.Symbols.{value_in, AddsDefinitions}
use Rattle.cmm_data.proofs.Items.{map_drop-cons}
use Rattle.cmm_data.proofs.Walk.{sound-list}
use Rattle.cmm_data.proofs.Table.{adds-later, value_in-empty}
use Rattle.cmm_data.proofs.symbols.SymbolTable.of_file.Goals as goal
use Rattle.cmm_data.proofs.symbols.SymbolTable.of_file.Goals.{in-Function+in_ok-define-in-Function, in-Data+in_ok-end-in-Data}

pub loop-item-init : goal.loop-item-init
loop-item-init c =
    let first : AddsDefinitions (record { values = c.new.result }) c.define.new.self (record { name = caml_bound_error; value = value.Word 268435456 } ∷ []) = c.in_ok-define.ensures in
    record {
      within = omega arith;
      faultless = rw c.as_slice-item-items.ensures c.requires.data;
      counted =
          let all = ap (λ l. length (functions_among (map item_view l))) c.as_slice-item-items.ensures in
          omega (arith, all);
      has = λ name.
          let rest = defined_from 0 268435464 (map item_view c.args.file.now.items.items.items) in
          let whole : option_or (value_in (record { values = c.new.result }) name) (value_among (record { name = caml_bound_error; value = value.Word 268435456 } ∷ rest) name)
          ≡ option_or (value_in c.define.new.self name) (value_among rest name) =
          adds-later (record { values = c.new.result }) c.define.new.self (record { name = caml_bound_error; value = value.Word 268435456 } ∷ []) rest first name in
          let none : value_in (record { values = c.new.result }) name ≡ None = value_in-empty (record { values = c.new.result }) c.new.ensures.empty name in
          sym (ap (λ (v : Option Value). option_or v (value_among (record { name = caml_bound_error; value = value.Word 268435456 } ∷ rest) name)) none)
          ∙ whole
          ∙ rw c.as_slice-item-items.ensures refl;
    }

pub define_items-requires-clause-faultless : goal.define_items-requires-clause-faultless
define_items-requires-clause-faultless c =
    let k = c.loop-item.item-index in
    let items = c.as_slice-item-items.result.now in
    let rest = map item_view (drop (k + 1) items) in
    let d = data_list_view c.in-Data.list in
    let here : map item_view (drop k items) ≡ AData d ∷ rest =
    map_drop-cons item_view items k c.item-item.result c.loop-item-test.true c.item-item.is
    ∙ ap (λ i. item_view i ∷ rest) c.in-Data.is in
    let sound = sound-list c.loop-item.end d (data_among rest)
    (sym (ap (λ (l : List ItemTree). first_fault (items_of_lists (lists_behind c.loop-item.end (data_among l)))) here) ∙ c.loop-item.invariant.faultless) in
    let none : first_fault (items_from (start_behind c.loop-item.end) d.items) ≡ None = sound.0 in
    cc (none, c.start_behind.ensures, c.as_slice.ensures)

pub loop-item-preserved : goal.loop-item-preserved
loop-item-preserved c = elim c.match-item.branch [
  | in-Function+in_ok-define-in-Function w ↦
      let k = c.loop-item.item-index in
      let items = c.as_slice-item-items.result.now in
      let rest = map item_view (drop (k + 1) items) in
      let f = function_view w.in-Function.function in
      let here : map item_view (drop k items) ≡ AFunction f ∷ rest =
      map_drop-cons item_view items k c.item-item.result c.loop-item-test.true c.item-item.is
      ∙ ap (λ i. item_view i ∷ rest) w.in-Function.is in
      let d : DefinedValue = record { name = f.name; value = value.Function c.loop-item.functions } in
      let adds : AddsDefinitions c.loop-item.table w.define-in-Function.new.self (d ∷ []) = rw w.as_bytes.ensures at w.in_ok-define-in-Function.ensures in
      let next : suc c.loop-item.functions ≡ c.match-item.functions = omega (arith, w.functions-is) in
      let stays : c.loop-item.end ≡ c.match-item.end = sym w.end-is in
      record {
        within = omega (arith, c.loop-item.invariant.within, w.end-is);
        faultless =
            sym (ap (λ (l : List ItemTree). first_fault (items_of_lists (lists_behind c.loop-item.end (data_among l)))) here
            ∙ ap (λ e. first_fault (items_of_lists (lists_behind e (data_among rest)))) stays)
            ∙ c.loop-item.invariant.faultless;
        counted =
            let all = ap (λ l. length (functions_among l)) here in
            let before = c.loop-item.invariant.counted in
            omega (arith, all, before, next);
        has = λ name.
            c.loop-item.invariant.has name
            ∙ ap (λ (l : List ItemTree). option_or (value_in c.loop-item.table name) (value_among (defined_from c.loop-item.functions c.loop-item.end l) name)) here
            ∙ adds-later c.loop-item.table w.define-in-Function.new.self (d ∷ []) (defined_from (suc c.loop-item.functions) c.loop-item.end rest) adds name
            ∙ ap (λ n. option_or (value_in w.define-in-Function.new.self name) (value_among (defined_from n c.loop-item.end rest) name)) next
            ∙ ap (λ e. option_or (value_in w.define-in-Function.new.self name) (value_among (defined_from c.match-item.functions e rest) name)) stays
            ∙ ap (λ t. option_or (value_in t name) (value_among (defined_from c.match-item.functions c.match-item.end rest) name)) (sym w.table-is);
      }
  | in-Data+in_ok-end-in-Data w ↦
      let k = c.loop-item.item-index in
      let items = c.as_slice-item-items.result.now in
      let rest = map item_view (drop (k + 1) items) in
      let d = data_list_view w.in-Data.list in
      let here : map item_view (drop k items) ≡ AData d ∷ rest =
      map_drop-cons item_view items k c.item-item.result c.loop-item-test.true c.item-item.is
      ∙ ap (λ i. item_view i ∷ rest) w.in-Data.is in
      let sound = sound-list c.loop-item.end d (data_among rest)
      (sym (ap (λ (l : List ItemTree). first_fault (items_of_lists (lists_behind c.loop-item.end (data_among l)))) here) ∙ c.loop-item.invariant.faultless) in
      let adds : AddsDefinitions c.loop-item.table w.define_items.new.self (defined_by_list c.loop-item.end d) =
      rw (w.start_behind.ensures, w.as_slice.ensures) at w.in_ok-end-in-Data.ensures.adds in
      let behind : end_behind c.loop-item.end d ≡ c.match-item.end =
      cc (w.in_ok-end-in-Data.ensures.end, w.start_behind.ensures, w.as_slice.ensures, w.end-is) in
      record {
        within = omega (arith, w.in_ok-end-in-Data.ensures.within, w.end-is);
        faultless = sym (ap (λ e. first_fault (items_of_lists (lists_behind e (data_among rest)))) behind) ∙ sound.1;
        counted =
            let all = ap (λ l. length (functions_among l)) here in
            let before = c.loop-item.invariant.counted in
            omega (arith, all, before, w.functions-is);
        has = λ name.
            c.loop-item.invariant.has name
            ∙ ap (λ (l : List ItemTree). option_or (value_in c.loop-item.table name) (value_among (defined_from c.loop-item.functions c.loop-item.end l) name)) here
            ∙ adds-later c.loop-item.table w.define_items.new.self (defined_by_list c.loop-item.end d) (defined_from c.loop-item.functions (end_behind c.loop-item.end d) rest) adds name
            ∙ ap (λ n. option_or (value_in w.define_items.new.self name) (value_among (defined_from n (end_behind c.loop-item.end d) rest) name)) (sym w.functions-is)
            ∙ ap (λ e. option_or (value_in w.define_items.new.self name) (value_among (defined_from c.match-item.functions e rest) name)) behind
            ∙ ap (λ t. option_or (value_in t name) (value_among (defined_from c.match-item.functions c.match-item.end rest) name)) (sym w.table-is);
      }
]
