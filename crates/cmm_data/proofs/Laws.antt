-- The memory that a run begins with ends where the data ends.
use Rattle.std.proofs.Common.{◌≡◌, ◌∙◌, ℕ, ◌+◌, ◌-◌, ◌≤◌, List, [], ◌∷◌, Option, map, refl, ap, arith}
use Rattle.bs_words.specs.Fits.{data_start}
use Rattle.bs_words.specs.Memory.{end_of_statics, end_of_data}
use Rattle.bs_words.specs.declared.values.Value.{Value}
use Rattle.cmm_tree.specs.Tree.{DataItemTree, DataListTree, FileTree}
use Rattle.cmm_data.specs.Placement.{size_at, end_of_items, start_behind, end_behind, lists_behind, lists_of, end_of_lists, value_of_symbol, data_end}
use Rattle.cmm_data.specs.Contents.{static_list, first_memory}

pub end_of_items-above : (address : ℕ) (items : List DataItemTree) → address ≤ end_of_items address items
end_of_items-above address [] = omega arith
end_of_items-above address (i ∷ items) =
    let later = end_of_items-above (address + size_at address i.datum) items in
    omega (arith, later)

whole : (start end : ℕ) → start ≤ end → start + (end - start) ≡ end
whole start end h = omega arith

end_of_statics-lists : (f : List ℕ → Option Value) (end : ℕ) (lists : List DataListTree) →
    end_of_statics end (map (static_list f) (lists_behind end lists)) ≡ end_of_lists end lists
end_of_statics-lists f end [] = refl
end_of_statics-lists f end (d ∷ lists) =
    let above = end_of_items-above (start_behind end) d.items in
    ap (λ e. end_of_statics e (map (static_list f) (lists_behind (end_behind end d) lists))) (whole (start_behind end) (end_behind end d) above)
    ∙ end_of_statics-lists f (end_behind end d) lists

pub end_of_data-first_memory : (file : FileTree) → end_of_data (first_memory file) ≡ data_end file
end_of_data-first_memory file = end_of_statics-lists (value_of_symbol file) data_start (lists_of file)
