-- The memory in which a run of an image begins has the static data of its file.
use Rattle.std.proofs.Common.{◌≡◌, ℕ, zero, suc, ◌+◌, ◌-◌, ◌*◌, ◌/◌, ◌%◌, ◌^◌, ◌<◌, ◌≤◌, Bool, true, false, cond, ◌==◌, nat_le, List, [], ◌∷◌, ◌++◌, length, map, flat_map, drop, Option, Some, None, refl, ap, ◌∙◌, sym, subst, ◌⊎◌, inl, inr, length-append, eq-eqb, arith}
use Rattle.std.specs.Prelude.{slice_index}
use Rattle.std.proofs.lemmas.Bool.{le-leb, eqb-true, and_from}
use Rattle.std.proofs.lemmas.List.{length-take-le}
use Rattle.bs_words.specs.Fits.{data_limit, data_start}
use Rattle.bs_words.specs.Memory.{StaticList, cell_at, is_root}
use Rattle.bs_words.specs.declared.values.Value.{Value}
use Rattle.bs_words.specs.declared.values.Value.TheVariants.{Word, Block, Function}
use Rattle.cmm_data.specs.Contents.{bytes_of_items, static_list, statics, root_cells, first_memory}
use Rattle.cmm_data.specs.Placement.{items_from, start_behind, end_behind, end_of_lists, lists_behind, lists_of, value_of_symbol, data_end, data_bytes}
use Rattle.cmm_data.proofs.Laws.{end_of_items-above, end_of_data-first_memory}
use Rattle.cmm_tree.specs.Tree.{FunctionTree, DataListTree, FileTree, functions}
use Rattle.image_form.specs.Image.{stub, stub_words, code_limit}
use Rattle.image_form.specs.Tables.{Tables}
use Rattle.assemble_rules.proofs.Placed.{end_of_lists-above, data_length, items_length, cells_enough}
use Rattle.rv_layout_rules.specs.declared.form.Form.{Form}
use Rattle.rv_layout_rules.specs.Conditions.{IsFileLaid}
use Rattle.rv_layout_rules.specs.Forms.{total_words}
use Rattle.rv_layout_rules.specs.Laid.{address_of_place, function_entries_from, function_words, code_from, rows_from, cell_bytes, data_of, AllReach, IsLaid}
use Rattle.rv_layout_rules.proofs.Functions.{function_length}
use Rattle.lin_machine.specs.Contents.{static_in, statics_of}
use Rattle.lin_machine.specs.Statics.{AreBehind, StaticsLie}
use Rattle.moving_laws.specs.Stands.{AmongNumbers, StaticsStand}
use Rattle.moving_laws.specs.Values.{function_at, value_word, IsVal, IsStill, IsKnown}
use Rattle.moving_laws.specs.Words.{held_word}
use Rattle.rv_machine.specs.Memory.{Region, words_of_bytes}
use Rattle.rv_machine.specs.Relocation as machine
use Rattle.rv_machine.specs.Start.{data_region, start_memory}
use Rattle.rv_pieces.specs.declared.piece.Pieces.{Pieces}
use Rattle.accepted_files.specs.Given.{HasGivenData}
use Rattle.first_statics.proofs.Cells.{IsCell}
use Rattle.first_statics.proofs.Found.{value_at, static_is, word, IsFound, found, IsRootValue, root_found, root_low}
use Rattle.first_statics.proofs.Lists.{AreSound, file_sound, first_sound, words_from, data_words}

-- ---- functions

entry_low : (file : FileTree) (entries : List ℕ) (at : ℕ) (ps : List Pieces) (forms : List (List Form)) (f : ℕ) →
    slice_index (function_entries_from at ps forms) f ≤ at + length (code_from file entries at ps forms)
entry_low file entries at [] forms f = omega arith
entry_low file entries at (p ∷ ps) [] f = omega arith
entry_low file entries at (p ∷ ps) (k ∷ forms) zero = omega arith
entry_low file entries at (p ∷ ps) (k ∷ forms) (suc f) =
    let next = at + total_words p.code k in
    omega (arith, entry_low file entries next ps forms f, function_length file entries at p k, length-append (function_words file entries at p.code k) (code_from file entries next ps forms))

entry_is : (at : ℕ) (fs : List FunctionTree) (ps : List Pieces) (forms : List (List Form)) (f : ℕ) → length ps ≡ length fs →
    address_of_place (slice_index (function_entries_from at ps forms) f) ≡ function_at (rows_from at fs ps forms) f
entry_is at [] [] forms f same = refl
entry_is at [] (p ∷ ps) forms f same = absurd (omega (arith, same))
entry_is at (f ∷ fs) [] forms k same = absurd (omega (arith, same))
entry_is at (f ∷ fs) (p ∷ ps) [] k same = refl
entry_is at (f ∷ fs) (p ∷ ps) (g ∷ forms) zero same = refl
entry_is at (f ∷ fs) (p ∷ ps) (g ∷ forms) (suc k) same = entry_is (at + total_words p.code g) fs ps forms k (omega (arith, same))

rows_many : (at : ℕ) (fs : List FunctionTree) (ps : List Pieces) (forms : List (List Form)) → length ps ≡ length fs → AllReach ps forms →
    length (rows_from at fs ps forms) ≡ length fs
rows_many at [] ps forms same are = refl
rows_many at (f ∷ fs) [] forms same are = absurd (omega (arith, same))
rows_many at (f ∷ fs) (p ∷ ps) [] same are = absurd are
rows_many at (f ∷ fs) (p ∷ ps) (g ∷ forms) same are =
    let later = rows_many (at + total_words p.code g) fs ps forms (omega (arith, same)) are.1 in
    omega (arith, later)

-- ---- root cells

roots_same : (rs : List ℕ) → ((r : ℕ) → AmongNumbers r rs → data_start ≤ r) → map (λ offset. data_start + offset) (map (λ address. address - data_start) rs) ≡ rs
roots_same [] low = refl
roots_same (r ∷ rs) low =
    let own = low r (inl refl) in
    let e : data_start + (r - data_start) ≡ r = omega (arith, own) in
    ap (λ x. x ∷ map (λ offset. data_start + offset) (map (λ address. address - data_start) rs)) e
    ∙ ap (λ (xs : List ℕ). r ∷ xs) (roots_same rs (λ x among. low x (inr among)))

among_root : (roots : List ℕ) (x : ℕ) → is_root roots x ≡ true → AmongNumbers x roots
among_root [] x e = absurd (let no' : false ≡ true = e in cc)
among_root (r ∷ roots) x e = by (r == x) refl e (λ e. among_root roots x e)
  where
    by : (b : Bool) → (r == x) ≡ b → cond b true (is_root roots x) ≡ true → (is_root roots x ≡ true → AmongNumbers x roots) → AmongNumbers x (r ∷ roots)
    by true same e later = inl (sym (eqb-true r x same))
    by false same e later = inr (later e)

or_true : (b : Bool) → cond b true true ≡ true
or_true true = refl
or_true false = refl

root_among : (roots : List ℕ) (x : ℕ) → AmongNumbers x roots → is_root roots x ≡ true
root_among [] x among = absurd among
root_among (r ∷ roots) x (inl e) = ap (λ b. cond b true (is_root roots x)) (subst (λ n. (r == n) ≡ true) (sym e) (eq-eqb r r refl))
root_among (r ∷ roots) x (inr among) = ap (λ b. cond (r == x) true b) (root_among roots x among) ∙ or_true (r == x)

-- ---- lists

lists_behind_one_another : (symbols : List ℕ → Option Value) (end : ℕ) (lists : List DataListTree) → AreBehind end (map (static_list symbols) (lists_behind end lists))
lists_behind_one_another symbols end [] = tt
lists_behind_one_another symbols end (d ∷ lists) =
    let start = start_behind end in
    let next = end_behind end d in
    let bs = bytes_of_items symbols (items_from start d.items) in
    let enough = cells_enough bs in
    let rises = end_of_items-above start d.items in
    let long = items_length symbols start d.items in
    let whole : next ≡ start + (next - start) = omega (arith, rises) in (
      omega arith,
      (omega arith, omega (arith, enough.no_more, long), omega (arith, enough.all, long)),
      subst (λ n. AreBehind n (map (static_list symbols) (lists_behind next lists))) whole (lists_behind_one_another symbols next lists),
    )

sound_ends : (file : FileTree) (end : ℕ) (lists : List DataListTree) → AreSound file end lists → end_of_lists end lists ≤ data_start + data_limit
sound_ends file end [] s = s.within
sound_ends file end (d ∷ lists) s = sound_ends file (end_behind end d) lists (first_sound file end d lists s).later

-- ---- the whole

module _ (file : FileTree) (ps : List Pieces) (image : Tables) (laid : IsLaid file ps image) where
  abbrev forms : List (List Form)
  forms = laid.forms

  abbrev entries : List ℕ
  entries = function_entries_from stub_words ps forms

  bytes_are : image.bytes ≡ data_of file entries
  bytes_are = ap (λ (t : Tables). t.bytes) laid.is

  -- The data of the image is as long as that of the file.
  pub data_ends : data_end file ≡ data_start + length image.bytes
  data_ends =
      let all = flat_map (λ (l : StaticList). flat_map (cell_bytes entries) l.cells) (statics file) in
      let long : length image.bytes ≡ length (data_of file entries) = ap (λ (bs : List ℕ). length bs) bytes_are in
      let above : data_start ≤ data_end file = end_of_lists-above data_start (lists_of file) in
      omega (arith, long, length-take-le (data_bytes file) all, data_length file (cell_bytes entries) (λ v. refl), above)

  roots_are : machine.root_addresses image ≡ root_cells file
  roots_are =
      ap (λ (t : Tables). machine.root_addresses t) laid.is
      ∙ roots_same (root_cells file) (λ r among. root_low data_start (lists_of file) r among)

  -- The static data that a run of the file begins with lies as that of the image.
  pub first_lies : StaticsLie image (first_memory file)
  first_lies = record {
    lists = lists_behind_one_another (value_of_symbol file) data_start (lists_of file);
    ends = end_of_data-first_memory file ∙ data_ends;
    root = λ x e. subst (AmongNumbers x) (sym roots_are) (among_root (root_cells file) x e);
    roots = λ x among. root_among (root_cells file) x (subst (AmongNumbers x) roots_are among);
  }

  module _ (short : 4 * length image.code ≤ code_limit) (each_one : length ps ≡ length (functions file)) where
    low : (f : ℕ) → address_of_place (slice_index entries f) < 2 ^ 64
    low f =
        let code = code_from file entries stub_words ps forms in
        let long : length image.code ≡ length (stub ++ code) = ap (λ (t : Tables). length t.code) laid.is in
        omega (arith, short, long, length-append stub code, entry_low file entries stub_words ps forms f)

    functions_are : (f : ℕ) → address_of_place (slice_index entries f) ≡ function_at image.funcs f
    functions_are f =
        entry_is stub_words (functions file) ps forms f each_one ∙ ap (λ (t : Tables). function_at t.funcs f) (sym laid.is)

    functions_many : length image.funcs ≡ length (functions file)
    functions_many = ap (λ (t : Tables). length t.funcs) laid.is ∙ rows_many stub_words (functions file) ps forms each_one laid.reach

    -- ---- the values of cells

    word_is : (v : Value) → IsCell (length (functions file)) v → word file entries low v ≡ value_word image [] v
    word_is (Word w) h = refl
    word_is (Function f) h = functions_are f
    word_is (Block serial offset) h = absurd h

    still : (v : Value) → IsCell (length (functions file)) v → IsStill v
    still (Word w) h = tt
    still (Function f) h = tt
    still (Block serial offset) h = absurd h

    is_known : (v : Value) → IsCell (length (functions file)) v → IsKnown image 0 v
    is_known (Word w) h = tt
    is_known (Function f) h = omega (arith, h, functions_many)
    is_known (Block serial offset) h = absurd h

    is_val : (v : Value) → IsRootValue (length (functions file)) (data_end file) v → IsVal image 0 v
    is_val (Word w) (inl odd) = inl odd
    is_val (Word w) (inr lies) = let most = lies.1 in inr (lies.0, omega (arith, most, data_ends))
    is_val (Function f) h = omega (arith, h, functions_many)
    is_val (Block serial offset) h = absurd h

    -- ---- the memory

    held_is : (bytes : List ℕ) (others : List Region) (x : ℕ) → data_start ≤ x → x < data_start + length bytes →
        held_word (data_region bytes ∷ others) x ≡ slice_index (words_of_bytes bytes) ((x - data_start) / 8)
    unfolding data_region
    held_is bytes others x above below =
        ap (λ b. cond b (slice_index (words_of_bytes bytes) ((x - data_start) / 8)) (held_word others x))
        (and_from (nat_le data_start x) (nat_le (x + 1) (data_start + length bytes)) (le-leb data_start x above) (le-leb (x + 1) (data_start + length bytes) (omega (arith, below))))

    at_cell : (x : ℕ) (v : Value) → statics_of (first_memory file) x ≡ Some v → (x % 8 ≡ 0) × (value_at (statics file) x ≡ Some v)
    at_cell x v e = by (x % 8 == 0) refl e
      where
        by : (b : Bool) → (x % 8 == 0) ≡ b → cond b (static_in (first_memory file) (cell_at (first_memory file) 1 (Word x))) None ≡ Some v →
            (x % 8 ≡ 0) × (value_at (statics file) x ≡ Some v)
        by true even e = (eqb-true (x % 8) 0 even, sym (static_is (first_memory file) x) ∙ e)
        by false even e = absurd (let no' : None ≡ Some v = e in cc)

    module _ (of_file : IsFileLaid file) (given : HasGivenData file) where
      sound : AreSound file data_start (lists_of file)
      sound = file_sound file of_file.no_fault given

      small : data_end file < 2 ^ 64
      small = omega (arith, sound_ends file data_start (lists_of file) sound)

      at_place : (x : ℕ) (v : Value) → statics_of (first_memory file) x ≡ Some v → IsFound file entries low data_start (lists_of file) x v
      at_place x v e = let at = at_cell x v e in found file entries low data_start (lists_of file) x v sound at.0 at.1

      words_are : words_of_bytes image.bytes ≡ words_from file entries low data_start (lists_of file)
      words_are = ap words_of_bytes bytes_are ∙ data_words file entries low sound

      kind_by : (x : ℕ) (v : Value) → statics_of (first_memory file) x ≡ Some v → (b : Bool) → is_root (root_cells file) x ≡ b →
          (IsVal image 0 v × AmongNumbers x (machine.root_addresses image)) ⊎ (IsStill v × (AmongNumbers x (machine.root_addresses image) → ⊥))
      kind_by x v e true root =
          let among = among_root (root_cells file) x root in
          let m = root_found file data_start (lists_of file) x small sound among in
          let there = m.there in
          let is = (at_cell x v e).1 in
          let same : m.held ≡ v = cc in
          inl (is_val v (subst (IsRootValue (length (functions file)) (data_end file)) same m.value), subst (AmongNumbers x) (sym roots_are) among)
      kind_by x v e false root =
          inr (still v (at_place x v e).cell, λ among. absurd (let r = root_among (root_cells file) x (subst (AmongNumbers x) roots_are among) in cc))

      -- The memory that a run begins with has the static data of the file.
      pub first_stands : (stack heap : ℕ) → StaticsStand image [] (start_memory image stack heap) (machine.root_addresses image) (statics_of (first_memory file))
      first_stands stack heap = record {
        cell = λ x v e.
            let m = at_place x v e in
            let above = m.above in
            let below = m.below in
            held_is image.bytes (drop 1 (start_memory image stack heap)) x (omega (arith, above)) (omega (arith, below, data_ends))
            ∙ ap (λ (ws : List ℕ). slice_index ws ((x - data_start) / 8)) words_are
            ∙ m.word_is
            ∙ word_is v m.cell;
        kind = λ x v e. kind_by x v e (is_root (root_cells file) x) refl;
        known = λ x v e. is_known v (at_place x v e).cell;
        place = λ x v e.
            let m = at_place x v e in
            let above = m.above in
            let below = m.below in
            ((at_cell x v e).0, omega (arith, above), omega (arith, below, data_ends));
      }
