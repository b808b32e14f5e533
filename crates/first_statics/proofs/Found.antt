-- Where the static cells of a file's first memory lie, and what they hold.
use Rattle.std.proofs.Common.{◌≡◌, ℕ, zero, suc, ◌+◌, ◌-◌, ◌*◌, ◌/◌, ◌%◌, ◌^◌, ◌<◌, ◌≤◌, Bool, true, false, cond, ◌&&◌, ◌==◌, nat_le, List, [], ◌∷◌, ◌++◌, length, map, Option, Some, None, refl, ap, ◌∙◌, sym, subst, ◌⊎◌, inl, inr, ⊎_elim, length-append, append_assoc, arith}
use Rattle.std.specs.Prelude.{slice_index, slice_index_or, IsSome}
use Rattle.std.specs.List.{AllByRecursion}
use Rattle.std.proofs.lemmas.Bool.{and_parts, leb-true, le-leb, eqb-true, false≢true, and_from}
use Rattle.std.proofs.lemmas.Nat.{pow-add}
use Rattle.std.proofs.lemmas.List.{length-map, get_or_append_left, get_or-append-add, get_or-map}
use Rattle.std.proofs.lemmas.Grind.{flat_map-append}
use Rattle.bs_words.specs.Fits.{data_limit, data_start}
use Rattle.bs_words.specs.Memory.{StaticList, Memory, InStatic, in_statics, cell_at}
use Rattle.bs_words.specs.declared.values.Value.{Value}
use Rattle.bs_words.specs.declared.values.Value.TheVariants.{Word, Block, Function}
use Rattle.cmm_data.specs.Contents.{DataByte, little_endian, symbol_bytes, bytes_at, bytes_of_items, word_of_bytes, cell_of, cells_of, is_root_datum, root_of_item, roots_among, static_list}
use Rattle.cmm_data.specs.Faults.{keeps_rule, first_fault}
use Rattle.cmm_data.specs.Placement.{PlacedItem, size_at, items_from, start_behind, end_behind, end_of_lists, lists_behind, items_of_lists, value_of_symbol, data_end}
use Rattle.cmm_data.proofs.Laws.{end_of_items-above}
use Rattle.cmm_data.proofs.Steps.{length-bytes_at}
use Rattle.cmm_data.proofs.Walk.{sound-first}
use Rattle.cmm_tree.specs.Tree.{DatumTree, Val, Address, DataItemTree, DataListTree, FileTree, functions}
use Rattle.assemble_rules.proofs.Placed.{end_of_lists-above, items_length, cells_enough}
use Rattle.rv_layout_rules.specs.Laid.{address_of_place}
use Rattle.lin_machine.specs.Contents.{static_in}
use Rattle.moving_laws.specs.Stands.{AmongNumbers}
use Rattle.moving_laws.proofs.Walk.{among_append}
use Rattle.accepted_files.specs.Given.{IsDatumGiven}
use Rattle.first_statics.proofs.Cells.{IsCell, cells_are, cell_at as cell_behind}
use Rattle.first_statics.proofs.Lists.{AreSound, IsFirstSound, first_sound, items_bytes, statics_from, word_at, words_from, own_bytes, own_fill}
use Rattle.first_statics.proofs.Symbols.{IsOfFile, symbol_of_file}

-- ---- the cell at an address, as the first list that has it

abbrev no_list : StaticList
no_list = record { start = 0; size = 0; cells = [] }

abbrev pub has_byte : StaticList → ℕ → Bool
has_byte l x = nat_le l.start x && nat_le (x + 1) (l.start + l.size)

abbrev pub cell_in : StaticList → ℕ → Value
cell_in l x = slice_index_or l.cells ((x - l.start) / 8) (Word 0)

abbrev pub value_at : List StaticList → ℕ → Option Value
value_at [] x = None
value_at (l ∷ lists) x = cond (has_byte l x) (Some (cell_in l x)) (value_at lists x)

listed : (memory : Memory) (k : ℕ) (lists : List StaticList) (x : ℕ) → ((i : ℕ) → slice_index_or memory.statics (k + i) no_list ≡ slice_index_or lists i no_list) →
    static_in memory (in_statics k lists x 1) ≡ value_at lists x
listed memory k [] x same = refl
listed memory k (l ∷ lists) x same = by (has_byte l x) (listed memory (suc k) lists x (λ i. let e : suc k + i ≡ k + suc i = omega arith in ap (λ n. slice_index_or memory.statics n no_list) e ∙ same (suc i)))
  where
    here : slice_index_or memory.statics k no_list ≡ l
    here = let e : k ≡ k + 0 = omega arith in ap (λ n. slice_index_or memory.statics n no_list) e ∙ same 0

    by : (b : Bool) → static_in memory (in_statics (suc k) lists x 1) ≡ value_at lists x →
        static_in memory (cond b (Some (InStatic k ((x - l.start) / 8))) (in_statics (suc k) lists x 1)) ≡ cond b (Some (cell_in l x)) (value_at lists x)
    by true later = ap (λ (m : StaticList). Some (slice_index_or m.cells ((x - l.start) / 8) (Word 0))) here
    by false later = later

one_divides : (x : ℕ) → (x % 1 == 0) ≡ true
one_divides x = let e : x % 1 ≡ 0 = omega arith in ap (λ n. n == 0) e

-- The cell of a byte of a memory.
pub static_is : (memory : Memory) (x : ℕ) → static_in memory (cell_at memory 1 (Word x)) ≡ value_at memory.statics x
static_is memory x =
    ap (λ b. static_in memory (cond b (in_statics 0 memory.statics x 1) None)) (one_divides x)
    ∙ listed memory 0 memory.statics x (λ i. let e : 0 + i ≡ i = omega arith in ap (λ n. slice_index_or memory.statics n no_list) e)

-- ---- where it lies, and what it holds

all_at : (P : Value → Type 0) (vs : List Value) (j : ℕ) → P (Word 0) → AllByRecursion P vs → P (slice_index_or vs j (Word 0))
all_at P [] j zero_is all = zero_is
all_at P (v ∷ vs) zero zero_is all = all.0
all_at P (v ∷ vs) (suc j) zero_is all = all_at P vs j zero_is all.1

module _ (file : FileTree) (entries : List ℕ) (low : (f : ℕ) → address_of_place (slice_index entries f) < 2 ^ 64) where
  abbrev count : ℕ
  count = length (functions file)

  abbrev lists_at : ℕ → List DataListTree → List StaticList
  lists_at end lists = statics_from file entries low end lists

  abbrev words : ℕ → List DataListTree → List ℕ
  words end lists = words_from file entries low end lists

  abbrev pub word : Value → ℕ
  word v = word_at file entries low v

  -- A cell lies among the words, and holds what a cell may.
  pub record IsFound (end : ℕ) (lists : List DataListTree) (x : ℕ) (v : Value) : Type 0 where
    pub above : start_behind end ≤ x
    pub below : x < end_of_lists end lists
    pub word_is : slice_index (words end lists) ((x - start_behind end) / 8) ≡ word v
    pub cell : IsCell count v

  pub found : (end : ℕ) (lists : List DataListTree) (x : ℕ) (v : Value) → AreSound file end lists → x % 8 ≡ 0 → value_at (lists_at end lists) x ≡ Some v → IsFound end lists x v
  found end [] x v sound even e = absurd (let no' : None ≡ Some v = e in cc)
  found end (d ∷ lists) x v sound even e = by (has_byte l x) refl e (λ e. found next lists x v first.later even e)
    where
      first : IsFirstSound file end d lists
      first = first_sound file end d lists sound

      next : ℕ
      next = end_behind end d

      l : StaticList
      l = static_list (value_of_symbol file) (record { start = start_behind end; end = next; items = items_from (start_behind end) d.items })

      own : List ℕ
      own = map word l.cells

      by : (b : Bool) → has_byte l x ≡ b → cond b (Some (cell_in l x)) (value_at (lists_at next lists) x) ≡ Some v →
          (value_at (lists_at next lists) x ≡ Some v → IsFound next lists x v) → IsFound end (d ∷ lists) x v
      by true has e more =
          let start = start_behind end in
          let bs = own_bytes file entries low end d in
          let parts = and_parts (nat_le start x) (nat_le (x + 1) (start + (next - start))) has in
          let above : start ≤ x = leb-true start x parts.0 in
          let inside : x + 1 ≤ start + (next - start) = leb-true (x + 1) (start + (next - start)) parts.1 in
          let rises = end_of_items-above start d.items in
          let j = (x - start) / 8 in
          let enough = cells_enough bs in
          let few : j < length l.cells = omega (arith, above, inside, rises, enough.all, items_length (value_of_symbol file) start d.items) in
          let few_words : j < length own = omega (arith, few, length-map l.cells word) in
          let same : cell_in l x ≡ v = cc in
          record {
            above = above;
            below = omega (arith, inside, rises, end_of_lists-above next lists);
            word_is =
                get_or_append_left own (words next lists) 0 j few_words
                ∙ get_or-map word l.cells j (Word 0) 0 few
                ∙ ap word same;
            cell = subst (IsCell count) same (all_at (IsCell count) l.cells j (omega arith) (cells_are count bs (items_bytes file start d.items first.given)));
          }
      by false has e more =
          let start = start_behind end in
          let m = more e in
          let fill = own_fill file entries low end d in
          let n = (x - start_behind next) / 8 in
          let above = m.above in
          let split : (x - start) / 8 ≡ length own + n = omega (arith, above, fill) in
          record {
            above = omega (arith, above, fill);
            below = m.below;
            word_is =
                ap (slice_index (own ++ words next lists)) split
                ∙ get_or-append-add own (words next lists) n 0
                ∙ m.word_is;
            cell = m.cell;
          }

-- ---- root cells

-- what a root cell holds
abbrev pub IsRootValue : ℕ → ℕ → Value → Type 0
IsRootValue n end (Word w) = (w % 2 ≡ 1) ⊎ ((data_start ≤ w) × (w ≤ end))
IsRootValue n end (Function f) = f < n
IsRootValue n end (Block serial offset) = ⊥

-- The bytes of a root item fill its cell.
record IsRootDatum (file : FileTree) (address : ℕ) (datum : DatumTree) (r : ℕ) : Type 0 where
  place : r ≡ address
  even : address % 8 ≡ 0
  long : length (bytes_at (value_of_symbol file) address datum) ≡ 8
  value : IsRootValue (length (functions file)) (data_end file) (cell_of (bytes_at (value_of_symbol file) address datum))

-- the lowest bytes of a word give it back
low_bytes : (k w : ℕ) → w < 2 ^ (8 * k) → word_of_bytes (little_endian k w) ≡ w
low_bytes zero w h = omega (arith, h)
low_bytes (suc k) w h =
    let next : 2 ^ (8 + 8 * k) ≡ 2 ^ 8 * 2 ^ (8 * k) = pow-add 2 8 (8 * k) in
    let same : 8 * suc k ≡ 8 + 8 * k = omega arith in
    let less : w < 2 ^ (8 + 8 * k) = subst (λ n. w < 2 ^ n) same h in
    let m : ℕ = 2 ^ (8 * k) in
    let small : w / 256 < m = omega (arith, less, next) in
    let own = low_bytes k (w / 256) small in
    omega (arith, own)

odd_word : (w rest : ℕ) → w % 2 ≡ 1 → (w % 256 + 256 * rest) % 2 ≡ 1
odd_word w rest h = omega (arith, h)

root_symbol : (file : FileTree) (o : Option Value) → data_end file < 2 ^ 64 → ((v : Value) → o ≡ Some v → IsOfFile (length (functions file)) (data_end file) v) → IsSome o →
    (length (symbol_bytes o) ≡ 8) × IsRootValue (length (functions file)) (data_end file) (cell_of (symbol_bytes o))
root_symbol file (Some (Word a)) small h some =
    let own = h (Word a) refl in
    let same : word_of_bytes (little_endian 8 a) ≡ a = low_bytes 8 a (let most = own.1 in omega (arith, most, small)) in
    (refl, subst (λ w. IsRootValue (length (functions file)) (data_end file) (Word w)) (sym same) (inr own))
root_symbol file (Some (Function f)) small h some = (refl, h (Function f) refl)
root_symbol file (Some (Block serial offset)) small h some = absurd (h (Block serial offset) refl)
root_symbol file None small h some = absurd (false≢true some)

-- a root item that is here
root_datum : (file : FileTree) (address : ℕ) (datum : DatumTree) (r : ℕ) → data_end file < 2 ^ 64 → keeps_rule address datum ≡ true → IsDatumGiven file datum →
    AmongNumbers r (root_of_item address datum) → IsRootDatum file address datum r
root_datum file address (Val (Some w)) r small keeps given (inl e) =
    let both = and_parts (address % 8 == 0) (w % 2 == 1) keeps in
    record {
      place = e;
      even = eqb-true (address % 8) 0 both.0;
      long = refl;
      value = inl (odd_word w (word_of_bytes (little_endian 7 (w / 256))) (eqb-true (w % 2) 1 both.1));
    }
root_datum file address (Val None) r small keeps given (inl e) = absurd (false≢true given)
root_datum file address (Val w) r small keeps given (inr z) = absurd z
root_datum file address (Address true name_at name) r small keeps given (inl e) =
    let own = root_symbol file (value_of_symbol file name) small (symbol_of_file file name) given in
    record { place = e; even = eqb-true (address % 8) 0 keeps; long = own.0; value = own.1 }
root_datum file address (Address true name_at name) r small keeps given (inr z) = absurd z
root_datum file address _ r small keeps given among = absurd among

-- The bytes of items have the eight of a root cell at its place.
pub record IsRootItem (file : FileTree) (address : ℕ) (items : List DataItemTree) (r : ℕ) : Type 0 where
  pub before : List DataByte
  pub eight : List DataByte
  pub after : List DataByte
  pub bytes : bytes_of_items (value_of_symbol file) (items_from address items) ≡ before ++ (eight ++ after)
  pub place : r ≡ address + length before
  pub even : r % 8 ≡ 0
  pub long : length eight ≡ 8
  pub value : IsRootValue (length (functions file)) (data_end file) (cell_of eight)

-- a root item, among items
root_item : (file : FileTree) (address : ℕ) (items : List DataItemTree) (r : ℕ) → data_end file < 2 ^ 64 → address ≤ data_start + data_limit → first_fault (items_from address items) ≡ None →
    AllByRecursion (λ (i : DataItemTree). IsDatumGiven file i.datum) items → AmongNumbers r (roots_among (items_from address items)) → IsRootItem file address items r
root_item file address [] r small within none given among = absurd among
root_item file address (i ∷ items) r small within none given among =
    let next = address + size_at address i.datum in
    let sound = sound-first address i items within none in
    ⊎_elim (first sound.rule) (λ later. second (root_item file next items r small sound.within sound.behind given.1 later))
    (among_append r (root_of_item address i.datum) (roots_among (items_from next items)) among)
  where
    next : ℕ
    next = address + size_at address i.datum

    own : List DataByte
    own = bytes_at (value_of_symbol file) address i.datum

    first : keeps_rule address i.datum ≡ true → AmongNumbers r (root_of_item address i.datum) → IsRootItem file address (i ∷ items) r
    first rule among =
        let d = root_datum file address i.datum r small rule given.0 among in
        record {
          before = [];
          eight = own;
          after = bytes_of_items (value_of_symbol file) (items_from next items);
          bytes = refl;
          place = let e = d.place in omega (arith, e);
          even = ap (λ n. n % 8) d.place ∙ d.even;
          long = d.long;
          value = d.value;
        }

    second : IsRootItem file next items r → IsRootItem file address (i ∷ items) r
    second m =
        record {
          before = own ++ m.before;
          eight = m.eight;
          after = m.after;
          bytes = ap (λ (bs : List DataByte). own ++ bs) m.bytes ∙ sym (append_assoc own m.before (m.eight ++ m.after));
          place = let e = m.place in omega (arith, e, length-append own m.before, length-bytes_at (value_of_symbol file) address i.datum);
          even = m.even;
          long = m.long;
          value = m.value;
        }

-- a root cell of items is after their begin
item_low : (address : ℕ) (items : List DataItemTree) (r : ℕ) → AmongNumbers r (roots_among (items_from address items)) → address ≤ r
item_low address [] r among = absurd among
item_low address (i ∷ items) r among =
    let next = address + size_at address i.datum in
    ⊎_elim (own address i.datum r) (λ later. let l = item_low next items r later in omega (arith, l)) (among_append r (root_of_item address i.datum) (roots_among (items_from next items)) among)
  where
    by : (b : Bool) (address r : ℕ) → AmongNumbers r (cond b (address ∷ []) []) → address ≤ r
    by true address r (inl e) = omega (arith, e)
    by true address r (inr z) = absurd z
    by false address r z = absurd z

    own : (address : ℕ) (datum : DatumTree) (r : ℕ) → AmongNumbers r (root_of_item address datum) → address ≤ r
    own address datum r among = by (is_root_datum datum) address r among

split_roots : (end : ℕ) (d : DataListTree) (lists : List DataListTree) (r : ℕ) → AmongNumbers r (roots_among (items_of_lists (lists_behind end (d ∷ lists)))) →
    AmongNumbers r (roots_among (items_from (start_behind end) d.items)) ⊎ AmongNumbers r (roots_among (items_of_lists (lists_behind (end_behind end d) lists)))
split_roots end d lists r among =
    let own = items_from (start_behind end) d.items in
    let later = items_of_lists (lists_behind (end_behind end d) lists) in
    among_append r (roots_among own) (roots_among later)
    (subst (AmongNumbers r) (flat_map-append (λ (i : PlacedItem). root_of_item i.address i.datum) own later) among)

pub root_low : (end : ℕ) (lists : List DataListTree) (r : ℕ) → AmongNumbers r (roots_among (items_of_lists (lists_behind end lists))) → end ≤ r
root_low end [] r among = absurd among
root_low end (d ∷ lists) r among =
    ⊎_elim (λ own. let low = item_low (start_behind end) d.items r own in omega (arith, low))
    (λ later. let low = root_low (end_behind end d) lists r later in omega (arith, low, end_of_items-above (start_behind end) d.items))
    (split_roots end d lists r among)

-- A root cell lies in a list, and holds what fits a val.
pub record IsRootFound (file : FileTree) (statics : List StaticList) (r : ℕ) : Type 0 where
  pub held : Value
  pub even : r % 8 ≡ 0
  pub there : value_at statics r ≡ Some held
  pub value : IsRootValue (length (functions file)) (data_end file) held

in_list : (l : StaticList) (r : ℕ) → l.start ≤ r → r + 1 ≤ l.start + l.size → has_byte l r ≡ true
in_list l r low high = and_from (nat_le l.start r) (nat_le (r + 1) (l.start + l.size)) (le-leb l.start r low) (le-leb (r + 1) (l.start + l.size) high)

past_list : (l : StaticList) (r : ℕ) → l.start + l.size ≤ r → has_byte l r ≡ false
past_list l r high = by (has_byte l r) refl
  where
    by : (b : Bool) → has_byte l r ≡ b → b ≡ false
    by false e = refl
    by true e =
        let inside : r + 1 ≤ l.start + l.size = leb-true (r + 1) (l.start + l.size) (and_parts (nat_le l.start r) (nat_le (r + 1) (l.start + l.size)) e).1 in
        absurd (omega (arith, high, inside))

abbrev lists_of_file : FileTree → ℕ → List DataListTree → List StaticList
lists_of_file file end lists = map (static_list (value_of_symbol file)) (lists_behind end lists)

pub root_found : (file : FileTree) (end : ℕ) (lists : List DataListTree) (r : ℕ) → data_end file < 2 ^ 64 → AreSound file end lists →
    AmongNumbers r (roots_among (items_of_lists (lists_behind end lists))) → IsRootFound file (lists_of_file file end lists) r
root_found file end [] r small sound among = absurd among
root_found file end (d ∷ lists) r small sound among =
    let first = first_sound file end d lists sound in
    ⊎_elim (λ among. own first (root_item file (start_behind end) d.items r small first.within first.none first.given among))
    (λ later. behind (root_low (end_behind end d) lists r later) (root_found file (end_behind end d) lists r small first.later later))
    (split_roots end d lists r among)
  where
    start : ℕ
    start = start_behind end

    next : ℕ
    next = end_behind end d

    l : StaticList
    l = static_list (value_of_symbol file) (record { start = start; end = next; items = items_from start d.items })

    later : List StaticList
    later = lists_of_file file next lists

    own : IsFirstSound file end d lists → IsRootItem file start d.items r → IsRootFound file (l ∷ later) r
    own first m =
        let place = m.place in
        let even = m.even in
        let long = m.long in
        let whole : length (m.before ++ (m.eight ++ m.after)) ≡ length (bytes_of_items (value_of_symbol file) (items_from start d.items)) = ap length (sym m.bytes) in
        let all = items_length (value_of_symbol file) start d.items in
        let inside : r + 1 ≤ start + (next - start) = omega (arith, place, long, whole, all, length-append m.before (m.eight ++ m.after), length-append m.eight m.after) in
        let j = (r - start) / 8 in
        let few : length m.before ≡ 8 * j = omega (arith, place, even) in
        let is : cell_in l r ≡ cell_of m.eight =
        ap (λ (bs : List DataByte). slice_index_or (cells_of bs) j (Word 0)) m.bytes ∙ cell_behind j m.before m.eight m.after few m.long in
        record {
          held = cell_of m.eight;
          even = m.even;
          there =
              ap (λ b. cond b (Some (cell_in l r)) (value_at later r)) (in_list l r (omega (arith, place)) inside)
              ∙ ap Some is;
          value = m.value;
        }

    behind : next ≤ r → IsRootFound file later r → IsRootFound file (l ∷ later) r
    behind low m =
        record {
          held = m.held;
          even = m.even;
          there =
              ap (λ b. cond b (Some (cell_in l r)) (value_at later r)) (past_list l r (omega (arith, low, end_of_items-above start d.items)))
              ∙ m.there;
          value = m.value;
        }
