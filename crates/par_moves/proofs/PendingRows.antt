-- Taking the next move that reads a place: what the map's rows have, and what the list of moves has.
use Rattle.std.proofs.Common.{◌≡◌, ℕ, ◌+◌, ◌==◌, Bool, true, false, cond, List, [], ◌∷◌, ◌++◌, length, Option, Some, None, MatchOption, refl, sym, ap, ◌∙◌, subst, arith}
use Rattle.std.specs.Prelude.{reverse, vec_len}
use Rattle.std.specs.Option.{option_to_list}
use Rattle.std.specs.Ordering.{nat_cmp, match_ordering, is_eq}
use Rattle.std.specs.declared.cmp.Ordering.{Ordering}
use Rattle.std.specs.declared.cmp.Ordering.TheVariants.{Less, Equal, Greater}
use Rattle.std.specs.BTreeMap as tree
use Rattle.std.specs.BTreeMap.{BTreeMap, is_at, insert_entry, Updates, UpdatesBy}
use Rattle.std.specs.Map.{lookup, remove_entry}
use Rattle.std.specs.Global.{Vec}
use Rattle.std.proofs.lemmas.Bool.{eqb-true, ne_eqb}
use Rattle.std.proofs.lemmas.Bool.Decides.{nat_tests}
use Rattle.std.proofs.lemmas.List.{reverse-append, append-nil, nil_from_length}
use Rattle.bs_words.specs.declared.types.Loc.{Loc}
use Rattle.par_moves.specs.declared.moves.Move.{Move}
use Rattle.par_moves.specs.Index.{key_of, readers_of, moves_of_row, HoldsPending, entries_held, moves_held}
use Rattle.par_moves.specs.Moves.{Moves, same_place}
use Rattle.par_moves.specs.Resolved.{first_reader, others}
use Rattle.par_moves.proofs.Places.{same_place-key}

-- ---- lists

abbrev first_of : Moves → Option Move
first_of [] = None
first_of (m ∷ ms) = Some m

abbrev rest_of : Moves → Moves
rest_of [] = []
rest_of (m ∷ ms) = ms

first_reader-rows : (place : Loc) (ms : Moves) → first_reader place ms ≡ first_of (readers_of (key_of place) ms)
first_reader-rows place [] = refl
first_reader-rows place (m ∷ ms) =
    rw (same_place-key m.from place) (by (first_reader-rows place ms) (same_place m.from place)) where
      by : first_reader place ms ≡ first_of (readers_of (key_of place) ms) → (t : Bool) → cond t (Some m) (first_reader place ms) ≡ first_of (cond t (m ∷ readers_of (key_of place) ms) (readers_of (key_of place) ms))
      by later true = refl
      by later false = later

others-rows : (place : Loc) (ms : Moves) → readers_of (key_of place) (others place ms) ≡ rest_of (readers_of (key_of place) ms)
others-rows place [] = refl
others-rows place (m ∷ ms) = by (others-rows place ms) (same_place m.from place) refl where
  by : readers_of (key_of place) (others place ms) ≡ rest_of (readers_of (key_of place) ms) → (t : Bool) → same_place m.from place ≡ t → readers_of (key_of place) (cond t ms (m ∷ others place ms)) ≡ rest_of (readers_of (key_of place) (m ∷ ms))
  by later true e = rw (same_place-key m.from place ∙ e) refl
  by later false e = rw (same_place-key m.from place ∙ e) later

others-other_rows : (place : Loc) (key : ℕ) (ms : Moves) → (key_of place ≡ key → ⊥) → readers_of key (others place ms) ≡ readers_of key ms
others-other_rows place key [] apart = refl
others-other_rows place key (m ∷ ms) apart = by (others-other_rows place key ms apart) (same_place m.from place) refl where
  by : readers_of key (others place ms) ≡ readers_of key ms → (t : Bool) → same_place m.from place ≡ t → readers_of key (cond t ms (m ∷ others place ms)) ≡ readers_of key (m ∷ ms)
  by later true e =
      let same : key_of m.from ≡ key_of place = eqb-true _ _ (same_place-key m.from place ∙ e) in
      let other : (key_of m.from == key) ≡ false = ne_eqb _ _ (λ h. apart (sym same ∙ h)) in
      rw other refl
  by later false e = ap (λ (r : Moves). cond (key_of m.from == key) (m ∷ r) r) later

-- ---- rows

is_at-true : (k q : ℕ) → is_at (nat_cmp k) q ≡ true → k ≡ q
is_at-true k q e = grind (arith, nat_tests)

is_at-apart : (k q : ℕ) → (k ≡ q → ⊥) → is_at (nat_cmp k) q ≡ false
is_at-apart k q apart = grind (arith, nat_tests)

is_at-false : (k q : ℕ) → is_at (nat_cmp k) q ≡ false → k ≡ q → ⊥
is_at-false k q e h = grind (arith, nat_tests)

-- the row before a `pop` and after it
pub record Popped (row row' : Vec Move) (found : Option Move) : Type 0 where
  pub items : row.items ≡ row'.items ++ option_to_list found
  pub none : found ≡ None → length row.items ≡ 0

pub record Taken (place : Loc) (moves : Moves) (found : Option Move) (new : BTreeMap ℕ (Vec Move)) : Type 0 where
  pub first : found ≡ first_reader place moves
  pub left : HoldsPending new (others place moves)

-- the rows of the others are what the rows leave
left_by_rows : (place : Loc) (moves : Moves) (old new : BTreeMap ℕ (Vec Move)) → HoldsPending old moves → moves_of_row (tree.get nat_cmp new (key_of place)) ≡ rest_of (moves_of_row (tree.get nat_cmp old (key_of place))) → ((q : ℕ) → (key_of place ≡ q → ⊥) → tree.get nat_cmp new q ≡ tree.get nat_cmp old q) → HoldsPending new (others place moves)
left_by_rows place moves old new h here there = record { rows = λ q. by q (is_at (nat_cmp (key_of place)) q) refl } where
  by : (q : ℕ) (t : Bool) → is_at (nat_cmp (key_of place)) q ≡ t → moves_of_row (tree.get nat_cmp new q) ≡ readers_of q (others place moves)
  by q true e =
      let P : ℕ → Type 0 = λ q. moves_of_row (tree.get nat_cmp new q) ≡ readers_of q (others place moves) in
      subst P (is_at-true (key_of place) q e) (here ∙ ap rest_of (h.rows (key_of place)) ∙ sym (others-rows place moves))
  by q false e =
      ap moves_of_row (there q (is_at-false (key_of place) q e)) ∙ h.rows q ∙ sym (others-other_rows place q moves (is_at-false (key_of place) q e))

pub taken_none : (place : Loc) (key : ℕ) (moves : Moves) (old new : BTreeMap ℕ (Vec Move)) → key ≡ key_of place → HoldsPending old moves → tree.get nat_cmp old key ≡ None → new.entries ≡ old.entries → Taken place moves None new
taken_none place key moves old new k h none_at_key e =
    let none : tree.get nat_cmp old (key_of place) ≡ None = subst (λ (x : ℕ). tree.get nat_cmp old x ≡ None) k none_at_key in
    let same : (q : ℕ) → tree.get nat_cmp new q ≡ tree.get nat_cmp old q = λ q. ap (λ (es : List (ℕ × Vec Move)). lookup (is_at (nat_cmp q)) es) e in
    let row : moves_of_row (tree.get nat_cmp old (key_of place)) ≡ [] = ap moves_of_row none in
    record {
      first = sym (first_reader-rows place moves ∙ ap first_of (sym (h.rows (key_of place)) ∙ row));
      left = left_by_rows place moves old new h (ap moves_of_row (same (key_of place)) ∙ row ∙ sym (ap rest_of row)) (λ q _. same q);
    }

popped_row : (row row' : Vec Move) (found : Option Move) → Popped row row' found → (first_of (reverse row.items) ≡ found) × (rest_of (reverse row.items) ≡ reverse row'.items)
popped_row row row' None p =
    let whole : row.items ≡ [] = nil_from_length _ (p.none refl) in
    let rest : row'.items ≡ [] = sym (append-nil _) ∙ sym p.items ∙ whole in
    (ap (λ (ms : Moves). first_of (reverse ms)) whole, ap (λ (ms : Moves). rest_of (reverse ms)) whole ∙ sym (ap reverse rest))
popped_row row row' (Some m) p =
    let whole : reverse row.items ≡ m ∷ reverse row'.items = ap reverse p.items ∙ reverse-append row'.items (m ∷ []) in
    (ap first_of whole, ap rest_of whole)

pub popped : (row row' : Vec Move) (found : Option Move) → row.items ≡ row'.items ++ option_to_list found → MatchOption found ((vec_len row ≡ 0) × (vec_len row' ≡ 0)) (λ _. vec_len row' + 1 ≡ vec_len row) → Popped row row' found
popped row row' None items cases = record { items = items; none = λ _. sym row.ok.0 ∙ cases.0 }
popped row row' (Some m) items cases = record { items = items; none = λ e. cc }

pub taken_some : (place : Loc) (key : ℕ) (moves : Moves) (old mid new : BTreeMap ℕ (Vec Move)) (row row' : Vec Move) (found : Option Move) → key ≡ key_of place → HoldsPending old moves → tree.get nat_cmp old key ≡ Some row → Popped row row' found → UpdatesBy nat_cmp (nat_cmp key) old mid None → Updates nat_cmp mid new key (Some row') → Taken place moves found new
taken_some place key moves old mid new row row' found k h at_key p removed inserted =
    let e : tree.get nat_cmp old (key_of place) ≡ Some row = subst (λ (x : ℕ). tree.get nat_cmp old x ≡ Some row) k at_key in
    let u : UpdatesBy nat_cmp (nat_cmp (key_of place)) old mid None = subst (λ (x : ℕ). UpdatesBy nat_cmp (nat_cmp x) old mid None) k removed in
    let v : Updates nat_cmp mid new (key_of place) (Some row') = subst (λ (x : ℕ). Updates nat_cmp mid new x (Some row')) k inserted in
    let was : moves_of_row (tree.get nat_cmp old (key_of place)) ≡ reverse row.items = ap moves_of_row e in
    let is : moves_of_row (tree.get nat_cmp new (key_of place)) ≡ reverse row'.items = ap moves_of_row v.1 in
    let parts = popped_row row row' found p in
    let apart : (q : ℕ) → (key_of place ≡ q → ⊥) → is_at (nat_cmp (key_of place)) q ≡ false = λ q ne. is_at-apart (key_of place) q ne in
    record {
      first = sym (first_reader-rows place moves ∙ ap first_of (sym (h.rows (key_of place)) ∙ was) ∙ parts.0);
      left = left_by_rows place moves old new h (is ∙ sym parts.1 ∙ sym (ap rest_of was)) (λ q ne. v.2 q (apart q ne) ∙ u.2 q (apart q ne));
    }

-- ---- the number of moves

abbrev row_held : Option (Vec Move) → ℕ
row_held None = 0
row_held (Some row) = vec_len row

held-remove : (test : ℕ → Bool) (es : List (ℕ × Vec Move)) → row_held (lookup test es) + entries_held (remove_entry test es) ≡ entries_held es
held-remove test [] = refl
held-remove test (e ∷ es) = by (held-remove test es) (test e.0) where
  by : row_held (lookup test es) + entries_held (remove_entry test es) ≡ entries_held es → (t : Bool) → row_held (cond t (Some e.1) (lookup test es)) + entries_held (cond t es (e ∷ remove_entry test es)) ≡ vec_len e.1 + entries_held es
  by later true = refl
  by later false = omega arith

held-insert : (key : ℕ) (row : Vec Move) (es : List (ℕ × Vec Move)) → lookup (is_at (nat_cmp key)) es ≡ None → entries_held (insert_entry nat_cmp es key row) ≡ vec_len row + entries_held es
held-insert key row [] none = refl
held-insert key row (e ∷ es) none = by (held-insert key row es) (nat_cmp key e.0) none where
  by : (lookup (is_at (nat_cmp key)) es ≡ None → entries_held (insert_entry nat_cmp es key row) ≡ vec_len row + entries_held es) → (o : Ordering) → cond (is_eq o) (Some e.1) (lookup (is_at (nat_cmp key)) es) ≡ None → entries_held (match_ordering o ((key, row) ∷ e ∷ es) ((e.0, row) ∷ es) (e ∷ insert_entry nat_cmp es key row)) ≡ vec_len row + (vec_len e.1 + entries_held es)
  by later Less none = refl
  by later Equal none = cc
  by later Greater none = let h : entries_held (insert_entry nat_cmp es key row) ≡ vec_len row + entries_held es = later none in omega arith

pub fewer_by_one : (key : ℕ) (old mid new : BTreeMap ℕ (Vec Move)) (row row' : Vec Move) (found : Option Move) → tree.get nat_cmp old key ≡ Some row → mid.entries ≡ remove_entry (is_at (nat_cmp key)) old.entries → tree.get nat_cmp mid key ≡ None → new.entries ≡ insert_entry nat_cmp mid.entries key row' → MatchOption found ((vec_len row ≡ 0) × (vec_len row' ≡ 0)) (λ _. vec_len row' + 1 ≡ vec_len row) → MatchOption found (moves_held new ≡ moves_held old) (λ _. moves_held new + 1 ≡ moves_held old)
fewer_by_one key old mid new row row' found e removed none inserted popped = by found popped where
  total : vec_len row + entries_held mid.entries ≡ entries_held old.entries
  total = ap (λ (o : Option (Vec Move)). row_held o + entries_held mid.entries) (sym e) ∙ ap (λ (es : List (ℕ × Vec Move)). row_held (tree.get nat_cmp old key) + entries_held es) removed ∙ held-remove (is_at (nat_cmp key)) old.entries

  total' : entries_held new.entries ≡ vec_len row' + entries_held mid.entries
  total' = ap entries_held inserted ∙ held-insert key row' mid.entries none

  by : (found : Option Move) → MatchOption found ((vec_len row ≡ 0) × (vec_len row' ≡ 0)) (λ _. vec_len row' + 1 ≡ vec_len row) → MatchOption found (moves_held new ≡ moves_held old) (λ _. moves_held new + 1 ≡ moves_held old)
  by None popped = let t = total in let t' = total' in omega arith
  by (Some m) popped = let t = total in let t' = total' in omega arith
