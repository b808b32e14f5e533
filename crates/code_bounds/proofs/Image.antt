-- The image of a file is as small as its text asks.
use Rattle.std.proofs.Common.{◌≡◌, ℕ, ◌+◌, ◌*◌, ◌<◌, ◌≤◌, Bool, true, false, cond, ◌&&◌, nat_lt, nat_le, List, [], ◌∷◌, ◌++◌, length, refl, sym, ap, ◌∙◌, subst, append_assoc, le-ltb, arith}
use Rattle.std.specs.Prelude.{count_by}
use Rattle.std.specs.List.{AllByRecursion, AllZip}
use Rattle.std.proofs.lemmas.Bool.{lt-leb}
use Rattle.std.proofs.lemmas.List.Sums.{sum_by-append, sum_by-cons, count_by-le-length}
use Rattle.cmm_tree.specs.Tree.{FunctionTree, FileTree, functions}
use Rattle.correctness.specs.Bounds.{is_called_in, IsWithinText, IsBounded}
use Rattle.rv_emit_rules.specs.Sizes.{words_at_most}
use Rattle.rv_emit_rules.specs.Sizes as sizes
use Rattle.image_form.specs.Image.{function_end, stub_words}
use Rattle.image_form.specs.Tables.{Tables, Func, Desc}
use Rattle.rv_layout_rules.specs.declared.form.Form.{Form}
use Rattle.rv_layout_rules.specs.declared.form.Form.TheVariants.{Near, Middle, Far}
use Rattle.rv_layout_rules.specs.Conditions.{AreDescriptors, IsFunctionLaid, CanBeLaid}
use Rattle.rv_layout_rules.specs.Forms.{words_of_call, branch_words, jump_words, piece_words, total_words}
use Rattle.rv_layout_rules.specs.Laid.{row_at, rows_from, descs_in, descs_from, laid_out, AllReach, IsLaid}
use Rattle.rv_layout_rules.proofs.Functions.{filled}
use Rattle.rv_layout_rules.proofs.Rules.{all_append}
use Rattle.chained_functions.specs.Known.{IsBoundedBy}
use Rattle.rv_pieces.specs.Named.{marks_in}
use Rattle.rv_pieces.specs.declared.piece.Piece.{Piece}
use Rattle.rv_pieces.specs.declared.piece.Piece.TheVariants.{Label, Branch, Jump, Call, TailCall, Descriptor}
use Rattle.rv_pieces.specs.declared.piece.Pieces.{Pieces}
use Rattle.assemble_rules.proofs.Whole.{some_words}
use Rattle.code_bounds.specs.Kept.{KeepsTo}

-- ---- words

branch_few : (f : Form) → branch_words f ≤ 3
branch_few Near = omega arith
branch_few Middle = omega arith
branch_few Far = omega arith

jump_few : (f : Form) → jump_words f ≤ 2
jump_few Near = omega arith
jump_few Middle = omega arith
jump_few Far = omega arith

call_few : (f : Form) → words_of_call f ≤ 3
call_few Near = omega arith
call_few Middle = omega arith
call_few Far = omega arith

piece_few : (p : Piece) (f : Form) → piece_words p f ≤ sizes.most_piece_words p
piece_few (Branch c a b l) f = branch_few f
piece_few (Jump l) f = jump_few f
piece_few (Call name) f = call_few f
piece_few (TailCall name) f = call_few f
piece_few p f = omega arith

-- whatever the forms are
pub pieces_few : (ps : List Piece) (fs : List Form) → total_words ps fs ≤ words_at_most ps
pieces_few [] fs = omega arith
pieces_few (p ∷ ps) [] = omega arith
pieces_few (p ∷ ps) (f ∷ fs) = let here = piece_few p f in let others = pieces_few ps fs in omega (arith, here, others)

-- ---- where descriptors are

-- after one word, and not after another
abbrev Above : ℕ → List Desc → Type 0
Above from ds = AllByRecursion (λ (d : Desc). 4 * from < d.after) ds

abbrev Below : ℕ → List Desc → Type 0
Below to ds = AllByRecursion (λ (d : Desc). d.after ≤ 4 * to) ds

above_more : (from less : ℕ) (ds : List Desc) → less ≤ from → Above from ds → Above less ds
above_more from less [] le h = tt
above_more from less (d ∷ ds) le h = let here : 4 * from < d.after = h.0 in (omega (arith, here, le), above_more from less ds le h.1)

below_more : (to more : ℕ) (ds : List Desc) → to ≤ more → Below to ds → Below more ds
below_more to more [] le h = tt
below_more to more (d ∷ ds) le h = let here : d.after ≤ 4 * to = h.0 in (omega (arith, here, le), below_more to more ds le h.1)

own_above : (from at : ℕ) (behind : Bool) (ps : List Piece) (fs : List Form) → from ≤ at → (behind ≡ true → from < at) → AreDescriptors behind ps →
    Above from (descs_in at ps fs)
own_above from at behind [] fs h k are = tt
own_above from at behind (p ∷ ps) [] h k are = tt
own_above from at behind (Descriptor d ∷ ps) (f ∷ fs) h k are =
    let less = k are.0 in (omega (arith, less), own_above from at false ps fs h (λ e. absurd (cc)) are.2)
own_above from at behind (Label l ∷ ps) (f ∷ fs) h k are =
    own_above from (at + 0) behind ps fs (omega (arith, h)) (λ e. let less = k e in omega (arith, less)) are
own_above from at behind (p ∷ ps) (f ∷ fs) h k are =
    let some = some_words p f refl in
    own_above from (at + piece_words p f) true ps fs (omega (arith, h)) (λ e. omega (arith, h, some)) are

own_below : (at to : ℕ) (ps : List Piece) (fs : List Form) → at + total_words ps fs ≤ to → Below to (descs_in at ps fs)
own_below at to [] fs h = tt
own_below at to (p ∷ ps) [] h = tt
own_below at to (Descriptor d ∷ ps) (f ∷ fs) h = (omega (arith, h), own_below at to ps fs (omega (arith, h)))
own_below at to (p ∷ ps) (f ∷ fs) h = own_below (at + piece_words p f) to ps fs (omega (arith, h))

own_count : (at : ℕ) (ps : List Piece) (fs : List Form) → length (descs_in at ps fs) ≤ length (marks_in ps)
own_count at [] fs = omega arith
own_count at (p ∷ ps) [] = omega arith
own_count at (Descriptor d ∷ ps) (f ∷ fs) = let others = own_count at ps fs in omega (arith, others)
own_count at (p ∷ ps) (f ∷ fs) = own_count (at + piece_words p f) ps fs

module _ (file : FileTree) where
  all_above : (at : ℕ) (ps : List Pieces) (forms : List (List Form)) → AllByRecursion (IsFunctionLaid file) ps → Above at (descs_from at ps forms)
  all_above at [] forms laid = tt
  all_above at (p ∷ ps) [] laid = tt
  all_above at (p ∷ ps) (f ∷ forms) laid =
      let next = at + total_words p.code f in
      all_append (λ (d : Desc). 4 * at < d.after) (descs_in at p.code f) (descs_from next ps forms)
      (own_above at at false p.code f (omega arith) (λ e. absurd (cc)) laid.0.descriptors)
      (above_more next at (descs_from next ps forms) (omega arith) (all_above next ps forms laid.1))

  -- ---- which descriptors are a function's

  no_count : (row : Func) (ds : List Desc) → AllByRecursion (λ (d : Desc). is_called_in row d ≡ false) ds → count_by (is_called_in row) ds ≡ 0
  no_count row [] h = refl
  no_count row (d ∷ ds) h =
      let one : Desc → ℕ = λ d. cond (is_called_in row d) 1 0 in
      let split : count_by (is_called_in row) (d ∷ ds) ≡ one d + count_by (is_called_in row) ds = sum_by-cons one d ds in
      let here : one d ≡ 0 = ap (λ b. cond b 1 0) h.0 in
      let others = no_count row ds h.1 in
      omega (arith, split, here, others)

  second_false : (a b : Bool) → b ≡ false → a && b ≡ false
  second_false true b e = e
  second_false false b e = refl

  none_before : (row : Func) (to : ℕ) (ds : List Desc) → 4 * to ≤ row.offset → Below to ds → AllByRecursion (λ (d : Desc). is_called_in row d ≡ false) ds
  none_before row to [] le h = tt
  none_before row to (d ∷ ds) le h =
      let here : d.after ≤ 4 * to = h.0 in
      let not_behind : d.after ≤ row.offset = omega (arith, here, le) in
      (ap (λ b. b && nat_le d.after (function_end row)) (le-ltb row.offset d.after not_behind), none_before row to ds le h.1)

  none_behind : (row : Func) (from : ℕ) (ds : List Desc) → function_end row ≤ 4 * from → Above from ds → AllByRecursion (λ (d : Desc). is_called_in row d ≡ false) ds
  none_behind row from [] le h = tt
  none_behind row from (d ∷ ds) le h =
      let here : 4 * from < d.after = h.0 in
      let past : function_end row < d.after = omega (arith, here, le) in
      (second_false (nat_lt row.offset d.after) (nat_le d.after (function_end row)) (lt-leb d.after (function_end row) past), none_behind row from ds le h.1)

  -- ---- each function

  each_within : (described pre : List Desc) (at : ℕ) (fs : List FunctionTree) (ps : List Pieces) (forms : List (List Form)) →
      described ≡ pre ++ descs_from at ps forms → Below at pre → AllZip KeepsTo fs ps → AllReach ps forms → AllByRecursion (IsFunctionLaid file) ps →
      AllZip (IsWithinText described) fs (rows_from at fs ps forms)
  each_within described pre at [] [] [] same before keeps are laid = tt
  each_within described pre at [] [] (k ∷ forms) same before keeps are laid = tt
  each_within described pre at [] (p ∷ ps) forms same before keeps are laid = absurd keeps
  each_within described pre at (f ∷ fs) [] forms same before keeps are laid = absurd keeps
  each_within described pre at (f ∷ fs) (p ∷ ps) [] same before keeps are laid = absurd are
  each_within described pre at (f ∷ fs) (p ∷ ps) (k ∷ forms) same before keeps are laid =
      let next = at + total_words p.code k in
      let own = descs_in at p.code k in
      let rest = descs_from next ps forms in
      let row : Func = row_at at f p k in
      let bound : IsBoundedBy f keeps.0.descrs p = keeps.0.bounded in
      let words = pieces_few p.code k in
      let most = bound.words in
      let points = bound.points in
      let counted : length (marks_in p.code) ≡ length keeps.0.descrs = ap length keeps.0.carried in
      let fewer = own_count at p.code k in
      let below : Below next own = own_below at next p.code k (omega arith) in
      let none = no_count row pre (none_before row at pre (omega arith) before) in
      let later = no_count row rest (none_behind row next rest (omega arith) (all_above next ps forms laid.1)) in
      let here = count_by-le-length (is_called_in row) own in
      let one : Desc → ℕ = λ d. cond (is_called_in row d) 1 0 in
      let split : count_by (is_called_in row) (pre ++ (own ++ rest)) ≡ count_by (is_called_in row) pre + count_by (is_called_in row) (own ++ rest) =
      sum_by-append one pre (own ++ rest) in
      let more : count_by (is_called_in row) (own ++ rest) ≡ count_by (is_called_in row) own + count_by (is_called_in row) rest = sum_by-append one own rest in
      let whole : count_by (is_called_in row) described ≡ count_by (is_called_in row) (pre ++ (own ++ rest)) = ap (count_by (is_called_in row)) same in (
        record {
          frame = bound.frame;
          words = omega (arith, words, most);
          descs = omega (arith, whole, split, more, none, later, here, fewer, counted, points);
        },
        each_within described (pre ++ own) next fs ps forms (same ∙ sym (append_assoc pre own rest))
            (all_append (λ (d : Desc). d.after ≤ 4 * next) pre own (below_more at next pre (omega arith) before) below) keeps.1 are.1 laid.1,
      )

-- The image of a file whose functions keep to their texts is bounded.
pub laid_bounded : (file : FileTree) (ps : List Pieces) (forms : List (List Form)) → CanBeLaid file ps → AllReach ps forms →
    AllZip KeepsTo (functions file) ps → IsBounded file (laid_out file ps forms)
laid_bounded file ps forms can are keeps =
    record {
      each = each_within file (descs_from stub_words ps forms) [] stub_words (functions file) ps forms refl tt keeps are can.each;
      stub_first = refl;
      filled = filled file ps forms can are;
    }

pub image_bounded : (file : FileTree) (ps : List Pieces) (image : Tables) → CanBeLaid file ps → IsLaid file ps image →
    AllZip KeepsTo (functions file) ps → IsBounded file image
image_bounded file ps image can laid keeps = subst (IsBounded file) (sym laid.is) (laid_bounded file ps laid.forms can laid.reach keeps)
