-- The tables of an image keep its rules: functions and descriptors.
use Rattle.std.proofs.Common.{◌≡◌, ℕ, ◌+◌, ◌*◌, ◌<◌, ◌≤◌, Bool, true, false, List, [], ◌∷◌, ◌++◌, subst, arith}
use Rattle.std.specs.List.{AllByRecursion}
use Rattle.std.proofs.lemmas.List.{length-map}
use Rattle.cmm_tree.specs.Tree.{FunctionTree, FileTree}
use Rattle.image_form.specs.Image.{First, EachNext, IsFunc, IsDesc}
use Rattle.image_form.specs.Tables.{Desc}
use Rattle.rv_layout_rules.specs.declared.form.Form.{Form}
use Rattle.rv_layout_rules.specs.declared.form.Form.TheVariants.{Near, Middle, Far}
use Rattle.rv_layout_rules.specs.Conditions.{AreDescriptors, IsDescriptor, IsFunctionLaid, IsRowLaid}
use Rattle.rv_layout_rules.specs.Forms.{branch_words, jump_words, words_of_call, piece_words, total_words, all_words}
use Rattle.rv_layout_rules.specs.Laid.{rows_from, descs_in, descs_from}
use Rattle.rv_pieces.specs.declared.piece.Piece.{Piece}
use Rattle.rv_pieces.specs.declared.piece.Piece.TheVariants.{Known, Label, Branch, Jump, Row, LabelAddress, Call, TailCall, SymbolAddress, ExternalNumber, Descriptor}
use Rattle.rv_pieces.specs.declared.piece.Pieces.{Pieces}

pub branch_some : (f : Form) → 1 ≤ branch_words f
branch_some Near = omega arith
branch_some Middle = omega arith
branch_some Far = omega arith

pub jump_some : (f : Form) → 1 ≤ jump_words f
jump_some Near = omega arith
jump_some Middle = omega arith
jump_some Far = omega arith

call_some : (f : Form) → 1 ≤ words_of_call f
call_some Near = omega arith
call_some Middle = omega arith
call_some Far = omega arith

-- ---- descriptors

-- return offsets rise, from after this one on
RisesFrom : ℕ → List Desc → Type 0
RisesFrom from [] = Unit {0}
RisesFrom from (d ∷ ds) = (from < d.after) × RisesFrom d.after ds

from_less : (a b : ℕ) (ds : List Desc) → a ≤ b → RisesFrom b ds → RisesFrom a ds
unfolding RisesFrom
from_less a b [] h rises = tt
from_less a b (d ∷ ds) h rises = (omega (arith, h, rises.0), rises.1)

in_order_first : (d : Desc) (ds : List Desc) → RisesFrom d.after ds → First (λ e. d.after < e.after) ds
unfolding RisesFrom
in_order_first d [] rises = tt
in_order_first d (e ∷ ds) rises = rises.0

in_order : (from : ℕ) (ds : List Desc) → RisesFrom from ds → EachNext (λ a b. a.after < b.after) ds
unfolding RisesFrom
in_order from [] rises = tt
in_order from (d ∷ ds) rises = (in_order_first d ds rises.1, in_order d.after ds rises.1)

-- after a piece of some words
past_words : {X : Type 0} (w prev at n : ℕ) (rest : List Desc) → 1 ≤ w → prev ≤ at → RisesFrom (4 * (at + (w + n))) rest →
    (prev ≤ at + w → (true ≡ true → prev < at + w) → RisesFrom (4 * (at + w + n)) rest → X) → X
past_words w prev at n rest some h rises go =
    let same : 4 * (at + (w + n)) ≡ 4 * (at + w + n) = omega arith in
    go (omega (arith, h)) (λ e. omega (arith, h, some)) (subst (λ n. RisesFrom n rest) same rises)

within_words : {X : Type 0} (w prev at n len : ℕ) → 1 ≤ w → prev ≤ at → 4 * (at + (w + n)) ≤ len →
    (prev ≤ at + w → (true ≡ true → prev < at + w) → 4 * (at + w + n) ≤ len → X) → X
within_words w prev at n len some h in_code go = go (omega (arith, h)) (λ e. omega (arith, h, some)) (omega (arith, in_code))

-- `prev` is the place of the last mark, or the entry of the function
descs_rise : (prev at : ℕ) (behind : Bool) (ps : List Piece) (fs : List Form) (rest : List Desc) → AreDescriptors behind ps → prev ≤ at → (behind ≡ true → prev < at) →
    RisesFrom (4 * (at + total_words ps fs)) rest → RisesFrom (4 * prev) (descs_in at ps fs ++ rest)
unfolding RisesFrom
descs_rise prev at behind [] fs rest are h k rises = from_less (4 * prev) (4 * (at + 0)) rest (omega (arith, h)) rises
descs_rise prev at behind (p ∷ ps) [] rest are h k rises = from_less (4 * prev) (4 * (at + 0)) rest (omega (arith, h)) rises
descs_rise prev at behind (Descriptor d ∷ ps) (f ∷ fs) rest are h k rises =
    let less = k are.0 in
    let same : 4 * (at + (0 + total_words ps fs)) ≡ 4 * (at + total_words ps fs) = omega arith in
    (omega (arith, less), descs_rise at at false ps fs rest are.2 (omega arith) (λ e. absurd (cc)) (subst (λ n. RisesFrom n rest) same rises))
descs_rise prev at behind (Label l ∷ ps) (f ∷ fs) rest are h k rises =
    let same : 4 * (at + (0 + total_words ps fs)) ≡ 4 * (at + 0 + total_words ps fs) = omega arith in
    descs_rise prev (at + 0) behind ps fs rest are (omega (arith, h)) (λ e. let less = k e in omega (arith, less)) (subst (λ n. RisesFrom n rest) same rises)
descs_rise prev at behind (Known i ∷ ps) (f ∷ fs) rest are h k rises =
    past_words (piece_words (Known i) f) prev at (total_words ps fs) rest (omega arith) h rises (descs_rise prev (at + piece_words (Known i) f) true ps fs rest are)
descs_rise prev at behind (Branch c a b l ∷ ps) (f ∷ fs) rest are h k rises =
    past_words (piece_words (Branch c a b l) f) prev at (total_words ps fs) rest (branch_some f) h rises (descs_rise prev (at + piece_words (Branch c a b l) f) true ps fs rest are)
descs_rise prev at behind (Jump l ∷ ps) (f ∷ fs) rest are h k rises =
    past_words (piece_words (Jump l) f) prev at (total_words ps fs) rest (jump_some f) h rises (descs_rise prev (at + piece_words (Jump l) f) true ps fs rest are)
descs_rise prev at behind (Row l ∷ ps) (f ∷ fs) rest are h k rises =
    past_words (piece_words (Row l) f) prev at (total_words ps fs) rest (omega arith) h rises (descs_rise prev (at + piece_words (Row l) f) true ps fs rest are)
descs_rise prev at behind (LabelAddress r l ∷ ps) (f ∷ fs) rest are h k rises =
    past_words (piece_words (LabelAddress r l) f) prev at (total_words ps fs) rest (omega arith) h rises (descs_rise prev (at + piece_words (LabelAddress r l) f) true ps fs rest are)
descs_rise prev at behind (Call name ∷ ps) (f ∷ fs) rest are h k rises =
    past_words (piece_words (Call name) f) prev at (total_words ps fs) rest (call_some f) h rises (descs_rise prev (at + piece_words (Call name) f) true ps fs rest are)
descs_rise prev at behind (TailCall name ∷ ps) (f ∷ fs) rest are h k rises =
    past_words (piece_words (TailCall name) f) prev at (total_words ps fs) rest (call_some f) h rises (descs_rise prev (at + piece_words (TailCall name) f) true ps fs rest are)
descs_rise prev at behind (SymbolAddress r name ∷ ps) (f ∷ fs) rest are h k rises =
    past_words (piece_words (SymbolAddress r name) f) prev at (total_words ps fs) rest (omega arith) h rises (descs_rise prev (at + piece_words (SymbolAddress r name) f) true ps fs rest are)
descs_rise prev at behind (ExternalNumber r row ∷ ps) (f ∷ fs) rest are h k rises =
    past_words (piece_words (ExternalNumber r row) f) prev at (total_words ps fs) rest (omega arith) h rises (descs_rise prev (at + piece_words (ExternalNumber r row) f) true ps fs rest are)

pub descs_keep : (len prev at : ℕ) (behind : Bool) (ps : List Piece) (fs : List Form) → 4 ≤ prev → prev ≤ at → (behind ≡ true → prev < at) → AreDescriptors behind ps →
    4 * (at + total_words ps fs) ≤ len → AllByRecursion (IsDesc 2 len) (descs_in at ps fs)
descs_keep len prev at behind [] fs m h k are in_code = tt
descs_keep len prev at behind (p ∷ ps) [] m h k are in_code = tt
descs_keep len prev at behind (Descriptor d ∷ ps) (f ∷ fs) m h k are in_code =
    let less = k are.0 in
    let own : IsDescriptor d = are.1 in (
      record {
        aligned = omega arith;
        behind_stub = omega (arith, less, m);
        in_code = omega (arith, in_code);
        size_aligned = own.size_aligned;
        nonempty = own.nonempty;
        size_fits = own.size_fits;
        few = own.few;
        entries = own.entries;
        in_order = own.in_order;
      },
      descs_keep len at at false ps fs (omega (arith, m, h)) (omega arith) (λ e. absurd (cc)) are.2 (omega (arith, in_code)),
    )
descs_keep len prev at behind (Label l ∷ ps) (f ∷ fs) m h k are in_code =
    descs_keep len prev (at + 0) behind ps fs m (omega (arith, h)) (λ e. let less = k e in omega (arith, less)) are (omega (arith, in_code))
descs_keep len prev at behind (Known i ∷ ps) (f ∷ fs) m h k are in_code =
    within_words (piece_words (Known i) f) prev at (total_words ps fs) len (omega arith) h in_code
    (λ x y z. descs_keep len prev (at + piece_words (Known i) f) true ps fs m x y are z)
descs_keep len prev at behind (Branch c a b l ∷ ps) (f ∷ fs) m h k are in_code =
    within_words (piece_words (Branch c a b l) f) prev at (total_words ps fs) len (branch_some f) h in_code
    (λ x y z. descs_keep len prev (at + piece_words (Branch c a b l) f) true ps fs m x y are z)
descs_keep len prev at behind (Jump l ∷ ps) (f ∷ fs) m h k are in_code =
    within_words (piece_words (Jump l) f) prev at (total_words ps fs) len (jump_some f) h in_code
    (λ x y z. descs_keep len prev (at + piece_words (Jump l) f) true ps fs m x y are z)
descs_keep len prev at behind (Row l ∷ ps) (f ∷ fs) m h k are in_code =
    within_words (piece_words (Row l) f) prev at (total_words ps fs) len (omega arith) h in_code
    (λ x y z. descs_keep len prev (at + piece_words (Row l) f) true ps fs m x y are z)
descs_keep len prev at behind (LabelAddress r l ∷ ps) (f ∷ fs) m h k are in_code =
    within_words (piece_words (LabelAddress r l) f) prev at (total_words ps fs) len (omega arith) h in_code
    (λ x y z. descs_keep len prev (at + piece_words (LabelAddress r l) f) true ps fs m x y are z)
descs_keep len prev at behind (Call name ∷ ps) (f ∷ fs) m h k are in_code =
    within_words (piece_words (Call name) f) prev at (total_words ps fs) len (call_some f) h in_code
    (λ x y z. descs_keep len prev (at + piece_words (Call name) f) true ps fs m x y are z)
descs_keep len prev at behind (TailCall name ∷ ps) (f ∷ fs) m h k are in_code =
    within_words (piece_words (TailCall name) f) prev at (total_words ps fs) len (call_some f) h in_code
    (λ x y z. descs_keep len prev (at + piece_words (TailCall name) f) true ps fs m x y are z)
descs_keep len prev at behind (SymbolAddress r name ∷ ps) (f ∷ fs) m h k are in_code =
    within_words (piece_words (SymbolAddress r name) f) prev at (total_words ps fs) len (omega arith) h in_code
    (λ x y z. descs_keep len prev (at + piece_words (SymbolAddress r name) f) true ps fs m x y are z)
descs_keep len prev at behind (ExternalNumber r row ∷ ps) (f ∷ fs) m h k are in_code =
    within_words (piece_words (ExternalNumber r row) f) prev at (total_words ps fs) len (omega arith) h in_code
    (λ x y z. descs_keep len prev (at + piece_words (ExternalNumber r row) f) true ps fs m x y are z)

pub all_append : {A : Type 0} (P : A → Type 0) (xs ys : List A) → AllByRecursion P xs → AllByRecursion P ys → AllByRecursion P (xs ++ ys)
all_append P [] ys a b = b
all_append P (x ∷ xs) ys a b = (a.0, all_append P xs ys a.1 b)

all_rise : (file : FileTree) (at : ℕ) (ps : List Pieces) (forms : List (List Form)) → AllByRecursion (IsFunctionLaid file) ps → RisesFrom (4 * at) (descs_from at ps forms)
unfolding RisesFrom
all_rise file at [] forms laid = tt
all_rise file at (p ∷ ps) [] laid = tt
all_rise file at (p ∷ ps) (f ∷ forms) laid =
    let next = at + total_words p.code f in
    descs_rise at at false p.code f (descs_from next ps forms) laid.0.descriptors (omega arith) (λ e. absurd (cc)) (all_rise file next ps forms laid.1)

-- The return offsets of an image's descriptors rise.
pub descs_in_order : (file : FileTree) (at : ℕ) (ps : List Pieces) (forms : List (List Form)) → AllByRecursion (IsFunctionLaid file) ps →
    EachNext (λ a b. a.after < b.after) (descs_from at ps forms)
descs_in_order file at ps forms laid = in_order (4 * at) (descs_from at ps forms) (all_rise file at ps forms laid)

-- Each descriptor keeps the rules.
pub each_desc : (file : FileTree) (len at : ℕ) (ps : List Pieces) (forms : List (List Form)) → 4 ≤ at → AllByRecursion (IsFunctionLaid file) ps → 4 * (at + all_words ps forms) ≤ len →
    AllByRecursion (IsDesc 2 len) (descs_from at ps forms)
each_desc file len at [] forms m laid in_code = tt
each_desc file len at (p ∷ ps) [] m laid in_code = tt
each_desc file len at (p ∷ ps) (f ∷ forms) m laid in_code =
    let next = at + total_words p.code f in
    all_append (IsDesc 2 len) (descs_in at p.code f) (descs_from next ps forms)
    (descs_keep len at at false p.code f m (omega arith) (λ e. absurd (cc)) laid.0.descriptors (omega (arith, in_code)))
    (each_desc file len next ps forms (omega (arith, m)) laid.1 (omega (arith, in_code)))

-- ---- functions

pub each_func : (file : FileTree) (at : ℕ) (fs : List FunctionTree) (ps : List Pieces) (forms : List (List Form)) → AllByRecursion IsRowLaid fs → AllByRecursion (IsFunctionLaid file) ps →
    AllByRecursion IsFunc (rows_from at fs ps forms)
each_func file at [] ps forms rows laid = tt
each_func file at (f ∷ fs) [] forms rows laid = tt
each_func file at (f ∷ fs) (p ∷ ps) [] rows laid = tt
each_func file at (f ∷ fs) (p ∷ ps) (k ∷ forms) rows laid = (
  record {
    name = rows.0.name;
    aligned = omega arith;
    frame = laid.0.frame;
    frame_fits = laid.0.frame_fits;
    few = omega (arith, rows.0.few, length-map f.params (λ p. p.comp));
    params = rows.0.params;
    result = rows.0.result;
  },
  each_func file (at + total_words p.code k) fs ps forms rows.1 laid.1,
)
