-- The pieces of a file are few.
use Rattle.std.proofs.Common.{ℕ, ◌+◌, ◌*◌, ◌^◌, ◌<◌, ◌≤◌, List, [], ◌∷◌, length, All, ap, lit<, arith}
use Rattle.std.specs.Prelude.{Contains, sum_by}
use Rattle.std.specs.List.{AllByRecursion, AllZip}
use Rattle.std.proofs.lemmas.List.Elements.{All-head, All-tail}
use Rattle.std.proofs.lemmas.List.Sums.{sum_by-cons}
use Rattle.cmm_front.specs.FileOf.{IsFileOf}
use Rattle.cmm_tree.specs.Tree.{FunctionTree, FileTree, functions}
use Rattle.cmm_types.proofs.Containing.{contains_head, contains_tail}
use Rattle.correctness.specs.Measures.{frame_points, switch_indexes}
use Rattle.rv_emit_rules.specs.Sizes.{words_at_most}
use Rattle.rv_layout_rules.specs.Conditions.{piece_weight, weight_of}
use Rattle.lin_ir.specs.declared.descr.Descr.{Descr}
use Rattle.rv_pieces.specs.Named.{marks_in, places_in}
use Rattle.rv_pieces.specs.declared.piece.Piece.{Piece}
use Rattle.rv_pieces.specs.declared.piece.Piece.TheVariants as piece
use Rattle.rv_pieces.specs.declared.piece.Pieces.{Pieces}
use Rattle.selection_laws.proofs.Accepting.{right}
use Rattle.selection_accepted.proofs.Known.{few_tokens}
use Rattle.selection_accepted.proofs.Promised.{function_accepted}
use Rattle.text_sizes.proofs.Whole.{text_held, tokens_of}
use Rattle.code_bounds.specs.Kept.{KeepsTo}
use Rattle.code_bounds.proofs.Modest.{few_points, few_indexes}

-- ---- one function

abbrev marks_weight : List Descr → ℕ
marks_weight [] = 0
marks_weight (d ∷ ds) = 1 + length d.entries + marks_weight ds

pieces_weigh : (ps : List Piece) → weight_of ps ≤ words_at_most ps + (length (places_in ps) + marks_weight (marks_in ps))
pieces_weigh [] = omega arith
pieces_weigh (piece.Label l ∷ ps) = let others = pieces_weigh ps in let split = sum_by-cons piece_weight (piece.Label l) ps in omega (arith, others, split)
pieces_weigh (piece.Descriptor d ∷ ps) = let others = pieces_weigh ps in let split = sum_by-cons piece_weight (piece.Descriptor d) ps in omega (arith, others, split)
pieces_weigh (p ∷ ps) = let others = pieces_weigh ps in let split = sum_by-cons piece_weight p ps in omega (arith, others, split)

marks_few : (tokens : ℕ) (ds : List Descr) → tokens ≤ 32000 → All (λ (d : Descr). length d.entries ≤ 21 + 2 * tokens) ds → marks_weight ds ≤ 64022 * length ds
marks_few tokens [] few all = omega arith
marks_few tokens (d ∷ ds) few all =
    let here : length d.entries ≤ 21 + 2 * tokens = All-head (λ (d : Descr). length d.entries ≤ 21 + 2 * tokens) d ds all in
    let others = marks_few tokens ds few (All-tail (λ (d : Descr). length d.entries ≤ 21 + 2 * tokens) d ds all) in
    omega (arith, few, here, others)

-- what the tokens of a function bound
pub record IsModest (f : FunctionTree) : Type 0 where
  pub some : 1 ≤ f.tokens
  pub few : f.tokens ≤ 32000
  pub points : frame_points f ≤ 3 * f.tokens
  pub indexes : switch_indexes f ≤ 12288 * f.tokens

function_modest : (text : List ℕ) (file : FileTree) → IsFileOf text file → (f : FunctionTree) → Contains (functions file) f → IsModest f
function_modest text file is f c =
    let accepted = function_accepted text file is f c in
    let nodes = accepted.covered.nodes_covered in
    let tokens = few_tokens f accepted.checked.limits_kept in
    let points = few_points f.body in
    let indexes = few_indexes f.body (right (right accepted.checked.limits_kept)) in
    record { some = omega (arith, nodes); few = tokens; points = omega (arith, nodes, points); indexes = omega (arith, nodes, indexes) }

pub all_modest : (text : List ℕ) (file : FileTree) → IsFileOf text file → AllByRecursion IsModest (functions file)
all_modest text file is = go (functions file) (λ f c. c)
  where
    go : (fs : List FunctionTree) → ((f : FunctionTree) → Contains fs f → Contains (functions file) f) → AllByRecursion IsModest fs
    go [] among = tt
    go (f ∷ fs) among = (function_modest text file is f (among f (contains_head f fs)), go fs (λ g c. among g (contains_tail f fs g c)))

function_few : (f : FunctionTree) (p : Pieces) → IsModest f → KeepsTo f p → weight_of p.code ≤ 320000 * f.tokens
function_few f p modest keeps =
    let weigh = pieces_weigh p.code in
    let words = keeps.bounded.words in
    let labels = keeps.labels in
    let carried = ap marks_weight keeps.carried in
    let marks = marks_few f.tokens keeps.descrs modest.few keeps.bounded.entries in
    let count = keeps.bounded.points in
    let points = modest.points in
    let indexes = modest.indexes in
    omega (arith, weigh, words, labels, carried, marks, count, points, indexes)

-- ---- all functions

abbrev weight_in : Pieces → ℕ
weight_in p = weight_of p.code

all_few : (fs : List FunctionTree) (ps : List Pieces) → AllByRecursion IsModest fs → AllZip KeepsTo fs ps → sum_by weight_in ps ≤ 320000 * sum_by tokens_of fs
all_few [] [] modest keeps = omega arith
all_few [] (p ∷ ps) modest keeps = absurd keeps
all_few (f ∷ fs) [] modest keeps = absurd keeps
all_few (f ∷ fs) (p ∷ ps) modest keeps =
    let here = function_few f p modest.0 keeps.0 in
    let others = all_few fs ps modest.1 keeps.1 in
    let split = sum_by-cons weight_in p ps in
    let more = sum_by-cons tokens_of f fs in
    omega (arith, here, others, split, more)

-- The pieces of a file are as few as laying out asks.
pub few : (text : List ℕ) (file : FileTree) (ps : List Pieces) → IsFileOf text file → AllZip KeepsTo (functions file) ps →
    sum_by (λ (p : Pieces). weight_of p.code) ps < 2 ^ 48
few text file ps is keeps =
    let all = all_few (functions file) ps (all_modest text file is) keeps in
    let held = text_held text file is in
    let short = held.short in
    let tokens = held.tokens in
    let low : sum_by weight_in ps ≤ 6400000000000 = omega (arith, all, short, tokens) in
    let high : 6400000000000 < 2 ^ 48 = lit< tt in
    omega (arith, low, high)
