-- An expression that is drawn is read as its tree.
use Rattle.std.proofs.Common.{◌≡◌, ℕ, ◌+◌, ◌*◌, ◌≤◌, suc, zero, Bool, true, false, List, length, Option, Some, refl, ap, arith, append_assoc, codes}
use Rattle.bs_words.specs.declared.operators.CmpOp.TheVariants as cmp
use Rattle.bs_words.specs.declared.operators.IntOp.{IntOp}
use Rattle.bs_words.specs.declared.operators.IntOp.TheVariants as op
use Rattle.bs_words.specs.declared.types.Chunk.TheVariants as chunk
use Rattle.cmm_lex.specs.declared.token.TokenKind.TheVariants as kind
use Rattle.cmm_tree.specs.Tree.{Expression, Integer, Name, Operator, Load, Alloc, Raise, If, Try, NoMore, More}
use Rattle.cmm_grammar.specs.Words.{word_or_zero}
use Rattle.cmm_gen.proofs.Within as within
use Rattle.cmm_gen.specs.Drawn.{Drawn, Number, Variable, Sum, Difference, Product, Choice, Cell, Attempt, drawn_text, number_text}
use Rattle.cmm_gen.proofs.Within.{IsWithin}
use Rattle.cmm_gen.proofs.Trees as tree
use Rattle.cmm_gen.proofs.Trees.{IsTreeOf, number_word}
use Rattle.cmm_gen.proofs.LexedNumerals.{number-is}
use Rattle.cmm_gen.proofs.LexedWords.{word-plus, word-minus, word-less, word-one, word-x, word-y}
use Rattle.cmm_gen.proofs.ReadingParts.{Spelled, spelled-as, deeper, more-tokens, leaf-spelled, pair_text, pair-spelled, product_text, product-spelled, if_text, if-spelled, raise_text, raise-spelled, alloc_text, alloc-spelled, load_text, load-spelled, try_text, try-spelled, none-fine}

-- the most tokens of an expression in which forms nest so deep
abbrev pub most_tokens_in : ℕ → ℕ
most_tokens_in zero = 1
most_tokens_in (suc n) = 15 + 4 * most_tokens_in n

-- and how deep its parentheses nest at most
abbrev pub levels_in : ℕ → ℕ
levels_in zero = 0
levels_in (suc n) = suc (suc (suc (levels_in n)))

some-tokens : (n : ℕ) → 1 ≤ most_tokens_in n
some-tokens zero = omega arith
some-tokens (suc n) = omega arith

-- How an expression is read that is at a place.
pub record Reading (n : ℕ) (e : Drawn) (at : ℕ) : Type 0 where
  pub tree : Expression
  pub spelled : Spelled (drawn_text e) at tree (most_tokens_in n) (levels_in n)
  pub is_tree : IsTreeOf e tree

number-reads : (n draw at : ℕ) → draw ≤ 200 → Reading n (Number draw) at
number-reads n draw at h =
    let is = number-is draw h in
    record {
      tree = Integer at (number_word draw);
      spelled =
          more-tokens (number_text draw) at (Integer at (number_word draw)) 1 _ _ (some-tokens n)
          (leaf-spelled kind.Integer (number_text draw) at (Integer at (number_word draw)) (levels_in n) is.word
          (ap (λ (o : Option ℕ). Some (Integer at (word_or_zero o))) is.value) refl none-fine);
      is_tree = tree.number draw at;
    }

variable-reads : (n : ℕ) (even : Bool) (at : ℕ) → Reading n (Variable even) at
variable-reads n true at = record {
  tree = Name at (codes "x");
  spelled = more-tokens (codes "x") at _ 1 _ _ (some-tokens n) (leaf-spelled kind.Name (codes "x") at _ (levels_in n) word-x refl refl none-fine);
  is_tree = tree.variable true at;
}
variable-reads n false at = record {
  tree = Name at (codes "y");
  spelled = more-tokens (codes "y") at _ 1 _ _ (some-tokens n) (leaf-spelled kind.Name (codes "y") at _ (levels_in n) word-y refl refl none-fine);
  is_tree = tree.variable false at;
}

-- two parts
pair-tokens : (n : ℕ) → 3 + most_tokens_in n + most_tokens_in n ≤ most_tokens_in (suc n)
pair-tokens n = omega arith

pair-reads : (n : ℕ) (o : IntOp) (text : List ℕ) (a b e : Drawn) (at : ℕ) (x y : Expression)
    → drawn_text e ≡ pair_text text (drawn_text a) (drawn_text b)
    → Spelled (pair_text text (drawn_text a) (drawn_text b)) at (Operator at o x y) (3 + most_tokens_in n + most_tokens_in n) (suc (levels_in n))
    → Spelled (drawn_text e) at (Operator at o x y) (most_tokens_in (suc n)) (levels_in (suc n))
pair-reads n o text a b e at x y flat h =
    let made = Operator at o x y in
    spelled-as (drawn_text e) _ at made _ _ flat
    (deeper _ at made _ _ (deeper _ at made _ _ (more-tokens _ at made _ _ _ (pair-tokens n) h)))

sum-reads : (n : ℕ) (a b : Drawn) (at : ℕ) → ((p : ℕ) → Reading n a p) → ((p : ℕ) → Reading n b p) → Reading (suc n) (Sum a b) at
sum-reads n a b at reads_a reads_b =
    let h = reads_a (at + 1 + 1 + 1) in
    let g = reads_b (at + 1 + 1 + 1 + length (drawn_text a) + 1) in
    record {
      tree = Operator at op.Add h.tree g.tree;
      spelled =
          pair-reads n op.Add (codes "+") a b (Sum a b) at h.tree g.tree (simp append_assoc)
          (pair-spelled op.Add (codes "+") _ _ at h.tree g.tree _ _ _ word-plus refl h.spelled g.spelled);
      is_tree = tree.sum a b at h.tree g.tree h.is_tree g.is_tree;
    }

difference-reads : (n : ℕ) (a b : Drawn) (at : ℕ) → ((p : ℕ) → Reading n a p) → ((p : ℕ) → Reading n b p) → Reading (suc n) (Difference a b) at
difference-reads n a b at reads_a reads_b =
    let h = reads_a (at + 1 + 1 + 1) in
    let g = reads_b (at + 1 + 1 + 1 + length (drawn_text a) + 1) in
    record {
      tree = Operator at op.Sub h.tree g.tree;
      spelled =
          pair-reads n op.Sub (codes "-") a b (Difference a b) at h.tree g.tree (simp append_assoc)
          (pair-spelled op.Sub (codes "-") _ _ at h.tree g.tree _ _ _ word-minus refl h.spelled g.spelled);
      is_tree = tree.difference a b at h.tree g.tree h.is_tree g.is_tree;
    }

flat-product : (a b : Drawn) → drawn_text (Product a b) ≡ product_text (drawn_text a) (drawn_text b)
flat-product a b = simp append_assoc

product-reads : (n : ℕ) (a b : Drawn) (at : ℕ) → ((p : ℕ) → Reading n a p) → ((p : ℕ) → Reading n b p) → Reading (suc n) (Product a b) at
product-reads n a b at reads_a reads_b =
    let h = reads_a (at + 1 + 1 + 1 + 1) in
    let g = reads_b (at + 1 + 1 + 1 + 1 + length (drawn_text a) + 1) in
    let made = Operator at op.Mul h.tree g.tree in
    record {
      tree = made;
      spelled =
          spelled-as (drawn_text (Product a b)) _ at made _ _ (flat-product a b)
          (deeper _ at made _ _ (deeper _ at made _ _ (more-tokens _ at made _ _ _ (pair-tokens n)
          (product-spelled (drawn_text a) (drawn_text b) at h.tree g.tree _ _ _ h.spelled g.spelled))));
      is_tree = tree.product a b at h.tree g.tree h.is_tree g.is_tree;
    }

-- ---- a test and two parts

abbrev test_text : Drawn → Drawn → List ℕ
test_text a b = pair_text (codes "<") (drawn_text a) (drawn_text b)

flat-choice : (a b c d : Drawn) → drawn_text (Choice a b c d) ≡ if_text (test_text a b) (drawn_text c) (drawn_text d)
flat-choice a b c d = simp append_assoc

choice-tokens : (n : ℕ) → 3 + (3 + most_tokens_in n + most_tokens_in n) + most_tokens_in n + most_tokens_in n ≤ most_tokens_in (suc n)
choice-tokens n = omega arith

choice-reads : (n : ℕ) (a b c d : Drawn) (at : ℕ)
    → ((p : ℕ) → Reading n a p)
    → ((p : ℕ) → Reading n b p)
    → ((p : ℕ) → Reading n c p)
    → ((p : ℕ) → Reading n d p)
    → Reading (suc n) (Choice a b c d) at
choice-reads n a b c d at reads_a reads_b reads_c reads_d =
    let test_at = at + 1 + 2 + 1 in
    let h = reads_a (test_at + 1 + 1 + 1) in
    let g = reads_b (test_at + 1 + 1 + 1 + length (drawn_text a) + 1) in
    let i = reads_c (test_at + length (test_text a b) + 1) in
    let j = reads_d (test_at + length (test_text a b) + 1 + length (drawn_text c) + 1) in
    let test = Operator test_at (op.Cmp cmp.Lt) h.tree g.tree in
    let made = If at test i.tree j.tree in
    record {
      tree = made;
      spelled =
          spelled-as (drawn_text (Choice a b c d)) _ at made _ _ (flat-choice a b c d)
          (deeper _ at made _ _ (more-tokens _ at made _ _ _ (choice-tokens n)
          (if-spelled (test_text a b) (drawn_text c) (drawn_text d) at test i.tree j.tree _ _ _ _
          (pair-spelled (op.Cmp cmp.Lt) (codes "<") _ _ test_at h.tree g.tree _ _ _ word-less refl h.spelled g.spelled)
          (deeper _ _ _ _ _ i.spelled)
          (deeper _ _ _ _ _ j.spelled))));
      is_tree = tree.choice a b c d at test_at h.tree g.tree i.tree j.tree h.is_tree g.is_tree i.is_tree j.is_tree;
    }

flat-cell : (a b : Drawn) → drawn_text (Cell a b) ≡ load_text (alloc_text (drawn_text a) (drawn_text b))
flat-cell a b = simp append_assoc

cell-tokens : (n : ℕ) → 4 + (4 + most_tokens_in n + most_tokens_in n) ≤ most_tokens_in (suc n)
cell-tokens n = omega arith

cell-reads : (n : ℕ) (a b : Drawn) (at : ℕ) → ((p : ℕ) → Reading n a p) → ((p : ℕ) → Reading n b p) → Reading (suc n) (Cell a b) at
cell-reads n a b at reads_a reads_b =
    let alloc_at = at + 1 + 4 + 1 + 3 + 1 in
    let h = reads_a (alloc_at + 1 + 5 + 1 + 4 + 1) in
    let g = reads_b (alloc_at + 1 + 5 + 1 + 4 + 1 + length (drawn_text a) + 1) in
    let fields = Alloc alloc_at (alloc_at + 1 + 5 + 1) 2299 (More h.tree (More g.tree NoMore)) in
    let made = Load at chunk.Int fields in
    record {
      tree = made;
      spelled =
          spelled-as (drawn_text (Cell a b)) _ at made _ _ (flat-cell a b)
          (deeper _ at made _ _ (more-tokens _ at made _ _ _ (cell-tokens n)
          (load-spelled (alloc_text (drawn_text a) (drawn_text b)) at fields _ _
          (alloc-spelled (drawn_text a) (drawn_text b) alloc_at h.tree g.tree _ _ _ h.spelled g.spelled))));
      is_tree = tree.cell a b at alloc_at (alloc_at + 1 + 5 + 1) h.tree g.tree h.is_tree g.is_tree;
    }

-- what raises if it is less, and else has this value
abbrev guarded_text : Drawn → Drawn → Drawn → List ℕ
guarded_text a b c = if_text (test_text a b) (raise_text (codes "1")) (drawn_text c)

flat-attempt : (a b c d : Drawn) → drawn_text (Attempt a b c d) ≡ try_text (guarded_text a b c) (drawn_text d)
flat-attempt a b c d = simp append_assoc

attempt-tokens : (n : ℕ) → 5 + (3 + (3 + most_tokens_in n + most_tokens_in n) + (3 + 1) + most_tokens_in n) + most_tokens_in n ≤ most_tokens_in (suc n)
attempt-tokens n = omega arith

attempt-reads : (n : ℕ) (a b c d : Drawn) (at : ℕ)
    → ((p : ℕ) → Reading n a p)
    → ((p : ℕ) → Reading n b p)
    → ((p : ℕ) → Reading n c p)
    → ((p : ℕ) → Reading n d p)
    → Reading (suc n) (Attempt a b c d) at
attempt-reads n a b c d at reads_a reads_b reads_c reads_d =
    let if_at = at + 1 + 3 + 1 in
    let test_at = if_at + 1 + 2 + 1 in
    let h = reads_a (test_at + 1 + 1 + 1) in
    let g = reads_b (test_at + 1 + 1 + 1 + length (drawn_text a) + 1) in
    let raise_at = test_at + length (test_text a b) + 1 in
    let one_at = raise_at + 1 + 5 + 1 in
    let i = reads_c (raise_at + length (raise_text (codes "1")) + 1) in
    let name_at = if_at + length (guarded_text a b c) + 1 + 4 + 1 in
    let j = reads_d (name_at + 1 + 1) in
    let test = Operator test_at (op.Cmp cmp.Lt) h.tree g.tree in
    let guarded = If if_at test (Raise raise_at (Integer one_at 1)) i.tree in
    let made = Try at guarded name_at (codes "z") j.tree in
    record {
      tree = made;
      spelled =
          spelled-as (drawn_text (Attempt a b c d)) _ at made _ _ (flat-attempt a b c d)
          (more-tokens _ at made _ _ _ (attempt-tokens n)
          (try-spelled (guarded_text a b c) (drawn_text d) at guarded j.tree _ _ _
          (if-spelled (test_text a b) (raise_text (codes "1")) (drawn_text c) if_at test (Raise raise_at (Integer one_at 1)) i.tree _ _ _ _
          (pair-spelled (op.Cmp cmp.Lt) (codes "<") _ _ test_at h.tree g.tree _ _ _ word-less refl h.spelled g.spelled)
          (raise-spelled (codes "1") raise_at (Integer one_at 1) 1 _ (leaf-spelled kind.Integer (codes "1") one_at (Integer one_at 1) _ word-one refl refl none-fine))
          (deeper _ _ _ _ _ i.spelled))
          (deeper _ _ _ _ _ (deeper _ _ _ _ _ j.spelled))));
      is_tree =
          tree.attempt a b c d at if_at test_at raise_at one_at name_at h.tree g.tree i.tree j.tree h.is_tree g.is_tree i.is_tree j.is_tree;
    }

-- an expression that is drawn is read at any place
pub drawn-reads : (n : ℕ) (e : Drawn) (at : ℕ) → IsWithin n e → Reading n e at
drawn-reads n e at (within.number _ draw h) = number-reads n draw at h
drawn-reads n e at (within.variable _ even) = variable-reads n even at
drawn-reads _ e at (within.sum n a b h g) = sum-reads n a b at (λ p. drawn-reads n a p h) (λ p. drawn-reads n b p g)
drawn-reads _ e at (within.difference n a b h g) = difference-reads n a b at (λ p. drawn-reads n a p h) (λ p. drawn-reads n b p g)
drawn-reads _ e at (within.product n a b h g) = product-reads n a b at (λ p. drawn-reads n a p h) (λ p. drawn-reads n b p g)
drawn-reads _ e at (within.choice n a b c d h g i j) =
    choice-reads n a b c d at (λ p. drawn-reads n a p h) (λ p. drawn-reads n b p g) (λ p. drawn-reads n c p i) (λ p. drawn-reads n d p j)
drawn-reads _ e at (within.cell n a b h g) = cell-reads n a b at (λ p. drawn-reads n a p h) (λ p. drawn-reads n b p g)
drawn-reads _ e at (within.attempt n a b c d h g i j) =
    attempt-reads n a b c d at (λ p. drawn-reads n a p h) (λ p. drawn-reads n b p g) (λ p. drawn-reads n c p i) (λ p. drawn-reads n d p j)
