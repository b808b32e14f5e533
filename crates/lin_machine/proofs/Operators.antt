-- What an operator gives of two values is what its row gives of their words.
use Rattle.std.proofs.Common.{◌≡◌, ◌≢◌, ℕ, zero, suc, ◌+◌, ◌%◌, ◌^◌, ◌<◌, ◌⊎◌, inl, inr, Bool, true, false, cond, ◌||◌, ◌==◌, nat_le, List, [], ◌∷◌, length, Result, Ok, Err, bit_and, bit_or, bit_xor, refl, ap, ap₂, arith, ◌∙◌, sym, subst, ⊎_elim}
use Rattle.std.specs.List.{AllByRecursion}
use Rattle.std.proofs.lemmas.Bool.{cond-false, eqb-true, leb-false, ne_eqb, or_cases}
use Rattle.std.proofs.lemmas.Nat.{and_comm, and_mask}
use Rattle.bs_words.specs.Operators.{apply, bits_in_both, difference_of, masked_offset, on_words, only_if, quotient_of, shift_of, sum_of}
use Rattle.bs_words.specs.Word.{add_word, div_word, mul_word, mulh_word, rem_word, sar_word, shl_word, shr_word, sub_word}
use Rattle.bs_words.specs.declared.operators.IntOp.{IntOp}
use Rattle.bs_words.specs.declared.operators.IntOp.TheVariants as int
use Rattle.bs_words.specs.declared.values.Kind.{Kind}
use Rattle.bs_words.specs.declared.values.Kind.TheVariants.{PointerArithmetic, ShiftRange}
use Rattle.bs_words.specs.declared.values.Value.{Value}
use Rattle.bs_words.specs.declared.values.Value.TheVariants.{Word, Block, Function}
use Rattle.bs_words.proofs.Below.{add_word-below, sub_word-below}
use Rattle.image_form.specs.Image.{IsFunc}
use Rattle.image_form.specs.Tables.{Func}
use Rattle.rv_isa.specs.declared.instr.AluOp.{AluOp}
use Rattle.rv_isa.specs.declared.instr.AluOp.TheVariants as row
use Rattle.rv_machine.specs.Arithmetic.{alu, divided, ones}
use Rattle.rv_machine.specs.Hart.{Placed}
use Rattle.moving_laws.specs.Heap.{AreBlocks}
use Rattle.moving_laws.specs.Values.{function_at, start_of}
use Rattle.moving_laws.proofs.Rewriting.{start_inside}
use Rattle.lin_machine.specs.Relation.{StandsFor}
use Rattle.lin_machine.specs.View.{Fixed}

pub ok_is : (x z : Value) → ◌≡◌ {A = Result Value Kind} (Ok x) (Ok z) → x ≡ z
ok_is x z e = cc

-- the row does what the operator does, wherever the blocks lie
pub record IsRowOf (f : IntOp) (r : AluOp) : Type 0 where
  pub is : (s : Fixed) (placed : List Placed) (sizes : List ℕ) (x y z : Value) (wx wy : ℕ) → AreBlocks placed → wx < 2 ^ 64 → wy < 2 ^ 64 →
      StandsFor s placed wx x → StandsFor s placed wy y → apply f sizes x y ≡ Ok z → StandsFor s placed (alu r wx wy) z

module _ (s : Fixed) (placed : List Placed) where
  -- ---- words alone

  words_alone : (g : ℕ → ℕ → ℕ) (x y z : Value) (wx wy : ℕ) → StandsFor s placed wx x → StandsFor s placed wy y → on_words g x y ≡ Ok z →
      StandsFor s placed (g wx wy) z
  words_alone g (Word a) (Word b) z wx wy sx sy e =
      subst (StandsFor s placed (g wx wy)) (ok_is (Word (g a b)) z e) (record { is = ap₂ g sx.is sy.is; known = tt })
  words_alone g (Word a) (Block k o) z wx wy sx sy e = absurd (cc)
  words_alone g (Word a) (Function f) z wx wy sx sy e = absurd (cc)
  words_alone g (Block k o) y z wx wy sx sy e = absurd (cc)
  words_alone g (Function f) y z wx wy sx sy e = absurd (cc)

  -- a word that stands for a word is it
  word_is : (w b : ℕ) → StandsFor s placed w (Word b) → w ≡ b
  word_is w b st = st.is

  -- ---- sums

  sum_moves : (a o w : ℕ) → add_word (add_word a o) w ≡ add_word a (add_word o w)
  unfolding add_word
  sum_moves a o w = omega arith

  sum_turns : (a b : ℕ) → add_word a b ≡ add_word b a
  unfolding add_word
  sum_turns a b = let e : a + b ≡ b + a = omega arith in ap (λ n. n % 2 ^ 64) e

  sums : (x y z : Value) (wx wy : ℕ) → StandsFor s placed wx x → StandsFor s placed wy y → sum_of x y ≡ Ok z → StandsFor s placed (add_word wx wy) z
  sums (Word a) (Word b) z wx wy sx sy e = subst (StandsFor s placed (add_word wx wy)) (ok_is (Word (add_word a b)) z e)
      (record { is = ap₂ add_word sx.is sy.is; known = tt })
  sums (Block k o) (Word w) z wx wy sx sy e =
      subst (StandsFor s placed (add_word wx wy)) (ok_is (Block k (add_word o w)) z e)
      (record { is = ap₂ add_word sx.is sy.is ∙ sum_moves (start_of placed k) o w; known = (sx.known.0, add_word-below o w) })
  sums (Word w) (Block k o) z wx wy sx sy e =
      subst (StandsFor s placed (add_word wx wy)) (ok_is (Block k (add_word o w)) z e)
      (record { is = sum_turns wx wy ∙ ap₂ add_word sy.is sx.is ∙ sum_moves (start_of placed k) o w; known = (sy.known.0, add_word-below o w) })
  sums (Word w) (Function f) z wx wy sx sy e = absurd (cc)
  sums (Block k o) (Block j p) z wx wy sx sy e = absurd (cc)
  sums (Block k o) (Function f) z wx wy sx sy e = absurd (cc)
  sums (Function f) y z wx wy sx sy e = absurd (cc)

  -- ---- differences

  difference_moves : (a o w : ℕ) → w < 2 ^ 64 → sub_word (add_word a o) w ≡ add_word a (sub_word o w)
  unfolding add_word sub_word
  difference_moves a o w h = omega (arith, h)

  distance : (a o p : ℕ) → o < 2 ^ 64 → p < 2 ^ 64 → sub_word (add_word a o) (add_word a p) ≡ sub_word o p
  unfolding add_word sub_word
  distance a o p h k = omega (arith, h, k)

  differences : (x y z : Value) (wx wy : ℕ) → wy < 2 ^ 64 → StandsFor s placed wx x → StandsFor s placed wy y → difference_of x y ≡ Ok z →
      StandsFor s placed (sub_word wx wy) z
  differences (Word a) (Word b) z wx wy small sx sy e = subst (StandsFor s placed (sub_word wx wy)) (ok_is (Word (sub_word a b)) z e)
      (record { is = ap₂ sub_word sx.is sy.is; known = tt })
  differences (Block k o) (Word w) z wx wy small sx sy e =
      let is = word_is wy w sy in
      subst (StandsFor s placed (sub_word wx wy)) (ok_is (Block k (sub_word o w)) z e)
      (record { is = ap₂ sub_word sx.is is ∙ difference_moves (start_of placed k) o w (omega (arith, is, small)); known = (sx.known.0, sub_word-below o w) })
  differences (Block k o) (Block j p) z wx wy small sx sy e = by_test (k == j) refl e
    where
      by_test : (t : Bool) → (k == j) ≡ t → only_if t PointerArithmetic (Word (sub_word o p)) ≡ Ok z → StandsFor s placed (sub_word wx wy) z
      by_test true t e =
          let same : k ≡ j = eqb-true k j t in
          let there : wy ≡ add_word (start_of placed k) p = sy.is ∙ ap (λ n. add_word (start_of placed n) p) (sym same) in
          subst (StandsFor s placed (sub_word wx wy)) (ok_is (Word (sub_word o p)) z e)
          (record { is = ap₂ sub_word sx.is there ∙ distance (start_of placed k) o p sx.known.1 sy.known.1; known = tt })
      by_test false t e = absurd (cc)
  differences (Block k o) (Function f) z wx wy small sx sy e = absurd (cc)
  differences (Word a) (Block k o) z wx wy small sx sy e = absurd (cc)
  differences (Word a) (Function f) z wx wy small sx sy e = absurd (cc)
  differences (Function f) y z wx wy small sx sy e = absurd (cc)

  -- ---- quotients and shifts

  quotients : (g : ℕ → ℕ → ℕ) (at_zero : ℕ → ℕ) (x y z : Value) (wx wy : ℕ) → StandsFor s placed wx x → StandsFor s placed wy y → quotient_of g x y ≡ Ok z →
      StandsFor s placed (divided g (at_zero wx) wx wy) z
  quotients g at_zero x (Word zero) z wx wy sx sy e = absurd (cc)
  quotients g at_zero x (Word (suc b)) z wx wy sx sy e =
      let is = word_is wy (suc b) sy in
      let other : wy ≢ 0 = λ q. omega (arith, q, is) in
      subst (λ w. StandsFor s placed w z) (sym (cond-false (wy == 0) (at_zero wx) (g wx wy) (ne_eqb wy 0 other)))
      (words_alone g x (Word (suc b)) z wx wy sx sy e)
  quotients g at_zero x (Block k o) z wx wy sx sy e = absurd (no_words x e)
    where
      no_words : (x : Value) → on_words g x (Block k o) ≡ Ok z → ⊥
      no_words (Word a) e = absurd (cc)
      no_words (Block j p) e = absurd (cc)
      no_words (Function f) e = absurd (cc)
  quotients g at_zero x (Function f) z wx wy sx sy e = absurd (no_words x e)
    where
      no_words : (x : Value) → on_words g x (Function f) ≡ Ok z → ⊥
      no_words (Word a) e = absurd (cc)
      no_words (Block j p) e = absurd (cc)
      no_words (Function h) e = absurd (cc)

  shifts : (g : ℕ → ℕ → ℕ) (x y z : Value) (wx wy : ℕ) → StandsFor s placed wx x → StandsFor s placed wy y → shift_of g x y ≡ Ok z →
      StandsFor s placed (g wx (wy % 64)) z
  shifts g x (Word k) z wx wy sx sy e = by_test (nat_le 64 k) refl e
    where
      by_test : (t : Bool) → nat_le 64 k ≡ t → cond t (Err ShiftRange) (on_words g x (Word k)) ≡ Ok z → StandsFor s placed (g wx (wy % 64)) z
      by_test true t e = absurd (cc)
      by_test false t e =
          let is = word_is wy k sy in
          let small : k < 64 = less_by t in
          let same : wy ≡ wy % 64 = omega (arith, is, small) in
          subst (λ w. StandsFor s placed (g wx w) z) same (words_alone g x (Word k) z wx wy sx sy e)
        where
          less_by : nat_le 64 k ≡ false → k < 64
          less_by t = leb-false 64 k t
  shifts g x (Block k o) z wx wy sx sy e = absurd (no_words x e)
    where
      no_words : (x : Value) → on_words g x (Block k o) ≡ Ok z → ⊥
      no_words (Word a) e = absurd (cc)
      no_words (Block j p) e = absurd (cc)
      no_words (Function f) e = absurd (cc)
  shifts g x (Function f) z wx wy sx sy e = absurd (no_words x e)
    where
      no_words : (x : Value) → on_words g x (Function f) ≡ Ok z → ⊥
      no_words (Word a) e = absurd (cc)
      no_words (Block j p) e = absurd (cc)
      no_words (Function h) e = absurd (cc)

  -- ---- bits

  -- a block starts at a multiple of 8
  low_bits : (k o : ℕ) → AreBlocks placed → k < length placed → (add_word (start_of placed k) o % 8 ≡ o % 8) × (add_word (start_of placed k) o % 2 ≡ o % 2)
  unfolding add_word
  low_bits k o blocks i = let at = start_inside placed k blocks.inside i in (omega (arith, at), omega (arith, at))

  masked : (k o mask w : ℕ) (z : Value) → AreBlocks placed → StandsFor s placed w (Block k o) → masked_offset o mask ≡ Ok z →
      StandsFor s placed (bit_and w mask) z
  masked k o mask w z blocks st e = by_test ((mask == 1) || (mask == 7)) refl e
    where
      same : (mask ≡ 1) ⊎ (mask ≡ 7) → bit_and w mask ≡ bit_and o mask
      same (inl m) =
          let low = (low_bits k o blocks st.known.0).1 in
          ap (bit_and w) m ∙ and_mask w 1 ∙ ap (λ n. n % 2) st.is ∙ low ∙ sym (and_mask o 1) ∙ ap (bit_and o) (sym m)
      same (inr m) =
          let low = (low_bits k o blocks st.known.0).0 in
          ap (bit_and w) m ∙ and_mask w 3 ∙ ap (λ n. n % 8) st.is ∙ low ∙ sym (and_mask o 3) ∙ ap (bit_and o) (sym m)

      by_test : (t : Bool) → ((mask == 1) || (mask == 7)) ≡ t → only_if t PointerArithmetic (Word (bit_and o mask)) ≡ Ok z →
          StandsFor s placed (bit_and w mask) z
      by_test true t e =
          subst (StandsFor s placed (bit_and w mask)) (ok_is (Word (bit_and o mask)) z e)
          (record { is = same (⊎_elim (λ m. inl (eqb-true mask 1 m)) (λ m. inr (eqb-true mask 7 m)) (or_cases (mask == 1) (mask == 7) t)); known = tt })
      by_test false t e = absurd (cc)

  -- functions lie at multiples of 4
  function_even : (fs : List Func) (f : ℕ) → AllByRecursion IsFunc fs → function_at fs f % 2 ≡ 0
  function_even [] f all = refl
  function_even (g ∷ gs) zero all = let a = all.0.aligned in omega (arith, a)
  function_even (g ∷ gs) (suc f) all = function_even gs f all.1

  bare : (f mask w : ℕ) (z : Value) → StandsFor s placed w (Function f) → only_if (mask == 1) PointerArithmetic (Word 0) ≡ Ok z →
      StandsFor s placed (bit_and w mask) z
  bare f mask w z st e = by_test (mask == 1) refl e
    where
      by_test : (t : Bool) → (mask == 1) ≡ t → only_if t PointerArithmetic (Word 0) ≡ Ok z → StandsFor s placed (bit_and w mask) z
      by_test true t e =
          let even = function_even s.image.funcs f s.functions.tables.funcs.each in
          subst (StandsFor s placed (bit_and w mask)) (ok_is (Word 0) z e)
          (record { is = ap (bit_and w) (eqb-true mask 1 t) ∙ and_mask w 1 ∙ ap (λ n. n % 2) st.is ∙ even; known = tt })
      by_test false t e = absurd (cc)

  bits : (x y z : Value) (wx wy : ℕ) → AreBlocks placed → StandsFor s placed wx x → StandsFor s placed wy y → bits_in_both x y ≡ Ok z →
      StandsFor s placed (bit_and wx wy) z
  bits (Word a) (Word b) z wx wy blocks sx sy e = subst (StandsFor s placed (bit_and wx wy)) (ok_is (Word (bit_and a b)) z e)
      (record { is = ap₂ bit_and sx.is sy.is; known = tt })
  bits (Block k o) (Word mask) z wx wy blocks sx sy e = subst (λ m. StandsFor s placed (bit_and wx m) z) (sym sy.is) (masked k o mask wx z blocks sx e)
  bits (Word mask) (Block k o) z wx wy blocks sx sy e =
      subst (λ w. StandsFor s placed w z) (and_comm wy wx) (subst (λ m. StandsFor s placed (bit_and wy m) z) (sym sx.is) (masked k o mask wy z blocks sy e))
  bits (Function f) (Word mask) z wx wy blocks sx sy e = subst (λ m. StandsFor s placed (bit_and wx m) z) (sym sy.is) (bare f mask wx z sx e)
  bits (Word mask) (Function f) z wx wy blocks sx sy e =
      subst (λ w. StandsFor s placed w z) (and_comm wy wx) (subst (λ m. StandsFor s placed (bit_and wy m) z) (sym sx.is) (bare f mask wy z sy e))
  bits (Block k o) (Block j p) z wx wy blocks sx sy e = absurd (cc)
  bits (Block k o) (Function f) z wx wy blocks sx sy e = absurd (cc)
  bits (Function f) (Block k o) z wx wy blocks sx sy e = absurd (cc)
  bits (Function f) (Function g) z wx wy blocks sx sy e = absurd (cc)

-- ---- the rows

pub add_row : IsRowOf int.Add row.Add
add_row = record { is = λ s placed sizes x y z wx wy blocks hx hy sx sy e. sums s placed x y z wx wy sx sy e }

pub add_val_row : IsRowOf int.AddV row.Add
add_val_row = record { is = λ s placed sizes x y z wx wy blocks hx hy sx sy e. sums s placed x y z wx wy sx sy e }

pub add_addr_row : IsRowOf int.AddA row.Add
add_addr_row = record { is = λ s placed sizes x y z wx wy blocks hx hy sx sy e. sums s placed x y z wx wy sx sy e }

pub sub_row : IsRowOf int.Sub row.Sub
sub_row = record { is = λ s placed sizes x y z wx wy blocks hx hy sx sy e. differences s placed x y z wx wy hy sx sy e }

pub mul_row : IsRowOf int.Mul row.Mul
mul_row = record { is = λ s placed sizes x y z wx wy blocks hx hy sx sy e. words_alone s placed mul_word x y z wx wy sx sy e }

pub mulh_row : IsRowOf int.Mulh row.Mulh
mulh_row = record { is = λ s placed sizes x y z wx wy blocks hx hy sx sy e. words_alone s placed mulh_word x y z wx wy sx sy e }

pub div_row : IsRowOf int.Div row.Div
div_row = record { is = λ s placed sizes x y z wx wy blocks hx hy sx sy e. quotients s placed div_word (λ w. ones) x y z wx wy sx sy e }

pub mod_row : IsRowOf int.Mod row.Rem
mod_row = record { is = λ s placed sizes x y z wx wy blocks hx hy sx sy e. quotients s placed rem_word (λ w. w) x y z wx wy sx sy e }

pub and_row : IsRowOf int.And row.And
and_row = record { is = λ s placed sizes x y z wx wy blocks hx hy sx sy e. bits s placed x y z wx wy blocks sx sy e }

pub or_row : IsRowOf int.Or row.Or
or_row = record { is = λ s placed sizes x y z wx wy blocks hx hy sx sy e. words_alone s placed bit_or x y z wx wy sx sy e }

pub xor_row : IsRowOf int.Xor row.Xor
xor_row = record { is = λ s placed sizes x y z wx wy blocks hx hy sx sy e. words_alone s placed bit_xor x y z wx wy sx sy e }

pub shl_row : IsRowOf int.Shl row.Sll
shl_row = record { is = λ s placed sizes x y z wx wy blocks hx hy sx sy e. shifts s placed shl_word x y z wx wy sx sy e }

pub shr_row : IsRowOf int.Shr row.Srl
shr_row = record { is = λ s placed sizes x y z wx wy blocks hx hy sx sy e. shifts s placed shr_word x y z wx wy sx sy e }

pub sar_row : IsRowOf int.Sar row.Sra
sar_row = record { is = λ s placed sizes x y z wx wy blocks hx hy sx sy e. shifts s placed sar_word x y z wx wy sx sy e }
