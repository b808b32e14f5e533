-- What a comparison or a condition says of two values, it says of their words.
use Rattle.std.proofs.Common.{◌≡◌, ◌≢◌, ℕ, ◌+◌, ◌*◌, ◌%◌, ◌^◌, ◌<◌, ◌≤◌, inl, inr, Bool, true, false, cond, not, ◌&&◌, ◌||◌, ◌==◌, nat_lt, List, length, Result, Ok, Err, slice_index, refl, ap, ap₂, arith, ◌∙◌, sym, subst, ⊎_elim}
use Rattle.std.proofs.lemmas.Bool.{and_parts, eq-eqb, eqb-true, ltb-true, ne_eqb, or_cases}
use Rattle.bs_words.specs.Operators.{as_value, comparison_of, condition_of, equality_of, is_apart_from_block, is_apart_from_code, is_in, is_near, only_if, order_of, signed_holds, truth, unequal_if, unsigned_holds}
use Rattle.bs_words.specs.Word.{add_word, signed_of}
use Rattle.bs_words.specs.declared.operators.CmpOp.{CmpOp}
use Rattle.bs_words.specs.declared.operators.CmpOp.TheVariants as compare
use Rattle.bs_words.specs.declared.values.Kind.{Kind}
use Rattle.bs_words.specs.declared.values.Kind.TheVariants.{PointerOrder}
use Rattle.bs_words.specs.declared.values.Value.{Value}
use Rattle.bs_words.specs.declared.values.Value.TheVariants.{Word, Block, Function}
use Rattle.rv_machine.specs.Arithmetic.{bit_of}
use Rattle.rv_machine.specs.Hart.{Placed}
use Rattle.moving_laws.specs.Heap.{AreBlocks}
use Rattle.moving_laws.specs.Values.{function_at, start_of, cells_of_block}
use Rattle.moving_laws.proofs.Rewriting.{start_inside}
use Rattle.lin_machine.specs.Relation.{StandsFor}
use Rattle.lin_machine.specs.View.{Fixed}
use Rattle.lin_machine.proofs.Storing.{blocks_apart}
use Rattle.lin_machine.proofs.Loading.{words_end}
use Rattle.line_values.proofs.Compared.{Near, address_less, eqb_as, function_even, function_low, functions_apart, inside_block, int_le_is, le_is, near_block, near_by, near_less, near_small}

ok_same : {X : Type 0} {x z : X} → ◌≡◌ {A = Result X Kind} (Ok x) (Ok z) → x ≡ z
ok_same e = cc

-- a truth value as a word
pub truth_is : (t : Bool) → truth t ≡ Word (bit_of t)
truth_is true = refl
truth_is false = refl

unequal_by : (t b : Bool) → unequal_if t ≡ Ok b → (t ≡ true) × (b ≡ false)
unequal_by true b e = (refl, sym (ok_same e))
unequal_by false b e = absurd (cc)

-- the blocks have these sizes
abbrev pub AreSized : List Placed → List ℕ → Type 0
AreSized placed sizes = (k : ℕ) → k < length placed → cells_of_block placed k ≡ slice_index sizes k

module _ (s : Fixed) (placed : List Placed) (blocks : AreBlocks placed) (sizes : List ℕ) (sized : AreSized placed sizes) where
  -- ---- one value

  -- a pointer at a byte of its block
  in_there : (k o w : ℕ) → StandsFor s placed w (Block k o) → is_in sizes k o ≡ true →
      (w ≡ start_of placed k + o) × (0x30000008 ≤ w) × (w < 0x38010000) × (o < 8 * cells_of_block placed k) × (start_of placed k % 8 ≡ 0)
  in_there k o w st h =
      let i = st.known.0 in
      let near = start_inside placed k blocks.inside i in
      let ends = words_end placed k blocks.inside i in
      let z = sized k i in
      let l = ltb-true o (8 * slice_index sizes k) h in
      let inside : o < 8 * cells_of_block placed k = omega (arith, l, z) in
      let e = inside_block (start_of placed k) (cells_of_block placed k) o w near.1 ends inside st.is in
      (e, omega (arith, e, near), omega (arith, e, ends, inside), inside, near.0)

  -- or near it
  near_there : (k o w : ℕ) → StandsFor s placed w (Block k o) → is_near sizes k o ≡ true → Near (start_of placed k) o w
  near_there k o w st h =
      let i = st.known.0 in
      let near = start_inside placed k blocks.inside i in
      let z = sized k i in
      near_block (start_of placed k) (cells_of_block placed k) o w near.1 (words_end placed k blocks.inside i) st.known.1
      (⊎_elim (λ l. inl (omega (arith, l, z))) (λ l. inr l) (near_by o (slice_index sizes k) h)) st.is

  code_there : (f w : ℕ) → StandsFor s placed w (Function f) → (0x10000 ≤ w) × (w < 0x10000000) × (w % 2 ≡ 0)
  code_there f w st =
      let e = st.is in
      let low = function_low s.image.funcs f in
      let high = s.functions.inside f st.known in
      let short = s.functions.tables.code.short in
      let even = function_even s.image.funcs f s.functions.tables.funcs.each in
      (omega (arith, e, low), omega (arith, e, high, short), omega (arith, e, even))

  -- a word that is no address of a block's byte
  apart_there : (k o w x : ℕ) → StandsFor s placed x (Block k o) → (is_in sizes k o && is_apart_from_block o w) ≡ true → x ≢ w
  apart_there k o w x st h q =
      let p = and_parts (is_in sizes k o) (is_apart_from_block o w) h in
      let there = in_there k o x st p.0 in
      let e0 = there.0 in
      let lo = there.1 in
      let hi = there.2 in
      let even = there.4 in
      ⊎_elim
      (λ r. ⊎_elim
      (λ l. let g = ltb-true w 0x30000000 l in omega (arith, g, lo, q))
      (λ l. let g = ltb-true 0x3FFFFFFF w l in omega (arith, g, hi, q))
      (or_cases (nat_lt w 0x30000000) (nat_lt 0x3FFFFFFF w) r))
      (λ l.
      let both = and_parts (w % 2 == 1) (o % 2 == 0) l in
      let odd = eqb-true (w % 2) 1 both.0 in
      let flat = eqb-true (o % 2) 0 both.1 in
      omega (arith, odd, flat, even, e0, q))
      (or_cases (nat_lt w 0x30000000 || nat_lt 0x3FFFFFFF w) ((w % 2 == 1) && (o % 2 == 0)) p.1)

  off_code : (f w x : ℕ) → StandsFor s placed x (Function f) → is_apart_from_code w ≡ true → x ≢ w
  off_code f w x st h q =
      let there = code_there f x st in
      let lo = there.0 in
      let hi = there.1 in
      let even = there.2 in
      ⊎_elim
      (λ r. ⊎_elim
      (λ l. let odd = eqb-true (w % 2) 1 l in omega (arith, odd, even, q))
      (λ l. let g = ltb-true w 0x00010000 l in omega (arith, g, lo, q))
      (or_cases (w % 2 == 1) (nat_lt w 0x00010000) r))
      (λ l. let g = ltb-true 0x0FFFFFFF w l in omega (arith, g, hi, q))
      (or_cases ((w % 2 == 1) || nat_lt w 0x00010000) (nat_lt 0x0FFFFFFF w) h)

  -- ---- equality

  shifted_same : (a o p : ℕ) → o < 2 ^ 64 → p < 2 ^ 64 → add_word a o ≡ add_word a p → o ≡ p
  unfolding add_word
  shifted_same a o p l k e = omega (arith, l, k, e)

  -- unequal, where the test that this can be said holds
  apart_by : (t b : Bool) (w x : ℕ) → unequal_if t ≡ Ok b → (t ≡ true → w ≢ x) → (w == x) ≡ b
  apart_by t b w x e f = let u = unequal_by t b e in ne_eqb w x (f u.0) ∙ sym u.1

  in_both : (k j o p w x : ℕ) → StandsFor s placed w (Block k o) → StandsFor s placed x (Block j p) → k ≢ j →
      (is_in sizes k o && is_in sizes j p) ≡ true → w ≢ x
  in_both k j o p w x sw sx d h q =
      let both = and_parts (is_in sizes k o) (is_in sizes j p) h in
      let a = in_there k o w sw both.0 in
      let b = in_there j p x sx both.1 in
      let a0 = a.0 in
      let a3 = a.3 in
      let b0 = b.0 in
      let b3 = b.3 in
      ⊎_elim (λ z. omega (arith, z, a0, a3, b0, b3, q)) (λ z. omega (arith, z, a0, a3, b0, b3, q))
      (blocks_apart placed k j blocks.apart sw.known.0 sx.known.0 d)

  pub equal_words : (x y : Value) (b : Bool) (wx wy : ℕ) → StandsFor s placed wx x → StandsFor s placed wy y → equality_of sizes x y ≡ Ok b → (wx == wy) ≡ b
  equal_words (Word m) (Word k) b wx wy sx sy e = ap₂ ◌==◌ sx.is sy.is ∙ ok_same e
  equal_words (Function f) (Function g) b wx wy sx sy e =
      eqb_as wx wy f g
      (λ q. functions_apart s.image.funcs f g s.functions.tables.funcs.in_order sx.known sy.known (sym sx.is ∙ q ∙ sy.is))
      (λ q. sx.is ∙ ap (function_at s.image.funcs) q ∙ sym sy.is)
      ∙ ok_same e
  equal_words (Block k o) (Block j p) b wx wy sx sy e = by_test (k == j) refl e
    where
      by_test : (t : Bool) → (k == j) ≡ t → cond t (Ok (o == p)) (unequal_if (is_in sizes k o && is_in sizes j p)) ≡ Ok b → (wx == wy) ≡ b
      by_test true t e =
          let same : k ≡ j = eqb-true k j t in
          let there : wy ≡ add_word (start_of placed k) p = sy.is ∙ ap (λ n. add_word (start_of placed n) p) (sym same) in
          eqb_as wx wy o p
          (λ q. shifted_same (start_of placed k) o p sx.known.1 sy.known.1 (sym sx.is ∙ q ∙ there))
          (λ q. sx.is ∙ ap (add_word (start_of placed k)) q ∙ sym there)
          ∙ ok_same e
      by_test false t e = apart_by (is_in sizes k o && is_in sizes j p) b wx wy e (in_both k j o p wx wy sx sy (other k j t))
        where
          other : (k j : ℕ) → (k == j) ≡ false → k ≢ j
          other k j t q = let f : (k == j) ≡ true = eq-eqb k j q in absurd (cc)
  equal_words (Block k o) (Word w) b wx wy sx sy e =
      apart_by (is_in sizes k o && is_apart_from_block o w) b wx wy e (λ h q. apart_there k o w wx sx h (q ∙ sy.is))
  equal_words (Word w) (Block k o) b wx wy sx sy e =
      apart_by (is_in sizes k o && is_apart_from_block o w) b wx wy e (λ h q. apart_there k o w wy sy h (sym q ∙ sx.is))
  equal_words (Block k o) (Function f) b wx wy sx sy e =
      apart_by (is_in sizes k o) b wx wy e
      (λ h q. let lo = (in_there k o wx sx h).1 in let hi = (code_there f wy sy).1 in omega (arith, lo, hi, q))
  equal_words (Function f) (Block k o) b wx wy sx sy e =
      apart_by (is_in sizes k o) b wx wy e
      (λ h q. let lo = (in_there k o wy sy h).1 in let hi = (code_there f wx sx).1 in omega (arith, lo, hi, q))
  equal_words (Function f) (Word w) b wx wy sx sy e = apart_by (is_apart_from_code w) b wx wy e (λ h q. off_code f w wx sx h (q ∙ sy.is))
  equal_words (Word w) (Function f) b wx wy sx sy e = apart_by (is_apart_from_code w) b wx wy e (λ h q. off_code f w wy sy h (sym q ∙ sx.is))

  -- ---- order

  near_same : (start o p w x : ℕ) → o < 2 ^ 64 → p < 2 ^ 64 → start ≤ 0x38010000 → 8 ≤ start → Near start o w → Near start p x → (o == p) ≡ (w == x)
  near_same start o p w x fo fp high low (inl a) (inl b) =
      let a1 = a.1 in let b1 = b.1 in eqb_as o p w x (λ q. omega (arith, q, a1, b1)) (λ q. omega (arith, q, a1, b1))
  near_same start o p w x fo fp high low (inl a) (inr b) =
      let a0 = a.0 in let a1 = a.1 in let b0 = b.0 in let b1 = b.1 in
      eqb_as o p w x (λ q. omega (arith, q, a0, b0)) (λ q. omega (arith, q, a1, b1, fp))
  near_same start o p w x fo fp high low (inr a) (inl b) =
      let a0 = a.0 in let a1 = a.1 in let b0 = b.0 in let b1 = b.1 in
      eqb_as o p w x (λ q. omega (arith, q, a0, b0)) (λ q. omega (arith, q, a1, b1, fo))
  near_same start o p w x fo fp high low (inr a) (inr b) =
      let a1 = a.1 in let b1 = b.1 in eqb_as o p w x (λ q. omega (arith, q, a1, b1)) (λ q. omega (arith, q, a1, b1))

  module _ (start o p w x : ℕ) (low : 0x30000008 ≤ start) (high : start ≤ 0x38010000) (fo : o < 2 ^ 64) (fp : p < 2 ^ 64) (nw : Near start o w)
      (nx : Near start p x) where
    small_w : w < 2 ^ 63
    small_w = near_small start o w low high fo nw

    small_x : x < 2 ^ 63
    small_x = near_small start p x low high fp nx

    -- addresses near one block are in the order of their offsets
    pub order_unsigned : (f : CmpOp) → signed_holds f o p ≡ unsigned_holds f w x
    order_unsigned compare.Eq = near_same start o p w x fo fp high (omega (arith, low)) nw nx
    order_unsigned compare.Ne = ap not (near_same start o p w x fo fp high (omega (arith, low)) nw nx)
    order_unsigned compare.Lt = near_less start o p w x low high fo fp nw nx
    order_unsigned compare.Le = int_le_is (signed_of o) (signed_of p) ∙ ap not (near_less start p o x w low high fp fo nx nw) ∙ sym (le_is w x)
    order_unsigned compare.Gt = near_less start p o x w low high fp fo nx nw
    order_unsigned compare.Ge = int_le_is (signed_of p) (signed_of o) ∙ ap not (near_less start o p w x low high fo fp nw nx) ∙ sym (le_is x w)

    -- with a sign too
    pub order_signed : (f : CmpOp) → signed_holds f o p ≡ signed_holds f w x
    order_signed compare.Eq = near_same start o p w x fo fp high (omega (arith, low)) nw nx
    order_signed compare.Ne = ap not (near_same start o p w x fo fp high (omega (arith, low)) nw nx)
    order_signed compare.Lt = near_less start o p w x low high fo fp nw nx ∙ sym (address_less w x small_w small_x)
    order_signed compare.Le =
        int_le_is (signed_of o) (signed_of p) ∙ ap not (near_less start p o x w low high fp fo nx nw ∙ sym (address_less x w small_x small_w))
        ∙ sym (int_le_is (signed_of w) (signed_of x))
    order_signed compare.Gt = near_less start p o x w low high fp fo nx nw ∙ sym (address_less x w small_x small_w)
    order_signed compare.Ge =
        int_le_is (signed_of p) (signed_of o) ∙ ap not (near_less start o p w x low high fo fp nw nx ∙ sym (address_less w x small_w small_x))
        ∙ sym (int_le_is (signed_of x) (signed_of w))

  -- a way to compare words that agrees with that of offsets near one block
  pub record Agrees (holds : CmpOp → ℕ → ℕ → Bool) : Type 0 where
    pub equal : (a b : ℕ) → holds compare.Eq a b ≡ (a == b)
    pub unequal : (a b : ℕ) → holds compare.Ne a b ≡ not (a == b)
    pub near : (f : CmpOp) (start o p w x : ℕ) → 0x30000008 ≤ start → start ≤ 0x38010000 → o < 2 ^ 64 → p < 2 ^ 64 → Near start o w → Near start p x →
        signed_holds f o p ≡ holds f w x

  pub signed_agrees : Agrees signed_holds
  signed_agrees = record {
    equal = λ a b. refl;
    unequal = λ a b. refl;
    near = λ f start o p w x low high fo fp nw nx. order_signed start o p w x low high fo fp nw nx f;
  }

  pub unsigned_agrees : Agrees unsigned_holds
  unsigned_agrees = record {
    equal = λ a b. refl;
    unequal = λ a b. refl;
    near = λ f start o p w x low high fo fp nw nx. order_unsigned start o p w x low high fo fp nw nx f;
  }

  module _ (holds : CmpOp → ℕ → ℕ → Bool) (agrees : Agrees holds) (wx wy : ℕ) where
    order_words : (f : CmpOp) (x y z : Value) → StandsFor s placed wx x → StandsFor s placed wy y → order_of holds f sizes x y ≡ Ok z →
        z ≡ truth (holds f wx wy)
    order_words f (Word a) (Word b) z sx sy e = sym (ok_same e) ∙ ap truth (ap₂ (holds f) (sym sx.is) (sym sy.is))
    order_words f (Block k o) (Block j p) z sx sy e = by_test ((k == j) && is_near sizes k o && is_near sizes j p) refl e
      where
        by_test : (t : Bool) → ((k == j) && is_near sizes k o && is_near sizes j p) ≡ t → only_if t PointerOrder (truth (signed_holds f o p)) ≡ Ok z →
            z ≡ truth (holds f wx wy)
        by_test true t e =
            let one = and_parts ((k == j) && is_near sizes k o) (is_near sizes j p) t in
            let two = and_parts (k == j) (is_near sizes k o) one.0 in
            let same : k ≡ j = eqb-true k j two.0 in
            let nw = near_there k o wx sx two.1 in
            let nx : Near (start_of placed k) p wy = subst (λ i. Near (start_of placed i) p wy) (sym same) (near_there j p wy sy one.1) in
            let there = start_inside placed k blocks.inside sx.known.0 in
            sym (ok_same e) ∙ ap truth (agrees.near f (start_of placed k) o p wx wy there.1 there.2 sx.known.1 sy.known.1 nw nx)
        by_test false t e = absurd (cc)
    order_words f (Word a) (Block j p) z sx sy e = absurd (cc)
    order_words f (Word a) (Function g) z sx sy e = absurd (cc)
    order_words f (Block k o) (Word b) z sx sy e = absurd (cc)
    order_words f (Block k o) (Function g) z sx sy e = absurd (cc)
    order_words f (Function g) y z sx sy e = absurd (cc)

    by_equality : (g : Bool → Bool) (r : Result Bool Kind) (z : Value) → as_value g r ≡ Ok z → (b : Bool) × (r ≡ Ok b) × (z ≡ truth (g b))
    by_equality g (Ok b) z e = (b, refl, sym (ok_same e))
    by_equality g (Err kind) z e = absurd (cc)

    -- a comparison's value is the truth of that of the words
    pub compared_words : (f : CmpOp) (x y z : Value) → StandsFor s placed wx x → StandsFor s placed wy y → comparison_of holds f sizes x y ≡ Ok z →
        z ≡ truth (holds f wx wy)
    compared_words compare.Eq x y z sx sy e =
        let g = by_equality (λ b. b) (equality_of sizes x y) z e in
        g.2 ∙ ap truth (sym (equal_words x y g.0 wx wy sx sy g.1) ∙ sym (agrees.equal wx wy))
    compared_words compare.Ne x y z sx sy e =
        let g = by_equality not (equality_of sizes x y) z e in
        g.2 ∙ ap truth (ap not (sym (equal_words x y g.0 wx wy sx sy g.1)) ∙ sym (agrees.unequal wx wy))
    compared_words compare.Lt x y z sx sy e = order_words compare.Lt x y z sx sy e
    compared_words compare.Le x y z sx sy e = order_words compare.Le x y z sx sy e
    compared_words compare.Gt x y z sx sy e = order_words compare.Gt x y z sx sy e
    compared_words compare.Ge x y z sx sy e = order_words compare.Ge x y z sx sy e

  -- ---- conditions

  pub condition_word : (x : Value) (b : Bool) (w : ℕ) → StandsFor s placed w x → condition_of sizes x ≡ Ok b → not (w == 0) ≡ b
  condition_word (Word a) b w st e = ap (λ z. not (z == 0)) st.is ∙ ok_same e
  condition_word (Function f) b w st e =
      let lo = (code_there f w st).0 in ap not (ne_eqb w 0 (λ q. omega (arith, q, lo))) ∙ ok_same e
  condition_word (Block k o) b w st e = by_test (is_near sizes k o) refl e
    where
      by_test : (t : Bool) → is_near sizes k o ≡ t → cond t (Ok true) (Err PointerOrder) ≡ Ok b → not (w == 0) ≡ b
      by_test true t e =
          let there = start_inside placed k blocks.inside st.known.0 in
          let low = there.1 in
          ap not (ne_eqb w 0 (⊎_elim
          (λ n q. let n1 = n.1 in omega (arith, q, n1, low))
          (λ n q. let n0 = n.0 in let n1 = n.1 in omega (arith, q, n0, n1, low))
          (near_there k o w st t))) ∙ ok_same e
      by_test false t e = absurd (cc)
