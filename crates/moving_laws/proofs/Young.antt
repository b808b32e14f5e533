-- The young blocks are found where they lie.
use Rattle.std.proofs.Common.{◌≡◌, ◌≢◌, ℕ, zero, suc, ◌+◌, ◌-◌, ◌*◌, ◌/◌, ◌%◌, ◌<◌, ◌≤◌, Bool, true, false, cond, ◌&&◌, ◌==◌, nat_le, List, [], ◌∷◌, length, Option, Some, None, option_map, option_and_then, refl, ap, arith, ◌∙◌, sym, subst}
use Rattle.std.specs.Option.{is_some}
use Rattle.std.proofs.lemmas.Bool.{eq-eqb, ne_eqb, le-leb, and_from, cond-true, cond-false}
use Rattle.rv_machine.specs.Hart.{Placed}
use Rattle.rv_machine.specs.Memory.{Region, read, loaded_number, memory_word, or_zero}
use Rattle.rv_machine.specs.Observation.{block_then, blocks_from, cells_of_header, young_blocks, young_start, young_top}
use Rattle.rv_machine.specs.Placement.{block_end}
use Rattle.moving_laws.specs.Words.{IsReadable}
use Rattle.moving_laws.specs.Young.{Rises, HaveHeads}
use Rattle.moving_laws.proofs.Words.{readable_even}

-- a word that can be read is what the machine reads
pub read_is : (m : List Region) (a : ℕ) → IsReadable m a → read m a 8 ≡ Some (memory_word m a)
unfolding memory_word
read_is m a r = by_test (a % 8 == 0) (read m a 8) r.is where
  by_test : (t : Bool) (o : Option ℕ) → is_some (cond t o None) ≡ true → o ≡ Some (or_zero (cond t o None))
  by_test true None h = absurd (cc)
  by_test true (Some w) h = refl
  by_test false o h = absurd (cc)

pub loaded_is : (m : List Region) (a : ℕ) → IsReadable m a → loaded_number m a 8 ≡ Some (memory_word m a)
loaded_is m a r = cond-true (a % 8 == 0) _ _ (eq-eqb (a % 8) 0 (readable_even m a r)) ∙ read_is m a r

module _ (m : List Region) (can : (x : ℕ) → x % 8 ≡ 0 → young_start ≤ x → x < young_top → IsReadable m x) where
  below_top : (a : ℕ) (bs : List Placed) → Rises a bs → a + 16 * length bs ≤ young_top
  below_top a [] r = omega (arith, r)
  below_top a (b ∷ bs) r = let q = below_top (block_end b) bs r.3 in let e = r.0 in let l = r.1 in omega (arith, q, e, l)

  finds : (bs : List Placed) (n a : ℕ) → a % 8 ≡ 0 → young_start ≤ a → Rises a bs → HaveHeads m bs → length bs < n → blocks_from n m a ≡ Some bs
  finds bs zero a ev lo r h l = absurd (omega (arith, l))
  finds [] (suc n) a ev lo r h l = cond-true (a == young_top) _ _ (eq-eqb a young_top r)
  finds (b ∷ bs) (suc n) a ev lo r h l =
      let e = r.0 in
      let l1 = r.1 in
      let l2 = r.2 in
      let q = below_top (block_end b) bs r.3 in
      let before : a ≢ young_top = λ t. omega (arith, t, e, l1, q) in
      let w : ℕ = memory_word m a in
      let at : b.start - 8 ≡ a = omega (arith, e) in
      let size : cells_of_header w ≡ b.words = subst (λ x. cells_of_header (memory_word m x) ≡ b.words) at h.0 in
      let next : a + 8 + 8 * cells_of_header w ≡ block_end b = omega (arith, size, e) in
      let here : record { start = a + 8; words = cells_of_header w } ≡ b = ap (λ x. record { start = x; words = cells_of_header w }) (sym e)
      ∙ ap (λ x. record { start = b.start; words = x }) size in
      let go : ℕ → Option (List Placed) = λ header. block_then (cells_of_header header) a (blocks_from n m (a + 8 + 8 * cells_of_header header)) in
      let fits : (nat_le 1 (cells_of_header w) && nat_le (cells_of_header w) 256) ≡ true = and_from _ _ (le-leb 1 (cells_of_header w) (omega (arith, size, l1)))
      (le-leb (cells_of_header w) 256 (omega (arith, size, l2))) in
      cond-false (a == young_top) _ _ (ne_eqb a young_top before)
      ∙ ap (λ o. option_and_then go o) (read_is m a (can a ev lo (omega (arith, e, l1, q))))
      ∙ cond-true (nat_le 1 (cells_of_header w) && nat_le (cells_of_header w) 256) _ _ fits
      ∙ ap (λ x. option_map (λ cs. record { start = a + 8; words = cells_of_header w } ∷ cs) (blocks_from n m x)) next
      ∙ ap (option_map (λ cs. record { start = a + 8; words = cells_of_header w } ∷ cs))
      (finds bs n (block_end b) (omega (arith, e, ev)) (omega (arith, e, lo)) r.3 h.1 (omega (arith, l)))
      ∙ ap (λ x. Some (x ∷ bs)) here

  pub found : (a : ℕ) (bs : List Placed) → a % 8 ≡ 0 → young_start ≤ a → Rises a bs → HaveHeads m bs → young_blocks m a ≡ Some bs
  found a bs ev lo r h =
      let q = below_top a bs r in
      cond-true ((a % 8 == 0) && nat_le young_start a && nat_le a young_top) _ _
      (and_from _ _ (and_from _ _ (eq-eqb (a % 8) 0 ev) (le-leb young_start a lo)) (le-leb a young_top (omega (arith, q))))
      ∙ finds bs (suc ((young_top - a) / 16)) a ev lo r h (omega (arith, q))
