-- A move restores what stands for values.
use Rattle.std.proofs.Common.{◌≡◌, ◌≢◌, ℕ, zero, suc, ◌+◌, ◌-◌, ◌*◌, ◌%◌, ◌^◌, ◌<◌, ◌≤◌, ◌⊎◌, inl, inr, Bool, true, false, List, [], ◌∷◌, length, Some, refl, ap, arith, ◌∙◌, sym, subst, ⊎_elim}
use Rattle.std.specs.List.{AllByRecursion}
use Rattle.bs_words.specs.declared.values.Value.{Value}
use Rattle.image_form.specs.Tables.{Tables}
use Rattle.rv_machine.specs.Hart.{Placed}
use Rattle.rv_machine.specs.Memory.{Region, memory_word, write}
use Rattle.rv_machine.specs.Moving.{rewritten, is_scanned, vacated, copied, redirected, moved_memory}
use Rattle.rv_machine.specs.Placement.{block_end}
use Rattle.moving_laws.specs.Words.{IsFormed, IsReadable, held_word}
use Rattle.moving_laws.specs.Heap.{IsInHeap, IsBeside, SameSizes, AreBlocks}
use Rattle.moving_laws.specs.Values.{start_of, cells_of_block, value_word, IsVal, IsKnown, FitsCell, HasFunctions}
use Rattle.moving_laws.specs.Stands.{Blocks, BlocksStand, AreSettled, IsOutside, AmongNumbers}
use Rattle.machine_laws.proofs.Memory.{word_below, other_word}
use Rattle.moving_laws.proofs.Words.{readable_write, formed_write}
use Rattle.moving_laws.proofs.Moves.{cell_after, vacated_formed, vacated_readable, vacated_keeps, vacated_off, copied_keeps, copied_formed, copied_readable, copied_off, landed, lands_header, lands_cell, AllLand, redirected_formed, redirected_readable, redirected_settled, redirected_in, redirected_keeps, redirected_off}
use Rattle.moving_laws.proofs.Held.{held_other}
use Rattle.moving_laws.proofs.Rewriting.{NoStart, stays, value_moves, still_word, rewritten_below, same_length, start_inside}

pub beside_all : (x : ℕ) (bs : List Placed) → (x < 0x30000000) ⊎ (0x38010000 ≤ x) → AllByRecursion IsInHeap bs → AllByRecursion (IsBeside x) bs
beside_all x [] out h = tt
beside_all x (b ∷ bs) out h =
    let lo = h.0.low in
    let hi = h.0.high in
    (record { low = omega (arith, lo); off = ⊎_elim (λ l. inl (omega (arith, l, lo))) (λ l. inr (omega (arith, l, hi))) out }, beside_all x bs out h.1)

same_words : (os ns : List Placed) (k : ℕ) → SameSizes os ns → cells_of_block ns k ≡ cells_of_block os k
same_words [] [] k s = refl
same_words [] (n ∷ ns) k s = absurd s
same_words (o ∷ os) [] k s = absurd s
same_words (o ∷ os) (n ∷ ns) zero s = s.0
same_words (o ∷ os) (n ∷ ns) (suc k) s = same_words os ns k s.1

-- what a move finds
pub record IsMove (image : Tables) (olds news : List Placed) (m : List Region) : Type 0 where
  pub formed : IsFormed m
  pub low : HasFunctions image
  pub old : AreBlocks olds
  pub new : AreBlocks news
  pub sizes : SameSizes olds news
  pub readable : AllByRecursion (λ b. (x : ℕ) → x % 8 ≡ 0 → b.start - 8 ≤ x → x < block_end b → IsReadable m x) news

-- what it restores: m is the memory before, m' the one after
pub record IsMemoryRestored (image : Tables) (olds news : List Placed) (places : List ℕ) (m m' : List Region) (blocks : Blocks) : Type 0 where
  pub stand : BlocksStand image news m' blocks
  -- a word that stands for a value that fits val, at a place that is named, stands for it again
  pub named : (x : ℕ) (v : Value) → IsReadable m x → IsOutside x → AmongNumbers x places → IsVal image (length olds) v → memory_word m x ≡ value_word image olds v →
      memory_word m' x ≡ value_word image news v
  -- a word outside the heap that is no block's start stays, named or not
  pub plain : (x : ℕ) → IsReadable m x → IsOutside x → NoStart (memory_word m x) olds → memory_word m' x ≡ memory_word m x
  -- a word outside the heap that is not named stays
  pub unnamed : (x : ℕ) → IsOutside x → (AmongNumbers x places → ⊥) → memory_word m' x ≡ memory_word m x
  -- also in part
  pub held : (x : ℕ) → x % 8 ≡ 0 → IsOutside x → (AmongNumbers x places → ⊥) → held_word m' x ≡ held_word m x
  pub readable : (x : ℕ) → IsReadable m x → IsReadable m' x
  pub formed : IsFormed m'

module _ (image : Tables) (olds news : List Placed) (places : List ℕ) (m : List Region) (limit : ℕ) (move : IsMove image olds news m) where
  f : ℕ → ℕ
  f w = rewritten olds news w

  abbrev m1 : List Region
  m1 = redirected (rewritten olds news) m m places

  abbrev m2 : List Region
  m2 = vacated m1 olds

  abbrev m3 : List Region
  m3 = copied (rewritten olds news) m m2 olds news

  abbrev m4 : List Region
  m4 = write m3 0x20000000 limit

  formed1 : IsFormed m1
  formed1 = redirected_formed (rewritten olds news) m m places move.formed

  formed2 : IsFormed m2
  formed2 = vacated_formed m1 olds formed1

  formed3 : IsFormed m3
  formed3 = copied_formed (rewritten olds news) m m2 olds news formed2

  readable2 : (x : ℕ) → IsReadable m x → IsReadable m2 x
  readable2 x r = vacated_readable m1 olds x (redirected_readable (rewritten olds news) m m places x r)

  new_readable : (bs : List Placed) → AllByRecursion (λ b. (x : ℕ) → x % 8 ≡ 0 → b.start - 8 ≤ x → x < block_end b → IsReadable m x) bs →
      AllByRecursion (λ b. (x : ℕ) → x % 8 ≡ 0 → b.start - 8 ≤ x → x < block_end b → IsReadable m2 x) bs
  new_readable [] r = tt
  new_readable (b ∷ bs) r = (λ x e lo hi. readable2 x (r.0 x e lo hi), new_readable bs r.1)

  small : (w : ℕ) → w < 2 ^ 64 → rewritten olds news w < 2 ^ 64
  small w l = rewritten_below olds news w move.new.inside l

  -- outside the heap only what is redirected changes
  off3 : (x : ℕ) → (x < 0x30000000) ⊎ (0x38010000 ≤ x) → memory_word m3 x ≡ memory_word m1 x
  off3 x out =
      copied_off (rewritten olds news) m m2 olds news x move.sizes (beside_all x news out move.new.inside)
      ∙ vacated_off m1 olds x (beside_all x olds out move.old.inside)

  off4 : (x : ℕ) → IsOutside x → memory_word m4 x ≡ memory_word m1 x
  off4 x out = other_word m3 0x20000000 x limit (λ e. out.no_limit (sym e)) ∙ off3 x out.off

  held4 : (x : ℕ) → x % 8 ≡ 0 → IsOutside x → held_word m4 x ≡ held_word m1 x
  held4 x even out =
      let keeps : (k : List Region) (a v : ℕ) → a ≢ x → held_word (write k a v) x ≡ held_word k x = λ k a v n. held_other k a x v even n in
      held_other m3 0x20000000 x limit even (λ e. out.no_limit (sym e))
      ∙ copied_keeps (rewritten olds news) m (λ k. held_word k x) x keeps m2 olds news move.sizes (beside_all x news out.off move.new.inside)
      ∙ vacated_keeps (λ k. held_word k x) x keeps m1 olds (beside_all x olds out.off move.old.inside)

  lands : AllLand (rewritten olds news) m m3 olds news
  lands = landed (rewritten olds news) m m2 olds news small formed2 move.sizes move.new.inside move.new.apart (new_readable news move.readable)

  cell_again : (k j w : ℕ) (v : Value) (b : Bool) → FitsCell image (length olds) b v → w ≡ value_word image olds v →
      cell_after b (rewritten olds news) w ≡ value_word image news v
  cell_again k j w v true fit e = ap (rewritten olds news) e
      ∙ value_moves image olds news v move.low move.sizes move.old.inside move.old.apart move.new.inside fit
  cell_again k j w v false fit e = e ∙ still_word image olds news v fit

  module _ (blocks : Blocks) (st : BlocksStand image olds m blocks) (settled : AreSettled image (length olds) blocks) where
    same : length news ≡ length olds
    same = same_length olds news move.sizes

    header_again : (k w : ℕ) → k < length news → blocks.header k ≡ Some w → memory_word m4 (start_of news k - 8) ≡ w
    header_again k w l h =
        let at = start_inside news k move.new.inside l in
        let n = same in
        other_word m3 0x20000000 (start_of news k - 8) limit (λ e. omega (arith, e, at))
        ∙ lands_header (rewritten olds news) m m3 olds news k lands (omega (arith, l, n))
        ∙ st.header k w (omega (arith, l, n)) h

    value_again : (k j : ℕ) (v : Value) → k < length news → j < cells_of_block news k → blocks.cell k j ≡ Some v →
        memory_word m4 (start_of news k + 8 * j) ≡ value_word image news v
    value_again k j v l h e =
        let at = start_inside news k move.new.inside l in
        let n = same in
        let l' : k < length olds = omega (arith, l, n) in
        let h' : j < cells_of_block olds k = let z = same_words olds news k move.sizes in omega (arith, z, h) in
        let head = settled.header k l' in
        let here = st.header k head.0 l' head.1 in
        other_word m3 0x20000000 (start_of news k + 8 * j) limit (λ e. omega (arith, e, at))
        ∙ lands_cell (rewritten olds news) m m3 olds news k j lands l' h'
        ∙ cell_again k j (memory_word m (start_of olds k + 8 * j)) v (is_scanned (memory_word m (start_of olds k - 8)))
        (subst (λ w. FitsCell image (length olds) (is_scanned w) v) (sym here) (settled.cell k j head.0 v l' head.1 e))
        (st.cell k j v l' h' e)

    pub restored : IsMemoryRestored image olds news places m (write (moved_memory olds news m places) 0x20000000 limit) blocks
    unfolding moved_memory
    restored = record {
      stand = record {
        count = let n = same in let c = st.count in omega (arith, n, c);
        sizes = λ k l. let n = same in same_words olds news k move.sizes ∙ st.sizes k (omega (arith, l, n));
        header = header_again;
        cell = value_again;
        known = λ k j v l e. let n = same in subst (λ q. IsKnown image q v) (sym n) (st.known k j v (omega (arith, l, n)) e);
      };
      named = λ x v r out i fit e.
          off4 x out
          ∙ redirected_in (rewritten olds news) m m places x move.formed r (small (memory_word m x) (word_below m x)) i
          ∙ ap (rewritten olds news) e
          ∙ value_moves image olds news v move.low move.sizes move.old.inside move.old.apart move.new.inside fit;
      plain = λ x r out none.
          let still = stays olds news (memory_word m x) none in
          off4 x out
          ∙ redirected_settled (rewritten olds news) m m places x move.formed r (small (memory_word m x) (word_below m x)) (sym still)
          ∙ still;
      unnamed = λ x out none. off4 x out ∙ redirected_off (rewritten olds news) m m places x none;
      held = λ x even out none.
          held4 x even out
          ∙ redirected_keeps (rewritten olds news) m (λ k. held_word k x) x (λ k a v n. held_other k a x v even n) m places none;
      readable = λ x r. readable_write m3 0x20000000 x limit (copied_readable (rewritten olds news) m m2 olds news x (readable2 x r));
      formed = formed_write m3 0x20000000 limit formed3;
    }
