-- Many words written one after the other.
use Rattle.std.proofs.Common.{◌≡◌, ◌≢◌, ℕ, zero, suc, ◌+◌, ◌*◌, ◌^◌, ◌<◌, ◌≤◌, ◌⊎◌, inl, inr, List, [], ◌∷◌, length, map, slice_index, refl, ap, arith, ◌∙◌, subst, ⊎_elim}
use Rattle.rv_machine.specs.Memory.{Region, memory_word, write, put, words_at}
use Rattle.moving_laws.specs.Words.{IsFormed, IsReadable}
use Rattle.machine_laws.proofs.Memory.{other_word}
use Rattle.moving_laws.proofs.Words.{word_same, readable_write, formed_write}

-- what is read at an address, and stays where a word is written elsewhere, stays where many are
module _ (at : List Region → ℕ) (x : ℕ) (keeps : (m : List Region) (a v : ℕ) → a ≢ x → at (write m a v) ≡ at m) where
  pub put_keeps : (m : List Region) (ws : List ℕ) (a : ℕ) → (x < a) ⊎ (a + 8 * length ws ≤ x) → at (put m a ws) ≡ at m
  put_keeps m [] a off = refl
  put_keeps m (w ∷ ws) a off =
      let ne : a ≢ x = λ e. ⊎_elim (λ l. omega (arith, e, l)) (λ l. omega (arith, e, l)) off in
      let next : (x < a + 8) ⊎ (a + 8 + 8 * length ws ≤ x) = ⊎_elim (λ l. inl (omega (arith, l))) (λ l. inr (omega (arith, l))) off in
      put_keeps (write m a w) ws (a + 8) next ∙ keeps m a w ne

pub put_off : (m : List Region) (ws : List ℕ) (a x : ℕ) → (x < a) ⊎ (a + 8 * length ws ≤ x) → memory_word (put m a ws) x ≡ memory_word m x
put_off m ws a x off = put_keeps (λ k. memory_word k x) x (λ k b v n. other_word k b x v n) m ws a off

pub put_at : (m : List Region) (ws : List ℕ) (a j x : ℕ) → IsFormed m → x ≡ a + 8 * j → j < length ws → IsReadable m x → slice_index ws j < 2 ^ 64 →
    memory_word (put m a ws) x ≡ slice_index ws j
put_at m [] a j x f e l r s = absurd (omega (arith, l))
put_at m (w ∷ ws) a zero x f e l r s =
    let here : x ≡ a = omega (arith, e) in
    let low : x < a + 8 = omega (arith, here) in
    put_off (write m a w) ws (a + 8) x (inl low)
    ∙ subst (λ y. memory_word (write m y w) x ≡ w) here (word_same m x w f r s)
put_at m (w ∷ ws) a (suc j) x f e l r s =
    put_at (write m a w) ws (a + 8) j x (formed_write m a w f) (omega (arith, e)) (omega (arith, l)) (readable_write m a x w r) s

pub put_formed : (m : List Region) (ws : List ℕ) (a : ℕ) → IsFormed m → IsFormed (put m a ws)
put_formed m [] a f = f
put_formed m (w ∷ ws) a f = put_formed (write m a w) ws (a + 8) (formed_write m a w f)

pub put_readable : (m : List Region) (ws : List ℕ) (a x : ℕ) → IsReadable m x → IsReadable (put m a ws) x
put_readable m [] a x r = r
put_readable m (w ∷ ws) a x r = put_readable (write m a w) ws (a + 8) x (readable_write m a x w r)

pub length_words_at : (m : List Region) (n a : ℕ) → length (words_at m a n) ≡ n
length_words_at m zero a = refl
length_words_at m (suc n) a = ap suc (length_words_at m n (a + 8))

pub words_at_index : (m : List Region) (n a j x : ℕ) → x ≡ a + 8 * j → j < n → slice_index (words_at m a n) j ≡ memory_word m x
words_at_index m zero a j x e l = absurd (omega (arith, l))
words_at_index m (suc n) a zero x e l = let here : a ≡ x = omega (arith, e) in ap (memory_word m) here
words_at_index m (suc n) a (suc j) x e l = words_at_index m n (a + 8) j x (omega (arith, e)) (omega (arith, l))

pub map_index : (f : ℕ → ℕ) (ws : List ℕ) (j : ℕ) → j < length ws → slice_index (map f ws) j ≡ f (slice_index ws j)
map_index f [] j l = absurd (omega (arith, l))
map_index f (w ∷ ws) zero l = refl
map_index f (w ∷ ws) (suc j) l = map_index f ws j (omega (arith, l))
