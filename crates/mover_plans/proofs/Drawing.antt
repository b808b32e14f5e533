-- A generator, word after word.
use Rattle.std.proofs.Common.{◌≡◌, ℕ, zero, suc, refl, ap, ◌∙◌}
use Rattle.rand_core.specs.Pcg32Seed.{pcg32_seed}
use Rattle.rand_pcg.specs.Lcg.{Lcg, next_state, state_after, advance}
use Rattle.rand_pcg.specs.Pcg.{multiplier_64, pcg32, pcg32_of_seed}
use Rattle.mover_plans.specs.Words.{generator_after, seed_word}

-- one step after n is n + 1 steps
state_after-more : (w m increment n state : ℕ) → next_state w m increment (state_after w m increment n state) ≡ state_after w m increment (suc n) state
unfolding state_after
state_after-more w m increment zero state = refl
state_after-more w m increment (suc n) state = state_after-more w m increment n (next_state w m increment state)

-- the generator after a word is the generator after one word more
pub generator-more : (seed k : ℕ) → (pcg32 (generator_after seed k)).1 ≡ generator_after seed (suc k)
unfolding generator_after
generator-more seed k =
    let start = pcg32_of_seed (pcg32_seed 16 seed) in
    ap (λ (s : ℕ). record start { state = s }) (state_after-more 64 multiplier_64 start.increment k start.state)

-- the generator of a seed before its first word
pub generator-first : (seed : ℕ) (g : Lcg) → g ≡ pcg32_of_seed (pcg32_seed 16 seed) → g ≡ generator_after seed 0
unfolding generator_after state_after
generator-first seed g e = e

-- the word after a jump
pub word-jump : (seed k : ℕ) (g h : Lcg) (w : ℕ) (after : Lcg) → g ≡ pcg32_of_seed (pcg32_seed 16 seed) → h ≡ advance 64 multiplier_64 k g → (w, after) ≡ pcg32 h
    → w ≡ seed_word seed k
unfolding generator_after seed_word
word-jump seed k g h w after e f drawn =
    ap (λ p. p.0) drawn ∙ ap (λ (x : Lcg). (pcg32 x).0) (f ∙ ap (advance 64 multiplier_64 k) e)
