-- The words that a seed stands for: those of PCG XSH RR 64/32.
use Rattle.std.specs.Prelude.{ℕ}
use Rattle.rand_core.specs.Pcg32Seed.{pcg32_seed}
use Rattle.rand_pcg.specs.Lcg.{Lcg, advance}
use Rattle.rand_pcg.specs.Pcg.{multiplier_64, pcg32, pcg32_of_seed}

-- the generator of a seed after so many words
unfoldable pub generator_after : ℕ → ℕ → Lcg
generator_after seed k = advance 64 multiplier_64 k (pcg32_of_seed (pcg32_seed 16 seed))

-- word number k of a seed, from 0
unfoldable pub seed_word : ℕ → ℕ → ℕ
seed_word seed k = (pcg32 (generator_after seed k)).0
