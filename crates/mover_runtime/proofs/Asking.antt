-- The asks of a schedule, one after the other.
use Rattle.std.proofs.Common.{◌≡◌, ℕ, suc, ◌%◌, Bool, List, [], ◌∷◌, ◌||◌, Bor, refl, ap, ◌∙◌, subst}
use Rattle.std.specs.Prelude.{◌==◌}
use Rattle.std.specs.List.{list_any}
use Rattle.rand_pcg.specs.Lcg.{Lcg}
use Rattle.rand_pcg.specs.Pcg.{pcg32}
use Rattle.rv_machine.specs.Run.{is_among}
use Rattle.mover_plans.specs.Words.{generator_after, seed_word}
use Rattle.mover_plans.proofs.Drawing.{generator-more}
use Rattle.mover_runtime.specs.Schedules.{schedule_of}
use Rattle.mover_runtime.specs.Standing.{StandsAt}
use Rattle.mover_runtime.specs.declared.schedule.Asks.{Asks}
use Rattle.mover_runtime.specs.declared.schedule.Asks.TheVariants as drawn
use Rattle.mover_runtime.specs.declared.schedule.Schedule.{Schedule}
use Rattle.mover_runtime.specs.declared.schedule.Schedule.TheVariants.{Never, Every, Seed, Lists}

-- a number is among others where some one of them is it
pub among-any : (numbers : List ℕ) (k : ℕ) → list_any (λ n. n == k) numbers ≡ is_among numbers k
among-any [] k = refl
among-any (n ∷ ns) k = ap (λ b. (n == k) || b) (among-any ns k)

-- a word of the generator that is there, and the one after it
seeded-asks : (seed k : ℕ) (words : Lcg) (r : Bool) → words ≡ generator_after seed k → r ≡ ((pcg32 words).0 % 64 == 0) → r ≡ (seed_word seed k % 64 == 0)
unfolding seed_word
seeded-asks seed k words r at e = e ∙ ap (λ (g : Lcg). (pcg32 g).0 % 64 == 0) at

asks-drawn-by : (s : Schedule) (k : ℕ) (words : Lcg) (r : Bool) → r ≡ ((pcg32 words).0 % 64 == 0) → StandsAt s k (drawn.Seeded words) → r ≡ (schedule_of s).asks k
asks-drawn-by Never k words r e at = absurd at
asks-drawn-by Every k words r e at = absurd at
asks-drawn-by (Seed seed) k words r e at = seeded-asks seed k words r at e
asks-drawn-by (Lists asks plans) k words r e at = absurd at

drawn-on-by : (s : Schedule) (k : ℕ) (words new : Lcg) → new ≡ (pcg32 words).1 → StandsAt s k (drawn.Seeded words) → StandsAt s (suc k) (drawn.Seeded new)
drawn-on-by Never k words new e at = absurd at
drawn-on-by Every k words new e at = absurd at
drawn-on-by (Seed seed) k words new e at = e ∙ ap (λ (g : Lcg). (pcg32 g).1) at ∙ generator-more seed k
drawn-on-by (Lists asks plans) k words new e at = absurd at

among-by : (s : Schedule) (k : ℕ) (numbers : Bor (List ℕ)) (r : Bool) → r ≡ is_among numbers.now k → StandsAt s k (drawn.Among numbers) → r ≡ (schedule_of s).asks k
among-by Never k numbers r e at = absurd at
among-by Every k numbers r e at = absurd at
among-by (Seed seed) k numbers r e at = absurd at
among-by (Lists asks plans) k numbers r e at = e ∙ ap (λ xs. is_among xs k) at

pub asks-drawn : (s : Schedule) (k : ℕ) (asks : Asks) (words : Lcg) (r : Bool) → asks ≡ drawn.Seeded words → r ≡ ((pcg32 words).0 % 64 == 0) → StandsAt s k asks
    → r ≡ (schedule_of s).asks k
asks-drawn s k asks words r is e at =
    let P : Asks → Type 0 = λ a. StandsAt s k a in asks-drawn-by s k words r e (subst P is at)

pub drawn-on : (s : Schedule) (k : ℕ) (asks : Asks) (words new : Lcg) → asks ≡ drawn.Seeded words → new ≡ (pcg32 words).1 → StandsAt s k asks
    → StandsAt s (suc k) (drawn.Seeded new)
drawn-on s k asks words new is e at = let P : Asks → Type 0 = λ a. StandsAt s k a in drawn-on-by s k words new e (subst P is at)

pub asks-among : (s : Schedule) (k : ℕ) (asks : Asks) (numbers : Bor (List ℕ)) (r : Bool) → asks ≡ drawn.Among numbers → r ≡ is_among numbers.now k → StandsAt s k asks
    → r ≡ (schedule_of s).asks k
asks-among s k asks numbers r is e at = let P : Asks → Type 0 = λ a. StandsAt s k a in among-by s k numbers r e (subst P is at)
