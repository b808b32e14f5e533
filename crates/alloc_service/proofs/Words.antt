-- Words of the memory, after others were written.
use Rattle.std.proofs.Common.{◌≡◌, ◌≢◌, ℕ, suc, ◌<◌, ◌≤◌, List, [], ◌∷◌, ◌++◌, slice_index, refl, ap, arith, ◌∙◌, sym}
use Rattle.std.specs.List.{AllByRecursion}
use Rattle.rv_machine.specs.Memory.{Region, memory_word, write}
use Rattle.rv_machine.specs.Hart.{with_register}
use Rattle.rv_machine.specs.Moving.{redirected, redirected_registers}
use Rattle.machine_laws.proofs.Memory.{other_word}
use Rattle.machine_laws.proofs.Rise.{Rise, none_below}
use Rattle.machine_laws.proofs.Words.{other_register}
use Rattle.alloc_service.specs.Forward.{redirected_now, redirected_registers_now}

-- ---- words that are rewritten

module _ (f : ℕ → ℕ) where
  pub redirected-append : (m : List Region) (as' bs : List ℕ) → redirected_now f m (as' ++ bs) ≡ redirected_now f (redirected_now f m as') bs
  redirected-append m [] bs = refl
  redirected-append m (a ∷ as') bs = redirected-append (write m a (f (memory_word m a))) as' bs

  -- a word that is none of them stays
  pub kept : (m : List Region) (as' : List ℕ) (b : ℕ) → AllByRecursion (λ a. a ≢ b) as' → memory_word (redirected_now f m as') b ≡ memory_word m b
  kept m [] b n = refl
  kept m (a ∷ as') b n = kept (write m a (f (memory_word m a))) as' b n.1 ∙ other_word m a b (f (memory_word m a)) n.0

-- ---- words read from the old state, and as they are

-- the numbers that rise from a bound on are rewritten alike, where the words there are the old ones
pub now_is :
    (f : ℕ → ℕ) (old : List Region) (as' : List ℕ) (m : List Region) (low high : ℕ) → Rise low high as' →
    ((b : ℕ) → low ≤ b → b < high → memory_word m b ≡ memory_word old b) → redirected f old m as' ≡ redirected_now f m as'
now_is f old [] m low high r same = refl
now_is f old (a ∷ as') m low high r same =
    let here : memory_word m a ≡ memory_word old a = same a r.0 r.1 in
    let v = f (memory_word m a) in
    ap (λ w. redirected f old (write m a (f w)) as') (sym here)
    ∙ now_is f old as' (write m a v) (suc a) high r.2 (λ b h k. other_word m a b v (λ e. omega arith) ∙ same b (omega (arith, r.0)) k)

pub then_is : (f : ℕ → ℕ) (old m : List Region) (as' bs : List ℕ) → redirected f old m (as' ++ bs) ≡ redirected f old (redirected f old m as') bs
then_is f old m [] bs = refl
then_is f old m (a ∷ as') bs = then_is f old (write m a (f (memory_word old a))) as' bs

-- two parts that rise, the second below the first
pub both_now :
    (f : ℕ → ℕ) (old : List Region) (as' bs : List ℕ) (from middle top : ℕ) → Rise middle top as' → Rise from middle bs →
    redirected f old old (as' ++ bs) ≡ redirected_now f (redirected_now f old as') bs
both_now f old as' bs from middle top r s =
    then_is f old old as' bs
    ∙ ap (λ m. redirected f old m bs) (now_is f old as' old middle top r (λ b h k. refl))
    ∙ now_is f old bs (redirected_now f old as') from middle s (λ b h k. kept f old as' b (none_below middle top b as' k r))

-- ---- registers

pub registers_now :
    (f : ℕ → ℕ) (old : List ℕ) (ns regs : List ℕ) (low high : ℕ) → Rise low high ns →
    ((b : ℕ) → low ≤ b → slice_index regs b ≡ slice_index old b) → redirected_registers f old ns regs ≡ redirected_registers_now f regs ns
registers_now f old [] regs low high r same = refl
registers_now f old (n ∷ ns) regs low high r same =
    let here : slice_index regs n ≡ slice_index old n = same n r.0 in
    let v = f (slice_index regs n) in
    ap (λ w. redirected_registers f old ns (with_register n (f w) regs)) (sym here)
    ∙ registers_now f old ns (with_register n v regs) (suc n) high r.2 (λ b h. other_register regs n b v (λ e. omega arith) ∙ same b (omega (arith, r.0)))
