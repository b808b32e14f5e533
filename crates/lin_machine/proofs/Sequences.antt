-- Some instructions after one another.
use Rattle.std.proofs.Common.{◌≡◌, ◌≢◌, ℕ, suc, ◌+◌, ◌^◌, ◌<◌, ◌≤◌, inl, inr, List, [], ◌∷◌, slice_index, refl, arith, ◌∙◌, sym, subst, ⊎_elim, get_or-set_same, get_or-set_other}
use Rattle.std.specs.List.{AllByRecursion}
use Rattle.rv_isa.specs.declared.instr.Instr.{Instr}
use Rattle.rv_isa.specs.declared.instr.Instr.TheVariants.{Load, Store}
use Rattle.rv_isa.specs.declared.instr.LoadWidth.TheVariants.{Ld}
use Rattle.rv_isa.specs.declared.instr.StoreWidth.TheVariants.{Sd}
use Rattle.bs_words.specs.Word.{add_word}
use Rattle.rv_machine.specs.Arithmetic.{imm_i}
use Rattle.rv_machine.specs.Memory.{Region, memory_word, write}
use Rattle.rv_machine.specs.Sound.{AreRegisters, IsRegion}
use Rattle.machine_laws.proofs.Words.{with_registers}
use Rattle.moving_laws.specs.Stands.{AmongNumbers}
use Rattle.moving_laws.specs.Words.{IsReadable}
use Rattle.lin_machine.specs.Straight.{Changes, IsPast}
use Rattle.lin_machine.specs.View.{Fixed, View, IsInstructionAt}
use Rattle.lin_machine.proofs.Formats.{sets_load, store_step, stored_in}
use Rattle.lin_machine.proofs.Steps.{Passes, SetsRegister, reg, reg_below, set_in, set_step, stays, then_leads}

-- none
pub no_change : (s : Fixed) (v : View) (rs : List ℕ) (P : View → Type 0) → AreRegisters v.registers → P v → Changes s v 0 rs v.memory P
no_change s v rs P are p = record {
  view = v;
  leads = stays s v;
  past = record { place = omega arith; are = are; others = λ q none. refl; memory = refl; blocks = refl };
  holds = p;
}

-- one that sets a register
pub set_changes :
    (s : Fixed) (v : View) (i : Instr) (r value : ℕ) → IsInstructionAt s v.place i → Passes s (suc r) value → SetsRegister s v i (suc r) value →
    AreRegisters v.registers → suc r < 32 → value < 2 ^ 64 →
    Changes s v 1 (suc r ∷ []) v.memory (λ w. slice_index w.registers (suc r) ≡ value)
set_changes s v i r value code passes sets are fits small =
    let count = are.count in
    record {
      view = set_in (suc r) value v;
      leads = set_step s v i (suc r) value code passes sets;
      past = record {
        place = refl;
        are = with_registers v.registers (suc r) value are small;
        others = λ q none. get_or-set_other v.registers (suc r) q value 0 (λ e. none (inl e));
        memory = refl;
        blocks = refl;
      };
      holds = get_or-set_same v.registers (suc r) value 0 (omega (arith, count, fits));
    }

-- one that stores 8 bytes
pub store_changes :
    (s : Fixed) (v : View) (ra rb imm x : ℕ) → IsInstructionAt s v.place (Store Sd ra rb imm) → add_word (reg v.registers ra) (imm_i imm) ≡ x →
    x ≢ 0x20000000 → AllByRecursion IsRegion v.memory → IsReadable v.memory x → AreRegisters v.registers →
    Changes s v 1 [] (write v.memory x (reg v.registers rb)) (λ w. w.registers ≡ v.registers)
store_changes s v ra rb imm x code e off regions readable are = record {
  view = stored_in s v x (reg v.registers rb);
  leads = store_step s v ra rb imm x code e off regions readable (reg_below v.registers rb are.words);
  past = record { place = refl; are = are; others = λ q none. refl; memory = refl; blocks = refl };
  holds = refl;
}

-- ---- the same, seen otherwise

pub widened :
    (s : Fixed) (v : View) (n : ℕ) (rs rs' : List ℕ) (m : List Region) (P Q : View → Type 0) → ((q : ℕ) → AmongNumbers q rs → AmongNumbers q rs') →
    ((w : View) → IsPast n rs' m v w → P w → Q w) → Changes s v n rs m P → Changes s v n rs' m Q
widened s v n rs rs' m P Q sub then' c =
    let past : IsPast n rs' m v c.view = record {
      place = c.past.place;
      are = c.past.are;
      others = λ q none. c.past.others q (λ i. none (sub q i));
      memory = c.past.memory;
      blocks = c.past.blocks;
    } in
    record { view = c.view; leads = c.leads; past = past; holds = then' c.view past c.holds }

-- ---- one after the other

pub past_then : (n k : ℕ) (rs : List ℕ) (m m' : List Region) (u v w : View) → IsPast n rs m u v → IsPast k rs m' v w → IsPast (n + k) rs m' u w
past_then n k rs m m' u v w a b = record {
  place = let p = a.place in let q = b.place in omega (arith, p, q);
  are = b.are;
  others = λ q none. b.others q none ∙ a.others q none;
  memory = b.memory;
  blocks = b.blocks ∙ a.blocks;
}

-- what follows may speak of the view between
pub then_here :
    (s : Fixed) (v : View) (n k : ℕ) (rs : List ℕ) (m m' : List Region) (P Q : View → Type 0) (first : Changes s v n rs m P) →
    Changes s first.view k rs m' Q → Changes s v (n + k) rs m' Q
then_here s v n k rs m m' P Q first second = record {
  view = second.view;
  leads = then_leads s n k v first.view second.view first.leads second.leads;
  past = past_then n k rs m m' v first.view second.view first.past second.past;
  holds = second.holds;
}

pub then_changes :
    (s : Fixed) (v : View) (n k : ℕ) (rs : List ℕ) (m m' : List Region) (P Q : View → Type 0) → Changes s v n rs m P →
    ((w : View) → IsPast n rs m v w → P w → Changes s w k rs m' Q) → Changes s v (n + k) rs m' Q
then_changes s v n k rs m m' P Q first next = then_here s v n k rs m m' P Q first (next first.view first.past first.holds)

-- the code is further on, too
pub code_past : (s : Fixed) (n : ℕ) (rs : List ℕ) (m : List Region) (v w : View) (i : Instr) → IsPast n rs m v w → IsInstructionAt s (v.place + n) i → IsInstructionAt s w.place i
code_past s n rs m v w i p c = subst (λ q. IsInstructionAt s q i) (sym p.place) c

pub sets_as : (s : Fixed) (v : View) (i : Instr) (rd x y : ℕ) → x ≡ y → SetsRegister s v i rd x → SetsRegister s v i rd y
sets_as s v i rd x y e sets = subst (λ z. SetsRegister s v i rd z) e sets

-- and then one that sets a register
pub set_then :
    (s : Fixed) (v : View) (n : ℕ) (rs : List ℕ) (m : List Region) (P : View → Type 0) (i : Instr) (r value : ℕ) → Changes s v n rs m P →
    AmongNumbers (suc r) rs → ((w : View) → IsPast n rs m v w → P w → SetsRegister s w i (suc r) value) → IsInstructionAt s (v.place + n) i →
    Passes s (suc r) value → suc r < 32 → value < 2 ^ 64 →
    Changes s v (n + 1) rs m (λ w. slice_index w.registers (suc r) ≡ value)
set_then s v n rs m P i r value first among sets code passes fits small =
    then_changes s v n 1 rs m m P (λ w. slice_index w.registers (suc r) ≡ value) first
    (λ w past p. subst (λ k. Changes s w 1 rs k (λ u. slice_index u.registers (suc r) ≡ value)) past.memory
    (widened s w 1 (suc r ∷ []) rs w.memory (λ u. slice_index u.registers (suc r) ≡ value) (λ u. slice_index u.registers (suc r) ≡ value) sub (λ u q f. f)
    (set_changes s w i r value (code_past s n rs m v w i past code) passes (sets w past p) past.are fits small)))
  where
    sub : (q : ℕ) → AmongNumbers q (suc r ∷ []) → AmongNumbers q rs
    sub q (inl e) = subst (λ k. AmongNumbers k rs) (sym e) among
    sub q (inr e) = absurd e

-- and what every other register holds stays
pub set_more :
    (s : Fixed) (v : View) (n : ℕ) (rs : List ℕ) (m : List Region) (P : View → Type 0) (i : Instr) (r value : ℕ) (first : Changes s v n rs m P) →
    AmongNumbers (suc r) rs → SetsRegister s first.view i (suc r) value → IsInstructionAt s (v.place + n) i → Passes s (suc r) value → suc r < 32 → value < 2 ^ 64 →
    Changes s v (n + 1) rs m (λ w. (slice_index w.registers (suc r) ≡ value)
    × ((q : ℕ) → q ≢ suc r → slice_index w.registers q ≡ slice_index first.view.registers q))
set_more s v n rs m P i r value first among sets code passes fits small =
    let u = first.view in
    then_here s v n 1 rs m m P (λ w. (slice_index w.registers (suc r) ≡ value)
    × ((q : ℕ) → q ≢ suc r → slice_index w.registers q ≡ slice_index first.view.registers q)) first
    (subst (λ k. Changes s u 1 rs k (λ w. (slice_index w.registers (suc r) ≡ value)
    × ((q : ℕ) → q ≢ suc r → slice_index w.registers q ≡ slice_index u.registers q))) first.past.memory
    (widened s u 1 (suc r ∷ []) rs u.memory
    (λ w. (slice_index w.registers (suc r) ≡ value) × ((q : ℕ) → q ≢ suc r → slice_index w.registers q ≡ slice_index u.registers q)) _
    (λ q j. ⊎_elim (λ e. subst (λ k. AmongNumbers k rs) (sym e) among) (λ f. absurd f) j) (λ w p x. x)
    (widened s u 1 (suc r ∷ []) (suc r ∷ []) u.memory (λ w. slice_index w.registers (suc r) ≡ value) _ (λ q j. j)
    (λ w p x. (x, λ q ne. p.others q (λ j. ⊎_elim ne (λ f. f) j)))
    (set_changes s u i r value (code_past s n rs m v u i first.past code) passes sets first.past.are fits small))))

-- a load after them
pub load_there :
    (s : Fixed) (v : View) (n : ℕ) (rs : List ℕ) (m : List Region) (P : View → Type 0) (first : Changes s v n rs m P) (rd ra imm x : ℕ) →
    add_word (reg first.view.registers ra) (imm_i imm) ≡ x → x ≢ 0x20000000 → 0x10000000 ≤ x → IsReadable m x →
    SetsRegister s first.view (Load Ld rd ra imm) rd (memory_word m x)
load_there s v n rs m P first rd ra imm x e off low readable =
    subst (λ k. SetsRegister s first.view (Load Ld rd ra imm) rd (memory_word k x)) first.past.memory
    (sets_load s first.view rd ra imm x e off low (subst (λ k. IsReadable k x) (sym first.past.memory) readable))

-- a store after them
pub store_more :
    (s : Fixed) (v : View) (n : ℕ) (rs : List ℕ) (m : List Region) (P : View → Type 0) (first : Changes s v n rs m P) (ra rb imm x value : ℕ) →
    IsInstructionAt s (v.place + n) (Store Sd ra rb imm) → add_word (reg first.view.registers ra) (imm_i imm) ≡ x → reg first.view.registers rb ≡ value →
    x ≢ 0x20000000 → AllByRecursion IsRegion m → IsReadable m x → Changes s v (n + 1) rs (write m x value) (λ w. w.registers ≡ first.view.registers)
store_more s v n rs m P first ra rb imm x value code e value_is off regions readable =
    let u = first.view in
    then_here s v n 1 rs m (write m x value) P (λ w. w.registers ≡ first.view.registers) first
    (subst (λ k. Changes s u 1 rs (write k x value) (λ w. w.registers ≡ u.registers)) first.past.memory
    (subst (λ z. Changes s u 1 rs (write u.memory x z) (λ w. w.registers ≡ u.registers)) value_is
    (widened s u 1 [] rs (write u.memory x (reg u.registers rb)) (λ w. w.registers ≡ u.registers) (λ w. w.registers ≡ u.registers) (λ q j. absurd j)
    (λ w p f. f)
    (store_changes s u ra rb imm x (code_past s n rs m v u (Store Sd ra rb imm) first.past code) e off
    (subst (λ k. AllByRecursion IsRegion k) (sym first.past.memory) regions) (subst (λ k. IsReadable k x) (sym first.past.memory) readable) first.past.are))))
