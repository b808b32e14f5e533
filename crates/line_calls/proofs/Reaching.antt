-- Words that lead to a place, one part after another.
use Rattle.std.proofs.Common.{◌≡◌, ℕ, suc, ◌+◌, ◌^◌, ◌<◌, List, [], ◌∷◌, ◌≢◌, slice_index, arith, subst, sym, inl, inr, ⊎_elim}
use Rattle.std.specs.List.{AllByRecursion}
use Rattle.bs_words.specs.Word.{add_word}
use Rattle.rv_isa.specs.declared.instr.Instr.{Instr}
use Rattle.rv_isa.specs.declared.instr.Instr.TheVariants.{Store}
use Rattle.rv_isa.specs.declared.instr.StoreWidth.TheVariants.{Sd}
use Rattle.rv_machine.specs.Arithmetic.{imm_i}
use Rattle.rv_machine.specs.Memory.{Region, write}
use Rattle.rv_machine.specs.Sound.{AreRegisters, IsRegion}
use Rattle.rv_pieces.specs.declared.piece.Piece.TheVariants.{Known}
use Rattle.rv_layout_rules.specs.Words.{NameAddresses}
use Rattle.moving_laws.specs.Stands.{AmongNumbers}
use Rattle.moving_laws.specs.Words.{IsReadable}
use Rattle.lin_machine.specs.Arrival.{ArrivalIn, ArrivesIn, Needs}
use Rattle.lin_machine.specs.Straight.{IsPast}
use Rattle.lin_machine.specs.View.{Fixed, View, IsInstructionAt}
use Rattle.lin_machine.proofs.Sequences.{no_change, set_changes, store_more, then_here, widened}
use Rattle.lin_machine.proofs.Steps.{Passes, SetsRegister, reg}
use Rattle.line_stands.specs.Parts.{PartStands}
use Rattle.line_stands.proofs.Parts.{known, nothing_more}
use Rattle.line_calls.specs.Reaches.{Reaches}

module _ (s : Fixed) where
  -- none
  pub reaches_none : (v : View) (to : ℕ) (rs : List ℕ) (P : View → Type 0) → to ≡ v.place → AreRegisters v.registers → P v → Reaches s v to rs v.memory P
  reaches_none v to rs P e are p = record { count = 0; lands = omega (arith, e); changes = no_change s v rs P are p }

  -- that is where they lead
  pub arrived : (v : View) (to : ℕ) (rs : List ℕ) (m : List Region) (P : View → Type 0) (r : Reaches s v to rs m P) → r.changes.view.place ≡ to
  arrived v to rs m P r = let p = r.changes.past.place in let l = r.lands in omega (arith, p, l)

  -- one that sets a register
  pub reaches_set :
      (v : View) (to : ℕ) (i : Instr) (k value : ℕ) → IsInstructionAt s v.place i → to ≡ v.place + 1 → Passes s (suc k) value → SetsRegister s v i (suc k) value →
      AreRegisters v.registers → suc k < 32 → value < 2 ^ 64 →
      Reaches s v to (suc k ∷ []) v.memory (λ w. slice_index w.registers (suc k) ≡ value)
  reaches_set v to i k value code e passes sets are fits small =
      record { count = 1; lands = omega (arith, e); changes = set_changes s v i k value code passes sets are fits small }

  -- the same, seen otherwise
  pub reaches_as :
      (v : View) (to : ℕ) (rs rs' : List ℕ) (m : List Region) (P Q : View → Type 0) → ((q : ℕ) → AmongNumbers q rs → AmongNumbers q rs') →
      ((w : View) (n : ℕ) → IsPast n rs m v w → P w → Q w) → Reaches s v to rs m P → Reaches s v to rs' m Q
  reaches_as v to rs rs' m P Q sub then' r =
      record {
        count = r.count;
        lands = r.lands;
        changes = widened s v r.count rs rs' m Q Q sub (λ w p x. x)
            (widened s v r.count rs rs m P Q (λ q i. i) (λ w p x. then' w r.count p x) r.changes);
      }

  -- the place by another name
  pub reaches_at : (v : View) (to to' : ℕ) (rs : List ℕ) (m : List Region) (P : View → Type 0) → to ≡ to' → Reaches s v to rs m P → Reaches s v to' rs m P
  reaches_at v to to' rs m P e r = subst (λ z. Reaches s v z rs m P) e r

  -- one after the other
  pub reaches_then :
      (v : View) (middle to : ℕ) (rs : List ℕ) (m m' : List Region) (P Q : View → Type 0) (first : Reaches s v middle rs m P) →
      Reaches s first.changes.view to rs m' Q → Reaches s v to rs m' Q
  reaches_then v middle to rs m m' P Q first second =
      record {
        count = first.count + second.count;
        lands = let a = first.lands in let b = second.lands in let p = first.changes.past.place in omega (arith, a, b, p);
        changes = then_here s v first.count second.count rs m m' P Q first.changes second.changes;
      }

  -- where what follows keeps the memory: what it does not change stays as it was between
  pub reaches_more :
      (v : View) (middle to : ℕ) (rs rs2 : List ℕ) (m : List Region) (P Q : View → Type 0) (first : Reaches s v middle rs m P) →
      ((q : ℕ) → AmongNumbers q rs2 → AmongNumbers q rs) → Reaches s first.changes.view to rs2 first.changes.view.memory Q →
      Reaches s v to rs m (λ w. Q w × ((q : ℕ) → (AmongNumbers q rs2 → ⊥) → slice_index w.registers q ≡ slice_index first.changes.view.registers q))
  reaches_more v middle to rs rs2 m P Q first sub second =
      let u = first.changes.view in
      reaches_then v middle to rs m m P (λ w. Q w × ((q : ℕ) → (AmongNumbers q rs2 → ⊥) → slice_index w.registers q ≡ slice_index first.changes.view.registers q))
      first
      (subst (λ k. Reaches s u to rs k (λ w. Q w × ((q : ℕ) → (AmongNumbers q rs2 → ⊥) → slice_index w.registers q ≡ slice_index u.registers q)))
      first.changes.past.memory
      (reaches_as u to rs2 rs u.memory Q (λ w. Q w × ((q : ℕ) → (AmongNumbers q rs2 → ⊥) → slice_index w.registers q ≡ slice_index u.registers q)) sub
      (λ w n p x. (x, p.others)) second))

  -- one that stores a word
  pub reaches_store :
      (v : View) (middle : ℕ) (rs : List ℕ) (m : List Region) (P : View → Type 0) (first : Reaches s v middle rs m P) (ra rb imm x value : ℕ) →
      IsInstructionAt s middle (Store Sd ra rb imm) → add_word (reg first.changes.view.registers ra) (imm_i imm) ≡ x → reg first.changes.view.registers rb ≡ value →
      x ≢ 0x20000000 → AllByRecursion IsRegion m → IsReadable m x →
      Reaches s v (middle + 1) rs (write m x value) (λ w. w.registers ≡ first.changes.view.registers)
  reaches_store v middle rs m P first ra rb imm x value code e is off regions can =
      let l = first.lands in
      record {
        count = first.count + 1;
        lands = omega (arith, l);
        changes = store_more s v first.count rs m P first.changes ra rb imm x value (subst (λ q. IsInstructionAt s q (Store Sd ra rb imm))
            (sym l) code) e is off regions can;
      }

  -- the last piece is one instruction
  pub single : (n : NameAddresses) (at to : ℕ) (i : Instr) → PartStands s n at to (Known i ∷ []) → IsInstructionAt s at i × (to ≡ at + 1)
  single n at to i p = let k = known s n at to i [] p in (k.0, nothing_more s n (at + 1) to k.1)

-- ---- arrivals

-- to where more is known
pub arrives_as : {q : Needs} (least most : ℕ) (s : Fixed) (v : View) (P Q : View → Type 0) → ((w : View) → P w → Q w) → ArrivesIn least most s q v P →
    ArrivesIn least most s q v Q
arrives_as least most s v P Q then' a = record {
  from = λ m st. ⊎_elim
      (λ (r : ArrivalIn least most s v m P). inl (record {
        count = r.count;
        some = r.some;
        few = r.few;
        view = r.view;
        machine = r.machine;
        stands = r.stands;
        answers = r.answers;
        calls = r.calls;
        by = r.by;
        holds = then' r.view r.holds;
      }))
      (λ g. inr g)
      (a.from m st);
}
