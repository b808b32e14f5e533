-- The part of a line is made of pieces: operands are fetched, an operation works on registers, and
-- the result is kept in its location.
use Rattle.std.proofs.Common.{◌≡◌, ◌≢◌, ℕ, suc, ◌+◌, ◌*◌, ◌%◌, ◌^◌, ◌<◌, inl, inr, List, [], ◌∷◌, length, Option, Some, None, slice_index, refl, arith, sym, subst, ⊎_elim}
use Rattle.bs_words.specs.declared.types.Loc.{Loc}
use Rattle.bs_words.specs.declared.types.Loc.TheVariants as loc
use Rattle.bs_words.specs.declared.values.Value.{Value}
use Rattle.mach_ir.specs.Acts.{Around}
use Rattle.rv_isa.specs.declared.instr.AluOp.TheVariants.{Add}
use Rattle.rv_isa.specs.declared.instr.Instr.TheVariants.{Load, Lui, Op, Store}
use Rattle.rv_isa.specs.declared.instr.LoadWidth.TheVariants.{Ld}
use Rattle.rv_isa.specs.declared.instr.StoreWidth.TheVariants.{Sd}
use Rattle.rv_machine.specs.Hart.{Placed}
use Rattle.rv_machine.specs.Memory.{Region}
use Rattle.moving_laws.specs.Stands.{AmongNumbers}
use Rattle.lin_machine.specs.Files.{IsPut}
use Rattle.lin_machine.specs.Relation.{Below, IsLocationRegister, Laid, StandsFor, Within, blocks_by_serial}
use Rattle.lin_machine.specs.Straight.{Changes, LeadsFurther, IsPast}
use Rattle.lin_machine.specs.View.{Fixed, View, HasCode}
use Rattle.lin_machine.proofs.Locations.{put_far, put_near, read_far, read_near, read_register}
use Rattle.lin_machine.proofs.Sequences.{no_change, widened}
use Rattle.lin_machine.proofs.Slots.{above_12}
use Rattle.lin_machine.proofs.Standing.{AreScratch, IsScratch, within_put}
use Rattle.lin_machine.proofs.Steps.{stays, then_leads}

-- ---- where one comes

pub comes_here : (s : Fixed) (v : View) (P : View → Type 0) → P v → LeadsFurther s v 0 P
comes_here s v P p = record { view = v; leads = stays s v; place = omega arith; holds = p }

pub changes_come : (s : Fixed) (v : View) (n : ℕ) (rs : List ℕ) (m : List Region) (P Q : View → Type 0) → ((w : View) → IsPast n rs m v w → P w → Q w) →
    Changes s v n rs m P → LeadsFurther s v n Q
changes_come s v n rs m P Q then' c = record { view = c.view; leads = c.leads; place = c.past.place; holds = then' c.view c.past c.holds }

pub comes_then : (s : Fixed) (v : View) (n k : ℕ) (P Q : View → Type 0) → LeadsFurther s v n P → ((w : View) → w.place ≡ v.place + n → P w → LeadsFurther s w k Q) →
    LeadsFurther s v (n + k) Q
comes_then s v n k P Q first next =
    let second = next first.view first.place first.holds in
    record {
      view = second.view;
      leads = then_leads s n k v first.view second.view first.leads second.leads;
      place = let p = first.place in let q = second.place in omega (arith, p, q);
      holds = second.holds;
    }

-- ---- the pieces

module _ (s : Fixed) (laid : Laid) (young : List Placed) (a : Around) (c : Below) where
  -- From a place on a value comes into a register, and these scratch registers alone change.
  pub record Fetches (held : Loc → Option Value) (place n : ℕ) (scratch : List ℕ) (r : ℕ) (x : Value) : Type 0 where
    pub are : AreScratch scratch
    pub by : (v : View) → v.place ≡ place → Within s laid v young 0 held a c →
        Changes s v n scratch v.memory (λ w. StandsFor s (blocks_by_serial v young) (slice_index w.registers r) x)

  pub fetch_register : (held : Loc → Option Value) (place r : ℕ) (x : Value) → a.raised ≡ None → held (loc.Machine r) ≡ Some x → Fetches held place 0 [] r x
  fetch_register held place r x none h = record {
    are = λ q i. absurd i;
    by = λ v p within. no_change s v [] (λ w. StandsFor s (blocks_by_serial v young)
        (slice_index w.registers r) x) within.own.are (read_register s laid v young 0 held a c within r x none h).1;
  }

  -- into t1 or t2
  module _ (held : Loc → Option Value) (place k r : ℕ) (x : Value) (scratch : IsScratch (suc r)) (h : held (loc.Slot k) ≡ Some x) where
    one_scratch : (q : ℕ) → AmongNumbers q (suc r ∷ []) → IsScratch q
    one_scratch q (inl e) = subst IsScratch (sym e) scratch
    one_scratch q (inr i) = absurd i

    fits : suc r < 32
    fits = ⊎_elim (λ e. omega (arith, e)) (λ e. omega (arith, e)) scratch

    no_sp : suc r ≢ 2
    no_sp e = ⊎_elim (λ f. omega (arith, e, f)) (λ f. omega (arith, e, f)) scratch

    pub fetch_near : 8 * k + 16 * length a.tries < 2048 → HasCode s place (Load Ld (suc r) 2 ((8 * k + 16 * length a.tries) % 4096) ∷ []) →
        Fetches held place 1 (suc r ∷ []) (suc r) x
    fetch_near small code = record {
      are = one_scratch;
      by = λ v p within. read_near s laid v young 0 held a c within k x h r fits no_sp small (subst (λ z. HasCode s z (Load Ld (suc r) 2
          ((8 * k + 16 * length a.tries) % 4096) ∷ [])) (sym p) code);
    }

    pub fetch_far :
        8 * k + 16 * length a.tries < 2 ^ 30 →
        HasCode s place (Lui (suc r) (above_12 (8 * k + 16 * length a.tries) % 2 ^ 20) ∷ Op Add (suc r) (suc r) 2 ∷ Load Ld (suc r) (suc r)
        ((8 * k + 16 * length a.tries) % 4096) ∷ []) →
        Fetches held place 3 (suc r ∷ []) (suc r) x
    fetch_far small code = record {
      are = one_scratch;
      by = λ v p within.
          widened s v 3 (suc r ∷ suc r ∷ []) (suc r ∷ []) v.memory _ _ (λ q i. ⊎_elim (λ e. inl e) (λ j. j) i) (λ w past e. e)
          (read_far s laid v young 0 held a c within k x h r fits no_sp r fits no_sp small
          (subst (λ z. HasCode s z (Lui (suc r) (above_12 (8 * k + 16 * length a.tries) % 2 ^ 20) ∷ Op Add (suc r) (suc r) 2 ∷ Load Ld (suc r) (suc r)
          ((8 * k + 16 * length a.tries) % 4096) ∷ [])) (sym p) code));
    }

  -- From a place on a value in a register is kept: this is held, and then that.
  pub record Keeps (held held' : Loc → Option Value) (place n r : ℕ) (x : Value) : Type 0 where
    pub by : (v : View) → v.place ≡ place → Within s laid v young 0 held a c → StandsFor s (blocks_by_serial v young) (slice_index v.registers r) x →
        LeadsFurther s v n (λ w. Within s laid w young 0 held' a c)

  -- the register is the location
  pub keep_register : (held held' : Loc → Option Value) (place r : ℕ) (x : Value) → a.raised ≡ None → IsLocationRegister r → IsPut (loc.Machine r) x held held' →
      Keeps held held' place 0 r x
  keep_register held held' place r x none is put = record {
    by = λ v p within stands. comes_here s v (λ w. Within s laid w young 0 held' a c)
        (within_put s laid v young 0 held held' a c r x is none stands put within);
  }

  -- a slot, with t2 for its address where it is far
  module _ (held held' : Loc → Option Value) (place k r : ℕ) (x : Value) (other : suc r ≢ 7) (i : k < laid.slots) (put : IsPut (loc.Slot k) x held held') where
    pub keep_near : 8 * k + 16 * length a.tries < 2048 → HasCode s place (Store Sd 2 (suc r) ((8 * k + 16 * length a.tries) % 4096) ∷ []) →
        Keeps held held' place 1 (suc r) x
    keep_near small code = record {
      by = λ v p within stands.
          changes_come s v 1 [] _ _ (λ w. Within s laid w young 0 held' a c) (λ w past e. e)
          (put_near s laid v young 0 held a c within 0 [] x held' r k other i (λ q j. absurd j) put
          (no_change s v [] (λ w. StandsFor s (blocks_by_serial v young) (slice_index w.registers (suc r)) x) within.own.are stands) small
          (let e : place ≡ v.place + 0 = omega (arith, p) in subst (λ z. HasCode s z (Store Sd 2 (suc r) ((8 * k + 16 * length a.tries) % 4096) ∷ [])) e code));
    }

    pub keep_far :
        8 * k + 16 * length a.tries < 2 ^ 30 →
        HasCode s place (Lui 7 (above_12 (8 * k + 16 * length a.tries) % 2 ^ 20) ∷ Op Add 7 7 2 ∷ Store Sd 7 (suc r)
        ((8 * k + 16 * length a.tries) % 4096) ∷ []) →
        Keeps held held' place 3 (suc r) x
    keep_far small code = record {
      by = λ v p within stands.
          changes_come s v 3 (7 ∷ []) _ _ (λ w. Within s laid w young 0 held' a c) (λ w past e. e)
          (put_far s laid v young 0 held a c within 0 (7 ∷ []) x held' r k other i (λ q j. ⊎_elim (λ e. inr e) (λ f. absurd f) j) put
          (no_change s v (7 ∷ []) (λ w. StandsFor s (blocks_by_serial v young) (slice_index w.registers (suc r)) x) within.own.are stands) (inl refl) small
          (let e : place ≡ v.place + 0 = omega (arith, p) in
          subst (λ z. HasCode s z (Lui 7 (above_12 (8 * k + 16 * length a.tries) % 2 ^ 20) ∷ Op Add 7 7 2 ∷ Store Sd 7 (suc r)
          ((8 * k + 16 * length a.tries) % 4096) ∷ [])) e code));
    }
