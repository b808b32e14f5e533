-- What a frame call comes to.
use Rattle.std.proofs.Common.{◌≡◌, ◌≢◌, ℕ, zero, suc, ◌+◌, ◌≤◌, true, false, List, [], ◌∷◌, ◌++◌, length, drop, refl, ap, arith, ◌∙◌, sym, append_assoc, append-nil}
use Rattle.std.specs.Prelude.{codes, IfOk, Result, Ok, Err}
use Rattle.std.proofs.lemmas.Bool.{cond-true, cond-false}
use Rattle.bs_words.specs.Observed.{Made}
use Rattle.bs_words.specs.declared.types.Ret.{Ret}
use Rattle.bs_words.specs.declared.types.Ret.TheVariants as returns
use Rattle.bs_words.specs.declared.values.Obs.{Obs}
use Rattle.rv_machine.specs.FrameCalls.{collected, has_trap_frame, raised, with_answer}
use Rattle.rv_machine.specs.Hart.{Hart, Placed}
use Rattle.rv_machine.specs.Relocation.{Serviced}
use Rattle.rv_machine.specs.Services.{Machine, Going, Over, Asks, Stopped, after_collection, cleared, concluded, destroyed, filled_registers, machine_frame_answered, returned_with}
use Rattle.rv_machine.specs.Step.{registers_after}
use Rattle.rv_machine.specs.Text.{calls_text, shown_text}
use Rattle.rv_machine.specs.declared.cause.Cause.TheVariants.{BadFrame}
use Rattle.mover_runtime.specs.Calling.{shown_call, wanted}
use Rattle.mover_runtime.specs.Outcome.{calling_none}
use Rattle.mover_runtime.proofs.Runs.{state}

module _ (plan : List Placed → List ℕ) (ret : Ret) (call : Made) (answers : List ℕ) (m : Machine) where
  pub asks : length answers ≤ 1 → machine_frame_answered plan ret call answers m ≡ Over m.calls (Asks call)
  asks few = by answers few
    where
      by : (xs : List ℕ) → length xs ≤ 1 → machine_frame_answered plan ret call xs m ≡ Over m.calls (Asks call)
      by [] few = refl
      by (x ∷ []) few = refl
      by (x ∷ y ∷ xs) few = absurd (omega arith)

  module _ (first value : ℕ) (left : List ℕ) (two : answers ≡ first ∷ value ∷ left) where
    pub comes : (came : Serviced) → collected plan m.hart ≡ came → machine_frame_answered plan ret call answers m ≡ after_collection ret call first value left came m
    comes came e = ap (λ (xs : List ℕ). machine_frame_answered plan ret call xs m) two ∙ ap (λ (a : Serviced). after_collection ret call first value left a m) e

-- the answers after the next two
pub two_left : (xs : List ℕ) (k a b : ℕ) (left : List ℕ) → drop k xs ≡ a ∷ b ∷ left → (drop (k + 2) xs ≡ left) × (k + 2 ≤ length xs)
two_left [] zero a b left e = absurd cc
two_left [] (suc k) a b left e = absurd cc
two_left (x ∷ []) zero a b left e = absurd cc
two_left (x ∷ y ∷ xs) zero a b left e = let same : xs ≡ left = cc in (same, omega arith)
two_left (x ∷ xs) (suc k) a b left e =
    let later = two_left xs k a b left e in
    let n : suc k + 2 ≡ suc (k + 2) = omega arith in
    (ap (λ (j : ℕ). drop j (x ∷ xs)) n ∙ later.0, omega (arith, later.1))

registers_are : (ret : Ret) (value : ℕ) (registers : List ℕ) → registers_after (wanted ret value) registers ≡ with_answer ret value (filled_registers destroyed registers)
registers_are returns.Unit value registers = refl
registers_are (returns.Comp c) value registers = refl

module _ (ret : Ret) (call : Made) (first value : ℕ) (left : List ℕ) (h new : Hart) where
  pub returned : first ≡ 0 → new ≡ returned_with (registers_after (wanted ret value) h.registers) h
      → (g : Hart) (result : Ret) (all : List ℕ) → concluded ret call first value left h (calling_none g result all) ≡ Going (state new result left (call ∷ []))
  returned e is g result all =
      ap (λ (n : ℕ). concluded ret call n value left h (calling_none g result all)) e
      ∙ ap (λ (rs : List ℕ). Going (state (returned_with rs h) result left (call ∷ []))) (sym (registers_are ret value h.registers))
      ∙ ap (λ (x : Hart). Going (state x result left (call ∷ []))) (sym is)

  pub raises : first ≢ 0 → has_trap_frame h ≡ true → new ≡ raised value (cleared h)
      → (g : Hart) (result : Ret) (all : List ℕ) → concluded ret call first value left h (calling_none g result all) ≡ Going (state new result left (call ∷ []))
  raises some trap is g result all = by first some
    where
      by : (n : ℕ) → n ≢ 0 → concluded ret call n value left h (calling_none g result all) ≡ Going (state new result left (call ∷ []))
      by zero ne = absurd (ne refl)
      by (suc n) ne =
          cond-true (has_trap_frame h) _ _ trap
          ∙ ap (λ (x : Hart). Going (state x result left (call ∷ []))) (sym is)

  pub no_trap : first ≢ 0 → has_trap_frame h ≡ false
      → (g : Hart) (result : Ret) (all : List ℕ) → concluded ret call first value left h (calling_none g result all) ≡ Over [] (Stopped BadFrame)
  no_trap some trap g result all = by first some
    where
      by : (n : ℕ) → n ≢ 0 → concluded ret call n value left h (calling_none g result all) ≡ Over [] (Stopped BadFrame)
      by zero ne = absurd (ne refl)
      by (suc n) ne = cond-false (has_trap_frame h) _ _ trap

-- the line of a call
pub line_is : (name : List ℕ) (shown : List Obs) → ((codes "call " ++ name) ++ shown_text shown) ++ codes "\n" ≡ calls_text (shown_call name shown ∷ [])
line_is name shown =
    ap (λ (t : List ℕ). t ++ codes "\n") (append_assoc (codes "call ") name (shown_text shown))
    ∙ sym (append-nil ((codes "call " ++ (name ++ shown_text shown)) ++ codes "\n"))

-- what holds where there was no fault follows from what does
pub ok_then : {T E : Type 0} (r : Result T E) (P Q : T → Type 0) → ((x : T) → P x → Q x) → IfOk r P → IfOk r Q
ok_then (Ok x) P Q h p = h x p
ok_then (Err e) P Q h p = tt
