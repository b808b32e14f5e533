-- One turn of the rounds, and their ends.
use Rattle.std.proofs.Common.{◌≡◌, ℕ, suc, ◌+◌, ◌<◌, ◌≤◌, Bool, true, false, subst, arith}
use Rattle.choices.specs.declared.choices.Alloc.{Alloc}
use Rattle.mach_ir.specs.declared.mach.Mach.{Mach}
use Rattle.colouring_rules.specs.Places.{rest_in_slots}
use Rattle.reload_rules.specs.Reloaded.{IsFree}
use Rattle.reg_rounds_rules.specs.Rounds.{IsRound, RoundsAsked, one_more, most_rounds, EndsRounds, asks_no_more, gives_up, IsAllocatedIn}

plus_one : (n : ℕ) → suc n ≡ n + 1
plus_one n = omega arith

module _ {alloc : Alloc} {fresh : ℕ} {first : Mach} where
  pub next_asked : (rounds : ℕ) {m q : Mach} {asks : Bool} → RoundsAsked alloc fresh first rounds m → IsRound alloc fresh m q asks → asks ≡ true →
      RoundsAsked alloc fresh first (rounds + 1) q
  next_asked rounds {m} {q} a r e =
      subst (λ n. RoundsAsked alloc fresh first n q) (plus_one rounds) (one_more a (subst (λ b. IsRound alloc fresh m q b) e r))

  pub no_other : (rounds : ℕ) {m q : Mach} {asks : Bool} → IsFree first fresh → RoundsAsked alloc fresh first rounds m → rounds < most_rounds →
      IsRound alloc fresh m q asks → asks ≡ false → IsAllocatedIn alloc first q (rounds + 1) false
  no_other rounds {m} {q} free a few r e =
      record {
        fresh = fresh;
        free = free;
        ends = subst (λ n. EndsRounds alloc fresh first q n false) (plus_one rounds) (asks_no_more few a (subst (λ b. IsRound alloc fresh m q b) e r));
      }

  pub given_up : (rounds : ℕ) {m : Mach} → IsFree first fresh → RoundsAsked alloc fresh first rounds m → rounds ≤ most_rounds → most_rounds ≤ rounds →
      IsAllocatedIn alloc first (rest_in_slots first) most_rounds true
  given_up rounds {m} free a most all =
      let e : rounds ≡ most_rounds = omega (arith, most, all) in
      record { fresh = fresh; free = free; ends = gives_up (subst (λ n. RoundsAsked alloc fresh first n m) e a) }
