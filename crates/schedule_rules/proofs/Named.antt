-- With exact names the function with its runs reordered does what the Mach function does, and reads no poison.
use Rattle.std.proofs.Common.{◌≡◌, List, Option, Some, None, refl, sym, subst}
use Rattle.bs_words.specs.Memory.{Memory}
use Rattle.bs_words.specs.declared.values.Value.{Value}
use Rattle.mach_ir.specs.Acts.{Around}
use Rattle.mach_ir.specs.Keeps.{Trails, RunsAlike}
use Rattle.mach_ir.specs.Meaning as mach
use Rattle.mach_ir.specs.Runs.{ActivationSetting, Tally, RunProgress, first_tally, entry_around}
use Rattle.mach_ir.specs.declared.mach.Mach.{Mach}
use Rattle.mach_ir.proofs.Keeping.{alike_then}
use Rattle.lin_ir.specs.Formed.{WellFormed}
use Rattle.lin_ir.specs.Keeps as named_kept
use Rattle.lin_ir.specs.Keeps.{NoLess, SuitRound}
use Rattle.lin_ir.specs.Meaning as poison
use Rattle.lin_ir.specs.Meaning.{NamedAt, State, Locations, put_all, begin_linear, linear_start}
use Rattle.lin_ir.specs.declared.lin.Lin.{Lin}
use Rattle.linearise_rules.specs.Kept as kept
use Rattle.linearise_rules.specs.Kept.{LosslessComes, LoweringSimulation}
use Rattle.linearise_rules.specs.Keeps.{NamesReached, NoAddrReached}
use Rattle.lin_tidy_rules.specs.Keeps.{SameRound}
use Rattle.lin_tidy_rules.proofs.Exact.{reads_no_poison}
use Rattle.schedule_rules.specs.Keeps.{DoesShapes}
use Rattle.schedule_rules.proofs.Compose.{DoesSo, does_so}

record Entered (c : ActivationSetting) (m : Lin) (memory : Memory) (s : State) : Type 0 where
  file : Locations
  same : s ≡ record { rest = m.code; file = file; around = entry_around memory }

entered_in : (c : ActivationSetting) (m : Lin) (arguments : List Value) (memory : Memory) (s : State) → linear_start c m arguments memory ≡ Some s → Entered c m memory s
entered_in c m arguments memory s e = by (put_all c.setting.end m.params arguments (λ l. None)) e
  where
    no_state : None ≡ Some s → ⊥
    no_state e = cc

    same_state : (x : State) → Some x ≡ Some s → s ≡ x
    same_state x e = cc

    by : (o : Option Locations) → begin_linear m memory o ≡ Some s → Entered c m memory s
    by None e = absurd (no_state e)
    by (Some f) e = record { file = f; same = same_state (record { rest = m.code; file = f; around = entry_around memory }) e }

module _ (Suit : Around → Around → Type 0) where
  suits_on : {r : RunProgress mach.State} {x y : RunProgress State} → RunsAlike (SuitRound Suit) r x → RunsAlike SameRound x y → RunsAlike (SuitRound Suit) r y
  suits_on one two = alike_then (λ a b d suit same. subst (Suit a.around) same suit) one two

  module _ (c : ActivationSetting) (m : Lin) (well : WellFormed m) (safe : NoAddrReached m) (named : NamedAt) (exact : NamesReached m named) where
    comes_named : {memory : Memory} {u : State} {t : Tally} {x : RunProgress mach.State} → Entered c m memory u → LosslessComes (SuitRound Suit) x c m u t →
        named_kept.LinearComes Suit x c named m u t
    comes_named {memory} {u} {t} {x} enter one =
        let start_at : State = record { rest = m.code; file = enter.file; around = entry_around memory } in
        let b = reads_no_poison c m well safe named exact one.steps enter.file (entry_around memory) t refl
        (subst (λ (s : State). kept.Proper c m one.steps s t) enter.same one.proper) in
        record {
          steps = b.0;
          alike = subst (λ (s : State). RunsAlike (SuitRound Suit) x (poison.run_of_linear c named m b.0 s t)) (sym enter.same)
              (suits_on (subst (λ (s : State). RunsAlike (SuitRound Suit) x (kept.run_of_lowered c m one.steps s t)) enter.same one.alike) b.1);
        }

pub does_named_so : (p : Mach) (r : Lin) → WellFormed r → NoAddrReached r → (named : NamedAt) → NamesReached r named → DoesSo p r → named_kept.LinearSimulation p r named
does_named_so p r well safe named exact does c arguments memory doings s e =
    let u = does c arguments memory doings s e in
    let enter = entered_in c r arguments memory u.state u.begins in
    record {
      state = u.state;
      begins = u.begins;
      follows = λ n proper.
          let y = u.follows n proper in
          let less : LosslessComes (SuitRound NoLess) (mach.run_of_mach c p n s (first_tally c doings)) c r u.state (first_tally c doings) = y.no_less in
          record {
            no_less = comes_named NoLess c r well safe named exact enter less;
            no_more = comes_named Trails c r well safe named exact enter y.no_more;
          };
    }

-- From the function as it is lowered, over its reordered one, to the meaning with poison.
pub scheduled_does : (p : Mach) (m r : Lin) → LoweringSimulation p m → DoesShapes m r → WellFormed r → NoAddrReached r → (named : NamedAt) → NamesReached r named → named_kept.LinearSimulation p r named
scheduled_does p m r one two well safe named exact = does_named_so p r well safe named exact (does_so p m r one two)
