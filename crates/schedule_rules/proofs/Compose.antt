-- What keeps a Mach function, with its runs reordered, still does what that does: it allocates no more, and no less by shapes.
use Rattle.std.proofs.Common.{◌≡◌, ℕ, List, ◌++◌, Some, sym, ap, ◌∙◌}
use Rattle.bs_words.specs.Memory.{Memory}
use Rattle.bs_words.specs.declared.values.Value.{Value}
use Rattle.cmm_meaning.specs.State.{Doing}
use Rattle.mach_ir.specs.Acts.{Around}
use Rattle.mach_ir.specs.Keeps as kept
use Rattle.mach_ir.specs.Keeps.{Ahead, Trails}
use Rattle.mach_ir.specs.Meaning as mach
use Rattle.mach_ir.specs.Runs.{ActivationSetting, Tally, RunProgress, first_tally}
use Rattle.mach_ir.specs.declared.mach.Mach.{Mach}
use Rattle.mach_ir.proofs.Keeping.{alike_then}
use Rattle.lin_ir.specs.Keeps.{NoLess, SuitRound}
use Rattle.lin_ir.proofs.Keeping.{ahead_no_less}
use Rattle.lin_ir.specs.Meaning.{State, linear_start}
use Rattle.lin_ir.specs.declared.lin.Lin.{Lin}
use Rattle.linearise_rules.specs.Kept as lin_kept
use Rattle.linearise_rules.specs.Kept.{LosslessComes, LoweringSimulation}
use Rattle.schedule_rules.specs.Keeps.{SameShapes, DoesShapes}

no_less_on : (x : Around) (u w : State) → NoLess x u.around → SameShapes u w → NoLess x w.around
no_less_on x u w h s = record { tries = h.tries ∙ s.tries; more = h.more; blocks = sym s.blocks ∙ h.blocks }

trails_on : (x : Around) (u w : State) → Trails x u.around → SameShapes u w → Trails x w.around
trails_on x u w h s = record { tries = h.tries ∙ s.tries; more = h.more; blocks = h.blocks ∙ ap (λ l. l ++ h.more) s.blocks }

-- the Linear function comes to a run that has allocated no less, and to one that has allocated no more, by shapes
pub record Follows (c : ActivationSetting) (p : Mach) (q : Lin) (s : mach.State) (u : State) (t : Tally) (n : ℕ) : Type 0 where
  pub no_less : LosslessComes (SuitRound NoLess) (mach.run_of_mach c p n s t) c q u t
  pub no_more : LosslessComes (SuitRound Trails) (mach.run_of_mach c p n s t) c q u t

pub record BeginsSo (c : ActivationSetting) (p : Mach) (q : Lin) (arguments : List Value) (memory : Memory) (doings : List Doing) (s : mach.State) : Type 0 where
  pub state : State
  pub begins : linear_start c q arguments memory ≡ Some state
  pub follows : (n : ℕ) → kept.Proper c p n s (first_tally c doings) → Follows c p q s state (first_tally c doings) n

abbrev pub DoesSo : Mach → Lin → Type 0
DoesSo p q =
    (c : ActivationSetting) (arguments : List Value) (memory : Memory) (doings : List Doing) (s : mach.State) → mach.mach_start c p arguments memory ≡ Some s →
    BeginsSo c p q arguments memory doings s

module _ (Suit More : Around → Around → Type 0) (over : (x : Around) (u w : State) → Suit x u.around → SameShapes u w → More x w.around) where
  comes_on : {c : ActivationSetting} {m r : Lin} {s u : State} {t : Tally} {x : RunProgress mach.State} → LosslessComes (SuitRound Suit) x c m s t →
      ((n : ℕ) → lin_kept.Proper c m n s t → LosslessComes SameShapes (lin_kept.run_of_lowered c m n s t) c r u t) → LosslessComes (SuitRound More) x c r u t
  comes_on one two =
      let y = two one.steps one.proper in
      record { steps = y.steps; alike = alike_then (λ a b d suit same. over a.around b d suit same) one.alike y.alike; proper = y.proper }

pub does_so : (p : Mach) (m r : Lin) → LoweringSimulation p m → DoesShapes m r → DoesSo p r
does_so p m r one two c arguments memory doings s e =
    let u = one c arguments memory doings s e in
    let v = two c arguments memory doings u.state u.begins in
    record {
      state = v.state;
      begins = v.begins;
      follows = λ n proper.
          let y = u.follows n proper in
          record {
            no_less = comes_on Ahead NoLess (λ x a b h same. no_less_on x a b (ahead_no_less x a.around h) same) y.no_less v.follows;
            no_more = comes_on Trails Trails trails_on y.no_more v.follows;
          };
    }
