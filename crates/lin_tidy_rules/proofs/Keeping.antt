-- What keeps a Linear function that keeps a Mach function keeps that; and with exact names it reads no poison.
use Rattle.std.proofs.Common.{◌≡◌, ℕ, true, List, ◌∷◌, Option, Some, None, refl, sym, ◌∙◌, subst}
use Rattle.bs_words.specs.Memory.{Memory}
use Rattle.bs_words.specs.declared.types.Comp.{Comp}
use Rattle.bs_words.specs.declared.types.Loc.{Loc}
use Rattle.bs_words.specs.declared.values.Value.{Value}
use Rattle.mach_ir.specs.Acts.{Around}
use Rattle.mach_ir.specs.Runs.{ActivationSetting, Tally, RunProgress, entry_around}
use Rattle.mach_ir.specs.Meaning as mach
use Rattle.mach_ir.specs.Keeps.{Ahead, Trails, RunsAlike, both_running, both_asking, both_ended}
use Rattle.mach_ir.specs.Walks as mach_walks
use Rattle.mach_ir.specs.declared.mach.Mach.{Mach}
use Rattle.mach_ir.proofs.Keeping.{alike_then}
use Rattle.lin_ir.specs.Descriptors.{NamesLives}
use Rattle.lin_ir.specs.Formed.{WellFormed}
use Rattle.lin_ir.specs.Keeps as named_kept
use Rattle.lin_ir.specs.Keeps.{NoLess, SuitRound, LinearKeeps}
use Rattle.lin_ir.proofs.Keeping.{ahead_no_less}
use Rattle.lin_ir.specs.Meaning as poison
use Rattle.lin_ir.specs.Meaning.{NamedAt, State, Locations, passes_frame, put_all, begin_linear, linear_start}
use Rattle.lin_ir.specs.Walks.{StandsAsLine, Traps, by_walk, unreached, Reached, LiveAt, LiveAcross}
use Rattle.lin_ir.specs.declared.lin.Line.{Line}
use Rattle.lin_ir.specs.declared.lin.Lin.{Lin}
use Rattle.linearise_rules.specs.Kept as kept
use Rattle.linearise_rules.specs.Kept.{LosslessComes, LoweringSimulation}
use Rattle.linearise_rules.specs.Keeps.{NamesReached, NoAddrReached, OneTraps, KeepsReached}
use Rattle.linearise_rules.proofs.Lowering.{no_addr_live}
use Rattle.linearise_rules.proofs.Walked.{reached_stands}
use Rattle.lin_tidy_rules.specs.Keeps as lin_keeps
use Rattle.lin_tidy_rules.specs.Keeps.{SameRound, KeepsLin}
use Rattle.lin_tidy_rules.specs.Redirecting.{Tidies, as_it_is, then_leaves, then_redirects, then_turns}
use Rattle.lin_tidy_rules.specs.Regular.{IsRegular}
use Rattle.lin_tidy_rules.proofs.LeavingDoes.{leaving_keeps}
use Rattle.lin_tidy_rules.proofs.Redirecting.{redirecting_keeps}
use Rattle.lin_tidy_rules.proofs.Tidied.{tidied_regular}
use Rattle.lin_tidy_rules.proofs.TurningDoes.{turning_keeps}
use Rattle.lin_tidy_rules.proofs.Exact.{reads_no_poison}

-- ---- one after the other

module _ (Suit : Around → Around → Type 0) where
  suits_on : {S : Type 0} {At : S → Around} {r : RunProgress S} {x y : RunProgress State} → RunsAlike (λ s (u : State). Suit (At s) u.around) r x → RunsAlike SameRound x y → RunsAlike
      (λ s (u : State). Suit (At s) u.around) r y
  suits_on {At = At} one two = alike_then (λ a b d suit same. subst (Suit (At a)) same suit) one two

  comes_on : {c : ActivationSetting} {m r : Lin} {s u : State} {t : Tally} {x : RunProgress mach.State} → LosslessComes (SuitRound Suit) x c m s t →
      ((n : ℕ) → kept.Proper c m n s t → LosslessComes SameRound (kept.run_of_lowered c m n s t) c r u t) → LosslessComes (SuitRound Suit) x c r u t
  comes_on one two =
      let y = two one.steps one.proper in
      record { steps = y.steps; alike = suits_on {At = λ (s : mach.State). s.around} one.alike y.alike; proper = y.proper }

does_on : (p : Mach) (m r : Lin) → LoweringSimulation p m → lin_keeps.TidySimulation SameRound m r → LoweringSimulation p r
does_on p m r one two c arguments memory doings s e =
    let u = one c arguments memory doings s e in
    let v = two c arguments memory doings u.state u.begins in
    record {
      state = v.state;
      begins = v.begins;
      follows = λ n proper.
          let y = u.follows n proper in
          record { no_less = comes_on Ahead y.no_less v.follows; no_more = comes_on Trails y.no_more v.follows };
    }

-- what keeps a Linear function that keeps a Mach function keeps that
pub keeps_on : {p : Mach} {m r : Lin} → KeepsReached p m → KeepsLin SameRound m r → KeepsReached p r
keeps_on {p} {m} {r} one two =
    record {
      name = two.name ∙ one.name;
      result = two.result ∙ one.result;
      does = does_on p m r one.does two.does;
      symbols = λ name n. one.symbols name (two.symbols name n);
      externals = λ row n. one.externals row (two.externals row n);
      addrs = λ h. two.addrs (one.addrs h);
    }

pub keeps_tidied : {p : Mach} {m r : Lin} → KeepsReached p m → IsRegular m → Tidies m r → KeepsReached p r
keeps_tidied one regular as_it_is = one
keeps_tidied one regular (then_leaves t l) = keeps_on (keeps_tidied one regular t) (leaving_keeps l)
keeps_tidied one regular (then_redirects t l) = keeps_on (keeps_tidied one regular t) (redirecting_keeps l)
keeps_tidied one regular (then_turns t l) = keeps_on (keeps_tidied one regular t) (turning_keeps l (tidied_regular t regular))

-- ---- with names

-- the state in which a function begins
record Entered (c : ActivationSetting) (m : Lin) (memory : Memory) (s : State) : Type 0 where
  file : Locations
  same : s ≡ record { rest = m.code; file = file; around = entry_around memory }

entered_in : (c : ActivationSetting) (m : Lin) (arguments : List Value) (memory : Memory) (s : State) → linear_start c m arguments memory ≡ Some s → Entered c m memory s
entered_in c m arguments memory s e = by (put_all c.setting.end m.params arguments (λ l. None)) e
  where
    no_state : None ≡ Some s → ⊥
    no_state e = cc

    same_state : (x : State) → Some x ≡ Some s → s ≡ x
    same_state x e = cc

    by : (o : Option Locations) → begin_linear m memory o ≡ Some s → Entered c m memory s
    by None e = absurd (no_state e)
    by (Some f) e = record { file = f; same = same_state (record { rest = m.code; file = f; around = entry_around memory }) e }

module _ (Suit : Around → Around → Type 0) (c : ActivationSetting) (m : Lin) (well : WellFormed m) (safe : NoAddrReached m) (named : NamedAt)
    (exact : NamesReached m named) where
  comes_named : {memory : Memory} {u : State} {t : Tally} {x : RunProgress mach.State} → Entered c m memory u → LosslessComes (SuitRound Suit) x c m u t →
      named_kept.LinearComes Suit x c named m u t
  comes_named {memory} {u} {t} {x} enter one =
      let start_at : State = record { rest = m.code; file = enter.file; around = entry_around memory } in
      let b = reads_no_poison c m well safe named exact one.steps enter.file (entry_around memory) t refl
      (subst (λ (s : State). kept.Proper c m one.steps s t) enter.same one.proper) in
      record {
        steps = b.0;
        alike = subst (λ (s : State). RunsAlike (SuitRound Suit) x (poison.run_of_linear c named m b.0 s t)) (sym enter.same)
            (suits_on Suit {At = λ (s : mach.State). s.around}
            (subst (λ (s : State). RunsAlike (SuitRound Suit) x (kept.run_of_lowered c m one.steps s t)) enter.same one.alike) b.1);
      }

-- what suits a wider relation
alike_wider : {S U : Type 0} {A B : S → U → Type 0} {r : RunProgress S} {q : RunProgress U} → ((s : S) (u : U) → A s u → B s u) → RunsAlike A r q →
    RunsAlike B r q
alike_wider f (both_running {s = s} {u = u} h) = both_running (f s u h)
alike_wider f both_asking = both_asking
alike_wider f both_ended = both_ended

no_less_named : {x : RunProgress mach.State} {c : ActivationSetting} {named : NamedAt} {m : Lin} {u : State} {t : Tally} → named_kept.LinearComes Ahead x c named m u t →
    named_kept.LinearComes NoLess x c named m u t
no_less_named one = record { steps = one.steps; alike = alike_wider (λ a b h. ahead_no_less a.around b.around h) one.alike }

-- With exact names it does the same, and so reads no poison.
pub does_named : (p : Mach) (m : Lin) → WellFormed m → NoAddrReached m → (named : NamedAt) → NamesReached m named → LoweringSimulation p m → named_kept.LinearSimulation p m named
does_named p m well safe named exact does c arguments memory doings s e =
    let u = does c arguments memory doings s e in
    let enter = entered_in c m arguments memory u.state u.begins in
    record {
      state = u.state;
      begins = u.begins;
      follows = λ n proper.
          let y = u.follows n proper in
          record {
            no_less = no_less_named (comes_named Ahead c m well safe named exact enter y.no_less);
            no_more = comes_named Trails c m well safe named exact enter y.no_more;
          };
    }

-- names that are exact everywhere are exact where walks come
pub names_reached : (m : Lin) → OneTraps m → (named : NamedAt) → NamesLives m named → NamesReached m named
names_reached m traps named exact =
    record {
      exact = λ i next tries r frame l.
          let y = exact.exact i next (reached_stands m r) frame l in
          (λ n. across r (y.0 n), λ v. y.1 (record { tries = tries; traps = by_walk r; across = v }));
    }
  where
    across : {i : Line} {next : List Line} {l : Loc} {t : Comp} {tries : List ℕ} → Reached m (i ∷ next) tries → LiveAt m l t i next →
        LiveAcross m l t i next tries
    across {i} {next} {l} {t} {tries} r v = by v.traps v.across
      where
        by : {others : List ℕ} → Traps m (i ∷ next) others → LiveAcross m l t i next others → LiveAcross m l t i next tries
        by {others} (by_walk s) w = subst (LiveAcross m l t i next) (traps.one (i ∷ next) others tries s r) w
        by (unreached out) w = absurd (out tries r)

-- A Linear function that keeps a Mach function where nothing is lost keeps it with exact names, where each of its frame
-- points is reached, and no addr is live after one of the Mach function.
pub keeps_named : (p : Mach) (m : Lin) → KeepsReached p m → WellFormed m → OneTraps m →
    ((i : Line) (next : List Line) → StandsAsLine i next m.code → passes_frame i.op ≡ true → (tries : List ℕ) × Reached m (i ∷ next) tries) →
    mach_walks.NoAddrLive p → (named : NamedAt) → NamesLives m named → LinearKeeps p m named
keeps_named p m keeps well traps points safe named exact =
    record {
      name = keeps.name;
      result = keeps.result;
      does = does_named p m well (keeps.addrs safe) named (names_reached m traps named exact) keeps.does;
      symbols = keeps.symbols;
      externals = keeps.externals;
      addrs = λ h. no_addr_live m points (keeps.addrs h);
    }
