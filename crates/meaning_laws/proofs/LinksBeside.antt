-- What a function does in a whole file, beside what it does alone: by induction on what it does.
use Rattle.std.proofs.Common.{◌≡◌, ℕ, zero, suc, ◌+◌, ◌≤◌, ◌<◌, Bool, true, List, [], ◌∷◌, ◌++◌, max, map, refl, ap, sym, subst, ◌∙◌, append_assoc, arith}
use Rattle.std.proofs.lemmas.List.{append-nil}
use Rattle.bs_words.specs.External.{External}
use Rattle.bs_words.specs.Memory.{Memory}
use Rattle.cmm_meaning.specs.Extends.{Extends}
use Rattle.bs_words.specs.declared.values.Kind.TheVariants.{BadCall}
use Rattle.bs_words.specs.declared.values.Value.{Value}
use Rattle.cmm_meaning.specs.State.{Doing, Gave, Threw, Called, World, deepened}
use Rattle.cmm_meaning.specs.Evaluation.{OutOfFuel, NotProper, NoAnswer, Evaluation, Gives, Exits, Raises, Stops, Surroundings, spend}
use Rattle.meaning_laws.specs.Does.{Giving, Exiting, Raising, Does, Ends, Deepens, Calls, CallsOut, Fails, Spent, after_call, played}
use Rattle.cmm_meaning.specs.Setting.{setting_of}
use Rattle.meaning_laws.specs.Fitting.{Returned, memory_after, Activation, FitsCallee, Lawful, RaisedFits, raised_fits, Answered, answered, answered_raise, unfit, unanswered, CallsFitAndGrow}
use Rattle.meaning_laws.specs.Fitting as fitting
use Rattle.meaning_laws.specs.Units.{world_of, Later}
use Rattle.meaning_laws.proofs.Units.{Later-same, answered_later, in_file}
use Rattle.meaning_laws.proofs.Extends.{extends_same, extends_trans}
use Rattle.meaning_laws.specs.Links.{OfFunction, OfOutside, done_by, CameBack, gave, threw, StoppedIn, stopped, left_by_exit, Came, asked_by, doing_of, spent_by, greatest_need, OnItsOwn, FitsCall, fits_function, fits_outside, CallsBetween, no_more, next, EndsSo, gives, exits, raises, improper, out_of_units, in_callee, lonely}

-- ---- the calls of a run

OnItsOwn-trans : {a b c : World} → OnItsOwn a b → OnItsOwn b c → OnItsOwn a c
OnItsOwn-trans p q = record { made = q.made ∙ p.made; answers = q.answers ∙ p.answers; units = omega arith; stack = omega arith; memory = extends_trans p.memory q.memory }

called_from : {s : Surroundings} {bound : ℕ} {w v z : World} {calls : List Came} → OnItsOwn w v → CallsBetween s bound v calls z → CallsBetween s bound w calls z
called_from o (no_more p) = no_more (OnItsOwn-trans o p)
called_from o (next p less fit back later rest) = next (OnItsOwn-trans o p) less fit back later rest

other_memory : (w : World) (memory : Memory) → Extends w.memory memory → OnItsOwn w (record w { memory = memory })
other_memory w memory grown = record { made = refl; answers = refl; units = omega arith; stack = omega arith; memory = grown }

greatest_more : (need more : ℕ) (calls : List Came) → greatest_need (max need more) calls ≡ max more (greatest_need need calls)
greatest_more need more [] = omega arith
greatest_more need more (c ∷ calls) = let rest = greatest_more need more calls in omega arith

-- ---- beside

-- The link where the function alone has run for a while, to the world `u`.
pub record Beside (s : Surroundings) (bound : ℕ) (alone : List Doing → ℕ → Evaluation) (w u : World) (whole : Evaluation) : Type 0 where
  pub calls : List Came
  pub last : World
  pub called : CallsBetween s bound w calls last
  pub own : ℕ
  pub units : w.left ≡ own + spent_by calls
  pub run : Evaluation
  pub is : alone (map doing_of calls) own ≡ run
  pub asked : (world_of run).asked ≡ u.asked ++ map asked_by calls
  pub taken : (world_of run).doings ≡ []
  pub left : (world_of run).left ≡ last.left
  pub memory : (world_of run).memory ≡ last.memory
  pub need : last.stack_need ≡ max (world_of run).stack_need (greatest_need w.stack_need calls)
  pub risen : u.stack_need ≤ (world_of run).stack_need
  pub ends : EndsSo s bound last run whole

module _ (s : Surroundings) (bound : ℕ) where
  -- it ends, or stops, or makes a call that does not come back
  pub at_end : (alone : List Doing → ℕ → Evaluation) (w u : World) (memory : Memory) (run whole : Evaluation) → alone [] w.left ≡ run →
      world_of run ≡ record u { left = w.left; memory = memory; doings = [] } → u.stack_need ≤ w.stack_need →
      Extends w.memory memory → EndsSo s bound (record w { memory = memory }) run whole → Beside s bound alone w u whole
  at_end alone w u memory run whole is world need grown ends =
      let deep : (world_of run).stack_need ≡ u.stack_need = ap (λ (v : World). v.stack_need) world in
      record {
        calls = [];
        last = record w { memory = memory };
        called = no_more (other_memory w memory grown);
        own = w.left;
        units = omega arith;
        run = run;
        is = is;
        asked = ap (λ (v : World). v.asked) world ∙ sym (append-nil u.asked);
        taken = ap (λ (v : World). v.doings) world;
        left = ap (λ (v : World). v.left) world;
        memory = ap (λ (v : World). v.memory) world;
        need = omega arith;
        risen = omega arith;
        ends = ends;
      }

  spend_none : (n : ℕ) (w : World) (go : World → Evaluation) → n ≡ zero → spend n w go ≡ Stops OutOfFuel w
  spend_none n w go e = subst (λ m. spend m w go ≡ Stops OutOfFuel w) (sym e) refl

  -- it pays a unit
  pub paid : (n : ℕ) (memory : Memory) (go alone : World → Evaluation) (w u : World) → w.left ≡ n → u.stack_need ≤ w.stack_need →
      Extends w.memory memory →
      ((m : ℕ) → n ≡ suc m → Beside s bound (λ doings own. alone (record u { left = own; memory = memory; doings = doings })) (record w { left = m; memory = memory }) (record u { memory = memory }) (go (record w { left = m; memory = memory }))) →
      Beside s bound (λ doings own. spend own (record u { left = own; memory = memory; doings = doings }) alone) w u (spend n (record w { memory = memory }) go)
  paid zero memory go alone w u e need grown rest =
      at_end (λ doings own. spend own (record u { left = own; memory = memory; doings = doings }) alone) w u memory
      (Stops OutOfFuel (record u { left = w.left; memory = memory; doings = [] })) (Stops OutOfFuel (record w { memory = memory }))
      (spend_none w.left _ alone e) refl need grown out_of_units
  paid (suc m) memory go alone w u e need grown rest =
      let b = rest m refl in
      let before : OnItsOwn w (record w { left = m; memory = memory }) = record { made = refl; answers = refl; units = omega arith; stack = omega arith; memory = grown } in
      record {
        calls = b.calls;
        last = b.last;
        called = called_from before b.called;
        own = suc b.own;
        units = omega (arith, b.units);
        run = b.run;
        is = b.is;
        asked = b.asked;
        taken = b.taken;
        left = b.left;
        memory = b.memory;
        need = b.need;
        risen = b.risen;
        ends = b.ends;
      }

  -- its stack gets deeper
  pub deeper : (alone : List Doing → ℕ → Evaluation) (w u : World) (bytes : ℕ) (whole : Evaluation) →
      Beside s bound alone (deepened bytes w) (deepened bytes u) whole → Beside s bound alone w u whole
  deeper alone w u bytes whole b =
      let before : OnItsOwn w (deepened bytes w) = record { made = refl; answers = refl; units = omega arith; stack = omega arith; memory = extends_same w.memory } in
      let more = greatest_more w.stack_need bytes b.calls in
      record {
        calls = b.calls;
        last = b.last;
        called = called_from before b.called;
        own = b.own;
        units = b.units;
        run = b.run;
        is = b.is;
        asked = b.asked;
        taken = b.taken;
        left = b.left;
        memory = b.memory;
        need = omega (arith, b.need, b.risen, more);
        risen = omega (arith, b.risen);
        ends = b.ends;
      }

  -- a call came back
  came : (alone after : List Doing → ℕ → Evaluation) (w u : World) (c : Came) (whole : Evaluation) → OnItsOwn w c.before →
      c.before.left ≡ w.left → c.before.left < bound → FitsCall s c.call → CameBack (done_by s c.call c.before) c.doing c.after → Later c.before c.after →
      ((doings : List Doing) (own : ℕ) → alone (c.doing ∷ doings) own ≡ after doings own) →
      Beside s bound after c.after (record u { memory = c.after.memory; asked = u.asked ++ asked_by c ∷ [] }) whole →
      Beside s bound alone w u whole
  came alone after w u c whole before all less fit back later same b =
      let risen : max w.stack_need c.after.stack_need ≡ c.after.stack_need = omega (arith, before.stack, later.onward.stack) in
      record {
        calls = c ∷ b.calls;
        last = b.last;
        called = next before less fit back later b.called;
        own = b.own;
        units = omega (arith, b.units, later.units);
        run = b.run;
        is = same (map doing_of b.calls) b.own ∙ b.is;
        asked = b.asked ∙ append_assoc u.asked (asked_by c ∷ []) (map asked_by b.calls);
        taken = b.taken;
        left = b.left;
        memory = b.memory;
        need =
            b.need ∙ ap (max (world_of b.run).stack_need)
            (ap (λ n. greatest_need n b.calls) (sym risen) ∙ greatest_more w.stack_need c.after.stack_need b.calls);
        risen = b.risen;
        ends = b.ends;
      }

-- ---- what is played

module _ (s : Surroundings) where
  -- what is played alone, from a world with these units, where this is handed in
  abbrev pub played_alone : Does → World → List Doing → ℕ → Evaluation
  played_alone d u doings own = played (lonely s.end s.symbol s.parameters) d (record u { left = own; doings = doings })

  -- all that a function does with what a call did is beside
  abbrev GoesOnBeside : ℕ → Memory → (Doing → Does) → Type 0
  GoesOnBeside bound before go =
      (d : Doing) (w u : World) → Returned s.end before d → Extends w.memory (memory_after d) → w.left < bound →
      u.stack_need ≤ w.stack_need → Beside s bound (played_alone (go d) u) w u (played s (go d) w)

  -- after a call of a function of the file
  after_inside : (bound : ℕ) (call : Called) (memory : Memory) (go : Doing → Does) →
      FitsCallee (setting_of s) call.function call.arguments → GoesOnBeside bound memory go → (w u : World) → w.left < bound →
      u.stack_need ≤ w.stack_need → Extends w.memory memory → (e : Evaluation) → s.call call (record w { memory = memory }) ≡ e →
      Later (record w { memory = memory }) (world_of e) → RaisedFits s.end e →
      Beside s bound (played_alone (Calls call memory go) u) w u (after_call (λ d v. played s (go d) v) e)
  after_inside bound call memory go fits_it on w u less need grown (Gives v h z) is later fit =
      let c : Came = record { call = OfFunction call; before = record w { memory = memory }; doing = Gave v z.memory; after = z } in
      came s bound (played_alone (Calls call memory go) u)
      (played_alone (go (Gave v z.memory)) (record u { memory = z.memory; asked = u.asked ++ asked_by c ∷ [] })) w u c _
      (other_memory w memory grown) refl less (fits_function fits_it)
      (subst (λ e. CameBack e (Gave v z.memory) z) (sym is) gave)
      later (λ doings own. refl)
      (on (Gave v z.memory) z (record u { memory = z.memory; asked = u.asked ++ asked_by c ∷ [] }) (fitting.gave later.onward.memory) (extends_same z.memory) (omega (arith, later.units)) (omega (arith, later.onward.stack)))
  after_inside bound call memory go fits_it on w u less need grown (Raises v h z) is later (raised_fits fit) =
      let c : Came = record { call = OfFunction call; before = record w { memory = memory }; doing = Threw v z.memory; after = z } in
      came s bound (played_alone (Calls call memory go) u)
      (played_alone (go (Threw v z.memory)) (record u { memory = z.memory; asked = u.asked ++ asked_by c ∷ [] })) w u c _
      (other_memory w memory grown) refl less (fits_function fits_it)
      (subst (λ e. CameBack e (Threw v z.memory) z) (sym is) threw)
      later (λ doings own. rw fit)
      (on (Threw v z.memory) z (record u { memory = z.memory; asked = u.asked ++ asked_by c ∷ [] }) (fitting.threw fit later.onward.memory) (extends_same z.memory) (omega (arith, later.units)) (omega (arith, later.onward.stack)))
  after_inside bound call memory go fits_it on w u less need grown (Exits label values h z) is later fit =
      at_end s bound (played_alone (Calls call memory go) u) w u memory _ _ refl refl need grown
      (in_callee (OfFunction call) less (fits_function fits_it) (subst (λ e. StoppedIn e (NotProper BadCall) z) (sym is) left_by_exit) later)
  after_inside bound call memory go fits_it on w u less need grown (Stops why z) is later fit =
      at_end s bound (played_alone (Calls call memory go) u) w u memory _ _ refl refl need grown
      (in_callee (OfFunction call) less (fits_function fits_it) (subst (λ e. StoppedIn e why z) (sym is) stopped) later)

  -- after an external call
  after_outside : (bound : ℕ) (row : External) (frame : Bool) (arguments : List Value) (memory : Memory) (go : Doing → Does) →
      GoesOnBeside bound memory go → (w u : World) → w.left < bound → u.stack_need ≤ w.stack_need →
      Extends w.memory memory → (e : Evaluation) → s.external row frame arguments (record w { memory = memory }) ≡ e →
      Answered s.end row.result frame (record w { memory = memory }) e →
      Beside s bound (played_alone (CallsOut row frame arguments memory go) u) w u (after_call (λ d v. played s (go d) v) e)
  after_outside bound row frame arguments memory go on w u less need grown _ is (answered {v = v} h further answers an) =
      let z : World = record w { memory = memory; made = w.made ++ further; answers = answers } in
      let c : Came = record { call = OfOutside row frame arguments; before = record w { memory = memory }; doing = Gave v memory; after = z } in
      came s bound (played_alone (CallsOut row frame arguments memory go) u)
      (played_alone (go (Gave v memory)) (record u { memory = memory; asked = u.asked ++ asked_by c ∷ [] })) w u c _
      (other_memory w memory grown) refl less fits_outside
      (subst (λ e. CameBack e (Gave v memory) z) (sym is) gave)
      (answered_later {end = s.end} {frame = frame} (answered h further answers an)) (λ doings own. refl)
      (on (Gave v memory) z (record u { memory = memory; asked = u.asked ++ asked_by c ∷ [] }) (fitting.gave (extends_same memory)) (extends_same memory) less need)
  after_outside bound row true arguments memory go on w u less need grown _ is (answered_raise v h further answers fit) =
      let z : World = record w { memory = memory; made = w.made ++ further; answers = answers } in
      let c : Came = record { call = OfOutside row true arguments; before = record w { memory = memory }; doing = Threw v memory; after = z } in
      came s bound (played_alone (CallsOut row true arguments memory go) u)
      (played_alone (go (Threw v memory)) (record u { memory = memory; asked = u.asked ++ asked_by c ∷ [] })) w u c _
      (other_memory w memory grown) refl less fits_outside
      (subst (λ e. CameBack e (Threw v memory) z) (sym is) threw)
      (answered_later {end = s.end} {result = row.result} (answered_raise v h further answers fit)) (λ doings own. rw fit)
      (on (Threw v memory) z (record u { memory = memory; asked = u.asked ++ asked_by c ∷ [] }) (fitting.threw fit (extends_same memory)) (extends_same memory) less need)
  after_outside bound row true arguments memory go on w u less need grown _ is (unfit kind further answers) =
      let z : World = record w { memory = memory; made = w.made ++ further; answers = answers } in
      at_end s bound (played_alone (CallsOut row true arguments memory go) u) w u memory _ _ refl refl need grown
      (in_callee (OfOutside row true arguments) less fits_outside (subst (λ e. StoppedIn e (NotProper kind) z) (sym is) stopped) (answered_later {end = s.end} {result = row.result} (unfit kind further answers)))
  after_outside bound row frame arguments memory go on w u less need grown _ is (unanswered call) =
      at_end s bound (played_alone (CallsOut row frame arguments memory go) u) w u memory _ _ refl refl need grown
      (in_callee (OfOutside row frame arguments) less fits_outside (subst (λ e. StoppedIn e (NoAnswer call) (record w { memory = memory })) (sym is) stopped) (Later-same (record w { memory = memory })))

  -- Whatever a function does in a whole file, it does alone where what its calls did is handed in.
  pub beside : CallsFitAndGrow s → (bound : ℕ) (a : Activation) {before : Memory} {d : Does} → Lawful (in_file s a) before d → (w u : World) → w.left < bound →
      u.stack_need ≤ w.stack_need → Extends w.memory before → Beside s bound (played_alone d u) w u (played s d w)
  beside r bound a (fitting.gives {memory = memory} {v = v} {h = h} fit grown) w u less need le =
      at_end s bound (played_alone (Ends (Giving v h memory)) u) w u memory _ _ refl refl need (extends_trans le grown) gives
  beside r bound a (fitting.exits {memory = memory} {label = label} {values = values} {h = h} grown) w u less need le =
      at_end s bound (played_alone (Ends (Exiting label values h memory)) u) w u memory _ _ refl refl need (extends_trans le grown) exits
  beside r bound a (fitting.raises {memory = memory} {v = v} {h = h} fit grown) w u less need le =
      at_end s bound (played_alone (Ends (Raising v h memory)) u) w u memory _ _ refl refl need (extends_trans le grown) raises
  beside r bound a (fitting.pays {memory = memory} {rest = rest} grown more) w u less need le =
      paid s bound w.left memory (λ v. played s rest v) (λ v. played (lonely s.end s.symbol s.parameters) rest v) w u refl need (extends_trans le grown)
      (λ m e. beside r bound a more (record w { left = m; memory = memory }) (record u { memory = memory }) (omega arith) need (extends_same memory))
  beside r bound a (fitting.deepens {bytes = bytes} {rest = rest} more) w u less need le =
      deeper s bound (played_alone (Deepens bytes rest) u) w u bytes _
      (beside r bound a more (deepened bytes w) (deepened bytes u) less (omega arith) le)
  beside r bound a (fitting.jumps more) w u less need le = beside r bound a more w u less need le
  beside r bound a (fitting.calls {memory = memory} {call = call} {go = go} grown stands behind more) w u less need le =
      after_inside bound call memory go stands.fits
      (λ d v x back at less need. beside r bound a (more d back) v x less need at) w u less need (extends_trans le grown) _ refl
      (r.later call (record w { memory = memory })) (r.fit call (record w { memory = memory }))
  beside r bound a (fitting.calls_out {memory = memory} {row = row} {frame = frame} {arguments = arguments} {go = go} grown more) w u less need le =
      after_outside bound row frame arguments memory go
      (λ d v x back at less need. beside r bound a (more d back) v x less need at) w u less need (extends_trans le grown) _ refl
      (r.answers row frame arguments (record w { memory = memory }))
  beside r bound a (fitting.fails {memory = memory} {kind = kind} grown) w u less need le =
      at_end s bound (played_alone (Fails memory kind) u) w u memory _ _ refl refl need (extends_trans le grown) improper
  beside r bound a (fitting.spent {memory = memory} grown) w u less need le =
      at_end s bound (played_alone (Spent memory) u) w u memory _ _ refl refl need (extends_trans le grown) out_of_units
