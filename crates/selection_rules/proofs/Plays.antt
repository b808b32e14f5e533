-- What follows an interaction does what it plays: the same calls, end, need and units.
use Rattle.std.proofs.Common.{◌≡◌, ℕ, zero, suc, ◌+◌, Bool, true, false, cond, List, [], ◌∷◌, ◌++◌, Option, max, refl, ap, ◌∙◌, subst, arith}
use Rattle.bs_words.specs.External.{External}
use Rattle.bs_words.specs.Fits.{fits, misfit}
use Rattle.bs_words.specs.Memory.{Memory}
use Rattle.bs_words.specs.declared.values.Kind.{Kind}
use Rattle.bs_words.specs.declared.values.Value.{Value}
use Rattle.cmm_tree.specs.Tree.{LabelTree}
use Rattle.cmm_meaning.specs.State.{Doing, Gave, Threw, Inside, Outside, Asked, asked_inside, asked_outside, World, Here, deepened}
use Rattle.cmm_meaning.specs.Evaluation.{OutOfFuel, NotProper, Evaluation, Gives, Exits, Raises, Stops, Surroundings, spend}
use Rattle.cmm_meaning.specs.Alone.{done_inside, done_outside}
use Rattle.meaning_laws.specs.Does.{Does, Jumps, played, after_call}
use Rattle.meaning_laws.specs.Links.{lonely}
use Rattle.meaning_laws.specs.Pace.{beats, beats_behind_call, beats_behind_external, beats_behind_unit}
use Rattle.cmm_meaning.specs.Run.{nobody}
use Rattle.mach_ir.specs.declared.mach.Mach.{Mach}
use Rattle.mach_ir.specs.Runs.{ActivationSetting, Step, Continues, Finishes, IsStuck, kept_of, Tally, RunProgress, Running, Asking, Ended, paid, came_back, handed, run_onward, units_of}
use Rattle.mach_ir.specs.Meaning.{State}
use Rattle.selection_rules.specs.Bounded.{BoundedDoing, BoundedDoings, BoundedState, BoundedStep}
use Rattle.selection_rules.specs.Kept.{run_of_selected}
use Rattle.selection_rules.specs.Kept as kept
use Rattle.selection_rules.specs.Selected.{IsTallyOf, MeetsEvaluation, returned, threw, running, asking, improper, left_by_exit}
use Rattle.selection_rules.specs.Follow.{RaisesVal, FollowsText, walks, pays, gives, raises, jumps, raises_out, jumps_wrong, deepens, calls, replaces, calls_out, exits, fails, spent, no_words}
use Rattle.bs_words.specs.declared.types.Ret.{Ret}
use Rattle.bs_words.specs.declared.types.Ret.TheVariants as ret
use Rattle.bs_words.specs.declared.types.Ty.TheVariants as ty
use Rattle.cmm_meaning.specs.Evaluation as eval

pub same_units : {u n : ℕ} {e : Evaluation} {r : RunProgress State} → u ≡ n → MeetsEvaluation u e r → MeetsEvaluation n e r
same_units e (returned a b) = returned a (b ∙ e)
same_units e (threw a b) = threw a (b ∙ e)
same_units e (running a b same) = running a (b ∙ e) same
same_units e (asking a b) = asking a (b ∙ e)
same_units e improper = improper
same_units e left_by_exit = left_by_exit

pub kept_bounded : (kept : Ret) (d : Doing) → BoundedDoing d → BoundedDoing (kept_of kept d)
kept_bounded ret.Unit (Gave v memory) b = (tt, b.1)
kept_bounded ret.Unit (Threw v memory) b = b
kept_bounded (ret.Comp t) d b = b

-- a machine whose steps leave words
pub record StaysBounded (c : ActivationSetting) (m : Mach) : Type 0 where
  pub step : (s : State) → BoundedState s → BoundedStep (kept.lossless_step c m s)

module _ (c : ActivationSetting) (m : Mach) (stays : StaysBounded c m) where
  abbrev s : Surroundings
  s = lonely c.setting.end c.setting.symbol c.setting.parameters

  -- some run from this step meets what is played
  pub record Played (d : Does) (w : World) (x : Step State) (t : Tally) : Type 0 where
    pub steps : ℕ
    pub meets : MeetsEvaluation (t.units + beats s d w) (played s d w) (run_onward (run_of_selected c m steps) x t)

  abbrev Plays : Does → Step State → Type 0
  Plays d x = BoundedStep x → (w : World) (t : Tally) → IsTallyOf t w → BoundedDoings t.doings → Played d w x t

  abbrev IsHalts : Step State → Type 0
  IsHalts IsStuck = Unit {0}
  IsHalts _ = ⊥

  -- what a halted machine follows is improper
  wrong : {d : Does} {x : Step State} → FollowsText c m d x → IsHalts x → (w : World) (u : ℕ) (r : RunProgress State) → MeetsEvaluation u (played s d w) r
  wrong (walks f) h w u r = absurd h
  wrong (pays same f) h w u r = absurd h
  wrong gives h w u r = absurd h
  wrong raises h w u r = absurd h
  wrong (jumps f) h w u r = absurd h
  wrong (raises_out f) h w u r = absurd h
  wrong (jumps_wrong f) h w u r = wrong f tt w u r
  wrong (deepens f) h w u r = absurd h
  wrong (calls f) h w u r = absurd h
  wrong (replaces f) h w u r = absurd h
  wrong (calls_out f g) h w u r = absurd h
  wrong exits h w u r = left_by_exit
  wrong fails h w u r = improper
  wrong (spent same) h w u r = absurd h
  wrong (no_words f) h w u r = absurd h

  pays_on : (n : ℕ) (rest : Does) (w : World) (x : State) (t : Tally) → x.around.memory ≡ w.memory → IsTallyOf t w → ((v : World) → IsTallyOf t v → Played rest v (Continues x) t) →
      (k : ℕ) × MeetsEvaluation (t.units + beats_behind_unit n w (λ v. beats s rest v)) (spend n w (λ v. played s rest v)) (run_onward (run_of_selected c m k) (Continues x) t)
  pays_on zero rest w x t same a on = (0, running a (omega arith) same)
  pays_on (suc n) rest w x t same a on =
      let p = on (record w { left = n }) (record { asked = a.asked; doings = a.doings; need = a.need }) in (p.steps, p.meets)

  -- after a call of a function
  called : (ds : List Doing) (call : Asked) (go : Doing → Does) (next : Doing → Step State) → BoundedDoings ds → ((d : Doing) → BoundedDoing d → BoundedStep (next d)) → (w : World) (t : Tally) → IsTallyOf t w → (f : ℕ) → call.callee ≡ Inside f →
      ((d : Doing) → RaisesVal c d → Plays (go d) (next d)) →
      (k : ℕ) × MeetsEvaluation (t.units + beats_behind_call (λ d v. beats s (go d) v) (done_inside c.setting.end call ds w))
      (after_call (λ d v. played s (go d) v) (done_inside c.setting.end call ds w))
      (handed (λ d y. run_onward (run_of_selected c m k) (next d) y) call ds t)
  called [] call go next z b w t a f is on = (0, asking a (omega arith))
  called (Gave v memory ∷ ds) call go next z b w t a f is on =
      let after : World = record w { memory = memory; asked = w.asked ++ call ∷ []; doings = ds } in
      let y : Tally = came_back call ds t in
      let p = on (Gave v memory) tt (b (Gave v memory) z.0) after y (record { asked = ap (λ xs. xs ++ call ∷ []) a.asked; doings = refl; need = a.need }) z.1 in
      let one : y.units ≡ suc t.units = ap (λ x. units_of x t.units) is in
      (p.steps, same_units (omega (arith, one)) p.meets)
  called (Threw v memory ∷ ds) call go next z b w t a f is on =
      let after : World = record w { memory = memory; asked = w.asked ++ call ∷ []; doings = ds } in
      let y : Tally = came_back call ds t in
      let one : y.units ≡ suc t.units = ap (λ x. units_of x t.units) is in
      by y (record { asked = ap (λ xs. xs ++ call ∷ []) a.asked; doings = refl; need = a.need }) z.1 one (fits c.setting.end ty.Val v) refl
    where
      after : World
      after = record w { memory = memory; asked = w.asked ++ call ∷ []; doings = ds }

      by : (y : Tally) → IsTallyOf y after → BoundedDoings y.doings → y.units ≡ suc t.units → (b : Bool) → fits c.setting.end ty.Val v ≡ b →
          (k : ℕ) × MeetsEvaluation (t.units + beats_behind_call (λ d v. beats s (go d) v) (cond b (Raises v nobody after) (Stops (NotProper (misfit ty.Val)) after)))
          (after_call (λ d v. played s (go d) v) (cond b (Raises v nobody after) (Stops (NotProper (misfit ty.Val)) after)))
          (run_onward (run_of_selected c m k) (next (Threw v memory)) y)
      by y alike ds' one false e = (0, improper)
      by y alike ds' one true e = let p = on (Threw v memory) e (b (Threw v memory) z.0) after y alike ds' in (p.steps, same_units (omega (arith, one)) p.meets)

  -- after an external call
  called_out : (ds : List Doing) (call : Asked) (go : Doing → Does) (next : Doing → Step State) → BoundedDoings ds → ((d : Doing) → BoundedDoing d → BoundedStep (next d)) → (w : World) (t : Tally) → IsTallyOf t w →
      (row : External) (frame : Bool) → call.callee ≡ Outside row frame →
      ((v : Option Value) (after : Memory) → Plays (go (Gave v w.memory)) (next (Gave v after))) →
      (frame ≡ true → (v : Value) (after : Memory) → fits c.setting.end ty.Val v ≡ true → Plays (Jumps (go (Threw v w.memory))) (next (Threw v after))) →
      (k : ℕ) × MeetsEvaluation (t.units + beats_behind_external (λ d v. beats s (go d) v) (done_outside c.setting.end frame call ds w))
      (after_call (λ d v. played s (go d) v) (done_outside c.setting.end frame call ds w))
      (handed (λ d y. run_onward (run_of_selected c m k) (next d) y) call ds t)
  called_out [] call go next z b w t a row frame is on thrown = (0, asking a (omega arith))
  called_out (Gave v memory ∷ ds) call go next z b w t a row frame is on thrown =
      let after : World = record w { asked = w.asked ++ call ∷ []; doings = ds } in
      let y : Tally = came_back call ds t in
      let p = on v memory (b (Gave v memory) z.0) after y (record { asked = ap (λ xs. xs ++ call ∷ []) a.asked; doings = refl; need = a.need }) z.1 in
      let one : y.units ≡ t.units = ap (λ x. units_of x t.units) is in
      (p.steps, same_units (ap (λ n. n + beats s (go (Gave v w.memory)) after) one) p.meets)
  called_out (Threw v memory ∷ ds) call go next z b w t a row false is on thrown = (0, improper)
  called_out (Threw v memory ∷ ds) call go next z b w t a row true is on thrown =
      let y : Tally = came_back call ds t in
      let one : y.units ≡ t.units = ap (λ x. units_of x t.units) is in
      by y (record { asked = ap (λ xs. xs ++ call ∷ []) a.asked; doings = refl; need = a.need }) z.1 one (fits c.setting.end ty.Val v) refl
    where
      after : World
      after = record w { asked = w.asked ++ call ∷ []; doings = ds }

      by : (y : Tally) → IsTallyOf y after → BoundedDoings y.doings → y.units ≡ t.units → (b : Bool) → fits c.setting.end ty.Val v ≡ b →
          (k : ℕ) × MeetsEvaluation (t.units + beats_behind_external (λ d v. beats s (go d) v) (cond b (Raises v nobody after) (Stops (NotProper (misfit ty.Val)) after)))
          (after_call (λ d v. played s (go d) v) (cond b (Raises v nobody after) (Stops (NotProper (misfit ty.Val)) after)))
          (run_onward (run_of_selected c m k) (next (Threw v memory)) y)
      by y alike ds' one false e = (0, improper)
      by y alike ds' one true e = let p = thrown refl v memory e (b (Threw v memory) z.0) after y alike ds' in (p.steps, same_units (ap (λ n. n + suc (beats s (go (Threw v w.memory)) after)) one) p.meets)

  pub plays : {d : Does} {x : Step State} → FollowsText c m d x → Plays d x
  plays (walks {s = x} f) b w t a ds = let p = plays f (stays.step x b) w t a ds in record { steps = suc p.steps; meets = p.meets }
  plays (pays {memory = memory} {rest = rest} {s = x} same f) b w t a ds =
      let p = pays_on w.left rest (record w { memory = memory }) x t same (record { asked = a.asked; doings = a.doings; need = a.need }) (λ v q. plays f b v t q ds) in
      record { steps = p.0; meets = p.1 }
  plays (gives {v = v} {memory = memory}) b w t a ds =
      record { steps = 0; meets = returned (record { asked = a.asked; doings = a.doings; need = a.need }) (omega arith) }
  plays (raises {v = v} {memory = memory}) b w t a ds =
      record { steps = 0; meets = threw (record { asked = a.asked; doings = a.doings; need = a.need }) (omega arith) }
  plays (jumps {rest = rest} f) b w t a ds =
      let p = plays f b w (paid t) (record { asked = a.asked; doings = a.doings; need = a.need }) ds in
      let e : suc t.units + beats s rest w ≡ t.units + suc (beats s rest w) = omega arith in
      record { steps = p.steps; meets = same_units e p.meets }
  plays (raises_out {rest = rest} f) b w t a ds =
      let p = plays f b w (paid t) (record { asked = a.asked; doings = a.doings; need = a.need }) ds in
      let e : suc t.units + beats s rest w ≡ t.units + suc (beats s rest w) = omega arith in
      record { steps = p.steps; meets = same_units e p.meets }
  plays (jumps_wrong {rest = rest} {s = x} f) b w t a ds =
      record { steps = 0; meets = wrong f tt w (t.units + suc (beats s rest w)) (run_onward (run_of_selected c m 0) x t) }
  plays (deepens {bytes = bytes} {rest = rest} {s = x} f) b w t a ds =
      let y : Tally = record t { need = max t.need bytes } in
      let p = plays f b (deepened bytes w) y (record { asked = a.asked; doings = a.doings; need = ap (λ n. max n bytes) a.need }) ds in
      record { steps = p.steps; meets = p.meets }
  plays (calls {call = call} {memory = memory} {go = go} {next = next} on) b w t a ds =
      let asks = asked_inside call memory in
      let p = called t.doings asks go next ds b.1 (record w { memory = memory }) t (record { asked = a.asked; doings = a.doings; need = a.need }) call.function refl (λ d z. plays (on d z)) in
      record {
        steps = p.0;
        meets = subst (λ ds. MeetsEvaluation (t.units + beats_behind_call (λ d v. beats s (go d) v) (done_inside c.setting.end asks ds (record w { memory = memory })))
            (after_call (λ d v. played s (go d) v) (done_inside c.setting.end asks ds (record w { memory = memory })))
            (handed (λ d y. run_onward (run_of_selected c m p.0) (next d) y) asks t.doings t)) a.doings p.1;
      }
  plays (replaces {call = call} {memory = memory} {go = go} {kept = kept} on) b w t a ds =
      let asks = asked_inside call memory in
      let next : Doing → Step State = λ d. Finishes (kept_of kept d) in
      let p = called t.doings asks go next ds (λ d q. kept_bounded kept d q) (record w { memory = memory }) t (record { asked = a.asked; doings = a.doings; need = a.need }) call.function refl (λ d z. plays (on d z)) in
      record {
        steps = p.0;
        meets = subst (λ ds. MeetsEvaluation (t.units + beats_behind_call (λ d v. beats s (go d) v) (done_inside c.setting.end asks ds (record w { memory = memory })))
            (after_call (λ d v. played s (go d) v) (done_inside c.setting.end asks ds (record w { memory = memory })))
            (handed (λ d y. run_onward (run_of_selected c m p.0) (next d) y) asks t.doings t)) a.doings p.1;
      }
  plays (calls_out {row = row} {frame = frame} {arguments = vs} {memory = memory} {go = go} {next = next} on thrown) b w t a ds =
      let asks = asked_outside row frame vs memory in
      let p = called_out t.doings asks go next ds b.1 (record w { memory = memory }) t (record { asked = a.asked; doings = a.doings; need = a.need }) row frame refl
      (λ v after. plays (on v after)) (λ e v after z. plays (thrown e v after z)) in
      record {
        steps = p.0;
        meets = subst (λ ds. MeetsEvaluation (t.units + beats_behind_external (λ d v. beats s (go d) v) (done_outside c.setting.end frame asks ds (record w { memory = memory })))
            (after_call (λ d v. played s (go d) v) (done_outside c.setting.end frame asks ds (record w { memory = memory })))
            (handed (λ d y. run_onward (run_of_selected c m p.0) (next d) y) asks t.doings t)) a.doings p.1;
      }
  plays exits b w t a ds = record { steps = 0; meets = left_by_exit }
  plays fails b w t a ds = record { steps = 0; meets = improper }
  plays (spent {memory = memory} same) b w t a ds =
      record { steps = 0; meets = running (record { asked = a.asked; doings = a.doings; need = a.need }) (omega arith) same }
  plays (no_words f) b w t a ds = absurd (f b)
