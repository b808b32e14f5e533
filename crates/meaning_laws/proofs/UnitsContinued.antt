-- What is played with more units ends alike, or goes on from where it had none left.
use Rattle.std.proofs.Common.{◌≡◌, ℕ, zero, suc, ◌+◌, sym, subst, arith}
use Rattle.bs_words.specs.Memory.{Memory}
use Rattle.bs_words.specs.declared.values.Kind.TheVariants.{BadCall}
use Rattle.cmm_meaning.specs.Extends.{Extends}
use Rattle.cmm_meaning.specs.State.{Doing, Gave, Threw, World, deepened}
use Rattle.cmm_meaning.specs.Evaluation.{OutOfFuel, NotProper, Evaluation, Gives, Exits, Raises, Stops, Surroundings, spend}
use Rattle.meaning_laws.specs.Does.{Does, after_call, played}
use Rattle.meaning_laws.specs.Fitting.{Activation, Returned, memory_after, gave, threw, Lawful, gives, exits, raises, pays, deepens, jumps, calls, calls_out, fails, spent, RaisedFits, raised_fits, CallsFitAndGrow}
use Rattle.meaning_laws.specs.Units.{with_more, world_of, in_world, Onward, Later, Continues, alike, further, CallsContinue}
use Rattle.meaning_laws.proofs.Units.{Onward-same, Onward-trans, answered_later, answered_fits, in_file, played_later}
use Rattle.meaning_laws.proofs.Extends.{extends_same}

pub onward_left : (n : ℕ) (w : World) {v : World} → Onward w v → Onward w (record v { left = n })
onward_left n w l = record { calls = l.calls; stack = l.stack; memory = l.memory }

from_left : (n : ℕ) (w : World) {v : World} → Onward (record w { left = n }) v → Onward w v
from_left n w l = record { calls = l.calls; stack = l.stack; memory = l.memory }

-- where a unit is paid: with none left before, it goes on
continues_spend : (k n : ℕ) (w : World) (go : World → Evaluation) →
    ((m : ℕ) → Later (record w { left = m }) (world_of (go (record w { left = m })))) →
    ((m : ℕ) → Continues k (go (record w { left = m })) (go (record w { left = m + k }))) →
    Continues k (spend n w go) (spend (n + k) (with_more k w) go)
continues_spend k zero w go on same = further (on_from (zero + k))
  where
    on_from : (m : ℕ) → Onward w (world_of (spend m (with_more k w) go))
    on_from zero = onward_left (w.left + k) w (Onward-same w)
    on_from (suc m) = from_left m w (on m).onward
continues_spend k (suc n) w go on same =
    let e : suc n + k ≡ suc (n + k) = omega arith in
    subst (λ m. Continues k (go (record w { left = n })) (spend m (with_more k w) go)) (sym e) (same n)

module _ (k : ℕ) (s : Surroundings) (calls_fit : CallsFitAndGrow s) (calls_continue : CallsContinue s) (a : Activation) where
  -- where a function goes on with what its callee did
  continues_after : (go : Doing → World → Evaluation) (w : World) →
      ((d : Doing) (v : World) → Returned s.end w.memory d → Extends v.memory (memory_after d) → Later v (world_of (go d v))) →
      ((d : Doing) (v : World) → Returned s.end w.memory d → Extends v.memory (memory_after d) → Continues k (go d v) (go d (with_more k v))) →
      {e longer : Evaluation} → Continues k e longer → Onward w (world_of e) → RaisedFits s.end e → Onward w (world_of longer) →
      RaisedFits s.end longer → Continues k (after_call go e) (after_call go longer)
  continues_after go w on same (alike e) l fit _ _ = by e l fit
    where
      by : (e : Evaluation) → Onward w (world_of e) → RaisedFits s.end e → Continues k (after_call go e) (after_call go (in_world (with_more k) e))
      by (Gives v h u) l fit = same (Gave v u.memory) u (gave l.memory) (extends_same u.memory)
      by (Exits label values h u) l fit = alike (Stops (NotProper BadCall) u)
      by (Raises v h u) l (raised_fits fit) = same (Threw v u.memory) u (threw fit l.memory) (extends_same u.memory)
      by (Stops why u) l fit = alike (Stops why u)
  continues_after go w on same (further {w = z} {e = e} p) _ _ l fit = further (by e p l fit)
    where
      by : (e : Evaluation) → Onward z (world_of e) → Onward w (world_of e) → RaisedFits s.end e → Onward z (world_of (after_call go e))
      by (Gives v h u) p l fit = Onward-trans p (on (Gave v u.memory) u (gave l.memory) (extends_same u.memory)).onward
      by (Exits label values h u) p l fit = p
      by (Raises v h u) p l (raised_fits fit) = Onward-trans p (on (Threw v u.memory) u (threw fit l.memory) (extends_same u.memory)).onward
      by (Stops why u) p l fit = p

  -- With k more units whatever a function does ends alike, or goes on from where it had none left.
  pub played_continues : {before : Memory} {d : Does} → Lawful (in_file s a) before d → (w : World) → Extends w.memory before →
      Continues k (played s d w) (played s d (with_more k w))
  played_continues (gives {memory = memory} {v = v} {h = h} fit grown) w le = alike (Gives v h (record w { memory = memory }))
  played_continues (exits {memory = memory} {label = label} {values = values} {h = h} grown) w le =
      alike (Exits label values h (record w { memory = memory }))
  played_continues (raises {memory = memory} {v = v} {h = h} fit grown) w le = alike (Raises v h (record w { memory = memory }))
  played_continues (pays {memory = memory} {rest = rest} grown more) w le =
      continues_spend k w.left (record w { memory = memory }) (λ v. played s rest v)
      (λ m. played_later s calls_fit a more (record w { left = m; memory = memory }) (extends_same memory))
      (λ m. played_continues more (record w { left = m; memory = memory }) (extends_same memory))
  played_continues (deepens {bytes = bytes} more) w le = played_continues more (deepened bytes w) le
  played_continues (jumps more) w le = played_continues more w le
  played_continues (calls {memory = memory} {call = call} {go = go} grown stands behind more) w le =
      let before : World = record w { memory = memory } in
      let after : World = record w { left = w.left + k; memory = memory } in
      continues_after (λ d v. played s (go d) v) before
      (λ d v back at. played_later s calls_fit a (more d back) v at) (λ d v back at. played_continues (more d back) v at)
      (calls_continue.call k call before)
      (calls_fit.later call before).onward (calls_fit.fit call before)
      (from_left (w.left + k) before (calls_fit.later call after).onward) (calls_fit.fit call after)
  played_continues (calls_out {memory = memory} {row = row} {frame = frame} {arguments = arguments} {go = go} grown more) w le =
      let before : World = record w { memory = memory } in
      let after : World = record w { left = w.left + k; memory = memory } in
      let one = calls_fit.answers row frame arguments before in
      let two = calls_fit.answers row frame arguments after in
      continues_after (λ d v. played s (go d) v) before
      (λ d v back at. played_later s calls_fit a (more d back) v at) (λ d v back at. played_continues (more d back) v at)
      (calls_continue.external k row frame arguments before)
      (answered_later one).onward (answered_fits one)
      (from_left (w.left + k) before (answered_later two).onward) (answered_fits two)
  played_continues (fails {memory = memory} {kind = kind} grown) w le = alike (Stops (NotProper kind) (record w { memory = memory }))
  played_continues (spent {memory = memory} grown) w le = alike (Stops OutOfFuel (record w { memory = memory }))
