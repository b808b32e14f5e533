-- The run of a function of a file with more units.
use Rattle.std.proofs.Common.{◌≡◌, ℕ, ◌+◌, ◌≤◌, List, refl, sym, ◌∙◌, arith}
use Rattle.bs_words.specs.declared.values.Kind.{Kind}
use Rattle.cmm_tree.specs.Tree.{FileTree}
use Rattle.cmm_meaning.specs.Layout.{Layout}
use Rattle.cmm_meaning.specs.State.{World}
use Rattle.cmm_meaning.specs.Evaluation.{OutOfFuel, NotProper, NoAnswer, Asking, Evaluation, Gives, Exits, Raises, Stops}
use Rattle.cmm_meaning.specs.Run.{Run, More, Improper, first_world, first_call, finished, cmm_run}
use Rattle.meaning_laws.specs.Units.{with_more, world_of, in_world, IsPrefixOf, Onward, Continues, alike, further, RunsOn, same_run, longer_run, CallsContinue}
use Rattle.meaning_fuel.specs.Whole.{file_surroundings}
use Rattle.meaning_laws.proofs.LinksWhole.{whole_calls_continue}
use Rattle.meaning_laws.proofs.Units.{Begins-same}
use Rattle.meaning_laws.proofs.Extends.{extends_need}

finished_same : (layout : Layout) (k : ℕ) (e : Evaluation) → RunsOn k (finished layout e) (finished layout (in_world (with_more k) e))
finished_same layout k (Gives v h w) = same_run (finished layout (Gives v h w))
finished_same layout k (Exits label values h w) = same_run (finished layout (Exits label values h w))
finished_same layout k (Raises v h w) = same_run (finished layout (Raises v h w))
finished_same layout k (Stops OutOfFuel w) = same_run (finished layout (Stops OutOfFuel w))
finished_same layout k (Stops (NotProper kind) w) = same_run (finished layout (Stops (NotProper kind) w))
finished_same layout k (Stops (NoAnswer call) w) = same_run (finished layout (Stops (NoAnswer call) w))
finished_same layout k (Stops (Asking call) w) = same_run (finished layout (Stops (Asking call) w))

finished_longer : (layout : Layout) (k : ℕ) (w : World) (e : Evaluation) → Onward w (world_of e) →
    RunsOn k (finished layout (Stops OutOfFuel w)) (finished layout e)
finished_longer layout k w (Gives v h u) o = longer_run refl o.calls o.stack (extends_need o.memory)
finished_longer layout k w (Exits label values h u) o = longer_run refl o.calls o.stack (extends_need o.memory)
finished_longer layout k w (Raises v h u) o = longer_run refl o.calls o.stack (extends_need o.memory)
finished_longer layout k w (Stops OutOfFuel u) o = longer_run refl o.calls o.stack (extends_need o.memory)
finished_longer layout k w (Stops (NotProper kind) u) o = longer_run refl o.calls o.stack (extends_need o.memory)
finished_longer layout k w (Stops (NoAnswer call) u) o = longer_run refl o.calls o.stack (extends_need o.memory)
finished_longer layout k w (Stops (Asking call) u) o = longer_run refl o.calls o.stack (extends_need o.memory)

finished_on : (layout : Layout) (k : ℕ) {e longer : Evaluation} → Continues k e longer → RunsOn k (finished layout e) (finished layout longer)
finished_on layout k (alike e) = finished_same layout k e
finished_on layout k (further {w = w} {e = e} o) = finished_longer layout k w e o

module _ (file : FileTree) (layout : Layout) (entry : ℕ) (arguments answers : List ℕ) (n k : ℕ) where
  -- With k more units a run ends alike, or goes on from where it had none left.
  pub runs_on : RunsOn k (cmm_run file layout entry arguments answers n) (cmm_run file layout entry arguments answers (n + k))
  runs_on =
      let calls_continue : CallsContinue (file_surroundings file layout) = whole_calls_continue file layout in
      finished_on layout k (calls_continue.call k (first_call entry arguments) (first_world file answers n))

-- A run that is finished is the same with more units, but for the units left.
pub finished_stays : {k : ℕ} {r longer : Run} → RunsOn k r longer → ¬ (r.outcome ≡ More) → longer ≡ record r { left = r.left + k }
finished_stays (same_run r) finished = refl
finished_stays (longer_run more calls stack heap) finished = absurd (finished more)

-- A run that is improper stays so with more units: one that is proper is proper with fewer.
pub improper_stays : {k : ℕ} {r longer : Run} (kind : Kind) → RunsOn k r longer → r.outcome ≡ Improper kind → longer.outcome ≡ Improper kind
improper_stays kind (same_run r) e = e
improper_stays kind (longer_run more calls stack heap) e = absurd (not_both (sym more ∙ e))
  where
    not_both : More ≡ Improper kind → ⊥
    not_both e = cc

-- The external calls of a run are the first ones of the run with more units, and its needs are no greater.
pub calls_begin : {k : ℕ} {r longer : Run} → RunsOn k r longer → IsPrefixOf r.calls longer.calls
calls_begin (same_run r) = Begins-same r.calls
calls_begin (longer_run more calls stack heap) = calls

pub stack_rises : {k : ℕ} {r longer : Run} → RunsOn k r longer → r.stack_need ≤ longer.stack_need
stack_rises (same_run r) = omega arith
stack_rises (longer_run more calls stack heap) = stack

pub heap_rises : {k : ℕ} {r longer : Run} → RunsOn k r longer → r.heap_need ≤ longer.heap_need
heap_rises (same_run r) = omega arith
heap_rises (longer_run more calls stack heap) = heap
