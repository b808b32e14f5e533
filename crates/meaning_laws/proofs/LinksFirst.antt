-- The link of a function that pays a unit first: each call that it makes begins with fewer units than it had.
use Rattle.std.proofs.Common.{ℕ, ◌+◌, ◌≤◌, [], refl, arith}
use Rattle.cmm_meaning.specs.State.{World, deepened}
use Rattle.cmm_meaning.specs.Evaluation.{Evaluation, Surroundings}
use Rattle.cmm_meaning.specs.Alone.{lone_world}
use Rattle.bs_words.specs.declared.values.Kind.{Kind}
use Rattle.meaning_laws.specs.Does.{Does, Pays, Deepens, Fails, played}
use Rattle.bs_words.specs.Memory.{Memory}
use Rattle.cmm_meaning.specs.Extends.{Extends}
use Rattle.meaning_laws.proofs.Units.{in_file}
use Rattle.meaning_laws.proofs.Extends.{extends_same, extends_trans}
use Rattle.meaning_laws.specs.Fitting.{Activation, Lawful, CallsFitAndGrow}
use Rattle.meaning_laws.specs.Fitting as fitting
use Rattle.meaning_laws.specs.Links.{Linked, lonely, improper}
use Rattle.meaning_laws.proofs.LinksBeside.{Beside, at_end, paid, deeper, beside, played_alone}

-- It pays a unit before anything else, as each function does that does anything.
pub data PaysFirst : Does → Type 0 where
  pays : {memory : Memory} {rest : Does} → PaysFirst (Pays memory rest)
  deepens : {bytes : ℕ} {rest : Does} → PaysFirst rest → PaysFirst (Deepens bytes rest)
  fails : {memory : Memory} {kind : Kind} → PaysFirst (Fails memory kind)

module _ (s : Surroundings) where
  beside_first : CallsFitAndGrow s → (bound : ℕ) (a : Activation) {before : Memory} {d : Does} → PaysFirst d → Lawful (in_file s a) before d → (w u : World) → w.left ≤ bound →
      u.stack_need ≤ w.stack_need → Extends w.memory before →
      Beside s bound (played_alone s d u) w u (played s d w)
  beside_first r bound a pays (fitting.pays {memory = memory} {rest = rest} grown more) w u less need le =
      paid s bound w.left memory (λ v. played s rest v) (λ v. played (lonely s.end s.symbol s.parameters) rest v) w u refl need (extends_trans le grown)
      (λ m e. beside s r bound a more (record w { left = m; memory = memory }) (record u { memory = memory }) (omega arith) need (extends_same memory))
  beside_first r bound a (deepens first) (fitting.deepens {bytes = bytes} {rest = rest} more) w u less need le =
      deeper s bound (played_alone s (Deepens bytes rest) u) w u bytes _
      (beside_first r bound a first more (deepened bytes w) (deepened bytes u) less (omega arith) le)
  beside_first r bound a fails (fitting.fails {memory = memory} {kind = kind} grown) w u less need le =
      at_end s bound (played_alone s (Fails memory kind) u) w u memory _ _ refl refl need (extends_trans le grown) improper

  -- the link, from a run alone that is just beginning
  from_beginning : (bound : ℕ) (d : Does) (w : World) (whole : Evaluation) →
      Beside s bound (played_alone s d (lone_world w.memory [] 0)) w (lone_world w.memory [] 0) whole →
      Linked s bound (λ doings own. played (lonely s.end s.symbol s.parameters) d (lone_world w.memory doings own)) w whole
  from_beginning bound d w whole b =
      record {
        calls = b.calls;
        last = b.last;
        called = b.called;
        own = b.own;
        units = b.units;
        run = b.run;
        is = b.is;
        asked = b.asked;
        taken = b.taken;
        left = b.left;
        memory = b.memory;
        need = b.need;
        ends = b.ends;
      }

  -- The run of whatever a function does is linked with its run alone.
  pub played_linked : CallsFitAndGrow s → (a : Activation) (d : Does) (w : World) → Lawful (in_file s a) w.memory d →
      Linked s (w.left + 1) (λ doings own. played (lonely s.end s.symbol s.parameters) d (lone_world w.memory doings own)) w (played s d w)
  played_linked r a d w o =
      from_beginning (w.left + 1) d w _
      (beside s r (w.left + 1) a o w (lone_world w.memory [] 0) (omega arith) (omega arith) (extends_same w.memory))

  -- Where it pays a unit first, each of its calls begins with fewer units than it had.
  pub played_first_linked : CallsFitAndGrow s → (a : Activation) (d : Does) (w : World) → PaysFirst d → Lawful (in_file s a) w.memory d →
      Linked s w.left (λ doings own. played (lonely s.end s.symbol s.parameters) d (lone_world w.memory doings own)) w (played s d w)
  played_first_linked r a d w first o =
      from_beginning w.left d w _ (beside_first r w.left a first o w (lone_world w.memory [] 0) (omega arith) (omega arith) (extends_same w.memory))
