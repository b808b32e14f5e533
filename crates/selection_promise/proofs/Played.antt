-- The code of selection plays as the text's function does, and is nowhere stuck.
use Rattle.std.proofs.Common.{◌≡◌, ℕ, suc, ◌+◌, ◌*◌, ◌^◌, ◌<◌, ◌≤◌, List, [], Option, refl, sym, ap, subst, arith}
use Rattle.std.specs.Prelude.{◌≢◌}
use Rattle.bs_fault.specs.Reported.{Faultless}
use Rattle.bs_words.specs.Memory.{Memory, heap_need}
use Rattle.cmm_tree.specs.Measures.{nodes_in}
use Rattle.cmm_tree.specs.Symbols.{DefinedSymbol}
use Rattle.cmm_tree.specs.Tree.{FunctionTree}
use Rattle.cmm_types.specs.Gathered.{function_faults}
use Rattle.walk_tables.specs.AddrLive.{IsLiveIn}
use Rattle.cmm_meaning.specs.Alone.{IsProperEnd}
use Rattle.cmm_meaning.specs.Evaluation.{Evaluation}
use Rattle.cmm_meaning.specs.Extends.{Extends}
use Rattle.meaning_laws.specs.Pace.{pending_calls}
use Rattle.meaning_laws.specs.Units.{world_of}
use Rattle.meaning_laws.proofs.Extends.{extends_need}
use Rattle.mach_ir.specs.Acts.{Around}
use Rattle.mach_ir.specs.Keeps.{Keeps}
use Rattle.mach_ir.specs.Keeps as kept
use Rattle.mach_ir.specs.declared.mach.Mach.{Mach}
use Rattle.mach_ir.specs.Meaning.{State}
use Rattle.mach_ir.specs.Runs.{Tally, RunProgress, Wrong}
use Rattle.selection_rules.specs.Select.{selected, width}
use Rattle.selection_rules.specs.Selected.{IsTallyOf, MeetsEvaluation, returned, threw, running, asking, improper, left_by_exit}
use Rattle.selection_walks.specs.Known.{FunctionFits}
use Rattle.selection_walks.proofs.Keeps.{accepted_keeps, accepted_proper}
use Rattle.selection_promise.specs.Runs.{Beside, EndsAs, PlaysAs, evaluated}
use Rattle.selection_promise.specs.Runs as spec

beside : (f : FunctionTree) (n u : ℕ) (e : Evaluation) (t : Tally) → IsTallyOf t (world_of e) → t.units ≡ u → u + (pending_calls e + (world_of e).left) ≤ n →
    n ≤ (world_of e).left + nodes_in f.body * suc u → Beside f n e t
beside f n u e t a same no_more enough =
    record {
      asked = a.asked;
      doings = a.doings;
      need = a.need;
      no_more = subst (λ k. k + (pending_calls e + (world_of e).left) ≤ n) (sym same) no_more;
      enough = subst (λ k. n ≤ (world_of e).left + nodes_in f.body * suc k) (sym same) enough;
    }

ends_as : (f : FunctionTree) (n u : ℕ) (e : Evaluation) (r : RunProgress State) → IsProperEnd e → u + (pending_calls e + (world_of e).left) ≤ n →
    n ≤ (world_of e).left + nodes_in f.body * suc u → MeetsEvaluation u e r → EndsAs f n e r
ends_as f n u _ _ is no_more enough (returned a same) = spec.returned (beside f n u _ _ a same no_more enough)
ends_as f n u _ _ is no_more enough (threw a same) = spec.threw (beside f n u _ _ a same no_more enough)
ends_as f n u _ _ is no_more enough (running {w = w} {s = s} a same kept) =
    spec.running (beside f n u _ _ a same no_more enough) (let e : heap_need s.around.memory ≡ heap_need w.memory = ap heap_need kept in omega (arith, e))
ends_as f n u _ _ is no_more enough (asking a same) = spec.asking (beside f n u _ _ a same no_more enough)
ends_as f n u _ _ is no_more enough improper = absurd is
ends_as f n u _ _ is no_more enough left_by_exit = absurd is

not_wrong : {f : FunctionTree} {n : ℕ} {e : Evaluation} {r : RunProgress State} → EndsAs f n e r → r ≢ Wrong
not_wrong (spec.returned b) e = cc
not_wrong (spec.threw b) e = cc
not_wrong (spec.running b heap) e = cc
not_wrong (spec.asking b) e = cc

pub plays_as : (defined : List ℕ → Option DefinedSymbol) (f : FunctionTree) → width f.body < 2 ^ 60 → FunctionFits f → Faultless (function_faults defined f) →
    ((b p u : ℕ) → IsLiveIn f b p u → ⊥) → PlaysAs f (selected f)
plays_as defined f narrow fits faultless never c setting arguments memory doings n words fitting =
    let keeps = accepted_keeps c defined f setting.bound_error narrow fits faultless never setting.symbols in
    let k = keeps arguments memory doings n words.given words.cells words.handed fitting in
    record {
      begun = k.begun;
      begins = k.begins;
      comes = λ is.
          let ends = ends_as f n k.units (evaluated c f arguments memory doings n) _ is k.no_more k.enough k.meets in
          record {
            steps = k.steps;
            ends = ends;
            proper = accepted_proper c defined f fits faultless never arguments memory doings k.begun k.begins k.steps (not_wrong ends);
          };
    }

-- fewer blocks need no more heap
trails_need : (x y : Around) → kept.Trails x y → heap_need y.memory ≤ heap_need x.memory
trails_need x y t =
    let bare : Memory → Memory = λ m. record m { statics = []; roots = [] } in
    let e : Extends (bare y.memory) (bare x.memory) = record { further = t.more; blocks = t.blocks; statics = refl; roots = refl } in
    extends_need e

-- what two runs that are alike have come to, where the second has allocated no more
moved : {f : FunctionTree} {n : ℕ} {e : Evaluation} {r q : RunProgress State} → EndsAs f n e r → kept.RunsAlike (kept.SuitRound kept.Trails) r q → EndsAs f n e q
moved (spec.returned b) kept.both_ended = spec.returned b
moved (spec.threw b) kept.both_ended = spec.threw b
moved (spec.running b heap) (kept.both_running {s = s} {u = u} z) = spec.running b (let less = trails_need s.around u.around z in omega (arith, heap, less))
moved (spec.asking b) kept.both_asking = spec.asking b

-- A Mach function that keeps what another does plays as the text's function where the other does.
pub plays_on : (f : FunctionTree) (p q : Mach) → PlaysAs f p → Keeps p q → PlaysAs f q
plays_on f p q plays keeps c setting arguments memory doings n words fitting =
    let k = plays c setting arguments memory doings n words fitting in
    let begun = keeps.does c arguments memory doings k.begun k.begins in
    record {
      begun = begun.state;
      begins = begun.begins;
      comes = λ is.
          let x = k.comes is in
          let follows = begun.follows x.steps x.proper in
          let y = follows.no_more in
          record { steps = y.steps; ends = moved x.ends y.alike; proper = y.proper };
    }
