-- A function that is evaluated alone, where what is handed in is what calls do in the run of a whole file: its memory
-- extends the first one, what it gives fits its result, and what it raises fits val.
use Rattle.std.proofs.Common.{◌≡◌, ℕ, zero, suc, Bool, true, false, cond, List, [], ◌∷◌, ◌++◌, Option, map, refl, sym, subst, ◌∙◌, append_assoc, le_refl}
use Rattle.std.proofs.lemmas.List.{append-nil, append_cancel_left}
use Rattle.bs_words.specs.Fits.{fits, misfit}
use Rattle.bs_words.specs.Memory.{Memory}
use Rattle.bs_words.specs.declared.types.Comp.{Comp}
use Rattle.bs_words.specs.declared.types.Ty.TheVariants as ty
use Rattle.bs_words.specs.declared.values.Value.{Value}
use Rattle.cmm_data.specs.Placement.{data_end, value_of_symbol}
use Rattle.cmm_tree.specs.Tree.{FunctionTree, FileTree, functions, comps_of}
use Rattle.cmm_types.specs.Types.{body_type, result_of}
use Rattle.cmm_meaning.specs.Alone.{done_inside, done_outside, lone_world, alone}
use Rattle.cmm_meaning.specs.Extends.{Extends}
use Rattle.cmm_meaning.specs.Run.{nobody}
use Rattle.cmm_meaning.specs.State.{Doing, Gave, Threw, Asked, asked_inside, asked_outside, World, deepened}
use Rattle.cmm_meaning.specs.Evaluation.{NotProper, Evaluation, Raises, Stops, Surroundings, spend, fit_parameters}
use Rattle.meaning_laws.specs.Does.{Does, after_call, played}
use Rattle.meaning_laws.specs.Fitting.{Activation, Returned, gave, threw, memory_after, Lawful, gives, exits, raises, pays, deepens, jumps, calls, calls_out, fails, spent, gives_fit, exit_fits, raise_fits, stop_fits, raised_fits, given, left_by_exit, stopped}
use Rattle.meaning_laws.specs.Handed.{IsHanded, function_gave, function_threw, outside_gave, outside_threw, AreHanded, none, more, AreHandedSince, EndsLawful}
use Rattle.cmm_meaning.specs.Setting.{Setting}
use Rattle.meaning_laws.specs.Interaction.{function_does}
use Rattle.meaning_laws.specs.Links.{lonely}
use Rattle.meaning_laws.specs.Units.{world_of, IsPrefixOf}
use Rattle.meaning_laws.proofs.AgreementRuns.{alone_plays}
use Rattle.meaning_laws.proofs.Extends.{extends_same, extends_trans}
use Rattle.meaning_laws.proofs.LawfulForms.{function_lawful}
use Rattle.meaning_laws.proofs.LinksWhole.{bound_error_fits}
use Rattle.meaning_laws.proofs.Units.{in_file}
use Rattle.meaning_laws.proofs.UnitsAlone.{played_on}

-- what is handed in is what a call may do
pub handed_returned : {file : FileTree} {call : Asked} {d : Doing} → IsHanded file call d → Returned (data_end file) call.memory d
handed_returned (function_gave callee fit e) = gave e
handed_returned (function_threw fit e) = threw fit e
handed_returned (outside_gave {memory = memory} an) = gave (extends_same memory)
handed_returned (outside_threw {memory = memory} fit) = threw fit (extends_same memory)

returned_extends : {end : ℕ} {before : Memory} {d : Doing} → Returned end before d → Extends before (memory_after d)
returned_extends (gave e) = e
returned_extends (threw fit e) = e

pub ends_before : {a : Activation} {before later : Memory} {run : Evaluation} → Extends before later → EndsLawful a later run → EndsLawful a before run
ends_before e l = record { memory = extends_trans e l.memory; given = l.given; raised = l.raised }

module _ (file : FileTree) where
  -- where a call took a doing, what was handed in for it, and for the calls after it
  record Next (call : Asked) (d : Doing) (asked : List Asked) (doings : List Doing) (run : Evaluation) : Type 0 where
    handed : IsHanded file call d
    since : AreHandedSince file (asked ++ call ∷ []) doings run

  next_by : {call : Asked} {d : Doing} {asked further calls : List Asked} {doings : List Doing} {run : Evaluation} →
      (world_of run).asked ≡ (asked ++ call ∷ []) ++ further → calls ≡ call ∷ further → AreHanded file calls (d ∷ doings) → Next call d asked doings run
  next_by {call} {d} {further = further} {doings = doings} e is (more {call = first} {calls = rest} h l) =
      let head : first ≡ call = cc in
      let tail : rest ≡ further = cc in
      record {
        handed = subst (λ (c : Asked). IsHanded file c d) head h;
        since = record { calls = further; is = e; handed = subst (λ calls. AreHanded file calls doings) tail l };
      }
  next_by e is none = absurd (cc)

  next_call : {call : Asked} {d : Doing} {asked : List Asked} {doings : List Doing} {run : Evaluation} → IsPrefixOf (asked ++ call ∷ []) (world_of run).asked →
      AreHandedSince file asked (d ∷ doings) run → Next call d asked doings run
  next_call {call} {asked = asked} b l =
      let e : asked ++ l.calls ≡ asked ++ (call ∷ b.further) = sym l.is ∙ b.is ∙ append_assoc asked (call ∷ []) b.further in
      next_by b.is (append_cancel_left asked l.calls (call ∷ b.further) e) l.handed

  module _ (symbol : List ℕ → Option Value) (parameters : List (List Comp)) (a : Activation) where
    abbrev s : Surroundings
    s = lonely (data_end file) symbol parameters

    -- whatever a function does with what a call did ends lawfully
    abbrev GoesOn : Memory → (Doing → Does) → Type 0
    GoesOn memory go =
        (d : Doing) (v : World) → Returned (data_end file) memory d → Extends v.memory (memory_after d) → AreHandedSince file v.asked v.doings (played s (go d) v) →
        EndsLawful (in_file s a) v.memory (played s (go d) v)

    -- from the world that a call left
    behind : (call : Asked) (d : Doing) (go : Doing → Does) (w u : World) (doings : List Doing) → u.asked ≡ w.asked ++ call ∷ [] →
        AreHandedSince file w.asked (d ∷ doings) (played s (go (d)) u) → Next call d w.asked doings (played s (go d) u)
    behind call d go w u doings is since =
        let on = played_on (data_end file) symbol parameters (go d) u in
        next_call (subst (λ asked. IsPrefixOf asked (world_of (played s (go d) u)).asked) is on.asked) since

    after_inside : (call : Asked) (go : Doing → Does) → GoesOn call.memory go → (doings : List Doing) (w : World) → Extends w.memory call.memory →
        AreHandedSince file w.asked doings (after_call (λ d v. played s (go d) v) (done_inside (data_end file) call doings (record w { memory = call.memory }))) →
        EndsLawful (in_file s a) w.memory (after_call (λ d v. played s (go d) v) (done_inside (data_end file) call doings (record w { memory = call.memory })))
    after_inside call go on [] w e since = record { memory = e; given = stop_fits; raised = stopped }
    after_inside call go on (Gave v memory ∷ doings) w e since =
        let u : World = record w { memory = memory; asked = w.asked ++ call ∷ []; doings = doings } in
        let n : Next call (Gave v memory) w.asked doings (played s (go (Gave v memory)) u) = behind call (Gave v memory) go w u doings refl since in
        ends_before (extends_trans e (returned_extends (handed_returned n.handed))) (on (Gave v memory) u (handed_returned n.handed) (extends_same memory) n.since)
    after_inside call go on (Threw v memory ∷ doings) w e since = by (fits (data_end file) ty.Val v) since
      where
        u : World
        u = record w { memory = memory; asked = w.asked ++ call ∷ []; doings = doings }

        by : (b : Bool) →
            AreHandedSince file w.asked (Threw v memory ∷ doings) (after_call (λ d v. played s (go d) v) (cond b (Raises v nobody u) (Stops (NotProper (misfit ty.Val)) u))) →
            EndsLawful (in_file s a) w.memory (after_call (λ d v. played s (go d) v) (cond b (Raises v nobody u) (Stops (NotProper (misfit ty.Val)) u)))
        by true since =
            let n : Next call (Threw v memory) w.asked doings (played s (go (Threw v memory)) u) = behind call (Threw v memory) go w u doings refl since in
            ends_before (extends_trans e (returned_extends (handed_returned n.handed))) (on (Threw v memory) u (handed_returned n.handed) (extends_same memory) n.since)
        by false since =
            let n : Next call (Threw v memory) w.asked doings (Stops (NotProper (misfit ty.Val)) u) =
            next_call (record { further = []; is = sym (append-nil (w.asked ++ call ∷ [])) }) since in
            record { memory = extends_trans e (returned_extends (handed_returned n.handed)); given = stop_fits; raised = stopped }

    after_outside : (frame : Bool) (call : Asked) (go : Doing → Does) → GoesOn call.memory go → (doings : List Doing) (w : World) → Extends w.memory call.memory →
        AreHandedSince file w.asked doings (after_call (λ d v. played s (go d) v) (done_outside (data_end file) frame call doings (record w { memory = call.memory }))) →
        EndsLawful (in_file s a) w.memory (after_call (λ d v. played s (go d) v) (done_outside (data_end file) frame call doings (record w { memory = call.memory })))
    after_outside frame call go on [] w e since = record { memory = e; given = stop_fits; raised = stopped }
    after_outside frame call go on (Gave v other ∷ doings) w e since =
        let d : Doing = Gave v call.memory in
        let u : World = record w { memory = call.memory; asked = w.asked ++ call ∷ []; doings = doings } in
        let n : Next call (Gave v other) w.asked doings (played s (go d) u) =
        next_call (played_on (data_end file) symbol parameters (go d) u).asked since in
        ends_before e (on d u (gave (extends_same call.memory)) (extends_same call.memory) n.since)
    after_outside true call go on (Threw v other ∷ doings) w e since = by (fits (data_end file) ty.Val v) refl since
      where
        d : Doing
        d = Threw v call.memory

        u : World
        u = record w { memory = call.memory; asked = w.asked ++ call ∷ []; doings = doings }

        by : (b : Bool) → fits (data_end file) ty.Val v ≡ b →
            AreHandedSince file w.asked (Threw v other ∷ doings) (after_call (λ d v. played s (go d) v) (cond b (Raises v nobody u) (Stops (NotProper (misfit ty.Val)) u))) →
            EndsLawful (in_file s a) w.memory (after_call (λ d v. played s (go d) v) (cond b (Raises v nobody u) (Stops (NotProper (misfit ty.Val)) u)))
        by true fit since =
            let n : Next call (Threw v other) w.asked doings (played s (go d) u) =
            next_call (played_on (data_end file) symbol parameters (go d) u).asked since in
            ends_before e (on d u (threw fit (extends_same call.memory)) (extends_same call.memory) n.since)
        by false fit since = record { memory = e; given = stop_fits; raised = stopped }
    after_outside false call go on (Threw v other ∷ doings) w e since = record { memory = e; given = stop_fits; raised = stopped }

    spend_lawful : (n : ℕ) (w : World) (go : World → Evaluation) →
        ((m : ℕ) → AreHandedSince file w.asked w.doings (go (record w { left = m })) → EndsLawful (in_file s a) w.memory (go (record w { left = m }))) →
        AreHandedSince file w.asked w.doings (spend n w go) → EndsLawful (in_file s a) w.memory (spend n w go)
    spend_lawful zero w go on since = record { memory = extends_same w.memory; given = stop_fits; raised = stopped }
    spend_lawful (suc n) w go on since = on n since

    played_lawful : {before : Memory} {d : Does} → Lawful (in_file s a) before d → (w : World) → Extends w.memory before →
        AreHandedSince file w.asked w.doings (played s d w) → EndsLawful (in_file s a) w.memory (played s d w)
    played_lawful (gives fit e) w le since = record { memory = extends_trans le e; given = gives_fit fit; raised = given }
    played_lawful (exits e) w le since = record { memory = extends_trans le e; given = exit_fits; raised = left_by_exit }
    played_lawful (raises fit e) w le since = record { memory = extends_trans le e; given = raise_fits; raised = raised_fits fit }
    played_lawful (pays {memory = memory} {rest = rest} e then) w le since =
        ends_before (extends_trans le e)
        (spend_lawful w.left (record w { memory = memory }) (λ v. played s rest v)
        (λ m since. played_lawful then (record w { left = m; memory = memory }) (extends_same memory) since) since)
    played_lawful (deepens {bytes = bytes} then) w le since = played_lawful then (deepened bytes w) le since
    played_lawful (jumps then) w le since = played_lawful then w le since
    played_lawful (calls {memory = memory} {call = call} {go = go} e stands tests rest) w le since =
        after_inside (asked_inside call memory) go (λ d v back at since. played_lawful (rest d back) v at since) w.doings w (extends_trans le e) since
    played_lawful (calls_out {memory = memory} {row = row} {frame = frame} {arguments = arguments} {go = go} e rest) w le since =
        after_outside frame (asked_outside row frame arguments memory) go (λ d v back at since. played_lawful (rest d back) v at since) w.doings w
        (extends_trans le e) since
    played_lawful (fails e) w le since = record { memory = extends_trans le e; given = stop_fits; raised = stopped }
    played_lawful (spent e) w le since = record { memory = extends_trans le e; given = stop_fits; raised = stopped }

-- A function of the file alone, on arguments that fit: where what is handed in is what calls do in a whole file it ends
-- lawfully.
pub alone_ends_lawful : (file : FileTree) (frame : ℕ) (f : FunctionTree) (arguments : List Value) (below : ℕ) (memory : Memory) (doings : List Doing) (n : ℕ) →
    fit_parameters (data_end file) (comps_of f) arguments ≡ true →
    let c : Setting = record { end = data_end file; symbol = value_of_symbol file; parameters = map comps_of (functions file) } in
    let run : Evaluation = alone c.end c.symbol c.parameters frame f arguments below memory doings n in
    AreHanded file (world_of run).asked doings →
    EndsLawful (record { setting = c; result = result_of (body_type f); below = below; frame = frame }) memory run
alone_ends_lawful file frame f arguments below memory doings n fit handed =
    let c : Setting = record { end = data_end file; symbol = value_of_symbol file; parameters = map comps_of (functions file) } in
    let a : Activation = record { setting = c; result = result_of (body_type f); below = below; frame = frame } in
    let d : Does = function_does c n frame f arguments below memory in
    let same : played (lonely c.end c.symbol c.parameters) d (lone_world memory doings n) ≡ alone c.end c.symbol c.parameters frame f arguments below memory doings n =
    alone_plays c.end c.symbol c.parameters n frame f arguments below memory doings n (le_refl n) in
    let since : AreHandedSince file [] doings (alone c.end c.symbol c.parameters frame f arguments below memory doings n) = record { calls = _; is = refl; handed = handed } in
    subst (EndsLawful a memory) same
    (played_lawful file c.symbol c.parameters a (function_lawful c n (bound_error_fits file) frame f arguments below memory fit) (lone_world memory doings n) (extends_same memory)
    (subst (AreHandedSince file [] doings) (sym same) since))
