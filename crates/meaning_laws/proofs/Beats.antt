-- How many units the run of one function spends of its own: at least one for each beat, and at most so many.
use Rattle.std.proofs.Common.{◌≡◌, ℕ, zero, suc, ◌+◌, ◌*◌, ◌≤◌, Bool, true, false, cond, List, [], ◌∷◌, ◌++◌, Option, map, refl, ap, subst, arith}
use Rattle.std.specs.Prelude.{slice_index}
use Rattle.bs_words.specs.External.{External}
use Rattle.bs_words.specs.Fits.{fits, misfit}
use Rattle.bs_words.specs.Memory.{Memory}
use Rattle.bs_words.specs.declared.types.Comp.{Comp}
use Rattle.bs_words.specs.declared.types.Ty.TheVariants as ty
use Rattle.bs_words.specs.declared.values.Value.{Value}
use Rattle.cmm_data.specs.Placement.{data_end, value_of_symbol}
use Rattle.cmm_tree.specs.Tree.{FunctionTree, FileTree, functions, comps_of}
use Rattle.cmm_meaning.specs.Layout.{Layout}
use Rattle.cmm_meaning.specs.State.{Doing, Gave, Threw, Called, Asked, asked_inside, asked_outside, World, deepened}
use Rattle.cmm_meaning.specs.Evaluation.{Stop, OutOfFuel, NotProper, NoAnswer, Asking, Evaluation, Gives, Exits, Raises, Stops, Surroundings, spend}
use Rattle.cmm_meaning.specs.Run.{nobody}
use Rattle.cmm_meaning.specs.Alone.{done_inside, done_outside, lone_world, alone}
use Rattle.meaning_laws.specs.Does.{Giving, Exiting, Raising, Does, after_call, played}
use Rattle.cmm_meaning.specs.Setting.{Setting, setting_of}
use Rattle.meaning_laws.specs.Interaction.{function_does}
use Rattle.meaning_laws.specs.Links.{doing_of, Linked, lonely}
use Rattle.meaning_laws.specs.Pace.{Paced, ends, pays, deepens, jumps, calls, calls_out, fails, spent, beats, beats_behind_call, beats_behind_external, beats_behind_unit, pending_calls}
use Rattle.cmm_tree.specs.Measures.{nodes_in}
use Rattle.meaning_laws.specs.Units.{world_of}
use Rattle.meaning_fuel.specs.Whole.{file_surroundings}
use Rattle.meaning_laws.proofs.AgreementRuns.{alone_plays}
use Rattle.meaning_laws.proofs.Covers.{Earned}
use Rattle.meaning_laws.proofs.Covers as earned
use Rattle.meaning_laws.proofs.Earned.{function_earned}
use Rattle.meaning_laws.proofs.LinksCalls.{function_alone}
use Rattle.meaning_laws.proofs.Pace.{function_paced}
use Rattle.meaning_laws.proofs.Takes.{paced_more}

-- ---- a bound of all functions of a file serves each of them

pub paced_wider : {most left : ℕ} (more : ℕ) {d : Does} → most ≤ more → Paced most left d → Paced more left d
paced_wider more le ends = ends
paced_wider more le (pays p) = pays (paced_wider more le p)
paced_wider more le (deepens p) = deepens (paced_wider more le p)
paced_wider more le (jumps p) = jumps (paced_more more le (paced_wider more le p))
paced_wider more le (calls p) = calls (λ d. paced_more more le (paced_wider more le (p d)))
paced_wider more le (calls_out p q) = calls_out (λ v after. paced_wider more le (p v after)) (λ v after. paced_more more le (paced_wider more le (q v after)))
paced_wider more le fails = fails
paced_wider more le spent = spent

-- ---- units

-- where calls spend nothing
pub record Free (s : Surroundings) : Type 0 where
  pub call : (call : Called) (w : World) → (world_of (s.call call w)).left ≡ w.left
  pub external : (row : External) (frame : Bool) (arguments : List Value) (w : World) →
      (world_of (s.external row frame arguments w)).left ≡ w.left

spent_paid : (n most budget : ℕ) (w : World) (go : World → Evaluation) (count : World → ℕ) → w.left ≡ n →
    ((v : World) → v.left ≤ (world_of (go v)).left + (budget + most * count v)) →
    w.left ≤ (world_of (spend n w go)).left + (suc budget + most * beats_behind_unit n w count)
spent_paid zero most budget w go count e on = omega arith
spent_paid (suc m) most budget w go count e on = let p = on (record w { left = m }) in omega (arith, p, e)

spent_call : (most : ℕ) (w : World) (go : Doing → World → Evaluation) (count : Doing → World → ℕ) (e : Evaluation) →
    (world_of e).left ≡ w.left →
    ((d : Doing) (v : World) → v.left ≤ (world_of (go d v)).left + (most + most * count d v)) →
    w.left ≤ (world_of (after_call go e)).left + most * beats_behind_call count e
spent_call most w go count (Gives v h u) le on = let p = on (Gave v u.memory) u in omega (arith, p, le)
spent_call most w go count (Exits label values h u) le on = omega arith
spent_call most w go count (Raises v h u) le on = let p = on (Threw v u.memory) u in omega (arith, p, le)
spent_call most w go count (Stops why u) le on = omega arith

spent_external : (most budget : ℕ) (w : World) (go : Doing → World → Evaluation) (count : Doing → World → ℕ) (e : Evaluation) →
    (world_of e).left ≡ w.left →
    ((o : Option Value) (after : Memory) (v : World) → v.left ≤ (world_of (go (Gave o after) v)).left + (budget + most * count (Gave o after) v)) →
    ((a : Value) (after : Memory) (v : World) → v.left ≤ (world_of (go (Threw a after) v)).left + (most + most * count (Threw a after) v)) →
    w.left ≤ (world_of (after_call go e)).left + (budget + most * beats_behind_external count e)
spent_external most budget w go count (Gives v h u) le on or = let p = on v u.memory u in omega (arith, p, le)
spent_external most budget w go count (Exits label values h u) le on or = omega arith
spent_external most budget w go count (Raises v h u) le on or = let p = or v u.memory u in omega (arith, p, le)
spent_external most budget w go count (Stops why u) le on or = omega arith

module _ (s : Surroundings) (free : Free s) where
  -- A run spends of its own at most so many units as are left up to the first beat, and so many more for each beat.
  pub played_beats : {most budget : ℕ} {d : Does} → Paced most budget d → (w : World) →
      w.left ≤ (world_of (played s d w)).left + (budget + most * beats s d w)
  played_beats (ends {end = Giving v h memory}) w = omega arith
  played_beats (ends {end = Exiting label values h memory}) w = omega arith
  played_beats (ends {end = Raising v h memory}) w = omega arith
  played_beats {most = most} {budget = suc budget} (pays {memory = memory} {rest = rest} p) w =
      spent_paid w.left most budget (record w { memory = memory }) (λ v. played s rest v) (λ v. beats s rest v) refl (λ v. played_beats p v)
  played_beats (deepens {bytes = bytes} p) w = played_beats p (deepened bytes w)
  played_beats {most = most} (jumps {rest = rest} p) w = let q = played_beats p w in omega (arith, q)
  played_beats {most = most} (calls {call = call} {memory = memory} {go = go} p) w =
      let before : World = record w { memory = memory } in
      let q = spent_call most before (λ d v. played s (go d) v) (λ d v. beats s (go d) v) (s.call call before)
      (free.call call before) (λ d v. played_beats (p d) v) in
      omega (arith, q)
  played_beats {most = most} {budget = budget} (calls_out {row = row} {frame = frame} {arguments = arguments} {memory = memory} {go = go} p q) w =
      let before : World = record w { memory = memory } in
      spent_external most budget before (λ d v. played s (go d) v) (λ d v. beats s (go d) v) (s.external row frame arguments before)
      (free.external row frame arguments before) (λ o after v. played_beats (p o after) v) (λ a after v. played_beats (q a after) v)
  played_beats fails w = omega arith
  played_beats spent w = omega arith

-- ---- each beat is paid, and so is the call that is asked last

one_pending : (why : Stop) (w : World) → pending_calls (Stops why w) ≤ 1
one_pending OutOfFuel w = omega arith
one_pending (NotProper kind) w = omega arith
one_pending (NoAnswer call) w = omega arith
one_pending (Asking call) w = omega arith

paid_unit : (n spare : ℕ) (w : World) (go : World → Evaluation) (count : World → ℕ) → w.left ≡ n →
    ((v : World) → count v + (pending_calls (go v) + (world_of (go v)).left) ≤ v.left + suc spare) →
    beats_behind_unit n w count + (pending_calls (spend n w go) + (world_of (spend n w go)).left) ≤ w.left + spare
paid_unit zero spare w go count e on = omega arith
paid_unit (suc m) spare w go count e on = let p = on (record w { left = m }) in omega (arith, p, e)

paid_call : (spare : ℕ) (w : World) (go : Doing → World → Evaluation) (count : Doing → World → ℕ) (e : Evaluation) →
    (world_of e).left ≡ w.left →
    ((d : Doing) (v : World) → count d v + (pending_calls (go d v) + (world_of (go d v)).left) ≤ v.left + spare) →
    beats_behind_call count e + (pending_calls (after_call go e) + (world_of (after_call go e)).left) ≤ w.left + suc spare
paid_call spare w go count (Gives v h u) same on = let p = on (Gave v u.memory) u in omega (arith, p, same)
paid_call spare w go count (Exits label values h u) same on = omega (arith, same)
paid_call spare w go count (Raises v h u) same on = let p = on (Threw v u.memory) u in omega (arith, p, same)
paid_call spare w go count (Stops why u) same on = let one = one_pending why u in omega (arith, same, one)

paid_external : (spare : ℕ) (w : World) (go : Doing → World → Evaluation) (count : Doing → World → ℕ) (e : Evaluation) →
    (world_of e).left ≡ w.left →
    ((o : Option Value) (after : Memory) (v : World) →
    count (Gave o after) v + (pending_calls (go (Gave o after) v) + (world_of (go (Gave o after) v)).left) ≤ v.left + suc spare) →
    ((a : Value) (after : Memory) (v : World) →
    count (Threw a after) v + (pending_calls (go (Threw a after) v) + (world_of (go (Threw a after) v)).left) ≤ v.left + spare) →
    beats_behind_external count e + (pending_calls (after_call go e) + (world_of (after_call go e)).left) ≤ w.left + suc spare
paid_external spare w go count (Gives v h u) same on or = let p = on v u.memory u in omega (arith, p, same)
paid_external spare w go count (Exits label values h u) same on or = omega (arith, same)
paid_external spare w go count (Raises v h u) same on or = let p = or v u.memory u in omega (arith, p, same)
paid_external spare w go count (Stops why u) same on or = let one = one_pending why u in omega (arith, same, one)

module _ (s : Surroundings) (free : Free s) where
  played_paid : {spare : ℕ} {d : Does} → Earned spare d → (w : World) →
      beats s d w + (pending_calls (played s d w) + (world_of (played s d w)).left) ≤ w.left + spare
  played_paid (earned.ends {end = Giving v h memory}) w = omega arith
  played_paid (earned.ends {end = Exiting label values h memory}) w = omega arith
  played_paid (earned.ends {end = Raising v h memory}) w = omega arith
  played_paid (earned.pays {spare = spare} {memory = memory} {rest = rest} p) w =
      paid_unit w.left spare (record w { memory = memory }) (λ v. played s rest v) (λ v. beats s rest v) refl (λ v. played_paid p v)
  played_paid (earned.deepens {bytes = bytes} p) w = played_paid p (deepened bytes w)
  played_paid (earned.jumps p) w = let q = played_paid p w in omega (arith, q)
  played_paid (earned.calls {spare = spare} {call = call} {memory = memory} {go = go} p) w =
      let before : World = record w { memory = memory } in
      paid_call spare before (λ d v. played s (go d) v) (λ d v. beats s (go d) v) (s.call call before)
      (free.call call before) (λ d v. played_paid (p d) v)
  played_paid (earned.calls_out {spare = spare} {row = row} {frame = frame} {arguments = arguments} {memory = memory} {go = go} p q) w =
      let before : World = record w { memory = memory } in
      paid_external spare before (λ d v. played s (go d) v) (λ d v. beats s (go d) v) (s.external row frame arguments before)
      (free.external row frame arguments before) (λ o after v. played_paid (p o after) v) (λ a after v. played_paid (q a after) v)
  played_paid earned.fails w = omega arith
  played_paid earned.spent w = omega arith

-- ---- alone

inside_free : (end : ℕ) (call : Asked) (doings : List Doing) (w : World) → (world_of (done_inside end call doings w)).left ≡ w.left
inside_free end call [] w = omega arith
inside_free end call (Gave v memory ∷ doings) w = omega arith
inside_free end call (Threw v memory ∷ doings) w = by (fits end ty.Val v)
  where
    by : (fit : Bool) →
        let after : World = record w { memory = memory; asked = w.asked ++ call ∷ []; doings = doings } in
        (world_of (cond fit (Raises v nobody after) (Stops (NotProper (misfit ty.Val)) after))).left ≡ w.left
    by true = omega arith
    by false = omega arith

outside_free : (end : ℕ) (frame : Bool) (call : Asked) (doings : List Doing) (w : World) → (world_of (done_outside end frame call doings w)).left ≡ w.left
outside_free end frame call [] w = omega arith
outside_free end frame call (Gave v memory ∷ doings) w = omega arith
outside_free end true call (Threw v memory ∷ doings) w = by (fits end ty.Val v)
  where
    by : (fit : Bool) →
        let after : World = record w { asked = w.asked ++ call ∷ []; doings = doings } in
        (world_of (cond fit (Raises v nobody after) (Stops (NotProper (misfit ty.Val)) after))).left ≡ w.left
    by true = omega arith
    by false = omega arith
outside_free end false call (Threw v memory ∷ doings) w = omega arith

pub lonely_free : (end : ℕ) (symbol : List ℕ → Option Value) (parameters : List (List Comp)) → Free (lonely end symbol parameters)
lonely_free end symbol parameters =
    record {
      call = λ call w. inside_free end (asked_inside call w.memory) w.doings w;
      external = λ row frame arguments w. outside_free end frame (asked_outside row frame arguments w.memory) w.doings w;
    }

-- One function alone spends at most so many units as its body has nodes up to its first beat, and for each beat so
-- many more; and a bound of all functions of its file serves it.
pub alone_beats : (most end : ℕ) (symbol : List ℕ → Option Value) (parameters : List (List Comp)) (turns frame : ℕ) (f : FunctionTree)
    (arguments : List Value) (below : ℕ) (memory : Memory) (doings : List Doing) (n : ℕ) → nodes_in f.body ≤ most → n ≤ turns →
    let c : Setting = record { end = end; symbol = symbol; parameters = parameters } in
    n ≤ (world_of (alone end symbol parameters frame f arguments below memory doings n)).left
    + most * suc (beats (lonely end symbol parameters) (function_does c turns frame f arguments below memory) (lone_world memory doings n))
alone_beats most end symbol parameters turns frame f arguments below memory doings n small enough =
    let s : Surroundings = lonely end symbol parameters in
    let d : Does = function_does (setting_of s) turns frame f arguments below memory in
    let paced : Paced most most d = paced_more most small (paced_wider most small (function_paced (setting_of s) turns frame f arguments below memory)) in
    let spent = played_beats s (lonely_free end symbol parameters) paced (lone_world memory doings n) in
    subst (λ (e : Evaluation). n ≤ (world_of e).left + most * suc (beats s d (lone_world memory doings n)))
    (alone_plays end symbol parameters turns frame f arguments below memory doings n enough)
    (omega (arith, spent))

-- And it spends at least a unit for each beat, and one for the call that it asks last.
pub alone_paid : (end : ℕ) (symbol : List ℕ → Option Value) (parameters : List (List Comp)) (turns frame : ℕ) (f : FunctionTree)
    (arguments : List Value) (below : ℕ) (memory : Memory) (doings : List Doing) (n : ℕ) → n ≤ turns →
    let c : Setting = record { end = end; symbol = symbol; parameters = parameters } in
    let run : Evaluation = alone end symbol parameters frame f arguments below memory doings n in
    beats (lonely end symbol parameters) (function_does c turns frame f arguments below memory) (lone_world memory doings n)
    + (pending_calls run + (world_of run).left) ≤ n
alone_paid end symbol parameters turns frame f arguments below memory doings n enough =
    let s : Surroundings = lonely end symbol parameters in
    let d : Does = function_does (setting_of s) turns frame f arguments below memory in
    let paid = played_paid s (lonely_free end symbol parameters) (function_earned (setting_of s) turns frame f arguments below memory) (lone_world memory doings n) in
    subst (λ (e : Evaluation). beats s d (lone_world memory doings n) + (pending_calls e + (world_of e).left) ≤ n)
    (alone_plays end symbol parameters turns frame f arguments below memory doings n enough)
    (omega (arith, paid))

-- So it is with the units of a linked run that are the function's own.
pub own_beats : {s : Surroundings} {bound : ℕ} (file : FileTree) (layout : Layout) (call : Called) (tree : FunctionTree) (w : World) {run : Evaluation}
    (l : Linked s bound (function_alone file layout call tree w.memory) w run) (most turns : ℕ) → nodes_in tree.body ≤ most → l.own ≤ turns →
    l.own ≤ l.last.left
    + most * suc (beats (lonely (data_end file) (value_of_symbol file) (map comps_of (functions file)))
    (function_does (setting_of (file_surroundings file layout)) turns (slice_index layout.frames call.function) tree call.arguments call.below w.memory)
    (lone_world w.memory (map doing_of l.calls) l.own))
own_beats file layout call tree w l most turns small enough =
    let spent = alone_beats most (data_end file) (value_of_symbol file) (map comps_of (functions file)) turns (slice_index layout.frames call.function) tree
    call.arguments call.below w.memory (map doing_of l.calls) l.own small enough in
    let left : (world_of (function_alone file layout call tree w.memory (map doing_of l.calls) l.own)).left ≡ (world_of l.run).left =
    ap (λ (e : Evaluation). (world_of e).left) l.is in
    omega (arith, spent, left, l.left)

-- Where the whole run stops in a callee, the function alone asks for it.
pub own_paid : {s : Surroundings} {bound : ℕ} (file : FileTree) (layout : Layout) (call : Called) (tree : FunctionTree) (w : World) {run : Evaluation}
    (l : Linked s bound (function_alone file layout call tree w.memory) w run) (turns : ℕ) → l.own ≤ turns →
    beats (lonely (data_end file) (value_of_symbol file) (map comps_of (functions file)))
    (function_does (setting_of (file_surroundings file layout)) turns (slice_index layout.frames call.function) tree call.arguments call.below w.memory)
    (lone_world w.memory (map doing_of l.calls) l.own) + (pending_calls l.run + l.last.left) ≤ l.own
own_paid file layout call tree w l turns enough =
    let paid = alone_paid (data_end file) (value_of_symbol file) (map comps_of (functions file)) turns (slice_index layout.frames call.function) tree
    call.arguments call.below w.memory (map doing_of l.calls) l.own enough in
    let left : (pending_calls (function_alone file layout call tree w.memory (map doing_of l.calls) l.own)
    + (world_of (function_alone file layout call tree w.memory (map doing_of l.calls) l.own)).left) ≡ (pending_calls l.run + (world_of l.run).left) =
    ap (λ (e : Evaluation). pending_calls e + (world_of e).left) l.is in
    omega (arith, paid, left, l.left)
