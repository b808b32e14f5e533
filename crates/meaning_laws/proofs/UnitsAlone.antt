-- What more units change where one function is evaluated alone.
use Rattle.std.proofs.Common.{◌≡◌, ℕ, zero, suc, ◌+◌, Bool, true, false, List, [], ◌∷◌, ◌++◌, Option, cond, refl, ap, sym, subst, ◌∙◌, append_assoc, arith}
use Rattle.std.proofs.lemmas.List.{append-nil}
use Rattle.bs_words.specs.Fits.{fits, misfit}
use Rattle.bs_words.specs.declared.types.Comp.{Comp}
use Rattle.bs_words.specs.declared.types.Ty.TheVariants as ty
use Rattle.bs_words.specs.declared.values.Kind.TheVariants.{BadCall}
use Rattle.bs_words.specs.declared.values.Value.{Value}
use Rattle.cmm_meaning.specs.State.{Doing, Gave, Threw, Asked, asked_inside, asked_outside, World, deepened}
use Rattle.cmm_meaning.specs.Evaluation.{OutOfFuel, Asking, NotProper, Evaluation, Gives, Exits, Raises, Stops, spend}
use Rattle.cmm_meaning.specs.Run.{nobody}
use Rattle.cmm_meaning.specs.Alone.{done_inside, done_outside, lone_world, alone}
use Rattle.meaning_laws.specs.Does.{Does, Ends, Pays, Deepens, Jumps, Calls, CallsOut, Fails, Spent, Giving, Exiting, Raising, after_call, played}
use Rattle.meaning_laws.specs.Units.{with_more, world_of, in_world, OnwardAlone, ContinuesAlone, ends_alike, goes_on}
use Rattle.meaning_laws.specs.Links.{lonely}
use Rattle.meaning_laws.specs.Interaction.{function_does}
use Rattle.meaning_laws.proofs.AgreementRuns.{alone_plays}
use Rattle.cmm_tree.specs.Tree.{FunctionTree}
use Rattle.bs_words.specs.Memory.{Memory}

pub same_asked : (w : World) → OnwardAlone w w
same_asked w = record { asked = record { further = []; is = sym (append-nil w.asked) }; stack = omega arith }

asked_trans : {a b c : World} → OnwardAlone a b → OnwardAlone b c → OnwardAlone a c
asked_trans {a} p q =
    record {
      asked = record {
        further = p.asked.further ++ q.asked.further;
        is = q.asked.is ∙ ap (λ l. l ++ q.asked.further) p.asked.is ∙ append_assoc a.asked p.asked.further q.asked.further;
      };
      stack = omega (arith, p.stack, q.stack);
    }

-- from a world that differs in other things only
pub asked_from : (w v : World) {z : World} → v.asked ≡ w.asked → v.stack_need ≡ w.stack_need → OnwardAlone v z → OnwardAlone w z
asked_from w v asked stack p =
    record {
      asked = record { further = p.asked.further; is = p.asked.is ∙ ap (λ l. l ++ p.asked.further) asked };
      stack = omega (arith, p.stack, stack);
    }

inside_on : (end : ℕ) (call : Asked) (doings : List Doing) (w : World) → OnwardAlone w (world_of (done_inside end call doings w))
inside_on end call [] w = same_asked w
inside_on end call (Gave v memory ∷ doings) w = record { asked = record { further = call ∷ []; is = refl }; stack = omega arith }
inside_on end call (Threw v memory ∷ doings) w = by (fits end ty.Val v)
  where
    by : (fit : Bool) →
        let after : World = record w { memory = memory; asked = w.asked ++ call ∷ []; doings = doings } in
        OnwardAlone w (world_of (cond fit (Raises v nobody after) (Stops (NotProper (misfit ty.Val)) after)))
    by true = record { asked = record { further = call ∷ []; is = refl }; stack = omega arith }
    by false = record { asked = record { further = call ∷ []; is = refl }; stack = omega arith }

outside_on : (end : ℕ) (frame : Bool) (call : Asked) (doings : List Doing) (w : World) → OnwardAlone w (world_of (done_outside end frame call doings w))
outside_on end frame call [] w = same_asked w
outside_on end frame call (Gave v memory ∷ doings) w = record { asked = record { further = call ∷ []; is = refl }; stack = omega arith }
outside_on end true call (Threw v memory ∷ doings) w = by (fits end ty.Val v)
  where
    by : (fit : Bool) →
        let after : World = record w { asked = w.asked ++ call ∷ []; doings = doings } in
        OnwardAlone w (world_of (cond fit (Raises v nobody after) (Stops (NotProper (misfit ty.Val)) after)))
    by true = record { asked = record { further = call ∷ []; is = refl }; stack = omega arith }
    by false = record { asked = record { further = call ∷ []; is = refl }; stack = omega arith }
outside_on end false call (Threw v memory ∷ doings) w = same_asked w

on_spend : (n : ℕ) (w : World) (go : World → Evaluation) → ((v : World) → OnwardAlone v (world_of (go v))) → OnwardAlone w (world_of (spend n w go))
on_spend zero w go on = same_asked w
on_spend (suc n) w go on = asked_from w (record w { left = n }) refl refl (on (record w { left = n }))

pub on_after : (go : Doing → World → Evaluation) → ((d : Doing) (v : World) → OnwardAlone v (world_of (go d v))) → (w : World) (e : Evaluation) →
    OnwardAlone w (world_of e) → OnwardAlone w (world_of (after_call go e))
on_after go on w (Gives v h u) p = asked_trans p (on (Gave v u.memory) u)
on_after go on w (Exits label values h u) p = p
on_after go on w (Raises v h u) p = asked_trans p (on (Threw v u.memory) u)
on_after go on w (Stops why u) p = p

inside_continues : (end k : ℕ) (call : Asked) (doings : List Doing) (w : World) →
    ContinuesAlone k (done_inside end call doings w) (done_inside end call doings (with_more k w))
inside_continues end k call [] w = ends_alike (Stops (Asking call) w)
inside_continues end k call (Gave v memory ∷ doings) w = ends_alike (done_inside end call (Gave v memory ∷ doings) w)
inside_continues end k call (Threw v memory ∷ doings) w = by (fits end ty.Val v)
  where
    by : (fit : Bool) →
        let after : World = record w { memory = memory; asked = w.asked ++ call ∷ []; doings = doings } in
        ContinuesAlone k (cond fit (Raises v nobody after) (Stops (NotProper (misfit ty.Val)) after))
        (cond fit (Raises v nobody (with_more k after)) (Stops (NotProper (misfit ty.Val)) (with_more k after)))
    by true = ends_alike (Raises v nobody (record w { memory = memory; asked = w.asked ++ call ∷ []; doings = doings }))
    by false = ends_alike (Stops (NotProper (misfit ty.Val)) (record w { memory = memory; asked = w.asked ++ call ∷ []; doings = doings }))

outside_alone_continues : (end k : ℕ) (frame : Bool) (call : Asked) (doings : List Doing) (w : World) →
    ContinuesAlone k (done_outside end frame call doings w) (done_outside end frame call doings (with_more k w))
outside_alone_continues end k frame call [] w = ends_alike (Stops (Asking call) w)
outside_alone_continues end k frame call (Gave v memory ∷ doings) w = ends_alike (done_outside end frame call (Gave v memory ∷ doings) w)
outside_alone_continues end k true call (Threw v memory ∷ doings) w = by (fits end ty.Val v)
  where
    by : (fit : Bool) →
        let after : World = record w { asked = w.asked ++ call ∷ []; doings = doings } in
        ContinuesAlone k (cond fit (Raises v nobody after) (Stops (NotProper (misfit ty.Val)) after))
        (cond fit (Raises v nobody (with_more k after)) (Stops (NotProper (misfit ty.Val)) (with_more k after)))
    by true = ends_alike (Raises v nobody (record w { asked = w.asked ++ call ∷ []; doings = doings }))
    by false = ends_alike (Stops (NotProper (misfit ty.Val)) (record w { asked = w.asked ++ call ∷ []; doings = doings }))
outside_alone_continues end k false call (Threw v memory ∷ doings) w = ends_alike (Stops (NotProper BadCall) w)

spend_continues : (k n : ℕ) (w : World) (go : World → Evaluation) → ((v : World) → OnwardAlone v (world_of (go v))) →
    ((v : World) → ContinuesAlone k (go v) (go (with_more k v))) →
    ContinuesAlone k (spend n w go) (spend (n + k) (with_more k w) go)
spend_continues k zero w go on same = goes_on (asked_from w (with_more k w) refl refl (on_spend (zero + k) (with_more k w) go on))
spend_continues k (suc n) w go on same =
    let e : suc n + k ≡ suc (n + k) = omega arith in
    subst (λ m. ContinuesAlone k (go (record w { left = n })) (spend m (with_more k w) go)) (sym e) (same (record w { left = n }))

after_continues : (k : ℕ) (go : Doing → World → Evaluation) → ((d : Doing) (v : World) → OnwardAlone v (world_of (go d v))) →
    ((d : Doing) (v : World) → ContinuesAlone k (go d v) (go d (with_more k v))) →
    {e longer : Evaluation} → ContinuesAlone k e longer → ContinuesAlone k (after_call go e) (after_call go longer)
after_continues k go on same (ends_alike e) = by e
  where
    by : (e : Evaluation) → ContinuesAlone k (after_call go e) (after_call go (in_world (with_more k) e))
    by (Gives v h w) = same (Gave v w.memory) w
    by (Exits label values h w) = ends_alike (Stops (NotProper BadCall) w)
    by (Raises v h w) = same (Threw v w.memory) w
    by (Stops why w) = ends_alike (Stops why w)
after_continues k go on same (goes_on {w = w} {e = e} p) = goes_on (on_after go on w e p)

module _ (end : ℕ) (symbol : List ℕ → Option Value) (parameters : List (List Comp)) where
  -- Alone a function only adds to the calls that it asked, and its stack need does not fall.
  pub played_on : (d : Does) (w : World) → OnwardAlone w (world_of (played (lonely end symbol parameters) d w))
  played_on (Ends (Giving v h memory)) w = asked_from w (record w { memory = memory }) refl refl (same_asked (record w { memory = memory }))
  played_on (Ends (Exiting label values h memory)) w = asked_from w (record w { memory = memory }) refl refl (same_asked (record w { memory = memory }))
  played_on (Ends (Raising v h memory)) w = asked_from w (record w { memory = memory }) refl refl (same_asked (record w { memory = memory }))
  played_on (Pays memory rest) w =
      asked_from w (record w { memory = memory }) refl refl
      (on_spend w.left (record w { memory = memory }) (λ v. played (lonely end symbol parameters) rest v) (λ v. played_on rest v))
  played_on (Deepens bytes rest) w =
      let deeper : OnwardAlone w (deepened bytes w) = record { asked = record { further = []; is = sym (append-nil w.asked) }; stack = omega arith } in
      asked_trans deeper (played_on rest (deepened bytes w))
  played_on (Jumps rest) w = played_on rest w
  played_on (Calls call memory go) w =
      let before : World = record w { memory = memory } in
      let asked : Asked = asked_inside call memory in
      asked_from w before refl refl
      (on_after (λ d v. played (lonely end symbol parameters) (go d) v) (λ d v. played_on (go d) v) before (done_inside end asked w.doings before)
      (inside_on end asked w.doings before))
  played_on (CallsOut row frame arguments memory go) w =
      let before : World = record w { memory = memory } in
      let asked : Asked = asked_outside row frame arguments memory in
      asked_from w before refl refl
      (on_after (λ d v. played (lonely end symbol parameters) (go d) v) (λ d v. played_on (go d) v) before (done_outside end frame asked w.doings before)
      (outside_on end frame asked w.doings before))
  played_on (Fails memory kind) w = asked_from w (record w { memory = memory }) refl refl (same_asked (record w { memory = memory }))
  played_on (Spent memory) w = asked_from w (record w { memory = memory }) refl refl (same_asked (record w { memory = memory }))

  -- Alone a function ends alike with k more units, or was out of units and goes on from there.
  pub played_alone_continues : (k : ℕ) (d : Does) (w : World) →
      ContinuesAlone k (played (lonely end symbol parameters) d w) (played (lonely end symbol parameters) d (with_more k w))
  played_alone_continues k (Ends (Giving v h memory)) w = ends_alike (Gives v h (record w { memory = memory }))
  played_alone_continues k (Ends (Exiting label values h memory)) w = ends_alike (Exits label values h (record w { memory = memory }))
  played_alone_continues k (Ends (Raising v h memory)) w = ends_alike (Raises v h (record w { memory = memory }))
  played_alone_continues k (Pays memory rest) w =
      spend_continues k w.left (record w { memory = memory }) (λ v. played (lonely end symbol parameters) rest v) (λ v. played_on rest v) (λ v. played_alone_continues k rest v)
  played_alone_continues k (Deepens bytes rest) w = played_alone_continues k rest (deepened bytes w)
  played_alone_continues k (Jumps rest) w = played_alone_continues k rest w
  played_alone_continues k (Calls call memory go) w =
      after_continues k (λ d v. played (lonely end symbol parameters) (go d) v) (λ d v. played_on (go d) v) (λ d v. played_alone_continues k (go d) v)
      (inside_continues end k (asked_inside call memory) w.doings (record w { memory = memory }))
  played_alone_continues k (CallsOut row frame arguments memory go) w =
      after_continues k (λ d v. played (lonely end symbol parameters) (go d) v) (λ d v. played_on (go d) v) (λ d v. played_alone_continues k (go d) v)
      (outside_alone_continues end k frame (asked_outside row frame arguments memory) w.doings (record w { memory = memory }))
  played_alone_continues k (Fails memory kind) w = ends_alike (Stops (NotProper kind) (record w { memory = memory }))
  played_alone_continues k (Spent memory) w = ends_alike (Stops OutOfFuel (record w { memory = memory }))

-- One function alone ends alike with k more units, or was out of units and goes on from there.
pub alone_continues : (k end : ℕ) (symbol : List ℕ → Option Value) (parameters : List (List Comp)) (frame : ℕ) (f : FunctionTree)
    (arguments : List Value) (below : ℕ) (memory : Memory) (doings : List Doing) (n : ℕ) →
    ContinuesAlone k (alone end symbol parameters frame f arguments below memory doings n)
    (alone end symbol parameters frame f arguments below memory doings (n + k))
alone_continues k end symbol parameters frame f arguments below memory doings n =
    let d : Does = function_does (record { end = end; symbol = symbol; parameters = parameters }) (n + k) frame f arguments below memory in
    let one : played (lonely end symbol parameters) d (lone_world memory doings n) ≡ alone end symbol parameters frame f arguments below memory doings n =
    alone_plays end symbol parameters (n + k) frame f arguments below memory doings n (omega arith) in
    let two : played (lonely end symbol parameters) d (lone_world memory doings (n + k)) ≡ alone end symbol parameters frame f arguments below memory doings (n + k) =
    alone_plays end symbol parameters (n + k) frame f arguments below memory doings (n + k) (omega arith) in
    subst (λ (e : Evaluation). ContinuesAlone k e (alone end symbol parameters frame f arguments below memory doings (n + k))) one
    (subst (λ (e : Evaluation). ContinuesAlone k (played (lonely end symbol parameters) d (lone_world memory doings n)) e) two
    (played_alone_continues end symbol parameters k d (lone_world memory doings n)))
