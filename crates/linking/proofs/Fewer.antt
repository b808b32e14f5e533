-- One function alone on fewer doings of its calls: it ends alike, or asks the call for which nothing is handed in.
use Rattle.std.proofs.Common.{◌≡◌, ◌≢◌, ℕ, zero, suc, ◌+◌, Bool, true, false, List, [], ◌∷◌, ◌++◌, Option, cond, length, refl, ap, sym, subst, ◌∙◌, append_assoc, append-nil, length-append, arith}
use Rattle.bs_words.specs.Fits.{fits, misfit}
use Rattle.bs_words.specs.Memory.{Memory}
use Rattle.bs_words.specs.declared.types.Comp.{Comp}
use Rattle.bs_words.specs.declared.types.Ty.TheVariants as ty
use Rattle.bs_words.specs.declared.values.Kind.{Kind}
use Rattle.bs_words.specs.declared.values.Kind.TheVariants.{BadCall}
use Rattle.bs_words.specs.declared.values.Value.{Value}
use Rattle.cmm_tree.specs.Tree.{FunctionTree}
use Rattle.cmm_meaning.specs.State.{Doing, Gave, Threw, Asked, asked_inside, asked_outside, World, deepened}
use Rattle.cmm_meaning.specs.Evaluation.{OutOfFuel, Asking, NotProper, Evaluation, Gives, Exits, Raises, Stops, spend}
use Rattle.cmm_meaning.specs.Run.{nobody}
use Rattle.cmm_meaning.specs.Alone.{done_inside, done_outside, lone_world, alone}
use Rattle.meaning_laws.specs.Does.{Does, Ends, Pays, Deepens, Jumps, Calls, CallsOut, Fails, Spent, Giving, Exiting, Raising, after_call, played}
use Rattle.meaning_laws.specs.Interaction.{function_does}
use Rattle.meaning_laws.specs.Links.{lonely}
use Rattle.meaning_laws.specs.Units.{world_of, in_world, IsPrefixOf}
use Rattle.meaning_laws.proofs.AgreementRuns.{alone_plays}
use Rattle.meaning_laws.proofs.UnitsAlone.{played_on}

-- the same world where more is handed in
abbrev pub with_doings : List Doing → World → World
with_doings more w = record w { doings = w.doings ++ more }

pub data Fewer (more : List Doing) : Evaluation → Evaluation → Type 0 where
  same_end : (e : Evaluation) → Fewer more e (in_world (with_doings more) e)
  asks_here : {call : Asked} {w : World} {e : Evaluation} → w.doings ≡ [] → IsPrefixOf (w.asked ++ call ∷ []) (world_of e).asked →
      Fewer more (Stops (Asking call) w) e
  -- what is handed in for it is no such thing
  refuses : {call : Asked} {kind : Kind} {w u : World} → u.doings ≢ [] → Fewer more (Stops (Asking call) w) (Stops (NotProper kind) u)

begins_same : (asked : List Asked) → IsPrefixOf asked asked
begins_same asked = record { further = []; is = sym (append-nil asked) }

begins_trans : {a b c : List Asked} → IsPrefixOf a b → IsPrefixOf b c → IsPrefixOf a c
begins_trans {a} p q =
    record { further = p.further ++ q.further; is = q.is ∙ ap (λ l. l ++ q.further) p.is ∙ append_assoc a p.further q.further }

after_asked : (asked : List Asked) (call : Asked) (go : Doing → World → Evaluation) →
    ((d : Doing) (v : World) → IsPrefixOf v.asked (world_of (go d v)).asked) → (e : Evaluation) →
    IsPrefixOf (asked ++ call ∷ []) (world_of e).asked → IsPrefixOf (asked ++ call ∷ []) (world_of (after_call go e)).asked
after_asked asked call go on (Gives v h w) b = begins_trans b (on (Gave v w.memory) w)
after_asked asked call go on (Exits label values h w) b = b
after_asked asked call go on (Raises v h w) b = begins_trans b (on (Threw v w.memory) w)
after_asked asked call go on (Stops why w) b = b

inside_fewer : (end : ℕ) (more : List Doing) (call : Asked) (doings : List Doing) (w : World) → w.doings ≡ doings →
    Fewer more (done_inside end call doings w) (done_inside end call (doings ++ more) (with_doings more w))
inside_fewer end [] call [] w e = same_end (Stops (Asking call) w)
inside_fewer end (Gave v memory ∷ more) call [] w e = asks_here e (begins_same (w.asked ++ call ∷ []))
inside_fewer end (Threw v memory ∷ more) call [] w e = by (fits end ty.Val v)
  where
    by : (fit : Bool) →
        let after : World = record (with_doings (Threw v memory ∷ more) w) { memory = memory; asked = w.asked ++ call ∷ []; doings = more } in
        Fewer (Threw v memory ∷ more) (Stops (Asking call) w) (cond fit (Raises v nobody after) (Stops (NotProper (misfit ty.Val)) after))
    by true = asks_here e (begins_same (w.asked ++ call ∷ []))
    by false = asks_here e (begins_same (w.asked ++ call ∷ []))
inside_fewer end more call (Gave v memory ∷ doings) w e = same_end (Gives v nobody
    (record w { memory = memory; asked = w.asked ++ call ∷ []; doings = doings }))
inside_fewer end more call (Threw v memory ∷ doings) w e = by (fits end ty.Val v)
  where
    by : (fit : Bool) →
        let after : World = record w { memory = memory; asked = w.asked ++ call ∷ []; doings = doings } in
        Fewer more (cond fit (Raises v nobody after) (Stops (NotProper (misfit ty.Val)) after))
        (cond fit (Raises v nobody (with_doings more after)) (Stops (NotProper (misfit ty.Val)) (with_doings more after)))
    by true = same_end (Raises v nobody (record w { memory = memory; asked = w.asked ++ call ∷ []; doings = doings }))
    by false = same_end (Stops (NotProper (misfit ty.Val)) (record w { memory = memory; asked = w.asked ++ call ∷ []; doings = doings }))

not_empty : (d : Doing) (more doings : List Doing) → doings ≡ [] → doings ++ d ∷ more ≢ []
not_empty d more doings e q = let r : doings ++ d ∷ more ≡ d ∷ more = ap (λ l. l ++ d ∷ more) e in let z : d ∷ more ≡ [] = sym r ∙ q in cc

outside_fewer : (end : ℕ) (more : List Doing) (frame : Bool) (call : Asked) (doings : List Doing) (w : World) → w.doings ≡ doings →
    Fewer more (done_outside end frame call doings w) (done_outside end frame call (doings ++ more) (with_doings more w))
outside_fewer end [] frame call [] w e = same_end (Stops (Asking call) w)
outside_fewer end (Gave v memory ∷ more) frame call [] w e = asks_here e (begins_same (w.asked ++ call ∷ []))
outside_fewer end (Threw v memory ∷ more) true call [] w e = by (fits end ty.Val v)
  where
    by : (fit : Bool) →
        let after : World = record (with_doings (Threw v memory ∷ more) w) { asked = w.asked ++ call ∷ []; doings = more } in
        Fewer (Threw v memory ∷ more) (Stops (Asking call) w) (cond fit (Raises v nobody after) (Stops (NotProper (misfit ty.Val)) after))
    by true = asks_here e (begins_same (w.asked ++ call ∷ []))
    by false = asks_here e (begins_same (w.asked ++ call ∷ []))
outside_fewer end (Threw v memory ∷ more) false call [] w e = refuses (not_empty (Threw v memory) more w.doings e)
outside_fewer end more frame call (Gave v memory ∷ doings) w e = same_end (Gives v nobody (record w { asked = w.asked ++ call ∷ []; doings = doings }))
outside_fewer end more true call (Threw v memory ∷ doings) w e = by (fits end ty.Val v)
  where
    by : (fit : Bool) →
        let after : World = record w { asked = w.asked ++ call ∷ []; doings = doings } in
        Fewer more (cond fit (Raises v nobody after) (Stops (NotProper (misfit ty.Val)) after))
        (cond fit (Raises v nobody (with_doings more after)) (Stops (NotProper (misfit ty.Val)) (with_doings more after)))
    by true = same_end (Raises v nobody (record w { asked = w.asked ++ call ∷ []; doings = doings }))
    by false = same_end (Stops (NotProper (misfit ty.Val)) (record w { asked = w.asked ++ call ∷ []; doings = doings }))
outside_fewer end more false call (Threw v memory ∷ doings) w e = same_end (Stops (NotProper BadCall) w)

spend_fewer : (more : List Doing) (n : ℕ) (w : World) (go : World → Evaluation) → ((v : World) → Fewer more (go v) (go (with_doings more v))) →
    Fewer more (spend n w go) (spend n (with_doings more w) go)
spend_fewer more zero w go same = same_end (Stops OutOfFuel w)
spend_fewer more (suc n) w go same = same (record w { left = n })

left_after : (go : Doing → World → Evaluation) → ((d : Doing) (v : World) → IsPrefixOf v.asked (world_of (go d v)).asked) →
    (more : List Doing) {e longer : Evaluation} →
    ((d : Doing) (v : World) → Fewer more (go d v) (go d (with_doings more v))) →
    Fewer more e longer → Fewer more (after_call go e) (after_call go longer)
left_after go on more same (same_end e) = by e
  where
    by : (e : Evaluation) → Fewer more (after_call go e) (after_call go (in_world (with_doings more) e))
    by (Gives v h w) = same (Gave v w.memory) w
    by (Exits label values h w) = same_end (Stops (NotProper BadCall) w)
    by (Raises v h w) = same (Threw v w.memory) w
    by (Stops why w) = same_end (Stops why w)
left_after go on more same (asks_here {call = call} {w = w} {e = e} none b) = asks_here none (after_asked w.asked call go on e b)
left_after go on more same (refuses n) = refuses n

-- ---- each doing that is taken is for a call that was asked

abbrev pub Counts : World → Evaluation → Type 0
Counts w e = length (world_of e).asked + length (world_of e).doings ≡ length w.asked + length w.doings

one_taken : (asked : List Asked) (call : Asked) (d : Doing) (doings : List Doing) →
    length (asked ++ call ∷ []) + length doings ≡ length asked + length (d ∷ doings)
one_taken asked call d doings = let e = length-append asked (call ∷ []) in omega (arith, e)

inside_counts : (end : ℕ) (call : Asked) (doings : List Doing) (w : World) → w.doings ≡ doings → Counts w (done_inside end call doings w)
inside_counts end call [] w e = refl
inside_counts end call (Gave v memory ∷ doings) w e = one_taken w.asked call (Gave v memory) doings
    ∙ ap (λ (l : List Doing). length w.asked + length l) (sym e)
inside_counts end call (Threw v memory ∷ doings) w e = by (fits end ty.Val v)
  where
    by : (fit : Bool) →
        let after : World = record w { memory = memory; asked = w.asked ++ call ∷ []; doings = doings } in
        Counts w (cond fit (Raises v nobody after) (Stops (NotProper (misfit ty.Val)) after))
    by true = one_taken w.asked call (Threw v memory) doings ∙ ap (λ (l : List Doing). length w.asked + length l) (sym e)
    by false = one_taken w.asked call (Threw v memory) doings ∙ ap (λ (l : List Doing). length w.asked + length l) (sym e)

outside_counts : (end : ℕ) (frame : Bool) (call : Asked) (doings : List Doing) (w : World) → w.doings ≡ doings →
    Counts w (done_outside end frame call doings w)
outside_counts end frame call [] w e = refl
outside_counts end frame call (Gave v memory ∷ doings) w e = one_taken w.asked call (Gave v memory) doings
    ∙ ap (λ (l : List Doing). length w.asked + length l) (sym e)
outside_counts end true call (Threw v memory ∷ doings) w e = by (fits end ty.Val v)
  where
    by : (fit : Bool) →
        let after : World = record w { asked = w.asked ++ call ∷ []; doings = doings } in
        Counts w (cond fit (Raises v nobody after) (Stops (NotProper (misfit ty.Val)) after))
    by true = one_taken w.asked call (Threw v memory) doings ∙ ap (λ (l : List Doing). length w.asked + length l) (sym e)
    by false = one_taken w.asked call (Threw v memory) doings ∙ ap (λ (l : List Doing). length w.asked + length l) (sym e)
outside_counts end false call (Threw v memory ∷ doings) w e = refl

after_counts : (w : World) (go : Doing → World → Evaluation) → ((d : Doing) (v : World) → Counts v (go d v)) → (e : Evaluation) → Counts w e →
    Counts w (after_call go e)
after_counts w go on (Gives v h u) b = on (Gave v u.memory) u ∙ b
after_counts w go on (Exits label values h u) b = b
after_counts w go on (Raises v h u) b = on (Threw v u.memory) u ∙ b
after_counts w go on (Stops why u) b = b

spend_counts : (n : ℕ) (w : World) (go : World → Evaluation) → ((v : World) → Counts v (go v)) → Counts w (spend n w go)
spend_counts zero w go on = refl
spend_counts (suc n) w go on = on (record w { left = n })

module _ (end : ℕ) (symbol : List ℕ → Option Value) (parameters : List (List Comp)) where
  played_begins : (d : Does) (v : World) → IsPrefixOf v.asked (world_of (played (lonely end symbol parameters) d v)).asked
  played_begins d v = (played_on end symbol parameters d v).asked

  pub played_fewer : (more : List Doing) (d : Does) (w : World) →
      Fewer more (played (lonely end symbol parameters) d w) (played (lonely end symbol parameters) d (with_doings more w))
  played_fewer more (Ends (Giving v h memory)) w = same_end (Gives v h (record w { memory = memory }))
  played_fewer more (Ends (Exiting label values h memory)) w = same_end (Exits label values h (record w { memory = memory }))
  played_fewer more (Ends (Raising v h memory)) w = same_end (Raises v h (record w { memory = memory }))
  played_fewer more (Pays memory rest) w =
      spend_fewer more w.left (record w { memory = memory }) (λ v. played (lonely end symbol parameters) rest v) (λ v. played_fewer more rest v)
  played_fewer more (Deepens bytes rest) w = played_fewer more rest (deepened bytes w)
  played_fewer more (Jumps rest) w = played_fewer more rest w
  played_fewer more (Calls call memory go) w =
      left_after (λ d v. played (lonely end symbol parameters) (go d) v) (λ d v. played_begins (go d) v) more (λ d v. played_fewer more (go d) v)
      (inside_fewer end more (asked_inside call memory) w.doings (record w { memory = memory }) refl)
  played_fewer more (CallsOut row frame arguments memory go) w =
      left_after (λ d v. played (lonely end symbol parameters) (go d) v) (λ d v. played_begins (go d) v) more (λ d v. played_fewer more (go d) v)
      (outside_fewer end more frame (asked_outside row frame arguments memory) w.doings (record w { memory = memory }) refl)
  played_fewer more (Fails memory kind) w = same_end (Stops (NotProper kind) (record w { memory = memory }))
  played_fewer more (Spent memory) w = same_end (Stops OutOfFuel (record w { memory = memory }))

  pub played_counts : (d : Does) (w : World) → Counts w (played (lonely end symbol parameters) d w)
  played_counts (Ends (Giving v h memory)) w = refl
  played_counts (Ends (Exiting label values h memory)) w = refl
  played_counts (Ends (Raising v h memory)) w = refl
  played_counts (Pays memory rest) w = spend_counts w.left (record w { memory = memory }) (λ v. played (lonely end symbol parameters) rest v)
      (λ v. played_counts rest v)
  played_counts (Deepens bytes rest) w = played_counts rest (deepened bytes w)
  played_counts (Jumps rest) w = played_counts rest w
  played_counts (Calls call memory go) w =
      after_counts w (λ d v. played (lonely end symbol parameters) (go d) v) (λ d v. played_counts (go d) v)
      (done_inside end (asked_inside call memory) w.doings (record w { memory = memory }))
      (inside_counts end (asked_inside call memory) w.doings (record w { memory = memory }) refl)
  played_counts (CallsOut row frame arguments memory go) w =
      after_counts w (λ d v. played (lonely end symbol parameters) (go d) v) (λ d v. played_counts (go d) v)
      (done_outside end frame (asked_outside row frame arguments memory) w.doings (record w { memory = memory }))
      (outside_counts end frame (asked_outside row frame arguments memory) w.doings (record w { memory = memory }) refl)
  played_counts (Fails memory kind) w = refl
  played_counts (Spent memory) w = refl

  module _ (frame : ℕ) (f : FunctionTree) (arguments : List Value) (below : ℕ) (memory : Memory) (n : ℕ) where
    abbrev d : Does
    d = function_does (record { end = end; symbol = symbol; parameters = parameters }) n frame f arguments below memory

    plays : (doings : List Doing) → played (lonely end symbol parameters) d (lone_world memory doings n) ≡ alone end symbol parameters frame f arguments
        below memory doings n
    plays doings = alone_plays end symbol parameters n frame f arguments below memory doings n (omega arith)

    -- One function alone, on some doings and on more after them.
    pub alone_fewer : (doings more : List Doing) →
        Fewer more (alone end symbol parameters frame f arguments below memory doings n)
        (alone end symbol parameters frame f arguments below memory (doings ++ more) n)
    alone_fewer doings more =
        subst (λ (e : Evaluation). Fewer more e (alone end symbol parameters frame f arguments below memory (doings ++ more) n)) (plays doings)
        (subst (λ (e : Evaluation). Fewer more (played (lonely end symbol parameters) d (lone_world memory doings n)) e) (plays (doings ++ more))
        (played_fewer more d (lone_world memory doings n)))

    pub alone_counts : (doings : List Doing) → Counts (lone_world memory doings n) (alone end symbol parameters frame f arguments below memory doings n)
    alone_counts doings =
        subst (λ (e : Evaluation). Counts (lone_world memory doings n) e) (plays doings) (played_counts d (lone_world memory doings n))
