-- No run of a whole file asks for what a call does.
use Rattle.std.proofs.Common.{ℕ, zero, suc, Bool, List, Option, Some, None, subst, arith}
use Rattle.std.specs.Prelude.{slice_index, slice_get}
use Rattle.bs_words.specs.External.{External}
use Rattle.bs_words.specs.declared.types.Ret.{Ret}
use Rattle.bs_words.specs.declared.values.Kind.{Kind}
use Rattle.bs_words.specs.declared.values.Value.{Value}
use Rattle.bs_words.specs.Observed.{Made}
use Rattle.cmm_data.specs.Placement.{data_end}
use Rattle.cmm_tree.specs.Tree.{FunctionTree, FileTree, LabelTree, functions}
use Rattle.cmm_meaning.specs.Layout.{Layout}
use Rattle.cmm_meaning.specs.State.{Doing, Gave, Threw, Called, World, Here, deepened}
use Rattle.cmm_meaning.specs.Evaluation.{OutOfFuel, NotProper, NoAnswer, Evaluation, Gives, Exits, Raises, Stops, Surroundings, spend}
use Rattle.cmm_meaning.specs.Run.{activated, callees}
use Rattle.meaning_laws.specs.Does.{Does, Ends, Pays, Deepens, Jumps, Calls, CallsOut, Fails, Spent, Giving, Exiting, Raising, after_call, played}
use Rattle.cmm_meaning.specs.Setting.{setting_of}
use Rattle.meaning_laws.specs.Interaction.{function_does}
use Rattle.meaning_laws.specs.Fitting.{Answered, answered, answered_raise, unfit, unanswered}
use Rattle.meaning_laws.proofs.AgreementRuns.{function_plays, nested, nested_spending}
use Rattle.meaning_fuel.proofs.Depth.{Spending}
use Rattle.meaning_laws.proofs.LinksOutside.{outside_answers}

-- An evaluation ends, or stops for another reason than that it asks.
pub data AsksNothing : Evaluation → Type 0 where
  gives : {v : Option Value} {h : Here} {w : World} → AsksNothing (Gives v h w)
  exits : {label : LabelTree} {values : List Value} {h : Here} {w : World} → AsksNothing (Exits label values h w)
  raises : {v : Value} {h : Here} {w : World} → AsksNothing (Raises v h w)
  out_of_units : {w : World} → AsksNothing (Stops OutOfFuel w)
  improper : {kind : Kind} {w : World} → AsksNothing (Stops (NotProper kind) w)
  no_answer : {call : Made} {w : World} → AsksNothing (Stops (NoAnswer call) w)

answered_asks : {end : ℕ} {result : Ret} {frame : Bool} {w : World} {e : Evaluation} → Answered end result frame w e → AsksNothing e
answered_asks (answered h further answers a) = gives
answered_asks (answered_raise v h further answers fit) = raises
answered_asks (unfit kind further answers) = improper
answered_asks (unanswered call) = no_answer

asks_spend : (n : ℕ) (w : World) (go : World → Evaluation) → ((v : World) → AsksNothing (go v)) → AsksNothing (spend n w go)
asks_spend zero w go on = out_of_units
asks_spend (suc n) w go on = on (record w { left = n })

asks_after : (go : Doing → World → Evaluation) → ((d : Doing) (v : World) → AsksNothing (go d v)) → {e : Evaluation} → AsksNothing e →
    AsksNothing (after_call go e)
asks_after go on (gives {v = v} {w = w}) = on (Gave v w.memory) w
asks_after go on exits = improper
asks_after go on (raises {v = v} {w = w}) = on (Threw v w.memory) w
asks_after go on out_of_units = out_of_units
asks_after go on improper = improper
asks_after go on no_answer = no_answer

module _ (s : Surroundings)
    (inside : (call : Called) (w : World) → AsksNothing (s.call call w))
    (external : (row : External) (frame : Bool) (arguments : List Value) (w : World) → Answered s.end row.result frame w (s.external row frame arguments w)) where
  played_asks : (d : Does) (w : World) → AsksNothing (played s d w)
  played_asks (Ends (Giving v h memory)) w = gives
  played_asks (Ends (Exiting label values h memory)) w = exits
  played_asks (Ends (Raising v h memory)) w = raises
  played_asks (Pays memory rest) w = asks_spend w.left (record w { memory = memory }) (λ v. played s rest v) (λ v. played_asks rest v)
  played_asks (Deepens bytes rest) w = played_asks rest (deepened bytes w)
  played_asks (Jumps rest) w = played_asks rest w
  played_asks (Calls call memory go) w =
      asks_after (λ d v. played s (go d) v) (λ d v. played_asks (go d) v) (inside call (record w { memory = memory }))
  played_asks (CallsOut row frame arguments memory go) w =
      asks_after (λ d v. played s (go d) v) (λ d v. played_asks (go d) v)
      (answered_asks (external row frame arguments (record w { memory = memory })))
  played_asks (Fails memory kind) w = improper
  played_asks (Spent memory) w = out_of_units

activated_asks : (s : Surroundings) → Spending s → ((call : Called) (w : World) → AsksNothing (s.call call w)) →
    ((row : External) (frame : Bool) (arguments : List Value) (w : World) → Answered s.end row.result frame w (s.external row frame arguments w)) →
    (frame : ℕ) (o : Option FunctionTree) (arguments : List Value) (below : ℕ) (w : World) → AsksNothing (activated s frame o arguments below w)
activated_asks s spending inside external frame None arguments below w = improper
activated_asks s spending inside external frame (Some f) arguments below w =
    subst (λ (e : Evaluation). AsksNothing e) (function_plays s spending w.left frame f arguments below w (omega arith))
    (played_asks s inside external (function_does (setting_of s) w.left frame f arguments below w.memory) w)

-- No call in the run of a whole file asks.
pub callees_ask_nothing : (file : FileTree) (layout : Layout) (depth : ℕ) (call : Called) (w : World) →
    AsksNothing (callees file layout depth call w)
callees_ask_nothing file layout zero call w = out_of_units
callees_ask_nothing file layout (suc depth) call w =
    activated_asks (nested file layout depth) (nested_spending file layout depth) (callees_ask_nothing file layout depth) (outside_answers (data_end file) layout)
    (slice_index layout.frames call.function) (slice_get (functions file) call.function) call.arguments call.below w
