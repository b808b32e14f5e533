-- What is handed in for the calls of a function in the run of a whole file, and what comes of that alone.
use Rattle.std.proofs.Common.{◌≡◌, ℕ, suc, Bool, true, List, Option, Some, None, map, refl, sym, subst, ◌∙◌}
use Rattle.std.proofs.lemmas.Option.{slice_get-map}
use Rattle.std.specs.Prelude.{slice_get, option_map}
use Rattle.bs_words.specs.External.{External}
use Rattle.bs_words.specs.declared.types.Comp.{Comp}
use Rattle.bs_words.specs.declared.values.Value.{Value}
use Rattle.cmm_data.specs.Placement.{data_end}
use Rattle.cmm_tree.specs.Tree.{FunctionTree, FileTree, functions, comps_of}
use Rattle.cmm_types.specs.Types.{body_type, result_of}
use Rattle.cmm_meaning.specs.Extends.{Extends}
use Rattle.cmm_meaning.specs.Layout.{Layout}
use Rattle.cmm_meaning.specs.State.{Doing, Called, Asked, asked_inside, asked_outside, World}
use Rattle.cmm_meaning.specs.Evaluation.{Evaluation, fit_parameters}
use Rattle.meaning_laws.specs.Fitting.{FitsCallee, GivesFit, gives_fit, RaisedFits, raised_fits, Answered, answered, answered_raise, CallsFitAndGrow}
use Rattle.meaning_laws.specs.Handed.{FoundCallee, IsHanded, function_gave, function_threw, outside_gave, outside_threw, AreHanded, none, more}
use Rattle.cmm_meaning.specs.Setting.{setting_of}
use Rattle.meaning_laws.specs.Links.{Call, OfFunction, OfOutside, asked_in, done_by, FitsCall, fits_function, CameBack, Came, asked_by, doing_of, CallsBetween, no_more, next, Linked}
use Rattle.meaning_laws.specs.Links as links
use Rattle.meaning_laws.specs.Units.{world_of, Later}
use Rattle.meaning_fuel.specs.Whole.{file_surroundings}
use Rattle.meaning_laws.proofs.Given.{callees_give}
use Rattle.meaning_laws.proofs.LinksWhole.{whole_calls_fit}

-- ---- the callee

callee_from : (file : FileTree) (f : ℕ) (arguments : List Value) (parameters : List Comp) → fit_parameters (data_end file) parameters arguments ≡ true →
    (o : Option FunctionTree) → slice_get (functions file) f ≡ o → option_map comps_of o ≡ Some parameters → FoundCallee file f arguments
callee_from file f arguments parameters fit None e m = absurd (cc)
callee_from file f arguments parameters fit (Some tree) e m =
    let same : comps_of tree ≡ parameters = cc in
    record { tree = tree; is = e; fit = subst (λ comps. fit_parameters (data_end file) comps arguments ≡ true) (sym same) fit }

-- The callee of a call whose arguments fit is a function of the file.
pub callee_of : (file : FileTree) (layout : Layout) (f : ℕ) (arguments : List Value) → FitsCallee (setting_of (file_surroundings file layout)) f arguments → FoundCallee file f arguments
callee_of file layout f arguments c =
    callee_from file f arguments c.parameters c.fit (slice_get (functions file) f) refl (sym (slice_get-map comps_of (functions file) f) ∙ c.callee)

-- ---- the calls of a whole run

function_handed : {file : FileTree} {call : Called} (callee : FoundCallee file call.function call.arguments) (before : World) {e : Evaluation} {d : Doing} {after : World} →
    CameBack e d after → Extends before.memory after.memory → GivesFit (data_end file) (result_of (body_type callee.tree)) e → RaisedFits (data_end file) e →
    IsHanded file (asked_inside call before.memory) d
function_handed callee before links.gave extends (gives_fit fit) raised = function_gave callee fit extends
function_handed callee before links.threw extends given (raised_fits fit) = function_threw fit extends

outside_handed : {file : FileTree} {row : External} {frame : Bool} {arguments : List Value} (before : World) {e : Evaluation} {d : Doing} {after : World} →
    CameBack e d after → Answered (data_end file) row.result frame before e → IsHanded file (asked_outside row frame arguments before.memory) d
outside_handed before links.gave (answered h further answers an) = outside_gave an
outside_handed before links.threw (answered_raise v h further answers fit) = outside_threw fit

module _ (file : FileTree) (layout : Layout) where
  call_handed : (call : Call) (before : World) {d : Doing} {after : World} → FitsCall (file_surroundings file layout) call →
      CameBack (done_by (file_surroundings file layout) call before) d after → Later before after → IsHanded file (asked_in before.memory call) d
  call_handed (OfFunction call) before (fits_function fits_it) came later =
      let r : CallsFitAndGrow (file_surroundings file layout) = whole_calls_fit file layout in
      let callee : FoundCallee file call.function call.arguments = callee_of file layout call.function call.arguments fits_it in
      function_handed callee before came later.onward.memory (callees_give file layout (suc before.left) call callee.tree before callee.is callee.fit) (r.fit call before)
  call_handed (OfOutside row frame arguments) before fit came later =
      let r : CallsFitAndGrow (file_surroundings file layout) = whole_calls_fit file layout in
      outside_handed before came (r.answers row frame arguments before)

  -- What the calls of a function did in the run of a whole file is what is handed in for them.
  pub called_handed : {bound : ℕ} {w v : World} {calls : List Came} → CallsBetween (file_surroundings file layout) bound w calls v →
      AreHanded file (map asked_by calls) (map doing_of calls)
  called_handed (no_more o) = none
  called_handed (next {c = c} o fewer fit did later rest) = more (call_handed c.call c.before fit did later) (called_handed rest)

  -- And so it is where a function runs alone beside the run of the whole file.
  pub linked_handed : {bound : ℕ} {alone : List Doing → ℕ → Evaluation} {w : World} {e : Evaluation} (l : Linked (file_surroundings file layout) bound alone w e) →
      AreHanded file (world_of l.run).asked (map doing_of l.calls)
  linked_handed l = subst (λ (calls : List Asked). AreHanded file calls (map doing_of l.calls)) (sym l.asked) (called_handed l.called)
