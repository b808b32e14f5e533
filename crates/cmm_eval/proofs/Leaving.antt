-- What a catch makes of an exit.
use Rattle.std.proofs.Common.{◌≡◌, ◌≢◌, ◌∙◌, ℕ, zero, suc, ◌-◌, Bool, true, List, Option, Some, None, map, refl, ap, sym, arith}
use Rattle.bs_words.specs.declared.values.Kind.{Kind}
use Rattle.bs_words.specs.declared.values.Value.{Value}
use Rattle.cmm_tree.specs.Tree.{LabelTree}
use Rattle.cmm_tree.specs.View.{params_view}
use Rattle.cmm_tree.specs.declared.expr.Form.{Form}
use Rattle.cmm_tree.specs.declared.expr.Handler.{Handler}
use Rattle.cmm_meaning.specs.State.{World, Here, back_in}
use Rattle.cmm_meaning.specs.Evaluation.{Body, NotProper, Stop, Evaluation, Exits, Stops, Surroundings, entered, scoped_parameter, with_bound, back, handled, caught}
use Rattle.cmm_meaning.specs.Choices.{Ready, ready_for}
use Rattle.eval_frames.specs.Filled.{evaluated_expression, ready_handlers, handler_ready, does}
use Rattle.eval_frames.specs.declared.frame.Step.TheVariants as step

pub none_of : {A : Type 0} (o : Option A) → ((a : A) → o ≡ Some a → ⊥) → o ≡ None
none_of None h = refl
none_of (Some a) h = absurd (h a refl)

caught_stops : (end turns : ℕ) (within : Bool) (handlers : List (Ready Body)) (level tries : ℕ) (why : Stop) (w : World) →
    caught end turns within handlers level tries (Stops why w) ≡ Stops why w
caught_stops end zero within handlers level tries why w = refl
caught_stops end (suc turns) within handlers level tries why w = refl

-- no exit is handled any more
pub no_turn : (s : Surroundings) (f : Form) (tail within : Bool) (turns level tries : ℕ) (label : LabelTree) (values : List Value) (h : Here) (w : World) →
    turns ≡ 0 → Exits label values h w ≡ does s (step.Catch within turns level tries) f tail (Exits label values h w)
no_turn s f tail within zero level tries label values h w e = refl
no_turn s f tail within (suc turns) level tries label values h w e = absurd (omega arith)

leaves_by : (s : Surroundings) (f : Form) (tail within : Bool) (turns level tries : ℕ) (label : LabelTree) (values : List Value) (h : Here) (w : World) →
    turns ≢ 0 → (o : Option (Ready Body)) → ready_for within label (ready_handlers s f tail) ≡ o →
    does s (step.Catch within turns level tries) f tail (Exits label values h w)
    ≡ handled s.end o label values level tries h w (caught s.end (turns - 1) true (ready_handlers s f tail) level tries)
leaves_by s f tail within zero level tries label values h w some o e = absurd (some refl)
leaves_by s f tail within (suc n) level tries label values h w some o e =
    let less : n ≡ suc n - 1 = omega arith in
    ap (λ o. handled s.end o label values level tries h w (caught s.end n true (ready_handlers s f tail) level tries)) e
    ∙ ap (λ k. handled s.end o label values level tries h w (caught s.end k true (ready_handlers s f tail) level tries)) less

module _ (s : Surroundings) (f : Form) (tail within : Bool) (turns level tries : ℕ) (label : LabelTree) (values : List Value) (h : Here) (w : World)
    (some : turns ≢ 0) where
  -- the label has no handler here
  pub no_handler : ready_for within label (ready_handlers s f tail) ≡ None →
      Exits label values h w ≡ does s (step.Catch within turns level tries) f tail (Exits label values h w)
  no_handler e = sym (leaves_by s f tail within turns level tries label values h w some None e)

  -- a value does not fit the handler's parameter
  pub misfits : (x : Handler) (kind : Kind) → ready_for within label (ready_handlers s f tail) ≡ Some (handler_ready s tail x) →
      ((go : Evaluation) → Stops (NotProper kind) w ≡ entered s.end (params_view x.params.items) values w go) →
      Stops (NotProper kind) w ≡ does s (step.Catch within turns level tries) f tail (Exits label values h w)
  misfits x kind e enters =
      let again : Evaluation → Evaluation = caught s.end (turns - 1) true (ready_handlers s f tail) level tries in
      sym (leaves_by s f tail within turns level tries label values h w some (Some (handler_ready s tail x)) e
      ∙ ap again (sym (enters (back level tries (evaluated_expression s x.body tail (with_bound (map scoped_parameter (params_view x.params.items)) values (back_in level tries h)) w))))
      ∙ caught_stops s.end (turns - 1) true (ready_handlers s f tail) level tries (NotProper kind) w)

  -- the handler begins
  pub handler_begins : (x : Handler) → ready_for within label (ready_handlers s f tail) ≡ Some (handler_ready s tail x) →
      ((go : Evaluation) → go ≡ entered s.end (params_view x.params.items) values w go) →
      caught s.end (turns - 1) true (ready_handlers s f tail) level tries
      (back level tries (evaluated_expression s x.body tail (with_bound (map scoped_parameter (params_view x.params.items)) values (back_in level tries h)) w))
      ≡ does s (step.Catch within turns level tries) f tail (Exits label values h w)
  handler_begins x e enters =
      let again : Evaluation → Evaluation = caught s.end (turns - 1) true (ready_handlers s f tail) level tries in
      ap again (enters (back level tries (evaluated_expression s x.body tail (with_bound (map scoped_parameter (params_view x.params.items)) values (back_in level tries h)) w)))
      ∙ sym (leaves_by s f tail within turns level tries label values h w some (Some (handler_ready s tail x)) e)
