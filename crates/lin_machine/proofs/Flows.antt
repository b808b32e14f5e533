-- Labels, jumps, exits, branches and switches.
use Rattle.std.proofs.Common.{◌≡◌, ℕ, zero, suc, ◌≤◌, Bool, cond, List, [], ◌∷◌, length, slice_get, Option, Some, None, Result, Ok, Err, refl, arith, sym}
use Rattle.bs_words.specs.declared.values.Kind.{Kind}
use Rattle.mach_ir.specs.Acts.{Around, At, On, goes_by_test, goes_to_case}
use Rattle.mach_ir.specs.Runs.{ActivationSetting}
use Rattle.mach_ir.specs.declared.mach.Test.{Test}
use Rattle.rv_machine.specs.Hart.{Placed}
use Rattle.lin_ir.specs.Meaning.{Locations, NamedAt, after_label, code_at, on_act, step}
use Rattle.lin_ir.specs.declared.lin.Flow.TheVariants as flow
use Rattle.lin_ir.specs.declared.lin.LinOp.TheVariants as lin
use Rattle.lin_ir.specs.declared.lin.Lin.{Lin}
use Rattle.lin_ir.specs.declared.lin.Line.{Line}
use Rattle.lin_ir.specs.declared.lin.Spot.{Spot}
use Rattle.lin_machine.specs.Follows.{Agrees, FollowsStep, IsAt}
use Rattle.lin_machine.specs.Relation.{Below, Laid, Within}
use Rattle.lin_machine.specs.View.{Fixed, View, ReachesView}
use Rattle.lin_machine.proofs.Arriving.{leads_in}
use Rattle.lin_machine.proofs.Following.{agrees_on, lands_follows}
use Rattle.lin_machine.proofs.Steps.{stays}

module _ (s : Fixed) (laid : Laid) (live : List Line → Type 0) (entry : ℕ → ℕ) (c : Below) (place : ActivationSetting) (named : NamedAt) (code : Lin) (next : List Line)
    (v : View) (young : List Placed) (held file : Locations) (a : Around) (within : Within s laid v young 0 held a c) (before : Type 0)
    (agrees : Agrees before held file) where
  -- a label has no words
  pub label_follows : (l : ℕ) → laid.part (length next) ≡ v.place → (live next → before) →
      FollowsStep 0 s laid live entry c v (step place named code (record {
        rest = record { op = lin.Flow (flow.Label l); args = []; results = [] } ∷ next;
        file = file;
        around = a;
      }))
  label_follows l laid_next passes =
      lands_follows s laid live entry c v next 0 v young held file a (stays s v) (sym laid_next) (agrees_on before (live next) held file passes agrees) within

  -- where words lead to the place of a label
  pub record Lands (n : ℕ) (to : List Line) : Type 0 where
    pub view : View
    pub leads : ReachesView s n v view
    pub there : view.place ≡ laid.part (length to)
    pub stands : Within s laid view young 0 held a c
    pub passes : live to → before

  pub jump_follows : (l n : ℕ) → Lands n (after_label l code.code) →
      FollowsStep n s laid live entry c v (step place named code (record {
        rest = record { op = lin.Flow (flow.Jump l); args = []; results = [] } ∷ next;
        file = file;
        around = a;
      }))
  jump_follows l n lands =
      lands_follows s laid live entry c v (after_label l code.code) n lands.view young held file a lands.leads lands.there
      (agrees_on before (live (after_label l code.code)) held file lands.passes agrees) lands.stands

  -- an exit is a unit, and has an instruction
  pub exit_follows : (l n : ℕ) → 1 ≤ n → Lands n (after_label l code.code) →
      FollowsStep n s laid live entry c v (step place named code (record {
        rest = record { op = lin.Flow (flow.Exit l); args = []; results = [] } ∷ next;
        file = file;
        around = a;
      }))
  exit_follows l n some lands =
      leads_in 1 n s n some (omega arith) v lands.view (IsAt s laid live c (record { rest = after_label l code.code; file = file; around = a })) lands.leads
      (young, held, agrees_on before (live (after_label l code.code)) held file lands.passes agrees, record { place = lands.there; within = lands.stands })

  -- a test of these values, by its truth: to the label where it holds, else on
  pub branch_act : (t : Test) (l n : ℕ) (args : List Spot) (o : Option Bool) → ((b : Bool) → o ≡ Some b → Lands n (code_at code.code next (cond b (At l) On))) →
      FollowsStep n s laid live entry c v (on_act place code (record {
        op = lin.Flow (flow.Branch t l);
        args = args;
        results = [];
      }) next file a (goes_by_test a (At l) On o))
  branch_act t l n args None lands = tt
  branch_act t l n args (Some b) lands =
      let g = lands b refl in
      lands_follows s laid live entry c v (code_at code.code next (cond b (At l) On)) n g.view young held file a g.leads g.there
      (agrees_on before (live (code_at code.code next (cond b (At l) On))) held file g.passes agrees) g.stands

  -- a case of a switch, by its index
  pub switch_act : (labels : List ℕ) (n : ℕ) (all : List ℕ) (args : List Spot) (o : Result ℕ Kind) →
      ((k l : ℕ) → o ≡ Ok k → slice_get labels k ≡ Some l → Lands n (after_label l code.code)) →
      FollowsStep n s laid live entry c v (on_act place code (record {
        op = lin.Flow (flow.Switch all);
        args = args;
        results = [];
      }) next file a (goes_to_case a labels o))
  switch_act labels n all args (Err kind) lands = tt
  switch_act [] n all args (Ok k) lands = tt
  switch_act (l ∷ labels) n all args (Ok zero) lands =
      let g = lands 0 l refl refl in
      lands_follows s laid live entry c v (after_label l code.code) n g.view young held file a g.leads g.there
      (agrees_on before (live (after_label l code.code)) held file g.passes agrees) g.stands
  switch_act (l ∷ labels) n all args (Ok (suc k)) lands = switch_act labels n all args (Ok k)
      (λ j m e h. lands (suc j) m (let same : Ok j ≡ Ok k = sym e in cc) h)
