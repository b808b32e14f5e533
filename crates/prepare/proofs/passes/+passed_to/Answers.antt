use Rattle.std.proofs.Common.{refl, sym, subst}
use Rattle.std.proofs.lemmas.Result.{IfOk-weaker}
use Rattle.prepare_rules.proofs.Room.{cut_countable, sunk_room}
use Rattle.prepare_rules.proofs.Whole.{propagate_cut, repeat_cut, hoist_cut, combined_cut, repeated_cut, dropped_cut, cut_own}
use Rattle.prepare_rules.specs.Stages.{IsPassedTo, selects, combines, commons, drops}
use Rattle.stages.specs.declared.stage.Stage.{Stage}
use Rattle.prepare.proofs.Stages.{is_last, spill_passed, split_passed, split_room}
use Rattle.prepare.proofs.passes.+passed_to.Goals as goal

pub propagate-requires : goal.propagate-requires
propagate-requires t c = record { formed = (combined_cut c.requires.preparable c.in_ok-combined-in-Cse.ensures).pass.formed }

pub cse-requires : goal.cse-requires
cse-requires t c = record { formed = (propagate_cut c.requires.preparable (combined_cut c.requires.preparable c.in_ok-combined-in-Cse.ensures) c.in_ok-read-in-Cse.ensures).pass.formed }

pub propagate-requires-in-Cse : goal.propagate-requires-in-Cse
propagate-requires-in-Cse t c =
    record {
      formed =
          (repeat_cut c.requires.preparable
          (propagate_cut c.requires.preparable (combined_cut c.requires.preparable c.in_ok-combined-in-Cse.ensures) c.in_ok-read-in-Cse.ensures) c.in_ok-common-in-Cse.ensures).pass.formed;
    }

pub cse-requires-in-Cse : goal.cse-requires-in-Cse
cse-requires-in-Cse t c =
    record {
      formed =
          (propagate_cut c.requires.preparable
          (repeat_cut c.requires.preparable
          (propagate_cut c.requires.preparable (combined_cut c.requires.preparable c.in_ok-combined-in-Cse.ensures) c.in_ok-read-in-Cse.ensures) c.in_ok-common-in-Cse.ensures)
          c.in_ok-again-in-Cse.ensures).pass.formed;
    }

pub drop_dead-requires : goal.drop_dead-requires
drop_dead-requires t c =
    record {
      countable = cut_countable c.args.mach c.requires.preparable c.requires.room (repeated_cut c.requires.preparable c.in_ok-repeated-in-Dead.ensures);
    }

pub hoist-requires : goal.hoist-requires
hoist-requires t c =
    let cut = dropped_cut c.requires.preparable c.in_ok-dropped-in-Spill.ensures in
    record { formed = cut.pass.formed; origins = cut_own c.requires.preparable cut }

pub sink-requires : goal.sink-requires
sink-requires t c =
    let cut = hoist_cut c.requires.preparable (dropped_cut c.requires.preparable c.in_ok-dropped-in-Spill.ensures) c.in_ok-hoisted-in-Spill.ensures in
    record { formed = cut.pass.formed; countable = cut_countable c.args.mach c.requires.preparable c.requires.room cut }

pub spill-requires : goal.spill-requires
spill-requires t c =
    record {
      room =
          sunk_room c.args.mach c.requires.preparable c.requires.room
          (hoist_cut c.requires.preparable (dropped_cut c.requires.preparable c.in_ok-dropped-in-Spill.ensures) c.in_ok-hoisted-in-Spill.ensures) c.in_ok-sunk-in-Spill.ensures;
    }

pub split-requires : goal.split-requires
split-requires t c = record { room = split_room c.args.mach c.requires.preparable c.requires.room c.in_ok-spilled-in_default.ensures }

pub returns-in-Select : goal.returns-in-Select
returns-in-Select t c = subst (λ (s : Stage). IsPassedTo c.args.mach s c.args.mach) (sym c.in-Select.is) (selects refl)

pub returns-in-CombAlloc : goal.returns-in-CombAlloc
returns-in-CombAlloc t c =
    IfOk-weaker c.combine.result _ _ (λ q made. subst (λ (s : Stage). IsPassedTo c.args.mach s q) (sym c.in-CombAlloc.is) (combines made)) c.combine.ensures

pub returns-in_ok-again-in-Cse : goal.returns-in_ok-again-in-Cse
returns-in_ok-again-in-Cse t c =
    IfOk-weaker c.cse-in-Cse.result _ _
    (λ q made.
    subst (λ (s : Stage). IsPassedTo c.args.mach s q) (sym c.in-Cse.is)
    (commons c.in_ok-combined-in-Cse.ensures c.in_ok-read-in-Cse.ensures c.in_ok-common-in-Cse.ensures c.in_ok-again-in-Cse.ensures made))
    c.cse-in-Cse.ensures

pub returns-in_ok-repeated-in-Dead : goal.returns-in_ok-repeated-in-Dead
returns-in_ok-repeated-in-Dead t c =
    IfOk-weaker c.drop_dead.result _ _
    (λ q made. subst (λ (s : Stage). IsPassedTo c.args.mach s q) (sym c.in-Dead.is) (drops c.in_ok-repeated-in-Dead.ensures made))
    c.drop_dead.ensures

pub returns-in_ok-sunk-in-Spill : goal.returns-in_ok-sunk-in-Spill
returns-in_ok-sunk-in-Spill t c =
    IfOk-weaker c.spill.result _ _
    (λ q made.
    subst (λ (s : Stage). IsPassedTo c.args.mach s q) (sym c.in-Spill.is)
    (spill_passed c.requires.preparable c.in_ok-dropped-in-Spill.ensures c.in_ok-hoisted-in-Spill.ensures c.in_ok-sunk-in-Spill.ensures made))
    c.spill.ensures.spilled

pub returns-in_ok-spilled-in_default : goal.returns-in_ok-spilled-in_default
returns-in_ok-spilled-in_default t c =
    IfOk-weaker c.split.result _ _
    (λ q made.
    subst (λ (s : Stage). IsPassedTo c.args.mach s q)
    (sym (is_last c.args.stage c.requires.over_mach c.in_default.not-Select c.in_default.not-CombAlloc c.in_default.not-Cse c.in_default.not-Dead c.in_default.not-Spill))
    (split_passed c.requires.preparable c.in_ok-spilled-in_default.ensures made))
    c.split.ensures
