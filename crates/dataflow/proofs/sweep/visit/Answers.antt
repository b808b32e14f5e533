use Rattle.std.proofs.Common.{arith, ap, length, ◌∙◌}
use Rattle.dataflow.proofs.Visits.{is_place, back_members, visited}
use Rattle.dataflow.proofs.sweep.visit.Goals as goal

pub flow_back-requires-clause-place : goal.flow_back-requires-clause-place
flow_back-requires-clause-place c =
    is_place c.args.flow.now _ _ c.args.p _ c.requires.flow (ap length c.deref.ensures.value ∙ c.requires.len) c.requires.size (omega (arith, ap length c.deref.ensures.value, c.requires.within)) c.index.ensures

pub returns-clause-visited : goal.returns-clause-visited
returns-clause-visited c =
    visited c.args.flow.now _ c.args.p c.flow_back.new.set _ _ _ record {
      within = c.requires.within;
      sizes = c.requires.sizes;
      size = c.flow_back.ensures.size ∙ c.requires.size;
      members = back_members c.args.flow.now _ _ c.args.p _ _ (omega (arith, c.requires.len, c.requires.within)) c.index.ensures c.deref.ensures.value c.flow_back.ensures.members;
      read = c.index_mut.ensures.value;
      all = c.union_with.ensures.all;
      grew_is = c.union_with.ensures.grew;
    }
