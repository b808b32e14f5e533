use Rattle.std.proofs.Common.{◌∙◌, sym, ap, map, []}
use Rattle.std.specs.List.{sum}
use Rattle.bs_words.specs.Fits.{data_start}
use Rattle.bs_words.specs.Memory.{block_bytes, end_of_statics}
use Rattle.cmm_values.proofs.Needs.{need_kept, end_kept}
use Rattle.cmm_values.specs.Views.{block_view, list_view}
use Rattle.cmm_values.proofs.memory.Memory.set.Goals as goal

pub invariant_of-self : goal.invariant_of-self
invariant_of-self c =
    record {
      need =
          c.self.invariant.need
          ∙ sym (ap (λ bs. sum (map block_bytes bs)) c.put_in_block.ensures
          ∙ need_kept (map block_view c.self.inside.blocks.items) _ _ _ (record { header = 0; cells = [] }));
      end = c.self.invariant.end;
    }

pub invariant_of-self-in-Static : goal.invariant_of-self-in-Static
invariant_of-self-in-Static c =
    record {
      need = c.self.invariant.need;
      end =
          c.self.invariant.end
          ∙ sym (ap (end_of_statics data_start) c.put_in_list.ensures
          ∙ end_kept data_start (map list_view c.self.inside.statics.items) _ _ _ (record { start = 0; size = 0; cells = [] }));
    }
