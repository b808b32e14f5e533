use Rattle.std.proofs.Common.{◌∙◌}
use Rattle.spill.proofs.wanted.wanted_place.Goals as goal

pub returns : goal.returns
returns c =
    record {
      next = c.from_vec.ensures ∙ c.in_ok-next.ensures ∙ c.as_slice.ensures;
      aside = c.from_vec-2.ensures ∙ c.in_ok-aside.ensures ∙ c.as_slice-2.ensures;
      reads = c.from_vec-3.ensures ∙ c.in_ok-reads.ensures;
      writes = c.from_vec-4.ensures ∙ c.in_ok-writes.ensures ∙ c.as_slice-3.ensures;
    }
