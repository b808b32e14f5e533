use Rattle.colouring_rules.proofs.Rest.{rest_pass, rest_placed, rest_size, rest_slots}
use Rattle.colouring_rules.proofs.the_rest_is_kept.Goals as goal

pub returns : goal.returns
returns c = λ m formed well.
    record {
      pass = rest_pass m formed well;
      placed = rest_placed m formed well;
      size = rest_size m formed well;
      slots = rest_slots m formed well;
    }
