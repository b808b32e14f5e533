use Rattle.reg_rounds_rules.proofs.Kept.{still_within, still_room}
use Rattle.reg_rounds_rules.proofs.rounds_have_room.Goals as goal

pub returns-clause-size : goal.returns-clause-size
returns-clause-size c = λ alloc fresh rounds first m formed well low asked. still_within formed well low asked

pub returns-clause-room : goal.returns-clause-room
returns-clause-room c = λ alloc fresh rounds first m formed well low asked. still_room formed well low asked
