use Rattle.cmm_walks.proofs.checked.check_addresses.Goals as goal

pub returns-clause-settled : goal.returns-clause-settled
returns-clause-settled c = rw c.file.ensures.same at c.in_ok-check_file.ensures.settled

pub invariant_of-result : goal.invariant_of-result
invariant_of-result c = rw c.file.ensures.same at c.in_ok-check_file.ensures.settled
