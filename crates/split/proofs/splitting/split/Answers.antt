use Rattle.liveness.proofs.Counting.{places_fit}
use Rattle.split.proofs.Grouping.{countable, writes_fit}
use Rattle.split.proofs.Named.{split_done}
use Rattle.split.proofs.splitting.split.Goals as goal

pub returns : goal.returns
returns c = λ formed placed.
    split_done c.args.mach c.first_free-free.result c.in_ok-tables.tables c.len-end.result c.in_ok-code.code formed placed
    c.first_free-free.ensures.above c.first_free-free.ensures.least (c.in_ok-tables.ensures formed placed) c.len-end.ensures c.in_ok-code.ensures

pub first_free-free-requires : goal.first_free-free-requires
first_free-free-requires c = record { countable = countable c.args.mach c.requires.room }

pub tables_of-requires-clause-fits : goal.tables_of-requires-clause-fits
tables_of-requires-clause-fits c = places_fit c.args.mach (countable c.args.mach c.requires.room)

pub tables_of-requires-clause-room : goal.tables_of-requires-clause-room
tables_of-requires-clause-room c = writes_fit c.args.mach c.first_free-free.result c.first_free-free.ensures.least c.requires.room
