use Rattle.linscan.proofs.Keyed.{places_put}
use Rattle.linscan.proofs.places.put.Goals as goal

pub returns-clause-places : goal.returns-clause-places
returns-clause-places c = places_put c.args.places.now.items c.args.number c.args.place c.requires
