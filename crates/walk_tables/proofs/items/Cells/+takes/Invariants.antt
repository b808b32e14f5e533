use Rattle.walk_tables.proofs.items.Cells.+takes.Given as goal

abbrev pub decreases-takes : goal.decreases-takes
decreases-takes l = l.count
