use Rattle.std.proofs.Common.{◌≡◌, length, drop, replicate}
use Rattle.bs_words.specs.Contents.{contents}
use Rattle.sink.specs.Sights.{noted_places}
use Rattle.sink.specs.declared.sights.Sight.TheVariants.{Unseen}
use Rattle.sink.proofs.sights.sights.Given as goal

abbrev pub invariant-loop-place : goal.invariant-loop-place
invariant-loop-place l =
    record {
      len : length l.made.items ≡ l.flow.bound;
      noted : noted_places l.fresh.rows.items l.place (drop l.place (contents l.flow.places)) l.made.items
          ≡ noted_places l.fresh.rows.items 0 (contents l.flow.places) (replicate l.flow.bound Unseen);
    }
