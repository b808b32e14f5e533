use Rattle.std.proofs.Common.{◌≡◌, length, drop}
use Rattle.dataflow.specs.Rows.{set_in_row}
use Rattle.sink.specs.Sights.{noted_numbers}
use Rattle.sink.proofs.sights.note.Given as goal

abbrev pub invariant-loop-number : goal.invariant-loop-number
invariant-loop-number l =
    record {
      len : length l.sights.items ≡ length l.initial.sights.items;
      noted : noted_numbers (set_in_row l.fresh.rows.items l.place) l.place (drop l.number-index l.numbers) l.sights.items
          ≡ noted_numbers (set_in_row l.fresh.rows.items l.place) l.place l.numbers l.initial.sights.items;
    }
