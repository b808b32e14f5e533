use Rattle.std.proofs.Common.{ℕ, ◌+◌, ◌<◌, ◌≤◌, length, sym, subst}
use Rattle.std.specs.Prelude.{slice_index}
use Rattle.mach_ir.specs.Sizes.{number_limit}
use Rattle.split.specs.Names.{AreNames}
use Rattle.split.proofs.splitting.tables_of.Goals as goal

pub returns : goal.returns
returns c = λ formed placed.
    let reach = c.in_ok-rows.ensures formed placed in
    record {
      writes = c.in_ok-writes.ensures;
      reaching = reach;
      labels = c.in_ok-labels.labels.items;
      webs = c.in_ok-labels.ensures.webs reach;
      names = subst (λ ls. AreNames c.in_ok-writes.writes ls c.args.free c.in_ok-names.names.items) c.as_slice.ensures.value
          c.in_ok-names.ensures;
    }

pub names_of-requires-clause-least : goal.names_of-requires-clause-least
names_of-requires-clause-least c =
    subst (λ ls. (w : ℕ) → w < length ls → slice_index ls w ≤ w) (sym c.as_slice.ensures.value) c.in_ok-labels.ensures.least

pub names_of-requires-clause-room : goal.names_of-requires-clause-room
names_of-requires-clause-room c =
    subst (λ ws. c.args.free + length ws < number_limit) (sym c.in_ok-writes.ensures.all) c.requires.room
