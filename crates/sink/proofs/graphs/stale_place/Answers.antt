use Rattle.std.proofs.Common.{ℕ, List, refl, sym, subst}
use Rattle.bs_words.specs.Contents.{contents}
use Rattle.sink.specs.Graphs.{AreOver}
use Rattle.sink.proofs.graphs.stale_place.Goals as goal

pub returns : goal.returns
returns c =
    let rows = c.args.live.now.before.rows.items in
    record {
      next = refl;
      aside = refl;
      reads = subst (AreOver rows c.args.after c.args.op.now (contents c.args.place.writes)) (sym c.from_vec.ensures)
          (subst (λ (ns : List ℕ). AreOver rows c.args.after c.args.op.now ns c.in_ok-over.over.items) c.as_slice.ensures c.in_ok-over.ensures);
      writes = refl;
    }
