use Rattle.std.proofs.Common.{◌∙◌, ◌++◌, ℕ, List, sym, ap, subst}
use Rattle.bs_words.specs.Contents.{contents}
use Rattle.spill.specs.Graphs.{AreMade}
use Rattle.spill.proofs.lost.lost_place.Goals as goal

pub returns : goal.returns
returns c =
    let rows = c.args.live.now.before.rows.items in
    record {
      next = c.from_vec.ensures ∙ c.in_ok-next.ensures ∙ c.as_slice.ensures;
      aside = c.new.ensures;
      reads = subst (AreMade rows c.args.after c.args.bound (contents c.args.place.now.writes) c.args.op.now) (sym c.from_vec-2.ensures)
          (subst (λ (ws : List ℕ). AreMade rows c.args.after c.args.bound ws c.args.op.now c.in_ok-reads.reads.items) c.as_slice-2.ensures
          c.in_ok-reads.ensures);
      writes = c.from_vec-3.ensures ∙ c.in_ok-writes.ensures ∙ ap (λ (xs : List ℕ). xs ++ c.as_slice-4.result.now) c.as_slice-3.ensures
          ∙ ap (λ (ys : List ℕ). contents c.args.place.now.reads ++ ys) c.as_slice-4.ensures;
    }
