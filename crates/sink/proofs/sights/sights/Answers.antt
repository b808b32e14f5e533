use Rattle.std.proofs.Common.{◌<◌, ℕ, List, length, sym, subst}
use Rattle.std.specs.List.{All}
use Rattle.bs_words.specs.Contents.{contents}
use Rattle.dataflow.specs.Flow.{IsPlace}
use Rattle.sink.proofs.sights.sights.Goals as goal

pub note-requires : goal.note-requires
note-requires c =
    let f = c.args.flow.now in
    let x = c.index.result.now in
    let fits : IsPlace (length (contents f.places)) f.bound x =
    subst (IsPlace (length (contents f.places)) f.bound) (sym c.index.ensures)
    (c.requires c.loop-place.place x (subst (λ (e : ℕ). c.loop-place.place < e) c.len-place-end.ensures c.loop-place-test.true)) in
    subst (λ (b : ℕ). All (λ n. n < b) c.as_slice.result.now) (sym c.loop-place.invariant.len)
    (subst (λ (ns : List ℕ). All (λ n. n < f.bound) ns) (sym c.as_slice.ensures) fits.writes)
