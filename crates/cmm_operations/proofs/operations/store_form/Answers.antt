use Rattle.std.proofs.lemmas.Result.{err_from_is_err_and}
use Rattle.cmm_parts.specs.Results.{trees}
use Rattle.cmm_nodes.specs.declared.stop.Stop.TheVariants.{Unexpected}
use Rattle.cmm_operations.proofs.Chunks.{store-read, store-fails}
use Rattle.cmm_operations.proofs.operations.store_form.Goals as goal

pub returns-in_err-chunk : goal.returns-in_err-chunk
returns-in_err-chunk g c =
    let p = err_from_is_err_and c.from_residual.result c.from_residual.ensures.1 in
    rw (p.1, p.2) (store-fails c.args.at c.args.depth (trees c.args.source.now c.args.tokens.now) (Unexpected c.in_err-chunk.field-0.0.left) c.in_err-chunk.ensures)

pub returns : goal.returns
returns g c = rw (store-read c.args.at c.args.depth _ _ _ c.in_ok-chunk.ensures) c.store_rest.ensures
