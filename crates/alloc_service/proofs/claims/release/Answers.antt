use Rattle.std.proofs.Common.{get_or, ap, ◌∙◌}
use Rattle.rv_machine.specs.Placement.{is_in_heap}
use Rattle.alloc_service.proofs.Apart.{all_at}
use Rattle.alloc_service.proofs.claims.release.Goals as goal

pub release_block-requires-clause-inside : goal.release_block-requires-clause-inside
release_block-requires-clause-inside c =
    ap (λ w. is_in_heap c.loop-k.table.heap (record { start = get_or c.args.starts.now c.loop-k.k 0; words = w })) c.words.ensures
    ∙ ap (λ heap. is_in_heap heap (record { start = get_or c.args.starts.now c.loop-k.k 0; words = c.index-blocks-k.result.words })) c.loop-k.invariant.same_heap
    ∙ all_at (is_in_heap c.args.heap) c.args.blocks.now c.args.starts.now c.loop-k.k c.index-blocks-k.result c.loop-k-test.true c.requires.lengths c.index-blocks-k.is c.requires.inside
