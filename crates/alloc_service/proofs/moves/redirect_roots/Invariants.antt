use Rattle.std.proofs.Common.{◌≡◌, ◌+◌, drop, map}
use Rattle.bs_words.specs.Contents.{contents}
use Rattle.alloc_service.specs.Forward.{forward, redirected_now}
use Rattle.bs_words.specs.Fits.{data_start}
use Rattle.alloc_service.proofs.moves.redirect_roots.Given as goal

abbrev pub invariant-loop-offset : goal.invariant-loop-offset
invariant-loop-offset l =
    redirected_now (forward l.table) l.memory (map (λ offset. data_start + offset) (drop l.offset-index l.offset-items))
    ≡ redirected_now (forward l.table) l.initial.memory (map (λ offset. data_start + offset) (contents l.image.roots))
