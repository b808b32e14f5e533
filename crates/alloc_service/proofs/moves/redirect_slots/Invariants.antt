use Rattle.std.proofs.Common.{◌^◌, ◌<◌, Bool, map}
use Rattle.bs_words.specs.Contents.{contents}
use Rattle.image_form.specs.Tables.{desc}
use Rattle.alloc_service.specs.Forward.{forward}
use Rattle.alloc_service.proofs.Walking.{Walks}
use Rattle.alloc_service.proofs.moves.redirect_slots.Given as goal

abbrev pub invariant-loop-most : goal.invariant-loop-most
invariant-loop-most l = (first : Bool) × Walks (forward l.table) (map desc (contents l.image.descs)) l.base l.initial.memory l.memory l.initial.address l.sp l.most first l.address l.at × (l.at < 2 ^ 64)

abbrev pub decreases-loop-most : goal.decreases-loop-most
decreases-loop-most l = l.most
