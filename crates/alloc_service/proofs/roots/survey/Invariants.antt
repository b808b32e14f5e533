use Rattle.std.proofs.Common.{◌≡◌, ◌&&◌, true, List, map, option_map}
use Rattle.bs_words.specs.Contents.{contents}
use Rattle.image_form.specs.Tables.{desc, tables}
use Rattle.rv_machine.specs.Frames.{Frame, frames_from, most_frames}
use Rattle.alloc_service.specs.Forward.{root_by, roots_by}
use Rattle.alloc_service.proofs.roots.survey.Given as goal

abbrev pub invariant-loop-most : goal.invariant-loop-most
invariant-loop-most l =
    option_map (roots_by (root_by (tables l.image) l.table) l.registers l.memory true)
    (frames_from (most_frames l.base) (map desc (contents l.image.descs)) l.base l.memory true l.initial.address l.sp)
    ≡ option_map (λ (fs : List Frame). l.fine && roots_by (root_by (tables l.image) l.table) l.registers l.memory l.first fs)
    (frames_from l.most (map desc (contents l.image.descs)) l.base l.memory l.first l.address l.at)

abbrev pub decreases-loop-most : goal.decreases-loop-most
decreases-loop-most l = l.most
