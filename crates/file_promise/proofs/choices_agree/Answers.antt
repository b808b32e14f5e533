use Rattle.std.proofs.Common.{length}
use Rattle.cmm_meaning.specs.Run.{cmm_run}
use Rattle.correctness.specs.Setting.{layout_of}
use Rattle.layout_laws.proofs.Runs.{runs_alike}
use Rattle.rv_machine.specs.Run.{machine_run}
use Rattle.file_promise.proofs.Agree.{agree}
use Rattle.file_promise.proofs.Promise.{made_correct}
use Rattle.file_promise.proofs.choices_agree.Goals as goal

pub returns : goal.returns
returns c =
    λ one two text file is bytes image other tables other_tables made other_made stack heap is_stack is_heap entry f row other_row args answers schedule other_schedule entered other_entered.
    agree (layout_of image) (layout_of other) (cmm_run file (layout_of image) entry args answers) (cmm_run file (layout_of other) entry args answers)
    (machine_run image row args answers stack heap schedule) (machine_run other other_row args answers stack heap other_schedule) stack heap
    (length image.code) (length other.code) (runs_alike (layout_of image) (layout_of other) file entry args answers)
    ((made_correct text file is image made bytes tables stack heap is_stack is_heap).forwards entry f row args answers schedule entered)
    ((made_correct text file is other other_made bytes other_tables stack heap is_stack is_heap).forwards entry f other_row args answers other_schedule other_entered)
