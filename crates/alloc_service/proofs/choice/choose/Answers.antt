use Rattle.std.proofs.Common.{ℕ, ◌%◌, ◌++◌, List, length, ap, arith, ◌∙◌}
use Rattle.std.specs.List.{list_all}
use Rattle.rv_machine.specs.Placement.{is_in_heap, placed_at, spaced}
use Rattle.machine_laws.proofs.Packing.{length-spaced, packed_inside}
use Rattle.alloc_service.proofs.choice.choose.Goals as goal

pub returns-clause-lengths : goal.returns-clause-lengths
returns-clause-lengths c =
    ap (λ (xs : List ℕ). length xs) (c.add_spaced.ensures.filled ∙ ap (λ xs. xs ++ spaced 0 c.half_start.result c.args.blocks.now) c.clear.ensures.items)
    ∙ length-spaced 0 c.args.blocks.now c.half_start.result

pub returns-clause-inside : goal.returns-clause-inside
returns-clause-inside c =
    ap (λ xs. list_all (is_in_heap c.args.heap) (placed_at c.args.blocks.now xs)) (c.add_spaced.ensures.filled ∙ ap (λ xs. xs ++ spaced 0 c.half_start.result c.args.blocks.now) c.clear.ensures.items)
    ∙ packed_inside c.args.heap (c.args.number % 2) c.half_start.result c.args.blocks.now (omega arith) c.half_start.ensures.exact c.requires.fits
