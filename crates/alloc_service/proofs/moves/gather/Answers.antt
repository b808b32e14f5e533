use Rattle.std.proofs.Common.{◌≡◌, ℕ, suc, ◌+◌, ◌++◌, drop, ap, arith, ◌∙◌}
use Rattle.rv_machine.specs.Hart.{Placed}
use Rattle.rv_machine.specs.Moving.{rewritten_block}
use Rattle.alloc_service.specs.Forward.{forward, words_of_blocks}
use Rattle.alloc_service.proofs.Gathered.{one_block}
use Rattle.alloc_service.proofs.Steps.{step}
use Rattle.alloc_service.proofs.moves.gather.Goals as goal

pub loop-block-preserved : goal.loop-block-preserved
loop-block-preserved c =
    let inv = c.loop-block.invariant in
    let i = c.loop-block.block-index in
    let block : ℕ → ℕ → Placed = λ start words. record { start = start; words = words } in
    let same : block c.start.result c.words.result ≡ c.block-item.result =
    ap (λ s. block s c.words.result) c.start.ensures ∙ ap (λ w. block c.block-item.result.start w) c.words.ensures in
    let count : words_of_blocks (drop i c.args.blocks.now) ≡ suc c.block-item.result.words + words_of_blocks (drop (i + 1) c.args.blocks.now) =
    ap words_of_blocks (step c.args.blocks.now i c.block-item.result c.loop-block-test.true c.block-item.is) in
    record {
      gathered = one_block (forward c.args.table.now) c.args.memory.now c.args.blocks.now i c.block-item.result c.loop-block.words.items c.gather_block.new.words.items c.loop-block-test.true c.block-item.is
          (c.gather_block.ensures.gathered ∙ ap (λ b. c.loop-block.words.items ++ rewritten_block (forward c.args.table.now) c.args.memory.now b) same)
          ∙ inv.gathered;
      room = omega (arith, inv.room, c.gather_block.ensures.capacity, c.gather_block.ensures.len, count, c.words.ensures);
      kept = omega (arith, inv.kept, c.gather_block.ensures.capacity);
    }
