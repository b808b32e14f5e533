use Rattle.std.proofs.Common.{◌≡◌, ℕ, ◌+◌, ◌-◌, ◌++◌, List, reverse, refl, ap, arith, ◌∙◌}
use Rattle.rv_machine.specs.Hart.{Placed}
use Rattle.rv_machine.specs.Placement.{bytes_used}
use Rattle.machine_laws.proofs.Chain.{IsChain, bytes-append, bytes-reverse, count_bound, young_chain, young_cells}
use Rattle.alloc_service.proofs.young.take_young.Goals as goal

all_bytes : (old found : List Placed) (from : ℕ) → IsChain from found → bytes_used (old ++ reverse found) ≡ bytes_used old + (0x38010000 - from)
all_bytes old found from chain =
    let b : from + bytes_used found ≡ 0x38010000 = chain.bytes in
    let r : bytes_used old + bytes_used (reverse found) ≡ bytes_used old + (0x38010000 - from) = omega (arith, b, bytes-reverse found) in
    bytes-append old (reverse found) ∙ r

pub returns-then-bytes_used-from-clause-taken : goal.returns-then-bytes_used-from-clause-taken
returns-then-bytes_used-from-clause-taken c =
    let found = c.read_young.new.young.items in
    let chain = young_chain c.args.memory.now c.args.from found c.if-not-read_young.ensures.exact in
    let used = c.bytes_used.ensures ∙ ap bytes_used c.deref.ensures.value in
    (found, c.if-not-read_young.ensures.exact, omega (arith, used, all_bytes c.args.blocks.now.items found c.args.from chain), refl)

pub enter-requires : goal.enter-requires
enter-requires c =
    let found = c.read_young.new.young.items in
    let chain = young_chain c.args.memory.now c.args.from found c.if-not-read_young.ensures.exact in
    let used = c.bytes_used.ensures ∙ ap bytes_used c.deref.ensures.value in
    let b : c.args.from + bytes_used found ≡ 0x38010000 = chain.bytes in
    omega (arith, used, b, count_bound found (young_cells found chain.each), count_bound c.args.blocks.now.items c.requires.some, c.requires.table)

pub returns-clause-taken : goal.returns-clause-taken
returns-clause-taken c =
    let found = c.read_young.new.young.items in
    let chain = young_chain c.args.memory.now c.args.from found c.if-not-read_young.ensures.exact in
    let used = c.bytes_used.ensures ∙ ap bytes_used c.deref.ensures.value in
    (found, c.if-not-read_young.ensures.exact, c.enter.ensures.entered, omega (arith, ap bytes_used c.enter.ensures.entered, used, all_bytes c.args.blocks.now.items found c.args.from chain))
