use Rattle.std.proofs.Common.{◌≡◌, ℕ, ◌+◌, List, ◌++◌, ap, ◌∙◌, sym, refl, None, Some, Option, option_map, length, reverse}
use Rattle.std.proofs.lemmas.List.{append-nil}
use Rattle.rv_machine.specs.Memory.{Region}
use Rattle.rv_machine.specs.Hart.{Hart, Placed, register}
use Rattle.rv_machine.specs.Observation.{all_blocks, blocks_or, young_blocks, or_none, serial_from}
use Rattle.rv_machine.proofs.Young.{in_table, among_young}
use Rattle.rv_machine.proofs.machine.Machine.serial_of.Goals as goal

-- the young blocks that were walked over are the machine's
young_of : (o : Option ℕ) (memory memory' : List Region) (from from' a : ℕ) → o ≡ serial_from 0 (reverse (or_none (young_blocks memory from))) a
    → memory ≡ memory' → from ≡ from' → o ≡ serial_from 0 (reverse (or_none (young_blocks memory' from'))) a
young_of o memory memory' from from' a h e f =
    h ∙ ap (λ (m : List Region). serial_from 0 (reverse (or_none (young_blocks m from))) a) e
    ∙ ap (λ (x : ℕ). serial_from 0 (reverse (or_none (young_blocks memory' x))) a) f

-- the blocks of the table, and those that the young area has
blocks_are : (table : List Placed) (found : Option (List Placed)) → blocks_or table (option_map (λ young. table ++ reverse young) found) ≡ table ++ reverse (or_none found)
blocks_are table None = sym (append-nil table)
blocks_are table (Some young) = refl

all_are : (h : Hart) (a : ℕ) → serial_from 0 (all_blocks h) a ≡ serial_from 0 (h.blocks ++ reverse (or_none (young_blocks h.memory (register h 26)))) a
all_are h a = ap (λ bs. serial_from 0 bs a) (blocks_are h.blocks (young_blocks h.memory (register h 26)))

pub returns-in-Some : goal.returns-in-Some
returns-in-Some c =
    in_table c.in-Some.serial c.blocks-table.result.now c.args.self.now.blocks (reverse (or_none (young_blocks c.args.self.now.memory (register c.args.self.now 26)))) c.args.address c.blocks-table.ensures c.in-Some.ensures
    ∙ sym (all_are c.args.self.now c.args.address)

pub returns-in_err-serial-in-None : goal.returns-in_err-serial-in-None
returns-in_err-serial-in-None c =
    c.from_residual.ensures
    ∙ among_young c.blocks-table.result.now c.args.self.now.blocks (reverse (or_none (young_blocks c.args.self.now.memory (register c.args.self.now 26)))) c.args.address None
    c.blocks-table.ensures c.in-None.ensures
    (young_of None c.memory.result.now c.args.self.now.memory c.register.result (register c.args.self.now 26) c.args.address c.in_err-serial-in-None.ensures.exact c.memory.ensures c.register.ensures)
    ∙ sym (all_are c.args.self.now c.args.address)

pub returns-in_ok-serial-in-None : goal.returns-in_ok-serial-in-None
returns-in_ok-serial-in-None c =
    ap (λ (bs : List Placed). Some (length bs + c.in_ok-serial-in-None.serial)) c.blocks-table.ensures
    ∙ among_young c.blocks-table.result.now c.args.self.now.blocks (reverse (or_none (young_blocks c.args.self.now.memory (register c.args.self.now 26)))) c.args.address (Some c.in_ok-serial-in-None.serial)
    c.blocks-table.ensures c.in-None.ensures
    (young_of (Some c.in_ok-serial-in-None.serial) c.memory.result.now c.args.self.now.memory c.register.result (register c.args.self.now 26) c.args.address c.in_ok-serial-in-None.ensures.exact c.memory.ensures c.register.ensures)
    ∙ sym (all_are c.args.self.now c.args.address)
